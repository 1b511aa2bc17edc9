-- Terms by their forms: what the walk reads of each, by what it reads of the parts.
use Rattle.std.proofs.Common.{◌==◌, ◌≡◌, refl, sym, ap, ◌∙◌, subst, ℕ, zero, suc, ◌+◌, ◌-◌, ◌<◌, ◌≤◌, Bool, true, false, ◌||◌, ◌&&◌, List, [], ◌∷◌, ◌++◌, length, map, get_or, take, drop, Result, Ok, Err, arith, append_assoc}
use Rattle.std.specs.Prelude.{nat_le}
use Rattle.std.proofs.lemmas.List.{map-append, take_more}
use Rattle.std.proofs.Math.Seq.{take-append_seam}
use Rattle.std.proofs.lemmas.Bool.Decides.{nat_tests}
use Rattle.std.proofs.lemmas.Grind.{common_steps}
use Rattle.sexpr_reader.specs.declared.kind.TokenKind.{TokenKind}
use Rattle.sexpr_reader.specs.declared.sexpr.Sexpr.{Sexpr}
use Rattle.sexpr_reader.specs.declared.sexpr.Sexpr.TheVariants as v
use Rattle.sv_terms.specs.declared.entry.Body.{Body}
use Rattle.sv_terms.specs.declared.sort.Sort.{Sort}
use Rattle.smt_names.specs.declared.check_fault.CheckFault.{CheckFault}
use Rattle.smt_names.specs.declared.check_fault.CheckFault.TheVariants as fault
use Rattle.smt_names.specs.declared.opening.Opening.{Opening}
use Rattle.term_walk.specs.declared.walk.Walk.{Walk}
use Rattle.item_passes.specs.Binders.{are_some, is_binding, is_variable, variables}
use Rattle.term_weight.specs.Bodies.{body_sort, parameter_name}
use Rattle.term_draft.specs.Drafts.{at_place, at_places}
use Rattle.smt_names.specs.Faults.{Answers, and_then, ◌>>◌, need, made_of}
use Rattle.smt_names.specs.Answering.{fault-passes}
use Rattle.smt_names.specs.Form.{Form, Forms, forms, seen, token, group, end, ◌⨾◌, count}
use Rattle.term_walk.specs.Meant.{Scope, Names, Head, any_size, alone, of_theory, identified, head, head_count, in_parentheses, application, meant, meant_all, meant_let, meant_values, meant_value, meant_quantifier, meant_annotated, meant_token, quantified, quantified_over, as_constants, renamed, settled, settled_sorts}
use Rattle.smt_names.specs.Tokens.{chosen}
use Rattle.smt_names.specs.Signature.{Name}
use Rattle.term_weight.specs.Sizes.{fits}
use Rattle.smt_names.specs.Tokens.{symbol, opening}
use Rattle.term_walk.specs.Walks.{Here, Each, Bound, sized, Meaning, Read, ReadsMeaning, applied_head, bound_to, fitting}
use Rattle.term_walk.proofs.Reading.{alike, fault-first, then-reads, bound-grow, joined, gathered, single, all-gathered, values-gathered, gathered-snoc, gathered-append}
use Rattle.smt_names.specs.Shapes.{seen-Atom, seen-List, two-seen}
use Rattle.term_walk.proofs.Walking.{each-are}

module _ (symbols : Names) (s : Scope) (old new : Walk) (r : Result ℕ CheckFault) where
  pub atom-read : (item : Sexpr) (k : TokenKind) (text : List ℕ) → item ≡ v.Atom k text → ReadsMeaning Here (λ t. meant_token symbols s k text) old new r → ReadsMeaning Here (λ t. meant t symbols s (seen item)) old new r
  atom-read item k text e a = alike Here (λ t. meant_token symbols s k text) (λ t. meant t symbols s (seen item)) old new r (λ t. ap (meant t symbols s) (sym (ap seen e ∙ seen-Atom k text))) a

  pub list-read : (item : Sexpr) (xs ys : List Sexpr) → item ≡ v.List xs → ys ≡ xs → ReadsMeaning Here (λ t. meant t symbols s (group (forms (map seen ys)))) old new r → ReadsMeaning Here (λ t. meant t symbols s (seen item)) old new r
  list-read item xs ys e f a = alike Here (λ t. meant t symbols s (group (forms (map seen ys)))) (λ t. meant t symbols s (seen item)) old new r (λ t. ap (meant t symbols s) (sym (ap seen (e ∙ ap v.List (sym f)) ∙ seen-List ys))) a

  pub arm-read : (fs gs : Forms) (x : Form) (o : Opening) → fs ≡ x ⨾ gs → opening x ≡ o
      → ReadsMeaning Here (λ t. chosen o (meant_let t symbols s gs) (meant_quantifier t symbols s gs) (meant_annotated t symbols s gs) (alone (of_theory (identified symbols gs))) (in_parentheses (head symbols x) (count gs) (meant_all t symbols s gs))) old new r
      → ReadsMeaning Here (λ t. meant t symbols s (group fs)) old new r
  arm-read fs gs x o e f a = alike Here (λ t. chosen o (meant_let t symbols s gs) (meant_quantifier t symbols s gs) (meant_annotated t symbols s gs) (alone (of_theory (identified symbols gs))) (in_parentheses (head symbols x) (count gs) (meant_all t symbols s gs))) (λ t. meant t symbols s (group fs)) old new r
      (λ t. ap (λ z. chosen z (meant_let t symbols s gs) (meant_quantifier t symbols s gs) (meant_annotated t symbols s gs) (alone (of_theory (identified symbols gs))) (in_parentheses (head symbols x) (count gs) (meant_all t symbols s gs))) (sym f) ∙ ap (λ z. meant t symbols s (group z)) (sym e)) a

  pub annotated-read : (fs gs : Forms) (x : Form) → fs ≡ x ⨾ gs → ReadsMeaning Here (λ t. meant t symbols s x) old new r → ReadsMeaning Here (λ t. meant_annotated t symbols s fs) old new r
  annotated-read fs gs x e a = alike Here (λ t. meant t symbols s x) (λ t. meant_annotated t symbols s fs) old new r (λ t. ap (meant_annotated t symbols s) (sym e)) a

-- arguments, and then the function
module _ (symbols : Names) (s : Scope) (old mid new : Walk) (fs : Forms) (n : ℕ) (h : Head) where
  pub application-read : (places : List ℕ) (r : Result ℕ CheckFault) → nat_le 1 n ≡ true → head_count h n ≡ true → (first : Read Each (λ t. meant_all t symbols s fs) old mid places) → ReadsMeaning Here (λ t. applied_head h (at_places mid.draft places)) mid new r → ReadsMeaning Here (λ t. in_parentheses (Ok h) n (meant_all t symbols s fs)) old new r
  application-read places r e f first a =
      alike Here (λ t. and_then (applied_head h) (meant_all t symbols s fs)) (λ t. in_parentheses (Ok h) n (meant_all t symbols s fs)) old new r
      (λ t. sym (ap (λ z. need z fault.Arity >> application h n (meant_all t symbols s fs)) e ∙ ap (λ z. need z fault.Arity >> and_then (applied_head h) (meant_all t symbols s fs)) f))
      (then-reads Each Here (λ t. meant_all t symbols s fs) (λ t. applied_head h) old mid new places r first
      (alike Here (λ t. applied_head h (at_places mid.draft places)) (λ t. applied_head h first.what) mid new r (λ t. ap (applied_head h) (each-are mid.draft places first.what first.there)) a))

-- arguments of a wrong number, and a fault among them
module _ (r : Result Head CheckFault) (h : Head) (n : ℕ) (e : r ≡ Ok h) where
  pub application-none : (a : Result (List Body) CheckFault) → nat_le 1 n ≡ false → in_parentheses r n a ≡ Err fault.Arity
  application-none a f = ap (λ z. in_parentheses z n a) e ∙ ap (λ z. need z fault.Arity >> application h n a) f

  pub application-count : (a : Result (List Body) CheckFault) → nat_le 1 n ≡ true → head_count h n ≡ false → in_parentheses r n a ≡ Err fault.Arity
  application-count a f g = ap (λ z. in_parentheses z n a) e ∙ ap (λ z. need z fault.Arity >> application h n a) f ∙ ap (λ z. need z fault.Arity >> and_then (applied_head h) a) g

  pub application-fault : (m : Meaning (List Body)) (old new : Walk) (f : CheckFault) → nat_le 1 n ≡ true → head_count h n ≡ true → ReadsMeaning Each m old new (Err f) → ReadsMeaning Here (λ t. in_parentheses r n (m t)) old new (Err f)
  application-fault m old new f g k a = fault-first Each Here m (λ t. in_parentheses r n (m t)) old new new f (λ x j.
      ap (λ z. in_parentheses z n (m any_size)) e ∙ ap (λ z. need z fault.Arity >> application h n (m any_size)) g
      ∙ ap (λ z. need z fault.Arity >> and_then (applied_head h) (m any_size)) k ∙ ap (and_then (applied_head h)) j) a

-- the part of a walk that follows, in the scope and draft that it begins with
pub go-on : {X Y : Type 0} {stands : List Body → X → Y → Type 0} {m : Meaning Y} (s : Scope) (old mid : Walk) (x : X) → Read stands m old mid x → Bound old.draft old.scope s → Bound mid.draft mid.scope s
go-on s old mid x a b = subst (λ (z : List (Name × ℕ)). Bound mid.draft z s) (sym a.back) (bound-grow old.draft a.added mid.draft old.scope s a.more b)

-- one more of a list
module _ {A X : Type 0} (stands : List Body → List X → List A → Type 0)
    (grow : (d e f : List Body) (ps : List X) (bs : List A) → f ≡ d ++ e → stands d ps bs → stands f ps bs)
    (append : (d : List Body) (ps qs : List X) (as_ bs : List A) → stands d ps as_ → stands d qs bs → stands d (ps ++ qs) (as_ ++ bs))
    (g : (Body → Bool) → Form → Result (List A) CheckFault) where
  sized-joined : (xs ys : List A) (past more : Bool) (a b : Result (List A) CheckFault) → a ≡ sized past xs → b ≡ sized more ys → joined a b ≡ sized (past || more) (xs ++ ys)
  sized-joined xs ys true more a b e f = ap (λ z. joined z b) e
  sized-joined xs ys false true a b e f = (λ i. joined (e i) (f i))
  sized-joined xs ys false false a b e f = (λ i. joined (e i) (f i))

  pub gather-more : (fs : List Form) (f : Form) (old mid new : Walk) (ps qs : List X) → Read stands (λ t. gathered (g t) fs) old mid ps → Read stands (λ t. g t f) mid new qs → Read stands (λ t. gathered (g t) (fs ++ f ∷ [])) old new (ps ++ qs)
  gather-more fs f old mid new ps qs a b = record {
    what = a.what ++ b.what;
    past = a.past || b.past;
    added = a.added ++ b.added;
    means = gathered-snoc (g any_size) fs f ∙ (λ i. joined (a.means i) (b.means i));
    limits = gathered-snoc (g fits) fs f ∙ sized-joined a.what b.what a.past b.past (gathered (g fits) fs) (g fits f) a.limits b.limits;
    there = append new.draft ps qs a.what b.what (grow mid.draft b.added new.draft ps a.what b.more a.there) b.there;
    more = b.more ∙ ap (λ z. z ++ b.added) a.more ∙ append_assoc old.draft a.added b.added;
    noted = b.noted ∙ ap (λ z. z || b.past) a.noted ∙ or-assoc old.is_past a.past b.past;
    back = b.back ∙ a.back;
  }
    where
      or-assoc : (a b c : Bool) → ((a || b) || c) ≡ (a || (b || c))
      or-assoc true b c = refl
      or-assoc false b c = refl

  pub gather-none : (old : Walk) → stands old.draft [] [] → Read stands (λ t. gathered (g t) []) old old []
  gather-none old h = record {
    what = [];
    past = false;
    added = [];
    means = refl;
    limits = refl;
    there = h;
    more = sym (append-none old.draft);
    noted = or-false old.is_past;
    back = refl;
  }
    where
      append-none : (xs : List Body) → xs ++ [] ≡ xs
      append-none [] = refl
      append-none (x ∷ xs) = ap (λ z. x ∷ z) (append-none xs)

      or-false : (b : Bool) → b ≡ (b || false)
      or-false true = refl
      or-false false = refl

  drop-more : {B : Type 0} (bs : List B) (i : ℕ) (d : B) → i < length bs → bs ≡ take i bs ++ (get_or bs i d ∷ drop (suc i) bs)
  drop-more [] i d h = absurd (omega arith)
  drop-more (b ∷ bs) zero d h = refl
  drop-more (b ∷ bs) (suc i) d h = ap (λ z. b ∷ z) (drop-more bs i d (omega arith))

  pub gather-fault : (xs : List Sexpr) (i : ℕ) (d : Sexpr) (old mid new : Walk) (ps : List X) (f : CheckFault) → i < length xs → d ≡ get_or xs i d → Read stands (λ t. gathered (g t) (map seen (take i xs))) old mid ps → ReadsMeaning stands (λ t. g t (seen d)) mid new (Err f) → ReadsMeaning stands (λ t. gathered (g t) (map seen xs)) old new (Err f)
  gather-fault xs i d old mid new ps f h e a b = fault-first stands stands (λ t. g t (seen d)) (λ t. gathered (g t) (map seen xs)) mid new new f (λ k j.
      ap (λ z. gathered (g any_size) (map seen z)) (drop-more xs i d h)
      ∙ ap (gathered (g any_size)) (map-append seen (take i xs) (get_or xs i d ∷ drop (suc i) xs))
      ∙ gathered-append (g any_size) (map seen (take i xs)) (map seen (get_or xs i d ∷ drop (suc i) xs))
      ∙ ap (λ z. joined z (joined (g any_size (seen (get_or xs i d))) (gathered (g any_size) (map seen (drop (suc i) xs))))) a.means
      ∙ ap (λ z. joined (Ok a.what) (joined z (gathered (g any_size) (map seen (drop (suc i) xs))))) (ap (λ z. g any_size (seen z)) (sym e) ∙ j)) b

  pub gather-next : (xs : List Sexpr) (i : ℕ) (d : Sexpr) (old mid new : Walk) (ps qs : List X) → i < length xs → d ≡ get_or xs i d → Read stands (λ t. gathered (g t) (map seen (take i xs))) old mid ps → Read stands (λ t. g t (seen d)) mid new qs → Read stands (λ t. gathered (g t) (map seen (take (i + 1) xs))) old new (ps ++ qs)
  gather-next xs i d old mid new ps qs h e a b =
      subst (λ (z : List Form). Read stands (λ t. gathered (g t) z) old new (ps ++ qs))
      (ap (λ z. map seen (take i xs) ++ seen z ∷ []) e ∙ sym (map-append seen (take i xs) (get_or xs i d ∷ [])) ∙ ap (map seen) (sym (take_more xs i d h)))
      (gather-more (map seen (take i xs)) (seen d) old mid new ps qs a b)

  take-all : {B : Type 0} (n : ℕ) (bs : List B) → length bs ≤ n → take n bs ≡ bs
  take-all zero [] h = refl
  take-all (suc n) [] h = refl
  take-all zero (b ∷ bs) h = absurd (omega arith)
  take-all (suc n) (b ∷ bs) h = ap (λ z. b ∷ z) (take-all n bs (omega arith))

  pub gather-end : (xs : List Sexpr) (i : ℕ) (old new : Walk) (ps : List X) → length xs ≤ i → Read stands (λ t. gathered (g t) (map seen (take i xs))) old new ps → Read stands (λ t. gathered (g t) (map seen xs)) old new ps
  gather-end xs i old new ps h a = subst (λ (z : List Sexpr). Read stands (λ t. gathered (g t) (map seen z)) old new ps) (take-all i xs h) a

-- one place as a list of one
pub single-read : (m : Meaning Body) (old new : Walk) (p : ℕ) → Read Here m old new p → Read Each (λ t. single (m t)) old new (p ∷ [])
single-read m old new p a = record {
  what = a.what ∷ [];
  past = a.past;
  added = a.added;
  means = ap single a.means;
  limits = ap single a.limits ∙ one a.past a.what;
  there = ap (λ z. z ∷ []) a.there;
  more = a.more;
  noted = a.noted;
  back = a.back;
}
  where
    one : (b : Bool) (x : Body) → single (sized b x) ≡ sized b (x ∷ [])
    one true x = refl
    one false x = refl

pub single-fault : (m : Meaning Body) (old new : Walk) (f : CheckFault) → ReadsMeaning Here m old new (Err f) → ReadsMeaning Each (λ t. single (m t)) old new (Err f)
single-fault m old new f a = fault-first Here Each m (λ t. single (m t)) old new new f (λ k j. ap single j) a

pub all-read : (symbols : Names) (s : Scope) (xs : List Sexpr) (old new : Walk) (r : Result (List ℕ) CheckFault) → ReadsMeaning Each (λ t. gathered (λ f. single (meant t symbols s f)) (map seen xs)) old new r → ReadsMeaning Each (λ t. meant_all t symbols s (forms (map seen xs))) old new r
all-read symbols s xs old new r a = alike Each (λ t. gathered (λ f. single (meant t symbols s f)) (map seen xs)) (λ t. meant_all t symbols s (forms (map seen xs))) old new r (λ t. sym (all-gathered t symbols s (map seen xs))) a

pub values-read : (symbols : Names) (s : Scope) (xs : List Sexpr) (old new : Walk) (r : Result (List (Name × ℕ)) CheckFault) → ReadsMeaning Bound (λ t. gathered (meant_value t symbols s) (map seen xs)) old new r → ReadsMeaning Bound (λ t. meant_values t symbols s (forms (map seen xs))) old new r
values-read symbols s xs old new r a = alike Bound (λ t. gathered (meant_value t symbols s) (map seen xs)) (λ t. meant_values t symbols s (forms (map seen xs))) old new r (λ t. sym (values-gathered t symbols s (map seen xs))) a

-- names bound around a term, and left again
pub within-read : (m : Meaning Body) (old mid after new : Walk) (bound : List (Name × ℕ)) (place mark : ℕ) → mid.scope ≡ old.scope ++ bound → mid.draft ≡ old.draft → mid.is_past ≡ old.is_past → mark ≡ length old.scope → Read Here m mid after place → new ≡ record after { scope = take mark after.scope } → Read Here m old new place
within-read m old mid after new bound place mark e f g h a k = subst (λ (z : Walk). Read Here m old z place) (sym k) (record {
  what = a.what;
  past = a.past;
  added = a.added;
  means = a.means;
  limits = a.limits;
  there = a.there;
  more = a.more ∙ ap (λ z. z ++ a.added) f;
  noted = a.noted ∙ ap (λ z. z || a.past) g;
  back = ap (take mark) (a.back ∙ e) ∙ ap (λ n. take n (old.scope ++ bound)) h ∙ take-append_seam old.scope bound;
})

-- behind `let`
pub let-read : (symbols : Names) (s : Scope) (old mid new : Walk) (bs : List Sexpr) (y : Form) (fs : Forms) (bound : List (Name × ℕ)) (r : Result ℕ CheckFault) → fs ≡ group (forms (map seen bs)) ⨾ y ⨾ end → are_some is_binding (forms (map seen bs)) ≡ true → (first : Read Bound (λ t. meant_values t symbols s (forms (map seen bs))) old mid bound) → ReadsMeaning Here (λ t. meant t symbols (s ++ first.what) y) mid new r → ReadsMeaning Here (λ t. meant_let t symbols s fs) old new r
let-read symbols s old mid new bs y fs bound r e f first a =
    alike Here (λ t. and_then (λ q. meant t symbols (s ++ q) y) (meant_values t symbols s (forms (map seen bs)))) (λ t. meant_let t symbols s fs) old new r
    (λ t. sym (ap (meant_let t symbols s) e ∙ ap (λ z. need z fault.Shape >> and_then (λ q. meant t symbols (s ++ q) y) (meant_values t symbols s (forms (map seen bs)))) f))
    (then-reads Bound Here (λ t. meant_values t symbols s (forms (map seen bs))) (λ t q. meant t symbols (s ++ q) y) old mid new bound r first a)

pub let-fault : (symbols : Names) (s : Scope) (old new : Walk) (bs : List Sexpr) (y : Form) (fs : Forms) (f : CheckFault) → fs ≡ group (forms (map seen bs)) ⨾ y ⨾ end → are_some is_binding (forms (map seen bs)) ≡ true → ReadsMeaning Bound (λ t. meant_values t symbols s (forms (map seen bs))) old new (Err f) → ReadsMeaning Here (λ t. meant_let t symbols s fs) old new (Err f)
let-fault symbols s old new bs y fs f e g a = fault-first Bound Here (λ t. meant_values t symbols s (forms (map seen bs))) (λ t. meant_let t symbols s fs) old new new f (λ k j.
    ap (meant_let any_size symbols s) e ∙ ap (λ z. need z fault.Shape >> and_then (λ q. meant any_size symbols (s ++ q) y) (meant_values any_size symbols s (forms (map seen bs)))) g ∙ ap (and_then (λ q. meant any_size symbols (s ++ q) y)) j) a

pub let-unbound : (t : Body → Bool) (symbols : Names) (s : Scope) (bs : List Sexpr) (y : Form) (fs : Forms) → fs ≡ group (forms (map seen bs)) ⨾ y ⨾ end → are_some is_binding (forms (map seen bs)) ≡ false → meant_let t symbols s fs ≡ Err fault.Shape
let-unbound t symbols s bs y fs e f = ap (meant_let t symbols s) e ∙ ap (λ z. need z fault.Shape >> and_then (λ q. meant t symbols (s ++ q) y) (meant_values t symbols s (forms (map seen bs)))) f

pub let-few : (t : Body → Bool) (symbols : Names) (s : Scope) (xs : List Sexpr) → length xs < 2 → meant_let t symbols s (forms (map seen xs)) ≡ Err fault.Shape
let-few t symbols s [] h = refl
let-few t symbols s (x ∷ []) h = go (seen x)
  where
    go : (f : Form) → meant_let t symbols s (f ⨾ end) ≡ Err fault.Shape
    go (token k n) = refl
    go (group fs) = refl
let-few t symbols s (x ∷ y ∷ xs) h = absurd (omega arith)

pub let-many : (t : Body → Bool) (symbols : Names) (s : Scope) (xs : List Sexpr) → 3 ≤ length xs → meant_let t symbols s (forms (map seen xs)) ≡ Err fault.Shape
let-many t symbols s [] h = absurd (omega arith)
let-many t symbols s (x ∷ []) h = absurd (omega arith)
let-many t symbols s (x ∷ y ∷ []) h = absurd (omega arith)
let-many t symbols s (x ∷ y ∷ z ∷ xs) h = go (seen x)
  where
    go : (f : Form) → meant_let t symbols s (f ⨾ seen y ⨾ seen z ⨾ forms (map seen xs)) ≡ Err fault.Shape
    go (token k n) = refl
    go (group fs) = refl

pub empty-shape : (t : Body → Bool) (symbols : Names) (s : Scope) (xs : List Sexpr) → length xs < 1 → meant t symbols s (group (forms (map seen xs))) ≡ Err fault.Shape
empty-shape t symbols s [] h = refl
empty-shape t symbols s (x ∷ xs) h = absurd (omega arith)

-- a binding of `let`
module _ (item : Sexpr) (xs : List Sexpr) (e : item ≡ v.List xs) where
  pub binding-seen : (x y : Sexpr) → 2 ≤ length xs → length xs < 3 → x ≡ get_or xs 0 x → y ≡ get_or xs 1 y → seen item ≡ group (seen x ⨾ seen y ⨾ end)
  binding-seen x y h g f k = ap seen e ∙ seen-List xs ∙ ap group (two-seen xs x y h g f k)

  pub value-few : (t : Body → Bool) (symbols : Names) (s : Scope) → length xs < 2 → meant_value t symbols s (seen item) ≡ Err fault.Shape
  value-few t symbols s h = ap (meant_value t symbols s) (ap seen e ∙ seen-List xs) ∙ go xs h
    where
      go : (xs : List Sexpr) → length xs < 2 → meant_value t symbols s (group (forms (map seen xs))) ≡ Err fault.Shape
      go [] h = refl
      go (x ∷ []) h = refl
      go (x ∷ y ∷ xs) h = absurd (omega arith)

  pub value-many : (t : Body → Bool) (symbols : Names) (s : Scope) → 3 ≤ length xs → meant_value t symbols s (seen item) ≡ Err fault.Shape
  value-many t symbols s h = ap (meant_value t symbols s) (ap seen e ∙ seen-List xs) ∙ go xs h
    where
      go : (xs : List Sexpr) → 3 ≤ length xs → meant_value t symbols s (group (forms (map seen xs))) ≡ Err fault.Shape
      go [] h = absurd (omega arith)
      go (x ∷ []) h = absurd (omega arith)
      go (x ∷ y ∷ []) h = absurd (omega arith)
      go (x ∷ y ∷ z ∷ xs) h = refl

pub value-read : (symbols : Names) (s : Scope) (item x y : Form) (old mid new : Walk) (place : ℕ) (r : Result (List (Name × ℕ)) CheckFault) → item ≡ group (x ⨾ y ⨾ end) → (first : Read Here (λ t. meant t symbols s y) old mid place) → ReadsMeaning Bound (λ t. bound_to t (symbol x) first.what) mid new r → ReadsMeaning Bound (λ t. meant_value t symbols s item) old new r
value-read symbols s item x y old mid new place r e first a =
    alike Bound (λ t. and_then (bound_to t (symbol x)) (meant t symbols s y)) (λ t. meant_value t symbols s item) old new r (λ t. ap (meant_value t symbols s) (sym e))
    (then-reads Here Bound (λ t. meant t symbols s y) (λ t. bound_to t (symbol x)) old mid new place r first a)

pub value-fault : (symbols : Names) (s : Scope) (item x y : Form) (old new : Walk) (f : CheckFault) → item ≡ group (x ⨾ y ⨾ end) → ReadsMeaning Here (λ t. meant t symbols s y) old new (Err f) → ReadsMeaning Bound (λ t. meant_value t symbols s item) old new (Err f)
value-fault symbols s item x y old new f e a = fault-first Here Bound (λ t. meant t symbols s y) (λ t. meant_value t symbols s item) old new new f (λ k j. ap (meant_value any_size symbols s) e ∙ ap (and_then (bound_to any_size (symbol x))) j) a

abbrev right : {A : Type 0} → A → Result A CheckFault
right x = Ok x

-- behind `forall` or `exists`
module _ (symbols : Names) (s : Scope) (vs : List Sexpr) (y : Form) (fs : Forms) (e : fs ≡ group (forms (map seen vs)) ⨾ y ⨾ end) where
  abbrev within : (Body → Bool) → Scope → Result Body CheckFault
  within t q = meant t symbols (s ++ q) y

  pub quantifier-read : (old mid after new : Walk) (vars : List (Name × Sort)) (bound : List (Name × ℕ)) (place : ℕ) (r : Result ℕ CheckFault) → are_some is_variable (forms (map seen vs)) ≡ true → vars ≡ variables (forms (map seen vs)) → (first : Read Bound (λ t. Ok (as_constants (renamed false) vars)) old mid bound) → (second : Read Here (λ t. within t first.what) mid after place) → ReadsMeaning Here (λ t. quantified second.what) after new r → ReadsMeaning Here (λ t. meant_quantifier t symbols s fs) old new r
  quantifier-read old mid after new vars bound place r f g first second a =
      alike Here (λ t. and_then (λ q. and_then quantified (within t q)) (Ok (as_constants (renamed false) vars))) (λ t. meant_quantifier t symbols s fs) old new r
      (λ t. sym (ap (meant_quantifier t symbols s) e ∙ ap (λ z. need z fault.Shape >> and_then quantified (within t (quantified_over (forms (map seen vs))))) f ∙ ap (λ z. and_then quantified (within t (as_constants (renamed false) z))) (sym g)))
      (then-reads Bound Here (λ t. Ok (as_constants (renamed false) vars)) (λ t q. and_then quantified (within t q)) old mid new bound r first
      (then-reads Here Here (λ t. within t first.what) (λ t x. quantified x) mid after new place r second a))

  okay : {A : Type 0} {x y : A} → right x ≡ right y → x ≡ y
  okay h = cc

  pub quantifier-fault : (old mid new : Walk) (vars : List (Name × Sort)) (bound : List (Name × ℕ)) (f : CheckFault) → are_some is_variable (forms (map seen vs)) ≡ true → vars ≡ variables (forms (map seen vs)) → (first : Read Bound (λ t. Ok (as_constants (renamed false) vars)) old mid bound) → ReadsMeaning Here (λ t. within t first.what) mid new (Err f) → ReadsMeaning Here (λ t. meant_quantifier t symbols s fs) old new (Err f)
  quantifier-fault old mid new vars bound f h g first a = fault-first Here Here (λ t. within t first.what) (λ t. meant_quantifier t symbols s fs) mid old new f (λ k j.
      ap (meant_quantifier any_size symbols s) e ∙ ap (λ z. need z fault.Shape >> and_then quantified (within any_size (quantified_over (forms (map seen vs))))) h
      ∙ ap (λ z. and_then quantified (within any_size (as_constants (renamed false) z))) (sym g)
      ∙ ap (λ z. and_then quantified (within any_size z)) (okay first.means) ∙ ap (and_then quantified) j) a

pub quantifier-unbound : (t : Body → Bool) (symbols : Names) (s : Scope) (vs : List Sexpr) (y : Form) (fs : Forms) → fs ≡ group (forms (map seen vs)) ⨾ y ⨾ end → are_some is_variable (forms (map seen vs)) ≡ false → meant_quantifier t symbols s fs ≡ Err fault.Shape
quantifier-unbound t symbols s vs y fs e f = ap (meant_quantifier t symbols s) e ∙ ap (λ z. need z fault.Shape >> and_then quantified (meant t symbols (s ++ quantified_over (forms (map seen vs))) y)) f

pub quantifier-few : (t : Body → Bool) (symbols : Names) (s : Scope) (xs : List Sexpr) → length xs < 2 → meant_quantifier t symbols s (forms (map seen xs)) ≡ Err fault.Shape
quantifier-few t symbols s [] h = refl
quantifier-few t symbols s (x ∷ []) h = go (seen x)
  where
    go : (f : Form) → meant_quantifier t symbols s (f ⨾ end) ≡ Err fault.Shape
    go (token k n) = refl
    go (group fs) = refl
quantifier-few t symbols s (x ∷ y ∷ xs) h = absurd (omega arith)

pub quantifier-many : (t : Body → Bool) (symbols : Names) (s : Scope) (xs : List Sexpr) → 3 ≤ length xs → meant_quantifier t symbols s (forms (map seen xs)) ≡ Err fault.Shape
quantifier-many t symbols s [] h = absurd (omega arith)
quantifier-many t symbols s (x ∷ []) h = absurd (omega arith)
quantifier-many t symbols s (x ∷ y ∷ []) h = absurd (omega arith)
quantifier-many t symbols s (x ∷ y ∷ z ∷ xs) h = go (seen x)
  where
    go : (f : Form) → meant_quantifier t symbols s (f ⨾ seen y ⨾ seen z ⨾ forms (map seen xs)) ≡ Err fault.Shape
    go (token k n) = refl
    go (group fs) = refl

-- the terms of a command
pub settled-fitting : (symbols : Names) (s : Scope) (fs : Forms) (bs : List Body) (past : Bool) → meant_all any_size symbols s fs ≡ Ok bs → meant_all fits symbols s fs ≡ sized past bs → past ≡ false → settled symbols s fs ≡ fitting bs
settled-fitting symbols s fs bs past e f g = ap (and_then (λ bs. and_then (λ _. fitting bs) (meant_all fits symbols s fs))) e ∙ ap (and_then (λ _. fitting bs)) (f ∙ ap (λ p. sized p bs) g)

pub settled-past : (symbols : Names) (s : Scope) (fs : Forms) (bs : List Body) (past : Bool) → meant_all any_size symbols s fs ≡ Ok bs → meant_all fits symbols s fs ≡ sized past bs → past ≡ true → settled symbols s fs ≡ Err fault.Size
settled-past symbols s fs bs past e f g = ap (and_then (λ bs. and_then (λ _. fitting bs) (meant_all fits symbols s fs))) e ∙ ap (and_then (λ _. fitting bs)) (f ∙ ap (λ p. sized p bs) g)

pub settled-fault : (symbols : Names) (s : Scope) (fs : Forms) (f : CheckFault) → meant_all any_size symbols s fs ≡ Err f → settled symbols s fs ≡ Err f
settled-fault symbols s fs f e = ap (and_then (λ bs. and_then (λ _. fitting bs) (meant_all fits symbols s fs))) e

pub at-least : {A : Type 0} (xs : List A) → (length xs == 0) ≡ false → nat_le 1 (length xs) ≡ true
at-least [] h = absurd (cc)
at-least (x ∷ xs) h = grind (arith, nat_tests)

pub at-most-none : (n : ℕ) → (n == 0) ≡ true → nat_le 1 n ≡ false
at-most-none n h = grind (arith, nat_tests)

pub rest-of : {A : Type 0} (x : A) (xs : List A) → take (length (x ∷ xs) - 1) (drop 1 (x ∷ xs)) ≡ xs
rest-of x xs = grind (arith, common_steps)

pub rest-seen : (xs : List Sexpr) (x : Sexpr) → 1 ≤ length xs → x ≡ get_or xs 0 x → forms (map seen xs) ≡ seen x ⨾ forms (map seen (take (length xs - 1) (drop 1 xs)))
rest-seen [] x h e = absurd (omega arith)
rest-seen (y ∷ xs) x h e = ap (λ z. seen z ⨾ forms (map seen xs)) (sym e) ∙ ap (λ z. seen x ⨾ forms (map seen z)) (sym (rest-of y xs))

-- a walk that begins with parameters
module _ (w0 w1 : Walk) (params : List (Name × Sort)) (bound : List (Name × ℕ)) (first : Read Bound (λ t. Ok (as_constants (renamed true) params)) w0 w1 bound) where
  okay-constants : as_constants (renamed true) params ≡ first.what
  okay-constants = right-is (as_constants (renamed true) params) first.what first.means
    where
      right-is : (x y : Scope) → right x ≡ right y → x ≡ y
      right-is x y e = cc

  pub begin-bound : (scope2 : List (Name × ℕ)) → w0.scope ≡ [] → scope2 ≡ w1.scope ++ bound → Bound w1.draft scope2 (as_constants parameter_name params)
  begin-bound scope2 e f =
      let g : scope2 ≡ bound = f ∙ ap (λ z. z ++ bound) (first.back ∙ e) in
      subst (λ (z : List (Name × ℕ)). Bound w1.draft z (as_constants parameter_name params)) (sym g)
      (subst (λ (z : Scope). Bound w1.draft bound z) (sym okay-constants) first.there)

  pub begin-past : w0.is_past ≡ false → w1.is_past ≡ false
  begin-past e = first.noted ∙ ap (λ b. b || first.past) e ∙ not-past first.past (as_constants (renamed true) params) first.what first.limits
    where
      not-past : (p : Bool) (x y : Scope) → right x ≡ sized p y → p ≡ false
      not-past true x y h = absurd (cc)
      not-past false x y h = refl

pub read-past : {X Y : Type 0} (stands : List Body → X → Y → Type 0) (m : Meaning Y) (w2 w3 : Walk) (x : X) (b : Bool) (a : Read stands m w2 w3 x) → w2.is_past ≡ false → w3.is_past ≡ b → a.past ≡ b
read-past stands m w2 w3 x b a e f = sym (ap (λ z. z || a.past) e) ∙ sym a.noted ∙ f

pub sorts-places : (symbols : Names) (s : Scope) (fs : Forms) (w2 w3 : Walk) (places : List ℕ) (r : Result (List Sort) CheckFault) (a : Read Each (λ t. meant_all t symbols s fs) w2 w3 places) → w2.is_past ≡ false → w3.is_past ≡ false → Answers (made_of (map body_sort) (fitting (at_places w3.draft places))) r → Answers (settled_sorts symbols s fs) r
sorts-places symbols s fs w2 w3 places r a e f g =
    subst (λ (z : Result (List Body) CheckFault). Answers (made_of (map body_sort) z) r)
    (sym (settled-fitting symbols s fs a.what a.past a.means a.limits (read-past Each (λ t. meant_all t symbols s fs) w2 w3 places false a e f) ∙ ap fitting (sym (each-are w3.draft places a.what a.there)))) g

pub sorts-size : (symbols : Names) (s : Scope) (fs : Forms) (w2 w3 : Walk) (places : List ℕ) (a : Read Each (λ t. meant_all t symbols s fs) w2 w3 places) → w2.is_past ≡ false → w3.is_past ≡ true → settled_sorts symbols s fs ≡ Err fault.Size
sorts-size symbols s fs w2 w3 places a e f = ap (made_of (map body_sort)) (settled-past symbols s fs a.what a.past a.means a.limits (read-past Each (λ t. meant_all t symbols s fs) w2 w3 places true a e f))

pub settled-err : (symbols : Names) (s : Scope) (fs : Forms) (w2 w3 : Walk) (f : CheckFault) → ReadsMeaning Each (λ t. meant_all t symbols s fs) w2 w3 (Err f) → Answers (settled symbols s fs) (Err f)
settled-err symbols s fs w2 w3 fault.Unknown a = settled-fault symbols s fs fault.Unknown a
settled-err symbols s fs w2 w3 fault.Sort a = settled-fault symbols s fs fault.Sort a
settled-err symbols s fs w2 w3 fault.Arity a = settled-fault symbols s fs fault.Arity a
settled-err symbols s fs w2 w3 fault.Declared a = settled-fault symbols s fs fault.Declared a
settled-err symbols s fs w2 w3 fault.Number a = settled-fault symbols s fs fault.Number a
settled-err symbols s fs w2 w3 fault.Reserved a = settled-fault symbols s fs fault.Reserved a
settled-err symbols s fs w2 w3 fault.Shape a = settled-fault symbols s fs fault.Shape a
settled-err symbols s fs w2 w3 fault.Transducer a = settled-fault symbols s fs fault.Transducer a
settled-err symbols s fs w2 w3 fault.Index a = settled-fault symbols s fs fault.Index a
settled-err symbols s fs w2 w3 fault.Size a = settled-fault symbols s fs fault.Size a
settled-err symbols s fs w2 w3 (fault.Memory x) a = tt

pub sorts-err : (symbols : Names) (s : Scope) (fs : Forms) (w2 w3 : Walk) (f : CheckFault) → ReadsMeaning Each (λ t. meant_all t symbols s fs) w2 w3 (Err f) → Answers (settled_sorts symbols s fs) (Err f)
sorts-err symbols s fs w2 w3 f a = fault-passes (settled symbols s fs) (settled_sorts symbols s fs) f (λ e. ap (made_of (map body_sort)) e) (settled-err symbols s fs w2 w3 f a)

-- one term
module _ (symbols : Names) (s : Scope) (f : Form) (w2 w3 : Walk) (place : ℕ) (a : Read Here (λ t. meant t symbols s f) w2 w3 place) (begun : w2.is_past ≡ false) where
  one-read : Read Each (λ t. meant_all t symbols s (f ⨾ end)) w2 w3 (place ∷ [])
  one-read = single-read (λ t. meant t symbols s f) w2 w3 place a

  one-fitting : w3.is_past ≡ false → settled symbols s (f ⨾ end) ≡ fitting (at_place w3.draft place ∷ [])
  one-fitting e = settled-fitting symbols s (f ⨾ end) one-read.what one-read.past one-read.means one-read.limits (read-past Each (λ t. meant_all t symbols s (f ⨾ end)) w2 w3 (place ∷ []) false one-read begun e) ∙ ap fitting (sym (each-are w3.draft (place ∷ []) one-read.what one-read.there))

  pub one-settled : (x : Body) → w3.is_past ≡ false → fits (at_place w3.draft place) ≡ true → x ≡ at_place w3.draft place → settled symbols s (f ⨾ end) ≡ Ok (x ∷ [])
  one-settled x e h g = one-fitting e ∙ ap (λ b. need (b && true) fault.Size >> Ok (at_place w3.draft place ∷ [])) h ∙ ap (λ z. Ok (z ∷ [])) (sym g)

  pub one-unfit : w3.is_past ≡ false → fits (at_place w3.draft place) ≡ false → settled symbols s (f ⨾ end) ≡ Err fault.Size
  one-unfit e h = one-fitting e ∙ ap (λ b. need (b && true) fault.Size >> Ok (at_place w3.draft place ∷ [])) h

  pub one-past : w3.is_past ≡ true → settled symbols s (f ⨾ end) ≡ Err fault.Size
  one-past e = settled-past symbols s (f ⨾ end) one-read.what one-read.past one-read.means one-read.limits (read-past Each (λ t. meant_all t symbols s (f ⨾ end)) w2 w3 (place ∷ []) true one-read begun e)
