-- What the functions of a walk read.
use Rattle.std.proofs.Common.{add-one, append_assoc, ◌≡◌, refl, sym, ap, ◌∙◌, subst, ℕ, ℤ, pos, zero, suc, ◌+◌, ◌^◌, ◌<◌, ◌≤◌, nat_le, Bool, true, false, ◌||◌, ◌&&◌, List, [], ◌∷◌, ◌++◌, length, map, get_or, take, drop, Option, Some, None, Result, Ok, Err, arith, append-nil}
use Rattle.std.specs.List.{list_all}
use Rattle.std.specs.Prelude.{slice_get, not}
use Rattle.std.proofs.lemmas.Bool.Decides.{nat_tests}
use Rattle.std.proofs.lemmas.List.{map-append, take_more, drop_all}
use Rattle.sv_list.specs.Lists.{slice_get-end}
use Rattle.sv_list.specs.Bools.{or-assoc}
use Rattle.sexpr_reader.specs.declared.kind.TokenKind.TheVariants.{Numeral, Literal}
use Rattle.sv_terms.specs.declared.entry.Body.{Body}
use Rattle.sv_terms.specs.declared.entry.Body.TheVariants as body
use Rattle.sv_terms.specs.declared.sort.Sort.{Sort}
use Rattle.sv_terms.specs.declared.sort.Sort.TheVariants as sort
use Rattle.sv_terms.specs.declared.term.Term.TheVariants as term
use Rattle.sv_terms.specs.Sorting.{same_sort}
use Rattle.smt_names.specs.declared.check_fault.CheckFault.{CheckFault}
use Rattle.smt_names.specs.declared.check_fault.CheckFault.TheVariants as fault
use Rattle.term_walk.specs.declared.walk.Walk.{Walk}
use Rattle.term_weight.specs.Bodies.{body_sort}
use Rattle.term_draft.specs.Drafts.{Calls, at_place, at_places}
use Rattle.term_draft.proofs.Calling.{get-at}
use Rattle.smt_names.specs.Faults.{Answers, ◌>>◌, need, refuse, or_fault}
use Rattle.term_walk.specs.Meant.{Scope, Names, Head, any_size, latest, variable_or, alone, named, application, head_count, head_sorts, head_applied, meant_name, meant_token, mapped, bind, as_constants}
use Rattle.smt_names.specs.Signature.{Name}
use Rattle.term_weight.specs.Sizes.{fits}
use Rattle.term_weight.specs.FactorLaws.{or-false}
use Rattle.smt_names.specs.Tokens.{value, literal_word}
use Rattle.term_walk.specs.Walks.{Here, Each, Bound, sized, Meaning, Read, ReadsMeaning, applied_head, bound_to, bound_place}
use Rattle.term_walk.proofs.Reading.{alike, Stands, stands-latest, bound-grow, bound-append}

-- a part that was added
pub put-read : (old : Walk) (draft : List Body) (b : Body) (place : ℕ) → (place ≡ length old.draft) × (draft ≡ old.draft ++ b ∷ []) → Read Here (λ t. Ok b) old (record old { draft = draft }) place
put-read old draft b place (e, f) = record {
  what = b;
  past = false;
  added = b ∷ [];
  means = refl;
  limits = refl;
  there = (λ i. slice_get (f i) (e i)) ∙ slice_get-end old.draft b;
  more = f;
  noted = or-false old.is_past;
  back = refl;
}

-- a part that was there
pub there-read : (old : Walk) (b : Body) (place : ℕ) → slice_get old.draft place ≡ Some b → Read Here (λ t. Ok b) old old place
there-read old b place e = record {
  what = b;
  past = false;
  added = [];
  means = refl;
  limits = refl;
  there = e;
  more = sym (append-none old.draft);
  noted = or-false old.is_past;
  back = refl;
}
  where
    append-none : (xs : List Body) → xs ++ [] ≡ xs
    append-none [] = refl
    append-none (x ∷ xs) = ap (λ z. x ∷ z) (append-none xs)

-- a call, which was added or was there
pub call-read : (E : Type 0) (old : Walk) (draft : List Body) (there : Option ℕ) (b : Body) (place : ℕ) → Calls {E = E} there b old.draft draft (Ok place) → Read Here (λ t. Ok b) old (record old { draft = draft }) place
call-read E old draft None b place added = put-read old draft b place added
call-read E old draft (Some p) b place (e, here, same) =
    subst (λ (ds : List Body). slice_get ds place ≡ Some b → Read Here (λ t. Ok b) old (record old { draft = ds }) place) (sym same) (there-read old b place) here

pub number-so : (s : Scope) (ds : List ℕ) (n : ℤ) → value ds < 2 ^ 127 → n ≡ pos (value ds) → meant_token [] s Numeral ds ≡ Ok (body.Term (term.Number n))
number-so s ds n h e = let t : nat_le (2 ^ 127) (value ds) ≡ false = grind (arith, nat_tests) in ap (λ b. refuse b fault.Number >> Ok (body.Term (term.Number (pos (value ds))))) t ∙ ap (λ z. Ok (body.Term (term.Number z))) (sym e)

pub number-past : (s : Scope) (ds : List ℕ) → 2 ^ 127 ≤ value ds → meant_token [] s Numeral ds ≡ Err fault.Number
number-past s ds h = let t : nat_le (2 ^ 127) (value ds) ≡ true = grind (arith, nat_tests) in ap (λ b. refuse b fault.Number >> Ok (body.Term (term.Number (pos (value ds))))) t

pub number-read : (s : Scope) (ds : List ℕ) (n : ℤ) (old new : Walk) (r : Result ℕ CheckFault) → ReadsMeaning Here (λ t. Ok (body.Term (term.Number n))) old new r → value ds < 2 ^ 127 → n ≡ pos (value ds) → ReadsMeaning Here (λ t. meant_token [] s Numeral ds) old new r
number-read s ds n old new r a h e = alike Here (λ t. Ok (body.Term (term.Number n))) (λ t. meant_token [] s Numeral ds) old new r (λ t. sym (number-so s ds n h e)) a

pub literal-read : (s : Scope) (text w : List ℕ) (old new : Walk) (r : Result ℕ CheckFault) → Some w ≡ literal_word text → ReadsMeaning Here (λ t. Ok (body.Term (term.Text w))) old new r → ReadsMeaning Here (λ t. meant_token [] s Literal text) old new r
literal-read s text w old new r e a = alike Here (λ t. Ok (body.Term (term.Text w))) (λ t. meant_token [] s Literal text) old new r (λ t. ap (λ o. or_fault fault.Shape (mapped (λ w. body.Term (term.Text w)) o)) e) a

pub literal-none : (s : Scope) (text : List ℕ) → None ≡ literal_word text → meant_token [] s Literal text ≡ Err fault.Shape
literal-none s text e = ap (λ o. or_fault fault.Shape (mapped (λ w. body.Term (term.Text w)) o)) (sym e)

-- a fault that was answered
pub answered : {A X Y : Type 0} (stands : List Body → X → Y → Type 0) (a : Result A CheckFault) (m : Meaning Y) (old new : Walk) (f : CheckFault) → ((e : CheckFault) → a ≡ Err e → m any_size ≡ Err e) → Answers a (Err f) → ReadsMeaning stands m old new (Err f)
answered stands a m old new fault.Unknown h e = h fault.Unknown e
answered stands a m old new fault.Sort h e = h fault.Sort e
answered stands a m old new fault.Arity h e = h fault.Arity e
answered stands a m old new fault.Declared h e = h fault.Declared e
answered stands a m old new fault.Number h e = h fault.Number e
answered stands a m old new fault.Reserved h e = h fault.Reserved e
answered stands a m old new fault.Shape h e = h fault.Shape e
answered stands a m old new fault.Transducer h e = h fault.Transducer e
answered stands a m old new fault.Index h e = h fault.Index e
answered stands a m old new fault.Size h e = h fault.Size e
answered stands a m old new (fault.Memory x) h e = tt

-- a name that is bound, and one that isn't
bound-is : (d : List Body) (p : ℕ) (o : Option Body) → Stands d (Some p) o → (b : Body) × (o ≡ Some b) × (slice_get d p ≡ Some b)
bound-is d p None h = absurd h
bound-is d p (Some b) h = (b, refl, h)

unbound-is : (d : List Body) (o : Option Body) → Stands d None o → o ≡ None
unbound-is d None h = refl
unbound-is d (Some b) h = absurd h

pub name-read : (symbols : Names) (s : Scope) (n m : Name) (old : Walk) (place : ℕ) → Bound old.draft old.scope s → m ≡ n → Some place ≡ latest m old.scope → Read Here (λ t. meant_name symbols s n) old old place
name-read symbols s n m old place b e f =
    let l : latest n old.scope ≡ Some place = ap (λ z. latest z old.scope) (sym e) ∙ sym f in
    let g = bound-is old.draft place (latest n s) (subst (λ o. Stands old.draft o (latest n s)) l (stands-latest old.draft n old.scope s b)) in
    alike Here (λ t. Ok g.0) (λ t. meant_name symbols s n) old old (Ok place) (λ t. ap (λ o. variable_or o (alone (named symbols n))) (sym g.1)) (there-read old g.0 place g.2)

unbound : (symbols : Names) (s : Scope) (n m : Name) (old : Walk) → Bound old.draft old.scope s → m ≡ n → None ≡ latest m old.scope → meant_name symbols s n ≡ alone (named symbols n)
unbound symbols s n m old b e f =
    let l : latest n old.scope ≡ None = ap (λ z. latest z old.scope) (sym e) ∙ sym f in
    ap (λ o. variable_or o (alone (named symbols n))) (unbound-is old.draft (latest n s) (subst (λ o. Stands old.draft o (latest n s)) l (stands-latest old.draft n old.scope s b)))

pub name-alone : (symbols : Names) (s : Scope) (n m : Name) (h : Head) (old new : Walk) (r : Result ℕ CheckFault) → Bound old.draft old.scope s → m ≡ n → None ≡ latest m old.scope → named symbols n ≡ Ok h → ReadsMeaning Here (λ t. application h 0 (Ok [])) old new r → ReadsMeaning Here (λ t. meant_name symbols s n) old new r
name-alone symbols s n m h old new r b e f g a = alike Here (λ t. application h 0 (Ok [])) (λ t. meant_name symbols s n) old new r (λ t. sym (unbound symbols s n m old b e f ∙ ap alone g)) a

pub name-fault : (symbols : Names) (s : Scope) (n m : Name) (f : CheckFault) (old new : Walk) → Bound old.draft old.scope s → m ≡ n → None ≡ latest m old.scope → Answers (named symbols n) (Err f) → ReadsMeaning Here (λ t. meant_name symbols s n) old new (Err f)
name-fault symbols s n m f old new b e g a = answered Here (named symbols n) (λ t. meant_name symbols s n) old new f (λ k h. unbound symbols s n m old b e g ∙ ap alone h) a

pub each-are : (d : List Body) (ps : List ℕ) (bs : List Body) → Each d ps bs → at_places d ps ≡ bs
each-are d [] [] e = refl
each-are d [] (b ∷ bs) e = absurd (cc)
each-are d (p ∷ ps) [] e = absurd (cc)
each-are d (p ∷ ps) (b ∷ bs) e =
    let h : slice_get d p ≡ Some b = cc in
    let r : map (slice_get d) ps ≡ map Some bs = cc in
    λ i. get-at d p b h i ∷ each-are d ps bs r i

pub applied-so : (h : Head) (bs : List Body) (ss : List Sort) (b : Body) (old new : Walk) (r : Result ℕ CheckFault) → head_sorts h ss ≡ true → ss ≡ map body_sort bs → head_applied h bs ≡ b → ReadsMeaning Here (λ t. Ok b) old new r → ReadsMeaning Here (λ t. applied_head h bs) old new r
applied-so h bs ss b old new r e f g a = alike Here (λ t. Ok b) (λ t. applied_head h bs) old new r (λ t. sym (ap (λ z. need z fault.Sort >> Ok (head_applied h bs)) (ap (head_sorts h) (sym f) ∙ e) ∙ ap Ok g)) a

pub ill-sorted : (h : Head) (bs : List Body) (ss : List Sort) → head_sorts h ss ≡ false → ss ≡ map body_sort bs → applied_head h bs ≡ Err fault.Sort
ill-sorted h bs ss e f = ap (λ z. need z fault.Sort >> Ok (head_applied h bs)) (ap (head_sorts h) (sym f) ∙ e)

pub alone-so : (h : Head) (old new : Walk) (r : Result ℕ CheckFault) → head_count h 0 ≡ true → ReadsMeaning Here (λ t. applied_head h []) old new r → ReadsMeaning Here (λ t. application h 0 (Ok [])) old new r
alone-so h old new r e a = alike Here (λ t. applied_head h []) (λ t. application h 0 (Ok [])) old new r (λ t. sym (ap (λ z. need z fault.Arity >> applied_head h []) e)) a

not-not : (b : Bool) → b ≡ not (not b)
not-not true = refl
not-not false = refl

-- a value of `let` that was noted
pub noted-read : (old new : Walk) (o : Option Name) (x : Body) (place : ℕ) (q : List (Name × ℕ)) → slice_get old.draft place ≡ Some x → q ≡ bound_place o place → new.scope ≡ old.scope → new.draft ≡ old.draft → new.is_past ≡ (old.is_past || not (fits (at_place old.draft place))) → Read Bound (λ t. bound_to t o x) old new q
noted-read old new o x place q h e f g k = record {
  what = bind o x;
  past = not (fits x);
  added = [];
  means = refl;
  limits = ap (λ b. need b fault.Size >> Ok (bind o x)) (not-not (fits x));
  there = subst (λ (z : List (Name × ℕ)). Bound new.draft z (bind o x)) (sym e) (subst (λ (z : List Body). Bound z (bound_place o place) (bind o x)) (sym g) (bound o));
  more = g ∙ sym (append-nil old.draft);
  noted = k ∙ ap (λ b. old.is_past || not b) (ap fits (get-at old.draft place x h));
  back = f;
}
  where
    bound : (o : Option Name) → Bound old.draft (bound_place o place) (bind o x)
    bound None = tt
    bound (Some n) = (refl, h, tt)

pub quantified-so : (d : List Body) (place : ℕ) (x : Body) (b : Bool) → slice_get d place ≡ Some x → same_sort sort.Bool (body_sort (at_place d place)) ≡ b → same_sort sort.Bool (body_sort x) ≡ b
quantified-so d place x b h e = ap (λ z. same_sort sort.Bool (body_sort z)) (sym (get-at d place x h)) ∙ e

abbrev right : {A : Type 0} → A → Result A CheckFault
right x = Ok x

-- constants in the place of variables
pub constants-none : (r : Name → Name) (old : Walk) → Read Bound (λ t. Ok (as_constants r [])) old old []
constants-none r old = record {
  what = [];
  past = false;
  added = [];
  means = refl;
  limits = refl;
  there = tt;
  more = sym (append-nil old.draft);
  noted = or-false old.is_past;
  back = refl;
}

pub constants-more : (r : Name → Name) (vs : List (Name × Sort)) (i : ℕ) (v : Name × Sort) (old mid new : Walk) (ps : List (Name × ℕ)) (bound name : Name) (place : ℕ) → i < length vs → v ≡ get_or vs i v → bound ≡ v.0 → name ≡ r v.0 → Read Bound (λ t. Ok (as_constants r (take i vs))) old mid ps → Read Here (λ t. Ok (body.Term (term.Constant name v.1))) mid new place → Read Bound (λ t. Ok (as_constants r (take (i + 1) vs))) old new (ps ++ (bound, place) ∷ [])
constants-more r vs i v old mid new ps bound name place h e f g a b =
    let more : as_constants r (take (i + 1) vs) ≡ as_constants r (take i vs) ++ (bound, body.Term (term.Constant name v.1)) ∷ [] =
    ap (as_constants r) (take_more vs i v h ∙ ap (λ z. take i vs ++ z ∷ []) (sym e))
    ∙ map-append (λ (z : Name × Sort). (z.0, body.Term (term.Constant (r z.0) z.1))) (take i vs) (v ∷ [])
    ∙ (λ j. as_constants r (take i vs) ++ (sym f j, body.Term (term.Constant (sym g j) v.1)) ∷ []) in
    subst (λ (z : Scope). Read Bound (λ t. Ok z) old new (ps ++ (bound, place) ∷ [])) (sym more) (record {
      what = as_constants r (take i vs) ++ (bound, body.Term (term.Constant name v.1)) ∷ [];
      past = a.past || b.past;
      added = a.added ++ b.added;
      means = refl;
      limits = so a.past b.past (as_constants r (take i vs)) a.what (body.Term (term.Constant name v.1)) b.what a.limits b.limits;
      there = bound-append new.draft ps ((bound, place) ∷ []) (as_constants r (take i vs)) ((bound, body.Term (term.Constant name v.1)) ∷ [])
          (bound-grow mid.draft b.added new.draft ps (as_constants r (take i vs)) b.more (subst (λ (z : Scope). Bound mid.draft ps z) (sym (okay a.means)) a.there))
          (refl, b.there ∙ ap Some (sym (okay b.means)), tt);
      more = b.more ∙ ap (λ z. z ++ b.added) a.more ∙ append_assoc old.draft a.added b.added;
      noted = b.noted ∙ ap (λ z. z || b.past) a.noted ∙ or-assoc old.is_past a.past b.past;
      back = b.back ∙ a.back;
    })
  where
    okay : {A : Type 0} {x y : A} → right x ≡ right y → x ≡ y
    okay e = cc

    so : (p q : Bool) (x w : Scope) (y u : Body) → Ok x ≡ sized p w → Ok y ≡ sized q u → Ok (x ++ (bound, y) ∷ []) ≡ sized (p || q) (x ++ (bound, y) ∷ [])
    so false false x w y u h k = refl
    so true q x w y u h k = absurd (cc)
    so false true x w y u h k = absurd (cc)

pub constants-end : (r : Name → Name) (vs : List (Name × Sort)) (i : ℕ) (old new : Walk) (ps : List (Name × ℕ)) → length vs ≤ i → Read Bound (λ t. Ok (as_constants r (take i vs))) old new ps → Read Bound (λ t. Ok (as_constants r vs)) old new ps
constants-end r vs i old new ps h a = subst (λ (z : List (Name × Sort)). Read Bound (λ t. Ok (as_constants r z)) old new ps) (take-all i vs h) a
  where
    take-all : {B : Type 0} (n : ℕ) (bs : List B) → length bs ≤ n → take n bs ≡ bs
    take-all zero [] h = refl
    take-all (suc n) [] h = refl
    take-all zero (b ∷ bs) h = absurd (omega arith)
    take-all (suc n) (b ∷ bs) h = ap (λ z. b ∷ z) (take-all n bs (omega arith))

fit-next : (d : List Body) (ps : List ℕ) (i p : ℕ) → i < length ps → p ≡ get_or ps i p → list_all fits (at_places d (drop i ps)) ≡ (fits (at_place d p) && list_all fits (at_places d (drop (suc i) ps)))
fit-next d [] i p h e = absurd (omega arith)
fit-next d (q ∷ ps) zero p h e = ap (λ z. fits (at_place d z) && list_all fits (at_places d ps)) (sym e)
fit-next d (q ∷ ps) (suc i) p h e = fit-next d ps i p (omega arith) e

pub fit-more : (d : List Body) (ps : List ℕ) (i p : ℕ) (b : Bool) → i < length ps → p ≡ get_or ps i p → fits (at_place d p) ≡ true → list_all fits (at_places d (drop i ps)) ≡ b → list_all fits (at_places d (drop (i + 1) ps)) ≡ b
fit-more d ps i p b h e f g = rw (add-one i) (sym (ap (λ z. z && list_all fits (at_places d (drop (suc i) ps))) f) ∙ sym (fit-next d ps i p h e) ∙ g)

pub fit-not : (d : List Body) (ps : List ℕ) (i p : ℕ) (b : Bool) → i < length ps → p ≡ get_or ps i p → fits (at_place d p) ≡ false → list_all fits (at_places d (drop i ps)) ≡ b → false ≡ b
fit-not d ps i p b h e f g = sym (fit-next d ps i p h e ∙ ap (λ z. z && list_all fits (at_places d (drop (suc i) ps))) f) ∙ g

pub fit-end : (d : List Body) (ps : List ℕ) (i : ℕ) (b : Bool) → length ps ≤ i → list_all fits (at_places d (drop i ps)) ≡ b → true ≡ b
fit-end d ps i b h g = sym (ap (λ z. list_all fits (at_places d z)) (drop_all i ps h)) ∙ g

pub at-default : (ps : List ℕ) (i : ℕ) → get_or ps i 0 ≡ get_or ps i (get_or ps i 0)
at-default [] i = refl
at-default (p ∷ ps) zero = refl
at-default (p ∷ ps) (suc i) = at-default ps i
