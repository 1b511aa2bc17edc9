-- Macros at arguments: what they weigh, and what they are.
use Rattle.std.proofs.Common.{◌≡◌, refl, sym, ap, ◌∙◌, subst, ℕ, zero, suc, ◌≤◌, Bool, true, false, cond, List, [], ◌∷◌, length, map, Option, Some, None, Result, Ok}
use Rattle.std.specs.Prelude.{slice_get, if◌then◌else◌}
use Rattle.std.specs.Option.{option_map}
use Rattle.std.specs.Map.{lookup}
use Rattle.std.proofs.lemmas.Option.{slice_get-map, slice_get_past}
use Rattle.sv_list.specs.Lists.{slice_get-none}
use std.Path.{fun_ext}
use Rattle.sv_terms.specs.declared.entry.Body.{Body}
use Rattle.sv_terms.specs.declared.entry.Body.TheVariants as body
use Rattle.sv_terms.specs.declared.sort.Sort.{Sort}
use Rattle.sv_terms.specs.declared.term.Term.{Term}
use Rattle.sv_terms.specs.declared.term.Term.TheOpen.{Term-F}
use Rattle.sv_terms.specs.declared.term.Term.TheFolds.{fold-Term, fold-roll-Term, map-Term, ind-Term}
use Rattle.term_draft.specs.declared.draft.DraftPart.{DraftPart}
use Rattle.term_weight.specs.declared.weight.Weight.{Weight}
use Rattle.term_weight.specs.Bodies.{is_language, term_of, or_constant, put_in, put_in_layer, arguments_for, called}
use Rattle.term_draft.specs.Drafts.{Adds, Calls, argument_place, at_place, at_places, if_term, senses, term_found, term_place}
use Rattle.term_weight.specs.Places.{layer_name, name_alone, named_by, parameter_alone, shown}
use Rattle.smt_names.specs.Signature.{Name, same_name}
use Rattle.term_weight.specs.Weights.{weight_of, as_term, op_weight, in_weight, related_weight, regex_weight, weigh_layer, weighed, or_leaf, place_of, nth_if, argument_weight, call_weight}
use Rattle.term_draft.proofs.Drafting.{length-senses}
use Rattle.term_weight.specs.LayerLaws.{weight-Truth, weight-Number, weight-Text, weight-Constant, weight-Opaque, weight-Apply, weight-InRe, weight-Related, weight-term_of}

abbrev term_weight : Term → Weight
term_weight t = weight_of (body.Term t)

module _ (found : Name → Option Term) (known : Name → Option Weight) (so : (n : Name) (s : Sort) → term_weight (or_constant n s (found n)) ≡ or_leaf s (known n)) where
  abbrev Weighs : Term → Type 0
  Weighs t = term_weight (put_in found t) ≡ weighed known t

  abbrev Sure : Type 0
  Sure = (t : Term) × Weighs t

  each : (ys : List Sure) → map term_weight (map (put_in found) (map (λ y. y.0) ys)) ≡ map as_term (map (weighed known) (map (λ y. y.0) ys))
  each [] = refl
  each (y ∷ ys) = λ i. as_term (y.1 i) ∷ each ys i

  layer-weighs : (y : Term-F Sure) → term_weight (put_in_layer found (map-Term Term Term (put_in found) (map-Term Sure Term (λ e. e.0) y))) ≡ weigh_layer known (map-Term Term Weight (weighed known) (map-Term Sure Term (λ e. e.0) y))
  layer-weighs (Term-F.Truth b) = weight-Truth b
  layer-weighs (Term-F.Number n) = weight-Number n
  layer-weighs (Term-F.Text w) = weight-Text w
  layer-weighs (Term-F.Constant n s) = so n s
  layer-weighs (Term-F.Apply o ys) = weight-Apply o (map (put_in found) (map (λ y. y.0) ys)) ∙ ap (op_weight o) (each ys)
  layer-weighs (Term-F.InRe y r) = weight-InRe (put_in found y.0) r ∙ ap (λ z. in_weight (as_term z) (regex_weight r)) y.1
  layer-weighs (Term-F.Related m y z) = weight-Related m (put_in found y.0) (put_in found z.0) ∙ (λ i. related_weight (as_term (y.1 i)) (as_term (z.1 i)))
  layer-weighs (Term-F.Opaque s) = weight-Opaque s

  put-weighs : (t : Term) → Weighs t
  put-weighs = ind-Term Weighs (λ x y is.
      ap term_weight (fold-roll-Term Term (put_in_layer found) x)
      ∙ subst (λ z. term_weight (put_in_layer found (map-Term Term Term (put_in found) z)) ≡ weigh_layer known (map-Term Term Weight (weighed known) z)) is (layer-weighs y)
      ∙ sym (fold-roll-Term Weight (weigh_layer known) x))

nth-map : {A B : Type 0} (f : A → B) (as_ : List A) (o : Option ℕ) → nth_if (map f as_) o ≡ option_map f (nth_if as_ o)
nth-map f as_ None = refl
nth-map f as_ (Some i) = slice_get-map f as_ i

argument-at : (n : Name) (ps : List (Name × Sort)) (bs : List Body) → lookup (same_name n) (arguments_for ps bs) ≡ option_map term_of (nth_if bs (place_of n ps))
argument-at n [] bs = refl
argument-at n (p ∷ ps) [] = none (same_name n p.0) (place_of n ps)
  where
    none : (t : Bool) (o : Option ℕ) → None ≡ option_map term_of (nth_if [] (cond t (Some 0) (option_map suc o)))
    none true o = refl
    none false None = refl
    none false (Some j) = refl
argument-at n (p ∷ ps) (b ∷ bs) = some (same_name n p.0) (place_of n ps) (lookup (same_name n) (arguments_for ps bs)) (argument-at n ps bs)
  where
    some : (t : Bool) (o : Option ℕ) (rest : Option Term) → rest ≡ option_map term_of (nth_if bs o) → cond t (Some (term_of b)) rest ≡ option_map term_of (nth_if (b ∷ bs) (cond t (Some 0) (option_map suc o)))
    some true o rest e = refl
    some false None rest e = e
    some false (Some j) rest e = e

constant-weighs : (n : Name) (s : Sort) (o : Option Body) → term_weight (or_constant n s (option_map term_of o)) ≡ or_leaf s (option_map as_term (option_map weight_of o))
constant-weighs n s None = weight-Constant n s
constant-weighs n s (Some b) = weight-term_of b

-- a call weighs what its arguments' weights say
pub call-weighs : (ps : List (Name × Sort)) (b : Body) (bs : List Body) → weight_of (called ps b bs) ≡ call_weight ps (map weight_of bs) b
call-weighs ps (body.Term t) bs = put-weighs (λ n. lookup (same_name n) (arguments_for ps bs)) (argument_weight ps (map weight_of bs)) (λ n s.
    ap (λ o. term_weight (or_constant n s o)) (argument-at n ps bs)
    ∙ constant-weighs n s (nth_if bs (place_of n ps))
    ∙ ap (λ o. or_leaf s (option_map as_term o)) (sym (nth-map weight_of bs (place_of n ps)))) t
call-weighs ps (body.Language r) bs = refl

map-map : {A B C : Type 0} (f : B → C) (g : A → B) (o : Option A) → option_map f (option_map g o) ≡ option_map (λ a. f (g a)) o
map-map f g None = refl
map-map f g (Some a) = refl

pub put-index : (ps : List (Name × Sort)) (index : List (Name × Option ℕ)) (done : List Body) (arguments : List ℕ) (t u : Term) → ((n : Name) → shown n index ≡ place_of n ps) → u ≡ put_in (term_found done index arguments) t → body.Term u ≡ called ps (body.Term t) (at_places done arguments)
put-index ps index done arguments t u e f =
    ap body.Term (f ∙ ap (λ (k : Name → Option Term). put_in k t) (fun_ext (λ n.
    ap (λ o. option_map (λ p. term_of (at_place done p)) (nth_if arguments o)) (e n)
    ∙ sym (map-map term_of (at_place done) (nth_if arguments (place_of n ps)))
    ∙ ap (option_map term_of) (sym (nth-map (at_place done) arguments (place_of n ps)))
    ∙ sym (argument-at n ps (at_places done arguments)))))

-- a body that is a parameter alone is its argument
module _ (ps : List (Name × Sort)) (bs : List Body) (i : ℕ) (d : Body) (there : slice_get bs i ≡ Some d) where
  abbrev given : Name → Option Term
  given n = lookup (same_name n) (arguments_for ps bs)

  abbrev place : Name → Option ℕ
  place n = place_of n ps

  abbrev Alone : Term → Type 0
  Alone t = named_by place (name_alone t) ≡ Some i → put_in given t ≡ term_of d

  layer-alone : (x : Term-F Term) → named_by place (layer_name (map-Term Term (Option Name) (fold-Term (Option Name) layer_name) x)) ≡ Some i → put_in_layer given (map-Term Term Term (put_in given) x) ≡ term_of d
  layer-alone (Term-F.Truth b) e = absurd (cc)
  layer-alone (Term-F.Number n) e = absurd (cc)
  layer-alone (Term-F.Text w) e = absurd (cc)
  layer-alone (Term-F.Constant n s) e = ap (or_constant n s) (argument-at n ps bs ∙ ap (λ o. option_map term_of (nth_if bs o)) e ∙ ap (option_map term_of) there)
  layer-alone (Term-F.Apply o ts) e = absurd (cc)
  layer-alone (Term-F.InRe t r) e = absurd (cc)
  layer-alone (Term-F.Related m t u) e = absurd (cc)
  layer-alone (Term-F.Opaque s) e = absurd (cc)

  put-alone : (t : Term) → Alone t
  put-alone = ind-Term Alone (λ x y is e.
      fold-roll-Term Term (put_in_layer given) x
      ∙ layer-alone x (ap (named_by place) (sym (fold-roll-Term (Option Name) layer_name x)) ∙ e))

pub get-at : (done : List Body) (q : ℕ) (b : Body) → slice_get done q ≡ Some b → at_place done q ≡ b
get-at [] q b e = absurd (cc)
get-at (c ∷ done) zero b e = cc
get-at (c ∷ done) (suc q) b e = get-at done q b e

module _ (done : List Body) (ps : List (Name × Sort)) (t : Term) (arguments : List ℕ) (p : ℕ) where
  abbrev There : Type 0
  There = slice_get done p ≡ Some (called ps (body.Term t) (at_places done arguments))

  there-body : (i q : ℕ) (o : Option Body) → named_by (λ n. place_of n ps) (name_alone t) ≡ Some i → slice_get arguments i ≡ Some q → slice_get done q ≡ o → if_term q o ≡ Some p → There
  there-body i q None h a s e = absurd (cc)
  there-body i q (Some (body.Language r)) h a s e = absurd (cc)
  there-body i q (Some (body.Term u)) h a s e =
      let g : p ≡ q = cc in
      let there : slice_get (at_places done arguments) i ≡ Some (body.Term u) = slice_get-map (at_place done) arguments i ∙ ap (option_map (at_place done)) a ∙ ap Some (get-at done q (body.Term u) s) in
      ap (slice_get done) g ∙ s ∙ ap (λ (z : Term). Some (body.Term z)) (sym (put-alone ps (at_places done arguments) i (body.Term u) there t h))

  there-argument : (i : ℕ) (o : Option ℕ) → named_by (λ n. place_of n ps) (name_alone t) ≡ Some i → slice_get arguments i ≡ o → term_place done o ≡ Some p → There
  there-argument i None h a e = absurd (cc)
  there-argument i (Some q) h a e = there-body i q (slice_get done q) h a refl e

  there-parameter : (o : Option ℕ) → named_by (λ n. place_of n ps) (name_alone t) ≡ o → term_place done (nth_if arguments o) ≡ Some p → There
  there-parameter None h e = absurd (cc)
  there-parameter (Some i) h e = there-argument i (slice_get arguments i) h refl e

called-there : (done : List Body) (ps : List (Name × Sort)) (b : Body) (arguments : List ℕ) (p : ℕ) → argument_place done ps b arguments ≡ Some p → slice_get done p ≡ Some (called ps b (at_places done arguments))
called-there done ps (body.Language r) arguments p e = absurd (cc)
called-there done ps (body.Term t) arguments p e = there-parameter done ps t arguments p (named_by (λ n. place_of n ps) (name_alone t)) refl e

-- a call that is an argument stands, any other is added
pub calls-there : (E : Type 0) (done : List Body) (ps : List (Name × Sort)) (b : Body) (arguments : List ℕ) (p : ℕ) → Some p ≡ argument_place done ps b arguments → Calls {E = E} (argument_place done ps b arguments) (called ps b (at_places done arguments)) done done (Ok p)
calls-there E done ps b arguments p e = subst (λ (o : Option ℕ). Calls {E = E} o (called ps b (at_places done arguments)) done done (Ok p)) e (refl, called-there done ps b arguments p (sym e), refl)

pub calls-added : {E : Type 0} (o : Option ℕ) (b : Body) (old new : List Body) (r : Result ℕ E) → None ≡ o → Adds {E = E} b old new r → Calls {E = E} o b old new r
calls-added {E = E} o b old new r e a = subst (λ (o : Option ℕ). Calls {E = E} o b old new r) e a

-- the argument of a parameter
pub argument-some : (done : List Body) (ps : List (Name × Sort)) (b : Body) (arguments : List ℕ) (i q : ℕ) (r : Option ℕ) → Some i ≡ parameter_alone ps b → Some q ≡ slice_get arguments i → r ≡ if_term q (slice_get done q) → r ≡ argument_place done ps b arguments
argument-some done ps b arguments i q r e g h = h ∙ ap (term_place done) (g ∙ ap (nth_if arguments) e)

pub argument-missing : (done : List Body) (ps : List (Name × Sort)) (b : Body) (arguments : List ℕ) (i : ℕ) → Some i ≡ parameter_alone ps b → None ≡ slice_get arguments i → None ≡ argument_place done ps b arguments
argument-missing done ps b arguments i e g = ap (term_place done) (g ∙ ap (nth_if arguments) e)

pub argument-none : (done : List Body) (ps : List (Name × Sort)) (b : Body) (arguments : List ℕ) → None ≡ parameter_alone ps b → None ≡ argument_place done ps b arguments
argument-none done ps b arguments e = ap (λ o. term_place done (nth_if arguments o)) e

-- whether a term is at a place, by the weight there
term-if : (k : ℕ) (b : Body) → if_term k (Some b) ≡ (if is_language b then None else Some k)
term-if k (body.Term t) = refl
term-if k (body.Language r) = refl

get-term : (ps : List DraftPart) (bs : List Body) (i k : ℕ) (p : DraftPart) → map (λ p. p.weight) ps ≡ map weight_of bs → slice_get ps i ≡ Some p → if_term k (slice_get bs i) ≡ (if p.weight.is_language then None else Some k)
get-term [] bs i k p e f = absurd (cc)
get-term (q ∷ ps) [] i k p e f = absurd (cc)
get-term (q ∷ ps) (b ∷ bs) zero k p e f =
    let g : q ≡ p = cc in
    let h : q.weight ≡ weight_of b = cc in
    term-if k b ∙ ap (λ (w : Weight). if w.is_language then None else Some k) (sym h ∙ ap (λ (z : DraftPart). z.weight) g)
get-term (q ∷ ps) (b ∷ bs) (suc i) k p e f = get-term ps bs i k p (cc) f

pub term-stands : (ps : List DraftPart) (bs : List Body) (i : ℕ) (p : DraftPart) (l : Bool) → map (λ p. p.weight) ps ≡ map weight_of (senses ps) → senses ps ≡ bs → Some p ≡ slice_get ps i → p.weight.is_language ≡ l → (if l then None else Some i) ≡ if_term i (slice_get bs i)
term-stands ps bs i p l e f g h = ap (λ (b : Bool). if b then None else Some i) (sym h) ∙ sym (get-term ps (senses ps) i i p e (sym g)) ∙ ap (λ z. if_term i (slice_get z i)) f

pub none-stands : (ps : List DraftPart) (bs : List Body) (i : ℕ) → senses ps ≡ bs → None ≡ slice_get ps i → None ≡ if_term i (slice_get bs i)
none-stands ps bs i f g =
    let h : length bs ≤ i = subst (λ n. n ≤ i) (sym (length-senses ps) ∙ ap length f) (slice_get-none ps i (sym g)) in
    ap (if_term i) (sym (slice_get_past bs i h))

pub ruleset calling = (calls-there, calls-added)

pub ruleset arguing = (argument-some, argument-missing, argument-none)

pub ruleset standing = (term-stands, none-stands)

pub nth-some : {A : Type 0} (as_ : List A) (o : Option ℕ) (i : ℕ) (r : Option A) → o ≡ Some i → r ≡ slice_get as_ i → r ≡ nth_if as_ o
nth-some as_ o i r e f = f ∙ ap (nth_if as_) (sym e)

pub ruleset finding = (nth-some)
