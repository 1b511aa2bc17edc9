-- Sorts, constants and transducers of a term by its parts, and of a term with arguments put in.
use Rattle.std.proofs.Common.{◌≡◌, refl, sym, ap, ◌∙◌, subst, map, Bool, true, ◌&&◌, IsTrue, All, ℕ, zero, suc, ℤ, List, [], ◌∷◌, Option, Some, None, nat_eq, arith}
use Rattle.std.specs.List.{list_all}
use Rattle.std.specs.Map.{lookup}
use Rattle.std.specs.Option.{option_map}
use Rattle.std.specs.Cmp.Lexicographic.{pointwise}
use Rattle.std.proofs.lemmas.Bool.{and_parts, and_from}
use Rattle.sv_terms.specs.declared.op.Op.{Op}
use Rattle.sv_terms.specs.declared.regex.Regex.{Regex}
use Rattle.sv_terms.specs.declared.sort.Sort.{Sort}
use Rattle.sv_terms.specs.declared.sort.Sort.TheVariants as sort
use Rattle.sv_terms.specs.declared.term.Term.{Term, roll-Term}
use Rattle.sv_terms.specs.declared.term.Term.TheVariants as v
use Rattle.sv_terms.specs.declared.term.Term.TheOpen.{Term-F}
use Rattle.sv_terms.specs.declared.term.Term.TheFolds.{map-Term, ind-Term, fold-Term, fold-roll-Term}
use Rattle.sv_terms.specs.declared.transducer.Transducer.{Transducer}
use Rattle.sv_terms.specs.Language.{Word}
use Rattle.sv_terms.specs.Meaning.{Named, all_of}
use Rattle.sv_terms.specs.Parts.{every_step}
use Rattle.sv_terms.specs.Sorting.{applied_sort, applied_sort_if, tested_sort, related_sort, sort_step, sort_of, is_of, valued_step, is_valued, op_sort, layer_sort}
use Rattle.term_weight.specs.Bodies.{or_constant, put_in_layer, put_in}
use Rattle.smt_names.specs.Signature.{Name}
use Rattle.sv_terms.specs.TransducerSizes.{is_formed, has_formed}
use Rattle.sort_check.specs.WellFormed.{constants_step, constants_are}

-- P of each
abbrev pub Each : {A : Type 0} → (A → Type 0) → List A → Type 0
Each P [] = Unit {0}
Each P (a ∷ as_) = P a × Each P as_

module _ {A : Type 0} (P : A → Type 0) where
  pub each-all : (xs : List A) → Each P xs → All P xs
  each-all [] h k d l = absurd (omega arith)
  each-all (x ∷ xs) h zero d l = h.0
  each-all (x ∷ xs) h (suc k) d l = each-all xs h.1 k d (omega arith)

  pub all-each : (xs : List A) → All P xs → Each P xs
  all-each [] h = tt
  all-each (x ∷ xs) h = (h 0 x (omega arith), all-each xs (λ k d l. h (suc k) d (omega arith)))

-- the step of `has_formed`
abbrev formed_step : Term-F Bool → Bool
formed_step = every_step (λ n s. true) is_formed

-- a fold of a term by those of its parts
at : {A : Type 0} (f : Term-F A → A) (t : Term) (x : Term-F Term) → roll-Term x ≡ t → fold-Term A f t ≡ f (map-Term Term A (fold-Term A f) x)
at {A} f t x e = ap (fold-Term A f) (sym e) ∙ fold-roll-Term A f x

-- induction over terms
module _ (P : Term → Type 0)
    (truth : (b : Bool) → P (v.Truth b)) (number : (n : ℤ) → P (v.Number n)) (text : (w : Word) → P (v.Text w)) (constant : (n : List ℕ) (s : Sort) → P (v.Constant n s))
    (apply : (o : Op) (ts : List Term) → Each P ts → P (v.Apply o ts)) (member : (t : Term) (r : Regex) → P t → P (v.InRe t r))
    (relate : (m : Transducer) (t u : Term) → P t → P u → P (v.Related m t u)) (opaque : (s : Sort) → P (v.Opaque s)) where
  abbrev Sure : Type 0
  Sure = (t : Term) × P t

  each : (ys : List Sure) → Each P (map (λ y. y.0) ys)
  each [] = tt
  each (y ∷ ys) = (y.1, each ys)

  layer : (y : Term-F Sure) → P (roll-Term (map-Term Sure Term (λ e. e.0) y))
  layer (Term-F.Truth b) = subst P (sym (v.rolls-Truth b)) (truth b)
  layer (Term-F.Number n) = subst P (sym (v.rolls-Number n)) (number n)
  layer (Term-F.Text w) = subst P (sym (v.rolls-Text w)) (text w)
  layer (Term-F.Constant n s) = subst P (sym (v.rolls-Constant n s)) (constant n s)
  layer (Term-F.Apply o ys) = subst P (sym (v.rolls-Apply o (map (λ y. y.0) ys))) (apply o (map (λ y. y.0) ys) (each ys))
  layer (Term-F.InRe y r) = subst P (sym (v.rolls-InRe y.0 r)) (member y.0 r y.1)
  layer (Term-F.Related m y z) = subst P (sym (v.rolls-Related m y.0 z.0)) (relate m y.0 z.0 y.1 z.1)
  layer (Term-F.Opaque s) = subst P (sym (v.rolls-Opaque s)) (opaque s)

  pub induct : (t : Term) → P t
  induct = ind-Term P (λ x y is. subst (λ z. P (roll-Term z)) is (layer y))

-- the sort that a term shows by its outermost part
abbrev pub term_sort : Term → Sort
term_sort = fold-Term Sort layer_sort

-- a term of this sort, whose transducers are formed and whose constants are known
pub record Fit (known : Name → Sort → Bool) (s : Sort) (t : Term) : Type 0 where
  pub sorted : sort_of t ≡ Some s
  pub shown : term_sort t ≡ s
  pub constants : IsTrue (constants_are known t)
  pub formed : IsTrue (has_formed t)

module _ (known : Name → Sort → Bool) where
  pub fit-truth : (b : Bool) → Fit known sort.Bool (v.Truth b)
  fit-truth b = let r = v.rolls-Truth b in let x : Term-F Term = Term-F.Truth b in
      record { sorted = at sort_step _ x r; shown = at layer_sort _ x r; constants = at (constants_step known) _ x r; formed = at formed_step _ x r }

  pub fit-number : (n : ℤ) → Fit known sort.Int (v.Number n)
  fit-number n = let r = v.rolls-Number n in let x : Term-F Term = Term-F.Number n in
      record { sorted = at sort_step _ x r; shown = at layer_sort _ x r; constants = at (constants_step known) _ x r; formed = at formed_step _ x r }

  pub fit-text : (w : Word) → Fit known sort.String (v.Text w)
  fit-text w = let r = v.rolls-Text w in let x : Term-F Term = Term-F.Text w in
      record { sorted = at sort_step _ x r; shown = at layer_sort _ x r; constants = at (constants_step known) _ x r; formed = at formed_step _ x r }

  pub fit-constant : (n : Name) (s : Sort) → IsTrue (known n s) → Fit known s (v.Constant n s)
  fit-constant n s k = let r = v.rolls-Constant n s in let x : Term-F Term = Term-F.Constant n s in
      record { sorted = at sort_step _ x r; shown = at layer_sort _ x r; constants = at (constants_step known) _ x r ∙ k; formed = at formed_step _ x r }

  pub fit-opaque : (s : Sort) → Fit known s (v.Opaque s)
  fit-opaque s = let r = v.rolls-Opaque s in let x : Term-F Term = Term-F.Opaque s in
      record { sorted = at sort_step _ x r; shown = at layer_sort _ x r; constants = at (constants_step known) _ x r; formed = at formed_step _ x r }

  pub fit-member : (t : Term) (m : Regex) → Fit known sort.String t → Fit known sort.Bool (v.InRe t m)
  fit-member t m f = let r = v.rolls-InRe t m in let x : Term-F Term = Term-F.InRe t m in
      record { sorted = at sort_step _ x r ∙ ap tested_sort f.sorted; shown = at layer_sort _ x r; constants = at (constants_step known) _ x r ∙ f.constants; formed = at formed_step _ x r ∙ f.formed }

  pub fit-related : (m : Transducer) (t u : Term) → IsTrue (is_formed m) → Fit known sort.String t → Fit known sort.String u → Fit known sort.Bool (v.Related m t u)
  fit-related m t u h f g = let r = v.rolls-Related m t u in let x : Term-F Term = Term-F.Related m t u in
      record { sorted = at sort_step _ x r ∙ (λ i. related_sort (f.sorted i) (g.sorted i)); shown = at layer_sort _ x r; constants = at (constants_step known) _ x r ∙ and_from (constants_are known t) (constants_are known u) f.constants g.constants; formed = at formed_step _ x r ∙ and_from (is_formed m) (has_formed t && has_formed u) h (and_from (has_formed t) (has_formed u) f.formed g.formed) }

  -- terms of these sorts, one after another
  abbrev pub Fits : List Sort → List Term → Type 0
  Fits [] [] = Unit {0}
  Fits (s ∷ ss) (t ∷ ts) = Fit known s t × Fits ss ts
  Fits _ _ = ⊥

  each-sorted : (ss : List Sort) (ts : List Term) → Fits ss ts → all_of (map sort_of ts) ≡ Some ss
  each-sorted [] [] fs = refl
  each-sorted [] (t ∷ ts) fs = absurd fs
  each-sorted (s ∷ ss) [] fs = absurd fs
  each-sorted (s ∷ ss) (t ∷ ts) fs = ap (λ o. all_of (o ∷ map sort_of ts)) fs.0.sorted ∙ ap (option_map (λ q. s ∷ q)) (each-sorted ss ts fs.1)

  each-constants : (ss : List Sort) (ts : List Term) → Fits ss ts → IsTrue (list_all (λ b. b) (map (constants_are known) ts))
  each-constants [] [] fs = refl
  each-constants [] (t ∷ ts) fs = absurd fs
  each-constants (s ∷ ss) [] fs = absurd fs
  each-constants (s ∷ ss) (t ∷ ts) fs = and_from (constants_are known t) (list_all (λ b. b) (map (constants_are known) ts)) fs.0.constants (each-constants ss ts fs.1)

  each-formed : (ss : List Sort) (ts : List Term) → Fits ss ts → IsTrue (list_all (λ b. b) (map has_formed ts))
  each-formed [] [] fs = refl
  each-formed [] (t ∷ ts) fs = absurd fs
  each-formed (s ∷ ss) [] fs = absurd fs
  each-formed (s ∷ ss) (t ∷ ts) fs = and_from (has_formed t) (list_all (λ b. b) (map has_formed ts)) fs.0.formed (each-formed ss ts fs.1)

  pub fit-apply : (o : Op) (ss : List Sort) (ts : List Term) → Fits ss ts → applied_sort o ss ≡ Some (op_sort o) → Fit known (op_sort o) (v.Apply o ts)
  fit-apply o ss ts fs e = let r = v.rolls-Apply o ts in let x : Term-F Term = Term-F.Apply o ts in
      record { sorted = at sort_step _ x r ∙ ap (applied_sort_if o) (each-sorted ss ts fs) ∙ e; shown = at layer_sort _ x r; constants = at (constants_step known) _ x r ∙ each-constants ss ts fs; formed = at formed_step _ x r ∙ each-formed ss ts fs }

-- what is known in one place is known in another
module _ (p q : Name → Sort → Bool) (le : (n : Name) (s : Sort) → IsTrue (p n s) → IsTrue (q n s)) where
  abbrev Weaker : Term → Type 0
  Weaker t = IsTrue (constants_are p t) → IsTrue (constants_are q t)

  weaker-each : (ts : List Term) → Each Weaker ts → IsTrue (list_all (λ b. b) (map (constants_are p) ts)) → IsTrue (list_all (λ b. b) (map (constants_are q) ts))
  weaker-each [] w h = refl
  weaker-each (t ∷ ts) w h =
      let b = and_parts (constants_are p t) (list_all (λ b. b) (map (constants_are p) ts)) h in
      and_from (constants_are q t) (list_all (λ b. b) (map (constants_are q) ts)) (w.0 b.0) (weaker-each ts w.1 b.1)

  from : (t : Term) (x : Term-F Term) → roll-Term x ≡ t → IsTrue (constants_are p t) → IsTrue (constants_step p (map-Term Term Bool (constants_are p) x))
  from t x r h = sym (at (constants_step p) t x r) ∙ h

  pub weaker : (t : Term) → Weaker t
  weaker = induct Weaker
      (λ b h. at (constants_step q) _ (Term-F.Truth b) (v.rolls-Truth b))
      (λ n h. at (constants_step q) _ (Term-F.Number n) (v.rolls-Number n))
      (λ w h. at (constants_step q) _ (Term-F.Text w) (v.rolls-Text w))
      (λ n s h. at (constants_step q) _ (Term-F.Constant n s) (v.rolls-Constant n s) ∙ le n s (from _ (Term-F.Constant n s) (v.rolls-Constant n s) h))
      (λ o ts w h. at (constants_step q) _ (Term-F.Apply o ts) (v.rolls-Apply o ts) ∙ weaker-each ts w (from _ (Term-F.Apply o ts) (v.rolls-Apply o ts) h))
      (λ t r w h. at (constants_step q) _ (Term-F.InRe t r) (v.rolls-InRe t r) ∙ w (from _ (Term-F.InRe t r) (v.rolls-InRe t r) h))
      (λ m t u w z h.
      let b = and_parts (constants_are p t) (constants_are p u) (from _ (Term-F.Related m t u) (v.rolls-Related m t u) h) in
      at (constants_step q) _ (Term-F.Related m t u) (v.rolls-Related m t u) ∙ and_from (constants_are q t) (constants_are q u) (w b.0) (z b.1))
      (λ s h. at (constants_step q) _ (Term-F.Opaque s) (v.rolls-Opaque s))

  pub fit-weaker : (s : Sort) (t : Term) → Fit p s t → Fit q s t
  fit-weaker s t f = record { sorted = f.sorted; shown = f.shown; constants = weaker t f.constants; formed = f.formed }

-- arguments in the place of constants of their sorts
module _ (p q : Name → Sort → Bool) (found : Name → Option Term) (put : (n : Name) (s : Sort) → IsTrue (p n s) → Fit q s (or_constant n s (found n))) where
  record IsPut (t : Term) : Type 0 where
    sorted : sort_of (put_in found t) ≡ sort_of t
    shown : term_sort (put_in found t) ≡ term_sort t
    constants : IsTrue (constants_are q (put_in found t))
    formed : IsTrue (has_formed (put_in found t))

  abbrev Puts : Term → Type 0
  Puts t = IsTrue (constants_are p t) → IsTrue (has_formed t) → IsPut t

  -- the term with arguments put in is u, which is made of the layer y as t is of the layer x
  made : (t u : Term) (x y : Term-F Term) → roll-Term x ≡ t → roll-Term y ≡ u → put_in found t ≡ u
      → sort_step (map-Term Term (Option Sort) sort_of y) ≡ sort_step (map-Term Term (Option Sort) sort_of x)
      → layer_sort (map-Term Term Sort term_sort y) ≡ layer_sort (map-Term Term Sort term_sort x)
      → IsTrue (constants_step q (map-Term Term Bool (constants_are q) y)) → IsTrue (formed_step (map-Term Term Bool has_formed y)) → IsPut t
  made t u x y r s e a b c d = record {
    sorted = ap sort_of e ∙ at sort_step u y s ∙ a ∙ sym (at sort_step t x r);
    shown = ap term_sort e ∙ at layer_sort u y s ∙ b ∙ sym (at layer_sort t x r);
    constants = ap (constants_are q) e ∙ at (constants_step q) u y s ∙ c;
    formed = ap has_formed e ∙ at formed_step u y s ∙ d;
  }

  put-at : (t : Term) (x : Term-F Term) → roll-Term x ≡ t → put_in found t ≡ put_in_layer found (map-Term Term Term (put_in found) x)
  put-at t x r = at (put_in_layer found) t x r

  record ArePut (ts : List Term) : Type 0 where
    sorted : all_of (map sort_of (map (put_in found) ts)) ≡ all_of (map sort_of ts)
    constants : IsTrue (list_all (λ b. b) (map (constants_are q) (map (put_in found) ts)))
    formed : IsTrue (list_all (λ b. b) (map has_formed (map (put_in found) ts)))

  all-sorted : (o p : Option Sort) (os ps : List (Option Sort)) → o ≡ p → all_of os ≡ all_of ps → all_of (o ∷ os) ≡ all_of (p ∷ ps)
  all-sorted None p os ps e f = ap (λ z. all_of (z ∷ ps)) e
  all-sorted (Some s) p os ps e f = ap (option_map (λ q. s ∷ q)) f ∙ ap (λ z. all_of (z ∷ ps)) e

  put-each : (ts : List Term) → Each Puts ts → IsTrue (list_all (λ b. b) (map (constants_are p) ts)) → IsTrue (list_all (λ b. b) (map has_formed ts)) → ArePut ts
  put-each [] w h g = record { sorted = refl; constants = refl; formed = refl }
  put-each (t ∷ ts) w h g =
      let b = and_parts (constants_are p t) (list_all (λ b. b) (map (constants_are p) ts)) h in
      let c = and_parts (has_formed t) (list_all (λ b. b) (map has_formed ts)) g in
      let one = w.0 b.0 c.0 in
      let rest = put-each ts w.1 b.1 c.1 in
      record {
        sorted = all-sorted (sort_of (put_in found t)) (sort_of t) (map sort_of (map (put_in found) ts)) (map sort_of ts) one.sorted rest.sorted;
        constants = and_from (constants_are q (put_in found t)) (list_all (λ b. b) (map (constants_are q) (map (put_in found) ts))) one.constants rest.constants;
        formed = and_from (has_formed (put_in found t)) (list_all (λ b. b) (map has_formed (map (put_in found) ts))) one.formed rest.formed;
      }

  put-constant : (n : Name) (s : Sort) → Puts (v.Constant n s)
  put-constant n s h g =
      let r = v.rolls-Constant n s in
      let x : Term-F Term = Term-F.Constant n s in
      let e = put-at _ x r in
      let f = put n s (sym (at (constants_step p) _ x r) ∙ h) in
      record {
        sorted = ap sort_of e ∙ f.sorted ∙ sym (at sort_step _ x r);
        shown = ap term_sort e ∙ f.shown ∙ sym (at layer_sort _ x r);
        constants = ap (constants_are q) e ∙ f.constants;
        formed = ap has_formed e ∙ f.formed;
      }

  put-apply : (o : Op) (ts : List Term) → Each Puts ts → Puts (v.Apply o ts)
  put-apply o ts w h g =
      let r = v.rolls-Apply o ts in
      let x : Term-F Term = Term-F.Apply o ts in
      let us = map (put_in found) ts in
      let f = put-each ts w (sym (at (constants_step p) _ x r) ∙ h) (sym (at formed_step _ x r) ∙ g) in
      made _ (v.Apply o us) x (Term-F.Apply o us) r (v.rolls-Apply o us) (put-at _ x r) (ap (applied_sort_if o) f.sorted) refl f.constants f.formed

  put-member : (t : Term) (m : Regex) → Puts t → Puts (v.InRe t m)
  put-member t m w h g =
      let r = v.rolls-InRe t m in
      let x : Term-F Term = Term-F.InRe t m in
      let u = put_in found t in
      let f = w (sym (at (constants_step p) _ x r) ∙ h) (sym (at formed_step _ x r) ∙ g) in
      made _ (v.InRe u m) x (Term-F.InRe u m) r (v.rolls-InRe u m) (put-at _ x r) (ap tested_sort f.sorted) refl f.constants f.formed

  put-related : (m : Transducer) (t u : Term) → Puts t → Puts u → Puts (v.Related m t u)
  put-related m t u w z h g =
      let r = v.rolls-Related m t u in
      let x : Term-F Term = Term-F.Related m t u in
      let a = put_in found t in
      let b = put_in found u in
      let c = and_parts (constants_are p t) (constants_are p u) (sym (at (constants_step p) _ x r) ∙ h) in
      let d = and_parts (is_formed m) (has_formed t && has_formed u) (sym (at formed_step _ x r) ∙ g) in
      let e = and_parts (has_formed t) (has_formed u) d.1 in
      let k = w c.0 e.0 in
      let l = z c.1 e.1 in
      made _ (v.Related m a b) x (Term-F.Related m a b) r (v.rolls-Related m a b) (put-at _ x r) (λ i. related_sort (k.sorted i) (l.sorted i)) refl
      (and_from (constants_are q a) (constants_are q b) k.constants l.constants)
      (and_from (is_formed m) (has_formed a && has_formed b) d.0 (and_from (has_formed a) (has_formed b) k.formed l.formed))

  puts : (t : Term) → Puts t
  puts = induct Puts
      (λ b h g. let r = v.rolls-Truth b in let x : Term-F Term = Term-F.Truth b in made _ _ x x r r (put-at _ x r) refl refl refl refl)
      (λ n h g. let r = v.rolls-Number n in let x : Term-F Term = Term-F.Number n in made _ _ x x r r (put-at _ x r) refl refl refl refl)
      (λ w h g. let r = v.rolls-Text w in let x : Term-F Term = Term-F.Text w in made _ _ x x r r (put-at _ x r) refl refl refl refl)
      put-constant
      put-apply
      put-member
      put-related
      (λ s h g. let r = v.rolls-Opaque s in let x : Term-F Term = Term-F.Opaque s in made _ _ x x r r (put-at _ x r) refl refl refl refl)

  pub fit-put : (s : Sort) (t : Term) → Fit p s t → Fit q s (put_in found t)
  fit-put s t f = let k = puts t f.constants f.formed in record { sorted = k.sorted ∙ f.sorted; shown = k.shown ∙ f.shown; constants = k.constants; formed = k.formed }

-- constants that have values of their sorts
module _ (known : Name → Sort → Bool) (values : Named) (given : (n : Name) (s : Sort) → IsTrue (known n s) → IsTrue (is_of s (lookup (pointwise nat_eq n) values))) where
  valued-layer : (x : Term-F Bool) → valued_step values x ≡ constants_step (λ n s. is_of s (lookup (pointwise nat_eq n) values)) x
  valued-layer (Term-F.Truth b) = refl
  valued-layer (Term-F.Number n) = refl
  valued-layer (Term-F.Text w) = refl
  valued-layer (Term-F.Constant n s) = refl
  valued-layer (Term-F.Apply o bs) = refl
  valued-layer (Term-F.InRe b r) = refl
  valued-layer (Term-F.Related m b c) = refl
  valued-layer (Term-F.Opaque s) = refl

  pub known-valued : (t : Term) → IsTrue (constants_are known t) → IsTrue (is_valued values t)
  known-valued t h =
      let e : constants_step (λ n s. is_of s (lookup (pointwise nat_eq n) values)) ≡ valued_step values = λ i x. sym (valued-layer x) i in
      subst (λ f. IsTrue (fold-Term Bool f t)) e (weaker known (λ n s. is_of s (lookup (pointwise nat_eq n) values)) given t h)
