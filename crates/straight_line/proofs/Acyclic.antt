-- Definitions that stand in order are on no cycle: a variable that a definition uses is defined in fewer ends of the list.
use Rattle.std.proofs.Common.{◌≡◌, refl, sym, ap, ◌∙◌, subst, Bool, true, false, ◌||◌, ℕ, ◌+◌, ◌<◌, ◌≤◌, List, [], ◌∷◌, length, arith}
use Rattle.std.specs.Prelude.{nat_eq, Contains}
use Rattle.std.specs.List.{AllByRecursion}
use Rattle.std.proofs.lemmas.Bool.{eq-eqb, or_right, or_parts}
use Rattle.flat_cubes.specs.Using.{is_defined, used}
use Rattle.flat_cubes.specs.Flattening.{IsCycle, NoCycle, Uses, UsesInTurn, ordered}
use Rattle.flat_cubes.specs.Straight.{InOrder}
use Rattle.flat_cubes.specs.declared.definition.Definition.{Definition}
use Rattle.flat_cubes.proofs.Members.{all_at, all_contains}
use Rattle.straight_line.proofs.Ordered.{ordered_back}

-- in how many ends of the list a variable is defined
abbrev one_if : Bool → ℕ
one_if true = 1
one_if false = 0

abbrev ends : List Definition → ℕ → ℕ
ends [] v = 0
ends (d ∷ ds) v = one_if (is_defined (d ∷ ds) v) + ends ds v

no_ends : (v : ℕ) (ds : List Definition) → is_defined ds v ≡ false → ends ds v ≡ 0
no_ends v [] e = refl
no_ends v (d ∷ ds) e =
    let h = or_parts (nat_eq d.variable v) (is_defined ds v) e in
    let k = no_ends v ds h.1 in
    ap (λ b. one_if b + ends ds v) e ∙ omega arith

first_ends : (d : Definition) (ds : List Definition) → 0 < ends (d ∷ ds) d.variable
first_ends d ds =
    let e : is_defined (d ∷ ds) d.variable ≡ true = ap (λ b. b || is_defined ds d.variable) (eq-eqb d.variable d.variable refl) in
    subst (λ b. 0 < one_if b + ends ds d.variable) (sym e) (omega arith)

one_at_most : (b : Bool) → one_if b ≤ 1
one_at_most true = omega arith
one_at_most false = omega arith

-- a variable that a definition uses is defined in fewer ends
abbrev Before : List Definition → Definition → Type 0
Before ds e = (is_defined ds e.variable ≡ true) × ((w : ℕ) → Contains (used e.by) w → ends ds w < ends ds e.variable)

later : (d : Definition) (ds : List Definition) (e : Definition) → Before ds e → Before (d ∷ ds) e
later d ds e h =
    let q : is_defined (d ∷ ds) e.variable ≡ true = or_right (nat_eq d.variable e.variable) (is_defined ds e.variable) h.0 in
    (q, λ w c. let k = h.1 w c in let l = one_at_most (is_defined (d ∷ ds) w) in subst (λ b. one_if (is_defined (d ∷ ds) w) + ends ds w < one_if b + ends ds e.variable) (sym q) (omega arith))

all_later : (d : Definition) (ds es : List Definition) → AllByRecursion (Before ds) es → AllByRecursion (Before (d ∷ ds)) es
all_later d ds [] a = tt
all_later d ds (e ∷ es) a = (later d ds e a.0, all_later d ds es a.1)

all_before : (n : ℕ) (ds : List Definition) → InOrder n ds → AllByRecursion (Before ds) ds
all_before n [] o = tt
all_before n (d ∷ ds) o = (
  (
    ap (λ b. b || is_defined ds d.variable) (eq-eqb d.variable d.variable refl),
    λ w c. let f = no_ends w (d ∷ ds) (all_contains (λ v. is_defined (d ∷ ds) v ≡ false) (used d.by) w c o.0.apart) in let g = first_ends d ds in omega arith,
  ),
  all_later d ds ds (all_before n ds o.1),
)

module _ (fs ds : List Definition) (before : AllByRecursion (Before fs) ds) where
  uses_before : (v w : ℕ) → Uses ds v w → ends fs w < ends fs v
  uses_before v w u =
      let b : Before fs u.1 = subst (Before fs) u.3 (all_at (Before fs) ds u.0 u.1 u.2 before) in
      subst (λ x. ends fs w < ends fs x) u.4.0 (b.1 w u.4.1)

  turn_before : (v : ℕ) (ws : List ℕ) (first : ℕ) → UsesInTurn ds v ws first → ends fs first < ends fs v
  turn_before v [] first u = uses_before v first u
  turn_before v (w ∷ ws) first u =
      let a = uses_before v w u.0 in
      let b = turn_before w ws first u.1 in
      omega arith

  no_cycle : (vs : List ℕ) → IsCycle ds vs → ⊥
  no_cycle [] c = c
  no_cycle (v ∷ vs) c = let l = turn_before v vs v c in omega arith

pub acyclic : (n : ℕ) (ds : List Definition) → length (ordered ds) ≡ length ds → InOrder n (ordered ds) → NoCycle ds
acyclic n ds e o vs c = no_cycle (ordered ds) ds (ordered_back (Before (ordered ds)) ds e (all_before n (ordered ds) o)) vs c
