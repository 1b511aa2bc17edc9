-- The columns that a leaf's rows name, and those that none names.
use Rattle.std.proofs.Common.{◌≡◌, ℕ, zero, suc, ◌+◌, ◌-◌, ◌<◌, ◌≤◌, ◌++◌, map, ℤ, pos, ◌+ℤ◌, ◌*ℤ◌, ◌<ℤ◌, ◌≤ℤ◌, ◌↔◌, List, [], ◌∷◌, length, get_or, Bool, true, false, cond, eqb, not, ◌&&◌, IsTrue, ◌⊎◌, ⊎_elim, inl, inr, FitsSigned, refl, ap, ◌∙◌, subst, arith}
use Rattle.std.specs.Int.{w128}
use Rattle.std.specs.Prelude.{All}
use Rattle.std.proofs.lemmas.Int.{ints}
use Rattle.std.proofs.lemmas.Bool.Decides.{eqb_tells}
use Rattle.std.proofs.lemmas.List.Elements.{All-nil, All-cons, All-head, All-tail}
use Rattle.sv_linear.specs.Terms.{coefficient}
use Rattle.sv_linear.specs.Divisors.{Divides}
use Rattle.sv_linear.specs.declared.column.Column.TheVariants.{Unknown, Constant}
use Rattle.farkas_check.specs.Systems.{Constraint, no_constraint, constraint_of}
use Rattle.farkas_check.specs.Closings.{combined, coefficient_of, constant_of, contains_number, edges_out, edges_in, Allowed, OfEquations, FarkasRule, DivisorRule}
use Rattle.farkas_check.specs.Fitting.{SumFits, LeafFits, IsMultipleAt}
use Rattle.sv_linear.specs.declared.row.Row.{Row}
use Rattle.sv_linear.proofs.Ascending.{absent_step}
use Rattle.farkas_check.specs.declared.net.NetEdge.{NetEdge}
use Rattle.farkas_check.proofs.Multiples.{divides_zero, zero_divides, none_of_zero}

abbrev pub no_edge : NetEdge
no_edge = record { «from» = 0; to = 0; unknown = 0 }

-- some term is the unknown's
pub record IsNamed (u : ℕ) (ts : List (ℕ × ℤ)) : Type 0 where
  pub place : ℕ
  pub within : place < length ts
  pub is : (get_or ts place (0, pos 0)).0 ≡ u

named_or_not : (u : ℕ) (ts : List (ℕ × ℤ)) → IsNamed u ts ⊎ (coefficient u ts ≡ pos 0)
named_or_not u [] = inr refl
named_or_not u (t ∷ ts) =
    ⊎_elim
    (λ e. inl (record { place = zero; within = omega arith; is = e.1 }))
    (λ e. ⊎_elim
    (λ n. inl (record { place = suc n.place; within = omega (arith, n.within); is = n.is }))
    (λ z. inr (absent_step u t ts (eqb t.0 u) e.0 z))
    (named_or_not u ts))
    (eqb_tells t.0 u)

-- the row of the multiplier at a place
abbrev pub row_at : List Constraint → List (ℕ × ℤ) → ℕ → Constraint
row_at rows ms k = get_or rows (get_or ms k (0, pos 0)).0 no_constraint

-- some multiplier's row names the unknown
record IsNamedBy (u : ℕ) (rows : List Constraint) (ms : List (ℕ × ℤ)) : Type 0 where
  place : ℕ
  within : place < length ms
  named : IsNamed u (row_at rows ms place).terms

named_by_or_not : (u : ℕ) (rows : List Constraint) (ms : List (ℕ × ℤ)) → IsNamedBy u rows ms ⊎ ((k : ℕ) → k < length ms → coefficient_of u (row_at rows ms k) ≡ pos 0)
named_by_or_not u rows [] = inr (λ k p. absurd (omega arith))
named_by_or_not u rows (m ∷ ms) =
    ⊎_elim
    (λ n. inl (record { place = zero; within = omega arith; named = n }))
    (λ z. ⊎_elim
    (λ n. inl (record { place = suc n.place; within = omega (arith, n.within); named = n.named }))
    (λ h. inr (each z h))
    (named_by_or_not u rows ms))
    (named_or_not u (get_or rows m.0 no_constraint).terms)
  where
    each : coefficient_of u (get_or rows m.0 no_constraint) ≡ pos 0 → ((k : ℕ) → k < length ms → coefficient_of u (row_at rows ms k) ≡ pos 0) →
        (k : ℕ) → k < length (m ∷ ms) → coefficient_of u (row_at rows (m ∷ ms) k) ≡ pos 0
    each z h zero p = z
    each z h (suc k) p = h k (omega arith)

-- where each row has 0, all sums are the first number
silent_sums : (part : Constraint → ℤ) (rows : List Constraint) (ms : List (ℕ × ℤ)) (sum : ℤ) → FitsSigned w128 sum → ((k : ℕ) → k < length ms → part (row_at rows ms k) ≡ pos 0) →
    SumFits part rows sum ms × (combined part rows ms ≡ pos 0)
silent_sums part rows [] sum f h = (tt, refl)
silent_sums part rows (m ∷ ms) sum f h =
    let z : m.1 *ℤ part (get_or rows m.0 no_constraint) ≡ pos 0 = ap (λ w. m.1 *ℤ w) (h zero (omega arith)) ∙ omega (arith, ints) in
    let same : sum ≡ sum +ℤ m.1 *ℤ part (get_or rows m.0 no_constraint) = omega (arith, ints) in
    let rest = silent_sums part rows ms sum f (λ k p. h (suc k) (omega arith)) in
    ((omega (arith, ints), (subst (FitsSigned w128) same f, subst (λ s. SumFits part rows s ms) same rest.0)), omega (arith, ints, rest.1))

-- what holds of the unknowns that the rows name holds of all
pub each_unknown : (rows : List Constraint) (ms : List (ℕ × ℤ)) (d : ℤ) → ((k : ℕ) → k < length ms → All (λ t. IsMultipleAt rows ms d (Unknown t.0)) (row_at rows ms k).terms) →
    (u : ℕ) → IsMultipleAt rows ms d (Unknown u)
each_unknown rows ms d h u =
    ⊎_elim
    (λ n. subst (λ v. IsMultipleAt rows ms d (Unknown v)) n.named.is (h n.place n.within n.named.place (0, pos 0) n.named.within))
    (λ z. let s = silent_sums (coefficient_of u) rows ms (pos 0) (omega (arith, ints)) z in (s.0, divides_zero d _ s.1))
    (named_by_or_not u rows ms)

out_step : (P : ℕ → Type 0) (u : ℕ) (z : ℤ) (ts : List (ℕ × ℤ)) → P u → All (λ t. P t.0) ts → (b : Bool) → All (λ t. P t.0) (cond b ((u, z) ∷ ts) ts)
out_step P u z ts p h true = All-cons (λ t. P t.0) (u, z) ts p h
out_step P u z ts p h false = h

-- the edges of a cut have unknowns of the net
pub out_named : (P : ℕ → Type 0) (set : List ℕ) (es : List NetEdge) (z : ℤ) → All (λ e. P e.unknown) es → All (λ t. P t.0) (edges_out set es z)
out_named P set [] z h = All-nil (λ t. P t.0)
out_named P set (e ∷ es) z h =
    out_step P e.unknown z (edges_out set es z) (All-head (λ e. P e.unknown) e es h) (out_named P set es z (All-tail (λ e. P e.unknown) e es h)) (contains_number e.«from» set)

pub in_named : (P : ℕ → Type 0) (set : List ℕ) (es : List NetEdge) (z : ℤ) → All (λ e. P e.unknown) es → All (λ t. P t.0) (edges_in set es z)
in_named P set [] z h = All-nil (λ t. P t.0)
in_named P set (e ∷ es) z h =
    out_step P e.unknown z (edges_in set es z) (All-head (λ e. P e.unknown) e es h) (in_named P set es z (All-tail (λ e. P e.unknown) e es h)) (contains_number e.to set && not (contains_number e.«from» set))

each_column : (rows : List Constraint) (ms : List (ℕ × ℤ)) → ((u : ℕ) → SumFits (coefficient_of u) rows (pos 0) ms) → SumFits constant_of rows (pos 0) ms → LeafFits rows ms
each_column rows ms h k (Unknown u) = h u
each_column rows ms h k Constant = k

pub equations_allowed : (low : ℕ) (rows : List Constraint) (ms : List (ℕ × ℤ)) → OfEquations low rows ms → Allowed low rows ms
equations_allowed low rows [] e = tt
equations_allowed low rows (m ∷ ms) e = (e.0, (e.1.0, (inl e.1.1.0, equations_allowed (m.0 + 1) rows ms e.1.1.1)))

-- the rows that multipliers are for are there
pub rows_within : (low : ℕ) (rows : List Constraint) (ms : List (ℕ × ℤ)) (k : ℕ) → Allowed low rows ms → k < length ms → (get_or ms k (0, pos 0)).0 < length rows
rows_within low rows [] k a p = absurd (omega arith)
rows_within low rows (m ∷ ms) zero a p = a.1.0
rows_within low rows (m ∷ ms) (suc k) a p = rows_within (m.0 + 1) rows ms k a.1.1.1 (omega arith)

pub farkas_told : (rows : List Constraint) (ms : List (ℕ × ℤ)) (told : Bool) → Allowed 0 rows ms → ((u : ℕ) → IsMultipleAt rows ms (pos 0) (Unknown u)) → SumFits constant_of rows (pos 0) ms →
    (told ≡ true → pos 0 <ℤ combined constant_of rows ms) → (pos 0 <ℤ combined constant_of rows ms → told ≡ true) →
    IsTrue told ↔ (FarkasRule rows ms × LeafFits rows ms)
farkas_told rows ms told a v f forth back = (
  (λ t. (
    record { allowed = a; vanishes = λ u. none_of_zero _ (v u).1; above_zero = forth t },
    each_column rows ms (λ u. (v u).0) f,
  )),
  (λ p. back p.0.above_zero),
)

pub divisor_told : (rows : List Constraint) (ms : List (ℕ × ℤ)) (d : ℤ) (told : Bool) → OfEquations 0 rows ms → pos 2 ≤ℤ d → ((u : ℕ) → IsMultipleAt rows ms d (Unknown u)) → SumFits constant_of rows (pos 0) ms →
    (told ≡ true → Divides d (combined constant_of rows ms) → ⊥) → ((Divides d (combined constant_of rows ms) → ⊥) → told ≡ true) →
    IsTrue told ↔ (DivisorRule rows ms d × LeafFits rows ms)
divisor_told rows ms d told a two v f forth back = (
  (λ t. (
    record { allowed = a; at_least_two = two; divides = λ u. (v u).1; apart = forth t },
    each_column rows ms (λ u. (v u).0) f,
  )),
  (λ p. back p.0.apart),
)

-- a leaf that meets a rule has multiples at all unknowns
pub farkas_multiples : (rows : List Constraint) (ms : List (ℕ × ℤ)) → FarkasRule rows ms → LeafFits rows ms → (u : ℕ) → IsMultipleAt rows ms (pos 0) (Unknown u)
farkas_multiples rows ms r f u = (f (Unknown u), zero_divides _ (r.vanishes u))

pub divisor_multiples : (rows : List Constraint) (ms : List (ℕ × ℤ)) (d : ℤ) → DivisorRule rows ms d → LeafFits rows ms → (u : ℕ) → IsMultipleAt rows ms d (Unknown u)
divisor_multiples rows ms d r f u = (f (Unknown u), r.divides u)

-- the rows of a node: first the system's
pub own_row : (rows : List Row) (above : List Constraint) (place : ℕ) (d : Row) → place < length rows → get_or (map constraint_of rows ++ above) place no_constraint ≡ constraint_of (get_or rows place d)
own_row [] above place d p = absurd (omega arith)
own_row (s ∷ ss) above zero d p = refl
own_row (s ∷ ss) above (suc place) d p = own_row ss above place d (omega arith)

pub branch_row : (rows : List Row) (above : List Constraint) (place : ℕ) → length rows ≤ place → get_or (map constraint_of rows ++ above) place no_constraint ≡ get_or above (place - length rows) no_constraint
branch_row [] above place p = ap (λ n. get_or above n no_constraint) (omega arith)
branch_row (s ∷ ss) above zero p = absurd (omega arith)
branch_row (s ∷ ss) above (suc place) p = branch_row ss above place (omega arith) ∙ ap (λ n. get_or above n no_constraint) (omega arith)
