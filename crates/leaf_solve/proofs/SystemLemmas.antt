-- Systems that are closed have no hits.
use Rattle.std.proofs.Common.{◌≡◌, ℕ, ℤ, ◌+◌, ◌<◌, ◌≤◌, zero, suc, List, [], ◌∷◌, length, map, take, Bool, Option, Some, None, IfSome, get_or, pos, refl, sym, ap, ◌∙◌, subst, arith}
use Rattle.std.specs.List.{range_with_len}
use Rattle.sv_linear.specs.Rows.{NameUnknowns}
use Rattle.sv_linear.specs.declared.row.Row.{Row}
use Rattle.machine_core.specs.declared.graph.Graph.{Graph}
use Rattle.machine_core.specs.declared.run.Run.{Run}
use Rattle.farkas_check.specs.Closings.{Closes}
use Rattle.farkas_check.specs.Cuts.{values_of}
use Rattle.farkas_check.specs.Systems.{Solves, rows_of, no_constraint}
use Rattle.farkas_check.specs.declared.system.System.{System}
use Rattle.farkas_check.specs.declared.tree.Tree.{Tree}
use Rattle.farkas_check.proofs.Soundness.{closes_sound}
use Rattle.search_hits.specs.Hits.{IsHit, HaveRegisters, characters}
use Rattle.search_hits.specs.declared.region.Region.{Region}
use Rattle.lia_branch.specs.Outcomes.{IsSolution}
use Rattle.parikh_flow.specs.Rows.{IsSystemOf}
use Rattle.parikh_flow.specs.Solutions.{HaveFlowsAt, AreRunValues}
use Rattle.leaf_solve.specs.Questions.{IsAsked}
use Rattle.leaf_solve.specs.Answers.{HasNoHit, HasHitsPast, row_reach}

pub names : (machines : List Graph) (integers : ℕ) (rows : List Row) (region : Region) (small : Bool) (reach : ℕ) → IsAsked machines integers rows region small reach → NameUnknowns (integers + length region.registers) rows
names machines integers rows region small reach asked = λ i r e. (asked.rows_within i r e).unknowns

-- a hit that isn't too long solves the system
abbrev pub HitsSolve : List Graph → System → Type 0
HitsSolve machines system = (registers : ℕ) (rows : List Row) (reach : Option ℕ) (runs : List (Run ℕ)) (numbers : List ℤ)
    → IsSystemOf machines (length numbers) registers rows reach system → NameUnknowns (length numbers + registers) rows
    → HaveRegisters registers machines
    → IsHit machines registers (length numbers) rows runs numbers → IfSome reach (λ most. characters runs ≤ most)
    → (x : ℕ → ℤ) × AreRunValues x machines registers runs numbers × Solves x (rows_of system) system.nets

module _ (machines : List Graph) (registers integers : ℕ) (rows : List Row) (named : NameUnknowns (integers + registers) rows) (same : HaveRegisters registers machines) (system : System) (law : HitsSolve machines system) (tree : Tree) (closes : Closes system tree) where
  no-hit : (reach : Option ℕ) → IsSystemOf machines integers registers rows reach system → (runs : List (Run ℕ)) (numbers : List ℤ) → IsHit machines registers integers rows runs numbers
      → IfSome reach (λ most. characters runs ≤ most) → ⊥
  no-hit reach is runs numbers hit short =
      let e = sym hit.meets.count in
      let v = law registers rows reach runs numbers (subst (λ n. IsSystemOf machines n registers rows reach system) e is) (subst (λ n. NameUnknowns (n + registers) rows) e named) same
      (subst (λ n. IsHit machines registers n rows runs numbers) e hit) short in
      closes_sound tree system.nets (rows_of system) closes v.0 (λ k p. v.2.meets k no_constraint p) v.2.joins

  pub closed-none : IsSystemOf machines integers registers rows None system → HasNoHit machines registers integers rows
  closed-none is = λ runs numbers hit. no-hit None is runs numbers hit tt

  pub closed-past : (reach : ℕ) → IsSystemOf machines integers registers rows (Some reach) system → HasHitsPast machines registers integers rows reach
  closed-past reach is = λ runs numbers hit. by_less reach (characters runs) (λ lt. lt) (λ le. absurd (no-hit (Some reach) is runs numbers hit le))
    where
      by_less : {P : Type 0} (m n : ℕ) → (m < n → P) → (n ≤ m → P) → P
      by_less m zero f g = g (omega arith)
      by_less zero (suc n) f g = f (omega arith)
      by_less (suc m) (suc n) f g = by_less m n (λ lt. f (omega arith)) (λ le. g (omega arith))

-- runs with the counts of a solution are a hit
abbrev pub FlowsHit : List Graph → System → Type 0
FlowsHit machines system = (integers registers : ℕ) (rows : List Row) (reach : Option ℕ) (x : ℕ → ℤ) (runs : List (Run ℕ))
    → IsSystemOf machines integers registers rows reach system → NameUnknowns (integers + registers) rows
    → HaveRegisters registers machines
    → Solves x (rows_of system) system.nets → HaveFlowsAt x (integers + registers) machines runs
    → IsHit machines registers integers rows runs (map x (range_with_len 0 integers)) × IfSome reach (λ most. characters runs ≤ most)

-- and each solution has such runs
abbrev pub SolutionsFlow : List Graph → System → Type 0
SolutionsFlow machines system = (integers registers : ℕ) (rows : List Row) (reach : Option ℕ) (x : ℕ → ℤ)
    → IsSystemOf machines integers registers rows reach system → Solves x (rows_of system) system.nets
    → (runs : List (Run ℕ)) × HaveFlowsAt x (integers + registers) machines runs

-- where nothing meets the rows nothing solves the system
pub none-solves : (machines : List Graph) (registers integers : ℕ) (rows : List Row) → NameUnknowns (integers + registers) rows → HaveRegisters registers machines
    → (system : System) → FlowsHit machines system → SolutionsFlow machines system → IsSystemOf machines integers registers rows None system
    → HasNoHit machines registers integers rows → (point : List ℤ) → IsSolution system point → ⊥
none-solves machines registers integers rows named same system hits flows is none point solution =
    let f = flows integers registers rows None (values_of point) is solution.solves in
    none f.0 (map (values_of point) (range_with_len 0 integers)) (hits integers registers rows None (values_of point) f.0 is named same solution.solves f.1).0

-- the system has a row for reach where there is a machine
pub row-reach : (machines : List Graph) (reach : ℕ) → (machines ≡ [] → ⊥) → row_reach machines reach ≡ Some reach
row-reach [] reach some = absurd (some refl)
row-reach (m ∷ ms) reach some = refl

pub row-none : (machines : List Graph) (reach : ℕ) → machines ≡ [] → row_reach machines reach ≡ None
row-none [] reach none = refl
row-none (m ∷ ms) reach none = absurd (cc)

pub reach-holds : (machines : List Graph) (reach : ℕ) (x : ℕ → ℤ) (base : ℕ) (runs : List (Run ℕ)) → HaveFlowsAt x base machines runs → IfSome (row_reach machines reach) (λ most. characters runs ≤ most)
    → characters runs ≤ reach
reach-holds [] reach x base [] flows h = omega arith
reach-holds [] reach x base (r ∷ rs) flows h = absurd flows
reach-holds (m ∷ ms) reach x base runs flows h = h

-- the first values of a point
take-range : (x : ℕ → ℤ) (a n : ℕ) (ys : List ℤ) → n ≤ length ys → ((k : ℕ) → k < n → x (a + k) ≡ get_or ys k (pos 0)) → take n ys ≡ map x (range_with_len a n)
take-range x a zero [] le h = refl
take-range x a zero (y ∷ ys) le h = refl
take-range x a (suc n) [] le h = absurd (omega arith)
take-range x a (suc n) (y ∷ ys) le h =
    let here = h zero (omega arith) in
    let z : a + zero ≡ a = omega arith in
    ap (λ v. v ∷ take n ys) (sym here ∙ ap x z)
    ∙ ap (λ l. x a ∷ l) (take-range x (a + 1) n ys (omega arith) (λ k lt. ap x (let w : a + 1 + k ≡ a + suc k = omega arith in w) ∙ h (suc k) (omega arith)))

pub take-values : (point : List ℤ) (n : ℕ) → n ≤ length point → take n point ≡ map (values_of point) (range_with_len 0 n)
take-values point n le = take-range (values_of point) 0 n point le (λ k lt. ap (values_of point) (let z : 0 + k ≡ k = omega arith in z))
