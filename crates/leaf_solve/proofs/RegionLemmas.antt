-- Regions whose hits would be short.
use Rattle.std.proofs.Common.{◌≡◌, ℕ, zero, suc, ℤ, pos, ◌*◌, ◌<◌, ◌≤◌, List, [], ◌∷◌, length, map, Bool, true, false, refl, ap, ◌∙◌, subst, sym, arith}
use Rattle.std.proofs.lemmas.Int.{ints}
use Rattle.std.specs.List.{AllByRecursion, AllZip}
use Rattle.sv_linear.specs.Rows.{MeetsRow, unknowns_of}
use Rattle.sv_linear.specs.declared.row.Row.{Row}
use Rattle.machine_core.specs.declared.graph.Graph.{Graph}
use Rattle.machine_core.specs.declared.run.Run.{Run}
use Rattle.trim_search.specs.Shortest.{IsShortestRun}
use Rattle.search_hits.specs.Hits.{IsHit, runs_total, characters}
use Rattle.search_hits.specs.Regions.{points, greatest_states, IsHitWithin, IsShortHit}
use Rattle.search_hits.specs.declared.region.Region.{Region}
use Rattle.leaf_solve.specs.Questions.{IsAsked, EachHit, LieIn}
use Rattle.leaf_solve.specs.Longs.{IsShortestWord, letters}
use Rattle.leaf_solve.specs.Answers.{HasNoHit, HasHitsPast, IsLongAnswer}
use Rattle.leaf_solve.specs.declared.long_shown.LongShown.TheVariants.{Words}
use Rattle.leaf_solve.proofs.RunLemmas.{least-characters, runs-each, inhabited, shortest-words, letters-are}

-- a region that holds a hit holds a short one
abbrev pub AreShort : List Graph → Region → Type 0
AreShort machines region = (integers : ℕ) (rows : List Row) (runs : List (Run ℕ)) (numbers : List ℤ)
    → IsHitWithin machines integers rows region runs numbers → (short : List (Run ℕ)) × IsShortHit machines integers rows region short numbers

too-many : (a b c : ℕ) → a ≤ b → b ≤ c → c < a → ⊥
too-many a b c h g k = omega arith

pub within-reach : (a b c : ℕ) → a ≤ b → b ≤ c → a ≤ c
within-reach a b c h g = omega arith

module _ (machines : List Graph) (integers : ℕ) (rows : List Row) (region : Region) (small : Bool) (reach : ℕ) (asked : IsAsked machines integers rows region small reach) where
  -- where each hit is past the reach, none lies in the region
  pub past-outside : AreShort machines region → HasHitsPast machines (length region.registers) integers rows reach
      → EachHit machines (length region.registers) integers rows (λ runs numbers. LieIn region runs numbers → ⊥)
  past-outside short past = λ runs numbers hit lies.
      let s = short integers rows runs numbers (record { hit = hit; within = lies }) in
      too-many (characters s.0) (greatest_states machines * points region * length machines) reach s.1.short (asked.short lies.not_empty) (past s.0 numbers s.1.hit.hit)

  -- and there is none at all where the region holds each hit
  pub past-none : AreShort machines region → small ≡ true → HasHitsPast machines (length region.registers) integers rows reach → HasNoHit machines (length region.registers) integers rows
  past-none short is past = λ runs numbers hit. past-outside short past runs numbers hit (asked.holds is runs numbers hit)

  -- what the search finds is a hit within the reach
  pub found-hit : (runs : List (Run ℕ)) (numbers : List ℤ) → IsShortHit machines integers rows region runs numbers
      → IsHit machines (length region.registers) integers rows runs numbers × (characters runs ≤ reach)
  found-hit runs numbers h =
      (h.hit.hit, within-reach (characters runs) (greatest_states machines * points region * length machines) reach h.short (asked.short h.hit.within.not_empty))

  -- where it finds nothing there is none in the region, and none at all where the region holds each hit
  pub none-found : ((runs : List (Run ℕ)) (numbers : List ℤ) → IsHitWithin machines integers rows region runs numbers → ⊥)
      → EachHit machines (length region.registers) integers rows (λ runs numbers. LieIn region runs numbers → ⊥)
  none-found none = λ runs numbers hit lies. none runs numbers (record { hit = hit; within = lies })

  pub none-held : ((runs : List (Run ℕ)) (numbers : List ℤ) → IsHitWithin machines integers rows region runs numbers → ⊥) → small ≡ true
      → HasNoHit machines (length region.registers) integers rows
  none-held none is = λ runs numbers hit. none runs numbers (record { hit = hit; within = asked.holds is runs numbers hit })

-- shortest runs are a hit where there are no rows, and no hit has fewer characters
pub shortest-hit : (machines : List Graph) (registers integers : ℕ) (rows : List Row) (runs : List (Run ℕ)) (numbers : List ℤ) → rows ≡ [] → length numbers ≡ integers → AllZip IsShortestRun machines runs
    → IsHit machines registers integers rows runs numbers
shortest-hit machines registers integers rows runs numbers none size shortest = record {
  each = runs-each machines runs shortest;
  meets = record { count = size; each = subst (λ (l : List Row). AllByRecursion (MeetsRow (unknowns_of numbers (runs_total registers runs))) l) (sym none) tt };
}

pub shortest-past : (machines : List Graph) (registers integers : ℕ) (rows : List Row) (runs : List (Run ℕ)) (reach : ℕ) → AllZip IsShortestRun machines runs → reach < characters runs
    → HasHitsPast machines registers integers rows reach
shortest-past machines registers integers rows runs reach shortest long = λ others numbers hit.
    let least = least-characters machines runs others shortest hit.each in
    omega arith

-- shortest words that are too long together
pub long-words : (machines : List Graph) (integers : ℕ) (rows : List Row) (region : Region) (small : Bool) (reach : ℕ) → IsAsked machines integers rows region small reach → AreShort machines region
    → (runs : List (Run ℕ)) (words : List (List ℕ)) → rows ≡ [] → AllZip IsShortestRun machines runs → reach < characters runs → words ≡ map (λ (run : Run ℕ). run.word) runs
    → IsLongAnswer machines (length region.registers) integers rows region small reach (Words words)
long-words machines integers rows region small reach asked short runs words none shortest long same =
    let past = shortest-past machines (length region.registers) integers rows runs reach shortest long in
    record {
      inhabited = inhabited machines runs shortest;
      past = past;
      none_in_region = past-outside machines integers rows region small reach asked short past;
      shown = (
        none,
        subst (λ (l : List (List ℕ)). AllZip IsShortestWord machines l) (sym same) (shortest-words machines runs shortest),
        (let size = ap letters same ∙ letters-are runs in omega (arith, ints)),
      );
    }

-- so they aren't where the region holds each hit
pub words-decided : (machines : List Graph) (integers : ℕ) (rows : List Row) (region : Region) (small : Bool) (reach : ℕ) → IsAsked machines integers rows region small reach → AreShort machines region
    → (runs : List (Run ℕ)) → rows ≡ [] → AllZip IsShortestRun machines runs → reach < characters runs → small ≡ true → ⊥
words-decided machines integers rows region small reach asked short runs none shortest long is =
    let numbers = some-numbers integers in
    past-none machines integers rows region small reach asked short is (shortest-past machines (length region.registers) integers rows runs reach shortest long)
    runs numbers.0 (shortest-hit machines (length region.registers) integers rows runs numbers.0 none numbers.1 shortest)
  where
    some-numbers : (n : ℕ) → (numbers : List ℤ) × (length numbers ≡ n)
    some-numbers zero = ([], refl)
    some-numbers (suc n) = let rest = some-numbers n in (pos zero ∷ rest.0, ap suc rest.1)

pub not-within : (a b : ℕ) (t : Bool) → (a ≤ b → t ≡ true) → t ≡ false → b < a
not-within a b t h e = by_less b a (λ lt. lt) (λ le. absurd (let y = h le in cc))
  where
    by_less : {P : Type 0} (m n : ℕ) → (m < n → P) → (n ≤ m → P) → P
    by_less m zero f g = g (omega arith)
    by_less zero (suc n) f g = f (omega arith)
    by_less (suc m) (suc n) f g = by_less m n (λ lt. f (omega arith)) (λ le. g (omega arith))
