-- Cuts that lead to no end are covered.
use Rattle.std.proofs.Common.{◌≡◌, ℕ, zero, suc, ◌<◌, ◌+◌, ◌&&◌, Bool, true, false, List, [], ◌∷◌, ◌++◌, length, drop, Some, Contains, slice_get, sym, ap, ap₂, ◌∙◌, refl, subst, append_assoc, arith}
use Rattle.machine_core.specs.declared.graph.Graph.{Graph}
use Rattle.search_hits.specs.declared.region.Region.{Region}
use Rattle.flat_cubes.specs.Using.{used}
use Rattle.flat_cubes.specs.declared.definition.By.TheVariants as by
use Rattle.flat_cubes.specs.declared.definition.Definition.{Definition}
use Rattle.flat_cubes.specs.declared.flat.Flat.{Flat}
use Rattle.backward.specs.Chains.{width}
use Rattle.backward.specs.Definitions.{definition}
use Rattle.backward.specs.Families.{Family, HasMachine}
use Rattle.backward.specs.Pieces.{AreCuts, ConfCut}
use Rattle.backward.specs.Ways.{LeadInTurn, is_set, is_marked, AreLive, AreNext}
use Rattle.backward.proofs.StepLemmas.{one-definition}
use Rattle.backward.proofs.WayLemmas.{conf-leads, lead-drop}
use Rattle.cube_search.specs.declared.tally.LeafTally.{LeafTally}
use Rattle.cube_search.specs.Steps.{IsCutting}
use Rattle.cube_search.specs.Tallies.{AreCoveredFrom}

-- some cuts of a machine: all at the start
starts : List ℕ → List ℕ
starts [] = []
starts (p ∷ ps) = 0 ∷ starts ps

pub some-cuts : (m : Graph) (pieces : List ℕ) → 0 < length pieces → (cuts : List ℕ) × AreCuts m pieces cuts
unfolding starts
some-cuts m [] lt = absurd (omega (arith, lt))
some-cuts m (p ∷ ps) lt = (starts ps, record { count = ap suc (count ps); states = all ps })
  where
    count : (ps : List ℕ) → length ps ≡ length (starts ps)
    count [] = refl
    count (p ∷ ps) = ap suc (count ps)

    all : (ps : List ℕ) (s : ℕ) → Contains (starts ps) s → s < m.states
    all [] s c = absurd (omega (arith, c.1))
    all (p ∷ ps) s (zero, k, e) = subst (λ t. t < m.states) e m.started
    all (p ∷ ps) s (suc n, k, e) = all ps s (n, omega (arith, k), e)

-- each piece has a machine, and is another variable than the one that is defined
pub cutting-others : (flat : Flat) (at : ℕ) (pieces : List ℕ) (ms : Family) (cuts : List ℕ) (c : IsCutting flat at pieces ms cuts) (p : ℕ) → Contains pieces p
    → (p ≡ c.variable → ⊥) × ((m : Graph) × HasMachine ms p m)
cutting-others flat at pieces ms cuts c p stands =
    let few = c.fewer in
    let first = some-cuts c.machine pieces (omega arith) in
    let can = c.can first.0 first.1 in
    let same = one-definition flat.definitions at (definition can.variable (by.Concat can.pieces)) (definition c.variable (by.Concat pieces)) can.defined c.defined in
    let ps : can.pieces ≡ pieces = ap (λ (d : Definition). used d.by) same in
    let v : can.variable ≡ c.variable = ap (λ (d : Definition). d.variable) same in
    let there = can.can.others p (subst (λ l. Contains l p) (sym ps) stands) in
    (subst (λ x. p ≡ x → ⊥) v there.0, there.1)

pub cutting-pieces : (flat : Flat) (at : ℕ) (pieces : List ℕ) (ms : Family) (cuts : List ℕ) → IsCutting flat at pieces ms cuts → (p : ℕ) → Contains pieces p → (m : Graph) × HasMachine ms p m
cutting-pieces flat at pieces ms cuts c p stands = (cutting-others flat at pieces ms cuts c p stands).1

module _ (flat : Flat) (at : ℕ) (pieces cuts : List ℕ) (ms : Family) (s : ℕ) (next : List Bool) (live : List (List Bool)) (cutting : IsCutting flat at pieces ms cuts)
    (are_next : (d : Definition) (m : Graph) → slice_get flat.definitions at ≡ Some d → HasMachine ms d.variable m → AreNext ms m pieces cuts next)
    (are_live : (d : Definition) (m : Graph) → slice_get flat.definitions at ≡ Some d → HasMachine ms d.variable m → AreLive ms m pieces live)
    (bars : (is_set next s && is_marked live (length cuts + 1) s) ≡ false) where
  -- no words lead through a cut that may not come next, or doesn't lead on
  pub barred : (x : ℕ) (m : Graph) (rest : List ℕ) → slice_get flat.definitions at ≡ Some (definition x (by.Concat pieces)) → HasMachine ms x m → LeadInTurn ms m ((0 ∷ cuts) ++ s ∷ rest) pieces → ⊥
  barred x m rest e there lead =
      let d = definition x (by.Concat pieces) in
      let one : suc (length cuts) ≡ length cuts + 1 = omega arith in
      let behind = subst (λ n. LeadInTurn ms m (s ∷ rest) (drop n pieces)) one (lead-drop ms m (0 ∷ cuts) (s ∷ rest) pieces lead) in
      let a : is_set next s ≡ true = are_next d m e there s rest lead in
      let b : is_marked live (length cuts + 1) s ≡ true = are_live d m e there (length cuts + 1) s rest behind in
      let both : (is_set next s && is_marked live (length cuts + 1) s) ≡ true = ap₂ (λ i j. i && j) a b in
      let t : true ≡ false = sym both ∙ bars in cc

  -- so no configuration is cut there
  pub barred-arm : (region : Region) (tally : LeafTally) → AreCoveredFrom flat region at pieces ms (cuts ++ s ∷ []) tally
  barred-arm region tally x e words totals ints rest m there are conf obey meets =
      let d = definition x (by.Concat pieces) in
      let v : cutting.variable ≡ x = ap (λ (d : Definition). d.variable) (one-definition flat.definitions at (definition cutting.variable (by.Concat pieces)) d cutting.defined e) in
      let others : (p : ℕ) → Contains pieces p → p ≡ x → ⊥ = λ p stands. subst (λ y. p ≡ y → ⊥) v (cutting-others flat at pieces ms cuts cutting p stands).0 in
      absurd (barred x m rest e there
      (conf-leads (width flat) ms x pieces (cuts ++ s ∷ rest) words totals m there others (subst (λ l. ConfCut (width flat) ms x pieces l words totals) (append_assoc cuts (s ∷ []) rest) conf)))
