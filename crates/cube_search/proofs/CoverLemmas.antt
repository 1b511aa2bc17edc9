-- What is covered: the cuts of a concatenation together, and a definition through a transducer.
use Rattle.std.proofs.Common.{◌≡◌, ℕ, suc, ◌<◌, ◌+◌, ◌↔◌, ℤ, List, [], ◌∷◌, ◌++◌, length, map, Some, slice_get, refl, sym, subst, append_assoc, append-nil, length-append, arith, inl, inr}
use Rattle.sv_list.specs.Lists.{Contains-middle}
use Rattle.sv_terms.specs.Meaning.{joined}
use Rattle.machine_core.specs.declared.graph.Graph.{Graph}
use Rattle.search_hits.specs.declared.region.Region.{Region}
use Rattle.flat_cubes.specs.declared.definition.By.{By}
use Rattle.flat_cubes.specs.declared.definition.By.TheVariants.{Concat}
use Rattle.flat_cubes.specs.declared.flat.Flat.{Flat}
use Rattle.backward.specs.Families.{Family, Words, HasMachine, Conf}
use Rattle.backward.specs.Pieces.{ConfCut, AreCuts}
use Rattle.backward.specs.Definitions.{definition}
use Rattle.backward.specs.Chains.{width, ConfBefore}
use Rattle.cube_search.specs.declared.tally.LeafTally.{LeafTally}
use Rattle.cube_search.specs.Steps.{AreExact}
use Rattle.cube_search.specs.Tallies.{Keeps, IsAccounted, IsCovered, IsCoveredFrom}
use Rattle.cube_search.proofs.ConfLemmas.{conf-put}
use Rattle.cube_search.proofs.OrderLemmas.{obey-split}

-- what was accounted for still is
pub accounted-kept : (flat : Flat) (region : Region) (old new : LeafTally) → Keeps old new → (words : Words) (totals : List ℕ) (ints : List ℤ)
    → IsAccounted flat region old words totals ints → IsAccounted flat region new words totals ints
accounted-kept flat region old new k words totals ints h = elim h [
  | inl a ↦ inl (a.0, a.1, k.given a.2, a.3)
  | inr b ↦ inr (b.0, b.1, k.long b.2, b.3, b.4)
]

pub covered-from-kept : (flat : Flat) (region : Region) (at x : ℕ) (pieces : List ℕ) (ms : Family) (cuts : List ℕ) (old new : LeafTally) → Keeps old new
    → IsCoveredFrom flat region at x pieces ms cuts old → IsCoveredFrom flat region at x pieces ms cuts new
covered-from-kept flat region at x pieces ms cuts old new k h words totals ints rest m there are conf obey meets =
    accounted-kept flat region old new k words totals ints (h words totals ints rest m there are conf obey meets)

pub keeps-same : (t : LeafTally) → Keeps t t
keeps-same t = record { given = λ h. h; long = λ h. h }

pub keeps-more : (a b c : LeafTally) → Keeps a b → Keeps b c → Keeps a c
keeps-more a b c h k = record { given = λ s. k.given (h.given s); long = λ s. k.long (h.long s) }

-- all next cuts together
pub covered-all : (flat : Flat) (region : Region) (at x : ℕ) (pieces : List ℕ) (ms : Family) (cuts : List ℕ) (tally : LeafTally) (bound : ℕ)
    → ((m : Graph) → HasMachine ms x m → bound ≡ m.states) → (length cuts + 1 ≡ length pieces → ⊥)
    → ((s : ℕ) → s < bound → IsCoveredFrom flat region at x pieces ms (cuts ++ s ∷ []) tally) → IsCoveredFrom flat region at x pieces ms cuts tally
covered-all flat region at x pieces ms cuts tally bound is ne h words totals ints [] m there are conf obey meets =
    let n = are.count in let e = length-append cuts [] in absurd (ne (omega arith))
covered-all flat region at x pieces ms cuts tally bound is ne h words totals ints (s ∷ rest) m there are conf obey meets =
    let below : s < bound = (let lt = are.states s (Contains-middle cuts s rest) in let b = is m there in omega arith) in
    let same : cuts ++ s ∷ rest ≡ (cuts ++ s ∷ []) ++ rest = sym (append_assoc cuts (s ∷ []) rest) in
    h s below words totals ints rest m there (subst (AreCuts m pieces) same are) (subst (λ c. ConfCut (width flat) ms x pieces c words totals) same conf) obey meets

-- whole cuts
pub covered-whole : (flat : Flat) (region : Region) (at x : ℕ) (pieces : List ℕ) (ms ns : Family) (cuts : List ℕ) (tally : LeafTally)
    → length cuts + 1 ≡ length pieces → ((words : Words) (totals : List ℕ) → Conf (width flat) ns words totals ↔ ConfCut (width flat) ms x pieces cuts words totals)
    → IsCovered flat region at ns tally → IsCoveredFrom flat region at x pieces ms cuts tally
covered-whole flat region at x pieces ms ns cuts tally full same h words totals ints [] m there are conf obey meets =
    h words totals ints ((same words totals).1 (subst (λ c. ConfCut (width flat) ms x pieces c words totals) (append-nil cuts) conf)) obey meets
covered-whole flat region at x pieces ms ns cuts tally full same h words totals ints (s ∷ rest) m there are conf obey meets =
    let n = are.count in let e = length-append cuts (s ∷ rest) in absurd (omega arith)

-- a concatenation, once all its cuts are covered
pub covered-concat : (flat : Flat) (region : Region) (at x : ℕ) (pieces : List ℕ) (ms : Family) (tally : LeafTally) → AreExact (width flat) ms → (m : Graph) → HasMachine ms x m
    → slice_get flat.definitions at ≡ Some (definition x (Concat pieces)) → 0 < length pieces
    → IsCoveredFrom flat region at x pieces ms [] tally → IsCovered flat region (suc at) ms tally
covered-concat flat region at x pieces ms tally exact m there e some h words totals ints conf obey meets =
    let d = definition x (Concat pieces) in
    let parts = obey-split flat.definitions at d words e obey in
    let cut = (exact x m pieces words totals there some).1 (conf-put (width flat) ms words x (joined (map words pieces)) totals parts.1 conf) in
    h words totals ints cut.0 m there cut.1 cut.2 parts.0 meets

-- another definition
pub covered-through : (flat : Flat) (region : Region) (at x : ℕ) (b : By) (ms ns : Family) (tally : LeafTally)
    → slice_get flat.definitions at ≡ Some (definition x b)
    → ((words : Words) (totals : List ℕ) → Conf (width flat) ns words totals ↔ ConfBefore (width flat) ms x b words totals)
    → IsCovered flat region at ns tally → IsCovered flat region (suc at) ms tally
covered-through flat region at x b ms ns tally e same h words totals ints conf obey meets =
    let parts = obey-split flat.definitions at (definition x b) words e obey in
    h words totals ints ((same words totals).1 (words x, parts.1, conf-put (width flat) ms words x (words x) totals refl conf)) parts.0 meets
