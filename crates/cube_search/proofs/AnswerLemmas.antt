-- The answer from the first family, and what is left where no leaf has a hit.
use Rattle.std.proofs.Common.{◌≡◌, ℕ, zero, suc, ◌<◌, ◌≤◌, ◌+◌, ◌*◌, ◌/◌, pos, ◌≤ℤ◌, ◌<ℤ◌, Bool, List, [], ◌∷◌, length, map, Option, Some, None, refl, sym, ap, ◌∙◌, subst, arith, inl, inr}
use Rattle.std.specs.List.{range_with_len, sum_by}
use Rattle.std.proofs.lemmas.Int.{ints}
use Rattle.std.proofs.lemmas.List.{length-map}
use Rattle.std.proofs.lemmas.List.Sums.{sum_by-cons}
use Rattle.sv_terms.specs.Language.{Word}
use Rattle.sv_terms.specs.Meaning.{Named}
use Rattle.sv_terms.specs.Truth.{AreWorded}
use Rattle.search_hits.specs.declared.region.Region.{Region}
use Rattle.leaf_solve.specs.Longs.{letters}
use Rattle.cube_bounds.specs.Bounds.{greatest, sources_of}
use Rattle.cube_bounds.specs.Growth.{growth, growth_of, longest_word, reach}
use Rattle.cube_bounds.specs.NumberLaws.{source_length}
use Rattle.flat_cubes.specs.Satisfying.{word_at, lengths_of, AreModelValues, Satisfies}
use Rattle.flat_cubes.specs.Straight.{IsStraight}
use Rattle.flat_cubes.specs.declared.flat.Flat.{Flat}
use Rattle.backward.specs.Chains.{IsLedFrom}
use Rattle.backward.specs.Families.{Family}
use Rattle.backward.specs.Leaves.{source_words}
use Rattle.backward.specs.Runs.{run_words}
use Rattle.backward.specs.States.{IsLittle}
use Rattle.cube_region.specs.Regions.{IsRegionFor}
use Rattle.cube_search.specs.LeafTallies.{left_of, left_given, left_long}
use Rattle.cube_search.specs.Limits.{GrowsLittle, MustDecideFlat}
use Rattle.cube_search.specs.declared.answer.Refutation.{Refutation}
use Rattle.cube_search.specs.declared.tally.GivenUpLeaf.{GivenUpLeaf}
use Rattle.cube_search.specs.declared.tally.LongLeaf.{LongLeaf}
use Rattle.cube_search.specs.declared.tally.LeafTally.{LeafTally}
use Rattle.cube_search.specs.Answers.{IsCubeAnswer, IsDecidedCube, IsModelOf}
use Rattle.cube_search.specs.Causes.{EachSolution}
use Rattle.cube_search.specs.Models.{all_words}
use Rattle.cube_search.specs.Searches.{AreFoundRuns}
use Rattle.cube_search.specs.Conflicts.{IsRefutedBy}
use Rattle.cube_search.specs.Tallies.{IsTally, IsCovered, IsAccounted}
use Rattle.cube_search.proofs.ConflictLemmas.{refuted-covered}
use Rattle.cube_search.specs.declared.found.FoundRuns.{FoundRuns}
use Rattle.backward.proofs.LeafLemmas.{range-at}
use Rattle.cube_search.proofs.FirstLemmas.{satisfies-conf, satisfies-obey, words-same}
use Rattle.cube_search.proofs.FoundLemmas.{sources-all}

-- the letters of words by number
letters-sum : (f : ℕ → Word) (vs : List ℕ) → letters (map f vs) ≡ sum_by (λ v. length (f v)) vs
letters-sum f [] = refl
letters-sum f (v ∷ vs) = ap (λ n. length (f v) + n) (letters-sum f vs) ∙ sym (sum_by-cons (λ (u : ℕ). length (f u)) v vs)

pub letters-length : (flat : Flat) (ws : List Word) → letters (source_words flat (word_at ws)) ≡ source_length flat ws
letters-length flat ws = letters-sum (word_at ws) (sources_of flat)

greatest-least : (a : ℕ) (ns : List ℕ) → a ≤ greatest a ns
greatest-least a [] = omega arith
greatest-least a (n ∷ ns) = let r = greatest-least a ns in omega arith

quotient-one : (x g q : ℕ) → 0 < g → g ≤ x → q ≡ x / g → 1 ≤ q
quotient-one x g zero h l e = absurd (let z : x / g ≡ 0 = sym e in let p : g * (x / g) ≡ g * 0 = ap (λ n. g * n) z in omega arith)
quotient-one x g (suc q) h l e = omega arith

-- with rows some characters are within reach
pub reachable : (flat : Flat) → GrowsLittle flat → (flat.rows ≡ [] → ⊥) → pos 0 ≤ℤ reach flat
reachable flat grows rows = elim grows [
  | inl e ↦ absurd (rows e)
  | inr few ↦
      let one = greatest-least 1 (growth_of flat) in
      let q = quotient-one longest_word (growth flat) (longest_word / growth flat) (omega arith) (omega arith) refl in
      omega (arith, ints)
]

pub little : (flat : Flat) → (flat.rows ≡ [] → flat.registers ≡ []) → GrowsLittle flat → IsLittle flat
little flat bare grows = elim grows [
  | inl e ↦ inl (bare e)
  | inr few ↦ inr few
]

abbrev AllAccounted : Flat → Region → Option GivenUpLeaf → Option LongLeaf → Refutation → Type 0
AllAccounted flat region g l r = EachSolution flat (λ ws ints. IsAccounted flat region (record { given = g; long = l; closed = r }) (word_at ws) (lengths_of flat.registers ws) ints)

-- whatever satisfies the cube is accounted for
accounted : (flat : Flat) (region : Region) (ms : Family) (tally : LeafTally) → IsStraight flat → IsLedFrom flat (length flat.definitions) ms → IsCovered flat region (length flat.definitions) ms tally
    → EachSolution flat (λ ws ints. IsAccounted flat region tally (word_at ws) (lengths_of flat.registers ws) ints)
accounted flat region ms tally straight led covered ws ints s =
    covered (word_at ws) (lengths_of flat.registers ws) ints (satisfies-conf flat ms straight led ws s.strings) (satisfies-obey flat ws s.strings) (record { count = s.rows.count; each = s.rows.rows })

module _ (flat : Flat) (region : Region) (for : IsRegionFor flat region) where
  left-right : (g : Option GivenUpLeaf) (l : Option LongLeaf) (r : Refutation) → IsTally flat (record { given = g; long = l; closed = r }) → AllAccounted flat region g l r
      → IsCubeAnswer flat (left_given g (left_long l r))
  left-right None None r is all = λ ws ints s. elim (all ws ints s) [ inl a ↦ (let h = a.2 in cc) | inr b ↦ (let h = b.2 in cc) ]
  left-right None (Some l) r is all = record {
    leaf = is.long.0;
    beyond = λ ws ints s. elim (all ws ints s) [ inl a ↦ (let h = a.2 in cc) | inr b ↦ subst (λ n. reach flat <ℤ pos n) (letters-length flat ws) b.3 ];
    is_shown = is.long.1;
  }
  left-right (Some g) l r is all = record {
    has_rows = is.given.2;
    not_small = is.given.3;
    none_near = λ ws ints s near. elim (all ws ints s) [
      | inl a ↦ a.1.outside (for.near is.given.3 ints (lengths_of flat.registers ws) (length-map flat.registers (λ v. length (word_at ws v))) s.rows.count near)
      | inr b ↦ b.1.outside (for.near is.given.3 ints (lengths_of flat.registers ws) (length-map flat.registers (λ v. length (word_at ws v))) s.rows.count near)
    ];
    leaf = is.given.0;
    given_up = is.given.1;
    every = λ ws ints s. elim (all ws ints s) [
      | inl a ↦ record { machines = a.0; leaf = a.1.leaf; reads = a.1.reads; open_leaf = inl a.3 }
      | inr b ↦ record { machines = b.0; leaf = b.1.leaf; reads = b.1.reads; open_leaf = inr b.4 }
    ];
  }

  left-decided : (g : Option GivenUpLeaf) (l : Option LongLeaf) (r : Refutation) → IsTally flat (record { given = g; long = l; closed = r }) → MustDecideFlat flat → IsDecidedCube (left_given g (left_long l r))
  left-decided None None r is must = tt
  left-decided None (Some l) r is must = is.undecided refl must
  left-decided (Some g) l r is must = elim must.search [
    | inl s ↦ absurd (is.given.3 s)
    | inr e ↦ absurd (is.given.2 e.0)
  ]

  pub left-answers : (ms : Family) (tally : LeafTally) → IsStraight flat → IsLedFrom flat (length flat.definitions) ms → IsTally flat tally → IsCovered flat region (length flat.definitions) ms tally → IsCubeAnswer flat (left_of tally)
  left-answers ms tally straight led is covered = left-right tally.given tally.long tally.closed is (accounted flat region ms tally straight led covered)

  pub left-decides : (tally : LeafTally) → IsTally flat tally → MustDecideFlat flat → IsDecidedCube (left_of tally)
  left-decides tally is must = left-decided tally.given tally.long tally.closed is must

-- a refutation of the first family
pub nothing-satisfies : (flat : Flat) (region : Region) → IsRegionFor flat region → (ms : Family) (names : List Bool) → IsStraight flat → IsLedFrom flat (length flat.definitions) ms → IsRefutedBy flat (length flat.definitions) ms names
    → EachSolution flat (λ ws ints. ⊥)
nothing-satisfies flat region for ms names straight led h =
    let none : Refutation = record { empty = 0; trees = 0; boxes = 0 } in
    let tally : LeafTally = record { given = None; long = None; closed = none } in
    let is : IsTally flat tally = record { given = tt; long = tt; undecided = λ s must. cc } in
    left-answers flat region for ms tally straight led is (refuted-covered flat region (length flat.definitions) ms names tally h)

pub model-of : (flat : Flat) (ms : Family) (found : FoundRuns) (values : Named) → AreFoundRuns flat (length flat.definitions) ms found → Satisfies flat (all_words (length flat.variables) found.runs) found.integers
    → AreModelValues flat (all_words (length flat.variables) found.runs) found.integers values → AreWorded values → IsModelOf flat values
model-of flat ms found values is s of worded =
    let n = length flat.variables in
    let f = run_words found.runs in
    let ws = map f (range_with_len 0 n) in
    let is_word : all_words n found.runs ≡ ws = words-same n found.runs in
    let same : source_words flat f ≡ source_words flat (word_at ws) = sources-all flat f (word_at ws) (λ v h. sym (range-at f 0 n v h ∙ ap f (omega arith))) in
    record {
      words = ws;
      numbers = found.integers;
      worded = worded;
      of = subst (λ l. AreModelValues flat l found.integers values) is_word of;
      satisfies = subst (λ l. Satisfies flat l found.integers) is_word s;
      within = subst (λ k. pos k ≤ℤ reach flat) (letters-length flat ws) (subst (λ l. pos (letters l) ≤ℤ reach flat) same is.within);
    }
