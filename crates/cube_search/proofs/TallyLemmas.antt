-- A tally with the answer for one leaf more.
use Rattle.std.proofs.Common.{◌≡◌, ◌≢◌, ℕ, pos, ◌<ℤ◌, ℤ, List, [], length, map, All, Option, Some, None, MatchOption, IsSome, refl, sym, ap, ◌∙◌, subst, inl, inr}
use Rattle.std.specs.Prelude.{⊤}
use Rattle.std.specs.List.{AllZip}
use Rattle.machine_core.specs.declared.graph.Graph.{Graph}
use Rattle.sv_linear.specs.Rows.{MeetsRows}
use Rattle.search_hits.specs.Hits.{IsHit, characters, runs_total}
use Rattle.search_hits.specs.Regions.{IsInRegion}
use Rattle.search_hits.specs.declared.hit.Hit.{Hit}
use Rattle.search_hits.specs.declared.region.Region.{Region}
use Rattle.trim_search.specs.declared.built.Built.{Built}
use Rattle.leaf_solve.specs.Answers.{IsDecided}
use Rattle.leaf_solve.specs.Longs.{HasRun, letters}
use Rattle.leaf_solve.specs.declared.leaf_answer.LeafAnswer.{LeafAnswer}
use Rattle.leaf_solve.specs.declared.leaf_answer.LeafAnswer.TheVariants as leaf
use Rattle.cube_bounds.specs.Growth.{reach}
use Rattle.cube_bounds.specs.Sides.{IsSmall}
use Rattle.flat_cubes.specs.declared.flat.Flat.{Flat}
use Rattle.backward.specs.Chains.{width}
use Rattle.backward.specs.Families.{Family, Words, Conf}
use Rattle.backward.specs.Leaves.{IsLeaf, IsLessened, machines_of, source_words}
use Rattle.backward.specs.States.{IsState}
use Rattle.backward.specs.declared.leaf_state.LeafState.{LeafState}
use Rattle.cube_search.specs.OpenLeaves.{HasGivenUp, IsLongFor}
use Rattle.cube_search.specs.LeafAnswers.{IsAnswerFor, IsHitOf, IsLeafOutside}
use Rattle.cube_search.specs.Limits.{MustDecideFlat}
use Rattle.cube_search.specs.LeafTallies.{first_some, hit_of, settled}
use Rattle.cube_search.specs.declared.tally.GivenUpLeaf.{GivenUpLeaf}
use Rattle.cube_search.specs.declared.tally.LongLeaf.{LongLeaf}
use Rattle.cube_search.specs.declared.tally.LeafTally.{LeafTally}
use Rattle.cube_search.specs.Causes.{HaveRunsOn}
use Rattle.cube_search.specs.Leaves.{IsTrim, machine_of}
use Rattle.cube_search.specs.Tallies.{IsTally, IsCovered, IsReadBy}
use Rattle.cube_search.proofs.FoundLemmas.{letters-characters}
use Rattle.cube_search.proofs.Places.{ReadsSame, reads-sources}
use Rattle.cube_search.proofs.TrimLemmas.{lessened, is-lessened, lessened-machines, trims-less}

abbrev GivenHolds : Flat → Option GivenUpLeaf → Type 0
GivenHolds flat o = MatchOption o ⊤ (λ g. IsLeaf flat g.machines × HasGivenUp flat g.machines g.system g.evidence × (flat.rows ≢ []) × (IsSmall flat → ⊥))

abbrev LongHolds : Flat → Option LongLeaf → Type 0
LongHolds flat o = MatchOption o ⊤ (λ l. IsLeaf flat l.machines × IsLongFor flat l.machines l.shown)

some-first : {X : Type 0} (o : Option X) (x : X) → IsSome (first_some o x)
some-first None x = refl
some-first (Some y) x = refl

long-first : (flat : Flat) (o : Option LongLeaf) (l : LongLeaf) → LongHolds flat o → LongHolds flat (Some l) → LongHolds flat (first_some o l)
long-first flat None l h k = k
long-first flat (Some m) l h k = h

given-first : (flat : Flat) (o : Option GivenUpLeaf) (g : GivenUpLeaf) → GivenHolds flat o → GivenHolds flat (Some g) → GivenHolds flat (first_some o g)
given-first flat None g h k = k
given-first flat (Some f) g h k = h

-- that the machines, once each has a run, are a leaf
abbrev pub BecomeLeaf : Flat → Family → Type 0
BecomeLeaf flat ms = (ns : Family) → IsLessened ms ns → IsLeaf flat (machines_of ns)

pub leaf-of : (flat : Flat) (ms : Family) (ts : List (Built ℕ)) → BecomeLeaf flat ms → AllZip IsTrim (machines_of ms) ts → All HasRun (map machine_of ts) → IsLeaf flat (map machine_of ts)
leaf-of flat ms ts become z runs =
    let less = trims-less (machines_of ms) ts z runs in
    subst (IsLeaf flat) (lessened-machines ms (map machine_of ts) less) (become (lessened ms (map machine_of ts)) (is-lessened ms (map machine_of ts) less))

module _ (flat : Flat) (region : Region) (machines : List Graph) (leafs : All HasRun machines → IsLeaf flat machines) where
  -- the tally with the answer
  pub settled-tally : (a : LeafAnswer) → IsAnswerFor flat region machines a → (MustDecideFlat flat → IsDecided a) → (t : LeafTally) → IsTally flat t → IsTally flat (settled machines a t)
  settled-tally (leaf.Sat hit) h decided t is = is
  settled-tally (leaf.Closed c) h decided t is = record { given = is.given; long = is.long; undecided = is.undecided }
  settled-tally (leaf.Long shown) h decided t is = record {
    given = is.given;
    long = long-first flat t.long (record { machines = machines; shown = shown }) is.long (leafs h.outside.inhabited, h.is_shown);
    undecided = λ s must. decided must;
  }
  settled-tally (leaf.Open system evidence) h decided t is = record {
    given = given-first flat t.given (record { machines = machines; system = system; evidence = evidence }) is.given (leafs h.outside.inhabited, h.given_up, h.has_rows, h.not_small);
    long = is.long;
    undecided = is.undecided;
  }

-- what is read meets the rows as a hit
hit-read : (n : ℕ) (flat : Flat) (machines : List Graph) (words : List (List ℕ)) (totals : List ℕ) (ints : List ℤ) → (r : HaveRunsOn n machines words totals)
    → MeetsRows (length flat.integers) flat.rows ints totals → IsHit machines n (length flat.integers) flat.rows r.runs ints
hit-read n flat machines words totals ints r meets = record { each = r.each; meets = subst (MeetsRows (length flat.integers) flat.rows ints) (sym r.cost) meets }

module _ (flat : Flat) (region : Region) (wide : length region.registers ≡ width flat) (s : LeafState) (state : IsState flat 0 s) (machines : List Graph) (leafs : All HasRun machines → IsLeaf flat machines)
    (same : AllZip ReadsSame (machines_of s.machines) machines) where
  read : (words : Words) (totals : List ℕ) → Conf (width flat) s.machines words totals → HaveRunsOn (width flat) machines (source_words flat words) totals
  read words totals conf = reads-sources flat s state machines same words totals conf

  read-by : IsLeafOutside flat region machines → (words : Words) (totals : List ℕ) (ints : List ℤ) → Conf (width flat) s.machines words totals → MeetsRows (length flat.integers) flat.rows ints totals
      → IsReadBy flat region words totals ints machines
  read-by out words totals ints conf meets =
      let r = read words totals conf in
      let cost = subst (λ n. runs_total n r.runs ≡ totals) (sym wide) r.cost in
      record {
        leaf = leafs out.inhabited;
        reads = r;
        outside = λ i. out.none_in_region r.runs ints (hit-read (width flat) flat machines (source_words flat words) totals ints r meets) (subst (IsInRegion region ints) (sym cost) i);
      }

  -- an answer that is no hit accounts for whatever the machines read
  pub settled-covers : (a : LeafAnswer) → IsAnswerFor flat region machines a → hit_of a ≡ None → (t : LeafTally) → IsCovered flat region 0 s.machines (settled machines a t)
  settled-covers (leaf.Sat hit) h none t words totals ints conf obey meets = cc
  settled-covers (leaf.Closed c) h none t words totals ints conf obey meets =
      let r = read words totals conf in
      absurd (h r.runs ints (hit-read (width flat) flat machines (source_words flat words) totals ints r meets))
  settled-covers (leaf.Long shown) h none t words totals ints conf obey meets =
      let r = read words totals conf in
      let many = h.past r.runs ints (hit-read (width flat) flat machines (source_words flat words) totals ints r meets) in
      let size : characters r.runs ≡ letters (source_words flat words) = sym (letters-characters r.runs) ∙ ap letters r.on in
      inr (
        machines,
        read-by h.outside words totals ints conf meets,
        some-first t.long (record { machines = machines; shown = shown }),
        subst (λ n. reach flat <ℤ pos n) size many,
        (shown, h.is_shown),
      )
  settled-covers (leaf.Open system evidence) h none t words totals ints conf obey meets =
      inl (
        machines,
        read-by h.outside words totals ints conf meets,
        some-first t.given (record { machines = machines; system = system; evidence = evidence }),
        (system, evidence, h.given_up),
      )

-- the hit that was answered is one
pub hit-answer : (flat : Flat) (region : Region) (machines : List Graph) (hit : Hit) (a : LeafAnswer) → hit_of a ≡ Some hit → IsAnswerFor flat region machines a → IsHitOf flat region machines hit
hit-answer flat region machines hit (leaf.Sat other) e h = subst (IsHitOf flat region machines) (same-hit other hit e) h
  where
    same-hit : (x y : Hit) → Some x ≡ Some y → x ≡ y
    same-hit x y p = cc
hit-answer flat region machines hit (leaf.Closed c) e h = cc
hit-answer flat region machines hit (leaf.Long shown) e h = cc
hit-answer flat region machines hit (leaf.Open system evidence) e h = cc

pub tally-is : (t u : LeafTally) → t.given ≡ u.given → t.long ≡ u.long → t.closed ≡ u.closed → t ≡ u
tally-is t u a b c = ap (λ g. record t { given = g }) a ∙ ap (λ l. record { given = u.given; long = l; closed = t.closed }) b ∙ ap (λ r. record { given = u.given; long = u.long; closed = r }) c
