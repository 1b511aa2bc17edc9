-- What the answers for leaves of a flat cube come to, and what is answered for the cube where none is a hit.
use Rattle.std.specs.Prelude.{ℕ, ◌+◌, ◌-◌, ◌^◌, min, List, Option, Some, None}
use Rattle.machine_core.specs.declared.graph.Graph.{Graph}
use Rattle.search_hits.specs.declared.hit.Hit.{Hit}
use Rattle.leaf_solve.specs.declared.closing.Closing.{Closing}
use Rattle.leaf_solve.specs.declared.closing.Closing.TheVariants as closing
use Rattle.leaf_solve.specs.declared.leaf_answer.LeafAnswer.{LeafAnswer}
use Rattle.leaf_solve.specs.declared.leaf_answer.LeafAnswer.TheVariants as leaf
use Rattle.cube_search.specs.declared.answer.CubeAnswer.{CubeAnswer}
use Rattle.cube_search.specs.declared.answer.CubeAnswer.TheVariants as answer
use Rattle.cube_search.specs.declared.answer.Refutation.{Refutation}
use Rattle.cube_search.specs.declared.reason.OpenReason.TheVariants.{Length, Arithmetic}
use Rattle.cube_search.specs.declared.tally.GivenUpLeaf.{GivenUpLeaf}
use Rattle.cube_search.specs.declared.tally.LongLeaf.{LongLeaf}
use Rattle.cube_search.specs.declared.tally.LeafTally.{LeafTally}

-- what is kept, where something comes after it
abbrev pub first_some : {X : Type 0} → Option X → X → Option X
first_some None x = Some x
first_some (Some y) x = Some y

-- the count of what closed the leaf is one more, up to the greatest number of 64 bits
abbrev pub more : ℕ → ℕ
more n = min (n + 1) (2 ^ 64 - 1)

abbrev pub one_more : Closing → Refutation → Refutation
one_more (closing.Empty i) r = record r { empty = more r.empty }
one_more (closing.Tree s t) r = record r { trees = more r.trees }
one_more closing.Box r = record r { boxes = more r.boxes }

-- the tally once a leaf of these machines was answered; a hit leaves it
abbrev pub settled : List Graph → LeafAnswer → LeafTally → LeafTally
settled machines (leaf.Sat hit) t = t
settled machines (leaf.Closed c) t = record t { closed = one_more c t.closed }
settled machines (leaf.Long shown) t = record t { long = first_some t.long (record { machines = machines; shown = shown }) }
settled machines (leaf.Open system evidence) t = record t { given = first_some t.given (record { machines = machines; system = system; evidence = evidence }) }

-- the hit that was answered
abbrev pub hit_of : LeafAnswer → Option Hit
hit_of (leaf.Sat hit) = Some hit
hit_of (leaf.Closed c) = None
hit_of (leaf.Long shown) = None
hit_of (leaf.Open system evidence) = None

-- a leaf on which the solver gave up, else one that is too long, else none
abbrev pub left_long : Option LongLeaf → Refutation → CubeAnswer
left_long None r = answer.Unsat r
left_long (Some l) r = answer.Open (Length l.machines l.shown)

abbrev pub left_given : Option GivenUpLeaf → CubeAnswer → CubeAnswer
left_given None a = a
left_given (Some g) a = answer.Open (Arithmetic g.machines g.system g.evidence)

abbrev pub left_of : LeafTally → CubeAnswer
left_of tally = left_given tally.given (left_long tally.long tally.closed)
