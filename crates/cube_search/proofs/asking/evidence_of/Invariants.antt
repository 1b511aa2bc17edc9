use Rattle.std.specs.Prelude.{◌≡◌, take}
use Rattle.cube_search.specs.LeafAnswers.{words_of}
use Rattle.cube_search.proofs.asking.evidence_of.Given as goal

abbrev pub invariant-loop-run : goal.invariant-loop-run
invariant-loop-run l = l.words ≡ words_of (take l.run-index l.hit.runs)
