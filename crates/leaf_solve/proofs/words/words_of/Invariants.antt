use Rattle.std.proofs.Common.{◌≡◌, ℕ, map, take}
use Rattle.machine_core.specs.declared.run.Run.{Run}
use Rattle.leaf_solve.proofs.words.words_of.Given as goal

abbrev pub invariant-loop-run : goal.invariant-loop-run
invariant-loop-run l = l.words ≡ map (λ (run : Run ℕ). run.word) (take l.run-index l.runs)
