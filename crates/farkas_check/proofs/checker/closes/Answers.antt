use Rattle.farkas_check.specs.Systems.{no_constraint, rows_of}
use Rattle.farkas_check.proofs.Soundness.{closes_sound}
use Rattle.farkas_check.proofs.checker.closes.Goals as goal

pub returns-clause-sound : goal.returns-clause-sound
returns-clause-sound c = λ closed x solved.
    closes_sound c.args.tree.now c.args.system.now.nets (rows_of c.args.system.now) closed x (λ k p. solved.meets k no_constraint p) solved.joins
