use Rattle.std.proofs.Common.{refl}
use Rattle.decide.proofs.Tallying.{tally-over}
use Rattle.decide.proofs.tally.CubeTally.pass.Goals as goal

pub returns : goal.returns
returns c = λ terms before h. tally-over terms before c.args.cubes c.args.self.now _ refl refl refl refl refl h
