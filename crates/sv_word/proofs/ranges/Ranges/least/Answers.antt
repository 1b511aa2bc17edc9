use Rattle.std.proofs.Common.{ap, ◌∙◌, subst}
use Rattle.std.specs.Prelude.{slice_get}
use Rattle.sv_word.proofs.Apart.{least-at}
use Rattle.sv_word.specs.Ranges.{IsApartFrom}
use Rattle.sv_word.proofs.ranges.Ranges.least.Goals as goal

pub returns-in-Some-clause-least : goal.returns-in-Some-clause-least
returns-in-Some-clause-least c =
    least-at c.args.self.now c.in-Some.pair.now
    (subst (IsApartFrom 0) c.self.view_is c.self.invariant)
    (c.in-Some.ensures.value ∙ ap (λ l. slice_get l 0) (c.as_slice.ensures ∙ c.self.view_is))
