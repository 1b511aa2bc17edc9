use Rattle.std.proofs.Common.{◌∙◌, sym, subst}
use Rattle.std.proofs.lemmas.List.{append_cancel_left}
use Rattle.std.specs.Io.KnownBytes.{Consumes}
use Rattle.sv_io.proofs.laws.bytes_given_are_no_longer_left.Goals as goal

pub returns : goal.returns
returns c = λ old new left_old left_new bytes told gave. subst (Consumes left_old left_new) (append_cancel_left old.given told.bytes bytes (sym told.gave ∙ gave)) told.consumed
