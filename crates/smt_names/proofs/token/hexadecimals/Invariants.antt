use Rattle.std.proofs.Common.{◌≡◌, ◌<◌, ◌^◌, true, take}
use Rattle.std.specs.Char.{is_ascii_hexdigit}
use Rattle.std.specs.List.{list_all}
use Rattle.std.specs.Str.Parse.{digits_value}
use Rattle.smt_names.proofs.token.hexadecimals.Given as goal

abbrev pub invariant-loop-digit : goal.invariant-loop-digit
invariant-loop-digit l = (l.n ≡ digits_value 16 (take l.digit-index l.digits)) × (list_all is_ascii_hexdigit (take l.digit-index l.digits) ≡ true) × (l.n < 16 ^ l.digit-index)
