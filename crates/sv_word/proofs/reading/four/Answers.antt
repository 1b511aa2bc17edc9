use Rattle.std.proofs.Common.{take, arith}
use Rattle.std.proofs.lemmas.List.{length-take}
use Rattle.std.proofs.lemmas.List.Sums.{prefix_len-le-length}
use Rattle.std.specs.Char.{is_ascii_hexdigit}
use Rattle.sv_word.proofs.HexLemmas.{hex-digits, value-below}
use Rattle.sv_word.proofs.reading.four.Goals as goal

pub hex_number-requires-clause-hex : goal.hex_number-requires-clause-hex
hex_number-requires-clause-hex c = hex-digits 4 c.args.digits.now (let is = c.digit_count.ensures in omega arith)

pub returns-then-digit_count-ge-FIXED_DIGITS-clause-character :
    goal.returns-then-digit_count-ge-FIXED_DIGITS-clause-character
returns-then-digit_count-ge-FIXED_DIGITS-clause-character c =
    let is = c.digit_count.ensures in
    let below = value-below (take 4 c.args.digits.now) (hex-digits 4 c.args.digits.now (omega arith)) (omega (arith, length-take 4 c.args.digits.now)) in
    rw c.hex_number.ensures (omega arith)

pub returns-then-digit_count-ge-FIXED_DIGITS-clause-bytes : goal.returns-then-digit_count-ge-FIXED_DIGITS-clause-bytes
returns-then-digit_count-ge-FIXED_DIGITS-clause-bytes c =
    let is = c.digit_count.ensures in
    let within = prefix_len-le-length is_ascii_hexdigit c.args.digits.now in
    (omega arith, omega arith)
