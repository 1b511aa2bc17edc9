use Rattle.std.proofs.Common.{inl, inr, sym, ◌∙◌, arith}
use Rattle.sv_word.proofs.HexLemmas.{hex-digits, braced-some, braced-none, braced-long, within-bytes}
use Rattle.sv_word.proofs.reading.read_braced.Goals as goal
use Rattle.sv_word.proofs.reading.read_braced.Goals.{then-len-lt-FEWEST_DIGITS-via-then-len-lt-FEWEST_DIGITS, then-len-lt-FEWEST_DIGITS-via-else-len-lt-FEWEST_DIGITS+then-len-gt-MOST_DIGITS, then-len-lt-FEWEST_DIGITS-via-else-len-lt-FEWEST_DIGITS+else-len-gt-MOST_DIGITS+then-byte_at-ne-CLOSE}

pub hex_number-number-requires-clause-hex : goal.hex_number-number-requires-clause-hex
hex_number-number-requires-clause-hex c = hex-digits c.digit_count-len.result c.args.digits.now (let is = c.digit_count-len.ensures in omega arith)

pub returns-then-number-le-GREATEST_CHARACTER-clause-exact : goal.returns-then-number-le-GREATEST_CHARACTER-clause-exact
returns-then-number-le-GREATEST_CHARACTER-clause-exact c =
    braced-some c.args.digits.now c.digit_count-len.result c.hex_number-number.result c.digit_count-len.ensures c.if-len-lt-FEWEST_DIGITS.false c.if-len-gt-MOST_DIGITS.false
    (sym c.byte_at.ensures ∙ c.if-byte_at-ne-CLOSE.false) c.hex_number-number.ensures c.if-number-le-GREATEST_CHARACTER.true

pub returns-then-number-le-GREATEST_CHARACTER-clause-bytes : goal.returns-then-number-le-GREATEST_CHARACTER-clause-bytes
returns-then-number-le-GREATEST_CHARACTER-clause-bytes c =
    let inside = within-bytes c.args.digits.now c.digit_count-len.result (sym c.byte_at.ensures ∙ c.if-byte_at-ne-CLOSE.false) in
    (omega arith, omega arith)

pub returns-then-len-lt-FEWEST_DIGITS-clause-exact : goal.returns-then-len-lt-FEWEST_DIGITS-clause-exact
returns-then-len-lt-FEWEST_DIGITS-clause-exact c =
    elim c.then-len-lt-FEWEST_DIGITS.branch [
      | then-len-lt-FEWEST_DIGITS-via-then-len-lt-FEWEST_DIGITS w ↦ braced-long c.args.digits.now c.digit_count-len.result c.digit_count-len.ensures (inl w.if-len-lt-FEWEST_DIGITS.true)
      | then-len-lt-FEWEST_DIGITS-via-else-len-lt-FEWEST_DIGITS+then-len-gt-MOST_DIGITS w ↦ braced-long c.args.digits.now c.digit_count-len.result c.digit_count-len.ensures (inr w.if-len-gt-MOST_DIGITS.true)
      | then-len-lt-FEWEST_DIGITS-via-else-len-lt-FEWEST_DIGITS+else-len-gt-MOST_DIGITS+then-byte_at-ne-CLOSE w ↦ braced-none c.args.digits.now c.digit_count-len.result c.digit_count-len.ensures
          (λ e. w.if-byte_at-ne-CLOSE.true (w.byte_at.ensures ∙ e))
    ]
