use Rattle.std.proofs.Common.{◌≡◌, ◌∙◌, ◌<◌, ◌+◌, ◌-◌, ◌&&◌, ℕ, List, sym, ap, take, drop, length, arith, length-drop}
use Rattle.std.proofs.lemmas.List.{take_all}
use Rattle.sexpr_reader.specs.Bytes.{is_digit}
use Rattle.sexpr_reader.specs.Tokens.{is_numeral, are_some}
use Rattle.sexpr_reader.proofs.Classes.{decimal_no}
use Rattle.sexpr_reader.proofs.token_kind.is_decimal.Goals as goal

pub returns-then-b-eq46-clause-no : goal.returns-then-b-eq46-clause-no
returns-then-b-eq46-clause-no c = λ e g.
    let bs = c.args.bytes.now in
    let i = c.loop-i.i in
    let low : i < length bs = omega arith in
    let rest : take (length bs - (i + 1)) (drop (i + 1) bs) ≡ drop (i + 1) bs = take_all (length bs - (i + 1)) (drop (i + 1) bs) (omega (arith, length-drop (i + 1) bs)) in
    decimal_no bs i low c.if-b-eq46.true c.loop-i.invariant (ap (λ (l : List ℕ). is_numeral (take i bs) && are_some is_digit l) (sym rest) ∙ sym c.are_decimal_parts.ensures ∙ e) g
