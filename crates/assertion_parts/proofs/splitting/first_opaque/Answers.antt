use Rattle.std.proofs.Common.{sym, ap, ◌∙◌, Some}
use Rattle.sv_terms.specs.Parts.{is_opaque}
use Rattle.assertion_parts.proofs.Firsts.{first-picked}
use Rattle.assertion_parts.proofs.splitting.first_opaque.Goals as goal

pub returns-then-has_opaque : goal.returns-then-has_opaque
returns-then-has_opaque c =
    let x = c.term-item.result in
    ap Some c.in_ok-copy.ensures
    ∙ sym (first-picked is_opaque c.args.terms.now c.loop-term.term-index x x c.loop-term-test.true (sym c.term-item.is) (sym c.has_opaque.ensures ∙ c.if-has_opaque.true) c.loop-term.invariant)
