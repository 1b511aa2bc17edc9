use Rattle.std.proofs.Common.{◌++◌, sym, ap, ◌∙◌, arith}
use Rattle.std.proofs.lemmas.List.{take_all}
use Rattle.decide.specs.Passing.{shared_of}
use Rattle.decide.proofs.Sharing.{if_shared, shared-more, shared-none}
use Rattle.decide.proofs.blocks.shared_terms.Goals as goal

pub loop-at-init : goal.loop-at-init
loop-at-init c = c.new-all.ensures ∙ shared-none c.args.first c.args.terms.now

pub loop-at-preserved : goal.loop-at-preserved
loop-at-preserved c =
    let x = c.index-terms-at.result in
    c.in_ok-push_if_shared.ensures
    ∙ ap (λ l. l ++ if_shared c.loop-at.at c.args.first x) c.loop-at.invariant
    ∙ sym (shared-more c.args.first c.args.terms.now c.loop-at.at x x c.loop-at-test.true (sym c.index-terms-at.is))

pub returns : goal.returns
returns c = c.loop-at.invariant ∙ ap (shared_of c.args.first) (take_all c.loop-at.at c.args.terms.now (omega (arith, c.loop-at-test.false)))
