use Rattle.std.proofs.Common.{ℕ, get_or, refl, ap, sym, subst, ◌∙◌}
use Rattle.std.proofs.lemmas.List.{take_all, get_or_default}
use Rattle.part_machines.specs.Chains.{AreRanges, ranges_of}
use Rattle.part_machines.proofs.ChainLemmas.{ranges-formed}
use Rattle.part_machines.proofs.PriceLemmas.{made-more}
use Rattle.part_machines.proofs.chains.ranges_of.Goals as goal

pub loop-c-preserved : goal.loop-c-preserved
loop-c-preserved c =
    let items = c.as_slice-c-items.result.now in
    let x = get_or items c.loop-c.c-index 0 in
    made-more (λ (x : ℕ). (x, x)) items items c.loop-c.ranges c.push.new.self c.loop-c.c-index x refl c.loop-c-test.true (get_or_default items c.loop-c.c-index 0 x c.loop-c-test.true) c.loop-c.invariant c.in_ok-push.ensures.ok

pub returns-clause-ranges : goal.returns-clause-ranges
returns-clause-ranges c = c.loop-c.invariant ∙ ap ranges_of (take_all c.loop-c.c-index c.as_slice-c-items.result.now c.loop-c-test.false ∙ c.as_slice-c-items.ensures)

pub returns-clause-formed : goal.returns-clause-formed
returns-clause-formed c =
    let all = c.loop-c.invariant ∙ ap ranges_of (take_all c.loop-c.c-index c.as_slice-c-items.result.now c.loop-c-test.false ∙ c.as_slice-c-items.ensures) in
    subst AreRanges (sym all) (ranges-formed c.args.word.now c.is_word.ensures)
