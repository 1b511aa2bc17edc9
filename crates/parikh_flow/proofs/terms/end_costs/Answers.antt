use Rattle.std.proofs.Common.{◌<◌, ◌^◌, slice_index, subst, arith}
use Rattle.std.proofs.lemmas.Grind.{common_steps}
use Rattle.std.proofs.lemmas.List.Elements.{All-more}
use Rattle.machine_core.specs.declared.end.End.{End}
use Rattle.parikh_flow.proofs.terms.end_costs.Goals as goal

pub loop-end-preserved : goal.loop-end-preserved
loop-end-preserved c = record {
  costs = grind (arith, common_steps);
  fit = All-more (λ (e : End). slice_index e.cost c.args.register < 2 ^ 64) c.args.ends.now c.loop-end.end-index c.end-item.result c.loop-end-test.true c.loop-end.invariant.fit
      (subst (λ (e : End). slice_index e.cost c.args.register < 2 ^ 64) c.end-item.is (subst (λ n. n < 2 ^ 64) c.cost_at.ensures.value c.cost_at.ensures.fits));
}
