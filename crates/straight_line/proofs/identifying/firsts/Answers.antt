use Rattle.std.proofs.Common.{◌≡◌, ◌∙◌, sym, subst, length, take_at}
use Rattle.std.specs.List.{range_with_len}
use Rattle.straight_line.specs.Leading.{LeadsTo}
use Rattle.straight_line.proofs.Leads.{starts_own}
use Rattle.straight_line.proofs.identifying.firsts.Goals as goal

pub returns : goal.returns
returns c =
    let n : length c.identify.new.above ≡ c.in_ok-above.above.len = c.identify.auto.above ∙ c.deref_mut.ensures.len in
    let v = c.deref_mut.ensures.value ∙ c.in_ok-above.ensures in
    take_at c.identify.new.above _ c.in_ok-above.above.len n ∙ c.identify.ensures (range_with_len 0 c.args.places) (subst (LeadsTo (range_with_len 0 c.args.places)) (sym v) (starts_own c.args.places))
