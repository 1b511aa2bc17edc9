use Rattle.std.proofs.Common.{◌≡◌, ◌+◌, take}
use Rattle.parikh_flow.specs.Building.{AreAdded}
use Rattle.parikh_flow.specs.Rows.{terms_by, end_balance}
use Rattle.parikh_flow.proofs.balances.push_ends.Given as goal

abbrev pub invariant-loop-end : goal.invariant-loop-end
invariant-loop-end l = record {
  next : l.unknown ≡ l.base + l.end-index;
  added : AreAdded (λ s. terms_by (end_balance s) l.base (take l.end-index l.ends)) l.unknown l.initial.forms.items l.forms.items;
}
