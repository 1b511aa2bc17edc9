use Rattle.std.proofs.Common.{◌∙◌, ap, sym, subst, length}
use Rattle.sv_word.specs.Ranges.{IsInhabited}
use Rattle.part_machines.proofs.pricing.add_priced.Goals as goal

pub add_edge-requires : goal.add_edge-requires
add_edge-requires c = record {
  from = c.requires.from;
  to = c.requires.to;
  cost = ap length c.in_ok-cost.ensures ∙ c.requires.each;
  on = subst IsInhabited (sym c.in_ok-on.ensures) c.requires.on;
}

pub returns-clause-ok : goal.returns-clause-ok
returns-clause-ok c = rw (c.in_ok-on.ensures, c.in_ok-cost.ensures) at c.in_ok-add_edge.ensures.ok
