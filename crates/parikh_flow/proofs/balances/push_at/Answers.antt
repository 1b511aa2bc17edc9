use Rattle.std.proofs.Common.{length, refl}
use Rattle.std.specs.Int.{w128}
use Rattle.std.proofs.lemmas.Int.{to_z-of_z}
use Rattle.std.proofs.lemmas.Option.{slice_get_read}
use Rattle.parikh_flow.proofs.balances.push_at.Goals as goal

pub returns : goal.returns
returns c = record {
  before = c.index_mut.result.now;
  now = c.push.new.self;
  found = slice_get_read c.args.forms.now.items (length c.args.forms.now.items) c.args.at c.index_mut.result.now refl c.requires.at c.index_mut.ensures.value;
  set = refl;
  coefficients = rw (to_z-of_z w128 c.args.coefficient c.ranges.coefficient) at c.in_ok-push.ensures.ok;
  constant = c.in_ok-push.ensures.constant;
}
