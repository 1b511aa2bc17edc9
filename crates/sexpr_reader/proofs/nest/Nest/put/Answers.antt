use Rattle.std.proofs.Common.{◌≡◌, ◌-◌, length, suc, arith}
use Rattle.sexpr_reader.proofs.Nests.{put_last}
use Rattle.sexpr_reader.proofs.nest.Nest.put.Goals as goal

pub returns-clause-ok : goal.returns-clause-ok
returns-clause-ok c =
    let count : length c.args.self.now.lists.items ≡ suc (c.len-count.result - 1) = omega arith in
    record { tokens = put_last c.args.self.now.lists.items (c.len-count.result - 1) c.args.item c.index_mut.result.now c.push.new.self count c.index_mut.ensures.value c.in_ok-push.ensures.ok; whole = tt }
