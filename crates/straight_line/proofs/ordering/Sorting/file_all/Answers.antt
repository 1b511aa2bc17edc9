use Rattle.std.proofs.Common.{refl, inl, length}
use Rattle.straight_line.proofs.Starting.{filed_as, filed_step, waiters_next}
use Rattle.straight_line.proofs.ordering.Sorting.file_all.Goals as goal

pub file-requires-clause-passed : goal.file-requires-clause-passed
file-requires-clause-passed c =
    let i = c.loop-definition.definition in
    let f = filed_as _ c.args.definitions.now _ _ c.loop-definition.self.order c.loop-definition.self.ahead c.loop-definition.self.free.keys c.loop-definition.self.waiters.items (waiters_next c.loop-definition.definition (length c.args.definitions.now) c.loop-definition-test.true) c.loop-definition.invariant in
    f.sorting.pends_passed (record { definition = c.loop-definition.definition; from = 0 }) (inl refl)

pub loop-definition-preserved : goal.loop-definition-preserved
loop-definition-preserved c =
    let f = filed_as _ c.args.definitions.now _ _ c.loop-definition.self.order c.loop-definition.self.ahead c.loop-definition.self.free.keys c.loop-definition.self.waiters.items (waiters_next c.loop-definition.definition (length c.args.definitions.now) c.loop-definition-test.true) c.loop-definition.invariant in
    filed_step _ c.args.definitions.now (record { definition = c.loop-definition.definition; from = 0 }) _ c.loop-definition.self.order c.file.new.self.order c.loop-definition.self.ahead c.file.new.self.ahead c.loop-definition.self.free.keys c.file.new.self.free.keys c.loop-definition.self.waiters.items c.file.new.self.waiters.items f c.file.ensures.ahead c.file.ensures.rows c.in_ok-file.ensures.filed
