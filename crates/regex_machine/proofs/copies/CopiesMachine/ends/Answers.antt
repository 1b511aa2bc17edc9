use Rattle.std.proofs.Common.{[]}
use Rattle.std.proofs.lemmas.Result.{IfOk-weaker}
use Rattle.machine_core.specs.Edges.{EndsAt}
use Rattle.regex_machine.proofs.WordLemmas.{surely, never}
use Rattle.regex_machine.proofs.CopyMoves.{own-ends, copy-ends, copy-ends_not, in-copy}
use Rattle.regex_machine.proofs.copies.CopiesMachine.ends.Goals as goal

pub returns-then-copy-self : goal.returns-then-copy-self
returns-then-copy-self c =
    let s = c.args.self.now in
    let at = c.args.at.now in
    IfOk-weaker c.ends_if.result _ _ (λ costs. own-ends s.part.now s.least s.most s.again s.reads_empty at.0 at.1 costs c.are_enough-enough.result c.if-copy-self.true c.are_enough-enough.ensures) c.ends_if.ensures

pub returns-then-not-may_end : goal.returns-then-not-may_end
returns-then-not-may_end c =
    let s = c.args.self.now in
    let at = c.args.at.now in
    IfOk-weaker c.ends_if-then-not-may_end.result _ _ (λ costs. copy-ends_not s.part.now s.least s.most s.again s.reads_empty at.0 at.1 (in-copy s.part.now s.least s.most at c.requires c.if-copy-self.false) costs
    (never c.may_end.result (EndsAt s.part.now.ends at.1 []) c.may_end.ensures c.if-not-may_end.true)) c.ends_if-then-not-may_end.ensures

pub returns : goal.returns
returns c =
    let s = c.args.self.now in
    let at = c.args.at.now in
    IfOk-weaker c.ends_if-2.result _ _ (λ costs. copy-ends s.part.now s.least s.most s.again s.reads_empty at.0 at.1 (in-copy s.part.now s.least s.most at c.requires c.if-copy-self.false) costs c.are_enough-last.result
    (surely c.may_end.result (EndsAt s.part.now.ends at.1 []) c.may_end.ensures c.if-not-may_end.false) c.are_enough-last.ensures) c.ends_if-2.ensures
