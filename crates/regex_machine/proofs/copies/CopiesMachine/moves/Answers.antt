use Rattle.std.proofs.Common.{[]}
use Rattle.std.proofs.lemmas.Result.{IfOk-weaker}
use Rattle.machine_core.specs.Edges.{EndsAt}
use Rattle.regex_machine.proofs.WordLemmas.{surely, never}
use Rattle.regex_machine.proofs.CopyMoves.{own-moves, copy-stays, copy-goes_on, in-copy}
use Rattle.regex_machine.proofs.copies.CopiesMachine.moves.Goals as goal

pub returns-then-copy-self-clause-exact : goal.returns-then-copy-self-clause-exact
returns-then-copy-self-clause-exact c =
    let s = c.args.self.now in
    let at = c.args.at.now in
    IfOk-weaker c.steps_of.result _ _ (λ first. own-moves s.part.now s.least s.most s.again s.reads_empty at.0 at.1 first c.if-copy-self.true) c.steps_of.ensures.exact

pub returns-then-not-may_end-clause-exact : goal.returns-then-not-may_end-clause-exact
returns-then-not-may_end-clause-exact c =
    let s = c.args.self.now in
    let at = c.args.at.now in
    let closed = never c.may_end.result (EndsAt s.part.now.ends at.1 []) c.may_end.ensures c.if-not-may_end.true in
    copy-stays s.part.now s.least s.most s.again s.reads_empty at.0 at.1 (in-copy s.part.now s.least s.most at c.requires c.if-copy-self.false) c.in_ok-all.all c.in_ok-all.ensures.exact
    (λ l end next. closed end)

pub returns-in-None-clause-exact : goal.returns-in-None-clause-exact
returns-in-None-clause-exact c =
    let s = c.args.self.now in
    let at = c.args.at.now in
    copy-stays s.part.now s.least s.most s.again s.reads_empty at.0 at.1 (in-copy s.part.now s.least s.most at c.requires c.if-copy-self.false) c.in_ok-all.all c.in_ok-all.ensures.exact
    (λ l end next. c.in-None.ensures l next)

pub returns-in_ok-add_steps-in-Some-clause-exact : goal.returns-in_ok-add_steps-in-Some-clause-exact
returns-in_ok-add_steps-in-Some-clause-exact c =
    let s = c.args.self.now in
    let at = c.args.at.now in
    copy-goes_on s.part.now s.least s.most s.again s.reads_empty at.0 at.1 (in-copy s.part.now s.least s.most at c.requires c.if-copy-self.false) c.in_ok-all.all c.in_ok-all.ensures.exact
    c.in-Some.next c.add_steps.new.all (surely c.may_end.result (EndsAt s.part.now.ends at.1 []) c.may_end.ensures c.if-not-may_end.false) c.in-Some.ensures c.in_ok-add_steps-in-Some.ensures.exact
