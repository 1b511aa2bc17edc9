use Rattle.std.proofs.Common.{length, ap, ◌∙◌, arith}
use Rattle.assert_stack.specs.Levels.{pushed}
use Rattle.assert_stack.proofs.LevelLemmas.{pushes, marks-pushed, count-pushed, count-kept}
use Rattle.assert_stack.proofs.stack.Stack.push.Goals as goal

pub invariant_of-self-2 : goal.invariant_of-self-2
invariant_of-self-2 c =
    let s = c.self.inside in
    let marks = marks-pushed s.marks c.set_marks.new.marks c.args.n _ (length s.symbols) (length s.live) (length s.named) c.len.ensures c.len-2.ensures c.len-3.ensures c.in_ok-set_marks.ensures.ok c.self.invariant.0 in
    let count = count-pushed s.marks c.set_marks.new.marks c.args.n _ c.in_ok-set_marks.ensures.ok in
    let kept = count-kept s.marks s.symbols s.live s.named c.args.self.now c.self.view_is in
    (marks, omega (arith, count, kept, c.levels.ensures.count, c.from.ensures, c.from-2.ensures, c.if-levels-gt-MOST_LEVELS.false))

pub returns-clause-ok : goal.returns-clause-ok
returns-clause-ok c =
    let s = c.self.inside in
    pushes s.marks c.set_marks.new.marks c.args.n _ s.symbols s.live s.named c.len.ensures c.len-2.ensures c.len-3.ensures c.in_ok-set_marks.ensures.ok ∙ ap (pushed c.args.n) c.self.view_is
