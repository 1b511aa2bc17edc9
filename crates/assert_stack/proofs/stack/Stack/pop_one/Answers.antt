use Rattle.std.proofs.Common.{length, drop, ap, ◌∙◌, arith}
use Rattle.assert_stack.proofs.LevelLemmas.{pops, marks-popped, count-popped, count-kept}
use Rattle.assert_stack.proofs.stack.Stack.pop_one.Goals as goal

pub invariant_of-self : goal.invariant_of-self
invariant_of-self c =
    let s = c.self.inside in
    let marks = marks-popped s.marks c.pop.new.self c.in-Some.mark s.symbols c.truncate.new.self s.live c.truncate-in-Some.new.self s.named c.truncate-in-Some-2.new.self c.in-Some.ensures c.truncate.ensures c.truncate-in-Some.ensures c.truncate-in-Some-2.ensures c.self.invariant.0 in
    let count = count-popped s.marks c.pop.new.self c.in-Some.mark c.in-Some.ensures in
    (marks, omega (arith, count, c.self.invariant.1))

pub returns-in-Some : goal.returns-in-Some
returns-in-Some c =
    let s = c.self.inside in
    pops s.marks c.pop.new.self c.in-Some.mark s.symbols c.truncate.new.self s.live c.truncate-in-Some.new.self s.named c.truncate-in-Some-2.new.self c.in-Some.ensures c.truncate.ensures c.truncate-in-Some.ensures c.truncate-in-Some-2.ensures ∙ ap (drop 1) c.self.view_is

-- without marks there is no second level
none-left : (c : goal.In_default) → ⊥
none-left c =
    let s = c.self.inside in
    let kept = count-kept s.marks s.symbols s.live s.named c.args.self.now c.self.view_is in
    let empty = ap length c.in_default.ensures.0 in
    omega (arith, kept, empty, c.requires)

pub invariant_of-self-in_default : goal.invariant_of-self-in_default
invariant_of-self-in_default c = absurd (none-left c)

pub returns-in_default : goal.returns-in_default
returns-in_default c = absurd (none-left c)
