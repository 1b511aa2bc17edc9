use Rattle.std.proofs.Common.{◌≡◌, ◌+◌, ◌∙◌, ap, sym, subst, arith}
use Rattle.machine_meet.specs.Builds.{IsBranch}
use Rattle.machine_meet.proofs.BuildEdges.{union-language, union-top}
use Rattle.machine_meet.proofs.unions.union.Goals as goal

pub add_branch-requires : goal.add_branch-requires
add_branch-requires c =
    let first = c.states-first.ensures in
    let second = c.in_ok-second.ensures.sum in
    let states = c.in_ok-states.ensures.sum in
    let limit = c.in_ok-states.ensures.fits in
    let whole = c.in_ok-whole.ensures.states in
    record { fits = omega arith; room = omega arith; registers = sym (c.in_ok-whole.ensures.registers ∙ c.registers.ensures) }

pub add_branch-requires-2 : goal.add_branch-requires-2
add_branch-requires-2 c =
    let last = c.states-last.ensures in
    let states = c.in_ok-states.ensures.sum in
    let limit = c.in_ok-states.ensures.fits in
    let whole = c.in_ok-whole.ensures.states in
    let branch = c.in_ok-add_branch.ensures.states in
    record { fits = omega arith; room = omega arith; registers = c.requires ∙ sym (c.in_ok-add_branch.ensures.registers ∙ c.in_ok-whole.ensures.registers ∙ c.registers.ensures) }

pub returns : goal.returns
returns c =
    let a = c.args.a.now in
    let b = c.args.b.now in
    let w0 = c.in_ok-whole.whole in
    let w1 = c.add_branch.new.whole in
    let w2 = c.add_branch-2.new.whole in
    let at : c.in_ok-second.second ≡ 1 + a.states = c.in_ok-second.ensures.sum ∙ ap (λ n. 1 + n) c.states-first.ensures in
    let branch : IsBranch w1 w2 b (1 + a.states) = subst (IsBranch w1 w2 b) at c.in_ok-add_branch-2.ensures in
    let one = c.in_ok-add_branch.ensures in
    let registers : w2.registers ≡ a.registers = branch.registers ∙ one.registers ∙ c.in_ok-whole.ensures.registers ∙ c.registers.ensures in
    let last = c.states-last.ensures in
    let sum = c.in_ok-states.ensures.sum in
    let whole = c.in_ok-whole.ensures.states in
    let two = branch.states in
    let three = one.states in
    record {
      language = union-language w0 w1 w2 a b c.in_ok-whole.ensures.edges c.in_ok-whole.ensures.ends one branch;
      states = omega arith;
      registers = registers;
      top = union-top w0 w1 w2 a b c.in_ok-whole.ensures.edges c.in_ok-whole.ensures.ends one branch (sym registers) (c.requires ∙ sym registers);
    }
