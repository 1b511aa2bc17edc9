use Rattle.sv_terms.proofs.Differing.{differ}
use Rattle.sv_terms.proofs.Alike.{same-Text, same-Concat, same-Union, same-Inter, same-Diff, same-Star, same-Plus, same-Opt, same-Comp}
use Rattle.sv_terms.proofs.regex.RegexSame.+same.Goals as goal

pub returns-in_default : goal.returns-in_default
returns-in_default t c = differ c.args.self.now c.args.other.now _ c.in-Empty.is c.in_default.not-Empty

pub returns-in_default-other : goal.returns-in_default-other
returns-in_default-other t c = differ c.args.self.now c.args.other.now _ c.in-All.is c.in_default-other.not-All

pub returns-in_default-other-2 : goal.returns-in_default-other-2
returns-in_default-other-2 t c = differ c.args.self.now c.args.other.now _ c.in-AnyChar.is c.in_default-other-2.not-AnyChar

pub returns-in-Text-other : goal.returns-in-Text-other
returns-in-Text-other t c = same-Text c.same.result c.args.self.now c.args.other.now c.in-Text.a c.in-Text-other.b c.in-Text.is c.in-Text-other.is c.same.ensures

pub returns-in_default-other-3 : goal.returns-in_default-other-3
returns-in_default-other-3 t c = differ c.args.self.now c.args.other.now _ c.in-Text.is (c.in_default-other-3.not-Text c.in-Text.a)

pub returns-in_default-other-4 : goal.returns-in_default-other-4
returns-in_default-other-4 t c = differ c.args.self.now c.args.other.now _ c.in-Range.is (c.in_default-other-4.not-Range c.in-Range.a c.in-Range.b)

pub returns-in-Concat-other : goal.returns-in-Concat-other
returns-in-Concat-other t c = same-Concat c.same-in-Concat-other.result c.args.self.now c.args.other.now c.in-Concat.a c.in-Concat-other.b c.in-Concat.is c.in-Concat-other.is c.same-in-Concat-other.ensures

pub returns-in_default-other-5 : goal.returns-in_default-other-5
returns-in_default-other-5 t c = differ c.args.self.now c.args.other.now _ c.in-Concat.is (c.in_default-other-5.not-Concat c.in-Concat.a)

pub returns-in-Union-other : goal.returns-in-Union-other
returns-in-Union-other t c = same-Union c.same-in-Union-other.result c.args.self.now c.args.other.now c.in-Union.a c.in-Union-other.b c.in-Union.is c.in-Union-other.is c.same-in-Union-other.ensures

pub returns-in_default-other-6 : goal.returns-in_default-other-6
returns-in_default-other-6 t c = differ c.args.self.now c.args.other.now _ c.in-Union.is (c.in_default-other-6.not-Union c.in-Union.a)

pub returns-in-Inter-other : goal.returns-in-Inter-other
returns-in-Inter-other t c = same-Inter c.same-in-Inter-other.result c.args.self.now c.args.other.now c.in-Inter.a c.in-Inter-other.b c.in-Inter.is c.in-Inter-other.is c.same-in-Inter-other.ensures

pub returns-in_default-other-7 : goal.returns-in_default-other-7
returns-in_default-other-7 t c = differ c.args.self.now c.args.other.now _ c.in-Inter.is (c.in_default-other-7.not-Inter c.in-Inter.a)

pub returns-in-Diff-other : goal.returns-in-Diff-other
returns-in-Diff-other t c = same-Diff c.same-in-Diff-other.result c.args.self.now c.args.other.now c.in-Diff.a c.in-Diff-other.b c.in-Diff.is c.in-Diff-other.is c.same-in-Diff-other.ensures

pub returns-in_default-other-8 : goal.returns-in_default-other-8
returns-in_default-other-8 t c = differ c.args.self.now c.args.other.now _ c.in-Diff.is (c.in_default-other-8.not-Diff c.in-Diff.a)

pub returns-in-Star-other : goal.returns-in-Star-other
returns-in-Star-other t c = same-Star c.same-in-Star-other.result c.args.self.now c.args.other.now c.in-Star.a c.in-Star-other.b c.in-Star.is c.in-Star-other.is c.same-in-Star-other.ensures

pub returns-in_default-other-9 : goal.returns-in_default-other-9
returns-in_default-other-9 t c = differ c.args.self.now c.args.other.now _ c.in-Star.is (c.in_default-other-9.not-Star c.in-Star.a)

pub returns-in-Plus-other : goal.returns-in-Plus-other
returns-in-Plus-other t c = same-Plus c.same-in-Plus-other.result c.args.self.now c.args.other.now c.in-Plus.a c.in-Plus-other.b c.in-Plus.is c.in-Plus-other.is c.same-in-Plus-other.ensures

pub returns-in_default-other-10 : goal.returns-in_default-other-10
returns-in_default-other-10 t c = differ c.args.self.now c.args.other.now _ c.in-Plus.is (c.in_default-other-10.not-Plus c.in-Plus.a)

pub returns-in-Opt-other : goal.returns-in-Opt-other
returns-in-Opt-other t c = same-Opt c.same-in-Opt-other.result c.args.self.now c.args.other.now c.in-Opt.a c.in-Opt-other.b c.in-Opt.is c.in-Opt-other.is c.same-in-Opt-other.ensures

pub returns-in_default-other-11 : goal.returns-in_default-other-11
returns-in_default-other-11 t c = differ c.args.self.now c.args.other.now _ c.in-Opt.is (c.in_default-other-11.not-Opt c.in-Opt.a)

pub returns-in-Comp-other : goal.returns-in-Comp-other
returns-in-Comp-other t c = same-Comp c.same-in-Comp-other.result c.args.self.now c.args.other.now c.in-Comp.a c.in-Comp-other.b c.in-Comp.is c.in-Comp-other.is c.same-in-Comp-other.ensures

pub returns-in_default-other-12 : goal.returns-in_default-other-12
returns-in_default-other-12 t c = differ c.args.self.now c.args.other.now _ c.in-Comp.is (c.in_default-other-12.not-Comp c.in-Comp.a)

pub returns-in_default-other-13 : goal.returns-in_default-other-13
returns-in_default-other-13 t c = differ c.args.self.now c.args.other.now _ c.in-Loop.is (c.in_default-other-13.not-Loop c.in-Loop.a c.in-Loop.i c.in-Loop.j)
