use Rattle.sv_terms.proofs.AlikeTerms.{same-Text, same-language, other-word}
use Rattle.sv_terms.proofs.Differing.{differ}
use Rattle.sv_terms.proofs.term.TermSame.+same.Goals as goal

pub returns-in_default : goal.returns-in_default
returns-in_default t c = differ c.args.self.now c.args.other.now _ c.in-Truth.is (c.in_default.not-Truth c.in-Truth.a)

pub returns-in_default-other : goal.returns-in_default-other
returns-in_default-other t c = differ c.args.self.now c.args.other.now _ c.in-Number.is (c.in_default-other.not-Number c.in-Number.a)

pub returns-in_default-other-2 : goal.returns-in_default-other-2
returns-in_default-other-2 t c = differ c.args.self.now c.args.other.now _ c.in-Text.is (c.in_default-other-2.not-Text c.in-Text.a)

pub returns-in_default-other-3 : goal.returns-in_default-other-3
returns-in_default-other-3 t c = differ c.args.self.now c.args.other.now _ c.in-Constant.is (c.in_default-other-3.not-Constant c.in-Constant.a c.in-Constant.s)

pub returns-in_default-other-4 : goal.returns-in_default-other-4
returns-in_default-other-4 t c = differ c.args.self.now c.args.other.now _ c.in-Apply.is (c.in_default-other-4.not-Apply c.in-Apply.f c.in-Apply.a)

pub returns-in_default-other-5 : goal.returns-in_default-other-5
returns-in_default-other-5 t c = differ c.args.self.now c.args.other.now _ c.in-InRe.is (c.in_default-other-5.not-InRe c.in-InRe.a c.in-InRe.r)

pub returns-in_default-other-6 : goal.returns-in_default-other-6
returns-in_default-other-6 t c = differ c.args.self.now c.args.other.now _ c.in-Related.is (c.in_default-other-6.not-Related c.in-Related.t c.in-Related.a c.in-Related.v)

pub returns-in_default-other-7 : goal.returns-in_default-other-7
returns-in_default-other-7 t c = differ c.args.self.now c.args.other.now _ c.in-Opaque.is (c.in_default-other-7.not-Opaque c.in-Opaque.s)

pub returns-in-Text-other : goal.returns-in-Text-other
returns-in-Text-other t c = same-Text c.same.result c.args.self.now c.args.other.now c.in-Text.a c.in-Text-other.b c.in-Text.is c.in-Text-other.is c.same.ensures

pub returns-then-same : goal.returns-then-same
returns-then-same t c = same-language c.same-then-same.result c.args.self.now c.args.other.now c.in-InRe.a c.in-InRe-other.b c.in-InRe.r c.in-InRe-other.s c.in-InRe.is c.in-InRe-other.is (c.same-in-InRe-other.ensures.0 c.if-same.true) c.same-then-same.ensures

pub returns-else-same : goal.returns-else-same
returns-else-same t c = other-word c.same-in-InRe-other.result c.args.self.now c.args.other.now c.in-InRe.a c.in-InRe-other.b c.in-InRe.r c.in-InRe-other.s c.in-InRe.is c.in-InRe-other.is c.if-same.false c.same-in-InRe-other.ensures
