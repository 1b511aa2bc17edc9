use Rattle.std.proofs.Common.{[], ap, pos, rules, ◌++◌, ◌∷◌, ◌∙◌, arith, drop}
use Rattle.std.proofs.lemmas.Int.{to_z-of_z}
use Rattle.std.proofs.lemmas.Result.{on_ok_weaker}
use Rattle.std.specs.Int.{w128}
use mir.Val.{SFits}
use Rattle.literal_forms.specs.Codes.{code, word}
use Rattle.literal_forms.specs.Flats.{flat}
use Rattle.literal_forms.specs.Shapes.{seen}
use Rattle.literal_forms.proofs.Spelled.{apply_arm, constant_arm, each_all, each_of, each_step, member_arm, number_arm, opaque_arm, related_arm, text_arm, truth_arm}
use Rattle.literal_forms.proofs.code.Written.+codes.Goals as goal

pub each-returns : goal.each-returns
each-returns t c = each_all (c.args.self.now.numbers ++ each_of (drop c.args.from c.args.terms.now)) c.loop-i.self.numbers c.args.terms.now c.loop-i.i (omega arith) c.loop-i.invariant

pub term-returns-in_ok-open_numbered-in-Constant : goal.term-returns-in_ok-open_numbered-in-Constant
term-returns-in_ok-open_numbered-in-Constant t c =
    on_ok_weaker c.name.result (λ e. constant_arm c.args.self.now.numbers c.open_numbered.new.self.numbers c.name.new.self.numbers [] [] c.args.term.now c.in-Constant.name c.in-Constant.sort c.sort_number.result
    c.in-Constant.is c.sort_number.ensures c.in_ok-open_numbered-in-Constant.ensures
    (e ∙ ap (λ w. c.open_numbered.new.self.numbers ++ flat (word w)) c.as_bytes.ensures)) c.name.ensures

pub term-returns-in_ok-each-in-Apply : goal.term-returns-in_ok-each-in-Apply
term-returns-in_ok-each-in-Apply t c =
    on_ok_weaker c.close.result (apply_arm c.args.self.now.numbers c.open_numbered-in-Apply.new.self.numbers c.each.new.self.numbers c.close.new.self.numbers [] c.args.term.now c.in-Apply.op c.in-Apply.terms c.op_number.result
    c.in-Apply.is c.op_number.ensures c.in_ok-open_numbered-in-Apply.ensures
    (c.in_ok-each-in-Apply.ensures ∙ ap (λ us. c.open_numbered-in-Apply.new.self.numbers ++ each_of (drop 0 us)) c.as_slice-in-Apply.ensures)) c.close.ensures

pub term-returns-in_ok-open-in-InRe : goal.term-returns-in_ok-open-in-InRe
term-returns-in_ok-open-in-InRe t c =
    on_ok_weaker c.term.result (λ e. member_arm c.args.self.now.numbers c.open-in-InRe.new.self.numbers c.term.new.self.numbers [] [] c.args.term.now c.in-InRe.tested c.in-InRe.field-1 c.in-InRe.is c.in_ok-open-in-InRe.ensures
    (e ∙ ap (λ x. c.open-in-InRe.new.self.numbers ++ flat (code (seen x))) c.get.ensures)) c.term.ensures

pub term-returns-in_ok-term-in-Related : goal.term-returns-in_ok-term-in-Related
term-returns-in_ok-term-in-Related t c =
    on_ok_weaker c.term-in-Related-2.result (λ e. related_arm c.args.self.now.numbers c.open-in-Related.new.self.numbers c.pair.new.self.numbers c.term-in-Related.new.self.numbers c.term-in-Related-2.new.self.numbers c.args.term.now c.in-Related.field-0 c.in-Related.read c.in-Related.written
    c.in-Related.is c.in_ok-open-in-Related.ensures c.in_ok-pair-in-Related.ensures
    (c.in_ok-term-in-Related.ensures ∙ ap (λ x. c.pair.new.self.numbers ++ flat (code (seen x))) c.get-in-Related.ensures)
    (e ∙ ap (λ x. c.term-in-Related.new.self.numbers ++ flat (code (seen x))) c.get-in-Related-2.ensures)) c.term-in-Related-2.ensures

pub term-returns-in_ok-open-in-Opaque : goal.term-returns-in_ok-open-in-Opaque
term-returns-in_ok-open-in-Opaque t c =
    on_ok_weaker c.put_small-in-Opaque.result (opaque_arm c.args.self.now.numbers c.open-in-Opaque.new.self.numbers c.put_small-in-Opaque.new.self.numbers [] [] c.args.term.now c.in-Opaque.sort c.sort_number-in-Opaque.result c.in-Opaque.is c.in_ok-open-in-Opaque.ensures c.sort_number-in-Opaque.ensures) c.put_small-in-Opaque.ensures

pub term-returns-in_ok-open-in-Truth : goal.term-returns-in_ok-open-in-Truth
term-returns-in_ok-open-in-Truth t c =
    on_ok_weaker c.put_small.result (truth_arm c.args.self.now.numbers c.open.new.self.numbers c.put_small.new.self.numbers [] [] c.args.term.now c.in-Truth.b c.truth_number.result c.in-Truth.is c.in_ok-open-in-Truth.ensures c.truth_number.ensures) c.put_small.ensures

pub term-returns-in_ok-open-in-Number : goal.term-returns-in_ok-open-in-Number
term-returns-in_ok-open-in-Number t c =
    let f : SFits w128 c.in-Number.n = search rules in
    on_ok_weaker c.put_signed.result (λ e. number_arm c.args.self.now.numbers c.open-in-Number.new.self.numbers c.put_signed.new.self.numbers [] [] c.args.term.now c.in-Number.n c.in-Number.is c.in_ok-open-in-Number.ensures
    (e ∙ ap (λ z. c.open-in-Number.new.self.numbers ++ pos 0 ∷ z ∷ []) (to_z-of_z w128 c.in-Number.n f))) c.put_signed.ensures

pub term-returns-in_ok-open-in-Text : goal.term-returns-in_ok-open-in-Text
term-returns-in_ok-open-in-Text t c =
    on_ok_weaker c.text.result (λ e. text_arm c.args.self.now.numbers c.open-in-Text.new.self.numbers c.text.new.self.numbers [] [] c.args.term.now c.in-Text.w c.in-Text.is c.in_ok-open-in-Text.ensures
    (e ∙ ap (λ w. c.open-in-Text.new.self.numbers ++ flat (word w)) c.as_slice.ensures)) c.text.ensures

pub each-loop-i-preserved : goal.each-loop-i-preserved
each-loop-i-preserved t c = each_step (c.args.self.now.numbers ++ each_of (drop c.args.from c.args.terms.now)) c.loop-i.self.numbers c.pair.new.self.numbers c.term.new.self.numbers c.args.terms.now c.loop-i.i c.index-terms-i.result c.loop-i-test.true c.index-terms-i.is c.loop-i.invariant c.in_ok-pair.ensures c.in_ok-term.ensures
