use Rattle.std.proofs.Common.{ap, map, sym, ◌++◌, ◌∙◌, length}
use Rattle.std.proofs.lemmas.Bool.Decides.{Decides-eqb}
use Rattle.literal_forms.specs.Codes.{code}
use Rattle.literal_forms.specs.Flats.{flat, replaced}
use Rattle.literal_forms.specs.Shapes.{seen, shapes}
use Rattle.literal_forms.proofs.Spelled.{concat_written, leaf_arm, other_arm, piece_concat, piece_leaf, piece_other, pieces_all, pieces_of, pieces_step, refuted, replaced_arm, replacement_none, replacement_some}
use Rattle.literal_forms.proofs.code.Written.+pieces.Goals as goal

pub piece-returns-in_ok-pieces-in-Apply : goal.piece-returns-in_ok-pieces-in-Apply
piece-returns-in_ok-pieces-in-Apply t c =
    piece_concat c.args.self.now.numbers c.pieces.new.self.numbers c.args.term.now c.in-Apply.op c.in-Apply.terms c.in-Apply.is (c.is_concat.ensures.0 c.if-is_concat.true)
    (c.in_ok-pieces-in-Apply.ensures ∙ ap (λ us. c.args.self.now.numbers ++ pieces_of us) c.as_slice.ensures)

pub piece-returns-in_ok-string-in-Apply : goal.piece-returns-in_ok-string-in-Apply
piece-returns-in_ok-string-in-Apply t c =
    piece_other c.args.self.now.numbers c.pair.new.self.numbers c.string.new.self.numbers c.args.term.now c.in-Apply.op c.in-Apply.terms c.in-Apply.is (refuted c.is_concat.result c.is_concat.ensures.1 c.if-is_concat.false)
    c.in_ok-pair-in-Apply.ensures c.in_ok-string-in-Apply.ensures

pub pieces-loop-i-preserved : goal.pieces-loop-i-preserved
pieces-loop-i-preserved t c = pieces_step (c.args.self.now.numbers ++ pieces_of c.args.terms.now) c.loop-i.self.numbers c.piece.new.self.numbers c.args.terms.now c.loop-i.i c.index-terms-i.result c.loop-i-test.true c.index-terms-i.is c.loop-i.invariant c.in_ok-piece.ensures

pub replacement-returns : goal.replacement-returns
replacement-returns t c =
    replacement_some c.args.self.now.numbers c.open_numbered.new.self.numbers c.pair.new.self.numbers c.string.new.self.numbers c.each.new.self.numbers c.close-2.new.self.numbers c.args.op c.args.terms.now c.index-terms-0.result c.op_number.result
    c.op_number.ensures c.in_ok-open_numbered.ensures (refuted _ (Decides-eqb (length c.args.terms.now) 0).1 (sym c.is_empty.ensures ∙ c.if-is_empty.false)) c.in_ok-pair.ensures c.index-terms-0.is c.in_ok-string.ensures c.in_ok-each.ensures c.in_ok-close-2.ensures

pub string-returns-in_ok-close-in-Apply : goal.string-returns-in_ok-close-in-Apply
string-returns-in_ok-close-in-Apply t c =
    concat_written c.args.self.now.numbers c.open_numbered.new.self.numbers c.pieces.new.self.numbers c.close.new.self.numbers c.args.term.now c.in-Apply.op c.in-Apply.terms c.op_number.result
    c.in-Apply.is (c.is_concat.ensures.0 c.if-is_concat.true) c.op_number.ensures c.in_ok-open_numbered-in-Apply.ensures
    (c.in_ok-pieces-in-Apply.ensures ∙ ap (λ us. c.open_numbered.new.self.numbers ++ pieces_of us) c.as_slice.ensures) c.in_ok-close-in-Apply.ensures

pub piece-returns-in_ok-string-in_default : goal.piece-returns-in_ok-string-in_default
piece-returns-in_ok-string-in_default t c = piece_leaf c.args.self.now.numbers c.pair-in_default.new.self.numbers c.string-in_default.new.self.numbers c.args.term.now c.in_default.not-Apply c.in_ok-pair-in_default.ensures c.in_ok-string-in_default.ensures

pub pieces-returns : goal.pieces-returns
pieces-returns t c = pieces_all (c.args.self.now.numbers ++ pieces_of c.args.terms.now) c.loop-i.self.numbers c.args.terms.now c.loop-i.i c.loop-i-test.false c.loop-i.invariant

pub replacement-returns-then-is_empty : goal.replacement-returns-then-is_empty
replacement-returns-then-is_empty t c = replacement_none c.args.self.now.numbers c.open_numbered.new.self.numbers c.close.new.self.numbers c.args.op c.args.terms.now c.op_number.result c.op_number.ensures c.in_ok-open_numbered.ensures ((Decides-eqb (length c.args.terms.now) 0).0 (sym c.is_empty.ensures ∙ c.if-is_empty.true)) c.in_ok-close.ensures

pub string-returns-in_ok-replacement-in-Apply : goal.string-returns-in_ok-replacement-in-Apply
string-returns-in_ok-replacement-in-Apply t c = replaced_arm c.args.self.now.numbers c.replacement.new.self.numbers c.args.term.now c.in-Apply.op c.in-Apply.terms c.in-Apply.is (c.is_replacement.ensures.0 c.if-is_replacement.true) (c.in_ok-replacement-in-Apply.ensures ∙ ap (λ us. c.args.self.now.numbers ++ flat (code (replaced c.in-Apply.op (shapes (map seen us))))) c.as_slice-then-is_replacement.ensures)

pub string-returns-in_ok-term-in-Apply : goal.string-returns-in_ok-term-in-Apply
string-returns-in_ok-term-in-Apply t c = other_arm c.args.self.now.numbers c.term.new.self.numbers c.args.term.now c.in-Apply.op c.in-Apply.terms c.in-Apply.is (refuted c.is_concat.result c.is_concat.ensures.1 c.if-is_concat.false) (refuted c.is_replacement.result c.is_replacement.ensures.1 c.if-is_replacement.false) c.in_ok-term-in-Apply.ensures

pub string-returns-in_ok-term-in_default : goal.string-returns-in_ok-term-in_default
string-returns-in_ok-term-in_default t c = leaf_arm c.args.self.now.numbers c.term-in_default.new.self.numbers c.args.term.now c.in_default.not-Apply c.in_ok-term-in_default.ensures
