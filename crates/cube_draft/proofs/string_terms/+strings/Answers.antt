use Rattle.std.proofs.Common.{sym, ap, ◌∙◌, drop}
use Rattle.literal_forms.specs.Linear.{are_strings}
use Rattle.cube_draft.specs.Strings.{is_replaced}
use Rattle.cube_draft.proofs.Forms.{concat_string, replaced_string, seen_all}
use Rattle.cube_draft.proofs.string_terms.+strings.Goals as goal

pub is_string-returns-then-not-is_empty : goal.is_string-returns-then-not-is_empty
is_string-returns-then-not-is_empty t c =
    concat_string c.args.term.now c.in-Apply.op c.in-Apply.terms c.are_strings.result c.in-Apply.is (sym c.build_of.ensures ∙ c.in-Concat.is)
    (λ z. let y = c.is_empty.ensures.1 z in let w = c.if-not-is_empty.true in cc) (c.are_strings.ensures ∙ ap (λ us. are_strings (seen_all (drop 0 us))) c.as_slice.ensures)

pub is_string-returns-in-Replace : goal.is_string-returns-in-Replace
is_string-returns-in-Replace t c = replaced_string c.args.term.now c.in-Apply.op c.in-Apply.terms _ c.is_replacement.result c.in-Apply.is (sym c.build_of.ensures ∙ c.in-Replace.is) (c.is_replacement.ensures ∙ ap (λ us. is_replaced (seen_all us)) c.as_slice-in-Replace.ensures)
