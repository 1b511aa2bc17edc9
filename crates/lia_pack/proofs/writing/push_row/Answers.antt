use Rattle.std.proofs.Common.{rules, [], ◌∷◌, length, subst}
use Rattle.std.specs.Int.{w128}
use Rattle.std.specs.List.{flat_map}
use Rattle.std.proofs.lemmas.Int.{to_z-of_z}
use mir.Val.{SFits}
use Rattle.lia_pack.specs.Numbers.{AreWritten, folded}
use Rattle.lia_pack.specs.Tables.{kind_number, term_numbers}
use Rattle.lia_pack.proofs.Written.{written_row}
use Rattle.lia_pack.proofs.writing.push_row.Goals as goal

pub returns : goal.returns
returns c =
    let row = c.args.row.now in
    let fits : SFits w128 row.form.constant = search rules in
    let same = rw (to_z-of_z w128 _ fits) at c.fold_sign.ensures in
    written_row c.args.bytes.now c.push_number.new.bytes c.push_number-2.new.bytes c.push_number-3.new.bytes c.push_terms.new.bytes
    (kind_number row.kind) (length row.form.coefficients) (folded row.form.constant) (flat_map term_numbers row.form.coefficients)
    (subst (λ n. AreWritten c.args.bytes.now c.push_number.new.bytes (n ∷ [])) c.number_of_kind.ensures c.in_ok-push_number.ensures)
    (subst (λ n. AreWritten c.push_number.new.bytes c.push_number-2.new.bytes (n ∷ [])) c.len.ensures c.in_ok-push_number-2.ensures)
    (subst (λ n. AreWritten c.push_number-2.new.bytes c.push_number-3.new.bytes (n ∷ [])) same c.in_ok-push_number-3.ensures)
    (subst (λ ts. AreWritten c.push_number-3.new.bytes c.push_terms.new.bytes (flat_map term_numbers ts)) c.as_slice.ensures c.in_ok-push_terms.ensures)
