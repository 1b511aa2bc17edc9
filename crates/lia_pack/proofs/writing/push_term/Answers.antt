use Rattle.std.proofs.Common.{rules, [], ◌∷◌, subst}
use Rattle.std.specs.Int.{w128}
use Rattle.std.proofs.lemmas.Int.{to_z-of_z}
use mir.Val.{SFits}
use Rattle.lia_pack.specs.Numbers.{AreWritten, folded}
use Rattle.lia_pack.proofs.Written.{written_both}
use Rattle.lia_pack.proofs.writing.push_term.Goals as goal

pub returns : goal.returns
returns c =
    let fits : SFits w128 c.args.term.now.1 = search rules in
    let same = rw (to_z-of_z w128 _ fits) at c.fold_sign.ensures in
    written_both c.args.bytes.now c.push_number.new.bytes c.push_number-2.new.bytes (c.args.term.now.0 ∷ []) (folded c.args.term.now.1 ∷ []) c.in_ok-push_number.ensures
    (subst (λ n. AreWritten c.push_number.new.bytes c.push_number-2.new.bytes (n ∷ [])) same c.in_ok-push_number-2.ensures)
