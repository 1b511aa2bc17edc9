use Rattle.std.proofs.Common.{rules, ◌≡◌, w32, to_z, of_z, subst}
use mir.Val.{SFits}
use Rattle.std.proofs.lemmas.Int.{to_z-of_z}
use Rattle.std.proofs.lemmas.Result.{IfOk-weaker}
use Rattle.sv_word.specs.Ranges.{in_ranges}
use Rattle.pre_image.specs.Spelling.{moved_to}
use Rattle.pre_image.proofs.MovedLemmas.{halves-joined}
use Rattle.pre_image.proofs.leading.+move_all_back.Goals as goal

pub returns-in_ok-others-in_default : goal.returns-in_ok-others-in_default
returns-in_ok-others-in_default t c =
    let same : to_z w32 (of_z w32 c.args.by) ≡ c.args.by = to_z-of_z w32 c.args.by (let f : SFits w32 c.args.by = search rules in f) in
    IfOk-weaker c.join.result _ _ (λ new joins d top.
    subst (λ z. in_ranges new d ≡ in_ranges c.args.pairs.now (moved_to z d)) same
    (halves-joined c.args.pairs.now c.split_at.result.0.now c.split_at.result.1.now c.in_ok-first-in_default.first c.in_ok-others-in_default.others new _ (to_z w32 (of_z w32 c.args.by)) d
    c.split_at.ensures.front c.split_at.ensures.back (c.in_ok-first-in_default.ensures d top) (c.in_ok-others-in_default.ensures d top) (joins d))) c.join.ensures
