use Rattle.std.proofs.Common.{rules, ◌≡◌, ◌&&◌, ℕ, List, w32, to_z, of_z, ◌∙◌, ap, subst, sym}
use mir.Val.{SFits}
use Rattle.std.proofs.lemmas.Int.{to_z-of_z}
use Rattle.std.proofs.lemmas.Result.{IfOk-weaker}
use Rattle.sv_word.specs.Ranges.{in_ranges}
use Rattle.pre_image.specs.Moved.{AreCharacters}
use Rattle.pre_image.specs.Spelling.{moved_to}
use Rattle.pre_image.proofs.MovedLemmas.{apart-characters, moved-met}
use Rattle.pre_image.proofs.leading.meet_moved.Goals as goal

pub move_all_back-requires : goal.move_all_back-requires
move_all_back-requires c = subst AreCharacters (sym c.as_slice.ensures.pairs) (apart-characters 0 c.args.step.now c.as_slice.ensures.apart)

pub returns : goal.returns
returns c =
    let same : to_z w32 (of_z w32 c.args.by) ≡ c.args.by = to_z-of_z w32 c.args.by (let f : SFits w32 c.args.by = search rules in f) in
    let k = to_z w32 (of_z w32 c.args.by) in
    IfOk-weaker c.meet.result _ _ (λ new meets d.
    subst (λ z. in_ranges new d ≡ (in_ranges c.args.lead.now d && in_ranges c.args.step.now (moved_to z d))) same
    (moved-met c.args.lead.now c.args.step.now c.in_ok-moved.moved new k d c.as_slice-lead.ensures.apart
    (λ top. c.in_ok-moved.ensures d top ∙ ap (λ (l : List (ℕ × ℕ)). in_ranges l (moved_to k d)) c.as_slice.ensures.pairs) (meets d))) c.meet.ensures
