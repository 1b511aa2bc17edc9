use Rattle.std.proofs.Common.{rules, ◌≡◌, ◌&&◌, pos, sym, ap, ◌∙◌}
use Rattle.std.proofs.lemmas.Result.{IfOk-weaker}
use Rattle.sv_word.specs.Ranges.{in_ranges}
use Rattle.pre_image.specs.Leading.{next_of}
use Rattle.pre_image.specs.declared.letter.Letter.TheVariants.{Moved}
use Rattle.pre_image.proofs.MovedLemmas.{still-met}
use Rattle.pre_image.proofs.leading.characters.Goals as goal

pub returns-in-Moved-eq0 : goal.returns-in-Moved-eq0
returns-in-Moved-eq0 c =
    let still : c.args.next ≡ Moved (pos 0) = search rules in
    IfOk-weaker c.meet.result _ _ (λ both met d. still-met c.args.lead.now c.args.step.now both d c.as_slice-lead.ensures.apart (met d)
    ∙ ap (λ n. in_ranges c.args.lead.now d && in_ranges c.args.step.now (next_of n d)) (sym still)) c.meet.ensures
