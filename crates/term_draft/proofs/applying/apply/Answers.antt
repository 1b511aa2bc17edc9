use Rattle.std.proofs.Common.{List, ap, map, sym, ◌∙◌}
use Rattle.std.proofs.lemmas.Result.{IfOk-weaker}
use Rattle.sv_terms.specs.declared.entry.Body.TheVariants as body
use Rattle.smt_names.specs.declared.function.Interpretation.{Interpretation}
use Rattle.sv_terms.specs.declared.regex.Regex.{Regex}
use Rattle.sv_terms.specs.declared.regex.Regex.TheVariants as re
use Rattle.term_weight.specs.Bodies.{regex_of}
use Rattle.term_weight.specs.Ranks.{of_one}
use Rattle.term_weight.specs.Weights.{around_one, plain}
use Rattle.term_draft.proofs.applying.apply.Goals as goal

pub returns-in-Meaning : goal.returns-in-Meaning
returns-in-Meaning c = IfOk-weaker c.apply_op.result _ _ (λ x h. h ∙ sym (ap (λ (z : Interpretation). plain z c.args.bodies) c.in-Meaning.is)) c.apply_op.ensures

pub returns-in-Membership : goal.returns-in-Membership
returns-in-Membership c = IfOk-weaker c.membership.result _ _ (λ x h. h ∙ sym (ap (λ (z : Interpretation). plain z c.args.bodies) c.in-Membership.is)) c.membership.ensures

pub returns-in-Equality : goal.returns-in-Equality
returns-in-Equality c = IfOk-weaker c.apply_op-in-Equality.result _ _ (λ x h. h ∙ sym (ap (λ (z : Interpretation). plain z c.args.bodies) c.in-Equality.is)) c.apply_op-in-Equality.ensures

pub returns-in-Choice : goal.returns-in-Choice
returns-in-Choice c = IfOk-weaker c.apply_op-in-Choice.result _ _ (λ x h. h ∙ sym (ap (λ (z : Interpretation). plain z c.args.bodies) c.in-Choice.is)) c.apply_op-in-Choice.ensures

pub returns-in-Product : goal.returns-in-Product
returns-in-Product c = IfOk-weaker c.apply_op-in-Product.result _ _ (λ x h. h ∙ sym (ap (λ (z : Interpretation). plain z c.args.bodies) c.in-Product.is)) c.apply_op-in-Product.ensures

pub returns-in-Replacement : goal.returns-in-Replacement
returns-in-Replacement c = IfOk-weaker c.apply_op-in-Replacement.result _ _ (λ x h. h ∙ sym (ap (λ (z : Interpretation). plain z c.args.bodies) c.in-Replacement.is)) c.apply_op-in-Replacement.ensures

pub returns-in-Star : goal.returns-in-Star
returns-in-Star c =
    IfOk-weaker c.combine_one.result _ _ (λ x h. h ∙ ap (λ (z : Interpretation). body.Language (of_one (around_one z) (map regex_of c.args.bodies))) c.in-Star.is ∙ sym (ap (λ (z : Interpretation). plain z c.args.bodies) c.in-Star.is)) c.combine_one.ensures

pub returns-in-Plus : goal.returns-in-Plus
returns-in-Plus c =
    IfOk-weaker c.combine_one-in-Plus.result _ _ (λ x h. h ∙ ap (λ (z : Interpretation). body.Language (of_one (around_one z) (map regex_of c.args.bodies))) c.in-Plus.is ∙ sym (ap (λ (z : Interpretation). plain z c.args.bodies) c.in-Plus.is)) c.combine_one-in-Plus.ensures

pub returns-in-Opt : goal.returns-in-Opt
returns-in-Opt c =
    IfOk-weaker c.combine_one-in-Opt.result _ _ (λ x h. h ∙ ap (λ (z : Interpretation). body.Language (of_one (around_one z) (map regex_of c.args.bodies))) c.in-Opt.is ∙ sym (ap (λ (z : Interpretation). plain z c.args.bodies) c.in-Opt.is)) c.combine_one-in-Opt.ensures

pub returns-in-Comp : goal.returns-in-Comp
returns-in-Comp c =
    IfOk-weaker c.combine_one-in-Comp.result _ _ (λ x h. h ∙ ap (λ (z : Interpretation). body.Language (of_one (around_one z) (map regex_of c.args.bodies))) c.in-Comp.is ∙ sym (ap (λ (z : Interpretation). plain z c.args.bodies) c.in-Comp.is)) c.combine_one-in-Comp.ensures

pub returns-in-Loop : goal.returns-in-Loop
returns-in-Loop c =
    IfOk-weaker c.combine_one-in-Loop.result _ _ (λ x h. h ∙ ap (λ (z : Interpretation). body.Language (of_one (around_one z) (map regex_of c.args.bodies))) c.in-Loop.is ∙ sym (ap (λ (z : Interpretation). plain z c.args.bodies) c.in-Loop.is)) c.combine_one-in-Loop.ensures

pub returns-in-TextOf : goal.returns-in-TextOf
returns-in-TextOf c = c.word_body.ensures ∙ sym (ap (λ (z : Interpretation). plain z c.args.bodies) c.in-TextOf.is)

pub returns-in-Range : goal.returns-in-Range
returns-in-Range c = c.range_body.ensures ∙ sym (ap (λ (z : Interpretation). plain z c.args.bodies) c.in-Range.is)

pub returns-in-Character : goal.returns-in-Character
returns-in-Character c = IfOk-weaker c.character.result _ _ (λ x h. h ∙ sym (ap (λ (z : Interpretation). plain z c.args.bodies) c.in-Character.is)) c.character.ensures

pub returns-in_ok-into_regexes-in-Concat : goal.returns-in_ok-into_regexes-in-Concat
returns-in_ok-into_regexes-in-Concat c = ap (λ (rs : List Regex). body.Language (re.Concat rs)) c.in_ok-into_regexes-in-Concat.ensures ∙ sym (ap (λ (z : Interpretation). plain z c.args.bodies) c.in-Concat.is)

pub returns-in_ok-into_regexes-in-Union : goal.returns-in_ok-into_regexes-in-Union
returns-in_ok-into_regexes-in-Union c = ap (λ (rs : List Regex). body.Language (re.Union rs)) c.in_ok-into_regexes-in-Union.ensures ∙ sym (ap (λ (z : Interpretation). plain z c.args.bodies) c.in-Union.is)

pub returns-in_ok-into_regexes-in-Inter : goal.returns-in_ok-into_regexes-in-Inter
returns-in_ok-into_regexes-in-Inter c = ap (λ (rs : List Regex). body.Language (re.Inter rs)) c.in_ok-into_regexes-in-Inter.ensures ∙ sym (ap (λ (z : Interpretation). plain z c.args.bodies) c.in-Inter.is)

pub returns-in_ok-into_regexes-in-Diff : goal.returns-in_ok-into_regexes-in-Diff
returns-in_ok-into_regexes-in-Diff c = ap (λ (rs : List Regex). body.Language (re.Diff rs)) c.in_ok-into_regexes-in-Diff.ensures ∙ sym (ap (λ (z : Interpretation). plain z c.args.bodies) c.in-Diff.is)
