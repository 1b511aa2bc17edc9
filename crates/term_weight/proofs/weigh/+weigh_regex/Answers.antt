use Rattle.std.proofs.Common.{◌≡◌, sym, subst, ap, ◌∙◌, map, IfOk, [], ◌∷◌}
use Rattle.term_weight.specs.LayerLaws.{weight-Empty, weight-All, weight-AnyChar, weight-Word, weight-Range, weight-Concat, weight-Union, weight-Inter, weight-Diff, weight-Star, weight-Plus, weight-Opt, weight-Comp, weight-Loop}
use Rattle.term_weight.specs.Weights.{combined_weight, regex_weight}
use Rattle.term_weight.proofs.weigh.+weigh_regex.Goals as goal

pub weigh_regex-returns-in-Empty : goal.weigh_regex-returns-in-Empty
weigh_regex-returns-in-Empty t c = c.language.ensures ∙ sym weight-Empty ∙ ap regex_weight (sym c.in-Empty.is)

pub weigh_regex-returns-in-All : goal.weigh_regex-returns-in-All
weigh_regex-returns-in-All t c = c.language-in-All.ensures ∙ sym weight-All ∙ ap regex_weight (sym c.in-All.is)

pub weigh_regex-returns-in-AnyChar : goal.weigh_regex-returns-in-AnyChar
weigh_regex-returns-in-AnyChar t c = c.language-in-AnyChar.ensures ∙ sym weight-AnyChar ∙ ap regex_weight (sym c.in-AnyChar.is)

pub weigh_regex-returns-in-Text : goal.weigh_regex-returns-in-Text
weigh_regex-returns-in-Text t c = c.language-in-Text.ensures ∙ sym (weight-Word c.in-Text.field-0) ∙ ap regex_weight (sym c.in-Text.is)

pub weigh_regex-returns-in-Range : goal.weigh_regex-returns-in-Range
weigh_regex-returns-in-Range t c = c.language-in-Range.ensures ∙ sym (weight-Range c.in-Range.field-0 c.in-Range.field-1) ∙ ap regex_weight (sym c.in-Range.is)

pub weigh_regex-returns-in-Concat : goal.weigh_regex-returns-in-Concat
weigh_regex-returns-in-Concat t c = subst (λ w. IfOk c.weigh_regexes.result (λ x. x ≡ w)) (ap (λ rs. combined_weight (map regex_weight rs)) c.as_slice.ensures ∙ sym (weight-Concat c.in-Concat.rs) ∙ ap regex_weight (sym c.in-Concat.is)) c.weigh_regexes.ensures

pub weigh_regex-returns-in-Union : goal.weigh_regex-returns-in-Union
weigh_regex-returns-in-Union t c = subst (λ w. IfOk c.weigh_regexes-in-Union.result (λ x. x ≡ w)) (ap (λ rs. combined_weight (map regex_weight rs)) c.as_slice-in-Union.ensures ∙ sym (weight-Union c.in-Union.rs) ∙ ap regex_weight (sym c.in-Union.is)) c.weigh_regexes-in-Union.ensures

pub weigh_regex-returns-in-Inter : goal.weigh_regex-returns-in-Inter
weigh_regex-returns-in-Inter t c = subst (λ w. IfOk c.weigh_regexes-in-Inter.result (λ x. x ≡ w)) (ap (λ rs. combined_weight (map regex_weight rs)) c.as_slice-in-Inter.ensures ∙ sym (weight-Inter c.in-Inter.rs) ∙ ap regex_weight (sym c.in-Inter.is)) c.weigh_regexes-in-Inter.ensures

pub weigh_regex-returns-in-Diff : goal.weigh_regex-returns-in-Diff
weigh_regex-returns-in-Diff t c = subst (λ w. IfOk c.weigh_regexes-in-Diff.result (λ x. x ≡ w)) (ap (λ rs. combined_weight (map regex_weight rs)) c.as_slice-in-Diff.ensures ∙ sym (weight-Diff c.in-Diff.rs) ∙ ap regex_weight (sym c.in-Diff.is)) c.weigh_regexes-in-Diff.ensures

pub weigh_regex-returns-in_ok-weigh_regex-in-Star : goal.weigh_regex-returns-in_ok-weigh_regex-in-Star
weigh_regex-returns-in_ok-weigh_regex-in-Star t c = c.one_weight.ensures ∙ ap (λ w. combined_weight (w ∷ [])) (c.in_ok-weigh_regex-in-Star.ensures ∙ ap regex_weight c.get.ensures) ∙ sym (weight-Star c.in-Star.r) ∙ ap regex_weight (sym c.in-Star.is)

pub weigh_regex-returns-in_ok-weigh_regex-in-Plus : goal.weigh_regex-returns-in_ok-weigh_regex-in-Plus
weigh_regex-returns-in_ok-weigh_regex-in-Plus t c = c.one_weight-in-Plus.ensures ∙ ap (λ w. combined_weight (w ∷ [])) (c.in_ok-weigh_regex-in-Plus.ensures ∙ ap regex_weight c.get-in-Plus.ensures) ∙ sym (weight-Plus c.in-Plus.r) ∙ ap regex_weight (sym c.in-Plus.is)

pub weigh_regex-returns-in_ok-weigh_regex-in-Opt : goal.weigh_regex-returns-in_ok-weigh_regex-in-Opt
weigh_regex-returns-in_ok-weigh_regex-in-Opt t c = c.one_weight-in-Opt.ensures ∙ ap (λ w. combined_weight (w ∷ [])) (c.in_ok-weigh_regex-in-Opt.ensures ∙ ap regex_weight c.get-in-Opt.ensures) ∙ sym (weight-Opt c.in-Opt.r) ∙ ap regex_weight (sym c.in-Opt.is)

pub weigh_regex-returns-in_ok-weigh_regex-in-Comp : goal.weigh_regex-returns-in_ok-weigh_regex-in-Comp
weigh_regex-returns-in_ok-weigh_regex-in-Comp t c = c.one_weight-in-Comp.ensures ∙ ap (λ w. combined_weight (w ∷ [])) (c.in_ok-weigh_regex-in-Comp.ensures ∙ ap regex_weight c.get-in-Comp.ensures) ∙ sym (weight-Comp c.in-Comp.r) ∙ ap regex_weight (sym c.in-Comp.is)

pub weigh_regex-returns-in_ok-weigh_regex-in-Loop : goal.weigh_regex-returns-in_ok-weigh_regex-in-Loop
weigh_regex-returns-in_ok-weigh_regex-in-Loop t c = c.one_weight-in-Loop.ensures ∙ ap (λ w. combined_weight (w ∷ [])) (c.in_ok-weigh_regex-in-Loop.ensures ∙ ap regex_weight c.get-in-Loop.ensures) ∙ sym (weight-Loop c.in-Loop.r c.in-Loop.field-1 c.in-Loop.field-2) ∙ ap regex_weight (sym c.in-Loop.is)
