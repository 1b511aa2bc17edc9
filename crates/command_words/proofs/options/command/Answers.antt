use Rattle.std.proofs.Common.{rules, ◌≡◌, ◌∙◌, ap₂, codes}
use Rattle.std.proofs.lemmas.Result.{IfOk-weaker}
use Rattle.clap.specs.Words.{app_of, with_rule, rule_of, new_rule}
use Rattle.command_words.specs.Words.{plain_app, option_rule}
use Rattle.command_words.proofs.options.command.Goals as goal

pub returns : goal.returns
returns c =
    let workers : rule_of c.option.result ≡ option_rule (codes "workers") = search rules in
    let generate : rule_of c.option-2.result ≡ option_rule (codes "generate") = search rules in
    let size : rule_of c.option-3.result ≡ option_rule (codes "size") = search rules in
    let file : rule_of c.new.result ≡ new_rule (codes "file") = search rules in
    let first : app_of c.in_ok-first.first ≡ with_rule plain_app (option_rule (codes "workers")) = c.in_ok-first.ensures.shape c.option.ensures.local ∙ ap₂ with_rule c.command_without_words.ensures workers in
    let second : app_of c.in_ok-second.second ≡ with_rule (with_rule plain_app (option_rule (codes "workers"))) (option_rule (codes "generate")) = c.in_ok-second.ensures.shape c.option-2.ensures.local ∙ ap₂ with_rule first generate in
    let third = c.in_ok-third.ensures.shape c.option-3.ensures.local ∙ ap₂ with_rule second size in
    IfOk-weaker c.arg-4.result _ _ (λ r h. h.shape c.new.ensures.optional.1 ∙ ap₂ with_rule third file) c.arg-4.ensures
