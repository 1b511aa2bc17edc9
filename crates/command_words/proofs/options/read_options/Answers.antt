use Rattle.std.proofs.Common.{◌≡◌, ◌∙◌, ap, ap₂, sym, List, ℕ, true, false, [], codes, string_bytes, map, Option, option_and_then}
use Rattle.clap.specs.Words.{Row, Text, found_of, first_of, rows_of, matches_of, fault_of}
use Rattle.command_words.specs.Words.{form_app, number_in, is_right, is_right_text}
use Rattle.command_words.specs.declared.options.TheConstants.{GREATEST_SIZE, MOST_WORKERS}
use Rattle.command_words.proofs.Numbers.{all_right, second_wrong}
use Rattle.command_words.proofs.options.read_options.Goals as goal

abbrev numbers : ℕ → ℕ → Option Text → Option ℕ
numbers least most text = option_and_then (number_in least most) text

pub returns-clause-seed : goal.returns-clause-seed
returns-clause-seed c =
    let rows : rows_of (found_of c.in-Ok.found) ≡ matches_of form_app (map string_bytes c.args.words.now) = c.in-Ok.ensures.rows in
    c.in_ok-seed.ensures.ok ∙ ap (numbers 0 18446744073709551615) (c.text_of-seed.ensures ∙ ap (λ (r : List Row). first_of (codes "generate") r) rows)

pub returns-clause-form : goal.returns-clause-form
returns-clause-form c =
    let rows : rows_of (found_of c.in-Ok.found) ≡ matches_of form_app (map string_bytes c.args.words.now) = c.in-Ok.ensures.rows in
    let faults : fault_of form_app (map string_bytes c.args.words.now) ≡ [] = c.in-Ok.ensures.ok in
    let workers = c.text_of-workers.ensures ∙ ap (λ (r : List Row). first_of (codes "workers") r) rows in
    let seed = c.text_of-seed.ensures ∙ ap (λ (r : List Row). first_of (codes "generate") r) rows in
    let size = c.text_of-size.ensures ∙ ap (λ (r : List Row). first_of (codes "size") r) rows in
    let is_workers : is_right (codes "workers") 1 MOST_WORKERS (map string_bytes c.args.words.now) ≡ true = sym (ap₂ is_right_text workers (c.in_ok-workers.ensures.ok ∙ ap (numbers 1 MOST_WORKERS) workers)) ∙ c.in_ok-workers.ensures.right in
    let is_seed : is_right (codes "generate") 0 18446744073709551615 (map string_bytes c.args.words.now) ≡ true = sym (ap₂ is_right_text seed (c.in_ok-seed.ensures.ok ∙ ap (numbers 0 18446744073709551615) seed)) ∙ c.in_ok-seed.ensures.right in
    let is_size : is_right (codes "size") 1 GREATEST_SIZE (map string_bytes c.args.words.now) ≡ true = sym (ap₂ is_right_text size (c.in_ok-size.ensures.ok ∙ ap (numbers 1 GREATEST_SIZE) size)) ∙ c.in_ok-size.ensures.right in
    all_right _ _ _ _ faults is_workers is_seed is_size

pub returns-in_err-seed-clause-outside : goal.returns-in_err-seed-clause-outside
returns-in_err-seed-clause-outside c = λ _.
    let rows : rows_of (found_of c.in-Ok.found) ≡ matches_of form_app (map string_bytes c.args.words.now) = c.in-Ok.ensures.rows in
    let seed = c.text_of-seed.ensures ∙ ap (λ (r : List Row). first_of (codes "generate") r) rows in
    let is_seed : is_right (codes "generate") 0 18446744073709551615 (map string_bytes c.args.words.now) ≡ false = sym (ap₂ is_right_text seed (ap (numbers 0 18446744073709551615) seed)) ∙ c.in_err-seed.ensures.wrong.1 in
    second_wrong _ _ _ _ is_seed
