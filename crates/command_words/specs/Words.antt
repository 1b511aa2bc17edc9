-- The form of the words: a simple command with three options that take a number, and one optional file.
use Rattle.std.specs.Prelude.{◌==◌, ◌&&◌, ◌||◌, not, ℕ, List, Bool, Option, None, Some, true, codes, length, if◌then◌else◌, is_some, option_and_then, false}
use Rattle.std.specs.Str.Parse.{digits_value, without_leading_plus}
use Rattle.clap.specs.ValueTests.{is_unsigned_in}
use Rattle.clap.specs.Words.{App, Rule, Text, new_app, new_rule, with_rule, first_of, matches_of, fault_of}
use Rattle.clap.specs.Simple.{on_top}
use Rattle.command_words.specs.declared.options.TheConstants.{GREATEST_SIZE, MOST_WORKERS}

abbrev pub option_rule : Text → Rule
option_rule name = record (new_rule name) { long = Some name }

abbrev pub plain_app : App
plain_app = on_top (λ s. record s { no_binary_name = true; disable_help_flag = true; disable_version_flag = true }) (new_app (codes "strsolve"))

-- three value options and one optional positional
abbrev pub form_app : App
form_app = with_rule (with_rule (with_rule (with_rule plain_app (option_rule (codes "workers"))) (option_rule (codes "generate"))) (option_rule (codes "size"))) (new_rule (codes "file"))

-- the text that the words give for a name
abbrev pub given : Text → List Text → Option Text
given name words = first_of name (matches_of form_app words)

-- the number of a text, where it is one within these bounds
unfoldable pub number_in : ℕ → ℕ → Text → Option ℕ
number_in least most text = if is_unsigned_in least most text then Some (digits_value 10 (without_leading_plus text)) else None

abbrev pub number_given : Text → ℕ → ℕ → List Text → Option ℕ
number_given name least most words = option_and_then (number_in least most) (given name words)

abbrev pub workers_given : List Text → Option ℕ
workers_given words = number_given (codes "workers") 1 MOST_WORKERS words

abbrev pub seed_given : List Text → Option ℕ
seed_given words = number_given (codes "generate") 0 18446744073709551615 words

abbrev pub size_given : List Text → Option ℕ
size_given words = number_given (codes "size") 1 GREATEST_SIZE words

abbrev pub file_given : List Text → Option Text
file_given words = given (codes "file") words

abbrev pub is_right_text : Option Text → Option ℕ → Bool
is_right_text text number = is_some number || not (is_some text)

-- a number that is given is one within these bounds
abbrev pub is_right : Text → ℕ → ℕ → List Text → Bool
is_right name least most words = is_right_text (given name words) (number_given name least most words)

-- the words are those of the simple command, with numbers within their bounds
abbrev pub are_options : List Text → Bool
are_options words = length (fault_of form_app words) == 0 && (is_right (codes "workers") 1 MOST_WORKERS words && (is_right (codes "generate") 0 18446744073709551615 words && is_right (codes "size") 1 GREATEST_SIZE words))

-- a seed and a size stand together, and without a file
abbrev pub are_together : {A : Type 0} → Option ℕ → Option ℕ → Option A → Bool
are_together (Some seed) (Some size) None = true
are_together (Some seed) size file = false
are_together None (Some size) file = false
are_together None None file = true

abbrev pub is_in_form : List Text → Bool
is_in_form words = are_options words && are_together (seed_given words) (size_given words) (file_given words)
