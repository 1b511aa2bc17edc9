-- What words of the form ask for.
use Rattle.std.specs.Prelude.{◌≡◌, ◌&&◌, not, ℕ, List, Option, None, Some, true, if◌then◌else◌, is_some, option_map}
use Rattle.std.specs.Option.{unwrap_or}
use Rattle.clap.specs.Words.{Text}
use Rattle.command_words.specs.Words.{is_in_form, workers_given, seed_given, size_given, file_given}
use Rattle.command_words.specs.declared.command_line.CommandLine.{CommandLine}
use Rattle.command_words.specs.declared.command_line.Task.{Task}
use Rattle.command_words.specs.declared.command_line.Task.TheVariants.{Answer, Generate}

-- the file whose script is to be answered, or none, where it is standard input; nothing where the words don't ask for that
abbrev pub named : List Text → Option (Option Text)
named words = if is_in_form words && not (is_some (seed_given words)) then Some (file_given words) else None

-- the task is the one of this seed, size and file
abbrev pub IsTaskOf : Option ℕ → Option ℕ → Option Text → Task → Type 0
IsTaskOf seed size file (Answer name) = (seed ≡ None) × (size ≡ None) × (option_map (λ text. text.now) name ≡ file)
IsTaskOf seed size file (Generate s n) = (seed ≡ Some s) × (size ≡ Some n) × (file ≡ None)

-- what is to be read where the script isn't a generated one
abbrev pub name_in : Task → Option (Option Text)
name_in (Answer name) = Some (option_map (λ text. text.now) name)
name_in (Generate seed size) = None

-- the command line is what the words ask for
pub record IsAskedLine (words : List Text) (line : CommandLine) : Type 0 where
  pub form : is_in_form words ≡ true
  pub workers : line.workers ≡ unwrap_or (workers_given words) 1
  pub task : IsTaskOf (seed_given words) (size_given words) (file_given words) line.task
  pub name : named words ≡ name_in line.task
