-- The commands of the blocks of a generated script, each with the names that are declared before it.
use Rattle.std.specs.Prelude.{◌≡◌, ℕ, List, [], ◌∷◌, codes, Ok, ⊤}
use Rattle.generated_script.specs.declared.shape.Shape.{Shape as Block}
use Rattle.generated_terms.specs.Terms.{first, second}
use Rattle.literal_forms.specs.Shapes.{raw}
use Rattle.sexpr_reader.specs.declared.sexpr.Sexpr.{Sexpr}
use Rattle.smt_names.specs.Form.{seen}
use Rattle.sort_check.specs.Checking.{checked}
use Rattle.sort_check.specs.declared.commands.Command.{Command}
use Rattle.sort_check.specs.declared.commands.Command.TheVariants as command
use Rattle.sv_terms.specs.declared.entry.Entry.TheVariants as entry
use Rattle.sv_terms.specs.declared.sort.Sort.TheVariants as sort
use Rattle.term_walk.specs.Meant.{Names}

abbrev pub with_x : Names
with_x = (codes "x", entry.Constant sort.String) ∷ []

abbrev pub with_both : Names
with_both = (codes "x", entry.Constant sort.String) ∷ (codes "y", entry.Constant sort.String) ∷ []

-- a level of its own, two constants, the assertions, and the question
abbrev pub block_commands : Block → ℕ → List (Names × Command)
block_commands block k = ([], command.Push 1)
    ∷ ([], command.Declare (codes "x") sort.String)
    ∷ (with_x, command.Declare (codes "y") sort.String)
    ∷ (with_both, command.Assert (raw (first block k)))
    ∷ (with_both, command.Assert (raw (second block k)))
    ∷ (with_both, command.CheckSat)
    ∷ (with_both, command.Pop 1)
    ∷ []

-- each item is this command, where these names are declared
abbrev pub AreCommands : List Sexpr → List (Names × Command) → Type 0
AreCommands [] [] = ⊤
AreCommands [] (c ∷ cs) = ⊥
AreCommands (item ∷ items) [] = ⊥
AreCommands (item ∷ items) (c ∷ cs) = (checked c.0 (seen item) ≡ Ok c.1) × AreCommands items cs
