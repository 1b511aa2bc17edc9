-- The items of a block as commands.
use Rattle.std.proofs.Common.{◌≡◌, ℕ, ◌≤◌, [], codes, Ok, refl, ap, ◌∙◌}
use Rattle.generated_script.specs.declared.shape.Shape.{Shape as Block}
use Rattle.generated_terms.specs.Terms as terms
use Rattle.generated_items.specs.Forms as forms
use Rattle.generated_items.specs.Items.{block_items}
use Rattle.generated_items.proofs.Raws.{seen-raw}
use Rattle.literal_forms.specs.Shapes.{raw as term_of}
use Rattle.smt_names.specs.Form.{Form, seen, raw}
use Rattle.sort_check.specs.Checking.{checked}
use Rattle.sort_check.specs.declared.commands.Command.{Command}
use Rattle.sort_check.specs.declared.commands.Command.TheVariants as command
use Rattle.sv_terms.specs.declared.sort.Sort.TheVariants as sort
use Rattle.term_walk.specs.Meant.{Names}
use Rattle.generated_commands.specs.Commands.{with_x, with_both, block_commands, AreCommands}
use Rattle.generated_commands.proofs.Asserted.{first_asserted, second_asserted}

-- of the s-expression of a form
of_form : (symbols : Names) (f : Form) (c : Command) → checked symbols f ≡ Ok c → checked symbols (seen (raw f)) ≡ Ok c
of_form symbols f c h = ap (checked symbols) (seen-raw f) ∙ h

pub block_read : (block : Block) (k : ℕ) → k ≤ 50 → AreCommands (block_items block k) (block_commands block k)
block_read block k h = (
  of_form [] forms.pushed (command.Push 1) refl,
  (
    of_form [] (forms.declared forms.x) (command.Declare (codes "x") sort.String) refl,
    (
      of_form with_x (forms.declared forms.y) (command.Declare (codes "y") sort.String) refl,
      (
        of_form with_both (forms.asserted (forms.first_form block k)) (command.Assert (term_of (terms.first block k))) (first_asserted block k h),
        (
          of_form with_both (forms.asserted (forms.second_form block k)) (command.Assert (term_of (terms.second block k))) (second_asserted block k h),
          (of_form with_both forms.asked command.CheckSat refl, (of_form with_both forms.popped (command.Pop 1) refl, tt)),
        ),
      ),
    ),
  ),
)
