-- No command of a generated script ends the session.
use Rattle.std.proofs.Common.{◌≡◌, ℕ, zero, suc, ◌≤◌, List, [], ◌∷◌, ◌++◌, false, codes, refl, sym, subst, arith}
use Rattle.assert_stack.specs.Levels.{live}
use Rattle.generated_items.specs.Forms as forms
use Rattle.generated_items.specs.Items.{block_at, number_at, block_items, items_from}
use Rattle.generated_commands.specs.Commands.{AreCommands, block_commands}
use Rattle.generated_commands.proofs.Commanded.{block_read}
use Rattle.generated_script.specs.Draws.{behind}
use Rattle.generated_script.specs.declared.shape.Shape.{Shape as Block}
use Rattle.smt_session.proofs.GeneratedBlocks.{with_levels, levels_in, levels_x, levels_y, levels_one, levels_two, behind_one, behind_two, behind_three, behind_four, behind_five, push_told, x_told, y_told, first_told, second_told, pop_told}
use Rattle.smt_session.proofs.GeneratedSteps.{IsCommand, performs}
use Rattle.generated_terms.specs.Terms.{first, second}
use Rattle.literal_forms.specs.Shapes.{raw as term_of}
use Rattle.sexpr_reader.specs.declared.sexpr.Sexpr.{Sexpr}
use Rattle.smt_names.specs.Form.{raw}
use Rattle.smt_session.specs.Scripts.{FollowsScript, none, next}
use Rattle.smt_session.specs.Steps.{State, opened, Checks, Does, Steps, kept_of, with_verdict}
use Rattle.smt_session.specs.declared.reply.Reply.{Reply}
use Rattle.smt_session.specs.declared.session.LastVerdict.{LastVerdict}
use Rattle.sort_check.specs.declared.commands.Command.{Command}
use Rattle.sort_check.specs.declared.commands.Command.TheVariants as command
use Rattle.sv_terms.specs.declared.sort.Sort.TheVariants as sort

-- however the items are answered, the session goes on
abbrev pub GoesOn : State → List Sexpr → Type 0
GoesOn s [] = s.ended ≡ false
GoesOn s (item ∷ items) = (s.ended ≡ false) × ((r : Reply) (t : State) → Steps s item r t → GoesOn t items)

goes_here : (s : State) (items : List Sexpr) → GoesOn s items → s.ended ≡ false
goes_here s [] h = h
goes_here s (item ∷ items) h = h.0

pub never_ended : (s u : State) (xs more : List Sexpr) (log : List Reply) → FollowsScript s xs log u → GoesOn s (xs ++ more) → u.ended ≡ false
never_ended s u xs more log (none a) h = goes_here a more h
never_ended s u xs more log (next a b c i q is l goes step rest) h = never_ended b c is more l rest (h.1 q b step)

goes_by : (s n : State) (item : Sexpr) (others : List Sexpr) (c : Command) → IsCommand s item c → s.ended ≡ false → ((r : Reply) (t : State) → Does s c r t → t ≡ n) → GoesOn n others → GoesOn s (item ∷ others)
goes_by s n item others c e goes told h = (goes, λ r t step. subst (λ (z : State). GoesOn z others) (sym (told r t (performs s t item c r e step))) h)

module _ (block : Block) (k : ℕ) (h : k ≤ 50) where
  abbrev are : AreCommands (block_items block k) (block_commands block k)
  are = block_read block k h

  behind_check : (others : List Sexpr) → GoesOn opened others → (kept : LastVerdict) → GoesOn (with_verdict kept (with_levels (levels_two block k))) (raw forms.popped ∷ others)
  behind_check others g kept = goes_by (with_verdict kept (with_levels (levels_two block k))) opened (raw forms.popped) others (command.Pop 1) are.1.1.1.1.1.1.0 refl (λ r t d. (pop_told block k h kept r t d).1) g

  at_check : (others : List Sexpr) → GoesOn opened others → GoesOn (with_levels (levels_two block k)) (raw forms.asked ∷ raw forms.popped ∷ others)
  at_check others g = (
    refl,
    λ r t step.
        let checks : Checks (with_levels (levels_two block k)) (live (levels_two block k)) [] r t = performs (with_levels (levels_two block k)) t (raw forms.asked) command.CheckSat r are.1.1.1.1.1.0 step in
        subst (λ (z : State). GoesOn z (raw forms.popped ∷ others)) (sym checks.after) (behind_check others g (kept_of [] checks.answer)),
  )

  block_goes : (others : List Sexpr) → GoesOn opened others → GoesOn opened (block_items block k ++ others)
  block_goes others g =
      let five = goes_by (with_levels (levels_one block k)) (with_levels (levels_two block k)) (raw (forms.asserted (forms.second_form block k))) (behind_five block k h others) (command.Assert (term_of (second block k))) are.1.1.1.1.0 refl (λ r t d. (second_told block k h r t d).1) (at_check others g) in
      let four = goes_by (with_levels levels_y) (with_levels (levels_one block k)) (raw (forms.asserted (forms.first_form block k))) (behind_four block k h others) (command.Assert (term_of (first block k))) are.1.1.1.0 refl (λ r t d. (first_told block k h r t d).1) five in
      let three = goes_by (with_levels levels_x) (with_levels levels_y) (raw (forms.declared forms.y)) (behind_three block k h others) (command.Declare (codes "y") sort.String) are.1.1.0 refl (λ r t d. (y_told block k h r t d).1) four in
      let two = goes_by (with_levels levels_in) (with_levels levels_x) (raw (forms.declared forms.x)) (behind_two block k h others) (command.Declare (codes "x") sort.String) are.1.0 refl (λ r t d. (x_told block k h r t d).1) three in
      goes_by opened (with_levels levels_in) (raw forms.pushed) (behind_one block k h others) (command.Push 1) are.0 refl (λ r t d. (push_told block k h r t d).1) two

number_small : (s : ℕ) → number_at s ≤ 50
number_small s = omega arith

pub script_goes : (s n : ℕ) → GoesOn opened (items_from s n)
script_goes s zero = refl
script_goes s (suc n) = block_goes (block_at s) (number_at s) (number_small s) (items_from (behind s) n) (script_goes (behind s) n)
