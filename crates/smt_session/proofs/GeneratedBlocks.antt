-- What is replied to a block.
use Rattle.std.proofs.Common.{◌≡◌, ℕ, ◌≤◌, List, [], ◌∷◌, ◌++◌, Bool, true, false, None, codes, ap, ◌∙◌, subst}
use Rattle.assert_stack.specs.Levels.{Level, empty, live, pushed, declared, asserted}
use Rattle.decide.specs.declared.verdict.Verdict.{Verdict}
use Rattle.generated_commands.specs.Commands.{AreCommands, block_commands}
use Rattle.generated_commands.proofs.Commanded.{block_read}
use Rattle.generated_items.specs.Forms as forms
use Rattle.generated_items.specs.Items.{block_items}
use Rattle.generated_script.specs.declared.shape.Shape.{Shape as Block}
use Rattle.smt_session.specs.Tabled.{IsReplyBy}
use Rattle.smt_session.proofs.GeneratedSteps.{performs, silent, first_done, silent_done}
use Rattle.generated_terms.specs.Terms.{first, second, has_values}
use Rattle.generated_verdicts.specs.Table.{IsVerdictBy}
use Rattle.generated_verdicts.proofs.Tabled.{tabled}
use Rattle.literal_forms.specs.Shapes.{raw as term_of}
use Rattle.sexpr_reader.specs.declared.sexpr.Sexpr.{Sexpr}
use Rattle.smt_names.specs.Form.{raw}
use Rattle.smt_session.specs.Scripts.{FollowsScript}
use Rattle.smt_session.specs.Steps.{State, state, opened, Tells, Checks, Does, kept_of, with_verdict}
use Rattle.smt_session.specs.declared.reply.Reply.{Reply}
use Rattle.smt_session.specs.declared.reply.Reply.TheVariants.{Success, Unsupported, Echo, Error, Sat, Unsat, Unknown, Definitions, Values, Info, Core}
use Rattle.smt_session.specs.declared.session.LastVerdict.{LastVerdict}
use Rattle.sort_check.specs.declared.commands.Command.TheVariants as command
use Rattle.sv_terms.specs.declared.entry.Entry.TheVariants as entry
use Rattle.sv_terms.specs.declared.sort.Sort.TheVariants as sort

-- a session with these levels
abbrev pub with_levels : List Level → State
with_levels ls = state ls None false false

-- the levels behind each command of a block
abbrev pub levels_in : List Level
levels_in = pushed 1 (empty ∷ [])

abbrev pub levels_x : List Level
levels_x = declared (codes "x") (entry.Constant sort.String) levels_in

abbrev pub levels_y : List Level
levels_y = declared (codes "y") (entry.Constant sort.String) levels_x

abbrev pub levels_one : Block → ℕ → List Level
levels_one block k = asserted (term_of (first block k)) levels_y

abbrev pub levels_two : Block → ℕ → List Level
levels_two block k = asserted (term_of (second block k)) (levels_one block k)

-- a reply tells the table's verdict
reply_by : (b : Bool) (r : Reply) (v : Verdict) → Tells r v → IsVerdictBy b v → IsReplyBy b r
reply_by true (Sat values) v t h = tt
reply_by false (Sat values) v t h = subst (IsVerdictBy false) t h
reply_by true Unsat v t h = subst (IsVerdictBy true) t.1 h
reply_by false Unsat v t h = tt
reply_by true (Unknown why) v t h = subst (IsVerdictBy true) t h
reply_by false (Unknown why) v t h = subst (IsVerdictBy false) t h
reply_by b (Success p) v t h = absurd t
reply_by b Unsupported v t h = absurd t
reply_by b (Echo text) v t h = absurd t
reply_by b (Error kind) v t h = absurd t
reply_by b (Definitions ds) v t h = absurd t
reply_by b (Values vs) v t h = absurd t
reply_by b (Info i) v t h = absurd t
reply_by b (Core list) v t h = absurd t

pub checks_by : (block : Block) (k : ℕ) (r : Reply) (t : State) → k ≤ 50 → Checks (with_levels (levels_two block k)) (live (levels_two block k)) [] r t → IsReplyBy (has_values block k) r
checks_by block k r t h c = reply_by (has_values block k) r c.answer c.told (tabled block k c.answer h c.right c.complete)

-- the seven replies to a block, of which the sixth is a verdict, and what follows them
pub record BlockDone (block : Block) (k : ℕ) (u : State) (others : List Sexpr) (log : List Reply) : Type 0 where
  pub reply : Reply
  pub late : List Reply
  pub is : log ≡ silent ∷ silent ∷ silent ∷ silent ∷ silent ∷ reply ∷ silent ∷ late
  pub verdict : IsReplyBy (has_values block k) reply
  pub follows : FollowsScript opened others late u

module _ (block : Block) (k : ℕ) (h : k ≤ 50) where
  abbrev are : AreCommands (block_items block k) (block_commands block k)
  are = block_read block k h

  abbrev pub behind_six : List Sexpr → List Sexpr
  behind_six others = raw forms.popped ∷ others

  abbrev pub behind_five : List Sexpr → List Sexpr
  behind_five others = raw forms.asked ∷ behind_six others

  abbrev pub behind_four : List Sexpr → List Sexpr
  behind_four others = raw (forms.asserted (forms.second_form block k)) ∷ behind_five others

  abbrev pub behind_three : List Sexpr → List Sexpr
  behind_three others = raw (forms.asserted (forms.first_form block k)) ∷ behind_four others

  abbrev pub behind_two : List Sexpr → List Sexpr
  behind_two others = raw (forms.declared forms.y) ∷ behind_three others

  abbrev pub behind_one : List Sexpr → List Sexpr
  behind_one others = raw (forms.declared forms.x) ∷ behind_two others

  pub push_told : (r : Reply) (t : State) → Does opened (command.Push 1) r t → (r ≡ silent) × (t ≡ with_levels levels_in)
  push_told r t d = d

  pub x_told : (r : Reply) (t : State) → Does (with_levels levels_in) (command.Declare (codes "x") sort.String) r t → (r ≡ silent) × (t ≡ with_levels levels_x)
  x_told r t d = d

  pub y_told : (r : Reply) (t : State) → Does (with_levels levels_x) (command.Declare (codes "y") sort.String) r t → (r ≡ silent) × (t ≡ with_levels levels_y)
  y_told r t d = d

  pub first_told : (r : Reply) (t : State) → Does (with_levels levels_y) (command.Assert (term_of (first block k))) r t → (r ≡ silent) × (t ≡ with_levels (levels_one block k))
  first_told r t d = d

  pub second_told : (r : Reply) (t : State) → Does (with_levels (levels_one block k)) (command.Assert (term_of (second block k))) r t → (r ≡ silent) × (t ≡ with_levels (levels_two block k))
  second_told r t d = d

  pub pop_told : (kept : LastVerdict) (r : Reply) (t : State) → Does (with_verdict kept (with_levels (levels_two block k))) (command.Pop 1) r t → (r ≡ silent) × (t ≡ opened)
  pop_told kept r t d = d

  pub block_done : (u : State) (others : List Sexpr) (log : List Reply) → FollowsScript opened (block_items block k ++ others) log u → BlockDone block k u others log
  block_done u others log f =
      let one = silent_done opened (with_levels levels_in) u (raw forms.pushed) (behind_one others) (command.Push 1) log are.0 push_told f in
      let two = silent_done (with_levels levels_in) (with_levels levels_x) u (raw (forms.declared forms.x)) (behind_two others) (command.Declare (codes "x") sort.String) one.late are.1.0 x_told one.follows in
      let three = silent_done (with_levels levels_x) (with_levels levels_y) u (raw (forms.declared forms.y)) (behind_three others) (command.Declare (codes "y") sort.String) two.late are.1.1.0 y_told two.follows in
      let four = silent_done (with_levels levels_y) (with_levels (levels_one block k)) u (raw (forms.asserted (forms.first_form block k))) (behind_four others) (command.Assert (term_of (first block k))) three.late are.1.1.1.0 first_told three.follows in
      let five = silent_done (with_levels (levels_one block k)) (with_levels (levels_two block k)) u (raw (forms.asserted (forms.second_form block k))) (behind_five others) (command.Assert (term_of (second block k))) four.late are.1.1.1.1.0 second_told four.follows in
      let six = first_done (with_levels (levels_two block k)) u (raw forms.asked) (behind_six others) five.late five.follows in
      let checks : Checks (with_levels (levels_two block k)) (live (levels_two block k)) [] six.reply six.behind = performs (with_levels (levels_two block k)) six.behind (raw forms.asked) command.CheckSat six.reply are.1.1.1.1.1.0 six.step in
      let answered = subst (λ (z : State). FollowsScript z (behind_six others) six.late u) checks.after six.follows in
      let seven = silent_done (with_verdict (kept_of [] checks.answer) (with_levels (levels_two block k))) opened u (raw forms.popped) others (command.Pop 1) six.late are.1.1.1.1.1.1.0 (pop_told (kept_of [] checks.answer)) answered in
      record {
        reply = six.reply;
        late = seven.late;
        is = one.is ∙ ap (λ (l : List Reply). silent ∷ l) (two.is ∙ ap (λ (l : List Reply). silent ∷ l) (three.is ∙ ap (λ (l : List Reply). silent ∷ l) (four.is ∙ ap (λ (l : List Reply). silent ∷ l) (five.is ∙ ap (λ (l : List Reply). silent ∷ l) (six.is ∙ ap (λ (l : List Reply). six.reply ∷ l) seven.is)))));
        verdict = checks_by block k six.reply six.behind h checks;
        follows = seven.follows;
      }
