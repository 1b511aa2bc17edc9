-- A generated script that was answered has the table's verdicts.
use Rattle.std.proofs.Common.{◌≡◌, ℕ, ◌-◌, ◌<◌, ◌≤◌, ◌^◌, min, List, [], ◌++◌, Bool, true, false, refl, sym, ap, ◌∙◌, subst, append-nil, arith}
use Rattle.std.proofs.lemmas.Bool.{false≢true}
use Rattle.generated_items.specs.Items.{script_items}
use Rattle.generated_items.proofs.Scripts.{script_read}
use Rattle.generated_script.specs.Blocks.{script}
use Rattle.generated_script.specs.Draws.{seeded}
use Rattle.smt_session.specs.Tabled.{IsTabled}
use Rattle.smt_session.proofs.GeneratedCounts.{script_tabled}
use Rattle.smt_session.proofs.GeneratedQuiet.{GoesOn, never_ended, script_goes}
use Rattle.generated_verdicts.specs.Table.{sat_count, unsat_count, table_of}
use Rattle.generated_verdicts.proofs.Tabled.{all_counted}
use Rattle.sexpr_print.proofs.Whole.{all_read}
use Rattle.sexpr_reader.specs.Reads.{Begins, Ends, FaultAfter}
use Rattle.sexpr_reader.specs.declared.sexpr.Sexpr.{Sexpr}
use Rattle.sexpr_reader.specs.declared.syntax_fault.SyntaxFault.{SyntaxFault}
use Rattle.sexpr_reader.proofs.Growing.{Begins-more, FaultAfter-more}
use Rattle.sexpr_reader.proofs.OneFault.{no_fault_end}
use Rattle.sexpr_reader.proofs.OneReading.{one_reading}
use Rattle.smt_session.specs.Generated.{IsAnsweredWhole, tally_of, counted, is_sat, is_unsat, is_unknown}
use Rattle.smt_session.specs.Scripts.{FollowsScript, AnswersBytes, to_end, to_exit, to_fault}
use Rattle.smt_session.specs.Steps.{State, opened}
use Rattle.smt_session.specs.declared.reply.Reply.{Reply}

module _ (seed size : ℕ) where
  abbrev all : List Sexpr
  all = script_items seed size

  abbrev bytes : List ℕ
  bytes = script seed size

  -- what was read of the front is read of the whole
  begun : (ended : Bool) (front more : List ℕ) (items : List Sexpr) (rest : List ℕ) → bytes ≡ front ++ more → (ended ≡ true → more ≡ []) → Begins ended front items rest → (left : List ℕ) × Begins true bytes items left
  begun true front more items rest is whole b = (rest, subst (λ (t : List ℕ). Begins true t items rest) (sym (is ∙ ap (λ (l : List ℕ). front ++ l) (whole refl) ∙ append-nil front)) b)
  begun false front more items rest is whole b = (rest ++ more, subst (λ (t : List ℕ). Begins true t items (rest ++ more)) (sym is) (Begins-more true more front items rest b))

  faulty : (ended : Bool) (front more : List ℕ) (items : List Sexpr) (fault : SyntaxFault) → bytes ≡ front ++ more → (ended ≡ true → more ≡ []) → FaultAfter ended front items fault → FaultAfter true bytes items fault
  faulty true front more items fault is whole f = subst (λ (t : List ℕ). FaultAfter true t items fault) (sym (is ∙ ap (λ (l : List ℕ). front ++ l) (whole refl) ∙ append-nil front)) f
  faulty false front more items fault is whole f = subst (λ (t : List ℕ). FaultAfter true t items fault) (sym is) (FaultAfter-more true more front items fault f)

  -- the items that were answered are a front of all, so that no `exit` was among them
  none_exits : (items : List Sexpr) (log : List Reply) (s : State) (left : List ℕ) → Begins true bytes items left → FollowsScript opened items log s → s.ended ≡ false
  none_exits items log s left b f =
      let r = all_read bytes all items left (script_read seed size) b in
      never_ended opened s items r.0 log f (subst (λ (l : List Sexpr). GoesOn opened l) r.1 (script_goes (seeded seed) size))

  answered : (ended : Bool) (front more : List ℕ) (log : List Reply) → bytes ≡ front ++ more → (ended ≡ true → more ≡ []) → AnswersBytes ended front log → (s : State) × FollowsScript opened all log s
  answered ended front more log is whole (to_end items s over ends follows) =
      let same : bytes ≡ front = is ∙ ap (λ (l : List ℕ). front ++ l) (whole over) ∙ append-nil front in
      let ends_here = subst (λ (t : List ℕ). Ends t items) (sym same) ends in
      let one = one_reading true items all ends_here.rest (script_read seed size).rest bytes ends_here.reads (script_read seed size).reads in
      (s, subst (λ (l : List Sexpr). FollowsScript opened l log s) one.0 follows)
  answered ended front more log is whole (to_exit items rest s begins follows over) =
      let b = begun ended front more items rest is whole begins in
      absurd (false≢true (sym (none_exits items log s b.0 b.1 follows) ∙ over))
  answered ended front more log is whole (to_fault items early s fault kind after follows goes told same) =
      let f = faulty ended front more items fault is whole after in
      absurd (no_fault_end bytes all fault (script_read seed size) f.first)

not_cut : (n m : ℕ) → n ≤ m → m < 2 ^ 64 → min n (2 ^ 64 - 1) ≡ n
not_cut n m h g = omega (arith, h, g)

tally_same : (seed size : ℕ) (log : List Reply) → size < 2 ^ 64 → IsTabled seed size log → tally_of log ≡ table_of seed size
tally_same seed size log h t =
    let all = all_counted seed size in
    let sat : counted is_sat log ≡ sat_count seed size = ap (λ (n : ℕ). min n (2 ^ 64 - 1)) t.sat ∙ not_cut (sat_count seed size) size (omega (arith, all)) h in
    let unsat : counted is_unsat log ≡ unsat_count seed size = ap (λ (n : ℕ). min n (2 ^ 64 - 1)) t.unsat ∙ not_cut (unsat_count seed size) size (omega (arith, all)) h in
    let unknown : counted is_unknown log ≡ 0 = ap (λ (n : ℕ). min n (2 ^ 64 - 1)) t.unknown in
    (λ i. record { sat = sat i; unsat = unsat i; unknown = unknown i })

pub tally_is : (seed size : ℕ) (log : List Reply) → size < 2 ^ 64 → IsAnsweredWhole (script seed size) log → tally_of log ≡ table_of seed size
tally_is seed size log h a =
    let f = answered seed size a.ended a.front a.more log a.is a.whole a.right in
    tally_same seed size log h (script_tabled seed size log f.0 f.1)
