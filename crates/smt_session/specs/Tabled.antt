-- The replies to the blocks of a generated script.
use Rattle.std.specs.Prelude.{◌≡◌, ℕ, Bool, true, false, List, count_by, ⊤}
use Rattle.generated_verdicts.specs.Table.{sat_count, unsat_count}
use Rattle.smt_session.specs.Generated.{is_sat, is_unsat, is_unknown}
use Rattle.smt_session.specs.declared.reply.Reply.{Reply}
use Rattle.smt_session.specs.declared.reply.Reply.TheVariants.{Sat, Unsat}

-- sat where there are values, else unsat
abbrev pub IsReplyBy : Bool → Reply → Type 0
IsReplyBy true (Sat values) = ⊤
IsReplyBy true _ = ⊥
IsReplyBy false Unsat = ⊤
IsReplyBy false _ = ⊥

-- the log has as many verdicts of each kind as the table of this seed and size
pub record IsTabled (seed size : ℕ) (log : List Reply) : Type 0 where
  pub sat : count_by is_sat log ≡ sat_count seed size
  pub unsat : count_by is_unsat log ≡ unsat_count seed size
  pub unknown : count_by is_unknown log ≡ 0
