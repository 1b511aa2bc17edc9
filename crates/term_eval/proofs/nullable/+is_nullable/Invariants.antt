use Rattle.std.proofs.Common.{ℕ, [], ◌<◌, get_or}
use Rattle.sv_terms.specs.declared.regex.Regex.{Regex}
use Rattle.sv_terms.specs.Language.{In}
use Rattle.term_eval.proofs.nullable.+is_nullable.Given as goal

abbrev pub invariant-all_nullable-loop-r : goal.invariant-all_nullable-loop-r
invariant-all_nullable-loop-r l = (k : ℕ) (d : Regex) → k < l.r-index → In (get_or l.rs k d) []

abbrev pub invariant-one_nullable-loop-r : goal.invariant-one_nullable-loop-r
invariant-one_nullable-loop-r l = (k : ℕ) (d : Regex) → k < l.r-index → In (get_or l.rs k d) [] → ⊥
