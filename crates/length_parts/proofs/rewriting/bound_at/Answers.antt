use Rattle.std.proofs.Common.{sym, rules}
use Rattle.std.specs.Prelude.{FitsSigned}
use Rattle.std.specs.Int.{w128}
use Rattle.std.proofs.lemmas.Int.{to_z-of_z}
use Rattle.length_parts.proofs.rewriting.bound_at.Goals as goal

pub returns : goal.returns
returns c =
    let fa : FitsSigned w128 c.in_ok-term.term.coefficient = search rules in
    let fb : FitsSigned w128 c.in_ok-row.row.now.form.constant = search rules in
    record { row = c.in_ok-row.row.now; is = sym c.in_ok-row.ensures.value; unknown = c.in_ok-term.term.unknown; coefficient = c.in_ok-term.term.coefficient; terms = c.in_ok-term.ensures; register = c.in_ok-variable.ensures; says = rw (to_z-of_z w128 _ fa, to_z-of_z w128 _ fb) at c.in_ok-bound.ensures }
