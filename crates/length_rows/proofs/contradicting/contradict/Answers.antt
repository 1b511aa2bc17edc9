use Rattle.std.proofs.Common.{map, subst, sym}
use Rattle.farkas_check.specs.Systems.{Solves, constraint_of}
use Rattle.length_rows.proofs.RowLemmas.{no-values}
use Rattle.length_rows.specs.Lengths.{values_of}
use Rattle.length_rows.proofs.contradicting.contradict.Goals as goal

pub returns : goal.returns
returns c = λ t words numbers s. c.in_ok-found.ensures t (values_of c.args.flat.now words numbers) (subst (Solves (values_of c.args.flat.now words numbers) (map constraint_of c.in_ok-rows.rows)) (sym c.new.ensures) (no-values c.rows_are_constraints.ensures (values_of c.args.flat.now words numbers) c.in_ok-rows.rows (c.in_ok-rows.ensures words numbers s)))
