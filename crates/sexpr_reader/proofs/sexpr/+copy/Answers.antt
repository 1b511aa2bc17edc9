use Rattle.std.proofs.Common.{sym, ap, ◌∙◌}
use Rattle.sexpr_reader.specs.declared.sexpr.Sexpr.TheVariants as s
use Rattle.sexpr_reader.proofs.sexpr.+copy.Goals as goal

pub Sexpr::copy-returns-in_ok-from_slice-in-Atom : goal.Sexpr::copy-returns-in_ok-from_slice-in-Atom
Sexpr::copy-returns-in_ok-from_slice-in-Atom t c = ap (s.Atom c.in-Atom.kind) (c.in_ok-from_slice-in-Atom.ensures ∙ c.as_slice.ensures) ∙ sym c.in-Atom.is

pub Sexpr::copy-returns-in_ok-copy_sexprs-in-List : goal.Sexpr::copy-returns-in_ok-copy_sexprs-in-List
Sexpr::copy-returns-in_ok-copy_sexprs-in-List t c = ap s.List (c.in_ok-copy_sexprs-in-List.ensures ∙ c.as_slice-in-List.ensures) ∙ sym c.in-List.is
