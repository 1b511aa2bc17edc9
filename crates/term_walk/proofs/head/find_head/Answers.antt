use Rattle.std.proofs.Common.{◌≡◌, sym, ap, ◌∙◌, true, false, Some, None, Option, Result, Err}
use Rattle.std.specs.Map.{lookup}
use Rattle.std.proofs.lemmas.Result.{err_from_is_err_and}
use Rattle.sv_terms.specs.Names.{symbol_name}
use Rattle.sv_terms.specs.declared.entry.Entry.{Entry}
use Rattle.smt_names.specs.declared.check_fault.CheckFault.{CheckFault}
use Rattle.smt_names.specs.declared.check_fault.CheckFault.TheVariants as fault
use Rattle.smt_names.specs.declared.function.Function.{Function}
use Rattle.smt_names.specs.Answering.{exact-answers}
use Rattle.smt_names.specs.Faults.{made_of, or_fault, refuse, ◌>>◌}
use Rattle.smt_names.specs.Signature.{Name, same_name, stands_in, signature, indexed_names}
use Rattle.term_walk.specs.Heads.{kept}
use Rattle.term_walk.specs.Meant.{Head, Names, theory, of_entry, or_else, mapped, named}
use Rattle.term_walk.proofs.head.find_head.Goals as goal

module _ (symbols : Names) (n : Name) where
  abbrev found : Option Function → Option Entry → Result Head CheckFault
  found f d = or_fault fault.Unknown (or_else (mapped theory f) (mapped (of_entry n) d))

  named-indexed : stands_in indexed_names n ≡ true → named symbols n ≡ Err fault.Index
  named-indexed e = ap (λ z. refuse z fault.Index >> found (lookup (same_name n) signature) (lookup (same_name n) symbols)) e

  named-bare : (f : Option Function) → stands_in indexed_names n ≡ false → f ≡ lookup (same_name n) signature → named symbols n ≡ found f (lookup (same_name n) symbols)
  named-bare f e g = ap (λ z. refuse z fault.Index >> found (lookup (same_name n) signature) (lookup (same_name n) symbols)) e ∙ ap (λ o. found o (lookup (same_name n) symbols)) (sym g)

pub returns-then-is_indexed : goal.returns-then-is_indexed
returns-then-is_indexed c = named-indexed c.args.symbols.now (symbol_name c.args.text.now) (ap (stands_in indexed_names) (sym c.bare_name.ensures) ∙ sym c.is_indexed.ensures ∙ c.if-is_indexed.true)

pub returns-in-Some : goal.returns-in-Some
returns-in-Some c =
    named-bare c.args.symbols.now (symbol_name c.args.text.now) (Some c.in-Some.function) (ap (stands_in indexed_names) (sym c.bare_name.ensures) ∙ sym c.is_indexed.ensures ∙ c.if-is_indexed.false)
    (c.in-Some.ensures ∙ ap (λ m. lookup (same_name m) signature) c.bare_name-2.ensures)

pub returns-in_ok-of-in-None : goal.returns-in_ok-of-in-None
returns-in_ok-of-in-None c =
    exact-answers _ (made_of kept c.declared_head.result)
    (named-bare c.args.symbols.now (symbol_name c.args.text.now) None (ap (stands_in indexed_names) (sym c.bare_name.ensures) ∙ sym c.is_indexed.ensures ∙ c.if-is_indexed.false)
    (c.in-None.ensures ∙ ap (λ m. lookup (same_name m) signature) c.bare_name-2.ensures)
    ∙ sym (c.declared_head.ensures ∙ ap (λ m. or_fault fault.Unknown (mapped (of_entry m) (lookup (same_name m) c.args.symbols.now))) c.in_ok-of-in-None.ensures))

pub returns-in_err-of-in-None : goal.returns-in_err-of-in-None
returns-in_err-of-in-None c = let exit = err_from_is_err_and c.from_residual.result c.from_residual.ensures.1 in rw (exit.1, exit.2) tt
