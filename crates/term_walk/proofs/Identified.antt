-- What stands behind `_`, by the first part.
use Rattle.std.proofs.Common.{◌≡◌, sym, ap, ◌∙◌, ◌-◌, ◌≤◌, List, length, map, get_or, drop, take, Option, None, Result, Err}
use Rattle.sexpr_reader.specs.declared.sexpr.Sexpr.{Sexpr}
use Rattle.smt_names.specs.declared.check_fault.CheckFault.{CheckFault}
use Rattle.smt_names.specs.declared.check_fault.CheckFault.TheVariants as fault
use Rattle.smt_names.specs.declared.function.Function.{Function}
use Rattle.smt_names.specs.Answering.{answers-same}
use Rattle.smt_names.specs.Faults.{Answers}
use Rattle.smt_names.specs.Form.{Forms, forms, seen}
use Rattle.smt_names.specs.Signature.{Name}
use Rattle.smt_names.specs.Tokens.{symbol}
use Rattle.term_walk.specs.Meant.{Names, identified, indexed}
use Rattle.term_walk.proofs.Termwise.{rest-seen}

module _ (symbols : Names) (xs : List Sexpr) (x : Sexpr) (h : 1 ≤ length xs) (e : x ≡ get_or xs 0 x) (o : Option Name) (q : o ≡ symbol (seen x)) where
  abbrev behind : Forms
  behind = forms (map seen (take (length xs - 1) (drop 1 xs)))

  identified-first : identified symbols (forms (map seen xs)) ≡ indexed symbols o behind
  identified-first = ap (identified symbols) (rest-seen xs x h e) ∙ ap (λ z. indexed symbols z behind) (sym q)

  pub identified-named : (r : Result Function CheckFault) → Answers (indexed symbols o behind) r → Answers (identified symbols (forms (map seen xs))) r
  identified-named r a = answers-same (indexed symbols o behind) (identified symbols (forms (map seen xs))) r identified-first a

  pub identified-unnamed : o ≡ None → identified symbols (forms (map seen xs)) ≡ Err fault.Shape
  identified-unnamed n = identified-first ∙ ap (λ z. indexed symbols z behind) n
