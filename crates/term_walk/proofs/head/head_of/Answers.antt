use Rattle.std.proofs.Common.{◌≡◌, ◌∙◌, ◌-◌, ◌<◌, ◌≤◌, ap, subst, sym, refl, false, drop, get_or, length, List, map, take, ℕ, Err, Result}
use Rattle.std.specs.Prelude.{if◌then◌else◌}
use Rattle.std.proofs.lemmas.Result.{err_from_is_err_and}
use Rattle.sexpr_reader.specs.declared.kind.TokenKind.{TokenKind}
use Rattle.sexpr_reader.specs.declared.sexpr.Sexpr.{Sexpr}
use Rattle.sexpr_reader.specs.declared.sexpr.Sexpr.TheVariants as v
use Rattle.smt_names.specs.declared.check_fault.CheckFault.{CheckFault}
use Rattle.smt_names.specs.declared.check_fault.CheckFault.TheVariants as fault
use Rattle.smt_names.specs.declared.opening.Opening.{Opening}
use Rattle.smt_names.specs.declared.opening.Opening.TheVariants as o
use Rattle.smt_names.specs.Answering.{fault-passes}
use Rattle.smt_names.specs.Faults.{Answers, made_of}
use Rattle.smt_names.specs.Form.{Forms, forms, group, seen}
use Rattle.smt_names.specs.Shapes.{none-seen, seen-Atom, seen-List}
use Rattle.smt_names.specs.Tokens.{is_identifier, opening, symbol}
use Rattle.term_walk.specs.Heads.{kept}
use Rattle.term_walk.specs.Meant.{Head, Names, head, identified, named_if, of_theory}
use Rattle.term_walk.proofs.Termwise.{rest-seen}
use Rattle.term_walk.proofs.head.head_of.Goals as goal

not_identifier : (w : Opening) → (w ≡ o.Identifier → ⊥) → is_identifier w ≡ false
not_identifier o.Let h = refl
not_identifier o.Quantifier h = refl
not_identifier o.Annotation h = refl
not_identifier o.Identifier h = absurd (h refl)
not_identifier o.Application h = refl

module _ (symbols : Names) where
  head_token : (item : Sexpr) (k : TokenKind) (text : List ℕ) → item ≡ v.Atom k text → head symbols (seen item) ≡ named_if symbols (symbol (seen item))
  head_token item k text e =
      let s = ap seen e ∙ seen-Atom k text in
      ap (head symbols) s ∙ ap (λ f. named_if symbols (symbol f)) (sym s)

  module _ (item : Sexpr) (items xs : List Sexpr) (e : item ≡ v.List items) (f : xs ≡ items) where
    head_list : head symbols (seen item) ≡ head symbols (group (forms (map seen xs)))
    head_list = ap (λ z. head symbols (seen z)) (e ∙ ap v.List (sym f)) ∙ ap (head symbols) (seen-List xs)

    head_empty : length xs < 1 → head symbols (seen item) ≡ Err fault.Shape
    head_empty h = head_list ∙ ap (λ fs. head symbols (group fs)) (none-seen xs h)

    module _ (u : Sexpr) (h : 1 ≤ length xs) (g : u ≡ get_or xs 0 u) (w : Opening) (q : w ≡ opening (seen u)) where
      abbrev behind : Forms
      behind = forms (map seen (take (length xs - 1) (drop 1 xs)))

      head_first : head symbols (seen item) ≡ if is_identifier w then of_theory (identified symbols behind) else Err fault.Shape
      head_first = head_list ∙ ap (λ fs. head symbols (group fs)) (rest-seen xs u h g) ∙ ap (λ z. if is_identifier z then of_theory (identified symbols behind) else Err fault.Shape) (sym q)

      head_identifier : w ≡ o.Identifier → head symbols (seen item) ≡ of_theory (identified symbols behind)
      head_identifier i = head_first ∙ ap (λ z. if is_identifier z then of_theory (identified symbols behind) else Err fault.Shape) i

      head_other : (w ≡ o.Identifier → ⊥) → head symbols (seen item) ≡ Err fault.Shape
      head_other n = head_first ∙ ap (λ z. if z then of_theory (identified symbols behind) else Err fault.Shape) (not_identifier w n)

pub returns-in-Some : goal.returns-in-Some
returns-in-Some c =
    subst (λ (r : Result Head CheckFault). Answers r (made_of kept c.find_head.result)) (sym (head_token c.args.symbols.now c.args.first.now c.in-Atom.field-0 c.in-Atom.field-1 c.in-Atom.is ∙ ap (named_if c.args.symbols.now) (sym c.in-Some.ensures))) c.find_head.ensures

pub returns-in-None : goal.returns-in-None
returns-in-None c = head_token c.args.symbols.now c.args.first.now c.in-Atom.field-0 c.in-Atom.field-1 c.in-Atom.is ∙ ap (named_if c.args.symbols.now) (sym c.in-None.ensures)

pub returns-in-empty : goal.returns-in-empty
returns-in-empty c = head_empty c.args.symbols.now c.args.first.now c.in-List.items c.as_slice.result.now c.in-List.is c.as_slice.ensures c.in-empty.len_below

pub returns-in_ok-find_function-in-Identifier : goal.returns-in_ok-find_function-in-Identifier
returns-in_ok-find_function-in-Identifier c =
    head_identifier c.args.symbols.now c.args.first.now c.in-List.items c.as_slice.result.now c.in-List.is c.as_slice.ensures c.under-item.result c.in-len1-up.len_at_least c.under-item.is c.opening.result c.opening.ensures c.in-Identifier.is
    ∙ ap of_theory c.in_ok-find_function-in-Identifier.ensures

pub returns-in_err-find_function-in-Identifier : goal.returns-in_err-find_function-in-Identifier
returns-in_err-find_function-in-Identifier c =
    let exit = err_from_is_err_and c.from_residual.result c.from_residual.ensures.1 in
    let behind = forms (map seen (take (length c.as_slice.result.now - 1) (drop 1 c.as_slice.result.now))) in
    rw (exit.1, exit.2) (fault-passes (identified c.args.symbols.now behind) (head c.args.symbols.now (seen c.args.first.now)) c.in_err-find_function-in-Identifier.field-0.0 (λ e.
    head_identifier c.args.symbols.now c.args.first.now c.in-List.items c.as_slice.result.now c.in-List.is c.as_slice.ensures c.under-item.result c.in-len1-up.len_at_least c.under-item.is c.opening.result c.opening.ensures c.in-Identifier.is
    ∙ ap of_theory e) c.in_err-find_function-in-Identifier.ensures)

pub returns-in_default : goal.returns-in_default
returns-in_default c = head_other c.args.symbols.now c.args.first.now c.in-List.items c.as_slice.result.now c.in-List.is c.as_slice.ensures c.under-item.result c.in-len1-up.len_at_least c.under-item.is c.opening.result c.opening.ensures c.in_default.not-Identifier
