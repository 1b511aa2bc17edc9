use Rattle.std.proofs.Common.{rules, sym, ap, ◌∙◌, drop, subst, ◌+◌, List, ◌∷◌, ◌++◌, Ok}
use Rattle.std.proofs.lemmas.List.{drop_all, drop_more}
use Rattle.sexpr_reader.specs.declared.sexpr.Sexpr.{Sexpr}
use Rattle.sv_terms.specs.declared.term.Term.{Term}
use Rattle.sort_check.proofs.Assumed.{AreBuilt, built-all, built-fault, built-more}
use Rattle.sort_check.proofs.asserting.assumed_terms.Goals as goal

pub returns-in_err-settle_one : goal.returns-in_err-settle_one
returns-in_err-settle_one c bodies e = built-fault c.args.symbols.now c.item-item.result (drop (c.loop-item.item-index + 1) c.args.items.now) c.loop-item.terms bodies (subst (λ (l : List Sexpr). AreBuilt c.args.symbols.now l c.loop-item.terms bodies) (drop_more c.args.items.now c.loop-item.item-index c.item-item.result c.loop-item-test.true ∙ ap (λ (x : Sexpr). x ∷ drop (c.loop-item.item-index + 1) c.args.items.now) (sym c.item-item.is)) (c.loop-item.invariant bodies e)) c.in_err-settle_one.field-0.0 c.from_residual.result (search rules) c.in_err-settle_one.ensures

pub loop-item-preserved : goal.loop-item-preserved
loop-item-preserved c bodies e = subst (λ (l : List Term). AreBuilt c.args.symbols.now (drop (c.loop-item.item-index + 1) c.args.items.now) l bodies) (search rules) (built-more c.args.symbols.now c.item-item.result (drop (c.loop-item.item-index + 1) c.args.items.now) c.loop-item.terms bodies (subst (λ (l : List Sexpr). AreBuilt c.args.symbols.now l c.loop-item.terms bodies) (drop_more c.args.items.now c.loop-item.item-index c.item-item.result c.loop-item-test.true ∙ ap (λ (x : Sexpr). x ∷ drop (c.loop-item.item-index + 1) c.args.items.now) (sym c.item-item.is)) (c.loop-item.invariant bodies e)) c.in_ok-settle_one.field-0 c.in_ok-settle_one.ensures)

pub returns : goal.returns
returns c bodies e = ap Ok (built-all c.args.symbols.now c.loop-item.terms bodies (subst (λ (l : List Sexpr). AreBuilt c.args.symbols.now l c.loop-item.terms bodies) (drop_all c.loop-item.item-index c.args.items.now c.loop-item-test.false) (c.loop-item.invariant bodies e)))
