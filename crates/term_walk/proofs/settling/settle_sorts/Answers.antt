use Rattle.std.proofs.Common.{sym, subst, [], map, List, ℕ}
use Rattle.std.proofs.lemmas.Result.{err_from_is_err_and}
use Rattle.term_weight.specs.Bodies.{body_sort}
use Rattle.term_draft.specs.Drafts.{at_places}
use Rattle.smt_names.specs.Faults.{Answers, made_of}
use Rattle.smt_names.specs.Form.{forms, seen}
use Rattle.smt_names.specs.Signature.{Name}
use Rattle.term_walk.specs.Walks.{Bound, fitting}
use Rattle.term_walk.proofs.Termwise.{sorts-places, sorts-size, sorts-err}
use Rattle.term_walk.proofs.settling.settle_sorts.Goals as goal

pub returns : goal.returns
returns c =
    let b = subst (λ (z : List (Name × ℕ)). Bound c.new-walk.result.draft z []) (sym c.new-walk.ensures.scope) tt in
    sorts-places c.args.symbols.now [] (forms (map seen c.args.terms.now)) c.new-walk.result c.read_all.new.walk c.in_ok-places.places c.fitting_sorts.result (c.in_ok-places.ensures [] b) c.new-walk.ensures.past c.if-walk.false
    (subst (λ (z : List ℕ). Answers (made_of (map body_sort) (fitting (at_places c.read_all.new.walk.draft z))) c.fitting_sorts.result) c.as_slice.ensures c.fitting_sorts.ensures)

pub returns-then-walk : goal.returns-then-walk
returns-then-walk c =
    let b = subst (λ (z : List (Name × ℕ)). Bound c.new-walk.result.draft z []) (sym c.new-walk.ensures.scope) tt in
    sorts-size c.args.symbols.now [] (forms (map seen c.args.terms.now)) c.new-walk.result c.read_all.new.walk c.in_ok-places.places (c.in_ok-places.ensures [] b) c.new-walk.ensures.past c.if-walk.true

pub returns-in_err-places : goal.returns-in_err-places
returns-in_err-places c =
    let b = subst (λ (z : List (Name × ℕ)). Bound c.new-walk.result.draft z []) (sym c.new-walk.ensures.scope) tt in
    let exit = err_from_is_err_and c.from_residual.result c.from_residual.ensures.1 in
    rw (exit.1, exit.2) (sorts-err c.args.symbols.now [] (forms (map seen c.args.terms.now)) c.new-walk.result c.read_all.new.walk c.in_err-places.field-0.0 (c.in_err-places.ensures [] b))
