use Rattle.std.proofs.Common.{◌+◌, ◌++◌, ◌∷◌, ◌∙◌, [], ap, sym, subst, take, Ok, List, ℕ, arith}
use Rattle.term_walk.specs.Meant.{as_constants, renamed}
use Rattle.smt_names.specs.Signature.{Name}
use Rattle.term_walk.specs.Walks.{Bound, Read}
use Rattle.term_walk.proofs.Walking.{constants-none, constants-more, constants-end}
use Rattle.term_walk.proofs.binding.constants.Goals as goal

pub loop-variable-init : goal.loop-variable-init
loop-variable-init c = subst (λ (z : List (Name × ℕ)). Read Bound (λ t. Ok (as_constants (renamed c.args.are_parameters) (take 0 c.args.variables.now))) c.args.walk.now c.args.walk.now z) (sym c.new-all.ensures) (constants-none (renamed c.args.are_parameters) c.args.walk.now)

pub loop-variable-preserved : goal.loop-variable-preserved
loop-variable-preserved c = subst (λ (z : List (Name × ℕ)). Read Bound (λ t. Ok (as_constants (renamed c.args.are_parameters) (take (c.loop-variable.variable-index + 1) c.args.variables.now))) c.args.walk.now c.constant.new.walk z) (sym (c.in_ok-push.ensures.ok ∙ ap (λ (z : Name). c.loop-variable.all ++ (z, c.in_ok-constant.field-0) ∷ []) c.bound-in-loop-variable.view_is)) (constants-more (renamed c.args.are_parameters) c.args.variables.now c.loop-variable.variable-index c.variable-item.result c.args.walk.now c.loop-variable.walk c.constant.new.walk c.loop-variable.all c.in_ok-bound.bound c.in_ok-name.name c.in_ok-constant.field-0 c.loop-variable-test.true c.variable-item.is c.in_ok-bound.ensures c.in_ok-name.ensures c.loop-variable.invariant c.in_ok-constant.ensures)

pub returns : goal.returns
returns c = constants-end (renamed c.args.are_parameters) c.args.variables.now c.loop-variable.variable-index c.args.walk.now c.loop-variable.walk c.loop-variable.all (omega arith) c.loop-variable.invariant
