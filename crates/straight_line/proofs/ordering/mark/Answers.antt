use Rattle.std.proofs.Common.{◌≡◌, ◌∙◌, ◌+◌, ◌<◌, ℕ, List, Bool, true, Some, ap, subst, sym, length, get_or}
use Rattle.std.proofs.lemmas.List.{length-replicate, length-set}
use Rattle.std.proofs.lemmas.Option.{slice_get-get_or}
use Rattle.flat_cubes.specs.Straight.{HaveVariablesBelow}
use Rattle.flat_cubes.specs.declared.definition.Definition.{Definition}
use Rattle.straight_line.specs.Waiting.{AreFirstMarked}
use Rattle.straight_line.proofs.Starting.{marked_none, marked_more}
use Rattle.straight_line.proofs.Uses.{within_variable}
use Rattle.straight_line.proofs.ordering.mark.Goals as goal

inside : (n : ℕ) (ds : List Definition) (i : ℕ) (d : Definition) (ahead : List Bool) → HaveVariablesBelow n ds → i < length ds → d ≡ get_or ds i d → length ahead ≡ n → d.variable < length ahead
inside n ds i d ahead below l e count = subst (λ m. d.variable < m) (sym count) (within_variable n ds i d below (slice_get-get_or ds i d l ∙ ap Some (sym e)))

pub set-requires : goal.set-requires
set-requires c = inside c.args.variables c.args.definitions.now c.loop-definition.definition-index c.definition-item.result c.loop-definition.ahead c.requires c.loop-definition-test.true c.definition-item.is c.loop-definition.invariant.0

pub loop-definition-init : goal.loop-definition-init
loop-definition-init c = (ap length c.in_ok-ahead.ensures ∙ length-replicate c.args.variables _, marked_none c.args.definitions.now c.args.variables c.in_ok-ahead.ahead c.in_ok-ahead.ensures)

pub loop-definition-preserved : goal.loop-definition-preserved
loop-definition-preserved c = (
  ap length c.set.ensures ∙ length-set c.loop-definition.ahead c.definition-item.result.variable true ∙ c.loop-definition.invariant.0,
  subst (AreFirstMarked c.args.definitions.now (c.loop-definition.definition-index + 1)) (sym c.set.ensures) (marked_more c.args.definitions.now c.loop-definition.definition-index c.definition-item.result c.loop-definition.ahead c.loop-definition-test.true c.definition-item.is (inside c.args.variables c.args.definitions.now c.loop-definition.definition-index c.definition-item.result c.loop-definition.ahead c.requires c.loop-definition-test.true c.definition-item.is c.loop-definition.invariant.0) c.loop-definition.invariant.1),
)

pub returns-clause-count : goal.returns-clause-count
returns-clause-count c = c.loop-definition.invariant.0
