use Rattle.std.proofs.Common.{◌∙◌, ap, subst, sym, None, length, get_or, ◌+◌, ◌<◌}
use Rattle.std.proofs.lemmas.Option.{slice_get-get_or}
use Rattle.straight_line.proofs.Traced.{IsPlacedTo, placed_all, placed_more, placed_none, placed_twice}
use Rattle.straight_line.proofs.Uses.{within_variable}
use Rattle.straight_line.proofs.cycling.places.Goals as goal

pub returns-in-Some : goal.returns-in-Some
returns-in-Some c = placed_twice c.args.definitions.now c.args.variables c.loop-i.i c.in-Some._first c.loop-i.places (get_or c.args.definitions.now c.loop-i.i c.index-definitions-i.result) (slice_get-get_or c.args.definitions.now c.loop-i.i c.index-definitions-i.result c.loop-i-test.true) (ap (λ z. get_or z (get_or c.args.definitions.now c.loop-i.i c.index-definitions-i.result).variable None) (sym c.as_slice.ensures) ∙ c.in-Some.is) c.loop-i.invariant

pub loop-i-preserved : goal.loop-i-preserved
loop-i-preserved c = subst (IsPlacedTo c.args.definitions.now c.args.variables (c.loop-i.i + 1)) (sym c.set.ensures) (placed_more c.args.definitions.now c.args.variables c.loop-i.i c.loop-i.places (get_or c.args.definitions.now c.loop-i.i c.index-definitions-i.result) c.requires (slice_get-get_or c.args.definitions.now c.loop-i.i c.index-definitions-i.result c.loop-i-test.true) (ap (λ z. get_or z (get_or c.args.definitions.now c.loop-i.i c.index-definitions-i.result).variable None) (sym c.as_slice.ensures) ∙ c.in_default.is) c.loop-i.invariant)

pub returns : goal.returns
returns c = placed_all c.args.definitions.now c.args.variables c.loop-i.i c.loop-i.places c.loop-i-test.false c.loop-i.invariant

pub loop-i-init : goal.loop-i-init
loop-i-init c = placed_none c.args.definitions.now c.args.variables c.in_ok-places.places c.in_ok-places.ensures

pub set-requires : goal.set-requires
set-requires c = subst (λ n. (get_or c.args.definitions.now c.loop-i.i c.index-definitions-i.result).variable < n) (sym c.loop-i.invariant.count) (within_variable c.args.variables c.args.definitions.now c.loop-i.i (get_or c.args.definitions.now c.loop-i.i c.index-definitions-i.result) c.requires (slice_get-get_or c.args.definitions.now c.loop-i.i c.index-definitions-i.result c.loop-i-test.true))

pub bounds-as_slice-variable : goal.bounds-as_slice-variable
bounds-as_slice-variable c = subst (λ z. (get_or c.args.definitions.now c.loop-i.i c.index-definitions-i.result).variable < length z) (sym c.as_slice.ensures) (subst (λ n. (get_or c.args.definitions.now c.loop-i.i c.index-definitions-i.result).variable < n) (sym c.loop-i.invariant.count) (within_variable c.args.variables c.args.definitions.now c.loop-i.i (get_or c.args.definitions.now c.loop-i.i c.index-definitions-i.result) c.requires (slice_get-get_or c.args.definitions.now c.loop-i.i c.index-definitions-i.result c.loop-i-test.true)))
