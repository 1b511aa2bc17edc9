use Rattle.std.proofs.Common.{◌≡◌, ℕ, ◌<◌, length, Some, slice_get, Contains, sym, ◌∙◌, subst}
use Rattle.std.specs.List.Sorted.{IsNonDecreasingBy}
use Rattle.std.proofs.lemmas.Result.{IfOk-weaker}
use Rattle.subset_machine.proofs.LeavingLemmas.{places-inside}
use Rattle.subset_machine.proofs.SubsetRuns.{leaving-from, parts-from, grouped-from, steps-under, groups-intervals}
use Rattle.subset_machine.proofs.subset.SubsetMachine.moves.Goals as goal

pub places_of-requires : goal.places_of-requires
places_of-requires c s i = c.requires.below s (subst (λ l. Contains l s) c.as_slice.ensures i)

pub take_apart-requires : goal.take_apart-requires
take_apart-requires c i p e =
    let m = c.args.self.now.machine.now in
    subst (λ l. p < length l) (sym c.edges.ensures) (places-inside m.edges c.as_slice.result.now i p (subst (λ l. slice_get l i ≡ Some p) (c.as_slice-2.ensures.value ∙ c.in_ok-places.ensures) e))

pub cut-requires : goal.cut-requires
cut-requires c s i = c.in_ok-legs.ensures.ranges s (subst (λ l. Contains l s) c.as_slice-3.ensures.value i)

pub hits_of-requires : goal.hits_of-requires
hits_of-requires c = subst (IsNonDecreasingBy (λ (m : ℕ × ℕ). m.0)) (sym c.as_slice-5.ensures.value) c.in_ok-marks.ensures.order

pub group-requires : goal.group-requires
group-requires c = subst (IsNonDecreasingBy (λ (m : ℕ × ℕ). m.0)) (sym c.as_slice-7.ensures.value) c.in_ok-hits.ensures.order

pub moves_of-requires : goal.moves_of-requires
moves_of-requires c =
    let s = c.args.self.now in
    let m = s.machine.now in
    let list = c.args.at.now in
    let legs = c.in_ok-legs.legs.items in
    let marks = c.in_ok-marks.marks.items in
    let hits = c.in_ok-hits.hits.items in
    let leaving = leaving-from m s.plain list c.as_slice.result.now c.as_slice.ensures c.edges.result.now c.edges.ensures c.as_slice-2.result.now
    (c.as_slice-2.ensures.value ∙ c.in_ok-places.ensures) legs c.in_ok-legs.ensures.legs in
    let parts = parts-from m.edges list legs c.as_slice-3.result.now c.as_slice-4.result.now marks c.as_slice-5.result.now hits
    leaving c.as_slice-3.ensures.value c.in_ok-marks.ensures c.as_slice-4.ensures.value c.as_slice-5.ensures.value c.in_ok-hits.ensures in
    let grouped = grouped-from marks c.as_slice-6.result.now hits c.as_slice-7.result.now s.negated c.in_ok-groups.groups c.as_slice-6.ensures.value c.as_slice-7.ensures.value c.in_ok-groups.ensures in
    groups-intervals m.edges list legs marks hits parts.leaving parts.cut parts.found s.negated c.in_ok-groups.groups grouped

pub returns-clause-exact : goal.returns-clause-exact
returns-clause-exact c =
    let s = c.args.self.now in
    let m = s.machine.now in
    let list = c.args.at.now in
    let legs = c.in_ok-legs.legs.items in
    let marks = c.in_ok-marks.marks.items in
    let hits = c.in_ok-hits.hits.items in
    let leaving = leaving-from m s.plain list c.as_slice.result.now c.as_slice.ensures c.edges.result.now c.edges.ensures c.as_slice-2.result.now
    (c.as_slice-2.ensures.value ∙ c.in_ok-places.ensures) legs c.in_ok-legs.ensures.legs in
    let parts = parts-from m.edges list legs c.as_slice-3.result.now c.as_slice-4.result.now marks c.as_slice-5.result.now hits
    leaving c.as_slice-3.ensures.value c.in_ok-marks.ensures c.as_slice-4.ensures.value c.as_slice-5.ensures.value c.in_ok-hits.ensures in
    let grouped = grouped-from marks c.as_slice-6.result.now hits c.as_slice-7.result.now s.negated c.in_ok-groups.groups c.as_slice-6.ensures.value c.as_slice-7.ensures.value c.in_ok-groups.ensures in
    IfOk-weaker c.moves_of.result _ _
    (λ moves exact d cost to.
    let under = steps-under m.edges list legs marks hits parts.leaving parts.cut parts.found s.negated c.in_ok-groups.groups grouped d cost to in
    let e = exact d cost to in
    (λ h. e.0 (under.0 h), λ a. under.1 (e.1 a)))
    c.moves_of.ensures.exact
