use Rattle.std.proofs.Common.{◌≡◌, suc, ◌+◌, ◌-◌, ◌<◌, [], ◌∷◌, ◌++◌, length, get_or, arith, sym, ap, ◌∙◌, subst, Ok, Err, Some, IfOk, IfSome, OnOk, MatchOption, length-append, inr, slice_get}
use Rattle.std.proofs.lemmas.Option.{slice_get-get_or}
use Rattle.std.proofs.lemmas.Result.{IfOk-weaker}
use Rattle.machine_core.specs.declared.graph.Graph.{Graph}
use Rattle.flat_cubes.specs.declared.definition.Definition.{Definition}
use Rattle.backward.specs.Families.{HasMachine}
use Rattle.backward.specs.States.{IsState}
use Rattle.backward.specs.Steps.{CanPassAt}
use Rattle.backward.specs.Ways.{AreLive, AreNext}
use Rattle.cube_search.specs.Conflicts.{of_leaf, AreGathered, AreNamesOf, Goes, IsBelow, IsBelowCuts}
use Rattle.cube_search.specs.Steps.{IsCutting}
use Rattle.cube_search.specs.Tallies.{IsTally, Keeps}
use Rattle.cube_search.proofs.BelowLemmas.{concat-below, gathered-all, gathered-barred, gathered-more, gathered-none, goes-below, leaf-below, taken-below, through-below, whole-below}
use Rattle.cube_search.proofs.ConflictLemmas.{dead-refuted}
use Rattle.cube_search.proofs.CoverLemmas.{keeps-same, keeps-more}
use Rattle.cube_search.proofs.Measures.{weight}
use Rattle.cube_search.proofs.SearchLemmas.{cutting-below, cutting-machine, more-cuts, none-of, step-below, weight-next, weight-pieces, whole-can}
use Rattle.cube_search.proofs.searching.+search.Goals as goal

pub descend-try_cuts-requires : goal.descend-try_cuts-requires
descend-try_cuts-requires t c =
    let flat = c.args.search.now.flat.now in
    let ms = c.args.state.now.machines in
    let ne = c.if-left-eq0.false in
    let after : c.args.left ≡ suc (c.args.left - 1) = omega arith in
    let back : c.args.left ≡ c.args.left - 1 + 1 = omega arith in
    let cutting = subst (λ o. MatchOption o (CanPassAt flat (c.args.left - 1) ms) (λ pieces. IsCutting flat (c.args.left - 1) pieces.now ms [])) c.in-Some-pieces_at.is c.pieces_at.ensures.step in
    let w = weight-next flat.definitions c.args.left (c.args.left - 1) after in
    let p = weight-pieces flat (c.args.left - 1) c.in-Some-pieces_at.pieces.now ms [] cutting in
    let dec = c.decreases in
    let lt : suc (weight flat.definitions (c.args.left - 1) + (length c.in-Some-pieces_at.pieces.now - 0)) < t = omega arith in
    let live : (d : Definition) (m : Graph) → slice_get flat.definitions (c.args.left - 1) ≡ Some d → HasMachine ms d.variable m → AreLive ms m c.in-Some-pieces_at.pieces.now c.as_slice.result.now =
    λ d m is there. subst (AreLive ms m c.in-Some-pieces_at.pieces.now) (sym c.as_slice.ensures) (c.in_ok-live-in-Some-pieces_at.ensures d m is there) in
    let own = subst (AreNamesOf c.in-Some-pieces_at.pieces.now) (sym c.as_slice-in-Some-pieces_at.ensures) c.in_ok-own-in-Some-pieces_at.ensures in
    (lt, (c.requires.search, (subst (λ n. IsState flat n c.args.state.now) back c.requires.state, (cutting, (live, (own, c.requires.tally))))))

pub descend-live_at-requires-clause-at : goal.descend-live_at-requires-clause-at
descend-live_at-requires-clause-at t c =
    let flat = c.args.search.now.flat.now in
    let ms = c.args.state.now.machines in
    let cutting = subst (λ o. MatchOption o (CanPassAt flat (c.args.left - 1) ms) (λ pieces. IsCutting flat (c.args.left - 1) pieces.now ms [])) c.in-Some-pieces_at.is c.pieces_at.ensures.step in
    cutting-below flat (c.args.left - 1) c.in-Some-pieces_at.pieces.now ms [] cutting

pub descend-live_at-requires-clause-cutting : goal.descend-live_at-requires-clause-cutting
descend-live_at-requires-clause-cutting t c =
    let flat = c.args.search.now.flat.now in
    let ms = c.args.state.now.machines in
    subst (λ o. MatchOption o (CanPassAt flat (c.args.left - 1) ms) (λ pieces. IsCutting flat (c.args.left - 1) pieces.now ms [])) c.in-Some-pieces_at.is c.pieces_at.ensures.step

pub descend-carry_definition-requires : goal.descend-carry_definition-requires
descend-carry_definition-requires t c =
    let flat = c.args.search.now.flat.now in
    let ms = c.args.state.now.machines in
    let ne = c.if-left-eq0.false in
    let after : c.args.left ≡ suc (c.args.left - 1) = omega arith in
    let back : c.args.left ≡ c.args.left - 1 + 1 = omega arith in
    let can = subst (λ o. MatchOption o (CanPassAt flat (c.args.left - 1) ms) (λ pieces. IsCutting flat (c.args.left - 1) pieces.now ms [])) c.in-None.is c.pieces_at.ensures.step in
    let w = weight-next flat.definitions c.args.left (c.args.left - 1) after in
    let dec = c.decreases in
    let lt : suc (weight flat.definitions (c.args.left - 1)) < t = omega arith in
    (lt, (c.requires.search, (subst (λ n. IsState flat n c.args.state.now) back c.requires.state, (inr can, c.requires.tally))))

pub descend-name_own-requires : goal.descend-name_own-requires
descend-name_own-requires t c =
    let flat = c.args.search.now.flat.now in
    let ms = c.args.state.now.machines in
    let cutting = subst (λ o. MatchOption o (CanPassAt flat (c.args.left - 1) ms) (λ pieces. IsCutting flat (c.args.left - 1) pieces.now ms [])) c.in-Some-pieces_at.is c.pieces_at.ensures.step in
    record { at = cutting-below flat (c.args.left - 1) c.in-Some-pieces_at.pieces.now ms [] cutting }

pub descend-name_own-requires-in-None : goal.descend-name_own-requires-in-None
descend-name_own-requires-in-None t c =
    let ne = c.if-left-eq0.false in
    let le = c.requires.left in
    let lt : c.args.left - 1 < length c.args.search.now.flat.now.definitions = omega arith in
    record { at = lt }

pub descend-returns-in_ok-named-in-Some-pieces_at-clause-below : goal.descend-returns-in_ok-named-in-Some-pieces_at-clause-below
descend-returns-in_ok-named-in-Some-pieces_at-clause-below t c =
    let flat = c.args.search.now.flat.now in
    let ms = c.args.state.now.machines in
    let ne = c.if-left-eq0.false in
    let after : c.args.left ≡ suc (c.args.left - 1) = omega arith in
    let cutting = subst (λ o. MatchOption o (CanPassAt flat (c.args.left - 1) ms) (λ pieces. IsCutting flat (c.args.left - 1) pieces.now ms [])) c.in-Some-pieces_at.is c.pieces_at.ensures.step in
    concat-below flat c.args.search.now.region c.args.left (c.args.left - 1) c.in-Some-pieces_at.pieces.now c.args.state.now c.try_cuts.new.tally c.in_ok-below-in-Some-pieces_at.below c.in_ok-named-in-Some-pieces_at.named
    after c.requires.search.straight c.requires.state.registers c.pieces_at.ensures.exact cutting c.in_ok-below-in-Some-pieces_at.ensures.below c.in_ok-named-in-Some-pieces_at.ensures

pub descend-returns-in_ok-named-in-None-clause-below : goal.descend-returns-in_ok-named-in-None-clause-below
descend-returns-in_ok-named-in-None-clause-below t c =
    let flat = c.args.search.now.flat.now in
    let ms = c.args.state.now.machines in
    let ne = c.if-left-eq0.false in
    let after : c.args.left ≡ suc (c.args.left - 1) = omega arith in
    let can = subst (λ o. MatchOption o (CanPassAt flat (c.args.left - 1) ms) (λ pieces. IsCutting flat (c.args.left - 1) pieces.now ms [])) c.in-None.is c.pieces_at.ensures.step in
    through-below flat c.args.search.now.region c.args.left (c.args.left - 1) c.args.state.now c.carry_definition.new.tally c.in_ok-below-in-None.below c.in_ok-named-in-None.named
    after c.requires.state.registers can c.in_ok-below-in-None.ensures.below c.in_ok-named-in-None.ensures

pub descend-returns-in_ok-named-in-Some-pieces_at-clause-tally : goal.descend-returns-in_ok-named-in-Some-pieces_at-clause-tally
descend-returns-in_ok-named-in-Some-pieces_at-clause-tally t c = c.in_ok-below-in-Some-pieces_at.ensures.tally

pub descend-returns-in_ok-named-in-Some-pieces_at-clause-kept : goal.descend-returns-in_ok-named-in-Some-pieces_at-clause-kept
descend-returns-in_ok-named-in-Some-pieces_at-clause-kept t c = c.in_ok-below-in-Some-pieces_at.ensures.kept

pub descend-returns-in_ok-named-in-Some-pieces_at-clause-refused : goal.descend-returns-in_ok-named-in-Some-pieces_at-clause-refused
descend-returns-in_ok-named-in-Some-pieces_at-clause-refused t c = λ n e. cc

pub descend-returns-in_err-below-in-Some-pieces_at-clause-refused : goal.descend-returns-in_err-below-in-Some-pieces_at-clause-refused
descend-returns-in_err-below-in-Some-pieces_at-clause-refused t c = λ n e.
    let d = rw e at c.from_residual-in_err-below-in-Some-pieces_at.ensures.1 in
    c.try_cuts.ensures.refused n (c.in_err-below-in-Some-pieces_at.was ∙ ap Err (sym d))

pub descend-returns-in_ok-named-in-None-clause-tally : goal.descend-returns-in_ok-named-in-None-clause-tally
descend-returns-in_ok-named-in-None-clause-tally t c = c.in_ok-below-in-None.ensures.tally

pub descend-returns-in_ok-named-in-None-clause-kept : goal.descend-returns-in_ok-named-in-None-clause-kept
descend-returns-in_ok-named-in-None-clause-kept t c = c.in_ok-below-in-None.ensures.kept

pub descend-returns-in_ok-named-in-None-clause-refused : goal.descend-returns-in_ok-named-in-None-clause-refused
descend-returns-in_ok-named-in-None-clause-refused t c = λ n e. cc

pub descend-returns-in_err-below-in-None-clause-refused : goal.descend-returns-in_err-below-in-None-clause-refused
descend-returns-in_err-below-in-None-clause-refused t c = λ n e.
    let d = rw e at c.from_residual-in_err-below-in-None.ensures.1 in
    c.carry_definition.ensures.refused n (c.in_err-below-in-None.was ∙ ap Err (sym d))

pub descend-returns-in-Some-clause-below : goal.descend-returns-in-Some-clause-below
descend-returns-in-Some-clause-below t c =
    let dead = subst (λ o. IfSome o (λ v. (m : Graph) × HasMachine c.args.state.now.machines v m × (m.ends ≡ []))) c.in-Some.is c.dead_end.ensures in
    dead-refuted c.args.search.now.flat.now c.args.left c.args.state.now.machines c.in-Some.v dead.0 c.in_ok-names.names dead.1 dead.2 c.in_ok-names.ensures

pub descend-returns-in-Some-clause-tally : goal.descend-returns-in-Some-clause-tally
descend-returns-in-Some-clause-tally t c = c.requires.tally

pub descend-returns-in-Some-clause-kept : goal.descend-returns-in-Some-clause-kept
descend-returns-in-Some-clause-kept t c = keeps-same c.args.tally.now

pub descend-returns-in-Some-clause-refused : goal.descend-returns-in-Some-clause-refused
descend-returns-in-Some-clause-refused t c = λ n e. cc

pub descend-answer_leaf-requires-clause-search : goal.descend-answer_leaf-requires-clause-search
descend-answer_leaf-requires-clause-search t c = c.requires.search

pub descend-answer_leaf-requires-clause-state : goal.descend-answer_leaf-requires-clause-state
descend-answer_leaf-requires-clause-state t c = subst (λ n. IsState c.args.search.now.flat.now n c.args.state.now) c.if-left-eq0.true c.requires.state

pub descend-answer_leaf-requires-clause-tally : goal.descend-answer_leaf-requires-clause-tally
descend-answer_leaf-requires-clause-tally t c = c.requires.tally

pub descend-pieces_at-requires-clause-search : goal.descend-pieces_at-requires-clause-search
descend-pieces_at-requires-clause-search t c = c.requires.search

pub descend-pieces_at-requires-clause-state : goal.descend-pieces_at-requires-clause-state
descend-pieces_at-requires-clause-state t c =
    let ne = c.if-left-eq0.false in
    let back : c.args.left ≡ c.args.left - 1 + 1 = omega arith in
    subst (λ n. IsState c.args.search.now.flat.now n c.args.state.now) back c.requires.state

pub descend-returns-then-left-eq0-clause-below : goal.descend-returns-then-left-eq0-clause-below
descend-returns-then-left-eq0-clause-below t c =
    let flat = c.args.search.now.flat.now in
    let ms = c.args.state.now.machines in
    let at-leaf = leaf-below flat c.args.search.now.region ms c.answer_leaf.new.tally c.in_ok-found.found (λ none. c.answer_leaf.ensures.covered (c.in_ok-found.was ∙ ap (λ o. Ok o) none)) c.in_ok-found.ensures.found in
    subst (IsBelow flat c.args.search.now.region c.args.left ms c.answer_leaf.new.tally) (sym c.of_leaf.ensures)
    (subst (λ n. IsBelow flat c.args.search.now.region n ms c.answer_leaf.new.tally (of_leaf c.in_ok-found.found)) (sym c.if-left-eq0.true) at-leaf)

pub descend-returns-then-left-eq0-clause-tally : goal.descend-returns-then-left-eq0-clause-tally
descend-returns-then-left-eq0-clause-tally t c = c.in_ok-found.ensures.tally

pub descend-returns-then-left-eq0-clause-kept : goal.descend-returns-then-left-eq0-clause-kept
descend-returns-then-left-eq0-clause-kept t c = c.in_ok-found.ensures.kept

pub descend-returns-then-left-eq0-clause-refused : goal.descend-returns-then-left-eq0-clause-refused
descend-returns-then-left-eq0-clause-refused t c = λ n e. cc

pub descend-returns-in_err-found-clause-refused : goal.descend-returns-in_err-found-clause-refused
descend-returns-in_err-found-clause-refused t c = λ n e.
    let d = rw e at c.from_residual-in_err-found.ensures.1 in
    absurd (c.answer_leaf.ensures.allowed n (c.in_err-found.was ∙ ap Err (sym d)))

pub try_cuts-try_cuts-requires : goal.try_cuts-try_cuts-requires
try_cuts-try_cuts-requires t c =
    let flat = c.args.search.now.flat.now in
    let pieces = c.args.pieces.now in
    let ms = c.args.state.now.machines in
    let dec = c.decreases in
    let few = c.requires.cuts.fewer in
    let full : length c.args.cuts.now + 1 ≡ length pieces → ⊥ = λ e. c.if-place-pieces.false e in
    let same : c.as_slice-cuts.result.now ≡ c.args.cuts.now ++ c.loop-s.s ∷ [] = c.as_slice-cuts.ensures ∙ c.in_ok-more.ensures in
    let size : length c.as_slice-cuts.result.now ≡ length c.args.cuts.now + 1 = ap length same ∙ length-append c.args.cuts.now (c.loop-s.s ∷ []) in
    let lt : suc (weight flat.definitions c.args.at + (length pieces - length c.as_slice-cuts.result.now)) < t = omega arith in
    let first = more-cuts flat c.args.at pieces ms c.args.cuts.now c.loop-s.s c.states_at-s-end.result c.requires.cuts full c.states_at-s-end.ensures (omega arith) in
    (lt, (c.requires.search, (c.requires.state, (subst (IsCutting flat c.args.at pieces ms) (sym same) first, (c.requires.live, (c.requires.own, c.loop-s.invariant.tally))))))

pub try_cuts-next_at-requires-clause-at : goal.try_cuts-next_at-requires-clause-at
try_cuts-next_at-requires-clause-at t c = cutting-below c.args.search.now.flat.now c.args.at c.args.pieces.now c.args.state.now.machines c.args.cuts.now c.requires.cuts

pub try_cuts-next_at-requires-clause-cutting : goal.try_cuts-next_at-requires-clause-cutting
try_cuts-next_at-requires-clause-cutting t c = c.requires.cuts

pub try_cuts-states_at-s-end-requires-clause-at : goal.try_cuts-states_at-s-end-requires-clause-at
try_cuts-states_at-s-end-requires-clause-at t c = cutting-below c.args.search.now.flat.now c.args.at c.args.pieces.now c.args.state.now.machines c.args.cuts.now c.requires.cuts

pub try_cuts-states_at-s-end-requires-clause-machine : goal.try_cuts-states_at-s-end-requires-clause-machine
try_cuts-states_at-s-end-requires-clause-machine t c = cutting-machine c.args.search.now.flat.now c.args.at c.args.pieces.now c.args.state.now.machines c.args.cuts.now c.requires.cuts

pub try_cuts-loop-s-init : goal.try_cuts-loop-s-init
try_cuts-loop-s-init t c = record {
  tally = c.requires.tally;
  kept = keeps-same c.args.tally.now;
  gathered = gathered-none c.args.search.now.flat.now c.args.search.now.region c.args.at c.args.pieces.now c.args.state.now.machines c.args.cuts.now c.requires.cuts c.args.own.now _ c.args.tally.now c.requires.own c.in_ok-from_slice.ensures;
}

pub try_cuts-loop-s-preserved : goal.try_cuts-loop-s-preserved
try_cuts-loop-s-preserved t c =
    let flat = c.args.search.now.flat.now in
    let pieces = c.args.pieces.now in
    let ms = c.args.state.now.machines in
    let cuts = c.args.cuts.now in
    let same = c.as_slice-cuts.ensures ∙ c.in_ok-more.ensures in
    let gathered = c.gather.ensures.gathered (c.in_ok-answer.was ∙ ap (λ o. Ok o) (none-of c.in_ok-answer.field-0 c.in_default.not-Some)) in
    record {
      tally = c.in_ok-below.ensures.tally;
      kept = keeps-more c.args.tally.now c.loop-s.tally c.try_cuts.new.tally c.loop-s.invariant.kept c.in_ok-below.ensures.kept;
      gathered = gathered-more flat c.args.search.now.region c.args.at pieces ms cuts c.requires.cuts c.loop-s.s c.loop-s.gathered c.gather.new.gathered c.loop-s.tally c.try_cuts.new.tally c.in_ok-below.below
          c.in_ok-below.ensures.kept c.loop-s.invariant.gathered (subst (λ l. IsBelowCuts flat c.args.search.now.region c.args.at pieces ms l c.try_cuts.new.tally c.in_ok-below.below) same c.in_ok-below.ensures.below) gathered;
    }

pub try_cuts-loop-s-preserved-then-not-may_cut : goal.try_cuts-loop-s-preserved-then-not-may_cut
try_cuts-loop-s-preserved-then-not-may_cut t c =
    let flat = c.args.search.now.flat.now in
    let pieces = c.args.pieces.now in
    let ms = c.args.state.now.machines in
    let cuts = c.args.cuts.now in
    let next = c.as_slice.result.now in
    let nexts : (d : Definition) (m : Graph) → slice_get flat.definitions c.args.at ≡ Some d → HasMachine ms d.variable m → AreNext ms m pieces cuts next =
    λ d m is there. subst (AreNext ms m pieces cuts) (sym c.as_slice.ensures) (c.in_ok-next.ensures d m is there) in
    let bars = sym c.may_cut.ensures ∙ c.if-not-may_cut.true in
    record {
      tally = c.loop-s.invariant.tally;
      kept = c.loop-s.invariant.kept;
      gathered = gathered-barred flat c.args.search.now.region c.args.at pieces ms cuts c.requires.cuts c.loop-s.s c.loop-s.gathered c.loop-s.tally next c.args.live.now nexts c.requires.live bars c.loop-s.invariant.gathered;
    }

pub try_cuts-returns-clause-below : goal.try_cuts-returns-clause-below
try_cuts-returns-clause-below t c =
    let flat = c.args.search.now.flat.now in
    let ms = c.args.state.now.machines in
    let full : length c.args.cuts.now + 1 ≡ length c.args.pieces.now → ⊥ = λ e. c.if-place-pieces.false e in
    let done = c.loop-s-test.false in
    let size = c.loop-s.auto.s-end in
    let end : c.loop-s.s ≡ c.states_at-s-end.result = omega arith in
    subst (IsBelowCuts flat c.args.search.now.region c.args.at c.args.pieces.now ms c.args.cuts.now c.loop-s.tally) (sym c.into_below.ensures)
    (gathered-all flat c.args.search.now.region c.args.at c.args.pieces.now ms c.args.cuts.now c.requires.cuts c.loop-s.gathered c.loop-s.tally c.states_at-s-end.result c.states_at-s-end.ensures full
    (subst (λ n. AreGathered flat c.args.search.now.region c.args.at c.args.pieces.now ms c.args.cuts.now n c.loop-s.gathered c.loop-s.tally) end c.loop-s.invariant.gathered))

pub try_cuts-returns-in-Some-clause-below : goal.try_cuts-returns-in-Some-clause-below
try_cuts-returns-in-Some-clause-below t c =
    let flat = c.args.search.now.flat.now in
    let pieces = c.args.pieces.now in
    let ms = c.args.state.now.machines in
    let cuts = c.args.cuts.now in
    let same = c.as_slice-cuts.ensures ∙ c.in_ok-more.ensures in
    let few = c.requires.cuts.fewer in
    let full : length cuts + 1 ≡ length pieces → ⊥ = λ e. c.if-place-pieces.false e in
    let lt : length cuts < length pieces = few in
    let lt-next : length cuts + 1 < length pieces = omega arith in
    let found = subst (λ o. IfSome o (λ b. (b ≡ c.in_ok-below.below) × Goes (get_or pieces (length cuts) 0) (get_or pieces ((length cuts) + 1) 0) b)) c.in-Some.is c.in_ok-answer.ensures.answer in
    let goes = found.1 in
    goes-below flat c.args.search.now.region c.args.at pieces ms cuts c.requires.cuts c.loop-s.s c.states_at-s-end.result c.try_cuts.new.tally (get_or pieces (length cuts) 0) (get_or pieces (length cuts + 1) 0) c.in-Some.answer
    c.states_at-s-end.ensures (omega arith) (slice_get-get_or pieces (length cuts) 0 lt) (slice_get-get_or pieces (length cuts + 1) 0 lt-next)
    (subst (λ l. IsBelowCuts flat c.args.search.now.region c.args.at pieces ms l c.try_cuts.new.tally c.in-Some.answer) same
    (subst (IsBelowCuts flat c.args.search.now.region c.args.at pieces ms c.as_slice-cuts.result.now c.try_cuts.new.tally) (sym found.0) c.in_ok-below.ensures.below)) goes

pub try_cuts-returns-in-Some-clause-kept : goal.try_cuts-returns-in-Some-clause-kept
try_cuts-returns-in-Some-clause-kept t c = keeps-more c.args.tally.now c.loop-s.tally c.try_cuts.new.tally c.loop-s.invariant.kept c.in_ok-below.ensures.kept

pub try_cuts-returns-in-Some-clause-tally : goal.try_cuts-returns-in-Some-clause-tally
try_cuts-returns-in-Some-clause-tally t c = c.in_ok-below.ensures.tally

pub try_cuts-returns-clause-kept : goal.try_cuts-returns-clause-kept
try_cuts-returns-clause-kept t c = c.loop-s.invariant.kept

pub try_cuts-returns-clause-tally : goal.try_cuts-returns-clause-tally
try_cuts-returns-clause-tally t c = c.loop-s.invariant.tally

pub try_cuts-returns-clause-refused : goal.try_cuts-returns-clause-refused
try_cuts-returns-clause-refused t c = λ n e. cc

pub try_cuts-returns-in_err-below-clause-refused : goal.try_cuts-returns-in_err-below-clause-refused
try_cuts-returns-in_err-below-clause-refused t c = λ n e.
    let d = rw e at c.from_residual-in_err-below.ensures.1 in
    c.try_cuts.ensures.refused n (c.in_err-below.was ∙ ap Err (sym d))

pub try_cuts-returns-then-place-pieces-clause-below : goal.try_cuts-returns-then-place-pieces-clause-below
try_cuts-returns-then-place-pieces-clause-below t c =
    let flat = c.args.search.now.flat.now in
    let full : length c.args.cuts.now + 1 ≡ length c.args.pieces.now = c.if-place-pieces.true in
    IfOk-weaker c.carry_definition.result _ _ (λ b h. whole-below flat c.args.search.now.region c.args.at c.args.pieces.now c.args.cuts.now c.args.state.now c.carry_definition.new.tally b c.requires.state.registers full h) c.carry_definition.ensures.below

pub try_cuts-returns-then-place-pieces-clause-kept : goal.try_cuts-returns-then-place-pieces-clause-kept
try_cuts-returns-then-place-pieces-clause-kept t c = c.carry_definition.ensures.kept

pub try_cuts-returns-then-place-pieces-clause-tally : goal.try_cuts-returns-then-place-pieces-clause-tally
try_cuts-returns-then-place-pieces-clause-tally t c = c.carry_definition.ensures.tally

pub try_cuts-returns-then-place-pieces-clause-refused : goal.try_cuts-returns-then-place-pieces-clause-refused
try_cuts-returns-then-place-pieces-clause-refused t c = c.carry_definition.ensures.refused

pub try_cuts-carry_definition-requires : goal.try_cuts-carry_definition-requires
try_cuts-carry_definition-requires t c =
    let dec = c.decreases in
    let few = c.requires.cuts.fewer in
    let full : length c.args.cuts.now + 1 ≡ length c.args.pieces.now = c.if-place-pieces.true in
    let lt : suc (weight c.args.search.now.flat.now.definitions c.args.at) < t = omega arith in
    (lt, (c.requires.search, (c.requires.state, (whole-can c.args.search.now.flat.now c.args.at c.args.pieces.now c.args.state.now.machines c.args.cuts.now c.requires.cuts full, c.requires.tally))))

pub carry_definition-descend-below-requires : goal.carry_definition-descend-below-requires
carry_definition-descend-below-requires t c =
    let flat = c.args.search.now.flat.now in
    let dec = c.decreases in
    let lt : weight flat.definitions c.args.at < t = omega arith in
    let at = step-below flat c.args.at c.args.state.now.machines c.args.cuts.now c.requires.step in
    (lt, (c.requires.search, (c.in_ok-next.ensures.state c.requires.search.straight c.requires.state, (omega (arith, at), c.requires.tally))))

pub carry_definition-leave-requires-clause-at : goal.carry_definition-leave-requires-clause-at
carry_definition-leave-requires-clause-at t c = step-below c.args.search.now.flat.now c.args.at c.args.state.now.machines c.args.cuts.now c.requires.step

pub carry_definition-leave-requires-clause-straight : goal.carry_definition-leave-requires-clause-straight
carry_definition-leave-requires-clause-straight t c = c.requires.search.straight

pub carry_definition-leave-requires-clause-found : goal.carry_definition-leave-requires-clause-found
carry_definition-leave-requires-clause-found t c = λ f is. subst (λ r. IfOk r (IsBelow c.args.search.now.flat.now c.args.search.now.region c.args.at c.in_ok-next.next.machines c.descend-below.new.tally)) is c.descend-below.ensures.below

pub carry_definition-returns-clause-below : goal.carry_definition-returns-clause-below
carry_definition-returns-clause-below t c =
    let flat = c.args.search.now.flat.now in
    let back = c.in_ok-lifted.ensures.back in
    taken-below flat c.args.search.now.region c.args.at c.args.cuts.now c.args.state.now c.in_ok-next.next c.descend-below.new.tally back.0 c.in_ok-lifted.lifted c.in_ok-next.ensures.next
    (subst (λ r. IfOk r (IsBelow flat c.args.search.now.region c.args.at c.in_ok-next.next.machines c.descend-below.new.tally)) back.1 c.descend-below.ensures.below) back.2

pub carry_definition-returns-clause-tally : goal.carry_definition-returns-clause-tally
carry_definition-returns-clause-tally t c = subst (λ r. OnOk r (IsTally c.args.search.now.flat.now c.descend-below.new.tally)) c.in_ok-lifted.ensures.back.1 c.descend-below.ensures.tally

pub carry_definition-returns-clause-kept : goal.carry_definition-returns-clause-kept
carry_definition-returns-clause-kept t c = subst (λ r. OnOk r (Keeps c.args.tally.now c.descend-below.new.tally)) c.in_ok-lifted.ensures.back.1 c.descend-below.ensures.kept

pub carry_definition-returns-clause-refused : goal.carry_definition-returns-clause-refused
carry_definition-returns-clause-refused t c = λ n e. cc

pub carry_definition-returns-in_err-next-clause-refused : goal.carry_definition-returns-in_err-next-clause-refused
carry_definition-returns-in_err-next-clause-refused t c = λ n e.
    let d = rw e at c.from_residual.ensures.1 in
    c.in_err-next.ensures.refused n (ap Err (sym d))

pub carry_definition-returns-in_err-lifted-clause-refused : goal.carry_definition-returns-in_err-lifted-clause-refused
carry_definition-returns-in_err-lifted-clause-refused t c = λ n e.
    let d = rw e at c.from_residual-in_err-lifted.ensures.1 in
    c.descend-below.ensures.refused n (c.leave.ensures.refused n (c.in_err-lifted.was ∙ ap Err (sym d)))
