use Rattle.std.proofs.Common.{[], inl, inr, take, get_or, Contains, refl, sym, ◌∙◌, subst}
use Rattle.std.proofs.lemmas.List.{take_all}
use Rattle.std.proofs.lemmas.List.Elements.{Contains-get_or, Contains-push_cases}
use Rattle.machine_core.specs.Edges.{EndsAt, AreEdgesAndEnds}
use Rattle.sv_list.specs.Lists.{Any-contains, contained, Contains-none, empty-tested}
use Rattle.subset_machine.proofs.HitLemmas.{one-more}
use Rattle.subset_machine.proofs.LeavingLemmas.{ends-found, ends-none, ends-free}
use Rattle.subset_machine.proofs.SubsetRuns.{some-in}
use Rattle.subset_machine.proofs.subset.may_end.Goals as goal

pub ends_at-requires : goal.ends_at-requires
ends_at-requires c = c.requires.below _ (Contains-get_or c.args.list.now c.loop-s.s-index 0 c.loop-s-test.true)

pub loop-s-init : goal.loop-s-init
loop-s-init c s i e = Contains-none s i

pub loop-s-preserved : goal.loop-s-preserved
loop-s-preserved c s h e =
    let list = c.args.list.now in
    let ends = c.args.machine.now.ends in
    let at = get_or list c.loop-s.s-index 0 in
    let grown = one-more list c.loop-s.s-index at 0 c.loop-s-test.true refl in
    elim (Contains-push_cases (take c.loop-s.s-index list) at s (subst (λ l. Contains l s) grown h)) [
      | inl i ↦ c.loop-s.invariant s i e
      | inr same ↦ ends-none ends at (sym c.ends_at.ensures ∙ empty-tested c.ends_at.result.now (sym c.is_empty.ensures ∙ c.if-not-is_empty.false)) (subst (λ n. EndsAt ends n []) (sym same) e)
    ]

pub returns-then-not-is_empty : goal.returns-then-not-is_empty
returns-then-not-is_empty c =
    let m = c.args.machine.now in
    let list = c.args.list.now in
    let at = get_or list c.loop-s.s-index 0 in
    let p = some-in c.ends_at.result.now (sym c.is_empty.ensures ∙ c.if-not-is_empty.true) in
    let formed = subst (λ n. AreEdgesAndEnds m.states n m.edges m.ends) c.requires.plain m.formed in
    let found = ends-found m.ends (ends-free m.states m.edges m.ends formed) at p.0 (subst (λ l. Contains l p.0) c.ends_at.ensures p.1) in
    (λ e. Any-contains (λ s. EndsAt m.ends s []) list at (Contains-get_or list c.loop-s.s-index 0 c.loop-s-test.true) found, λ a. refl)

pub returns : goal.returns
returns c = (
  λ e. absurd (cc),
  λ a.
      let s = contained (λ s. EndsAt c.args.machine.now.ends s []) c.args.list.now a in
      absurd (c.loop-s.invariant s.0 (subst (λ l. Contains l s.0) (sym (take_all c.loop-s.s-index c.args.list.now c.loop-s-test.false)) s.1) s.2),
)
