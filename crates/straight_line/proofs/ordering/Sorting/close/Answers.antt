use Rattle.std.proofs.Common.{rules, ◌∙◌, ap, refl, arith, length, get_or, ◌<◌, ◌≤◌, inl, drop-cons, subst, sym}
use Rattle.flat_cubes.specs.Straight.{HaveVariablesBelow}
use Rattle.std.proofs.lemmas.List.{drop_all}
use Rattle.std.proofs.lemmas.Option.{slice_get-get_or}
use Rattle.straight_line.specs.Waiting.{IsSorting}
use Rattle.straight_line.proofs.Starting.{filed_closed, filed_drop}
use Rattle.straight_line.proofs.Uses.{within_variable}
use Rattle.straight_line.proofs.ordering.Sorting.close.Goals as goal

pub set-requires : goal.set-requires
set-requires c = within_variable (length c.args.self.now.ahead) c.args.definitions.now c.args.first (get_or c.args.definitions.now c.args.first c.index-definitions-first.result) c.requires.within (slice_get-get_or c.args.definitions.now c.args.first c.index-definitions-first.result c.requires.inside)

pub index_mut-requires : goal.index_mut-requires
index_mut-requires c =
    let l = within_variable (length c.args.self.now.ahead) c.args.definitions.now c.args.first (get_or c.args.definitions.now c.args.first c.index-definitions-first.result) c.requires.within (slice_get-get_or c.args.definitions.now c.args.first c.index-definitions-first.result c.requires.inside) in
    let e = c.requires.rows in
    let m : (get_or c.args.definitions.now c.args.first c.index-definitions-first.result).variable < length c.args.self.now.waiters.items = omega arith in
    search (rules, m)

pub loop-waiter-init : goal.loop-waiter-init
loop-waiter-init c = filed_closed (length c.args.self.now.ahead) c.args.definitions.now c.args.self.now.order c.push.new.self c.args.self.now.ahead c.set.new.self c.args.first c.args.self.now.free.keys c.args.self.now.waiters.items (get_or c.args.definitions.now c.args.first c.index-definitions-first.result) c.index_mut.result.now c.replace-waiters.new.dest c.as_slice-waiter-items.result.now refl c.requires.rows c.requires.within c.requires.once c.requires.inside c.requires.least c.requires.sorting (slice_get-get_or c.args.definitions.now c.args.first c.index-definitions-first.result c.requires.inside) c.in_ok-push.ensures.ok c.set.ensures c.index_mut.ensures.value (c.as_slice-waiter-items.ensures ∙ c.replace-waiters.ensures.value) (c.replace-waiters.ensures.after ∙ c.new.ensures)

pub loop-waiter-preserved : goal.loop-waiter-preserved
loop-waiter-preserved c = (
  ap length c.file.ensures.order ∙ c.loop-waiter.invariant.0,
  filed_drop (length c.args.self.now.ahead) c.args.definitions.now c.as_slice-waiter-items.result.now c.loop-waiter.waiter-index (record { definition = 0; from = 0 }) c.loop-waiter.self.order c.file.new.self.order c.loop-waiter.self.ahead c.file.new.self.ahead c.loop-waiter.self.free.keys c.file.new.self.free.keys c.loop-waiter.self.waiters.items c.file.new.self.waiters.items c.loop-waiter-test.true c.loop-waiter.invariant.1 c.file.ensures.ahead c.file.ensures.rows c.in_ok-file.ensures.filed,
)

pub file-requires-clause-within : goal.file-requires-clause-within
file-requires-clause-within c = subst (λ n. HaveVariablesBelow n c.args.definitions.now) (sym c.loop-waiter.invariant.1.count) c.requires.within

pub file-requires-clause-rows : goal.file-requires-clause-rows
file-requires-clause-rows c = c.loop-waiter.invariant.1.rows ∙ sym c.loop-waiter.invariant.1.count

pub returns-clause-order : goal.returns-clause-order
returns-clause-order c = c.loop-waiter.invariant.0

pub returns-clause-ahead : goal.returns-clause-ahead
returns-clause-ahead c = c.loop-waiter.invariant.1.count

pub returns-clause-rows : goal.returns-clause-rows
returns-clause-rows c = c.loop-waiter.invariant.1.rows ∙ sym c.requires.rows

pub returns-clause-sorting : goal.returns-clause-sorting
returns-clause-sorting c =
    let a = c.loop-waiter-test.false in
    let past : length c.as_slice-waiter-items.result.now ≤ c.loop-waiter.waiter-index = omega (arith, a) in
    subst (λ ws. IsSorting c.args.definitions.now ws c.loop-waiter.self.order c.loop-waiter.self.ahead c.loop-waiter.self.free.keys c.loop-waiter.self.waiters.items) (drop_all c.loop-waiter.waiter-index c.as_slice-waiter-items.result.now past) c.loop-waiter.invariant.1.sorting

pub bounds-definitions-first : goal.bounds-definitions-first
bounds-definitions-first c = c.requires.inside

pub file-requires-clause-passed : goal.file-requires-clause-passed
file-requires-clause-passed c =
    let w = get_or c.as_slice-waiter-items.result.now c.loop-waiter.waiter-index (record { definition = 0; from = 0 }) in
    let sorting = subst (λ ws. IsSorting c.args.definitions.now ws c.loop-waiter.self.order c.loop-waiter.self.ahead c.loop-waiter.self.free.keys c.loop-waiter.self.waiters.items) (drop-cons c.as_slice-waiter-items.result.now c.loop-waiter.waiter-index (record { definition = 0; from = 0 }) c.loop-waiter-test.true) c.loop-waiter.invariant.1.sorting in
    sorting.pends_passed w (inl refl)
