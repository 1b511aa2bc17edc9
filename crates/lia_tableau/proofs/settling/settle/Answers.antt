use Rattle.std.proofs.Common.{rules, ◌≡◌, false, true, ◌+◌, sym, ◌∙◌, subst, arith}
use Rattle.lia_tableau.specs.Pivoting.{IsPastPivot}
use Rattle.lia_tableau.specs.Crossing.{IsPastFault}
use Rattle.lia_tableau.specs.declared.table.Table.{Table}
use Rattle.lia_tableau.specs.Trails.{stay}
use Rattle.lia_tableau.proofs.TrailLengths.{trail_ends, extended, extended_length}
use Rattle.lia_tableau.proofs.settling.settle.Goals as goal

pub pivots-init : goal.pivots-init
pivots-init c = record { trail = stay c.args.tableau.now; count = omega (arith) }

pub pivot-requires : goal.pivot-requires
pivot-requires c = c.is_due.ensures.0 c.pivots-test.true

pub pivots-smaller : goal.pivots-smaller
pivots-smaller c =
    let i = c.pivots.invariant in
    let s = c.in_ok-pivot.ensures.pivoted.step in
    let short = trail_ends c.args.tableau.now c.pivot.new.self (extended c.args.tableau.now c.pivots.tableau c.pivot.new.self i.trail s) in
    let long = extended_length c.args.tableau.now c.pivots.tableau c.pivot.new.self i.trail s in
    let more : c.pivot.new.self.pivots ≡ c.pivots.tableau.pivots + 1 = c.in_ok-pivot.ensures.pivots in
    let count = i.count in
    omega arith

pub pivots-preserved : goal.pivots-preserved
pivots-preserved c =
    let i = c.pivots.invariant in
    let s = c.in_ok-pivot.ensures.pivoted.step in
    let more : c.pivot.new.self.pivots ≡ c.pivots.tableau.pivots + 1 = c.in_ok-pivot.ensures.pivots in
    let long = extended_length c.args.tableau.now c.pivots.tableau c.pivot.new.self i.trail s in
    let count = i.count in
    record { trail = extended c.args.tableau.now c.pivots.tableau c.pivot.new.self i.trail s; count = omega arith }

pub returns-in_err-pivot-clause-past : goal.returns-in_err-pivot-clause-past
returns-in_err-pivot-clause-past c =
    let p = subst (λ (t : Table). IsPastFault (IsPastPivot t) c.in_err-pivot.field-0.0) (sym c.in_err-pivot.ensures.unchanged) c.in_err-pivot.ensures.past in
    search (rules, p)

pub returns-clause-settled : goal.returns-clause-settled
returns-clause-settled c = λ d. absurd (let both : false ≡ true = sym c.pivots-test.false ∙ c.is_due.ensures.1 d in cc)
