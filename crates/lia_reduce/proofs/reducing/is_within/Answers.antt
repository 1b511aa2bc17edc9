use Rattle.std.proofs.Common.{rules, pos, ◌^◌, length, get_or, refl, ap, arith}
use Rattle.std.specs.Int.{w128}
use Rattle.std.proofs.lemmas.Int.{ints, to_z-of_z}
use mir.Val.{SFits}
use Rattle.sv_linear.specs.Combining.{IsSymmetric}
use Rattle.sv_linear.specs.declared.column.Column.TheVariants.{Constant}
use Rattle.lia_reduce.specs.RowTerms.{ascends_within, entries_symmetric}
use Rattle.lia_reduce.proofs.Within.{term_within}
use Rattle.lia_reduce.proofs.reducing.is_within.Goals as goal
use Rattle.lia_reduce.proofs.reducing.is_within.Goals.{then-unknown-unknowns-via-then-unknown-unknowns, then-unknown-unknowns-via-else-unknown-unknowns+then-coefficient-lt-LEAST}

pub returns-then-row-lt-LEAST : goal.returns-then-row-lt-LEAST
returns-then-row-lt-LEAST c =
    let f = c.args.row.now.form in
    let fc : SFits w128 f.constant = search rules in
    let low = rw (to_z-of_z w128 _ fc) at c.if-row-lt-LEAST.true in (
      (λ told. absurd (cc)),
      (λ w. let s : IsSymmetric f.constant = w.symmetric Constant in absurd (omega (arith, ints, low, s))),
    )

pub returns-then-unknown-unknowns : goal.returns-then-unknown-unknowns
returns-then-unknown-unknowns c =
    let items = c.as_slice-unknown-items.result.now in
    let i = c.loop-unknown.unknown-index in (
      (λ told. absurd (cc)),
      (λ w.
          let t = rw (← c.as_slice-unknown-items.ensures) at (term_within c.args.unknowns c.args.row.now i w (rw (← c.as_slice-unknown-items.ensures) c.loop-unknown-test.true)) in
          elim c.then-unknown-unknowns.branch [
            | then-unknown-unknowns-via-then-unknown-unknowns b ↦ absurd (omega (arith, t.0, b.if-unknown-unknowns.true))
            | then-unknown-unknowns-via-else-unknown-unknowns+then-coefficient-lt-LEAST b ↦
                let ft : SFits w128 (get_or items i (0, pos 0)).1 = search rules in
                let low = rw (to_z-of_z w128 _ ft) at b.if-coefficient-lt-LEAST.true in
                absurd (omega (arith, ints, low, t.1))
          ]),
    )

pub returns : goal.returns
returns c =
    let f = c.args.row.now.form in
    let fc : SFits w128 f.constant = search rules in
    let same = ap length c.as_slice-unknown-items.ensures in
    let low = rw (to_z-of_z w128 _ fc) at c.if-row-lt-LEAST.false in
    let s : IsSymmetric f.constant = omega (arith, ints, low, fc) in (
      (λ told. record {
        unknowns = ascends_within c.args.unknowns 0 (2 ^ 32) f.coefficients f.ascending (omega arith) (λ k p. c.loop-unknown.invariant.below k (omega (arith, p, c.loop-unknown-test.false, same)));
        symmetric = entries_symmetric f (λ k p. c.loop-unknown.invariant.symmetric k (omega (arith, p, c.loop-unknown-test.false, same))) s;
      }),
      (λ w. refl),
    )
