use Rattle.std.proofs.Common.{◌≡◌, false, true, ◌∙◌, sym}
use Rattle.std.specs.Int.{w128}
use Rattle.std.proofs.lemmas.Int.{to_z-of_z}
use Rattle.std.proofs.Common.{rules}
use Rattle.sv_list.specs.Bools.{not-both, not-from_refuted}
use mir.Val.{SFits}
use Rattle.farkas_check.proofs.leaf_test.is_indivisible.Goals as goal

pub returns-then-are_multiples : goal.returns-then-are_multiples
returns-then-are_multiples c =
    let by = to_z-of_z w128 c.args.divisor c.ranges.divisor in
    let all = rw (by, c.as_slice.ensures) at c.are_multiples.ensures in
    let fc : SFits w128 c.args.sum.now.constant = search rules in
    let one = rw (by, to_z-of_z w128 _ fc) at c.is_multiple.ensures in (
      (λ t. (all.0 c.if-are_multiples.true, (λ d. not-both c.is_multiple.result t (one.1 d)))),
      (λ h. not-from_refuted c.is_multiple.result (λ t. h.1 (one.0 t))),
    )

pub returns-else-are_multiples : goal.returns-else-are_multiples
returns-else-are_multiples c =
    let by = to_z-of_z w128 c.args.divisor c.ranges.divisor in
    let all = rw (by, c.as_slice.ensures) at c.are_multiples.ensures in (
      (λ t. let both : false ≡ true = sym c.if-are_multiples.false ∙ t in absurd (cc)),
      (λ h. all.1 h.0),
    )
