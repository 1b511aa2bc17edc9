use Rattle.std.proofs.Common.{rules, pos, ◌<ℤ◌, sym, ◌∙◌, subst, arith}
use Rattle.std.specs.Int.{w128}
use Rattle.std.proofs.lemmas.Int.{ints}
use mir.Val.{SFits}
use Rattle.farkas_check.specs.Leaves.{leaf_rows}
use Rattle.farkas_check.specs.Closings.{Allowed}
use Rattle.farkas_check.proofs.Covering.{farkas_told, farkas_multiples}
use Rattle.farkas_check.proofs.rules.is_farkas.Goals as goal

pub returns-then-not-are_multiples : goal.returns-then-not-are_multiples
returns-then-not-are_multiples c = (
  (λ f. absurd (cc)),
  (λ p. sym c.if-not-are_multiples.true ∙ c.are_multiples.ensures.1 (farkas_multiples (leaf_rows c.args.leaf.now) c.args.leaf.now.multipliers.now p.0 p.1)),
)

pub returns-in-Some : goal.returns-in-Some
returns-in-Some c =
    let rows = leaf_rows c.args.leaf.now in
    let allowed : Allowed 0 (leaf_rows c.args.leaf.now) c.args.leaf.now.multipliers.now = search rules in
    let fits : SFits w128 c.in-Some.constant = search rules in
    farkas_told rows c.args.leaf.now.multipliers.now _ allowed (c.are_multiples.ensures.0 c.if-not-are_multiples.false) c.in-Some.ensures.0
    (λ t. let k : pos 0 <ℤ c.in-Some.constant = omega (arith, ints, t) in subst (λ z. pos 0 <ℤ z) c.in-Some.ensures.1 k)
    (λ h. let k : pos 0 <ℤ c.in-Some.constant = subst (λ z. pos 0 <ℤ z) (sym c.in-Some.ensures.1) h in sym (omega (arith, ints, k)))
