use Rattle.std.proofs.Common.{◌∙◌, ◌<◌, ◌≤◌, ◌∷◌, [], ℕ, zero, suc, List, sym, subst, get_or, refl, take, length, arith}
use Rattle.std.proofs.lemmas.List.{take_all}
use Rattle.straight_line.specs.Leading.{ArePairsBelow, LeadsTo}
use Rattle.flat_cubes.specs.Flattening.{identified}
use Rattle.straight_line.proofs.Leads.{identified_more}
use Rattle.straight_line.proofs.identifying.identify.Goals as goal

pub loop-one-preserved : goal.loop-one-preserved
loop-one-preserved c = record {
  forest = c.join.ensures.forest;
  count = c.join.auto.above ∙ c.loop-one.auto.above;
  leads = λ firsts h.
      let made = c.join.ensures.joined (identified (take c.loop-one.one-index c.args.equalities.now) firsts) (c.loop-one.invariant.leads firsts h) in
      subst (λ xs. LeadsTo xs c.join.new.above) (sym (identified_more c.args.equalities.now c.loop-one.one-index (get_or c.args.equalities.now c.loop-one.one-index (0, 0)) (0, 0) firsts c.loop-one-test.true refl)) made;
}

pairs_at : (n : ℕ) (es : List (ℕ × ℕ)) (i : ℕ) → ArePairsBelow n es → i < length es → ((get_or es i (0, 0)).0 < n) × ((get_or es i (0, 0)).1 < n)
pairs_at n [] i a l = absurd (omega arith)
pairs_at n (e ∷ es) zero a l = a.0
pairs_at n (e ∷ es) (suc i) a l = pairs_at n es i a.1 (omega arith)

pub loop-one-init : goal.loop-one-init
loop-one-init c = record { forest = c.requires.forest; count = refl; leads = λ firsts h. h }

pub join-requires-clause-forest : goal.join-requires-clause-forest
join-requires-clause-forest c = c.loop-one.invariant.forest

pub join-requires-clause-one_within : goal.join-requires-clause-one_within
join-requires-clause-one_within c = subst (λ n. (get_or c.args.equalities.now c.loop-one.one-index (0, 0)).0 < n) (sym c.loop-one.invariant.count) (pairs_at (length c.args.above.now) c.args.equalities.now c.loop-one.one-index c.requires.within c.loop-one-test.true).0

pub join-requires-clause-other_within : goal.join-requires-clause-other_within
join-requires-clause-other_within c = subst (λ n. (get_or c.args.equalities.now c.loop-one.one-index (0, 0)).1 < n) (sym c.loop-one.invariant.count) (pairs_at (length c.args.above.now) c.args.equalities.now c.loop-one.one-index c.requires.within c.loop-one-test.true).1

pub settle-requires : goal.settle-requires
settle-requires c = c.loop-one.invariant.forest

pub returns : goal.returns
returns c firsts h =
    let a = c.loop-one-test.false in
    let past : length c.args.equalities.now ≤ c.loop-one.one-index = omega (arith, a) in
    c.settle.ensures (identified c.args.equalities.now firsts) (subst (λ es. LeadsTo (identified es firsts) c.loop-one.above) (take_all c.loop-one.one-index c.args.equalities.now past) (c.loop-one.invariant.leads firsts h))
