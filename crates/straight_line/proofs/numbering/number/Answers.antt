use Rattle.std.proofs.Common.{◌≡◌, ◌∙◌, refl, sym, ap, subst, length, get_or, arith, inl, inr}
use Rattle.std.proofs.lemmas.Bool.{cases_lt}
use Rattle.straight_line.proofs.Ranked.{IsRanked, is_root, rank, ranked_all, ranked_first, ranked_none, ranked_other, ranked_small}
use Rattle.straight_line.proofs.numbering.number.Goals as goal

pub add-requires-clause-few : goal.add-requires-clause-few
add-requires-clause-few c =
    let s = ranked_small c.args.firsts.now c.loop-i.i c.loop-i.numbering.of.items c.loop-i.numbering.count c.loop-i.invariant in
    let l = c.loop-i-test.true in
    let f = c.requires.few in
    omega arith

pub loop-i-preserved : goal.loop-i-preserved
loop-i-preserved c =
    let low = c.requires.lower c.loop-i.i c.loop-i-test.true in
    elim (cases_lt (get_or c.args.firsts.now c.loop-i.i 0) c.loop-i.i) [
      | inl l ↦ ranked_other c.args.firsts.now c.loop-i.i (get_or c.args.firsts.now c.loop-i.i 0) c.loop-i.numbering.of.items c.add.new.self.of.items c.loop-i.numbering.count c.add.new.self.count c.loop-i-test.true refl c.loop-i.invariant l (c.requires.rooted c.loop-i.i c.loop-i-test.true) (c.in_ok-add.ensures.other l)
      | inr l ↦ let e : get_or c.args.firsts.now c.loop-i.i 0 ≡ c.loop-i.i = omega arith in ranked_first c.args.firsts.now c.loop-i.i (get_or c.args.firsts.now c.loop-i.i 0) c.loop-i.numbering.of.items c.add.new.self.of.items c.loop-i.numbering.count c.add.new.self.count c.loop-i-test.true refl c.loop-i.invariant e (c.in_ok-add.ensures.first e)
    ]

pub add-requires-clause-next : goal.add-requires-clause-next
add-requires-clause-next c = c.loop-i.invariant.long

pub add-requires-clause-lower : goal.add-requires-clause-lower
add-requires-clause-lower c = c.requires.lower c.loop-i.i c.loop-i-test.true

pub loop-i-init : goal.loop-i-init
loop-i-init c = subst (λ z. IsRanked c.args.firsts.now 0 z 0) (sym c.new.ensures.items) (ranked_none c.args.firsts.now)

pub returns-clause-count : goal.returns-clause-count
returns-clause-count c =
    let i : c.loop-i.i ≡ length c.args.firsts.now = omega arith in
    c.loop-i.invariant.counted ∙ ap (rank (is_root c.args.firsts.now)) i

pub returns-clause-of : goal.returns-clause-of
returns-clause-of c =
    let i : c.loop-i.i ≡ length c.args.firsts.now = omega arith in
    ranked_all c.args.firsts.now c.loop-i.numbering.of.items c.loop-i.numbering.count c.requires.lower
    (subst (λ k. IsRanked c.args.firsts.now k c.loop-i.numbering.of.items c.loop-i.numbering.count) i c.loop-i.invariant)
