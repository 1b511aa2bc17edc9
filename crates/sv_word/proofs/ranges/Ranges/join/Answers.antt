use Rattle.std.proofs.Common.{◌≤◌, ◌||◌, ◌⊎◌, [], length, inl, inr, ap, ◌∙◌, arith}
use Rattle.std.proofs.lemmas.List.{take_rest}
use Rattle.sv_word.proofs.Apart.{apart-ends}
use Rattle.sv_word.proofs.JoinLemmas.{IsJoining, joining-left-at, joining-right-at, joining-done, joining-exact}
use Rattle.sv_word.specs.Ranges.{in_ranges}
use Rattle.sv_word.proofs.ranges.Ranges.join.Goals as goal
use Rattle.sv_word.proofs.ranges.Ranges.join.Goals.{then-loop-i-test+else-j-right, else-loop-i-test}

pub push_joined-requires : goal.push_joined-requires
push_joined-requires c = apart-ends 0 c.loop-i.pairs.items c.loop-i.invariant.joining.out_apart

pub loop-i-preserved-then-left-i : goal.loop-i-preserved-then-left-i
loop-i-preserved-then-left-i c =
    let inv = c.loop-i.invariant in
    record {
      left_room = omega arith;
      right_room = inv.right_room;
      joining = rw c.in_ok-push_joined.ensures (joining-left-at c.as_slice-left.result.now c.as_slice-right.result.now c.loop-i.pairs.items c.loop-i.i c.loop-i.j inv.joining (omega arith) (omega arith) c.if-left-i.true);
    }

pub push_joined-requires-else-left-i : goal.push_joined-requires-else-left-i
push_joined-requires-else-left-i c = apart-ends 0 c.loop-i.pairs.items c.loop-i.invariant.joining.out_apart

pub loop-i-preserved : goal.loop-i-preserved
loop-i-preserved c =
    let inv = c.loop-i.invariant in
    record {
      left_room = inv.left_room;
      right_room = omega arith;
      joining = rw c.in_ok-push_joined-2.ensures (joining-right-at c.as_slice-left.result.now c.as_slice-right.result.now c.loop-i.pairs.items c.loop-i.i c.loop-i.j inv.joining (omega arith) (omega arith) c.if-left-i.false);
    }

pub push_each-requires-clause-old : goal.push_each-requires-clause-old
push_each-requires-clause-old c = apart-ends 0 c.loop-i.pairs.items c.loop-i.invariant.joining.out_apart

pub push_each-requires-clause-more : goal.push_each-requires-clause-more
push_each-requires-clause-more c =
    rw (take_rest c.as_slice-left.result.now c.loop-i.i) (apart-ends _ _ c.loop-i.invariant.joining.x_apart)

pub push_each-requires-2-clause-more : goal.push_each-requires-2-clause-more
push_each-requires-2-clause-more c =
    rw (take_rest c.as_slice-right.result.now c.loop-i.j) (apart-ends _ _ c.loop-i.invariant.joining.y_apart)

joined : (c : goal.In_ok-push_each-2) → IsJoining c.as_slice-left.result.now c.as_slice-right.result.now c.push_each-2.new.pairs.items [] []
joined c =
    let past : (length c.as_slice-left.result.now ≤ c.loop-i.i) ⊎ (length c.as_slice-right.result.now ≤ c.loop-i.j) =
    elim c.loop-i-test.branch [ then-loop-i-test+else-j-right w ↦ inr (w.if-j-right.false) | else-loop-i-test w ↦ inl (w.loop-i-test.false) ] in
    rw (c.in_ok-push_each-2.ensures.joined, c.in_ok-push_each.ensures.joined, take_rest c.as_slice-left.result.now c.loop-i.i, take_rest c.as_slice-right.result.now c.loop-i.j)
    (joining-done c.as_slice-left.result.now c.as_slice-right.result.now c.loop-i.pairs.items c.loop-i.i c.loop-i.j c.loop-i.invariant.joining past)

pub invariant_of-result : goal.invariant_of-result
invariant_of-result c = (joined c).out_apart

pub returns : goal.returns
returns c d =
    joining-exact c.as_slice-left.result.now c.as_slice-right.result.now c.push_each-2.new.pairs.items (joined c) d
    ∙ ap (λ l. in_ranges l d || in_ranges c.as_slice-right.result.now d) (c.as_slice-left.ensures ∙ c.self.view_is)
    ∙ ap (λ l. in_ranges c.args.self.now d || in_ranges l d) (c.as_slice-right.ensures ∙ c.other.view_is)
