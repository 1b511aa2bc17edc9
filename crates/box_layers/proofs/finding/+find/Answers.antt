use Rattle.std.proofs.Common.{rules, ◌≡◌, ◌∙◌, ◌<◌, ℤ, pos, ◌+ℤ◌, FitsSigned, List, map, slice_set, Some, None, subst, sym, arith}
use Rattle.std.specs.Int.{w128}
use Rattle.std.proofs.lemmas.Int.{to_z-of_z}
use Rattle.std.proofs.lemmas.Result.{IfOk-weaker}
use Rattle.search_hits.specs.Regions.{AreWithin}
use Rattle.search_hits.specs.Boxes.{MeetAll, IsBox, IsPointFound}
use Rattle.box_layers.proofs.FindLemmas.{widths}
use Rattle.box_layers.proofs.HalfLemmas.{side-below, lower-within, below-box, above-box, below-widths, above-widths, below-found, upper-found}
use Rattle.box_layers.proofs.finding.+find.Goals as goal

pub returns-in_default : goal.returns-in_default
returns-in_default t c =
    let within = lower-within c.args.sides.now c.requires.some in
    subst (λ (point : List ℤ). AreWithin c.args.sides.now point × MeetAll c.args.rows.now point) (sym c.in_ok-lower_ends.ensures)
    (within, c.may_meet.ensures.point c.if-not-may_meet.false c.in_default.ensures (map (λ (s : ℤ × ℤ). s.0) c.args.sides.now) within)

pub side_at-low-requires : goal.side_at-low-requires
side_at-low-requires t c = side-below c.args.sides.now c.in-Some.at c.in-Some.ensures.0 c.in-Some.ensures.1

pub with_side-requires : goal.with_side-requires
with_side-requires t c = side-below c.args.sides.now c.in-Some.at c.in-Some.ensures.0 c.in-Some.ensures.1

pub find-requires : goal.find-requires
find-requires t c =
    let fl : FitsSigned w128 c.side_at-low.result.0 = search rules in
    let fh : FitsSigned w128 c.side_at-low.result.1 = search rules in
    let fm : FitsSigned w128 c.middle-half.result = record { sfits = c.middle-half.type_inv } in
    let a = rw (to_z-of_z w128 c.side_at-low.result.0 fl) at c.middle-half.ensures.low in
    let b = rw (to_z-of_z w128 c.side_at-low.result.1 fh) at c.middle-half.ensures.high in
    let e : c.as_slice.result.now ≡ slice_set c.args.sides.now c.in-Some.at (c.side_at-low.result.0, c.middle-half.result) = c.as_slice.ensures ∙ (rw (to_z-of_z w128 c.side_at-low.result.0 fl, to_z-of_z w128 c.middle-half.result fm) at c.in_ok-below.ensures) in
    let w = subst (λ l. widths l < widths c.args.sides.now) (sym e) (below-widths c.args.rows.now c.args.sides.now c.requires c.in-Some.at c.side_at-low.result.0 c.side_at-low.result.1 c.side_at-low.ensures c.middle-half.result a b) in
    (omega (arith, w, c.decreases), subst (IsBox c.args.rows.now) (sym e) (below-box c.args.rows.now c.args.sides.now c.requires c.in-Some.at c.side_at-low.result.0 c.side_at-low.result.1 c.side_at-low.ensures c.middle-half.result a b))

pub returns-in-Some-2 : goal.returns-in-Some-2
returns-in-Some-2 t c =
    let fl : FitsSigned w128 c.side_at-low.result.0 = search rules in
    let fh : FitsSigned w128 c.side_at-low.result.1 = search rules in
    let fm : FitsSigned w128 c.middle-half.result = record { sfits = c.middle-half.type_inv } in
    let a = rw (to_z-of_z w128 c.side_at-low.result.0 fl) at c.middle-half.ensures.low in
    let b = rw (to_z-of_z w128 c.side_at-low.result.1 fh) at c.middle-half.ensures.high in
    let e : c.as_slice.result.now ≡ slice_set c.args.sides.now c.in-Some.at (c.side_at-low.result.0, c.middle-half.result) = c.as_slice.ensures ∙ (rw (to_z-of_z w128 c.side_at-low.result.0 fl, to_z-of_z w128 c.middle-half.result fm) at c.in_ok-below.ensures) in
    let h = subst (IsPointFound c.args.rows.now c.as_slice.result.now) c.in-Some-2.is c.in_ok-point.ensures in
    below-found c.args.rows.now c.args.sides.now c.requires c.in-Some.at c.side_at-low.result.0 c.side_at-low.result.1 c.side_at-low.ensures c.middle-half.result a b c.in-Some-2.point (subst (λ l. IsPointFound c.args.rows.now l (Some c.in-Some-2.point)) e h)

pub with_side-requires-2 : goal.with_side-requires-2
with_side-requires-2 t c = side-below c.args.sides.now c.in-Some.at c.in-Some.ensures.0 c.in-Some.ensures.1

pub find-requires-2 : goal.find-requires-2
find-requires-2 t c =
    let fl : FitsSigned w128 c.side_at-low.result.0 = search rules in
    let fh : FitsSigned w128 c.side_at-low.result.1 = search rules in
    let fm : FitsSigned w128 c.middle-half.result = record { sfits = c.middle-half.type_inv } in
    let a = rw (to_z-of_z w128 c.side_at-low.result.0 fl) at c.middle-half.ensures.low in
    let b = rw (to_z-of_z w128 c.side_at-low.result.1 fh) at c.middle-half.ensures.high in
    let fn : FitsSigned w128 (c.middle-half.result +ℤ pos 1) = search rules in
    let g : c.as_slice-2.result.now ≡ slice_set c.args.sides.now c.in-Some.at (c.middle-half.result +ℤ pos 1, c.side_at-low.result.1) = c.as_slice-2.ensures ∙ (rw (to_z-of_z w128 c.middle-half.result fm, to_z-of_z w128 (c.middle-half.result +ℤ pos 1) fn, to_z-of_z w128 c.side_at-low.result.1 fh) at c.in_ok-above.ensures) in
    let w = subst (λ l. widths l < widths c.args.sides.now) (sym g) (above-widths c.args.rows.now c.args.sides.now c.requires c.in-Some.at c.side_at-low.result.0 c.side_at-low.result.1 c.side_at-low.ensures c.middle-half.result a b) in
    (omega (arith, w, c.decreases), subst (IsBox c.args.rows.now) (sym g) (above-box c.args.rows.now c.args.sides.now c.requires c.in-Some.at c.side_at-low.result.0 c.side_at-low.result.1 c.side_at-low.ensures c.middle-half.result a b))

pub returns : goal.returns
returns t c =
    let fl : FitsSigned w128 c.side_at-low.result.0 = search rules in
    let fh : FitsSigned w128 c.side_at-low.result.1 = search rules in
    let fm : FitsSigned w128 c.middle-half.result = record { sfits = c.middle-half.type_inv } in
    let a = rw (to_z-of_z w128 c.side_at-low.result.0 fl) at c.middle-half.ensures.low in
    let b = rw (to_z-of_z w128 c.side_at-low.result.1 fh) at c.middle-half.ensures.high in
    let e : c.as_slice.result.now ≡ slice_set c.args.sides.now c.in-Some.at (c.side_at-low.result.0, c.middle-half.result) = c.as_slice.ensures ∙ (rw (to_z-of_z w128 c.side_at-low.result.0 fl, to_z-of_z w128 c.middle-half.result fm) at c.in_ok-below.ensures) in
    let fn : FitsSigned w128 (c.middle-half.result +ℤ pos 1) = search rules in
    let g : c.as_slice-2.result.now ≡ slice_set c.args.sides.now c.in-Some.at (c.middle-half.result +ℤ pos 1, c.side_at-low.result.1) = c.as_slice-2.ensures ∙ (rw (to_z-of_z w128 c.middle-half.result fm, to_z-of_z w128 (c.middle-half.result +ℤ pos 1) fn, to_z-of_z w128 c.side_at-low.result.1 fh) at c.in_ok-above.ensures) in
    let low = subst (λ l. IsPointFound c.args.rows.now l None) e (subst (IsPointFound c.args.rows.now c.as_slice.result.now) c.in_default-2.is c.in_ok-point.ensures) in
    IfOk-weaker c.find-2.result (IsPointFound c.args.rows.now c.as_slice-2.result.now) (IsPointFound c.args.rows.now c.args.sides.now)
    (λ found h. upper-found c.args.rows.now c.args.sides.now c.requires c.in-Some.at c.side_at-low.result.0 c.side_at-low.result.1 c.side_at-low.ensures c.middle-half.result a b found low
    (subst (λ l. IsPointFound c.args.rows.now l found) g h))
    c.find-2.ensures
