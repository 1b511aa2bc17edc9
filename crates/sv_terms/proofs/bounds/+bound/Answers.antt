use Rattle.std.proofs.Common.{◌+◌, ◌*◌, ◌^◌, ◌∙◌, min, map, take, sym, ap, arith}
use Rattle.sv_terms.specs.Bounds.{size, bound_of, from_left, in_turn_size, choice_size, both_size, without_size}
use Rattle.sv_terms.specs.CutOff.{cut_off, cut-add, cut-suc, cut-mul, cut-power}
use Rattle.sv_terms.specs.BoundLaws.{size-Concat, size-Union, size-Inter, size-Diff, size-Star, size-Plus, size-Opt, size-Comp, size-more}
use Rattle.sv_terms.proofs.bounds.+bound.Goals as goal

pub bound-returns-in-Concat : goal.bound-returns-in-Concat
bound-returns-in-Concat t c =
    c.in_turn.ensures ∙ ap (λ rs. cut_off (from_left in_turn_size (map size rs))) c.as_slice.ensures ∙ ap cut_off (sym (size-Concat c.in-Concat.rs)) ∙ ap bound_of (sym c.in-Concat.is)

pub bound-returns-in-Union : goal.bound-returns-in-Union
bound-returns-in-Union t c =
    c.choice.ensures ∙ ap (λ rs. cut_off (from_left choice_size (map size rs))) c.as_slice-in-Union.ensures ∙ ap cut_off (sym (size-Union c.in-Union.rs)) ∙ ap bound_of (sym c.in-Union.is)

pub bound-returns-in-Inter : goal.bound-returns-in-Inter
bound-returns-in-Inter t c =
    c.both.ensures ∙ ap (λ rs. cut_off (from_left both_size (map size rs))) c.as_slice-in-Inter.ensures ∙ ap cut_off (sym (size-Inter c.in-Inter.rs)) ∙ ap bound_of (sym c.in-Inter.is)

pub bound-returns-in-Diff : goal.bound-returns-in-Diff
bound-returns-in-Diff t c =
    c.without.ensures ∙ ap (λ rs. cut_off (from_left without_size (map size rs))) c.as_slice-in-Diff.ensures ∙ ap cut_off (sym (size-Diff c.in-Diff.rs)) ∙ ap bound_of (sym c.in-Diff.is)

pub bound-returns-in-Star : goal.bound-returns-in-Star
bound-returns-in-Star t c =
    c.saturating_add-in-Star.ensures ∙ ap (λ n. min (n + 1) 18446744073709551615) (c.bound.ensures ∙ ap bound_of c.get.ensures)
    ∙ cut-suc 18446744073709551615 (size c.in-Star.r) 1 ∙ ap cut_off (sym (size-Star c.in-Star.r)) ∙ ap bound_of (sym c.in-Star.is)

pub bound-returns-in-Opt : goal.bound-returns-in-Opt
bound-returns-in-Opt t c =
    c.saturating_add-in-Opt.ensures ∙ ap (λ n. min (n + 1) 18446744073709551615) (c.bound-in-Opt.ensures ∙ ap bound_of c.get-in-Opt.ensures)
    ∙ cut-suc 18446744073709551615 (size c.in-Opt.r) 1 ∙ ap cut_off (sym (size-Opt c.in-Opt.r)) ∙ ap bound_of (sym c.in-Opt.is)

pub bound-returns-in-Plus : goal.bound-returns-in-Plus
bound-returns-in-Plus t c =
    c.bound-in-Plus.ensures ∙ ap bound_of c.get-in-Plus.ensures ∙ ap cut_off (sym (size-Plus c.in-Plus.r)) ∙ ap bound_of (sym c.in-Plus.is)

pub bound-returns-in-Comp : goal.bound-returns-in-Comp
bound-returns-in-Comp t c =
    c.power_of_two.ensures ∙ ap (λ k. cut_off (2 ^ k)) (c.bound-in-Comp.ensures ∙ ap bound_of c.get-in-Comp.ensures)
    ∙ cut-power 18446744073709551615 (size c.in-Comp.r) ∙ ap cut_off (sym (size-Comp c.in-Comp.r)) ∙ ap bound_of (sym c.in-Comp.is)

pub in_turn-loop-i-preserved : goal.in_turn-loop-i-preserved
in_turn-loop-i-preserved t c =
    let a = from_left in_turn_size (map size (take c.loop-i.i c.args.rs.now)) in
    let b = size c.index-rs-i.result in
    c.saturating_add-n.ensures ∙ ap (λ x. min (x + c.bound.result) 18446744073709551615) c.loop-i.invariant ∙ ap (λ y. min (cut_off a + y) 18446744073709551615) c.bound.ensures
    ∙ cut-add 18446744073709551615 a b
    ∙ ap cut_off (sym (size-more in_turn_size c.args.rs.now c.loop-i.i c.index-rs-i.result c.loop-i.auto.i c.loop-i-test.true c.index-rs-i.is))

pub choice-loop-i-preserved : goal.choice-loop-i-preserved
choice-loop-i-preserved t c =
    let a = from_left choice_size (map size (take c.loop-i.i c.args.rs.now)) in
    let b = size c.index-rs-i.result in
    c.saturating_add-n.ensures ∙ ap (λ x. min (x + 1) 18446744073709551615)
    (c.saturating_add.ensures ∙ ap (λ x. min (x + c.bound.result) 18446744073709551615) c.loop-i.invariant ∙ ap (λ y. min (cut_off a + y) 18446744073709551615) c.bound.ensures
    ∙ cut-add 18446744073709551615 a b)
    ∙ cut-suc 18446744073709551615 (a + b) 1
    ∙ ap cut_off (sym (size-more choice_size c.args.rs.now c.loop-i.i c.index-rs-i.result c.loop-i.auto.i c.loop-i-test.true c.index-rs-i.is))

pub both-loop-i-preserved : goal.both-loop-i-preserved
both-loop-i-preserved t c =
    let a = from_left both_size (map size (take c.loop-i.i c.args.rs.now)) in
    let b = size c.index-rs-i.result in
    c.saturating_mul-n.ensures ∙ ap (λ x. min (x * c.bound.result) 18446744073709551615) c.loop-i.invariant ∙ ap (λ y. min (cut_off a * y) 18446744073709551615) c.bound.ensures
    ∙ cut-mul 18446744073709551615 a b (omega arith)
    ∙ ap cut_off (sym (size-more both_size c.args.rs.now c.loop-i.i c.index-rs-i.result c.loop-i.auto.i c.loop-i-test.true c.index-rs-i.is))

pub without-loop-i-preserved : goal.without-loop-i-preserved
without-loop-i-preserved t c =
    let a = from_left without_size (map size (take c.loop-i.i c.args.rs.now)) in
    let b = size c.index-rs-i.result in
    c.saturating_mul-n.ensures ∙ ap (λ x. min (x * c.power_of_two.result) 18446744073709551615) c.loop-i.invariant
    ∙ ap (λ y. min (cut_off a * y) 18446744073709551615)
    (c.power_of_two.ensures ∙ ap (λ k. cut_off (2 ^ k)) c.bound.ensures ∙ cut-power 18446744073709551615 b)
    ∙ cut-mul 18446744073709551615 a (2 ^ b) (omega arith)
    ∙ ap cut_off (sym (size-more without_size c.args.rs.now c.loop-i.i c.index-rs-i.result c.loop-i.auto.i c.loop-i-test.true c.index-rs-i.is))
