use Rattle.std.proofs.Common.{ℕ, ◌+◌, take, get_or, refl, sym, subst}
use Rattle.subset_machine.specs.Groups.{AreGroups}
use Rattle.subset_machine.proofs.GroupLemmas.{groups-none, groups-more, groups-skip, groups-done}
use Rattle.subset_machine.proofs.groups.group.Goals as goal
use Rattle.subset_machine.proofs.groups.group.Goals.{then-is_wanted+in_ok-put, else-is_wanted}

pub loop-mark-init : goal.loop-mark-init
loop-mark-init c = groups-none c.args.marks.now c.args.hits.now c.args.dead c.new-groups.result c.new-groups.ensures.empty

pub loop-mark-preserved : goal.loop-mark-preserved
loop-mark-preserved c =
    let marks = c.args.marks.now in
    let hits = c.args.hits.now in
    let i = c.loop-mark.mark-index in
    let none : ℕ × ℕ = (0, 0) in
    let mark = get_or marks i none in
    let next = c.in_ok-next.next in
    let old = c.loop-mark.groups in
    elim c.if-is_wanted.branch [
      | then-is_wanted+in_ok-put w ↦ subst (AreGroups (take (i + 1) marks) hits c.args.dead) (sym w.groups-is)
          (groups-more marks hits c.args.dead i mark none c.loop-mark-test.true refl old w.put.new.groups next
          (c.in_ok-next.ensures, c.is_wanted.ensures.0 w.if-is_wanted.true) w.in_ok-put.ensures c.loop-mark.invariant)
      | else-is_wanted w ↦ subst (AreGroups (take (i + 1) marks) hits c.args.dead) (sym w.groups-is)
          (groups-skip marks hits c.args.dead i mark none c.loop-mark-test.true refl old next c.in_ok-next.ensures
          (λ h. let yes = c.is_wanted.ensures.1 h in let not = w.if-is_wanted.false in cc) c.loop-mark.invariant)
    ]

pub returns : goal.returns
returns c = groups-done c.args.marks.now c.args.hits.now c.args.dead c.loop-mark.mark-index c.loop-mark.groups c.loop-mark-test.false c.loop-mark.invariant
