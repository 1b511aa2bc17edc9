use Rattle.std.proofs.Common.{Err, ap, arith, false, get_or, refl, rules, subst, sym, ◌-◌, ◌≡◌, ◌∙◌}
use Rattle.bool_cubes.specs.Marked.{own_steps}
use Rattle.bool_cubes.specs.Nodes.{tree_at}
use Rattle.bool_cubes.specs.Past.{tree_steps}
use Rattle.literal_forms.specs.Past.{IsPlainExactly}
use Rattle.literal_forms.specs.PastLaws.{err_kept}
use Rattle.bool_cubes.proofs.Walked.{earlier, walk_end, walk_init, walk_past, walk_skip, walk_step}
use Rattle.bool_cubes.proofs.past.tree.Goals as goal

pub returns-in_err-node : goal.returns-in_err-node
returns-in_err-node c =
    let e : c.from_residual-in_err-node.result ≡ Err c.in_err-node.field-0.0 = search rules in
    let on = ap (λ x. get_or x (c.loop-i.i - 1) false) (sym c.as_slice.ensures) ∙ c.if-as_slice-i.true in
    subst (IsPlainExactly {X = Unit {0}} (tree_steps (tree_at c.args.nodes.now c.args.root))) (sym e)
    (err_kept (Unit {0}) (Unit {0}) (own_steps (get_or c.args.nodes.now (c.loop-i.i - 1) c.index-nodes-i.result).kind) (tree_steps (tree_at c.args.nodes.now c.args.root)) c.in_err-node.field-0.0 (walk_past c.args.nodes.now c.args.root c.loop-i.marks c.loop-i.i (c.loop-i.i - 1) (get_or c.args.nodes.now (c.loop-i.i - 1) c.index-nodes-i.result) c.requires.plan c.requires.root c.loop-i.invariant.bound (omega arith) refl (ap (get_or c.args.nodes.now (c.loop-i.i - 1)) c.index-nodes-i.is) c.loop-i.invariant.walked on) c.in_err-node.ensures)

pub loop-i-preserved-then-as_slice-i : goal.loop-i-preserved-then-as_slice-i
loop-i-preserved-then-as_slice-i c =
    let on = ap (λ x. get_or x (c.loop-i.i - 1) false) (sym c.as_slice.ensures) ∙ c.if-as_slice-i.true in
    record { bound = omega arith; walked = walk_step c.args.nodes.now c.args.root c.loop-i.marks c.loop-i.i (c.loop-i.i - 1) (get_or c.args.nodes.now (c.loop-i.i - 1) c.index-nodes-i.result) c.requires.plan c.requires.root c.loop-i.invariant.bound (omega arith) refl (ap (get_or c.args.nodes.now (c.loop-i.i - 1)) c.index-nodes-i.is) c.loop-i.invariant.walked on c.mark.new.marks c.in_ok-node.ensures c.mark.ensures }

pub loop-i-preserved : goal.loop-i-preserved
loop-i-preserved c =
    let off = ap (λ x. get_or x (c.loop-i.i - 1) false) (sym c.as_slice.ensures) ∙ c.if-as_slice-i.false in
    record { bound = omega arith; walked = walk_skip c.args.nodes.now c.args.root c.loop-i.marks c.loop-i.i (c.loop-i.i - 1) (omega arith) refl c.loop-i.invariant.walked off }

pub returns : goal.returns
returns c = walk_end c.args.nodes.now c.args.root c.loop-i.marks c.loop-i.i (omega arith) c.loop-i.invariant.walked

pub loop-i-init : goal.loop-i-init
loop-i-init c = record { bound = omega arith; walked = walk_init c.args.nodes.now c.args.root c.in_ok-marks.marks c.set.new.self c.in_ok-marks.ensures c.set.ensures }

pub mark-requires : goal.mark-requires
mark-requires c =
    earlier c.args.nodes.now c.args.root c.loop-i.marks c.loop-i.i (c.loop-i.i - 1) (get_or c.args.nodes.now (c.loop-i.i - 1) c.index-nodes-i.result) c.requires.plan c.requires.root c.loop-i.invariant.bound (omega arith) refl
    (ap (get_or c.args.nodes.now (c.loop-i.i - 1)) c.index-nodes-i.is) c.loop-i.invariant.walked
