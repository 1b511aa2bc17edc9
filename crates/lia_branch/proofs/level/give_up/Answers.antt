use Rattle.std.proofs.Common.{◌++◌, [], ◌∷◌, length, length-append, ap, sym, ◌∙◌, refl, subst, arith}
use Rattle.farkas_check.specs.declared.tree.Tree.{Tree}
use Rattle.lia_branch.specs.Nodes.{root_of}
use Rattle.lia_branch.specs.EvidenceHolds.{split_limit}
use Rattle.lia_branch.specs.Founds.{IsNodeStop}
use Rattle.lia_branch.specs.declared.level.SplitLevel.{SplitLevel}
use Rattle.lia_branch.specs.Forks.{IsStopping}
use Rattle.lia_branch.proofs.Paths.{stopping_first, stopping_second, stopping_top}
use Rattle.lia_branch.proofs.level.give_up.Goals as goal
use Rattle.lia_branch.proofs.level.give_up.Goals.{in-First+in_ok-tree-in-First, in-Second+in_ok-tree-in-Second}

pub up-init : goal.up-init
up-init c = record { stopping = λ s k. k; same = refl }

pub up-smaller : goal.up-smaller
up-smaller c = let e = ap length c.in-Some.ensures in omega (arith, e, length-append c.pop.new.self (c.in-Some.level ∷ []))

pub up-preserved : goal.up-preserved
up-preserved c = record {
  stopping = λ s k.
      elim c.match-level.branch [
        | in-First+in_ok-tree-in-First w ↦
            subst (λ (x : Tree). IsStopping s c.pop.new.self x c.args.stop) (sym (w.tree-is ∙ w.in_ok-tree-in-First.ensures))
            (stopping_first s c.up.levels c.pop.new.self w.in-First.fork w.in-First._packed c.up.tree c.args.stop (c.in-Some.ensures ∙ ap (λ (l : SplitLevel). c.pop.new.self ++ l ∷ []) w.in-First.is) (c.up.invariant.stopping s k))
        | in-Second+in_ok-tree-in-Second w ↦
            subst (λ (x : Tree). IsStopping s c.pop.new.self x c.args.stop) (sym (w.tree-is ∙ w.in_ok-tree-in-Second.ensures))
            (stopping_second s c.up.levels c.pop.new.self w.in-Second.fork w.in-Second.first c.up.tree c.args.stop (c.in-Some.ensures ∙ ap (λ (l : SplitLevel). c.pop.new.self ++ l ∷ []) w.in-Second.is) (c.up.invariant.stopping s k))
      ];
  same = c.up.invariant.same;
}

pub returns : goal.returns
returns c = λ s node left p h.
    let k = stopping_top s c.up.levels c.up.tree c.args.stop c.in_default.ensures.0 (c.up.invariant.stopping s (record { node = node; left = left; path = p; stops = h })) in
    c.evidence.ensures s (subst (λ x. IsNodeStop (root_of s) split_limit c.up.tree x) (sym c.up.invariant.same) k)
