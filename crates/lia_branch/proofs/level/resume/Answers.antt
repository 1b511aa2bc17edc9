use Rattle.std.proofs.Common.{◌++◌, [], ◌∷◌, length, length-append, ap, sym, ◌∙◌, refl, subst, arith}
use Rattle.farkas_check.specs.declared.tree.Tree.{Tree}
use Rattle.lia_branch.specs.Forks.{IsClosing}
use Rattle.lia_branch.specs.declared.level.SplitLevel.{SplitLevel}
use Rattle.lia_branch.proofs.Paths.{closing_up, closing_first, closing_top}
use Rattle.lia_branch.proofs.Waiting.{first_counted, second_counted}
use Rattle.lia_branch.proofs.level.resume.Goals as goal

pub up-init : goal.up-init
up-init c = record { closing = λ s left k. k; waiting = refl }

pub returns-in-First-clause-found : goal.returns-in-First-clause-found
returns-in-First-clause-found c = λ s left k.
    closing_first s c.up.levels c.pop.new.self left c.in-First.fork c.in-First.packed c.up.tree (c.in-Some.ensures ∙ ap (λ (l : SplitLevel). c.pop.new.self ++ l ∷ []) c.in-First.is) (c.up.invariant.closing s left k)

pub returns-in-First-clause-less : goal.returns-in-First-clause-less
returns-in-First-clause-less c = c.up.invariant.waiting ∙ first_counted c.up.levels c.pop.new.self c.in-First.fork c.in-First.packed (c.in-Some.ensures ∙ ap (λ (l : SplitLevel). c.pop.new.self ++ l ∷ []) c.in-First.is)

pub up-smaller : goal.up-smaller
up-smaller c = let e = ap length c.in-Some.ensures in omega (arith, e, length-append c.pop.new.self (c.in-Some.level ∷ []))

pub up-preserved : goal.up-preserved
up-preserved c =
    let e = c.in-Some.ensures ∙ ap (λ (l : SplitLevel). c.pop.new.self ++ l ∷ []) c.in-Second.is in
    record {
      closing = λ s left k. subst (λ (w : Tree). IsClosing s c.pop.new.self left w) (sym c.in_ok-tree-in-Second.ensures) (closing_up s c.up.levels c.pop.new.self left c.in-Second.fork c.in-Second.first c.up.tree e (c.up.invariant.closing s left k));
      waiting = c.up.invariant.waiting ∙ second_counted c.up.levels c.pop.new.self c.in-Second.fork c.in-Second.first e;
    }

pub returns-clause-found : goal.returns-clause-found
returns-clause-found c = λ s left k. closing_top s c.up.levels left c.up.tree c.in_default.ensures.0 (c.up.invariant.closing s left k)
