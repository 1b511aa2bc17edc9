use Rattle.std.proofs.Common.{sym, subst}
use Rattle.farkas_check.specs.declared.tree.Tree.{Tree}
use Rattle.lia_branch.specs.Forks.{IsStopping}
use Rattle.lia_branch.specs.declared.stop.StopReason.TheVariants.{Branches}
use Rattle.lia_branch.proofs.Entering.{fork_within, last_split}
use Rattle.lia_branch.proofs.searching.go_down.Goals as goal

pub returns-then-left-eq1-clause-found : goal.returns-then-left-eq1-clause-found
returns-then-left-eq1-clause-found c =
    let k = c.requires.due in
    subst (λ (w : Tree). IsStopping c.args.system.now c.args.levels.now w Branches) (sym c.in_ok-tree.ensures)
    (last_split c.args.system.now c.args.levels.now k.0 c.args.left c.args.tableau c.args.fork k.1.0 k.1.1 c.if-left-eq1.true)

pub descend-requires-clause-within : goal.descend-requires-clause-within
descend-requires-clause-within c =
    let k = c.requires.due in
    fork_within c.args.system.now k.0 c.args.tableau c.args.fork c.requires.ready k.1.1
