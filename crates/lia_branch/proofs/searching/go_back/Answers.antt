use Rattle.std.proofs.Common.{sym, subst}
use Rattle.lia_tableau.specs.declared.table.Table.{Table}
use Rattle.lia_branch.specs.Forks.{IsResumed, ResumedHolds, NextHolds}
use Rattle.lia_branch.proofs.Entering.{fork_within, entered_next}
use Rattle.lia_branch.proofs.searching.go_back.Goals as goal

pub returns-in-Whole-clause-found : goal.returns-in-Whole-clause-found
returns-in-Whole-clause-found c =
    subst (ResumedHolds c.args.system.now c.resume.new.levels c.args.left) c.in-Whole.is (c.in_ok-tree.ensures.found c.args.system.now c.args.left c.requires.closing)

pub unpack-requires : goal.unpack-requires
unpack-requires c =
    let r = subst (ResumedHolds c.args.system.now c.resume.new.levels c.args.left) c.in-Waiting.is (c.in_ok-tree.ensures.found c.args.system.now c.args.left c.requires.closing) in
    (r.0, r.1.0)

pub cross-requires-clause-within : goal.cross-requires-clause-within
cross-requires-clause-within c =
    let r = subst (ResumedHolds c.args.system.now c.resume.new.levels c.args.left) c.in-Waiting.is (c.in_ok-tree.ensures.found c.args.system.now c.args.left c.requires.closing) in
    let w = subst (λ (z : Table). IsResumed c.args.system.now c.resume.new.levels c.args.left z c.in-Waiting.fork c.in-Waiting.tree) (sym (c.in_ok-waiting-in-Waiting.ensures r.0 r.1.0)) r.1.1 in
    fork_within c.args.system.now w.node c.in_ok-waiting-in-Waiting.waiting c.in-Waiting.fork w.waiting.ready w.waiting.at

pub cross-requires-clause-ready : goal.cross-requires-clause-ready
cross-requires-clause-ready c =
    let r = subst (ResumedHolds c.args.system.now c.resume.new.levels c.args.left) c.in-Waiting.is (c.in_ok-tree.ensures.found c.args.system.now c.args.left c.requires.closing) in
    let w = subst (λ (z : Table). IsResumed c.args.system.now c.resume.new.levels c.args.left z c.in-Waiting.fork c.in-Waiting.tree) (sym (c.in_ok-waiting-in-Waiting.ensures r.0 r.1.0)) r.1.1 in
    w.waiting.ready

pub returns-in_ok-entered-in-Waiting-clause-found : goal.returns-in_ok-entered-in-Waiting-clause-found
returns-in_ok-entered-in-Waiting-clause-found c =
    let r = subst (ResumedHolds c.args.system.now c.resume.new.levels c.args.left) c.in-Waiting.is (c.in_ok-tree.ensures.found c.args.system.now c.args.left c.requires.closing) in
    let w = subst (λ (z : Table). IsResumed c.args.system.now c.resume.new.levels c.args.left z c.in-Waiting.fork c.in-Waiting.tree) (sym (c.in_ok-waiting-in-Waiting.ensures r.0 r.1.0)) r.1.1 in
    subst (NextHolds c.args.system.now c.cross.new.levels) (sym c.next.ensures)
    (entered_next c.args.system.now c.cross.new.levels c.args.left c.in_ok-entered-in-Waiting.entered (c.in_ok-entered-in-Waiting.ensures.found c.args.left c.requires.left w))
