use Rattle.std.proofs.Common.{sym, subst}
use Rattle.std.proofs.lemmas.Result.{IfOk-weaker}
use Rattle.backward.specs.Made.{IsCut}
use Rattle.backward.specs.Runs.{run_words}
use Rattle.backward.specs.Steps.{IsMadeBy}
use Rattle.backward.proofs.StepLemmas.{gives-comes, made-through, reads-other}
use Rattle.backward.proofs.stepping.lift_by.Goals as goal

pub lift_cut-requires-clause-cut : goal.lift_cut-requires-clause-cut
lift_cut-requires-clause-cut c =
    subst (λ l. IsCut c.args.before.now.machines c.args.x l c.args.cuts.now c.args.after.now) (sym c.as_slice.ensures)
    (subst (λ b. IsMadeBy b c.args.x c.args.cuts.now c.args.before.now.machines c.args.after.now) c.in-Concat.is c.requires.made)

pub read_by-read-requires : goal.read_by-read-requires
read_by-read-requires c = reads-other c.args.by.now c.in_default.not-Concat

pub lift_through-requires-clause-passed : goal.lift_through-requires-clause-passed
lift_through-requires-clause-passed c =
    let m = made-through c.args.by.now c.args.x c.read_by-read.result c.args.cuts.now c.args.before.now.machines c.args.after.now c.read_by-read.ensures c.requires.made in
    (m.0, m.2)

pub returns-in-Concat-clause-defined : goal.returns-in-Concat-clause-defined
returns-in-Concat-clause-defined c = IfOk-weaker c.lift_cut.result _ _ (λ rs h. rw c.in-Concat.is (rw c.as_slice.ensures at h)) c.lift_cut.ensures.defined

pub returns-clause-defined : goal.returns-clause-defined
returns-clause-defined c =
    let m = made-through c.args.by.now c.args.x c.read_by-read.result c.args.cuts.now c.args.before.now.machines c.args.after.now c.read_by-read.ensures c.requires.made in
    IfOk-weaker c.lift_through.result _ _ (λ rs h. gives-comes c.args.by.now c.read_by-read.result c.read_by-read.ensures m.0 m.1 (run_words rs) (run_words rs c.args.x) (h m.0 m.2)) c.lift_through.ensures.defined
