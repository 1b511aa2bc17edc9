use Rattle.std.proofs.Common.{sym, subst, arith}
use Rattle.std.specs.List.{AllByRecursion}
use Rattle.sv_terms.specs.Truth.{opaque_of}
use Rattle.decide.specs.Batches.{AreAnswersOf}
use Rattle.decide.specs.Jobs.{IsAskedCube, IsFoldOf}
use Rattle.decide.proofs.Going.{asked-left, asked-over, start, ended, fewer-left, go-over, left-behind, no-more-over, pass-room, room, went-on}
use Rattle.decide.proofs.checking.answer_all.Goals as goal

pub loop-tally-init : goal.loop-tally-init
loop-tally-init g c = (start c.args.shared.now.terms.now c.args.cubes c.new-tally.result (c.new-tally.ensures (opaque_of c.args.shared.now.terms.now) c.in_ok-first_opaque.ensures), c.requires.asked)

pub tally_all-requires : goal.tally_all-requires
tally_all-requires g c =
    room c.args.shared.now.terms.now c.args.cubes c.loop-tally.cubes c.next_batch.new.cubes c.in_ok-jobs.jobs c.in_ok-outcomes.outcomes.items c.loop-tally.tally c.loop-tally.invariant.0 c.in_ok-jobs.ensures.taken
    (subst (λ js. AreAnswersOf js c.in_ok-outcomes.outcomes.items) c.as_slice.ensures c.in_ok-outcomes.ensures) c.requires.few

pub returns-then-ends : goal.returns-then-ends
returns-then-ends g c =
    subst (IsFoldOf c.args.shared.now.terms.now c.args.cubes) (sym c.into_verdict.ensures)
    (ended c.args.shared.now.terms.now c.args.cubes c.loop-tally.cubes c.next_batch.new.cubes c.in_ok-jobs.jobs c.in_ok-outcomes.outcomes.items c.loop-tally.tally c.tally_all.new.tally c.loop-tally.invariant.0 c.in_ok-jobs.ensures.taken
    (subst (λ js. AreAnswersOf js c.in_ok-outcomes.outcomes.items) c.as_slice.ensures c.in_ok-outcomes.ensures) c.in_ok-tally_all.ensures c.in_ok-jobs.ensures.size c.len.result c.len.ensures c.ends.result c.ends.ensures c.if-ends.true)

pub pass_over-requires-clause-asked : goal.pass_over-requires-clause-asked
pass_over-requires-clause-asked g c = subst (AllByRecursion (IsAskedCube c.args.shared.now.terms.now)) c.requires.cubes c.requires.asked

pub pass_over-requires-clause-left : goal.pass_over-requires-clause-left
pass_over-requires-clause-left g c =
    sym (left-behind c.args.shared.now.terms.now c.args.clear.now c.args.cubes c.next_batch.new.cubes c.tally_all.new.tally
    (went-on c.args.shared.now.terms.now c.args.cubes c.loop-tally.cubes c.next_batch.new.cubes c.in_ok-jobs.jobs c.in_ok-outcomes.outcomes.items c.loop-tally.tally c.tally_all.new.tally c.loop-tally.invariant.0 c.in_ok-jobs.ensures.taken
    (subst (λ js. AreAnswersOf js c.in_ok-outcomes.outcomes.items) c.as_slice.ensures c.in_ok-outcomes.ensures) c.in_ok-tally_all.ensures c.in_ok-jobs.ensures.size c.len.result c.len.ensures c.ends.result c.ends.ensures c.if-ends.false) c.requires.cubes)

pub pass_over-requires-clause-room : goal.pass_over-requires-clause-room
pass_over-requires-clause-room g c =
    pass-room c.args.shared.now.terms.now c.args.clear.now c.args.cubes c.next_batch.new.cubes c.tally_all.new.tally
    (went-on c.args.shared.now.terms.now c.args.cubes c.loop-tally.cubes c.next_batch.new.cubes c.in_ok-jobs.jobs c.in_ok-outcomes.outcomes.items c.loop-tally.tally c.tally_all.new.tally c.loop-tally.invariant.0 c.in_ok-jobs.ensures.taken
    (subst (λ js. AreAnswersOf js c.in_ok-outcomes.outcomes.items) c.as_slice.ensures c.in_ok-outcomes.ensures) c.in_ok-tally_all.ensures c.in_ok-jobs.ensures.size c.len.result c.len.ensures c.ends.result c.ends.ensures c.if-ends.false) c.requires.cubes c.requires.few

pub loop-tally-smaller : goal.loop-tally-smaller
loop-tally-smaller g c =
    let first = fewer-left c.args.shared.now.terms.now c.args.cubes c.loop-tally.cubes c.next_batch.new.cubes c.in_ok-jobs.jobs c.in_ok-outcomes.outcomes.items c.loop-tally.tally c.tally_all.new.tally c.loop-tally.invariant.0 c.in_ok-jobs.ensures.taken
    (subst (λ js. AreAnswersOf js c.in_ok-outcomes.outcomes.items) c.as_slice.ensures c.in_ok-outcomes.ensures) c.in_ok-tally_all.ensures c.in_ok-jobs.ensures.size c.len.result c.len.ensures c.ends.result c.ends.ensures c.if-ends.false in
    let more = no-more-over c.args.clear.now c.next_batch.new.cubes c.tally_all.new.tally c.pass_over.new.cubes c.pass_over.new.tally c.in_ok-pass_over.ensures in
    omega (arith, first, more)

pub loop-tally-preserved : goal.loop-tally-preserved
loop-tally-preserved g c =
    let u = went-on c.args.shared.now.terms.now c.args.cubes c.loop-tally.cubes c.next_batch.new.cubes c.in_ok-jobs.jobs c.in_ok-outcomes.outcomes.items c.loop-tally.tally c.tally_all.new.tally c.loop-tally.invariant.0 c.in_ok-jobs.ensures.taken
    (subst (λ js. AreAnswersOf js c.in_ok-outcomes.outcomes.items) c.as_slice.ensures c.in_ok-outcomes.ensures) c.in_ok-tally_all.ensures c.in_ok-jobs.ensures.size c.len.result c.len.ensures c.ends.result c.ends.ensures c.if-ends.false in (
      go-over c.args.shared.now.terms.now c.args.clear.now c.args.cubes c.next_batch.new.cubes c.tally_all.new.tally u c.requires.cubes c.pass_over.new.cubes c.pass_over.new.tally c.in_ok-pass_over.ensures,
      asked-over c.args.clear.now c.next_batch.new.cubes c.tally_all.new.tally c.pass_over.new.cubes c.pass_over.new.tally c.in_ok-pass_over.ensures c.args.shared.now.terms.now
          (asked-left c.args.shared.now.terms.now c.in_ok-jobs.jobs c.loop-tally.cubes c.next_batch.new.cubes c.in_ok-jobs.ensures.taken c.loop-tally.invariant.1),
    )
