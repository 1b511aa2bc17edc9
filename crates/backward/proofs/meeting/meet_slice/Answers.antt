use Rattle.std.proofs.Common.{map, subst, sym, ap, Err}
use Rattle.machine_core.specs.Runs.{IsRun}
use Rattle.machine_meet.specs.Products.{MeetEnds, MeetSteps, meet_width}
use Rattle.backward.proofs.MeetingLemmas.{IsBuiltOf, AreTwo, meeting-is, slice_ends, slice_steps, slice_first, slice_width}
use Rattle.backward.proofs.KeptLemmas.{both-out}
use Rattle.backward.proofs.meeting.meet_slice.Goals as goal

pub returns-clause-kept : goal.returns-clause-kept
returns-clause-kept c =
    let e = c.in_ok-both.ensures in
    let s = c.in_ok-small.ensures in
    let built = c.in_ok-both.both.machine in
    let two : AreTwo c.of-whole.result c.of-part.result c.args.machine.now c.args.target.now c.args.from c.args.to = record {
      whole = c.of-whole.ensures.target;
      first = c.of-whole.ensures.from;
      last = c.of-whole.ensures.to;
      part = c.of-part.ensures.target;
      begins = c.of-part.ensures.from;
      ends = c.of-part.ensures.to;
      registers = c.requires.registers;
    } in
    record {
      begins = c.requires.from;
      registers = c.requires.registers;
      fits = c.requires.fits;
      meets = meeting-is c.of-whole.result c.of-part.result c.args.machine.now c.args.target.now c.args.from c.args.to two
          c.of-meet.ensures.language built c.in_ok-small.small.machine
          (subst (λ qs. IsBuiltOf qs built) c.of-meet.ensures.parts (record {
            runs = e.runs;
            registers = e.registers;
            states = e.states;
            top = e.top;
            runs_within = e.runs_within;
            paths_within = e.paths_within;
            runs_bounded = c.costs_of_meets_are_bounded.ensures.runs;
            paths_bounded = c.costs_of_meets_are_bounded.ensures.paths;
          }))
          (record {
            language = s.language;
            registers = s.registers;
            used = s.used;
            states = s.states;
            top = s.top;
            runs_within = s.runs_within;
            paths_within = s.paths_within;
          });
      inner = s.lifts;
      pairs = λ run lifted r l. both-out c.of-whole.result c.of-part.result c.args.machine.now c.args.target.now c.args.from c.args.to two lifted
          (subst (λ qs. IsRun (MeetEnds slice_ends (meet_width slice_width qs) qs) (MeetSteps slice_steps (meet_width slice_width qs) qs) (map slice_first qs) lifted) c.of-meet.ensures.parts
          (c.lifted_runs_are_runs.ensures run lifted r l));
    }

pub returns-in_err-both-clause-refused : goal.returns-in_err-both-clause-refused
returns-in_err-both-clause-refused c = λ n e.
    let d = rw e at c.from_residual.ensures.1 in
    (c.in_err-both.ensures.beyond n (ap Err (sym d))).1
