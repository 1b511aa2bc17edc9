use Rattle.std.proofs.Common.{◌<◌, sym, subst}
use Rattle.sv_list.specs.Lists.{slice_get-some}
use Rattle.machine_core.specs.Edges.{EndsAt, StepsBy}
use Rattle.machine_core.specs.RunBounds.{PathsWithin}
use Rattle.machine_core.specs.Counts.{at_most-below}
use Rattle.trim_search.specs.Useful.{AreMarked, StepsMarked}
use Rattle.trim_search.proofs.CountLemmas.{different-few}
use Rattle.trim_search.proofs.LiftLemmas.{lifted-run}
use Rattle.trim_search.proofs.RunBoundLemmas.{explored-within, explored-paths}
use Rattle.trim_search.proofs.TrimLemmas.{marked-run, marked-language, marked-within, marked-paths, number-used}
use Rattle.trim_search.proofs.trimming.trim_named.Goals as goal

pub returns-in-Ok-clause-language : goal.returns-in-Ok-clause-language
returns-in-Ok-clause-language c =
    let m = c.args.machine.now in
    let marked = subst (AreMarked m) (sym c.as_slice.ensures) c.in_ok-marks.ensures in
    marked-language m c.as_slice.result.now marked c.in-Ok.built.machine c.in-Ok.ensures.runs

pub returns-in-Ok-clause-used : goal.returns-in-Ok-clause-used
returns-in-Ok-clause-used c = λ s pos lt.
    let m = c.args.machine.now in
    let built = c.in-Ok.built in
    let marked = subst (AreMarked m) (sym c.as_slice.ensures) c.in_ok-marks.ensures in
    let name = slice_get-some built.names s (subst (λ n. s < n) built.named lt) in
    number-used m c.as_slice.result.now marked built.names built.machine c.in-Ok.ensures.explored c.in-Ok.ensures.distinct s name.0 pos name.1

pub returns-in-Ok-clause-states : goal.returns-in-Ok-clause-states
returns-in-Ok-clause-states c =
    rw c.in-Ok.built.named (different-few (λ s. s < c.args.machine.now.states) c.args.machine.now.states c.in-Ok.built.names (at_most-below c.args.machine.now.states)
    c.in-Ok.ensures.distinct c.in-Ok.ensures.states)

pub returns-in-Ok-clause-runs_within : goal.returns-in-Ok-clause-runs_within
returns-in-Ok-clause-runs_within c = λ register slope base h.
    let m = c.args.machine.now in
    let built = c.in-Ok.built in
    let marked = subst (AreMarked m) (sym c.as_slice.ensures) c.in_ok-marks.ensures in
    explored-within (EndsAt m.ends) (StepsMarked m c.as_slice.result.now) 0 built.names (EndsAt built.machine.ends) (StepsBy built.machine.edges) c.in-Ok.ensures.explored
    (λ s. s < m.states) c.in-Ok.ensures.states built.machine.states built.named register slope base
    (marked-within m c.as_slice.result.now marked register slope base h)

pub returns-in-Ok-clause-paths_within : goal.returns-in-Ok-clause-paths_within
returns-in-Ok-clause-paths_within c = λ register slope base h.
    let m = c.args.machine.now in
    let built = c.in-Ok.built in
    let marked = subst (AreMarked m) (sym c.as_slice.ensures) c.in_ok-marks.ensures in
    subst (λ width. PathsWithin (λ k. k < built.machine.states) width (StepsBy built.machine.edges) register slope base) (sym c.in-Ok.ensures.registers)
    (explored-paths (EndsAt m.ends) (StepsMarked m c.as_slice.result.now) 0 built.names (EndsAt built.machine.ends) (StepsBy built.machine.edges) c.in-Ok.ensures.explored
    (λ s. s < m.states) c.in-Ok.ensures.states built.machine.states built.named m.registers register slope base
    (marked-paths m c.as_slice.result.now marked register slope base h))

pub returns-in-Ok-clause-lifts : goal.returns-in-Ok-clause-lifts
returns-in-Ok-clause-lifts c = λ run lifted r l.
    let m = c.args.machine.now in
    let built = c.in-Ok.built in
    marked-run m c.as_slice.result.now lifted
    (lifted-run (EndsAt m.ends) (StepsMarked m c.as_slice.result.now) 0 built.names (EndsAt built.machine.ends) (StepsBy built.machine.edges) c.in-Ok.ensures.explored run lifted r l)
