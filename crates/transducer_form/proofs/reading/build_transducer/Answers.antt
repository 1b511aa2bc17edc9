use Rattle.std.proofs.Common.{rules, refl}
use Rattle.std.proofs.lemmas.Result.{err_from_is_err_and}
use Rattle.transducer_form.specs.Written as w
use Rattle.transducer_form.proofs.Limits.{states-past, edges-past, ends-past, names-few, names-fault, described-is}
use Rattle.transducer_form.proofs.reading.build_transducer.Goals as goal

pub returns-then-description-gt-MOST_TRANSDUCER_STATES : goal.returns-then-description-gt-MOST_TRANSDUCER_STATES
returns-then-description-gt-MOST_TRANSDUCER_STATES c = states-past (w.description_seen c.args.description.now) c.args.description.now.states.now c.args.description.now.edges.now c.args.description.now.ends.now refl refl refl (search rules)

pub returns-then-description-gt-MOST_TRANSDUCER_EDGES : goal.returns-then-description-gt-MOST_TRANSDUCER_EDGES
returns-then-description-gt-MOST_TRANSDUCER_EDGES c = edges-past (w.description_seen c.args.description.now) c.args.description.now.states.now c.args.description.now.edges.now c.args.description.now.ends.now refl refl refl (search rules) (search rules)

pub returns-then-description-gt-MOST_TRANSDUCER_ENDS : goal.returns-then-description-gt-MOST_TRANSDUCER_ENDS
returns-then-description-gt-MOST_TRANSDUCER_ENDS c = ends-past (w.description_seen c.args.description.now) c.args.description.now.states.now c.args.description.now.edges.now c.args.description.now.ends.now refl refl refl (search rules) (search rules) (search rules)

pub returns-in_err-states : goal.returns-in_err-states
returns-in_err-states c =
    let exit = err_from_is_err_and c.from_residual.result c.from_residual.ensures.1 in
    rw (exit.1, exit.2) (names-fault (w.description_seen c.args.description.now) c.args.description.now.states.now c.args.description.now.edges.now c.args.description.now.ends.now refl refl refl (search rules) (search rules) (search rules) c.in_err-states.field-0.0 c.in_err-states.ensures)

pub build_over-requires-clause-names : goal.build_over-requires-clause-names
build_over-requires-clause-names c = names-few (w.description_seen c.args.description.now) c.args.description.now.states.now c.args.description.now.edges.now c.args.description.now.ends.now refl refl refl (search rules) c.in_ok-states.states.keys c.in_ok-states.ensures

pub returns : goal.returns
returns c = described-is (w.description_seen c.args.description.now) c.args.description.now.states.now c.args.description.now.edges.now c.args.description.now.ends.now refl refl refl (search rules) (search rules) (search rules) c.in_ok-states.states.keys c.build_over.result c.in_ok-states.ensures c.build_over.ensures
