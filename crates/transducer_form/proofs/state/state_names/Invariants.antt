use Rattle.std.proofs.Common.{◌≡◌, [], map, drop}
use Rattle.smt_names.specs.Form.{forms, seen}
use Rattle.transducer_form.specs.Descriptions.{states_behind}
use Rattle.transducer_form.proofs.state.state_names.Given as goal

abbrev pub invariant-loop-state : goal.invariant-loop-state
invariant-loop-state l = states_behind l.names.keys (forms (map seen (drop l.state-index l.states))) ≡ states_behind [] (forms (map seen l.states))
