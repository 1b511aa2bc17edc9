use Rattle.session_tests.proofs.DecideSamples.{constant-sample}
use Rattle.session_tests.proofs.decide_calls.constant.Goals as goal

pub returns : goal.returns
returns c = constant-sample c.in_ok-name.name c.in_ok-name.ensures
