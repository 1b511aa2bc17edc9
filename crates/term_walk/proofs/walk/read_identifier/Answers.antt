use Rattle.std.proofs.Common.{sym, ap, Ok, [], map}
use Rattle.smt_names.specs.Form.{forms, seen}
use Rattle.term_walk.specs.Meant.{theory, alone, application, identified, of_theory}
use Rattle.term_walk.specs.Walks.{Here}
use Rattle.term_walk.proofs.Reading.{alike}
use Rattle.term_walk.proofs.walk.read_identifier.Goals as goal

pub returns : goal.returns
returns c = alike Here (λ t. application (theory c.in_ok-function.function) 0 (Ok [])) (λ t. alone (of_theory (identified c.args.symbols.now (forms (map seen c.args.parts.now))))) c.args.walk.now c.apply_alone.new.walk c.apply_alone.result (λ t. sym (ap (λ z. alone (of_theory z)) c.in_ok-function.ensures)) c.apply_alone.ensures
