use Rattle.std.proofs.lemmas.Result.{IfOk-weaker}
use Rattle.regex_machine.proofs.WordLemmas.{reads-same}
use Rattle.regex_machine.proofs.LanguageLemmas.{range-all}
use Rattle.regex_machine.proofs.letters.any_character.Goals as goal

pub returns-clause-reads : goal.returns-clause-reads
returns-clause-reads c = IfOk-weaker c.one_of.result _ _ (λ m. reads-same _ _ m (range-all c.in_ok-on.on c.in_ok-on.ensures.set)) c.one_of.ensures.reads
