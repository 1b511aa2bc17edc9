use Rattle.std.proofs.lemmas.Result.{IfOk-weaker}
use Rattle.regex_machine.proofs.WordLemmas.{reads-same}
use Rattle.regex_machine.proofs.LetterLemmas.{range-words}
use Rattle.regex_machine.proofs.letters.range.Goals as goal

pub returns-clause-reads : goal.returns-clause-reads
returns-clause-reads c =
    IfOk-weaker c.one_of.result _ _ (λ m. reads-same _ _ m (range-words c.args.lo c.args.hi c.cut_off_at_last-top.result c.in_ok-on.on c.cut_off_at_last-top.ensures c.in_ok-on.ensures.set)) c.one_of.ensures.reads
