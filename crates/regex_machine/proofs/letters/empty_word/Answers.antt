use Rattle.std.proofs.Common.{◌≡◌, [], subst}
use Rattle.std.proofs.lemmas.Result.{IfOk-weaker}
use Rattle.sv_word.specs.Words.{IsWord}
use Rattle.regex_machine.specs.Joined.{HasWords}
use Rattle.regex_machine.proofs.LetterLemmas.{only-empty}
use Rattle.regex_machine.proofs.letters.empty_word.Goals as goal

pub returns-clause-reads : goal.returns-clause-reads
returns-clause-reads c =
    IfOk-weaker c.text.result _ _ (λ m reads. only-empty (λ w. w ≡ []) (λ w. (λ h. h, λ h. h)) m (subst (λ t. HasWords (λ w. (w ≡ t) × IsWord w) m) c.new-none.ensures reads)) c.text.ensures.reads
