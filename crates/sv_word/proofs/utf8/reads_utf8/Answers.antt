use Rattle.sv_word.proofs.Utf8Lemmas.{utf8_read}
use Rattle.sv_word.proofs.utf8.reads_utf8.Goals as goal

pub returns : goal.returns
returns c = utf8_read
