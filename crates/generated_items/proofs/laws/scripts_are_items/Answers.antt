use Rattle.generated_items.proofs.Scripts.{script_text, script_printable, script_read}
use Rattle.generated_items.proofs.laws.scripts_are_items.Goals as goal

pub returns : goal.returns
returns c = record { text = script_text; formed = script_printable; read = script_read }
