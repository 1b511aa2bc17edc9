use Rattle.generated_commands.proofs.Commanded.{block_read}
use Rattle.generated_commands.proofs.laws.blocks_are_commands.Goals as goal

pub returns : goal.returns
returns c = block_read
