use Rattle.std.proofs.Common.{◌≡◌, ◌++◌, take}
use Rattle.std.specs.List.{flat_map}
use Rattle.reply_text.specs.Replies.{definition_text}
use Rattle.reply_text.proofs.printing.definitions.Given as goal

-- the lines of the constants so far
abbrev pub invariant-loop-constant : goal.invariant-loop-constant
invariant-loop-constant l = l.text.items ≡ l.fn.text.items ++ flat_map definition_text (take l.constant-index l.constants)
