use Rattle.std.proofs.Common.{◌≡◌, ◌++◌, map, take}
use Rattle.reply_text.specs.Replies.{sexpr_text, spaced}
use Rattle.reply_text.proofs.shown.+sexpr.Given as goal

-- the texts of the items so far
abbrev pub invariant-sexprs-loop-at : goal.invariant-sexprs-loop-at
invariant-sexprs-loop-at l = l.text.items ≡ l.fn.text.items ++ spaced (map sexpr_text (take l.at l.items))
