-- How replies are printed (SMT-LIB 2.6, sections 3.9 and 4.1). Each text ends with one line feed; a success that isn't printed has none.
use Rattle.std.specs.Prelude.{Bool, true, false, [], ◌++◌, map, codes}
use Rattle.std.specs.List.{flat_map}
use Rattle.reply_text.specs.Replies.{Text, definition_text, enclosed, entry_text, error_text, info_text, line, pair_text, spaced}
use Rattle.smt_session.specs.declared.reply.Reply.{Reply}
use Rattle.smt_session.specs.declared.reply.Reply.TheVariants as reply

-- the printed reply
abbrev pub text_of : Reply → Text
text_of (reply.Success false) = []
text_of (reply.Success true) = line (codes "success")
text_of reply.Unsupported = line (codes "unsupported")
text_of (reply.Echo text) = line text
text_of (reply.Error kind) = line (codes "(error \"" ++ error_text kind ++ codes "\")")
text_of (reply.Sat values) = line (codes "sat")
text_of reply.Unsat = line (codes "unsat")
text_of (reply.Unknown why) = line (codes "unknown")
text_of (reply.Definitions ds) = line (codes "(") ++ flat_map definition_text ds ++ line (codes ")")
text_of (reply.Values vs) = line (enclosed (spaced (map pair_text vs)))
text_of (reply.Core list) = line (enclosed (spaced (map entry_text list)))
text_of (reply.Info i) = line (enclosed (info_text i))

abbrev pub is_error : Reply → Bool
is_error (reply.Error kind) = true
is_error _ = false
