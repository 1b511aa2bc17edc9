use Rattle.std.proofs.Common.{IsTrue, take}
use Rattle.std.specs.List.{list_all}
use Rattle.assertion_parts.specs.Constants.{has_words}
use Rattle.assertion_parts.proofs.spelling.+words.Given as goal

abbrev pub invariant-string_literals_are_words-loop-term : goal.invariant-string_literals_are_words-loop-term
invariant-string_literals_are_words-loop-term l = IsTrue (list_all has_words (take l.term-index l.terms))
