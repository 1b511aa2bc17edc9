use Rattle.std.proofs.Common.{◌≡◌, map, drop}
use Rattle.smt_names.specs.Form.{forms, seen}
use Rattle.transducer_form.specs.Descriptions.{list_behind, words_joined}
use Rattle.transducer_form.proofs.ending.join_words.Given as goal

abbrev pub invariant-loop-part : goal.invariant-loop-part
invariant-loop-part l = list_behind l.all (words_joined (forms (map seen (drop l.part-index l.parts)))) ≡ words_joined (forms (map seen l.parts))
