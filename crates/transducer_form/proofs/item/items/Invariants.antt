use Rattle.std.proofs.Common.{◌≡◌, map, drop}
use Rattle.smt_names.specs.Form.{forms, seen}
use Rattle.transducer_form.specs.Descriptions.{list_behind, each, item_of}
use Rattle.transducer_form.proofs.item.items.Given as goal

abbrev pub invariant-loop-part : goal.invariant-loop-part
invariant-loop-part l = list_behind l.all (each item_of (forms (map seen (drop l.part-index l.parts)))) ≡ each item_of (forms (map seen l.parts))
