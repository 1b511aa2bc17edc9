use Rattle.std.proofs.Common.{ap, refl, Some, None}
use Rattle.sv_terms.specs.Names.{symbol_name}
use Rattle.smt_names.specs.Shapes.{none-seen}
use Rattle.term_walk.specs.Meant.{identified}
use Rattle.term_walk.proofs.Identified.{identified-named, identified-unnamed}
use Rattle.term_walk.proofs.head.find_function.Goals as goal

pub returns-in-empty : goal.returns-in-empty
returns-in-empty c = ap (identified c.args.symbols.now) (none-seen c.args.parts.now c.in-empty.len_below)

pub returns-in-Some : goal.returns-in-Some
returns-in-Some c = identified-named c.args.symbols.now c.args.parts.now c.name-item.result c.in-len1-up.len_at_least c.name-item.is (Some (symbol_name c.in-Some.text.now)) c.in-Some.ensures c.indexed_function.result c.indexed_function.ensures

pub returns-in-None : goal.returns-in-None
returns-in-None c = identified-unnamed c.args.symbols.now c.args.parts.now c.name-item.result c.in-len1-up.len_at_least c.name-item.is None c.in-None.ensures refl
