use Rattle.std.proofs.Common.{ap, refl, true, false, Some, None, List, ℕ}
use Rattle.std.specs.Borrow.{Bor}
use Rattle.sv_terms.specs.Names.{symbol_name}
use Rattle.smt_names.specs.Form.{seen}
use Rattle.smt_names.specs.Shapes.{none-seen}
use Rattle.smt_names.specs.Tokens.{symbol}
use Rattle.sort_check.specs.Checking.{begun}
use Rattle.sort_check.proofs.Begun.{begun-other, begun-unnamed, begun-verb, tested}
use Rattle.sort_check.proofs.checking.parse_command.Goals as goal

pub returns-in-empty : goal.returns-in-empty
returns-in-empty c = ap (begun c.args.symbols.now) (none-seen c.args.items.now c.in-empty.len_below)

pub returns-then-is_none : goal.returns-then-is_none
returns-then-is_none c = begun-unnamed c.args.symbols.now c.args.items.now c.first-item.result c.in-len1-up.len_at_least c.first-item.is (tested (λ (text : Bor (List ℕ)). symbol_name text.now) c.symbol.result (symbol (seen c.first-item.result)) c.is_none.result true c.symbol.ensures c.is_none.ensures c.if-is_none.true)

pub returns-in-Some : goal.returns-in-Some
returns-in-Some c = begun-verb c.args.symbols.now c.args.items.now c.first-item.result c.in-len1-up.len_at_least c.first-item.is (tested (λ (text : Bor (List ℕ)). symbol_name text.now) c.symbol.result (symbol (seen c.first-item.result)) c.is_none.result false c.symbol.ensures c.is_none.ensures c.if-is_none.false) (Some c.in-Some.verb) c.in-Some.ensures c.command_of.result c.command_of.ensures

pub returns-in-None : goal.returns-in-None
returns-in-None c = begun-other c.args.symbols.now c.args.items.now c.first-item.result c.in-len1-up.len_at_least c.first-item.is (tested (λ (text : Bor (List ℕ)). symbol_name text.now) c.symbol.result (symbol (seen c.first-item.result)) c.is_none.result false c.symbol.ensures c.is_none.ensures c.if-is_none.false) None c.in-None.ensures refl
