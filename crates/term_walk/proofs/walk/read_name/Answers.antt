use Rattle.std.proofs.lemmas.Result.{err_from_is_err_and}
use Rattle.sv_terms.specs.Names.{symbol_name}
use Rattle.term_walk.specs.Heads.{kept}
use Rattle.term_walk.proofs.Walking.{name-read, name-alone, name-fault}
use Rattle.term_walk.proofs.walk.read_name.Goals as goal

pub returns-in-Some : goal.returns-in-Some
returns-in-Some c = λ s b. name-read c.args.symbols.now s (symbol_name c.args.text.now) c.in_ok-name.name c.args.walk.now c.in-Some.place b c.in_ok-name.ensures c.in-Some.ensures

pub returns : goal.returns
returns c = λ s b. name-alone c.args.symbols.now s (symbol_name c.args.text.now) c.in_ok-name.name (kept c.in_ok-find_head-in-None.field-0) c.args.walk.now c.apply_alone.new.walk c.apply_alone.result b c.in_ok-name.ensures c.in-None.ensures c.in_ok-find_head-in-None.ensures c.apply_alone.ensures

pub returns-in_err-find_head-in-None : goal.returns-in_err-find_head-in-None
returns-in_err-find_head-in-None c =
    λ s b.
    let exit = err_from_is_err_and c.from_residual-in_err-find_head-in-None.result c.from_residual-in_err-find_head-in-None.ensures.1 in
    rw (exit.1, exit.2) (name-fault c.args.symbols.now s (symbol_name c.args.text.now) c.in_ok-name.name c.in_err-find_head-in-None.field-0.0 c.args.walk.now c.args.walk.now b c.in_ok-name.ensures c.in-None.ensures c.in_err-find_head-in-None.ensures)
