use Rattle.std.proofs.Common.{sym, ap, ◌∙◌, ◌++◌}
use Rattle.term_weight.specs.Bodies.{parameter_name}
use Rattle.smt_names.specs.Form.{seen}
use Rattle.term_walk.specs.Meant.{as_constants}
use Rattle.term_walk.proofs.Termwise.{begin-bound, begin-past, one-settled, one-unfit, one-past}
use Rattle.term_walk.proofs.settling.settle_one.Goals as goal

pub returns-then-walk : goal.returns-then-walk
returns-then-walk c =
    let s = as_constants parameter_name c.args.parameters.now in
    let e = c.in_ok-bind.ensures ∙ ap (λ z. c.constants.new.walk.scope ++ z) c.as_slice.ensures in
    let b = begin-bound c.new-walk.result c.constants.new.walk c.args.parameters.now c.in_ok-bound.bound c.in_ok-bound.ensures c.bind.new.scope c.new-walk.ensures.scope e in
    let p = begin-past c.new-walk.result c.constants.new.walk c.args.parameters.now c.in_ok-bound.bound c.in_ok-bound.ensures c.new-walk.ensures.past in
    one-past c.args.symbols.now s (seen c.args.term.now) (record c.constants.new.walk { scope = c.bind.new.scope }) c.read.new.walk c.in_ok-place.place (c.in_ok-place.ensures s b) p c.if-walk.true

pub returns-then-not-fits : goal.returns-then-not-fits
returns-then-not-fits c =
    let s = as_constants parameter_name c.args.parameters.now in
    let e = c.in_ok-bind.ensures ∙ ap (λ z. c.constants.new.walk.scope ++ z) c.as_slice.ensures in
    let b = begin-bound c.new-walk.result c.constants.new.walk c.args.parameters.now c.in_ok-bound.bound c.in_ok-bound.ensures c.bind.new.scope c.new-walk.ensures.scope e in
    let p = begin-past c.new-walk.result c.constants.new.walk c.args.parameters.now c.in_ok-bound.bound c.in_ok-bound.ensures c.new-walk.ensures.past in
    one-unfit c.args.symbols.now s (seen c.args.term.now) (record c.constants.new.walk { scope = c.bind.new.scope }) c.read.new.walk c.in_ok-place.place (c.in_ok-place.ensures s b) p c.if-walk.false (sym c.fits.ensures ∙ c.if-not-fits.true)

pub returns : goal.returns
returns c =
    let s = as_constants parameter_name c.args.parameters.now in
    let e = c.in_ok-bind.ensures ∙ ap (λ z. c.constants.new.walk.scope ++ z) c.as_slice.ensures in
    let b = begin-bound c.new-walk.result c.constants.new.walk c.args.parameters.now c.in_ok-bound.bound c.in_ok-bound.ensures c.bind.new.scope c.new-walk.ensures.scope e in
    let p = begin-past c.new-walk.result c.constants.new.walk c.args.parameters.now c.in_ok-bound.bound c.in_ok-bound.ensures c.new-walk.ensures.past in
    one-settled c.args.symbols.now s (seen c.args.term.now) (record c.constants.new.walk { scope = c.bind.new.scope }) c.read.new.walk c.in_ok-place.place (c.in_ok-place.ensures s b) p c.in_ok-build_at.field-0 c.if-walk.false (sym c.fits.ensures ∙ c.if-not-fits.false) c.in_ok-build_at.ensures
