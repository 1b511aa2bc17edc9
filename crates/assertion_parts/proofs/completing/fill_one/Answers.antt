use Rattle.std.proofs.Common.{sym, ap, ◌∙◌, nat_eq}
use Rattle.std.specs.Cmp.Lexicographic.{pointwise}
use Rattle.sv_list.specs.Lists.{OnOk-weaker}
use Rattle.indexmap.specs.IndexMap.{insert_entry}
use Rattle.assertion_parts.specs.Filling.{value_of}
use Rattle.assertion_parts.proofs.Fillings.{copied-none, copied-some, fills-there, fills-new}
use Rattle.assertion_parts.proofs.completing.fill_one.Goals as goal

pub returns-then-is_some : goal.returns-then-is_some
returns-then-is_some c =
    let u = copied-some c.get.result (value_of c.args.full.now c.args.name.now) (sym c.is_some.ensures ∙ c.if-is_some.true) c.get.ensures in
    fills-there c.args.given.now c.args.name.now c.args.sort c.args.full.now u.0 u.1

pub returns : goal.returns
returns c =
    let none = copied-none c.get.result (value_of c.args.full.now c.args.name.now) (sym c.is_some.ensures ∙ c.if-is_some.false) c.get.ensures in
    OnOk-weaker c.set.result c.set.ensures.ok
    (λ e. fills-new c.args.given.now c.args.name.now c.args.sort c.args.full.now c.set.new.self c.in_ok-value.value none c.in_ok-value.ensures
    (e ∙ ap (λ n. insert_entry (pointwise nat_eq) c.args.full.now n c.in_ok-value.value) c.in_ok-copy.ensures))
