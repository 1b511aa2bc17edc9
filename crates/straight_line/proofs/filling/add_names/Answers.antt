use Rattle.std.proofs.Common.{◌≡◌, ◌∙◌, ap, sym, length, length-append, ◌<◌, ◌∷◌, [], arith, get_or, refl}
use Rattle.straight_line.specs.Filling.{named}
use Rattle.straight_line.proofs.Filled.{named_more}
use Rattle.straight_line.proofs.filling.add_names.Goals as goal

pub loop-name-preserved : goal.loop-name-preserved
loop-name-preserved c =
    let l : c.loop-name.i < length c.args.of.now = c.variable_at-variable.ensures.inside in (
      (let e = length-append c.loop-name.yielded (c.in-Some.name ∷ []) in let o : length (c.in-Some.name ∷ []) ≡ 1 = refl in let i = c.loop-name.invariant.0 in omega arith),
      c.add_name.ensures.count ∙ c.loop-name.invariant.1,
      c.in_ok-add_name.ensures.named ∙ ap (λ z. named z c.in-Some.name c.loop-name.variables.items) c.variable_at-variable.ensures.number ∙ ap (named (get_or c.args.of.now c.loop-name.i 0) c.in-Some.name) c.loop-name.invariant.2 ∙ sym (named_more c.args.of.now c.loop-name.i c.loop-name.yielded c.in-Some.name c.args.variables.now.items c.loop-name.invariant.0 l),
    )
