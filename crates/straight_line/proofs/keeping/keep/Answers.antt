use Rattle.std.proofs.Common.{◌≡◌, ◌∙◌, ap, sym, length, length-append, ◌∷◌, [], arith, get_or, refl, false}
use Rattle.straight_line.specs.Keeping.{kept}
use Rattle.straight_line.proofs.Keeps.{kept_more}
use Rattle.straight_line.proofs.keeping.keep.Goals as goal

pub loop-quantity-preserved : goal.loop-quantity-preserved
loop-quantity-preserved c = (
  (let e = length-append c.loop-quantity.yielded (c.in-Some.quantity ∷ []) in let o : length (c.in-Some.quantity ∷ []) ≡ 1 = refl in let i = c.loop-quantity.invariant.0 in omega arith),
  c.in_ok-add.ensures ∙ ap (λ z. kept (λ i. get_or c.args.of.now i 0) c.in-Some.quantity z c.loop-quantity.kept) c.flag_at-is_used.ensures.flag ∙ ap (kept (λ i. get_or c.args.of.now i 0) c.in-Some.quantity (get_or c.args.used.now c.loop-quantity.i false)) c.loop-quantity.invariant.1 ∙ sym (kept_more (λ i. get_or c.args.of.now i 0) c.loop-quantity.yielded c.in-Some.quantity c.args.used.now c.loop-quantity.i _ c.loop-quantity.invariant.0 c.flag_at-is_used.ensures.inside),
)
