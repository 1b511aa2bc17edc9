-- The states of the parts of a variable, cut off at each step or in the end.
use Rattle.std.proofs.Common.{◌≡◌, sym, ap, ◌∙◌, subst, ℕ, suc, ◌-◌, ◌*◌, ◌^◌, ◌<◌, ◌≤◌, max, Bool, List, [], ◌∷◌, map, length, get_or, drop, drop-cons, arith}
use Rattle.std.proofs.lemmas.List.{length-map}
use Rattle.sv_terms.specs.CutOff.{cut_off, cut-power, cut-product}
use Rattle.cube_bounds.specs.Bounds.{greatest, own_bound, part_bound, product_by}
use Rattle.flat_cubes.specs.Straight.{HaveVariablesBelow, InOrder}
use Rattle.flat_cubes.specs.declared.definition.Definition.{Definition}
use Rattle.flat_cubes.specs.declared.variable.Own.{Own}
use Rattle.flat_cubes.specs.declared.variable.Variable.{Variable}

pub power_cut : (n m : ℕ) → m ≡ cut_off n → cut_off (2 ^ m) ≡ cut_off (2 ^ n)
power_cut n m e = ap (λ k. cut_off (2 ^ k)) e ∙ cut-power 18446744073709551615 n

pub ruleset lengths = (power_cut)

-- one part before those behind it
pub part_before : (ps : List (Own × Bool)) (p : Own × Bool) (i n m : ℕ) → 0 < i → i ≤ length ps → p ≡ get_or ps (i - 1) p → n ≡ cut_off (product_by part_bound (drop i ps)) → m ≡ cut_off (part_bound p) → cut_off (m * n) ≡ cut_off (product_by part_bound (drop (i - 1) ps))
part_before ps p i n m o l e f g =
    let up : suc (i - 1) ≡ i = omega arith in
    let d : drop (i - 1) ps ≡ p ∷ drop i ps = drop-cons ps (i - 1) p (omega arith) ∙ (λ j. sym e j ∷ drop (up j) ps) in
    (λ j. cut_off (g j * f j)) ∙ cut-product (part_bound p) (product_by part_bound (drop i ps)) ∙ ap (λ x. cut_off (product_by part_bound x)) (sym d)

-- definitions in order are within the variables
pub order_within : (n : ℕ) (ds : List Definition) → InOrder n ds → HaveVariablesBelow n ds
order_within n [] o = tt
order_within n (d ∷ ds) o = (record { defined = o.0.defined; uses = o.0.uses }, order_within n ds o.1)

pub own_within : (vs : List Variable) (ds : List Definition) → InOrder (length vs) ds → HaveVariablesBelow (length (map own_bound vs)) ds
own_within vs ds o = subst (λ n. HaveVariablesBelow n ds) (sym (length-map vs own_bound)) (order_within (length vs) ds o)

pub greatest_cut : (ms : List ℕ) → greatest 1 (map cut_off ms) ≡ cut_off (greatest 1 ms)
greatest_cut [] = omega arith
greatest_cut (m ∷ ms) = ap (max (cut_off m)) (greatest_cut ms) ∙ omega arith
