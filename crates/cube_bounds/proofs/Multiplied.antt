-- Numbers multiplied at places, cut off at the greatest number of 64 bits at each step or in the end.
use Rattle.std.proofs.Common.{◌≡◌, refl, sym, ap, ◌∙◌, subst, ℕ, zero, suc, ◌-◌, ◌*◌, ◌<◌, ◌≤◌, List, [], ◌∷◌, map, length, get_or, set, drop, drop-cons, arith}
use Rattle.std.proofs.lemmas.List.{length-map, get_or-map}
use Rattle.sv_terms.specs.CutOff.{cut_off, cut-product}
use Rattle.flat_cubes.specs.Using.{used}
use Rattle.cube_bounds.specs.Bounds.{through_states, times_at, times_all, carried, carried_all}
use Rattle.flat_cubes.specs.declared.definition.Definition.{Definition}
use Rattle.cube_bounds.proofs.Solved.{carried_length, times_length}
use Rattle.flat_cubes.specs.Straight.{AreBelow, HaveVariablesBelow, HasVariablesBelow}

pub map_set : (f : ℕ → ℕ) (xs : List ℕ) (i y : ℕ) → map f (set xs i y) ≡ set (map f xs) i (f y)
map_set f [] i y = refl
map_set f (x ∷ xs) zero y = refl
map_set f (x ∷ xs) (suc i) y = ap (λ l. f x ∷ l) (map_set f xs i y)

-- one place
times_step : (ns ms : List ℕ) (k by v : ℕ) → by ≡ cut_off k → ns ≡ map cut_off ms → v < length ms → set ns v (cut_off (get_or ns v 1 * by)) ≡ map cut_off (times_at k v ms)
times_step ns ms k by v b n h =
    (λ i. set (n i) v (cut_off (get_or (n i) v 1 * b i))) ∙ ap (λ x. set (map cut_off ms) v (cut_off (x * cut_off k))) (get_or-map cut_off ms v 1 1 h) ∙ ap (set (map cut_off ms) v) (cut-product (get_or ms v 1) k) ∙ sym (map_set cut_off ms v (get_or ms v 1 * k))

below_at : (n : ℕ) (vs : List ℕ) (i d : ℕ) → AreBelow n vs → i < length vs → get_or vs i d < n
below_at n [] i d a h = absurd (omega arith)
below_at n (v ∷ vs) zero d a h = a.0
below_at n (v ∷ vs) (suc i) d a h = below_at n vs i d a.1 (omega arith)

-- one place before those behind it
pub times_before : (ns new ms vs : List ℕ) (k by i : ℕ) → 0 < i → i ≤ length vs → by ≡ cut_off k → AreBelow (length ms) vs → ns ≡ map cut_off (times_all k (drop i vs) ms) → (get_or vs (i - 1) 0 < length ns → new ≡ set ns (get_or vs (i - 1) 0) (cut_off (get_or ns (get_or vs (i - 1) 0) 1 * by))) → new ≡ map cut_off (times_all k (drop (i - 1) vs) ms)
times_before ns new ms vs k by i o l b a e f =
    let v = get_or vs (i - 1) 0 in
    let rest = times_all k (drop i vs) ms in
    let low : get_or vs (i - 1) 0 < length ms = below_at (length ms) vs (i - 1) 0 a (omega arith) in
    let long : length (times_all k (drop i vs) ms) ≡ length ms = times_length k (drop i vs) ms in
    let same : length ns ≡ length ms = ap length e ∙ length-map (times_all k (drop i vs) ms) cut_off ∙ long in
    let up : suc (i - 1) ≡ i = omega arith in
    let d : drop (i - 1) vs ≡ get_or vs (i - 1) 0 ∷ drop i vs = drop-cons vs (i - 1) 0 (omega arith) ∙ ap (λ n. get_or vs (i - 1) 0 ∷ drop n vs) up in
    f (omega arith) ∙ times_step ns (times_all k (drop i vs) ms) k by (get_or vs (i - 1) 0) b e (omega arith) ∙ ap (λ x. map cut_off (times_all k x ms)) (sym d)

pub ruleset multiplied = (times_before)

-- one definition
pub carried_once : (d : Definition) (ns new ms : List ℕ) (t k : ℕ) → HasVariablesBelow (length ms) d → ns ≡ map cut_off ms → t ≡ cut_off (through_states d.by) → k ≡ cut_off (t * get_or ns d.variable 0) → ((n : ℕ) (ls : List ℕ) → k ≡ cut_off n → ns ≡ map cut_off ls → AreBelow (length ls) (used d.by) → new ≡ map cut_off (times_all n (used d.by) ls)) → new ≡ map cut_off (carried d ms)
carried_once d ns new ms t k w e p q f =
    let n = through_states d.by * get_or ms d.variable 1 in
    let same : k ≡ cut_off (through_states d.by * get_or ms d.variable 1) = q ∙ (λ i. cut_off (p i * get_or (e i) d.variable 0)) ∙ ap (λ x. cut_off (cut_off (through_states d.by) * x)) (get_or-map cut_off ms d.variable 1 0 w.defined) ∙ cut-product (through_states d.by) (get_or ms d.variable 1) in
    f (through_states d.by * get_or ms d.variable 1) ms same e w.uses

within_at : (n : ℕ) (ds : List Definition) (i : ℕ) (d : Definition) → HaveVariablesBelow n ds → i < length ds → d ≡ get_or ds i d → HasVariablesBelow n d
within_at n [] i d a h e = absurd (omega arith)
within_at n (c ∷ ds) zero d a h e = subst (HasVariablesBelow n) (sym e) a.0
within_at n (c ∷ ds) (suc i) d a h e = within_at n ds i d a.1 (omega arith) e

-- one definition before those behind it
pub carried_before : (ds : List Definition) (d : Definition) (ns new ms : List ℕ) (i : ℕ) → 0 < i → i ≤ length ds → d ≡ get_or ds (i - 1) d → HaveVariablesBelow (length ms) ds → ns ≡ map cut_off (carried_all (drop i ds) ms) → ((ls : List ℕ) → ns ≡ map cut_off ls → HasVariablesBelow (length ls) d → new ≡ map cut_off (carried d ls)) → new ≡ map cut_off (carried_all (drop (i - 1) ds) ms)
carried_before ds d ns new ms i o l g a e f =
    let up : suc (i - 1) ≡ i = omega arith in
    let b : drop (i - 1) ds ≡ d ∷ drop i ds = drop-cons ds (i - 1) d (omega arith) ∙ (λ j. sym g j ∷ drop (up j) ds) in
    let w : HasVariablesBelow (length (carried_all (drop i ds) ms)) d = subst (λ n. HasVariablesBelow n d) (sym (carried_length (drop i ds) ms)) (within_at (length ms) ds (i - 1) d a (omega arith) g) in
    f (carried_all (drop i ds) ms) e w ∙ ap (λ x. map cut_off (carried_all x ms)) (sym b)
