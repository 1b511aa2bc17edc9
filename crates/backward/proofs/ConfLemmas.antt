-- Configurations of a family in which one machine is exchanged or taken out.
use Rattle.std.proofs.Common.{◌≡◌, ℕ, zero, suc, ◌↔◌, cond, List, [], ◌∷◌, length, map, Contains, Some, None, slice_get, slice_set, refl, sym, ap, ◌∙◌, subst, arith}
use Rattle.std.proofs.lemmas.Bool.{eq-eqb, ne_eqb}
use Rattle.machine_core.specs.declared.graph.Graph.{Graph}
use Rattle.machine_core.specs.Costs.{add_costs}
use Rattle.machine_core.specs.CostLaws.{zeros-length, add_costs-length, add_costs-assoc}
use Rattle.machine_core.specs.Graphs.{Accepts}
use Rattle.sv_terms.specs.Language.{Word}
use Rattle.backward.specs.Families.{Family, Words, after, HasMachine, without, put, Conf, AreWide}
use Rattle.backward.proofs.CostSums.{left-comm}
use Rattle.machine_core.specs.EdgeLaws.{run_width}

-- totals have a number for each register
pub conf-width : (width : ℕ) (ms : Family) → AreWide width ms → (words : Words) (totals : List ℕ) → Conf width ms words totals → length totals ≡ width
conf-width width [] wide words totals h = ap length h ∙ zeros-length width
conf-width width (None ∷ ms) wide words totals h = conf-width width ms (λ v m e. wide (suc v) m e) (after words) totals h
conf-width width (Some m ∷ ms) wide words totals h =
    ap length (sym h.4) ∙ add_costs-length h.0 h.1 width (run_width m.states m.registers m.edges m.ends m.formed (words 0) 0 h.0 h.2 ∙ wide zero m refl)
    (conf-width width ms (λ v n e. wide (suc v) n e) (after words) h.1 h.3)

-- which machine stands at a place
no-machine : (v : ℕ) (m : Graph) → HasMachine [] v m → ⊥
no-machine v m h = cc

none-machine : (ms : Family) (m : Graph) → HasMachine (None ∷ ms) zero m → ⊥
none-machine ms m h = cc

first-machine : (k m : Graph) (ms : Family) → HasMachine (Some k ∷ ms) zero m → k ≡ m
first-machine k m ms h = cc

-- with a machine that reads its words together with something else, that is read besides
module _ (width : ℕ) (m n : Graph) (L : Word → List ℕ → Type 0)
    (both : (word cost : List ℕ) → Accepts n word cost ↔ ((a b : List ℕ) × Accepts m word a × L word b × (add_costs a b ≡ cost))) where
  pub grow-out : (ms : Family) (v : ℕ) → HasMachine ms v m → (words : Words) (totals : List ℕ) → Conf width (slice_set ms v (Some n)) words totals
      → (a b : List ℕ) × L (words v) a × Conf width ms words b × (add_costs a b ≡ totals)
  grow-out [] v h words totals c = absurd (no-machine v m h)
  grow-out (None ∷ ms) zero h words totals c = absurd (none-machine ms m h)
  grow-out (Some k ∷ ms) zero h words totals c =
      let same = sym (first-machine k m ms h) in
      let r = (both (words 0) c.0).0 c.2 in (
        r.1,
        add_costs r.0 c.1,
        r.3,
        (r.0, c.1, subst (λ g. Accepts g (words 0) r.0) same r.2, c.3, refl),
        left-comm r.1 r.0 c.1 ∙ sym (add_costs-assoc r.0 r.1 c.1) ∙ ap (λ l. add_costs l c.1) r.4 ∙ c.4,
      )
  grow-out (None ∷ ms) (suc v) h words totals c = grow-out ms v h (after words) totals c
  grow-out (Some k ∷ ms) (suc v) h words totals c =
      let r = grow-out ms v h (after words) c.1 c.3 in
      (r.0, add_costs c.0 r.1, r.2, (c.0, r.1, c.2, r.3, refl), left-comm r.0 c.0 r.1 ∙ ap (add_costs c.0) r.4 ∙ c.4)

  pub grow-in : (ms : Family) (v : ℕ) → HasMachine ms v m → (words : Words) (totals : List ℕ)
      → (a b : List ℕ) × L (words v) a × Conf width ms words b × (add_costs a b ≡ totals) → Conf width (slice_set ms v (Some n)) words totals
  grow-in [] v h words totals c = absurd (no-machine v m h)
  grow-in (None ∷ ms) zero h words totals c = absurd (none-machine ms m h)
  grow-in (Some k ∷ ms) zero h words totals c =
      let same = first-machine k m ms h in
      let rest = c.3 in (
        add_costs rest.0 c.0,
        rest.1,
        (both (words 0) (add_costs rest.0 c.0)).1 (rest.0, c.0, subst (λ g. Accepts g (words 0) rest.0) same rest.2, c.2, refl),
        rest.3,
        add_costs-assoc rest.0 c.0 rest.1 ∙ left-comm rest.0 c.0 rest.1 ∙ ap (add_costs c.0) rest.4 ∙ c.4,
      )
  grow-in (None ∷ ms) (suc v) h words totals c = grow-in ms v h (after words) totals c
  grow-in (Some k ∷ ms) (suc v) h words totals c =
      let rest = c.3 in (
        rest.0,
        add_costs c.0 rest.1,
        rest.2,
        grow-in ms v h (after words) (add_costs c.0 rest.1) (c.0, rest.1, c.2, rest.3, refl),
        left-comm rest.0 c.0 rest.1 ∙ ap (add_costs c.0) rest.4 ∙ c.4,
      )

-- a machine's word and cost, beside the configurations of the others
module _ (width : ℕ) (m : Graph) where
  pub take-out : (ms : Family) (x : ℕ) → HasMachine ms x m → (words : Words) (totals : List ℕ) → Conf width ms words totals
      → (a b : List ℕ) × Accepts m (words x) a × Conf width (without ms x) words b × (add_costs a b ≡ totals)
  take-out [] x h words totals c = absurd (no-machine x m h)
  take-out (None ∷ ms) zero h words totals c = absurd (none-machine ms m h)
  take-out (Some k ∷ ms) zero h words totals c = let same = first-machine k m ms h in (c.0, c.1, subst (λ g. Accepts g (words 0) c.0) same c.2, c.3, c.4)
  take-out (None ∷ ms) (suc x) h words totals c = take-out ms x h (after words) totals c
  take-out (Some k ∷ ms) (suc x) h words totals c =
      let r = take-out ms x h (after words) c.1 c.3 in
      (r.0, add_costs c.0 r.1, r.2, (c.0, r.1, c.2, r.3, refl), left-comm r.0 c.0 r.1 ∙ ap (add_costs c.0) r.4 ∙ c.4)

  pub take-in : (ms : Family) (x : ℕ) → HasMachine ms x m → (words : Words) (totals : List ℕ)
      → (a b : List ℕ) × Accepts m (words x) a × Conf width (without ms x) words b × (add_costs a b ≡ totals) → Conf width ms words totals
  take-in [] x h words totals c = absurd (no-machine x m h)
  take-in (None ∷ ms) zero h words totals c = absurd (none-machine ms m h)
  take-in (Some k ∷ ms) zero h words totals c = let same = sym (first-machine k m ms h) in (c.0, c.1, subst (λ g. Accepts g (words 0) c.0) same c.2, c.3, c.4)
  take-in (None ∷ ms) (suc x) h words totals c = take-in ms x h (after words) totals c
  take-in (Some k ∷ ms) (suc x) h words totals c =
      let rest = c.3 in (
        rest.0,
        add_costs c.0 rest.1,
        rest.2,
        take-in ms x h (after words) (add_costs c.0 rest.1) (c.0, rest.1, c.2, rest.3, refl),
        left-comm rest.0 c.0 rest.1 ∙ ap (add_costs c.0) rest.4 ∙ c.4,
      )

-- only the words of variables with a machine count
pub conf-agree : (width : ℕ) (ms : Family) (words other : Words) → ((v : ℕ) (m : Graph) → HasMachine ms v m → words v ≡ other v)
    → (totals : List ℕ) → Conf width ms words totals → Conf width ms other totals
conf-agree width [] words other same totals c = c
conf-agree width (None ∷ ms) words other same totals c = conf-agree width ms (after words) (after other) (λ v m h. same (suc v) m h) totals c
conf-agree width (Some m ∷ ms) words other same totals c =
    (c.0, c.1, subst (λ w. Accepts m w c.0) (same zero m refl) c.2, conf-agree width ms (after words) (after other) (λ v n h. same (suc v) n h) c.1 c.3, c.4)

-- what stands at a place that was set, and at another one
pub set-same : {X : Type 0} (xs : List X) (i : ℕ) (x y : X) → slice_get xs i ≡ Some x → slice_get (slice_set xs i y) i ≡ Some y
set-same [] i x y h = cc
set-same (z ∷ zs) zero x y h = refl
set-same (z ∷ zs) (suc i) x y h = set-same zs i x y h

pub set-other : {X : Type 0} (xs : List X) (i j : ℕ) (y : X) → (j ≡ i → ⊥) → slice_get (slice_set xs i y) j ≡ slice_get xs j
set-other [] i j y h = refl
set-other (z ∷ zs) zero zero y h = absurd (h refl)
set-other (z ∷ zs) zero (suc j) y h = refl
set-other (z ∷ zs) (suc i) zero y h = refl
set-other (z ∷ zs) (suc i) (suc j) y h = set-other zs i j y (λ e. h (ap suc e))

-- a machine that is left isn't that of the variable that was taken out
pub without-other : (ms : Family) (x v : ℕ) (m : Graph) → HasMachine (without ms x) v m → v ≡ x → ⊥
without-other [] x v m h e = no-machine v m h
without-other (o ∷ ms) zero zero m h e = none-machine ms m h
without-other (o ∷ ms) zero (suc v) m h e = omega (arith, e)
without-other (o ∷ ms) (suc x) zero m h e = omega (arith, e)
without-other (o ∷ ms) (suc x) (suc v) m h e = without-other ms x v m h (omega (arith, e))

pub put-same : (words : Words) (x : ℕ) (w : Word) → put words x w x ≡ w
put-same words x w = ap (λ b. cond b w (words x)) (eq-eqb x x refl)

pub put-other : (words : Words) (x : ℕ) (w : Word) (v : ℕ) → (v ≡ x → ⊥) → put words x w v ≡ words v
put-other words x w v h = ap (λ b. cond b w (words v)) (ne_eqb v x h)

-- the word of a variable that was taken out is free
pub free-put : (width : ℕ) (ms : Family) (x : ℕ) (words : Words) (w : Word) (totals : List ℕ) → Conf width (without ms x) words totals ↔ Conf width (without ms x) (put words x w) totals
free-put width ms x words w totals = (
  conf-agree width (without ms x) words (put words x w) (λ v m h. sym (put-other words x w v (without-other ms x v m h))) totals,
  conf-agree width (without ms x) (put words x w) words (λ v m h. put-other words x w v (without-other ms x v m h)) totals,
)

-- machines of one width make a family of this width
pub all-wide : (width : ℕ) (machines : List Graph) → ((m : Graph) → Contains machines m → m.registers ≡ width) → AreWide width (map Some machines)
all-wide width [] h v m e = absurd (no-machine v m e)
all-wide width (k ∷ ks) h zero m e =
    let same = first-machine k m (map Some ks) e in
    ap (λ (g : Graph). g.registers) (sym same) ∙ h k (zero, omega arith, refl)
all-wide width (k ∷ ks) h (suc v) m e = all-wide width ks (λ n i. h n (suc i.0, omega (arith, i.1), i.2)) v m e
