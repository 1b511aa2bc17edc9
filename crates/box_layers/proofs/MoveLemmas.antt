-- What leaves a layer is what leaves the state of the machine at work, as long as it can be paid.
use Rattle.std.proofs.Common.{◌≡◌, ℕ, zero, suc, ◌+◌, ◌<◌, ◌≤◌, Bool, true, false, cond, nat_lt, List, [], ◌∷◌, ◌++◌, length, map, take, get_or, refl, ap, sym, ◌∙◌, subst, arith, take_all}
use Rattle.std.proofs.lemmas.Bool.Decides.{nat_tests}
use Rattle.std.proofs.lemmas.List.{take_more}
use Rattle.machine_core.specs.Costs.{add_costs}
use Rattle.machine_core.specs.declared.machine.Move.{Move}
use Rattle.box_layers.specs.declared.layer.Layer.{Layer}
use Rattle.box_layers.specs.Layers.{layer, AreWithinGreatest}
use Rattle.box_layers.specs.Moving.{is_below, step_move, end_move, step_moves, end_moves}

pub below-true : (vs us : List ℕ) → AreWithinGreatest vs us → is_below vs us ≡ true
below-true [] [] h = refl
below-true [] (u ∷ us) h = absurd h
below-true (v ∷ vs) [] h = absurd h
below-true (v ∷ vs) (u ∷ us) h = by_test (nat_lt u v) refl (below-true vs us h.1)
  where
    by_test : (b : Bool) → nat_lt u v ≡ b → is_below vs us ≡ true → cond b false (is_below vs us) ≡ true
    by_test true e r = absurd (let le = h.0 in grind (arith, nat_tests))
    by_test false e r = r

pub below-false : (vs us : List ℕ) → (AreWithinGreatest vs us → ⊥) → is_below vs us ≡ false
below-false [] [] h = absurd (h tt)
below-false [] (u ∷ us) h = refl
below-false (v ∷ vs) [] h = refl
below-false (v ∷ vs) (u ∷ us) h = by_test (nat_lt u v) refl (below-false vs us)
  where
    by_test : (b : Bool) → nat_lt u v ≡ b → ((AreWithinGreatest vs us → ⊥) → is_below vs us ≡ false) → cond b false (is_below vs us) ≡ false
    by_test true e r = refl
    by_test false e r = r (λ low. h (grind (arith, nat_tests), low))

-- one move more
module _ (us : List ℕ) (at : Layer) where
  pub one-step-paid : (m : Move ℕ) → AreWithinGreatest (add_costs at.spent m.cost) us → step_moves us at (m ∷ []) ≡ step_move at m ∷ []
  one-step-paid m h = rw (below-true (add_costs at.spent m.cost) us h) refl

  pub one-step-unpaid : (m : Move ℕ) → (AreWithinGreatest (add_costs at.spent m.cost) us → ⊥) → step_moves us at (m ∷ []) ≡ []
  one-step-unpaid m h = rw (below-false (add_costs at.spent m.cost) us h) refl

  pub one-end-paid : (single : List (ℕ × ℕ)) (k : List ℕ) → AreWithinGreatest (add_costs at.spent k) us → end_moves us single at (k ∷ []) ≡ end_move single at k ∷ []
  one-end-paid single k h = rw (below-true (add_costs at.spent k) us h) refl

  pub one-end-unpaid : (single : List (ℕ × ℕ)) (k : List ℕ) → (AreWithinGreatest (add_costs at.spent k) us → ⊥) → end_moves us single at (k ∷ []) ≡ []
  one-end-unpaid single k h = rw (below-false (add_costs at.spent k) us h) refl

  pub step-pushed : (m : Move ℕ) (old new : List (Move Layer)) (on : List (ℕ × ℕ)) (cost spent : List ℕ) → (spent ≡ add_costs at.spent m.cost) × AreWithinGreatest spent us → on ≡ m.on → cost ≡ m.cost
      → new ≡ old ++ record { on = on; cost = cost; to = layer at.machine m.to spent } ∷ [] → new ≡ old ++ step_moves us at (m ∷ [])
  step-pushed m old new on cost spent paid a b e =
      e ∙ ap (λ (l : List (ℕ × ℕ)). old ++ record { on = l; cost = cost; to = layer at.machine m.to spent } ∷ []) a
      ∙ ap (λ (l : List ℕ). old ++ record { on = m.on; cost = l; to = layer at.machine m.to spent } ∷ []) b
      ∙ ap (λ (l : List ℕ). old ++ record { on = m.on; cost = m.cost; to = layer at.machine m.to l } ∷ []) paid.0
      ∙ ap (λ l. old ++ l) (sym (one-step-paid m (subst (λ l. AreWithinGreatest l us) paid.0 paid.1)))

  pub end-pushed : (single : List (ℕ × ℕ)) (k : List ℕ) (old new : List (Move Layer)) (on : List (ℕ × ℕ)) (cost spent : List ℕ) (next : ℕ) → (spent ≡ add_costs at.spent k) × AreWithinGreatest spent us → on ≡ single → cost ≡ k → next ≡ suc at.machine
      → new ≡ old ++ record { on = on; cost = cost; to = layer next 0 spent } ∷ [] → new ≡ old ++ end_moves us single at (k ∷ [])
  end-pushed single k old new on cost spent next paid a b n e =
      e ∙ ap (λ (l : List (ℕ × ℕ)). old ++ record { on = l; cost = cost; to = layer next 0 spent } ∷ []) a
      ∙ ap (λ (l : List ℕ). old ++ record { on = single; cost = l; to = layer next 0 spent } ∷ []) b
      ∙ ap (λ (l : List ℕ). old ++ record { on = single; cost = k; to = layer next 0 l } ∷ []) paid.0
      ∙ ap (λ (l : ℕ). old ++ record { on = single; cost = k; to = layer l 0 (add_costs at.spent k) } ∷ []) n
      ∙ ap (λ l. old ++ l) (sym (one-end-paid single k (subst (λ l. AreWithinGreatest l us) paid.0 paid.1)))

  pub nothing-pushed : (old moves : List (Move Layer)) → moves ≡ [] → old ≡ old ++ moves
  nothing-pushed old moves e = rw e (sym (append-nil old))
    where
      append-nil : (xs : List (Move Layer)) → xs ++ [] ≡ xs
      append-nil [] = refl
      append-nil (x ∷ xs) = ap (λ l. x ∷ l) (append-nil xs)

  pub steps-more : (ms : List (Move ℕ)) (m : Move ℕ) → step_moves us at (ms ++ m ∷ []) ≡ step_moves us at ms ++ step_moves us at (m ∷ [])
  steps-more [] m = refl
  steps-more (n ∷ ms) m = by_test (is_below (add_costs at.spent n.cost) us) (steps-more ms m)
    where
      by_test : (b : Bool) → step_moves us at (ms ++ m ∷ []) ≡ step_moves us at ms ++ step_moves us at (m ∷ [])
          → cond b (step_move at n ∷ step_moves us at (ms ++ m ∷ [])) (step_moves us at (ms ++ m ∷ [])) ≡ cond b (step_move at n ∷ step_moves us at ms) (step_moves us at ms) ++ step_moves us at (m ∷ [])
      by_test true e = ap (λ l. step_move at n ∷ l) e
      by_test false e = e

  pub ends-more : (single : List (ℕ × ℕ)) (ks : List (List ℕ)) (k : List ℕ) → end_moves us single at (ks ++ k ∷ []) ≡ end_moves us single at ks ++ end_moves us single at (k ∷ [])
  ends-more single [] k = refl
  ends-more single (n ∷ ks) k = by_test (is_below (add_costs at.spent n) us) (ends-more single ks k)
    where
      by_test : (b : Bool) → end_moves us single at (ks ++ k ∷ []) ≡ end_moves us single at ks ++ end_moves us single at (k ∷ [])
          → cond b (end_move single at n ∷ end_moves us single at (ks ++ k ∷ [])) (end_moves us single at (ks ++ k ∷ [])) ≡ cond b (end_move single at n ∷ end_moves us single at ks) (end_moves us single at ks) ++ end_moves us single at (k ∷ [])
      by_test true e = ap (λ l. end_move single at n ∷ l) e
      by_test false e = e

  pub steps-next : (ms : List (Move ℕ)) (i : ℕ) (m : Move ℕ) (all new : List (Move Layer)) → i < length ms → m ≡ get_or ms i m → all ≡ step_moves us at (take i ms) → new ≡ all ++ step_moves us at (m ∷ [])
      → new ≡ step_moves us at (take (i + 1) ms)
  steps-next ms i m all new lt is e f =
      f ∙ ap (λ l. l ++ step_moves us at (m ∷ [])) e ∙ sym (ap (step_moves us at) (take_more ms i m lt ∙ ap (λ (x : Move ℕ). take i ms ++ x ∷ []) (sym is)) ∙ steps-more (take i ms) m)

  pub ends-next : (single : List (ℕ × ℕ)) (ks : List (List ℕ)) (i : ℕ) (k : List ℕ) (all new : List (Move Layer)) → i < length ks → k ≡ get_or ks i k → all ≡ end_moves us single at (take i ks) → new ≡ all ++ end_moves us single at (k ∷ [])
      → new ≡ end_moves us single at (take (i + 1) ks)
  ends-next single ks i k all new lt is e f =
      f ∙ ap (λ l. l ++ end_moves us single at (k ∷ [])) e ∙ sym (ap (end_moves us single at) (take_more ks i k lt ∙ ap (λ (x : List ℕ). take i ks ++ x ∷ []) (sym is)) ∙ ends-more single (take i ks) k)

-- what is paid up to a register
pub pay-step : (vs ks : List ℕ) (ss : List (ℕ × ℕ)) (i : ℕ) (d e : ℕ) (f : ℕ × ℕ) (sum new : List ℕ) (n : ℕ) → length ks ≡ length vs → length ss ≡ length vs → i < length vs
    → sum ≡ add_costs (take i vs) (take i ks) → AreWithinGreatest sum (map (λ (s : ℕ × ℕ). s.1) (take i ss)) → (n ≡ get_or vs i d + get_or ks i e) × (n ≤ (get_or ss i f).1) → new ≡ sum ++ n ∷ []
    → (new ≡ add_costs (take (i + 1) vs) (take (i + 1) ks)) × AreWithinGreatest new (map (λ (s : ℕ × ℕ). s.1) (take (i + 1) ss))
pay-step vs ks ss i d e f sum new n p q lt is low (a, b) push = (
  push ∙ ap (λ l. l ++ n ∷ []) is ∙ ap (λ m. add_costs (take i vs) (take i ks) ++ m ∷ []) a ∙ sym (sums vs ks i (omega arith) lt (omega arith)) ∙ ap (λ m. add_costs (take m vs) (take m ks)) (let z : suc i ≡ i + 1 = omega arith in z),
  rw push (subst (λ m. AreWithinGreatest (sum ++ n ∷ []) (map (λ (s : ℕ × ℕ). s.1) (take m ss))) (let z : suc i ≡ i + 1 = omega arith in z) (lows ss i sum (omega arith) b low)),
)
  where
    sums : (vs ks : List ℕ) (i : ℕ) → length ks ≡ length vs → i < length vs → i < length ks → add_costs (take (suc i) vs) (take (suc i) ks) ≡ add_costs (take i vs) (take i ks) ++ (get_or vs i d + get_or ks i e) ∷ []
    sums [] ks i p l m = absurd (omega arith)
    sums (v ∷ vs) [] i p l m = absurd (omega arith)
    sums (v ∷ vs) (k ∷ ks) zero p l m = refl
    sums (v ∷ vs) (k ∷ ks) (suc i) p l m = ap (λ t. (v + k) ∷ t) (sums vs ks i (omega arith) (omega arith) (omega arith))

    lows : (ss : List (ℕ × ℕ)) (i : ℕ) (sum : List ℕ) → i < length ss → n ≤ (get_or ss i f).1 → AreWithinGreatest sum (map (λ (s : ℕ × ℕ). s.1) (take i ss)) → AreWithinGreatest (sum ++ n ∷ []) (map (λ (s : ℕ × ℕ). s.1) (take (suc i) ss))
    lows [] i sum l b h = absurd (omega arith)
    lows (s ∷ ss) zero [] l b h = (b, tt)
    lows (s ∷ ss) zero (x ∷ sum) l b h = absurd h
    lows (s ∷ ss) (suc i) [] l b h = absurd h
    lows (s ∷ ss) (suc i) (x ∷ sum) l b h = (h.0, lows ss i sum (omega arith) b h.1)

-- a register that can't be paid
pub pay-above : (vs ks : List ℕ) (ss : List (ℕ × ℕ)) (i : ℕ) (d e : ℕ) (f : ℕ × ℕ) → i < length vs → (get_or vs i d + get_or ks i e ≤ (get_or ss i f).1 → ⊥)
    → length ks ≡ length vs → length ss ≡ length vs → AreWithinGreatest (add_costs vs ks) (map (λ (s : ℕ × ℕ). s.1) ss) → ⊥
pay-above [] ks ss i d e f lt never p q h = absurd (omega arith)
pay-above (v ∷ vs) [] ss i d e f lt never p q h = absurd (omega arith)
pay-above (v ∷ vs) (k ∷ ks) [] i d e f lt never p q h = absurd (omega arith)
pay-above (v ∷ vs) (k ∷ ks) (s ∷ ss) zero d e f lt never p q h = never h.0
pay-above (v ∷ vs) (k ∷ ks) (s ∷ ss) (suc i) d e f lt never p q h = pay-above vs ks ss i d e f (omega arith) never (omega arith) (omega arith) h.1

pub pay-end : (vs ks : List ℕ) (ss : List (ℕ × ℕ)) (i : ℕ) (sum : List ℕ) → length ks ≡ length vs → length ss ≡ length vs → length vs ≤ i
    → sum ≡ add_costs (take i vs) (take i ks) → AreWithinGreatest sum (map (λ (s : ℕ × ℕ). s.1) (take i ss)) → (sum ≡ add_costs vs ks) × AreWithinGreatest sum (map (λ (s : ℕ × ℕ). s.1) ss)
pay-end vs ks ss i sum p q le is low = (
  is ∙ ap (λ l. add_costs l (take i ks)) (take_all i vs le) ∙ ap (add_costs vs) (take_all i ks (omega arith)),
  subst (λ l. AreWithinGreatest sum (map (λ (s : ℕ × ℕ). s.1) l)) (take_all i ss (omega arith)) low,
)
