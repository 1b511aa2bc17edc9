-- The costs at which the parts of a product can take their shares in a step or an end.
use Rattle.std.proofs.Common.{◌≡◌, ℕ, zero, suc, ◌+◌, ◌<◌, ◌≤◌, ◌↔◌, List, [], ◌∷◌, ◌++◌, length, take, get_or, slice_get, Any, Some, None, Contains, IsTrue, refl, ap, sym, ◌∙◌, subst, arith, add-one, inl, inr, Option}
use Rattle.sv_list.specs.Lists.{Any-none, Any-append_left, Any-push_cases, Contains-here, Contains-there, slice_get-push_cases, stands-at, some-once}
use Rattle.machine_core.specs.Costs.{add_costs, sum_costs}
use Rattle.machine_core.specs.Moves.{Moves}
use Rattle.machine_core.specs.declared.machine.Move.{Move}
use Rattle.sv_word.specs.Ranges.{in_ranges}
use Rattle.machine_meet.specs.Products.{AreStates, MeetEnds, MeetSteps}
use Rattle.machine_meet.specs.Splits.{Picks, AreCostsWide, AreOptions, AreSteps, as_step}
use Rattle.machine_meet.proofs.JoinLemmas.{take-push}
use Rattle.std.proofs.lemmas.List.{take_all, length-take-le}
use Rattle.std.proofs.lemmas.Cmp.{tied_itself}
use Rattle.std.specs.Cmp.{IsTotalOrder}
use Rattle.std.specs.Ordering.{is_eq}
use Rattle.std.specs.declared.cmp.Ordering.{Ordering}
use Rattle.std.specs.declared.cmp.Ordering.TheVariants.{Less, Equal, Greater}
use Rattle.std.specs.Option.{IsSome}
use Rattle.std.proofs.lemmas.Option.{none-some, slice_get_within}
use Rattle.std.proofs.lemmas.List.Quantifiers.{Any-push}
use Rattle.machine_meet.specs.Splits.{IsPick}
use Rattle.machine_meet.proofs.PlaceLemmas.{length-push}

module _ {P S : Type 0} (steps : P → S → ℕ → List ℕ → S → Type 0) where
  -- options of the parts after the first
  options-tail : (p : P) (ps : List P) (s : S) (ss : List S) (c : ℕ) (t : S) (ts : List S) (o : List (List ℕ)) (os : List (List (List ℕ)))
      → AreOptions steps (p ∷ ps) (s ∷ ss) c (t ∷ ts) (o ∷ os) → AreOptions steps ps ss c ts os
  options-tail p ps s ss c t ts o os h = let n = h.count in record { count = omega arith; each = λ j. h.each (suc j) }

  -- what a step of the product costs is a sum of options
  pub picked-step : (w : ℕ) (ps : List P) (ss : List S) (c : ℕ) (cost : List ℕ) (ts : List S) (os : List (List (List ℕ)))
      → MeetSteps steps w ps ss c cost ts → AreOptions steps ps ss c ts os → (ks : List (List ℕ)) × Picks os ks × (sum_costs w ks ≡ cost)
  picked-step w [] [] c cost ts [] m h = ([], tt, sym m.1)
  picked-step w [] [] c cost ts (o ∷ os) m h = let n = h.count in absurd (omega arith)
  picked-step w [] (s ∷ ss) c cost ts os m h = absurd m
  picked-step w (p ∷ ps) [] c cost ts os m h = absurd m
  picked-step w (p ∷ ps) (s ∷ ss) c cost ts [] m h = let n = h.count in absurd (omega arith)
  picked-step w (p ∷ ps) (s ∷ ss) c cost ts (o ∷ os) m h =
      let h2 = subst (λ x. AreOptions steps (p ∷ ps) (s ∷ ss) c x (o ∷ os)) (sym m.7) h in
      let r = picked-step w ps ss c m.1 m.3 os m.5 (options-tail p ps s ss c m.2 m.3 o os h2) in
      (m.0 ∷ r.0, ((h2.each zero p s m.2 o refl refl refl refl m.0).0 m.4, r.1), ap (add_costs m.0) r.2 ∙ m.6)

  picks-length : (os : List (List (List ℕ))) (ks : List (List ℕ)) → Picks os ks → length ks ≡ length os
  picks-length [] [] h = refl
  picks-length [] (k ∷ ks) h = absurd h
  picks-length (o ∷ os) [] h = absurd h
  picks-length (o ∷ os) (k ∷ ks) h = ap suc (picks-length os ks h.1)

  picks-at : (os : List (List (List ℕ))) (ks : List (List ℕ)) → Picks os ks → (j : ℕ) (k : List ℕ) → slice_get ks j ≡ Some k
      → (o : List (List ℕ)) × (slice_get os j ≡ Some o) × Any (λ e. e ≡ k) o
  picks-at [] [] h j k e = absurd (none-some k e)
  picks-at [] (x ∷ ks) h j k e = absurd h
  picks-at (o ∷ os) [] h j k e = absurd h
  picks-at (o ∷ os) (x ∷ ks) h zero k e = let same : x ≡ k = cc in (o, refl, subst (λ z. Any (λ e. e ≡ z) o) same h.0)
  picks-at (o ∷ os) (x ∷ ks) h (suc j) k e = picks-at os ks h.1 j k e

  -- costs that are picked out of options are those of steps
  pub picks-are-steps : (ps : List P) (ss : List S) (c : ℕ) (ts : List S) (os : List (List (List ℕ))) (ks : List (List ℕ))
      → AreOptions steps ps ss c ts os → Picks os ks → AreSteps steps ps ss c ts ks
  picks-are-steps ps ss c ts os ks h p = record {
    count = picks-length os ks p ∙ h.count;
    each = λ j q s t k eq es et ek. let o = picks-at os ks p j k ek in (h.each j q s t o.0 eq es et o.1 k).1 o.2;
  }

  -- options have the width of the steps
  pub options-wide : (is_state : P → S → Type 0) (w : ℕ) (ps : List P) (ss : List S) (c : ℕ) (ts : List S) (os : List (List (List ℕ)))
      → ((p : P) (s t : S) (c : ℕ) (k : List ℕ) → Contains ps p → is_state p s → steps p s c k t → length k ≡ w)
      → length ts ≡ length ps → AreStates is_state ps ss → AreOptions steps ps ss c ts os → AreCostsWide w os
  options-wide is_state w [] ss c ts [] wide len st h = tt
  options-wide is_state w [] ss c ts (o ∷ os) wide len st h = let n = h.count in absurd (omega arith)
  options-wide is_state w (p ∷ ps) ss c ts [] wide len st h = tt
  options-wide is_state w (p ∷ ps) [] c ts (o ∷ os) wide len st h = absurd st
  options-wide is_state w (p ∷ ps) (s ∷ ss) c [] (o ∷ os) wide len st h = absurd (omega arith)
  options-wide is_state w (p ∷ ps) (s ∷ ss) c (t ∷ ts) (o ∷ os) wide len st h = (
    λ k a. wide p s t c k (Contains-here p ps) st.0 ((h.each zero p s t o refl refl refl refl k).1 a),
    options-wide is_state w ps ss c ts os (λ q u v d k i. wide q u v d k (Contains-there p ps q i)) (omega arith) st.1 (options-tail p ps s ss c t ts o os h),
  )

-- what an end of the product costs is a sum of options
pub picked-end : {P S : Type 0} (ends : P → S → List ℕ → Type 0) (w : ℕ) (ps : List P) (ss : List S) (cost : List ℕ) (os : List (List (List ℕ)))
    → MeetEnds ends w ps ss cost → AreOptions (as_step ends) ps ss 0 ss os → (ks : List (List ℕ)) × Picks os ks × (sum_costs w ks ≡ cost)
picked-end ends w [] [] cost [] m h = ([], tt, sym m)
picked-end ends w [] [] cost (o ∷ os) m h = let n = h.count in absurd (omega arith)
picked-end ends w [] (s ∷ ss) cost os m h = absurd m
picked-end ends w (p ∷ ps) [] cost os m h = absurd m
picked-end ends w (p ∷ ps) (s ∷ ss) cost [] m h = let n = h.count in absurd (omega arith)
picked-end ends w (p ∷ ps) (s ∷ ss) cost (o ∷ os) m h =
    let r = picked-end ends w ps ss m.1 os m.3 (options-tail (as_step ends) p ps s ss 0 s ss o os h) in
    (m.0 ∷ r.0, ((h.each zero p s s o refl refl refl refl m.0).0 m.2, r.1), ap (add_costs m.0) r.2 ∙ m.4)

module _ {P S : Type 0} (steps : P → S → ℕ → List ℕ → S → Type 0) (ss : List S) (c : ℕ) (ts : List S) where
  pub options-start : AreOptions steps [] ss c ts []
  options-start = record { count = refl; each = λ j p s t o ep es et eo. absurd (none-some o eo) }

  pub options-push : (ps : List P) (os : List (List (List ℕ))) (p : P) (s t : S) (o : List (List ℕ)) → AreOptions steps ps ss c ts os
      → slice_get ss (length ps) ≡ Some s → slice_get ts (length ps) ≡ Some t → ((k : List ℕ) → steps p s c k t ↔ Any (λ e. e ≡ k) o)
      → AreOptions steps (ps ++ p ∷ []) ss c ts (os ++ o ∷ [])
  options-push ps os p s t o h fs ft exact = record {
    count = length-push os o ∙ ap suc h.count ∙ sym (length-push ps p);
    each = λ j q u v x eq eu ev ex. elim (slice_get-push_cases ps p j q eq) [
      | inl a ↦ elim (slice_get-push_cases os o j x ex) [
        | inl b ↦ h.each j q u v x a eu ev b
        | inr b ↦ let lt = slice_get_within ps j q a in let n = h.count in let at = b.0 in absurd (omega arith)
      ]
      | inr a ↦ elim (slice_get-push_cases os o j x ex) [
        | inl b ↦ let lt = slice_get_within os j x b in let n = h.count in let at = a.0 in absurd (omega arith)
        | inr b ↦
            let from = some-once (slice_get ss j) s u (subst (λ i. slice_get ss i ≡ Some s) (sym a.0) fs) eu in
            let to = some-once (slice_get ts j) t v (subst (λ i. slice_get ts i ≡ Some t) (sym a.0) ft) ev in
            subst (λ z. (k : List ℕ) → steps q u c k v ↔ Any (λ e. e ≡ k) z) b.1
            (subst (λ z. (k : List ℕ) → steps q u c k z ↔ Any (λ e. e ≡ k) o) to
            (subst (λ z. (k : List ℕ) → steps q z c k t ↔ Any (λ e. e ≡ k) o) from
            (subst (λ z. (k : List ℕ) → steps z s c k t ↔ Any (λ e. e ≡ k) o) a.1 exact)))
      ]
    ];
  }

-- the costs of the moves that read `c` and lead to `to`, after one move more
module _ {S : Type 0} (c : ℕ) (to : S) where
  abbrev pub Costs : List (Move S) → List (List ℕ) → Type 0
  Costs moves costs = (k : List ℕ) → Any (λ e. e ≡ k) costs ↔ Any (Moves c k to) moves

  pub costs-start : Costs [] []
  costs-start k = (λ a. absurd (Any-none (λ e. e ≡ k) a), λ a. absurd (Any-none (Moves c k to) a))

  pub costs-pass : (moves : List (Move S)) (costs : List (List ℕ)) (m : Move S) → Costs moves costs
      → ((IsTrue (in_ranges m.on c) × (m.to ≡ to)) → ⊥) → Costs (moves ++ m ∷ []) costs
  costs-pass moves costs m h wrong k = (
    λ a. Any-append_left (Moves c k to) moves (m ∷ []) ((h k).0 a),
    λ a. elim (Any-push_cases (Moves c k to) moves m a) [ inl b ↦ (h k).1 b | inr b ↦ absurd (wrong (b.0, b.2)) ],
  )

  pub costs-take : (moves : List (Move S)) (costs : List (List ℕ)) (m : Move S) → Costs moves costs
      → IsTrue (in_ranges m.on c) × (m.to ≡ to) → Costs (moves ++ m ∷ []) (costs ++ m.cost ∷ [])
  costs-take moves costs m h fitting k = (
    λ a. elim (Any-push_cases (λ e. e ≡ k) costs m.cost a) [
      | inl b ↦ Any-append_left (Moves c k to) moves (m ∷ []) ((h k).0 b)
      | inr b ↦ Any-push (Moves c k to) moves m (fitting.0, b, fitting.1)
    ],
    λ a. elim (Any-push_cases (Moves c k to) moves m a) [
      | inl b ↦ Any-append_left (λ e. e ≡ k) costs (m.cost ∷ []) ((h k).1 b)
      | inr b ↦ Any-push (λ e. e ≡ k) costs m.cost b.1
    ],
  )

  pub costs-next : (moves : List (Move S)) (costs new : List (List ℕ)) (i : ℕ) (m : Move S) (k : List ℕ) → i < length moves → m ≡ get_or moves i m
      → Costs (take i moves) costs → IsTrue (in_ranges m.on c) × (m.to ≡ to) → k ≡ m.cost → new ≡ costs ++ k ∷ [] → Costs (take (i + 1) moves) new
  costs-next moves costs new i m k lt is h fitting copied pushed =
      let e : take (i + 1) moves ≡ take i moves ++ m ∷ [] = rw add-one (take-push moves i m lt ∙ ap (λ q. take i moves ++ q ∷ []) (sym is)) in
      let grown : new ≡ costs ++ m.cost ∷ [] = pushed ∙ ap (λ x. costs ++ x ∷ []) copied in
      subst (λ ms. Costs ms new) (sym e) (subst (Costs (take i moves ++ m ∷ [])) (sym grown) (costs-take (take i moves) costs m h fitting))

  pub costs-same : (moves : List (Move S)) (costs new : List (List ℕ)) (i : ℕ) (m : Move S) → i < length moves → m ≡ get_or moves i m
      → Costs (take i moves) costs → ((IsTrue (in_ranges m.on c) × (m.to ≡ to)) → ⊥) → new ≡ costs → Costs (take (i + 1) moves) new
  costs-same moves costs new i m lt is h wrong same =
      let e : take (i + 1) moves ≡ take i moves ++ m ∷ [] = rw add-one (take-push moves i m lt ∙ ap (λ q. take i moves ++ q ∷ []) (sym is)) in
      subst (λ ms. Costs ms new) (sym e) (subst (Costs (take i moves ++ m ∷ [])) (sym same) (costs-pass (take i moves) costs m h wrong))

  pub costs-all : (moves : List (Move S)) (costs : List (List ℕ)) (i : ℕ) → length moves ≤ i → Costs (take i moves) costs → Costs moves costs
  costs-all moves costs i le h = subst (λ ms. Costs ms costs) (take_all i moves le) h

  -- the costs of the steps to `to` are those of the moves
  pub costs-exact : (steps : ℕ → List ℕ → S → Type 0) (moves slice : List (Move S)) (costs : List (List ℕ))
      → ((d : ℕ) (k : List ℕ) (t : S) → steps d k t ↔ Any (Moves d k t) moves) → slice ≡ moves → Costs slice costs → (k : List ℕ) → steps c k to ↔ Any (λ e. e ≡ k) costs
  costs-exact steps moves slice costs exact same h k =
      let g = subst (λ ms. Costs ms costs) same h in
      (λ st. (g k).1 ((exact c k to).0 st), λ a. (exact c k to).1 ((g k).0 a))

module _ {P S : Type 0} (steps : P → S → ℕ → List ℕ → S → Type 0) (ss : List S) (c : ℕ) (ts : List S) (ps : List P) where
  -- the options after those of the part at `i`
  pub options-next : (os new : List (List (List ℕ))) (i : ℕ) (p : P) (s t : S) (o : List (List ℕ)) → i < length ps → length ss ≡ length ps → length ts ≡ length ps
      → p ≡ get_or ps i p → s ≡ get_or ss i s → t ≡ get_or ts i t → AreOptions steps (take i ps) ss c ts os
      → ((k : List ℕ) → steps p s c k t ↔ Any (λ e. e ≡ k) o) → new ≡ os ++ o ∷ [] → AreOptions steps (take (i + 1) ps) ss c ts new
  options-next os new i p s t o lt ls lts ep es et h exact pushed =
      let e : take (i + 1) ps ≡ take i ps ++ p ∷ [] = rw add-one (take-push ps i p lt ∙ ap (λ q. take i ps ++ q ∷ []) (sym ep)) in
      let n : length (take i ps) ≡ i = length-take-le i ps (omega arith) in
      let from : slice_get ss (length (take i ps)) ≡ Some s = subst (λ j. slice_get ss j ≡ Some s) (sym n) (stands-at ss i s (omega arith) es) in
      let to : slice_get ts (length (take i ps)) ≡ Some t = subst (λ j. slice_get ts j ≡ Some t) (sym n) (stands-at ts i t (omega arith) et) in
      subst (λ qs. AreOptions steps qs ss c ts new) (sym e) (subst (AreOptions steps (take i ps ++ p ∷ []) ss c ts) (sym pushed)
      (options-push steps ss c ts (take i ps) os p s t o h from to exact))

  pub options-all : (os : List (List (List ℕ))) (i : ℕ) → length ps ≤ i → AreOptions steps (take i ps) ss c ts os → AreOptions steps ps ss c ts os
  options-all os i le h = subst (λ qs. AreOptions steps qs ss c ts os) (take_all i ps le) h

-- states that compare equal are the same
pub equal-same : {S : Type 0} (cmp : S → S → Ordering) → IsTotalOrder cmp → ((a b : S) → cmp a b ≡ Equal → a ≡ b) → (a b : S) → IsTrue (is_eq (cmp a b)) ↔ (a ≡ b)
equal-same cmp total same a b = (λ h. same a b (equal (cmp a b) h), λ e. ap is_eq (subst (λ x. cmp a x ≡ Equal) e (tied_itself total a)))
  where
    equal : (r : Ordering) → IsTrue (is_eq r) → r ≡ Equal
    equal Less h = cc
    equal Equal h = refl
    equal Greater h = cc

-- where some costs can be picked, some are
pub picked-some : (os : List (List (List ℕ))) (want : List ℕ) (ks : List (List ℕ)) (picked : Option (List (List ℕ))) → Picks os ks → sum_costs (length want) ks ≡ want
    → IsPick os want picked → IsSome picked
picked-some os want ks None p e h = absurd (h ks p e)
picked-some os want ks (Some x) p e h = refl

-- what is picked out of the options of a step, or of an end
module _ {P S : Type 0} (is_state : P → S → Type 0) (width : P → ℕ) (ps : List P) (want : List ℕ) (agree : (p : P) → Contains ps p → width p ≡ length want) where
  pub step-picks : (steps : P → S → ℕ → List ℕ → S → Type 0) → ((p : P) (s t : S) (c : ℕ) (k : List ℕ) → is_state p s → steps p s c k t → length k ≡ width p)
      → (ss : List S) (c : ℕ) (ts : List S) (os slice : List (List (List ℕ))) (picked : Option (List (List ℕ)))
      → AreStates is_state ps ss → length ts ≡ length ps → AreOptions steps ps ss c ts os → slice ≡ os
      → (ks : List (List ℕ)) × Picks os ks × (sum_costs (length want) ks ≡ want)
      → (AreCostsWide (length want) slice → IsPick slice want picked)
      → IsSome picked × ((ks : List (List ℕ)) → picked ≡ Some ks → AreSteps steps ps ss c ts ks × (sum_costs (length want) ks ≡ want))
  step-picks steps step_width ss c ts os slice picked states count options same some h =
      let wide = options-wide steps is_state (length want) ps ss c ts os (λ p s t d k i st e. step_width p s t d k st e ∙ agree p i) count states options in
      let pick = subst (λ x. IsPick x want picked) same (h (subst (AreCostsWide (length want)) (sym same) wide)) in (
        picked-some os want some.0 picked some.1 some.2 pick,
        λ ks e. let is = subst (IsPick os want) e pick in (picks-are-steps steps ps ss c ts os ks options is.0, is.1),
      )
