-- Places of layers in a table.
use Rattle.std.proofs.Common.{◌≡◌, ℕ, zero, suc, ◌+◌, ◌-◌, ◌*◌, ◌<◌, ◌≤◌, max, List, [], ◌∷◌, length, take, drop, Some, slice_get, slice_index_or, get_or, refl, ap, sym, ◌∙◌, subst, arith}
use Rattle.std.proofs.lemmas.List.{take_more}
use Rattle.std.proofs.lemmas.Option.{slice_get-get_or}
use Rattle.std.proofs.lemmas.Nat.{mul-le}
use Rattle.machine_core.specs.declared.graph.Graph.{Graph}
use Rattle.machine_core.specs.CostLaws.{top_by-push}
use Rattle.search_hits.specs.Regions.{greatest_states}
use Rattle.box_layers.specs.declared.layer.Layer.{Layer}
use Rattle.box_layers.specs.Layers.{AreWithinGreatest}
use Rattle.box_search.specs.Places.{number_of, numbers_below, HasPlace, place_of}
use Rattle.box_search.proofs.DigitLemmas.{digit-below, digit-same, number-below, number-same}
use Rattle.box_search.specs.declared.places.TheConstants.{MOST_PLACES}

pub numbers-some : (us : List ℕ) → 1 ≤ numbers_below us
numbers-some [] = omega arith
numbers-some (u ∷ us) = let m = mul-le 1 1 (u + 1) (numbers_below us) (omega arith) (numbers-some us) in omega arith

-- there are at least as many as where the first digits are left out
pub numbers-drop : (us : List ℕ) (i : ℕ) → numbers_below (drop i us) ≤ numbers_below us
numbers-drop [] zero = omega arith
numbers-drop [] (suc i) = omega arith
numbers-drop (u ∷ us) zero = omega arith
numbers-drop (u ∷ us) (suc i) = let m = mul-le 1 (numbers_below (drop i us)) (u + 1) (numbers_below us) (omega arith) (numbers-drop us i) in omega arith

-- how many there are from one digit on
pub numbers-step : (us : List ℕ) (i u : ℕ) → slice_get us i ≡ Some u → (u + 1) * numbers_below (drop (suc i) us) ≡ numbers_below (drop i us)
numbers-step [] i u f = cc
numbers-step (y ∷ us) zero u f = let same : y ≡ u = cc in rw same refl
numbers-step (y ∷ us) (suc i) u f = numbers-step us i u f

module _ (v u : ℕ) where
  pub digits-below : (vs us : List ℕ) (i : ℕ) → slice_get vs i ≡ Some v → slice_get us i ≡ Some u → v ≤ u → AreWithinGreatest (drop (suc i) vs) (drop (suc i) us) → AreWithinGreatest (drop i vs) (drop i us)
  digits-below [] us i e f le h = cc
  digits-below (x ∷ vs) [] i e f le h = cc
  digits-below (x ∷ vs) (y ∷ us) zero e f le h = let a : x ≡ v = cc in let b : y ≡ u = cc in (omega arith, h)
  digits-below (x ∷ vs) (y ∷ us) (suc i) e f le h = digits-below vs us i e f le h

  pub digits-number : (vs us : List ℕ) (i : ℕ) → slice_get vs i ≡ Some v → slice_get us i ≡ Some u → v + (u + 1) * number_of (drop (suc i) vs) (drop (suc i) us) ≡ number_of (drop i vs) (drop i us)
  digits-number [] us i e f = cc
  digits-number (x ∷ vs) [] i e f = cc
  digits-number (x ∷ vs) (y ∷ us) zero e f = let a : x ≡ v = cc in let b : y ≡ u = cc in rw (a, b) refl
  digits-number (x ∷ vs) (y ∷ us) (suc i) e f = digits-number vs us i e f

  -- no number so far is too great
  pub digits-few : (vs us : List ℕ) (i most : ℕ) → slice_get us i ≡ Some u → v ≤ u → AreWithinGreatest (drop (suc i) vs) (drop (suc i) us) → numbers_below us < most
      → (u + 1 < most) × (v + (u + 1) * number_of (drop (suc i) vs) (drop (suc i) us) < most)
  digits-few vs us i most f le h few =
      let rest = number-below (drop (suc i) vs) (drop (suc i) us) h in
      let all = numbers-step us i u f in
      let less = numbers-drop us i in
      let some = numbers-some (drop (suc i) us) in
      let base = mul-le (u + 1) 1 (u + 1) (numbers_below (drop (suc i) us)) (omega arith) some in
      let digit = digit-below v (u + 1) (number_of (drop (suc i) vs) (drop (suc i) us)) (numbers_below (drop (suc i) us)) (omega arith) rest in
      (omega arith, omega arith)

-- digits that are read from the end on
module _ (us : List ℕ) (at : ℕ) (some : 0 < at) where
  abbrev greatest : ℕ
  greatest = slice_index_or us (at - 1) 0

  one-more : suc (at - 1) ≡ at
  one-more = omega arith

  pub numbers-before : at ≤ length us → (greatest + 1) * numbers_below (drop at us) ≡ numbers_below (drop (at - 1) us)
  numbers-before within =
      subst (λ n. (greatest + 1) * numbers_below (drop n us) ≡ numbers_below (drop (at - 1) us)) one-more
      (numbers-step us (at - 1) greatest (slice_get-get_or us (at - 1) 0 (omega arith)))

  module _ (vs : List ℕ) (same : length vs ≡ length us) (within : at ≤ length vs) (le : slice_index_or vs (at - 1) 0 ≤ greatest) (below : AreWithinGreatest (drop at vs) (drop at us)) where
    abbrev digit : ℕ
    digit = slice_index_or vs (at - 1) 0

    has-digit : slice_get vs (at - 1) ≡ Some digit
    has-digit = slice_get-get_or vs (at - 1) 0 (omega arith)

    has-greatest : slice_get us (at - 1) ≡ Some greatest
    has-greatest = slice_get-get_or us (at - 1) 0 (omega arith)

    behind : AreWithinGreatest (drop (suc (at - 1)) vs) (drop (suc (at - 1)) us)
    behind = subst (λ n. AreWithinGreatest (drop n vs) (drop n us)) (sym one-more) below

    pub few-before : (most : ℕ) → numbers_below us < most → (greatest + 1 < most) × (digit + (greatest + 1) * number_of (drop at vs) (drop at us) < most)
    few-before most few =
        subst (λ n. (greatest + 1 < most) × (digit + (greatest + 1) * number_of (drop n vs) (drop n us) < most)) one-more
        (digits-few digit greatest vs us (at - 1) most has-greatest le behind few)

    pub below-before : AreWithinGreatest (drop (at - 1) vs) (drop (at - 1) us)
    below-before = digits-below digit greatest vs us (at - 1) has-digit has-greatest le behind

    pub number-before : digit + (greatest + 1) * number_of (drop at vs) (drop at us) ≡ number_of (drop (at - 1) vs) (drop (at - 1) us)
    number-before =
        subst (λ n. digit + (greatest + 1) * number_of (drop n vs) (drop n us) ≡ number_of (drop (at - 1) vs) (drop (at - 1) us)) one-more
        (digits-number digit greatest vs us (at - 1) has-digit has-greatest)

module _ (uppers : List ℕ) (states machines : ℕ) where
  pub row-below : (s : Layer) → HasPlace uppers states machines s → s.state + states * s.machine < states * machines
  row-below s h = digit-below s.state states s.machine machines h.state h.machine

  pub place-below : (s : Layer) → HasPlace uppers states machines s → place_of uppers states s < numbers_below uppers * (states * machines)
  place-below s h = digit-below (number_of s.spent uppers) (numbers_below uppers) (s.state + states * s.machine) (states * machines) (number-below s.spent uppers h.totals) (row-below s h)

  -- no two layers have one place
  pub place-same : (s t : Layer) → HasPlace uppers states machines s → HasPlace uppers states machines t → place_of uppers states s ≡ place_of uppers states t → s ≡ t
  place-same s t h g e =
      let outer = digit-same (number_of s.spent uppers) (number_of t.spent uppers) (numbers_below uppers) (s.state + states * s.machine) (t.state + states * t.machine)
      (number-below s.spent uppers h.totals) (number-below t.spent uppers g.totals) e in
      let inner = digit-same s.state t.state states s.machine t.machine h.state g.state outer.1 in
      let spent = number-same s.spent t.spent uppers h.totals g.totals outer.0 in
      ap (λ (n : ℕ). record { machine = n; state = s.state; spent = s.spent }) inner.1
      ∙ ap (λ (n : ℕ). record { machine = t.machine; state = n; spent = s.spent }) inner.0
      ∙ ap (λ (l : List ℕ). record { machine = t.machine; state = t.state; spent = l }) spent

  -- the table is small, and so is what a place is made of
  pub place-small : (points : ℕ) (s : Layer) → points ≡ numbers_below uppers → points * (states * machines) ≤ MOST_PLACES → HasPlace uppers states machines s
      → (s.state + states * s.machine < MOST_PLACES) × (place_of uppers states s < MOST_PLACES)
  place-small points s counted few h =
      let row = row-below s h in
      let place = place-below s h in
      let small = subst (λ n. n * (states * machines) ≤ MOST_PLACES) counted few in
      let more = mul-le 1 (states * machines) (numbers_below uppers) (states * machines) (numbers-some uppers) (omega arith) in
      (omega arith, omega arith)

-- the greatest number of states of one machine more
pub greatest-more : (ms : List Graph) (i : ℕ) (m : Graph) → i < length ms → m ≡ get_or ms i m → greatest_states (take (i + 1) ms) ≡ max (greatest_states (take i ms)) m.states
greatest-more ms i m lt is =
    ap greatest_states (take_more ms i m lt)
    ∙ top_by-push (λ (g : Graph). g.states) (take i ms) (get_or ms i m)
    ∙ ap (λ (g : Graph). max (greatest_states (take i ms)) g.states) (sym is)

-- numbers that have too many from some digit on have too many
module _ (us : List ℕ) (at : ℕ) (some : 0 < at) (within : at ≤ length us) where
  pub past-digit : (most : ℕ) → most ≤ slice_index_or us (at - 1) 0 + 1 → most ≤ numbers_below us
  past-digit most past =
      let all = numbers-before us at some within in
      let less = numbers-drop us (at - 1) in
      let rest = mul-le (slice_index_or us (at - 1) 0 + 1) 1 (slice_index_or us (at - 1) 0 + 1) (numbers_below (drop at us)) (omega arith) (numbers-some (drop at us)) in
      omega arith

  pub past-points : (most : ℕ) → most ≤ (slice_index_or us (at - 1) 0 + 1) * numbers_below (drop at us) → most ≤ numbers_below us
  past-points most past =
      let all = numbers-before us at some within in
      let less = numbers-drop us (at - 1) in
      omega arith
