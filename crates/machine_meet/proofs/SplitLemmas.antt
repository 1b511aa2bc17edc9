-- A run of a product, by places, and the runs of its parts.
use Rattle.std.proofs.Common.{◌≡◌, ℕ, zero, suc, ◌+◌, ◌<◌, ◌≤◌, List, [], ◌∷◌, ◌++◌, length, map, take, get_or, slice_get, All, Some, Contains, refl, ap, sym, ◌∙◌, subst, arith, add-one, inl, inr}
use Rattle.machine_core.specs.declared.run.Run.{Run}
use Rattle.machine_core.specs.Costs.{add_costs, total_of, sum_costs}
use Rattle.machine_core.specs.CostLaws.{add_costs-swap, zeros-add_costs-zeros}
use Rattle.machine_core.specs.Runs.{IsPath, IsRun, run_total}
use Rattle.machine_core.specs.RunLaws.{path_lengths, run_formed}
use Rattle.std.proofs.lemmas.List.{take_all}
use Rattle.std.proofs.lemmas.Option.{slice_get-get_or, none-some}
use Rattle.sv_list.specs.Lists.{slice_get-push_cases, some-once, slice_get-mapped}
use Rattle.machine_core.specs.Costs.{IsCost}
use Rattle.machine_meet.specs.Products.{AreStates, MeetEnds, MeetSteps}
use Rattle.machine_meet.specs.ProductLaws.{first-states, step-states, meet_step-cost, meet_end-cost}
use Rattle.machine_meet.specs.Splits.{AreSteps, IsSplitRow, IsColumn, ArePartRuns, as_step}
use Rattle.machine_meet.proofs.PlaceLemmas.{got-through, beside, map-each, take-got}

-- what the rows cost at each part, added up by parts
abbrev pub add_each : List (List ℕ) → List (List ℕ) → List (List ℕ)
add_each [] ls = []
add_each (k ∷ ks) [] = []
add_each (k ∷ ks) (l ∷ ls) = add_costs k l ∷ add_each ks ls

abbrev pub totals : List (List (List ℕ)) → List (List ℕ) → List (List ℕ)
totals [] lasts = lasts
totals (row ∷ rows) lasts = add_each row (totals rows lasts)

add_each-length : (ks ls : List (List ℕ)) → length ks ≡ length ls → length (add_each ks ls) ≡ length ls
add_each-length [] ls e = e
add_each-length (k ∷ ks) [] e = absurd (omega arith)
add_each-length (k ∷ ks) (l ∷ ls) e = ap suc (add_each-length ks ls (omega arith))

add_each-at : (ks ls : List (List ℕ)) (j : ℕ) (k l : List ℕ) → slice_get ks j ≡ Some k → slice_get ls j ≡ Some l → slice_get (add_each ks ls) j ≡ Some (add_costs k l)
add_each-at [] ls j k l p q = absurd (none-some k p)
add_each-at (x ∷ ks) [] j k l p q = absurd (none-some l q)
add_each-at (x ∷ ks) (y ∷ ls) zero k l p q = let a : x ≡ k = cc in let b : y ≡ l = cc in ap (λ z. Some (add_costs z y)) a ∙ ap (λ z. Some (add_costs k z)) b
add_each-at (x ∷ ks) (y ∷ ls) (suc j) k l p q = add_each-at ks ls j k l p q

sum-add_each : (w : ℕ) (ks ls : List (List ℕ)) → length ks ≡ length ls → sum_costs w (add_each ks ls) ≡ add_costs (sum_costs w ks) (sum_costs w ls)
sum-add_each w [] [] e = sym (zeros-add_costs-zeros w)
sum-add_each w [] (l ∷ ls) e = absurd (omega arith)
sum-add_each w (k ∷ ks) [] e = absurd (omega arith)
sum-add_each w (k ∷ ks) (l ∷ ls) e = ap (add_costs (add_costs k l)) (sum-add_each w ks ls (omega arith)) ∙ add_costs-swap k l (sum_costs w ks) (sum_costs w ls)

pub totals-length : (rows : List (List (List ℕ))) (lasts : List (List ℕ)) → ((i : ℕ) (row : List (List ℕ)) → slice_get rows i ≡ Some row → length row ≡ length lasts)
    → length (totals rows lasts) ≡ length lasts
totals-length [] lasts h = refl
totals-length (row ∷ rows) lasts h =
    let rest = totals-length rows lasts (λ i. h (suc i)) in
    add_each-length row (totals rows lasts) (h zero row refl ∙ sym rest) ∙ rest

-- the sum of what the parts cost is what the steps cost together
pub sum-totals : (w : ℕ) (rows : List (List (List ℕ))) (lasts : List (List ℕ)) → ((i : ℕ) (row : List (List ℕ)) → slice_get rows i ≡ Some row → length row ≡ length lasts)
    → sum_costs w (totals rows lasts) ≡ total_of (map (sum_costs w) rows) (sum_costs w lasts)
sum-totals w [] lasts h = refl
sum-totals w (row ∷ rows) lasts h =
    let rest = totals-length rows lasts (λ i. h (suc i)) in
    sum-add_each w row (totals rows lasts) (h zero row refl ∙ sym rest) ∙ ap (add_costs (sum_costs w row)) (sum-totals w rows lasts (λ i. h (suc i)))

pub totals-at : (rows : List (List (List ℕ))) (lasts column : List (List ℕ)) (j : ℕ) (l : List ℕ) → slice_get lasts j ≡ Some l → IsColumn j rows column
    → slice_get (totals rows lasts) j ≡ Some (total_of column l)
totals-at [] lasts [] j l e h = e
totals-at [] lasts (x ∷ column) j l e h = let n = h.count in absurd (omega arith)
totals-at (row ∷ rows) lasts [] j l e h = let n = h.count in absurd (omega arith)
totals-at (row ∷ rows) lasts (x ∷ column) j l e h =
    let n = h.count in
    add_each-at row (totals rows lasts) j x (total_of column l) (h.each zero row x refl refl)
    (totals-at rows lasts column j l e (record { count = omega arith; each = λ i. h.each (suc i) }))

module _ {S : Type 0} (steps : S → ℕ → List ℕ → S → Type 0) where
  -- a path, by places
  pub path-at : (s : S) (us : List S) (word : List ℕ) (costs : List (List ℕ)) (t : S) → IsPath steps s us word costs t
      → (i : ℕ) (x y : S) (c : ℕ) (k : List ℕ) → slice_get (s ∷ us) i ≡ Some x → slice_get us i ≡ Some y → slice_get word i ≡ Some c → slice_get costs i ≡ Some k → steps x c k y
  path-at s [] [] [] t h i x y c k ex ey ec ek = absurd (none-some y ey)
  path-at s [] [] (z ∷ costs) t h i x y c k ex ey ec ek = absurd h
  path-at s [] (d ∷ word) costs t h i x y c k ex ey ec ek = absurd h
  path-at s (u ∷ us) [] costs t h i x y c k ex ey ec ek = absurd h
  path-at s (u ∷ us) (d ∷ word) [] t h i x y c k ex ey ec ek = absurd h
  path-at s (u ∷ us) (d ∷ word) (z ∷ costs) t h zero x y c k ex ey ec ek =
      let a : s ≡ x = cc in
      let b : u ≡ y = cc in
      let e : d ≡ c = cc in
      let f : z ≡ k = cc in
      subst (λ v. steps v c k y) a (subst (λ v. steps s v k y) e (subst (λ v. steps s d v y) f (subst (steps s d z) b h.0)))
  path-at s (u ∷ us) (d ∷ word) (z ∷ costs) t h (suc i) x y c k ex ey ec ek = path-at u us word costs t h.1 i x y c k ex ey ec ek

  pub path-end : (s : S) (us : List S) (word : List ℕ) (costs : List (List ℕ)) (t : S) → IsPath steps s us word costs t → slice_get (s ∷ us) (length us) ≡ Some t
  path-end s [] [] [] t h = ap Some h
  path-end s [] [] (z ∷ costs) t h = absurd h
  path-end s [] (d ∷ word) costs t h = absurd h
  path-end s (u ∷ us) [] costs t h = absurd h
  path-end s (u ∷ us) (d ∷ word) [] t h = absurd h
  path-end s (u ∷ us) (d ∷ word) (z ∷ costs) t h = path-end u us word costs t h.1

  pub path-from : (s : S) (us : List S) (word : List ℕ) (costs : List (List ℕ)) → length us ≡ length word → length costs ≡ length word
      → ((i : ℕ) (x y : S) (c : ℕ) (k : List ℕ) → slice_get (s ∷ us) i ≡ Some x → slice_get us i ≡ Some y → slice_get word i ≡ Some c → slice_get costs i ≡ Some k → steps x c k y)
      → (t : S) × IsPath steps s us word costs t × (slice_get (s ∷ us) (length us) ≡ Some t)
  path-from s [] [] [] p q h = (s, refl, refl)
  path-from s [] [] (z ∷ costs) p q h = absurd (omega arith)
  path-from s [] (d ∷ word) costs p q h = absurd (omega arith)
  path-from s (u ∷ us) [] costs p q h = absurd (omega arith)
  path-from s (u ∷ us) (d ∷ word) [] p q h = absurd (omega arith)
  path-from s (u ∷ us) (d ∷ word) (z ∷ costs) p q h =
      let r = path-from u us word costs (omega arith) (omega arith) (λ i. h (suc i)) in
      (r.0, (h zero s u d z refl refl refl refl, r.1), r.2)

module _ {P S : Type 0} (ends : P → S → List ℕ → Type 0) (steps : P → S → ℕ → List ℕ → S → Type 0) (first : P → S) where
  -- the run of the part at a place
  pub part-runs : (w : ℕ) (ps : List P) (run : Run (List S)) → IsRun (MeetEnds ends w ps) (MeetSteps steps w ps) (map first ps) run
      → (rows : List (List (List ℕ))) (lasts : List (List ℕ)) → length rows ≡ length run.costs
      → ((i : ℕ) (row : List (List ℕ)) → slice_get rows i ≡ Some row → IsSplitRow steps w ps run i row)
      → ((at : List S) → slice_get run.states (length run.word) ≡ Some at → AreSteps (as_step ends) ps at 0 at lasts)
      → (j : ℕ) (p : P) (part : Run S) → slice_get ps j ≡ Some p → part.word ≡ run.word → IsColumn j run.states part.states → IsColumn j rows part.costs
      → slice_get lasts j ≡ Some part.last → IsRun (ends p) (steps p) (first p) part
  part-runs w ps run r rows lasts count row_is last_is j p part ep ew column costs el = go part.states refl
    where
      lengths : (length r.after ≡ length run.word) × (length run.costs ≡ length run.word)
      lengths = path_lengths (MeetSteps steps w ps) (map first ps) r.after run.word run.costs r.stop r.path

      go : (us : List S) → part.states ≡ us → IsRun (ends p) (steps p) (first p) part
      go [] e = let n = column.count in let m = ap length r.states in let z = ap length e in absurd (omega arith)
      go (s ∷ us) e =
          let n = column.count in
          let m = ap length r.states in
          let z = ap length e in
          let k = costs.count in
          let word = ap length ew in
          let ln = lengths.0 in
          let lm = lengths.1 in
          let state : (i : ℕ) (x : S) → slice_get (s ∷ us) i ≡ Some x → (at : List S) × (slice_get run.states i ≡ Some at) × (slice_get at j ≡ Some x) = λ i x ex.
          let ex2 = subst (λ l. slice_get l i ≡ Some x) (sym e) ex in
          let at = beside part.states run.states i x (sym n) ex2 in
          (at.0, at.1, column.each i at.0 x at.1 ex2) in
          let head = state zero s refl in
          let begun : head.0 ≡ map first ps = some-once (slice_get run.states zero) head.0 (map first ps) head.1 (ap (λ l. slice_get l zero) r.states) in
          let start : s ≡ first p = some-once (slice_get (map first ps) j) s (first p) (subst (λ l. slice_get l j ≡ Some s) begun head.2) (slice_get-mapped first ps j p ep) in
          let path = path-from (steps p) s us part.word part.costs (omega arith) (omega arith) (λ i x y c q ex ey ec eq.
          let from = state i x ex in
          let to = state (suc i) y ey in
          let row = beside part.costs rows i q (sym k) eq in
          let one = (row_is i row.0 row.1).steps_are from.0 to.0 c from.1 to.1 (subst (λ l. slice_get l i ≡ Some c) ew ec) in
          one.each j p x y q ep from.2 to.2 (costs.each i row.0 q row.1 eq)) in
          let stop = state (length us) path.0 path.2 in
          let place : length us ≡ length run.word = omega arith in
          let last = last_is stop.0 (subst (λ i. slice_get run.states i ≡ Some stop.0) place stop.1) in
          record {
            after = us;
            stop = path.0;
            states = e ∙ ap (λ x. x ∷ us) start;
            path = subst (λ x. IsPath (steps p) x us part.word part.costs path.0) start path.1;
            last = last.each j p path.0 path.0 part.last ep stop.2 stop.2 el;
          }

  pub runs-push : (ps : List P) (word : List ℕ) (rs : List (Run S)) (p : P) (r : Run S) → ArePartRuns ends steps first ps word rs
      → IsRun (ends p) (steps p) (first p) r → r.word ≡ word → ArePartRuns ends steps first (ps ++ p ∷ []) word (rs ++ r ∷ [])
  runs-push [] word [] p r h is e = (is, e, tt)
  runs-push [] word (x ∷ rs) p r h is e = absurd h
  runs-push (q ∷ ps) word [] p r h is e = absurd h
  runs-push (q ∷ ps) word (x ∷ rs) p r h is e = (h.0, h.1, runs-push ps word rs p r h.2 is e)

-- what stands at a step of a run
pub record Reads {S : Type 0} (run : Run (List S)) (i : ℕ) (from to : List S) (c : ℕ) (cost : List ℕ) : Type 0 where
  pub from_is : slice_get run.states i ≡ Some from
  pub to_is : slice_get run.states (suc i) ≡ Some to
  pub character_is : slice_get run.word i ≡ Some c
  pub cost_is : slice_get run.costs i ≡ Some cost

-- what a run of the product goes through
pub record Goes {P S : Type 0} (is_state : P → S → Type 0) (w : ℕ) (ps : List P) (run : Run (List S)) : Type 0 where
  pub states : All (AreStates is_state ps) run.states
  pub costs : All (λ k. length k ≡ w) run.costs
  pub last : length run.last ≡ w

module _ {P S : Type 0} (is_state : P → S → Type 0) (ends : P → S → List ℕ → Type 0) (steps : P → S → ℕ → List ℕ → S → Type 0) (first : P → S) (width top : P → ℕ)
    (first_is_state : (p : P) → is_state p (first p))
    (step_is_state : (p : P) (s t : S) (c : ℕ) (cost : List ℕ) → is_state p s → steps p s c cost t → is_state p t)
    (step_cost : (p : P) (s t : S) (c : ℕ) (cost : List ℕ) → is_state p s → steps p s c cost t → IsCost (width p) (top p) cost)
    (end_cost : (p : P) (s : S) (cost : List ℕ) → is_state p s → ends p s cost → IsCost (width p) (top p) cost)
    (w : ℕ) (ps : List P) (agree : (p : P) → Contains ps p → width p ≡ w) (run : Run (List S)) (r : IsRun (MeetEnds ends w ps) (MeetSteps steps w ps) (map first ps) run) where
  pub run-goes : Goes is_state w ps run
  run-goes =
      let f = run_formed (MeetSteps steps w ps) (AreStates is_state ps) w
      (λ s t c cost h st. step-states is_state steps w step_is_state ps s t c cost h st)
      (λ s t c cost h st. (meet_step-cost is_state width top steps step_cost w ps agree s t c cost h st).entries)
      (MeetEnds ends w ps)
      (λ s cost h e. (meet_end-cost is_state width top ends end_cost w ps agree s cost h e).entries)
      (map first ps) (first-states is_state first first_is_state ps) run r in
      record { states = f.0; costs = f.1; last = f.2 }

module _ {P S : Type 0} (ends : P → S → List ℕ → Type 0) (steps : P → S → ℕ → List ℕ → S → Type 0) (first : P → S)
    (w : ℕ) (ps : List P) (run : Run (List S)) (r : IsRun (MeetEnds ends w ps) (MeetSteps steps w ps) (map first ps) run) where
  pub run-lengths : (length run.states ≡ suc (length run.word)) × (length run.costs ≡ length run.word)
  run-lengths =
      let p = path_lengths (MeetSteps steps w ps) (map first ps) r.after run.word run.costs r.stop r.path in
      (ap length r.states ∙ ap suc p.0, p.1)

  pub run-step : (i : ℕ) (from to : List S) (c : ℕ) (k : List ℕ) → Reads run i from to c k → MeetSteps steps w ps from c k to
  run-step i from to c k h =
      path-at (MeetSteps steps w ps) (map first ps) r.after run.word run.costs r.stop r.path i from to c k
      (subst (λ l. slice_get l i ≡ Some from) r.states h.from_is) (subst (λ l. slice_get l (suc i) ≡ Some to) r.states h.to_is) h.character_is h.cost_is

  -- what the slices of a run have at a step
  pub read-step : (states : List (List S)) (word : List ℕ) (costs : List (List ℕ)) (i : ℕ) (at from next to : List S) (k : List ℕ)
      → states ≡ run.states → word ≡ run.word → costs ≡ run.costs → i < length costs → at ≡ get_or states i at → from ≡ at → next ≡ get_or states (i + 1) next → to ≡ next
      → k ≡ get_or costs i k → Reads run i from to (get_or word i 0) k
  read-step states word costs i at from next to k es ew ek lt ea ef en et ec =
      let n = run-lengths in
      let first = n.0 in
      let second = n.1 in
      let within : i < length run.costs = subst (λ l. i < length l) ek lt in
      let after : i + 1 ≡ suc i = omega arith in
      record {
        from_is = got-through run.states states i at from es (omega arith) ea ef;
        to_is = subst (λ j. slice_get run.states j ≡ Some to) after (got-through run.states states (i + 1) next to es (omega arith) en et);
        character_is = subst (λ l. slice_get l i ≡ Some (get_or word i 0)) ew (slice_get-get_or word i 0 (subst (λ l. i < length l) (sym ew) (omega arith)));
        cost_is = got-through run.costs costs i k k ek within ec refl;
      }

  pub run-end : (at : List S) → slice_get run.states (length run.word) ≡ Some at → MeetEnds ends w ps at run.last
  run-end at e =
      let p = path_lengths (MeetSteps steps w ps) (map first ps) r.after run.word run.costs r.stop r.path in
      let stop = path-end (MeetSteps steps w ps) (map first ps) r.after run.word run.costs r.stop r.path in
      let stop2 : slice_get run.states (length run.word) ≡ Some r.stop = subst (λ l. slice_get l (length run.word) ≡ Some r.stop) (sym r.states)
      (subst (λ n. slice_get (map first ps ∷ r.after) n ≡ Some r.stop) p.0 stop) in
      subst (λ x. MeetEnds ends w ps x run.last) (some-once (slice_get run.states (length run.word)) r.stop at stop2 e) r.last

  -- and where it ends
  pub read-end : (states : List (List S)) (n : ℕ) (item at : List S) → states ≡ run.states → n ≡ length run.word → item ≡ get_or states n item → at ≡ item
      → slice_get run.states (length run.word) ≡ Some at
  read-end states n item at es en ei ea =
      let first = run-lengths.0 in
      subst (λ j. slice_get run.states j ≡ Some at) en (got-through run.states states n item at es (omega arith) ei ea)

module _ {P S : Type 0} (steps : P → S → ℕ → List ℕ → S → Type 0) (w : ℕ) (ps : List P) (run : Run (List S)) where
  abbrev pub AreRows : List (List (List ℕ)) → Type 0
  AreRows rows = (at : ℕ) (row : List (List ℕ)) → slice_get rows at ≡ Some row → IsSplitRow steps w ps run at row

  pub rows-start : AreRows []
  rows-start at row e = absurd (none-some row e)

  pub rows-push : (rows : List (List (List ℕ))) (row : List (List ℕ)) → AreRows rows → IsSplitRow steps w ps run (length rows) row → AreRows (rows ++ row ∷ [])
  rows-push rows row h is at x e = elim (slice_get-push_cases rows row at x e) [
    | inl a ↦ h at x a
    | inr a ↦ subst (IsSplitRow steps w ps run at) a.1 (subst (λ n. IsSplitRow steps w ps run n row) (sym a.0) is)
  ]

  pub row-is : (i : ℕ) (from to : List S) (c : ℕ) (cost : List ℕ) (row : List (List ℕ)) → Reads run i from to c cost
      → AreSteps steps ps from c to row → sum_costs w row ≡ cost → IsSplitRow steps w ps run i row
  row-is i from to c cost row h is sum = record {
    count = is.count;
    steps_are = λ u v d eu ev ed.
        subst (λ x. AreSteps steps ps x d v row) (some-once (slice_get run.states i) from u h.from_is eu)
        (subst (λ x. AreSteps steps ps from x v row) (some-once (slice_get run.word i) c d h.character_is ed)
        (subst (λ x. AreSteps steps ps from c x row) (some-once (slice_get run.states (suc i)) to v h.to_is ev) is));
    sum = λ k e. sum ∙ some-once (slice_get run.costs i) cost k h.cost_is e;
  }

-- the sum of the parts' costs is what the run costs
pub costs-add-up : {P S : Type 0} (steps : P → S → ℕ → List ℕ → S → Type 0) (w : ℕ) (ps : List P) (run : Run (List S)) (rows : List (List (List ℕ))) (lasts : List (List ℕ))
    → AreRows steps w ps run rows → length rows ≡ length run.costs → length lasts ≡ length ps → sum_costs w lasts ≡ run.last → sum_costs w (totals rows lasts) ≡ run_total run
costs-add-up steps w ps run rows lasts h count many sum =
    let wide : (i : ℕ) (row : List (List ℕ)) → slice_get rows i ≡ Some row → length row ≡ length lasts = λ i row e. (h i row e).count ∙ sym many in
    let each : map (sum_costs w) rows ≡ run.costs = map-each (sum_costs w) rows run.costs count (λ i row e k ek. (h i row e).sum k ek) in
    sum-totals w rows lasts wide ∙ ap (λ x. total_of x (sum_costs w lasts)) each ∙ ap (total_of run.costs) sum

pub all-add-up : {P S : Type 0} (steps : P → S → ℕ → List ℕ → S → Type 0) (w : ℕ) (ps : List P) (run : Run (List S)) (rows : List (List (List ℕ))) (lasts : List (List ℕ))
    → AreRows steps w ps run rows → length rows ≡ length run.costs → length lasts ≡ length ps → sum_costs w lasts ≡ run.last
    → (rs : List (Run S)) (i : ℕ) → length ps ≤ i → map (λ (x : Run S). run_total x) rs ≡ take i (totals rows lasts) → sum_costs w (map (λ (x : Run S). run_total x) rs) ≡ run_total run
all-add-up steps w ps run rows lasts h count many sum rs i le e =
    let long = totals-length rows lasts (λ i row q. (h i row q).count ∙ sym many) in
    let whole : take i (totals rows lasts) ≡ totals rows lasts = take_all i (totals rows lasts) (omega arith) in
    ap (sum_costs w) (e ∙ whole) ∙ costs-add-up steps w ps run rows lasts h count many sum

-- one more of the parts' totals
pub totals-next : {S : Type 0} (rs new : List (Run S)) (r : Run S) (ts : List (List ℕ)) (i : ℕ) → map (λ (x : Run S). run_total x) rs ≡ take i ts → new ≡ rs ++ r ∷ []
    → slice_get ts i ≡ Some (run_total r) → map (λ (x : Run S). run_total x) new ≡ take (i + 1) ts
totals-next {S} rs new r ts i h pushed e =
    let grown : take (i + 1) ts ≡ take i ts ++ run_total r ∷ [] = rw add-one (take-got ts i (run_total r) e) in
    ap (map (λ (x : Run S). run_total x)) pushed ∙ map-push rs ∙ ap (λ l. l ++ run_total r ∷ []) h ∙ sym grown
  where
    map-push : (xs : List (Run S)) → map (λ (x : Run S). run_total x) (xs ++ r ∷ []) ≡ map (λ (x : Run S). run_total x) xs ++ run_total r ∷ []
    map-push [] = refl
    map-push (x ∷ xs) = ap (λ l. run_total x ∷ l) (map-push xs)

-- one more of the parts' runs
pub runs-next : {P S : Type 0} (ends : P → S → List ℕ → Type 0) (steps : P → S → ℕ → List ℕ → S → Type 0) (first : P → S) (ps : List P) (word : List ℕ)
    (rs new : List (Run S)) (i : ℕ) (p : P) (r : Run S) → slice_get ps i ≡ Some p → ArePartRuns ends steps first (take i ps) word rs
    → IsRun (ends p) (steps p) (first p) r → r.word ≡ word → new ≡ rs ++ r ∷ [] → ArePartRuns ends steps first (take (i + 1) ps) word new
runs-next ends steps first ps word rs new i p r at h is e pushed =
    let grown : take (i + 1) ps ≡ take i ps ++ p ∷ [] = rw add-one (take-got ps i p at) in
    subst (λ qs. ArePartRuns ends steps first qs word new) (sym grown) (subst (ArePartRuns ends steps first (take i ps ++ p ∷ []) word) (sym pushed)
    (runs-push ends steps first (take i ps) word rs p r h is e))
