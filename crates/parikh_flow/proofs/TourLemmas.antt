-- What the steps of a tour keep.
use Rattle.std.proofs.Common.{◌≡◌, ℕ, zero, suc, ◌+◌, ◌-◌, ◌<◌, ◌≤◌, ◌⊎◌, inl, inr, List, [], ◌∷◌, ◌++◌, length, reverse, slice_get, get_or, slice_index, slice_set, Some, None, replicate, refl, ap, sym, ◌∙◌, subst, arith, length-set}
use Rattle.std.proofs.lemmas.Option.{slice_get-get_or, slice_get_within}
use Rattle.std.proofs.lemmas.List.{reverse-append}
use Rattle.machine_core.specs.declared.edge.Edge.{Edge}
use Rattle.machine_core.specs.PlaceLaws.{places-in, places-all}
use Rattle.machine_core.specs.Edges.{from_of, IsWalk}
use Rattle.sv_list.specs.Lists.{slice_get-push_cases}
use Rattle.machine_core.specs.Places.{places}
use Rattle.parikh_flow.specs.Counts.{counts_at, to_of}
use Rattle.parikh_flow.specs.Balance.{one_at}
use Rattle.parikh_flow.specs.Tours.{IsDrained, Balances, ArePassed, IsTour, IsToured, IsNextLeft}
use Rattle.parikh_flow.proofs.CountLemmas.{counts_at-fall, index-fall, index-falls, occurrences-push, counts_at-none, one_at-same, one_at-is, occurs, occurs-at, occurrences-reverse}

pub walk-push : (edges : List Edge) (s : ℕ) (ps : List ℕ) (t p : ℕ) (e : Edge) → IsWalk edges s ps t → slice_get edges p ≡ Some e → e.from ≡ t → IsWalk edges s (ps ++ p ∷ []) e.to
walk-push edges s [] t p e w g f = (e, g, f ∙ sym w, refl)
walk-push edges s (q ∷ ps) t p e w g f = (w.0, w.1, w.2, walk-push edges w.0.to ps t p e w.3 g f)

pub walk-pop : (edges : List Edge) (s : ℕ) (ps : List ℕ) (p t : ℕ) → IsWalk edges s (ps ++ p ∷ []) t → (e : Edge) × (slice_get edges p ≡ Some e) × IsWalk edges s ps e.from × (e.to ≡ t)
walk-pop edges s [] p t w = (w.0, w.1, sym w.2, w.3)
walk-pop edges s (q ∷ ps) p t w = let r = walk-pop edges w.0.to ps p t w.3 in (r.0, r.1, (w.0, w.1, w.2, r.2), r.3)

-- each edge of a walk is one of the edges
pub walk-at : (edges : List Edge) (s : ℕ) (ps : List ℕ) (t i p : ℕ) → IsWalk edges s ps t → slice_get ps i ≡ Some p → (e : Edge) × (slice_get edges p ≡ Some e)
walk-at edges s [] t i p w g = cc
walk-at edges s (q ∷ ps) t zero p w g = (w.0, (let h : q ≡ p = cc in subst (λ n. slice_get edges n ≡ Some w.0) h w.1))
walk-at edges s (q ∷ ps) t (suc i) p w g = walk-at edges w.0.to ps t i p w.3 g

drained-less : (edges : List Edge) (left less : List ℕ) (s : ℕ) → ((q : ℕ) → slice_index less q ≤ slice_index left q) → IsDrained edges left s → IsDrained edges less s
drained-less edges left less s h d p e g f = let a = h p in let b = d p e g f in omega arith

-- one edge more on the way
module _ (edges : List Edge) (states : ℕ) (f : List ℕ) (stop : ℕ) (left next way back : List ℕ) (at p n : ℕ) (e : Edge)
    (is : slice_get edges p ≡ Some e) (leaves : e.from ≡ at) (some : slice_index left p ≡ suc n) (inside : e.to < states) where
  advance-balances : (goal : ℕ) → Balances edges left at goal → Balances edges (slice_set left p n) e.to goal
  advance-balances goal b s =
      let i = counts_at-fall to_of s edges left p n e is some in
      let o = counts_at-fall from_of s edges left p n e is some in
      let o2 : counts_at from_of s edges left ≡ counts_at from_of s edges (slice_set left p n) + one_at s at = o ∙ ap (λ x. counts_at from_of s edges (slice_set left p n) + one_at s x) leaves in
      let h = b s in
      omega arith

  pub advance-tour : IsTour edges states f stop left next way back at → IsTour edges states f stop (slice_set left p n) next (way ++ p ∷ []) back e.to
  advance-tour t = record {
    within = inside;
    size = length-set left p n ∙ t.size;
    rows = t.rows;
    passed = λ s m k q a b c. (let old = t.passed s m k q a b c in let less = index-falls left p n q some in omega arith);
    out = walk-push edges 0 way at p e t.out is leaves;
    goal = t.goal;
    home = t.home;
    balances = advance-balances t.goal t.balances;
    counted = λ q. (let a = t.counted q in let b = index-fall left p n q some in let c = occurrences-push q way p in omega arith);
    settled = λ i q d a b. drained-less edges left (slice_set left p n) d.to (λ r. index-falls left p n r some) (t.settled i q d a b);
  }

-- where no edge leaves the present state any more, the goal is the present state, and all that is left balances
module _ (edges : List Edge) (left : List ℕ) (at goal : ℕ) (drained : IsDrained edges left at) (balances : Balances edges left at goal) where
  pub goal-here : goal ≡ at
  goal-here =
      let none = counts_at-none from_of at edges left drained in
      let h = balances at in
      let one = one_at-same at in
      one_at-is at goal (omega arith)

  pub rest-balances : (s : ℕ) → Balances edges left s s
  rest-balances s q = let h = balances q in let g = ap (one_at q) goal-here in omega arith

-- the last edge of the way is settled
module _ (edges : List Edge) (states : ℕ) (f : List ℕ) (stop : ℕ) (left next way back : List ℕ) (at p : ℕ) (e : Edge)
    (is : slice_get edges p ≡ Some e) (inside : e.from < states) (drained : IsDrained edges left at) where
  pub retreat-tour : IsTour edges states f stop left next (way ++ p ∷ []) back at → IsTour edges states f stop left next way (back ++ p ∷ []) e.from
  retreat-tour t =
      let w = walk-pop edges 0 way p at t.out in
      let same : w.0 ≡ e = (let x = w.1 in cc) in
      let goal = goal-here edges left at t.goal drained t.balances in
      let to : e.to ≡ at = subst (λ (d : Edge). d.to ≡ at) same w.3 in
      record {
        within = inside;
        size = t.size;
        rows = t.rows;
        passed = t.passed;
        out = subst (λ (d : Edge). IsWalk edges 0 way d.from) same w.2;
        goal = e.from;
        home = rw (reverse-append back (p ∷ [])) (e, is, refl, subst (λ g. IsWalk edges g (reverse back) stop) (goal ∙ sym to) t.home);
        balances = rest-balances edges left at t.goal drained t.balances e.from;
        counted = λ q. (let a = t.counted q in let b = occurrences-push q way p in let c = occurrences-push q back p in omega arith);
        settled = λ i q d a b. elim (slice_get-push_cases back p i q a) [
          | inl old ↦ t.settled i q d old b
          | inr new ↦ (let g : p ≡ q = new.1 in let h : e ≡ d = cc in subst (λ x. IsDrained edges left x) (sym (subst (λ (y : Edge). y.to ≡ at) h to)) drained)
        ];
      }

-- the way is empty: all that can be reached is settled
pub tour-done : (edges : List Edge) (states : ℕ) (f : List ℕ) (stop : ℕ) (left next back : List ℕ) (at : ℕ) → IsDrained edges left at
    → IsTour edges states f stop left next [] back at → IsToured edges f stop left back
tour-done edges states f stop left next back at drained t =
    let goal = goal-here edges left at t.goal drained t.balances in
    record {
      size = t.size;
      home = subst (λ g. IsWalk edges g (reverse back) stop) (goal ∙ sym t.out) t.home;
      counted = λ q. (let a = t.counted q in omega arith);
      settled = t.settled;
      start = subst (λ x. IsDrained edges left x) (sym t.out) drained;
    }

-- what the functions of a tour do, over plain lists
pub advance-done : (edges : List Edge) (states : ℕ) (f : List ℕ) (stop : ℕ) (left next way back new_left new_way : List ℕ) (at p : ℕ) (e : Edge)
    → slice_get edges p ≡ Some e → e.from ≡ at → 0 < slice_index left p → e.to < length next
    → new_left ≡ slice_set left p (slice_index left p - 1) → new_way ≡ way ++ p ∷ []
    → IsTour edges states f stop left next way back at → IsTour edges states f stop new_left next new_way back e.to
advance-done edges states f stop left next way back new_left new_way at p e is leaves some inside a b t =
    let size = t.rows in
    rw (a, b) (advance-tour edges states f stop left next way back at p (slice_index left p - 1) e is leaves (omega arith) (omega arith) t)

pub retreat-done : (edges : List Edge) (states : ℕ) (f : List ℕ) (stop : ℕ) (left next way back new_way new_back : List ℕ) (at p : ℕ) (e : Edge)
    → slice_get edges p ≡ Some e → e.from < states → IsDrained edges left at → way ≡ new_way ++ p ∷ [] → new_back ≡ back ++ p ∷ []
    → IsTour edges states f stop left next way back at → IsTour edges states f stop left next new_way new_back e.from
retreat-done edges states f stop left next way back new_way new_back at p e is inside drained a b t =
    rw b (retreat-tour edges states f stop left next new_way back at p e is inside drained (subst (λ w. IsTour edges states f stop left next w back at) a t))

-- in the row of a state
pub row-edge : (edges all : List Edge) (row : List ℕ) (s i : ℕ) → all ≡ edges → row ≡ places from_of s edges → i < length row
    → (e : Edge) × (slice_get all (get_or row i 0) ≡ Some e) × (e.from ≡ s)
row-edge edges all row s i a r lt =
    let p = places-in from_of s 0 edges i (get_or row i 0) (subst (λ l. slice_get l i ≡ Some (get_or row i 0)) r (slice_get-get_or row i 0 lt)) in
    let same : p.0 ≡ get_or row i 0 = (let b = p.2 in omega arith) in
    (p.1, rw a (subst (λ n. slice_get edges n ≡ Some p.1) same p.3), p.4)

-- the mark of the present state moves on
pub passed-next : (edges : List Edge) (left next new row : List ℕ) (at from i : ℕ) → row ≡ places from_of at edges → slice_get next at ≡ Some from → new ≡ slice_set next at i
    → ((k q : ℕ) → from ≤ k → k < i → slice_get row k ≡ Some q → slice_index left q ≡ 0) → ArePassed edges left next → ArePassed edges left new
passed-next edges left next new row at from i r is push none old s n k p a b c =
    elim (get-set next at s i n (subst (λ l. slice_get l s ≡ Some n) push a)) [
      | inl h ↦ old s n k p h b c
      | inr h ↦ (
          let c' = subst (λ l. slice_get l k ≡ Some p) (sym r) (subst (λ x. slice_get (places from_of x edges) k ≡ Some p) h.0 c) in
          by_less k from
          (λ lt. old at from k p is lt (subst (λ x. slice_get (places from_of x edges) k ≡ Some p) h.0 c))
          (λ le. none k p le (let e = h.1 in omega arith) c'))
    ]
  where
    get-set : (xs : List ℕ) (i k n m : ℕ) → slice_get (slice_set xs i n) k ≡ Some m → (slice_get xs k ≡ Some m) ⊎ ((k ≡ i) × (m ≡ n))
    get-set [] i k n m e = cc
    get-set (x ∷ xs) zero zero n m e = inr (refl, cc)
    get-set (x ∷ xs) zero (suc k) n m e = inl e
    get-set (x ∷ xs) (suc i) zero n m e = inl e
    get-set (x ∷ xs) (suc i) (suc k) n m e = elim (get-set xs i k n m e) [ inl h ↦ inl h | inr h ↦ inr (ap suc h.0, h.1) ]

    by_less : {P : Type 0} (m n : ℕ) → (m < n → P) → (n ≤ m → P) → P
    by_less m zero f g = g (omega arith)
    by_less zero (suc n) f g = f (omega arith)
    by_less (suc m) (suc n) f g = by_less m n (λ lt. f (omega arith)) (λ le. g (omega arith))

pub tour-next : (edges : List Edge) (states : ℕ) (f : List ℕ) (stop : ℕ) (left next new row way back : List ℕ) (at from i : ℕ)
    → row ≡ places from_of at edges → slice_get next at ≡ Some from → new ≡ slice_set next at i → ((k q : ℕ) → from ≤ k → k < i → slice_get row k ≡ Some q → slice_index left q ≡ 0)
    → IsTour edges states f stop left next way back at → IsTour edges states f stop left new way back at
tour-next edges states f stop left next new row way back at from i r is push none t = record {
  within = t.within;
  size = t.size;
  rows = ap length push ∙ length-set next at i ∙ t.rows;
  passed = passed-next edges left next new row at from i r is push none t.passed;
  out = t.out;
  goal = t.goal;
  home = t.home;
  balances = t.balances;
  counted = t.counted;
  settled = t.settled;
}

-- a state whose row has no edge left is drained
pub row-drained : (edges : List Edge) (left next row : List ℕ) (at from : ℕ) → row ≡ places from_of at edges → slice_get next at ≡ Some from
    → ((k q : ℕ) → from ≤ k → slice_get row k ≡ Some q → slice_index left q ≡ 0) → ArePassed edges left next → IsDrained edges left at
row-drained edges left next row at from r is none old p e g f =
    let i = places-all from_of at 0 edges p p e (omega arith) g f in
    by_less i.0 from
    (λ lt. old at from i.0 p is lt i.1)
    (λ le. none i.0 p le (rw r i.1))
  where
    by_less : {P : Type 0} (m n : ℕ) → (m < n → P) → (n ≤ m → P) → P
    by_less m zero f g = g (omega arith)
    by_less zero (suc n) f g = f (omega arith)
    by_less (suc m) (suc n) f g = by_less m n (λ lt. f (omega arith)) (λ le. g (omega arith))

-- the tour begins
pub tour-start : (edges : List Edge) (states : ℕ) (f : List ℕ) (stop : ℕ) (left next way back : List ℕ) → 0 < states → length f ≡ length edges → Balances edges f 0 stop
    → left ≡ f → next ≡ replicate states 0 → way ≡ [] → back ≡ [] → IsTour edges states f stop left next way back 0
tour-start edges states f stop left next way back some size balances a b c d = rw (a, b, c, d) (record {
  within = some;
  size = size;
  rows = length-noughts states;
  passed = λ s n k p g lt h. absurd (let z = noughts-get states s n g in omega arith);
  out = refl;
  goal = stop;
  home = refl;
  balances = balances;
  counted = λ p. omega arith;
  settled = λ i p e g h. cc;
})
  where
    length-noughts : (n : ℕ) → length (replicate {A = ℕ} n 0) ≡ n
    length-noughts zero = refl
    length-noughts (suc n) = ap suc (length-noughts n)

    noughts-get : (n s m : ℕ) → slice_get (replicate {A = ℕ} n 0) s ≡ Some m → m ≡ 0
    noughts-get zero s m e = cc
    noughts-get (suc n) zero m e = cc
    noughts-get (suc n) (suc s) m e = noughts-get n s m e

pub toured-edge : (edges : List Edge) (f : List ℕ) (stop : ℕ) (left back : List ℕ) → IsToured edges f stop left back → (i p : ℕ) → slice_get back i ≡ Some p → p < length edges
toured-edge edges f stop left back t i p g =
    let o = occurs p back i g in
    let r = occurrences-reverse p back in
    let at = occurs-at p (reverse back) (omega arith) in
    let e = walk-at edges 0 (reverse back) stop at.0 p t.home at.1 in
    slice_get_within edges p e.0 e.1

-- one step of a tour
module _ (edges all : List Edge) (states : ℕ) (f : List ℕ) (stop : ℕ) (left next way back lefts nexts row : List ℕ) (at : ℕ)
    (t : IsTour edges states f stop left next way back at) (ea : all ≡ edges) (er : row ≡ places from_of at edges) (en : nexts ≡ next) (el : lefts ≡ left) where
  pub step-places : (i p : ℕ) → slice_get row i ≡ Some p → p < length lefts
  step-places i p g =
      let r = places-in from_of at 0 edges i p (subst (λ l. slice_get l i ≡ Some p) er g) in
      let b = slice_get_within edges r.0 r.1 r.3 in
      let e = r.2 in
      let size = t.size in
      let l = ap length el in
      omega arith

  from-is : slice_get next at ≡ Some (slice_index nexts at)
  from-is = let w = t.within in let r = t.rows in rw en (slice_get-get_or next at 0 (omega arith))

  pub step-inside : (i : ℕ) → IsNextLeft row (slice_index nexts at) lefts (Some i) → i < length row
  step-inside i h = slice_get_within row i h.0 h.1

  pub step-used : (i : ℕ) → IsNextLeft row (slice_index nexts at) lefts (Some i) → 0 < slice_index left (get_or row i 0)
  step-used i h =
      let g = slice_get-get_or row i 0 (slice_get_within row i h.0 h.1) in
      let same : h.0 ≡ get_or row i 0 = (let x = h.1 in cc) in
      subst (λ l. 0 < slice_index l (get_or row i 0)) el (subst (λ p. 0 < slice_index lefts p) same h.2)

  pub step-edge : (i : ℕ) → IsNextLeft row (slice_index nexts at) lefts (Some i) → (e : Edge) × (slice_get all (get_or row i 0) ≡ Some e) × (e.from ≡ at)
  step-edge i h = row-edge edges all row at i ea er (slice_get_within row i h.0 h.1)

  pub step-from : (i : ℕ) → IsNextLeft row (slice_index nexts at) lefts (Some i) → (e : Edge) → slice_get all (get_or row i 0) ≡ Some e → e.from ≡ at
  step-from i h e g = let r = step-edge i h in let same : r.0 ≡ e = (let x = r.1 in cc) in subst (λ (d : Edge). d.from ≡ at) same r.2

  pub step-below : (i : ℕ) → IsNextLeft row (slice_index nexts at) lefts (Some i) → get_or row i 0 < length all
  step-below i h = let r = step-edge i h in slice_get_within all (get_or row i 0) r.0 r.1

  pub step-some : (i : ℕ) (new : List ℕ) → IsNextLeft row (slice_index nexts at) lefts (Some i) → new ≡ slice_set next at i → IsTour edges states f stop left new way back at
  step-some i new h push =
      tour-next edges states f stop left next new row way back at (slice_index nexts at) i er from-is push
      (λ k q a b c. subst (λ l. slice_index l q ≡ 0) el (h.3 k q a b c)) t

  pub step-none : (new : List ℕ) (n : ℕ) → IsNextLeft row (slice_index nexts at) lefts None → n ≡ length row → new ≡ slice_set next at n → IsTour edges states f stop left new way back at
  step-none new n h size push =
      tour-next edges states f stop left next new row way back at (slice_index nexts at) n er from-is push
      (λ k q a b c. subst (λ l. slice_index l q ≡ 0) el (h k q a c)) t

  pub step-drained : IsNextLeft row (slice_index nexts at) lefts None → IsDrained edges left at
  step-drained h = row-drained edges left next row at (slice_index nexts at) er from-is (λ k q a c. subst (λ l. slice_index l q ≡ 0) el (h k q a c)) t.passed

  pub step-way : (i p : ℕ) → slice_get way i ≡ Some p → p < length all
  step-way i p g = let e = walk-at edges 0 way at i p t.out g in let b = slice_get_within edges p e.0 e.1 in rw ea b
