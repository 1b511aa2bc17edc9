-- Codes as numbers of unknowns.
use Rattle.std.proofs.Common.{◌≡◌, refl, sym, ap, ◌∙◌, subst, ℕ, suc, ◌+◌, ◌<◌, ◌≤◌, ℤ, Bool, true, false, List, [], ◌∷◌, ◌++◌, length, drop, get_or, drop-cons, length-append, append_assoc, nat_eq, arith, ⊎_elim, ◌⊎◌, inl, inr, append-nil}
use Rattle.std.specs.Cmp.Lexicographic.{pointwise}
use Rattle.std.specs.Ordering.{int_eq}
use Rattle.std.proofs.lemmas.Bool.{cases_lt}
use Rattle.std.proofs.lemmas.Bool.Decides.{Decides-eqb}
use Rattle.std.proofs.lemmas.List.{drop_all}
use Rattle.literal_forms.specs.Alike.{code_is, code_self}
use Rattle.literal_forms.specs.CodeLaws.{flat_is, list_self, place_got, place_head, place_left, place_past, place_within}
use Rattle.literal_forms.specs.Codes.{same_code}
use Rattle.literal_forms.specs.Flats.{flat}
use Rattle.literal_forms.specs.Linear.{Unknown, unknown_code, same_unknown}
use Rattle.literal_forms.specs.Numbered.{AreNumbered, HasNumber, IsMore, place_in, place_of}

-- a code is looked for from the front
pub place_here : (vs : List (List ℤ)) (i : ℕ) (v c : List ℤ) → i < length vs → v ≡ get_or vs i v → pointwise int_eq v c ≡ true → place_of vs c ≡ i + place_of (drop i vs) c → i ≡ place_of vs c
place_here vs i v c l e t h =
    let front : drop i vs ≡ v ∷ drop (suc i) vs = drop-cons vs i v l ∙ (λ j. sym e j ∷ drop (suc i) vs) in
    let here : place_of (drop i vs) c ≡ 0 = ap (λ x. place_of x c) front ∙ place_head v c (drop (suc i) vs) true t in
    omega arith

pub place_later : (vs : List (List ℤ)) (i : ℕ) (v c : List ℤ) → i < length vs → v ≡ get_or vs i v → pointwise int_eq v c ≡ false → place_of vs c ≡ i + place_of (drop i vs) c → place_of vs c ≡ (i + 1) + place_of (drop (i + 1) vs) c
place_later vs i v c l e t h =
    let front : drop i vs ≡ v ∷ drop (suc i) vs = drop-cons vs i v l ∙ (λ j. sym e j ∷ drop (suc i) vs) in
    let here : place_of (drop i vs) c ≡ suc (place_of (drop (suc i) vs) c) = ap (λ x. place_of x c) front ∙ place_head v c (drop (suc i) vs) false t in
    let next : suc i ≡ i + 1 = omega arith in
    let there : place_of (drop (suc i) vs) c ≡ place_of (drop (i + 1) vs) c = ap (λ n. place_of (drop n vs) c) next in
    omega arith

pub place_nowhere : (vs : List (List ℤ)) (i : ℕ) (c : List ℤ) → i ≡ length vs → place_of vs c ≡ i + place_of (drop i vs) c → length vs ≡ place_of vs c
place_nowhere vs i c l h =
    let none : place_of (drop i vs) c ≡ 0 = ap (λ x. place_of x c) (drop_all i vs (omega arith)) in
    omega arith

pub none_more : (us : List (List ℤ)) → AreNumbered us → IsMore us us
none_more us n = record { behind = []; whole = sym (append-nil us); numbered = n }

-- an unknown that is there, and one that is put behind the others
pub found : (us : List (List ℤ)) (c : List ℤ) (u : Unknown) (i k : ℕ) → AreNumbered us → c ≡ flat (unknown_code u) → i ≡ place_of us c → i < length us → k ≡ i → HasNumber us us u k
found us c u i k n e p h q = record { more = none_more us n; within = omega arith; place = ap (place_of us) (sym e) ∙ sym p ∙ sym q }

pub put_behind : (us vs : List (List ℤ)) (c : List ℤ) (u : Unknown) (i k : ℕ) → AreNumbered us → c ≡ flat (unknown_code u) → i ≡ place_of us c → length us ≤ i → k ≡ i → vs ≡ us ++ c ∷ [] → HasNumber us vs u k
put_behind us vs c u i k n e p g q v =
    let w = place_within us c in
    let h : i ≡ length us = omega arith in
    let behind : place_of (us ++ c ∷ []) c ≡ length us = place_past us (c ∷ []) c (sym p ∙ h) ∙ ap (λ x. length us + x) (place_head c c [] true (list_self c)) ∙ omega arith in
    let each : AreNumbered (us ++ c ∷ []) = record { each = λ j l. ⊎_elim (λ a. let r = n.each j a in (r.0, place_left us (c ∷ []) (flat (unknown_code r.0)) (omega (arith, r.1)) ∙ r.1)) (λ a. (u, ap (place_of (us ++ c ∷ [])) (sym e) ∙ behind ∙ omega (arith, length-append us (c ∷ [])))) (cases_lt j (length us)) } in
    subst (λ z. HasNumber us z u k) (sym v) (record {
      more = record { behind = c ∷ []; whole = refl; numbered = each };
      within = omega (arith, length-append us (c ∷ []));
      place = ap (place_of (us ++ c ∷ [])) (sym e) ∙ behind ∙ sym h ∙ sym q;
    })

-- two unknowns are the same exactly where their places are
pub same_places : (us : List (List ℤ)) (u v : Unknown) (k : ℕ) → place_in us u ≡ k → k < length us → same_unknown u v ≡ nat_eq k (place_in us v)
same_places us u v k p l = by_test (same_unknown u v) refl
  where
    cu : List ℤ
    cu = flat (unknown_code u)

    by_test : (b : Bool) → same_unknown u v ≡ b → same_unknown u v ≡ nat_eq k (place_in us v)
    by_test true e =
        let one = code_is (unknown_code u) (unknown_code v) e in
        e ∙ sym ((Decides-eqb k (place_in us v)).1 (sym p ∙ ap (λ c. place_of us (flat c)) one))
    by_test false e = e ∙ sym (unequal (nat_eq k (place_in us v)) refl)
      where
        unequal : (b : Bool) → nat_eq k (place_in us v) ≡ b → b ≡ false
        unequal false q = refl
        unequal true q =
            let w : k ≡ place_in us v = (Decides-eqb k (place_in us v)).0 q in
            let first = place_got us (flat (unknown_code u)) [] (omega arith) in
            let second = place_got us (flat (unknown_code v)) [] (omega arith) in
            let lists : flat (unknown_code u) ≡ flat (unknown_code v) = sym first ∙ ap (λ j. get_or us j []) (p ∙ w) ∙ second in
            let codes = flat_is (unknown_code u) (unknown_code v) lists in
            let t = subst (λ c. same_code (unknown_code u) c ≡ true) codes (code_self (unknown_code u)) in
            absurd (cc)

-- what was known of unknowns goes on where others are put behind them
pub more_trans : (a b c : List (List ℤ)) → IsMore a b → IsMore b c → IsMore a c
more_trans a b c p q = record { behind = p.behind ++ q.behind; whole = q.whole ∙ ap (λ x. x ++ q.behind) p.whole ∙ append_assoc a p.behind q.behind; numbered = q.numbered }

pub place_more : (us ws : List (List ℤ)) (c : List ℤ) → (place_of (us ++ ws) c ≡ place_of us c) × (place_of us c < length us) ⊎ (length us ≤ place_of us c) × (length us ≤ place_of (us ++ ws) c)
place_more us ws c = ⊎_elim (λ l. inl (place_left us ws c l, l)) (λ l. let w = place_within us c in let e : place_of us c ≡ length us = omega arith in inr (omega arith, omega (arith, place_past us ws c e))) (cases_lt (place_of us c) (length us))

pub none_numbered : (us : List (List ℤ)) → us ≡ [] → AreNumbered us
none_numbered us e = subst AreNumbered (sym e) (record { each = λ k l. absurd (omega arith) })
