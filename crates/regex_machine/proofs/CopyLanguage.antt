-- The words of copies of a machine are words of it, one after another.
use Rattle.std.proofs.Common.{◌≡◌, ℕ, zero, suc, ◌+◌, ◌-◌, ◌<◌, ◌≤◌, ◌⊎◌, inl, inr, ◌↔◌, Bool, true, false, IsTrue, cond, ◌&&◌, not, nat_eq, List, [], ◌∷◌, ◌++◌, refl, ap, sym, ◌∙◌, subst, arith}
use Rattle.std.proofs.lemmas.Bool.Decides.{nat_tests}
use Rattle.machine_core.specs.declared.graph.Graph.{Graph}
use Rattle.machine_core.specs.Language.{RunsFrom}
use Rattle.machine_core.specs.Edges.{EndsAt}
use Rattle.sv_terms.specs.Language.{Word, Power, Then, Repeated}
use Rattle.regex_machine.specs.Joined.{WordsOf}
use Rattle.regex_machine.specs.Copied.{InCopies, AreEnough, CopyEnds, CopySteps, CopiesRead}
use Rattle.sv_terms.specs.CutOff.{split-at}
use Rattle.regex_machine.proofs.WordLemmas.{From, from-step, step-from}
use Rattle.regex_machine.proofs.CopyLemmas.{Pieces, last, piece, runs-out, runs-in}
use Rattle.regex_machine.proofs.PieceLemmas.{pieces-power, power-pieces, power-all, power-more, pieces-repeated, repeated-pieces}

pub not-zero : (n : ℕ) → nat_eq (suc n) 0 ≡ false
not-zero n = grind (arith, nat_tests)

own-start : (least : ℕ) (empty : Bool) → (nat_eq least 0 && not empty) ≡ true → (least ≡ 0) × (empty ≡ false)
own-start zero false e = (refl, refl)
own-start zero true e = cc
own-start (suc n) empty e = (let f = subst (λ b. (b && not empty) ≡ true) (not-zero n) e in cc)

first-start : (least : ℕ) (empty : Bool) → (nat_eq least 0 && not empty) ≡ false → (0 < least) ⊎ IsTrue empty
first-start zero false e = cc
first-start zero true e = inr refl
first-start (suc n) empty e = inl (omega arith)

module _ (m : Graph) (plain : m.registers ≡ 0) (least most : ℕ) (again empty : Bool) (some : 0 < most) (order : least ≤ most) (once : IsTrue again → most ≡ 1)
    (reads : IsTrue empty ↔ EndsAt m.ends 0 []) where
  few : IsTrue again → least ≤ 1
  few a = let e = once a in omega arith

  abbrev Cut : Word → Type 0
  Cut w = (k : ℕ) × ((k ≤ most) ⊎ IsTrue again) × AreEnough least empty k × Pieces (WordsOf m) k w

  room-less : (k n : ℕ) → k ≤ n → (n ≤ most) ⊎ IsTrue again → (k ≤ most) ⊎ IsTrue again
  room-less k n h (inl r) = inl (omega arith)
  room-less k n h (inr a) = inr a

  -- the words that aren't empty, which are as many where the empty word isn't one of them
  cut-up : (w : Word) → InCopies (WordsOf m) least most again w → Cut w
  cut-up w h = by_test empty refl
    where
      by_test : (b : Bool) → empty ≡ b → Cut w
      by_test true e = let p = power-pieces (WordsOf m) h.0 w h.3 in (p.0, room-less p.0 h.0 p.1 h.2, inr e, p.2)
      by_test false e = (h.0, h.2, inl h.1, power-all (WordsOf m) (λ q. let t = reads.1 q in cc) h.0 w h.3)

  -- at least so many words, where the empty word is one of them
  put-up : (n : ℕ) (w : Word) → (n ≤ most) ⊎ IsTrue again → AreEnough least empty n → Power (WordsOf m) n w → InCopies (WordsOf m) least most again w
  put-up n w room (inl ge) p = (n, ge, room, p)
  put-up n w room (inr t) p = elim (split-at n least) [
    | inl le ↦ (n, le, room, p)
    | inr gt ↦
        let sum : (least - n) + n ≡ least = omega arith in
        (least, omega arith, inl order, subst (λ k. Power (WordsOf m) k w) sum (power-more (WordsOf m) (reads.0 t) n (least - n) w p))
  ]

  room-first : (n : ℕ) → (0 + n < most) ⊎ IsTrue again → (suc n ≤ most) ⊎ IsTrue again
  room-first n (inl h) = inl (omega arith)
  room-first n (inr a) = inr a

  room-rest : (n : ℕ) → (suc n ≤ most) ⊎ IsTrue again → (0 + n < most) ⊎ IsTrue again
  room-rest n (inl h) = inl (omega arith)
  room-rest n (inr a) = inr a

  enough-first : (n : ℕ) → AreEnough least empty (suc (0 + n)) → AreEnough least empty (suc n)
  enough-first n (inl h) = inl (omega arith)
  enough-first n (inr t) = inr t

  enough-rest : (n : ℕ) → AreEnough least empty (suc n) → AreEnough least empty (suc (0 + n))
  enough-rest n (inl h) = inl (omega arith)
  enough-rest n (inr t) = inr t

  abbrev RunsAt : ℕ × ℕ → Word → List ℕ → Type 0
  RunsAt at w cost = RunsFrom (CopyEnds m least most empty) (CopySteps m most again) at w cost

  -- from a state of the first copy
  first-out : (s : ℕ) (w : Word) (cost : List ℕ) → RunsAt (0, s) w cost
      → (u v : Word) × (n : ℕ) × (w ≡ u ++ v) × From m s u × Power (WordsOf m) n v × ((suc n ≤ most) ⊎ IsTrue again) × AreEnough least empty (suc n)
  first-out s w cost r =
      let h = runs-out m plain least most again empty few w 0 s cost some r in
      (h.0, h.1, h.2, h.3, h.4, pieces-power (WordsOf m) h.2 h.1 h.5, room-first h.2 h.6, enough-first h.2 h.7)

  first-in : (s : ℕ) (u v : Word) (n : ℕ) → From m s u → Pieces (WordsOf m) n v → (suc n ≤ most) ⊎ IsTrue again → AreEnough least empty (suc n) → RunsAt (0, s) (u ++ v) []
  first-in s u v n h p room enough = runs-in m plain least most again empty few n u v 0 s some h p (room-rest n room) (enough-rest n enough)

  plain-out : (w : Word) → RunsAt (0, 0) w [] → InCopies (WordsOf m) least most again w
  plain-out w r = let h = first-out 0 w [] r in put-up (suc h.2) w h.6 h.7 (h.0, h.1, h.3, h.4, h.5)

  plain-in : (0 < least) ⊎ IsTrue empty → (w : Word) → Cut w → RunsAt (0, 0) w []
  plain-in start w (zero, room, enough, last) = by_start start enough
    where
      by_start : (0 < least) ⊎ IsTrue empty → AreEnough least empty 0 → RunsAt (0, 0) [] []
      by_start (inr t) g = (refl, inl (some, reads.0 t, inr t))
      by_start (inl h) (inr t) = (refl, inl (some, reads.0 t, inr t))
      by_start (inl h) (inl le) = absurd (omega arith)
  plain-in start w (suc n, room, enough, piece {c = c} {u = u} {v = v} is q p) =
      subst (λ l. RunsAt (0, 0) l []) (sym is) (first-in 0 (c ∷ u) v n q p room enough)

  own-out : least ≡ 0 → empty ≡ false → (w : Word) → RunsAt (most, 0) w [] → InCopies (WordsOf m) least most again w
  own-out z f [] r = (0, omega arith, inl (omega arith), refl)
  own-out z f (c ∷ w) r = elim r.3.1 [
    | inl st ↦ absurd (omega arith)
    | inr other ↦ elim other [
      | inl st ↦ absurd (omega arith)
      | inr st ↦
          let h = first-out r.1.1 w r.2 (subst (λ k. RunsAt (k, r.1.1) w r.2) st.1 r.4) in
          (suc h.2, omega arith, h.6, (c ∷ h.0, h.1, ap (λ l. c ∷ l) h.3, step-from m 0 c r.1.1 h.0 st.2 h.4, h.5))
    ]
  ]

  own-in : least ≡ 0 → (w : Word) → Cut w → RunsAt (most, 0) w []
  own-in z w (zero, room, enough, last) = (refl, inr (refl, inl (omega arith)))
  own-in z w (suc n, room, enough, piece {c = c} {u = u} {v = v} is q p) =
      let st = from-step m plain 0 c u q in
      subst (λ l. RunsAt (most, 0) l []) (sym is)
      ([], (0, st.0), [], (refl, inr (inr (refl, refl, st.1))), first-in st.0 u v n st.2 p room enough, refl)

  pub copies-language : (w : Word) → CopiesRead m least most again empty w ↔ InCopies (WordsOf m) least most again w
  copies-language w = by_test (nat_eq least 0 && not empty) refl
    where
      by_test : (b : Bool) → (nat_eq least 0 && not empty) ≡ b → RunsAt (cond b (most, 0) (0, 0)) w [] ↔ InCopies (WordsOf m) least most again w
      by_test true e = let o = own-start least empty e in (own-out o.0 o.1 w, λ h. own-in o.0 w (cut-up w h))
      by_test false e = let o = first-start least empty e in (plain-out w, λ h. plain-in o w (cut-up w h))

-- star, plus, option and loop as copies
module _ (P : Word → Type 0) where
  star-in : (w : Word) → InCopies P 0 1 true w → Repeated P w
  star-in w h = let p = power-pieces P h.0 w h.3 in pieces-repeated P p.0 w p.2

  star-out : (w : Word) → Repeated P w → InCopies P 0 1 true w
  star-out w h = let p = repeated-pieces P w h in (p.0, omega arith, inr refl, pieces-power P p.0 w p.1)

  pub star-copied : (w : Word) → InCopies P 0 1 true w ↔ Repeated P w
  star-copied w = (star-in w, star-out w)

  plus-in : (w : Word) → InCopies P 1 1 true w → Then P (Repeated P) w
  plus-in w (zero, ge, room, p) = absurd (omega arith)
  plus-in w (suc n, ge, room, p) = (p.0, p.1, p.2, p.3, star-in p.1 (n, omega arith, inr refl, p.4))

  plus-out : (w : Word) → Then P (Repeated P) w → InCopies P 1 1 true w
  plus-out w h = let s = star-out h.1 h.4 in (suc s.0, omega arith, inr refl, (h.0, h.1, h.2, h.3, s.3))

  pub plus-copied : (w : Word) → InCopies P 1 1 true w ↔ Then P (Repeated P) w
  plus-copied w = (plus-in w, plus-out w)

  no-more : (u : Word) → u ++ [] ≡ u
  no-more [] = refl
  no-more (c ∷ u) = ap (λ l. c ∷ l) (no-more u)

  opt-in : (w : Word) → InCopies P 0 1 false w → (w ≡ []) ⊎ P w
  opt-in w (zero, ge, room, p) = inl p
  opt-in w (suc zero, ge, room, p) = inr (subst P (sym (p.2 ∙ ap (λ v. p.0 ++ v) p.4 ∙ no-more p.0)) p.3)
  opt-in w (suc (suc n), ge, inl room, p) = absurd (omega arith)
  opt-in w (suc (suc n), ge, inr a, p) = cc

  opt-out : (w : Word) → (w ≡ []) ⊎ P w → InCopies P 0 1 false w
  opt-out w (inl e) = (0, omega arith, inl (omega arith), e)
  opt-out w (inr h) = (1, omega arith, inl (omega arith), (w, [], sym (no-more w), h, refl))

  pub opt-copied : (w : Word) → InCopies P 0 1 false w ↔ ((w ≡ []) ⊎ P w)
  opt-copied w = (opt-in w, opt-out w)

  room-out : (n j : ℕ) → (n ≤ j) ⊎ IsTrue false → n ≤ j
  room-out n j (inl h) = h
  room-out n j (inr a) = cc

  pub loop-copied : (i j : ℕ) (w : Word) → InCopies P i j false w ↔ ((n : ℕ) × (i ≤ n) × (n ≤ j) × Power P n w)
  loop-copied i j w = (λ h. (h.0, h.1, room-out h.0 j h.2, h.3), λ h. (h.0, h.1, inl h.2, h.3))

-- copies of languages that are the same
power-same : (P Q : Word → Type 0) → ((w : Word) → P w → Q w) → (n : ℕ) (w : Word) → Power P n w → Power Q n w
power-same P Q f zero w p = p
power-same P Q f (suc n) w p = (p.0, p.1, p.2, f p.0 p.3, power-same P Q f n p.1 p.4)

pub copied-same : (P Q : Word → Type 0) → ((w : Word) → P w ↔ Q w) → (least most : ℕ) (again : Bool) (w : Word) → InCopies P least most again w ↔ InCopies Q least most again w
copied-same P Q f least most again w = (
  λ h. (h.0, h.1, h.2, power-same P Q (λ v. (f v).0) h.0 w h.3),
  λ h. (h.0, h.1, h.2, power-same Q P (λ v. (f v).1) h.0 w h.3),
)
