-- What the machine has read, written and holds, against the replacement of words.
use Rattle.std.proofs.Common.{◌≡◌, refl, sym, ap, ◌∙◌, ℕ, zero, suc, ◌+◌, ◌-◌, ◌≤◌, ◌<◌, ◌⊎◌, inl, inr, ⊎_elim, arith, true, false, nat_eq, if◌then◌else◌, List, [], ◌∷◌, ◌++◌, length, get_or, drop, take, Some, None, le-leb}
use Rattle.std.specs.Prelude.{nat_lt, pos, ◌+ℤ◌}
use Rattle.std.specs.Option.{option_map}
use Rattle.std.proofs.lemmas.List.{append-nil, append_assoc, length-append, length-take-le, get_or_append_left, get_or-append_right, get_or-take, get_or-drop, length-drop, take_more}
use Rattle.std.proofs.lemmas.Grind.{same_number_lists}
use Rattle.std.proofs.Math.Seq.{take-length}
use Rattle.sv_list.specs.Lists.{below-cases}
use Rattle.sv_terms.specs.Replacement.{begins}
use Rattle.sv_terms.specs.ReplacementLaws.{begins-not}
use Rattle.sv_terms.specs.Transduction.{character, then_word, written_at}
use Rattle.sv_terms.specs.declared.transducer.Item.TheVariants.{Text, Shift}
use Rattle.replace_machines.specs.Borders.{IsBorder, IsNext}
use Rattle.replace_machines.specs.Rows.{at}
use Rattle.replace_machines.specs.Edges.{items_for, to_for}
use Rattle.replace_machines.proofs.RowLemmas.{same_or_not, less_or_not}
use Rattle.sv_word.specs.Words.{greatest_character}

-- the first q characters of the pattern, and then a character and a word
abbrev held : List ℕ → ℕ → ℕ → List ℕ → List ℕ
held p q c w = take q p ++ (c ∷ w)

held-at : (p : List ℕ) (q c : ℕ) (w : List ℕ) (m : ℕ) → q < length p → m < q → get_or (held p q c w) m 0 ≡ at p m
held-at p q c w m h l =
    let n = length-take-le q p (omega (arith, h)) in
    get_or_append_left (take q p) (c ∷ w) 0 m (omega (arith, n, l)) ∙ get_or-take q p m 0 l

held-last : (p : List ℕ) (q c : ℕ) (w : List ℕ) (m : ℕ) → q < length p → m ≡ q → get_or (held p q c w) m 0 ≡ c
held-last p q c w m h e =
    let n = length-take-le q p (omega (arith, h)) in
    let z : m - q ≡ 0 = omega (arith, e) in
    get_or-append_right (take q p) (c ∷ w) q m 0 n (omega (arith, e)) ∙ ap (λ k. get_or (c ∷ w) k 0) z

-- no occurrence begins with what is written
pub no-start : (p : List ℕ) (q c j : ℕ) (w : List ℕ) (i : ℕ) → q < length p → IsNext (at p) q c j → i < q + 1 - j → begins p (drop i (held p q c w)) ≡ false
no-start p q c j w i h next l = begins-not p (drop i (held p q c w)) (λ b e.
    let read : (y : ℕ) → y < length p → get_or (held p q c w) (i + y) 0 ≡ at p y = λ y g. sym (get_or-drop i (held p q c w) y 0) ∙ ap (λ (v : List ℕ). get_or v y 0) e ∙ get_or_append_left p b 0 y g in
    let border : IsBorder (at p) q (q - i) = (
      omega arith,
      λ y g. ap (at p) (let s : q - (q - i) + y ≡ i + y = omega (arith, l) in s) ∙ sym (held-at p q c w (i + y) h (omega (arith, g))) ∙ read y (omega (arith, g, h)),
    ) in
    let last : at p (q - i) ≡ c = sym (read (q - i) (omega (arith, h))) ∙ held-last p q c w (i + (q - i)) h (omega (arith, l)) in
    let less = next.most (q - i) border last in
    omega (arith, less, l))

-- what is read is what is written and what is held next
pub split-held : (p : List ℕ) (q c i : ℕ) → q < length p → IsBorder (at p) q i → at p i ≡ c → take q p ++ (c ∷ []) ≡ take (q - i) p ++ take (suc i) p
split-held p q c i h b e =
    let x = b.0 in
    let n = length-take-le q p (omega (arith, h)) in
    let n' = length-take-le (q - i) p (omega (arith, h)) in
    let n'' = length-take-le (suc i) p (omega (arith, h, x)) in
    let left = length-append (take q p) (c ∷ []) in
    let right = length-append (take (q - i) p) (take (suc i) p) in
    same_number_lists (take q p ++ (c ∷ [])) (take (q - i) p ++ take (suc i) p) (omega (arith, n, n', n'', left, right, x)) (λ k g.
    ⊎_elim
    (λ l. held-at p q c [] k h (let y = l.0 in omega (arith, y)) ∙ sym (get_or-take (q - i) p k 0 l.0) ∙ sym (get_or_append_left (take (q - i) p) (take (suc i) p) 0 k (let y = l.0 in omega (arith, y, n'))))
    (λ m.
    let y = m.0 in
    let within : k - (q - i) < suc i = omega (arith, g, n, left, x, y) in
    let there : get_or (take (q - i) p ++ take (suc i) p) k 0 ≡ at p (k - (q - i)) = get_or-append_right (take (q - i) p) (take (suc i) p) (q - i) k 0 n' y ∙ get_or-take (suc i) p (k - (q - i)) 0 within in
    ⊎_elim
    (λ l. held-at p q c [] k h (omega (arith, l, x, y)) ∙ ap (at p) (let s : k ≡ q - i + (k - (q - i)) = omega (arith, y) in s) ∙ b.1 (k - (q - i)) l ∙ sym there)
    (λ s. held-last p q c [] k h (omega (arith, s, x, y)) ∙ sym e ∙ ap (at p) (sym s) ∙ sym there)
    (below-cases (k - (q - i)) i within))
    (less_or_not k (q - i)))

pub shift-none : (c : ℕ) → c ≤ greatest_character → character (pos c +ℤ pos 0) ≡ Some c
shift-none c h =
    let same : c + 0 ≡ c = omega arith in
    ap (λ d. character (pos d)) same ∙ ap (λ b. if b then Some c else None) (le-leb c greatest_character h)

-- a text is replaced: where the pattern doesn't stand, and where it does
pub record Replaces (p u : List ℕ) (whole next : List ℕ → List ℕ) : Type 0 where
  pub skips : (c : ℕ) (v : List ℕ) → begins p (c ∷ v) ≡ false → whole (c ∷ v) ≡ c ∷ whole v
  pub here : (v : List ℕ) → whole (p ++ v) ≡ u ++ next v
  pub none : whole [] ≡ []

-- what a state writes of what is left: of the characters that it holds and the rest; behind the last occurrence the rest alone
abbrev pub answer : List ℕ → (List ℕ → List ℕ) → ℕ → List ℕ → List ℕ
answer p whole s w = if nat_lt s (length p) then whole (take s p ++ w) else w

-- what is known of one step: what is written there, and how much
pub record IsStep (p u : List ℕ) (whole : List ℕ → List ℕ) (after q c j : ℕ) : Type 0 where
  pub text : List ℕ
  pub written : written_at c (items_for p u q j) ≡ Some text
  pub answers : (w : List ℕ) → answer p whole q (c ∷ w) ≡ text ++ answer p whole (to_for p after j) w
  pub size : ((to_for p after j ≡ after) × (length text ≡ length u) × (suc q ≡ length p)) ⊎ ((to_for p after j ≡ j) × (j < length p) × (length text + j ≡ q + 1))

module _ (p u : List ℕ) (whole next : List ℕ → List ℕ) (r : Replaces p u whole next) where
  pub answer-held : (s : ℕ) (w : List ℕ) → s < length p → answer p whole s w ≡ whole (take s p ++ w)
  answer-held s w h = ⊎_elim (λ l. ap (λ b. if b then whole (take s p ++ w) else w) l.1) (λ m. let x = m.0 in absurd (omega (arith, x, h))) (less_or_not s (length p))

  skip-all : (v rest : List ℕ) → ((i : ℕ) → i < length v → begins p (drop i (v ++ rest)) ≡ false) → whole (v ++ rest) ≡ v ++ whole rest
  skip-all [] rest h = refl
  skip-all (c ∷ v) rest h = r.skips c (v ++ rest) (h zero (omega arith)) ∙ ap (λ (w : List ℕ). c ∷ w) (skip-all v rest (λ i l. h (suc i) (omega (arith, l))))

  -- at the end of the word the characters held are written
  pub answer-end : (q : ℕ) → q < length p → answer p whole q [] ≡ take q p
  answer-end q h =
      answer-held q [] h
      ∙ skip-all (take q p) [] (λ i l. begins-not p (drop i (take q p ++ [])) (λ b e.
      let n = ap length e ∙ length-append p b in
      let m = length-drop i (take q p ++ []) in
      let k = length-append (take q p) [] in
      let t = length-take-le q p (omega (arith, h)) in
      omega (arith, n, m, k, t, h)))
      ∙ ap (λ (w : List ℕ). take q p ++ w) r.none ∙ append-nil (take q p)

  module _ (after : ℕ) (goes : (w : List ℕ) → answer p whole after w ≡ next w) (q c j : ℕ) (h : q < length p) (top : c ≤ greatest_character) (is : IsNext (at p) q c j) where
    items-whole : nat_eq j (length p) ≡ true → items_for p u q j ≡ Text u ∷ []
    items-whole e = ap (λ b. if b then Text u ∷ [] else (if nat_eq j 0 then Text (take q p) ∷ (Shift (pos 0) ∷ []) else (Text (take (q + 1 - j) p) ∷ []))) e

    items-part : nat_eq j (length p) ≡ false → items_for p u q j ≡ (if nat_eq j 0 then Text (take q p) ∷ (Shift (pos 0) ∷ []) else (Text (take (q + 1 - j) p) ∷ []))
    items-part e = ap (λ b. if b then Text u ∷ [] else (if nat_eq j 0 then Text (take q p) ∷ (Shift (pos 0) ∷ []) else (Text (take (q + 1 - j) p) ∷ []))) e

    to-whole : nat_eq j (length p) ≡ true → to_for p after j ≡ after
    to-whole e = ap (λ b. if b then after else j) e

    to-part : nat_eq j (length p) ≡ false → to_for p after j ≡ j
    to-part e = ap (λ b. if b then after else j) e

    -- the whole pattern is read
    complete : (i : ℕ) → j ≡ length p → j ≡ suc i → IsBorder (at p) q i → at p i ≡ c → (suc q ≡ length p) × ((w : List ℕ) → take q p ++ (c ∷ w) ≡ p ++ w)
    complete i e s b g =
        let x = b.0 in
        let n : suc q ≡ length p = omega (arith, h, e, s, x) in
        let m : i ≡ q = omega (arith, h, e, s, x) in
        let one : take q p ++ (c ∷ []) ≡ p = ap (λ d. take q p ++ (d ∷ [])) (sym g ∙ ap (at p) m) ∙ sym (take_more p q 0 h) ∙ ap (λ k. take k p) (let z : q + 1 ≡ length p = omega (arith, n) in z) ∙ take-length p in
        (n, λ w. sym (append_assoc (take q p) (c ∷ []) w) ∙ ap (λ (v : List ℕ). v ++ w) one)

    step-whole : (j ≡ length p) × (nat_eq j (length p) ≡ true) → IsStep p u whole after q c j
    step-whole k = ⊎_elim (λ z. let e = k.0 in absurd (omega (arith, h, e, z))) (λ f.
        let whole_read = complete f.0 k.0 f.1 f.2 f.3 in
        record {
          text = u ++ [];
          written = ap (written_at c) (items-whole k.1);
          answers = λ w.
              answer-held q (c ∷ w) h ∙ ap whole (whole_read.1 w) ∙ r.here w ∙ ap (λ (v : List ℕ). u ++ v) (sym (goes w))
              ∙ ap (λ (v : List ℕ). v ++ answer p whole after w) (sym (append-nil u))
              ∙ ap (λ s. (u ++ []) ++ answer p whole s w) (sym (to-whole k.1));
          size = inl (to-whole k.1, ap length (append-nil u), whole_read.0);
        }) is.fits

    step-none : nat_eq j (length p) ≡ false → (j ≡ 0) × (nat_eq j 0 ≡ true) → IsStep p u whole after q c j
    step-none e k = record {
      text = take q p ++ (c ∷ []);
      written = ap (written_at c) (items-part e ∙ ap (λ b. if b then Text (take q p) ∷ (Shift (pos 0) ∷ []) else (Text (take (q + 1 - j) p) ∷ [])) k.1)
          ∙ ap (λ o. then_word (Some (take q p)) (then_word (option_map (λ d. d ∷ []) o) (Some []))) (shift-none c top);
      answers = λ w.
          answer-held q (c ∷ w) h
          ∙ ap whole (sym (append_assoc (take q p) (c ∷ []) w))
          ∙ skip-all (take q p ++ (c ∷ [])) w (λ i l. ap (λ (v : List ℕ). begins p (drop i v)) (append_assoc (take q p) (c ∷ []) w) ∙ no-start p q c j w i h is (let n = length-append (take q p) (c ∷ []) in let t = length-take-le q p (omega (arith, h)) in let z = k.0 in omega (arith, l, n, t, z)))
          ∙ ap (λ (v : List ℕ). (take q p ++ (c ∷ [])) ++ v) (sym (answer-held 0 w (omega (arith, h))))
          ∙ ap (λ s. (take q p ++ (c ∷ [])) ++ answer p whole s w) (sym (to-part e ∙ k.0));
      size = inr (to-part e, (let z = k.0 in omega (arith, z, h)), (let n = length-append (take q p) (c ∷ []) in let t = length-take-le q p (omega (arith, h)) in let z = k.0 in omega (arith, n, t, z)));
    }

    step-part : nat_eq j (length p) ≡ false → (j ≡ length p → ⊥) → nat_eq j 0 ≡ false → (j ≡ 0 → ⊥) → IsStep p u whole after q c j
    step-part e ne z nz = ⊎_elim (λ y. absurd (nz y)) (λ f.
        let i = f.0 in
        let s = f.1 in
        let b = f.2.0 in
        let less : j < length p = ⊎_elim (λ l. l.0) (λ m. let x = m.0 in absurd (ne (omega (arith, x, s, b, h)))) (less_or_not j (length p)) in
        let more : q + 1 - j ≡ q - i = omega (arith, s) in
        let written_part = take (q + 1 - j) p in
        let size = length-take-le (q + 1 - j) p (omega (arith, h)) in
        let split : (w : List ℕ) → take q p ++ (c ∷ w) ≡ written_part ++ (take j p ++ w) = λ w.
        sym (append_assoc (take q p) (c ∷ []) w)
        ∙ ap (λ (v : List ℕ). v ++ w) (split-held p q c i h f.2 f.3 ∙ ap (λ n. take n p ++ take (suc i) p) (sym more) ∙ ap (λ n. written_part ++ take n p) (sym s))
        ∙ append_assoc written_part (take j p) w in
        record {
          text = written_part ++ [];
          written = ap (written_at c) (items-part e ∙ ap (λ b. if b then Text (take q p) ∷ (Shift (pos 0) ∷ []) else (Text (take (q + 1 - j) p) ∷ [])) z);
          answers = λ w.
              answer-held q (c ∷ w) h
              ∙ ap whole (split w)
              ∙ skip-all written_part (take j p ++ w) (λ k l. ap (λ (v : List ℕ). begins p (drop k v)) (sym (split w)) ∙ no-start p q c j w k h is (omega (arith, l, size)))
              ∙ ap (λ (v : List ℕ). written_part ++ v) (sym (answer-held j w less))
              ∙ ap (λ (v : List ℕ). v ++ answer p whole j w) (sym (append-nil written_part))
              ∙ ap (λ n. (written_part ++ []) ++ answer p whole n w) (sym (to-part e));
          size = inr (to-part e, less, (let n = ap length (append-nil written_part) in omega (arith, n, size, s, b)));
        }) is.fits

    pub step : IsStep p u whole after q c j
    step = ⊎_elim step-whole (λ k. ⊎_elim (step-none k.1) (λ z. step-part k.1 k.0 z.1 z.0) (same_or_not j 0)) (same_or_not j (length p))
