-- The steps of the derivative in code.
use Rattle.std.proofs.Common.{◌≡◌, sym, ap, ◌∙◌, subst, ℕ, ◌≤◌, ◌<◌, ◌+◌, ◌-◌, List, [], ◌∷◌, ◌++◌, length, get_or, take, drop, ◌⊎◌, inl, inr, ⊎_elim, arith, length-drop}
use Rattle.std.proofs.lemmas.Grind.{common_steps}
use Rattle.sv_terms.specs.declared.regex.Regex.{Regex}
use Rattle.sv_terms.specs.declared.regex.Regex.TheVariants as v
use Rattle.sv_word.specs.Words.{greatest_character}
use Rattle.sv_terms.specs.Language.{Word, In}
use Rattle.term_eval.specs.Derivative.{SameWords, IsDerivative}
use Rattle.sv_terms.specs.Opened.{In-Empty, In-Concat, In-Diff}
use Rattle.sv_terms.specs.OnlyWords.{In-word}
use Rattle.term_eval.proofs.Builds.{same-refl, turn-one, turn-none, in_union, of_union, one_left, one_right, one_split, in_inter, of_inter, all_left, all_right, all_join, in_diff, of_diff}
use Rattle.term_eval.proofs.Lefts.{d-Empty, d-none, d-All, d-AnyChar, d-Range, d-Range-none, d-Text, d-Text-none, d-Star, d-Plus, d-Opt, d-Comp, d-Loop, d-Loop-none, front_only, front_all, in_front, skip_then}

other-way : {a b : Regex} → SameWords a b → SameWords b a
other-way h = record { only = h.all; all = h.only }

-- a union, as far as the loop has come
pub one-start : (c : ℕ) → IsDerivative (v.Union []) c (v.Union [])
one-start c = record { only = λ w h. absurd (of_union [] w h); all = λ w h. absurd (of_union [] (c ∷ w) h) }

pub one-step : (rs old new : List Regex) (r e : Regex) (c : ℕ) → IsDerivative (v.Union rs) c (v.Union old) → IsDerivative r c e → SameWords (v.Union new) (v.Union (e ∷ old)) → IsDerivative (v.Union (rs ++ r ∷ [])) c (v.Union new)
one-step rs old new r e c h g s = record {
  only = λ w k. in_union (rs ++ r ∷ []) (c ∷ w) (⊎_elim
      (λ y. one_right rs (r ∷ []) (c ∷ w) (inl (g.only w y)))
      (λ y. one_left rs (r ∷ []) (c ∷ w) (of_union rs (c ∷ w) (h.only w (in_union old w y))))
      (of_union (e ∷ old) w (s.only w k)));
  all = λ w k. s.all w (in_union (e ∷ old) w (⊎_elim
      (λ y. inr (of_union old w (h.all w (in_union rs (c ∷ w) y))))
      (λ y. inl (g.all w (⊎_elim (λ z. z) (λ z. absurd z) y)))
      (one_split rs (r ∷ []) (c ∷ w) (of_union (rs ++ r ∷ []) (c ∷ w) k))));
}

pub d-same : (r d e : Regex) (c : ℕ) → IsDerivative r c e → SameWords d e → IsDerivative r c d
d-same r d e c h s = record { only = λ w k. h.only w (s.only w k); all = λ w k. s.all w (h.all w k) }

take_next : (rs : List Regex) (i : ℕ) (r : Regex) → i < length rs → r ≡ get_or rs i r → take (i + 1) rs ≡ take i rs ++ r ∷ []
take_next rs i r l e = grind (arith, common_steps)

pub one-next : (rs old new : List Regex) (i : ℕ) (r e : Regex) (c : ℕ) → i < length rs → r ≡ get_or rs i r → IsDerivative (v.Union (take i rs)) c (v.Union old) → IsDerivative r c e → SameWords (v.Union new) (v.Union (e ∷ old)) → IsDerivative (v.Union (take (i + 1) rs)) c (v.Union new)
one-next rs old new i r e c l f h g s = subst (λ z. IsDerivative (v.Union z) c (v.Union new)) (sym (take_next rs i r l f)) (one-step (take i rs) old new r e c h g s)

whole : (rs : List Regex) (i : ℕ) → length rs ≤ i → take i rs ≡ rs
whole rs i l = grind (arith, common_steps)

pub one-end : (rs parts : List Regex) (i : ℕ) (d : Regex) (c : ℕ) → length rs ≤ i → IsDerivative (v.Union (take i rs)) c (v.Union parts) → SameWords d (v.Union parts) → IsDerivative (v.Union rs) c d
one-end rs parts i d c l h s = d-same (v.Union rs) d (v.Union parts) c (subst (λ z. IsDerivative (v.Union z) c (v.Union parts)) (whole rs i l) h) s

-- an intersection
pub all-start : (c : ℕ) → c ≤ greatest_character → IsDerivative (v.Inter []) c (v.Inter [])
all-start c l = record {
  only = λ w h. in_inter [] (c ∷ w) (l, of_inter [] w h);
  all = λ w h. let k = of_inter [] (c ∷ w) h in in_inter [] w k.1;
}

pub all-step : (rs old new : List Regex) (r e : Regex) (c : ℕ) → IsDerivative (v.Inter rs) c (v.Inter old) → IsDerivative r c e → SameWords (v.Inter new) (v.Inter (e ∷ old)) → IsDerivative (v.Inter (rs ++ r ∷ [])) c (v.Inter new)
all-step rs old new r e c h g s = record {
  only = λ w k.
      let b = of_inter (e ∷ old) w (s.only w k) in
      let x = g.only w b.0 in
      in_inter (rs ++ r ∷ []) (c ∷ w) (all_join rs (r ∷ []) (c ∷ w) (of_inter rs (c ∷ w) (h.only w (in_inter old w b.1))) (x, In-word r (c ∷ w) x));
  all = λ w k.
      let b = of_inter (rs ++ r ∷ []) (c ∷ w) k in
      let y = all_right rs (r ∷ []) (c ∷ w) b in
      s.all w (in_inter (e ∷ old) w (g.all w y.0, of_inter old w (h.all w (in_inter rs (c ∷ w) (all_left rs (r ∷ []) (c ∷ w) b)))));
}

pub all-next : (rs old new : List Regex) (i : ℕ) (r e : Regex) (c : ℕ) → i < length rs → r ≡ get_or rs i r → IsDerivative (v.Inter (take i rs)) c (v.Inter old) → IsDerivative r c e → SameWords (v.Inter new) (v.Inter (e ∷ old)) → IsDerivative (v.Inter (take (i + 1) rs)) c (v.Inter new)
all-next rs old new i r e c l f h g s = subst (λ z. IsDerivative (v.Inter z) c (v.Inter new)) (sym (take_next rs i r l f)) (all-step (take i rs) old new r e c h g s)

pub all-end : (rs parts : List Regex) (i : ℕ) (d : Regex) (c : ℕ) → length rs ≤ i → IsDerivative (v.Inter (take i rs)) c (v.Inter parts) → SameWords d (v.Inter parts) → IsDerivative (v.Inter rs) c d
all-end rs parts i d c l h s = d-same (v.Inter rs) d (v.Inter parts) c (subst (λ z. IsDerivative (v.Inter z) c (v.Inter parts)) (whole rs i l) h) s

-- a concatenation: the parts so far, and what still waits for an empty front
pub record IsTurn (rs rest parts : List Regex) (c : ℕ) : Type 0 where
  pub only : (w : Word) → In (v.Union parts) w → In (v.Concat rs) (c ∷ w)
  pub waits : (w : Word) → In (v.Concat rest) (c ∷ w) → In (v.Concat rs) (c ∷ w)
  pub all : (w : Word) → In (v.Concat rs) (c ∷ w) → In (v.Union parts) w ⊎ In (v.Concat rest) (c ∷ w)

pub turn-start : (rs : List Regex) (c : ℕ) → IsTurn rs rs [] c
turn-start rs c = record { only = λ w h. absurd (of_union [] w h); waits = λ w h. h; all = λ w h. inr h }

pub turn-step : (rs rest old new : List Regex) (r e f d : Regex) (c : ℕ) → IsTurn rs (r ∷ rest) old c → IsDerivative r c e → SameWords f (v.Concat rest) → SameWords d (v.Concat (e ∷ f ∷ [])) → SameWords (v.Union new) (v.Union (d ∷ old)) → In r [] → IsTurn rs rest new c
turn-step rs rest old new r e f d c h g s k m nil = record {
  only = λ w x. ⊎_elim (λ y. h.waits w (front_only r e f d rest c g s k w y)) (λ y. h.only w (in_union old w y)) (of_union (d ∷ old) w (m.only w x));
  waits = λ w x. h.waits w (in_front r rest (c ∷ w) (skip_then (In r) (In (v.Concat rest)) (c ∷ w) nil x));
  all = λ w x. ⊎_elim
      (λ y. inl (m.all w (in_union (d ∷ old) w (inr (of_union old w y)))))
      (λ y. ⊎_elim (λ z. inl (m.all w (in_union (d ∷ old) w (inl z)))) (λ z. inr z.1) (front_all r e f d rest c g s k w y))
      (h.all w x);
}

pub turn-stop : (rs rest old new : List Regex) (r e f d : Regex) (c : ℕ) → IsTurn rs (r ∷ rest) old c → IsDerivative r c e → SameWords f (v.Concat rest) → SameWords d (v.Concat (e ∷ f ∷ [])) → SameWords (v.Union new) (v.Union (d ∷ old)) → (In r [] → ⊥) → IsDerivative (v.Concat rs) c (v.Union new)
turn-stop rs rest old new r e f d c h g s k m never = record {
  only = λ w x. ⊎_elim (λ y. h.waits w (front_only r e f d rest c g s k w y)) (λ y. h.only w (in_union old w y)) (of_union (d ∷ old) w (m.only w x));
  all = λ w x. ⊎_elim
      (λ y. m.all w (in_union (d ∷ old) w (inr (of_union old w y))))
      (λ y. ⊎_elim (λ z. m.all w (in_union (d ∷ old) w (inl z))) (λ z. absurd (never z.0)) (front_all r e f d rest c g s k w y))
      (h.all w x);
}

no_turn : (c : ℕ) (w : Word) → In (v.Concat []) (c ∷ w) → ⊥
no_turn c w h = let e : c ∷ w ≡ [] = rw In-Concat at h in cc

pub turn-end : (rs parts : List Regex) (d : Regex) (c : ℕ) → IsTurn rs [] parts c → SameWords d (v.Union parts) → IsDerivative (v.Concat rs) c d
turn-end rs parts d c h s = record {
  only = λ w k. h.only w (s.only w k);
  all = λ w k. s.all w (⊎_elim (λ y. y) (λ y. absurd (no_turn c w y)) (h.all w k));
}

rest_at : (rs : List Regex) (i : ℕ) (r : Regex) → i < length rs → r ≡ get_or rs i r → drop i rs ≡ r ∷ drop (i + 1) rs
rest_at rs i r l e = grind (arith, common_steps)

pub turn-next : (rs rest old new : List Regex) (i : ℕ) (r e f d : Regex) (c : ℕ) → i < length rs → r ≡ get_or rs i r → rest ≡ drop (i + 1) rs → IsTurn rs (drop i rs) old c → IsDerivative r c e → SameWords f (v.Concat rest) → SameWords d (v.Concat (e ∷ f ∷ [])) → SameWords (v.Union new) (v.Union (d ∷ old)) → In r [] → IsTurn rs (drop (i + 1) rs) new c
turn-next rs rest old new i r e f d c l q p h g s k m nil =
    turn-step rs (drop (i + 1) rs) old new r e f d c (subst (λ z. IsTurn rs z old c) (rest_at rs i r l q) h) g (subst (λ z. SameWords f (v.Concat z)) p s) k m nil

pub turn-last : (rs rest old new : List Regex) (i : ℕ) (r e f d g : Regex) (c : ℕ) → i < length rs → r ≡ get_or rs i r → rest ≡ drop (i + 1) rs → IsTurn rs (drop i rs) old c → IsDerivative r c e → SameWords f (v.Concat rest) → SameWords d (v.Concat (e ∷ f ∷ [])) → SameWords (v.Union new) (v.Union (d ∷ old)) → (In r [] → ⊥) → SameWords g (v.Union new) → IsDerivative (v.Concat rs) c g
turn-last rs rest old new i r e f d g c l q p h y s k m never x =
    d-same (v.Concat rs) g (v.Union new) c (turn-stop rs (drop (i + 1) rs) old new r e f d c (subst (λ z. IsTurn rs z old c) (rest_at rs i r l q) h) y (subst (λ z. SameWords f (v.Concat z)) p s) k m never) x

nothing_left : (rs : List Regex) (i : ℕ) → length rs ≤ i → drop i rs ≡ []
nothing_left rs i l = grind (arith, common_steps)

pub turn-done : (rs parts : List Regex) (i : ℕ) (d : Regex) (c : ℕ) → length rs ≤ i → IsTurn rs (drop i rs) parts c → SameWords d (v.Union parts) → IsDerivative (v.Concat rs) c d
turn-done rs parts i d c l h s = turn-end rs parts d c (subst (λ z. IsTurn rs z parts c) (nothing_left rs i l) h) s

-- a difference
pub d-Diff-none : (c : ℕ) → IsDerivative (v.Diff []) c v.Empty
d-Diff-none c = record { only = λ w k. absurd (rw In-Empty at k); all = λ w k. absurd (rw In-Diff at k) }

pub d-Diff : (r a b d : Regex) (rs : List Regex) (c : ℕ) → IsDerivative r c a → IsDerivative (v.Union rs) c b → SameWords d (v.Diff (a ∷ b ∷ [])) → IsDerivative (v.Diff (r ∷ rs)) c d
d-Diff r a b d rs c h g s = record {
  only = λ w k.
      let q = of_diff a (b ∷ []) w (s.only w k) in
      in_diff r rs (c ∷ w) (h.only w q.0) (λ y. q.1 (inl (g.all w (in_union rs (c ∷ w) y))));
  all = λ w k.
      let q = of_diff r rs (c ∷ w) k in
      s.all w (in_diff a (b ∷ []) w (h.all w q.0) (λ y. q.1 (of_union rs (c ∷ w) (g.only w (⊎_elim (λ z. z) (λ z. absurd z) y)))));
}

pub whole_tail : (rs : List Regex) (n : ℕ) → take (length rs - n) (drop n rs) ≡ drop n rs
whole_tail rs n = let e = length-drop n rs in whole (drop n rs) (length rs - n) (omega (arith, e))

pub short-turn : (xs : List Regex) (d : Regex) → length xs < 1 → d ≡ v.Text [] → SameWords d (v.Concat xs)
short-turn [] d l e = subst (λ z. SameWords z (v.Concat [])) (sym e) turn-none
short-turn (x ∷ xs) d l e = absurd (omega arith)

pub single-turn : (xs : List Regex) (r d : Regex) → 1 ≤ length xs → length xs < 2 → r ≡ get_or xs 0 r → d ≡ r → SameWords d (v.Concat xs)
single-turn [] r d l g e f = absurd (omega arith)
single-turn (x ∷ []) r d l g e f = subst (λ z. SameWords z (v.Concat (x ∷ []))) (sym (f ∙ e)) (other-way (turn-one x))
single-turn (x ∷ y ∷ xs) r d l g e f = absurd (omega arith)

pub diff-short : (r : Regex) (rs xs : List Regex) (c : ℕ) → r ≡ v.Diff rs → xs ≡ rs → length xs < 1 → IsDerivative r c v.Empty
diff-short r rs [] c e f l = subst (λ z. IsDerivative z c v.Empty) (sym (e ∙ ap v.Diff (sym f))) (d-Diff-none c)
diff-short r rs (x ∷ xs) c e f l = absurd (omega arith)

pub diff-front : (r x a b d : Regex) (rs xs : List Regex) (c : ℕ) → r ≡ v.Diff rs → xs ≡ rs → 1 ≤ length xs → x ≡ get_or xs 0 x → IsDerivative x c a → IsDerivative (v.Union (take (length xs - 1) (drop 1 xs))) c b → SameWords d (v.Diff (a ∷ b ∷ [])) → IsDerivative r c d
diff-front r x a b d rs [] c e f l g p q s = absurd (omega arith)
diff-front r x a b d rs (y ∷ ys) c e f l g p q s =
    subst (λ z. IsDerivative z c d) (sym (e ∙ ap v.Diff (sym f)))
    (d-Diff y a b d ys c (subst (λ z. IsDerivative z c a) g p) (subst (λ z. IsDerivative (v.Union z) c b) (whole_tail (y ∷ ys) 1) q) s)

pub ruleset derives = (same-refl, turn-one, turn-none, one-start, one-next, one-end, all-start, all-next, all-end, turn-start, turn-next, turn-last, turn-done, d-Empty, d-none, d-All, d-AnyChar, d-Range, d-Range-none, d-Text, d-Text-none, d-Star, d-Plus, d-Opt, d-Comp, d-Loop, d-Loop-none, d-Diff-none, d-Diff)
