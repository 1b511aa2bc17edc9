-- What is left of a regular expression once a character is read.
use Rattle.std.proofs.Common.{◌≡◌, refl, sym, ap, ◌∙◌, subst, ℕ, zero, suc, ◌≤◌, ◌<◌, ◌-◌, List, [], ◌∷◌, ◌++◌, ◌⊎◌, inl, inr, ⊎_elim, arith}
use Rattle.std.proofs.lemmas.Grind.{common_steps}
use Rattle.sv_terms.specs.declared.regex.Regex.{Regex}
use Rattle.sv_terms.specs.declared.regex.Regex.TheVariants as v
use Rattle.sv_word.specs.Words.{IsWord, greatest_character}
use Rattle.sv_terms.specs.Language.{Word, Language, Then, Power, In, InEachInTurn, Repeated, done, more}
use Rattle.term_eval.specs.Derivative.{SameWords, IsDerivative}
use Rattle.sv_terms.specs.Opened.{In-Empty, In-All, In-AnyChar, In-Text, In-Range, In-Concat, In-Star, In-Plus, In-Opt, In-Comp, In-Loop}
use Rattle.sv_terms.specs.OnlyWords.{In-word}

abbrev After : ℕ → Language → Language
After c P w = P (c ∷ w)

-- over bare languages

pub append_nil : (u : Word) → u ++ [] ≡ u
append_nil u = grind (arith, common_steps)

then_split : (P Q : Language) (c : ℕ) (w u v : Word) → c ∷ w ≡ u ++ v → P u → Q v → Then (After c P) Q w ⊎ (P [] × Q (c ∷ w))
then_split P Q c w [] v e p q = inr (p, subst Q (sym e) q)
then_split P Q c w (d ∷ u) v e p q = let f : d ≡ c = cc in let g : w ≡ u ++ v = cc in inl (u, v, g, subst (λ z. P (z ∷ u)) f p, q)

then_after : (P Q : Language) (c : ℕ) (w : Word) → Then P Q (c ∷ w) → Then (After c P) Q w ⊎ (P [] × Q (c ∷ w))
then_after P Q c w t = then_split P Q c w t.0 t.1 t.2 t.3 t.4

after_then : (P Q : Language) (c : ℕ) (w : Word) → Then (After c P) Q w → Then P Q (c ∷ w)
after_then P Q c w t = (c ∷ t.0, t.1, ap (λ z. c ∷ z) t.2, t.3, t.4)

pub skip_then : (P Q : Language) (w : Word) → P [] → Q w → Then P Q w
skip_then P Q w p q = ([], w, refl, p, q)

repeated_split : (P : Language) (c : ℕ) (w z : Word) → z ≡ c ∷ w → Repeated P z → Then (After c P) (Repeated P) w
repeated_split P c w z h done = cc
repeated_split P c w z h (more {c = d} {u} {v} e x r) = let k : (d ∷ u) ++ v ≡ c ∷ w = sym e ∙ h in let f : d ≡ c = cc in let g : w ≡ u ++ v = cc in (u, v, g, subst (λ y. P (y ∷ u)) f x, r)

repeated_after : (P : Language) (c : ℕ) (w : Word) → Repeated P (c ∷ w) → Then (After c P) (Repeated P) w
repeated_after P c w r = repeated_split P c w (c ∷ w) refl r

after_repeated : (P : Language) (c : ℕ) (w : Word) → Then (After c P) (Repeated P) w → Repeated P (c ∷ w)
after_repeated P c w t = more (ap (λ z. c ∷ z) t.2) t.3 t.4

plus_after : (P : Language) (c : ℕ) (w : Word) → Then P (Repeated P) (c ∷ w) → Then (After c P) (Repeated P) w
plus_after P c w t = ⊎_elim (λ k. k) (λ k. repeated_after P c w k.1) (then_after P (Repeated P) c w t)

-- an empty piece in front goes behind the first one that is not empty
power_after : (P : Language) (n c : ℕ) (w : Word) → Power P (suc n) (c ∷ w) → Then (After c P) (Power P n) w
power_after P zero c w t = ⊎_elim (λ k. k) (λ k. let e = k.1 in cc) (then_after P (Power P zero) c w t)
power_after P (suc n) c w t =
    ⊎_elim (λ k. k) (λ k. let s = power_after P n c w k.1 in (s.0, s.1, s.2, s.3, skip_then P (Power P n) s.1 k.0 s.4)) (then_after P (Power P (suc n)) c w t)

abbrev Times : Language → ℕ → ℕ → Language
Times P i j w = (n : ℕ) × (i ≤ n) × (n ≤ j) × Power P n w

times_split : (P : Language) (i j n c : ℕ) (w : Word) → i ≤ n → n ≤ j → Power P n (c ∷ w) → Then (After c P) (Times P (i - 1) (j - 1)) w
times_split P i j zero c w h g p = cc
times_split P i j (suc n) c w h g p = let s = power_after P n c w p in (s.0, s.1, s.2, s.3, (n, omega arith, omega arith, s.4))

times_after : (P : Language) (i j c : ℕ) (w : Word) → Times P i j (c ∷ w) → Then (After c P) (Times P (i - 1) (j - 1)) w
times_after P i j c w t = times_split P i j t.0 c w t.1 t.2 t.3

after_times : (P : Language) (i j c : ℕ) (w : Word) → 0 < j → Then (After c P) (Times P (i - 1) (j - 1)) w → Times P i j (c ∷ w)
after_times P i j c w h t = let k = t.4 in (suc k.0, omega (arith, k.1), omega (arith, k.2), after_then P (Power P k.0) c w (t.0, t.1, t.2, t.3, k.3))

-- of two, in turn
pub of-pair : (a b : Regex) (w : Word) → In (v.Concat (a ∷ b ∷ [])) w → Then (In a) (In b) w
of-pair a b w h =
    let t : InEachInTurn In (a ∷ b ∷ []) w = rw In-Concat at h in
    let s = t.4 in
    let e : t.1 ≡ s.0 = s.2 ∙ ap (λ z. s.0 ++ z) s.4 ∙ append_nil s.0 in
    (t.0, t.1, t.2, t.3, subst (In b) (sym e) s.3)

pub in-pair : (a b : Regex) (w : Word) → Then (In a) (In b) w → In (v.Concat (a ∷ b ∷ [])) w
in-pair a b w t = rw In-Concat (t.0, t.1, t.2, t.3, (t.1, [], sym (append_nil t.1), t.4, refl))

-- the derivative of each kind
pub d-Empty : (c : ℕ) → IsDerivative v.Empty c v.Empty
d-Empty c = record { only = λ w h. absurd (rw In-Empty at h); all = λ w h. absurd (rw In-Empty at h) }

pub d-none : (r : Regex) (c : ℕ) → greatest_character < c → IsDerivative r c v.Empty
d-none r c h = record { only = λ w k. absurd (rw In-Empty at k); all = λ w k. absurd (let q = In-word r (c ∷ w) k in omega (arith, q.0)) }

pub d-All : (c : ℕ) → c ≤ greatest_character → IsDerivative v.All c v.All
d-All c h = record {
  only = λ w k. rw In-All (h, (let q : IsWord w = rw In-All at k in q));
  all = λ w k. let q : IsWord (c ∷ w) = rw In-All at k in rw In-All q.1;
}

in_nil : (w : Word) → w ≡ [] → In (v.Text []) w
in_nil w e = rw In-Text (e, subst IsWord (sym e) tt)

of_nil : (w : Word) → In (v.Text []) w → w ≡ []
of_nil w h = let q : (w ≡ []) × IsWord w = rw In-Text at h in q.0

pub d-AnyChar : (c : ℕ) → c ≤ greatest_character → IsDerivative v.AnyChar c (v.Text [])
d-AnyChar c h = record {
  only = λ w k. rw In-AnyChar (c, h, ap (λ z. c ∷ z) (of_nil w k));
  all = λ w k. let q : (d : ℕ) × (d ≤ greatest_character) × (c ∷ w ≡ d ∷ []) = rw In-AnyChar at k in in_nil w (let e = q.2 in cc);
}

pub d-Range : (lo hi c : ℕ) → lo ≤ c → c ≤ hi → c ≤ greatest_character → IsDerivative (v.Range lo hi) c (v.Text [])
d-Range lo hi c h g f = record {
  only = λ w k. rw In-Range (c, h, g, f, ap (λ z. c ∷ z) (of_nil w k));
  all = λ w k. let q : (d : ℕ) × (lo ≤ d) × (d ≤ hi) × (d ≤ greatest_character) × (c ∷ w ≡ d ∷ []) = rw In-Range at k in in_nil w (let e = q.4 in cc);
}

pub d-Range-none : (lo hi c : ℕ) → (lo ≤ c → c ≤ hi → c ≤ greatest_character → ⊥) → IsDerivative (v.Range lo hi) c v.Empty
d-Range-none lo hi c never = record {
  only = λ w k. absurd (rw In-Empty at k);
  all = λ w k.
      let q : (d : ℕ) × (lo ≤ d) × (d ≤ hi) × (d ≤ greatest_character) × (c ∷ w ≡ d ∷ []) = rw In-Range at k in
      let f = q.4 in
      let e : c ≡ q.0 = cc in absurd (never (omega (arith, q.1, e)) (omega (arith, q.2, e)) (omega (arith, q.3, e)));
}

pub d-Text : (s t : Word) (c : ℕ) → s ≡ c ∷ t → IsWord s → IsDerivative (v.Text s) c (v.Text t)
d-Text s t c e h = record {
  only = λ w k. let q : (w ≡ t) × IsWord w = rw In-Text at k in let g : c ∷ w ≡ s = ap (λ z. c ∷ z) q.0 ∙ sym e in rw In-Text (g, subst IsWord (sym g) h);
  all = λ w k. let q : (c ∷ w ≡ s) × IsWord (c ∷ w) = rw In-Text at k in let f = q.0 in let g : w ≡ t = cc in rw In-Text (g, q.1.1);
}

pub d-Text-none : (s : Word) (c : ℕ) → ((t : Word) → s ≡ c ∷ t → ⊥) → IsDerivative (v.Text s) c v.Empty
d-Text-none s c never = record {
  only = λ w k. absurd (rw In-Empty at k);
  all = λ w k. let q : (c ∷ w ≡ s) × IsWord (c ∷ w) = rw In-Text at k in absurd (never w (sym q.0));
}

pub d-Star : (r e d : Regex) (c : ℕ) → IsDerivative r c e → SameWords d (v.Concat (e ∷ v.Star r ∷ [])) → IsDerivative (v.Star r) c d
d-Star r e d c h g = record {
  only = λ w k.
      let t = of-pair e (v.Star r) w (g.only w k) in
      let s : Repeated (In r) t.1 = rw In-Star at t.4 in rw In-Star (after_repeated (In r) c w (t.0, t.1, t.2, h.only t.0 t.3, s));
  all = λ w k.
      let q : Repeated (In r) (c ∷ w) = rw In-Star at k in
      let t = repeated_after (In r) c w q in g.all w (in-pair e (v.Star r) w (t.0, t.1, t.2, h.all t.0 t.3, rw In-Star t.4));
}

pub d-Plus : (r e d : Regex) (c : ℕ) → IsDerivative r c e → SameWords d (v.Concat (e ∷ v.Star r ∷ [])) → IsDerivative (v.Plus r) c d
d-Plus r e d c h g = record {
  only = λ w k.
      let t = of-pair e (v.Star r) w (g.only w k) in
      let s : Repeated (In r) t.1 = rw In-Star at t.4 in rw In-Plus (after_then (In r) (Repeated (In r)) c w (t.0, t.1, t.2, h.only t.0 t.3, s));
  all = λ w k.
      let q : Then (In r) (Repeated (In r)) (c ∷ w) = rw In-Plus at k in
      let t = plus_after (In r) c w q in g.all w (in-pair e (v.Star r) w (t.0, t.1, t.2, h.all t.0 t.3, rw In-Star t.4));
}

opt_after : (r : Regex) (c : ℕ) (w : Word) → (c ∷ w ≡ []) ⊎ In r (c ∷ w) → In r (c ∷ w)
opt_after r c w (inl e) = cc
opt_after r c w (inr h) = h

pub d-Opt : (r d : Regex) (c : ℕ) → IsDerivative r c d → IsDerivative (v.Opt r) c d
d-Opt r d c h = record {
  only = λ w k. rw In-Opt (inr (h.only w k));
  all = λ w k. h.all w (opt_after r c w (rw In-Opt at k));
}

pub d-Comp : (r e d : Regex) (c : ℕ) → c ≤ greatest_character → IsDerivative r c e → SameWords d (v.Comp e) → IsDerivative (v.Comp r) c d
d-Comp r e d c l h g = record {
  only = λ w k. let q : IsWord w × (In e w → ⊥) = rw In-Comp at (g.only w k) in rw In-Comp ((l, q.0), λ z. q.1 (h.all w z));
  all = λ w k. let q : IsWord (c ∷ w) × (In r (c ∷ w) → ⊥) = rw In-Comp at k in g.all w (rw In-Comp (q.0.1, λ z. q.1 (h.only w z)));
}

pub d-Loop : (r e d : Regex) (i j m n c : ℕ) → 0 < j → m ≡ i - 1 → n ≡ j - 1 → IsDerivative r c e → SameWords d (v.Concat (e ∷ v.Loop r m n ∷ [])) → IsDerivative (v.Loop r i j) c d
d-Loop r e d i j m n c l p q h g = record {
  only = λ w k.
      let t = of-pair e (v.Loop r m n) w (g.only w k) in
      let x : Times (In r) m n t.1 = rw In-Loop at t.4 in
      rw In-Loop (after_times (In r) i j c w l (t.0, t.1, t.2, h.only t.0 t.3, (x.0, omega (arith, x.1, p), omega (arith, x.2, q), x.3)));
  all = λ w k.
      let x : Times (In r) i j (c ∷ w) = rw In-Loop at k in
      let t = times_after (In r) i j c w x in
      let y = t.4 in
      g.all w (in-pair e (v.Loop r m n) w (t.0, t.1, t.2, h.all t.0 t.3, rw In-Loop (y.0, omega (arith, y.1, p), omega (arith, y.2, q), y.3)));
}

no_power : (P : Language) (n c : ℕ) (w : Word) → n ≤ 0 → Power P n (c ∷ w) → ⊥
no_power P zero c w h p = cc
no_power P (suc n) c w h p = omega arith

pub d-Loop-none : (r : Regex) (i c : ℕ) → IsDerivative (v.Loop r i 0) c v.Empty
d-Loop-none r i c = record {
  only = λ w k. absurd (rw In-Empty at k);
  all = λ w k. let x : Times (In r) i 0 (c ∷ w) = rw In-Loop at k in absurd (no_power (In r) x.0 c w x.2 x.3);
}

pub of_front : (r : Regex) (rs : List Regex) (w : Word) → In (v.Concat (r ∷ rs)) w → Then (In r) (In (v.Concat rs)) w
of_front r rs w h = let t : InEachInTurn In (r ∷ rs) w = rw In-Concat at h in (t.0, t.1, t.2, t.3, rw In-Concat t.4)

pub in_front : (r : Regex) (rs : List Regex) (w : Word) → Then (In r) (In (v.Concat rs)) w → In (v.Concat (r ∷ rs)) w
in_front r rs w t = let s : InEachInTurn In rs t.1 = rw In-Concat at t.4 in rw In-Concat (t.0, t.1, t.2, t.3, s)

pub front_only : (r e f d : Regex) (rs : List Regex) (c : ℕ) → IsDerivative r c e → SameWords f (v.Concat rs) → SameWords d (v.Concat (e ∷ f ∷ [])) → (w : Word) → In d w → In (v.Concat (r ∷ rs)) (c ∷ w)
front_only r e f d rs c h s g w k =
    let t = of-pair e f w (g.only w k) in in_front r rs (c ∷ w) (after_then (In r) (In (v.Concat rs)) c w (t.0, t.1, t.2, h.only t.0 t.3, s.only t.1 t.4))

pub front_all : (r e f d : Regex) (rs : List Regex) (c : ℕ) → IsDerivative r c e → SameWords f (v.Concat rs) → SameWords d (v.Concat (e ∷ f ∷ [])) → (w : Word) → In (v.Concat (r ∷ rs)) (c ∷ w) → In d w ⊎ (In r [] × In (v.Concat rs) (c ∷ w))
front_all r e f d rs c h s g w k =
    ⊎_elim (λ t. inl (g.all w (in-pair e f w (t.0, t.1, t.2, h.all t.0 t.3, s.all t.1 t.4)))) (λ q. inr q) (then_after (In r) (In (v.Concat rs)) c w (of_front r rs (c ∷ w) k))
