-- A smart constructor keeps the words.
use Rattle.std.proofs.Common.{◌≡◌, refl, sym, ap, ◌∙◌, subst, ℕ, zero, suc, ◌≤◌, ◌<◌, List, [], ◌∷◌, ◌++◌, length, get_or, take, drop, ◌⊎◌, inl, inr, ⊎_elim, arith, append_assoc, Bool, true, false, IsTrue, ◌↔◌}
use Rattle.std.proofs.lemmas.Grind.{common_steps}
use Rattle.std.specs.List.{insert}
use Rattle.sv_terms.specs.declared.regex.Regex.{Regex}
use Rattle.sv_terms.specs.declared.regex.Regex.TheVariants as v
use Rattle.sv_word.specs.Words.{IsWord}
use Rattle.sv_terms.specs.Language.{Word, Language, Then, Power, In, InAllOf, InOneOf, InEachInTurn}
use Rattle.term_eval.specs.Derivative.{SameWords}
use Rattle.sv_terms.specs.Opened.{In-Empty, In-All, In-Text, In-Concat, In-Union, In-Inter, In-Diff, In-Comp, In-Loop}
use Rattle.sv_terms.specs.Matches.{matches}
use Rattle.sv_terms.specs.OnlyWords.{In-word}
use Rattle.term_eval.proofs.Lefts.{of-pair, in-pair, append_nil}

pub same-refl : (a : Regex) → SameWords a a
same-refl a = record { only = λ w h. h; all = λ w h. h }

pub then-none : (b : Regex) → SameWords v.Empty (v.Concat (v.Empty ∷ b ∷ []))
then-none b = record {
  only = λ w h. absurd (rw In-Empty at h);
  all = λ w h. let t = of-pair v.Empty b w h in absurd (rw In-Empty at t.3);
}

pub then-none-rest : (a : Regex) → SameWords v.Empty (v.Concat (a ∷ v.Empty ∷ []))
then-none-rest a = record {
  only = λ w h. absurd (rw In-Empty at h);
  all = λ w h. let t = of-pair a v.Empty w h in absurd (rw In-Empty at t.4);
}

pub then-done : (b : Regex) → SameWords b (v.Concat (v.Text [] ∷ b ∷ []))
then-done b = record {
  only = λ w h. in-pair (v.Text []) b w ([], w, refl, rw In-Text (refl, tt), h);
  all = λ w h.
      let t = of-pair (v.Text []) b w h in
      let q : (t.0 ≡ []) × IsWord t.0 = rw In-Text at t.3 in
      let e : t.1 ≡ w = sym (t.2 ∙ ap (λ z. z ++ t.1) q.0) in subst (In b) e t.4;
}

pub then-done-rest : (a : Regex) → SameWords a (v.Concat (a ∷ v.Text [] ∷ []))
then-done-rest a = record {
  only = λ w h. in-pair a (v.Text []) w (w, [], sym (append_nil w), h, rw In-Text (refl, tt));
  all = λ w h.
      let t = of-pair a (v.Text []) w h in
      let q : (t.1 ≡ []) × IsWord t.1 = rw In-Text at t.4 in
      let e : t.0 ≡ w = sym (t.2 ∙ ap (λ z. t.0 ++ z) q.0 ∙ append_nil t.0) in subst (In a) e t.3;
}

turn_split : (xs ys : List Regex) (w : Word) → InEachInTurn In (xs ++ ys) w → Then (InEachInTurn In xs) (InEachInTurn In ys) w
turn_split [] ys w h = ([], w, refl, refl, h)
turn_split (x ∷ xs) ys w t =
    let s = turn_split xs ys t.1 t.4 in
    (t.0 ++ s.0, s.1, t.2 ∙ ap (λ z. t.0 ++ z) s.2 ∙ sym (append_assoc t.0 s.0 s.1), (t.0, s.0, refl, t.3, s.3), s.4)

turn_join : (xs ys : List Regex) (u v w : Word) → w ≡ u ++ v → InEachInTurn In xs u → InEachInTurn In ys v → InEachInTurn In (xs ++ ys) w
turn_join [] ys u v w e p q = let f : w ≡ v = e ∙ ap (λ z. z ++ v) p in subst (InEachInTurn In ys) (sym f) q
turn_join (x ∷ xs) ys u v w e p q =
    (p.0, p.1 ++ v, e ∙ ap (λ z. z ++ v) p.2 ∙ append_assoc p.0 p.1 v, p.3, turn_join xs ys p.1 v (p.1 ++ v) refl p.4 q)

pub then-join : (xs ys : List Regex) (a b : Regex) → SameWords (v.Concat xs) a → SameWords (v.Concat ys) b → SameWords (v.Concat (xs ++ ys)) (v.Concat (a ∷ b ∷ []))
then-join xs ys a b h g = record {
  only = λ w k.
      let q : InEachInTurn In (xs ++ ys) w = rw In-Concat at k in
      let t = turn_split xs ys w q in in-pair a b w (t.0, t.1, t.2, h.only t.0 (rw In-Concat t.3), g.only t.1 (rw In-Concat t.4));
  all = λ w k.
      let t = of-pair a b w k in
      let p : InEachInTurn In xs t.0 = rw In-Concat at (h.all t.0 t.3) in
      let q : InEachInTurn In ys t.1 = rw In-Concat at (g.all t.1 t.4) in rw In-Concat (turn_join xs ys t.0 t.1 w t.2 p q);
}

pub turn-one : (r : Regex) → SameWords (v.Concat (r ∷ [])) r
turn-one r = record {
  only = λ w k.
      let t : InEachInTurn In (r ∷ []) w = rw In-Concat at k in
      let e : t.0 ≡ w = sym (t.2 ∙ ap (λ z. t.0 ++ z) t.4 ∙ append_nil t.0) in subst (In r) e t.3;
  all = λ w k. rw In-Concat (w, [], sym (append_nil w), k, refl);
}

pub turn-none : SameWords (v.Text []) (v.Concat [])
turn-none = record {
  only = λ w k. let q : (w ≡ []) × IsWord w = rw In-Text at k in rw In-Concat q.0;
  all = λ w k. let q : w ≡ [] = rw In-Concat at k in rw In-Text (q, subst IsWord (sym q) tt);
}

pub ruleset thens = (same-refl, then-none, then-none-rest, then-done, then-done-rest, then-join, turn-one, turn-none)

-- what stands behind may be written otherwise
pub then-rest : (a f g d : Regex) → SameWords d (v.Concat (a ∷ f ∷ [])) → SameWords f g → SameWords d (v.Concat (a ∷ g ∷ []))
then-rest a f g d h s = record {
  only = λ w k. let t = of-pair a f w (h.only w k) in in-pair a g w (t.0, t.1, t.2, t.3, s.only t.1 t.4);
  all = λ w k. let t = of-pair a g w k in h.all w (in-pair a f w (t.0, t.1, t.2, t.3, s.all t.1 t.4));
}

pub ruleset behinds = (then-rest)

-- unions
pub in_union : (rs : List Regex) (w : Word) → InOneOf In rs w → In (v.Union rs) w
in_union rs w h = rw In-Union h

pub of_union : (rs : List Regex) (w : Word) → In (v.Union rs) w → InOneOf In rs w
of_union rs w h = rw In-Union at h

pub one_left : (xs ys : List Regex) (w : Word) → InOneOf In xs w → InOneOf In (xs ++ ys) w
one_left [] ys w h = absurd h
one_left (x ∷ xs) ys w (inl h) = inl h
one_left (x ∷ xs) ys w (inr h) = inr (one_left xs ys w h)

pub one_right : (xs ys : List Regex) (w : Word) → InOneOf In ys w → InOneOf In (xs ++ ys) w
one_right [] ys w h = h
one_right (x ∷ xs) ys w h = inr (one_right xs ys w h)

pub one_split : (xs ys : List Regex) (w : Word) → InOneOf In (xs ++ ys) w → InOneOf In xs w ⊎ InOneOf In ys w
one_split [] ys w h = inr h
one_split (x ∷ xs) ys w (inl h) = inl (inl h)
one_split (x ∷ xs) ys w (inr h) = ⊎_elim (λ k. inl (inr k)) (λ k. inr k) (one_split xs ys w h)

one_at : (rs : List Regex) (k : ℕ) (d : Regex) (w : Word) → k < length rs → In (get_or rs k d) w → InOneOf In rs w
one_at [] k d w l h = absurd (omega arith)
one_at (r ∷ rs) zero d w l h = inl h
one_at (r ∷ rs) (suc k) d w l h = inr (one_at rs k d w (omega arith) h)

cut : (rs : List Regex) (i : ℕ) → take i rs ++ drop i rs ≡ rs
cut rs i = grind (arith, common_steps)

pub union-insert : (rs : List Regex) (i : ℕ) (r : Regex) → SameWords (v.Union (insert rs i r)) (v.Union (r ∷ rs))
union-insert rs i r = record {
  only = λ w h. in_union (r ∷ rs) w (⊎_elim
      (λ k. inr (subst (λ z. InOneOf In z w) (cut rs i) (one_left (take i rs) (drop i rs) w k)))
      (λ y. ⊎_elim (λ k. inl k) (λ k. inr (subst (λ z. InOneOf In z w) (cut rs i) (one_right (take i rs) (drop i rs) w k))) y)
      (one_split (take i rs) (r ∷ drop i rs) w (of_union (insert rs i r) w h)));
  all = λ w h. in_union (insert rs i r) w (⊎_elim
      (λ k. one_right (take i rs) (r ∷ drop i rs) w (inl k))
      (λ k. ⊎_elim (λ y. one_left (take i rs) (r ∷ drop i rs) w y) (λ y. one_right (take i rs) (r ∷ drop i rs) w (inr y))
      (one_split (take i rs) (drop i rs) w (subst (λ z. InOneOf In z w) (sym (cut rs i)) k)))
      (of_union (r ∷ rs) w h));
}

pub union-seen : (rs : List Regex) (i : ℕ) (r d : Regex) → i < length rs → get_or rs i d ≡ r → SameWords (v.Union rs) (v.Union (r ∷ rs))
union-seen rs i r d l e = record {
  only = λ w h. in_union (r ∷ rs) w (inr (of_union rs w h));
  all = λ w h. in_union rs w (⊎_elim (λ k. one_at rs i d w l (subst (λ z. In z w) (sym e) k)) (λ k. k) (of_union (r ∷ rs) w h));
}

pub union-skip : (rs : List Regex) → SameWords (v.Union rs) (v.Union (v.Empty ∷ rs))
union-skip rs = record {
  only = λ w h. in_union (v.Empty ∷ rs) w (inr (of_union rs w h));
  all = λ w h. in_union rs w (⊎_elim (λ k. absurd (rw In-Empty at k)) (λ k. k) (of_union (v.Empty ∷ rs) w h));
}

pub union-all : (rs : List Regex) (i : ℕ) (d : Regex) → i < length rs → get_or rs i d ≡ v.All → SameWords v.All (v.Union rs)
union-all rs i d l e = record {
  only = λ w h. in_union rs w (one_at rs i d w l (subst (λ z. In z w) (sym e) h));
  all = λ w h. rw In-All (In-word (v.Union rs) w h);
}

pub union-none : SameWords v.Empty (v.Union [])
union-none = record { only = λ w h. absurd (rw In-Empty at h); all = λ w h. absurd (of_union [] w h) }

pub union-one : (r : Regex) → SameWords r (v.Union (r ∷ []))
union-one r = record { only = λ w h. in_union (r ∷ []) w (inl h); all = λ w h. ⊎_elim (λ k. k) (λ k. absurd k) (of_union (r ∷ []) w h) }

long_front : (front : List Regex) (r : Regex) → suc (length (front ++ r ∷ [])) ≡ 1 → ⊥
long_front [] r h = omega arith
long_front (x ∷ front) r h = omega arith

short_front : (rs front : List Regex) (r : Regex) → rs ≡ front ++ r ∷ [] → length rs ≡ 1 → rs ≡ r ∷ []
short_front rs [] r e l = e
short_front rs (x ∷ front) r e l = let n = ap length e in absurd (long_front front r (omega (arith, n, l)))

pub union-last : (rs front : List Regex) (r : Regex) → rs ≡ front ++ r ∷ [] → length rs ≡ 1 → SameWords r (v.Union rs)
union-last rs front r e l = subst (λ z. SameWords r (v.Union z)) (sym (short_front rs front r e l)) (union-one r)

-- the parts that were put in, and those that wait
pub record UnionSplit (old more rest now : List Regex) : Type 0 where
  pub only : (w : Word) → InOneOf In rest w ⊎ InOneOf In now w → InOneOf In more w ⊎ InOneOf In old w
  pub all : (w : Word) → InOneOf In more w ⊎ InOneOf In old w → InOneOf In rest w ⊎ InOneOf In now w

pub split-start : (old more : List Regex) → UnionSplit old more more old
split-start old more = record { only = λ w h. h; all = λ w h. h }

pub split-step : (old more rest left now new : List Regex) (r : Regex) → UnionSplit old more rest now → rest ≡ left ++ r ∷ [] → SameWords (v.Union new) (v.Union (r ∷ now)) → UnionSplit old more left new
split-step old more rest left now new r h e g = record {
  only = λ w k. h.only w (⊎_elim
      (λ y. inl (subst (λ z. InOneOf In z w) (sym e) (one_left left (r ∷ []) w y)))
      (λ y. ⊎_elim (λ z. inl (subst (λ q. InOneOf In q w) (sym e) (one_right left (r ∷ []) w (inl z)))) (λ z. inr z) (of_union (r ∷ now) w (g.only w (in_union new w y))))
      k);
  all = λ w k. ⊎_elim
      (λ y. ⊎_elim (λ z. inl z) (λ z. inr (of_union new w (g.all w (in_union (r ∷ now) w (⊎_elim (λ q. inl q) (λ q. absurd q) z))))) (one_split left (r ∷ []) w (subst (λ z. InOneOf In z w) e y)))
      (λ y. inr (of_union new w (g.all w (in_union (r ∷ now) w (inr y)))))
      (h.all w k);
}

pub split-end : (old more now : List Regex) → UnionSplit old more [] now → SameWords (v.Union now) (v.Union (v.Union more ∷ old))
split-end old more now h = record {
  only = λ w k. in_union (v.Union more ∷ old) w (⊎_elim (λ y. inl (in_union more w y)) (λ y. inr y) (h.only w (inr (of_union now w k))));
  all = λ w k. in_union now w (⊎_elim (λ y. absurd y) (λ y. y) (h.all w (⊎_elim (λ y. inl (of_union more w y)) (λ y. inr y) (of_union (v.Union more ∷ old) w k))));
}

pub split-whole : (more : List Regex) → SameWords (v.Union more) (v.Union (v.Union more ∷ []))
split-whole more = union-one (v.Union more)

pub ruleset unions = (same-refl, union-insert, union-seen, union-skip, union-all, union-none, union-one, union-last, split-start, split-step, split-end, split-whole)

-- intersections
pub in_inter : (rs : List Regex) (w : Word) → InAllOf In rs w → In (v.Inter rs) w
in_inter rs w h = rw In-Inter h

pub of_inter : (rs : List Regex) (w : Word) → In (v.Inter rs) w → InAllOf In rs w
of_inter rs w h = rw In-Inter at h

pub all_words : (rs : List Regex) (w : Word) → InAllOf In rs w → IsWord w
all_words rs w h = In-word (v.Inter rs) w (in_inter rs w h)

pub all_left : (xs ys : List Regex) (w : Word) → InAllOf In (xs ++ ys) w → InAllOf In xs w
all_left [] ys w h = all_words ys w h
all_left (x ∷ xs) ys w h = (h.0, all_left xs ys w h.1)

pub all_right : (xs ys : List Regex) (w : Word) → InAllOf In (xs ++ ys) w → InAllOf In ys w
all_right [] ys w h = h
all_right (x ∷ xs) ys w h = all_right xs ys w h.1

pub all_join : (xs ys : List Regex) (w : Word) → InAllOf In xs w → InAllOf In ys w → InAllOf In (xs ++ ys) w
all_join [] ys w h g = g
all_join (x ∷ xs) ys w h g = (h.0, all_join xs ys w h.1 g)

all_at : (rs : List Regex) (k : ℕ) (d : Regex) (w : Word) → k < length rs → InAllOf In rs w → In (get_or rs k d) w
all_at [] k d w l h = absurd (omega arith)
all_at (r ∷ rs) zero d w l h = h.0
all_at (r ∷ rs) (suc k) d w l h = all_at rs k d w (omega arith) h.1

pub inter-insert : (rs : List Regex) (i : ℕ) (r : Regex) → SameWords (v.Inter (insert rs i r)) (v.Inter (r ∷ rs))
inter-insert rs i r = record {
  only = λ w h.
      let k = of_inter (insert rs i r) w h in
      let b = all_right (take i rs) (r ∷ drop i rs) w k in
      in_inter (r ∷ rs) w (b.0, subst (λ z. InAllOf In z w) (cut rs i) (all_join (take i rs) (drop i rs) w (all_left (take i rs) (r ∷ drop i rs) w k) b.1));
  all = λ w h.
      let k = of_inter (r ∷ rs) w h in
      let y = subst (λ z. InAllOf In z w) (sym (cut rs i)) k.1 in
      in_inter (insert rs i r) w (all_join (take i rs) (r ∷ drop i rs) w (all_left (take i rs) (drop i rs) w y) (k.0, all_right (take i rs) (drop i rs) w y));
}

pub inter-seen : (rs : List Regex) (i : ℕ) (r d : Regex) → i < length rs → get_or rs i d ≡ r → SameWords (v.Inter rs) (v.Inter (r ∷ rs))
inter-seen rs i r d l e = record {
  only = λ w h. let k = of_inter rs w h in in_inter (r ∷ rs) w (subst (λ z. In z w) e (all_at rs i d w l k), k);
  all = λ w h. let k = of_inter (r ∷ rs) w h in in_inter rs w k.1;
}

pub inter-skip : (rs : List Regex) → SameWords (v.Inter rs) (v.Inter (v.All ∷ rs))
inter-skip rs = record {
  only = λ w h. let k = of_inter rs w h in in_inter (v.All ∷ rs) w (rw In-All (all_words rs w k), k);
  all = λ w h. let k = of_inter (v.All ∷ rs) w h in in_inter rs w k.1;
}

pub inter-never : (rs : List Regex) (i : ℕ) (d : Regex) → i < length rs → get_or rs i d ≡ v.Empty → SameWords v.Empty (v.Inter rs)
inter-never rs i d l e = record {
  only = λ w h. absurd (rw In-Empty at h);
  all = λ w h. subst (λ z. In z w) e (all_at rs i d w l (of_inter rs w h));
}

pub inter-none : SameWords v.All (v.Inter [])
inter-none = record {
  only = λ w h. in_inter [] w (let q : IsWord w = rw In-All at h in q);
  all = λ w h. rw In-All (of_inter [] w h);
}

pub inter-one : (r : Regex) → SameWords r (v.Inter (r ∷ []))
inter-one r = record {
  only = λ w h. in_inter (r ∷ []) w (h, In-word r w h);
  all = λ w h. let k = of_inter (r ∷ []) w h in k.0;
}

pub inter-last : (rs front : List Regex) (r : Regex) → rs ≡ front ++ r ∷ [] → length rs ≡ 1 → SameWords r (v.Inter rs)
inter-last rs front r e l = subst (λ z. SameWords r (v.Inter z)) (sym (short_front rs front r e l)) (inter-one r)

pub record InterSplit (old more rest now : List Regex) : Type 0 where
  pub only : (w : Word) → InAllOf In rest w × InAllOf In now w → InAllOf In more w × InAllOf In old w
  pub all : (w : Word) → InAllOf In more w × InAllOf In old w → InAllOf In rest w × InAllOf In now w

pub inter-start : (old more : List Regex) → InterSplit old more more old
inter-start old more = record { only = λ w h. h; all = λ w h. h }

pub inter-step : (old more rest left now new : List Regex) (r : Regex) → InterSplit old more rest now → rest ≡ left ++ r ∷ [] → SameWords (v.Inter new) (v.Inter (r ∷ now)) → InterSplit old more left new
inter-step old more rest left now new r h e g = record {
  only = λ w k.
      let b = of_inter (r ∷ now) w (g.only w (in_inter new w k.1)) in
      h.only w (subst (λ z. InAllOf In z w) (sym e) (all_join left (r ∷ []) w k.0 (b.0, all_words now w b.1)), b.1);
  all = λ w k.
      let b = h.all w k in
      let y = subst (λ z. InAllOf In z w) e b.0 in
      let s = all_right left (r ∷ []) w y in (all_left left (r ∷ []) w y, of_inter new w (g.all w (in_inter (r ∷ now) w (s.0, b.1))));
}

pub inter-end : (old more now : List Regex) → InterSplit old more [] now → SameWords (v.Inter now) (v.Inter (v.Inter more ∷ old))
inter-end old more now h = record {
  only = λ w k. let n = of_inter now w k in let y = h.only w (all_words now w n, n) in in_inter (v.Inter more ∷ old) w (in_inter more w y.0, y.1);
  all = λ w k. let y = of_inter (v.Inter more ∷ old) w k in let z = h.all w (of_inter more w y.0, y.1) in in_inter now w z.1;
}

pub ruleset inters = (same-refl, inter-insert, inter-seen, inter-skip, inter-never, inter-none, inter-one, inter-last, inter-start, inter-step, inter-end)

-- differences, complements and loops
pub in_diff : (r : Regex) (rs : List Regex) (w : Word) → In r w → (InOneOf In rs w → ⊥) → In (v.Diff (r ∷ rs)) w
in_diff r rs w h g = rw In-Diff (h, g)

pub of_diff : (r : Regex) (rs : List Regex) (w : Word) → In (v.Diff (r ∷ rs)) w → In r w × (InOneOf In rs w → ⊥)
of_diff r rs w h = rw In-Diff at h

pub diff-none : (b : Regex) → SameWords v.Empty (v.Diff (v.Empty ∷ b ∷ []))
diff-none b = record {
  only = λ w h. absurd (rw In-Empty at h);
  all = λ w h. let k = of_diff v.Empty (b ∷ []) w h in k.0;
}

pub diff-whole : (a : Regex) → SameWords a (v.Diff (a ∷ v.Empty ∷ []))
diff-whole a = record {
  only = λ w h. in_diff a (v.Empty ∷ []) w h (λ k. ⊎_elim (λ y. rw In-Empty at y) (λ y. y) k);
  all = λ w h. let k = of_diff a (v.Empty ∷ []) w h in k.0;
}

pub comp-none : SameWords v.All (v.Comp v.Empty)
comp-none = record {
  only = λ w h. let q : IsWord w = rw In-All at h in rw In-Comp (q, λ y. rw In-Empty at y);
  all = λ w h. let q : IsWord w × (In v.Empty w → ⊥) = rw In-Comp at h in rw In-All q.0;
}

pub comp-all : SameWords v.Empty (v.Comp v.All)
comp-all = record {
  only = λ w h. absurd (rw In-Empty at h);
  all = λ w h. let q : IsWord w × (In v.All w → ⊥) = rw In-Comp at h in absurd (q.1 (rw In-All q.0));
}

stable : (b : Bool) → ((IsTrue b → ⊥) → ⊥) → IsTrue b
stable true h = refl
stable false h = absurd (h (λ e. cc))

-- a word that isn't out is in, since membership is decided by a test
pub comp-comp : ((q : Regex) (w : Word) → IsTrue (matches q w) ↔ In q w) → (r : Regex) → SameWords r (v.Comp (v.Comp r))
comp-comp decided r = record {
  only = λ w h. rw In-Comp (In-word r w h, λ k. let q : IsWord w × (In r w → ⊥) = rw In-Comp at k in q.1 h);
  all = λ w h.
      let q : IsWord w × (In (v.Comp r) w → ⊥) = rw In-Comp at h in
      (decided r w).0 (stable (matches r w) (λ g. q.1 (rw In-Comp (q.0, λ k. g ((decided r w).1 k)))));
}

pub loop-none : (r : Regex) (i j : ℕ) → j < i → SameWords v.Empty (v.Loop r i j)
loop-none r i j l = record {
  only = λ w h. absurd (rw In-Empty at h);
  all = λ w h. let q : (n : ℕ) × (i ≤ n) × (n ≤ j) × Power (In r) n w = rw In-Loop at h in absurd (let a = q.1 in let b = q.2 in omega (arith, a, b));
}

power_zero : (P : Language) (n : ℕ) (w : Word) → n ≤ 0 → Power P n w → w ≡ []
power_zero P zero w l h = h
power_zero P (suc n) w l h = absurd (omega arith)

pub loop-zero : (r : Regex) (i j : ℕ) → i ≤ j → j ≡ 0 → SameWords (v.Text []) (v.Loop r i j)
loop-zero r i j l e = record {
  only = λ w h. let q : (w ≡ []) × IsWord w = rw In-Text at h in rw In-Loop (0, omega arith, omega arith, q.0);
  all = λ w h.
      let q : (n : ℕ) × (i ≤ n) × (n ≤ j) × Power (In r) n w = rw In-Loop at h in
      let k : w ≡ [] = power_zero (In r) q.0 w (let b = q.2 in omega (arith, b, e)) q.3 in rw In-Text (k, subst IsWord (sym k) tt);
}

power_one : (P : Language) (n : ℕ) (w : Word) → n ≡ 1 → Power P n w → P w
power_one P zero w l h = absurd (omega arith)
power_one P (suc zero) w l t = let e : t.0 ≡ w = sym (t.2 ∙ ap (λ z. t.0 ++ z) t.4 ∙ append_nil t.0) in subst P e t.3
power_one P (suc (suc n)) w l t = absurd (omega arith)

pub loop-one : (r : Regex) (i j : ℕ) → i ≡ 1 → j ≡ 1 → SameWords r (v.Loop r i j)
loop-one r i j e f = record {
  only = λ w h. rw In-Loop (1, omega arith, omega arith, (w, [], sym (append_nil w), h, refl));
  all = λ w h.
      let q : (n : ℕ) × (i ≤ n) × (n ≤ j) × Power (In r) n w = rw In-Loop at h in
      power_one (In r) q.0 w (let a = q.1 in let b = q.2 in omega (arith, a, b, e, f)) q.3;
}

pub ruleset others = (same-refl, diff-none, diff-whole, comp-none, comp-all, comp-comp, loop-none, loop-zero, loop-one)
