-- A word is read block by block.
use Rattle.std.proofs.Common.{◌≡◌, refl, sym, ap, ◌∙◌, subst, ℕ, zero, suc, ◌≤◌, ◌<◌, ◌+◌, ◌-◌, List, [], ◌∷◌, ◌++◌, length, take, drop, arith, add-one, Option, Some, None, slice_get, IsTrue, ◌↔◌, Bool, length-drop, length-append}
use Rattle.std.specs.List.{remove, slice_range}
use Rattle.std.proofs.lemmas.List.{append_cancel_left, drop_all}
use Rattle.std.proofs.lemmas.List.Folds.{drop_split}
use Rattle.std.proofs.Math.Seq.{take-append_seam}
use Rattle.sv_word.specs.Words.{IsWord}
use Rattle.sv_terms.specs.declared.regex.Regex.{Regex}
use Rattle.sv_terms.specs.declared.regex.Regex.TheVariants as v
use Rattle.sv_terms.specs.Language.{Word, In, InEachInTurn, Then}
use Rattle.sv_terms.specs.Opened.{In-Empty, In-Concat, In-Text}
use Rattle.term_eval.specs.Derivative.{IsDerivative}
use Rattle.term_eval.specs.Advances.{Advances, AdvancesOrFails, IsRegexLeft}
use Rattle.term_eval.proofs.Builds.{turn-one}

-- the texts
pub stands-long : (t w : Word) (at : ℕ) → at ≤ length w → length w - at < length t → (u : Word) → drop at w ≡ t ++ u → ⊥
stands-long t w at l h u e = let a = ap length e in let b = length-drop at w in let c = length-append t u in omega (arith, a, b, c)

pub stands-range : (t w : Word) (at next : ℕ) → next ≡ at + length t → slice_range w at next ≡ t → drop at w ≡ t ++ drop next w
stands-range t w at next n e = drop_split w at next (omega (arith, n)) ∙ ap (λ z. z ++ drop next w) e

pub stands-other : (t w : Word) (at next : ℕ) → next ≡ at + length t → (slice_range w at next ≡ t → ⊥) → (u : Word) → drop at w ≡ t ++ u → ⊥
stands-other t w at next n never u e =
    let k : next - at ≡ length t = omega (arith, n) in
    never (ap (λ z. take z (drop at w)) k ∙ ap (take (length t)) e ∙ take-append_seam t u)

-- a literal at the front
at_front : (ps : List Regex) (t : Word) → slice_get ps 0 ≡ Some (v.Text t) → ps ≡ v.Text t ∷ remove ps 0
at_front [] t e = cc
at_front (p ∷ ps) t e = let f : p ≡ v.Text t = cc in ap (λ z. z ∷ ps) f

block_only : (t : Word) (rest : List Regex) (u w : Word) → IsWord t → u ≡ t ++ w → In (v.Concat rest) w → In (v.Concat (v.Text t ∷ rest)) u
block_only t rest u w h e k = let q : InEachInTurn In rest w = rw In-Concat at k in rw In-Concat (t, w, e, rw In-Text (refl, h), q)

block_all : (t : Word) (rest : List Regex) (u : Word) → In (v.Concat (v.Text t ∷ rest)) u → (w : Word) × (u ≡ t ++ w) × In (v.Concat rest) w
block_all t rest u k =
    let s : Then (In (v.Text t)) (InEachInTurn In rest) u = rw In-Concat at k in
    let q : (s.0 ≡ t) × IsWord s.0 = rw In-Text at s.3 in
    (s.1, s.2 ∙ ap (λ z. z ++ s.1) q.0, rw In-Concat s.4)

pub goes-missing : (ps : List Regex) (t w : Word) (at : ℕ) → slice_get ps 0 ≡ Some (v.Text t) → ((u : Word) → drop at w ≡ t ++ u → ⊥) → In (v.Concat ps) (drop at w) → ⊥
goes-missing ps t w at e n k =
    let b = block_all t (remove ps 0) (drop at w) (subst (λ z. In (v.Concat z) (drop at w)) (at_front ps t e) k) in n b.0 b.1

pub goes-block : (ps new : List Regex) (t w : Word) (at next : ℕ) → slice_get ps 0 ≡ Some (v.Text t) → new ≡ remove ps 0 → IsWord t → (t ≡ [] → ⊥) → next ≡ at + length t → next ≤ length w → drop at w ≡ t ++ drop next w → Advances (v.Concat ps) (v.Concat new) w at next
goes-block ps new t w at next e f h n m l g =
    let long : 0 < length t = positive t n in
    record {
      further = omega (arith, m, long);
      inside = l;
      only = λ k. subst (λ z. In (v.Concat z) (drop at w)) (sym (at_front ps t e)) (block_only t (remove ps 0) (drop at w) (drop next w) h g (subst (λ z. In (v.Concat z) (drop next w)) f k));
      all = λ k.
          let b = block_all t (remove ps 0) (drop at w) (subst (λ z. In (v.Concat z) (drop at w)) (at_front ps t e) k) in
          let c : b.0 ≡ drop next w = append_cancel_left t b.0 (drop next w) (sym b.1 ∙ g) in
          subst (λ z. In (v.Concat z) (drop next w)) (sym f) (subst (In (v.Concat (remove ps 0))) c b.2);
    }
  where
    positive : (t : Word) → (t ≡ [] → ⊥) → 0 < length t
    positive [] n = absurd (n refl)
    positive (c ∷ t) n = omega arith

drop_at : (w : Word) (i c : ℕ) → slice_get w i ≡ Some c → drop i w ≡ c ∷ drop (i + 1) w
drop_at [] zero c e = cc
drop_at [] (suc i) c e = cc
drop_at (x ∷ w) zero c e = let f : x ≡ c = cc in ap (λ z. z ∷ w) f
drop_at (x ∷ w) (suc i) c e = rw add-one (rw add-one at (drop_at w i c e))

got-none : (w : Word) (i : ℕ) → i < length w → slice_get w i ≡ None → ⊥
got-none [] i l e = omega arith
got-none (x ∷ w) zero l e = cc
got-none (x ∷ w) (suc i) l e = got-none w i (omega arith) e

pub goes-none : (left : Regex) (w : Word) (at : ℕ) → at < length w → slice_get w at ≡ None → In left (drop at w) → ⊥
goes-none left w at l e k = got-none w at l e

pub goes-one : (left rest : Regex) (w : Word) (at c : ℕ) → at < length w → slice_get w at ≡ Some c → IsDerivative left c rest → Advances left rest w at (at + 1)
goes-one left rest w at c l e d =
    let f = drop_at w at c e in
    record {
      further = omega arith;
      inside = omega arith;
      only = λ k. subst (In left) (sym f) (d.only (drop (at + 1) w) k);
      all = λ k. d.all (drop (at + 1) w) (subst (In left) f k);
    }

pub goes-Empty : (u : Word) → In v.Empty u → ⊥
goes-Empty u k = rw In-Empty at k

pub goes-alone : (t w : Word) (at : ℕ) (found : Option (Regex × ℕ)) → AdvancesOrFails (v.Concat (v.Text t ∷ [])) w at found → AdvancesOrFails (v.Text t) w at found
goes-alone t w at None h = λ k. h ((turn-one (v.Text t)).all (drop at w) k)
goes-alone t w at (Some found) h = record {
  further = h.further;
  inside = h.inside;
  only = λ k. (turn-one (v.Text t)).only (drop at w) (h.only k);
  all = λ k. h.all ((turn-one (v.Text t)).all (drop at w) k);
}

pub left-start : (r left : Regex) (w : Word) → left ≡ r → IsRegexLeft r left w 0
left-start r left w e = record { inside = omega arith; only = λ k. subst (λ z. In z w) e k; all = λ k. subst (λ z. In z w) (sym e) k }

pub left-more : (r left rest : Regex) (w : Word) (at next : ℕ) → IsRegexLeft r left w at → Advances left rest w at next → IsRegexLeft r rest w next
left-more r left rest w at next h a = record { inside = a.inside; only = λ k. h.only (a.only k); all = λ k. a.all (h.all k) }

pub left-never : (r left : Regex) (w : Word) (at : ℕ) → IsRegexLeft r left w at → (In left (drop at w) → ⊥) → In r w → ⊥
left-never r left w at h n k = n (h.all k)

pub left-end : (r left : Regex) (w : Word) (at : ℕ) (b : Bool) → IsRegexLeft r left w at → length w ≤ at → (IsTrue b ↔ In left []) → IsTrue b ↔ In r w
left-end r left w at b h l e =
    let d = drop_all at w l in
    (λ k. h.only (subst (In left) (sym d) (e.0 k)), λ k. e.1 (subst (In left) d (h.all k)))

pub ruleset contents = (stands-long, stands-range, stands-other, goes-missing, goes-block, goes-one, goes-none, goes-Empty, goes-alone, left-start, left-more, left-never, left-end)
