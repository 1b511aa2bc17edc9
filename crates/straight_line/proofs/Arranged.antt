-- Definitions that are moved out of their slots.
use Rattle.std.proofs.Common.{◌≡◌, refl, sym, ap, ◌∙◌, subst, ℕ, zero, suc, ◌+◌, ◌<◌, inl, inr, List, [], ◌∷◌, ◌++◌, map, length, get_or, take, drop, drop-cons, Option, Some, None, arith, get_or-set_other}
use Rattle.std.specs.Prelude.{slice_get, slice_set}
use Rattle.std.proofs.Math.Seq.{take-suc}
use Rattle.std.proofs.lemmas.List.{length-set}
use Rattle.flat_cubes.specs.Members.{Among}
use Rattle.straight_line.specs.Waiting.{AreDistinct, picked, with_one}
use Rattle.flat_cubes.specs.declared.definition.Definition.{Definition}

-- the first n places were arranged, and the others are still in their slots
pub record IsArranged (ds : List Definition) (places : List ℕ) (n : ℕ) (slots : List (Option Definition)) (arranged : List Definition) : Type 0 where
  pub count : length slots ≡ length ds
  pub done : arranged ≡ picked ds (take n places)
  pub rest : (k : ℕ) → Among k (drop n places) → get_or slots k None ≡ slice_get ds k

slot_at : (ds : List Definition) (k : ℕ) → get_or (map Some ds) k None ≡ slice_get ds k
slot_at [] zero = refl
slot_at [] (suc k) = refl
slot_at (d ∷ ds) zero = refl
slot_at (d ∷ ds) (suc k) = slot_at ds k

slots_count : (ds : List Definition) → length (map Some ds) ≡ length ds
slots_count [] = refl
slots_count (d ∷ ds) = ap suc (slots_count ds)

pub arranged_none : (ds : List Definition) (places : List ℕ) (slots : List (Option Definition)) → slots ≡ map Some ds → IsArranged ds places 0 slots []
arranged_none ds places slots e = record {
  count = ap length e ∙ slots_count ds;
  done = refl;
  rest = λ k a. ap (λ z. get_or z k None) e ∙ slot_at ds k;
}

picked_end : (ds : List Definition) (ks : List ℕ) (k : ℕ) → picked ds (ks ++ k ∷ []) ≡ picked ds ks ++ with_one (slice_get ds k) []
picked_end ds [] k = refl
picked_end ds (j ∷ ks) k = ap (with_one (slice_get ds j)) (picked_end ds ks k) ∙ by_get (slice_get ds j) (picked ds ks) (with_one (slice_get ds k) [])
  where
    by_get : (o : Option Definition) (es fs : List Definition) → with_one o (es ++ fs) ≡ with_one o es ++ fs
    by_get None es fs = refl
    by_get (Some e) es fs = refl

distinct_drop : (n : ℕ) (ks : List ℕ) → AreDistinct ks → AreDistinct (drop n ks)
distinct_drop zero ks a = a
distinct_drop (suc n) [] a = a
distinct_drop (suc n) (k ∷ ks) a = distinct_drop n ks a.1

module _ (ds : List Definition) (places : List ℕ) (n : ℕ) (slots : List (Option Definition)) (arranged : List Definition) (distinct : AreDistinct places) (k : ℕ) (l : n < length places) (is : k ≡ get_or places n 0) (f : IsArranged ds places n slots arranged) where
  parts : drop n places ≡ k ∷ drop (suc n) places
  parts = drop-cons places n 0 l ∙ ap (λ z. z ∷ drop (suc n) places) (sym is)

  pub here : get_or slots k None ≡ slice_get ds k
  here = f.rest k (subst (Among k) (sym parts) (inl refl))

  later : (j : ℕ) → Among j (drop (suc n) places) → (get_or slots j None ≡ slice_get ds j) × (j ≡ k → ⊥)
  later j a = (f.rest j (subst (Among j) (sym parts) (inr a)), λ e. (subst AreDistinct parts (distinct_drop n places distinct)).0 (subst (λ z. Among z (drop (suc n) places)) e a))

  more : picked ds (take (n + 1) places) ≡ arranged ++ with_one (slice_get ds k) []
  more =
      let q : n + 1 ≡ suc n = omega arith in
      ap (λ m. picked ds (take m places)) q ∙ ap (picked ds) (take-suc places n 0 l ∙ ap (λ z. take n places ++ z ∷ []) (sym is)) ∙ picked_end ds (take n places) k ∙ ap (λ z. z ++ with_one (slice_get ds k) []) (sym f.done)

  pub arranged_next : (slots' : List (Option Definition)) (arranged' : List Definition) → slots' ≡ slice_set slots k None → arranged' ≡ arranged ++ with_one (get_or slots k None) [] → IsArranged ds places (n + 1) slots' arranged'
  arranged_next slots' arranged' e h = record {
    count = ap length e ∙ length-set slots k None ∙ f.count;
    done = h ∙ ap (λ o. arranged ++ with_one o []) here ∙ sym more;
    rest = λ j a.
        let q : n + 1 ≡ suc n = omega arith in
        let t = later j (subst (λ m. Among j (drop m places)) q a) in
        ap (λ z. get_or z j None) e ∙ get_or-set_other slots k j None None t.1 ∙ t.0;
  }
