-- The first free definition among those at some places.
use Rattle.std.proofs.Common.{◌≡◌, refl, sym, ap, ◌∙◌, ℕ, zero, suc, ◌+◌, ◌<◌, ◌≤◌, inl, inr, Bool, true, false, List, [], ◌∷◌, ◌++◌, length, Option, Some, None, arith}
use Rattle.std.specs.Prelude.{slice_get, if◌then◌else◌}
use Rattle.flat_cubes.specs.Flattening.{TakenDefinition, behind, is_free, take_free, taken}
use Rattle.flat_cubes.specs.Members.{Among}
use Rattle.straight_line.specs.Waiting.{AscendsFrom, picked, with_one}
use Rattle.flat_cubes.specs.declared.definition.Definition.{Definition}

module _ (ds left : List Definition) where
  abbrev pub FreeIs : Bool → ℕ → Type 0
  FreeIs b k = (d : Definition) → slice_get ds k ≡ Some d → is_free left d ≡ b

  pub none_free : (ks : List ℕ) → ((k : ℕ) → Among k ks → FreeIs false k) → take_free left (picked ds ks) ≡ None
  none_free [] h = refl
  none_free (k ∷ ks) h = by_get (slice_get ds k) (h k (inl refl)) (picked ds ks) (none_free ks (λ j a. h j (inr a)))
    where
      by_get : (o : Option Definition) → ((d : Definition) → o ≡ Some d → is_free left d ≡ false) → (es : List Definition) → take_free left es ≡ None → take_free left (with_one o es) ≡ None
      by_get None h es e = e
      by_get (Some d) h es e = ap (λ b. if b then Some (d, es) else behind d (take_free left es)) (h d refl) ∙ ap (behind d) e

  pub first_free : (pre : List ℕ) (k : ℕ) (post : List ℕ) (d : Definition) → slice_get ds k ≡ Some d → is_free left d ≡ true → ((j : ℕ) → Among j pre → FreeIs false j) → take_free left (picked ds (pre ++ k ∷ post)) ≡ Some (d, picked ds (pre ++ post))
  first_free [] k post d e f h = ap (λ o. take_free left (with_one o (picked ds post))) e ∙ ap (λ b. if b then Some (d, picked ds post) else behind d (take_free left (picked ds post))) f
  first_free (j ∷ pre) k post d e f h = by_get (slice_get ds j) (h j (inl refl)) d (picked ds (pre ++ k ∷ post)) (picked ds (pre ++ post)) (first_free pre k post d e f (λ i a. h i (inr a)))
    where
      by_get : (o : Option Definition) → ((d : Definition) → o ≡ Some d → is_free left d ≡ false) → (d : Definition) (es fs : List Definition) → take_free left es ≡ Some (d, fs) → take_free left (with_one o es) ≡ Some (d, with_one o fs)
      by_get None h d es fs e = e
      by_get (Some c) h d es fs e = ap (λ b. if b then Some (c, es) else behind c (take_free left es)) (h c refl) ∙ ap (behind c) e

abbrev pub next_of : ℕ → TakenDefinition → List Definition
next_of n o = elim o [ None ↦ [] | Some r ↦ r.0 ∷ taken n r.1 ]

pub taken_some : (n m : ℕ) (es rest : List Definition) (d : Definition) → n ≡ suc m → take_free es es ≡ Some (d, rest) → taken n es ≡ d ∷ taken m rest
taken_some n m es rest d e f = ap (λ k. taken k es) e ∙ ap (next_of m) f

pub taken_none : (n : ℕ) (es : List Definition) → take_free es es ≡ None → taken n es ≡ []
taken_none zero es f = refl
taken_none (suc n) es f = ap (next_of n) f

-- a list parted at one of its numbers
pub record Parted (low k : ℕ) (ks : List ℕ) : Type 0 where
  pub before : List ℕ
  pub after : List ℕ
  pub is : ks ≡ before ++ k ∷ after
  pub less : (j : ℕ) → Among j before → j < k
  pub ascends : AscendsFrom low (before ++ after)
  pub others : (j : ℕ) → Among j (before ++ after) → Among j ks
  pub left : (j : ℕ) → Among j ks → (j ≡ k → ⊥) → Among j (before ++ after)
  pub gone : Among k (before ++ after) → ⊥
  pub count : length ks ≡ suc (length (before ++ after))

pub ascends_less : (low more : ℕ) (ks : List ℕ) → low ≤ more → AscendsFrom more ks → AscendsFrom low ks
ascends_less low more [] l a = a
ascends_less low more (k ∷ ks) l a = let m = a.0 in (omega arith, a.1)

pub ascending_least : (low : ℕ) (ks : List ℕ) (j : ℕ) → AscendsFrom low ks → Among j ks → low ≤ j
ascending_least low [] j a b = absurd b
ascending_least low (k ∷ ks) j a (inl e) = let m = a.0 in omega arith
ascending_least low (k ∷ ks) j a (inr b) = let m = a.0 in let r = ascending_least (k + 1) ks j a.1 b in omega arith

pub parted : (low k : ℕ) (ks : List ℕ) → AscendsFrom low ks → Among k ks → Parted low k ks
parted low k [] a b = absurd b
parted low k (j ∷ ks) a (inl e) = record {
  before = [];
  after = ks;
  is = ap (λ i. i ∷ ks) e;
  less = λ i b. absurd b;
  ascends = let m = a.0 in ascends_less low (j + 1) ks (omega arith) a.1;
  others = λ i b. inr b;
  left = λ i b n. elim b [ inl q ↦ absurd (n (sym q ∙ e)) | inr c ↦ c ];
  gone = λ b. let r = ascending_least (j + 1) ks k a.1 b in absurd (omega arith);
  count = refl;
}
parted low k (j ∷ ks) a (inr b) =
    let p = parted (j + 1) k ks a.1 b in
    let r = ascending_least (j + 1) ks k a.1 b in
    record {
      before = j ∷ p.before;
      after = p.after;
      is = ap (λ l. j ∷ l) p.is;
      less = λ i c. elim c [ inl q ↦ omega arith | inr d ↦ p.less i d ];
      ascends = (a.0, p.ascends);
      others = λ i c. elim c [ inl q ↦ inl q | inr d ↦ inr (p.others i d) ];
      left = λ i c n. elim c [ inl q ↦ inl q | inr d ↦ inr (p.left i d n) ];
      gone = λ c. elim c [ inl q ↦ absurd (omega arith) | inr d ↦ p.gone d ];
      count = ap suc p.count;
    }

pub picked_push : (ds : List Definition) (ks : List ℕ) (k : ℕ) (d : Definition) → slice_get ds k ≡ Some d → picked ds (ks ++ k ∷ []) ≡ picked ds ks ++ d ∷ []
picked_push ds [] k d e = ap (λ o. with_one o []) e
picked_push ds (j ∷ ks) k d e = ap (with_one (slice_get ds j)) (picked_push ds ks k d e) ∙ by_get (slice_get ds j) (picked ds ks) d
  where
    by_get : (o : Option Definition) (es : List Definition) (d : Definition) → with_one o (es ++ d ∷ []) ≡ with_one o es ++ d ∷ []
    by_get None es d = refl
    by_get (Some e) es d = refl
