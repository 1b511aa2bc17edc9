-- Unknowns that are looked for before each is put behind the others: each stands once.
use Rattle.std.proofs.Common.{◌≡◌, refl, sym, ap, ◌∙◌, subst, Bool, true, false, ◌||◌, ℕ, ◌⊎◌, inl, inr, List, [], ◌∷◌, ◌++◌, map, nat_eq}
use Rattle.std.specs.List.{list_any}
use Rattle.std.proofs.lemmas.List.Folds.{list_any-append}
use Rattle.std.specs.Cmp.Lexicographic.{pointwise, same_text}
use Rattle.std.proofs.lemmas.Bool.{false≢true, or_parts, or_left, or_right}
use Rattle.literal_forms.specs.Alike.{code_is}
use Rattle.cube_draft.proofs.Sames.{string_code}
use Rattle.literal_forms.specs.Shapes.{Shape}
use Rattle.literal_forms.specs.Codes.{code, same}
use Rattle.literal_forms.specs.Linear.{Unknown, integer, length_of, other, same_unknown, is_string}
use Rattle.straight_line.proofs.Rows.{Nowhere, Once}

-- an integer, or the length of a term of a written form
abbrev pub IsPlain : Unknown → Type 0
IsPlain (integer n) = Unit {0}
IsPlain (length_of s) = is_string s ≡ true
IsPlain (other s) = ⊥

unknown_is : (u v : Unknown) → IsPlain v → same_unknown u v ≡ true → u ≡ v
unknown_is (integer m) (integer n) p e = ap integer (same_text m n (sym e))
unknown_is (length_of s) (length_of t) p e = ap length_of (sym (string_code t s p (sym (code_is (code s) (code t) e))))
unknown_is (integer m) (length_of t) p e = absurd (false≢true e)
unknown_is (length_of s) (integer n) p e = absurd (false≢true e)
unknown_is (other s) (integer n) p e = absurd (false≢true e)
unknown_is (other s) (length_of t) p e = absurd (false≢true e)
unknown_is u (other t) p e = absurd p

abbrev pub stands : Unknown → List Unknown → Bool
stands u us = list_any (same_unknown u) us

-- each that stands in the list stands in it once
abbrev pub AreApart : List Unknown → Type 0
AreApart us = (u : Unknown) → stands u us ≡ true → Once u us

nowhere_pushed : (u w : Unknown) (us : List Unknown) → same_unknown u w ≡ false → Nowhere u us → Nowhere u (us ++ w ∷ [])
nowhere_pushed u w [] e n = (e, tt)
nowhere_pushed u w (v ∷ us) e n = (n.0, nowhere_pushed u w us e n.1)

once_pushed : (u w : Unknown) (us : List Unknown) → same_unknown u w ≡ false → Once u us → Once u (us ++ w ∷ [])
once_pushed u w [] e o = absurd o
once_pushed u w (v ∷ us) e (inl o) = inl (o.0, o.1, nowhere_pushed u w us e o.2)
once_pushed u w (v ∷ us) e (inr o) = inr (o.0, once_pushed u w us e o.1)

once_new : (u w : Unknown) (us : List Unknown) → IsPlain w → stands u us ≡ false → same_unknown u w ≡ true → Once u (us ++ w ∷ [])
once_new u w [] p n e = inl (e, unknown_is u w p e, tt)
once_new u w (v ∷ us) p n e = let h = or_parts (same_unknown u v) (stands u us) n in inr (h.0, once_new u w us p h.1 e)

pushed_cases : (a b : Bool) → (a || (b || false)) ≡ true → (a ≡ true) ⊎ ((a ≡ false) × (b ≡ true))
pushed_cases true b e = inl refl
pushed_cases false true e = inr (refl, refl)
pushed_cases false false e = absurd (false≢true e)

apart_from : (u w : Unknown) (us : List Unknown) → IsPlain w → stands u us ≡ true → stands w us ≡ false → same_unknown u w ≡ false
apart_from u w us p h n = by_test (same_unknown u w) refl
  where
    by_test : (b : Bool) → same_unknown u w ≡ b → b ≡ false
    by_test true e = absurd (false≢true (sym (sym (subst (λ v. stands v us ≡ true) (unknown_is u w p e) h) ∙ n)))
    by_test false e = refl

pub apart_pushed : (us : List Unknown) (w : Unknown) → IsPlain w → AreApart us → stands w us ≡ false → AreApart (us ++ w ∷ [])
apart_pushed us w p a n u h = elim (pushed_cases (stands u us) (same_unknown u w) (sym (list_any-append (same_unknown u) us (w ∷ [])) ∙ h)) [
  | inl s ↦ once_pushed u w us (apart_from u w us p s n) (a u s)
  | inr s ↦ once_new u w us p s.0 s.1
]

-- one list behind another whose unknowns are of the other kind
once_before : (u : Unknown) (us ws : List Unknown) → Once u us → Nowhere u ws → Once u (us ++ ws)
once_before u [] ws o n = absurd o
once_before u (v ∷ us) ws (inl o) n = inl (o.0, o.1, both_nowhere u us ws o.2 n)
  where
    both_nowhere : (u : Unknown) (us ws : List Unknown) → Nowhere u us → Nowhere u ws → Nowhere u (us ++ ws)
    both_nowhere u [] ws n m = m
    both_nowhere u (v ∷ us) ws n m = (n.0, both_nowhere u us ws n.1 m)
once_before u (v ∷ us) ws (inr o) n = inr (o.0, once_before u us ws o.1 n)

once_behind : (u : Unknown) (us ws : List Unknown) → Nowhere u us → Once u ws → Once u (us ++ ws)
once_behind u [] ws n o = o
once_behind u (v ∷ us) ws n o = inr (n.0, once_behind u us ws n.1 o)

abbrev pub integers_of : List (List ℕ) → List Unknown
integers_of ns = map integer ns

abbrev pub lengths_of : List (Shape × ℕ) → List Unknown
lengths_of rs = map (λ (r : Shape × ℕ). length_of r.0) rs

no_integer : (s : Shape) (ns : List (List ℕ)) → Nowhere (length_of s) (integers_of ns)
no_integer s [] = tt
no_integer s (n ∷ ns) = (refl, no_integer s ns)

no_length : (n : List ℕ) (rs : List (Shape × ℕ)) → Nowhere (integer n) (lengths_of rs)
no_length n [] = tt
no_length n (r ∷ rs) = (refl, no_length n rs)

-- an unknown stands among the integers or the lengths
abbrev pub Stands : List (List ℕ) → List (Shape × ℕ) → Unknown → Type 0
Stands ns rs (integer n) = stands (integer n) (integers_of ns) ≡ true
Stands ns rs (length_of s) = stands (length_of s) (lengths_of rs) ≡ true
Stands ns rs (other s) = ⊥

pub stands_once : (ns : List (List ℕ)) (rs : List (Shape × ℕ)) → AreApart (integers_of ns) → AreApart (lengths_of rs) → (u : Unknown) → Stands ns rs u → Once u (integers_of ns ++ lengths_of rs)
stands_once ns rs a b (integer n) h = once_before (integer n) (integers_of ns) (lengths_of rs) (a (integer n) h) (no_length n rs)
stands_once ns rs a b (length_of s) h = once_behind (length_of s) (integers_of ns) (lengths_of rs) (no_integer s ns) (b (length_of s) h)
stands_once ns rs a b (other s) h = absurd h

-- the tests by which they are looked for
pub name_stands : (n : List ℕ) (ns : List (List ℕ)) → stands (integer n) (integers_of ns) ≡ list_any (pointwise nat_eq n) ns
name_stands n [] = refl
name_stands n (m ∷ ns) = λ i. pointwise nat_eq n m || name_stands n ns i

pub length_stands : (s : Shape) (rs : List (Shape × ℕ)) → stands (length_of s) (lengths_of rs) ≡ list_any (λ (r : Shape × ℕ). same s r.0) rs
length_stands s [] = refl
length_stands s (r ∷ rs) = λ i. same s r.0 || length_stands s rs i

pub stands_more : (u w : Unknown) (us : List Unknown) → stands u us ≡ true → stands u (us ++ w ∷ []) ≡ true
stands_more u w us h = list_any-append (same_unknown u) us (w ∷ []) ∙ or_left (stands u us) (same_unknown u w || false) h

pub stands_last : (u w : Unknown) (us : List Unknown) → same_unknown u w ≡ true → stands u (us ++ w ∷ []) ≡ true
stands_last u w us h = list_any-append (same_unknown u) us (w ∷ []) ∙ or_right (stands u us) (same_unknown u w || false) (or_left (same_unknown u w) false h)
