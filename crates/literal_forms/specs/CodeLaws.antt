-- The list of a code is its alone, and a code stands at its place.
use Rattle.std.proofs.Common.{◌≡◌, refl, sym, ap, ◌∙◌, subst, ℕ, suc, ◌+◌, ◌<◌, ◌≤◌, ℤ, pos, Bool, true, false, List, [], ◌∷◌, ◌++◌, map, length, get_or, append_assoc, arith}
use Rattle.std.specs.Prelude.{if◌then◌else◌}
use Rattle.std.specs.Cmp.Lexicographic.{pointwise}
use Rattle.std.specs.Ordering.{int_eq}
use Rattle.std.proofs.lemmas.Bool.Decides.{Decides-int_eq}
use Rattle.std.proofs.lemmas.Bool.{and_parts, and_from}
use Rattle.literal_forms.specs.Alike.{code_is, code_self}
use Rattle.literal_forms.specs.Codes.{Code, signed, word, pair, same_code}
use Rattle.literal_forms.specs.Flats.{flat}
use Rattle.literal_forms.specs.Numbered.{place_of}

abbrev pub same_list : List ℤ → List ℤ → Bool
same_list = pointwise int_eq

pub list_self : (v : List ℤ) → same_list v v ≡ true
list_self [] = refl
list_self (n ∷ v) = and_from (int_eq n n) (same_list v v) ((Decides-int_eq n n).1 refl) (list_self v)

pub list_is : (v w : List ℤ) → same_list v w ≡ true → v ≡ w
list_is [] [] h = refl
list_is [] (n ∷ w) h = absurd (cc)
list_is (m ∷ v) [] h = absurd (cc)
list_is (m ∷ v) (n ∷ w) h = let k = and_parts (int_eq m n) (same_list v w) h in λ i. (Decides-int_eq m n).0 k.0 i ∷ list_is v w k.1 i

-- the list of a code is its alone
head_is : (m n : ℤ) (v w : List ℤ) → m ∷ v ≡ n ∷ w → (m ≡ n) × (v ≡ w)
head_is m n v w e = (cc, cc)

apart_int : (m n : ℤ) → int_eq m n ≡ false → m ≡ n → ⊥
apart_int m n f e = let t = (Decides-int_eq m n).1 e in cc

text_cancel : (v w : List ℕ) (x y : List ℤ) → length v ≡ length w → map pos v ++ x ≡ map pos w ++ y → (v ≡ w) × (x ≡ y)
text_cancel [] [] x y l e = (refl, e)
text_cancel [] (d ∷ w) x y l e = absurd (omega arith)
text_cancel (c ∷ v) [] x y l e = absurd (omega arith)
text_cancel (c ∷ v) (d ∷ w) x y l e =
    let h = head_is (pos c) (pos d) (map pos v ++ x) (map pos w ++ y) e in
    let c_is : c ≡ d = let k = h.0 in cc in
    let r = text_cancel v w x y (omega arith) h.1 in (λ i. c_is i ∷ r.0 i, r.1)

pub flat_cancel : (a b : Code) (x y : List ℤ) → flat a ++ x ≡ flat b ++ y → (a ≡ b) × (x ≡ y)
flat_cancel (signed m) (signed n) x y e =
    let h = head_is (pos 0) (pos 0) (m ∷ x) (n ∷ y) e in
    let k = head_is m n x y h.1 in (ap signed k.0, k.1)
flat_cancel (word v) (word w) x y e =
    let h = head_is (pos 1) (pos 1) (pos (length v) ∷ (map pos v ++ x)) (pos (length w) ∷ (map pos w ++ y)) e in
    let k = head_is (pos (length v)) (pos (length w)) (map pos v ++ x) (map pos w ++ y) h.1 in
    let l : length v ≡ length w = let z = k.0 in cc in
    let r = text_cancel v w x y l k.1 in (ap word r.0, r.1)
flat_cancel (pair a b) (pair c d) x y e =
    let h = head_is (pos 2) (pos 2) ((flat a ++ flat b) ++ x) ((flat c ++ flat d) ++ y) e in
    let k = flat_cancel a c (flat b ++ x) (flat d ++ y) (sym (append_assoc (flat a) (flat b) x) ∙ h.1 ∙ append_assoc (flat c) (flat d) y) in
    let r = flat_cancel b d x y k.1 in (λ i. pair (k.0 i) (r.0 i), r.1)
flat_cancel (signed m) (word w) x y e = absurd (apart_int (pos 0) (pos 1) refl (head_is (pos 0) (pos 1) _ _ e).0)
flat_cancel (signed m) (pair c d) x y e = absurd (apart_int (pos 0) (pos 2) refl (head_is (pos 0) (pos 2) _ _ e).0)
flat_cancel (word v) (signed n) x y e = absurd (apart_int (pos 1) (pos 0) refl (head_is (pos 1) (pos 0) _ _ e).0)
flat_cancel (word v) (pair c d) x y e = absurd (apart_int (pos 1) (pos 2) refl (head_is (pos 1) (pos 2) _ _ e).0)
flat_cancel (pair a b) (signed n) x y e = absurd (apart_int (pos 2) (pos 0) refl (head_is (pos 2) (pos 0) _ _ e).0)
flat_cancel (pair a b) (word w) x y e = absurd (apart_int (pos 2) (pos 1) refl (head_is (pos 2) (pos 1) _ _ e).0)

pub flat_is : (a b : Code) → flat a ≡ flat b → a ≡ b
flat_is a b e = (flat_cancel a b [] [] (ap (λ x. x ++ []) e)).0

-- the lists of two codes are the same where the codes are
same_by : (a b : Code) (c : Bool) → same_code a b ≡ c → same_list (flat a) (flat b) ≡ c
same_by a b true e = subst (λ d. same_list (flat a) (flat d) ≡ true) (code_is a b e) (list_self (flat a))
same_by a b false e = unequal (same_list (flat a) (flat b)) refl
  where
    unequal : (c : Bool) → same_list (flat a) (flat b) ≡ c → c ≡ false
    unequal false q = refl
    unequal true q =
        let codes = flat_is a b (list_is (flat a) (flat b) q) in
        let t = subst (λ d. same_code a d ≡ true) codes (code_self a) in
        absurd (cc)

pub flat_same : (a b : Code) → same_list (flat a) (flat b) ≡ same_code a b
flat_same a b = same_by a b (same_code a b) refl

-- places
pub place_head : (v c : List ℤ) (vs : List (List ℤ)) (b : Bool) → same_list v c ≡ b → place_of (v ∷ vs) c ≡ (if b then 0 else suc (place_of vs c))
place_head v c vs b e = ap (λ t. if t then 0 else suc (place_of vs c)) e

within_by : (v c : List ℤ) (vs : List (List ℤ)) → place_of vs c ≤ length vs → (b : Bool) → same_list v c ≡ b → place_of (v ∷ vs) c ≤ length (v ∷ vs)
within_by v c vs r true e = omega (arith, place_head v c vs true e)
within_by v c vs r false e = omega (arith, place_head v c vs false e)

pub place_within : (vs : List (List ℤ)) (c : List ℤ) → place_of vs c ≤ length vs
place_within [] c = omega arith
place_within (v ∷ vs) c = within_by v c vs (place_within vs c) (same_list v c) refl

-- the code at a place is the one whose place it is
got_by : (v c d : List ℤ) (vs : List (List ℤ)) → (place_of vs c < length vs → get_or vs (place_of vs c) d ≡ c) → place_of (v ∷ vs) c < length (v ∷ vs) → (b : Bool) → same_list v c ≡ b → get_or (v ∷ vs) (place_of (v ∷ vs) c) d ≡ c
got_by v c d vs r l true e = ap (λ k. get_or (v ∷ vs) k d) (place_head v c vs true e) ∙ list_is v c e
got_by v c d vs r l false e = let h = place_head v c vs false e in ap (λ k. get_or (v ∷ vs) k d) h ∙ r (omega arith)

pub place_got : (vs : List (List ℤ)) (c d : List ℤ) → place_of vs c < length vs → get_or vs (place_of vs c) d ≡ c
place_got [] c d l = absurd (omega arith)
place_got (v ∷ vs) c d l = got_by v c d vs (λ m. place_got vs c d m) l (same_list v c) refl

left_by : (v c : List ℤ) (vs ws : List (List ℤ)) → (place_of vs c < length vs → place_of (vs ++ ws) c ≡ place_of vs c) → place_of (v ∷ vs) c < length (v ∷ vs) → (b : Bool) → same_list v c ≡ b → place_of (v ∷ (vs ++ ws)) c ≡ place_of (v ∷ vs) c
left_by v c vs ws r l true e = place_head v c (vs ++ ws) true e ∙ sym (place_head v c vs true e)
left_by v c vs ws r l false e = let h = place_head v c vs false e in place_head v c (vs ++ ws) false e ∙ ap suc (r (omega arith)) ∙ sym h

pub place_left : (vs ws : List (List ℤ)) (c : List ℤ) → place_of vs c < length vs → place_of (vs ++ ws) c ≡ place_of vs c
place_left [] ws c l = absurd (omega arith)
place_left (v ∷ vs) ws c l = left_by v c vs ws (λ m. place_left vs ws c m) l (same_list v c) refl

past_by : (v c : List ℤ) (vs ws : List (List ℤ)) → (place_of vs c ≡ length vs → place_of (vs ++ ws) c ≡ length vs + place_of ws c) → place_of (v ∷ vs) c ≡ length (v ∷ vs) → (b : Bool) → same_list v c ≡ b → place_of (v ∷ (vs ++ ws)) c ≡ length (v ∷ vs) + place_of ws c
past_by v c vs ws r l true e = absurd (let h = place_head v c vs true e in omega arith)
past_by v c vs ws r l false e = let h = place_head v c vs false e in place_head v c (vs ++ ws) false e ∙ ap suc (r (omega arith)) ∙ omega arith

pub place_past : (vs ws : List (List ℤ)) (c : List ℤ) → place_of vs c ≡ length vs → place_of (vs ++ ws) c ≡ length vs + place_of ws c
place_past [] ws c e = omega arith
place_past (v ∷ vs) ws c l = past_by v c vs ws (λ m. place_past vs ws c m) l (same_list v c) refl
