-- Texts that are joined one after another.
use Rattle.std.proofs.Common.{◌≡◌, refl, sym, ap, ◌∙◌, ℕ, ◌+◌, ◌<◌, List, [], ◌∷◌, ◌++◌, map, length, take, get_or, append_assoc, append-nil, arith}
use Rattle.std.specs.List.{flat_map}
use Rattle.std.proofs.lemmas.Grind.{flat_map-append}
use Rattle.std.proofs.lemmas.List.{map-append, length-take-le}
use Rattle.sv_list.specs.Lists.{take-read}
use Rattle.reply_text.specs.Replies.{Text, spaced}

spaced-more : (t u : Text) (ts : List Text) → spaced (t ∷ ts ++ u ∷ []) ≡ spaced (t ∷ ts) ++ 32 ∷ u
spaced-more t u [] = refl
spaced-more t u (v ∷ ts) = ap (λ z. t ++ 32 ∷ z) (spaced-more v u ts) ∙ sym (append_assoc t (32 ∷ spaced (v ∷ ts)) (32 ∷ u))

module _ {X : Type 0} (f : X → Text) where
  first-of : (l : List X) (x : X) → length l ≡ 0 → spaced (map f l) ++ f x ≡ spaced (map f (l ++ x ∷ []))
  first-of [] x h = refl
  first-of (y ∷ l) x h = absurd (omega (arith, h))

  next-of : (l : List X) (x : X) → 0 < length l → (spaced (map f l) ++ 32 ∷ []) ++ f x ≡ spaced (map f (l ++ x ∷ []))
  next-of [] x h = absurd (omega (arith, h))
  next-of (y ∷ l) x h = append_assoc (spaced (map f (y ∷ l))) (32 ∷ []) (f x) ∙ sym (spaced-more (f y) (f x) (map f l)) ∙ ap (λ z. spaced (f y ∷ z)) (sym (map-append f l (x ∷ [])))

  taken : (xs : List X) (i : ℕ) → i < length xs → length (take i xs) ≡ i
  taken xs i l = length-take-le i xs (omega (arith, l))

  -- the first text stands alone
  pub spaced-first : (xs : List X) (x : X) (i : ℕ) (start old new : Text) → i < length xs → x ≡ get_or xs i x → i ≡ 0 → old ≡ start ++ spaced (map f (take i xs)) → new ≡ old ++ f x → new ≡ start ++ spaced (map f (take (i + 1) xs))
  spaced-first xs x i start old new l e z o n =
      n ∙ ap (λ t. t ++ f x) o ∙ append_assoc start (spaced (map f (take i xs))) (f x)
      ∙ ap (λ t. start ++ t) (first-of (take i xs) x (taken xs i l ∙ z))
      ∙ ap (λ l. start ++ spaced (map f l)) (sym (take-read xs i x l e))

  -- and each other one behind a space
  pub spaced-next : (xs : List X) (x : X) (i : ℕ) (start old mid new : Text) → i < length xs → x ≡ get_or xs i x → 0 < i → old ≡ start ++ spaced (map f (take i xs)) → mid ≡ old ++ 32 ∷ [] → new ≡ mid ++ f x → new ≡ start ++ spaced (map f (take (i + 1) xs))
  spaced-next xs x i start old mid new l e z o m n =
      n ∙ ap (λ t. t ++ f x) (m ∙ ap (λ t. t ++ 32 ∷ []) o ∙ append_assoc start (spaced (map f (take i xs))) (32 ∷ []))
      ∙ append_assoc start (spaced (map f (take i xs)) ++ 32 ∷ []) (f x)
      ∙ ap (λ t. start ++ t) (next-of (take i xs) x (let k = taken xs i l in omega (arith, k, z)))
      ∙ ap (λ l. start ++ spaced (map f l)) (sym (take-read xs i x l e))

  -- one text behind another
  pub joined-next : (xs : List X) (x : X) (i : ℕ) (start old new : Text) → i < length xs → x ≡ get_or xs i x → old ≡ start ++ flat_map f (take i xs) → new ≡ old ++ f x → new ≡ start ++ flat_map f (take (i + 1) xs)
  joined-next xs x i start old new l e o n =
      n ∙ ap (λ t. t ++ f x) o ∙ append_assoc start (flat_map f (take i xs)) (f x)
      ∙ ap (λ t. start ++ (flat_map f (take i xs) ++ t)) (sym (append-nil (f x)))
      ∙ ap (λ t. start ++ t) (sym (flat_map-append f (take i xs) (x ∷ [])))
      ∙ ap (λ l. start ++ flat_map f l) (sym (take-read xs i x l e))

-- what was added is added together
after : (t u v x y : Text) → u ≡ t ++ x → v ≡ u ++ y → v ≡ t ++ (x ++ y)
after t u v x y a b = b ∙ ap (λ k. k ++ y) a ∙ append_assoc t x y

-- a line in seven pieces
pub lined : (t0 t1 t2 t3 t4 t5 t6 t7 a n b s v : Text) → t1 ≡ t0 ++ a → t2 ≡ t1 ++ n → t3 ≡ t2 ++ b → t4 ≡ t3 ++ s → t5 ≡ t4 ++ 32 ∷ [] → t6 ≡ t5 ++ v → t7 ≡ t6 ++ 41 ∷ 10 ∷ []
    → t7 ≡ t0 ++ (((((((a ++ n) ++ b) ++ s) ++ 32 ∷ []) ++ v) ++ 41 ∷ []) ++ 10 ∷ [])
lined t0 t1 t2 t3 t4 t5 t6 t7 a n b s v e1 e2 e3 e4 e5 e6 e7 =
    let f2 = after t0 t1 t2 a n e1 e2 in
    let f3 = after t0 t2 t3 (a ++ n) b f2 e3 in
    let f4 = after t0 t3 t4 ((a ++ n) ++ b) s f3 e4 in
    let f5 = after t0 t4 t5 (((a ++ n) ++ b) ++ s) (32 ∷ []) f4 e5 in
    let f6 = after t0 t5 t6 ((((a ++ n) ++ b) ++ s) ++ 32 ∷ []) v f5 e6 in
    let f7 = after t0 t6 t7 (((((a ++ n) ++ b) ++ s) ++ 32 ∷ []) ++ v) (41 ∷ 10 ∷ []) f6 e7 in
    f7 ∙ ap (λ k. t0 ++ k) (sym (append_assoc (((((a ++ n) ++ b) ++ s) ++ 32 ∷ []) ++ v) (41 ∷ []) (10 ∷ [])))
