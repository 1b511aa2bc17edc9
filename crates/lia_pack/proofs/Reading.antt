-- Elements read one after the other.
use Rattle.std.proofs.Common.{◌≡◌, ℕ, zero, suc, ◌+◌, ◌<◌, ◌≤◌, List, [], ◌∷◌, ◌++◌, length, take, drop, refl, ap, sym, ◌∙◌, subst, append_assoc, arith}
use Rattle.std.specs.List.{flat_map, AllByRecursion}
use Rattle.lia_pack.specs.Numbers.{Say}

module _ {X : Type 0} (Q : X → Type 0) where
  -- the element at a place
  record IsNext (xs : List X) (i : ℕ) (x : X) : Type 0 where
    front : take (suc i) xs ≡ take i xs ++ x ∷ []
    back : drop i xs ≡ x ∷ drop (suc i) xs
    fact : Q x

  next_at : (xs : List X) (i : ℕ) → AllByRecursion Q xs → i < length xs → (x : X) × IsNext xs i x
  next_at [] i a h = absurd (omega arith)
  next_at (x ∷ xs) zero a h = (x, record { front = refl; back = refl; fact = a.0 })
  next_at (x ∷ xs) (suc i) a h =
      let k = next_at xs i a.1 (omega arith) in
      (k.0, record { front = ap (λ l. x ∷ l) k.1.front; back = k.1.back; fact = k.1.fact })

  module _ (f : X → List ℕ) (count : ℕ) (start : List ℕ) where
    -- so many elements were read, whatever the bytes say
    pub record IsRead (left : List ℕ) (i : ℕ) (items : List X) : Type 0 where
      pub goes : (xs : List X) (ns : List ℕ) → length xs ≡ count → AllByRecursion Q xs → Say start (flat_map f xs ++ ns) → (items ≡ take i xs) × Say left (flat_map f (drop i xs) ++ ns)

    pub read_none : IsRead start 0 []
    read_none = record { goes = λ xs ns e a s. (refl, s) }

    behind : (left : List ℕ) (xs : List X) (i : ℕ) (x : X) (ns : List ℕ) → IsNext xs i x → Say left (flat_map f (drop i xs) ++ ns) → Say left (f x ++ (flat_map f (drop (suc i) xs) ++ ns))
    behind left xs i x ns k s = subst (Say left) (ap (λ l. flat_map f l ++ ns) k.back ∙ append_assoc (f x) (flat_map f (drop (suc i) xs)) ns) s

    -- what is to be read next
    pub read_next : (left : List ℕ) (i : ℕ) (items : List X) → IsRead left i items → i < count →
        (xs : List X) × ((ns : List ℕ) × ((length xs ≡ count) × (AllByRecursion Q xs × Say start (flat_map f xs ++ ns)))) → (x : X) × ((ns : List ℕ) × (Q x × Say left (f x ++ ns)))
    read_next left i items r h w =
        let k = next_at w.0 i w.1.1.1.0 (omega (arith, w.1.1.0)) in
        (k.0, (flat_map f (drop (suc i) w.0) ++ w.1.0, (k.1.fact, behind left w.0 i k.0 w.1.0 k.1 (r.goes w.0 w.1.0 w.1.1.0 w.1.1.1.0 w.1.1.1.1).1)))

    -- one element more
    read_step : (left after : List ℕ) (i : ℕ) (items : List X) (y : X) → IsRead left i items → i < count → ((x : X) (ns : List ℕ) → Q x → Say left (f x ++ ns) → (y ≡ x) × Say after ns) → IsRead after (suc i) (items ++ y ∷ [])
    read_step left after i items y r h one = record {
      goes = λ xs ns e a s.
          let k = next_at xs i a (omega (arith, e)) in
          let before = r.goes xs ns e a s in
          let now = one k.0 (flat_map f (drop (suc i) xs) ++ ns) k.1.fact (behind left xs i k.0 ns k.1 before.1) in
          (ap (λ l. l ++ y ∷ []) before.0 ∙ ap (λ z. take i xs ++ z ∷ []) now.0 ∙ sym k.1.front, now.1);
    }

    pub read_more : (left after : List ℕ) (i : ℕ) (items : List X) (y : X) → IsRead left i items → i < count → ((x : X) (ns : List ℕ) → Q x → Say left (f x ++ ns) → (y ≡ x) × Say after ns) → IsRead after (i + 1) (items ++ y ∷ [])
    read_more left after i items y r h one =
        let e : suc i ≡ i + 1 = omega arith in
        subst (λ k. IsRead after k (items ++ y ∷ [])) e (read_step left after i items y r h one)

    all_taken : (xs : List X) (i : ℕ) → length xs ≤ i → (take i xs ≡ xs) × (drop i xs ≡ [])
    all_taken [] zero h = (refl, refl)
    all_taken [] (suc i) h = (refl, refl)
    all_taken (x ∷ xs) zero h = absurd (omega arith)
    all_taken (x ∷ xs) (suc i) h = let k = all_taken xs i (omega arith) in (ap (λ l. x ∷ l) k.0, k.1)

    pub read_all : (left : List ℕ) (i : ℕ) (items : List X) → IsRead left i items → count ≤ i → (xs : List X) (ns : List ℕ) → length xs ≡ count → AllByRecursion Q xs → Say start (flat_map f xs ++ ns) → (items ≡ xs) × Say left ns
    read_all left i items r h xs ns e a s =
        let k = all_taken xs i (omega (arith, e)) in
        let w = r.goes xs ns e a s in
        (w.0 ∙ k.0, subst (λ l. Say left (flat_map f l ++ ns)) k.1 w.1)

pub all_unit : {X : Type 0} (xs : List X) → AllByRecursion (λ _. Unit {0}) xs
all_unit [] = tt
all_unit (x ∷ xs) = (tt, all_unit xs)
