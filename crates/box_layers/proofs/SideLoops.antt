-- Loops over the sides of a box, as far as they have come.
use Rattle.std.proofs.Common.{◌≡◌, ℕ, ◌+◌, ◌^◌, ◌<◌, ◌≤◌, inl, inr, ℤ, pos, to_z, ◌≤ℤ◌, ◌<ℤ◌, int_lt, true, false, List, [], ◌∷◌, ◌++◌, length, map, take, get_or, ap, sym, ◌∙◌, subst, append-nil, append_assoc, arith}
use Rattle.std.specs.Int.{w128}
use Rattle.std.proofs.lemmas.Int.{ints, to_z_pos}
use Rattle.std.proofs.lemmas.List.{get_or_default, map_more, take_all}
use Rattle.sv_list.specs.Lists.{below-cases}

-- a total as a number of 128 bits
pub whole : (n : ℕ) → n < 2 ^ 64 → to_z w128 n ≡ pos n
whole n lt = to_z_pos w128 n (omega arith)

pub below : (a b : ℤ) → int_lt a b ≡ true → a <ℤ b
below a b e = grind (arith, ints)

pub not-below : (a b : ℤ) → int_lt a b ≡ false → b ≤ℤ a
not-below a b e = grind (arith, ints)

pub same-ends : (a b : ℤ) → a ≤ℤ b → b ≤ℤ a → a ≡ b
same-ends a b h g = omega (arith, ints)

module _ {X : Type 0} (P : X → Type 0) (xs : List X) (i : ℕ) where
  pub holds-next : (e : X) → i < length xs → P (get_or xs i e) → ((k : ℕ) (d : X) → k < i → P (get_or xs k d)) → (k : ℕ) (d : X) → k < i + 1 → P (get_or xs k d)
  holds-next e lt p before k d h = elim (below-cases k i (omega arith)) [
    | inl l ↦ before k d l
    | inr q ↦ subst (λ n. P (get_or xs n d)) (sym q) (subst P (get_or_default xs i e d lt) p)
  ]

  pub holds-all : length xs ≤ i → ((k : ℕ) (d : X) → k < i → P (get_or xs k d)) → (k : ℕ) (d : X) → k < length xs → P (get_or xs k d)
  holds-all le before k d h = before k d (omega arith)

module _ {X Y : Type 0} (f : X → Y) (xs : List X) (i : ℕ) where
  pub mapped-next : (old new : List Y) (d : X) → i < length xs → old ≡ map f (take i xs) → new ≡ old ++ f (get_or xs i d) ∷ [] → new ≡ map f (take (i + 1) xs)
  mapped-next old new d lt before made = made ∙ ap (λ l. l ++ f (get_or xs i d) ∷ []) before ∙ sym (map_more f xs i d lt)

  pub mapped-all : (new : List Y) → length xs ≤ i → new ≡ map f (take i xs) → new ≡ map f xs
  mapped-all new le made = made ∙ ap (map f) (take_all i xs le)

  pub joined-next : (start old new : List Y) (d : X) → i < length xs → old ≡ start ++ map f (take i xs) → new ≡ old ++ f (get_or xs i d) ∷ [] → new ≡ start ++ map f (take (i + 1) xs)
  joined-next start old new d lt before made =
      made ∙ ap (λ l. l ++ f (get_or xs i d) ∷ []) before ∙ append_assoc start (map f (take i xs)) (f (get_or xs i d) ∷ []) ∙ ap (λ l. start ++ l) (sym (map_more f xs i d lt))

  pub joined-all : (start new : List Y) → length xs ≤ i → new ≡ start ++ map f (take i xs) → new ≡ start ++ map f xs
  joined-all start new le made = made ∙ ap (λ l. start ++ map f l) (take_all i xs le)

pub joined-none : {Y : Type 0} (start new : List Y) → new ≡ start → new ≡ start ++ []
joined-none start new e = e ∙ sym (append-nil start)
