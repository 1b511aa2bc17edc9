-- Lists that a loop adds to, one element in a turn.
use Rattle.std.proofs.Common.{◌≡◌, ℕ, ◌+◌, ◌<◌, ◌≤◌, List, [], ◌∷◌, ◌++◌, length, map, take, get_or, sym, ap, ◌∙◌, subst, append_assoc, append-nil}
use Rattle.std.proofs.lemmas.List.{map-append, map_more, take_all}

module _ {X Y : Type 0} (f : X → Y) (xs ys : List X) where
  pub pushed-none : (start : List Y) → start ≡ start ++ map f (take 0 xs)
  pushed-none start = sym (append-nil start)

  pub pushed-at : (start old new : List Y) (i : ℕ) (d : X) → i < length xs → old ≡ start ++ map f (take i xs) → new ≡ old ++ f (get_or xs i d) ∷ []
      → new ≡ start ++ map f (take (i + 1) xs)
  pushed-at start old new i d lt before made =
      made ∙ ap (λ l. l ++ f (get_or xs i d) ∷ []) before ∙ append_assoc start (map f (take i xs)) (f (get_or xs i d) ∷ [])
      ∙ ap (λ l. start ++ l) (sym (map_more f xs i d lt))

  pub pushed-more : (start old new : List Y) (i : ℕ) (x : X) → ys ≡ xs → i < length ys → x ≡ get_or ys i x
      → old ≡ start ++ map f (take i xs) → new ≡ old ++ f x ∷ [] → new ≡ start ++ map f (take (i + 1) xs)
  pushed-more start old new i x same lt is before made =
      let at : x ≡ get_or xs i x = subst (λ l. x ≡ get_or l i x) same is in
      pushed-at start old new i x (subst (λ l. i < length l) same lt) before (made ∙ ap (λ y. old ++ f y ∷ []) at)

  pub pushed-all : (start new : List Y) (i : ℕ) → ys ≡ xs → length ys ≤ i → new ≡ start ++ map f (take i xs) → new ≡ start ++ map f xs
  pushed-all start new i same le made = made ∙ ap (λ l. start ++ map f l) (take_all i xs (subst (λ l. length l ≤ i) same le))

pub mapped-more : {X Y : Type 0} (f : X → Y) (xs : List X) (old new : List Y) (x : X) → old ≡ map f xs → new ≡ old ++ f x ∷ [] → new ≡ map f (xs ++ x ∷ [])
mapped-more f xs old new x before made = made ∙ ap (λ l. l ++ f x ∷ []) before ∙ sym (map-append f xs (x ∷ []))
