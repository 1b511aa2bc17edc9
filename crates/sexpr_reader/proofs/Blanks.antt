-- One byte more at the end of white space, of a comment, of a literal.
use Rattle.std.proofs.Common.{◌≡◌, ℕ, ◌==◌, List, [], ◌∷◌, ◌++◌, Bool, true, false, IsTrue, if◌then◌else◌, refl, sym, ap, ◌∙◌, subst, append_assoc}
use Rattle.std.specs.List.{list_all}
use Rattle.std.proofs.lemmas.Bool.{and_from}
use Rattle.sv_list.specs.Bools.{and-first, and-second}
use Rattle.sexpr_reader.specs.Tokens.{doubled}
use Rattle.sexpr_reader.specs.Lexes.{IsBlank, none, white, comment}

pub list_all-push : (p : ℕ → Bool) (xs : List ℕ) (b : ℕ) → IsTrue (list_all p xs) → IsTrue (p b) → IsTrue (list_all p (xs ++ b ∷ []))
list_all-push p [] b h g = and_from (p b) true g refl
list_all-push p (x ∷ xs) b h g = and_from (p x) _ (and-first (p x) _ h) (list_all-push p xs b (and-second (p x) _ h) g)

pub IsBlank-append : (xs ys : List ℕ) → IsBlank xs → IsBlank ys → IsBlank (xs ++ ys)
IsBlank-append xs ys none h = h
IsBlank-append xs ys (white {b} {bs} w k) h = white w (IsBlank-append bs ys k h)
IsBlank-append xs ys (comment body b bs c e k) h = subst IsBlank (sym (ap (λ (l : List ℕ). 59 ∷ l) (append_assoc body (b ∷ bs) ys))) (comment body b (bs ++ ys) c e (IsBlank-append bs ys k h))

same_choice : (b : Bool) (u v w x : List ℕ) → u ≡ w → v ≡ x → (if b then u else v) ≡ (if b then w else x)
same_choice true u v w x p q = p
same_choice false u v w x p q = q

choice-append : (b : Bool) (u v w : List ℕ) → (if b then u else v) ++ w ≡ (if b then u ++ w else v ++ w)
choice-append true u v w = refl
choice-append false u v w = refl

pub doubled-append : (xs ys : List ℕ) → doubled (xs ++ ys) ≡ doubled xs ++ doubled ys
doubled-append [] ys = refl
doubled-append (x ∷ xs) ys = same_choice (x == 34) _ _ _ _ (ap (λ (l : List ℕ). 34 ∷ 34 ∷ l) (doubled-append xs ys)) (ap (λ (l : List ℕ). x ∷ l) (doubled-append xs ys))
    ∙ sym (choice-append (x == 34) (34 ∷ 34 ∷ doubled xs) (x ∷ doubled xs) (doubled ys))
