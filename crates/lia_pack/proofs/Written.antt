-- Numbers written one after the other.
use Rattle.std.proofs.Common.{◌≡◌, ℕ, ◌+◌, ◌<◌, List, [], ◌∷◌, ◌++◌, length, take, get_or, ap, sym, ◌∙◌, subst, append_assoc}
use Rattle.std.specs.List.{flat_map}
use Rattle.std.proofs.lemmas.List.{take_more, append-nil}
use Rattle.lia_pack.specs.Numbers.{numbers_from, AreSmall, AreWritten}

small_both : (m n : List ℕ) → AreSmall m → AreSmall n → AreSmall (m ++ n)
small_both [] n p q = q
small_both (x ∷ m) n p q = (p.0, small_both m n p.1 q)

pub written_both : (a b c m n : List ℕ) → AreWritten a b m → AreWritten b c n → AreWritten a c (m ++ n)
written_both a b c m n p q = record {
  bytes = p.bytes ++ q.bytes;
  added = q.added ∙ ap (λ l. l ++ q.bytes) p.added ∙ append_assoc a p.bytes q.bytes;
  said = λ rest. ap (numbers_from 0) (append_assoc p.bytes q.bytes rest) ∙ p.said (q.bytes ++ rest) ∙ ap (λ l. m ++ l) (q.said rest) ∙ sym (append_assoc m n (numbers_from 0 rest));
  small = small_both m n p.small q.small;
}

flat_more : {X : Type 0} (f : X → List ℕ) (xs : List X) (x : X) → flat_map f (xs ++ x ∷ []) ≡ flat_map f xs ++ f x
flat_more f [] x = append-nil (f x)
flat_more f (y ∷ ys) x = ap (λ l. f y ++ l) (flat_more f ys x) ∙ sym (append_assoc (f y) (flat_map f ys) (f x))

-- one element more
pub written_at : {X : Type 0} (f : X → List ℕ) (xs : List X) (i : ℕ) (d : X) (a b c : List ℕ) → i < length xs → AreWritten a b (flat_map f (take i xs)) → AreWritten b c (f (get_or xs i d)) →
    AreWritten a c (flat_map f (take (i + 1) xs))
written_at f xs i d a b c h p q =
    let same : flat_map f (take (i + 1) xs) ≡ flat_map f (take i xs) ++ f (get_or xs i d) = ap (flat_map f) (take_more xs i d h) ∙ flat_more f (take i xs) (get_or xs i d) in
    subst (AreWritten a c) (sym same) (written_both a b c (flat_map f (take i xs)) (f (get_or xs i d)) p q)

pub written_more : {X : Type 0} (f : X → List ℕ) (xs : List X) (i : ℕ) (x : X) (a b c : List ℕ) → i < length xs → x ≡ get_or xs i x → AreWritten a b (flat_map f (take i xs)) → AreWritten b c (f x) →
    AreWritten a c (flat_map f (take (i + 1) xs))
written_more f xs i x a b c h e p q = written_at f xs i x a b c h p (subst (λ y. AreWritten b c (f y)) e q)

-- a row of its parts
pub written_row : (a b c d e : List ℕ) (kind count constant : ℕ) (terms : List ℕ) → AreWritten a b (kind ∷ []) → AreWritten b c (count ∷ []) → AreWritten c d (constant ∷ []) → AreWritten d e terms →
    AreWritten a e (kind ∷ count ∷ constant ∷ terms)
written_row a b c d e kind count constant terms p q r s =
    written_both a b e (kind ∷ []) (count ∷ constant ∷ terms) p (written_both b c e (count ∷ []) (constant ∷ terms) q (written_both c d e (constant ∷ []) terms r s))
