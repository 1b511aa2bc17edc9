-- Parts of a word, and places of a word in a word (theory UnicodeStrings: str.substr, str.at and str.indexof).
use Rattle.std.specs.Prelude.{◌≡◌, ℕ, suc, ℤ, pos, negsuc, ◌+◌, ◌-◌, ◌≤◌, ◌<◌, ◌≤ℤ◌, ◌<ℤ◌, min, if◌then◌else◌, [], ◌∷◌, ◌++◌, length, take, drop, nat_le, Option, Some, None}
use Rattle.std.specs.Option.{option_map}
use Rattle.sv_terms.specs.Language.{Word}
use Rattle.sv_terms.specs.Replacement.{begins, Stands}

-- the length of a word, as a whole number
abbrev pub len : Word → ℤ
len w = pos (length w)

-- the part of w from the place m on, n characters or as many as there are; empty where m is no place of w or n isn't above 0
abbrev pub substr : Word → ℤ → ℤ → Word
substr w (pos m) (pos n) = take n (drop m w)
substr w (pos m) (negsuc n) = []
substr w (negsuc m) n = []

-- the character at the place n, as a word; empty where n is no place of w
abbrev pub char_at : Word → ℤ → Word
char_at w n = substr w n (pos 1)

-- the least place where p stands in w
abbrev pub first_place : Word → Word → Option ℕ
first_place p [] = if begins p [] then Some 0 else None
first_place p (c ∷ w) = if begins p (c ∷ w) then Some 0 else option_map suc (first_place p w)

-- a place after the first i characters; -1 where there is none
abbrev pub place_or_none : ℕ → Option ℕ → ℤ
place_or_none i None = negsuc 0
place_or_none i (Some k) = pos (i + k)

-- the least place from i on where p stands in w; -1 where there is none, or where i is below 0 or above the length of w
abbrev pub index_of : Word → Word → ℤ → ℤ
index_of w p (pos i) = if nat_le i (length w) then place_or_none i (first_place p (drop i w)) else negsuc 0
index_of w p (negsuc i) = negsuc 0

-- `substr` in words: the part of w from m on that has min(n, |w| - m) characters, where 0 <= m < |w| and 0 < n, and else the empty word
pub data Substring (w : Word) (m n : ℤ) (v : Word) : Type 0 where
  inside : (a b : Word) (k : ℕ) → w ≡ a ++ (v ++ b) → m ≡ len a → n ≡ pos k → length a < length w → 0 < k → length v ≡ min k (length w - length a) → Substring w m n v
  outside : (pos 0 ≤ℤ m → m <ℤ len w → pos 0 <ℤ n → ⊥) → v ≡ [] → Substring w m n v

-- `index_of` in words: the least place from i on where p stands in w, where 0 <= i <= |w| and there is one, and else -1
pub data Index (w p : Word) (i j : ℤ) : Type 0 where
  least : (a b : Word) → pos 0 ≤ℤ i → i ≤ℤ len w → Stands p w a b → i ≤ℤ len a → ((c d : Word) → Stands p w c d → i ≤ℤ len c → length a ≤ length c) → j ≡ len a → Index w p i j
  missing : (pos 0 ≤ℤ i → i ≤ℤ len w → (a b : Word) → Stands p w a b → i ≤ℤ len a → ⊥) → j ≡ negsuc 0 → Index w p i j
