-- Marked words, and what the machines that mark a word and pick from a marked word relate.
use Rattle.std.specs.Prelude.{◌≡◌, ℕ, ◌+◌, ◌≤◌, if◌then◌else◌, [], ◌∷◌, ◌++◌, nat_eq}
use Rattle.sv_terms.specs.Language.{Word}
use Rattle.sv_terms.specs.Replacement.{StandsFirst, StandsNowhere}

-- the character of a phase: `0`, `1` or `2`
abbrev pub phase : ℕ → ℕ
phase s = 48 + s

-- z is w with a phase before each of its characters, and the phases, none below `low` and none above 2, never fall
abbrev pub IsMarked : ℕ → Word → Word → Type 0
IsMarked low [] z = z ≡ []
IsMarked low (c ∷ w) z = (s : ℕ) × (rest : Word) × (low ≤ s) × (s ≤ 2) × (z ≡ phase s ∷ (c ∷ rest)) × IsMarked s w rest

-- w with this phase before each of its characters
abbrev pub in_phase : ℕ → Word → Word
in_phase s [] = []
in_phase s (c ∷ w) = phase s ∷ (c ∷ in_phase s w)

-- the marked word with the characters of a in phase 0, then those of b in phase 1, then those of c in phase 2
abbrev pub marked : Word → Word → Word → Word
marked a b c = in_phase 0 a ++ (in_phase 1 b ++ in_phase 2 c)

-- there is a phase before each character, whether or not phases fall
abbrev pub IsPhased : Word → Type 0
IsPhased [] = Unit {0}
IsPhased (h ∷ []) = ⊥
IsPhased (h ∷ (c ∷ z)) = (phase 0 ≤ h) × (h ≤ phase 2) × IsPhased z

-- the characters that come after the phase s
abbrev pub picked : ℕ → Word → Word
picked s [] = []
picked s (h ∷ []) = []
picked s (h ∷ (c ∷ z)) = if nat_eq h (phase s) then c ∷ picked s z else picked s z

-- v has the characters of z in phase s
abbrev pub IsPicked : ℕ → Word → Word → Type 0
IsPicked s z v = IsPhased z × (v ≡ picked s z)

-- z is w with a part in phase 1 that isn't empty, what is before it in phase 0, and what is after it in phase 2
abbrev pub IsMark : Word → Word → Type 0
IsMark w z = (a b c : Word) × (w ≡ a ++ (b ++ c)) × (b ≡ [] → ⊥) × (z ≡ marked a b c)

-- z is w with a part in phase 1 that isn't empty and goes to the end, and what is before it in phase 0
abbrev pub IsMarkEnd : Word → Word → Type 0
IsMarkEnd w z = (a b : Word) × (w ≡ a ++ b) × (b ≡ [] → ⊥) × (z ≡ marked a b [])

-- w is a and b, the first occurrence of p in b comes after d, and c follows it; z is w with a in phase 0, what goes to the end of this p in phase 1, and the rest in phase 2
abbrev pub IsMarkFound : Word → Word → Word → Type 0
IsMarkFound p w z = (a b d c : Word) × (w ≡ a ++ b) × StandsFirst p b d c × (z ≡ marked a (d ++ p) c)

-- w is a and b, p doesn't occur in b; z is w with a in phase 0 and b in phase 1
abbrev pub IsMarkAbsent : Word → Word → Word → Type 0
IsMarkAbsent p w z = (a b : Word) × (w ≡ a ++ b) × StandsNowhere p b × (z ≡ marked a b [])
