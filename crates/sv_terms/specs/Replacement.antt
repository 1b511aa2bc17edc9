-- Replacement of a word in a word (theory UnicodeStrings: str.replace and str.replace_all).
use Rattle.std.specs.Prelude.{◌≡◌, ℕ, zero, suc, ◌-◌, ◌≤◌, ◌<◌, Bool, true, false, ◌&&◌, [], ◌∷◌, ◌++◌, length, drop, nat_eq, if◌then◌else◌}
use Rattle.sv_terms.specs.Language.{Word}

-- p stands in w behind a, and b follows it
abbrev pub Stands : Word → Word → Word → Word → Type 0
Stands p w a b = w ≡ a ++ (p ++ b)

-- and this is the first occurrence: the least place where p stands
pub record StandsFirst (p w a b : Word) : Type 0 where
  pub stands : Stands p w a b
  pub least : (c d : Word) → Stands p w c d → length a ≤ length c

-- p doesn't occur in w
abbrev pub StandsNowhere : Word → Word → Type 0
StandsNowhere p w = (a b : Word) → Stands p w a b → ⊥

-- w with u in the place of the first occurrence of p, so in front of w where p is empty; w where p doesn't occur
pub data ReplacedFirst (p u w : Word) : Word → Type 0 where
  at_first : {a b v : Word} → StandsFirst p w a b → v ≡ a ++ (u ++ b) → ReplacedFirst p u w v
  at_none : {v : Word} → StandsNowhere p w → v ≡ w → ReplacedFirst p u w v

-- the same at the first occurrence, and then in what follows it; w where p is empty or doesn't occur
pub data ReplacedAll (p u : Word) : Word → Word → Type 0 where
  every_none : {w v : Word} → p ≡ [] → v ≡ w → ReplacedAll p u w v
  every_first : {w a b v rest : Word} → (p ≡ [] → ⊥) → StandsFirst p w a b → ReplacedAll p u b rest → v ≡ a ++ (u ++ rest) → ReplacedAll p u w v
  every_last : {w v : Word} → (p ≡ [] → ⊥) → StandsNowhere p w → v ≡ w → ReplacedAll p u w v

-- whether w begins with p
abbrev pub begins : Word → Word → Bool
begins [] w = true
begins (c ∷ p) [] = false
begins (c ∷ p) (d ∷ w) = nat_eq c d && begins p w

-- p stands in w at this place, and at none before it from a place on
pub record IsFirst (w p : Word) («from» place : ℕ) : Type 0 where
  pub after : «from» ≤ place
  pub within : place ≤ length w
  pub stands : begins p (drop place w) ≡ true
  pub before : (i : ℕ) → «from» ≤ i → i < place → begins p (drop i w) ≡ false

-- whether p occurs in w
abbrev pub occurs : Word → Word → Bool
occurs p [] = begins p []
occurs p (c ∷ w) = if begins p (c ∷ w) then true else occurs p w

-- `ReplacedFirst`, computed along w
abbrev pub replace_first : Word → Word → Word → Word
replace_first p u [] = if begins p [] then u else []
replace_first p u (c ∷ w) = if begins p (c ∷ w) then u ++ drop (length p) (c ∷ w) else (c ∷ replace_first p u w)

-- the same for each occurrence from the left without overlap, once `skip` characters, which the
-- last occurrence covers, are passed over; p isn't empty
abbrev pub replace_from : Word → Word → ℕ → Word → Word
replace_from p u skip [] = []
replace_from p u (suc skip) (c ∷ w) = replace_from p u skip w
replace_from p u zero (c ∷ w) = if begins p (c ∷ w) then u ++ replace_from p u (length p - 1) w else (c ∷ replace_from p u zero w)

-- `ReplacedAll`, computed along w
abbrev pub replace_all : Word → Word → Word → Word
replace_all [] u w = w
replace_all (c ∷ p) u w = replace_from (c ∷ p) u zero w
