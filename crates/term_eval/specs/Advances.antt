-- Reading a part of a word.
use Rattle.std.specs.Prelude.{ℕ, ◌<◌, ◌≤◌, Option, Some, None, length, drop}
use Rattle.sv_terms.specs.declared.regex.Regex.{Regex}
use Rattle.sv_terms.specs.Language.{Word, In}

-- from the place `at` on a word is in `left` exactly where it is in `rest` from `next` on
pub record Advances (left rest : Regex) (w : Word) (at next : ℕ) : Type 0 where
  pub further : at < next
  pub inside : next ≤ length w
  pub only : In rest (drop next w) → In left (drop at w)
  pub all : In left (drop at w) → In rest (drop next w)

-- what is left further on, or nothing, where the rest of the word isn't in it
abbrev pub AdvancesOrFails : Regex → Word → ℕ → Option (Regex × ℕ) → Type 0
AdvancesOrFails left w at None = In left (drop at w) → ⊥
AdvancesOrFails left w at (Some found) = Advances left found.0 w at found.1

-- the word is in r exactly where what follows `at` is in `left`
pub record IsRegexLeft (r left : Regex) (w : Word) (at : ℕ) : Type 0 where
  pub inside : at ≤ length w
  pub only : In left (drop at w) → In r w
  pub all : In r w → In left (drop at w)
