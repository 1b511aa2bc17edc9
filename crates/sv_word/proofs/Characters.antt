-- Lists whose members are all characters.
use Rattle.std.proofs.Common.{ℕ, suc, ◌≤◌, List, [], ◌∷◌, take, arith}
use Rattle.std.proofs.lemmas.List.Elements.{All-take}
use Rattle.std.specs.Prelude.{All}
use Rattle.sv_word.specs.Words.{IsWord, greatest_character}

pub word_of_all : (w : List ℕ) → All (λ c. c ≤ greatest_character) w → IsWord w
word_of_all [] h = tt
word_of_all (c ∷ w) h = (h 0 c (omega arith), word_of_all w (λ k d l. h (suc k) d (omega arith)))

pub characters_of_take : (n : ℕ) (w : List ℕ) → All (λ c. c ≤ greatest_character) w → All (λ c. c ≤ greatest_character) (take n w)
characters_of_take n w h = All-take (λ c. c ≤ greatest_character) n w h
