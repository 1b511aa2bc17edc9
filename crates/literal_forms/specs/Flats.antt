-- Codes as lists of numbers, and terms with nested concatenations written as one.
use Rattle.std.specs.Prelude.{ℕ, ℤ, ◌≡◌, ◌⊎◌, pos, List, [], ◌∷◌, ◌++◌, map, length}
use Rattle.literal_forms.specs.Codes.{Code, signed, word, pair, code}
use Rattle.sv_terms.specs.declared.op.Op.{Op}
use Rattle.sv_terms.specs.declared.op.Op.TheVariants as op
use Rattle.literal_forms.specs.Linear.{written}
use Rattle.literal_forms.specs.Shapes.{Shape, Shapes, apply, end, ◌⨾◌}

abbrev pub flat : Code → List ℤ
flat (signed n) = pos 0 ∷ n ∷ []
flat (word w) = pos 1 ∷ pos (length w) ∷ map pos w
flat (pair a b) = pos 2 ∷ (flat a ++ flat b)

-- what opens the list of a code with a tag
abbrev pub opening : ℕ → List ℤ
opening n = pos 2 ∷ pos 1 ∷ pos 1 ∷ pos n ∷ []

-- terms one after another; the list of their codes is this and then that of the empty word
abbrev pub each_flat : Shapes → List ℤ
each_flat end = []
each_flat (s ⨾ ss) = pos 2 ∷ (flat (code s) ++ each_flat ss)

abbrev pub closing : List ℤ
closing = pos 1 ∷ pos 0 ∷ []

-- a function whose first argument is written so
abbrev pub first_written : Shapes → Shapes
first_written end = end
first_written (s ⨾ ss) = written s ⨾ ss

abbrev pub replaced : Op → Shapes → Shape
replaced o ss = apply o (first_written ss)

abbrev pub IsReplacement : Op → Type 0
IsReplacement o = (o ≡ op.Replace) ⊎ (o ≡ op.ReplaceAll)
