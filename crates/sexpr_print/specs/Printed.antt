-- S-expressions as text: tokens as they stand, one space between the items of a list.
use Rattle.std.specs.Prelude.{ℕ, suc, max, List, [], ◌∷◌, ◌++◌}
use Rattle.sexpr_reader.specs.declared.sexpr.Sexpr.{Sexpr}
use Rattle.sexpr_reader.specs.declared.sexpr.Sexpr.TheFolds.{fold-Sexpr}
use Rattle.sexpr_reader.specs.declared.sexpr.Sexpr.TheOpen.{Sexpr-F}
use Rattle.sexpr_reader.specs.Items.{HasFormedAtoms, most_open_lists}
use Rattle.std.specs.Prelude.{◌≤◌}

-- one space between the texts
abbrev pub spaced : List (List ℕ) → List ℕ
spaced [] = []
spaced (t ∷ []) = t
spaced (t ∷ u ∷ ts) = t ++ 32 ∷ spaced (u ∷ ts)

-- the bytes of an atom; between parentheses the items of a list
abbrev pub printed_layer : Sexpr-F (List ℕ) → List ℕ
printed_layer (Sexpr-F.Atom kind bytes) = bytes
printed_layer (Sexpr-F.List ts) = 40 ∷ (spaced ts ++ 41 ∷ [])

unfoldable pub printed : Sexpr → List ℕ
printed = fold-Sexpr (List ℕ) printed_layer

-- each on a line of its own
abbrev pub printed_lines : List Sexpr → List ℕ
printed_lines [] = []
printed_lines (item ∷ items) = printed item ++ 10 ∷ printed_lines items

abbrev pub greatest : List ℕ → ℕ
greatest [] = 0
greatest (n ∷ ns) = max n (greatest ns)

abbrev pub depth_layer : Sexpr-F ℕ → ℕ
depth_layer (Sexpr-F.Atom kind bytes) = 0
depth_layer (Sexpr-F.List ns) = suc (greatest ns)

-- how many lists stand inside one another
unfoldable pub depth : Sexpr → ℕ
depth = fold-Sexpr ℕ depth_layer

-- the bytes of each atom are a token of its kind, and no list too many stands inside others
pub record IsPrintable (item : Sexpr) : Type 0 where
  pub formed : HasFormedAtoms item
  pub nested : depth item ≤ most_open_lists

abbrev pub ArePrintable : List Sexpr → Type 0
ArePrintable [] = Unit {0}
ArePrintable (item ∷ items) = IsPrintable item × ArePrintable items

-- what is left of lines behind their last item: the end of its line
abbrev pub line_end : List Sexpr → List ℕ
line_end [] = []
line_end (item ∷ []) = 10 ∷ []
line_end (item ∷ next ∷ items) = line_end (next ∷ items)
