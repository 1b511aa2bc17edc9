-- How a stack of levels is kept: all symbols, all assertions, all names of assertions, and a mark for
-- each level but the outermost. Nothing public rests on it.
use Rattle.std.specs.Prelude.{ℕ, ◌≤◌, List, [], ◌∷◌, ⊤, take, drop}
use Rattle.sv_terms.specs.declared.term.Term.{Term}
use Rattle.assert_stack.specs.declared.mark.Mark.{Mark}
use Rattle.assert_stack.specs.Levels.{Symbol, NamedPlace, Level}

-- the levels between marks, of which the last comes first
abbrev pub levels_at : List Mark → List Symbol → List Term → List NamedPlace → List Level
levels_at [] symbols terms names = (symbols, terms, names) ∷ []
levels_at (mark ∷ marks) symbols terms names = (drop mark.symbols symbols, drop mark.assertions terms, drop mark.names names) ∷ levels_at marks (take mark.symbols symbols) (take mark.assertions terms) (take mark.names names)

-- no mark is after the one that was set after it, and none is after these places
abbrev pub AreMarks : List Mark → ℕ → ℕ → ℕ → Type 0
AreMarks [] symbols terms names = ⊤
AreMarks (mark ∷ marks) symbols terms names = (mark.symbols ≤ symbols) × (mark.assertions ≤ terms) × (mark.names ≤ names) × AreMarks marks mark.symbols mark.assertions mark.names

-- how many assertions there were when the last level was pushed
abbrev pub outside : List Mark → ℕ
outside [] = 0
outside (mark ∷ marks) = mark.assertions
