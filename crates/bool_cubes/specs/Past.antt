-- When a step of the linear forms of assertions' atoms leaves 128 bits.
use Rattle.std.specs.Prelude.{ℤ, List, [], ◌++◌}
use Rattle.sv_terms.specs.declared.term.Term.{Term}
use Rattle.literal_forms.specs.Linear.{Step}
use Rattle.literal_forms.specs.Literals.{SomeOf}
use Rattle.literal_forms.specs.Past.{IsPast, atom_steps}
use Rattle.literal_forms.specs.Shapes.{seen}
use Rattle.bool_cubes.specs.Trees.{Tree, always, never, one, both, either, tree_of}

-- the steps of all literals of a tree
abbrev pub tree_steps : Tree → List Step
tree_steps always = []
tree_steps never = []
tree_steps (one l) = atom_steps (seen l.atom)
tree_steps (both t u) = tree_steps t ++ tree_steps u
tree_steps (either t u) = tree_steps t ++ tree_steps u

-- a step of an atom of these assertions is past 128 bits, with these operands
abbrev pub PastIn : List Term → ℤ → ℤ → Type 0
PastIn ts l r = SomeOf (IsPast l r) (tree_steps (tree_of ts))

abbrev pub HasNoPast : List Term → Type 0
HasNoPast ts = (l r : ℤ) → PastIn ts l r → ⊥
