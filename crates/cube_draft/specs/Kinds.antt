-- How functions stand in atoms of a written kind.
use Rattle.std.specs.Prelude.{ℕ, Bool, List, Option, Some, None}
use Rattle.sv_terms.specs.declared.op.Op.{Op}
use Rattle.literal_forms.specs.Roles.{role_of}
use Rattle.literal_forms.specs.declared.roles.Role.{Role}
use Rattle.literal_forms.specs.declared.roles.Role.TheVariants as role
use Rattle.literal_forms.specs.declared.roles.Test.TheVariants as test
use Rattle.literal_forms.specs.Shapes.{Shape, Shapes, text, end, ◌⨾◌}
use Rattle.flat_cubes.specs.declared.definition.By.{By}
use Rattle.flat_cubes.specs.declared.definition.By.TheVariants as by
use Rattle.flat_cubes.specs.Said.{Said, outside, part_said}
use Rattle.flat_cubes.specs.declared.variable.Own.{Own}
use Rattle.flat_cubes.specs.declared.variable.Own.TheVariants as own
use Rattle.cube_draft.specs.declared.string_terms.Occurrences.{Occurrences}
use Rattle.cube_draft.specs.declared.string_terms.Occurrences.TheVariants as occurrences
use Rattle.cube_draft.specs.declared.literals.Affix.{Affix}
use Rattle.cube_draft.specs.declared.literals.Affix.TheVariants as affix
use Rattle.cube_draft.specs.declared.literals.AtomHead.{AtomHead}
use Rattle.cube_draft.specs.declared.literals.AtomHead.TheVariants as head

-- the literals behind the first of three arguments
abbrev pub literals_of : Shapes → Option (List ℕ × List ℕ)
literals_of (s ⨾ text p ⨾ text u ⨾ end) = Some (p, u)
literals_of _ = None

-- how the word of a replacement comes from that of a variable
abbrev pub replaced_by : Occurrences → List ℕ → List ℕ → ℕ → By
replaced_by occurrences.First p u i = by.First p u i
replaced_by occurrences.All p u i = by.All p u i

-- how a function stands at the head of an atom of a written kind
abbrev pub head_by : Role → AtomHead
head_by role.Equality = head.Equality
head_by (role.Order o) = head.Order
head_by (role.Test test.Prefix) = head.Prefix
head_by (role.Test test.Suffix) = head.Suffix
head_by (role.Test test.Contains) = head.Contains
head_by (role.Test test.Digit) = head.Digit
head_by _ = head.Other

abbrev pub head_of : Op → AtomHead
head_of o = head_by (role_of o)

-- that the word stands so in a term
abbrev pub own_by : Affix → List ℕ → Own
own_by affix.Prefix w = own.Prefix w
own_by affix.Suffix w = own.Suffix w
own_by affix.Infix w = own.Contains w

-- what an atom says in which a term stands so in another
abbrev pub affix_said : Affix → Shape → Shape → Bool → Said
affix_said a (text p) s b = part_said s (own_by a p) b
affix_said a _ s b = outside
