-- When a step by which the linear form of an atom is built leaves 128 bits.
use Rattle.std.specs.Prelude.{◌≡◌, ℤ, pos, ◌+ℤ◌, ◌*ℤ◌, List, [], ◌∷◌, ◌++◌, FitsSigned, ⊤, Result, Ok, Err}
use Rattle.std.specs.Int.{w128}
use Rattle.sv_terms.specs.declared.op.Op.{Op}
use Rattle.sv_terms.specs.declared.sort.Sort.{Sort}
use Rattle.sv_terms.specs.declared.sort.Sort.TheVariants as sort
use Rattle.literal_forms.specs.Roles.{role_of}
use Rattle.literal_forms.specs.declared.roles.Role.{Role}
use Rattle.literal_forms.specs.declared.roles.Role.TheVariants as role
use Rattle.literal_forms.specs.declared.reading.Relation.{Relation}
use Rattle.literal_forms.specs.declared.reading.Relation.TheVariants as relation
use Rattle.sv_linear.specs.declared.fault.FormFault.{FormFault}
use Rattle.sv_linear.specs.declared.fault.FormFault.TheVariants.{Past, Memory}
use Rattle.literal_forms.specs.declared.literal.Literal.{Literal}
use Rattle.literal_forms.specs.Literals.{SomeOf}
use Rattle.literal_forms.specs.Shapes.{Shape, Shapes, truth, number, text, constant, apply, member, related, opaque, end, ◌⨾◌, seen, head_sort}
use Rattle.literal_forms.specs.Linear.{Place, Step, addition, scaling, entry_at, linear, steps, less, less_steps, scaled, minus_one, of_number}

-- of an equality: both forms, their difference and its negative
abbrev pub equality_steps : Shape → Shape → List Step
equality_steps s t = steps s ++ steps t ++ less_steps (linear s) (linear t) ++ scaling (less (linear s) (linear t)) minus_one ∷ []

-- of a comparison also each of the two plus 1
abbrev pub comparison_steps : Shape → Shape → List Step
comparison_steps s t = equality_steps s t ++ addition (less (linear s) (linear t)) (of_number (pos 1)) ∷ addition (scaled (less (linear s) (linear t)) minus_one) (of_number (pos 1)) ∷ []

abbrev pub equal_steps : Sort → Shape → Shape → List Step
equal_steps sort.Int s t = equality_steps s t
equal_steps sort.Bool s t = []
equal_steps sort.String s t = []
equal_steps sort.RegLan s t = []

-- which functions compare
abbrev pub relation_by : Role → Relation
relation_by role.Connective = relation.Neither
relation_by role.Equality = relation.Equality
relation_by role.Distinct = relation.Neither
relation_by (role.Order o) = relation.Order
relation_by (role.Joined j) = relation.Neither
relation_by role.Length = relation.Neither
relation_by (role.Built b) = relation.Neither
relation_by (role.Test t) = relation.Neither

abbrev pub relation_of : Op → Relation
relation_of o = relation_by (role_of o)

abbrev pub relation_steps : Relation → Shape → Shape → List Step
relation_steps relation.Equality s t = equal_steps (head_sort s) s t
relation_steps relation.Order s t = comparison_steps s t
relation_steps relation.Neither s t = []

-- of two arguments
abbrev pub two_steps : Relation → Shapes → List Step
two_steps r (s ⨾ t ⨾ end) = relation_steps r s t
two_steps r _ = []

abbrev pub atom_steps : Shape → List Step
atom_steps (truth b) = []
atom_steps (number n) = []
atom_steps (text w) = []
atom_steps (constant name s) = []
atom_steps (apply o ss) = two_steps (relation_of o) ss
atom_steps (member s r) = []
atom_steps (related t s u) = []
atom_steps (opaque s) = []

-- l and r meet at some column of the step, and their sum or product isn't a number of 128 bits
abbrev pub IsPast : ℤ → ℤ → Step → Type 0
IsPast l r (addition a b) = ((c : Place) × (l ≡ entry_at c a) × (r ≡ entry_at c b)) × (FitsSigned w128 (l +ℤ r) → ⊥)
IsPast l r (scaling a k) = ((c : Place) × (l ≡ entry_at c a) × (r ≡ k)) × (FitsSigned w128 (l *ℤ r) → ⊥)

-- none of the steps is past 128 bits
abbrev pub ArePlain : List Step → Type 0
ArePlain steps = (l r : ℤ) → SomeOf (IsPast l r) steps → ⊥

-- Ok only where none of the steps is past 128 bits, and Past only with the operands of one that is
abbrev pub IsPlainExactly : {X : Type 0} → List Step → Result X FormFault → Type 0
IsPlainExactly steps (Ok x) = ArePlain steps
IsPlainExactly steps (Err (Past l r)) = SomeOf (IsPast l r) steps
IsPlainExactly steps (Err (Memory e)) = ⊤

-- no step of the literal's atom is past 128 bits
abbrev pub IsFitting : Literal → Type 0
IsFitting x = (l r : ℤ) → SomeOf (IsPast l r) (atom_steps (seen x.atom)) → ⊥
