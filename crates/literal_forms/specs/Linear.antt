-- Terms over whole numbers as linear forms, and the steps by which a form is built. Numbers are without bound.
use Rattle.std.specs.Prelude.{ℕ, ℤ, pos, neg_ℤ, ◌+ℤ◌, ◌*ℤ◌, Bool, true, false, ◌&&◌, ◌||◌, List, [], ◌∷◌, ◌++◌, map, length, if◌then◌else◌}
use Rattle.sv_terms.specs.Sorting.{same_sort}
use Rattle.sv_terms.specs.declared.sort.Sort.TheVariants as sort
use Rattle.sv_terms.specs.declared.op.Op.{Op}
use Rattle.sv_terms.specs.declared.op.Op.TheVariants as op
use Rattle.literal_forms.specs.declared.roles.Joint.{Joint}
use Rattle.literal_forms.specs.declared.roles.Joint.TheVariants as joint
use Rattle.literal_forms.specs.Roles.{role_of}
use Rattle.literal_forms.specs.declared.roles.Role.{Role}
use Rattle.literal_forms.specs.declared.roles.Role.TheVariants as role
use Rattle.literal_forms.specs.declared.reading.Reading.{Reading}
use Rattle.literal_forms.specs.declared.reading.Reading.TheVariants as reading
use Rattle.literal_forms.specs.Codes.{Code, word, tagged, code, same_code}
use Rattle.literal_forms.specs.Shapes.{Shape, Shapes, truth, number, text, constant, apply, member, related, opaque, end, ◌⨾◌}

-- the pieces of a concatenation before others, where it is one
abbrev pub set_before : Shapes → Shapes → Shapes
set_before end ts = ts
set_before (s ⨾ ss) ts = s ⨾ set_before ss ts

abbrev pub before : Shape → Shapes → Shapes
before (apply op.Concat ss) ts = set_before ss ts
before s ts = s ⨾ ts

abbrev mutual
  -- a term of sort String with nested concatenations written as one
  pub written : Shape → Shape
  written (apply op.Concat ss) = apply op.Concat (pieces ss)
  written (apply op.Replace (s ⨾ ss)) = apply op.Replace (written s ⨾ ss)
  written (apply op.ReplaceAll (s ⨾ ss)) = apply op.ReplaceAll (written s ⨾ ss)
  written s = s

  pub pieces : Shapes → Shapes
  pieces end = end
  pieces (s ⨾ ss) = before (written s) (pieces ss)

-- the unknowns of linear forms: constants of sort Int, lengths of terms that are no literals, and all other terms of sort Int
pub data Unknown : Type 0 where
  integer : List ℕ → Unknown
  length_of : Shape → Unknown
  other : Shape → Unknown

abbrev pub unknown_code : Unknown → Code
unknown_code (integer n) = tagged 0 (word n)
unknown_code (length_of s) = tagged 1 (code s)
unknown_code (other s) = tagged 2 (code s)

abbrev pub same_unknown : Unknown → Unknown → Bool
same_unknown u v = same_code (unknown_code u) (unknown_code v)

-- terms, pairs of an unknown and a number, and a constant that are added up; an unknown may stand in several terms
pub record Linear : Type 0 where
  pub terms : List (Unknown × ℤ)
  pub constant : ℤ

-- the sum of the numbers that stand at an unknown
abbrev pub multiple_of : Unknown → List (Unknown × ℤ) → ℤ
multiple_of u [] = pos 0
multiple_of u (t ∷ ts) = (if same_unknown t.0 u then t.1 else pos 0) +ℤ multiple_of u ts

-- the columns of a form: its unknowns and its constant
pub data Place : Type 0 where
  at_unknown : Unknown → Place
  at_constant : Place

abbrev pub entry_at : Place → Linear → ℤ
entry_at (at_unknown u) a = multiple_of u a.terms
entry_at at_constant a = a.constant

abbrev pub is_empty : {X : Type 0} → List X → Bool
is_empty [] = true
is_empty (x ∷ xs) = false

abbrev pub of_number : ℤ → Linear
of_number n = record { terms = []; constant = n }

abbrev pub of_unknown : Unknown → Linear
of_unknown u = record { terms = (u, pos 1) ∷ []; constant = pos 0 }

abbrev pub added : Linear → Linear → Linear
added a b = record { terms = a.terms ++ b.terms; constant = a.constant +ℤ b.constant }

abbrev pub scaled : Linear → ℤ → Linear
scaled a k = record { terms = map (λ (t : Unknown × ℤ). (t.0, t.1 *ℤ k)) a.terms; constant = a.constant *ℤ k }

abbrev pub minus_one : ℤ
minus_one = neg_ℤ (pos 1)

-- a difference is a product of its right side and -1, and then a sum
abbrev pub less : Linear → Linear → Linear
less a b = added a (scaled b minus_one)

-- whether no unknown stands in a form
abbrev pub is_constant : Linear → Bool
is_constant a = is_empty a.terms

-- the product where one of the two has no unknown
abbrev pub multiplied : Linear → Linear → Linear
multiplied a b = if is_constant b then scaled a b.constant else scaled b a.constant

-- a step by which a form is built: two forms are added, or one is multiplied with a number
pub data Step : Type 0 where
  addition : Linear → Linear → Step
  scaling : Linear → ℤ → Step

abbrev pub from_left : (Linear → Linear → Linear) → Linear → List Linear → Linear
from_left f a [] = a
from_left f a (b ∷ bs) = from_left f (f a b) bs

abbrev pub steps_from : (Linear → Linear → Linear) → (Linear → Linear → List Step) → Linear → List Linear → List Step
steps_from f steps a [] = []
steps_from f steps a (b ∷ bs) = steps a b ++ steps_from f steps (f a b) bs

abbrev pub sum_steps : Linear → Linear → List Step
sum_steps a b = addition a b ∷ []

abbrev pub less_steps : Linear → Linear → List Step
less_steps a b = scaling b minus_one ∷ addition a (scaled b minus_one) ∷ []

abbrev pub product_steps : Linear → Linear → List Step
product_steps a b = (if is_constant b then scaling a b.constant else scaling b a.constant) ∷ []

-- of one, its negative; of more, the first less the others
abbrev pub difference_of : List Linear → Linear
difference_of [] = of_number (pos 0)
difference_of (a ∷ []) = scaled a minus_one
difference_of (a ∷ b ∷ bs) = from_left less a (b ∷ bs)

abbrev pub difference_steps : List Linear → List Step
difference_steps [] = []
difference_steps (a ∷ []) = scaling a minus_one ∷ []
difference_steps (a ∷ b ∷ bs) = steps_from less less_steps a (b ∷ bs)

abbrev pub combined : (Linear → Linear → Linear) → List Linear → Linear
combined f [] = of_number (pos 0)
combined f (a ∷ ls) = from_left f a ls

abbrev pub combined_steps : (Linear → Linear → Linear) → (Linear → Linear → List Step) → List Linear → List Step
combined_steps f steps [] = []
combined_steps f steps (a ∷ ls) = steps_from f steps a ls

-- the form of a term that isn't made of others: the term is an unknown
abbrev pub whole : Shape → Linear
whole s = of_unknown (other s)

-- the form of a length: that of a literal is its number
abbrev pub length_form : Shapes → Linear
length_form end = whole (apply op.Length end)
length_form (text w ⨾ end) = of_number (pos (length w))
length_form (s ⨾ end) = of_unknown (length_of (written s))
length_form (s ⨾ t ⨾ ss) = whole (apply op.Length (s ⨾ t ⨾ ss))

-- what a function gives: a form joined of those of its arguments, a length, or an unknown
abbrev pub reading_by : Role → Reading
reading_by role.Connective = reading.Whole
reading_by role.Equality = reading.Whole
reading_by role.Distinct = reading.Whole
reading_by (role.Order o) = reading.Whole
reading_by (role.Joined j) = reading.Joined j
reading_by role.Length = reading.Length
reading_by (role.Built b) = reading.Whole
reading_by (role.Test t) = reading.Whole

abbrev pub reading_of : Op → Reading
reading_of o = reading_by (role_of o)

abbrev pub joined_of : Joint → List Linear → Linear
joined_of joint.Sum ls = combined added ls
joined_of joint.Difference ls = difference_of ls
joined_of joint.Product ls = combined multiplied ls

abbrev pub joined_steps : Joint → List Linear → List Step
joined_steps joint.Sum ls = combined_steps added sum_steps ls
joined_steps joint.Difference ls = difference_steps ls
joined_steps joint.Product ls = combined_steps multiplied product_steps ls

abbrev pub read : Reading → Op → Shapes → List Linear → Linear
read (reading.Joined j) o ss ls = joined_of j ls
read reading.Length o ss ls = length_form ss
read reading.Whole o ss ls = whole (apply o ss)

-- the steps of a function, after those of its arguments; none is below a length
abbrev pub read_steps : Reading → List Step → List Linear → List Step
read_steps (reading.Joined j) before ls = before ++ joined_steps j ls
read_steps reading.Length before ls = []
read_steps reading.Whole before ls = []

abbrev mutual
  -- a term of sort Int as a linear form
  pub linear : Shape → Linear
  linear (truth b) = whole (truth b)
  linear (number n) = of_number n
  linear (text w) = whole (text w)
  linear (constant name s) = of_unknown (integer name)
  linear (apply o ss) = read (reading_of o) o ss (linears ss)
  linear (member s r) = whole (member s r)
  linear (related t s u) = whole (related t s u)
  linear (opaque s) = whole (opaque s)

  pub linears : Shapes → List Linear
  linears end = []
  linears (s ⨾ ss) = linear s ∷ linears ss

abbrev mutual
  -- the steps by which its form is built
  pub steps : Shape → List Step
  steps (truth b) = []
  steps (number n) = []
  steps (text w) = []
  steps (constant name s) = []
  steps (apply o ss) = read_steps (reading_of o) (all_steps ss) (linears ss)
  steps (member s r) = []
  steps (related t s u) = []
  steps (opaque s) = []

  pub all_steps : Shapes → List Step
  all_steps end = []
  all_steps (s ⨾ ss) = steps s ++ all_steps ss

-- terms of sort String of a written form: literals, constants, concatenations, and replacements of a literal by a literal
abbrev mutual
  pub is_string : Shape → Bool
  is_string (text w) = true
  is_string (constant name s) = same_sort s sort.String
  is_string (apply op.Concat (s ⨾ ss)) = is_string s && are_strings ss
  is_string (apply op.Replace (s ⨾ text p ⨾ text u ⨾ end)) = is_string s
  is_string (apply op.ReplaceAll (s ⨾ text p ⨾ text u ⨾ end)) = is_string s
  is_string _ = false

  pub are_strings : Shapes → Bool
  are_strings end = true
  are_strings (s ⨾ ss) = is_string s && are_strings ss

-- at each product one of the two has no unknown
abbrev pub is_product_from : Linear → List Linear → Bool
is_product_from a [] = true
is_product_from a (b ∷ bs) = (is_constant a || is_constant b) && is_product_from (multiplied a b) bs

abbrev pub is_product : List Linear → Bool
is_product [] = false
is_product (a ∷ ls) = is_product_from a ls

-- terms of sort Int of a written form: numbers, constants, lengths, sums, differences, and products of which one factor at most has an unknown
abbrev mutual
  pub is_linear : Shape → Bool
  is_linear (number n) = true
  is_linear (constant name s) = same_sort s sort.Int
  is_linear (apply op.Length (s ⨾ end)) = is_string s
  is_linear (apply op.Add (s ⨾ ss)) = is_linear s && are_linear ss
  is_linear (apply op.Subtract (s ⨾ ss)) = is_linear s && are_linear ss
  is_linear (apply op.Multiply (s ⨾ ss)) = is_linear s && are_linear ss && is_product (linears (s ⨾ ss))
  is_linear _ = false

  pub are_linear : Shapes → Bool
  are_linear end = true
  are_linear (s ⨾ ss) = is_linear s && are_linear ss
