-- What the literals of a cube say, by the forms that they are written in.
use Rattle.std.specs.Prelude.{ℕ, Bool, true, false, ◌&&◌, nat_eq, List, [], ◌∷◌, Option, Some, None, if◌then◌else◌}
use Rattle.std.specs.Cmp.Lexicographic.{pointwise}
use Rattle.sv_terms.specs.Meaning.{same_truth}
use Rattle.sv_terms.specs.declared.op.Op.{Op}
use Rattle.sv_terms.specs.declared.op.Op.TheVariants as op
use Rattle.sv_terms.specs.declared.sort.Sort.{Sort}
use Rattle.sv_terms.specs.declared.sort.Sort.TheVariants as sort
use Rattle.sv_terms.specs.declared.transducer.Transducer.{Transducer}
use Rattle.literal_forms.specs.Shapes.{Shape, text, constant, apply, member, related, end, ◌⨾◌, seen, head_sort}
use Rattle.literal_forms.specs.Linear.{is_string, is_linear}
use Rattle.literal_forms.specs.declared.literal.Literal.{Literal}
use Rattle.flat_cubes.specs.declared.variable.Own.{Own}
use Rattle.flat_cubes.specs.declared.variable.Own.TheVariants as own

-- what a literal says
pub data Said : Type 0 where
  -- a Bool constant has this value
  value_is : List ℕ → Bool → Said
  -- two terms of sort Int compare so, or with false don't
  compares : Op → Shape → Shape → Bool → Said
  -- two string literals are compared: this holds, or it doesn't
  holds : Bool → Said
  -- a part of a string term
  has_part : Shape → Own → Bool → Said
  -- two string terms are equal
  are_one : Shape → Shape → Said
  -- the transducer reads the first and may write the second
  written_by : Transducer → Shape → Shape → Said
  -- a literal of no written kind
  outside : Said

-- this, where the test holds
abbrev pub where_true : Bool → Said → Said
where_true true s = s
where_true false s = outside

abbrev pub part_said : Shape → Own → Bool → Said
part_said s o b = where_true (is_string s) (has_part s o b)

abbrev pub row_said : Op → Shape → Shape → Bool → Said
row_said o s t b = where_true (is_linear s && is_linear t) (compares o s t b)

-- an equality of string terms that aren't literals; there is no written kind for two that differ
abbrev pub one_said : Shape → Shape → Bool → Said
one_said s t true = where_true (is_string s && is_string t) (are_one s t)
one_said s t false = outside

-- an equality of string terms
abbrev pub string_said : Shape → Shape → Bool → Said
string_said (text v) (text w) b = holds (same_truth b (pointwise nat_eq v w))
string_said (text w) t b = part_said t (own.Word w) b
string_said s (text w) b = part_said s (own.Word w) b
string_said s t b = one_said s t b

-- an equality, by the sort of its first side; one of whole numbers that is false isn't written as a literal
abbrev pub equality_said : Sort → Shape → Shape → Bool → Said
equality_said sort.String s t b = string_said s t b
equality_said sort.Int s t true = row_said op.Equal s t true
equality_said _ s t b = outside

abbrev pub pair_said : Transducer → Shape → Shape → Bool → Said
pair_said t s u true = where_true (is_string s && is_string u) (written_by t s u)
pair_said t s u false = outside

abbrev pub constant_said : List ℕ → Sort → Bool → Said
constant_said name sort.Bool b = value_is name b
constant_said name _ b = outside

-- what an atom says that is true, or with false not
abbrev pub atom_said : Shape → Bool → Said
atom_said (constant name s) b = constant_said name s b
atom_said (member s r) b = part_said s (own.InRe r) b
atom_said (related t s u) b = pair_said t s u b
atom_said (apply op.Equal (s ⨾ t ⨾ end)) b = equality_said (head_sort s) s t b
atom_said (apply op.LessEqual (s ⨾ t ⨾ end)) b = row_said op.LessEqual s t b
atom_said (apply op.Less (s ⨾ t ⨾ end)) b = row_said op.Less s t b
atom_said (apply op.GreaterEqual (s ⨾ t ⨾ end)) b = row_said op.GreaterEqual s t b
atom_said (apply op.Greater (s ⨾ t ⨾ end)) b = row_said op.Greater s t b
atom_said (apply op.PrefixOf (text p ⨾ s ⨾ end)) b = part_said s (own.Prefix p) b
atom_said (apply op.SuffixOf (text p ⨾ s ⨾ end)) b = part_said s (own.Suffix p) b
atom_said (apply op.Contains (s ⨾ text p ⨾ end)) b = part_said s (own.Contains p) b
atom_said (apply op.IsDigit (s ⨾ end)) b = part_said s own.Digit b
atom_said _ b = outside

abbrev pub said : Literal → Said
said l = atom_said (seen l.atom) l.positive

abbrev pub is_outside : Said → Bool
is_outside outside = true
is_outside _ = false

-- the first literal of no written kind
abbrev pub first_outside : List Literal → Option Literal
first_outside [] = None
first_outside (l ∷ ls) = if is_outside (said l) then Some l else first_outside ls
