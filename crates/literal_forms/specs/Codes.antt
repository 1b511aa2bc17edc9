-- When two terms are the same: codes of terms, which can be compared.
use Rattle.std.specs.Prelude.{ℕ, ℤ, Bool, true, false, ◌&&◌, List, [], ◌∷◌, nat_eq}
use Rattle.std.specs.Ordering.{int_eq}
use Rattle.std.specs.Cmp.Lexicographic.{pointwise}
use Rattle.sv_terms.specs.declared.op.Op.{Op}
use Rattle.sv_terms.specs.declared.op.Op.TheVariants as op
use Rattle.sv_terms.specs.declared.sort.Sort.{Sort}
use Rattle.sv_terms.specs.declared.sort.Sort.TheVariants as sort
use Rattle.literal_forms.specs.Shapes.{Shape, Shapes, truth, number, text, constant, apply, member, related, opaque, end, ◌⨾◌}

pub data Code : Type 0 where
  signed : ℤ → Code
  word : List ℕ → Code
  pair : Code → Code → Code

abbrev pub same_code : Code → Code → Bool
same_code (signed m) (signed n) = int_eq m n
same_code (word v) (word w) = pointwise nat_eq v w
same_code (pair a b) (pair c d) = same_code a c && same_code b d
same_code _ _ = false

abbrev pub tagged : ℕ → Code → Code
tagged n c = pair (word (n ∷ [])) c

abbrev pub truth_number : Bool → ℕ
truth_number false = 0
truth_number true = 1

abbrev pub sort_number : Sort → ℕ
sort_number sort.Bool = 0
sort_number sort.Int = 1
sort_number sort.String = 2
sort_number sort.RegLan = 3

abbrev pub op_number : Op → ℕ
op_number op.Not = 0
op_number op.And = 1
op_number op.Or = 2
op_number op.Xor = 3
op_number op.Implies = 4
op_number op.Equal = 5
op_number op.Distinct = 6
op_number op.IfThenElse = 7
op_number op.LessEqual = 8
op_number op.Less = 9
op_number op.GreaterEqual = 10
op_number op.Greater = 11
op_number op.Add = 12
op_number op.Subtract = 13
op_number op.Multiply = 14
op_number op.Length = 15
op_number op.Concat = 16
op_number op.Replace = 17
op_number op.ReplaceAll = 18
op_number op.PrefixOf = 19
op_number op.SuffixOf = 20
op_number op.Contains = 21
op_number op.IsDigit = 22

abbrev mutual
  -- the code of a term says its head and the codes of its parts. In terms of sort Int and String no
  -- membership and no transducer stands, so what these ask is left out
  pub code : Shape → Code
  code (truth b) = tagged 0 (word (truth_number b ∷ []))
  code (number n) = tagged 1 (signed n)
  code (text w) = tagged 2 (word w)
  code (constant name s) = tagged 3 (pair (word (sort_number s ∷ [])) (word name))
  code (apply o ss) = tagged 4 (pair (word (op_number o ∷ [])) (codes ss))
  code (member s r) = tagged 5 (code s)
  code (related t s u) = tagged 6 (pair (code s) (code u))
  code (opaque s) = tagged 7 (word (sort_number s ∷ []))

  pub codes : Shapes → Code
  codes end = word []
  codes (s ⨾ ss) = pair (code s) (codes ss)

-- whether two terms of sort Int or String are the same
abbrev pub same : Shape → Shape → Bool
same s t = same_code (code s) (code t)
