-- Terms as the definitions take them apart. The two types mirror `Term`, so that a definition may go by cases on what stands in a term.
use Rattle.std.specs.Prelude.{ℕ, ℤ, Bool, List, [], ◌∷◌}
use Rattle.sv_terms.specs.Language.{Word}
use Rattle.sv_terms.specs.declared.op.Op.{Op}
use Rattle.sv_terms.specs.Sorting.{op_sort}
use Rattle.sv_terms.specs.declared.regex.Regex.{Regex}
use Rattle.sv_terms.specs.declared.sort.Sort.{Sort}
use Rattle.sv_terms.specs.declared.sort.Sort.TheVariants as sort
use Rattle.sv_terms.specs.declared.transducer.Transducer.{Transducer}
use Rattle.sv_terms.specs.declared.term.Term.{Term}
use Rattle.sv_terms.specs.declared.term.Term.TheOpen.{Term-F}
use Rattle.sv_terms.specs.declared.term.Term.TheFolds.{fold-Term}
use Rattle.sv_terms.specs.declared.term.Term.TheVariants as term

infixr 5 ◌⨾◌
mutual
  pub data Shape : Type 0 where
    truth : Bool → Shape
    number : ℤ → Shape
    text : Word → Shape
    constant : List ℕ → Sort → Shape
    apply : Op → Shapes → Shape
    member : Shape → Regex → Shape
    related : Transducer → Shape → Shape → Shape
    opaque : Sort → Shape

  pub data Shapes : Type 0 where
    end : Shapes
    ◌⨾◌ : Shape → Shapes → Shapes

abbrev pub shapes : List Shape → Shapes
shapes [] = end
shapes (s ∷ ss) = s ⨾ shapes ss

abbrev pub shape_layer : Term-F Shape → Shape
shape_layer (Term-F.Truth b) = truth b
shape_layer (Term-F.Number n) = number n
shape_layer (Term-F.Text w) = text w
shape_layer (Term-F.Constant name s) = constant name s
shape_layer (Term-F.Apply o ss) = apply o (shapes ss)
shape_layer (Term-F.InRe s r) = member s r
shape_layer (Term-F.Related t s u) = related t s u
shape_layer (Term-F.Opaque s) = opaque s

-- a term as a shape
abbrev pub seen : Term → Shape
seen = fold-Term Shape shape_layer

abbrev mutual
  -- the term that a shape mirrors
  pub raw : Shape → Term
  raw (truth b) = term.Truth b
  raw (number n) = term.Number n
  raw (text w) = term.Text w
  raw (constant name s) = term.Constant name s
  raw (apply o ss) = term.Apply o (raws ss)
  raw (member s r) = term.InRe (raw s) r
  raw (related t s u) = term.Related t (raw s) (raw u)
  raw (opaque s) = term.Opaque s

  pub raws : Shapes → List Term
  raws end = []
  raws (s ⨾ ss) = raw s ∷ raws ss

-- the sort of a term whose functions stand at arguments of their ranks
abbrev pub head_sort : Shape → Sort
head_sort (truth b) = sort.Bool
head_sort (number n) = sort.Int
head_sort (text w) = sort.String
head_sort (constant name s) = s
head_sort (apply o ss) = op_sort o
head_sort (member s r) = sort.Bool
head_sort (related t s u) = sort.Bool
head_sort (opaque s) = s
