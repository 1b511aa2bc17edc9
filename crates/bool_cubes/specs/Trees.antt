-- Assertions as literals joined by and and or.
use Rattle.std.specs.Prelude.{Bool, true, false, not, List, [], ◌∷◌, ◌++◌, map}
use Rattle.sv_terms.specs.declared.op.Op.{Op}
use Rattle.sv_terms.specs.declared.op.Op.TheVariants as op
use Rattle.sv_terms.specs.declared.sort.Sort.{Sort}
use Rattle.sv_terms.specs.declared.sort.Sort.TheVariants as sort
use Rattle.sv_terms.specs.declared.term.Term.{Term}
use Rattle.sv_terms.specs.declared.term.Term.TheVariants as term
use Rattle.literal_forms.specs.Shapes.{Shape, Shapes, truth, apply, end, ◌⨾◌, seen, raw, head_sort}
use Rattle.literal_forms.specs.declared.literal.Literal.{Literal}

-- literals joined by and and or: what always holds, what never does, one literal, both trees, either of two
pub data Tree : Type 0 where
  always : Tree
  never : Tree
  one : Literal → Tree
  both : Tree → Tree → Tree
  either : Tree → Tree → Tree

-- the and and the or of trees in their order
abbrev pub every_of : List Tree → Tree
every_of [] = always
every_of (t ∷ ts) = both t (every_of ts)

abbrev pub any_of : List Tree → Tree
any_of [] = never
any_of (t ∷ ts) = either t (any_of ts)

-- a formula is the tree that it is written as, and at false the tree of its negation
abbrev pub Formula : Type 0
Formula = Bool → Tree

abbrev pub settled : Bool → Tree
settled true = always
settled false = never

abbrev pub fixed : Bool → Formula
fixed b true = settled b
fixed b false = settled (not b)

-- an atom, and its negation as a literal
abbrev pub atom : Term → Formula
atom t b = one (record { atom = t; positive = b })

abbrev pub negated : Formula → Formula
negated f b = f (not b)

abbrev pub trees : Bool → List Formula → List Tree
trees b fs = map (λ (f : Formula). f b) fs

-- the and of formulas, negated the or of the negated ones; and the other way round
abbrev pub conjunction : List Formula → Formula
conjunction fs true = every_of (trees true fs)
conjunction fs false = any_of (trees false fs)

abbrev pub disjunction : List Formula → Formula
disjunction fs true = any_of (trees true fs)
disjunction fs false = every_of (trees false fs)

-- the and, and the or, of two
abbrev pub conjoined : Formula → Formula → Formula
conjoined f g true = both (f true) (g true)
conjoined f g false = either (f false) (g false)

abbrev pub disjoined : Formula → Formula → Formula
disjoined f g true = either (f true) (g true)
disjoined f g false = both (f false) (g false)

-- both or neither, negated the first and not the second, or the second and not the first
abbrev pub agreement : Formula → Formula → Formula
agreement f g true = either (both (f true) (g true)) (both (f false) (g false))
agreement f g false = either (both (f true) (g false)) (both (f false) (g true))

-- (not the first) or the second
abbrev pub implication : Formula → Formula → Formula
implication f g = disjunction (negated f ∷ g ∷ [])

-- (the condition and the first) or (not the condition and the second), negated with both negated
abbrev pub choice : Formula → Formula → Formula → Formula
choice c f g b = either (both (c true) (f b)) (both (c false) (g b))

-- xor is left associative
abbrev pub exclusive_from : Formula → List Formula → Formula
exclusive_from f [] = f
exclusive_from f (g ∷ gs) = exclusive_from (negated (agreement f g)) gs

abbrev pub exclusive : List Formula → Formula
exclusive [] = fixed false
exclusive (f ∷ fs) = exclusive_from f fs

-- => is right associative
abbrev pub implied : List Formula → Formula
implied [] = fixed true
implied (f ∷ []) = f
implied (f ∷ g ∷ gs) = implication f (implied (g ∷ gs))

-- what the relation gives of each neighbouring pair, and of each pair, those of the first one first
abbrev pub neighbours : {X : Type 0} → (X → X → Formula) → List X → List Formula
neighbours R [] = []
neighbours R (x ∷ []) = []
neighbours R (x ∷ y ∷ xs) = R x y ∷ neighbours R (y ∷ xs)

abbrev pub pairs : {X : Type 0} → (X → X → Formula) → List X → List Formula
pairs R [] = []
pairs R (x ∷ xs) = map (R x) xs ++ pairs R xs

-- a function of two terms as an atom
abbrev pub comparison : Op → Term → Term → Formula
comparison o s t = atom (term.Apply o (s ∷ t ∷ []))

-- an equality of whole numbers, negated less or greater
abbrev pub equal_numbers : Term → Term → Formula
equal_numbers s t true = comparison op.Equal s t true
equal_numbers s t false = either (comparison op.Less s t true) (comparison op.Greater s t true)

-- a term, with its sort and what it is as a formula
pub record Part : Type 0 where
  pub of : Sort
  pub raw : Term
  pub formula : Formula

abbrev pub equal_at : Sort → Part → Part → Formula
equal_at sort.Bool p q = agreement p.formula q.formula
equal_at sort.Int p q = equal_numbers p.raw q.raw
equal_at sort.String p q = comparison op.Equal p.raw q.raw
equal_at sort.RegLan p q = comparison op.Equal p.raw q.raw

-- the equality of two terms, by the sort of the first
abbrev pub equal : Part → Part → Formula
equal p q = equal_at p.of p q

abbrev pub chain : Op → List Part → Formula
chain o ps = conjunction (neighbours (λ (p : Part) (q : Part). comparison o p.raw q.raw) ps)

abbrev pub formulas : List Part → List Formula
formulas ps = map (λ (p : Part). p.formula) ps

-- the negation of one argument, and the choice by the first of three; the term itself at another number of arguments
abbrev pub opposite_of : List Part → Term → Formula
opposite_of [] t = atom t
opposite_of (p ∷ []) t = negated p.formula
opposite_of (p ∷ q ∷ ps) t = atom t

abbrev pub choice_of : List Part → Term → Formula
choice_of [] t = atom t
choice_of (p ∷ []) t = atom t
choice_of (p ∷ q ∷ []) t = atom t
choice_of (p ∷ q ∷ r ∷ []) t = choice p.formula q.formula r.formula
choice_of (p ∷ q ∷ r ∷ s ∷ ps) t = atom t

-- a function at these arguments; the term itself where it is an atom
abbrev pub applied : Op → List Part → Term → Formula
applied op.Not ps t = opposite_of ps t
applied op.And ps t = conjunction (formulas ps)
applied op.Or ps t = disjunction (formulas ps)
applied op.Xor ps t = exclusive (formulas ps)
applied op.Implies ps t = implied (formulas ps)
applied op.Equal ps t = conjunction (neighbours equal ps)
applied op.Distinct ps t = conjunction (pairs (λ p q. negated (equal p q)) ps)
applied op.IfThenElse ps t = choice_of ps t
applied op.LessEqual ps t = chain op.LessEqual ps
applied op.Less ps t = chain op.Less ps
applied op.GreaterEqual ps t = chain op.GreaterEqual ps
applied op.Greater ps t = chain op.Greater ps
applied op.Add ps t = atom t
applied op.Subtract ps t = atom t
applied op.Multiply ps t = atom t
applied op.Length ps t = atom t
applied op.Concat ps t = atom t
applied op.Replace ps t = atom t
applied op.ReplaceAll ps t = atom t
applied op.PrefixOf ps t = atom t
applied op.SuffixOf ps t = atom t
applied op.Contains ps t = atom t
applied op.IsDigit ps t = atom t

abbrev mutual
  -- a term as a formula
  pub formula : Shape → Formula
  formula (truth b) = fixed b
  formula (apply o ss) = applied o (parts ss) (raw (apply o ss))
  formula s = atom (raw s)

  pub parts : Shapes → List Part
  parts end = []
  parts (s ⨾ ss) = record { of = head_sort s; raw = raw s; formula = formula s } ∷ parts ss

-- the assertions, joined by and
abbrev pub tree_of : List Term → Tree
tree_of ts = every_of (map (λ t. formula (seen t) true) ts)
