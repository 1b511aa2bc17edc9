-- The flat cube of a cube.
use Rattle.std.specs.Prelude.{◌≡◌, ℕ, zero, suc, not, ◌<◌, ℤ, pos, Bool, true, List, [], ◌∷◌, ◌++◌, map, length, filter, get_or, slice_get, min, max, nat_eq, nat_lt, Option, Some, None, Result, Ok, Err, if◌then◌else◌, Any, Contains, count_by, ⊤, ◌⊎◌}
use Rattle.std.specs.Ordering.{int_eq}
use Rattle.std.specs.List.{AllZip, AllByRecursion, list_all, list_any, range_with_len}
use Rattle.sv_linear.specs.Terms.{coefficient}
use Rattle.sv_linear.specs.declared.row.Row.{Row}
use Rattle.sv_linear.specs.declared.row.RowKind.{RowKind}
use Rattle.sv_linear.specs.declared.row.RowKind.TheVariants.{Le, Eq}
use Rattle.sv_terms.specs.declared.op.Op.{Op}
use Rattle.sv_terms.specs.declared.op.Op.TheVariants as op
use Rattle.sv_terms.specs.declared.sort.Sort.{Sort}
use Rattle.literal_forms.specs.Shapes.{Shape, Shapes, constant, apply, member, related, end, ◌⨾◌, seen}
use Rattle.literal_forms.specs.Linear.{Linear, Unknown, integer, length_of, linear, less, scaled, added, minus_one, of_number}
use Rattle.literal_forms.specs.Linear as form
use Rattle.literal_forms.specs.declared.literal.Literal.{Literal}
use Rattle.flat_cubes.specs.Using.{used, is_defined}
use Rattle.flat_cubes.specs.Met.{Comparison, DraftView, met}
use Rattle.flat_cubes.specs.Said.{first_outside}
use Rattle.flat_cubes.specs.Straight.{AreNamesApart, IsStraight}
use Rattle.flat_cubes.specs.declared.variable.Own.{Own}
use Rattle.flat_cubes.specs.declared.variable.Variable.{Variable}
use Rattle.flat_cubes.specs.declared.definition.By.{By}
use Rattle.flat_cubes.specs.declared.definition.By.TheVariants as by
use Rattle.flat_cubes.specs.declared.definition.Definition.{Definition}
use Rattle.flat_cubes.specs.declared.flat.Flat.{Flat}
use Rattle.flat_cubes.specs.declared.fault.FlatFault.{FlatFault}
use Rattle.flat_cubes.specs.declared.fault.FlatFault.TheVariants.{Outside, Twice, Cycle, Wide, Memory}

-- Identifications. Each place has the least place that is one with it: of two that are made one the lesser stands for all that either stood for.
abbrev pub made_one : ℕ → ℕ → List ℕ → List ℕ
made_one a b firsts = map (λ r. if nat_eq r (max a b) then min a b else r) firsts

abbrev pub identified : List (ℕ × ℕ) → List ℕ → List ℕ
identified [] firsts = firsts
identified ((i, j) ∷ es) firsts = identified es (made_one (get_or firsts i i) (get_or firsts j j) firsts)

-- the least place that is one with each place
abbrev pub firsts_of : DraftView → List ℕ
firsts_of d = identified d.equalities (range_with_len 0 (length d.terms))

-- the places that are the least among those that are one with them: one for each variable, in order
abbrev pub roots_of : DraftView → List ℕ
roots_of d = filter (λ i. nat_eq (get_or (firsts_of d) i i) i) (range_with_len 0 (length d.terms))

-- the variable of a place: the number of those that came before
abbrev pub variable_of : DraftView → ℕ → ℕ
variable_of d i = length (filter (λ r. nat_lt r (get_or (firsts_of d) i i)) (roots_of d))

-- the name of a constant
abbrev pub name_of : Shape → Option (List ℕ)
name_of (constant name s) = Some name
name_of _ = None

abbrev pub with_name : Bool → Option (List ℕ) → List (List ℕ) → List (List ℕ)
with_name true (Some n) ns = n ∷ ns
with_name b o ns = ns

-- the names of the constants whose least place is r
abbrev pub names_at : List Shape → List ℕ → ℕ → List (List ℕ)
names_at [] firsts r = []
names_at (s ∷ ss) [] r = []
names_at (s ∷ ss) (f ∷ fs) r = with_name (nat_eq f r) (name_of s) (names_at ss fs r)

-- the variable whose least place is r
abbrev pub variable_at : DraftView → ℕ → Variable
variable_at d r = record { names = names_at d.terms (firsts_of d) r; parts = map (λ (p : ℕ × (Own × Bool)). p.1) (filter (λ (p : ℕ × (Own × Bool)). nat_eq (get_or (firsts_of d) p.0 p.0) r) d.parts) }

abbrev pub variables_of : DraftView → List Variable
variables_of d = map (variable_at d) (roots_of d)

-- definitions of places as definitions of variables
abbrev pub renamed : (ℕ → ℕ) → By → By
renamed f (by.Concat vs) = by.Concat (map f vs)
renamed f (by.First p u v) = by.First p u (f v)
renamed f (by.All p u v) = by.All p u (f v)
renamed f (by.Through t v) = by.Through t (f v)

abbrev pub definition_of : DraftView → ℕ × By → Definition
definition_of d (i, b) = record { variable = variable_of d i; by = renamed (variable_of d) b }

abbrev pub definitions_of : DraftView → List Definition
definitions_of d = map (definition_of d) d.definitions

-- whether none of the definitions defines a variable that this one uses
abbrev pub is_free : List Definition → Definition → Bool
is_free ds d = list_all (λ v. not (is_defined ds v)) (used d.by)

abbrev pub TakenDefinition : Type 0
TakenDefinition = Option (Definition × List Definition)

abbrev pub behind : Definition → TakenDefinition → TakenDefinition
behind d None = None
behind d (Some (e, es)) = Some (e, d ∷ es)

-- the first of the definitions that is free among all that are left, and the others
abbrev pub take_free : List Definition → List Definition → TakenDefinition
take_free left [] = None
take_free left (d ∷ ds) = if is_free left d then Some (d, ds) else behind d (take_free left ds)

-- the definitions in an order in which each stands before those that use its variable: the first that is free comes next
abbrev pub taken : ℕ → List Definition → List Definition
taken zero ds = []
taken (suc n) ds = elim (take_free ds ds) [ None ↦ [] | Some r ↦ r.0 ∷ taken n r.1 ]

abbrev pub ordered : List Definition → List Definition
ordered ds = taken (length ds) ds

-- a form that is to be at most 0, or 0
abbrev pub Bounded : Type 0
Bounded = RowKind × Linear

abbrev pub plus_one : Linear → Linear
plus_one a = added a (of_number (pos 1))

-- the row of a comparison, by the difference of its sides; of any other function one that no numbers meet
abbrev pub compared : Op → Linear → Bounded
compared op.Equal d = (Eq, d)
compared op.LessEqual d = (Le, d)
compared op.Less d = (Le, plus_one d)
compared op.GreaterEqual d = (Le, scaled d minus_one)
compared op.Greater d = (Le, plus_one (scaled d minus_one))
compared _ d = (Le, of_number (pos 1))

-- the comparison that holds where this one doesn't
abbrev pub opposite : Op → Op
opposite op.Equal = op.Distinct
opposite op.LessEqual = op.Greater
opposite op.Less = op.GreaterEqual
opposite op.GreaterEqual = op.Less
opposite op.Greater = op.LessEqual
opposite o = o

abbrev pub bounded_of : Comparison → Bounded
bounded_of c = compared (if c.positive then c.op else opposite c.op) (less (linear c.left) (linear c.right))

-- the forms of all comparisons, which are to be at most 0, or 0
abbrev pub all_bounded : DraftView → List Bounded
all_bounded d = map bounded_of d.comparisons

-- whether an unknown has a column that isn't 0 in one of the forms
abbrev pub has_column : List Bounded → Unknown → Bool
has_column bs u = list_any (λ (b : Bounded). not (int_eq (form.multiple_of u b.1.terms) (pos 0))) bs

-- the integer constants and the terms with a register are those with a column that isn't 0, in the order in which they were met
abbrev pub integers_of : DraftView → List (List ℕ)
integers_of d = filter (λ (name : List ℕ). has_column (all_bounded d) (integer name)) d.integers

abbrev pub registers_of : DraftView → List (Shape × ℕ)
registers_of d = filter (λ (r : Shape × ℕ). has_column (all_bounded d) (length_of r.0)) d.registers

-- the unknowns of the rows, by their numbers
abbrev pub unknowns_of : DraftView → List Unknown
unknowns_of d = map integer (integers_of d) ++ map (λ (r : Shape × ℕ). length_of r.0) (registers_of d)

-- what a form has at an unknown, 0 at a number that none has
abbrev pub coefficient_at : Linear → Option Unknown → ℤ
coefficient_at a None = pos 0
coefficient_at a (Some u) = form.multiple_of u a.terms

-- a row has this form over the unknowns by their numbers
pub record IsRowFor (unknowns : List Unknown) (b : Bounded) (r : Row) : Type 0 where
  pub kind : r.kind ≡ b.0
  pub constant : r.form.constant ≡ b.1.constant
  pub coefficients : (u : ℕ) → coefficient u r.form.coefficients ≡ coefficient_at b.1 (slice_get unknowns u)

-- the flat cube of what was met; no definition is lost, as it would be on a cycle
pub record IsFlatOf (d : DraftView) (flat : Flat) : Type 0 where
  pub variables : flat.variables ≡ variables_of d
  pub definitions : flat.definitions ≡ ordered (definitions_of d)
  pub complete : length flat.definitions ≡ length (definitions_of d)
  pub rows : AllZip (IsRowFor (unknowns_of d)) (all_bounded d) flat.rows
  pub registers : flat.registers ≡ map (λ (r : Shape × ℕ). variable_of d r.1) (registers_of d)
  pub integers : flat.integers ≡ integers_of d
  pub truths : flat.truths ≡ d.truths
  pub broken : flat.broken ≡ d.broken

-- a variable has two definitions
abbrev pub IsTwice : List Definition → ℕ → Type 0
IsTwice ds v = 1 < count_by (λ (e : Definition). nat_eq e.variable v) ds

-- a definition of v uses w
abbrev pub Uses : List Definition → ℕ → ℕ → Type 0
Uses ds v w = Any (λ (e : Definition). (e.variable ≡ v) × Contains (used e.by) w) ds

-- each variable's definition uses the next variable, and the last one's the first
abbrev pub UsesInTurn : List Definition → ℕ → List ℕ → ℕ → Type 0
UsesInTurn ds v [] first = Uses ds v first
UsesInTurn ds v (w ∷ ws) first = Uses ds v w × UsesInTurn ds w ws first

abbrev pub IsCycle : List Definition → List ℕ → Type 0
IsCycle ds [] = ⊥
IsCycle ds (v ∷ vs) = UsesInTurn ds v vs v

abbrev pub most_registers : ℕ
most_registers = 64

abbrev pub NoneTwice : List Definition → Type 0
NoneTwice ds = (v : ℕ) → IsTwice ds v → ⊥

abbrev pub NoCycle : List Definition → Type 0
NoCycle ds = (vs : List ℕ) → IsCycle ds vs → ⊥

-- the number of registers, or of integer constants, and it is above 64
abbrev pub IsWide : DraftView → ℕ → Type 0
IsWide d n = ((n ≡ length (registers_of d)) ⊎ (n ≡ length (integers_of d))) × (most_registers < n)

-- each constant of the literals has the sort that `sorts` gives its name
abbrev mutual
  pub IsSortedBy : (List ℕ → Sort) → Shape → Type 0
  IsSortedBy sorts (constant name s) = sorts name ≡ s
  IsSortedBy sorts (apply o ss) = AreSortedBy sorts ss
  IsSortedBy sorts (member s r) = IsSortedBy sorts s
  IsSortedBy sorts (related t s u) = IsSortedBy sorts s × IsSortedBy sorts u
  IsSortedBy sorts _ = ⊤

  pub AreSortedBy : (List ℕ → Sort) → Shapes → Type 0
  AreSortedBy sorts end = ⊤
  AreSortedBy sorts (s ⨾ ss) = IsSortedBy sorts s × AreSortedBy sorts ss

abbrev pub HaveOneSort : List Literal → Type 0
HaveOneSort ls = (sorts : List ℕ → Sort) × AllByRecursion (λ (l : Literal). IsSortedBy sorts (seen l.atom)) ls

-- the cube is straight, and this is its flattening: no literal is of no written kind, the flat cube is that of
-- what its literals say, and it is as that of a straight cube
pub record IsFlattening (ls : List Literal) (flat : Flat) : Type 0 where
  pub inside : first_outside ls ≡ None
  pub of : IsFlatOf (met ls) flat
  pub straight : IsStraight flat

pub record IsStraightCube (ls : List Literal) : Type 0 where
  pub flat : Flat
  pub flattening : IsFlattening ls flat

-- the flattening, or the first thing in this order for which the cube isn't straight: a literal of no
-- written kind (the first such), a variable with two definitions, a cycle, too many registers or integer constants
abbrev pub IsFlattened : List Literal → Result Flat FlatFault → Type 0
IsFlattened ls (Ok flat) = IsFlattening ls flat × (HaveOneSort ls → AreNamesApart flat)
IsFlattened ls (Err (Outside l)) = first_outside ls ≡ Some l
IsFlattened ls (Err (Twice v)) = (first_outside ls ≡ None) × IsTwice (definitions_of (met ls)) v
IsFlattened ls (Err (Cycle vs)) = (first_outside ls ≡ None) × NoneTwice (definitions_of (met ls)) × IsCycle (definitions_of (met ls)) vs
IsFlattened ls (Err (Wide n)) = (first_outside ls ≡ None) × NoneTwice (definitions_of (met ls)) × NoCycle (definitions_of (met ls)) × IsWide (met ls) n
IsFlattened ls (Err (Memory e)) = ⊤

-- the same of what was met alone: its flat cube, or the first thing for which that isn't as of a straight cube
abbrev pub IsFinished : DraftView → Result Flat FlatFault → Type 0
IsFinished d (Ok flat) = IsFlatOf d flat × IsStraight flat
IsFinished d (Err (Outside l)) = ⊥
IsFinished d (Err (Twice v)) = IsTwice (definitions_of d) v
IsFinished d (Err (Cycle vs)) = NoneTwice (definitions_of d) × IsCycle (definitions_of d) vs
IsFinished d (Err (Wide n)) = NoneTwice (definitions_of d) × NoCycle (definitions_of d) × IsWide d n
IsFinished d (Err (Memory e)) = ⊤
