-- What a flat cube has from the literals of its cube.
use Rattle.std.specs.Prelude.{◌≡◌, ℕ, Bool, List, map}
use Rattle.std.specs.List.{AllByRecursion}
use Rattle.sv_terms.specs.declared.sort.Sort.{Sort}
use Rattle.sv_terms.specs.declared.sort.Sort.TheVariants as sort
use Rattle.literal_forms.specs.Shapes.{seen}
use Rattle.literal_forms.specs.declared.literal.Literal.{Literal}
use Rattle.flat_cubes.specs.Flattening.{HaveOneSort, IsFlattening, IsSortedBy}
use Rattle.straight_line.specs.Laws.{IsSpelled}
use Rattle.flat_cubes.specs.Straight.{AreNamesApart, HasFormed, string_names}
use Rattle.flat_cubes.specs.declared.flat.Flat.{Flat}

-- the transducers of a flat cube are formed where those of its cube's literals are
abbrev pub TransducersAreFormed : Type 0
TransducersAreFormed = (ls : List Literal) (flat : Flat) → AllByRecursion (λ (l : Literal). IsSpelled (seen l.atom)) ls → IsFlattening ls flat → HasFormed flat

-- no name stands twice where each name has one sort
abbrev pub NamesAreApart : Type 0
NamesAreApart = (ls : List Literal) (flat : Flat) → HaveOneSort ls → IsFlattening ls flat → AreNamesApart flat

-- the names of a flat cube's variables have the sort String, its integer constants Int and its Bool constants Bool
pub record AreNamesSorted (sorts : List ℕ → Sort) (flat : Flat) : Type 0 where
  pub strings : AllByRecursion (λ n. sorts n ≡ sort.String) (string_names flat.variables)
  pub integers : AllByRecursion (λ n. sorts n ≡ sort.Int) flat.integers
  pub truths : AllByRecursion (λ n. sorts n ≡ sort.Bool) (map (λ (t : List ℕ × Bool). t.0) flat.truths)

-- they do where each constant of the cube's literals has the sort of its name
abbrev pub NamesAreSorted : Type 0
NamesAreSorted = (sorts : List ℕ → Sort) (ls : List Literal) (flat : Flat) → AllByRecursion (λ (l : Literal). IsSortedBy sorts (seen l.atom)) ls → IsFlattening ls flat → AreNamesSorted sorts flat
