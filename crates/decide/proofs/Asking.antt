-- The literals that cubes share may be asked, as each cube may.
use Rattle.std.proofs.Common.{◌≡◌, ℕ, ◌/◌, ◌<◌, List, drop, Option, Some, IfSome, slice_get, subst, IsTrue}
use Rattle.std.specs.List.{AllByRecursion}
use Rattle.sv_terms.specs.Sorting.{is_valued}
use Rattle.sv_terms.specs.declared.term.Term.{Term}
use Rattle.bool_cubes.specs.Cubes.{cubes_of}
use Rattle.bool_cubes.specs.Laws.{CubesAreCounted}
use Rattle.bool_cubes.specs.Picking.{CubesArePicked}
use Rattle.bool_cubes.specs.Refusing.{count_of}
use Rattle.literal_forms.specs.Past.{IsFitting}
use Rattle.literal_forms.specs.Shapes.{seen}
use Rattle.literal_forms.specs.declared.literal.Cube.{Cube}
use Rattle.literal_forms.specs.declared.literal.Literal.{Literal}
use Rattle.straight_line.specs.Laws.{IsSpelled}
use Rattle.decide.specs.Passing.{shared_of}
use Rattle.decide.proofs.Sharing.{all-at, of-block, shared-at, some-of-block}
use Rattle.decide.specs.Jobs.{IsAskedCube}

module _ (counted : CubesAreCounted) (picked : CubesArePicked) where
  asked-shared : (ts : List Term) (first given : ℕ) (f : Cube) (is : slice_get (cubes_of (shared_of first ts)) (given / count_of (drop first ts)) ≡ Some f) (terms : List Term)
      → 0 < count_of (drop first ts) → AllByRecursion (IsAskedCube terms) (cubes_of ts) → IsAskedCube terms f
  asked-shared ts first given f is terms pos asked =
      let c = some-of-block counted picked ts first given f is pos in
      let own = all-at (IsAskedCube terms) (cubes_of ts) asked c.0 c.1 c.2 in record {
        fits = of-block counted picked ts first given f is IsFitting c.0 c.1 c.2 c.3 own.fits;
        spelled = of-block counted picked ts first given f is (λ (l : Literal). IsSpelled (seen l.atom)) c.0 c.1 c.2 c.3 own.spelled;
        valued = λ values v. of-block counted picked ts first given f is (λ (l : Literal). IsTrue (is_valued values l.atom)) c.0 c.1 c.2 c.3 (own.valued values v);
        one_sort = own.one_sort;
      }

  -- the same, where the number of cubes of the block and the cube that is shared come as they were found
  module _ (ts : List Term) (first given block : ℕ) (f : Cube) (o : Option Cube) (pos : 0 < block) (size : block ≡ count_of (drop first ts)) (is : o ≡ Some f)
      (at : IfSome o (λ (c : Cube). slice_get (cubes_of (shared_of first ts)) (given / block) ≡ Some c)) where
    pub asked-block : (terms : List Term) → AllByRecursion (IsAskedCube terms) (cubes_of ts) → IsAskedCube terms f
    asked-block terms asked = asked-shared ts first given f (shared-at counted picked ts first given block f o pos size is at) terms (subst (λ k. 0 < k) size pos) asked
