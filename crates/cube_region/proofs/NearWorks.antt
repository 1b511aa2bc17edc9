-- Whether the near values are searched, by the work that it is.
use Rattle.std.proofs.Common.{◌≡◌, sym, subst, Bool, false, IsTrue, pos, ◌≤ℤ◌, ℕ, ◌*◌, ◌^◌, ◌≤◌, ℤ, arith}
use Rattle.std.specs.Prelude.{◌↔◌}
use Rattle.std.specs.List.{AllByRecursion}
use Rattle.sv_linear.specs.Rows.{RowFits}
use Rattle.sv_terms.specs.CutOff.{cut_off}
use Rattle.cube_bounds.specs.Bounds.{sources, states}
use Rattle.cube_bounds.specs.Growth.{reach}
use Rattle.flat_cubes.specs.declared.flat.Flat.{Flat}
use Rattle.cube_region.specs.Regions.{IsNearOwed, near_amount, quantities}
use Rattle.cube_bounds.specs.declared.work.TheConstants.{MOST_WORK}

module _ (flat : Flat) (s w : ℕ) (r : ℤ) (is : w ≡ cut_off (states flat * s ^ quantities flat * sources flat)) (same : r ≡ reach flat) where
  abbrev Little : Type 0
  Little = (w ≤ MOST_WORK) × (pos w ≤ℤ r)

  pub owed-by : (b : Bool) → Little → (IsTrue b ↔ AllByRecursion (RowFits (near_amount flat s)) flat.rows) → (IsTrue b → IsNearOwed flat s) × (IsNearOwed flat s → IsTrue b)
  owed-by b l f =
      let e : w ≡ states flat * s ^ quantities flat * sources flat = omega (arith, is, l.0) in (
        (λ t. record { few = omega (arith, e, l.0); within = subst (λ x. pos x ≤ℤ reach flat) e (subst (λ x. pos w ≤ℤ x) same l.1); fits = f.0 t }),
        (λ h. f.1 h.fits),
      )

  little : IsNearOwed flat s → Little
  little h =
      let few = h.few in
      let e : w ≡ states flat * s ^ quantities flat * sources flat = omega (arith, is, few) in
      (omega (arith, e, few), subst (λ x. pos w ≤ℤ x) (sym same) (subst (λ x. pos x ≤ℤ reach flat) (sym e) h.within))

  pub owed-not : (b : Bool) → b ≡ false → (IsTrue b ↔ Little) → (IsTrue b → IsNearOwed flat s) × (IsNearOwed flat s → IsTrue b)
  owed-not b n f = ((λ t. absurd (cc)), (λ h. f.1 (little h)))
