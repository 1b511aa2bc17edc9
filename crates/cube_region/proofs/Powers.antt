-- Powers that are cut off, and the greatest number whose power is within MOST_POINTS.
use Rattle.std.proofs.Common.{◌≡◌, refl, subst, ℕ, suc, zero, ◌+◌, ◌^◌, ◌<◌, ◌≤◌, arith}
use Rattle.std.proofs.Math.Nat.{pow-le-pow_right, pow-suc}
use Rattle.cube_region.specs.Regions.{IsNearSide}
use Rattle.sv_terms.specs.declared.limits.TheConstants.{MOST_POINTS}

pub last-side : (count s : ℕ) → s ≡ MOST_POINTS → 0 < count → s ^ count ≤ MOST_POINTS → IsNearSide count MOST_POINTS
last-side count s e h k =
    let w : MOST_POINTS ^ count ≤ MOST_POINTS = subst (λ (x : ℕ). x ^ count ≤ MOST_POINTS) e k in
    let one : (MOST_POINTS + 1) ^ 1 ≤ (MOST_POINTS + 1) ^ count = pow-le-pow_right {n = MOST_POINTS + 1} (omega arith) {i = 1} {j = count} h in
    record { within = w; greatest = omega arith }

pub ones : (n : ℕ) → 1 ^ n ≤ MOST_POINTS
ones n = let e = one-pow n in omega arith
  where
    one-pow : (n : ℕ) → 1 ^ n ≡ 1
    one-pow zero = refl
    one-pow (suc n) = let e = pow-suc 1 n in let h = one-pow n in omega arith
