-- The bounds of registers and integer constants that stand in the rows of a flat cube, and the box that they make.
use Rattle.std.specs.Prelude.{◌≡◌, ℕ, ◌+◌, ◌*◌, ◌≤◌, max, ℤ, pos, neg_ℤ, ◌-ℤ◌, ◌≤ℤ◌, int_lt, unsigned_abs, List, [], ◌∷◌, ◌++◌, map, length, get_or, Option, Some, None, nat_eq, if◌then◌else◌}
use Rattle.std.specs.Int.{int_min, int_max, int_div_euclid}
use Rattle.std.specs.List.{AllByRecursion, range_with_len}
use Rattle.std.specs.Option.{option_map}
use Rattle.sv_linear.specs.Rows.{RowFits}
use Rattle.sv_linear.specs.declared.row.Row.{Row}
use Rattle.sv_linear.specs.declared.row.RowKind.{RowKind}
use Rattle.sv_linear.specs.declared.row.RowKind.TheVariants.{Le, Eq}
use Rattle.cube_bounds.specs.Bounds.{states, sources}
use Rattle.cube_bounds.specs.Growth.{reach}
use Rattle.cube_bounds.specs.declared.bounding.ValueRange.{ValueRange}
use Rattle.cube_bounds.specs.declared.work.TheConstants.{MOST_WORK}
use Rattle.flat_cubes.specs.declared.flat.Flat.{Flat}
use Rattle.sv_terms.specs.declared.limits.TheConstants.{MOST_POINTS}

-- z over a number above 0, rounded down and up
abbrev pub rounded_down : ℤ → ℤ → ℤ
rounded_down z d = int_div_euclid z d

abbrev pub rounded_up : ℤ → ℤ → ℤ
rounded_up z d = neg_ℤ (int_div_euclid (neg_ℤ z) d)

-- the greatest and the least value of an unknown that a row allows, where it is the row's only one:
-- a times it and c are at most 0, or are 0
abbrev pub upper_by : RowKind → ℤ → ℤ → Option ℤ
upper_by Le a c = if int_lt (pos 0) a then Some (rounded_down (neg_ℤ c) a) else None
upper_by Eq a c = if int_lt (pos 0) a then Some (rounded_down (neg_ℤ c) a) else Some (rounded_down c (neg_ℤ a))

abbrev pub lower_by : RowKind → ℤ → ℤ → Option ℤ
lower_by Le a c = if int_lt (pos 0) a then None else Some (rounded_up c (neg_ℤ a))
lower_by Eq a c = if int_lt (pos 0) a then Some (rounded_up (neg_ℤ c) a) else Some (rounded_up c (neg_ℤ a))

abbrev pub upper_of : ℕ → RowKind → List (ℕ × ℤ) → ℤ → Option ℤ
upper_of u k ((v, a) ∷ []) c = if nat_eq u v then upper_by k a c else None
upper_of u k _ c = None

abbrev pub lower_of : ℕ → RowKind → List (ℕ × ℤ) → ℤ → Option ℤ
lower_of u k ((v, a) ∷ []) c = if nat_eq u v then lower_by k a c else None
lower_of u k _ c = None

-- of two bounds, each of which may be absent
abbrev pub of_both : (ℤ → ℤ → ℤ) → Option ℤ → Option ℤ → Option ℤ
of_both f None n = n
of_both f (Some m) None = Some m
of_both f (Some m) (Some n) = Some (f m n)

-- the least upper bound and the greatest lower bound of an unknown that stand in the rows
abbrev pub upper : ℕ → List Row → Option ℤ
upper u [] = None
upper u (r ∷ rs) = of_both int_min (upper_of u r.kind r.form.coefficients r.form.constant) (upper u rs)

abbrev pub lower : ℕ → List Row → Option ℤ
lower u [] = None
lower u (r ∷ rs) = of_both int_max (lower_of u r.kind r.form.coefficients r.form.constant) (lower u rs)

-- both bounds of an unknown, and those of the first n unknowns
abbrev pub span_in : List Row → ℕ → ValueRange
span_in rs u = record { least = lower u rs; most = upper u rs }

abbrev pub spans_in : List Row → ℕ → List ValueRange
spans_in rs n = map (span_in rs) (range_with_len 0 n)

-- with one row more, whose only unknown it is
abbrev pub span_by : RowKind → ℤ → ℤ → ValueRange → ValueRange
span_by k a c s = record { least = of_both int_max (lower_by k a c) s.least; most = of_both int_min (upper_by k a c) s.most }

abbrev pub Side : Type 0
Side = Option (ℤ × ℤ)

-- of a register, whose length isn't below 0
abbrev pub register_side : ValueRange → Side
register_side s = option_map (λ z. (pos 0, z)) s.most

abbrev pub both_sides : Option ℤ → Option ℤ → Side
both_sides (Some l) (Some u) = Some (l, u)
both_sides _ _ = None

abbrev pub integer_side : ValueRange → Side
integer_side s = both_sides s.least s.most

-- the unknowns of the rows are the integer constants, then the registers
abbrev pub integer_sides : Flat → List Side
integer_sides flat = map (λ u. integer_side (span_in flat.rows u)) (range_with_len 0 (length flat.integers))

abbrev pub register_sides : Flat → List Side
register_sides flat = map (λ u. register_side (span_in flat.rows u)) (range_with_len (length flat.integers) (length flat.registers))

-- the bounds of each register, then of each integer constant
abbrev pub sides : Flat → List Side
sides flat = register_sides flat ++ integer_sides flat

-- the number of values from one bound to the other; at least 1
abbrev pub values_between : ℤ × ℤ → ℕ
values_between (l, u) = if int_lt u l then 1 else unsigned_abs (u -ℤ l) + 1

abbrev pub times : Side → Option ℕ → Option ℕ
times (Some s) (Some n) = Some (values_between s * n)
times _ _ = None

-- the number of points of the box, where each quantity has a side
abbrev pub points_of : List Side → Option ℕ
points_of [] = Some 1
points_of (s ∷ ss) = times s (points_of ss)

abbrev pub points : Flat → Option ℕ
points flat = points_of (sides flat)

-- the greatest amount of a value from one bound to the other, 0 where there is none
abbrev pub amount : ℤ × ℤ → ℕ
amount (l, u) = if int_lt u l then 0 else max (unsigned_abs l) (unsigned_abs u)

abbrev pub side_amount : Side → ℕ
side_amount None = 0
side_amount (Some s) = amount s

-- the greatest amount of a value that an unknown of the rows has in the box
abbrev pub amount_among : List Side → ℕ → ℕ
amount_among ss u = side_amount (get_or ss u None)

abbrev pub amount_of : Flat → ℕ → ℕ
amount_of flat u = amount_among (integer_sides flat ++ register_sides flat) u

-- a region of so many points may be searched: the states times the points times the sources are at most
-- MOST_WORK, and at most reach
pub record CanSearch (flat : Flat) (n : ℕ) : Type 0 where
  pub work : states flat * n * sources flat ≤ MOST_WORK
  pub reached : pos (states flat * n * sources flat) ≤ℤ reach flat

-- the box is small: it has at most MOST_POINTS points, it may be searched, and every row fits it
pub record IsSmall (flat : Flat) : Type 0 where
  pub count : ℕ
  pub are : points flat ≡ Some count
  pub few : count ≤ MOST_POINTS
  pub can : CanSearch flat count
  pub rows : AllByRecursion (RowFits (amount_of flat)) flat.rows
