-- Definitions while they are put in order: those that are left, and what each of them waits for.
use Rattle.std.specs.Prelude.{◌≡◌, ℕ, zero, suc, ◌+◌, ◌<◌, ◌≤◌, ◌⊎◌, Bool, true, false, List, [], ◌∷◌, ◌++◌, length, get_or, slice_get, Option, Some, None, ⊤}
use Rattle.std.specs.List.{list_any}
use Rattle.std.specs.Ordering.{is_eq, nat_cmp}
use Rattle.flat_cubes.specs.Using.{used}
use Rattle.flat_cubes.specs.Flattening.{ordered, taken}
use Rattle.flat_cubes.specs.declared.definition.Definition.{Definition}
use Rattle.straight_line.specs.declared.ordering.Waiter.{Waiter}
use Rattle.flat_cubes.specs.Members.{Among}

-- no variable has two definitions
abbrev pub HaveOnce : List Definition → Type 0
HaveOnce ds = (k j : ℕ) (d e : Definition) → slice_get ds k ≡ Some d → slice_get ds j ≡ Some e → d.variable ≡ e.variable → k ≡ j

abbrev pub with_one : Option Definition → List Definition → List Definition
with_one None es = es
with_one (Some e) es = e ∷ es

-- the definitions at these places
abbrev pub picked : List Definition → List ℕ → List Definition
picked ds [] = []
picked ds (k ∷ ks) = with_one (slice_get ds k) (picked ds ks)

-- each is at least low and greater than those before it
abbrev pub AscendsFrom : ℕ → List ℕ → Type 0
AscendsFrom low [] = ⊤
AscendsFrom low (k ∷ ks) = (low ≤ k) × AscendsFrom (k + 1) ks

-- no place stands twice
abbrev pub AreDistinct : List ℕ → Type 0
AreDistinct [] = ⊤
AreDistinct (k ∷ ks) = (Among k ks → ⊥) × AreDistinct ks

-- a definition of the variable is still ahead
abbrev pub IsAhead : List Bool → ℕ → Type 0
IsAhead ahead v = get_or ahead v false ≡ true

abbrev pub Has : List ℕ → ℕ → Type 0
Has free k = list_any (λ j. is_eq (nat_cmp k j)) free ≡ true

-- no variable before the waiter's place among those that its definition uses is ahead
pub record NoneAheadBefore (ds : List Definition) (ahead : List Bool) (w : Waiter) : Type 0 where
  pub definition : Definition
  pub is : slice_get ds w.definition ≡ Some definition
  pub within : w.from ≤ length (used definition.by)
  pub before : (i : ℕ) → i < w.from → IsAhead ahead (get_or (used definition.by) i 0) → ⊥

-- the definition uses the variable
abbrev pub Awaits : List Definition → Waiter → ℕ → Type 0
Awaits ds w v = (d : Definition) → slice_get ds w.definition ≡ Some d → (w.from < length (used d.by)) × (get_or (used d.by) w.from 0 ≡ v)

-- a definition that waits for a variable that is ahead
abbrev pub IsWaited : List Bool → List (List Waiter) → ℕ → Type 0
IsWaited ahead waiters k = (v : ℕ) × (w : Waiter) × IsAhead ahead v × Among w (get_or waiters v []) × (w.definition ≡ k)

abbrev pub IsPending : List Waiter → ℕ → Type 0
IsPending pending k = (w : Waiter) × Among w pending × (w.definition ≡ k)

-- The definitions at the places `order` come first in the order, and then those that are left, in order among themselves.
-- Each that is left is free, waits for a variable that is ahead, or is pending.
pub record IsSorting (ds : List Definition) (pending : List Waiter) (order : List ℕ) (ahead : List Bool) (free : List ℕ) (waiters : List (List Waiter)) : Type 0 where
  pub left : List ℕ
  pub ascends : AscendsFrom 0 left
  pub count : length order + length left ≡ length ds
  pub within : (k : ℕ) → Among k left → (d : Definition) × (slice_get ds k ≡ Some d)
  pub kept : ordered ds ≡ picked ds order ++ taken (length left) (picked ds left)
  pub placed : (k : ℕ) → Among k order → (d : Definition) × (slice_get ds k ≡ Some d)
  pub distinct : AreDistinct order
  pub apart : (k : ℕ) → Among k order → Among k left → ⊥
  pub ahead_is : (v : ℕ) → IsAhead ahead v → (k : ℕ) × (d : Definition) × Among k left × (slice_get ds k ≡ Some d) × (d.variable ≡ v)
  pub is_ahead : (k : ℕ) (d : Definition) → Among k left → slice_get ds k ≡ Some d → IsAhead ahead d.variable
  pub free_left : (k : ℕ) → Has free k → Among k left
  pub free_passed : (k i : ℕ) (d : Definition) → Has free k → slice_get ds k ≡ Some d → i < length (used d.by) → IsAhead ahead (get_or (used d.by) i 0) → ⊥
  pub waits_left : (v : ℕ) (w : Waiter) → IsAhead ahead v → Among w (get_or waiters v []) → Among w.definition left
  pub waits_for : (v : ℕ) (w : Waiter) → IsAhead ahead v → Among w (get_or waiters v []) → Awaits ds w v
  pub waits_passed : (v : ℕ) (w : Waiter) → IsAhead ahead v → Among w (get_or waiters v []) → NoneAheadBefore ds ahead w
  pub pends_left : (w : Waiter) → Among w pending → Among w.definition left
  pub pends_passed : (w : Waiter) → Among w pending → NoneAheadBefore ds ahead w
  pub each : (k : ℕ) → Among k left → Has free k ⊎ (IsWaited ahead waiters k ⊎ IsPending pending k)

-- the definitions from a place on, so many, none of whose variables was looked at
abbrev pub waiters_from : ℕ → ℕ → List Waiter
waiters_from i zero = []
waiters_from i (suc n) = record { definition = i; from = 0 } ∷ waiters_from (i + 1) n

-- the variables of the first n definitions are marked, and no other is
pub record AreFirstMarked (ds : List Definition) (n : ℕ) (ahead : List Bool) : Type 0 where
  pub ahead_is : (v : ℕ) → IsAhead ahead v → (k : ℕ) × (d : Definition) × (k < n) × (slice_get ds k ≡ Some d) × (d.variable ≡ v)
  pub is_ahead : (k : ℕ) (d : Definition) → k < n → slice_get ds k ≡ Some d → IsAhead ahead d.variable

-- the definition of each variable that is ahead uses one that is ahead
abbrev pub AheadUsesAhead : List Definition → List Bool → Type 0
AheadUsesAhead ds ahead = (v : ℕ) → IsAhead ahead v → (k : ℕ) × (d : Definition) × (i : ℕ) × (slice_get ds k ≡ Some d) × (d.variable ≡ v) × (i < length (used d.by)) × IsAhead ahead (get_or (used d.by) i 0)

-- the places of the definitions in their order; the others define the variables that are ahead
pub record IsSorted (ds : List Definition) (places : List ℕ) (ahead : List Bool) : Type 0 where
  pub kept : ordered ds ≡ picked ds places
  pub placed : (k : ℕ) → Among k places → (d : Definition) × (slice_get ds k ≡ Some d)
  pub distinct : AreDistinct places
  pub closed : AheadUsesAhead ds ahead
  pub whole : ((v : ℕ) → IsAhead ahead v → ⊥) → length places ≡ length ds
