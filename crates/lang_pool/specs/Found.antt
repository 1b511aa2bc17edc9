use Rattle.std.specs.Prelude.{◌≡◌, Box, ⊤}
use Rattle.std.specs.declared.alloc.Global.{Global}
use Rattle.lang_pool.specs.declared.found.PoolValue.{PoolValue}
use Rattle.lang_pool.specs.declared.found.PoolValue.TheVariants.{Shared, Owned}

-- the value that was found
abbrev pub found_value : {V : Type 0} → PoolValue V → V
found_value (Shared value) = value.now
found_value (Owned value) = value.value

-- it is this value, and the pool's
abbrev pub IsShared : {V : Type 0} → V → PoolValue V → Type 0
IsShared x (Shared value) = value.now ≡ x
IsShared x (Owned _) = ⊥

-- P holds of the value, if it is the pool's
abbrev pub IfShared : {V : Type 0} → (V → Type 0) → PoolValue V → Type 0
IfShared P (Shared value) = P value.now
IfShared P (Owned _) = ⊤

-- P holds of the value in its box, if it was made for the caller
abbrev pub IfOwned : {V : Type 0} → (Box V Global → Type 0) → PoolValue V → Type 0
IfOwned P (Shared _) = ⊤
IfOwned P (Owned value) = P value
