-- Why levels can't be pushed.
use Rattle.std.specs.Prelude.{◌≡◌, ℕ, ◌<◌, ⊤}
use Rattle.sv_terms.specs.declared.limits.TheConstants.{MOST_LEVELS}
use Rattle.assert_stack.specs.declared.fault.StackFault.{StackFault}
use Rattle.assert_stack.specs.declared.fault.StackFault.TheVariants.{Full, Memory}

-- the fault of a push after which there would be this number of levels
abbrev pub IsFaultAt : ℕ → StackFault → Type 0
IsFaultAt levels (Full n) = (n ≡ levels) × (MOST_LEVELS < levels)
IsFaultAt levels (Memory error) = ⊤
