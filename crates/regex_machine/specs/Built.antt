-- What is answered where a machine without registers is built within a limit.
use Rattle.std.specs.Prelude.{◌≡◌, ℕ, ◌<◌, ◌≤◌, ◌^◌, ⊤, Result, Ok, Err}
use Rattle.std.specs.declared.alloc.AllocError.{AllocError}
use Rattle.machine_core.specs.declared.graph.Graph.{Graph}
use Rattle.sv_terms.specs.Language.{Word}
use Rattle.trim_search.specs.declared.build_fault.BuildFault.{BuildFault}
use Rattle.trim_search.specs.declared.build_fault.BuildFault.TheVariants as fault
use Rattle.regex_machine.specs.Joined.{HasWords}

-- a machine with these words, which has at most `size` states and at most `limit`; or that they are too many, only where the limit is below `size`; or want of memory
abbrev pub Builds : (Word → Type 0) → ℕ → ℕ → Result Graph BuildFault → Type 0
Builds P size limit (Ok m) = HasWords P m × (m.states ≤ size) × (m.states ≤ limit)
Builds P size limit (Err (fault.States n)) = (limit < size) × (limit < 2 ^ 32)
Builds P size limit (Err (fault.Memory e)) = ⊤

-- what was made, where it has at most `limit` states
abbrev pub FitsStates : ℕ → Result Graph AllocError → Result Graph BuildFault → Type 0
FitsStates limit (Ok m) (Ok n) = (n ≡ m) × (m.states ≤ limit)
FitsStates limit (Ok m) (Err (fault.States n)) = (limit < m.states) × (limit < 2 ^ 32)
FitsStates limit (Ok m) (Err (fault.Memory e)) = ⊥
FitsStates limit (Err e) (Ok n) = ⊥
FitsStates limit (Err e) (Err (fault.States n)) = ⊥
FitsStates limit (Err e) (Err (fault.Memory f)) = ⊤
