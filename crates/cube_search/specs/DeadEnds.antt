-- Machines that read nothing, on the way to a leaf.
use Rattle.std.specs.Prelude.{Bool, false, Option, None, Some, length, nat_eq}
use Rattle.machine_core.specs.declared.graph.Graph.{Graph}

-- whether there is a machine, and it has no end
abbrev pub is_dead_end : Option Graph → Bool
is_dead_end None = false
is_dead_end (Some m) = nat_eq (length m.ends) 0
