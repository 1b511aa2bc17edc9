-- Whether a search may take whatever it takes.
use Rattle.std.specs.Prelude.{Bool, true, false}
use Rattle.cube_search.specs.declared.allowance.Allowance.{Allowance}
use Rattle.cube_search.specs.declared.allowance.Allowance.TheVariants as allowance

-- whether something that the text doesn't bound is limited
abbrev pub is_bounded : Allowance → Bool
is_bounded allowance.Whole = false
is_bounded allowance.Machines = true
is_bounded allowance.Part = true
is_bounded (allowance.Little effort) = true
