-- What a quick way finds.
use Rattle.farkas_check.specs.Fitting.{IsAccepted}
use Rattle.farkas_check.specs.declared.system.System.{System}
use Rattle.lia_reduce.specs.Points.{IsPointOf}
use Rattle.lia_quick.specs.declared.restoring.QuickAnswer.{QuickAnswer}
use Rattle.lia_quick.specs.declared.restoring.QuickAnswer.TheVariants.{Point, Closed}

-- a point of the system, or a tree that the checker takes
abbrev pub IsQuickAnswer : System → QuickAnswer → Type 0
IsQuickAnswer s (Point point) = IsPointOf s point
IsQuickAnswer s (Closed tree) = IsAccepted s tree
