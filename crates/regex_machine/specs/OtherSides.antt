-- Lists of sides.
use Rattle.std.specs.Prelude.{ℕ, ⊤, true, List, [], ◌∷◌}
use Rattle.machine_core.specs.declared.graph.Graph.{Graph}
use Rattle.regex_machine.specs.Sided.{SideEnds, SideSteps, side_size, IsMeetSide}
use Rattle.regex_machine.specs.declared.sides.MeetSide.{MeetSide}

-- the ends and steps of a side, and its first state
abbrev pub ends_of_side : MeetSide → List ℕ → List ℕ → Type 0
ends_of_side d = SideEnds d.others d.part.now

abbrev pub steps_of_side : MeetSide → List ℕ → ℕ → List ℕ → List ℕ → Type 0
steps_of_side d = SideSteps d.others d.part.now

abbrev pub size_of_side : MeetSide → ℕ
size_of_side d = side_size d.others d.part.now

abbrev pub first_of_side : MeetSide → List ℕ
first_of_side d = 0 ∷ []

-- they read the words that aren't those of the machine at their place
abbrev pub AreOtherSides : List Graph → List MeetSide → Type 0
AreOtherSides [] [] = ⊤
AreOtherSides [] (d ∷ ds) = ⊥
AreOtherSides (m ∷ ms) [] = ⊥
AreOtherSides (m ∷ ms) (d ∷ ds) = IsMeetSide true m d.others d.part.now × AreOtherSides ms ds
