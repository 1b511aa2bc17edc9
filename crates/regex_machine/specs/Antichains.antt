-- Places of machines that read a word together, some of them barring their words: which place stands for which (De Wulf, Doyen, Henzinger and Raskin, Antichains, CAV 2006).
use Rattle.std.specs.Prelude.{◌≡◌, ◌<◌, ℕ, ⊤, Bool, true, false, List, [], ◌∷◌, ◌++◌, map, All, Any, Contains, Some, slice_get}
use Rattle.machine_meet.specs.Products.{AreStates, MeetEnds, MeetSteps}
use Rattle.regex_machine.specs.Sided.{IsSideState}
use Rattle.regex_machine.specs.OtherSides.{ends_of_side, first_of_side, steps_of_side}
use Rattle.regex_machine.specs.declared.sides.MeetSide.{MeetSide}

-- a state of the side
abbrev pub state_of_side : MeetSide → List ℕ → Type 0
state_of_side d = IsSideState d.others d.part.now

-- the same states; or, where words are barred, no other states than those
abbrev pub StandsFor : Bool → List ℕ → List ℕ → Type 0
StandsFor false s t = s ≡ t
StandsFor true s t = (k : ℕ) → Contains s k → Contains t k

-- so for each side: a word that leads from the second place to an end leads from the first one to one
abbrev pub StandFor : List MeetSide → List (List ℕ) → List (List ℕ) → Type 0
StandFor [] [] [] = ⊤
StandFor [] [] (t ∷ ts) = ⊥
StandFor [] (s ∷ ss) ts = ⊥
StandFor (d ∷ ds) [] ts = ⊥
StandFor (d ∷ ds) (s ∷ ss) [] = ⊥
StandFor (d ∷ ds) (s ∷ ss) (t ∷ ts) = StandsFor d.others s t × StandFor ds ss ts

-- one of the places stands for this one
abbrev pub HasOneFor : List MeetSide → List (List (List ℕ)) → List (List ℕ) → Type 0
HasOneFor ds places t = Any (λ s. StandFor ds s t) places

-- no word ends in the place, and one of the places stands for each to which a step leads
pub record IsSettled (ds : List MeetSide) (width : ℕ) (places : List (List (List ℕ))) (s : List (List ℕ)) : Type 0 where
  pub ends : (cost : List ℕ) → MeetEnds ends_of_side width ds s cost → ⊥
  pub steps : (c : ℕ) (cost : List ℕ) (t : List (List ℕ)) → MeetSteps steps_of_side width ds s c cost t → HasOneFor ds places t

-- places, and more of them behind
abbrev pub AddsPlaces : List (List (List ℕ)) → List (List (List ℕ)) → Type 0
AddsPlaces old new = (more : List (List (List ℕ))) × (new ≡ old ++ more)

-- each is a place of the sides
abbrev pub ArePlaces : List MeetSide → List (List (List ℕ)) → Type 0
ArePlaces ds places = All (AreStates state_of_side ds) places

-- places of which the first ones are settled; one stands for the start
pub record IsExplored (ds : List MeetSide) (width : ℕ) (places : List (List (List ℕ))) (at : ℕ) : Type 0 where
  pub states : ArePlaces ds places
  pub first : HasOneFor ds places (map first_of_side ds)
  pub settled : (i : ℕ) (s : List (List ℕ)) → i < at → slice_get places i ≡ Some s → IsSettled ds width places s
