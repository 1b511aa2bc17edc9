-- Where words of other machines lead a machine, which is looked up before a concatenation is cut.
use Rattle.std.specs.Prelude.{◌≡◌, ℕ, Bool, true, List, [], ◌∷◌, ◌++◌, drop, get_or, Option, Some, slice_get, IsTrue, ⊤}
use Rattle.sv_word.specs.Ranges.{in_ranges}
use Rattle.machine_core.specs.declared.edge.Edge.{Edge}
use Rattle.machine_core.specs.declared.graph.Graph.{Graph}
use Rattle.machine_core.specs.Graphs.{Accepts}
use Rattle.pre_image.specs.Slices.{SliceEnds, Between}
use Rattle.backward.specs.Families.{Family, HasMachine}
use Rattle.backward.specs.Pieces.{first_of}
use Rattle.backward.specs.declared.pairs.Way.{Way}
use Rattle.backward.specs.declared.pairs.Way.TheVariants as way

-- a word that `machine` reads leads `target` from the state `from` to the state `to`, or to an end
pub record Leads (machine target : Graph) (from : ℕ) (to : Option ℕ) : Type 0 where
  pub word : List ℕ
  pub cost : List ℕ
  pub other : List ℕ
  pub reads : Accepts machine word cost
  pub runs : Between target from to word other

-- words of the machines that these pieces have lead `target` from each of these states to the next one, and from the last one to an end
abbrev pub LeadInTurn : Family → Graph → List ℕ → List ℕ → Type 0
LeadInTurn ms target [] [] = ⊤
LeadInTurn ms target [] (p ∷ pieces) = ⊥
LeadInTurn ms target (s ∷ starts) [] = ⊥
LeadInTurn ms target (s ∷ starts) (p ∷ pieces) = ((k : Graph) → HasMachine ms p k → Leads k target s (first_of starts)) × LeadInTurn ms target starts pieces

-- the mark at a place; what has no mark counts as marked
abbrev pub is_set : List Bool → ℕ → Bool
is_set marks place = get_or marks place true

-- the mark of a pair, in rows of marks
abbrev pub is_marked : List (List Bool) → ℕ → ℕ → Bool
is_marked rows first second = is_set (get_or rows first []) second

-- where the step is followed from, and to
abbrev pub tail : Way → Edge → ℕ
tail way.Forward e = e.from
tail way.Backward e = e.to

abbrev pub head : Way → Edge → ℕ
head way.Forward e = e.to
head way.Backward e = e.from

-- steps of both machines on one character lead from no marked pair to one that isn't
abbrev pub LeadOn : Way → List (List Bool) → Edge → Edge → Type 0
LeadOn w rows e d = (c : ℕ) → IsTrue (in_ranges e.on c) → IsTrue (in_ranges d.on c) → is_marked rows (tail w e) (tail w d) ≡ true → is_marked rows (head w e) (head w d) ≡ true

abbrev pub IsClosed : Way → List (List Bool) → List Edge → List Edge → Type 0
IsClosed w rows es ds = (i j : ℕ) (e d : Edge) → slice_get es i ≡ Some e → slice_get ds j ≡ Some d → LeadOn w rows e d

-- the states in which runs may stop, or in which a word may end, are marked
abbrev pub AreGoals : Graph → List Bool → Option ℕ → Type 0
AreGoals target goals to = (s : ℕ) (cost : List ℕ) → SliceEnds target.registers target.ends to s cost → is_set goals s ≡ true

-- the states from which words of `machine` lead to goals are marked
abbrev pub AreStarts : Graph → Graph → List Bool → List Bool → Type 0
AreStarts machine target goals starts = (from : ℕ) (to : Option ℕ) → AreGoals target goals to → Leads machine target from to → is_set starts from ≡ true

-- the states to which words of `machine` lead from this one are marked
abbrev pub AreStops : Graph → Graph → ℕ → List Bool → Type 0
AreStops machine target from stops = (s : ℕ) → Leads machine target from (Some s) → is_set stops s ≡ true

-- in the row of each piece the states are marked from which words of this and the later pieces lead to an end
abbrev pub AreLive : Family → Graph → List ℕ → List (List Bool) → Type 0
AreLive ms target pieces rows = (place s : ℕ) (rest : List ℕ) → LeadInTurn ms target (s ∷ rest) (drop place pieces) → is_marked rows place s ≡ true

-- the states are marked that may come next behind these cuts
abbrev pub AreNext : Family → Graph → List ℕ → List ℕ → List Bool → Type 0
AreNext ms target pieces cuts next = (s : ℕ) (rest : List ℕ) → LeadInTurn ms target ((0 ∷ cuts) ++ s ∷ rest) pieces → is_set next s ≡ true
