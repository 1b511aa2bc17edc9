-- Lists of languages put together: one word of each in turn, a word of one at least, a word of all. How many states a machine of the whole has at most.
use Rattle.std.specs.Prelude.{ℕ, ◌+◌, ◌-◌, max, List}
use Rattle.machine_core.specs.declared.graph.Graph.{Graph}
use Rattle.machine_meet.specs.Products.{summed, multiplied}
use Rattle.sv_terms.specs.Language.{Language, InOneOf, InEachInTurn, InAllOf}
use Rattle.regex_machine.specs.declared.kind.JoinKind.{JoinKind}
use Rattle.regex_machine.specs.declared.kind.JoinKind.TheVariants as kind

abbrev pub states_of : Graph → ℕ
states_of m = m.states

-- the words of a list that is put together
abbrev pub Together : {X : Type 0} → JoinKind → (X → Language) → List X → Language
Together kind.Turn P xs = InEachInTurn P xs
Together kind.One P xs = InOneOf P xs
Together kind.All P xs = InAllOf P xs

-- the numbers of states of the parts, put together so that a list within a list counts as its elements do
abbrev pub weight : {X : Type 0} → JoinKind → (X → ℕ) → List X → ℕ
weight kind.Turn f xs = summed f xs
weight kind.One f xs = summed (λ x. f x + 1) xs
weight kind.All f xs = multiplied f xs

-- the most states of the whole, given this weight
abbrev pub most_states : JoinKind → ℕ → ℕ
most_states kind.Turn n = max 1 n
most_states kind.One n = max 1 (n - 1)
most_states kind.All n = n
