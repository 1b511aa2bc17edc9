-- The levels of an assertion stack and what is live (SMT-LIB 2.6, sections 4.1.4 and 4.2.2).
use Rattle.std.specs.Prelude.{ℕ, ◌-◌, List, [], ◌∷◌, ◌++◌, length, take, replicate}
use Rattle.sv_terms.specs.declared.entry.Body.TheVariants as body
use Rattle.sv_terms.specs.declared.entry.Entry.{Entry}
use Rattle.sv_terms.specs.declared.entry.Entry.TheVariants as entry
use Rattle.sv_terms.specs.declared.term.Term.{Term}

-- a declared name and what it stands for
abbrev pub Symbol : Type 0
Symbol = List ℕ × Entry

-- the name of a named assertion, and its place in the live assertions
abbrev pub NamedPlace : Type 0
NamedPlace = List ℕ × ℕ

-- the symbols of a level, its assertions, and the names of those that have one, each in the order in which they came
abbrev pub Level : Type 0
Level = List Symbol × List Term × List NamedPlace

abbrev pub empty : Level
empty = ([], [], [])

-- the symbols of all levels, of which the innermost is listed first, in the order in which they came
abbrev pub symbols_of : List Level → List Symbol
symbols_of [] = []
symbols_of (level ∷ outer) = symbols_of outer ++ level.0

-- the live assertions: those of all levels, in the order in which they came
abbrev pub live : List Level → List Term
live [] = []
live (level ∷ outer) = live outer ++ level.1

-- the names of live assertions with their places, in the order in which they came
abbrev pub named : List Level → List NamedPlace
named [] = []
named (level ∷ outer) = named outer ++ level.2

-- n new levels inside the others
abbrev pub pushed : ℕ → List Level → List Level
pushed n levels = replicate n empty ++ levels

-- one more symbol on the innermost level
abbrev pub declared : List ℕ → Entry → List Level → List Level
declared name entry [] = []
declared name entry (level ∷ outer) = (level.0 ++ (name, entry) ∷ [], level.1, level.2) ∷ outer

-- these assertions more on the innermost level
abbrev pub asserted_all : List Term → List Level → List Level
asserted_all terms [] = []
asserted_all terms (level ∷ outer) = (level.0, level.1 ++ terms, level.2) ∷ outer

-- one more assertion on the innermost level
abbrev pub asserted : Term → List Level → List Level
asserted term levels = asserted_all (term ∷ []) levels

-- the place gets this name
abbrev pub named_at : List ℕ → ℕ → List Level → List Level
named_at name place [] = []
named_at name place (level ∷ outer) = (level.0, level.1, level.2 ++ (name, place) ∷ []) ∷ outer

-- one more assertion on the innermost level, with a name, which is a macro for its term
abbrev pub asserted_named : List ℕ → Term → List Level → List Level
asserted_named name term levels = named_at name (length (live levels)) (asserted term (declared name (entry.Macro [] (body.Term term)) levels))

-- the last n assertions of the innermost level go, or all where there are fewer
abbrev pub dropped_last : ℕ → List Level → List Level
dropped_last n [] = []
dropped_last n (level ∷ outer) = (level.0, take (length level.1 - n) level.1, level.2) ∷ outer
