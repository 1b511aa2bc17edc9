-- Which named assertions are to blame for an `unsat`: the names are tried in the order in which they were asserted, and each is left out where the rest has no values.
use Rattle.std.specs.Prelude.{ℕ, Bool, true, false, List, [], ◌∷◌, ◌++◌, length, replicate, slice_set, ⊤}
use Rattle.decide.specs.Completeness.{MustDecide, IsComplete}
use Rattle.decide.specs.Verdicts.{RightVerdict}
use Rattle.decide.specs.declared.verdict.Verdict.{Verdict}
use Rattle.decide.specs.declared.verdict.Verdict.TheVariants as verdict
use Rattle.sv_terms.specs.Truth.{HasNoValues, clear_of}
use Rattle.sv_terms.specs.declared.term.Term.{Term}

-- the name of a term, and its place among the terms
abbrev pub NamedPlace : Type 0
NamedPlace = List ℕ × ℕ

-- a name that is listed, and the verdict by which it is
abbrev pub Entry : Type 0
Entry = List ℕ × Verdict

-- the terms that stay, in their order. Of the place of each of the first terms it is said whether its term is left out
abbrev pub staying : List Bool → List Term → List Term
staying [] terms = terms
staying (out ∷ outs) [] = []
staying (true ∷ outs) (term ∷ terms) = staying outs terms
staying (false ∷ outs) (term ∷ terms) = term ∷ staying outs terms

-- the term at this place is left out too
abbrev pub without : ℕ → List Bool → List Bool
without place outs = slice_set outs place true

abbrev pub IsNoUnsat : Verdict → Type 0
IsNoUnsat (verdict.Sat values) = ⊤
IsNoUnsat (verdict.Unsat refutation) = ⊥
IsNoUnsat (verdict.Unknown why) = ⊤

-- a right verdict on the terms that isn't `unsat`, and an answer where one is owed
pub record IsReasonToStay (terms : List Term) (answer : Verdict) : Type 0 where
  pub other : IsNoUnsat answer
  pub right : RightVerdict terms answer
  pub complete : MustDecide terms → IsComplete terms answer

-- what is listed of the names that are still to be tried, where these places are left out so far.
-- A name is listed with a verdict on all terms but its own that are there when it is tried: those without names, those of the names that were listed before it, and those of all names after it. Any other name is left out. What stays after the last name has no values
pub data IsCoreFrom (terms : List Term) : List Bool → List NamedPlace → List Entry → Type 0 where
  tried : (outs : List Bool) → HasNoValues (clear_of (staying outs terms)) → IsCoreFrom terms outs [] []
  stays : (outs : List Bool) (name : List ℕ) (place : ℕ) (answer : Verdict) (names : List NamedPlace) (list : List Entry) → IsReasonToStay (staying (without place outs) terms) answer → IsCoreFrom terms outs names list → IsCoreFrom terms outs ((name, place) ∷ names) ((name, answer) ∷ list)
  goes : (outs : List Bool) (name : List ℕ) (place : ℕ) (names : List NamedPlace) (list : List Entry) → IsCoreFrom terms (without place outs) names list → IsCoreFrom terms outs ((name, place) ∷ names) list

-- no term is left out: so many may be, and those after them, which are assumptions, never are
abbrev pub all_stay : ℕ → List Bool
all_stay count = replicate count false

-- a core of the live assertions with these names, and of the assumptions, which come after them
abbrev pub IsCore : List Term → List NamedPlace → List Term → List Entry → Type 0
IsCore live names assumed list = IsCoreFrom (live ++ assumed) (all_stay (length live)) names list
