-- What the parts of a draft are, with everything put in.
use Rattle.std.specs.Prelude.{◌≡◌, ℕ, List, [], ◌∷◌, ◌++◌, length, map, get_or, slice_get, Option, Some, None, Result, Ok, Err}
use Rattle.std.specs.Option.{option_map}
use Rattle.sv_terms.specs.declared.entry.Body.{Body}
use Rattle.sv_terms.specs.declared.entry.Body.TheVariants as body
use Rattle.sv_terms.specs.declared.sort.Sort.{Sort}
use Rattle.sv_terms.specs.declared.sort.Sort.TheVariants as sort
use Rattle.sv_terms.specs.declared.term.Term.{Term}
use Rattle.term_draft.specs.declared.draft.DraftNode.{DraftNode}
use Rattle.term_draft.specs.declared.draft.DraftNode.TheVariants as node
use Rattle.term_draft.specs.declared.draft.DraftPart.{DraftPart}
use Rattle.term_weight.specs.Bodies.{opaque, called, related, term_of}
use Rattle.smt_names.specs.Signature.{Name}
use Rattle.term_weight.specs.Weights.{plain, nth_if}
use Rattle.term_weight.specs.Places.{parameter_alone, shown}

-- what is at a place; past the end nothing is
abbrev pub at_place : List Body → ℕ → Body
at_place done p = get_or done p (opaque sort.Bool)

abbrev pub at_places : List Body → List ℕ → List Body
at_places done ps = map (at_place done) ps

-- what a part is behind these
abbrev pub sense : List Body → DraftNode → Body
sense done (node.Leaf b) = b
sense done (node.Applied k ps) = plain k (at_places done ps)
sense done (node.Called parameters b ps) = called parameters.now b.now (at_places done ps)
sense done (node.Related t ps) = related t.now (at_places done ps)

abbrev pub senses_from : List Body → List DraftPart → List Body
senses_from done [] = done
senses_from done (p ∷ ps) = senses_from (done ++ sense done p.node ∷ []) ps

-- what each part is
abbrev pub senses : List DraftPart → List Body
senses ps = senses_from [] ps

-- the answer of a draft to which this is added: its place, at the end; without memory the draft stays as it was
abbrev pub Adds : {E : Type 0} → Body → List Body → List Body → Result ℕ E → Type 0
Adds b old new (Ok place) = (place ≡ length old) × (new ≡ old ++ b ∷ [])
Adds b old new (Err e) = new ≡ old

-- this place, where a term is there
abbrev pub if_term : ℕ → Option Body → Option ℕ
if_term p (Some (body.Term t)) = Some p
if_term p (Some (body.Language r)) = None
if_term p None = None

abbrev pub term_place : List Body → Option ℕ → Option ℕ
term_place done None = None
term_place done (Some p) = if_term p (slice_get done p)

-- the place of the argument that a call is: where the body of the macro is a parameter alone, and a term is at the place
abbrev pub argument_place : List Body → List (Name × Sort) → Body → List ℕ → Option ℕ
argument_place done ps b arguments = term_place done (nth_if arguments (parameter_alone ps b))

-- the answer of a draft that is asked for a call: the place of the argument that it is, which takes no memory and adds nothing; or else it is added
abbrev pub Calls : {E : Type 0} → Option ℕ → Body → List Body → List Body → Result ℕ E → Type 0
Calls (Some p) b old new (Ok place) = (place ≡ p) × (slice_get new place ≡ Some b) × (new ≡ old)
Calls (Some p) b old new (Err e) = ⊥
Calls {E = E} None b old new r = Adds {E = E} b old new r

-- what the argument of a parameter is, by an index of the parameters
abbrev pub place_found : List (Name × Option ℕ) → List ℕ → Name → Option ℕ
place_found index arguments n = nth_if arguments (shown n index)

abbrev pub term_found : List Body → List (Name × Option ℕ) → List ℕ → Name → Option Term
term_found done index arguments n = option_map (λ p. term_of (at_place done p)) (place_found index arguments n)
