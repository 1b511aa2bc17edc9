-- The transducer that a description in its written form describes. It has the fault Transducer where a state stands twice or isn't listed, where LO or HI isn't one character or LO is above HI, where a character is moved by more than 196,607, where there is no state, and where there are too many states, edges or ends.
use Rattle.std.specs.Prelude.{ℕ, ℤ, pos, neg_ℤ, Bool, true, false, nat_le, nat_lt, List, [], ◌∷◌, ◌++◌, position, Option, Some, None, Result, Ok, Err}
use Rattle.sv_word.specs.Words.{greatest_character}
use Rattle.sv_terms.specs.declared.limits.TheConstants.{MOST_TRANSDUCER_STATES, MOST_TRANSDUCER_EDGES, MOST_TRANSDUCER_ENDS}
use Rattle.sv_terms.specs.declared.transducer.Item.{Item}
use Rattle.sv_terms.specs.declared.transducer.Item.TheVariants as item
use Rattle.sv_terms.specs.declared.transducer.TransEdge.{TransEdge}
use Rattle.sv_terms.specs.declared.transducer.Transducer.{Transducer}
use Rattle.smt_names.specs.declared.check_fault.CheckFault.{CheckFault}
use Rattle.smt_names.specs.declared.check_fault.CheckFault.TheVariants as fault
use Rattle.smt_names.specs.Faults.{and_then, ◌>>◌, made_of, need, refuse, or_fault}
use Rattle.smt_names.specs.Form.{Form, Forms, end, ◌⨾◌, count, two}
use Rattle.smt_names.specs.Signature.{Name, same_name, stands_in}
use Rattle.smt_names.specs.Tokens.{symbol, digits, value, literal_text, literal_word, listed}
use Rattle.transducer_form.specs.Written.{EdgeForm, edge_form, DescriptionForm}

-- the names of states, of which none may stand twice, behind those before them
abbrev pub state_behind : List Name → Option Name → Result (List Name) CheckFault
state_behind before (Some n) = refuse (stands_in before n) fault.Transducer >> Ok (before ++ n ∷ [])
state_behind before None = Err fault.Shape

abbrev pub states_behind : List Name → Forms → Result (List Name) CheckFault
states_behind before end = Ok before
states_behind before (f ⨾ fs) = and_then (λ more. states_behind more fs) (state_behind before (symbol f))

-- a state by its place among those listed
abbrev pub state_at : List Name → Option Name → Result ℕ CheckFault
state_at states (Some n) = or_fault fault.Transducer (position (same_name n) states)
state_at states None = Err fault.Shape

-- the word of a literal
abbrev pub word_at : Option (List ℕ) → Result (List ℕ) CheckFault
word_at (Some text) = or_fault fault.Shape (literal_word text)
word_at None = Err fault.Shape

abbrev pub one_character : List ℕ → Result ℕ CheckFault
one_character (c ∷ []) = Ok c
one_character _ = Err fault.Transducer

-- the character of a literal of one
abbrev pub character_at : Option (List ℕ) → Result ℕ CheckFault
character_at text = and_then one_character (word_at text)

-- a number, downwards or upwards
abbrev pub signed : Bool → ℕ → ℤ
signed true n = neg_ℤ (pos n)
signed false n = pos n

abbrev pub shifted : Bool → List ℕ → Result Item CheckFault
shifted down ds = refuse (nat_lt greatest_character (value ds)) fault.Transducer >> Ok (item.Shift (signed down (value ds)))

-- K of `(- K)`
abbrev pub shifted_down : Option (Form × Form) → Result Item CheckFault
shifted_down (Some p) = and_then (shifted true) (or_fault fault.Shape (digits p.1))
shifted_down None = Err fault.Shape

abbrev pub shift_by : Option (List ℕ) → Option (Form × Form) → Result Item CheckFault
shift_by (Some ds) below = shifted false ds
shift_by None below = shifted_down below

-- by how much a character is moved: K or `(- K)`
abbrev pub shift_of : Form → Result Item CheckFault
shift_of f = shift_by (digits f) (two f)

abbrev pub item_by : Option (List ℕ) → Option (Form × Form) → Result Item CheckFault
item_by (Some text) move = and_then (λ w. Ok (item.Text w)) (word_at (Some text))
item_by None (Some p) = shift_of p.1
item_by None None = Ok (item.Shift (pos 0))

-- an item: a literal, `(in K)` or `(in (- K))`, or `in`
abbrev pub item_of : Form → Result Item CheckFault
item_of f = item_by (literal_text f) (two f)

-- a list, and what an answer lists behind it
abbrev pub list_behind : {A : Type 0} → List A → Result (List A) CheckFault → Result (List A) CheckFault
list_behind xs (Ok ys) = Ok (xs ++ ys)
list_behind xs (Err f) = Err f

-- what each form gives, from the left
abbrev pub each_joined : {A : Type 0} → (Form → Result (List A) CheckFault) → Forms → Result (List A) CheckFault
each_joined one end = Ok []
each_joined one (f ⨾ fs) = and_then (λ xs. list_behind xs (each_joined one fs)) (one f)

abbrev pub each : {A : Type 0} → (Form → Result A CheckFault) → Forms → Result (List A) CheckFault
each one fs = each_joined (λ f. made_of (λ x. x ∷ []) (one f)) fs

abbrev pub items_of : Forms → Result (List Item) CheckFault
items_of fs = each item_of fs

abbrev pub edge_between : ℕ → ℕ → ℕ → ℕ → Result (List Item) CheckFault → Result TransEdge CheckFault
edge_between from low high to items = need (nat_le low high) fault.Transducer >> and_then (λ is. Ok (record { from = from; lo = low; hi = high; items = is; to = to })) items

abbrev pub edge_by : List Name → Option EdgeForm → Result TransEdge CheckFault
edge_by states None = Err fault.Shape
edge_by states (Some e) =
    and_then (λ from. and_then (λ low. and_then (λ high. and_then (λ to. edge_between from low high to (items_of e.items)) (state_at states (symbol e.to))) (character_at (literal_text e.high))) (character_at (literal_text e.low))) (state_at states (symbol e.from))

abbrev pub edge_of : List Name → Form → Result TransEdge CheckFault
edge_of states f = edge_by states (edge_form f)

-- the words of literals, one after another
abbrev pub words_joined : Forms → Result (List ℕ) CheckFault
words_joined fs = each_joined (λ f. word_at (literal_text f)) fs

abbrev pub joined_if : Option Forms → Result (List ℕ) CheckFault
joined_if (Some fs) = words_joined fs
joined_if None = Err fault.Shape

abbrev pub end_by : List Name → Option (Form × Form) → Result (ℕ × List ℕ) CheckFault
end_by states (Some p) = and_then (λ at. and_then (λ w. Ok (at, w)) (joined_if (listed p.1))) (state_at states (symbol p.0))
end_by states None = Err fault.Shape

-- a state, and what is written there at the end
abbrev pub end_of : List Name → Form → Result (ℕ × List ℕ) CheckFault
end_of states f = end_by states (two f)

abbrev pub at_most : ℕ → ℕ → Result Unit CheckFault
at_most most n = need (nat_le n most) fault.Transducer

-- over states of these names; without a state the start isn't listed
abbrev pub described_over : DescriptionForm → List Name → Result Transducer CheckFault
described_over d states =
    and_then (λ start. and_then (λ edges. and_then (λ ends. Ok (record { states = count d.states; start = start; edges = edges; ends = ends })) (each (end_of states) d.ends)) (each (edge_of states) d.edges)) (state_at states (symbol d.start))

abbrev pub described : DescriptionForm → Result Transducer CheckFault
described d = at_most MOST_TRANSDUCER_STATES (count d.states) >> at_most MOST_TRANSDUCER_EDGES (count d.edges) >> at_most MOST_TRANSDUCER_ENDS (count d.ends) >> and_then (described_over d) (states_behind [] d.states)
