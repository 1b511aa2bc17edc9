-- A description within the limits, and past them.
use Rattle.std.proofs.Common.{◌≡◌, sym, ap, ◌∙◌, subst, ℕ, ◌+◌, ◌<◌, ◌≤◌, Bool, true, false, nat_le, List, [], length, map, Result, Ok, Err, le-leb}
use Rattle.std.proofs.lemmas.Bool.{lt-leb}
use Rattle.sexpr_reader.specs.declared.sexpr.Sexpr.{Sexpr}
use Rattle.sv_terms.specs.declared.limits.TheConstants.{MOST_TRANSDUCER_STATES, MOST_TRANSDUCER_EDGES, MOST_TRANSDUCER_ENDS}
use Rattle.sv_terms.specs.declared.transducer.TransEdge.{TransEdge}
use Rattle.sv_terms.specs.declared.transducer.Transducer.{Transducer}
use Rattle.smt_names.specs.declared.check_fault.CheckFault.{CheckFault}
use Rattle.smt_names.specs.declared.check_fault.CheckFault.TheVariants as fault
use Rattle.smt_names.specs.Answering.{answers-same, fault-passes}
use Rattle.smt_names.specs.Faults.{Answers, and_then, ◌>>◌, need}
use Rattle.smt_names.specs.Form.{Forms, forms, seen, count}
use Rattle.smt_names.specs.Giving.{gave}
use Rattle.smt_names.specs.Signature.{Name}
use Rattle.smt_names.specs.Tokens.{symbol}
use Rattle.smt_names.specs.Shapes.{count-seen}
use Rattle.transducer_form.specs.Descriptions.{each, edge_of, end_of, state_at, states_behind, described_over, described}
use Rattle.transducer_form.specs.Formed.{HasMany, names-many, zero-add}
use Rattle.transducer_form.specs.Written.{DescriptionForm}

-- a transducer by its parts
pub over-is : (d : DescriptionForm) (states : List Name) (n start : ℕ) (edges : List TransEdge) (ends : List (ℕ × List ℕ)) → count d.states ≡ n → state_at states (symbol d.start) ≡ Ok start
    → each (edge_of states) d.edges ≡ Ok edges → each (end_of states) d.ends ≡ Ok ends → described_over d states ≡ Ok (record { states = n; start = start; edges = edges; ends = ends })
over-is d states n start edges ends c s e f =
    ap (and_then (λ start. and_then (λ edges. and_then (λ ends. Ok (record { states = count d.states; start = start; edges = edges; ends = ends })) (each (end_of states) d.ends)) (each (edge_of states) d.edges))) s
    ∙ ap (and_then (λ edges. and_then (λ ends. Ok (record { states = count d.states; start = start; edges = edges; ends = ends })) (each (end_of states) d.ends))) e
    ∙ ap (and_then (λ ends. Ok (record { states = count d.states; start = start; edges = edges; ends = ends }))) f
    ∙ ap (λ k. Ok (record { states = k; start = start; edges = edges; ends = ends })) c

module _ (d : DescriptionForm) (ss es ns : List Sexpr) (states : d.states ≡ forms (map seen ss)) (edges : d.edges ≡ forms (map seen es)) (ends : d.ends ≡ forms (map seen ns)) where
  counts : (f : Forms) (xs : List Sexpr) → f ≡ forms (map seen xs) → (most : ℕ) → (b : Bool) → nat_le (length xs) most ≡ b → nat_le (count f) most ≡ b
  counts f xs e most b h = ap (λ g. nat_le (count g) most) e ∙ ap (λ k. nat_le k most) (count-seen xs) ∙ h

  abbrev rest : Result Transducer CheckFault
  rest = and_then (described_over d) (states_behind [] d.states)

  abbrev steps : (a b c : Bool) → Result Transducer CheckFault
  steps a b c = need a fault.Transducer >> need b fault.Transducer >> need c fault.Transducer >> rest

  pub states-past : MOST_TRANSDUCER_STATES < length ss → described d ≡ Err fault.Transducer
  states-past h = ap (λ a. steps a (nat_le (count d.edges) MOST_TRANSDUCER_EDGES) (nat_le (count d.ends) MOST_TRANSDUCER_ENDS)) (counts d.states ss states MOST_TRANSDUCER_STATES false (lt-leb (length ss) MOST_TRANSDUCER_STATES h))

  module _ (few : length ss ≤ MOST_TRANSDUCER_STATES) where
    few-states : nat_le (count d.states) MOST_TRANSDUCER_STATES ≡ true
    few-states = counts d.states ss states MOST_TRANSDUCER_STATES true (le-leb (length ss) MOST_TRANSDUCER_STATES few)

    pub edges-past : MOST_TRANSDUCER_EDGES < length es → described d ≡ Err fault.Transducer
    edges-past h = ap (λ a. steps a (nat_le (count d.edges) MOST_TRANSDUCER_EDGES) (nat_le (count d.ends) MOST_TRANSDUCER_ENDS)) few-states
        ∙ ap (λ b. steps true b (nat_le (count d.ends) MOST_TRANSDUCER_ENDS)) (counts d.edges es edges MOST_TRANSDUCER_EDGES false (lt-leb (length es) MOST_TRANSDUCER_EDGES h))

    pub names-few : (names : List Name) → states_behind [] d.states ≡ Ok names → length names ≤ MOST_TRANSDUCER_STATES
    names-few names e =
        let n : length names ≡ 0 + count d.states = gave (HasMany (0 + count d.states)) (states_behind [] d.states) names (names-many [] d.states) e in
        let m : length names ≡ length ss = n ∙ zero-add (count d.states) ∙ ap count states ∙ count-seen ss in
        subst (λ k. k ≤ MOST_TRANSDUCER_STATES) (sym m) few

    module _ (less : length es ≤ MOST_TRANSDUCER_EDGES) where
      few-edges : nat_le (count d.edges) MOST_TRANSDUCER_EDGES ≡ true
      few-edges = counts d.edges es edges MOST_TRANSDUCER_EDGES true (le-leb (length es) MOST_TRANSDUCER_EDGES less)

      pub ends-past : MOST_TRANSDUCER_ENDS < length ns → described d ≡ Err fault.Transducer
      ends-past h = ap (λ a. steps a (nat_le (count d.edges) MOST_TRANSDUCER_EDGES) (nat_le (count d.ends) MOST_TRANSDUCER_ENDS)) few-states
          ∙ ap (λ b. steps true b (nat_le (count d.ends) MOST_TRANSDUCER_ENDS)) few-edges
          ∙ ap (λ c. steps true true c) (counts d.ends ns ends MOST_TRANSDUCER_ENDS false (lt-leb (length ns) MOST_TRANSDUCER_ENDS h))

      module _ (least : length ns ≤ MOST_TRANSDUCER_ENDS) where
        passes : described d ≡ rest
        passes = ap (λ a. steps a (nat_le (count d.edges) MOST_TRANSDUCER_EDGES) (nat_le (count d.ends) MOST_TRANSDUCER_ENDS)) few-states
            ∙ ap (λ b. steps true b (nat_le (count d.ends) MOST_TRANSDUCER_ENDS)) few-edges
            ∙ ap (λ c. steps true true c) (counts d.ends ns ends MOST_TRANSDUCER_ENDS true (le-leb (length ns) MOST_TRANSDUCER_ENDS least))

        pub names-fault : (f : CheckFault) → Answers (states_behind [] d.states) (Err f) → Answers (described d) (Err f)
        names-fault f a = answers-same rest (described d) (Err f) passes (fault-passes (states_behind [] d.states) rest f (λ e. ap (and_then (described_over d)) e) a)

        pub described-is : (names : List Name) (r : Result Transducer CheckFault) → states_behind [] d.states ≡ Ok names → Answers (described_over d names) r → Answers (described d) r
        described-is names r e a = answers-same (described_over d names) (described d) r (passes ∙ ap (and_then (described_over d)) e) a
