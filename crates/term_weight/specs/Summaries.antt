-- What the body of a macro weighs at arguments, by what is kept of it once.
use Rattle.std.specs.Prelude.{◌≡◌, ℕ, suc, zero, ◌+◌, ◌*◌, max, ◌<◌, Bool, true, false, ◌&&◌, ◌||◌, not, List, [], ◌∷◌, length, replicate, slice_get, Option, Some, None, is_some, IfSome}
use Rattle.std.specs.Option.{option_map}
use Rattle.sv_terms.specs.declared.sort.Sort.{Sort}
use Rattle.sv_terms.specs.declared.sort.Sort.TheVariants as sort
use Rattle.sv_terms.specs.declared.term.Term.{Term}
use Rattle.sv_terms.specs.declared.op.Op.{Op}
use Rattle.sv_terms.specs.declared.op.Op.TheVariants as op
use Rattle.term_weight.specs.declared.weight.Factor.{Factor}
use Rattle.term_weight.specs.declared.weight.Weight.{Weight}
use Rattle.term_weight.specs.declared.share.Share.{Share}
use Rattle.term_weight.specs.declared.share.Uses.{Uses}
use Rattle.term_weight.specs.declared.tally.MacroSummary.{MacroSummary}
use Rattle.term_weight.specs.declared.summary.Summary.{Summary}
use Rattle.term_weight.specs.declared.summary.Summary.TheVariants as summary
use Rattle.smt_names.specs.Signature.{Name}
use Rattle.sv_terms.specs.declared.entry.Body.{Body}
use Rattle.term_weight.specs.Bodies.{is_unknown, holds}
use Rattle.term_weight.specs.Places.{shown, weight_found, parameter_alone}
use Rattle.term_weight.specs.Weights.{capped, as_term, opaque_weight, is_literal, or_leaf, weighed, call_weight}

-- what a part of this weight adds to what it stands in, that deep
abbrev pub share : ℕ → Weight → Share
share depth w = record { nodes = capped w.nodes; nesting = capped (depth + w.nesting); is_unknown = is_unknown w.factor }

abbrev pub nothing : Share
nothing = record { nodes = 0; nesting = 0; is_unknown = false }

-- an unknown alone, or nothing
abbrev pub unknown_if : Bool → Share
unknown_if b = record { nodes = 0; nesting = 0; is_unknown = b }

-- two parts of one whole
abbrev pub plus : Share → Share → Share
plus a b = record { nodes = capped (a.nodes + b.nodes); nesting = max a.nesting b.nesting; is_unknown = a.is_unknown || b.is_unknown }

-- what stands for the parameter at a place; a missing argument weighs as a constant
abbrev pub argument : List Weight → ℕ → Weight
argument weights i = or_leaf sort.Bool (option_map as_term (slice_get weights i))

-- how deep an argument of this nesting comes to stand
abbrev pub reach : Option ℕ → ℕ → ℕ
reach None n = 0
reach (Some depth) n = capped (depth + n)

-- what a parameter adds with an argument of this weight in its place
abbrev pub used : Uses → Weight → Share
used u w = record {
  nodes = capped (u.count * w.nodes);
  nesting = reach u.deepest w.nesting;
  is_unknown = (is_some u.deepest && is_unknown w.factor) || (u.is_measured && not (is_literal w.factor));
}

-- a parameter that stands nowhere
abbrev pub unused : Uses
unused = record { count = 0; deepest = None; is_measured = false }

abbrev pub deeper : Option ℕ → ℕ → ℕ
deeper None depth = depth
deeper (Some d) depth = max d depth

-- once more, that deep
abbrev pub used_at : ℕ → Uses → Uses
used_at depth u = record { count = capped (u.count + 1); deepest = Some (deeper u.deepest depth); is_measured = u.is_measured }

-- once right under a length
abbrev pub measured : Uses → Uses
measured u = record { count = u.count; deepest = u.deepest; is_measured = true }

abbrev pub changed_at : (Uses → Uses) → ℕ → List Uses → List Uses
changed_at f i [] = []
changed_at f zero (u ∷ us) = f u ∷ us
changed_at f (suc i) (u ∷ us) = u ∷ changed_at f i us

-- all parameters, with arguments of these weights
abbrev pub all_used : List Uses → List Weight → Share
all_used [] ws = nothing
all_used (u ∷ us) [] = plus (used u (opaque_weight sort.Bool)) (all_used us [])
all_used (u ∷ us) (w ∷ ws) = plus (used u (as_term w)) (all_used us ws)

-- what a call of the macro comes to: the parameters, with what stands there whatever the arguments are
abbrev pub share_of_call : MacroSummary → List Weight → Share
share_of_call t ws = plus t.own (all_used t.uses ws)

-- no node yet, and so many parameters
abbrev pub empty : ℕ → MacroSummary
empty parameters = record { own = nothing; uses = replicate parameters unused }

abbrev pub raised : Share → MacroSummary → MacroSummary
raised x t = record { own = plus t.own x; uses = t.uses }

abbrev pub changed : (Uses → Uses) → ℕ → MacroSummary → MacroSummary
changed f i t = record { own = t.own; uses = changed_at f i t.uses }

-- a function of parts that come to this
abbrev pub of_total : Sort → Share → Weight
of_total s t = record { sort = s; factor = holds t.is_unknown; is_language = false; nodes = t.nodes; nesting = t.nesting }

-- the weight at arguments of these weights
abbrev pub weight_at : Summary → List Weight → Weight
weight_at (summary.Same w) ws = w
weight_at (summary.Parameter i s) ws = or_leaf s (option_map as_term (slice_get ws i))
weight_at (summary.Term s tally) ws = of_total s (share_of_call tally ws)

-- the parameter that it is of, where the body is one alone
abbrev pub parameter_of : Summary → Option ℕ
parameter_of (summary.Same w) = None
parameter_of (summary.Parameter i s) = Some i
parameter_of (summary.Term s tally) = None

-- whether these factors of a function's parts make a length unknown that is unknown by no part
abbrev pub is_measure : Op → List Factor → Bool
is_measure op.Length (f ∷ []) = not (is_literal f)
is_measure op.Length fs = true
is_measure o fs = false

-- what stands where a term with parameters does, by an index of the parameters
abbrev pub part : List (Name × Option ℕ) → List Weight → Term → Weight
part places ws t = as_term (weighed (weight_found places ws) t)

-- the parts of one function, that deep
abbrev pub shares : ℕ → List Weight → Share
shares depth [] = nothing
shares depth (w ∷ ws) = plus (share depth w) (shares depth ws)

-- the same of a name
abbrev pub part_named : List (Name × Option ℕ) → List Weight → Name → Weight
part_named places ws n = or_leaf sort.Bool (weight_found places ws n)

-- each place is one of so many
pub record PlacesAreWithin (places : List (Name × Option ℕ)) (parameters : ℕ) : Type 0 where
  pub within : (n : Name) → IfSome (shown n places) (λ i. i < parameters)

-- the change of a tally adds this, by the weights of the arguments
pub record Gains (places : List (Name × Option ℕ)) (old new : MacroSummary) (by : List Weight → Share) : Type 0 where
  pub kept : length new.uses ≡ length old.uses
  pub added : PlacesAreWithin places (length old.uses) → (ws : List Weight) → share_of_call new ws ≡ plus (share_of_call old ws) (by ws)

-- a summary tells the weight, by the weights of the arguments
pub record TellsWeight (places : List (Name × Option ℕ)) (parameters : ℕ) (x : Summary) (by : List Weight → Weight) : Type 0 where
  pub told : PlacesAreWithin places parameters → (ws : List Weight) → weight_at x ws ≡ by ws

-- a summary is that of a macro with these parameters and this body
pub record Summarises (x : Summary) (parameters : List (Name × Sort)) (body : Body) : Type 0 where
  pub tells : (ws : List Weight) → weight_at x ws ≡ call_weight parameters ws body
  pub alone : parameter_of x ≡ parameter_alone parameters body
