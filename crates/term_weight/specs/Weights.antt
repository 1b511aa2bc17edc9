-- What is known of a term or regular expression before it is built: its weight. Its numbers end at 2^32 - 1, which stands for all that are larger.
use Rattle.std.specs.Prelude.{ℕ, suc, min, slice_get, cond, Bool, true, false, nat_le, ◌&&◌, ◌||◌, not, List, [], ◌∷◌, length, map, filter, Option, Some, None, if◌then◌else◌}
use Rattle.std.specs.List.{list_all}
use Rattle.std.specs.Option.{option_map}
use Rattle.sv_terms.specs.declared.regex.Regex.{Regex}
use Rattle.sv_terms.specs.declared.regex.Regex.TheVariants as re
use Rattle.sv_terms.specs.declared.entry.Body.{Body}
use Rattle.sv_terms.specs.declared.limits.TheConstants.{MOST_NODES, MOST_NESTING}
use Rattle.sv_terms.specs.declared.entry.Body.TheVariants as body
use Rattle.sv_terms.specs.declared.op.Op.{Op}
use Rattle.sv_terms.specs.declared.op.Op.TheVariants as op
use Rattle.sv_terms.specs.declared.sort.Sort.{Sort}
use Rattle.sv_terms.specs.declared.sort.Sort.TheVariants as sort
use Rattle.sv_terms.specs.declared.term.Term.{Term}
use Rattle.sv_terms.specs.declared.term.Term.TheVariants as term
use Rattle.sv_terms.specs.declared.term.Term.TheOpen.{Term-F}
use Rattle.sv_terms.specs.declared.term.Term.TheFolds.{fold-Term}
use Rattle.sv_terms.specs.Sorting.{same_sort, op_sort}
use Rattle.smt_names.specs.declared.function.Interpretation.{Interpretation}
use Rattle.smt_names.specs.declared.function.Interpretation.TheVariants as is
use Rattle.term_weight.specs.declared.weight.Factor.{Factor}
use Rattle.term_weight.specs.declared.weight.Factor.TheVariants.{Literal, Known, Unknown}
use Rattle.term_weight.specs.declared.weight.Weight.{Weight}
use Rattle.term_weight.specs.Bodies.{body_sort, factor, literal, is_language, term_of, regex_of, opaque, is_unknown, holds, applied_factor}
use Rattle.term_weight.specs.Ranks.{apply, text_of, range_of, of_one, word_of}
use Rattle.smt_names.specs.Signature.{Name, same_name}
use Rattle.term_weight.specs.Sizes.{nodes, nesting, one_more, one_deeper, regex_nodes, regex_nesting}

abbrev pub capped : ℕ → ℕ
capped n = min n 4294967295

abbrev pub weight_of : Body → Weight
weight_of b = record { sort = body_sort b; factor = factor b; is_language = is_language b; nodes = capped (nodes b); nesting = capped (nesting b) }

abbrev pub weight_fits : Weight → Bool
weight_fits w = nat_le w.nodes MOST_NODES && nat_le w.nesting MOST_NESTING

-- a term of one node
abbrev pub leaf : Sort → Factor → Weight
leaf s f = record { sort = s; factor = f; is_language = false; nodes = 1; nesting = 0 }

abbrev pub opaque_weight : Sort → Weight
opaque_weight s = leaf s Unknown

-- a regular expression of this size
abbrev pub language : ℕ → ℕ → Weight
language n d = record { sort = sort.RegLan; factor = Known; is_language = true; nodes = n; nesting = d }

abbrev pub regex_weight : Regex → Weight
regex_weight r = language (capped (regex_nodes r)) (capped (regex_nesting r))

-- what stands where a term is wanted: a regular expression is opaque there
abbrev pub as_term : Weight → Weight
as_term w = if w.is_language then opaque_weight sort.RegLan else w

-- a part as it is counted: where terms are wanted, or as it is
abbrev pub counted : Bool → Weight → Weight
counted true w = as_term w
counted false w = w

-- a function of parts of these weights
abbrev pub around : Sort → Factor → Bool → List Weight → Weight
around s f l ws = record { sort = s; factor = f; is_language = l; nodes = capped (one_more (map (λ w. w.nodes) ws)); nesting = capped (one_deeper (map (λ w. w.nesting) ws)) }

abbrev pub op_weight : Op → List Weight → Weight
op_weight o ws = around (op_sort o) (applied_factor o (map (λ w. w.factor) ws)) false ws

abbrev pub in_weight : Weight → Weight → Weight
in_weight w r = around sort.Bool (holds (is_unknown w.factor)) false (w ∷ r ∷ [])

abbrev pub related_weight : Weight → Weight → Weight
related_weight v w = around sort.Bool (holds (is_unknown v.factor || is_unknown w.factor)) false (v ∷ w ∷ [])

-- what a transducer relates; two alone
abbrev pub pair_weight : List Weight → Weight
pair_weight (v ∷ w ∷ []) = related_weight (as_term v) (as_term w)
pair_weight _ = opaque_weight sort.Bool

abbrev pub combined_weight : List Weight → Weight
combined_weight ws = around sort.RegLan Known true ws

abbrev pub is_literal : Factor → Bool
is_literal Literal = true
is_literal _ = false

-- this sort, where the test fails
abbrev pub unless : Bool → Sort → Option Sort
unless true s = None
unless false s = Some s

-- the sort of what an application is by its sense and the weights of its arguments, where it is opaque
abbrev pub of_equality : List Weight → Option Sort
of_equality [] = Some sort.Bool
of_equality (w ∷ ws) = unless (not (same_sort sort.RegLan w.sort)) sort.Bool

abbrev pub of_choice : List Weight → Option Sort
of_choice (v ∷ w ∷ u ∷ []) = unless (same_sort sort.Bool w.sort) w.sort
of_choice _ = Some sort.Bool

abbrev pub of_product : List Weight → Option Sort
of_product ws = unless (not (nat_le 2 (length (filter (λ w. is_unknown w.factor) ws)))) sort.Int

abbrev pub of_replacement : List Weight → Option Sort
of_replacement (v ∷ w ∷ u ∷ []) = unless (is_literal w.factor && is_literal u.factor) sort.String
of_replacement _ = Some sort.String

abbrev pub of_membership : List Weight → Option Sort
of_membership (v ∷ w ∷ []) = unless w.is_language sort.Bool
of_membership _ = Some sort.Bool

abbrev pub of_text : List Weight → Option Sort
of_text (w ∷ []) = unless (is_literal w.factor) sort.RegLan
of_text _ = Some sort.RegLan

abbrev pub of_range : List Weight → Option Sort
of_range (v ∷ w ∷ []) = unless (is_literal v.factor && is_literal w.factor) sort.RegLan
of_range _ = Some sort.RegLan

abbrev pub of_languages : List Weight → Option Sort
of_languages ws = unless (list_all (λ w. w.is_language) ws) sort.RegLan

abbrev pub opacity : Sort → Interpretation → List Weight → Option Sort
opacity gives (is.Truth b) ws = None
opacity gives (is.Meaning o) ws = None
opacity gives (is.Equality o) ws = of_equality ws
opacity gives is.Choice ws = of_choice ws
opacity gives is.Product ws = of_product ws
opacity gives (is.Replacement o) ws = of_replacement ws
opacity gives is.Opaque ws = Some gives
opacity gives is.Membership ws = of_membership ws
opacity gives is.TextOf ws = of_text ws
opacity gives is.Range ws = of_range ws
opacity gives is.Empty ws = None
opacity gives is.All ws = None
opacity gives is.AnyChar ws = None
opacity gives (is.Character c) ws = None
opacity gives is.Concat ws = of_languages ws
opacity gives is.Union ws = of_languages ws
opacity gives is.Inter ws = of_languages ws
opacity gives is.Diff ws = of_languages ws
opacity gives is.Star ws = of_languages ws
opacity gives is.Plus ws = of_languages ws
opacity gives is.Opt ws = of_languages ws
opacity gives is.Comp ws = of_languages ws
opacity gives (is.Loop i j) ws = of_languages ws

abbrev pub tested : List Body → Body
tested (w ∷ r ∷ []) = body.Term (term.InRe (term_of w) (regex_of r))
tested _ = opaque sort.Bool

abbrev pub worded : List Body → Body
worded (b ∷ []) = text_of (literal b)
worded _ = opaque sort.RegLan

abbrev pub ranged : List Body → Body
ranged (b ∷ c ∷ []) = range_of (literal b) (literal c)
ranged _ = opaque sort.RegLan

abbrev pub around_one : Interpretation → Regex → Regex
around_one is.Star r = re.Star r
around_one is.Plus r = re.Plus r
around_one is.Opt r = re.Opt r
around_one is.Comp r = re.Comp r
around_one (is.Loop i j) r = re.Loop r i j
around_one _ r = re.Empty

-- an application that isn't opaque
abbrev pub plain : Interpretation → List Body → Body
plain (is.Truth b) bs = body.Term (term.Truth b)
plain (is.Meaning o) bs = apply o bs
plain (is.Equality o) bs = apply o bs
plain is.Choice bs = apply op.IfThenElse bs
plain is.Product bs = apply op.Multiply bs
plain (is.Replacement o) bs = apply o bs
plain is.Membership bs = tested bs
plain is.TextOf bs = worded bs
plain is.Range bs = ranged bs
plain is.Empty bs = body.Language re.Empty
plain is.All bs = body.Language re.All
plain is.AnyChar bs = body.Language re.AnyChar
plain (is.Character c) bs = body.Term (term.Text (word_of c))
plain is.Opaque bs = opaque sort.Bool
plain is.Concat bs = body.Language (re.Concat (map regex_of bs))
plain is.Union bs = body.Language (re.Union (map regex_of bs))
plain is.Inter bs = body.Language (re.Inter (map regex_of bs))
plain is.Diff bs = body.Language (re.Diff (map regex_of bs))
plain is.Star bs = body.Language (of_one re.Star (map regex_of bs))
plain is.Plus bs = body.Language (of_one re.Plus (map regex_of bs))
plain is.Opt bs = body.Language (of_one re.Opt (map regex_of bs))
plain is.Comp bs = body.Language (of_one re.Comp (map regex_of bs))
plain (is.Loop i j) bs = body.Language (of_one (λ r. re.Loop r i j) (map regex_of bs))

-- its weight, by those of the arguments; a combination of one part is none of any other number
abbrev pub one_weight : List Weight → Weight
one_weight (w ∷ []) = combined_weight (w ∷ [])
one_weight _ = language 1 0

abbrev pub membership_weight : List Weight → Weight
membership_weight (w ∷ r ∷ []) = in_weight (as_term w) r
membership_weight _ = opaque_weight sort.Bool

abbrev pub plain_weight : Interpretation → List Weight → Weight
plain_weight (is.Truth b) ws = leaf sort.Bool Known
plain_weight (is.Meaning o) ws = op_weight o (map as_term ws)
plain_weight (is.Equality o) ws = op_weight o (map as_term ws)
plain_weight is.Choice ws = op_weight op.IfThenElse (map as_term ws)
plain_weight is.Product ws = op_weight op.Multiply (map as_term ws)
plain_weight (is.Replacement o) ws = op_weight o (map as_term ws)
plain_weight is.Membership ws = membership_weight ws
plain_weight is.Opaque ws = opaque_weight sort.Bool
plain_weight is.TextOf ws = language 1 0
plain_weight is.Range ws = language 1 0
plain_weight is.Empty ws = language 1 0
plain_weight is.All ws = language 1 0
plain_weight is.AnyChar ws = language 1 0
plain_weight (is.Character c) ws = leaf sort.String Literal
plain_weight is.Concat ws = combined_weight ws
plain_weight is.Union ws = combined_weight ws
plain_weight is.Inter ws = combined_weight ws
plain_weight is.Diff ws = combined_weight ws
plain_weight is.Star ws = one_weight ws
plain_weight is.Plus ws = one_weight ws
plain_weight is.Opt ws = one_weight ws
plain_weight is.Comp ws = one_weight ws
plain_weight (is.Loop i j) ws = one_weight ws

-- the weight of a macro's body, if a name has this weight where it is a parameter
abbrev pub or_leaf : Sort → Option Weight → Weight
or_leaf s (Some w) = w
or_leaf s None = leaf s Unknown

abbrev pub weigh_layer : (Name → Option Weight) → Term-F Weight → Weight
weigh_layer known (Term-F.Truth b) = leaf sort.Bool Known
weigh_layer known (Term-F.Number n) = leaf sort.Int Known
weigh_layer known (Term-F.Text w) = leaf sort.String Literal
weigh_layer known (Term-F.Constant n s) = or_leaf s (known n)
weigh_layer known (Term-F.Apply o ws) = op_weight o (map as_term ws)
weigh_layer known (Term-F.InRe w r) = in_weight (as_term w) (regex_weight r)
weigh_layer known (Term-F.Related m v w) = related_weight (as_term v) (as_term w)
weigh_layer known (Term-F.Opaque s) = opaque_weight s

abbrev pub weighed : (Name → Option Weight) → Term → Weight
weighed known = fold-Term Weight (weigh_layer known)

-- by the place of its parameter among the parameters
abbrev pub place_of : Name → List (Name × Sort) → Option ℕ
place_of n [] = None
place_of n (p ∷ ps) = cond (same_name n p.0) (Some 0) (option_map suc (place_of n ps))

-- what is at a place, if there is a place
abbrev pub nth_if : {A : Type 0} → List A → Option ℕ → Option A
nth_if as_ None = None
nth_if as_ (Some i) = slice_get as_ i

abbrev pub argument_weight : List (Name × Sort) → List Weight → Name → Option Weight
argument_weight parameters weights n = option_map as_term (nth_if weights (place_of n parameters))

-- the weight of the body of a macro at arguments of these weights
abbrev pub call_weight : List (Name × Sort) → List Weight → Body → Weight
call_weight parameters weights (body.Term t) = weighed (argument_weight parameters weights) t
call_weight parameters weights (body.Language r) = regex_weight r
