-- Which arguments are taken, by number and by sort, and what an application is.
use Rattle.std.specs.Prelude.{ℕ, Bool, true, false, nat_eq, nat_le, not, ◌&&◌, List, [], ◌∷◌, length, map, Option, Some, None, if◌then◌else◌, is_some}
use Rattle.std.specs.List.{list_all, filter}
use Rattle.sv_terms.specs.declared.regex.Regex.{Regex}
use Rattle.sv_terms.specs.declared.regex.Regex.TheVariants as re
use Rattle.sv_terms.specs.declared.entry.Body.{Body}
use Rattle.sv_terms.specs.declared.entry.Body.TheVariants as body
use Rattle.sv_terms.specs.declared.op.Op.{Op}
use Rattle.sv_terms.specs.declared.op.Op.TheVariants as op
use Rattle.sv_terms.specs.declared.sort.Sort.{Sort}
use Rattle.sv_terms.specs.declared.sort.Sort.TheVariants as sort
use Rattle.sv_terms.specs.declared.term.Term.TheVariants as term
use Rattle.sv_terms.specs.Sorting.{same_sort}
use Rattle.sv_word.specs.Words.{greatest_character}
use Rattle.smt_names.specs.declared.function.Function.{Function}
use Rattle.smt_names.specs.declared.function.ArgumentSorts.{ArgumentSorts}
use Rattle.smt_names.specs.declared.function.ArgumentSorts.TheVariants.{Nothing, One, Two, Three, Each, Many, Alike, Choice}
use Rattle.smt_names.specs.declared.function.Interpretation.{Interpretation}
use Rattle.smt_names.specs.declared.function.Interpretation.TheVariants as is
use Rattle.term_weight.specs.Bodies.{body_sort, literal, term_of, is_language, regex_of, opaque, holds_unknown}

-- whether so many arguments are taken
abbrev pub takes_count : ArgumentSorts → ℕ → Bool
takes_count Nothing n = nat_eq n 0
takes_count (One s) n = nat_eq n 1
takes_count (Two s t) n = nat_eq n 2
takes_count (Three s t u) n = nat_eq n 3
takes_count (Each s) n = nat_le 1 n
takes_count (Many s) n = nat_le 2 n
takes_count Alike n = nat_le 2 n
takes_count Choice n = nat_eq n 3

-- whether arguments of these sorts are taken
abbrev pub takes_sorts : ArgumentSorts → List Sort → Bool
takes_sorts Nothing [] = true
takes_sorts (One s) (a ∷ []) = same_sort s a
takes_sorts (Two s t) (a ∷ b ∷ []) = same_sort s a && same_sort t b
takes_sorts (Three s t u) (a ∷ b ∷ c ∷ []) = same_sort s a && same_sort t b && same_sort u c
takes_sorts (Each s) ss = list_all (same_sort s) ss
takes_sorts (Many s) ss = list_all (same_sort s) ss
takes_sorts Alike (a ∷ ss) = list_all (same_sort a) ss
takes_sorts Choice (a ∷ b ∷ c ∷ []) = same_sort sort.Bool a && same_sort b c && not (same_sort sort.RegLan b)
takes_sorts _ _ = false

-- whether they are of the sorts of a macro's parameters
abbrev pub are_of : List Sort → List Sort → Bool
are_of [] [] = true
are_of (s ∷ ss) (t ∷ ts) = same_sort s t && are_of ss ts
are_of _ _ = false

abbrev pub apply : Op → List Body → Body
apply o bs = body.Term (term.Apply o (map term_of bs))

-- over RegLan an equality is opaque
abbrev pub equality : Op → List Body → Body
equality o [] = opaque sort.Bool
equality o (b ∷ bs) = if same_sort sort.RegLan (body_sort b) then opaque sort.Bool else apply o (b ∷ bs)

-- `ite` has a meaning over Bool alone
abbrev pub choice : List Body → Body
choice (a ∷ b ∷ c ∷ []) = if same_sort sort.Bool (body_sort b) then apply op.IfThenElse (a ∷ b ∷ c ∷ []) else opaque (body_sort b)
choice _ = opaque sort.Bool

abbrev pub unknowns : List Body → ℕ
unknowns bs = length (filter holds_unknown bs)

-- a product of two or more factors that hold an unknown is opaque
abbrev pub product : List Body → Body
product bs = if nat_le 2 (unknowns bs) then opaque sort.Int else apply op.Multiply bs

-- a replacement has a meaning where pattern and replacement are literals
abbrev pub replacement : Op → List Body → Body
replacement o (w ∷ p ∷ u ∷ []) = if is_some (literal p) && is_some (literal u) then apply o (w ∷ p ∷ u ∷ []) else opaque sort.String
replacement o _ = opaque sort.String

abbrev pub membership : List Body → Body
membership (w ∷ r ∷ []) = if is_language r then body.Term (term.InRe (term_of w) (regex_of r)) else opaque sort.Bool
membership _ = opaque sort.Bool

abbrev pub text_of : Option (List ℕ) → Body
text_of (Some w) = body.Language (re.Text w)
text_of None = opaque sort.RegLan

-- the characters between two literals: none, unless each has one character and they are in order
abbrev pub characters : List ℕ → List ℕ → Regex
characters (lo ∷ []) (hi ∷ []) = if nat_le lo hi then re.Range lo hi else re.Empty
characters _ _ = re.Empty

abbrev pub range_of : Option (List ℕ) → Option (List ℕ) → Body
range_of (Some lo) (Some hi) = body.Language (characters lo hi)
range_of _ _ = opaque sort.RegLan

-- of regular expressions, where none has an opaque part
abbrev pub combined : (List Regex → Regex) → List Body → Body
combined make bs = if list_all is_language bs then body.Language (make (map regex_of bs)) else opaque sort.RegLan

abbrev pub of_one : (Regex → Regex) → List Regex → Regex
of_one make (r ∷ []) = make r
of_one make _ = re.Empty

-- the word of a character; no word has a greater number
abbrev pub word_of : ℕ → List ℕ
word_of c = if nat_le c greatest_character then c ∷ [] else []

-- what an application is by the sense of its function, which gives this sort
abbrev pub applied_as : Sort → Interpretation → List Body → Body
applied_as gives (is.Truth b) bs = body.Term (term.Truth b)
applied_as gives (is.Meaning o) bs = apply o bs
applied_as gives (is.Equality o) bs = equality o bs
applied_as gives is.Choice bs = choice bs
applied_as gives is.Product bs = product bs
applied_as gives (is.Replacement o) bs = replacement o bs
applied_as gives is.Opaque bs = opaque gives
applied_as gives is.Membership bs = membership bs
applied_as gives is.TextOf (b ∷ []) = text_of (literal b)
applied_as gives is.Empty bs = body.Language re.Empty
applied_as gives is.All bs = body.Language re.All
applied_as gives is.AnyChar bs = body.Language re.AnyChar
applied_as gives is.Concat bs = combined re.Concat bs
applied_as gives is.Union bs = combined re.Union bs
applied_as gives is.Inter bs = combined re.Inter bs
applied_as gives is.Diff bs = combined re.Diff bs
applied_as gives is.Star bs = combined (of_one re.Star) bs
applied_as gives is.Plus bs = combined (of_one re.Plus) bs
applied_as gives is.Opt bs = combined (of_one re.Opt) bs
applied_as gives is.Comp bs = combined (of_one re.Comp) bs
applied_as gives is.Range (b ∷ c ∷ []) = range_of (literal b) (literal c)
applied_as gives (is.Loop i j) bs = combined (of_one (λ r. re.Loop r i j)) bs
applied_as gives (is.Character c) bs = body.Term (term.Text (word_of c))
applied_as gives _ _ = opaque sort.RegLan

-- an application of a function to arguments that it takes
abbrev pub applied : Function → List Body → Body
applied f bs = applied_as f.gives f.sense bs
