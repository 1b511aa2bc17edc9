-- The size of a term with `let` and macros put in.
use Rattle.std.specs.Prelude.{ℕ, ◌+◌, max, Bool, nat_le, ◌&&◌, List, [], ◌∷◌}
use Rattle.sv_terms.specs.declared.regex.Regex.{Regex}
use Rattle.sv_terms.specs.declared.regex.Regex.TheFolds.{fold-Regex}
use Rattle.sv_terms.specs.declared.regex.Regex.TheOpen.{Regex-F}
use Rattle.sv_terms.specs.declared.entry.Body.{Body}
use Rattle.sv_terms.specs.declared.limits.TheConstants.{MOST_NODES, MOST_NESTING}
use Rattle.sv_terms.specs.declared.entry.Body.TheVariants as body
use Rattle.sv_terms.specs.declared.term.Term.TheOpen.{Term-F}
use Rattle.sv_terms.specs.declared.term.Term.TheFolds.{fold-Term}

abbrev pub total : List ℕ → ℕ
total [] = 0
total (n ∷ ns) = n + total ns

abbrev pub greatest : List ℕ → ℕ
greatest [] = 0
greatest (n ∷ ns) = max n (greatest ns)

-- what a regular expression measures, if one with these parts measures so much
abbrev pub regex_measure : (List ℕ → ℕ) → Regex-F ℕ → ℕ
regex_measure of_parts (Regex-F.Concat ns) = of_parts ns
regex_measure of_parts (Regex-F.Union ns) = of_parts ns
regex_measure of_parts (Regex-F.Inter ns) = of_parts ns
regex_measure of_parts (Regex-F.Diff ns) = of_parts ns
regex_measure of_parts (Regex-F.Star n) = of_parts (n ∷ [])
regex_measure of_parts (Regex-F.Plus n) = of_parts (n ∷ [])
regex_measure of_parts (Regex-F.Opt n) = of_parts (n ∷ [])
regex_measure of_parts (Regex-F.Comp n) = of_parts (n ∷ [])
regex_measure of_parts (Regex-F.Loop n i j) = of_parts (n ∷ [])
regex_measure of_parts _ = of_parts []

-- the same for a term, given what regular expressions measure
abbrev pub term_measure : (Regex → ℕ) → (List ℕ → ℕ) → Term-F ℕ → ℕ
term_measure of_regex of_parts (Term-F.Apply o ns) = of_parts ns
term_measure of_regex of_parts (Term-F.InRe n r) = of_parts (n ∷ of_regex r ∷ [])
term_measure of_regex of_parts (Term-F.Related m n k) = of_parts (n ∷ k ∷ [])
term_measure of_regex of_parts _ = of_parts []

-- one node more than the parts have
abbrev pub one_more : List ℕ → ℕ
one_more ns = 1 + total ns

-- nested by one more than the deepest part; what has no parts isn't nested
abbrev pub one_deeper : List ℕ → ℕ
one_deeper [] = 0
one_deeper (n ∷ ns) = 1 + greatest (n ∷ ns)

abbrev pub regex_nodes : Regex → ℕ
regex_nodes = fold-Regex ℕ (regex_measure one_more)

abbrev pub regex_nesting : Regex → ℕ
regex_nesting = fold-Regex ℕ (regex_measure one_deeper)

-- the number of nodes: each function, constant, number, word and opaque part is one
abbrev pub nodes : Body → ℕ
nodes (body.Term t) = fold-Term ℕ (term_measure regex_nodes one_more) t
nodes (body.Language r) = regex_nodes r

-- how many functions stand in one another, at the deepest place
abbrev pub nesting : Body → ℕ
nesting (body.Term t) = fold-Term ℕ (term_measure regex_nesting one_deeper) t
nesting (body.Language r) = regex_nesting r

-- not too many nodes, and not nested too deep
abbrev pub fits : Body → Bool
fits b = nat_le (nodes b) MOST_NODES && nat_le (nesting b) MOST_NESTING
