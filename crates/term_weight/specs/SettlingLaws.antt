-- Applications by the weights of their arguments: which are opaque, and what the others are and weigh.
use Rattle.std.proofs.Common.{◌≡◌, refl, sym, ap, ◌∙◌, ℕ, suc, Bool, true, false, cond, ◌&&◌, List, [], ◌∷◌, length, map, filter, Option, Some, None}
use Rattle.std.specs.Prelude.{if◌then◌else◌, not, nat_le, is_some}
use Rattle.std.specs.List.{list_all}
use Rattle.sv_list.specs.Bools.{and-first, and-second}
use Rattle.sv_terms.specs.declared.regex.Regex.{Regex}
use Rattle.sv_terms.specs.declared.regex.Regex.TheVariants as re
use Rattle.sv_terms.specs.declared.entry.Body.{Body}
use Rattle.sv_terms.specs.declared.entry.Body.TheVariants as body
use Rattle.sv_terms.specs.declared.op.Op.{Op}
use Rattle.sv_terms.specs.declared.op.Op.TheVariants as op
use Rattle.sv_terms.specs.declared.sort.Sort.{Sort}
use Rattle.sv_terms.specs.declared.sort.Sort.TheVariants as sort
use Rattle.sv_terms.specs.declared.term.Term.{Term}
use Rattle.sv_terms.specs.declared.term.Term.TheVariants as term
use Rattle.sv_terms.specs.declared.term.Term.TheOpen.{Term-F}
use Rattle.sv_terms.specs.declared.term.Term.TheFolds.{fold-Term, fold-roll-Term, map-Term, ind-Term}
use Rattle.sv_terms.specs.Sorting.{same_sort}
use Rattle.smt_names.specs.declared.function.Interpretation.{Interpretation}
use Rattle.smt_names.specs.declared.function.Interpretation.TheVariants as is
use Rattle.term_weight.specs.declared.weight.Factor.{Factor}
use Rattle.term_weight.specs.Bodies.{body_sort, literal, factor, layer_word, layer_factor, is_language, is_unknown, holds_unknown, term_of, regex_of, opaque}
use Rattle.term_weight.specs.Ranks.{apply, text_of, range_of, characters, combined, of_one, applied_as, unknowns, word_of}
use Rattle.term_weight.specs.Weights.{weight_of, as_term, unless, is_literal, opacity, plain, plain_weight, op_weight, in_weight, combined_weight, one_weight, regex_weight, language, of_languages}
use Rattle.term_weight.specs.FactorLaws.{holds-known, op-known}
use Rattle.term_weight.specs.LayerLaws.{weight-Truth, weight-Text, weight-Apply, weight-InRe, weight-term_of, weight-Empty, weight-All, weight-AnyChar, weight-Word, weight-Range, weight-Concat, weight-Union, weight-Inter, weight-Diff, weight-Star, weight-Plus, weight-Opt, weight-Comp, weight-Loop}

-- a literal by its factor
layer-literal : (x : Term-F Term) → is_some (layer_word (map-Term Term (Option (List ℕ)) (fold-Term (Option (List ℕ)) layer_word) x)) ≡ is_literal (layer_factor (map-Term Term Factor (fold-Term Factor layer_factor) x))
layer-literal (Term-F.Truth b) = refl
layer-literal (Term-F.Number n) = refl
layer-literal (Term-F.Text w) = refl
layer-literal (Term-F.Constant n s) = refl
layer-literal (Term-F.Apply o ts) = sym (op-known o (map (fold-Term Factor layer_factor) ts))
layer-literal (Term-F.InRe t r) = sym (holds-known (is_unknown (fold-Term Factor layer_factor t)))
layer-literal (Term-F.Related m t u) = sym (holds-known _)
layer-literal (Term-F.Opaque s) = refl

term-literal : (t : Term) → is_some (literal (body.Term t)) ≡ is_literal (factor (body.Term t))
term-literal = ind-Term (λ t. is_some (literal (body.Term t)) ≡ is_literal (factor (body.Term t))) (λ x y h.
    ap is_some (fold-roll-Term (Option (List ℕ)) layer_word x) ∙ layer-literal x ∙ ap is_literal (sym (fold-roll-Term Factor layer_factor x)))

pub is-literal : (b : Body) → is_some (literal b) ≡ is_literal (factor b)
is-literal (body.Term t) = term-literal t
is-literal (body.Language r) = refl

terms-weigh : (bs : List Body) → map (λ t. weight_of (body.Term t)) (map term_of bs) ≡ map as_term (map weight_of bs)
terms-weigh [] = refl
terms-weigh (b ∷ bs) = λ i. weight-term_of b i ∷ terms-weigh bs i

apply-weighs : (o : Op) (bs : List Body) → weight_of (apply o bs) ≡ op_weight o (map as_term (map weight_of bs))
apply-weighs o bs = weight-Apply o (map term_of bs) ∙ ap (op_weight o) (terms-weigh bs)

regex-weighs : (b : Body) → is_language b ≡ true → regex_weight (regex_of b) ≡ weight_of b
regex-weighs (body.Term t) h = absurd (cc)
regex-weighs (body.Language r) h = refl

all-languages : (bs : List Body) → list_all (λ w. w.is_language) (map weight_of bs) ≡ list_all is_language bs
all-languages [] = refl
all-languages (b ∷ bs) = ap (λ c. is_language b && c) (all-languages bs)

regexes-weigh : (bs : List Body) → list_all is_language bs ≡ true → map regex_weight (map regex_of bs) ≡ map weight_of bs
regexes-weigh [] h = refl
regexes-weigh (b ∷ bs) h = λ i. regex-weighs b (and-first (is_language b) (list_all is_language bs) h) i ∷ regexes-weigh bs (and-second (is_language b) (list_all is_language bs) h) i

count-unknowns : (bs : List Body) → length (filter (λ w. is_unknown w.factor) (map weight_of bs)) ≡ unknowns bs
count-unknowns [] = refl
count-unknowns (b ∷ bs) = one (holds_unknown b) (count-unknowns bs)
  where
    one : (t : Bool) → length (filter (λ w. is_unknown w.factor) (map weight_of bs)) ≡ length (filter holds_unknown bs) → length (cond t (weight_of b ∷ filter (λ w. is_unknown w.factor) (map weight_of bs)) (filter (λ w. is_unknown w.factor) (map weight_of bs))) ≡ length (cond t (b ∷ filter holds_unknown bs) (filter holds_unknown bs))
    one true e = ap suc e
    one false e = e

-- what is opaque unless a test holds
unless-some : (t : Bool) (s r : Sort) (x : Body) → unless t s ≡ Some r → (if t then x else opaque s) ≡ opaque r
unless-some true s r x e = absurd (cc)
unless-some false s r x e = let h : s ≡ r = cc in ap opaque h

unless-none : (t : Bool) (s : Sort) (x y : Body) → unless t s ≡ None → (if t then x else y) ≡ x
unless-none true s x y e = refl
unless-none false s x y e = absurd (cc)

unless-true : (t : Bool) (s : Sort) → unless t s ≡ None → t ≡ true
unless-true true s e = refl
unless-true false s e = absurd (cc)

-- what is opaque where a test holds
when-some : (t : Bool) (s r : Sort) (x : Body) → unless (not t) s ≡ Some r → (if t then opaque s else x) ≡ opaque r
when-some true s r x e = let h : s ≡ r = cc in ap opaque h
when-some false s r x e = absurd (cc)

when-none : (t : Bool) (s : Sort) (x y : Body) → unless (not t) s ≡ None → (if t then y else x) ≡ x
when-none true s x y e = absurd (cc)
when-none false s x y e = refl

some-opaque : (s r : Sort) → Some s ≡ Some r → opaque s ≡ opaque r
some-opaque s r e = let h : s ≡ r = cc in ap opaque h

text-opaque : (o : Option (List ℕ)) (t : Bool) (r : Sort) → is_some o ≡ t → unless t sort.RegLan ≡ Some r → text_of o ≡ opaque r
text-opaque None true r h e = absurd (cc)
text-opaque None false r h e = some-opaque sort.RegLan r e
text-opaque (Some w) true r h e = absurd (cc)
text-opaque (Some w) false r h e = absurd (cc)

text-weighs : (o : Option (List ℕ)) → is_some o ≡ true → weight_of (text_of o) ≡ language 1 0
text-weighs None h = absurd (cc)
text-weighs (Some w) h = weight-Word w

range-opaque : (o p : Option (List ℕ)) (t u : Bool) (r : Sort) → is_some o ≡ t → is_some p ≡ u → unless (t && u) sort.RegLan ≡ Some r → range_of o p ≡ opaque r
range-opaque None p true u r h k e = absurd (cc)
range-opaque None p false u r h k e = some-opaque sort.RegLan r e
range-opaque (Some w) None false u r h k e = absurd (cc)
range-opaque (Some w) None true true r h k e = absurd (cc)
range-opaque (Some w) None true false r h k e = some-opaque sort.RegLan r e
range-opaque (Some w) (Some v) false u r h k e = absurd (cc)
range-opaque (Some w) (Some v) true false r h k e = absurd (cc)
range-opaque (Some w) (Some v) true true r h k e = absurd (cc)

choose-range : (t : Bool) (lo hi : ℕ) → regex_weight (if t then re.Range lo hi else re.Empty) ≡ language 1 0
choose-range true lo hi = weight-Range lo hi
choose-range false lo hi = weight-Empty

characters-weigh : (lo hi : List ℕ) → regex_weight (characters lo hi) ≡ language 1 0
characters-weigh [] hi = weight-Empty
characters-weigh (a ∷ []) [] = weight-Empty
characters-weigh (a ∷ []) (b ∷ []) = choose-range (nat_le a b) a b
characters-weigh (a ∷ []) (b ∷ c ∷ hi) = weight-Empty
characters-weigh (a ∷ b ∷ lo) hi = weight-Empty

range-weighs : (o p : Option (List ℕ)) → is_some o ≡ true → is_some p ≡ true → weight_of (range_of o p) ≡ language 1 0
range-weighs None p h k = absurd (cc)
range-weighs (Some w) None h k = absurd (cc)
range-weighs (Some w) (Some v) h k = characters-weigh w v

combined-opaque : (make : List Regex → Regex) (bs : List Body) (r : Sort) → of_languages (map weight_of bs) ≡ Some r → combined make bs ≡ opaque r
combined-opaque make bs r e = unless-some (list_all is_language bs) sort.RegLan r (body.Language (make (map regex_of bs))) (ap (λ t. unless t sort.RegLan) (sym (all-languages bs)) ∙ e)

combined-plain : (make : List Regex → Regex) (bs : List Body) → of_languages (map weight_of bs) ≡ None → combined make bs ≡ body.Language (make (map regex_of bs))
combined-plain make bs e = unless-none (list_all is_language bs) sort.RegLan (body.Language (make (map regex_of bs))) (opaque sort.RegLan) (ap (λ t. unless t sort.RegLan) (sym (all-languages bs)) ∙ e)

languages-true : (bs : List Body) → of_languages (map weight_of bs) ≡ None → list_all is_language bs ≡ true
languages-true bs e = unless-true (list_all is_language bs) sort.RegLan (ap (λ t. unless t sort.RegLan) (sym (all-languages bs)) ∙ e)

many-weigh : (bs : List Body) → of_languages (map weight_of bs) ≡ None → combined_weight (map regex_weight (map regex_of bs)) ≡ combined_weight (map weight_of bs)
many-weigh bs e = ap combined_weight (regexes-weigh bs (languages-true bs e))

one-weighs : (make : Regex → Regex) → ((r : Regex) → regex_weight (make r) ≡ combined_weight (regex_weight r ∷ [])) → (bs : List Body) → of_languages (map weight_of bs) ≡ None → regex_weight (of_one make (map regex_of bs)) ≡ one_weight (map weight_of bs)
one-weighs make h [] e = weight-Empty
one-weighs make h (b ∷ []) e = h (regex_of b) ∙ many-weigh (b ∷ []) e
one-weighs make h (b ∷ c ∷ bs) e = weight-Empty

literals : (b c : Body) → (is_literal (factor b) && is_literal (factor c)) ≡ (is_some (literal b) && is_some (literal c))
literals b c = λ i. sym (is-literal b) i && sym (is-literal c) i

product-count : (bs : List Body) → unless (not (nat_le 2 (unknowns bs))) sort.Int ≡ unless (not (nat_le 2 (length (filter (λ w. is_unknown w.factor) (map weight_of bs))))) sort.Int
product-count bs = ap (λ n. unless (not (nat_le 2 n)) sort.Int) (sym (count-unknowns bs))

module _ (gives : Sort) where
  pub opaque-so : (k : Interpretation) (bs : List Body) (r : Sort) → opacity gives k (map weight_of bs) ≡ Some r → applied_as gives k bs ≡ opaque r
  opaque-so (is.Truth b) bs r e = absurd (cc)
  opaque-so (is.Meaning o) bs r e = absurd (cc)
  opaque-so (is.Equality o) [] r e = some-opaque sort.Bool r e
  opaque-so (is.Equality o) (b ∷ bs) r e = when-some (same_sort sort.RegLan (body_sort b)) sort.Bool r (apply o (b ∷ bs)) e
  opaque-so is.Choice [] r e = some-opaque sort.Bool r e
  opaque-so is.Choice (a ∷ []) r e = some-opaque sort.Bool r e
  opaque-so is.Choice (a ∷ b ∷ []) r e = some-opaque sort.Bool r e
  opaque-so is.Choice (a ∷ b ∷ c ∷ []) r e = unless-some (same_sort sort.Bool (body_sort b)) (body_sort b) r (apply op.IfThenElse (a ∷ b ∷ c ∷ [])) e
  opaque-so is.Choice (a ∷ b ∷ c ∷ d ∷ bs) r e = some-opaque sort.Bool r e
  opaque-so is.Product bs r e = when-some (nat_le 2 (unknowns bs)) sort.Int r (apply op.Multiply bs) (product-count bs ∙ e)
  opaque-so (is.Replacement o) [] r e = some-opaque sort.String r e
  opaque-so (is.Replacement o) (a ∷ []) r e = some-opaque sort.String r e
  opaque-so (is.Replacement o) (a ∷ b ∷ []) r e = some-opaque sort.String r e
  opaque-so (is.Replacement o) (a ∷ b ∷ c ∷ []) r e = unless-some (is_some (literal b) && is_some (literal c)) sort.String r (apply o (a ∷ b ∷ c ∷ [])) (ap (λ t. unless t sort.String) (sym (literals b c)) ∙ e)
  opaque-so (is.Replacement o) (a ∷ b ∷ c ∷ d ∷ bs) r e = some-opaque sort.String r e
  opaque-so is.Opaque bs r e = some-opaque gives r e
  opaque-so is.Membership [] r e = some-opaque sort.Bool r e
  opaque-so is.Membership (a ∷ []) r e = some-opaque sort.Bool r e
  opaque-so is.Membership (a ∷ b ∷ []) r e = unless-some (is_language b) sort.Bool r (body.Term (term.InRe (term_of a) (regex_of b))) e
  opaque-so is.Membership (a ∷ b ∷ c ∷ bs) r e = some-opaque sort.Bool r e
  opaque-so is.TextOf [] r e = some-opaque sort.RegLan r e
  opaque-so is.TextOf (b ∷ []) r e = text-opaque (literal b) (is_literal (factor b)) r (is-literal b) e
  opaque-so is.TextOf (b ∷ c ∷ bs) r e = some-opaque sort.RegLan r e
  opaque-so is.Empty bs r e = absurd (cc)
  opaque-so is.All bs r e = absurd (cc)
  opaque-so is.AnyChar bs r e = absurd (cc)
  opaque-so is.Concat bs r e = combined-opaque re.Concat bs r e
  opaque-so is.Union bs r e = combined-opaque re.Union bs r e
  opaque-so is.Inter bs r e = combined-opaque re.Inter bs r e
  opaque-so is.Diff bs r e = combined-opaque re.Diff bs r e
  opaque-so is.Star bs r e = combined-opaque (of_one re.Star) bs r e
  opaque-so is.Plus bs r e = combined-opaque (of_one re.Plus) bs r e
  opaque-so is.Opt bs r e = combined-opaque (of_one re.Opt) bs r e
  opaque-so is.Comp bs r e = combined-opaque (of_one re.Comp) bs r e
  opaque-so is.Range [] r e = some-opaque sort.RegLan r e
  opaque-so is.Range (a ∷ []) r e = some-opaque sort.RegLan r e
  opaque-so is.Range (a ∷ b ∷ []) r e = range-opaque (literal a) (literal b) (is_literal (factor a)) (is_literal (factor b)) r (is-literal a) (is-literal b) e
  opaque-so is.Range (a ∷ b ∷ c ∷ bs) r e = some-opaque sort.RegLan r e
  opaque-so (is.Loop i j) bs r e = combined-opaque (of_one (λ r. re.Loop r i j)) bs r e
  opaque-so (is.Character c) bs r e = absurd (cc)

  pub plain-so : (k : Interpretation) (bs : List Body) → opacity gives k (map weight_of bs) ≡ None → applied_as gives k bs ≡ plain k bs
  plain-so (is.Truth b) bs e = refl
  plain-so (is.Meaning o) bs e = refl
  plain-so (is.Equality o) [] e = absurd (cc)
  plain-so (is.Equality o) (b ∷ bs) e = when-none (same_sort sort.RegLan (body_sort b)) sort.Bool (apply o (b ∷ bs)) (opaque sort.Bool) e
  plain-so is.Choice [] e = absurd (cc)
  plain-so is.Choice (a ∷ []) e = absurd (cc)
  plain-so is.Choice (a ∷ b ∷ []) e = absurd (cc)
  plain-so is.Choice (a ∷ b ∷ c ∷ []) e = unless-none (same_sort sort.Bool (body_sort b)) (body_sort b) (apply op.IfThenElse (a ∷ b ∷ c ∷ [])) (opaque (body_sort b)) e
  plain-so is.Choice (a ∷ b ∷ c ∷ d ∷ bs) e = absurd (cc)
  plain-so is.Product bs e = when-none (nat_le 2 (unknowns bs)) sort.Int (apply op.Multiply bs) (opaque sort.Int) (product-count bs ∙ e)
  plain-so (is.Replacement o) [] e = absurd (cc)
  plain-so (is.Replacement o) (a ∷ []) e = absurd (cc)
  plain-so (is.Replacement o) (a ∷ b ∷ []) e = absurd (cc)
  plain-so (is.Replacement o) (a ∷ b ∷ c ∷ []) e = unless-none (is_some (literal b) && is_some (literal c)) sort.String (apply o (a ∷ b ∷ c ∷ [])) (opaque sort.String) (ap (λ t. unless t sort.String) (sym (literals b c)) ∙ e)
  plain-so (is.Replacement o) (a ∷ b ∷ c ∷ d ∷ bs) e = absurd (cc)
  plain-so is.Opaque bs e = absurd (cc)
  plain-so is.Membership [] e = absurd (cc)
  plain-so is.Membership (a ∷ []) e = absurd (cc)
  plain-so is.Membership (a ∷ b ∷ []) e = unless-none (is_language b) sort.Bool (body.Term (term.InRe (term_of a) (regex_of b))) (opaque sort.Bool) e
  plain-so is.Membership (a ∷ b ∷ c ∷ bs) e = absurd (cc)
  plain-so is.TextOf [] e = absurd (cc)
  plain-so is.TextOf (b ∷ []) e = refl
  plain-so is.TextOf (b ∷ c ∷ bs) e = absurd (cc)
  plain-so is.Empty bs e = refl
  plain-so is.All bs e = refl
  plain-so is.AnyChar bs e = refl
  plain-so is.Concat bs e = combined-plain re.Concat bs e
  plain-so is.Union bs e = combined-plain re.Union bs e
  plain-so is.Inter bs e = combined-plain re.Inter bs e
  plain-so is.Diff bs e = combined-plain re.Diff bs e
  plain-so is.Star bs e = combined-plain (of_one re.Star) bs e
  plain-so is.Plus bs e = combined-plain (of_one re.Plus) bs e
  plain-so is.Opt bs e = combined-plain (of_one re.Opt) bs e
  plain-so is.Comp bs e = combined-plain (of_one re.Comp) bs e
  plain-so is.Range [] e = absurd (cc)
  plain-so is.Range (a ∷ []) e = absurd (cc)
  plain-so is.Range (a ∷ b ∷ []) e = refl
  plain-so is.Range (a ∷ b ∷ c ∷ bs) e = absurd (cc)
  plain-so (is.Loop i j) bs e = combined-plain (of_one (λ r. re.Loop r i j)) bs e
  plain-so (is.Character c) bs e = refl

  pub plain-weighs : (k : Interpretation) (bs : List Body) → opacity gives k (map weight_of bs) ≡ None → weight_of (plain k bs) ≡ plain_weight k (map weight_of bs)
  plain-weighs (is.Truth b) bs e = weight-Truth b
  plain-weighs (is.Meaning o) bs e = apply-weighs o bs
  plain-weighs (is.Equality o) bs e = apply-weighs o bs
  plain-weighs is.Choice bs e = apply-weighs op.IfThenElse bs
  plain-weighs is.Product bs e = apply-weighs op.Multiply bs
  plain-weighs (is.Replacement o) bs e = apply-weighs o bs
  plain-weighs is.Opaque bs e = absurd (cc)
  plain-weighs is.Membership [] e = absurd (cc)
  plain-weighs is.Membership (a ∷ []) e = absurd (cc)
  plain-weighs is.Membership (a ∷ b ∷ []) e = weight-InRe (term_of a) (regex_of b) ∙ (λ i. in_weight (weight-term_of a i) (regex-weighs b (unless-true (is_language b) sort.Bool e) i))
  plain-weighs is.Membership (a ∷ b ∷ c ∷ bs) e = absurd (cc)
  plain-weighs is.TextOf [] e = absurd (cc)
  plain-weighs is.TextOf (b ∷ []) e = text-weighs (literal b) (is-literal b ∙ unless-true (is_literal (factor b)) sort.RegLan e)
  plain-weighs is.TextOf (b ∷ c ∷ bs) e = absurd (cc)
  plain-weighs is.Empty bs e = weight-Empty
  plain-weighs is.All bs e = weight-All
  plain-weighs is.AnyChar bs e = weight-AnyChar
  plain-weighs is.Concat bs e = weight-Concat (map regex_of bs) ∙ many-weigh bs e
  plain-weighs is.Union bs e = weight-Union (map regex_of bs) ∙ many-weigh bs e
  plain-weighs is.Inter bs e = weight-Inter (map regex_of bs) ∙ many-weigh bs e
  plain-weighs is.Diff bs e = weight-Diff (map regex_of bs) ∙ many-weigh bs e
  plain-weighs is.Star bs e = one-weighs re.Star weight-Star bs e
  plain-weighs is.Plus bs e = one-weighs re.Plus weight-Plus bs e
  plain-weighs is.Opt bs e = one-weighs re.Opt weight-Opt bs e
  plain-weighs is.Comp bs e = one-weighs re.Comp weight-Comp bs e
  plain-weighs is.Range [] e = absurd (cc)
  plain-weighs is.Range (a ∷ []) e = absurd (cc)
  plain-weighs is.Range (a ∷ b ∷ []) e =
      let h = unless-true (is_literal (factor a) && is_literal (factor b)) sort.RegLan e in
      range-weighs (literal a) (literal b) (is-literal a ∙ and-first (is_literal (factor a)) (is_literal (factor b)) h) (is-literal b ∙ and-second (is_literal (factor a)) (is_literal (factor b)) h)
  plain-weighs is.Range (a ∷ b ∷ c ∷ bs) e = absurd (cc)
  plain-weighs (is.Loop i j) bs e = one-weighs (λ r. re.Loop r i j) (λ r. weight-Loop r i j) bs e
  plain-weighs (is.Character c) bs e = weight-Text (word_of c)
