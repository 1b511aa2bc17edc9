-- An application of a function to arguments that it takes has the sort that it gives.
use Rattle.std.proofs.Common.{◌≡◌, refl, sym, ap, ◌∙◌, subst, map, length, Bool, true, false, not, ◌&&◌, IsTrue, nat_le, List, [], ◌∷◌, Option, Some, None, if◌then◌else◌, is_some}
use Rattle.std.proofs.lemmas.List.{length-map}
use Rattle.std.specs.List.{list_all}
use Rattle.std.specs.Map.{lookup}
use Rattle.std.proofs.lemmas.Bool.{and_parts, and_from}
use mathlib.Core.Bool.{cond}
use Rattle.sv_terms.specs.declared.regex.Regex.{Regex}
use Rattle.sv_terms.specs.declared.regex.Regex.TheVariants as re
use Rattle.sv_terms.specs.declared.entry.Body.{Body}
use Rattle.sv_terms.specs.declared.entry.Body.TheVariants as body
use Rattle.sv_terms.specs.declared.op.Op.{Op}
use Rattle.sv_terms.specs.declared.op.Op.TheVariants as op
use Rattle.sv_terms.specs.declared.sort.Sort.{Sort}
use Rattle.sv_terms.specs.declared.sort.Sort.TheVariants as sort
use Rattle.sv_terms.specs.declared.term.Term.{Term}
use Rattle.sv_terms.specs.declared.term.Term.TheVariants as v
use Rattle.sv_terms.specs.Language.{Word}
use Rattle.sv_terms.specs.Sorting.{same_sort, sort_if, some_of, more_of, alike, applied_sort, op_sort}
use Rattle.sv_terms.proofs.ValueSorts.{same_is}
use Rattle.smt_names.specs.declared.function.Function.{Function}
use Rattle.smt_names.specs.declared.function.ArgumentSorts.{ArgumentSorts}
use Rattle.smt_names.specs.declared.function.ArgumentSorts.TheVariants.{Nothing, One, Two, Three, Each as Each_of, Many, Alike, Choice}
use Rattle.smt_names.specs.declared.function.Interpretation.{Interpretation}
use Rattle.smt_names.specs.declared.function.Interpretation.TheVariants as is
use Rattle.term_weight.specs.Bodies.{body_sort, literal, term_of, is_language, regex_of, opaque}
use Rattle.term_weight.specs.Ranks.{takes_count, takes_sorts, apply, equality, choice, unknowns, product, replacement, membership, text_of, characters, range_of, combined, of_one, applied_as, applied}
use Rattle.smt_names.specs.Signature.{Name, Rows, signature}
use Rattle.sort_check.proofs.WellTerms.{Each, Fit, Fits, fit-truth, fit-text, fit-opaque, fit-member, fit-apply}

pub same-self : (s : Sort) → IsTrue (same_sort s s)
same-self sort.Bool = refl
same-self sort.Int = refl
same-self sort.String = refl
same-self sort.RegLan = refl

-- the function with a meaning gives its sort at all arguments that are taken
abbrev pub Suits : ArgumentSorts → Op → Type 0
Suits takes o = (ss : List Sort) → IsTrue (takes_count takes (length ss)) → IsTrue (takes_sorts takes ss) → applied_sort o ss ≡ Some (op_sort o)

one-is : (s : Sort) (ss : List Sort) → IsTrue (takes_sorts (One s) ss) → ss ≡ s ∷ []
one-is s [] h = absurd (cc)
one-is s (a ∷ []) h = ap (λ z. z ∷ []) (same_is s a h)
one-is s (a ∷ b ∷ ss) h = absurd (cc)

two-is : (s t : Sort) (ss : List Sort) → IsTrue (takes_sorts (Two s t) ss) → ss ≡ s ∷ t ∷ []
two-is s t [] h = absurd (cc)
two-is s t (a ∷ []) h = absurd (cc)
two-is s t (a ∷ b ∷ []) h = let k = and_parts (same_sort s a) (same_sort t b) h in λ i. same_is s a k.0 i ∷ same_is t b k.1 i ∷ []
two-is s t (a ∷ b ∷ c ∷ ss) h = absurd (cc)

three-is : (s t u : Sort) (ss : List Sort) → IsTrue (takes_sorts (Three s t u) ss) → ss ≡ s ∷ t ∷ u ∷ []
three-is s t u [] h = absurd (cc)
three-is s t u (a ∷ []) h = absurd (cc)
three-is s t u (a ∷ b ∷ []) h = absurd (cc)
three-is s t u (a ∷ b ∷ c ∷ []) h =
    let k = and_parts (same_sort s a && same_sort t b) (same_sort u c) h in
    let l = and_parts (same_sort s a) (same_sort t b) k.0 in
    λ i. same_is s a l.0 i ∷ same_is t b l.1 i ∷ same_is u c k.1 i ∷ []
three-is s t u (a ∷ b ∷ c ∷ d ∷ ss) h = absurd (cc)

suits-one : (o : Op) (s : Sort) → applied_sort o (s ∷ []) ≡ Some (op_sort o) → Suits (One s) o
suits-one o s e ss c h = ap (applied_sort o) (one-is s ss h) ∙ e

suits-two : (o : Op) (s t : Sort) → applied_sort o (s ∷ t ∷ []) ≡ Some (op_sort o) → Suits (Two s t) o
suits-two o s t e ss c h = ap (applied_sort o) (two-is s t ss h) ∙ e

suits-three : (o : Op) (s t u : Sort) → applied_sort o (s ∷ t ∷ u ∷ []) ≡ Some (op_sort o) → Suits (Three s t u) o
suits-three o s t u e ss c h = ap (applied_sort o) (three-is s t u ss h) ∙ e

some-gives : (s r : Sort) (ss : List Sort) → IsTrue (nat_le 1 (length ss)) → IsTrue (list_all (same_sort s) ss) → some_of s r ss ≡ Some r
some-gives s r [] c h = absurd (cc)
some-gives s r (t ∷ ts) c h = ap (λ b. sort_if b r) h

more-gives : (s r : Sort) (ss : List Sort) → IsTrue (nat_le 2 (length ss)) → IsTrue (list_all (same_sort s) ss) → more_of s r ss ≡ Some r
more-gives s r [] c h = absurd (cc)
more-gives s r (t ∷ []) c h = absurd (cc)
more-gives s r (t ∷ u ∷ ts) c h = ap (λ b. sort_if b r) h

suits-each : (o : Op) (s : Sort) → ((ss : List Sort) → applied_sort o ss ≡ some_of s (op_sort o) ss) → Suits (Each_of s) o
suits-each o s e ss c h = e ss ∙ some-gives s (op_sort o) ss c h

suits-many : (o : Op) (s : Sort) → ((ss : List Sort) → applied_sort o ss ≡ more_of s (op_sort o) ss) → Suits (Many s) o
suits-many o s e ss c h = e ss ∙ more-gives s (op_sort o) ss c h

alike-gives : (ss : List Sort) → IsTrue (nat_le 2 (length ss)) → IsTrue (takes_sorts Alike ss) → alike ss ≡ Some sort.Bool
alike-gives [] c h = absurd (cc)
alike-gives (s ∷ ss) c h = more-gives s sort.Bool (s ∷ ss) c (and_from (same_sort s s) (list_all (same_sort s) ss) (same-self s) h)

-- the arguments that a function with a meaning takes
abbrev rank : Op → ArgumentSorts
rank op.Not = One sort.Bool
rank op.And = Each_of sort.Bool
rank op.Or = Each_of sort.Bool
rank op.Xor = Many sort.Bool
rank op.Implies = Many sort.Bool
rank op.Equal = Alike
rank op.Distinct = Alike
rank op.IfThenElse = Three sort.Bool sort.Bool sort.Bool
rank op.LessEqual = Many sort.Int
rank op.Less = Many sort.Int
rank op.GreaterEqual = Many sort.Int
rank op.Greater = Many sort.Int
rank op.Add = Each_of sort.Int
rank op.Subtract = Each_of sort.Int
rank op.Multiply = Each_of sort.Int
rank op.Length = One sort.String
rank op.Concat = Each_of sort.String
rank op.Replace = Three sort.String sort.String sort.String
rank op.ReplaceAll = Three sort.String sort.String sort.String
rank op.PrefixOf = Two sort.String sort.String
rank op.SuffixOf = Two sort.String sort.String
rank op.Contains = Two sort.String sort.String
rank op.IsDigit = One sort.String

rank-suits : (o : Op) → Suits (rank o) o
rank-suits op.Not = suits-one op.Not sort.Bool refl
rank-suits op.And = suits-each op.And sort.Bool (λ ss. refl)
rank-suits op.Or = suits-each op.Or sort.Bool (λ ss. refl)
rank-suits op.Xor = suits-many op.Xor sort.Bool (λ ss. refl)
rank-suits op.Implies = suits-many op.Implies sort.Bool (λ ss. refl)
rank-suits op.Equal = alike-gives
rank-suits op.Distinct = alike-gives
rank-suits op.IfThenElse = suits-three op.IfThenElse sort.Bool sort.Bool sort.Bool refl
rank-suits op.LessEqual = suits-many op.LessEqual sort.Int (λ ss. refl)
rank-suits op.Less = suits-many op.Less sort.Int (λ ss. refl)
rank-suits op.GreaterEqual = suits-many op.GreaterEqual sort.Int (λ ss. refl)
rank-suits op.Greater = suits-many op.Greater sort.Int (λ ss. refl)
rank-suits op.Add = suits-each op.Add sort.Int (λ ss. refl)
rank-suits op.Subtract = suits-each op.Subtract sort.Int (λ ss. refl)
rank-suits op.Multiply = suits-each op.Multiply sort.Int (λ ss. refl)
rank-suits op.Length = suits-one op.Length sort.String refl
rank-suits op.Concat = suits-each op.Concat sort.String (λ ss. refl)
rank-suits op.Replace = suits-three op.Replace sort.String sort.String sort.String refl
rank-suits op.ReplaceAll = suits-three op.ReplaceAll sort.String sort.String sort.String refl
rank-suits op.PrefixOf = suits-two op.PrefixOf sort.String sort.String refl
rank-suits op.SuffixOf = suits-two op.SuffixOf sort.String sort.String refl
rank-suits op.Contains = suits-two op.Contains sort.String sort.String refl
rank-suits op.IsDigit = suits-one op.IsDigit sort.String refl

abbrev same_takes : ArgumentSorts → ArgumentSorts → Bool
same_takes Nothing Nothing = true
same_takes (One s) (One a) = same_sort s a
same_takes (Two s t) (Two a b) = same_sort s a && same_sort t b
same_takes (Three s t u) (Three a b c) = same_sort s a && same_sort t b && same_sort u c
same_takes (Each_of s) (Each_of a) = same_sort s a
same_takes (Many s) (Many a) = same_sort s a
same_takes Alike Alike = true
same_takes Choice Choice = true
same_takes _ _ = false

takes-is : (t u : ArgumentSorts) → IsTrue (same_takes t u) → u ≡ t
takes-is Nothing Nothing h = refl
takes-is (One s) (One a) h = ap One (same_is s a h)
takes-is (Two s t) (Two a b) h = let k = and_parts (same_sort s a) (same_sort t b) h in λ i. Two (same_is s a k.0 i) (same_is t b k.1 i)
takes-is (Three s t u) (Three a b c) h =
    let k = and_parts (same_sort s a && same_sort t b) (same_sort u c) h in
    let l = and_parts (same_sort s a) (same_sort t b) k.0 in
    λ i. Three (same_is s a l.0 i) (same_is t b l.1 i) (same_is u c k.1 i)
takes-is (Each_of s) (Each_of a) h = ap Each_of (same_is s a h)
takes-is (Many s) (Many a) h = ap Many (same_is s a h)
takes-is Alike Alike h = refl
takes-is Choice Choice h = refl
takes-is _ _ h = absurd (cc)

-- the arguments at which an application of this sense has its sort; none where it has at all arguments
abbrev wanted : Interpretation → Option ArgumentSorts
wanted (is.Meaning o) = Some (rank o)
wanted (is.Equality o) = Some (rank o)
wanted is.Choice = Some Choice
wanted is.Product = Some (rank op.Multiply)
wanted (is.Replacement o) = Some (rank o)
wanted is.Membership = Some (Two sort.String sort.RegLan)
wanted _ = None

abbrev takes_wanted : ArgumentSorts → Option ArgumentSorts → Bool
takes_wanted t None = true
takes_wanted t (Some u) = same_takes t u

abbrev is_sound : Function → Bool
is_sound f = takes_wanted f.takes (wanted f.sense)

-- a function that takes only such arguments that its applications have their sorts
abbrev pub Sound : Function → Type 0
Sound f = IsTrue (is_sound f)

found : (p : Name → Bool) (rows : Rows) (f : Function) → IsTrue (list_all (λ r. is_sound r.1) rows) → lookup p rows ≡ Some f → Sound f
found p [] f s e = absurd (cc)
found p (r ∷ rows) f s e = go (p r.0) (lookup p rows) (found p rows f k.1) e
  where
    k : Sound r.1 × IsTrue (list_all (λ r. is_sound r.1) rows)
    k = and_parts (is_sound r.1) (list_all (λ r. is_sound r.1) rows) s

    go : (b : Bool) (o : Option Function) → (o ≡ Some f → Sound f) → cond b (Some r.1) o ≡ Some f → Sound f
    go true o i e = let g : r.1 ≡ f = cc in subst Sound g k.0
    go false o i e = i e

-- each function of the signature is sound
pub function-sound : (p : Name → Bool) (f : Function) → lookup p signature ≡ Some f → Sound f
function-sound p f e = found p signature f refl e

module _ (known : Name → Sort → Bool) where
  -- a term or regular expression that shows its sort, without transducers, whose constants are known
  abbrev pub IsWell : Body → Type 0
  IsWell b = Fit known (body_sort b) (term_of b)

  pub well-term : (s : Sort) (t : Term) → Fit known s t → IsWell (body.Term t)
  well-term s t f = subst (λ z. Fit known z t) (sym f.shown) f

  pub well-opaque : (s : Sort) → IsWell (opaque s)
  well-opaque s = well-term s (v.Opaque s) (fit-opaque known s)

  pub well-language : (r : Regex) → IsWell (body.Language r)
  well-language r = fit-opaque known sort.RegLan

  well-if : (c : Bool) (a b : Body) → (IsTrue c → IsWell a) → IsWell b → IsWell (if c then a else b)
  well-if true a b h g = h refl
  well-if false a b h g = g

  wells-fit : (bs : List Body) → Each IsWell bs → Fits known (map body_sort bs) (map term_of bs)
  wells-fit [] h = tt
  wells-fit (b ∷ bs) h = (h.0, wells-fit bs h.1)

  well-apply : (o : Op) (bs : List Body) → Each IsWell bs → applied_sort o (map body_sort bs) ≡ Some (op_sort o) → IsWell (apply o bs)
  well-apply o bs h e = well-term (op_sort o) (v.Apply o (map term_of bs)) (fit-apply known o (map body_sort bs) (map term_of bs) (wells-fit bs h) e)

  well-equality : (o : Op) (bs : List Body) → Each IsWell bs → applied_sort o (map body_sort bs) ≡ Some (op_sort o) → IsWell (equality o bs)
  well-equality o [] h e = well-opaque sort.Bool
  well-equality o (b ∷ bs) h e = well-if (same_sort sort.RegLan (body_sort b)) (opaque sort.Bool) (apply o (b ∷ bs)) (λ _. well-opaque sort.Bool) (well-apply o (b ∷ bs) h e)

  well-choice : (bs : List Body) → Each IsWell bs → IsTrue (takes_sorts Choice (map body_sort bs)) → IsWell (choice bs)
  well-choice [] h g = well-opaque sort.Bool
  well-choice (a ∷ []) h g = well-opaque sort.Bool
  well-choice (a ∷ b ∷ []) h g = well-opaque sort.Bool
  well-choice (a ∷ b ∷ c ∷ []) h g =
      let k = and_parts (same_sort sort.Bool (body_sort a) && same_sort (body_sort b) (body_sort c)) (not (same_sort sort.RegLan (body_sort b))) g in
      let l = and_parts (same_sort sort.Bool (body_sort a)) (same_sort (body_sort b) (body_sort c)) k.0 in
      let p = same_is sort.Bool (body_sort a) l.0 in
      let q = same_is (body_sort b) (body_sort c) l.1 in
      well-if (same_sort sort.Bool (body_sort b)) (apply op.IfThenElse (a ∷ b ∷ c ∷ [])) (opaque (body_sort b))
      (λ t. let r = same_is sort.Bool (body_sort b) t in well-apply op.IfThenElse (a ∷ b ∷ c ∷ []) h (λ i. applied_sort op.IfThenElse (p i ∷ r i ∷ (q ∙ r) i ∷ [])))
      (well-opaque (body_sort b))
  well-choice (a ∷ b ∷ c ∷ d ∷ bs) h g = well-opaque sort.Bool

  well-product : (bs : List Body) → Each IsWell bs → applied_sort op.Multiply (map body_sort bs) ≡ Some sort.Int → IsWell (product bs)
  well-product bs h e = well-if (nat_le 2 (unknowns bs)) (opaque sort.Int) (apply op.Multiply bs) (λ _. well-opaque sort.Int) (well-apply op.Multiply bs h e)

  well-replacement : (o : Op) (bs : List Body) → Each IsWell bs → applied_sort o (map body_sort bs) ≡ Some (op_sort o) → IsWell (replacement o bs)
  well-replacement o [] h e = well-opaque sort.String
  well-replacement o (a ∷ []) h e = well-opaque sort.String
  well-replacement o (a ∷ b ∷ []) h e = well-opaque sort.String
  well-replacement o (a ∷ b ∷ c ∷ []) h e = well-if (is_some (literal b) && is_some (literal c)) (apply o (a ∷ b ∷ c ∷ [])) (opaque sort.String) (λ _. well-apply o (a ∷ b ∷ c ∷ []) h e) (well-opaque sort.String)
  well-replacement o (a ∷ b ∷ c ∷ d ∷ bs) h e = well-opaque sort.String

  well-membership : (bs : List Body) → Each IsWell bs → IsTrue (takes_sorts (Two sort.String sort.RegLan) (map body_sort bs)) → IsWell (membership bs)
  well-membership [] h g = well-opaque sort.Bool
  well-membership (a ∷ []) h g = well-opaque sort.Bool
  well-membership (a ∷ b ∷ []) h g =
      let k = and_parts (same_sort sort.String (body_sort a)) (same_sort sort.RegLan (body_sort b)) g in
      well-if (is_language b) (body.Term (v.InRe (term_of a) (regex_of b))) (opaque sort.Bool)
      (λ _. well-term sort.Bool (v.InRe (term_of a) (regex_of b)) (fit-member known (term_of a) (regex_of b) (subst (λ z. Fit known z (term_of a)) (same_is sort.String (body_sort a) k.0) h.0)))
      (well-opaque sort.Bool)
  well-membership (a ∷ b ∷ c ∷ bs) h g = well-opaque sort.Bool

  well-text : (o : Option Word) → IsWell (text_of o)
  well-text None = well-opaque sort.RegLan
  well-text (Some w) = well-language (re.Text w)

  well-range : (o p : Option Word) → IsWell (range_of o p)
  well-range None p = well-opaque sort.RegLan
  well-range (Some lo) None = well-opaque sort.RegLan
  well-range (Some lo) (Some hi) = well-language (characters lo hi)

  well-combined : (make : List Regex → Regex) (bs : List Body) → IsWell (combined make bs)
  well-combined make bs = well-if (list_all is_language bs) (body.Language (make (map regex_of bs))) (opaque sort.RegLan) (λ _. well-language (make (map regex_of bs))) (well-opaque sort.RegLan)

  -- at arguments that are taken a function with a meaning gives its sort
  suited : (takes : ArgumentSorts) (o : Op) → IsTrue (same_takes takes (rank o)) → Suits takes o
  suited takes o s = subst (λ t. Suits t o) (takes-is takes (rank o) s) (rank-suits o)

  well-as : (gives : Sort) (takes : ArgumentSorts) (sense : Interpretation) (bs : List Body) → IsTrue (takes_wanted takes (wanted sense)) → Each IsWell bs → IsTrue (takes_count takes (length (map body_sort bs))) → IsTrue (takes_sorts takes (map body_sort bs)) → IsWell (applied_as gives sense bs)
  well-as gives takes (is.Truth b) bs s h c g = well-term sort.Bool (v.Truth b) (fit-truth known b)
  well-as gives takes (is.Meaning o) bs s h c g = well-apply o bs h (suited takes o s (map body_sort bs) c g)
  well-as gives takes (is.Equality o) bs s h c g = well-equality o bs h (suited takes o s (map body_sort bs) c g)
  well-as gives takes is.Choice bs s h c g = well-choice bs h (subst (λ t. IsTrue (takes_sorts t (map body_sort bs))) (sym (takes-is takes Choice s)) g)
  well-as gives takes is.Product bs s h c g = well-product bs h (suited takes op.Multiply s (map body_sort bs) c g)
  well-as gives takes (is.Replacement o) bs s h c g = well-replacement o bs h (suited takes o s (map body_sort bs) c g)
  well-as gives takes is.Opaque bs s h c g = well-opaque gives
  well-as gives takes is.Membership bs s h c g = well-membership bs h (subst (λ t. IsTrue (takes_sorts t (map body_sort bs))) (sym (takes-is takes (Two sort.String sort.RegLan) s)) g)
  well-as gives takes is.TextOf [] s h c g = well-opaque sort.RegLan
  well-as gives takes is.TextOf (b ∷ []) s h c g = well-text (literal b)
  well-as gives takes is.TextOf (b ∷ d ∷ bs) s h c g = well-opaque sort.RegLan
  well-as gives takes is.Empty bs s h c g = well-language re.Empty
  well-as gives takes is.All bs s h c g = well-language re.All
  well-as gives takes is.AnyChar bs s h c g = well-language re.AnyChar
  well-as gives takes is.Concat bs s h c g = well-combined re.Concat bs
  well-as gives takes is.Union bs s h c g = well-combined re.Union bs
  well-as gives takes is.Inter bs s h c g = well-combined re.Inter bs
  well-as gives takes is.Diff bs s h c g = well-combined re.Diff bs
  well-as gives takes is.Star bs s h c g = well-combined (of_one re.Star) bs
  well-as gives takes is.Plus bs s h c g = well-combined (of_one re.Plus) bs
  well-as gives takes is.Opt bs s h c g = well-combined (of_one re.Opt) bs
  well-as gives takes is.Comp bs s h c g = well-combined (of_one re.Comp) bs
  well-as gives takes is.Range [] s h c g = well-opaque sort.RegLan
  well-as gives takes is.Range (b ∷ []) s h c g = well-opaque sort.RegLan
  well-as gives takes is.Range (b ∷ d ∷ []) s h c g = well-range (literal b) (literal d)
  well-as gives takes is.Range (b ∷ d ∷ e ∷ bs) s h c g = well-opaque sort.RegLan
  well-as gives takes (is.Loop i j) bs s h c g = well-combined (of_one (λ r. re.Loop r i j)) bs
  well-as gives takes (is.Character k) bs s h c g = well-term sort.String (v.Text _) (fit-text known _)

  pub well-applied : (f : Function) (bs : List Body) → Sound f → Each IsWell bs → IsTrue (takes_count f.takes (length bs)) → IsTrue (takes_sorts f.takes (map body_sort bs)) → IsWell (applied f bs)
  well-applied f bs s h c g = well-as f.gives f.takes f.sense bs s h (subst (λ n. IsTrue (takes_count f.takes n)) (sym (length-map bs body_sort)) c) g
