-- The names in what was met: those of terms, integers and truths differ where each name has one sort.
use Rattle.std.proofs.Common.{◌≡◌, refl, sym, ap, ◌∙◌, subst, Bool, true, false, ◌&&◌, ℕ, suc, List, [], ◌∷◌, ◌++◌, map, length, append_assoc, Option, Some, None}
use Rattle.std.specs.Prelude.{if◌then◌else◌, nat_eq, ⊤}
use Rattle.std.specs.List.{AllByRecursion, list_any}
use Rattle.std.specs.Map.{lookup}
use Rattle.std.specs.Option.{option_map}
use Rattle.std.specs.Cmp.Lexicographic.{pointwise}
use Rattle.std.proofs.lemmas.List.{append-nil}
use Rattle.std.proofs.lemmas.Map.{NonePasses, none_passes_from_lookup}
use Rattle.std.proofs.lemmas.Bool.{false≢true, and_parts}
use Rattle.sv_list.specs.Lists.{AllByRecursion-push, AllByRecursion-filter}
use Rattle.sv_terms.specs.Sorting.{same_sort}
use Rattle.sv_terms.specs.declared.op.Op.{Op}
use Rattle.sv_terms.specs.declared.op.Op.TheVariants as op
use Rattle.sv_terms.specs.declared.sort.Sort.{Sort}
use Rattle.sv_terms.specs.declared.sort.Sort.TheVariants as sort
use Rattle.sv_terms.specs.declared.transducer.Transducer.{Transducer}
use Rattle.literal_forms.specs.Codes.{same}
use Rattle.literal_forms.specs.Linear.{are_linear, are_strings, before, integer, is_linear, is_product, is_string, linears, pieces, set_before as spliced, written}
use Rattle.literal_forms.specs.Shapes.{Shape, Shapes, number, text, constant, apply, member, related, end, ◌⨾◌, head_sort, seen}
use Rattle.literal_forms.specs.declared.literal.Literal.{Literal}
use Rattle.straight_line.specs.FormLaws.{AreNamesSorted, NamesAreApart, NamesAreSorted}
use Rattle.flat_cubes.specs.Flattening.{AreSortedBy, IsFlatOf, IsSortedBy, all_bounded, firsts_of, has_column, integers_of, name_of, roots_of, variable_at}
use Rattle.flat_cubes.specs.Met.{DraftView, Found, add, add_all, all_met, concat_met, first_met, known_or, meet, meet_all, meet_all_unknowns, meet_unknowns, met, nothing_met, place_of, registered, with_term, with_value}
use Rattle.flat_cubes.specs.Said.{Said, are_one, atom_said, compares, constant_said, equality_said, has_part, holds, one_said, outside, pair_said, part_said, row_said, said, string_said, value_is, where_true, written_by}
use Rattle.flat_cubes.specs.Straight.{string_names}
use Rattle.flat_cubes.specs.declared.flat.Flat.{Flat}
use Rattle.flat_cubes.specs.declared.variable.Own.{Own}
use Rattle.flat_cubes.specs.declared.variable.Own.TheVariants as own
use Rattle.straight_line.proofs.Differing.{Differ, IsNone, all_differ, all_within, cross_by, cross_join, differ_join, differ_push, filter_differ, names_distinct, names_in, names_of_all, names_push, none_found, one_name, range_differ}
use Rattle.cube_draft.proofs.Sames.{string_self}
use Rattle.straight_line.proofs.Saying.{text_self}
use Rattle.cube_draft.proofs.Strings.{string_written}

is_text_sort : (s : Sort) → same_sort s sort.String ≡ true → s ≡ sort.String
is_text_sort sort.String e = refl
is_text_sort sort.Bool e = absurd (false≢true e)
is_text_sort sort.Int e = absurd (false≢true e)
is_text_sort sort.RegLan e = absurd (false≢true e)

is_int_sort : (s : Sort) → same_sort s sort.Int ≡ true → s ≡ sort.Int
is_int_sort sort.Int e = refl
is_int_sort sort.Bool e = absurd (false≢true e)
is_int_sort sort.String e = absurd (false≢true e)
is_int_sort sort.RegLan e = absurd (false≢true e)

module _ (sorts : List ℕ → Sort) where
  -- nested concatenations written as one
  sorted_spliced : (ss ts : Shapes) → AreSortedBy sorts ss → AreSortedBy sorts ts → AreSortedBy sorts (spliced ss ts)
  sorted_spliced end ts a b = b
  sorted_spliced (s ⨾ ss) ts a b = (a.0, sorted_spliced ss ts a.1 b)

  sorted_before : (s : Shape) (ts : Shapes) → IsSortedBy sorts s → AreSortedBy sorts ts → AreSortedBy sorts (before s ts)
  sorted_before (apply op.Concat ss) ts a b = sorted_spliced ss ts a b
  sorted_before s ts a b = (a, b)

  mutual
    sorted_written : (s : Shape) → IsSortedBy sorts s → IsSortedBy sorts (written s)
    sorted_written (apply op.Concat ss) a = sorted_pieces ss a
    sorted_written (apply op.Replace (s ⨾ ss)) a = (sorted_written s a.0, a.1)
    sorted_written (apply op.ReplaceAll (s ⨾ ss)) a = (sorted_written s a.0, a.1)
    sorted_written s a = a

    sorted_pieces : (ss : Shapes) → AreSortedBy sorts ss → AreSortedBy sorts (pieces ss)
    sorted_pieces end a = tt
    sorted_pieces (s ⨾ ss) a = sorted_before (written s) (pieces ss) (sorted_written s a.0) (sorted_pieces ss a.1)

  -- a constant has the sort String, and its name has
  abbrev HasText : Shape → Type 0
  HasText (constant n k) = (sorts n ≡ k) × (k ≡ sort.String)
  HasText _ = ⊤

  abbrev AreOf : Sort → List (List ℕ) → Type 0
  AreOf k ns = AllByRecursion (λ n. sorts n ≡ k) ns × Differ ns

  abbrev truth_names : List (List ℕ × Bool) → List (List ℕ)
  truth_names ts = map (λ (t : List ℕ × Bool). t.0) ts

  abbrev Fits : DraftView → Type 0
  Fits d = (AllByRecursion HasText d.terms × Differ (names_in d.terms)) × (AreOf sort.Int d.integers × AreOf sort.Bool (truth_names d.truths))

  known_fits : (o : Option ℕ) (d : DraftView) (new : Found) → Fits d → Fits new.1 → Fits (known_or o d new).1
  known_fits None d new f g = g
  known_fits (Some i) d new f g = f

  -- a term with a name that wasn't met
  map_none : (o : Option ℕ) → option_map suc o ≡ None → o ≡ None
  map_none None e = refl
  map_none (Some i) e = absurd (cc)

  none_named : (n : List ℕ) (s : Sort) (ns : List (List ℕ)) → s ≡ sort.String → (t : Shape) → same (constant n s) t ≡ false → HasText t → IsNone n ns → IsNone n (one_name (name_of t) ns)
  none_named n s ns e (constant m k) q h r = (λ g. let is : constant m k ≡ constant n s = ap (λ x. constant x k) (sym g) ∙ ap (constant n) (h.1 ∙ sym e) in false≢true (sym q ∙ ap (same (constant n s)) is ∙ string_self (constant n s)), r)
  none_named n s ns e _ q h r = r

  none_placed : (n : List ℕ) (s : Sort) → s ≡ sort.String → (ts : List Shape) → AllByRecursion HasText ts → place_of (constant n s) ts ≡ None → IsNone n (names_in ts)
  none_placed n s i [] a e = tt
  none_placed n s i (t ∷ ts) a e = by_test (same (constant n s) t) refl e (λ g. none_placed n s i ts a.1 g)
    where
      by_test : (b : Bool) → same (constant n s) t ≡ b → (if b then Some 0 else option_map suc (place_of (constant n s) ts)) ≡ None → (place_of (constant n s) ts ≡ None → IsNone n (names_in ts)) → IsNone n (names_in (t ∷ ts))
      by_test true q e k = absurd (cc)
      by_test false q e k = none_named n s (names_in ts) i t q a.0 (k (map_none (place_of (constant n s) ts) e))

  constant_fits : (n : List ℕ) (s : Sort) (d : DraftView) → s ≡ sort.String → sorts n ≡ s → Fits d → (o : Option ℕ) → place_of (constant n s) d.terms ≡ o → Fits (known_or o d (length d.terms, with_term (constant n s) d)).1
  constant_fits n s d i e f (Some k) q = f
  constant_fits n s d i e f None q = ((AllByRecursion-push HasText d.terms (constant n s) f.0.0 (e, i), subst Differ (sym (names_push d.terms (constant n s))) (differ_push (names_in d.terms) n f.0.1 (none_placed n s i d.terms f.0.0 q))), f.1)

  pushed_fits : (t : Shape) (d : DraftView) → one_name (name_of t) [] ≡ [] → HasText t → Fits d → Fits (with_term t d)
  pushed_fits t d e h f = ((AllByRecursion-push HasText d.terms t f.0.0 h, subst Differ (sym (append-nil (names_in d.terms)) ∙ ap (λ z. names_in d.terms ++ z) (sym e) ∙ sym (names_push d.terms t)) f.0.1), f.1)

  mutual
    term_fits : (s : Shape) (d : DraftView) → is_string s ≡ true → IsSortedBy sorts s → Fits d → Fits (meet s d).1
    term_fits (text w) d e o f = pushed_fits (text w) d refl tt f
    term_fits (constant n s) d e o f = constant_fits n s d (is_text_sort s e) o f (place_of (constant n s) d.terms) refl
    term_fits (apply op.Concat (s ⨾ ss)) d e o f =
        let t = apply op.Concat (s ⨾ ss) in
        known_fits (place_of t d.terms) d (concat_met (length d.terms) (meet_all (s ⨾ ss) (with_term t d))) f (terms_fit (s ⨾ ss) (with_term t d) e o (pushed_fits t d refl tt f))
    term_fits (apply op.Replace (s ⨾ text p ⨾ text u ⨾ end)) d e o f =
        let t = apply op.Replace (s ⨾ text p ⨾ text u ⨾ end) in
        known_fits (place_of t d.terms) d (first_met (length d.terms) p u (meet s (with_term t d))) f (term_fits s (with_term t d) e o.0 (pushed_fits t d refl tt f))
    term_fits (apply op.ReplaceAll (s ⨾ text p ⨾ text u ⨾ end)) d e o f =
        let t = apply op.ReplaceAll (s ⨾ text p ⨾ text u ⨾ end) in
        known_fits (place_of t d.terms) d (all_met (length d.terms) p u (meet s (with_term t d))) f (term_fits s (with_term t d) e o.0 (pushed_fits t d refl tt f))
    term_fits _ d e o f = absurd (false≢true e)

    terms_fit : (ss : Shapes) (d : DraftView) → are_strings ss ≡ true → AreSortedBy sorts ss → Fits d → Fits (meet_all ss d).1
    terms_fit end d e o f = f
    terms_fit (s ⨾ ss) d e o f =
        let h = and_parts (is_string s) (are_strings ss) e in
        terms_fit ss (meet s d).1 h.1 o.1 (term_fits s d h.0 o.0 f)

  -- a string term with nested concatenations written as one
  written_fits : (s : Shape) (d : DraftView) → is_string s ≡ true → IsSortedBy sorts s → Fits d → Fits (meet (written s) d).1
  written_fits s d e o f = term_fits (written s) d (string_written s e) (sorted_written s o) f

  integer_fits : (n : List ℕ) (d : DraftView) → sorts n ≡ sort.Int → Fits d → (b : Bool) → list_any (pointwise nat_eq n) d.integers ≡ b → Fits (if b then d else record d { integers = d.integers ++ n ∷ [] })
  integer_fits n d e f true q = f
  integer_fits n d e f false q = (f.0, ((AllByRecursion-push (λ m. sorts m ≡ sort.Int) d.integers n f.1.0.0 e, differ_push d.integers n f.1.0.1 (none_found n d.integers q)), f.1.1))

  length_fits : (s : Shape) (d : DraftView) → is_string s ≡ true → IsSortedBy sorts s → Fits d → (b : Bool) → Fits (if b then d else registered (written s) (meet (written s) d))
  length_fits s d e o f true = f
  length_fits s d e o f false = written_fits s d e o f

  register_fits : (s : Shape) (d : DraftView) → is_string s ≡ true → IsSortedBy sorts s → Fits d → Fits (if list_any (λ (r : Shape × ℕ). same (written s) r.0) d.registers then d else registered (written s) (meet (written s) d))
  register_fits s d e o f = length_fits s d e o f (list_any (λ (r : Shape × ℕ). same (written s) r.0) d.registers)

  mutual
    unknowns_fit : (s : Shape) (d : DraftView) → is_linear s ≡ true → IsSortedBy sorts s → Fits d → Fits (meet_unknowns s d)
    unknowns_fit (number n) d e o f = f
    unknowns_fit (constant n s) d e o f = integer_fits n d (o ∙ is_int_sort s e) f (list_any (pointwise nat_eq n) d.integers) refl
    unknowns_fit (apply op.Length (text w ⨾ end)) d e o f = f
    unknowns_fit (apply op.Length (constant n s ⨾ end)) d e o f = register_fits (constant n s) d e o.0 f
    unknowns_fit (apply op.Length (apply p ss ⨾ end)) d e o f = register_fits (apply p ss) d e o.0 f
    unknowns_fit (apply op.Add (s ⨾ ss)) d e o f = all_unknowns_fit (s ⨾ ss) d e o f
    unknowns_fit (apply op.Subtract (s ⨾ ss)) d e o f = all_unknowns_fit (s ⨾ ss) d e o f
    unknowns_fit (apply op.Multiply (s ⨾ ss)) d e o f = all_unknowns_fit (s ⨾ ss) d (and_parts (is_linear s && are_linear ss) (is_product (linears (s ⨾ ss))) e).0 o f
    unknowns_fit (apply op.Length (s ⨾ t ⨾ ss)) d e o f = absurd (false≢true e)
    unknowns_fit (apply op.Length (s ⨾ end)) d e o f = absurd (false≢true e)
    unknowns_fit _ d e o f = absurd (false≢true e)

    all_unknowns_fit : (ss : Shapes) (d : DraftView) → are_linear ss ≡ true → AreSortedBy sorts ss → Fits d → Fits (meet_all_unknowns ss d)
    all_unknowns_fit end d e o f = f
    all_unknowns_fit (s ⨾ ss) d e o f =
        let h = and_parts (is_linear s) (are_linear ss) e in
        all_unknowns_fit ss (meet_unknowns s d) h.1 o.1 (unknowns_fit s d h.0 o.0 f)

  none_valued : (n : List ℕ) (ts : List (List ℕ × Bool)) → lookup (pointwise nat_eq n) ts ≡ None → IsNone n (truth_names ts)
  none_valued n ts e = others ts (none_passes_from_lookup (pointwise nat_eq n) ts e)
    where
      others : (ts : List (List ℕ × Bool)) → NonePasses (pointwise nat_eq n) ts → IsNone n (truth_names ts)
      others [] h = tt
      others (t ∷ ts) h = (λ q. false≢true (sym h.0 ∙ ap (pointwise nat_eq n) (sym q) ∙ text_self n), others ts h.1)

  truths_push : (ts : List (List ℕ × Bool)) (t : List ℕ × Bool) → truth_names (ts ++ t ∷ []) ≡ truth_names ts ++ t.0 ∷ []
  truths_push [] t = refl
  truths_push (x ∷ ts) t = ap (λ z. x.0 ∷ z) (truths_push ts t)

  value_fits : (n : List ℕ) (b : Bool) (d : DraftView) → sorts n ≡ sort.Bool → Fits d → (o : Option Bool) → lookup (pointwise nat_eq n) d.truths ≡ o → Fits (with_value o n b d)
  value_fits n b d e f (Some c) q = f
  value_fits n b d e f None q = (f.0, (f.1.0, subst (AreOf sort.Bool) (sym (truths_push d.truths (n, b))) (AllByRecursion-push (λ m. sorts m ≡ sort.Bool) (truth_names d.truths) n f.1.1.0 e, differ_push (truth_names d.truths) n f.1.1.1 (none_valued n d.truths q))))

  -- the terms of a literal
  abbrev IsString : Shape → Type 0
  IsString s = (is_string s ≡ true) × IsSortedBy sorts s

  abbrev IsNumeric : Shape → Type 0
  IsNumeric s = (is_linear s ≡ true) × IsSortedBy sorts s

  abbrev SaidFits : Said → Type 0
  SaidFits (value_is n b) = sorts n ≡ sort.Bool
  SaidFits (compares o s t b) = IsNumeric s × IsNumeric t
  SaidFits (holds b) = ⊤
  SaidFits (has_part s o b) = IsString s
  SaidFits (are_one s t) = IsString s × IsString t
  SaidFits (written_by m s t) = IsString s × IsString t
  SaidFits outside = ⊤

  added_fits : (x : Said) (d : DraftView) → SaidFits x → Fits d → Fits (add x d)
  added_fits (value_is n b) d h f = value_fits n b d h f (lookup (pointwise nat_eq n) d.truths) refl
  added_fits (compares o s t b) d h f = unknowns_fit t (meet_unknowns s d) h.1.0 h.1.1 (unknowns_fit s d h.0.0 h.0.1 f)
  added_fits (holds b) d h f = f
  added_fits (has_part s o b) d h f = written_fits s d h.0 h.1 f
  added_fits (are_one s t) d h f = written_fits t (meet (written s) d).1 h.1.0 h.1.1 (written_fits s d h.0.0 h.0.1 f)
  added_fits (written_by m s t) d h f = written_fits t (meet (written s) d).1 h.1.0 h.1.1 (written_fits s d h.0.0 h.0.1 f)
  added_fits outside d h f = f

  where_fits : (c : Bool) (x : Said) → (c ≡ true → SaidFits x) → SaidFits (where_true c x)
  where_fits true x k = k refl
  where_fits false x k = tt

  two_fit : (s t : Shape) (x : Said) → (IsString s → IsString t → SaidFits x) → IsSortedBy sorts s → IsSortedBy sorts t → SaidFits (where_true (is_string s && is_string t) x)
  two_fit s t x k o p = where_fits (is_string s && is_string t) x (λ e. let a = and_parts (is_string s) (is_string t) e in k (a.0, o) (a.1, p))

  part_fits : (s : Shape) (p : Own) (b : Bool) → IsSortedBy sorts s → SaidFits (part_said s p b)
  part_fits s p b o = where_fits (is_string s) (has_part s p b) (λ e. (e, o))

  row_fits : (p : Op) (s t : Shape) (b : Bool) → AreSortedBy sorts (s ⨾ t ⨾ end) → SaidFits (row_said p s t b)
  row_fits p s t b o = where_fits (is_linear s && is_linear t) (compares p s t b) (λ e. let a = and_parts (is_linear s) (is_linear t) e in ((a.0, o.0), (a.1, o.1.0)))

  one_fits : (s t : Shape) (b : Bool) → IsSortedBy sorts s → IsSortedBy sorts t → SaidFits (one_said s t b)
  one_fits s t false o p = tt
  one_fits s t true o p = two_fit s t (are_one s t) (λ a b. (a, b)) o p

  string_fits : (s t : Shape) (b : Bool) → IsSortedBy sorts s → IsSortedBy sorts t → SaidFits (string_said s t b)
  string_fits (text v) (text w) b o p = tt
  string_fits (text w) t b o p = part_fits t (own.Word w) b p
  string_fits s (text w) b o p = part_fits s (own.Word w) b o
  string_fits s t b o p = one_fits s t b o p

  equality_fits : (k : Sort) (s t : Shape) (b : Bool) → AreSortedBy sorts (s ⨾ t ⨾ end) → SaidFits (equality_said k s t b)
  equality_fits sort.String s t b o = string_fits s t b o.0 o.1.0
  equality_fits sort.Int s t true o = row_fits op.Equal s t true o
  equality_fits sort.Int s t false o = tt
  equality_fits sort.Bool s t b o = tt
  equality_fits sort.RegLan s t b o = tt

  truth_fits : (n : List ℕ) (s : Sort) (b : Bool) → sorts n ≡ s → SaidFits (constant_said n s b)
  truth_fits n sort.Bool b o = o
  truth_fits n sort.Int b o = tt
  truth_fits n sort.String b o = tt
  truth_fits n sort.RegLan b o = tt

  pair_fits : (t : Transducer) (s u : Shape) (b : Bool) → IsSortedBy sorts s → IsSortedBy sorts u → SaidFits (pair_said t s u b)
  pair_fits t s u true o p = two_fit s u (written_by t s u) (λ a b. (a, b)) o p
  pair_fits t s u false o p = tt

  atom_fits : (s : Shape) (b : Bool) → IsSortedBy sorts s → SaidFits (atom_said s b)
  atom_fits (constant n s) b o = truth_fits n s b o
  atom_fits (member s r) b o = part_fits s (own.InRe r) b o
  atom_fits (related t s u) b o = pair_fits t s u b o.0 o.1
  atom_fits (apply op.Equal (s ⨾ t ⨾ end)) b o = equality_fits (head_sort s) s t b o
  atom_fits (apply op.LessEqual (s ⨾ t ⨾ end)) b o = row_fits op.LessEqual s t b o
  atom_fits (apply op.Less (s ⨾ t ⨾ end)) b o = row_fits op.Less s t b o
  atom_fits (apply op.GreaterEqual (s ⨾ t ⨾ end)) b o = row_fits op.GreaterEqual s t b o
  atom_fits (apply op.Greater (s ⨾ t ⨾ end)) b o = row_fits op.Greater s t b o
  atom_fits (apply op.PrefixOf (text p ⨾ s ⨾ end)) b o = part_fits s (own.Prefix p) b o.1.0
  atom_fits (apply op.SuffixOf (text p ⨾ s ⨾ end)) b o = part_fits s (own.Suffix p) b o.1.0
  atom_fits (apply op.Contains (s ⨾ text p ⨾ end)) b o = part_fits s (own.Contains p) b o.0
  atom_fits (apply op.IsDigit (s ⨾ end)) b o = part_fits s own.Digit b o.0
  atom_fits _ b o = tt

  all_fit : (ls : List Literal) (d : DraftView) → AllByRecursion (λ (l : Literal). IsSortedBy sorts (seen l.atom)) ls → Fits d → Fits (add_all ls d)
  all_fit [] d o f = f
  all_fit (l ∷ ls) d o f = all_fit ls (add (said l) d) o.1 (added_fits (said l) d (atom_fits (seen l.atom) l.positive o.0) f)

  -- the names of the variables are those of the terms
  texts_sorted : (ts : List Shape) → AllByRecursion HasText ts → AllByRecursion (λ n. sorts n ≡ sort.String) (names_in ts)
  texts_sorted [] h = tt
  texts_sorted (t ∷ ts) h = one t h.0 (texts_sorted ts h.1)
    where
      one : (t : Shape) → HasText t → AllByRecursion (λ n. sorts n ≡ sort.String) (names_in ts) → AllByRecursion (λ n. sorts n ≡ sort.String) (one_name (name_of t) (names_in ts))
      one (constant n k) h r = (h.0 ∙ h.1, r)
      one _ h r = r

  names_met : (d : DraftView) (rs : List ℕ) → string_names (map (variable_at d) rs) ≡ names_of_all d.terms (firsts_of d) rs
  names_met d [] = refl
  names_met d (r ∷ rs) = ap (λ z. (variable_at d r).names ++ z) (names_met d rs)

  apart : (d : DraftView) (flat : Flat) → Fits d → IsFlatOf d flat → Differ (string_names flat.variables ++ flat.integers ++ truth_names flat.truths)
  apart d flat f g =
      let p : List ℕ → Bool = λ name. has_column (all_bounded d) (integer name) in
      let texts = names_of_all d.terms (firsts_of d) (roots_of d) in
      let is_text = all_within d.terms (firsts_of d) (λ n. sorts n ≡ sort.String) (roots_of d) (texts_sorted d.terms f.0.0) in
      let texts_differ = all_differ d.terms (firsts_of d) (roots_of d) (range_differ _ 0 (length d.terms)).0 f.0.1 in
      let is_int = AllByRecursion-filter (λ n. sorts n ≡ sort.Int) p d.integers f.1.0.0 in
      let integers_differ = filter_differ p d.integers f.1.0.1 in
      let whole = differ_join texts (integers_of d ++ truth_names d.truths) texts_differ
      (differ_join (integers_of d) (truth_names d.truths) integers_differ f.1.1.1 (cross_by sorts sort.Int sort.Bool (λ e. cc) (integers_of d) (truth_names d.truths) is_int f.1.1.0))
      (cross_join texts (integers_of d) (truth_names d.truths) (cross_by sorts sort.String sort.Int (λ e. cc) texts (integers_of d) is_text is_int) (cross_by sorts sort.String sort.Bool (λ e. cc) texts (truth_names d.truths) is_text f.1.1.0)) in
      let names : string_names flat.variables ≡ texts = ap string_names g.variables ∙ names_met d (roots_of d) in
      subst (λ z. Differ (z ++ flat.integers ++ truth_names flat.truths)) (sym names)
      (subst (λ z. Differ (texts ++ z ++ truth_names flat.truths)) (sym g.integers)
      (subst (λ z. Differ (texts ++ integers_of d ++ truth_names z)) (sym g.truths) (subst Differ (sym (append_assoc texts (integers_of d) (truth_names d.truths))) whole)))

  sorted : (d : DraftView) (flat : Flat) → Fits d → IsFlatOf d flat → AreNamesSorted sorts flat
  sorted d flat f g =
      let p : List ℕ → Bool = λ name. has_column (all_bounded d) (integer name) in
      let is_text = all_within d.terms (firsts_of d) (λ n. sorts n ≡ sort.String) (roots_of d) (texts_sorted d.terms f.0.0) in
      let names : string_names flat.variables ≡ names_of_all d.terms (firsts_of d) (roots_of d) = ap string_names g.variables ∙ names_met d (roots_of d) in
      record {
        strings = subst (AllByRecursion (λ n. sorts n ≡ sort.String)) (sym names) is_text;
        integers = subst (AllByRecursion (λ n. sorts n ≡ sort.Int)) (sym g.integers) (AllByRecursion-filter (λ n. sorts n ≡ sort.Int) p d.integers f.1.0.0);
        truths = subst (λ z. AllByRecursion (λ n. sorts n ≡ sort.Bool) (truth_names z)) (sym g.truths) f.1.1.0;
      }

pub names_apart : NamesAreApart
names_apart ls flat one f = names_distinct _ (apart one.0 (met ls) flat (all_fit one.0 ls nothing_met one.1 ((tt, tt), ((tt, tt), (tt, tt)))) f.of)

pub names_sorted : NamesAreSorted
names_sorted sorts ls flat o f = sorted sorts (met ls) flat (all_fit sorts ls nothing_met o ((tt, tt), ((tt, tt), (tt, tt)))) f.of
