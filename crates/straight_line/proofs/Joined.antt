-- From a draft to its flat cube: values make the literals true exactly where they extend to words and
-- numbers that satisfy the flat cube.
use Rattle.std.proofs.Common.{◌≡◌, refl, sym, ap, ◌∙◌, subst, Bool, true, false, ◌↔◌, IsTrue, ℕ, zero, suc, ◌+◌, ◌<◌, ℤ, pos, List, [], ◌∷◌, ◌++◌, map, length, get_or, Option, Some, None, arith}
use Rattle.std.specs.Prelude.{filter, nat_eq, nat_lt, slice_get}
use Rattle.std.specs.List.{AllByRecursion, AllZip, range_with_len}
use Rattle.std.specs.Map.{lookup}
use Rattle.std.specs.Cmp.Lexicographic.{pointwise}
use Rattle.std.proofs.lemmas.Bool.{eq-eqb, eqb-true}
use Rattle.std.proofs.lemmas.List.FromFn.{length-range_with_len, get_or-range_with_len}
use Rattle.std.proofs.lemmas.Option.{get_or_from_slice_get}
use Rattle.std.proofs.lemmas.List.{get_or-map}
use Rattle.sv_list.specs.Lists.{AllByRecursion-weaker, AllByRecursion-filter, AllByRecursion-both}
use Rattle.sv_word.specs.Words.{IsWord}
use Rattle.sv_terms.specs.declared.sort.Sort.{Sort}
use Rattle.sv_terms.specs.declared.regex.Regex.{Regex}
use Rattle.sv_terms.specs.declared.transducer.Transducer.{Transducer}
use Rattle.sv_terms.specs.declared.value.Value.TheVariants as value
use Rattle.sv_terms.specs.Language.{Word, In}
use Rattle.sv_terms.specs.Matches.{matches}
use Rattle.sv_terms.specs.Meaning.{Named, joined}
use Rattle.sv_terms.specs.Replacement.{replace_first, replace_all}
use Rattle.sv_terms.specs.Transduction.{Pairs, writes}
use Rattle.literal_forms.specs.Linear.{integer, length_of}
use Rattle.literal_forms.specs.Shapes.{Shape, text, constant}
use Rattle.flat_cubes.specs.Using.{used}
use Rattle.flat_cubes.specs.Flattening.{IsFlatOf, all_bounded, definition_of, definitions_of, firsts_of, has_column, name_of, integers_of, names_at, registers_of, roots_of, unknowns_of, variable_at, variable_of, with_name}
use Rattle.straight_line.specs.Laws.{FlatIsExact}
use Rattle.flat_cubes.specs.Met.{DraftView, met}
use Rattle.flat_cubes.specs.Satisfying.{ComesBy, Defines, Extends, HasValue, MeetsParts, MeetsPart, NamesHave, word_at}
use Rattle.flat_cubes.specs.Satisfying as flat
use Rattle.sv_linear.specs.Rows as row
use Rattle.sv_linear.specs.Rows.{MeetsRow}
use Rattle.sv_terms.specs.Truth.{AreWorded}
use Rattle.flat_cubes.specs.Straight.{AreBelow}
use Rattle.flat_cubes.specs.declared.definition.By.{By}
use Rattle.flat_cubes.specs.declared.definition.By.TheVariants as by
use Rattle.flat_cubes.specs.declared.flat.Flat.{Flat}
use Rattle.flat_cubes.specs.declared.variable.Own.{Own}
use Rattle.flat_cubes.specs.declared.variable.Variable.{Variable}
use Rattle.straight_line.proofs.Amounts.{amount}
use Rattle.straight_line.proofs.Counted.{comparisons_rows}
use Rattle.straight_line.proofs.Determined.{determined}
use Rattle.straight_line.proofs.Determined as draft
use Rattle.flat_cubes.specs.Members.{Among}
use Rattle.cube_draft.proofs.Entries.{At, at_within}
use Rattle.straight_line.proofs.Identified.{AreOne, Rooted, first, identified_agrees, identified_are_one, identified_length, identified_rooted}
use Rattle.straight_line.proofs.Lists.{all_by_among, all_filtered, among_all, among_map, filtered_among, filtered_range, map_all, map_join, zip_map_at, zip_maps}
use Rattle.straight_line.proofs.Meetings.{DefinitionHolds, EqualityHolds, Fits, FitsFrom, Holds, PartHolds, TruthHolds}
use Rattle.straight_line.proofs.Ordered.{ordered_all, ordered_back}
use Rattle.straight_line.proofs.Ordinals.{placed}
use Rattle.straight_line.proofs.Parted.{IsSound}
use Rattle.cube_draft.proofs.Ranges.{DefinitionIn, PartIn}
use Rattle.straight_line.proofs.Readied.{met_settled}
use Rattle.straight_line.proofs.Settled.{HasNumber, IsSettled, PlaceIs}
use Rattle.straight_line.proofs.Spelling.{term_word}
use Rattle.flat_cubes.proofs.Members.{all_at}
use Rattle.straight_line.proofs.Texts.{text_is, text_or, valued_constant, word}
use Rattle.straight_line.proofs.Told.{all_fit, told, words_at}

-- the names of a variable: those of the constants whose least place it has
name_first : (P : List ℕ → Type 0) (b : Bool) (s : Shape) (rest : List (List ℕ)) → ((n : List ℕ) (k : Sort) → b ≡ true → s ≡ constant n k → P n) → AllByRecursion P rest → AllByRecursion P (with_name b (name_of s) rest)
name_first P true (constant n k) rest f a = (f n k refl refl, a)
name_first P false s rest f a = a
name_first P true s rest f a = a

pub names_all : (P : List ℕ → Type 0) (ss : List Shape) (fs : List ℕ) (r : ℕ) → ((j : ℕ) (n : List ℕ) (k : Sort) → At ss j (constant n k) → slice_get fs j ≡ Some r → P n) → AllByRecursion P (names_at ss fs r)
names_all P [] fs r f = tt
names_all P (s ∷ ss) [] r f = tt
names_all P (s ∷ ss) (g ∷ fs) r f =
    name_first P (nat_eq g r) s (names_at ss fs r) (λ n k e q. f 0 n k (ap Some q) (ap Some (eqb-true g r e)))
    (names_all P ss fs r (λ j n k a e. f (suc j) n k a e))

name_back : (P : List ℕ → Type 0) (b : Bool) (o : Option (List ℕ)) (rest : List (List ℕ)) → AllByRecursion P (with_name b o rest) → AllByRecursion P rest
name_back P true (Some n) rest a = a.1
name_back P true None rest a = a
name_back P false o rest a = a

pub names_back : (P : List ℕ → Type 0) (ss : List Shape) (fs : List ℕ) (r : ℕ) → AllByRecursion P (names_at ss fs r) → (j : ℕ) (n : List ℕ) (k : Sort) → At ss j (constant n k) → slice_get fs j ≡ Some r → P n
names_back P [] fs r a j n k q e = absurd (cc)
names_back P (s ∷ ss) [] r a j n k q e = absurd (cc)
names_back P (s ∷ ss) (g ∷ fs) r a zero n k q e =
    let same : s ≡ constant n k = cc in
    let least : g ≡ r = cc in
    let b : AllByRecursion P (with_name (nat_eq g r) (name_of (constant n k)) (names_at ss fs r)) = subst (λ t. AllByRecursion P (with_name (nat_eq g r) (name_of t) (names_at ss fs r))) same a in
    (subst (λ c. AllByRecursion P (with_name c (Some n) (names_at ss fs r))) (eq-eqb g r least) b).0
names_back P (s ∷ ss) (g ∷ fs) r a (suc j) n k q e = names_back P ss fs r (name_back P (nat_eq g r) (name_of s) (names_at ss fs r) a) j n k q e

slice_of_get : (xs : List ℕ) (i d r : ℕ) → i < length xs → get_or xs i d ≡ r → slice_get xs i ≡ Some r
slice_of_get [] i d r h e = absurd (omega arith)
slice_of_get (x ∷ xs) zero d r h e = ap Some e
slice_of_get (x ∷ xs) (suc i) d r h e = slice_of_get xs i d r (omega arith) e

-- places and their variables
module _ (values : Named) (d : DraftView) (h : IsSettled values d) where
  abbrev places : ℕ
  places = length d.terms

  abbrev start : List ℕ
  start = range_with_len 0 places

  abbrev least : ℕ → ℕ
  least i = first (firsts_of d) i

  start_long : length start ≡ places
  start_long = length-range_with_len 0 places

  start_at : (i : ℕ) → i < places → first start i ≡ i
  start_at i l = get_or-range_with_len 0 places i i l ∙ omega arith

  pairs_in : AllByRecursion (λ (e : ℕ × ℕ). (e.0 < length start) × (e.1 < length start)) d.equalities
  pairs_in = subst (λ n. AllByRecursion (λ (e : ℕ × ℕ). (e.0 < n) × (e.1 < n)) d.equalities) (sym start_long) h.inside.equalities

  firsts_long : length (firsts_of d) ≡ places
  firsts_long = identified_length d.equalities start ∙ start_long

  start_rooted : Rooted start
  start_rooted i l =
      let m : i < places = subst (λ n. i < n) start_long l in
      let e = start_at i m in
      (subst (λ n. n < length start) (sym e) l, ap (first start) e)

  rooted : (i : ℕ) → i < places → (least i < places) × (least (least i) ≡ least i)
  rooted i l =
      let r = identified_rooted d.equalities start pairs_in start_rooted i (subst (λ n. i < n) (sym firsts_long) l) in
      (subst (λ n. least i < n) firsts_long r.0, r.1)

  are_one : AllByRecursion (λ (e : ℕ × ℕ). AreOne (firsts_of d) e.0 e.1) d.equalities
  are_one = identified_are_one d.equalities start pairs_in

  abbrev is_root : ℕ → Bool
  is_root i = nat_eq (get_or (firsts_of d) i i) i

  -- the variable of a place is the number of its root
  number_of_root : (i : ℕ) → i < places → (variable_of d i < length (roots_of d)) × ((e : ℕ) → get_or (roots_of d) (variable_of d i) e ≡ least i)
  number_of_root i l =
      let r = rooted i l in
      placed is_root (least i) 0 places (eq-eqb (least (least i)) (least i) r.1) (omega arith) (let m = r.0 in omega arith)

  -- each root is a place, and its own least place
  roots : AllByRecursion (λ r. (r < places) × (least r ≡ r)) (roots_of d)
  roots = AllByRecursion-weaker (λ r. (r < 0 + places) × (is_root r ≡ true)) (λ r. (r < places) × (least r ≡ r)) (λ r a. (let m = a.0 in omega arith, eqb-true (least r) r a.1)) (roots_of d) (filtered_range is_root 0 places)

  sound_at : (i : ℕ) (s : Shape) → At d.terms i s → IsSound values s
  sound_at i s a = subst (IsSound values) (get_or_from_slice_get d.terms i s (text []) a) (all_at (IsSound values) d.terms i (text []) (at_within d.terms i s a) h.sound)

  -- a string constant has its word
  constant_word : (i : ℕ) (n : List ℕ) (k : Sort) → At d.terms i (constant n k) → HasValue values (value.Text (word values (constant n k))) n
  constant_word i n k a = let q = sound_at i (constant n k) a in text_is values (lookup (pointwise nat_eq n) values) k q.0 (sym (valued_constant values n k) ∙ q.1.0)

  -- words of the variables, and so of the places
  module _ (words : List Word) where
    abbrev pub us : ℕ → Word
    us i = word_at words (variable_of d i)

    us_all : (vs : List ℕ) → map (word_at words) (map (variable_of d) vs) ≡ map us vs
    us_all [] = refl
    us_all (v ∷ vs) = ap (λ l. us v ∷ l) (us_all vs)

    -- the definitions of variables are those of places
    defines_is : (i : ℕ) (b : By) → Defines words (definition_of d (i, b)) ↔ ComesBy us (us i) b
    defines_is i (by.Concat vs) = (λ e. e ∙ ap joined (us_all vs), λ e. e ∙ sym (ap joined (us_all vs)))
    defines_is i (by.First p u v) = (λ e. e, λ e. e)
    defines_is i (by.All p u v) = (λ e. e, λ e. e)
    defines_is i (by.Through t v) = (λ e. e, λ e. e)

    lengths_are : (rs : List (Shape × ℕ)) → AllByRecursion (λ (r : Shape × ℕ). us r.1 ≡ word values r.0) rs → map pos (flat.lengths_of (map (λ (r : Shape × ℕ). variable_of d r.1) rs) words) ≡ map (amount values) (map (λ (r : Shape × ℕ). length_of r.0) rs)
    lengths_are [] a = refl
    lengths_are (r ∷ rs) a = λ i. pos (length (a.0 i)) ∷ lengths_are rs a.1 i

    -- the values of the unknowns
    unknowns_are : (numbers : List ℤ) → numbers ≡ map (amount values) (map integer (integers_of d)) → AllByRecursion (λ (r : Shape × ℕ). us r.1 ≡ word values r.0) (registers_of d) → numbers ++ map pos (flat.lengths_of (map (λ (r : Shape × ℕ). variable_of d r.1) (registers_of d)) words) ≡ map (amount values) (unknowns_of d)
    unknowns_are numbers e a = (λ i. e i ++ lengths_are (registers_of d) a i) ∙ sym (map_join (amount values) (map integer (integers_of d)) (map (λ (r : Shape × ℕ). length_of r.0) (registers_of d)))

  registers_have : (us : ℕ → Word) → ((i : ℕ) (s : Shape) → At d.terms i s → us i ≡ word values s) → AllByRecursion (λ (r : Shape × ℕ). us r.1 ≡ word values r.0) (registers_of d)
  registers_have us f = AllByRecursion-filter (λ (r : Shape × ℕ). us r.1 ≡ word values r.0) (λ (r : Shape × ℕ). has_column (all_bounded d) (length_of r.0)) d.registers (AllByRecursion-weaker (PlaceIs values d.terms) (λ (r : Shape × ℕ). us r.1 ≡ word values r.0) (λ r a. f r.1 r.0 a) d.registers h.counted.places)

  have_numbers : AllByRecursion (HasNumber values) (integers_of d)
  have_numbers = AllByRecursion-filter (HasNumber values) (λ (n : List ℕ). has_column (all_bounded d) (integer n)) d.integers h.counted.numbers

  -- forward: the words of the terms are words of the variables
  module _ (worded : AreWorded values) (holds : Holds values (words_at values d.terms) d) where
    abbrev ws : ℕ → Word
    ws i = words_at values d.terms i

    ws_at : (i : ℕ) (s : Shape) → At d.terms i s → ws i ≡ word values s
    ws_at i s a = ap (word values) (get_or_from_slice_get d.terms i s (text []) a)

    agree : (i : ℕ) → i < places → ws i ≡ ws (least i)
    agree i l =
        identified_agrees ws d.equalities start pairs_in holds.equalities
        (λ k m. ap ws (sym (start_at k (subst (λ n. k < n) start_long m)))) i (subst (λ n. i < n) (sym firsts_long) l)

    abbrev made : List Word
    made = map ws (roots_of d)

    made_at : (i : ℕ) → i < places → word_at made (variable_of d i) ≡ ws i
    made_at i l = let r = number_of_root i l in get_or-map ws (roots_of d) (variable_of d i) 0 [] r.0 ∙ ap ws (r.1 0) ∙ sym (agree i l)

    made_all : (vs : List ℕ) → AreBelow places vs → map (us made) vs ≡ map ws vs
    made_all [] a = refl
    made_all (v ∷ vs) a = λ i. made_at v a.0 i ∷ made_all vs a.1 i

    names_have : (r : ℕ) → (r < places) × (least r ≡ r) → NamesHave values (variable_at d r) (ws r)
    names_have r q = names_all (HasValue values (value.Text (ws r))) d.terms (firsts_of d) r (λ j n k a e.
        let l = at_within d.terms j (constant n k) a in
        let f : least j ≡ r = get_or_from_slice_get (firsts_of d) j r j e in
        let w : ws r ≡ word values (constant n k) = ap ws (sym f) ∙ sym (agree j l) ∙ ws_at j (constant n k) a in
        subst (λ z. HasValue values (value.Text z) n) (sym w) (constant_word j n k a))

    parts_meet : (r : ℕ) → AllByRecursion (MeetsPart (ws r)) (variable_at d r).parts
    parts_meet r = all_filtered (λ (p : ℕ × (Own × Bool)). PartIn places p × PartHolds values ws p) (MeetsPart (ws r)) (λ (p : ℕ × (Own × Bool)). nat_eq (get_or (firsts_of d) p.0 p.0) r) (λ (p : ℕ × (Own × Bool)). p.1)
        (λ p a e. subst (λ w. MeetsPart w p.1) (agree p.0 a.0 ∙ ap ws (eqb-true (least p.0) r e)) a.1) d.parts (AllByRecursion-both (PartIn places) (PartHolds values ws) d.parts h.inside.parts holds.parts)

    some_at : (ts : List Shape) (i : ℕ) → i < length ts → (s : Shape) × At ts i s
    some_at [] i l = absurd (omega arith)
    some_at (s ∷ ts) zero l = (s, refl)
    some_at (s ∷ ts) (suc i) l = some_at ts i (omega arith)

    is_word : (i : ℕ) → i < places → IsWord (ws i)
    is_word i l = let s = some_at d.terms i l in subst IsWord (sym (ws_at i s.0 s.1)) (term_word values worded s.0 (sound_at i s.0 s.1).1.1)

    definition_made : (e : ℕ × By) → DefinitionIn places e → DefinitionHolds values ws e → Defines made (definition_of d e)
    definition_made e l c = (defines_is made e.0 e.1).1 (comes e.0 e.1 l.0 l.1 c)
      where
        comes : (i : ℕ) (b : By) → i < places → AreBelow places (used b) → ComesBy ws (ws i) b → ComesBy (us made) (us made i) b
        comes i (by.Concat vs) l m c = made_at i l ∙ c ∙ ap joined (sym (made_all vs m))
        comes i (by.First p u v) l m c = made_at i l ∙ c ∙ ap (replace_first p u) (sym (made_at v m.0))
        comes i (by.All p u v) l m c = made_at i l ∙ c ∙ ap (replace_all p u) (sym (made_at v m.0))
        comes i (by.Through t v) l m c = subst (λ z. Pairs t z (us made i)) (sym (made_at v m.0)) (subst (λ z. Pairs t (ws v) z) (sym (made_at i l)) c)

    abbrev numbers_made : List ℤ
    numbers_made = map (amount values) (map integer (integers_of d))

    numbers_have : (ns : List (List ℕ)) → AllByRecursion (HasNumber values) ns → AllZip (λ n z. HasValue values (value.Number z) n) ns (map (amount values) (map integer ns))
    numbers_have [] a = tt
    numbers_have (n ∷ ns) a = (a.0, numbers_have ns a.1)

    numbers_long : (ns : List (List ℕ)) → length (map (amount values) (map integer ns)) ≡ length ns
    numbers_long [] = refl
    numbers_long (n ∷ ns) = ap suc (numbers_long ns)

    pub extends : (g : Flat) → IsFlatOf d g → Extends g values
    extends g f = record {
      words = made;
      numbers = numbers_made;
      of = record {
        names = subst (λ vs. AllZip (NamesHave values) vs made) (sym f.variables) (zip_maps (NamesHave values) (variable_at d) ws (roots_of d) (AllByRecursion-weaker (λ r. (r < places) × (least r ≡ r)) (λ r. NamesHave values (variable_at d r) (ws r)) names_have (roots_of d) roots));
        integers = subst (λ ns. AllZip (λ n z. HasValue values (value.Number z) n) ns numbers_made) (sym f.integers) (numbers_have (integers_of d) have_numbers);
        truths = subst (AllByRecursion (TruthHolds values ws)) (sym f.truths) holds.truths;
      };
      satisfied = record {
        strings = record {
          parts = subst (λ vs. AllZip MeetsParts vs made) (sym f.variables) (zip_maps MeetsParts (variable_at d) ws (roots_of d) (AllByRecursion-weaker (λ r. (r < places) × (least r ≡ r)) (λ r. MeetsParts (variable_at d r) (ws r)) (λ r q. (is_word r q.0, parts_meet r)) (roots_of d) roots));
          definitions = subst (AllByRecursion (Defines made)) (sym f.definitions) (ordered_all (Defines made) (definitions_of d) (map_all (Defines made) (definition_of d) d.definitions (AllByRecursion-weaker (λ e. DefinitionIn places e × DefinitionHolds values ws e) (λ e. Defines made (definition_of d e)) (λ e a. definition_made e a.0 a.1) d.definitions (AllByRecursion-both (DefinitionIn places) (DefinitionHolds values ws) d.definitions h.inside.definitions holds.definitions))));
        };
        rows = record {
          count = numbers_long (integers_of d) ∙ ap length (sym f.integers);
          rows = subst (λ rs. AllByRecursion (MeetsRow (row.unknowns_of numbers_made (flat.lengths_of rs made))) g.rows) (sym f.registers)
              (subst (λ l. AllByRecursion (MeetsRow (λ u. get_or l u (pos 0))) g.rows) (sym (unknowns_are made numbers_made refl (registers_have (us made) (λ i s a. made_at i (at_within d.terms i s a) ∙ ws_at i s a))))
              ((comparisons_rows values d h.counted d.comparisons g.rows (λ c a. a) h.counted.comparisons f.rows).0 holds.comparisons));
        };
        whole = f.broken ∙ holds.whole;
      };
    }

  -- back: words of the variables are the words of the terms
  module _ (g : Flat) (f : IsFlatOf d g) (x : Extends g values) where
    abbrev vs : ℕ → Word
    vs i = us x.words i

    -- what holds of each variable and its word holds at each place
    variable_has : (R : Variable → Word → Type 0) → AllZip R g.variables x.words → (i : ℕ) → i < places → R (variable_at d (least i)) (vs i)
    variable_has R z i l =
        let r = number_of_root i l in
        subst (λ k. R (variable_at d k) (vs i)) (r.1 0) (zip_map_at R (variable_at d) (roots_of d) x.words (variable_of d i) 0 [] (subst (λ l. AllZip R l x.words) f.variables z) r.0)

    part_back : (p : ℕ × (Own × Bool)) → Among p d.parts → MeetsPart (vs p.0) p.1
    part_back p a =
        let l : p.0 < places = among_all (PartIn places) d.parts p h.inside.parts a in
        let m = variable_has MeetsParts x.satisfied.strings.parts p.0 l in
        filtered_among (MeetsPart (vs p.0)) (λ (q : ℕ × (Own × Bool)). nat_eq (get_or (firsts_of d) q.0 q.0) (least p.0)) (λ (q : ℕ × (Own × Bool)). q.1) d.parts p m.1 a (eq-eqb (least p.0) (least p.0) refl)

    all_defined : AllByRecursion (Defines x.words) (definitions_of d)
    all_defined = ordered_back (Defines x.words) (definitions_of d) (ap length (sym f.definitions) ∙ f.complete) (subst (AllByRecursion (Defines x.words)) f.definitions x.satisfied.strings.definitions)

    definition_back : (e : ℕ × By) → Among e d.definitions → ComesBy vs (vs e.0) e.1
    definition_back e a = (defines_is x.words e.0 e.1).0 (among_map (Defines x.words) (definition_of d) d.definitions e all_defined a)

    name_given : (i : ℕ) (n : List ℕ) (k : Sort) → At d.terms i (constant n k) → vs i ≡ word values (constant n k)
    name_given i n k a =
        let l = at_within d.terms i (constant n k) a in
        let m = variable_has (NamesHave values) x.of.names i l in
        let v : HasValue values (value.Text (vs i)) n = names_back (HasValue values (value.Text (vs i))) d.terms (firsts_of d) (least i) m i n k a (slice_of_get (firsts_of d) i i (least i) (subst (λ z. i < z) (sym firsts_long) l) refl) in
        ap (text_or values) (sym v)

    meets : draft.Meets values d vs
    meets = record { parts = λ i p a. part_back (i, p) a; definitions = λ i b a. definition_back (i, b) a; names = name_given; entries = λ i t a. h.entries i t (omega arith) a }

    vs_at : (i : ℕ) (s : Shape) → At d.terms i s → vs i ≡ word values s
    vs_at i s a = determined values d vs meets s (sound_at i s a).0 i a

    pub fits : Fits values vs d
    fits = from 0 d.terms (λ i s a. let e : 0 + i ≡ i = omega arith in ap vs e ∙ vs_at i s a)
      where
        from : (k : ℕ) (ts : List Shape) → ((i : ℕ) (s : Shape) → At ts i s → vs (k + i) ≡ word values s) → FitsFrom values vs k ts
        from k [] f = tt
        from k (t ∷ ts) f = (let e : k ≡ k + 0 = omega arith in ap vs e ∙ f 0 t refl, from (suc k) ts (λ i s a. let e : suc k + i ≡ k + suc i = omega arith in ap vs e ∙ f (suc i) s a))

    numbers_are : (ns : List (List ℕ)) (zs : List ℤ) → AllByRecursion (HasNumber values) ns → AllZip (λ n z. HasValue values (value.Number z) n) ns zs → zs ≡ map (amount values) (map integer ns)
    numbers_are [] [] a b = refl
    numbers_are [] (z ∷ zs) a b = absurd b
    numbers_are (n ∷ ns) [] a b = absurd b
    numbers_are (n ∷ ns) (z ∷ zs) a b =
        let e : Some (value.Number z) ≡ Some (value.Number (amount values (integer n))) = sym b.0 ∙ a.0 in
        let q : z ≡ amount values (integer n) = cc in
        λ i. q i ∷ numbers_are ns zs a.1 b.1 i

    equality_back : (e : ℕ × ℕ) → AreOne (firsts_of d) e.0 e.1 → EqualityHolds values vs e
    equality_back e o = ap (λ r. word_at x.words (length (filter (λ q. nat_lt q r) (roots_of d)))) o

    pub held : Holds values vs d
    held = record {
      parts = all_by_among (PartHolds values vs) d.parts (λ p a. part_back p a);
      definitions = all_by_among (DefinitionHolds values vs) d.definitions (λ e a. definition_back e a);
      equalities = AllByRecursion-weaker (λ (e : ℕ × ℕ). AreOne (firsts_of d) e.0 e.1) (EqualityHolds values vs) equality_back d.equalities are_one;
      comparisons =
          let e = numbers_are (integers_of d) x.numbers have_numbers (subst (λ ns. AllZip (λ n z. HasValue values (value.Number z) n) ns x.numbers) f.integers x.of.integers) in
          (comparisons_rows values d h.counted d.comparisons g.rows (λ c a. a) h.counted.comparisons f.rows).1
          (subst (λ l. AllByRecursion (MeetsRow (λ u. get_or l u (pos 0))) g.rows) (unknowns_are x.words x.numbers e (registers_have vs vs_at))
          (subst (λ rs. AllByRecursion (MeetsRow (row.unknowns_of x.numbers (flat.lengths_of rs x.words))) g.rows) f.registers x.satisfied.rows.rows));
      truths = subst (AllByRecursion (TruthHolds values vs)) f.truths x.of.truths;
      whole = sym f.broken ∙ x.satisfied.whole;
    }

pub flat_exact : ((r : Regex) (w : Word) → IsTrue (matches r w) ↔ In r w) → ((t : Transducer) (v w : Word) → IsTrue (writes t t.start v w) ↔ Pairs t v w) → FlatIsExact
flat_exact decided pairs_decided values ls g worded good f =
    let d = met ls in
    let h = met_settled values ls good f.inside in (
      λ t. extends values (met ls) h worded ((told values (words_at values (met ls).terms) decided pairs_decided ls good f.inside (all_fit values (met ls))).0 t) g f.of,
      λ x. (told values (vs values (met ls) h g f.of x) decided pairs_decided ls good f.inside (fits values (met ls) h g f.of x)).1 (held values (met ls) h g f.of x),
    )
