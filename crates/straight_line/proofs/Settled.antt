-- What holds of a draft whatever literals were added: its places are there, its terms are sound, each
-- has what says its word, and each unknown of a comparison stands once among the unknowns.
use Rattle.std.proofs.Common.{◌≡◌, refl, sym, ◌∙◌, subst, Bool, true, false, ◌&&◌, IsTrue, ℕ, ◌<◌, ℤ, pos, List, [], ◌∷◌, ◌++◌, map, length, Option, Some, None, nat_eq, arith}
use Rattle.std.specs.Prelude.{if◌then◌else◌}
use Rattle.std.specs.List.{AllByRecursion, list_all, list_any}
use Rattle.std.specs.Map.{lookup}
use Rattle.std.specs.Cmp.Lexicographic.{pointwise}
use Rattle.std.proofs.lemmas.Bool.{false≢true, and_parts}
use Rattle.std.proofs.lemmas.List.{map_push}
use Rattle.sv_list.specs.Lists.{AllByRecursion-weaker, AllByRecursion-push}
use Rattle.sv_terms.specs.declared.op.Op.{Op}
use Rattle.sv_terms.specs.declared.op.Op.TheVariants as op
use Rattle.sv_terms.specs.declared.sort.Sort.{Sort}
use Rattle.sv_terms.specs.declared.value.Value.TheVariants as value
use Rattle.sv_terms.specs.Meaning.{Named}
use Rattle.sv_terms.specs.Sorting.{is_valued}
use Rattle.sv_terms.specs.SortingLaws.{valued-apply}
use Rattle.literal_forms.specs.Shapes.{Shape, Shapes, number, text, constant, apply, end, ◌⨾◌, raw, raws}
use Rattle.literal_forms.specs.Codes.{same}
use Rattle.literal_forms.specs.Linear.{Linear, Unknown, integer, length_of, other, is_string, are_strings, is_linear, are_linear, is_product, linear, linears, written}
use Rattle.straight_line.specs.Laws.{IsSpelled, AreSpelled}
use Rattle.flat_cubes.specs.Met.{Comparison, DraftView, Found, with_term, with_definition, known_or, place_of, meet, meet_all, with_integer, registered, with_register, meet_unknowns, meet_all_unknowns, with_comparison, with_value, nothing_met, add}
use Rattle.flat_cubes.specs.Said.{Said, value_is, compares, holds, has_part, are_one, written_by, outside}
use Rattle.flat_cubes.specs.Satisfying.{HasValue}
use Rattle.flat_cubes.specs.declared.definition.By.TheVariants as by
use Rattle.straight_line.proofs.Amounts.{amount, number_is}
use Rattle.straight_line.proofs.Apart.{AreApart, Stands, apart_pushed, integers_of, lengths_of, length_stands, name_stands, stands, stands_last, stands_more}
use Rattle.cube_draft.proofs.Fine.{fine_difference, fine_product, fine_sum}
use Rattle.cube_draft.proofs.Sames.{string_self}
use Rattle.straight_line.proofs.Compared.{HasRow}
use Rattle.cube_draft.proofs.Entries.{among_left, At, at_within, Grows, entry_more, NewHave, first_have, is_entered}
use Rattle.straight_line.proofs.Parted.{AllOf, IsSound, sound_passes, met_terms}
use Rattle.cube_draft.proofs.Ranges.{AreIn, PartIn, DefinitionIn, PairIn, RegisterIn, is_placed}
use Rattle.straight_line.proofs.Saying.{text_self}
use Rattle.straight_line.proofs.Sound.{sound_written}
use Rattle.straight_line.proofs.Texts.{valued_constant}

-- what meeting a term leaves as it is
abbrev pub Rest : Type 0
Rest = List (List ℕ) × (List (Shape × ℕ) × List Comparison)

abbrev pub rest : DraftView → Rest
rest d = (d.integers, (d.registers, d.comparisons))

known_leaves : (d : DraftView) (new : Found) (o : Option ℕ) → rest new.1 ≡ rest d → rest (known_or o d new).1 ≡ rest d
known_leaves d new None e = e
known_leaves d new (Some i) e = refl

mutual
  pub leaves : (s : Shape) (d : DraftView) → is_string s ≡ true → rest (meet s d).1 ≡ rest d
  leaves (text w) d e = refl
  leaves (constant n s) d e = known_leaves d (length d.terms, with_term (constant n s) d) (place_of (constant n s) d.terms) refl
  leaves (apply op.Concat (s ⨾ ss)) d e =
      let t = apply op.Concat (s ⨾ ss) in
      let r = meet_all (s ⨾ ss) (with_term t d) in
      known_leaves d (length d.terms, with_definition (length d.terms) (by.Concat r.0) r.1) (place_of t d.terms) (all_leave (s ⨾ ss) (with_term t d) e)
  leaves (apply op.Replace (s ⨾ text p ⨾ text u ⨾ end)) d e =
      let t = apply op.Replace (s ⨾ text p ⨾ text u ⨾ end) in
      let r = meet s (with_term t d) in
      known_leaves d (length d.terms, with_definition (length d.terms) (by.First p u r.0) r.1) (place_of t d.terms) (leaves s (with_term t d) e)
  leaves (apply op.ReplaceAll (s ⨾ text p ⨾ text u ⨾ end)) d e =
      let t = apply op.ReplaceAll (s ⨾ text p ⨾ text u ⨾ end) in
      let r = meet s (with_term t d) in
      known_leaves d (length d.terms, with_definition (length d.terms) (by.All p u r.0) r.1) (place_of t d.terms) (leaves s (with_term t d) e)
  leaves _ d e = absurd (false≢true e)

  all_leave : (ss : Shapes) (d : DraftView) → are_strings ss ≡ true → rest (meet_all ss d).1 ≡ rest d
  all_leave end d e = refl
  all_leave (s ⨾ ss) d e =
      let h = and_parts (is_string s) (are_strings ss) e in
      all_leave ss (meet s d).1 h.1 ∙ leaves s d h.0

-- each unknown of a form stands among the unknowns
abbrev pub Known : List (List ℕ) → List (Shape × ℕ) → Linear → Type 0
Known ns rs a = AllByRecursion (λ (t : Unknown × ℤ). Stands ns rs t.0) a.terms

module _ (values : Named) where
  -- a term of sort Int of a written form whose constants have values, and whose words are words
  abbrev pub IsNumeric : Shape → Type 0
  IsNumeric s = (is_linear s ≡ true) × (IsTrue (is_valued values (raw s)) × IsSpelled s)

  numeric_all : (ss : Shapes) → are_linear ss ≡ true → IsTrue (list_all (λ b. b) (map (is_valued values) (raws ss))) → AreSpelled ss → AllOf IsNumeric ss
  numeric_all end e h w = tt
  numeric_all (s ⨾ ss) e h w =
      let a = and_parts (is_linear s) (are_linear ss) e in
      let b = and_parts (is_valued values (raw s)) (list_all (λ c. c) (map (is_valued values) (raws ss))) h in
      ((a.0, (b.0, w.0)), numeric_all ss a.1 b.1 w.1)

  numeric_arguments : (o : Op) (ss : Shapes) → are_linear ss ≡ true → IsTrue (is_valued values (raw (apply o ss))) → AreSpelled ss → AllOf IsNumeric ss
  numeric_arguments o ss e h w = numeric_all ss e (sym (valued-apply values o (raws ss)) ∙ h) w

  -- an integer constant has a number
  abbrev pub HasNumber : List ℕ → Type 0
  HasNumber n = HasValue values (value.Number (amount values (integer n))) n

  abbrev pub PlaceIs : List Shape → Shape × ℕ → Type 0
  PlaceIs ts r = At ts r.1 r.0

  pub record IsReady (ns : List (List ℕ)) (rs : List (Shape × ℕ)) (c : Comparison) : Type 0 where
    pub row : HasRow c.op c.positive
    pub left : IsNumeric c.left
    pub right : IsNumeric c.right
    pub known_left : Known ns rs (linear c.left)
    pub known_right : Known ns rs (linear c.right)

  -- the unknowns and the comparisons
  pub record AreCounted (ts : List Shape) (r : Rest) : Type 0 where
    pub numbers : AllByRecursion HasNumber r.0
    pub places : AllByRecursion (PlaceIs ts) r.1.0
    pub integers : AreApart (integers_of r.0)
    pub registers : AreApart (lengths_of r.1.0)
    pub comparisons : AllByRecursion (IsReady r.0 r.1.0) r.1.1

  pub record IsSettled (d : DraftView) : Type 0 where
    pub inside : AreIn (length d.terms) d
    pub sound : AllByRecursion (IsSound values) d.terms
    pub entries : NewHave nothing_met d
    pub counted : AreCounted d.terms (rest d)

  counted_more : (ts us : List Shape) (r : Rest) → ((i : ℕ) (s : Shape) → At ts i s → At us i s) → AreCounted ts r → AreCounted us r
  counted_more ts us r f c = record { numbers = c.numbers; places = AllByRecursion-weaker (PlaceIs ts) (PlaceIs us) (λ q a. f q.1 q.0 a) r.1.0 c.places; integers = c.integers; registers = c.registers; comparisons = c.comparisons }

  -- a string term is met
  pub settled_met : (s : Shape) (d : DraftView) → IsSound values s → IsSettled d → IsSettled (meet s d).1
  settled_met s d q h =
      let p = is_placed s d q.0 in
      let m = is_entered s d q.0 in
      record {
        inside = p.keeps h.inside;
        sound = met_terms (IsSound values) (sound_passes values) s d q.0 q h.sound;
        entries = first_have nothing_met d (meet s d).1 m.grows h.entries m.entries;
        counted = subst (AreCounted (meet s d).1.terms) (sym (leaves s d q.0)) (counted_more d.terms (meet s d).1.terms (rest d) m.grows.terms h.counted);
      }

  -- the unknowns that stand in one draft stand in another
  abbrev pub More : DraftView → DraftView → Type 0
  More d e = (u : Unknown) → Stands d.integers d.registers u → Stands e.integers e.registers u

  known_more : (d e : DraftView) → More d e → (a : Linear) → Known d.integers d.registers a → Known e.integers e.registers a
  known_more d e f a k = AllByRecursion-weaker (λ (t : Unknown × ℤ). Stands d.integers d.registers t.0) (λ (t : Unknown × ℤ). Stands e.integers e.registers t.0) (λ t h. f t.0 h) a.terms k

  ready_more : (d e : DraftView) → More d e → (c : Comparison) → IsReady d.integers d.registers c → IsReady e.integers e.registers c
  ready_more d e f c r = record { row = r.row; left = r.left; right = r.right; known_left = known_more d e f (linear c.left) r.known_left; known_right = known_more d e f (linear c.right) r.known_right }

  pub record IsStanding (d e : DraftView) (u : Unknown) : Type 0 where
    pub settled : IsSettled e
    pub more : More d e
    pub here : Stands e.integers e.registers u

  abbrev with_name : List ℕ → DraftView → DraftView
  with_name n d = record d { integers = d.integers ++ n ∷ [] }

  name_more : (n : List ℕ) (d : DraftView) → More d (with_name n d)
  name_more n d (integer m) h = subst (λ us. stands (integer m) us ≡ true) (sym (map_push integer d.integers n)) (stands_more (integer m) (integer n) (integers_of d.integers) h)
  name_more n d (length_of s) h = h
  name_more n d (other s) h = h

  integer_standing : (n : List ℕ) (d : DraftView) → HasNumber n → IsSettled d → (b : Bool) → list_any (pointwise nat_eq n) d.integers ≡ b → IsStanding d (if b then d else with_name n d) (integer n)
  integer_standing n d v h true e = record { settled = h; more = λ u k. k; here = name_stands n d.integers ∙ e }
  integer_standing n d v h false e = record {
    settled = record {
      inside = record { parts = h.inside.parts; definitions = h.inside.definitions; equalities = h.inside.equalities; registers = h.inside.registers };
      sound = h.sound;
      entries = λ i t l a. entry_more d (with_name n d) (record { terms = λ j s x. x; parts = λ p x. x; definitions = λ q x. x }) i t (h.entries i t l a);
      counted = record {
        numbers = AllByRecursion-push HasNumber d.integers n h.counted.numbers v;
        places = h.counted.places;
        integers = subst AreApart (sym (map_push integer d.integers n)) (apart_pushed (integers_of d.integers) (integer n) tt h.counted.integers (name_stands n d.integers ∙ e));
        registers = h.counted.registers;
        comparisons = AllByRecursion-weaker (IsReady d.integers d.registers) (IsReady (with_name n d).integers (with_name n d).registers) (ready_more d (with_name n d) (name_more n d)) d.comparisons h.counted.comparisons;
      };
    };
    more = name_more n d;
    here = subst (λ us. stands (integer n) us ≡ true) (sym (map_push integer d.integers n)) (stands_last (integer n) (integer n) (integers_of d.integers) (text_self n));
  }

  abbrev with_length : Shape → ℕ → DraftView → DraftView
  with_length s i d = record d { registers = d.registers ++ (s, i) ∷ [] }

  length_more : (s : Shape) (i : ℕ) (d : DraftView) → More d (with_length s i d)
  length_more s i d (integer n) h = h
  length_more s i d (other t) h = h
  length_more s i d (length_of t) h = subst (λ us. stands (length_of t) us ≡ true) (sym (map_push (λ (r : Shape × ℕ). length_of r.0) d.registers (s, i))) (stands_more (length_of t) (length_of s) (lengths_of d.registers) h)

  length_standing : (s : Shape) (i : ℕ) (d : DraftView) → is_string s ≡ true → At d.terms i s → IsSettled d → list_any (λ (r : Shape × ℕ). same s r.0) d.registers ≡ false → IsStanding d (with_length s i d) (length_of s)
  length_standing s i d q a h e = record {
    settled = record {
      inside = record { parts = h.inside.parts; definitions = h.inside.definitions; equalities = h.inside.equalities; registers = AllByRecursion-push (RegisterIn (length d.terms)) d.registers (s, i) h.inside.registers (at_within d.terms i s a) };
      sound = h.sound;
      entries = λ j t l b. entry_more d (with_length s i d) (record { terms = λ k v x. x; parts = λ p x. x; definitions = λ p x. x }) j t (h.entries j t l b);
      counted = record {
        numbers = h.counted.numbers;
        places = AllByRecursion-push (PlaceIs d.terms) d.registers (s, i) h.counted.places a;
        integers = h.counted.integers;
        registers = subst AreApart (sym (map_push (λ (r : Shape × ℕ). length_of r.0) d.registers (s, i))) (apart_pushed (lengths_of d.registers) (length_of s) q h.counted.registers (length_stands s d.registers ∙ e));
        comparisons = AllByRecursion-weaker (IsReady d.integers d.registers) (IsReady (with_length s i d).integers (with_length s i d).registers) (ready_more d (with_length s i d) (length_more s i d)) d.comparisons h.counted.comparisons;
      };
    };
    more = length_more s i d;
    here = subst (λ us. stands (length_of s) us ≡ true) (sym (map_push (λ (r : Shape × ℕ). length_of r.0) d.registers (s, i))) (stands_last (length_of s) (length_of s) (lengths_of d.registers) (string_self s));
  }

  more_left : (d e : DraftView) → rest e ≡ rest d → More d e
  more_left d e p u h = subst (λ (r : Rest). Stands r.0 r.1.0 u) (sym p) h

  register_standing : (s : Shape) (d : DraftView) → IsSound values s → IsSettled d → (b : Bool) → list_any (λ (r : Shape × ℕ). same s r.0) d.registers ≡ b → IsStanding d (if b then d else registered s (meet s d)) (length_of s)
  register_standing s d q h true e = record { settled = h; more = λ u k. k; here = length_stands s d.registers ∙ e }
  register_standing s d q h false e =
      let l = leaves s d q.0 in
      let m = is_entered s d q.0 in
      let k = length_standing s (meet s d).0 (meet s d).1 q.0 m.at (settled_met s d q h) ((λ i. list_any (λ (r : Shape × ℕ). same s r.0) (l i).1.0) ∙ e) in
      record { settled = k.settled; more = λ u x. k.more u (more_left d (meet s d).1 l u x); here = k.here }

  -- the unknowns of a term, and of terms one after another
  pub record IsCounted (d e : DraftView) (a : Linear) : Type 0 where
    pub settled : IsSettled e
    pub more : More d e
    pub known : Known e.integers e.registers a

  pub record AllCounted (d e : DraftView) (ls : List Linear) : Type 0 where
    pub settled : IsSettled e
    pub more : More d e
    pub known : AllByRecursion (Known e.integers e.registers) ls

  same_counted : (d : DraftView) (n : ℤ) → IsSettled d → IsCounted d d (record { terms = []; constant = n })
  same_counted d n h = record { settled = h; more = λ u k. k; known = tt }

  one_counted : (d e : DraftView) (u : Unknown) → IsStanding d e u → IsCounted d e (record { terms = (u, pos 1) ∷ []; constant = pos 0 })
  one_counted d e u s = record { settled = s.settled; more = s.more; known = (s.here, tt) }

  combined_counted : (d e : DraftView) (ls : List Linear) (a : Linear) → AllCounted d e ls → (AllByRecursion (Known e.integers e.registers) ls → Known e.integers e.registers a) → IsCounted d e a
  combined_counted d e ls a c f = record { settled = c.settled; more = c.more; known = f c.known }

  sound_argument : (s : Shape) → IsNumeric (apply op.Length (s ⨾ end)) → IsSound values s
  sound_argument s q = (q.0, ((and_parts (is_valued values (raw s)) true (sym (valued-apply values op.Length (raws (s ⨾ end))) ∙ q.1.0)).0, q.1.1.0))

  register_counted : (s : Shape) (d : DraftView) → IsNumeric (apply op.Length (s ⨾ end)) → IsSettled d → IsCounted d (with_register (written s) d) (record { terms = (length_of (written s), pos 1) ∷ []; constant = pos 0 })
  register_counted s d q h = one_counted d (with_register (written s) d) (length_of (written s)) (register_standing (written s) d (sound_written values s (sound_argument s q)) h (list_any (λ (r : Shape × ℕ). same (written s) r.0) d.registers) refl)

  number_given : (n : List ℕ) (s : Sort) → IsNumeric (constant n s) → HasNumber n
  number_given n s q = number_is values (lookup (pointwise nat_eq n) values) s q.0 (sym (valued_constant values n s) ∙ q.1.0)

  mutual
    pub unknowns_counted : (s : Shape) (d : DraftView) → IsNumeric s → IsSettled d → IsCounted d (meet_unknowns s d) (linear s)
    unknowns_counted (number n) d q h = same_counted d n h
    unknowns_counted (constant n s) d q h = one_counted d (with_integer n d) (integer n) (integer_standing n d (number_given n s q) h (list_any (pointwise nat_eq n) d.integers) refl)
    unknowns_counted (apply op.Length (text w ⨾ end)) d q h = same_counted d (pos (length w)) h
    unknowns_counted (apply op.Length (constant n s ⨾ end)) d q h = register_counted (constant n s) d q h
    unknowns_counted (apply op.Length (apply o ss ⨾ end)) d q h = register_counted (apply o ss) d q h
    unknowns_counted (apply op.Add (s ⨾ ss)) d q h =
        let e = meet_all_unknowns (s ⨾ ss) d in
        combined_counted d e (linears (s ⨾ ss)) (linear (apply op.Add (s ⨾ ss))) (all_unknowns_counted (s ⨾ ss) d (numeric_arguments op.Add (s ⨾ ss) q.0 q.1.0 q.1.1) h) (λ k. fine_sum (Stands e.integers e.registers) (linear s) (linears ss) k.0 k.1)
    unknowns_counted (apply op.Subtract (s ⨾ ss)) d q h =
        let e = meet_all_unknowns (s ⨾ ss) d in
        combined_counted d e (linears (s ⨾ ss)) (linear (apply op.Subtract (s ⨾ ss))) (all_unknowns_counted (s ⨾ ss) d (numeric_arguments op.Subtract (s ⨾ ss) q.0 q.1.0 q.1.1) h) (λ k. fine_difference (Stands e.integers e.registers) (linear s) (linears ss) k.0 k.1)
    unknowns_counted (apply op.Multiply (s ⨾ ss)) d q h =
        let e = meet_all_unknowns (s ⨾ ss) d in
        let p = and_parts (is_linear s && are_linear ss) (is_product (linears (s ⨾ ss))) q.0 in
        combined_counted d e (linears (s ⨾ ss)) (linear (apply op.Multiply (s ⨾ ss))) (all_unknowns_counted (s ⨾ ss) d (numeric_arguments op.Multiply (s ⨾ ss) p.0 q.1.0 q.1.1) h) (λ k. fine_product (Stands e.integers e.registers) (linear s) (linears ss) k.0 k.1)
    unknowns_counted (apply op.Length (s ⨾ t ⨾ ss)) d q h = absurd (false≢true q.0)
    unknowns_counted (apply op.Length (s ⨾ end)) d q h = absurd (false≢true q.0)
    unknowns_counted _ d q h = absurd (false≢true q.0)

    all_unknowns_counted : (ss : Shapes) (d : DraftView) → AllOf IsNumeric ss → IsSettled d → AllCounted d (meet_all_unknowns ss d) (linears ss)
    all_unknowns_counted end d q h = record { settled = h; more = λ u k. k; known = tt }
    all_unknowns_counted (s ⨾ ss) d q h =
        let a = unknowns_counted s d q.0 h in
        let b = all_unknowns_counted ss (meet_unknowns s d) q.1 a.settled in
        record {
          settled = b.settled;
          more = λ u k. b.more u (a.more u k);
          known = (known_more (meet_unknowns s d) (meet_all_unknowns ss (meet_unknowns s d)) b.more (linear s) a.known, b.known);
        }

  -- the terms of a literal
  abbrev pub Ready : Said → Type 0
  Ready (value_is n b) = Unit {0}
  Ready (compares o s t b) = HasRow o b × (IsNumeric s × IsNumeric t)
  Ready (holds b) = Unit {0}
  Ready (has_part s o b) = IsSound values s
  Ready (are_one s t) = IsSound values s × IsSound values t
  Ready (written_by m s t) = IsSound values s × IsSound values t
  Ready outside = ⊥

  -- the same terms and unknowns, with more said of them
  settled_by : (d e : DraftView) → IsSettled d → Grows d e → ((i : ℕ) (t : Shape) → At e.terms i t → At d.terms i t) → AreIn (length e.terms) e → AllByRecursion (IsSound values) e.terms → AreCounted e.terms (rest e) → IsSettled e
  settled_by d e h g back i s c = record { inside = i; sound = s; entries = λ j t l a. entry_more d e g j t (h.entries j t l (back j t a)); counted = c }

  settled_value : (o : Option Bool) (n : List ℕ) (b : Bool) (d : DraftView) → IsSettled d → IsSettled (with_value o n b d)
  settled_value None n b d h = settled_by d (with_value None n b d) h (record { terms = λ i s a. a; parts = λ p a. a; definitions = λ q a. a }) (λ i t a. a) (record { parts = h.inside.parts; definitions = h.inside.definitions; equalities = h.inside.equalities; registers = h.inside.registers }) h.sound h.counted
  settled_value (Some c) n b d h = settled_by d (with_value (Some c) n b d) h (record { terms = λ i s a. a; parts = λ p a. a; definitions = λ q a. a }) (λ i t a. a) (record { parts = h.inside.parts; definitions = h.inside.definitions; equalities = h.inside.equalities; registers = h.inside.registers }) h.sound h.counted

  settled_comparison : (c : Comparison) (d : DraftView) → IsSettled d → IsReady d.integers d.registers c → IsSettled (with_comparison c d)
  settled_comparison c d h r = settled_by d (with_comparison c d) h (record { terms = λ i s a. a; parts = λ p a. a; definitions = λ q a. a }) (λ i t a. a) (record { parts = h.inside.parts; definitions = h.inside.definitions; equalities = h.inside.equalities; registers = h.inside.registers }) h.sound
      (record { numbers = h.counted.numbers; places = h.counted.places; integers = h.counted.integers; registers = h.counted.registers; comparisons = AllByRecursion-push (IsReady d.integers d.registers) d.comparisons c h.counted.comparisons r })

  -- a term that was met, with its place
  placed_written : (s : Shape) (d : DraftView) → IsSound values s → (meet (written s) d).0 < length (meet (written s) d).1.terms
  placed_written s d q = (is_placed (written s) d (sound_written values s q).0).place

  pub is_settled : (x : Said) (d : DraftView) → Ready x → IsSettled d → IsSettled (add x d)
  is_settled (value_is n b) d r h = settled_value (lookup (pointwise nat_eq n) d.truths) n b d h
  is_settled (compares o s t b) d r h =
      let a = unknowns_counted s d r.1.0 h in
      let c = unknowns_counted t (meet_unknowns s d) r.1.1 a.settled in
      settled_comparison (record { op = o; left = s; right = t; positive = b }) (meet_unknowns t (meet_unknowns s d)) c.settled
      (record { row = r.0; left = r.1.0; right = r.1.1; known_left = known_more (meet_unknowns s d) (meet_unknowns t (meet_unknowns s d)) c.more (linear s) a.known; known_right = c.known })
  is_settled (holds b) d r h = settled_by d (add (holds b) d) h (record { terms = λ i s a. a; parts = λ p a. a; definitions = λ q a. a }) (λ i t a. a) (record { parts = h.inside.parts; definitions = h.inside.definitions; equalities = h.inside.equalities; registers = h.inside.registers }) h.sound h.counted
  is_settled (has_part s o b) d r h =
      let e = meet (written s) d in
      let k = settled_met (written s) d (sound_written values s r) h in
      settled_by (meet (written s) d).1 (add (has_part s o b) d) k (record { terms = λ i u a. a; parts = λ p a. among_left p (meet (written s) d).1.parts _ a; definitions = λ q a. a }) (λ i u a. a)
      (record { parts = AllByRecursion-push (PartIn (length (meet (written s) d).1.terms)) (meet (written s) d).1.parts ((meet (written s) d).0, (o, b)) k.inside.parts (placed_written s d r); definitions = k.inside.definitions; equalities = k.inside.equalities; registers = k.inside.registers }) k.sound k.counted
  is_settled (are_one s t) d r h =
      let k = settled_met (written s) d (sound_written values s r.0) h in
      let l = settled_met (written t) (meet (written s) d).1 (sound_written values t r.1) k in
      let p = placed_written s d r.0 in
      let q = placed_written t (meet (written s) d).1 r.1 in
      let g = (is_placed (written t) (meet (written s) d).1 (sound_written values t r.1).0).grows in
      settled_by (meet (written t) (meet (written s) d).1).1 (add (are_one s t) d) l (record { terms = λ i u a. a; parts = λ p a. a; definitions = λ q a. a }) (λ i u a. a)
      (record { parts = l.inside.parts; definitions = l.inside.definitions; equalities = AllByRecursion-push (PairIn (length (meet (written t) (meet (written s) d).1).1.terms)) (meet (written t) (meet (written s) d).1).1.equalities ((meet (written s) d).0, (meet (written t) (meet (written s) d).1).0) l.inside.equalities (omega arith, q); registers = l.inside.registers }) l.sound l.counted
  is_settled (written_by m s t) d r h =
      let k = settled_met (written s) d (sound_written values s r.0) h in
      let l = settled_met (written t) (meet (written s) d).1 (sound_written values t r.1) k in
      let p = placed_written s d r.0 in
      let q = placed_written t (meet (written s) d).1 r.1 in
      let g = (is_placed (written t) (meet (written s) d).1 (sound_written values t r.1).0).grows in
      settled_by (meet (written t) (meet (written s) d).1).1 (add (written_by m s t) d) l (record { terms = λ i u a. a; parts = λ p a. a; definitions = λ q a. among_left q (meet (written t) (meet (written s) d).1).1.definitions _ a }) (λ i u a. a)
      (record { parts = l.inside.parts; definitions = AllByRecursion-push (DefinitionIn (length (meet (written t) (meet (written s) d).1).1.terms)) (meet (written t) (meet (written s) d).1).1.definitions ((meet (written t) (meet (written s) d).1).0, by.Through m (meet (written s) d).0) l.inside.definitions (q, (omega arith, tt)); equalities = l.inside.equalities; registers = l.inside.registers }) l.sound l.counted
  is_settled outside d r h = absurd r

  pub nothing_settled : IsSettled nothing_met
  nothing_settled = record {
    inside = record { parts = tt; definitions = tt; equalities = tt; registers = tt };
    sound = tt;
    entries = λ i t l a. absurd (let m = at_within [] i t a in omega arith);
    counted = record { numbers = tt; places = tt; integers = λ u h. absurd (false≢true h); registers = λ u h. absurd (false≢true h); comparisons = tt };
  }
