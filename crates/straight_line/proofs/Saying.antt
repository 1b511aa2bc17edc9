-- A literal is true exactly where what it says is.
use Rattle.std.proofs.Common.{◌≡◌, refl, sym, ap, ◌∙◌, Bool, true, false, not, ◌&&◌, IsTrue, ◌↔◌, ℕ, List, [], ◌∷◌, Option, Some, nat_eq}
use Rattle.std.specs.Prelude.{reverse}
use Rattle.std.specs.Cmp.Lexicographic.{pointwise, same_text}
use Rattle.std.proofs.lemmas.Bool.{eq-eqb, and_parts}
use Rattle.cube_draft.proofs.Proper.{IsFormedSaid}
use Rattle.sv_list.specs.Bools.{and-true}
use Rattle.sv_terms.specs.declared.value.Value.{Value}
use Rattle.sv_terms.specs.declared.value.Value.TheVariants as value
use Rattle.sv_terms.specs.declared.op.Op.{Op}
use Rattle.sv_terms.specs.declared.op.Op.TheVariants as op
use Rattle.sv_terms.specs.declared.regex.Regex.{Regex}
use Rattle.sv_terms.specs.declared.sort.Sort.{Sort}
use Rattle.sv_terms.specs.declared.sort.Sort.TheVariants as sort
use Rattle.sv_terms.specs.declared.transducer.Transducer.{Transducer}
use Rattle.sv_terms.specs.declared.term.Term.{Term}
use Rattle.sv_terms.specs.declared.term.Term.TheVariants as term
use Rattle.sv_terms.specs.declared.term.Term.TheOpen.{Term-F}
use Rattle.sv_terms.specs.Language.{Word, In}
use Rattle.sv_terms.specs.Matches.{matches}
use Rattle.sv_terms.specs.Meaning.{Named, all_of, applied, applied_if, tested, related as related_value, val, val_step, same_truth, is_digit}
use Rattle.sv_terms.specs.Replacement.{begins, occurs}
use Rattle.sv_terms.specs.Sorting.{is_valued, valued_step}
use Rattle.sv_terms.specs.Transduction.{Pairs, writes}
use Rattle.literal_forms.specs.Shapes.{Shape, text, constant, apply, member, related, end, ◌⨾◌, raw, head_sort}
use Rattle.literal_forms.specs.Linear.{is_string, is_linear}
use Rattle.flat_cubes.specs.Said.{Said, compares, holds, has_part, are_one, written_by, where_true, part_said, row_said, one_said, string_said, equality_said, pair_said, constant_said, atom_said, is_outside}
use Rattle.flat_cubes.specs.Satisfying.{Says}
use Rattle.flat_cubes.specs.declared.variable.Own.{Own}
use Rattle.flat_cubes.specs.declared.variable.Own.TheVariants as own
use Rattle.sv_terms.specs.SortingLaws.{fold-at, val-apply, valued-apply}
use Rattle.straight_line.proofs.Texts.{word, val_word, val_constant, val_text}
use Rattle.straight_line.proofs.Adding.{Truth}

pub text_self : (w : Word) → pointwise nat_eq w w ≡ true
text_self [] = refl
text_self (c ∷ w) = (λ i. eq-eqb c c refl i && pointwise nat_eq w w) ∙ text_self w

module _ (values : Named) (ws : ℕ → Word) (decided : (r : Regex) (w : Word) → IsTrue (matches r w) ↔ In r w) (pairs_decided : (t : Transducer) (v w : Word) → IsTrue (writes t t.start v w) ↔ Pairs t v w) where
  -- the literal is true exactly where what it says is, and its terms are of written forms
  abbrev Tells : Term → Bool → Said → Type 0
  Tells t b x = IsFormedSaid x × ((val values t ≡ Some (value.Truth b)) ↔ Truth values ws x)

  truth_is : (a b : Bool) → Some (value.Truth a) ≡ Some (value.Truth b) → a ≡ b
  truth_is a b e = cc

  -- a part
  part_tells : (t : Term) (s : Shape) (o : Own) (b a : Bool) → is_string s ≡ true → val values t ≡ Some (value.Truth a) → IsTrue a ↔ Says o (word values s) → Tells t b (has_part s o b)
  part_tells t s o true a f e k = (f, (λ h. k.0 (truth_is a true (sym e ∙ h)), λ m. e ∙ ap (λ c. Some (value.Truth c)) (k.1 m)))
  part_tells t s o false a f e k = (f, (λ h m. let g : a ≡ false = truth_is a false (sym e ∙ h) in let l : a ≡ true = k.1 m in absurd (cc), λ m. e ∙ ap (λ c. Some (value.Truth c)) (by_value a (λ h. m (k.0 h)))))
    where
      by_value : (a : Bool) → (IsTrue a → ⊥) → a ≡ false
      by_value true h = absurd (h refl)
      by_value false h = refl

  -- where the test of the form holds
  where_tells : (t : Term) (b c : Bool) (x : Said) → is_outside (where_true c x) ≡ false → (c ≡ true → Tells t b x) → Tells t b (where_true c x)
  where_tells t b true x o k = k refl
  where_tells t b false x o k = absurd (cc)

  val_two : (o : Op) (s t : Shape) (v w : Value) → val values (raw s) ≡ Some v → val values (raw t) ≡ Some w → val values (term.Apply o (raw s ∷ raw t ∷ [])) ≡ applied o (v ∷ w ∷ [])
  val_two o s t v w e f = val-apply values o (raw s ∷ raw t ∷ []) ∙ (λ i. applied_if o (all_of (e i ∷ f i ∷ [])))

  val_one : (o : Op) (s : Shape) (v : Value) → val values (raw s) ≡ Some v → val values (term.Apply o (raw s ∷ [])) ≡ applied o (v ∷ [])
  val_one o s v e = val-apply values o (raw s ∷ []) ∙ (λ i. applied_if o (all_of (e i ∷ [])))

  valued_two : (o : Op) (s t : Shape) → IsTrue (is_valued values (term.Apply o (raw s ∷ raw t ∷ []))) → IsTrue (is_valued values (raw s)) × IsTrue (is_valued values (raw t))
  valued_two o s t h =
      let k = sym (valued-apply values o (raw s ∷ raw t ∷ [])) ∙ h in
      let a = and_parts (is_valued values (raw s)) (is_valued values (raw t) && true) k in
      (a.0, (and_parts (is_valued values (raw t)) true a.1).0)

  valued_one : (o : Op) (s : Shape) → IsTrue (is_valued values (term.Apply o (raw s ∷ []))) → IsTrue (is_valued values (raw s))
  valued_one o s h = (and_parts (is_valued values (raw s)) true (sym (valued-apply values o (raw s ∷ [])) ∙ h)).0

  same_words : (v w : Word) → IsTrue (pointwise nat_eq v w) ↔ (w ≡ v)
  same_words v w = (λ h. sym (same_text v w (sym h)), λ e. ap (pointwise nat_eq v) e ∙ text_self v)

  -- an equality of a term and a literal
  word_left : (w : Word) (t : Shape) (b : Bool) → IsTrue (is_valued values (raw t)) → is_outside (part_said t (own.Word w) b) ≡ false → Tells (term.Apply op.Equal (raw (text w) ∷ raw t ∷ [])) b (part_said t (own.Word w) b)
  word_left w t b h o = where_tells _ b (is_string t) (has_part t (own.Word w) b) o (λ f.
      part_tells _ t (own.Word w) b (pointwise nat_eq w (word values t)) f
      (val_two op.Equal (text w) t (value.Text w) (value.Text (word values t)) (val_text values w) (val_word values t f h) ∙ ap (λ c. Some (value.Truth c)) (and-true (pointwise nat_eq w (word values t))))
      (same_words w (word values t)))

  word_right : (s : Shape) (w : Word) (b : Bool) → IsTrue (is_valued values (raw s)) → is_outside (part_said s (own.Word w) b) ≡ false → Tells (term.Apply op.Equal (raw s ∷ raw (text w) ∷ [])) b (part_said s (own.Word w) b)
  word_right s w b h o = where_tells _ b (is_string s) (has_part s (own.Word w) b) o (λ f.
      part_tells _ s (own.Word w) b (pointwise nat_eq (word values s) w) f
      (val_two op.Equal s (text w) (value.Text (word values s)) (value.Text w) (val_word values s f h) (val_text values w) ∙ ap (λ c. Some (value.Truth c)) (and-true (pointwise nat_eq (word values s) w)))
      (λ k. same_text (word values s) w (sym k), λ e. ap (λ u. pointwise nat_eq u w) e ∙ text_self w))

  one_tells : (s t : Shape) (b : Bool) → IsTrue (is_valued values (raw s)) → IsTrue (is_valued values (raw t)) → is_outside (one_said s t b) ≡ false → Tells (term.Apply op.Equal (raw s ∷ raw t ∷ [])) b (one_said s t b)
  one_tells s t false h k o = absurd (cc)
  one_tells s t true h k o = where_tells _ true (is_string s && is_string t) (are_one s t) o (λ f.
      let g = and_parts (is_string s) (is_string t) f in
      let e : val values (term.Apply op.Equal (raw s ∷ raw t ∷ [])) ≡ Some (value.Truth (pointwise nat_eq (word values s) (word values t))) = val_two op.Equal s t (value.Text (word values s)) (value.Text (word values t)) (val_word values s g.0 h) (val_word values t g.1 k) ∙ ap (λ c. Some (value.Truth c)) (and-true (pointwise nat_eq (word values s) (word values t))) in (
        (g.0, g.1),
        (
          λ q. same_text (word values s) (word values t) (sym (truth_is (pointwise nat_eq (word values s) (word values t)) true (sym e ∙ q))),
          λ q. e ∙ ap (λ c. Some (value.Truth c)) (ap (pointwise nat_eq (word values s)) (sym q) ∙ text_self (word values s)),
        ),
      ))

  literals_tell : (v w : Word) (b : Bool) → Tells (term.Apply op.Equal (raw (text v) ∷ raw (text w) ∷ [])) b (holds (same_truth b (pointwise nat_eq v w)))
  literals_tell v w b =
      let e : val values (term.Apply op.Equal (raw (text v) ∷ raw (text w) ∷ [])) ≡ Some (value.Truth (pointwise nat_eq v w)) = val_two op.Equal (text v) (text w) (value.Text v) (value.Text w) (val_text values v) (val_text values w) ∙ ap (λ c. Some (value.Truth c)) (and-true (pointwise nat_eq v w)) in
      (tt, (λ h. same_of b (pointwise nat_eq v w) (truth_is (pointwise nat_eq v w) b (sym e ∙ h)), λ h. e ∙ ap (λ c. Some (value.Truth c)) (of_same b (pointwise nat_eq v w) h)))
    where
      same_of : (b c : Bool) → c ≡ b → same_truth b c ≡ true
      same_of true c e = e
      same_of false c e = ap not e

      of_same : (b c : Bool) → same_truth b c ≡ true → c ≡ b
      of_same true c e = e
      of_same false true e = absurd (cc)
      of_same false false e = refl

  string_tells : (s t : Shape) (b : Bool) → IsTrue (is_valued values (raw s)) → IsTrue (is_valued values (raw t)) → is_outside (string_said s t b) ≡ false → Tells (term.Apply op.Equal (raw s ∷ raw t ∷ [])) b (string_said s t b)
  string_tells (text v) (text w) b h k o = literals_tell v w b
  string_tells (text w) t b h k o = word_left w t b k o
  string_tells s (text w) b h k o = word_right s w b h o
  string_tells s t b h k o = one_tells s t b h k o

  -- a comparison of numbers
  row_tells : (p : Op) (s t : Shape) (b : Bool) → is_outside (row_said p s t b) ≡ false → Tells (term.Apply p (raw s ∷ raw t ∷ [])) b (row_said p s t b)
  row_tells p s t b o = where_tells _ b (is_linear s && is_linear t) (compares p s t b) o (λ f. (and_parts (is_linear s) (is_linear t) f, (λ h. h, λ h. h)))

  equal_tells : (k : Sort) (s t : Shape) (b : Bool) → IsTrue (is_valued values (raw s)) → IsTrue (is_valued values (raw t)) → is_outside (equality_said k s t b) ≡ false → Tells (term.Apply op.Equal (raw s ∷ raw t ∷ [])) b (equality_said k s t b)
  equal_tells sort.String s t b h k o = string_tells s t b h k o
  equal_tells sort.Int s t true h k o = row_tells op.Equal s t true o
  equal_tells sort.Int s t false h k o = absurd (cc)
  equal_tells sort.Bool s t b h k o = absurd (cc)
  equal_tells sort.RegLan s t b h k o = absurd (cc)

  constant_tells : (n : List ℕ) (s : Sort) (b : Bool) → is_outside (constant_said n s b) ≡ false → Tells (term.Constant n s) b (constant_said n s b)
  constant_tells n sort.Bool b o = (tt, (λ h. sym (val_constant values n sort.Bool) ∙ h, λ h. val_constant values n sort.Bool ∙ h))
  constant_tells n sort.Int b o = absurd (cc)
  constant_tells n sort.String b o = absurd (cc)
  constant_tells n sort.RegLan b o = absurd (cc)

  member_tells : (s : Shape) (r : Regex) (b : Bool) → IsTrue (is_valued values (term.InRe (raw s) r)) → is_outside (part_said s (own.InRe r) b) ≡ false → Tells (term.InRe (raw s) r) b (part_said s (own.InRe r) b)
  member_tells s r b h o = where_tells _ b (is_string s) (has_part s (own.InRe r) b) o (λ f.
      let k : IsTrue (is_valued values (raw s)) = sym (fold-at Bool (valued_step values) _ (Term-F.InRe (raw s) r) (term.rolls-InRe (raw s) r)) ∙ h in
      part_tells _ s (own.InRe r) b (matches r (word values s)) f
      (fold-at (Option Value) (val_step values) _ (Term-F.InRe (raw s) r) (term.rolls-InRe (raw s) r) ∙ ap (tested (matches r)) (val_word values s f k))
      (decided r (word values s)))

  pair_tells : (t : Transducer) (s u : Shape) (b : Bool) → IsTrue (is_valued values (term.Related t (raw s) (raw u))) → is_outside (pair_said t s u b) ≡ false → Tells (term.Related t (raw s) (raw u)) b (pair_said t s u b)
  pair_tells t s u false h o = absurd (cc)
  pair_tells t s u true h o = where_tells _ true (is_string s && is_string u) (written_by t s u) o (λ f.
      let g = and_parts (is_string s) (is_string u) f in
      let k = and_parts (is_valued values (raw s)) (is_valued values (raw u)) (sym (fold-at Bool (valued_step values) _ (Term-F.Related t (raw s) (raw u)) (term.rolls-Related t (raw s) (raw u))) ∙ h) in
      let e : val values (term.Related t (raw s) (raw u)) ≡ Some (value.Truth (writes t t.start (word values s) (word values u))) =
      fold-at (Option Value) (val_step values) _ (Term-F.Related t (raw s) (raw u)) (term.rolls-Related t (raw s) (raw u)) ∙ (λ i. related_value t (val_word values s g.0 k.0 i) (val_word values u g.1 k.1 i)) in (
        (g.0, g.1),
        (
          λ q. (pairs_decided t (word values s) (word values u)).0 (truth_is (writes t t.start (word values s) (word values u)) true (sym e ∙ q)),
          λ q. e ∙ ap (λ c. Some (value.Truth c)) ((pairs_decided t (word values s) (word values u)).1 q),
        ),
      ))

  same_fact : (a : Bool) → IsTrue a ↔ (a ≡ true)
  same_fact a = (λ h. h, λ h. h)

  prefix_tells : (p : Word) (s : Shape) (b : Bool) → IsTrue (is_valued values (term.Apply op.PrefixOf (raw (text p) ∷ raw s ∷ []))) → is_outside (part_said s (own.Prefix p) b) ≡ false → Tells (term.Apply op.PrefixOf (raw (text p) ∷ raw s ∷ [])) b (part_said s (own.Prefix p) b)
  prefix_tells p s b h o = where_tells _ b (is_string s) (has_part s (own.Prefix p) b) o (λ f.
      part_tells _ s (own.Prefix p) b (begins p (word values s)) f
      (val_two op.PrefixOf (text p) s (value.Text p) (value.Text (word values s)) (val_text values p) (val_word values s f (valued_two op.PrefixOf (text p) s h).1))
      (same_fact (begins p (word values s))))

  suffix_tells : (p : Word) (s : Shape) (b : Bool) → IsTrue (is_valued values (term.Apply op.SuffixOf (raw (text p) ∷ raw s ∷ []))) → is_outside (part_said s (own.Suffix p) b) ≡ false → Tells (term.Apply op.SuffixOf (raw (text p) ∷ raw s ∷ [])) b (part_said s (own.Suffix p) b)
  suffix_tells p s b h o = where_tells _ b (is_string s) (has_part s (own.Suffix p) b) o (λ f.
      part_tells _ s (own.Suffix p) b (begins (reverse p) (reverse (word values s))) f
      (val_two op.SuffixOf (text p) s (value.Text p) (value.Text (word values s)) (val_text values p) (val_word values s f (valued_two op.SuffixOf (text p) s h).1))
      (same_fact (begins (reverse p) (reverse (word values s)))))

  contains_tells : (s : Shape) (p : Word) (b : Bool) → IsTrue (is_valued values (term.Apply op.Contains (raw s ∷ raw (text p) ∷ []))) → is_outside (part_said s (own.Contains p) b) ≡ false → Tells (term.Apply op.Contains (raw s ∷ raw (text p) ∷ [])) b (part_said s (own.Contains p) b)
  contains_tells s p b h o = where_tells _ b (is_string s) (has_part s (own.Contains p) b) o (λ f.
      part_tells _ s (own.Contains p) b (occurs p (word values s)) f
      (val_two op.Contains s (text p) (value.Text (word values s)) (value.Text p) (val_word values s f (valued_two op.Contains s (text p) h).0) (val_text values p))
      (same_fact (occurs p (word values s))))

  digit_tells : (s : Shape) (b : Bool) → IsTrue (is_valued values (term.Apply op.IsDigit (raw s ∷ []))) → is_outside (part_said s own.Digit b) ≡ false → Tells (term.Apply op.IsDigit (raw s ∷ [])) b (part_said s own.Digit b)
  digit_tells s b h o = where_tells _ b (is_string s) (has_part s own.Digit b) o (λ f.
      part_tells _ s own.Digit b (is_digit (word values s)) f
      (val_one op.IsDigit s (value.Text (word values s)) (val_word values s f (valued_one op.IsDigit s h)))
      (same_fact (is_digit (word values s))))

  -- an atom of a written kind
  pub atom_tells : (s : Shape) (b : Bool) → IsTrue (is_valued values (raw s)) → is_outside (atom_said s b) ≡ false → Tells (raw s) b (atom_said s b)
  atom_tells (constant n s) b h o = constant_tells n s b o
  atom_tells (member s r) b h o = member_tells s r b h o
  atom_tells (related t s u) b h o = pair_tells t s u b h o
  atom_tells (apply op.Equal (s ⨾ t ⨾ end)) b h o = let k = valued_two op.Equal s t h in equal_tells (head_sort s) s t b k.0 k.1 o
  atom_tells (apply op.LessEqual (s ⨾ t ⨾ end)) b h o = row_tells op.LessEqual s t b o
  atom_tells (apply op.Less (s ⨾ t ⨾ end)) b h o = row_tells op.Less s t b o
  atom_tells (apply op.GreaterEqual (s ⨾ t ⨾ end)) b h o = row_tells op.GreaterEqual s t b o
  atom_tells (apply op.Greater (s ⨾ t ⨾ end)) b h o = row_tells op.Greater s t b o
  atom_tells (apply op.PrefixOf (text p ⨾ s ⨾ end)) b h o = prefix_tells p s b h o
  atom_tells (apply op.SuffixOf (text p ⨾ s ⨾ end)) b h o = suffix_tells p s b h o
  atom_tells (apply op.Contains (s ⨾ text p ⨾ end)) b h o = contains_tells s p b h o
  atom_tells (apply op.IsDigit (s ⨾ end)) b h o = digit_tells s b h o
  atom_tells _ b h o = absurd (cc)
