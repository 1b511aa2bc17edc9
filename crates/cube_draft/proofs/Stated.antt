-- What a literal says is added.
use Rattle.std.proofs.Common.{◌≡◌, refl, sym, ap, ◌∙◌, subst, Bool, true, false, not, ◌&&◌, ◌||◌, ◌↔◌, IsTrue, IfOk, Result, ℕ, List, [], ◌∷◌, ◌++◌, length, get_or, nat_eq, arith}
use Rattle.std.specs.declared.alloc.AllocError.{AllocError}
use Rattle.std.specs.Cmp.Lexicographic.{pointwise, same_text}
use Rattle.sv_list.specs.Bools.{and-false}
use Rattle.sv_terms.specs.declared.op.Op.{Op}
use Rattle.sv_terms.specs.declared.op.Op.TheVariants as op
use Rattle.sv_terms.specs.declared.sort.Sort.{Sort}
use Rattle.sv_terms.specs.declared.sort.Sort.TheVariants as sort
use Rattle.sv_terms.specs.declared.term.Term.{Term}
use Rattle.sv_terms.specs.declared.term.Term.TheVariants as term
use Rattle.sv_terms.specs.declared.transducer.Transducer.{Transducer}
use Rattle.sv_terms.specs.declared.regex.Regex.{Regex}
use Rattle.literal_forms.specs.Alike.{text_self}
use Rattle.literal_forms.specs.Linear.{is_linear, is_string, linear, written}
use Rattle.literal_forms.specs.Mirrors.{raw-seen, seen-Constant, seen-InRe, seen-Related, seen-Text}
use Rattle.literal_forms.specs.Past.{ArePlain, IsFitting, atom_steps, equal_steps}
use Rattle.literal_forms.specs.Shapes.{Shape, Shapes, truth, number, text, constant, apply, member, related, opaque, end, ◌⨾◌, raw, seen, head_sort}
use Rattle.literal_forms.specs.declared.literal.Literal.{Literal}
use Rattle.cube_draft.specs.Comparing.{AtomFits, IsComparable, IsGathered, ComparisonFits}
use Rattle.cube_draft.specs.Gathered.{Becomes, Gathers, IsLiteralAdded, IsCounted, IsTermMet}
use Rattle.cube_draft.specs.Strings.{is_text}
use Rattle.cube_draft.specs.Kinds.{affix_said, head_of, own_by}
use Rattle.flat_cubes.specs.Met.{add, with_comparison}
use Rattle.flat_cubes.specs.Said.{Said, are_one, atom_said, compares, constant_said, equality_said, has_part, holds, is_outside, one_said, pair_said, part_said, row_said, said, string_said, written_by}
use Rattle.flat_cubes.specs.declared.definition.By.TheVariants as by
use Rattle.cube_draft.specs.declared.literals.Affix.{Affix}
use Rattle.cube_draft.specs.declared.literals.Affix.TheVariants as affix
use Rattle.cube_draft.specs.declared.literals.AtomHead.{AtomHead}
use Rattle.cube_draft.specs.declared.literals.AtomHead.TheVariants as head
use Rattle.cube_draft.specs.declared.literals.LiteralReading.{LiteralReading}
use Rattle.cube_draft.specs.declared.literals.LiteralReading.TheVariants as kind
use Rattle.cube_draft.specs.declared.meeting.DraftBuilder.{DraftBuilder}
use Rattle.flat_cubes.specs.declared.variable.Own.{Own}
use Rattle.flat_cubes.specs.declared.variable.Own.TheVariants as own
use Rattle.cube_draft.proofs.Forms.{no_text, seen_all, seen_apply}
use Rattle.cube_draft.proofs.Quantities.{known_later}
use Rattle.cube_draft.proofs.Gathering.{gathers_broken, gathers_definition, gathers_equality, gathers_part}

pub left_out : (m : DraftBuilder) (x : Said) → is_outside x ≡ true → IsLiteralAdded m m x kind.Outside
left_out m x e = record { each = λ d g. e }

-- the same said
pub added_as : (m n : DraftBuilder) (x y : Said) (k : LiteralReading) → x ≡ y → IsLiteralAdded m n y k → IsLiteralAdded m n x k
added_as m n x y k e h = subst (λ z. IsLiteralAdded m n z k) (sym e) h

-- what the answer of a call adds, and the same said
abbrev pub Answer : Type 0
Answer = Result LiteralReading AllocError

abbrev pub Adds : DraftBuilder → DraftBuilder → Said → Answer → Type 0
Adds m n x k = IfOk k (IsLiteralAdded m n x)

adds_as : (m n : DraftBuilder) (x y : Said) (k : Answer) → x ≡ y → Adds m n y k → Adds m n x k
adds_as m n x y k e h = subst (λ z. Adds m n z k) (sym e) h

-- parts
part_outside : (s : Shape) (o : Own) (b c : Bool) → is_string s ≡ c → c ≡ false → is_outside (part_said s o b) ≡ true
part_outside s o b true e f = absurd (cc)
part_outside s o b false e f = rw e refl

part_is : (s : Shape) (o : Own) (b : Bool) → is_string s ≡ true → part_said s o b ≡ has_part s o b
part_is s o b e = rw e refl

pub part_not : (m : DraftBuilder) (t : Term) (o : Own) (b r : Bool) → r ≡ is_string (seen t) → r ≡ false → IsLiteralAdded m m (part_said (seen t) o b) kind.Outside
part_not m t o b r e f = left_out m (part_said (seen t) o b) (part_outside (seen t) o b (is_string (seen t)) refl (sym e ∙ f))

pub part_added : (m a n : DraftBuilder) (t : Term) (o : Own) (b r : Bool) (i : ℕ) → r ≡ is_string (seen t) → r ≡ true → IsTermMet m a (written (seen t)) i → n ≡ record a { parts = a.parts ++ (i, (o, b)) ∷ [] } → IsLiteralAdded m n (part_said (seen t) o b) kind.Written
part_added m a n t o b r i e f p h = added_as m n (part_said (seen t) o b) (has_part (seen t) o b) kind.Written (part_is (seen t) o b (sym e ∙ f)) (record {
  each = λ d g. (
    refl,
    subst (λ x. Gathers x (add (has_part (seen t) o b) d)) (sym (h ∙ ap (λ j. record a { parts = a.parts ++ (j, (o, b)) ∷ [] }) (p.place d g))) (gathers_part a _ _ (o, b) (p.gathers d g)),
  );
})

-- how a literal stands in a term
affix_outside : (a : Affix) (s t : Shape) (b : Bool) → is_text s ≡ false → is_outside (affix_said a s t b) ≡ true
affix_outside a (text w) t b e = absurd (cc)
affix_outside a _ t b e = refl

seen_text : (t : Term) (w : List ℕ) → t ≡ term.Text w → seen t ≡ text w
seen_text t w e = ap seen e ∙ seen-Text w

pub affix_not : (m : DraftBuilder) (a : Affix) (p t : Term) (b : Bool) → ((w : List ℕ) → p ≡ term.Text w → ⊥) → IsLiteralAdded m m (affix_said a (seen p) (seen t) b) kind.Outside
affix_not m a p t b h = left_out m _ (affix_outside a (seen p) (seen t) b (no_text p h))

pub affix_added : (m n : DraftBuilder) (a : Affix) (p t : Term) (b : Bool) (w v : List ℕ) (o : Own) (k : Answer) → p ≡ term.Text w → v ≡ w → o ≡ own_by a v → Adds m n (part_said (seen t) o b) k → Adds m n (affix_said a (seen p) (seen t) b) k
affix_added m n a p t b w v o k e f g h = adds_as m n _ _ k (ap (λ s. affix_said a s (seen t) b) (seen_text p w e) ∙ ap (λ x. part_said (seen t) x b) (sym (g ∙ ap (own_by a) f))) h

prefix_said : (s t : Shape) (b : Bool) → atom_said (apply op.PrefixOf (s ⨾ t ⨾ end)) b ≡ affix_said affix.Prefix s t b
prefix_said (text w) t b = refl
prefix_said _ t b = refl

suffix_said : (s t : Shape) (b : Bool) → atom_said (apply op.SuffixOf (s ⨾ t ⨾ end)) b ≡ affix_said affix.Suffix s t b
suffix_said (text w) t b = refl
suffix_said _ t b = refl

infix_said : (s t : Shape) (b : Bool) → atom_said (apply op.Contains (s ⨾ t ⨾ end)) b ≡ affix_said affix.Infix t s b
infix_said s (text w) b = refl
infix_said s _ b = refl

pub member_added : (m n : DraftBuilder) (t : Term) (b : Bool) (r q : Regex) (k : Answer) → q ≡ r → Adds m n (part_said (seen t) (own.InRe q) b) k → Adds m n (part_said (seen t) (own.InRe r) b) k
member_added m n t b r q k e h = subst (λ x. Adds m n (part_said (seen t) (own.InRe x) b) k) e h

-- equalities of string terms
literal_part : (w : List ℕ) (t : Shape) (b : Bool) → is_text t ≡ false → string_said (text w) t b ≡ part_said t (own.Word w) b
literal_part w (text v) b e = absurd (cc)
literal_part w _ b e = refl

term_part : (s : Shape) (w : List ℕ) (b : Bool) → is_text s ≡ false → string_said s (text w) b ≡ part_said s (own.Word w) b
term_part (text v) w b e = absurd (cc)
term_part _ w b e = refl

neither : (s t : Shape) (b : Bool) → is_text s ≡ false → is_text t ≡ false → string_said s t b ≡ one_said s t b
neither (text v) t b e f = absurd (cc)
neither (truth x) (text w) b e f = absurd (cc)
neither (number x) (text w) b e f = absurd (cc)
neither (constant x y) (text w) b e f = absurd (cc)
neither (apply o ss) (text w) b e f = absurd (cc)
neither (member s r) (text w) b e f = absurd (cc)
neither (related x y z) (text w) b e f = absurd (cc)
neither (opaque x) (text w) b e f = absurd (cc)
neither _ _ b e f = refl

pub literal_added : (m n : DraftBuilder) (t : Term) (b : Bool) (w v : List ℕ) (k : Answer) → ((u : List ℕ) → t ≡ term.Text u → ⊥) → v ≡ w → Adds m n (part_said (seen t) (own.Word v) b) k → Adds m n (string_said (text w) (seen t) b) k
literal_added m n t b w v k h f p = adds_as m n _ _ k (literal_part w (seen t) b (no_text t h) ∙ ap (λ x. part_said (seen t) (own.Word x) b) (sym f)) p

pub strings_left : (m n : DraftBuilder) (s t : Term) (b : Bool) (w : List ℕ) (k : Answer) → s ≡ term.Text w → Adds m n (string_said (text w) (seen t) b) k → Adds m n (string_said (seen s) (seen t) b) k
strings_left m n s t b w k e p = adds_as m n _ _ k (ap (λ x. string_said x (seen t) b) (seen_text s w e)) p

pub strings_right : (m n : DraftBuilder) (s t : Term) (b : Bool) (w v : List ℕ) (k : Answer) → ((u : List ℕ) → s ≡ term.Text u → ⊥) → t ≡ term.Text w → v ≡ w → Adds m n (part_said (seen s) (own.Word v) b) k → Adds m n (string_said (seen s) (seen t) b) k
strings_right m n s t b w v k h e f p = adds_as m n _ _ k (ap (λ x. string_said (seen s) x b) (seen_text t w e) ∙ term_part (seen s) w b (no_text s h) ∙ ap (λ x. part_said (seen s) (own.Word x) b) (sym f)) p

pub strings_neither : (m n : DraftBuilder) (s t : Term) (b : Bool) (k : Answer) → ((u : List ℕ) → s ≡ term.Text u → ⊥) → ((u : List ℕ) → t ≡ term.Text u → ⊥) → Adds m n (one_said (seen s) (seen t) b) k → Adds m n (string_said (seen s) (seen t) b) k
strings_neither m n s t b k h i p = adds_as m n _ _ k (neither (seen s) (seen t) b (no_text s h) (no_text t i)) p

same_words : (q c : Bool) (v w : List ℕ) → IsTrue q ↔ (v ≡ w) → pointwise nat_eq v w ≡ c → q ≡ c
same_words true true v w h e = refl
same_words true false v w h e = let f : v ≡ w = h.0 refl in let k : true ≡ false = sym (text_self v) ∙ ap (pointwise nat_eq v) f ∙ e in absurd (cc)
same_words false true v w h e = let f : false ≡ true = h.1 (same_text v w (sym e)) in absurd (cc)
same_words false false v w h e = refl

pub hold_same : (m n : DraftBuilder) (t : Term) (v w : List ℕ) (q : Bool) → t ≡ term.Text w → IsTrue q ↔ (v ≡ w) → n ≡ record m { broken = m.broken || not q } → IsLiteralAdded m n (string_said (text v) (seen t) true) kind.Written
hold_same m n t v w q e h f = added_as m n _ (holds (pointwise nat_eq v w)) kind.Written (ap (λ x. string_said (text v) x true) (seen_text t w e)) (record {
  each = λ d g. (refl, subst (λ x. Gathers x (add (holds (pointwise nat_eq v w)) d)) (sym (f ∙ ap (λ c. record m { broken = m.broken || not c }) (same_words q (pointwise nat_eq v w) v w h refl))) (gathers_broken m d (not (pointwise nat_eq v w)) g));
})

pub hold_other : (m n : DraftBuilder) (t : Term) (v w : List ℕ) (q r : Bool) → t ≡ term.Text w → IsTrue q ↔ (v ≡ w) → r ≡ not q → n ≡ record m { broken = m.broken || not r } → IsLiteralAdded m n (string_said (text v) (seen t) false) kind.Written
hold_other m n t v w q r e h s f = added_as m n _ (holds (not (pointwise nat_eq v w))) kind.Written (ap (λ x. string_said (text v) x false) (seen_text t w e)) (record {
  each = λ d g. (refl, subst (λ x. Gathers x (add (holds (not (pointwise nat_eq v w))) d)) (sym (f ∙ ap (λ c. record m { broken = m.broken || not c }) (s ∙ ap not (same_words q (pointwise nat_eq v w) v w h refl)))) (gathers_broken m d (not (not (pointwise nat_eq v w))) g));
})

-- two string terms
one_outside : (s t : Shape) (c e : Bool) → is_string s ≡ c → is_string t ≡ e → (c && e) ≡ false → is_outside (one_said s t true) ≡ true
one_outside s t c e f g h = rw f (rw g (rw h refl))

pub one_not : (m : DraftBuilder) (s t : Shape) (b : Bool) → b ≡ false → IsLiteralAdded m m (one_said s t b) kind.Outside
one_not m s t b e = left_out m _ (ap (λ c. is_outside (one_said s t c)) e)

pub one_left_not : (m : DraftBuilder) (s t : Term) (b r : Bool) → b ≡ true → r ≡ is_string (seen s) → r ≡ false → IsLiteralAdded m m (one_said (seen s) (seen t) b) kind.Outside
one_left_not m s t b r e f g = left_out m _ (ap (λ c. is_outside (one_said (seen s) (seen t) c)) e ∙ one_outside (seen s) (seen t) false (is_string (seen t)) (sym f ∙ g) refl refl)

pub one_right_not : (m : DraftBuilder) (s t : Term) (b r : Bool) → b ≡ true → r ≡ is_string (seen t) → r ≡ false → IsLiteralAdded m m (one_said (seen s) (seen t) b) kind.Outside
one_right_not m s t b r e f g = left_out m _ (ap (λ c. is_outside (one_said (seen s) (seen t) c)) e ∙ one_outside (seen s) (seen t) (is_string (seen s)) false refl (sym f ∙ g) (and-false (is_string (seen s))))

one_is : (s t : Shape) → is_string s ≡ true → is_string t ≡ true → one_said s t true ≡ are_one s t
one_is s t e f = rw e (rw f refl)

pub one_added : (m a b n : DraftBuilder) (s t : Term) (p q r : Bool) (i j : ℕ) → p ≡ true → q ≡ is_string (seen s) → q ≡ true → r ≡ is_string (seen t) → r ≡ true → IsTermMet m a (written (seen s)) i → IsTermMet a b (written (seen t)) j → n ≡ record b { equalities = b.equalities ++ (i, j) ∷ [] } → IsLiteralAdded m n (one_said (seen s) (seen t) p) kind.Written
one_added m a b n s t p q r i j z e f g h k l o = added_as m n _ (are_one (seen s) (seen t)) kind.Written (ap (one_said (seen s) (seen t)) z ∙ one_is (seen s) (seen t) (sym e ∙ f) (sym g ∙ h)) (record {
  each = λ d c. (
    refl,
    subst (λ x. Gathers x (add (are_one (seen s) (seen t)) d)) (sym (o ∙ (λ y. record b { equalities = b.equalities ++ (k.place d c y, l.place _ (k.gathers d c) y) ∷ [] }))) (gathers_equality b _ _ _ (l.gathers _ (k.gathers d c))),
  );
})

pair_is : (t : Transducer) (s u : Shape) → is_string s ≡ true → is_string u ≡ true → pair_said t s u true ≡ written_by t s u
pair_is t s u e f = rw e (rw f refl)

pair_outside : (t : Transducer) (s u : Shape) (c e : Bool) → is_string s ≡ c → is_string u ≡ e → (c && e) ≡ false → is_outside (pair_said t s u true) ≡ true
pair_outside t s u c e f g h = rw f (rw g (rw h refl))

pub pair_not : (m : DraftBuilder) (t : Transducer) (s u : Shape) (b : Bool) → b ≡ false → IsLiteralAdded m m (pair_said t s u b) kind.Outside
pair_not m t s u b e = left_out m _ (ap (λ c. is_outside (pair_said t s u c)) e)

pub pair_left_not : (m : DraftBuilder) (t : Transducer) (s u : Term) (b r : Bool) → b ≡ true → r ≡ is_string (seen s) → r ≡ false → IsLiteralAdded m m (pair_said t (seen s) (seen u) b) kind.Outside
pair_left_not m t s u b r e f g = left_out m _ (ap (λ c. is_outside (pair_said t (seen s) (seen u) c)) e ∙ pair_outside t (seen s) (seen u) false (is_string (seen u)) (sym f ∙ g) refl refl)

pub pair_right_not : (m : DraftBuilder) (t : Transducer) (s u : Term) (b r : Bool) → b ≡ true → r ≡ is_string (seen u) → r ≡ false → IsLiteralAdded m m (pair_said t (seen s) (seen u) b) kind.Outside
pair_right_not m t s u b r e f g = left_out m _ (ap (λ c. is_outside (pair_said t (seen s) (seen u) c)) e ∙ pair_outside t (seen s) (seen u) (is_string (seen s)) false refl (sym f ∙ g) (and-false (is_string (seen s))))

pub pair_added : (m a b n : DraftBuilder) (t v : Transducer) (s u : Term) (p q r : Bool) (i j : ℕ) → p ≡ true → q ≡ is_string (seen s) → q ≡ true → r ≡ is_string (seen u) → r ≡ true → IsTermMet m a (written (seen s)) i → IsTermMet a b (written (seen u)) j → v ≡ t → n ≡ record b { definitions = b.definitions ++ (j, by.Through v i) ∷ [] } → IsLiteralAdded m n (pair_said t (seen s) (seen u) p) kind.Written
pair_added m a b n t v s u p q r i j z e f g h k l w o = added_as m n _ (written_by t (seen s) (seen u)) kind.Written (ap (pair_said t (seen s) (seen u)) z ∙ pair_is t (seen s) (seen u) (sym e ∙ f) (sym g ∙ h)) (record {
  each = λ d c. (
    refl,
    subst (λ x. Gathers x (add (written_by t (seen s) (seen u)) d)) (sym (o ∙ (λ y. record b { definitions = b.definitions ++ (l.place _ (k.gathers d c) y, by.Through (w y) (k.place d c y)) ∷ [] }))) (gathers_definition b _ _ _ (l.gathers _ (k.gathers d c))),
  );
})

-- comparisons
row_is : (o : Op) (s t : Shape) (b : Bool) → is_linear s ≡ true → is_linear t ≡ true → row_said o s t b ≡ compares o s t b
row_is o s t b e f = rw e (rw f refl)

row_outside : (o : Op) (s t : Shape) (b c e : Bool) → is_linear s ≡ c → is_linear t ≡ e → (c && e) ≡ false → is_outside (row_said o s t b) ≡ true
row_outside o s t b c e f g h = rw f (rw g (rw h refl))

pub row_left_not : (m : DraftBuilder) (o : Op) (s t : Term) (b r : Bool) → r ≡ is_linear (seen s) → r ≡ false → IsLiteralAdded m m (row_said o (seen s) (seen t) b) kind.Outside
row_left_not m o s t b r e f = left_out m _ (row_outside o (seen s) (seen t) b false (is_linear (seen t)) (sym e ∙ f) refl refl)

pub row_right_not : (m : DraftBuilder) (o : Op) (s t : Term) (b r : Bool) → r ≡ is_linear (seen t) → r ≡ false → IsLiteralAdded m m (row_said o (seen s) (seen t) b) kind.Outside
row_right_not m o s t b r e f = left_out m _ (row_outside o (seen s) (seen t) b (is_linear (seen s)) false refl (sym e ∙ f) (and-false (is_linear (seen s))))

pub row_added : (m a c n : DraftBuilder) (o : Op) (s t : Term) (b q r : Bool) → q ≡ is_linear (seen s) → q ≡ true → r ≡ is_linear (seen t) → r ≡ true → IsCounted m a (seen s) → IsCounted a c (seen t) → Becomes c n (with_comparison (record { op = o; left = seen s; right = seen t; positive = b })) → IsLiteralAdded m n (row_said o (seen s) (seen t) b) kind.Written
row_added m a c n o s t b q r e f g h k l w = added_as m n _ (compares o (seen s) (seen t) b) kind.Written (row_is o (seen s) (seen t) b (sym e ∙ f) (sym g ∙ h)) (record {
  each = λ d x. (refl, w.each _ (l.gathers (sym g ∙ h) _ (k.gathers (sym e ∙ f) d x)));
})

pub comparable : (m a c : DraftBuilder) (o : Op) (s t : Term) (b q r : Bool) → q ≡ is_linear (seen s) → q ≡ true → r ≡ is_linear (seen t) → r ≡ true → IsGathered m → IsCounted m a (seen s) → IsCounted a c (seen t) → ComparisonFits o (seen s) (seen t) b → IsComparable c o (seen s) (seen t) b
comparable m a c o s t b q r e f g h d k l w = record {
  gathered = record { draft = _; gathers = l.gathers (sym g ∙ h) _ (k.gathers (sym e ∙ f) d.draft d.gathers) };
  left = known_later a.numbers c.numbers (linear (seen s)) l.kept (k.known (sym e ∙ f));
  right = l.known (sym g ∙ h);
  fits = w;
}

-- one argument
single_prefix : (s : Shape) (b : Bool) → is_outside (atom_said (apply op.PrefixOf (s ⨾ end)) b) ≡ true
single_prefix (text w) b = refl
single_prefix _ b = refl

single_suffix : (s : Shape) (b : Bool) → is_outside (atom_said (apply op.SuffixOf (s ⨾ end)) b) ≡ true
single_suffix (text w) b = refl
single_suffix _ b = refl

single_outside : (o : Op) (s : Shape) (b : Bool) → (head_of o ≡ head.Digit → ⊥) → is_outside (atom_said (apply o (s ⨾ end)) b) ≡ true
single_outside op.IsDigit s b h = absurd (h refl)
single_outside op.PrefixOf s b h = single_prefix s b
single_outside op.SuffixOf s b h = single_suffix s b
single_outside _ s b h = refl

pub single_not : (m : DraftBuilder) (o : Op) (h : AtomHead) (s : Shape) (b : Bool) → h ≡ head_of o → (h ≡ head.Digit → ⊥) → IsLiteralAdded m m (atom_said (apply o (s ⨾ end)) b) kind.Outside
single_not m o h s b e f = left_out m _ (single_outside o s b (λ z. f (e ∙ z)))

digit_op : (o : Op) → head_of o ≡ head.Digit → o ≡ op.IsDigit
digit_op op.IsDigit e = refl
digit_op _ e = absurd (cc)

pub digit_added : (m n : DraftBuilder) (o : Op) (h : AtomHead) (s : Shape) (b : Bool) (k : Answer) → h ≡ head_of o → h ≡ head.Digit → Adds m n (part_said s own.Digit b) k → Adds m n (atom_said (apply o (s ⨾ end)) b) k
digit_added m n o h s b k e f p = adds_as m n _ _ k (ap (λ x. atom_said (apply x (s ⨾ end)) b) (digit_op o (sym e ∙ f))) p

-- two arguments
equality_op : (o : Op) → head_of o ≡ head.Equality → o ≡ op.Equal
equality_op op.Equal e = refl
equality_op _ e = absurd (cc)

prefix_op : (o : Op) → head_of o ≡ head.Prefix → o ≡ op.PrefixOf
prefix_op op.PrefixOf e = refl
prefix_op _ e = absurd (cc)

suffix_op : (o : Op) → head_of o ≡ head.Suffix → o ≡ op.SuffixOf
suffix_op op.SuffixOf e = refl
suffix_op _ e = absurd (cc)

contains_op : (o : Op) → head_of o ≡ head.Contains → o ≡ op.Contains
contains_op op.Contains e = refl
contains_op _ e = absurd (cc)

abbrev double : Op → Shape → Shape → Bool → Said
double o s t b = atom_said (apply o (s ⨾ t ⨾ end)) b

pub double_equality : (m n : DraftBuilder) (o : Op) (h : AtomHead) (s t : Shape) (b : Bool) (k : Answer) → h ≡ head_of o → h ≡ head.Equality → Adds m n (atom_said (apply op.Equal (s ⨾ t ⨾ end)) b) k → Adds m n (atom_said (apply o (s ⨾ t ⨾ end)) b) k
double_equality m n o h s t b k e f p = adds_as m n _ _ k (ap (λ x. double x s t b) (equality_op o (sym e ∙ f))) p

pub double_prefix : (m n : DraftBuilder) (o : Op) (h : AtomHead) (s t : Shape) (b : Bool) (k : Answer) → h ≡ head_of o → h ≡ head.Prefix → Adds m n (affix_said affix.Prefix s t b) k → Adds m n (atom_said (apply o (s ⨾ t ⨾ end)) b) k
double_prefix m n o h s t b k e f p = adds_as m n _ _ k (ap (λ x. double x s t b) (prefix_op o (sym e ∙ f)) ∙ prefix_said s t b) p

pub double_suffix : (m n : DraftBuilder) (o : Op) (h : AtomHead) (s t : Shape) (b : Bool) (k : Answer) → h ≡ head_of o → h ≡ head.Suffix → Adds m n (affix_said affix.Suffix s t b) k → Adds m n (atom_said (apply o (s ⨾ t ⨾ end)) b) k
double_suffix m n o h s t b k e f p = adds_as m n _ _ k (ap (λ x. double x s t b) (suffix_op o (sym e ∙ f)) ∙ suffix_said s t b) p

pub double_infix : (m n : DraftBuilder) (o : Op) (h : AtomHead) (s t : Shape) (b : Bool) (k : Answer) → h ≡ head_of o → h ≡ head.Contains → Adds m n (affix_said affix.Infix t s b) k → Adds m n (atom_said (apply o (s ⨾ t ⨾ end)) b) k
double_infix m n o h s t b k e f p = adds_as m n _ _ k (ap (λ x. double x s t b) (contains_op o (sym e ∙ f)) ∙ infix_said s t b) p

order_said : (o : Op) (s t : Shape) (b : Bool) → head_of o ≡ head.Order → double o s t b ≡ row_said o s t b
order_said op.LessEqual s t b e = refl
order_said op.Less s t b e = refl
order_said op.GreaterEqual s t b e = refl
order_said op.Greater s t b e = refl
order_said _ s t b e = absurd (cc)

pub double_order : (m n : DraftBuilder) (o : Op) (h : AtomHead) (s t : Shape) (b : Bool) (k : Answer) → h ≡ head_of o → h ≡ head.Order → Adds m n (row_said o s t b) k → Adds m n (atom_said (apply o (s ⨾ t ⨾ end)) b) k
double_order m n o h s t b k e f p = adds_as m n _ _ k (order_said o s t b (sym e ∙ f)) p

order_fits : (o : Op) (s t : Shape) (b : Bool) → head_of o ≡ head.Order → AtomFits (apply o (s ⨾ t ⨾ end)) → ComparisonFits o s t b
order_fits op.LessEqual s t true e f = record { plain = f.plain }
order_fits op.LessEqual s t false e f = record { plain = f.plain }
order_fits op.Less s t true e f = record { plain = f.plain }
order_fits op.Less s t false e f = record { plain = f.plain }
order_fits op.GreaterEqual s t true e f = record { plain = f.plain }
order_fits op.GreaterEqual s t false e f = record { plain = f.plain }
order_fits op.Greater s t true e f = record { plain = f.plain }
order_fits op.Greater s t false e f = record { plain = f.plain }
order_fits _ s t b e f = absurd (cc)

pub order_row_fits : (o : Op) (h : AtomHead) (s t : Shape) (b : Bool) → h ≡ head_of o → h ≡ head.Order → AtomFits (apply o (s ⨾ t ⨾ end)) → ComparisonFits o s t b
order_row_fits o h s t b e f p = order_fits o s t b (sym e ∙ f) p

pub equality_fits : (o : Op) (h : AtomHead) (s t : Shape) → h ≡ head_of o → h ≡ head.Equality → AtomFits (apply o (s ⨾ t ⨾ end)) → AtomFits (apply op.Equal (s ⨾ t ⨾ end))
equality_fits o h s t e f p = subst (λ x. AtomFits (apply x (s ⨾ t ⨾ end))) (equality_op o (sym e ∙ f)) p

double_other : (o : Op) (s t : Shape) (b : Bool) → head_of o ≡ head.Other → is_outside (double o s t b) ≡ true
double_other op.Equal s t b e = absurd (cc)
double_other op.LessEqual s t b e = absurd (cc)
double_other op.Less s t b e = absurd (cc)
double_other op.GreaterEqual s t b e = absurd (cc)
double_other op.Greater s t b e = absurd (cc)
double_other op.PrefixOf s t b e = absurd (cc)
double_other op.SuffixOf s t b e = absurd (cc)
double_other op.Contains s t b e = absurd (cc)
double_other op.IsDigit s t b e = absurd (cc)
double_other _ s t b e = refl

pub double_digit : (m : DraftBuilder) (o : Op) (h : AtomHead) (s t : Shape) (b : Bool) → h ≡ head_of o → h ≡ head.Digit → IsLiteralAdded m m (atom_said (apply o (s ⨾ t ⨾ end)) b) kind.Outside
double_digit m o h s t b e f = left_out m _ (ap (λ x. is_outside (double x s t b)) (digit_op o (sym e ∙ f)))

pub double_not : (m : DraftBuilder) (o : Op) (h : AtomHead) (s t : Shape) (b : Bool) → h ≡ head_of o → h ≡ head.Other → IsLiteralAdded m m (atom_said (apply o (s ⨾ t ⨾ end)) b) kind.Outside
double_not m o h s t b e f = left_out m _ (double_other o s t b (sym e ∙ f))

-- equalities, by the sort of the first side
pub equal_strings : (m n : DraftBuilder) (s t : Shape) (b : Bool) (q : Sort) (k : Answer) → q ≡ head_sort s → q ≡ sort.String → Adds m n (string_said s t b) k → Adds m n (atom_said (apply op.Equal (s ⨾ t ⨾ end)) b) k
equal_strings m n s t b q k e f p = adds_as m n _ _ k (ap (λ x. equality_said x s t b) (sym e ∙ f)) p

pub equal_numbers : (m n : DraftBuilder) (s t : Shape) (b : Bool) (q : Sort) (k : Answer) → q ≡ head_sort s → q ≡ sort.Int → b ≡ true → Adds m n (row_said op.Equal s t true) k → Adds m n (atom_said (apply op.Equal (s ⨾ t ⨾ end)) b) k
equal_numbers m n s t b q k e f g p = adds_as m n _ _ k (λ i. equality_said ((sym e ∙ f) i) s t (g i)) p

pub equal_numbers_fit : (s t : Shape) (q : Sort) → q ≡ head_sort s → q ≡ sort.Int → AtomFits (apply op.Equal (s ⨾ t ⨾ end)) → ComparisonFits op.Equal s t true
equal_numbers_fit s t q e f p = record { plain = subst (λ x. ArePlain (equal_steps x s t)) (sym e ∙ f) p.plain }

pub unequal_numbers : (m : DraftBuilder) (s t : Shape) (b : Bool) (q : Sort) → q ≡ head_sort s → q ≡ sort.Int → b ≡ false → IsLiteralAdded m m (atom_said (apply op.Equal (s ⨾ t ⨾ end)) b) kind.Outside
unequal_numbers m s t b q e f g = left_out m _ (λ i. is_outside (equality_said ((sym e ∙ f) i) s t (g i)))

pub equal_truths : (m : DraftBuilder) (s t : Shape) (b : Bool) (q : Sort) → q ≡ head_sort s → q ≡ sort.Bool → IsLiteralAdded m m (atom_said (apply op.Equal (s ⨾ t ⨾ end)) b) kind.Outside
equal_truths m s t b q e f = left_out m _ (ap (λ x. is_outside (equality_said x s t b)) (sym e ∙ f))

pub equal_languages : (m : DraftBuilder) (s t : Shape) (b : Bool) (q : Sort) → q ≡ head_sort s → q ≡ sort.RegLan → IsLiteralAdded m m (atom_said (apply op.Equal (s ⨾ t ⨾ end)) b) kind.Outside
equal_languages m s t b q e f = left_out m _ (ap (λ x. is_outside (equality_said x s t b)) (sym e ∙ f))

-- by the number of arguments
pub applied_one : (m n : DraftBuilder) (o : Op) (ts : List Term) (t : Term) (b : Bool) (k : Answer) → length ts ≡ 1 → t ≡ get_or ts 0 t → Adds m n (atom_said (apply o (seen t ⨾ end)) b) k → Adds m n (atom_said (apply o (seen_all ts)) b) k
applied_one m n o [] t b k l e p = absurd (omega arith)
applied_one m n o (u ∷ []) t b k l e p = subst (λ x. Adds m n (atom_said (apply o (seen x ⨾ end)) b) k) e p
applied_one m n o (u ∷ v ∷ ts) t b k l e p = absurd (omega arith)

pub applied_two : (m n : DraftBuilder) (o : Op) (ts : List Term) (t u : Term) (b : Bool) (k : Answer) → length ts ≡ 2 → t ≡ get_or ts 0 t → u ≡ get_or ts 1 u → Adds m n (atom_said (apply o (seen t ⨾ seen u ⨾ end)) b) k → Adds m n (atom_said (apply o (seen_all ts)) b) k
applied_two m n o [] t u b k l e f p = absurd (omega arith)
applied_two m n o (x ∷ []) t u b k l e f p = absurd (omega arith)
applied_two m n o (x ∷ y ∷ []) t u b k l e f p = subst (λ z. Adds m n (atom_said (apply o (seen x ⨾ seen z ⨾ end)) b) k) f (subst (λ z. Adds m n (atom_said (apply o (seen z ⨾ seen u ⨾ end)) b) k) e p)
applied_two m n o (x ∷ y ∷ z ∷ ts) t u b k l e f p = absurd (omega arith)

pub applied_two_fits : (o : Op) (ts : List Term) (t u : Term) → length ts ≡ 2 → t ≡ get_or ts 0 t → u ≡ get_or ts 1 u → AtomFits (apply o (seen_all ts)) → AtomFits (apply o (seen t ⨾ seen u ⨾ end))
applied_two_fits o [] t u l e f p = absurd (omega arith)
applied_two_fits o (x ∷ []) t u l e f p = absurd (omega arith)
applied_two_fits o (x ∷ y ∷ []) t u l e f p = subst (λ z. AtomFits (apply o (seen z ⨾ seen u ⨾ end))) (sym e) (subst (λ z. AtomFits (apply o (seen x ⨾ seen z ⨾ end))) (sym f) p)
applied_two_fits o (x ∷ y ∷ z ∷ ts) t u l e f p = absurd (omega arith)

three_outside : (o : Op) (s t u : Shape) (ss : Shapes) (b : Bool) → is_outside (atom_said (apply o (s ⨾ t ⨾ u ⨾ ss)) b) ≡ true
three_outside op.PrefixOf (text w) t u ss b = refl
three_outside op.PrefixOf _ t u ss b = refl
three_outside op.SuffixOf (text w) t u ss b = refl
three_outside op.SuffixOf _ t u ss b = refl
three_outside op.Contains s (text w) u ss b = refl
three_outside op.Contains s _ u ss b = refl
three_outside _ s t u ss b = refl

applied_outside : (o : Op) (ts : List Term) (b : Bool) → (length ts ≡ 1 → ⊥) → (length ts ≡ 2 → ⊥) → is_outside (atom_said (apply o (seen_all ts)) b) ≡ true
applied_outside op.IsDigit [] b f g = refl
applied_outside _ [] b f g = refl
applied_outside o (t ∷ []) b f g = absurd (f refl)
applied_outside o (t ∷ u ∷ []) b f g = absurd (g refl)
applied_outside o (t ∷ u ∷ v ∷ ts) b f g = three_outside o (seen t) (seen u) (seen v) (seen_all ts) b

pub applied_not : (m : DraftBuilder) (o : Op) (ts : List Term) (b : Bool) → (length ts ≡ 1 → ⊥) → (length ts ≡ 2 → ⊥) → IsLiteralAdded m m (atom_said (apply o (seen_all ts)) b) kind.Outside
applied_not m o ts b f g = left_out m _ (applied_outside o ts b f g)

-- by the head of the atom
pub said_constant : (m n : DraftBuilder) (l : Literal) (a : List ℕ) (s : Sort) (k : Answer) → l.atom ≡ term.Constant a s → Adds m n (constant_said a s l.positive) k → Adds m n (said l) k
said_constant m n l a s k e p = adds_as m n _ _ k (ap (λ x. atom_said x l.positive) (ap seen e ∙ seen-Constant a s)) p

pub said_member : (m n : DraftBuilder) (l : Literal) (t u : Term) (r : Regex) (k : Answer) → l.atom ≡ term.InRe t r → u ≡ t → Adds m n (part_said (seen u) (own.InRe r) l.positive) k → Adds m n (said l) k
said_member m n l t u r k e f p = adds_as m n _ _ k (ap (λ x. atom_said x l.positive) (ap seen e ∙ seen-InRe t r) ∙ ap (λ x. part_said (seen x) (own.InRe r) l.positive) (sym f)) p

pub said_pair : (m n : DraftBuilder) (l : Literal) (a : Transducer) (t u v w : Term) (k : Answer) → l.atom ≡ term.Related a t u → v ≡ t → w ≡ u → Adds m n (pair_said a (seen v) (seen w) l.positive) k → Adds m n (said l) k
said_pair m n l a t u v w k e f g p = adds_as m n _ _ k (ap (λ x. atom_said x l.positive) (ap seen e ∙ seen-Related a t u) ∙ (λ i. pair_said a (seen (sym f i)) (seen (sym g i)) l.positive)) p

pub said_applied : (m n : DraftBuilder) (l : Literal) (o : Op) (ts us : List Term) (k : Answer) → l.atom ≡ term.Apply o ts → us ≡ ts → Adds m n (atom_said (apply o (seen_all us)) l.positive) k → Adds m n (said l) k
said_applied m n l o ts us k e f p = adds_as m n _ _ k (ap (λ x. atom_said x l.positive) (seen_apply l.atom o o ts e refl) ∙ ap (λ x. atom_said (apply o (seen_all x)) l.positive) (sym f)) p

pub applied_fits : (l : Literal) (o : Op) (ts us : List Term) → IsFitting l → l.atom ≡ term.Apply o ts → us ≡ ts → AtomFits (apply o (seen_all us))
applied_fits l o ts us h e f = record { plain = subst (λ x. ArePlain (atom_steps x)) (seen_apply l.atom o o ts e refl ∙ ap (λ x. apply o (seen_all x)) (sym f)) h }

pub said_nothing : (m : DraftBuilder) (l : Literal) → ((n : List ℕ) (k : Sort) → l.atom ≡ term.Constant n k → ⊥) → ((t : Term) (r : Regex) → l.atom ≡ term.InRe t r → ⊥) → ((a : Transducer) (t u : Term) → l.atom ≡ term.Related a t u → ⊥) → ((o : Op) (ts : List Term) → l.atom ≡ term.Apply o ts → ⊥) → IsLiteralAdded m m (said l) kind.Outside
said_nothing m l f g h i = left_out m _ (by_shape (seen l.atom) (raw-seen l.atom))
  where
    by_shape : (s : Shape) → raw s ≡ l.atom → is_outside (atom_said s l.positive) ≡ true
    by_shape (constant n k) e = absurd (f n k (sym e))
    by_shape (member s r) e = absurd (g _ r (sym e))
    by_shape (related a s u) e = absurd (h a _ _ (sym e))
    by_shape (apply o ss) e = absurd (i o _ (sym e))
    by_shape (truth b) e = refl
    by_shape (number n) e = refl
    by_shape (text w) e = refl
    by_shape (opaque s) e = refl
