-- Which terms have a written form, and whether an unknown stands in them.
use Rattle.std.proofs.Common.{◌≡◌, refl, sym, ap, ◌∙◌, Bool, true, false, ◌&&◌, ◌||◌, ℕ, suc, ◌+◌, ◌<◌, ◌≤◌, ℤ, List, [], ◌∷◌, ◌++◌, map, length, drop, get_or, drop-cons, arith}
use Rattle.std.proofs.lemmas.List.{drop_all}
use Rattle.sv_terms.specs.declared.op.Op.{Op}
use Rattle.sv_terms.specs.declared.op.Op.TheVariants as op
use Rattle.sv_terms.specs.declared.term.Term.{Term}
use Rattle.sv_terms.specs.declared.term.Term.TheVariants as term
use Rattle.literal_forms.specs.Linear.{Linear, Unknown, added, are_linear, are_strings, difference_of, from_left, is_constant, is_empty, is_linear, is_product_from, is_string, less, length_form, linear, linears, minus_one, multiplied, scaled}
use Rattle.literal_forms.specs.Mirrors.{raw-seen, seen-Apply}
use Rattle.literal_forms.specs.Shapes.{Shape, Shapes, truth, number, text, constant, apply, member, related, opaque, end, ◌⨾◌, raw, seen, shapes}
use Rattle.literal_forms.proofs.Spelled.{next}
use Rattle.cube_draft.specs.Strings.{build_of, is_replaced, is_text, replacer}
use Rattle.cube_draft.specs.Numbers.{joined_from, joined_of, joined_on, joining_of, kind_of, linearity_of, one_of, product_of, read_of, sum_of}
use Rattle.cube_draft.specs.declared.string_terms.Occurrences.{Occurrences}
use Rattle.cube_draft.specs.declared.string_terms.Occurrences.TheVariants as occurrences
use Rattle.cube_draft.specs.declared.string_terms.PlaceBuild.TheVariants as build
use Rattle.cube_draft.specs.declared.number_terms.Joining.{Joining}
use Rattle.cube_draft.specs.declared.number_terms.Joining.TheVariants as joining
use Rattle.cube_draft.specs.declared.number_terms.Linearity.{Linearity}
use Rattle.cube_draft.specs.declared.number_terms.Linearity.TheVariants as linearity

abbrev pub seen_all : List Term → Shapes
seen_all ts = shapes (map seen ts)

front : (ts : List Term) (k : ℕ) (t : Term) → k < length ts → t ≡ get_or ts k t → drop k ts ≡ t ∷ drop (k + 1) ts
front ts k t l e = drop-cons ts k t l ∙ (λ i. sym e i ∷ drop (suc k) ts) ∙ ap (λ n. t ∷ drop n ts) (next k)

-- a term that is no literal
pub no_text : (t : Term) → ((w : List ℕ) → t ≡ term.Text w → ⊥) → is_text (seen t) ≡ false
no_text t h = by_shape (seen t) (raw-seen t)
  where
    by_shape : (s : Shape) → raw s ≡ t → is_text s ≡ false
    by_shape (text w) e = absurd (h w (sym e))
    by_shape (apply o ss) e = refl
    by_shape (truth b) e = refl
    by_shape (number n) e = refl
    by_shape (constant n s) e = refl
    by_shape (member s r) e = refl
    by_shape (related m s u) e = refl
    by_shape (opaque s) e = refl

-- string terms, from a place on
pub strings_here : (ts : List Term) (k : ℕ) (t : Term) (b : Bool) → k < length ts → t ≡ get_or ts k t → b ≡ is_string (seen t) → b ≡ true → are_strings (seen_all (drop k ts)) ≡ are_strings (seen_all (drop (k + 1) ts))
strings_here ts k t b l e h q = ap (λ us. are_strings (seen_all us)) (front ts k t l e) ∙ ap (λ c. c && are_strings (seen_all (drop (k + 1) ts))) (sym h ∙ q)

pub strings_not : (ts : List Term) (k : ℕ) (t : Term) (b : Bool) → k < length ts → t ≡ get_or ts k t → b ≡ is_string (seen t) → b ≡ false → false ≡ are_strings (seen_all (drop k ts))
strings_not ts k t b l e h q = sym (ap (λ us. are_strings (seen_all us)) (front ts k t l e) ∙ ap (λ c. c && are_strings (seen_all (drop (k + 1) ts))) (sym h ∙ q))

pub strings_end : (ts : List Term) (k : ℕ) → length ts ≤ k → true ≡ are_strings (seen_all (drop k ts))
strings_end ts k l = sym (ap (λ us. are_strings (seen_all us)) (drop_all k ts l))

-- what a function builds
pub concat_op : (o : Op) → build_of o ≡ build.Concat → o ≡ op.Concat
concat_op op.Concat e = refl
concat_op _ e = absurd (cc)

pub replacer_op : (o : Op) (r : Occurrences) → build_of o ≡ build.Replace r → o ≡ replacer r
replacer_op op.Replace occurrences.First e = refl
replacer_op op.Replace occurrences.All e = absurd (cc)
replacer_op op.ReplaceAll occurrences.First e = absurd (cc)
replacer_op op.ReplaceAll occurrences.All e = refl
replacer_op _ r e = absurd (cc)

pub seen_apply : (t : Term) (o p : Op) (ts : List Term) → t ≡ term.Apply o ts → o ≡ p → seen t ≡ apply p (seen_all ts)
seen_apply t o p ts i e = ap seen (i ∙ ap (λ x. term.Apply x ts) e) ∙ seen-Apply p ts

strings_of : (ts : List Term) → (ts ≡ [] → ⊥) → are_strings (seen_all ts) ≡ is_string (apply op.Concat (seen_all ts))
strings_of [] n = absurd (n refl)
strings_of (t ∷ ts) n = refl

pub concat_string : (t : Term) (o : Op) (ts : List Term) (r : Bool) → t ≡ term.Apply o ts → build_of o ≡ build.Concat → (ts ≡ [] → ⊥) → r ≡ are_strings (seen_all (drop 0 ts)) → r ≡ is_string (seen t)
concat_string t o ts r i b n e = e ∙ strings_of ts n ∙ sym (ap is_string (seen_apply t o op.Concat ts i (concat_op o b)))

pub no_string : (t : Term) (o : Op) (ts : List Term) → t ≡ term.Apply o ts → build_of o ≡ build.Concat → length ts ≡ 0 → false ≡ is_string (seen t)
no_string t o [] i b n = sym (ap is_string (seen_apply t o op.Concat [] i (concat_op o b)))
no_string t o (u ∷ ts) i b n = absurd (omega arith)

three_first : (s t u : Shape) → (is_text t && is_text u && is_string s) ≡ is_string (apply op.Replace (s ⨾ t ⨾ u ⨾ end))
three_first s (text p) (text u) = refl
three_first s (text p) _ = refl
three_first s _ u = refl

three_all : (s t u : Shape) → (is_text t && is_text u && is_string s) ≡ is_string (apply op.ReplaceAll (s ⨾ t ⨾ u ⨾ end))
three_all s (text p) (text u) = refl
three_all s (text p) _ = refl
three_all s _ u = refl

two_first : (s t : Shape) → false ≡ is_string (apply op.Replace (s ⨾ t ⨾ end))
two_first s (text p) = refl
two_first s _ = refl

four_first : (s t u v : Shape) (ss : Shapes) → false ≡ is_string (apply op.Replace (s ⨾ t ⨾ u ⨾ v ⨾ ss))
four_first s (text p) (text u) v ss = refl
four_first s (text p) _ v ss = refl
four_first s _ u v ss = refl

replaced_first : (ss : Shapes) → is_replaced ss ≡ is_string (apply op.Replace ss)
replaced_first end = refl
replaced_first (s ⨾ end) = refl
replaced_first (s ⨾ t ⨾ end) = two_first s t
replaced_first (s ⨾ t ⨾ u ⨾ end) = three_first s t u
replaced_first (s ⨾ t ⨾ u ⨾ v ⨾ ss) = four_first s t u v ss

two_all : (s t : Shape) → false ≡ is_string (apply op.ReplaceAll (s ⨾ t ⨾ end))
two_all s (text p) = refl
two_all s _ = refl

four_all : (s t u v : Shape) (ss : Shapes) → false ≡ is_string (apply op.ReplaceAll (s ⨾ t ⨾ u ⨾ v ⨾ ss))
four_all s (text p) (text u) v ss = refl
four_all s (text p) _ v ss = refl
four_all s _ u v ss = refl

replaced_all : (ss : Shapes) → is_replaced ss ≡ is_string (apply op.ReplaceAll ss)
replaced_all end = refl
replaced_all (s ⨾ end) = refl
replaced_all (s ⨾ t ⨾ end) = two_all s t
replaced_all (s ⨾ t ⨾ u ⨾ end) = three_all s t u
replaced_all (s ⨾ t ⨾ u ⨾ v ⨾ ss) = four_all s t u v ss

replaced_of : (r : Occurrences) (ss : Shapes) → is_replaced ss ≡ is_string (apply (replacer r) ss)
replaced_of occurrences.First ss = replaced_first ss
replaced_of occurrences.All ss = replaced_all ss

pub replaced_string : (t : Term) (o : Op) (ts : List Term) (r : Occurrences) (b : Bool) → t ≡ term.Apply o ts → build_of o ≡ build.Replace r → b ≡ is_replaced (seen_all ts) → b ≡ is_string (seen t)
replaced_string t o ts r b i k e = e ∙ replaced_of r (seen_all ts) ∙ sym (ap is_string (seen_apply t o (replacer r) ts i (replacer_op o r k)))

nothing_built : (o : Op) (ss : Shapes) → build_of o ≡ build.Nothing → false ≡ is_string (apply o ss)
nothing_built op.Concat ss e = absurd (cc)
nothing_built op.Replace ss e = absurd (cc)
nothing_built op.ReplaceAll ss e = absurd (cc)
nothing_built _ ss e = refl

pub nothing_string : (t : Term) (o : Op) (ts : List Term) → t ≡ term.Apply o ts → build_of o ≡ build.Nothing → false ≡ is_string (seen t)
nothing_string t o ts i b = nothing_built o (seen_all ts) b ∙ sym (ap is_string (seen_apply t o o ts i refl))

pub replaced_not : (ts : List Term) → (length ts ≡ 3 → ⊥) → false ≡ is_replaced (seen_all ts)
replaced_not [] n = refl
replaced_not (a ∷ []) n = refl
replaced_not (a ∷ b ∷ []) n = refl
replaced_not (a ∷ b ∷ c ∷ []) n = absurd (n refl)
replaced_not (a ∷ b ∷ c ∷ d ∷ ts) n = refl

pub replaced_three : (ts : List Term) (a b c : Term) (p q r : Bool) → length ts ≡ 3 → a ≡ get_or ts 0 a → b ≡ get_or ts 1 b → c ≡ get_or ts 2 c → p ≡ is_text (seen b) → q ≡ is_text (seen c) → r ≡ is_string (seen a) → (p && q && r) ≡ is_replaced (seen_all ts)
replaced_three [] a b c p q r n x y z e f g = absurd (omega arith)
replaced_three (t ∷ []) a b c p q r n x y z e f g = absurd (omega arith)
replaced_three (t ∷ u ∷ []) a b c p q r n x y z e f g = absurd (omega arith)
replaced_three (t ∷ u ∷ v ∷ []) a b c p q r n x y z e f g = λ i. (e ∙ ap (λ s. is_text (seen s)) y) i && (f ∙ ap (λ s. is_text (seen s)) z) i && (g ∙ ap (λ s. is_string (seen s)) x) i
replaced_three (t ∷ u ∷ v ∷ w ∷ ts) a b c p q r n x y z e f g = absurd (omega arith)

-- terms of sort Int
empty_join : {X : Type 0} (xs ys : List X) → is_empty (xs ++ ys) ≡ (is_empty xs && is_empty ys)
empty_join [] ys = refl
empty_join (x ∷ xs) ys = refl

constant_scaled : (a : Linear) (k : ℤ) → is_constant (scaled a k) ≡ is_constant a
constant_scaled a k = by_terms a.terms
  where
    by_terms : (ts : List (Unknown × ℤ)) → is_constant (scaled (record { terms = ts; constant = a.constant }) k) ≡ is_empty ts
    by_terms [] = refl
    by_terms (t ∷ ts) = refl

constant_added : (a b : Linear) → is_constant (added a b) ≡ (is_constant a && is_constant b)
constant_added a b = empty_join a.terms b.terms

constant_less : (a b : Linear) → is_constant (less a b) ≡ (is_constant a && is_constant b)
constant_less a b = constant_added a (scaled b minus_one) ∙ ap (λ c. is_constant a && c) (constant_scaled b minus_one)

sum_kind : (v w c d : Bool) → sum_of (kind_of v c) (kind_of w d) ≡ kind_of (v && w) (c && d)
sum_kind true true true true = refl
sum_kind true true true false = refl
sum_kind true true false true = refl
sum_kind true true false false = refl
sum_kind true false true d = refl
sum_kind true false false d = refl
sum_kind false w c d = refl

and_assoc : (a b c : Bool) → ((a && b) && c) ≡ (a && (b && c))
and_assoc true b c = refl
and_assoc false b c = refl

sums : (v : Bool) (a : Linear) (ss : Shapes) → joined_on joining.Sum (kind_of v (is_constant a)) ss ≡ kind_of (v && are_linear ss) (is_constant (from_left added a (linears ss)))
sums true a end = refl
sums false a end = refl
sums v a (s ⨾ ss) =
    ap (λ k. joined_on joining.Sum k ss) (sum_kind v (is_linear s) (is_constant a) (is_constant (linear s)) ∙ ap (kind_of (v && is_linear s)) (sym (constant_added a (linear s))))
    ∙ sums (v && is_linear s) (added a (linear s)) ss ∙ ap (λ b. kind_of b (is_constant (from_left added (added a (linear s)) (linears ss)))) (and_assoc v (is_linear s) (are_linear ss))

lesses : (v : Bool) (a : Linear) (ss : Shapes) → joined_on joining.Sum (kind_of v (is_constant a)) ss ≡ kind_of (v && are_linear ss) (is_constant (from_left less a (linears ss)))
lesses true a end = refl
lesses false a end = refl
lesses v a (s ⨾ ss) =
    ap (λ k. joined_on joining.Sum k ss) (sum_kind v (is_linear s) (is_constant a) (is_constant (linear s)) ∙ ap (kind_of (v && is_linear s)) (sym (constant_less a (linear s))))
    ∙ lesses (v && is_linear s) (less a (linear s)) ss ∙ ap (λ b. kind_of b (is_constant (from_left less (less a (linear s)) (linears ss)))) (and_assoc v (is_linear s) (are_linear ss))

differences : (s : Shape) (ss : Shapes) → joined_on joining.Sum (linearity_of s) ss ≡ kind_of (is_linear s && are_linear ss) (is_constant (difference_of (linears (s ⨾ ss))))
differences s end = by_form (is_linear s) ∙ ap (kind_of (is_linear s && true)) (sym (constant_scaled (linear s) minus_one))
  where
    by_form : (v : Bool) → kind_of v (is_constant (linear s)) ≡ kind_of (v && true) (is_constant (linear s))
    by_form true = refl
    by_form false = refl
differences s (t ⨾ ss) = lesses (is_linear s) (linear s) (t ⨾ ss)

-- of a product one factor at most has an unknown
constant_multiplied : (a b : Linear) (c d : Bool) → is_constant a ≡ c → is_constant b ≡ d → is_constant (multiplied a b) ≡ (c && d)
constant_multiplied a b c true e f = rw f (constant_scaled a b.constant ∙ e ∙ right c)
  where
    right : (x : Bool) → x ≡ (x && true)
    right true = refl
    right false = refl
constant_multiplied a b c false e f = rw f (constant_scaled b a.constant ∙ f ∙ right c)
  where
    right : (x : Bool) → false ≡ (x && false)
    right true = refl
    right false = refl

product_kind : (v w c d : Bool) → product_of (kind_of v c) (kind_of w d) ≡ kind_of ((v && w) && (c || d)) (c && d)
product_kind true true true true = refl
product_kind true true true false = refl
product_kind true true false true = refl
product_kind true true false false = refl
product_kind true false true d = refl
product_kind true false false d = refl
product_kind false w c d = refl

regroup : (v w x y z : Bool) → (((v && w) && x) && y && z) ≡ (v && (w && y) && (x && z))
regroup true true true y z = refl
regroup true true false true z = refl
regroup true true false false z = refl
regroup true false x y z = refl
regroup false w x y z = refl

products : (v : Bool) (a : Linear) (ss : Shapes) → joined_on joining.Product (kind_of v (is_constant a)) ss ≡ kind_of (v && are_linear ss && is_product_from a (linears ss)) (is_constant (from_left multiplied a (linears ss)))
products true a end = refl
products false a end = refl
products v a (s ⨾ ss) =
    ap (λ k. joined_on joining.Product k ss) (product_kind v (is_linear s) (is_constant a) (is_constant (linear s)) ∙ ap (kind_of ((v && is_linear s) && (is_constant a || is_constant (linear s)))) (sym (constant_multiplied a (linear s) (is_constant a) (is_constant (linear s)) refl refl)))
    ∙ products ((v && is_linear s) && (is_constant a || is_constant (linear s))) (multiplied a (linear s)) ss
    ∙ ap (λ b. kind_of b (is_constant (from_left multiplied (multiplied a (linear s)) (linears ss)))) (regroup v (is_linear s) (is_constant a || is_constant (linear s)) (are_linear ss) (is_product_from (multiplied a (linear s)) (linears ss)))

length_kind : (s : Shape) → one_of s ≡ kind_of (is_string s) (is_constant (length_form (s ⨾ end)))
length_kind (text w) = refl
length_kind _ = refl

read_kind : (o : Op) (ss : Shapes) → read_of (joining_of o) ss ≡ linearity_of (apply o ss)
read_kind op.Add end = refl
read_kind op.Add (s ⨾ ss) = sums (is_linear s) (linear s) ss
read_kind op.Subtract end = refl
read_kind op.Subtract (s ⨾ ss) = differences s ss
read_kind op.Multiply end = refl
read_kind op.Multiply (s ⨾ ss) = products (is_linear s) (linear s) ss
read_kind op.Length end = refl
read_kind op.Length (s ⨾ end) = length_kind s
read_kind op.Length (s ⨾ t ⨾ ss) = refl
read_kind _ ss = refl

pub applied_kind : (t : Term) (o : Op) (ts : List Term) (j : Joining) (k : Linearity) → t ≡ term.Apply o ts → j ≡ joining_of o → k ≡ read_of j (seen_all ts) → k ≡ linearity_of (seen t)
applied_kind t o ts j k i e f = f ∙ ap (λ x. read_of x (seen_all ts)) e ∙ read_kind o (seen_all ts) ∙ sym (ap linearity_of (seen_apply t o o ts i refl))

pub length_not : (ts : List Term) (j : Joining) → j ≡ joining.Length → (length ts ≡ 1 → ⊥) → linearity.Other ≡ read_of j (seen_all ts)
length_not [] j e n = sym (ap (λ x. read_of x end) e)
length_not (t ∷ []) j e n = absurd (n refl)
length_not (t ∷ u ∷ ts) j e n = sym (ap (λ x. read_of x (seen_all (t ∷ u ∷ ts))) e)

-- joined from the left
pub joined_first : (j : Joining) (ts : List Term) (t : Term) (k : Linearity) → 0 < length ts → t ≡ get_or ts 0 t → k ≡ linearity_of (seen t) → joined_on j k (seen_all (drop 1 ts)) ≡ joined_from j (seen_all ts)
joined_first j [] t k l e h = absurd (omega arith)
joined_first j (u ∷ ts) t k l e h = ap (λ x. joined_on j x (seen_all ts)) (h ∙ ap (λ x. linearity_of (seen x)) e)

pub joined_step : (j : Joining) (ts : List Term) (i : ℕ) (t : Term) (all k all_next : Linearity) → i < length ts → t ≡ get_or ts i t → k ≡ linearity_of (seen t) → all_next ≡ joined_of j all k → joined_on j all_next (seen_all (drop (i + 1) ts)) ≡ joined_on j all (seen_all (drop i ts))
joined_step j ts i t all k all_next l e h f = ap (λ x. joined_on j x (seen_all (drop (i + 1) ts))) (f ∙ ap (joined_of j all) h) ∙ sym (ap (λ us. joined_on j all (seen_all us)) (front ts i t l e))

pub joined_end : (j : Joining) (ts : List Term) (i : ℕ) (all : Linearity) → length ts ≤ i → joined_on j all (seen_all (drop i ts)) ≡ all
joined_end j ts i all l = ap (λ us. joined_on j all (seen_all us)) (drop_all i ts l)

pub ruleset string_arms = (concat_string, no_string, replaced_string, nothing_string)

kind_other : (v c : Bool) → kind_of v c ≡ linearity.Other → v ≡ false
kind_other false c e = refl
kind_other true true e = absurd (cc)
kind_other true false e = absurd (cc)

kind_written : (v c : Bool) → (kind_of v c ≡ linearity.Other → ⊥) → v ≡ true
kind_written true c f = refl
kind_written false c f = absurd (f refl)

pub other_kind : (t : Term) (k : Linearity) → k ≡ linearity_of (seen t) → k ≡ linearity.Other → false ≡ is_linear (seen t)
other_kind t k e f = sym (kind_other (is_linear (seen t)) (is_constant (linear (seen t))) (sym e ∙ f))

pub written_kind : (t : Term) (k : Linearity) → k ≡ linearity_of (seen t) → (k ≡ linearity.Other → ⊥) → true ≡ is_linear (seen t)
written_kind t k e f = sym (kind_written (is_linear (seen t)) (is_constant (linear (seen t))) (λ z. f (e ∙ z)))
