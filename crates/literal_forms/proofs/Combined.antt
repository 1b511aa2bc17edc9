-- Forms that are joined from the left.
use Rattle.std.proofs.Common.{◌≡◌, refl, sym, ap, ◌∙◌, subst, ℕ, zero, suc, ◌+◌, ◌<◌, ◌≤◌, ℤ, pos, Bool, List, [], ◌∷◌, ◌++◌, map, length, take, drop, get_or, append_assoc, arith, inl, inr, append-nil, take_all}
use Rattle.std.specs.Prelude.{Result, Ok, Err, IfOk}
use Rattle.std.proofs.lemmas.List.{take_more, length-take}
use Rattle.sv_terms.specs.declared.op.Op.{Op}
use Rattle.sv_terms.specs.declared.op.Op.TheVariants as op
use Rattle.sv_terms.specs.declared.regex.Regex.{Regex}
use Rattle.sv_terms.specs.declared.sort.Sort.{Sort}
use Rattle.sv_terms.specs.declared.term.Term.{Term}
use Rattle.sv_terms.specs.declared.term.Term.TheVariants as term
use Rattle.sv_terms.specs.declared.transducer.Transducer.{Transducer}
use Rattle.literal_forms.specs.Literals.{SomeOf}
use Rattle.literal_forms.specs.Formed.{IsUnknownForm, combined_by, combining_steps, linears_of, steps_of}
use Rattle.literal_forms.specs.Linear.{Linear, Unknown, integer, length_of, other, Step, scaling, from_left, joined_of, joined_steps, length_form, linear, minus_one, of_number, of_unknown, read, read_steps, reading_of, scaled, steps, steps_from, whole, written}
use Rattle.literal_forms.specs.Mirrors.{raw-seen, seen-Truth, seen-Number, seen-Text, seen-Constant, seen-Apply, seen-InRe, seen-Related, seen-Opaque}
use Rattle.literal_forms.specs.Numbered.{AreNumbered, IsFormOrPast, IsMore, IsNumbered, joint_of, joint_steps}
use Rattle.literal_forms.specs.Past.{ArePlain, IsPast}
use Rattle.literal_forms.specs.Shapes.{Shape, Shapes, truth, number, text, constant, apply, member, related, opaque, end, ◌⨾◌, shapes, seen, raw}
use Rattle.sv_linear.specs.declared.fault.FormFault.{FormFault}
use Rattle.sv_linear.specs.declared.fault.FormFault.TheVariants.{Past, Memory}
use Rattle.literal_forms.specs.declared.roles.Joint.{Joint}
use Rattle.literal_forms.specs.declared.roles.Joint.TheVariants as joint
use Rattle.literal_forms.specs.declared.reading.Reading.{Reading}
use Rattle.literal_forms.specs.declared.reading.Reading.TheVariants as reading
use Rattle.literal_forms.specs.declared.term_form.TermForm.{TermForm}
use Rattle.literal_forms.specs.PastLaws.{some_left, some_right, some_cases}
use Rattle.literal_forms.proofs.Formed.{formed_more}

-- plain steps, one list behind another
pub plain_join : (ss ts : List Step) → ArePlain ss → ArePlain ts → ArePlain (ss ++ ts)
plain_join ss ts p q l r h = elim (some_cases (IsPast l r) ss ts h) [ inl a ↦ p l r a | inr b ↦ q l r b ]

pub plain_none : ArePlain []
plain_none l r h = h

-- one more at the end
from_push : (f : Linear → Linear → Linear) (a : Linear) (bs : List Linear) (b : Linear) → from_left f a (bs ++ b ∷ []) ≡ f (from_left f a bs) b
from_push f a [] b = refl
from_push f a (c ∷ bs) b = from_push f (f a c) bs b

steps_push : (f : Linear → Linear → Linear) (s : Linear → Linear → List Step) (a : Linear) (bs : List Linear) (b : Linear) → steps_from f s a (bs ++ b ∷ []) ≡ steps_from f s a bs ++ s (from_left f a bs) b
steps_push f s a [] b = append-nil (s a b)
steps_push f s a (c ∷ bs) b = ap (λ x. s a c ++ x) (steps_push f s (f a c) bs b) ∙ sym (append_assoc (s a c) (steps_from f s (f a c) bs) (s (from_left f (f a c) bs) b))

module _ (j : Joint) where
  combined_push : (ls : List Linear) (b : Linear) → 0 < length ls → combined_by j (ls ++ b ∷ []) ≡ joint_of j (combined_by j ls) b
  combined_push [] b l = absurd (omega arith)
  combined_push (a ∷ ls) b l = from_push (joint_of j) a ls b

  combining_push : (ls : List Linear) (b : Linear) → 0 < length ls → combining_steps j (ls ++ b ∷ []) ≡ combining_steps j ls ++ joint_steps j (combined_by j ls) b
  combining_push [] b l = absurd (omega arith)
  combining_push (a ∷ ls) b l = steps_push (joint_of j) (joint_steps j) a ls b

  -- steps of the first ones are steps of all
  combining_left : (ls ms : List Linear) (l r : ℤ) → SomeOf (IsPast l r) (combining_steps j ls) → SomeOf (IsPast l r) (combining_steps j (ls ++ ms))
  combining_left [] ms l r h = absurd h
  combining_left (a ∷ ls) ms l r h = left a ls h
    where
      left : (a : Linear) (ls : List Linear) → SomeOf (IsPast l r) (steps_from (joint_of j) (joint_steps j) a ls) → SomeOf (IsPast l r) (steps_from (joint_of j) (joint_steps j) a (ls ++ ms))
      left a [] h = absurd h
      left a (b ∷ ls) h = elim (some_cases (IsPast l r) (joint_steps j a b) (steps_from (joint_of j) (joint_steps j) (joint_of j a b) ls) h) [
        | inl x ↦ some_left (IsPast l r) (joint_steps j a b) (steps_from (joint_of j) (joint_steps j) (joint_of j a b) (ls ++ ms)) x
        | inr y ↦ some_right (IsPast l r) (joint_steps j a b) (steps_from (joint_of j) (joint_steps j) (joint_of j a b) (ls ++ ms)) (left (joint_of j a b) ls y)
      ]

linears_push : (ts : List Term) (t : Term) → linears_of (ts ++ t ∷ []) ≡ linears_of ts ++ linear (seen t) ∷ []
linears_push [] t = refl
linears_push (u ∷ ts) t = ap (λ ls. linear (seen u) ∷ ls) (linears_push ts t)

linears_join : (ts us : List Term) → linears_of (ts ++ us) ≡ linears_of ts ++ linears_of us
linears_join [] us = refl
linears_join (t ∷ ts) us = ap (λ ls. linear (seen t) ∷ ls) (linears_join ts us)

linears_length : (ts : List Term) → length (linears_of ts) ≡ length ts
linears_length [] = refl
linears_length (t ∷ ts) = ap suc (linears_length ts)

steps_join : (ts us : List Term) → steps_of (ts ++ us) ≡ steps_of ts ++ steps_of us
steps_join [] us = refl
steps_join (t ∷ ts) us = ap (λ x. steps (seen t) ++ x) (steps_join ts us) ∙ sym (append_assoc (steps (seen t)) (steps_of ts) (steps_of us))

pub more : (ts : List Term) (i : ℕ) (t : Term) → i < length ts → t ≡ get_or ts i t → take (i + 1) ts ≡ take i ts ++ t ∷ []
more ts i t h e = take_more ts i t h ∙ ap (λ x. take i ts ++ x ∷ []) (sym e)

split_at : (ts : List Term) (k : ℕ) → take k ts ++ drop k ts ≡ ts
split_at ts zero = refl
split_at [] (suc k) = refl
split_at (t ∷ ts) (suc k) = ap (λ us. t ∷ us) (split_at ts k)

-- the first terms have this form, and none of their steps is past 128 bits
pub record IsCombined (us : List (List ℤ)) (j : Joint) (ts : List Term) (f : TermForm) : Type 0 where
  pub arguments : ArePlain (steps_of ts)
  pub joints : ArePlain (combining_steps j (linears_of ts))
  pub form : IsNumbered us (combined_by j (linears_of ts)) f

pub first_combined : (us : List (List ℤ)) (j : Joint) (ts : List Term) (t : Term) (f : TermForm) → 0 < length ts → t ≡ get_or ts 0 t → ArePlain (steps (seen t)) → IsNumbered us (linear (seen t)) f → IsCombined us j (take 1 ts) f
first_combined us j [] t f l e p n = absurd (omega arith)
first_combined us j (u ∷ ts) t f l e p n = subst (λ x. IsCombined us j (x ∷ []) f) e (record {
  arguments = plain_join (steps (seen t)) [] p plain_none;
  joints = plain_none;
  form = n;
})

pub next_combined : (us vs : List (List ℤ)) (j : Joint) (ts : List Term) (i : ℕ) (t : Term) (f g h : TermForm) → 0 < i → i < length ts → t ≡ get_or ts i t → IsMore us vs → IsCombined us j (take i ts) f → ArePlain (steps (seen t)) → IsNumbered vs (linear (seen t)) g
    → ((us : List (List ℤ)) (a b : Linear) → AreNumbered us → IsNumbered us a f → IsNumbered us b g → ArePlain (joint_steps j a b) × IsNumbered us (joint_of j a b) h) → IsCombined vs j (take (i + 1) ts) h
next_combined us vs j ts i t f g h o l e m c p n made =
    let some : 0 < length (linears_of (take i ts)) = rw (linears_length (take i ts)) (simp length-take (omega arith)) in
    let r = made vs (combined_by j (linears_of (take i ts))) (linear (seen t)) m.numbered (formed_more us vs _ f m c.form) n in
    let ls = linears_of (take i ts) in
    subst (λ us. IsCombined vs j us h) (sym (more ts i t l e)) (record {
      arguments = subst ArePlain (sym (steps_join (take i ts) (t ∷ []))) (plain_join (steps_of (take i ts)) (steps_of (t ∷ [])) c.arguments (plain_join (steps (seen t)) [] p plain_none));
      joints = subst ArePlain (sym (ap (combining_steps j) (linears_push (take i ts) t) ∙ combining_push j (linears_of (take i ts)) (linear (seen t)) some)) (plain_join (combining_steps j (linears_of (take i ts))) (joint_steps j (combined_by j (linears_of (take i ts))) (linear (seen t))) c.joints r.0);
      form = subst (λ a. IsNumbered vs a h) (sym (ap (combined_by j) (linears_push (take i ts) t) ∙ combined_push j (linears_of (take i ts)) (linear (seen t)) some)) r.1;
    })

-- a past step of one term, and of one joint, is one of all
pub argument_past : (ts : List Term) (i : ℕ) (t : Term) (rest : List Step) (l r : ℤ) → i < length ts → t ≡ get_or ts i t → SomeOf (IsPast l r) (steps (seen t)) → SomeOf (IsPast l r) (steps_of ts ++ rest)
argument_past ts i t rest l r k e h = some_left (IsPast l r) (steps_of ts) rest (in_all ts i t k e h)
  where
    in_all : (ts : List Term) (i : ℕ) (t : Term) → i < length ts → t ≡ get_or ts i t → SomeOf (IsPast l r) (steps (seen t)) → SomeOf (IsPast l r) (steps_of ts)
    in_all [] i t k e h = absurd (omega arith)
    in_all (u ∷ ts) zero t k e h = some_left (IsPast l r) (steps (seen u)) (steps_of ts) (subst (λ (x : Term). SomeOf (IsPast l r) (steps (seen x))) e h)
    in_all (u ∷ ts) (suc i) t k e h = some_right (IsPast l r) (steps (seen u)) (steps_of ts) (in_all ts i t (omega arith) e h)

-- of two or more terms the form and the steps of a function are the joined ones
several_of : (j : Joint) (ls : List Linear) → 2 ≤ length ls → joined_of j ls ≡ combined_by j ls
several_of joint.Sum ls l = refl
several_of joint.Product ls l = refl
several_of joint.Difference [] l = absurd (omega arith)
several_of joint.Difference (a ∷ []) l = absurd (omega arith)
several_of joint.Difference (a ∷ b ∷ ls) l = refl

several_steps : (j : Joint) (ls : List Linear) → 2 ≤ length ls → joined_steps j ls ≡ combining_steps j ls
several_steps joint.Sum ls l = refl
several_steps joint.Product ls l = refl
several_steps joint.Difference [] l = absurd (omega arith)
several_steps joint.Difference (a ∷ []) l = absurd (omega arith)
several_steps joint.Difference (a ∷ b ∷ ls) l = refl

pub joint_past : (us vs : List (List ℤ)) (j : Joint) (ts : List Term) (i : ℕ) (t : Term) (f g : TermForm) (l r : ℤ) → 0 < i → i < length ts → 2 ≤ length ts → t ≡ get_or ts i t → IsMore us vs → IsCombined us j (take i ts) f → IsNumbered vs (linear (seen t)) g
    → ((us : List (List ℤ)) (a b : Linear) → AreNumbered us → IsNumbered us a f → IsNumbered us b g → SomeOf (IsPast l r) (joint_steps j a b)) → SomeOf (IsPast l r) (steps_of ts ++ joined_steps j (linears_of ts))
joint_past us vs j ts i t f g l r o k two e m c n made =
    let some : 0 < length (linears_of (take i ts)) = rw (linears_length (take i ts)) (simp length-take (omega arith)) in
    let h = made vs (combined_by j (linears_of (take i ts))) (linear (seen t)) m.numbered (formed_more us vs _ f m c.form) n in
    let one = subst (λ x. SomeOf (IsPast l r) x) (sym (ap (combining_steps j) (linears_push (take i ts) t) ∙ combining_push j (linears_of (take i ts)) (linear (seen t)) some)) (some_right (IsPast l r) (combining_steps j (linears_of (take i ts))) (joint_steps j (combined_by j (linears_of (take i ts))) (linear (seen t))) h) in
    let all = combining_left j (linears_of (take i ts ++ t ∷ [])) (linears_of (drop (i + 1) ts)) l r one in
    let whole_list : linears_of (take i ts ++ t ∷ []) ++ linears_of (drop (i + 1) ts) ≡ linears_of ts = sym (linears_join (take i ts ++ t ∷ []) (drop (i + 1) ts)) ∙ ap linears_of (ap (λ x. x ++ drop (i + 1) ts) (sym (more ts i t k e)) ∙ split_at ts (i + 1)) in
    let lengths : 2 ≤ length (linears_of ts) = omega (arith, linears_length ts) in
    some_right (IsPast l r) (steps_of ts) (joined_steps j (linears_of ts)) (subst (λ x. SomeOf (IsPast l r) x) (ap (combining_steps j) whole_list ∙ sym (several_steps j (linears_of ts) lengths)) all)

pub all_combined : (us : List (List ℤ)) (j : Joint) (ts : List Term) (i : ℕ) (f : TermForm) → 2 ≤ length ts → length ts ≤ i → IsCombined us j (take i ts) f → ArePlain (steps_of ts ++ joined_steps j (linears_of ts)) × IsNumbered us (joined_of j (linears_of ts)) f
all_combined us j ts i f two l c =
    let lengths : 2 ≤ length (linears_of ts) = omega (arith, linears_length ts) in
    let d = subst (λ x. IsCombined us j x f) (take_all i ts l) c in
    (plain_join (steps_of ts) (joined_steps j (linears_of ts)) d.arguments (subst ArePlain (sym (several_steps j (linears_of ts) lengths)) d.joints), subst (λ a. IsNumbered us a f) (sym (several_of j (linears_of ts) lengths)) d.form)

-- of no term
pub none_joined : (us : List (List ℤ)) (j : Joint) (ts : List Term) (f : TermForm) → length ts ≡ 0 → IsNumbered us (of_number (pos 0)) f → ArePlain (steps_of ts ++ joined_steps j (linears_of ts)) × IsNumbered us (joined_of j (linears_of ts)) f
none_joined us joint.Sum [] f l n = (plain_none, n)
none_joined us joint.Difference [] f l n = (plain_none, n)
none_joined us joint.Product [] f l n = (plain_none, n)
none_joined us j (t ∷ ts) f l n = absurd (omega arith)

-- of one term
one_steps : (t : Term) → ArePlain (steps (seen t)) → ArePlain (steps_of (t ∷ []))
one_steps t p = plain_join (steps (seen t)) [] p plain_none

pub one_sum : (us : List (List ℤ)) (ts : List Term) (t : Term) (f : TermForm) → length ts ≡ 1 → t ≡ get_or ts 0 t → ArePlain (steps (seen t)) → IsNumbered us (linear (seen t)) f → ArePlain (steps_of ts ++ joined_steps joint.Sum (linears_of ts)) × IsNumbered us (joined_of joint.Sum (linears_of ts)) f
one_sum us [] t f l e p n = absurd (omega arith)
one_sum us (u ∷ []) t f l e p n = subst (λ x. ArePlain (steps_of (x ∷ []) ++ []) × IsNumbered us (linear (seen x)) f) e (plain_join (steps_of (t ∷ [])) [] (one_steps t p) plain_none, n)
one_sum us (u ∷ v ∷ ts) t f l e p n = absurd (omega arith)

pub one_product : (us : List (List ℤ)) (ts : List Term) (t : Term) (f : TermForm) → length ts ≡ 1 → t ≡ get_or ts 0 t → ArePlain (steps (seen t)) → IsNumbered us (linear (seen t)) f → ArePlain (steps_of ts ++ joined_steps joint.Product (linears_of ts)) × IsNumbered us (joined_of joint.Product (linears_of ts)) f
one_product us [] t f l e p n = absurd (omega arith)
one_product us (u ∷ []) t f l e p n = subst (λ x. ArePlain (steps_of (x ∷ []) ++ []) × IsNumbered us (linear (seen x)) f) e (plain_join (steps_of (t ∷ [])) [] (one_steps t p) plain_none, n)
one_product us (u ∷ v ∷ ts) t f l e p n = absurd (omega arith)

one_difference : (us : List (List ℤ)) (ts : List Term) (t : Term) (f g : TermForm) → length ts ≡ 1 → t ≡ get_or ts 0 t → AreNumbered us → ArePlain (steps (seen t)) → IsNumbered us (linear (seen t)) f → ((us : List (List ℤ)) (a : Linear) → AreNumbered us → IsNumbered us a f → ArePlain (scaling a minus_one ∷ []) × IsNumbered us (scaled a minus_one) g) → ArePlain (steps_of ts ++ joined_steps joint.Difference (linears_of ts)) × IsNumbered us (joined_of joint.Difference (linears_of ts)) g
one_difference us [] t f g l e m p n h = absurd (omega arith)
one_difference us (u ∷ []) t f g l e m p n h =
    let r = h us (linear (seen t)) m n in
    subst (λ x. ArePlain (steps_of (x ∷ []) ++ (scaling (linear (seen x)) minus_one ∷ [])) × IsNumbered us (scaled (linear (seen x)) minus_one) g) e (plain_join (steps_of (t ∷ [])) (scaling (linear (seen t)) minus_one ∷ []) (one_steps t p) r.0, r.1)
one_difference us (u ∷ v ∷ ts) t f g l e m p n h = absurd (omega arith)

one_past : (us : List (List ℤ)) (ts : List Term) (t : Term) (f : TermForm) (l r : ℤ) → length ts ≡ 1 → t ≡ get_or ts 0 t → AreNumbered us → IsNumbered us (linear (seen t)) f → ((us : List (List ℤ)) (a : Linear) → AreNumbered us → IsNumbered us a f → SomeOf (IsPast l r) (scaling a minus_one ∷ [])) → SomeOf (IsPast l r) (steps_of ts ++ joined_steps joint.Difference (linears_of ts))
one_past us [] t f l r k e m n h = absurd (omega arith)
one_past us (u ∷ []) t f l r k e m n h = subst (λ x. SomeOf (IsPast l r) (steps_of (x ∷ []) ++ (scaling (linear (seen x)) minus_one ∷ []))) e (some_right (IsPast l r) (steps_of (t ∷ [])) (scaling (linear (seen t)) minus_one ∷ []) (h us (linear (seen t)) m n))
one_past us (u ∷ v ∷ ts) t f l r k e m n h = absurd (omega arith)

-- the form of a term by its head
pub number_read : (us : List (List ℤ)) (t : Term) (n : ℤ) (f : TermForm) → t ≡ term.Number n → IsNumbered us (of_number n) f → ArePlain (steps (seen t)) × IsNumbered us (linear (seen t)) f
number_read us t n f e h = subst (λ s. ArePlain (steps s) × IsNumbered us (linear s) f) (sym (ap seen e ∙ seen-Number n)) (plain_none, h)

pub constant_read : (old us : List (List ℤ)) (t : Term) (n : List ℕ) (s : Sort) (f : TermForm) → t ≡ term.Constant n s → IsUnknownForm old us (integer n) f → ArePlain (steps (seen t)) × IsNumbered us (linear (seen t)) f
constant_read old us t n s f e h = subst (λ z. ArePlain (steps z) × IsNumbered us (linear z) f) (sym (ap seen e ∙ seen-Constant n s)) (plain_none, h.form)

pub truth_read : (old us : List (List ℤ)) (t : Term) (b : Bool) (f : TermForm) → t ≡ term.Truth b → IsUnknownForm old us (other (seen t)) f → ArePlain (steps (seen t)) × IsNumbered us (linear (seen t)) f
truth_read old us t b f e h = let s = ap seen e ∙ seen-Truth b in subst (λ z. ArePlain (steps z) × IsNumbered us (linear z) f) (sym s) (plain_none, subst (λ z. IsNumbered us (of_unknown (other z)) f) s h.form)

pub text_read : (old us : List (List ℤ)) (t : Term) (w : List ℕ) (f : TermForm) → t ≡ term.Text w → IsUnknownForm old us (other (seen t)) f → ArePlain (steps (seen t)) × IsNumbered us (linear (seen t)) f
text_read old us t w f e h = let s = ap seen e ∙ seen-Text w in subst (λ z. ArePlain (steps z) × IsNumbered us (linear z) f) (sym s) (plain_none, subst (λ z. IsNumbered us (of_unknown (other z)) f) s h.form)

pub member_read : (old us : List (List ℤ)) (t x : Term) (r : Regex) (f : TermForm) → t ≡ term.InRe x r → IsUnknownForm old us (other (seen t)) f → ArePlain (steps (seen t)) × IsNumbered us (linear (seen t)) f
member_read old us t x r f e h = let s = ap seen e ∙ seen-InRe x r in subst (λ z. ArePlain (steps z) × IsNumbered us (linear z) f) (sym s) (plain_none, subst (λ z. IsNumbered us (of_unknown (other z)) f) s h.form)

pub related_read : (old us : List (List ℤ)) (t x y : Term) (m : Transducer) (f : TermForm) → t ≡ term.Related m x y → IsUnknownForm old us (other (seen t)) f → ArePlain (steps (seen t)) × IsNumbered us (linear (seen t)) f
related_read old us t x y m f e h = let s = ap seen e ∙ seen-Related m x y in subst (λ z. ArePlain (steps z) × IsNumbered us (linear z) f) (sym s) (plain_none, subst (λ z. IsNumbered us (of_unknown (other z)) f) s h.form)

pub opaque_read : (old us : List (List ℤ)) (t : Term) (k : Sort) (f : TermForm) → t ≡ term.Opaque k → IsUnknownForm old us (other (seen t)) f → ArePlain (steps (seen t)) × IsNumbered us (linear (seen t)) f
opaque_read old us t k f e h = let s = ap seen e ∙ seen-Opaque k in subst (λ z. ArePlain (steps z) × IsNumbered us (linear z) f) (sym s) (plain_none, subst (λ z. IsNumbered us (of_unknown (other z)) f) s h.form)

apply_seen : (t : Term) (o : Op) (ts : List Term) (r : Reading) → t ≡ term.Apply o ts → r ≡ reading_of o → (linear (seen t) ≡ read r o (shapes (map seen ts)) (linears_of ts)) × (steps (seen t) ≡ read_steps r (steps_of ts) (linears_of ts))
apply_seen t o ts r e q =
    let s = ap seen e ∙ seen-Apply o ts in
    (ap linear s ∙ ap (λ x. read x o (shapes (map seen ts)) (linears_of ts)) (sym q), ap steps s ∙ ap (λ x. read_steps x (steps_of ts) (linears_of ts)) (sym q))

pub whole_read : (old us : List (List ℤ)) (t : Term) (o : Op) (ts : List Term) (r : Reading) (f : TermForm) → t ≡ term.Apply o ts → r ≡ reading_of o → r ≡ reading.Whole → IsUnknownForm old us (other (seen t)) f → ArePlain (steps (seen t)) × IsNumbered us (linear (seen t)) f
whole_read old us t o ts r f e q w h =
    let s = ap seen e ∙ seen-Apply o ts in
    let a = apply_seen t o ts reading.Whole e (sym w ∙ q) in
    (subst ArePlain (sym a.1) plain_none, subst (λ z. IsNumbered us z f) (sym a.0) (subst (λ z. IsNumbered us (of_unknown (other z)) f) s h.form))

pub joined_read : (us : List (List ℤ)) (t : Term) (o : Op) (ts : List Term) (r : Reading) (j : Joint) (a : Result TermForm FormFault) → t ≡ term.Apply o ts → r ≡ reading_of o → r ≡ reading.Joined j → IsFormOrPast us (joined_of j (linears_of ts)) (steps_of ts ++ joined_steps j (linears_of ts)) a → IsFormOrPast us (linear (seen t)) (steps (seen t)) a
joined_read us t o ts r j a e q w h = let s = apply_seen t o ts (reading.Joined j) e (sym w ∙ q) in subst (λ z. IsFormOrPast us z (steps (seen t)) a) (sym s.0) (subst (λ z. IsFormOrPast us (joined_of j (linears_of ts)) z a) (sym s.1) h)

-- lengths
pub literal_length : (us : List (List ℤ)) (t : Term) (w : List ℕ) (n : ℕ) (f : TermForm) → t ≡ term.Text w → n ≡ length w → IsNumbered us (of_number (pos n)) f → ArePlain [] × IsNumbered us (length_form (seen t ⨾ end)) f
literal_length us t w n f e l h = (plain_none, subst (λ s. IsNumbered us (length_form (s ⨾ end)) f) (sym (ap seen e ∙ seen-Text w)) (subst (λ k. IsNumbered us (of_number (pos k)) f) l h))

pub other_length : (old us : List (List ℤ)) (t : Term) (f : TermForm) → ((w : List ℕ) → t ≡ term.Text w → ⊥) → IsUnknownForm old us (length_of (written (seen t))) f → ArePlain [] × IsNumbered us (length_form (seen t ⨾ end)) f
other_length old us t f n h = (plain_none, subst (λ a. IsNumbered us a f) (sym (by_shape (seen t) (raw-seen t))) h.form)
  where
    by_shape : (s : Shape) → raw s ≡ t → length_form (s ⨾ end) ≡ of_unknown (length_of (written s))
    by_shape (text w) e = absurd (n w (sym e))
    by_shape (truth b) e = refl
    by_shape (number k) e = refl
    by_shape (constant m s) e = refl
    by_shape (apply o ss) e = refl
    by_shape (member s r) e = refl
    by_shape (related m s u) e = refl
    by_shape (opaque s) e = refl

length_one : (t : Term) (o : Op) (ts : List Term) (r : Reading) (x : Term) → t ≡ term.Apply o ts → r ≡ reading_of o → r ≡ reading.Length → length ts ≡ 1 → x ≡ get_or ts 0 x → (linear (seen t) ≡ length_form (seen x ⨾ end)) × (steps (seen t) ≡ [])
length_one t o [] r x e q w l f = absurd (omega arith)
length_one t o (u ∷ []) r x e q w l f = let a = apply_seen t o (u ∷ []) reading.Length e (sym w ∙ q) in (a.0 ∙ ap (λ z. length_form (seen z ⨾ end)) (sym f), a.1)
length_one t o (u ∷ v ∷ ts) r x e q w l f = absurd (omega arith)

pub length_read : (us : List (List ℤ)) (t : Term) (o : Op) (ts : List Term) (r : Reading) (x : Term) (a : Result TermForm FormFault) → t ≡ term.Apply o ts → r ≡ reading_of o → r ≡ reading.Length → length ts ≡ 1 → x ≡ get_or ts 0 x → IsFormOrPast us (length_form (seen x ⨾ end)) [] a → IsFormOrPast us (linear (seen t)) (steps (seen t)) a
length_read us t o ts r x a e q w l g h = let s = length_one t o ts r x e q w l g in subst (λ z. IsFormOrPast us z (steps (seen t)) a) (sym s.0) (subst (λ z. IsFormOrPast us (length_form (seen x ⨾ end)) z a) (sym s.1) h)

pub length_other : (old us : List (List ℤ)) (t : Term) (o : Op) (ts : List Term) (r : Reading) (f : TermForm) → t ≡ term.Apply o ts → r ≡ reading_of o → r ≡ reading.Length → (length ts ≡ 1 → ⊥) → IsUnknownForm old us (other (seen t)) f → ArePlain (steps (seen t)) × IsNumbered us (linear (seen t)) f
length_other old us t o ts r f e q w l h =
    let s = ap seen e ∙ seen-Apply o ts in
    let a = apply_seen t o ts reading.Length e (sym w ∙ q) in
    (subst ArePlain (sym a.1) plain_none, subst (λ z. IsNumbered us z f) (sym (a.0 ∙ by_length o ts (sym w ∙ q) l)) (subst (λ z. IsNumbered us (of_unknown (other z)) f) s h.form))
  where
    by_length : (o : Op) (ts : List Term) → reading.Length ≡ reading_of o → (length ts ≡ 1 → ⊥) → length_form (shapes (map seen ts)) ≡ whole (apply o (shapes (map seen ts)))
    by_length op.Length [] i k = refl
    by_length op.Length (u ∷ []) i k = absurd (k refl)
    by_length op.Length (u ∷ v ∷ ts) i k = two (seen u) (seen v) (shapes (map seen ts))
      where
        two : (s t : Shape) (ss : Shapes) → length_form (s ⨾ t ⨾ ss) ≡ whole (apply op.Length (s ⨾ t ⨾ ss))
        two (text w) t ss = refl
        two (truth b) t ss = refl
        two (number n) t ss = refl
        two (constant n s) t ss = refl
        two (apply o rs) t ss = refl
        two (member s r) t ss = refl
        two (related m s u) t ss = refl
        two (opaque s) t ss = refl
    by_length _ ts i k = absurd (cc)

pub unknown_more : (old us : List (List ℤ)) (u : Unknown) (f : TermForm) → IsUnknownForm old us u f → IsMore old us
unknown_more old us u f h = h.more

-- what holds whatever an answer is holds where there is one
pub at_any : {X E : Type 0} (r : Result X E) (P : Type 0) → P → IfOk r (λ _. P)
at_any (Ok x) P p = p
at_any (Err e) P p = tt

-- a fault goes on where its steps are among others
pub err_made : (us vs : List (List ℤ)) (a b : Linear) (ss ts : List Step) (e : FormFault) → ((l r : ℤ) → SomeOf (IsPast l r) ss → SomeOf (IsPast l r) ts) → IsFormOrPast us a ss (Err e) → IsFormOrPast vs b ts (Err e)
err_made us vs a b ss ts (Past l r) h p = h l r p
err_made us vs a b ss ts (Memory e) h p = tt

pub joint_err : (us vs : List (List ℤ)) (j : Joint) (ts : List Term) (i : ℕ) (t : Term) (f g : TermForm) (e : FormFault) → 0 < i → i < length ts → 2 ≤ length ts → t ≡ get_or ts i t → IsMore us vs → IsCombined us j (take i ts) f → IsNumbered vs (linear (seen t)) g
    → ((us : List (List ℤ)) (a b : Linear) → AreNumbered us → IsNumbered us a f → IsNumbered us b g → IsFormOrPast us (joint_of j a b) (joint_steps j a b) (Err e)) → IsFormOrPast vs (joined_of j (linears_of ts)) (steps_of ts ++ joined_steps j (linears_of ts)) (Err e)
joint_err us vs j ts i t f g (Past l r) o k two d m c n made = joint_past us vs j ts i t f g l r o k two d m c n made
joint_err us vs j ts i t f g (Memory x) o k two d m c n made = tt

abbrev pub IsJoined : List (List ℤ) → List Term → Result TermForm FormFault → Joint → Type 0
IsJoined us ts q j = IsFormOrPast us (joined_of j (linears_of ts)) (steps_of ts ++ joined_steps j (linears_of ts)) q

pub joined_as : (us : List (List ℤ)) (ts : List Term) (q : Result TermForm FormFault) (j k : Joint) → j ≡ k → IsJoined us ts q k → IsJoined us ts q j
joined_as us ts q j k e h = subst (IsJoined us ts q) (sym e) h

-- the negative of one term, made or past
pub one_negated : (us : List (List ℤ)) (ts : List Term) (t : Term) (f : TermForm) (q : Result TermForm FormFault) → length ts ≡ 1 → t ≡ get_or ts 0 t → AreNumbered us → ArePlain (steps (seen t)) → IsNumbered us (linear (seen t)) f → ((us : List (List ℤ)) (a : Linear) → AreNumbered us → IsNumbered us a f → IsFormOrPast us (scaled a minus_one) (scaling a minus_one ∷ []) q) → IsJoined us ts q joint.Difference
one_negated us ts t f (Ok g) l e m p n h = one_difference us ts t f g l e m p n h
one_negated us ts t f (Err (Past l r)) k e m p n h = one_past us ts t f l r k e m n h
one_negated us ts t f (Err (Memory x)) k e m p n h = tt
