-- What says the word of each term that is met: a literal's part, and a compound term's definition by its arguments.
use Rattle.std.proofs.Common.{◌≡◌, refl, sym, ap, ◌∙◌, subst, Bool, true, false, ℕ, zero, suc, ◌<◌, ◌≤◌, inl, inr, List, [], ◌∷◌, ◌++◌, length, length-append, slice_get, Option, Some, None, arith}
use Rattle.std.specs.Prelude.{if◌then◌else◌}
use Rattle.std.specs.Option.{option_map}
use Rattle.std.proofs.lemmas.Bool.{cases_lt, and_parts}
use Rattle.sv_terms.specs.declared.op.Op.TheVariants as op
use Rattle.literal_forms.specs.Shapes.{Shape, Shapes, text, constant, apply, end, ◌⨾◌}
use Rattle.literal_forms.specs.Codes.{same}
use Rattle.literal_forms.specs.Linear.{is_string, are_strings}
use Rattle.cube_draft.proofs.Sames.{string_is}
use Rattle.flat_cubes.specs.Met.{DraftView, Found, with_term, with_part, with_definition, place_of, known_or, literal_met, meet, meet_all}
use Rattle.flat_cubes.specs.declared.variable.Own.{Own}
use Rattle.flat_cubes.specs.declared.variable.Own.TheVariants as own
use Rattle.flat_cubes.specs.declared.definition.By.{By}
use Rattle.flat_cubes.specs.declared.definition.By.TheVariants as by
use Rattle.flat_cubes.specs.Members.{Among}

pub among_left : {X : Type 0} (x : X) (xs ys : List X) → Among x xs → Among x (xs ++ ys)
among_left x [] ys a = absurd a
among_left x (y ∷ xs) ys (inl e) = inl e
among_left x (y ∷ xs) ys (inr a) = inr (among_left x xs ys a)

pub among_last : {X : Type 0} (x : X) (xs : List X) → Among x (xs ++ x ∷ [])
among_last x [] = inl refl
among_last x (y ∷ xs) = inr (among_last x xs)

-- the term at a place
abbrev pub At : List Shape → ℕ → Shape → Type 0
At ts i s = slice_get ts i ≡ Some s

pub at_left : (ts us : List Shape) (i : ℕ) (s : Shape) → At ts i s → At (ts ++ us) i s
at_left [] us i s a = absurd (cc)
at_left (t ∷ ts) us zero s a = a
at_left (t ∷ ts) us (suc i) s a = at_left ts us i s a

pub at_last : (ts : List Shape) (s : Shape) → At (ts ++ s ∷ []) (length ts) s
at_last [] s = refl
at_last (t ∷ ts) s = at_last ts s

pub at_within : (ts : List Shape) (i : ℕ) (s : Shape) → At ts i s → i < length ts
at_within [] i s a = absurd (cc)
at_within (t ∷ ts) zero s a = omega arith
at_within (t ∷ ts) (suc i) s a = let h = at_within ts i s a in omega arith

pub one_at : (ts : List Shape) (i : ℕ) (s t : Shape) → At ts i s → At ts i t → s ≡ t
one_at ts i s t a b = let e : Some s ≡ Some t = sym a ∙ b in cc

-- nothing that was met is lost
pub record Grows (d e : DraftView) : Type 0 where
  pub terms : (i : ℕ) (s : Shape) → At d.terms i s → At e.terms i s
  pub parts : (p : ℕ × (Own × Bool)) → Among p d.parts → Among p e.parts
  pub definitions : (q : ℕ × By) → Among q d.definitions → Among q e.definitions

pub grows_same : (d : DraftView) → Grows d d
grows_same d = record { terms = λ i s a. a; parts = λ p a. a; definitions = λ q a. a }

pub grows_then : (d e f : DraftView) → Grows d e → Grows e f → Grows d f
grows_then d e f g h = record { terms = λ i s a. h.terms i s (g.terms i s a); parts = λ p a. h.parts p (g.parts p a); definitions = λ q a. h.definitions q (g.definitions q a) }

grows_term : (s : Shape) (d : DraftView) → Grows d (with_term s d)
grows_term s d = record { terms = λ i t a. at_left d.terms (s ∷ []) i t a; parts = λ p a. a; definitions = λ q a. a }

grows_part : (i : ℕ) (p : Own × Bool) (d : DraftView) → Grows d (with_part i p d)
grows_part i p d = record { terms = λ j t a. a; parts = λ q a. among_left q d.parts ((i, p) ∷ []) a; definitions = λ q a. a }

grows_definition : (i : ℕ) (b : By) (d : DraftView) → Grows d (with_definition i b d)
grows_definition i b d = record { terms = λ j t a. a; parts = λ q a. a; definitions = λ q a. among_left q d.definitions ((i, b) ∷ []) a }

-- the terms at places, one after another
abbrev pub AllAt : List Shape → List ℕ → Shapes → Type 0
AllAt ts [] end = Unit {0}
AllAt ts (j ∷ js) (s ⨾ ss) = At ts j s × AllAt ts js ss
AllAt ts _ _ = ⊥

all_at_more : (d e : DraftView) → Grows d e → (js : List ℕ) (ss : Shapes) → AllAt d.terms js ss → AllAt e.terms js ss
all_at_more d e g [] end a = tt
all_at_more d e g [] (s ⨾ ss) a = absurd a
all_at_more d e g (j ∷ js) end a = absurd a
all_at_more d e g (j ∷ js) (s ⨾ ss) a = (g.terms j s a.0, all_at_more d e g js ss a.1)

abbrev pub HasEntry : DraftView → ℕ → Shape → Type 0
HasEntry d i (text w) = Among (i, (own.Word w, true)) d.parts
HasEntry d i (apply op.Concat ss) = (js : List ℕ) × Among (i, by.Concat js) d.definitions × AllAt d.terms js ss
HasEntry d i (apply op.Replace (s ⨾ text p ⨾ text u ⨾ end)) = (j : ℕ) × Among (i, by.First p u j) d.definitions × At d.terms j s
HasEntry d i (apply op.ReplaceAll (s ⨾ text p ⨾ text u ⨾ end)) = (j : ℕ) × Among (i, by.All p u j) d.definitions × At d.terms j s
HasEntry d i _ = Unit {0}

pub entry_more : (d e : DraftView) → Grows d e → (i : ℕ) (s : Shape) → HasEntry d i s → HasEntry e i s
entry_more d e g i (text w) h = g.parts (i, (own.Word w, true)) h
entry_more d e g i (apply op.Concat ss) h = (h.0, g.definitions (i, by.Concat h.0) h.1, all_at_more d e g h.0 ss h.2)
entry_more d e g i (apply op.Replace (s ⨾ text p ⨾ text u ⨾ end)) h = (h.0, g.definitions (i, by.First p u h.0) h.1, g.terms h.0 s h.2)
entry_more d e g i (apply op.ReplaceAll (s ⨾ text p ⨾ text u ⨾ end)) h = (h.0, g.definitions (i, by.All p u h.0) h.1, g.terms h.0 s h.2)
entry_more d e g i _ h = tt

-- each term behind those of the draft has its entry
abbrev pub NewHave : DraftView → DraftView → Type 0
NewHave d e = (i : ℕ) (t : Shape) → length d.terms ≤ i → At e.terms i t → HasEntry e i t

pub record IsEntered (d : DraftView) (s : Shape) (r : Found) : Type 0 where
  pub grows : Grows d r.1
  pub at : At r.1.terms r.0 s
  pub entries : NewHave d r.1

pub record AreEntered (d : DraftView) (ss : Shapes) (r : List ℕ × DraftView) : Type 0 where
  pub grows : Grows d r.1
  pub at : AllAt r.1.terms r.0 ss
  pub entries : NewHave d r.1

pub none_new : (d : DraftView) → NewHave d d
none_new d i t h a = absurd (let l = at_within d.terms i t a in omega arith)

-- a place that was found
later_at : (s : Shape) (ts : List Shape) → ((j : ℕ) → place_of s ts ≡ Some j → At ts j s) → (t : Shape) (o : Option ℕ) → place_of s ts ≡ o → (i : ℕ) → option_map suc o ≡ Some i → At (t ∷ ts) i s
later_at s ts f t None q i e = absurd (cc)
later_at s ts f t (Some j) q i e = let g : suc j ≡ i = cc in subst (λ n. At (t ∷ ts) n s) g (f j q)

test_at : (s : Shape) (ts : List Shape) → is_string s ≡ true → ((j : ℕ) → place_of s ts ≡ Some j → At ts j s) → (t : Shape) (b : Bool) → same s t ≡ b → (i : ℕ) → (if b then Some 0 else option_map suc (place_of s ts)) ≡ Some i → At (t ∷ ts) i s
test_at s ts x f t true q i e = let g : 0 ≡ i = cc in subst (λ n. At (t ∷ ts) n s) g (ap Some (sym (string_is s t x q)))
test_at s ts x f t false q i e = later_at s ts f t (place_of s ts) refl i e

found_at : (s : Shape) (ts : List Shape) → is_string s ≡ true → (i : ℕ) → place_of s ts ≡ Some i → At ts i s
found_at s [] x i e = absurd (cc)
found_at s (t ∷ ts) x i e = test_at s ts x (λ j q. found_at s ts x j q) t (same s t) refl i e

known_entered : (s : Shape) (d : DraftView) (new : Found) → is_string s ≡ true → IsEntered d s new → (o : Option ℕ) → place_of s d.terms ≡ o → IsEntered d s (known_or o d new)
known_entered s d new x p None e = p
known_entered s d new x p (Some i) e = record { grows = grows_same d; at = found_at s d.terms x i e; entries = none_new d }

-- a new term at the end
last_new : (d : DraftView) (s : Shape) (e : DraftView) → Grows (with_term s d) e → HasEntry e (length d.terms) s → NewHave (with_term s d) e → NewHave d e
last_new d s e g h k i t l a = elim (cases_lt (length d.terms) i) [
  | inl m ↦ k i t (let n = length-append d.terms (s ∷ []) in omega arith) a
  | inr m ↦
      let same : length d.terms ≡ i = omega arith in
      let here : At e.terms (length d.terms) s = g.terms (length d.terms) s (at_last d.terms s) in
      let term : s ≡ t = one_at e.terms i s t (subst (λ n. At e.terms n s) same here) a in
      subst (HasEntry e i) term (subst (λ n. HasEntry e n s) same h)
]

constant_entered : (n : List ℕ) (d : DraftView) (s : Shape) → HasEntry (with_term s d) (length d.terms) s → IsEntered d s (length d.terms, with_term s d)
constant_entered n d s h = record { grows = grows_term s d; at = at_last d.terms s; entries = last_new d s (with_term s d) (grows_same (with_term s d)) h (none_new (with_term s d)) }

text_entered : (w : List ℕ) (d : DraftView) → IsEntered d (text w) (literal_met (text w) (own.Word w) d)
text_entered w d =
    let f = with_term (text w) d in
    let g = grows_part (length d.terms) (own.Word w, true) (with_term (text w) d) in
    record {
      grows = grows_then d (with_term (text w) d) (with_part (length d.terms) (own.Word w, true) (with_term (text w) d)) (grows_term (text w) d) g;
      at = at_last d.terms (text w);
      entries = last_new d (text w) (with_part (length d.terms) (own.Word w, true) (with_term (text w) d)) g (among_last (length d.terms, (own.Word w, true)) d.parts) (λ i t l a. absurd (let m = at_within (with_term (text w) d).terms i t a in omega arith));
    }

compound_entered : (t : Shape) (d : DraftView) (b : By) (e : DraftView) → Grows (with_term t d) e → NewHave (with_term t d) e → HasEntry (with_definition (length d.terms) b e) (length d.terms) t → IsEntered d t (length d.terms, with_definition (length d.terms) b e)
compound_entered t d b e g k h =
    let l = grows_definition (length d.terms) b e in
    let f = grows_then (with_term t d) e (with_definition (length d.terms) b e) g l in
    record {
      grows = grows_then d (with_term t d) (with_definition (length d.terms) b e) (grows_term t d) f;
      at = g.terms (length d.terms) t (at_last d.terms t);
      entries = last_new d t (with_definition (length d.terms) b e) f h (λ i u m a. entry_more e (with_definition (length d.terms) b e) l i u (k i u m a));
    }

-- entries of the arguments, one after another
pub first_have : (d e f : DraftView) → Grows e f → NewHave d e → NewHave e f → NewHave d f
first_have d e f g h k i t l a = elim (cases_lt i (length e.terms)) [
  | inl m ↦ entry_more e f g i t (h i t l (back e f g i t m a))
  | inr m ↦ k i t m a
]
  where
    some_at : (ts : List Shape) (i : ℕ) → i < length ts → (s : Shape) × At ts i s
    some_at [] i m = absurd (omega arith)
    some_at (s ∷ ts) zero m = (s, refl)
    some_at (s ∷ ts) (suc i) m = some_at ts i (omega arith)

    back : (e f : DraftView) → Grows e f → (i : ℕ) (t : Shape) → i < length e.terms → At f.terms i t → At e.terms i t
    back e f g i t m a =
        let s = some_at e.terms i m in
        let same : s.0 ≡ t = one_at f.terms i s.0 t (g.terms i s.0 s.1) a in
        subst (At e.terms i) same s.1

mutual
  pub is_entered : (s : Shape) (d : DraftView) → is_string s ≡ true → IsEntered d s (meet s d)
  is_entered (text w) d e = text_entered w d
  is_entered (constant n s) d e = known_entered (constant n s) d _ e (constant_entered n d (constant n s) tt) (place_of (constant n s) d.terms) refl
  is_entered (apply op.Concat (s ⨾ ss)) d e =
      let t = apply op.Concat (s ⨾ ss) in
      let m = are_entered (s ⨾ ss) (with_term t d) e in
      let r = meet_all (s ⨾ ss) (with_term t d) in
      known_entered t d _ e (compound_entered t d (by.Concat r.0) r.1 m.grows m.entries (r.0, among_last (length d.terms, by.Concat r.0) r.1.definitions, m.at)) (place_of t d.terms) refl
  is_entered (apply op.Replace (s ⨾ text p ⨾ text u ⨾ end)) d e =
      let t = apply op.Replace (s ⨾ text p ⨾ text u ⨾ end) in
      let m = is_entered s (with_term t d) e in
      let r = meet s (with_term t d) in
      known_entered t d _ e (compound_entered t d (by.First p u r.0) r.1 m.grows m.entries (r.0, among_last (length d.terms, by.First p u r.0) r.1.definitions, m.at)) (place_of t d.terms) refl
  is_entered (apply op.ReplaceAll (s ⨾ text p ⨾ text u ⨾ end)) d e =
      let t = apply op.ReplaceAll (s ⨾ text p ⨾ text u ⨾ end) in
      let m = is_entered s (with_term t d) e in
      let r = meet s (with_term t d) in
      known_entered t d _ e (compound_entered t d (by.All p u r.0) r.1 m.grows m.entries (r.0, among_last (length d.terms, by.All p u r.0) r.1.definitions, m.at)) (place_of t d.terms) refl
  is_entered _ d e = absurd (cc)

  are_entered : (ss : Shapes) (d : DraftView) → are_strings ss ≡ true → AreEntered d ss (meet_all ss d)
  are_entered end d e = record { grows = grows_same d; at = tt; entries = none_new d }
  are_entered (s ⨾ ss) d e =
      let q = and_parts (is_string s) (are_strings ss) e in
      let m = is_entered s d q.0 in
      let n = are_entered ss (meet s d).1 q.1 in
      record {
        grows = grows_then d (meet s d).1 (meet_all ss (meet s d).1).1 m.grows n.grows;
        at = (n.grows.terms (meet s d).0 s m.at, n.at);
        entries = first_have d (meet s d).1 (meet_all ss (meet s d).1).1 n.grows m.entries n.entries;
      }
