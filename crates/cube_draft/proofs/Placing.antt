-- String terms are met: literals, constants, concatenations and replacements.
use Rattle.std.proofs.Common.{◌≡◌, refl, sym, ap, ◌∙◌, subst, true, false, ℕ, zero, suc, ◌+◌, ◌<◌, ◌≤◌, ℤ, List, [], ◌∷◌, ◌++◌, length, take, get_or, Option, Some, None, IfOk, Result, append_assoc, arith, append-nil}
use Rattle.std.specs.declared.alloc.AllocError.{AllocError}
use Rattle.std.proofs.lemmas.List.{take_more}
use Rattle.std.proofs.lemmas.Result.{IfOk-weaker}
use Rattle.sv_terms.specs.declared.op.Op.{Op}
use Rattle.sv_terms.specs.declared.op.Op.TheVariants as op
use Rattle.sv_terms.specs.declared.sort.Sort.{Sort}
use Rattle.sv_terms.specs.declared.term.Term.{Term}
use Rattle.sv_terms.specs.declared.term.Term.TheVariants as term
use Rattle.literal_forms.specs.Codes.{code}
use Rattle.literal_forms.specs.Flats.{flat}
use Rattle.literal_forms.specs.Linear.{before, pieces, set_before, written}
use Rattle.literal_forms.specs.Mirrors.{raw-seen, seen-Constant, seen-Text}
use Rattle.literal_forms.specs.Shapes.{Shape, Shapes, truth, number, text, constant, apply, member, related, opaque, end, ◌⨾◌, raw, seen}
use Rattle.literal_forms.proofs.Spelled.{set_end, before_other, before_leaf}
use Rattle.flat_cubes.specs.Flattening.{name_of}
use Rattle.cube_draft.specs.Gathered.{ArePieced, Gathers, IsTermMet, IsSought, number_at}
use Rattle.cube_draft.specs.Strings.{build_of, is_text, replacer}
use Rattle.cube_draft.specs.declared.string_terms.Occurrences.{Occurrences}
use Rattle.cube_draft.specs.declared.string_terms.Occurrences.TheVariants as occurrences
use Rattle.cube_draft.specs.Kinds.{literals_of, replaced_by}
use Rattle.flat_cubes.specs.Met.{DraftView, Found, known_or, meet, meet_all, place_of, with_definition, with_part, with_term}
use Rattle.flat_cubes.specs.declared.definition.By.{By}
use Rattle.flat_cubes.specs.declared.definition.By.TheVariants as by
use Rattle.cube_draft.specs.declared.string_terms.PlaceBuild.{PlaceBuild}
use Rattle.cube_draft.specs.declared.string_terms.PlaceBuild.TheVariants as build
use Rattle.cube_draft.specs.declared.meeting.DraftBuilder.{DraftBuilder}
use Rattle.cube_draft.specs.declared.meeting.TermPlace.{TermPlace}
use Rattle.cube_draft.specs.declared.meeting.TermPlace.TheVariants.{Known, New}
use Rattle.flat_cubes.specs.declared.variable.Own.TheVariants as own
use Rattle.cube_draft.proofs.Forms.{concat_op, no_text, replacer_op, seen_all, seen_apply}
use Rattle.cube_draft.proofs.Gathering.{finds_new, finds_text, gathers_definition, gathers_part, gathers_term, map_length}

names_long : (m : DraftBuilder) (d : DraftView) → Gathers m d → length m.names ≡ length d.terms
names_long m d g = ap length g.names ∙ map_length name_of d.terms

pub literal_put : (m a b : DraftBuilder) (i : ℕ) (w : List ℕ) → i ≡ length m.names → a ≡ record m { names = m.names ++ None ∷ [] } → b ≡ record a { parts = a.parts ++ (i, (own.Word w, true)) ∷ [] } → IsTermMet m b (text w) i
literal_put m a b i w e f h = record {
  gathers = λ d g.
      let n : i ≡ length d.terms = e ∙ names_long m d g in
      let t : Gathers a (with_term (text w) d) = subst (λ x. Gathers x (with_term (text w) d)) (sym f) (gathers_term m d (text w) m.places g (finds_text m.places d.terms w g.places)) in
      subst (λ x. Gathers x (with_part (length d.terms) (own.Word w, true) (with_term (text w) d))) (ap (λ k. record a { parts = a.parts ++ (k, (own.Word w, true)) ∷ [] }) (sym n) ∙ sym h) (gathers_part a (with_term (text w) d) (length d.terms) (own.Word w, true) t);
  place = λ d g. e ∙ names_long m d g;
}

pub sought_known : (m : DraftBuilder) (s : Shape) (c : List ℤ) (i : ℕ) → c ≡ flat (code s) → is_text s ≡ false → Some i ≡ number_at c m.places → IsSought m m s (Known i)
sought_known m s c i e t h = record { each = λ d g. (sym (g.places s t) ∙ ap (λ x. number_at x m.places) (sym e) ∙ sym h, g) }

pub sought_new : (m n : DraftBuilder) (s : Shape) (c : List ℤ) (name : Option (List ℕ)) (i : ℕ) → c ≡ flat (code s) → is_text s ≡ false → None ≡ number_at c m.places → name ≡ name_of s → i ≡ length m.names → n ≡ record m { names = m.names ++ name ∷ []; places = m.places ++ (c, length m.names) ∷ [] } → IsSought m n s (New i)
sought_new m n s c name i e t h q p f = record {
  each = λ d g. (
    sym (g.places s t) ∙ ap (λ x. number_at x m.places) (sym e) ∙ sym h,
    p ∙ names_long m d g,
    subst (λ x. Gathers x (with_term s d)) (sym (f ∙ (λ j. record m { names = m.names ++ q j ∷ []; places = m.places ++ (e j, names_long m d g j) ∷ [] }))) (gathers_term m d s (m.places ++ (flat (code s), length d.terms) ∷ []) g (finds_new m.places d.terms s g.places)),
  );
}

-- what was met before keeps its place
known_one : (o : Option ℕ) (i : ℕ) (d : DraftView) (new : Found) → o ≡ Some i → known_or o d new ≡ (i, d)
known_one o i d new e = ap (λ x. known_or x d new) e

new_one : (o : Option ℕ) (d : DraftView) (new : Found) → o ≡ None → known_or o d new ≡ new
new_one o d new e = ap (λ x. known_or x d new) e

-- a term whose meeting looks for it first
abbrev LooksFor : Shape → (DraftView → Found) → Type 0
LooksFor t new = (d : DraftView) → meet t d ≡ known_or (place_of t d.terms) d (new d)

known_met : (m n : DraftBuilder) (t : Shape) (i : ℕ) (new : DraftView → Found) → LooksFor t new → IsSought m n t (Known i) → IsTermMet m n t i
known_met m n t i new l k = record {
  gathers = λ d g. let h = k.each d g in subst (Gathers n) (sym (ap (λ r. r.1) (l d ∙ known_one (place_of t d.terms) i d (new d) h.0))) h.1;
  place = λ d g. let h = k.each d g in sym (ap (λ r. r.0) (l d ∙ known_one (place_of t d.terms) i d (new d) h.0));
}

new_met : (m a n : DraftBuilder) (t : Shape) (i : ℕ) (new : DraftView → Found) → LooksFor t new → IsSought m a t (New i)
    → ((d : DraftView) → i ≡ length d.terms → Gathers a (with_term t d) → Gathers n (new d).1) → ((d : DraftView) → i ≡ length d.terms → i ≡ (new d).0) → IsTermMet m n t i
new_met m a n t i new l k f p = record {
  gathers = λ d g. let h = k.each d g in subst (Gathers n) (sym (ap (λ r. r.1) (l d ∙ new_one (place_of t d.terms) d (new d) h.0))) (f d h.1 h.2);
  place = λ d g. let h = k.each d g in p d h.1 ∙ sym (ap (λ r. r.0) (l d ∙ new_one (place_of t d.terms) d (new d) h.0));
}

pub constant_known : (m n : DraftBuilder) (a : List ℕ) (k : Sort) (i : ℕ) → IsSought m n (constant a k) (Known i) → IsTermMet m n (constant a k) i
constant_known m n a k i h = known_met m n (constant a k) i (λ d. (length d.terms, with_term (constant a k) d)) (λ d. refl) h

pub constant_new : (m n : DraftBuilder) (a : List ℕ) (k : Sort) (i : ℕ) → IsSought m n (constant a k) (New i) → IsTermMet m n (constant a k) i
constant_new m n a k i h = new_met m n n (constant a k) i (λ d. (length d.terms, with_term (constant a k) d)) (λ d. refl) h (λ d e g. g) (λ d e. e)

-- a definition of the new place
defined : (b n : DraftBuilder) (d : DraftView) (i j : ℕ) (x y : By) → n ≡ record b { definitions = b.definitions ++ (i, x) ∷ [] } → i ≡ j → x ≡ y → Gathers b d → Gathers n (with_definition j y d)
defined b n d i j x y e f h g = subst (λ z. Gathers z (with_definition j y d)) (sym (e ∙ (λ k. record b { definitions = b.definitions ++ (f k, h k) ∷ [] }))) (gathers_definition b d j y g)

module _ (m : DraftBuilder) (ps : Shapes) where
  abbrev whole : Shape
  whole = apply op.Concat ps

  abbrev joined_new : DraftView → Found
  joined_new d = (length d.terms, with_definition (length d.terms) (by.Concat (meet_all ps (with_term whole d)).0) (meet_all ps (with_term whole d)).1)

  pub concat_known : (n : DraftBuilder) (i : ℕ) → IsSought m n whole (Known i) → IsTermMet m n whole i
  concat_known n i h = known_met m n whole i joined_new (λ d. refl) h

  pub concat_new : (a b n : DraftBuilder) (i : ℕ) (vs ws : List ℕ) → IsSought m a whole (New i) → vs ≡ [] → ArePieced a b ps vs ws → n ≡ record b { definitions = b.definitions ++ (i, by.Concat ws) ∷ [] } → IsTermMet m n whole i
  concat_new a b n i vs ws h z q e = new_met m a n whole i joined_new (λ d. refl) h
      (λ d l g. defined b n (meet_all ps (with_term whole d)).1 i (length d.terms) (by.Concat ws) (by.Concat (meet_all ps (with_term whole d)).0) e l (ap (λ x. by.Concat x) (q.places (with_term whole d) g ∙ ap (λ x. x ++ (meet_all ps (with_term whole d)).0) z)) (q.gathers (with_term whole d) g))
      (λ d l. l)

module _ (r : Occurrences) (x : Shape) (p u : List ℕ) where
  abbrev replaced : Shape
  replaced = apply (replacer r) (x ⨾ text p ⨾ text u ⨾ end)

  abbrev replaced_new : DraftView → Found
  replaced_new d = (length d.terms, with_definition (length d.terms) (replaced_by r p u (meet x (with_term replaced d)).0) (meet x (with_term replaced d)).1)

looks_for : (r : Occurrences) (x : Shape) (p u : List ℕ) → LooksFor (replaced r x p u) (replaced_new r x p u)
looks_for occurrences.First x p u d = refl
looks_for occurrences.All x p u d = refl

module _ (m : DraftBuilder) (r : Occurrences) (x : Shape) (p u : List ℕ) where
  pub replaced_known : (n : DraftBuilder) (i : ℕ) → IsSought m n (replaced r x p u) (Known i) → IsTermMet m n (replaced r x p u) i
  replaced_known n i h = known_met m n (replaced r x p u) i (replaced_new r x p u) (looks_for r x p u) h

  pub replaced_put : (a b n : DraftBuilder) (i v : ℕ) → IsSought m a (replaced r x p u) (New i) → IsTermMet a b x v → n ≡ record b { definitions = b.definitions ++ (i, replaced_by r p u v) ∷ [] } → IsTermMet m n (replaced r x p u) i
  replaced_put a b n i v h q e = new_met m a n (replaced r x p u) i (replaced_new r x p u) (looks_for r x p u) h
      (λ d l g. defined b n (meet x (with_term (replaced r x p u) d)).1 i (length d.terms) (replaced_by r p u v) (replaced_by r p u (meet x (with_term (replaced r x p u) d)).0) e l (ap (replaced_by r p u) (q.place (with_term (replaced r x p u) d) g)) (q.gathers (with_term (replaced r x p u) d) g))
      (λ d l. l)

-- the term as one that replaces
pub replaces_as : (t : Term) (o : Op) (r : Occurrences) (b : PlaceBuild) (ts us : List Term) → t ≡ term.Apply o ts → us ≡ ts → b ≡ build_of o → b ≡ build.Replace r → t ≡ term.Apply (replacer r) us
replaces_as t o r b ts us i f k e = i ∙ (λ j. term.Apply (replacer_op o r (sym k ∙ e) j) (sym f j))

-- terms of no written form have a place that isn't there
nothing_met_of : (m : DraftBuilder) (s : Shape) (k : Result ℕ AllocError) → IfOk k (λ i. i ≡ length m.names) → ((d : DraftView) → meet s d ≡ (length d.terms, d)) → IfOk k (IsTermMet m m s)
nothing_met_of m s k l e = IfOk-weaker k (λ i. i ≡ length m.names) (IsTermMet m m s) (λ i p. record { gathers = λ d g. subst (Gathers m) (sym (ap (λ r. r.1) (e d))) g; place = λ d g. p ∙ names_long m d g ∙ sym (ap (λ r. r.0) (e d)) }) l

none_built : (o : Op) (ss : Shapes) (d : DraftView) → build_of o ≡ build.Nothing → meet (written (apply o ss)) d ≡ (length d.terms, d)
none_built op.Concat ss d e = absurd (cc)
none_built op.Replace ss d e = absurd (cc)
none_built op.ReplaceAll ss d e = absurd (cc)
none_built _ ss d e = refl

pub built_nothing : (m : DraftBuilder) (t : Term) (o : Op) (ts : List Term) (k : Result ℕ AllocError) → t ≡ term.Apply o ts → build_of o ≡ build.Nothing → IfOk k (λ i. i ≡ length m.names) → IfOk k (IsTermMet m m (written (seen t)))
built_nothing m t o ts k i b l = nothing_met_of m (written (seen t)) k l (λ d. ap (λ s. meet (written s) d) (seen_apply t o o ts i refl) ∙ none_built o (seen_all ts) d b)

pub leaf_nothing : (m : DraftBuilder) (t : Term) (k : Result ℕ AllocError) → ((w : List ℕ) → t ≡ term.Text w → ⊥) → ((n : List ℕ) (k : Sort) → t ≡ term.Constant n k → ⊥) → ((o : Op) (ts : List Term) → t ≡ term.Apply o ts → ⊥) → IfOk k (λ i. i ≡ length m.names) → IfOk k (IsTermMet m m (written (seen t)))
leaf_nothing m t k f g h l = nothing_met_of m (written (seen t)) k l (λ d. by_shape d (seen t) (raw-seen t))
  where
    by_shape : (d : DraftView) (s : Shape) → raw s ≡ t → meet (written s) d ≡ (length d.terms, d)
    by_shape d (text w) e = absurd (f w (sym e))
    by_shape d (constant n k) e = absurd (g n k (sym e))
    by_shape d (apply o ss) e = absurd (h o _ (sym e))
    by_shape d (truth b) e = refl
    by_shape d (number n) e = refl
    by_shape d (member s r) e = refl
    by_shape d (related a s u) e = refl
    by_shape d (opaque s) e = refl

-- a replacement whose pattern and replacement aren't literals
first_none : (ss : Shapes) (d : DraftView) → literals_of ss ≡ None → meet (written (apply op.Replace ss)) d ≡ (length d.terms, d)
first_none end d e = refl
first_none (s ⨾ end) d e = refl
first_none (s ⨾ text p ⨾ end) d e = refl
first_none (s ⨾ text p ⨾ text u ⨾ end) d e = absurd (cc)
first_none (s ⨾ text p ⨾ text u ⨾ v ⨾ ss) d e = refl
first_none (s ⨾ text p ⨾ _ ⨾ ss) d e = refl
first_none (s ⨾ _ ⨾ ss) d e = refl

all_none : (ss : Shapes) (d : DraftView) → literals_of ss ≡ None → meet (written (apply op.ReplaceAll ss)) d ≡ (length d.terms, d)
all_none end d e = refl
all_none (s ⨾ end) d e = refl
all_none (s ⨾ text p ⨾ end) d e = refl
all_none (s ⨾ text p ⨾ text u ⨾ end) d e = absurd (cc)
all_none (s ⨾ text p ⨾ text u ⨾ v ⨾ ss) d e = refl
all_none (s ⨾ text p ⨾ _ ⨾ ss) d e = refl
all_none (s ⨾ _ ⨾ ss) d e = refl

replaced_none : (r : Occurrences) (ss : Shapes) (d : DraftView) → literals_of ss ≡ None → meet (written (apply (replacer r) ss)) d ≡ (length d.terms, d)
replaced_none occurrences.First ss d e = first_none ss d e
replaced_none occurrences.All ss d e = all_none ss d e

pub replaced_nothing : (m : DraftBuilder) (t : Term) (r : Occurrences) (ts : List Term) (k : Result ℕ AllocError) → t ≡ term.Apply (replacer r) ts → literals_of (seen_all ts) ≡ None → IfOk k (λ i. i ≡ length m.names) → IfOk k (IsTermMet m m (written (seen t)))
replaced_nothing m t r ts k i n l = nothing_met_of m (written (seen t)) k l (λ d. ap (λ s. meet (written s) d) (seen_apply t (replacer r) (replacer r) ts i refl) ∙ replaced_none r (seen_all ts) d n)

-- pieces one after another
all_joined : (ss us : Shapes) (d : DraftView) → meet_all (set_before ss us) d ≡ ((meet_all ss d).0 ++ (meet_all us (meet_all ss d).1).0, (meet_all us (meet_all ss d).1).1)
all_joined end us d = refl
all_joined (s ⨾ ss) us d = ap (λ r. ((meet s d).0 ∷ r.0, r.1)) (all_joined ss us (meet s d).1)

pub pieced_none : (m : DraftBuilder) (vs : List ℕ) → ArePieced m m end vs vs
pieced_none m vs = record { gathers = λ d g. g; places = λ d g. sym (append-nil vs) }

pub pieced_join : (m a b : DraftBuilder) (ss us : Shapes) (vs ws xs : List ℕ) → ArePieced m a ss vs ws → ArePieced a b us ws xs → ArePieced m b (set_before ss us) vs xs
pieced_join m a b ss us vs ws xs p q = record {
  gathers = λ d g. subst (Gathers b) (sym (ap (λ r. r.1) (all_joined ss us d))) (q.gathers (meet_all ss d).1 (p.gathers d g));
  places = λ d g.
      q.places (meet_all ss d).1 (p.gathers d g) ∙ ap (λ l. l ++ (meet_all us (meet_all ss d).1).0) (p.places d g) ∙ append_assoc vs (meet_all ss d).0 (meet_all us (meet_all ss d).1).0
      ∙ ap (λ l. vs ++ l) (sym (ap (λ r. r.0) (all_joined ss us d)));
}

-- one piece
pub pieced_one : (m n : DraftBuilder) (s : Shape) (i : ℕ) (vs ws : List ℕ) → IsTermMet m n s i → ws ≡ vs ++ i ∷ [] → ArePieced m n (s ⨾ end) vs ws
pieced_one m n s i vs ws h e = record { gathers = λ d g. h.gathers d g; places = λ d g. e ∙ ap (λ k. vs ++ k ∷ []) (h.place d g) }

-- pieces of terms, the last one taken off
set_assoc : (a b c : Shapes) → set_before (set_before a b) c ≡ set_before a (set_before b c)
set_assoc end b c = refl
set_assoc (s ⨾ a) b c = ap (λ x. s ⨾ x) (set_assoc a b c)

before_set : (s : Shape) (ts : Shapes) → before s ts ≡ set_before (before s end) ts
before_set (apply op.Concat ss) ts = ap (λ x. set_before x ts) (sym (set_end ss))
before_set s ts = refl

pub pieces_push : (ts : List Term) (t : Term) → pieces (seen_all (ts ++ t ∷ [])) ≡ set_before (pieces (seen_all ts)) (before (written (seen t)) end)
pieces_push [] t = refl
pieces_push (u ∷ ts) t =
    ap (before (written (seen u))) (pieces_push ts t) ∙ before_set (written (seen u)) (set_before (pieces (seen_all ts)) (before (written (seen t)) end))
    ∙ sym (set_assoc (before (written (seen u)) end) (pieces (seen_all ts)) (before (written (seen t)) end)) ∙ ap (λ x. set_before x (before (written (seen t)) end)) (sym (before_set (written (seen u)) (pieces (seen_all ts))))

pub pieced_step : (m a b : DraftBuilder) (ts : List Term) (k : ℕ) (t : Term) (vs ws xs : List ℕ) → k < length ts → t ≡ get_or ts k t → ArePieced m a (pieces (seen_all (take k ts))) vs ws → ArePieced a b (before (written (seen t)) end) ws xs → ArePieced m b (pieces (seen_all (take (k + 1) ts))) vs xs
pieced_step m a b ts k t vs ws xs l e p q =
    let more : take (k + 1) ts ≡ take k ts ++ t ∷ [] = take_more ts k t l ∙ ap (λ x. take k ts ++ x ∷ []) (sym e) in
    subst (λ ss. ArePieced m b ss vs xs) (sym (ap (λ us. pieces (seen_all us)) more ∙ pieces_push (take k ts) t)) (pieced_join m a b (pieces (seen_all (take k ts))) (before (written (seen t)) end) vs ws xs p q)

-- one piece that is a concatenation, and one that isn't
before_concat : (ss : Shapes) → before (written (apply op.Concat ss)) end ≡ pieces ss
before_concat ss = set_end (pieces ss)

pub piece_concat : (m n : DraftBuilder) (t : Term) (o : Op) (ts : List Term) (b : PlaceBuild) (vs ws : List ℕ) → t ≡ term.Apply o ts → b ≡ build_of o → b ≡ build.Concat → ArePieced m n (pieces (seen_all ts)) vs ws → ArePieced m n (before (written (seen t)) end) vs ws
piece_concat m n t o ts b vs ws i k e p = subst (λ ss. ArePieced m n ss vs ws) (sym (ap (λ s. before (written s) end) (seen_apply t o op.Concat ts i (concat_op o (sym k ∙ e))) ∙ before_concat (seen_all ts))) p

pub piece_other : (m n : DraftBuilder) (t : Term) (o : Op) (ts : List Term) (b : PlaceBuild) (i : ℕ) (vs ws : List ℕ) → t ≡ term.Apply o ts → b ≡ build_of o → (b ≡ build.Concat → ⊥) → IsTermMet m n (written (seen t)) i → ws ≡ vs ++ i ∷ [] → ArePieced m n (before (written (seen t)) end) vs ws
piece_other m n t o ts b i vs ws e k h p q =
    let s : seen t ≡ apply o (seen_all ts) = seen_apply t o o ts e refl in
    subst (λ ss. ArePieced m n ss vs ws) (sym (ap (λ z. before (written z) end) s ∙ before_other o (seen_all ts) (λ z. h (k ∙ ap build_of z)) ∙ ap (λ z. written z ⨾ end) (sym s))) (pieced_one m n (written (seen t)) i vs ws p q)

pub piece_leaf : (m n : DraftBuilder) (t : Term) (i : ℕ) (vs ws : List ℕ) → ((o : Op) (ts : List Term) → t ≡ term.Apply o ts → ⊥) → IsTermMet m n (written (seen t)) i → ws ≡ vs ++ i ∷ [] → ArePieced m n (before (written (seen t)) end) vs ws
piece_leaf m n t i vs ws h p q = subst (λ ss. ArePieced m n ss vs ws) (sym (before_leaf t h)) (pieced_one m n (written (seen t)) i vs ws p q)

-- of terms as they stand in the code
written_text : (o : Op) (ss : Shapes) → is_text (written (apply o ss)) ≡ false
written_text op.Concat ss = refl
written_text op.Replace end = refl
written_text op.Replace (s ⨾ ss) = refl
written_text op.ReplaceAll end = refl
written_text op.ReplaceAll (s ⨾ ss) = refl
written_text _ ss = refl

written_name : (o : Op) (ss : Shapes) → None ≡ name_of (written (apply o ss))
written_name op.Concat ss = refl
written_name op.Replace end = refl
written_name op.Replace (s ⨾ ss) = refl
written_name op.ReplaceAll end = refl
written_name op.ReplaceAll (s ⨾ ss) = refl
written_name _ ss = refl

pub apply_no_text : (t : Term) (o : Op) (ts : List Term) → t ≡ term.Apply o ts → is_text (written (seen t)) ≡ false
apply_no_text t o ts e = ap (λ s. is_text (written s)) (seen_apply t o o ts e refl) ∙ written_text o (seen_all ts)

pub apply_no_name : (t : Term) (o : Op) (ts : List Term) → t ≡ term.Apply o ts → None ≡ name_of (written (seen t))
apply_no_name t o ts e = written_name o (seen_all ts) ∙ sym (ap (λ s. name_of (written s)) (seen_apply t o o ts e refl))

pub constant_no_text : (t : Term) (n : List ℕ) (k : Sort) → t ≡ term.Constant n k → is_text (written (seen t)) ≡ false
constant_no_text t n k e = ap (λ s. is_text (written s)) (ap seen e ∙ seen-Constant n k)

pub constant_name : (t : Term) (n : List ℕ) (k : Sort) → t ≡ term.Constant n k → Some n ≡ name_of (written (seen t))
constant_name t n k e = sym (ap (λ s. name_of (written s)) (ap seen e ∙ seen-Constant n k))

pub constant_is_known : (m n : DraftBuilder) (t : Term) (a : List ℕ) (k : Sort) (p : TermPlace) (i : ℕ) → t ≡ term.Constant a k → IsSought m n (written (seen t)) p → p ≡ Known i → IsTermMet m n (written (seen t)) i
constant_is_known m n t a k p i e h q =
    let s : written (seen t) ≡ constant a k = ap written (ap seen e ∙ seen-Constant a k) in
    subst (λ x. IsTermMet m n x i) (sym s) (constant_known m n a k i (subst (λ x. IsSought m n x (Known i)) s (subst (IsSought m n (written (seen t))) q h)))

pub constant_is_new : (m n : DraftBuilder) (t : Term) (a : List ℕ) (k : Sort) (p : TermPlace) (i : ℕ) → t ≡ term.Constant a k → IsSought m n (written (seen t)) p → p ≡ New i → IsTermMet m n (written (seen t)) i
constant_is_new m n t a k p i e h q =
    let s : written (seen t) ≡ constant a k = ap written (ap seen e ∙ seen-Constant a k) in
    subst (λ x. IsTermMet m n x i) (sym s) (constant_new m n a k i (subst (λ x. IsSought m n x (New i)) s (subst (IsSought m n (written (seen t))) q h)))

pub text_is_met : (m n : DraftBuilder) (t : Term) (w v : List ℕ) (k : Result ℕ AllocError) → t ≡ term.Text w → v ≡ w → IfOk k (IsTermMet m n (text v)) → IfOk k (IsTermMet m n (written (seen t)))
text_is_met m n t w v k e f h = subst (λ x. IfOk k (IsTermMet m n x)) (ap text f ∙ sym (ap written (ap seen e ∙ seen-Text w))) h

concat_written : (t : Term) (ts : List Term) → t ≡ term.Apply op.Concat ts → written (seen t) ≡ apply op.Concat (pieces (seen_all ts))
concat_written t ts e = ap written (seen_apply t op.Concat op.Concat ts e refl)

pub concat_is_known : (m n : DraftBuilder) (t : Term) (ts : List Term) (p : TermPlace) (i : ℕ) → t ≡ term.Apply op.Concat ts → IsSought m n (written (seen t)) p → p ≡ Known i → IsTermMet m n (written (seen t)) i
concat_is_known m n t ts p i e h q =
    let s = concat_written t ts e in
    subst (λ x. IsTermMet m n x i) (sym s) (concat_known m (pieces (seen_all ts)) n i (subst (λ x. IsSought m n x (Known i)) s (subst (IsSought m n (written (seen t))) q h)))

pub concat_is_new : (m a b n : DraftBuilder) (t : Term) (ts : List Term) (p : TermPlace) (i : ℕ) (vs ws : List ℕ) → t ≡ term.Apply op.Concat ts → IsSought m a (written (seen t)) p → p ≡ New i → vs ≡ [] → ArePieced a b (pieces (seen_all ts)) vs ws → n ≡ record b { definitions = b.definitions ++ (i, by.Concat ws) ∷ [] } → IsTermMet m n (written (seen t)) i
concat_is_new m a b n t ts p i vs ws e h q z k f =
    let s = concat_written t ts e in
    subst (λ x. IsTermMet m n x i) (sym s) (concat_new m (pieces (seen_all ts)) a b n i vs ws (subst (λ x. IsSought m a x (New i)) s (subst (IsSought m a (written (seen t))) q h)) z k f)

-- the literals behind a term
two_none : (s t : Shape) → None ≡ literals_of (s ⨾ t ⨾ end)
two_none s (text p) = refl
two_none s _ = refl

four_none : (s t u v : Shape) (ss : Shapes) → None ≡ literals_of (s ⨾ t ⨾ u ⨾ v ⨾ ss)
four_none s (text p) (text u) v ss = refl
four_none s (text p) _ v ss = refl
four_none s _ u v ss = refl

pub literals_not : (ts : List Term) → (length ts ≡ 3 → ⊥) → None ≡ literals_of (seen_all ts)
literals_not [] n = refl
literals_not (a ∷ []) n = refl
literals_not (a ∷ b ∷ []) n = two_none (seen a) (seen b)
literals_not (a ∷ b ∷ c ∷ []) n = absurd (n refl)
literals_not (a ∷ b ∷ c ∷ d ∷ ts) n = four_none (seen a) (seen b) (seen c) (seen d) (seen_all ts)

first_not : (s t u : Shape) → is_text t ≡ false → None ≡ literals_of (s ⨾ t ⨾ u ⨾ end)
first_not s (text p) u e = absurd (cc)
first_not s _ u e = refl

second_not : (s t u : Shape) → is_text u ≡ false → None ≡ literals_of (s ⨾ t ⨾ u ⨾ end)
second_not s (text p) (text u) e = absurd (cc)
second_not s (text p) _ e = refl
second_not s _ u e = refl

pub literals_first_not : (ts : List Term) (t : Term) → length ts ≡ 3 → t ≡ get_or ts 1 t → ((w : List ℕ) → t ≡ term.Text w → ⊥) → None ≡ literals_of (seen_all ts)
literals_first_not [] t l e h = absurd (omega arith)
literals_first_not (a ∷ []) t l e h = absurd (omega arith)
literals_first_not (a ∷ b ∷ []) t l e h = absurd (omega arith)
literals_first_not (a ∷ b ∷ c ∷ []) t l e h = first_not (seen a) (seen b) (seen c) (ap (λ x. is_text (seen x)) (sym e) ∙ no_text t h)
literals_first_not (a ∷ b ∷ c ∷ d ∷ ts) t l e h = absurd (omega arith)

pub literals_second_not : (ts : List Term) (t : Term) → length ts ≡ 3 → t ≡ get_or ts 2 t → ((w : List ℕ) → t ≡ term.Text w → ⊥) → None ≡ literals_of (seen_all ts)
literals_second_not [] t l e h = absurd (omega arith)
literals_second_not (a ∷ []) t l e h = absurd (omega arith)
literals_second_not (a ∷ b ∷ []) t l e h = absurd (omega arith)
literals_second_not (a ∷ b ∷ c ∷ []) t l e h = second_not (seen a) (seen b) (seen c) (ap (λ x. is_text (seen x)) (sym e) ∙ no_text t h)
literals_second_not (a ∷ b ∷ c ∷ d ∷ ts) t l e h = absurd (omega arith)

pub literals_some : (ts : List Term) (t u : Term) (p w : List ℕ) → length ts ≡ 3 → t ≡ get_or ts 1 t → t ≡ term.Text p → u ≡ get_or ts 2 u → u ≡ term.Text w → Some (p, w) ≡ literals_of (seen_all ts)
literals_some [] t u p w l e f g h = absurd (omega arith)
literals_some (a ∷ []) t u p w l e f g h = absurd (omega arith)
literals_some (a ∷ b ∷ []) t u p w l e f g h = absurd (omega arith)
literals_some (a ∷ b ∷ c ∷ []) t u p w l e f g h = λ i. literals_of (seen a ⨾ (sym (ap seen (sym e ∙ f) ∙ seen-Text p)) i ⨾ (sym (ap seen (sym g ∙ h) ∙ seen-Text w)) i ⨾ end)
literals_some (a ∷ b ∷ c ∷ d ∷ ts) t u p w l e f g h = absurd (omega arith)

pub literals_three : (ts : List Term) (x : List ℕ × List ℕ) → Some x ≡ literals_of (seen_all ts) → 0 < length ts
literals_three [] x e = absurd (cc)
literals_three (a ∷ ts) x e = omega arith

-- a replacement of a literal by a literal
abbrev ReplacesIn : Shapes → List ℕ × List ℕ → Type 0
ReplacesIn (s ⨾ ss) x = ss ≡ text x.0 ⨾ text x.1 ⨾ end
ReplacesIn end x = ⊥

replaces_in : (ss : Shapes) (x : List ℕ × List ℕ) → Some x ≡ literals_of ss → ReplacesIn ss x
replaces_in end x e = absurd (cc)
replaces_in (s ⨾ end) x e = absurd (cc)
replaces_in (s ⨾ text p ⨾ end) x e = absurd (cc)
replaces_in (s ⨾ text p ⨾ text u ⨾ end) x e = let f : x ≡ (p, u) = cc in λ i. text (sym f i).0 ⨾ text (sym f i).1 ⨾ end
replaces_in (s ⨾ text p ⨾ text u ⨾ v ⨾ ss) x e = absurd (cc)
replaces_in (s ⨾ text p ⨾ _ ⨾ ss) x e = absurd (cc)
replaces_in (s ⨾ _ ⨾ ss) x e = absurd (cc)

written_replaced : (r : Occurrences) (s : Shape) (ss : Shapes) → written (apply (replacer r) (s ⨾ ss)) ≡ apply (replacer r) (written s ⨾ ss)
written_replaced occurrences.First s ss = refl
written_replaced occurrences.All s ss = refl

replaced_written : (t : Term) (r : Occurrences) (ts : List Term) (a : Term) (p u : List ℕ) → t ≡ term.Apply (replacer r) ts → Some (p, u) ≡ literals_of (seen_all ts) → a ≡ get_or ts 0 a → written (seen t) ≡ replaced r (written (seen a)) p u
replaced_written t r [] a p u e l f = absurd (cc)
replaced_written t r (b ∷ ts) a p u e l f =
    ap written (seen_apply t (replacer r) (replacer r) (b ∷ ts) e refl) ∙ written_replaced r (seen b) (seen_all ts) ∙ ap (λ ss. apply (replacer r) (written (seen b) ⨾ ss)) (replaces_in (seen_all (b ∷ ts)) (p, u) l) ∙ ap (λ x. replaced r (written (seen x)) p u) (sym f)

abbrev head_term : List Term → Term
head_term [] = term.Truth true
head_term (t ∷ ts) = t

head_got : (ts : List Term) (x : List ℕ × List ℕ) → Some x ≡ literals_of (seen_all ts) → head_term ts ≡ get_or ts 0 (head_term ts)
head_got [] x e = absurd (cc)
head_got (t ∷ ts) x e = refl

pub replaced_is_known : (m n : DraftBuilder) (t : Term) (r : Occurrences) (ts : List Term) (x : List ℕ × List ℕ) (p : TermPlace) (i : ℕ) → t ≡ term.Apply (replacer r) ts → Some x ≡ literals_of (seen_all ts) → IsSought m n (written (seen t)) p → p ≡ Known i → IsTermMet m n (written (seen t)) i
replaced_is_known m n t r ts x p i e l h q =
    let s = replaced_written t r ts (head_term ts) x.0 x.1 e l (head_got ts x l) in
    subst (λ y. IsTermMet m n y i) (sym s) (replaced_known m r (written (seen (head_term ts))) x.0 x.1 n i (subst (λ y. IsSought m n y (Known i)) s (subst (IsSought m n (written (seen t))) q h)))

pub replaced_is_new : (m a b n : DraftBuilder) (t : Term) (r : Occurrences) (ts : List Term) (c : Term) (x : List ℕ × List ℕ) (f : By) (p : TermPlace) (i v : ℕ) → t ≡ term.Apply (replacer r) ts → Some x ≡ literals_of (seen_all ts) → f ≡ replaced_by r x.0 x.1 v → c ≡ get_or ts 0 c
    → IsSought m a (written (seen t)) p → p ≡ New i → IsTermMet a b (written (seen c)) v → n ≡ record b { definitions = b.definitions ++ (i, f) ∷ [] } → IsTermMet m n (written (seen t)) i
replaced_is_new m a b n t r ts c x f p i v e l g k h q w z =
    let s = replaced_written t r ts c x.0 x.1 e l k in
    subst (λ y. IsTermMet m n y i) (sym s) (replaced_put m r (written (seen c)) x.0 x.1 a b n i v (subst (λ y. IsSought m a y (New i)) s (subst (IsSought m a (written (seen t))) q h)) w (z ∙ ap (λ y. record b { definitions = b.definitions ++ (i, y) ∷ [] }) g))

pub pieced_all : (m n : DraftBuilder) (ts : List Term) (k : ℕ) (vs ws : List ℕ) → length ts ≤ k → ArePieced m n (pieces (seen_all (take k ts))) vs ws → ArePieced m n (pieces (seen_all ts)) vs ws
pieced_all m n ts k vs ws l p = subst (λ us. ArePieced m n (pieces (seen_all us)) vs ws) (take_whole ts k l) p
  where
    take_whole : {X : Type 0} (xs : List X) (j : ℕ) → length xs ≤ j → take j xs ≡ xs
    take_whole [] zero h = refl
    take_whole [] (suc j) h = refl
    take_whole (x ∷ xs) zero h = absurd (omega arith)
    take_whole (x ∷ xs) (suc j) h = ap (λ ys. x ∷ ys) (take_whole xs j (omega arith))
