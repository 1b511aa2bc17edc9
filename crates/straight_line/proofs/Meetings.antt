-- String terms that are met: each place has the word of its term, and what is added holds of these words.
use Rattle.std.proofs.Common.{◌≡◌, refl, sym, ap, ◌∙◌, subst, map, Bool, true, false, ℕ, suc, ◌+◌, List, [], ◌∷◌, ◌++◌, length, Option, Some, None, arith}
use Rattle.std.specs.List.{AllByRecursion}
use Rattle.std.specs.Option.{option_map}
use Rattle.std.specs.Prelude.{if◌then◌else◌}
use Rattle.std.proofs.lemmas.Bool.{and_parts}
use Rattle.sv_list.specs.Lists.{AllByRecursion-push}
use Rattle.sv_terms.specs.declared.value.Value.TheVariants as value
use Rattle.sv_terms.specs.declared.op.Op.TheVariants as op
use Rattle.sv_terms.specs.declared.sort.Sort.{Sort}
use Rattle.sv_terms.specs.Language.{Word}
use Rattle.sv_terms.specs.Meaning.{Named, joined, val}
use Rattle.sv_terms.specs.Replacement.{replace_first, replace_all}
use Rattle.sv_terms.specs.declared.term.Term.TheVariants as term
use Rattle.literal_forms.specs.Shapes.{Shape, Shapes, text, constant, apply, end, ◌⨾◌, raw}
use Rattle.literal_forms.specs.Codes.{same}
use Rattle.literal_forms.specs.Linear.{is_string, are_strings}
use Rattle.cube_draft.proofs.Sames.{string_is}
use Rattle.flat_cubes.specs.Met.{Comparison, DraftView, Found, with_term, with_part, with_definition, place_of, known_or, literal_met, meet, meet_all}
use Rattle.flat_cubes.specs.Satisfying.{MeetsPart, ComesBy, HasValue}
use Rattle.flat_cubes.specs.declared.variable.Own.{Own}
use Rattle.flat_cubes.specs.declared.variable.Own.TheVariants as own
use Rattle.flat_cubes.specs.declared.definition.By.{By}
use Rattle.flat_cubes.specs.declared.definition.By.TheVariants as by
use Rattle.straight_line.proofs.Texts.{word, words}

pub all_popped : {X : Type 0} (P : X → Type 0) (xs : List X) (x : X) → AllByRecursion P (xs ++ x ∷ []) → AllByRecursion P xs
all_popped P [] x a = tt
all_popped P (y ∷ xs) x a = (a.0, all_popped P xs x a.1)

pub all_last : {X : Type 0} (P : X → Type 0) (xs : List X) (x : X) → AllByRecursion P (xs ++ x ∷ []) → P x
all_last P [] x a = a.0
all_last P (y ∷ xs) x a = all_last P xs x a.1

-- a comparison is true, or with false false, under the values
abbrev pub ComparisonTrue : Named → Comparison → Type 0
ComparisonTrue values c = val values (term.Apply c.op (raw c.left ∷ raw c.right ∷ [])) ≡ Some (value.Truth c.positive)

module _ (values : Named) (ws : ℕ → Word) where
  -- places from k on have the words of these terms
  abbrev pub FitsFrom : ℕ → List Shape → Type 0
  FitsFrom k [] = Unit {0}
  FitsFrom k (s ∷ ss) = (ws k ≡ word values s) × FitsFrom (suc k) ss

  fits_first : (k : ℕ) (ss : List Shape) (s : Shape) → FitsFrom k (ss ++ s ∷ []) → FitsFrom k ss
  fits_first k [] s f = tt
  fits_first k (t ∷ ss) s f = (f.0, fits_first (suc k) ss s f.1)

  fits_last : (k : ℕ) (ss : List Shape) (s : Shape) → FitsFrom k (ss ++ s ∷ []) → ws (k + length ss) ≡ word values s
  fits_last k [] s f = let e : k + 0 ≡ k = omega arith in ap ws e ∙ f.0
  fits_last k (t ∷ ss) s f = let e : k + suc (length ss) ≡ suc k + length ss = omega arith in ap ws e ∙ fits_last (suc k) ss s f.1

  -- a term that was met before
  abbrev Found_at : Shape → ℕ → List Shape → Type 0
  Found_at s k ts = (i : ℕ) → place_of s ts ≡ Some i → ws (k + i) ≡ word values s

  later_fits : (s : Shape) (k : ℕ) (ts : List Shape) → Found_at s (suc k) ts → (o : Option ℕ) → place_of s ts ≡ o → (i : ℕ) → option_map suc o ≡ Some i → ws (k + i) ≡ word values s
  later_fits s k ts f None q i e = absurd (cc)
  later_fits s k ts f (Some j) q i e =
      let g : suc j ≡ i = cc in
      let h : k + i ≡ suc k + j = omega arith in
      ap ws h ∙ f j q

  test_fits : (s t : Shape) (k : ℕ) (ts : List Shape) → is_string s ≡ true → ws k ≡ word values t → Found_at s (suc k) ts → (b : Bool) → same s t ≡ b → (i : ℕ) → (if b then Some 0 else option_map suc (place_of s ts)) ≡ Some i → ws (k + i) ≡ word values s
  test_fits s t k ts x f l true q i e =
      let g : 0 ≡ i = cc in
      let h : k + i ≡ k = omega arith in
      ap ws h ∙ f ∙ ap (word values) (sym (string_is s t x q))
  test_fits s t k ts x f l false q i e = later_fits s k ts l (place_of s ts) refl i e

  place_fits : (s : Shape) (k : ℕ) (ts : List Shape) → is_string s ≡ true → FitsFrom k ts → Found_at s k ts
  place_fits s k [] x f i e = absurd (cc)
  place_fits s k (t ∷ ts) x f i e = test_fits s t k ts x f.0 (place_fits s (suc k) ts x f.1) (same s t) refl i e

  -- the place behind all that were met
  last_fits : (ss : List Shape) (s : Shape) → FitsFrom 0 (ss ++ s ∷ []) → ws (length ss) ≡ word values s
  last_fits ss s f = let e : length ss ≡ 0 + length ss = omega arith in ap ws e ∙ fits_last 0 ss s f

  abbrev pub Fits : DraftView → Type 0
  Fits d = FitsFrom 0 d.terms

  abbrev pub PartHolds : ℕ × (Own × Bool) → Type 0
  PartHolds p = MeetsPart (ws p.0) p.1

  abbrev pub DefinitionHolds : ℕ × By → Type 0
  DefinitionHolds e = ComesBy ws (ws e.0) e.1

  abbrev pub EqualityHolds : ℕ × ℕ → Type 0
  EqualityHolds e = ws e.0 ≡ ws e.1

  abbrev pub TruthHolds : List ℕ × Bool → Type 0
  TruthHolds t = HasValue values (value.Truth t.1) t.0

  -- all that was met holds of the words and the values
  pub record Holds (d : DraftView) : Type 0 where
    pub parts : AllByRecursion PartHolds d.parts
    pub definitions : AllByRecursion DefinitionHolds d.definitions
    pub equalities : AllByRecursion EqualityHolds d.equalities
    pub comparisons : AllByRecursion (ComparisonTrue values) d.comparisons
    pub truths : AllByRecursion TruthHolds d.truths
    pub whole : d.broken ≡ false

  -- a term is met at a place: the words fit what was met before too, the place has the term's word, and
  -- what is added holds
  pub record IsMet (d : DraftView) (s : Shape) (r : Found) : Type 0 where
    pub earlier : Fits r.1 → Fits d
    pub at : Fits r.1 → ws r.0 ≡ word values s
    pub keeps : Fits r.1 → Holds d → Holds r.1
    pub back : Holds r.1 → Holds d

  pub record AreMet (d : DraftView) (ss : Shapes) (r : List ℕ × DraftView) : Type 0 where
    pub earlier : Fits r.1 → Fits d
    pub at : Fits r.1 → map ws r.0 ≡ words values ss
    pub keeps : Fits r.1 → Holds d → Holds r.1
    pub back : Holds r.1 → Holds d

  with_term_holds : (s : Shape) (d : DraftView) → Holds d → Holds (with_term s d)
  with_term_holds s d h = record { parts = h.parts; definitions = h.definitions; equalities = h.equalities; comparisons = h.comparisons; truths = h.truths; whole = h.whole }

  with_term_back : (s : Shape) (d : DraftView) → Holds (with_term s d) → Holds d
  with_term_back s d h = record { parts = h.parts; definitions = h.definitions; equalities = h.equalities; comparisons = h.comparisons; truths = h.truths; whole = h.whole }

  with_definition_holds : (i : ℕ) (b : By) (d : DraftView) → Holds d → ComesBy ws (ws i) b → Holds (with_definition i b d)
  with_definition_holds i b d h p = record { parts = h.parts; definitions = AllByRecursion-push DefinitionHolds d.definitions (i, b) h.definitions p; equalities = h.equalities; comparisons = h.comparisons; truths = h.truths; whole = h.whole }

  with_definition_back : (i : ℕ) (b : By) (d : DraftView) → Holds (with_definition i b d) → Holds d
  with_definition_back i b d h = record { parts = h.parts; definitions = all_popped DefinitionHolds d.definitions (i, b) h.definitions; equalities = h.equalities; comparisons = h.comparisons; truths = h.truths; whole = h.whole }

  pub with_part_holds : (i : ℕ) (p : Own × Bool) (d : DraftView) → Holds d → MeetsPart (ws i) p → Holds (with_part i p d)
  with_part_holds i p d h m = record { parts = AllByRecursion-push PartHolds d.parts (i, p) h.parts m; definitions = h.definitions; equalities = h.equalities; comparisons = h.comparisons; truths = h.truths; whole = h.whole }

  pub with_part_back : (i : ℕ) (p : Own × Bool) (d : DraftView) → Holds (with_part i p d) → Holds d
  with_part_back i p d h = record { parts = all_popped PartHolds d.parts (i, p) h.parts; definitions = h.definitions; equalities = h.equalities; comparisons = h.comparisons; truths = h.truths; whole = h.whole }

  -- a term that was met before, or is new
  known_met : (s : Shape) (d : DraftView) (new : Found) → is_string s ≡ true → IsMet d s new → (o : Option ℕ) → place_of s d.terms ≡ o → IsMet d s (known_or o d new)
  known_met s d new x m None e = m
  known_met s d new x m (Some i) e = record { earlier = λ f. f; at = λ f. let g : i ≡ 0 + i = omega arith in ap ws g ∙ place_fits s 0 d.terms x f i e; keeps = λ f h. h; back = λ h. h }

  constant_met : (n : List ℕ) (s : Sort) (d : DraftView) → IsMet d (constant n s) (length d.terms, with_term (constant n s) d)
  constant_met n s d = record {
    earlier = λ f. fits_first 0 d.terms (constant n s) f;
    at = λ f. last_fits d.terms (constant n s) f;
    keeps = λ f h. with_term_holds (constant n s) d h;
    back = with_term_back (constant n s) d;
  }

  text_met : (w : Word) (d : DraftView) → IsMet d (text w) (literal_met (text w) (own.Word w) d)
  text_met w d = record {
    earlier = λ f. fits_first 0 d.terms (text w) f;
    at = λ f. last_fits d.terms (text w) f;
    keeps = λ f h. with_part_holds (length d.terms) (own.Word w, true) (with_term (text w) d) (with_term_holds (text w) d h) (last_fits d.terms (text w) f);
    back = λ h. with_term_back (text w) d (with_part_back (length d.terms) (own.Word w, true) (with_term (text w) d) h);
  }

  -- a compound term, once its arguments are met
  compound_met : (t : Shape) (d : DraftView) (b : By) (e : DraftView) → (Fits e → Fits (with_term t d)) → (Fits e → Holds (with_term t d) → Holds e) → (Holds e → Holds (with_term t d)) → (Fits e → ComesBy ws (word values t) b) → IsMet d t (length d.terms, with_definition (length d.terms) b e)
  compound_met t d b e earlier keeps back comes = record {
    earlier = λ f. fits_first 0 d.terms t (earlier f);
    at = λ f. last_fits d.terms t (earlier f);
    keeps = λ f h. with_definition_holds (length d.terms) b e (keeps f (with_term_holds t d h)) (subst (λ w. ComesBy ws w b) (sym (last_fits d.terms t (earlier f))) (comes f));
    back = λ h. with_term_back t d (back (with_definition_back (length d.terms) b e h));
  }

  mutual
    pub is_met : (s : Shape) (d : DraftView) → is_string s ≡ true → IsMet d s (meet s d)
    is_met (text w) d e = text_met w d
    is_met (constant n s) d e = known_met (constant n s) d _ e (constant_met n s d) (place_of (constant n s) d.terms) refl
    is_met (apply op.Concat (s ⨾ ss)) d e =
        let t = apply op.Concat (s ⨾ ss) in
        let m = are_met (s ⨾ ss) (with_term t d) e in
        let r = meet_all (s ⨾ ss) (with_term t d) in
        known_met t d _ e (compound_met t d (by.Concat r.0) r.1 m.earlier m.keeps m.back (λ f. ap joined (sym (m.at f)))) (place_of t d.terms) refl
    is_met (apply op.Replace (s ⨾ text p ⨾ text u ⨾ end)) d e =
        let t = apply op.Replace (s ⨾ text p ⨾ text u ⨾ end) in
        let m = is_met s (with_term t d) e in
        let r = meet s (with_term t d) in
        known_met t d _ e (compound_met t d (by.First p u r.0) r.1 m.earlier m.keeps m.back (λ f. ap (replace_first p u) (sym (m.at f)))) (place_of t d.terms) refl
    is_met (apply op.ReplaceAll (s ⨾ text p ⨾ text u ⨾ end)) d e =
        let t = apply op.ReplaceAll (s ⨾ text p ⨾ text u ⨾ end) in
        let m = is_met s (with_term t d) e in
        let r = meet s (with_term t d) in
        known_met t d _ e (compound_met t d (by.All p u r.0) r.1 m.earlier m.keeps m.back (λ f. ap (replace_all p u) (sym (m.at f)))) (place_of t d.terms) refl
    is_met _ d e = absurd (cc)

    are_met : (ss : Shapes) (d : DraftView) → are_strings ss ≡ true → AreMet d ss (meet_all ss d)
    are_met end d e = record { earlier = λ f. f; at = λ f. refl; keeps = λ f h. h; back = λ h. h }
    are_met (s ⨾ ss) d e =
        let q = and_parts (is_string s) (are_strings ss) e in
        let m = is_met s d q.0 in
        let n = are_met ss (meet s d).1 q.1 in
        record {
          earlier = λ f. m.earlier (n.earlier f);
          at = λ f. λ i. m.at (n.earlier f) i ∷ n.at f i;
          keeps = λ f h. n.keeps f (m.keeps (n.earlier f) h);
          back = λ h. m.back (n.back h);
        }
