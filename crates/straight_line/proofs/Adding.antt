-- What one more literal adds holds exactly where it held before and the literal says so.
use Rattle.std.proofs.Common.{◌≡◌, refl, sym, ◌∙◌, subst, Bool, true, false, not, ◌&&◌, ◌||◌, ℕ, List, [], ◌∷◌, ◌++◌, Option, Some, None, nat_eq, cond}
use Rattle.std.specs.Prelude.{if◌then◌else◌}
use Rattle.std.specs.List.{AllByRecursion, list_any}
use Rattle.std.specs.Map.{lookup}
use Rattle.std.specs.Cmp.Lexicographic.{pointwise, same_text}
use Rattle.std.proofs.lemmas.Bool.{false≢true, and_parts}
use Rattle.sv_list.specs.Lists.{AllByRecursion-push}
use Rattle.sv_terms.specs.declared.value.Value.TheVariants as value
use Rattle.sv_terms.specs.declared.op.Op.TheVariants as op
use Rattle.sv_terms.specs.declared.transducer.Transducer.{Transducer}
use Rattle.sv_terms.specs.Language.{Word}
use Rattle.sv_terms.specs.Meaning.{Named, same_truth}
use Rattle.sv_terms.specs.Transduction.{Pairs}
use Rattle.literal_forms.specs.Shapes.{Shape, Shapes, number, text, constant, apply, end, ◌⨾◌}
use Rattle.literal_forms.specs.Codes.{same}
use Rattle.literal_forms.specs.Linear.{is_string, is_linear, are_linear, written, is_product, linears}
use Rattle.flat_cubes.specs.Met.{Comparison, DraftView, Found, meet, with_integer, registered, with_register, meet_unknowns, meet_all_unknowns, with_comparison, with_value, part_met, equal_met, through_met, add}
use Rattle.flat_cubes.specs.Said.{Said, value_is, compares, holds, has_part, are_one, written_by, outside}
use Rattle.flat_cubes.specs.Satisfying.{MeetsPart, HasValue}
use Rattle.flat_cubes.specs.declared.variable.Own.{Own}
use Rattle.flat_cubes.specs.declared.definition.By.TheVariants as by
use Rattle.cube_draft.proofs.Strings.{string_written}
use Rattle.cube_draft.proofs.Proper.{IsFormedSaid}
use Rattle.straight_line.proofs.Texts.{word, word_written}
use Rattle.straight_line.proofs.Meetings.{all_popped, all_last, ComparisonTrue, Fits, Holds, PartHolds, DefinitionHolds, EqualityHolds, TruthHolds, IsMet, is_met, with_part_holds, with_part_back}

module _ (values : Named) (ws : ℕ → Word) where
  -- what is met of a term of sort Int: its lengths and its constants
  pub record IsKept (d e : DraftView) : Type 0 where
    pub earlier : Fits values ws e → Fits values ws d
    pub keeps : Fits values ws e → Holds values ws d → Holds values ws e
    pub back : Holds values ws e → Holds values ws d

  kept_same : (d : DraftView) → IsKept d d
  kept_same d = record { earlier = λ f. f; keeps = λ f h. h; back = λ h. h }

  kept_then : (d e f : DraftView) → IsKept d e → IsKept e f → IsKept d f
  kept_then d e f k l = record { earlier = λ x. k.earlier (l.earlier x); keeps = λ x h. l.keeps x (k.keeps (l.earlier x) h); back = λ h. k.back (l.back h) }

  -- a term that was met, with its word
  met_written : (s : Shape) (d : DraftView) → is_string s ≡ true → IsMet values ws d (written s) (meet (written s) d)
  met_written s d e = is_met values ws (written s) d (string_written s e)

  integer_kept : (n : List ℕ) (d : DraftView) → IsKept d (with_integer n d)
  integer_kept n d = by_test (list_any (pointwise nat_eq n) d.integers)
    where
      by_test : (b : Bool) → IsKept d (if b then d else record d { integers = d.integers ++ n ∷ [] })
      by_test true = kept_same d
      by_test false = record {
        earlier = λ f. f;
        keeps = λ f h. record { parts = h.parts; definitions = h.definitions; equalities = h.equalities; comparisons = h.comparisons; truths = h.truths; whole = h.whole };
        back = λ h. record { parts = h.parts; definitions = h.definitions; equalities = h.equalities; comparisons = h.comparisons; truths = h.truths; whole = h.whole };
      }

  registered_kept : (s : Shape) (d : DraftView) (r : Found) → IsMet values ws d s r → IsKept d (registered s r)
  registered_kept s d r m = record {
    earlier = λ f. m.earlier f;
    keeps = λ f h. let k = m.keeps f h in record { parts = k.parts; definitions = k.definitions; equalities = k.equalities; comparisons = k.comparisons; truths = k.truths; whole = k.whole };
    back = λ h. m.back (record { parts = h.parts; definitions = h.definitions; equalities = h.equalities; comparisons = h.comparisons; truths = h.truths; whole = h.whole });
  }

  register_kept : (s : Shape) (d : DraftView) → is_string s ≡ true → IsKept d (with_register (written s) d)
  register_kept s d e = by_test (list_any (λ (r : Shape × ℕ). same (written s) r.0) d.registers)
    where
      by_test : (b : Bool) → IsKept d (if b then d else registered (written s) (meet (written s) d))
      by_test true = kept_same d
      by_test false = registered_kept (written s) d (meet (written s) d) (met_written s d e)

  mutual
    pub unknowns_kept : (s : Shape) (d : DraftView) → is_linear s ≡ true → IsKept d (meet_unknowns s d)
    unknowns_kept (number n) d e = kept_same d
    unknowns_kept (constant n s) d e = integer_kept n d
    unknowns_kept (apply op.Length (text w ⨾ end)) d e = kept_same d
    unknowns_kept (apply op.Length (constant n s ⨾ end)) d e = register_kept (constant n s) d e
    unknowns_kept (apply op.Length (apply o ss ⨾ end)) d e = register_kept (apply o ss) d e
    unknowns_kept (apply op.Add (s ⨾ ss)) d e = all_unknowns_kept (s ⨾ ss) d e
    unknowns_kept (apply op.Subtract (s ⨾ ss)) d e = all_unknowns_kept (s ⨾ ss) d e
    unknowns_kept (apply op.Multiply (s ⨾ ss)) d e = all_unknowns_kept (s ⨾ ss) d (and_parts (is_linear s && are_linear ss) (is_product (linears (s ⨾ ss))) e).0
    unknowns_kept (apply op.Length (s ⨾ t ⨾ ss)) d e = absurd (false≢true e)
    unknowns_kept (apply op.Length (s ⨾ end)) d e = absurd (false≢true e)
    unknowns_kept _ d e = absurd (false≢true e)

    all_unknowns_kept : (ss : Shapes) (d : DraftView) → are_linear ss ≡ true → IsKept d (meet_all_unknowns ss d)
    all_unknowns_kept end d e = kept_same d
    all_unknowns_kept (s ⨾ ss) d e =
        let h = and_parts (is_linear s) (are_linear ss) e in
        kept_then d (meet_unknowns s d) (meet_all_unknowns ss (meet_unknowns s d)) (unknowns_kept s d h.0) (all_unknowns_kept ss (meet_unknowns s d) h.1)

  -- what a literal of a written kind says
  abbrev pub Truth : Said → Type 0
  Truth (value_is n b) = HasValue values (value.Truth b) n
  Truth (compares o s t b) = ComparisonTrue values (record { op = o; left = s; right = t; positive = b })
  Truth (holds b) = b ≡ true
  Truth (has_part s o b) = MeetsPart (word values s) (o, b)
  Truth (are_one s t) = word values s ≡ word values t
  Truth (written_by m s t) = Pairs m (word values s) (word values t)
  Truth outside = ⊥

  pub record IsAdded (x : Said) (d e : DraftView) : Type 0 where
    pub earlier : Fits values ws e → Fits values ws d
    pub keeps : Fits values ws e → Truth x → Holds values ws d → Holds values ws e
    pub tells : Fits values ws e → Holds values ws e → Truth x
    pub back : Holds values ws e → Holds values ws d

  part_added : (s : Shape) (o : Own) (b : Bool) (d : DraftView) (r : Found) → IsMet values ws d (written s) r → IsAdded (has_part s o b) d (part_met (o, b) r)
  part_added s o b d r m =
      let same : Fits values ws r.1 → ws r.0 ≡ word values s = λ f. m.at f ∙ word_written values s in
      record {
        earlier = m.earlier;
        keeps = λ f t h. with_part_holds values ws r.0 (o, b) r.1 (m.keeps f h) (subst (λ w. MeetsPart w (o, b)) (sym (same f)) t);
        tells = λ f h. subst (λ w. MeetsPart w (o, b)) (same f) (all_last (PartHolds values ws) r.1.parts (r.0, (o, b)) h.parts);
        back = λ h. m.back (with_part_back values ws r.0 (o, b) r.1 h);
      }

  one_added : (s t : Shape) (d : DraftView) (q r : Found) → IsMet values ws d (written s) q → IsMet values ws q.1 (written t) r → IsAdded (are_one s t) d (equal_met q.0 r)
  one_added s t d q r m n =
      let left : Fits values ws r.1 → ws q.0 ≡ word values s = λ f. m.at (n.earlier f) ∙ word_written values s in
      let right : Fits values ws r.1 → ws r.0 ≡ word values t = λ f. n.at f ∙ word_written values t in
      record {
        earlier = λ f. m.earlier (n.earlier f);
        keeps = λ f x h. let k = n.keeps f (m.keeps (n.earlier f) h) in record { parts = k.parts; definitions = k.definitions; equalities = AllByRecursion-push (EqualityHolds values ws) r.1.equalities (q.0, r.0) k.equalities (left f ∙ x ∙ sym (right f)); comparisons = k.comparisons; truths = k.truths; whole = k.whole };
        tells = λ f h. sym (left f) ∙ all_last (EqualityHolds values ws) r.1.equalities (q.0, r.0) h.equalities ∙ right f;
        back = λ h. m.back (n.back (record { parts = h.parts; definitions = h.definitions; equalities = all_popped (EqualityHolds values ws) r.1.equalities (q.0, r.0) h.equalities; comparisons = h.comparisons; truths = h.truths; whole = h.whole }));
      }

  pair_added : (t : Transducer) (s u : Shape) (d : DraftView) (q r : Found) → IsMet values ws d (written s) q → IsMet values ws q.1 (written u) r → IsAdded (written_by t s u) d (through_met (by.Through t q.0) r)
  pair_added t s u d q r m n =
      let left : Fits values ws r.1 → ws q.0 ≡ word values s = λ f. m.at (n.earlier f) ∙ word_written values s in
      let right : Fits values ws r.1 → ws r.0 ≡ word values u = λ f. n.at f ∙ word_written values u in
      record {
        earlier = λ f. m.earlier (n.earlier f);
        keeps = λ f x h. let k = n.keeps f (m.keeps (n.earlier f) h) in
            let y : Pairs t (ws q.0) (ws r.0) = subst (λ w. Pairs t (ws q.0) w) (sym (right f)) (subst (λ w. Pairs t w (word values u)) (sym (left f)) x) in
            record { parts = k.parts; definitions = AllByRecursion-push (DefinitionHolds values ws) r.1.definitions (r.0, by.Through t q.0) k.definitions y; equalities = k.equalities; comparisons = k.comparisons; truths = k.truths; whole = k.whole };
        tells = λ f h. subst (λ w. Pairs t (word values s) w) (right f) (subst (λ w. Pairs t w (ws r.0)) (left f) (all_last (DefinitionHolds values ws) r.1.definitions (r.0, by.Through t q.0) h.definitions));
        back = λ h. m.back (n.back (record { parts = h.parts; definitions = all_popped (DefinitionHolds values ws) r.1.definitions (r.0, by.Through t q.0) h.definitions; equalities = h.equalities; comparisons = h.comparisons; truths = h.truths; whole = h.whole }));
      }

  comparison_added : (c : Comparison) (d e : DraftView) → IsKept d e → IsAdded (compares c.op c.left c.right c.positive) d (with_comparison c e)
  comparison_added c d e k = record {
    earlier = k.earlier;
    keeps = λ f t h. let l = k.keeps f h in record { parts = l.parts; definitions = l.definitions; equalities = l.equalities; comparisons = AllByRecursion-push (ComparisonTrue values) e.comparisons c l.comparisons t; truths = l.truths; whole = l.whole };
    tells = λ f h. all_last (ComparisonTrue values) e.comparisons c h.comparisons;
    back = λ h. k.back (record { parts = h.parts; definitions = h.definitions; equalities = h.equalities; comparisons = all_popped (ComparisonTrue values) e.comparisons c h.comparisons; truths = h.truths; whole = h.whole });
  }

  -- a Bool constant that has a value already
  abbrev Valued_by : List ℕ → List (List ℕ × Bool) → Type 0
  Valued_by n ts = (c : Bool) → lookup (pointwise nat_eq n) ts ≡ Some c → HasValue values (value.Truth c) n

  test_found : (n : List ℕ) (t : List ℕ × Bool) (ts : List (List ℕ × Bool)) → TruthHolds values ws t → Valued_by n ts → (b : Bool) → pointwise nat_eq n t.0 ≡ b → (c : Bool) → cond b (Some t.1) (lookup (pointwise nat_eq n) ts) ≡ Some c → HasValue values (value.Truth c) n
  test_found n t ts h k true q c e =
      let f : t.1 ≡ c = cc in
      let g : t.0 ≡ n = sym (same_text n t.0 (sym q)) in
      subst (λ d. HasValue values (value.Truth d) n) f (subst (HasValue values (value.Truth t.1)) g h)
  test_found n t ts h k false q c e = k c e

  value_found : (n : List ℕ) (ts : List (List ℕ × Bool)) → AllByRecursion (TruthHolds values ws) ts → Valued_by n ts
  value_found n [] a c e = absurd (cc)
  value_found n (t ∷ ts) a c e = test_found n t ts a.0 (value_found n ts a.1) (pointwise nat_eq n t.0) refl c e

  one_value : (n : List ℕ) (b c : Bool) → HasValue values (value.Truth b) n → HasValue values (value.Truth c) n → b ≡ c
  one_value n b c f g = let e : Some (value.Truth b) ≡ Some (value.Truth c) = sym f ∙ g in cc

  same_self : (b : Bool) → same_truth b b ≡ true
  same_self true = refl
  same_self false = refl

  same_true : (b c : Bool) → same_truth b c ≡ true → b ≡ c
  same_true true true e = refl
  same_true true false e = absurd (cc)
  same_true false true e = absurd (cc)
  same_true false false e = refl

  or_false : (a b : Bool) → (a || not b) ≡ false → (a ≡ false) × (b ≡ true)
  or_false true b e = absurd (cc)
  or_false false true e = (refl, refl)
  or_false false false e = absurd (cc)

  -- the same cube with this fact beside it
  broken_holds : (d : DraftView) (b : Bool) → Holds values ws d → b ≡ true → Holds values ws (record d { broken = d.broken || not b })
  broken_holds d b h e = record { parts = h.parts; definitions = h.definitions; equalities = h.equalities; comparisons = h.comparisons; truths = h.truths; whole = (λ i. h.whole i || not (e i)) }

  broken_back : (d : DraftView) (b : Bool) → Holds values ws (record d { broken = d.broken || not b }) → Holds values ws d
  broken_back d b h = record { parts = h.parts; definitions = h.definitions; equalities = h.equalities; comparisons = h.comparisons; truths = h.truths; whole = (or_false d.broken b h.whole).0 }

  truth_added : (n : List ℕ) (b : Bool) (d : DraftView) (o : Option Bool) → lookup (pointwise nat_eq n) d.truths ≡ o → IsAdded (value_is n b) d (with_value o n b d)
  truth_added n b d None e = record {
    earlier = λ f. f;
    keeps = λ f t h. record { parts = h.parts; definitions = h.definitions; equalities = h.equalities; comparisons = h.comparisons; truths = AllByRecursion-push (TruthHolds values ws) d.truths (n, b) h.truths t; whole = h.whole };
    tells = λ f h. all_last (TruthHolds values ws) d.truths (n, b) h.truths;
    back = λ h. record { parts = h.parts; definitions = h.definitions; equalities = h.equalities; comparisons = h.comparisons; truths = all_popped (TruthHolds values ws) d.truths (n, b) h.truths; whole = h.whole };
  }
  truth_added n b d (Some c) e = record {
    earlier = λ f. f;
    keeps = λ f t h. broken_holds d (same_truth b c) h (subst (λ x. same_truth b x ≡ true) (one_value n b c t (value_found n d.truths h.truths c e)) (same_self b));
    tells = λ f h. subst (λ x. HasValue values (value.Truth x) n) (sym (same_true b c (or_false d.broken (same_truth b c) h.whole).1)) (value_found n d.truths h.truths c e);
    back = broken_back d (same_truth b c);
  }

  fact_added : (b : Bool) (d : DraftView) → IsAdded (holds b) d (record d { broken = d.broken || not b })
  fact_added b d = record {
    earlier = λ f. f;
    keeps = λ f t h. broken_holds d b h t;
    tells = λ f h. (or_false d.broken b h.whole).1;
    back = broken_back d b;
  }

  -- one more literal
  pub is_added : (x : Said) (d : DraftView) → IsFormedSaid x → IsAdded x d (add x d)
  is_added (value_is n b) d e = truth_added n b d (lookup (pointwise nat_eq n) d.truths) refl
  is_added (compares o s t b) d e = comparison_added (record { op = o; left = s; right = t; positive = b }) d (meet_unknowns t (meet_unknowns s d)) (kept_then d (meet_unknowns s d) (meet_unknowns t (meet_unknowns s d)) (unknowns_kept s d e.0) (unknowns_kept t (meet_unknowns s d) e.1))
  is_added (holds b) d e = fact_added b d
  is_added (has_part s o b) d e = part_added s o b d (meet (written s) d) (met_written s d e)
  is_added (are_one s t) d e = one_added s t d (meet (written s) d) (meet (written t) (meet (written s) d).1) (met_written s d e.0) (met_written t (meet (written s) d).1 e.1)
  is_added (written_by m s u) d e = pair_added m s u d (meet (written s) d) (meet (written u) (meet (written s) d).1) (met_written s d e.0) (met_written u (meet (written s) d).1 e.1)
  is_added outside d e = absurd e
