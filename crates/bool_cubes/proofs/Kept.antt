-- The atoms of the cubes of assertions have no constants but those of the assertions.
use Rattle.std.proofs.Common.{◌≡◌, refl, ap, sym, ◌∙◌, subst, Bool, true, false, not, ◌&&◌, IsTrue, List, [], ◌∷◌, map}
use Rattle.std.specs.List.{AllByRecursion, list_all}
use Rattle.std.proofs.lemmas.Bool.{and_parts}
use Rattle.sv_list.specs.Lists.{AllByRecursion-append}
use Rattle.sv_terms.specs.declared.op.Op.{Op}
use Rattle.sv_terms.specs.declared.op.Op.TheVariants as op
use Rattle.sv_terms.specs.declared.sort.Sort.{Sort}
use Rattle.sv_terms.specs.declared.sort.Sort.TheVariants as sort
use Rattle.sv_terms.specs.declared.term.Term.{Term}
use Rattle.sv_terms.specs.declared.term.Term.TheVariants as term
use Rattle.sv_terms.specs.Meaning.{Named}
use Rattle.sv_terms.specs.Sorting.{is_valued}
use Rattle.sv_terms.specs.SortingLaws.{valued-apply}
use Rattle.literal_forms.specs.declared.literal.Literal.{Literal}
use Rattle.bool_cubes.specs.Cubes.{cubes, cubes_of}
use Rattle.bool_cubes.specs.Laws.{IsAssertion, IsPassedCube, IsPassedOn, LiteralsAreValued, LiteralsPass}
use Rattle.literal_forms.specs.Mirrors.{raw-seen}
use Rattle.literal_forms.specs.Shapes.{Shape, Shapes, truth, number, text, constant, apply, member, related, opaque, end, ◌⨾◌, seen, raw, raws}
use Rattle.bool_cubes.specs.Trees.{Tree, every_of, any_of, Formula, Part, fixed, negated, trees, conjunction, disjunction, agreement, choice, exclusive, exclusive_from, implied, neighbours, pairs, comparison, equal_numbers, equal_at, equal, chain, formulas, applied, formula, parts, tree_of}
use Rattle.bool_cubes.proofs.Carried.{TreeAll, cubes_all, made_all}

module _ (p : Term → Bool) (passes : IsPassedOn p) where
  abbrev Fine : Term → Type 0
  Fine t = IsTrue (p t)

  abbrev FineLiteral : Literal → Type 0
  FineLiteral l = Fine l.atom

  abbrev FineTree : Tree → Type 0
  FineTree t = TreeAll FineLiteral t

  abbrev FineFormula : Formula → Type 0
  FineFormula f = (b : Bool) → FineTree (f b)

  fine_truth : (b : Bool) → FineFormula (fixed b)
  fine_truth true true = tt
  fine_truth true false = tt
  fine_truth false true = tt
  fine_truth false false = tt

  fine_all : (b : Bool) (fs : List Formula) → AllByRecursion FineFormula fs → FineTree (every_of (trees b fs))
  fine_all b [] a = tt
  fine_all b (f ∷ fs) a = (a.0 b, fine_all b fs a.1)

  fine_some : (b : Bool) (fs : List Formula) → AllByRecursion FineFormula fs → FineTree (any_of (trees b fs))
  fine_some b [] a = tt
  fine_some b (f ∷ fs) a = (a.0 b, fine_some b fs a.1)

  fine_conjunction : (fs : List Formula) → AllByRecursion FineFormula fs → FineFormula (conjunction fs)
  fine_conjunction fs a true = fine_all true fs a
  fine_conjunction fs a false = fine_some false fs a

  fine_disjunction : (fs : List Formula) → AllByRecursion FineFormula fs → FineFormula (disjunction fs)
  fine_disjunction fs a true = fine_some true fs a
  fine_disjunction fs a false = fine_all false fs a

  fine_negated : (f : Formula) → FineFormula f → FineFormula (negated f)
  fine_negated f h b = h (not b)

  fine_agreement : (f g : Formula) → FineFormula f → FineFormula g → FineFormula (agreement f g)
  fine_agreement f g h k true = ((h true, k true), (h false, k false))
  fine_agreement f g h k false = ((h true, k false), (h false, k true))

  fine_choice : (c f g : Formula) → FineFormula c → FineFormula f → FineFormula g → FineFormula (choice c f g)
  fine_choice c f g h k l b = ((h true, k b), (h false, l b))

  fine_exclusive_from : (f : Formula) (fs : List Formula) → FineFormula f → AllByRecursion FineFormula fs → FineFormula (exclusive_from f fs)
  fine_exclusive_from f [] h a = h
  fine_exclusive_from f (g ∷ gs) h a = fine_exclusive_from (negated (agreement f g)) gs (fine_negated (agreement f g) (fine_agreement f g h a.0)) a.1

  fine_exclusive : (fs : List Formula) → AllByRecursion FineFormula fs → FineFormula (exclusive fs)
  fine_exclusive [] a = fine_truth false
  fine_exclusive (f ∷ fs) a = fine_exclusive_from f fs a.0 a.1

  fine_implied : (fs : List Formula) → AllByRecursion FineFormula fs → FineFormula (implied fs)
  fine_implied [] a = fine_truth true
  fine_implied (f ∷ []) a = a.0
  fine_implied (f ∷ g ∷ gs) a = fine_disjunction (negated f ∷ implied (g ∷ gs) ∷ []) (fine_negated f a.0, (fine_implied (g ∷ gs) a.1, tt))

  pub record FinePart (part : Part) : Type 0 where
    pub raw : Fine part.raw
    pub formula : FineFormula part.formula

  fine_two : (o : Op) (s t : Term) → Fine s → Fine t → Fine (term.Apply o (s ∷ t ∷ []))
  fine_two o s t h k = passes.joined o s t h k

  fine_compared : (o : Op) (p q : Part) → FinePart p → FinePart q → FineFormula (comparison o p.raw q.raw)
  fine_compared o p q h k b = fine_two o p.raw q.raw h.raw k.raw

  fine_numbers : (p q : Part) → FinePart p → FinePart q → FineFormula (equal_numbers p.raw q.raw)
  fine_numbers p q h k true = fine_two op.Equal p.raw q.raw h.raw k.raw
  fine_numbers p q h k false = (fine_two op.Less p.raw q.raw h.raw k.raw, fine_two op.Greater p.raw q.raw h.raw k.raw)

  fine_equal_at : (s : Sort) (p q : Part) → FinePart p → FinePart q → FineFormula (equal_at s p q)
  fine_equal_at sort.Bool p q h k = fine_agreement p.formula q.formula h.formula k.formula
  fine_equal_at sort.Int p q h k = fine_numbers p q h k
  fine_equal_at sort.String p q h k = fine_compared op.Equal p q h k
  fine_equal_at sort.RegLan p q h k = fine_compared op.Equal p q h k

  module _ (R : Part → Part → Formula) (fine : (p q : Part) → FinePart p → FinePart q → FineFormula (R p q)) where
    fine_near : (ps : List Part) → AllByRecursion FinePart ps → AllByRecursion FineFormula (neighbours R ps)
    fine_near [] a = tt
    fine_near (p ∷ []) a = tt
    fine_near (p ∷ q ∷ ps) a = (fine p q a.0 a.1.0, fine_near (q ∷ ps) a.1)

    fine_first : (p : Part) (ps : List Part) → FinePart p → AllByRecursion FinePart ps → AllByRecursion FineFormula (map (R p) ps)
    fine_first p [] h a = tt
    fine_first p (q ∷ ps) h a = (fine p q h a.0, fine_first p ps h a.1)

    fine_pairs : (ps : List Part) → AllByRecursion FinePart ps → AllByRecursion FineFormula (pairs R ps)
    fine_pairs [] a = tt
    fine_pairs (p ∷ ps) a = AllByRecursion-append FineFormula (map (R p) ps) (pairs R ps) (fine_first p ps a.0 a.1) (fine_pairs ps a.1)

  fine_formulas : (ps : List Part) → AllByRecursion FinePart ps → AllByRecursion FineFormula (formulas ps)
  fine_formulas [] a = tt
  fine_formulas (p ∷ ps) a = (a.0.formula, fine_formulas ps a.1)

  fine_ordered : (o : Op) (ps : List Part) → AllByRecursion FinePart ps → FineFormula (chain o ps)
  fine_ordered o ps a = fine_conjunction (neighbours (λ (p : Part) (q : Part). comparison o p.raw q.raw) ps) (fine_near (λ (p : Part) (q : Part). comparison o p.raw q.raw) (λ p q h k. fine_compared o p q h k) ps a)

  fine_not : (ps : List Part) (t : Term) → Fine t → AllByRecursion FinePart ps → FineFormula (applied op.Not ps t)
  fine_not [] t h a b = h
  fine_not (p ∷ []) t h a b = a.0.formula (not b)
  fine_not (p ∷ q ∷ ps) t h a b = h

  fine_three : (ps : List Part) (t : Term) → Fine t → AllByRecursion FinePart ps → FineFormula (applied op.IfThenElse ps t)
  fine_three [] t h a b = h
  fine_three (p ∷ []) t h a b = h
  fine_three (p ∷ q ∷ []) t h a b = h
  fine_three (p ∷ q ∷ r ∷ []) t h a b = fine_choice p.formula q.formula r.formula a.0.formula a.1.0.formula a.1.1.0.formula b
  fine_three (p ∷ q ∷ r ∷ s ∷ ps) t h a b = h

  fine_applied : (o : Op) (ps : List Part) (t : Term) → Fine t → AllByRecursion FinePart ps → FineFormula (applied o ps t)
  fine_applied op.Not ps t h a = fine_not ps t h a
  fine_applied op.And ps t h a = fine_conjunction (formulas ps) (fine_formulas ps a)
  fine_applied op.Or ps t h a = fine_disjunction (formulas ps) (fine_formulas ps a)
  fine_applied op.Xor ps t h a = fine_exclusive (formulas ps) (fine_formulas ps a)
  fine_applied op.Implies ps t h a = fine_implied (formulas ps) (fine_formulas ps a)
  fine_applied op.Equal ps t h a = fine_conjunction (neighbours equal ps) (fine_near equal (λ p q h k. fine_equal_at p.of p q h k) ps a)
  fine_applied op.Distinct ps t h a = fine_conjunction (pairs (λ p q. negated (equal p q)) ps) (fine_pairs (λ p q. negated (equal p q)) (λ p q h k. fine_negated (equal p q) (fine_equal_at p.of p q h k)) ps a)
  fine_applied op.IfThenElse ps t h a = fine_three ps t h a
  fine_applied op.LessEqual ps t h a = fine_ordered op.LessEqual ps a
  fine_applied op.Less ps t h a = fine_ordered op.Less ps a
  fine_applied op.GreaterEqual ps t h a = fine_ordered op.GreaterEqual ps a
  fine_applied op.Greater ps t h a = fine_ordered op.Greater ps a
  fine_applied _ ps t h a = λ b. h

  mutual
    fine_shape : (s : Shape) → Fine (raw s) → FineFormula (formula s)
    fine_shape (truth b) h = fine_truth b
    fine_shape (apply o ss) h = fine_applied o (parts ss) (raw (apply o ss)) h (fine_parts ss (passes.parts o (raws ss) h))
    fine_shape (number n) h = λ b. h
    fine_shape (text w) h = λ b. h
    fine_shape (constant n s) h = λ b. h
    fine_shape (member s r) h = λ b. h
    fine_shape (related t s u) h = λ b. h
    fine_shape (opaque s) h = λ b. h

    fine_parts : (ss : Shapes) → IsTrue (list_all p (raws ss)) → AllByRecursion FinePart (parts ss)
    fine_parts end h = tt
    fine_parts (s ⨾ ss) h =
        let a = and_parts (p (raw s)) (list_all p (raws ss)) h in
        (record { raw = a.0; formula = fine_shape s a.0 }, fine_parts ss a.1)

  fine_tree : (ts : List Term) → IsTrue (list_all p ts) → FineTree (tree_of ts)
  fine_tree [] a = tt
  fine_tree (t ∷ ts) a =
      let h = and_parts (p t) (list_all p ts) a in
      (fine_shape (seen t) (subst Fine (sym (raw-seen t)) h.0) true, fine_tree ts h.1)

  pub passed_on : (ts : List Term) → IsTrue (list_all p ts) → AllByRecursion (IsPassedCube p) (cubes_of ts)
  passed_on ts a = made_all FineLiteral (cubes (tree_of ts)) (cubes_all FineLiteral (tree_of ts) (fine_tree ts a))

pub literals_pass : LiteralsPass
literals_pass p passes ts a = passed_on p passes ts a

-- whether each constant has a value of its sort is such a test
module _ (values : Named) where
  valued_list : (ts : List Term) → list_all (λ b. b) (map (is_valued values) ts) ≡ list_all (is_valued values) ts
  valued_list [] = refl
  valued_list (t ∷ ts) = ap (λ b. is_valued values t && b) (valued_list ts)

  valued_passes : IsPassedOn (is_valued values)
  valued_passes = record {
    joined = λ o s t h k. valued-apply values o (s ∷ t ∷ []) ∙ (λ i. h i && (k i && true));
    parts = λ o ts h. sym (valued_list ts) ∙ sym (valued-apply values o ts) ∙ h;
  }

  all_valued : (ts : List Term) → AllByRecursion (IsAssertion values) ts → IsTrue (list_all (is_valued values) ts)
  all_valued [] a = refl
  all_valued (t ∷ ts) a = (λ i. a.0.valued i && list_all (is_valued values) ts) ∙ all_valued ts a.1

pub literals_valued : LiteralsAreValued
literals_valued values ts a = passed_on (is_valued values) (valued_passes values) ts (all_valued values ts a)
