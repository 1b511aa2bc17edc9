-- The nodes of formulas of lists of terms, one term more at a time.
use Rattle.std.proofs.Common.{◌≡◌, refl, sym, ap, ap₂, ◌∙◌, subst, ℕ, zero, suc, ◌+◌, ◌-◌, ◌<◌, ◌≤◌, ◌⊎◌, inl, inr, Bool, true, false, List, [], ◌∷◌, ◌++◌, map, length, take, drop, get_or, drop-cons, arith, IfOk, Result}
use Rattle.std.proofs.lemmas.List.{drop_all, length-drop, length-take}
use Rattle.std.proofs.lemmas.Result.{IfOk-weaker}
use Rattle.sv_terms.specs.declared.op.Op.{Op}
use Rattle.sv_terms.specs.declared.op.Op.TheVariants as op
use Rattle.sv_terms.specs.declared.sort.Sort.TheVariants as sort
use Rattle.sv_terms.specs.declared.term.Term.{Term}
use Rattle.sv_terms.specs.declared.term.Term.TheVariants as term
use Rattle.bool_cubes.specs.Arguments.{first_pairs, formulas_of, part_of, parts_of}
use Rattle.literal_forms.specs.Mirrors.{raw-seen, seen-Truth, seen-Apply}
use Rattle.bool_cubes.specs.Nodes.{IsLonger, IsPlanned, HasBothTrees}
use Rattle.bool_cubes.specs.Planned.{AreNodePairs, AreBooleanSides, HasSide}
use Rattle.literal_forms.specs.Shapes.{Shape, truth, number, text, constant, apply, member, related, opaque, shapes, seen, raw, head_sort}
use Rattle.bool_cubes.specs.Trees.{Formula, Part, agreement, applied, atom, chain, comparison, choice, conjoined, conjunction, disjoined, disjunction, equal, equal_at, equal_numbers, exclusive, fixed, formula, implication, implied, negated, neighbours, pairs}
use Rattle.bool_cubes.specs.declared.node.CubeNode.{CubeNode}
use Rattle.bool_cubes.specs.declared.node.NodePair.{NodePair}
use Rattle.bool_cubes.proofs.Plans.{longer_trans, stands_longer, planned_trans, relabelled, turned}
use Rattle.bool_cubes.proofs.Lists.{exclusive_push, formulas_more}

pub planned_as : (a b : List CubeNode) (s : NodePair) (f g : Formula) → IsPlanned a b s f → f ≡ g → IsPlanned a b s g
planned_as a b s f g p e = subst (λ h. IsPlanned a b s h) e p

-- an answer with the sides of a formula has those of an equal one
pub answered_as : {E : Type 0} (a b : List CubeNode) (r : Result NodePair E) (f g : Formula) → f ≡ g → IfOk r (λ s. IsPlanned a b s f) → IfOk r (λ s. IsPlanned a b s g)
answered_as a b r f g e h = subst (λ x. IfOk r (λ s. IsPlanned a b s x)) e h

-- functions that are taken together: orders make a chain, others an atom
abbrev pub IsOrder : Op → Type 0
IsOrder o = (o ≡ op.LessEqual) ⊎ ((o ≡ op.Less) ⊎ ((o ≡ op.GreaterEqual) ⊎ (o ≡ op.Greater)))

pub order_chain : (o : Op) (ps : List Part) (t : Term) → IsOrder o → chain o ps ≡ applied o ps t
order_chain o ps t (inl e) = ap (λ x. chain x ps) e ∙ sym (ap (λ x. applied x ps t) e)
order_chain o ps t (inr (inl e)) = ap (λ x. chain x ps) e ∙ sym (ap (λ x. applied x ps t) e)
order_chain o ps t (inr (inr (inl e))) = ap (λ x. chain x ps) e ∙ sym (ap (λ x. applied x ps t) e)
order_chain o ps t (inr (inr (inr e))) = ap (λ x. chain x ps) e ∙ sym (ap (λ x. applied x ps t) e)

abbrev pub IsAtomic : Op → Type 0
IsAtomic o = (o ≡ op.Add) ⊎ ((o ≡ op.Subtract) ⊎ ((o ≡ op.Multiply) ⊎ ((o ≡ op.Length) ⊎ ((o ≡ op.Concat) ⊎ ((o ≡ op.Replace) ⊎ ((o ≡ op.ReplaceAll) ⊎ ((o ≡ op.PrefixOf) ⊎ ((o ≡ op.SuffixOf) ⊎ ((o ≡ op.Contains) ⊎ (o ≡ op.IsDigit))))))))))

pub atomic_atom : (o : Op) (ps : List Part) (t : Term) → IsAtomic o → atom t ≡ applied o ps t
atomic_atom o ps t (inl e) = sym (ap (λ x. applied x ps t) e)
atomic_atom o ps t (inr (inl e)) = sym (ap (λ x. applied x ps t) e)
atomic_atom o ps t (inr (inr (inl e))) = sym (ap (λ x. applied x ps t) e)
atomic_atom o ps t (inr (inr (inr (inl e)))) = sym (ap (λ x. applied x ps t) e)
atomic_atom o ps t (inr (inr (inr (inr (inl e))))) = sym (ap (λ x. applied x ps t) e)
atomic_atom o ps t (inr (inr (inr (inr (inr (inl e)))))) = sym (ap (λ x. applied x ps t) e)
atomic_atom o ps t (inr (inr (inr (inr (inr (inr (inl e))))))) = sym (ap (λ x. applied x ps t) e)
atomic_atom o ps t (inr (inr (inr (inr (inr (inr (inr (inl e)))))))) = sym (ap (λ x. applied x ps t) e)
atomic_atom o ps t (inr (inr (inr (inr (inr (inr (inr (inr (inl e))))))))) = sym (ap (λ x. applied x ps t) e)
atomic_atom o ps t (inr (inr (inr (inr (inr (inr (inr (inr (inr (inl e)))))))))) = sym (ap (λ x. applied x ps t) e)
atomic_atom o ps t (inr (inr (inr (inr (inr (inr (inr (inr (inr (inr e)))))))))) = sym (ap (λ x. applied x ps t) e)

-- the formula of a term, by its head
pub formula_truth : (t : Term) (b : Bool) → t ≡ term.Truth b → fixed b ≡ formula (seen t)
formula_truth t b e = sym (ap (λ (x : Term). formula (seen x)) e ∙ ap formula (seen-Truth b))

pub formula_apply : (t : Term) (o : Op) (ts : List Term) → t ≡ term.Apply o ts → applied o (parts_of ts) t ≡ formula (seen t)
formula_apply t o ts e =
    let s : seen t ≡ apply o (shapes (map seen ts)) = ap seen e ∙ seen-Apply o ts in
    let r : raw (apply o (shapes (map seen ts))) ≡ t = ap raw (sym s) ∙ raw-seen t in
    ap (applied o (parts_of ts)) (sym r) ∙ ap formula (sym s)

pub formula_other : (t : Term) → ((b : Bool) → t ≡ term.Truth b → ⊥) → ((o : Op) (ts : List Term) → t ≡ term.Apply o ts → ⊥) → atom t ≡ formula (seen t)
formula_other t h k = by_shape (seen t) (raw-seen t) ∙ refl
  where
    by_shape : (s : Shape) → raw s ≡ t → atom t ≡ formula s
    by_shape (truth b) e = absurd (h b (sym e))
    by_shape (apply o ss) e = absurd (k o _ (sym e))
    by_shape (number n) e = ap atom (sym e)
    by_shape (text w) e = ap atom (sym e)
    by_shape (constant n s) e = ap atom (sym e)
    by_shape (member s r) e = ap atom (sym e)
    by_shape (related m s u) e = ap atom (sym e)
    by_shape (opaque s) e = ap atom (sym e)

-- a list from one place on
pub front_at : (ts : List Term) (k : ℕ) (t : Term) → 0 < k → k ≤ length ts → t ≡ get_or ts (k - 1) t → drop (k - 1) ts ≡ t ∷ drop k ts
front_at ts k t o l e =
    let up : suc (k - 1) ≡ k = omega arith in
    drop-cons ts (k - 1) t (omega arith) ∙ (λ i. sym e i ∷ drop (up i) ts)

-- a function of two formulas at one that stood before, and a new one
pub joined : (J : Formula → Formula → Formula) (a b c d : List CubeNode) (x s r : NodePair) (f g : Formula) → IsPlanned a b x g → IsPlanned b c s f → ((f g : Formula) → HasBothTrees c s f → HasBothTrees c x g → IsPlanned c d r (J f g)) → IsPlanned a d r (J f g)
joined J a b c d x s r f g p q h = planned_trans a c d r (J f g) (longer_trans a b c p.longer q.longer) (h f g q.stands (stands_longer b c x g q.longer p.stands))

module _ (a b c d : List CubeNode) (x s r : NodePair) (ts : List Term) (k : ℕ) (t : Term) (o : 0 < k) (l : k ≤ length ts) (e : t ≡ get_or ts (k - 1) t) where
  pub all_step : IsPlanned a b x (conjunction (formulas_of (drop k ts))) → IsPlanned b c s (formula (seen t)) → ((f g : Formula) → HasBothTrees c s f → HasBothTrees c x g → IsPlanned c d r (conjoined f g)) → IsPlanned a d r (conjunction (formulas_of (drop (k - 1) ts)))
  all_step p q h =
      subst (λ us. IsPlanned a d r (conjunction (formulas_of us))) (sym (front_at ts k t o l e))
      (relabelled a d r (conjoined (formula (seen t)) (conjunction (formulas_of (drop k ts)))) (conjunction (formulas_of (t ∷ drop k ts))) (joined conjoined a b c d x s r (formula (seen t)) (conjunction (formulas_of (drop k ts))) p q h) refl refl)

  pub any_step : IsPlanned a b x (disjunction (formulas_of (drop k ts))) → IsPlanned b c s (formula (seen t)) → ((f g : Formula) → HasBothTrees c s f → HasBothTrees c x g → IsPlanned c d r (disjoined f g)) → IsPlanned a d r (disjunction (formulas_of (drop (k - 1) ts)))
  any_step p q h =
      subst (λ us. IsPlanned a d r (disjunction (formulas_of us))) (sym (front_at ts k t o l e))
      (relabelled a d r (disjoined (formula (seen t)) (disjunction (formulas_of (drop k ts)))) (disjunction (formulas_of (t ∷ drop k ts))) (joined disjoined a b c d x s r (formula (seen t)) (disjunction (formulas_of (drop k ts))) p q h) refl refl)

  pub implied_step : k < length ts → IsPlanned a b x (implied (formulas_of (drop k ts))) → IsPlanned b c s (formula (seen t)) → ((f g : Formula) → HasBothTrees c s f → HasBothTrees c x g → IsPlanned c d r (implication f g)) → IsPlanned a d r (implied (formulas_of (drop (k - 1) ts)))
  implied_step m p q h =
      subst (λ us. IsPlanned a d r (implied (formulas_of us))) (sym (front_at ts k t o l e))
      (planned_as a d r (implication (formula (seen t)) (implied (formulas_of (drop k ts)))) (implied (formulas_of (t ∷ drop k ts))) (joined implication a b c d x s r (formula (seen t)) (implied (formulas_of (drop k ts))) p q h) (sym (more (drop k ts) (omega (arith, length-drop k ts)))))
    where
      more : (us : List Term) → 0 < length us → implied (formulas_of (t ∷ us)) ≡ implication (formula (seen t)) (implied (formulas_of us))
      more [] z = absurd (omega arith)
      more (u ∷ us) z = refl

-- at the end of a list
pub at_end : (a b : List CubeNode) (s : NodePair) (ts : List Term) (k : ℕ) (F : List Term → Formula) → length ts ≤ k → IsPlanned a b s (F []) → IsPlanned a b s (F (drop k ts))
at_end a b s ts k F l p = subst (λ us. IsPlanned a b s (F us)) (sym (drop_all k ts l)) p

pub all_none : (a b : List CubeNode) (s : NodePair) (ts : List Term) (k : ℕ) → length ts ≤ k → IsPlanned a b s (fixed true) → IsPlanned a b s (conjunction (formulas_of (drop k ts)))
all_none a b s ts k l p = at_end a b s ts k (λ us. conjunction (formulas_of us)) l (relabelled a b s (fixed true) (conjunction []) p refl refl)

pub any_none : (a b : List CubeNode) (s : NodePair) (ts : List Term) (k : ℕ) → length ts ≤ k → IsPlanned a b s (fixed false) → IsPlanned a b s (disjunction (formulas_of (drop k ts)))
any_none a b s ts k l p = at_end a b s ts k (λ us. disjunction (formulas_of us)) l (relabelled a b s (fixed false) (disjunction []) p refl refl)

pub exclusive_none : (ts : List Term) → length ts ≡ 0 → fixed false ≡ exclusive (formulas_of ts)
exclusive_none [] l = refl
exclusive_none (t ∷ ts) l = absurd (omega arith)

pub implied_none : (ts : List Term) → length ts ≡ 0 → fixed true ≡ implied (formulas_of ts)
implied_none [] l = refl
implied_none (t ∷ ts) l = absurd (omega arith)

-- the first term of xor, and the last of =>
pub exclusive_first : (a b : List CubeNode) (s : NodePair) (ts : List Term) (t : Term) → 0 < length ts → t ≡ get_or ts 0 t → IsPlanned a b s (formula (seen t)) → IsPlanned a b s (exclusive (formulas_of (take 1 ts)))
exclusive_first a b s [] t l e p = absurd (omega arith)
exclusive_first a b s (u ∷ ts) t l e p = subst (λ x. IsPlanned a b s (formula (seen x))) e p

pub implied_last_one : (a b : List CubeNode) (s : NodePair) (ts : List Term) (k : ℕ) (t : Term) → k + 1 ≡ length ts → t ≡ get_or ts k t → IsPlanned a b s (formula (seen t)) → IsPlanned a b s (implied (formulas_of (drop k ts)))
implied_last_one a b s ts k t l e p =
    let d : drop k ts ≡ t ∷ [] = drop-cons ts k t (omega arith) ∙ (λ i. sym e i ∷ drop_all (suc k) ts (omega arith) i) in
    subst (λ us. IsPlanned a b s (implied (formulas_of us))) (sym d) p

-- one term more of xor, from the left
pub exclusive_step : (a b c d : List CubeNode) (x s r z : NodePair) (ts : List Term) (k : ℕ) (t : Term) → 0 < k → k < length ts → t ≡ get_or ts k t → IsPlanned a b x (exclusive (formulas_of (take k ts))) → IsPlanned b c s (formula (seen t)) → ((f g : Formula) → HasBothTrees c x f → HasBothTrees c s g → IsPlanned c d r (agreement f g)) → z.holding ≡ r.failing → z.failing ≡ r.holding → IsPlanned a d z (exclusive (formulas_of (take (k + 1) ts)))
exclusive_step a b c d x s r z ts k t o l e p q h m n =
    let odd = exclusive (formulas_of (take k ts)) in
    let f = formula (seen t) in
    let agreed : IsPlanned a d r (agreement (exclusive (formulas_of (take k ts))) (formula (seen t))) = planned_trans a c d r _ (longer_trans a b c p.longer q.longer) (h _ _ (stands_longer b c x _ q.longer p.stands) q.stands) in
    let some : 0 < length (formulas_of (take k ts)) = rw (formulas_length (take k ts)) (simp length-take (omega arith)) in
    planned_as a d z (negated (agreement (exclusive (formulas_of (take k ts))) (formula (seen t)))) (exclusive (formulas_of (take (k + 1) ts))) (turned a d r z _ agreed m n)
    (sym (exclusive_push (formulas_of (take k ts)) (formula (seen t)) some) ∙ ap exclusive (sym (formulas_more ts k t l e)))
  where
    formulas_length : (ts : List Term) → length (formulas_of ts) ≡ length ts
    formulas_length [] = refl
    formulas_length (t ∷ ts) = ap suc (formulas_length ts)

pub exclusive_all : (a b : List CubeNode) (s : NodePair) (ts : List Term) (k : ℕ) → length ts ≤ k → IsPlanned a b s (exclusive (formulas_of (take k ts))) → IsPlanned a b s (exclusive (formulas_of ts))
exclusive_all a b s ts k l p = subst (λ us. IsPlanned a b s (exclusive (formulas_of us))) (take_whole ts k l) p
  where
    take_whole : (ts : List Term) (k : ℕ) → length ts ≤ k → take k ts ≡ ts
    take_whole [] zero l = refl
    take_whole [] (suc k) l = refl
    take_whole (t ∷ ts) zero l = absurd (omega arith)
    take_whole (t ∷ ts) (suc k) l = ap (λ us. t ∷ us) (take_whole ts k (omega arith))

-- sides of terms
pub boolean_longer : (a b : List CubeNode) (ts : List Term) (ss : List NodePair) → IsLonger a b → AreBooleanSides a ts ss → AreBooleanSides b ts ss
boolean_longer a b ts ss p h = record { all = λ k t l e i. sides_longer ts ss (h.all k t l e i) }
  where
    sides_longer : (ts : List Term) (ss : List NodePair) → AreNodePairs a ts ss → AreNodePairs b ts ss
    sides_longer [] [] z = tt
    sides_longer [] (s ∷ ss) z = absurd z
    sides_longer (t ∷ ts) [] z = absurd z
    sides_longer (t ∷ ts) (s ∷ ss) z = (stands_longer a b s (formula (seen t)) p z.0, sides_longer ts ss z.1)

pub sides_step : (a b : List CubeNode) (ts : List Term) (ss : List NodePair) (s : NodePair) (k : ℕ) (t : Term) → IsLonger a b → k < length ts → t ≡ get_or ts k t → AreNodePairs a (take k ts) ss → HasBothTrees b s (formula (seen t)) → AreNodePairs b (take (k + 1) ts) (ss ++ s ∷ [])
sides_step a b (u ∷ ts) [] s zero t p l e z h = (subst (λ x. HasBothTrees b s (formula (seen x))) e h, tt)
sides_step a b (u ∷ ts) (v ∷ ss) s zero t p l e z h = absurd z
sides_step a b (u ∷ ts) [] s (suc k) t p l e z h = absurd z
sides_step a b (u ∷ ts) (v ∷ ss) s (suc k) t p l e z h =
    let up : suc (k + 1) ≡ suc k + 1 = omega arith in
    let r : AreNodePairs b (take (suc (k + 1)) (u ∷ ts)) ((v ∷ ss) ++ s ∷ []) = (stands_longer a b v (formula (seen u)) p z.0, sides_step a b ts ss s k t p (omega arith) e z.1 h) in
    subst (λ n. AreNodePairs b (take n (u ∷ ts)) ((v ∷ ss) ++ s ∷ [])) up r
sides_step a b [] ss s k t p l e z h = absurd (omega arith)

pub sides_at : (a : List CubeNode) (ts : List Term) (ss : List NodePair) (k : ℕ) (t : Term) → AreNodePairs a ts ss → k < length ts → t ≡ get_or ts k t → HasSide a ss k t
sides_at a [] ss k t z l e = absurd (omega arith)
sides_at a (u ∷ ts) [] k t z l e = absurd z
sides_at a (u ∷ ts) (s ∷ ss) zero t z l e = record { within = omega arith; stands = λ x. subst (λ y. HasBothTrees a s (formula (seen y))) (sym e) z.0 }
sides_at a (u ∷ ts) (s ∷ ss) (suc k) t z l e = let r = sides_at a ts ss k t z.1 (omega arith) e in record { within = let w = r.within in omega arith; stands = λ x. r.stands x }

-- neighbouring terms, from one place on
two_at : (ts : List Term) (k : ℕ) (t u : Term) → 1 < k → k ≤ length ts → t ≡ get_or ts (k - 1 - 1) t → u ≡ get_or ts (k - 1) u → (drop (k - 1 - 1) ts ≡ t ∷ u ∷ drop k ts) × (drop (k - 1) ts ≡ u ∷ drop k ts)
two_at ts k t u o l e f =
    let second = front_at ts k u (omega arith) l f in
    let first = front_at ts (k - 1) t (omega arith) (omega arith) e in
    (first ∙ ap (λ us. t ∷ us) second, second)

module _ (F : Part → Part → Formula) (a b c d : List CubeNode) (x s r : NodePair) (ts : List Term) (k : ℕ) (t u : Term) (o : 1 < k) (l : k ≤ length ts) (e : t ≡ get_or ts (k - 1 - 1) t) (i : u ≡ get_or ts (k - 1) u) where
  near_step : IsPlanned a b x (conjunction (neighbours F (parts_of (drop (k - 1) ts)))) → IsPlanned b c s (F (part_of t) (part_of u)) → ((f g : Formula) → HasBothTrees c s f → HasBothTrees c x g → IsPlanned c d r (conjoined f g)) → IsPlanned a d r (conjunction (neighbours F (parts_of (drop (k - 1 - 1) ts))))
  near_step p q h =
      let two = two_at ts k t u o l e i in
      let g = conjunction (neighbours F (parts_of (u ∷ drop k ts))) in
      let p' : IsPlanned a b x (conjunction (neighbours F (parts_of (u ∷ drop k ts)))) = subst (λ us. IsPlanned a b x (conjunction (neighbours F (parts_of us)))) two.1 p in
      subst (λ us. IsPlanned a d r (conjunction (neighbours F (parts_of us)))) (sym two.0)
      (relabelled a d r (conjoined (F (part_of t) (part_of u)) (conjunction (neighbours F (parts_of (u ∷ drop k ts))))) (conjunction (neighbours F (parts_of (t ∷ u ∷ drop k ts)))) (joined conjoined a b c d x s r (F (part_of t) (part_of u)) (conjunction (neighbours F (parts_of (u ∷ drop k ts)))) p' q h) refl refl)

module _ (a b c d : List CubeNode) (x s r : NodePair) (ts : List Term) (k : ℕ) (t u : Term) (o : 1 < k) (l : k ≤ length ts) (e : t ≡ get_or ts (k - 1 - 1) t) (i : u ≡ get_or ts (k - 1) u) where
  pub equal_step : IsPlanned a b x (conjunction (neighbours equal (parts_of (drop (k - 1) ts)))) → IsPlanned b c s (equal (part_of t) (part_of u)) → ((f g : Formula) → HasBothTrees c s f → HasBothTrees c x g → IsPlanned c d r (conjoined f g)) → IsPlanned a d r (conjunction (neighbours equal (parts_of (drop (k - 1 - 1) ts))))
  equal_step p q h = near_step equal a b c d x s r ts k t u o l e i p q h

  pub chain_step : (q : Op) → IsPlanned a b x (chain q (parts_of (drop (k - 1) ts))) → IsPlanned b c s (comparison q t u) → ((f g : Formula) → HasBothTrees c s f → HasBothTrees c x g → IsPlanned c d r (conjoined f g)) → IsPlanned a d r (chain q (parts_of (drop (k - 1 - 1) ts)))
  chain_step q p z h =
      let raws : comparison q t u ≡ comparison q (raw (seen t)) (raw (seen u)) = λ n. comparison q (sym (raw-seen t) n) (sym (raw-seen u) n) in
      near_step (λ (p : Part) (r : Part). comparison q p.raw r.raw) a b c d x s r ts k t u o l e i p (planned_as b c s (comparison q t u) (comparison q (raw (seen t)) (raw (seen u))) z raws) h

near_none : (F : Part → Part → Formula) (us : List Term) → length us ≤ 1 → neighbours F (parts_of us) ≡ []
near_none F [] l = refl
near_none F (u ∷ []) l = refl
near_none F (u ∷ v ∷ us) l = absurd (omega arith)

few_left : (ts : List Term) (k : ℕ) → length ts ≤ k → length (drop (k - 1) ts) ≤ 1
few_left ts k l = omega (arith, length-drop (k - 1) ts)

nothing_near : (F : Part → Part → Formula) (a b : List CubeNode) (s : NodePair) (ts : List Term) (k : ℕ) → length ts ≤ k → IsPlanned a b s (fixed true) → IsPlanned a b s (conjunction (neighbours F (parts_of (drop (k - 1) ts))))
nothing_near F a b s ts k l p =
    subst (λ fs. IsPlanned a b s (conjunction fs)) (sym (near_none F (drop (k - 1) ts) (few_left ts k l))) (relabelled a b s (fixed true) (conjunction []) p refl refl)

pub equal_none : (a b : List CubeNode) (s : NodePair) (ts : List Term) (k : ℕ) → length ts ≤ k → IsPlanned a b s (fixed true) → IsPlanned a b s (conjunction (neighbours equal (parts_of (drop (k - 1) ts))))
equal_none a b s ts k l p = nothing_near equal a b s ts k l p

pub chain_none : (a b : List CubeNode) (s : NodePair) (q : Op) (ts : List Term) (k : ℕ) → length ts ≤ k → IsPlanned a b s (fixed true) → IsPlanned a b s (chain q (parts_of (drop (k - 1) ts)))
chain_none a b s q ts k l p = nothing_near (λ (p : Part) (r : Part). comparison q p.raw r.raw) a b s ts k l p

-- all pairs: of one term with those behind it, and of those behind it
pub pair_step : (a b c d : List CubeNode) (x s z r : NodePair) (ts : List Term) (k : ℕ) (t u : Term) (fs : List Formula) → 0 < k → k ≤ length ts → u ≡ get_or ts (k - 1) u → IsPlanned a b x (conjunction (first_pairs t (drop k ts) ++ fs)) → IsPlanned b c s (equal (part_of t) (part_of u)) → z.holding ≡ s.failing → z.failing ≡ s.holding → ((f g : Formula) → HasBothTrees c z f → HasBothTrees c x g → IsPlanned c d r (conjoined f g)) → IsPlanned a d r (conjunction (first_pairs t (drop (k - 1) ts) ++ fs))
pair_step a b c d x s z r ts k t u fs o l e p q m n h =
    let differs = negated (equal (part_of t) (part_of u)) in
    subst (λ us. IsPlanned a d r (conjunction (first_pairs t us ++ fs))) (sym (front_at ts k u o l e))
    (relabelled a d r (conjoined (negated (equal (part_of t) (part_of u))) (conjunction (first_pairs t (drop k ts) ++ fs))) (conjunction (first_pairs t (u ∷ drop k ts) ++ fs)) (joined conjoined a b c d x z r (negated (equal (part_of t) (part_of u))) (conjunction (first_pairs t (drop k ts) ++ fs)) p (turned b c s z (equal (part_of t) (part_of u)) q m n) h) refl refl)

pub pairs_none : (a b : List CubeNode) (s : NodePair) (ts : List Term) (k : ℕ) → length ts ≤ k → IsPlanned a b s (fixed true) → IsPlanned a b s (conjunction (pairs (λ p q. negated (equal p q)) (parts_of (drop k ts))))
pairs_none a b s ts k l p = at_end a b s ts k (λ us. conjunction (pairs (λ p q. negated (equal p q)) (parts_of us))) l (relabelled a b s (fixed true) (conjunction []) p refl refl)

pub pairs_step : (a b c : List CubeNode) (x r : NodePair) (ts : List Term) (k : ℕ) → 0 < k → k ≤ length ts → IsPlanned a b x (conjunction (pairs (λ p q. negated (equal p q)) (parts_of (drop k ts)))) → ((t : Term) (fs : List Formula) → t ≡ get_or ts (k - 1) t → HasBothTrees b x (conjunction fs) → IsPlanned b c r (conjunction (first_pairs t (drop (k - 1 + 1) ts) ++ fs))) → IsPlanned a c r (conjunction (pairs (λ p q. negated (equal p q)) (parts_of (drop (k - 1) ts))))
pairs_step a b c x r [] k o l p h = absurd (omega arith)
pairs_step a b c x r (v ∷ vs) k o l p h =
    let t = get_or (v ∷ vs) (k - 1) v in
    let same : t ≡ get_or (v ∷ vs) (k - 1) t = got_again (v ∷ vs) (k - 1) v t (omega arith) in
    let up : k - 1 + 1 ≡ k = omega arith in
    let q : IsPlanned b c r (conjunction (first_pairs t (drop k (v ∷ vs)) ++ pairs (λ p q. negated (equal p q)) (parts_of (drop k (v ∷ vs))))) = subst (λ n. IsPlanned b c r (conjunction (first_pairs t (drop n (v ∷ vs)) ++ pairs (λ p q. negated (equal p q)) (parts_of (drop k (v ∷ vs)))))) up (h t (pairs (λ p q. negated (equal p q)) (parts_of (drop k (v ∷ vs)))) same p.stands) in
    subst (λ us. IsPlanned a c r (conjunction (pairs (λ p q. negated (equal p q)) (parts_of us)))) (sym (front_at (v ∷ vs) k t o l same)) (planned_trans a b c r _ p.longer q)
  where
    got_again : (ts : List Term) (k : ℕ) (d e : Term) → k < length ts → get_or ts k d ≡ get_or ts k e
    got_again [] k d e l = absurd (omega arith)
    got_again (t ∷ ts) zero d e l = refl
    got_again (t ∷ ts) (suc k) d e l = got_again ts k d e (omega arith)

-- the functions of formulas, at the arguments of a function
pub not_one : (a b : List CubeNode) (s r : NodePair) (ts : List Term) (t u : Term) → length ts ≡ 1 → u ≡ get_or ts 0 u → IsPlanned a b s (formula (seen u)) → r.holding ≡ s.failing → r.failing ≡ s.holding → IsPlanned a b r (applied op.Not (parts_of ts) t)
not_one a b s r [] t u l e p m n = absurd (omega arith)
not_one a b s r (v ∷ []) t u l e p m n = planned_as a b r _ _ (turned a b s r _ p m n) (ap (λ (x : Term). negated (formula (seen x))) e)
not_one a b s r (v ∷ w ∷ ts) t u l e p m n = absurd (omega arith)

pub not_other : (ts : List Term) (t : Term) → (length ts ≡ 1 → ⊥) → atom t ≡ applied op.Not (parts_of ts) t
not_other [] t l = refl
not_other (v ∷ []) t l = absurd (l refl)
not_other (v ∷ w ∷ ts) t l = refl

pub choice_other : (ts : List Term) (t : Term) → (length ts ≡ 3 → ⊥) → atom t ≡ applied op.IfThenElse (parts_of ts) t
choice_other [] t l = refl
choice_other (u ∷ []) t l = refl
choice_other (u ∷ v ∷ []) t l = refl
choice_other (u ∷ v ∷ w ∷ []) t l = absurd (l refl)
choice_other (u ∷ v ∷ w ∷ x ∷ ts) t l = refl

pub choice_three : {E : Type 0} (a b c d e : List CubeNode) (p q r : NodePair) (s : Result NodePair E) (ts : List Term) (t x y z : Term) → length ts ≡ 3 → x ≡ get_or ts 0 x → y ≡ get_or ts 1 y → z ≡ get_or ts 2 z → IsPlanned a b p (formula (seen x)) → IsPlanned b c q (formula (seen y)) → IsPlanned c d r (formula (seen z)) → ((f g h : Formula) → HasBothTrees d p f → HasBothTrees d q g → HasBothTrees d r h → IfOk s (λ o. IsPlanned d e o (choice f g h))) → IfOk s (λ o. IsPlanned a e o (applied op.IfThenElse (parts_of ts) t))
choice_three a b c d e p q r s (u ∷ v ∷ w ∷ []) t x y z l i j k f g h m =
    let cd = longer_trans b c d g.longer h.longer in
    let chosen = m (formula (seen x)) (formula (seen y)) (formula (seen z)) (stands_longer b d p _ cd f.stands) (stands_longer c d q _ h.longer g.stands) h.stands in
    let same : choice (formula (seen x)) (formula (seen y)) (formula (seen z)) ≡ choice (formula (seen u)) (formula (seen v)) (formula (seen w)) = λ n. choice (formula (seen (i n))) (formula (seen (j n))) (formula (seen (k n))) in
    IfOk-weaker s (λ o. IsPlanned d e o (choice (formula (seen x)) (formula (seen y)) (formula (seen z)))) (λ o. IsPlanned a e o (choice (formula (seen u)) (formula (seen v)) (formula (seen w)))) (λ o q. planned_as a e o _ _ (planned_trans a d e o _ (longer_trans a b d f.longer cd) q) same) chosen
choice_three a b c d e p q r s [] t x y z l i j k f g h m = absurd (omega arith)
choice_three a b c d e p q r s (u ∷ []) t x y z l i j k f g h m = absurd (omega arith)
choice_three a b c d e p q r s (u ∷ v ∷ []) t x y z l i j k f g h m = absurd (omega arith)
choice_three a b c d e p q r s (u ∷ v ∷ w ∷ o ∷ ts) t x y z l i j k f g h m = absurd (omega arith)

-- the sides of two terms at places
pub side_left : (a : List CubeNode) (ts : List Term) (ss : List NodePair) (i : ℕ) (t : Term) → AreBooleanSides a ts ss → i < length ts → t ≡ get_or ts i t → head_sort (seen t) ≡ sort.Bool → HasSide a ss i t
side_left a ts ss i t h l e b = sides_at a ts ss i t (h.all i t l e b) l e

pub side_right : (a : List CubeNode) (ts : List Term) (ss : List NodePair) (i j : ℕ) (t u : Term) → AreBooleanSides a ts ss → i < length ts → t ≡ get_or ts i t → j < length ts → u ≡ get_or ts j u → head_sort (seen t) ≡ sort.Bool → HasSide a ss j u
side_right a ts ss i j t u h l e m f b = sides_at a ts ss j u (h.all i t l e b) m f

-- the equality of two terms, by the sort of the first
pub equal_boolean : (t u : Term) → head_sort (seen t) ≡ sort.Bool → agreement (formula (seen t)) (formula (seen u)) ≡ equal (part_of t) (part_of u)
equal_boolean t u k = ap (λ z. equal_at z (part_of t) (part_of u)) (sym k)

pub equal_whole : (t u : Term) → head_sort (seen t) ≡ sort.Int → equal_numbers t u ≡ equal (part_of t) (part_of u)
equal_whole t u k = ap₂ equal_numbers (sym (raw-seen t)) (sym (raw-seen u)) ∙ ap (λ z. equal_at z (part_of t) (part_of u)) (sym k)

pub equal_text : (t u : Term) → head_sort (seen t) ≡ sort.String → comparison op.Equal t u ≡ equal (part_of t) (part_of u)
equal_text t u k = ap₂ (comparison op.Equal) (sym (raw-seen t)) (sym (raw-seen u)) ∙ ap (λ z. equal_at z (part_of t) (part_of u)) (sym k)

pub equal_language : (t u : Term) → head_sort (seen t) ≡ sort.RegLan → comparison op.Equal t u ≡ equal (part_of t) (part_of u)
equal_language t u k = ap₂ (comparison op.Equal) (sym (raw-seen t)) (sym (raw-seen u)) ∙ ap (λ z. equal_at z (part_of t) (part_of u)) (sym k)

pub same_got : (ts : List Term) (i : ℕ) (t x : Term) → i < length ts → t ≡ get_or ts i t → x ≡ get_or ts i x → x ≡ t
same_got ts i t x l e f = f ∙ got_any ts i x t l ∙ sym e
  where
    got_any : (ts : List Term) (i : ℕ) (d e : Term) → i < length ts → get_or ts i d ≡ get_or ts i e
    got_any [] i d e l = absurd (omega arith)
    got_any (t ∷ ts) zero d e l = refl
    got_any (t ∷ ts) (suc i) d e l = got_any ts i d e (omega arith)
