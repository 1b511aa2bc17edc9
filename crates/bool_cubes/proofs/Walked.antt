-- Marks of nodes, from a root down.
use Rattle.std.proofs.Common.{◌≡◌, refl, sym, ap, ◌∙◌, subst, ℕ, zero, suc, ◌+◌, ◌-◌, ◌<◌, ◌≤◌, ℤ, Bool, true, false, List, [], ◌∷◌, ◌++◌, length, get_or, replicate, arith, ⊎_elim, ◌⊎◌, inl, inr, length-set}
use Rattle.std.specs.Prelude.{slice_set}
use Rattle.std.proofs.lemmas.Bool.{cases_lt}
use Rattle.std.proofs.lemmas.List.{length-replicate}
use Rattle.literal_forms.specs.Literals.{SomeOf}
use Rattle.literal_forms.specs.Linear.{Step}
use Rattle.bool_cubes.specs.Marked.{HasStep, IsMarked, IsWalked, marked, own_steps}
use Rattle.bool_cubes.specs.Nodes.{IsMade, IsOfEarlier, IsPlan, made, tree_at, trees_of}
use Rattle.bool_cubes.specs.Past.{tree_steps}
use Rattle.literal_forms.specs.Past.{ArePlain, IsPast}
use Rattle.bool_cubes.specs.declared.node.CubeNode.{CubeNode}
use Rattle.bool_cubes.specs.declared.node.NodeKind.{NodeKind}
use Rattle.bool_cubes.specs.declared.node.NodeKind.TheVariants as kind
use Rattle.literal_forms.specs.PastLaws.{some_left, some_right, some_cases}

set_same : (m : List Bool) (i : ℕ) → i < length m → IsMarked (slice_set m i true) i
set_same [] i l = absurd (omega arith)
set_same (b ∷ m) zero l = refl
set_same (b ∷ m) (suc i) l = set_same m i (omega arith)

set_grows : (m : List Bool) (i j : ℕ) → IsMarked m j → IsMarked (slice_set m i true) j
set_grows [] i j h = h
set_grows (b ∷ m) zero zero h = refl
set_grows (b ∷ m) zero (suc j) h = h
set_grows (b ∷ m) (suc i) zero h = h
set_grows (b ∷ m) (suc i) (suc j) h = set_grows m i j h

set_only : (m : List Bool) (i j : ℕ) → IsMarked (slice_set m i true) j → (j ≡ i) ⊎ IsMarked m j
set_only [] i j h = inr h
set_only (b ∷ m) zero zero h = inl refl
set_only (b ∷ m) zero (suc j) h = inr h
set_only (b ∷ m) (suc i) zero h = inr h
set_only (b ∷ m) (suc i) (suc j) h = ⊎_elim (λ e. inl (ap suc e)) (λ q. inr q) (set_only m i j h)

none_marked : (n k : ℕ) → IsMarked (replicate n false) k → ⊥
none_marked zero k q = absurd (cc)
none_marked (suc n) zero q = absurd (cc)
none_marked (suc n) (suc k) q = none_marked n k q

module _ (ns : List CubeNode) (root : ℕ) where
  pub walk_init : (m n : List Bool) → m ≡ replicate (root + 1) false → n ≡ slice_set m root true → IsWalked ns root n (root + 1)
  walk_init m n none set =
      let size : length m ≡ root + 1 = ap length none ∙ length-replicate (root + 1) false in
      subst (λ x. IsWalked ns root x (root + 1)) (sym set) (record {
        size = length-set m root true ∙ size;
        inside = λ j q l r s. ⊎_elim (λ same. subst (λ k. HasStep ns k l r) same s) (λ h. absurd (none_marked (root + 1) j (subst (λ x. IsMarked x j) none h))) (set_only m root j q);
        left = λ l r s. (root, omega arith, set_same m root (omega arith), s);
      })

  pub walk_skip : (m : List Bool) (k i : ℕ) → 0 < k → i ≡ k - 1 → IsWalked ns root m k → get_or m i false ≡ false → IsWalked ns root m i
  walk_skip m k i o e h f = record {
    size = h.size;
    inside = h.inside;
    left = λ l r s. let q = h.left l r s in ⊎_elim (λ a. (q.0, a, q.2, q.3)) (λ a. absurd (let same : q.0 ≡ i = omega (arith, q.1) in let t = ap (λ j. get_or m j false) same in let u = q.2 in cc)) (cases_lt q.0 i);
  }

  pub walk_end : (m : List Bool) (k : ℕ) → k ≡ 0 → IsWalked ns root m k → ArePlain (tree_steps (tree_at ns root))
  walk_end m k e h l r s = let q = h.left l r s in let a = q.1 in absurd (omega arith)

  pub earlier : (m : List Bool) (k i : ℕ) (n : CubeNode) → IsPlan ns → root < length ns → k ≤ root + 1 → 0 < k → i ≡ k - 1 → n ≡ get_or ns i n → IsWalked ns root m k → IsOfEarlier (length m) n.kind
  earlier m k i n p l b o e g h = later n.kind (p.each i n (omega arith) g).earlier
    where
      later : (d : NodeKind) → IsOfEarlier i d → IsOfEarlier (length m) d
      later kind.Always x = x
      later kind.Never x = x
      later (kind.One z) x = x
      later (kind.Both s t) x = (omega (arith, h.size), omega (arith, h.size))
      later (kind.Either s t) x = (omega (arith, h.size), omega (arith, h.size))

  module _ (m : List Bool) (k i : ℕ) (n : CubeNode) (p : IsPlan ns) (within : root < length ns) (b : k ≤ root + 1) (o : 0 < k) (e : i ≡ k - 1) (g : n ≡ get_or ns i n) (h : IsWalked ns root m k) (on : get_or m i false ≡ true) where
    is_made : IsMade ns i n
    is_made = p.each i n (omega arith) g

    steps_are : tree_steps (tree_at ns i) ≡ tree_steps (made (trees_of ns) n.kind)
    steps_are = ap tree_steps is_made.tree

    pub walk_past : (l r : ℤ) → SomeOf (IsPast l r) (own_steps n.kind) → SomeOf (IsPast l r) (tree_steps (tree_at ns root))
    walk_past l r s = h.inside i on l r (subst (λ z. SomeOf (IsPast l r) z) (sym steps_are) (own n.kind s))
      where
        own : (d : NodeKind) → SomeOf (IsPast l r) (own_steps d) → SomeOf (IsPast l r) (tree_steps (made (trees_of ns) d))
        own kind.Always s = s
        own kind.Never s = s
        own (kind.One x) s = s
        own (kind.Both x y) s = absurd s
        own (kind.Either x y) s = absurd s

    below : (j : ℕ) → j < k → (j < i) ⊎ (j ≡ i)
    below j l = ⊎_elim (λ a. inl a) (λ a. inr (omega arith)) (cases_lt j i)

    -- a node of two, by both of which its steps are
    two : (x y : ℕ) → x < i → y < i → tree_steps (tree_at ns i) ≡ tree_steps (tree_at ns x) ++ tree_steps (tree_at ns y) → IsWalked ns root (slice_set (slice_set m x true) y true) i
    two x y lx ly q = record {
      size = length-set (slice_set m x true) y true ∙ length-set m x true ∙ h.size;
      inside = λ j z l r s. ⊎_elim
          (λ w. up l r (some_right (IsPast l r) (tree_steps (tree_at ns x)) (tree_steps (tree_at ns y)) (subst (λ v. HasStep ns v l r) w s)))
          (λ w. ⊎_elim (λ v. up l r (some_left (IsPast l r) (tree_steps (tree_at ns x)) (tree_steps (tree_at ns y)) (subst (λ v. HasStep ns v l r) v s))) (λ v. h.inside j v l r s) (set_only m x j w))
          (set_only (slice_set m x true) y j z);
      left = λ l r s. let f = h.left l r s in ⊎_elim
          (λ a. (f.0, a, set_grows (slice_set m x true) y f.0 (set_grows m x f.0 f.2), f.3))
          (λ a. elim (some_cases (IsPast l r) (tree_steps (tree_at ns x)) (tree_steps (tree_at ns y)) (subst (λ v. SomeOf (IsPast l r) v) q (subst (λ v. HasStep ns v l r) a f.3))) [
            | inl u ↦ (x, lx, set_grows (slice_set m x true) y x (set_same m x (omega (arith, h.size))), u)
            | inr u ↦ (y, ly, set_same (slice_set m x true) y (omega (arith, h.size, length-set m x true)), u)
          ])
          (below f.0 f.1);
    }
      where
        up : (l r : ℤ) → SomeOf (IsPast l r) (tree_steps (tree_at ns x) ++ tree_steps (tree_at ns y)) → HasStep ns root l r
        up l r u = h.inside i on l r (subst (λ v. SomeOf (IsPast l r) v) (sym q) u)

    -- a node whose steps are its own, all plain
    alone : (ss : List Step) → tree_steps (tree_at ns i) ≡ ss → ArePlain ss → IsWalked ns root m i
    alone ss q c = record {
      size = h.size;
      inside = h.inside;
      left = λ l r s. let f = h.left l r s in ⊎_elim (λ a. (f.0, a, f.2, f.3)) (λ a. absurd (c l r (subst (λ v. SomeOf (IsPast l r) v) q (subst (λ v. HasStep ns v l r) a f.3)))) (below f.0 f.1);
    }

    pub walk_step : (m' : List Bool) → ArePlain (own_steps n.kind) → m' ≡ marked n.kind m → IsWalked ns root m' i
    walk_step m' c f = subst (λ x. IsWalked ns root x i) (sym f) (by_kind n.kind is_made.earlier steps_are c)
      where
        by_kind : (d : NodeKind) → IsOfEarlier i d → tree_steps (tree_at ns i) ≡ tree_steps (made (trees_of ns) d) → ArePlain (own_steps d) → IsWalked ns root (marked d m) i
        by_kind kind.Always x q c = alone [] q c
        by_kind kind.Never x q c = alone [] q c
        by_kind (kind.One l) x q c = alone _ q c
        by_kind (kind.Both s t) x q c = two s t x.0 x.1 q
        by_kind (kind.Either s t) x q c = two s t x.0 x.1 q
