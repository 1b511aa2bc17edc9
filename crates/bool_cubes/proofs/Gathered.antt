-- The literals of a cube, gathered from the root down.
use Rattle.std.proofs.Common.{append-nil, ◌≡◌, refl, sym, ap, ◌∙◌, subst, ℕ, zero, suc, ◌+◌, ◌*◌, ◌-◌, ◌/◌, ◌%◌, ◌<◌, ◌≤◌, Bool, true, false, List, [], ◌∷◌, ◌++◌, map, length, drop, get_or, slice_get, Some, arith, ⊎_elim}
use Rattle.std.specs.Prelude.{Err, nat_lt, min, if◌then◌else◌}
use Rattle.std.proofs.lemmas.Bool.{cases_lt}
use Rattle.std.proofs.lemmas.List.{length-map, drop_all}
use Rattle.std.proofs.Math.Nat.{mul-le-mul_left, mul_comm}
use Rattle.bool_cubes.specs.Cubes.{count, cube, cubes}
use Rattle.bool_cubes.specs.Arguments.{formulas_of}
use Rattle.bool_cubes.specs.Given.{IsGiving}
use borrow.Author.Tests.{ltb-true, ltb-false}
use Rattle.bool_cubes.specs.Nodes.{IsMade, IsOfEarlier, IsPlan, IsPlanned, made, tree_at, trees_of}
use Rattle.bool_cubes.specs.Picking.{cube_at}
use Rattle.bool_cubes.specs.Planned.{IsRootOf}
use Rattle.bool_cubes.specs.Refusing.{IsRefusedBySteps, count_of, fault_of, most_cubes, most_numbered}
use Rattle.sv_linear.specs.declared.fault.FormFault.{FormFault}
use Rattle.sv_linear.specs.declared.fault.FormFault.TheVariants as form
use Rattle.sv_terms.specs.CutOff.{cut_off}
use Rattle.bool_cubes.specs.Past.{tree_steps}
use Rattle.literal_forms.specs.Past.{IsPlainExactly}
use Rattle.bool_cubes.specs.declared.fault.CubeFault.{CubeFault}
use Rattle.bool_cubes.specs.Trees.{both, either, conjunction, every_of, formula, tree_of, trees}
use Rattle.literal_forms.specs.Shapes.{seen}
use Rattle.literal_forms.specs.declared.literal.Cube.{Cube}
use Rattle.literal_forms.specs.declared.literal.Literal.{Literal}
use Rattle.bool_cubes.specs.declared.node.CubeNode.{CubeNode}
use Rattle.bool_cubes.specs.declared.node.NodeKind.{NodeKind}
use Rattle.bool_cubes.specs.declared.node.NodeKind.TheVariants as kind
use Rattle.bool_cubes.specs.declared.node.NodePair.{NodePair}
use Rattle.sv_terms.specs.declared.term.Term.{Term}
use Rattle.bool_cubes.proofs.Choosing.{cubes_length}
use Rattle.bool_cubes.proofs.Picked.{digit_below, picked}

-- a number of a cube of a node's tree, each of whose cubes has one
pub record IsNumberIn (ns : List CubeNode) (k n : ℕ) : Type 0 where
  pub within : k < length ns
  pub below : n < count (tree_at ns k)
  pub most : count (tree_at ns k) ≤ most_numbered

uncut : (n : ℕ) → n ≤ most_numbered → cut_off n ≡ n
uncut n h = omega arith

factors : (a b n : ℕ) → n < a * b → (0 < b) × (n / b < a) × (n % b < b) × (a ≤ a * b) × (b ≤ a * b)
factors a b n h =
    let d = digit_below n a b h in
    let z = d.0 in
    let first : a ≤ b * a = omega (arith, mul-le-mul_left a (one_up b d.0)) in
    let l = d.1 in
    let second : b ≤ a * b = omega (arith, mul-le-mul_left b (one_up a (omega arith))) in
    (d.0, d.1, omega arith, omega (arith, mul_comm a b), second)
  where
    one_up : (x : ℕ) → 0 < x → 1 ≤ x
    one_up x h = omega arith

module _ (ns : List CubeNode) (at : ℕ) (n : CubeNode) (left : ℕ) (p : IsPlan ns) (d : IsNumberIn ns at left) (g : n ≡ get_or ns at n) where
  is_made : IsMade ns at n
  is_made = p.each at n d.within g

  tree_is : (m : NodeKind) → n.kind ≡ m → tree_at ns at ≡ made (trees_of ns) m
  tree_is m e = is_made.tree ∙ ap (made (trees_of ns)) e

  pub always_part : n.kind ≡ kind.Always → (ls : List Literal) → ls ≡ ls ++ cube_at (tree_at ns at) left
  always_part e ls = sym (append-nil ls) ∙ ap (λ t. ls ++ cube_at t left) (sym (tree_is kind.Always e))

  pub never_part : {C : Type 0} → n.kind ≡ kind.Never → C
  never_part e = let z = ap count (tree_is kind.Never e) in let b = d.below in absurd (omega arith)

  pub one_part : (l : Literal) → n.kind ≡ kind.One l → cube_at (tree_at ns at) left ≡ l ∷ []
  one_part l e = ap (λ t. cube_at t left) (tree_is (kind.One l) e)

  pub stored : (k : ℕ) (m : CubeNode) → k < length ns → m ≡ get_or ns k m → count (tree_at ns k) ≤ most_numbered → m.cubes ≡ count (tree_at ns k)
  stored k m l e h = (p.each k m l e).cubes ∙ uncut (count (tree_at ns k)) h

-- a node of both, and one of either
pub record AreBoth (ns : List CubeNode) (at left i j : ℕ) (m : CubeNode) : Type 0 where
  pub some : 0 < m.cubes
  pub first_before : i < at
  pub second_before : j < at
  pub first : IsNumberIn ns i (left / m.cubes)
  pub second : IsNumberIn ns j (left % m.cubes)
  pub whole : cube_at (tree_at ns at) left ≡ cube_at (tree_at ns i) (left / m.cubes) ++ cube_at (tree_at ns j) (left % m.cubes)

pub record AreEither (ns : List CubeNode) (at left i j : ℕ) (m : CubeNode) : Type 0 where
  pub first_before : i < at
  pub second_before : j < at
  pub first : left < m.cubes → IsNumberIn ns i left
  pub second : m.cubes ≤ left → IsNumberIn ns j (left - m.cubes)
  pub first_is : left < m.cubes → cube_at (tree_at ns at) left ≡ cube_at (tree_at ns i) left
  pub second_is : m.cubes ≤ left → cube_at (tree_at ns at) left ≡ cube_at (tree_at ns j) (left - m.cubes)

abbrev pub choose : Bool → List Literal → List Literal → List Literal
choose b x y = if b then x else y

pub chosen_first : (k c : ℕ) (x y : List Literal) → k < c → choose (nat_lt k c) x y ≡ x
chosen_first k c x y h = by_test (nat_lt k c) refl
  where
    by_test : (b : Bool) → nat_lt k c ≡ b → choose (nat_lt k c) x y ≡ x
    by_test true e = ap (λ b. choose b x y) e
    by_test false e = absurd (let l = ltb-false k c e in omega arith)

pub chosen_second : (k c : ℕ) (x y : List Literal) → c ≤ k → choose (nat_lt k c) x y ≡ y
chosen_second k c x y h = by_test (nat_lt k c) refl
  where
    by_test : (b : Bool) → nat_lt k c ≡ b → choose (nat_lt k c) x y ≡ y
    by_test false e = ap (λ b. choose b x y) e
    by_test true e = absurd (let l = ltb-true k c e in omega arith)

module _ (ns : List CubeNode) (at : ℕ) (n : CubeNode) (left i j : ℕ) (p : IsPlan ns) (d : IsNumberIn ns at left) (g : n ≡ get_or ns at n) where
  pub both_parts : (m : CubeNode) → n.kind ≡ kind.Both i j → m ≡ get_or ns j m → AreBoth ns at left i j m
  both_parts m e h =
      let t = tree_at ns i in
      let u = tree_at ns j in
      let whole : tree_at ns at ≡ both (tree_at ns i) (tree_at ns j) = tree_is ns at n left p d g (kind.Both i j) e in
      let early : (i < at) × (j < at) = subst (λ k. IsOfEarlier at k) e (is_made ns at n left p d g).earlier in
      let sizes : count (tree_at ns at) ≡ count (tree_at ns i) * count (tree_at ns j) = ap count whole in
      let w = d.within in
      let below : left < count (tree_at ns i) * count (tree_at ns j) = let b = d.below in omega arith in
      let most = d.most in
      let f = factors (count (tree_at ns i)) (count (tree_at ns j)) left below in
      let f0 = f.0 in
      let f1 = f.1 in
      let f2 = f.2 in
      let f3 = f.3 in
      let f4 = f.4 in
      let few : count (tree_at ns j) ≤ most_numbered = omega arith in
      let kept : m.cubes ≡ count (tree_at ns j) = stored ns at n left p d g j m (let y = early.1 in omega arith) h few in
      record {
        some = omega arith;
        first_before = early.0;
        second_before = early.1;
        first = record { within = let y = early.0 in omega arith; below = subst (λ c. left / c < count (tree_at ns i)) (sym kept) f.1; most = omega arith };
        second = record { within = let y = early.1 in omega arith; below = subst (λ c. left % c < count (tree_at ns j)) (sym kept) f.2; most = few };
        whole = ap (λ x. cube_at x left) whole ∙ ap (λ c. cube_at (tree_at ns i) (left / c) ++ cube_at (tree_at ns j) (left % c)) (sym kept);
      }

  pub either_parts : (m : CubeNode) → n.kind ≡ kind.Either i j → m ≡ get_or ns i m → AreEither ns at left i j m
  either_parts m e h =
      let whole : tree_at ns at ≡ either (tree_at ns i) (tree_at ns j) = tree_is ns at n left p d g (kind.Either i j) e in
      let early : (i < at) × (j < at) = subst (λ k. IsOfEarlier at k) e (is_made ns at n left p d g).earlier in
      let sizes : count (tree_at ns at) ≡ count (tree_at ns i) + count (tree_at ns j) = ap count whole in
      let w = d.within in
      let b = d.below in
      let most = d.most in
      let few : count (tree_at ns i) ≤ most_numbered = omega arith in
      let kept : m.cubes ≡ count (tree_at ns i) = stored ns at n left p d g i m (let y = early.0 in omega arith) h few in
      let x = early.0 in
      let y = early.1 in
      record {
        first_before = early.0;
        second_before = early.1;
        first = λ l. record { within = omega arith; below = omega arith; most = few };
        second = λ l. record { within = omega arith; below = omega arith; most = omega arith };
        first_is = λ l. ap (λ z. cube_at z left) whole ∙ chosen_first left (count (tree_at ns i)) (cube_at (tree_at ns i) left) (cube_at (tree_at ns j) (left - count (tree_at ns i))) (omega arith);
        second_is = λ l. ap (λ z. cube_at z left) whole ∙ chosen_second left (count (tree_at ns i)) (cube_at (tree_at ns i) left) (cube_at (tree_at ns j) (left - count (tree_at ns i))) (omega arith) ∙ ap (λ c. cube_at (tree_at ns j) (left - c)) (sym kept);
      }

-- the tree of the assertions
pub assertions_tree : (ts : List Term) → tree_of ts ≡ conjunction (formulas_of ts) true
assertions_tree ts = ap every_of (same ts)
  where
    same : (ts : List Term) → map (λ (t : Term). formula (seen t) true) ts ≡ trees true (formulas_of ts)
    same [] = refl
    same (t ∷ ts) = ap (λ us. formula (seen t) true ∷ us) (same ts)

pub planned_tree : (ts : List Term) (old new : List CubeNode) (s : NodePair) → IsPlanned old new s (conjunction (formulas_of ts)) → tree_at new s.holding ≡ tree_of ts
planned_tree ts old new s h = h.stands.holds ∙ sym (assertions_tree ts)

-- the cubes that are still to be given
abbrev pub rest_of : List CubeNode → ℕ → ℕ → List Cube
rest_of ns root given = drop given (map cube (cubes (tree_at ns root)))

pub all_length : (ns : List CubeNode) (root : ℕ) → length (map cube (cubes (tree_at ns root))) ≡ count (tree_at ns root)
all_length ns root = length-map (cubes (tree_at ns root)) cube ∙ cubes_length (tree_at ns root)

pub none_left : (ns : List CubeNode) (root all given : ℕ) → IsGiving ns root all given → all ≤ given → rest_of ns root given ≡ []
none_left ns root all given h l = let n = h.number in drop_all given (map cube (cubes (tree_at ns root))) (omega (arith, all_length ns root))

pub get_map : (cs : List (List Literal)) (k : ℕ) (c : List Literal) → slice_get cs k ≡ Some c → slice_get (map cube cs) k ≡ Some (cube c)
get_map [] k c e = absurd (cc)
get_map (d ∷ cs) zero c e = let g : d ≡ c = cc in ap (λ z. Some (cube z)) g
get_map (d ∷ cs) (suc k) c e = get_map cs k c e

pub drop_get : (xs : List Cube) (k : ℕ) (x : Cube) → slice_get xs k ≡ Some x → drop k xs ≡ x ∷ drop (k + 1) xs
drop_get [] k x e = absurd (cc)
drop_get (y ∷ xs) zero x e = let g : y ≡ x = cc in ap (λ z. z ∷ xs) g ∙ ap (λ zs. x ∷ zs) (sym (drop_none xs))
  where
    drop_none : (xs : List Cube) → drop (zero + 1) (y ∷ xs) ≡ xs
    drop_none xs = let e : zero + 1 ≡ suc zero = omega arith in ap (λ n. drop n (y ∷ xs)) e ∙ drop_zero xs
      where
        drop_zero : (xs : List Cube) → drop zero xs ≡ xs
        drop_zero [] = refl
        drop_zero (z ∷ xs) = refl
drop_get (y ∷ xs) (suc k) x e = let up : suc (k + 1) ≡ suc k + 1 = omega arith in drop_get xs k x e ∙ ap (λ n. x ∷ drop n (y ∷ xs)) up

pub one_given : (ns : List CubeNode) (root all given : ℕ) (ls : List Literal) → IsGiving ns root all given → given < all → ls ≡ cube_at (tree_at ns root) given → rest_of ns root given ≡ cube ls ∷ rest_of ns root (given + 1)
one_given ns root all given ls h l e =
    let n = h.number in
    let got = get_map (cubes (tree_at ns root)) given (cube_at (tree_at ns root) given) (picked (tree_at ns root) given (omega arith)) in
    drop_get (map cube (cubes (tree_at ns root))) given (cube (cube_at (tree_at ns root) given)) got ∙ ap (λ x. cube x ∷ rest_of ns root (given + 1)) (sym e)

drop_zero : (xs : List Cube) → drop zero xs ≡ xs
drop_zero [] = refl
drop_zero (z ∷ xs) = refl

drop_empty : (a : ℕ) → drop {A = Cube} a [] ≡ []
drop_empty zero = refl
drop_empty (suc a) = refl

plus_zero : (a : ℕ) → a ≡ zero + a
plus_zero a = omega arith

plus_suc : (a b : ℕ) → suc (b + a) ≡ suc b + a
plus_suc a b = omega arith

drop_drop : (a b : ℕ) (xs : List Cube) → drop a (drop b xs) ≡ drop (b + a) xs
drop_drop a zero xs = ap (drop a) (drop_zero xs) ∙ ap (λ n. drop n xs) (plus_zero a)
drop_drop a (suc b) [] = drop_empty a ∙ sym (drop_empty (suc b + a))
drop_drop a (suc b) (x ∷ xs) = drop_drop a b xs ∙ ap (λ n. drop n (x ∷ xs)) (plus_suc a b)

pub skipped_some : (ns : List CubeNode) (root given more : ℕ) → rest_of ns root (given + more) ≡ drop more (rest_of ns root given)
skipped_some ns root given more = sym (drop_drop more given (map cube (cubes (tree_at ns root))))

pub skipped_all : (ns : List CubeNode) (root all given more : ℕ) → IsGiving ns root all given → all - given ≤ more → rest_of ns root all ≡ drop more (rest_of ns root given)
skipped_all ns root all given more h l =
    let n = h.number in
    let s = h.some in
    drop_all all (map cube (cubes (tree_at ns root))) (omega (arith, all_length ns root)) ∙ sym (drop_drop more given (map cube (cubes (tree_at ns root))) ∙ drop_all (given + more) (map cube (cubes (tree_at ns root))) (omega (arith, all_length ns root)))

pub skipped : (ns : List CubeNode) (root all given more n : ℕ) → IsGiving ns root all given → n ≡ given + min more (all - given) → rest_of ns root n ≡ drop more (rest_of ns root given)
skipped ns root all given more n h e =
    let s = h.some in
    ⊎_elim
    (λ l. let q : n ≡ given + more = omega arith in ap (rest_of ns root) q ∙ skipped_some ns root given more)
    (λ l. let q : n ≡ all = omega arith in ap (rest_of ns root) q ∙ skipped_all ns root all given more h l)
    (cases_lt more (all - given))

-- what the making of cubes answers
pub refused_by : (X : Type 0) (ts : List Term) (fault : FormFault) (e : CubeFault) → e ≡ fault_of fault → IsPlainExactly {X = Unit {0}} (tree_steps (tree_of ts)) (Err fault) → IsRefusedBySteps {X = X} ts (Err e)
refused_by X ts fault e q h = subst (λ z. IsRefusedBySteps {X = X} ts (Err z)) (sym q) (by_fault fault h)
  where
    by_fault : (fault : FormFault) → IsPlainExactly {X = Unit {0}} (tree_steps (tree_of ts)) (Err fault) → IsRefusedBySteps {X = X} ts (Err (fault_of fault))
    by_fault (form.Past l r) h = h
    by_fault (form.Memory e) h = tt

-- a node of the assertions' tree keeps the number of their cubes
pub counted : (ts : List Term) (old new : List CubeNode) (s : NodePair) (n : ℕ) → IsPlanned old new s (conjunction (formulas_of ts)) → n ≡ cut_off (count (tree_at new s.holding)) → n ≡ cut_off (count_of ts)
counted ts old new s n p e = e ∙ ap (λ t. cut_off (count t)) (planned_tree ts old new s p)

pub many : (ts : List Term) (n : ℕ) → n ≡ cut_off (count_of ts) → most_cubes < n → most_cubes < count_of ts
many ts n e l = omega arith

pub few : (ts : List Term) (n : ℕ) → n ≡ cut_off (count_of ts) → n ≤ most_cubes → count_of ts ≤ most_cubes
few ts n e l = omega arith

pub numbered : (ts : List Term) (n : ℕ) → n ≡ cut_off (count_of ts) → n ≤ most_numbered → count_of ts ≤ most_numbered
numbered ts n e l = omega arith

pub giving_all : (ns : List CubeNode) (at n : ℕ) → IsPlan ns → at < length ns → n ≡ cut_off (count (tree_at ns at)) → n ≤ most_numbered → IsGiving ns at n 0
giving_all ns at n p w e l = record {
  plan = p;
  within = w;
  number = omega arith;
  most = l;
  some = omega arith;
}

pub root-planned : (ts : List Term) (old new : List CubeNode) (s : NodePair) (n : ℕ) → IsPlanned old new s (conjunction (formulas_of ts)) → n ≡ cut_off (count (tree_at new s.holding)) → IsRootOf ts new s.holding n
root-planned ts old new s n p e = record {
  plan = p.longer.plan;
  within = p.stands.holding;
  tree = planned_tree ts old new s p;
  count = counted ts old new s n p e;
}
