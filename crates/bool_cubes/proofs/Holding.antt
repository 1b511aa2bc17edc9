-- What follows from literals that are held.
use Rattle.std.proofs.Common.{◌≡◌, refl, sym, ap, ◌∙◌, subst, ℕ, zero, suc, ◌-◌, ◌/◌, ◌%◌, ◌<◌, ◌≤◌, ◌⊎◌, inl, inr, Bool, true, false, List, [], ◌∷◌, ◌++◌, length, Option, Some, None, replicate, slice_get, get_or, arith, ⊎_elim}
use Rattle.sv_list.specs.Lists.{slice_get-replicate}
use Rattle.std.specs.Prelude.{not, slice_set}
use Rattle.std.proofs.Math.Bool.{beq}
use Rattle.std.specs.List.{Contains}
use Rattle.std.proofs.lemmas.Bool.{cases_lt}
use Rattle.std.proofs.lemmas.List.Elements.{Contains-append_left, Contains-append_right, Contains-append_cases}
use Rattle.bool_cubes.specs.Contradictions.{ContradictionsAreFalse, IsContradictory}
use Rattle.literal_forms.specs.Literals.{AreTrueLiterals, IsTrueLiteral}
use Rattle.sv_terms.specs.Meaning.{Named, val}
use Rattle.sv_terms.specs.declared.value.Value.{Value}
use Rattle.sv_terms.specs.declared.value.Value.TheVariants.{Truth}
use Rattle.bool_cubes.specs.Cubes.{count}
use Rattle.bool_cubes.specs.Held.{AreDead, AreHeld, AreMust, IsDead, IsForced, IsKnown, IsMust, IsOpposed}
use Rattle.bool_cubes.specs.Nodes.{IsOfEarlier, IsPlan, made, tree_at, trees_of}
use Rattle.bool_cubes.specs.Picking.{cube_at}
use Rattle.bool_cubes.specs.Trees.{Tree, never, one, both, either}
use Rattle.bool_cubes.specs.declared.known.Known.{Known}
use Rattle.bool_cubes.specs.declared.node.CubeNode.{CubeNode}
use Rattle.bool_cubes.specs.declared.node.NodeKind.{NodeKind}
use Rattle.literal_forms.specs.declared.literal.Literal.{Literal}
use Rattle.sv_terms.specs.declared.term.Term.{Term}
use Rattle.bool_cubes.proofs.Gathered.{chosen_first, chosen_second}
use Rattle.bool_cubes.proofs.Picked.{digit_below}

own_one : (l : Literal) → Contains (l ∷ []) l
own_one l = (zero, omega arith, refl)

only_one : (l m : Literal) → Contains (l ∷ []) m → l ≡ m
only_one l m (zero, b, e) = e
only_one l m (suc k, b, e) = absurd (omega (arith, b))

-- the literals of the one list are among those of the other
abbrev pub AreAmong : List Literal → List Literal → Type 0
AreAmong ls ms = (l : Literal) → Contains ls l → Contains ms l

pub among_left : (ls ms : List Literal) → AreAmong ls (ls ++ ms)
among_left ls ms l h = Contains-append_left ls ms l h

pub among_right : (ls ms : List Literal) → AreAmong ms (ls ++ ms)
among_right ls ms l h = Contains-append_right ls ms l h

-- both parts are
pub among_both : (ls ms ns : List Literal) → AreAmong ls ns → AreAmong ms ns → AreAmong (ls ++ ms) ns
among_both ls ms ns f g l h = ⊎_elim (λ a. f l a) (λ b. g l b) (Contains-append_cases ls ms l h)

pub among_more : (ls ms ks : List Literal) → AreAmong ls ms → AreAmong (ls ++ ks) (ms ++ ks)
among_more ls ms ks f = among_both ls ks (ms ++ ks) (λ l h. among_left ms ks l (f l h)) (among_right ms ks)

pub contradictory_more : (ls ms : List Literal) → IsContradictory ls → AreAmong ls ms → IsContradictory ms
contradictory_more ls ms h f = record { atom = h.atom; holds = f (record { atom = h.atom; positive = true }) h.holds; fails = f (record { atom = h.atom; positive = false }) h.fails }

pub held_more : (ns : List CubeNode) (ls ms : List Literal) (marks : List (Option ℕ)) → AreHeld ns ls marks → AreAmong ls ms → AreHeld ns ms marks
held_more ns ls ms marks h f = record { each = λ i p e. let q = h.each i p e in (q.0, q.1, f q.0 q.2) }

pub dead_more : (ns : List CubeNode) (ls ms : List Literal) (dead : List Bool) → AreDead ns ls dead → AreAmong ls ms → AreDead ns ms dead
dead_more ns ls ms dead h f = record { each = λ k e j l. contradictory_more (ls ++ cube_at (tree_at ns k) j) (ms ++ cube_at (tree_at ns k) j) (h.each k e j l) (among_more ls ms (cube_at (tree_at ns k) j) f) }

-- a literal and its negation
same_literal : (l : Literal) (a : Term) (b : Bool) → l.atom ≡ a → l.positive ≡ b → l ≡ record { atom = a; positive = b }
same_literal l a b e f = ap (λ x. record { atom = x; positive = l.positive }) e ∙ ap (λ p. record { atom = a; positive = p }) f

opposite : (b c : Bool) → (c ≡ b → ⊥) → c ≡ not b
opposite true true h = absurd (h refl)
opposite true false h = refl
opposite false true h = refl
opposite false false h = absurd (h refl)

pub opposites : (ls : List Literal) (l m : Literal) → Contains ls l → Contains ls m → m.atom ≡ l.atom → (m.positive ≡ l.positive → ⊥) → IsContradictory ls
opposites ls l m a c e f = by l.positive refl
  where
    own : (b : Bool) → l.positive ≡ b → Contains ls (record { atom = l.atom; positive = b })
    own b p = subst (λ x. Contains ls x) (same_literal l l.atom b refl p) a

    other : (b : Bool) → l.positive ≡ b → Contains ls (record { atom = l.atom; positive = not b })
    other b p = subst (λ x. Contains ls x) (same_literal m l.atom (not b) e (opposite l.positive m.positive f ∙ ap not p)) c

    by : (b : Bool) → l.positive ≡ b → IsContradictory ls
    by true p = record { atom = l.atom; holds = own true p; fails = other true p }
    by false p = record { atom = l.atom; holds = other false p; fails = own false p }

pub opposed : (ls : List Literal) (l m : Literal) → Contains ls m → m.atom ≡ l.atom → (m.positive ≡ l.positive → ⊥) → IsContradictory (ls ++ l ∷ [])
opposed ls l m c e f = opposites (ls ++ l ∷ []) l m (Contains-append_right ls (l ∷ []) l (own_one l)) (Contains-append_left ls (l ∷ []) m c) e f

-- a node and its tree
module _ (ns : List CubeNode) (at : ℕ) (n : CubeNode) (p : IsPlan ns) (w : at < length ns) (g : n ≡ get_or ns at n) where
  pub kind_tree : (d : NodeKind) → n.kind ≡ d → tree_at ns at ≡ made (trees_of ns) d
  kind_tree d e = (p.each at n w g).tree ∙ ap (made (trees_of ns)) e

  pub kind_earlier : (d : NodeKind) → n.kind ≡ d → IsOfEarlier at d
  kind_earlier d e = subst (λ k. IsOfEarlier at k) e (p.each at n w g).earlier

one_is : (l m : Literal) → one l ≡ one m → l ≡ m
one_is l m e = cc

pub refused_by_mark : (ns : List CubeNode) (ls : List Literal) (marks : List (Option ℕ)) (i p : ℕ) (l : Literal) → AreHeld ns ls marks → slice_get marks i ≡ Some (Some p) → IsOpposed (tree_at ns p) l → IsContradictory (ls ++ l ∷ [])
refused_by_mark ns ls marks i p l h e o =
    let q = h.each i p e in
    let same : q.0 ≡ o.0 = one_is q.0 o.0 (sym q.1 ∙ o.1) in
    opposed ls l o.0 (subst (λ x. Contains ls x) same q.2) o.2 o.3

-- marks, and one more
get_set : (m : List (Option ℕ)) (i at j p : ℕ) → slice_get (slice_set m i (Some at)) j ≡ Some (Some p) → (p ≡ at) ⊎ (slice_get m j ≡ Some (Some p))
get_set [] i at j p e = inr e
get_set (x ∷ m) zero at zero p e = inl (let s : at ≡ p = cc in sym s)
get_set (x ∷ m) zero at (suc j) p e = inr e
get_set (x ∷ m) (suc i) at zero p e = inr e
get_set (x ∷ m) (suc i) at (suc j) p e = get_set m i at j p e

abbrev pub IsKept : List (Option ℕ) → List (Option ℕ) → ℕ → Type 0
IsKept old new at = (new ≡ old) ⊎ ((i : ℕ) × (i < length old) × (new ≡ slice_set old i (Some at)))

pub held_kept : (ns : List CubeNode) (ls : List Literal) (old new : List (Option ℕ)) (at : ℕ) (l : Literal) → AreHeld ns ls old → IsKept old new at → tree_at ns at ≡ one l → AreHeld ns (ls ++ l ∷ []) new
held_kept ns ls old new at l h k e = ⊎_elim
    (λ same. subst (λ m. AreHeld ns (ls ++ l ∷ []) m) (sym same) (held_more ns ls (ls ++ l ∷ []) old h (among_left ls (l ∷ []))))
    (λ s. subst (λ m. AreHeld ns (ls ++ l ∷ []) m) (sym s.2) (record {
      each = λ i p g. ⊎_elim
          (λ (is : p ≡ at). (l, subst (λ q. tree_at ns q ≡ one l) (sym is) e, Contains-append_right ls (l ∷ []) l (own_one l)))
          (λ was. let q = h.each i p was in (q.0, q.1, Contains-append_left ls (l ∷ []) q.0 q.2))
          (get_set old s.0 at i p g);
    }))
    k

-- trees of which each cube contradicts what is held
pub never_dead : (ls : List Literal) → IsDead ls never
never_dead ls k l = absurd (omega (arith, l))

pub one_dead : (ls : List Literal) (l : Literal) → IsContradictory (ls ++ l ∷ []) → IsDead ls (one l)
one_dead ls l h k b = h

pub first_dead : (ls : List Literal) (t u : Tree) → IsDead ls t → IsDead ls (both t u)
first_dead ls t u h k b =
    let d = digit_below k (count t) (count u) b in
    let x = cube_at t (k / count u) in
    let y = cube_at u (k % count u) in
    contradictory_more (ls ++ x) (ls ++ (x ++ y)) (h (k / count u) d.1) (among_both ls x (ls ++ (x ++ y)) (among_left ls (x ++ y)) (λ l c. among_right ls (x ++ y) l (among_left x y l c)))

pub second_dead : (ls : List Literal) (t u : Tree) → IsDead ls u → IsDead ls (both t u)
second_dead ls t u h k b =
    let d = digit_below k (count t) (count u) b in
    let r : k % count u < count u = let p = d.0 in omega arith in
    let x = cube_at t (k / count u) in
    let y = cube_at u (k % count u) in
    contradictory_more (ls ++ y) (ls ++ (x ++ y)) (h (k % count u) r) (among_both ls y (ls ++ (x ++ y)) (among_left ls (x ++ y)) (λ l c. among_right ls (x ++ y) l (among_right x y l c)))

pub either_dead : (ls : List Literal) (t u : Tree) → IsDead ls t → IsDead ls u → IsDead ls (either t u)
either_dead ls t u f g k b = ⊎_elim
    (λ l. subst (λ c. IsContradictory (ls ++ c)) (sym (chosen_first k (count t) (cube_at t k) (cube_at u (k - count t)) l)) (f k l))
    (λ l. subst (λ c. IsContradictory (ls ++ c)) (sym (chosen_second k (count t) (cube_at t k) (cube_at u (k - count t)) l)) (g (k - count t) (omega (arith, b, l))))
    (cases_lt k (count t))

-- what is dead of the nodes so far, and of one more
get_last : (dead : List Bool) (b : Bool) (k : ℕ) → slice_get (dead ++ b ∷ []) k ≡ Some true → (slice_get dead k ≡ Some true) ⊎ ((k ≡ length dead) × (b ≡ true))
get_last [] b zero e = inr (refl, cc)
get_last [] b (suc k) e = absurd (cc)
get_last (x ∷ dead) b zero e = inl e
get_last (x ∷ dead) b (suc k) e = ⊎_elim (λ a. inl a) (λ a. inr (ap suc a.0, a.1)) (get_last dead b k e)

pub dead_none : (ns : List CubeNode) (ls : List Literal) → AreDead ns ls []
dead_none ns ls = record { each = λ k e. absurd (cc) }

pub dead_next : (ns : List CubeNode) (ls : List Literal) (dead : List Bool) (b : Bool) (at : ℕ) → AreDead ns ls dead → length dead ≡ at → (b ≡ true → IsDead ls (tree_at ns at)) → AreDead ns ls (dead ++ b ∷ [])
dead_next ns ls dead b at h s f = record {
  each = λ k e. ⊎_elim (λ was. h.each k was) (λ is. subst (λ j. IsDead ls (tree_at ns j)) (sym (is.0 ∙ s)) (f is.1)) (get_last dead b k e);
}

-- literals that stand in each cube that isn't contradictory
abbrev pub AreForced : Tree → List Literal → Type 0
AreForced t ls = (l : Literal) → Contains ls l → IsForced t l

-- a cube contradicts itself where it contradicts these
pub contradicts_itself : (t : Tree) (ls : List Literal) (k : ℕ) → AreForced t ls → k < count t → IsContradictory (ls ++ cube_at t k) → IsContradictory (cube_at t k)
contradicts_itself t ls k f b h =
    let c = cube_at t k in
    ⊎_elim (λ x. x) (λ x. ⊎_elim (λ y. y) (λ y. record { atom = h.atom; holds = x; fails = y }) (stands (record { atom = h.atom; positive = false }) h.fails)) (stands (record { atom = h.atom; positive = true }) h.holds)
  where
    stands : (l : Literal) → Contains (ls ++ cube_at t k) l → IsContradictory (cube_at t k) ⊎ Contains (cube_at t k) l
    stands l q = ⊎_elim (λ a. f l a k b) (λ a. inr a) (Contains-append_cases ls (cube_at t k) l q)

pub must_itself : (t : Tree) → IsMust t t
must_itself t k b = inr (k, b, λ l h. h)

-- a part of a part, wherever one of the second's cubes has one of the third
must_part : (t u v : Tree) → IsMust t u → ((j : ℕ) → j < count u → (i : ℕ) × (i < count v) × AreAmong (cube_at v i) (cube_at u j)) → IsMust t v
must_part t u v h f k b = ⊎_elim (λ x. inl x) (λ p. let q = f p.0 p.1 in inr (q.0, q.1, λ l c. p.2 l (q.2 l c))) (h k b)

pub must_first : (t u v : Tree) → IsMust t (both u v) → IsMust t u
must_first t u v h = must_part t (both u v) u h (λ j b. let d = digit_below j (count u) (count v) b in (j / count v, d.1, among_left (cube_at u (j / count v)) (cube_at v (j % count v))))

pub must_second : (t u v : Tree) → IsMust t (both u v) → IsMust t v
must_second t u v h = must_part t (both u v) v h (λ j b.
    let d = digit_below j (count u) (count v) b in
    let r : j % count v < count v = let p = d.0 in omega arith in
    (j % count v, r, among_right (cube_at u (j / count v)) (cube_at v (j % count v))))

module _ (t u v : Tree) (ls : List Literal) (f : AreForced t ls) (h : IsMust t (either u v)) where
  refuted : (w : Tree) (k i : ℕ) → k < count t → i < count w → IsDead ls w → AreAmong (cube_at w i) (cube_at t k) → IsContradictory (cube_at t k)
  refuted w k i b l d a = contradicts_itself t ls k f b (contradictory_more (ls ++ cube_at w i) (ls ++ cube_at t k) (d i l) (among_both ls (cube_at w i) (ls ++ cube_at t k) (among_left ls (cube_at t k)) (λ x c. among_right ls (cube_at t k) x (a x c))))

  as_first : (j : ℕ) → j < count u → cube_at (either u v) j ≡ cube_at u j
  as_first j l = chosen_first j (count u) (cube_at u j) (cube_at v (j - count u)) l

  as_second : (j : ℕ) → count u ≤ j → cube_at (either u v) j ≡ cube_at v (j - count u)
  as_second j l = chosen_second j (count u) (cube_at u j) (cube_at v (j - count u)) l

  pub must_other : IsDead ls u → IsMust t v
  must_other d k b = ⊎_elim (λ x. inl x)
      (λ p. ⊎_elim
      (λ l. inl (refuted u k p.0 b l d (subst (λ c. AreAmong c (cube_at t k)) (as_first p.0 l) p.2)))
      (λ l. inr (p.0 - count u, (let m = p.1 in omega (arith, m, l)), subst (λ c. AreAmong c (cube_at t k)) (as_second p.0 l) p.2))
      (cases_lt p.0 (count u)))
      (h k b)

  pub must_one : IsDead ls v → IsMust t u
  must_one d k b = ⊎_elim (λ x. inl x)
      (λ p. ⊎_elim
      (λ l. inr (p.0, l, subst (λ c. AreAmong c (cube_at t k)) (as_first p.0 l) p.2))
      (λ l. inl (refuted v k (p.0 - count u) b (let m = p.1 in omega (arith, m, l)) d (subst (λ c. AreAmong c (cube_at t k)) (as_second p.0 l) p.2)))
      (cases_lt p.0 (count u)))
      (h k b)

pub must_literal : (t : Tree) (l : Literal) → IsMust t (one l) → IsForced t l
must_literal t l h k b = ⊎_elim (λ x. inl x) (λ p. inr (p.2 l (own_one l))) (h k b)

pub forced_more : (t : Tree) (ls : List Literal) (l : Literal) → AreForced t ls → IsForced t l → AreForced t (ls ++ l ∷ [])
forced_more t ls l f g m c = ⊎_elim (λ a. f m a) (λ a. subst (λ x. IsForced t x) (only_one l m a) g) (Contains-append_cases ls (l ∷ []) m c)

pub differ : (a b : Bool) → not (beq a b) ≡ true → a ≡ b → ⊥
differ true true h e = cc
differ true false h e = cc
differ false true h e = cc
differ false false h e = cc

-- a literal more
pub known_kept : (ns : List CubeNode) (root : ℕ) (k : Known) (new : List (Option ℕ)) (at : ℕ) (l : Literal) → IsKnown ns root k → IsKept k.forced new at → tree_at ns at ≡ one l → IsForced (tree_at ns root) l → IsKnown ns root (record k { forced = new })
known_kept ns root k new at l h s e f = record {
  literals = h.literals ++ l ∷ [];
  held = held_kept ns h.literals k.forced new at l h.held s e;
  dead = dead_more ns h.literals (h.literals ++ l ∷ []) k.dead h.dead (among_left h.literals (l ∷ []));
  forced = forced_more (tree_at ns root) h.literals l h.forced f;
}

pub known_same : (ns : List CubeNode) (root : ℕ) (k : Known) → IsKnown ns root k → IsKnown ns root (record k { forced = k.forced })
known_same ns root k h = record { literals = h.literals; held = h.held; dead = h.dead; forced = h.forced }

pub known_dead : (ns : List CubeNode) (root : ℕ) (k : Known) (dead : List Bool) → IsKnown ns root k → ((ls : List Literal) → AreHeld ns ls k.forced → AreDead ns ls dead) → IsKnown ns root (record k { dead = dead })
known_dead ns root k dead h f = record { literals = h.literals; held = h.held; dead = f h.literals h.held; forced = h.forced }

nothing : {X : Type 0} (l : Literal) → Contains [] l → X
nothing l (k, b, e) = absurd (omega (arith, b))

no_mark : (p : ℕ) → Some p ≡ None → ⊥
no_mark p e = cc

pub known_none : (ns : List CubeNode) (root : ℕ) (k : Known) (n : ℕ) → k.forced ≡ replicate n None → k.dead ≡ [] → IsKnown ns root k
known_none ns root k n e f = record {
  literals = [];
  held = subst (λ m. AreHeld ns [] m) (sym e) (record { each = λ i p g. absurd (no_mark p (slice_get-replicate n i None (Some p) g)) });
  dead = subst (λ d. AreDead ns [] d) (sym f) (dead_none ns []);
  forced = λ l c. nothing l c;
}

-- nodes of which each such cube has a part, and one more
get_marked : (m : List Bool) (i j : ℕ) → slice_get (slice_set m i true) j ≡ Some true → (j ≡ i) ⊎ (slice_get m j ≡ Some true)
get_marked [] i j e = inr e
get_marked (x ∷ m) zero zero e = inl refl
get_marked (x ∷ m) zero (suc j) e = inr e
get_marked (x ∷ m) (suc i) zero e = inr e
get_marked (x ∷ m) (suc i) (suc j) e = ⊎_elim (λ a. inl (ap suc a)) (λ a. inr a) (get_marked m i j e)

pub must_kept : (ns : List CubeNode) (root : ℕ) (old new : List Bool) (k : ℕ) → AreMust ns root old → IsMust (tree_at ns root) (tree_at ns k) → new ≡ slice_set old k true → AreMust ns root new
must_kept ns root old new k h f e = subst (λ m. AreMust ns root m) (sym e) (record {
  each = λ j g. ⊎_elim (λ is. subst (λ i. IsMust (tree_at ns root) (tree_at ns i)) (sym is) f) (λ was. h.each j was) (get_marked old k j g);
})

unmarked : true ≡ false → ⊥
unmarked e = cc

pub must_none : (ns : List CubeNode) (root : ℕ) (m : List Bool) (n : ℕ) → m ≡ replicate n false → AreMust ns root m
must_none ns root m n e = subst (λ x. AreMust ns root x) (sym e) (record { each = λ k g. absurd (unmarked (slice_get-replicate n k false true g)) })

-- what is true of all literals is true of one of them
true_at : (values : Named) (ls : List Literal) → AreTrueLiterals values ls → (l : Literal) → Contains ls l → IsTrueLiteral values l
true_at values [] h l (k, b, e) = absurd (omega (arith, b))
true_at values (m ∷ ls) h l (zero, b, e) = subst (λ x. IsTrueLiteral values x) e h.0
true_at values (m ∷ ls) h l (suc k, b, e) = true_at values ls h.1 l (k, omega (arith, b), e)

two_values : (v : Option Value) → v ≡ Some (Truth true) → v ≡ Some (Truth false) → ⊥
two_values v e f = cc

pub contradictions_are_false : ContradictionsAreFalse
contradictions_are_false values ls h t = two_values (val values h.atom) (true_at values ls t (record { atom = h.atom; positive = true }) h.holds) (true_at values ls t (record { atom = h.atom; positive = false }) h.fails)
