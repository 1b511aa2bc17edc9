-- Nodes behind others, and the trees of nodes.
use Rattle.std.proofs.Common.{◌≡◌, refl, sym, ap, ◌∙◌, subst, ℕ, zero, suc, ◌+◌, ◌*◌, ◌<◌, ◌≤◌, true, false, List, [], ◌∷◌, ◌++◌, length, get_or, length-append, arith, ⊎_elim, IfOk, Result}
use Rattle.std.proofs.lemmas.Bool.{cases_lt}
use Rattle.std.proofs.lemmas.Result.{IfOk-weaker}
use Rattle.std.proofs.lemmas.List.{get_or_append_left}
use Rattle.bool_cubes.specs.Cubes.{count}
use Rattle.bool_cubes.specs.Nodes.{AreOf, IsAddedNode, IsLonger, IsMade, IsOfEarlier, IsPlan, IsPlanned, HasBothTrees, listed_at, made, tree_at, trees_from, trees_of}
use Rattle.sv_terms.specs.CutOff.{cut_off, cut-product, cut-sum}
use Rattle.bool_cubes.specs.Trees.{Formula, Tree, both, either, negated, conjoined, disjoined, agreement, choice, fixed, implication}
use Rattle.bool_cubes.specs.declared.node.CubeNode.{CubeNode}
use Rattle.bool_cubes.specs.declared.node.NodeKind.{NodeKind}
use Rattle.bool_cubes.specs.declared.node.NodeKind.TheVariants as kind
use Rattle.bool_cubes.specs.declared.node.NodePair.{NodePair}

pub got_last : {X : Type 0} (xs : List X) (y : X) (k : ℕ) (x : X) → k ≡ length xs → get_or (xs ++ y ∷ []) k x ≡ y
got_last [] y zero x e = refl
got_last [] y (suc k) x e = absurd (omega arith)
got_last (z ∷ xs) y zero x e = absurd (omega arith)
got_last (z ∷ xs) y (suc k) x e = got_last xs y k x (omega arith)

listed_left : (ts us : List Tree) (k : ℕ) → k < length ts → listed_at (ts ++ us) k ≡ listed_at ts k
listed_left [] us k h = absurd (omega arith)
listed_left (t ∷ ts) us zero h = refl
listed_left (t ∷ ts) us (suc k) h = listed_left ts us k (omega arith)

listed_last : (ts : List Tree) (t : Tree) (k : ℕ) → k ≡ length ts → listed_at (ts ++ t ∷ []) k ≡ t
listed_last [] t zero e = refl
listed_last [] t (suc k) e = absurd (omega arith)
listed_last (u ∷ ts) t zero e = absurd (omega arith)
listed_last (u ∷ ts) t (suc k) e = listed_last ts t k (omega arith)

from_push : (ts : List Tree) (ns : List CubeNode) (n : CubeNode) → trees_from ts (ns ++ n ∷ []) ≡ trees_from ts ns ++ made (trees_from ts ns) n.kind ∷ []
from_push ts [] n = refl
from_push ts (m ∷ ns) n = from_push (ts ++ made ts m.kind ∷ []) ns n

from_length : (ts : List Tree) (ns : List CubeNode) → length (trees_from ts ns) ≡ length ts + length ns
from_length ts [] = omega arith
from_length ts (m ∷ ns) = from_length (ts ++ made ts m.kind ∷ []) ns ∙ ap (λ k. k + length ns) (length-append ts (made ts m.kind ∷ [])) ∙ omega arith

trees_length : (ns : List CubeNode) → length (trees_of ns) ≡ length ns
trees_length ns = from_length [] ns ∙ omega arith

made_kept : (ts us : List Tree) (m : NodeKind) (k : ℕ) → IsOfEarlier k m → k ≤ length ts → made (ts ++ us) m ≡ made ts m
made_kept ts us kind.Always k e h = refl
made_kept ts us kind.Never k e h = refl
made_kept ts us (kind.One l) k e h = refl
made_kept ts us (kind.Both i j) k e h = let a = listed_left ts us i (omega arith) in let b = listed_left ts us j (omega arith) in λ m. both (a m) (b m)
made_kept ts us (kind.Either i j) k e h = let a = listed_left ts us i (omega arith) in let b = listed_left ts us j (omega arith) in λ m. either (a m) (b m)

module _ (ns : List CubeNode) (n : CubeNode) where
  abbrev new : List CubeNode
  new = ns ++ n ∷ []

  kept_one : (k : ℕ) → k < length ns → tree_at new k ≡ tree_at ns k
  kept_one k h = ap (λ ts. listed_at ts k) (from_push [] ns n) ∙ listed_left (trees_of ns) (made (trees_of ns) n.kind ∷ []) k (omega (arith, trees_length ns))

  last_one : (k : ℕ) → k ≡ length ns → tree_at new k ≡ made (trees_of ns) n.kind
  last_one k e = ap (λ ts. listed_at ts k) (from_push [] ns n) ∙ listed_last (trees_of ns) (made (trees_of ns) n.kind) k (e ∙ sym (trees_length ns))

  made_new : (m : NodeKind) (k : ℕ) → IsOfEarlier k m → k ≤ length ns → made (trees_of new) m ≡ made (trees_of ns) m
  made_new m k e h = ap (λ ts. made ts m) (from_push [] ns n) ∙ made_kept (trees_of ns) (made (trees_of ns) n.kind ∷ []) m k e (omega (arith, trees_length ns))

  made_old : (k : ℕ) (m : CubeNode) → k < length ns → IsMade ns k m → IsMade new k m
  made_old k m h i = record {
    earlier = i.earlier;
    tree = kept_one k h ∙ i.tree ∙ sym (made_new m.kind k i.earlier (omega arith));
    cubes = i.cubes ∙ ap (λ t. cut_off (count t)) (sym (kept_one k h));
  }

  made_each : IsPlan ns → IsOfEarlier (length ns) n.kind → n.cubes ≡ cut_off (count (made (trees_of ns) n.kind)) → (k : ℕ) (m : CubeNode) → k < length new → m ≡ get_or new k m → IsMade new k m
  made_each p e c k m h g = ⊎_elim (λ l. made_old k m l (p.each k m l (g ∙ get_or_append_left ns (n ∷ []) m k l))) (λ l. at_end (omega (arith, length-append ns (n ∷ [])))) (cases_lt k (length ns))
    where
      at_end : k ≡ length ns → IsMade new k m
      at_end q =
          let is : m ≡ n = g ∙ got_last ns n k m q in
          subst (λ x. IsMade new k x) (sym is) (record {
            earlier = subst (λ z. IsOfEarlier z n.kind) (sym q) e;
            tree = last_one k q ∙ sym (made_new n.kind (length ns) e (omega arith));
            cubes = c ∙ ap (λ t. cut_off (count t)) (sym (last_one k q));
          })

  pub pushed : IsPlan ns → IsOfEarlier (length ns) n.kind → n.cubes ≡ cut_off (count (made (trees_of ns) n.kind)) → IsAddedNode ns new (length ns) (made (trees_of ns) n.kind)
  pushed p e c = record {
    longer = record { more = omega (arith, length-append ns (n ∷ [])); kept = kept_one; plan = record { each = made_each p e c } };
    within = omega (arith, length-append ns (n ∷ []));
    tree = last_one (length ns) refl;
  }

pub longer_trans : (a b c : List CubeNode) → IsLonger a b → IsLonger b c → IsLonger a c
longer_trans a b c p q = record {
  more = omega arith;
  kept = λ k h. q.kept k (omega arith) ∙ p.kept k h;
  plan = q.plan;
}

pub stands_longer : (a b : List CubeNode) (s : NodePair) (f : Formula) → IsLonger a b → HasBothTrees a s f → HasBothTrees b s f
stands_longer a b s f p h = record {
  holding = omega arith;
  failing = omega arith;
  holds = p.kept s.holding h.holding ∙ h.holds;
  fails = p.kept s.failing h.failing ∙ h.fails;
}

pub stands_of : (a : List CubeNode) (s : NodePair) (f : Formula) → HasBothTrees a s f → AreOf a s
stands_of a s f h = (h.holding, h.failing)

pub added_trans : (a b c : List CubeNode) (k : ℕ) (t u : Tree) → IsLonger a b → IsAddedNode b c k t → t ≡ u → IsAddedNode a c k u
added_trans a b c k t u p q e = record { longer = longer_trans a b c p q.longer; within = q.within; tree = q.tree ∙ e }

-- two nodes that were added one after the other
pub two_added : (a b c : List CubeNode) (h k : ℕ) (t u : Tree) (f : Formula) → IsAddedNode a b h t → IsAddedNode b c k u → t ≡ f true → u ≡ f false → IsPlanned a c (record { holding = h; failing = k }) f
two_added a b c h k t u f p q d e = record {
  longer = longer_trans a b c p.longer q.longer;
  stands = record {
    holding = let x = p.within in let y = q.longer.more in omega arith;
    failing = q.within;
    holds = q.longer.kept h p.within ∙ p.tree ∙ d;
    fails = q.tree ∙ e;
  };
}

pub turned : (a b : List CubeNode) (s r : NodePair) (f : Formula) → IsPlanned a b s f → r.holding ≡ s.failing → r.failing ≡ s.holding → IsPlanned a b r (negated f)
turned a b s r f p d e = record {
  longer = p.longer;
  stands = record {
    holding = let x = p.stands.failing in omega arith;
    failing = let x = p.stands.holding in omega arith;
    holds = ap (tree_at b) d ∙ p.stands.fails;
    fails = ap (tree_at b) e ∙ p.stands.holds;
  };
}

pub relabelled : (a b : List CubeNode) (s : NodePair) (f g : Formula) → IsPlanned a b s f → f true ≡ g true → f false ≡ g false → IsPlanned a b s g
relabelled a b s f g p d e = record {
  longer = p.longer;
  stands = record { holding = p.stands.holding; failing = p.stands.failing; holds = p.stands.holds ∙ d; fails = p.stands.fails ∙ e };
}

pub planned_trans : (a b c : List CubeNode) (s : NodePair) (f : Formula) → IsLonger a b → IsPlanned b c s f → IsPlanned a c s f
planned_trans a b c s f p q = record { longer = longer_trans a b c p q.longer; stands = q.stands }

module _ (a b c : List CubeNode) (l r : NodePair) (f g : Formula) (h k : ℕ) where
  pub and_added : HasBothTrees a l f → HasBothTrees a r g → IsAddedNode a b h (both (tree_at a l.holding) (tree_at a r.holding)) → IsAddedNode b c k (either (tree_at b l.failing) (tree_at b r.failing)) → IsPlanned a c (record { holding = h; failing = k }) (conjoined f g)
  and_added x y p q =
      let x' = stands_longer a b l f p.longer x in
      let y' = stands_longer a b r g p.longer y in
      two_added a b c h k _ _ (conjoined f g) p q (λ i. both (x.holds i) (y.holds i)) (λ i. either (x'.fails i) (y'.fails i))

-- the nodes of a negation
turned_trees : (a : List CubeNode) (s t : NodePair) (f : Formula) → t.holding ≡ s.failing → t.failing ≡ s.holding → HasBothTrees a s f → HasBothTrees a t (negated f)
turned_trees a s t f i j h = record {
  holding = let w = h.failing in omega arith;
  failing = let w = h.holding in omega arith;
  holds = ap (tree_at a) i ∙ h.fails;
  fails = ap (tree_at a) j ∙ h.holds;
}

pub or_by_and : (a b : List CubeNode) (l r m n s t : NodePair) (f g : Formula) → m.holding ≡ l.failing → m.failing ≡ l.holding → n.holding ≡ r.failing → n.failing ≡ r.holding → t.holding ≡ s.failing → t.failing ≡ s.holding
    → ((f g : Formula) → HasBothTrees a m f → HasBothTrees a n g → IsPlanned a b s (conjoined f g)) → HasBothTrees a l f → HasBothTrees a r g → IsPlanned a b t (disjoined f g)
or_by_and a b l r m n s t f g i j k h d e p x y =
    relabelled a b t (negated (conjoined (negated f) (negated g))) (disjoined f g) (turned a b s t _ (p (negated f) (negated g) (turned_trees a l m f i j x) (turned_trees a r n g k h y)) d e) refl refl

abbrev pub ways : List CubeNode → ℕ → ℕ → ℕ → ℕ → Tree
ways ns i j k l = either (both (tree_at ns i) (tree_at ns j)) (both (tree_at ns k) (tree_at ns l))

module _ (a b c : List CubeNode) (h k : ℕ) where
  pub agreement_added : (l r : NodePair) (f g : Formula) → HasBothTrees a l f → HasBothTrees a r g → IsAddedNode a b h (ways a l.holding r.holding l.failing r.failing) → IsAddedNode b c k (ways b l.holding r.failing l.failing r.holding) → IsPlanned a c (record { holding = h; failing = k }) (agreement f g)
  agreement_added l r f g x y p q =
      let x' = stands_longer a b l f p.longer x in
      let y' = stands_longer a b r g p.longer y in
      two_added a b c h k _ _ (agreement f g) p q (λ i. either (both (x.holds i) (y.holds i)) (both (x.fails i) (y.fails i))) (λ i. either (both (x'.holds i) (y'.fails i)) (both (x'.fails i) (y'.holds i)))

  pub choice_added : (t l r : NodePair) (e f g : Formula) → HasBothTrees a t e → HasBothTrees a l f → HasBothTrees a r g → IsAddedNode a b h (ways a t.holding l.holding t.failing r.holding) → IsAddedNode b c k (ways b t.holding l.failing t.failing r.failing) → IsPlanned a c (record { holding = h; failing = k }) (choice e f g)
  choice_added t l r e f g z x y p q =
      let z' = stands_longer a b t e p.longer z in
      let x' = stands_longer a b l f p.longer x in
      let y' = stands_longer a b r g p.longer y in
      two_added a b c h k _ _ (choice e f g) p q (λ i. either (both (z.holds i) (x.holds i)) (both (z.fails i) (y.holds i))) (λ i. either (both (z'.holds i) (x'.fails i)) (both (z'.fails i) (y'.fails i)))

-- two of both trees and one of either of them
pub ways_added : (a b c d : List CubeNode) (i j k l g h m : ℕ) → i < length a → j < length a → k < length a → l < length a → IsAddedNode a b g (both (tree_at a i) (tree_at a j)) → IsAddedNode b c h (both (tree_at b k) (tree_at b l)) → IsAddedNode c d m (either (tree_at c g) (tree_at c h)) → IsAddedNode a d m (ways a i j k l)
ways_added a b c d i j k l g h m p q r s x y z =
    let first : tree_at c g ≡ both (tree_at a i) (tree_at a j) = y.longer.kept g x.within ∙ x.tree in
    let second : tree_at c h ≡ both (tree_at a k) (tree_at a l) = y.tree ∙ (λ n. both (x.longer.kept k r n) (x.longer.kept l s n)) in
    added_trans a c d m _ _ (longer_trans a b c x.longer y.longer) z (λ n. either (first n) (second n))

pub pushed_at : (ns all : List CubeNode) (m : NodeKind) (q k : ℕ) → IsPlan ns → IsOfEarlier (length ns) m → q ≡ cut_off (count (made (trees_of ns) m)) → all ≡ ns ++ record { kind = m; cubes = q } ∷ [] → k ≡ length ns → IsAddedNode ns all k (made (trees_of ns) m)
pushed_at ns all m q k p e c a l =
    subst (λ z. IsAddedNode ns z k (made (trees_of ns) m)) (sym a)
    (subst (λ j. IsAddedNode ns (ns ++ record { kind = m; cubes = q } ∷ []) j (made (trees_of ns) m)) (sym l) (pushed ns (record { kind = m; cubes = q }) p e c))

module _ (ns : List CubeNode) (l r : ℕ) (m n : CubeNode) (q : ℕ) (p : IsPlan ns) (a : l < length ns) (b : r < length ns) (d : m ≡ get_or ns l m) (e : n ≡ get_or ns r n) where
  pub both_cubes : q ≡ cut_off (m.cubes * n.cubes) → q ≡ cut_off (count (tree_at ns l) * count (tree_at ns r))
  both_cubes c = c ∙ (λ i. cut_off ((p.each l m a d).cubes i * (p.each r n b e).cubes i)) ∙ cut-product (count (tree_at ns l)) (count (tree_at ns r))

  pub either_cubes : q ≡ cut_off (m.cubes + n.cubes) → q ≡ cut_off (count (tree_at ns l) + count (tree_at ns r))
  either_cubes c = c ∙ (λ i. cut_off ((p.each l m a d).cubes i + (p.each r n b e).cubes i)) ∙ cut-sum (count (tree_at ns l)) (count (tree_at ns r))

pub plan_of : (a b : List CubeNode) → IsLonger a b → IsPlan b
plan_of a b p = p.plan

pub or_within : (a b c : List CubeNode) (h k : ℕ) (t u : Tree) → IsAddedNode a b h t → IsAddedNode b c k u → AreOf c (record { holding = h; failing = k })
or_within a b c h k t u p q = ((let x = p.within in let y = q.longer.more in omega arith), q.within)

pub implication_added : {E : Type 0} (a b c d : List CubeNode) (l r n m t : NodePair) (o : Result NodePair E) (f g : Formula) → HasBothTrees a l f → HasBothTrees a r g → IsPlanned a b n (fixed false) → ((f g : Formula) → HasBothTrees b r f → HasBothTrees b n g → IsPlanned b c m (disjoined f g)) → t.holding ≡ l.failing → t.failing ≡ l.holding → ((f g : Formula) → HasBothTrees c t f → HasBothTrees c m g → IfOk o (λ s. IsPlanned c d s (disjoined f g))) → IfOk o (λ s. IsPlanned a d s (implication f g))
implication_added a b c d l r n m t o f g x y p h i j k =
    let q = h g (fixed false) (stands_longer a b r g p.longer y) p.stands in
    let ac = longer_trans a b c p.longer q.longer in
    let z = stands_longer a c l f ac x in
    let z' = turned_trees c l t f i j z in
    IfOk-weaker o (λ s. IsPlanned c d s (disjoined (negated f) (disjoined g (fixed false)))) (λ s. IsPlanned a d s (implication f g)) (λ s w. relabelled a d s (disjoined (negated f) (disjoined g (fixed false))) (implication f g) (planned_trans a c d s _ ac w) refl refl) (k (negated f) (disjoined g (fixed false)) z' q.stands)

pub within_longer : (a b : List CubeNode) (s : NodePair) → IsLonger a b → AreOf a s → AreOf b s
within_longer a b s p h = ((let x = p.more in omega arith), (let x = p.more in omega arith))

pub turned_within : (a : List CubeNode) (s t : NodePair) → AreOf a s → t.holding ≡ s.failing → t.failing ≡ s.holding → AreOf a t
turned_within a s t h i j = (omega arith, omega arith)
