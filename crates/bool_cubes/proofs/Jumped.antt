-- Jumps from a node past the first cubes of its tree.
use Rattle.std.proofs.Common.{◌≡◌, sym, ap, ◌∙◌, subst, ℕ, ◌+◌, ◌-◌, ◌<◌, ◌≤◌, List, [], ◌∷◌, ◌++◌, length, get_or, length-append, arith, ⊎_elim}
use Rattle.std.proofs.lemmas.Bool.{cases_lt}
use Rattle.std.proofs.lemmas.List.{get_or_append_left}
use Rattle.bool_cubes.specs.Cubes.{count}
use Rattle.bool_cubes.specs.Jumps.{AreJumps, IsBehind, IsJump}
use Rattle.bool_cubes.specs.Nodes.{IsOfEarlier, IsPlan, made, tree_at, trees_of}
use Rattle.bool_cubes.specs.Picking.{cube_at}
use Rattle.bool_cubes.specs.Refusing.{most_cubes}
use Rattle.bool_cubes.specs.Trees.{Tree, either}
use Rattle.sv_terms.specs.CutOff.{cut_off}
use Rattle.bool_cubes.specs.declared.jumps.Jump.{Jump}
use Rattle.bool_cubes.specs.declared.node.CubeNode.{CubeNode}
use Rattle.bool_cubes.specs.declared.node.NodeKind.TheVariants as kind
use Rattle.bool_cubes.proofs.Gathered.{IsNumberIn, chosen_first, chosen_second}
use Rattle.bool_cubes.proofs.Plans.{got_last}

from_first : (t : Tree) → IsBehind t t 0
from_first t = record {
  within = omega arith;
  below = λ k l b. omega arith;
  same = λ k l b. let e : k ≡ k - 0 = omega arith in ap (cube_at t) e;
}

from_second : (t u : Tree) → IsBehind (either t u) u (count t)
from_second t u = record {
  within = omega arith;
  below = λ k l b. omega arith;
  same = λ k l b. chosen_second k (count t) (cube_at t k) (cube_at u (k - count t)) l;
}

-- of two trees of which the second has no cubes, those of the first
from_only : (t u : Tree) → count u ≡ 0 → IsBehind (either t u) t 0
from_only t u z = record {
  within = omega arith;
  below = λ k l b. omega arith;
  same = λ k l b. let e : k ≡ k - 0 = omega arith in chosen_first k (count t) (cube_at t k) (cube_at u (k - count t)) (omega arith) ∙ ap (cube_at t) e;
}

behind_trans : (t u v : Tree) (a b : ℕ) → IsBehind t u a → IsBehind u v b → IsBehind t v (a + b)
behind_trans t u v a b p q = record {
  within = let f = p.within in let g = q.within in omega arith;
  below = λ k l h. let e : (k - a) - b ≡ k - (a + b) = omega arith in subst (λ n. n < count v) e (q.below (k - a) (omega arith) (p.below k (omega arith) h));
  same = λ k l h. let e : (k - a) - b ≡ k - (a + b) = omega arith in p.same k (omega arith) h ∙ q.same (k - a) (omega arith) (p.below k (omega arith) h) ∙ ap (cube_at v) e;
}

-- a node without a step
pub stays : (ns : List CubeNode) (at : ℕ) (j : Jump) → j.to ≡ at → j.cubes ≡ 0 → j.steps ≡ 0 → IsJump ns at j
stays ns at j t c s = record {
  back = omega arith;
  few = omega arith;
  behind = subst (λ n. IsBehind (tree_at ns at) (tree_at ns n) j.cubes) (sym t) (subst (λ n. IsBehind (tree_at ns at) (tree_at ns at) n) (sym c) (from_first (tree_at ns at)));
}

exact : (n c : ℕ) → c ≡ cut_off n → c ≤ most_cubes → n ≡ c
exact n c e l = omega arith

module _ (ns : List CubeNode) (at : ℕ) (n : CubeNode) (i j : ℕ) (m : CubeNode) (p : IsPlan ns) (w : at < length ns) (g : n ≡ get_or ns at n) (e : n.kind ≡ kind.Either i j) where
  early : (i < at) × (j < at)
  early = subst (λ k. IsOfEarlier at k) e (p.each at n w g).earlier

  whole : tree_at ns at ≡ either (tree_at ns i) (tree_at ns j)
  whole = (p.each at n w g).tree ∙ ap (made (trees_of ns)) e

  pub to_second : m ≡ get_or ns i m → m.cubes ≤ most_cubes → IsJump ns at (record { to = j; cubes = m.cubes; steps = 1 })
  to_second h few =
      let x = early.0 in
      let y = early.1 in
      let kept : count (tree_at ns i) ≡ m.cubes = exact (count (tree_at ns i)) m.cubes (p.each i m (omega arith) h).cubes few in record {
        back = omega arith;
        few = few;
        behind = subst (λ t. IsBehind t (tree_at ns j) m.cubes) (sym whole) (subst (λ c. IsBehind (either (tree_at ns i) (tree_at ns j)) (tree_at ns j) c) kept (from_second (tree_at ns i) (tree_at ns j)));
      }

  pub to_first : m ≡ get_or ns j m → m.cubes ≡ 0 → IsJump ns at (record { to = i; cubes = 0; steps = 1 })
  to_first h z =
      let x = early.0 in
      let y = early.1 in
      let none : count (tree_at ns j) ≡ 0 = exact (count (tree_at ns j)) m.cubes (p.each j m (omega arith) h).cubes (omega arith) ∙ z in record {
        back = omega arith;
        few = omega arith;
        behind = subst (λ t. IsBehind t (tree_at ns i) 0) (sym whole) (from_only (tree_at ns i) (tree_at ns j) none);
      }

-- three jumps, one after another
pub jump_trans : (ns : List CubeNode) (at : ℕ) (a b c : Jump) → IsJump ns at a → IsJump ns a.to b → IsJump ns b.to c → a.cubes + b.cubes + c.cubes ≤ most_cubes → IsJump ns at (record { to = c.to; cubes = a.cubes + b.cubes + c.cubes; steps = a.steps + b.steps + c.steps })
jump_trans ns at a b c p q r l =
    let x = p.back in
    let y = q.back in
    let z = r.back in record {
      back = omega arith;
      few = l;
      behind = behind_trans (tree_at ns at) (tree_at ns b.to) (tree_at ns c.to) (a.cubes + b.cubes) c.cubes (behind_trans (tree_at ns at) (tree_at ns a.to) (tree_at ns b.to) a.cubes b.cubes p.behind q.behind) r.behind;
    }

-- the jumps of the nodes so far, and one more
pub jumps_none : (ns : List CubeNode) → AreJumps ns []
jumps_none ns = record { each = λ k j l. absurd (omega arith) }

pub jumps_more : (ns : List CubeNode) (js : List Jump) (at : ℕ) (j : Jump) → AreJumps ns js → length js ≡ at → IsJump ns at j → AreJumps ns (js ++ j ∷ [])
jumps_more ns js at j p s q = record {
  each = λ k d l. ⊎_elim
      (λ b. subst (λ x. IsJump ns k x) (sym (get_or_append_left js (j ∷ []) d k b)) (p.each k d b))
      (λ b.
      let last : k ≡ length js = omega (arith, length-append js (j ∷ [])) in
      subst (λ x. IsJump ns k x) (sym (got_last js j k d last)) (subst (λ x. IsJump ns x j) (sym (last ∙ s)) q))
      (cases_lt k (length js));
}

-- the cube of this number behind a jump
module _ (ns : List CubeNode) (at left : ℕ) (j : Jump) (p : IsJump ns at j) (d : IsNumberIn ns at left) (l : j.cubes ≤ left) where
  pub jumped : IsNumberIn ns j.to (left - j.cubes)
  jumped = let b = p.back in let w = d.within in let f = p.behind.within in let m = d.most in record {
    within = omega arith;
    below = p.behind.below left l d.below;
    most = omega arith;
  }

  pub jumped_is : cube_at (tree_at ns at) left ≡ cube_at (tree_at ns j.to) (left - j.cubes)
  jumped_is = p.behind.same left l d.below
