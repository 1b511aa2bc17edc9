-- The next cubes, by their numbers.
use Rattle.std.proofs.Common.{◌≡◌, sym, subst, ℕ, zero, suc, ◌+◌, ◌-◌, ◌<◌, ◌≤◌, List, [], ◌∷◌, length, take, map, get_or, arith, ⊎_elim}
use Rattle.std.proofs.lemmas.Bool.{cases_lt}
use Rattle.std.specs.List.{AllByRecursion}
use Rattle.std.proofs.lemmas.List.{length-drop}
use Rattle.bool_cubes.specs.Contradictions.{IsContradictory, IsContradictoryCube}
use Rattle.bool_cubes.specs.Cubes.{count, cube, cubes}
use Rattle.bool_cubes.specs.Nodes.{IsPlan, tree_at}
use Rattle.bool_cubes.specs.Picking.{cube_at}
use Rattle.bool_cubes.specs.Refusing.{most_numbered}
use Rattle.bool_cubes.specs.Trees.{Tree}
use Rattle.bool_cubes.specs.declared.node.CubeNode.{CubeNode}
use Rattle.literal_forms.specs.declared.literal.Cube.{Cube}
use Rattle.bool_cubes.proofs.Gathered.{all_length, drop_get, get_map, rest_of}
use Rattle.bool_cubes.proofs.Picked.{picked}

taken_none : (xs : List Cube) → AllByRecursion IsContradictoryCube (take 0 xs)
taken_none [] = tt
taken_none (x ∷ xs) = tt

module _ (ns : List CubeNode) (root : ℕ) where
  rest_step : (given : ℕ) → given < count (tree_at ns root) → rest_of ns root given ≡ cube (cube_at (tree_at ns root) given) ∷ rest_of ns root (given + 1)
  rest_step given l = drop_get (map cube (cubes (tree_at ns root))) given (cube (cube_at (tree_at ns root) given)) (get_map (cubes (tree_at ns root)) given (cube_at (tree_at ns root) given) (picked (tree_at ns root) given l))

  pub ahead_within : (given n : ℕ) → given + n ≤ count (tree_at ns root) → n ≤ length (rest_of ns root given)
  ahead_within given n l = omega (arith, l, all_length ns root, length-drop given (map cube (cubes (tree_at ns root))))

  pub ahead_all : (given n : ℕ) → given + n ≤ count (tree_at ns root) → ((d : ℕ) → d < n → IsContradictory (cube_at (tree_at ns root) (given + d))) → AllByRecursion IsContradictoryCube (take n (rest_of ns root given))
  ahead_all given zero l f = taken_none (rest_of ns root given)
  ahead_all given (suc n) l f =
      let z : given + 0 ≡ given = omega arith in
      subst (λ xs. AllByRecursion IsContradictoryCube (take (suc n) xs)) (sym (rest_step given (omega (arith, l)))) (
        subst (λ k. IsContradictory (cube_at (tree_at ns root) k)) z (f 0 (omega arith)),
        ahead_all (given + 1) n (omega (arith, l)) (λ d b. let e : given + suc d ≡ given + 1 + d = omega arith in subst (λ k. IsContradictory (cube_at (tree_at ns root) k)) e (f (suc d) (omega (arith, b)))),
      )

-- the number of cubes that the root keeps
pub root_cubes : (ns : List CubeNode) (root : ℕ) (n : CubeNode) → IsPlan ns → root < length ns → n ≡ get_or ns root n → count (tree_at ns root) ≤ most_numbered → n.cubes ≡ count (tree_at ns root)
root_cubes ns root n p w g most = let e = (p.each root n w g).cubes in omega (arith, e, most)

-- a stretch behind another
pub joined : (t : Tree) (n a b : ℕ) → ((d : ℕ) → d < a → IsContradictory (cube_at t (n + d))) → ((d : ℕ) → d < b → IsContradictory (cube_at t (n + a + d))) → (d : ℕ) → d < a + b → IsContradictory (cube_at t (n + d))
joined t n a b f g d l = ⊎_elim
    (λ low. f d low)
    (λ high. let e : n + a + (d - a) ≡ n + d = omega (arith, high) in subst (λ k. IsContradictory (cube_at t k)) e (g (d - a) (omega (arith, high, l))))
    (cases_lt d a)

pub none_ahead : (t : Tree) (n d : ℕ) → d < 0 → IsContradictory (cube_at t (n + d))
none_ahead t n d l = absurd (omega (arith, l))
