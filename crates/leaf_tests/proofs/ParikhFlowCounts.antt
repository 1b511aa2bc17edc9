-- Counts of the tests' machine balance: what is counted at a state is told by the states of edges and ends alone.
use Rattle.std.proofs.Common.{◌≡◌, ℕ, zero, suc, ◌+◌, ◌<◌, false, nat_eq, if◌then◌else◌, List, [], ◌∷◌, ◌++◌, length, map, take, drop, refl, sym, ap, ap₂, ◌∙◌, arith}
use Rattle.std.proofs.lemmas.Bool.Decides.{nat_tests}
use Rattle.std.proofs.lemmas.List.{length-map, length-append}
use Rattle.machine_core.specs.declared.graph.Graph.{Graph}
use Rattle.machine_core.specs.Edges.{from_of, at_of}
use Rattle.parikh_flow.specs.Counts.{counts_at, total_count, to_of, edge_counts, end_counts}
use Rattle.parikh_flow.specs.Balance.{AreBalanced, one_at}

pub by-states : {X : Type 0} (key : X → ℕ) (s : ℕ) (xs : List X) (f : List ℕ) → counts_at key s xs f ≡ counts_at (λ n. n) s (map key xs) f
by-states key s [] f = refl
by-states key s (x ∷ xs) [] = refl
by-states key s (x ∷ xs) (n ∷ f) = ap (λ r. (if nat_eq (key x) s then n else 0) + r) (by-states key s xs f)

-- the states of edges and ends, with counts that balance at each state
module _ (m : Graph) (sources targets places : List ℕ) (from : map from_of m.edges ≡ sources) (to : map to_of m.edges ≡ targets) (at : map at_of m.ends ≡ places)
    (edges ends : List ℕ) (first : length sources ≡ length edges) (last : length places ≡ length ends) where
  long : length m.edges ≡ length edges
  long = sym (length-map m.edges from_of) ∙ ap length from ∙ first

  split-edges : edge_counts m (edges ++ ends) ≡ edges
  split-edges = ap (λ n. take n (edges ++ ends)) long ∙ front edges
    where
      front : (xs : List ℕ) → take (length xs) (xs ++ ends) ≡ xs
      front [] = refl
      front (x ∷ xs) = ap (λ l. x ∷ l) (front xs)

  split-ends : end_counts m (edges ++ ends) ≡ ends
  split-ends = ap (λ n. drop n (edges ++ ends)) long ∙ back edges
    where
      back : (xs : List ℕ) → drop (length xs) (xs ++ ends) ≡ ends
      back [] = refl
      back (x ∷ xs) = back xs

  pub balanced-by : total_count ends ≡ 1
      → ((s : ℕ) → counts_at (λ n. n) s targets edges + one_at s 0 ≡ counts_at (λ n. n) s sources edges + counts_at (λ n. n) s places ends)
      → AreBalanced m (edges ++ ends)
  balanced-by one each = record {
    size = length-append edges ends ∙ ap₂ (λ (a b : ℕ). a + b) (sym long) (sym (sym (length-map m.ends at_of) ∙ ap length at ∙ last));
    one_end = ap total_count split-ends ∙ one;
    at_each = λ s.
        ap (λ n. n + one_at s 0) (ap (counts_at to_of s m.edges) split-edges ∙ by-states to_of s m.edges edges ∙ ap (λ l. counts_at (λ n. n) s l edges) to)
        ∙ each s
        ∙ sym (ap₂ (λ (a b : ℕ). a + b) (ap (counts_at from_of s m.edges) split-edges ∙ by-states from_of s m.edges edges ∙ ap (λ l. counts_at (λ n. n) s l edges) from)
        (ap (counts_at at_of s m.ends) split-ends ∙ by-states at_of s m.ends ends ∙ ap (λ l. counts_at (λ n. n) s l ends) at));
  }

-- no state of the machine is the sixth or one behind it
other : (k s : ℕ) → k < 6 → nat_eq k (suc (suc (suc (suc (suc (suc s)))))) ≡ false
other k s h = grind (arith, nat_tests)

-- one count for each edge of the word `a` and of the cycle of `ccc`
pub apart-balances : (m : Graph) → map from_of m.edges ≡ 0 ∷ 0 ∷ 2 ∷ 3 ∷ 4 ∷ 5 ∷ [] → map to_of m.edges ≡ 1 ∷ 2 ∷ 3 ∷ 4 ∷ 5 ∷ 3 ∷ [] → map at_of m.ends ≡ 1 ∷ 3 ∷ []
    → AreBalanced m (1 ∷ 0 ∷ 0 ∷ 1 ∷ 1 ∷ 1 ∷ 1 ∷ 0 ∷ [])
apart-balances m from to at = balanced-by m _ _ _ from to at (1 ∷ 0 ∷ 0 ∷ 1 ∷ 1 ∷ 1 ∷ []) (1 ∷ 0 ∷ []) refl refl refl each
  where
    each : (s : ℕ) → counts_at (λ n. n) s (1 ∷ 2 ∷ 3 ∷ 4 ∷ 5 ∷ 3 ∷ []) (1 ∷ 0 ∷ 0 ∷ 1 ∷ 1 ∷ 1 ∷ []) + one_at s 0
        ≡ counts_at (λ n. n) s (0 ∷ 0 ∷ 2 ∷ 3 ∷ 4 ∷ 5 ∷ []) (1 ∷ 0 ∷ 0 ∷ 1 ∷ 1 ∷ 1 ∷ []) + counts_at (λ n. n) s (1 ∷ 3 ∷ []) (1 ∷ 0 ∷ [])
    each zero = refl
    each (suc zero) = refl
    each (suc (suc zero)) = refl
    each (suc (suc (suc zero))) = refl
    each (suc (suc (suc (suc zero)))) = refl
    each (suc (suc (suc (suc (suc zero))))) = refl
    each (suc (suc (suc (suc (suc (suc s)))))) =
        rw (other 0 s (omega arith), other 1 s (omega arith), other 2 s (omega arith), other 3 s (omega arith), other 4 s (omega arith), other 5 s (omega arith)) refl

-- `bb`, and `ccc` twice
pub twice-balances : (m : Graph) → map from_of m.edges ≡ 0 ∷ 0 ∷ 2 ∷ 3 ∷ 4 ∷ 5 ∷ [] → map to_of m.edges ≡ 1 ∷ 2 ∷ 3 ∷ 4 ∷ 5 ∷ 3 ∷ [] → map at_of m.ends ≡ 1 ∷ 3 ∷ []
    → AreBalanced m (0 ∷ 1 ∷ 1 ∷ 2 ∷ 2 ∷ 2 ∷ 0 ∷ 1 ∷ [])
twice-balances m from to at = balanced-by m _ _ _ from to at (0 ∷ 1 ∷ 1 ∷ 2 ∷ 2 ∷ 2 ∷ []) (0 ∷ 1 ∷ []) refl refl refl each
  where
    each : (s : ℕ) → counts_at (λ n. n) s (1 ∷ 2 ∷ 3 ∷ 4 ∷ 5 ∷ 3 ∷ []) (0 ∷ 1 ∷ 1 ∷ 2 ∷ 2 ∷ 2 ∷ []) + one_at s 0
        ≡ counts_at (λ n. n) s (0 ∷ 0 ∷ 2 ∷ 3 ∷ 4 ∷ 5 ∷ []) (0 ∷ 1 ∷ 1 ∷ 2 ∷ 2 ∷ 2 ∷ []) + counts_at (λ n. n) s (1 ∷ 3 ∷ []) (0 ∷ 1 ∷ [])
    each zero = refl
    each (suc zero) = refl
    each (suc (suc zero)) = refl
    each (suc (suc (suc zero))) = refl
    each (suc (suc (suc (suc zero)))) = refl
    each (suc (suc (suc (suc (suc zero))))) = refl
    each (suc (suc (suc (suc (suc (suc s)))))) =
        rw (other 0 s (omega arith), other 1 s (omega arith), other 2 s (omega arith), other 3 s (omega arith), other 4 s (omega arith), other 5 s (omega arith)) refl
