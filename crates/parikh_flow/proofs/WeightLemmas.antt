-- Sums over counts: the value of the terms of a machine.
use Rattle.std.proofs.Common.{◌≡◌, ℕ, zero, suc, ◌+◌, ◌<◌, ℤ, pos, neg_ℤ, ◌+ℤ◌, ◌-ℤ◌, ◌*ℤ◌, List, [], ◌∷◌, length, nat_eq, Bool, true, false, cond, slice_get, slice_index, slice_set, Some, refl, ap, sym, ◌∙◌, subst, arith}
use Rattle.std.proofs.lemmas.Int.{ints}
use Rattle.sv_linear.specs.Terms.{terms_value}
use Rattle.sv_linear.specs.Integers.{mul-add}
use Rattle.sv_linear.proofs.Ascending.{terms_value-append}
use Rattle.machine_core.specs.declared.edge.Edge.{Edge}
use Rattle.machine_core.specs.declared.end.End.{End}
use Rattle.machine_core.specs.declared.graph.Graph.{Graph}
use Rattle.machine_core.specs.Edges.{from_of, at_of}
use Rattle.parikh_flow.specs.Counts.{counts_at, total_count, to_of, edge_counts, end_counts}
use Rattle.parikh_flow.specs.Rows.{terms_by, machine_terms, edge_balance, end_balance}
use Rattle.parikh_flow.specs.Solutions.{AreCountsAt}
use Rattle.parikh_flow.proofs.CountLemmas.{front-length, rest-length}
use Rattle.parikh_flow.proofs.RunLemmas.{index-take, index-drop}

-- each element's number times its count, added up
abbrev pub weighted : {X : Type 0} → (X → ℤ) → List X → List ℕ → ℤ
weighted by [] f = pos 0
weighted by (x ∷ xs) [] = pos 0
weighted by (x ∷ xs) (n ∷ f) = by x *ℤ pos n +ℤ weighted by xs f

pub terms-weighted : {X : Type 0} (by : X → ℤ) (x : ℕ → ℤ) (base : ℕ) (xs : List X) (f : List ℕ) → length f ≡ length xs
    → ((k : ℕ) → k < length xs → x (base + k) ≡ pos (slice_index f k)) → terms_value x (terms_by by base xs) ≡ weighted by xs f
terms-weighted by x base [] f e h = refl
terms-weighted by x base (y ∷ ys) [] e h = absurd (omega arith)
terms-weighted by x base (y ∷ ys) (n ∷ f) e h =
    let zero_more : base + 0 ≡ base = omega arith in
    let here : x base ≡ pos n = subst (λ b. x b ≡ pos n) zero_more (h zero (omega arith)) in
    let rest = terms-weighted by x (suc base) ys f (omega arith) (λ k lt. subst (λ b. x b ≡ pos (slice_index f k)) (omega arith) (h (suc k) (omega arith))) in
    ap (λ v. by y *ℤ v +ℤ terms_value x (terms_by by (suc base) ys)) here ∙ ap (λ v. by y *ℤ pos n +ℤ v) rest

-- the value of a machine's terms at its counts
module _ (x : ℕ → ℤ) (base : ℕ) (m : Graph) (f : List ℕ) (counts : AreCountsAt x base m f) where
  pub edge_value : (by : Edge → ℤ) → terms_value x (terms_by by base m.edges) ≡ weighted by m.edges (edge_counts m f)
  edge_value by = terms-weighted by x base m.edges (edge_counts m f) (front-length f (length m.edges) (length m.ends) counts.size)
      (λ k lt. counts.values k (omega arith) ∙ ap pos (sym (index-take f (length m.edges) k lt)))

  pub end_value : (by : End → ℤ) → terms_value x (terms_by by (base + length m.edges) m.ends) ≡ weighted by m.ends (end_counts m f)
  end_value by = terms-weighted by x (base + length m.edges) m.ends (end_counts m f) (rest-length f (length m.edges) (length m.ends) counts.size)
      (λ k lt. subst (λ b. x b ≡ pos (slice_index (end_counts m f) k)) (omega arith)
      (counts.values (length m.edges + k) (omega arith) ∙ ap pos (sym (index-drop f (length m.edges) k))))

  pub machine_value : (of_edge : Edge → ℤ) (of_end : End → ℤ) → terms_value x (machine_terms of_edge of_end base m) ≡ weighted of_edge m.edges (edge_counts m f) +ℤ weighted of_end m.ends (end_counts m f)
  machine_value of_edge of_end =
      terms_value-append x (terms_by of_edge base m.edges) (terms_by of_end (base + length m.edges) m.ends)
      ∙ ap (λ v. v +ℤ terms_value x (terms_by of_end (base + length m.edges) m.ends)) (edge_value of_edge)
      ∙ ap (λ v. weighted of_edge m.edges (edge_counts m f) +ℤ v) (end_value of_end)

-- a number at a key: that times the count, or nothing
keyed : (a b : Bool) (n : ℕ) → (cond a (pos 1) (pos 0) +ℤ neg_ℤ (cond b (pos 1) (pos 0))) *ℤ pos n ≡ pos (cond a n 0) -ℤ pos (cond b n 0)
keyed true true n = omega (arith, ints)
keyed true false n = omega (arith, ints)
keyed false true n = omega (arith, ints)
keyed false false n = omega (arith, ints)

pub weighted-balance : (s : ℕ) (edges : List Edge) (f : List ℕ) → weighted (edge_balance s) edges f ≡ pos (counts_at to_of s edges f) -ℤ pos (counts_at from_of s edges f)
weighted-balance s [] f = refl
weighted-balance s (e ∷ es) [] = refl
weighted-balance s (e ∷ es) (n ∷ f) =
    let here = keyed (nat_eq e.to s) (nat_eq e.from s) n in
    let rest = weighted-balance s es f in
    omega (arith, ints, here, rest)

keyed_end : (a : Bool) (n : ℕ) → neg_ℤ (cond a (pos 1) (pos 0)) *ℤ pos n ≡ neg_ℤ (pos (cond a n 0))
keyed_end true n = omega (arith, ints)
keyed_end false n = omega (arith, ints)

pub weighted-ends : (s : ℕ) (ends : List End) (f : List ℕ) → weighted (end_balance s) ends f ≡ neg_ℤ (pos (counts_at at_of s ends f))
weighted-ends s [] f = refl
weighted-ends s (e ∷ es) [] = refl
weighted-ends s (e ∷ es) (n ∷ f) =
    let here = keyed_end (nat_eq e.at s) n in
    let rest = weighted-ends s es f in
    omega (arith, ints, here, rest)

pub weighted-one : {X : Type 0} (xs : List X) (f : List ℕ) → length f ≡ length xs → weighted (λ _. pos 1) xs f ≡ pos (total_count f)
weighted-one [] [] e = refl
weighted-one [] (n ∷ f) e = absurd (omega arith)
weighted-one (x ∷ xs) [] e = absurd (omega arith)
weighted-one (x ∷ xs) (n ∷ f) e = let rest = weighted-one xs f (omega arith) in omega (arith, ints, rest)

pub weighted-zero : {X : Type 0} (xs : List X) (f : List ℕ) → weighted (λ _. pos 0) xs f ≡ pos 0
weighted-zero [] f = refl
weighted-zero (x ∷ xs) [] = refl
weighted-zero (x ∷ xs) (n ∷ f) = let rest = weighted-zero xs f in omega (arith, ints, rest)

-- one count that falls by one takes its number off
pub weighted-fall : {X : Type 0} (by : X → ℤ) (xs : List X) (f : List ℕ) (p n : ℕ) (y : X) → slice_get xs p ≡ Some y → slice_index f p ≡ suc n
    → weighted by xs f ≡ weighted by xs (slice_set f p n) +ℤ by y
weighted-fall by [] f p n y e g = cc
weighted-fall by (x ∷ xs) [] zero n y e g = cc
weighted-fall by (x ∷ xs) [] (suc p) n y e g = cc
weighted-fall by (x ∷ xs) (m ∷ f) zero n y e g =
    let same : x ≡ y = cc in
    let one : pos (suc n) ≡ pos n +ℤ pos 1 = omega (arith, ints) in
    let product = ap (λ k. by x *ℤ pos k) g ∙ ap (λ z. by x *ℤ z) one ∙ mul-add (by x) (pos n) (pos 1) in
    let own : by x *ℤ pos 1 ≡ by y = omega (arith, ints, ap by same) in
    omega (arith, ints, product, own)
weighted-fall by (x ∷ xs) (m ∷ f) (suc p) n y e g = let r = weighted-fall by xs f p n y e g in omega (arith, ints, r)

pub weighted-none : {X : Type 0} (by : X → ℤ) (xs : List X) (f : List ℕ) → ((p : ℕ) → slice_index f p ≡ 0) → weighted by xs f ≡ pos 0
weighted-none by [] f h = refl
weighted-none by (x ∷ xs) [] h = refl
weighted-none by (x ∷ xs) (n ∷ f) h =
    let here = ap (λ k. by x *ℤ pos k) (h zero) in
    let nothing : by x *ℤ pos 0 ≡ pos 0 = omega (arith, ints) in
    let rest = weighted-none by xs f (λ p. h (suc p)) in
    omega (arith, ints, here, nothing, rest)
