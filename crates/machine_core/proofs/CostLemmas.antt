-- The steps of loops that add costs up.
use Rattle.std.proofs.Common.{◌≡◌, ℕ, zero, suc, ◌+◌, ◌<◌, ◌≤◌, ◌^◌, inl, inr, List, [], ◌∷◌, ◌++◌, length, slice_index, take, get_or, All, refl, ap, sym, ◌∙◌, subst, arith}
use Rattle.std.proofs.lemmas.List.{take_more, take_all}
use Rattle.std.specs.declared.alloc.AllocError.{AllocError}
use Rattle.sv_list.specs.Lists.{below_next-cases}
use Rattle.machine_core.specs.Costs.{add_costs, entry_total, total_of, IsFirstPast}
use Rattle.machine_core.specs.CostLaws.{total_of-entry, total_of-length}
use Rattle.machine_core.specs.declared.run.CostFault.TheVariants.{Past, Memory}

pub take-add_costs : (xs ys : List ℕ) (i : ℕ) → length xs ≡ length ys → i < length xs
    → take (suc i) (add_costs xs ys) ≡ take i (add_costs xs ys) ++ (slice_index xs i + slice_index ys i) ∷ []
take-add_costs [] ys i e h = absurd (omega (arith, h))
take-add_costs (x ∷ xs) [] i e h = absurd (omega (arith, e))
take-add_costs (x ∷ xs) (y ∷ ys) zero e h = refl
take-add_costs (x ∷ xs) (y ∷ ys) (suc i) e h = ap (λ l. (x + y) ∷ l) (take-add_costs xs ys i (omega (arith, e)) (omega (arith, h)))

pub take-all_costs : (xs ys : List ℕ) → length xs ≡ length ys → take (length xs) (add_costs xs ys) ≡ add_costs xs ys
take-all_costs [] ys e = refl
take-all_costs (x ∷ xs) [] e = absurd (omega (arith, e))
take-all_costs (x ∷ xs) (y ∷ ys) e = ap (λ l. (x + y) ∷ l) (take-all_costs xs ys (omega (arith, e)))

entry_total-push : (register : ℕ) (costs : List (List ℕ)) (k : List ℕ) (last : ℕ)
    → entry_total register (costs ++ k ∷ []) last ≡ entry_total register costs last + slice_index k register
entry_total-push register [] k last = omega arith
entry_total-push register (x ∷ costs) k last = let r = entry_total-push register costs k last in omega (arith, r)

-- one more cost at a register
pub entry_total-more : (register : ℕ) (costs : List (List ℕ)) (last i : ℕ) (k : List ℕ) → i < length costs → k ≡ get_or costs i k
    → entry_total register (take (i + 1) costs) last ≡ entry_total register (take i costs) last + slice_index k register
entry_total-more register costs last i k lt e =
    ap (λ l. entry_total register l last) (take_more costs i k lt ∙ ap (λ (x : List ℕ). take i costs ++ x ∷ []) (sym e))
    ∙ entry_total-push register (take i costs) k last

-- and never less than before
entry_total-take : (register : ℕ) (costs : List (List ℕ)) (last i : ℕ) → entry_total register (take i costs) last ≤ entry_total register costs last
entry_total-take register [] last zero = omega arith
entry_total-take register [] last (suc i) = omega arith
entry_total-take register (k ∷ costs) last zero = let r = entry_total-take register costs last zero in omega (arith, r)
entry_total-take register (k ∷ costs) last (suc i) = let r = entry_total-take register costs last i in omega (arith, r)

-- the step of a loop over the costs: the sum so far and one number more
pub entry-step : (register : ℕ) (costs : List (List ℕ)) (last i : ℕ) (k : List ℕ) (sum entry new : ℕ) → i < length costs → k ≡ get_or costs i k
    → sum ≡ entry_total register (take i costs) last → entry ≡ slice_index k register → new ≡ sum + entry
    → new ≡ entry_total register (take (i + 1) costs) last
entry-step register costs last i k sum entry new lt e a b d = d ∙ ap (λ s. s + entry) a ∙ ap (λ n. entry_total register (take i costs) last + n) b ∙ sym (entry_total-more register costs last i k lt e)

-- a sum past 64 bits on the way is past them in the end
pub entry-past : (register : ℕ) (costs : List (List ℕ)) (last i : ℕ) (k : List ℕ) (sum entry : ℕ) → i < length costs → k ≡ get_or costs i k
    → sum ≡ entry_total register (take i costs) last → entry ≡ slice_index k register → 2 ^ 64 ≤ sum + entry
    → 2 ^ 64 ≤ entry_total register costs last
entry-past register costs last i k sum entry lt e a b d =
    let m = entry_total-more register costs last i k lt e in
    let t = entry_total-take register costs last (i + 1) in
    omega (arith, m, t, a, b, d)

module _ (costs : List (List ℕ)) (last : List ℕ) (wide : All (λ k. length k ≡ length last) costs) where
  pub total-width : length (total_of costs last) ≡ length last
  total-width = total_of-length costs last (length last) wide refl

  -- the sum at one register more
  pub total-step : (sum new : List ℕ) (i entry n : ℕ) → i < length last → n ≡ slice_index last i → sum ≡ take i (total_of costs last)
      → entry ≡ entry_total i costs n → new ≡ sum ++ entry ∷ [] → new ≡ take (i + 1) (total_of costs last)
  total-step sum new i entry n lt at a b d =
      let here : entry ≡ slice_index (total_of costs last) i = b ∙ ap (entry_total i costs) at ∙ sym (total_of-entry costs last i wide) in
      let inside : i < length (total_of costs last) = subst (λ n. i < n) (sym total-width) lt in
      d ∙ ap (λ l. l ++ entry ∷ []) a ∙ ap (λ m. take i (total_of costs last) ++ m ∷ []) here ∙ sym (take_more (total_of costs last) i 0 inside)

  -- and it fits too
  pub fits-step : (i entry n : ℕ) → n ≡ slice_index last i → ((k : ℕ) → k < i → slice_index (total_of costs last) k < 2 ^ 64)
      → entry ≡ entry_total i costs n → entry < 2 ^ 64 → (k : ℕ) → k < i + 1 → slice_index (total_of costs last) k < 2 ^ 64
  fits-step i entry n at so_far b small k lt = elim (below_next-cases k i lt) [
    | inl h ↦ so_far k h
    | inr h ↦ (
        let here : entry ≡ slice_index (total_of costs last) i = b ∙ ap (entry_total i costs) at ∙ sym (total_of-entry costs last i wide) in
        subst (λ j. slice_index (total_of costs last) j < 2 ^ 64) (sym h) (subst (λ m. m < 2 ^ 64) here small))
  ]

  -- all registers are added up
  pub total-done : (sum : List ℕ) (i : ℕ) → length last ≤ i → sum ≡ take i (total_of costs last) → sum ≡ total_of costs last
  total-done sum i h a = a ∙ take_all i (total_of costs last) (subst (λ n. n ≤ i) (sym total-width) h)

  -- the first sum past 64 bits
  pub first-past : (i n : ℕ) → n ≡ slice_index last i → ((k : ℕ) → k < i → slice_index (total_of costs last) k < 2 ^ 64)
      → 2 ^ 64 ≤ entry_total i costs n → IsFirstPast (total_of costs last) i
  first-past i n at so_far big = record {
    past = subst (λ m. 2 ^ 64 ≤ m) (ap (entry_total i costs) at ∙ sym (total_of-entry costs last i wide)) big;
    first = so_far;
  }

-- want of memory isn't a register
pub memory-not-past : {C : Type 0} (n : ℕ) (a : AllocError) → Past n ≡ Memory a → C
memory-not-past n a e = absurd cc
