-- Laws of sums and of greatest numbers.
use Rattle.std.specs.Prelude.{◌≡◌, ℕ, zero, suc, ◌+◌, ◌<◌, ◌≤◌, ◌^◌, max, List, [], ◌∷◌, ◌++◌, length, slice_index, Contains, All}
use Rattle.std.proofs.Common.{arith, refl, sym, ap, ◌∙◌}
use Rattle.std.proofs.lemmas.List.{length-replicate}
use Rattle.machine_core.specs.Costs.{add_costs, zeros, total_of, entry_total, IsCost, CanAdd, top_by, cost_top}

pub zeros-length : (n : ℕ) → length (zeros n) ≡ n
zeros-length n = length-replicate n 0

pub zeros-entry : (n k : ℕ) → slice_index (zeros n) k ≡ 0
zeros-entry zero k = refl
zeros-entry (suc n) zero = refl
zeros-entry (suc n) (suc k) = zeros-entry n k

pub add_costs-length : (xs ys : List ℕ) (n : ℕ) → length xs ≡ n → length ys ≡ n → length (add_costs xs ys) ≡ n
add_costs-length [] ys n p q = p
add_costs-length (x ∷ xs) [] n p q = q
add_costs-length (x ∷ xs) (y ∷ ys) zero p q = absurd (omega arith)
add_costs-length (x ∷ xs) (y ∷ ys) (suc n) p q = ap suc (add_costs-length xs ys n (omega arith) (omega arith))

-- a sum's number is the sum of the numbers
pub add_costs-entry : (xs ys : List ℕ) (k : ℕ) → length xs ≡ length ys → slice_index (add_costs xs ys) k ≡ slice_index xs k + slice_index ys k
add_costs-entry [] [] k e = omega arith
add_costs-entry [] (y ∷ ys) k e = absurd (omega arith)
add_costs-entry (x ∷ xs) [] k e = absurd (omega arith)
add_costs-entry (x ∷ xs) (y ∷ ys) zero e = refl
add_costs-entry (x ∷ xs) (y ∷ ys) (suc k) e = add_costs-entry xs ys k (omega arith)

-- and never more, whatever the lengths
pub add_costs-most : (xs ys : List ℕ) (k : ℕ) → slice_index (add_costs xs ys) k ≤ slice_index xs k + slice_index ys k
add_costs-most [] ys k = omega arith
add_costs-most (x ∷ xs) [] k = omega arith
add_costs-most (x ∷ xs) (y ∷ ys) zero = omega arith
add_costs-most (x ∷ xs) (y ∷ ys) (suc k) = add_costs-most xs ys k

pub add_costs-comm : (xs ys : List ℕ) → add_costs xs ys ≡ add_costs ys xs
add_costs-comm [] [] = refl
add_costs-comm [] (y ∷ ys) = refl
add_costs-comm (x ∷ xs) [] = refl
add_costs-comm (x ∷ xs) (y ∷ ys) =
    let head : x + y ≡ y + x = omega arith in
    let rest = add_costs-comm xs ys in
    cc

pub add_costs-assoc : (xs ys zs : List ℕ) → add_costs (add_costs xs ys) zs ≡ add_costs xs (add_costs ys zs)
add_costs-assoc [] ys zs = refl
add_costs-assoc (x ∷ xs) [] zs = refl
add_costs-assoc (x ∷ xs) (y ∷ ys) [] = refl
add_costs-assoc (x ∷ xs) (y ∷ ys) (z ∷ zs) =
    let head : x + y + z ≡ x + (y + z) = omega arith in
    let rest = add_costs-assoc xs ys zs in
    cc

-- of two pairs of costs, the sum by pairs is the sum across them
pub add_costs-swap : (us xs vs ys : List ℕ) → add_costs (add_costs us xs) (add_costs vs ys) ≡ add_costs (add_costs us vs) (add_costs xs ys)
add_costs-swap us xs vs ys =
    add_costs-assoc us xs (add_costs vs ys)
    ∙ ap (add_costs us) (sym (add_costs-assoc xs vs ys) ∙ ap (λ l. add_costs l ys) (add_costs-comm xs vs) ∙ add_costs-assoc vs xs ys)
    ∙ sym (add_costs-assoc us vs (add_costs xs ys))

pub add_costs-zeros : (xs : List ℕ) (n : ℕ) → length xs ≡ n → add_costs xs (zeros n) ≡ xs
add_costs-zeros [] n e = refl
add_costs-zeros (x ∷ xs) zero e = absurd (omega arith)
add_costs-zeros (x ∷ xs) (suc n) e =
    let head : x + 0 ≡ x = omega arith in
    let rest = add_costs-zeros xs n (omega arith) in
    cc

pub zeros-add_costs : (xs : List ℕ) (n : ℕ) → length xs ≡ n → add_costs (zeros n) xs ≡ xs
zeros-add_costs xs n e = add_costs-comm (zeros n) xs ∙ add_costs-zeros xs n e

pub zeros-add_costs-zeros : (n : ℕ) → add_costs (zeros n) (zeros n) ≡ zeros n
zeros-add_costs-zeros n = add_costs-zeros (zeros n) n (zeros-length n)

pub IsCost-zeros : (width top : ℕ) → IsCost width top (zeros width)
IsCost-zeros width top = record { entries = zeros-length width; below = λ k. let e = zeros-entry width k in omega arith }

pub IsCost-add : (width s t : ℕ) (a b : List ℕ) → IsCost width s a → IsCost width t b → IsCost width (s + t) (add_costs a b)
IsCost-add width s t a b p q = record {
  entries = add_costs-length a b width p.entries q.entries;
  below = λ k. let e = add_costs-most a b k in let l = p.below k in let r = q.below k in omega arith;
}

pub IsCost-weaker : (width s t : ℕ) (a : List ℕ) → s ≤ t → IsCost width s a → IsCost width t a
IsCost-weaker width s t a h p = record { entries = p.entries; below = λ k. let e = p.below k in omega arith }

-- two costs whose greatest numbers add up below 2^64 can be added
pub CanAdd-within : (width s t : ℕ) (a b : List ℕ) → s + t < 2 ^ 64 → IsCost width s a → IsCost width t b → CanAdd a b
CanAdd-within width s t a b h p q = record {
  same = p.entries ∙ sym q.entries;
  fits = λ k. let l = p.below k in let r = q.below k in omega arith;
}

pub total_of-length : (costs : List (List ℕ)) (last : List ℕ) (n : ℕ) → All (λ k. length k ≡ n) costs → length last ≡ n → length (total_of costs last) ≡ n
total_of-length [] last n h e = e
total_of-length (k ∷ costs) last n h e =
    add_costs-length k (total_of costs last) n (h zero k (omega arith)) (total_of-length costs last n (λ i d l. h (suc i) d (omega arith)) e)

pub total_of-append : (costs more : List (List ℕ)) (last : List ℕ) → total_of (costs ++ more) last ≡ total_of costs (total_of more last)
total_of-append [] more last = refl
total_of-append (k ∷ costs) more last = ap (add_costs k) (total_of-append costs more last)

-- the total at a register is the sum of what each cost has there
pub total_of-entry : (costs : List (List ℕ)) (last : List ℕ) (register : ℕ) → All (λ k. length k ≡ length last) costs
    → slice_index (total_of costs last) register ≡ entry_total register costs (slice_index last register)
total_of-entry [] last register h = refl
total_of-entry (k ∷ costs) last register h =
    let more : All (λ k. length k ≡ length last) costs = λ i d l. h (suc i) d (omega arith) in
    let same : length k ≡ length (total_of costs last) = h zero k (omega arith) ∙ sym (total_of-length costs last (length last) more refl) in
    add_costs-entry k (total_of costs last) register same ∙ ap (λ n. slice_index k register + n) (total_of-entry costs last register more)

-- no element is above the greatest
pub top_by-at : {X : Type 0} (f : X → ℕ) (xs : List X) (x : X) → Contains xs x → f x ≤ top_by f xs
top_by-at f [] x (k, lt, e) = absurd (omega arith)
top_by-at f (y ∷ ys) x (zero, lt, e) = let same = ap f e in omega arith
top_by-at f (y ∷ ys) x (suc k, lt, e) = let rest = top_by-at f ys x (k, omega arith, e) in omega arith

-- and nothing less will do
pub top_by-least : {X : Type 0} (f : X → ℕ) (xs : List X) (bound : ℕ) → ((x : X) → Contains xs x → f x ≤ bound) → top_by f xs ≤ bound
top_by-least f [] bound h = omega arith
top_by-least f (x ∷ xs) bound h =
    let here = h x (zero, omega arith, refl) in
    let rest = top_by-least f xs bound (λ y k. h y (suc k.0, omega (arith, k.1), k.2)) in
    omega arith

pub top_by-append : {X : Type 0} (f : X → ℕ) (xs ys : List X) → top_by f (xs ++ ys) ≡ max (top_by f xs) (top_by f ys)
top_by-append f [] ys = omega arith
top_by-append f (x ∷ xs) ys = let rest = top_by-append f xs ys in omega arith

pub top_by-push : {X : Type 0} (f : X → ℕ) (xs : List X) (x : X) → top_by f (xs ++ x ∷ []) ≡ max (top_by f xs) (f x)
top_by-push f xs x = let e = top_by-append f xs (x ∷ []) in omega arith

pub cost_top-at : (cost : List ℕ) (k : ℕ) → slice_index cost k ≤ cost_top cost
cost_top-at [] k = omega arith
cost_top-at (x ∷ xs) zero = omega arith
cost_top-at (x ∷ xs) (suc k) = let rest = cost_top-at xs k in omega arith

-- the greatest number, from a bound at each register
pub cost_top-least : (cost : List ℕ) (bound : ℕ) → ((k : ℕ) → slice_index cost k ≤ bound) → cost_top cost ≤ bound
cost_top-least [] bound h = omega arith
cost_top-least (x ∷ xs) bound h = let here = h zero in let rest = cost_top-least xs bound (λ k. h (suc k)) in omega arith

pub cost_top-zeros : (n : ℕ) → cost_top (zeros n) ≡ 0
cost_top-zeros zero = refl
cost_top-zeros (suc n) = let rest = cost_top-zeros n in omega arith
