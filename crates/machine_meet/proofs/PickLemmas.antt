-- One cost out of each list.
use Rattle.std.proofs.Common.{◌≡◌, ℕ, zero, suc, ◌+◌, ◌<◌, ◌≤◌, List, [], ◌∷◌, ◌++◌, length, take, reverse, get_or, slice_index, Any, Some, None, Option, refl, ap, sym, ◌∙◌, subst, arith, inl, inr}
use Rattle.machine_core.specs.Costs.{add_costs, zeros, sum_costs}
use Rattle.machine_core.specs.CostLaws.{add_costs-length, add_costs-entry, zeros-length}
use Rattle.std.proofs.Common.{add-one}
use Rattle.std.proofs.lemmas.List.{length-take-le, take_all, reverse-append}
use Rattle.sv_list.specs.Lists.{Any-none, Any-here, Any-cases, Any-push_cases}
use Rattle.machine_meet.proofs.JoinLemmas.{take-push}
use Rattle.machine_meet.specs.Splits.{Picks, IsPick, AreCostsWide, IsRest}

-- the costs that are picked out of lists of costs of this width have their sum in it
pub picked-length : (width : ℕ) (os : List (List (List ℕ))) (ks : List (List ℕ)) → AreCostsWide width os → Picks os ks → length (sum_costs width ks) ≡ width
picked-length width [] [] wide p = zeros-length width
picked-length width [] (k ∷ ks) wide p = absurd p
picked-length width (o ∷ os) [] wide p = absurd p
picked-length width (o ∷ os) (k ∷ ks) wide p = add_costs-length k (sum_costs width ks) width (wide.0 k p.0) (picked-length width os ks wide.1 p.1)

-- a sum of lists of one length, after one number more
pub add_costs-push : (xs ys : List ℕ) (x y : ℕ) → length xs ≡ length ys → add_costs (xs ++ x ∷ []) (ys ++ y ∷ []) ≡ add_costs xs ys ++ (x + y) ∷ []
add_costs-push [] [] x y e = refl
add_costs-push [] (b ∷ ys) x y e = absurd (omega arith)
add_costs-push (a ∷ xs) [] x y e = absurd (omega arith)
add_costs-push (a ∷ xs) (b ∷ ys) x y e = ap (λ l. (a + b) ∷ l) (add_costs-push xs ys x y (omega arith))

-- where a number of the part is above that of the whole, nothing is left
pub none-left : (whole part : List ℕ) (k : ℕ) → length part ≡ length whole → slice_index whole k < slice_index part k
    → (rest : List ℕ) → IsRest whole part rest → ⊥
none-left whole part k e lt rest r =
    let same : length part ≡ length rest = e ∙ sym r.0 in
    let entry = add_costs-entry part rest k same in
    let at = ap (λ l. slice_index l k) r.1 in
    omega arith

-- one addend and the sum give the other addend
add_costs-cancel : (k xs ys : List ℕ) → length k ≡ length xs → length k ≡ length ys → add_costs k xs ≡ add_costs k ys → xs ≡ ys
add_costs-cancel [] [] [] p q e = refl
add_costs-cancel [] [] (y ∷ ys) p q e = absurd (omega arith)
add_costs-cancel [] (x ∷ xs) ys p q e = absurd (omega arith)
add_costs-cancel (n ∷ k) [] ys p q e = absurd (omega arith)
add_costs-cancel (n ∷ k) (x ∷ xs) [] p q e = absurd (omega arith)
add_costs-cancel (n ∷ k) (x ∷ xs) (y ∷ ys) p q e =
    let first : n + x ≡ n + y = cc in
    let rest : add_costs k xs ≡ add_costs k ys = cc in
    let head : x ≡ y = omega arith in
    let tail = add_costs-cancel k xs ys (omega arith) (omega arith) rest in
    cc

-- nothing is left for the others
pub after-none : (cost want : List ℕ) (rest : List (List (List ℕ))) → length cost ≡ length want → AreCostsWide (length want) rest
    → ((left : List ℕ) → IsRest want cost left → ⊥) → IsPick ((cost ∷ []) ∷ rest) want None
after-none cost want rest e wide wrong [] p sum = absurd p
after-none cost want rest e wide wrong (k ∷ ks) p sum = elim (Any-cases (λ e. e ≡ k) cost [] p.0) [
  | inl h ↦ wrong (sum_costs (length want) ks) (picked-length (length want) rest ks wide p.1, ap (λ l. add_costs l (sum_costs (length want) ks)) h ∙ sum)
  | inr h ↦ Any-none (λ e. e ≡ k) h
]

-- the others have no costs that add up to what is left
pub after-left : (cost want left : List ℕ) (rest : List (List (List ℕ))) → length cost ≡ length want → AreCostsWide (length want) rest
    → IsRest want cost left → IsPick rest left None → IsPick ((cost ∷ []) ∷ rest) want None
after-left cost want left rest e wide l wrong [] p sum = absurd p
after-left cost want left rest e wide l wrong (k ∷ ks) p sum = elim (Any-cases (λ e. e ≡ k) cost [] p.0) [
  | inl h ↦
      let n = length want in
      let long : length (sum_costs n ks) ≡ n = picked-length n rest ks wide p.1 in
      let both : add_costs cost (sum_costs n ks) ≡ add_costs cost left = ap (λ x. add_costs x (sum_costs n ks)) h ∙ sum ∙ sym l.1 in
      let same : sum_costs n ks ≡ left = add_costs-cancel cost (sum_costs n ks) left (e ∙ sym long) (e ∙ sym l.0) both in
      wrong ks p.1 (subst (λ m. sum_costs m ks ≡ left) (sym l.0) same)
  | inr h ↦ Any-none (λ e. e ≡ k) h
]

pub after-some : (cost want left : List ℕ) (rest : List (List (List ℕ))) (ks all : List (List ℕ)) → IsRest want cost left
    → IsPick rest left (Some ks) → all ≡ cost ∷ ks → IsPick ((cost ∷ []) ∷ rest) want (Some all)
after-some cost want left rest ks all l p e =
    subst (λ x. IsPick ((cost ∷ []) ∷ rest) want (Some x)) (sym e)
    ((Any-here (λ x. x ≡ cost) cost [] refl, p.0), ap (add_costs cost) (subst (λ m. sum_costs m ks ≡ left) l.0 p.1) ∙ l.1)

-- the same, where the costs are listed from the last one
pub after-turned : (cost want left : List ℕ) (rest : List (List (List ℕ))) (ks all : List (List ℕ)) → IsRest want cost left
    → IsPick rest left (Some (reverse ks)) → all ≡ ks ++ cost ∷ [] → IsPick ((cost ∷ []) ∷ rest) want (Some (reverse all))
after-turned cost want left rest ks all l p e = after-some cost want left rest (reverse ks) (reverse all) l p (ap reverse e ∙ reverse-append ks (cost ∷ []))

-- no cost of these goes with costs of the others
abbrev pub NoneOf : List (List ℕ) → List (List (List ℕ)) → List ℕ → Type 0
NoneOf costs rest want = (k : List ℕ) (ks : List (List ℕ)) → Any (λ e. e ≡ k) costs → Picks rest ks → add_costs k (sum_costs (length want) ks) ≡ want → ⊥

pub none-of-start : (rest : List (List (List ℕ))) (want : List ℕ) → NoneOf [] rest want
none-of-start rest want k ks a p e = Any-none (λ e. e ≡ k) a

pub none-of-more : (costs : List (List ℕ)) (cost want : List ℕ) (rest : List (List (List ℕ))) → NoneOf costs rest want
    → IsPick ((cost ∷ []) ∷ rest) want None → NoneOf (costs ++ cost ∷ []) rest want
none-of-more costs cost want rest wrong last k ks a p e = elim (Any-push_cases (λ e. e ≡ k) costs cost a) [
  | inl h ↦ wrong k ks h p e
  | inr h ↦ last (k ∷ ks) (Any-here (λ e. e ≡ k) cost [] h, p) e
]

pub none-of-all : (costs : List (List ℕ)) (rest : List (List (List ℕ))) (want : List ℕ) → NoneOf costs rest want → IsPick (costs ∷ rest) want None
none-of-all costs rest want wrong [] p e = absurd p
none-of-all costs rest want wrong (k ∷ ks) p e = wrong k ks p.0 p.1 e

-- what is left, one register further
pub left-next : (whole part rest new : List ℕ) (i taken left entry : ℕ) → i < length whole → i < length part → length rest ≡ i → taken ≡ get_or part i 0 → entry ≡ get_or whole i 0 → taken + left ≡ entry
    → new ≡ rest ++ left ∷ [] → add_costs (take i part) rest ≡ take i whole → add_costs (take (i + 1) part) new ≡ take (i + 1) whole
left-next whole part rest new i taken left entry lw lp count et ew sum pushed h =
    let grown : take (i + 1) part ≡ take i part ++ taken ∷ [] = rw add-one (take-push part i 0 lp ∙ ap (λ x. take i part ++ x ∷ []) (sym et)) in
    let whole-grown : take (i + 1) whole ≡ take i whole ++ entry ∷ [] = rw add-one (take-push whole i 0 lw ∙ ap (λ x. take i whole ++ x ∷ []) (sym ew)) in
    let same : length (take i part) ≡ length rest = length-take-le i part (omega arith) ∙ sym count in
    ap (add_costs (take (i + 1) part)) pushed ∙ ap (λ l. add_costs l (rest ++ left ∷ [])) grown ∙ add_costs-push (take i part) rest taken left same
    ∙ ap (λ l. l ++ (taken + left) ∷ []) h ∙ ap (λ x. take i whole ++ x ∷ []) sum ∙ sym whole-grown

-- nothing at one register more
pub zeros-next : (want : List ℕ) (i : ℕ) → i < length want → get_or want i 0 ≡ 0 → take i want ≡ zeros i → take (i + 1) want ≡ zeros (i + 1)
zeros-next want i lt none h = rw add-one (take-push want i 0 lt ∙ ap (λ x. take i want ++ x ∷ []) none ∙ ap (λ l. l ++ 0 ∷ []) h ∙ push i)
  where
    push : (n : ℕ) → zeros n ++ 0 ∷ [] ≡ zeros (suc n)
    push zero = refl
    push (suc n) = ap (λ l. 0 ∷ l) (push n)

pub left-all : (whole part rest : List ℕ) (i : ℕ) → length whole ≤ i → i ≤ length whole → length rest ≡ i → length part ≡ length whole
    → add_costs (take i part) rest ≡ take i whole → IsRest whole part rest
left-all whole part rest i low high count same h =
    let long : length rest ≡ length whole = omega arith in
    let one : take i part ≡ part = take_all i part (omega arith) in
    let two : take i whole ≡ whole = take_all i whole low in
    (long, ap (λ l. add_costs l rest) (sym one) ∙ h ∙ two)

-- one cost more that goes with none of the others' costs
pub none-of-next : (costs : List (List ℕ)) (cost want : List ℕ) (rest : List (List (List ℕ))) (i : ℕ) (picked : Option (List (List ℕ))) → i < length costs → cost ≡ get_or costs i cost → picked ≡ None
    → (length cost ≡ length want → AreCostsWide (length want) rest → IsPick ((cost ∷ []) ∷ rest) want picked)
    → (AreCostsWide (length want) (costs ∷ rest) → NoneOf (take i costs) rest want) → AreCostsWide (length want) (costs ∷ rest) → NoneOf (take (i + 1) costs) rest want
none-of-next costs cost want rest i picked lt is none last before wide =
    let e : take (i + 1) costs ≡ take i costs ++ cost ∷ [] = rw add-one (take-push costs i cost lt ∙ ap (λ x. take i costs ++ x ∷ []) (sym is)) in
    let long : length cost ≡ length want = wide.0 cost (i, cost, lt, sym is, refl) in
    subst (λ l. NoneOf l rest want) (sym e) (none-of-more (take i costs) cost want rest (before wide) (subst (IsPick ((cost ∷ []) ∷ rest) want) none (last long wide.1)))

-- what isn't at most the other number is above it
pub above : (a b : ℕ) → (a ≤ b → ⊥) → b < a
above zero b h = absurd (h (omega arith))
above (suc a) zero h = omega arith
above (suc a) (suc b) h = let r = above a b (λ l. h (omega arith)) in omega arith
