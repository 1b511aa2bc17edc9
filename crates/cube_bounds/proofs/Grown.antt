-- Growths, cut off at each step or in the end.
use Rattle.std.proofs.Common.{◌≡◌, refl, sym, ap, ◌∙◌, ℕ, zero, suc, ◌+◌, ◌-◌, ◌*◌, ◌/◌, ◌<◌, ◌≤◌, max, inl, inr, List, [], ◌∷◌, ◌++◌, map, length, replicate, get_or, set, take, drop, drop-cons, arith}
use Rattle.std.proofs.lemmas.List.{take_more}
use Rattle.sv_terms.specs.CutOff.{cut_off, cut-sum, cut-product}
use Rattle.std.proofs.Math.Nat.{div-eq_of_lt}
use Rattle.std.proofs.lemmas.Bool.{cases_lt}
use Rattle.cube_bounds.specs.Bounds.{greatest}
use Rattle.cube_bounds.specs.Growth.{growth_by, grown, longest_word}
use Rattle.flat_cubes.specs.declared.definition.Definition.{Definition}
use Rattle.cube_bounds.proofs.Multiplied.{map_set}

cut_max : (a b : ℕ) → max (cut_off a) (cut_off b) ≡ cut_off (max a b)
cut_max a b = omega arith

pub first_of : {X : Type 0} (xs : List X) (x : X) (i : ℕ) → 0 < i → i ≤ length xs → x ≡ get_or xs (i - 1) x → drop (i - 1) xs ≡ x ∷ drop i xs
first_of xs x i o l e =
    let up : suc (i - 1) ≡ i = omega arith in
    drop-cons xs (i - 1) x (omega arith) ∙ (λ j. sym e j ∷ drop (up j) xs)

-- the number at a place
pub cut_at : (ms : List ℕ) (v : ℕ) → get_or (map cut_off ms) v 1 ≡ cut_off (get_or ms v 1)
cut_at [] v = omega arith
cut_at (m ∷ ms) zero = refl
cut_at (m ∷ ms) (suc v) = cut_at ms v

pub growth_here : (ns ms : List ℕ) (v n : ℕ) → ns ≡ map cut_off ms → n ≡ get_or ns v 1 → n ≡ cut_off (get_or ms v 1)
growth_here ns ms v n e f = f ∙ ap (λ l. get_or l v 1) e ∙ cut_at ms v

pub through_growth : (g n a b x y : ℕ) → n ≡ cut_off g → x ≡ cut_off a → y ≡ cut_off b → max n (cut_off (cut_off (n * x) + y)) ≡ cut_off (max g (g * a + b))
through_growth g n a b x y e p q =
    (λ i. max (e i) (cut_off (cut_off (e i * p i) + q i))) ∙ ap (λ z. max (cut_off g) (cut_off (z + cut_off b))) (cut-product g a) ∙ ap (max (cut_off g)) (cut-sum (g * a) b) ∙ cut_max g (g * a + b)

-- one definition
pub grown_here : (ns ms : List ℕ) (v n g : ℕ) → ns ≡ map cut_off ms → n ≡ cut_off g → set ns v n ≡ map cut_off (set ms v g)
grown_here ns ms v n g e f = (λ i. set (e i) v (f i)) ∙ sym (map_set cut_off ms v g)

grown_push : (ds : List Definition) (d : Definition) (gs : List ℕ) → grown gs (ds ++ d ∷ []) ≡ set (grown gs ds) d.variable (growth_by (grown gs ds) d.by)
grown_push [] d gs = refl
grown_push (e ∷ ds) d gs = grown_push ds d (set gs e.variable (growth_by gs e.by))

pub grown_more : (ds : List Definition) (d : Definition) (i : ℕ) (ns new ms : List ℕ) → i < length ds → d ≡ get_or ds i d → ns ≡ map cut_off (grown ms (take i ds)) → ((ls : List ℕ) → ns ≡ map cut_off ls → new ≡ map cut_off (set ls d.variable (growth_by ls d.by))) → new ≡ map cut_off (grown ms (take (i + 1) ds))
grown_more ds d i ns new ms h e p f =
    let t : take (i + 1) ds ≡ take i ds ++ d ∷ [] = take_more ds i d h ∙ ap (λ x. take i ds ++ x ∷ []) (sym e) in
    f (grown ms (take i ds)) p ∙ ap (map cut_off) (sym (grown_push (take i ds) d ms) ∙ ap (grown ms) (sym t))

-- ones
abbrev pub one_each : {X : Type 0} → X → ℕ
one_each x = 1

pub all_ones : {X : Type 0} (xs : List X) → replicate (length xs) 1 ≡ map cut_off (map (λ (x : X). one_each x) xs)
all_ones [] = refl
all_ones (x ∷ xs) = let e : 1 ≡ cut_off 1 = omega arith in λ i. e i ∷ all_ones xs i

-- a growth above the greatest number of 64 bits leaves nothing, as the greatest does
pub reach_cut : (n g : ℕ) → n ≡ cut_off g → longest_word / n ≡ longest_word / g
reach_cut n g e = elim (cases_lt 18446744073709551615 g) [
  | inl h ↦
      let low : longest_word < n = omega arith in
      let high : longest_word < g = omega arith in
      div-eq_of_lt low ∙ sym (div-eq_of_lt high)
  | inr h ↦ let same : n ≡ g = omega arith in ap (λ x. longest_word / x) same
]

pub most_is : (ns : List ℕ) → 1 ≤ greatest 1 ns
most_is [] = omega arith
most_is (n ∷ ns) = let h = most_is ns in omega arith
