-- Numbers of several digits.
use Rattle.std.proofs.Common.{◌≡◌, ℕ, zero, suc, ◌+◌, ◌*◌, ◌<◌, ◌≤◌, List, [], ◌∷◌, refl, ap, ◌∙◌, arith}
use Rattle.std.proofs.Math.Nat.{mul-suc, mul-zero, mul-le-mul_left}
use Rattle.box_layers.specs.Layers.{AreWithinGreatest}
use Rattle.box_search.specs.Places.{number_of, numbers_below}

-- a digit below its base, and what stands above it
pub digit-below : (v b c p : ℕ) → v < b → c < p → v + b * c < b * p
digit-below v b c p lt le =
    let m : b * suc c ≤ b * p = mul-le-mul_left b le in
    let e = mul-suc b c in
    omega arith

pub digit-same : (v w b c d : ℕ) → v < b → w < b → v + b * c ≡ w + b * d → (v ≡ w) × (c ≡ d)
digit-same v w b zero zero lv lw e = (omega (arith, mul-zero b), refl)
digit-same v w b zero (suc d) lv lw e = absurd (omega (arith, mul-zero b, mul-suc b d))
digit-same v w b (suc c) zero lv lw e = absurd (omega (arith, mul-zero b, mul-suc b c))
digit-same v w b (suc c) (suc d) lv lw e =
    let r = digit-same v w b c d lv lw (omega (arith, mul-suc b c, mul-suc b d)) in
    (r.0, ap suc r.1)

pub number-below : (vs us : List ℕ) → AreWithinGreatest vs us → number_of vs us < numbers_below us
number-below [] [] h = omega arith
number-below [] (u ∷ us) h = absurd h
number-below (v ∷ vs) [] h = absurd h
number-below (v ∷ vs) (u ∷ us) h = let first = h.0 in digit-below v (u + 1) (number_of vs us) (numbers_below us) (omega arith) (number-below vs us h.1)

pub number-same : (vs ws us : List ℕ) → AreWithinGreatest vs us → AreWithinGreatest ws us → number_of vs us ≡ number_of ws us → vs ≡ ws
number-same [] [] [] h g e = refl
number-same [] [] (u ∷ us) h g e = absurd h
number-same [] (w ∷ ws) [] h g e = absurd g
number-same [] (w ∷ ws) (u ∷ us) h g e = absurd h
number-same (v ∷ vs) [] [] h g e = absurd h
number-same (v ∷ vs) [] (u ∷ us) h g e = absurd g
number-same (v ∷ vs) (w ∷ ws) [] h g e = absurd h
number-same (v ∷ vs) (w ∷ ws) (u ∷ us) h g e =
    let a = h.0 in
    let b = g.0 in
    let r = digit-same v w (u + 1) (number_of vs us) (number_of ws us) (omega arith) (omega arith) e in
    let rest = number-same vs ws us h.1 g.1 r.1 in
    ap (λ x. x ∷ vs) r.0 ∙ ap (λ l. w ∷ l) rest
