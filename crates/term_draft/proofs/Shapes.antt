-- Lists of one and of two, and what is made of any others.
use Rattle.std.proofs.Common.{◌≡◌, refl, sym, ap, ◌∙◌, ℕ, ◌<◌, ◌≤◌, List, [], ◌∷◌, ◌++◌, length, map, get_or, arith}
use Rattle.std.specs.Prelude.{if◌then◌else◌, nat_le}
use Rattle.std.proofs.Math.ListN.{length-append}
use Rattle.sv_terms.specs.declared.regex.Regex.{Regex}
use Rattle.sv_terms.specs.declared.regex.Regex.TheVariants as re
use Rattle.sv_terms.specs.declared.entry.Body.{Body}
use Rattle.sv_terms.specs.declared.sort.Sort.TheVariants as sort
use Rattle.sv_terms.specs.declared.transducer.Transducer.{Transducer}
use Rattle.term_weight.specs.Bodies.{regex_of, opaque, related}
use Rattle.term_weight.specs.Ranks.{characters, of_one}
use Rattle.term_weight.specs.Weights.{tested, ranged, worded}

-- lists of one and of two
pub one-left : {A : Type 0} (xs ys : List A) (x : A) → length xs ≡ 1 → xs ≡ ys ++ x ∷ [] → xs ≡ x ∷ []
one-left xs [] x h e = e
one-left xs (y ∷ []) x h e = absurd (omega (arith, h, ap length e))
one-left xs (y ∷ z ∷ ys) x h e = absurd (omega (arith, h, ap length e))

pub two-left : {A : Type 0} (xs ys zs : List A) (x y : A) → length xs ≡ 2 → xs ≡ ys ++ y ∷ [] → ys ≡ zs ++ x ∷ [] → xs ≡ x ∷ y ∷ []
two-left xs ys [] x y h e f = e ∙ ap (λ z. z ++ y ∷ []) f
two-left xs ys (z ∷ zs) x y h e f = absurd (omega (arith, h, ap length e, ap length f, length-append ys (y ∷ []), length-append zs (x ∷ [])))

pub two-none : {A : Type 0} (xs ys : List A) (y : A) → length xs ≡ 2 → xs ≡ ys ++ y ∷ [] → ys ≡ [] → ⊥
two-none xs ys y h e f = absurd (omega (arith, h, ap length e, ap length f, length-append ys (y ∷ [])))

pub ruleset few = (one-left, two-left, two-none)

pub tested-other : (bs : List Body) → (length bs ≡ 2 → ⊥) → tested bs ≡ opaque sort.Bool
tested-other [] h = refl
tested-other (a ∷ []) h = refl
tested-other (a ∷ b ∷ []) h = absurd (h refl)
tested-other (a ∷ b ∷ c ∷ bs) h = refl

pub related-other : (t : Transducer) (bs : List Body) → (length bs ≡ 2 → ⊥) → related t bs ≡ opaque sort.Bool
related-other t [] h = refl
related-other t (a ∷ []) h = refl
related-other t (a ∷ b ∷ []) h = absurd (h refl)
related-other t (a ∷ b ∷ c ∷ bs) h = refl

pub ranged-other : (bs : List Body) → (length bs ≡ 2 → ⊥) → ranged bs ≡ opaque sort.RegLan
ranged-other [] h = refl
ranged-other (a ∷ []) h = refl
ranged-other (a ∷ b ∷ []) h = absurd (h refl)
ranged-other (a ∷ b ∷ c ∷ bs) h = refl

pub worded-other : (bs : List Body) → (length bs ≡ 1 → ⊥) → worded bs ≡ opaque sort.RegLan
worded-other [] h = refl
worded-other (a ∷ []) h = absurd (h refl)
worded-other (a ∷ b ∷ bs) h = refl

pub of_one-other : (f : Regex → Regex) (bs : List Body) → (length bs ≡ 1 → ⊥) → of_one f (map regex_of bs) ≡ re.Empty
of_one-other f [] h = refl
of_one-other f (a ∷ []) h = absurd (h refl)
of_one-other f (a ∷ b ∷ bs) h = refl

pub characters-few : (lo hi : List ℕ) → length lo < 1 → characters lo hi ≡ re.Empty
characters-few [] hi h = refl
characters-few (a ∷ lo) hi h = absurd (omega arith)

pub characters-many : (lo hi : List ℕ) → 2 ≤ length lo → characters lo hi ≡ re.Empty
characters-many [] hi h = absurd (omega arith)
characters-many (a ∷ []) hi h = absurd (omega arith)
characters-many (a ∷ b ∷ lo) hi h = refl

pub characters-none : (lo hi : List ℕ) → length hi < 1 → characters lo hi ≡ re.Empty
characters-none [] hi h = refl
characters-none (a ∷ []) [] h = refl
characters-none (a ∷ []) (b ∷ hi) h = absurd (omega arith)
characters-none (a ∷ b ∷ lo) hi h = refl

pub characters-more : (lo hi : List ℕ) → 2 ≤ length hi → characters lo hi ≡ re.Empty
characters-more [] hi h = refl
characters-more (a ∷ []) [] h = refl
characters-more (a ∷ []) (b ∷ []) h = absurd (omega arith)
characters-more (a ∷ []) (b ∷ c ∷ hi) h = refl
characters-more (a ∷ b ∷ lo) hi h = refl

pub characters-two : (lo hi : List ℕ) (a b : ℕ) → 1 ≤ length lo → length lo < 2 → a ≡ get_or lo 0 a → 1 ≤ length hi → length hi < 2 → b ≡ get_or hi 0 b → characters lo hi ≡ (if nat_le a b then re.Range a b else re.Empty)
characters-two [] hi a b h g e k l f = absurd (omega arith)
characters-two (c ∷ d ∷ lo) hi a b h g e k l f = absurd (omega arith)
characters-two (c ∷ []) [] a b h g e k l f = absurd (omega arith)
characters-two (c ∷ []) (d ∷ k' ∷ hi) a b h g e k l f = absurd (omega arith)
characters-two (c ∷ []) (d ∷ []) a b h g e k l f = λ i. if nat_le (sym e i) (sym f i) then re.Range (sym e i) (sym f i) else re.Empty

pub ruleset shaped = (tested-other, related-other, ranged-other, worded-other, of_one-other, characters-few, characters-many, characters-none, characters-more, characters-two)
