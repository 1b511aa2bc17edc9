-- The sizes of regular expressions, by those of their parts.
use Rattle.std.proofs.Common.{◌≡◌, sym, ap, ◌∙◌, ℕ, ◌+◌, ◌*◌, ◌^◌, ◌<◌, ◌≤◌, List, [], ◌∷◌, ◌++◌, length, map, take, get_or, refl, subst, arith}
use Rattle.std.proofs.lemmas.List.{take_more, map_push, length-map, length-take}
use Rattle.std.proofs.Math.Nat.{mul-le-mul, one-le-pow}
use Rattle.sv_terms.specs.declared.regex.Regex.{Regex, roll-Regex}
use Rattle.sv_terms.specs.declared.regex.Regex.TheVariants as v
use Rattle.sv_terms.specs.declared.regex.Regex.TheFolds.{fold-roll-Regex, ind-Regex, map-Regex}
use Rattle.sv_terms.specs.declared.regex.Regex.TheOpen.{Regex-F}
use Rattle.sv_terms.specs.Language.{Word}
use Rattle.sv_terms.specs.Bounds.{size, size_step, from_left, fold_left, in_turn_size, choice_size, both_size, without_size}

at : (r : Regex) (x : Regex-F Regex) → roll-Regex x ≡ r → size r ≡ size_step (map-Regex Regex ℕ size x)
at r x e = ap size (sym e) ∙ fold-roll-Regex ℕ size_step x

pub size-Empty : size v.Empty ≡ 1
size-Empty = at _ Regex-F.Empty v.rolls-Empty

pub size-All : size v.All ≡ 1
size-All = at _ Regex-F.All v.rolls-All

pub size-AnyChar : size v.AnyChar ≡ 2
size-AnyChar = at _ Regex-F.AnyChar v.rolls-AnyChar

pub size-Text : (t : Word) → size (v.Text t) ≡ length t + 1
size-Text t = at _ (Regex-F.Text t) (v.rolls-Text t)

pub size-Range : (lo hi : ℕ) → size (v.Range lo hi) ≡ 2
size-Range lo hi = at _ (Regex-F.Range lo hi) (v.rolls-Range lo hi)

pub size-Concat : (rs : List Regex) → size (v.Concat rs) ≡ from_left in_turn_size (map size rs)
size-Concat rs = at _ (Regex-F.Concat rs) (v.rolls-Concat rs)

pub size-Union : (rs : List Regex) → size (v.Union rs) ≡ from_left choice_size (map size rs)
size-Union rs = at _ (Regex-F.Union rs) (v.rolls-Union rs)

pub size-Inter : (rs : List Regex) → size (v.Inter rs) ≡ from_left both_size (map size rs)
size-Inter rs = at _ (Regex-F.Inter rs) (v.rolls-Inter rs)

pub size-Diff : (rs : List Regex) → size (v.Diff rs) ≡ from_left without_size (map size rs)
size-Diff rs = at _ (Regex-F.Diff rs) (v.rolls-Diff rs)

pub size-Star : (r : Regex) → size (v.Star r) ≡ size r + 1
size-Star r = at _ (Regex-F.Star r) (v.rolls-Star r)

pub size-Plus : (r : Regex) → size (v.Plus r) ≡ size r
size-Plus r = at _ (Regex-F.Plus r) (v.rolls-Plus r)

pub size-Opt : (r : Regex) → size (v.Opt r) ≡ size r + 1
size-Opt r = at _ (Regex-F.Opt r) (v.rolls-Opt r)

pub size-Comp : (r : Regex) → size (v.Comp r) ≡ 2 ^ size r
size-Comp r = at _ (Regex-F.Comp r) (v.rolls-Comp r)

pub size-Loop : (r : Regex) (i j : ℕ) → size (v.Loop r i j) ≡ j * size r + 1
size-Loop r i j = at _ (Regex-F.Loop r i j) (v.rolls-Loop r i j)

pub ruleset sizes = (size-Empty, size-All, size-AnyChar, size-Text, size-Range, size-Concat, size-Union, size-Inter, size-Diff, size-Star, size-Plus, size-Opt, size-Comp, size-Loop)

-- one number more at the end
pub fold_left-push : (f : ℕ → ℕ → ℕ) (n : ℕ) (ms : List ℕ) (m : ℕ) → fold_left f n (ms ++ m ∷ []) ≡ f (fold_left f n ms) m
fold_left-push f n [] m = refl
fold_left-push f n (x ∷ ms) m = fold_left-push f (f n x) ms m

pub from_left-push : (f : ℕ → ℕ → ℕ) (ms : List ℕ) (m : ℕ) → 0 < length ms → from_left f (ms ++ m ∷ []) ≡ f (from_left f ms) m
from_left-push f [] m h = absurd (omega arith)
from_left-push f (n ∷ ns) m h = fold_left-push f n ns m

-- one expression more
pub size-more : (f : ℕ → ℕ → ℕ) (rs : List Regex) (i : ℕ) (r : Regex) → 0 < i → i < length rs → r ≡ get_or rs i r
    → from_left f (map size (take (i + 1) rs)) ≡ f (from_left f (map size (take i rs))) (size r)
size-more f rs i r pos lt at =
    let grown : take (i + 1) rs ≡ take i rs ++ r ∷ [] = take_more rs i r lt ∙ ap (λ x. take i rs ++ x ∷ []) (sym at) in
    let some : 0 < length (map size (take i rs)) = simp (length-map, length-take) (omega arith) in
    ap (λ l. from_left f (map size l)) grown ∙ ap (from_left f) (map_push size (take i rs) r) ∙ from_left-push f (map size (take i rs)) (size r) some

-- there is a state at least
abbrev Sized : Type 0
Sized = (r : Regex) × (1 ≤ size r)

abbrev sizes_of : List Sized → List ℕ
sizes_of ys = map size (map (λ y. y.0) ys)

some-from_left : (f : ℕ → ℕ → ℕ) → ((n m : ℕ) → 1 ≤ n → 1 ≤ m → 1 ≤ f n m) → (ys : List Sized) → 1 ≤ from_left f (sizes_of ys)
some-from_left f ok [] = omega arith
some-from_left f ok (y ∷ ys) = some-fold (size y.0) ys y.1
  where
    some-fold : (n : ℕ) (ys : List Sized) → 1 ≤ n → 1 ≤ fold_left f n (sizes_of ys)
    some-fold n [] h = h
    some-fold n (y ∷ ys) h = some-fold (f n (size y.0)) ys (ok n (size y.0) h y.1)

pub some-product : (n m : ℕ) → 1 ≤ n → 1 ≤ m → 1 ≤ n * m
some-product n m p q = let both : 1 * 1 ≤ n * m = mul-le-mul p q in omega arith

some-power : (n : ℕ) → 1 ≤ 2 ^ n
some-power n = one-le-pow n 2 (omega arith)

some-step : (y : Regex-F Sized) → 1 ≤ size_step (map-Regex Regex ℕ size (map-Regex Sized Regex (λ e. e.0) y))
some-step Regex-F.Empty = omega arith
some-step Regex-F.All = omega arith
some-step Regex-F.AnyChar = omega arith
some-step (Regex-F.Text t) = omega arith
some-step (Regex-F.Range lo hi) = omega arith
some-step (Regex-F.Concat ys) = some-from_left in_turn_size (λ n m p q. omega arith) ys
some-step (Regex-F.Union ys) = some-from_left choice_size (λ n m p q. omega arith) ys
some-step (Regex-F.Inter ys) = some-from_left both_size some-product ys
some-step (Regex-F.Diff ys) = some-from_left without_size (λ n m p q. some-product n (2 ^ m) p (some-power m)) ys
some-step (Regex-F.Star y) = omega arith
some-step (Regex-F.Plus y) = y.1
some-step (Regex-F.Opt y) = omega arith
some-step (Regex-F.Comp y) = some-power (size y.0)
some-step (Regex-F.Loop y i j) = omega arith

pub size-some : (r : Regex) → 1 ≤ size r
size-some = ind-Regex (λ r. 1 ≤ size r) (λ x y is.
    let e = at (roll-Regex x) x refl in
    subst (λ n. 1 ≤ n) (sym e) (subst (λ z. 1 ≤ size_step (map-Regex Regex ℕ size z)) is (some-step y)))
