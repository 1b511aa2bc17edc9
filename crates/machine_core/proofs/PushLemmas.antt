-- What a push that is taken back leaves.
use Rattle.std.proofs.Common.{◌≡◌, ℕ, zero, suc, ◌+◌, ◌<◌, Bool, true, List, [], ◌∷◌, ◌++◌, length, map, replicate, take, get_or, Option, None, Some, MatchOption, Result, Ok, Err, OnErr, refl, ap, sym, ◌∙◌, subst, arith, add-one}
use Rattle.std.specs.Result.{is_err}
use Rattle.std.proofs.Math.Seq.{take-suc}
use Rattle.std.proofs.lemmas.List.{map-append, length_push}

push-one : {X : Type 0} (xs ys : List X) (x y : X) → xs ++ x ∷ [] ≡ ys ++ y ∷ [] → xs ≡ ys
push-one [] [] x y e = refl
push-one [] (b ∷ ys) x y e = absurd (let n = ap length e in let m = length_push ys y in omega (arith, n, m))
push-one (a ∷ xs) [] x y e = absurd (let n = ap length e in let m = length_push xs x in omega (arith, n, m))
push-one (a ∷ xs) (b ∷ ys) x y e =
    let h : xs ++ x ∷ [] ≡ ys ++ y ∷ [] = cc in
    let t : a ≡ b = cc in
    ap (λ z. z ∷ xs) t ∙ ap (λ l. b ∷ l) (push-one xs ys x y h)

pub popped : {X : Type 0} (o : Option X) (xs zs ys : List X) (y : X) → MatchOption o ((xs ≡ []) × (zs ≡ [])) (λ last. xs ≡ zs ++ last ∷ []) → xs ≡ ys ++ y ∷ [] → zs ≡ ys
popped None xs zs ys y h e = absurd (let n : length xs ≡ length ys + 1 = ap length e ∙ length_push ys y in let m : length xs ≡ 0 = ap length h.0 in omega arith)
popped (Some last) xs zs ys y h e = push-one zs ys last y (sym h ∙ e)

pub failed : {X E P : Type 0} (r : Result X E) (b : Bool) → OnErr r P → b ≡ is_err r → b ≡ true → P
failed (Ok x) b h e f = cc
failed (Err x) b h e f = h

pub mapped-more : {X Y : Type 0} (f : X → Y) (xs ys : List X) (i : ℕ) (x : X) → ys ≡ xs → i < length ys → x ≡ get_or ys i x → map f (take i xs) ++ f x ∷ [] ≡ map f (take (i + 1) xs)
mapped-more f xs ys i x e lt is =
    let below : i < length xs = subst (λ l. i < length l) e lt in
    let at : x ≡ get_or xs i x = subst (λ l. x ≡ get_or l i x) e is in
    let more : take (i + 1) xs ≡ take i xs ++ x ∷ [] = rw add-one (take-suc xs i x below ∙ ap (λ q. take i xs ++ q ∷ []) (sym at)) in
    sym (ap (map f) more ∙ map-append f (take i xs) (x ∷ []))

-- one element more of a list of the same ones
pub replicate-more : {X : Type 0} (old new : List X) (n : ℕ) (x y : X) → old ≡ replicate n x → y ≡ x → new ≡ old ++ y ∷ [] → new ≡ replicate (n + 1) x
replicate-more old new n x y before same made =
    let more : replicate n x ++ x ∷ [] ≡ replicate (n + 1) x = rw add-one (push n x) in
    made ∙ ap (λ l. l ++ y ∷ []) before ∙ ap (λ z. replicate n x ++ z ∷ []) same ∙ more
  where
    push : {X : Type 0} (n : ℕ) (x : X) → replicate n x ++ x ∷ [] ≡ replicate (suc n) x
    push zero x = refl
    push (suc n) x = ap (λ l. x ∷ l) (push n x)

-- one element more of a list that a loop copies
pub took-more : {X : Type 0} (xs old new : List X) (i : ℕ) (x y : X) → i < length xs → x ≡ get_or xs i x → old ≡ take i xs → y ≡ x → new ≡ old ++ y ∷ [] → new ≡ take (i + 1) xs
took-more xs old new i x y lt is before same made =
    let more : take (i + 1) xs ≡ take i xs ++ x ∷ [] = rw add-one (take-suc xs i x lt ∙ ap (λ q. take i xs ++ q ∷ []) (sym is)) in
    made ∙ ap (λ l. l ++ y ∷ []) before ∙ ap (λ z. take i xs ++ z ∷ []) same ∙ sym more
