-- Outcomes beside their jobs, as jobs and shares are added at the end.
use Rattle.std.proofs.Common.{◌≡◌, ℕ, suc, ◌+◌, ◌-◌, ◌<◌, ◌≤◌, take, drop, length, List, [], ◌∷◌, ◌++◌, slice_index_or, subst, sym, ◌∙◌, ap, IfOk, Ok, Result, arith, length-append}
use Rattle.std.specs.List.{AllZip}
use Rattle.std.proofs.lemmas.List.{take_more}
use Rattle.std.proofs.Math.Seq.{take-add, get_or-append_seam}
use Rattle.par_phase.specs.Shares.{first_of, share_of}

-- two lists of jobs, one behind the other
AllZip-append : {J T : Type 0} (R : J → T → Type 0) (js ks : List J) (xs ys : List T) → AllZip R js xs → AllZip R ks ys → AllZip R (js ++ ks) (xs ++ ys)
AllZip-append R [] ks [] ys h k = k
AllZip-append R [] ks (x ∷ xs) ys h k = absurd h
AllZip-append R (j ∷ js) ks [] ys h k = absurd h
AllZip-append R (j ∷ js) ks (x ∷ xs) ys h k = (h.0, AllZip-append R js ks xs ys h.1 k)

-- what is taken up to a place, and then what lies between it and a later one
take-between : {J : Type 0} (js : List J) (a b : ℕ) → a ≤ b → take b js ≡ take a js ++ take (b - a) (drop a js)
take-between js a b before = let more : b ≡ a + (b - a) = omega arith in ap (λ n. take n js) more ∙ take-add a (b - a) js

-- one job more
pub one_more_job : {J T : Type 0} (R : J → T → Type 0) (js : List J) (xs ys : List T) (k : ℕ) (j : J) (x : T) (d : J)
    → k < length js → j ≡ slice_index_or js k d → R j x → ys ≡ xs ++ x ∷ [] → AllZip R (take k js) xs → AllZip R (take (k + 1) js) ys
one_more_job {J} {T} R js xs ys k j x d below at fits grown before =
    let one : take (k + 1) js ≡ take k js ++ j ∷ [] = take_more js k d below ∙ ap (λ i. take k js ++ i ∷ []) (sym at) in
    let P : List J → Type 0 = λ l. AllZip R l ys in
    let Q : List T → Type 0 = λ l. AllZip R (take k js ++ j ∷ []) l in
    subst P (sym one) (subst Q (sym grown) (AllZip-append R (take k js) (j ∷ []) xs (x ∷ []) before (fits, tt)))

-- one share more
pub one_more_share : {J T : Type 0} (R : J → T → Type 0) (js : List J) (xs ys zs : List T) (shares k : ℕ)
    → ys ≡ xs ++ zs → AllZip R (share_of js shares k) zs → AllZip R (take (first_of (length js) shares k) js) xs
    → AllZip R (take (first_of (length js) shares (k + 1)) js) ys
one_more_share {J} {T} R js xs ys zs shares k grown share before =
    let a : ℕ = first_of (length js) shares k in
    let b : ℕ = first_of (length js) shares (k + 1) in
    let whole : take b js ≡ take a js ++ share_of js shares k = take-between js a b (omega arith) in
    let P : List J → Type 0 = λ l. AllZip R l ys in
    let Q : List T → Type 0 = λ l. AllZip R (take a js ++ share_of js shares k) l in
    subst P (sym whole) (subst Q (sym grown) (AllZip-append R (take a js) (share_of js shares k) xs zs before share))

-- what holds of each part holds of the part whose turn it is
pub part_at : {V E : Type 0} (P : ℕ → V → Type 0) (parts yielded rest : List (Result V E)) (part : Result V E) (v : V)
    → ((n : ℕ) (d : Result V E) → n < length parts → IfOk (slice_index_or parts n d) (P n)) → parts ≡ yielded ++ part ∷ rest → part ≡ Ok v → P (length yielded) v
part_at {V} {E} P parts yielded rest part v each is ok =
    let here : slice_index_or parts (length yielded) part ≡ Ok v = ap (λ l. slice_index_or l (length yielded) part) is ∙ get_or-append_seam yielded part rest part ∙ ok in
    let long : length parts ≡ length yielded + suc (length rest) = ap length is ∙ length-append yielded (part ∷ rest) in
    let Q : Result V E → Type 0 = λ r. IfOk r (P (length yielded)) in
    subst Q here (each (length yielded) part (omega (arith, long)))
