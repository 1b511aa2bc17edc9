-- Variables to which names and parts were added.
use Rattle.std.proofs.Common.{◌≡◌, refl, ap, subst, ◌∙◌, ℕ, suc, ◌+◌, ◌<◌, List, [], ◌∷◌, ◌++◌, length, get_or, replicate, take, length-take-le, Option, Bool, arith}
use Rattle.std.proofs.Math.Seq.{take-suc}
use Rattle.std.specs.List.{AllByRecursion}
use Rattle.sv_list.specs.Lists.{replicate-end}
use Rattle.straight_line.specs.Filling.{free_variable, named, named_all, parted, parted_all}
use Rattle.flat_cubes.specs.declared.variable.Own.{Own}
use Rattle.flat_cubes.specs.declared.variable.Variable.{Variable}

named_end : (of : List ℕ) (ns : List (Option (List ℕ))) (v : ℕ) (n : Option (List ℕ)) (vs : List Variable) → length of ≡ length ns → named_all (of ++ v ∷ []) (ns ++ n ∷ []) vs ≡ named v n (named_all of ns vs)
named_end [] [] v n vs e = refl
named_end [] (m ∷ ns) v n vs e = absurd (omega arith)
named_end (u ∷ of) [] v n vs e = absurd (omega arith)
named_end (u ∷ of) (m ∷ ns) v n vs e = named_end of ns v n (named u m vs) (omega arith)

pub named_more : (of : List ℕ) (i : ℕ) (ns : List (Option (List ℕ))) (n : Option (List ℕ)) (vs : List Variable) → i ≡ length ns → i < length of → named_all (take (i + 1) of) (ns ++ n ∷ []) vs ≡ named (get_or of i 0) n (named_all (take i of) ns vs)
named_more of i ns n vs e l =
    let q : i + 1 ≡ suc i = omega arith in
    let t : length (take i of) ≡ length ns = length-take-le i of (omega arith) ∙ e in
    ap (λ k. named_all (take k of) (ns ++ n ∷ []) vs) q ∙ ap (λ xs. named_all xs (ns ++ n ∷ []) vs) (take-suc of i 0 l) ∙ named_end (take i of) ns (get_or of i 0) n vs t

pub parted_more : (of : List ℕ) (ps : List (ℕ × (Own × Bool))) (p : ℕ × (Own × Bool)) (vs : List Variable) → parted_all of (ps ++ p ∷ []) vs ≡ parted (get_or of p.0 0) p.1 (parted_all of ps vs)
parted_more of [] p vs = refl
parted_more of (q ∷ ps) p vs = parted_more of ps p (parted (get_or of q.0 0) q.1 vs)

pub filled_more : {X : Type 0} (n : ℕ) (x y : X) (xs ys : List X) → ys ≡ xs ++ y ∷ [] → y ≡ x → xs ≡ replicate n x → ys ≡ replicate (n + 1) x
filled_more n x y xs ys e f g = let q : suc n ≡ n + 1 = omega arith in e ∙ ap (λ z. xs ++ z ∷ []) f ∙ ap (λ z. z ++ x ∷ []) g ∙ replicate-end n x ∙ ap (λ m. replicate m x) q

pub free_more : (n : ℕ) (v : Variable) (xs ys : List Variable) → ys ≡ xs ++ v ∷ [] → v.names ≡ [] → v.parts ≡ [] → xs ≡ replicate n free_variable → ys ≡ replicate (n + 1) free_variable
free_more n v xs ys e f g h = filled_more n free_variable v xs ys e (λ i. record { names = f i; parts = g i }) h

pub holds_next : {X : Type 0} (P : X → Type 0) (all done rest rest' : List X) (x : X) → AllByRecursion P all → all ≡ done ++ rest → rest ≡ x ∷ rest' → P x
holds_next {X = X} P all done rest rest' x a e f = inside done (subst (λ z. AllByRecursion P z) (e ∙ ap (λ z. done ++ z) f) a)
  where
    inside : (done : List X) → AllByRecursion P (done ++ x ∷ rest') → P x
    inside [] b = b.0
    inside (y ∷ done) b = inside done b.1
