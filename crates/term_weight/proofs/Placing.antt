-- Places by names.
use Rattle.std.proofs.Common.{◌≡◌, refl, sym, ap, ◌∙◌, ℕ, zero, suc, ◌+◌, ◌<◌, ◌≤◌, Bool, true, false, cond, List, [], ◌∷◌, length, get_or, drop, Option, Some, None, arith, add-one, zero-add}
use Rattle.std.specs.Option.{option_map}
use Rattle.std.proofs.lemmas.Cmp.{nat_list_eq_equiv}
use Rattle.std.proofs.lemmas.Grind.{common_steps}
use Rattle.std.proofs.lemmas.List.{drop_all}
use Rattle.sv_terms.specs.declared.sort.Sort.{Sort}
use Rattle.term_weight.specs.Places.{flat}
use Rattle.smt_names.specs.Signature.{Name, same_name}
use Rattle.term_weight.specs.Weights.{place_of}

pub flat-cond : (b : Bool) (place : Option ℕ) (o : Option (Option ℕ)) → flat (cond b (Some place) o) ≡ cond b place (flat o)
flat-cond true place o = refl
flat-cond false place o = refl

pub ruleset shows = (flat-cond)

-- a place counted from i
abbrev pub shifted : ℕ → Option ℕ → Option ℕ
shifted i None = None
shifted i (Some j) = Some (i + j)

pub same-swap : (a b : Name) → same_name a b ≡ same_name b a
same-swap a b = nat_list_eq_equiv.symm a b

shift-cond : (b : Bool) (k : ℕ) (o : Option ℕ) → shifted k (cond b (Some 0) (option_map suc o)) ≡ cond b (Some k) (shifted (k + 1) o)
shift-cond true k o = ap Some (omega arith)
shift-cond false k None = refl
shift-cond false k (Some j) = ap Some (omega arith)

place-next : (n : Name) (ps : List (Name × Sort)) (k : ℕ) (d : Name × Sort) → k < length ps → place_of n (drop k ps) ≡ cond (same_name n (get_or ps k d).0) (Some 0) (option_map suc (place_of n (drop (suc k) ps)))
place-next n [] k d h = absurd (omega arith)
place-next n (p ∷ ps) zero d h = refl
place-next n (p ∷ ps) (suc k) d h = place-next n ps k d (omega arith)

pub place-more : (n : Name) (ps : List (Name × Sort)) (k i : ℕ) (d : Name × Sort) (o : Option ℕ) → k < length ps → i ≡ k + 1 → o ≡ shifted i (place_of n (drop i ps)) → cond (same_name (get_or ps k d).0 n) (Some k) o ≡ shifted k (place_of n (drop k ps))
place-more n ps k i d o h e g =
    ap (λ b. cond b (Some k) o) (same-swap (get_or ps k d).0 n)
    ∙ ap (λ z. cond (same_name n (get_or ps k d).0) (Some k) z) (g ∙ ap (λ j. shifted j (place_of n (drop j ps))) e)
    ∙ sym (shift-cond (same_name n (get_or ps k d).0) k (place_of n (drop (k + 1) ps)))
    ∙ ap (λ z. shifted k (cond (same_name n (get_or ps k d).0) (Some 0) (option_map suc (place_of n (drop z ps))))) (add-one k)
    ∙ ap (shifted k) (sym (place-next n ps k d h))

pub place-none : (n : Name) (ps : List (Name × Sort)) → None ≡ shifted (length ps) (place_of n (drop (length ps) ps))
place-none n ps = ap (λ z. shifted (length ps) (place_of n z)) (sym (drop_all (length ps) ps (omega arith)))

drop-zero : {A : Type 0} (as_ : List A) → drop 0 as_ ≡ as_
drop-zero [] = grind (arith, common_steps)
drop-zero (a ∷ as_) = refl

shift-zero : (o : Option ℕ) → shifted 0 o ≡ o
shift-zero None = refl
shift-zero (Some j) = ap Some (zero-add j)

pub place-all : (n : Name) (ps : List (Name × Sort)) (i : ℕ) (o : Option ℕ) → i ≤ 0 → o ≡ shifted i (place_of n (drop i ps)) → o ≡ place_of n ps
place-all n ps zero o h e = e ∙ shift-zero (place_of n (drop 0 ps)) ∙ ap (place_of n) (drop-zero ps)
place-all n ps (suc i) o h e = absurd (omega arith)

pub ruleset placing = (place-more, place-none, place-all)
