-- Layers one by one.
use Rattle.std.proofs.Common.{◌≡◌, ℕ, suc, ◌+◌, ◌<◌, List, [], ◌∷◌, ◌++◌, length, drop, get_or, ap, sym, ◌∙◌, append_assoc, refl, arith, drop-cons}
use Rattle.lia_pack.specs.Shares.{joined_by, layered, values}
use Rattle.lia_pack.specs.declared.pieces.Layer.{Layer}
use Rattle.lia_pack.specs.declared.shared.SharedLayer.{SharedLayer}

pub values_app : (xs ys : List SharedLayer) → values (xs ++ ys) ≡ values xs ++ values ys
values_app [] ys = refl
values_app (x ∷ xs) ys = ap (λ ls. x.layer.value ∷ ls) (values_app xs ys)

pub layered_app : (bytes : List ℕ) (ls ms : List Layer) → layered bytes (ls ++ ms) ≡ layered (layered bytes ls) ms
layered_app bytes [] ms = refl
layered_app bytes (l ∷ ls) ms = layered_app (joined_by bytes l) ls ms

-- one layer more is copied
pub copied_more : (all copies : List SharedLayer) (item one : SharedLayer) (i : ℕ) → i < length all → item ≡ get_or all i item → one.layer.value ≡ item.layer.value →
    values copies ++ values (drop i all) ≡ values all → values (copies ++ one ∷ []) ++ values (drop (i + 1) all) ≡ values all
copied_more all copies item one i h is same k =
    let next : i + 1 ≡ suc i = omega arith in
    let split : values (drop i all) ≡ item.layer.value ∷ values (drop (suc i) all) =
    ap values (drop-cons all i item h) ∙ ap (λ (x : SharedLayer). x.layer.value ∷ values (drop (suc i) all)) (sym is) in
    ap (λ ls. ls ++ values (drop (i + 1) all)) (values_app copies (one ∷ []))
    ∙ append_assoc (values copies) (one.layer.value ∷ []) (values (drop (i + 1) all))
    ∙ ap (λ n. values copies ++ (one.layer.value ∷ values (drop n all))) next
    ∙ ap (λ v. values copies ++ (v ∷ values (drop (suc i) all))) same
    ∙ ap (λ ls. values copies ++ ls) (sym split) ∙ k
