-- Pieces joined one by one.
use Rattle.std.proofs.Common.{◌≡◌, ℕ, suc, ◌+◌, ◌<◌, ◌≤◌, List, ◌++◌, length, take, drop, get_or, ap, sym, ◌∙◌, append_assoc, arith, drop-cons}
use Rattle.std.proofs.lemmas.List.{drop_all}
use Rattle.lia_pack.specs.Shares.{joined}
use Rattle.lia_pack.specs.declared.pieces.Piece.{Piece}

abbrev pub no_piece : Piece
no_piece = record { skip = 0; length = 0; fresh = 0 }

-- one piece more
pub joined_more : (ps : List Piece) (i : ℕ) (d : Piece) (bytes rest left shared further own later all : List ℕ) → i < length ps →
    shared ≡ take (get_or ps i d).length (drop (get_or ps i d).skip rest) → further ≡ drop (get_or ps i d).length (drop (get_or ps i d).skip rest) →
    own ≡ take (get_or ps i d).fresh left → later ≡ drop (get_or ps i d).fresh left →
    bytes ++ joined rest (drop i ps) left ≡ all → ((bytes ++ shared) ++ own) ++ joined further (drop (i + 1) ps) later ≡ all
joined_more ps i d bytes rest left shared further own later all h s f o l k =
    let p = get_or ps i d in
    let next : i + 1 ≡ suc i = omega arith in
    let after = joined further (drop (i + 1) ps) later in
    let split : joined rest (drop i ps) left ≡ shared ++ (own ++ after) =
    ap (λ qs. joined rest qs left) (drop-cons ps i d h)
    ∙ ap (λ x. x ++ (take p.fresh left ++ joined (drop p.length (drop p.skip rest)) (drop (suc i) ps) (drop p.fresh left))) (sym s)
    ∙ ap (λ x. shared ++ (x ++ joined (drop p.length (drop p.skip rest)) (drop (suc i) ps) (drop p.fresh left))) (sym o)
    ∙ ap (λ x. shared ++ (own ++ joined x (drop (suc i) ps) (drop p.fresh left))) (sym f)
    ∙ ap (λ x. shared ++ (own ++ joined further (drop (suc i) ps) x)) (sym l)
    ∙ ap (λ n. shared ++ (own ++ joined further (drop n ps) later)) (sym next) in
    append_assoc (bytes ++ shared) own after ∙ append_assoc bytes shared (own ++ after) ∙ ap (λ x. bytes ++ x) (sym split) ∙ k

-- no piece more
pub joined_all : (ps : List Piece) (i : ℕ) (bytes rest left all : List ℕ) → length ps ≤ i → bytes ++ joined rest (drop i ps) left ≡ all → (bytes ++ rest) ++ left ≡ all
joined_all ps i bytes rest left all h k = append_assoc bytes rest left ∙ ap (λ qs. bytes ++ joined rest qs left) (sym (drop_all i ps h)) ∙ k
