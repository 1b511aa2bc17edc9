-- An item more in the innermost list, and a list that closes.
use Rattle.std.proofs.Common.{◌≡◌, ℕ, zero, suc, ◌-◌, List, [], ◌∷◌, ◌++◌, length, get_or, refl, sym, ap, ◌∙◌, append_assoc, append-nil, arith, map, None, Some, length-append}
use Rattle.std.proofs.Math.ListN.{set}
use Rattle.std.proofs.lemmas.List.{length-set}
use Rattle.std.specs.List.{flat_map}
use Rattle.std.proofs.lemmas.List.Concat.{flat_map-append}
use Rattle.sexpr_reader.specs.declared.kind.TokenKind.{TokenKind}
use Rattle.sexpr_reader.specs.declared.sexpr.Sexpr.{Sexpr, roll-Sexpr}
use Rattle.sexpr_reader.specs.declared.sexpr.Sexpr.TheFolds.{fold-roll-Sexpr}
use Rattle.sexpr_reader.specs.declared.sexpr.Sexpr.TheOpen.{Sexpr-F}
use Rattle.sexpr_reader.specs.declared.sexpr.Sexpr.TheVariants as s
use Rattle.sexpr_reader.specs.Tokens.{Token, Open, Close, Atomic}
use Rattle.sexpr_reader.specs.Items.{tokens_of, tokens_of_all, tokens_layer, open_tokens, Feeds}

joined : (items : List Sexpr) → flat_map (λ (ts : List Token). ts) (map tokens_of items) ≡ tokens_of_all items
joined [] = refl
joined (x ∷ items) = ap (λ (l : List Token). tokens_of x ++ l) (joined items)

pub tokens_of-Atom : (kind : TokenKind) (bs : List ℕ) → tokens_of (s.Atom kind bs) ≡ Atomic kind bs ∷ []
unfolding tokens_of
tokens_of-Atom kind bs = ap tokens_of (sym (s.rolls-Atom kind bs)) ∙ fold-roll-Sexpr (List Token) tokens_layer (Sexpr-F.Atom kind bs)

rolled : (items : List Sexpr) → tokens_of (roll-Sexpr (Sexpr-F.List items)) ≡ Open ∷ flat_map (λ (ts : List Token). ts) (map tokens_of items) ++ Close ∷ []
unfolding tokens_of
rolled items = fold-roll-Sexpr (List Token) tokens_layer (Sexpr-F.List items)

pub tokens_of-List : (items : List Sexpr) → tokens_of (s.List items) ≡ Open ∷ (tokens_of_all items ++ Close ∷ [])
tokens_of-List items = ap tokens_of (sym (s.rolls-List items)) ∙ rolled items ∙ ap (λ (l : List Token). Open ∷ (l ++ Close ∷ [])) (joined items)

one_item : (items : List Sexpr) (item : Sexpr) → tokens_of_all (items ++ item ∷ []) ≡ tokens_of_all items ++ tokens_of item
one_item items item = flat_map-append tokens_of items (item ∷ []) ∙ ap (λ (l : List Token). tokens_of_all items ++ l) (append-nil (tokens_of item))

pub put_last : (xs : List (List Sexpr)) (n : ℕ) (item : Sexpr) (old new : List Sexpr) → length xs ≡ suc n → old ≡ get_or xs n old → new ≡ old ++ item ∷ []
    → open_tokens xs ++ tokens_of item ≡ open_tokens (set xs n new)
put_last [] n item old new len was is = absurd (omega arith)
put_last (x ∷ []) zero item old new len was is =
    ap (λ (l : List Token). Open ∷ (l ++ tokens_of item)) (append-nil (tokens_of_all x)) ∙ ap (λ (l : List Token). Open ∷ l) (sym (one_item x item)) ∙ ap (λ (l : List Sexpr). Open ∷ tokens_of_all l) (ap (λ (l : List Sexpr). l ++ item ∷ []) (sym was) ∙ sym is)
    ∙ ap (λ (l : List Token). Open ∷ l) (sym (append-nil (tokens_of_all new)))
put_last (x ∷ y ∷ xs) zero item old new len was is = absurd (omega arith)
put_last (x ∷ xs) (suc n) item old new len was is =
    ap (λ (l : List Token). Open ∷ l) (append_assoc (tokens_of_all x) (open_tokens xs) (tokens_of item) ∙ ap (λ (l : List Token). tokens_of_all x ++ l) (put_last xs n item old new (omega arith) was is))

pub close_only : (xs : List (List Sexpr)) (list : List Sexpr) → xs ≡ list ∷ [] → open_tokens xs ++ Close ∷ [] ≡ tokens_of_all (s.List list ∷ []) ++ []
close_only xs list e = ap (λ (l : List (List Sexpr)). open_tokens l ++ Close ∷ []) e ∙ ap (λ (l : List Token). Open ∷ (l ++ Close ∷ [])) (append-nil (tokens_of_all list)) ∙ sym (tokens_of-List list) ∙ sym (append-nil (tokens_of (s.List list))) ∙ sym (append-nil (tokens_of (s.List list) ++ []))

set_end : (xs : List Sexpr) (a b : Sexpr) → set (xs ++ a ∷ []) (length xs) b ≡ xs ++ b ∷ []
set_end [] a b = refl
set_end (x ∷ xs) a b = ap (λ (l : List Sexpr). x ∷ l) (set_end xs a b)

pub close_inner : (xs zs : List (List Sexpr)) (n : ℕ) (hole : Sexpr) (p0 p1 p2 p3 top : List Sexpr) → length xs ≡ suc (suc n) → p0 ≡ get_or xs n p0 → p1 ≡ p0 ++ hole ∷ [] → set xs n p1 ≡ zs ++ top ∷ []
    → p2 ≡ get_or zs n p2 → p3 ≡ set p2 (length p2 - 1) (s.List top) → open_tokens xs ++ Close ∷ [] ≡ open_tokens (set zs n p3)
close_inner [] zs n hole p0 p1 p2 p3 top len a b d e f = absurd (omega arith)
close_inner (x ∷ []) zs n hole p0 p1 p2 p3 top len a b d e f = absurd (omega arith)
close_inner (x ∷ y ∷ w ∷ xs) zs zero hole p0 p1 p2 p3 top len a b d e f = absurd (omega arith)
close_inner (x ∷ y ∷ []) [] zero hole p0 p1 p2 p3 top len a b d e f = absurd (omega (arith, ap length d))
close_inner (x ∷ y ∷ []) (z ∷ w ∷ zs) zero hole p0 p1 p2 p3 top len a b d e f = absurd (omega (arith, ap length d, length-append zs (top ∷ [])))
close_inner (x ∷ y ∷ []) (z ∷ []) zero hole p0 p1 p2 p3 top len a b d e f =
    let is_top : top ≡ y = cc in
    let whole : p2 ≡ x ++ hole ∷ [] = cc in
    let count : length p2 - 1 ≡ length x = omega (arith, ap length whole, length-append x (hole ∷ [])) in
    let last : p3 ≡ x ++ s.List y ∷ [] = f ∙ ap (λ (l : List Sexpr). set p2 (length p2 - 1) (s.List l)) is_top ∙ ap (λ (k : ℕ). set p2 k (s.List y)) count ∙ ap (λ (l : List Sexpr). set l (length x) (s.List y)) whole ∙ set_end x hole (s.List y) in
    ap (λ (l : List Token). Open ∷ ((tokens_of_all x ++ (Open ∷ l)) ++ Close ∷ [])) (append-nil (tokens_of_all y)) ∙ ap (λ (l : List Token). Open ∷ l) (append_assoc (tokens_of_all x) (Open ∷ tokens_of_all y) (Close ∷ []))
    ∙ ap (λ (l : List Token). Open ∷ (tokens_of_all x ++ l)) (sym (tokens_of-List y)) ∙ ap (λ (l : List Token). Open ∷ l) (sym (one_item x (s.List y))) ∙ ap (λ (l : List Sexpr). Open ∷ tokens_of_all l) (sym last) ∙ ap (λ (l : List Token). Open ∷ l) (sym (append-nil (tokens_of_all p3)))
close_inner (x ∷ y ∷ xs) [] (suc n) hole p0 p1 p2 p3 top len a b d e f = absurd (omega (arith, ap length d, length-set (y ∷ xs) n p1))
close_inner (x ∷ y ∷ xs) (z ∷ zs) (suc n) hole p0 p1 p2 p3 top len a b d e f =
    let first : x ≡ z = cc in
    let later : set (y ∷ xs) n p1 ≡ zs ++ top ∷ [] = cc in
    ap (λ (l : List Token). Open ∷ l) (append_assoc (tokens_of_all x) (open_tokens (y ∷ xs)) (Close ∷ []) ∙ ap (λ (l : List Token). tokens_of_all x ++ l) (close_inner (y ∷ xs) zs n hole p0 p1 p2 p3 top (omega arith) a b later e f) ∙ ap (λ (q : List Sexpr). tokens_of_all q ++ open_tokens (set zs n p3)) first)

pub close_one : (xs new : List (List Sexpr)) (list : List Sexpr) → length xs ≡ 1 → xs ≡ new ++ list ∷ [] → Feeds xs (Close ∷ []) (Some (s.List list)) new
close_one xs [] list len e = record { tokens = close_only xs list e; whole = refl }
close_one xs (y ∷ new) list len e = absurd (omega (arith, ap length e, length-append new (list ∷ [])))

pub open_feeds : (xs new : List (List Sexpr)) → new ≡ xs ++ [] ∷ [] → Feeds xs (Open ∷ []) None new
open_feeds xs new e = record { tokens = sym (ap open_tokens e ∙ flat_map-append (λ (items : List Sexpr). Open ∷ tokens_of_all items) xs ([] ∷ [])); whole = tt }
