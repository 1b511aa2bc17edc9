-- S-expressions are told apart by their tokens.
use Rattle.std.proofs.Common.{◌≡◌, ℕ, suc, List, [], ◌∷◌, ◌++◌, Bool, true, false, Option, Some, None, if◌then◌else◌, refl, sym, ap, ◌∙◌, append_assoc, map}
use Rattle.std.specs.Prelude.{nat_lt}
use Rattle.std.specs.List.{flat_map}
use Rattle.sexpr_reader.specs.declared.kind.TokenKind.{TokenKind}
use Rattle.sexpr_reader.specs.declared.sexpr.Sexpr.{Sexpr, roll-Sexpr}
use Rattle.sexpr_reader.specs.declared.sexpr.Sexpr.TheFolds.{ind-Sexpr, map-Sexpr}
use Rattle.sexpr_reader.specs.declared.sexpr.Sexpr.TheOpen.{Sexpr-F}
use Rattle.sexpr_reader.specs.Tokens.{Token, Open, Close, Atomic}
use Rattle.sexpr_reader.specs.Items.{tokens_of, tokens_of_all, tokens_layer, levels, most_open_lists}
use Rattle.sexpr_reader.proofs.Lasts.{tokens_roll, some_tokens}
use Rattle.sexpr_reader.proofs.Levels.{levels-append}

abbrev layer : Sexpr-F Sexpr → List Token
layer x = tokens_layer (map-Sexpr Sexpr (List Token) tokens_of x)

abbrev inner : List Sexpr → List Token
inner items = flat_map (λ (ts : List Token). ts) (map tokens_of items)

-- no s-expression begins with `)`
layer_first : (x : Sexpr-F Sexpr) (us vs : List Token) → layer x ++ us ≡ Close ∷ vs → ⊥
layer_first (Sexpr-F.Atom kind bs) us vs e = cc
layer_first (Sexpr-F.List items) us vs e = cc

no_close : (item : Sexpr) (us vs : List Token) → tokens_of item ++ us ≡ Close ∷ vs → ⊥
no_close = ind-Sexpr (λ r. (us vs : List Token) → tokens_of r ++ us ≡ Close ∷ vs → ⊥) (λ x y is us vs e. layer_first x us vs (sym (ap (λ (l : List Token). l ++ us) (tokens_roll x)) ∙ e))

abbrev Told : Sexpr → Type 0
Told r = (z : Sexpr) (us vs : List Token) → tokens_of r ++ us ≡ tokens_of z ++ vs → (r ≡ z) × (us ≡ vs)

abbrev Sure : Type 0
Sure = (r : Sexpr) × Told r

abbrev bare : List Sure → List Sexpr
bare ys = map (λ (y : Sure). y.0) ys

same_inner : (ys : List Sure) (zs : List Sexpr) (us vs : List Token) → inner (bare ys) ++ Close ∷ us ≡ inner zs ++ Close ∷ vs → (bare ys ≡ zs) × (us ≡ vs)
same_inner [] [] us vs e = (refl, cc)
same_inner [] (z ∷ zs) us vs e = absurd (no_close z (inner zs ++ Close ∷ vs) us (sym (append_assoc (tokens_of z) (inner zs) (Close ∷ vs)) ∙ sym e))
same_inner (y ∷ ys) [] us vs e = absurd (no_close y.0 (inner (bare ys) ++ Close ∷ us) vs (sym (append_assoc (tokens_of y.0) (inner (bare ys)) (Close ∷ us)) ∙ e))
same_inner (y ∷ ys) (z ∷ zs) us vs e =
    let head = y.1 z (inner (bare ys) ++ Close ∷ us) (inner zs ++ Close ∷ vs) (sym (append_assoc (tokens_of y.0) (inner (bare ys)) (Close ∷ us)) ∙ e ∙ append_assoc (tokens_of z) (inner zs) (Close ∷ vs)) in
    let tail = same_inner ys zs us vs head.1 in
    (ap (λ (r : Sexpr). r ∷ bare ys) head.0 ∙ ap (λ (l : List Sexpr). z ∷ l) tail.0, tail.1)

same_layer : (y : Sexpr-F Sure) (x : Sexpr-F Sexpr) (us vs : List Token) → layer (map-Sexpr Sure Sexpr (λ e. e.0) y) ++ us ≡ layer x ++ vs → (map-Sexpr Sure Sexpr (λ e. e.0) y ≡ x) × (us ≡ vs)
same_layer (Sexpr-F.Atom kind bs) (Sexpr-F.Atom k2 cs) us vs e =
    let head : Atomic kind bs ≡ Atomic k2 cs = cc in
    let kinds : kind ≡ k2 = cc in
    let bytes : bs ≡ cs = cc in
    (ap (λ (k : TokenKind). Sexpr-F.Atom k bs) kinds ∙ ap (λ (l : List ℕ). Sexpr-F.Atom k2 l) bytes, cc)
same_layer (Sexpr-F.Atom kind bs) (Sexpr-F.List zs) us vs e = cc
same_layer (Sexpr-F.List ys) (Sexpr-F.Atom kind bs) us vs e = cc
same_layer (Sexpr-F.List ys) (Sexpr-F.List zs) us vs e =
    let whole : Open ∷ (inner (bare ys) ++ Close ∷ us) ≡ Open ∷ (inner zs ++ Close ∷ vs) = ap (λ (l : List Token). Open ∷ l) (sym (append_assoc (inner (bare ys)) (Close ∷ []) us)) ∙ e ∙ ap (λ (l : List Token). Open ∷ l) (append_assoc (inner zs) (Close ∷ []) vs) in
    let later : inner (bare ys) ++ Close ∷ us ≡ inner zs ++ Close ∷ vs = cc in
    let r = same_inner ys zs us vs later in
    (ap (λ (l : List Sexpr). Sexpr-F.List l) r.0, r.1)

told_layer : (x : Sexpr-F Sexpr) (y : Sexpr-F Sure) → map-Sexpr Sure Sexpr (λ e. e.0) y ≡ x → Told (roll-Sexpr x)
told_layer x y is = ind-Sexpr (λ z. (us vs : List Token) → tokens_of (roll-Sexpr x) ++ us ≡ tokens_of z ++ vs → (roll-Sexpr x ≡ z) × (us ≡ vs)) (λ w v them us vs e.
    let layers : layer (map-Sexpr Sure Sexpr (λ e. e.0) y) ++ us ≡ layer w ++ vs = ap (λ (q : Sexpr-F Sexpr). layer q ++ us) is ∙ sym (ap (λ (l : List Token). l ++ us) (tokens_roll x)) ∙ e ∙ ap (λ (l : List Token). l ++ vs) (tokens_roll w) in
    let r = same_layer y w us vs layers in
    (ap roll-Sexpr (sym is ∙ r.0), r.1))

-- the tokens of an s-expression tell it and where it ends
pub same_item : (r z : Sexpr) (us vs : List Token) → tokens_of r ++ us ≡ tokens_of z ++ vs → (r ≡ z) × (us ≡ vs)
same_item = ind-Sexpr Told told_layer

-- one list of s-expressions goes on where the other stops
pub same_items : (xs ys : List Sexpr) (us : List Token) → tokens_of_all ys ≡ tokens_of_all xs ++ us → (zs : List Sexpr) × (ys ≡ xs ++ zs) × (us ≡ tokens_of_all zs)
same_items [] ys us e = (ys, refl, sym e)
same_items (x ∷ xs) [] us e = absurd (some_tokens x (nil_front (tokens_of x) (tokens_of_all xs ++ us) (sym (append_assoc (tokens_of x) (tokens_of_all xs) us) ∙ sym e)))
  where
    nil_front : (ts more : List Token) → ts ++ more ≡ [] → ts ≡ []
    nil_front [] more k = refl
    nil_front (t ∷ ts) more k = cc
same_items (x ∷ xs) (y ∷ ys) us e =
    let head = same_item y x (tokens_of_all ys) (tokens_of_all xs ++ us) (e ∙ append_assoc (tokens_of x) (tokens_of_all xs) us) in
    let tail = same_items xs ys us head.1 in
    (tail.0, ap (λ (r : Sexpr). r ∷ ys) head.0 ∙ ap (λ (l : List Sexpr). x ∷ l) tail.1, tail.2)

-- an s-expression leaves the levels as they were
abbrev Level : Sexpr → Type 0
Level r = (n k : ℕ) (us : List Token) → levels n (tokens_of r ++ us) ≡ Some k → levels n (tokens_of r) ≡ Some n

abbrev Even : Type 0
Even = (r : Sexpr) × Level r

abbrev plain : List Even → List Sexpr
plain ys = map (λ (y : Even). y.0) ys

inner_level : (ys : List Even) (n k : ℕ) (us : List Token) → levels n (inner (plain ys) ++ us) ≡ Some k → levels n (inner (plain ys)) ≡ Some n
inner_level [] n k us e = refl
inner_level (y ∷ ys) n k us e =
    let whole : levels n (tokens_of y.0 ++ (inner (plain ys) ++ us)) ≡ Some k = sym (ap (levels n) (append_assoc (tokens_of y.0) (inner (plain ys)) us)) ∙ e in
    let head = y.1 n k (inner (plain ys) ++ us) whole in
    let tail = inner_level ys n k us (sym (levels-append n n (tokens_of y.0) (inner (plain ys) ++ us) head) ∙ whole) in
    levels-append n n (tokens_of y.0) (inner (plain ys)) head ∙ tail

open_level : (b : Bool) (x y : Option ℕ) (k n : ℕ) → (if b then x else None) ≡ Some k → (x ≡ Some k → y ≡ Some n) → (if b then y else None) ≡ Some n
open_level true x y k n e f = f e
open_level false x y k n e f = cc

layer_level : (y : Sexpr-F Even) (n k : ℕ) (us : List Token) → levels n (layer (map-Sexpr Even Sexpr (λ e. e.0) y) ++ us) ≡ Some k → levels n (layer (map-Sexpr Even Sexpr (λ e. e.0) y)) ≡ Some n
layer_level (Sexpr-F.Atom kind bs) n k us e = refl
layer_level (Sexpr-F.List ys) n k us e =
    open_level (nat_lt n most_open_lists) (levels (suc n) ((inner (plain ys) ++ Close ∷ []) ++ us)) (levels (suc n) (inner (plain ys) ++ Close ∷ [])) k n e
    (λ f. levels-append (suc n) (suc n) (inner (plain ys)) (Close ∷ []) (inner_level ys (suc n) k (Close ∷ us) (sym (ap (levels (suc n)) (append_assoc (inner (plain ys)) (Close ∷ []) us)) ∙ f)))

level_layer : (x : Sexpr-F Sexpr) (y : Sexpr-F Even) → map-Sexpr Even Sexpr (λ e. e.0) y ≡ x → Level (roll-Sexpr x)
level_layer x y is n k us e =
    let r = layer_level y n k us (ap (λ (q : Sexpr-F Sexpr). levels n (layer q ++ us)) is ∙ sym (ap (λ (l : List Token). levels n (l ++ us)) (tokens_roll x)) ∙ e) in
    ap (levels n) (tokens_roll x) ∙ sym (ap (λ (q : Sexpr-F Sexpr). levels n (layer q)) is) ∙ r

pub item_level : (r : Sexpr) (n k : ℕ) (us : List Token) → levels n (tokens_of r ++ us) ≡ Some k → levels n (tokens_of r) ≡ Some n
item_level = ind-Sexpr Level level_layer
