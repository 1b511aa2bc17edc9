-- Tokens of an s-expression keep the levels, where no list too many stands inside others.
use Rattle.std.proofs.Common.{◌≡◌, ℕ, suc, ◌+◌, ◌≤◌, ◌<◌, List, [], ◌∷◌, ◌++◌, Bool, true, Some, None, if◌then◌else◌, refl, sym, ap, ◌∙◌, subst, map, arith, rules}
use Rattle.std.specs.Prelude.{nat_lt}
use Rattle.std.specs.List.{flat_map}
use Rattle.sexpr_reader.specs.declared.sexpr.Sexpr.{Sexpr, roll-Sexpr}
use Rattle.sexpr_reader.specs.declared.sexpr.Sexpr.TheFolds.{ind-Sexpr, map-Sexpr}
use Rattle.sexpr_reader.specs.declared.sexpr.Sexpr.TheOpen.{Sexpr-F}
use Rattle.sexpr_reader.specs.Tokens.{Token, Close}
use Rattle.sexpr_reader.specs.Items.{tokens_of, tokens_layer, levels, most_open_lists}
use Rattle.sexpr_reader.proofs.Lasts.{tokens_roll}
use Rattle.sexpr_reader.proofs.Levels.{levels-append}
use Rattle.sexpr_print.specs.Printed.{greatest, depth, depth_layer}
use Rattle.sexpr_print.proofs.Opened.{depth-roll}

-- the tokens leave the levels as they were, where there is room for so many lists more
abbrev pub Keeps : List Token → ℕ → Type 0
Keeps toks deep = (n : ℕ) → n + deep ≤ most_open_lists → levels n toks ≡ Some n

abbrev Kept : Type 0
Kept = (r : Sexpr) × Keeps (tokens_of r) (depth r)

abbrev bare : List Kept → List Sexpr
bare ys = map (λ (y : Kept). y.0) ys

inner_keeps : (ys : List Kept) → Keeps (flat_map (λ (ts : List Token). ts) (map tokens_of (bare ys))) (greatest (map depth (bare ys)))
inner_keeps [] n room = refl
inner_keeps (y ∷ ys) n room =
    let first : n + depth y.0 ≤ most_open_lists = omega arith in
    let later : n + greatest (map depth (bare ys)) ≤ most_open_lists = omega arith in
    levels-append n n (tokens_of y.0) _ (y.1 n first) ∙ inner_keeps ys n later

layer_keeps : (y : Sexpr-F Kept) → Keeps (tokens_layer (map-Sexpr Sexpr (List Token) tokens_of (map-Sexpr Kept Sexpr (λ e. e.0) y))) (depth_layer (map-Sexpr Sexpr ℕ depth (map-Sexpr Kept Sexpr (λ e. e.0) y)))
layer_keeps (Sexpr-F.Atom kind bs) n room = refl
layer_keeps (Sexpr-F.List ys) n room =
    let low : n < most_open_lists = omega arith in
    let is : nat_lt n most_open_lists ≡ true = search rules in
    let within : suc n + greatest (map depth (bare ys)) ≤ most_open_lists = omega arith in
    ap (λ (b : Bool). if b then levels (suc n) (flat_map (λ (ts : List Token). ts) (map tokens_of (bare ys)) ++ Close ∷ []) else None) is
    ∙ levels-append (suc n) (suc n) (flat_map (λ (ts : List Token). ts) (map tokens_of (bare ys))) (Close ∷ []) (inner_keeps ys (suc n) within)

roll_keeps : (x : Sexpr-F Sexpr) (y : Sexpr-F Kept) → map-Sexpr Kept Sexpr (λ e. e.0) y ≡ x → Keeps (tokens_of (roll-Sexpr x)) (depth (roll-Sexpr x))
roll_keeps x y is =
    subst (λ (toks : List Token). Keeps toks (depth (roll-Sexpr x))) (sym (tokens_roll x))
    (subst (λ (d : ℕ). Keeps (tokens_layer (map-Sexpr Sexpr (List Token) tokens_of x)) d) (sym (depth-roll x))
    (subst (λ (z : Sexpr-F Sexpr). Keeps (tokens_layer (map-Sexpr Sexpr (List Token) tokens_of z)) (depth_layer (map-Sexpr Sexpr ℕ depth z))) is (layer_keeps y)))

pub item_keeps : (item : Sexpr) → Keeps (tokens_of item) (depth item)
item_keeps = ind-Sexpr (λ r. Keeps (tokens_of r) (depth r)) roll_keeps

pub item_level : (item : Sexpr) → depth item ≤ most_open_lists → levels 0 (tokens_of item) ≡ Some 0
item_level item h = item_keeps item 0 (omega (arith, h))
