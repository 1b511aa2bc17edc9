-- What is printed, by the forms of an s-expression.
use Rattle.std.proofs.Common.{◌≡◌, ℕ, suc, List, [], ◌∷◌, ◌++◌, sym, ap, ◌∙◌, map}
use Rattle.sexpr_reader.specs.declared.kind.TokenKind.{TokenKind}
use Rattle.sexpr_reader.specs.declared.sexpr.Sexpr.{Sexpr, roll-Sexpr}
use Rattle.sexpr_reader.specs.declared.sexpr.Sexpr.TheFolds.{fold-roll-Sexpr, map-Sexpr}
use Rattle.sexpr_reader.specs.declared.sexpr.Sexpr.TheOpen.{Sexpr-F}
use Rattle.sexpr_reader.specs.declared.sexpr.Sexpr.TheVariants as s
use Rattle.sexpr_print.specs.Printed.{spaced, printed, printed_layer, greatest, depth, depth_layer}

pub printed-roll : (x : Sexpr-F Sexpr) → printed (roll-Sexpr x) ≡ printed_layer (map-Sexpr Sexpr (List ℕ) printed x)
unfolding printed
printed-roll x = fold-roll-Sexpr (List ℕ) printed_layer x

pub printed-Atom : (kind : TokenKind) (bs : List ℕ) → printed (s.Atom kind bs) ≡ bs
printed-Atom kind bs = ap printed (sym (s.rolls-Atom kind bs)) ∙ printed-roll (Sexpr-F.Atom kind bs)

pub printed-List : (items : List Sexpr) → printed (s.List items) ≡ 40 ∷ (spaced (map printed items) ++ 41 ∷ [])
printed-List items = ap printed (sym (s.rolls-List items)) ∙ printed-roll (Sexpr-F.List items)

pub depth-roll : (x : Sexpr-F Sexpr) → depth (roll-Sexpr x) ≡ depth_layer (map-Sexpr Sexpr ℕ depth x)
unfolding depth
depth-roll x = fold-roll-Sexpr ℕ depth_layer x

pub depth-Atom : (kind : TokenKind) (bs : List ℕ) → depth (s.Atom kind bs) ≡ 0
depth-Atom kind bs = ap depth (sym (s.rolls-Atom kind bs)) ∙ depth-roll (Sexpr-F.Atom kind bs)

pub depth-List : (items : List Sexpr) → depth (s.List items) ≡ suc (greatest (map depth items))
depth-List items = ap depth (sym (s.rolls-List items)) ∙ depth-roll (Sexpr-F.List items)
