-- S-expressions as the definitions take them apart: each is a token or a group, and a group is a list of forms. The two types mirror `Sexpr`, so that a definition may go by cases on what stands inside a list.
use Rattle.std.specs.Prelude.{ℕ, suc, Bool, true, ◌&&◌, List, [], ◌∷◌, Option, Some, None}
use Rattle.sexpr_reader.specs.declared.kind.TokenKind.{TokenKind}
use Rattle.sexpr_reader.specs.declared.sexpr.Sexpr.{Sexpr}
use Rattle.sexpr_reader.specs.declared.sexpr.Sexpr.TheOpen.{Sexpr-F}
use Rattle.sexpr_reader.specs.declared.sexpr.Sexpr.TheFolds.{fold-Sexpr}
use Rattle.sexpr_reader.specs.declared.sexpr.Sexpr.TheVariants as sexpr

infixr 5 ◌⨾◌
mutual
  -- a token with its bytes, or a list in parentheses
  pub data Form : Type 0 where
    token : TokenKind → List ℕ → Form
    group : Forms → Form

  pub data Forms : Type 0 where
    end : Forms
    ◌⨾◌ : Form → Forms → Forms

abbrev pub forms : List Form → Forms
forms [] = end
forms (f ∷ fs) = f ⨾ forms fs

abbrev pub count : Forms → ℕ
count end = 0
count (f ⨾ fs) = suc (count fs)

-- the items of a list of two
abbrev pub two : Form → Option (Form × Form)
two (group (a ⨾ b ⨾ end)) = Some (a, b)
two _ = None

-- whether each passes a test
abbrev pub are_all : (Form → Bool) → Forms → Bool
are_all p end = true
are_all p (f ⨾ fs) = p f && are_all p fs

abbrev pub form_layer : Sexpr-F Form → Form
form_layer (Sexpr-F.Atom kind text) = token kind text
form_layer (Sexpr-F.List fs) = group (forms fs)

-- an s-expression as a form
abbrev pub seen : Sexpr → Form
seen = fold-Sexpr Form form_layer

abbrev mutual
  -- the s-expression that a form mirrors
  pub raw : Form → Sexpr
  raw (token kind text) = sexpr.Atom kind text
  raw (group fs) = sexpr.List (raws fs)

  pub raws : Forms → List Sexpr
  raws end = []
  raws (f ⨾ fs) = raw f ∷ raws fs
