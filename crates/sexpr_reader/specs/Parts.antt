-- What stands behind the last whole token: white space and comments, and then an unfinished token.
use Rattle.std.specs.Prelude.{◌≡◌, ℕ, List, [], ◌∷◌, ◌++◌, IsTrue}
use Rattle.sexpr_reader.specs.declared.mode.Mode.{Mode}
use Rattle.sexpr_reader.specs.declared.mode.Mode.TheVariants as m
use Rattle.sexpr_reader.specs.Tokens.{doubled, is_barred, IsTokenRun}
use Rattle.sexpr_reader.specs.Lexes.{IsBlank, InComment}

-- the bytes of an unfinished token
abbrev pub IsPart : Mode → List ℕ → Type 0
IsPart m.Blank part = part ≡ []
IsPart m.Comment part = part ≡ []
IsPart m.Run part = IsTokenRun part
IsPart m.Bars part = (body : List ℕ) × (part ≡ 124 ∷ body) × IsTrue (is_barred body)
IsPart m.Quotes part = (content : List ℕ) × (part ≡ 34 ∷ doubled content)
IsPart m.Quote part = (content : List ℕ) × (part ≡ 34 ∷ doubled content ++ 34 ∷ [])

-- the white space and comments before it
abbrev pub IsGap : Mode → List ℕ → Type 0
IsGap m.Comment blank = InComment blank
IsGap mode blank = IsBlank blank
