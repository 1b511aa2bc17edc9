-- Bytes as tokens, with white space and comments before each (SMT-LIB 2.6, section 3.1).
use Rattle.std.specs.Prelude.{◌≡◌, ℕ, ◌==◌, not, List, [], ◌∷◌, ◌++◌, ◌⊎◌, Bool, IsTrue}
use Rattle.std.specs.List.{list_all}
use Rattle.sexpr_reader.specs.declared.kind.TokenKind.TheVariants.{Quoted, Literal}
use Rattle.sexpr_reader.specs.Bytes.{is_white, is_line_end, is_border}
use Rattle.sexpr_reader.specs.Tokens.{Token, Open, Close, Atomic, text, IsToken}

-- bytes of a comment, behind its semicolon: any but LF and CR
abbrev pub is_comment : List ℕ → Bool
is_comment bs = list_all (λ b. not (is_line_end b)) bs

-- white space, and comments with the line ends that end them
pub data IsBlank : List ℕ → Type 0 where
  none : IsBlank []
  white : {b : ℕ} {bs : List ℕ} → IsTrue (is_white b) → IsBlank bs → IsBlank (b ∷ bs)
  comment : (body : List ℕ) (b : ℕ) (bs : List ℕ) → IsTrue (is_comment body) → IsTrue (is_line_end b) → IsBlank bs → IsBlank (59 ∷ body ++ b ∷ bs)

-- white space and comments, and at last a comment that no line end has ended
abbrev pub InComment : List ℕ → Type 0
InComment bytes = (front body : List ℕ) × (bytes ≡ front ++ 59 ∷ body) × IsBlank front × IsTrue (is_comment body)

-- white space and comments up to the end of the input, which may end the last comment
abbrev pub IsBlankEnd : List ℕ → Type 0
IsBlankEnd bytes = IsBlank bytes ⊎ InComment bytes

-- the end of the input stands there, or a byte that passes
abbrev pub EndsOrPasses : (ℕ → Bool) → Bool → List ℕ → Type 0
EndsOrPasses p ended [] = IsTrue ended
EndsOrPasses p ended (b ∷ bs) = IsTrue (p b)

-- what has to come behind a token: a literal ends at a quote that no quote follows, a run in front of a border; the others end by themselves
abbrev pub IsEnded : Token → Bool → List ℕ → Type 0
IsEnded Open ended after = Unit {0}
IsEnded Close ended after = Unit {0}
IsEnded (Atomic Quoted bs) ended after = Unit {0}
IsEnded (Atomic Literal bs) ended after = EndsOrPasses (λ b. not (b == 34)) ended after
IsEnded (Atomic kind bs) ended after = EndsOrPasses is_border ended after

-- the bytes are these tokens, each whole and with white space and comments before it, and then the rest; `ended` says whether the input has ended behind the bytes
abbrev pub Lexes : Bool → List ℕ → List Token → List ℕ → Type 0
Lexes ended bytes [] rest = bytes ≡ rest
Lexes ended bytes (t ∷ ts) rest = (blank after : List ℕ) × IsBlank blank × (bytes ≡ blank ++ (text t ++ after)) × IsToken t × IsEnded t ended after × Lexes ended after ts rest
