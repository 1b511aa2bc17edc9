-- What is read, and the first syntax fault.
use Rattle.std.specs.Prelude.{◌≡◌, ◌+◌, ℕ, List, [], ◌∷◌, ◌++◌, ◌⊎◌, ◌==◌, not, Bool, true, false, IsTrue, Some, length}
use Rattle.sexpr_reader.specs.declared.kind.TokenKind.{TokenKind}
use Rattle.sexpr_reader.specs.declared.sexpr.Sexpr.{Sexpr}
use Rattle.sexpr_reader.specs.declared.syntax_fault.SyntaxFault.{SyntaxFault}
use Rattle.sexpr_reader.specs.declared.syntax_fault.SyntaxFault.TheVariants as f
use Rattle.sexpr_reader.specs.Bytes.{is_border}
use Rattle.sexpr_reader.specs.Tokens.{Token, doubled, is_barred, is_readable, IsTokenRun, IsPlain}
use Rattle.sexpr_reader.specs.Lexes.{IsBlank, IsBlankEnd, EndsOrPasses, Lexes}
use Rattle.sexpr_reader.specs.Items.{tokens_of_all, levels, most_open_lists}

-- the bytes are the tokens of these items, of which none has more than 1,000 lists inside one another, and then the rest
pub record Begins (ended : Bool) (bytes : List ℕ) (items : List Sexpr) (rest : List ℕ) : Type 0 where
  pub lexed : Lexes ended bytes (tokens_of_all items) rest
  pub nested : levels 0 (tokens_of_all items) ≡ Some 0

-- and no whole item begins the rest
pub record Reads (ended : Bool) (bytes : List ℕ) (items : List Sexpr) (rest : List ℕ) : Type 0 where
  pub begins : Begins ended bytes items rest
  pub last : (item : Sexpr) (after : List ℕ) → Begins ended rest (item ∷ []) after → ⊥

-- a run that is no token of any kind
abbrev pub IsOddRun : Bool → List ℕ → Type 0
IsOddRun ended bytes = (run after : List ℕ) × (bytes ≡ run ++ after) × IsTokenRun run × EndsOrPasses is_border ended after × ((kind : TokenKind) → IsPlain kind run → ⊥)

-- a `\` between bars
abbrev pub IsBarredBackslash : List ℕ → Type 0
IsBarredBackslash bytes = (body after : List ℕ) × (bytes ≡ 124 ∷ body ++ 92 ∷ after) × IsTrue (is_barred body)

-- a whole literal whose content is the text of no word
abbrev pub IsOddLiteral : Bool → List ℕ → Type 0
IsOddLiteral ended bytes = (content after : List ℕ) × (bytes ≡ 34 ∷ doubled content ++ 34 ∷ after) × EndsOrPasses (λ b. not (b == 34)) ended after × (is_readable (doubled content) ≡ false)

-- a literal or a quoted symbol that nothing ends, or, with n lists open, one of them
abbrev pub IsOpenEnd : ℕ → List ℕ → Type 0
IsOpenEnd n bytes = ((content : List ℕ) × (bytes ≡ 34 ∷ doubled content))
    ⊎ (((body : List ℕ) × (bytes ≡ 124 ∷ body) × IsTrue (is_barred body))
    ⊎ ((n ≡ 0 → ⊥) × IsBlankEnd bytes))

-- with n lists open, this fault stands at the front of the bytes, whose place is `here`
abbrev pub FaultAt : Bool → ℕ → ℕ → List ℕ → SyntaxFault → Type 0
FaultAt ended n here bytes (f.Token place) = (place ≡ here) × (IsOddRun ended bytes ⊎ IsBarredBackslash bytes)
FaultAt ended n here bytes (f.Close place) = (place ≡ here) × (n ≡ 0) × ((after : List ℕ) × (bytes ≡ 41 ∷ after))
FaultAt ended n here bytes (f.Depth place) = (place ≡ here) × (n ≡ most_open_lists) × ((after : List ℕ) × (bytes ≡ 40 ∷ after))
FaultAt ended n here bytes (f.Literal place) = (place ≡ here) × IsOddLiteral ended bytes
FaultAt ended n here bytes f.Incomplete = IsTrue ended × IsOpenEnd n bytes
FaultAt ended n here bytes (f.Memory _) = ⊥

-- the bytes are whole tokens with n lists open behind them, white space and comments, and then the rest
pub record Front (ended : Bool) (bytes : List ℕ) (n : ℕ) (rest : List ℕ) : Type 0 where
  pub tokens : List Token
  pub blank : List ℕ
  pub lexed : Lexes ended bytes tokens (blank ++ rest)
  pub level : levels 0 tokens ≡ Some n
  pub gap : IsBlank blank

-- the first syntax fault from the left is this one; its place, if it has one, is that of its token's first byte, counted from 0
pub record SyntaxAt (ended : Bool) (bytes : List ℕ) (fault : SyntaxFault) : Type 0 where
  pub level : ℕ
  pub here : ℕ
  pub rest : List ℕ
  pub front : Front ended bytes level rest
  pub behind : here + length rest ≡ length bytes
  pub found : FaultAt ended level here rest fault

-- these are all items that are whole, and the fault comes next
pub record FaultAfter (ended : Bool) (bytes : List ℕ) (items : List Sexpr) (fault : SyntaxFault) : Type 0 where
  pub rest : List ℕ
  pub reads : Reads ended bytes items rest
  pub first : SyntaxAt ended bytes fault

-- these are all items that are whole so far, and there is no fault so far
pub record Waits (bytes : List ℕ) (items : List Sexpr) : Type 0 where
  pub rest : List ℕ
  pub reads : Reads false bytes items rest
  pub sound : (fault : SyntaxFault) → SyntaxAt false bytes fault → ⊥

-- these are all items, behind which the input has nothing but white space and comments
pub record Ends (bytes : List ℕ) (items : List Sexpr) : Type 0 where
  pub rest : List ℕ
  pub reads : Reads true bytes items rest
  pub blank : IsBlankEnd rest

-- an unfinished token: a run that no border has ended, a quoted symbol without its last bar, a literal without its last quote or one that a further quote would go on
abbrev pub IsUnfinished : List ℕ → Type 0
IsUnfinished part = IsTokenRun part
    ⊎ (((body : List ℕ) × (part ≡ 124 ∷ body) × IsTrue (is_barred body))
    ⊎ (((content : List ℕ) × (part ≡ 34 ∷ doubled content))
    ⊎ ((content : List ℕ) × (part ≡ 34 ∷ doubled content ++ 34 ∷ []))))

-- the bytes are whole tokens, white space and comments, and then this unfinished token or nothing
pub record EndsWith (bytes part : List ℕ) : Type 0 where
  pub tokens : List Token
  pub blank : List ℕ
  pub lexed : Lexes false bytes tokens (blank ++ part)
  pub left : (IsBlank blank × IsUnfinished part) ⊎ (IsBlankEnd blank × (part ≡ []))
