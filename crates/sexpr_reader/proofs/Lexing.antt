-- One token more, and more bytes behind.
use Rattle.std.proofs.Common.{◌≡◌, ℕ, List, [], ◌∷◌, ◌++◌, Bool, false, refl, ap, ◌∙◌, append_assoc}
use Rattle.sexpr_reader.specs.declared.kind.TokenKind.TheVariants.{Numeral, Decimal, Hexadecimal, Binary, Symbol, Quoted, Keyword, Literal}
use Rattle.sexpr_reader.specs.Tokens.{Token, Open, Close, Atomic, text, IsToken}
use Rattle.sexpr_reader.specs.Lexes.{IsBlank, EndsOrPasses, IsEnded, Lexes}

pub Lexes-push : (ended : Bool) (bytes : List ℕ) (ts : List Token) (blank : List ℕ) (t : Token) (after : List ℕ) →
    Lexes ended bytes ts (blank ++ (text t ++ after)) → IsBlank blank → IsToken t → IsEnded t ended after → Lexes ended bytes (ts ++ t ∷ []) after
Lexes-push ended bytes [] blank t after e gap is ends = (blank, after, gap, e, is, ends, refl)
Lexes-push ended bytes (u ∷ ts) blank t after h gap is ends =
    (h.0, h.1, h.2, h.3, h.4, h.5, Lexes-push ended h.1 ts blank t after h.6 gap is ends)

pub EndsAt-more : (p : ℕ → Bool) (ended : Bool) (after more : List ℕ) → EndsOrPasses p false after → EndsOrPasses p ended (after ++ more)
EndsAt-more p ended [] more h = cc
EndsAt-more p ended (b ∷ after) more h = h

IsEnded-more : (t : Token) (ended : Bool) (after more : List ℕ) → IsEnded t false after → IsEnded t ended (after ++ more)
IsEnded-more Open ended after more h = h
IsEnded-more Close ended after more h = h
IsEnded-more (Atomic Quoted bs) ended after more h = h
IsEnded-more (Atomic Literal bs) ended after more h = EndsAt-more _ ended after more h
IsEnded-more (Atomic Numeral bs) ended after more h = EndsAt-more _ ended after more h
IsEnded-more (Atomic Decimal bs) ended after more h = EndsAt-more _ ended after more h
IsEnded-more (Atomic Hexadecimal bs) ended after more h = EndsAt-more _ ended after more h
IsEnded-more (Atomic Binary bs) ended after more h = EndsAt-more _ ended after more h
IsEnded-more (Atomic Symbol bs) ended after more h = EndsAt-more _ ended after more h
IsEnded-more (Atomic Keyword bs) ended after more h = EndsAt-more _ ended after more h

-- what was read stays read when more bytes come
pub Lexes-more : (ended : Bool) (bytes : List ℕ) (ts : List Token) (rest more : List ℕ) → Lexes false bytes ts rest → Lexes ended (bytes ++ more) ts (rest ++ more)
Lexes-more ended bytes [] rest more e = ap (λ (l : List ℕ). l ++ more) e
Lexes-more ended bytes (t ∷ ts) rest more h =
    (h.0, h.1 ++ more, h.2, longer, h.4, IsEnded-more t ended h.1 more h.5, Lexes-more ended h.1 ts rest more h.6)
  where
    longer : bytes ++ more ≡ h.0 ++ (text t ++ (h.1 ++ more))
    longer = ap (λ (l : List ℕ). l ++ more) h.3 ∙ simp append_assoc
