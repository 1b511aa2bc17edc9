-- The tokens of an s-expression (SMT-LIB 2.6, section 3.2), and how deep lists stand in one another.
use Rattle.std.specs.Prelude.{◌≡◌, IfSome, ℕ, zero, suc, nat_lt, List, [], ◌∷◌, ◌++◌, Option, None, Some, if◌then◌else◌}
use Rattle.std.specs.List.{flat_map}
use Rattle.std.specs.Option.{option_to_list}
use Rattle.sexpr_reader.specs.declared.sexpr.Sexpr.{Sexpr}
use Rattle.sexpr_reader.specs.declared.sexpr.Sexpr.TheFolds.{fold-Sexpr}
use Rattle.sexpr_reader.specs.declared.sexpr.Sexpr.TheOpen.{Sexpr-F}
use Rattle.sexpr_reader.specs.Tokens.{Token, Open, Close, Atomic, IsToken}

abbrev pub tokens_layer : Sexpr-F (List Token) → List Token
tokens_layer (Sexpr-F.Atom kind bs) = Atomic kind bs ∷ []
tokens_layer (Sexpr-F.List tss) = Open ∷ flat_map (λ ts. ts) tss ++ Close ∷ []

-- an atom is its token; a list is its items between parentheses
unfoldable pub tokens_of : Sexpr → List Token
tokens_of = fold-Sexpr (List Token) tokens_layer

abbrev pub tokens_of_all : List Sexpr → List Token
tokens_of_all items = flat_map tokens_of items

-- each is a token of its kind
abbrev pub AreTokens : List Token → Type 0
AreTokens [] = Unit {0}
AreTokens (t ∷ ts) = IsToken t × AreTokens ts

-- the bytes of each atom are a token of its kind
abbrev pub HasFormedAtoms : Sexpr → Type 0
HasFormedAtoms item = AreTokens (tokens_of item)

-- the same of each
abbrev pub AreFormed : List Sexpr → Type 0
AreFormed [] = Unit {0}
AreFormed (item ∷ items) = HasFormedAtoms item × AreFormed items

-- the most lists that may be open inside one another
abbrev pub most_open_lists : ℕ
most_open_lists = 1000

-- how many lists are open behind the tokens, with n open before them; nothing where a `)` closes none, or a `(` opens list number 1,001 inside one another
abbrev pub levels : ℕ → List Token → Option ℕ
levels n [] = Some n
levels n (Open ∷ ts) = if nat_lt n most_open_lists then levels (suc n) ts else None
levels zero (Close ∷ ts) = None
levels (suc n) (Close ∷ ts) = levels n ts
levels n (Atomic kind bs ∷ ts) = levels n ts

-- the tokens of lists that are open, the outermost first, each with its items so far
abbrev pub open_tokens : List (List Sexpr) → List Token
open_tokens lists = flat_map (λ items. Open ∷ tokens_of_all items) lists

-- behind these open lists come tokens, which complete an item or not, and then these lists are open
pub record Feeds (old : List (List Sexpr)) (ts : List Token) (given : Option Sexpr) (new : List (List Sexpr)) : Type 0 where
  pub tokens : open_tokens old ++ ts ≡ tokens_of_all (option_to_list given) ++ open_tokens new
  pub whole : IfSome given (λ _. new ≡ [])
