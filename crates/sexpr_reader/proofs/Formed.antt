-- The parts of an s-expression whose atoms are tokens.
use Rattle.std.proofs.Common.{ℕ, List, [], ◌∷◌, ◌++◌, sym, subst}
use Rattle.std.specs.Prelude.{◌↔◌}
use Rattle.sexpr_reader.specs.declared.kind.TokenKind.{TokenKind}
use Rattle.sexpr_reader.specs.declared.sexpr.Sexpr.{Sexpr}
use Rattle.sexpr_reader.specs.declared.sexpr.Sexpr.TheVariants as s
use Rattle.sexpr_reader.specs.Tokens.{Token, Open, Close, Atomic, IsOfKind}
use Rattle.sexpr_reader.specs.Items.{tokens_of, tokens_of_all, HasFormedAtoms, AreFormed, AreTokens}
use Rattle.sexpr_reader.proofs.Nests.{tokens_of-Atom, tokens_of-List}

pub tokens_front : (ts us : List Token) → AreTokens (ts ++ us) → AreTokens ts
tokens_front [] us h = tt
tokens_front (t ∷ ts) us h = (h.0, tokens_front ts us h.1)

pub tokens_back : (ts us : List Token) → AreTokens (ts ++ us) → AreTokens us
tokens_back [] us h = h
tokens_back (t ∷ ts) us h = tokens_back ts us h.1

tokens_both : (ts us : List Token) → AreTokens ts → AreTokens us → AreTokens (ts ++ us)
tokens_both [] us h g = g
tokens_both (t ∷ ts) us h g = (h.0, tokens_both ts us h.1 g)

all_formed : (items : List Sexpr) → AreTokens (tokens_of_all items) → AreFormed items
all_formed [] h = tt
all_formed (item ∷ items) h = (tokens_front (tokens_of item) (tokens_of_all items) h, all_formed items (tokens_back (tokens_of item) (tokens_of_all items) h))

all_tokens : (items : List Sexpr) → AreFormed items → AreTokens (tokens_of_all items)
all_tokens [] h = tt
all_tokens (item ∷ items) h = tokens_both (tokens_of item) (tokens_of_all items) h.0 (all_tokens items h.1)

pub formed_atom : (kind : TokenKind) (bytes : List ℕ) → HasFormedAtoms (s.Atom kind bytes) ↔ IsOfKind kind bytes
formed_atom kind bytes = (
  λ h. let k : AreTokens (Atomic kind bytes ∷ []) = subst AreTokens (tokens_of-Atom kind bytes) h in k.0,
  λ h. subst AreTokens (sym (tokens_of-Atom kind bytes)) (h, tt),
)

pub formed_list : (items : List Sexpr) → HasFormedAtoms (s.List items) ↔ AreFormed items
formed_list items = (
  λ h. let k : AreTokens (Open ∷ (tokens_of_all items ++ Close ∷ [])) = subst AreTokens (tokens_of-List items) h in all_formed items (tokens_front (tokens_of_all items) (Close ∷ []) k.1),
  λ h. subst AreTokens (sym (tokens_of-List items)) (tt, tokens_both (tokens_of_all items) (Close ∷ []) (all_tokens items h) (tt, tt)),
)
