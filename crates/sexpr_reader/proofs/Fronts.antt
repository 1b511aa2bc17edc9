-- Where no further token stands, the bytes are lexed in one way.
use Rattle.std.proofs.Common.{◌≡◌, ℕ, List, [], ◌∷◌, ◌++◌, Bool, Some, sym, ap, ◌∙◌, append-nil}
use Rattle.sexpr_reader.specs.Tokens.{Token}
use Rattle.sexpr_reader.specs.Lexes.{Lexes}
use Rattle.sexpr_reader.specs.Items.{levels}
use Rattle.sexpr_reader.proofs.Levels.{levels-append}
use Rattle.sexpr_reader.proofs.Tokens.{same_lexing, Further, first, second}

-- with n lists open, no token that keeps the levels stands at the front
pub record Stuck (ended : Bool) (n : ℕ) (bytes : List ℕ) : Type 0 where
  pub none : (t : Token) (ts : List Token) (after : List ℕ) (k : ℕ) → Lexes ended bytes (t ∷ ts) after → levels n (t ∷ ts) ≡ Some k → ⊥

module _ (ended : Bool) (ts us : List Token) (rest after : List ℕ) (n m : ℕ) (deep : levels 0 ts ≡ Some n) (there : levels 0 us ≡ Some m) (stuck : Stuck ended n rest) (end : Stuck ended m after) where
  first_ends : (vs : List Token) → us ≡ ts ++ vs → Lexes ended rest vs after → (ts ≡ us) × (rest ≡ after)
  first_ends [] e l = (sym (e ∙ append-nil ts), l)
  first_ends (v ∷ vs) e l = absurd (stuck.none v vs after m l (sym (levels-append 0 n ts (v ∷ vs) deep) ∙ ap (levels 0) (sym e) ∙ there))

  second_ends : (vs : List Token) → ts ≡ us ++ vs → Lexes ended after vs rest → (ts ≡ us) × (rest ≡ after)
  second_ends [] e l = (e ∙ append-nil us, sym l)
  second_ends (v ∷ vs) e l = absurd (end.none v vs rest n l (sym (levels-append 0 m us (v ∷ vs) there) ∙ ap (levels 0) (sym e) ∙ deep))

  both_end : Further ended ts us rest after → (ts ≡ us) × (rest ≡ after)
  both_end (first vs e l) = first_ends vs e l
  both_end (second vs e l) = second_ends vs e l

  pub one_front : (bytes : List ℕ) → Lexes ended bytes ts rest → Lexes ended bytes us after → (ts ≡ us) × (rest ≡ after)
  one_front bytes h g = both_end (same_lexing ended bytes ts us rest after h g)
