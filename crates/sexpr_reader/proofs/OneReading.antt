-- Bytes have one reading.
use Rattle.std.proofs.Common.{◌≡◌, ℕ, List, [], ◌∷◌, ◌++◌, Bool, Some, sym, ap, ◌∙◌, subst, append-nil}
use Rattle.sexpr_reader.specs.declared.sexpr.Sexpr.{Sexpr}
use Rattle.sexpr_reader.specs.Tokens.{Token}
use Rattle.sexpr_reader.specs.Lexes.{Lexes}
use Rattle.sexpr_reader.specs.Items.{tokens_of, tokens_of_all, levels}
use Rattle.sexpr_reader.specs.Reads.{Begins, Reads}
use Rattle.sexpr_reader.proofs.Levels.{levels-append}
use Rattle.sexpr_reader.proofs.Readable.{same_items, item_level}
use Rattle.sexpr_reader.proofs.Tokens.{same_lexing, cut_lexing, Further, first, second}

-- a reading that goes on begins with a whole item
goes_on : (ended : Bool) (xs ys : List Sexpr) (rest after : List ℕ) → ((item : Sexpr) (left : List ℕ) → Begins ended rest (item ∷ []) left → ⊥) → levels 0 (tokens_of_all xs) ≡ Some 0 → levels 0 (tokens_of_all ys) ≡ Some 0
    → (us : List Token) → tokens_of_all ys ≡ tokens_of_all xs ++ us → Lexes ended rest us after → (zs : List Sexpr) → ys ≡ xs ++ zs → us ≡ tokens_of_all zs → (xs ≡ ys) × (rest ≡ after)
goes_on ended xs ys rest after last flat even us e l [] is are = (sym (is ∙ append-nil xs), subst (λ (ts : List Token). Lexes ended rest ts after) are l)
goes_on ended xs ys rest after last flat even us e l (z ∷ zs) is are =
    let lexed : Lexes ended rest (tokens_of z ++ tokens_of_all zs) after = subst (λ (ts : List Token). Lexes ended rest ts after) are l in
    let cut = cut_lexing ended rest (tokens_of z) (tokens_of_all zs) after lexed in
    let level : levels 0 (tokens_of z ++ tokens_of_all zs) ≡ Some 0 = ap (levels 0) (sym are) ∙ sym (levels-append 0 0 (tokens_of_all xs) us flat) ∙ ap (levels 0) (sym e) ∙ even in
    absurd (last z cut.0 (record { lexed = subst (λ (ts : List Token). Lexes ended rest ts cut.0) (sym (append-nil (tokens_of z))) cut.1; nested = ap (levels 0) (append-nil (tokens_of z)) ∙ item_level z 0 0 (tokens_of_all zs) level }))

module _ (ended : Bool) (xs ys : List Sexpr) (rest after : List ℕ) (bytes : List ℕ) (h : Reads ended bytes xs rest) (g : Reads ended bytes ys after) where
  joined : Further ended (tokens_of_all xs) (tokens_of_all ys) rest after → (xs ≡ ys) × (rest ≡ after)
  joined (first us e l) =
      let r = same_items xs ys us e in
      goes_on ended xs ys rest after h.last h.begins.nested g.begins.nested us e l r.0 r.1 r.2
  joined (second us e l) =
      let r = same_items ys xs us e in
      let k = goes_on ended ys xs after rest g.last g.begins.nested h.begins.nested us e l r.0 r.1 r.2 in
      (sym k.0, sym k.1)

  pub one_reading : (xs ≡ ys) × (rest ≡ after)
  one_reading = joined (same_lexing ended bytes (tokens_of_all xs) (tokens_of_all ys) rest after h.begins.lexed g.begins.lexed)
