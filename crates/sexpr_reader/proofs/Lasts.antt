-- What was given are all items that are whole.
use Rattle.std.proofs.Common.{◌≡◌, ℕ, List, [], ◌∷◌, ◌++◌, Bool, Some, length, sym, ap, ◌∙◌, append-nil}
use Rattle.sexpr_reader.specs.declared.mode.Mode.{Mode}
use Rattle.sexpr_reader.specs.declared.sexpr.Sexpr.{Sexpr, roll-Sexpr}
use Rattle.sexpr_reader.specs.declared.sexpr.Sexpr.TheFolds.{fold-roll-Sexpr, ind-Sexpr, map-Sexpr}
use Rattle.sexpr_reader.specs.declared.sexpr.Sexpr.TheOpen.{Sexpr-F}
use Rattle.sexpr_reader.specs.declared.syntax_fault.SyntaxFault.{SyntaxFault}
use Rattle.sexpr_reader.specs.Tokens.{Token}
use Rattle.sexpr_reader.specs.Lexes.{IsBlank, Lexes}
use Rattle.sexpr_reader.specs.Items.{tokens_of, tokens_of_all, tokens_layer, open_tokens, levels}
use Rattle.sexpr_reader.specs.Reads.{Begins, Reads, FaultAt, FaultAfter}
use Rattle.sexpr_reader.specs.Standing.{At}
use Rattle.sexpr_reader.proofs.Faults.{fault_stuck}
use Rattle.sexpr_reader.proofs.Fronts.{Stuck}
use Rattle.sexpr_reader.proofs.Levels.{levels-append}
use Rattle.sexpr_reader.proofs.Places.{at_fault}
use Rattle.sexpr_reader.proofs.Tokens.{same_lexing, cut_lexing, Further, first, second}

pub tokens_roll : (x : Sexpr-F Sexpr) → tokens_of (roll-Sexpr x) ≡ tokens_layer (map-Sexpr Sexpr (List Token) tokens_of x)
unfolding tokens_of
tokens_roll x = fold-roll-Sexpr (List Token) tokens_layer x

layer_some : (x : Sexpr-F Sexpr) → tokens_layer (map-Sexpr Sexpr (List Token) tokens_of x) ≡ [] → ⊥
layer_some (Sexpr-F.Atom kind bs) e = cc
layer_some (Sexpr-F.List items) e = cc

pub some_tokens : (item : Sexpr) → tokens_of item ≡ [] → ⊥
some_tokens = ind-Sexpr (λ r. tokens_of r ≡ [] → ⊥) (λ x y is e. layer_some x (sym (tokens_roll x) ∙ e))

module _ (ended : Bool) (rest after blank kept : List ℕ) (outer : List Token) (item : Sexpr) (apart : (us vs : List Token) → us ++ vs ≡ outer → levels 0 us ≡ Some 0 → us ≡ []) (stuck : (t : Token) (ts : List Token) → Lexes ended (blank ++ kept) (t ∷ ts) after → levels 0 (outer ++ t ∷ ts) ≡ Some 0 → ⊥) where
  no_more : (vs : List Token) → tokens_of_all (item ∷ []) ≡ outer ++ vs → Lexes ended (blank ++ kept) vs after → levels 0 (tokens_of_all (item ∷ [])) ≡ Some 0 → ⊥
  no_more [] e l h = some_tokens item (sym (append-nil (tokens_of item)) ∙ apart (tokens_of_all (item ∷ [])) [] (append-nil _ ∙ e ∙ append-nil outer) h)
  no_more (t ∷ ts) e l h = stuck t ts l (ap (levels 0) (sym e) ∙ h)

  pub no_item : Further ended outer (tokens_of_all (item ∷ [])) (blank ++ kept) after → levels 0 (tokens_of_all (item ∷ [])) ≡ Some 0 → ⊥
  no_item (first vs e l) h = no_more vs e l h
  no_item (second vs e l) h = some_tokens item (sym (append-nil (tokens_of item)) ∙ apart (tokens_of_all (item ∷ [])) vs (sym e) h)

module _ (ended : Bool) (mode : Mode) (lists : List (List Sexpr)) (place : ℕ) (kept ahead bytes : List ℕ) (given : List Sexpr) (at : At ended mode lists place kept ahead bytes given) where
  pub opened : levels 0 (open_tokens lists) ≡ Some (length lists)
  opened = sym (levels-append 0 0 (tokens_of_all given) (open_tokens lists) at.nested) ∙ at.level

  pub begins : (rest : List ℕ) × Begins ended bytes given rest
  begins = let r = cut_lexing ended bytes (tokens_of_all given) (open_tokens lists) (at.blank ++ kept) at.lexed in (r.0, record { lexed = r.1; nested = at.nested })

  -- where no token can come, no item can
  pub reads : Stuck ended (length lists) (at.blank ++ kept) → (rest : List ℕ) × Reads ended bytes given rest
  reads stuck =
      let r = cut_lexing ended bytes (tokens_of_all given) (open_tokens lists) (at.blank ++ kept) at.lexed in (
        r.0,
        record {
          begins = record { lexed = r.1; nested = at.nested };
          last = λ item after b. no_item ended r.0 after at.blank kept (open_tokens lists) item at.apart
              (λ t ts l h. stuck.none t ts after 0 l (sym (levels-append 0 (length lists) (open_tokens lists) (t ∷ ts) opened) ∙ h))
              (same_lexing ended r.0 (open_tokens lists) (tokens_of_all (item ∷ [])) (at.blank ++ kept) after r.2 b.lexed) b.nested;
        },
      )

  -- a fault behind the items
  pub fault_after : (fault : SyntaxFault) → IsBlank at.blank → FaultAt ended (length lists) place kept fault → FaultAfter ended bytes given fault
  fault_after fault gap h =
      let r = reads (fault_stuck ended (length lists) kept place fault at.blank gap h) in record {
        rest = r.0;
        reads = r.1;
        first = at_fault ended mode lists place kept ahead bytes given at fault gap h;
      }
