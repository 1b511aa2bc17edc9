-- What is printed reads back as itself.
use Rattle.std.proofs.Common.{◌≡◌, ℕ, List, [], ◌∷◌, ◌++◌, ◌⊎◌, inl, inr, Bool, true, Some, refl, sym, ap, ◌∙◌, subst, append_assoc, append-nil}
use Rattle.sexpr_reader.specs.declared.sexpr.Sexpr.{Sexpr}
use Rattle.sexpr_reader.specs.declared.sexpr.Sexpr.TheVariants as s
use Rattle.sexpr_reader.specs.Tokens.{Token}
use Rattle.sexpr_reader.specs.Lexes.{none, white, IsBlank, IsBlankEnd, Lexes}
use Rattle.sexpr_reader.specs.Items.{tokens_of, tokens_of_all, levels}
use Rattle.sexpr_reader.specs.Reads.{Begins, Ends}
use Rattle.sexpr_reader.proofs.Faults.{skip-end}
use Rattle.sexpr_reader.proofs.Levels.{levels-append}
use Rattle.sexpr_reader.proofs.Lasts.{some_tokens}
use Rattle.sexpr_reader.proofs.Readable.{same_items}
use Rattle.sexpr_reader.proofs.Tokens.{same_lexing, Further, first, second}
use Rattle.sexpr_reader.proofs.Waits.{no_text, token_front}
use Rattle.sexpr_print.specs.Printed.{printed, printed_lines, line_end, IsPrintable, ArePrintable}
use Rattle.sexpr_print.proofs.Lexed.{line, Lexes-line, some_item, item_lexes, list_lexes}
use Rattle.sexpr_print.proofs.Nested.{item_level}

pub list_read : (ended : Bool) (inner : List Sexpr) (more : List ℕ) → IsPrintable (s.List inner) → Begins ended (printed (s.List inner) ++ more) (s.List inner ∷ []) more
list_read ended inner more h = record {
  lexed = list_lexes inner ended more h.formed;
  nested = ap (levels 0) (append-nil (tokens_of (s.List inner))) ∙ item_level (s.List inner) h.nested;
}

lines_level : (items : List Sexpr) → ArePrintable items → levels 0 (tokens_of_all items) ≡ Some 0
lines_level [] h = refl
lines_level (item ∷ items) h = levels-append 0 0 (tokens_of item) (tokens_of_all items) (item_level item h.0.nested) ∙ lines_level items h.1

one_lexed : (ended : Bool) (item : Sexpr) (more : List ℕ) → IsPrintable item → Lexes ended ((printed item ++ 10 ∷ []) ++ more) (tokens_of item ++ []) (10 ∷ more)
one_lexed ended item more h = subst (λ (b : List ℕ). Lexes ended b (tokens_of item ++ []) (10 ∷ more)) (sym (append_assoc (printed item) (10 ∷ []) more)) (item_lexes item ended (10 ∷ more) [] (10 ∷ more) h.formed (line more) refl)

lines_lexed : (ended : Bool) (items : List Sexpr) (more : List ℕ) → ArePrintable items → Lexes ended (printed_lines items ++ more) (tokens_of_all items) (line_end items ++ more)
lines_lexed ended [] more h = refl
lines_lexed ended (item ∷ []) more h = one_lexed ended item more h.0
lines_lexed ended (item ∷ next ∷ items) more h =
    let later = lines_lexed ended (next ∷ items) more h.1 in
    let apart = Lexes-line ended (printed_lines (next ∷ items) ++ more) (tokens_of_all (next ∷ items)) (line_end (next ∷ items) ++ more) (λ e. some_item next (tokens_of_all items) [] (append-nil (tokens_of_all (next ∷ items)) ∙ e)) later in
    subst (λ (b : List ℕ). Lexes ended b (tokens_of_all (item ∷ next ∷ items)) (line_end (next ∷ items) ++ more)) (sym (append_assoc (printed item) (10 ∷ printed_lines (next ∷ items)) more))
    (item_lexes item ended (10 ∷ (printed_lines (next ∷ items) ++ more)) (tokens_of_all (next ∷ items)) (line_end (next ∷ items) ++ more) h.0.formed (line _) apart)

pub lines_read : (ended : Bool) (items : List Sexpr) (more : List ℕ) → ArePrintable items → Begins ended (printed_lines items ++ more) items (line_end items ++ more)
lines_read ended items more h = record { lexed = lines_lexed ended items more h; nested = lines_level items h }

end_blank : (items : List Sexpr) → IsBlank (line_end items)
end_blank [] = none
end_blank (item ∷ []) = white refl none
end_blank (item ∷ next ∷ items) = end_blank (next ∷ items)

-- no token stands in white space and comments
no_token : (rest : List ℕ) → IsBlankEnd rest → (ts : List Token) (after : List ℕ) → (ts ≡ [] → ⊥) → Lexes true rest ts after → ⊥
no_token rest blank [] after some l = some refl
no_token rest blank (t ∷ ts) after some l =
    let w = token_front true rest t ts after l in
    no_text true t l.1 w.0 (sym (skip-end rest blank) ∙ w.1)

pub lines_end : (items : List Sexpr) → ArePrintable items → Ends (printed_lines items) items
lines_end items h = record {
  rest = line_end items;
  reads = record {
    begins =
        subst (λ (b : List ℕ). Begins true b items (line_end items)) (append-nil (printed_lines items))
        (subst (λ (r : List ℕ). Begins true (printed_lines items ++ []) items r) (append-nil (line_end items)) (lines_read true items [] h));
    last = λ item after b. no_token (line_end items) (inl (end_blank items)) (tokens_of_all (item ∷ [])) after (λ e. some_tokens item (sym (append-nil (tokens_of item)) ∙ e)) b.lexed;
  };
  blank = inl (end_blank items);
}

further_items : (ended : Bool) (xs ys : List Sexpr) (rest after : List ℕ) → Further ended (tokens_of_all xs) (tokens_of_all ys) rest after → ((more : List Sexpr) × (ys ≡ xs ++ more)) ⊎ ((more : List Sexpr) × (xs ≡ ys ++ more))
further_items ended xs ys rest after (first vs e l) = let r = same_items xs ys vs e in inl (r.0, r.1)
further_items ended xs ys rest after (second vs e l) = let r = same_items ys xs vs e in inr (r.0, r.1)

pub one_goes_on : (ended : Bool) (bytes : List ℕ) (xs ys : List Sexpr) (rest after : List ℕ) → Begins ended bytes xs rest → Begins ended bytes ys after → ((more : List Sexpr) × (ys ≡ xs ++ more)) ⊎ ((more : List Sexpr) × (xs ≡ ys ++ more))
one_goes_on ended bytes xs ys rest after h g = further_items ended xs ys rest after (same_lexing ended bytes (tokens_of_all xs) (tokens_of_all ys) rest after h.lexed g.lexed)

-- nothing is read behind all
no_longer : (all items : List Sexpr) (left rest : List ℕ) → IsBlankEnd left → Further true (tokens_of_all all) (tokens_of_all items) left rest → (more : List Sexpr) × (all ≡ items ++ more)
no_longer all items left rest blank (second vs e l) = let r = same_items items all vs e in (r.0, r.1)
no_longer all items left rest blank (first [] e l) = let r = same_items items all [] (sym (append-nil (tokens_of_all all)) ∙ sym e ∙ sym (append-nil (tokens_of_all items))) in (r.0, r.1)
no_longer all items left rest blank (first (v ∷ vs) e l) = absurd (no_token left blank (v ∷ vs) rest (λ k. some_nil v vs k) l)
  where
    some_nil : (u : Token) (us : List Token) → u ∷ us ≡ [] → ⊥
    some_nil u us k = cc

pub all_read : (bytes : List ℕ) (all items : List Sexpr) (rest : List ℕ) → Ends bytes all → Begins true bytes items rest → (more : List Sexpr) × (all ≡ items ++ more)
all_read bytes all items rest h b = no_longer all items h.rest rest h.blank (same_lexing true bytes (tokens_of_all all) (tokens_of_all items) h.rest rest h.reads.begins.lexed b.lexed)
