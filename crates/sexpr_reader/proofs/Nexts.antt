-- What `next` answers.
use Rattle.std.proofs.Common.{◌≡◌, ℕ, List, [], ◌∷◌, ◌++◌, ◌⊎◌, inl, inr, Bool, false, Option, Some, None, Ok, Err, Result, length, drop, refl, sym, ap, ◌∙◌, subst, append-nil, arith, length-drop}
use Rattle.std.proofs.lemmas.List.Concat.{flat_map-append}
use Rattle.std.proofs.lemmas.List.{nil_from_length}
use Rattle.sexpr_reader.specs.declared.mode.Mode.{Mode}
use Rattle.sexpr_reader.specs.declared.mode.Mode.TheVariants as m
use Rattle.sexpr_reader.specs.declared.reader.Reader.{Reader}
use Rattle.sexpr_reader.specs.declared.sexpr.Sexpr.{Sexpr}
use Rattle.sexpr_reader.specs.declared.syntax_fault.SyntaxFault.{SyntaxFault}
use Rattle.sexpr_reader.specs.declared.syntax_fault.SyntaxFault.TheVariants as f
use Rattle.sexpr_reader.specs.Tokens.{Token}
use Rattle.sexpr_reader.specs.Lexes.{IsBlank, IsBlankEnd, Lexes}
use Rattle.sexpr_reader.specs.Items.{tokens_of, tokens_of_all, open_tokens, HasFormedAtoms, AreTokens}
use Rattle.sexpr_reader.specs.Parts.{IsPart, IsGap}
use Rattle.sexpr_reader.specs.Reads.{Begins, Waits, EndsWith, IsUnfinished}
use Rattle.sexpr_reader.specs.Standing.{HasGiven, AnswersNext, GivesItem, kept}
use Rattle.sexpr_reader.specs.Progress.{AnswersStep}
use Rattle.sexpr_reader.proofs.Faults.{no_fault}
use Rattle.sexpr_reader.proofs.Formed.{tokens_back}
use Rattle.sexpr_reader.proofs.Fronts.{Stuck}
use Rattle.sexpr_reader.proofs.Lasts.{reads, begins}
use Rattle.sexpr_reader.proofs.Waits.{part_stuck}

-- what is lexed are tokens
all_tokens : (ended : Bool) (bytes : List ℕ) (ts : List Token) (rest : List ℕ) → Lexes ended bytes ts rest → AreTokens ts
all_tokens ended bytes [] rest h = tt
all_tokens ended bytes (t ∷ ts) rest h = (h.4, all_tokens ended h.1 ts rest h.6)

pub formed : (ended : Bool) (bytes : List ℕ) (given : List Sexpr) (item : Sexpr) (rest : List ℕ) → Begins ended bytes (given ++ item ∷ []) rest → HasFormedAtoms item
formed ended bytes given item rest b =
    let whole : tokens_of_all (given ++ item ∷ []) ≡ tokens_of_all given ++ tokens_of item = flat_map-append tokens_of given (item ∷ []) ∙ ap (λ (l : List Token). tokens_of_all given ++ l) (append-nil (tokens_of item)) in
    tokens_back (tokens_of_all given) (tokens_of item) (subst AreTokens whole (all_tokens ended bytes _ rest b.lexed))

pub gives : (ended : Bool) (new : Reader) (bytes : List ℕ) (given : List Sexpr) (item : Sexpr) → HasGiven ended new bytes (given ++ item ∷ []) → GivesItem ended new bytes given item
gives ended new bytes given item s =
    let b = begins ended new.mode new.nest.lists.items new.place _ _ bytes (given ++ item ∷ []) s.at in
    record { stands = s; rest = b.0; begins = b.1; formed = formed ended bytes given item b.0 b.1 }

-- the unfinished token, and what stands before it
left : (mode : Mode) (blank part : List ℕ) → IsGap mode blank → IsPart mode part → (IsBlank blank × IsUnfinished part) ⊎ (IsBlankEnd blank × (part ≡ []))
left m.Blank blank part gap is = inr (inl gap, is)
left m.Comment blank part gap is = inr (inr gap, is)
left m.Run blank part gap is = inl (gap, inl is)
left m.Bars blank part gap is = inl (gap, inr (inl is))
left m.Quotes blank part gap is = inl (gap, inr (inr (inl is)))
left m.Quote blank part gap is = inl (gap, inr (inr (inr is)))

module _ (new : Reader) (bytes : List ℕ) (given : List Sexpr) (s : HasGiven false new bytes given) (all : length new.pending.items ≡ new.at) where
  whole : drop new.start new.pending.items ≡ s.at.part
  whole =
      let ahead : drop new.at new.pending.items ≡ [] = nil_from_length _ (omega (arith, length-drop new.at new.pending.items)) in
      s.at.split ∙ ap (λ (l : List ℕ). s.at.part ++ l) ahead ∙ append-nil s.at.part

  lexed_part : Lexes false bytes (tokens_of_all given ++ open_tokens new.nest.lists.items) (s.at.blank ++ s.at.part)
  lexed_part = subst (λ (l : List ℕ). Lexes false bytes (tokens_of_all given ++ open_tokens new.nest.lists.items) (s.at.blank ++ l)) whole s.at.lexed

  waits : Waits bytes given
  waits =
      let stuck = part_stuck new.mode (length new.nest.lists.items) s.at.blank s.at.part s.at.gap s.at.begun in
      let r = reads false new.mode new.nest.lists.items new.place _ _ bytes given s.at (subst (λ (l : List ℕ). Stuck false (length new.nest.lists.items) (s.at.blank ++ l)) (sym whole) stuck) in record {
        rest = r.0;
        reads = r.1;
        sound = no_fault bytes (tokens_of_all given ++ open_tokens new.nest.lists.items) (length new.nest.lists.items) new.mode s.at.blank s.at.part lexed_part s.at.level s.at.gap s.at.begun;
      }

  ends_with : new.start ≡ 0 → EndsWith bytes (kept new)
  ends_with start =
      let is : new.pending.items ≡ s.at.part = ap (λ (n : ℕ). drop n new.pending.items) (sym start) ∙ whole in
      subst (EndsWith bytes) (sym is) (record { tokens = tokens_of_all given ++ open_tokens new.nest.lists.items; blank = s.at.blank; lexed = lexed_part; left = left new.mode s.at.blank s.at.part s.at.gap s.at.begun })

pub answers_of : (new : Reader) (bytes : List ℕ) (given : List Sexpr) (result : Result (Option Sexpr) SyntaxFault) → AnswersStep false new bytes given result → (result ≡ Ok None → length new.pending.items ≡ new.at) → (result ≡ Ok None → new.start ≡ 0) → AnswersNext new bytes given result
answers_of new bytes given (Ok None) s all start = let t = subst (HasGiven false new bytes) (append-nil given) s in (t, waits new bytes given t (all refl), ends_with new bytes given t (all refl) (start refl))
answers_of new bytes given (Ok (Some item)) s all start = gives false new bytes given item s
answers_of new bytes given (Err (f.Token p)) s all start = s
answers_of new bytes given (Err (f.Close p)) s all start = s
answers_of new bytes given (Err (f.Depth p)) s all start = s
answers_of new bytes given (Err (f.Literal p)) s all start = s
answers_of new bytes given (Err f.Incomplete) s all start = s
answers_of new bytes given (Err (f.Memory e)) s all start = s
