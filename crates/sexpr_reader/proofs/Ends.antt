-- What the end of the input brings.
use Rattle.std.proofs.Common.{◌≡◌, ℕ, List, [], ◌∷◌, ◌++◌, inl, inr, Bool, true, false, Err, length, drop, refl, sym, ap, ◌∙◌, subst, append-nil, arith, length-drop, length-append, ◌≤◌, ◌-◌}
use Rattle.std.proofs.lemmas.List.{nil_from_length}
use Rattle.sexpr_reader.specs.declared.mode.Mode.{Mode}
use Rattle.sexpr_reader.specs.declared.mode.Mode.TheVariants as m
use Rattle.sexpr_reader.specs.declared.reader.Reader.{Reader}
use Rattle.sexpr_reader.specs.declared.sexpr.Sexpr.{Sexpr}
use Rattle.sexpr_reader.specs.declared.syntax_fault.SyntaxFault.{SyntaxFault}
use Rattle.sexpr_reader.specs.declared.syntax_fault.SyntaxFault.TheVariants as f
use Rattle.sexpr_reader.specs.Tokens.{Token, text}
use Rattle.sexpr_reader.specs.Lexes.{IsBlank, none, IsBlankEnd, Lexes}
use Rattle.sexpr_reader.specs.Items.{tokens_of_all, open_tokens}
use Rattle.sexpr_reader.specs.Parts.{IsPart, IsGap}
use Rattle.sexpr_reader.specs.Reads.{Reads, Ends, IsOpenEnd, FaultAfter}
use Rattle.sexpr_reader.specs.Stepping.{is_idle}
use Rattle.sexpr_reader.specs.Standing.{At, HasGiven, AnswersEnd}
use Rattle.sexpr_reader.specs.Progress.{AnswersStep, IsOpenToken}
use Rattle.sexpr_reader.proofs.Fronts.{Stuck}
use Rattle.sexpr_reader.proofs.Lasts.{reads}
use Rattle.sexpr_reader.proofs.Places.{at_end}
use Rattle.sexpr_reader.proofs.Tokens.{same_gap_token}
use Rattle.sexpr_reader.proofs.Waits.{left_stuck}

at_close : (ended : Bool) (mode : Mode) (lists : List (List Sexpr)) (place : ℕ) (kept ahead bytes : List ℕ) (given : List Sexpr) → At ended mode lists place kept ahead bytes given → At true mode lists place kept ahead bytes given
at_close true mode lists place kept ahead bytes given at = at
at_close false mode lists place kept ahead bytes given at = at_end mode lists place kept ahead bytes given at

-- the rest is no longer than the bytes
lexed_short : (ended : Bool) (bytes : List ℕ) (ts : List Token) (rest : List ℕ) → Lexes ended bytes ts rest → length rest ≤ length bytes
lexed_short ended bytes [] rest h = omega (arith, ap length h)
lexed_short ended bytes (t ∷ ts) rest h = omega (arith, lexed_short ended h.1 ts rest h.6, ap length h.3, length-append h.0 (text t ++ h.1), length-append (text t) h.1)

-- the same tokens leave the same rest
pub one_rest : (ended : Bool) (ts : List Token) (bytes rest after : List ℕ) → Lexes ended bytes ts rest → Lexes ended bytes ts after → rest ≡ after
one_rest ended [] bytes rest after h g = sym h ∙ g
one_rest ended (t ∷ ts) bytes rest after h g =
    let r = same_gap_token ended h.0 g.0 t t h.1 g.1 h.2 g.2 h.4 h.5 g.4 g.5 (sym h.3 ∙ g.3) in
    one_rest ended ts h.1 rest after h.6 (subst (λ (l : List ℕ). Lexes ended l ts after) (sym r.1) g.6)

-- what stands still stands where the input has ended
pub stands_ended : (ended : Bool) (r : Reader) (bytes : List ℕ) (given : List Sexpr) → HasGiven ended r bytes given → HasGiven true r bytes given
stands_ended ended r bytes given s = record { at = at_close ended r.mode r.nest.lists.items r.place _ _ bytes given s.at }

-- a fault, or want of memory, that left the reader as it was
pub closes_err : (ended : Bool) (new : Reader) (bytes : List ℕ) (given : List Sexpr) (fault : SyntaxFault) → HasGiven ended new bytes given → AnswersStep true new bytes given (Err fault) → AnswersEnd ended new bytes given (Err fault)
closes_err ended new bytes given (f.Token p) w s = s
closes_err ended new bytes given (f.Close p) w s = s
closes_err ended new bytes given (f.Depth p) w s = s
closes_err ended new bytes given (f.Literal p) w s = s
closes_err ended new bytes given f.Incomplete w s = s
closes_err ended new bytes given (f.Memory e) w s = w

stands_err : (ended : Bool) (new : Reader) (bytes : List ℕ) (given : List Sexpr) (fault : SyntaxFault) → AnswersStep ended new bytes given (Err fault) → HasGiven ended new bytes given
stands_err ended new bytes given (f.Token p) s = s.0
stands_err ended new bytes given (f.Close p) s = s.0
stands_err ended new bytes given (f.Depth p) s = s.0
stands_err ended new bytes given (f.Literal p) s = s.0
stands_err ended new bytes given f.Incomplete s = s.0
stands_err ended new bytes given (f.Memory e) s = s

pub closes_step : (ended : Bool) (new : Reader) (bytes : List ℕ) (given : List Sexpr) (fault : SyntaxFault) → AnswersStep ended new bytes given (Err fault) → AnswersStep true new bytes given (Err fault) → AnswersEnd ended new bytes given (Err fault)
closes_step ended new bytes given fault w s = closes_err ended new bytes given fault (stands_err ended new bytes given fault w) s

idle_end : (mode : Mode) (blank part : List ℕ) → is_idle mode ≡ true → IsGap mode blank → IsPart mode part → IsBlankEnd (blank ++ part)
idle_end m.Blank blank part i gap is = subst IsBlankEnd (sym (ap (λ (l : List ℕ). blank ++ l) is ∙ append-nil blank)) (inl gap)
idle_end m.Comment blank part i gap is = subst IsBlankEnd (sym (ap (λ (l : List ℕ). blank ++ l) is ∙ append-nil blank)) (inr gap)
idle_end m.Run blank part i gap is = cc
idle_end m.Bars blank part i gap is = cc
idle_end m.Quotes blank part i gap is = cc
idle_end m.Quote blank part i gap is = cc

-- an unfinished token that the end doesn't end
open_end : (mode : Mode) (n : ℕ) (part : List ℕ) → IsOpenToken mode → is_idle mode ≡ false → IsPart mode part → IsOpenEnd n part
open_end m.Blank n part left i is = cc
open_end m.Comment n part left i is = cc
open_end m.Bars n part left i is = inr (inl is)
open_end m.Quotes n part left i is = inl is
open_end m.Run n part left i is = absurd left
open_end m.Quote n part left i is = absurd left

open_gap : (mode : Mode) (blank : List ℕ) → is_idle mode ≡ false → IsGap mode blank → IsBlank blank
open_gap m.Blank blank i gap = gap
open_gap m.Comment blank i gap = cc
open_gap m.Run blank i gap = gap
open_gap m.Bars blank i gap = gap
open_gap m.Quotes blank i gap = gap
open_gap m.Quote blank i gap = gap

module _ (r : Reader) (bytes : List ℕ) (given : List Sexpr) (all : length r.pending.items ≡ r.at) (left : IsOpenToken r.mode) (s : HasGiven true r bytes given) where
  whole : drop r.start r.pending.items ≡ s.at.part
  whole =
      let ahead : drop r.at r.pending.items ≡ [] = nil_from_length _ (omega (arith, length-drop r.at r.pending.items)) in
      s.at.split ∙ ap (λ (l : List ℕ). s.at.part ++ l) ahead ∙ append-nil s.at.part

  stuck : Stuck true (length r.nest.lists.items) (s.at.blank ++ drop r.start r.pending.items)
  stuck = subst (λ (l : List ℕ). Stuck true (length r.nest.lists.items) (s.at.blank ++ l)) (sym whole) (left_stuck r.mode (length r.nest.lists.items) s.at.blank s.at.part left s.at.gap s.at.begun)

  all_read : (rest : List ℕ) × Reads true bytes given rest
  all_read = reads true r.mode r.nest.lists.items r.place _ _ bytes given s.at stuck

  pub open_literal : is_idle r.mode ≡ false → FaultAfter true bytes given f.Incomplete
  open_literal i = record {
    rest = all_read.0;
    reads = all_read.1;
    first = record {
      level = length r.nest.lists.items;
      here = r.place;
      rest = drop r.start r.pending.items;
      front = record { tokens = tokens_of_all given ++ open_tokens r.nest.lists.items; blank = s.at.blank; lexed = s.at.lexed; level = s.at.level; gap = open_gap r.mode s.at.blank i s.at.gap };
      behind = s.at.here;
      found = (refl, subst (IsOpenEnd (length r.nest.lists.items)) (sym whole) (open_end r.mode (length r.nest.lists.items) s.at.part left i s.at.begun));
    };
  }

  pub open_list : is_idle r.mode ≡ true → (length r.nest.lists.items ≡ 0 → ⊥) → FaultAfter true bytes given f.Incomplete
  open_list i full =
      let end : IsBlankEnd (s.at.blank ++ drop r.start r.pending.items) = subst (λ (l : List ℕ). IsBlankEnd (s.at.blank ++ l)) (sym whole) (idle_end r.mode s.at.blank s.at.part i s.at.gap s.at.begun) in
      let total : length (s.at.blank ++ drop r.start r.pending.items) ≤ length bytes = lexed_short true bytes _ _ s.at.lexed in record {
        rest = all_read.0;
        reads = all_read.1;
        first = record {
          level = length r.nest.lists.items;
          here = length bytes - length (s.at.blank ++ drop r.start r.pending.items);
          rest = s.at.blank ++ drop r.start r.pending.items;
          front = record { tokens = tokens_of_all given ++ open_tokens r.nest.lists.items; blank = []; lexed = s.at.lexed; level = s.at.level; gap = none };
          behind = omega (arith, total);
          found = (refl, inr (inr (full, end)));
        };
      }

  -- no list is open
  pub ends : is_idle r.mode ≡ true → r.nest.lists.items ≡ [] → Ends bytes given
  ends i empty =
      let read = reads true r.mode r.nest.lists.items r.place _ _ bytes given s.at stuck in
      let end : IsBlankEnd (s.at.blank ++ drop r.start r.pending.items) = subst (λ (l : List ℕ). IsBlankEnd (s.at.blank ++ l)) (sym whole) (idle_end r.mode s.at.blank s.at.part i s.at.gap s.at.begun) in
      let all_given : Lexes true bytes (tokens_of_all given) (s.at.blank ++ drop r.start r.pending.items) = subst (λ (l : List Token). Lexes true bytes l (s.at.blank ++ drop r.start r.pending.items)) (ap (λ (x : List (List Sexpr)). tokens_of_all given ++ open_tokens x) empty ∙ append-nil (tokens_of_all given)) s.at.lexed in
      let same = one_rest true (tokens_of_all given) bytes read.0 (s.at.blank ++ drop r.start r.pending.items) read.1.begins.lexed all_given in
      record { rest = read.0; reads = read.1; blank = subst IsBlankEnd (sym same) end }
