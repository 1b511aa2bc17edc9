-- What each step keeps of the reader's place.
use Rattle.std.proofs.Common.{◌≡◌, ℕ, suc, ◌+◌, List, [], ◌∷◌, ◌++◌, Bool, true, false, Option, None, Some, length, refl, sym, ap, ◌∙◌, subst, append_assoc, append-nil, arith, length-append}
use Rattle.std.specs.Option.{option_to_list}
use Rattle.std.proofs.lemmas.List.Concat.{flat_map-append}
use Rattle.sexpr_reader.specs.declared.mode.Mode.{Mode}
use Rattle.sexpr_reader.specs.declared.mode.Mode.TheVariants as m
use Rattle.sexpr_reader.specs.declared.action.Action.TheVariants as v
use Rattle.sexpr_reader.specs.declared.sexpr.Sexpr.{Sexpr}
use Rattle.sexpr_reader.specs.Tokens.{Token, text, IsToken}
use Rattle.sexpr_reader.specs.Lexes.{IsBlank, none, IsEnded, Lexes}
use Rattle.sexpr_reader.specs.Items.{tokens_of, tokens_of_all, open_tokens, levels, Feeds}
use Rattle.sexpr_reader.specs.Stepping.{Acts}
use Rattle.sexpr_reader.specs.Standing.{At}
use Rattle.sexpr_reader.specs.declared.syntax_fault.SyntaxFault.{SyntaxFault}
use Rattle.sexpr_reader.specs.Reads.{FaultAt, SyntaxAt}
use Rattle.sexpr_reader.proofs.Lexing.{Lexes-push, Lexes-more}
use Rattle.sexpr_reader.proofs.Moves.{skips, takes}
use Rattle.sexpr_reader.proofs.Levels.{levels-append}

nil_front : (us vs : List Token) → us ++ vs ≡ [] → us ≡ []
nil_front [] vs e = refl
nil_front (u ∷ us) vs e = cc

data Cut (us old : List Token) (t : Token) : Type 0 where
  before : (ws : List Token) → us ++ ws ≡ old → Cut us old t
  whole : us ≡ old ++ t ∷ [] → Cut us old t

cut_cons : (u o t : Token) (us old : List Token) → u ≡ o → Cut us old t → Cut (u ∷ us) (o ∷ old) t
cut_cons u o t us old e (before ws k) = before ws (cc)
cut_cons u o t us old e (whole k) = whole (cc)

cut : (us vs old : List Token) (t : Token) → us ++ vs ≡ old ++ t ∷ [] → Cut us old t
cut [] vs old t e = before old refl
cut (u ∷ us) vs [] t e =
    let empty : us ++ vs ≡ [] = cc in
    let none : us ≡ [] = nil_front us vs empty in
    whole (cc)
cut (u ∷ us) vs (o ∷ old) t e =
    let head : u ≡ o = cc in
    let later : us ++ vs ≡ old ++ t ∷ [] = cc in
    cut_cons u o t us old head (cut us vs old t later)

apart_cut : (us old new : List Token) (t : Token) (n : ℕ) → ((xs ys : List Token) → xs ++ ys ≡ old → levels 0 xs ≡ Some 0 → xs ≡ []) → new ≡ old ++ t ∷ [] → levels 0 new ≡ Some (suc n) → Cut us old t → levels 0 us ≡ Some 0 → us ≡ []
apart_cut us old new t n apart e deep (before ws k) h = apart us ws k h
apart_cut us old new t n apart e deep (whole k) h = let same : levels 0 us ≡ levels 0 new = ap (levels 0) (k ∙ sym e) in let g : Some 0 ≡ Some (suc n) = sym h ∙ same ∙ deep in cc

apart_then : (lists lists_then : List (List Sexpr)) (t : Token) (item : Option Sexpr) (front : List Token) → ((us vs : List Token) → us ++ vs ≡ open_tokens lists → levels 0 us ≡ Some 0 → us ≡ []) → Feeds lists (t ∷ []) item lists_then
    → levels 0 front ≡ Some 0 → levels 0 (front ++ open_tokens lists_then) ≡ Some (length lists_then) → (us vs : List Token) → us ++ vs ≡ open_tokens lists_then → levels 0 us ≡ Some 0 → us ≡ []
apart_then lists [] t item front apart feeds nested level us vs e h = nil_front us vs e
apart_then lists (x ∷ xs) t None front apart feeds nested level us vs e h =
    let new : open_tokens (x ∷ xs) ≡ open_tokens lists ++ t ∷ [] = sym feeds.tokens in
    let deep : levels 0 (open_tokens (x ∷ xs)) ≡ Some (suc (length xs)) = sym (levels-append 0 0 front (open_tokens (x ∷ xs)) nested) ∙ level in
    apart_cut us (open_tokens lists) (open_tokens (x ∷ xs)) t (length xs) apart new deep (cut us vs (open_tokens lists) t (e ∙ new)) h
apart_then lists (x ∷ xs) t (Some item) front apart feeds nested level us vs e h = let empty : x ∷ xs ≡ [] = feeds.whole in cc

pub at_start : (ended : Bool) (kept ahead : List ℕ) → kept ≡ [] → ahead ≡ [] → At ended m.Blank [] 0 kept ahead [] []
at_start ended kept ahead e f = record {
  blank = [];
  part = [];
  lexed = sym e;
  gap = none;
  begun = refl;
  split = e ∙ sym f;
  here = omega (arith, ap length e);
  nested = refl;
  level = refl;
  apart = λ us vs e h. nil_front us vs e;
}

module _ (mode : Mode) (lists : List (List Sexpr)) (place : ℕ) (kept ahead bytes : List ℕ) (given : List Sexpr) (at : At false mode lists place kept ahead bytes given) where
  -- more bytes come
  pub at_feed : (ended : Bool) (piece kept_then ahead_then : List ℕ) → kept_then ≡ kept ++ piece → ahead_then ≡ ahead ++ piece → At ended mode lists place kept_then ahead_then (bytes ++ piece) given
  at_feed ended piece kept_then ahead_then e f = record {
    blank = at.blank;
    part = at.part;
    lexed = subst (Lexes ended (bytes ++ piece) (tokens_of_all given ++ open_tokens lists)) (append_assoc at.blank kept piece ∙ ap (λ (l : List ℕ). at.blank ++ l) (sym e)) (Lexes-more ended bytes _ (at.blank ++ kept) piece at.lexed);
    gap = at.gap;
    begun = at.begun;
    split = e ∙ ap (λ (l : List ℕ). l ++ piece) at.split ∙ append_assoc at.part ahead piece ∙ ap (λ (l : List ℕ). at.part ++ l) (sym f);
    here = omega (arith, at.here, ap length e, length-append kept piece, length-append bytes piece);
    nested = at.nested;
    level = at.level;
    apart = at.apart;
  }

module _ (ended : Bool) (mode : Mode) (lists : List (List Sexpr)) (place : ℕ) (kept ahead bytes : List ℕ) (given : List Sexpr) (at : At ended mode lists place kept ahead bytes given) where
  -- a byte of the unfinished token
  pub at_take : (next : Mode) (b : ℕ) (after : List ℕ) → Acts mode b (v.Take next) → ahead ≡ b ∷ after → At ended next lists place kept after bytes given
  at_take next b after h e =
      let t = takes mode next b at.blank at.part h at.gap at.begun in record {
        blank = at.blank;
        part = at.part ++ b ∷ [];
        lexed = at.lexed;
        gap = t.0;
        begun = t.1;
        split = at.split ∙ ap (λ (l : List ℕ). at.part ++ l) e ∙ sym (append_assoc at.part (b ∷ []) after);
        here = at.here;
        nested = at.nested;
        level = at.level;
        apart = at.apart;
      }

  -- a byte of the gap
  pub at_skip : (next : Mode) (b : ℕ) (after : List ℕ) → Acts mode b (v.Skip next) → ahead ≡ b ∷ after → At ended next lists (place + 1) after after bytes given × (kept ≡ b ∷ after)
  at_skip next b after h e =
      let t = skips mode next b at.blank at.part h at.gap at.begun in
      let whole : kept ≡ b ∷ after = at.split ∙ ap (λ (l : List ℕ). l ++ ahead) t.2 ∙ e in (
        record {
          blank = at.blank ++ b ∷ [];
          part = [];
          lexed = subst (Lexes ended bytes (tokens_of_all given ++ open_tokens lists)) (ap (λ (l : List ℕ). at.blank ++ l) whole ∙ sym (append_assoc at.blank (b ∷ []) after)) at.lexed;
          gap = t.0;
          begun = t.1;
          split = refl;
          here = omega (arith, at.here, ap length whole);
          nested = at.nested;
          level = at.level;
          apart = at.apart;
        },
        whole,
      )

  -- a whole token
  pub at_token : (lists_then : List (List Sexpr)) (t : Token) (after : List ℕ) (place_then : ℕ) (item : Option Sexpr) → IsBlank at.blank → kept ≡ text t ++ after → IsToken t → IsEnded t ended after → Feeds lists (t ∷ []) item lists_then
      → levels 0 ((tokens_of_all given ++ open_tokens lists) ++ t ∷ []) ≡ Some (length lists_then) → place_then ≡ place + length (text t) → At ended m.Blank lists_then place_then after after bytes (given ++ option_to_list item)
  at_token lists_then t after place_then item gap e is ends feeds level here =
      let more : (tokens_of_all given ++ open_tokens lists) ++ t ∷ [] ≡ tokens_of_all (given ++ option_to_list item) ++ open_tokens lists_then =
      append_assoc (tokens_of_all given) (open_tokens lists) (t ∷ []) ∙ ap (λ (l : List Token). tokens_of_all given ++ l) feeds.tokens ∙ sym (append_assoc (tokens_of_all given) (tokens_of_all (option_to_list item)) (open_tokens lists_then))
      ∙ ap (λ (l : List Token). l ++ open_tokens lists_then) (sym (flat_map-append tokens_of given (option_to_list item))) in
      let level_then : levels 0 (tokens_of_all (given ++ option_to_list item) ++ open_tokens lists_then) ≡ Some (length lists_then) = subst (λ (l : List Token). levels 0 l ≡ Some (length lists_then)) more level in record {
        blank = [];
        part = [];
        lexed = subst (λ (l : List Token). Lexes ended bytes l after) more (Lexes-push ended bytes _ at.blank t after (subst (λ (l : List ℕ). Lexes ended bytes (tokens_of_all given ++ open_tokens lists) (at.blank ++ l)) e at.lexed) gap is ends);
        gap = none;
        begun = refl;
        split = refl;
        here = omega (arith, at.here, here, ap length e, length-append (text t) after);
        nested = nested_then lists_then item feeds level_then;
        level = level_then;
        apart = apart_then lists lists_then t item (tokens_of_all (given ++ option_to_list item)) at.apart feeds (nested_then lists_then item feeds level_then) level_then;
      }
    where
      nested_then : (lists_then : List (List Sexpr)) (item : Option Sexpr) → Feeds lists (t ∷ []) item lists_then → levels 0 (tokens_of_all (given ++ option_to_list item) ++ open_tokens lists_then) ≡ Some (length lists_then)
          → levels 0 (tokens_of_all (given ++ option_to_list item)) ≡ Some 0
      nested_then lists_then None feeds level = ap (λ (l : List Sexpr). levels 0 (tokens_of_all l)) (append-nil given) ∙ at.nested
      nested_then lists_then (Some item) feeds level =
          let empty : lists_then ≡ [] = feeds.whole in
          ap (levels 0) (sym (append-nil (tokens_of_all (given ++ item ∷ [])))) ∙ ap (λ (l : List (List Sexpr)). levels 0 (tokens_of_all (given ++ item ∷ []) ++ open_tokens l)) (sym empty) ∙ level ∙ ap (λ (l : List (List Sexpr)). Some (length l)) empty

  -- a fault
  pub at_fault : (fault : SyntaxFault) → IsBlank at.blank → FaultAt ended (length lists) place kept fault → SyntaxAt ended bytes fault
  at_fault fault gap h = record {
    level = length lists;
    here = place;
    rest = kept;
    front = record { tokens = tokens_of_all given ++ open_tokens lists; blank = at.blank; lexed = at.lexed; level = at.level; gap = gap };
    behind = at.here;
    found = h;
  }

pub at_lists : (ended : Bool) (mode : Mode) (lists lists_then : List (List Sexpr)) (place : ℕ) (kept ahead bytes : List ℕ) (given : List Sexpr) → At ended mode lists place kept ahead bytes given → lists_then ≡ lists → At ended mode lists_then place kept ahead bytes given
at_lists ended mode lists lists_then place kept ahead bytes given at e = subst (λ (l : List (List Sexpr)). At ended mode l place kept ahead bytes given) (sym e) at

-- the input ends
pub at_end : (mode : Mode) (lists : List (List Sexpr)) (place : ℕ) (kept ahead bytes : List ℕ) (given : List Sexpr) → At false mode lists place kept ahead bytes given → At true mode lists place kept ahead bytes given
at_end mode lists place kept ahead bytes given at =
    subst (λ (l : List ℕ). At true mode lists place kept ahead l given) (append-nil bytes) (at_feed mode lists place kept ahead bytes given at true [] kept ahead (sym (append-nil kept)) (sym (append-nil ahead)))
