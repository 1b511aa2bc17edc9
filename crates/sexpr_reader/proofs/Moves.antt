-- What each move keeps.
use Rattle.std.proofs.Common.{◌≡◌, ℕ, ◌==◌, not, List, [], ◌∷◌, ◌++◌, Bool, true, false, if◌then◌else◌, refl, sym, ap, ◌∙◌, subst, append_assoc}
use Rattle.std.proofs.lemmas.Bool.{not_from_false, and_from}
use Rattle.sv_list.specs.Bools.{and-first, and-second}
use Rattle.sexpr_reader.specs.declared.mode.Mode.{Mode}
use Rattle.sexpr_reader.specs.declared.mode.Mode.TheVariants as m
use Rattle.sexpr_reader.specs.declared.action.Action.TheVariants as v
use Rattle.sexpr_reader.specs.Bytes.{is_line_end, is_border}
use Rattle.sexpr_reader.specs.Tokens.{doubled, IsTokenRun, IsQuoted}
use Rattle.sexpr_reader.specs.Lexes.{IsBlank, none, white, comment}
use Rattle.sexpr_reader.specs.Lexes.{InComment}
use Rattle.sexpr_reader.specs.Parts.{IsPart, IsGap}
use Rattle.sexpr_reader.specs.Stepping.{Acts}
use Rattle.sexpr_reader.proofs.Blanks.{list_all-push, IsBlank-append, doubled-append}

comment_ends : (blank : List ℕ) (b : ℕ) → InComment blank → is_line_end b ≡ true → IsBlank (blank ++ b ∷ [])
comment_ends blank b h e =
    subst IsBlank (sym (ap (λ (l : List ℕ). l ++ b ∷ []) h.2 ∙ append_assoc h.0 (59 ∷ h.1) (b ∷ []))) (IsBlank-append h.0 (59 ∷ h.1 ++ b ∷ []) h.3 (comment h.1 b [] h.4 e none))

comment_more : (blank : List ℕ) (b : ℕ) → InComment blank → is_line_end b ≡ false → InComment (blank ++ b ∷ [])
comment_more blank b h e =
    (h.0, h.1 ++ b ∷ [], ap (λ (l : List ℕ). l ++ b ∷ []) h.2 ∙ append_assoc h.0 (59 ∷ h.1) (b ∷ []), h.3, list_all-push _ h.1 b h.4 (not_from_false _ e))

-- the gap with one byte more
pub skips : (mode next : Mode) (b : ℕ) (blank part : List ℕ) → Acts mode b (v.Skip next) → IsGap mode blank → IsPart mode part → IsGap next (blank ++ b ∷ []) × IsPart next [] × (part ≡ [])
skips m.Blank m.Blank b blank part h gap is = (IsBlank-append blank (b ∷ []) gap (white h none), refl, is)
skips m.Blank m.Comment b blank part h gap is = ((blank, [], ap (λ (c : ℕ). blank ++ c ∷ []) h, gap, refl), refl, is)
skips m.Comment m.Blank b blank part h gap is = (comment_ends blank b gap h, refl, is)
skips m.Comment m.Comment b blank part h gap is = (comment_more blank b gap h, refl, is)
skips mode next b blank part h gap is = absurd h

run_more : (part : List ℕ) (b : ℕ) → IsTokenRun part → is_border b ≡ false → IsTokenRun (part ++ b ∷ [])
run_more [] b h e = cc
run_more (x ∷ xs) b h e = and_from _ _ (and-first (not (is_border x)) _ h) (list_all-push _ xs b (and-second (not (is_border x)) _ h) (not_from_false _ e))

run_first : (part : List ℕ) (b : ℕ) → part ≡ [] → is_border b ≡ false → IsTokenRun (part ++ b ∷ [])
run_first part b empty e = subst (λ (l : List ℕ). IsTokenRun (l ++ b ∷ [])) (sym empty) (and_from _ true (not_from_false _ e) refl)

doubled_other : (content : List ℕ) (b : ℕ) → (b == 34) ≡ false → doubled (content ++ b ∷ []) ≡ doubled content ++ b ∷ []
doubled_other content b e = doubled-append content (b ∷ []) ∙ ap (λ (c : Bool). doubled content ++ (if c then 34 ∷ 34 ∷ [] else b ∷ [])) e

-- the unfinished token with one byte more
pub takes : (mode next : Mode) (b : ℕ) (blank part : List ℕ) → Acts mode b (v.Take next) → IsGap mode blank → IsPart mode part → IsGap next blank × IsPart next (part ++ b ∷ [])
takes m.Blank m.Run b blank part h gap is = (gap, run_first part b is h)
takes m.Blank m.Bars b blank part h gap is = (gap, ([], ap (λ (l : List ℕ). l ++ b ∷ []) is ∙ ap (λ (c : ℕ). c ∷ []) h, refl))
takes m.Blank m.Quotes b blank part h gap is = (gap, ([], ap (λ (l : List ℕ). l ++ b ∷ []) is ∙ ap (λ (c : ℕ). c ∷ []) h))
takes m.Run m.Run b blank part h gap is = (gap, run_more part b is h)
takes m.Bars m.Bars b blank part h gap is = (gap, (is.0 ++ b ∷ [], ap (λ (l : List ℕ). l ++ b ∷ []) is.1, list_all-push _ is.0 b is.2 (not_from_false _ h)))
takes m.Quotes m.Quote b blank part h gap is = (gap, (is.0, ap (λ (l : List ℕ). l ++ b ∷ []) is.1 ∙ ap (λ (c : ℕ). 34 ∷ doubled is.0 ++ c ∷ []) h))
takes m.Quotes m.Quotes b blank part h gap is = (gap, (is.0 ++ b ∷ [], ap (λ (l : List ℕ). l ++ b ∷ []) is.1 ∙ ap (λ (l : List ℕ). 34 ∷ l) (sym (doubled_other is.0 b h))))
takes m.Quote m.Quotes b blank part h gap is = (
  gap,
  (
    is.0 ++ 34 ∷ [],
    ap (λ (l : List ℕ). l ++ b ∷ []) is.1 ∙ ap (λ (c : ℕ). (34 ∷ doubled is.0 ++ 34 ∷ []) ++ c ∷ []) h
        ∙ ap (λ (l : List ℕ). 34 ∷ l) (append_assoc (doubled is.0) (34 ∷ []) (34 ∷ []) ∙ sym (doubled-append is.0 (34 ∷ []))),
  ),
)
takes mode next b blank part h gap is = absurd h

-- a quoted symbol is whole
pub quoted : (mode : Mode) (b : ℕ) (blank part : List ℕ) → Acts mode b v.EndQuoted → IsGap mode blank → IsPart mode part → IsBlank blank × IsQuoted (part ++ b ∷ [])
quoted m.Bars b blank part h gap is = (gap, (is.0, ap (λ (l : List ℕ). l ++ b ∷ []) is.1 ∙ ap (λ (c : ℕ). 124 ∷ is.0 ++ c ∷ []) h, is.2))
quoted mode b blank part h gap is = absurd h
