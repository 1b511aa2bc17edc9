-- What stands where a token ends.
use Rattle.std.proofs.Common.{◌≡◌, ℕ, ◌+◌, ◌-◌, ◌<◌, ◌≤◌, ◌==◌, List, [], ◌∷◌, ◌++◌, Bool, true, false, IsTrue, length, take, drop, get_or, refl, sym, ap, ◌∙◌, subst, arith, length-append, length-drop, add-one, drop-cons}
use Rattle.std.proofs.Math.Seq.{take-append_seam, take-append-add}
use Rattle.std.proofs.lemmas.List.{take-append-drop, drop-drop}
use Rattle.sexpr_reader.specs.declared.mode.Mode.{Mode}
use Rattle.sexpr_reader.specs.declared.mode.Mode.TheVariants as m
use Rattle.sexpr_reader.specs.declared.action.Action.TheVariants as v
use Rattle.sexpr_reader.specs.declared.kind.TokenKind.{TokenKind}
use Rattle.sexpr_reader.specs.declared.kind.TokenKind.TheVariants.{Numeral, Decimal, Hexadecimal, Binary, Symbol, Quoted, Keyword, Literal}
use Rattle.sexpr_reader.specs.Bytes.{is_border}
use Rattle.sexpr_reader.specs.Tokens.{doubled, is_barred, IsTokenRun, IsPlain, IsOfKind, Atomic}
use Rattle.sexpr_reader.specs.Lexes.{IsBlank, EndsOrPasses, IsEnded}
use Rattle.sexpr_reader.specs.Parts.{IsPart, IsGap}
use Rattle.sexpr_reader.specs.Stepping.{Acts}

pub record IsParenthesis (b c : ℕ) (blank part : List ℕ) : Type 0 where
  pub gap : IsBlank blank
  pub empty : part ≡ []
  pub byte : b ≡ c

pub open_shape : (mode : Mode) (b : ℕ) (blank part : List ℕ) → Acts mode b v.Open → IsGap mode blank → IsPart mode part → IsParenthesis b 40 blank part
open_shape m.Blank b blank part h gap is = record { gap = gap; empty = is; byte = h }
open_shape mode b blank part h gap is = absurd h

pub close_shape : (mode : Mode) (b : ℕ) (blank part : List ℕ) → Acts mode b v.Close → IsGap mode blank → IsPart mode part → IsParenthesis b 41 blank part
close_shape m.Blank b blank part h gap is = record { gap = gap; empty = is; byte = h }
close_shape mode b blank part h gap is = absurd h

pub record IsBackslash (b : ℕ) (blank part : List ℕ) : Type 0 where
  pub gap : IsBlank blank
  pub body : List ℕ
  pub is : part ≡ 124 ∷ body
  pub barred : IsTrue (is_barred body)
  pub byte : b ≡ 92

pub bad_shape : (mode : Mode) (b : ℕ) (blank part : List ℕ) → Acts mode b v.Refuse → IsGap mode blank → IsPart mode part → IsBackslash b blank part
bad_shape m.Bars b blank part h gap is = record { gap = gap; body = is.0; is = is.1; barred = is.2; byte = h }
bad_shape mode b blank part h gap is = absurd h

pub run_ends : (mode : Mode) (b : ℕ) → Acts mode b v.EndRun → (mode ≡ m.Run) × (is_border b ≡ true)
run_ends m.Run b h = (refl, h)
run_ends mode b h = absurd h

pub literal_ends : (mode : Mode) (b : ℕ) → Acts mode b v.EndLiteral → (mode ≡ m.Quote) × ((b == 34) ≡ false)
literal_ends m.Quote b h = (refl, h)
literal_ends mode b h = absurd h

pub run_part : (mode : Mode) (blank part : List ℕ) → mode ≡ m.Run → IsGap mode blank → IsPart mode part → IsBlank blank × IsTokenRun part
run_part mode blank part e gap is = (subst (λ (x : Mode). IsGap x blank) e gap, subst (λ (x : Mode). IsPart x part) e is)

pub literal_part : (mode : Mode) (blank part : List ℕ) → mode ≡ m.Quote → IsGap mode blank → IsPart mode part → IsBlank blank × ((content : List ℕ) × (part ≡ 34 ∷ doubled content ++ 34 ∷ []))
literal_part mode blank part e gap is = (subst (λ (x : Mode). IsGap x blank) e gap, subst (λ (x : Mode). IsPart x part) e is)

-- the unfinished token as the code takes it
module _ (p part : List ℕ) (start i : ℕ) (e : drop start p ≡ part ++ drop i p) (low : start ≤ i) (high : i ≤ length p) where
  pub part_length : length part ≡ i - start
  part_length = omega (arith, ap length e, length-append part (drop i p), length-drop start p, length-drop i p)

  pub part_slice : take (i - start) (drop start p) ≡ part
  part_slice = ap (λ (n : ℕ). take n (drop start p)) (sym part_length) ∙ ap (take (length part)) e ∙ take-append_seam part (drop i p)

  pub part_more : i < length p → take ((i + 1) - start) (drop start p) ≡ part ++ get_or p i 0 ∷ []
  part_more h =
      let long : (i + 1) - start ≡ length part + 1 = omega (arith, part_length) in
      let ahead : drop i p ≡ get_or p i 0 ∷ drop (i + 1) p = rw (add-one, drop-cons p i 0) in
      ap (λ (n : ℕ). take n (drop start p)) long ∙ ap (take (length part + 1)) (e ∙ ap (λ (l : List ℕ). part ++ l) ahead) ∙ take-append-add part (get_or p i 0 ∷ drop (i + 1) p) 1

pub split_at : (p : List ℕ) (start i : ℕ) → start ≤ i → drop start p ≡ take (i - start) (drop start p) ++ drop i p
split_at p start i low =
    let sum : start + (i - start) ≡ i = omega arith in
    sym (take-append-drop (i - start) (drop start p)) ∙ ap (λ (l : List ℕ). take (i - start) (drop start p) ++ l) (drop-drop (i - start) start p ∙ ap (λ (n : ℕ). drop n p) sum)

-- what is kept, where the unfinished token and the next byte are known
pub kept_is : (p part : List ℕ) (start i b : ℕ) (front : List ℕ) → drop start p ≡ part ++ drop i p → i < length p → part ≡ front → get_or p i 0 ≡ b → drop start p ≡ front ++ b ∷ drop (i + 1) p
kept_is p part start i b front e h is byte =
    let ahead : drop i p ≡ get_or p i 0 ∷ drop (i + 1) p = rw (add-one, drop-cons p i 0) in
    e ∙ ap (λ (l : List ℕ). l ++ drop i p) is ∙ ap (λ (l : List ℕ). front ++ l) (ahead ∙ ap (λ (x : ℕ). x ∷ drop (i + 1) p) byte)

pub ends_by : (ended : Bool) (q : ℕ → Bool) (p : List ℕ) (i b : ℕ) → i < length p → b ≡ get_or p i b → IsTrue (q b) → EndsOrPasses q ended (drop i p)
ends_by ended q p i b h e t =
    let ahead : drop i p ≡ get_or p i b ∷ drop (i + 1) p = rw (add-one, drop-cons p i b) in
    subst (EndsOrPasses q ended) (sym (ahead ∙ ap (λ (x : ℕ). x ∷ drop (i + 1) p) (sym e))) t

pub plain_token : (kind : TokenKind) (bs : List ℕ) → IsTokenRun bs → IsPlain kind bs → IsOfKind kind bs
plain_token Numeral bs run h = (run, h)
plain_token Decimal bs run h = (run, h)
plain_token Hexadecimal bs run h = (run, h)
plain_token Binary bs run h = (run, h)
plain_token Symbol bs run h = (run, h)
plain_token Keyword bs run h = (run, h)
plain_token Quoted bs run h = absurd h
plain_token Literal bs run h = absurd h

pub plain_ends : (kind : TokenKind) (bs : List ℕ) (ended : Bool) (after : List ℕ) → IsPlain kind bs → EndsOrPasses is_border ended after → IsEnded (Atomic kind bs) ended after
plain_ends Numeral bs ended after h e = e
plain_ends Decimal bs ended after h e = e
plain_ends Hexadecimal bs ended after h e = e
plain_ends Binary bs ended after h e = e
plain_ends Symbol bs ended after h e = e
plain_ends Keyword bs ended after h e = e
plain_ends Quoted bs ended after h e = absurd h
plain_ends Literal bs ended after h e = absurd h
