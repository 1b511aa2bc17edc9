-- A literal read from the left.
use Rattle.std.proofs.Common.{◌≡◌, ℕ, zero, suc, ◌+◌, ◌-◌, ◌<◌, ◌≤◌, List, [], ◌∷◌, ◌++◌, length, drop, get_or, Result, Ok, Err, refl, ap, sym, ◌∙◌, append_assoc, add-one, arith}
use Rattle.std.proofs.lemmas.List.{length-drop, drop-drop}
use Rattle.std.proofs.Math.Seq.{drop-cons}
use Rattle.sv_word.specs.declared.literal_fault.LiteralFault.{LiteralFault}
use Rattle.sv_word.specs.Literals.{lit, lit_from, front_of, followed_by, prepended}

-- a word before the rest, if that is a word
abbrev pub after : List ℕ → Result (List ℕ) LiteralFault → Result (List ℕ) LiteralFault
after w (Ok v) = Ok (w ++ v)
after w (Err f) = Err f

after-prepended : (w : List ℕ) (c : ℕ) (r : Result (List ℕ) LiteralFault) → after w (prepended c r) ≡ after (w ++ c ∷ []) r
after-prepended w c (Ok v) = ap Ok (sym (append_assoc w (c ∷ []) v))
after-prepended w c (Err f) = refl

-- the bytes that belong to a character are passed
pub lit-skip : (place skip : ℕ) (bs : List ℕ) → skip ≤ length bs → lit_from place skip bs ≡ lit_from (place + skip) 0 (drop skip bs)
lit-skip place zero bs le = ap (λ p. lit_from p 0 bs) (omega arith)
lit-skip place (suc skip) [] le = absurd (omega arith)
lit-skip place (suc skip) (b ∷ bs) le =
    let p : (place + 1) + skip ≡ place + suc skip = omega arith in
    lit-skip (place + 1) skip bs (omega arith) ∙ ap (λ x. lit_from x 0 (drop skip bs)) p

-- the first `place` bytes are read as `w`
pub record IsReading (raw : List ℕ) (place : ℕ) (w : List ℕ) : Type 0 where
  pub room : place ≤ length raw
  pub read : lit raw ≡ after w (lit_from place 0 (drop place raw))

module _ (raw : List ℕ) (place : ℕ) (w : List ℕ) (m : IsReading raw place w) where
  module _ (lt : place < length raw) where
    opened : lit raw ≡ after w (followed_by (front_of place (get_or raw place 0) (drop (suc place) raw)) (λ skip. lit_from (place + 1) skip (drop (suc place) raw)))
    opened = m.read ∙ ap (λ l. after w (lit_from place 0 l)) (drop-cons raw place 0 lt)

    pub reading-more : (c n : ℕ) → front_of place (get_or raw place 0) (drop (place + 1) raw) ≡ Ok (c, n) → 1 ≤ n → n ≤ length (drop (place + 1) raw) + 1
        → IsReading raw (place + n) (w ++ c ∷ [])
    reading-more c n e some fits =
        let rest = drop (suc place) raw in
        let len = length-drop (place + 1) raw in
        let whole : suc place + (n - 1) ≡ place + n = omega arith in
        let skipped : drop (n - 1) rest ≡ drop (place + n) raw = drop-drop (n - 1) (suc place) raw ∙ ap (λ x. drop x raw) whole in
        let p : (place + 1) + (n - 1) ≡ place + n = omega arith in
        let less : n - 1 ≤ length (drop (place + 1) raw) = omega arith in
        let within : n - 1 ≤ length rest = rw add-one at less in
        record {
          room = omega arith;
          read = opened ∙ ap (λ r. after w (followed_by r (λ skip. lit_from (place + 1) skip rest))) (rw add-one at e)
              ∙ after-prepended w c (lit_from (place + 1) (n - 1) rest)
              ∙ ap (after (w ++ c ∷ [])) (lit-skip (place + 1) (n - 1) rest within ∙ ap (λ x. lit_from x 0 (drop (n - 1) rest)) p ∙ ap (lit_from (place + n) 0) skipped);
        }
