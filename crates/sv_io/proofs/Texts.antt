-- Texts that are written piece by piece.
use Rattle.std.proofs.Common.{◌≡◌, sym, ap, ◌∙◌, ℕ, ◌+◌, ◌-◌, ◌≤◌, List, ◌++◌, length, take, drop, arith, length-drop, append_assoc}
use Rattle.std.proofs.Math.Seq.{take-add}
use Rattle.std.proofs.lemmas.List.{take_all, drop-drop}

-- one piece more of a text
pub wrote_more : (a b c : List ℕ) (n k : ℕ) (text rest : List ℕ) → b ≡ a ++ take n text → rest ≡ drop n text → c ≡ b ++ take k rest → k ≤ length rest
    → (x : ℕ) × (c ≡ a ++ take x text) × (take (length rest - k) (drop k rest) ≡ drop x text)
wrote_more a b c n k text rest before is more within =
    let left : length (drop k rest) ≤ length rest - k = omega (arith, length-drop k rest) in (
      n + k,
      more ∙ ap (λ (l : List ℕ). b ++ take k l) is ∙ ap (λ (l : List ℕ). l ++ take k (drop n text)) before ∙ append_assoc a (take n text) (take k (drop n text)) ∙ ap (λ (l : List ℕ). a ++ l) (sym (take-add n k text)),
      take_all _ _ left ∙ ap (λ (l : List ℕ). drop k l) is ∙ drop-drop k n text,
    )
