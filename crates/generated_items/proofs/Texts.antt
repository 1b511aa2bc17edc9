-- The text of a block is that of its forms, each on a line of its own.
use Rattle.std.proofs.Common.{◌≡◌, ℕ, ◌+◌, ◌*◌, List, [], ◌∷◌, ◌++◌, map, codes, refl, sym, ap, ◌∙◌, append_assoc, append-nil}
use Rattle.std.specs.Fmt.{decimal}
use Rattle.generated_script.specs.Blocks.{line, length_line, assertions, block_text}
use Rattle.generated_script.specs.declared.shape.Shape.{Shape as Block}
use Rattle.generated_script.specs.declared.shape.Shape.TheVariants.{Power, Odd, Halves, Escaped}
use Rattle.sexpr_print.specs.Printed.{printed_lines}
use Rattle.smt_names.specs.Form.{Form, raw}
use Rattle.generated_items.specs.Forms.{has_length, first_form, second_form, asserted, block_forms}
use Rattle.generated_items.specs.Items.{block_items}
use Rattle.generated_items.proofs.Raws.{form_text, printed-raw}

abbrev form_lines : List Form → List ℕ
form_lines [] = []
form_lines (f ∷ fs) = line (form_text f) ++ form_lines fs

lines-raws : (fs : List Form) → printed_lines (map raw fs) ≡ form_lines fs
unfolding line
lines-raws [] = refl
lines-raws (f ∷ fs) = (λ i. printed-raw f i ++ 10 ∷ lines-raws fs i) ∙ sym (append_assoc (form_text f) (10 ∷ []) (form_lines fs))

length_text : (d : List ℕ) (n : ℕ) → decimal n ≡ d → form_text (asserted (has_length n)) ≡ codes "(assert (= (str.len x) " ++ d ++ codes "))"
length_text d n e = ap (λ (t : List ℕ). codes "(assert (= (str.len x) " ++ ((t ++ 41 ∷ []) ++ 41 ∷ [])) e ∙ simp append_assoc

length_is : (n : ℕ) → line (form_text (asserted (has_length n))) ≡ length_line n
length_is n = ap line (length_text (decimal n) n refl)

wrapped : (d t : List ℕ) → ((((d ++ 41 ∷ []) ++ t) ++ 41 ∷ []) ++ 41 ∷ []) ++ 41 ∷ [] ≡ d ++ 41 ∷ (t ++ 41 ∷ 41 ∷ 41 ∷ [])
wrapped d t = simp append_assoc

power_text : (k : ℕ) → form_text (asserted (first_form Power k)) ≡ codes "(assert (str.in_re x ((_ re.^ " ++ decimal k ++ codes ") (str.to_re \"ab\"))))"
power_text k = ap (λ (t : List ℕ). codes "(assert (str.in_re x ((_ re.^ " ++ t) (wrapped (decimal k) (32 ∷ codes "(str.to_re \"ab\")"))

assertions_text : (block : Block) (k : ℕ) → line (form_text (asserted (first_form block k))) ++ line (form_text (asserted (second_form block k))) ≡ assertions block k
assertions_text Power k = λ i. line (power_text k i) ++ length_is (2 * k) i
assertions_text Odd k = ap (λ (t : List ℕ). line (codes "(assert (str.in_re x (re.* (str.to_re \"aa\"))))") ++ t) (length_is (2 * k + 1))
assertions_text Halves k = ap (λ (t : List ℕ). line (codes "(assert (= x (str.++ y y)))") ++ t) (length_is k)
assertions_text Escaped k = refl

in_order : (a b c d e f g : List ℕ) → a ++ (b ++ (c ++ (d ++ (e ++ (f ++ (g ++ [])))))) ≡ ((((a ++ b) ++ c) ++ (d ++ e)) ++ f) ++ g
in_order a b c d e f g = simp (append_assoc, append-nil)

block_lines : (block : Block) (k : ℕ) → form_lines (block_forms block k) ≡ block_text block k
block_lines block k =
    in_order (line (codes "(push 1)")) (line (codes "(declare-const x String)")) (line (codes "(declare-const y String)"))
    (line (form_text (asserted (first_form block k)))) (line (form_text (asserted (second_form block k)))) (line (codes "(check-sat)")) (line (codes "(pop 1)"))
    ∙ ap (λ (t : List ℕ). line (codes "(push 1)") ++ line (codes "(declare-const x String)") ++ line (codes "(declare-const y String)") ++ t ++ line (codes "(check-sat)") ++ line (codes "(pop 1)")) (assertions_text block k)

pub block_is : (block : Block) (k : ℕ) → printed_lines (block_items block k) ≡ block_text block k
block_is block k = lines-raws (block_forms block k) ∙ block_lines block k
