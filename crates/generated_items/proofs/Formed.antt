-- The tokens of the blocks are tokens of their kinds.
use Rattle.std.proofs.Common.{ℕ, ◌+◌, ◌*◌, ◌≤◌, codes, refl, sym, subst, arith}
use Rattle.std.specs.Fmt.{decimal}
use Rattle.generated_script.specs.declared.shape.Shape.{Shape as Block}
use Rattle.generated_script.specs.declared.shape.Shape.TheVariants.{Power, Odd, Halves, Escaped}
use Rattle.sexpr_print.specs.Printed.{IsPrintable, ArePrintable}
use Rattle.sexpr_reader.specs.Items.{most_open_lists}
use Rattle.sexpr_reader.specs.Tokens.{IsOfKind, IsLiteral}
use Rattle.sexpr_reader.specs.declared.kind.TokenKind.TheVariants as kind
use Rattle.smt_names.specs.Form.{Form, raw}
use Rattle.generated_items.specs.Forms.{has_length, first_form, second_form, pushed, declared, x, y, asserted, asked, popped}
use Rattle.generated_items.specs.Items.{block_items}
use Rattle.generated_items.proofs.Decimals.{small_decimal}
use Rattle.generated_items.proofs.Raws.{HasTokens, form_depth, depth-raw, formed-raw}

numeral_token : (n : ℕ) → n ≤ 101 → IsOfKind kind.Numeral (decimal n)
numeral_token n h = let d = small_decimal n h in (d.run, d.numeral)

length_tokens : (n : ℕ) → n ≤ 101 → HasTokens (has_length n)
length_tokens n h = ((refl, refl), (((refl, refl), ((refl, refl), tt)), (numeral_token n h, tt)))

ab_token : IsLiteral (codes "\"ab\"")
ab_token = (codes "ab", refl, refl)

aa_token : IsLiteral (codes "\"aa\"")
aa_token = (codes "aa", refl, refl)

less_token : IsLiteral (codes "\"<\"")
less_token = (codes "<", refl, refl)

escape_token : IsLiteral (codes "\"&lt;\"")
escape_token = (codes "&lt;", refl, refl)

first_tokens : (block : Block) (k : ℕ) → k ≤ 50 → HasTokens (asserted (first_form block k))
first_tokens Power k h = ((refl, refl), (((refl, refl), ((refl, refl), ((((refl, refl), ((refl, refl), (numeral_token k (omega (arith, h)), tt))), (((refl, refl), (ab_token, tt)), tt)), tt))), tt))
first_tokens Odd k h = ((refl, refl), (((refl, refl), ((refl, refl), (((refl, refl), (((refl, refl), (aa_token, tt)), tt)), tt))), tt))
first_tokens Halves k h = ((refl, refl), (((refl, refl), ((refl, refl), (((refl, refl), ((refl, refl), ((refl, refl), tt))), tt))), tt))
first_tokens Escaped k h = ((refl, refl), (((refl, refl), ((refl, refl), (((refl, refl), ((refl, refl), (less_token, (escape_token, tt)))), tt))), tt))

second_tokens : (block : Block) (k : ℕ) → k ≤ 50 → HasTokens (asserted (second_form block k))
second_tokens Power k h = ((refl, refl), (length_tokens (2 * k) (omega (arith, h)), tt))
second_tokens Odd k h = ((refl, refl), (length_tokens (2 * k + 1) (omega (arith, h)), tt))
second_tokens Halves k h = ((refl, refl), (length_tokens k (omega (arith, h)), tt))
second_tokens Escaped k h = ((refl, refl), (((refl, refl), ((refl, refl), (less_token, tt))), tt))

printable : (f : Form) → HasTokens f → form_depth f ≤ most_open_lists → IsPrintable (raw f)
printable f h d = record { formed = formed-raw f h; nested = subst (λ (n : ℕ). n ≤ most_open_lists) (sym (depth-raw f)) d }

first_depth : (block : Block) (k : ℕ) → form_depth (asserted (first_form block k)) ≤ most_open_lists
first_depth Power k = omega arith
first_depth Odd k = omega arith
first_depth Halves k = omega arith
first_depth Escaped k = omega arith

second_depth : (block : Block) (k : ℕ) → form_depth (asserted (second_form block k)) ≤ most_open_lists
second_depth Power k = omega arith
second_depth Odd k = omega arith
second_depth Halves k = omega arith
second_depth Escaped k = omega arith

pub block_printable : (block : Block) (k : ℕ) → k ≤ 50 → ArePrintable (block_items block k)
block_printable block k h = (
  printable pushed ((refl, refl), ((refl, refl), tt)) (omega arith),
  (
    printable (declared x) ((refl, refl), ((refl, refl), ((refl, refl), tt))) (omega arith),
    (
      printable (declared y) ((refl, refl), ((refl, refl), ((refl, refl), tt))) (omega arith),
      (
        printable (asserted (first_form block k)) (first_tokens block k h) (first_depth block k),
        (
          printable (asserted (second_form block k)) (second_tokens block k h) (second_depth block k),
          (printable asked ((refl, refl), tt) (omega arith), (printable popped ((refl, refl), ((refl, refl), tt)) (omega arith), tt)),
        ),
      ),
    ),
  ),
)
