-- The text of a generated script, block by block.
use Rattle.std.proofs.Common.{◌≡◌, ℕ, zero, suc, ◌≤◌, List, [], ◌∷◌, ◌++◌, refl, sym, ap, ◌∙◌, subst, append_assoc, arith}
use Rattle.generated_script.specs.Blocks.{blocks, script}
use Rattle.generated_script.specs.Draws.{behind, seeded}
use Rattle.sexpr_print.specs.Printed.{printed, printed_lines, ArePrintable}
use Rattle.sexpr_print.proofs.Whole.{lines_end}
use Rattle.sexpr_reader.specs.Reads.{Ends}
use Rattle.sexpr_reader.specs.declared.sexpr.Sexpr.{Sexpr}
use Rattle.generated_items.specs.Items.{block_at, number_at, block_items, items_from, script_items}
use Rattle.generated_items.proofs.Formed.{block_printable}
use Rattle.generated_items.proofs.Texts.{block_is}

lines-append : (xs ys : List Sexpr) → printed_lines (xs ++ ys) ≡ printed_lines xs ++ printed_lines ys
lines-append [] ys = refl
lines-append (x ∷ xs) ys = ap (λ (l : List ℕ). printed x ++ 10 ∷ l) (lines-append xs ys) ∙ sym (append_assoc (printed x) (10 ∷ printed_lines xs) (printed_lines ys))

lines_from : (s n : ℕ) → printed_lines (items_from s n) ≡ blocks s n
lines_from s zero = refl
lines_from s (suc n) = lines-append (block_items (block_at s) (number_at s)) (items_from (behind s) n) ∙ (λ i. block_is (block_at s) (number_at s) i ++ lines_from (behind s) n i)

printable-append : (xs ys : List Sexpr) → ArePrintable xs → ArePrintable ys → ArePrintable (xs ++ ys)
printable-append [] ys h g = g
printable-append (x ∷ xs) ys h g = (h.0, printable-append xs ys h.1 g)

number_small : (s : ℕ) → number_at s ≤ 50
number_small s = omega arith

printable_from : (s n : ℕ) → ArePrintable (items_from s n)
printable_from s zero = tt
printable_from s (suc n) = printable-append (block_items (block_at s) (number_at s)) (items_from (behind s) n) (block_printable (block_at s) (number_at s) (number_small s)) (printable_from (behind s) n)

pub script_text : (seed size : ℕ) → printed_lines (script_items seed size) ≡ script seed size
script_text seed size = lines_from (seeded seed) size

pub script_printable : (seed size : ℕ) → ArePrintable (script_items seed size)
script_printable seed size = printable_from (seeded seed) size

pub script_read : (seed size : ℕ) → Ends (script seed size) (script_items seed size)
script_read seed size = subst (λ (text : List ℕ). Ends text (script_items seed size)) (script_text seed size) (lines_end (script_items seed size) (script_printable seed size))
