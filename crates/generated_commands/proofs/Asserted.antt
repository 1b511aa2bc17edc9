-- The assertions of a block are within the limits, and are sorted.
use Rattle.std.proofs.Common.{◌≡◌, ℕ, ◌+◌, ◌*◌, ◌≤◌, Bool, true, ◌&&◌, nat_le, List, [], ◌∷◌, codes, None, Ok, refl, sym, ap, ◌∙◌, arith}
use Rattle.std.specs.List.{list_all}
use Rattle.generated_script.specs.declared.shape.Shape.{Shape as Block}
use Rattle.generated_script.specs.declared.shape.Shape.TheVariants.{Power, Odd, Halves, Escaped}
use Rattle.generated_terms.specs.Terms as terms
use Rattle.generated_terms.proofs.Folds.{shape_fold, fold-raw}
use Rattle.generated_items.specs.Forms as forms
use Rattle.item_passes.specs.Passes.{passed}
use Rattle.literal_forms.specs.Shapes.{Shape, raw}
use Rattle.smt_names.specs.Faults.{and_then, ◌>>◌, made_of, need, refuse}
use Rattle.smt_names.specs.Form.{Form, end, ◌⨾◌}
use Rattle.smt_names.specs.declared.check_fault.CheckFault.TheVariants as fault
use Rattle.sort_check.specs.Checking.{checked, assertion_of, label, labelled}
use Rattle.sort_check.specs.declared.commands.Command.TheVariants as command
use Rattle.sv_terms.specs.Sorting.{layer_sort, same_sort}
use Rattle.sv_terms.specs.declared.entry.Body.{Body}
use Rattle.sv_terms.specs.declared.limits.TheConstants.{MOST_NODES, MOST_NESTING}
use Rattle.sv_terms.specs.declared.regex.Regex.{Regex}
use Rattle.sv_terms.specs.declared.regex.Regex.TheFolds.{fold-Regex, fold-roll-Regex}
use Rattle.sv_terms.specs.declared.regex.Regex.TheOpen.{Regex-F}
use Rattle.sv_terms.specs.declared.regex.Regex.TheVariants as regex
use Rattle.sv_terms.specs.declared.sort.Sort.{Sort}
use Rattle.sv_terms.specs.declared.sort.Sort.TheVariants as sort
use Rattle.term_weight.specs.Sizes.{fits, one_more, one_deeper, regex_measure, regex_nodes, regex_nesting, term_measure}
use Rattle.term_walk.specs.Meant.{any_size}
use Rattle.generated_commands.specs.Commands.{with_both}
use Rattle.generated_commands.proofs.Applied.{Means, AllMean, none-mean, more-mean, small_digits}
use Rattle.generated_commands.proofs.Meanings.{of, sort-of, first-means, second-means}

-- measures of regular expressions
module _ (of_parts : List ℕ → ℕ) where
  abbrev measured : Regex → ℕ
  measured = fold-Regex ℕ (regex_measure of_parts)

  measured-Text : (w : List ℕ) → measured (regex.Text w) ≡ of_parts []
  measured-Text w = ap measured (sym (regex.rolls-Text w)) ∙ fold-roll-Regex ℕ (regex_measure of_parts) (Regex-F.Text w)

  measured-Star : (r : Regex) → measured (regex.Star r) ≡ of_parts (measured r ∷ [])
  measured-Star r = ap measured (sym (regex.rolls-Star r)) ∙ fold-roll-Regex ℕ (regex_measure of_parts) (Regex-F.Star r)

  measured-Loop : (r : Regex) (i j : ℕ) → measured (regex.Loop r i j) ≡ of_parts (measured r ∷ [])
  measured-Loop r i j = ap measured (sym (regex.rolls-Loop r i j)) ∙ fold-roll-Regex ℕ (regex_measure of_parts) (Regex-F.Loop r i j)

  power_measure : (w : List ℕ) (k : ℕ) → measured (regex.Loop (regex.Text w) k k) ≡ of_parts (of_parts [] ∷ [])
  power_measure w k = measured-Loop (regex.Text w) k k ∙ ap (λ (n : ℕ). of_parts (n ∷ [])) (measured-Text w)

  star_measure : (w : List ℕ) → measured (regex.Star (regex.Text w)) ≡ of_parts (of_parts [] ∷ [])
  star_measure w = measured-Star (regex.Text w) ∙ ap (λ (n : ℕ). of_parts (n ∷ [])) (measured-Text w)

abbrev nodes_of : Shape → ℕ
nodes_of s = shape_fold ℕ (term_measure regex_nodes one_more) s

abbrev nesting_of : Shape → ℕ
nesting_of s = shape_fold ℕ (term_measure regex_nesting one_deeper) s

fits-of : (s : Shape) → nat_le (nodes_of s) MOST_NODES && nat_le (nesting_of s) MOST_NESTING ≡ true → fits (of s) ≡ true
fits-of s h = (λ i. nat_le (fold-raw ℕ (term_measure regex_nodes one_more) s i) MOST_NODES && nat_le (fold-raw ℕ (term_measure regex_nesting one_deeper) s i) MOST_NESTING) ∙ h

-- membership in a language of two nodes
member_fits : (r : Regex) → regex_nodes r ≡ 2 → regex_nesting r ≡ 1 → nat_le (one_more (1 ∷ regex_nodes r ∷ [])) MOST_NODES && nat_le (one_deeper (0 ∷ regex_nesting r ∷ [])) MOST_NESTING ≡ true
member_fits r e d = λ i. nat_le (one_more (1 ∷ e i ∷ [])) MOST_NODES && nat_le (one_deeper (0 ∷ d i ∷ [])) MOST_NESTING

first_fits : (block : Block) (k : ℕ) → fits (of (terms.first block k)) ≡ true
first_fits Power k = fits-of (terms.first Power k) (member_fits (regex.Loop (regex.Text (codes "ab")) k k) (power_measure one_more (codes "ab") k) (power_measure one_deeper (codes "ab") k))
first_fits Odd k = fits-of (terms.first Odd k) (member_fits (regex.Star (regex.Text (codes "aa"))) (star_measure one_more (codes "aa")) (star_measure one_deeper (codes "aa")))
first_fits Halves k = fits-of (terms.first Halves k) refl
first_fits Escaped k = fits-of (terms.first Escaped k) refl

second_fits : (block : Block) (k : ℕ) → fits (of (terms.second block k)) ≡ true
second_fits Power k = fits-of (terms.second Power k) refl
second_fits Odd k = fits-of (terms.second Odd k) refl
second_fits Halves k = fits-of (terms.second Halves k) refl
second_fits Escaped k = fits-of (terms.second Escaped k) refl

-- nothing is found before the terms are walked
length_passes : (n : ℕ) → n ≤ 101 → passed (forms.has_length n ⨾ end) ≡ Ok tt
length_passes n h = λ i. (refuse (small_digits n h i) fault.Number >> Ok tt) >> Ok tt

first_passes : (block : Block) (k : ℕ) → k ≤ 50 → passed (forms.first_form block k ⨾ end) ≡ Ok tt
first_passes Power k h = λ i. (((refuse (small_digits k (omega (arith, h)) i) fault.Number >> Ok tt) >> Ok tt) >> Ok tt) >> Ok tt
first_passes Odd k h = refl
first_passes Halves k h = refl
first_passes Escaped k h = refl

second_passes : (block : Block) (k : ℕ) → k ≤ 50 → passed (forms.second_form block k ⨾ end) ≡ Ok tt
second_passes Power k h = length_passes (2 * k) (omega (arith, h))
second_passes Odd k h = length_passes (2 * k + 1) (omega (arith, h))
second_passes Halves k h = length_passes k (omega (arith, h))
second_passes Escaped k h = refl

first_sort : (block : Block) (k : ℕ) → shape_fold Sort layer_sort (terms.first block k) ≡ sort.Bool
first_sort Power k = refl
first_sort Odd k = refl
first_sort Halves k = refl
first_sort Escaped k = refl

second_sort : (block : Block) (k : ℕ) → shape_fold Sort layer_sort (terms.second block k) ≡ sort.Bool
second_sort Power k = refl
second_sort Odd k = refl
second_sort Halves k = refl
second_sort Escaped k = refl

-- no name is given to a term
first_plain : (block : Block) (k : ℕ) → label (forms.first_form block k) ≡ Ok None
first_plain Power k = refl
first_plain Odd k = refl
first_plain Halves k = refl
first_plain Escaped k = refl

second_plain : (block : Block) (k : ℕ) → label (forms.second_form block k) ≡ Ok None
second_plain Power k = refl
second_plain Odd k = refl
second_plain Halves k = refl
second_plain Escaped k = refl

-- a term without a name that passes, has this meaning and fits is asserted
asserts : (t : Form) (s : Shape) → label t ≡ Ok None → passed (t ⨾ end) ≡ Ok tt → ((test : Body → Bool) → Means test with_both t (of s)) → fits (of s) ≡ true → shape_fold Sort layer_sort s ≡ sort.Bool → checked with_both (forms.asserted t) ≡ Ok (command.Assert (raw s))
asserts t s plain p means fit is =
    let all : (test : Body → Bool) → AllMean test with_both (t ⨾ end) (of s ∷ []) = λ test. more-mean test with_both t end (of s) [] (means test) (none-mean test with_both) in
    ap (and_then (labelled with_both t)) plain
    ∙ (λ i. made_of command.Assert (p i >> and_then assertion_of (and_then (λ (bs : List Body). and_then (λ (_ : List Body). need (list_all fits bs) fault.Size >> Ok bs) (all fits i)) (all any_size i))))
    ∙ (λ i. made_of command.Assert (and_then assertion_of (need (fit i && true) fault.Size >> Ok (of s ∷ []))))
    ∙ (λ i. made_of command.Assert (need (same_sort sort.Bool ((sort-of s ∙ is) i)) fault.Sort >> Ok (raw s)))

pub first_asserted : (block : Block) (k : ℕ) → k ≤ 50 → checked with_both (forms.asserted (forms.first_form block k)) ≡ Ok (command.Assert (raw (terms.first block k)))
first_asserted block k h = asserts (forms.first_form block k) (terms.first block k) (first_plain block k) (first_passes block k h) (λ test. first-means test block k h) (first_fits block k) (first_sort block k)

pub second_asserted : (block : Block) (k : ℕ) → k ≤ 50 → checked with_both (forms.asserted (forms.second_form block k)) ≡ Ok (command.Assert (raw (terms.second block k)))
second_asserted block k h = asserts (forms.second_form block k) (terms.second block k) (second_plain block k) (second_passes block k h) (λ test. second-means test block k h) (second_fits block k) (second_sort block k)
