-- A function of the theories at arguments that it takes, and numerals.
use Rattle.std.proofs.Common.{◌≡◌, ℕ, ◌≤◌, ◌^◌, pos, Bool, true, false, nat_le, nat_lt, List, [], ◌∷◌, map, Ok, Some, refl, ap, ◌∙◌, arith, leb-true, ltb-true}
use Rattle.std.specs.Fmt.{decimal}
use Rattle.sexpr_reader.specs.declared.kind.TokenKind.TheVariants as kind
use Rattle.smt_names.specs.Faults.{and_then, ◌>>◌, need, refuse}
use Rattle.smt_names.specs.Form.{Form, Forms, token, group, end, ◌⨾◌, count}
use Rattle.smt_names.specs.Tokens.{opening, chosen, value, is_too_large}
use Rattle.smt_names.specs.declared.check_fault.CheckFault.TheVariants as fault
use Rattle.smt_names.specs.declared.function.Function.{Function}
use Rattle.smt_names.specs.declared.opening.Opening.{Opening}
use Rattle.smt_names.specs.declared.opening.Opening.TheVariants.{Application}
use Rattle.sv_terms.specs.declared.entry.Body.{Body}
use Rattle.sv_terms.specs.declared.entry.Body.TheVariants as body
use Rattle.sv_terms.specs.declared.limits.TheConstants.{MOST_TIMES}
use Rattle.sv_terms.specs.declared.sort.Sort.{Sort}
use Rattle.sv_terms.specs.declared.term.Term.TheVariants as term
use Rattle.term_weight.specs.Bodies.{body_sort}
use Rattle.term_weight.specs.Ranks.{takes_count, takes_sorts, applied}
use Rattle.term_walk.specs.Meant.{Names, theory, head, in_parentheses, meant, meant_all, meant_let, meant_quantifier, meant_annotated, alone, of_theory, identified, index_of}
use Rattle.generated_items.proofs.Decimals.{small_decimal}

module _ (test : Body → Bool) (symbols : Names) where
  -- what is meant, where nothing is bound
  abbrev pub Means : Form → Body → Type 0
  Means f b = meant test symbols [] f ≡ Ok b

  abbrev pub AllMean : Forms → List Body → Type 0
  AllMean fs bs = meant_all test symbols [] fs ≡ Ok bs

  pub none-mean : AllMean end []
  none-mean = refl

  pub more-mean : (f : Form) (fs : Forms) (b : Body) (bs : List Body) → Means f b → AllMean fs bs → AllMean (f ⨾ fs) (b ∷ bs)
  more-mean f fs b bs h g =
      ap (λ r. and_then (λ (c : Body). and_then (λ (cs : List Body). Ok (c ∷ cs)) (meant_all test symbols [] fs)) r) h
      ∙ ap (λ r. and_then (λ (cs : List Body). Ok (b ∷ cs)) r) g

  -- a function at arguments of its rank
  pub applies : (h : Form) (fs : Forms) (f : Function) (bs : List Body) (ss : List Sort) → opening h ≡ Application → head symbols h ≡ Ok (theory f) → AllMean fs bs → map body_sort bs ≡ ss
      → nat_le 1 (count fs) ≡ true → takes_count f.takes (count fs) ≡ true → takes_sorts f.takes ss ≡ true → Means (group (h ⨾ fs)) (applied f bs)
  applies h fs f bs ss o e a s some number sorts =
      ap (λ (q : Opening). chosen q (meant_let test symbols [] fs) (meant_quantifier test symbols [] fs) (meant_annotated test symbols [] fs) (alone (of_theory (identified symbols fs))) (in_parentheses (head symbols h) (count fs) (meant_all test symbols [] fs))) o
      ∙ (λ i. in_parentheses (e i) (count fs) (a i))
      ∙ (λ i. need (some i) fault.Arity >> need (number i) fault.Arity >> need (takes_sorts f.takes (s i)) fault.Sort >> Ok (applied f bs))
      ∙ ap (λ (b : Bool). need b fault.Sort >> Ok (applied f bs)) sorts

at_most : (b : Bool) (n : ℕ) → n ≤ 101 → nat_le (2 ^ 127) n ≡ b → b ≡ false
at_most true n h e = absurd (omega (arith, h, leb-true (2 ^ 127) n e))
at_most false n h e = refl

not_large : (n : ℕ) → n ≤ 101 → nat_le (2 ^ 127) n ≡ false
not_large n h = at_most (nat_le (2 ^ 127) n) n h refl

below_times : (b : Bool) (n : ℕ) → n ≤ 101 → nat_lt MOST_TIMES n ≡ b → b ≡ false
below_times true n h e = absurd (omega (arith, h, ltb-true MOST_TIMES n e))
below_times false n h e = refl

pub small_digits : (n : ℕ) → n ≤ 101 → is_too_large (decimal n) ≡ false
small_digits n h = ap (λ (v : ℕ). nat_le (2 ^ 127) v) (small_decimal n h).value ∙ not_large n h

-- a numeral means its number
pub numeral-means : (test : Body → Bool) (symbols : Names) (n : ℕ) → n ≤ 101 → meant test symbols [] (token kind.Numeral (decimal n)) ≡ Ok (body.Term (term.Number (pos n)))
numeral-means test symbols n h =
    ap (λ (b : Bool). refuse b fault.Number >> Ok (body.Term (term.Number (pos (value (decimal n)))))) (small_digits n h)
    ∙ ap (λ (v : ℕ). Ok (body.Term (term.Number (pos v)))) (small_decimal n h).value

-- and so does an index
pub index-is : (n : ℕ) → n ≤ 101 → index_of (Some (decimal n)) ≡ Ok n
index-is n h =
    ap (λ (v : ℕ). refuse (nat_le (2 ^ 127) v) fault.Number >> refuse (nat_lt MOST_TIMES v) fault.Index >> Ok v) (small_decimal n h).value
    ∙ (λ i. refuse (not_large n h i) fault.Number >> refuse (below_times (nat_lt MOST_TIMES n) n h refl i) fault.Index >> Ok n)
