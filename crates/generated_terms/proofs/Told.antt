-- What a true assertion of a block tells of the values of its constants.
use Rattle.std.proofs.Common.{◌≡◌, ℕ, pos, [], ◌∷◌, ◌++◌, length, Bool, true, false, ◌&&◌, Option, None, Some, refl, sym, ap, ◌∙◌, arith}
use Rattle.std.specs.Cmp.{signed_Decides}
use Rattle.std.specs.Cmp.Lexicographic.{pointwise, same_text}
use Rattle.std.proofs.lemmas.Int.{ints}
use Rattle.std.specs.Prelude.{nat_eq}
use Rattle.std.specs.Ordering.{int_eq}
use Rattle.sv_terms.specs.Language.{Word}
use Rattle.sv_terms.specs.Meaning.{all_of, applied_if, tested}
use Rattle.sv_terms.specs.Replacement.{occurs, replace_all}
use Rattle.sv_terms.specs.declared.op.Op.TheVariants as op
use Rattle.sv_terms.specs.declared.value.Value.{Value}
use Rattle.sv_terms.specs.declared.value.Value.TheVariants.{Truth, Number, Text}

pub truth_is : (a b : Bool) → Some (Truth a) ≡ Some (Truth b) → a ≡ b
truth_is a b e = cc

pub left_true : (b : Bool) → b && true ≡ true → b ≡ true
left_true true e = refl
left_true false e = cc

pub int_same : (m n : ℕ) → int_eq (pos m) (pos n) ≡ true → m ≡ n
int_same m n e = let h : pos m ≡ pos n = (signed_Decides (pos m) (pos n)).0 e in omega (arith, ints)

pub length_told : (o : Option Value) (n : ℕ) → applied_if op.Equal (all_of (applied_if op.Length (all_of (o ∷ [])) ∷ Some (Number (pos n)) ∷ [])) ≡ Some (Truth true) → (w : Word) × (o ≡ Some (Text w)) × (length w ≡ n)
length_told None n e = absurd (cc)
length_told (Some (Truth b)) n e = absurd (cc)
length_told (Some (Number m)) n e = absurd (cc)
length_told (Some (Text w)) n e = (w, refl, int_same (length w) n (left_true _ (truth_is (int_eq (pos (length w)) (pos n) && true) true e)))

pub member_told : (p : Word → Bool) (o : Option Value) (w : Word) → o ≡ Some (Text w) → tested p o ≡ Some (Truth true) → p w ≡ true
member_told p o w is e = truth_is (p w) true (sym (ap (tested p) is) ∙ e)

text_same : (v w : Word) → pointwise nat_eq v w && true ≡ true → v ≡ w
text_same v w e = same_text v w (sym (left_true (pointwise nat_eq v w) e))

pub halves_told : (w : Word) (o : Option Value) → applied_if op.Equal (all_of (Some (Text w) ∷ applied_if op.Concat (all_of (o ∷ o ∷ [])) ∷ [])) ≡ Some (Truth true) → (v : Word) × (w ≡ v ++ (v ++ []))
halves_told w None e = absurd (cc)
halves_told w (Some (Truth b)) e = absurd (cc)
halves_told w (Some (Number m)) e = absurd (cc)
halves_told w (Some (Text v)) e = (v, text_same w (v ++ (v ++ [])) (truth_is _ true e))

pub escaped_told : (p u w : Word) (o : Option Value) → applied_if op.Equal (all_of (Some (Text w) ∷ applied_if op.ReplaceAll (all_of (o ∷ Some (Text p) ∷ Some (Text u) ∷ [])) ∷ [])) ≡ Some (Truth true) → (v : Word) × (w ≡ replace_all p u v)
escaped_told p u w None e = absurd (cc)
escaped_told p u w (Some (Truth b)) e = absurd (cc)
escaped_told p u w (Some (Number m)) e = absurd (cc)
escaped_told p u w (Some (Text v)) e = (v, text_same w (replace_all p u v) (truth_is _ true e))

pub occurs_told : (p : Word) (o : Option Value) → applied_if op.Contains (all_of (o ∷ Some (Text p) ∷ [])) ≡ Some (Truth true) → (w : Word) × (o ≡ Some (Text w)) × (occurs p w ≡ true)
occurs_told p None e = absurd (cc)
occurs_told p (Some (Truth b)) e = absurd (cc)
occurs_told p (Some (Number m)) e = absurd (cc)
occurs_told p (Some (Text w)) e = (w, refl, truth_is (occurs p w) true e)
