-- Which blocks have values.
use Rattle.std.proofs.Common.{◌≡◌, ℕ, zero, suc, ◌+◌, ◌*◌, ◌/◌, ◌%◌, pos, List, [], ◌∷◌, ◌++◌, length, Bool, true, false, not, ◌&&◌, cond, IsTrue, Option, Some, nat_eq, All, refl, sym, ap, ◌∙◌, subst, arith, length-append, eq-eqb, eqb-true, div-add-mod'}
use Rattle.std.specs.Cmp.{signed_Decides}
use Rattle.std.specs.Cmp.Lexicographic.{pointwise, bytes_decides}
use Rattle.std.specs.Map.{lookup}
use Rattle.std.specs.Ordering.{int_eq}
use Rattle.std.specs.Prelude.{codes}
use Rattle.generated_script.specs.declared.shape.Shape.{Shape as Block}
use Rattle.generated_script.specs.declared.shape.Shape.TheVariants.{Power, Odd, Halves, Escaped}
use Rattle.literal_forms.specs.Shapes.{Shape, raw}
use Rattle.sv_terms.specs.Language.{Word, In}
use Rattle.sv_terms.specs.Matches.{matches}
use Rattle.sv_terms.specs.Meaning.{Named, all_of, applied_if, val, val_step}
use Rattle.sv_terms.specs.Replacement.{occurs}
use Rattle.sv_terms.specs.Opened.{In-Text, In-Star, In-Loop}
use Rattle.sv_terms.specs.Parts.{is_opaque, opaque_step}
use Rattle.sv_terms.specs.Sorting.{is_valued, valued_step}
use Rattle.sv_terms.specs.Truth.{clear_of, opaque_of, AreTrueAt, HasValues, HasNoValues, IsWorded}
use Rattle.sv_terms.specs.declared.op.Op.TheVariants as op
use Rattle.sv_terms.specs.declared.regex.Regex.TheVariants as regex
use Rattle.sv_terms.specs.declared.term.Term.{Term}
use Rattle.sv_terms.specs.declared.value.Value.{Value}
use Rattle.sv_terms.specs.declared.value.Value.TheVariants.{Truth, Text}
use Rattle.sv_terms.proofs.Matching.{matches-In}
use Rattle.sv_word.specs.Words.{IsWord}
use Rattle.generated_terms.specs.Terms.{first, second, terms_of, has_values}
use Rattle.generated_terms.proofs.Folds.{shape_fold, fold-raw}
use Rattle.generated_terms.proofs.Told.{length_told, member_told, halves_told, escaped_told, occurs_told}
use Rattle.generated_terms.proofs.Words.{even_length, abs, abs_power, abs_length, abs_word, copies, copies_length, copies_word, word-append, less_than, escape, none_left}

-- both of two
two_all : {X : Type 0} (P : X → Type 0) (a b : X) → P a → P b → All P (a ∷ b ∷ [])
two_all P a b h g zero d l = h
two_all P a b h g (suc zero) d l = g
two_all P a b h g (suc (suc n)) d l = absurd (omega (arith, l))

-- the meaning of an assertion under values, along its shape
abbrev means : Named → Shape → Option Value
means values s = shape_fold (Option Value) (val_step values) s

module _ (block : Block) (k : ℕ) (values : Named) (are : AreTrueAt values (terms_of block k)) where
  first_holds : means values (first block k) ≡ Some (Truth true)
  first_holds = sym (fold-raw (Option Value) (val_step values) (first block k)) ∙ are.holds zero (raw (first block k)) (omega arith)

  second_holds : means values (second block k) ≡ Some (Truth true)
  second_holds = sym (fold-raw (Option Value) (val_step values) (second block k)) ∙ are.holds (suc zero) (raw (second block k)) (omega arith)

-- the value of a constant
abbrev of_x : Named → Option Value
of_x values = lookup (pointwise nat_eq (codes "x")) values

abbrev of_y : Named → Option Value
of_y values = lookup (pointwise nat_eq (codes "y")) values

abbrev means_halves : Option Value → Option Value → Option Value
means_halves o q = applied_if op.Equal (all_of (o ∷ applied_if op.Concat (all_of (q ∷ q ∷ [])) ∷ []))

abbrev means_escaped : Option Value → Option Value → Option Value
means_escaped o q = applied_if op.Equal (all_of (o ∷ applied_if op.ReplaceAll (all_of (q ∷ Some (Text less_than) ∷ Some (Text escape) ∷ [])) ∷ []))

text_length : (t u : Word) → In (regex.Text t) u → length u ≡ length t
text_length t u h = let g = subst (λ (T : Type 0). T) (In-Text t u) h in ap length g.0

odd_none : (k : ℕ) → HasNoValues (terms_of Odd k)
odd_none k values are =
    let t = length_told (of_x values) (2 * k + 1) (second_holds Odd k values are) in
    let pairs = regex.Text (codes "aa") in
    let passes = member_told (matches (regex.Star pairs)) (of_x values) t.0 t.1 (first_holds Odd k values are) in
    let repeated = subst (λ (T : Type 0). T) (In-Star pairs t.0) ((matches-In (regex.Star pairs) t.0).0 passes) in
    let even = even_length (In pairs) (text_length (codes "aa")) t.0 repeated in
    omega (arith, t.2, even.1)

halves_even : (k : ℕ) → (values : Named) → AreTrueAt values (terms_of Halves k) → (m : ℕ) × (k ≡ 2 * m)
halves_even k values are =
    let t = length_told (of_x values) k (second_holds Halves k values are) in
    let e = subst (λ (o : Option Value). means_halves o (of_y values) ≡ Some (Truth true)) t.1 (first_holds Halves k values are) in
    let h = halves_told t.0 (of_y values) e in
    (length h.0, omega (arith, t.2, ap length h.1, length-append h.0 (h.0 ++ []), length-append h.0 []))

escaped_none : (k : ℕ) → HasNoValues (terms_of Escaped k)
escaped_none k values are =
    let t = occurs_told less_than (of_x values) (second_holds Escaped k values are) in
    let e = subst (λ (o : Option Value). means_escaped o (of_y values) ≡ Some (Truth true)) t.1 (first_holds Escaped k values are) in
    let h = escaped_told less_than escape t.0 (of_y values) e in
    let none : false ≡ true = sym (none_left h.0) ∙ ap (λ (w : Word). occurs less_than w) (sym h.1) ∙ t.2 in cc

-- k is even where the test says so
even_test : (k m : ℕ) → k ≡ 2 * m → nat_eq (k % 2) 0 ≡ true
even_test k m e = let z : k % 2 ≡ 0 = omega (arith, e) in eq-eqb (k % 2) 0 z

even_half : (k : ℕ) → nat_eq (k % 2) 0 ≡ true → k / 2 + k / 2 ≡ k
even_half k e = let z : k % 2 ≡ 0 = eqb-true (k % 2) 0 e in omega (arith, z, div-add-mod' k 2)

pub none : (block : Block) (k : ℕ) → has_values block k ≡ false → HasNoValues (terms_of block k)
none Power k e = cc
none Odd k e = odd_none k
none Halves k e = λ values are. let m = halves_even k values are in let h : nat_eq (k % 2) 0 ≡ true = even_test k m.0 m.1 in cc
none Escaped k e = escaped_none k

-- these two words as the values of the constants
abbrev named : Word → Word → Named
named v w = (codes "x", Text v) ∷ (codes "y", Text w) ∷ []

-- values that make both assertions true
found : (block : Block) (k : ℕ) (v w : Word) → IsWord v → IsWord w
    → shape_fold Bool (valued_step (named v w)) (first block k) ≡ true → shape_fold Bool (valued_step (named v w)) (second block k) ≡ true
    → means (named v w) (first block k) ≡ Some (Truth true) → means (named v w) (second block k) ≡ Some (Truth true) → HasValues (terms_of block k)
found block k v w iv iw v1 v2 h1 h2 = (
  named v w,
  record {
    worded = two_all (λ (e : List ℕ × Value). IsWorded e.1) (codes "x", Text v) (codes "y", Text w) iv iw;
    valued = two_all (λ (t : Term). IsTrue (is_valued (named v w) t)) (raw (first block k)) (raw (second block k))
        (fold-raw Bool (valued_step (named v w)) (first block k) ∙ v1) (fold-raw Bool (valued_step (named v w)) (second block k) ∙ v2);
    holds = two_all (λ (t : Term). val (named v w) t ≡ Some (Truth true)) (raw (first block k)) (raw (second block k))
        (fold-raw (Option Value) (val_step (named v w)) (first block k) ∙ h1) (fold-raw (Option Value) (val_step (named v w)) (second block k) ∙ h2);
  },
)

-- an equality of a length with this number
length_holds : (w : Word) (n : ℕ) → length w ≡ n → Some (Truth (int_eq (pos (length w)) (pos n) && true)) ≡ Some (Truth true)
length_holds w n e = ap (λ (b : Bool). Some (Truth (b && true))) ((signed_Decides (pos (length w)) (pos n)).1 (ap (λ (m : ℕ). pos m) e))

power_some : (k : ℕ) → HasValues (terms_of Power k)
power_some k =
    let ab = regex.Text (codes "ab") in
    let one : In ab (codes "ab") = subst (λ (T : Type 0). T) (sym (In-Text (codes "ab") (codes "ab"))) (refl, (omega arith, (omega arith, tt))) in
    let within : In (regex.Loop ab k k) (abs k) = subst (λ (T : Type 0). T) (sym (In-Loop ab k k (abs k))) (k, omega arith, omega arith, abs_power (In ab) one k) in
    let passes : matches (regex.Loop ab k k) (abs k) ≡ true = (matches-In (regex.Loop ab k k) (abs k)).1 within in
    found Power k (abs k) [] (abs_word k) tt refl refl (ap (λ (b : Bool). Some (Truth b)) passes) (length_holds (abs k) (2 * k) (abs_length k))

halves_some : (k : ℕ) → nat_eq (k % 2) 0 ≡ true → HasValues (terms_of Halves k)
halves_some k e =
    let v = copies (k / 2) in
    let w = v ++ (v ++ []) in
    let word : IsWord w = word-append v (v ++ []) (copies_word (k / 2)) (word-append v [] (copies_word (k / 2)) tt) in
    let long : length w ≡ k = omega (arith, length-append v (v ++ []), length-append v [], copies_length (k / 2), even_half k e) in
    found Halves k w v word (copies_word (k / 2)) refl refl
    (ap (λ (b : Bool). Some (Truth (b && true))) ((bytes_decides w w).1 refl)) (length_holds w k long)

pub some : (block : Block) (k : ℕ) → has_values block k ≡ true → HasValues (terms_of block k)
some Power k e = power_some k
some Odd k e = cc
some Halves k e = halves_some k e
some Escaped k e = cc

-- none of the assertions is opaque
first_clear : (block : Block) (k : ℕ) → is_opaque (raw (first block k)) ≡ false
first_clear Power k = fold-raw Bool opaque_step (first Power k)
first_clear Odd k = fold-raw Bool opaque_step (first Odd k)
first_clear Halves k = fold-raw Bool opaque_step (first Halves k)
first_clear Escaped k = fold-raw Bool opaque_step (first Escaped k)

second_clear : (block : Block) (k : ℕ) → is_opaque (raw (second block k)) ≡ false
second_clear Power k = fold-raw Bool opaque_step (second Power k)
second_clear Odd k = fold-raw Bool opaque_step (second Odd k)
second_clear Halves k = fold-raw Bool opaque_step (second Halves k)
second_clear Escaped k = fold-raw Bool opaque_step (second Escaped k)

two_clear : (a b : Term) → is_opaque a ≡ false → is_opaque b ≡ false → clear_of (a ∷ b ∷ []) ≡ a ∷ b ∷ []
two_clear a b h g =
    ap (λ (c : Bool). cond (not c) (a ∷ cond (not (is_opaque b)) (b ∷ []) []) (cond (not (is_opaque b)) (b ∷ []) [])) h
    ∙ ap (λ (c : Bool). a ∷ cond (not c) (b ∷ []) []) g

two_opaque : (a b : Term) → is_opaque a ≡ false → is_opaque b ≡ false → opaque_of (a ∷ b ∷ []) ≡ []
two_opaque a b h g =
    ap (λ (c : Bool). cond c (a ∷ cond (is_opaque b) (b ∷ []) []) (cond (is_opaque b) (b ∷ []) [])) h
    ∙ ap (λ (c : Bool). cond c (b ∷ []) []) g

pub clear : (block : Block) (k : ℕ) → clear_of (terms_of block k) ≡ terms_of block k
clear block k = two_clear (raw (first block k)) (raw (second block k)) (first_clear block k) (second_clear block k)

pub not_opaque : (block : Block) (k : ℕ) → opaque_of (terms_of block k) ≡ []
not_opaque block k = two_opaque (raw (first block k)) (raw (second block k)) (first_clear block k) (second_clear block k)
