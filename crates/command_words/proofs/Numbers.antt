-- The numbers of texts.
use Rattle.std.proofs.Common.{◌==◌, ◌&&◌, [], length, ◌≡◌, ◌⊎◌, inl, inr, ◌∙◌, ap, sym, ℕ, List, Bool, true, false, Some, None, refl, if◌then◌else◌}
use Rattle.std.specs.declared.option.Option.{Option}
use Rattle.std.specs.Str.Parse.{digits_value, without_leading_plus}
use Rattle.clap.specs.Values.{IsUnsignedIn}
use Rattle.clap.specs.ValueTests.{is_unsigned_in}
use Rattle.clap.specs.declared.builder.value_parser.ValueParser.TheVariants.{Unsigned}
use Rattle.clap.proofs.ValueTestLemmas.{accepts-Accepts, Accepts-accepts}
use Rattle.command_words.specs.Words.{number_in}

pub taken : (least most : ℕ) (text : List ℕ) (n : ℕ) → IsUnsignedIn least most text → n ≡ digits_value 10 (without_leading_plus text) → Some n ≡ number_in least most text
unfolding number_in
taken least most text n is value =
    ap (λ (k : ℕ). Some k) value ∙ ap (λ (b : Bool). if b then Some (digits_value 10 (without_leading_plus text)) else None) (sym (Accepts-accepts false (Unsigned least most) text is))

missed_at : (b : Bool) (v : Option ℕ) → b ≡ false → None ≡ (if b then v else None)
missed_at b v off = rw off refl

pub missed : (least most : ℕ) (text : List ℕ) → (IsUnsignedIn least most text → ⊥) → None ≡ number_in least most text
unfolding number_in
missed least most text not_in = elim (cases_bool (is_unsigned_in least most text)) [
  | inl on ↦ absurd (not_in (accepts-Accepts false (Unsigned least most) text on))
  | inr off ↦ missed_at _ _ off
]
  where
    cases_bool : (b : Bool) → (b ≡ true) ⊎ (b ≡ false)
    cases_bool true = inl refl
    cases_bool false = inr refl

pub all_right : {K : Type 0} (f : List K) (a b d : Bool) → f ≡ [] → a ≡ true → b ≡ true → d ≡ true → (length f == 0 && (a && (b && d))) ≡ true
all_right f a b d none is_a is_b is_d = rw (none, is_a, is_b, is_d) refl

pub second_wrong : (a b d e : Bool) → d ≡ false → (a && (b && (d && e))) ≡ false
second_wrong true true d e wrong = rw wrong refl
second_wrong true false d e wrong = refl
second_wrong false b d e wrong = refl
