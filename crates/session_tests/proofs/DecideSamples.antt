-- Terms of the tests, built up.
use Rattle.std.proofs.Common.{◌≡◌, ap, ◌∙◌, ℕ, Bool, true, ◌&&◌, IsTrue, List, [], ◌∷◌, Some, nat_eq}
use Rattle.std.specs.Map.{lookup}
use Rattle.std.specs.Cmp.Lexicographic.{pointwise}
use Rattle.std.specs.List.{AllByRecursion}
use Rattle.std.proofs.lemmas.List.Elements.{All-from_recursion}
use Rattle.sv_terms.specs.Language.{Word}
use Rattle.sv_terms.specs.Meaning.{all_of}
use Rattle.sv_terms.specs.Sorting.{applied_sort_if, is_of, is_valued, sort_of, sort_step, tested_sort}
use Rattle.sv_terms.specs.TransducerSizes.{is_formed, has_formed}
use Rattle.sv_terms.specs.declared.op.Op.{Op}
use Rattle.sv_terms.specs.declared.regex.Regex.{Regex}
use Rattle.sv_terms.specs.declared.sort.Sort.{Sort}
use Rattle.sv_terms.specs.declared.sort.Sort.TheVariants as sort
use Rattle.sv_terms.specs.declared.term.Term.{Term}
use Rattle.sv_terms.specs.declared.term.Term.TheVariants as v
use Rattle.sv_terms.specs.declared.term.Term.TheOpen.{Term-F}
use Rattle.assertion_parts.specs.Constants.{ConstantsHaveOneSort}
use Rattle.decide.specs.Samples.{IsSample, sample}
use Rattle.assertion_parts.proofs.Terms.{at, every-Apply, every-Constant, every-InRe, every-Text}

abbrev of_any : List ℕ → Sort → Bool
of_any n s = true

abbrev has_value : List ℕ → Sort → Bool
has_value n s = is_of s (lookup (pointwise nat_eq n) sample)

pub constant-sample : (n : List ℕ) → n ≡ 120 ∷ [] → IsSample sort.String (v.Constant n sort.String)
constant-sample n e = record {
  sorted = at sort_step _ (Term-F.Constant n sort.String) (v.rolls-Constant n sort.String);
  formed = every-Constant of_any is_formed n sort.String;
  valued = every-Constant has_value (λ t. true) n sort.String ∙ ap (λ m. has_value m sort.String) e;
}

pub text-sample : (w : Word) → IsSample sort.String (v.Text w)
text-sample w = record {
  sorted = at sort_step _ (Term-F.Text w) (v.rolls-Text w);
  formed = every-Text of_any is_formed w;
  valued = every-Text has_value (λ t. true) w;
}

-- a function of two terms of this sort has the sort of its rank
pub pair-sample : (o : Op) (s r : Sort) (a b : Term) → applied_sort_if o (Some (s ∷ s ∷ [])) ≡ Some r → IsSample s a → IsSample s b → IsSample r (v.Apply o (a ∷ b ∷ []))
pair-sample o s r a b rank x y = record {
  sorted = at sort_step _ (Term-F.Apply o (a ∷ b ∷ [])) (v.rolls-Apply o (a ∷ b ∷ [])) ∙ (λ i. applied_sort_if o (all_of (x.sorted i ∷ y.sorted i ∷ []))) ∙ rank;
  formed = every-Apply of_any is_formed o (a ∷ b ∷ []) ∙ (λ i. x.formed i && (y.formed i && true));
  valued = every-Apply has_value (λ t. true) o (a ∷ b ∷ []) ∙ (λ i. x.valued i && (y.valued i && true));
}

pub member-sample : (a : Term) (r : Regex) → IsSample sort.String a → IsSample sort.Bool (v.InRe a r)
member-sample a r x = record {
  sorted = at sort_step _ (Term-F.InRe a r) (v.rolls-InRe a r) ∙ ap tested_sort x.sorted;
  formed = every-InRe of_any is_formed a r ∙ x.formed;
  valued = every-InRe has_value (λ t. true) a r ∙ x.valued;
}

module _ (a b : Term) (x : IsSample sort.Bool a) (y : IsSample sort.Bool b) where
  pub two-sorted : AllByRecursion (λ t. sort_of t ≡ Some sort.Bool) (a ∷ b ∷ [])
  two-sorted = (x.sorted, (y.sorted, tt))

  pub two-formed : AllByRecursion (λ t. IsTrue (has_formed t)) (a ∷ b ∷ [])
  two-formed = (x.formed, (y.formed, tt))

  pub two-valued : ConstantsHaveOneSort (a ∷ b ∷ [])
  two-valued = (sample, All-from_recursion (λ t. IsTrue (is_valued sample t)) (a ∷ b ∷ []) (x.valued, (y.valued, tt)))
