-- Assertions are all true exactly where some cube of them is.
use Rattle.std.proofs.Common.{◌≡◌, sym, ap, ◌∙◌, subst, Bool, true, false, ℕ, zero, suc, ◌<◌, length, List, [], ◌∷◌, Some, arith}
use Rattle.std.specs.Prelude.{slice_index_or}
use Rattle.std.specs.List.{AllByRecursion}
use Rattle.sv_terms.specs.Meaning.{Named, val}
use Rattle.sv_terms.specs.Truth.{AllTrue}
use Rattle.sv_terms.specs.declared.sort.Sort.TheVariants as sort
use Rattle.sv_terms.specs.declared.term.Term.{Term}
use Rattle.sv_terms.specs.declared.value.Value.{Value}
use Rattle.sv_terms.specs.declared.value.Value.TheVariants.{Truth, Number, Text}
use Rattle.sv_terms.specs.Sorting.{kind}
use Rattle.bool_cubes.specs.Cubes.{TreeTrue}
use Rattle.bool_cubes.specs.Laws.{IsAssertion, CubesAreExact}
use Rattle.literal_forms.specs.Shapes.{seen, raw}
use Rattle.bool_cubes.specs.Trees.{formula, tree_of}
use Rattle.bool_cubes.proofs.Choosing.{cubes_true}
use Rattle.bool_cubes.proofs.Deciding.{Decides}
use Rattle.bool_cubes.proofs.Meanings.{IsGood, Valued, decided}
use Rattle.literal_forms.specs.Mirrors.{raw-seen}

module _ (values : Named) (law : Valued values) where
  decided_term : (t : Term) → IsAssertion values t → (b : Bool) → val values t ≡ Some (Truth b) → Decides values (formula (seen t)) b
  decided_term t a b e =
      let q : raw (seen t) ≡ t = raw-seen t in
      let g : IsGood values (raw (seen t)) sort.Bool = subst (λ z. IsGood values z sort.Bool) (sym q) (record { sorted = a.sorted; valued = a.valued; clear = a.clear }) in
      decided values law (seen t) sort.Bool g b (ap (val values) q ∙ e)

  holds : (t : Term) → IsAssertion values t → val values t ≡ Some (Truth true) → TreeTrue values (formula (seen t) true)
  holds t a e = (decided_term t a true e).holds

  back : (t : Term) → IsAssertion values t → TreeTrue values (formula (seen t) true) → val values t ≡ Some (Truth true)
  back t a h = let v = law t sort.Bool a.sorted a.valued a.clear in by_value v.0 v.1 v.2
    where
      by_value : (v : Value) → val values t ≡ Some v → kind v ≡ sort.Bool → val values t ≡ Some (Truth true)
      by_value (Truth true) e k = e
      by_value (Truth false) e k = absurd ((decided_term t a false e).fails h)
      by_value (Number n) e k = absurd (cc)
      by_value (Text w) e k = absurd (cc)

  all_holds : (ts : List Term) → AllByRecursion (IsAssertion values) ts → AllTrue values ts → TreeTrue values (tree_of ts)
  all_holds [] a h = tt
  all_holds (t ∷ ts) a h = (holds t a.0 (h 0 t (omega arith)), all_holds ts a.1 (λ k d l. h (suc k) d (omega arith)))

  all_first : (t : Term) (ts : List Term) → val values t ≡ Some (Truth true) → AllTrue values ts → (k : ℕ) (d : Term) → k < length (t ∷ ts) → val values (slice_index_or (t ∷ ts) k d) ≡ Some (Truth true)
  all_first t ts e h zero d l = e
  all_first t ts e h (suc k) d l = h k d (omega arith)

  all_back : (ts : List Term) → AllByRecursion (IsAssertion values) ts → TreeTrue values (tree_of ts) → AllTrue values ts
  all_back [] a h = λ k d l. absurd (omega arith)
  all_back (t ∷ ts) a h = all_first t ts (back t a.0 h.0) (all_back ts a.1 h.1)

pub cubes_exact : ((values : Named) → Valued values) → CubesAreExact
cubes_exact law values ts a = (
  λ h. (cubes_true values ts).1 (all_holds values (law values) ts a h),
  λ h. all_back values (law values) ts a ((cubes_true values ts).0 h),
)
