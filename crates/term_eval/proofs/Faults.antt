-- What evaluation tells is what is meant.
use Rattle.std.proofs.Common.{◌≡◌, refl, sym, ap, ◌∙◌, subst, Bool, true, false, IsTrue, ◌↔◌, Option, Some, None, Ok, Err, if◌then◌else◌, IsSome}
use Rattle.sv_terms.specs.Meaning.{Named, val}
use Rattle.sv_terms.specs.Parts.{is_opaque}
use Rattle.sv_terms.specs.Sorting.{is_valued, sort_of}
use Rattle.sv_terms.specs.declared.sort.Sort.{Sort}
use Rattle.sv_terms.specs.declared.term.Term.{Term}
use Rattle.sv_terms.specs.declared.value.Value.{Value}
use Rattle.sv_terms.proofs.ValueSorts.{val-sort}
use Rattle.term_eval.specs.declared.fault.EvalFault.TheVariants.{Opaque}
use Rattle.term_eval.specs.Evaluation.{evaluated, value_or_fault}
use Rattle.term_eval.proofs.Evaluating.{Agrees, evaluated-agrees, meant}

pub value-meant : (values : Named) (t : Term) (v : Value) → value_or_fault values t ≡ Ok v → val values t ≡ Some v
value-meant values t v e = by (is_opaque t) refl
  where
    by : (b : Bool) → is_opaque t ≡ b → val values t ≡ Some v
    by true q = let f : Err Opaque ≡ Ok v = sym (ap (λ c. if c then Err Opaque else evaluated values t) q) ∙ e in absurd (cc)
    by false q = meant values t (Ok v) (sym (ap (λ c. if c then Err Opaque else evaluated values t) q) ∙ e)

sort-there : (o : Option Sort) → IsSome o → (s : Sort) × (o ≡ Some s)
sort-there None h = absurd (cc)
sort-there (Some s) h = (s, refl)

pub opaque-told : (values : Named) (t : Term) → IsSome (sort_of t) → IsTrue (is_valued values t) → value_or_fault values t ≡ Err Opaque ↔ IsTrue (is_opaque t)
opaque-told values t h g = (λ e. by e (is_opaque t) refl, λ q. ap (λ c. if c then Err Opaque else evaluated values t) q)
  where
    by : value_or_fault values t ≡ Err Opaque → (b : Bool) → is_opaque t ≡ b → IsTrue (is_opaque t)
    by e true q = q
    by e false q =
        let s = sort-there (sort_of t) h in
        let some = val-sort values t s.0 s.1 g q in
        let fault : evaluated values t ≡ Err Opaque = sym (ap (λ c. if c then Err Opaque else evaluated values t) q) ∙ e in
        let none : val values t ≡ None = subst (λ r. Agrees r (val values t)) fault (evaluated-agrees values t) in
        absurd (let f : Some some.0 ≡ None = sym some.1 ∙ none in cc)
