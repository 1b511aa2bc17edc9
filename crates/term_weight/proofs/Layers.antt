-- The names that terms are alone, and the weights of macros' bodies, layer by layer.
use Rattle.std.proofs.Common.{◌≡◌, ℕ, ℤ, Bool, List, map, Option, Some, None}
use Rattle.sv_terms.specs.declared.regex.Regex.{Regex}
use Rattle.sv_terms.specs.declared.op.Op.{Op}
use Rattle.sv_terms.specs.declared.sort.Sort.{Sort}
use Rattle.sv_terms.specs.declared.sort.Sort.TheVariants as sort
use Rattle.sv_terms.specs.declared.term.Term.{Term, roll-Term}
use Rattle.sv_terms.specs.declared.term.Term.TheVariants as term
use Rattle.sv_terms.specs.declared.term.Term.TheOpen.{Term-F}
use Rattle.sv_terms.specs.declared.term.Term.TheFolds.{fold-Term, map-Term}
use Rattle.sv_terms.specs.declared.transducer.Transducer.{Transducer}
use Rattle.sv_terms.specs.SortingLaws.{fold-at}
use Rattle.term_weight.specs.declared.weight.Factor.TheVariants.{Literal, Known}
use Rattle.term_weight.specs.declared.weight.Weight.{Weight}
use Rattle.term_weight.specs.Places.{layer_name, name_alone}
use Rattle.smt_names.specs.Signature.{Name}
use Rattle.term_weight.specs.Weights.{leaf, opaque_weight, regex_weight, as_term, op_weight, in_weight, related_weight, weigh_layer, weighed, or_leaf}

name-at : (t : Term) (x : Term-F Term) → roll-Term x ≡ t → name_alone t ≡ layer_name (map-Term Term (Option Name) (fold-Term (Option Name) layer_name) x)
name-at t x e = fold-at (Option Name) layer_name t x e

pub name-Truth : (b : Bool) → name_alone (term.Truth b) ≡ None
name-Truth b = name-at _ (Term-F.Truth b) (term.rolls-Truth b)

pub name-Number : (n : ℤ) → name_alone (term.Number n) ≡ None
name-Number n = name-at _ (Term-F.Number n) (term.rolls-Number n)

pub name-Text : (w : List ℕ) → name_alone (term.Text w) ≡ None
name-Text w = name-at _ (Term-F.Text w) (term.rolls-Text w)

pub name-Constant : (n : Name) (s : Sort) → name_alone (term.Constant n s) ≡ Some n
name-Constant n s = name-at _ (Term-F.Constant n s) (term.rolls-Constant n s)

pub name-Apply : (o : Op) (ts : List Term) → name_alone (term.Apply o ts) ≡ None
name-Apply o ts = name-at _ (Term-F.Apply o ts) (term.rolls-Apply o ts)

pub name-InRe : (t : Term) (r : Regex) → name_alone (term.InRe t r) ≡ None
name-InRe t r = name-at _ (Term-F.InRe t r) (term.rolls-InRe t r)

pub name-Related : (m : Transducer) (t u : Term) → name_alone (term.Related m t u) ≡ None
name-Related m t u = name-at _ (Term-F.Related m t u) (term.rolls-Related m t u)

pub name-Opaque : (s : Sort) → name_alone (term.Opaque s) ≡ None
name-Opaque s = name-at _ (Term-F.Opaque s) (term.rolls-Opaque s)

pub ruleset names = (name-Truth, name-Number, name-Text, name-Constant, name-Apply, name-InRe, name-Related, name-Opaque)

-- macros' bodies
weighed-at : (known : List ℕ → Option Weight) (t : Term) (x : Term-F Term) → roll-Term x ≡ t → weighed known t ≡ weigh_layer known (map-Term Term Weight (weighed known) x)
weighed-at known t x e = fold-at Weight (weigh_layer known) t x e

module _ (known : List ℕ → Option Weight) where
  pub weighed-Truth : (b : Bool) → weighed known (term.Truth b) ≡ leaf sort.Bool Known
  weighed-Truth b = weighed-at known _ (Term-F.Truth b) (term.rolls-Truth b)

  pub weighed-Number : (n : ℤ) → weighed known (term.Number n) ≡ leaf sort.Int Known
  weighed-Number n = weighed-at known _ (Term-F.Number n) (term.rolls-Number n)

  pub weighed-Text : (w : List ℕ) → weighed known (term.Text w) ≡ leaf sort.String Literal
  weighed-Text w = weighed-at known _ (Term-F.Text w) (term.rolls-Text w)

  pub weighed-Constant : (n : List ℕ) (s : Sort) → weighed known (term.Constant n s) ≡ or_leaf s (known n)
  weighed-Constant n s = weighed-at known _ (Term-F.Constant n s) (term.rolls-Constant n s)

  pub weighed-Apply : (o : Op) (ts : List Term) → weighed known (term.Apply o ts) ≡ op_weight o (map as_term (map (weighed known) ts))
  weighed-Apply o ts = weighed-at known _ (Term-F.Apply o ts) (term.rolls-Apply o ts)

  pub weighed-InRe : (t : Term) (r : Regex) → weighed known (term.InRe t r) ≡ in_weight (as_term (weighed known t)) (regex_weight r)
  weighed-InRe t r = weighed-at known _ (Term-F.InRe t r) (term.rolls-InRe t r)

  pub weighed-Related : (m : Transducer) (t u : Term) → weighed known (term.Related m t u) ≡ related_weight (as_term (weighed known t)) (as_term (weighed known u))
  weighed-Related m t u = weighed-at known _ (Term-F.Related m t u) (term.rolls-Related m t u)

  pub weighed-Opaque : (s : Sort) → weighed known (term.Opaque s) ≡ opaque_weight s
  weighed-Opaque s = weighed-at known _ (Term-F.Opaque s) (term.rolls-Opaque s)
