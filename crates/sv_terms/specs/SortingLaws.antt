-- The sorts of terms by their heads, and what an application comes to.
use Rattle.std.proofs.Common.{◌≡◌, sym, ap, ◌∙◌, ℕ, ℤ, Bool, List, map, Option}
use Rattle.std.specs.List.{list_all}
use Rattle.sv_terms.specs.declared.op.Op.{Op}
use Rattle.sv_terms.specs.declared.regex.Regex.{Regex}
use Rattle.sv_terms.specs.declared.sort.Sort.{Sort}
use Rattle.sv_terms.specs.declared.sort.Sort.TheVariants as sort
use Rattle.sv_terms.specs.declared.term.Term.{Term, roll-Term}
use Rattle.sv_terms.specs.declared.term.Term.TheVariants as term
use Rattle.sv_terms.specs.declared.term.Term.TheOpen.{Term-F}
use Rattle.sv_terms.specs.declared.term.Term.TheFolds.{fold-Term, fold-roll-Term, map-Term}
use Rattle.sv_terms.specs.declared.transducer.Transducer.{Transducer}
use Rattle.sv_terms.specs.declared.value.Value.{Value}
use Rattle.sv_terms.specs.Meaning.{Named, all_of, applied_if, val, val_step}
use Rattle.sv_terms.specs.Sorting.{op_sort, layer_sort, head_sort, valued_step, is_valued}

-- a fold at a layer
pub fold-at : (X : Type 0) (step : Term-F X → X) (t : Term) (x : Term-F Term) → roll-Term x ≡ t → fold-Term X step t ≡ step (map-Term Term X (fold-Term X step) x)
fold-at X step t x e = ap (fold-Term X step) (sym e) ∙ fold-roll-Term X step x

pub sort-Truth : (b : Bool) → head_sort (term.Truth b) ≡ sort.Bool
sort-Truth b = fold-at Sort layer_sort _ (Term-F.Truth b) (term.rolls-Truth b)

pub sort-Number : (n : ℤ) → head_sort (term.Number n) ≡ sort.Int
sort-Number n = fold-at Sort layer_sort _ (Term-F.Number n) (term.rolls-Number n)

pub sort-Text : (w : List ℕ) → head_sort (term.Text w) ≡ sort.String
sort-Text w = fold-at Sort layer_sort _ (Term-F.Text w) (term.rolls-Text w)

pub sort-Constant : (n : List ℕ) (s : Sort) → head_sort (term.Constant n s) ≡ s
sort-Constant n s = fold-at Sort layer_sort _ (Term-F.Constant n s) (term.rolls-Constant n s)

pub sort-Apply : (o : Op) (ts : List Term) → head_sort (term.Apply o ts) ≡ op_sort o
sort-Apply o ts = fold-at Sort layer_sort _ (Term-F.Apply o ts) (term.rolls-Apply o ts)

pub sort-InRe : (t : Term) (r : Regex) → head_sort (term.InRe t r) ≡ sort.Bool
sort-InRe t r = fold-at Sort layer_sort _ (Term-F.InRe t r) (term.rolls-InRe t r)

pub sort-Related : (m : Transducer) (t u : Term) → head_sort (term.Related m t u) ≡ sort.Bool
sort-Related m t u = fold-at Sort layer_sort _ (Term-F.Related m t u) (term.rolls-Related m t u)

pub sort-Opaque : (s : Sort) → head_sort (term.Opaque s) ≡ s
sort-Opaque s = fold-at Sort layer_sort _ (Term-F.Opaque s) (term.rolls-Opaque s)

pub ruleset sorts = (sort-Truth, sort-Number, sort-Text, sort-Constant, sort-Apply, sort-InRe, sort-Related, sort-Opaque)

module _ (values : Named) where
  pub val-apply : (o : Op) (ts : List Term) → val values (term.Apply o ts) ≡ applied_if o (all_of (map (val values) ts))
  val-apply o ts = fold-at (Option Value) (val_step values) _ (Term-F.Apply o ts) (term.rolls-Apply o ts)

  pub valued-apply : (o : Op) (ts : List Term) → is_valued values (term.Apply o ts) ≡ list_all (λ b. b) (map (is_valued values) ts)
  valued-apply o ts = fold-at Bool (valued_step values) _ (Term-F.Apply o ts) (term.rolls-Apply o ts)
