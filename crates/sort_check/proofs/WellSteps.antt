-- What holds of each of two, of one kind of term, and of lists.
use Rattle.std.proofs.Common.{List, [], ◌∷◌, ◌++◌, Option, Some, None, Result}
use Rattle.sv_terms.specs.declared.entry.Body.{Body}
use Rattle.smt_names.specs.declared.check_fault.CheckFault.{CheckFault}
use Rattle.smt_names.specs.declared.opening.Opening.{Opening}
use Rattle.smt_names.specs.declared.opening.Opening.TheVariants.{Let, Quantifier, Annotation, Identifier, Application}
use Rattle.smt_names.specs.Giving.{Gives, Maybe}
use Rattle.term_walk.specs.Meant.{mapped, or_else, variable_or}
use Rattle.smt_names.specs.Tokens.{chosen}
use Rattle.sort_check.proofs.WellTerms.{Each}

module _ {A : Type 0} (P : A → Type 0) where
  pub else-maybe : (o p : Option A) → Maybe P o → Maybe P p → Maybe P (or_else o p)
  else-maybe (Some x) p h g = h
  else-maybe None p h g = g

  pub each-append : (xs ys : List A) → Each P xs → Each P ys → Each P (xs ++ ys)
  each-append [] ys h g = g
  each-append (x ∷ xs) ys h g = (h.0, each-append xs ys h.1 g)

  pub one-of : (o : Opening) (a b c d e : Result A CheckFault) → Gives P a → Gives P b → Gives P c → Gives P d → Gives P e → Gives P (chosen o a b c d e)
  one-of Let a b c d e h i j k l = h
  one-of Quantifier a b c d e h i j k l = i
  one-of Annotation a b c d e h i j k l = j
  one-of Identifier a b c d e h i j k l = k
  one-of Application a b c d e h i j k l = l

pub variable-gives : (P : Body → Type 0) (o : Option Body) (r : Result Body CheckFault) → Maybe P o → Gives P r → Gives P (variable_or o r)
variable-gives P (Some x) r h g = h
variable-gives P None r h g = g

module _ {A B : Type 0} (P : A → Type 0) (Q : B → Type 0) where
  pub mapped-maybe : (f : A → B) (o : Option A) → Maybe P o → ((x : A) → P x → Q (f x)) → Maybe Q (mapped f o)
  mapped-maybe f (Some x) h k = k x h
  mapped-maybe f None h k = tt

module _ {A : Type 0} (P Q R : A → Type 0) where
  pub each-both : (xs : List A) → Each P xs → Each Q xs → ((x : A) → P x → Q x → R x) → Each R xs
  each-both [] h g k = tt
  each-both (x ∷ xs) h g k = (k x h.0 g.0, each-both xs h.1 g.1 k)
