-- Steps among others: what holds of one of them, and a fault that goes on.
use Rattle.std.proofs.Common.{ℤ, List, [], ◌∷◌, ◌++◌, ◌⊎◌, inl, inr}
use Rattle.std.specs.Prelude.{Err}
use Rattle.sv_linear.specs.declared.fault.FormFault.{FormFault}
use Rattle.sv_linear.specs.declared.fault.FormFault.TheVariants.{Past, Memory}
use Rattle.literal_forms.specs.Linear.{Step}
use Rattle.literal_forms.specs.Literals.{SomeOf}
use Rattle.literal_forms.specs.Past.{IsPast, IsPlainExactly}

module _ {X : Type 0} (P : X → Type 0) where
  pub some_left : (xs ys : List X) → SomeOf P xs → SomeOf P (xs ++ ys)
  some_left [] ys h = absurd h
  some_left (x ∷ xs) ys (inl h) = inl h
  some_left (x ∷ xs) ys (inr h) = inr (some_left xs ys h)

  pub some_right : (xs ys : List X) → SomeOf P ys → SomeOf P (xs ++ ys)
  some_right [] ys h = h
  some_right (x ∷ xs) ys h = inr (some_right xs ys h)

  pub some_cases : (xs ys : List X) → SomeOf P (xs ++ ys) → SomeOf P xs ⊎ SomeOf P ys
  some_cases [] ys h = inr h
  some_cases (x ∷ xs) ys (inl h) = inl (inl h)
  some_cases (x ∷ xs) ys (inr h) = elim (some_cases xs ys h) [ inl a ↦ inl (inr a) | inr b ↦ inr b ]

-- a fault goes on where its steps are among others
pub err_kept : (X Y : Type 0) (ss ts : List Step) (e : FormFault) → ((l r : ℤ) → SomeOf (IsPast l r) ss → SomeOf (IsPast l r) ts) → IsPlainExactly {X = X} ss (Err e) → IsPlainExactly {X = Y} ts (Err e)
err_kept X Y ss ts (Past l r) h p = h l r p
err_kept X Y ss ts (Memory e) h p = tt
