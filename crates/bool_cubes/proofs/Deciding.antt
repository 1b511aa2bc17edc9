-- A formula and its negation at values: one of the two is true.
use Rattle.std.proofs.Common.{◌≡◌, refl, sym, ◌∙◌, subst, Bool, true, false, not, ◌&&◌, ◌||◌, List, [], ◌∷◌, inl, inr, Some}
use Rattle.std.specs.Prelude.{if◌then◌else◌}
use Rattle.std.specs.List.{list_all, list_any, AllZip}
use Rattle.sv_terms.specs.Meaning.{Named, val, same_truth, exclusive_from, exclusive as exclusive_value, implied as implied_value}
use Rattle.sv_terms.specs.declared.term.Term.{Term}
use Rattle.sv_terms.specs.declared.value.Value.TheVariants.{Truth}
use Rattle.bool_cubes.specs.Trees.{Formula, fixed, atom, negated, conjunction, disjunction, agreement, implication, choice, exclusive, exclusive_from as tree_exclusive_from, implied}
use Rattle.bool_cubes.specs.Cubes.{TreeTrue}

module _ (values : Named) where
  -- the formula has this truth value: its tree for that one is true, and the other one isn't
  pub record Decides (f : Formula) (b : Bool) : Type 0 where
    pub holds : TreeTrue values (f b)
    pub fails : TreeTrue values (f (not b)) → ⊥

  pub dec_truth : (b : Bool) → Decides (fixed b) b
  dec_truth true = record { holds = tt; fails = λ h. h }
  dec_truth false = record { holds = tt; fails = λ h. h }

  pub dec_not : (f : Formula) (b : Bool) → Decides f b → Decides (negated f) (not b)
  dec_not f true d = record { holds = d.holds; fails = d.fails }
  dec_not f false d = record { holds = d.holds; fails = d.fails }

  apart : (b : Bool) (t : Term) → val values t ≡ Some (Truth b) → val values t ≡ Some (Truth (not b)) → ⊥
  apart true t e f = let g : Some (Truth true) ≡ Some (Truth false) = sym e ∙ f in cc
  apart false t e f = let g : Some (Truth false) ≡ Some (Truth true) = sym e ∙ f in cc

  pub dec_atom : (t : Term) (b : Bool) → val values t ≡ Some (Truth b) → Decides (atom t) b
  dec_atom t b e = record { holds = e; fails = apart b t e }

  dec_and : (f : Formula) (fs : List Formula) (a b : Bool) → Decides f a → Decides (conjunction fs) b → Decides (conjunction (f ∷ fs)) (a && b)
  dec_and f fs true true d e = record { holds = (d.holds, e.holds); fails = λ h. elim h [ inl x ↦ d.fails x | inr y ↦ e.fails y ] }
  dec_and f fs true false d e = record { holds = inr e.holds; fails = λ h. e.fails h.1 }
  dec_and f fs false true d e = record { holds = inl d.holds; fails = λ h. d.fails h.0 }
  dec_and f fs false false d e = record { holds = inl d.holds; fails = λ h. d.fails h.0 }

  dec_or : (f : Formula) (fs : List Formula) (a b : Bool) → Decides f a → Decides (disjunction fs) b → Decides (disjunction (f ∷ fs)) (a || b)
  dec_or f fs true true d e = record { holds = inl d.holds; fails = λ h. d.fails h.0 }
  dec_or f fs true false d e = record { holds = inl d.holds; fails = λ h. d.fails h.0 }
  dec_or f fs false true d e = record { holds = inr e.holds; fails = λ h. e.fails h.1 }
  dec_or f fs false false d e = record { holds = (d.holds, e.holds); fails = λ h. elim h [ inl x ↦ d.fails x | inr y ↦ e.fails y ] }

  pub dec_all : (fs : List Formula) (bs : List Bool) → AllZip Decides fs bs → Decides (conjunction fs) (list_all (λ b. b) bs)
  dec_all [] [] z = record { holds = tt; fails = λ h. h }
  dec_all [] (b ∷ bs) z = absurd z
  dec_all (f ∷ fs) [] z = absurd z
  dec_all (f ∷ fs) (b ∷ bs) z = dec_and f fs b (list_all (λ c. c) bs) z.0 (dec_all fs bs z.1)

  pub dec_any : (fs : List Formula) (bs : List Bool) → AllZip Decides fs bs → Decides (disjunction fs) (list_any (λ b. b) bs)
  dec_any [] [] z = record { holds = tt; fails = λ h. h }
  dec_any [] (b ∷ bs) z = absurd z
  dec_any (f ∷ fs) [] z = absurd z
  dec_any (f ∷ fs) (b ∷ bs) z = dec_or f fs b (list_any (λ c. c) bs) z.0 (dec_any fs bs z.1)

  pub dec_same : (f g : Formula) (a b : Bool) → Decides f a → Decides g b → Decides (agreement f g) (same_truth a b)
  dec_same f g true true d e = record { holds = inl (d.holds, e.holds); fails = λ h. elim h [ inl x ↦ e.fails x.1 | inr y ↦ d.fails y.0 ] }
  dec_same f g true false d e = record { holds = inl (d.holds, e.holds); fails = λ h. elim h [ inl x ↦ e.fails x.1 | inr y ↦ d.fails y.0 ] }
  dec_same f g false true d e = record { holds = inr (d.holds, e.holds); fails = λ h. elim h [ inl x ↦ d.fails x.0 | inr y ↦ e.fails y.1 ] }
  dec_same f g false false d e = record { holds = inr (d.holds, e.holds); fails = λ h. elim h [ inl x ↦ d.fails x.0 | inr y ↦ e.fails y.1 ] }

  pub dec_choice : (c f g : Formula) (a x y : Bool) → Decides c a → Decides f x → Decides g y → Decides (choice c f g) (if a then x else y)
  dec_choice c f g true x y d e k = record { holds = inl (d.holds, e.holds); fails = λ h. elim h [ inl p ↦ e.fails p.1 | inr q ↦ d.fails q.0 ] }
  dec_choice c f g false x y d e k = record { holds = inr (d.holds, k.holds); fails = λ h. elim h [ inl p ↦ d.fails p.0 | inr q ↦ k.fails q.1 ] }

  pub dec_exclusive_from : (f : Formula) (a : Bool) (fs : List Formula) (bs : List Bool) → Decides f a → AllZip Decides fs bs → Decides (tree_exclusive_from f fs) (exclusive_from a bs)
  dec_exclusive_from f a [] [] d z = d
  dec_exclusive_from f a [] (b ∷ bs) d z = absurd z
  dec_exclusive_from f a (g ∷ gs) [] d z = absurd z
  dec_exclusive_from f a (g ∷ gs) (b ∷ bs) d z = dec_exclusive_from (negated (agreement f g)) (not (same_truth a b)) gs bs (dec_not (agreement f g) (same_truth a b) (dec_same f g a b d z.0)) z.1

  pub dec_exclusive : (fs : List Formula) (bs : List Bool) → AllZip Decides fs bs → Decides (exclusive fs) (exclusive_value bs)
  dec_exclusive [] [] z = dec_truth false
  dec_exclusive [] (b ∷ bs) z = absurd z
  dec_exclusive (f ∷ fs) [] z = absurd z
  dec_exclusive (f ∷ fs) (b ∷ bs) z = dec_exclusive_from f b fs bs z.0 z.1

  or_false : (f : Formula) (a : Bool) → a || (false) ≡ a
  or_false f true = refl
  or_false f false = refl

  dec_implication : (f g : Formula) (a b : Bool) → Decides f a → Decides g b → Decides (implication f g) (not a || b)
  dec_implication f g a b d e =
      subst (λ c. Decides (implication f g) (not a || c)) (or_false g b)
      (dec_any (negated f ∷ g ∷ []) (not a ∷ b ∷ []) (dec_not f a d, (e, tt)))

  pub dec_implied : (fs : List Formula) (bs : List Bool) → AllZip Decides fs bs → Decides (implied fs) (implied_value bs)
  dec_implied [] [] z = dec_truth true
  dec_implied [] (b ∷ bs) z = absurd z
  dec_implied (f ∷ fs) [] z = absurd z
  dec_implied (f ∷ []) (b ∷ []) z = z.0
  dec_implied (f ∷ []) (b ∷ c ∷ bs) z = absurd z.1
  dec_implied (f ∷ g ∷ fs) (b ∷ []) z = absurd z.1
  dec_implied (f ∷ g ∷ fs) (b ∷ c ∷ bs) z = dec_implication f (implied (g ∷ fs)) b (implied_value (c ∷ bs)) z.0 (dec_implied (g ∷ fs) (c ∷ bs) z.1)
