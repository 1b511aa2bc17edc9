-- The steps of atoms.
use Rattle.std.proofs.Common.{◌≡◌, refl, sym, ap, ◌∙◌, subst, ℤ, pos, List, [], ◌∷◌, ◌++◌, map, length, get_or, arith}
use Rattle.std.specs.Prelude.{Result, Err}
use Rattle.sv_terms.specs.declared.op.Op.{Op}
use Rattle.sv_terms.specs.declared.sort.Sort.{Sort}
use Rattle.sv_terms.specs.declared.sort.Sort.TheVariants as sort
use Rattle.sv_terms.specs.declared.term.Term.{Term}
use Rattle.sv_terms.specs.declared.term.Term.TheVariants as term
use Rattle.literal_forms.specs.Literals.{SomeOf}
use Rattle.literal_forms.specs.Linear.{Linear, Step, addition, scaling, less, less_steps, linear, minus_one, of_number, scaled, steps}
use Rattle.literal_forms.specs.Numbered.{AreDifferences}
use Rattle.literal_forms.specs.Mirrors.{raw-seen, seen-Apply}
use Rattle.literal_forms.specs.Numbered.{AreNumbered, IsFormOrPast, IsMore, IsNumbered}
use Rattle.literal_forms.specs.Past.{ArePlain, IsPast, IsPlainExactly, atom_steps, comparison_steps, equal_steps, equality_steps, relation_of, relation_steps, two_steps}
use Rattle.literal_forms.specs.Shapes.{Shape, truth, number, text, constant, apply, member, related, opaque, shapes, seen, raw, head_sort}
use Rattle.sv_linear.specs.declared.fault.FormFault.{FormFault}
use Rattle.sv_linear.specs.declared.fault.FormFault.TheVariants.{Past, Memory}
use Rattle.literal_forms.specs.declared.differences.Differences.{Differences}
use Rattle.literal_forms.specs.declared.reading.Relation.{Relation}
use Rattle.literal_forms.specs.declared.reading.Relation.TheVariants as relation
use Rattle.literal_forms.specs.declared.term_form.TermForm.{TermForm}
use Rattle.literal_forms.specs.PastLaws.{some_left, some_right}
use Rattle.literal_forms.proofs.Combined.{plain_join, plain_none}
use Rattle.literal_forms.proofs.Formed.{formed_more}

module _ (s t : Shape) where
  -- the four parts of the steps of an equality
  abbrev first : List Step
  first = steps s ++ steps t

  abbrev third : List Step
  third = less_steps (linear s) (linear t)

  abbrev last : List Step
  last = scaling (less (linear s) (linear t)) minus_one ∷ []

  equality_join : ArePlain (steps s) → ArePlain (steps t) → ArePlain third → ArePlain last → ArePlain (equality_steps s t)
  equality_join p q r u = plain_join (first ++ third) last (plain_join first third (plain_join (steps s) (steps t) p q) r) u

  pub first_past : (l r : ℤ) → SomeOf (IsPast l r) (steps s) → SomeOf (IsPast l r) (equality_steps s t)
  first_past l r h = some_left (IsPast l r) (first ++ third) last (some_left (IsPast l r) first third (some_left (IsPast l r) (steps s) (steps t) h))

  pub second_past : (l r : ℤ) → SomeOf (IsPast l r) (steps t) → SomeOf (IsPast l r) (equality_steps s t)
  second_past l r h = some_left (IsPast l r) (first ++ third) last (some_left (IsPast l r) first third (some_right (IsPast l r) (steps s) (steps t) h))

  third_past : (l r : ℤ) → SomeOf (IsPast l r) third → SomeOf (IsPast l r) (equality_steps s t)
  third_past l r h = some_left (IsPast l r) (first ++ third) last (some_right (IsPast l r) first third h)

  last_past : (l r : ℤ) → SomeOf (IsPast l r) last → SomeOf (IsPast l r) (equality_steps s t)
  last_past l r h = some_right (IsPast l r) (first ++ third) last h

  module _ (us vs : List (List ℤ)) (f g : TermForm) (m : IsMore us vs) (a : IsNumbered us (linear s) f) (b : IsNumbered vs (linear t) g) where
    pub less_past : (l r : ℤ) → ((us : List (List ℤ)) (a b : Linear) → AreNumbered us → IsNumbered us a f → IsNumbered us b g → SomeOf (IsPast l r) (less_steps a b)) → SomeOf (IsPast l r) (equality_steps s t)
    less_past l r h = third_past l r (h vs (linear s) (linear t) m.numbered (formed_more us vs (linear s) f m a) b)

    less_made : (d : TermForm) → ((us : List (List ℤ)) (a b : Linear) → AreNumbered us → IsNumbered us a f → IsNumbered us b g → ArePlain (less_steps a b) × IsNumbered us (less a b) d) → ArePlain third × IsNumbered vs (less (linear s) (linear t)) d
    less_made d h = h vs (linear s) (linear t) m.numbered (formed_more us vs (linear s) f m a) b

    pub more_past : (d : TermForm) (l r : ℤ) → ((us : List (List ℤ)) (a b : Linear) → AreNumbered us → IsNumbered us a f → IsNumbered us b g → ArePlain (less_steps a b) × IsNumbered us (less a b) d)
        → ((us : List (List ℤ)) (a : Linear) → AreNumbered us → IsNumbered us a d → SomeOf (IsPast l r) (scaling a minus_one ∷ [])) → SomeOf (IsPast l r) (equality_steps s t)
    more_past d l r h k = last_past l r (k vs (less (linear s) (linear t)) m.numbered (less_made d h).1)

    pub differences_made : (d e : TermForm) → ArePlain (steps s) → ArePlain (steps t) → ((us : List (List ℤ)) (a b : Linear) → AreNumbered us → IsNumbered us a f → IsNumbered us b g → ArePlain (less_steps a b) × IsNumbered us (less a b) d)
        → ((us : List (List ℤ)) (a : Linear) → AreNumbered us → IsNumbered us a d → ArePlain (scaling a minus_one ∷ []) × IsNumbered us (scaled a minus_one) e) → ArePlain (equality_steps s t) × AreDifferences vs (linear s) (linear t) (record { less = d; more = e })
    differences_made d e p q h k =
        let x = less_made d h in
        let y = k vs (less (linear s) (linear t)) m.numbered x.1 in
        (equality_join p q x.0 y.0, record { numbered = m.numbered; first = x.1; second = y.1 })

  -- of a comparison also each of the two plus 1
  abbrev plus : List Step
  plus = addition (less (linear s) (linear t)) (of_number (pos 1)) ∷ addition (scaled (less (linear s) (linear t)) minus_one) (of_number (pos 1)) ∷ []

  pub equality_past : (l r : ℤ) → SomeOf (IsPast l r) (equality_steps s t) → SomeOf (IsPast l r) (comparison_steps s t)
  equality_past l r h = some_left (IsPast l r) (equality_steps s t) plus h

  module _ (us : List (List ℤ)) (d : Differences) (h : AreDifferences us (linear s) (linear t) d) where
    pub less_one_past : (l r : ℤ) → ((us : List (List ℤ)) (a : Linear) → AreNumbered us → IsNumbered us a d.less → SomeOf (IsPast l r) (addition a (of_number (pos 1)) ∷ [])) → SomeOf (IsPast l r) (comparison_steps s t)
    less_one_past l r k = some_right (IsPast l r) (equality_steps s t) plus (some_left (IsPast l r) (addition (less (linear s) (linear t)) (of_number (pos 1)) ∷ []) (addition (scaled (less (linear s) (linear t)) minus_one) (of_number (pos 1)) ∷ []) (k us (less (linear s) (linear t)) h.numbered h.first))

    pub more_one_past : (l r : ℤ) → ((us : List (List ℤ)) (a : Linear) → AreNumbered us → IsNumbered us a d.more → SomeOf (IsPast l r) (addition a (of_number (pos 1)) ∷ [])) → SomeOf (IsPast l r) (comparison_steps s t)
    more_one_past l r k = some_right (IsPast l r) (equality_steps s t) plus (some_right (IsPast l r) (addition (less (linear s) (linear t)) (of_number (pos 1)) ∷ []) (addition (scaled (less (linear s) (linear t)) minus_one) (of_number (pos 1)) ∷ []) (k us (scaled (less (linear s) (linear t)) minus_one) h.numbered h.second))

    pub order_plain : ArePlain (equality_steps s t) → ((us : List (List ℤ)) (a : Linear) → AreNumbered us → IsNumbered us a d.less → ArePlain (addition a (of_number (pos 1)) ∷ []))
        → ((us : List (List ℤ)) (a : Linear) → AreNumbered us → IsNumbered us a d.more → ArePlain (addition a (of_number (pos 1)) ∷ [])) → ArePlain (comparison_steps s t)
    order_plain p k j =
        let u = k us (less (linear s) (linear t)) h.numbered h.first in
        let v = j us (scaled (less (linear s) (linear t)) minus_one) h.numbered h.second in
        plain_join (equality_steps s t) plus p (plain_join (addition (less (linear s) (linear t)) (of_number (pos 1)) ∷ []) (addition (scaled (less (linear s) (linear t)) minus_one) (of_number (pos 1)) ∷ []) u v)

-- an atom by its head
two_of : (t : Term) (o : Op) (ts : List Term) (x y : Term) → t ≡ term.Apply o ts → length ts ≡ 2 → x ≡ get_or ts 0 x → y ≡ get_or ts 1 y → atom_steps (seen t) ≡ relation_steps (relation_of o) (seen x) (seen y)
two_of t o (u ∷ v ∷ []) x y e l f g = ap atom_steps (ap seen e ∙ seen-Apply o (u ∷ v ∷ [])) ∙ (λ i. relation_steps (relation_of o) (seen (sym f i)) (seen (sym g i)))
two_of t o [] x y e l f g = absurd (omega arith)
two_of t o (u ∷ []) x y e l f g = absurd (omega arith)
two_of t o (u ∷ v ∷ w ∷ ts) x y e l f g = absurd (omega arith)

pub few_plain : (t : Term) (o : Op) (ts : List Term) → t ≡ term.Apply o ts → (length ts ≡ 2 → ⊥) → ArePlain (atom_steps (seen t))
few_plain t o ts e l = subst ArePlain (sym (ap atom_steps (ap seen e ∙ seen-Apply o ts) ∙ few ts l)) plain_none
  where
    few : (ts : List Term) → (length ts ≡ 2 → ⊥) → two_steps (relation_of o) (shapes (map seen ts)) ≡ []
    few [] l = refl
    few (u ∷ []) l = refl
    few (u ∷ v ∷ []) l = absurd (l refl)
    few (u ∷ v ∷ w ∷ ts) l = refl

pub leaf_plain : (t : Term) → ((o : Op) (ts : List Term) → t ≡ term.Apply o ts → ⊥) → ArePlain (atom_steps (seen t))
leaf_plain t h = by_shape (seen t) (raw-seen t)
  where
    by_shape : (s : Shape) → raw s ≡ t → ArePlain (atom_steps s)
    by_shape (apply o ss) e = absurd (h o _ (sym e))
    by_shape (truth b) e = plain_none
    by_shape (number n) e = plain_none
    by_shape (text w) e = plain_none
    by_shape (constant n s) e = plain_none
    by_shape (member s r) e = plain_none
    by_shape (related m s u) e = plain_none
    by_shape (opaque s) e = plain_none

module _ (t : Term) (o : Op) (ts : List Term) (x y : Term) (k : Relation) (e : t ≡ term.Apply o ts) (l : length ts ≡ 2) (f : x ≡ get_or ts 0 x) (g : y ≡ get_or ts 1 y) (q : k ≡ relation_of o) where
  here : (r : Relation) → k ≡ r → atom_steps (seen t) ≡ relation_steps r (seen x) (seen y)
  here r w = two_of t o ts x y e l f g ∙ ap (λ z. relation_steps z (seen x) (seen y)) (sym q ∙ w)

  pub order_atom : (r : Result (Unit {0}) FormFault) → k ≡ relation.Order → IsPlainExactly (comparison_steps (seen x) (seen y)) r → IsPlainExactly (atom_steps (seen t)) r
  order_atom r w h = subst (λ z. IsPlainExactly z r) (sym (here relation.Order w)) h

  pub neither_atom_plain : k ≡ relation.Neither → ArePlain (atom_steps (seen t))
  neither_atom_plain w = subst ArePlain (sym (here relation.Neither w)) plain_none

  pub equality_atom : (r : Result (Unit {0}) FormFault) → k ≡ relation.Equality → head_sort (seen x) ≡ sort.Int → IsPlainExactly (equality_steps (seen x) (seen y)) r → IsPlainExactly (atom_steps (seen t)) r
  equality_atom r w d h = subst (λ z. IsPlainExactly z r) (sym (here relation.Equality w ∙ ap (λ z. equal_steps z (seen x) (seen y)) d)) h

  pub other_atom_plain : (z : Sort) → k ≡ relation.Equality → z ≡ head_sort (seen x) → (z ≡ sort.Int → ⊥) → ArePlain (atom_steps (seen t))
  other_atom_plain z w d n = subst ArePlain (sym (here relation.Equality w ∙ ap (λ z. equal_steps z (seen x) (seen y)) (sym d) ∙ none z n)) plain_none
    where
      none : (z : Sort) → (z ≡ sort.Int → ⊥) → equal_steps z (seen x) (seen y) ≡ []
      none sort.Int n = absurd (n refl)
      none sort.Bool n = refl
      none sort.String n = refl
      none sort.RegLan n = refl

pub bool_apart : (z : Sort) → z ≡ sort.Bool → z ≡ sort.Int → ⊥
bool_apart z e f = cc

pub string_apart : (z : Sort) → z ≡ sort.String → z ≡ sort.Int → ⊥
string_apart z e f = cc

pub language_apart : (z : Sort) → z ≡ sort.RegLan → z ≡ sort.Int → ⊥
language_apart z e f = cc

-- a fault goes on where its steps are among others
pub err_plain : (X : Type 0) (us : List (List ℤ)) (a : Linear) (ss ts : List Step) (e : FormFault) → ((l r : ℤ) → SomeOf (IsPast l r) ss → SomeOf (IsPast l r) ts) → IsFormOrPast us a ss (Err e) → IsPlainExactly {X = X} ts (Err e)
err_plain X us a ss ts (Past l r) h p = h l r p
err_plain X us a ss ts (Memory e) h p = tt

module _ (X : Type 0) (s t : Shape) (us vs : List (List ℤ)) (f g : TermForm) (m : IsMore us vs) (a : IsNumbered us (linear s) f) (b : IsNumbered vs (linear t) g) where
  pub less_fault : (e : FormFault) → ((us : List (List ℤ)) (a b : Linear) → AreNumbered us → IsNumbered us a f → IsNumbered us b g → IsFormOrPast us (less a b) (less_steps a b) (Err e)) → IsPlainExactly {X = X} (equality_steps s t) (Err e)
  less_fault (Past l r) h = less_past s t us vs f g m a b l r h
  less_fault (Memory e) h = tt

  pub more_fault : (d : TermForm) (e : FormFault) → ((us : List (List ℤ)) (a b : Linear) → AreNumbered us → IsNumbered us a f → IsNumbered us b g → ArePlain (less_steps a b) × IsNumbered us (less a b) d)
      → ((us : List (List ℤ)) (a : Linear) → AreNumbered us → IsNumbered us a d → IsFormOrPast us (scaled a minus_one) (scaling a minus_one ∷ []) (Err e)) → IsPlainExactly {X = X} (equality_steps s t) (Err e)
  more_fault d (Past l r) h k = more_past s t us vs f g m a b d l r h k
  more_fault d (Memory e) h k = tt

module _ (X : Type 0) (s t : Shape) (us : List (List ℤ)) (d : Differences) (h : AreDifferences us (linear s) (linear t) d) where
  pub less_one_fault : (e : FormFault) → ((us : List (List ℤ)) (a : Linear) → AreNumbered us → IsNumbered us a d.less → IsPlainExactly {X = X} (addition a (of_number (pos 1)) ∷ []) (Err e)) → IsPlainExactly {X = X} (comparison_steps s t) (Err e)
  less_one_fault (Past l r) k = less_one_past s t us d h l r k
  less_one_fault (Memory x) k = tt

  pub more_one_fault : (e : FormFault) → ((us : List (List ℤ)) (a : Linear) → AreNumbered us → IsNumbered us a d.more → IsPlainExactly {X = X} (addition a (of_number (pos 1)) ∷ []) (Err e)) → IsPlainExactly {X = X} (comparison_steps s t) (Err e)
  more_one_fault (Past l r) k = more_one_past s t us d h l r k
  more_one_fault (Memory x) k = tt
