-- What holds of each unknown of two forms holds of each of the form that is made of them.
use Rattle.std.proofs.Common.{Bool, true, false, ℤ, ◌*ℤ◌, List, [], ◌∷◌, map}
use Rattle.std.specs.Prelude.{if◌then◌else◌}
use Rattle.std.specs.List.{AllByRecursion}
use Rattle.sv_list.specs.Lists.{AllByRecursion-append}
use Rattle.literal_forms.specs.Linear.{Linear, Unknown, added, difference_of, from_left, is_constant, less, minus_one, multiplied, scaled}

module _ (P : Unknown → Type 0) where
  abbrev pub Fine : Linear → Type 0
  Fine a = AllByRecursion (λ (t : Unknown × ℤ). P t.0) a.terms

  pub fine_scaled : (a : Linear) (k : ℤ) → Fine a → Fine (scaled a k)
  fine_scaled a k h = each a.terms h
    where
      each : (ts : List (Unknown × ℤ)) → AllByRecursion (λ (t : Unknown × ℤ). P t.0) ts → AllByRecursion (λ (t : Unknown × ℤ). P t.0) (map (λ (t : Unknown × ℤ). (t.0, t.1 *ℤ k)) ts)
      each [] h = tt
      each (t ∷ ts) h = (h.0, each ts h.1)

  pub fine_added : (a b : Linear) → Fine a → Fine b → Fine (added a b)
  fine_added a b h k = AllByRecursion-append (λ (t : Unknown × ℤ). P t.0) a.terms b.terms h k

  pub fine_less : (a b : Linear) → Fine a → Fine b → Fine (less a b)
  fine_less a b h k = fine_added a (scaled b minus_one) h (fine_scaled b minus_one k)

  fine_if : (c : Bool) (a b : Linear) → Fine a → Fine b → Fine (if c then a else b)
  fine_if true a b h k = h
  fine_if false a b h k = k

  fine_multiplied : (a b : Linear) → Fine a → Fine b → Fine (multiplied a b)
  fine_multiplied a b h k = fine_if (is_constant b) (scaled a b.constant) (scaled b a.constant) (fine_scaled a b.constant h) (fine_scaled b a.constant k)

  fine_left : (f : Linear → Linear → Linear) → ((a b : Linear) → Fine a → Fine b → Fine (f a b)) → (a : Linear) (bs : List Linear) → Fine a → AllByRecursion Fine bs → Fine (from_left f a bs)
  fine_left f g a [] h k = h
  fine_left f g a (b ∷ bs) h k = fine_left f g (f a b) bs (g a b h k.0) k.1

  pub fine_sum : (a : Linear) (bs : List Linear) → Fine a → AllByRecursion Fine bs → Fine (from_left added a bs)
  fine_sum a bs h k = fine_left added fine_added a bs h k

  pub fine_product : (a : Linear) (bs : List Linear) → Fine a → AllByRecursion Fine bs → Fine (from_left multiplied a bs)
  fine_product a bs h k = fine_left multiplied fine_multiplied a bs h k

  pub fine_difference : (a : Linear) (bs : List Linear) → Fine a → AllByRecursion Fine bs → Fine (difference_of (a ∷ bs))
  fine_difference a [] h k = fine_scaled a minus_one h
  fine_difference a (b ∷ bs) h k = fine_left less fine_less a (b ∷ bs) h k
