-- Values that are set by name, one after another.
use Rattle.std.proofs.Common.{◌≡◌, refl, ap, sym, ◌∙◌, true, false, Bool, ℕ, List, [], ◌∷◌, Option, Some, None, cond}
use Rattle.std.specs.Prelude.{nat_eq, if◌then◌else◌}
use Rattle.std.specs.Map.{lookup}
use Rattle.std.specs.Cmp.Lexicographic.{pointwise}
use Rattle.std.proofs.lemmas.Bool.{true≢false}
use Rattle.std.proofs.lemmas.Slice.Eq.{bytes_eq-Decides}
use Rattle.indexmap.specs.IndexMap.{insert_entry}

abbrev Name : Type 0
Name = List ℕ

abbrev same : Name → Name → Bool
same = pointwise nat_eq

pub name-itself : (n : Name) → same n n ≡ true
name-itself n = (bytes_eq-Decides n n).1 refl

-- names that compare equal are one
pub one-name : (m n : Name) → same m n ≡ true → m ≡ n
one-name m n = (bytes_eq-Decides m n).0

module _ {V : Type 0} where
  own : (b : Bool) (v : V) (o : Option V) → b ≡ true → cond b (Some v) o ≡ Some v
  own true v o k = refl
  own false v o k = absurd (true≢false (sym k))

  past : (b : Bool) (v : V) (o : Option V) → b ≡ false → cond b (Some v) o ≡ o
  past true v o k = absurd (true≢false k)
  past false v o k = refl

  -- a value that was set is found
  pub found-set : (es : List (Name × V)) (k : Name) (v : V) → lookup (same k) (insert_entry same es k v) ≡ Some v
  found-set [] k v = own (same k k) v None (name-itself k)
  found-set (e ∷ es) k v = by_test (same k e.0) refl (found-set es k v)
    where
      by_test : (b : Bool) → same k e.0 ≡ b → lookup (same k) (insert_entry same es k v) ≡ Some v → lookup (same k) (if b then (e.0, v) ∷ es else e ∷ insert_entry same es k v) ≡ Some v
      by_test true h r = own (same k e.0) v (lookup (same k) es) h
      by_test false h r = past (same k e.0) e.1 (lookup (same k) (insert_entry same es k v)) h ∙ r

  -- and what another name has stays
  pub found-other : (es : List (Name × V)) (k q : Name) (v : V) → same q k ≡ false → lookup (same q) (insert_entry same es k v) ≡ lookup (same q) es
  found-other [] k q v h = past (same q k) v None h
  found-other (e ∷ es) k q v h = by_test (same k e.0) refl (found-other es k q v h)
    where
      by_test : (b : Bool) → same k e.0 ≡ b → lookup (same q) (insert_entry same es k v) ≡ lookup (same q) es → lookup (same q) (if b then (e.0, v) ∷ es else e ∷ insert_entry same es k v) ≡ lookup (same q) (e ∷ es)
      by_test true g r =
          let f : same q e.0 ≡ false = ap (same q) (sym (one-name k e.0 g)) ∙ h in
          past (same q e.0) v (lookup (same q) es) f ∙ sym (past (same q e.0) e.1 (lookup (same q) es) f)
      by_test false g r = ap (cond (same q e.0) (Some e.1)) r
