-- Each unknown that is kept has a number, and that of a quantity is its place among those that are kept.
use Rattle.std.proofs.Common.{◌≡◌, refl, sym, ap, ◌∙◌, subst, ℕ, zero, suc, ◌⊎◌, inl, inr, Bool, true, false, List, [], ◌∷◌, ◌++◌, map, length, get_or, length-append, append_assoc, Option, Some, None, cond, arith}
use Rattle.std.specs.Prelude.{filter, slice_get}
use Rattle.std.proofs.Math.Seq.{get_or-append_seam}
use Rattle.std.proofs.lemmas.List.{get_or_append_left}
use Rattle.literal_forms.specs.Linear.{Unknown, integer, length_of}
use Rattle.literal_forms.specs.Shapes.{Shape}
use Rattle.flat_cubes.specs.Drafted.{integers_among, registers_among, term_at, unknown_at}
use Rattle.flat_cubes.specs.Flattening.{Bounded, has_column}
use Rattle.straight_line.specs.Keeping.{kept, kept_all, nothing_kept}
use Rattle.flat_cubes.specs.declared.draft.Quantity.{Quantity}
use Rattle.flat_cubes.specs.declared.draft.Quantity.TheVariants.{Integer, Length}
use Rattle.straight_line.specs.declared.keeping.KeptUnknowns.{KeptUnknowns}
use Rattle.straight_line.proofs.Columned.{ReachesAll}
use Rattle.straight_line.proofs.Finished.{is_kept}
use Rattle.straight_line.proofs.Keeps.{there}

-- what stands in a longer list
at_push : (xs : List Unknown) (x : Unknown) (v : ℕ) (y : Unknown) → slice_get (xs ++ x ∷ []) v ≡ Some y → (slice_get xs v ≡ Some y) ⊎ ((v ≡ length xs) × (x ≡ y))
at_push [] x zero y e = inr (refl, cc)
at_push [] x (suc v) y e = absurd (cc)
at_push (z ∷ xs) x zero y e = inl e
at_push (z ∷ xs) x (suc v) y e = elim (at_push xs x v y e) [ inl h ↦ inl h | inr h ↦ inr (ap suc h.0, h.1) ]

still : (xs ys : List Unknown) (v : ℕ) (y : Unknown) → slice_get xs v ≡ Some y → slice_get (xs ++ ys) v ≡ Some y
still [] ys v y e = absurd (cc)
still (x ∷ xs) ys zero y e = e
still (x ∷ xs) ys (suc v) y e = still xs ys v y e

last_is : (xs : List Unknown) (x : Unknown) → slice_get (xs ++ x ∷ []) (length xs) ≡ Some x
last_is [] x = refl
last_is (y ∷ xs) x = last_is xs x

number_still : (ns : List (Option ℕ)) (o : Option ℕ) (u v : ℕ) → get_or ns u None ≡ Some v → get_or (ns ++ o ∷ []) u None ≡ Some v
number_still ns o u v e = get_or_append_left ns (o ∷ []) None u (there ns u v e) ∙ e

module _ (us : List Unknown) (ns : List (Option ℕ)) (xs : List Unknown) (x : Unknown) where
  -- a quantity that isn't kept
  reaches_skip : ReachesAll us ns xs → ReachesAll (us ++ x ∷ []) (ns ++ None ∷ []) xs
  reaches_skip r v y e = let q = r v y e in (q.0, number_still ns None q.0 v q.1, still us (x ∷ []) q.0 y q.2)

  -- one that is
  reaches_next : length us ≡ length ns → ReachesAll us ns xs → ReachesAll (us ++ x ∷ []) (ns ++ Some (length xs) ∷ []) (xs ++ x ∷ [])
  reaches_next l r v y e = elim (at_push xs x v y e) [
    | inl h ↦ let q = r v y h in (q.0, number_still ns (Some (length xs)) q.0 v q.1, still us (x ∷ []) q.0 y q.2)
    | inr h ↦ (length ns, get_or-append_seam ns (Some (length xs)) [] None ∙ ap Some (sym h.0), subst (λ n. slice_get (us ++ x ∷ []) n ≡ Some y) l (last_is us x ∙ ap Some h.1))
  ]

-- the numbers of what was kept so far
pub record AreReached (us : List Unknown) (k : KeptUnknowns) (xs ys : List Unknown) : Type 0 where
  pub integers : ReachesAll us k.integer_numbers xs
  pub registers : ReachesAll us k.register_numbers ys
  pub integer_places : length us ≡ length k.integer_numbers
  pub register_places : length us ≡ length k.register_numbers
  pub integer_count : length xs ≡ length k.integers
  pub register_count : length ys ≡ length k.registers

pub one_longer : {X Y : Type 0} (xs : List X) (ys : List Y) (x : X) (y : Y) → length xs ≡ length ys → length (xs ++ x ∷ []) ≡ length (ys ++ y ∷ [])
one_longer xs ys x y e = length-append xs (x ∷ []) ∙ (let h : length (x ∷ []) ≡ length (y ∷ []) = refl in omega arith) ∙ sym (length-append ys (y ∷ []))

module _ (f : ℕ → ℕ) (ts : List Shape) where
  skipped : (q : Quantity) (us : List Unknown) (k : KeptUnknowns) (xs ys : List Unknown) → AreReached us k xs ys → AreReached (us ++ unknown_at ts q ∷ []) (kept f q false k) xs ys
  skipped q us k xs ys r = record {
    integers = reaches_skip us k.integer_numbers xs (unknown_at ts q) r.integers;
    registers = reaches_skip us k.register_numbers ys (unknown_at ts q) r.registers;
    integer_places = one_longer us k.integer_numbers (unknown_at ts q) None r.integer_places;
    register_places = one_longer us k.register_numbers (unknown_at ts q) None r.register_places;
    integer_count = r.integer_count;
    register_count = r.register_count;
  }

  integer_taken : (name : List ℕ) (us : List Unknown) (k : KeptUnknowns) (xs ys : List Unknown) → AreReached us k xs ys → AreReached (us ++ integer name ∷ []) (kept f (Integer name) true k) (xs ++ integer name ∷ []) ys
  integer_taken name us k xs ys r = record {
    integers = subst (λ n. ReachesAll (us ++ integer name ∷ []) (k.integer_numbers ++ Some n ∷ []) (xs ++ integer name ∷ [])) r.integer_count (reaches_next us k.integer_numbers xs (integer name) r.integer_places r.integers);
    registers = reaches_skip us k.register_numbers ys (integer name) r.registers;
    integer_places = one_longer us k.integer_numbers (integer name) (Some (length k.integers)) r.integer_places;
    register_places = one_longer us k.register_numbers (integer name) None r.register_places;
    integer_count = one_longer xs k.integers (integer name) name r.integer_count;
    register_count = r.register_count;
  }

  length_taken : (i : ℕ) (us : List Unknown) (k : KeptUnknowns) (xs ys : List Unknown) → AreReached us k xs ys → AreReached (us ++ length_of (term_at ts i) ∷ []) (kept f (Length i) true k) xs (ys ++ length_of (term_at ts i) ∷ [])
  length_taken i us k xs ys r = record {
    integers = reaches_skip us k.integer_numbers xs (length_of (term_at ts i)) r.integers;
    registers = subst (λ n. ReachesAll (us ++ length_of (term_at ts i) ∷ []) (k.register_numbers ++ Some n ∷ []) (ys ++ length_of (term_at ts i) ∷ [])) r.register_count (reaches_next us k.register_numbers ys (length_of (term_at ts i)) r.register_places r.registers);
    integer_places = one_longer us k.integer_numbers (length_of (term_at ts i)) None r.integer_places;
    register_places = one_longer us k.register_numbers (length_of (term_at ts i)) (Some (length k.registers)) r.register_places;
    integer_count = r.integer_count;
    register_count = one_longer ys k.registers (length_of (term_at ts i)) (f i) r.register_count;
  }

  module _ (bs : List Bounded) where
    abbrev pub integers_from : List Quantity → List Unknown
    integers_from qs = map integer (filter (λ (name : List ℕ). has_column bs (integer name)) (integers_among qs))

    abbrev pub lengths_from : List Quantity → List Unknown
    lengths_from qs = map (λ (r : Shape × ℕ). length_of r.0) (filter (λ (r : Shape × ℕ). has_column bs (length_of r.0)) (registers_among ts qs))

    abbrev Reaches : List Unknown → List Quantity → KeptUnknowns → List Unknown → List Unknown → Type 0
    Reaches us qs k xs ys = AreReached (us ++ map (unknown_at ts) qs) (kept_all f qs (map (is_kept f ts bs) qs) k) (xs ++ integers_from qs) (ys ++ lengths_from qs)

    none : (us : List Unknown) → us ≡ us ++ []
    none [] = refl
    none (u ∷ us) = ap (λ z. u ∷ z) (none us)

    integer_step : (name : List ℕ) (qs : List Quantity) (us : List Unknown) (k : KeptUnknowns) (xs ys : List Unknown) (b : Bool) → has_column bs (integer name) ≡ b → AreReached us k xs ys → ((us : List Unknown) (k : KeptUnknowns) (xs ys : List Unknown) → AreReached us k xs ys → Reaches us qs k xs ys) → AreReached (us ++ integer name ∷ map (unknown_at ts) qs) (kept_all f qs (map (is_kept f ts bs) qs) (kept f (Integer name) b k)) (xs ++ map integer (cond b (name ∷ filter (λ (n : List ℕ). has_column bs (integer n)) (integers_among qs)) (filter (λ (n : List ℕ). has_column bs (integer n)) (integers_among qs)))) (ys ++ lengths_from qs)
    integer_step name qs us k xs ys true e r rec =
        subst (λ z. AreReached z (kept_all f qs (map (is_kept f ts bs) qs) (kept f (Integer name) true k)) (xs ++ integer name ∷ integers_from qs) (ys ++ lengths_from qs)) (append_assoc us (integer name ∷ []) (map (unknown_at ts) qs))
        (subst (λ z. AreReached ((us ++ integer name ∷ []) ++ map (unknown_at ts) qs) (kept_all f qs (map (is_kept f ts bs) qs) (kept f (Integer name) true k)) z (ys ++ lengths_from qs)) (append_assoc xs (integer name ∷ []) (integers_from qs))
        (rec (us ++ integer name ∷ []) (kept f (Integer name) true k) (xs ++ integer name ∷ []) ys (integer_taken name us k xs ys r)))
    integer_step name qs us k xs ys false e r rec =
        subst (λ z. AreReached z (kept_all f qs (map (is_kept f ts bs) qs) (kept f (Integer name) false k)) (xs ++ integers_from qs) (ys ++ lengths_from qs)) (append_assoc us (integer name ∷ []) (map (unknown_at ts) qs))
        (rec (us ++ integer name ∷ []) (kept f (Integer name) false k) xs ys (skipped (Integer name) us k xs ys r))

    length_step : (i : ℕ) (qs : List Quantity) (us : List Unknown) (k : KeptUnknowns) (xs ys : List Unknown) (b : Bool) → has_column bs (length_of (term_at ts i)) ≡ b → AreReached us k xs ys → ((us : List Unknown) (k : KeptUnknowns) (xs ys : List Unknown) → AreReached us k xs ys → Reaches us qs k xs ys) → AreReached (us ++ length_of (term_at ts i) ∷ map (unknown_at ts) qs) (kept_all f qs (map (is_kept f ts bs) qs) (kept f (Length i) b k)) (xs ++ integers_from qs) (ys ++ map (λ (r : Shape × ℕ). length_of r.0) (cond b ((term_at ts i, i) ∷ filter (λ (r : Shape × ℕ). has_column bs (length_of r.0)) (registers_among ts qs)) (filter (λ (r : Shape × ℕ). has_column bs (length_of r.0)) (registers_among ts qs))))
    length_step i qs us k xs ys true e r rec =
        subst (λ z. AreReached z (kept_all f qs (map (is_kept f ts bs) qs) (kept f (Length i) true k)) (xs ++ integers_from qs) (ys ++ length_of (term_at ts i) ∷ lengths_from qs)) (append_assoc us (length_of (term_at ts i) ∷ []) (map (unknown_at ts) qs))
        (subst (λ z. AreReached ((us ++ length_of (term_at ts i) ∷ []) ++ map (unknown_at ts) qs) (kept_all f qs (map (is_kept f ts bs) qs) (kept f (Length i) true k)) (xs ++ integers_from qs) z) (append_assoc ys (length_of (term_at ts i) ∷ []) (lengths_from qs))
        (rec (us ++ length_of (term_at ts i) ∷ []) (kept f (Length i) true k) xs (ys ++ length_of (term_at ts i) ∷ []) (length_taken i us k xs ys r)))
    length_step i qs us k xs ys false e r rec =
        subst (λ z. AreReached z (kept_all f qs (map (is_kept f ts bs) qs) (kept f (Length i) false k)) (xs ++ integers_from qs) (ys ++ lengths_from qs)) (append_assoc us (length_of (term_at ts i) ∷ []) (map (unknown_at ts) qs))
        (rec (us ++ length_of (term_at ts i) ∷ []) (kept f (Length i) false k) xs ys (skipped (Length i) us k xs ys r))

    pub all_reached : (qs : List Quantity) (us : List Unknown) (k : KeptUnknowns) (xs ys : List Unknown) → AreReached us k xs ys → AreReached (us ++ map (unknown_at ts) qs) (kept_all f qs (map (is_kept f ts bs) qs) k) (xs ++ integers_from qs) (ys ++ lengths_from qs)
    all_reached [] us k xs ys r = subst (λ z. AreReached z k (xs ++ []) (ys ++ [])) (none us) (subst (λ z. AreReached us k z (ys ++ [])) (none xs) (subst (λ z. AreReached us k xs z) (none ys) r))
    all_reached (Integer name ∷ qs) us k xs ys r = integer_step name qs us k xs ys (has_column bs (integer name)) refl r (λ us k xs ys r. all_reached qs us k xs ys r)
    all_reached (Length i ∷ qs) us k xs ys r = length_step i qs us k xs ys (has_column bs (length_of (term_at ts i))) refl r (λ us k xs ys r. all_reached qs us k xs ys r)

    pub kept_reached : (qs : List Quantity) → AreReached (map (unknown_at ts) qs) (kept_all f qs (map (is_kept f ts bs) qs) nothing_kept) (integers_from qs) (lengths_from qs)
    kept_reached qs = all_reached qs [] nothing_kept [] [] (record { integers = λ v x e. absurd (cc); registers = λ v x e. absurd (cc); integer_places = refl; register_places = refl; integer_count = refl; register_count = refl })
