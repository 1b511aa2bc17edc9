-- A map from names to their places keeps up with a list of entries.
use Rattle.std.proofs.Common.{◌≡◌, refl, sym, ap, ◌∙◌, subst, ℕ, zero, suc, ◌<◌, List, [], ◌∷◌, ◌++◌, length, Bool, true, false, cond, Option, Some, None, option_map, nat_eq, nat_cmp, is_eq, slice_get, slice_set, arith}
use Rattle.std.specs.BTreeMap.{BTreeMap, get, IsEmpty}
use Rattle.std.specs.Cmp.Lexicographic.{pointwise, slice_cmp, bytes_decides, nat_list_eq_equiv, texts_ties}
use Rattle.std.specs.List.{list_any, IsDistinct}
use Rattle.std.specs.Map.{lookup, keys_of}
use Rattle.std.proofs.lemmas.Map.Entries.{length-keys_of}
use Rattle.std.proofs.lemmas.Map.Keys.{IsDistinct-push}
use Rattle.indexmap.specs.IndexMap.{insert_entry}
use Rattle.sv_terms.specs.Places.{place_of, IsIndex}

abbrev same : List ℕ → List ℕ → Bool
same = pointwise nat_eq

-- what the place of a name says of the first name and of the others
after : (b : Bool) (o : Option ℕ) (i : ℕ) → cond b (Some 0) (option_map suc o) ≡ Some (suc i) → (b ≡ false) × (o ≡ Some i)
after true o i h = absurd cc
after false None i h = absurd cc
after false (Some j) i h = (refl, cc)

here : (b : Bool) (o : Option ℕ) → cond b (Some 0) (option_map suc o) ≡ Some 0 → b ≡ true
here true o h = refl
here false None h = absurd cc
here false (Some j) h = absurd cc

nowhere : (b : Bool) (o : Option ℕ) → cond b (Some 0) (option_map suc o) ≡ None → (b ≡ false) × (o ≡ None)
nowhere true o h = absurd cc
nowhere false None h = (refl, refl)
nowhere false (Some j) h = absurd cc

-- a name without a place is no name of the list
none-among : (names : List (List ℕ)) (k : List ℕ) → place_of names k ≡ None → list_any (same k) names ≡ false
none-among [] k h = refl
none-among (n ∷ names) k h = let w = nowhere (same k n) (place_of names k) h in rw w.0 (none-among names k w.1)

module _ {V : Type 0} where
  -- a place is one of the list
  pub place-within : (es : List (List ℕ × V)) (k : List ℕ) (i : ℕ) → place_of (keys_of es) k ≡ Some i → i < length es
  place-within [] k i h = absurd cc
  place-within (d ∷ es) k zero h = omega arith
  place-within (d ∷ es) k (suc i) h =
      let lt = place-within es k i (after (same k d.0) (place_of (keys_of es) k) i h).1 in
      omega (arith, lt)

  -- the value of a name is the one at its place
  pub lookup-at : (es : List (List ℕ × V)) (k : List ℕ) (i : ℕ) (e : List ℕ × V) → place_of (keys_of es) k ≡ Some i → slice_get es i ≡ Some e → lookup (same k) es ≡ Some e.1
  lookup-at [] k i e h g = absurd cc
  lookup-at (d ∷ es) k zero e h g = let at = here (same k d.0) (place_of (keys_of es) k) h in rw at (let is : d ≡ e = cc in ap (λ z. Some z.1) is)
  lookup-at (d ∷ es) k (suc i) e h g = let w = after (same k d.0) (place_of (keys_of es) k) i h in rw w.0 (lookup-at es k i e w.1 g)

  -- a name without a place has no value
  pub lookup-none : (es : List (List ℕ × V)) (k : List ℕ) → place_of (keys_of es) k ≡ None → lookup (same k) es ≡ None
  lookup-none [] k h = refl
  lookup-none (d ∷ es) k h = let w = nowhere (same k d.0) (place_of (keys_of es) k) h in rw w.0 (lookup-none es k w.1)

  -- a name that has a place keeps it, and takes the value there
  pub insert-at : (es : List (List ℕ × V)) (k : List ℕ) (v : V) (i : ℕ) → place_of (keys_of es) k ≡ Some i → insert_entry same es k v ≡ slice_set es i (k, v)
  insert-at [] k v i h = absurd cc
  insert-at (d ∷ es) k v zero h =
      let at = here (same k d.0) (place_of (keys_of es) k) h in
      rw at (ap (λ n. (n, v) ∷ es) (sym ((bytes_decides k d.0).0 at)))
  insert-at (d ∷ es) k v (suc i) h =
      let w = after (same k d.0) (place_of (keys_of es) k) i h in
      rw w.0 (ap (λ z. d ∷ z) (insert-at es k v i w.1))

  pub keys-set : (es : List (List ℕ × V)) (k : List ℕ) (v : V) (i : ℕ) → place_of (keys_of es) k ≡ Some i → keys_of (slice_set es i (k, v)) ≡ keys_of es
  keys-set [] k v i h = absurd cc
  keys-set (d ∷ es) k v zero h = ap (λ n. n ∷ keys_of es) ((bytes_decides k d.0).0 (here (same k d.0) (place_of (keys_of es) k) h))
  keys-set (d ∷ es) k v (suc i) h = ap (λ z. d.0 ∷ z) (keys-set es k v i (after (same k d.0) (place_of (keys_of es) k) i h).1)

  -- a new name comes last
  pub insert-new : (es : List (List ℕ × V)) (k : List ℕ) (v : V) → place_of (keys_of es) k ≡ None → insert_entry same es k v ≡ es ++ (k, v) ∷ []
  insert-new [] k v h = refl
  insert-new (d ∷ es) k v h = let w = nowhere (same k d.0) (place_of (keys_of es) k) h in rw w.0 (ap (λ z. d ∷ z) (insert-new es k v w.1))

  pub keys-push : (es : List (List ℕ × V)) (e : List ℕ × V) → keys_of (es ++ e ∷ []) ≡ keys_of es ++ e.0 ∷ []
  keys-push [] e = refl
  keys-push (d ∷ es) e = ap (λ z. d.0 ∷ z) (keys-push es e)

next-place : (b : Bool) (n : ℕ) (o : Option ℕ) → option_map suc (cond b (Some n) o) ≡ cond b (Some (suc n)) (option_map suc o)
next-place true n o = refl
next-place false n o = refl

-- places in a list with a new name
place-push : (names : List (List ℕ)) (k q : List ℕ) → place_of names k ≡ None → place_of (names ++ k ∷ []) q ≡ cond (same k q) (Some (length names)) (place_of names q)
place-push [] k q h = rw (nat_list_eq_equiv.symm q k) refl
place-push (n ∷ names) k q h = let w = nowhere (same k n) (place_of names k) h in by (same q n) refl w.0 (place-push names k q w.1)
  where
    by : (b : Bool) → same q n ≡ b → same k n ≡ false → place_of (names ++ k ∷ []) q ≡ cond (same k q) (Some (length names)) (place_of names q) → place_of ((n ∷ names) ++ k ∷ []) q ≡ cond (same k q) (Some (length (n ∷ names))) (place_of (n ∷ names) q)
    by true t apart rest =
        let other : same k q ≡ false = subst (λ z. same k z ≡ false) (sym ((bytes_decides q n).0 t)) apart in
        rw (t, other) refl
    by false f apart rest = rw f (ap (option_map suc) rest ∙ next-place (same k q) (length names) (place_of names q))

-- no names, and a map that holds none
pub index-none : (places : BTreeMap (List ℕ) ℕ) → IsEmpty places → IsIndex [] places
unfolding IsDistinct
index-none places none = record {
  distinct = tt;
  placed = λ name. ap (lookup (λ q. is_eq (slice_cmp nat_cmp name q))) none;
}

-- the map with a new name, and the list with it
pub index-push : {V : Type 0} (es : List (List ℕ × V)) (old new : BTreeMap (List ℕ) ℕ) (k : List ℕ) (v : V) → IsIndex (keys_of es) old → place_of (keys_of es) k ≡ None
    → ((q : List ℕ) → get (slice_cmp nat_cmp) new q ≡ cond (is_eq (slice_cmp nat_cmp k q)) (Some (length es)) (get (slice_cmp nat_cmp) old q)) → IsIndex (keys_of (es ++ (k, v) ∷ [])) new
index-push es old new k v ok none updates =
    let names = keys_of es in
    let n = length es in
    rw (keys-push es (k, v)) (record {
      distinct = IsDistinct-push nat_list_eq_equiv names k ok.distinct (none-among names k none);
      placed = λ q. updates q ∙ ap (λ b. cond b (Some n) (get (slice_cmp nat_cmp) old q)) (sym (texts_ties k q)) ∙ ap (λ o. cond (same k q) (Some n) o) (ok.placed q)
          ∙ ap (λ m. cond (same k q) (Some m) (place_of names q)) (sym (length-keys_of es)) ∙ sym (place-push names k q none);
    })
