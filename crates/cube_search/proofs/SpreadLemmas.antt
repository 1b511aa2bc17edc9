-- Runs put to the numbers of their variables, one after another.
use Rattle.std.proofs.Common.{◌≡◌, refl, sym, subst, ◌∙◌, ℕ, suc, ◌+◌, ◌<◌, ◌≤◌, List, [], ◌∷◌, ◌++◌, length, drop, get_or, drop-cons, append_assoc, Option, Some, None, MatchOption, arith}
use Rattle.std.proofs.lemmas.List.{append-nil, drop_all}
use Rattle.machine_core.specs.declared.graph.Graph.{Graph}
use Rattle.machine_core.specs.declared.run.Run.{Run}
use Rattle.search_hits.specs.Hits.{AreRunsOf}
use Rattle.backward.specs.Families.{Family}
use Rattle.backward.specs.Leaves.{machines_of}
use Rattle.backward.specs.Runs.{Runs}
use Rattle.cube_search.specs.Spreads.{IsSpread}

-- one variable
next : (o : Option Graph) (ms : Family) (old new : List (Run ℕ)) (r : Option (Run ℕ)) → AreRunsOf (machines_of (o ∷ ms)) old
    → (o ≡ None → (r ≡ None) × (new ≡ old)) → ((m : Graph) → o ≡ Some m → MatchOption r (old ≡ []) (λ run. old ≡ run ∷ new))
    → AreRunsOf (machines_of ms) new × ((rs : Runs) → IsSpread ms new rs → IsSpread (o ∷ ms) old (r ∷ rs))
next None ms old new None are c s = (subst (AreRunsOf (machines_of ms)) (sym (c refl).1) are, λ rs h. subst (λ runs. IsSpread ms runs rs) (c refl).1 h)
next None ms old new (Some r) are c s = absurd (let e = (c refl).0 in cc)
next (Some m) ms old new None are c s = absurd (subst (AreRunsOf (m ∷ machines_of ms)) (s m refl) are)
next (Some m) ms old new (Some r) are c s =
    let e = s m refl in
    let h = subst (AreRunsOf (m ∷ machines_of ms)) e are in
    (h.1, λ rs k. subst (λ runs. IsSpread (Some m ∷ ms) runs (Some r ∷ rs)) (sym e) (refl, k))

-- what is still to be put, behind what stands
pub record IsUnderWay (ms : Family) (hits : List (Run ℕ)) (i : ℕ) (left : List (Run ℕ)) (spread : Runs) : Type 0 where
  pub are : AreRunsOf (machines_of (drop i ms)) left
  pub rest : (rs : Runs) → IsSpread (drop i ms) left rs → IsSpread ms hits (spread ++ rs)

module _ (ms : Family) (hits : List (Run ℕ)) (i : ℕ) (old new : List (Run ℕ)) (spread : Runs) where
  pub goes-on : (o : Option Graph) (r : Option (Run ℕ)) → i < length ms → o ≡ get_or ms i o → IsUnderWay ms hits i old spread
      → (o ≡ None → (r ≡ None) × (new ≡ old)) → ((m : Graph) → o ≡ Some m → MatchOption r (old ≡ []) (λ run. old ≡ run ∷ new))
      → IsUnderWay ms hits (i + 1) new (spread ++ r ∷ [])
  goes-on o r l at h c s =
      let up : suc i ≡ i + 1 = omega arith in
      let d : drop i ms ≡ o ∷ drop (i + 1) ms = drop-cons ms i o l ∙ (λ j. sym at j ∷ drop (up j) ms) in
      let k = next o (drop (i + 1) ms) old new r (subst (λ ns. AreRunsOf (machines_of ns) old) d h.are) c s in
      record {
        are = k.0;
        rest = λ rs g. subst (IsSpread ms hits) (sym (append_assoc spread (r ∷ []) rs)) (h.rest (r ∷ rs) (subst (λ ns. IsSpread ns old (r ∷ rs)) (sym d) (k.1 rs g)));
      }

  pub ends : length ms ≤ i → IsUnderWay ms hits i old spread → IsSpread ms hits spread
  ends l h =
      let d : drop i ms ≡ [] = drop_all i ms l in
      let e = nothing old (subst (λ ns. AreRunsOf (machines_of ns) old) d h.are) in
      subst (IsSpread ms hits) (append-nil spread) (h.rest [] (subst (λ ns. IsSpread ns old []) (sym d) (subst (λ runs. IsSpread [] runs []) (sym e) tt)))
    where
      nothing : (runs : List (Run ℕ)) → AreRunsOf [] runs → runs ≡ []
      nothing [] h = refl
      nothing (r ∷ runs) h = absurd h

nothing-dropped : (ms : Family) → drop 0 ms ≡ ms
nothing-dropped [] = refl
nothing-dropped (o ∷ ms) = refl

pub begins : (ms : Family) (hits left : List (Run ℕ)) (spread : Runs) → AreRunsOf (machines_of ms) hits → left ≡ hits → spread ≡ [] → IsUnderWay ms hits 0 left spread
begins ms hits left spread h e f =
    subst (λ rs. IsUnderWay ms hits 0 left rs) (sym f) (subst (λ runs. IsUnderWay ms hits 0 runs []) (sym e) (record {
      are = subst (λ ns. AreRunsOf (machines_of ns) hits) (sym (nothing-dropped ms)) h;
      rest = λ rs k. subst (λ ns. IsSpread ns hits rs) (nothing-dropped ms) k;
    }))
