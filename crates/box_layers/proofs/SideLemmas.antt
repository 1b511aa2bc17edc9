-- Boxes of a region's sides, with totals that are known or not, and where the words of all machines in turn end.
use Rattle.std.proofs.Common.{◌≡◌, ℕ, zero, suc, ◌+◌, ◌<◌, ◌≤◌, ◌↔◌, inl, inr, ℤ, pos, List, [], ◌∷◌, ◌++◌, length, map, take, get_or, All, Any, Option, Some, None, false, refl, ap, sym, ◌∙◌, subst, arith}
use Rattle.std.specs.Option.{is_some}
use Rattle.std.proofs.lemmas.Int.{ints}
use Rattle.std.proofs.lemmas.List.{length-append, length-map}
use Rattle.std.proofs.lemmas.List.Elements.{All-nil, All-cons, All-append, All-weaker}
use Rattle.machine_core.specs.declared.graph.Graph.{Graph}
use Rattle.machine_core.specs.Costs.{zeros}
use Rattle.sv_list.specs.Lists.{Any-none, Any-here, Any-cases}
use Rattle.sv_linear.specs.declared.row.Row.{Row}
use Rattle.search_hits.specs.declared.region.Region.{Region}
use Rattle.search_hits.specs.Regions.{AreWithin, FitsRegion, whole_side, sides_of, amounts}
use Rattle.search_hits.specs.Boxes.{IsSide, HaveSides, FitsSides, MeetAll, IsBox, IsPointFound, point_side}
use Rattle.box_layers.specs.declared.layer.Layer.{Layer}
use Rattle.box_layers.specs.Layers.{AreWithinGreatest, uppers_of, AreGood, AreGoodTotals, LayerEnd, IsLayerOf}
use Rattle.box_layers.specs.LayerLaws.{length-uppers}
use Rattle.box_layers.proofs.HalfLemmas.{fits-less, amount-narrower}

-- points of joined boxes
pub within-append : (ss ts : List (ℤ × ℤ)) (xs ys : List ℤ) → AreWithin ss xs → AreWithin ts ys → AreWithin (ss ++ ts) (xs ++ ys)
within-append [] ts [] ys h g = g
within-append [] ts (x ∷ xs) ys h g = absurd h
within-append (s ∷ ss) ts [] ys h g = absurd h
within-append (s ∷ ss) ts (x ∷ xs) ys h g = (h.0, within-append ss ts xs ys h.1 g)

pub points-within : (totals : List ℕ) → AreWithin (map point_side totals) (map pos totals)
points-within [] = tt
points-within (n ∷ ns) = ((omega (arith, ints), omega (arith, ints)), points-within ns)

points-are : (totals : List ℕ) (xs : List ℤ) → AreWithin (map point_side totals) xs → xs ≡ map pos totals
points-are [] [] h = refl
points-are [] (x ∷ xs) h = absurd h
points-are (n ∷ ns) [] h = absurd h
points-are (n ∷ ns) (x ∷ xs) h =
    let a = h.0.0 in
    let b = h.0.1 in
    let e : x ≡ pos n = omega (arith, ints) in
    ap (λ (z : ℤ). z ∷ xs) e ∙ ap (λ l. pos n ∷ l) (points-are ns xs h.1)

-- the first numbers of a point lie within the first sides, and the totals are the others
pub front-within : (ss : List (ℤ × ℤ)) (totals : List ℕ) (xs : List ℤ) → AreWithin (ss ++ map point_side totals) xs → AreWithin ss (take (length ss) xs) × (xs ≡ take (length ss) xs ++ map pos totals) × (length ss ≤ length xs)
front-within [] totals [] h = (tt, points-are totals [] h, omega arith)
front-within [] totals (x ∷ xs) h = (tt, points-are totals (x ∷ xs) h, omega arith)
front-within (s ∷ ss) totals [] h = absurd h
front-within (s ∷ ss) totals (x ∷ xs) h = let r = front-within ss totals xs h.1 in let n = r.2 in ((h.0, r.0), ap (λ l. x ∷ l) r.1, omega arith)

-- sides that hold some number
pub points-some : (totals : List ℕ) → All IsSide (map point_side totals)
points-some [] = All-nil IsSide
points-some (n ∷ ns) = All-cons IsSide (point_side n) (map point_side ns) (omega (arith, ints)) (points-some ns)

pub within-some : (ss : List (ℤ × ℤ)) (xs : List ℤ) → AreWithin ss xs → All IsSide ss
within-some [] [] h = All-nil IsSide
within-some [] (x ∷ xs) h = absurd h
within-some (s ∷ ss) [] h = absurd h
within-some (s ∷ ss) (x ∷ xs) h = let a = h.0.0 in let b = h.0.1 in All-cons IsSide s ss (omega (arith, ints)) (within-some ss xs h.1)

-- amounts of known totals are no greater than those of the sides
known-amounts : (rs : List (ℕ × ℕ)) (totals : List ℕ) → AreWithin (map whole_side rs) (map pos totals) → (u : ℕ) → amounts (map point_side totals) u ≤ amounts (map whole_side rs) u
known-amounts [] [] h u = omega arith
known-amounts [] (n ∷ ns) h u = absurd h
known-amounts (r ∷ rs) [] h u = absurd h
known-amounts (r ∷ rs) (n ∷ ns) h zero = amount-narrower (pos r.0) (pos r.1) (pos n) (pos n) h.0.0 (omega (arith, ints)) h.0.1
known-amounts (r ∷ rs) (n ∷ ns) h (suc u) = known-amounts rs ns h.1 u

front-amounts : (ss : List (ℤ × ℤ)) (rs : List (ℕ × ℕ)) (totals : List ℕ) → AreWithin (map whole_side rs) (map pos totals) → (u : ℕ) → amounts (ss ++ map point_side totals) u ≤ amounts (ss ++ map whole_side rs) u
front-amounts [] rs totals h u = known-amounts rs totals h u
front-amounts (s ∷ ss) rs totals h zero = omega arith
front-amounts (s ∷ ss) rs totals h (suc u) = front-amounts ss rs totals h u

pub fits-known : (region : Region) (totals : List ℕ) (rows : List Row) → AreWithin (map whole_side region.registers) (map pos totals) → All (FitsRegion region) rows → All (FitsSides (region.integers ++ map point_side totals)) rows
fits-known region totals rows h all =
    All-weaker (FitsRegion region) (FitsSides (region.integers ++ map point_side totals))
    (fits-less (region.integers ++ map point_side totals) (sides_of region) (front-amounts region.integers region.registers totals h)) rows all

-- totals within their sides, one by one
pub within-known : (ss : List (ℕ × ℕ)) (ts : List ℕ) (i : ℕ) (f : ℕ × ℕ) → AreWithin (map whole_side ss) (map pos ts) → i < length ts
    → ((get_or ss i f).0 ≤ get_or ts i 0) × (get_or ts i 0 ≤ (get_or ss i f).1)
within-known [] [] i f h lt = absurd (omega arith)
within-known [] (t ∷ ts) i f h lt = absurd h
within-known (s ∷ ss) [] i f h lt = absurd h
within-known (s ∷ ss) (t ∷ ts) zero f h lt = let a = h.0.0 in let b = h.0.1 in (omega (arith, ints), omega (arith, ints))
within-known (s ∷ ss) (t ∷ ts) (suc i) f h lt = within-known ss ts i f h.1 (omega arith)

within-step : (ss : List (ℕ × ℕ)) (ts : List ℕ) (i : ℕ) (f : ℕ × ℕ) → length ts ≡ length ss → i < length ts → (get_or ss i f).0 ≤ get_or ts i 0 → get_or ts i 0 ≤ (get_or ss i f).1
    → AreWithin (map whole_side (take i ss)) (map pos (take i ts)) → AreWithin (map whole_side (take (suc i) ss)) (map pos (take (suc i) ts))
within-step [] [] i f e lt a b h = absurd (omega arith)
within-step [] (t ∷ ts) i f e lt a b h = absurd (omega arith)
within-step (s ∷ ss) [] i f e lt a b h = absurd (omega arith)
within-step (s ∷ ss) (t ∷ ts) zero f e lt a b h = ((omega (arith, ints), omega (arith, ints)), none ss ts)
  where
    none : (ss : List (ℕ × ℕ)) (ts : List ℕ) → AreWithin (map whole_side (take 0 ss)) (map pos (take 0 ts))
    none [] [] = tt
    none [] (t ∷ ts) = tt
    none (s ∷ ss) [] = tt
    none (s ∷ ss) (t ∷ ts) = tt
within-step (s ∷ ss) (t ∷ ts) (suc i) f e lt a b h = (h.0, within-step ss ts i f (omega arith) (omega arith) a b h.1)

pub within-more : (ss : List (ℕ × ℕ)) (ts : List ℕ) (i : ℕ) (f : ℕ × ℕ) → length ts ≡ length ss → i < length ts → (get_or ss i f).0 ≤ get_or ts i 0 → get_or ts i 0 ≤ (get_or ss i f).1
    → AreWithin (map whole_side (take i ss)) (map pos (take i ts)) → AreWithin (map whole_side (take (i + 1) ss)) (map pos (take (i + 1) ts))
within-more ss ts i f e lt a b h =
    subst (λ n. AreWithin (map whole_side (take n ss)) (map pos (take n ts))) (let z : suc i ≡ i + 1 = omega arith in z) (within-step ss ts i f e lt a b h)

-- numbers that meet the rows with known totals, by a point of the box
module _ (rows : List Row) (region : Region) (totals : List ℕ) where
  size-known : length totals ≡ length region.registers → length (region.integers ++ map point_side totals) ≡ length region.integers + length region.registers
  size-known e = length-append region.integers (map point_side totals) ∙ ap (λ n. length region.integers + n) (length-map totals point_side ∙ e)

  pub known-box : (n : ℕ) (sides : List (ℤ × ℤ)) → sides ≡ region.integers ++ map point_side totals → length totals ≡ length region.registers → length region.integers ≡ n → All IsSide region.integers
      → AreWithin (map whole_side region.registers) (map pos totals) → HaveSides (n + length region.registers) rows → All (FitsRegion region) rows → IsBox rows sides
  known-box n sides e size count some within unknowns fits = rw e (record {
    some = All-append IsSide region.integers (map point_side totals) some (points-some totals);
    unknowns = subst (λ k. HaveSides k rows) (sym (size-known size ∙ ap (λ k. k + length region.registers) count)) unknowns;
    fits = fits-known region totals rows within fits;
  })

  pub known-some : (n : ℕ) (sides : List (ℤ × ℤ)) (point : List ℤ) → sides ≡ region.integers ++ map point_side totals → length region.integers ≡ n → IsPointFound rows sides (Some point)
      → AreGood rows region totals (take n point) × (n ≤ length point)
  known-some n sides point e count found =
      let h = subst (λ l. IsPointFound rows l (Some point)) e found in
      let f = front-within region.integers totals point h.0 in
      let size = f.2 in (
        record {
          within = subst (λ k. AreWithin region.integers (take k point)) count f.0;
          meets = subst (λ k. MeetAll rows (take k point ++ map pos totals)) count (subst (MeetAll rows) f.1 h.1);
        },
        omega arith,
      )

  pub known-none : (sides : List (ℤ × ℤ)) → sides ≡ region.integers ++ map point_side totals → IsPointFound rows sides None → AreGoodTotals rows region totals → ⊥
  known-none sides e found good =
      subst (λ l. IsPointFound rows l None) e found (good.1 ++ map pos totals) (within-append region.integers (map point_side totals) good.1 (map pos totals) good.2.within (points-within totals)) good.2.meets

  pub some-none : (sides : List (ℤ × ℤ)) → sides ≡ sides_of region → IsPointFound rows sides None → AreGoodTotals rows region totals → ⊥
  some-none sides e found good =
      subst (λ l. IsPointFound rows l None) e found (good.1 ++ map pos totals) (within-append region.integers (map whole_side region.registers) good.1 (map pos totals) good.2.within good.0) good.2.meets

  pub good-sides : (sides : List (ℤ × ℤ)) → sides ≡ sides_of region → AreGoodTotals rows region totals → All IsSide sides
  good-sides sides e good =
      rw e (All-append IsSide region.integers (map whole_side region.registers) (within-some region.integers good.1 good.2.within) (within-some (map whole_side region.registers) (map pos totals) good.0))

  pub good-integers : AreGoodTotals rows region totals → All IsSide region.integers
  good-integers good = within-some region.integers good.1 good.2.within

-- where a word may end
module _ (machines : List Graph) (region : Region) (rows : List Row) (at : Layer) where
  abbrev EndsSo : List (List ℕ) → Type 0
  EndsSo costs = (cost : List ℕ) → LayerEnd machines (uppers_of region) (AreGoodTotals rows region) at cost ↔ Any (λ e. e ≡ cost) costs

  pub ends-inside : (costs : List (List ℕ)) → costs ≡ [] → (at.machine ≡ length machines → ⊥) → EndsSo costs
  ends-inside costs e other cost = rw e ((λ h. absurd (other h.1)), (λ a. absurd (Any-none (λ e. e ≡ cost) a)))

  pub ends-without : (costs : List (List ℕ)) → costs ≡ [] → (AreGoodTotals rows region at.spent → ⊥) → EndsSo costs
  ends-without costs e none cost = rw e ((λ h. absurd (none h.2)), (λ a. absurd (Any-none (λ e. e ≡ cost) a)))

  pub ends-there : (costs : List (List ℕ)) → costs ≡ zeros (length region.registers) ∷ [] → at.machine ≡ length machines → AreGoodTotals rows region at.spent → EndsSo costs
  ends-there costs e last good cost =
      let same = ap zeros (length-uppers region.registers) in
      rw e (
        (λ h. Any-here (λ e. e ≡ cost) (zeros (length region.registers)) [] (sym (h.0 ∙ same))),
        (λ a. elim (Any-cases (λ e. e ≡ cost) (zeros (length region.registers)) [] a) [
          | inl is ↦ (sym (same ∙ is), last, good)
          | inr none ↦ absurd (Any-none (λ e. e ≡ cost) none)
        ]),
      )

  pub spent-length : IsLayerOf machines (uppers_of region) (AreGoodTotals rows region) at → length at.spent ≡ length region.registers
  spent-length h = length_zip at.spent (uppers_of region) h.below ∙ length-uppers region.registers
    where
      length_zip : (vs us : List ℕ) → AreWithinGreatest vs us → length vs ≡ length us
      length_zip [] [] h = refl
      length_zip [] (u ∷ us) h = absurd h
      length_zip (v ∷ vs) [] h = absurd h
      length_zip (v ∷ vs) (u ∷ us) h = ap suc (length_zip vs us h.1)

pub not-some : (rows : List Row) (sides : List (ℤ × ℤ)) (o : Option (List ℤ)) → is_some o ≡ false → IsPointFound rows sides o → IsPointFound rows sides None
not-some rows sides None e h = h
not-some rows sides (Some point) e h = cc
