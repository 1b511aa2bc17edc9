-- Which states follow on the first characters of intervals.
use Rattle.std.proofs.Common.{◌≡◌, ℕ, ◌+◌, ◌<◌, ◌≤◌, inl, inr, ◌↔◌, nat_eq, List, [], ◌∷◌, ◌++◌, length, map, take, get_or, Any, Contains, refl, sym, ap, ◌∙◌, subst, arith}
use Rattle.std.specs.List.{dedup, flat_map}
use Rattle.std.specs.List.Retain.{IsFiltered, DiffersFromLast}
use Rattle.std.specs.List.Sorted.{IsPermutation, IsSorted, IsStrictlyIncreasing}
use Rattle.std.specs.Ordering.{nat_cmp}
use Rattle.std.proofs.lemmas.List.{append_assoc, flat_map_more, map_push, take_more, take_all}
use Rattle.std.proofs.lemmas.List.Elements.{Contains-append_left, Contains-append_right, Contains-append_cases}
use Rattle.std.proofs.lemmas.List.Filters.{dedup_is}
use Rattle.std.proofs.lemmas.List.Kept.{Contains-dedup_nat, Contains-from_dedup}
use Rattle.std.proofs.lemmas.List.Sorted.{Contains-permutation, IsPermutation-sym, IsNonDecreasingBy-from_sort}
use Rattle.std.proofs.lemmas.Map.Keys.{IsStrictlyIncreasing-dedup}
use Rattle.sv_list.specs.Lists.{Any-append_left, Any-append_right, Any-push_cases, Any-here, Any-contains, contained, Contains-from_map, Contains-map}
use Rattle.subset_machine.specs.declared.leaving.EdgeRange.{EdgeRange}
use Rattle.subset_machine.specs.Legs.{RangeLeads, AreHits}
use Rattle.subset_machine.specs.Subsets.{ListsAll}
use Rattle.subset_machine.proofs.MarkLemmas.{pairs_cmp, sorted-first}

-- the first characters of the intervals, with the states that these ranges lead to on them
abbrev pub HitsOf : List EdgeRange → List (ℕ × ℕ) → List (ℕ × ℕ) → Type 0
HitsOf legs marks hits = (c t : ℕ) → Contains hits (c, t) ↔ (Any (λ m. m.0 ≡ c) marks × Any (RangeLeads c t) legs)

-- what a range leads to on the first character of an interval
abbrev pub hit : ℕ → ℕ × ℕ → ℕ × ℕ
hit to m = (m.0, to)

pub one-more : {X : Type 0} (xs : List X) (i : ℕ) (x d : X) → i < length xs → x ≡ get_or xs i d → take (i + 1) xs ≡ take i xs ++ x ∷ []
one-more xs i x d lt is = take_more xs i d lt ∙ ap (λ y. take i xs ++ y ∷ []) (sym is)

-- what a loop makes of one element more
pub mapped-more : {X Y : Type 0} (f : X → Y) (xs : List X) (i : ℕ) (d : X) (old new : List Y) → i < length xs → old ≡ map f (take i xs) → new ≡ old ++ f (get_or xs i d) ∷ [] → new ≡ map f (take (i + 1) xs)
mapped-more f xs i d old new lt before made =
    let x = get_or xs i d in
    made ∙ ap (λ l. l ++ f x ∷ []) before ∙ sym (ap (map f) (one-more xs i x d lt refl) ∙ map_push f (take i xs) x)

pub mapped-behind : {X Y : Type 0} (f : X → Y) (xs : List X) (i : ℕ) (d : X) (start old new : List Y) → i < length xs → old ≡ start ++ map f (take i xs) → new ≡ old ++ f (get_or xs i d) ∷ [] → new ≡ start ++ map f (take (i + 1) xs)
mapped-behind f xs i d start old new lt before made =
    let x = get_or xs i d in
    made ∙ ap (λ l. l ++ f x ∷ []) before ∙ append_assoc start (map f (take i xs)) (f x ∷ []) ∙ ap (λ l. start ++ l) (sym (ap (map f) (one-more xs i x d lt refl) ∙ map_push f (take i xs) x))

pub joined-more : {X Y : Type 0} (f : X → List Y) (xs : List X) (i : ℕ) (d : X) (old part new : List Y) → i < length xs → old ≡ flat_map f (take i xs) → part ≡ f (get_or xs i d) → new ≡ old ++ part → new ≡ flat_map f (take (i + 1) xs)
joined-more f xs i d old part new lt before same made =
    let x = get_or xs i d in
    made ∙ ap (λ l. l ++ part) before ∙ ap (λ l. flat_map f (take i xs) ++ l) same ∙ flat_map_more f [] (take i xs) x ∙ ap (flat_map f) (sym (one-more xs i x d lt refl))

pub hits-more : (legs : List EdgeRange) (marks part hits new : List (ℕ × ℕ)) (i : ℕ) (s d : EdgeRange) → i < length legs → s ≡ get_or legs i d
    → ((p : ℕ × ℕ) → Contains part p ↔ (Contains marks p × (s.low ≤ p.0) × (p.0 ≤ s.high)))
    → new ≡ hits ++ map (hit s.to) part → HitsOf (take i legs) marks hits → HitsOf (take (i + 1) legs) marks new
hits-more legs marks part hits new i s d lt is within made before c t =
    let grown = one-more legs i s d lt is in (
      λ h. elim (Contains-append_cases hits (map (hit s.to) part) (c, t) (subst (λ l. Contains l (c, t)) made h)) [
        | inl j ↦ let b = (before c t).0 j in (b.0, subst (Any (RangeLeads c t)) (sym grown) (Any-append_left (RangeLeads c t) (take i legs) (s ∷ []) b.1))
        | inr j ↦
            let m = Contains-from_map (hit s.to) part (c, t) j in
            let w = (within m.0).0 m.1 in
            let at : m.0.0 ≡ c = ap (λ (p : ℕ × ℕ). p.0) m.2 in
            let to : s.to ≡ t = ap (λ (p : ℕ × ℕ). p.1) m.2 in
            let l : RangeLeads c t s = (subst (λ n. s.low ≤ n) at w.1, subst (λ n. n ≤ s.high) at w.2, to) in
            (Any-contains (λ (m : ℕ × ℕ). m.0 ≡ c) marks m.0 w.0 at, subst (Any (RangeLeads c t)) (sym grown) (Any-append_right (RangeLeads c t) (take i legs) (s ∷ []) (Any-here (RangeLeads c t) s [] l)))
      ],
      λ a. subst (λ l. Contains l (c, t)) (sym made) (elim (Any-push_cases (RangeLeads c t) (take i legs) s (subst (Any (RangeLeads c t)) grown a.1)) [
        | inl b ↦ Contains-append_left hits (map (hit s.to) part) (c, t) ((before c t).1 (a.0, b))
        | inr l ↦
            let m = contained (λ (m : ℕ × ℕ). m.0 ≡ c) marks a.0 in
            let j = (within m.0).1 (m.1, subst (λ n. s.low ≤ n) (sym m.2) l.0, subst (λ n. n ≤ s.high) (sym m.2) l.1) in
            let same : hit s.to m.0 ≡ (c, t) = ap (λ n. (n, s.to)) m.2 ∙ ap (λ n. (c, n)) l.2 in
            Contains-append_right hits (map (hit s.to) part) (c, t) (subst (Contains (map (hit s.to) part)) same (Contains-map (hit s.to) part m.0 j))
      ]),
    )

pub hits-done : (legs : List EdgeRange) (marks hits sorted : List (ℕ × ℕ)) (i : ℕ) → length legs ≤ i → HitsOf (take i legs) marks hits
    → IsPermutation hits sorted → IsSorted pairs_cmp sorted → AreHits legs marks sorted
hits-done legs marks hits sorted i le before perm order =
    let h = subst (λ l. HitsOf l marks hits) (take_all i legs le) before in
    record {
      order = IsNonDecreasingBy-from_sort (λ (p : ℕ × ℕ). p.0) sorted (sorted-first sorted order);
      exact = λ c t. (
        λ j. (h c t).0 (Contains-permutation sorted hits (c, t) (IsPermutation-sym hits sorted perm) j),
        λ a. Contains-permutation hits sorted (c, t) perm ((h c t).1 a),
      );
    }

-- the states that the hits have at a character, sorted and without repeats
pub target-made : (hits part : List (ℕ × ℕ)) (first : ℕ) (states sorted out : List ℕ)
    → ((p : ℕ × ℕ) → Contains part p ↔ (Contains hits p × (first ≤ p.0) × (p.0 ≤ first)))
    → states ≡ map (λ (h : ℕ × ℕ). h.1) part → IsPermutation states sorted → IsSorted nat_cmp sorted → IsFiltered (DiffersFromLast nat_eq) [] sorted out
    → ListsAll (λ t. Contains hits (first, t)) out
target-made hits part first states sorted out within made perm order filtered =
    let is : out ≡ dedup nat_eq sorted = dedup_is nat_eq sorted out filtered in
    record {
      ascending = subst IsStrictlyIncreasing (sym is) (IsStrictlyIncreasing-dedup sorted order);
      exact = λ t. (
        λ i.
            let a = Contains-from_dedup nat_eq sorted t (subst (λ l. Contains l t) is i) in
            let b = subst (λ l. Contains l t) made (Contains-permutation sorted states t (IsPermutation-sym states sorted perm) a) in
            let h = Contains-from_map (λ (h : ℕ × ℕ). h.1) part t b in
            let w = (within h.0).0 h.1 in
            let at : h.0.0 ≡ first = (let l = w.1 in let u = w.2 in omega arith) in
            subst (Contains hits) (ap (λ n. (n, h.0.1)) at ∙ ap (λ n. (first, n)) h.2) w.0,
        λ i.
            let j = (within (first, t)).1 (i, omega arith, omega arith) in
            let a = subst (λ l. Contains l t) (sym made) (Contains-map (λ (h : ℕ × ℕ). h.1) part (first, t) j) in
            subst (λ l. Contains l t) (sym is) (Contains-dedup_nat sorted t (Contains-permutation states sorted t perm a)),
      );
    }
