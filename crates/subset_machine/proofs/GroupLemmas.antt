-- The intervals of characters, by the list that follows on them.
use Rattle.std.proofs.Common.{◌≡◌, ◌≢◌, ℕ, zero, suc, ◌+◌, ◌<◌, ◌≤◌, ◌⊎◌, inl, inr, ◌↔◌, true, false, Bool, IsTrue, Option, Some, None, unwrap_or, List, [], ◌∷◌, ◌++◌, length, take, get_or, Any, All, AllPairs, Contains, refl, sym, ap, ◌∙◌, subst, arith}
use Rattle.std.specs.List.{AllZip}
use Rattle.std.specs.Map.{lookup, keys_of}
use Rattle.std.specs.BTreeMap.{BTreeMap, get, is_at, IsOrdered}
use Rattle.std.specs.Ordering.{nat_cmp, is_eq, eq_by_cmp}
use Rattle.std.specs.declared.cmp.Ordering.{Ordering}
use Rattle.std.specs.declared.cmp.Ordering.TheVariants.{Less, Equal, Greater}
use Rattle.std.specs.Cmp.{tied_itself, eq_by_cmp_equiv}
use Rattle.std.proofs.lemmas.Cmp.{nat_list_cmp_total}
use Rattle.std.proofs.lemmas.List.{take_all, append_assoc}
use Rattle.std.proofs.lemmas.List.Elements.{All-nil, All-cons, Contains-append_left, Contains-push, Contains-push_cases, Contains-get_or}
use Rattle.std.proofs.lemmas.Map.Keys.{IsDistinct-from_sorted, Less-from_sorted}
use Rattle.std.proofs.lemmas.Map.Views.{Contains-from_lookup, lookup-from_Contains}
use Rattle.sv_word.specs.Ranges.{in_ranges, IsInhabited, IsApartFrom}
use Rattle.sv_list.specs.Lists.{Contains-here, Contains-there, Any-contains, contained, Contains-none, Contains-cases, some-once, AllZip-push, AllZip-length}
use Rattle.machine_core.specs.Orders.{nat_cmp-same, slice_cmp-same}
use Rattle.machine_core.specs.declared.machine.Move.{Move}
use Rattle.machine_core.specs.Moves.{Moves}
use Rattle.subset_machine.specs.Subsets.{ListsAll}
use Rattle.subset_machine.specs.Groups.{lists_cmp, FollowsOn, AreGroups, AddsMark, AreIntervals, MovesUnder}
use Rattle.subset_machine.proofs.AscendingLemmas.{lists-same}
use Rattle.subset_machine.proofs.LeavingLemmas.{ranges-out}
use Rattle.subset_machine.proofs.HitLemmas.{one-more}
use Rattle.sv_word.specs.Words.{greatest_character}

is_eq-same : (o : Ordering) → is_eq o ≡ true → o ≡ Equal
is_eq-same Less e = cc
is_eq-same Equal e = refl
is_eq-same Greater e = cc

-- lists that compare equal are one
pub lists_cmp-same : (x y : List ℕ) → is_eq (lists_cmp x y) ≡ true → x ≡ y
lists_cmp-same x y e = slice_cmp-same nat_cmp nat_cmp-same x y (is_eq-same (lists_cmp x y) e)

-- what the map has under a list, from what it had before one interval more
pub added : (old new : BTreeMap (List ℕ) (List (ℕ × ℕ))) (next : List ℕ) (m : ℕ × ℕ) → AddsMark old new next m → (q : List ℕ)
    → ((next ≡ q) × (get lists_cmp new q ≡ Some (unwrap_or (get lists_cmp old q) [] ++ m ∷ []))) ⊎ (get lists_cmp new q ≡ get lists_cmp old q)
added old new next m u q = by_test (is_at (lists_cmp next) q) refl
  where
    by_test : (b : Bool) → is_at (lists_cmp next) q ≡ b
        → ((next ≡ q) × (get lists_cmp new q ≡ Some (unwrap_or (get lists_cmp old q) [] ++ m ∷ []))) ⊎ (get lists_cmp new q ≡ get lists_cmp old q)
    by_test true e =
        let same = lists_cmp-same next q e in
        inl (same, subst (λ x. get lists_cmp new x ≡ Some (unwrap_or (get lists_cmp old x) [] ++ m ∷ [])) same u.1)
    by_test false e = inr (u.2 q e)

module _ (marks hits : List (ℕ × ℕ)) (dead : Bool) where
  pub groups-none : (groups : BTreeMap (List ℕ) (List (ℕ × ℕ))) → groups.entries ≡ [] → AreGroups [] hits dead groups
  groups-none groups e = record {
    sound = λ next ms g. absurd (empty next ms g);
    complete = λ m i. absurd (Contains-none m i);
    inhabited = λ next ms g. absurd (empty next ms g);
  }
    where
      empty : (next : List ℕ) (ms : List (ℕ × ℕ)) → get lists_cmp groups next ≡ Some ms → ⊥
      empty next ms g = let h = subst (λ es. lookup (is_at (lists_cmp next)) es ≡ Some ms) e g in cc

  module _ (i : ℕ) (m d : ℕ × ℕ) (lt : i < length marks) (is : m ≡ get_or marks i d) where
    grown : take (i + 1) marks ≡ take i marks ++ m ∷ []
    grown = one-more marks i m d lt is

    later : (p : ℕ × ℕ) → Contains (take i marks) p → Contains (take (i + 1) marks) p
    later p h = subst (λ l. Contains l p) (sym grown) (Contains-append_left (take i marks) (m ∷ []) p h)

    last : Contains (take (i + 1) marks) m
    last = subst (λ l. Contains l m) (sym grown) (Contains-push (take i marks) m)

    split : (p : ℕ × ℕ) → Contains (take (i + 1) marks) p → Contains (take i marks) p ⊎ (m ≡ p)
    split p h = Contains-push_cases (take i marks) m p (subst (λ l. Contains l p) grown h)

    -- one list follows on an interval
    pub follows-one : (p : ℕ × ℕ) (x y : List ℕ) → FollowsOn hits dead p x → FollowsOn hits dead p y → x ≡ y
    follows-one p x y f g = lists-same (λ t. Contains hits (p.0, t)) x y f.0 g.0

    pub groups-more : (old new : BTreeMap (List ℕ) (List (ℕ × ℕ))) (next : List ℕ) → FollowsOn hits dead m next → AddsMark old new next m
        → AreGroups (take i marks) hits dead old → AreGroups (take (i + 1) marks) hits dead new
    groups-more old new next f u g = record {
      sound = λ q ms e p j. elim (added old new next m u q) [
        | inl h ↦ elim (Contains-push_cases (unwrap_or (get lists_cmp old q) []) m p (subst (λ l. Contains l p) (some-once (get lists_cmp new q) ms (unwrap_or (get lists_cmp old q) [] ++ m ∷ []) e h.1) j)) [
          | inl k ↦ let r = before q p (get lists_cmp old q) refl k in (later p r.0, r.1)
          | inr same ↦ (subst (Contains (take (i + 1) marks)) same last, subst (λ x. FollowsOn hits dead x q) same (subst (FollowsOn hits dead m) h.0 f))
        ]
        | inr h ↦ let r = g.sound q ms (sym h ∙ e) p j in (later p r.0, r.1)
      ];
      complete = λ p j q fq. elim (split p j) [
        | inl k ↦
            let r = g.complete p k q fq in
            elim (added old new next m u q) [
              | inl h ↦ (
                unwrap_or (get lists_cmp old q) [] ++ m ∷ [],
                h.1,
                Contains-append_left (unwrap_or (get lists_cmp old q) []) (m ∷ []) p (subst (λ o. Contains (unwrap_or o []) p) (sym r.1) r.2),
              )
              | inr h ↦ (r.0, h ∙ r.1, r.2)
            ]
        | inr same ↦
            let at = follows-one m next q f (subst (λ x. FollowsOn hits dead x q) (sym same) fq) in (
              unwrap_or (get lists_cmp old next) [] ++ m ∷ [],
              subst (λ x. get lists_cmp new x ≡ Some (unwrap_or (get lists_cmp old next) [] ++ m ∷ [])) at u.1,
              subst (Contains (unwrap_or (get lists_cmp old next) [] ++ m ∷ [])) same (Contains-push (unwrap_or (get lists_cmp old next) []) m),
            )
      ];
      inhabited = λ q ms e. elim (added old new next m u q) [
        | inl h ↦ (m, subst (λ l. Contains l m) (some-once (get lists_cmp new q) (unwrap_or (get lists_cmp old q) [] ++ m ∷ []) ms h.1 e) (Contains-push (unwrap_or (get lists_cmp old q) []) m))
        | inr h ↦ g.inhabited q ms (sym h ∙ e)
      ];
    }
      where
        before : (q : List ℕ) (p : ℕ × ℕ) (o : Option (List (ℕ × ℕ))) → get lists_cmp old q ≡ o → Contains (unwrap_or o []) p → Contains (take i marks) p × FollowsOn hits dead p q
        before q p None e k = absurd (Contains-none p k)
        before q p (Some ms) e k = g.sound q ms e p k

    pub groups-skip : (old : BTreeMap (List ℕ) (List (ℕ × ℕ))) (next : List ℕ) → ListsAll (λ t. Contains hits (m.0, t)) next → ((next ≡ [] → IsTrue dead) → ⊥)
        → AreGroups (take i marks) hits dead old → AreGroups (take (i + 1) marks) hits dead old
    groups-skip old next f none g = record {
      sound = λ q ms e p j. let r = g.sound q ms e p j in (later p r.0, r.1);
      complete = λ p j q fq. elim (split p j) [
        | inl k ↦ g.complete p k q fq
        | inr same ↦
            let fm = subst (λ (x : ℕ × ℕ). FollowsOn hits dead x q) (sym same) fq in
            let at = lists-same (λ t. Contains hits (m.0, t)) q next fm.0 f in
            absurd (none (subst (λ x. x ≡ [] → IsTrue dead) at fm.1))
      ];
      inhabited = g.inhabited;
    }

  pub groups-done : (i : ℕ) (groups : BTreeMap (List ℕ) (List (ℕ × ℕ))) → length marks ≤ i → AreGroups (take i marks) hits dead groups → AreGroups marks hits dead groups
  groups-done i groups le g = subst (λ l. AreGroups l hits dead groups) (take_all i marks le) g

-- the entries of a map are what it has
module _ (groups : BTreeMap (List ℕ) (List (ℕ × ℕ))) (ordered : IsOrdered lists_cmp groups) where
  pub entry-got : (q : List ℕ) (ms : List (ℕ × ℕ)) → Contains groups.entries (q, ms) → get lists_cmp groups q ≡ Some ms
  entry-got q ms i = lookup-from_Contains (eq_by_cmp_equiv nat_list_cmp_total) q ms groups.entries (IsDistinct-from_sorted lists_cmp (keys_of groups.entries) ordered) i

  pub got-entry : (q : List ℕ) (ms : List (ℕ × ℕ)) → get lists_cmp groups q ≡ Some ms → Contains groups.entries (q, ms)
  got-entry q ms e = Contains-from_lookup {eq = eq_by_cmp lists_cmp} lists_cmp-same q ms groups.entries e

abbrev pub Entry : Type 0
Entry = List ℕ × List (ℕ × ℕ)

-- the move reads the characters of an entry and leads to its list
pub record IsMoveOf (e : Entry) (m : Move (List ℕ)) : Type 0 where
  pub on : (c : ℕ) → in_ranges m.on c ≡ in_ranges e.1 c
  pub cost : m.cost ≡ []
  pub to : m.to ≡ e.0
  pub inhabited : IsInhabited m.on

-- the first entries have their moves, and the others are left
pub record Popped (all left : List Entry) (moves : List (Move (List ℕ))) : Type 0 where
  pub done : List Entry
  pub split : all ≡ done ++ left
  pub zip : AllZip IsMoveOf done moves
  pub intervals : (e : Entry) → Contains left e → AreIntervals e.1

pub popped-start : (groups : BTreeMap (List ℕ) (List (ℕ × ℕ))) → IsOrdered lists_cmp groups
    → ((next : List ℕ) (ms : List (ℕ × ℕ)) → get lists_cmp groups next ≡ Some ms → AreIntervals ms) → Popped groups.entries groups.entries []
popped-start groups ordered h = record { done = []; split = refl; zip = tt; intervals = λ e i. h e.0 e.1 (entry-got groups ordered e.0 e.1 i) }

apart-inhabited : (rs : List (ℕ × ℕ)) (c : ℕ) → IsApartFrom 0 rs → IsTrue (in_ranges rs c) → IsInhabited rs
apart-inhabited [] c h t = cc
apart-inhabited (p ∷ ps) c h t = ranges-out (p ∷ ps) p.0 p (Contains-here p ps) (omega arith, h.1)

pub popped-more : (all left rest : List Entry) (moves new : List (Move (List ℕ))) (e : Entry) (on : List (ℕ × ℕ)) (m : Move (List ℕ))
    → left ≡ e ∷ rest → ((c : ℕ) → in_ranges on c ≡ in_ranges e.1 c) → IsApartFrom 0 on → m ≡ record { on = on; cost = []; to = e.0 } → new ≡ moves ++ m ∷ []
    → Popped all left moves → Popped all rest new
popped-more all left rest moves new e on m front same apart made pushed p =
    let intervals = p.intervals e (subst (λ l. Contains l e) (sym front) (Contains-here e rest)) in
    let first = intervals.some in
    let inside = intervals.inside first.0 first.1 in
    let some : IsTrue (in_ranges on first.0.0) = same first.0.0 ∙ ranges-out e.1 first.0.0 first.0 first.1 (omega arith, inside.0) in
    let one : IsMoveOf e (record { on = on; cost = []; to = e.0 }) = record { on = same; cost = refl; to = refl; inhabited = apart-inhabited on first.0.0 apart some } in
    record {
      done = p.done ++ e ∷ [];
      split = p.split ∙ ap (λ l. p.done ++ l) front ∙ sym (append_assoc p.done (e ∷ []) rest);
      zip = subst (AllZip IsMoveOf (p.done ++ e ∷ [])) (sym pushed) (AllZip-push IsMoveOf p.done moves e m p.zip (subst (IsMoveOf e) (sym made) one));
      intervals = λ x i. p.intervals x (subst (λ l. Contains l x) (sym front) (Contains-there e rest x i));
    }

-- the intervals of the entry in front are characters
pub popped-inside : (all left rest : List Entry) (moves : List (Move (List ℕ))) (e : Entry) (slice : List (ℕ × ℕ)) → Popped all left moves → left ≡ e ∷ rest → slice ≡ e.1
    → All (λ m. m.1 ≤ greatest_character) slice
popped-inside all left rest moves e slice p front same k d lt =
    let intervals = p.intervals e (subst (λ l. Contains l e) (sym front) (Contains-here e rest)) in
    (intervals.inside (get_or slice k d) (subst (λ l. Contains l (get_or slice k d)) same (Contains-get_or slice k d lt))).1

pub popped-all : (all left : List Entry) (moves : List (Move (List ℕ))) → Popped all left moves → left ≡ [] → AllZip IsMoveOf all moves
popped-all all left moves p none = subst (λ l. AllZip IsMoveOf l moves) (sym (p.split ∙ ap (λ l. p.done ++ l) none ∙ append_nil p.done)) p.zip
  where
    append_nil : {X : Type 0} (xs : List X) → xs ++ [] ≡ xs
    append_nil [] = refl
    append_nil (x ∷ xs) = ap (λ l. x ∷ l) (append_nil xs)

pub none-left : {X : Type 0} (xs : List X) → (0 < length xs → false ≡ true) → xs ≡ []
none-left [] h = refl
none-left (x ∷ xs) h = let e = h (omega arith) in cc

-- two lists that are tied element by element
module _ {X Y : Type 0} (R : X → Y → Type 0) where
  zip-right : (xs : List X) (ys : List Y) (x : X) → AllZip R xs ys → Contains xs x → (y : Y) × Contains ys y × R x y
  zip-right [] [] x z i = absurd (Contains-none x i)
  zip-right [] (b ∷ ys) x z i = absurd z
  zip-right (a ∷ xs) [] x z i = absurd z
  zip-right (a ∷ xs) (b ∷ ys) x z i = elim (Contains-cases a xs x i) [
    | inl e ↦ (b, Contains-here b ys, subst (λ w. R w b) e z.0)
    | inr j ↦ let r = zip-right xs ys x z.1 j in (r.0, Contains-there b ys r.0 r.1, r.2)
  ]

  zip-left : (xs : List X) (ys : List Y) (y : Y) → AllZip R xs ys → Contains ys y → (x : X) × Contains xs x × R x y
  zip-left [] [] y z i = absurd (Contains-none y i)
  zip-left [] (b ∷ ys) y z i = absurd z
  zip-left (a ∷ xs) [] y z i = absurd z
  zip-left (a ∷ xs) (b ∷ ys) y z i = elim (Contains-cases b ys y i) [
    | inl e ↦ (a, Contains-here a xs, subst (R a) e z.0)
    | inr j ↦ let r = zip-left xs ys y z.1 j in (r.0, Contains-there a xs r.0 r.1, r.2)
  ]

  zip-all : (P : Y → Type 0) → ((x : X) (y : Y) → R x y → P y) → (xs : List X) (ys : List Y) → AllZip R xs ys → All P ys
  zip-all P h [] [] z = All-nil P
  zip-all P h [] (b ∷ ys) z = absurd z
  zip-all P h (a ∷ xs) [] z = absurd z
  zip-all P h (a ∷ xs) (b ∷ ys) z = All-cons P b ys (h a b z.0) (zip-all P h xs ys z.1)

  zip-at : (xs : List X) (ys : List Y) (i : ℕ) (d : X) (e : Y) → AllZip R xs ys → i < length ys → R (get_or xs i d) (get_or ys i e)
  zip-at [] [] i d e z lt = absurd (omega arith)
  zip-at [] (b ∷ ys) i d e z lt = absurd z
  zip-at (a ∷ xs) [] i d e z lt = absurd z
  zip-at (a ∷ xs) (b ∷ ys) zero d e z lt = z.0
  zip-at (a ∷ xs) (b ∷ ys) (suc i) d e z lt = zip-at xs ys i d e z.1 (omega arith)

module _ (groups : BTreeMap (List ℕ) (List (ℕ × ℕ))) (ordered : IsOrdered lists_cmp groups) (moves : List (Move (List ℕ))) (zip : AllZip IsMoveOf groups.entries moves) where
  pub moves-exact : (c : ℕ) (cost to : List ℕ) → MovesUnder groups c cost to ↔ Any (Moves c cost to) moves
  moves-exact c cost to = (
    λ u.
        let r = zip-right IsMoveOf groups.entries moves (to, u.0) zip (got-entry groups ordered to u.0 u.1) in
        Any-contains (Moves c cost to) moves r.0 r.1 (r.2.on c ∙ u.2, r.2.cost ∙ sym u.3, r.2.to),
    λ a.
        let m = contained (Moves c cost to) moves a in
        let r = zip-left IsMoveOf groups.entries moves m.0 zip m.1 in
        let at : r.0.0 ≡ to = sym r.2.to ∙ m.2.2 in
        (r.0.1, subst (λ q. get lists_cmp groups q ≡ Some r.0.1) at (entry-got groups ordered r.0.0 r.0.1 r.1), sym (r.2.on c) ∙ m.2.0, sym m.2.1 ∙ r.2.cost),
  )

  pub moves-inhabited : All (λ m. IsInhabited m.on) moves
  moves-inhabited = zip-all IsMoveOf (λ m. IsInhabited m.on) (λ e m h. h.inhabited) groups.entries moves zip

  pub moves-joined : AllPairs (λ m n. m.to ≢ n.to) moves
  moves-joined i j d lt inside same =
      let none : Entry = (d.to, []) in
      let long = AllZip-length IsMoveOf groups.entries moves zip in
      let a = zip-at IsMoveOf groups.entries moves i none d zip (omega arith) in
      let b = zip-at IsMoveOf groups.entries moves j none d zip inside in
      let keys : (get_or groups.entries i none).0 ≡ (get_or groups.entries j none).0 = sym a.to ∙ same ∙ b.to in
      let less = key-less i j none lt (omega arith) in
      let equal = tied_itself nat_list_cmp_total (get_or groups.entries j none).0 in
      let here : lists_cmp (get_or groups.entries j none).0 (get_or groups.entries j none).0 ≡ Less = subst (λ x. lists_cmp x (get_or groups.entries j none).0 ≡ Less) keys less in
      cc
    where
      get-key : (es : List Entry) (k : ℕ) (e : Entry) → get_or (keys_of es) k e.0 ≡ (get_or es k e).0
      get-key [] k e = refl
      get-key (x ∷ es) zero e = refl
      get-key (x ∷ es) (suc k) e = get-key es k e

      keys-long : (es : List Entry) → length (keys_of es) ≡ length es
      keys-long [] = refl
      keys-long (x ∷ es) = ap suc (keys-long es)

      key-less : (i j : ℕ) (e : Entry) → i < j → j < length groups.entries → lists_cmp (get_or groups.entries i e).0 (get_or groups.entries j e).0 ≡ Less
      key-less i j e lt inside =
          let l = Less-from_sorted lists_cmp (keys_of groups.entries) i j e.0 ordered lt (subst (λ n. j < n) (sym (keys-long groups.entries)) inside) in
          subst (λ x. lists_cmp x (get_or groups.entries j e).0 ≡ Less) (get-key groups.entries i e) (subst (λ x. lists_cmp (get_or (keys_of groups.entries) i e.0) x ≡ Less) (get-key groups.entries j e) l)
