-- Refutations that stand on some variables, from a family to the one before it.
use Rattle.std.proofs.Common.{◌≡◌, ℕ, zero, suc, ◌<◌, ◌+◌, Bool, true, false, List, [], ◌∷◌, ◌++◌, length, map, take, Contains, Some, slice_get, refl, sym, ap, ◌∙◌, subst, append_assoc, append-nil, length-append, arith, inl, inr}
use Rattle.std.proofs.lemmas.Bool.Decides.{eqb_tells}
use Rattle.std.proofs.lemmas.List.{length-map}
use Rattle.std.proofs.lemmas.Option.{slice_get_within}
use Rattle.sv_list.specs.Lists.{Contains-middle, slice_get-contains}
use Rattle.sv_terms.specs.Meaning.{joined}
use Rattle.machine_core.specs.Costs.{add_costs}
use Rattle.machine_core.specs.declared.graph.Graph.{Graph}
use Rattle.machine_core.specs.Graphs.{Accepts}
use Rattle.pre_image.specs.Slices.{Between}
use Rattle.search_hits.specs.declared.region.Region.{Region}
use Rattle.flat_cubes.specs.Satisfying.{ComesBy}
use Rattle.flat_cubes.specs.Using.{used}
use Rattle.flat_cubes.specs.declared.definition.By.{By}
use Rattle.flat_cubes.specs.declared.definition.By.TheVariants as by
use Rattle.flat_cubes.specs.declared.flat.Flat.{Flat}
use Rattle.sv_terms.specs.declared.transducer.Transducer.{Transducer}
use Rattle.backward.specs.Chains.{width}
use Rattle.backward.specs.Definitions.{definition, reads, RelatesBy}
use Rattle.backward.specs.Families.{Family, Words, HasMachine, without}
use Rattle.backward.specs.Leaves.{Obey}
use Rattle.backward.specs.Made.{AreMet, IsCut, IsPassed}
use Rattle.backward.specs.Pieces.{AreCuts, RunsInTurn, first_of}
use Rattle.backward.specs.Ways.{LeadInTurn}
use Rattle.backward.specs.declared.leaf_state.LeafState.{LeafState}
use Rattle.backward.specs.declared.meeting.MetPart.{MetPart}
use Rattle.backward.proofs.ConfLemmas.{set-other, set-same, without-other}
use Rattle.backward.proofs.CutLemmas.{turns-cut}
use Rattle.backward.proofs.MeetingLemmas.{graph-words}
use Rattle.backward.proofs.StepLemmas.{comes-gives}
use Rattle.backward.proofs.WayLemmas.{conf-accepts, one-machine}
use Rattle.cube_search.specs.Conflicts.{is_named, HaveMachines, AreRead, LieBetween, IsRefutedBy, IsRefutedFrom, AreRefutedFrom, AreNamesOf, NamesOwn}
use Rattle.cube_search.specs.Tallies.{IsCovered, AreCoveredFrom}
use Rattle.cube_search.specs.declared.tally.LeafTally.{LeafTally}
use Rattle.cube_search.proofs.DeadLemmas.{no_run}
use Rattle.cube_search.proofs.NameLemmas.{not-both}
use Rattle.cube_search.proofs.OrderLemmas.{obey-split}
use Rattle.cube_search.proofs.WayLemmas.{some-cuts}

-- nothing is left to account for
pub refuted-covered : (flat : Flat) (region : Region) (left : ℕ) (ms : Family) (names : List Bool) (tally : LeafTally) → IsRefutedBy flat left ms names → IsCovered flat region left ms tally
refuted-covered flat region left ms names tally h words totals ints conf obey meets =
    absurd (h.none words (λ v named. (let k = h.have v named in let a = conf-accepts (width flat) ms words totals conf v k.0 k.1 in (k.0, a.0, k.1, a.1))) obey)

-- a machine without an end
pub dead-refuted : (flat : Flat) (left : ℕ) (ms : Family) (v : ℕ) (m : Graph) (names : List Bool) → HasMachine ms v m → m.ends ≡ [] → AreNamesOf (v ∷ []) names → IsRefutedBy flat left ms names
dead-refuted flat left ms v m names has ends of = record {
  have = λ u named. (m, subst (λ w. HasMachine ms w m) (alone u (of.only u named)) has);
  none = λ words reads obey.
      let r = reads v (of.all v (zero, omega arith, refl)) in
      let same = one-machine ms v r.0 m r.2 has in
      no_run m ends 0 (words v) r.1 (subst (λ g. Accepts g (words v) r.1) same r.3);
}
  where
    alone : (u : ℕ) → Contains (v ∷ []) u → v ≡ u
    alone u (zero, k, e) = e
    alone u (suc n, k, e) = absurd (omega (arith, k))

first-get : (ss : List ℕ) → slice_get ss 0 ≡ first_of ss
first-get [] = refl
first-get (s ∷ ss) = refl

module _ (target : Graph) (words : Words) (v : ℕ) where
  abbrev Reads : Family → Type 0
  Reads ms = (k : Graph) × (cost : List ℕ) × HasMachine ms v k × Accepts k (words v) cost

  -- where its word lies between the cuts, the family behind a cut reads what the one before it reads
  met-reads : (starts pieces : List ℕ) (base : Family) (qs : List MetPart) (ns : Family) → AreMet target starts pieces base qs ns
      → ((place s : ℕ) → slice_get pieces place ≡ Some v → slice_get starts place ≡ Some s → (cost : List ℕ) × Between target s (slice_get starts (suc place)) (words v) cost)
      → Reads base → Reads ns
  met-reads [] [] base qs ns m lie r = (r.0, r.1, ap (λ (l : Family). slice_get l v) m.1 ∙ r.2, r.3)
  met-reads [] (p ∷ ps) base qs ns m lie r = absurd m
  met-reads (s ∷ ss) [] base qs ns m lie r = absurd m
  met-reads (s ∷ ss) (p ∷ ps) base qs ns m lie r =
      let rest = met-reads ss ps base m.3 m.0 m.4 (λ place t e f. lie (suc place) t e f) r in
      let small = m.2.small.machine in
      elim (eqb_tells v p) [
        | inl is ↦
            let here = lie zero s (ap Some (sym is.1)) refl in
            let between : Between target s (first_of ss) (words p) here.0 =
            subst (λ o. Between target s o (words p) here.0) (first-get ss) (subst (λ u. Between target s (slice_get ss 0) (words u) here.0) is.1 here.1) in
            let same = one-machine m.0 p rest.0 m.1 (subst (λ u. HasMachine m.0 u rest.0) is.1 rest.2) m.5 in
            let reads : Accepts m.1 (words p) rest.1 = subst (λ u. Accepts m.1 (words u) rest.1) is.1 (subst (λ g. Accepts g (words v) rest.1) same rest.3) in
            let both = (m.6.meets.language (words p) (add_costs rest.1 here.0)).1 (rest.1, here.0, reads, between, refl) in (
              small,
              add_costs rest.1 here.0,
              subst (λ u. HasMachine ns u small) (sym is.1) (ap (λ (l : Family). slice_get l p) m.8 ∙ set-same m.0 p (Some m.1) (Some small) m.5),
              subst (λ u. Accepts small (words u) (add_costs rest.1 here.0)) (sym is.1) both,
            )
        | inr other ↦ (rest.0, rest.1, ap (λ (l : Family). slice_get l v) m.8 ∙ set-other m.0 p v (Some small) other.1 ∙ rest.2, rest.3)
      ]

-- a variable with a machine behind a cut had one before it
met-had : (target : Graph) (v : ℕ) (starts pieces : List ℕ) (base : Family) (qs : List MetPart) (ns : Family) → AreMet target starts pieces base qs ns → (k : Graph) → HasMachine ns v k → (j : Graph) × HasMachine base v j
met-had target v [] [] base qs ns m k has = (k, sym (ap (λ (l : Family). slice_get l v) m.1) ∙ has)
met-had target v [] (p ∷ ps) base qs ns m k has = absurd m
met-had target v (s ∷ ss) [] base qs ns m k has = absurd m
met-had target v (s ∷ ss) (p ∷ ps) base qs ns m k has = elim (eqb_tells v p) [
  | inl is ↦ met-had target v ss ps base m.3 m.0 m.4 m.1 (subst (λ u. HasMachine m.0 u m.1) (sym is.1) m.5)
  | inr other ↦ met-had target v ss ps base m.3 m.0 m.4 k (sym (ap (λ (l : Family). slice_get l v) m.8 ∙ set-other m.0 p v (Some m.2.small.machine) other.1) ∙ has)
]

-- a refutation of the family behind whole cuts
pub cut-refuted : (flat : Flat) (at x : ℕ) (m : Graph) (pieces cuts : List ℕ) (ms : Family) (ns : LeafState) (names : List Bool) → HasMachine ms x m → length cuts + 1 ≡ length pieces
    → IsCut ms x pieces cuts ns → IsRefutedBy flat at ns.machines names → IsRefutedFrom flat at x m pieces ms cuts names
cut-refuted flat at x m pieces cuts ms ns names has full c h = record {
  have = λ v named. (let old = had v named in (old.0, sym (set-other ms x v _ (apart v named)) ∙ old.1));
  other = λ named. apart x named refl;
  none = whole;
}
  where
    had : (v : ℕ) → is_named names v ≡ true → (j : Graph) × HasMachine (without ms x) v j
    had v named = let k = h.have v named in met-had c.target v (0 ∷ cuts) pieces (without ms x) c.meetings ns.machines c.met k.0 k.1

    apart : (v : ℕ) → is_named names v ≡ true → v ≡ x → ⊥
    apart v named = let old = had v named in without-other ms x v old.0 old.1

    whole : (words : Words) (rest : List ℕ) → AreCuts m pieces (cuts ++ rest) → AreRead ms names words → LieBetween m (0 ∷ cuts ++ rest) pieces names words → Obey (take at flat.definitions) words → ⊥
    whole words [] are reads lie obey =
        let lies = subst (λ l. LieBetween m (0 ∷ l) pieces names words) (append-nil cuts) lie in
        let lies-there = subst (λ g. LieBetween g (0 ∷ cuts) pieces names words) (one-machine ms x m c.target has c.machine) lies in
        h.none words (λ v named. (let r = reads v named in
        met-reads c.target words v (0 ∷ cuts) pieces (without ms x) c.meetings ns.machines c.met (λ place s e f. lies-there place v s e f named)
        (r.0, r.1, set-other ms x v _ (apart v named) ∙ r.2, r.3))) obey
    whole words (s ∷ rest) are reads lie obey = let n = are.count in let e = length-append cuts (s ∷ rest) in absurd (omega (arith, n, e, full))

-- one state exchanged
get-exchanged : (xs : List ℕ) (a b : ℕ) (ys : List ℕ) (j : ℕ) → (j ≡ length xs → ⊥) → slice_get (xs ++ a ∷ ys) j ≡ slice_get (xs ++ b ∷ ys) j
get-exchanged [] a b ys zero ne = absurd (ne refl)
get-exchanged [] a b ys (suc j) ne = refl
get-exchanged (x ∷ xs) a b ys zero ne = refl
get-exchanged (x ∷ xs) a b ys (suc j) ne = get-exchanged xs a b ys j (λ e. ne (ap suc e))

all-exchanged : (P : ℕ → Type 0) (xs : List ℕ) (a b : ℕ) (ys : List ℕ) → ((i : ℕ) → Contains (xs ++ a ∷ ys) i → P i) → P b → (i : ℕ) → Contains (xs ++ b ∷ ys) i → P i
all-exchanged P [] a b ys h p i (zero, k, e) = subst P e p
all-exchanged P [] a b ys h p i (suc n, k, e) = h i (suc n, omega (arith, k), e)
all-exchanged P (x ∷ xs) a b ys h p i (zero, k, e) = h i (zero, omega arith, e)
all-exchanged P (x ∷ xs) a b ys h p i (suc n, k, e) = all-exchanged P xs a b ys (λ j c. h j (suc c.0, omega (arith, c.1), c.2)) p i (n, omega (arith, k), e)

-- a refutation behind one cut more, which names neither of the pieces beside it
pub jump-refuted : (flat : Flat) (at x : ℕ) (m : Graph) (pieces : List ℕ) (ms : Family) (cuts : List ℕ) (s : ℕ) (names : List Bool) (p q : ℕ) → s < m.states
    → slice_get pieces (length cuts) ≡ Some p → slice_get pieces (length cuts + 1) ≡ Some q → is_named names p ≡ false → is_named names q ≡ false
    → IsRefutedFrom flat at x m pieces ms (cuts ++ s ∷ []) names → IsRefutedFrom flat at x m pieces ms cuts names
jump-refuted flat at x m pieces ms cuts s names p q below at-p at-q not-p not-q h = record { have = h.have; other = h.other; none = none }
  where
    same-piece : (a b r t : ℕ) → slice_get pieces a ≡ Some r → slice_get pieces b ≡ Some t → a ≡ b → t ≡ r
    same-piece a b r t e f is = let one : Some t ≡ Some r = sym f ∙ ap (slice_get pieces) (sym is) ∙ e in cc

    none : (words : Words) (rest : List ℕ) → AreCuts m pieces (cuts ++ rest) → AreRead ms names words → LieBetween m (0 ∷ cuts ++ rest) pieces names words → Obey (take at flat.definitions) words → ⊥
    none words [] are reads lie obey =
        let n = are.count in
        let e = length-append cuts [] in
        let lt = slice_get_within pieces (length cuts + 1) q at-q in
        absurd (omega (arith, n, e, lt))
    none words (t ∷ rest) are reads lie obey =
        let same : (cuts ++ s ∷ []) ++ rest ≡ cuts ++ s ∷ rest = append_assoc cuts (s ∷ []) rest in
        let these : AreCuts m pieces (cuts ++ s ∷ rest) = record {
          count = are.count ∙ ap suc (length-append cuts (t ∷ rest) ∙ sym (length-append cuts (s ∷ rest)));
          states = all-exchanged (λ i. i < m.states) cuts t s rest are.states below;
        } in
        let lies : LieBetween m (0 ∷ cuts ++ s ∷ rest) pieces names words = λ place r u e f named.
        let here : place ≡ suc (length cuts) → ⊥ = λ is. not-both (is_named names r) named (subst (λ w. is_named names w ≡ false) (same-piece place (length cuts + 1) r q e at-q (omega (arith, is))) not-q) in
        let next : suc place ≡ suc (length cuts) → ⊥ = λ is. not-both (is_named names r) named (subst (λ w. is_named names w ≡ false) (same-piece place (length cuts) r p e at-p (omega (arith, is))) not-p) in
        let old = lie place r u e (get-exchanged (0 ∷ cuts) t s rest place here ∙ f) named in
        (old.0, subst (λ o. Between m u o (words r) old.0) (get-exchanged (0 ∷ cuts) t s rest (suc place) next) old.1) in
        h.none words rest (subst (AreCuts m pieces) (sym same) these) reads (subst (λ l. LieBetween m (0 ∷ l) pieces names words) (sym same) lies) obey

-- a refutation that names more
pub refuted-more : (flat : Flat) (at x : ℕ) (m : Graph) (pieces : List ℕ) (ms : Family) (cuts : List ℕ) (names more : List Bool) → ((v : ℕ) → is_named names v ≡ true → is_named more v ≡ true)
    → HaveMachines ms more → (is_named more x ≡ true → ⊥) → IsRefutedFrom flat at x m pieces ms cuts names → IsRefutedFrom flat at x m pieces ms cuts more
refuted-more flat at x m pieces ms cuts names more up have other h = record {
  have = have;
  other = other;
  none = λ words rest are reads lie obey. h.none words rest are (λ v n. reads v (up v n)) (λ place p s e f n. lie place p s e f (up p n)) obey;
}

-- each cut that may come next is refuted, so all are
pub cuts-refuted : (flat : Flat) (at x : ℕ) (m : Graph) (pieces : List ℕ) (ms : Family) (cuts : List ℕ) (names : List Bool) → HaveMachines ms names → (is_named names x ≡ true → ⊥) → (length cuts + 1 ≡ length pieces → ⊥)
    → ((s : ℕ) → s < m.states → IsRefutedFrom flat at x m pieces ms (cuts ++ s ∷ []) names) → IsRefutedFrom flat at x m pieces ms cuts names
cuts-refuted flat at x m pieces ms cuts names have other ne h = record { have = have; other = other; none = none }
  where
    none : (words : Words) (rest : List ℕ) → AreCuts m pieces (cuts ++ rest) → AreRead ms names words → LieBetween m (0 ∷ cuts ++ rest) pieces names words → Obey (take at flat.definitions) words → ⊥
    none words [] are reads lie obey = let n = are.count in let e = length-append cuts [] in absurd (ne (omega (arith, n, e)))
    none words (s ∷ rest) are reads lie obey =
        let same : cuts ++ s ∷ rest ≡ (cuts ++ s ∷ []) ++ rest = sym (append_assoc cuts (s ∷ []) rest) in
        (h s (are.states s (Contains-middle cuts s rest))).none words rest (subst (AreCuts m pieces) same are) reads (subst (λ l. LieBetween m (0 ∷ l) pieces names words) same lie) obey

-- where all pieces lie between the cuts, their words lead through them
pub lie-leads : (ms : Family) (m : Graph) (words : Words) (starts pieces : List ℕ) → length starts ≡ length pieces
    → ((place p s : ℕ) → slice_get pieces place ≡ Some p → slice_get starts place ≡ Some s → (cost : List ℕ) × Between m s (slice_get starts (suc place)) (words p) cost)
    → ((p : ℕ) → Contains pieces p → (k : Graph) × (cost : List ℕ) × HasMachine ms p k × Accepts k (words p) cost) → LeadInTurn ms m starts pieces
lie-leads ms m words [] [] e lie reads = tt
lie-leads ms m words [] (p ∷ ps) e lie reads = absurd (omega (arith, e))
lie-leads ms m words (s ∷ ss) [] e lie reads = absurd (omega (arith, e))
lie-leads ms m words (s ∷ ss) (p ∷ ps) e lie reads = (
  λ k has. (let r = reads p (zero, omega arith, refl) in let h = lie zero p s refl refl in
      record {
        word = words p;
        cost = r.1;
        other = h.0;
        reads = subst (λ g. Accepts g (words p) r.1) (one-machine ms p r.0 k r.2 has) r.3;
        runs = subst (λ o. Between m s o (words p) h.0) (first-get ss) h.1;
      }),
  lie-leads ms m words ss ps (omega (arith, e)) (λ place q t f g. lie (suc place) q t f g) (λ q c. reads q (suc c.0, omega (arith, c.1), c.2)),
)

-- a cut through which no words of the pieces lead
pub nowhere-refuted : (flat : Flat) (at x : ℕ) (m : Graph) (pieces : List ℕ) (ms : Family) (cuts : List ℕ) (s : ℕ) (names : List Bool) → ((rest : List ℕ) → LeadInTurn ms m ((0 ∷ cuts) ++ s ∷ rest) pieces → ⊥)
    → ((p : ℕ) → Contains pieces p → is_named names p ≡ true) → HaveMachines ms names → (is_named names x ≡ true → ⊥) → IsRefutedFrom flat at x m pieces ms (cuts ++ s ∷ []) names
nowhere-refuted flat at x m pieces ms cuts s names bars own have other = record {
  have = have;
  other = other;
  none = λ words rest are reads lie obey.
      let same : (cuts ++ s ∷ []) ++ rest ≡ cuts ++ s ∷ rest = append_assoc cuts (s ∷ []) rest in
      let lies = subst (λ l. LieBetween m (0 ∷ l) pieces names words) same lie in
      let size : length (0 ∷ cuts ++ s ∷ rest) ≡ length pieces = sym (are.count ∙ ap (λ l. suc (length l)) same) in
      bars rest (lie-leads ms m words (0 ∷ cuts ++ s ∷ rest) pieces size (λ place p t e f. lies place p t e f (own p (slice_get-contains pieces place p e))) (λ p stands. reads p (own p stands)));
}

-- runs in turn lie between the cuts
pub turns-lie : (m : Graph) (words : Words) (starts pieces : List ℕ) (cost : List ℕ) → RunsInTurn m starts (map words pieces) cost
    → (place p s : ℕ) → slice_get pieces place ≡ Some p → slice_get starts place ≡ Some s → (c : List ℕ) × Between m s (slice_get starts (suc place)) (words p) c
turns-lie m words [] [] cost h place p s e f = cc
turns-lie m words [] (q ∷ ps) cost h place p s e f = absurd h
turns-lie m words (t ∷ ss) [] cost h place p s e f = absurd h
turns-lie m words (t ∷ ss) (q ∷ ps) cost h zero p s e f =
    let piece : q ≡ p = cc in
    let start : t ≡ s = cc in
    (h.0, subst (λ u. Between m u (slice_get ss 0) (words p) h.0) start (subst (λ r. Between m t (slice_get ss 0) (words r) h.0) piece (subst (λ o. Between m t o (words q) h.0) (sym (first-get ss)) h.2)))
turns-lie m words (t ∷ ss) (q ∷ ps) cost h (suc place) p s e f = turns-lie m words ss ps h.1 h.3 place p s e f

-- whatever is cut so is accounted for, since there is nothing
pub refuted-covers : (flat : Flat) (region : Region) (at : ℕ) (pieces : List ℕ) (ms : Family) (cuts : List ℕ) (names : List Bool) (tally : LeafTally) → AreRefutedFrom flat at pieces ms cuts names → AreCoveredFrom flat region at pieces ms cuts tally
refuted-covers flat region at pieces ms cuts names tally h x e words totals ints rest m there are conf obey meets =
    let r = h x m e there in
    let turns = subst (λ g. RunsInTurn g (0 ∷ cuts ++ rest) (map words pieces) conf.1) (one-machine ms x conf.0 m conf.3 there) conf.4 in
    absurd (r.none words rest are
    (λ v named.
    let k = r.have v named in
    let apart : v ≡ x → ⊥ = λ is. r.other (subst (λ u. is_named names u ≡ true) is named) in
    let a = conf-accepts (width flat) (without ms x) words conf.2 conf.5 v k.0 (set-other ms x v _ apart ∙ k.1) in
    (k.0, a.0, k.1, a.1))
    (λ place p s f g named. turns-lie m words (0 ∷ cuts ++ rest) pieces conf.1 turns place p s f g) obey)

-- all lists of cuts together
pub concat-refuted : (flat : Flat) (at x : ℕ) (pieces : List ℕ) (ms : Family) (m : Graph) (old new : List Bool) → HasMachine ms x m → 0 < length pieces → slice_get flat.definitions at ≡ Some (definition x (by.Concat pieces))
    → IsRefutedFrom flat at x m pieces ms [] old → NamesOwn x pieces old new → IsRefutedBy flat (suc at) ms new
concat-refuted flat at x [] ms m old new has some there h own = absurd (omega (arith, some))
concat-refuted flat at x (p ∷ ps) ms m old new has some there h own = record {
  have = λ v named. elim (own.only v named) [ inl o ↦ h.have v o | inr e ↦ (m, subst (λ u. HasMachine ms u m) (sym e) has) ];
  none = λ words reads obey. none-by (is_named new x) refl words reads (obey-split flat.definitions at (definition x (by.Concat (p ∷ ps))) words there obey).0
      (obey-split flat.definitions at (definition x (by.Concat (p ∷ ps))) words there obey).1;
}
  where
    none-by : (b : Bool) → is_named new x ≡ b → (words : Words) → AreRead ms new words → Obey (take at flat.definitions) words → words x ≡ joined (words p ∷ map words ps) → ⊥
    none-by true named words reads obey is =
        let rx = reads x named in
        let run : Accepts m (joined (words p ∷ map words ps)) rx.1 = subst (λ w. Accepts m w rx.1) is (subst (λ g. Accepts g (words x) rx.1) (one-machine ms x rx.0 m rx.2 has) rx.3) in
        let cut = turns-cut m (words p) (map words ps) 0 rx.1 m.started run in
        let are : AreCuts m (p ∷ ps) cut.0 = record { count = ap suc (sym (length-map ps words) ∙ cut.1); states = cut.2 } in
        h.none words cut.0 are (λ v n. reads v (own.kept v n)) (λ place q s e f n. turns-lie m words (0 ∷ cut.0) (p ∷ ps) rx.1 cut.3 place q s e f) obey
    none-by false named words reads obey is =
        let cuts = some-cuts m (p ∷ ps) some in
        h.none words cuts.0 cuts.1 (λ v n. reads v (own.kept v n))
        (λ place q s e f n. absurd (not-both (is_named new x) (own.own q (slice_get-contains (p ∷ ps) place q e) n) named)) obey

-- the variable that a definition reads is one that it uses
reads-uses : (b : By) (v : ℕ) → reads b ≡ Some v → Contains (used b) v
reads-uses (by.Concat vs) v e = cc
reads-uses (by.First p u z) v e = (zero, omega arith, cc)
reads-uses (by.All p u z) v e = (zero, omega arith, cc)
reads-uses (by.Through t z) v e = (zero, omega arith, cc)

-- a definition through a transducer
pub through-refuted : (flat : Flat) (at x v : ℕ) (b : By) (ms : Family) (ns : LeafState) (t : Transducer) (old new : List Bool) → slice_get flat.definitions at ≡ Some (definition x b) → reads b ≡ Some v → RelatesBy b t
    → IsPassed ms x v t ns → IsRefutedBy flat at ns.machines old → NamesOwn x (used b) old new → IsRefutedBy flat (suc at) ms new
through-refuted flat at x v b ms ns t old new there reading relates p h own = record {
  have = λ u named. elim (own.only u named) [ inl o ↦ had u o | inr e ↦ (p.target, subst (λ w. HasMachine ms w p.target) (sym e) p.machine) ];
  none = λ words reads obey.
      let parts = obey-split flat.definitions at (definition x b) words there obey in
      h.none words (λ u named. reads-there words reads parts.1 u named) parts.0;
}
  where
    had-without : (u : ℕ) → (u ≡ v → ⊥) → is_named old u ≡ true → (k : Graph) × HasMachine (without ms x) u k
    had-without u ne named = let k = h.have u named in (k.0, sym (ap (λ (l : Family). slice_get l u) p.machines ∙ set-other (without ms x) v u (Some p.meeting.small.machine) ne) ∙ k.1)

    apart : (u : ℕ) → (u ≡ v → ⊥) → is_named old u ≡ true → u ≡ x → ⊥
    apart u ne named = let k = had-without u ne named in without-other ms x u k.0 k.1

    had : (u : ℕ) → is_named old u ≡ true → (k : Graph) × HasMachine ms u k
    had u named = elim (eqb_tells u v) [
      | inl is ↦ (p.reader, subst (λ w. HasMachine ms w p.reader) (sym is.1) p.reads)
      | inr ne ↦ (let k = had-without u ne.1 named in (k.0, sym (set-other ms x u _ (apart u ne.1 named)) ∙ k.1))
    ]

    reads-there : (words : Words) → AreRead ms new words → ComesBy words (words x) b → (u : ℕ) → is_named old u ≡ true → (k : Graph) × (cost : List ℕ) × HasMachine ns.machines u k × Accepts k (words u) cost
    reads-there words reads comes u named = elim (eqb_tells u v) [
      | inl is ↦
          let here = subst (λ w. is_named old w ≡ true) is.1 named in
          let rx = reads x (own.own v (reads-uses b v reading) here) in
          let target : Accepts p.target (words x) rx.1 = subst (λ g. Accepts g (words x) rx.1) (one-machine ms x rx.0 p.target rx.2 p.machine) rx.3 in
          let rv = reads v (own.kept v here) in
          let reader : Accepts p.reader (words v) rv.1 = subst (λ g. Accepts g (words v) rv.1) (one-machine ms v rv.0 p.reader rv.2 p.reads) rv.3 in
          let pair = comes-gives b v reading t relates words (words x) (graph-words p.reader (words v) rv.1 reader) comes in
          let built = (p.pre.is.language (words v) rx.1).1 (words x, pair, target) in
          let both = (p.kept.meets.language (words v) (add_costs rv.1 rx.1)).1 (rv.1, rx.1, reader, built, refl) in
          let stands : HasMachine ns.machines v p.meeting.small.machine = ap (λ (l : Family). slice_get l v) p.machines ∙ set-same (without ms x) v (Some p.reader) (Some p.meeting.small.machine) (set-other ms x v _ p.other ∙ p.reads) in (
            p.meeting.small.machine,
            add_costs rv.1 rx.1,
            subst (λ w. HasMachine ns.machines w p.meeting.small.machine) (sym is.1) stands,
            subst (λ w. Accepts p.meeting.small.machine (words w) (add_costs rv.1 rx.1)) (sym is.1) both,
          )
      | inr ne ↦
          let r = reads u (own.kept u named) in
          (r.0, r.1, ap (λ (l : Family). slice_get l u) p.machines ∙ set-other (without ms x) v u (Some p.meeting.small.machine) ne.1 ∙ set-other ms x u _ (apart u ne.1 named) ∙ r.2, r.3)
    ]
