-- Where one place stands for another.
use Rattle.std.proofs.Common.{◌≡◌, ◌↔◌, ◌⊎◌, inl, inr, ℕ, zero, suc, ◌+◌, ◌<◌, ◌≤◌, Bool, true, false, Some, List, [], ◌∷◌, ◌++◌, length, get_or, slice_get, take, map, All, Any, Contains, refl, sym, ap, ◌∙◌, subst, arith}
use Rattle.std.proofs.lemmas.List.{append_assoc, take_all}
use Rattle.std.proofs.lemmas.List.Elements.{All-get_or, All-nil, All-cons, All-more, All-weaker, All-contains, All-contains_itself}
use Rattle.sv_list.specs.Lists.{Any-none, Any-here, Any-append_left, Any-append_right, Any-contains, contained, Contains-here, Contains-there, Contains-slice_get, read-at, slice_get-append_left, take-read}
use Rattle.sv_word.specs.Ranges.{IsInhabited, least_of}
use Rattle.machine_core.specs.declared.graph.Graph.{Graph}
use Rattle.machine_core.specs.declared.machine.Move.{Move}
use Rattle.machine_core.specs.Edges.{StepsBy, EndsAt}
use Rattle.machine_core.specs.Language.{RunsFrom}
use Rattle.machine_core.specs.Moves.{Moves}
use Rattle.subset_machine.proofs.SubsetRuns.{subset-complete}
use Rattle.machine_meet.specs.Products.{AreStates, MeetEnds, MeetSteps}
use Rattle.machine_meet.specs.ProductLaws.{first-states, step-states}
use Rattle.sv_terms.specs.Language.{Word}
use Rattle.regex_machine.specs.Sided.{SideEnds, SideSteps, side-first, side-state}
use Rattle.regex_machine.specs.OtherSides.{ends_of_side, steps_of_side, first_of_side}
use Rattle.regex_machine.specs.Antichains.{state_of_side, StandsFor, StandFor, HasOneFor, IsSettled, AddsPlaces, ArePlaces, IsExplored}
use Rattle.regex_machine.specs.declared.sides.MeetSide.{MeetSide}

some-more : (P : ℕ → Type 0) (s t : List ℕ) → ((k : ℕ) → Contains s k → Contains t k) → Any P s → Any P t
some-more P s t within a = let g = contained P s a in Any-contains P t g.0 (within g.0 g.1) g.2

stands-itself : (others : Bool) (s : List ℕ) → StandsFor others s s
stands-itself false s = refl
stands-itself true s = λ k i. i

stands-through : (others : Bool) (r s t : List ℕ) → StandsFor others r s → StandsFor others s t → StandsFor others r t
stands-through false r s t f g = subst (λ x. r ≡ x) g f
stands-through true r s t f g = λ k i. g k (f k i)

-- where a word ends behind the other, it ends behind what stands for it
end-stands : (others : Bool) (m : Graph) (s t cost : List ℕ) → StandsFor others s t → SideEnds others m t cost → SideEnds others m s cost
end-stands false m s t cost f e = subst (λ x. SideEnds false m x cost) (sym f) e
end-stands true m s t cost f e = (e.0, λ a. e.1 (some-more (λ k. EndsAt m.ends k []) s t f a))

-- a step of the other is one of what stands for it, to one that stands for its target
step-stands : (others : Bool) (m : Graph) → m.registers ≡ 0 → (s t : List ℕ) (c : ℕ) (cost next : List ℕ) → StandsFor others s t → SideSteps others m t c cost next
    → (r : List ℕ) × SideSteps others m s c cost r × StandsFor others r next
step-stands false m plain s t c cost next f st = (next, subst (λ x. SideSteps false m x c cost next) (sym f) st, refl)
step-stands true m plain s t c cost next f st =
    let n = subset-complete m plain true refl s c st.0 in
    (n.0, (st.0, st.1, n.1.2, n.1.3), λ k i. (st.2.exact k).1 (some-more (λ x. StepsBy m.edges x c [] k) s t f ((n.1.2.exact k).0 i)))

-- the machines of the sides have no registers
abbrev pub ArePlainSides : List MeetSide → Type 0
ArePlainSides ds = (d : MeetSide) → Contains ds d → d.part.now.registers ≡ 0

stand-itself : (ds : List MeetSide) (ss : List (List ℕ)) → AreStates state_of_side ds ss → StandFor ds ss ss
stand-itself [] [] f = tt
stand-itself [] (s ∷ ss) f = absurd f
stand-itself (d ∷ ds) [] f = absurd f
stand-itself (d ∷ ds) (s ∷ ss) f = (stands-itself d.others s, stand-itself ds ss f.1)

stand-through : (ds : List MeetSide) (rs ss ts : List (List ℕ)) → StandFor ds rs ss → StandFor ds ss ts → StandFor ds rs ts
stand-through [] [] [] [] f g = tt
stand-through [] [] [] (t ∷ ts) f g = absurd g
stand-through [] [] (s ∷ ss) ts f g = absurd f
stand-through [] (r ∷ rs) ss ts f g = absurd f
stand-through (d ∷ ds) [] ss ts f g = absurd f
stand-through (d ∷ ds) (r ∷ rs) [] ts f g = absurd f
stand-through (d ∷ ds) (r ∷ rs) (s ∷ ss) [] f g = absurd g
stand-through (d ∷ ds) (r ∷ rs) (s ∷ ss) (t ∷ ts) f g = (stands-through d.others r s t f.0 g.0, stand-through ds rs ss ts f.1 g.1)

ends-stand : (ds : List MeetSide) (width : ℕ) (ss ts : List (List ℕ)) (cost : List ℕ) → StandFor ds ss ts → MeetEnds ends_of_side width ds ts cost → MeetEnds ends_of_side width ds ss cost
ends-stand [] width [] [] cost f e = e
ends-stand [] width [] (t ∷ ts) cost f e = absurd f
ends-stand [] width (s ∷ ss) ts cost f e = absurd f
ends-stand (d ∷ ds) width [] ts cost f e = absurd f
ends-stand (d ∷ ds) width (s ∷ ss) [] cost f e = absurd f
ends-stand (d ∷ ds) width (s ∷ ss) (t ∷ ts) cost f e = (e.0, e.1, end-stands d.others d.part.now s t e.0 f.0 e.2, ends-stand ds width ss ts e.1 f.1 e.3, e.4)

steps-stand : (ds : List MeetSide) (width : ℕ) → ArePlainSides ds → (ss ts : List (List ℕ)) (c : ℕ) (cost : List ℕ) (next : List (List ℕ)) → StandFor ds ss ts
    → MeetSteps steps_of_side width ds ts c cost next → (rs : List (List ℕ)) × MeetSteps steps_of_side width ds ss c cost rs × StandFor ds rs next
steps-stand [] width plain [] [] c cost next f st = ([], (st.0, st.1, refl), subst (StandFor [] []) (sym st.2) tt)
steps-stand [] width plain [] (t ∷ ts) c cost next f st = absurd f
steps-stand [] width plain (s ∷ ss) ts c cost next f st = absurd f
steps-stand (d ∷ ds) width plain [] ts c cost next f st = absurd f
steps-stand (d ∷ ds) width plain (s ∷ ss) [] c cost next f st = absurd f
steps-stand (d ∷ ds) width plain (s ∷ ss) (t ∷ ts) c cost next f st =
    let one = step-stands d.others d.part.now (plain d (Contains-here d ds)) s t c st.0 st.2 f.0 st.4 in
    let more = steps-stand ds width (λ e i. plain e (Contains-there d ds e i)) ss ts c st.1 st.3 f.1 st.5 in
    (one.0 ∷ more.0, (st.0, st.1, one.0, more.0, one.1, more.1, st.6, refl), subst (StandFor (d ∷ ds) (one.0 ∷ more.0)) st.7 (one.2, more.2))

module _ (ds : List MeetSide) (width : ℕ) (plain : ArePlainSides ds) (places : List (List (List ℕ)))
    (settled : (s : List (List ℕ)) → Contains places s → IsSettled ds width places s) where
  no-run : (w : Word) (s t : List (List ℕ)) (cost : List ℕ) → Contains places s → StandFor ds s t
      → RunsFrom (MeetEnds ends_of_side width ds) (MeetSteps steps_of_side width ds) t w cost → ⊥
  no-run [] s t cost i f r = (settled s i).ends cost (ends-stand ds width s t cost f r)
  no-run (c ∷ w) s t cost i f r =
      let n = steps-stand ds width plain s t c r.0 r.1 f r.3 in
      let g = contained (λ q. StandFor ds q n.0) places ((settled s i).steps c r.0 n.0 n.1) in
      no-run w g.0 r.1 r.2 g.1 (stand-through ds g.0 n.0 r.1 g.2 n.2) r.4

  -- so no word leads from the start to an end
  pub nothing-read : HasOneFor ds places (map first_of_side ds) → (w : Word) (cost : List ℕ)
      → RunsFrom (MeetEnds ends_of_side width ds) (MeetSteps steps_of_side width ds) (map first_of_side ds) w cost → ⊥
  nothing-read first w cost r =
      let g = contained (λ q. StandFor ds q (map first_of_side ds)) places first in
      no-run w g.0 (map first_of_side ds) cost g.1 g.2 r

-- one side more
stand-more : (ds : List MeetSide) (ss ts : List (List ℕ)) (d : MeetSide) (s t : List ℕ) → StandFor ds ss ts → StandsFor d.others s t → StandFor (ds ++ d ∷ []) (ss ++ s ∷ []) (ts ++ t ∷ [])
stand-more [] [] [] d s t f g = (g, tt)
stand-more [] [] (y ∷ ts) d s t f g = absurd f
stand-more [] (x ∷ ss) ts d s t f g = absurd f
stand-more (e ∷ ds) [] ts d s t f g = absurd f
stand-more (e ∷ ds) (x ∷ ss) [] d s t f g = absurd f
stand-more (e ∷ ds) (x ∷ ss) (y ∷ ts) d s t f g = (f.0, stand-more ds ss ts d s t f.1 g)

pub stands-as : (d e : MeetSide) (s r t u : List ℕ) → d ≡ e → r ≡ s → u ≡ t → StandsFor e.others r u → StandsFor d.others s t
stands-as d e s r t u same_side same_place same_other f =
    subst (λ (x : MeetSide). StandsFor x.others s t) (sym same_side) (subst (λ x. StandsFor e.others x t) same_place (subst (λ x. StandsFor e.others r x) same_other f))

pub stand-next : (ds : List MeetSide) (ss ts : List (List ℕ)) (i : ℕ) (d : MeetSide) (s t : List ℕ) → i < length ds → i < length ss → i < length ts
    → d ≡ get_or ds i d → s ≡ get_or ss i s → t ≡ get_or ts i t → StandFor (take i ds) (take i ss) (take i ts) → StandsFor d.others s t
    → StandFor (take (i + 1) ds) (take (i + 1) ss) (take (i + 1) ts)
stand-next ds ss ts i d s t in_ds in_ss in_ts is_d is_s is_t f g =
    let more = stand-more (take i ds) (take i ss) (take i ts) d s t f g in
    let some = subst (λ l. StandFor l (take i ss ++ s ∷ []) (take i ts ++ t ∷ [])) (sym (take-read ds i d in_ds is_d)) more in
    let most = subst (λ l. StandFor (take (i + 1) ds) l (take i ts ++ t ∷ [])) (sym (take-read ss i s in_ss is_s)) some in
    subst (λ l. StandFor (take (i + 1) ds) (take (i + 1) ss) l) (sym (take-read ts i t in_ts is_t)) most

pub stand-all : (ds : List MeetSide) (ss ts : List (List ℕ)) (i : ℕ) → length ds ≤ i → length ss ≡ length ds → length ts ≡ length ds
    → StandFor (take i ds) (take i ss) (take i ts) → StandFor ds ss ts
stand-all ds ss ts i past ss_long ts_long f =
    let some = subst (λ l. StandFor l (take i ss) (take i ts)) (take_all i ds past) f in
    let most = subst (λ l. StandFor ds l (take i ts)) (take_all i ss (omega (arith, past, ss_long))) some in
    subst (λ l. StandFor ds ss l) (take_all i ts (omega (arith, past, ts_long))) most

-- a place that was added stands for itself
pub one-added : (ds : List MeetSide) (places new : List (List (List ℕ))) (own place : List (List ℕ)) → AreStates state_of_side ds place → own ≡ place → new ≡ places ++ own ∷ []
    → HasOneFor ds new place
one-added ds places new own place states same is =
    subst (λ l. HasOneFor ds l place) (sym is)
    (Any-append_right (λ s. StandFor ds s place) places (own ∷ []) (Any-here (λ s. StandFor ds s place) own [] (subst (λ s. StandFor ds s place) (sym same) (stand-itself ds place states))))

pub adds-through : (old mid new : List (List (List ℕ))) → AddsPlaces old mid → AddsPlaces mid new → AddsPlaces old new
adds-through old mid new f g = (f.0 ++ g.0, g.1 ∙ ap (λ (l : List (List (List ℕ))). l ++ g.0) f.1 ∙ append_assoc old f.0 g.0)

pub one-kept : (ds : List MeetSide) (old new : List (List (List ℕ))) (t : List (List ℕ)) → AddsPlaces old new → HasOneFor ds old t → HasOneFor ds new t
one-kept ds old new t adds one = subst (λ l. HasOneFor ds l t) (sym adds.1) (Any-append_left (λ s. StandFor ds s t) old adds.0 one)

pub settled-kept : (ds : List MeetSide) (width : ℕ) (old new : List (List (List ℕ))) (s : List (List ℕ)) → AddsPlaces old new → IsSettled ds width old s → IsSettled ds width new s
settled-kept ds width old new s adds h = record { ends = h.ends; steps = λ c cost t st. one-kept ds old new t adds (h.steps c cost t st) }

-- one target more has a place that stands for it
pub targets-more : (ds : List MeetSide) (steps : List (Move (List (List ℕ)))) (i : ℕ) (step : Move (List (List ℕ))) (old new : List (List (List ℕ))) → i < length steps → step ≡ get_or steps i step
    → AddsPlaces old new → All (λ (m : Move (List (List ℕ))). HasOneFor ds old m.to) (take i steps) → HasOneFor ds new step.to
    → All (λ (m : Move (List (List ℕ))). HasOneFor ds new m.to) (take (i + 1) steps)
targets-more ds steps i step old new lt is adds before one =
    let P : Move (List (List ℕ)) → Type 0 = λ m. HasOneFor ds new m.to in
    All-more P steps i step lt (All-weaker (λ (m : Move (List (List ℕ))). HasOneFor ds old m.to) P (λ m h. one-kept ds old new m.to adds h) (take i steps) before) (subst P is one)

-- what steps lead to are places
pub targets-are : (ds : List MeetSide) (width : ℕ) (at : List (List ℕ)) (steps : List (Move (List (List ℕ)))) → AreStates state_of_side ds at
    → ((c : ℕ) (cost : List ℕ) (to : List (List ℕ)) → MeetSteps steps_of_side width ds at c cost to ↔ Any (Moves c cost to) steps)
    → All (λ (m : Move (List (List ℕ))). IsInhabited m.on) steps → All (λ (m : Move (List (List ℕ))). AreStates state_of_side ds m.to) steps
targets-are ds width at steps states exact inhabited =
    All-weaker (Contains steps) (λ (m : Move (List (List ℕ))). AreStates state_of_side ds m.to) (λ m i.
    let on = All-contains (λ (m : Move (List (List ℕ))). IsInhabited m.on) steps m inhabited i in
    let c = least_of m.on in
    step-states state_of_side steps_of_side width (λ d s t c cost ok st. side-state d.others d.part.now s c cost t st) ds at m.to c m.cost states
    ((exact c m.cost m.to).1 (Any-contains (Moves c m.cost m.to) steps m i (on, refl, refl)))) steps (All-contains_itself steps)

-- a place is settled where no word ends and its steps' targets have places that stand for them
pub settled-one : (ds : List MeetSide) (width : ℕ) (at : List (List ℕ)) (costs : List (List ℕ)) (steps : List (Move (List (List ℕ)))) (places : List (List (List ℕ)))
    → ((cost : List ℕ) → MeetEnds ends_of_side width ds at cost ↔ Any (λ e. e ≡ cost) costs) → costs ≡ []
    → ((c : ℕ) (cost : List ℕ) (to : List (List ℕ)) → MeetSteps steps_of_side width ds at c cost to ↔ Any (Moves c cost to) steps)
    → All (λ (m : Move (List (List ℕ))). HasOneFor ds places m.to) steps → IsSettled ds width places at
settled-one ds width at costs steps places ends none exact each = record {
  ends = λ cost e. Any-none (λ k. k ≡ cost) (subst (Any (λ k. k ≡ cost)) none ((ends cost).0 e));
  steps = λ c cost t st.
      let g = contained (Moves c cost t) steps ((exact c cost t).0 st) in
      subst (HasOneFor ds places) g.2.2 (All-contains (λ (m : Move (List (List ℕ))). HasOneFor ds places m.to) steps g.0 each g.1);
}

before-or-not : (i n : ℕ) → (i < n) ⊎ (n ≤ i)
before-or-not i zero = inr (omega arith)
before-or-not zero (suc n) = inl (omega arith)
before-or-not (suc i) (suc n) = elim (before-or-not i n) [ inl lt ↦ inl (omega (arith, lt)) | inr le ↦ inr (omega (arith, le)) ]

got-below : {X : Type 0} (xs : List X) (n : ℕ) (x : X) → slice_get xs n ≡ Some x → n < length xs
got-below [] n x e = cc
got-below (y ∷ xs) zero x e = omega arith
got-below (y ∷ xs) (suc n) x e = let lt = got-below xs n x e in omega (arith, lt)

-- the start is a place
pub explored-start : (ds : List MeetSide) (width : ℕ) (places : List (List (List ℕ))) (start : List (List ℕ)) → start ≡ map first_of_side ds → places ≡ start ∷ [] → IsExplored ds width places 0
explored-start ds width places start is same =
    let first : AreStates state_of_side ds (map first_of_side ds) = first-states state_of_side first_of_side (λ d. side-first d.others d.part.now) ds in
    subst (λ l. IsExplored ds width l 0) (sym (same ∙ ap (λ s. s ∷ []) is)) (record {
      states = All-cons (AreStates state_of_side ds) (map first_of_side ds) [] first (All-nil (AreStates state_of_side ds));
      first = Any-here (λ s. StandFor ds s (map first_of_side ds)) (map first_of_side ds) [] (stand-itself ds (map first_of_side ds) first);
      settled = λ i s lt h. absurd (omega (arith, lt));
    })

-- one place more is settled
pub explored-more : (ds : List MeetSide) (width : ℕ) (old new : List (List (List ℕ))) (at : ℕ) → at < length old → AddsPlaces old new → ArePlaces ds new → IsExplored ds width old at
    → ((s : List (List ℕ)) → slice_get old at ≡ Some s → IsSettled ds width new s) → IsExplored ds width new (at + 1)
explored-more ds width old new at lt adds states h here = record {
  states = states;
  first = one-kept ds old new (map first_of_side ds) adds h.first;
  settled = λ i s less is. by-order i s (is-before i s less is) (before-or-not i at) less;
}
  where
    is-before : (i : ℕ) (s : List (List ℕ)) → i < at + 1 → slice_get new i ≡ Some s → slice_get old i ≡ Some s
    is-before i s less is = sym (slice_get-append_left old adds.0 i (omega (arith, less, lt))) ∙ ap (λ (l : List (List (List ℕ))). slice_get l i) (sym adds.1) ∙ is

    by-order : (i : ℕ) (s : List (List ℕ)) → slice_get old i ≡ Some s → (i < at) ⊎ (at ≤ i) → i < at + 1 → IsSettled ds width new s
    by-order i s is (inl before) less = settled-kept ds width old new s adds (h.settled i s before is)
    by-order i s is (inr past) less = let same : i ≡ at = omega (arith, past, less) in here s (subst (λ n. slice_get old n ≡ Some s) same is)

-- all places are settled: no word is read
pub explored-all : (ds : List MeetSide) (width : ℕ) → ArePlainSides ds → (places : List (List (List ℕ))) (at : ℕ) → at ≡ length places → IsExplored ds width places at
    → (w : Word) (cost : List ℕ) → RunsFrom (MeetEnds ends_of_side width ds) (MeetSteps steps_of_side width ds) (map first_of_side ds) w cost → ⊥
explored-all ds width plain places at all h =
    nothing-read ds width plain places (λ s i. let g = Contains-slice_get places s i in h.settled g.0 s (subst (λ n. g.0 < n) (sym all) (got-below places g.0 s g.1)) g.1) h.first

-- the place at this number, copied
pub states-at : (ds : List MeetSide) (places items : List (List (List ℕ))) (at : ℕ) (x own : List (List ℕ)) → items ≡ places → at < length places → x ≡ get_or items at x → own ≡ x
    → ArePlaces ds places → AreStates state_of_side ds own
states-at ds places items at x own same lt is copied states =
    let here = All-get_or (AreStates state_of_side ds) places at x lt states in
    subst (AreStates state_of_side ds) (sym (copied ∙ is ∙ ap (λ l. get_or l at x) same)) here

pub read-copied : (places items : List (List (List ℕ))) (at : ℕ) (x own s : List (List ℕ)) → items ≡ places → x ≡ get_or items at x → own ≡ x → slice_get places at ≡ Some s → own ≡ s
read-copied places items at x own s same is copied got = copied ∙ is ∙ read-at places items same at s x got
