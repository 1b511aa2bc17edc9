-- The words of sides, and of some sides together.
use Rattle.std.proofs.Common.{◌≡◌, ℕ, zero, suc, ◌+◌, ◌*◌, ◌^◌, ◌<◌, ◌≤◌, ◌↔◌, inl, inr, Bool, true, false, List, [], ◌∷◌, ◌++◌, length, get_or, take, drop, map, Any, All, refl, ap, sym, ◌∙◌, subst, arith}
use Rattle.std.proofs.lemmas.List.{take_more, take_all}
use Rattle.std.proofs.lemmas.List.Elements.{All-map}
use Rattle.std.proofs.Math.Nat.{mul_left_comm}
use Rattle.sv_word.specs.Words.{IsWord}
use Rattle.sv_word.specs.Ranges.{IsInhabited}
use Rattle.machine_meet.specs.Joins.{AreInhabited, listed}
use Rattle.machine_core.specs.declared.graph.Graph.{Graph}
use Rattle.machine_core.specs.declared.machine.Move.{Move}
use Rattle.machine_core.specs.Costs.{add_costs}
use Rattle.machine_core.specs.Language.{RunsFrom}
use Rattle.machine_core.specs.Edges.{EndsAt, StepsBy}
use Rattle.machine_core.specs.Moves.{Moves}
use Rattle.sv_list.specs.Lists.{Any-map, Any-from_map, Any-weaker, Any-contains, contained}
use Rattle.subset_machine.specs.Subsets.{IsStateSet, SubsetEnds, SubsetSteps, SubsetAccepts, HasSignedWord}
use Rattle.machine_meet.specs.Products.{meet_width, summed, multiplied, MeetEnds, MeetSteps, AllRead, MeetsAll}
use Rattle.sv_terms.specs.Language.{Word, InOneOf, InFirstOnly}
use Rattle.regex_machine.specs.Joined.{WordsOf}
use Rattle.sv_terms.specs.Bounds.{from_left, without_size}
use Rattle.regex_machine.specs.Kinds.{states_of}
use Rattle.regex_machine.specs.Stepped.{AreEndsIf}
use Rattle.regex_machine.specs.Sided.{IsSideState, SideEnds, SideSteps, SideWords, SideReads, IsMeetSide}
use Rattle.regex_machine.specs.OtherSides.{ends_of_side, steps_of_side, first_of_side, size_of_side, AreOtherSides}
use Rattle.regex_machine.specs.declared.sides.MeetSide.{MeetSide}
use Rattle.regex_machine.proofs.WordLemmas.{From, from-step, step-from, step-free}
use Rattle.regex_machine.proofs.KindLemmas.{fold-without}
use Rattle.regex_machine.proofs.MeetLemmas.{words-only}

module _ (m : Graph) (plain : m.registers ≡ 0) where
  same-state : (s t : ℕ) → ◌≡◌ {A = List ℕ} (s ∷ []) (t ∷ []) → s ≡ t
  same-state s t e = cc

  within-free : (w : Word) (at cost : List ℕ) → RunsFrom (SideEnds false m) (SideSteps false m) at w cost → cost ≡ []
  within-free [] at cost r = r.0
  within-free (c ∷ w) at cost r = r.5 ∙ ap (λ x. add_costs x r.2) r.3.0

  within-out : (w : Word) (s : ℕ) (cost : List ℕ) → RunsFrom (SideEnds false m) (SideSteps false m) (s ∷ []) w cost → From m s w
  within-out [] s cost r = subst (λ n. EndsAt m.ends n []) (sym (same-state s r.1 r.2)) r.3
  within-out (c ∷ w) s cost r =
      let st = subst (λ n. StepsBy m.edges n c [] r.3.2) (sym (same-state s r.3.1 r.3.3)) r.3.5 in
      step-from m s c r.3.2 w st (within-out w r.3.2 r.2 (subst (λ l. RunsFrom (SideEnds false m) (SideSteps false m) l w r.2) r.3.4 r.4))

  within-in : (w : Word) (s : ℕ) → From m s w → RunsFrom (SideEnds false m) (SideSteps false m) (s ∷ []) w []
  within-in [] s h = (refl, s, refl, h)
  within-in (c ∷ w) s h =
      let st = from-step m plain s c w h in
      ([], st.0 ∷ [], [], (refl, s, st.0, refl, refl, st.1), within-in w st.0 st.2, refl)

  pub side-within : (w : Word) (cost : List ℕ) → SideReads false m w cost ↔ (SideWords false m w × (cost ≡ []))
  side-within w cost = (
    λ r. (within-out w 0 cost r, within-free w (0 ∷ []) cost r),
    λ h. subst (λ k. SideReads false m w k) (sym h.1) (within-in w 0 h.0),
  )

  -- what leaves a list of one state
  pub within-ends : (s : ℕ) (at : List ℕ) (costs : List (List ℕ)) (may : Bool) → at ≡ s ∷ [] → may ≡ true ↔ EndsAt m.ends s [] → AreEndsIf may costs
      → (cost : List ℕ) → SideEnds false m at cost ↔ Any (λ e. e ≡ cost) costs
  within-ends s at costs may is says h cost = (
    λ e. (h cost).1 (e.0, says.1 (subst (λ n. EndsAt m.ends n []) (sym (same-state s e.1 (sym is ∙ e.2))) e.3)),
    λ a. let r = (h cost).0 a in (r.0, s, is, says.0 r.1),
  )

  pub within-moves : (s : ℕ) (at : List ℕ) (moves : List (Move ℕ)) (all : List (Move (List ℕ))) → at ≡ s ∷ []
      → ((c : ℕ) (cost : List ℕ) (to : ℕ) → StepsBy m.edges s c cost to ↔ Any (Moves c cost to) moves) → all ≡ map listed moves
      → (c : ℕ) (cost to : List ℕ) → SideSteps false m at c cost to ↔ Any (Moves c cost to) all
  within-moves s at moves all is exact e c cost to = let M : Move (List ℕ) → Type 0 = Moves c cost to in (
    λ h.
        let st = subst (λ n. StepsBy m.edges n c [] h.2) (sym (same-state s h.1 (sym is ∙ h.3))) h.5 in
        let st2 = (exact c cost h.2).0 (subst (λ k. StepsBy m.edges s c k h.2) (sym h.0) st) in
        subst (Any M) (sym e) (Any-map listed M moves (Any-weaker (Moves c cost h.2) (λ x. M (listed x)) (λ x p. (p.0, p.1, ap (λ n. n ∷ []) p.2 ∙ sym h.4)) moves st2)),
    λ a.
        let g = contained (λ x. M (listed x)) moves (Any-from_map listed M moves (subst (Any M) e a)) in
        let st = (exact c cost g.0.to).1 (Any-contains (Moves c cost g.0.to) moves g.0 g.1 (g.2.0, g.2.1, refl)) in
        let free = step-free m plain s g.0.to c cost st in
        (free, s, g.0.to, is, sym g.2.2, subst (λ k. StepsBy m.edges s c k g.0.to) free st),
  )

pub others-push : (ms : List Graph) (ds : List MeetSide) (m : Graph) (d : MeetSide) → AreOtherSides ms ds → IsMeetSide true m d.others d.part.now → AreOtherSides (ms ++ m ∷ []) (ds ++ d ∷ [])
others-push [] [] m d h g = (g, tt)
others-push [] (x ∷ ds) m d h g = absurd h
others-push (x ∷ ms) [] m d h g = absurd h
others-push (x ∷ ms) (y ∷ ds) m d h g = (h.0, others-push ms ds m d h.1 g)

-- sides together
pub side-width : (ds : List MeetSide) → meet_width (λ (d : MeetSide). 0) ds ≡ 0
side-width [] = refl
side-width (d ∷ ds) = refl

pub side-tops : (ds : List MeetSide) → summed (λ (d : MeetSide). 0) ds ≡ 0
side-tops [] = refl
side-tops (d ∷ ds) = let e = side-tops ds in omega arith

abbrev SidesRead : List MeetSide → Word → List ℕ → Type 0
SidesRead ds w cost = AllRead ends_of_side steps_of_side first_of_side 0 ds w cost

sides-out : (ms : List Graph) (ds : List MeetSide) (f : Graph) (d : MeetSide) → AreOtherSides ms ds → IsMeetSide false f d.others d.part.now → (w : Word) (cost : List ℕ)
    → SidesRead (ds ++ d ∷ []) w cost → WordsOf f w × (InOneOf WordsOf ms w → ⊥)
sides-out [] [] f d h g w cost r = (((g.words w r.0).0 r.2).0, λ x. x)
sides-out [] (e ∷ ds) f d h g w cost r = absurd h
sides-out (m ∷ ms) [] f d h g w cost r = absurd h
sides-out (m ∷ ms) (e ∷ ds) f d h g w cost r =
    let rest = sides-out ms ds f d h.1 g w r.1 r.3 in
    let here = ((h.0.words w r.0).0 r.2).0 in
    (rest.0, λ x. elim x [ inl y ↦ here.1 y | inr y ↦ rest.1 y ])

sides-in : (ms : List Graph) (ds : List MeetSide) (f : Graph) (d : MeetSide) → AreOtherSides ms ds → IsMeetSide false f d.others d.part.now → (w : Word)
    → WordsOf f w → (InOneOf WordsOf ms w → ⊥) → SidesRead (ds ++ d ∷ []) w []
sides-in [] [] f d h g w a b = ([], [], (g.words w []).1 (a, refl), (words-only f w a, refl), refl)
sides-in [] (e ∷ ds) f d h g w a b = absurd h
sides-in (m ∷ ms) [] f d h g w a b = absurd h
sides-in (m ∷ ms) (e ∷ ds) f d h g w a b = ([], [], (h.0.words w []).1 ((words-only f w a, λ y. b (inl y)), refl), sides-in ms ds f d h.1 g w a (λ y. b (inr y)), refl)

pub sides-language : (ms : List Graph) (ds : List MeetSide) (f : Graph) (d : MeetSide) → AreOtherSides ms ds → IsMeetSide false f d.others d.part.now → (width : ℕ) → width ≡ 0
    → MeetsAll ends_of_side steps_of_side first_of_side width (ds ++ d ∷ [])
    → (w : Word) → RunsFrom (MeetEnds ends_of_side width (ds ++ d ∷ [])) (MeetSteps steps_of_side width (ds ++ d ∷ [])) (map first_of_side (ds ++ d ∷ [])) w []
    ↔ InFirstOnly WordsOf (f ∷ ms) w
sides-language ms ds f d h g width none meets w = (
  λ r. sides-out ms ds f d h g w [] (subst (λ n. AllRead ends_of_side steps_of_side first_of_side n (ds ++ d ∷ []) w []) none ((meets w []).0 r)),
  λ a. (meets w []).1 (subst (λ n. AllRead ends_of_side steps_of_side first_of_side n (ds ++ d ∷ []) w []) (sym none) (sides-in ms ds f d h g w a.0 a.1)),
)

-- what the negated subset construction reads
pub other-words : (m n : Graph) (negated : Bool) → n ≡ m → negated ≡ true → ((w : Word) (cost : List ℕ) → SubsetAccepts true m w cost ↔ (HasSignedWord true m w × (cost ≡ [])))
    → (w : Word) → SubsetAccepts negated n w [] ↔ (IsWord w × (WordsOf m w → ⊥))
other-words m n negated same e says w =
    subst (λ b. SubsetAccepts b n w [] ↔ (IsWord w × (WordsOf m w → ⊥))) (sym e)
    (subst (λ (x : Graph). SubsetAccepts true x w [] ↔ (IsWord w × (WordsOf m w → ⊥))) (sym same) (λ h. ((says w []).0 h).0, λ h. (says w []).1 (h, refl)))

-- and what these sides read together
pub sides-words : (ms : List Graph) (ds : List MeetSide) (f : Graph) (d : MeetSide) → AreOtherSides ms ds → IsMeetSide false f d.others d.part.now → (es fs : List MeetSide) → es ≡ ds ++ d ∷ [] → fs ≡ es
    → MeetsAll ends_of_side steps_of_side first_of_side (meet_width (λ (d : MeetSide). 0) es) es
    → (w : Word) → RunsFrom (MeetEnds ends_of_side (meet_width (λ (d : MeetSide). 0) fs) fs) (MeetSteps steps_of_side (meet_width (λ (d : MeetSide). 0) fs) fs) (map first_of_side fs) w []
    ↔ InFirstOnly WordsOf (f ∷ ms) w
sides-words ms ds f d others first es fs is same meets =
    let width : List MeetSide → ℕ = meet_width (λ (d : MeetSide). 0) in
    let all = ds ++ d ∷ [] in
    subst (λ l. (w : Word) → RunsFrom (MeetEnds ends_of_side (width l) l) (MeetSteps steps_of_side (width l) l) (map first_of_side l) w [] ↔ InFirstOnly WordsOf (f ∷ ms) w) (sym (same ∙ is))
    (sides-language ms ds f d others first (width all) (side-width all) (subst (λ l. MeetsAll ends_of_side steps_of_side first_of_side (width l) l) is meets))

-- and how many states they have together
sides-multiplied : (ms : List Graph) (ds : List MeetSide) (f : Graph) (d : MeetSide) → AreOtherSides ms ds → IsMeetSide false f d.others d.part.now
    → multiplied size_of_side (ds ++ d ∷ []) ≡ f.states * multiplied (λ (x : Graph). 2 ^ x.states) ms
sides-multiplied [] [] f d h g = let size = g.size in omega arith
sides-multiplied [] (e ∷ ds) f d h g = absurd h
sides-multiplied (m ∷ ms) [] f d h g = absurd h
sides-multiplied (m ∷ ms) (e ∷ ds) f d h g =
    let size : size_of_side e ≡ 2 ^ m.states = h.0.size in
    let rest = sides-multiplied ms ds f d h.1 g in
    let product = multiplied (λ (x : Graph). 2 ^ x.states) ms in
    ap (λ n. n * multiplied size_of_side (ds ++ d ∷ [])) size ∙ ap (λ n. 2 ^ m.states * n) rest ∙ mul_left_comm (2 ^ m.states) f.states product

pub sides-size : (ms : List Graph) (ds : List MeetSide) (f : Graph) (d : MeetSide) → AreOtherSides ms ds → IsMeetSide false f d.others d.part.now → (fs : List MeetSide) → fs ≡ ds ++ d ∷ []
    → multiplied size_of_side fs ≡ from_left without_size (map states_of (f ∷ ms))
sides-size ms ds f d others first fs is = ap (multiplied size_of_side) is ∙ sides-multiplied ms ds f d others first ∙ sym (fold-without states_of f.states ms)

-- the others of one part more
pub others-none : (ms : List Graph) (ds : List MeetSide) → ds ≡ [] → AreOtherSides (drop 1 (take 1 ms)) ds
others-none [] ds e = subst (AreOtherSides []) (sym e) tt
others-none (m ∷ ms) ds e = subst (AreOtherSides []) (sym e) tt

pub others-more : (ms : List Graph) (n : ℕ) (m : Graph) (ds : List MeetSide) (d : MeetSide) → 1 ≤ n → n < length ms → m ≡ get_or ms n m → IsMeetSide true m d.others d.part.now
    → AreOtherSides (drop 1 (take n ms)) ds → AreOtherSides (drop 1 (take (n + 1) ms)) (ds ++ d ∷ [])
others-more [] n m ds d one lt is side h = absurd (omega arith)
others-more (x ∷ xs) zero m ds d one lt is side h = absurd (omega arith)
others-more (x ∷ xs) (suc k) m ds d one lt is side h =
    let next : suc (k + 1) ≡ suc k + 1 = omega arith in
    let grown : take (k + 1) xs ≡ take k xs ++ m ∷ [] = take_more xs k m (omega arith) ∙ ap (λ y. take k xs ++ y ∷ []) (sym is) in
    subst (λ j. AreOtherSides (drop 1 (take j (x ∷ xs))) (ds ++ d ∷ [])) next (subst (λ l. AreOtherSides l (ds ++ d ∷ [])) (sym grown) (others-push (take k xs) ds m d h side))

pub others-all : (ms : List Graph) (n : ℕ) (ds : List MeetSide) → length ms ≤ n → AreOtherSides (drop 1 (take n ms)) ds → AreOtherSides (drop 1 ms) ds
others-all ms n ds past h = subst (λ l. AreOtherSides (drop 1 l) ds) (take_all n ms past) h

-- what leaves a list of the subset construction
module _ (o : Bool) (m n : Graph) (negated : Bool) (at : List ℕ) (t : o ≡ true) (same : n ≡ m) (e : negated ≡ true) where
  pub others-ends : (costs : List (List ℕ)) → ((cost : List ℕ) → SubsetEnds negated n.ends at cost ↔ Any (λ x. x ≡ cost) costs) → (cost : List ℕ) → SideEnds o m at cost ↔ Any (λ x. x ≡ cost) costs
  others-ends costs h = subst (λ b. (cost : List ℕ) → SideEnds b m at cost ↔ Any (λ x. x ≡ cost) costs) (sym t)
      (subst (λ (x : Graph). (cost : List ℕ) → SubsetEnds true x.ends at cost ↔ Any (λ x. x ≡ cost) costs) same
      (subst (λ b. (cost : List ℕ) → SubsetEnds b n.ends at cost ↔ Any (λ x. x ≡ cost) costs) e h))

  pub others-moves : (all : List (Move (List ℕ))) → ((c : ℕ) (cost to : List ℕ) → SubsetSteps negated n.edges at c cost to ↔ Any (Moves c cost to) all)
      → (c : ℕ) (cost to : List ℕ) → SideSteps o m at c cost to ↔ Any (Moves c cost to) all
  others-moves all h = subst (λ b. (c : ℕ) (cost to : List ℕ) → SideSteps b m at c cost to ↔ Any (Moves c cost to) all) (sym t)
      (subst (λ (x : Graph). (c : ℕ) (cost to : List ℕ) → SubsetSteps true x.edges at c cost to ↔ Any (Moves c cost to) all) same
      (subst (λ b. (c : ℕ) (cost to : List ℕ) → SubsetSteps b n.edges at c cost to ↔ Any (Moves c cost to) all) e h))

  pub others-state : IsSideState o m at → IsStateSet n.states at
  others-state h = subst (λ (x : Graph). IsStateSet x.states at) (sym same) (subst (λ b. IsSideState b m at) t h)

-- the one state of a list
module _ (o : Bool) (m : Graph) (at list : List ℕ) (f : o ≡ false) (state : IsSideState o m at) (e : list ≡ at) where
  one : (s : ℕ) × (at ≡ s ∷ []) × (s < m.states)
  one = subst (λ b. IsSideState b m at) f state

  listed-is : list ≡ one.0 ∷ []
  listed-is = e ∙ one.1

  pub one-filled : 0 < length list
  one-filled = let n = ap length listed-is in omega arith

  front : get_or list 0 0 ≡ one.0
  front = ap (λ l. get_or l 0 0) listed-is

  pub one-is : at ≡ get_or list 0 0 ∷ []
  one-is = one.1 ∙ ap (λ s. s ∷ []) (sym front)

  pub one-lt : get_or list 0 0 < m.states
  one-lt = subst (λ s. s < m.states) (sym front) one.2

  pub one-ends : m.registers ≡ 0 → (costs : List (List ℕ)) (may : Bool) → may ≡ true ↔ EndsAt m.ends (get_or list 0 0) [] → AreEndsIf may costs → (cost : List ℕ) → SideEnds o m at cost ↔ Any (λ x. x ≡ cost) costs
  one-ends plain costs may says h = subst (λ b. (cost : List ℕ) → SideEnds b m at cost ↔ Any (λ x. x ≡ cost) costs) (sym f) (within-ends m plain (get_or list 0 0) at costs may one-is says h)

  pub one-moves : m.registers ≡ 0 → (moves : List (Move ℕ)) (all : List (Move (List ℕ))) → ((c : ℕ) (cost : List ℕ) (to : ℕ) → StepsBy m.edges (get_or list 0 0) c cost to ↔ Any (Moves c cost to) moves)
      → all ≡ map listed moves → (c : ℕ) (cost to : List ℕ) → SideSteps o m at c cost to ↔ Any (Moves c cost to) all
  one-moves plain moves all exact is = subst (λ b. (c : ℕ) (cost to : List ℕ) → SideSteps b m at c cost to ↔ Any (Moves c cost to) all) (sym f) (within-moves m plain (get_or list 0 0) at moves all one-is exact is)

pub lists-inhabited : (moves : List (Move ℕ)) (all : List (Move (List ℕ))) → all ≡ map listed moves → All (λ m. IsInhabited m.on) moves → AreInhabited all
lists-inhabited moves all e h = let P : Move (List ℕ) → Type 0 = λ m. IsInhabited m.on in subst (All P) (sym e) (All-map P listed moves h)
