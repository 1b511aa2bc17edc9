-- What is asked of the machines of a leaf, and what the answer says by the numbers of the cube.
use Rattle.std.proofs.Common.{◌≡◌, ◌↔◌, ℕ, zero, suc, ◌<◌, ◌≤◌, ◌+◌, ◌*◌, ◌/◌, ◌^◌, ◌⊎◌, ℤ, pos, negsuc, ◌≤ℤ◌, ◌<ℤ◌, Bool, true, false, IsTrue, List, [], ◌∷◌, length, not, All, refl, sym, ap, ◌∙◌, subst, arith, inl, inr, mul-le-mul_right}
use Rattle.std.specs.List.{AllByRecursion, AllZip, range_with_len}
use Rattle.std.proofs.lemmas.List.FromFn.{length-range_with_len}
use Rattle.std.proofs.Math.Nat.{div-le_self}
use Rattle.std.proofs.lemmas.Int.{ints}
use Rattle.sv_list.specs.Lists.{filter-shorter}
use lib.Signed.{lt_z}
use Rattle.machine_core.specs.declared.graph.Graph.{Graph}
use Rattle.machine_core.specs.declared.run.Run.{Run}
use Rattle.machine_core.specs.Edges.{EndsAt, StepsBy}
use Rattle.machine_core.specs.RunLaws.{run_accepted}
use Rattle.machine_core.specs.CostLaws.{zeros-length, add_costs-length}
use Rattle.machine_core.specs.Language.{RunsFrom}
use Rattle.machine_core.specs.LanguageLaws.{runs_width}
use Rattle.machine_core.specs.EdgeLaws.{step_most, end_most}
use Rattle.machine_core.specs.Runs.{run_total}
use Rattle.sv_linear.specs.declared.row.Row.{Row}
use Rattle.search_hits.specs.Hits.{IsHit, AreRunsOf, characters, runs_total}
use Rattle.search_hits.specs.Regions.{points, greatest_states}
use Rattle.search_hits.specs.declared.hit.Hit.{Hit}
use Rattle.search_hits.specs.declared.region.Region.{Region}
use Rattle.farkas_check.specs.declared.system.System.{System}
use Rattle.lia_branch.specs.declared.evidence.Evidence.{Evidence}
use Rattle.parikh_flow.specs.Rows.{IsSystemOf}
use Rattle.leaf_solve.specs.Answers.{HasNoHit, IsLeafAnswer, IsLongAnswer, IsOpenAnswer, IsSatAnswer, IsDecided, MustDecideLeaf, row_reach}
use Rattle.leaf_solve.specs.Longs.{HasRun, IsShortestWord, IsLongShown}
use Rattle.leaf_solve.specs.Questions.{IsAsked, EachHit, LieIn, total_states}
use Rattle.leaf_solve.specs.declared.leaf_answer.LeafAnswer.{LeafAnswer}
use Rattle.leaf_solve.specs.declared.leaf_answer.LeafAnswer.TheVariants as leaf
use Rattle.leaf_solve.specs.declared.long_shown.LongShown.{LongShown}
use Rattle.leaf_solve.specs.declared.long_shown.LongShown.TheVariants.{Words, Rows}
use Rattle.flat_cubes.specs.Using.{is_defined}
use Rattle.cube_bounds.specs.Bounds.{states, sources}
use Rattle.cube_bounds.specs.Growth.{growth, longest_word, reach}
use Rattle.cube_bounds.specs.Sides.{IsSmall}
use Rattle.flat_cubes.specs.Straight.{IsRowBelow, IsStraight}
use Rattle.flat_cubes.specs.declared.flat.Flat.{Flat}
use Rattle.cube_region.specs.Regions.{IsRegionFor}
use Rattle.cube_search.specs.OpenLeaves.{IsLongFor}
use Rattle.cube_search.specs.LeafAnswers.{AreOfLeaf, EachHitOf, IsAnswerFor, IsLeafOutside, IsPastReach, IsUndecided, past_words, words_of}
use Rattle.cube_search.specs.Limits.{MustDecideFlat}
use Rattle.cube_search.proofs.RowLemmas.{rows-within}

-- the reach as a leaf is given it: 0 where there is none
pub record IsReachOf (flat : Flat) (r : ℕ) : Type 0 where
  pub below : reach flat ≤ℤ pos r
  pub exact : pos 0 ≤ℤ reach flat → reach flat ≡ pos r
  pub nothing : reach flat <ℤ pos 0 → r ≡ 0

no-rows : (flat : Flat) → ((flat.rows ≡ [] → ⊥) → pos 0 ≤ℤ reach flat) → reach flat <ℤ pos 0 → flat.rows ≡ []
no-rows flat h negative = by flat.rows refl
  where
    by : (rows : List Row) → flat.rows ≡ rows → flat.rows ≡ []
    by [] e = e
    by (x ∷ xs) e = absurd (let p = h (λ n. (let q : x ∷ xs ≡ [] = sym e ∙ n in cc)) in omega (arith, ints))

-- words without a character are shortest ones
empty-shortest : (machines : List Graph) (runs : List (Run ℕ)) → AreRunsOf machines runs → characters runs ≤ 0 → AllZip IsShortestWord machines (words_of runs)
empty-shortest [] [] z l = tt
empty-shortest [] (r ∷ rs) z l = absurd z
empty-shortest (m ∷ ms) [] z l = absurd z
empty-shortest (m ∷ ms) (r ∷ rs) z l = (
  record {
    cost = run_total r;
    accepted = run_accepted (StepsBy m.edges) (EndsAt m.ends) 0 r z.0;
    least = λ other cost a. omega arith;
  },
  empty-shortest ms rs z.1 (omega arith),
)

runs-there : (machines : List Graph) (runs : List (Run ℕ)) → AreRunsOf machines runs → All HasRun machines
runs-there [] [] z k d lt = absurd (omega arith)
runs-there [] (r ∷ rs) z k d lt = absurd z
runs-there (m ∷ ms) [] z k d lt = absurd z
runs-there (m ∷ ms) (r ∷ rs) z zero d lt = (r, z.0)
runs-there (m ∷ ms) (r ∷ rs) z (suc k) d lt = runs-there ms rs z.1 k d (omega arith)

-- a run has a number for each register
run-width : (m : Graph) (word : List ℕ) (s : ℕ) (cost : List ℕ) → RunsFrom (EndsAt m.ends) (StepsBy m.edges) s word cost → length cost ≡ m.registers
run-width m word s cost r = runs_width (λ n. Unit {0}) (StepsBy m.edges) (λ s t c cost h st. tt)
    (EndsAt m.ends) m.registers (λ s t c cost h st. (step_most m.states m.registers m.edges m.ends m.formed s t c cost st).entries)
    (λ s cost h e. (end_most m.states m.registers m.edges m.ends m.formed s cost e).entries) word s cost tt r

few-sources : (flat : Flat) → sources flat ≤ length flat.variables
few-sources flat =
    let l = filter-shorter (λ v. not (is_defined flat.definitions v)) (range_with_len 0 (length flat.variables)) in
    let e = length-range_with_len 0 (length flat.variables) in
    omega arith

-- what runs cost has a number for each register
totals-length : (n : ℕ) (machines : List Graph) (runs : List (Run ℕ)) → All (λ m. m.registers ≡ n) machines → AreRunsOf machines runs → length (runs_total n runs) ≡ n
totals-length n [] [] wide z = zeros-length n
totals-length n [] (r ∷ runs) wide z = absurd z
totals-length n (m ∷ machines) [] wide z = absurd z
totals-length n (m ∷ machines) (r ∷ runs) wide z =
    let here : length (run_total r) ≡ n = run-width m r.word 0 (run_total r) (run_accepted (StepsBy m.edges) (EndsAt m.ends) 0 r z.0) ∙ wide 0 m (omega arith) in
    add_costs-length (run_total r) (runs_total n runs) n here (totals-length n machines runs (λ k d lt. wide (suc k) d (omega (arith, lt))) z.1)

top-within : (bound : ℕ) (machines : List Graph) → All (λ m. m.states ≤ bound) machines → greatest_states machines ≤ bound
top-within bound [] few = omega arith
top-within bound (m ∷ machines) few =
    let here : m.states ≤ bound = few 0 m (omega arith) in
    let rest = top-within bound machines (λ k d lt. few (suc k) d (omega (arith, lt))) in
    omega arith

total-within : (bound : ℕ) (machines : List Graph) → All (λ m. m.states ≤ bound) machines → total_states machines ≤ bound * length machines
total-within bound [] few = omega arith
total-within bound (m ∷ machines) few =
    let here : m.states ≤ bound = few 0 m (omega arith) in
    let rest = total-within bound machines (λ k d lt. few (suc k) d (omega (arith, lt))) in
    omega arith

reach-most : (flat : Flat) (r : ℕ) → IsReachOf flat r → r ≤ 4194303
reach-most flat r is = elim (sign (reach flat)) [
  | inl negative ↦ (let e = is.nothing negative in omega arith)
  | inr positive ↦
      let e = is.exact positive in
      let q : longest_word / growth flat ≤ longest_word = div-le_self longest_word (growth flat) in
      omega (arith, ints)
]
  where
    sign : (z : ℤ) → (z <ℤ pos 0) ⊎ (pos 0 ≤ℤ z)
    sign (pos n) = inr (omega (arith, ints))
    sign (negsuc n) = inl (omega (arith, ints))

module _ (flat : Flat) (region : Region) (machines : List Graph) (r : ℕ) (for : IsRegionFor flat region) (of : AreOfLeaf flat machines) (is : IsReachOf flat r) where
  wide-region : All (λ m. m.registers ≡ length region.registers) machines
  wide-region k d lt = of.wide k d lt ∙ sym for.registers

  pub asked : (small : Bool) → IsStraight flat → length flat.variables < 2 ^ 32 → (IsTrue small ↔ IsSmall flat) → IsAsked machines (length flat.integers) flat.rows region small r
  asked small straight few is_small = record {
    few_machines = (let a = few-sources flat in let b = of.count in omega arith);
    registers = wide-region;
    few_registers = (let a = straight.few_registers in let b = for.registers in omega arith);
    few_integers = straight.few_integers;
    rows_within = rows-within (length flat.integers + length region.registers) flat.rows (subst (λ n. AllByRecursion (IsRowBelow (length flat.integers + n)) flat.rows) (sym for.registers) straight.rows);
    few_characters = reach-most flat r is;
    holds = λ e runs numbers hit.
        for.box (is_small.0 e) numbers (runs_total (length region.registers) runs) (totals-length (length region.registers) machines runs wide-region hit.each ∙ for.registers) hit.meets;
    short = λ e.
        let b = for.bound e in
        let at = is.exact (omega (arith, ints)) in
        let most = top-within (states flat) machines of.few in
        let one : greatest_states machines * points region ≤ states flat * points region = mul-le-mul_right (points region) most in
        let two : greatest_states machines * points region * length machines ≤ states flat * points region * length machines = mul-le-mul_right (length machines) one in
        let whole : states flat * points region * length machines ≡ states flat * points region * sources flat = ap (λ n. states flat * points region * n) of.count in
        omega (arith, ints);
    sides = for.integers;
    fits = for.fits;
  }

  -- where the text says that the cube must be decided, so must the leaf
  pub must-decide-leaf : (small : Bool) → (IsTrue small ↔ IsSmall flat) → MustDecideFlat flat → MustDecideLeaf machines flat.rows small r
  must-decide-leaf small is_small must = elim must.search [
    | inl s ↦ inl (is_small.1 s)
    | inr e ↦
        let at = is.exact (omega (arith, ints, e.1)) in
        let most = total-within (states flat) machines of.few in
        let whole : states flat * length machines ≡ states flat * sources flat = ap (λ n. states flat * n) of.count in
        inr (e.0, omega (arith, ints, e.1))
  ]

  each-of : (fact : List (Run ℕ) → Type 0) → EachHit machines (length region.registers) (length flat.integers) flat.rows (λ runs numbers. fact runs) → EachHitOf flat region machines fact
  each-of fact h = subst (λ n. EachHit machines n (length flat.integers) flat.rows (λ runs numbers. fact runs)) for.registers h

  outside-of : All HasRun machines → EachHit machines (length region.registers) (length flat.integers) flat.rows (λ runs numbers. LieIn region runs numbers → ⊥) → IsLeafOutside flat region machines
  outside-of runs h = record {
    inhabited = runs;
    none_in_region = subst (λ n. EachHit machines n (length flat.integers) flat.rows (λ runs numbers. LieIn region runs numbers → ⊥)) for.registers h;
  }

  -- what shows that words are too long for the reach that the leaf was given shows it for the cube's
  long-for : ((flat.rows ≡ [] → ⊥) → pos 0 ≤ℤ reach flat) → (small : Bool) → (IsTrue small ↔ IsSmall flat) → (shown : LongShown)
      → IsLongShown machines (length region.registers) (length flat.integers) flat.rows small (pos r) shown → IsLongFor flat machines shown
  long-for reachable small is_small shown h = (small, is_small, go shown (subst (λ n. IsLongShown machines n (length flat.integers) flat.rows small (pos r) shown) for.registers h))
    where
      go : (shown : LongShown) → IsLongShown machines (length flat.registers) (length flat.integers) flat.rows small (pos r) shown → IsLongShown machines (length flat.registers) (length flat.integers) flat.rows small (reach flat) shown
      go (Words ws) k = (k.0, k.1, (let b = is.below in let l = k.2 in omega (arith, ints)))
      go (Rows system tree beyond) k = (k.0, k.1, k.2, is.exact (reachable k.0) ∙ k.3, k.4, k.5, k.6)

  module _ (reachable : (flat.rows ≡ [] → ⊥) → pos 0 ≤ℤ reach flat) (small : Bool) (is_small : IsTrue small ↔ IsSmall flat) where
    abbrev Answered : LeafAnswer → Type 0
    Answered = IsLeafAnswer machines (length flat.integers) flat.rows region small r

    closed-arm : HasNoHit machines (length region.registers) (length flat.integers) flat.rows → EachHitOf flat region machines (λ runs. ⊥)
    closed-arm h = each-of (λ runs. ⊥) h

    long-arm : (shown : LongShown) → IsLongAnswer machines (length region.registers) (length flat.integers) flat.rows region small r shown → IsPastReach flat region machines shown
    long-arm shown h = record {
      outside = outside-of h.inhabited h.none_in_region;
      past = each-of (λ runs. reach flat <ℤ pos (characters runs)) (λ runs numbers hit. let p = h.past runs numbers hit in let b = is.below in omega (arith, ints));
      is_shown = long-for reachable small is_small shown h.shown;
    }

    open-arm : (system : System) (evidence : Evidence) → IsOpenAnswer machines (length region.registers) (length flat.integers) flat.rows region small r system evidence → IsUndecided flat region machines system evidence
    open-arm system evidence h = record {
      outside = outside-of h.inhabited h.none_in_region;
      has_rows = h.has_rows;
      not_small = λ s. (let a = is_small.1 s in let b = h.not_small in cc);
      given_up = record {
        is_system = (r, is.exact (reachable h.has_rows), subst (λ n. IsSystemOf machines (length flat.integers) n flat.rows (row_reach machines r) system) for.registers h.is_system);
        evidence_holds = h.evidence_holds;
      };
    }

    pub answered : (a : LeafAnswer) → pos 0 ≤ℤ reach flat → Answered a → IsAnswerFor flat region machines a
    answered (leaf.Sat hit) positive h = record {
      is_hit = subst (λ n. IsHit machines n (length flat.integers) flat.rows hit.runs hit.integers) for.registers h.is_hit;
      within = (let e = is.exact positive in let w = h.within in omega (arith, ints));
    }
    answered (leaf.Closed closing) positive h = closed-arm h.none
    answered (leaf.Long shown) positive h = long-arm shown h
    answered (leaf.Open system evidence) positive h = open-arm system evidence h

    -- where nothing is within reach, a hit is of words without a character, which are too long
    hit-past : (hit : Hit) → reach flat <ℤ pos 0 → IsSatAnswer machines (length region.registers) (length flat.integers) flat.rows r hit → IsPastReach flat region machines (Words (words_of hit.runs))
    hit-past hit negative h = record {
      outside = record {
        inhabited = runs-there machines hit.runs h.is_hit.each;
        none_in_region = λ runs numbers k lies. (let b = for.bound lies.not_empty in omega (arith, ints));
      };
      past = λ runs numbers k. omega (arith, ints);
      is_shown = (
        small,
        is_small,
        (
          no-rows flat reachable negative,
          empty-shortest machines hit.runs h.is_hit.each (let w = h.within in let e = is.nothing negative in omega arith),
          omega (arith, ints),
        ),
      );
    }

    pub answered-past : (a : LeafAnswer) → reach flat <ℤ pos 0 → Answered a → IsAnswerFor flat region machines (past_words a)
    answered-past (leaf.Sat hit) negative h = hit-past hit negative h
    answered-past (leaf.Closed closing) negative h = closed-arm h.none
    answered-past (leaf.Long shown) negative h = long-arm shown h
    answered-past (leaf.Open system evidence) negative h = open-arm system evidence h

below-of : (z : ℤ) (r : ℕ) → (pos 0 ≤ℤ z → z ≡ pos r) → z ≤ℤ pos r
below-of (pos n) r h = let e = h (omega (arith, ints)) in omega (arith, ints)
below-of (negsuc n) r h = omega (arith, ints)

pub reach-of : (flat : Flat) (z : ℤ) (r : ℕ) → z ≡ reach flat → (pos 0 ≤ℤ z → z ≡ pos r) → (z <ℤ pos 0 → r ≡ 0) → IsReachOf flat r
reach-of flat z r e h n = record {
  below = subst (λ x. x ≤ℤ pos r) e (below-of z r h);
  exact = subst (λ x. pos 0 ≤ℤ x → x ≡ pos r) e h;
  nothing = subst (λ x. x <ℤ pos 0 → r ≡ 0) e n;
}

pub lt-so : (z : ℤ) → lt_z z (pos 0) ≡ true → z <ℤ pos 0
lt-so z h = grind (arith, ints)

pub not-lt : (z : ℤ) → lt_z z (pos 0) ≡ false → pos 0 ≤ℤ z
not-lt z h = grind (arith, ints)

-- the same of the values that the call is given
module _ (flat : Flat) (region : Region) (machines : List Graph) (r : ℕ) (for : IsRegionFor flat region) (of : AreOfLeaf flat machines) (is : IsReachOf flat r) (small : Bool) (is_small : IsTrue small ↔ IsSmall flat)
    (len : ℕ) (rows : List Row) (same-len : len ≡ length flat.integers) (same-rows : rows ≡ flat.rows) where
  pub asked-at : IsStraight flat → length flat.variables < 2 ^ 32 → IsAsked machines len rows region small r
  asked-at straight few =
      subst (λ n. IsAsked machines n rows region small r) (sym same-len) (subst (λ x. IsAsked machines (length flat.integers) x region small r) (sym same-rows) (asked flat region machines r for of is small straight few is_small))

  own : (a : LeafAnswer) → IsLeafAnswer machines len rows region small r a → IsLeafAnswer machines (length flat.integers) flat.rows region small r a
  own a h = subst (λ x. IsLeafAnswer machines (length flat.integers) x region small r a) same-rows (subst (λ n. IsLeafAnswer machines n rows region small r a) same-len h)

  pub answered-at : ((flat.rows ≡ [] → ⊥) → pos 0 ≤ℤ reach flat) → (a : LeafAnswer) → pos 0 ≤ℤ reach flat → IsLeafAnswer machines len rows region small r a → IsAnswerFor flat region machines a
  answered-at reachable a positive h = answered flat region machines r for of is reachable small is_small a positive (own a h)

  pub answered-past-at : ((flat.rows ≡ [] → ⊥) → pos 0 ≤ℤ reach flat) → (a : LeafAnswer) → reach flat <ℤ pos 0 → IsLeafAnswer machines len rows region small r a → IsAnswerFor flat region machines (past_words a)
  answered-past-at reachable a negative h = answered-past flat region machines r for of is reachable small is_small a negative (own a h)

  pub decided-at : (a : LeafAnswer) → (MustDecideLeaf machines rows small r → IsDecided a) → MustDecideFlat flat → IsDecided a
  decided-at a decided must = decided (subst (λ x. MustDecideLeaf machines x small r) (sym same-rows) (must-decide-leaf flat region machines r for of is small is_small must))
