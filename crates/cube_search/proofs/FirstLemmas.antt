-- From a first family to the cube: what satisfies the cube is read by it, and what it reads satisfies the cube.
use Rattle.std.proofs.Common.{◌≡◌, ℕ, zero, suc, ◌<◌, ◌+◌, false, cond, nat_eq, List, [], ◌∷◌, length, map, take, Some, None, slice_get, get_or, refl, sym, ap, ◌∙◌, subst, arith}
use Rattle.std.specs.List.{AllZip, range_with_len}
use Rattle.std.proofs.lemmas.Option.{slice_get_within}
use Rattle.std.proofs.Math.Seq.{take-length}
use Rattle.sv_terms.specs.Language.{Word}
use Rattle.machine_core.specs.Edges.{EndsAt, StepsBy}
use Rattle.machine_core.specs.Graphs.{Accepts}
use Rattle.machine_core.specs.RunLaws.{run_accepted}
use Rattle.machine_core.specs.Runs.{run_total}
use Rattle.machine_core.specs.declared.graph.Graph.{Graph}
use Rattle.sv_linear.specs.Rows.{MeetsRows}
use Rattle.cube_bounds.specs.Bounds.{states_at}
use Rattle.flat_cubes.specs.Satisfying.{MeetsParts, word_at, lengths_of, SatisfiesWords, Satisfies}
use Rattle.flat_cubes.specs.Straight.{IsStraight, AreBelow}
use Rattle.flat_cubes.specs.declared.definition.Definition.{Definition}
use Rattle.flat_cubes.specs.declared.flat.Flat.{Flat}
use Rattle.backward.specs.Families.{Family, Words, after, HasMachine, Conf}
use Rattle.backward.specs.Chains.{width, own_cost, IsOwnFamily, IsLed, begun, same, cut, through, IsLedFrom, SameConf}
use Rattle.backward.specs.Runs.{Runs, AreRuns, run_words, run_totals}
use Rattle.backward.specs.Leaves.{Obey}
use Rattle.backward.proofs.LeafLemmas.{own_entry, map-add, map-zero, map-below, own-full, own-reads, range-at, zip-range, obeyed, lengths-agree, conf-accepts, conf-totals}
use Rattle.cube_search.specs.Entries.{word_by}
use Rattle.cube_search.specs.Models.{all_words}
use Rattle.cube_search.specs.Searches.{AreFoundRuns}
use Rattle.cube_search.specs.declared.found.FoundRuns.{FoundRuns}

-- the words from k on are read by a family of which each machine reads its own words
conf-own : (registers : List ℕ) (f : Words) (ms : Family) (k : ℕ) (g : Words) → ((v : ℕ) → g v ≡ f (k + v)) → ((v : ℕ) → slice_get ms v ≡ Some None → ⊥)
    → ((v : ℕ) (m : Graph) → HasMachine ms v m → Accepts m (f (k + v)) (own_cost registers (k + v) (f (k + v))))
    → Conf (length registers) ms g (map (own_entry f k (length ms)) registers)
conf-own registers f [] k g agree full h = map-zero registers
conf-own registers f (None ∷ ms) k g agree full h = absurd (full 0 refl)
conf-own registers f (Some m ∷ ms) k g agree full h =
    let at : k + 0 ≡ k = omega arith in
    let here : Accepts m (f k) (own_cost registers k (f k)) = subst (λ j. Accepts m (f j) (own_cost registers j (f j))) at (h 0 m refl) in
    let word : f k ≡ g 0 = sym (agree 0 ∙ ap f at) in
    let rest = conf-own registers f ms (suc k) (after g) (λ v. agree (suc v) ∙ ap f (omega arith)) (λ v e. full (suc v) e)
    (λ v n e. let next : k + suc v ≡ suc k + v = omega arith in subst (λ j. Accepts n (f j) (own_cost registers j (f j))) next (h (suc v) n e)) in (
      own_cost registers k (f k),
      map (own_entry f (suc k) (length ms)) registers,
      subst (λ w. Accepts m w (own_cost registers k (f k))) word here,
      rest,
      sym (map-add (λ u. cond (nat_eq u k) (length (f k)) 0) (own_entry f (suc k) (length ms)) registers),
    )

zip-at : {X Y : Type 0} (R : X → Y → Type 0) (xs : List X) (ys : List Y) (d : Y) → AllZip R xs ys → (i : ℕ) (x : X) → slice_get xs i ≡ Some x → R x (get_or ys i d)
zip-at R [] ys d z i x e = cc
zip-at R (y ∷ xs) [] d z i x e = absurd z
zip-at R (y ∷ xs) (w ∷ ys) d z zero x e = let equal : y ≡ x = cc in subst (λ a. R a w) equal z.0
zip-at R (y ∷ xs) (w ∷ ys) d z (suc i) x e = zip-at R xs ys d z.1 i x e

-- a family to which no definition was carried yet comes of a first one by steps that keep the configurations
pub led-first : (n : ℕ) (ds : List Definition) (states : ℕ → ℕ) (First : Family → Type 0) (left : ℕ) (ms : Family) → IsLed n ds states First left ms → left ≡ length ds
    → (ns : Family) × First ns × SameConf n ns ms
led-first n ds states First left ms (begun {ms = ns} own) e = (ns, own, λ words totals. (λ c. c, λ c. c))
led-first n ds states First left ms (same {left = k} {ms = ns} before is) e =
    let r = led-first n ds states First k ns before e in
    (r.0, r.1, λ words totals. (λ c. (is words totals).0 ((r.2 words totals).0 c), λ c. (r.2 words totals).1 ((is words totals).1 c)))
led-first n ds states First left ms (cut {left = k} {ms = ns} x pieces cuts m before at there few is) e = absurd (let below = slice_get_within ds k _ at in omega (arith, below, e))
led-first n ds states First left ms (through {left = k} {ms = ns} x v b m before at reads there few is) e = absurd (let below = slice_get_within ds k _ at in omega (arith, below, e))

-- what satisfies the cube is read by a first family, and obeys the definitions
own-conf : (flat : Flat) (ms : Family) → IsStraight flat → IsOwnFamily flat ms → (ws : List Word) → SatisfiesWords flat ws → Conf (width flat) ms (word_at ws) (lengths_of flat.registers ws)
own-conf flat ms straight own ws s =
    let f = word_at ws in
    let below = subst (λ n. AreBelow n flat.registers) (sym own.size) straight.registers in
    subst (Conf (width flat) ms f) (map-below f (length ms) flat.registers below)
    (conf-own flat.registers f ms 0 f (λ v. ap f (omega arith)) (own-full flat ms own)
    (λ v m h.
    let r = own-reads flat ms own v m h in
    let meets = zip-at MeetsParts flat.variables ws [] s.parts v r.0 r.1 in
    let at : v ≡ 0 + v = omega arith in
    subst (λ j. Accepts m (f j) (own_cost flat.registers j (f j))) at ((r.2 (f v) (own_cost flat.registers v (f v))).1 (meets, refl))))

pub satisfies-conf : (flat : Flat) (ms : Family) → IsStraight flat → IsLedFrom flat (length flat.definitions) ms → (ws : List Word) → SatisfiesWords flat ws → Conf (width flat) ms (word_at ws) (lengths_of flat.registers ws)
satisfies-conf flat ms straight led ws s =
    let first = led-first (width flat) flat.definitions (states_at flat) (IsOwnFamily flat) (length flat.definitions) ms led refl in
    (first.2 (word_at ws) (lengths_of flat.registers ws)).0 (own-conf flat first.0 straight first.1 ws s)

pub satisfies-obey : (flat : Flat) (ws : List Word) → SatisfiesWords flat ws → Obey (take (length flat.definitions) flat.definitions) (word_at ws)
satisfies-obey flat ws s = subst (λ ds. Obey ds (word_at ws)) (sym (take-length flat.definitions)) s.definitions

-- runs of a family are read by it
runs-conf : (n : ℕ) (ms : Family) (rs : Runs) → AreRuns ms rs → (f : Words) → ((v : ℕ) → f v ≡ run_words rs v) → Conf n ms f (run_totals n rs)
runs-conf n [] [] r f at = refl
runs-conf n [] (o ∷ rs) r f at = absurd r
runs-conf n (None ∷ ms) [] r f at = absurd r
runs-conf n (None ∷ ms) (None ∷ rs) r f at = runs-conf n ms rs r (after f) (λ v. at (suc v))
runs-conf n (None ∷ ms) (Some run ∷ rs) r f at = absurd r
runs-conf n (Some m ∷ ms) [] r f at = absurd r
runs-conf n (Some m ∷ ms) (None ∷ rs) r f at = absurd r
runs-conf n (Some m ∷ ms) (Some run ∷ rs) r f at = (
  run_total run,
  run_totals n rs,
  subst (λ w. Accepts m w (run_total run)) (sym (at 0)) (run_accepted (StepsBy m.edges) (EndsAt m.ends) 0 run r.0),
  runs-conf n ms rs r.1 (after f) (λ v. at (suc v)),
  refl,
)

-- the words of runs are the same as a model has them
run-word : (rs : Runs) (v : ℕ) → word_by rs v ≡ run_words rs v
run-word [] v = refl
run-word (None ∷ rs) zero = refl
run-word (Some run ∷ rs) zero = refl
run-word (None ∷ rs) (suc v) = run-word rs v
run-word (Some run ∷ rs) (suc v) = run-word rs v

pub words-same : (n : ℕ) (rs : Runs) → all_words n rs ≡ map (run_words rs) (range_with_len 0 n)
words-same n rs = λ i. map (λ v. run-word rs v i) (range_with_len 0 n)

-- what was found satisfies the cube
pub found-satisfies : (flat : Flat) (ms : Family) (found : FoundRuns) → IsStraight flat → IsLedFrom flat (length flat.definitions) ms → flat.broken ≡ false → AreFoundRuns flat (length flat.definitions) ms found
    → Satisfies flat (all_words (length flat.variables) found.runs) found.integers
found-satisfies flat ms found straight led whole is =
    let n = length flat.variables in
    let f = run_words found.runs in
    let ws = map f (range_with_len 0 n) in
    let first = led-first (width flat) flat.definitions (states_at flat) (IsOwnFamily flat) (length flat.definitions) ms led refl in
    let own = first.1 in
    let conf : Conf (width flat) first.0 f (run_totals (width flat) found.runs) = (first.2 f (run_totals (width flat) found.runs)).1 (runs-conf (width flat) ms found.runs is.runs f (λ v. refl)) in
    let at : (v : ℕ) → v < n → f v ≡ word_at ws v = λ v h. sym (range-at f 0 n v h ∙ ap f (omega arith)) in
    let totals : run_totals (width flat) found.runs ≡ lengths_of flat.registers ws =
    conf-totals flat.registers f first.0 0 f (λ v. ap f (omega arith)) (own-full flat first.0 own)
    (λ v m h w c a. let r = own-reads flat first.0 own v m h in ((r.2 w c).0 a).1 ∙ ap (λ j. own_cost flat.registers j w) (omega arith)) (run_totals (width flat) found.runs) conf
    ∙ map-below f (length first.0) flat.registers (subst (λ k. AreBelow k flat.registers) (sym own.size) straight.registers)
    ∙ lengths-agree f (word_at ws) n at flat.registers straight.registers in
    let met = subst (MeetsRows (length flat.integers) flat.rows found.integers) totals is.rows in
    let all : Satisfies flat ws found.integers
    = record {
      strings = record {
        parts = zip-range f 0 flat.variables (λ v x e.
            let m = own.each v x e in
            let a = conf-accepts (width flat) first.0 f (run_totals (width flat) found.runs) conf v m.0 m.1 in
            let here : v ≡ 0 + v = omega arith in
            subst (λ j. MeetsParts x (f j)) here ((m.2 (f v) a.0).0 a.1).0);
        definitions = obeyed ws f n at flat.definitions straight.order (subst (λ ds. Obey ds f) (take-length flat.definitions) is.obey);
      };
      rows = record { count = met.count; rows = met.each };
      whole = whole;
    } in
    subst (λ l. Satisfies flat l found.integers) (sym (words-same n found.runs)) all
