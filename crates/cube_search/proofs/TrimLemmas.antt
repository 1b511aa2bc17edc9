-- A family with its machines cut down.
use Rattle.std.proofs.Common.{◌≡◌, ℕ, zero, suc, ◌<◌, ◌≤◌, ◌+◌, List, [], ◌∷◌, ◌++◌, length, map, take, get_or, Contains, All, Option, Some, None, slice_get, refl, sym, ap, ◌∙◌, subst, arith}
use Rattle.std.specs.List.{AllZip}
use Rattle.std.proofs.lemmas.List.{take_all}
use Rattle.machine_core.specs.declared.graph.Graph.{Graph}
use Rattle.machine_core.specs.declared.run.Run.{Run}
use Rattle.machine_core.specs.Costs.{add_costs, total_of}
use Rattle.machine_core.specs.Graphs.{IsRunOf}
use Rattle.machine_core.specs.Runs.{run_total}
use Rattle.trim_search.specs.Lifted.{IsLift}
use Rattle.trim_search.specs.Useful.{IsOnRun}
use Rattle.trim_search.specs.declared.built.Built.{Built}
use Rattle.search_hits.specs.Hits.{runs_total}
use Rattle.leaf_solve.specs.Longs.{HasRun}
use Rattle.cube_bounds.specs.Bounds.{states}
use Rattle.flat_cubes.specs.declared.flat.Flat.{Flat}
use Rattle.backward.specs.Chains.{width}
use Rattle.backward.specs.Families.{Family, HasMachine}
use Rattle.backward.specs.Leaves.{machines_of, IsLess, IsLessened}
use Rattle.backward.specs.States.{IsState}
use Rattle.backward.specs.declared.leaf_state.LeafState.{LeafState}
use Rattle.backward.proofs.PlaceLemmas.{free-held, held-once}
use Rattle.backward.proofs.LeafLemmas.{few-states}
use Rattle.cube_bounds.specs.NumberLaws.{StatesAreBounded, StatesAreSolved}
use Rattle.flat_cubes.specs.Straight.{IsStraight}
use Rattle.cube_search.specs.LeafAnswers.{AreOfLeaf, words_of}
use Rattle.cube_search.specs.Leaves.{AreLifted, IsTrim, machine_of}
use Rattle.cube_search.proofs.Places.{ReadsSame, machines-all, machines-length}

-- the machines of a list at the places of a family's machines
abbrev pub lessened : Family → List Graph → Family
lessened [] gs = []
lessened (None ∷ ms) gs = None ∷ lessened ms gs
lessened (Some m ∷ ms) [] = None ∷ lessened ms []
lessened (Some m ∷ ms) (g ∷ gs) = Some g ∷ lessened ms gs

lessened-size : (ms : Family) (gs : List Graph) → length (lessened ms gs) ≡ length ms
lessened-size [] gs = refl
lessened-size (None ∷ ms) gs = ap suc (lessened-size ms gs)
lessened-size (Some m ∷ ms) [] = ap suc (lessened-size ms [])
lessened-size (Some m ∷ ms) (g ∷ gs) = ap suc (lessened-size ms gs)

lessened-none : (ms : Family) (gs : List Graph) (v : ℕ) → slice_get ms v ≡ Some None → slice_get (lessened ms gs) v ≡ Some None
lessened-none [] gs v h = cc
lessened-none (None ∷ ms) gs zero h = refl
lessened-none (None ∷ ms) gs (suc v) h = lessened-none ms gs v h
lessened-none (Some m ∷ ms) gs zero h = cc
lessened-none (Some m ∷ ms) [] (suc v) h = lessened-none ms [] v h
lessened-none (Some m ∷ ms) (g ∷ gs) (suc v) h = lessened-none ms gs v h

lessened-each : (P : Graph → Graph → Type 0) (ms : Family) (gs : List Graph) → AllZip P (machines_of ms) gs → (v : ℕ) (m : Graph) → HasMachine ms v m → (n : Graph) × HasMachine (lessened ms gs) v n × P m n
lessened-each P [] gs z v m h = cc
lessened-each P (None ∷ ms) gs z zero m h = absurd (free-held m h)
lessened-each P (None ∷ ms) gs z (suc v) m h = lessened-each P ms gs z v m h
lessened-each P (Some k ∷ ms) [] z v m h = absurd z
lessened-each P (Some k ∷ ms) (g ∷ gs) z zero m h = (g, refl, subst (λ x. P x g) (held-once k m h) z.0)
lessened-each P (Some k ∷ ms) (g ∷ gs) z (suc v) m h = lessened-each P ms gs z.1 v m h

pub is-lessened : (ms : Family) (gs : List Graph) → AllZip IsLess (machines_of ms) gs → IsLessened ms (lessened ms gs)
is-lessened ms gs z = record { size = lessened-size ms gs; carried = lessened-none ms gs; each = lessened-each IsLess ms gs z }

pub lessened-machines : (ms : Family) (gs : List Graph) → AllZip IsLess (machines_of ms) gs → machines_of (lessened ms gs) ≡ gs
lessened-machines ms gs z = all-there IsLess ms gs z
  where
    all-there : (P : Graph → Graph → Type 0) (ns : Family) (hs : List Graph) → AllZip P (machines_of ns) hs → machines_of (lessened ns hs) ≡ hs
    all-there P [] [] y = refl
    all-there P [] (g ∷ hs) y = absurd y
    all-there P (None ∷ ns) hs y = all-there P ns hs y
    all-there P (Some m ∷ ns) [] y = absurd y
    all-there P (Some m ∷ ns) (g ∷ hs) y = ap (λ l. g ∷ l) (all-there P ns hs y.1)

-- the start lies on each run
start-used : (m : Graph) → HasRun m → IsOnRun m 0
start-used m h = (h.0, h.1, subst (λ ss. Contains ss 0) (sym h.1.states) (zero, omega arith, refl))

less-at : (m : Graph) (t : Built ℕ) → IsTrim m t → HasRun t.machine → IsLess m t.machine
less-at m t is run = record { language = is.language; registers = is.registers; states = is.states; inhabited = run; used = at }
  where
    at : (s : ℕ) → s < t.machine.states → IsOnRun t.machine s
    at zero lt = start-used t.machine run
    at (suc s) lt = is.used (suc s) (omega arith) lt

-- machines that are cut down and have runs are less
pub trims-less : (ms : List Graph) (ts : List (Built ℕ)) → AllZip IsTrim ms ts → All HasRun (map machine_of ts) → AllZip IsLess ms (map machine_of ts)
trims-less [] [] z runs = tt
trims-less [] (t ∷ ts) z runs = absurd z
trims-less (m ∷ ms) [] z runs = absurd z
trims-less (m ∷ ms) (t ∷ ts) z runs = (less-at m t z.0 (runs 0 t.machine (omega arith)), trims-less ms ts z.1 (λ k d lt. runs (suc k) d (omega arith)))

pub trims-read : (ms : List Graph) (ts : List (Built ℕ)) → AllZip IsTrim ms ts → AllZip ReadsSame ms (map machine_of ts)
trims-read [] [] z = tt
trims-read [] (t ∷ ts) z = absurd z
trims-read (m ∷ ms) [] z = absurd z
trims-read (m ∷ ms) (t ∷ ts) z = ((λ word cost a. (z.0.language word cost).1 a), trims-read ms ts z.1)

-- what holds of each machine holds of it once it is cut down
trims-all : (P Q : Graph → Type 0) → ((m : Graph) (t : Built ℕ) → IsTrim m t → P m → Q t.machine) → (ms : List Graph) (ts : List (Built ℕ)) → AllZip IsTrim ms ts → All P ms → All Q (map machine_of ts)
trims-all P Q f [] [] z all k d lt = absurd (omega (arith, lt))
trims-all P Q f [] (t ∷ ts) z all k d lt = absurd z
trims-all P Q f (m ∷ ms) [] z all k d lt = absurd z
trims-all P Q f (m ∷ ms) (t ∷ ts) z all zero d lt = f m t z.0 (all 0 m (omega arith))
trims-all P Q f (m ∷ ms) (t ∷ ts) z all (suc k) d lt = trims-all P Q f ms ts z.1 (λ i e l. all (suc i) e (omega arith)) k d (omega (arith, lt))

trims-length : (ms : List Graph) (ts : List (Built ℕ)) → AllZip IsTrim ms ts → length (map machine_of ts) ≡ length ms
trims-length [] [] z = refl
trims-length [] (t ∷ ts) z = absurd z
trims-length (m ∷ ms) [] z = absurd z
trims-length (m ∷ ms) (t ∷ ts) z = ap suc (trims-length ms ts z.1)

-- machines of a leaf, once they are cut down
pub trims-of-leaf : StatesAreSolved → StatesAreBounded → (flat : Flat) → IsStraight flat → (s : LeafState) → IsState flat 0 s → (ts : List (Built ℕ)) → AllZip IsTrim (machines_of s.machines) ts
    → AreOfLeaf flat (map machine_of ts)
trims-of-leaf solved bounded flat straight s state ts z = record {
  count = trims-length (machines_of s.machines) ts z ∙ machines-length flat s state;
  wide = trims-all (λ m. m.registers ≡ width flat) (λ m. m.registers ≡ width flat) (λ m t is h. is.registers ∙ h) (machines_of s.machines) ts z
      (machines-all (λ m. m.registers ≡ width flat) s.machines (λ v m h. s.wide v m h ∙ state.registers));
  few = trims-all (λ m. m.states ≤ states flat) (λ m. m.states ≤ states flat) (λ m t is h. omega (arith, h, is.states)) (machines_of s.machines) ts z
      (machines-all (λ m. m.states ≤ states flat) s.machines (few-states solved bounded flat straight s state));
}

-- runs taken back over the cutting: of the machines before, on the same words at the same costs
pub lifted-runs : (ms : List Graph) (ts : List (Built ℕ)) (runs others : List (Run ℕ)) → AllZip IsTrim ms ts → AllZip IsRunOf (map machine_of ts) runs → AreLifted ts runs others → AllZip IsRunOf ms others
lifted-runs [] [] [] [] z r l = tt
lifted-runs [] [] [] (o ∷ others) z r l = absurd l
lifted-runs [] [] (x ∷ runs) others z r l = absurd r
lifted-runs [] (t ∷ ts) runs others z r l = absurd z
lifted-runs (m ∷ ms) [] runs others z r l = absurd z
lifted-runs (m ∷ ms) (t ∷ ts) [] others z r l = absurd r
lifted-runs (m ∷ ms) (t ∷ ts) (x ∷ runs) [] z r l = absurd l
lifted-runs (m ∷ ms) (t ∷ ts) (x ∷ runs) (o ∷ others) z r l = (z.0.lifts x o r.0 l.0, lifted-runs ms ts runs others z.1 r.1 l.1)

lift-total : (names : List ℕ) (run other : Run ℕ) → IsLift names run other → run_total other ≡ run_total run
lift-total names run other is = ap (λ cs. total_of cs other.last) is.costs ∙ ap (total_of run.costs) is.last

pub lifted-words : (ts : List (Built ℕ)) (runs others : List (Run ℕ)) → AreLifted ts runs others → words_of others ≡ words_of runs
lifted-words [] [] [] l = refl
lifted-words [] [] (o ∷ others) l = absurd l
lifted-words [] (x ∷ runs) others l = absurd l
lifted-words (t ∷ ts) [] others l = absurd l
lifted-words (t ∷ ts) (x ∷ runs) [] l = absurd l
lifted-words (t ∷ ts) (x ∷ runs) (o ∷ others) l = let here = l.0.word in let rest = lifted-words ts runs others l.1 in cc

pub lifted-totals : (n : ℕ) (ts : List (Built ℕ)) (runs others : List (Run ℕ)) → AreLifted ts runs others → runs_total n others ≡ runs_total n runs
lifted-totals n [] [] [] l = refl
lifted-totals n [] [] (o ∷ others) l = absurd l
lifted-totals n [] (x ∷ runs) others l = absurd l
lifted-totals n (t ∷ ts) [] others l = absurd l
lifted-totals n (t ∷ ts) (x ∷ runs) [] l = absurd l
lifted-totals n (t ∷ ts) (x ∷ runs) (o ∷ others) l =
    let here = lift-total t.names x o l.0 in
    let rest = lifted-totals n ts runs others l.1 in
    ap (λ a. add_costs a (runs_total n others)) here ∙ ap (add_costs (run_total x)) rest

-- loops: one place more
next : (i : ℕ) → suc i + 1 ≡ suc (i + 1)
next i = omega arith

pub machines-some : (ms : Family) (i : ℕ) (o : Option Graph) (m : Graph) → i < length ms → o ≡ get_or ms i o → o ≡ Some m → machines_of (take (i + 1) ms) ≡ machines_of (take i ms) ++ m ∷ []
machines-some [] i o m lt e is = absurd (omega arith)
machines-some (x ∷ ms) zero o m lt e is = (let same : x ≡ Some m = sym e ∙ is in ap (λ y. machines_of (y ∷ [])) same)
machines-some (None ∷ ms) (suc i) o m lt e is = ap (λ k. machines_of (take k (None ∷ ms))) (next i) ∙ machines-some ms i o m (omega arith) e is
machines-some (Some n ∷ ms) (suc i) o m lt e is = ap (λ k. machines_of (take k (Some n ∷ ms))) (next i) ∙ ap (λ l. n ∷ l) (machines-some ms i o m (omega arith) e is)

pub machines-none : (ms : Family) (i : ℕ) (o : Option Graph) → i < length ms → o ≡ get_or ms i o → o ≡ None → machines_of (take (i + 1) ms) ≡ machines_of (take i ms)
machines-none [] i o lt e is = absurd (omega arith)
machines-none (x ∷ ms) zero o lt e is = (let same : x ≡ None = sym e ∙ is in ap (λ y. machines_of (y ∷ [])) same)
machines-none (None ∷ ms) (suc i) o lt e is = ap (λ k. machines_of (take k (None ∷ ms))) (next i) ∙ machines-none ms i o (omega arith) e is
machines-none (Some n ∷ ms) (suc i) o lt e is = ap (λ k. machines_of (take k (Some n ∷ ms))) (next i) ∙ ap (λ l. n ∷ l) (machines-none ms i o (omega arith) e is)

pub trims-push : (ms : List Graph) (ts : List (Built ℕ)) (m : Graph) (t : Built ℕ) → AllZip IsTrim ms ts → IsTrim m t → AllZip IsTrim (ms ++ m ∷ []) (ts ++ t ∷ [])
trims-push [] [] m t z is = (is, tt)
trims-push [] (x ∷ ts) m t z is = absurd z
trims-push (n ∷ ms) [] m t z is = absurd z
trims-push (n ∷ ms) (x ∷ ts) m t z is = (z.0, trims-push ms ts m t z.1 is)

-- runs that are taken back one after another
pub runs-long : (ts : List (Built ℕ)) (runs : List (Run ℕ)) → AllZip IsRunOf (map machine_of ts) runs → length runs ≡ length ts
runs-long [] [] z = refl
runs-long [] (r ∷ runs) z = absurd z
runs-long (t ∷ ts) [] z = absurd z
runs-long (t ∷ ts) (r ∷ runs) z = ap suc (runs-long ts runs z.1)

pub run-at : (ts : List (Built ℕ)) (runs : List (Run ℕ)) → AllZip IsRunOf (map machine_of ts) runs → (i : ℕ) (t : Built ℕ) (r : Run ℕ) → i < length ts → t ≡ get_or ts i t → r ≡ get_or runs i r → IsRunOf t.machine r
run-at [] runs z i t r lt e f = absurd (omega (arith, lt))
run-at (x ∷ ts) [] z i t r lt e f = absurd z
run-at (x ∷ ts) (y ∷ runs) z zero t r lt e f = subst (λ a. IsRunOf t.machine a) (sym f) (subst (λ (b : Built ℕ). IsRunOf b.machine y) (sym e) z.0)
run-at (x ∷ ts) (y ∷ runs) z (suc i) t r lt e f = run-at ts runs z.1 i t r (omega (arith, lt)) e f

pub lifted-push : (ts : List (Built ℕ)) (runs others : List (Run ℕ)) (i : ℕ) (t : Built ℕ) (r o : Run ℕ) → i < length ts → i < length runs → t ≡ get_or ts i t → r ≡ get_or runs i r
    → AreLifted (take i ts) (take i runs) others → IsLift t.names r o → AreLifted (take (i + 1) ts) (take (i + 1) runs) (others ++ o ∷ [])
lifted-push [] runs others i t r o lt lu e f l is = absurd (omega (arith, lt))
lifted-push (x ∷ ts) [] others i t r o lt lu e f l is = absurd (omega (arith, lu))
lifted-push (x ∷ ts) (y ∷ runs) [] zero t r o lt lu e f l is = (subst (λ a. IsLift x.names a o) f (subst (λ (b : Built ℕ). IsLift b.names r o) e is), tt)
lifted-push (x ∷ ts) (y ∷ runs) (z ∷ others) zero t r o lt lu e f l is = absurd l
lifted-push (x ∷ ts) (y ∷ runs) [] (suc i) t r o lt lu e f l is = absurd l
lifted-push (x ∷ ts) (y ∷ runs) (z ∷ others) (suc i) t r o lt lu e f l is =
    let rest = lifted-push ts runs others i t r o (omega (arith, lt)) (omega (arith, lu)) e f l.1 is in
    subst (λ k. AreLifted (take k (x ∷ ts)) (take k (y ∷ runs)) (z ∷ others ++ o ∷ [])) (sym (next i)) (l.0, rest)

pub lifted-whole : (ts : List (Built ℕ)) (runs others : List (Run ℕ)) (n : ℕ) → n ≡ length runs → length runs ≡ length ts → AreLifted (take n ts) (take n runs) others → AreLifted ts runs others
lifted-whole ts runs others n e f l = subst (λ us. AreLifted us runs others) (take_all n ts (omega (arith, e, f))) (subst (λ rs. AreLifted (take n ts) rs others) (take_all n runs (omega (arith, e))) l)
