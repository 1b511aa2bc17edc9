-- The source variables as the places of a family's machines, and what such a family reads.
use Rattle.std.proofs.Common.{◌≡◌, ℕ, suc, ◌+◌, Bool, true, false, not, cond, List, [], ◌∷◌, length, map, filter, All, Some, None, slice_get, refl, sym, ap, ◌∙◌, subst, arith, add-one}
use Rattle.std.specs.List.{AllZip, range_with_len}
use Rattle.std.proofs.lemmas.List.Elements.{All-nil, All-cons}
use Rattle.machine_core.specs.Costs.{add_costs}
use Rattle.machine_core.specs.Edges.{EndsAt, StepsBy}
use Rattle.machine_core.specs.RunLaws.{accepted_run}
use Rattle.machine_core.specs.declared.graph.Graph.{Graph}
use Rattle.machine_core.specs.Graphs.{Accepts}
use Rattle.search_hits.specs.Hits.{runs_total}
use Rattle.flat_cubes.specs.Using.{is_defined}
use Rattle.cube_bounds.specs.Bounds.{sources_of, sources}
use Rattle.flat_cubes.specs.declared.flat.Flat.{Flat}
use Rattle.backward.specs.Families.{Family, Words, after, HasMachine, Conf}
use Rattle.backward.specs.Chains.{width}
use Rattle.backward.specs.Leaves.{machines_of, source_words}
use Rattle.backward.specs.States.{IsState}
use Rattle.backward.specs.declared.leaf_state.LeafState.{LeafState}
use Rattle.cube_search.specs.LeafAnswers.{words_of}
use Rattle.cube_search.specs.Causes.{HaveRunsOn}

-- the variables that have a machine, counted from k
abbrev pub places_from : ℕ → Family → List ℕ
places_from k [] = []
places_from k (None ∷ ms) = places_from (suc k) ms
places_from k (Some m ∷ ms) = k ∷ places_from (suc k) ms

-- a machine that reads the same words at the same costs
abbrev pub ReadsSame : Graph → Graph → Type 0
ReadsSame m g = (word cost : List ℕ) → Accepts m word cost → Accepts g word cost

-- what a family reads is read by runs of machines that read the same
pub conf-runs : (width : ℕ) (ms : Family) (gs : List Graph) → AllZip ReadsSame (machines_of ms) gs → (k : ℕ) (f words : Words) → ((v : ℕ) → f v ≡ words (k + v))
    → (totals : List ℕ) → Conf width ms f totals → HaveRunsOn width gs (map words (places_from k ms)) totals
conf-runs width [] [] z k f words same totals h = record { runs = []; each = tt; on = refl; cost = sym h }
conf-runs width [] (g ∷ gs) z k f words same totals h = absurd z
conf-runs width (None ∷ ms) gs z k f words same totals h = conf-runs width ms gs z (suc k) (after f) words (λ v. same (suc v) ∙ ap words (omega arith)) totals h
conf-runs width (Some m ∷ ms) [] z k f words same totals h = absurd z
conf-runs width (Some m ∷ ms) (g ∷ gs) z k f words same totals h =
    let here : f 0 ≡ words k = same 0 ∙ ap words (omega arith) in
    let run = accepted_run (StepsBy g.edges) (EndsAt g.ends) 0 (f 0) h.0 (z.0 (f 0) h.0 h.2) in
    let rest = conf-runs width ms gs z.1 (suc k) (after f) words (λ v. same (suc v) ∙ ap words (omega arith)) h.1 h.3 in
    let word : run.0.word ≡ words k = run.2 ∙ here in
    record {
      runs = run.0 ∷ rest.runs;
      each = (run.1, rest.each);
      on = ap (λ w. w ∷ words_of rest.runs) word ∙ ap (λ ws. words k ∷ ws) rest.on;
      cost = ap (λ t. add_costs t (runs_total width rest.runs)) run.3 ∙ ap (add_costs h.0) rest.cost ∙ h.4;
    }

filter-true : (p : ℕ → Bool) (x : ℕ) (xs : List ℕ) → p x ≡ true → filter p (x ∷ xs) ≡ x ∷ filter p xs
filter-true p x xs e = ap (λ b. cond b (x ∷ filter p xs) (filter p xs)) e

filter-false : (p : ℕ → Bool) (x : ℕ) (xs : List ℕ) → p x ≡ false → filter p (x ∷ xs) ≡ filter p xs
filter-false p x xs e = ap (λ b. cond b (x ∷ filter p xs) (filter p xs)) e

-- a test that holds just where a machine is finds the places
places-found : (p : ℕ → Bool) (ms : Family) (k : ℕ) → ((v : ℕ) (m : Graph) → HasMachine ms v m → p (k + v) ≡ true) → ((v : ℕ) → slice_get ms v ≡ Some None → p (k + v) ≡ false)
    → filter p (range_with_len k (length ms)) ≡ places_from k ms
places-found p [] k yes_at no_at = refl
places-found p (None ∷ ms) k yes_at no_at =
    let here : p k ≡ false = ap p (omega arith) ∙ no_at 0 refl in
    let rest = places-found p ms (suc k) (λ v m h. ap p (omega arith) ∙ yes_at (suc v) m h) (λ v h. ap p (omega arith) ∙ no_at (suc v) h) in
    filter-false p k (range_with_len (k + 1) (length ms)) here ∙ ap (λ j. filter p (range_with_len j (length ms))) (add-one k) ∙ rest
places-found p (Some m ∷ ms) k yes_at no_at =
    let here : p k ≡ true = ap p (omega arith) ∙ yes_at 0 m refl in
    let rest = places-found p ms (suc k) (λ v m h. ap p (omega arith) ∙ yes_at (suc v) m h) (λ v h. ap p (omega arith) ∙ no_at (suc v) h) in
    filter-true p k (range_with_len (k + 1) (length ms)) here ∙ ap (λ xs. k ∷ xs) (ap (λ j. filter p (range_with_len j (length ms))) (add-one k) ∙ rest)

pub sources-places : (flat : Flat) (s : LeafState) → IsState flat 0 s → sources_of flat ≡ places_from 0 s.machines
sources-places flat s state =
    let p : ℕ → Bool = λ v. not (is_defined flat.definitions v) in
    ap (λ n. filter p (range_with_len 0 n)) (sym state.size)
    ∙ places-found p s.machines 0 (λ v m h. ap not (ap (is_defined flat.definitions) (omega arith) ∙ state.standing v m h)) (λ v h. ap not (ap (is_defined flat.definitions) (omega arith) ∙ state.carried v h))

-- what a family of source variables reads, its machines read together
pub reads-sources : (flat : Flat) (s : LeafState) → IsState flat 0 s → (gs : List Graph) → AllZip ReadsSame (machines_of s.machines) gs → (words : Words) (totals : List ℕ) → Conf (width flat) s.machines words totals
    → HaveRunsOn (width flat) gs (source_words flat words) totals
reads-sources flat s state gs z words totals h =
    subst (λ ps. HaveRunsOn (width flat) gs (map words ps) totals) (sym (sources-places flat s state))
    (conf-runs (width flat) s.machines gs z 0 words words (λ v. ap words (omega arith)) totals h)

-- as many machines as places
places-length : (k : ℕ) (ms : Family) → length (machines_of ms) ≡ length (places_from k ms)
places-length k [] = refl
places-length k (None ∷ ms) = places-length (suc k) ms
places-length k (Some m ∷ ms) = ap suc (places-length (suc k) ms)

pub machines-length : (flat : Flat) (s : LeafState) → IsState flat 0 s → length (machines_of s.machines) ≡ sources flat
machines-length flat s state = places-length 0 s.machines ∙ ap length (sym (sources-places flat s state))

-- what holds of the machine of each variable holds of each machine
pub machines-all : (P : Graph → Type 0) (ms : Family) → ((v : ℕ) (m : Graph) → HasMachine ms v m → P m) → All P (machines_of ms)
machines-all P [] h = All-nil P
machines-all P (None ∷ ms) h = machines-all P ms (λ v m e. h (suc v) m e)
machines-all P (Some m ∷ ms) h = All-cons P m (machines_of ms) (h 0 m refl) (machines-all P ms (λ v m e. h (suc v) m e))
