-- What was found, taken back over a step, and spread from the runs of a leaf.
use Rattle.std.proofs.Common.{◌≡◌, ℕ, zero, suc, ◌<◌, ◌≤◌, ◌+◌, pos, ◌≤ℤ◌, Bool, true, false, not, List, [], ◌∷◌, length, map, filter, take, Some, None, cond, slice_get, refl, sym, ap, ◌∙◌, subst, arith}
use Rattle.std.specs.List.{AllZip, range_with_len}
use Rattle.std.proofs.lemmas.Bool.{false≢true}
use Rattle.sv_list.specs.Lists.{AllByRecursion-weaker}
use Rattle.machine_core.specs.Costs.{add_costs}
use Rattle.machine_core.specs.Graphs.{IsRunOf}
use Rattle.machine_core.specs.Runs.{run_total}
use Rattle.machine_core.specs.declared.run.Run.{Run}
use Rattle.sv_linear.specs.Rows.{MeetsRows}
use Rattle.search_hits.specs.Hits.{characters, runs_total}
use Rattle.search_hits.specs.declared.hit.Hit.{Hit}
use Rattle.search_hits.specs.declared.region.Region.{Region}
use Rattle.leaf_solve.specs.Longs.{letters}
use Rattle.trim_search.specs.declared.built.Built.{Built}
use Rattle.flat_cubes.specs.Using.{is_defined, used}
use Rattle.cube_bounds.specs.Growth.{reach}
use Rattle.flat_cubes.specs.Satisfying.{ComesBy}
use Rattle.flat_cubes.specs.Straight.{IsStraight, InOrder}
use Rattle.flat_cubes.specs.declared.definition.Definition.{Definition}
use Rattle.flat_cubes.specs.declared.flat.Flat.{Flat}
use Rattle.backward.specs.Back.{AreBack}
use Rattle.backward.specs.Families.{Family, Words}
use Rattle.backward.specs.Chains.{width}
use Rattle.backward.specs.Leaves.{machines_of, source_words, Obey}
use Rattle.backward.specs.Runs.{Runs, AreRuns, run_words, run_totals}
use Rattle.backward.specs.States.{IsState}
use Rattle.backward.specs.declared.leaf_state.LeafState.{LeafState}
use Rattle.backward.proofs.LeafLemmas.{comes-agree}
use Rattle.backward.proofs.OrderLemmas.{defined-at}
use Rattle.cube_search.specs.LeafAnswers.{IsHitOf, words_of}
use Rattle.cube_search.specs.Leaves.{AreLifted, IsTrim, machine_of}
use Rattle.cube_search.specs.Spreads.{IsSpread}
use Rattle.cube_search.specs.Searches.{AreFoundRuns}
use Rattle.cube_search.specs.declared.found.FoundRuns.{FoundRuns}
use Rattle.cube_search.proofs.OrderLemmas.{obey-join}
use Rattle.cube_search.proofs.Places.{places_from, sources-places}
use Rattle.cube_search.proofs.TrimLemmas.{lifted-runs, lifted-words, lifted-totals}

-- what isn't defined isn't the variable of a definition
pub not-defined : (ds : List Definition) (at : ℕ) (d : Definition) → slice_get ds at ≡ Some d → (v : ℕ) → is_defined ds v ≡ false → v ≡ d.variable → ⊥
not-defined ds at d e v h same = false≢true (sym h ∙ ap (is_defined ds) same ∙ defined-at ds at d e)

-- the definitions before one of them don't depend on its variable
pub obey-agree : (n : ℕ) (ds : List Definition) (at : ℕ) (d : Definition) → InOrder n ds → slice_get ds at ≡ Some d → (f g : Words)
    → ((v : ℕ) → (v ≡ d.variable → ⊥) → f v ≡ g v) → Obey (take at ds) f → Obey (take at ds) g
obey-agree n [] at d o e f g same h = cc
obey-agree n (c ∷ ds) zero d o e f g same h = tt
obey-agree n (c ∷ ds) (suc at) d o e f g same h = (
  comes-agree c.by f g (f c.variable) (g c.variable)
      (AllByRecursion-weaker (λ v. is_defined (c ∷ ds) v ≡ false) (λ v. f v ≡ g v) (λ v p. same v (not-defined (c ∷ ds) (suc at) d e v p)) (used c.by) o.0.apart)
      (same c.variable (not-defined ds at d e c.variable o.0.once)) h.0,
  obey-agree n ds at d o.1 e f g same h.1,
)

-- the words of variables that aren't defined, where the words differ at a defined one alone
sources-over : (flat : Flat) (at : ℕ) (d : Definition) → slice_get flat.definitions at ≡ Some d → (f g : Words) → ((v : ℕ) → (v ≡ d.variable → ⊥) → f v ≡ g v) → (vs : List ℕ)
    → map f (filter (λ v. not (is_defined flat.definitions v)) vs) ≡ map g (filter (λ v. not (is_defined flat.definitions v)) vs)
sources-over flat at d e f g same [] = refl
sources-over flat at d e f g same (v ∷ vs) = by (is_defined flat.definitions v) refl (sources-over flat at d e f g same vs)
  where
    by : (b : Bool) → is_defined flat.definitions v ≡ b → map f (filter (λ v. not (is_defined flat.definitions v)) vs) ≡ map g (filter (λ v. not (is_defined flat.definitions v)) vs)
        → map f (filter (λ v. not (is_defined flat.definitions v)) (v ∷ vs)) ≡ map g (filter (λ v. not (is_defined flat.definitions v)) (v ∷ vs))
    by true h rest = rw h rest
    by false h rest = rw h (let here = same v (not-defined flat.definitions at d e v h) in cc)

-- the words of source variables are none that is defined
pub sources-agree : (flat : Flat) (at : ℕ) (d : Definition) → slice_get flat.definitions at ≡ Some d → (f g : Words) → ((v : ℕ) → (v ≡ d.variable → ⊥) → f v ≡ g v)
    → source_words flat f ≡ source_words flat g
sources-agree flat at d e f g same = sources-over flat at d e f g same (range_with_len 0 (length flat.variables))

-- the words of source variables, where the words agree at all variables
sources-agreeing : (p : ℕ → Bool) (f g : Words) (top : ℕ) → ((v : ℕ) → v < top → f v ≡ g v) → (k n : ℕ) → k + n ≤ top → map f (filter p (range_with_len k n)) ≡ map g (filter p (range_with_len k n))
sources-agreeing p f g top at k zero h = refl
sources-agreeing p f g top at k (suc n) h = go (p k) (sources-agreeing p f g top at (k + 1) n (omega arith))
  where
    rest : List ℕ
    rest = filter p (range_with_len (k + 1) n)

    go : (b : Bool) → map f rest ≡ map g rest → map f (cond b (k ∷ rest) rest) ≡ map g (cond b (k ∷ rest) rest)
    go true e = let here = at k (omega arith) in cc
    go false e = e

pub sources-all : (flat : Flat) (f g : Words) → ((v : ℕ) → v < length flat.variables → f v ≡ g v) → source_words flat f ≡ source_words flat g
sources-all flat f g at = sources-agreeing (λ v. not (is_defined flat.definitions v)) f g (length flat.variables) at 0 (length flat.variables) (omega arith)

-- runs taken back over a step
pub lift-found : (flat : Flat) (at : ℕ) (ms ns : Family) (found : FoundRuns) (runs : Runs) → IsStraight flat → (d : Definition) → slice_get flat.definitions at ≡ Some d
    → AreFoundRuns flat at ns found → AreBack ms d.variable found.runs runs → ComesBy (run_words runs) (run_words runs d.variable) d.by
    → AreFoundRuns flat (suc at) ms (record { runs = runs; integers = found.integers })
lift-found flat at ms ns found runs straight d e is back defined = record {
  runs = back.runs;
  obey = obey-join flat.definitions at d (run_words runs) e
      (obey-agree (length flat.variables) flat.definitions at d straight.order e (run_words found.runs) (run_words runs) (λ v ne. sym (back.others v ne)) is.obey) defined;
  rows = subst (MeetsRows (length flat.integers) flat.rows found.integers) (sym (back.totals (width flat))) is.rows;
  within = subst (λ ws. pos (letters ws) ≤ℤ reach flat) (sources-agree flat at d e (run_words found.runs) (run_words runs) (λ v ne. sym (back.others v ne))) is.within;
}

-- runs of a leaf at the places of their machines
pub spread-runs : (ms : Family) (list : List (Run ℕ)) (rs : Runs) → IsSpread ms list rs → AllZip IsRunOf (machines_of ms) list → AreRuns ms rs
spread-runs [] [] [] s z = tt
spread-runs [] [] (r ∷ rs) s z = absurd s
spread-runs [] (x ∷ list) rs s z = absurd z
spread-runs (None ∷ ms) list [] s z = absurd s
spread-runs (None ∷ ms) list (None ∷ rs) s z = spread-runs ms list rs s z
spread-runs (None ∷ ms) list (Some r ∷ rs) s z = absurd s
spread-runs (Some m ∷ ms) [] rs s z = absurd z
spread-runs (Some m ∷ ms) (x ∷ list) [] s z = absurd s
spread-runs (Some m ∷ ms) (x ∷ list) (None ∷ rs) s z = absurd s
spread-runs (Some m ∷ ms) (x ∷ list) (Some r ∷ rs) s z = (subst (IsRunOf m) (sym s.0) z.0, spread-runs ms list rs s.1 z.1)

pub spread-totals : (n : ℕ) (ms : Family) (list : List (Run ℕ)) (rs : Runs) → IsSpread ms list rs → run_totals n rs ≡ runs_total n list
spread-totals n [] [] [] s = refl
spread-totals n [] [] (r ∷ rs) s = absurd s
spread-totals n [] (x ∷ list) rs s = absurd s
spread-totals n (None ∷ ms) list [] s = absurd s
spread-totals n (None ∷ ms) list (None ∷ rs) s = spread-totals n ms list rs s
spread-totals n (None ∷ ms) list (Some r ∷ rs) s = absurd s
spread-totals n (Some m ∷ ms) [] rs s = absurd s
spread-totals n (Some m ∷ ms) (x ∷ list) [] s = absurd s
spread-totals n (Some m ∷ ms) (x ∷ list) (None ∷ rs) s = absurd s
spread-totals n (Some m ∷ ms) (x ∷ list) (Some r ∷ rs) s =
    let here = s.0 in let rest = spread-totals n ms list rs s.1 in
    ap (λ (t : Run ℕ). add_costs (run_total t) (run_totals n rs)) here ∙ ap (add_costs (run_total x)) rest

pub spread-words : (k : ℕ) (ms : Family) (list : List (Run ℕ)) (rs : Runs) (f : Words) → ((v : ℕ) → f (k + v) ≡ run_words rs v) → IsSpread ms list rs
    → map f (places_from k ms) ≡ words_of list
spread-words k [] [] rs f same s = refl
spread-words k [] (x ∷ list) rs f same s = absurd s
spread-words k (None ∷ ms) list [] f same s = absurd s
spread-words k (None ∷ ms) list (None ∷ rs) f same s = spread-words (suc k) ms list rs f (λ v. ap f (omega arith) ∙ same (suc v)) s
spread-words k (None ∷ ms) list (Some r ∷ rs) f same s = absurd s
spread-words k (Some m ∷ ms) [] rs f same s = absurd s
spread-words k (Some m ∷ ms) (x ∷ list) [] f same s = absurd s
spread-words k (Some m ∷ ms) (x ∷ list) (None ∷ rs) f same s = absurd s
spread-words k (Some m ∷ ms) (x ∷ list) (Some r ∷ rs) f same s =
    let here : f k ≡ x.word = ap f (omega arith) ∙ same 0 ∙ ap (λ (t : Run ℕ). t.word) s.0 in
    let rest = spread-words (suc k) ms list rs f (λ v. ap f (omega arith) ∙ same (suc v)) s.1 in
    cc

-- the letters of words are the characters of their runs
pub letters-characters : (runs : List (Run ℕ)) → letters (words_of runs) ≡ characters runs
letters-characters [] = refl
letters-characters (r ∷ rs) = ap (λ n. length r.word + n) (letters-characters rs)

-- a hit of the machines that were cut down, taken back and put at the places of the variables
pub hit-found : (flat : Flat) (region : Region) (s : LeafState) (ts : List (Built ℕ)) (hit : Hit) (others : List (Run ℕ)) (found : FoundRuns) → IsState flat 0 s
    → AllZip IsTrim (machines_of s.machines) ts → IsHitOf flat region (map machine_of ts) hit → AreLifted ts hit.runs others
    → found.integers ≡ hit.integers → IsSpread s.machines others found.runs → AreFoundRuns flat 0 s.machines found
hit-found flat region s ts hit others found state z is lift ints_same spread =
    let same-totals : run_totals (width flat) found.runs ≡ runs_total (width flat) hit.runs =
    spread-totals (width flat) s.machines others found.runs spread ∙ lifted-totals (width flat) ts hit.runs others lift in
    let words : source_words flat (run_words found.runs) ≡ words_of hit.runs =
    ap (map (run_words found.runs)) (sources-places flat s state)
    ∙ spread-words 0 s.machines others found.runs (run_words found.runs) (λ v. ap (run_words found.runs) (omega arith)) spread ∙ lifted-words ts hit.runs others lift in
    let same : letters (source_words flat (run_words found.runs)) ≡ characters hit.runs = ap letters words ∙ letters-characters hit.runs in
    record {
      runs = spread-runs s.machines others found.runs spread (lifted-runs (machines_of s.machines) ts hit.runs others z is.is_hit.each lift);
      obey = tt;
      rows = subst (λ z. MeetsRows (length flat.integers) flat.rows z (run_totals (width flat) found.runs)) (sym ints_same)
          (subst (MeetsRows (length flat.integers) flat.rows hit.integers) (sym same-totals) is.is_hit.meets);
      within = subst (λ n. pos n ≤ℤ reach flat) (sym same) is.within;
    }
