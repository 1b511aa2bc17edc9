-- Shortest runs, one of each machine.
use Rattle.std.proofs.Common.{◌≡◌, ℕ, zero, suc, ◌+◌, ◌<◌, ◌≤◌, List, [], ◌∷◌, ◌++◌, length, map, take, All, slice_get, get_or, Some, Bool, true, false, nat_eq, refl, ap, sym, ◌∙◌, subst, arith}
use Rattle.std.proofs.lemmas.Bool.Decides.{nat_tests}
use Rattle.std.specs.List.{AllZip}
use Rattle.std.proofs.lemmas.List.{take_more}
use Rattle.std.proofs.lemmas.List.Elements.{All-nil, All-cons}
use Rattle.sv_list.specs.Lists.{AllZip-push}
use Rattle.sv_linear.specs.declared.row.Row.{Row}
use Rattle.machine_core.specs.declared.graph.Graph.{Graph}
use Rattle.machine_core.specs.declared.run.Run.{Run}
use Rattle.machine_core.specs.Edges.{EndsAt, StepsBy}
use Rattle.machine_core.specs.Graphs.{Accepts, IsRunOf}
use Rattle.machine_core.specs.Runs.{run_total}
use Rattle.machine_core.specs.RunLaws.{run_accepted}
use Rattle.trim_search.specs.Shortest.{IsShortestRun}
use Rattle.search_hits.specs.Hits.{AreRunsOf, characters}
use Rattle.search_hits.specs.HitLaws.{characters-push}
use Rattle.leaf_solve.specs.Questions.{total_states}
use Rattle.leaf_solve.specs.Longs.{HasRun, IsShortestWord, letters}
use Rattle.leaf_solve.specs.Answers.{HasNoHit}

module _ {A B : Type 0} (R : A → B → Type 0) where
  -- one pair more
  pub zip-more : (xs : List A) (ys : List B) (i : ℕ) (x : A) (y : B) → i < length xs → x ≡ get_or xs i x → AllZip R (take i xs) ys → R x y → AllZip R (take (i + 1) xs) (ys ++ y ∷ [])
  zip-more xs ys i x y lt e h r =
      subst (λ (l : List A). AllZip R l (ys ++ y ∷ [])) (sym (take_more xs i x lt ∙ ap (λ (z : A). take i xs ++ z ∷ []) (sym e))) (AllZip-push R (take i xs) ys x y h r)

  zip-get : (xs : List A) (ys : List B) (i : ℕ) (x : A) → AllZip R xs ys → slice_get xs i ≡ Some x → (y : B) × R x y
  zip-get [] ys i x h e = cc
  zip-get (z ∷ xs) [] i x h e = absurd h
  zip-get (z ∷ xs) (w ∷ ys) zero x h e = let same : z ≡ x = cc in (w, subst (λ (t : A). R t w) same h.0)
  zip-get (z ∷ xs) (w ∷ ys) (suc i) x h e = zip-get xs ys i x h.1 e

run-word : (m : Graph) (r : Run ℕ) → IsRunOf m r → Accepts m r.word (run_total r)
run-word m r is = run_accepted (StepsBy m.edges) (EndsAt m.ends) 0 r is

pub no-run : (m : Graph) → ((word cost : List ℕ) → Accepts m word cost → ⊥) → HasRun m → ⊥
no-run m none r = none r.0.word (run_total r.0) (run-word m r.0 r.1)

-- a machine without a run has part in no hit
pub empty-none : (machines : List Graph) (registers integers : ℕ) (rows : List Row) (i : ℕ) (m : Graph) → slice_get machines i ≡ Some m → (HasRun m → ⊥) → HasNoHit machines registers integers rows
empty-none machines registers integers rows i m e none = λ runs numbers hit. none (zip-get IsRunOf machines runs i m hit.each e)

pub runs-each : (ms : List Graph) (rs : List (Run ℕ)) → AllZip IsShortestRun ms rs → AreRunsOf ms rs
runs-each [] [] h = tt
runs-each [] (r ∷ rs) h = absurd h
runs-each (m ∷ ms) [] h = absurd h
runs-each (m ∷ ms) (r ∷ rs) h = (h.0.is_run, runs-each ms rs h.1)

pub inhabited : (ms : List Graph) (rs : List (Run ℕ)) → AllZip IsShortestRun ms rs → All HasRun ms
inhabited [] [] h = All-nil HasRun
inhabited [] (r ∷ rs) h = absurd h
inhabited (m ∷ ms) [] h = absurd h
inhabited (m ∷ ms) (r ∷ rs) h = All-cons HasRun m ms (r, h.0.is_run) (inhabited ms rs h.1)

pub shortest-words : (ms : List Graph) (rs : List (Run ℕ)) → AllZip IsShortestRun ms rs → AllZip IsShortestWord ms (map (λ (r : Run ℕ). r.word) rs)
shortest-words [] [] h = tt
shortest-words [] (r ∷ rs) h = absurd h
shortest-words (m ∷ ms) [] h = absurd h
shortest-words (m ∷ ms) (r ∷ rs) h = (record { cost = run_total r; accepted = run-word m r h.0.is_run; least = h.0.least }, shortest-words ms rs h.1)

pub letters-are : (rs : List (Run ℕ)) → letters (map (λ (r : Run ℕ). r.word) rs) ≡ characters rs
letters-are [] = refl
letters-are (r ∷ rs) = ap (λ n. length r.word + n) (letters-are rs)

-- other runs have no fewer characters
pub least-characters : (ms : List Graph) (rs os : List (Run ℕ)) → AllZip IsShortestRun ms rs → AreRunsOf ms os → characters rs ≤ characters os
least-characters [] [] os h g = omega arith
least-characters [] (r ∷ rs) os h g = absurd h
least-characters (m ∷ ms) [] os h g = absurd h
least-characters (m ∷ ms) (r ∷ rs) [] h g = absurd g
least-characters (m ∷ ms) (r ∷ rs) (o ∷ os) h g =
    let here = h.0.least o.word (run_total o) (run-word m o g.0) in
    let rest = least-characters ms rs os h.1 g.1 in
    omega arith

-- each machine that has a word has one with fewer characters than states
abbrev pub AreWordsShort : Type 0
AreWordsShort = (m : Graph) (word cost : List ℕ) → Accepts m word cost → (short less : List ℕ) × Accepts m short less × (length short < m.states)

pub few-characters : AreWordsShort → (ms : List Graph) (rs : List (Run ℕ)) → AllZip IsShortestRun ms rs → characters rs ≤ total_states ms
few-characters law [] [] h = omega arith
few-characters law [] (r ∷ rs) h = absurd h
few-characters law (m ∷ ms) [] h = absurd h
few-characters law (m ∷ ms) (r ∷ rs) h =
    let s = law m r.word (run_total r) (run-word m r h.0.is_run) in
    let here = h.0.least s.0 s.1 s.2 in
    let less = s.3 in
    let rest = few-characters law ms rs h.1 in
    omega arith

characters-within : (rs : List (Run ℕ)) (i : ℕ) → characters (take i rs) ≤ characters rs
characters-within [] zero = omega arith
characters-within [] (suc i) = omega arith
characters-within (r ∷ rs) zero = omega arith
characters-within (r ∷ rs) (suc i) = let e = characters-within rs i in omega arith

-- the first runs, and one more
pub characters-more : (rs : List (Run ℕ)) (i : ℕ) (r : Run ℕ) → i < length rs → r ≡ get_or rs i r
    → (characters (take (i + 1) rs) ≡ characters (take i rs) + length r.word) × (characters (take i rs) + length r.word ≤ characters rs)
characters-more rs i r lt e =
    let one = ap characters (take_more rs i r lt ∙ ap (λ (z : Run ℕ). take i rs ++ z ∷ []) (sym e)) ∙ characters-push (take i rs) r in
    let all = characters-within rs (i + 1) in
    (one, omega arith)

-- what a test for an empty list tells
pub is-none : {A : Type 0} (xs : List A) (t : Bool) → t ≡ nat_eq (length xs) 0 → t ≡ true → xs ≡ []
is-none [] t e h = refl
is-none (x ∷ xs) t e h = absurd (let z : nat_eq (suc (length xs)) 0 ≡ false = grind (arith, nat_tests) in cc)

pub is-some : {A : Type 0} (xs : List A) (t : Bool) → t ≡ nat_eq (length xs) 0 → t ≡ false → xs ≡ [] → ⊥
is-some [] t e h none = let z : nat_eq 0 0 ≡ true = grind (arith, nat_tests) in cc
is-some (x ∷ xs) t e h none = cc
