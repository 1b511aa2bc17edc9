-- Answers of what is built within a limit.
use Rattle.std.proofs.Common.{◌≡◌, ℕ, ◌<◌, ◌≤◌, ◌^◌, ◌↔◌, Result, Ok, Err, IfOk, OnOk, refl, sym, subst, arith}
use Rattle.std.specs.Result.{IsErr}
use Rattle.std.specs.declared.alloc.AllocError.{AllocError}
use Rattle.machine_core.specs.declared.graph.Graph.{Graph}
use Rattle.sv_terms.specs.Language.{Word, In}
use Rattle.sv_terms.specs.declared.regex.Regex.{Regex}
use Rattle.trim_search.specs.declared.build_fault.BuildFault.{BuildFault}
use Rattle.trim_search.specs.declared.build_fault.BuildFault.TheVariants as fault
use Rattle.sv_terms.specs.Bounds.{size}
use Rattle.regex_machine.specs.Built.{Builds, FitsStates}
use Rattle.regex_machine.specs.Joined.{HasWords}
use Rattle.regex_machine.proofs.WordLemmas.{reads-same}

-- other words that are the same, and a greater bound
pub builds-as : (P Q : Word → Type 0) (s t limit : ℕ) → ((w : Word) → P w ↔ Q w) → s ≤ t → (r : Result Graph BuildFault) → Builds P s limit r → Builds Q t limit r
builds-as P Q s t limit same le (Ok m) h = (reads-same P Q m same h.0, (let few = h.1 in omega arith), h.2)
builds-as P Q s t limit same le (Err (fault.States n)) h = ((let low = h.0 in omega arith), h.1)
builds-as P Q s t limit same le (Err (fault.Memory e)) h = tt

-- where a part has too many states
abbrev pub IsBeyond : ℕ → ℕ → Result Graph BuildFault → Type 0
IsBeyond size limit r = (n : ℕ) → r ≡ Err (fault.States n) → (limit < size) × (limit < 2 ^ 32)

pub built-beyond : (P : Word → Type 0) (size limit : ℕ) (r : Result Graph BuildFault) → Builds P size limit r → IsBeyond size limit r
built-beyond P size limit r h n e = subst (Builds P size limit) e h

pub builds-err : (P : Word → Type 0) (size limit : ℕ) (r : Result Graph BuildFault) → IsErr r → IsBeyond size limit r → Builds P size limit r
builds-err P size limit (Ok m) is h = cc
builds-err P size limit (Err (fault.States n)) is h = h n refl
builds-err P size limit (Err (fault.Memory e)) is h = tt

pub onok-as : {A E : Type 0} (r : Result A E) (P Q : Type 0) → (P → Q) → OnOk r P → OnOk r Q
onok-as (Ok x) P Q f h = f h
onok-as (Err e) P Q f h = tt

-- what was made, where it fits
pub fits-builds : (P : Word → Type 0) (size limit : ℕ) (made : Result Graph AllocError) (r : Result Graph BuildFault)
    → IfOk made (HasWords P) → IfOk made (λ m. m.states ≤ size) → FitsStates limit made r → Builds P size limit r
fits-builds P size limit (Ok m) (Ok n) reads few h = subst (λ (x : Graph). Builds P size limit (Ok x)) (sym h.0) (reads, few, h.1)
fits-builds P size limit (Ok m) (Err (fault.States n)) reads few h = ((let low = h.0 in let most : m.states ≤ size = few in omega arith), h.1)
fits-builds P size limit (Ok m) (Err (fault.Memory e)) reads few h = absurd h
fits-builds P size limit (Err e) (Ok n) reads few h = absurd h
fits-builds P size limit (Err e) (Err (fault.States n)) reads few h = absurd h
fits-builds P size limit (Err e) (Err (fault.Memory f)) reads few h = tt

-- a fault within a part's size is one within a greater size, whatever the words
pub builds-more : (P Q : Word → Type 0) (s more limit : ℕ) (f : BuildFault) → s ≤ more → Builds P s limit (Err f) → Builds Q more limit (Err f)
builds-more P Q s more limit (fault.States n) le h = (let low = h.0 in omega arith, h.1)
builds-more P Q s more limit (fault.Memory e) le h = tt

-- the words and the size of an expression of a known form
pub builds-form : (r q : Regex) (P : Word → Type 0) (s limit : ℕ) (x : Result Graph BuildFault) → r ≡ q → ((w : Word) → In q w ≡ P w) → s ≤ size q
    → Builds P s limit x → Builds (In r) (size r) limit x
builds-form r q P s limit x is same le h =
    subst (λ y. Builds (In y) (size y) limit x) (sym is)
    (builds-as P (In q) s (size q) limit (λ w. (subst (λ (T : Type 0). T) (sym (same w)), subst (λ (T : Type 0). T) (same w))) le x h)
