-- What a walk over terms has read: places of what they mean.
use Rattle.std.specs.Prelude.{◌≡◌, ℕ, Bool, not, ◌||◌, List, [], ◌∷◌, ◌++◌, map, slice_get, Option, Some, None, Result, Ok, Err}
use Rattle.std.specs.List.{list_all}
use Rattle.sv_terms.specs.declared.entry.Body.{Body}
use Rattle.smt_names.specs.declared.check_fault.CheckFault.{CheckFault}
use Rattle.smt_names.specs.declared.check_fault.CheckFault.TheVariants as fault
use Rattle.term_walk.specs.declared.walk.Walk.{Walk}
use Rattle.term_weight.specs.Bodies.{body_sort}
use Rattle.smt_names.specs.Faults.{◌>>◌, need}
use Rattle.term_walk.specs.Meant.{Scope, Head, any_size, head_sorts, head_applied, bind}
use Rattle.smt_names.specs.Signature.{Name}
use Rattle.term_weight.specs.Sizes.{fits}

-- a place where this is
abbrev pub Here : List Body → ℕ → Body → Type 0
Here draft p b = slice_get draft p ≡ Some b

-- places where these are
abbrev pub Each : List Body → List ℕ → List Body → Type 0
Each draft ps bs = map (slice_get draft) ps ≡ map Some bs

-- names with places stand for names with what is there
abbrev pub Bound : List Body → List (Name × ℕ) → Scope → Type 0
Bound draft [] [] = Unit {0}
Bound draft [] (q ∷ qs) = ⊥
Bound draft (p ∷ ps) [] = ⊥
Bound draft (p ∷ ps) (q ∷ qs) = (p.0 ≡ q.0) × (slice_get draft p.1 ≡ Some q.1) × Bound draft ps qs

-- the answer where values of `let` are looked at: whether one was past the limits
abbrev pub sized : {A : Type 0} → Bool → A → Result A CheckFault
sized past x = need (not past) fault.Size >> Ok x

-- what is meant, and which values of `let` fit, is found by a test of such values
abbrev pub Meaning : Type 0 → Type 0
Meaning A = (Body → Bool) → Result A CheckFault

-- a head at arguments of a number that it takes
abbrev pub applied_head : Head → List Body → Result Body CheckFault
applied_head h bs = need (head_sorts h (map body_sort bs)) fault.Sort >> Ok (head_applied h bs)

-- what a name is bound to, if the value isn't too large
abbrev pub bound_to : (Body → Bool) → Option Name → Body → Result Scope CheckFault
bound_to test n b = need (test b) fault.Size >> Ok (bind n b)

-- a name with a place
abbrev pub bound_place : Option Name → ℕ → List (Name × ℕ)
bound_place (Some n) p = (n, p) ∷ []
bound_place None p = []

-- what isn't too large
abbrev pub fitting : List Body → Result (List Body) CheckFault
fitting bs = need (list_all fits bs) fault.Size >> Ok bs

-- a walk that has read what is meant: the answer stands for it, no part is lost, nothing is bound, and a value of `let` past the limits is noted
pub record Read {X Y : Type 0} (stands : List Body → X → Y → Type 0) (meaning : Meaning Y) (old new : Walk) (x : X) : Type 0 where
  pub what : Y
  pub past : Bool
  pub added : List Body
  pub means : meaning any_size ≡ Ok what
  pub limits : meaning fits ≡ sized past what
  pub there : stands new.draft x what
  pub more : new.draft ≡ old.draft ++ added
  pub noted : new.is_past ≡ (old.is_past || past)
  pub back : new.scope ≡ old.scope

-- the answer of a walk: what is meant was read, or this is its first fault
abbrev pub ReadsMeaning : {X Y : Type 0} → (List Body → X → Y → Type 0) → Meaning Y → Walk → Walk → Result X CheckFault → Type 0
ReadsMeaning stands meaning old new (Ok x) = Read stands meaning old new x
ReadsMeaning stands meaning old new (Err (fault.Memory e)) = Unit {0}
ReadsMeaning stands meaning old new (Err f) = meaning any_size ≡ Err f
