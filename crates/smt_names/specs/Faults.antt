-- Answers that may be faults.
use Rattle.std.specs.Prelude.{◌≡◌, Bool, true, false, Option, Some, None, Result, Ok, Err}
use Rattle.smt_names.specs.declared.check_fault.CheckFault.{CheckFault}
use Rattle.smt_names.specs.declared.check_fault.CheckFault.TheVariants as fault

infixr 4 ◌>>◌
-- the answer is this one, or memory was wanting
abbrev pub Answers : {A : Type 0} → Result A CheckFault → Result A CheckFault → Type 0
Answers should (Ok x) = should ≡ Ok x
Answers should (Err (fault.Memory e)) = Unit {0}
Answers should (Err f) = should ≡ Err f

-- what comes after an answer, if it is no fault
abbrev pub and_then : {A B : Type 0} → (A → Result B CheckFault) → Result A CheckFault → Result B CheckFault
and_then next (Ok x) = next x
and_then next (Err f) = Err f

-- first what is looked for before, then this
abbrev pub ◌>>◌ : {A : Type 0} → Result Unit CheckFault → Result A CheckFault → Result A CheckFault
Ok x >> answer = answer
Err f >> answer = Err f

-- this fault, unless the test holds
abbrev pub need : Bool → CheckFault → Result Unit CheckFault
need true f = Ok tt
need false f = Err f

-- this fault, where the test holds
abbrev pub refuse : Bool → CheckFault → Result Unit CheckFault
refuse true f = Err f
refuse false f = Ok tt

-- what is there, or this fault
abbrev pub or_fault : {A : Type 0} → CheckFault → Option A → Result A CheckFault
or_fault f (Some x) = Ok x
or_fault f None = Err f

-- an answer of which something is made
abbrev pub made_of : {A B : Type 0} → (A → B) → Result A CheckFault → Result B CheckFault
made_of make (Ok x) = Ok (make x)
made_of make (Err f) = Err f
