-- Answers of a whole by those of its parts.
use Rattle.std.proofs.Common.{◌≡◌, ◌∙◌, Result, Ok, Err}
use Rattle.smt_names.specs.declared.check_fault.CheckFault.{CheckFault}
use Rattle.smt_names.specs.declared.check_fault.CheckFault.TheVariants as fault
use Rattle.smt_names.specs.Faults.{Answers}

-- a fault of a part is the fault of the whole
pub fault-passes : {A B : Type 0} (m : Result A CheckFault) (w : Result B CheckFault) (f : CheckFault) → (m ≡ Err f → w ≡ Err f) → Answers m (Err f) → Answers w (Err f)
fault-passes m w fault.Unknown p a = p a
fault-passes m w fault.Sort p a = p a
fault-passes m w fault.Arity p a = p a
fault-passes m w fault.Declared p a = p a
fault-passes m w fault.Number p a = p a
fault-passes m w fault.Reserved p a = p a
fault-passes m w fault.Shape p a = p a
fault-passes m w fault.Transducer p a = p a
fault-passes m w fault.Index p a = p a
fault-passes m w fault.Size p a = p a
fault-passes m w (fault.Memory e) p a = tt

-- an answer to one question answers an equal one
pub answers-same : {A : Type 0} (m w : Result A CheckFault) (r : Result A CheckFault) → w ≡ m → Answers m r → Answers w r
answers-same m w (Ok x) e a = e ∙ a
answers-same m w (Err f) e a = fault-passes m w f (λ k. e ∙ k) a

-- an exact answer answers
pub exact-answers : {A : Type 0} (m r : Result A CheckFault) → m ≡ r → Answers m r
exact-answers m (Ok x) e = e
exact-answers m (Err fault.Unknown) e = e
exact-answers m (Err fault.Sort) e = e
exact-answers m (Err fault.Arity) e = e
exact-answers m (Err fault.Declared) e = e
exact-answers m (Err fault.Number) e = e
exact-answers m (Err fault.Reserved) e = e
exact-answers m (Err fault.Shape) e = e
exact-answers m (Err fault.Transducer) e = e
exact-answers m (Err fault.Index) e = e
exact-answers m (Err fault.Size) e = e
exact-answers m (Err (fault.Memory a)) e = tt
