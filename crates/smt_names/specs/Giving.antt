-- What holds of an answer that is no fault, step by step.
use Rattle.std.proofs.Common.{◌≡◌, refl, subst, Bool, true, false, IsTrue, Option, Some, None, Result, Ok, Err, if◌then◌else◌}
use Rattle.smt_names.specs.declared.check_fault.CheckFault.{CheckFault}
use Rattle.smt_names.specs.Faults.{and_then, ◌>>◌, need, refuse, or_fault}

-- P of the answer, unless it is a fault
abbrev pub Gives : {A : Type 0} → (A → Type 0) → Result A CheckFault → Type 0
Gives P (Ok x) = P x
Gives P (Err f) = Unit {0}

-- P of what is there
abbrev pub Maybe : {A : Type 0} → (A → Type 0) → Option A → Type 0
Maybe P (Some x) = P x
Maybe P None = Unit {0}

module _ {A : Type 0} (P : A → Type 0) where
  pub gave : (r : Result A CheckFault) (x : A) → Gives P r → r ≡ Ok x → P x
  gave r x h e = let k : Gives P (Ok x) = subst (Gives P) e h in k

  pub need-gives : (b : Bool) (f : CheckFault) (r : Result A CheckFault) → (IsTrue b → Gives P r) → Gives P (need b f >> r)
  need-gives true f r h = h refl
  need-gives false f r h = tt

  pub refuse-gives : (b : Bool) (f : CheckFault) (r : Result A CheckFault) → (b ≡ false → Gives P r) → Gives P (refuse b f >> r)
  refuse-gives true f r h = tt
  refuse-gives false f r h = h refl

  pub after-gives : (m : Result Unit CheckFault) (r : Result A CheckFault) → Gives P r → Gives P (m >> r)
  after-gives (Ok x) r h = h
  after-gives (Err f) r h = tt

  pub or-gives : (f : CheckFault) (o : Option A) → Maybe P o → Gives P (or_fault f o)
  or-gives f (Some x) h = h
  or-gives f None h = tt

  pub some-maybe : (o : Option A) → ((x : A) → o ≡ Some x → P x) → Maybe P o
  some-maybe (Some x) h = h x refl
  some-maybe None h = tt

  pub if-maybe : (b : Bool) (x : A) → P x → Maybe P (if b then Some x else None)
  if-maybe true x h = h
  if-maybe false x h = tt

module _ {A B : Type 0} (P : A → Type 0) (Q : B → Type 0) where
  pub then-gives : (next : A → Result B CheckFault) (r : Result A CheckFault) → Gives P r → ((x : A) → P x → Gives Q (next x)) → Gives Q (and_then next r)
  then-gives next (Ok x) h k = k x h
  then-gives next (Err f) h k = tt
