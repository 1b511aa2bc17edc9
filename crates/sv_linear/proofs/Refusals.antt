-- Where a sum of two multiples is refused.
use Rattle.std.proofs.Common.{ℕ, ◌<◌, Result, Ok, Err}
use Rattle.sv_linear.specs.Columns.{IsBefore}
use Rattle.sv_linear.specs.Combining.{IsFirstOutside, IsOutsideExactly, IsFirstUnknown}
use Rattle.sv_linear.specs.declared.column.Column.{Column}
use Rattle.sv_linear.specs.declared.column.Column.TheVariants.{Unknown, Constant}
use Rattle.sv_linear.specs.declared.fault.CombineFault.{CombineFault}
use Rattle.sv_linear.specs.declared.fault.CombineFault.TheVariants.{Outside, Memory}
use Rattle.sv_linear.specs.declared.form.Form.{Form}

before_unknown : (fits : Column → Type 0) (u : ℕ) → ((v : ℕ) → v < u → fits (Unknown v)) → (c : Column) → IsBefore c (Unknown u) → fits c
before_unknown fits u h (Unknown v) p = h v p
before_unknown fits u h Constant p = absurd p

-- the refusal of a merge is that of the form
pub merge_refusal : (fits : Column → Type 0) (e : CombineFault) → IsFirstUnknown (λ u. fits (Unknown u)) e → IsOutsideExactly fits (Err e)
merge_refusal fits (Outside (Unknown u)) h = record { outside = h.0; first = before_unknown fits u h.1 }
merge_refusal fits (Outside Constant) h = absurd h
merge_refusal fits (Memory e) h = tt

pub each_column : (fits : Column → Type 0) → ((u : ℕ) → fits (Unknown u)) → fits Constant → (c : Column) → fits c
each_column fits h k (Unknown u) = h u
each_column fits h k Constant = k

before_constant : (fits : Column → Type 0) → ((u : ℕ) → fits (Unknown u)) → (c : Column) → IsBefore c Constant → fits c
before_constant fits h (Unknown u) p = h u
before_constant fits h Constant p = absurd p

pub constant_refusal : (fits : Column → Type 0) → ((u : ℕ) → fits (Unknown u)) → (fits Constant → ⊥) → IsFirstOutside fits Constant
constant_refusal fits h k = record { outside = k; first = before_constant fits h }

-- two facts that say the same are refused alike
pub same_refusals : (fits fits' : Column → Type 0) → ((c : Column) → fits c → fits' c) → ((c : Column) → fits' c → fits c) → (r : Result Form CombineFault) → IsOutsideExactly fits r → IsOutsideExactly fits' r
same_refusals fits fits' forth back (Ok f) h = λ c. forth c (h c)
same_refusals fits fits' forth back (Err (Outside column)) h = record { outside = λ p. h.outside (back column p); first = λ c p. forth c (h.first c p) }
same_refusals fits fits' forth back (Err (Memory e)) h = tt
