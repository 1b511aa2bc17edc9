-- What a definition carried backward leaves.
use Rattle.std.specs.Prelude.{◌≡◌, ℕ, ◌<◌, ◌≤◌, ◌+◌, ◌*◌, ◌^◌, ◌↔◌, List, map, Contains}
use Rattle.machine_core.specs.declared.graph.Graph.{Graph}
use Rattle.machine_core.specs.Costs.{add_costs}
use Rattle.machine_core.specs.Graphs.{graph_top}
use Rattle.sv_terms.specs.Language.{Word}
use Rattle.sv_terms.specs.declared.transducer.Transducer.{Transducer}
use Rattle.pre_image.specs.PreImages.{pre_top}
use Rattle.backward.specs.Families.{Family, Words, HasMachine, IsWithout, without, put, Conf}
use Rattle.backward.specs.Pieces.{RunsInTurn, AreCuts, occurrences}
use Rattle.backward.specs.Meetings.{IsGrown, IsCostWithin, IsTrimmed}
use Rattle.sv_terms.specs.Transduction.{IsFormed}

-- `ns` is the family in which the machine `target` of `x` was met with the machines of these pieces, from these states on
pub record IsCarried (width : ℕ) (ms : Family) (x : ℕ) (target : Graph) (starts pieces : List ℕ) (ns : Family) : Type 0 where
  pub conf : (words : Words) (totals : List ℕ) → Conf width ns words totals ↔ ((a b : List ℕ)
      × RunsInTurn target starts (map words pieces) a × Conf width (without ms x) words b × (add_costs a b ≡ totals))
  pub shape : IsWithout ms x ns
  pub grown : (v : ℕ) (m n : Graph) → HasMachine ms v m → HasMachine ns v n → IsGrown target (occurrences v pieces) m n

-- a machine can be carried into these pieces at these cuts: it and they have machines, it is none of them, and the joined costs fit
pub record CanCut (ms : Family) (x : ℕ) (target : Graph) (pieces cuts : List ℕ) : Type 0 where
  pub machine : HasMachine ms x target
  pub others : (p : ℕ) → Contains pieces p → (p ≡ x → ⊥) × ((m : Graph) × HasMachine ms p m)
  pub borders : AreCuts target pieces cuts
  pub fits : (v : ℕ) (m : Graph) → HasMachine ms v m → graph_top m + occurrences v pieces * graph_top target < 2 ^ 64

-- the configurations in which the word of v is related to some word that may stand for x
abbrev pub ConfThrough : (Word → Word → Type 0) → ℕ → Family → ℕ → ℕ → Words → List ℕ → Type 0
ConfThrough Gives width ms x v words totals = (w : Word) × Gives (words v) w × Conf width ms (put words x w) totals

-- `ns` is the family in which the pre-image of the machine of x, under what relates the word of v to that of x, was met with the machine of v;
-- on n characters it writes at most `slope * n + base`
pub record IsCarriedThrough (Gives : Word → Word → Type 0) (states slope base : ℕ) (width : ℕ) (ms : Family) (x : ℕ) (target : Graph) (v : ℕ) (ns : Family) : Type 0 where
  pub conf : (words : Words) (totals : List ℕ) → Conf width ns words totals ↔ ConfThrough Gives width ms x v words totals
  pub shape : IsWithout ms x ns
  pub same : (u : ℕ) (m n : Graph) → (u ≡ v → ⊥) → HasMachine ms u m → HasMachine ns u n → n ≡ m
  pub registers : (m n : Graph) → HasMachine ms v m → HasMachine ns v n → n.registers ≡ m.registers
  pub bounded : (m n : Graph) → HasMachine ms v m → HasMachine ns v n → n.states ≤ m.states * (states * target.states)
  pub within : (m n : Graph) → HasMachine ms v m → HasMachine ns v n → (register a b c d : ℕ)
      → IsCostWithin m register a b → IsCostWithin target register c d → IsCostWithin n register (a + c * slope) (b + (c * base + d))
  pub trimmed : (n : Graph) → HasMachine ns v n → IsTrimmed n

-- a machine can be carried through a transducer to the variable v, which has the machine k: it is another one, the transducer is well formed,
-- and the costs of the pre-image and the joined costs fit
pub record CanPass (ms : Family) (x : ℕ) (target : Graph) (v : ℕ) (k : Graph) (t : Transducer) : Type 0 where
  pub machine : HasMachine ms x target
  pub other : v ≡ x → ⊥
  pub reader : HasMachine ms v k
  pub formed : IsFormed t
  pub fits : graph_top k + pre_top t target < 2 ^ 64
