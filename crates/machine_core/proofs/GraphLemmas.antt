-- Two graphs with the same numbers and lists are one.
use Rattle.std.proofs.Common.{◌≡◌, ℕ, ◌<◌, List, ap, sym, ◌∙◌, subst}
use Rattle.std.proofs.Props.{props}
use Rattle.machine_core.specs.declared.edge.Edge.{Edge}
use Rattle.machine_core.specs.declared.end.End.{End}
use Rattle.machine_core.specs.declared.graph.Graph.{Graph}
use Rattle.machine_core.specs.Edges.{AreEdgesAndEnds}

abbrev graph : (s r : ℕ) (es : List Edge) (fs : List End) → 0 < s → AreEdgesAndEnds s r es fs → Graph
graph s r es fs p q = record { states = s; registers = r; edges = es; ends = fs; started = p; formed = q }

formed-prop : (s r : ℕ) (es : List Edge) (fs : List End) → IsProp (AreEdgesAndEnds s r es fs)
formed-prop s r es fs = hlevel props

started-prop : (s : ℕ) → IsProp (0 < s)
started-prop s = hlevel props

same-lists : (s r : ℕ) (es : List Edge) (fs : List End) (p p' : 0 < s) (q q' : AreEdgesAndEnds s r es fs) → graph s r es fs p' q' ≡ graph s r es fs p q
same-lists s r es fs p p' q q' = ap (λ x. graph s r es fs x q') (started-prop s p' p) ∙ ap (graph s r es fs p) (formed-prop s r es fs q' q)

same-edges : (s r : ℕ) (es es' : List Edge) (fs : List End) (p p' : 0 < s) (q : AreEdgesAndEnds s r es fs) → es ≡ es' → (q' : AreEdgesAndEnds s r es' fs) → graph s r es' fs p' q' ≡ graph s r es fs p q
same-edges s r es es' fs p p' q e = subst (λ l. (q' : AreEdgesAndEnds s r l fs) → graph s r l fs p' q' ≡ graph s r es fs p q) e (same-lists s r es fs p p' q)

pub graphs_equal : (m : Graph) (es' : List Edge) (fs' : List End) (p' : 0 < m.states) (q' : AreEdgesAndEnds m.states m.registers es' fs') → es' ≡ m.edges → fs' ≡ m.ends
    → graph m.states m.registers es' fs' p' q' ≡ m
graphs_equal m es' fs' p' q' e f =
    subst (λ l. (q' : AreEdgesAndEnds m.states m.registers es' l) → graph m.states m.registers es' l p' q' ≡ graph m.states m.registers m.edges m.ends m.started m.formed) (sym f)
    (same-edges m.states m.registers m.edges es' m.ends m.started p' m.formed (sym e)) q'
