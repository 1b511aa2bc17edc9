-- Layers that compare equal are the same.
use Rattle.std.specs.Prelude.{◌≡◌, ℕ, List}
use Rattle.std.proofs.Common.{ap, ◌∙◌}
use Rattle.std.specs.Ordering.{nat_cmp, ordering_then}
use Rattle.std.specs.Cmp.Lexicographic.{slice_cmp}
use Rattle.std.specs.declared.cmp.Ordering.TheVariants.{Equal}
use Rattle.machine_core.specs.Orders.{nat_cmp-same, slice_cmp-same, ordering_then-equal}
use Rattle.box_layers.specs.declared.layer.Layer.{Layer}

pub layer-same : (a b : Layer) → ordering_then (nat_cmp a.machine b.machine) (ordering_then (nat_cmp a.state b.state) (slice_cmp nat_cmp a.spent b.spent)) ≡ Equal → a ≡ b
layer-same a b e =
    let one = ordering_then-equal (nat_cmp a.machine b.machine) (ordering_then (nat_cmp a.state b.state) (slice_cmp nat_cmp a.spent b.spent)) e in
    let two = ordering_then-equal (nat_cmp a.state b.state) (slice_cmp nat_cmp a.spent b.spent) one.1 in
    ap (λ (n : ℕ). record { machine = n; state = a.state; spent = a.spent }) (nat_cmp-same a.machine b.machine one.0)
    ∙ ap (λ (n : ℕ). record { machine = b.machine; state = n; spent = a.spent }) (nat_cmp-same a.state b.state two.0)
    ∙ ap (λ (l : List ℕ). record { machine = b.machine; state = b.state; spent = l }) (slice_cmp-same nat_cmp nat_cmp-same a.spent b.spent two.1)
