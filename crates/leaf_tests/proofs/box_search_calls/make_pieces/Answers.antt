use Rattle.std.proofs.Common.{◌≡◌, ◌∙◌, ℕ, List, [], ◌∷◌, ◌++◌, length, false, ap}
use Rattle.std.proofs.lemmas.List.Elements.{All-nil, All-cons}
use Rattle.machine_core.specs.declared.graph.Graph.{Graph}
use Rattle.search_hits.specs.declared.region.Region.{Region}
use Rattle.search_hits.specs.Regions.{FitsRegion, IsQuestion}
use Rattle.leaf_tests.proofs.box_search_calls.make_pieces.Goals as goal

-- a question of three machines and no row
asked : (a b d : Graph) (none one two machines : List Graph) (region : Region) (total : ℕ) → none ≡ [] → one ≡ none ++ a ∷ [] → two ≡ one ++ b ∷ [] → machines ≡ two ++ d ∷ []
    → a.registers ≡ 1 → b.registers ≡ 1 → d.registers ≡ 1 → region.registers ≡ (total, total) ∷ [] → region.integers ≡ [] → IsQuestion machines 0 [] region
asked a b d none one two machines region total n o t m ra rb rd regs ints' =
    let machines-are : machines ≡ a ∷ b ∷ d ∷ [] = m ∙ ap (λ l. l ++ d ∷ []) (t ∙ ap (λ l. l ++ b ∷ []) (o ∙ ap (λ l. l ++ a ∷ []) n)) in
    let P : Graph → Type 0 = λ (g : Graph). g.registers ≡ 1 in
    record {
      registers = rw (machines-are, regs) (All-cons P a (b ∷ d ∷ []) ra (All-cons P b (d ∷ []) rb (All-cons P d [] rd (All-nil P))));
      integer_sides = ap length ints';
      unknowns = λ i x at. cc;
      fits = All-nil (FitsRegion region);
    }

pub returns : goal.returns
returns c =
    asked c.in_ok-multiples.field-0 c.in_ok-multiples-2.field-0 c.in_ok-multiples-3.field-0 c.new-machines.result c.push.new.self c.push-2.new.self c.push-3.new.self
    (record { empty = false; registers = c.in_ok-from_slice.field-0; integers = c.new.result }) c.args.total
    c.new-machines.ensures c.in_ok-push.ensures.ok c.in_ok-push-2.ensures.ok c.in_ok-push-3.ensures.ok
    c.in_ok-multiples.ensures c.in_ok-multiples-2.ensures c.in_ok-multiples-3.ensures c.in_ok-from_slice.ensures c.new.ensures
