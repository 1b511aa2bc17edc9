-- Steps and ends of a run of a pre-image, each as some edge or end of the transducer and the target gives it.
use Rattle.std.proofs.Common.{◌≡◌, ℕ, zero, suc, ◌+◌, ◌<◌, List, [], ◌∷◌, length, get_or, Any, sym, ap, ◌∙◌, subst, append-nil, arith}
use Rattle.machine_core.specs.declared.graph.Graph.{Graph}
use Rattle.machine_core.specs.declared.end.End.{End}
use Rattle.machine_core.specs.Costs.{add_costs}
use Rattle.machine_core.specs.CostLaws.{add_costs-comm}
use Rattle.machine_core.specs.Language.{RunsFrom, StopsAt}
use Rattle.machine_core.specs.Edges.{EndsAt, StepsBy}
use Rattle.machine_core.specs.EdgeLaws.{path_width, run_cut}
use Rattle.sv_list.specs.Lists.{Any-contains, contained}
use Rattle.machine_core.specs.Runs.{IsPath}
use Rattle.pre_image.specs.Leading.{Goes}
use Rattle.pre_image.specs.Lifts.{IsRest}
use Rattle.pre_image.specs.Parts.{EndsByPath}
use Rattle.pre_image.proofs.WayLemmas.{left-unique}

-- a run ends by some end of the machine
pub some-end : (m : Graph) (at : ℕ) (word cost : List ℕ) → RunsFrom (EndsAt m.ends) (StepsBy m.edges) at word cost → Any (EndsByPath m at word cost) m.ends
some-end m at word cost r =
    let cut = run_cut m.states m.registers m.edges m.ends m.formed [] word at cost (subst (λ w. RunsFrom (EndsAt m.ends) (StepsBy m.edges) at w cost) (sym (append-nil word)) r) in
    let f = contained (λ (e : End). (e.at ≡ cut.0) × (e.cost ≡ cut.2)) m.ends cut.4 in
    Any-contains (EndsByPath m at word cost) m.ends f.0 f.1 (
      cut.1,
      subst (λ t. RunsFrom (StopsAt m.registers t) (StepsBy m.edges) at word cut.1) (sym f.2.0) cut.3,
      ap (λ k. add_costs k cut.1) f.2.1 ∙ add_costs-comm cut.2 cut.1 ∙ sym cut.5,
    )

pub end-rest : (m : Graph) (at : ℕ) (word cost : List ℕ) (final : End) → length cost ≡ m.registers → (e : EndsByPath m at word cost final) → IsRest cost final.cost e.0
end-rest m at word cost final whole e = record { width = path_width m.states m.registers m.edges m.ends m.formed final.at word at e.0 e.1 ∙ sym whole; sum = e.2 }

pub end-goes : (m : Graph) (at : ℕ) (word cost left : List ℕ) (final : End) → length final.cost ≡ m.registers → length cost ≡ m.registers
    → IsRest cost final.cost left → EndsByPath m at word cost final → Goes m at word left final.at
end-goes m at word cost left final wide whole r e =
    let size : length e.0 ≡ m.registers = path_width m.states m.registers m.edges m.ends m.formed final.at word at e.0 e.1 in
    let same : e.0 ≡ left = left-unique final.cost e.0 left (size ∙ sym wide) (r.width ∙ whole ∙ sym wide) (e.2 ∙ sym r.sum) in
    subst (λ k. Goes m at word k final.at) same e.1

module _ {S : Type 0} (steps : S → ℕ → List ℕ → S → Type 0) (d : S) where
  -- the step at a place of a path
  pub path-step : (s : S) (us : List S) (word : List ℕ) (costs : List (List ℕ)) (t : S) → IsPath steps s us word costs t → (i : ℕ) → i < length word → (k : List ℕ) → k ≡ get_or costs i k
      → steps (get_or (s ∷ us) i d) (get_or word i 0) k (get_or (s ∷ us) (i + 1) d)
  path-step s [] [] [] t p i lt k e = absurd (omega (arith, lt))
  path-step s (u ∷ us) (c ∷ word) (x ∷ costs) t p zero lt k e = subst (λ y. steps s c y u) (sym e) p.0
  path-step s (u ∷ us) (c ∷ word) (x ∷ costs) t p (suc i) lt k e =
      let next : suc i + 1 ≡ suc (i + 1) = omega arith in
      subst (λ n. steps (get_or (u ∷ us) i d) (get_or word i 0) k (get_or (s ∷ u ∷ us) n d)) (sym next) (path-step u us word costs t p.1 i (omega (arith, lt)) k e)
  path-step s us word costs t p i lt k e = absurd p

  -- where a path stops
  pub path-stop : (s : S) (us : List S) (word : List ℕ) (costs : List (List ℕ)) (t : S) → IsPath steps s us word costs t → get_or (s ∷ us) (length word) d ≡ t
  path-stop s [] [] [] t p = p
  path-stop s (u ∷ us) (c ∷ word) (x ∷ costs) t p = path-stop u us word costs t p.1
  path-stop s us word costs t p = absurd p
