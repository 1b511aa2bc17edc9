-- The words of machines together.
use Rattle.std.proofs.Common.{◌≡◌, ℕ, ◌<◌, ◌≤◌, ◌^◌, ◌↔◌, List, [], ◌∷◌, map, Contains, refl, sym, ◌∙◌, subst, arith}
use Rattle.std.proofs.lemmas.List.{nil_from_length}
use Rattle.sv_word.specs.Words.{IsWord}
use Rattle.machine_core.specs.declared.graph.Graph.{Graph}
use Rattle.machine_core.specs.declared.edge.Edge.{Edge}
use Rattle.machine_core.specs.declared.end.End.{End}
use Rattle.machine_core.specs.Costs.{cost_top}
use Rattle.machine_core.specs.CostLaws.{top_by-least}
use Rattle.machine_core.specs.Language.{RunsFrom}
use Rattle.machine_core.specs.Edges.{EndsAt, StepsBy, listed_top}
use Rattle.machine_core.specs.EdgeLaws.{step_target, step_character}
use Rattle.machine_core.specs.LanguageLaws.{runs_are_words}
use Rattle.sv_list.specs.Lists.{Contains-here, Contains-there}
use Rattle.machine_meet.specs.Products.{meet_width, summed, MeetEnds, MeetSteps, AllRead, MeetsAll}
use Rattle.sv_terms.specs.Language.{Word, InAllOf}
use Rattle.regex_machine.specs.Joined.{WordsOf, HaveNoRegisters}
use Rattle.regex_machine.proofs.WordLemmas.{run-free}

plain-top : (m : Graph) → m.registers ≡ 0 → listed_top m.edges m.ends ≡ 0
plain-top m plain =
    let e = top_by-least (λ (e : Edge). cost_top e.cost) m.edges 0 (λ e i. subst (λ k. cost_top k ≤ 0) (sym (nil_from_length e.cost ((m.formed.edge e i).cost ∙ plain))) (omega arith)) in
    let f = top_by-least (λ (e : End). cost_top e.cost) m.ends 0 (λ e i. subst (λ k. cost_top k ≤ 0) (sym (nil_from_length e.cost ((m.formed.ending e i).cost ∙ plain))) (omega arith)) in
    omega arith

plain-rest : (m : Graph) (ms : List Graph) → HaveNoRegisters (m ∷ ms) → HaveNoRegisters ms
plain-rest m ms plain n i = plain n (Contains-there m ms n i)

tops : (ms : List Graph) → HaveNoRegisters ms → summed (λ (m : Graph). listed_top m.edges m.ends) ms ≡ 0
tops [] plain = refl
tops (m ∷ ms) plain =
    let here = plain-top m (plain m (Contains-here m ms)) in
    let rest = tops ms (plain-rest m ms plain) in
    omega arith

pub tops-fit : (ms : List Graph) → HaveNoRegisters ms → summed (λ (m : Graph). listed_top m.edges m.ends) ms < 2 ^ 64
tops-fit ms plain = let e = tops ms plain in omega arith

pub plain-width : (ms : List Graph) → HaveNoRegisters ms → meet_width (λ (m : Graph). m.registers) ms ≡ 0
plain-width [] plain = refl
plain-width (m ∷ ms) plain = plain m (Contains-here m ms)

pub plain-agree : (ms : List Graph) → HaveNoRegisters ms → (m : Graph) → Contains ms m → m.registers ≡ meet_width (λ (m : Graph). m.registers) ms
plain-agree ms plain m i = plain m i ∙ sym (plain-width ms plain)

abbrev pub ends_of : Graph → ℕ → List ℕ → Type 0
ends_of m = EndsAt m.ends

abbrev pub steps_of : Graph → ℕ → ℕ → List ℕ → ℕ → Type 0
steps_of m = StepsBy m.edges

abbrev pub first_of_graph : Graph → ℕ
first_of_graph m = 0

all-out : (ms : List Graph) → HaveNoRegisters ms → (w : Word) (cost : List ℕ) → AllRead ends_of steps_of first_of_graph 0 ms w cost → InAllOf WordsOf ms w
all-out [] plain w cost h = h.0
all-out (m ∷ ms) plain w cost h =
    let free = run-free m (plain m (Contains-here m ms)) w 0 h.0 h.2 in
    (subst (λ k. RunsFrom (EndsAt m.ends) (StepsBy m.edges) 0 w k) free h.2, all-out ms (plain-rest m ms plain) w h.1 h.3)

all-in : (ms : List Graph) (w : Word) → InAllOf WordsOf ms w → AllRead ends_of steps_of first_of_graph 0 ms w []
all-in [] w h = (h, refl)
all-in (m ∷ ms) w h = ([], [], h.0, all-in ms w h.1, refl)

pub meet-language : (ms : List Graph) → HaveNoRegisters ms → (width : ℕ) → width ≡ 0 → MeetsAll ends_of steps_of first_of_graph width ms
    → (w : Word) → RunsFrom (MeetEnds ends_of width ms) (MeetSteps steps_of width ms) (map first_of_graph ms) w [] ↔ InAllOf WordsOf ms w
meet-language ms plain width none meets w = (
  λ r. all-out ms plain w [] (subst (λ n. AllRead ends_of steps_of first_of_graph n ms w []) none ((meets w []).0 r)),
  λ h. (meets w []).1 (subst (λ n. AllRead ends_of steps_of first_of_graph n ms w []) (sym none) (all-in ms w h)),
)

pub words-only : (m : Graph) (w : Word) → WordsOf m w → IsWord w
words-only m w h = runs_are_words (λ s. s < m.states) (StepsBy m.edges) (λ s t c cost ok st. step_target m.states m.registers m.edges m.ends m.formed s t c cost st) (EndsAt m.ends)
    (λ s t c cost ok st. step_character m.states m.registers m.edges m.ends m.formed s t c cost st) w 0 [] m.started h

-- what the product of these reads
pub meet-words : (ms : List Graph) → HaveNoRegisters ms → (ns : List Graph) → ns ≡ ms → MeetsAll ends_of steps_of first_of_graph (meet_width (λ (m : Graph). m.registers) ms) ms
    → (w : Word) → RunsFrom (MeetEnds ends_of (meet_width (λ (m : Graph). m.registers) ns) ns) (MeetSteps steps_of (meet_width (λ (m : Graph). m.registers) ns) ns) (map first_of_graph ns) w []
    ↔ InAllOf WordsOf ms w
meet-words ms plain ns same meets =
    let width : List Graph → ℕ = meet_width (λ (m : Graph). m.registers) in
    subst (λ l. (w : Word) → RunsFrom (MeetEnds ends_of (width l) l) (MeetSteps steps_of (width l) l) (map first_of_graph l) w [] ↔ InAllOf WordsOf ms w) (sym same)
    (meet-language ms plain (width ms) (plain-width ms plain) meets)
