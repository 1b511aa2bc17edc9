use Rattle.std.proofs.Common.{◌≡◌, ℕ, ◌<◌, length, get_or, List, ◌∷◌, sym, ap, ap₂, ◌∙◌, subst, arith}
use Rattle.machine_core.specs.Costs.{zeros, total_of}
use Rattle.machine_core.specs.RunLaws.{path_lengths}
use Rattle.sv_terms.specs.Transduction.{Pairs}
use Rattle.pre_image.specs.PreImages.{PreEnds, PreSteps}
use Rattle.pre_image.specs.Liftings.{IsLiftedEnd}
use Rattle.pre_image.proofs.JoinLemmas.{behind}
use Rattle.pre_image.proofs.LiftLemmas.{lifting-pair, lifting-run, lifting-total}
use Rattle.pre_image.proofs.PartLemmas.{path-stop}
use Rattle.pre_image.proofs.lifting.lift_pre.Goals as goal

pub bounds-as_slice-as_slice : goal.bounds-as_slice-as_slice
bounds-as_slice-as_slice c =
    let run = c.args.run.now in
    let lens = path_lengths (PreSteps c.args.pre.now.through.now c.args.pre.now.target.now) (c.args.pre.now.through.now.start, 0) c.requires.after run.word run.costs c.requires.stop c.requires.path in
    let states = ap length (c.as_slice.ensures ∙ c.requires.states) in
    let word = ap length c.as_slice-2.ensures in
    let a = lens.0 in
    omega arith

pub returns-clause-pair : goal.returns-clause-pair
returns-clause-pair c =
    let t = c.args.pre.now.through.now in
    let m = c.args.pre.now.target.now in
    let run = c.args.run.now in
    let s = c.in_ok-whole.whole in
    let e = c.in_ok-ending.ending in
    let at : ℕ × ℕ = get_or run.states (length run.word) (0, 0) in
    let same : get_or c.as_slice.result.now (length c.as_slice-2.result.now) (0, 0) ≡ at = ap₂ (λ (l : List (ℕ × ℕ)) (n : ℕ). get_or l n (0, 0)) c.as_slice.ensures (ap length c.as_slice-2.ensures) in
    let last : IsLiftedEnd t m at run.last e.word e.way.states e.way.costs e.last = subst (λ q. IsLiftedEnd t m q run.last e.word e.way.states e.way.costs e.last) same c.in_ok-ending.ensures in
    let total = total_of run.costs (zeros m.registers) in
    subst (Pairs t run.word) (sym (c.in_ok-whole_run.ensures.pair ∙ c.in_ok-append.ensures.word)) (lifting-pair t m at run.word s.word s.way.states s.way.costs total c.in_ok-whole.ensures run.last e.word e.way.states e.way.costs e.last last)

pub returns-clause-run : goal.returns-clause-run
returns-clause-run c =
    let t = c.args.pre.now.through.now in
    let m = c.args.pre.now.target.now in
    let run = c.args.run.now in
    let s = c.in_ok-whole.whole in
    let e = c.in_ok-ending.ending in
    let at : ℕ × ℕ = get_or run.states (length run.word) (0, 0) in
    let same : get_or c.as_slice.result.now (length c.as_slice-2.result.now) (0, 0) ≡ at = ap₂ (λ (l : List (ℕ × ℕ)) (n : ℕ). get_or l n (0, 0)) c.as_slice.ensures (ap length c.as_slice-2.ensures) in
    let last : IsLiftedEnd t m at run.last e.word e.way.states e.way.costs e.last = subst (λ q. IsLiftedEnd t m q run.last e.word e.way.states e.way.costs e.last) same c.in_ok-ending.ensures in
    let total = total_of run.costs (zeros m.registers) in
    lifting-run t m at run.word s.word s.way.states s.way.costs total c.in_ok-whole.ensures run.last e.word e.way.states e.way.costs e.last last
    c.in_ok-whole_run.field-0.1
    (c.in_ok-whole_run.ensures.word ∙ c.in_ok-append.ensures.word)
    (c.in_ok-whole_run.ensures.states ∙ ap (λ (l : List ℕ). 0 ∷ l) c.in_ok-append.ensures.states)
    (c.in_ok-whole_run.ensures.costs ∙ c.in_ok-append.ensures.costs)
    c.in_ok-whole_run.ensures.last

pub returns-clause-total : goal.returns-clause-total
returns-clause-total c =
    let t = c.args.pre.now.through.now in
    let m = c.args.pre.now.target.now in
    let run = c.args.run.now in
    let s = c.in_ok-whole.whole in
    let e = c.in_ok-ending.ending in
    let at : ℕ × ℕ = get_or run.states (length run.word) (0, 0) in
    let same : get_or c.as_slice.result.now (length c.as_slice-2.result.now) (0, 0) ≡ at = ap₂ (λ (l : List (ℕ × ℕ)) (n : ℕ). get_or l n (0, 0)) c.as_slice.ensures (ap length c.as_slice-2.ensures) in
    let last : IsLiftedEnd t m at run.last e.word e.way.states e.way.costs e.last = subst (λ q. IsLiftedEnd t m q run.last e.word e.way.states e.way.costs e.last) same c.in_ok-ending.ensures in
    let total = total_of run.costs (zeros m.registers) in
    let wide : length run.last ≡ m.registers = (c.runs_are_formed.ensures.costs run c.requires).1 in
    lifting-total t m at run.word s.word s.way.states s.way.costs total c.in_ok-whole.ensures run.last e.word e.way.states e.way.costs e.last last
    c.in_ok-whole_run.field-0.1
    (c.in_ok-whole_run.ensures.costs ∙ c.in_ok-append.ensures.costs) c.in_ok-whole_run.ensures.last ∙ sym (behind run.costs run.last m.registers wide)

pub last_part-requires-clause-end : goal.last_part-requires-clause-end
last_part-requires-clause-end c =
    let m = c.args.pre.now.target.now in
    let t = c.args.pre.now.through.now in
    let run = c.args.run.now in
    let stop = path-stop (PreSteps t m) (0, 0) (t.start, 0) c.requires.after run.word run.costs c.requires.stop c.requires.path in
    let same : get_or c.as_slice.result.now (length c.as_slice-2.result.now) (0, 0) ≡ c.requires.stop =
    ap₂ (λ (l : List (ℕ × ℕ)) (n : ℕ). get_or l n (0, 0)) (c.as_slice.ensures ∙ c.requires.states) (ap length c.as_slice-2.ensures) ∙ stop in
    subst (λ q. PreEnds t m q run.last) (sym same) c.requires.last

pub last_part-requires-clause-width : goal.last_part-requires-clause-width
last_part-requires-clause-width c = (c.runs_are_formed.ensures.costs c.args.run.now c.requires).1

pub returns-clause-word : goal.returns-clause-word
returns-clause-word c = c.in_ok-whole_run.ensures.word ∙ sym c.in_ok-whole_run.ensures.pair

pub last_part-requires-clause-at : goal.last_part-requires-clause-at
last_part-requires-clause-at c =
    let t = c.args.pre.now.through.now in
    let m = c.args.pre.now.target.now in
    let run = c.args.run.now in
    let lens = path_lengths (PreSteps t m) (t.start, 0) c.requires.after run.word run.costs c.requires.stop c.requires.path in
    let states = ap length c.requires.states in
    let word = lens.0 in
    let at : ℕ × ℕ = get_or run.states (length run.word) (0, 0) in
    let same : get_or c.as_slice.result.now (length c.as_slice-2.result.now) (0, 0) ≡ at = ap₂ (λ (l : List (ℕ × ℕ)) (n : ℕ). get_or l n (0, 0)) c.as_slice.ensures (ap length c.as_slice-2.ensures) in
    subst (λ (q : ℕ × ℕ). q.1 < m.states) (sym same) (c.runs_are_formed.ensures.states run c.requires (length run.word) (0, 0) (omega arith)).1
