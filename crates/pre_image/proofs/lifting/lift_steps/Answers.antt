use Rattle.std.proofs.Common.{◌≡◌, ℕ, length, get_or, take, ◌+◌, ◌<◌, List, ◌∷◌, ap, ◌∙◌, subst, arith}
use Rattle.std.proofs.lemmas.List.{take_all}
use Rattle.machine_core.specs.Costs.{zeros, total_of}
use Rattle.machine_core.specs.RunLaws.{path_lengths}
use Rattle.pre_image.specs.PreImages.{PreSteps}
use Rattle.pre_image.specs.Liftings.{IsLifting}
use Rattle.pre_image.proofs.LiftLemmas.{word-at, lifting-first, lifting-next}
use Rattle.pre_image.proofs.PartLemmas.{path-step}
use Rattle.pre_image.proofs.lifting.lift_steps.Goals as goal

pub loop-i-init : goal.loop-i-init
loop-i-init c = rw (c.new-so_far.ensures.word, c.new-so_far.ensures.states, c.new-so_far.ensures.costs, c.requires.states) (lifting-first c.args.pre.now.through.now c.args.pre.now.target.now)

pub bounds-states-i : goal.bounds-states-i
bounds-states-i c =
    let lt = c.loop-i-test.true in
    let read = ap length c.as_slice-read.ensures in
    let lens = path_lengths (PreSteps c.args.pre.now.through.now c.args.pre.now.target.now) (c.args.pre.now.through.now.start, 0) c.requires.after c.args.run.now.word c.args.run.now.costs c.requires.stop c.requires.path in
    let all = ap length (c.as_slice-states.ensures ∙ c.requires.states) in
    let a = lens.0 in
    omega arith

pub bounds-paid-i : goal.bounds-paid-i
bounds-paid-i c =
    let lt = c.loop-i-test.true in
    let read = ap length c.as_slice-read.ensures in
    let lens = path_lengths (PreSteps c.args.pre.now.through.now c.args.pre.now.target.now) (c.args.pre.now.through.now.start, 0) c.requires.after c.args.run.now.word c.args.run.now.costs c.requires.stop c.requires.path in
    let all = ap length c.as_slice-paid.ensures in
    let a = lens.1 in
    omega arith

pub bounds-states-i-in-loop-i : goal.bounds-states-i-in-loop-i
bounds-states-i-in-loop-i c =
    let lt = c.loop-i-test.true in
    let read = ap length c.as_slice-read.ensures in
    let lens = path_lengths (PreSteps c.args.pre.now.through.now c.args.pre.now.target.now) (c.args.pre.now.through.now.start, 0) c.requires.after c.args.run.now.word c.args.run.now.costs c.requires.stop c.requires.path in
    let all = ap length (c.as_slice-states.ensures ∙ c.requires.states) in
    let a = lens.0 in
    omega arith

pub offset_bounds-paid-i : goal.offset_bounds-paid-i
offset_bounds-paid-i c =
    let lt = c.loop-i-test.true in
    let read = ap length c.as_slice-read.ensures in
    let lens = path_lengths (PreSteps c.args.pre.now.through.now c.args.pre.now.target.now) (c.args.pre.now.through.now.start, 0) c.requires.after c.args.run.now.word c.args.run.now.costs c.requires.stop c.requires.path in
    let all = ap length c.as_slice-paid.ensures in
    let a = lens.1 in
    let b = c.as_slice-paid.type_inv.1 in
    omega arith

pub step_part-requires-clause-width : goal.step_part-requires-clause-width
step_part-requires-clause-width c =
    let lt = c.loop-i-test.true in
    let read = ap length c.as_slice-read.ensures in
    let lens = path_lengths (PreSteps c.args.pre.now.through.now c.args.pre.now.target.now) (c.args.pre.now.through.now.start, 0) c.requires.after c.args.run.now.word c.args.run.now.costs c.requires.stop c.requires.path in
    let a = lens.1 in
    let is : c.index-paid-i.result ≡ get_or c.args.run.now.costs c.loop-i.i c.index-paid-i.result = c.index-paid-i.is ∙ ap (λ (l : List (List ℕ)). get_or l c.loop-i.i c.index-paid-i.result) c.as_slice-paid.ensures in
    let wide = (c.runs_are_formed.ensures.costs c.args.run.now c.requires).0 c.loop-i.i c.index-paid-i.result (omega arith) in
    ap length is ∙ wide

pub step_part-requires-clause-character : goal.step_part-requires-clause-character
step_part-requires-clause-character c =
    let lt = c.loop-i-test.true in
    let read = ap length c.as_slice-read.ensures in
    let h = word-at c.args.run.now.word c.loop-i.i c.is_word.ensures (omega arith) in
    let same : get_or c.as_slice-read.result.now c.loop-i.i 0 ≡ get_or c.args.run.now.word c.loop-i.i 0 = ap (λ (l : List ℕ). get_or l c.loop-i.i 0) c.as_slice-read.ensures in
    omega arith

pub loop-i-preserved : goal.loop-i-preserved
loop-i-preserved c =
    let m = c.args.pre.now.target.now in
    let t = c.args.pre.now.through.now in
    let run = c.args.run.now in
    let i = c.loop-i.i in
    let lt : i < length c.as_slice-read.result.now = c.loop-i-test.true in
    let read : length c.as_slice-read.result.now ≡ length run.word = ap length c.as_slice-read.ensures in
    let lens = path_lengths (PreSteps t m) (t.start, 0) c.requires.after run.word run.costs c.requires.stop c.requires.path in
    let paid = lens.1 in
    let k = c.index-paid-i.result in
    let is : k ≡ get_or run.costs i k = c.index-paid-i.is ∙ ap (λ (l : List (List ℕ)). get_or l i k) c.as_slice-paid.ensures in
    let wide : length k ≡ m.registers = ap length is ∙ (c.runs_are_formed.ensures.costs run c.requires).0 i k (omega arith) in
    lifting-next t m run.word run.states run.costs i (omega arith) (omega arith) c.loop-i.so_far.word c.loop-i.so_far.way.states c.loop-i.so_far.way.costs c.loop-i.invariant
    (get_or c.as_slice-states.result.now i (0, 0)) (ap (λ (l : List (ℕ × ℕ)). get_or l i (0, 0)) c.as_slice-states.ensures)
    (get_or c.as_slice-read.result.now i 0) (ap (λ (l : List ℕ). get_or l i 0) c.as_slice-read.ensures)
    k is
    (get_or c.as_slice-states.result.now (i + 1) (0, 0)) (ap (λ (l : List (ℕ × ℕ)). get_or l (i + 1) (0, 0)) c.as_slice-states.ensures)
    wide c.in_ok-part.part.word c.in_ok-part.part.way.states c.in_ok-part.part.way.costs c.in_ok-part.ensures
    c.append.new.self.word c.in_ok-append.ensures.word c.append.new.self.way.states c.in_ok-append.ensures.states c.append.new.self.way.costs c.in_ok-append.ensures.costs

pub returns : goal.returns
returns c =
    let m = c.args.pre.now.target.now in
    let t = c.args.pre.now.through.now in
    let end = c.loop-i-test.false in
    let below = c.loop-i.auto.i-end in
    let lens = path_lengths (PreSteps t m) (t.start, 0) c.requires.after c.args.run.now.word c.args.run.now.costs c.requires.stop c.requires.path in
    let read = ap length c.as_slice-read.ensures in
    let same : c.loop-i.i ≡ length c.args.run.now.word = omega arith in
    let a = lens.1 in
    let all : total_of (take c.loop-i.i c.args.run.now.costs) (zeros m.registers) ≡ total_of c.args.run.now.costs (zeros m.registers) = ap (λ l. total_of l (zeros m.registers)) (take_all c.loop-i.i c.args.run.now.costs (omega arith)) in
    subst (IsLifting t m (get_or c.args.run.now.states (length c.args.run.now.word) (0, 0)) c.args.run.now.word c.loop-i.so_far.word c.loop-i.so_far.way.states c.loop-i.so_far.way.costs) all
    (subst (λ w. IsLifting t m (get_or c.args.run.now.states (length c.args.run.now.word) (0, 0)) w c.loop-i.so_far.word c.loop-i.so_far.way.states c.loop-i.so_far.way.costs (total_of (take c.loop-i.i c.args.run.now.costs) (zeros m.registers))) (take_all c.loop-i.i c.args.run.now.word (omega arith))
    (subst (λ n. IsLifting t m (get_or c.args.run.now.states n (0, 0)) (take c.loop-i.i c.args.run.now.word) c.loop-i.so_far.word c.loop-i.so_far.way.states c.loop-i.so_far.way.costs (total_of (take c.loop-i.i c.args.run.now.costs) (zeros m.registers))) same c.loop-i.invariant))

pub step_part-requires-clause-step : goal.step_part-requires-clause-step
step_part-requires-clause-step c =
    let m = c.args.pre.now.target.now in
    let t = c.args.pre.now.through.now in
    let run = c.args.run.now in
    let i = c.loop-i.i in
    let lt = c.loop-i-test.true in
    let read = ap length c.as_slice-read.ensures in
    let k = c.index-paid-i.result in
    let is : k ≡ get_or run.costs i k = c.index-paid-i.is ∙ ap (λ (l : List (List ℕ)). get_or l i k) c.as_slice-paid.ensures in
    let step = path-step (PreSteps t m) (0, 0) (t.start, 0) c.requires.after run.word run.costs c.requires.stop c.requires.path i (omega arith) k is in
    let states : c.as_slice-states.result.now ≡ (t.start, 0) ∷ c.requires.after = c.as_slice-states.ensures ∙ c.requires.states in
    rw (states, c.as_slice-read.ensures) step
