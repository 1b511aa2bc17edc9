use Rattle.std.proofs.Common.{◌≡◌, ℕ, ◌<◌, Bool, false, ◌&&◌, not, List, length, get_or, ap, ap₂, sym, ◌∙◌}
use Rattle.std.proofs.lemmas.Option.{slice_get-get_or, same_Some}
use Rattle.farkas_check.specs.Closings.{contains_number}
use Rattle.lia_branch.specs.EdgeSums.{AreSetMarks, picks}
use Rattle.lia_branch.proofs.edge_sums.is_picked.Goals as goal

-- a mark that is read
read-mark : (states : ℕ) (set : List ℕ) (marks : List Bool) (s : ℕ) → AreSetMarks states set marks → s < states → s < length marks → get_or marks s false ≡ contains_number s set
read-mark states set marks s are within lt = same_Some (get_or marks s false) (contains_number s set) (sym (slice_get-get_or marks s false lt) ∙ are s within)

pub returns-in-Out : goal.returns-in-Out
returns-in-Out c = λ states set are at to.
    read-mark states set c.args.marks.now c.args.edge.from are at c.requires.from ∙ ap (λ side. picks side set c.args.edge) (sym c.in-Out.is)

pub returns-then-marks-edge : goal.returns-then-marks-edge
returns-then-marks-edge c = λ states set are at to.
    let behind = read-mark states set c.args.marks.now c.args.edge.to are to c.requires.to in
    let before = read-mark states set c.args.marks.now c.args.edge.from are at c.requires.from in
    ap₂ (λ b d. b && not d) (sym c.if-marks-edge.true ∙ behind) before ∙ ap (λ side. picks side set c.args.edge) (sym c.in-In.is)

pub returns-else-marks-edge : goal.returns-else-marks-edge
returns-else-marks-edge c = λ states set are at to.
    let behind = read-mark states set c.args.marks.now c.args.edge.to are to c.requires.to in
    c.if-marks-edge.false ∙ ap (λ b. b && not (contains_number c.args.edge.from set)) (sym c.if-marks-edge.false ∙ behind) ∙ ap (λ side. picks side set c.args.edge) (sym c.in-In.is)
