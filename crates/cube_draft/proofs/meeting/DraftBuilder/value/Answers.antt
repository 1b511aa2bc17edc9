use Rattle.std.proofs.Common.{◌≡◌, ◌∙◌, ◌||◌, ◌++◌, ◌∷◌, [], ap, sym, Bool, true, false, List, ℕ}
use Rattle.std.specs.Bool.{beq}
use Rattle.std.proofs.lemmas.Result.{on_ok_weaker}
use Rattle.std.specs.Prelude.{not}
use Rattle.sv_terms.specs.Meaning.{same_truth}
use Rattle.cube_draft.proofs.Gathering.{truth_known, truth_new}
use Rattle.cube_draft.proofs.meeting.DraftBuilder.value.Goals as goal
use Rattle.cube_draft.proofs.meeting.DraftBuilder.value.Goals.{then-self, else-self}

broken_before : (x y z : Bool) → x ≡ y → y ≡ true → x ≡ (y || z)
broken_before x y z e f = e ∙ f ∙ ap (λ b. b || z) (sym f)

broken_now : (x y b c : Bool) → x ≡ not (beq c b) → y ≡ false → x ≡ (y || not (same_truth b c))
broken_now x y true true e f = e ∙ ap (λ z. z || false) (sym f)
broken_now x y true false e f = e ∙ ap (λ z. z || true) (sym f)
broken_now x y false true e f = e ∙ ap (λ z. z || true) (sym f)
broken_now x y false false e f = e ∙ ap (λ z. z || false) (sym f)

pub returns-after-self : goal.returns-after-self
returns-after-self c =
    let m = c.args.self.now in
    let k : c.if-self.self ≡ (m.broken || not (same_truth c.args.value c.in-Some.before)) = elim c.if-self.branch [ then-self w ↦ broken_before _ _ _ w.self-is w.if-self.true | else-self w ↦ broken_now _ _ c.args.value c.in-Some.before w.self-is w.if-self.false ] in
    truth_known m (record m { broken = c.if-self.self }) c.args.name.now c.args.value c.in-Some.before c.in-Some.ensures (ap (λ (b : Bool). record c.args.self.now { broken = b }) k)

pub returns-in_ok-copy-in-None : goal.returns-in_ok-copy-in-None
returns-in_ok-copy-in-None c =
    on_ok_weaker c.declare.result (λ declared. truth_new c.args.self.now (record c.args.self.now { truths = c.declare.new.self }) c.args.name.now c.args.value c.in-None.ensures
    (ap (λ (ts : List (List ℕ × Bool)). record c.args.self.now { truths = ts }) (declared ∙ ap (λ (z : List ℕ). c.args.self.now.truths ++ (z, c.args.value) ∷ []) c.in_ok-copy-in-None.ensures))) c.declare.ensures
