use Rattle.std.proofs.Common.{subst, sym, List, ℕ, pos, ◌≡◌, ◌<◌, ◌+◌, length, get_or}
use Rattle.std.specs.List.{AllByRecursion, AllZip}
use Rattle.flat_cubes.specs.Satisfying.{Defines, MeetsParts, word_at}
use Rattle.flat_cubes.specs.declared.variable.Variable.{Variable}
use Rattle.length_rows.specs.Lengths.{AreMet, HasLengths, values_of}
use Rattle.length_rows.proofs.ValueLemmas.{lengths-stand, own-met, register-stands}
use Rattle.length_rows.proofs.contradicting.length_rows.Goals as goal

pub returns : goal.returns
returns c = λ words numbers s.
    let x = values_of c.args.flat.now words numbers in
    let has : HasLengths c.args.base (values_of c.args.flat.now words numbers) words = subst (λ b. HasLengths b (values_of c.args.flat.now words numbers) words) (sym c.requires.base) (lengths-stand c.args.flat.now words numbers) in
    let own : AreMet (values_of c.args.flat.now words numbers) c.in_ok-rows.rows = subst (AreMet (values_of c.args.flat.now words numbers)) (sym c.in_ok-rows.ensures) (own-met c.args.flat.now words numbers c.args.flat.now.rows c.requires.straight.rows s.rows.rows) in
    c.in_ok-push_definitions.ensures x words (subst (AllByRecursion (Defines words)) (sym c.as_slice-3.ensures) s.strings.definitions) has
    (c.in_ok-push_variables.ensures x words (subst (λ (vs : List Variable). AllZip MeetsParts vs words) (sym c.as_slice-2.ensures) s.strings.parts) has
    (c.in_ok-push_registers.ensures x words
    (subst (λ (rs : List ℕ). (i : ℕ) → i < length rs → values_of c.args.flat.now words numbers (c.args.integers + i) ≡ pos (length (word_at words (get_or rs i 0)))) (sym c.as_slice.ensures)
    (subst (λ n. (i : ℕ) → i < length c.args.flat.now.registers → values_of c.args.flat.now words numbers (n + i) ≡ pos (length (word_at words (get_or c.args.flat.now.registers i 0)))) (sym c.requires.integers)
    (register-stands c.args.flat.now words numbers s.rows.count))) has own))
