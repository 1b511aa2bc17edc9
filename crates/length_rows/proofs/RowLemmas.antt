-- Rows that are met.
use Rattle.std.proofs.Common.{◌≡◌, ◌↔◌, sym, ap, subst, ◌∙◌, ◌≤◌, ◌<◌, ◌+◌, ◌^◌, ℕ, zero, suc, ℤ, pos, ◌≤ℤ◌, ◌-ℤ◌, List, [], ◌∷◌, ◌++◌, map, length, take, get_or, Some, slice_get, All, arith}
use Rattle.std.specs.List.{AllByRecursion, AllZip}
use Rattle.std.proofs.lemmas.Int.{ints}
use Rattle.std.proofs.Math.Seq.{take-length}
use Rattle.std.proofs.lemmas.List.Elements.{All-nil, All-cons}
use Rattle.sv_list.specs.Lists.{AllByRecursion-push}
use Rattle.sv_terms.specs.Language.{Word}
use Rattle.sv_linear.specs.Forms.{form_value}
use Rattle.sv_linear.specs.Rows.{MeetsRow, NameUnknowns}
use Rattle.sv_linear.specs.declared.row.RowKind.TheVariants.{Eq}
use Rattle.sv_linear.specs.declared.form.Form.{Form}
use Rattle.sv_linear.specs.Terms.{AscendsWithin}
use Rattle.sv_linear.specs.declared.row.Row.{Row}
use Rattle.farkas_check.specs.Closings.{at_least, at_most}
use Rattle.farkas_check.specs.Systems.{Joined, Meets, Solves, constraint_of}
use Rattle.flat_cubes.specs.Satisfying.{MeetsParts, word_at}
use Rattle.flat_cubes.specs.declared.variable.Variable.{Variable}
use Rattle.length_rows.specs.Lengths.{AreMet}

pub least-met : ((x : ℕ → ℤ) (row : Row) → MeetsRow x row ↔ Meets x (constraint_of row)) → (x : ℕ → ℤ) (r : Row) (u : ℕ) (a : ℤ) → constraint_of r ≡ at_least u a → a ≤ℤ x u → MeetsRow x r
least-met law x r u a e h = (law x r).1 (subst (Meets x) (sym e) (record { at_most = omega (arith, ints); equal = λ t. absurd (cc) }))

pub most-met : ((x : ℕ → ℤ) (row : Row) → MeetsRow x row ↔ Meets x (constraint_of row)) → (x : ℕ → ℤ) (r : Row) (u : ℕ) (a : ℤ) → constraint_of r ≡ at_most u a → x u ≤ℤ a → MeetsRow x r
most-met law x r u a e h = (law x r).1 (subst (Meets x) (sym e) (record { at_most = omega (arith, ints); equal = λ t. absurd (cc) }))

pub push-met : (x : ℕ → ℤ) (rows new : List Row) (r : Row) → new ≡ rows ++ r ∷ [] → MeetsRow x r → AreMet x rows → AreMet x new
push-met x rows new r e m h = subst (AreMet x) (sym e) (AllByRecursion-push (MeetsRow x) rows r h m)

pub all-at : {X : Type 0} (P : X → Type 0) (xs : List X) (i : ℕ) (d : X) → AllByRecursion P xs → i < length xs → P (get_or xs i d)
all-at P [] i d h l = absurd (omega arith)
all-at P (x ∷ xs) zero d h l = h.0
all-at P (x ∷ xs) (suc i) d h l = all-at P xs i d h.1 (omega arith)

pub zip-at : (vs : List Variable) (ws : List Word) (i : ℕ) (d : Variable) → AllZip MeetsParts vs ws → i < length vs → MeetsParts (get_or vs i d) (word_at ws i)
zip-at [] ws i d h l = absurd (omega arith)
zip-at (v ∷ vs) [] i d h l = absurd h
zip-at (v ∷ vs) (w ∷ ws) zero d h l = h.0
zip-at (v ∷ vs) (w ∷ ws) (suc i) d h l = zip-at vs ws i d h.1 (omega arith)

-- ascending terms that are below n ascend within n
ascends-below : (n low high : ℕ) (ts : List (ℕ × ℤ)) → AscendsWithin low high ts → AllByRecursion (λ (t : ℕ × ℤ). t.0 < n) ts → low ≤ n → AscendsWithin low n ts
ascends-below n low high [] a b l = l
ascends-below n low high (t ∷ ts) a b l = (a.0, (a.1.0, ascends-below n (t.0 + 1) high ts a.1.1 b.1 (omega (arith, b.0))))

row-at : (n : ℕ) (rows : List Row) (i : ℕ) (r : Row) → AllByRecursion (λ (s : Row). AllByRecursion (λ t. t.0 < n) s.form.coefficients) rows → slice_get rows i ≡ Some r → AllByRecursion (λ t. t.0 < n) r.form.coefficients
row-at n [] i r h e = absurd (cc)
row-at n (s ∷ rows) zero r h e = let f : s ≡ r = cc in subst (λ (q : Row). AllByRecursion (λ t. t.0 < n) q.form.coefficients) f h.0
row-at n (s ∷ rows) (suc i) r h e = row-at n rows i r h.1 e

pub names-all : (n : ℕ) (rows : List Row) → AllByRecursion (λ (s : Row). AllByRecursion (λ t. t.0 < n) s.form.coefficients) rows → NameUnknowns n rows
names-all n rows h i r e = ascends-below n 0 (2 ^ 32) r.form.coefficients r.form.ascending (row-at n rows i r h e) (omega arith)

pub names-taken : (n k : ℕ) (rows : List Row) → AllByRecursion (λ (s : Row). AllByRecursion (λ t. t.0 < n) s.form.coefficients) (take k rows) → k ≡ length rows → NameUnknowns n rows
names-taken n k rows h e = names-all n rows (subst (AllByRecursion (λ (s : Row). AllByRecursion (λ t. t.0 < n) s.form.coefficients)) (ap (λ j. take j rows) e ∙ take-length rows) h)

-- a difference of two that are equal is met as an equation
pub equation-met : (x : ℕ → ℤ) (f : Form) (n : ℕ) (z : ℤ) → form_value x (pos 1) f ≡ pos n -ℤ z → z ≡ pos n → MeetsRow x (record { form = f; kind = Eq })
equation-met x f n z e h = omega (arith, ints, e, h)

constraints-met : ((x : ℕ → ℤ) (row : Row) → MeetsRow x row ↔ Meets x (constraint_of row)) → (x : ℕ → ℤ) (rows : List Row) → AreMet x rows → All (Meets x) (map constraint_of rows)
constraints-met law x [] h = All-nil (Meets x)
constraints-met law x (r ∷ rows) h = All-cons (Meets x) (constraint_of r) (map constraint_of rows) ((law x r).0 h.0) (constraints-met law x rows h.1)

pub no-values : ((x : ℕ → ℤ) (row : Row) → MeetsRow x row ↔ Meets x (constraint_of row)) → (x : ℕ → ℤ) (rows : List Row) → AreMet x rows → Solves x (map constraint_of rows) []
no-values law x rows h = record { meets = constraints-met law x rows h; joins = All-nil (Joined x) }
