-- Rows, standings and tables read back.
use Rattle.std.proofs.Common.{◌≡◌, ℕ, ℤ, ◌+◌, ◌<◌, ◌^◌, List, [], ◌∷◌, ◌++◌, length, refl, ap, sym, ◌∙◌, subst, arith}
use Rattle.std.specs.List.{flat_map, AllByRecursion}
use Rattle.std.proofs.lemmas.List.{append-nil}
use Rattle.sv_linear.specs.Terms.{AscendsWithin, AscendsWithin-prop}
use Rattle.sv_linear.specs.declared.form.Form.{Form}
use Rattle.sv_linear.specs.declared.row.Row.{Row}
use Rattle.sv_linear.specs.declared.row.RowKind.{RowKind}
use Rattle.sv_linear.specs.declared.row.RowKind.TheVariants.{Le, Eq}
use Rattle.lia_tableau.specs.Bases.{IsTableau}
use Rattle.lia_tableau.specs.LineLaws.{ends}
use Rattle.lia_tableau.specs.declared.standing.Standing.{Standing}
use Rattle.lia_tableau.specs.declared.standing.Standing.TheVariants.{Outside, Basic}
use Rattle.lia_tableau.specs.declared.table.Table.{Table}
use Rattle.lia_tableau.proofs.TableLemmas.{tableau-prop, counted-prop}
use Rattle.lia_pack.specs.Numbers.{numbers_from, Say, AreWritten}
use Rattle.lia_pack.specs.Shares.{bytes_of}
use Rattle.lia_pack.specs.Tables.{kind_number, form_numbers, row_numbers, standing_numbers, IsPackedOf}
use Rattle.lia_pack.specs.declared.packed.PackedTableau.{PackedTableau}

pub terms_below : (low : ℕ) (ts : List (ℕ × ℤ)) → AscendsWithin low (2 ^ 32) ts → AllByRecursion (λ t. t.0 < 2 ^ 32) ts
terms_below low [] h = tt
terms_below low (t ∷ ts) h = (let e = ends (t.0 + 1) (2 ^ 32) ts h.1.1 in omega (arith, e), terms_below (t.0 + 1) ts h.1.1)

abbrev form : (cs : List (ℕ × ℤ)) → ℤ → AscendsWithin 0 (2 ^ 32) cs → Form
form cs k a = record { coefficients = cs; constant = k; ascending = a }

form_is : (f : Form) (cs : List (ℕ × ℤ)) (k : ℤ) (a : AscendsWithin 0 (2 ^ 32) cs) → cs ≡ f.coefficients → k ≡ f.constant → form cs k a ≡ f
form_is f cs k a e g =
    ap (λ z. form cs z a) g
    ∙ subst (λ l. (b : AscendsWithin 0 (2 ^ 32) l) → form l f.constant b ≡ f) (sym e) (λ b. ap (form f.coefficients f.constant) (AscendsWithin-prop 0 (2 ^ 32) f.coefficients b f.ascending)) a

abbrev row : Form → RowKind → Row
row f k = record { form = f; kind = k }

pub row_is : (r : Row) (cs : List (ℕ × ℤ)) (k : ℤ) (kind : RowKind) (a : AscendsWithin 0 (2 ^ 32) cs) → cs ≡ r.form.coefficients → k ≡ r.form.constant → kind ≡ r.kind → row (form cs k a) kind ≡ r
row_is r cs k kind a e g h = ap (λ f. row f kind) (form_is r.form cs k a e g) ∙ ap (λ x. row r.form x) h

-- what reading a number answers
abbrev IsFirstRead : List ℕ → List ℕ → ℕ → Type 0
IsFirstRead left after number = (n : ℕ) (ns : List ℕ) → Say left (n ∷ ns) → (number ≡ n) × Say after ns

kind_above : (k : RowKind) → kind_number k ≡ 0 → ⊥
kind_above Le e = absurd (omega (arith, e))
kind_above Eq e = absurd (omega (arith, e))

pub standing_none : (s : Standing) (ns left after : List ℕ) (number : ℕ) → number ≡ 0 → IsFirstRead left after number → Say left (standing_numbers s ++ ns) → (Outside ≡ s) × Say after ns
standing_none Outside ns left after number e read say = (refl, (read 0 ns say).1)
standing_none (Basic r) ns left after number e read say = absurd (kind_above r.kind (sym (read (kind_number r.kind) (form_numbers r ++ ns) say).0 ∙ e))

pub standing_row : (s : Standing) (ns left after : List ℕ) (number : ℕ) → 0 < number → IsFirstRead left after number → Say left (standing_numbers s ++ ns) →
    (r : Row) × ((s ≡ Basic r) × ((number ≡ kind_number r.kind) × Say after (form_numbers r ++ ns)))
standing_row Outside ns left after number h read say = absurd (omega (arith, h, (read 0 ns say).0))
standing_row (Basic r) ns left after number h read say = let k = read (kind_number r.kind) (form_numbers r ++ ns) say in (r, (refl, k))

pub both_read : (t : Table) (p : PackedTableau) (left after last : List ℕ) (rows : List Row) (lines : List Standing) → left ≡ bytes_of p.bytes → IsPackedOf t p →
    ((xs : List Row) (ns : List ℕ) → length xs ≡ p.row_count → Say left (flat_map row_numbers xs ++ ns) → (rows ≡ xs) × Say after ns) →
    ((xs : List Standing) (ns : List ℕ) → length xs ≡ p.unknowns + p.row_count → Say after (flat_map standing_numbers xs ++ ns) → (lines ≡ xs) × Say last ns) → (rows ≡ t.rows) × (lines ≡ t.lines)
both_read t p left after last rows lines e k read more =
    let first = read t.rows (flat_map standing_numbers t.lines) (sym k.count) (subst (λ l. Say l (flat_map row_numbers t.rows ++ flat_map standing_numbers t.lines)) (sym e) k.say) in
    let second = more t.lines [] (omega (arith, t.tableau.size, k.count, k.unknowns)) (subst (Say after) (sym (append-nil (flat_map standing_numbers t.lines))) first.1) in
    (first.0, second.0)

abbrev table : (n : ℕ) (rows : List Row) (lines : List Standing) (pivots : ℕ) → length lines < 2 ^ 32 → IsTableau n rows lines → Table
table n rows lines pivots p q = record { unknowns = n; rows = rows; lines = lines; pivots = pivots; counted = p; tableau = q }

facts_are : (t : Table) (p : length t.lines < 2 ^ 32) (q : IsTableau t.unknowns t.rows t.lines) → table t.unknowns t.rows t.lines t.pivots p q ≡ t
facts_are t p q =
    ap (λ x. table t.unknowns t.rows t.lines t.pivots x q) (counted-prop (length t.lines) p t.counted)
    ∙ ap (table t.unknowns t.rows t.lines t.pivots t.counted) (tableau-prop t.unknowns t.rows t.lines q t.tableau)

pub table_is : (t : Table) (n : ℕ) (rows : List Row) (lines : List Standing) (pivots : ℕ) (p : length lines < 2 ^ 32) (q : IsTableau n rows lines) →
    n ≡ t.unknowns → rows ≡ t.rows → lines ≡ t.lines → pivots ≡ t.pivots → table n rows lines pivots p q ≡ t
table_is t n rows lines pivots p q a b c d =
    ap (λ k. table n rows lines k p q) d
    ∙ subst (λ m. (p : length lines < 2 ^ 32) (q : IsTableau m rows lines) → table m rows lines t.pivots p q ≡ t) (sym a)
    (subst (λ rs. (p : length lines < 2 ^ 32) (q : IsTableau t.unknowns rs lines) → table t.unknowns rs lines t.pivots p q ≡ t) (sym b)
    (subst (λ ls. (p : length ls < 2 ^ 32) (q : IsTableau t.unknowns t.rows ls) → table t.unknowns t.rows ls t.pivots p q ≡ t) (sym c) (facts_are t))) p q

pub is_counted : (t : Table) (lines : List Standing) → lines ≡ t.lines → length lines < 2 ^ 32
is_counted t lines e = subst (λ ls. length ls < 2 ^ 32) (sym e) t.counted

pub is_tableau : (t : Table) (n : ℕ) (rows : List Row) (lines : List Standing) → n ≡ t.unknowns → rows ≡ t.rows → lines ≡ t.lines → IsTableau n rows lines
is_tableau t n rows lines a b c =
    subst (λ m. IsTableau m rows lines) (sym a) (subst (λ rs. IsTableau t.unknowns rs lines) (sym b) (subst (λ ls. IsTableau t.unknowns t.rows ls) (sym c) t.tableau))

pub say_written : (before after numbers : List ℕ) → before ≡ [] → AreWritten before after numbers → Say after numbers
say_written before after numbers e w =
    let all : after ≡ w.bytes = w.added ∙ ap (λ l. l ++ w.bytes) e in
    record { same = ap (numbers_from 0) (all ∙ sym (append-nil w.bytes)) ∙ w.said [] ∙ append-nil numbers; small = w.small }
