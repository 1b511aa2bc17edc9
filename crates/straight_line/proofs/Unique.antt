-- What was met has one flat cube at most: a form is known by its coefficients.
use Rattle.std.proofs.Common.{◌≡◌, refl, sym, ap, ◌∙◌, subst, ℕ, ◌+◌, ◌<◌, ◌≤◌, ◌⊎◌, inl, inr, ◌^◌, ℤ, pos, ◌+ℤ◌, List, [], ◌∷◌, arith}
use Rattle.std.specs.Prelude.{nat_eq, if◌then◌else◌}
use Rattle.std.specs.List.{AllZip}
use Rattle.std.proofs.lemmas.Int.{ints}
use Rattle.std.proofs.lemmas.Bool.{cases_lt}
use Rattle.sv_linear.specs.Terms.{AscendsWithin, AscendsWithin-prop, coefficient}
use Rattle.sv_linear.specs.declared.form.Form.{Form}
use Rattle.sv_linear.specs.declared.row.Row.{Row}
use Rattle.literal_forms.specs.Linear.{Unknown}
use Rattle.flat_cubes.specs.Flattening.{Bounded, IsFlatOf, IsRowFor, all_bounded, unknowns_of}
use Rattle.straight_line.specs.Laws.{FlatIsOne}
use Rattle.flat_cubes.specs.Met.{DraftView, met}
use Rattle.flat_cubes.specs.declared.flat.Flat.{Flat}
use Rattle.cube_draft.proofs.Inserted.{Terms, below, skipped, taken}
use Rattle.cube_draft.proofs.Comparisons.{nonzero}

-- that of the first unknown
at_first : (low high : ℕ) (t : ℕ × ℤ) (ts : Terms) → AscendsWithin low high (t ∷ ts) → coefficient t.0 (t ∷ ts) ≡ t.1
at_first low high t ts a = taken t (coefficient t.0 ts) (below (t.0 + 1) high t.0 ts a.1.1 (omega arith))

cancelled : (a b c : ℤ) → a +ℤ b ≡ a +ℤ c → b ≡ c
cancelled a b c e = omega (arith, ints)

abbrev Same : Terms → Terms → Type 0
Same ts us = (u : ℕ) → coefficient u ts ≡ coefficient u us

heads_one : (low high : ℕ) (t s : ℕ × ℤ) (ts us : Terms) → AscendsWithin low high (t ∷ ts) → AscendsWithin low high (s ∷ us) → Same (t ∷ ts) (s ∷ us) → (t.0 < s.0) ⊎ (s.0 ≤ t.0) → (s.0 < t.0) ⊎ (t.0 ≤ s.0) → (AscendsWithin (t.0 + 1) high ts → AscendsWithin (t.0 + 1) high us → Same ts us → ts ≡ us) → t ∷ ts ≡ s ∷ us
heads_one low high t s ts us a b e (inl l) r k = absurd (nonzero t.1 a.1.0 (sym (at_first low high t ts a) ∙ e t.0 ∙ skipped s t.0 (coefficient t.0 us) (λ q. omega arith) ∙ below (s.0 + 1) high t.0 us b.1.1 (omega arith)))
heads_one low high t s ts us a b e (inr l) (inl r) k = absurd (nonzero s.1 b.1.0 (sym (at_first low high s us b) ∙ sym (e s.0) ∙ skipped t s.0 (coefficient s.0 ts) (λ q. omega arith) ∙ below (t.0 + 1) high s.0 ts a.1.1 (omega arith)))
heads_one low high t s ts us a b e (inr l) (inr r) k =
    let p : t.0 ≡ s.0 = omega arith in
    let q : t.1 ≡ s.1 = sym (at_first low high t ts a) ∙ e t.0 ∙ ap (λ u. coefficient u (s ∷ us)) p ∙ at_first low high s us b in
    let whole : t ≡ s = λ i. (p i, q i) in
    let c : AscendsWithin (t.0 + 1) high us = subst (λ n. AscendsWithin (n + 1) high us) (sym p) b.1.1 in
    let same : Same ts us = λ u. cancelled (if nat_eq t.0 u then t.1 else pos 0) (coefficient u ts) (coefficient u us) (e u ∙ ap (λ x. (if nat_eq x.0 u then x.1 else pos 0) +ℤ coefficient u us) (sym whole)) in
    λ i. whole i ∷ k a.1.1 c same i

terms_one : (low high : ℕ) (ts us : Terms) → AscendsWithin low high ts → AscendsWithin low high us → Same ts us → ts ≡ us
terms_one low high [] [] a b e = refl
terms_one low high [] (s ∷ us) a b e = absurd (nonzero s.1 b.1.0 (sym (at_first low high s us b) ∙ sym (e s.0)))
terms_one low high (t ∷ ts) [] a b e = absurd (nonzero t.1 a.1.0 (sym (at_first low high t ts a) ∙ e t.0))
terms_one low high (t ∷ ts) (s ∷ us) a b e = heads_one low high t s ts us a b e (cases_lt t.0 s.0) (cases_lt s.0 t.0) (λ c d f. terms_one (t.0 + 1) high ts us c d f)

abbrev form : (cs : Terms) (c : ℤ) → AscendsWithin 0 (2 ^ 32) cs → Form
form cs c a = record { coefficients = cs; constant = c; ascending = a }

forms_one : (f g : Form) → f.coefficients ≡ g.coefficients → f.constant ≡ g.constant → f ≡ g
forms_one f g e q =
    subst (λ cs. (a : AscendsWithin 0 (2 ^ 32) cs) → f ≡ form cs g.constant a) e
    (λ a. ap (form f.coefficients f.constant) (AscendsWithin-prop 0 (2 ^ 32) f.coefficients f.ascending a) ∙ ap (λ c. form f.coefficients c a) q) g.ascending

rows_one : (us : List Unknown) (bs : List Bounded) (rs qs : List Row) → AllZip (IsRowFor us) bs rs → AllZip (IsRowFor us) bs qs → rs ≡ qs
rows_one us [] [] [] a b = refl
rows_one us [] (r ∷ rs) qs a b = absurd a
rows_one us [] [] (q ∷ qs) a b = absurd b
rows_one us (c ∷ bs) [] qs a b = absurd a
rows_one us (c ∷ bs) (r ∷ rs) [] a b = absurd b
rows_one us (c ∷ bs) (r ∷ rs) (q ∷ qs) a b =
    let f : r.form ≡ q.form = forms_one r.form q.form (terms_one 0 (2 ^ 32) r.form.coefficients q.form.coefficients r.form.ascending q.form.ascending (λ u. a.0.coefficients u ∙ sym (b.0.coefficients u))) (a.0.constant ∙ sym b.0.constant) in
    let k : r.kind ≡ q.kind = a.0.kind ∙ sym b.0.kind in
    let row : r ≡ q = λ i. record { form = f i; kind = k i } in
    λ i. row i ∷ rows_one us bs rs qs a.1 b.1 i

flat_same : (d : DraftView) (a b : Flat) → IsFlatOf d a → IsFlatOf d b → a ≡ b
flat_same d a b f g = λ i. record {
  variables = (f.variables ∙ sym g.variables) i;
  definitions = (f.definitions ∙ sym g.definitions) i;
  rows = rows_one (unknowns_of d) (all_bounded d) a.rows b.rows f.rows g.rows i;
  registers = (f.registers ∙ sym g.registers) i;
  integers = (f.integers ∙ sym g.integers) i;
  truths = (f.truths ∙ sym g.truths) i;
  broken = (f.broken ∙ sym g.broken) i;
}

pub flat_one : FlatIsOne
flat_one ls a b f g = flat_same (met ls) a b f.of g.of
