-- No basis comes twice in a trail of due pivots: of the quantities that come and go in a round, the greatest would come in at
-- one of its bases and go out at another.
use Rattle.std.proofs.Common.{◌≡◌, ◌≢◌, ℕ, zero, suc, ◌<◌, ◌≤◌, List, length, ◌↔◌, ◌⊎◌, ⊎_elim, inl, inr, refl, sym, ◌∙◌, subst, arith}
use Rattle.std.proofs.lemmas.Bool.{cases_lt}
use Rattle.std.proofs.lemmas.Bool.Decides.{eqb_tells}
use Rattle.std.proofs.lemmas.Option.{slice_get_within}
use Rattle.sv_linear.specs.declared.row.Row.{Row}
use Rattle.lia_tableau.specs.Quantities.{bound_of}
use Rattle.lia_tableau.specs.Bases.{IsLine, IsInBasis, IsOutside, IsTableau}
use Rattle.lia_tableau.specs.Shown.{Breaks, Mends}
use Rattle.lia_tableau.specs.declared.standing.Standing.{Standing}
use Rattle.lia_tableau.specs.declared.standing.Standing.TheVariants.{Outside, Basic}
use Rattle.lia_tableau.specs.declared.table.Table.{Table}
use Rattle.lia_tableau.specs.Pivoting.{IsPivotStep}
use Rattle.lia_tableau.specs.Trails.{HaveSameBasis, Trail, stay, pivot}
use Rattle.lia_tableau.specs.LineLaws.{not_both, standing_of}
use Rattle.lia_tableau.proofs.Clashes.{no_clash}

-- a trail whose pivots exchange quantities below top alone
data Low (top : ℕ) : Table → Table → Type 0 where
  low_stay : (t : Table) → Low top t t
  low_pivot : (first next last : Table) (s : IsPivotStep first next) → s.out < top → s.at < top → Low top next last → Low top first last

joined : (top : ℕ) (a b c : Table) → Low top a b → Low top b c → Low top a c
joined top a b c (low_stay t) y = y
joined top a b c (low_pivot first next last s o i rest) y = low_pivot first next c s o i (joined top next last c rest y)

record SameSystem (a b : Table) : Type 0 where
  unknowns : b.unknowns ≡ a.unknowns
  rows : b.rows ≡ a.rows

same_system : (top : ℕ) (a b : Table) → Low top a b → SameSystem a b
same_system top a b (low_stay t) = record { unknowns = refl; rows = refl }
same_system top a b (low_pivot first next last s o i rest) =
    let r = same_system top next last rest in record { unknowns = r.unknowns ∙ s.unknowns; rows = r.rows ∙ s.rows }

-- what isn't below top stands still
still : (top : ℕ) (a b : Table) → Low top a b → (r : ℕ) → top ≤ r → IsInBasis a.lines r ↔ IsInBasis b.lines r
still top a b (low_stay t) r h = ((λ x. x), (λ x. x))
still top a b (low_pivot first next last s o i rest) r h =
    let one = s.exchange.others r (λ e. absurd (omega arith)) (λ e. absurd (omega arith)) in
    let more = still top next last rest r h in
    ((λ x. more.0 (one.1 x)), (λ x. one.0 (more.1 x)))

in_or_not : (ls : List Standing) (q : ℕ) → IsInBasis ls q ⊎ (IsInBasis ls q → ⊥)
in_or_not ls q =
    ⊎_elim
    (λ h. ⊎_elim (λ o. inr (λ b. not_both ls q b.0 b.1 o)) (λ b. inl b) (standing_of ls q h))
    (λ h. inr (λ b. let w = slice_get_within ls q (Basic b.0) b.1 in absurd (omega arith)))
    (cases_lt q (length ls))

-- a pivot of the trail by which q comes in
record Coming (q : ℕ) (a b : Table) : Type 0 where
  before : Table
  after : Table
  first : Low (suc q) a before
  step : IsPivotStep before after
  out_low : step.out < suc q
  is : step.at ≡ q
  rest : Low (suc q) after b

record Going (q : ℕ) (a b : Table) : Type 0 where
  before : Table
  after : Table
  first : Low (suc q) a before
  step : IsPivotStep before after
  at_low : step.at < suc q
  is : step.out ≡ q
  rest : Low (suc q) after b

later_coming : (q : ℕ) (a b c : Table) → Low (suc q) a b → Coming q b c → Coming q a c
later_coming q a b c l k = record { before = k.before; after = k.after; first = joined (suc q) a b k.before l k.first; step = k.step; out_low = k.out_low; is = k.is; rest = k.rest }

later_going : (q : ℕ) (a b c : Table) → Low (suc q) a b → Going q b c → Going q a c
later_going q a b c l k = record { before = k.before; after = k.after; first = joined (suc q) a b k.before l k.first; step = k.step; at_low = k.at_low; is = k.is; rest = k.rest }

earlier_coming : (q : ℕ) (a b c : Table) → Coming q a b → Low (suc q) b c → Coming q a c
earlier_coming q a b c k l = record { before = k.before; after = k.after; first = k.first; step = k.step; out_low = k.out_low; is = k.is; rest = joined (suc q) k.after b c k.rest l }

earlier_going : (q : ℕ) (a b c : Table) → Going q a b → Low (suc q) b c → Going q a c
earlier_going q a b c k l = record { before = k.before; after = k.after; first = k.first; step = k.step; at_low = k.at_low; is = k.is; rest = joined (suc q) k.after b c k.rest l }

-- what isn't in the basis at first, and is at last, comes in
comes : (q : ℕ) (a b : Table) → Low (suc q) a b → (IsInBasis a.lines q → ⊥) → IsInBasis b.lines q → Coming q a b
comes q a b (low_stay t) n y = absurd (n y)
comes q a b (low_pivot first next last s o i rest) n y =
    ⊎_elim
    (λ e. record { before = first; after = next; first = low_stay first; step = s; out_low = o; is = e.1; rest = rest })
    (λ m. later_coming q first next last (low_pivot first next next s o i (low_stay next))
    (comes q next last rest (λ w. ⊎_elim (λ e. not_both next.lines q w.0 w.1 (subst (λ j. IsOutside next.lines j) e.1 s.exchange.gone)) (λ k. n ((s.exchange.others q (λ e. k.1 (sym e)) (λ e. m.1 (sym e))).0 w)) (eqb_tells s.out q)) y))
    (eqb_tells s.at q)

-- what is in the basis at first, and isn't at last, goes out
goes : (q : ℕ) (a b : Table) → Low (suc q) a b → IsInBasis a.lines q → (IsInBasis b.lines q → ⊥) → Going q a b
goes q a b (low_stay t) y n = absurd (n y)
goes q a b (low_pivot first next last s o i rest) y n =
    ⊎_elim
    (λ e. record { before = first; after = next; first = low_stay first; step = s; at_low = i; is = e.1; rest = rest })
    (λ m. later_going q first next last (low_pivot first next next s o i (low_stay next))
    (goes q next last rest
    (⊎_elim (λ e. subst (λ j. IsInBasis next.lines j) e.1 s.exchange.come) (λ k. (s.exchange.others q (λ e. m.1 (sym e)) (λ e. k.1 (sym e))).1 y) (eqb_tells s.at q)) n))
    (eqb_tells s.out q)

-- what a pivot says of its two quantities
was_out : (a b : Table) (s : IsPivotStep a b) (q : ℕ) → s.at ≡ q → IsOutside a.lines q
was_out a b s q e = subst (λ j. IsOutside a.lines j) e s.due.outside

is_in : (a b : Table) (s : IsPivotStep a b) (q : ℕ) → s.at ≡ q → IsInBasis b.lines q
is_in a b s q e = subst (λ j. IsInBasis b.lines j) e s.exchange.come

was_in : (a b : Table) (s : IsPivotStep a b) (q : ℕ) → s.out ≡ q → IsInBasis a.lines q
was_in a b s q e = subst (λ j. IsInBasis a.lines j) e (s.due.line, s.due.is_line)

is_out : (a b : Table) (s : IsPivotStep a b) (q : ℕ) → s.out ≡ q → IsInBasis b.lines q → ⊥
is_out a b s q e w = not_both b.lines q w.0 w.1 (subst (λ j. IsOutside b.lines j) e s.exchange.gone)

module _ (q : ℕ) (a b : Table) (c : Coming q a b) (g : Going q a b) where
  from_before : SameSystem a c.before
  from_before = same_system (suc q) a c.before c.first

  from_after : SameSystem a g.before
  from_after = same_system (suc q) a g.before g.first

  unknowns : g.before.unknowns ≡ c.before.unknowns
  unknowns = from_after.unknowns ∙ sym from_before.unknowns

  rows : g.before.rows ≡ c.before.rows
  rows = from_after.rows ∙ sym from_before.rows

  breaks_so : (r : ℕ) (h : Row) → Breaks (bound_of g.before.unknowns g.before.rows r) h.form → Breaks (bound_of c.before.unknowns c.before.rows r) h.form
  breaks_so r h k = subst (λ m. Breaks (bound_of m c.before.rows r) h.form) unknowns (subst (λ rs. Breaks (bound_of g.before.unknowns rs r) h.form) rows k)

  breaks_back : (r : ℕ) (h : Row) → Breaks (bound_of c.before.unknowns c.before.rows r) h.form → Breaks (bound_of g.before.unknowns g.before.rows r) h.form
  breaks_back r h k = subst (λ m. Breaks (bound_of m g.before.rows r) h.form) (sym unknowns) (subst (λ rs. Breaks (bound_of c.before.unknowns rs r) h.form) (sym rows) k)

  no_round : ⊥
  no_round = no_clash c.before.unknowns c.before.rows c.before.lines g.before.lines c.step.out q (record {
    before_tableau = c.before.tableau;
    after_tableau = subst (λ m. IsTableau m c.before.rows g.before.lines) unknowns (subst (λ rs. IsTableau g.before.unknowns rs g.before.lines) rows g.before.tableau);
    line = c.step.due.line;
    is_line = c.step.due.is_line;
    breaks = c.step.due.breaks;
    mends = subst (λ j. Mends c.before.unknowns c.before.rows c.step.due.line.form j) c.is c.step.due.mends;
    least_in = λ r o m. subst (λ j. j ≤ r) c.is (c.step.due.least_in r o m);
    going = g.step.due.line;
    is_going = subst (λ j. IsLine g.before.lines j g.step.due.line) g.is g.step.due.is_line;
    breaks_after = breaks_so q g.step.due.line (subst (λ j. Breaks (bound_of g.before.unknowns g.before.rows j) g.step.due.line.form) g.is g.step.due.breaks);
    least_out = λ r h l k. subst (λ j. j ≤ r) g.is (g.step.due.least_out r h l (breaks_back r h k));
    at_most = λ r w o. ⊎_elim (λ h. omega arith)
        (λ h.
        let s = (still (suc q) a c.before c.first r h).0 ((still (suc q) a g.before g.first r h).1 w) in
        absurd (not_both c.before.lines r s.0 s.1 o))
        (cases_lt r (suc q));
    out_below =
        let apart : c.step.out ≢ q = λ e. not_both c.before.lines q c.step.due.line (subst (λ j. IsLine c.before.lines j c.step.due.line) e c.step.due.is_line) (was_out c.before c.after c.step q c.is) in
        let low = c.out_low in
        omega arith;
  })

-- a round in which q comes in has it go out too, and the other way round
module _ (q : ℕ) (a b : Table) (same : HaveSameBasis a.lines b.lines) where
  coming_round : Coming q a b → ⊥
  coming_round c =
      no_round q a b c
      (⊎_elim
      (λ y. earlier_going q a c.before b (goes q a c.before c.first y (λ w. not_both c.before.lines q w.0 w.1 (was_out c.before c.after c.step q c.is))) (low_pivot c.before c.after b c.step c.out_low (let e = c.is in omega arith) c.rest))
      (λ n. later_going q a c.after b (joined (suc q) a c.before c.after c.first (low_pivot c.before c.after c.after c.step c.out_low (let e = c.is in omega arith) (low_stay c.after)))
      (goes q c.after b c.rest (is_in c.before c.after c.step q c.is) (λ w. n ((same q).1 w))))
      (in_or_not a.lines q))

  going_round : Going q a b → ⊥
  going_round g =
      no_round q a b
      (⊎_elim
      (λ y. later_coming q a g.after b (joined (suc q) a g.before g.after g.first (low_pivot g.before g.after g.after g.step (let e = g.is in omega arith) g.at_low (low_stay g.after)))
      (comes q g.after b g.rest (is_out g.before g.after g.step q g.is) ((same q).0 y)))
      (λ n. earlier_coming q a g.before b (comes q a g.before g.first n (was_in g.before g.after g.step q g.is)) (low_pivot g.before g.after b g.step (let e = g.is in omega arith) g.at_low g.rest))
      (in_or_not a.lines q))
      g

-- a trail without q as its greatest is lower, else q comes in or goes out
lower : (q : ℕ) (a b : Table) → Low (suc q) a b → Low q a b ⊎ (Coming q a b ⊎ Going q a b)
lower q a b (low_stay t) = inl (low_stay t)
lower q a b (low_pivot first next last s o i rest) =
    ⊎_elim
    (λ e. inr (inl (record { before = first; after = next; first = low_stay first; step = s; out_low = o; is = e.1; rest = rest })))
    (λ m. ⊎_elim
    (λ e. inr (inr (record { before = first; after = next; first = low_stay first; step = s; at_low = i; is = e.1; rest = rest })))
    (λ k. ⊎_elim
    (λ l. inl (low_pivot first next last s (let ne = k.1 in omega arith) (let ne = m.1 in omega arith) l))
    (⊎_elim
    (λ c. inr (inl (later_coming q first next last (low_pivot first next next s o i (low_stay next)) c)))
    (λ g. inr (inr (later_going q first next last (low_pivot first next next s o i (low_stay next)) g))))
    (lower q next last rest))
    (eqb_tells s.out q))
    (eqb_tells s.at q)

turns : (top : ℕ) (a n b : Table) (s : IsPivotStep a n) → s.out < top → s.at < top → Low top n b → HaveSameBasis a.lines b.lines → ⊥
turns zero a n b s o i rest same = absurd (omega arith)
turns (suc q) a n b s o i rest same =
    ⊎_elim
    (λ e. coming_round q a b same (record { before = a; after = n; first = low_stay a; step = s; out_low = o; is = e.1; rest = rest }))
    (λ m. ⊎_elim
    (λ e. going_round q a b same (record { before = a; after = n; first = low_stay a; step = s; at_low = i; is = e.1; rest = rest }))
    (λ k. ⊎_elim
    (λ l. turns q a n b s (let ne = k.1 in omega arith) (let ne = m.1 in omega arith) l same)
    (⊎_elim
    (λ c. coming_round q a b same (later_coming q a n b (low_pivot a n n s o i (low_stay n)) c))
    (λ g. going_round q a b same (later_going q a n b (low_pivot a n n s o i (low_stay n)) g)))
    (lower q n b rest))
    (eqb_tells s.out q))
    (eqb_tells s.at q)

out_within : (a b : Table) (s : IsPivotStep a b) → s.out < length a.lines
out_within a b s = slice_get_within a.lines s.out (Basic s.due.line) s.due.is_line

at_within : (a b : Table) (s : IsPivotStep a b) → s.at < length a.lines
at_within a b s = slice_get_within a.lines s.at Outside s.due.outside

low : (top : ℕ) (a b : Table) → length a.lines ≤ top → Trail a b → Low top a b
low top a b h (stay t) = low_stay t
low top a b h (pivot first next last s rest) =
    low_pivot first next last s (let w = out_within first next s in omega arith) (let w = at_within first next s in omega arith)
    (low top next last (let e = s.exchange.size in omega arith) rest)

-- no basis comes twice in a trail
pub no_repeat : (first next last : Table) → IsPivotStep first next → Trail next last → HaveSameBasis first.lines last.lines → ⊥
no_repeat first next last s rest same =
    turns (length first.lines) first next last s (out_within first next s) (at_within first next s)
    (low (length first.lines) next last (let e = s.exchange.size in omega arith) rest) same
