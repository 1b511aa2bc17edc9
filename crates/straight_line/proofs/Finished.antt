-- From what a draft holds to the flat cube of what was met.
use Rattle.std.proofs.Common.{◌≡◌, refl, sym, ap, ◌∙◌, subst, ℕ, ◌<◌, ◌≤◌, pos, Bool, true, false, not, ◌||◌, List, [], ◌∷◌, ◌++◌, map, length, append_assoc, Some, cond}
use Rattle.std.specs.Prelude.{filter, slice_get}
use Rattle.std.specs.List.{AllByRecursion, AllZip}
use Rattle.std.specs.Ordering.{int_eq}
use Rattle.std.proofs.lemmas.List.{length-map}
use Rattle.sv_linear.specs.declared.row.Row.{Row}
use Rattle.literal_forms.specs.Linear.{Unknown, integer, length_of, multiple_of}
use Rattle.literal_forms.specs.Shapes.{Shape}
use Rattle.flat_cubes.specs.Using.{used}
use Rattle.straight_line.specs.Columns.{has_entry}
use Rattle.flat_cubes.specs.Drafted.{HoldsDraft, integers_among, registers_among, term_at, unknown_at}
use Rattle.straight_line.specs.Filling.{names_from, parts_from, variable_from}
use Rattle.flat_cubes.specs.Flattening.{Bounded, IsRowFor, coefficient_at, definitions_of, firsts_of, has_column, name_of, names_at, ordered, variable_at, variables_of, with_name}
use Rattle.straight_line.specs.Keeping.{kept, kept_all}
use Rattle.straight_line.specs.Leading.{definition_by, roots_in}
use Rattle.flat_cubes.specs.Met.{DraftView}
use Rattle.straight_line.specs.Readiness.{UsesSome}
use Rattle.flat_cubes.specs.Straight.{HaveVariablesBelow, InOrder}
use Rattle.straight_line.specs.Wording.{definitions_by, least_of}
use Rattle.flat_cubes.specs.declared.definition.By.{By}
use Rattle.flat_cubes.specs.declared.definition.By.TheVariants as by
use Rattle.flat_cubes.specs.declared.definition.Definition.{Definition}
use Rattle.flat_cubes.specs.declared.draft.FlatDraft.{FlatDraft as Held}
use Rattle.flat_cubes.specs.declared.draft.Quantity.{Quantity}
use Rattle.flat_cubes.specs.declared.draft.Quantity.TheVariants.{Integer, Length}
use Rattle.straight_line.specs.declared.keeping.KeptUnknowns.{KeptUnknowns}
use Rattle.straight_line.proofs.Taking.{IsSound, defines, taken_in_order}
use Rattle.straight_line.proofs.Traced.{passing}

-- the variables and definitions by places are those of what was met
names_are : (ts : List Shape) (fs : List ℕ) (r : ℕ) → names_from (map name_of ts) fs r ≡ names_at ts fs r
names_are [] fs r = refl
names_are (t ∷ ts) [] r = refl
names_are (t ∷ ts) (f ∷ fs) r = ap (with_name _ (name_of t)) (names_are ts fs r)

module _ (held : Held) (d : DraftView) (h : HoldsDraft held d) where
  pub place_count : length held.names ≡ length d.terms
  place_count = ap length h.names ∙ length-map d.terms name_of

  pub least_are : least_of (length held.names) held.equalities ≡ firsts_of d
  least_are = ap (λ n. least_of n held.equalities) place_count ∙ ap (least_of (length d.terms)) h.equalities

  pub definitions_met : definitions_by (length held.names) held.equalities held.definitions ≡ definitions_of d
  definitions_met =
      ap (λ n. definitions_by n held.equalities held.definitions) place_count
      ∙ ap (λ es. definitions_by (length d.terms) es held.definitions) h.equalities
      ∙ ap (definitions_by (length d.terms) d.equalities) h.definitions

  map_same : {Y : Type 0} (f g : ℕ → Y) → ((r : ℕ) → f r ≡ g r) → (rs : List ℕ) → map f rs ≡ map g rs
  map_same f g e [] = refl
  map_same f g e (r ∷ rs) = ap (λ z. z ∷ map f rs) (e r) ∙ ap (λ z. g r ∷ z) (map_same f g e rs)

  pub variables_met : map (variable_from held.names held.parts (least_of (length held.names) held.equalities)) (roots_in (length held.names) (least_of (length held.names) held.equalities)) ≡ variables_of d
  variables_met =
      ap (λ z. map (variable_from held.names held.parts z) (roots_in (length held.names) z)) least_are
      ∙ ap (λ n. map (variable_from held.names held.parts (firsts_of d)) (roots_in n (firsts_of d))) place_count
      ∙ ap (λ z. map (variable_from z held.parts (firsts_of d)) (roots_in (length d.terms) (firsts_of d))) h.names
      ∙ ap (λ z. map (variable_from (map name_of d.terms) z (firsts_of d)) (roots_in (length d.terms) (firsts_of d))) h.parts
      ∙ map_same (variable_from (map name_of d.terms) d.parts (firsts_of d)) (variable_at d) (λ r. ap (λ ns. record { names = ns; parts = parts_from d.parts (firsts_of d) r }) (names_are d.terms (firsts_of d) r)) (roots_in (length d.terms) (firsts_of d))

-- definitions that are all in order
renamed_count : (f : ℕ → ℕ) (e : ℕ × By) → UsesSome e → 0 < length (used (definition_by f e).by)
renamed_count f (i, by.Concat vs) l = subst (λ n. 0 < n) (sym (length-map vs f)) l
renamed_count f (i, by.First p u v) l = l
renamed_count f (i, by.All p u v) l = l
renamed_count f (i, by.Through t v) l = l

pub all_sound : (n : ℕ) (f : ℕ → ℕ) (es : List (ℕ × By)) → AllByRecursion UsesSome es → HaveVariablesBelow n (map (definition_by f) es) → AllByRecursion (IsSound n) (map (definition_by f) es)
all_sound n f [] s w = tt
all_sound n f (e ∷ es) s w = ((w.0, renamed_count f e s.0), all_sound n f es s.1 w.1)

pub in_order : (n : ℕ) (ds : List Definition) → length (ordered ds) ≡ length ds → AllByRecursion (IsSound n) ds → ((v : ℕ) → passing (defines v) ds ≤ 1) → InOrder n (ordered ds)
in_order n ds e a once = taken_in_order n (length ds) ds e a once

-- a quantity has a column in the rows exactly where its unknown has one in the comparisons
pub column_same : (us : List Unknown) (bs : List Bounded) (rows : List Row) (u : ℕ) (x : Unknown) → AllZip (IsRowFor us) bs rows → slice_get us u ≡ Some x → has_entry rows u ≡ has_column bs x
column_same us [] [] u x a e = refl
column_same us [] (r ∷ rows) u x a e = absurd a
column_same us (b ∷ bs) [] u x a e = absurd a
column_same us (b ∷ bs) (r ∷ rows) u x a e =
    ap (λ z. not (int_eq z (pos 0)) || has_entry rows u) (a.0.coefficients u ∙ ap (coefficient_at b.1) e)
    ∙ ap (λ z. not (int_eq (multiple_of x b.1.terms) (pos 0)) || z) (column_same us bs rows u x a.1 e)

-- what is kept are the integer constants and the registers with a column
module _ (f : ℕ → ℕ) (ts : List Shape) (bs : List Bounded) where
  abbrev pub is_kept : Quantity → Bool
  is_kept q = has_column bs (unknown_at ts q)

  cons_end : {X : Type 0} (xs : List X) (x : X) (ys : List X) (b : Bool) → (cond b (xs ++ x ∷ []) xs) ++ ys ≡ xs ++ cond b (x ∷ ys) ys
  cons_end xs x ys true = append_assoc xs (x ∷ []) ys
  cons_end xs x ys false = refl

  integers_one : (name : List ℕ) (b : Bool) (k : KeptUnknowns) → (kept f (Integer name) b k).integers ≡ cond b (k.integers ++ name ∷ []) k.integers
  integers_one name true k = refl
  integers_one name false k = refl

  integers_other : (i : ℕ) (b : Bool) (k : KeptUnknowns) → (kept f (Length i) b k).integers ≡ k.integers
  integers_other i true k = refl
  integers_other i false k = refl

  pub integers_kept : (qs : List Quantity) (k : KeptUnknowns) → (kept_all f qs (map is_kept qs) k).integers ≡ k.integers ++ filter (λ (name : List ℕ). has_column bs (integer name)) (integers_among qs)
  integers_kept [] k = append_none k.integers
    where
      append_none : {X : Type 0} (xs : List X) → xs ≡ xs ++ []
      append_none [] = refl
      append_none (x ∷ xs) = ap (λ z. x ∷ z) (append_none xs)
  integers_kept (Integer name ∷ qs) k =
      integers_kept qs (kept f (Integer name) (has_column bs (integer name)) k)
      ∙ ap (λ z. z ++ filter (λ (n : List ℕ). has_column bs (integer n)) (integers_among qs)) (integers_one name (has_column bs (integer name)) k)
      ∙ cons_end k.integers name (filter (λ (n : List ℕ). has_column bs (integer n)) (integers_among qs)) (has_column bs (integer name))
  integers_kept (Length i ∷ qs) k =
      integers_kept qs (kept f (Length i) (has_column bs (length_of (term_at ts i))) k)
      ∙ ap (λ z. z ++ filter (λ (n : List ℕ). has_column bs (integer n)) (integers_among qs)) (integers_other i (has_column bs (length_of (term_at ts i))) k)

  registers_one : (i : ℕ) (b : Bool) (k : KeptUnknowns) → (kept f (Length i) b k).registers ≡ cond b (k.registers ++ f i ∷ []) k.registers
  registers_one i true k = refl
  registers_one i false k = refl

  registers_other : (name : List ℕ) (b : Bool) (k : KeptUnknowns) → (kept f (Integer name) b k).registers ≡ k.registers
  registers_other name true k = refl
  registers_other name false k = refl

  abbrev chosen_registers : List Quantity → List ℕ
  chosen_registers qs = map (λ (r : Shape × ℕ). f r.1) (filter (λ (r : Shape × ℕ). has_column bs (length_of r.0)) (registers_among ts qs))

  map_cond : (i : ℕ) (rest : List (Shape × ℕ)) (b : Bool) → cond b (f i ∷ map (λ (r : Shape × ℕ). f r.1) rest) (map (λ (r : Shape × ℕ). f r.1) rest) ≡ map (λ (r : Shape × ℕ). f r.1) (cond b ((term_at ts i, i) ∷ rest) rest)
  map_cond i rest true = refl
  map_cond i rest false = refl

  pub registers_kept : (qs : List Quantity) (k : KeptUnknowns) → (kept_all f qs (map is_kept qs) k).registers ≡ k.registers ++ map (λ (r : Shape × ℕ). f r.1) (filter (λ (r : Shape × ℕ). has_column bs (length_of r.0)) (registers_among ts qs))
  registers_kept [] k = append_none k.registers
    where
      append_none : {X : Type 0} (xs : List X) → xs ≡ xs ++ []
      append_none [] = refl
      append_none (x ∷ xs) = ap (λ z. x ∷ z) (append_none xs)
  registers_kept (Integer name ∷ qs) k =
      registers_kept qs (kept f (Integer name) (has_column bs (integer name)) k)
      ∙ ap (λ z. z ++ chosen_registers qs) (registers_other name (has_column bs (integer name)) k)
  registers_kept (Length i ∷ qs) k =
      registers_kept qs (kept f (Length i) (has_column bs (length_of (term_at ts i))) k)
      ∙ ap (λ z. z ++ chosen_registers qs) (registers_one i (has_column bs (length_of (term_at ts i))) k)
      ∙ cons_end k.registers (f i) (chosen_registers qs) (has_column bs (length_of (term_at ts i)))
      ∙ ap (λ z. k.registers ++ z) (map_cond i (filter (λ (r : Shape × ℕ). has_column bs (length_of r.0)) (registers_among ts qs)) (has_column bs (length_of (term_at ts i))))
