-- The flat cube of what was met, from its variables and definitions and its rows.
use Rattle.std.proofs.Common.{◌≡◌, refl, sym, ap, ◌∙◌, subst, ℕ, ◌+◌, ◌<◌, inl, inr, List, [], ◌∷◌, ◌++◌, map, length, get_or, Ok, Err}
use Rattle.std.specs.Prelude.{filter}
use Rattle.std.specs.List.{AllByRecursion, AllZip}
use Rattle.std.proofs.lemmas.List.{length-map}
use Rattle.sv_list.specs.Lists.{AllByRecursion-filter}
use Rattle.sv_linear.specs.declared.row.Row.{Row}
use Rattle.literal_forms.specs.Linear.{integer, length_of}
use Rattle.literal_forms.specs.Shapes.{Shape}
use Rattle.flat_cubes.specs.Drafted.{HoldsDraft, registers_among, unknown_at}
use Rattle.straight_line.specs.Filling.{variable_from}
use Rattle.flat_cubes.specs.Flattening.{IsFinished, IsFlatOf, IsRowFor, NoCycle, NoneTwice, all_bounded, definitions_of, firsts_of, has_column, integers_of, ordered, registers_of, variable_of}
use Rattle.straight_line.specs.Keeping.{AreQuantitiesBelow}
use Rattle.straight_line.specs.Leading.{ordinal, roots_in}
use Rattle.flat_cubes.specs.Met.{DraftView}
use Rattle.straight_line.specs.Readiness.{IsReady}
use Rattle.straight_line.specs.Rowing.{AreRows, AreRowsExactly, integers_for, registers_for}
use Rattle.flat_cubes.specs.Straight.{AreBelow, InOrder, IsRowBelow, IsStraight}
use Rattle.straight_line.specs.Tracing.{IsStraightened}
use Rattle.straight_line.specs.Wording.{IsWording, definitions_by, least_of}
use Rattle.flat_cubes.specs.declared.definition.Definition.{Definition}
use Rattle.flat_cubes.specs.declared.draft.FlatDraft.{FlatDraft as Held}
use Rattle.flat_cubes.specs.declared.draft.Quantity.{Quantity}
use Rattle.flat_cubes.specs.declared.draft.Quantity.TheVariants.{Integer, Length}
use Rattle.flat_cubes.specs.declared.fault.FlatFault.{FlatFault}
use Rattle.flat_cubes.specs.declared.fault.FlatFault.TheVariants.{Outside, Twice, Cycle, Wide, Memory}
use Rattle.flat_cubes.specs.declared.flat.Flat.{Flat}
use Rattle.straight_line.specs.declared.rowing.Rows.{Rows}
use Rattle.straight_line.specs.declared.wording.NumberedDefinitions.{NumberedDefinitions}
use Rattle.straight_line.proofs.Acyclic.{acyclic}
use Rattle.straight_line.proofs.Finished.{all_sound, definitions_met, in_order, least_are, place_count, variables_met}
use Rattle.straight_line.proofs.Linked.{ordinal_within}
use Rattle.straight_line.proofs.Traced.{at_most_once}

map_where : {X : Type 0} (P : X → Type 0) (f g : X → ℕ) → ((x : X) → P x → f x ≡ g x) → (xs : List X) → AllByRecursion P xs → map f xs ≡ map g xs
map_where P f g e [] a = refl
map_where P f g e (x ∷ xs) a = ap (λ z. z ∷ map f xs) (e x a.0) ∙ ap (λ z. g x ∷ z) (map_where P f g e xs a.1)

below_where : {X : Type 0} (P : X → Type 0) (f : X → ℕ) (n : ℕ) → ((x : X) → P x → f x < n) → (xs : List X) → AllByRecursion P xs → AreBelow n (map f xs)
below_where P f n l [] a = tt
below_where P f n l (x ∷ xs) a = (l x a.0, below_where P f n l xs a.1)

abbrev IsPlaceBelow : ℕ → Shape × ℕ → Type 0
IsPlaceBelow n r = r.1 < n

registers_below : (n : ℕ) (ts : List Shape) (qs : List Quantity) → AreQuantitiesBelow n qs → AllByRecursion (IsPlaceBelow n) (registers_among ts qs)
registers_below n ts [] a = tt
registers_below n ts (Integer name ∷ qs) a = registers_below n ts qs a.1
registers_below n ts (Length i ∷ qs) a = (a.0, registers_below n ts qs a.1)

straightened_finished : (d : DraftView) (e : FlatFault) → IsStraightened (definitions_of d) (Err e) → IsFinished d (Err e)
straightened_finished d (Outside l) s = s
straightened_finished d (Twice v) s = s
straightened_finished d (Cycle vs) s = s
straightened_finished d (Wide n) s = absurd s
straightened_finished d (Memory e) s = s

wide_finished : (of : List ℕ) (qs : List Quantity) (d : DraftView) (e : FlatFault) → NoneTwice (definitions_of d) → NoCycle (definitions_of d) → registers_for d.terms (all_bounded d) qs ≡ registers_of d → integers_for (all_bounded d) qs ≡ integers_of d → AreRowsExactly of d.terms (all_bounded d) qs (Err e) → IsFinished d (Err e)
wide_finished of qs d (Outside l) once none r i s = s
wide_finished of qs d (Twice v) once none r i s = absurd s
wide_finished of qs d (Cycle vs) once none r i s = absurd s
wide_finished of qs d (Wide n) once none r i s = (once, none, (elim s.0 [ inl e ↦ inl (e ∙ ap length r) | inr e ↦ inr (e ∙ ap length i) ], s.1))
wide_finished of qs d (Memory e) once none r i s = s

module _ (held : Held) (d : DraftView) (h : HoldsDraft held d) where
  abbrev places : ℕ
  places = length held.names

  abbrev definitions : List Definition
  definitions = definitions_by places held.equalities held.definitions

  pub words_refused : (e : FlatFault) → IsStraightened definitions (Err e) → IsFinished d (Err e)
  words_refused e s = straightened_finished d e (subst (λ ds. IsStraightened ds (Err e)) (definitions_met held d h) s)

  registers_met : registers_for d.terms (all_bounded d) held.quantities ≡ registers_of d
  registers_met = ap (filter (λ (r : Shape × ℕ). has_column (all_bounded d) (length_of r.0))) h.registers

  integers_met : integers_for (all_bounded d) held.quantities ≡ integers_of d
  integers_met = ap (filter (λ (name : List ℕ). has_column (all_bounded d) (integer name))) h.integers

  -- the rows of the comparisons, once they are borrowed
  pub rows_between : (rows : List Row) → rows ≡ held.rows → AllZip (IsRowFor (map (unknown_at d.terms) held.quantities)) (all_bounded d) rows
  rows_between rows e = subst (AllZip (IsRowFor (map (unknown_at d.terms) held.quantities)) (all_bounded d)) (sym e) h.rows

  module _ (ready : IsReady held) (w : NumberedDefinitions) (is : IsWording held.names held.parts held.definitions held.equalities w) where
    abbrev count : ℕ
    count = length w.variables

    count_is : count ≡ length (roots_in places (least_of places held.equalities))
    count_is = ap length is.variables ∙ length-map (roots_in places (least_of places held.equalities)) (variable_from held.names held.parts (least_of places held.equalities))

    whole : length (ordered definitions) ≡ length definitions
    whole = ap length (sym is.straight.0) ∙ is.straight.1

    order : InOrder count (ordered definitions)
    order = in_order count definitions whole (all_sound count (ordinal places (least_of places held.equalities)) held.definitions ready.some is.within) (λ v. at_most_once definitions v is.straight.2)

    pub rows_refused : (e : FlatFault) → AreRowsExactly w.of.items d.terms (all_bounded d) held.quantities (Err e) → IsFinished d (Err e)
    rows_refused e s = wide_finished w.of.items held.quantities d e (subst NoneTwice (definitions_met held d h) is.straight.3) (subst NoCycle (definitions_met held d h) (acyclic count definitions whole order)) registers_met integers_met s

    number_met : (i : ℕ) → i < places → get_or w.of.items i 0 ≡ variable_of d i
    number_met i l = is.numbers i l ∙ ap (λ z. ordinal places z i) (least_are held d h) ∙ ap (λ n. ordinal n (firsts_of d) i) (place_count held d h)

    number_below : (i : ℕ) → i < places → get_or w.of.items i 0 < count
    number_below i l = subst (λ z. z < count) (sym (is.numbers i l)) (subst (λ z. ordinal places (least_of places held.equalities) i < z) (sym count_is) (ordinal_within places held.equalities ready.met.equalities_in i l))

    module _ (s : Rows) (are : AreRows w.of.items d.terms (all_bounded d) held.quantities s) (numbered : AllByRecursion (IsRowBelow (length s.integers + length s.registers)) s.rows) where
      abbrev flat : Flat
      flat = record { variables = w.variables; definitions = w.definitions; rows = s.rows; registers = s.registers; integers = s.integers; truths = held.truths; broken = held.broken }

      below : AllByRecursion (IsPlaceBelow places) (registers_for d.terms (all_bounded d) held.quantities)
      below = AllByRecursion-filter (IsPlaceBelow places) (λ (r : Shape × ℕ). has_column (all_bounded d) (length_of r.0)) (registers_among d.terms held.quantities) (registers_below places d.terms held.quantities ready.quantities)

      flat_of : IsFlatOf d flat
      flat_of = record {
        variables = is.variables ∙ variables_met held d h;
        definitions = is.straight.0 ∙ ap ordered (definitions_met held d h);
        complete = is.straight.1 ∙ ap length (definitions_met held d h);
        rows = subst (λ ns. AllZip (IsRowFor (map integer ns ++ map (λ (r : Shape × ℕ). length_of r.0) (registers_of d))) (all_bounded d) s.rows) integers_met
            (subst (λ rs. AllZip (IsRowFor (map integer (integers_for (all_bounded d) held.quantities) ++ map (λ (r : Shape × ℕ). length_of r.0) rs)) (all_bounded d) s.rows) registers_met are.rows);
        registers = are.registers ∙ map_where (IsPlaceBelow places) (λ r. get_or w.of.items r.1 0) (λ r. variable_of d r.1) (λ r l. number_met r.1 l) (registers_for d.terms (all_bounded d) held.quantities) below ∙ ap (map (λ (r : Shape × ℕ). variable_of d r.1)) registers_met;
        integers = are.integers ∙ integers_met;
        truths = h.truths;
        broken = h.broken;
      }

      straight : IsStraight flat
      straight = record {
        order = subst (InOrder count) (sym is.straight.0) order;
        registers = subst (AreBelow count) (sym are.registers) (below_where (IsPlaceBelow places) (λ r. get_or w.of.items r.1 0) count (λ r l. number_below r.1 l) (registers_for d.terms (all_bounded d) held.quantities) below);
        rows = numbered;
        few_registers = are.few_registers;
        few_integers = are.few_integers;
      }

      pub flat_finished : IsFinished d (Ok flat)
      flat_finished = (flat_of, straight)
