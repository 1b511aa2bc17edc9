-- Every place that a draft names is one of its terms.
use Rattle.std.proofs.Common.{◌≡◌, refl, Bool, true, false, ℕ, suc, ◌+◌, ◌<◌, ◌≤◌, List, [], ◌∷◌, length, length-append, Option, Some, None, arith}
use Rattle.std.specs.Prelude.{if◌then◌else◌}
use Rattle.std.specs.List.{AllByRecursion}
use Rattle.std.specs.Option.{option_map}
use Rattle.std.proofs.lemmas.Bool.{and_parts}
use Rattle.sv_list.specs.Lists.{AllByRecursion-weaker, AllByRecursion-push}
use Rattle.sv_terms.specs.declared.op.Op.TheVariants as op
use Rattle.literal_forms.specs.Shapes.{Shape, Shapes, text, constant, apply, end, ◌⨾◌}
use Rattle.literal_forms.specs.Codes.{same}
use Rattle.literal_forms.specs.Linear.{is_string, are_strings}
use Rattle.flat_cubes.specs.Using.{used}
use Rattle.flat_cubes.specs.Met.{DraftView, Found, with_term, with_definition, place_of, known_or, literal_met, meet, meet_all}
use Rattle.flat_cubes.specs.Straight.{AreBelow}
use Rattle.flat_cubes.specs.declared.variable.Own.{Own}
use Rattle.flat_cubes.specs.declared.variable.Own.TheVariants as own
use Rattle.flat_cubes.specs.declared.definition.By.{By}
use Rattle.flat_cubes.specs.declared.definition.By.TheVariants as by

below_more : (n m : ℕ) → n ≤ m → (vs : List ℕ) → AreBelow n vs → AreBelow m vs
below_more n m h vs a = AllByRecursion-weaker (λ v. v < n) (λ v. v < m) (λ v l. omega arith) vs a

abbrev pub PartIn : ℕ → ℕ × (Own × Bool) → Type 0
PartIn n p = p.0 < n

abbrev pub DefinitionIn : ℕ → ℕ × By → Type 0
DefinitionIn n e = (e.0 < n) × AreBelow n (used e.1)

abbrev pub PairIn : ℕ → ℕ × ℕ → Type 0
PairIn n e = (e.0 < n) × (e.1 < n)

abbrev pub RegisterIn : ℕ → Shape × ℕ → Type 0
RegisterIn n r = r.1 < n

-- every place of a draft is below n
pub record AreIn (n : ℕ) (d : DraftView) : Type 0 where
  pub parts : AllByRecursion (PartIn n) d.parts
  pub definitions : AllByRecursion (DefinitionIn n) d.definitions
  pub equalities : AllByRecursion (PairIn n) d.equalities
  pub registers : AllByRecursion (RegisterIn n) d.registers

pub in_more : (n m : ℕ) (d : DraftView) → n ≤ m → AreIn n d → AreIn m d
in_more n m d h a = record {
  parts = AllByRecursion-weaker (PartIn n) (PartIn m) (λ p l. omega arith) d.parts a.parts;
  definitions = AllByRecursion-weaker (DefinitionIn n) (DefinitionIn m) (λ e l. (omega arith, below_more n m h (used e.1) l.1)) d.definitions a.definitions;
  equalities = AllByRecursion-weaker (PairIn n) (PairIn m) (λ e l. (omega arith, omega arith)) d.equalities a.equalities;
  registers = AllByRecursion-weaker (RegisterIn n) (RegisterIn m) (λ r l. omega arith) d.registers a.registers;
}

-- a term is met at a place that is there, and nothing is lost
pub record IsPlaced (d : DraftView) (r : Found) : Type 0 where
  pub grows : length d.terms ≤ length r.1.terms
  pub place : r.0 < length r.1.terms
  pub keeps : AreIn (length d.terms) d → AreIn (length r.1.terms) r.1

pub record ArePlaced (d : DraftView) (r : List ℕ × DraftView) : Type 0 where
  pub grows : length d.terms ≤ length r.1.terms
  pub places : AreBelow (length r.1.terms) r.0
  pub keeps : AreIn (length d.terms) d → AreIn (length r.1.terms) r.1

longer : (d : DraftView) (s : Shape) → length (with_term s d).terms ≡ length d.terms + 1
longer d s = length-append d.terms (s ∷ [])

-- a place that was found
found_in : (s : Shape) (ts : List Shape) (i : ℕ) → place_of s ts ≡ Some i → i < length ts
found_in s [] i e = absurd (cc)
found_in s (t ∷ ts) i e = by_test s t ts (same s t) (λ j q. found_in s ts j q) i e
  where
    later : (s : Shape) (ts : List Shape) (o : Option ℕ) → place_of s ts ≡ o → ((j : ℕ) → place_of s ts ≡ Some j → j < length ts) → (i : ℕ) → option_map suc o ≡ Some i → i < suc (length ts)
    later s ts None q f i e = absurd (cc)
    later s ts (Some j) q f i e =
        let g : suc j ≡ i = cc in
        let l = f j q in
        omega arith

    by_test : (s t : Shape) (ts : List Shape) (b : Bool) → ((j : ℕ) → place_of s ts ≡ Some j → j < length ts) → (i : ℕ) → (if b then Some 0 else option_map suc (place_of s ts)) ≡ Some i → i < suc (length ts)
    by_test s t ts true f i e = let g : 0 ≡ i = cc in omega arith
    by_test s t ts false f i e = later s ts (place_of s ts) refl f i e

known_placed : (s : Shape) (d : DraftView) (new : Found) → IsPlaced d new → (o : Option ℕ) → place_of s d.terms ≡ o → IsPlaced d (known_or o d new)
known_placed s d new p None e = p
known_placed s d new p (Some i) e = record { grows = omega arith; place = found_in s d.terms i e; keeps = λ a. a }

constant_placed : (s : Shape) (d : DraftView) → IsPlaced d (length d.terms, with_term s d)
constant_placed s d =
    let l = longer d s in
    record {
      grows = omega arith;
      place = omega arith;
      keeps = λ a. let b = in_more (length d.terms) (length (with_term s d).terms) d (omega arith) a in record { parts = b.parts; definitions = b.definitions; equalities = b.equalities; registers = b.registers };
    }

text_placed : (s : Shape) (o : Own) (d : DraftView) → IsPlaced d (literal_met s o d)
text_placed s o d =
    let l = longer d s in
    record {
      grows = omega arith;
      place = omega arith;
      keeps = λ a. let b = in_more (length d.terms) (length (with_term s d).terms) d (omega arith) a in
          record { parts = AllByRecursion-push (PartIn (length (with_term s d).terms)) d.parts (length d.terms, (o, true)) b.parts (omega arith); definitions = b.definitions; equalities = b.equalities; registers = b.registers };
    }

-- a compound term, once its arguments are met
compound_placed : (t : Shape) (d : DraftView) (b : By) (e : DraftView) → length (with_term t d).terms ≤ length e.terms → (AreIn (length (with_term t d).terms) (with_term t d) → AreIn (length e.terms) e) → AreBelow (length e.terms) (used b) → IsPlaced d (length d.terms, with_definition (length d.terms) b e)
compound_placed t d b e g k u =
    let l = longer d t in
    record {
      grows = omega arith;
      place = omega arith;
      keeps = λ a.
          let c = k ((constant_placed t d).keeps a) in
          record { parts = c.parts; definitions = AllByRecursion-push (DefinitionIn (length e.terms)) e.definitions (length d.terms, b) c.definitions (omega arith, u); equalities = c.equalities; registers = c.registers };
    }

mutual
  pub is_placed : (s : Shape) (d : DraftView) → is_string s ≡ true → IsPlaced d (meet s d)
  is_placed (text w) d e = text_placed (text w) (own.Word w) d
  is_placed (constant n s) d e = known_placed (constant n s) d _ (constant_placed (constant n s) d) (place_of (constant n s) d.terms) refl
  is_placed (apply op.Concat (s ⨾ ss)) d e =
      let t = apply op.Concat (s ⨾ ss) in
      let m = are_placed (s ⨾ ss) (with_term t d) e in
      let r = meet_all (s ⨾ ss) (with_term t d) in
      known_placed t d _ (compound_placed t d (by.Concat r.0) r.1 m.grows m.keeps m.places) (place_of t d.terms) refl
  is_placed (apply op.Replace (s ⨾ text p ⨾ text u ⨾ end)) d e =
      let t = apply op.Replace (s ⨾ text p ⨾ text u ⨾ end) in
      let m = is_placed s (with_term t d) e in
      let r = meet s (with_term t d) in
      known_placed t d _ (compound_placed t d (by.First p u r.0) r.1 m.grows m.keeps (m.place, tt)) (place_of t d.terms) refl
  is_placed (apply op.ReplaceAll (s ⨾ text p ⨾ text u ⨾ end)) d e =
      let t = apply op.ReplaceAll (s ⨾ text p ⨾ text u ⨾ end) in
      let m = is_placed s (with_term t d) e in
      let r = meet s (with_term t d) in
      known_placed t d _ (compound_placed t d (by.All p u r.0) r.1 m.grows m.keeps (m.place, tt)) (place_of t d.terms) refl
  is_placed _ d e = absurd (cc)

  are_placed : (ss : Shapes) (d : DraftView) → are_strings ss ≡ true → ArePlaced d (meet_all ss d)
  are_placed end d e = record { grows = omega arith; places = tt; keeps = λ a. a }
  are_placed (s ⨾ ss) d e =
      let q = and_parts (is_string s) (are_strings ss) e in
      let m = is_placed s d q.0 in
      let n = are_placed ss (meet s d).1 q.1 in
      let g = m.grows in
      let h = n.grows in
      let p = m.place in
      record { grows = omega arith; places = (omega arith, n.places); keeps = λ a. n.keeps (m.keeps a) }
