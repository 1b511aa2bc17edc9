-- What satisfies a flat cube satisfies each part of it, and a part may be searched as the cube may.
use Rattle.std.proofs.Common.{◌≡◌, ℕ, ℤ, ◌<◌, ◌≤◌, ◌+◌, ◌^◌, ◌||◌, Bool, true, false, cond, List, [], ◌∷◌, ◌++◌, filter, map, length, nat_eq, inl, inr, refl, sym, ap, ap₂, ◌∙◌, subst, arith}
use Rattle.std.proofs.lemmas.List.{append-nil}
use Rattle.std.specs.List.{AllByRecursion, AllZip, Contains, IsDistinct, list_any}
use Rattle.std.specs.Cmp.Lexicographic.{pointwise}
use Rattle.sv_list.specs.Lists.{AllByRecursion-filter, AllZip-length}
use Rattle.sv_linear.specs.Rows.{MeetsRow, unknowns_of}
use Rattle.sv_terms.specs.Language.{Word}
use Rattle.flat_cubes.specs.Satisfying.{MeetsPart, MeetsParts, Defines, Satisfies, lengths_of}
use Rattle.flat_cubes.specs.Straight.{AreBelow, AreNamesApart, InOrder, IsFormedBy, IsRowBelow, IsStraight, string_names}
use Rattle.flat_cubes.specs.Using.{used, is_defined}
use Rattle.flat_cubes.proofs.Members.{all_contains}
use Rattle.flat_cubes.specs.declared.definition.Definition.{Definition}
use Rattle.flat_cubes.specs.declared.flat.Flat.{Flat}
use Rattle.flat_cubes.specs.declared.variable.Variable.{Variable}
use Rattle.cube_search.specs.Causes.{EachSolution}
use Rattle.cube_search.specs.Conflicts.{is_named}
use Rattle.cube_search.specs.Parts.{IsBareOf, IsPart, IsPartCube}

-- what holds of all holds of those that are among them
among : {X : Type 0} (P : X → Type 0) (xs ys : List X) → AllByRecursion P xs → AllByRecursion (Contains xs) ys → AllByRecursion P ys
among {X} P xs [] h k = tt
among {X} P xs (y ∷ ys) h k = (all_contains P xs y k.0 h, among P xs ys h k.1)

-- a weaker fact of all
weaker : {X : Type 0} (P Q : X → Type 0) → ((x : X) → P x → Q x) → (xs : List X) → AllByRecursion P xs → AllByRecursion Q xs
weaker {X} P Q w [] h = tt
weaker {X} P Q w (x ∷ xs) h = (w x h.0, weaker P Q w xs h.1)

-- a word that meets the parts of a variable meets those of a bare one
bare-met : (v bare : Variable) (w : Word) → IsBareOf v bare → MeetsParts v w → MeetsParts bare w
bare-met v bare w is h = elim is.parts [
  | inl none ↦ (h.0, subst (AllByRecursion (MeetsPart w)) (sym none) tt)
  | inr same ↦ (h.0, subst (AllByRecursion (MeetsPart w)) (sym same) h.1)
]

bares-met : (vs bares : List Variable) (ws : List Word) → AllZip IsBareOf vs bares → AllZip MeetsParts vs ws → AllZip MeetsParts bares ws
bares-met [] [] ws is h = h
bares-met [] (b ∷ bares) ws is h = absurd is
bares-met (v ∷ vs) [] ws is h = absurd is
bares-met (v ∷ vs) (b ∷ bares) [] is h = absurd h
bares-met (v ∷ vs) (b ∷ bares) (w ∷ ws) is h = (bare-met v b w is.0 h.0, bares-met vs bares ws is.1 h.1)

-- what satisfies a cube satisfies each part of it
pub part-satisfied : (flat part : Flat) (marks : List Bool) (ws : List Word) (ints : List ℤ) → IsPart flat marks part → Satisfies flat ws ints → Satisfies part ws ints
part-satisfied flat part marks ws ints is s = record {
  strings = record {
    parts = bares-met flat.variables part.variables ws is.variables s.strings.parts;
    definitions = subst (AllByRecursion (Defines ws)) (sym is.definitions) (AllByRecursion-filter (Defines ws) (λ (d : Definition). is_named marks d.variable) flat.definitions s.strings.definitions);
  };
  rows = record {
    count = s.rows.count ∙ ap length (sym is.integers);
    rows = elim is.registers [
      | inl same ↦ subst (λ rs. AllByRecursion (MeetsRow (unknowns_of ints (lengths_of rs ws))) part.rows) (sym same)
          (among (MeetsRow (unknowns_of ints (lengths_of flat.registers ws))) flat.rows part.rows s.rows.rows is.rows)
      | inr none ↦ subst (AllByRecursion (MeetsRow (unknowns_of ints (lengths_of part.registers ws)))) (sym none.1) tt
    ];
  };
  whole = is.broken ∙ s.whole;
}

pub part-refutes : (flat part : Flat) (marks : List Bool) → IsPart flat marks part → EachSolution part (λ ws ints. ⊥) → EachSolution flat (λ ws ints. ⊥)
part-refutes flat part marks is none = λ ws ints s. none ws ints (part-satisfied flat part marks ws ints is s)

-- what none of a list is, none of some of it is
or-false : (a b : Bool) → (a || b) ≡ false → (a ≡ false) × (b ≡ false)
or-false true b e = cc
or-false false b e = (refl, e)

none-filter : {X : Type 0} (f g : X → Bool) (xs : List X) → list_any f xs ≡ false → list_any f (filter g xs) ≡ false
none-filter {X} f g [] e = e
none-filter {X} f g (x ∷ xs) e = let r = or-false (f x) (list_any f xs) e in pick (g x) x (filter g xs) r.0 (none-filter f g xs r.1)
  where
    pick : (b : Bool) (x : X) (ys : List X) → f x ≡ false → list_any f ys ≡ false → list_any f (cond b (x ∷ ys) ys) ≡ false
    pick true x ys p q = ap₂ (λ i j. i || j) p q
    pick false x ys p q = q

-- definitions that are left out leave the others in order
order-filter : (n : ℕ) (g : Definition → Bool) (ds : List Definition) → InOrder n ds → InOrder n (filter g ds)
order-filter n g [] h = tt
order-filter n g (d ∷ ds) h = pick (g d) (filter g ds) (λ v e. none-filter (λ (c : Definition). nat_eq c.variable v) g ds e) (order-filter n g ds h.1)
  where
    pick : (b : Bool) (es : List Definition) → ((v : ℕ) → is_defined ds v ≡ false → is_defined es v ≡ false) → InOrder n es → InOrder n (cond b (d ∷ es) es)
    pick true es less rest = (
      record {
        defined = h.0.defined;
        once = less d.variable h.0.once;
        some = h.0.some;
        uses = h.0.uses;
        apart = weaker (λ v. is_defined (d ∷ ds) v ≡ false) (λ v. is_defined (d ∷ es) v ≡ false)
            (λ v e. (let r = or-false (nat_eq d.variable v) (is_defined ds v) e in ap₂ (λ i j. i || j) r.0 (less v r.1))) (used d.by) h.0.apart;
      },
      rest,
    )
    pick false es less rest = rest

-- bare variables have no names
no-names : (vs bares : List Variable) → AllZip IsBareOf vs bares → string_names bares ≡ []
no-names [] [] is = refl
no-names [] (b ∷ bares) is = absurd is
no-names (v ∷ vs) [] is = absurd is
no-names (v ∷ vs) (b ∷ bares) is = ap₂ (λ xs ys. xs ++ ys) is.0.names (no-names vs bares is.1)

first-of-all : {X : Type 0} (P : X → Type 0) (xs ys : List X) → AllByRecursion P (xs ++ ys) → AllByRecursion P xs
first-of-all {X} P [] ys h = tt
first-of-all {X} P (x ∷ xs) ys h = (h.0, first-of-all P xs ys h.1)

distinct-rest : {K : Type 0} (eq : K → K → Bool) (xs ys : List K) → IsDistinct eq (xs ++ ys) → IsDistinct eq ys
unfolding IsDistinct
distinct-rest {K} eq [] ys h = h
distinct-rest {K} eq (x ∷ xs) ys h = distinct-rest eq xs ys h.1

distinct-first : {K : Type 0} (eq : K → K → Bool) (xs ys : List K) → IsDistinct eq (xs ++ ys) → IsDistinct eq xs
unfolding IsDistinct
distinct-first {K} eq [] ys h = tt
distinct-first {K} eq (x ∷ xs) ys h = (first-of-all (λ k. eq x k ≡ false) xs ys h.0, distinct-first eq xs ys h.1)

-- the names of the integer constants are distinct
pub part-apart : (flat part : Flat) (marks : List Bool) → IsPart flat marks part → AreNamesApart flat → AreNamesApart part
part-apart flat part marks is h =
    let same = pointwise nat_eq in
    let names = map (λ (t : List ℕ × Bool). t.0) flat.truths in
    let own : IsDistinct same flat.integers = distinct-rest same (string_names flat.variables) flat.integers (distinct-first same (string_names flat.variables ++ flat.integers) names h) in
    let e : flat.integers ≡ string_names part.variables ++ part.integers ++ map (λ (t : List ℕ × Bool). t.0) part.truths =
    sym (append-nil flat.integers)
    ∙ ap₂ (λ (xs ys : List (List ℕ)). xs ++ ys) (ap₂ (λ (xs ys : List (List ℕ)). xs ++ ys) (sym (no-names flat.variables part.variables is.variables)) (sym is.integers)) (ap (map (λ (t : List ℕ × Bool). t.0)) (sym is.truths)) in
    subst (IsDistinct same) e own

-- a part of a straight cube is one
pub part-straight : (flat part : Flat) (marks : List Bool) → IsPart flat marks part → IsStraight flat → IsStraight part
part-straight flat part marks is s =
    let chosen = λ (d : Definition). is_named marks d.variable in
    let n : length flat.variables ≡ length part.variables = AllZip-length IsBareOf flat.variables part.variables is.variables in
    let order : InOrder (length flat.variables) part.definitions = subst (InOrder (length flat.variables)) (sym is.definitions) (order-filter (length flat.variables) chosen flat.definitions s.order) in
    record {
      order = subst (λ k. InOrder k part.definitions) n order;
      registers = subst (λ k. AreBelow k part.registers) n (elim is.registers [
        | inl same ↦ subst (AreBelow (length flat.variables)) (sym same) s.registers
        | inr none ↦ subst (AreBelow (length flat.variables)) (sym none.0) tt
      ]);
      rows = elim is.registers [
        | inl same ↦ subst (λ k. AllByRecursion (IsRowBelow k) part.rows) (ap₂ (λ a b. a + b) (ap length (sym is.integers)) (ap length (sym same)))
            (among (IsRowBelow (length flat.integers + length flat.registers)) flat.rows part.rows s.rows is.rows)
        | inr none ↦ subst (AllByRecursion (IsRowBelow (length part.integers + length part.registers))) (sym none.1) tt
      ];
      few_registers = elim is.registers [
        | inl same ↦ subst (λ rs. length rs ≤ 64) (sym same) s.few_registers
        | inr none ↦ subst (λ rs. length rs ≤ 64) (sym none.0) (omega arith)
      ];
      few_integers = subst (λ ns. length ns ≤ 64) (sym is.integers) s.few_integers;
    }

pub part-cube : (flat part : Flat) (marks : List Bool) → IsPart flat marks part → IsPartCube flat → IsPartCube part
part-cube flat part marks is c = record {
  straight = part-straight flat part marks is c.straight;
  formed = subst (AllByRecursion (λ (d : Definition). IsFormedBy d.by)) (sym is.definitions)
      (AllByRecursion-filter (λ (d : Definition). IsFormedBy d.by) (λ (d : Definition). is_named marks d.variable) flat.definitions c.formed);
  apart = part-apart flat part marks is c.apart;
  few = subst (λ n. n < 2 ^ 32) (AllZip-length IsBareOf flat.variables part.variables is.variables) c.few;
  whole = is.broken ∙ c.whole;
}
