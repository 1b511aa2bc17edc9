-- What is gathered is what was met: each step of a meeting keeps that.
use Rattle.std.proofs.Common.{◌≡◌, refl, sym, ap, ◌∙◌, subst, Bool, true, false, ◌||◌, ℕ, zero, suc, ◌<◌, ℤ, pos, List, [], ◌∷◌, ◌++◌, map, length, get_or, slice_get, Option, Some, None, nat_eq, length-append, arith, inl, inr}
use Rattle.std.specs.Prelude.{if◌then◌else◌, not}
use Rattle.std.specs.List.{AllZip, AllByRecursion, list_any}
use Rattle.std.specs.Map.{lookup}
use Rattle.std.specs.Option.{option_map}
use Rattle.std.specs.Ordering.{int_eq}
use Rattle.std.specs.Cmp.Lexicographic.{pointwise}
use Rattle.std.proofs.lemmas.List.{map_push}
use Rattle.sv_list.specs.Lists.{AllByRecursion-push, AllZip-push, slice_get-push_cases, slice_get-none}
use Rattle.sv_linear.specs.Rows.{HasSymmetricEntries}
use Rattle.sv_linear.specs.Terms.{coefficient}
use Rattle.sv_linear.specs.declared.row.Row.{Row}
use Rattle.literal_forms.specs.Alike.{code_self}
use Rattle.literal_forms.specs.CodeLaws.{flat_same, same_list}
use Rattle.literal_forms.specs.Codes.{code, same}
use Rattle.literal_forms.specs.Flats.{flat}
use Rattle.literal_forms.specs.Linear.{Unknown, integer, length_of, same_unknown, unknown_code}
use Rattle.literal_forms.specs.Shapes.{Shape, truth, number, text, constant, apply, member, related, opaque}
use Rattle.flat_cubes.specs.Drafted.{HoldsDraft, integers_among, registers_among, term_at, unknown_at}
use Rattle.flat_cubes.specs.Flattening.{Bounded, IsRowFor, bounded_of, coefficient_at, name_of}
use Rattle.cube_draft.specs.Gathered.{Becomes, Gathers, IsInside, IsRowAmong, coefficient_where, index_of, number_at, unknowns_at}
use Rattle.cube_draft.specs.Strings.{is_text}
use Rattle.flat_cubes.specs.Met.{Comparison, DraftView, place_of, with_comparison, with_definition, with_equality, with_part, with_term, with_truth, with_value}
use Rattle.sv_terms.specs.Meaning.{same_truth}
use Rattle.flat_cubes.specs.declared.definition.By.{By}
use Rattle.flat_cubes.specs.declared.variable.Own.{Own}
use Rattle.flat_cubes.specs.declared.draft.Quantity.{Quantity}
use Rattle.flat_cubes.specs.declared.draft.Quantity.TheVariants.{Integer, Length}
use Rattle.cube_draft.specs.declared.meeting.DraftBuilder.{DraftBuilder}

-- the first, and where there is none the second
abbrev pub or_else : {X : Type 0} → Option X → Option X → Option X
or_else None b = b
or_else (Some x) b = Some x

or_if : {X : Type 0} (c : Bool) (x : X) (a b : Option X) → (if c then Some x else or_else a b) ≡ or_else (if c then Some x else a) b
or_if true x a b = refl
or_if false x a b = refl

or_map : (a b : Option ℕ) → option_map suc (or_else a b) ≡ or_else (option_map suc a) (option_map suc b)
or_map None b = refl
or_map (Some x) b = refl

map_if : (c : Bool) (n : ℕ) → option_map suc (if c then Some n else None) ≡ (if c then Some (suc n) else None)
map_if true n = refl
map_if false n = refl

-- something new at the end
pub number_push : (c k : List ℤ) (n : ℕ) (ns : List (List ℤ × ℕ)) → number_at c (ns ++ (k, n) ∷ []) ≡ or_else (number_at c ns) (if same_list c k then Some n else None)
number_push c k n [] = refl
number_push c k n (e ∷ ns) = ap (λ o. if pointwise int_eq c e.0 then Some e.1 else o) (number_push c k n ns) ∙ or_if (pointwise int_eq c e.0) e.1 (number_at c ns) (if same_list c k then Some n else None)

pub place_push : (s t : Shape) (ts : List Shape) → place_of s (ts ++ t ∷ []) ≡ or_else (place_of s ts) (if same s t then Some (length ts) else None)
place_push s t [] = refl
place_push s t (u ∷ ts) =
    ap (λ o. if same s u then Some 0 else option_map suc o) (place_push s t ts)
    ∙ ap (λ o. if same s u then Some 0 else o) (or_map (place_of s ts) (if same s t then Some (length ts) else None) ∙ ap (or_else (option_map suc (place_of s ts))) (map_if (same s t) (length ts)))
    ∙ or_if (same s u) 0 (option_map suc (place_of s ts)) (if same s t then Some (suc (length ts)) else None)

pub index_push : (u v : Unknown) (us : List Unknown) → index_of u (us ++ v ∷ []) ≡ or_else (index_of u us) (if same_unknown u v then Some (length us) else None)
index_push u v [] = refl
index_push u v (w ∷ us) =
    ap (λ o. if same_unknown u w then Some 0 else option_map suc o) (index_push u v us)
    ∙ ap (λ o. if same_unknown u w then Some 0 else o) (or_map (index_of u us) (if same_unknown u v then Some (length us) else None) ∙ ap (or_else (option_map suc (index_of u us))) (map_if (same_unknown u v) (length us)))
    ∙ or_if (same_unknown u w) 0 (option_map suc (index_of u us)) (if same_unknown u v then Some (suc (length us)) else None)

-- a literal is none of the terms that are looked for
text_none : (s : Shape) (w : List ℕ) → is_text s ≡ false → same s (text w) ≡ false
text_none (truth b) w e = refl
text_none (number n) w e = refl
text_none (text v) w e = absurd (cc)
text_none (constant n s) w e = refl
text_none (apply o ss) w e = refl
text_none (member s r) w e = refl
text_none (related t s u) w e = refl
text_none (opaque s) w e = refl

pub map_length : {X Y : Type 0} (f : X → Y) (xs : List X) → length (map f xs) ≡ length xs
map_length f [] = refl
map_length f (x ∷ xs) = ap suc (map_length f xs)

zip_weaker : {X Y : Type 0} (R S : X → Y → Type 0) → ((x : X) (y : Y) → R x y → S x y) → (xs : List X) (ys : List Y) → AllZip R xs ys → AllZip S xs ys
zip_weaker R S f [] [] a = tt
zip_weaker R S f [] (y ∷ ys) a = absurd a
zip_weaker R S f (x ∷ xs) [] a = absurd a
zip_weaker R S f (x ∷ xs) (y ∷ ys) a = (f x y a.0, zip_weaker R S f xs ys a.1)

-- one more term leaves the quantities as they are
get_more : (ts : List Shape) (t d : Shape) (i : ℕ) → i < length ts → get_or (ts ++ t ∷ []) i d ≡ get_or ts i d
get_more [] t d i h = absurd (omega arith)
get_more (u ∷ ts) t d zero h = refl
get_more (u ∷ ts) t d (suc i) h = get_more ts t d i (omega arith)

module _ (ts : List Shape) (t : Shape) where
  abbrev more : List Shape
  more = ts ++ t ∷ []

  unknown_more : (q : Quantity) → IsInside (length ts) q → unknown_at more q ≡ unknown_at ts q
  unknown_more (Integer n) h = refl
  unknown_more (Length i) h = ap length_of (get_more ts t (text []) i h)

  unknowns_more : (qs : List Quantity) → AllByRecursion (IsInside (length ts)) qs → unknowns_at more qs ≡ unknowns_at ts qs
  unknowns_more [] a = refl
  unknowns_more (q ∷ qs) a = λ i. unknown_more q a.0 i ∷ unknowns_more qs a.1 i

  registers_more : (qs : List Quantity) → AllByRecursion (IsInside (length ts)) qs → registers_among more qs ≡ registers_among ts qs
  registers_more [] a = refl
  registers_more (Integer n ∷ qs) a = registers_more qs a.1
  registers_more (Length j ∷ qs) a = λ i. (get_more ts t (text []) j a.0 i, j) ∷ registers_more qs a.1 i

  inside_one : (q : Quantity) → IsInside (length ts) q → IsInside (length more) q
  inside_one (Integer n) h = tt
  inside_one (Length i) h = omega (arith, length-append ts (t ∷ []))

  inside_more : (qs : List Quantity) → AllByRecursion (IsInside (length ts)) qs → AllByRecursion (IsInside (length more)) qs
  inside_more [] a = tt
  inside_more (q ∷ qs) a = (inside_one q a.0, inside_more qs a.1)

-- a term at a new place, and what finds it from now on
abbrev pub FindsAll : List (List ℤ × ℕ) → List Shape → Type 0
FindsAll ns ts = (s : Shape) → is_text s ≡ false → number_at (flat (code s)) ns ≡ place_of s ts

pub gathers_term : (m : DraftBuilder) (d : DraftView) (t : Shape) (ns : List (List ℤ × ℕ)) → Gathers m d → FindsAll ns (d.terms ++ t ∷ [])
    → Gathers (record m { names = m.names ++ name_of t ∷ []; places = ns }) (with_term t d)
gathers_term m d t ns g f =
    let same_unknowns = unknowns_more d.terms t m.quantities g.inside in
    record {
      names = ap (λ l. l ++ name_of t ∷ []) g.names ∙ sym (map_push name_of d.terms t);
      places = f;
      parts = g.parts;
      definitions = g.definitions;
      equalities = g.equalities;
      integers = g.integers;
      registers = registers_more d.terms t m.quantities g.inside ∙ g.registers;
      inside = inside_more d.terms t m.quantities g.inside;
      numbers = λ u. g.numbers u ∙ ap (index_of u) (sym same_unknowns);
      apart = λ k u e. ap (index_of u) same_unknowns ∙ g.apart k u (ap (λ us. slice_get us k) (sym same_unknowns) ∙ e);
      rows = subst (λ us. AllZip (IsRowAmong us) (map bounded_of d.comparisons) m.rows) (sym same_unknowns) g.rows;
      symmetric = g.symmetric;
      truths = g.truths;
      broken = g.broken;
    }

-- of a literal the map knows nothing
pub finds_text : (ns : List (List ℤ × ℕ)) (ts : List Shape) (w : List ℕ) → FindsAll ns ts → FindsAll ns (ts ++ text w ∷ [])
finds_text ns ts w f s e = f s e ∙ sym (place_push s (text w) ts ∙ ap (λ b. or_else (place_of s ts) (if b then Some (length ts) else None)) (text_none s w e) ∙ or_none (place_of s ts))
  where
    or_none : (o : Option ℕ) → or_else o None ≡ o
    or_none None = refl
    or_none (Some x) = refl

pub finds_new : (ns : List (List ℤ × ℕ)) (ts : List Shape) (t : Shape) → FindsAll ns ts → FindsAll (ns ++ (flat (code t), length ts) ∷ []) (ts ++ t ∷ [])
finds_new ns ts t f s e =
    number_push (flat (code s)) (flat (code t)) (length ts) ns ∙ (λ i. or_else (f s e i) (if flat_same (code s) (code t) i then Some (length ts) else None)) ∙ sym (place_push s t ts)

-- what is said, defined and equated
pub gathers_part : (m : DraftBuilder) (d : DraftView) (i : ℕ) (p : Own × Bool) → Gathers m d → Gathers (record m { parts = m.parts ++ (i, p) ∷ [] }) (with_part i p d)
gathers_part m d i p g = record { names = g.names; places = g.places; parts = ap (λ l. l ++ (i, p) ∷ []) g.parts; definitions = g.definitions; equalities = g.equalities; integers = g.integers; registers = g.registers; inside = g.inside; numbers = g.numbers; apart = g.apart; rows = g.rows; symmetric = g.symmetric; truths = g.truths; broken = g.broken }

pub gathers_definition : (m : DraftBuilder) (d : DraftView) (i : ℕ) (b : By) → Gathers m d → Gathers (record m { definitions = m.definitions ++ (i, b) ∷ [] }) (with_definition i b d)
gathers_definition m d i b g = record { names = g.names; places = g.places; parts = g.parts; definitions = ap (λ l. l ++ (i, b) ∷ []) g.definitions; equalities = g.equalities; integers = g.integers; registers = g.registers; inside = g.inside; numbers = g.numbers; apart = g.apart; rows = g.rows; symmetric = g.symmetric; truths = g.truths; broken = g.broken }

pub gathers_equality : (m : DraftBuilder) (d : DraftView) (i j : ℕ) → Gathers m d → Gathers (record m { equalities = m.equalities ++ (i, j) ∷ [] }) (with_equality i j d)
gathers_equality m d i j g = record { names = g.names; places = g.places; parts = g.parts; definitions = g.definitions; equalities = ap (λ l. l ++ (i, j) ∷ []) g.equalities; integers = g.integers; registers = g.registers; inside = g.inside; numbers = g.numbers; apart = g.apart; rows = g.rows; symmetric = g.symmetric; truths = g.truths; broken = g.broken }

pub gathers_broken : (m : DraftBuilder) (d : DraftView) (b : Bool) → Gathers m d → Gathers (record m { broken = m.broken || b }) (record d { broken = d.broken || b })
gathers_broken m d b g = record { names = g.names; places = g.places; parts = g.parts; definitions = g.definitions; equalities = g.equalities; integers = g.integers; registers = g.registers; inside = g.inside; numbers = g.numbers; apart = g.apart; rows = g.rows; symmetric = g.symmetric; truths = g.truths; broken = ap (λ c. c || b) g.broken }

gathers_truth : (m : DraftBuilder) (d : DraftView) (t : List ℕ × Bool) → Gathers m d → Gathers (record m { truths = m.truths ++ t ∷ [] }) (record d { truths = d.truths ++ t ∷ [] })
gathers_truth m d t g = record { names = g.names; places = g.places; parts = g.parts; definitions = g.definitions; equalities = g.equalities; integers = g.integers; registers = g.registers; inside = g.inside; numbers = g.numbers; apart = g.apart; rows = g.rows; symmetric = g.symmetric; truths = ap (λ ts. ts ++ t ∷ []) g.truths; broken = g.broken }

-- a Bool constant that had no value, and one that had
module _ (m n : DraftBuilder) (name : List ℕ) (b : Bool) where
  pub truth_new : None ≡ lookup (pointwise nat_eq name) m.truths → n ≡ record m { truths = m.truths ++ (name, b) ∷ [] } → Becomes m n (with_truth name b)
  truth_new e f = record {
    each = λ d g.
        subst (λ (o : Option Bool). Gathers n (with_value o name b d)) (e ∙ ap (lookup (pointwise nat_eq name)) g.truths)
        (subst (λ x. Gathers x (record d { truths = d.truths ++ (name, b) ∷ [] })) (sym f) (gathers_truth m d (name, b) g));
  }

  pub truth_known : (c : Bool) → Some c ≡ lookup (pointwise nat_eq name) m.truths → n ≡ record m { broken = m.broken || not (same_truth b c) } → Becomes m n (with_truth name b)
  truth_known c e f = record {
    each = λ d g.
        subst (λ (o : Option Bool). Gathers n (with_value o name b d)) (e ∙ ap (lookup (pointwise nat_eq name)) g.truths)
        (subst (λ x. Gathers x (record d { broken = d.broken || not (same_truth b c) })) (sym f) (gathers_broken m d (not (same_truth b c)) g));
  }

pub gathers_row : (m : DraftBuilder) (d : DraftView) (c : Comparison) (r : Row) → Gathers m d → IsRowAmong (unknowns_at d.terms m.quantities) (bounded_of c) r → HasSymmetricEntries r.form
    → Gathers (record m { rows = m.rows ++ r ∷ [] }) (with_comparison c d)
gathers_row m d c r g h k = record {
  names = g.names;
  places = g.places;
  parts = g.parts;
  definitions = g.definitions;
  equalities = g.equalities;
  integers = g.integers;
  registers = g.registers;
  inside = g.inside;
  numbers = g.numbers;
  apart = g.apart;
  rows = subst (λ bs. AllZip (IsRowAmong (unknowns_at d.terms m.quantities)) bs (m.rows ++ r ∷ [])) (sym (map_push bounded_of d.comparisons c)) (AllZip-push (IsRowAmong (unknowns_at d.terms m.quantities)) (map bounded_of d.comparisons) m.rows (bounded_of c) r g.rows h);
  symmetric = AllByRecursion-push (λ (x : Row). HasSymmetricEntries x.form) m.rows r g.symmetric k;
  truths = g.truths;
  broken = g.broken;
}

-- a quantity that didn't come before
pub integers_push : (qs : List Quantity) (n : List ℕ) → integers_among (qs ++ Integer n ∷ []) ≡ integers_among qs ++ n ∷ []
integers_push [] n = refl
integers_push (Integer m ∷ qs) n = ap (λ l. m ∷ l) (integers_push qs n)
integers_push (Length i ∷ qs) n = integers_push qs n

pub integers_kept : (qs : List Quantity) (i : ℕ) → integers_among (qs ++ Length i ∷ []) ≡ integers_among qs
integers_kept [] i = refl
integers_kept (Integer m ∷ qs) i = ap (λ l. m ∷ l) (integers_kept qs i)
integers_kept (Length j ∷ qs) i = integers_kept qs i

pub registers_push : (ts : List Shape) (qs : List Quantity) (i : ℕ) → registers_among ts (qs ++ Length i ∷ []) ≡ registers_among ts qs ++ (term_at ts i, i) ∷ []
registers_push ts [] i = refl
registers_push ts (Integer m ∷ qs) i = registers_push ts qs i
registers_push ts (Length j ∷ qs) i = ap (λ l. (term_at ts j, j) ∷ l) (registers_push ts qs i)

pub registers_kept : (ts : List Shape) (qs : List Quantity) (n : List ℕ) → registers_among ts (qs ++ Integer n ∷ []) ≡ registers_among ts qs
registers_kept ts [] n = refl
registers_kept ts (Integer m ∷ qs) n = registers_kept ts qs n
registers_kept ts (Length j ∷ qs) n = ap (λ l. (term_at ts j, j) ∷ l) (registers_kept ts qs n)

-- whether one is counted is told by its number
abbrev pub is_there : {X : Type 0} → Option X → Bool
is_there None = false
is_there (Some x) = true

there_if : (c : Bool) (o : Option ℕ) → is_there (if c then Some 0 else option_map suc o) ≡ (c || is_there o)
there_if true o = refl
there_if false None = refl
there_if false (Some k) = refl

pub integer_there : (n : List ℕ) (ts : List Shape) (qs : List Quantity) → is_there (index_of (integer n) (unknowns_at ts qs)) ≡ list_any (pointwise nat_eq n) (integers_among qs)
integer_there n ts [] = refl
integer_there n ts (Integer m ∷ qs) = there_if (pointwise nat_eq n m) (index_of (integer n) (unknowns_at ts qs)) ∙ ap (λ b. pointwise nat_eq n m || b) (integer_there n ts qs)
integer_there n ts (Length i ∷ qs) = there_if false (index_of (integer n) (unknowns_at ts qs)) ∙ integer_there n ts qs

pub length_there : (s : Shape) (ts : List Shape) (qs : List Quantity) → is_there (index_of (length_of s) (unknowns_at ts qs)) ≡ list_any (λ (r : Shape × ℕ). same s r.0) (registers_among ts qs)
length_there s ts [] = refl
length_there s ts (Integer m ∷ qs) = there_if false (index_of (length_of s) (unknowns_at ts qs)) ∙ length_there s ts qs
length_there s ts (Length i ∷ qs) = there_if (same s (term_at ts i)) (index_of (length_of s) (unknowns_at ts qs)) ∙ ap (λ b. same s (term_at ts i) || b) (length_there s ts qs)

where_same : (c : Bool) (n : ℕ) (ts : List (ℕ × ℤ)) → coefficient n ts ≡ pos 0 → coefficient_where (if c then Some n else None) ts ≡ pos 0
where_same true n ts e = e
where_same false n ts e = refl

where_push : (o : Option ℕ) (c : Bool) (n : ℕ) (ts : List (ℕ × ℤ)) → coefficient n ts ≡ pos 0 → coefficient_where (or_else o (if c then Some n else None)) ts ≡ coefficient_where o ts
where_push None c n ts e = where_same c n ts e
where_push (Some k) c n ts e = refl

among_push : (us : List Unknown) (u : Unknown) (b : Bounded) (r : Row) → IsRowAmong us b r → IsRowAmong (us ++ u ∷ []) b r
among_push us u b r a = record {
  kind = a.kind;
  constant = a.constant;
  coefficients = λ v. a.coefficients v ∙ sym (ap (λ o. coefficient_where o r.form.coefficients) (index_push v u us) ∙ where_push (index_of v us) (same_unknown v u) (length us) r.form.coefficients (a.beyond (length us) (omega arith)));
  beyond = λ k h. a.beyond k (omega (arith, length-append us (u ∷ [])));
}

unknown_self : (u : Unknown) → same_unknown u u ≡ true
unknown_self u = code_self (unknown_code u)

module _ (m : DraftBuilder) (d : DraftView) (q : Quantity) (g : Gathers m d) (none : number_at (flat (unknown_code (unknown_at d.terms q))) m.numbers ≡ None) (inside : IsInside (length d.terms) q) where
  abbrev us : List Unknown
  us = unknowns_at d.terms m.quantities

  abbrev u : Unknown
  u = unknown_at d.terms q

  many : length us ≡ length m.quantities
  many = map_length (unknown_at d.terms) m.quantities

  pushed_unknowns : unknowns_at d.terms (m.quantities ++ q ∷ []) ≡ us ++ u ∷ []
  pushed_unknowns = map_push (unknown_at d.terms) m.quantities q

  not_there : index_of u us ≡ None
  not_there = sym (g.numbers u) ∙ none

  numbers_pushed : (v : Unknown) → number_at (flat (unknown_code v)) (m.numbers ++ (flat (unknown_code u), length m.quantities) ∷ []) ≡ index_of v (us ++ u ∷ [])
  numbers_pushed v =
      number_push (flat (unknown_code v)) (flat (unknown_code u)) (length m.quantities) m.numbers
      ∙ (λ i. or_else (g.numbers v i) (if flat_same (unknown_code v) (unknown_code u) i then Some (sym many i) else None)) ∙ sym (index_push v u us)

  apart_pushed : (k : ℕ) (v : Unknown) → slice_get (us ++ u ∷ []) k ≡ Some v → index_of v (us ++ u ∷ []) ≡ Some k
  apart_pushed k v e = elim (slice_get-push_cases us u k v e) [
    | inl h ↦ index_push v u us ∙ ap (λ o. or_else o (if same_unknown v u then Some (length us) else None)) (g.apart k v h)
    | inr h ↦ subst (λ w. index_of w (us ++ u ∷ []) ≡ Some k) h.1 (index_push u u us ∙ (λ i. or_else (not_there i) (if unknown_self u i then Some (length us) else None)) ∙ ap Some (sym h.0))
  ]

  pub gathers_quantity : (is : List (List ℕ)) (rs : List (Shape × ℕ)) → integers_among (m.quantities ++ q ∷ []) ≡ is → registers_among d.terms (m.quantities ++ q ∷ []) ≡ rs
      → Gathers (record m { quantities = m.quantities ++ q ∷ []; numbers = m.numbers ++ (flat (unknown_code u), length m.quantities) ∷ [] }) (record d { integers = is; registers = rs })
  gathers_quantity is rs e f = record {
    names = g.names;
    places = g.places;
    parts = g.parts;
    definitions = g.definitions;
    equalities = g.equalities;
    integers = e;
    registers = f;
    inside = AllByRecursion-push (IsInside (length d.terms)) m.quantities q g.inside inside;
    numbers = λ v. numbers_pushed v ∙ ap (index_of v) (sym pushed_unknowns);
    apart = λ k v h. ap (index_of v) pushed_unknowns ∙ apart_pushed k v (ap (λ ws. slice_get ws k) (sym pushed_unknowns) ∙ h);
    rows = subst (λ ws. AllZip (IsRowAmong ws) (map bounded_of d.comparisons) m.rows) (sym pushed_unknowns) (zip_weaker (IsRowAmong us) (IsRowAmong (us ++ u ∷ [])) (λ b r a. among_push us u b r a) (map bounded_of d.comparisons) m.rows g.rows);
    symmetric = g.symmetric;
    truths = g.truths;
    broken = g.broken;
  }

row_for : (us : List Unknown) → ((k : ℕ) (u : Unknown) → slice_get us k ≡ Some u → index_of u us ≡ Some k) → (b : Bounded) (r : Row) → IsRowAmong us b r → IsRowFor us b r
row_for us apart b r a = record { kind = a.kind; constant = a.constant; coefficients = λ k. by_place k (slice_get us k) refl }
  where
    by_place : (k : ℕ) (o : Option Unknown) → slice_get us k ≡ o → coefficient k r.form.coefficients ≡ coefficient_at b.1 o
    by_place k None e = a.beyond k (slice_get-none us k e)
    by_place k (Some u) e = sym (a.coefficients u ∙ ap (λ o. coefficient_where o r.form.coefficients) (apart k u e))

pub holds_of : (m : DraftBuilder) (d : DraftView) (ts : List (List ℕ × Bool)) → ts ≡ m.truths → Gathers m d → HoldsDraft (record { names = m.names; parts = m.parts; definitions = m.definitions; equalities = m.equalities; quantities = m.quantities; rows = m.rows; truths = ts; broken = m.broken }) d
holds_of m d ts e g = record {
  names = g.names;
  parts = g.parts;
  definitions = g.definitions;
  equalities = g.equalities;
  integers = g.integers;
  registers = g.registers;
  rows = zip_weaker (IsRowAmong (unknowns_at d.terms m.quantities)) (IsRowFor (unknowns_at d.terms m.quantities)) (row_for (unknowns_at d.terms m.quantities) g.apart) (map bounded_of d.comparisons) m.rows g.rows;
  symmetric = g.symmetric;
  truths = e ∙ g.truths;
  broken = g.broken;
}
