-- Of literals of written kinds all places are there, and each definition uses one.
use Rattle.std.proofs.Common.{◌≡◌, refl, sym, Bool, true, false, ◌&&◌, ℕ, ◌<◌, List, [], ◌∷◌, ◌++◌, length, Option, Some, None, nat_eq, arith}
use Rattle.std.specs.Prelude.{if◌then◌else◌}
use Rattle.std.specs.List.{AllByRecursion, list_any}
use Rattle.std.specs.Map.{lookup}
use Rattle.std.specs.Cmp.Lexicographic.{pointwise}
use Rattle.std.proofs.lemmas.Bool.{false≢true, and_parts}
use Rattle.sv_list.specs.Lists.{AllByRecursion-push}
use Rattle.sv_terms.specs.declared.op.Op.{Op}
use Rattle.sv_terms.specs.declared.op.Op.TheVariants as op
use Rattle.sv_terms.specs.declared.sort.Sort.{Sort}
use Rattle.sv_terms.specs.declared.sort.Sort.TheVariants as sort
use Rattle.sv_terms.specs.declared.transducer.Transducer.{Transducer}
use Rattle.literal_forms.specs.Codes.{same}
use Rattle.literal_forms.specs.Linear.{are_linear, are_strings, is_linear, is_product, is_string, linears, written}
use Rattle.literal_forms.specs.Shapes.{Shape, Shapes, number, text, constant, apply, member, related, end, ◌⨾◌, head_sort, seen}
use Rattle.literal_forms.specs.declared.literal.Literal.{Literal}
use Rattle.flat_cubes.specs.Using.{used}
use Rattle.flat_cubes.specs.Met.{DraftView, Found, add, add_all, known_or, meet, meet_all, meet_all_unknowns, meet_unknowns, met, nothing_met, place_of, registered, with_definition, with_register, with_term, with_value}
use Rattle.flat_cubes.specs.Said.{Said, are_one, atom_said, compares, constant_said, equality_said, first_outside, has_part, holds, is_outside, one_said, outside, pair_said, part_said, row_said, said, string_said, value_is, where_true, written_by}
use Rattle.flat_cubes.specs.declared.definition.By.{By}
use Rattle.flat_cubes.specs.declared.definition.By.TheVariants as by
use Rattle.flat_cubes.specs.declared.variable.Own.{Own}
use Rattle.flat_cubes.specs.declared.variable.Own.TheVariants as own
use Rattle.cube_draft.proofs.Ranges.{AreIn, DefinitionIn, PairIn, PartIn, RegisterIn, is_placed}
use Rattle.cube_draft.proofs.Strings.{string_written}

-- a definition uses at least one place
abbrev pub SomeUsed : ℕ × By → Type 0
SomeUsed e = 0 < length (used e.1)

pub record IsProper (d : DraftView) : Type 0 where
  pub inside : AreIn (length d.terms) d
  pub some : AllByRecursion SomeUsed d.definitions

known_some : (d : DraftView) (new : Found) (o : Option ℕ) → AllByRecursion SomeUsed d.definitions → AllByRecursion SomeUsed new.1.definitions → AllByRecursion SomeUsed (known_or o d new).1.definitions
known_some d new None a b = b
known_some d new (Some i) a b = a

mutual
  some_met : (s : Shape) (d : DraftView) → is_string s ≡ true → AllByRecursion SomeUsed d.definitions → AllByRecursion SomeUsed (meet s d).1.definitions
  some_met (text w) d e a = a
  some_met (constant n s) d e a = known_some d (length d.terms, with_term (constant n s) d) (place_of (constant n s) d.terms) a a
  some_met (apply op.Concat (s ⨾ ss)) d e a =
      let t = apply op.Concat (s ⨾ ss) in
      let r = meet_all (s ⨾ ss) (with_term t d) in
      known_some d (length d.terms, with_definition (length d.terms) (by.Concat r.0) r.1) (place_of t d.terms) a (AllByRecursion-push SomeUsed r.1.definitions (length d.terms, by.Concat r.0) (some_all_met (s ⨾ ss) (with_term t d) e a) (omega arith))
  some_met (apply op.Replace (s ⨾ text p ⨾ text u ⨾ end)) d e a =
      let t = apply op.Replace (s ⨾ text p ⨾ text u ⨾ end) in
      let r = meet s (with_term t d) in
      known_some d (length d.terms, with_definition (length d.terms) (by.First p u r.0) r.1) (place_of t d.terms) a (AllByRecursion-push SomeUsed r.1.definitions (length d.terms, by.First p u r.0) (some_met s (with_term t d) e a) (omega arith))
  some_met (apply op.ReplaceAll (s ⨾ text p ⨾ text u ⨾ end)) d e a =
      let t = apply op.ReplaceAll (s ⨾ text p ⨾ text u ⨾ end) in
      let r = meet s (with_term t d) in
      known_some d (length d.terms, with_definition (length d.terms) (by.All p u r.0) r.1) (place_of t d.terms) a (AllByRecursion-push SomeUsed r.1.definitions (length d.terms, by.All p u r.0) (some_met s (with_term t d) e a) (omega arith))
  some_met _ d e a = absurd (false≢true e)

  some_all_met : (ss : Shapes) (d : DraftView) → are_strings ss ≡ true → AllByRecursion SomeUsed d.definitions → AllByRecursion SomeUsed (meet_all ss d).1.definitions
  some_all_met end d e a = a
  some_all_met (s ⨾ ss) d e a = let h = and_parts (is_string s) (are_strings ss) e in some_all_met ss (meet s d).1 h.1 (some_met s d h.0 a)

proper_met : (s : Shape) (d : DraftView) → is_string s ≡ true → IsProper d → IsProper (meet s d).1
proper_met s d e p = record { inside = (is_placed s d e).keeps p.inside; some = some_met s d e p.some }

-- unknowns
proper_integer : (n : List ℕ) (d : DraftView) (b : Bool) → IsProper d → IsProper (if b then d else record d { integers = d.integers ++ n ∷ [] })
proper_integer n d true p = p
proper_integer n d false p = record { inside = record { parts = p.inside.parts; definitions = p.inside.definitions; equalities = p.inside.equalities; registers = p.inside.registers }; some = p.some }

proper_register : (s : Shape) (d : DraftView) (b : Bool) → is_string s ≡ true → IsProper d → IsProper (if b then d else registered s (meet s d))
proper_register s d true e p = p
proper_register s d false e p =
    let r = meet s d in
    let q = proper_met s d e p in
    record {
      inside = record { parts = q.inside.parts; definitions = q.inside.definitions; equalities = q.inside.equalities; registers = AllByRecursion-push (RegisterIn (length r.1.terms)) r.1.registers (s, r.0) q.inside.registers (is_placed s d e).place };
      some = q.some;
    }

proper_length : (s : Shape) (d : DraftView) → is_string s ≡ true → IsProper d → IsProper (with_register (written s) d)
proper_length s d e p = proper_register (written s) d (list_any (λ (r : Shape × ℕ). same (written s) r.0) d.registers) (string_written s e) p

mutual
  proper_unknowns : (s : Shape) (d : DraftView) → is_linear s ≡ true → IsProper d → IsProper (meet_unknowns s d)
  proper_unknowns (number n) d e p = p
  proper_unknowns (constant n s) d e p = proper_integer n d (list_any (pointwise nat_eq n) d.integers) p
  proper_unknowns (apply op.Length (text w ⨾ end)) d e p = p
  proper_unknowns (apply op.Length (constant n s ⨾ end)) d e p = proper_length (constant n s) d e p
  proper_unknowns (apply op.Length (apply o ss ⨾ end)) d e p = proper_length (apply o ss) d e p
  proper_unknowns (apply op.Add (s ⨾ ss)) d e p = proper_all_unknowns (s ⨾ ss) d e p
  proper_unknowns (apply op.Subtract (s ⨾ ss)) d e p = proper_all_unknowns (s ⨾ ss) d e p
  proper_unknowns (apply op.Multiply (s ⨾ ss)) d e p = proper_all_unknowns (s ⨾ ss) d (and_parts (is_linear s && are_linear ss) (is_product (linears (s ⨾ ss))) e).0 p
  proper_unknowns (apply op.Length (s ⨾ t ⨾ ss)) d e p = absurd (false≢true e)
  proper_unknowns (apply op.Length (s ⨾ end)) d e p = absurd (false≢true e)
  proper_unknowns _ d e p = absurd (false≢true e)

  proper_all_unknowns : (ss : Shapes) (d : DraftView) → are_linear ss ≡ true → IsProper d → IsProper (meet_all_unknowns ss d)
  proper_all_unknowns end d e p = p
  proper_all_unknowns (s ⨾ ss) d e p = let h = and_parts (is_linear s) (are_linear ss) e in proper_all_unknowns ss (meet_unknowns s d) h.1 (proper_unknowns s d h.0 p)

-- what is said of terms of written forms
abbrev pub IsFormedSaid : Said → Type 0
IsFormedSaid (value_is n b) = Unit {0}
IsFormedSaid (compares o s t b) = (is_linear s ≡ true) × (is_linear t ≡ true)
IsFormedSaid (holds b) = Unit {0}
IsFormedSaid (has_part s o b) = is_string s ≡ true
IsFormedSaid (are_one s t) = (is_string s ≡ true) × (is_string t ≡ true)
IsFormedSaid (written_by m s t) = (is_string s ≡ true) × (is_string t ≡ true)
IsFormedSaid outside = ⊥

where_formed : (c : Bool) (x : Said) → is_outside (where_true c x) ≡ false → (c ≡ true → IsFormedSaid x) → IsFormedSaid (where_true c x)
where_formed true x o k = k refl
where_formed false x o k = absurd (false≢true (sym o))

part_formed : (s : Shape) (p : Own) (b : Bool) → is_outside (part_said s p b) ≡ false → IsFormedSaid (part_said s p b)
part_formed s p b o = where_formed (is_string s) (has_part s p b) o (λ e. e)

row_formed : (p : Op) (s t : Shape) (b : Bool) → is_outside (row_said p s t b) ≡ false → IsFormedSaid (row_said p s t b)
row_formed p s t b o = where_formed (is_linear s && is_linear t) (compares p s t b) o (λ e. and_parts (is_linear s) (is_linear t) e)

one_formed : (s t : Shape) (b : Bool) → is_outside (one_said s t b) ≡ false → IsFormedSaid (one_said s t b)
one_formed s t false o = absurd (false≢true (sym o))
one_formed s t true o = where_formed (is_string s && is_string t) (are_one s t) o (λ e. and_parts (is_string s) (is_string t) e)

string_formed : (s t : Shape) (b : Bool) → is_outside (string_said s t b) ≡ false → IsFormedSaid (string_said s t b)
string_formed (text v) (text w) b o = tt
string_formed (text w) t b o = part_formed t (own.Word w) b o
string_formed s (text w) b o = part_formed s (own.Word w) b o
string_formed s t b o = one_formed s t b o

equal_formed : (k : Sort) (s t : Shape) (b : Bool) → is_outside (equality_said k s t b) ≡ false → IsFormedSaid (equality_said k s t b)
equal_formed sort.String s t b o = string_formed s t b o
equal_formed sort.Int s t true o = row_formed op.Equal s t true o
equal_formed sort.Int s t false o = absurd (false≢true (sym o))
equal_formed sort.Bool s t b o = absurd (false≢true (sym o))
equal_formed sort.RegLan s t b o = absurd (false≢true (sym o))

constant_formed : (n : List ℕ) (s : Sort) (b : Bool) → is_outside (constant_said n s b) ≡ false → IsFormedSaid (constant_said n s b)
constant_formed n sort.Bool b o = tt
constant_formed n sort.Int b o = absurd (false≢true (sym o))
constant_formed n sort.String b o = absurd (false≢true (sym o))
constant_formed n sort.RegLan b o = absurd (false≢true (sym o))

pair_formed : (t : Transducer) (s u : Shape) (b : Bool) → is_outside (pair_said t s u b) ≡ false → IsFormedSaid (pair_said t s u b)
pair_formed t s u false o = absurd (false≢true (sym o))
pair_formed t s u true o = where_formed (is_string s && is_string u) (written_by t s u) o (λ e. and_parts (is_string s) (is_string u) e)

atom_formed : (s : Shape) (b : Bool) → is_outside (atom_said s b) ≡ false → IsFormedSaid (atom_said s b)
atom_formed (constant n s) b o = constant_formed n s b o
atom_formed (member s r) b o = part_formed s (own.InRe r) b o
atom_formed (related t s u) b o = pair_formed t s u b o
atom_formed (apply op.Equal (s ⨾ t ⨾ end)) b o = equal_formed (head_sort s) s t b o
atom_formed (apply op.LessEqual (s ⨾ t ⨾ end)) b o = row_formed op.LessEqual s t b o
atom_formed (apply op.Less (s ⨾ t ⨾ end)) b o = row_formed op.Less s t b o
atom_formed (apply op.GreaterEqual (s ⨾ t ⨾ end)) b o = row_formed op.GreaterEqual s t b o
atom_formed (apply op.Greater (s ⨾ t ⨾ end)) b o = row_formed op.Greater s t b o
atom_formed (apply op.PrefixOf (text p ⨾ s ⨾ end)) b o = part_formed s (own.Prefix p) b o
atom_formed (apply op.SuffixOf (text p ⨾ s ⨾ end)) b o = part_formed s (own.Suffix p) b o
atom_formed (apply op.Contains (s ⨾ text p ⨾ end)) b o = part_formed s (own.Contains p) b o
atom_formed (apply op.IsDigit (s ⨾ end)) b o = part_formed s own.Digit b o
atom_formed _ b o = absurd (false≢true (sym o))

proper_value : (o : Option Bool) (n : List ℕ) (b : Bool) (d : DraftView) → IsProper d → IsProper (with_value o n b d)
proper_value None n b d p = record { inside = record { parts = p.inside.parts; definitions = p.inside.definitions; equalities = p.inside.equalities; registers = p.inside.registers }; some = p.some }
proper_value (Some c) n b d p = record { inside = record { parts = p.inside.parts; definitions = p.inside.definitions; equalities = p.inside.equalities; registers = p.inside.registers }; some = p.some }

proper_add : (x : Said) (d : DraftView) → IsFormedSaid x → IsProper d → IsProper (add x d)
proper_add (value_is n b) d f p = proper_value (lookup (pointwise nat_eq n) d.truths) n b d p
proper_add (compares o s t b) d f p =
    let q = proper_unknowns t (meet_unknowns s d) f.1 (proper_unknowns s d f.0 p) in
    record { inside = record { parts = q.inside.parts; definitions = q.inside.definitions; equalities = q.inside.equalities; registers = q.inside.registers }; some = q.some }
proper_add (holds b) d f p = record { inside = record { parts = p.inside.parts; definitions = p.inside.definitions; equalities = p.inside.equalities; registers = p.inside.registers }; some = p.some }
proper_add (has_part s o b) d f p =
    let r = meet (written s) d in
    let q = proper_met (written s) d (string_written s f) p in
    record {
      inside = record { parts = AllByRecursion-push (PartIn (length r.1.terms)) r.1.parts (r.0, (o, b)) q.inside.parts (is_placed (written s) d (string_written s f)).place; definitions = q.inside.definitions; equalities = q.inside.equalities; registers = q.inside.registers };
      some = q.some;
    }
proper_add (are_one s t) d f p =
    let k = meet (written s) d in
    let r = meet (written t) k.1 in
    let first = is_placed (written s) d (string_written s f.0) in
    let second = is_placed (written t) k.1 (string_written t f.1) in
    let q = proper_met (written t) k.1 (string_written t f.1) (proper_met (written s) d (string_written s f.0) p) in
    let i = first.place in
    let g = second.grows in
    record {
      inside = record { parts = q.inside.parts; definitions = q.inside.definitions; equalities = AllByRecursion-push (PairIn (length r.1.terms)) r.1.equalities (k.0, r.0) q.inside.equalities (omega arith, second.place); registers = q.inside.registers };
      some = q.some;
    }
proper_add (written_by m s t) d f p =
    let k = meet (written s) d in
    let r = meet (written t) k.1 in
    let first = is_placed (written s) d (string_written s f.0) in
    let second = is_placed (written t) k.1 (string_written t f.1) in
    let q = proper_met (written t) k.1 (string_written t f.1) (proper_met (written s) d (string_written s f.0) p) in
    let i = first.place in
    let g = second.grows in
    record {
      inside = record { parts = q.inside.parts; definitions = AllByRecursion-push (DefinitionIn (length r.1.terms)) r.1.definitions (r.0, by.Through m k.0) q.inside.definitions (second.place, (omega arith, tt)); equalities = q.inside.equalities; registers = q.inside.registers };
      some = AllByRecursion-push SomeUsed r.1.definitions (r.0, by.Through m k.0) q.some (omega arith);
    }
proper_add outside d f p = absurd f

pub inside_first : (b : Bool) (l : Literal) (o : Option Literal) → (if b then Some l else o) ≡ None → (b ≡ false) × (o ≡ None)
inside_first true l o e = absurd (cc)
inside_first false l o e = (refl, e)

proper_all : (ls : List Literal) (d : DraftView) → first_outside ls ≡ None → IsProper d → IsProper (add_all ls d)
proper_all [] d o p = p
proper_all (l ∷ ls) d o p =
    let h = inside_first (is_outside (said l)) l (first_outside ls) o in
    proper_all ls (add (said l) d) h.1 (proper_add (said l) d (atom_formed (seen l.atom) l.positive h.0) p)

pub proper : (ls : List Literal) → first_outside ls ≡ None → IsProper (met ls)
proper ls o = proper_all ls nothing_met o (record { inside = record { parts = tt; definitions = tt; equalities = tt; registers = tt }; some = tt })
