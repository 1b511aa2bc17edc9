-- The transducers of what was met are those of the literals, and they are formed where these are.
use Rattle.std.proofs.Common.{sym, subst, Bool, true, false, ◌&&◌, ℕ, List, [], ◌∷◌, ◌++◌, map, length, Option, Some, None}
use Rattle.std.specs.Prelude.{if◌then◌else◌, nat_eq, ⊤}
use Rattle.std.specs.List.{AllByRecursion, list_any}
use Rattle.std.specs.Map.{lookup}
use Rattle.std.specs.Cmp.Lexicographic.{pointwise}
use Rattle.sv_list.specs.Lists.{AllByRecursion-push}
use Rattle.sv_terms.specs.Transduction.{IsFormed}
use Rattle.sv_terms.specs.declared.op.Op.{Op}
use Rattle.sv_terms.specs.declared.op.Op.TheVariants as op
use Rattle.sv_terms.specs.declared.sort.Sort.{Sort}
use Rattle.sv_terms.specs.declared.sort.Sort.TheVariants as sort
use Rattle.sv_terms.specs.declared.transducer.Transducer.{Transducer}
use Rattle.literal_forms.specs.Codes.{same}
use Rattle.literal_forms.specs.Linear.{is_linear, is_string, written}
use Rattle.literal_forms.specs.Shapes.{Shape, Shapes, text, constant, apply, member, related, end, ◌⨾◌, head_sort, seen}
use Rattle.literal_forms.specs.declared.literal.Literal.{Literal}
use Rattle.straight_line.specs.FormLaws.{TransducersAreFormed}
use Rattle.flat_cubes.specs.Flattening.{definition_of, definitions_of, renamed}
use Rattle.straight_line.specs.Laws.{IsSpelled}
use Rattle.flat_cubes.specs.Met.{DraftView, Found, add, add_all, all_met, concat_met, first_met, known_or, meet, meet_all, meet_all_unknowns, meet_unknowns, met, nothing_met, place_of, registered, with_term, with_value}
use Rattle.flat_cubes.specs.Said.{Said, are_one, atom_said, compares, constant_said, equality_said, has_part, holds, one_said, outside, pair_said, part_said, row_said, said, string_said, value_is, where_true, written_by}
use Rattle.flat_cubes.specs.Straight.{IsFormedBy}
use Rattle.flat_cubes.specs.declared.definition.By.{By}
use Rattle.flat_cubes.specs.declared.definition.By.TheVariants as by
use Rattle.flat_cubes.specs.declared.definition.Definition.{Definition}
use Rattle.flat_cubes.specs.declared.variable.Own.{Own}
use Rattle.flat_cubes.specs.declared.variable.Own.TheVariants as own
use Rattle.straight_line.proofs.Ordered.{ordered_all}

abbrev IsFormedAt : ℕ × By → Type 0
IsFormedAt e = IsFormedBy e.1

abbrev AreFormed : DraftView → Type 0
AreFormed d = AllByRecursion IsFormedAt d.definitions

-- meeting a string term adds no transducer
known_formed : (o : Option ℕ) (d : DraftView) (new : Found) → AreFormed d → AreFormed new.1 → AreFormed (known_or o d new).1
known_formed None d new h n = n
known_formed (Some i) d new h n = h

mutual
  term_formed : (s : Shape) (d : DraftView) → AreFormed d → AreFormed (meet s d).1
  term_formed (text w) d h = h
  term_formed (constant n s) d h = known_formed (place_of (constant n s) d.terms) d (length d.terms, with_term (constant n s) d) h h
  term_formed (apply op.Concat ss) d h =
      let t = apply op.Concat ss in
      let r = meet_all ss (with_term t d) in
      known_formed (place_of t d.terms) d (concat_met (length d.terms) r) h (AllByRecursion-push IsFormedAt r.1.definitions (length d.terms, by.Concat r.0) (terms_formed ss (with_term t d) h) tt)
  term_formed (apply op.Replace (s ⨾ text p ⨾ text u ⨾ end)) d h =
      let t = apply op.Replace (s ⨾ text p ⨾ text u ⨾ end) in
      let r = meet s (with_term t d) in
      known_formed (place_of t d.terms) d (first_met (length d.terms) p u r) h (AllByRecursion-push IsFormedAt r.1.definitions (length d.terms, by.First p u r.0) (term_formed s (with_term t d) h) tt)
  term_formed (apply op.ReplaceAll (s ⨾ text p ⨾ text u ⨾ end)) d h =
      let t = apply op.ReplaceAll (s ⨾ text p ⨾ text u ⨾ end) in
      let r = meet s (with_term t d) in
      known_formed (place_of t d.terms) d (all_met (length d.terms) p u r) h (AllByRecursion-push IsFormedAt r.1.definitions (length d.terms, by.All p u r.0) (term_formed s (with_term t d) h) tt)
  term_formed _ d h = h

  terms_formed : (ss : Shapes) (d : DraftView) → AreFormed d → AreFormed (meet_all ss d).1
  terms_formed end d h = h
  terms_formed (s ⨾ ss) d h = terms_formed ss (meet s d).1 (term_formed s d h)

integer_formed : (n : List ℕ) (d : DraftView) (b : Bool) → AreFormed d → AreFormed (if b then d else record d { integers = d.integers ++ n ∷ [] })
integer_formed n d true h = h
integer_formed n d false h = h

register_formed : (s : Shape) (d : DraftView) (b : Bool) → AreFormed d → AreFormed (if b then d else registered s (meet s d))
register_formed s d true h = h
register_formed s d false h = term_formed s d h

mutual
  unknowns_formed : (s : Shape) (d : DraftView) → AreFormed d → AreFormed (meet_unknowns s d)
  unknowns_formed (constant n s) d h = integer_formed n d (list_any (pointwise nat_eq n) d.integers) h
  unknowns_formed (apply op.Length (text w ⨾ end)) d h = h
  unknowns_formed (apply op.Length (s ⨾ end)) d h = register_formed (written s) d (list_any (λ (r : Shape × ℕ). same (written s) r.0) d.registers) h
  unknowns_formed (apply o ss) d h = all_unknowns_formed ss d h
  unknowns_formed _ d h = h

  all_unknowns_formed : (ss : Shapes) (d : DraftView) → AreFormed d → AreFormed (meet_all_unknowns ss d)
  all_unknowns_formed end d h = h
  all_unknowns_formed (s ⨾ ss) d h = all_unknowns_formed ss (meet_unknowns s d) (unknowns_formed s d h)

value_formed : (o : Option Bool) (n : List ℕ) (b : Bool) (d : DraftView) → AreFormed d → AreFormed (with_value o n b d)
value_formed None n b d h = h
value_formed (Some c) n b d h = h

-- a literal's transducer
abbrev HasOne : Said → Type 0
HasOne (value_is n b) = ⊤
HasOne (compares o s t b) = ⊤
HasOne (holds b) = ⊤
HasOne (has_part s o b) = ⊤
HasOne (are_one s t) = ⊤
HasOne (written_by m s t) = IsFormed m
HasOne outside = ⊤

added_formed : (x : Said) (d : DraftView) → HasOne x → AreFormed d → AreFormed (add x d)
added_formed (value_is n b) d f h = value_formed (lookup (pointwise nat_eq n) d.truths) n b d h
added_formed (compares o s t b) d f h = unknowns_formed t (meet_unknowns s d) (unknowns_formed s d h)
added_formed (holds b) d f h = h
added_formed (has_part s o b) d f h = term_formed (written s) d h
added_formed (are_one s t) d f h = term_formed (written t) (meet (written s) d).1 (term_formed (written s) d h)
added_formed (written_by m s t) d f h =
    let r = meet (written s) d in
    let q = meet (written t) r.1 in
    AllByRecursion-push IsFormedAt q.1.definitions (q.0, by.Through m r.0) (term_formed (written t) r.1 (term_formed (written s) d h)) f
added_formed outside d f h = h

where_one : (c : Bool) (x : Said) → HasOne x → HasOne (where_true c x)
where_one true x h = h
where_one false x h = tt

one_has : (s t : Shape) (b : Bool) → HasOne (one_said s t b)
one_has s t true = where_one (is_string s && is_string t) (are_one s t) tt
one_has s t false = tt

part_has : (s : Shape) (o : Own) (b : Bool) → HasOne (part_said s o b)
part_has s o b = where_one (is_string s) (has_part s o b) tt

row_has : (o : Op) (s t : Shape) (b : Bool) → HasOne (row_said o s t b)
row_has o s t b = where_one (is_linear s && is_linear t) (compares o s t b) tt

string_has : (s t : Shape) (b : Bool) → HasOne (string_said s t b)
string_has (text v) (text w) b = tt
string_has (text w) t b = part_has t (own.Word w) b
string_has s (text w) b = part_has s (own.Word w) b
string_has s t b = one_has s t b

equality_has : (k : Sort) (s t : Shape) (b : Bool) → HasOne (equality_said k s t b)
equality_has sort.String s t b = string_has s t b
equality_has sort.Int s t true = row_has op.Equal s t true
equality_has sort.Int s t false = tt
equality_has sort.Bool s t b = tt
equality_has sort.RegLan s t b = tt

constant_has : (n : List ℕ) (s : Sort) (b : Bool) → HasOne (constant_said n s b)
constant_has n sort.Bool b = tt
constant_has n sort.Int b = tt
constant_has n sort.String b = tt
constant_has n sort.RegLan b = tt

pair_has : (t : Transducer) (s u : Shape) (b : Bool) → IsFormed t → HasOne (pair_said t s u b)
pair_has t s u true f = where_one (is_string s && is_string u) (written_by t s u) f
pair_has t s u false f = tt

atom_has : (s : Shape) (b : Bool) → IsSpelled s → HasOne (atom_said s b)
atom_has (constant n s) b w = constant_has n s b
atom_has (member s r) b w = part_has s (own.InRe r) b
atom_has (related t s u) b w = pair_has t s u b w.0
atom_has (apply op.Equal (s ⨾ t ⨾ end)) b w = equality_has (head_sort s) s t b
atom_has (apply op.LessEqual (s ⨾ t ⨾ end)) b w = row_has op.LessEqual s t b
atom_has (apply op.Less (s ⨾ t ⨾ end)) b w = row_has op.Less s t b
atom_has (apply op.GreaterEqual (s ⨾ t ⨾ end)) b w = row_has op.GreaterEqual s t b
atom_has (apply op.Greater (s ⨾ t ⨾ end)) b w = row_has op.Greater s t b
atom_has (apply op.PrefixOf (text p ⨾ s ⨾ end)) b w = part_has s (own.Prefix p) b
atom_has (apply op.SuffixOf (text p ⨾ s ⨾ end)) b w = part_has s (own.Suffix p) b
atom_has (apply op.Contains (s ⨾ text p ⨾ end)) b w = part_has s (own.Contains p) b
atom_has (apply op.IsDigit (s ⨾ end)) b w = part_has s own.Digit b
atom_has _ b w = tt

all_formed : (ls : List Literal) (d : DraftView) → AllByRecursion (λ (l : Literal). IsSpelled (seen l.atom)) ls → AreFormed d → AreFormed (add_all ls d)
all_formed [] d w h = h
all_formed (l ∷ ls) d w h = all_formed ls (add (said l) d) w.1 (added_formed (said l) d (atom_has (seen l.atom) l.positive w.0) h)

renamed_formed : (f : ℕ → ℕ) (b : By) → IsFormedBy b → IsFormedBy (renamed f b)
renamed_formed f (by.Concat vs) h = tt
renamed_formed f (by.First p u v) h = tt
renamed_formed f (by.All p u v) h = tt
renamed_formed f (by.Through t v) h = h

definitions_formed : (d : DraftView) (es : List (ℕ × By)) → AllByRecursion IsFormedAt es → AllByRecursion (λ (e : Definition). IsFormedBy e.by) (map (definition_of d) es)
definitions_formed d [] h = tt
definitions_formed d ((i, b) ∷ es) h = (renamed_formed _ b h.0, definitions_formed d es h.1)

pub transducers_formed : TransducersAreFormed
transducers_formed ls flat w f =
    let d = met ls in
    subst (AllByRecursion (λ (e : Definition). IsFormedBy e.by)) (sym f.of.definitions) (ordered_all (λ (e : Definition). IsFormedBy e.by) (definitions_of d) (definitions_formed d d.definitions (all_formed ls nothing_met w tt)))
