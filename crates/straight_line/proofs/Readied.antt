-- The terms of a literal of a written kind are sound, and so what all literals add keeps a draft settled.
use Rattle.std.proofs.Common.{◌≡◌, refl, sym, ◌∙◌, subst, Bool, true, false, ◌&&◌, IsTrue, ℕ, List, [], ◌∷◌, None}
use Rattle.std.specs.List.{AllByRecursion}
use Rattle.std.proofs.lemmas.Bool.{false≢true, and_parts}
use Rattle.cube_draft.proofs.Proper.{inside_first}
use Rattle.sv_terms.specs.declared.op.Op.{Op}
use Rattle.sv_terms.specs.declared.op.Op.TheVariants as op
use Rattle.sv_terms.specs.declared.sort.Sort.{Sort}
use Rattle.sv_terms.specs.declared.sort.Sort.TheVariants as sort
use Rattle.sv_terms.specs.declared.term.Term.TheOpen.{Term-F}
use Rattle.sv_terms.specs.declared.term.Term.TheVariants as term
use Rattle.sv_terms.specs.declared.transducer.Transducer.{Transducer}
use Rattle.sv_terms.specs.Meaning.{Named}
use Rattle.sv_terms.specs.Sorting.{is_valued, valued_step}
use Rattle.literal_forms.specs.Mirrors.{raw-seen}
use Rattle.literal_forms.specs.Shapes.{Shape, text, constant, apply, member, related, end, ◌⨾◌, raw, raws, seen, head_sort}
use Rattle.literal_forms.specs.Linear.{is_string, is_linear}
use Rattle.literal_forms.specs.declared.literal.Literal.{Literal}
use Rattle.straight_line.specs.Laws.{IsGood, IsSpelled, AreSpelled}
use Rattle.flat_cubes.specs.Met.{DraftView, add, add_all, nothing_met, met}
use Rattle.flat_cubes.specs.Said.{Said, compares, has_part, are_one, written_by, where_true, part_said, row_said, one_said, string_said, equality_said, pair_said, constant_said, atom_said, said, is_outside, first_outside}
use Rattle.flat_cubes.specs.declared.variable.Own.{Own}
use Rattle.flat_cubes.specs.declared.variable.Own.TheVariants as own
use Rattle.straight_line.proofs.Compared.{HasRow}
use Rattle.straight_line.proofs.Parted.{IsSound}
use Rattle.straight_line.proofs.Settled.{IsSettled, Ready, is_settled, nothing_settled}
use Rattle.sv_terms.specs.SortingLaws.{fold-at, valued-apply}

module _ (values : Named) where
  abbrev Valued : Shape → Type 0
  Valued s = IsTrue (is_valued values (raw s))

  valued_two : (o : Op) (s t : Shape) → Valued (apply o (s ⨾ t ⨾ end)) → Valued s × Valued t
  valued_two o s t h =
      let a = and_parts (is_valued values (raw s)) (is_valued values (raw t) && true) (sym (valued-apply values o (raws (s ⨾ t ⨾ end))) ∙ h) in
      (a.0, (and_parts (is_valued values (raw t)) true a.1).0)

  valued_one : (o : Op) (s : Shape) → Valued (apply o (s ⨾ end)) → Valued s
  valued_one o s h = (and_parts (is_valued values (raw s)) true (sym (valued-apply values o (raws (s ⨾ end))) ∙ h)).0

  -- where the test of the form holds
  where_ready : (c : Bool) (x : Said) → is_outside (where_true c x) ≡ false → (c ≡ true → Ready values x) → Ready values (where_true c x)
  where_ready true x o k = k refl
  where_ready false x o k = absurd (false≢true (sym o))

  part_ready : (s : Shape) (p : Own) (b : Bool) → Valued s → IsSpelled s → is_outside (part_said s p b) ≡ false → Ready values (part_said s p b)
  part_ready s p b h w o = where_ready (is_string s) (has_part s p b) o (λ e. (e, (h, w)))

  two_ready : (s t : Shape) (x : Said) → (IsSound values s → IsSound values t → Ready values x) → Valued s → Valued t → IsSpelled s → IsSpelled t → is_outside (where_true (is_string s && is_string t) x) ≡ false → Ready values (where_true (is_string s && is_string t) x)
  two_ready s t x f h k w v o = where_ready (is_string s && is_string t) x o (λ e. let a = and_parts (is_string s) (is_string t) e in f (a.0, (h, w)) (a.1, (k, v)))

  row_ready : (p : Op) (s t : Shape) (b : Bool) → HasRow p b → Valued (apply p (s ⨾ t ⨾ end)) → AreSpelled (s ⨾ t ⨾ end) → is_outside (row_said p s t b) ≡ false → Ready values (row_said p s t b)
  row_ready p s t b r h w o =
      let k = valued_two p s t h in
      where_ready (is_linear s && is_linear t) (compares p s t b) o (λ e. let a = and_parts (is_linear s) (is_linear t) e in (r, ((a.0, (k.0, w.0)), (a.1, (k.1, w.1.0)))))

  one_ready : (s t : Shape) (b : Bool) → Valued s → Valued t → IsSpelled s → IsSpelled t → is_outside (one_said s t b) ≡ false → Ready values (one_said s t b)
  one_ready s t false h k w v o = absurd (false≢true (sym o))
  one_ready s t true h k w v o = two_ready s t (are_one s t) (λ a b. (a, b)) h k w v o

  string_ready : (s t : Shape) (b : Bool) → Valued s → Valued t → IsSpelled s → IsSpelled t → is_outside (string_said s t b) ≡ false → Ready values (string_said s t b)
  string_ready (text v) (text w) b h k x y o = tt
  string_ready (text w) t b h k x y o = part_ready t (own.Word w) b k y o
  string_ready s (text w) b h k x y o = part_ready s (own.Word w) b h x o
  string_ready s t b h k x y o = one_ready s t b h k x y o

  equal_ready : (k : Sort) (s t : Shape) (b : Bool) → Valued (apply op.Equal (s ⨾ t ⨾ end)) → AreSpelled (s ⨾ t ⨾ end) → is_outside (equality_said k s t b) ≡ false → Ready values (equality_said k s t b)
  equal_ready sort.String s t b h w o = let a = valued_two op.Equal s t h in string_ready s t b a.0 a.1 w.0 w.1.0 o
  equal_ready sort.Int s t true h w o = row_ready op.Equal s t true tt h w o
  equal_ready sort.Int s t false h w o = absurd (false≢true (sym o))
  equal_ready sort.Bool s t b h w o = absurd (false≢true (sym o))
  equal_ready sort.RegLan s t b h w o = absurd (false≢true (sym o))

  constant_ready : (n : List ℕ) (s : Sort) (b : Bool) → is_outside (constant_said n s b) ≡ false → Ready values (constant_said n s b)
  constant_ready n sort.Bool b o = tt
  constant_ready n sort.Int b o = absurd (false≢true (sym o))
  constant_ready n sort.String b o = absurd (false≢true (sym o))
  constant_ready n sort.RegLan b o = absurd (false≢true (sym o))

  pair_ready : (t : Transducer) (s u : Shape) (b : Bool) → Valued (related t s u) → IsSpelled (related t s u) → is_outside (pair_said t s u b) ≡ false → Ready values (pair_said t s u b)
  pair_ready t s u false h w o = absurd (false≢true (sym o))
  pair_ready t s u true h w o =
      let k = and_parts (is_valued values (raw s)) (is_valued values (raw u)) (sym (fold-at Bool (valued_step values) _ (Term-F.Related t (raw s) (raw u)) (term.rolls-Related t (raw s) (raw u))) ∙ h) in
      two_ready s u (written_by t s u) (λ a b. (a, b)) k.0 k.1 w.1 w.2 o

  atom_ready : (s : Shape) (b : Bool) → Valued s → IsSpelled s → is_outside (atom_said s b) ≡ false → Ready values (atom_said s b)
  atom_ready (constant n s) b h w o = constant_ready n s b o
  atom_ready (member s r) b h w o = part_ready s (own.InRe r) b (sym (fold-at Bool (valued_step values) _ (Term-F.InRe (raw s) r) (term.rolls-InRe (raw s) r)) ∙ h) w o
  atom_ready (related t s u) b h w o = pair_ready t s u b h w o
  atom_ready (apply op.Equal (s ⨾ t ⨾ end)) b h w o = equal_ready (head_sort s) s t b h w o
  atom_ready (apply op.LessEqual (s ⨾ t ⨾ end)) b h w o = row_ready op.LessEqual s t b tt h w o
  atom_ready (apply op.Less (s ⨾ t ⨾ end)) b h w o = row_ready op.Less s t b tt h w o
  atom_ready (apply op.GreaterEqual (s ⨾ t ⨾ end)) b h w o = row_ready op.GreaterEqual s t b tt h w o
  atom_ready (apply op.Greater (s ⨾ t ⨾ end)) b h w o = row_ready op.Greater s t b tt h w o
  atom_ready (apply op.PrefixOf (text p ⨾ s ⨾ end)) b h w o = part_ready s (own.Prefix p) b (valued_two op.PrefixOf (text p) s h).1 w.1.0 o
  atom_ready (apply op.SuffixOf (text p ⨾ s ⨾ end)) b h w o = part_ready s (own.Suffix p) b (valued_two op.SuffixOf (text p) s h).1 w.1.0 o
  atom_ready (apply op.Contains (s ⨾ text p ⨾ end)) b h w o = part_ready s (own.Contains p) b (valued_two op.Contains s (text p) h).0 w.0 o
  atom_ready (apply op.IsDigit (s ⨾ end)) b h w o = part_ready s own.Digit b (valued_one op.IsDigit s h) w.0 o
  atom_ready _ b h w o = absurd (false≢true (sym o))

  literal_ready : (l : Literal) → IsGood values l → is_outside (said l) ≡ false → Ready values (said l)
  literal_ready l g o = atom_ready (seen l.atom) l.positive (subst (λ t. IsTrue (is_valued values t)) (sym (raw-seen l.atom)) g.valued) g.spelled o

  all_settled : (ls : List Literal) (d : DraftView) → AllByRecursion (IsGood values) ls → first_outside ls ≡ None → IsSettled values d → IsSettled values (add_all ls d)
  all_settled [] d g o h = h
  all_settled (l ∷ ls) d g o h =
      let i = inside_first (is_outside (said l)) l (first_outside ls) o in
      all_settled ls (add (said l) d) g.1 i.1 (is_settled values (said l) d (literal_ready l g.0 i.0) h)

  pub met_settled : (ls : List Literal) → AllByRecursion (IsGood values) ls → first_outside ls ≡ None → IsSettled values (met ls)
  met_settled ls g o = all_settled ls nothing_met g o (nothing_settled values)
