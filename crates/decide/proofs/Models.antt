-- Values of a flat cube as values of its cube, and the other way round.
use Rattle.std.proofs.Common.{◌≡◌, refl, sym, ap, ◌∙◌, subst, ℕ, ℤ, cond, map, Bool, true, false, IsTrue, List, [], ◌∷◌, Option, Some, None, Err, IfOk}
use Rattle.std.specs.List.{AllByRecursion, AllZip}
use Rattle.sv_list.specs.Lists.{AllByRecursion-weaker}
use Rattle.sv_terms.specs.Language.{Word}
use Rattle.sv_terms.specs.Meaning.{Named}
use Rattle.sv_terms.specs.Sorting.{is_valued, kind, same_sort}
use Rattle.sv_terms.specs.Truth.{AreWorded, clear_of}
use Rattle.sv_terms.specs.declared.sort.Sort.{Sort}
use Rattle.sv_terms.specs.declared.sort.Sort.TheVariants as sort
use Rattle.sv_terms.specs.declared.term.Term.{Term}
use Rattle.sv_terms.specs.declared.value.Value.{Value}
use Rattle.sv_terms.specs.declared.value.Value.TheVariants as value
use Rattle.assertion_parts.specs.Filling.{AreChosen, IsFilledFrom, default, or_default, value_of}
use Rattle.assertion_parts.proofs.Sorts.{same-is, same-self}
use Rattle.bool_cubes.specs.Laws.{IsValuedCube}
use Rattle.literal_forms.specs.Shapes.{seen}
use Rattle.literal_forms.specs.declared.literal.Literal.{Literal}
use Rattle.literal_forms.specs.declared.literal.Cube.{Cube}
use Rattle.flat_cubes.specs.Flattening.{HaveOneSort as LiteralsHaveOneSort, IsFlattened, IsFlattening, IsSortedBy}
use Rattle.straight_line.specs.FormLaws.{AreNamesSorted, NamesAreSorted}
use Rattle.straight_line.specs.Laws.{FlatIsExact, FlatIsOne, IsGood, IsRefusal, IsSpelled, RefusedHasNone}
use Rattle.flat_cubes.specs.Satisfying.{Extends, HasValue, AreModelValues, NamesHave}
use Rattle.flat_cubes.specs.Straight.{string_names}
use Rattle.flat_cubes.specs.declared.fault.FlatFault.{FlatFault}
use Rattle.flat_cubes.specs.declared.fault.FlatFault.TheVariants as fault
use Rattle.flat_cubes.specs.declared.flat.Flat.{Flat}
use Rattle.flat_cubes.specs.declared.variable.Variable.{Variable}
use Rattle.cube_search.specs.Answers.{AreOnlyIn, IsModelOf}
use Rattle.cube_search.specs.Causes.{EachSolution, IsCauseOf}
use Rattle.cube_search.specs.Limits.{MustDecideFlat}
use Rattle.cube_search.specs.declared.reason.OpenReason.{OpenReason}
use Rattle.cube_search.specs.declared.reason.OpenReason.TheVariants as reason
use Rattle.decide.specs.CubeValues.{CubeHasNoValues}
use Rattle.decide.proofs.Listed.{first-part}
use Rattle.decide.specs.Causes.{IsCause}
use Rattle.decide.specs.Completeness.{MustDecideCube}
use Rattle.decide.specs.Jobs.{IsAskedCube, IsModelOfFlat, IsOutcome, IsSatOf, refused_answer}
use Rattle.decide.proofs.Sorts.{sort_at, sorted-by, sorts_by}

abbrev Name : Type 0
Name = List ℕ

-- the literals of a cube that may be asked
each-sorted : (values : Named) (ls : List Literal) → AllByRecursion (λ (l : Literal). IsTrue (is_valued values l.atom)) ls → AllByRecursion (λ (l : Literal). IsSortedBy (sorts_by values) (seen l.atom)) ls
each-sorted values [] h = tt
each-sorted values (l ∷ ls) h = (sorted-by values l.atom h.0, each-sorted values ls h.1)

each-good : (values : Named) (ls : List Literal) → AllByRecursion (λ (l : Literal). IsTrue (is_valued values l.atom)) ls → AllByRecursion (λ (l : Literal). IsSpelled (seen l.atom)) ls → AllByRecursion (IsGood values) ls
each-good values [] h k = tt
each-good values (l ∷ ls) h k = (record { valued = h.0; spelled = k.0 }, each-good values ls h.1 k.1)

-- each name of the literals has one sort
pub literals-sorted : (terms : List Term) (cube : Cube) → IsAskedCube terms cube → LiteralsHaveOneSort cube.literals
literals-sorted terms cube a = (sorts_by a.one_sort.0, each-sorted a.one_sort.0 cube.literals (a.valued a.one_sort.0 a.one_sort.1))

-- a value of the flat cube's sort is the one that is chosen
module _ (given full : Named) (chosen : AreChosen given full) where
  stays : (s : Sort) (n : Name) (x : Value) → kind x ≡ s → (s ≡ sort.RegLan → ⊥) → value_of given n ≡ Some x → sorts_by full n ≡ s → value_of full n ≡ Some x
  stays s n x k f e t = by (value_of full n) refl
    where
      by : (o : Option Value) → value_of full n ≡ o → value_of full n ≡ Some x
      by None g = absurd (f (sym t ∙ ap sort_at g))
      by (Some y) g =
          let ky : kind y ≡ s = sym (ap sort_at g) ∙ t in
          let test : same_sort (kind y) (kind x) ≡ true = subst (λ z. same_sort (kind y) z ≡ true) (ky ∙ sym k) (same-self (kind y)) in
          let is : y ≡ x = chosen n y g ∙ ap (or_default (kind y)) e ∙ ap (λ b. cond b x (default (kind y))) test in
          g ∙ ap Some is

  names-stay : (w : Word) (ns : List Name) → AllByRecursion (HasValue given (value.Text w)) ns → AllByRecursion (λ n. sorts_by full n ≡ sort.String) ns → AllByRecursion (HasValue full (value.Text w)) ns
  names-stay w [] h s = tt
  names-stay w (n ∷ ns) h s = (stays sort.String n (value.Text w) refl (λ e. cc) h.0 s.0, names-stay w ns h.1 s.1)

  texts-stay : (vs : List Variable) (ws : List Word) → AllZip (NamesHave given) vs ws → AllByRecursion (λ n. sorts_by full n ≡ sort.String) (string_names vs) → AllZip (NamesHave full) vs ws
  texts-stay [] [] h s = tt
  texts-stay [] (w ∷ ws) h s = h
  texts-stay (v ∷ vs) [] h s = h
  texts-stay (v ∷ vs) (w ∷ ws) h s = let p = first-part (λ n. sorts_by full n ≡ sort.String) v.names (string_names vs) s in (names-stay w v.names h.0 p.0, texts-stay vs ws h.1 p.1)

  numbers-stay : (ns : List Name) (zs : List ℤ) → AllZip (λ n z. HasValue given (value.Number z) n) ns zs → AllByRecursion (λ n. sorts_by full n ≡ sort.Int) ns → AllZip (λ n z. HasValue full (value.Number z) n) ns zs
  numbers-stay [] [] h s = tt
  numbers-stay [] (z ∷ zs) h s = h
  numbers-stay (n ∷ ns) [] h s = h
  numbers-stay (n ∷ ns) (z ∷ zs) h s = (stays sort.Int n (value.Number z) refl (λ e. cc) h.0 s.0, numbers-stay ns zs h.1 s.1)

  truths-stay : (ts : List (Name × Bool)) → AllByRecursion (λ (t : Name × Bool). HasValue given (value.Truth t.1) t.0) ts → AllByRecursion (λ n. sorts_by full n ≡ sort.Bool) (map (λ (t : Name × Bool). t.0) ts) → AllByRecursion (λ (t : Name × Bool). HasValue full (value.Truth t.1) t.0) ts
  truths-stay [] h s = tt
  truths-stay (t ∷ ts) h s = (stays sort.Bool t.0 (value.Truth t.1) refl (λ e. cc) h.0 s.0, truths-stay ts h.1 s.1)

  of-stays : (flat : Flat) (ws : List Word) (zs : List ℤ) → AreModelValues flat ws zs given → AreNamesSorted (sorts_by full) flat → AreModelValues flat ws zs full
  of-stays flat ws zs o s = record {
    names = texts-stay flat.variables ws o.names s.strings;
    integers = numbers-stay flat.integers zs o.integers s.integers;
    truths = truths-stay flat.truths o.truths s.truths;
  }

module _ (terms : List Term) (cube : Cube) (flat : Flat) (asked : IsAskedCube terms cube) (flattening : IsFlattening cube.literals flat) (exact : FlatIsExact) where
  good : (values : Named) → IsValuedCube values cube → AllByRecursion (IsGood values) cube.literals
  good values v = each-good values cube.literals v asked.spelled

  -- a model of the flat cube, with a value for each constant
  pub sat-of : NamesAreSorted → (given full : Named) → IsModelOf flat given → AreOnlyIn flat given → IsFilledFrom given (clear_of terms) full → IsSatOf terms cube full
  sat-of sorted given full m only f =
      let v = asked.valued full f.just.valued in
      let names = sorted (sorts_by full) cube.literals flat (each-sorted full cube.literals v) flattening in
      let o = of-stays given full f.chosen flat m.words m.numbers m.of names in
      let w = f.worded m.worded in
      let e : Extends flat full = record { words = m.words; numbers = m.numbers; of = o; satisfied = m.satisfies } in
      record {
        holds = record { worded = w; valued = v; holds = (exact full cube.literals flat w (good full v) flattening).1 e };
        just = f.just;
        within = record {
          flat = flat;
          flattening = flattening;
          model = record { words = m.words; numbers = m.numbers; worded = w; of = o; satisfies = m.satisfies; within = m.within };
          defaults = λ name v no e. f.chosen name v e ∙ ap (or_default (kind v)) (only name no);
        };
      }

  -- where nothing satisfies the flat cube, the cube has no values
  pub none-of : EachSolution flat (λ ws ints. ⊥) → CubeHasNoValues cube
  none-of h values t =
      let e = (exact values cube.literals flat t.worded (good values t.valued) flattening).0 t.holds in
      h e.words e.numbers e.satisfied

  -- a reason of the flat cube is one of the cube
  pub cause-of : (r : OpenReason) → IsCauseOf flat r → IsCause terms cube r
  cause-of (reason.Fragment s) h = absurd h
  cause-of (reason.Wide n) h = absurd h
  cause-of (reason.States n) h = (flat, flattening, h)
  cause-of (reason.Splits n) h = (flat, flattening, h)
  cause-of (reason.Growth n) h = (flat, flattening, h)
  cause-of (reason.Length ms s) h = (flat, flattening, h)
  cause-of (reason.Arithmetic ms s e) h = (flat, flattening, h)

-- the default of its sort stays one
default-stays : (v : Value) (o : Option Value) → v ≡ or_default (kind v) o → ((w : Value) → o ≡ Some w → w ≡ default (kind w)) → v ≡ default (kind v)
default-stays v None e h = e
default-stays v (Some w) e h = by (same_sort (kind v) (kind w)) refl
  where
    by : (b : Bool) → same_sort (kind v) (kind w) ≡ b → v ≡ default (kind v)
    by true k = e ∙ ap (λ b. cond b w (default (kind v))) k ∙ h w refl ∙ ap default (sym (same-is (kind v) (kind w) k))
    by false k = e ∙ ap (λ b. cond b w (default (kind v))) k

-- values among which all that are given stay, and each is chosen from these, are a model of the same flat cube
module _ (given full : Named) (keeps : (n : Name) (x : Value) → value_of given n ≡ Some x → value_of full n ≡ Some x) (chosen : AreChosen given full) (worded : AreWorded full) where
  texts-keep : (vs : List Variable) (ws : List Word) → AllZip (NamesHave given) vs ws → AllZip (NamesHave full) vs ws
  texts-keep [] [] h = tt
  texts-keep [] (w ∷ ws) h = h
  texts-keep (v ∷ vs) [] h = h
  texts-keep (v ∷ vs) (w ∷ ws) h = (AllByRecursion-weaker (HasValue given (value.Text w)) (HasValue full (value.Text w)) (λ n e. keeps n (value.Text w) e) v.names h.0, texts-keep vs ws h.1)

  numbers-keep : (ns : List Name) (zs : List ℤ) → AllZip (λ n z. HasValue given (value.Number z) n) ns zs → AllZip (λ n z. HasValue full (value.Number z) n) ns zs
  numbers-keep [] [] h = tt
  numbers-keep [] (z ∷ zs) h = h
  numbers-keep (n ∷ ns) [] h = h
  numbers-keep (n ∷ ns) (z ∷ zs) h = (keeps n (value.Number z) h.0, numbers-keep ns zs h.1)

  pub model-keeps : (cube : Cube) → IsModelOfFlat cube given → IsModelOfFlat cube full
  model-keeps cube m = record {
    flat = m.flat;
    flattening = m.flattening;
    model = record {
      words = m.model.words;
      numbers = m.model.numbers;
      worded = worded;
      of = record {
        names = texts-keep m.flat.variables m.model.words m.model.of.names;
        integers = numbers-keep m.flat.integers m.model.numbers m.model.of.integers;
        truths = AllByRecursion-weaker (λ (t : Name × Bool). HasValue given (value.Truth t.1) t.0) (λ (t : Name × Bool). HasValue full (value.Truth t.1) t.0) (λ t e. keeps t.0 (value.Truth t.1) e) m.flat.truths m.model.of.truths;
      };
      satisfies = m.model.satisfies;
      within = m.model.within;
    };
    defaults = λ name v no e. default-stays v (value_of given name) (chosen name v e) (λ w f. m.defaults name w no f);
  }

-- the flat cube must be decided where the cube must
pub must-of : FlatIsOne → (cube : Cube) (flat : Flat) → IsFlattening cube.literals flat → MustDecideCube cube → MustDecideFlat flat
must-of one cube flat f m = subst MustDecideFlat (one cube.literals m.0 flat m.1 f) m.2

-- a cube that is refused need not be decided
pub refused-of : RefusedHasNone → (cube : Cube) (f : FlatFault) → IsRefusal f → IsFlattened cube.literals (Err f) → MustDecideCube cube → ⊥
refused-of none cube f r refused must = none cube.literals f r refused record { flat = must.0; flattening = must.1 }

-- and its answer is the refusal
pub refused-outcome : RefusedHasNone → (terms : List Term) (cube : Cube) (f : FlatFault) → IsFlattened cube.literals (Err f) → IfOk (refused_answer f) (IsOutcome terms cube)
refused-outcome none terms cube (fault.Outside l) refused = record { right = refused; decided = λ must. absurd (refused-of none cube (fault.Outside l) tt refused must) }
refused-outcome none terms cube (fault.Twice v) refused = record { right = refused; decided = λ must. absurd (refused-of none cube (fault.Twice v) tt refused must) }
refused-outcome none terms cube (fault.Cycle vs) refused = record { right = refused; decided = λ must. absurd (refused-of none cube (fault.Cycle vs) tt refused must) }
refused-outcome none terms cube (fault.Wide n) refused = record { right = refused; decided = λ must. absurd (refused-of none cube (fault.Wide n) tt refused must) }
refused-outcome none terms cube (fault.Memory e) refused = tt
