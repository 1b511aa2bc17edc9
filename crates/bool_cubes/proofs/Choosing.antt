-- Some cube of a tree is true exactly where the tree is, and their number is the count.
use Rattle.std.proofs.Common.{◌≡◌, refl, ap, ◌∙◌, ◌+◌, ◌*◌, List, [], ◌∷◌, ◌++◌, map, length, inl, inr, ◌↔◌, length-append, arith}
use Rattle.std.proofs.lemmas.List.{length-map}
use Rattle.std.specs.List.{AllByRecursion}
use Rattle.sv_list.specs.Lists.{AllByRecursion-append, AllByRecursion-first}
use Rattle.sv_terms.specs.Meaning.{Named}
use Rattle.sv_terms.specs.declared.term.Term.{Term}
use Rattle.literal_forms.specs.declared.literal.Literal.{Literal}
use Rattle.bool_cubes.specs.Trees.{Tree, always, never, one, both, either, tree_of}
use Rattle.bool_cubes.specs.Cubes.{choices, cubes, cube, count, cubes_of, CubeTrue, SomeCubeTrue, TreeTrue}
use Rattle.literal_forms.specs.Literals.{IsTrueLiteral, AreTrueLiterals, SomeOf}
use Rattle.literal_forms.specs.PastLaws.{some_left, some_right, some_cases}

module _ {X : Type 0} (P : X → Type 0) where
  pub all_second : (xs ys : List X) → AllByRecursion P (xs ++ ys) → AllByRecursion P ys
  all_second [] ys a = a
  all_second (x ∷ xs) ys a = all_second xs ys a.1

module _ {X : Type 0} (P : X → Type 0) where
  -- of the lists that begin with c
  begun : (c : List X) (ds : List (List X)) → AllByRecursion P c → SomeOf (AllByRecursion P) ds → SomeOf (AllByRecursion P) (map (λ d. c ++ d) ds)
  begun c [] a h = absurd h
  begun c (d ∷ ds) a (inl h) = inl (AllByRecursion-append P c d a h)
  begun c (d ∷ ds) a (inr h) = inr (begun c ds a h)

  begun_back : (c : List X) (ds : List (List X)) → SomeOf (AllByRecursion P) (map (λ d. c ++ d) ds) → AllByRecursion P c × SomeOf (AllByRecursion P) ds
  begun_back c [] h = absurd h
  begun_back c (d ∷ ds) (inl h) = (AllByRecursion-first P c d h, inl (all_second P c d h))
  begun_back c (d ∷ ds) (inr h) = let r = begun_back c ds h in (r.0, inr r.1)

  choose : (cs ds : List (List X)) → SomeOf (AllByRecursion P) cs → SomeOf (AllByRecursion P) ds → SomeOf (AllByRecursion P) (choices cs ds)
  choose [] ds h k = absurd h
  choose (c ∷ cs) ds (inl h) k = some_left (AllByRecursion P) (map (λ d. c ++ d) ds) (choices cs ds) (begun c ds h k)
  choose (c ∷ cs) ds (inr h) k = some_right (AllByRecursion P) (map (λ d. c ++ d) ds) (choices cs ds) (choose cs ds h k)

  choose_back : (cs ds : List (List X)) → SomeOf (AllByRecursion P) (choices cs ds) → SomeOf (AllByRecursion P) cs × SomeOf (AllByRecursion P) ds
  choose_back [] ds h = absurd h
  choose_back (c ∷ cs) ds h = elim (some_cases (AllByRecursion P) (map (λ d. c ++ d) ds) (choices cs ds) h) [
    | inl a ↦ let r = begun_back c ds a in (inl r.0, r.1)
    | inr b ↦ let r = choose_back cs ds b in (inr r.0, r.1)
  ]

module _ (values : Named) where
  -- some cube of a tree that is true
  pub tree_some : (t : Tree) → TreeTrue values t → SomeOf (AreTrueLiterals values) (cubes t)
  tree_some always h = inl tt
  tree_some never h = absurd h
  tree_some (one l) h = inl (h, tt)
  tree_some (both t u) h = choose (IsTrueLiteral values) (cubes t) (cubes u) (tree_some t h.0) (tree_some u h.1)
  tree_some (either t u) (inl h) = some_left (AreTrueLiterals values) (cubes t) (cubes u) (tree_some t h)
  tree_some (either t u) (inr h) = some_right (AreTrueLiterals values) (cubes t) (cubes u) (tree_some u h)

  pub some_tree : (t : Tree) → SomeOf (AreTrueLiterals values) (cubes t) → TreeTrue values t
  some_tree always h = tt
  some_tree never h = absurd h
  some_tree (one l) (inl h) = h.0
  some_tree (one l) (inr h) = absurd h
  some_tree (both t u) h = let r = choose_back (IsTrueLiteral values) (cubes t) (cubes u) h in (some_tree t r.0, some_tree u r.1)
  some_tree (either t u) h = elim (some_cases (AreTrueLiterals values) (cubes t) (cubes u) h) [ inl a ↦ inl (some_tree t a) | inr b ↦ inr (some_tree u b) ]

  some_cube : (cs : List (List Literal)) → SomeOf (AreTrueLiterals values) cs → SomeOf (CubeTrue values) (map cube cs)
  some_cube [] h = absurd h
  some_cube (c ∷ cs) (inl h) = inl h
  some_cube (c ∷ cs) (inr h) = inr (some_cube cs h)

  cube_some : (cs : List (List Literal)) → SomeOf (CubeTrue values) (map cube cs) → SomeOf (AreTrueLiterals values) cs
  cube_some [] h = absurd h
  cube_some (c ∷ cs) (inl h) = inl h
  cube_some (c ∷ cs) (inr h) = inr (cube_some cs h)

  -- some cube of the assertions is true exactly where their tree is
  pub cubes_true : (ts : List Term) → SomeCubeTrue values ts ↔ TreeTrue values (tree_of ts)
  cubes_true ts = (λ h. some_tree (tree_of ts) (cube_some (cubes (tree_of ts)) h), λ h. some_cube (cubes (tree_of ts)) (tree_some (tree_of ts) h))

-- the number of choices is a product
choices_length : {X : Type 0} (cs ds : List (List X)) → length (choices cs ds) ≡ length cs * length ds
choices_length [] ds = omega arith
choices_length (c ∷ cs) ds =
    length-append (map (λ d. c ++ d) ds) (choices cs ds) ∙ ap (λ n. n + length (choices cs ds)) (length-map ds (λ d. c ++ d)) ∙ ap (λ n. length ds + n) (choices_length cs ds) ∙ omega arith

pub cubes_length : (t : Tree) → length (cubes t) ≡ count t
cubes_length always = refl
cubes_length never = refl
cubes_length (one l) = refl
cubes_length (both t u) = choices_length (cubes t) (cubes u) ∙ ap (λ n. n * length (cubes u)) (cubes_length t) ∙ ap (λ n. count t * n) (cubes_length u)
cubes_length (either t u) = length-append (cubes t) (cubes u) ∙ ap (λ n. n + length (cubes u)) (cubes_length t) ∙ ap (λ n. count t + n) (cubes_length u)

-- their number is the count
pub cubes_counted : (ts : List Term) → length (cubes_of ts) ≡ count (tree_of ts)
cubes_counted ts = length-map (cubes (tree_of ts)) cube ∙ cubes_length (tree_of ts)
