-- When two regular expressions are written the same, as a test that computes.
use Rattle.std.proofs.Common.{refl, sym, ap, ◌∙◌, subst}
use Rattle.std.specs.Prelude.{◌≡◌, ◌↔◌, ℕ, Bool, true, false, ◌&&◌, List, [], ◌∷◌, map, Option, Some, None, nat_eq, if◌then◌else◌, IsTrue}
use Rattle.std.specs.Cmp.{IsEquivalence, IsPartialEquivalence, partial_equiv_from_equiv}
use Rattle.std.specs.Cmp.Lexicographic.{pointwise, nat_list_eq_equiv}
use Rattle.std.proofs.lemmas.Bool.{eqb-true, eq-eqb, and_parts, and_from}
use Rattle.sv_list.specs.Bools.{tests-agree}
use Rattle.sv_terms.specs.declared.regex.Regex.{Regex, roll-Regex}
use Rattle.sv_terms.specs.declared.regex.Regex.TheFolds.{fold-Regex, fold-roll-Regex, ind-Regex, map-Regex}
use Rattle.sv_terms.specs.declared.regex.Regex.TheOpen.{Regex-F}
use Rattle.sv_terms.specs.declared.regex.Regex.TheViews.{out-Regex, out-roll-Regex, roll-out-Regex}
use Rattle.sv_terms.specs.Language.{Word}

-- which form it is, the numbers in it, and its parts
module _ {X : Type 0} where
  abbrev pub form : Regex-F X → ℕ
  form Regex-F.Empty = 0
  form Regex-F.All = 1
  form Regex-F.AnyChar = 2
  form (Regex-F.Text t) = 3
  form (Regex-F.Range lo hi) = 4
  form (Regex-F.Concat rs) = 5
  form (Regex-F.Union rs) = 6
  form (Regex-F.Inter rs) = 7
  form (Regex-F.Diff rs) = 8
  form (Regex-F.Star r) = 9
  form (Regex-F.Plus r) = 10
  form (Regex-F.Opt r) = 11
  form (Regex-F.Comp r) = 12
  form (Regex-F.Loop r i j) = 13

  abbrev pub numbers : Regex-F X → Word
  numbers (Regex-F.Text t) = t
  numbers (Regex-F.Range lo hi) = lo ∷ hi ∷ []
  numbers (Regex-F.Loop r i j) = i ∷ j ∷ []
  numbers _ = []

  abbrev pub parts : Regex-F X → List X
  parts (Regex-F.Concat rs) = rs
  parts (Regex-F.Union rs) = rs
  parts (Regex-F.Inter rs) = rs
  parts (Regex-F.Diff rs) = rs
  parts (Regex-F.Star r) = r ∷ []
  parts (Regex-F.Plus r) = r ∷ []
  parts (Regex-F.Opt r) = r ∷ []
  parts (Regex-F.Comp r) = r ∷ []
  parts (Regex-F.Loop r i j) = r ∷ []
  parts _ = []

  abbrev pub same_each : List (X → Bool) → List X → Bool
  same_each [] [] = true
  same_each (p ∷ ps) (x ∷ xs) = p x && same_each ps xs
  same_each _ _ = false

abbrev pub same_layer : Regex-F (Regex → Bool) → Regex → Bool
same_layer x r = nat_eq (form x) (form (out-Regex r)) && (pointwise nat_eq (numbers x) (numbers (out-Regex r)) && same_each (parts x) (parts (out-Regex r)))

-- whether two regular expressions are of one form, with the same numbers and, in turn, the same parts
pub same_regex : Regex → Regex → Bool
same_regex = fold-Regex (Regex → Bool) same_layer

-- an expression is made of its form, its numbers and its parts
module _ {X : Type 0} where
  with_two : (ℕ → ℕ → Regex-F X) → Word → Option (Regex-F X)
  with_two f (a ∷ b ∷ []) = Some (f a b)
  with_two f _ = None

  with_part : (X → Regex-F X) → List X → Option (Regex-F X)
  with_part f (x ∷ []) = Some (f x)
  with_part f _ = None

  looped : Word → X → Option (Regex-F X)
  looped ns x = with_two (Regex-F.Loop x) ns

  with_loop : Word → List X → Option (Regex-F X)
  with_loop ns (x ∷ []) = looped ns x
  with_loop ns _ = None

  made : ℕ → Word → List X → Option (Regex-F X)
  made k ns xs =
      if nat_eq k 0 then Some Regex-F.Empty
      else (if nat_eq k 1 then Some Regex-F.All
      else (if nat_eq k 2 then Some Regex-F.AnyChar
      else (if nat_eq k 3 then Some (Regex-F.Text ns)
      else (if nat_eq k 4 then with_two Regex-F.Range ns
      else (if nat_eq k 5 then Some (Regex-F.Concat xs)
      else (if nat_eq k 6 then Some (Regex-F.Union xs)
      else (if nat_eq k 7 then Some (Regex-F.Inter xs)
      else (if nat_eq k 8 then Some (Regex-F.Diff xs)
      else (if nat_eq k 9 then with_part Regex-F.Star xs
      else (if nat_eq k 10 then with_part Regex-F.Plus xs
      else (if nat_eq k 11 then with_part Regex-F.Opt xs
      else (if nat_eq k 12 then with_part Regex-F.Comp xs
      else with_loop ns xs))))))))))))

  made_of : (x : Regex-F X) → made (form x) (numbers x) (parts x) ≡ Some x
  unfolding with_two with_part looped with_loop made
  made_of Regex-F.Empty = refl
  made_of Regex-F.All = refl
  made_of Regex-F.AnyChar = refl
  made_of (Regex-F.Text t) = refl
  made_of (Regex-F.Range lo hi) = refl
  made_of (Regex-F.Concat rs) = refl
  made_of (Regex-F.Union rs) = refl
  made_of (Regex-F.Inter rs) = refl
  made_of (Regex-F.Diff rs) = refl
  made_of (Regex-F.Star r) = refl
  made_of (Regex-F.Plus r) = refl
  made_of (Regex-F.Opt r) = refl
  made_of (Regex-F.Comp r) = refl
  made_of (Regex-F.Loop r i j) = refl

  some_one : (x y : Regex-F X) → Some x ≡ Some y → x ≡ y
  some_one x y e = cc

  determined : (x y : Regex-F X) → form x ≡ form y → numbers x ≡ numbers y → parts x ≡ parts y → x ≡ y
  determined x y f n p =
      some_one x y (sym (made_of x) ∙ ap (λ k. made k (numbers x) (parts x)) f ∙ ap (λ (ns : Word). made (form y) ns (parts x)) n ∙ ap (made (form y) (numbers y)) p ∙ made_of y)

-- the parts of a mapped expression
module _ {X Y : Type 0} (f : X → Y) where
  mapped : (x : Regex-F X) → (form (map-Regex X Y f x) ≡ form x) × (numbers (map-Regex X Y f x) ≡ numbers x) × (parts (map-Regex X Y f x) ≡ map f (parts x))
  mapped Regex-F.Empty = (refl, refl, refl)
  mapped Regex-F.All = (refl, refl, refl)
  mapped Regex-F.AnyChar = (refl, refl, refl)
  mapped (Regex-F.Text t) = (refl, refl, refl)
  mapped (Regex-F.Range lo hi) = (refl, refl, refl)
  mapped (Regex-F.Concat rs) = (refl, refl, refl)
  mapped (Regex-F.Union rs) = (refl, refl, refl)
  mapped (Regex-F.Inter rs) = (refl, refl, refl)
  mapped (Regex-F.Diff rs) = (refl, refl, refl)
  mapped (Regex-F.Star r) = (refl, refl, refl)
  mapped (Regex-F.Plus r) = (refl, refl, refl)
  mapped (Regex-F.Opt r) = (refl, refl, refl)
  mapped (Regex-F.Comp r) = (refl, refl, refl)
  mapped (Regex-F.Loop r i j) = (refl, refl, refl)

pub words_one : (v w : Word) → IsTrue (pointwise nat_eq v w) → v ≡ w
words_one [] [] h = refl
words_one [] (d ∷ w) h = absurd (cc)
words_one (c ∷ v) [] h = absurd (cc)
words_one (c ∷ v) (d ∷ w) h =
    let k = and_parts (nat_eq c d) (pointwise nat_eq v w) h in
    ap (λ x. x ∷ v) (eqb-true c d k.0) ∙ ap (λ (w : Word). d ∷ w) (words_one v w k.1)

abbrev IsTold : Regex → Type 0
IsTold r = (s : Regex) → IsTrue (same_regex r s) ↔ (r ≡ s)

abbrev Told : Type 0
Told = (r : Regex) × IsTold r

abbrev regexes : List Told → List Regex
regexes ys = map (λ y. y.0) ys

each_one : (ys : List Told) (ss : List Regex) → IsTrue (same_each (map same_regex (regexes ys)) ss) → regexes ys ≡ ss
each_one [] [] h = refl
each_one [] (s ∷ ss) h = absurd (cc)
each_one (y ∷ ys) [] h = absurd (cc)
each_one (y ∷ ys) (s ∷ ss) h =
    let k = and_parts (same_regex y.0 s) (same_each (map same_regex (regexes ys)) ss) h in
    ap (λ r. r ∷ regexes ys) ((y.1 s).0 k.0) ∙ ap (λ (l : List Regex). s ∷ l) (each_one ys ss k.1)

each_same : (ys : List Told) → IsTrue (same_each (map same_regex (regexes ys)) (regexes ys))
each_same [] = refl
each_same (y ∷ ys) = and_from (same_regex y.0 y.0) (same_each (map same_regex (regexes ys)) (regexes ys)) ((y.1 y.0).1 refl) (each_same ys)

module _ (y : Regex-F Told) where
  regex : Regex-F Regex
  regex = map-Regex Told Regex (λ e. e.0) y

  layer_one : (s : Regex) → IsTrue (same_layer (map-Regex Regex (Regex → Bool) same_regex (map-Regex Told Regex (λ e. e.0) y)) s) → map-Regex Told Regex (λ e. e.0) y ≡ out-Regex s
  layer_one s h =
      let x = map-Regex Told Regex (λ e. e.0) y in
      let z = out-Regex s in
      let m = mapped same_regex x in
      let n = mapped (λ (e : Told). e.0) y in
      let a = and_parts _ _ h in
      let b = and_parts _ _ a.1 in
      determined x z
      (sym m.0 ∙ eqb-true (form (map-Regex Regex (Regex → Bool) same_regex x)) (form z) a.0)
      (sym m.1 ∙ words_one (numbers (map-Regex Regex (Regex → Bool) same_regex x)) (numbers z) b.0)
      (n.2 ∙ each_one (parts y) (parts z) (subst (λ (l : List Regex). IsTrue (same_each (map same_regex l) (parts z))) n.2 (subst (λ (l : List (Regex → Bool)). IsTrue (same_each l (parts z))) m.2 b.1)))

  layer_same : (s : Regex) → map-Regex Told Regex (λ e. e.0) y ≡ out-Regex s → IsTrue (same_layer (map-Regex Regex (Regex → Bool) same_regex (map-Regex Told Regex (λ e. e.0) y)) s)
  layer_same s e =
      let x = map-Regex Told Regex (λ e. e.0) y in
      let m = mapped same_regex x in
      let n = mapped (λ (e : Told). e.0) y in
      subst (λ (z : Regex-F Regex). IsTrue (nat_eq (form (map-Regex Regex (Regex → Bool) same_regex x)) (form z) && (pointwise nat_eq (numbers (map-Regex Regex (Regex → Bool) same_regex x)) (numbers z) && same_each (parts (map-Regex Regex (Regex → Bool) same_regex x)) (parts z)))) e
      (and_from _ _ (eq-eqb (form (map-Regex Regex (Regex → Bool) same_regex x)) (form x) m.0)
      (and_from _ _ (subst (λ (w : Word). IsTrue (pointwise nat_eq (numbers (map-Regex Regex (Regex → Bool) same_regex x)) w)) m.1 (nat_list_eq_equiv.refl (numbers (map-Regex Regex (Regex → Bool) same_regex x))))
      (subst (λ (l : List (Regex → Bool)). IsTrue (same_each l (parts x))) (sym m.2) (subst (λ (l : List Regex). IsTrue (same_each (map same_regex l) l)) (sym n.2) (each_same (parts y))))))

-- the test is true exactly where the two are one
pub same_regex-exact : (r s : Regex) → IsTrue (same_regex r s) ↔ (r ≡ s)
unfolding same_regex
same_regex-exact = ind-Regex IsTold (λ x y is s.
    let step : same_regex (roll-Regex x) s ≡ same_layer (map-Regex Regex (Regex → Bool) same_regex x) s = ap (λ (f : Regex → Bool). f s) (fold-roll-Regex (Regex → Bool) same_layer x) in
    let one = subst (λ z. IsTrue (same_layer (map-Regex Regex (Regex → Bool) same_regex z) s) → z ≡ out-Regex s) is (layer_one y s) in
    let same = subst (λ z. z ≡ out-Regex s → IsTrue (same_layer (map-Regex Regex (Regex → Bool) same_regex z) s)) is (layer_same y s) in (
      λ h. ap roll-Regex (one (sym step ∙ h)) ∙ roll-out-Regex s,
      λ e. step ∙ same (sym (out-roll-Regex x) ∙ ap out-Regex e),
    ))

pub same_regex-tells : (b : Bool) (r s : Regex) → IsTrue b ↔ (r ≡ s) → b ≡ same_regex r s
same_regex-tells b r s h = tests-agree b (same_regex r s) (r ≡ s) h (same_regex-exact r s)

turned : (r s : Regex) → IsTrue (same_regex s r) ↔ (r ≡ s)
turned r s = let k = same_regex-exact s r in (λ h. sym (k.0 h), λ e. k.1 (sym e))

pub same_regex_equiv : IsEquivalence same_regex
same_regex_equiv = record {
  refl = λ r. (same_regex-exact r r).1 refl;
  symm = λ r s. tests-agree (same_regex r s) (same_regex s r) (r ≡ s) (same_regex-exact r s) (turned r s);
  congr = λ r s t e. ap (λ q. same_regex q t) ((same_regex-exact r s).0 e);
}

pub same_regex_per : IsPartialEquivalence same_regex
same_regex_per = partial_equiv_from_equiv same_regex_equiv
