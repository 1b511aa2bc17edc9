-- The test is true exactly of the pairs that a transducer relates.
use Rattle.std.proofs.Common.{◌≡◌, refl, sym, ap, ◌∙◌, subst, ℕ, zero, suc, ◌<◌, List, [], ◌∷◌, ◌++◌, length, drop, get_or, ⊎_elim, IsTrue, ◌↔◌, Bool, ◌&&◌, arith, nat_eq, rules, Contains, Option, Some, None, leb-true, le-leb, eqb-true, eq-eqb}
use Rattle.std.specs.Prelude.{nat_le}
use Rattle.std.proofs.lemmas.List.{append_assoc}
use Rattle.std.specs.List.{list_any}
use Rattle.std.specs.Cmp.Lexicographic.{pointwise}
use Rattle.std.proofs.lemmas.Grind.{common_steps}
use Rattle.std.proofs.lemmas.Bool.{and_parts, and_from, or_cases, or_left, or_right}
use Rattle.sv_list.specs.Lists.{Contains-there}
use Rattle.sv_terms.specs.Language.{Word}
use Rattle.sv_terms.specs.Replacement.{begins}
use Rattle.sv_terms.specs.declared.transducer.Transducer.{Transducer}
use Rattle.sv_terms.specs.Transduction.{written_at, Writes, test_behind, writes, Pairs}
use Rattle.sv_terms.specs.Written.{words_one}
use Rattle.sv_terms.specs.ReplacementLaws.{begins-split, begins-of}

any_some : {X : Type 0} (p : X → Bool) (xs : List X) → IsTrue (list_any p xs) → (x : X) × Contains xs x × IsTrue (p x)
any_some p [] h = cc
any_some {X} p (y ∷ xs) h =
    let here : IsTrue (p y) → (x : X) × Contains (y ∷ xs) x × IsTrue (p x) = λ a. (y, (0, omega arith, refl), a) in
    let later : IsTrue (list_any p xs) → (x : X) × Contains (y ∷ xs) x × IsTrue (p x) = λ a. let k = any_some p xs a in (k.0, Contains-there y xs k.0 k.1, k.2) in
    ⊎_elim here later (or_cases _ _ h)

some_any : {X : Type 0} (p : X → Bool) (xs : List X) (x : X) (k : ℕ) → k < length xs → get_or xs k x ≡ x → IsTrue (p x) → IsTrue (list_any p xs)
some_any p [] x k h e a = absurd (omega arith)
some_any p (y ∷ xs) x zero h e a = or_left _ _ (subst (λ z. IsTrue (p z)) (sym e) a)
some_any p (y ∷ xs) x (suc k) h e a = or_right _ _ (some_any p xs x k (omega arith) e a)

is_word : (v w : Word) → v ≡ w → IsTrue (pointwise nat_eq v w)
is_word v w e = search (rules, e)

drop_front : (p v : Word) → drop (length p) (p ++ v) ≡ v
drop_front [] v = grind (arith, common_steps)
drop_front (c ∷ p) v = drop_front p v

-- the word stands at the front, and the test holds behind it
behind_some : (o : Option Word) (test : Word → Bool) (w : Word) → IsTrue (test_behind o test w)
    → (v : Word) × (o ≡ Some v) × (w ≡ v ++ drop (length v) w) × IsTrue (test (drop (length v) w))
behind_some None test w h = cc
behind_some (Some v) test w h = let k = and_parts (begins v w) (test (drop (length v) w)) h in (v, refl, begins-split v w k.0, k.1)

some_behind : (o : Option Word) (test : Word → Bool) (v rest : Word) → o ≡ Some v → IsTrue (test rest) → IsTrue (test_behind o test (v ++ rest))
some_behind o test v rest e h =
    subst (λ z. IsTrue (test_behind z test (v ++ rest))) (sym e)
    (and_from (begins v (v ++ rest)) (test (drop (length v) (v ++ rest))) (begins-of v rest) (subst (λ z. IsTrue (test z)) (sym (drop_front v rest)) h))

writes_to : (t : Transducer) (s : ℕ) (r w : Word) → IsTrue (writes t s r w) → Writes t s r w
writes_to t s [] w h =
    let k = any_some (λ e. nat_eq e.0 s && pointwise nat_eq e.1 w) t.ends h in
    let a = and_parts (nat_eq k.0.0 s) (pointwise nat_eq k.0.1 w) k.2 in
    let e : k.0 ≡ (s, w) = let n : k.0.0 ≡ s = eqb-true k.0.0 s a.0 in let m : k.0.1 ≡ w = words_one k.0.1 w a.1 in λ i. (n i, m i) in
    (s, [], w, (refl, refl), subst (λ z. Contains t.ends z) e k.1, refl)
writes_to t s (c ∷ r) w h =
    let k = any_some (λ e. nat_eq e.from s && nat_le e.lo c && nat_le c e.hi && test_behind (written_at c e.items) (writes t e.to r) w) t.edges h in
    let e = k.0 in
    let a = and_parts _ _ k.2 in
    let d = and_parts _ _ a.0 in
    let f = and_parts _ _ d.0 in
    let v = behind_some (written_at c e.items) (writes t e.to r) w a.1 in
    let more = writes_to t e.to r (drop (length v.0) w) v.3 in (
      more.0,
      v.0 ++ more.1,
      more.2,
      (e, v.0, more.1, k.1, (eqb-true _ _ f.0, leb-true _ _ f.1, leb-true _ _ d.1, v.1), refl, more.3),
      more.4,
      v.2 ∙ ap (λ (z : Word). v.0 ++ z) more.5 ∙ sym (append_assoc v.0 more.1 more.2),
    )

writes_from : (t : Transducer) (s : ℕ) (r w : Word) → Writes t s r w → IsTrue (writes t s r w)
writes_from t s [] w p =
    let same : w ≡ p.2 = p.5 ∙ ap (λ (z : Word). z ++ p.2) p.3.0 in
    some_any _ t.ends (p.0, p.2) p.4.0 p.4.1 p.4.2 (and_from _ _ (eq-eqb p.0 s (sym p.3.1)) (is_word p.2 w (sym same)))
writes_from t s (c ∷ r) w p =
    let m = p.3 in
    let e = m.0 in
    let rest = m.2 ++ p.2 in
    let whole : w ≡ m.1 ++ rest = p.5 ∙ ap (λ (z : Word). z ++ p.2) m.5 ∙ append_assoc m.1 m.2 p.2 in
    let more : IsTrue (writes t e.to r rest) = writes_from t e.to r rest (p.0, m.2, p.2, m.6, p.4, refl) in
    let tail : IsTrue (test_behind (written_at c e.items) (writes t e.to r) w) =
    subst (λ z. IsTrue (test_behind (written_at c e.items) (writes t e.to r) z)) (sym whole) (some_behind (written_at c e.items) (writes t e.to r) m.1 rest m.4.3 more) in
    some_any _ t.edges e m.3.0 m.3.1 m.3.2 (and_from _ _ (and_from _ _ (and_from _ _ (eq-eqb _ _ m.4.0) (le-leb _ _ m.4.1)) (le-leb _ _ m.4.2)) tail)

pub writes-Pairs : (t : Transducer) (r w : Word) → IsTrue (writes t t.start r w) ↔ Pairs t r w
writes-Pairs t r w = (writes_to t t.start r w, writes_from t t.start r w)
