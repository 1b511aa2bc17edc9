-- The value of a term depends on the values of its constants alone.
use Rattle.std.proofs.Common.{◌≡◌, refl, sym, ap, ◌∙◌, subst, map, Bool, true, false, ◌||◌, IsTrue, ℕ, List, [], ◌∷◌, Option, nat_eq}
use Rattle.std.specs.List.{list_all, list_any}
use Rattle.std.specs.Map.{lookup}
use Rattle.std.specs.Cmp.Lexicographic.{pointwise}
use Rattle.std.proofs.lemmas.Bool.{and_parts, true≢false}
use Rattle.assertion_parts.specs.Constants.{mentions}
use Rattle.assertion_parts.proofs.Terms.{Each, at, induct, some-Apply, some-Constant, some-InRe, some-Related}
use Rattle.sort_check.specs.WellFormed.{constants_step, constants_are}
use Rattle.sv_terms.specs.Matches.{matches}
use Rattle.sv_terms.specs.Meaning.{Named, all_of, applied_if, tested, related, val_step, val}
use Rattle.sv_terms.specs.NamedLaws.{one-name}
use Rattle.sv_terms.specs.Parts.{some_step}
use Rattle.sv_terms.specs.Sorting.{is_of, valued_step, is_valued}
use Rattle.sv_terms.specs.declared.sort.Sort.{Sort}
use Rattle.sv_terms.specs.declared.term.Term.{Term, roll-Term}
use Rattle.sv_terms.specs.declared.term.Term.TheVariants as v
use Rattle.sv_terms.specs.declared.term.Term.TheOpen.{Term-F}
use Rattle.sv_terms.specs.declared.term.Term.TheFolds.{map-Term}
use Rattle.sv_terms.specs.declared.value.Value.{Value}

-- one of two holds
pub either : (A : Type 0) (p q : Bool) → (p || q) ≡ true → (p ≡ true → A) → (q ≡ true → A) → A
either A true q h f g = f refl
either A false q h f g = g h

-- values b that agree with the values a at each known constant which has one there
module _ (b a : Named) (known : List ℕ → Sort → Bool) (stays : (n : List ℕ) (s : Sort) → IsTrue (known n s) → IsTrue (is_of s (lookup (pointwise nat_eq n) a)) → lookup (pointwise nat_eq n) b ≡ lookup (pointwise nat_eq n) a) where
  abbrev Agrees : Term → Type 0
  Agrees t = IsTrue (constants_are known t) → IsTrue (is_valued a t) → val b t ≡ val a t

  known-from : (t : Term) (x : Term-F Term) → roll-Term x ≡ t → IsTrue (constants_are known t) → IsTrue (constants_step known (map-Term Term Bool (constants_are known) x))
  known-from t x r h = sym (at (constants_step known) t x r) ∙ h

  valued-from : (t : Term) (x : Term-F Term) → roll-Term x ≡ t → IsTrue (is_valued a t) → IsTrue (valued_step a (map-Term Term Bool (is_valued a) x))
  valued-from t x r h = sym (at (valued_step a) t x r) ∙ h

  -- what the layers of the two values say
  joined : (t : Term) (x : Term-F Term) → roll-Term x ≡ t → val_step b (map-Term Term (Option Value) (val b) x) ≡ val_step a (map-Term Term (Option Value) (val a) x) → val b t ≡ val a t
  joined t x r e = at (val_step b) t x r ∙ e ∙ sym (at (val_step a) t x r)

  agree-each : (ts : List Term) → Each Agrees ts → IsTrue (list_all (λ q. q) (map (constants_are known) ts)) → IsTrue (list_all (λ q. q) (map (is_valued a) ts)) → map (val b) ts ≡ map (val a) ts
  agree-each [] w h g = refl
  agree-each (t ∷ ts) w h g =
      let p = and_parts (constants_are known t) (list_all (λ q. q) (map (constants_are known) ts)) h in
      let q = and_parts (is_valued a t) (list_all (λ q. q) (map (is_valued a) ts)) g in
      λ i. w.0 p.0 q.0 i ∷ agree-each ts w.1 p.1 q.1 i

  pub agrees : (t : Term) → Agrees t
  agrees = induct Agrees
      (λ c h g. joined _ (Term-F.Truth c) (v.rolls-Truth c) refl)
      (λ n h g. joined _ (Term-F.Number n) (v.rolls-Number n) refl)
      (λ w h g. joined _ (Term-F.Text w) (v.rolls-Text w) refl)
      (λ n s h g. joined _ (Term-F.Constant n s) (v.rolls-Constant n s) (stays n s (known-from _ (Term-F.Constant n s) (v.rolls-Constant n s) h) (valued-from _ (Term-F.Constant n s) (v.rolls-Constant n s) g)))
      (λ o ts w h g. joined _ (Term-F.Apply o ts) (v.rolls-Apply o ts)
      (ap (λ l. applied_if o (all_of l)) (agree-each ts w (known-from _ (Term-F.Apply o ts) (v.rolls-Apply o ts) h) (valued-from _ (Term-F.Apply o ts) (v.rolls-Apply o ts) g))))
      (λ t r w h g. joined _ (Term-F.InRe t r) (v.rolls-InRe t r)
      (ap (tested (matches r)) (w (known-from _ (Term-F.InRe t r) (v.rolls-InRe t r) h) (valued-from _ (Term-F.InRe t r) (v.rolls-InRe t r) g))))
      (λ m t u w z h g.
      let p = and_parts (constants_are known t) (constants_are known u) (known-from _ (Term-F.Related m t u) (v.rolls-Related m t u) h) in
      let q = and_parts (is_valued a t) (is_valued a u) (valued-from _ (Term-F.Related m t u) (v.rolls-Related m t u) g) in
      joined _ (Term-F.Related m t u) (v.rolls-Related m t u) (λ i. related m (w p.0 q.0 i) (z p.1 q.1 i)))
      (λ s h g. joined _ (Term-F.Opaque s) (v.rolls-Opaque s) refl)

  -- and so they agree at each constant that a term mentions
  module _ (name : List ℕ) where
    abbrev HasName : List ℕ → Sort → Bool
    HasName other s = pointwise nat_eq name other

    abbrev Same : Type 0
    Same = lookup (pointwise nat_eq name) b ≡ lookup (pointwise nat_eq name) a

    abbrev AgreesAt : Term → Type 0
    AgreesAt t = IsTrue (constants_are known t) → IsTrue (is_valued a t) → mentions name t ≡ true → Same

    some-agrees : (ts : List Term) → Each AgreesAt ts → IsTrue (list_all (λ q. q) (map (constants_are known) ts)) → IsTrue (list_all (λ q. q) (map (is_valued a) ts)) → list_any (mentions name) ts ≡ true → Same
    some-agrees [] w h g m = absurd (true≢false (sym m))
    some-agrees (t ∷ ts) w h g m =
        let p = and_parts (constants_are known t) (list_all (λ q. q) (map (constants_are known) ts)) h in
        let q = and_parts (is_valued a t) (list_all (λ q. q) (map (is_valued a) ts)) g in
        either Same (mentions name t) (list_any (mentions name) ts) m (w.0 p.0 q.0) (some-agrees ts w.1 p.1 q.1)

    pub agrees-at : (t : Term) → AgreesAt t
    agrees-at = induct AgreesAt
        (λ c h g m. absurd (true≢false (sym m ∙ at (some_step HasName false) _ (Term-F.Truth c) (v.rolls-Truth c))))
        (λ n h g m. absurd (true≢false (sym m ∙ at (some_step HasName false) _ (Term-F.Number n) (v.rolls-Number n))))
        (λ w h g m. absurd (true≢false (sym m ∙ at (some_step HasName false) _ (Term-F.Text w) (v.rolls-Text w))))
        (λ n s h g m.
        subst (λ k. lookup (pointwise nat_eq k) b ≡ lookup (pointwise nat_eq k) a) (sym (one-name name n (sym (some-Constant HasName false n s) ∙ m)))
        (stays n s (known-from _ (Term-F.Constant n s) (v.rolls-Constant n s) h) (valued-from _ (Term-F.Constant n s) (v.rolls-Constant n s) g)))
        (λ o ts w h g m.
        some-agrees ts w (known-from _ (Term-F.Apply o ts) (v.rolls-Apply o ts) h) (valued-from _ (Term-F.Apply o ts) (v.rolls-Apply o ts) g) (sym (some-Apply HasName false o ts) ∙ m))
        (λ t r w h g m.
        w (known-from _ (Term-F.InRe t r) (v.rolls-InRe t r) h) (valued-from _ (Term-F.InRe t r) (v.rolls-InRe t r) g) (sym (some-InRe HasName false t r) ∙ m))
        (λ r t u w z h g m.
        let p = and_parts (constants_are known t) (constants_are known u) (known-from _ (Term-F.Related r t u) (v.rolls-Related r t u) h) in
        let q = and_parts (is_valued a t) (is_valued a u) (valued-from _ (Term-F.Related r t u) (v.rolls-Related r t u) g) in
        either Same (mentions name t) (mentions name u) (sym (some-Related HasName false r t u) ∙ m) (w p.0 q.0) (z p.1 q.1))
        (λ s h g m. absurd (true≢false (sym m ∙ at (some_step HasName false) _ (Term-F.Opaque s) (v.rolls-Opaque s))))
