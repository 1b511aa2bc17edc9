-- When two regular expressions of one form are one: where their parts are.
use Rattle.std.proofs.Common.{◌≡◌, sym, ap, ◌∙◌, Bool, IsTrue, List}
use Rattle.std.specs.Prelude.{◌↔◌}
use Rattle.sv_terms.specs.declared.regex.Regex.{Regex, roll-Regex}
use Rattle.sv_terms.specs.declared.regex.Regex.TheVariants as v
use Rattle.sv_terms.specs.declared.regex.Regex.TheOpen.{Regex-F}
use Rattle.sv_terms.specs.declared.regex.Regex.TheViews.{out-Regex, out-roll-Regex}
use Rattle.sv_terms.specs.Language.{Word}

opened : (x y : Regex-F Regex) (r s : Regex) → roll-Regex x ≡ r → roll-Regex y ≡ s → r ≡ s → x ≡ y
opened x y r s p q e = sym (out-roll-Regex x) ∙ ap out-Regex (p ∙ e ∙ sym q) ∙ out-roll-Regex y

-- of one part each
by_part : {A : Type 0} (f : A → Regex) (q : Bool) (r s : Regex) (a b : A) → (f a ≡ f b → a ≡ b) → r ≡ f a → s ≡ f b → IsTrue q ↔ (a ≡ b) → IsTrue q ↔ (r ≡ s)
by_part f q r s a b one p k h = (λ t. p ∙ ap f (h.0 t) ∙ sym k, λ e. h.1 (one (sym p ∙ e ∙ k)))

one-Text : (a b : Word) → v.Text a ≡ v.Text b → a ≡ b
one-Text a b e = let k = opened (Regex-F.Text a) (Regex-F.Text b) _ _ (v.rolls-Text a) (v.rolls-Text b) e in cc

pub same-Text : (q : Bool) (r s : Regex) (a b : Word) → r ≡ v.Text a → s ≡ v.Text b → IsTrue q ↔ (a ≡ b) → IsTrue q ↔ (r ≡ s)
same-Text q r s a b = by_part v.Text q r s a b (one-Text a b)

one-Concat : (a b : List Regex) → v.Concat a ≡ v.Concat b → a ≡ b
one-Concat a b e = let k = opened (Regex-F.Concat a) (Regex-F.Concat b) _ _ (v.rolls-Concat a) (v.rolls-Concat b) e in cc

pub same-Concat : (q : Bool) (r s : Regex) (a b : List Regex) → r ≡ v.Concat a → s ≡ v.Concat b → IsTrue q ↔ (a ≡ b) → IsTrue q ↔ (r ≡ s)
same-Concat q r s a b = by_part v.Concat q r s a b (one-Concat a b)

one-Union : (a b : List Regex) → v.Union a ≡ v.Union b → a ≡ b
one-Union a b e = let k = opened (Regex-F.Union a) (Regex-F.Union b) _ _ (v.rolls-Union a) (v.rolls-Union b) e in cc

pub same-Union : (q : Bool) (r s : Regex) (a b : List Regex) → r ≡ v.Union a → s ≡ v.Union b → IsTrue q ↔ (a ≡ b) → IsTrue q ↔ (r ≡ s)
same-Union q r s a b = by_part v.Union q r s a b (one-Union a b)

one-Inter : (a b : List Regex) → v.Inter a ≡ v.Inter b → a ≡ b
one-Inter a b e = let k = opened (Regex-F.Inter a) (Regex-F.Inter b) _ _ (v.rolls-Inter a) (v.rolls-Inter b) e in cc

pub same-Inter : (q : Bool) (r s : Regex) (a b : List Regex) → r ≡ v.Inter a → s ≡ v.Inter b → IsTrue q ↔ (a ≡ b) → IsTrue q ↔ (r ≡ s)
same-Inter q r s a b = by_part v.Inter q r s a b (one-Inter a b)

one-Diff : (a b : List Regex) → v.Diff a ≡ v.Diff b → a ≡ b
one-Diff a b e = let k = opened (Regex-F.Diff a) (Regex-F.Diff b) _ _ (v.rolls-Diff a) (v.rolls-Diff b) e in cc

pub same-Diff : (q : Bool) (r s : Regex) (a b : List Regex) → r ≡ v.Diff a → s ≡ v.Diff b → IsTrue q ↔ (a ≡ b) → IsTrue q ↔ (r ≡ s)
same-Diff q r s a b = by_part v.Diff q r s a b (one-Diff a b)

one-Star : (a b : Regex) → v.Star a ≡ v.Star b → a ≡ b
one-Star a b e = let k = opened (Regex-F.Star a) (Regex-F.Star b) _ _ (v.rolls-Star a) (v.rolls-Star b) e in cc

pub same-Star : (q : Bool) (r s : Regex) (a b : Regex) → r ≡ v.Star a → s ≡ v.Star b → IsTrue q ↔ (a ≡ b) → IsTrue q ↔ (r ≡ s)
same-Star q r s a b = by_part v.Star q r s a b (one-Star a b)

one-Plus : (a b : Regex) → v.Plus a ≡ v.Plus b → a ≡ b
one-Plus a b e = let k = opened (Regex-F.Plus a) (Regex-F.Plus b) _ _ (v.rolls-Plus a) (v.rolls-Plus b) e in cc

pub same-Plus : (q : Bool) (r s : Regex) (a b : Regex) → r ≡ v.Plus a → s ≡ v.Plus b → IsTrue q ↔ (a ≡ b) → IsTrue q ↔ (r ≡ s)
same-Plus q r s a b = by_part v.Plus q r s a b (one-Plus a b)

one-Opt : (a b : Regex) → v.Opt a ≡ v.Opt b → a ≡ b
one-Opt a b e = let k = opened (Regex-F.Opt a) (Regex-F.Opt b) _ _ (v.rolls-Opt a) (v.rolls-Opt b) e in cc

pub same-Opt : (q : Bool) (r s : Regex) (a b : Regex) → r ≡ v.Opt a → s ≡ v.Opt b → IsTrue q ↔ (a ≡ b) → IsTrue q ↔ (r ≡ s)
same-Opt q r s a b = by_part v.Opt q r s a b (one-Opt a b)

one-Comp : (a b : Regex) → v.Comp a ≡ v.Comp b → a ≡ b
one-Comp a b e = let k = opened (Regex-F.Comp a) (Regex-F.Comp b) _ _ (v.rolls-Comp a) (v.rolls-Comp b) e in cc

pub same-Comp : (q : Bool) (r s : Regex) (a b : Regex) → r ≡ v.Comp a → s ≡ v.Comp b → IsTrue q ↔ (a ≡ b) → IsTrue q ↔ (r ≡ s)
same-Comp q r s a b = by_part v.Comp q r s a b (one-Comp a b)
