-- A term and its shape: each is that of the other.
use Rattle.std.proofs.Common.{◌≡◌, refl, sym, ap, ◌∙◌, ℕ, ℤ, Bool, List, [], ◌∷◌, map}
use Rattle.sv_terms.specs.Language.{Word}
use Rattle.sv_terms.specs.declared.op.Op.{Op}
use Rattle.sv_terms.specs.declared.regex.Regex.{Regex}
use Rattle.sv_terms.specs.declared.sort.Sort.{Sort}
use Rattle.sv_terms.specs.declared.transducer.Transducer.{Transducer}
use Rattle.sv_terms.specs.declared.term.Term.{Term, roll-Term}
use Rattle.sv_terms.specs.declared.term.Term.TheVariants as v
use Rattle.sv_terms.specs.declared.term.Term.TheOpen.{Term-F}
use Rattle.sv_terms.specs.declared.term.Term.TheFolds.{map-Term, ind-Term, fold-roll-Term}
use Rattle.literal_forms.specs.Shapes.{Shape, Shapes, truth, number, text, constant, apply, member, related, opaque, end, ◌⨾◌, shapes, shape_layer, seen, raw, raws}

at : (t : Term) (x : Term-F Term) → roll-Term x ≡ t → seen t ≡ shape_layer (map-Term Term Shape seen x)
at t x e = ap seen (sym e) ∙ fold-roll-Term Shape shape_layer x

pub seen-Truth : (b : Bool) → seen (v.Truth b) ≡ truth b
seen-Truth b = at _ (Term-F.Truth b) (v.rolls-Truth b)

pub seen-Number : (n : ℤ) → seen (v.Number n) ≡ number n
seen-Number n = at _ (Term-F.Number n) (v.rolls-Number n)

pub seen-Text : (w : Word) → seen (v.Text w) ≡ text w
seen-Text w = at _ (Term-F.Text w) (v.rolls-Text w)

pub seen-Constant : (n : List ℕ) (s : Sort) → seen (v.Constant n s) ≡ constant n s
seen-Constant n s = at _ (Term-F.Constant n s) (v.rolls-Constant n s)

pub seen-Apply : (o : Op) (ts : List Term) → seen (v.Apply o ts) ≡ apply o (shapes (map seen ts))
seen-Apply o ts = at _ (Term-F.Apply o ts) (v.rolls-Apply o ts)

pub seen-InRe : (t : Term) (r : Regex) → seen (v.InRe t r) ≡ member (seen t) r
seen-InRe t r = at _ (Term-F.InRe t r) (v.rolls-InRe t r)

pub seen-Related : (m : Transducer) (t u : Term) → seen (v.Related m t u) ≡ related m (seen t) (seen u)
seen-Related m t u = at _ (Term-F.Related m t u) (v.rolls-Related m t u)

pub seen-Opaque : (s : Sort) → seen (v.Opaque s) ≡ opaque s
seen-Opaque s = at _ (Term-F.Opaque s) (v.rolls-Opaque s)

pub ruleset mirrors = (seen-Truth, seen-Number, seen-Text, seen-Constant, seen-Apply, seen-InRe, seen-Related, seen-Opaque)

-- the term of its shape
abbrev Same : Term → Type 0
Same t = raw (seen t) ≡ t

abbrev Kept : Type 0
Kept = (t : Term) × Same t

abbrev bare : List Kept → List Term
bare ys = map (λ y. y.0) ys

raws-seen : (ys : List Kept) → raws (shapes (map seen (bare ys))) ≡ bare ys
raws-seen [] = refl
raws-seen (y ∷ ys) = λ i. y.1 i ∷ raws-seen ys i

raw-step : (y : Term-F Kept) → raw (seen (roll-Term (map-Term Kept Term (λ e. e.0) y))) ≡ roll-Term (map-Term Kept Term (λ e. e.0) y)
raw-step (Term-F.Truth b) = ap (λ (t : Term). raw (seen t)) (v.rolls-Truth b) ∙ ap raw (seen-Truth b) ∙ sym (v.rolls-Truth b)
raw-step (Term-F.Number n) = ap (λ (t : Term). raw (seen t)) (v.rolls-Number n) ∙ ap raw (seen-Number n) ∙ sym (v.rolls-Number n)
raw-step (Term-F.Text w) = ap (λ (t : Term). raw (seen t)) (v.rolls-Text w) ∙ ap raw (seen-Text w) ∙ sym (v.rolls-Text w)
raw-step (Term-F.Constant n s) = ap (λ (t : Term). raw (seen t)) (v.rolls-Constant n s) ∙ ap raw (seen-Constant n s) ∙ sym (v.rolls-Constant n s)
raw-step (Term-F.Apply o ys) = ap (λ (t : Term). raw (seen t)) (v.rolls-Apply o (bare ys)) ∙ ap raw (seen-Apply o (bare ys)) ∙ ap (v.Apply o) (raws-seen ys) ∙ sym (v.rolls-Apply o (bare ys))
raw-step (Term-F.InRe y r) = ap (λ (t : Term). raw (seen t)) (v.rolls-InRe y.0 r) ∙ ap raw (seen-InRe y.0 r) ∙ ap (λ (t : Term). v.InRe t r) y.1 ∙ sym (v.rolls-InRe y.0 r)
raw-step (Term-F.Related m y z) = ap (λ (t : Term). raw (seen t)) (v.rolls-Related m y.0 z.0) ∙ ap raw (seen-Related m y.0 z.0) ∙ (λ i. v.Related m (y.1 i) (z.1 i)) ∙ sym (v.rolls-Related m y.0 z.0)
raw-step (Term-F.Opaque s) = ap (λ (t : Term). raw (seen t)) (v.rolls-Opaque s) ∙ ap raw (seen-Opaque s) ∙ sym (v.rolls-Opaque s)

raw-layer : (x : Term-F Term) (y : Term-F Kept) → map-Term Kept Term (λ e. e.0) y ≡ x → Same (roll-Term x)
raw-layer x y is = ap (λ (q : Term-F Term). raw (seen (roll-Term q))) (sym is) ∙ raw-step y ∙ ap roll-Term is

pub raw-seen : (t : Term) → raw (seen t) ≡ t
raw-seen = ind-Term Same raw-layer

-- the shape of the term of a shape
mutual
  pub seen-raw : (s : Shape) → seen (raw s) ≡ s
  seen-raw (truth b) = seen-Truth b
  seen-raw (number n) = seen-Number n
  seen-raw (text w) = seen-Text w
  seen-raw (constant name s) = seen-Constant name s
  seen-raw (apply o ss) = seen-Apply o (raws ss) ∙ ap (apply o) (shapes-raws ss)
  seen-raw (member s r) = seen-InRe (raw s) r ∙ ap (λ z. member z r) (seen-raw s)
  seen-raw (related t s u) = seen-Related t (raw s) (raw u) ∙ (λ i. related t (seen-raw s i) (seen-raw u i))
  seen-raw (opaque s) = seen-Opaque s

  pub shapes-raws : (ss : Shapes) → shapes (map seen (raws ss)) ≡ ss
  shapes-raws end = refl
  shapes-raws (s ⨾ ss) = λ i. seen-raw s i ⨾ shapes-raws ss i
