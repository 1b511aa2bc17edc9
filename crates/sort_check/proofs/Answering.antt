-- Answers of what is looked for in turn.
use Rattle.std.proofs.Common.{◌≡◌, refl, sym, ap, subst, ◌∙◌, ◌<◌, ◌≤◌, true, false, List, [], ◌∷◌, length, map, Some, Result, Ok, Err, arith}
use Rattle.sexpr_reader.specs.declared.sexpr.Sexpr.{Sexpr, roll-Sexpr}
use Rattle.sexpr_reader.specs.declared.sexpr.Sexpr.TheFolds.{ind-Sexpr, map-Sexpr}
use Rattle.sexpr_reader.specs.declared.sexpr.Sexpr.TheOpen.{Sexpr-F}
use Rattle.sexpr_reader.specs.declared.sexpr.Sexpr.TheVariants as v
use Rattle.smt_names.specs.declared.check_fault.CheckFault.{CheckFault}
use Rattle.sort_check.specs.Checking.{definition, free, is_empty, passed_definition, settled_definition, valued, values}
use Rattle.smt_names.specs.Tokens.{listed, sort_of}
use Rattle.smt_names.specs.Signature.{Name}
use Rattle.sort_check.specs.declared.commands.Command.{Command}
use Rattle.smt_names.specs.declared.check_fault.CheckFault.TheVariants as fault
use Rattle.sv_terms.specs.declared.sort.Sort.{Sort}
use Rattle.smt_names.specs.Faults.{Answers, and_then, ◌>>◌, or_fault}
use Rattle.smt_names.specs.Form.{Form, Forms, forms, seen, raw, raws, group}
use Rattle.smt_names.specs.Answering.{answers-same, fault-passes}
use Rattle.smt_names.specs.Shapes.{seen-Atom, seen-List, none-seen}
use Rattle.item_passes.specs.Passes.{passed}
use Rattle.term_walk.specs.Meant.{Names, settled_sorts}

-- a fault of what is looked for first
pub first-fault : {A : Type 0} (m : Result Unit CheckFault) (w : Result A CheckFault) (f : CheckFault) → Answers m (Err f) → Answers (m >> w) (Err f)
first-fault m w f a = fault-passes m (m >> w) f (λ k. ap (λ z. z >> w) k) a

-- what comes after it
pub first-passes : {A : Type 0} (m : Result Unit CheckFault) (w : Result A CheckFault) (u : Unit {0}) (r : Result A CheckFault) → m ≡ Ok u → Answers w r → Answers (m >> w) r
first-passes m w u r k a = answers-same w (m >> w) r (ap (λ z. z >> w) k) a

pub then-fault : {A B : Type 0} (next : A → Result B CheckFault) (m : Result A CheckFault) (f : CheckFault) → Answers m (Err f) → Answers (and_then next m) (Err f)
then-fault next m f a = fault-passes m (and_then next m) f (λ k. ap (and_then next) k) a

pub then-passes : {A B : Type 0} (next : A → Result B CheckFault) (m : Result A CheckFault) (x : A) (r : Result B CheckFault) → m ≡ Ok x → Answers (next x) r → Answers (and_then next m) r
then-passes next m x r k a = answers-same (next x) (and_then next m) r (ap (and_then next) k) a

-- what a form mirrors is the s-expression that it was seen of
abbrev Same : Sexpr → Type 0
Same s = raw (seen s) ≡ s

abbrev Kept : Type 0
Kept = (s : Sexpr) × Same s

abbrev bare : List Kept → List Sexpr
bare ys = map (λ (y : Kept). y.0) ys

raws-seen : (ys : List Kept) → raws (forms (map seen (bare ys))) ≡ bare ys
raws-seen [] = refl
raws-seen (y ∷ ys) = ap (λ (r : Sexpr). r ∷ raws (forms (map seen (bare ys)))) y.1 ∙ ap (λ (l : List Sexpr). y.0 ∷ l) (raws-seen ys)

raw-step : (y : Sexpr-F Kept) → raw (seen (roll-Sexpr (map-Sexpr Kept Sexpr (λ e. e.0) y))) ≡ roll-Sexpr (map-Sexpr Kept Sexpr (λ e. e.0) y)
raw-step (Sexpr-F.Atom k text) = ap (λ (s : Sexpr). raw (seen s)) (v.rolls-Atom k text) ∙ ap raw (seen-Atom k text) ∙ sym (v.rolls-Atom k text)
raw-step (Sexpr-F.List ys) = ap (λ (s : Sexpr). raw (seen s)) (v.rolls-List (bare ys)) ∙ ap raw (seen-List (bare ys)) ∙ ap v.List (raws-seen ys) ∙ sym (v.rolls-List (bare ys))

raw-layer : (x : Sexpr-F Sexpr) (y : Sexpr-F Kept) → map-Sexpr Kept Sexpr (λ e. e.0) y ≡ x → Same (roll-Sexpr x)
raw-layer x y is = ap (λ (q : Sexpr-F Sexpr). raw (seen (roll-Sexpr q))) (sym is) ∙ raw-step y ∙ ap roll-Sexpr is

pub raw-seen : (s : Sexpr) → raw (seen s) ≡ s
raw-seen = ind-Sexpr Same raw-layer

pub raws-all : (xs : List Sexpr) → raws (forms (map seen xs)) ≡ xs
raws-all [] = refl
raws-all (x ∷ xs) = λ i. raw-seen x i ∷ raws-all xs i

pub values-is : (symbols : Names) (xs : List Sexpr) → 1 ≤ length xs → values symbols (forms (map seen xs)) ≡ (passed (forms (map seen xs)) >> and_then (valued (forms (map seen xs))) (settled_sorts symbols [] (forms (map seen xs))))
values-is symbols [] h = absurd (omega arith)
values-is symbols (x ∷ xs) h = refl

pub ruleset answering = (first-fault, first-passes, then-fault, then-passes)

pub ruleset reading = (raws-all)

pub ruleset valuing = (none-seen, values-is, first-fault, first-passes, then-fault, then-passes)

module _ (b : Sexpr) (xs : List Sexpr) (is_ : b ≡ v.List xs) where
  pub empty-none : length xs < 1 → is_empty (listed (seen b)) ≡ true
  empty-none h = ap (λ f. is_empty (listed f)) (ap seen is_ ∙ seen-List xs ∙ ap group (none-seen xs h))

  pub empty-some : 1 ≤ length xs → is_empty (listed (seen b)) ≡ false
  empty-some h = ap (λ f. is_empty (listed f)) (ap seen is_ ∙ seen-List xs) ∙ go xs h
    where
      go : (xs : List Sexpr) → 1 ≤ length xs → is_empty (listed (group (forms (map seen xs)))) ≡ false
      go [] h = absurd (omega arith)
      go (x ∷ xs) h = refl

pub ruleset emptiness = (seen-Atom, empty-none, empty-some)

-- a name that may be declared, nothing found before the body is walked, and a sort that is known
pub defining : (S : Names) (m N : Name) (P : Forms) (W T : Form) (s : Sort) (u : Unit {0}) (r : Result Command CheckFault) → (m ≡ N) × (free S m ≡ Ok tt) → passed_definition P W T ≡ Ok u → Some s ≡ sort_of W → Answers (settled_definition S m P T s) r → Answers (definition S N P W T) r
defining S m N P W T s u r f p o a = subst (λ (n : Name). Answers (definition S n P W T) r) f.0 (first-passes (free S m) (passed_definition P W T >> and_then (settled_definition S m P T) (or_fault fault.Unknown (sort_of W))) tt r f.1 (first-passes (passed_definition P W T) (and_then (settled_definition S m P T) (or_fault fault.Unknown (sort_of W))) u r p (then-passes (settled_definition S m P T) (or_fault fault.Unknown (sort_of W)) s r (ap (or_fault fault.Unknown) (sym o)) a)))
