-- Building ends, and builds what the parts are.
use Rattle.std.proofs.Common.{◌≡◌, sym, ap, ◌∙◌, Bool, ℕ, ℤ, zero, suc, ◌+◌, ◌<◌, ◌≤◌, List, [], ◌∷◌, ◌++◌, length, map, get_or, take, Option, arith}
use Rattle.sv_terms.specs.declared.regex.Regex.{Regex}
use Rattle.sv_terms.specs.declared.entry.Body.{Body}
use Rattle.sv_terms.specs.declared.entry.Body.TheVariants as body
use Rattle.sv_terms.specs.declared.op.Op.{Op}
use Rattle.sv_terms.specs.declared.sort.Sort.{Sort}
use Rattle.sv_terms.specs.declared.term.Term.{Term, roll-Term}
use Rattle.sv_terms.specs.declared.term.Term.TheVariants as term
use Rattle.sv_terms.specs.declared.term.Term.TheOpen.{Term-F}
use Rattle.sv_terms.specs.declared.term.Term.TheFolds.{fold-Term, fold-roll-Term, map-Term}
use Rattle.sv_terms.specs.declared.transducer.Transducer.{Transducer}
use Rattle.term_draft.specs.declared.draft.DraftNode.{DraftNode}
use Rattle.term_draft.specs.declared.draft.DraftNode.TheVariants as node
use Rattle.term_draft.specs.declared.draft.DraftPart.{DraftPart}
use Rattle.term_weight.specs.Bodies.{or_constant, put_in, put_in_layer}
use Rattle.std.proofs.lemmas.List.{take_more, map_push}
use Rattle.smt_names.specs.Signature.{Name}
use Rattle.term_weight.specs.Sizes.{total}
use Rattle.term_draft.proofs.Drafting.{sense-at, sense-past}

-- terms at hand count more than what stands in them
abbrev size_layer : Term-F ℕ → ℕ
size_layer (Term-F.Apply o ns) = 4 + total ns
size_layer (Term-F.InRe n r) = 2 + n
size_layer (Term-F.Related m n k) = 2 + (n + k)
size_layer _ = 2

abbrev pub size : Term → ℕ
size = fold-Term ℕ size_layer

abbrev pub sizes : List Term → ℕ
sizes ts = 3 + total (map size ts)

pub size-of-one : (ts : List Term) (i : ℕ) (d : Term) → i < length ts → size (get_or ts i d) ≤ total (map size ts)
size-of-one [] i d h = absurd (omega arith)
size-of-one (t ∷ ts) zero d h = omega arith
size-of-one (t ∷ ts) (suc i) d h = let k = size-of-one ts i d (omega arith) in omega arith

abbrev body_size : Body → ℕ
body_size (body.Term t) = size t
body_size (body.Language r) = 0

-- a part at hand
abbrev pub node_cost : DraftNode → ℕ
node_cost (node.Called ps b places) = 3 + body_size b.now
node_cost _ = 3

abbrev pub cost : List DraftPart → ℕ
cost [] = 0
cost (p ∷ ps) = (1 + node_cost p.node) + cost ps

pub cost-before : (ps : List DraftPart) (i : ℕ) (d : DraftPart) → i < length ps → cost (take i ps) + node_cost (get_or ps i d).node < cost ps
cost-before [] i d h = absurd (omega arith)
cost-before (p ∷ ps) zero d h = omega arith
cost-before (p ∷ ps) (suc i) d h = let k = cost-before ps i d (omega arith) in omega arith

put-at : (found : Name → Option Term) (t : Term) (x : Term-F Term) → roll-Term x ≡ t → put_in found t ≡ put_in_layer found (map-Term Term Term (put_in found) x)
put-at found t x e = ap (put_in found) (sym e) ∙ fold-roll-Term Term (put_in_layer found) x

module _ (found : Name → Option Term) where
  pub put-Truth : (b : Bool) → put_in found (term.Truth b) ≡ term.Truth b
  put-Truth b = put-at found _ (Term-F.Truth b) (term.rolls-Truth b)

  pub put-Number : (n : ℤ) → put_in found (term.Number n) ≡ term.Number n
  put-Number n = put-at found _ (Term-F.Number n) (term.rolls-Number n)

  pub put-Text : (w : List ℕ) → put_in found (term.Text w) ≡ term.Text w
  put-Text w = put-at found _ (Term-F.Text w) (term.rolls-Text w)

  pub put-Constant : (n : Name) (s : Sort) → put_in found (term.Constant n s) ≡ or_constant n s (found n)
  put-Constant n s = put-at found _ (Term-F.Constant n s) (term.rolls-Constant n s)

  pub put-Apply : (o : Op) (ts : List Term) → put_in found (term.Apply o ts) ≡ term.Apply o (map (put_in found) ts)
  put-Apply o ts = put-at found _ (Term-F.Apply o ts) (term.rolls-Apply o ts)

  pub put-InRe : (t : Term) (r : Regex) → put_in found (term.InRe t r) ≡ term.InRe (put_in found t) r
  put-InRe t r = put-at found _ (Term-F.InRe t r) (term.rolls-InRe t r)

  pub put-Related : (m : Transducer) (t u : Term) → put_in found (term.Related m t u) ≡ term.Related m (put_in found t) (put_in found u)
  put-Related m t u = put-at found _ (Term-F.Related m t u) (term.rolls-Related m t u)

  pub put-Opaque : (s : Sort) → put_in found (term.Opaque s) ≡ term.Opaque s
  put-Opaque s = put-at found _ (Term-F.Opaque s) (term.rolls-Opaque s)

  -- what a term is with the arguments put in, by its form
  pub put-as : (t u v : Term) → t ≡ u → put_in found u ≡ v → v ≡ put_in found t
  put-as t u v e f = sym (ap (put_in found) e ∙ f)

  pub same-put : (t u : Term) → t ≡ u → put_in found u ≡ u → t ≡ put_in found t
  same-put t u e f = e ∙ put-as t u u e f

pub one-more : {A B : Type 0} (f : A → B) (as_ : List A) (i : ℕ) (d : A) (all next : List B) (r : B) → i < length as_ → d ≡ get_or as_ i d → all ≡ map f (take i as_) → r ≡ f d → next ≡ all ++ r ∷ [] → next ≡ map f (take (i + 1) as_)
one-more f as_ i d all next r h e g k l =
    l ∙ (λ j. g j ++ (k ∙ ap f e) j ∷ []) ∙ sym (map_push f (take i as_) (get_or as_ i d)) ∙ ap (map f) (sym (take_more as_ i d h))

pub ruleset building = (map_push, sense-at, sense-past, put-Truth, put-Number, put-Text, put-Constant, put-Apply, put-InRe, put-Related, put-Opaque)
