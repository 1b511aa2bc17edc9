-- Terms layer by layer: their words and weights.
use Rattle.std.proofs.Common.{◌≡◌, refl, sym, ap, ◌∙◌, ℕ, ◌+◌, ℤ, Bool, false, ◌||◌, List, [], ◌∷◌, map, Option, Some, None, arith}
use Rattle.std.proofs.lemmas.List.{map_push}
use Rattle.sv_terms.specs.declared.regex.Regex.{Regex, roll-Regex}
use Rattle.sv_terms.specs.declared.regex.Regex.TheVariants as re
use Rattle.sv_terms.specs.declared.regex.Regex.TheOpen.{Regex-F}
use Rattle.sv_terms.specs.declared.regex.Regex.TheFolds.{fold-Regex, fold-roll-Regex, map-Regex}
use Rattle.sv_terms.specs.declared.entry.Body.{Body}
use Rattle.sv_terms.specs.declared.entry.Body.TheVariants as body
use Rattle.sv_terms.specs.declared.op.Op.{Op}
use Rattle.sv_terms.specs.declared.sort.Sort.{Sort}
use Rattle.sv_terms.specs.declared.sort.Sort.TheVariants as sort
use Rattle.sv_terms.specs.declared.term.Term.{Term, roll-Term}
use Rattle.sv_terms.specs.declared.term.Term.TheVariants as term
use Rattle.sv_terms.specs.declared.term.Term.TheOpen.{Term-F}
use Rattle.sv_terms.specs.declared.term.Term.TheFolds.{fold-Term, map-Term}
use Rattle.sv_terms.specs.declared.transducer.Transducer.{Transducer}
use Rattle.sv_terms.specs.Sorting.{op_sort, layer_sort}
use Rattle.sv_terms.specs.SortingLaws.{fold-at}
use Rattle.term_weight.specs.declared.weight.Factor.{Factor}
use Rattle.term_weight.specs.declared.weight.Factor.TheVariants.{Literal, Known, Unknown}
use Rattle.term_weight.specs.declared.weight.Weight.{Weight}
use Rattle.term_weight.specs.Bodies.{body_sort, literal, factor, layer_word, layer_factor, applied_factor, holds, is_unknown, term_of}
use Rattle.term_weight.specs.Sizes.{total, greatest, one_more, one_deeper, term_measure, regex_measure, regex_nodes, regex_nesting}
use Rattle.term_weight.specs.Weights.{capped, weight_of, leaf, opaque_weight, language, regex_weight, as_term, op_weight, in_weight, related_weight, combined_weight}

word-at : (t : Term) (x : Term-F Term) → roll-Term x ≡ t → literal (body.Term t) ≡ layer_word (map-Term Term (Option (List ℕ)) (fold-Term (Option (List ℕ)) layer_word) x)
word-at t x e = fold-at (Option (List ℕ)) layer_word t x e

pub word-Truth : (b : Bool) → literal (body.Term (term.Truth b)) ≡ None
word-Truth b = word-at _ (Term-F.Truth b) (term.rolls-Truth b)

pub word-Number : (n : ℤ) → literal (body.Term (term.Number n)) ≡ None
word-Number n = word-at _ (Term-F.Number n) (term.rolls-Number n)

pub word-Text : (w : List ℕ) → literal (body.Term (term.Text w)) ≡ Some w
word-Text w = word-at _ (Term-F.Text w) (term.rolls-Text w)

pub word-Constant : (n : List ℕ) (s : Sort) → literal (body.Term (term.Constant n s)) ≡ None
word-Constant n s = word-at _ (Term-F.Constant n s) (term.rolls-Constant n s)

pub word-Apply : (o : Op) (ts : List Term) → literal (body.Term (term.Apply o ts)) ≡ None
word-Apply o ts = word-at _ (Term-F.Apply o ts) (term.rolls-Apply o ts)

pub word-InRe : (t : Term) (r : Regex) → literal (body.Term (term.InRe t r)) ≡ None
word-InRe t r = word-at _ (Term-F.InRe t r) (term.rolls-InRe t r)

pub word-Related : (m : Transducer) (t u : Term) → literal (body.Term (term.Related m t u)) ≡ None
word-Related m t u = word-at _ (Term-F.Related m t u) (term.rolls-Related m t u)

pub word-Opaque : (s : Sort) → literal (body.Term (term.Opaque s)) ≡ None
word-Opaque s = word-at _ (Term-F.Opaque s) (term.rolls-Opaque s)

pub ruleset words = (word-Truth, word-Number, word-Text, word-Constant, word-Apply, word-InRe, word-Related, word-Opaque)

-- sums of what ends at 2^32 - 1
cap-total : (n : ℕ) (ns : List ℕ) → capped (n + total (map capped ns)) ≡ capped (n + total ns)
cap-total n [] = refl
cap-total n (m ∷ ns) =
    let e : capped ((n + capped m) + total (map capped ns)) ≡ capped ((n + capped m) + total ns) = cap-total (n + capped m) ns in
    omega arith

cap-greatest : (ns : List ℕ) → capped (greatest (map capped ns)) ≡ capped (greatest ns)
cap-greatest [] = refl
cap-greatest (m ∷ ns) = let e = cap-greatest ns in omega arith

cap-deeper : (ns : List ℕ) → capped (one_deeper (map capped ns)) ≡ capped (one_deeper ns)
cap-deeper [] = refl
cap-deeper (m ∷ ns) = let e = cap-greatest ns in omega arith

module _ {X : Type 0} (f : X → Weight) (n d : X → ℕ) (nodes-so : (x : X) → (f x).nodes ≡ capped (n x)) (nesting-so : (x : X) → (f x).nesting ≡ capped (d x)) where
  nodes-all : (xs : List X) → map (λ w. w.nodes) (map f xs) ≡ map capped (map n xs)
  nodes-all [] = refl
  nodes-all (x ∷ xs) = λ i. nodes-so x i ∷ nodes-all xs i

  nesting-all : (xs : List X) → map (λ w. w.nesting) (map f xs) ≡ map capped (map d xs)
  nesting-all [] = refl
  nesting-all (x ∷ xs) = λ i. nesting-so x i ∷ nesting-all xs i

  pub around-nodes : (xs : List X) → capped (one_more (map n xs)) ≡ capped (one_more (map (λ w. w.nodes) (map f xs)))
  around-nodes xs = sym (cap-total 1 (map n xs)) ∙ ap (λ z. capped (1 + total z)) (sym (nodes-all xs))

  pub around-nesting : (xs : List X) → capped (one_deeper (map d xs)) ≡ capped (one_deeper (map (λ w. w.nesting) (map f xs)))
  around-nesting xs = sym (cap-deeper (map d xs)) ∙ ap (λ z. capped (one_deeper z)) (sym (nesting-all xs))

map-twice : {A B C : Type 0} (f : B → C) (g : A → B) (h : A → C) → ((a : A) → f (g a) ≡ h a) → (as_ : List A) → map f (map g as_) ≡ map h as_
map-twice f g h e [] = refl
map-twice f g h e (a ∷ as_) = λ i. e a i ∷ map-twice f g h e as_ i

abbrev term_weight : Term → Weight
term_weight t = weight_of (body.Term t)

abbrev term_nodes : Term → ℕ
term_nodes = fold-Term ℕ (term_measure regex_nodes one_more)

abbrev term_nesting : Term → ℕ
term_nesting = fold-Term ℕ (term_measure regex_nesting one_deeper)

-- the four folds of a weight at a layer
module _ (t : Term) (x : Term-F Term) (e : roll-Term x ≡ t) where
  sort-so : body_sort (body.Term t) ≡ layer_sort (map-Term Term Sort (fold-Term Sort layer_sort) x)
  sort-so = fold-at Sort layer_sort t x e

  factor-so : factor (body.Term t) ≡ layer_factor (map-Term Term Factor (fold-Term Factor layer_factor) x)
  factor-so = fold-at Factor layer_factor t x e

  nodes-so : term_nodes t ≡ term_measure regex_nodes one_more (map-Term Term ℕ term_nodes x)
  nodes-so = fold-at ℕ (term_measure regex_nodes one_more) t x e

  nesting-so : term_nesting t ≡ term_measure regex_nesting one_deeper (map-Term Term ℕ term_nesting x)
  nesting-so = fold-at ℕ (term_measure regex_nesting one_deeper) t x e

  layer-weight : (s : Sort) (f : Factor) (n d : ℕ) → layer_sort (map-Term Term Sort (fold-Term Sort layer_sort) x) ≡ s → layer_factor (map-Term Term Factor (fold-Term Factor layer_factor) x) ≡ f → capped (term_measure regex_nodes one_more (map-Term Term ℕ term_nodes x)) ≡ n → capped (term_measure regex_nesting one_deeper (map-Term Term ℕ term_nesting x)) ≡ d → term_weight t ≡ record { sort = s; factor = f; is_language = false; nodes = n; nesting = d }
  layer-weight s f n d a b p q = λ i. record { sort = (sort-so ∙ a) i; factor = (factor-so ∙ b) i; is_language = false; nodes = (ap capped nodes-so ∙ p) i; nesting = (ap capped nesting-so ∙ q) i }

pub weight-Truth : (b : Bool) → weight_of (body.Term (term.Truth b)) ≡ leaf sort.Bool Known
weight-Truth b = layer-weight _ (Term-F.Truth b) (term.rolls-Truth b) sort.Bool Known 1 0 refl refl refl refl

pub weight-Number : (n : ℤ) → weight_of (body.Term (term.Number n)) ≡ leaf sort.Int Known
weight-Number n = layer-weight _ (Term-F.Number n) (term.rolls-Number n) sort.Int Known 1 0 refl refl refl refl

pub weight-Text : (w : List ℕ) → weight_of (body.Term (term.Text w)) ≡ leaf sort.String Literal
weight-Text w = layer-weight _ (Term-F.Text w) (term.rolls-Text w) sort.String Literal 1 0 refl refl refl refl

pub weight-Constant : (n : List ℕ) (s : Sort) → weight_of (body.Term (term.Constant n s)) ≡ leaf s Unknown
weight-Constant n s = layer-weight _ (Term-F.Constant n s) (term.rolls-Constant n s) s Unknown 1 0 refl refl refl refl

pub weight-Opaque : (s : Sort) → weight_of (body.Term (term.Opaque s)) ≡ opaque_weight s
weight-Opaque s = layer-weight _ (Term-F.Opaque s) (term.rolls-Opaque s) s Unknown 1 0 refl refl refl refl

pub weight-Apply : (o : Op) (ts : List Term) → weight_of (body.Term (term.Apply o ts)) ≡ op_weight o (map (λ t. weight_of (body.Term t)) ts)
weight-Apply o ts = layer-weight _ (Term-F.Apply o ts) (term.rolls-Apply o ts) (op_sort o) (applied_factor o (map (λ w. w.factor) (map term_weight ts))) _ _
    refl
    (ap (applied_factor o) (sym (map-twice (λ w. w.factor) term_weight (fold-Term Factor layer_factor) (λ t. refl) ts)))
    (around-nodes term_weight term_nodes term_nesting (λ t. refl) (λ t. refl) ts)
    (around-nesting term_weight term_nodes term_nesting (λ t. refl) (λ t. refl) ts)

pub weight-InRe : (t : Term) (r : Regex) → weight_of (body.Term (term.InRe t r)) ≡ in_weight (weight_of (body.Term t)) (regex_weight r)
weight-InRe t r = layer-weight _ (Term-F.InRe t r) (term.rolls-InRe t r) sort.Bool (holds (is_unknown (factor (body.Term t)))) _ _
    refl refl (sym (cap-total 1 (term_nodes t ∷ regex_nodes r ∷ []))) (sym (cap-deeper (term_nesting t ∷ regex_nesting r ∷ [])))

pub weight-Related : (m : Transducer) (t u : Term) → weight_of (body.Term (term.Related m t u)) ≡ related_weight (weight_of (body.Term t)) (weight_of (body.Term u))
weight-Related m t u = layer-weight _ (Term-F.Related m t u) (term.rolls-Related m t u) sort.Bool (holds (is_unknown (factor (body.Term t)) || is_unknown (factor (body.Term u)))) _ _
    refl refl (sym (cap-total 1 (term_nodes t ∷ term_nodes u ∷ []))) (sym (cap-deeper (term_nesting t ∷ term_nesting u ∷ [])))

pub weight-term_of : (b : Body) → weight_of (body.Term (term_of b)) ≡ as_term (weight_of b)
weight-term_of (body.Term t) = refl
weight-term_of (body.Language r) = weight-Opaque sort.RegLan

pub ruleset weights = (weight-Truth, weight-Number, weight-Text, weight-Constant, weight-Opaque, weight-Apply, weight-InRe, weight-Related)

-- regular expressions
regex-at : (step : Regex-F ℕ → ℕ) (r : Regex) (x : Regex-F Regex) → roll-Regex x ≡ r → fold-Regex ℕ step r ≡ step (map-Regex Regex ℕ (fold-Regex ℕ step) x)
regex-at step r x e = ap (fold-Regex ℕ step) (sym e) ∙ fold-roll-Regex ℕ step x

regex-layer : (r : Regex) (x : Regex-F Regex) → roll-Regex x ≡ r → (n d : ℕ) → capped (regex_measure one_more (map-Regex Regex ℕ regex_nodes x)) ≡ n → capped (regex_measure one_deeper (map-Regex Regex ℕ regex_nesting x)) ≡ d → regex_weight r ≡ language n d
regex-layer r x e n d p q = λ i. language ((ap capped (regex-at (regex_measure one_more) r x e) ∙ p) i) ((ap capped (regex-at (regex_measure one_deeper) r x e) ∙ q) i)

many-nodes : (rs : List Regex) → capped (one_more (map regex_nodes rs)) ≡ capped (one_more (map (λ w. w.nodes) (map regex_weight rs)))
many-nodes rs = around-nodes regex_weight regex_nodes regex_nesting (λ r. refl) (λ r. refl) rs

many-nesting : (rs : List Regex) → capped (one_deeper (map regex_nesting rs)) ≡ capped (one_deeper (map (λ w. w.nesting) (map regex_weight rs)))
many-nesting rs = around-nesting regex_weight regex_nodes regex_nesting (λ r. refl) (λ r. refl) rs

pub weight-Empty : regex_weight re.Empty ≡ language 1 0
weight-Empty = regex-layer _ Regex-F.Empty re.rolls-Empty 1 0 refl refl

pub weight-All : regex_weight re.All ≡ language 1 0
weight-All = regex-layer _ Regex-F.All re.rolls-All 1 0 refl refl

pub weight-AnyChar : regex_weight re.AnyChar ≡ language 1 0
weight-AnyChar = regex-layer _ Regex-F.AnyChar re.rolls-AnyChar 1 0 refl refl

pub weight-Word : (w : List ℕ) → regex_weight (re.Text w) ≡ language 1 0
weight-Word w = regex-layer _ (Regex-F.Text w) (re.rolls-Text w) 1 0 refl refl

pub weight-Range : (lo hi : ℕ) → regex_weight (re.Range lo hi) ≡ language 1 0
weight-Range lo hi = regex-layer _ (Regex-F.Range lo hi) (re.rolls-Range lo hi) 1 0 refl refl

pub weight-Concat : (rs : List Regex) → regex_weight (re.Concat rs) ≡ combined_weight (map regex_weight rs)
weight-Concat rs = regex-layer _ (Regex-F.Concat rs) (re.rolls-Concat rs) _ _ (many-nodes rs) (many-nesting rs)

pub weight-Union : (rs : List Regex) → regex_weight (re.Union rs) ≡ combined_weight (map regex_weight rs)
weight-Union rs = regex-layer _ (Regex-F.Union rs) (re.rolls-Union rs) _ _ (many-nodes rs) (many-nesting rs)

pub weight-Inter : (rs : List Regex) → regex_weight (re.Inter rs) ≡ combined_weight (map regex_weight rs)
weight-Inter rs = regex-layer _ (Regex-F.Inter rs) (re.rolls-Inter rs) _ _ (many-nodes rs) (many-nesting rs)

pub weight-Diff : (rs : List Regex) → regex_weight (re.Diff rs) ≡ combined_weight (map regex_weight rs)
weight-Diff rs = regex-layer _ (Regex-F.Diff rs) (re.rolls-Diff rs) _ _ (many-nodes rs) (many-nesting rs)

pub weight-Star : (r : Regex) → regex_weight (re.Star r) ≡ combined_weight (regex_weight r ∷ [])
weight-Star r = regex-layer _ (Regex-F.Star r) (re.rolls-Star r) _ _ (many-nodes (r ∷ [])) (many-nesting (r ∷ []))

pub weight-Plus : (r : Regex) → regex_weight (re.Plus r) ≡ combined_weight (regex_weight r ∷ [])
weight-Plus r = regex-layer _ (Regex-F.Plus r) (re.rolls-Plus r) _ _ (many-nodes (r ∷ [])) (many-nesting (r ∷ []))

pub weight-Opt : (r : Regex) → regex_weight (re.Opt r) ≡ combined_weight (regex_weight r ∷ [])
weight-Opt r = regex-layer _ (Regex-F.Opt r) (re.rolls-Opt r) _ _ (many-nodes (r ∷ [])) (many-nesting (r ∷ []))

pub weight-Comp : (r : Regex) → regex_weight (re.Comp r) ≡ combined_weight (regex_weight r ∷ [])
weight-Comp r = regex-layer _ (Regex-F.Comp r) (re.rolls-Comp r) _ _ (many-nodes (r ∷ [])) (many-nesting (r ∷ []))

pub weight-Loop : (r : Regex) (i j : ℕ) → regex_weight (re.Loop r i j) ≡ combined_weight (regex_weight r ∷ [])
weight-Loop r i j = regex-layer _ (Regex-F.Loop r i j) (re.rolls-Loop r i j) _ _ (many-nodes (r ∷ [])) (many-nesting (r ∷ []))

pub ruleset regexes = (map_push, weight-Empty, weight-All, weight-AnyChar, weight-Word, weight-Range, weight-Concat, weight-Union, weight-Inter, weight-Diff, weight-Star, weight-Plus, weight-Opt, weight-Comp, weight-Loop)
