-- Terms with parameters, summed up part by part.
use Rattle.std.proofs.Common.{◌≡◌, refl, sym, ap, subst, ◌∙◌, ℤ, ℕ, zero, suc, ◌+◌, ◌<◌, max, Bool, true, false, not, ◌||◌, List, [], ◌∷◌, length, map, take, get_or, Option, Some, None, arith, add-one}
use Rattle.std.specs.List.{list_any}
use Rattle.std.specs.Prelude.{IfSome, if◌then◌else◌}
use Rattle.std.specs.Option.{option_map}
use Rattle.sv_terms.specs.declared.op.Op.{Op}
use Rattle.sv_terms.specs.declared.regex.Regex.{Regex}
use Rattle.sv_terms.specs.declared.sort.Sort.{Sort}
use Rattle.sv_terms.specs.declared.sort.Sort.TheVariants as sort
use Rattle.sv_terms.specs.declared.term.Term.{Term}
use Rattle.sv_terms.specs.declared.term.Term.TheVariants as term
use Rattle.sv_terms.specs.declared.transducer.Transducer.{Transducer}
use Rattle.term_weight.specs.declared.share.Share.{Share}
use Rattle.term_weight.specs.declared.share.Uses.{Uses}
use Rattle.term_weight.specs.declared.tally.MacroSummary.{MacroSummary}
use Rattle.term_weight.specs.declared.weight.Factor.TheVariants.{Literal, Known, Unknown}
use Rattle.term_weight.specs.declared.weight.Weight.{Weight}
use Rattle.smt_names.specs.Signature.{Name}
use Rattle.term_weight.specs.Bodies.{is_unknown, holds}
use Rattle.term_weight.specs.Places.{shown, weight_found}
use Rattle.term_weight.specs.Sizes.{total, one_deeper}
use Rattle.term_weight.specs.Weights.{capped, leaf, as_term, op_weight, in_weight, related_weight, regex_weight, weighed, or_leaf, nth_if, opaque_weight, is_literal}
use Rattle.term_weight.specs.Summaries.{share, nothing, unknown_if, plus, argument, used, used_at, measured, raised, changed, all_used, share_of_call, part, part_named, shares, is_measure, PlacesAreWithin, Gains}
use Rattle.term_weight.specs.FactorLaws.{or-false, op-factor, unknown-holds}
use Rattle.term_weight.proofs.Layers.{weighed-Truth, weighed-Number, weighed-Text, weighed-Constant, weighed-Apply, weighed-InRe, weighed-Related, weighed-Opaque}
use Rattle.term_weight.proofs.Sharing.{shares-same, plus-swap, plus-assoc, used-more, used-measured, all-changed, length-changed}

-- one function around parts
shares-nodes : (d : ℕ) (ws : List Weight) → (shares d ws).nodes ≡ capped (total (map (λ w. w.nodes) ws))
shares-nodes d [] = refl
shares-nodes d (w ∷ ws) = let e = shares-nodes d ws in omega arith

shares-nesting : (d : ℕ) (ws : List Weight) → max (capped d) (shares (capped (d + 1)) ws).nesting ≡ capped (d + one_deeper (map (λ w. w.nesting) ws))
shares-nesting d [] = omega arith
shares-nesting d (w ∷ []) = omega arith
shares-nesting d (w ∷ v ∷ ws) = let e = shares-nesting d (v ∷ ws) in omega arith

shares-unknown : (d : ℕ) (ws : List Weight) → (shares d ws).is_unknown ≡ list_any is_unknown (map (λ w. w.factor) ws)
shares-unknown d [] = refl
shares-unknown d (w ∷ ws) = ap (λ z. is_unknown w.factor || z) (shares-unknown d ws)

-- a node, its parts one deeper, and an unknown of its own
pub op-shares : (d : ℕ) (o : Op) (ws : List Weight) → share d (op_weight o ws) ≡ plus (plus (share d (leaf sort.Bool Known)) (shares (capped (d + 1)) ws)) (unknown_if (is_measure o (map (λ w. w.factor) ws)))
op-shares d o ws =
    let n = shares-nodes (capped (d + 1)) ws in
    let m = shares-nesting d ws in
    shares-same _ _ (omega arith) (omega arith) (ap is_unknown (op-factor o (map (λ w. w.factor) ws)) ∙ unknown-holds _ ∙ ap (λ z. z || is_measure o (map (λ w. w.factor) ws)) (sym (shares-unknown (capped (d + 1)) ws)))

pub in-shares : (d : ℕ) (w r : Weight) → is_unknown r.factor ≡ false → share d (in_weight w r) ≡ plus (plus (share d (leaf sort.Bool Known)) (share (capped (d + 1)) w)) (share (capped (d + 1)) r)
in-shares d w r k = shares-same _ _ (omega arith) (omega arith) (unknown-holds _ ∙ or-false _ ∙ ap (λ z. is_unknown w.factor || z) (sym k))

pub related-shares : (d : ℕ) (v w : Weight) → share d (related_weight v w) ≡ plus (plus (share d (leaf sort.Bool Known)) (share (capped (d + 1)) v)) (share (capped (d + 1)) w)
related-shares d v w = shares-same _ _ (omega arith) (omega arith) (unknown-holds _)

-- what is part of a term stands as a term, which changes nothing there
as_term-twice : (w : Weight) → as_term (as_term w) ≡ as_term w
as_term-twice w = by_kind w.is_language refl
  where
    by_kind : (l : Bool) → w.is_language ≡ l → as_term (as_term w) ≡ as_term w
    by_kind true e = let f : as_term w ≡ opaque_weight sort.RegLan = ap (λ b. if b then opaque_weight sort.RegLan else w) e in ap as_term f ∙ sym f
    by_kind false e = let f : as_term w ≡ w = ap (λ b. if b then opaque_weight sort.RegLan else w) e in ap as_term f

module _ (places : List (Name × Option ℕ)) where
  pub gains-then : (a b c : MacroSummary) (f g : List Weight → Share) → Gains places a b f → Gains places b c g → Gains places a c (λ ws. plus (f ws) (g ws))
  gains-then a b c f g p q = record {
    kept = q.kept ∙ p.kept;
    added = λ cover ws. q.added (subst (PlacesAreWithin places) (sym p.kept) cover) ws ∙ ap (λ z. plus z (g ws)) (p.added cover ws) ∙ plus-assoc (share_of_call a ws) (f ws) (g ws);
  }

  pub gains-alike : (a b : MacroSummary) (f g : List Weight → Share) → Gains places a b f → ((ws : List Weight) → f ws ≡ g ws) → Gains places a b g
  gains-alike a b f g p e = record { kept = p.kept; added = λ cover ws. p.added cover ws ∙ ap (plus (share_of_call a ws)) (e ws) }

  -- at the place of a name
  pub gains-changed : (t : MacroSummary) (n : Name) (i : ℕ) (f : Uses → Uses) (x : Weight → Share) → ((u : Uses) (w : Weight) → used (f u) w ≡ plus (used u w) (x w)) → Some i ≡ shown n places → Gains places t (changed f i t) (λ ws. x (part_named places ws n))
  gains-changed t n i f x so e = record {
    kept = length-changed f i t.uses;
    added = λ cover ws.
        let h : i < length t.uses = subst (λ o. IfSome o (λ j. j < length t.uses)) (sym e) (cover.within n) in
        ap (plus t.own) (all-changed f x so t.uses i ws h)
        ∙ sym (plus-assoc t.own (all_used t.uses ws) (x (argument ws i)))
        ∙ ap (λ o. plus (share_of_call t ws) (x (or_leaf sort.Bool (option_map as_term (nth_if ws o))))) e;
  }

  pub gains-used : (t : MacroSummary) (n : Name) (i d : ℕ) → Some i ≡ shown n places → Gains places t (changed (used_at d) i t) (λ ws. share d (part_named places ws n))
  gains-used t n i d = gains-changed t n i (used_at d) (share d) (used-more d)

  -- what is found by its place
  abbrev found : List Weight → Name → Option Weight
  found ws = weight_found places ws

  named-part : (ws : List Weight) (n : Name) (s : Sort) → (part places ws (term.Constant n s)).factor ≡ (part_named places ws n).factor
  named-part ws n s = ap (λ w. (as_term w).factor) (weighed-Constant (found ws) n s) ∙ or-part (nth_if ws (shown n places))
    where
      or-part : (o : Option Weight) → (as_term (or_leaf s (option_map as_term o))).factor ≡ (or_leaf sort.Bool (option_map as_term o)).factor
      or-part None = refl
      or-part (Some w) = ap (λ z. z.factor) (as_term-twice w)

  pub measured-parameter : (t : MacroSummary) (n : Name) (s : Sort) (i : ℕ) → Some i ≡ shown n places → Gains places t (changed measured i t) (λ ws. unknown_if (not (is_literal (part places ws (term.Constant n s)).factor)))
  measured-parameter t n s i e = gains-alike t _ _ _ (gains-changed t n i measured (λ w. unknown_if (not (is_literal w.factor))) used-measured e) (λ ws. ap (λ f. unknown_if (not (is_literal f))) (sym (named-part ws n s)))

  pub gains-raised : (t u : MacroSummary) (s x : Share) → s ≡ x → u ≡ raised s t → Gains places t u (λ ws. x)
  gains-raised t u s x p q = record {
    kept = ap (λ m. length m.uses) q;
    added = λ cover ws. ap (λ m. share_of_call m ws) q ∙ plus-swap t.own s (all_used t.uses ws) ∙ ap (plus (share_of_call t ws)) p;
  }

  -- a length of what is no literal
  unknown_added : (t u : MacroSummary) (s : Share) (x y : Term) → x ≡ y → ((ws : List Weight) → is_literal (part places ws y).factor ≡ false) → s ≡ unknown_if true → u ≡ raised s t → Gains places t u (λ ws. unknown_if (not (is_literal (part places ws x).factor)))
  unknown_added t u s x y e f p q = gains-alike t u _ _ (gains-raised t u s (unknown_if true) p q) (λ ws. ap (λ b. unknown_if (not b)) (sym (ap (λ z. is_literal (part places ws z).factor) e ∙ f ws)))

  no_literal : (b : Bool) → is_literal (holds b) ≡ false
  no_literal true = refl
  no_literal false = refl

  module _ (t u : MacroSummary) (s : Share) (x : Term) where
    pub unknown-Truth : (b : Bool) → x ≡ term.Truth b → s ≡ unknown_if true → u ≡ raised s t → Gains places t u (λ ws. unknown_if (not (is_literal (part places ws x).factor)))
    unknown-Truth b e = unknown_added t u s x (term.Truth b) e (λ ws. ap (λ w. is_literal (as_term w).factor) (weighed-Truth (found ws) b))

    pub unknown-Number : (n : ℤ) → x ≡ term.Number n → s ≡ unknown_if true → u ≡ raised s t → Gains places t u (λ ws. unknown_if (not (is_literal (part places ws x).factor)))
    unknown-Number n e = unknown_added t u s x (term.Number n) e (λ ws. ap (λ w. is_literal (as_term w).factor) (weighed-Number (found ws) n))

    pub unknown-Apply : (o : Op) (ts : List Term) → x ≡ term.Apply o ts → s ≡ unknown_if true → u ≡ raised s t → Gains places t u (λ ws. unknown_if (not (is_literal (part places ws x).factor)))
    unknown-Apply o ts e = unknown_added t u s x (term.Apply o ts) e (λ ws.
        ap (λ w. is_literal (as_term w).factor) (weighed-Apply (found ws) o ts)
        ∙ ap is_literal (op-factor o (map (λ w. w.factor) (map as_term (map (weighed (found ws)) ts)))) ∙ no_literal _)

    pub unknown-InRe : (y : Term) (r : Regex) → x ≡ term.InRe y r → s ≡ unknown_if true → u ≡ raised s t → Gains places t u (λ ws. unknown_if (not (is_literal (part places ws x).factor)))
    unknown-InRe y r e = unknown_added t u s x (term.InRe y r) e (λ ws. ap (λ w. is_literal (as_term w).factor) (weighed-InRe (found ws) y r) ∙ no_literal _)

    pub unknown-Related : (m : Transducer) (y z : Term) → x ≡ term.Related m y z → s ≡ unknown_if true → u ≡ raised s t → Gains places t u (λ ws. unknown_if (not (is_literal (part places ws x).factor)))
    unknown-Related m y z e = unknown_added t u s x (term.Related m y z) e (λ ws. ap (λ w. is_literal (as_term w).factor) (weighed-Related (found ws) m y z) ∙ no_literal _)

    pub unknown-Opaque : (q : Sort) → x ≡ term.Opaque q → s ≡ unknown_if true → u ≡ raised s t → Gains places t u (λ ws. unknown_if (not (is_literal (part places ws x).factor)))
    unknown-Opaque q e = unknown_added t u s x (term.Opaque q) e (λ ws. ap (λ w. is_literal (as_term w).factor) (weighed-Opaque (found ws) q))

  -- parts without parts
  module _ (t u : MacroSummary) (d : ℕ) (x : Term) where
    pub gains-Truth : (b : Bool) → x ≡ term.Truth b → Gains places t u (λ ws. share d (leaf sort.Bool Known)) → Gains places t u (λ ws. share d (part places ws x))
    gains-Truth b e p = gains-alike t u _ _ p (λ ws. sym (ap (λ z. share d (part places ws z)) e ∙ ap (λ w. share d (as_term w)) (weighed-Truth (found ws) b)))

    pub gains-Number : (n : ℤ) → x ≡ term.Number n → Gains places t u (λ ws. share d (leaf sort.Bool Known)) → Gains places t u (λ ws. share d (part places ws x))
    gains-Number n e p = gains-alike t u _ _ p (λ ws. sym (ap (λ z. share d (part places ws z)) e ∙ ap (λ w. share d (as_term w)) (weighed-Number (found ws) n)))

    pub gains-Text : (v : List ℕ) → x ≡ term.Text v → Gains places t u (λ ws. share d (leaf sort.Bool Literal)) → Gains places t u (λ ws. share d (part places ws x))
    gains-Text v e p = gains-alike t u _ _ p (λ ws. sym (ap (λ z. share d (part places ws z)) e ∙ ap (λ w. share d (as_term w)) (weighed-Text (found ws) v)))

    pub gains-Opaque : (s : Sort) → x ≡ term.Opaque s → Gains places t u (λ ws. share d (leaf sort.Bool Unknown)) → Gains places t u (λ ws. share d (part places ws x))
    gains-Opaque s e p = gains-alike t u _ _ p (λ ws. sym (ap (λ z. share d (part places ws z)) e ∙ ap (λ w. share d (as_term w)) (weighed-Opaque (found ws) s)))

  -- terms, layer by layer
  map-part : (ws : List Weight) (ts : List Term) → map as_term (map (weighed (found ws)) ts) ≡ map (part places ws) ts
  map-part ws [] = refl
  map-part ws (t ∷ ts) = ap (λ z. part places ws t ∷ z) (map-part ws ts)

  module _ (a b c u : MacroSummary) (d below : ℕ) (deeper-by : below ≡ capped (d + 1)) (p : Gains places a b (λ ws. share d (leaf sort.Bool Known))) where
    pub gains-Apply : (o : Op) (ts xs : List Term) → xs ≡ ts → Gains places b c (λ ws. shares below (map (part places ws) xs)) → Gains places c u (λ ws. unknown_if (is_measure o (map (λ x. x.factor) (map (part places ws) xs)))) → Gains places a u (λ ws. share d (part places ws (term.Apply o ts)))
    gains-Apply o ts xs e q r = gains-alike a u _ _ (gains-then a c u _ _ (gains-then a b c _ _ p q) r) (λ ws.
        (λ i. plus (plus (share d (leaf sort.Bool Known)) (shares (deeper-by i) (map (part places ws) (e i)))) (unknown_if (is_measure o (map (λ x. x.factor) (map (part places ws) (e i))))))
        ∙ sym (
        ap (λ z. share d (as_term z)) (weighed-Apply (found ws) o ts ∙ ap (op_weight o) (map-part ws ts))
        ∙ op-shares d o (map (part places ws) ts)))

    pub gains-InRe : (x y : Term) (r : Regex) → y ≡ x → Gains places b c (λ ws. share below (part places ws y)) → Gains places c u (λ ws. share below (regex_weight r)) → Gains places a u (λ ws. share d (part places ws (term.InRe x r)))
    gains-InRe x y r e q s = gains-alike a u _ _ (gains-then a c u _ _ (gains-then a b c _ _ p q) s) (λ ws.
        (λ i. plus (plus (share d (leaf sort.Bool Known)) (share (deeper-by i) (part places ws (e i)))) (share (deeper-by i) (regex_weight r)))
        ∙ sym (
        ap (λ z. share d (as_term z)) (weighed-InRe (found ws) x r)
        ∙ in-shares d (part places ws x) (regex_weight r) refl))

    pub gains-Related : (m : Transducer) (v w x y : Term) → x ≡ v → y ≡ w → Gains places b c (λ ws. share below (part places ws x)) → Gains places c u (λ ws. share below (part places ws y)) → Gains places a u (λ ws. share d (part places ws (term.Related m v w)))
    gains-Related m v w x y e f q s = gains-alike a u _ _ (gains-then a c u _ _ (gains-then a b c _ _ p q) s) (λ ws.
        (λ i. plus (plus (share d (leaf sort.Bool Known)) (share (deeper-by i) (part places ws (e i)))) (share (deeper-by i) (part places ws (f i))))
        ∙ sym (
        ap (λ z. share d (as_term z)) (weighed-Related (found ws) m v w)
        ∙ related-shares d (part places ws v) (part places ws w)))

  -- several parts
  shares-next : (d : ℕ) (ws : List Weight) (ts : List Term) (i : ℕ) (x : Term) → i < length ts → x ≡ get_or ts i x → plus (shares d (map (part places ws) (take i ts))) (share d (part places ws x)) ≡ shares d (map (part places ws) (take (suc i) ts))
  shares-next d ws [] i x h e = absurd (omega arith)
  shares-next d ws (t ∷ ts) zero x h e = ap (λ z. plus nothing (share d (part places ws z))) e ∙ shares-same _ _ (omega arith) (omega arith) (or-false _)
  shares-next d ws (t ∷ ts) (suc i) x h e = plus-assoc (share d (part places ws t)) _ _ ∙ ap (plus (share d (part places ws t))) (shares-next d ws ts i x (omega arith) e)

  pub gains-next : (a b c : MacroSummary) (d : ℕ) (ts : List Term) (i : ℕ) (x : Term) → i < length ts → x ≡ get_or ts i x → Gains places a b (λ ws. shares d (map (part places ws) (take i ts))) → Gains places b c (λ ws. share d (part places ws x)) → Gains places a c (λ ws. shares d (map (part places ws) (take (i + 1) ts)))
  gains-next a b c d ts i x h e p q = rw (add-one i) (gains-alike a c _ _ (gains-then a b c _ _ p q) (λ ws. shares-next d ws ts i x h e))
