-- What a summary tells is what a call weighs.
use Rattle.std.proofs.Common.{◌≡◌, refl, sym, ap, subst, ◌∙◌, ℕ, suc, ◌<◌, Bool, true, false, cond, List, [], ◌∷◌, length, map, Option, Some, None, Result, Ok, Err, IfOk, arith}
use Rattle.std.specs.Prelude.{IfSome}
use Rattle.std.specs.Option.{option_map}
use Rattle.std.proofs.lemmas.List.{length-replicate}
use Rattle.std.proofs.lemmas.Result.{IfOk-weaker}
use std.Path.{fun_ext}
use Rattle.sv_terms.specs.declared.entry.Body.{Body}
use Rattle.sv_terms.specs.declared.entry.Body.TheVariants as body
use Rattle.sv_terms.specs.declared.op.Op.{Op}
use Rattle.sv_terms.specs.declared.regex.Regex.{Regex}
use Rattle.sv_terms.specs.declared.sort.Sort.{Sort}
use Rattle.sv_terms.specs.declared.sort.Sort.TheVariants as sort
use Rattle.sv_terms.specs.declared.term.Term.{Term}
use Rattle.sv_terms.specs.declared.term.Term.TheVariants as term
use Rattle.sv_terms.specs.declared.transducer.Transducer.{Transducer}
use Rattle.sv_terms.specs.Sorting.{op_sort}
use Rattle.term_weight.specs.declared.share.Share.{Share}
use Rattle.term_weight.specs.declared.summary.Summary.{Summary}
use Rattle.term_weight.specs.declared.summary.Summary.TheVariants as summary
use Rattle.term_weight.specs.declared.tally.MacroSummary.{MacroSummary}
use Rattle.term_weight.specs.declared.weight.Weight.{Weight}
use Rattle.smt_names.specs.Signature.{Name, same_name}
use Rattle.term_weight.specs.Bodies.{holds}
use Rattle.term_weight.specs.Places.{name_alone, named_by, shown, weight_found}
use Rattle.term_weight.specs.Weights.{capped, as_term, around, regex_weight, weighed, place_of, nth_if, argument_weight}
use Rattle.term_weight.specs.Summaries.{share, nothing, plus, unused, empty, of_total, parameter_of, weight_at, part, PlacesAreWithin, Gains, Summarises, TellsWeight}
use Rattle.term_weight.proofs.Layers.{weighed-Apply, weighed-InRe, weighed-Related}
use Rattle.term_weight.proofs.Sharing.{shares-same, unused-all}
use Rattle.term_weight.specs.FactorLaws.{op-factor, unknown-holds}

module _ (places : List (Name × Option ℕ)) (n : ℕ) where
  -- weights that are equal at all arguments
  pub tells-alike : {E : Type 0} (r : Result Summary E) (f g : List Weight → Weight) → ((ws : List Weight) → f ws ≡ g ws) → IfOk r (λ x. TellsWeight places n x f) → IfOk r (λ x. TellsWeight places n x g)
  tells-alike r f g e = IfOk-weaker r _ _ (λ x p. record { told = λ cover ws. p.told cover ws ∙ e ws })

  alone : (x : Share) → x.nodes ≡ capped x.nodes → plus nothing x ≡ x
  alone x e = shares-same _ _ (omega (arith, e)) (omega arith) refl

  -- a tally from nothing
  pub tells-sum : (s : Sort) (t : MacroSummary) (w : List Weight → Weight) → Gains places (empty n) t (λ ws. share 0 (w ws)) → TellsWeight places n (summary.Term s t) (λ ws. of_total s (share 0 (w ws)))
  tells-sum s t w p = record {
    told = λ cover ws. ap (of_total s) (
        p.added (subst (PlacesAreWithin places) (sym (length-replicate n unused)) cover) ws
        ∙ ap (λ z. plus (plus nothing z) (share 0 (w ws))) (unused-all n ws)
        ∙ alone (share 0 (w ws)) (omega arith));
  }

-- a function around parts, by its sum
whole : (s : Sort) (b : Bool) (ws : List Weight) → of_total s (share 0 (around s (holds b) false ws)) ≡ around s (holds b) false ws
whole s b ws = ap (λ z. record { sort = s; factor = holds z.is_unknown; is_language = false; nodes = z.nodes; nesting = z.nesting }) (shares-same _ (record { nodes = _; nesting = _; is_unknown = b }) (omega arith) (omega arith) (unknown-holds b))

module _ (places : List (Name × Option ℕ)) where
  abbrev found : List Weight → Name → Option Weight
  found ws = weight_found places ws

  pub total-Apply : (t : Term) (s : Sort) (o : Op) (ts : List Term) → t ≡ term.Apply o ts → s ≡ op_sort o → (ws : List Weight) → of_total s (share 0 (part places ws t)) ≡ weighed (found ws) t
  total-Apply t s o ts e k ws =
      let all = map as_term (map (weighed (found ws)) ts) in
      let is = ap (weighed (found ws)) e ∙ weighed-Apply (found ws) o ts in
      (λ i. of_total (k i) (share 0 (as_term (is i))))
      ∙ ap (λ f. of_total (op_sort o) (share 0 (around (op_sort o) f false all))) (op-factor o (map (λ w. w.factor) all))
      ∙ whole (op_sort o) _ all
      ∙ ap (λ f. around (op_sort o) f false all) (sym (op-factor o (map (λ w. w.factor) all)))
      ∙ sym is

  pub total-InRe : (t u : Term) (r : Regex) → t ≡ term.InRe u r → (ws : List Weight) → of_total sort.Bool (share 0 (part places ws t)) ≡ weighed (found ws) t
  total-InRe t u r e ws =
      let is = ap (weighed (found ws)) e ∙ weighed-InRe (found ws) u r in
      ap (λ z. of_total sort.Bool (share 0 (as_term z))) is ∙ whole sort.Bool _ (as_term (weighed (found ws) u) ∷ regex_weight r ∷ []) ∙ sym is

  pub total-Related : (t : Term) (m : Transducer) (u v : Term) → t ≡ term.Related m u v → (ws : List Weight) → of_total sort.Bool (share 0 (part places ws t)) ≡ weighed (found ws) t
  total-Related t m u v e ws =
      let is = ap (weighed (found ws)) e ∙ weighed-Related (found ws) m u v in
      ap (λ z. of_total sort.Bool (share 0 (as_term z))) is ∙ whole sort.Bool _ (as_term (weighed (found ws) u) ∷ as_term (weighed (found ws) v) ∷ []) ∙ sym is

-- a parameter's place is one of the parameters
place-within : (n : Name) (ps : List (Name × Sort)) → IfSome (place_of n ps) (λ i. i < length ps)
place-within n [] = tt
place-within n (p ∷ ps) = within (same_name n p.0) (place_of n ps) (place-within n ps)
  where
    within : (b : Bool) (o : Option ℕ) → IfSome o (λ i. i < length ps) → IfSome (cond b (Some 0) (option_map suc o)) (λ i. i < suc (length ps))
    within true o h = omega arith
    within false None h = tt
    within false (Some i) h = omega arith

tells-call : (ps : List (Name × Sort)) (places : List (Name × Option ℕ)) (x : Summary) (t : Term) → ((n : Name) → shown n places ≡ place_of n ps) → TellsWeight places (length ps) x (λ ws. weighed (weight_found places ws) t) → (ws : List Weight) → weight_at x ws ≡ weighed (argument_weight ps ws) t
tells-call ps places x t e p ws =
    p.told (record { within = λ n. subst (λ o. IfSome o (λ i. i < length ps)) (sym (e n)) (place-within n ps) }) ws
    ∙ ap (λ (k : Name → Option Weight). weighed k t) (fun_ext (λ n. ap (λ o. option_map as_term (nth_if ws o)) (e n)))

named-alike : (f g : Name → Option ℕ) → ((n : Name) → f n ≡ g n) → (o : Option Name) → named_by f o ≡ named_by g o
named-alike f g h None = refl
named-alike f g h (Some n) = h n

-- the body of a macro, by its term
pub summarised : {E : Type 0} (ps : List (Name × Sort)) (places : List (Name × Option ℕ)) (t : Term) (b : Body) (r : Result Summary E) → b ≡ body.Term t → ((n : Name) → shown n places ≡ place_of n ps)
    → IfOk r (λ x. TellsWeight places (length ps) x (λ ws. weighed (weight_found places ws) t)) → IfOk r (λ x. parameter_of x ≡ named_by (λ n. shown n places) (name_alone t)) → IfOk r (λ x. Summarises x ps b)
summarised ps places t b (Ok x) is e h k = subst (Summarises x ps) (sym is) (record { tells = tells-call ps places x t e h; alone = k ∙ named-alike (λ n. shown n places) (λ n. place_of n ps) e (name_alone t) })
summarised ps places t b (Err f) is e h k = tt
