-- Parts of drafts, and what they are.
use Rattle.std.proofs.Common.{◌≡◌, refl, sym, ap, ◌∙◌, subst, ℕ, zero, suc, ◌+◌, ◌<◌, ◌≤◌, nat_le, ◌&&◌, List, [], ◌∷◌, ◌++◌, length, map, get_or, take, Some, None, arith}
use Rattle.std.specs.Prelude.{slice_get}
use Rattle.std.proofs.Math.ListN.{length-append, get_or-append}
use Rattle.std.proofs.Math.Seq.{get_or-append_seam}
use Rattle.std.proofs.lemmas.Bool.Decides.{nat_tests}
use Rattle.std.proofs.lemmas.List.{map_push, take_more}
use Rattle.sv_list.specs.Lists.{slice_get-none}
use Rattle.sv_terms.specs.declared.entry.Body.{Body}
use Rattle.sv_terms.specs.declared.sort.Sort.TheVariants as sort
use Rattle.term_draft.specs.declared.draft.DraftNode.{DraftNode}
use Rattle.term_draft.specs.declared.draft.DraftPart.{DraftPart}
use Rattle.term_weight.specs.declared.weight.Weight.{Weight}
use Rattle.term_weight.specs.Bodies.{opaque}
use Rattle.term_draft.specs.Drafts.{at_place, sense, senses, senses_from}
use Rattle.term_weight.specs.Weights.{weight_of, weight_fits, capped, opaque_weight}
use Rattle.term_weight.specs.Sizes.{fits, nodes, nesting}
use Rattle.term_weight.specs.LayerLaws.{weight-Opaque}

senses-after : (done : List Body) (ps : List DraftPart) (p : DraftPart) → senses_from done (ps ++ p ∷ []) ≡ senses_from done ps ++ sense (senses_from done ps) p.node ∷ []
senses-after done [] p = refl
senses-after done (q ∷ ps) p = senses-after (done ++ sense done q.node ∷ []) ps p

length-after : (done : List Body) (ps : List DraftPart) → length (senses_from done ps) ≡ length done + length ps
length-after done [] = omega arith
length-after done (p ∷ ps) = length-after (done ++ sense done p.node ∷ []) ps ∙ omega (arith, length-append done (sense done p.node ∷ []))

pub length-senses : (ps : List DraftPart) → length (senses ps) ≡ length ps
length-senses ps = length-after [] ps ∙ omega arith

pub put-senses : (ps : List DraftPart) (n : DraftNode) (w : Weight) (qs : List DraftPart) → qs ≡ ps ++ record { node = n; weight = w } ∷ [] → senses qs ≡ senses ps ++ sense (senses ps) n ∷ []
put-senses ps n w qs e = ap senses e ∙ senses-after [] ps (record { node = n; weight = w })

pub put-weights : (ps : List DraftPart) (n : DraftNode) (w : Weight) (qs : List DraftPart) → qs ≡ ps ++ record { node = n; weight = w } ∷ [] → w ≡ weight_of (sense (senses ps) n) → map (λ p. p.weight) ps ≡ map weight_of (senses ps) → map (λ p. p.weight) qs ≡ map weight_of (senses qs)
put-weights ps n w qs e f g =
    ap (map (λ p. p.weight)) e ∙ map_push (λ (p : DraftPart). p.weight) ps (record { node = n; weight = w })
    ∙ (λ i. g i ++ f i ∷ [])
    ∙ sym (map_push weight_of (senses ps) (sense (senses ps) n))
    ∙ ap (map weight_of) (sym (put-senses ps n w qs e))

get-weight : (ps : List DraftPart) (bs : List Body) (i : ℕ) (p : DraftPart) → map (λ p. p.weight) ps ≡ map weight_of bs → slice_get ps i ≡ Some p → p.weight ≡ weight_of (at_place bs i)
get-weight [] bs i p e f = absurd (cc)
get-weight (q ∷ ps) [] i p e f = absurd (cc)
get-weight (q ∷ ps) (b ∷ bs) zero p e f = let g : q ≡ p = cc in let h : q.weight ≡ weight_of b = cc in ap (λ (z : DraftPart). z.weight) (sym g) ∙ h
get-weight (q ∷ ps) (b ∷ bs) (suc i) p e f = get-weight ps bs i p (cc) f

pub part-weight : (ps : List DraftPart) (bs : List Body) (i : ℕ) (p : DraftPart) → map (λ p. p.weight) ps ≡ map weight_of (senses ps) → senses ps ≡ bs → Some p ≡ slice_get ps i → p.weight ≡ weight_of (at_place bs i)
part-weight ps bs i p e f g = get-weight ps (senses ps) i p e (sym g) ∙ ap (λ z. weight_of (at_place z i)) f

past-end : (bs : List Body) (i : ℕ) → length bs ≤ i → at_place bs i ≡ opaque sort.Bool
past-end [] i h = refl
past-end (b ∷ bs) zero h = absurd (omega arith)
past-end (b ∷ bs) (suc i) h = past-end bs i (omega arith)

pub no-part-weight : (ps : List DraftPart) (bs : List Body) (i : ℕ) (w : Weight) → senses ps ≡ bs → None ≡ slice_get ps i → w ≡ opaque_weight sort.Bool → w ≡ weight_of (at_place bs i)
no-part-weight ps bs i w f g e =
    let h : length bs ≤ i = subst (λ n. n ≤ i) (sym (length-senses ps) ∙ ap length f) (slice_get-none ps i (sym g)) in
    e ∙ sym (weight-Opaque sort.Bool) ∙ ap weight_of (sym (past-end bs i h))

-- a weight ends past the limits of a term's size
cap-le : (n m : ℕ) → m < 4294967295 → nat_le (capped n) m ≡ nat_le n m
cap-le n m h = grind (arith, nat_tests)

pub fits-so : (b : Body) → weight_fits (weight_of b) ≡ fits b
fits-so b = λ i. cap-le (nodes b) 1048576 (omega arith) i && cap-le (nesting b) 1000 (omega arith) i

pub ruleset fitting = (fits-so)

-- one more of what two functions make of a list
pub mapped-more : {A B C : Type 0} (f : B → C) (g : A → B) (as_ : List A) (i : ℕ) (d : A) (all next : List C) (r : C) → i < length as_ → all ≡ map f (map g (take i as_)) → r ≡ f (g (get_or as_ i d)) → next ≡ all ++ r ∷ [] → next ≡ map f (map g (take (i + 1) as_))
mapped-more f g as_ i d all next r h e k l =
    l ∙ (λ j. e j ++ k j ∷ []) ∙ sym (map_push f (map g (take i as_)) (g (get_or as_ i d)))
    ∙ ap (map f) (sym (map_push g (take i as_) (get_or as_ i d))) ∙ ap (λ z. map f (map g z)) (sym (take_more as_ i d h))

pub ruleset drafting = (map_push, length-senses, put-senses, put-weights, part-weight, no-part-weight)

-- the part at a place, built of those before it
kept-before : (done : List Body) (ps : List DraftPart) (i : ℕ) (d : Body) → i < length done → get_or (senses_from done ps) i d ≡ get_or done i d
kept-before done [] i d h = refl
kept-before done (p ∷ ps) i d h =
    kept-before (done ++ sense done p.node ∷ []) ps i d (omega (arith, length-append done (sense done p.node ∷ [])))
    ∙ get_or-append done (sense done p.node ∷ []) d i h

sense-after : (done : List Body) (ps : List DraftPart) (i k : ℕ) (d : Body) (e : DraftPart) → i < length ps → k ≡ length done + i → get_or (senses_from done ps) k d ≡ sense (senses_from done (take i ps)) (get_or ps i e).node
sense-after done [] i k d e h f = absurd (omega arith)
sense-after done (p ∷ ps) zero k d e h f =
    let g : k ≡ length done = f ∙ omega arith in
    ap (λ z. get_or (senses_from (done ++ sense done p.node ∷ []) ps) z d) g
    ∙ kept-before (done ++ sense done p.node ∷ []) ps (length done) d (omega (arith, length-append done (sense done p.node ∷ [])))
    ∙ get_or-append_seam done (sense done p.node) [] d
sense-after done (p ∷ ps) (suc i) k d e h f = sense-after (done ++ sense done p.node ∷ []) ps i k d e (omega arith) (omega (arith, length-append done (sense done p.node ∷ [])))

pub sense-at : (ps : List DraftPart) (i : ℕ) (e : DraftPart) → i < length ps → at_place (senses ps) i ≡ sense (senses (take i ps)) (get_or ps i e).node
sense-at ps i e h = sense-after [] ps i i (opaque sort.Bool) e h (omega arith)

pub sense-past : (ps : List DraftPart) (i : ℕ) → length ps ≤ i → at_place (senses ps) i ≡ opaque sort.Bool
sense-past ps i h = past-end (senses ps) i (subst (λ n. n ≤ i) (sym (length-senses ps)) h)
