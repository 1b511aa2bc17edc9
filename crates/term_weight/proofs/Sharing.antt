-- What parts add, summed up.
use Rattle.std.proofs.Common.{◌≡◌, refl, sym, ap, ◌∙◌, ℕ, zero, suc, ◌+◌, ◌*◌, ◌<◌, ◌≤◌, max, Bool, true, false, not, ◌&&◌, ◌||◌, List, [], ◌∷◌, length, drop, replicate, get_or, Option, Some, None, arith, add-one}
use Rattle.std.specs.Prelude.{slice_get, slice_set, is_some}
use Rattle.std.proofs.lemmas.Bool.{cases_lt}
use Rattle.std.proofs.Math.Nat.{suc-mul, mul-zero, le-mul_of_pos_right}
use Rattle.std.proofs.lemmas.Option.{get_or_from_slice_get}
use Rattle.std.proofs.Common.{◌⊎◌, inl, inr}
use Rattle.sv_list.specs.Bools.{or-assoc}
use Rattle.sv_terms.specs.declared.sort.Sort.TheVariants as sort
use Rattle.term_weight.specs.declared.share.Share.{Share}
use Rattle.term_weight.specs.declared.share.Uses.{Uses}
use Rattle.term_weight.specs.declared.weight.Weight.{Weight}
use Rattle.term_weight.specs.Bodies.{is_unknown}
use Rattle.term_weight.specs.Weights.{capped, as_term, opaque_weight, is_literal}
use Rattle.term_weight.specs.Summaries.{share, nothing, unknown_if, plus, argument, reach, used, unused, deeper, used_at, measured, changed_at, all_used}

or_swap : (a b c : Bool) → ((a || b) || c) ≡ ((a || c) || b)
or_swap true b c = refl
or_swap false true true = refl
or_swap false true false = refl
or_swap false false true = refl
or_swap false false false = refl

-- three numbers that make a share
pub shares-same : (a b : Share) → a.nodes ≡ b.nodes → a.nesting ≡ b.nesting → a.is_unknown ≡ b.is_unknown → a ≡ b
shares-same a b p q r = λ i. record { nodes = p i; nesting = q i; is_unknown = r i }

pub plus-swap : (a b c : Share) → plus (plus a b) c ≡ plus (plus a c) b
plus-swap a b c = shares-same _ _ (omega arith) (omega arith) (or_swap a.is_unknown b.is_unknown c.is_unknown)

pub plus-assoc : (a b c : Share) → plus (plus a b) c ≡ plus a (plus b c)
plus-assoc a b c = shares-same _ _ (omega arith) (omega arith) (or-assoc a.is_unknown b.is_unknown c.is_unknown)

module _ (d : ℕ) where
  -- where the count has reached its end, so has each product that isn't 0
  past-nodes : (c m n : ℕ) → 4294967295 ≤ m → 4294967295 ≤ c → capped (m * suc n) ≡ capped (c * suc n + suc n)
  past-nodes c m n h k = omega (arith, le-mul_of_pos_right {m = suc n} m (omega arith), le-mul_of_pos_right {m = suc n} c (omega arith), h, k)

  more-nodes : (c n : ℕ) → capped (capped (c + 1) * n) ≡ capped (capped (c * n) + capped n)
  more-nodes c zero = omega (arith, mul-zero (capped (c + 1)), mul-zero c)
  more-nodes c (suc n) = more (cases_lt c 4294967295)
    where
      more : (c < 4294967295) ⊎ (4294967295 ≤ c) → capped (capped (c + 1) * suc n) ≡ capped (capped (c * suc n) + capped (suc n))
      more (inl h) = let e : capped (c + 1) ≡ suc c = omega (arith, h) in ap (λ m. capped (m * suc n)) e ∙ omega (arith, suc-mul c (suc n))
      more (inr h) = past-nodes c (capped (c + 1)) n (omega (arith, h)) h ∙ omega arith

  more-nesting : (deepest : Option ℕ) (n : ℕ) → reach (Some (deeper deepest d)) n ≡ max (reach deepest n) (capped (d + n))
  more-nesting None n = omega arith
  more-nesting (Some e) n = omega arith

  more-unknown : (deepest : Option ℕ) (a b : Bool) → (a || b) ≡ (((is_some deepest && a) || b) || a)
  more-unknown None true true = refl
  more-unknown None true false = refl
  more-unknown None false true = refl
  more-unknown None false false = refl
  more-unknown (Some e) true b = refl
  more-unknown (Some e) false true = refl
  more-unknown (Some e) false false = refl

  -- one more occurrence adds what an argument adds that stands there
  pub used-more : (u : Uses) (w : Weight) → used (used_at d u) w ≡ plus (used u w) (share d w)
  used-more u w = shares-same _ _ (more-nodes u.count w.nodes) (more-nesting u.deepest w.nesting) (more-unknown u.deepest (is_unknown w.factor) (u.is_measured && not (is_literal w.factor)))

measured-unknown : (m a l : Bool) → (a || l) ≡ ((a || (m && l)) || l)
measured-unknown m true l = refl
measured-unknown true false true = refl
measured-unknown true false false = refl
measured-unknown false false true = refl
measured-unknown false false false = refl

pub used-measured : (u : Uses) (w : Weight) → used (measured u) w ≡ plus (used u w) (unknown_if (not (is_literal w.factor)))
used-measured u w = shares-same _ _ (omega arith) (omega arith) (measured-unknown u.is_measured (is_some u.deepest && is_unknown w.factor) (not (is_literal w.factor)))

-- a change of one parameter's uses adds what it adds there
module _ (f : Uses → Uses) (x : Weight → Share) (so : (u : Uses) (w : Weight) → used (f u) w ≡ plus (used u w) (x w)) where
  pub all-changed : (us : List Uses) (i : ℕ) (ws : List Weight) → i < length us → all_used (changed_at f i us) ws ≡ plus (all_used us ws) (x (argument ws i))
  all-changed [] i ws h = absurd (omega arith)
  all-changed (u ∷ us) zero [] h = ap (λ z. plus z (all_used us [])) (so u (opaque_weight sort.Bool)) ∙ plus-swap (used u (opaque_weight sort.Bool)) _ _
  all-changed (u ∷ us) zero (w ∷ ws) h = ap (λ z. plus z (all_used us ws)) (so u (as_term w)) ∙ plus-swap (used u (as_term w)) _ _
  all-changed (u ∷ us) (suc i) [] h = ap (plus (used u (opaque_weight sort.Bool))) (all-changed us i [] (omega arith)) ∙ sym (plus-assoc (used u (opaque_weight sort.Bool)) _ _)
  all-changed (u ∷ us) (suc i) (w ∷ ws) h = ap (plus (used u (as_term w))) (all-changed us i ws (omega arith)) ∙ sym (plus-assoc (used u (as_term w)) _ _)

pub length-changed : (f : Uses → Uses) (i : ℕ) (us : List Uses) → length (changed_at f i us) ≡ length us
length-changed f i [] = refl
length-changed f zero (u ∷ us) = refl
length-changed f (suc i) (u ∷ us) = ap suc (length-changed f i us)

-- by a write, or by none
pub change-some : (f : Uses → Uses) (us : List Uses) (i : ℕ) (u : Uses) → slice_get us i ≡ Some u → slice_set us i (f u) ≡ changed_at f i us
change-some f [] i u e = refl
change-some f (v ∷ us) zero u e = ap (λ z. f z ∷ us) (sym (get_or_from_slice_get (v ∷ us) 0 u u e))
change-some f (v ∷ us) (suc i) u e = ap (λ z. v ∷ z) (change-some f us i u e)

pub change-none : (f : Uses → Uses) (us : List Uses) (i : ℕ) → slice_get us i ≡ None → us ≡ changed_at f i us
change-none f [] i e = refl
change-none f (v ∷ us) zero e = absurd (cc)
change-none f (v ∷ us) (suc i) e = ap (λ z. v ∷ z) (change-none f us i e)

pub ruleset changing = (change-some, change-none)

pub unused-all : (n : ℕ) (ws : List Weight) → all_used (replicate n unused) ws ≡ nothing
unused-all zero ws = refl
unused-all (suc n) [] = ap (plus (used unused (opaque_weight sort.Bool))) (unused-all n [])
unused-all (suc n) (w ∷ ws) = ap (plus (used unused (as_term w))) (unused-all n ws) ∙ shares-same _ _ (omega arith) refl refl

drop-nothing : {A : Type 0} (i : ℕ) → drop {A = A} i [] ≡ []
drop-nothing zero = refl
drop-nothing (suc i) = refl

-- the parameters from a place on
pub used-next : (us : List Uses) (i : ℕ) (ws : List Weight) (d : Uses) → i < length us → all_used (drop i us) (drop i ws) ≡ plus (used (get_or us i d) (argument ws i)) (all_used (drop (suc i) us) (drop (suc i) ws))
used-next [] i ws d h = absurd (omega arith)
used-next (u ∷ us) zero [] d h = refl
used-next (u ∷ us) zero (w ∷ ws) d h = refl
used-next (u ∷ us) (suc i) [] d h = ap (all_used (drop i us)) (sym (drop-nothing i)) ∙ used-next us i [] d (omega arith)
used-next (u ∷ us) (suc i) (w ∷ ws) d h = used-next us i ws d (omega arith)

-- one more argument, by its place
pub used-step : (x : Share) (us : List Uses) (ws : List Weight) (i : ℕ) (d : Uses) (t : Share) → i < length us → plus x (all_used (drop i us) (drop i ws)) ≡ t → plus (plus x (used (get_or us i d) (argument ws i))) (all_used (drop (i + 1) us) (drop (i + 1) ws)) ≡ t
used-step x us ws i d t h e =
    plus-assoc x (used (get_or us i d) (argument ws i)) (all_used (drop (i + 1) us) (drop (i + 1) ws))
    ∙ ap (plus x) (ap (λ j. plus (used (get_or us i d) (argument ws i)) (all_used (drop j us) (drop j ws))) (add-one i) ∙ sym (used-next us i ws d h))
    ∙ e

used-done : (us : List Uses) (ws : List Weight) (i : ℕ) → length us ≤ i → all_used (drop i us) ws ≡ nothing
used-done [] ws zero h = refl
used-done [] ws (suc i) h = refl
used-done (u ∷ us) ws zero h = absurd (omega arith)
used-done (u ∷ us) ws (suc i) h = used-done us ws i (omega arith)

pub used-begin : (us : List Uses) (ws : List Weight) → plus nothing (all_used us ws) ≡ all_used us ws
used-begin [] ws = refl
used-begin (u ∷ us) [] = shares-same _ _ (omega arith) (omega arith) refl
used-begin (u ∷ us) (w ∷ ws) = shares-same _ _ (omega arith) (omega arith) refl

pub used-end : (own x : Share) (us : List Uses) (ws : List Weight) (i : ℕ) → length us ≤ i → plus x (all_used (drop i us) (drop i ws)) ≡ all_used us ws → plus own x ≡ plus own (all_used us ws)
used-end own x us ws i h e = shares-same _ (plus own (plus x nothing)) (omega arith) (omega arith) (ap (λ b. own.is_unknown || b) (sym (or-none x.is_unknown))) ∙ ap (plus own) (ap (plus x) (sym (used-done us (drop i ws) i h)) ∙ e)
  where
    or-none : (b : Bool) → (b || false) ≡ b
    or-none true = refl
    or-none false = refl
