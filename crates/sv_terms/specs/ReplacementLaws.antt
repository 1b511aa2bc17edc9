-- The functions that replace are the first occurrence's and every occurrence's.
use Rattle.std.specs.Prelude.{◌≡◌, ℕ, zero, suc, ◌-◌, ◌≤◌, ◌↔◌, Bool, true, false, ◌&&◌, if◌then◌else◌, [], ◌∷◌, ◌++◌, length, drop, nat_eq}
use Rattle.std.proofs.Common.{refl, sym, ap, ◌∙◌, subst, arith, ◌⊎◌, inl, inr, ⊎_elim}
use Rattle.std.proofs.lemmas.List.{append-nil, length-append}
use Rattle.std.proofs.lemmas.Bool.{eqb-true, eq-eqb, and_parts, false_from_ne_true}
use Rattle.std.proofs.Math.Seq.{drop-append_seam}
use Rattle.sv_terms.specs.Language.{Word}
use Rattle.sv_terms.specs.Replacement.{Stands, StandsFirst, StandsNowhere, ReplacedFirst, at_first, at_none, ReplacedAll, every_none, every_first, every_last, begins, replace_first, replace_from, replace_all}

pub begins-of : (p s : Word) → begins p (p ++ s) ≡ true
begins-of [] s = refl
begins-of (c ∷ p) s = ap (λ b. b && begins p (p ++ s)) (eq-eqb c c refl) ∙ begins-of p s

pub begins-split : (p w : Word) → begins p w ≡ true → w ≡ p ++ drop (length p) w
begins-split [] w e = sym (drop-none w)
  where
    drop-none : (w : Word) → drop 0 w ≡ w
    drop-none [] = refl
    drop-none (c ∷ w) = refl
begins-split (c ∷ p) [] e = absurd (cc)
begins-split (c ∷ p) (d ∷ w) e =
    let h = and_parts (nat_eq c d) (begins p w) e in
    ap (λ x. x ∷ w) (sym (eqb-true c d h.0)) ∙ ap (λ (v : Word). c ∷ v) (begins-split p w h.1)

pub begins-not : (p w : Word) → ((b : Word) → w ≡ p ++ b → ⊥) → begins p w ≡ false
begins-not p w n = false_from_ne_true (begins p w) (λ e. n (drop (length p) w) (begins-split p w e))

-- where the word begins with p, and where it doesn't
pub first-here : (p u w : Word) → replace_first p u (p ++ w) ≡ u ++ w
first-here [] u [] = sym (append-nil u)
first-here [] u (c ∷ w) = refl
first-here (a ∷ p) u w =
    ap (λ b. if b then u ++ drop (length (a ∷ p)) (a ∷ (p ++ w)) else (a ∷ replace_first (a ∷ p) u (p ++ w))) (begins-of (a ∷ p) w)
    ∙ ap (λ (v : Word). u ++ v) (drop-append_seam (a ∷ p) w)

pub first-skips : (p u : Word) (c : ℕ) (w : Word) → begins p (c ∷ w) ≡ false → replace_first p u (c ∷ w) ≡ c ∷ replace_first p u w
first-skips p u c w e = ap (λ b. if b then u ++ drop (length p) (c ∷ w) else (c ∷ replace_first p u w)) e

pub passed : (p u : Word) (k : ℕ) (v : Word) → replace_from p u k v ≡ replace_from p u zero (drop k v)
passed p u zero [] = refl
passed p u zero (c ∷ v) = refl
passed p u (suc k) [] = refl
passed p u (suc k) (c ∷ v) = passed p u k v

pub all-here : (a : ℕ) (p u w : Word) → replace_all (a ∷ p) u ((a ∷ p) ++ w) ≡ u ++ replace_all (a ∷ p) u w
all-here a p u w =
    let less : length (a ∷ p) - 1 ≡ length p = omega arith in
    ap (λ b. if b then u ++ replace_from (a ∷ p) u (length (a ∷ p) - 1) (p ++ w) else (a ∷ replace_from (a ∷ p) u zero (p ++ w))) (begins-of (a ∷ p) w)
    ∙ ap (λ (v : Word). u ++ v) (passed (a ∷ p) u (length (a ∷ p) - 1) (p ++ w) ∙ ap (λ k. replace_from (a ∷ p) u zero (drop k (p ++ w))) less ∙ ap (replace_from (a ∷ p) u zero) (drop-append_seam p w))

pub all-skips : (a : ℕ) (p u : Word) (c : ℕ) (w : Word) → begins (a ∷ p) (c ∷ w) ≡ false → replace_all (a ∷ p) u (c ∷ w) ≡ c ∷ replace_all (a ∷ p) u w
all-skips a p u c w e = ap (λ b. if b then u ++ replace_from (a ∷ p) u (length (a ∷ p) - 1) w else (c ∷ replace_from (a ∷ p) u zero w)) e

-- the first occurrence behind the first character
first-later : (p : Word) (x : ℕ) (w a b : Word) → StandsFirst p (x ∷ w) (x ∷ a) b → w ≡ a ++ (p ++ b) → StandsFirst p w a b
first-later p x w a b f e = record {
  stands = e;
  least = λ c d s. let k = f.least (x ∷ c) d (ap (λ (v : Word). x ∷ v) s) in omega (arith, k);
}

not-here : (p : Word) (x : ℕ) (w a b : Word) → StandsFirst p w (x ∷ a) b → begins p w ≡ false
not-here p x w a b f = begins-not p w (λ d e. let k = f.least [] d e in omega (arith, k))

tail_same : (x y : ℕ) (v w : Word) → x ∷ v ≡ y ∷ w → (x ≡ y) × (v ≡ w)
tail_same x y v w e = (cc, cc)

-- either p has a first occurrence or it doesn't occur
pub first_or_nowhere : (p w : Word) → ((a b : Word) × StandsFirst p w a b) ⊎ StandsNowhere p w
first_or_nowhere p w = at w (begins p w) refl
  where
    here : (w : Word) → begins p w ≡ true → StandsFirst p w [] (drop (length p) w)
    here w e = record { stands = begins-split p w e; least = λ c d s. omega arith }

    front : (w b : Word) → begins p w ≡ false → w ≡ p ++ b → ⊥
    front w b e s = let t = begins-of p b in let q = ap (begins p) s in cc

    at : (w : Word) (t : Bool) → begins p w ≡ t → ((a b : Word) × StandsFirst p w a b) ⊎ StandsNowhere p w
    at w true e = inl ([], drop (length p) w, here w e)
    at [] false e = inr nowhere
      where
        nowhere : StandsNowhere p []
        nowhere [] b s = front [] b e s
        nowhere (x ∷ a) b s = cc
    at (c ∷ w) false e = ⊎_elim found missing (at w (begins p w) refl)
      where
        found : ((a b : Word) × StandsFirst p w a b) → ((a b : Word) × StandsFirst p (c ∷ w) a b) ⊎ StandsNowhere p (c ∷ w)
        found k = inl (c ∷ k.0, k.1, record { stands = ap (λ (v : Word). c ∷ v) k.2.stands; least = least k.0 k.1 k.2 })
          where
            least : (a b : Word) → StandsFirst p w a b → (x y : Word) → Stands p (c ∷ w) x y → length (c ∷ a) ≤ length x
            least a b f [] y s = absurd (front (c ∷ w) y e s)
            least a b f (d ∷ x) y s = let k = f.least x y (tail_same c d w (x ++ (p ++ y)) s).1 in omega (arith, k)

        missing : StandsNowhere p w → ((a b : Word) × StandsFirst p (c ∷ w) a b) ⊎ StandsNowhere p (c ∷ w)
        missing n = inr nowhere
          where
            nowhere : StandsNowhere p (c ∷ w)
            nowhere [] b s = front (c ∷ w) b e s
            nowhere (x ∷ a) b s = n a b (tail_same c x w (a ++ (p ++ b)) s).1

later-nowhere : (p : Word) (c : ℕ) (w : Word) → StandsNowhere p (c ∷ w) → StandsNowhere p w
later-nowhere p c w n a b s = n (c ∷ a) b (ap (λ (v : Word). c ∷ v) s)

-- the first occurrence is replaced
pub first-replaced : (p u w a b : Word) → StandsFirst p w a b → replace_first p u w ≡ a ++ (u ++ b)
first-replaced p u w [] b f = ap (replace_first p u) f.stands ∙ first-here p u b
first-replaced p u [] (x ∷ a) b f = absurd (let e = f.stands in cc)
first-replaced p u (c ∷ w) (x ∷ a) b f =
    let e = tail_same c x w (a ++ (p ++ b)) f.stands in
    let g : StandsFirst p (x ∷ w) (x ∷ a) b = subst (λ y. StandsFirst p (y ∷ w) (x ∷ a) b) e.0 f in
    first-skips p u c w (not-here p x (c ∷ w) a b f)
    ∙ ap (λ (v : Word). c ∷ v) (first-replaced p u w a b (first-later p x w a b g e.1))
    ∙ ap (λ y. y ∷ (a ++ (u ++ b))) e.0

pub first-missing : (p u w : Word) → StandsNowhere p w → replace_first p u w ≡ w
first-missing p u [] n = ap (λ b. if b then u else []) (begins-not p [] (λ b e. n [] b e))
first-missing p u (c ∷ w) n = first-skips p u c w (begins-not p (c ∷ w) (λ b e. n [] b e)) ∙ ap (λ (v : Word). c ∷ v) (first-missing p u w (later-nowhere p c w n))

-- every occurrence is replaced
pub all-replaced : (x : ℕ) (p u w a b : Word) → StandsFirst (x ∷ p) w a b → replace_all (x ∷ p) u w ≡ a ++ (u ++ replace_all (x ∷ p) u b)
all-replaced x p u w [] b f = ap (replace_all (x ∷ p) u) f.stands ∙ all-here x p u b
all-replaced x p u [] (y ∷ a) b f = absurd (let e = f.stands in cc)
all-replaced x p u (c ∷ w) (y ∷ a) b f =
    let e = tail_same c y w (a ++ ((x ∷ p) ++ b)) f.stands in
    let g : StandsFirst (x ∷ p) (y ∷ w) (y ∷ a) b = subst (λ z. StandsFirst (x ∷ p) (z ∷ w) (y ∷ a) b) e.0 f in
    all-skips x p u c w (not-here (x ∷ p) y (c ∷ w) a b f)
    ∙ ap (λ (v : Word). c ∷ v) (all-replaced x p u w a b (first-later (x ∷ p) y w a b g e.1))
    ∙ ap (λ z. z ∷ (a ++ (u ++ replace_all (x ∷ p) u b))) e.0

pub all-missing : (x : ℕ) (p u w : Word) → StandsNowhere (x ∷ p) w → replace_all (x ∷ p) u w ≡ w
all-missing x p u [] n = refl
all-missing x p u (c ∷ w) n = all-skips x p u c w (begins-not (x ∷ p) (c ∷ w) (λ b e. n [] b e)) ∙ ap (λ (v : Word). c ∷ v) (all-missing x p u w (later-nowhere (x ∷ p) c w n))

pub first-is : (p u w v : Word) → (v ≡ replace_first p u w) ↔ ReplacedFirst p u w v
first-is p u w v = (λ e. ⊎_elim (found e) (missing e) (first_or_nowhere p w), back v)
  where
    found : v ≡ replace_first p u w → ((a b : Word) × StandsFirst p w a b) → ReplacedFirst p u w v
    found e k = at_first k.2 (e ∙ first-replaced p u w k.0 k.1 k.2)

    missing : v ≡ replace_first p u w → StandsNowhere p w → ReplacedFirst p u w v
    missing e n = at_none n (e ∙ first-missing p u w n)

    back : (v : Word) → ReplacedFirst p u w v → v ≡ replace_first p u w
    back v (at_first {a = a} {b = b} f e) = e ∙ sym (first-replaced p u w a b f)
    back v (at_none n e) = e ∙ sym (first-missing p u w n)

module _ (x : ℕ) (p u : Word) where
  shorter : (w a b : Word) (n : ℕ) → w ≡ a ++ ((x ∷ p) ++ b) → length w ≤ suc n → length b ≤ n
  shorter w a b n e h =
      let k = ap length e ∙ length-append a ((x ∷ p) ++ b) in
      let m = length-append (x ∷ p) b in
      omega (arith, k, m, h)

  filled : x ∷ p ≡ [] → ⊥
  filled e = cc

  all-exists : (n : ℕ) (w : Word) → length w ≤ n → ReplacedAll (x ∷ p) u w (replace_all (x ∷ p) u w)
  all-exists zero w h = ⊎_elim (λ k. absurd (let e = ap length k.2.stands ∙ length-append k.0 ((x ∷ p) ++ k.1) in let m = length-append (x ∷ p) k.1 in omega (arith, e, m, h))) (λ m. every_last filled m (all-missing x p u w m)) (first_or_nowhere (x ∷ p) w)
  all-exists (suc n) w h = ⊎_elim (λ k. every_first filled k.2 (all-exists n k.1 (shorter w k.0 k.1 n k.2.stands h)) (all-replaced x p u w k.0 k.1 k.2)) (λ m. every_last filled m (all-missing x p u w m)) (first_or_nowhere (x ∷ p) w)

pub all-unique : (p u w v : Word) → ReplacedAll p u w v → v ≡ replace_all p u w
all-unique [] u w v (every_none e g) = g
all-unique (x ∷ p) u w v (every_none e g) = absurd (cc)
all-unique [] u w v (every_first n f r e) = absurd (n refl)
all-unique (x ∷ p) u w v (every_first {a = a} {b = b} {rest = rest} n f r e) =
    e ∙ ap (λ (y : Word). a ++ (u ++ y)) (all-unique (x ∷ p) u b rest r) ∙ sym (all-replaced x p u w a b f)
all-unique [] u w v (every_last n f e) = absurd (n refl)
all-unique (x ∷ p) u w v (every_last n f e) = e ∙ sym (all-missing x p u w f)

pub all-is : (p u w v : Word) → (v ≡ replace_all p u w) ↔ ReplacedAll p u w v
all-is [] u w v = (λ e. every_none refl e, all-unique [] u w v)
all-is (x ∷ p) u w v = (λ e. subst (ReplacedAll (x ∷ p) u w) (sym e) (all-exists x p u (length w) w (omega arith)), all-unique (x ∷ p) u w v)
