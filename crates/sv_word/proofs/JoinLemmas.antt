-- Two lists of pairs that are joined pair by pair.
use Rattle.std.proofs.Common.{◌≡◌, ℕ, zero, suc, ◌+◌, ◌<◌, ◌≤◌, ◌&&◌, ◌||◌, Bool, true, false, cond, nat_le, max, List, [], ◌∷◌, ◌++◌, length, drop, get_or, add-one, ◌⊎◌, inl, inr, refl, ap, sym, ◌∙◌, subst, arith}
use Rattle.std.proofs.Math.ListN.{drop_of_length-le}
use Rattle.std.proofs.Math.Seq.{drop-cons}
use Rattle.std.proofs.lemmas.Bool.Decides.{nat_tests}
use Rattle.std.specs.Prelude.{fold}
use Rattle.sv_list.specs.Bools.{or-false}
use Rattle.sv_word.proofs.Apart.{apart-less}
use Rattle.sv_word.specs.Ranges.{in_ranges, in_pair, with_joined, IsApartFrom, RangesEndBy}
use Rattle.sv_word.specs.Words.{greatest_character}

-- each pair begins at `low` or before
abbrev pub StartsBy : ℕ → List (ℕ × ℕ) → Type 0
StartsBy low [] = Unit {0}
StartsBy low (p ∷ ps) = (p.0 ≤ low) × StartsBy low ps

starts-more : (low more : ℕ) (ps : List (ℕ × ℕ)) → low ≤ more → StartsBy low ps → StartsBy more ps
starts-more low more [] le s = tt
starts-more low more (p ∷ ps) le s = (let a = s.0 in omega arith, starts-more low more ps le s.1)

or-assoc : (a b c : Bool) → (a || (b || c)) ≡ ((a || b) || c)
or-assoc true b c = refl
or-assoc false b c = refl

-- `p` is put behind the one pair `q`
module _ (q p : ℕ × ℕ) where
  last : Bool → List (ℕ × ℕ)
  last t = cond t ((q.0, max q.1 p.1) ∷ []) (q ∷ p ∷ [])

  last-exact : (c : ℕ) (t : Bool) → nat_le p.0 (q.1 + 1) ≡ t → q.0 ≤ p.0 → q.0 ≤ q.1 → p.0 ≤ p.1 → in_ranges (last t) c ≡ ((in_pair q c || false) || in_pair p c)
  unfolding last
  last-exact c true e le a b = touching q.0 q.1 p.0 p.1 c e le a b
    where
      touching : (a b x y c : ℕ) → nat_le x (b + 1) ≡ true → a ≤ x → a ≤ b → x ≤ y
          → ((nat_le a c && nat_le c (max b y)) || false) ≡ (((nat_le a c && nat_le c b) || false) || (nat_le x c && nat_le c y))
      touching a b x y c e le h k = grind (arith, nat_tests)
  last-exact c false e le a b = rw (or-false (in_pair p c), or-false (in_pair q c)) refl

  last-apart : (low : ℕ) (t : Bool) → nat_le p.0 (q.1 + 1) ≡ t → low ≤ q.0 → q.0 ≤ q.1 → q.1 ≤ greatest_character → p.0 ≤ p.1 → p.1 ≤ greatest_character → IsApartFrom low (last t)
  unfolding last
  last-apart low true e l a m b n = (l, omega arith, omega arith, tt)
  last-apart low false e l a m b n = (l, a, m, (let gap : q.1 + 1 < p.0 = grind (arith, nat_tests) in omega arith, b, n, tt))

  last-starts : (t : Bool) → q.0 ≤ p.0 → StartsBy p.0 (last t)
  unfolding last
  last-starts true le = (le, tt)
  last-starts false le = (le, (omega arith, tt))

  last-ends : (top : ℕ) (t : Bool) → q.1 ≤ top → p.1 ≤ top → RangesEndBy top (last t)
  unfolding last
  last-ends top true a b = (omega arith, tt)
  last-ends top false a b = (a, (b, tt))

joined-exact : (low : ℕ) (ps : List (ℕ × ℕ)) (p : ℕ × ℕ) (c : ℕ) → IsApartFrom low ps → StartsBy p.0 ps → p.0 ≤ p.1 → in_ranges (with_joined ps p) c ≡ (in_ranges ps c || in_pair p c)
unfolding last
joined-exact low [] p c a s le = or-false (in_pair p c)
joined-exact low (q ∷ []) p c a s le = last-exact q p c (nat_le p.0 (q.1 + 1)) refl s.0 a.1 le
joined-exact low (q ∷ r ∷ qs) p c a s le =
    ap (λ b. in_pair q c || b) (joined-exact (q.1 + 2) (r ∷ qs) p c a.3 s.1 le) ∙ or-assoc (in_pair q c) (in_ranges (r ∷ qs) c) (in_pair p c)

joined-apart : (low : ℕ) (ps : List (ℕ × ℕ)) (p : ℕ × ℕ) → IsApartFrom low ps → StartsBy p.0 ps → low ≤ p.0 → p.0 ≤ p.1 → p.1 ≤ greatest_character → IsApartFrom low (with_joined ps p)
unfolding last
joined-apart low [] p a s l le top = (l, le, top, tt)
joined-apart low (q ∷ []) p a s l le top = last-apart q p low (nat_le p.0 (q.1 + 1)) refl a.0 a.1 a.2 le top
joined-apart low (q ∷ r ∷ qs) p a s l le top =
    (a.0, a.1, a.2, joined-apart (q.1 + 2) (r ∷ qs) p a.3 s.1 (let x = a.3.0 in let y = s.1.0 in omega arith) le top)

joined-starts : (ps : List (ℕ × ℕ)) (p : ℕ × ℕ) → StartsBy p.0 ps → StartsBy p.0 (with_joined ps p)
unfolding last
joined-starts [] p s = (omega arith, tt)
joined-starts (q ∷ []) p s = last-starts q p (nat_le p.0 (q.1 + 1)) s.0
joined-starts (q ∷ r ∷ qs) p s = (s.0, joined-starts (r ∷ qs) p s.1)

pub joined-ends : (top : ℕ) (ps : List (ℕ × ℕ)) (p : ℕ × ℕ) → RangesEndBy top ps → p.1 ≤ top → RangesEndBy top (with_joined ps p)
unfolding last
joined-ends top [] p e le = (le, tt)
joined-ends top (q ∷ []) p e le = last-ends q p top (nat_le p.0 (q.1 + 1)) e.0 le
joined-ends top (q ∷ r ∷ qs) p e le = (e.0, joined-ends top (r ∷ qs) p e.1 le)

pub end-at : (top : ℕ) (ps : List (ℕ × ℕ)) → RangesEndBy top ps → (i : ℕ) (d : ℕ × ℕ) → i < length ps → (get_or ps i d).1 ≤ top
end-at top [] e i d lt = absurd (omega arith)
end-at top (p ∷ ps) e zero d lt = e.0
end-at top (p ∷ ps) e (suc i) d lt = end-at top ps e.1 i d (omega arith)

pub ends-last : (top : ℕ) (all ps : List (ℕ × ℕ)) (q : ℕ × ℕ) → RangesEndBy top all → all ≡ ps ++ q ∷ [] → q.1 ≤ top
ends-last top all ps q e is = by ps (subst (RangesEndBy top) is e)
  where
    by : (ps : List (ℕ × ℕ)) → RangesEndBy top (ps ++ q ∷ []) → q.1 ≤ top
    by [] e = e.0
    by (p ∷ ps) e = by ps e.1

-- two lists, of which the last parts `xs` and `ys` are still to be joined
pub record IsJoining (all more out xs ys : List (ℕ × ℕ)) : Type 0 where
  pub exact : (c : ℕ) → (in_ranges out c || (in_ranges xs c || in_ranges ys c)) ≡ (in_ranges all c || in_ranges more c)
  pub from : ℕ
  pub out_apart : IsApartFrom 0 out
  pub out_starts : StartsBy from out
  pub x_apart : IsApartFrom from xs
  pub y_apart : IsApartFrom from ys

or-comm : (a b : Bool) → (a || b) ≡ (b || a)
or-comm true true = refl
or-comm true false = refl
or-comm false true = refl
or-comm false false = refl

left-first : (o a x y : Bool) → ((o || a) || (x || y)) ≡ (o || ((a || x) || y))
left-first true a x y = refl
left-first false true x y = refl
left-first false false x y = refl

flip : (all more out xs ys : List (ℕ × ℕ)) → IsJoining all more out xs ys → IsJoining more all out ys xs
flip all more out xs ys m = record {
  exact = λ c. rw (or-comm (in_ranges ys c) (in_ranges xs c)) (m.exact c ∙ or-comm (in_ranges all c) (in_ranges more c));
  from = m.from;
  out_apart = m.out_apart;
  out_starts = m.out_starts;
  x_apart = m.y_apart;
  y_apart = m.x_apart;
}

joining-left : (all more out : List (ℕ × ℕ)) (p : ℕ × ℕ) (xs ys : List (ℕ × ℕ)) → IsJoining all more out (p ∷ xs) ys → IsApartFrom p.0 ys → IsJoining all more (with_joined out p) xs ys
joining-left all more out p xs ys m y_apart =
    let starts = starts-more m.from p.0 out m.x_apart.0 m.out_starts in
    record {
      exact = λ c. rw (joined-exact 0 out p c m.out_apart starts m.x_apart.1) (left-first (in_ranges out c) (in_pair p c) (in_ranges xs c) (in_ranges ys c) ∙ m.exact c);
      from = p.0;
      out_apart = joined-apart 0 out p m.out_apart starts (omega arith) m.x_apart.1 m.x_apart.2;
      out_starts = joined-starts out p starts;
      x_apart = apart-less (p.1 + 2) p.0 xs (let a = m.x_apart.1 in omega arith) m.x_apart.3;
      y_apart = y_apart;
    }

joining-right : (all more out : List (ℕ × ℕ)) (q : ℕ × ℕ) (xs ys : List (ℕ × ℕ)) → IsJoining all more out xs (q ∷ ys) → IsApartFrom q.0 xs → IsJoining all more (with_joined out q) xs ys
joining-right all more out q xs ys m x_apart = flip more all (with_joined out q) ys xs (joining-left more all out q ys xs (flip all more out xs (q ∷ ys) m) x_apart)

joining-rest : (all more out xs : List (ℕ × ℕ)) → IsJoining all more out xs [] → IsJoining all more (fold with_joined out xs) [] []
joining-rest all more out [] m = m
joining-rest all more out (p ∷ xs) m = joining-rest all more (with_joined out p) xs (joining-left all more out p xs [] m tt)

module _ (xs ys out : List (ℕ × ℕ)) (i j : ℕ) (m : IsJoining xs ys out (drop i xs) (drop j ys)) where
  opened : i < length xs → j < length ys → IsJoining xs ys out (get_or xs i (0, 0) ∷ drop (suc i) xs) (get_or ys j (0, 0) ∷ drop (suc j) ys)
  opened h k = subst (λ l. IsJoining xs ys out (get_or xs i (0, 0) ∷ drop (suc i) xs) l) (drop-cons ys j (0, 0) k)
      (subst (λ l. IsJoining xs ys out l (drop j ys)) (drop-cons xs i (0, 0) h) m)

  pub joining-left-at : i < length xs → j < length ys → (get_or xs i (0, 0)).0 ≤ (get_or ys j (0, 0)).0
      → IsJoining xs ys (with_joined out (get_or xs i (0, 0))) (drop (i + 1) xs) (drop j ys)
  joining-left-at h k le = let o = opened h k in rw (add-one, drop-cons ys j (0, 0) k) (joining-left xs ys out _ _ _ o (le, o.y_apart.1, o.y_apart.2, o.y_apart.3))

  pub joining-right-at : i < length xs → j < length ys → (get_or ys j (0, 0)).0 < (get_or xs i (0, 0)).0
      → IsJoining xs ys (with_joined out (get_or ys j (0, 0))) (drop i xs) (drop (j + 1) ys)
  joining-right-at h k lt = let o = opened h k in rw (add-one, drop-cons xs i (0, 0) h) (joining-right xs ys out _ _ _ o (omega arith, o.x_apart.1, o.x_apart.2, o.x_apart.3))

  pub joining-done : (length xs ≤ i) ⊎ (length ys ≤ j) → IsJoining xs ys (fold with_joined (fold with_joined out (drop i xs)) (drop j ys)) [] []
  joining-done (inl h) =
      let e = drop_of_length-le xs h in
      rw e (flip ys xs _ [] [] (joining-rest ys xs out (drop j ys) (flip xs ys out [] (drop j ys) (subst (λ l. IsJoining xs ys out l (drop j ys)) e m))))
  joining-done (inr h) =
      let e = drop_of_length-le ys h in
      rw e (joining-rest xs ys out (drop i xs) (subst (λ l. IsJoining xs ys out (drop i xs) l) e m))

pub joining-exact : (xs ys out : List (ℕ × ℕ)) → IsJoining xs ys out [] [] → (c : ℕ) → in_ranges out c ≡ (in_ranges xs c || in_ranges ys c)
joining-exact xs ys out m c = sym (or-false (in_ranges out c)) ∙ m.exact c

under : (r : ℕ × ℕ) (t : Bool) (a b : List (ℕ × ℕ)) → (r ∷ cond t a b) ≡ cond t (r ∷ a) (r ∷ b)
under r true a b = refl
under r false a b = refl

-- what `with_joined` makes of a list whose last pair is `q`
joined-last : (ps : List (ℕ × ℕ)) (q p : ℕ × ℕ) (t : Bool) → nat_le p.0 (q.1 + 1) ≡ t
    → with_joined (ps ++ q ∷ []) p ≡ cond t (ps ++ (q.0, max q.1 p.1) ∷ []) ((ps ++ q ∷ []) ++ p ∷ [])
joined-last [] q p t e = ap (λ b. cond b ((q.0, max q.1 p.1) ∷ []) (q ∷ p ∷ [])) e
joined-last (r ∷ []) q p t e = ap (λ l. r ∷ l) (joined-last [] q p t e) ∙ under r t ((q.0, max q.1 p.1) ∷ []) (q ∷ p ∷ [])
joined-last (r ∷ s ∷ ps) q p t e =
    ap (λ l. r ∷ l) (joined-last (s ∷ ps) q p t e) ∙ under r t ((s ∷ ps) ++ (q.0, max q.1 p.1) ∷ []) (((s ∷ ps) ++ q ∷ []) ++ p ∷ [])

module _ (all ps : List (ℕ × ℕ)) (q p : ℕ × ℕ) (is : all ≡ ps ++ q ∷ []) where
  pub joined-touching : p.0 ≤ q.1 + 1 → ps ++ (q.0, max q.1 p.1) ∷ [] ≡ with_joined all p
  joined-touching le = let t : nat_le p.0 (q.1 + 1) ≡ true = grind (arith, nat_tests) in sym (joined-last ps q p true t) ∙ ap (λ l. with_joined l p) (sym is)

  pub joined-behind : q.1 + 1 < p.0 → (ps ++ q ∷ []) ++ p ∷ [] ≡ with_joined all p
  joined-behind lt = let t : nat_le p.0 (q.1 + 1) ≡ false = grind (arith, nat_tests) in sym (joined-last ps q p false t) ∙ ap (λ l. with_joined l p) (sym is)
