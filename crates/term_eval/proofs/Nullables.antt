-- Whether the empty word is in a regular expression.
use Rattle.std.proofs.Common.{Bool, true, false, not, IsTrue, ◌↔◌, drop, take, ◌-◌, ◌≡◌, refl, sym, ap, ◌∙◌, subst, nat_eq, ℕ, zero, suc, ◌≤◌, ◌<◌, List, [], ◌∷◌, ◌++◌, length, get_or, inl, inr, arith}
use Rattle.std.proofs.lemmas.Grind.{common_steps}
use Rattle.sv_terms.specs.declared.regex.Regex.{Regex}
use Rattle.sv_terms.specs.declared.regex.Regex.TheVariants as v
use Rattle.sv_word.specs.Words.{IsWord, greatest_character}
use Rattle.sv_terms.specs.Language.{Word, Language, Then, Power, In, InAllOf, InOneOf, InEachInTurn, Repeated, done}
use Rattle.sv_terms.specs.Opened.{In-Empty, In-All, In-AnyChar, In-Text, In-Range, In-Concat, In-Union, In-Inter, In-Diff, In-Star, In-Plus, In-Opt, In-Comp, In-Loop}

then_left : (P Q : Language) (u v : Word) → [] ≡ u ++ v → P u → P []
then_left P Q [] v e p = p
then_left P Q (c ∷ u) v e p = cc

then_right : (P Q : Language) (u v : Word) → [] ≡ u ++ v → Q v → Q []
then_right P Q [] v e q = subst Q (sym e) q
then_right P Q (c ∷ u) v e q = cc

then_nil : (P Q : Language) → P [] → Q [] → Then P Q []
then_nil P Q p q = ([], [], refl, p, q)

power_nil : (P : Language) (n : ℕ) → P [] → Power P n []
power_nil P zero p = refl
power_nil P (suc n) p = then_nil P (Power P n) p (power_nil P n p)

power_one : (P : Language) (n : ℕ) → 0 < n → Power P n [] → P []
power_one P zero h p = absurd (omega arith)
power_one P (suc n) h t = then_left P (Power P n) t.0 t.1 t.2 t.3

pub never-Empty : In v.Empty [] → ⊥
never-Empty h = rw In-Empty at h

pub nil-All : In v.All []
nil-All = rw In-All tt

pub never-AnyChar : In v.AnyChar [] → ⊥
never-AnyChar h = let q : (c : ℕ) × (c ≤ greatest_character) × ([] ≡ c ∷ []) = rw In-AnyChar at h in let e = q.2 in cc

pub never-Range : (lo hi : ℕ) → In (v.Range lo hi) [] → ⊥
never-Range lo hi h = let q : (c : ℕ) × (lo ≤ c) × (c ≤ hi) × (c ≤ greatest_character) × ([] ≡ c ∷ []) = rw In-Range at h in let e = q.4 in cc

pub nil-Text : (t : Word) → length t ≡ 0 → In (v.Text t) []
nil-Text [] h = rw In-Text (refl, tt)
nil-Text (c ∷ t) h = absurd (omega arith)

pub of-nil-Text : (t : Word) → In (v.Text t) [] → length t ≡ 0
of-nil-Text t h = let q : ([] ≡ t) × IsWord [] = rw In-Text at h in ap length (sym q.0)

pub nil-Star : (r : Regex) → In (v.Star r) []
nil-Star r = rw In-Star done

pub nil-Opt : (r : Regex) → In (v.Opt r) []
nil-Opt r = rw In-Opt (inl refl)

pub nil-Plus : (r : Regex) → In r [] → In (v.Plus r) []
nil-Plus r h = rw In-Plus (then_nil (In r) (Repeated (In r)) h done)

pub of-nil-Plus : (r : Regex) → In (v.Plus r) [] → In r []
of-nil-Plus r h = let t : Then (In r) (Repeated (In r)) [] = rw In-Plus at h in then_left (In r) (Repeated (In r)) t.0 t.1 t.2 t.3

pub nil-Comp : (r : Regex) → (In r [] → ⊥) → In (v.Comp r) []
nil-Comp r h = rw In-Comp (tt, h)

pub of-nil-Comp : (r : Regex) → In (v.Comp r) [] → In r [] → ⊥
of-nil-Comp r h g = let q : IsWord [] × (In r [] → ⊥) = rw In-Comp at h in q.1 g

pub nil-Loop : (r : Regex) (i j : ℕ) → i ≤ j → In r [] → In (v.Loop r i j) []
nil-Loop r i j h g = rw In-Loop (i, omega arith, h, power_nil (In r) i g)

pub nil-Loop-zero : (r : Regex) (i j : ℕ) → i ≡ 0 → In (v.Loop r i j) []
nil-Loop-zero r i j h = rw In-Loop (0, omega arith, omega arith, refl)

pub of-nil-Loop : (r : Regex) (i j : ℕ) → In (v.Loop r i j) [] → (i ≤ j) × ((i ≡ 0 → ⊥) → In r [])
of-nil-Loop r i j h =
    let q : (n : ℕ) × (i ≤ n) × (n ≤ j) × Power (In r) n [] = rw In-Loop at h in
    (omega (arith, q.1, q.2), λ g. let l : 0 < q.0 = (let m = q.1 in omega (arith, m, g)) in power_one (In r) q.0 l q.3)

-- lists
turn_all : (rs : List Regex) → InEachInTurn In rs [] → InAllOf In rs []
turn_all [] h = tt
turn_all (r ∷ rs) t = (then_left (In r) (InEachInTurn In rs) t.0 t.1 t.2 t.3, turn_all rs (then_right (In r) (InEachInTurn In rs) t.0 t.1 t.2 t.4))

all_turn : (rs : List Regex) → InAllOf In rs [] → InEachInTurn In rs []
all_turn [] h = refl
all_turn (r ∷ rs) h = then_nil (In r) (InEachInTurn In rs) h.0 (all_turn rs h.1)

pub nil-Concat : (rs : List Regex) → InAllOf In rs [] → In (v.Concat rs) []
nil-Concat rs h = rw In-Concat (all_turn rs h)

pub of-nil-Concat : (rs : List Regex) → In (v.Concat rs) [] → InAllOf In rs []
of-nil-Concat rs h = turn_all rs (rw In-Concat at h)

pub nil-Union : (rs : List Regex) → InOneOf In rs [] → In (v.Union rs) []
nil-Union rs h = rw In-Union h

pub of-nil-Union : (rs : List Regex) → In (v.Union rs) [] → InOneOf In rs []
of-nil-Union rs h = rw In-Union at h

pub nil-Inter : (rs : List Regex) → InAllOf In rs [] → In (v.Inter rs) []
nil-Inter rs h = rw In-Inter h

pub of-nil-Inter : (rs : List Regex) → In (v.Inter rs) [] → InAllOf In rs []
of-nil-Inter rs h = rw In-Inter at h

pub never-Diff : In (v.Diff []) [] → ⊥
never-Diff h = rw In-Diff at h

pub nil-Diff : (r : Regex) (rs : List Regex) → In r [] → (InOneOf In rs [] → ⊥) → In (v.Diff (r ∷ rs)) []
nil-Diff r rs h g = rw In-Diff (h, g)

pub of-nil-Diff : (r : Regex) (rs : List Regex) → In (v.Diff (r ∷ rs)) [] → In r [] × (InOneOf In rs [] → ⊥)
of-nil-Diff r rs h = rw In-Diff at h

pub all-nil : (rs : List Regex) → ((k : ℕ) (d : Regex) → k < length rs → In (get_or rs k d) []) → InAllOf In rs []
all-nil [] h = tt
all-nil (r ∷ rs) h = (h 0 r (omega arith), all-nil rs (λ k d l. h (suc k) d (omega arith)))

pub all-nil-at : (rs : List Regex) (k : ℕ) (d : Regex) → k < length rs → InAllOf In rs [] → In (get_or rs k d) []
all-nil-at [] k d l h = absurd (omega arith)
all-nil-at (r ∷ rs) zero d l h = h.0
all-nil-at (r ∷ rs) (suc k) d l h = all-nil-at rs k d (omega arith) h.1

pub one-nil : (rs : List Regex) (k : ℕ) (d : Regex) → k < length rs → In (get_or rs k d) [] → InOneOf In rs []
one-nil [] k d l h = absurd (omega arith)
one-nil (r ∷ rs) zero d l h = inl h
one-nil (r ∷ rs) (suc k) d l h = inr (one-nil rs k d (omega arith) h)

pub never-one : (rs : List Regex) → ((k : ℕ) (d : Regex) → k < length rs → In (get_or rs k d) [] → ⊥) → InOneOf In rs [] → ⊥
never-one [] h p = p
never-one (r ∷ rs) h (inl p) = h 0 r (omega arith) p
never-one (r ∷ rs) h (inr p) = never-one rs (λ k d l. h (suc k) d (omega arith)) p

pub ruleset nullables = (never-Empty, nil-All, never-AnyChar, never-Range, nil-Text, of-nil-Text, nil-Star, nil-Opt, nil-Plus, of-nil-Plus, nil-Comp, of-nil-Comp, nil-Loop, nil-Loop-zero, of-nil-Loop, nil-Concat, of-nil-Concat, nil-Union, of-nil-Union, nil-Inter, of-nil-Inter, never-Diff, nil-Diff, of-nil-Diff, all-nil, all-nil-at, one-nil, never-one)

pub diff-short : (r : Regex) (rs xs : List Regex) → r ≡ v.Diff rs → xs ≡ rs → length xs < 1 → (IsTrue false → In r []) × (In r [] → IsTrue false)
diff-short r rs [] e f l = (λ h. absurd (cc), λ h. absurd (never-Diff (subst (λ z. In z []) (e ∙ ap v.Diff (sym f)) h)))
diff-short r rs (x ∷ xs) e f l = absurd (omega arith)

not_same : (b : Bool) (P Q : Type 0) → P → (IsTrue b ↔ Q) → (P → (Q → ⊥) → IsTrue (not b)) × (IsTrue (not b) → Q → ⊥)
not_same true P Q p e = (λ _ g. absurd (g (e.0 refl)), λ h q. absurd (cc))
not_same false P Q p e = (λ _ g. refl, λ h q. let k = e.1 q in absurd (cc))

pub whole_rest : (y : Regex) (ys : List Regex) → take (length (y ∷ ys) - 1) (drop 1 (y ∷ ys)) ≡ ys
whole_rest y ys = grind (arith, common_steps)

pub diff-front : (r x : Regex) (rs xs : List Regex) (b : Bool) → r ≡ v.Diff rs → xs ≡ rs → 1 ≤ length xs → x ≡ get_or xs 0 x → In x [] → (IsTrue b ↔ InOneOf In (take (length xs - 1) (drop 1 xs)) []) → (IsTrue (not b) → In r []) × (In r [] → IsTrue (not b))
diff-front r x rs [] b e f l g p h = absurd (omega arith)
diff-front r x rs (y ∷ xs) b e f l g p h =
    let k : r ≡ v.Diff (y ∷ xs) = e ∙ ap v.Diff (sym f) in
    let n = not_same b (In x []) (InOneOf In xs []) p (subst (λ z. IsTrue b ↔ InOneOf In z []) (whole_rest y xs) h) in
    (λ q. subst (λ z. In z []) (sym k) (nil-Diff y xs (subst (λ z. In z []) g p) (n.1 q)), λ q. let d = of-nil-Diff y xs (subst (λ z. In z []) k q) in n.0 p d.1)

pub diff-else : (r x : Regex) (rs xs : List Regex) (b : Bool) → r ≡ v.Diff rs → xs ≡ rs → 1 ≤ length xs → x ≡ get_or xs 0 x → b ≡ false → (In x [] → IsTrue b) → (IsTrue b → In r []) × (In r [] → IsTrue b)
diff-else r x rs [] b e f l g k p = absurd (omega arith)
diff-else r x rs (y ∷ xs) b e f l g k p =
    (λ q. absurd (cc), λ q. p (subst (λ z. In z []) (sym g) (of-nil-Diff y xs (subst (λ z. In z []) (e ∙ ap v.Diff (sym f)) q)).0))

-- the answers at a regular expression of each kind
pub is-never : IsTrue false → ⊥
is-never h = cc

pub answers-true : (r s : Regex) → r ≡ s → In s [] → (IsTrue true → In r []) × (In r [] → IsTrue true)
answers-true r s e h = (λ q. subst (λ z. In z []) (sym e) h, λ q. refl)

pub answers-false : (r s : Regex) → r ≡ s → (In s [] → ⊥) → (IsTrue false → In r []) × (In r [] → IsTrue false)
answers-false r s e h = (λ q. absurd (is-never q), λ q. absurd (h (subst (λ z. In z []) e q)))

pub answers-as : (r s : Regex) (b : Bool) (P : Type 0) → r ≡ s → (P → In s []) → (In s [] → P) → (IsTrue b ↔ P) → (IsTrue b → In r []) × (In r [] → IsTrue b)
answers-as r s b P e f g h = (λ q. subst (λ z. In z []) (sym e) (f (h.0 q)), λ q. h.1 (g (subst (λ z. In z []) e q)))

pub answers-not : (r s : Regex) (b : Bool) → r ≡ v.Comp s → (IsTrue b ↔ In s []) → (IsTrue (not b) → In r []) × (In r [] → IsTrue (not b))
answers-not r s true e h = (λ q. absurd (is-never q), λ q. absurd (of-nil-Comp s (subst (λ z. In z []) e q) (h.0 refl)))
answers-not r s false e h = (λ q. subst (λ z. In z []) (sym e) (nil-Comp s (λ k. is-never (h.1 k))), λ q. refl)

pub answers-zero : (r s : Regex) (i j : ℕ) → r ≡ v.Loop s i j → i ≡ 0 → (IsTrue (nat_eq i 0) → In r []) × (In r [] → IsTrue (nat_eq i 0))
answers-zero r s i j e h = (λ q. subst (λ z. In z []) (sym e) (nil-Loop-zero s i j h), λ q. ap (λ n. nat_eq n 0) h)
