-- A list looked at from its front: what holds of some element that was looked at, once one element more was.
use Rattle.std.proofs.Common.{◌≡◌, ℕ, ◌+◌, ◌<◌, ◌≤◌, ◌↔◌, ◌⊎◌, inl, inr, List, [], ◌∷◌, ◌++◌, length, take, get_or, Any, Contains, refl, sym, ap, ◌∙◌, subst, append_assoc}
use Rattle.std.proofs.lemmas.List.{take_more, take_all}
use Rattle.std.proofs.lemmas.List.Elements.{Contains-push_cases}
use Rattle.sv_list.specs.Lists.{Any-none, Any-here, Any-push_cases, Any-append_left, Any-append_right, take-read}
use Rattle.pre_image.specs.Spelling.{moved_to, spelling}
use Rattle.pre_image.specs.declared.letter.Letter.{Letter}
use Rattle.pre_image.specs.declared.letter.Letter.TheVariants.{Fixed}
use Rattle.sv_terms.specs.declared.transducer.Item.{Item}
use Rattle.sv_terms.specs.declared.transducer.Item.TheVariants as item
use Rattle.pre_image.specs.Leading.{next_of, spelled}

-- one element more at the end
pub any-more : {X : Type 0} (P : X → Type 0) (xs new : List X) (x : X) → new ≡ xs ++ x ∷ [] → Any P new ↔ (Any P xs ⊎ P x)
any-more P xs new x e = (
  λ a. Any-push_cases P xs x (subst (Any P) e a),
  λ h. subst (Any P) (sym e) (elim h [ inl a ↦ Any-append_left P xs (x ∷ []) a | inr p ↦ Any-append_right P xs (x ∷ []) (Any-here P x [] p) ]),
)

pub each-more : {X : Type 0} (P : X → Type 0) (xs new : List X) (x : X) → new ≡ xs ++ x ∷ [] → ((y : X) → Contains xs y → P y) → P x → (y : X) → Contains new y → P y
each-more P xs new x e old here y i = elim (Contains-push_cases xs x y (subst (λ l. Contains l y) e i)) [ inl a ↦ old y a | inr s ↦ subst P s here ]

-- one more was looked at
pub more-of : {X : Type 0} (P : X → Type 0) (xs : List X) (i : ℕ) (x : X) → i < length xs → x ≡ get_or xs i x → (New Old B : Type 0)
    → Old ↔ (B ⊎ Any P (take i xs)) → New ↔ (Old ⊎ P x) → New ↔ (B ⊎ Any P (take (i + 1) xs))
more-of P xs i x lt e New Old B old new =
    let more = any-more P (take i xs) (take (i + 1) xs) x (take-read xs i x lt e) in (
      λ n. elim (new.0 n) [
        | inl o ↦ elim (old.0 o) [ inl b ↦ inl b | inr a ↦ inr (more.1 (inl a)) ]
        | inr p ↦ inr (more.1 (inr p))
      ],
      λ h. elim h [
        | inl b ↦ new.1 (inl (old.1 (inl b)))
        | inr a ↦ elim (more.0 a) [ inl l ↦ new.1 (inl (old.1 (inr l))) | inr p ↦ new.1 (inr p) ]
      ],
    )

pub more-alone : {X : Type 0} (P : X → Type 0) (xs : List X) (i : ℕ) (x : X) → i < length xs → x ≡ get_or xs i x → (New Old : Type 0)
    → Old ↔ Any P (take i xs) → New ↔ (Old ⊎ P x) → New ↔ Any P (take (i + 1) xs)
more-alone P xs i x lt e New Old old new =
    let more = any-more P (take i xs) (take (i + 1) xs) x (take-read xs i x lt e) in (
      λ n. elim (new.0 n) [ inl o ↦ more.1 (inl (old.0 o)) | inr p ↦ more.1 (inr p) ],
      λ a. elim (more.0 a) [ inl l ↦ new.1 (inl (old.1 l)) | inr p ↦ new.1 (inr p) ],
    )

-- one more was looked at, and it is none of them
pub more-none : {X : Type 0} (P : X → Type 0) (xs : List X) (i : ℕ) (x : X) → i < length xs → x ≡ get_or xs i x → (Old : Type 0)
    → Old ↔ Any P (take i xs) → (P x → ⊥) → Old ↔ Any P (take (i + 1) xs)
more-none P xs i x lt e Old old out =
    let more = any-more P (take i xs) (take (i + 1) xs) x (take-read xs i x lt e) in (
      λ o. more.1 (inl (old.0 o)),
      λ a. elim (more.0 a) [ inl l ↦ old.1 l | inr p ↦ absurd (out p) ],
    )

-- all were looked at
pub all-of : {X : Type 0} (P : X → Type 0) (xs : List X) (i : ℕ) → length xs ≤ i → (New B : Type 0) → New ↔ (B ⊎ Any P (take i xs)) → New ↔ (B ⊎ Any P xs)
all-of P xs i done New B h = subst (λ l. New ↔ (B ⊎ Any P l)) (take_all i xs done) h

pub all-alone : {X : Type 0} (P : X → Type 0) (xs : List X) (i : ℕ) → length xs ≤ i → (New : Type 0) → New ↔ Any P (take i xs) → New ↔ Any P xs
all-alone P xs i done New h = subst (λ l. New ↔ Any P l) (take_all i xs done) h

pub old-yet : {Y : Type 0} (Q : Y → Type 0) (Old : Type 0) → Old ↔ (Old ⊎ Any Q [])
old-yet Q Old = (λ o. inl o, λ h. elim h [ inl o ↦ o | inr a ↦ absurd (Any-none Q a) ])

pub or-never : (Old : Type 0) → Old ↔ (Old ⊎ ⊥)
or-never Old = (λ o. inl o, λ h. elim h [ inl o ↦ o | inr a ↦ absurd a ])

-- where the inner facts are alike
pub alike : (New Old P Q : Type 0) → New ↔ (Old ⊎ P) → P ↔ Q → New ↔ (Old ⊎ Q)
alike New Old P Q h e = (
  λ n. elim (h.0 n) [ inl o ↦ inl o | inr p ↦ inr (e.0 p) ],
  λ s. elim s [ inl o ↦ h.1 (inl o) | inr q ↦ h.1 (inr (e.1 q)) ],
)

-- what is spelled, with one character more
pub spelled-more : (xs new : List Letter) (n : Letter) (c : ℕ) → new ≡ xs ++ n ∷ [] → spelled new c ≡ spelled xs c ++ next_of n c ∷ []
spelled-more xs new n c e = ap (λ l. spelled l c) e ∙ by xs
  where
    by : (l : List Letter) → spelled (l ++ n ∷ []) c ≡ spelled l c ++ next_of n c ∷ []
    by [] = refl
    by (x ∷ l) = ap (λ r. next_of x c ∷ r) (by l)

-- what items write, with one item more
written-append : (c : ℕ) (is js : List Item) → spelling c (is ++ js) ≡ spelling c is ++ spelling c js
written-append c [] js = refl
written-append c (item.Text w ∷ is) js = ap (λ l. w ++ l) (written-append c is js) ∙ sym (append_assoc w (spelling c is) (spelling c js))
written-append c (item.Shift k ∷ is) js = ap (λ l. moved_to k c ∷ l) (written-append c is js)

pub spelled-item : (old new : List Letter) (items : List Item) (i : ℕ) (x : Item) (c : ℕ) → i < length items → x ≡ get_or items i x
    → spelled new c ≡ spelled old c ++ spelling c (x ∷ []) → spelled old c ≡ spelling c (take i items) → spelled new c ≡ spelling c (take (i + 1) items)
spelled-item old new items i x c lt e n h =
    n ∙ ap (λ l. l ++ spelling c (x ∷ [])) h ∙ sym (written-append c (take i items) (x ∷ [])) ∙ ap (spelling c) (sym (take-read items i x lt e))

pub spelled-next : (nexts : List Letter) (i : ℕ) (c : ℕ) → i < length nexts → spelled (take (i + 1) nexts) c ≡ spelled (take i nexts) c ++ next_of (get_or nexts i (Fixed 0)) c ∷ []
spelled-next nexts i c lt = spelled-more (take i nexts) (take (i + 1) nexts) (get_or nexts i (Fixed 0)) c (take_more nexts i (Fixed 0) lt)
