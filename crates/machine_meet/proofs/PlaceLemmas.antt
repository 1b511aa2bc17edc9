-- What stands at a place of a list, and columns of lists.
use Rattle.std.proofs.Common.{◌≡◌, ℕ, zero, suc, ◌+◌, ◌-◌, drop, ◌<◌, ◌≤◌, List, [], ◌∷◌, ◌++◌, length, map, take, get_or, slice_get, All, Some, refl, ap, sym, ◌∙◌, subst, arith, add-one, inl, inr}
use Rattle.std.proofs.lemmas.List.{take_all}
use Rattle.std.proofs.lemmas.Option.{slice_get_within, get_or_from_slice_get, slice_get-get_or, none-some}
use Rattle.sv_list.specs.Lists.{slice_get-push_cases, stands-at}
use Rattle.machine_meet.proofs.JoinLemmas.{take-push}
use Rattle.machine_meet.specs.Splits.{IsColumn}

-- what stands at the same place of a list of the same length
pub beside : {X Y : Type 0} (xs : List X) (ys : List Y) (i : ℕ) (x : X) → length ys ≡ length xs → slice_get xs i ≡ Some x → (y : Y) × (slice_get ys i ≡ Some y)
beside [] ys i x e f = absurd (none-some x f)
beside (x' ∷ xs) [] i x e f = absurd (omega arith)
beside (x' ∷ xs) (y ∷ ys) zero x e f = (y, refl)
beside (x' ∷ xs) (y ∷ ys) (suc i) x e f = beside xs ys i x (omega arith) f

pub take-got : {X : Type 0} (xs : List X) (i : ℕ) (x : X) → slice_get xs i ≡ Some x → take (suc i) xs ≡ take i xs ++ x ∷ []
take-got [] i x e = absurd (none-some x e)
take-got (y ∷ ys) zero x e = let same : y ≡ x = cc in ap (λ z. z ∷ []) same
take-got (y ∷ ys) (suc i) x e = ap (λ l. y ∷ l) (take-got ys i x e)

pub map-each : {X Y : Type 0} (f : X → Y) (xs : List X) (ys : List Y) → length xs ≡ length ys
    → ((i : ℕ) (x : X) → slice_get xs i ≡ Some x → (y : Y) → slice_get ys i ≡ Some y → f x ≡ y) → map f xs ≡ ys
map-each f [] [] e h = refl
map-each f [] (y ∷ ys) e h = absurd (omega arith)
map-each f (x ∷ xs) [] e h = absurd (omega arith)
map-each f (x ∷ xs) (y ∷ ys) e h =
    let head = h zero x refl y refl in
    let tail = map-each f xs ys (omega arith) (λ i. h (suc i)) in
    cc

pub length-push : {X : Type 0} (xs : List X) (x : X) → length (xs ++ x ∷ []) ≡ suc (length xs)
length-push [] x = refl
length-push (y ∷ ys) x = ap suc (length-push ys x)

pub count-push : {X : Type 0} (xs new : List X) (x : X) (i : ℕ) → length xs ≡ i → new ≡ xs ++ x ∷ [] → length new ≡ i + 1
count-push xs new x i e pushed = let n = ap length pushed in let m = length-push xs x in omega arith

-- a list by its first element and the others
pub first-and-rest : {X : Type 0} (xs : List X) (first : X) → 1 ≤ length xs → first ≡ get_or xs 0 first → (first ∷ take (length xs - 1) (drop 1 xs)) ≡ xs
first-and-rest [] first h e = absurd (omega arith)
first-and-rest (x ∷ xs) first h e =
    let rest : take (length (x ∷ xs) - 1) xs ≡ xs = take_all (length (x ∷ xs) - 1) xs (omega arith) in
    ap (λ y. y ∷ take (length (x ∷ xs) - 1) xs) e ∙ ap (λ l. x ∷ l) rest

module _ {X : Type 0} (at : ℕ) where
  pub column-start : IsColumn {X = X} at [] []
  column-start = record { count = refl; each = λ i row x p q. absurd (none-some x q) }

  pub column-push : (rows : List (List X)) (column : List X) (row : List X) (x : X) → IsColumn at rows column → slice_get row at ≡ Some x
      → IsColumn at (rows ++ row ∷ []) (column ++ x ∷ [])
  column-push rows column row x h e = record {
    count = length-push column x ∙ ap suc h.count ∙ sym (length-push rows row);
    each = λ i r y p q. elim (slice_get-push_cases rows row i r p) [
      | inl a ↦ elim (slice_get-push_cases column x i y q) [
        | inl b ↦ h.each i r y a b
        | inr b ↦ let lt = slice_get_within rows i r a in let n = h.count in let at = b.0 in absurd (omega arith)
      ]
      | inr a ↦ elim (slice_get-push_cases column x i y q) [
        | inl b ↦ let lt = slice_get_within column i y b in let n = h.count in let at = a.0 in absurd (omega arith)
        | inr b ↦ subst (λ z. slice_get z at ≡ Some y) a.1 (e ∙ ap Some b.1)
      ]
    ];
  }

-- the column after the row at `i`
pub column-next : {X : Type 0} (at : ℕ) (rows : List (List X)) (column new : List X) (i : ℕ) (row items : List X) (x y : X) → i < length rows → row ≡ get_or rows i row
    → IsColumn at (take i rows) column → at < length (get_or rows i row) → items ≡ row → x ≡ get_or items at x → y ≡ x → new ≡ column ++ y ∷ [] → IsColumn at (take (i + 1) rows) new
column-next {X} at rows column new i row items x y lt is h inside same read copied pushed =
    let e : take (i + 1) rows ≡ take i rows ++ row ∷ [] = rw add-one (take-push rows i row lt ∙ ap (λ r. take i rows ++ r ∷ []) (sym is)) in
    let long : at < length row = subst (λ r. at < length r) (sym is) inside in
    let here : slice_get row at ≡ Some y = stands-at row at x long (subst (λ l. x ≡ get_or l at x) same read) ∙ ap Some (sym copied) in
    subst (λ r. IsColumn at r new) (sym e) (subst (IsColumn at (take i rows ++ row ∷ [])) (sym pushed) (column-push at (take i rows) column row y h here))

pub column-all : {X : Type 0} (at : ℕ) (rows : List (List X)) (column : List X) (i : ℕ) → length rows ≤ i → IsColumn at (take i rows) column → IsColumn at rows column
column-all at rows column i le h = subst (λ r. IsColumn at r column) (take_all i rows le) h

-- a read through a list that is the same, of an element that is the same
pub got-through : {X : Type 0} (xs ys : List X) (i : ℕ) (x y : X) → ys ≡ xs → i < length xs → x ≡ get_or ys i x → y ≡ x → slice_get xs i ≡ Some y
got-through xs ys i x y same lt read copied = stands-at xs i x lt (subst (λ l. x ≡ get_or l i x) same read) ∙ ap Some (sym copied)

pub all-got : {X : Type 0} (P : X → Type 0) (xs : List X) → All P xs → (i : ℕ) (x : X) → slice_get xs i ≡ Some x → P x
all-got P xs h i x e = subst P (get_or_from_slice_get xs i x x e) (h i x (slice_get_within xs i x e))

pub all-each : {X : Type 0} (P : X → Type 0) (xs : List X) → ((i : ℕ) (x : X) → slice_get xs i ≡ Some x → P x) → All P xs
all-each P xs h i d lt = h i (get_or xs i d) (slice_get-get_or xs i d lt)
