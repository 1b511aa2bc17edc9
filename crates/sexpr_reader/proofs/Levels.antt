-- Levels behind more tokens.
use Rattle.std.proofs.Common.{◌≡◌, ℕ, zero, suc, ◌<◌, ◌≤◌, List, [], ◌∷◌, ◌++◌, Bool, true, false, Option, None, Some, if◌then◌else◌, refl, ap, ◌∙◌, arith, rules}
use Rattle.std.specs.Prelude.{nat_lt}
use borrow.Author.Tests.{ltb-true}
use Rattle.sexpr_reader.specs.declared.kind.TokenKind.{TokenKind}
use Rattle.sexpr_reader.specs.Tokens.{Token, Open, Close, Atomic}
use Rattle.sexpr_reader.specs.Items.{levels, most_open_lists}

in_true : (b : Bool) (x y : Option ℕ) (n : ℕ) → (if b then x else None) ≡ Some n → (if b then y else None) ≡ y
in_true true x y n e = refl
in_true false x y n e = cc

pub of_true : (b : Bool) (x : Option ℕ) (n : ℕ) → (if b then x else None) ≡ Some n → x ≡ Some n
of_true true x n e = e
of_true false x n e = cc

pub levels-append : (k n : ℕ) (ts us : List Token) → levels k ts ≡ Some n → levels k (ts ++ us) ≡ levels n us
levels-append k n [] us e = let same : k ≡ n = cc in ap (λ (m : ℕ). levels m us) same
levels-append k n (Open ∷ ts) us e =
    in_true (nat_lt k most_open_lists) (levels (suc k) ts) (levels (suc k) (ts ++ us)) n e ∙ levels-append (suc k) n ts us (of_true (nat_lt k most_open_lists) (levels (suc k) ts) n e)
levels-append zero n (Close ∷ ts) us e = cc
levels-append (suc k) n (Close ∷ ts) us e = levels-append k n ts us e
levels-append k n (Atomic kind bs ∷ ts) us e = levels-append k n ts us e

pub levels-word : (n : ℕ) (ts : List Token) (kind : TokenKind) (bs : List ℕ) → levels 0 ts ≡ Some n → levels 0 (ts ++ Atomic kind bs ∷ []) ≡ Some n
levels-word n ts kind bs e = levels-append 0 n ts (Atomic kind bs ∷ []) e

pub levels-open : (n : ℕ) (ts : List Token) → levels 0 ts ≡ Some n → n < most_open_lists → levels 0 (ts ++ Open ∷ []) ≡ Some (suc n)
levels-open n ts e h = let is : nat_lt n most_open_lists ≡ true = search rules in levels-append 0 n ts (Open ∷ []) e ∙ ap (λ (b : Bool). if b then Some (suc n) else None) is

pub levels-close : (n : ℕ) (ts : List Token) → levels 0 ts ≡ Some (suc n) → levels 0 (ts ++ Close ∷ []) ≡ Some n
levels-close n ts e = levels-append 0 (suc n) ts (Close ∷ []) e

levels_step : (k n : ℕ) (b : Bool) (ts : List Token) → ((suc k ≤ most_open_lists) → levels (suc k) ts ≡ Some n → n ≤ most_open_lists) → (b ≡ true → suc k ≤ most_open_lists) → (if b then levels (suc k) ts else None) ≡ Some n → n ≤ most_open_lists
levels_step k n true ts back low e = back (low refl) e
levels_step k n false ts back low e = cc

pub levels_bound : (k n : ℕ) (ts : List Token) → k ≤ most_open_lists → levels k ts ≡ Some n → n ≤ most_open_lists
levels_bound k n [] h e = let same : k ≡ n = cc in omega arith
levels_bound k n (Open ∷ ts) h e = levels_step k n (nat_lt k most_open_lists) ts (λ low d. levels_bound (suc k) n ts low d) (λ b. is_below k b) e
  where
    is_below : (j : ℕ) → nat_lt j most_open_lists ≡ true → suc j ≤ most_open_lists
    is_below j b = omega (arith, ltb-true)
levels_bound zero n (Close ∷ ts) h e = cc
levels_bound (suc k) n (Close ∷ ts) h e = levels_bound k n ts (omega arith) e
levels_bound k n (Atomic kind bs ∷ ts) h e = levels_bound k n ts h e
