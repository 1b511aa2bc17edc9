-- Lists of machines in place of lists of expressions.
use Rattle.std.proofs.lemmas.List.{take_more, take_all}
use Rattle.std.proofs.lemmas.Bool.Decides.{nat_tests}
use Rattle.std.proofs.Common.{◌≡◌, ℕ, zero, suc, ◌+◌, IsTrue, nat_le, ◌<◌, ◌≤◌, ◌↔◌, inl, inr, List, [], ◌∷◌, ◌++◌, length, take, get_or, ap, sym, ◌∙◌, subst, arith}
use Rattle.machine_core.specs.declared.graph.Graph.{Graph}
use Rattle.sv_terms.specs.Language.{Word, In, Power, InOneOf, InFirstOnly}
use Rattle.sv_terms.specs.declared.regex.Regex.{Regex}
use Rattle.sv_word.specs.Ranges.{in_ranges}
use Rattle.sv_terms.specs.Bounds.{size}
use Rattle.regex_machine.specs.Joined.{WordsOf, HasWords, HaveNoRegisters, AreMade}
use Rattle.sv_word.specs.Words.{greatest_character}

pub made-push : (rs : List Regex) (ms : List Graph) (r : Regex) (m : Graph) → AreMade rs ms → HasWords (In r) m → m.states ≤ size r → AreMade (rs ++ r ∷ []) (ms ++ m ∷ [])
made-push [] [] r m h g few = (g, few, tt)
made-push [] (n ∷ ms) r m h g few = absurd h
made-push (q ∷ rs) [] r m h g few = absurd h
made-push (q ∷ rs) (n ∷ ms) r m h g few = (h.0, h.1, made-push rs ms r m h.2 g few)

pub made-plain : (rs : List Regex) (ms : List Graph) → AreMade rs ms → HaveNoRegisters ms
made-plain rs [] h m (k, lt, e) = absurd (omega arith)
made-plain [] (n ∷ ms) h m i = absurd h
made-plain (r ∷ rs) (n ∷ ms) h m (zero, lt, e) = subst (λ (x : Graph). x.registers ≡ 0) e h.0.plain
made-plain (r ∷ rs) (n ∷ ms) h m (suc k, lt, e) = made-plain rs ms h.2 m (k, omega arith, e)

pub one-made : (rs : List Regex) (ms : List Graph) → AreMade rs ms → (w : Word) → InOneOf WordsOf ms w ↔ InOneOf In rs w
one-made [] [] h w = (λ x. x, λ x. x)
one-made [] (m ∷ ms) h w = absurd h
one-made (r ∷ rs) [] h w = absurd h
one-made (r ∷ rs) (m ∷ ms) h w = (
  λ x. elim x [ inl a ↦ inl ((h.0.words w).0 a) | inr a ↦ inr ((one-made rs ms h.2 w).0 a) ],
  λ x. elim x [ inl a ↦ inl ((h.0.words w).1 a) | inr a ↦ inr ((one-made rs ms h.2 w).1 a) ],
)

pub first-made : (rs : List Regex) (ms : List Graph) → AreMade rs ms → (w : Word) → InFirstOnly WordsOf ms w ↔ InFirstOnly In rs w
first-made [] [] h w = (λ x. x, λ x. x)
first-made [] (m ∷ ms) h w = absurd h
first-made (r ∷ rs) [] h w = absurd h
first-made (r ∷ rs) (m ∷ ms) h w = (
  λ x. ((h.0.words w).0 x.0, λ y. x.1 ((one-made rs ms h.2 w).1 y)),
  λ x. ((h.0.words w).1 x.0, λ y. x.1 ((one-made rs ms h.2 w).0 y)),
)

pub made-more : (rs : List Regex) (i : ℕ) (r : Regex) (ms : List Graph) (m : Graph) → i < length rs → r ≡ get_or rs i r → HasWords (In r) m → m.states ≤ size r → AreMade (take i rs) ms → AreMade (take (i + 1) rs) (ms ++ m ∷ [])
made-more rs i r ms m lt is read few h =
    let grown : take (i + 1) rs ≡ take i rs ++ r ∷ [] = take_more rs i r lt ∙ ap (λ x. take i rs ++ x ∷ []) (sym is) in
    subst (λ l. AreMade l (ms ++ m ∷ [])) (sym grown) (made-push (take i rs) ms r m h read few)

pub made-all : (rs : List Regex) (i : ℕ) (ms : List Graph) → length rs ≤ i → AreMade (take i rs) ms → AreMade rs ms
made-all rs i ms past h = subst (λ l. AreMade l ms) (take_all i rs past) h

-- the words of characters, of no copy, of copies out of order
pub range-all : (on : List (ℕ × ℕ)) → ((c : ℕ) → in_ranges on c ≡ nat_le c greatest_character) → (w : Word)
    → ((c : ℕ) × IsTrue (in_ranges on c) × (w ≡ c ∷ [])) ↔ ((c : ℕ) × (c ≤ greatest_character) × (w ≡ c ∷ []))
range-all on all w = (λ x. (x.0, below x.0 x.1, x.2), λ x. (x.0, inside x.0 x.1, x.2))
  where
    below : (c : ℕ) → IsTrue (in_ranges on c) → c ≤ greatest_character
    below c h = let e = all c in grind (arith, nat_tests)

    inside : (c : ℕ) → c ≤ greatest_character → IsTrue (in_ranges on c)
    inside c h = let e = all c in grind (arith, nat_tests)

pub no-order : (P : Word → Type 0) (i j : ℕ) → j < i → (w : Word) → ⊥ ↔ ((n : ℕ) × (i ≤ n) × (n ≤ j) × Power P n w)
no-order P i j lt w = (λ x. absurd x, λ x. (let a = x.1 in let b = x.2 in absurd (omega arith)))

pub no-copy : (P : Word → Type 0) (i j : ℕ) → i ≤ j → j ≡ 0 → (w : Word) → (w ≡ []) ↔ ((n : ℕ) × (i ≤ n) × (n ≤ j) × Power P n w)
no-copy P i j le z w = (λ e. (0, omega arith, omega arith, e), λ x. out x.0 x.1 x.2 x.3)
  where
    out : (n : ℕ) → i ≤ n → n ≤ j → Power P n w → w ≡ []
    out zero a b p = p
    out (suc n) a b p = absurd (omega arith)
