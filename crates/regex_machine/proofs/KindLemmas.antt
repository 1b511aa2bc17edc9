-- Lists that are put together: lists within lists, and the states of the whole.
use Rattle.std.proofs.Common.{◌≡◌, ℕ, zero, suc, ◌+◌, ◌*◌, ◌^◌, ◌-◌, ◌<◌, ◌≤◌, ◌⊎◌, inl, inr, max, List, [], ◌∷◌, ◌++◌, length, map, take, get_or, Contains, refl, sym, ap, ◌∙◌, subst, arith}
use Rattle.std.proofs.lemmas.List.{append_assoc, append-nil, take_more, take_all}
use Rattle.std.proofs.lemmas.List.Elements.{Contains-append_cases}
use Rattle.std.proofs.Math.Nat.{mul_assoc, mul-le-mul}
use Rattle.sv_list.specs.Lists.{Contains-none, Contains-cases}
use Rattle.sv_word.specs.Words.{IsWord}
use Rattle.machine_core.specs.declared.graph.Graph.{Graph}
use Rattle.machine_meet.specs.Products.{summed, multiplied}
use Rattle.sv_terms.specs.declared.regex.Regex.{Regex}
use Rattle.sv_terms.specs.declared.regex.Regex.TheVariants as v
use Rattle.sv_terms.specs.Language.{Word, Language, In, InOneOf, InEachInTurn, InAllOf}
use Rattle.sv_terms.specs.Opened.{In-Concat, In-Union, In-Inter}
use Rattle.sv_terms.specs.Bounds.{size, from_left, fold_left, in_turn_size, choice_size, both_size, without_size}
use Rattle.regex_machine.specs.Joined.{WordsOf, HasWords, HaveNoRegisters, AreMade}
use Rattle.regex_machine.specs.Kinds.{Together, weight, most_states, states_of}
use Rattle.regex_machine.specs.Parts.{AddsParts}
use Rattle.regex_machine.specs.declared.kind.JoinKind.{JoinKind}
use Rattle.regex_machine.specs.declared.kind.JoinKind.TheVariants as kind
use Rattle.sv_terms.specs.BoundLaws.{size-Concat, size-Union, size-Inter, size-some}
use Rattle.sv_terms.specs.CutOff.{power-more}

-- two lists, one after the other
module _ {X : Type 0} (P : X → Language) where
  turn-split : (xs ys : List X) (w : Word) → InEachInTurn P (xs ++ ys) w → (u t : Word) × (w ≡ u ++ t) × InEachInTurn P xs u × InEachInTurn P ys t
  turn-split [] ys w h = ([], w, refl, refl, h)
  turn-split (x ∷ xs) ys w h =
      let r = turn-split xs ys h.1 h.4 in
      (h.0 ++ r.0, r.1, h.2 ∙ ap (λ t. h.0 ++ t) r.2 ∙ sym (append_assoc h.0 r.0 r.1), (h.0, r.0, refl, h.3, r.3), r.4)

  turn-join : (xs ys : List X) (w u t : Word) → w ≡ u ++ t → InEachInTurn P xs u → InEachInTurn P ys t → InEachInTurn P (xs ++ ys) w
  turn-join [] ys w u t e h g = subst (InEachInTurn P ys) (sym (e ∙ ap (λ x. x ++ t) h)) g
  turn-join (x ∷ xs) ys w u t e h g =
      (h.0, h.1 ++ t, e ∙ ap (λ x. x ++ t) h.2 ∙ append_assoc h.0 h.1 t, h.3, turn-join xs ys (h.1 ++ t) h.1 t refl h.4 g)

  pub one-split : (xs ys : List X) (w : Word) → InOneOf P (xs ++ ys) w → InOneOf P xs w ⊎ InOneOf P ys w
  one-split [] ys w h = inr h
  one-split (x ∷ xs) ys w (inl h) = inl (inl h)
  one-split (x ∷ xs) ys w (inr h) = elim (one-split xs ys w h) [ inl a ↦ inl (inr a) | inr b ↦ inr b ]

  pub one-join : (xs ys : List X) (w : Word) → InOneOf P xs w ⊎ InOneOf P ys w → InOneOf P (xs ++ ys) w
  one-join [] ys w (inl h) = absurd h
  one-join [] ys w (inr h) = h
  one-join (x ∷ xs) ys w (inl (inl h)) = inl h
  one-join (x ∷ xs) ys w (inl (inr h)) = inr (one-join xs ys w (inl h))
  one-join (x ∷ xs) ys w (inr h) = inr (one-join xs ys w (inr h))

  all-word : (xs : List X) (w : Word) → InAllOf P xs w → IsWord w
  all-word [] w h = h
  all-word (x ∷ xs) w h = all-word xs w h.1

  all-split : (xs ys : List X) (w : Word) → InAllOf P (xs ++ ys) w → InAllOf P xs w × InAllOf P ys w
  all-split [] ys w h = (all-word ys w h, h)
  all-split (x ∷ xs) ys w h = let r = all-split xs ys w h.1 in ((h.0, r.0), r.1)

  all-join : (xs ys : List X) (w : Word) → InAllOf P xs w → InAllOf P ys w → InAllOf P (xs ++ ys) w
  all-join [] ys w h g = g
  all-join (x ∷ xs) ys w h g = (h.0, all-join xs ys w h.1 g)

module _ {X Y : Type 0} (P : X → Language) (Q : Y → Language) where
  abbrev Within : JoinKind → List X → List Y → Type 0
  Within k xs us = (w : Word) → Together k P xs w → Together k Q us w

  within-append : (k : JoinKind) (xs ys : List X) (us vs : List Y) → Within k xs us → Within k ys vs → Within k (xs ++ ys) (us ++ vs)
  within-append kind.Turn xs ys us vs f g w h = let r = turn-split P xs ys w h in turn-join Q us vs w r.0 r.1 r.2 (f r.0 r.3) (g r.1 r.4)
  within-append kind.One xs ys us vs f g w h = one-join Q us vs w (elim (one-split P xs ys w h) [ inl a ↦ inl (f w a) | inr b ↦ inr (g w b) ])
  within-append kind.All xs ys us vs f g w h = let r = all-split P xs ys w h in all-join Q us vs w (f w r.0) (g w r.1)

  within-none : (k : JoinKind) → Within k [] []
  within-none kind.Turn w h = h
  within-none kind.One w h = absurd h
  within-none kind.All w h = h

-- weights
pub summed-append : {X : Type 0} (f : X → ℕ) (xs ys : List X) → summed f (xs ++ ys) ≡ summed f xs + summed f ys
summed-append f [] ys = omega arith
summed-append f (x ∷ xs) ys = let rest = summed-append f xs ys in omega arith

multiplied-append : {X : Type 0} (f : X → ℕ) (xs ys : List X) → multiplied f (xs ++ ys) ≡ multiplied f xs * multiplied f ys
multiplied-append f [] ys = omega arith
multiplied-append f (x ∷ xs) ys = ap (λ n. f x * n) (multiplied-append f xs ys) ∙ sym (mul_assoc (f x) (multiplied f xs) (multiplied f ys))

summed-more : {X : Type 0} (f : X → ℕ) (xs : List X) → summed (λ x. f x + 1) xs ≡ summed f xs + length xs
summed-more f [] = omega arith
summed-more f (x ∷ xs) = let rest = summed-more f xs in omega arith

-- a start and the parts, where there isn't one part alone
pub choice-few : {X : Type 0} (f : X → ℕ) (xs : List X) → (length xs ≡ 1 → ⊥) → summed f xs + 1 ≤ max 1 (summed (λ x. f x + 1) xs - 1)
choice-few f [] h = omega arith
choice-few f (x ∷ []) h = absurd (h (omega arith))
choice-few f (x ∷ y ∷ xs) h = let more = summed-more f (x ∷ y ∷ xs) in omega arith

weight-append : {X Y : Type 0} (k : JoinKind) (f : X → ℕ) (g : Y → ℕ) (xs ys : List X) (us vs : List Y)
    → weight k f xs ≤ weight k g us → weight k f ys ≤ weight k g vs → weight k f (xs ++ ys) ≤ weight k g (us ++ vs)
weight-append kind.Turn f g xs ys us vs p q = let a = summed-append f xs ys in let b = summed-append g us vs in omega arith
weight-append kind.One f g xs ys us vs p q = let a = summed-append (λ x. f x + 1) xs ys in let b = summed-append (λ y. g y + 1) us vs in omega arith
weight-append kind.All f g xs ys us vs p q =
    let both : multiplied f xs * multiplied f ys ≤ multiplied g us * multiplied g vs = mul-le-mul p q in
    rw (multiplied-append f xs ys, multiplied-append g us vs) both

weight-none : {X Y : Type 0} (k : JoinKind) (f : X → ℕ) (g : Y → ℕ) → weight k f [] ≤ weight k g []
weight-none kind.Turn f g = omega arith
weight-none kind.One f g = omega arith
weight-none kind.All f g = omega arith

-- sizes from the left
module _ {X : Type 0} (f : X → ℕ) where
  fold-turn : (n : ℕ) (xs : List X) → fold_left in_turn_size n (map f xs) ≡ n + summed f xs
  fold-turn n [] = omega arith
  fold-turn n (x ∷ xs) = let rest = fold-turn (n + f x) xs in omega arith

  fold-choice : (n : ℕ) (xs : List X) → fold_left choice_size n (map f xs) ≡ n + summed (λ x. f x + 1) xs
  fold-choice n [] = omega arith
  fold-choice n (x ∷ xs) = let rest = fold-choice (n + f x + 1) xs in omega arith

  fold-both : (n : ℕ) (xs : List X) → fold_left both_size n (map f xs) ≡ n * multiplied f xs
  fold-both n [] = omega arith
  fold-both n (x ∷ xs) = fold-both (n * f x) xs ∙ mul_assoc n (f x) (multiplied f xs)

  pub fold-without : (n : ℕ) (xs : List X) → fold_left without_size n (map f xs) ≡ n * multiplied (λ x. 2 ^ f x) xs
  fold-without n [] = omega arith
  fold-without n (x ∷ xs) = fold-without (n * 2 ^ f x) xs ∙ mul_assoc n (2 ^ f x) (multiplied (λ x. 2 ^ f x) xs)

-- a list of expressions as one expression
abbrev pub formed : JoinKind → List Regex → Regex
formed kind.Turn rs = v.Concat rs
formed kind.One rs = v.Union rs
formed kind.All rs = v.Inter rs

pub formed-words : (k : JoinKind) (rs : List Regex) (w : Word) → In (formed k rs) w ≡ Together k In rs w
formed-words kind.Turn rs w = In-Concat rs w
formed-words kind.One rs w = In-Union rs w
formed-words kind.All rs w = In-Inter rs w

pub formed-size : (k : JoinKind) (rs : List Regex) → most_states k (weight k size rs) ≤ size (formed k rs)
formed-size kind.Turn [] = let e = size-Concat [] in omega arith
formed-size kind.Turn (r ∷ rs) = let e = size-Concat (r ∷ rs) in let all = fold-turn size (size r) rs in let some = size-some r in omega arith
formed-size kind.One [] = let e = size-Union [] in omega arith
formed-size kind.One (r ∷ rs) = let e = size-Union (r ∷ rs) in let all = fold-choice size (size r) rs in let some = size-some r in omega arith
formed-size kind.All [] = let e = size-Inter [] in omega arith
formed-size kind.All (r ∷ rs) = let e = size-Inter (r ∷ rs) in let all = fold-both size (size r) rs in omega arith

pub inner-size : (k : JoinKind) (r : Regex) (rs slice : List Regex) → r ≡ formed k rs → slice ≡ rs → most_states k (weight k size slice) ≤ size r
inner-size k r rs slice is seen =
    subst (λ x. most_states k (weight k size slice) ≤ size x) (sym is) (subst (λ l. most_states k (weight k size l) ≤ size (formed k rs)) (sym seen) (formed-size k rs))

-- the same the other way round, for a list within a list
inner-weight : (k : JoinKind) (rs : List Regex) → weight k size rs ≤ weight k size (formed k rs ∷ [])
inner-weight kind.Turn rs = let h = formed-size kind.Turn rs in omega arith
inner-weight kind.One rs = let h = formed-size kind.One rs in omega arith
inner-weight kind.All rs = let h = formed-size kind.All rs in omega arith

cast : (A B : Type 0) → A ≡ B → A → B
cast A B e a = subst (λ (T : Type 0). T) e a

inner-out : (k : JoinKind) (rs : List Regex) (w : Word) → Together k In rs w → Together k In (formed k rs ∷ []) w
inner-out kind.Turn rs w h = (w, [], sym (append-nil w), cast (InEachInTurn In rs w) (In (v.Concat rs) w) (sym (In-Concat rs w)) h, refl)
inner-out kind.One rs w h = inl (cast (InOneOf In rs w) (In (v.Union rs) w) (sym (In-Union rs w)) h)
inner-out kind.All rs w h = (cast (InAllOf In rs w) (In (v.Inter rs) w) (sym (In-Inter rs w)) h, all-word In rs w h)

inner-in : (k : JoinKind) (rs : List Regex) (w : Word) → Together k In (formed k rs ∷ []) w → Together k In rs w
inner-in kind.Turn rs w h =
    let whole : w ≡ h.0 = h.2 ∙ ap (λ t. h.0 ++ t) h.4 ∙ append-nil h.0 in
    subst (InEachInTurn In rs) (sym whole) (cast (In (v.Concat rs) h.0) (InEachInTurn In rs h.0) (In-Concat rs h.0) h.3)
inner-in kind.One rs w (inl h) = cast (In (v.Union rs) w) (InOneOf In rs w) (In-Union rs w) h
inner-in kind.One rs w (inr h) = absurd h
inner-in kind.All rs w h = cast (In (v.Inter rs) w) (InAllOf In rs w) (In-Inter rs w) h.0

-- machines more, list by list
pub plain-append : (ms ns : List Graph) → HaveNoRegisters ms → HaveNoRegisters ns → HaveNoRegisters (ms ++ ns)
plain-append ms ns p q m i = elim (Contains-append_cases ms ns m i) [ inl a ↦ p m a | inr b ↦ q m b ]

pub adds-none : (k : JoinKind) (old : List Graph) → AddsParts k [] old old
adds-none k old = record {
  more = [];
  grown = sym (append-nil old);
  plain = λ m i. (let j = i.1 in absurd (omega arith));
  words = λ w. (within-none WordsOf In k w, within-none In WordsOf k w);
  light = weight-none k states_of size;
}

-- the machine of one expression more
pub adds-one : (r : Regex) (old new : List Graph) (m : Graph) → HasWords (In r) m → m.states ≤ size r → new ≡ old ++ m ∷ [] → AddsParts kind.All (r ∷ []) old new
adds-one r old new m has few grown = record {
  more = m ∷ [];
  grown = grown;
  plain = λ n i. elim (Contains-cases m [] n i) [ inl e ↦ subst (λ (x : Graph). x.registers ≡ 0) e has.plain | inr j ↦ absurd (Contains-none n j) ];
  words = λ w. (λ h. ((has.words w).0 h.0, h.1), λ h. ((has.words w).1 h.0, h.1));
  light = omega arith;
}

pub adds-more : (k : JoinKind) (rs qs : List Regex) (old mid new : List Graph) → AddsParts k rs old mid → AddsParts k qs mid new → AddsParts k (rs ++ qs) old new
adds-more k rs qs old mid new a b = record {
  more = a.more ++ b.more;
  grown = b.grown ∙ ap (λ l. l ++ b.more) a.grown ∙ append_assoc old a.more b.more;
  plain = plain-append a.more b.more a.plain b.plain;
  words = λ w. (
    within-append WordsOf In k a.more b.more rs qs (λ u. (a.words u).0) (λ u. (b.words u).0) w,
    within-append In WordsOf k rs qs a.more b.more (λ u. (a.words u).1) (λ u. (b.words u).1) w,
  );
  light = weight-append k states_of size a.more b.more rs qs a.light b.light;
}

pub adds-inner : (k : JoinKind) (r : Regex) (rs slice : List Regex) (old new : List Graph) → r ≡ formed k rs → slice ≡ rs → AddsParts k slice old new → AddsParts k (r ∷ []) old new
adds-inner k r rs slice old new is seen h =
    let a = subst (λ l. AddsParts k l old new) seen h in
    subst (λ x. AddsParts k (x ∷ []) old new) (sym is) (record {
      more = a.more;
      grown = a.grown;
      plain = a.plain;
      words = λ w. (λ g. inner-out k rs w ((a.words w).0 g), λ g. (a.words w).1 (inner-in k rs w g));
      light = (let w = inner-weight k rs in let l = a.light in omega arith);
    })

pub adds-plain : (k : JoinKind) (rs : List Regex) (parts list start : List Graph) → list ≡ parts → start ≡ [] → AddsParts k rs start parts → HaveNoRegisters list
adds-plain k rs parts list start seen none h = subst HaveNoRegisters (sym (seen ∙ h.grown ∙ ap (λ l. l ++ h.more) none)) h.plain

-- one expression of the list more
pub adds-next : (k : JoinKind) (rs : List Regex) (i : ℕ) (r : Regex) (old mid new : List Graph) → i < length rs → r ≡ get_or rs i r
    → AddsParts k (take i rs) old mid → AddsParts k (r ∷ []) mid new → AddsParts k (take (i + 1) rs) old new
adds-next k rs i r old mid new lt is a b =
    let grown : take (i + 1) rs ≡ take i rs ++ r ∷ [] = take_more rs i r lt ∙ ap (λ x. take i rs ++ x ∷ []) (sym is) in
    subst (λ l. AddsParts k l old new) (sym grown) (adds-more k (take i rs) (r ∷ []) old mid new a b)

pub adds-all : (k : JoinKind) (rs : List Regex) (i : ℕ) (old new : List Graph) → length rs ≤ i → AddsParts k (take i rs) old new → AddsParts k rs old new
adds-all k rs i old new past h = subst (λ l. AddsParts k l old new) (take_all i rs past) h

-- each expression is no greater than the whole
some-multiplied : {X : Type 0} (f : X → ℕ) → ((x : X) → 1 ≤ f x) → (xs : List X) → 1 ≤ multiplied f xs
some-multiplied f some [] = omega arith
some-multiplied f some (x ∷ xs) = let both : 1 * 1 ≤ f x * multiplied f xs = mul-le-mul (some x) (some-multiplied f some xs) in omega arith

summed-least : {X : Type 0} (f : X → ℕ) (xs : List X) (x : X) → Contains xs x → f x ≤ summed f xs
summed-least f [] x (n, lt, e) = absurd (omega arith)
summed-least f (y ∷ ys) x (zero, lt, e) = let same = ap f e in omega arith
summed-least f (y ∷ ys) x (suc n, lt, e) = let rest = summed-least f ys x (n, omega arith, e) in omega arith

pub multiplied-least : {X : Type 0} (f : X → ℕ) → ((x : X) → 1 ≤ f x) → (xs : List X) (x : X) → Contains xs x → f x ≤ multiplied f xs
multiplied-least f some [] x (n, lt, e) = absurd (omega arith)
multiplied-least f some (y ∷ ys) x (zero, lt, e) =
    let same = ap f e in
    let both : f y * 1 ≤ f y * multiplied f ys = mul-le-mul (let r : f y ≤ f y = omega arith in r) (some-multiplied f some ys) in
    omega arith
multiplied-least f some (y ∷ ys) x (suc n, lt, e) =
    let both : 1 * f x ≤ f y * multiplied f ys = mul-le-mul (some y) (multiplied-least f some ys x (n, omega arith, e)) in
    omega arith

pub part-size : (k : JoinKind) (rs : List Regex) (r : Regex) → Contains rs r → size r ≤ most_states k (weight k size rs)
part-size kind.Turn rs r i = let h = summed-least size rs r i in omega arith
part-size kind.One rs r i = let h = summed-least (λ x. size x + 1) rs r i in omega arith
part-size kind.All rs r i = multiplied-least size size-some rs r i

pub power-above : (n : ℕ) → suc n ≤ 2 ^ n
power-above zero = omega arith
power-above (suc n) = let rest = power-above n in omega arith

some-power : (r : Regex) → 1 ≤ 2 ^ size r
some-power r = let h = power-above (size r) in omega arith

pub first-size : (rs : List Regex) (r : Regex) → Contains rs r → size r ≤ from_left without_size (map size rs)
first-size [] r (n, lt, e) = absurd (omega arith)
first-size (q ∷ qs) r (zero, lt, e) =
    let same = ap size e in
    let all = fold-without size (size q) qs in
    let here : size q ≤ size q = omega arith in
    let both : size q * 1 ≤ size q * multiplied (λ x. 2 ^ size x) qs = mul-le-mul here (some-multiplied (λ x. 2 ^ size x) some-power qs) in
    omega arith
first-size (q ∷ qs) r (suc n, lt, e) =
    let all = fold-without size (size q) qs in
    let power = power-above (size r) in
    let there = multiplied-least (λ x. 2 ^ size x) some-power qs r (n, omega arith, e) in
    let both : 1 * 2 ^ size r ≤ size q * multiplied (λ x. 2 ^ size x) qs = mul-le-mul (size-some q) there in
    omega arith

powers-fewer : (rs : List Regex) (ms : List Graph) → AreMade rs ms → multiplied (λ (x : Graph). 2 ^ x.states) ms ≤ multiplied (λ x. 2 ^ size x) rs
powers-fewer [] [] h = omega arith
powers-fewer [] (m ∷ ms) h = absurd h
powers-fewer (r ∷ rs) [] h = absurd h
powers-fewer (r ∷ rs) (m ∷ ms) h = mul-le-mul (power-more m.states (size r) h.1) (powers-fewer rs ms h.2)

pub first-fewer : (rs : List Regex) (ms : List Graph) → AreMade rs ms → from_left without_size (map states_of ms) ≤ from_left without_size (map size rs)
first-fewer [] [] h = omega arith
first-fewer [] (m ∷ ms) h = absurd h
first-fewer (r ∷ rs) [] h = absurd h
first-fewer (r ∷ rs) (m ∷ ms) h =
    let a = fold-without states_of m.states ms in
    let b = fold-without size (size r) rs in
    let both : m.states * multiplied (λ (x : Graph). 2 ^ x.states) ms ≤ size r * multiplied (λ x. 2 ^ size x) rs = mul-le-mul h.1 (powers-fewer rs ms h.2) in
    omega arith
