-- What pushing, popping, declaring and asserting do to the levels between marks.
use Rattle.std.proofs.Common.{◌≡◌, ℕ, zero, suc, ◌+◌, ◌-◌, ◌≤◌, List, [], ◌∷◌, ◌++◌, Result, Ok, Err, OnOk, OnErr, length, take, drop, reverse, replicate, refl, ap, sym, ◌∙◌, subst, arith, add-one}
use Rattle.std.proofs.lemmas.List.{reverse-append, length-reverse, replicate_more, length-replicate, length-take-le, take-append-drop, take-append-le, drop-append-le, drop-take, length-append, length-drop}
use Rattle.std.proofs.Math.Seq.{take-length, drop-length}
use Rattle.sv_list.specs.Lists.{append-longer}
use Rattle.sv_terms.specs.declared.entry.Body.TheVariants as body
use Rattle.sv_terms.specs.declared.entry.Entry.{Entry}
use Rattle.sv_terms.specs.declared.entry.Entry.TheVariants as entry
use Rattle.sv_terms.specs.declared.term.Term.{Term}
use Rattle.assert_stack.specs.declared.mark.Mark.{Mark}
use Rattle.assert_stack.specs.Levels.{Symbol, NamedPlace, Level, empty, symbols_of, live, named, pushed, declared, asserted_all, named_at, asserted_named, dropped_last}
use Rattle.assert_stack.specs.Marks.{levels_at, AreMarks, outside}

-- the marks below the last one are right for what is left without its level
below_last : (m : Mark) (ms : List Mark) (ss : List Symbol) (ts : List Term) (ns : List NamedPlace) → AreMarks (m ∷ ms) (length ss) (length ts) (length ns) → AreMarks ms (length (take m.symbols ss)) (length (take m.assertions ts)) (length (take m.names ns))
below_last m ms ss ts ns are =
    subst (λ i. AreMarks ms i (length (take m.assertions ts)) (length (take m.names ns))) (sym (length-take-le m.symbols ss are.0))
    (subst (λ j. AreMarks ms m.symbols j (length (take m.names ns))) (sym (length-take-le m.assertions ts are.1))
    (subst (λ k. AreMarks ms m.symbols m.assertions k) (sym (length-take-le m.names ns are.2)) are.3))

-- more symbols, terms and names leave marks right
further : (ms : List Mark) (i j k l p q : ℕ) → i ≤ l → j ≤ p → k ≤ q → AreMarks ms i j k → AreMarks ms l p q
further [] i j k l p q a b c are = are
further (m ∷ ms) i j k l p q a b c are = (omega (arith, a, are.0), omega (arith, b, are.1), omega (arith, c, are.2), are.3)

pub symbols-at : (ms : List Mark) (ss : List Symbol) (ts : List Term) (ns : List NamedPlace) → AreMarks ms (length ss) (length ts) (length ns) → symbols_of (levels_at ms ss ts ns) ≡ ss
symbols-at [] ss ts ns are = refl
symbols-at (m ∷ ms) ss ts ns are = ap (λ (l : List Symbol). l ++ drop m.symbols ss) (symbols-at ms (take m.symbols ss) (take m.assertions ts) (take m.names ns) (below_last m ms ss ts ns are)) ∙ take-append-drop m.symbols ss

pub live-at : (ms : List Mark) (ss : List Symbol) (ts : List Term) (ns : List NamedPlace) → AreMarks ms (length ss) (length ts) (length ns) → live (levels_at ms ss ts ns) ≡ ts
live-at [] ss ts ns are = refl
live-at (m ∷ ms) ss ts ns are = ap (λ (l : List Term). l ++ drop m.assertions ts) (live-at ms (take m.symbols ss) (take m.assertions ts) (take m.names ns) (below_last m ms ss ts ns are)) ∙ take-append-drop m.assertions ts

pub names-at : (ms : List Mark) (ss : List Symbol) (ts : List Term) (ns : List NamedPlace) → AreMarks ms (length ss) (length ts) (length ns) → named (levels_at ms ss ts ns) ≡ ns
names-at [] ss ts ns are = refl
names-at (m ∷ ms) ss ts ns are = ap (λ (l : List NamedPlace). l ++ drop m.names ns) (names-at ms (take m.symbols ss) (take m.assertions ts) (take m.names ns) (below_last m ms ss ts ns are)) ∙ take-append-drop m.names ns

pub count-at : (ms : List Mark) (ss : List Symbol) (ts : List Term) (ns : List NamedPlace) → length (levels_at ms ss ts ns) ≡ suc (length ms)
count-at [] ss ts ns = refl
count-at (m ∷ ms) ss ts ns = ap suc (count-at ms (take m.symbols ss) (take m.assertions ts) (take m.names ns))

push-one : (m : Mark) (ms : List Mark) (ss : List Symbol) (ts : List Term) (ns : List NamedPlace) → m.symbols ≡ length ss → m.assertions ≡ length ts → m.names ≡ length ns → levels_at (m ∷ ms) ss ts ns ≡ empty ∷ levels_at ms ss ts ns
push-one m ms ss ts ns a b c =
    ap (λ (i : ℕ). (drop i ss, drop m.assertions ts, drop m.names ns) ∷ levels_at ms (take i ss) (take m.assertions ts) (take m.names ns)) a
    ∙ ap (λ (j : ℕ). (drop (length ss) ss, drop j ts, drop m.names ns) ∷ levels_at ms (take (length ss) ss) (take j ts) (take m.names ns)) b
    ∙ ap (λ (k : ℕ). (drop (length ss) ss, drop (length ts) ts, drop k ns) ∷ levels_at ms (take (length ss) ss) (take (length ts) ts) (take k ns)) c
    ∙ ap (λ (l : List Symbol). (l, drop (length ts) ts, drop (length ns) ns) ∷ levels_at ms (take (length ss) ss) (take (length ts) ts) (take (length ns) ns)) (drop-length ss)
    ∙ ap (λ (l : List Term). ([], l, drop (length ns) ns) ∷ levels_at ms (take (length ss) ss) (take (length ts) ts) (take (length ns) ns)) (drop-length ts)
    ∙ ap (λ (l : List NamedPlace). ([], [], l) ∷ levels_at ms (take (length ss) ss) (take (length ts) ts) (take (length ns) ns)) (drop-length ns)
    ∙ ap (λ (l : List Symbol). empty ∷ levels_at ms l (take (length ts) ts) (take (length ns) ns)) (take-length ss)
    ∙ ap (λ (l : List Term). empty ∷ levels_at ms ss l (take (length ns) ns)) (take-length ts)
    ∙ ap (λ (l : List NamedPlace). empty ∷ levels_at ms ss ts l) (take-length ns)

-- n marks at the end are n empty levels more
push-many : (n : ℕ) (m : Mark) (ms : List Mark) (ss : List Symbol) (ts : List Term) (ns : List NamedPlace) → m.symbols ≡ length ss → m.assertions ≡ length ts → m.names ≡ length ns → levels_at (replicate n m ++ ms) ss ts ns ≡ pushed n (levels_at ms ss ts ns)
push-many zero m ms ss ts ns a b c = refl
push-many (suc n) m ms ss ts ns a b c = push-one m (replicate n m ++ ms) ss ts ns a b c ∙ ap (λ (l : List Level). empty ∷ l) (push-many n m ms ss ts ns a b c)

marks-many : (n : ℕ) (m : Mark) (ms : List Mark) (i j k : ℕ) → m.symbols ≡ i → m.assertions ≡ j → m.names ≡ k → AreMarks ms i j k → AreMarks (replicate n m ++ ms) i j k
marks-many zero m ms i j k a b c are = are
marks-many (suc n) m ms i j k a b c are =
    let here : AreMarks ms m.symbols m.assertions m.names = subst (λ x. AreMarks ms x m.assertions m.names) (sym a) (subst (λ x. AreMarks ms i x m.names) (sym b) (subst (λ x. AreMarks ms i j x) (sym c) are)) in
    (omega (arith, a), omega (arith, b), omega (arith, c), marks-many n m ms m.symbols m.assertions m.names refl refl refl here)

-- like things, the other way round
reverse-many : (n : ℕ) (m : Mark) → reverse (replicate n m) ≡ replicate n m
reverse-many zero m = refl
reverse-many (suc n) m = reverse-append (m ∷ []) (replicate n m) ∙ ap (λ (l : List Mark). l ++ m ∷ []) (reverse-many n m) ∙ replicate_more n m ∙ ap (λ (k : ℕ). replicate k m) (add-one n)

turned-many : (ms : List Mark) (n : ℕ) (m : Mark) → reverse (ms ++ replicate n m) ≡ replicate n m ++ reverse ms
turned-many ms n m = reverse-append ms (replicate n m) ∙ ap (λ (l : List Mark). l ++ reverse ms) (reverse-many n m)

turned-last : (all ms : List Mark) (m : Mark) → all ≡ ms ++ m ∷ [] → reverse all ≡ m ∷ reverse ms
turned-last all ms m e = ap reverse e ∙ reverse-append ms (m ∷ [])

-- pushing
pub pushes : (old new : List Mark) (n : ℕ) (m : Mark) (ss : List Symbol) (ts : List Term) (ns : List NamedPlace) → m.symbols ≡ length ss → m.assertions ≡ length ts → m.names ≡ length ns → new ≡ old ++ replicate n m → levels_at (reverse new) ss ts ns ≡ pushed n (levels_at (reverse old) ss ts ns)
pushes old new n m ss ts ns a b c e = ap (λ (l : List Mark). levels_at l ss ts ns) (ap reverse e ∙ turned-many old n m) ∙ push-many n m (reverse old) ss ts ns a b c

pub marks-pushed : (old new : List Mark) (n : ℕ) (m : Mark) (i j k : ℕ) → m.symbols ≡ i → m.assertions ≡ j → m.names ≡ k → new ≡ old ++ replicate n m → AreMarks (reverse old) i j k → AreMarks (reverse new) i j k
marks-pushed old new n m i j k a b c e are = subst (λ (l : List Mark). AreMarks l i j k) (sym (ap reverse e ∙ turned-many old n m)) (marks-many n m (reverse old) i j k a b c are)

pub count-pushed : (old new : List Mark) (n : ℕ) (m : Mark) → new ≡ old ++ replicate n m → length new ≡ length old + n
count-pushed old new n m e = ap length e ∙ length-append old (replicate n m) ∙ ap (λ k. length old + k) (length-replicate n m)

-- popping
pub pops : (old new : List Mark) (m : Mark) (ss kept : List Symbol) (ts left : List Term) (ns stay : List NamedPlace) → old ≡ new ++ m ∷ [] → kept ≡ take m.symbols ss → left ≡ take m.assertions ts → stay ≡ take m.names ns → levels_at (reverse new) kept left stay ≡ drop 1 (levels_at (reverse old) ss ts ns)
pops old new m ss kept ts left ns stay e a b c =
    ap (λ (l : List Symbol). levels_at (reverse new) l left stay) a
    ∙ ap (λ (l : List Term). levels_at (reverse new) (take m.symbols ss) l stay) b
    ∙ ap (λ (l : List NamedPlace). levels_at (reverse new) (take m.symbols ss) (take m.assertions ts) l) c
    ∙ sym (ap (λ (l : List Mark). drop 1 (levels_at l ss ts ns)) (turned-last old new m e))

pub marks-popped : (old new : List Mark) (m : Mark) (ss kept : List Symbol) (ts left : List Term) (ns stay : List NamedPlace) → old ≡ new ++ m ∷ [] → kept ≡ take m.symbols ss → left ≡ take m.assertions ts → stay ≡ take m.names ns → AreMarks (reverse old) (length ss) (length ts) (length ns) → AreMarks (reverse new) (length kept) (length left) (length stay)
marks-popped old new m ss kept ts left ns stay e a b c are =
    subst (λ (l : List Symbol). AreMarks (reverse new) (length l) (length left) (length stay)) (sym a)
    (subst (λ (l : List Term). AreMarks (reverse new) (length (take m.symbols ss)) (length l) (length stay)) (sym b)
    (subst (λ (l : List NamedPlace). AreMarks (reverse new) (length (take m.symbols ss)) (length (take m.assertions ts)) (length l)) (sym c)
    (below_last m (reverse new) ss ts ns (subst (λ (l : List Mark). AreMarks l (length ss) (length ts) (length ns)) (turned-last old new m e) are))))

pub count-popped : (old new : List Mark) (m : Mark) → old ≡ new ++ m ∷ [] → length old ≡ length new + 1
count-popped old new m e = ap length e ∙ length-append new (m ∷ [])

-- declaring, asserting and naming
pub declares : (ms : List Mark) (name : List ℕ) (entry : Entry) (ss : List Symbol) (ts : List Term) (ns : List NamedPlace) → AreMarks ms (length ss) (length ts) (length ns) → levels_at ms (ss ++ (name, entry) ∷ []) ts ns ≡ declared name entry (levels_at ms ss ts ns)
declares [] name entry ss ts ns are = refl
declares (m ∷ ms) name entry ss ts ns are =
    ap (λ (l : List Symbol). (l, drop m.assertions ts, drop m.names ns) ∷ levels_at ms (take m.symbols (ss ++ (name, entry) ∷ [])) (take m.assertions ts) (take m.names ns)) (drop-append-le m.symbols ss ((name, entry) ∷ []) are.0)
    ∙ ap (λ (l : List Symbol). (drop m.symbols ss ++ (name, entry) ∷ [], drop m.assertions ts, drop m.names ns) ∷ levels_at ms l (take m.assertions ts) (take m.names ns)) (take-append-le m.symbols ss ((name, entry) ∷ []) are.0)

pub asserts : (ms : List Mark) (terms : List Term) (ss : List Symbol) (ts : List Term) (ns : List NamedPlace) → AreMarks ms (length ss) (length ts) (length ns) → levels_at ms ss (ts ++ terms) ns ≡ asserted_all terms (levels_at ms ss ts ns)
asserts [] terms ss ts ns are = refl
asserts (m ∷ ms) terms ss ts ns are =
    ap (λ (l : List Term). (drop m.symbols ss, l, drop m.names ns) ∷ levels_at ms (take m.symbols ss) (take m.assertions (ts ++ terms)) (take m.names ns)) (drop-append-le m.assertions ts terms are.1)
    ∙ ap (λ (l : List Term). (drop m.symbols ss, drop m.assertions ts ++ terms, drop m.names ns) ∷ levels_at ms (take m.symbols ss) l (take m.names ns)) (take-append-le m.assertions ts terms are.1)

pub gets_name : (ms : List Mark) (name : List ℕ) (place : ℕ) (ss : List Symbol) (ts : List Term) (ns : List NamedPlace) → AreMarks ms (length ss) (length ts) (length ns) → levels_at ms ss ts (ns ++ (name, place) ∷ []) ≡ named_at name place (levels_at ms ss ts ns)
gets_name [] name place ss ts ns are = refl
gets_name (m ∷ ms) name place ss ts ns are =
    ap (λ (l : List NamedPlace). (drop m.symbols ss, drop m.assertions ts, l) ∷ levels_at ms (take m.symbols ss) (take m.assertions ts) (take m.names (ns ++ (name, place) ∷ []))) (drop-append-le m.names ns ((name, place) ∷ []) are.2)
    ∙ ap (λ (l : List NamedPlace). (drop m.symbols ss, drop m.assertions ts, drop m.names ns ++ (name, place) ∷ []) ∷ levels_at ms (take m.symbols ss) (take m.assertions ts) l) (take-append-le m.names ns ((name, place) ∷ []) are.2)

-- marks stay right where a symbol, a term or a name comes
pub marks-declared : (ms : List Mark) (ss added : List Symbol) (terms ns : ℕ) → AreMarks ms (length ss) terms ns → AreMarks ms (length (ss ++ added)) terms ns
marks-declared ms ss added terms ns are = further ms (length ss) terms ns (length (ss ++ added)) terms ns (append-longer ss added) (omega arith) (omega arith) are

pub marks-asserted : (ms : List Mark) (symbols : ℕ) (ts added : List Term) (ns : ℕ) → AreMarks ms symbols (length ts) ns → AreMarks ms symbols (length (ts ++ added)) ns
marks-asserted ms symbols ts added ns are = further ms symbols (length ts) ns symbols (length (ts ++ added)) ns (omega arith) (append-longer ts added) (omega arith) are

pub marks-named : (ms : List Mark) (symbols terms : ℕ) (ns added : List NamedPlace) → AreMarks ms symbols terms (length ns) → AreMarks ms symbols terms (length (ns ++ added))
marks-named ms symbols terms ns added are = further ms symbols terms (length ns) symbols terms (length (ns ++ added)) (omega arith) (omega arith) (append-longer ns added) are

-- a name, its assertion and its macro
pub asserts-named : (ms : List Mark) (name : List ℕ) (term : Term) (ss new : List Symbol) (ts live_new : List Term) (ns names_new : List NamedPlace) (all : List Level) → AreMarks ms (length ss) (length ts) (length ns) → levels_at ms ss ts ns ≡ all
    → new ≡ ss ++ (name, entry.Macro [] (body.Term term)) ∷ [] → live_new ≡ ts ++ term ∷ [] → names_new ≡ ns ++ (name, length ts) ∷ [] → levels_at ms new live_new names_new ≡ asserted_named name term all
asserts-named ms name term ss new ts live_new ns names_new all are is a b c =
    let x = (name, entry.Macro [] (body.Term term)) ∷ [] in
    let declared_are = marks-declared ms ss x (length ts) (length ns) are in
    let asserted_are = marks-asserted ms (length (ss ++ x)) ts (term ∷ []) (length ns) declared_are in
    ap (λ (l : List Symbol). levels_at ms l live_new names_new) a
    ∙ ap (λ (l : List Term). levels_at ms (ss ++ x) l names_new) b
    ∙ ap (λ (l : List NamedPlace). levels_at ms (ss ++ x) (ts ++ term ∷ []) l) c
    ∙ gets_name ms name (length ts) (ss ++ x) (ts ++ term ∷ []) ns asserted_are
    ∙ ap (named_at name (length ts)) (asserts ms (term ∷ []) (ss ++ x) ts ns declared_are ∙ ap (asserted_all (term ∷ [])) (declares ms name (entry.Macro [] (body.Term term)) ss ts ns are))
    ∙ ap (λ (k : ℕ). named_at name k (asserted_all (term ∷ []) (declared name (entry.Macro [] (body.Term term)) (levels_at ms ss ts ns)))) (sym (ap length (live-at ms ss ts ns are)))
    ∙ ap (asserted_named name term) is

-- taking the last assertions away
more_front : {X : Type 0} (m k : ℕ) (xs : List X) → ((ys : List X) → take m (take (m + k) ys) ≡ take m ys) → take (suc m) (take (suc (m + k)) xs) ≡ take (suc m) xs
more_front m k [] h = refl
more_front m k (x ∷ xs) h = ap (λ l. x ∷ l) (h xs)

take_front : {X : Type 0} (m k : ℕ) (xs : List X) → take m (take (m + k) xs) ≡ take m xs
take_front zero k xs = refl
take_front (suc m) k xs = let e : suc m + k ≡ suc (m + k) = omega arith in ap (λ n. take (suc m) (take n xs)) e ∙ more_front m k xs (take_front m k)

pub drops-last : (ms : List Mark) (n kept : ℕ) (ss : List Symbol) (ts : List Term) (ns : List NamedPlace) → kept ≡ outside ms + (length ts - outside ms - n) → levels_at ms ss (take kept ts) ns ≡ dropped_last n (levels_at ms ss ts ns)
drops-last [] n kept ss ts ns e = ap (λ (k : ℕ). (ss, take k ts, ns) ∷ []) (omega (arith, e))
drops-last (m ∷ ms) n kept ss ts ns e =
    ap (λ (k : ℕ). levels_at (m ∷ ms) ss (take k ts) ns) e
    ∙ ap (λ (l : List Term). (drop m.symbols ss, l, drop m.names ns) ∷ levels_at ms (take m.symbols ss) (take m.assertions (take (m.assertions + (length ts - m.assertions - n)) ts)) (take m.names ns))
    (drop-take m.assertions (length ts - m.assertions - n) ts ∙ ap (λ (k : ℕ). take (k - n) (drop m.assertions ts)) (sym (length-drop m.assertions ts)))
    ∙ ap (λ (l : List Term). (drop m.symbols ss, take (length (drop m.assertions ts) - n) (drop m.assertions ts), drop m.names ns) ∷ levels_at ms (take m.symbols ss) l (take m.names ns)) (take_front m.assertions (length ts - m.assertions - n) ts)

-- after a call that adds to a list or leaves it
pub either_way : {X T E : Type 0} (P : List X → Type 0) (r : Result T E) (old new added : List X) → OnOk r (new ≡ old ++ added) → OnErr r (new ≡ old) → P old → P (old ++ added) → P new
either_way P (Ok t) old new added ok err p q = subst P (sym ok) q
either_way P (Err e) old new added ok err p q = subst P (sym err) p

-- there is one level more than marks
pub count-kept : (ms : List Mark) (ss : List Symbol) (ts : List Term) (ns : List NamedPlace) (all : List Level) → levels_at (reverse ms) ss ts ns ≡ all → length all ≡ length ms + 1
count-kept ms ss ts ns all e = sym (ap length e) ∙ count-at (reverse ms) ss ts ns ∙ ap suc (length-reverse ms) ∙ sym (add-one (length ms))
