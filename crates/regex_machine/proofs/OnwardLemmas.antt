-- States made from the end of an expression on.
use Rattle.std.proofs.Common.{◌≡◌, ℕ, zero, suc, ◌+◌, ◌<◌, ◌≤◌, ◌↔◌, inl, inr, ◌-◌, ◌&&◌, ◌||◌, nat_le, drop, get_or, Bool, true, false, IsTrue, Option, Some, None, List, [], ◌∷◌, ◌++◌, length, slice_get, Any, Contains, refl, ap, sym, ◌∙◌, subst, append_assoc, arith}
use Rattle.std.proofs.lemmas.Bool.Decides.{nat_tests}
use Rattle.std.proofs.lemmas.List.{append-nil, length_push, drop_all}
use Rattle.std.proofs.lemmas.List.Elements.{Contains-push_cases}
use Rattle.std.proofs.lemmas.Option.{slice_get_within, same_Some}
use Rattle.sv_word.specs.Ranges.{in_ranges, IsInhabited, IsApartFrom}
use Rattle.sv_word.specs.Words.{IsWord, greatest_character}
use Rattle.sv_list.specs.Lists.{Any-none, Any-here, contained, slice_get-append, slice_get-end, slice_get-contains, append-longer}
use Rattle.machine_core.specs.Moves.{Moves, IsMove}
use Rattle.machine_core.specs.declared.machine.Move.{Move}
use Rattle.sv_terms.specs.Language.{Word, Then}
use Rattle.regex_machine.specs.Letters.{OneOf}
use Rattle.regex_machine.specs.Onwards.{ReadsOn, IsOnward, AreClosed, IsFormedRest, AreBegun, HasState, PrecedesRest, unmade}
use Rattle.regex_machine.specs.declared.onward.Onward.{Onward}
use Rattle.regex_machine.specs.declared.onward.Rest.{Rest}

get-front : {X : Type 0} (xs ys : List X) (n : ℕ) (x : X) → n < length xs → slice_get (xs ++ ys) n ≡ Some x → slice_get xs n ≡ Some x
get-front [] ys n x lt e = absurd (omega arith)
get-front (z ∷ zs) ys zero x lt e = e
get-front (z ∷ zs) ys (suc n) x lt e = get-front zs ys n x (omega arith) e

-- the same words are read where more states stand behind
pub reads-more : (old more : List Onward) (o : Onward) (w : Word) → IsOnward (length old) o → AreClosed old → ReadsOn (old ++ more) o w ↔ ReadsOn old o w
reads-more old more o [] f closed = (λ h. h, λ h. h)
reads-more old more o (c ∷ w) f closed = (
  λ h.
      let m = contained (Moves c [] h.0) o.moves h.2 in
      let below : h.0 < length old = subst (λ n. n < length old) m.2.2 (f.moves m.0 m.1).to in
      let at = get-front old more h.0 h.1 below h.3 in
      (h.0, h.1, h.2, at, (reads-more old more h.1 w (closed h.1 (slice_get-contains old h.0 h.1 at)) closed).0 h.4),
  λ h. (h.0, h.1, h.2, slice_get-append old more h.0 h.1 h.3, (reads-more old more h.1 w (closed h.1 (slice_get-contains old h.0 h.1 h.3)) closed).1 h.4),
)

pub reads-grown : (old new more : List Onward) (o : Onward) (w : Word) → new ≡ old ++ more → IsOnward (length old) o → AreClosed old → ReadsOn new o w ↔ ReadsOn old o w
reads-grown old new more o w e f closed = subst (λ l. ReadsOn l o w ↔ ReadsOn old o w) (sym e) (reads-more old more o w f closed)

pub onward-weaker : (n m : ℕ) (o : Onward) → n ≤ m → IsOnward n o → IsOnward m o
onward-weaker n m o le f = record {
  moves = λ e i. let g = f.moves e i in record { on = g.on; cost = g.cost; to = (let t = g.to in omega arith) };
  characters = f.characters;
}

pub rest-grown : (old new more : List Onward) (rest : Rest) → new ≡ old ++ more → IsFormedRest old rest → IsFormedRest new rest
rest-grown old new more rest e h = record {
  onward = onward-weaker (length old) (length new) rest.onward (subst (λ l. length old ≤ length l) (sym e) (append-longer old more)) h.onward;
  state = λ s is. subst (λ l. slice_get l s ≡ Some rest.onward) (sym e) (slice_get-append old more s rest.onward (h.state s is));
}

pub unmade-most : (o : Option ℕ) → unmade o ≤ 1
unmade-most None = omega arith
unmade-most (Some s) = omega arith

-- what follows has a state already
pub state-there : (states : List Onward) (rest : Rest) (s : ℕ) → AreBegun states rest → rest.state ≡ Some s → HasState states rest states rest s
state-there states rest s begun e = record { more = []; grown = sym (append-nil states); begun = begun; same = refl; made = e; few = omega arith }

-- and where it has none one is made
pub state-made : (old new : List Onward) (rest now : Rest) (o : Onward) (s : ℕ) → AreBegun old rest → rest.state ≡ None → o ≡ rest.onward → new ≡ old ++ o ∷ [] → s ≡ length old
    → now.onward ≡ rest.onward → now.state ≡ Some s → HasState old rest new now s
state-made old new rest now o s begun none copied pushed at same made = record {
  more = o ∷ [];
  grown = pushed;
  begun = record {
    closed = λ u i. onward-weaker (length old) (length new) u grows (elim (Contains-push_cases old o u (subst (λ l. Contains l u) pushed i)) [
      | inl j ↦ begun.closed u j
      | inr e ↦ subst (IsOnward (length old)) (sym copied ∙ e) begun.formed.onward
    ]);
    formed = record {
      onward = onward-weaker (length old) (length new) now.onward grows (subst (IsOnward (length old)) (sym same) begun.formed.onward);
      state = λ t e.
          let here : length old ≡ t = sym at ∙ same_Some s t (sym made ∙ e) in
          subst (λ n. slice_get new n ≡ Some now.onward) here (subst (λ l. slice_get l (length old) ≡ Some now.onward) (sym pushed) (slice_get-end old o ∙ ap Some (copied ∙ sym same)));
    };
  };
  same = same;
  made = made;
  few = subst (λ x. length new ≤ length old + unmade x) (sym none) (let e = size in omega arith);
}
  where
    size : length new ≡ length old + 1
    size = ap length pushed ∙ length_push old o

    grows : length old ≤ length new
    grows = let e = size in omega arith

-- no character is read, and no word
pub letter-none : (states : List Onward) (rest front : Rest) (on : List (ℕ × ℕ)) → AreBegun states rest → on ≡ [] → front.onward.moves ≡ [] → front.onward.may_end ≡ false → front.state ≡ None
    → PrecedesRest (OneOf on) (length states + unmade rest.state + 1) states rest states rest front
letter-none states rest front on begun none moves never state = record {
  more = [];
  grown = sym (append-nil states);
  begun = begun;
  same = refl;
  formed = record {
    onward = record { moves = λ m i. empty m (subst (λ l. Contains l m) moves i); characters = λ m i c h. empty m (subst (λ l. Contains l m) moves i) };
    state = λ s e. absurd (let f = state in cc);
  };
  words = λ w. (λ h. absurd (reads w h), λ h. absurd (let i = subst (λ l. IsTrue (in_ranges l h.3.0)) none h.3.1 in cc));
  few = subst (λ x. length states + unmade x ≤ length states + unmade rest.state + 1) (sym state) (omega arith);
}
  where
    empty : {A : Type 0} (m : Move ℕ) → Contains [] m → A
    empty m (k, lt, e) = absurd (omega arith)

    reads : (w : Word) → ReadsOn states front.onward w → ⊥
    reads [] h = cc
    reads (c ∷ w) h = Any-none (Moves c [] h.0) (subst (Any (Moves c [] h.0)) moves h.2)

-- one character, and then what follows
pub letter-made : (old new : List Onward) (rest now front : Rest) (on : List (ℕ × ℕ)) (s : ℕ) (m : Move ℕ) → AreBegun old rest → HasState old rest new now s → IsInhabited on
    → ((c : ℕ) → IsTrue (in_ranges on c) → c ≤ greatest_character) → m.on ≡ on → m.cost ≡ [] → m.to ≡ s → front.onward.moves ≡ m ∷ [] → front.onward.may_end ≡ false → front.state ≡ None
    → PrecedesRest (OneOf on) (length old + unmade rest.state + 1) old rest new now front
letter-made old new rest now front on s m begun has some below is free leads moves never state = record {
  more = has.more;
  grown = has.grown;
  begun = has.begun;
  same = has.same;
  formed = record {
    onward = record {
      moves = λ e i. subst (IsMove (length new) 0) (only e i) (record {
        on = subst IsInhabited (sym is) some;
        cost = ap length free;
        to = subst (λ n. n < length new) (sym leads) (slice_get_within new s now.onward at);
      });
      characters = λ e i c h. below c (subst (λ l. IsTrue (in_ranges l c)) (sym (ap (λ (x : Move ℕ). x.on) (only e i)) ∙ is) h);
    };
    state = λ t e. absurd (let f = state in cc);
  };
  words = λ w. (out w, back w);
  few = subst (λ x. length new + unmade x ≤ length old + unmade rest.state + 1) (sym state) (let f = has.few in omega arith);
}
  where
    at : slice_get new s ≡ Some now.onward
    at = has.begun.formed.state s has.made

    only : (e : Move ℕ) → Contains front.onward.moves e → m ≡ e
    only e i = one (subst (λ l. Contains l e) moves i)
      where
        one : Contains (m ∷ []) e → m ≡ e
        one (zero, lt, h) = h
        one (suc k, lt, h) = absurd (omega arith)

    same-reads : (w : Word) → ReadsOn new now.onward w ↔ ReadsOn old rest.onward w
    same-reads w = subst (λ o. ReadsOn new o w ↔ ReadsOn old rest.onward w) (sym has.same) (reads-grown old new has.more rest.onward w has.grown begun.formed.onward begun.closed)

    out : (w : Word) → ReadsOn new front.onward w → Then (OneOf on) (ReadsOn old rest.onward) w
    out [] h = absurd (cc)
    out (c ∷ w) h =
        let a = contained (Moves c [] h.0) front.onward.moves h.2 in
        let e = only a.0 a.1 in
        let reads : IsTrue (in_ranges on c) = subst (λ l. IsTrue (in_ranges l c)) (sym (ap (λ (x : Move ℕ). x.on) e) ∙ is) a.2.0 in
        let to : s ≡ h.0 = sym leads ∙ ap (λ (x : Move ℕ). x.to) e ∙ a.2.2 in
        let there : now.onward ≡ h.1 = same_Some now.onward h.1 (sym at ∙ subst (λ n. slice_get new n ≡ Some h.1) (sym to) h.3) in
        (c ∷ [], w, refl, (c, reads, refl), (same-reads w).0 (subst (λ o. ReadsOn new o w) (sym there) h.4))

    cons-first : (x y : ℕ) (xs ys : Word) → (x ∷ xs) ≡ (y ∷ ys) → x ≡ y
    cons-first x y xs ys e = cc

    cons-rest : (x y : ℕ) (xs ys : Word) → (x ∷ xs) ≡ (y ∷ ys) → xs ≡ ys
    cons-rest x y xs ys e = cc

    back : (w : Word) → Then (OneOf on) (ReadsOn old rest.onward) w → ReadsOn new front.onward w
    back [] h = let e : [] ≡ h.3.0 ∷ h.1 = h.2 ∙ ap (λ u. u ++ h.1) h.3.2 in absurd (cc)
    back (c ∷ w) h =
        let e : (c ∷ w) ≡ h.3.0 ∷ h.1 = h.2 ∙ ap (λ u. u ++ h.1) h.3.2 in
        let first = cons-first c h.3.0 w h.1 e in
        let reads : IsTrue (in_ranges m.on c) = subst (λ l. IsTrue (in_ranges l c)) (sym is) (subst (λ n. IsTrue (in_ranges on n)) (sym first) h.3.1) in (
          s,
          now.onward,
          subst (Any (Moves c [] s)) (sym moves) (Any-here (Moves c [] s) m [] (reads, free, leads)),
          at,
          (same-reads w).1 (subst (ReadsOn old rest.onward) (sym (cons-rest c h.3.0 w h.1 e)) h.4),
        )

-- what follows, with nothing before it
pub nothing-before : (old new : List Onward) (rest now : Rest) (s : ℕ) → AreBegun old rest → HasState old rest new now s
    → PrecedesRest (λ u. u ≡ []) (length old + unmade rest.state) old rest new now now
nothing-before old new rest now s begun has = record {
  more = has.more;
  grown = has.grown;
  begun = has.begun;
  same = has.same;
  formed = has.begun.formed;
  words = λ w. (
    λ h. ([], w, refl, refl, (same w).0 h),
    λ h. (same w).1 (subst (ReadsOn old rest.onward) (sym (h.2 ∙ ap (λ u. u ++ h.1) h.3)) h.4),
  );
  few = subst (λ x. length new + unmade x ≤ length old + unmade rest.state) (sym has.made) (let f = has.few in omega arith);
}
  where
    same : (w : Word) → ReadsOn new now.onward w ↔ ReadsOn old rest.onward w
    same w = subst (λ o. ReadsOn new o w ↔ ReadsOn old rest.onward w) (sym has.same) (reads-grown old new has.more rest.onward w has.grown begun.formed.onward begun.closed)

-- one part before another
pub before-both : (P Q : Word → Type 0) (a b : ℕ) (old mid new : List Onward) (rest now front between first : Rest) → PrecedesRest P a old rest mid now front → PrecedesRest Q b mid front new between first
    → PrecedesRest (Then Q P) b old rest new now first
before-both P Q a b old mid new rest now front between first p q = record {
  more = p.more ++ q.more;
  grown = q.grown ∙ ap (λ l. l ++ q.more) p.grown ∙ append_assoc old p.more q.more;
  begun = record { closed = q.begun.closed; formed = rest-grown mid new q.more now q.grown p.begun.formed };
  same = p.same;
  formed = q.formed;
  words = λ w. (
    λ h.
        let x = (q.words w).0 h in
        let y = (p.words x.1).0 x.4 in
        (x.0 ++ y.0, y.1, x.2 ∙ ap (λ l. x.0 ++ l) y.2 ∙ sym (append_assoc x.0 y.0 y.1), (x.0, y.0, refl, x.3, y.3), y.4),
    λ h.
        let z = h.3 in
        (q.words w).1 (z.0, z.1 ++ h.1, h.2 ∙ ap (λ l. l ++ h.1) z.2 ∙ append_assoc z.0 z.1 h.1, z.3, (p.words (z.1 ++ h.1)).1 (z.1, h.1, refl, z.4, h.4)),
  );
  few = q.few;
}

pub precedes-as : (P Q : Word → Type 0) (a b : ℕ) (old new : List Onward) (rest now front : Rest) → ((w : Word) → P w ↔ Q w) → a ≤ b → PrecedesRest P a old rest new now front → PrecedesRest Q b old rest new now front
precedes-as P Q a b old new rest now front same le p = record {
  more = p.more;
  grown = p.grown;
  begun = p.begun;
  same = p.same;
  formed = p.formed;
  words = λ w. (
    λ h. let x = (p.words w).0 h in (x.0, x.1, x.2, (same x.0).0 x.3, x.4),
    λ h. (p.words w).1 (h.0, h.1, h.2, (same h.0).1 h.3, h.4),
  );
  few = let f = p.few in omega arith;
}

-- characters of sets of pairs that are apart are below the greatest one
pub apart-below : (low : ℕ) (rs : List (ℕ × ℕ)) (c : ℕ) → IsApartFrom low rs → IsTrue (in_ranges rs c) → c ≤ greatest_character
apart-below low [] c h i = absurd (cc)
apart-below low (p ∷ ps) c h i = by_test (λ j. apart-below (p.1 + 2) ps c h.3 j) (nat_le p.0 c && nat_le c p.1) refl i
  where
    by_test : (IsTrue (in_ranges ps c) → c ≤ greatest_character) → (b : Bool) → (nat_le p.0 c && nat_le c p.1) ≡ b → IsTrue (b || in_ranges ps c) → c ≤ greatest_character
    by_test later true e j = let top = h.2 in let below : c ≤ p.1 = grind (arith, nat_tests) in omega arith
    by_test later false e j = later j

drop-at : (l : Word) (n d : ℕ) → n < length l → drop n l ≡ get_or l n d ∷ drop (suc n) l
drop-at [] n d lt = absurd (omega arith)
drop-at (x ∷ xs) zero d lt = refl
drop-at (x ∷ xs) (suc n) d lt = drop-at xs n d (omega arith)

-- a set of one character
pub character-alone : (x k : ℕ) (on : List (ℕ × ℕ)) (old new : List Onward) (rest now front : Rest) → ((c : ℕ) → in_ranges on c ≡ (nat_le x c && nat_le c x))
    → PrecedesRest (OneOf on) k old rest new now front → PrecedesRest (λ w. w ≡ x ∷ []) k old rest new now front
character-alone x k on old new rest now front set p = precedes-as (OneOf on) (λ w. w ≡ x ∷ []) k k old new rest now front same (omega arith) p
  where
    only : (c : ℕ) → IsTrue (in_ranges on c) → c ≡ x
    only c h = let e = set c in grind (arith, nat_tests)

    held : IsTrue (in_ranges on x)
    held = let e = set x in grind (arith, nat_tests)

    same : (w : Word) → OneOf on w ↔ (w ≡ x ∷ [])
    same w = (λ h. h.2 ∙ ap (λ c. c ∷ []) (only h.0 h.1), λ e. (x, held, e))

pub text-none : (l word : Word) (k : ℕ) (old new : List Onward) (rest now front : Rest) → l ≡ word → l ≡ [] → front ≡ now → PrecedesRest (λ u. u ≡ []) k old rest new now now
    → PrecedesRest (λ w. (w ≡ word) × IsWord w) (k + length word) old rest new now front
text-none l word k old new rest now front is none copied p =
    let empty : [] ≡ word = sym none ∙ is in
    subst (PrecedesRest (λ w. (w ≡ word) × IsWord w) (k + length word) old rest new now) (sym copied)
    (precedes-as (λ u. u ≡ []) (λ w. (w ≡ word) × IsWord w) k (k + length word) old new rest now now
    (λ w. (λ h. (h ∙ empty, subst IsWord (sym h) tt), λ h. h.0 ∙ sym empty)) (omega arith) p)

pub text-last : (l : Word) (n k d : ℕ) (old new : List Onward) (rest now front : Rest) → suc n ≡ length l → PrecedesRest (λ w. w ≡ get_or l n d ∷ []) (k + 1) old rest new now front
    → PrecedesRest (λ w. w ≡ drop n l) (k + (length l - n)) old rest new now front
text-last l n k d old new rest now front all p =
    let one : drop n l ≡ get_or l n d ∷ [] = drop-at l n d (omega arith) ∙ ap (λ v. get_or l n d ∷ v) (drop_all (suc n) l (omega arith)) in
    precedes-as (λ w. w ≡ get_or l n d ∷ []) (λ w. w ≡ drop n l) (k + 1) (k + (length l - n)) old new rest now front (λ w. (λ h. h ∙ sym one, λ h. h ∙ one)) (omega arith) p

pub text-step : (l : Word) (n k d : ℕ) (old mid new : List Onward) (rest now front between first : Rest) → n < length l → PrecedesRest (λ w. w ≡ drop (suc n) l) (k + (length l - suc n)) old rest mid now front
    → (AreBegun mid front → PrecedesRest (λ w. w ≡ get_or l n d ∷ []) (length mid + unmade front.state + 1) mid front new between first)
    → PrecedesRest (λ w. w ≡ drop n l) (k + (length l - n)) old rest new now first
text-step l n k d old mid new rest now front between first lt p q =
    let few = p.few in
    precedes-as (Then (λ w. w ≡ get_or l n d ∷ []) (λ w. w ≡ drop (suc n) l)) (λ w. w ≡ drop n l) (length mid + unmade front.state + 1) (k + (length l - n)) old new rest now first same (omega arith)
    (before-both (λ w. w ≡ drop (suc n) l) (λ w. w ≡ get_or l n d ∷ []) (k + (length l - suc n)) (length mid + unmade front.state + 1) old mid new rest now front between first p
    (q (record { closed = p.begun.closed; formed = p.formed })))
  where
    same : (w : Word) → Then (λ v. v ≡ get_or l n d ∷ []) (λ v. v ≡ drop (suc n) l) w ↔ (w ≡ drop n l)
    same w = (
      λ h. h.2 ∙ ap (λ u. u ++ h.1) h.3 ∙ ap (λ v. get_or l n d ∷ v) h.4 ∙ sym (drop-at l n d lt),
      λ e. (get_or l n d ∷ [], drop (suc n) l, e ∙ drop-at l n d lt, refl, refl),
    )

pub text-all : (l word : Word) (n k : ℕ) (old new : List Onward) (rest now front : Rest) → l ≡ word → n ≡ 0 → IsWord word
    → PrecedesRest (λ w. w ≡ drop n l) (k + (length l - n)) old rest new now front → PrecedesRest (λ w. (w ≡ word) × IsWord w) (k + length word) old rest new now front
text-all l word n k old new rest now front is zero-is whole p =
    let size = ap length is in
    let all : drop n l ≡ word = ap (λ m. drop m l) zero-is ∙ is in
    precedes-as (λ w. w ≡ drop n l) (λ w. (w ≡ word) × IsWord w) (k + (length l - n)) (k + length word) old new rest now front
    (λ w. (λ h. (h ∙ all, subst IsWord (sym (h ∙ all)) whole), λ h. h.0 ∙ sym all)) (omega arith) p
