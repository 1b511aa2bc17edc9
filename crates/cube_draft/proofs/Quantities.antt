-- The integer constants and the lengths of terms of sort Int are counted.
use Rattle.std.proofs.Common.{◌≡◌, refl, sym, ap, ◌∙◌, subst, Bool, true, false, ◌&&◌, ℕ, zero, suc, ◌+◌, ◌<◌, ◌≤◌, ℤ, List, [], ◌∷◌, ◌++◌, length, take, get_or, Option, Some, None, nat_eq, arith}
use Rattle.std.specs.Prelude.{if◌then◌else◌}
use Rattle.std.specs.List.{AllByRecursion, list_any}
use Rattle.std.specs.Cmp.Lexicographic.{pointwise}
use Rattle.std.proofs.lemmas.List.{take_more}
use Rattle.std.proofs.lemmas.Bool.{and_parts}
use Rattle.sv_terms.specs.declared.op.Op.{Op}
use Rattle.sv_terms.specs.declared.op.Op.TheVariants as op
use Rattle.sv_terms.specs.declared.sort.Sort.{Sort}
use Rattle.sv_terms.specs.declared.term.Term.{Term}
use Rattle.sv_terms.specs.declared.term.Term.TheVariants as term
use Rattle.literal_forms.specs.CodeLaws.{list_self, same_list}
use Rattle.literal_forms.specs.Codes.{same}
use Rattle.literal_forms.specs.Flats.{flat}
use Rattle.literal_forms.specs.Linear.{Linear, Unknown, are_linear, integer, is_linear, is_product, is_string, length_of, linear, linears, unknown_code, written}
use Rattle.literal_forms.specs.Mirrors.{raw-seen, seen-Constant}
use Rattle.literal_forms.specs.Shapes.{Shape, Shapes, truth, number, text, constant, apply, member, related, opaque, end, ◌⨾◌, raw, seen}
use Rattle.flat_cubes.specs.Drafted.{term_at}
use Rattle.cube_draft.specs.Gathered.{AreCounted, Gathers, IsCounted, IsIntegerCounted, IsTermMet, KeepsNumbers, Knows, number_at}
use Rattle.cube_draft.specs.Strings.{is_text}
use Rattle.cube_draft.specs.Numbers.{joining_of}
use Rattle.flat_cubes.specs.Met.{DraftView, meet, meet_all_unknowns, meet_unknowns, registered, with_integer, with_register}
use Rattle.flat_cubes.specs.declared.draft.Quantity.TheVariants.{Integer, Length}
use Rattle.cube_draft.specs.declared.number_terms.Joining.{Joining}
use Rattle.cube_draft.specs.declared.number_terms.Joining.TheVariants as joining
use Rattle.cube_draft.specs.declared.meeting.DraftBuilder.{DraftBuilder}
use Rattle.cube_draft.proofs.Entries.{At, at_within, is_entered}
use Rattle.cube_draft.proofs.Fine.{fine_difference, fine_product, fine_sum}
use Rattle.cube_draft.proofs.Forms.{seen_all, seen_apply}
use Rattle.cube_draft.proofs.Gathering.{gathers_quantity, integer_there, integers_kept, integers_push, is_there, length_there, number_push, or_else, registers_kept, registers_push}
use Rattle.cube_draft.proofs.Strings.{string_written}

-- the numbers after one more
abbrev with_number : List (List ℤ × ℕ) → List ℤ → ℕ → List (List ℤ × ℕ)
with_number ns c n = ns ++ (c, n) ∷ []

or_first : {X : Type 0} (a b : Option X) (x : X) → a ≡ Some x → or_else a b ≡ Some x
or_first a b x e = ap (λ o. or_else o b) e

kept_more : (ns : List (List ℤ × ℕ)) (c : List ℤ) (n : ℕ) → KeepsNumbers ns (with_number ns c n)
kept_more ns c n d k e = number_push d c n ns ∙ or_first (number_at d ns) (if same_list d c then Some n else None) k e

number_here : (ns : List (List ℤ × ℕ)) (c : List ℤ) (n : ℕ) → number_at c ns ≡ None → number_at c (with_number ns c n) ≡ Some n
number_here ns c n e = number_push c c n ns ∙ (λ i. or_else (e i) (if list_self c i then Some n else None))

there_none : {X : Type 0} (o : Option X) → o ≡ None → is_there o ≡ false
there_none o e = ap is_there e

there_some : {X : Type 0} (o : Option X) (x : X) → o ≡ Some x → is_there o ≡ true
there_some o x e = ap is_there e

-- integer constants
module _ (m : DraftBuilder) (n : List ℕ) (c : List ℤ) (code_is : c ≡ flat (unknown_code (integer n))) where
  integer_told : (b : Bool) (d : DraftView) → Gathers m d → is_there (number_at c m.numbers) ≡ b → list_any (pointwise nat_eq n) d.integers ≡ b
  integer_told b d g e =
      ap (list_any (pointwise nat_eq n)) (sym g.integers) ∙ sym (integer_there n d.terms m.quantities)
      ∙ ap is_there (sym (g.numbers (integer n)) ∙ ap (λ x. number_at x m.numbers) (sym code_is)) ∙ e

  pub integer_known : (k : ℕ) → Some k ≡ number_at c m.numbers → IsIntegerCounted m m n
  integer_known k e = record {
    each = λ s. record {
      gathers = λ l d g. subst (Gathers m) (sym (ap (λ b. if b then d else record d { integers = d.integers ++ n ∷ [] }) (integer_told true d g (there_some (number_at c m.numbers) k (sym e))))) g;
      known = λ l. ((k, ap (λ x. number_at x m.numbers) (sym code_is) ∙ sym e), tt);
      kept = λ x j h. h;
    };
  }

  pub integer_new : (b : DraftBuilder) (name : List ℕ) → None ≡ number_at c m.numbers → name ≡ n → b ≡ record m { quantities = m.quantities ++ Integer name ∷ []; numbers = with_number m.numbers c (length m.quantities) } → IsIntegerCounted m b n
  integer_new b name e f h =
      let whole : b ≡ record m { quantities = m.quantities ++ Integer n ∷ []; numbers = with_number m.numbers (flat (unknown_code (integer n))) (length m.quantities) } = h ∙ (λ i. record m { quantities = m.quantities ++ Integer (f i) ∷ []; numbers = with_number m.numbers (code_is i) (length m.quantities) }) in
      let none : number_at (flat (unknown_code (integer n))) m.numbers ≡ None = ap (λ x. number_at x m.numbers) (sym code_is) ∙ sym e in
      record {
        each = λ s. record {
          gathers = λ l d g. subst (λ x. Gathers x (with_integer n d)) (sym whole) (subst (Gathers (record m { quantities = m.quantities ++ Integer n ∷ []; numbers = with_number m.numbers (flat (unknown_code (integer n))) (length m.quantities) }))
              (sym (ap (λ q. if q then d else record d { integers = d.integers ++ n ∷ [] }) (integer_told false d g (there_none (number_at c m.numbers) (sym e)))))
              (gathers_quantity m d (Integer n) g none tt (d.integers ++ n ∷ []) d.registers (integers_push m.quantities n ∙ ap (λ x. x ++ n ∷ []) g.integers) (registers_kept d.terms m.quantities n ∙ g.registers)));
          known = λ l. subst (λ x. Knows x.numbers (linear (constant n s))) (sym whole) ((length m.quantities, number_here m.numbers (flat (unknown_code (integer n))) (length m.quantities) none), tt);
          kept = subst (λ x. KeepsNumbers m.numbers x.numbers) (sym whole) (kept_more m.numbers (flat (unknown_code (integer n))) (length m.quantities));
        };
      }

-- lengths
abbrev length_at : Shape → Shape
length_at s = apply op.Length (s ⨾ end)

text_unknowns : (s : Shape) (d : DraftView) → is_text s ≡ true → meet_unknowns (length_at s) d ≡ d
text_unknowns (text w) d e = refl
text_unknowns _ d e = absurd (cc)

text_knows : (s : Shape) (ns : List (List ℤ × ℕ)) → is_text s ≡ true → Knows ns (linear (length_at s))
text_knows (text w) ns e = tt
text_knows _ ns e = absurd (cc)

other_unknowns : (s : Shape) (d : DraftView) → is_text s ≡ false → meet_unknowns (length_at s) d ≡ with_register (written s) d
other_unknowns (text w) d e = absurd (cc)
other_unknowns _ d e = refl

other_knows : (s : Shape) (ns : List (List ℤ × ℕ)) (k : ℕ) → is_text s ≡ false → number_at (flat (unknown_code (length_of (written s)))) ns ≡ Some k → Knows ns (linear (length_at s))
other_knows (text w) ns k e f = absurd (cc)
other_knows (truth b) ns k e f = ((k, f), tt)
other_knows (number n) ns k e f = ((k, f), tt)
other_knows (constant n s) ns k e f = ((k, f), tt)
other_knows (apply o ss) ns k e f = ((k, f), tt)
other_knows (member s r) ns k e f = ((k, f), tt)
other_knows (related t s u) ns k e f = ((k, f), tt)
other_knows (opaque s) ns k e f = ((k, f), tt)

pub length_text : (m : DraftBuilder) (s : Shape) (b : Bool) → b ≡ is_text s → b ≡ true → IsCounted m m (apply op.Length (s ⨾ end))
length_text m s b e f = record {
  gathers = λ l d g. subst (Gathers m) (sym (text_unknowns s d (sym e ∙ f))) g;
  known = λ l. text_knows s m.numbers (sym e ∙ f);
  kept = λ x j h. h;
}

at_term : (ts : List Shape) (i : ℕ) (s : Shape) → At ts i s → term_at ts i ≡ s
at_term [] i s a = absurd (cc)
at_term (t ∷ ts) zero s a = cc
at_term (t ∷ ts) (suc i) s a = at_term ts i s a

module _ (m : DraftBuilder) (s : Shape) (b : Bool) (c : List ℤ) (is : b ≡ is_text s) (not_text : b ≡ false) (code_is : c ≡ flat (unknown_code (length_of (written s)))) where
  other : is_text s ≡ false
  other = sym is ∙ not_text

  length_told : (q : Bool) (d : DraftView) → Gathers m d → is_there (number_at c m.numbers) ≡ q → list_any (λ (r : Shape × ℕ). same (written s) r.0) d.registers ≡ q
  length_told q d g e =
      ap (list_any (λ (r : Shape × ℕ). same (written s) r.0)) (sym g.registers) ∙ sym (length_there (written s) d.terms m.quantities)
      ∙ ap is_there (sym (g.numbers (length_of (written s))) ∙ ap (λ x. number_at x m.numbers) (sym code_is)) ∙ e

  pub length_known : (k : ℕ) → Some k ≡ number_at c m.numbers → IsCounted m m (apply op.Length (s ⨾ end))
  length_known k e = record {
    gathers = λ l d g. subst (Gathers m) (sym (other_unknowns s d other ∙ ap (λ q. if q then d else registered (written s) (meet (written s) d)) (length_told true d g (there_some (number_at c m.numbers) k (sym e))))) g;
    known = λ l. other_knows s m.numbers k other (ap (λ x. number_at x m.numbers) (sym code_is) ∙ sym e);
    kept = λ x j h. h;
  }

  registered_new : (a : DraftBuilder) (i : ℕ) (d : DraftView) → is_string s ≡ true → Gathers m d → None ≡ number_at c m.numbers → a.numbers ≡ m.numbers → IsTermMet m a (written s) i
      → Gathers (record a { quantities = a.quantities ++ Length i ∷ []; numbers = with_number a.numbers c (length a.quantities) }) (registered (written s) (meet (written s) d))
  registered_new a i d l g e n p =
      let r = meet (written s) d in
      let h = p.gathers d g in
      let j : r.0 ≡ i = sym (p.place d g) in
      let at : At r.1.terms i (written s) = subst (λ k. At r.1.terms k (written s)) j (is_entered (written s) d (string_written s l)).at in
      let t : term_at r.1.terms i ≡ written s = at_term r.1.terms i (written s) at in
      let code : flat (unknown_code (length_of (term_at r.1.terms i))) ≡ c = ap (λ x. flat (unknown_code (length_of x))) t ∙ sym code_is in
      let none : number_at (flat (unknown_code (length_of (term_at r.1.terms i)))) a.numbers ≡ None = (λ x. number_at (code x) (n x)) ∙ sym e in
      let q = gathers_quantity a r.1 (Length i) h none (at_within r.1.terms i (written s) at) r.1.integers (r.1.registers ++ (written s, r.0) ∷ [])
      (integers_kept a.quantities i ∙ h.integers) (registers_push r.1.terms a.quantities i ∙ (λ x. h.registers x ++ (t x, sym j x) ∷ [])) in
      subst (λ x. Gathers (record a { quantities = a.quantities ++ Length i ∷ []; numbers = with_number a.numbers x (length a.quantities) }) (registered (written s) r)) code q

  pub length_new : (a z : DraftBuilder) (i : ℕ) → None ≡ number_at c m.numbers → a.numbers ≡ m.numbers → IsTermMet m a (written s) i → z ≡ record a { quantities = a.quantities ++ Length i ∷ []; numbers = with_number a.numbers c (length a.quantities) } → IsCounted m z (apply op.Length (s ⨾ end))
  length_new a z i e n p h =
      let none : number_at c a.numbers ≡ None = ap (number_at c) n ∙ sym e in
      record {
        gathers = λ l d g. subst (λ x. Gathers x (meet_unknowns (length_at s) d)) (sym h)
            (subst (Gathers (record a { quantities = a.quantities ++ Length i ∷ []; numbers = with_number a.numbers c (length a.quantities) }))
            (sym (other_unknowns s d other ∙ ap (λ q. if q then d else registered (written s) (meet (written s) d)) (length_told false d g (there_none (number_at c m.numbers) (sym e))))) (registered_new a i d l g e n p));
        known = λ l. subst (λ x. Knows x.numbers (linear (length_at s))) (sym h) (other_knows s (with_number a.numbers c (length a.quantities)) (length a.quantities) other
            (ap (λ x. number_at x (with_number a.numbers c (length a.quantities))) (sym code_is) ∙ number_here a.numbers c (length a.quantities) none));
        kept = subst (λ x. KeepsNumbers m.numbers x.numbers) (sym h) (subst (λ x. KeepsNumbers x (with_number a.numbers c (length a.quantities))) n (kept_more a.numbers c (length a.quantities)));
      }

-- terms one after another
knows_more : (ns ms : List (List ℤ × ℕ)) → KeepsNumbers ns ms → (ts : List (Unknown × ℤ)) → AllByRecursion (λ (t : Unknown × ℤ). (k : ℕ) × (number_at (flat (unknown_code t.0)) ns ≡ Some k)) ts → AllByRecursion (λ (t : Unknown × ℤ). (k : ℕ) × (number_at (flat (unknown_code t.0)) ms ≡ Some k)) ts
knows_more ns ms f [] a = tt
knows_more ns ms f (t ∷ ts) a = ((a.0.0, f (flat (unknown_code t.0)) a.0.0 a.0.1), knows_more ns ms f ts a.1)

pub known_later : (ns ms : List (List ℤ × ℕ)) (a : Linear) → KeepsNumbers ns ms → Knows ns a → Knows ms a
known_later ns ms a f k = knows_more ns ms f a.terms k

all_later : (ns ms : List (List ℤ × ℕ)) → KeepsNumbers ns ms → (ls : List Linear) → AllByRecursion (λ (a : Linear). Knows ns a) ls → AllByRecursion (λ (a : Linear). Knows ms a) ls
all_later ns ms f [] k = tt
all_later ns ms f (a ∷ ls) k = (known_later ns ms a f k.0, all_later ns ms f ls k.1)

pub counted_none : (m : DraftBuilder) → AreCounted m m end
counted_none m = record { gathers = λ l d g. g; known = λ l. tt; kept = λ x j h. h }

linear_push : (ts : List Term) (t : Term) → are_linear (seen_all (ts ++ t ∷ [])) ≡ true → (are_linear (seen_all ts) ≡ true) × (is_linear (seen t) ≡ true)
linear_push [] t e = (refl, (and_parts (is_linear (seen t)) true e).0)
linear_push (u ∷ ts) t e =
    let h = and_parts (is_linear (seen u)) (are_linear (seen_all (ts ++ t ∷ []))) e in
    let k = linear_push ts t h.1 in
    ((λ i. h.0 i && are_linear (seen_all ts)) ∙ k.0, k.1)

unknowns_push : (ts : List Term) (t : Term) (d : DraftView) → meet_all_unknowns (seen_all (ts ++ t ∷ [])) d ≡ meet_unknowns (seen t) (meet_all_unknowns (seen_all ts) d)
unknowns_push [] t d = refl
unknowns_push (u ∷ ts) t d = unknowns_push ts t (meet_unknowns (seen u) d)

linears_push : (P : Linear → Type 0) (ts : List Term) (t : Term) → AllByRecursion P (linears (seen_all ts)) → P (linear (seen t)) → AllByRecursion P (linears (seen_all (ts ++ t ∷ [])))
linears_push P [] t a p = (p, tt)
linears_push P (u ∷ ts) t a p = (a.0, linears_push P ts t a.1 p)

pushed : (m a b : DraftBuilder) (ts : List Term) (t : Term) → AreCounted m a (seen_all ts) → IsCounted a b (seen t) → AreCounted m b (seen_all (ts ++ t ∷ []))
pushed m a b ts t p q = record {
  gathers = λ l d g. let h = linear_push ts t l in subst (Gathers b) (sym (unknowns_push ts t d)) (q.gathers h.1 (meet_all_unknowns (seen_all ts) d) (p.gathers h.0 d g));
  known = λ l. let h = linear_push ts t l in linears_push (λ x. Knows b.numbers x) ts t (all_later a.numbers b.numbers q.kept (linears (seen_all ts)) (p.known h.0)) (q.known h.1);
  kept = λ x j h. q.kept x j (p.kept x j h);
}

pub counted_step : (m a b : DraftBuilder) (ts : List Term) (k : ℕ) (t : Term) → k < length ts → t ≡ get_or ts k t → AreCounted m a (seen_all (take k ts)) → IsCounted a b (seen t) → AreCounted m b (seen_all (take (k + 1) ts))
counted_step m a b ts k t l e p q = subst (λ us. AreCounted m b (seen_all us)) (sym (take_more ts k t l ∙ ap (λ x. take k ts ++ x ∷ []) (sym e))) (pushed m a b (take k ts) t p q)

pub counted_all : (m n : DraftBuilder) (ts : List Term) (k : ℕ) → length ts ≤ k → AreCounted m n (seen_all (take k ts)) → AreCounted m n (seen_all ts)
counted_all m n ts k l p = subst (λ us. AreCounted m n (seen_all us)) (take_whole ts k l) p
  where
    take_whole : {X : Type 0} (xs : List X) (j : ℕ) → length xs ≤ j → take j xs ≡ xs
    take_whole [] zero h = refl
    take_whole [] (suc j) h = refl
    take_whole (x ∷ xs) zero h = absurd (omega arith)
    take_whole (x ∷ xs) (suc j) h = ap (λ ys. x ∷ ys) (take_whole xs j (omega arith))

-- a function of these
module _ (m n : DraftBuilder) where
  abbrev Known : Unknown → Type 0
  Known u = (k : ℕ) × (number_at (flat (unknown_code u)) n.numbers ≡ Some k)

  sum_counted : (ss : Shapes) → AreCounted m n ss → IsCounted m n (apply op.Add ss)
  sum_counted end p = record { gathers = λ l d g. absurd (cc); known = λ l. absurd (cc); kept = p.kept }
  sum_counted (s ⨾ ss) p = record { gathers = λ l d g. p.gathers l d g; known = λ l. let k = p.known l in fine_sum Known (linear s) (linears ss) k.0 k.1; kept = p.kept }

  difference_counted : (ss : Shapes) → AreCounted m n ss → IsCounted m n (apply op.Subtract ss)
  difference_counted end p = record { gathers = λ l d g. absurd (cc); known = λ l. absurd (cc); kept = p.kept }
  difference_counted (s ⨾ ss) p = record { gathers = λ l d g. p.gathers l d g; known = λ l. let k = p.known l in fine_difference Known (linear s) (linears ss) k.0 k.1; kept = p.kept }

  product_counted : (ss : Shapes) → AreCounted m n ss → IsCounted m n (apply op.Multiply ss)
  product_counted end p = record { gathers = λ l d g. absurd (cc); known = λ l. absurd (cc); kept = p.kept }
  product_counted (s ⨾ ss) p = record {
    gathers = λ l d g. p.gathers (and_parts (is_linear s && are_linear ss) (is_product (linears (s ⨾ ss))) l).0 d g;
    known = λ l. let k = p.known (and_parts (is_linear s && are_linear ss) (is_product (linears (s ⨾ ss))) l).0 in fine_product Known (linear s) (linears ss) k.0 k.1;
    kept = p.kept;
  }

  none_counted : (s : Shape) → is_linear s ≡ false → KeepsNumbers m.numbers n.numbers → IsCounted m n s
  none_counted s e k = record { gathers = λ l d g. absurd (let h : false ≡ true = sym e ∙ l in cc); known = λ l. absurd (let h : false ≡ true = sym e ∙ l in cc); kept = k }

  not_length : (ss : Shapes) (ts : List Term) → ss ≡ seen_all ts → (length ts ≡ 1 → ⊥) → is_linear (apply op.Length ss) ≡ false
  not_length end ts e n = refl
  not_length (s ⨾ end) [] e n = absurd (cc)
  not_length (s ⨾ end) (t ∷ []) e n = absurd (n refl)
  not_length (s ⨾ end) (t ∷ u ∷ ts) e n = absurd (cc)
  not_length (s ⨾ t ⨾ ss) ts e n = refl

  pub several_counted : (o : Op) (j : Joining) (ts : List Term) → j ≡ joining_of o → j ≡ joining.Length → (length ts ≡ 1 → ⊥) → AreCounted m n (seen_all ts) → IsCounted m n (apply o (seen_all ts))
  several_counted op.Length j ts e f l p = none_counted (apply op.Length (seen_all ts)) (not_length (seen_all ts) ts refl l) p.kept
  several_counted op.Add j ts e f l p = absurd (let h : joining.Sum ≡ joining.Length = sym e ∙ f in cc)
  several_counted op.Subtract j ts e f l p = absurd (let h : joining.Sum ≡ joining.Length = sym e ∙ f in cc)
  several_counted op.Multiply j ts e f l p = absurd (let h : joining.Product ≡ joining.Length = sym e ∙ f in cc)
  several_counted _ j ts e f l p = absurd (let h : joining.Nothing ≡ joining.Length = sym e ∙ f in cc)

  pub others_counted : (o : Op) (j : Joining) (ts : List Term) → j ≡ joining_of o → (j ≡ joining.Length → ⊥) → AreCounted m n (seen_all ts) → IsCounted m n (apply o (seen_all ts))
  others_counted op.Length j ts e f p = absurd (f e)
  others_counted op.Add j ts e f p = sum_counted (seen_all ts) p
  others_counted op.Subtract j ts e f p = difference_counted (seen_all ts) p
  others_counted op.Multiply j ts e f p = product_counted (seen_all ts) p
  others_counted o j ts e f p = none_counted (apply o (seen_all ts)) refl p.kept

  pub single_counted : (o : Op) (j : Joining) (ts : List Term) (t : Term) → j ≡ joining_of o → j ≡ joining.Length → length ts ≡ 1 → t ≡ get_or ts 0 t → IsCounted m n (apply op.Length (seen t ⨾ end)) → IsCounted m n (apply o (seen_all ts))
  single_counted op.Length j [] t e f l g p = absurd (omega arith)
  single_counted op.Length j (u ∷ []) t e f l g p = subst (λ x. IsCounted m n (apply op.Length (seen x ⨾ end))) g p
  single_counted op.Length j (u ∷ v ∷ ts) t e f l g p = absurd (omega arith)
  single_counted op.Add j ts t e f l g p = absurd (let h : joining.Sum ≡ joining.Length = sym e ∙ f in cc)
  single_counted op.Subtract j ts t e f l g p = absurd (let h : joining.Sum ≡ joining.Length = sym e ∙ f in cc)
  single_counted op.Multiply j ts t e f l g p = absurd (let h : joining.Product ≡ joining.Length = sym e ∙ f in cc)
  single_counted _ j ts t e f l g p = absurd (let h : joining.Nothing ≡ joining.Length = sym e ∙ f in cc)

pub ruleset applied_arms = (several_counted, others_counted, single_counted)

-- by the head of a term
pub applied_is : (m n : DraftBuilder) (t : Term) (o : Op) (ts : List Term) → t ≡ term.Apply o ts → IsCounted m n (apply o (seen_all ts)) → IsCounted m n (seen t)
applied_is m n t o ts e p = subst (IsCounted m n) (sym (seen_apply t o o ts e refl)) p

pub constant_is : (m n : DraftBuilder) (t : Term) (a : List ℕ) (s : Sort) → t ≡ term.Constant a s → IsIntegerCounted m n a → IsCounted m n (seen t)
constant_is m n t a s e p = subst (IsCounted m n) (sym (ap seen e ∙ seen-Constant a s)) (p.each s)

pub leaf_is : (m : DraftBuilder) (t : Term) → ((n : List ℕ) (k : Sort) → t ≡ term.Constant n k → ⊥) → ((o : Op) (ts : List Term) → t ≡ term.Apply o ts → ⊥) → IsCounted m m (seen t)
leaf_is m t f h = by_shape (seen t) (raw-seen t)
  where
    by_shape : (s : Shape) → raw s ≡ t → IsCounted m m s
    by_shape (constant n k) e = absurd (f n k (sym e))
    by_shape (apply o ss) e = absurd (h o _ (sym e))
    by_shape (number n) e = record { gathers = λ l d g. g; known = λ l. tt; kept = λ x j k. k }
    by_shape (text w) e = none_counted m m (text w) refl (λ x j k. k)
    by_shape (truth b) e = none_counted m m (truth b) refl (λ x j k. k)
    by_shape (member s r) e = none_counted m m (member s r) refl (λ x j k. k)
    by_shape (related a s u) e = none_counted m m (related a s u) refl (λ x j k. k)
    by_shape (opaque s) e = none_counted m m (opaque s) refl (λ x j k. k)

pub ruleset count_arms = (applied_is, constant_is, leaf_is)
