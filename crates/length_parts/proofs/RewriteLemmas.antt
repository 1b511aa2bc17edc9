-- A row that becomes a part leaves what satisfies the cube.
use Rattle.std.proofs.Common.{Bool, ◌≡◌, refl, sym, ap, subst, ◌∙◌, ◌<◌, ◌+◌, ℕ, zero, suc, ℤ, pos, ◌+ℤ◌, ◌*ℤ◌, true, List, [], ◌∷◌, ◌++◌, map, length, get_or, Some, slice_get, slice_set, arith}
use Rattle.std.specs.List.{AllByRecursion, AllZip, remove}
use Rattle.std.proofs.lemmas.List.{length-map, get_or-append-add, get_or-map}
use Rattle.sv_list.specs.Lists.{AllByRecursion-first, AllByRecursion-push}
use Rattle.sv_word.specs.Words.{IsWord}
use Rattle.sv_terms.specs.Language.{In, Word}
use Rattle.sv_terms.specs.declared.regex.Regex.{Regex}
use Rattle.sv_linear.specs.Rows.{Compares, MeetsRow, unknowns_of}
use Rattle.sv_linear.specs.Terms.{terms_value}
use Rattle.flat_cubes.specs.Satisfying.{MeetsPart, MeetsParts, Satisfies, lengths_of, word_at}
use Rattle.flat_cubes.specs.Straight.{AreBelow, InOrder, IsRowBelow, IsStraight}
use Rattle.flat_cubes.specs.declared.variable.Own.{Own}
use Rattle.flat_cubes.specs.declared.variable.Own.TheVariants as own
use Rattle.flat_cubes.specs.declared.variable.Variable.{Variable}
use Rattle.flat_cubes.specs.declared.flat.Flat.{Flat}
use Rattle.length_parts.specs.Rewriting.{HasWordsOf, HaveSameNames, IsRegisterOf, IsRewriting}
use Rattle.length_parts.specs.Steps.{IsBoundRow, parted, with_own, with_part}
use Rattle.length_parts.specs.declared.bound.LengthBound.{LengthBound}

-- what holds of all holds of all but one, and back
rest-all : {X : Type 0} (P : X → Type 0) (xs : List X) (i : ℕ) → AllByRecursion P xs → AllByRecursion P (remove xs i)
rest-all P [] zero h = tt
rest-all P [] (suc i) h = tt
rest-all P (x ∷ xs) zero h = h.1
rest-all P (x ∷ xs) (suc i) h = (h.0, rest-all P xs i h.1)

all-back : {X : Type 0} (P : X → Type 0) (xs : List X) (i : ℕ) (x : X) → slice_get xs i ≡ Some x → P x → AllByRecursion P (remove xs i) → AllByRecursion P xs
all-back P [] i x e p h = tt
all-back P (y ∷ xs) zero x e p h = (let f : x ≡ y = cc in subst P f p, h)
all-back P (y ∷ xs) (suc i) x e p h = (h.0, all-back P xs i x e p h.1)

one-of : {X : Type 0} (P : X → Type 0) (xs : List X) (i : ℕ) (x : X) → slice_get xs i ≡ Some x → AllByRecursion P xs → P x
one-of P [] i x e h = absurd (cc)
one-of P (y ∷ xs) zero x e h = let f : y ≡ x = cc in subst P f h.0
one-of P (y ∷ xs) (suc i) x e h = one-of P xs i x e h.1

last-part : {X : Type 0} (P : X → Type 0) (xs : List X) (x : X) → AllByRecursion P (xs ++ x ∷ []) → P x
last-part P [] x h = h.0
last-part P (y ∷ xs) x h = last-part P xs x h.1

-- words of variables
word-is : (vs : List Variable) (ws : List Word) (v : ℕ) → AllZip MeetsParts vs ws → v < length vs → IsWord (word_at ws v)
word-is [] ws v h l = absurd (omega arith)
word-is (x ∷ xs) [] v h l = absurd h
word-is (x ∷ xs) (w ∷ ws) zero h l = h.0.0
word-is (x ∷ xs) (w ∷ ws) (suc v) h l = word-is xs ws v h.1 (omega arith)

parted-meets : (o : Own) (v : ℕ) (vs : List Variable) (ws : List Word) → AllZip MeetsParts vs ws → MeetsPart (word_at ws v) (o, true) → AllZip MeetsParts (parted o v vs) ws
parted-meets o v [] ws h p = h
parted-meets o zero (x ∷ xs) [] h p = absurd h
parted-meets o (suc v) (x ∷ xs) [] h p = absurd h
parted-meets o zero (x ∷ xs) (w ∷ ws) h p = ((h.0.0, AllByRecursion-push (MeetsPart w) x.parts (o, true) h.0.1 p), h.1)
parted-meets o (suc v) (x ∷ xs) (w ∷ ws) h p = (h.0, parted-meets o v xs ws h.1 p)

parted-back : (o : Own) (v : ℕ) (vs : List Variable) (ws : List Word) → AllZip MeetsParts (parted o v vs) ws → AllZip MeetsParts vs ws
parted-back o v [] ws h = h
parted-back o zero (x ∷ xs) [] h = absurd h
parted-back o (suc v) (x ∷ xs) [] h = absurd h
parted-back o zero (x ∷ xs) (w ∷ ws) h = ((h.0.0, AllByRecursion-first (MeetsPart w) x.parts ((o, true) ∷ []) h.0.1), h.1)
parted-back o (suc v) (x ∷ xs) (w ∷ ws) h = (h.0, parted-back o v xs ws h.1)

parted-holds : (o : Own) (v : ℕ) (vs : List Variable) (ws : List Word) → AllZip MeetsParts (parted o v vs) ws → v < length vs → MeetsPart (word_at ws v) (o, true)
parted-holds o v [] ws h l = absurd (omega arith)
parted-holds o zero (x ∷ xs) [] h l = absurd h
parted-holds o (suc v) (x ∷ xs) [] h l = absurd h
parted-holds o zero (x ∷ xs) (w ∷ ws) h l = last-part (MeetsPart w) x.parts (o, true) h.0.1
parted-holds o (suc v) (x ∷ xs) (w ∷ ws) h l = parted-holds o v xs ws h.1 (omega arith)

parted-long : (o : Own) (v : ℕ) (vs : List Variable) → length (parted o v vs) ≡ length vs
parted-long o v [] = refl
parted-long o zero (x ∷ xs) = refl
parted-long o (suc v) (x ∷ xs) = ap suc (parted-long o v xs)

same-self : (vs : List Variable) → HaveSameNames vs vs
same-self [] = tt
same-self (v ∷ vs) = (refl, same-self vs)

parted-names : (o : Own) (v : ℕ) (vs : List Variable) → HaveSameNames (parted o v vs) vs
parted-names o v [] = tt
parted-names o zero (x ∷ xs) = (refl, same-self xs)
parted-names o (suc v) (x ∷ xs) = (refl, parted-names o v xs)

-- the value of a register
register-value : (flat : Flat) (ws : List Word) (ns : List ℤ) (u v : ℕ) → length ns ≡ length flat.integers → IsRegisterOf flat u v → unknowns_of ns (lengths_of flat.registers ws) u ≡ pos (length (word_at ws v))
register-value flat ws ns u v n r =
    ap (unknowns_of ns (lengths_of flat.registers ws)) (r.is ∙ ap (λ k. k + r.at) (sym n))
    ∙ get_or-append-add ns (map pos (lengths_of flat.registers ws)) r.at (pos 0)
    ∙ get_or-map pos (lengths_of flat.registers ws) r.at 0 (pos 0) (let e = length-map flat.registers (λ k. length (word_at ws k)) in let l = r.within in omega (arith, e, l))
    ∙ ap pos (get_or-map (λ k. length (word_at ws k)) flat.registers r.at 0 0 r.within ∙ ap (λ k. length (word_at ws k)) r.of)

module _ (flat : Flat) (at v : ℕ) (b : LengthBound) (r : Regex) (row : IsBoundRow flat at v b) (has : HasWordsOf b r) where
  row-value : (x : ℕ → ℤ) (n : ℕ) → x row.unknown ≡ pos n → terms_value x row.row.form.coefficients +ℤ row.row.form.constant *ℤ pos 1 ≡ row.coefficient *ℤ pos n +ℤ pos 0 +ℤ row.row.form.constant *ℤ pos 1
  row-value x n e = ap (λ ts. terms_value x ts +ℤ row.row.form.constant *ℤ pos 1) row.terms ∙ ap (λ z. row.coefficient *ℤ z +ℤ pos 0 +ℤ row.row.form.constant *ℤ pos 1) e

  part-of : (ws : List Word) (ns : List ℤ) → length ns ≡ length flat.integers → IsWord (word_at ws v) → MeetsRow (unknowns_of ns (lengths_of flat.registers ws)) row.row → In r (word_at ws v)
  part-of ws ns n w m =
      (has (word_at ws v) w).1 ((row.says (length (word_at ws v))).0
      (subst (Compares row.row.kind) (row-value (unknowns_of ns (lengths_of flat.registers ws)) (length (word_at ws v)) (register-value flat ws ns row.unknown v n row.register)) m))

  row-of : (ws : List Word) (ns : List ℤ) → length ns ≡ length flat.integers → IsWord (word_at ws v) → In r (word_at ws v) → MeetsRow (unknowns_of ns (lengths_of flat.registers ws)) row.row
  row-of ws ns n w m =
      subst (Compares row.row.kind) (sym (row-value (unknowns_of ns (lengths_of flat.registers ws)) (length (word_at ws v)) (register-value flat ws ns row.unknown v n row.register)))
      ((row.says (length (word_at ws v))).1 ((has (word_at ws v) w).0 m))

  step-satisfied : (ws : List Word) (ns : List ℤ) → Satisfies flat ws ns → Satisfies (with_part flat at v (own.InRe r)) ws ns
  step-satisfied ws ns s =
      let w = word-is flat.variables ws v s.strings.parts row.register.below in record {
        strings = record {
          parts = parted-meets (own.InRe r) v flat.variables ws s.strings.parts (part-of ws ns s.rows.count w (one-of (MeetsRow (unknowns_of ns (lengths_of flat.registers ws))) flat.rows at row.row row.is s.rows.rows));
          definitions = s.strings.definitions;
        };
        rows = record { count = s.rows.count; rows = rest-all (MeetsRow (unknowns_of ns (lengths_of flat.registers ws))) flat.rows at s.rows.rows };
        whole = s.whole;
      }

  step-back : (ws : List Word) (ns : List ℤ) → Satisfies (with_part flat at v (own.InRe r)) ws ns → Satisfies flat ws ns
  step-back ws ns s =
      let parts = parted-back (own.InRe r) v flat.variables ws s.strings.parts in
      let w = word-is flat.variables ws v parts row.register.below in record {
        strings = record { parts = parts; definitions = s.strings.definitions };
        rows = record {
          count = s.rows.count;
          rows = all-back (MeetsRow (unknowns_of ns (lengths_of flat.registers ws))) flat.rows at row.row row.is
              (row-of ws ns s.rows.count w (parted-holds (own.InRe r) v flat.variables ws s.strings.parts row.register.below)) s.rows.rows;
        };
        whole = s.whole;
      }

  step-straight : IsStraight flat → IsStraight (with_part flat at v (own.InRe r))
  step-straight s = let e = sym (parted-long (own.InRe r) v flat.variables) in record {
    order = subst (λ n. InOrder n flat.definitions) e s.order;
    registers = subst (λ n. AreBelow n flat.registers) e s.registers;
    rows = rest-all (IsRowBelow (length flat.integers + length flat.registers)) flat.rows at s.rows;
    few_registers = s.few_registers;
    few_integers = s.few_integers;
  }

  pub step-rewriting : IsRewriting flat (with_part flat at v (own.InRe r))
  step-rewriting = record {
    names = parted-names (own.InRe r) v flat.variables;
    definitions = refl;
    integers = refl;
    truths = refl;
    straight = step-straight;
    same = λ ws ns. (step-back ws ns, step-satisfied ws ns);
  }

pub nothing-rewritten : (flat : Flat) → IsRewriting flat flat
nothing-rewritten flat = record { names = same-self flat.variables; definitions = refl; integers = refl; truths = refl; straight = λ s. s; same = λ ws ns. (λ s. s, λ s. s) }

names-join : (us vs ws : List Variable) → HaveSameNames us vs → HaveSameNames vs ws → HaveSameNames us ws
names-join [] [] [] h k = tt
names-join [] [] (w ∷ ws) h k = k
names-join [] (v ∷ vs) ws h k = absurd h
names-join (u ∷ us) [] ws h k = absurd h
names-join (u ∷ us) (v ∷ vs) [] h k = k
names-join (u ∷ us) (v ∷ vs) (w ∷ ws) h k = (h.0 ∙ k.0, names-join us vs ws h.1 k.1)

pub both-rewritten : (a b c : Flat) → IsRewriting a b → IsRewriting b c → IsRewriting a c
both-rewritten a b c f g = record {
  names = names-join c.variables b.variables a.variables g.names f.names;
  definitions = g.definitions ∙ f.definitions;
  integers = g.integers ∙ f.integers;
  truths = g.truths ∙ f.truths;
  straight = λ s. g.straight (f.straight s);
  same = λ ws ns. (λ s. (f.same ws ns).0 ((g.same ws ns).0 s), λ s. (g.same ws ns).1 ((f.same ws ns).1 s));
}

-- without rows no register is asked for
pub registers-dropped : (flat : Flat) → flat.rows ≡ [] → IsRewriting flat (record flat { registers = [] })
registers-dropped flat e = record {
  names = same-self flat.variables;
  definitions = refl;
  integers = refl;
  truths = refl;
  straight = λ s. record { order = s.order; registers = tt; rows = subst (AllByRecursion (IsRowBelow (length flat.integers + 0))) (sym e) tt; few_registers = omega arith; few_integers = s.few_integers };
  same = λ ws ns. (
    λ s. record { strings = record { parts = s.strings.parts; definitions = s.strings.definitions }; rows = record { count = s.rows.count; rows = subst (AllByRecursion (MeetsRow (unknowns_of ns (lengths_of flat.registers ws)))) (sym e) tt }; whole = s.whole },
    λ s. record { strings = record { parts = s.strings.parts; definitions = s.strings.definitions }; rows = record { count = s.rows.count; rows = subst (AllByRecursion (MeetsRow (unknowns_of ns []))) (sym e) tt }; whole = s.whole },
  );
}

pub part-put : (o : Own) (v : ℕ) (vs : List Variable) (d : Variable) → v < length vs → slice_set vs v (with_own o (get_or vs v d)) ≡ parted o v vs
part-put o v [] d l = absurd (omega arith)
part-put o zero (x ∷ xs) d l = refl
part-put o (suc v) (x ∷ xs) d l = ap (λ ys. x ∷ ys) (part-put o v xs d (omega arith))

pub one-term : (ts : List (ℕ × ℤ)) (d : ℕ × ℤ) → length ts ≡ 1 → ts ≡ get_or ts 0 d ∷ []
one-term [] d e = absurd (omega (arith, e))
one-term (t ∷ []) d e = refl
one-term (t ∷ s ∷ ts) d e = absurd (omega (arith, e))

pub part-written : (o : Own) (v : ℕ) (vs items : List Variable) (m : Variable) (new : List (Own × Bool)) → items ≡ vs → m ≡ get_or items v m → new ≡ m.parts ++ (o, true) ∷ [] → v < length vs
    → slice_set items v (record { names = m.names; parts = new }) ≡ parted o v vs
part-written o v vs items m new e g n l =
    (λ i. slice_set (e i) v (record { names = m.names; parts = n i }))
    ∙ ap (λ k. slice_set vs v (with_own o k)) (g ∙ ap (λ ys. get_or ys v m) e) ∙ part-put o v vs m l
