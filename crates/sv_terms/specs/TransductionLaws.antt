-- What follows of paths of transducers.
use Rattle.std.specs.Prelude.{◌≡◌, ℕ, ℤ, pos, negsuc, suc, ◌+◌, ◌+ℤ◌, ◌*◌, ◌≤◌, ◌<◌, ◌↔◌, Bool, true, false, if◌then◌else◌, nat_le, List, [], ◌∷◌, ◌++◌, length, Contains, Option, Some, None}
use Rattle.std.proofs.Common.{refl, sym, ap, ◌∙◌, subst, arith, rules}
use Rattle.std.proofs.lemmas.List.{append-nil, append_assoc, length-append}
use Rattle.std.proofs.lemmas.Option.{slice_get_within, get_or_from_slice_get, slice_get_read, same_Some}
use Rattle.sv_word.specs.Words.{IsWord, greatest_character}
use Rattle.sv_terms.specs.Language.{Word}
use Rattle.sv_terms.specs.Transduction.{character, item_at, then_word, written_at, Transduces, Leads, Writes, Pairs, Follows, IsTransduction, WritesWithin, AreItems, IsFormed}
use Rattle.sv_terms.specs.declared.transducer.Item.{Item}
use Rattle.sv_terms.specs.declared.transducer.Item.TheVariants as item
use Rattle.sv_terms.specs.declared.transducer.TransEdge.{TransEdge}
use Rattle.sv_terms.specs.declared.transducer.Transducer.{Transducer}
use Rattle.sv_terms.specs.OnlyWords.{word_join}

pub then_some : (x y : Option Word) (v : Word) → then_word x y ≡ Some v → (a b : Word) × (x ≡ Some a) × (y ≡ Some b) × (v ≡ a ++ b)
then_some None y v e = absurd (cc)
then_some (Some a) None v e = absurd (cc)
then_some (Some a) (Some b) v e = (a, b, refl, refl, sym (same_Some (a ++ b) v e))

character_top : (z : ℤ) (d : ℕ) → character z ≡ Some d → d ≤ greatest_character
character_top (pos c) d e = by (nat_le c greatest_character) refl e
  where
    by : (b : Bool) → nat_le c greatest_character ≡ b → (if b then Some c else None) ≡ Some d → d ≤ greatest_character
    by true h e = let below : c ≤ greatest_character = search (rules, h) in subst (λ n. n ≤ greatest_character) (same_Some c d e) below
    by false h e = absurd (cc)
character_top (negsuc n) d e = absurd (cc)

shift_word : (c : ℕ) (k : ℤ) (a : Word) → item_at c (item.Shift k) ≡ Some a → IsWord a
shift_word c k a e = by (character (pos c +ℤ k)) refl
  where
    by : (o : Option ℕ) → character (pos c +ℤ k) ≡ o → IsWord a
    by None h = absurd (cc)
    by (Some d) h = let same : d ∷ [] ≡ a = cc in subst IsWord same (character_top (pos c +ℤ k) d h, tt)

pub written_word : (c : ℕ) (is : List Item) (v : Word) → AreItems is → written_at c is ≡ Some v → IsWord v
written_word c [] v h e = subst IsWord (same_Some [] v e) tt
written_word c (item.Text w ∷ is) v h e =
    let k = then_some (Some w) (written_at c is) v e in
    subst IsWord (sym k.4) (word_join k.0 k.1 (subst IsWord (same_Some w k.0 k.2) h.0) (written_word c is k.1 h.1 k.3))
written_word c (item.Shift n ∷ is) v h e =
    let k = then_some (item_at c (item.Shift n)) (written_at c is) v e in
    subst IsWord (sym k.4) (word_join k.0 k.1 (shift_word c n k.0 k.2) (written_word c is k.1 h k.3))

-- a formed transducer relates words with words alone
module _ (t : Transducer) (formed : IsFormed t) where
  pub leads_words : (s to : ℕ) (read written : Word) → Leads t s read written to → IsWord read × IsWord written
  leads_words s to [] written p = (tt, subst IsWord (sym p.0) tt)
  leads_words s to (c ∷ read) written p =
      let edge = formed.edge p.0 p.3 in
      let more = leads_words p.0.to to read p.2 p.6 in
      let top : c ≤ greatest_character = let high = edge.high in let m = p.4.2 in omega arith in
      ((top, more.0), subst IsWord (sym p.5) (word_join p.1 p.2 (written_word c p.0.items p.1 edge.items p.4.3) more.1))

  pub writes_words : (s : ℕ) (read written : Word) → Writes t s read written → IsWord read × IsWord written
  writes_words s read written p =
      let both = leads_words s p.0 read p.1 p.3 in
      (both.0, subst IsWord (sym p.5) (word_join p.1 p.2 both.1 (formed.ending (p.0, p.2) p.4).word))

-- a path is one along the edges at some places
module _ (t : Transducer) where
  pub follows_leads : (s : ℕ) (places : List ℕ) (read written : Word) (to : ℕ) → Follows t s places read written to → Leads t s read written to
  follows_leads s [] [] written to p = p
  follows_leads s [] (c ∷ read) written to p = absurd p
  follows_leads s (k ∷ places) [] written to p = absurd p
  follows_leads s (k ∷ places) (c ∷ read) written to p =
      let has : Contains t.edges p.0 = (k, slice_get_within t.edges k p.0 p.3, get_or_from_slice_get t.edges k p.0 p.0 p.3) in
      (p.0, p.1, p.2, has, p.4, p.5, follows_leads p.0.to places read p.2 to p.6)

  pub leads_follows : (s : ℕ) (read written : Word) (to : ℕ) → Leads t s read written to → (places : List ℕ) × Follows t s places read written to
  leads_follows s [] written to p = ([], p)
  leads_follows s (c ∷ read) written to p =
      let more = leads_follows p.0.to read p.2 to p.6 in
      (p.3.0 ∷ more.0, (p.0, p.1, p.2, slice_get_read t.edges (length t.edges) p.3.0 p.0 refl p.3.1 (sym p.3.2), p.4, p.5, more.1))

  pub run_pairs : (places : List ℕ) (read written : Word) → IsTransduction t places read written → Pairs t read written
  run_pairs places read written p = (p.0, p.1, p.2, follows_leads t.start places read p.1 p.0 p.3, p.4, p.5)

  pub pairs_run : (read written : Word) → Pairs t read written → (places : List ℕ) × IsTransduction t places read written
  pairs_run read written p = let k = leads_follows t.start read p.1 p.0 p.3 in (k.0, (p.0, p.1, p.2, k.1, p.4, p.5))

  -- one path after another
  pub leads_join : (s m to : ℕ) (read more : Word) (a b : Word) → Leads t s read a m → Leads t m more b to → Leads t s (read ++ more) (a ++ b) to
  leads_join s m to [] more a b p q = subst (λ (w : Word). Leads t s more (w ++ b) to) (sym p.0) (subst (λ n. Leads t n more b to) (sym p.1) q)
  leads_join s m to (c ∷ read) more a b p q =
      (p.0, p.1, p.2 ++ b, p.3, p.4, ap (λ (w : Word). w ++ b) p.5 ∙ append_assoc p.1 p.2 b, leads_join p.0.to m to read more p.2 b p.6 q)

-- the transducer has one edge for each state and character, and writes what a function of the state and the word that is left says
pub record Computes (t : Transducer) (answer : ℕ → Word → Word) : Type 0 where
  pub move : (e : TransEdge) → Contains t.edges e → (c : ℕ) → e.lo ≤ c → c ≤ e.hi → (v : Word) × (written_at c e.items ≡ Some v) × ((w : Word) → answer e.from (c ∷ w) ≡ v ++ answer e.to w)
  pub edge : (s c : ℕ) → s < t.states → c ≤ greatest_character → (e : TransEdge) × Contains t.edges e × (e.from ≡ s) × (e.lo ≤ c) × (c ≤ e.hi)
  pub ending : (s : ℕ) → s < t.states → Contains t.ends (s, answer s [])
  pub ended : (e : ℕ × Word) → Contains t.ends e → e.1 ≡ answer e.0 []

module _ (t : Transducer) (answer : ℕ → Word → Word) (formed : IsFormed t) (computes : Computes t answer) where
  computed-path : (s to : ℕ) (read path more : Word) → Leads t s read path to → answer s (read ++ more) ≡ path ++ answer to more
  computed-path s to [] path more p = ap (λ n. answer n more) p.1 ∙ ap (λ (w : Word). w ++ answer to more) (sym p.0)
  computed-path s to (c ∷ read) path more p =
      let e = p.0 in
      let m = computes.move e p.3 c p.4.1 p.4.2 in
      let same : m.0 ≡ p.1 = same_Some m.0 p.1 (sym m.1 ∙ p.4.3) in
      ap (λ n. answer n (c ∷ (read ++ more))) (sym p.4.0)
      ∙ m.2 (read ++ more)
      ∙ ap (λ (w : Word). w ++ answer e.to (read ++ more)) same
      ∙ ap (λ (w : Word). p.1 ++ w) (computed-path e.to to read p.2 more p.6)
      ∙ sym (append_assoc p.1 p.2 (answer to more))
      ∙ ap (λ (w : Word). w ++ answer to more) (sym p.5)

  pub computed : (s : ℕ) (read written : Word) → Writes t s read written → written ≡ answer s read
  computed s read written p =
      let to = p.0 in
      let whole = computed-path s to read p.1 [] p.3 in
      let last : p.2 ≡ answer to [] = computes.ended (to, p.2) p.4 in
      p.5 ∙ ap (λ (w : Word). p.1 ++ w) last ∙ sym whole ∙ ap (answer s) (append-nil read)

  pub computes_all : (s : ℕ) (read : Word) → s < t.states → IsWord read → Writes t s read (answer s read)
  computes_all s [] h g = (s, [], answer s [], (refl, refl), computes.ending s h, refl)
  computes_all s (c ∷ read) h g =
      let k = computes.edge s c h g.0 in
      let e = k.0 in
      let m = computes.move e k.1 c k.3 k.4 in
      let r = computes_all e.to read (formed.edge e k.1).to g.1 in
      let eq = ap (λ n. answer n (c ∷ read)) (sym k.2) ∙ m.2 read ∙ ap (λ (w : Word). m.0 ++ w) r.5 ∙ sym (append_assoc m.0 r.1 r.2) in
      (r.0, m.0 ++ r.1, r.2, (e, m.0, r.1, k.1, (k.2, k.3, k.4, m.1), refl, r.3), r.4, eq)

  pub computes-exact : (s : ℕ) (read written : Word) → s < t.states → Writes t s read written ↔ (IsWord read × (written ≡ answer s read))
  computes-exact s read written h = (
    λ p. ((writes_words t formed s read written p).0, computed s read written p),
    λ q. subst (Writes t s read) (sym q.1) (computes_all s read h q.0),
  )

-- each state owes so many characters: an edge writes at most `rate` and what its state owes more than the next one, an end at most what its state owes
pub record Owes (t : Transducer) (rate : ℕ) (owed : ℕ → ℕ) : Type 0 where
  pub move : (e : TransEdge) (s c : ℕ) (v : Word) → Contains t.edges e → Transduces s c v e → length v + owed e.to ≤ rate + owed s
  pub ended : (e : ℕ × Word) → Contains t.ends e → length e.1 ≤ owed e.0

pub one_more : (n rate : ℕ) → suc n * rate ≡ rate + n * rate
one_more n rate = grind arith

module _ (t : Transducer) (rate : ℕ) (owed : ℕ → ℕ) (owes : Owes t rate owed) where
  paid-path : (s to : ℕ) (read written : Word) → Leads t s read written to → length written + owed to ≤ length read * rate + owed s
  paid-path s to [] written p =
      let none = ap length p.0 in let same = ap owed p.1 in omega arith
  paid-path s to (c ∷ read) written p =
      let here = owes.move p.0 s c p.1 p.3 p.4 in
      let rest = paid-path p.0.to to read p.2 p.6 in
      let sum : length written ≡ length p.1 + length p.2 = ap length p.5 ∙ length-append p.1 p.2 in
      let more = one_more (length read) rate in
      omega (arith, here, rest, sum, more)

  pub owes_within : (base : ℕ) → ((s : ℕ) → s < t.states → owed s ≤ base) → WritesWithin t (λ n. n * rate + base)
  owes_within base h = record {
    paths = λ s to read written g p. let k = paid-path s to read written p in let m = h s g in omega (arith, k, m);
    ended = λ s read written g p.
        let k = paid-path s p.0 read p.1 p.3 in
        let m = h s g in
        let last = owes.ended (p.0, p.2) p.4 in
        let sum : length written ≡ length p.1 + length p.2 = ap length p.5 ∙ length-append p.1 p.2 in
        omega (arith, k, m, last, sum);
  }

-- a greater bound is one too
pub within_weaker : (t : Transducer) (f g : ℕ → ℕ) → ((n : ℕ) → f n ≤ g n) → WritesWithin t f → WritesWithin t g
within_weaker t f g h k = record {
  paths = λ s to read written l p. let x = k.paths s to read written l p in let y = h (length read) in omega (arith, x, y);
  ended = λ s read written l p. let x = k.ended s read written l p in let y = h (length read) in omega (arith, x, y);
}
