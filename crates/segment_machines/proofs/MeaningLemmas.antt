-- What the states of a transducer relate.
use Rattle.std.proofs.Common.{◌≡◌, refl, sym, ap, ◌∙◌, subst, ℕ, ◌+◌, ◌*◌, ◌≤◌, ◌<◌, ⊎_elim, arith, List, [], ◌∷◌, ◌++◌, length, Some, Contains}
use Rattle.std.specs.Prelude.{◌↔◌, pos}
use Rattle.std.specs.List.{AllByRecursion}
use Rattle.std.specs.Option.{option_map}
use Rattle.std.proofs.lemmas.List.{append_assoc}
use Rattle.std.proofs.lemmas.Option.{same_Some}
use Rattle.sv_list.specs.Lists.{Contains-cases, Contains-here, Contains-there, Contains-none}
use Rattle.sv_word.specs.Words.{IsWord, greatest_character}
use Rattle.sv_terms.specs.Language.{Word}
use Rattle.sv_terms.specs.Transduction.{then_word, written_at, Transduces, Leads, Writes, IsFormed, IsFormedEdge}
use Rattle.sv_terms.specs.TransducerSizes.{items_size, edges_most, ends_most}
use Rattle.sv_terms.specs.TransducerSizeLaws.{written_size}
use Rattle.sv_terms.specs.TransductionLaws.{owes_within, within_weaker}
use Rattle.sv_terms.specs.declared.transducer.Item.TheVariants.{Text, Shift}
use Rattle.sv_terms.specs.declared.transducer.TransEdge.{TransEdge}
use Rattle.sv_terms.specs.declared.transducer.Transducer.{Transducer}
use Rattle.replace_machines.proofs.WordLemmas.{shift-none}
use Rattle.segment_machines.specs.Marked.{phase}
use Rattle.segment_machines.specs.Edges.{mark_edge}
use Rattle.segment_machines.specs.Relating.{Relates}

-- what holds after the edge holds before it, with one character more
abbrev pub Moves : (ℕ → Word → Word → Type 0) → TransEdge → Type 0
Moves meaning e = (c : ℕ) (v read written : Word) → c ≤ greatest_character → e.lo ≤ c → c ≤ e.hi → written_at c e.items ≡ Some v → meaning e.to read written → meaning e.from (c ∷ read) (v ++ written)

-- some edge reads the character and leaves what holds after it
pub record IsMove (t : Transducer) (meaning : ℕ → Word → Word → Type 0) (s c : ℕ) (read written : Word) : Type 0 where
  pub edge : TransEdge
  pub text : Word
  pub rest : Word
  pub has : Contains t.edges edge
  pub moves : Transduces s c text edge
  pub splits : written ≡ text ++ rest
  pub goes : meaning edge.to read rest

-- from each state the transducer writes what the meaning of the state relates
pub record Means (t : Transducer) (meaning : ℕ → Word → Word → Type 0) : Type 0 where
  pub move : (e : TransEdge) → Contains t.edges e → Moves meaning e
  pub step : (s c : ℕ) (read written : Word) → s < t.states → meaning s (c ∷ read) written → IsMove t meaning s c read written
  pub ending : (e : ℕ × Word) → Contains t.ends e → meaning e.0 [] e.1
  pub last : (s : ℕ) (written : Word) → s < t.states → meaning s [] written → Contains t.ends (s, written)

module _ (t : Transducer) (meaning : ℕ → Word → Word → Type 0) (formed : IsFormed t) (means : Means t meaning) where
  meant-path : (s to : ℕ) (read path last : Word) → Leads t s read path to → meaning to [] last → meaning s read (path ++ last)
  meant-path s to [] path last p m =
      subst (λ n. meaning n [] (path ++ last)) (sym p.1) (subst (λ (w : Word). meaning to [] (w ++ last)) (sym p.0) m)
  meant-path s to (c ∷ read) path last p m =
      let e = p.0 in
      let high = (formed.edge e p.3).high in
      let top : c ≤ greatest_character = let x = p.4.2 in omega (arith, x, high) in
      let more = meant-path e.to to read p.2 last p.6 m in
      let here = means.move e p.3 c p.1 read (p.2 ++ last) top p.4.1 p.4.2 p.4.3 more in
      subst (λ n. meaning n (c ∷ read) (path ++ last)) p.4.0
      (subst (λ (w : Word). meaning e.from (c ∷ read) w) (sym (ap (λ (w : Word). w ++ last) p.5 ∙ append_assoc p.1 p.2 last)) here)

  pub meant : (s : ℕ) (read written : Word) → Writes t s read written → meaning s read written
  meant s read written p = subst (meaning s read) (sym p.5) (meant-path s p.0 read p.1 p.2 p.3 (means.ending (p.0, p.2) p.4))

  pub meant_all : (s : ℕ) (read written : Word) → s < t.states → meaning s read written → Writes t s read written
  meant_all s [] written h m = (s, [], written, (refl, refl), means.last s written h m, refl)
  meant_all s (c ∷ read) written h m =
      let k = means.step s c read written h m in
      let r = meant_all k.edge.to read k.rest (formed.edge k.edge k.has).to k.goes in
      (r.0, k.text ++ r.1, r.2, (k.edge, k.text, r.1, k.has, k.moves, refl, r.3), r.4, k.splits ∙ ap (λ (w : Word). k.text ++ w) r.5 ∙ sym (append_assoc k.text r.1 r.2))

  pub means-exact : (s : ℕ) (read written : Word) → s < t.states → Writes t s read written ↔ meaning s read written
  means-exact s read written h = (meant s read written, meant_all s read written h)

edges-least : (es : List TransEdge) (b : ℕ) → ((e : TransEdge) → Contains es e → items_size e.items ≤ b) → edges_most es ≤ b
edges-least [] b h = omega arith
edges-least (e ∷ es) b h = let x = h e (Contains-here e es) in let y = edges-least es b (λ d c. h d (Contains-there e es d c)) in omega (arith, x, y)

ends-nothing : (es : List (ℕ × Word)) → ((e : ℕ × Word) → Contains es e → e.1 ≡ []) → ends_most es ≡ 0
ends-nothing [] h = refl
ends-nothing (e ∷ es) h = let x = ap length (h e (Contains-here e es)) in let y = ends-nothing es (λ d c. h d (Contains-there e es d c)) in omega (arith, x, y)

pub relates : (t : Transducer) (meaning : ℕ → Word → Word → Type 0) (related : Word → Word → Type 0) (rate : ℕ) (bound : ℕ → ℕ)
    → IsFormed t → Means t meaning → ((read written : Word) → meaning t.start read written ↔ (IsWord read × related read written))
    → ((e : TransEdge) → Contains t.edges e → items_size e.items ≤ rate) → ((e : ℕ × Word) → Contains t.ends e → e.1 ≡ []) → ((n : ℕ) → n * rate ≤ bound n)
    → Relates t related rate bound
relates t meaning related rate bound formed means first most none_last less = record {
  formed = formed;
  exact = λ read written.
      let k = means-exact t meaning formed means t.start read written formed.start in
      let f = first read written in
      (λ p. f.0 (k.0 p), λ q. k.1 (f.1 q));
  growth = within_weaker t (λ n. n * rate + 0) bound (λ n. let x = less n in omega (arith, x)) (owes_within t rate (λ s. 0) (record {
    move = λ e s c v has m. let x = most e has in let y = written_size c e.items v m.3 in omega (arith, x, y);
    ended = λ e has. let x = ap length (none_last e has) in omega (arith, x);
  }) 0 (λ s h. omega arith));
  most = edges-least t.edges rate most;
  nothing = ends-nothing t.ends none_last;
}

-- the edges that mark
pub mark-written : (r c : ℕ) → c ≤ greatest_character → written_at c (Text (phase r ∷ []) ∷ (Shift (pos 0) ∷ [])) ≡ Some (phase r ∷ (c ∷ []))
mark-written r c h = ap (λ o. then_word (Some (phase r ∷ [])) (then_word (option_map (λ d. d ∷ []) o) (Some []))) (shift-none c h)

pub mark-moves : (meaning : ℕ → Word → Word → Type 0) (s r lo hi to : ℕ)
    → ((c : ℕ) (read written : Word) → c ≤ greatest_character → lo ≤ c → c ≤ hi → meaning to read written → meaning s (c ∷ read) (phase r ∷ (c ∷ written)))
    → Moves meaning (mark_edge s r lo hi to)
mark-moves meaning s r lo hi to f c v read written h l m w p =
    let same : phase r ∷ (c ∷ []) ≡ v = same_Some (phase r ∷ (c ∷ [])) v (sym (mark-written r c h) ∙ w) in
    subst (λ (x : Word). meaning s (c ∷ read) (x ++ written)) same (f c read written h l m p)

pub mark-step : (t : Transducer) (meaning : ℕ → Word → Word → Type 0) (s r lo hi to c : ℕ) (read written rest : Word)
    → Contains t.edges (mark_edge s r lo hi to) → c ≤ greatest_character → lo ≤ c → c ≤ hi → written ≡ phase r ∷ (c ∷ rest) → meaning to read rest
    → IsMove t meaning s c read written
mark-step t meaning s r lo hi to c read written rest has h l m e goes = record {
  edge = mark_edge s r lo hi to;
  text = phase r ∷ (c ∷ []);
  rest = rest;
  has = has;
  moves = (refl, l, m, mark-written r c h);
  splits = e;
  goes = goes;
}

pub mark-formed : (states s r lo hi to : ℕ) → s < states → to < states → lo ≤ hi → hi ≤ greatest_character → r ≤ 2 → IsFormedEdge states (mark_edge s r lo hi to)
mark-formed states s r lo hi to h g l m t = record { from = h; to = g; order = l; high = m; items = ((omega (arith, t), tt), tt) }

-- what holds of each member of a list that is written out
pub each_member : {X : Type 0} (P : X → Type 0) (xs : List X) → AllByRecursion P xs → (y : X) → Contains xs y → P y
each_member P [] h y c = absurd (Contains-none y c)
each_member P (x ∷ xs) h y c = ⊎_elim (λ s. subst P s h.0) (each_member P xs h.1 y) (Contains-cases x xs y c)
