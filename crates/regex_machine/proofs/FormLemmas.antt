-- The machine of each form of expression, by what is built of its parts.
use Rattle.std.proofs.Common.{◌≡◌, ℕ, ◌+◌, ◌*◌, ◌^◌, ◌<◌, ◌≤◌, ◌⊎◌, Bool, true, false, cond, nat_eq, Result, List, [], ◌++◌, map, ap, ◌∙◌, subst, arith}
use Rattle.std.proofs.Math.Nat.{mul-le-mul_left, mul-le-mul_right}
use Rattle.machine_core.specs.declared.graph.Graph.{Graph}
use Rattle.sv_word.specs.Words.{IsWord}
use Rattle.sv_terms.specs.Language.{In, Then, Repeated, Power, InFirstOnly}
use Rattle.sv_terms.specs.Opened.{In-Star, In-Plus, In-Opt, In-Comp, In-Diff, In-Loop}
use Rattle.sv_terms.specs.declared.regex.Regex.{Regex}
use Rattle.sv_terms.specs.declared.regex.Regex.TheVariants as v
use Rattle.trim_search.specs.declared.build_fault.BuildFault.{BuildFault}
use Rattle.sv_terms.specs.Bounds.{size, from_left, without_size}
use Rattle.regex_machine.specs.Built.{Builds}
use Rattle.regex_machine.specs.Copied.{InCopies, copies_size}
use Rattle.regex_machine.specs.Joined.{WordsOf, HasWords, AreMade}
use Rattle.regex_machine.specs.Kinds.{Together, weight, most_states, states_of}
use Rattle.regex_machine.specs.Parts.{AddsParts}
use Rattle.regex_machine.specs.declared.kind.JoinKind.{JoinKind}
use Rattle.regex_machine.specs.declared.kind.JoinKind.TheVariants as kind
use Rattle.regex_machine.proofs.BuiltLemmas.{builds-as, builds-form}
use Rattle.regex_machine.proofs.CopyLanguage.{star-copied, plus-copied, opt-copied, loop-copied, copied-same}
use Rattle.regex_machine.proofs.KindLemmas.{formed, formed-words, formed-size, first-fewer}
use Rattle.regex_machine.proofs.LanguageLemmas.{first-made}
use Rattle.sv_terms.specs.BoundLaws.{size-Star, size-Plus, size-Opt, size-Comp, size-Diff, size-Loop}
use Rattle.sv_terms.specs.CutOff.{power-more}

module _ (regex : Regex) (limit : ℕ) (x : Result Graph BuildFault) where
  pub builds-list : (k : JoinKind) (rs slice : List Regex) → slice ≡ rs → regex ≡ formed k rs
      → Builds (Together k In slice) (most_states k (weight k size slice)) limit x → Builds (In regex) (size regex) limit x
  builds-list k rs slice seen is h =
      builds-form regex (formed k rs) (Together k In rs) (most_states k (weight k size rs)) limit x is (formed-words k rs) (formed-size k rs)
      (subst (λ l. Builds (Together k In l) (most_states k (weight k size l)) limit x) seen h)

  pub builds-Diff : (rs slice : List Regex) → slice ≡ rs → regex ≡ v.Diff rs
      → Builds (InFirstOnly In slice) (from_left without_size (map size slice)) limit x → Builds (In regex) (size regex) limit x
  builds-Diff rs slice seen is h =
      builds-form regex (v.Diff rs) (InFirstOnly In rs) (from_left without_size (map size rs)) limit x is (In-Diff rs) (let e = size-Diff rs in omega arith)
      (subst (λ l. Builds (InFirstOnly In l) (from_left without_size (map size l)) limit x) seen h)

  module _ (r part : Regex) (seen : part ≡ r) where
    pub builds-Star : regex ≡ v.Star r → Builds (InCopies (In part) 0 1 true) (copies_size 0 1 (size part)) limit x → Builds (In regex) (size regex) limit x
    builds-Star is h =
        builds-form regex (v.Star r) (Repeated (In r)) (1 * size r + 1) limit x is (In-Star r) (let e = size-Star r in omega arith)
        (builds-as (InCopies (In r) 0 1 true) (Repeated (In r)) (1 * size r + 1) (1 * size r + 1) limit (star-copied (In r)) (omega arith) x
        (subst (λ q. Builds (InCopies (In q) 0 1 true) (copies_size 0 1 (size q)) limit x) seen h))

    pub builds-Plus : regex ≡ v.Plus r → Builds (InCopies (In part) 1 1 true) (copies_size 1 1 (size part)) limit x → Builds (In regex) (size regex) limit x
    builds-Plus is h =
        builds-form regex (v.Plus r) (Then (In r) (Repeated (In r))) (1 * size r) limit x is (In-Plus r) (let e = size-Plus r in omega arith)
        (builds-as (InCopies (In r) 1 1 true) (Then (In r) (Repeated (In r))) (1 * size r) (1 * size r) limit (plus-copied (In r)) (omega arith) x
        (subst (λ q. Builds (InCopies (In q) 1 1 true) (copies_size 1 1 (size q)) limit x) seen h))

    pub builds-Opt : regex ≡ v.Opt r → Builds (InCopies (In part) 0 1 false) (copies_size 0 1 (size part)) limit x → Builds (In regex) (size regex) limit x
    builds-Opt is h =
        builds-form regex (v.Opt r) (λ w. (w ≡ []) ⊎ In r w) (1 * size r + 1) limit x is (In-Opt r) (let e = size-Opt r in omega arith)
        (builds-as (InCopies (In r) 0 1 false) (λ w. (w ≡ []) ⊎ In r w) (1 * size r + 1) (1 * size r + 1) limit (opt-copied (In r)) (omega arith) x
        (subst (λ q. Builds (InCopies (In q) 0 1 false) (copies_size 0 1 (size q)) limit x) seen h))

    pub builds-Comp : regex ≡ v.Comp r → Builds (λ w. IsWord w × (In part w → ⊥)) (2 ^ size part) limit x → Builds (In regex) (size regex) limit x
    builds-Comp is h =
        builds-form regex (v.Comp r) (λ w. IsWord w × (In r w → ⊥)) (2 ^ size r) limit x is (In-Comp r) (let e = size-Comp r in omega arith)
        (subst (λ q. Builds (λ w. IsWord w × (In q w → ⊥)) (2 ^ size q) limit x) seen h)

    pub builds-Loop : (i j : ℕ) → regex ≡ v.Loop r i j → Builds (λ w. (n : ℕ) × (i ≤ n) × (n ≤ j) × Power (In part) n w) (j * size part + 1) limit x → Builds (In regex) (size regex) limit x
    builds-Loop i j is h =
        builds-form regex (v.Loop r i j) (λ w. (n : ℕ) × (i ≤ n) × (n ≤ j) × Power (In r) n w) (j * size r + 1) limit x is (In-Loop r i j) (let e = size-Loop r i j in omega arith)
        (subst (λ q. Builds (λ w. (n : ℕ) × (i ≤ n) × (n ≤ j) × Power (In q) n w) (j * size q + 1) limit x) seen h)

copies-more : (least most n m : ℕ) → n ≤ m → copies_size least most n ≤ copies_size least most m
copies-more least most n m le = by_test (nat_eq least 0)
  where
    by_test : (b : Bool) → cond b (most * n + 1) (most * n) ≤ cond b (most * m + 1) (most * m)
    by_test true = let more = mul-le-mul_left most le in omega arith
    by_test false = mul-le-mul_left most le

pub copies-least : (least most n : ℕ) → 0 < most → n ≤ copies_size least most n
copies-least least most n some = by_test (nat_eq least 0)
  where
    once : 1 * n ≤ most * n
    once = mul-le-mul_right n some

    by_test : (b : Bool) → n ≤ cond b (most * n + 1) (most * n)
    by_test true = let o = once in omega arith
    by_test false = let o = once in omega arith

copies-most : (least most n : ℕ) → copies_size least most n ≤ most * n + 1
copies-most least most n = by_test (nat_eq least 0)
  where
    by_test : (b : Bool) → cond b (most * n + 1) (most * n) ≤ most * n + 1
    by_test true = omega arith
    by_test false = omega arith

most-more : (k : JoinKind) (n m : ℕ) → n ≤ m → most_states k n ≤ most_states k m
most-more kind.Turn n m le = omega arith
most-more kind.One n m le = omega arith
most-more kind.All n m le = le

-- what is built of machines of the parts
module _ (limit : ℕ) (x : Result Graph BuildFault) where
  pub complement-made : (r : Regex) (n : Graph) → HasWords (In r) n → n.states ≤ size r
      → Builds (λ w. IsWord w × (WordsOf n w → ⊥)) (2 ^ n.states) limit x → Builds (λ w. IsWord w × (In r w → ⊥)) (2 ^ size r) limit x
  complement-made r n made few h = builds-as (λ w. IsWord w × (WordsOf n w → ⊥)) (λ w. IsWord w × (In r w → ⊥)) (2 ^ n.states) (2 ^ size r) limit
      (λ w. (λ y. (y.0, λ z. y.1 ((made.words w).1 z)), λ y. (y.0, λ z. y.1 ((made.words w).0 z)))) (power-more n.states (size r) few) x h

  pub copies-made : (r : Regex) (n : Graph) (least most : ℕ) (again : Bool) → HasWords (In r) n → n.states ≤ size r
      → Builds (InCopies (WordsOf n) least most again) (copies_size least most n.states) limit x → Builds (InCopies (In r) least most again) (copies_size least most (size r)) limit x
  copies-made r n least most again made few h = builds-as (InCopies (WordsOf n) least most again) (InCopies (In r) least most again) (copies_size least most n.states) (copies_size least most (size r)) limit
      (copied-same (WordsOf n) (In r) made.words least most again) (copies-more least most n.states (size r) few) x h

  pub difference-made : (rs : List Regex) (ms list : List Graph) → list ≡ ms → AreMade rs ms
      → Builds (InFirstOnly WordsOf list) (from_left without_size (map states_of list)) limit x → Builds (InFirstOnly In rs) (from_left without_size (map size rs)) limit x
  difference-made rs ms list seen made h = builds-as (InFirstOnly WordsOf ms) (InFirstOnly In rs) (from_left without_size (map states_of ms)) (from_left without_size (map size rs)) limit
      (first-made rs ms made) (first-fewer rs ms made) x
      (subst (λ l. Builds (InFirstOnly WordsOf l) (from_left without_size (map states_of l)) limit x) seen h)

  pub loop-made : (r : Regex) (i j : ℕ) → Builds (InCopies (In r) i j false) (copies_size i j (size r)) limit x
      → Builds (λ w. (n : ℕ) × (i ≤ n) × (n ≤ j) × Power (In r) n w) (j * size r + 1) limit x
  loop-made r i j h = builds-as (InCopies (In r) i j false) (λ w. (n : ℕ) × (i ≤ n) × (n ≤ j) × Power (In r) n w) (copies_size i j (size r)) (j * size r + 1) limit
      (loop-copied (In r) i j) (copies-most i j (size r)) x h

  pub list-made : (k : JoinKind) (rs : List Regex) (parts list : List Graph) → list ≡ parts → (start : List Graph) → start ≡ [] → AddsParts k rs start parts
      → Builds (Together k WordsOf list) (most_states k (weight k states_of list)) limit x → Builds (Together k In rs) (most_states k (weight k size rs)) limit x
  list-made k rs parts list seen start none adds h =
      let all : list ≡ adds.more = seen ∙ adds.grown ∙ ap (λ l. l ++ adds.more) none in
      builds-as (Together k WordsOf adds.more) (Together k In rs) (most_states k (weight k states_of adds.more)) (most_states k (weight k size rs)) limit
      adds.words (most-more k (weight k states_of adds.more) (weight k size rs) adds.light) x
      (subst (λ l. Builds (Together k WordsOf l) (most_states k (weight k states_of l)) limit x) all h)
