-- What is described is formed.
use Rattle.std.proofs.Common.{◌≡◌, refl, ap, ◌∙◌, subst, ℕ, suc, ◌+◌, Bool, true, false, ◌&&◌, IsTrue, nat_le, cond, List, [], ◌∷◌, ◌++◌, length, Option, Some, None, Result, Ok, Err, arith}
use Rattle.std.specs.Prelude.{nat_lt, position}
use Rattle.std.specs.List.{list_all, position_or_len}
use Rattle.std.proofs.lemmas.Bool.{and_from, and_parts}
use Rattle.sv_word.specs.Words.{greatest_character}
use Rattle.sv_terms.specs.Matches.{is_word}
use Rattle.sv_terms.specs.TransducerSizes.{are_items, is_formed_edge, is_formed_end, is_formed}
use Rattle.sv_terms.specs.declared.transducer.Item.{Item}
use Rattle.sv_terms.specs.declared.transducer.Item.TheVariants as item
use Rattle.sv_terms.specs.declared.transducer.TransEdge.{TransEdge}
use Rattle.sv_terms.specs.declared.transducer.Transducer.{Transducer}
use Rattle.sv_terms.specs.declared.limits.TheConstants.{MOST_TRANSDUCER_STATES, MOST_TRANSDUCER_EDGES, MOST_TRANSDUCER_ENDS}
use Rattle.smt_names.specs.declared.check_fault.CheckFault.{CheckFault}
use Rattle.smt_names.specs.declared.check_fault.CheckFault.TheVariants as fault
use Rattle.smt_names.specs.Faults.{and_then, ◌>>◌, made_of, refuse, or_fault}
use Rattle.smt_names.specs.Form.{Form, Forms, end, ◌⨾◌, count, two}
use Rattle.smt_names.specs.Giving.{Gives, Maybe, need-gives, refuse-gives, after-gives, or-gives, then-gives}
use Rattle.smt_names.specs.Signature.{Name, same_name, stands_in}
use Rattle.smt_names.specs.Tokens.{symbol, digits, value, literal_text, literal_word, listed}
use Rattle.transducer_form.specs.Written.{EdgeForm, edge_form, DescriptionForm}
use Rattle.transducer_form.specs.Descriptions.{state_behind, states_behind, state_at, word_at, one_character, character_at, shifted, shifted_down, shift_by, item_by, item_of, list_behind, each_joined, each, items_of, edge_between, edge_by, edge_of, joined_if, end_by, end_of, at_most, described_over, described}
use Rattle.transducer_form.specs.LiteralWords.{MayBeWord, literal-word}

-- whether a test holds of each that is listed
abbrev AllPass : {A : Type 0} → (A → Bool) → List A → Type 0
AllPass p xs = IsTrue (list_all p xs)

module _ {A : Type 0} (p : A → Bool) where
  all-append : (xs ys : List A) → AllPass p xs → AllPass p ys → AllPass p (xs ++ ys)
  all-append [] ys h g = g
  all-append (x ∷ xs) ys h g = let k = and_parts (p x) (list_all p xs) h in and_from (p x) (list_all p (xs ++ ys)) k.0 (all-append xs ys k.1 g)

  behind-pass : (xs : List A) (r : Result (List A) CheckFault) → AllPass p xs → Gives (AllPass p) r → Gives (AllPass p) (list_behind xs r)
  behind-pass xs (Ok ys) h g = all-append xs ys h g
  behind-pass xs (Err f) h g = tt

  joined-pass : (one : Form → Result (List A) CheckFault) → ((f : Form) → Gives (AllPass p) (one f)) → (fs : Forms) → Gives (AllPass p) (each_joined one fs)
  joined-pass one h end = refl
  joined-pass one h (f ⨾ fs) = then-gives (AllPass p) (AllPass p) (λ xs. list_behind xs (each_joined one fs)) (one f) (h f) (λ xs a. behind-pass xs (each_joined one fs) a (joined-pass one h fs))

  one-pass : (r : Result A CheckFault) → Gives (λ x. IsTrue (p x)) r → Gives (AllPass p) (made_of (λ x. x ∷ []) r)
  one-pass (Ok x) h = and_from (p x) true h refl
  one-pass (Err f) h = tt

  each-pass : (one : Form → Result A CheckFault) → ((f : Form) → Gives (λ x. IsTrue (p x)) (one f)) → (fs : Forms) → Gives (AllPass p) (each one fs)
  each-pass one h fs = joined-pass (λ f. made_of (λ x. x ∷ []) (one f)) (λ f. one-pass (one f) (h f)) fs

-- as many names as states
many : (before : List Name) (n : Name) → length (before ++ n ∷ []) ≡ suc (length before)
many [] n = refl
many (b ∷ before) n = ap suc (many before n)

add-suc : (m n : ℕ) → suc m + n ≡ m + suc n
add-suc m n = omega arith

abbrev pub HasMany : ℕ → List Name → Type 0
HasMany n names = length names ≡ n

count-on : (before : List Name) (n : Name) (k : ℕ) (r : Result (List Name) CheckFault) → Gives (HasMany (length (before ++ n ∷ []) + k)) r → Gives (HasMany (length before + suc k)) r
count-on before n k (Ok names) h = h ∙ ap (λ m. m + k) (many before n) ∙ add-suc (length before) k
count-on before n k (Err e) h = tt

names-step : (before : List Name) (fs : Forms) (o : Option Name) → ((n : Name) → Gives (HasMany (length (before ++ n ∷ []) + count fs)) (states_behind (before ++ n ∷ []) fs)) → Gives (HasMany (length before + suc (count fs))) (and_then (λ more. states_behind more fs) (state_behind before o))
names-step before fs None rest = tt
names-step before fs (Some n) rest = go (stands_in before n)
  where
    go : (b : Bool) → Gives (HasMany (length before + suc (count fs))) (and_then (λ more. states_behind more fs) (refuse b fault.Transducer >> Ok (before ++ n ∷ [])))
    go true = tt
    go false = count-on before n (count fs) (states_behind (before ++ n ∷ []) fs) (rest n)

add-zero : (n : ℕ) → n ≡ n + 0
add-zero n = omega arith

pub zero-add : (n : ℕ) → 0 + n ≡ n
zero-add n = omega arith

pub names-many : (before : List Name) (fs : Forms) → Gives (HasMany (length before + count fs)) (states_behind before fs)
names-many before end = add-zero (length before)
names-many before (f ⨾ fs) = names-step before fs (symbol f) (λ n. names-many (before ++ n ∷ []) fs)

choose : {A : Type 0} (P : A → Type 0) (b : Bool) (x y : A) → (b ≡ true → P x) → P y → P (cond b x y)
choose P true x y h g = h refl
choose P false x y h g = g

-- over so many states
module _ (states : List Name) (n : ℕ) (are : length states ≡ n) where
  abbrev Below : ℕ → Type 0
  Below k = IsTrue (nat_lt k n)

  state-below : (o : Option Name) → Gives Below (state_at states o)
  state-below None = tt
  state-below (Some m) = or-gives Below fault.Transducer (position (same_name m) states)
      (choose (Maybe Below) (nat_lt (position_or_len (same_name m) states) (length states)) (Some (position_or_len (same_name m) states)) None
      (λ e. subst (λ k. IsTrue (nat_lt (position_or_len (same_name m) states) k)) are e) tt)

  abbrev Worded : List ℕ → Type 0
  Worded w = IsTrue (is_word w)

  word-gives : (o : Option (List ℕ)) → Gives Worded (word_at o)
  word-gives None = tt
  word-gives (Some text) = or-gives Worded fault.Shape (literal_word text) (go (literal_word text) (literal-word text))
    where
      go : (o : Option (List ℕ)) → MayBeWord o → Maybe Worded o
      go (Some w) h = h
      go None h = tt

  abbrev Character : ℕ → Type 0
  Character c = IsTrue (nat_le c greatest_character)

  one-gives : (w : List ℕ) → Worded w → Gives Character (one_character w)
  one-gives [] h = tt
  one-gives (c ∷ []) h = (and_parts (nat_le c greatest_character) true h).0
  one-gives (c ∷ d ∷ w) h = tt

  character-gives : (o : Option (List ℕ)) → Gives Character (character_at o)
  character-gives o = then-gives Worded Character one_character (word_at o) (word-gives o) one-gives

  abbrev is_worded : Item → Bool
  is_worded (item.Text w) = is_word w
  is_worded (item.Shift k) = true

  abbrev Passes : Item → Type 0
  Passes i = IsTrue (is_worded i)

  shifted-gives : (down : Bool) (ds : List ℕ) → Gives Passes (shifted down ds)
  shifted-gives down ds = refuse-gives Passes (nat_lt greatest_character (value ds)) fault.Transducer _ (λ _. refl)

  down-gives : (o : Option (Form × Form)) → Gives Passes (shifted_down o)
  down-gives None = tt
  down-gives (Some p) = go (digits p.1)
    where
      go : (o : Option (List ℕ)) → Gives Passes (and_then (shifted true) (or_fault fault.Shape o))
      go (Some ds) = shifted-gives true ds
      go None = tt

  shift-gives : (o : Option (List ℕ)) (q : Option (Form × Form)) → Gives Passes (shift_by o q)
  shift-gives (Some ds) q = shifted-gives false ds
  shift-gives None q = down-gives q

  item-by-gives : (o : Option (List ℕ)) (q : Option (Form × Form)) → Gives Passes (item_by o q)
  item-by-gives (Some text) q = then-gives Worded Passes (λ w. Ok (item.Text w)) (word_at (Some text)) (word-gives (Some text)) (λ w h. h)
  item-by-gives None (Some p) = shift-gives (digits p.1) (two p.1)
  item-by-gives None None = refl

  item-gives : (f : Form) → Gives Passes (item_of f)
  item-gives f = item-by-gives (literal_text f) (two f)

  items-worded : (is : List Item) → AllPass is_worded is → IsTrue (are_items is)
  items-worded [] h = refl
  items-worded (item.Text w ∷ is) h = let k = and_parts (is_word w) (list_all is_worded is) h in and_from (is_word w) (are_items is) k.0 (items-worded is k.1)
  items-worded (item.Shift k ∷ is) h = items-worded is h

  abbrev Edge : TransEdge → Type 0
  Edge e = IsTrue (is_formed_edge n e)

  between-gives : (from low high to : ℕ) (r : Result (List Item) CheckFault) → Below from → Below to → Character high → Gives (AllPass is_worded) r → Gives Edge (edge_between from low high to r)
  between-gives from low high to r f t c g = need-gives Edge (nat_le low high) fault.Transducer _ (λ o.
      then-gives (AllPass is_worded) Edge _ r g (λ is h.
      and_from (nat_lt from n) (nat_lt to n && (nat_le low high && (nat_le high greatest_character && are_items is))) f
      (and_from (nat_lt to n) (nat_le low high && (nat_le high greatest_character && are_items is)) t
      (and_from (nat_le low high) (nat_le high greatest_character && are_items is) o
      (and_from (nat_le high greatest_character) (are_items is) c (items-worded is h))))))

  edge-gives : (o : Option EdgeForm) → Gives Edge (edge_by states o)
  edge-gives None = tt
  edge-gives (Some e) =
      then-gives Below Edge _ (state_at states (symbol e.from)) (state-below (symbol e.from)) (λ from f.
      then-gives Character Edge _ (character_at (literal_text e.low)) (character-gives (literal_text e.low)) (λ low _.
      then-gives Character Edge _ (character_at (literal_text e.high)) (character-gives (literal_text e.high)) (λ high c.
      then-gives Below Edge _ (state_at states (symbol e.to)) (state-below (symbol e.to)) (λ to t.
      between-gives from low high to (items_of e.items) f t c (each-pass is_worded item_of item-gives e.items)))))

  abbrev End : ℕ × List ℕ → Type 0
  End e = IsTrue (is_formed_end n e)

  joined-gives : (o : Option Forms) → Gives Worded (joined_if o)
  joined-gives None = tt
  joined-gives (Some fs) = joined-pass (λ c. nat_le c greatest_character) (λ f. word_at (literal_text f)) (λ f. word-gives (literal_text f)) fs

  end-gives : (o : Option (Form × Form)) → Gives End (end_by states o)
  end-gives None = tt
  end-gives (Some p) =
      then-gives Below End _ (state_at states (symbol p.0)) (state-below (symbol p.0)) (λ at b.
      then-gives Worded End _ (joined_if (listed p.1)) (joined-gives (listed p.1)) (λ w h. and_from (nat_lt at n) (is_word w) b h))

abbrev Formed : Transducer → Type 0
Formed t = IsTrue (is_formed t)

over-gives : (d : DescriptionForm) (states : List Name) → length states ≡ count d.states → Gives Formed (described_over d states)
over-gives d states are =
    then-gives (λ k. IsTrue (nat_lt k (count d.states))) Formed _ (state_at states (symbol d.start)) (state-below states (count d.states) are (symbol d.start)) (λ start s.
    then-gives (AllPass (is_formed_edge (count d.states))) Formed _ (each (edge_of states) d.edges) (each-pass (is_formed_edge (count d.states)) (edge_of states) (λ f. edge-gives states (count d.states) are (edge_form f)) d.edges) (λ edges e.
    then-gives (AllPass (is_formed_end (count d.states))) Formed _ (each (end_of states) d.ends) (each-pass (is_formed_end (count d.states)) (end_of states) (λ f. end-gives states (count d.states) are (two f)) d.ends) (λ ends n.
    and_from (nat_lt start (count d.states)) (list_all (is_formed_edge (count d.states)) edges && list_all (is_formed_end (count d.states)) ends) s
    (and_from (list_all (is_formed_edge (count d.states)) edges) (list_all (is_formed_end (count d.states)) ends) e n))))

pub described-gives : (d : DescriptionForm) → Gives Formed (described d)
described-gives d =
    after-gives Formed (at_most MOST_TRANSDUCER_STATES (count d.states)) _ (after-gives Formed (at_most MOST_TRANSDUCER_EDGES (count d.edges)) _ (after-gives Formed (at_most MOST_TRANSDUCER_ENDS (count d.ends)) _
    (then-gives (HasMany (0 + count d.states)) Formed (described_over d) (states_behind [] d.states) (names-many [] d.states) (λ names are. over-gives d names (are ∙ zero-add (count d.states))))))
