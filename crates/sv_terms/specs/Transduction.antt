-- What a transducer relates: words that it reads, each with a word that it writes.
use Rattle.std.specs.Prelude.{◌≡◌, ℕ, ℤ, pos, negsuc, ◌+ℤ◌, ◌≤◌, ◌<◌, Bool, false, ◌&&◌, if◌then◌else◌, List, [], ◌∷◌, ◌++◌, length, drop, nat_eq, nat_le, slice_get, Contains, Option, Some, None}
use Rattle.std.specs.List.{list_any}
use Rattle.std.specs.Option.{option_map}
use Rattle.std.specs.Cmp.Lexicographic.{pointwise}
use Rattle.sv_word.specs.Words.{IsWord, greatest_character}
use Rattle.sv_terms.specs.Language.{Word}
use Rattle.sv_terms.specs.Replacement.{begins}
use Rattle.sv_terms.specs.declared.transducer.Item.{Item}
use Rattle.sv_terms.specs.declared.transducer.Item.TheVariants as item
use Rattle.sv_terms.specs.declared.transducer.TransEdge.{TransEdge}
use Rattle.sv_terms.specs.declared.transducer.Transducer.{Transducer}

-- this number, if it is a character
abbrev pub character : ℤ → Option ℕ
character (pos c) = if nat_le c greatest_character then Some c else None
character (negsuc n) = None

-- what an item writes at the character c, if it is characters
abbrev pub item_at : ℕ → Item → Option Word
item_at c (item.Text w) = Some w
item_at c (item.Shift k) = option_map (λ d. d ∷ []) (character (pos c +ℤ k))

-- one word and then another, if both are there
abbrev pub then_word : Option Word → Option Word → Option Word
then_word None w = None
then_word (Some v) None = None
then_word (Some v) (Some w) = Some (v ++ w)

-- what the items write at the character c, one after another; nothing at all where one of them would leave the characters
abbrev pub written_at : ℕ → List Item → Option Word
written_at c [] = Some []
written_at c (i ∷ is) = then_word (item_at c i) (written_at c is)

-- the edge leaves the state s, reads c and writes v
abbrev pub Transduces : ℕ → ℕ → Word → TransEdge → Type 0
Transduces s c v e = (e.from ≡ s) × (e.lo ≤ c) × (c ≤ e.hi) × (written_at c e.items ≡ Some v)

-- edges of t, one for each character, lead from the state s to another: they read a word and write a word
abbrev pub Leads : Transducer → ℕ → Word → Word → ℕ → Type 0
Leads t s [] written to = (written ≡ []) × (s ≡ to)
Leads t s (c ∷ read) written to = (e : TransEdge) × (v rest : Word)
    × Contains t.edges e × Transduces s c v e × (written ≡ v ++ rest) × Leads t e.to read rest to

-- from the state s, t reads a word to its end, and writes what edges and one end of the last state write
abbrev pub Writes : Transducer → ℕ → Word → Word → Type 0
Writes t s read written = (to : ℕ) × (path last : Word)
    × Leads t s read path to × Contains t.ends (to, last) × (written ≡ path ++ last)

-- the pairs that a transducer relates
abbrev pub Pairs : Transducer → Word → Word → Type 0
Pairs t read written = Writes t t.start read written

-- the edges at these places lead from the state s to another: they read a word and write a word
abbrev pub Follows : Transducer → ℕ → List ℕ → Word → Word → ℕ → Type 0
Follows t s [] [] written to = (written ≡ []) × (s ≡ to)
Follows t s (k ∷ places) (c ∷ read) written to = (e : TransEdge) × (v rest : Word)
    × (slice_get t.edges k ≡ Some e) × Transduces s c v e × (written ≡ v ++ rest) × Follows t e.to places read rest to
Follows t s places read written to = ⊥

-- the edges at these places are a run from the start: they read a word, and with one end of the last state they write a word
abbrev pub IsTransduction : Transducer → List ℕ → Word → Word → Type 0
IsTransduction t places read written = (to : ℕ) × (path last : Word)
    × Follows t t.start places read path to × Contains t.ends (to, last) × (written ≡ path ++ last)

-- over so many characters, no path of t from any state writes more than the bound says, with an end or without
pub record WritesWithin (t : Transducer) (bound : ℕ → ℕ) : Type 0 where
  pub paths : (s to : ℕ) (read written : Word) → s < t.states → Leads t s read written to → length written ≤ bound (length read)
  pub ended : (s : ℕ) (read written : Word) → s < t.states → Writes t s read written → length written ≤ bound (length read)

-- each text among the items is a word
abbrev pub AreItems : List Item → Type 0
AreItems [] = Unit {0}
AreItems (item.Text w ∷ is) = IsWord w × AreItems is
AreItems (item.Shift k ∷ is) = AreItems is

-- it joins two states on characters, at least one, and its texts are words
pub record IsFormedEdge (states : ℕ) (e : TransEdge) : Type 0 where
  pub from : e.from < states
  pub to : e.to < states
  pub order : e.lo ≤ e.hi
  pub high : e.hi ≤ greatest_character
  pub items : AreItems e.items

-- it stands at a state, and is a word
pub record IsFormedEnd (states : ℕ) (e : ℕ × Word) : Type 0 where
  pub at : e.0 < states
  pub word : IsWord e.1

pub record IsFormed (t : Transducer) : Type 0 where
  pub start : t.start < t.states
  pub edge : (e : TransEdge) → Contains t.edges e → IsFormedEdge t.states e
  pub ending : (e : ℕ × Word) → Contains t.ends e → IsFormedEnd t.states e

-- whether w begins with this word, if there is one, and the test holds of what follows it
abbrev pub test_behind : Option Word → (Word → Bool) → Word → Bool
test_behind None test w = false
test_behind (Some v) test w = begins v w && test (drop (length v) w)

-- `Writes` as a test
abbrev pub writes : Transducer → ℕ → Word → Word → Bool
writes t s [] w = list_any (λ e. nat_eq e.0 s && pointwise nat_eq e.1 w) t.ends
writes t s (c ∷ r) w = list_any (λ e. nat_eq e.from s && nat_le e.lo c && nat_le c e.hi && test_behind (written_at c e.items) (writes t e.to r) w) t.edges
