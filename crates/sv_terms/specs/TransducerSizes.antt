-- How much a transducer writes in one step, and a test of whether it is formed.
use Rattle.std.specs.Prelude.{ℕ, suc, ◌+◌, max, Bool, true, ◌&&◌, List, [], ◌∷◌, length, nat_le, nat_lt}
use Rattle.std.specs.List.{list_all}
use Rattle.sv_word.specs.Words.{greatest_character}
use Rattle.sv_terms.specs.Language.{Word}
use Rattle.sv_terms.specs.Matches.{is_word}
use Rattle.sv_terms.specs.Parts.{every_part}
use Rattle.sv_terms.specs.declared.term.Term.{Term}
use Rattle.sv_terms.specs.declared.transducer.Item.{Item}
use Rattle.sv_terms.specs.declared.transducer.Item.TheVariants as item
use Rattle.sv_terms.specs.declared.transducer.TransEdge.{TransEdge}
use Rattle.sv_terms.specs.declared.transducer.Transducer.{Transducer}

-- how many characters the items write
abbrev pub items_size : List Item → ℕ
items_size [] = 0
items_size (item.Text w ∷ is) = length w + items_size is
items_size (item.Shift k ∷ is) = suc (items_size is)

-- the most characters that an edge writes
abbrev pub edges_most : List TransEdge → ℕ
edges_most [] = 0
edges_most (e ∷ es) = max (items_size e.items) (edges_most es)

-- the most characters that an end writes
abbrev pub ends_most : List (ℕ × Word) → ℕ
ends_most [] = 0
ends_most (e ∷ es) = max (length e.1) (ends_most es)

-- whether each text among the items is a word
abbrev pub are_items : List Item → Bool
are_items [] = true
are_items (item.Text w ∷ is) = is_word w && are_items is
are_items (item.Shift k ∷ is) = are_items is

abbrev pub is_formed_edge : ℕ → TransEdge → Bool
is_formed_edge states e = nat_lt e.from states && (nat_lt e.to states && (nat_le e.lo e.hi && (nat_le e.hi greatest_character && are_items e.items)))

abbrev pub is_formed_end : ℕ → ℕ × Word → Bool
is_formed_end states e = nat_lt e.0 states && is_word e.1

-- `IsFormed` as a test
abbrev pub is_formed : Transducer → Bool
is_formed t = nat_lt t.start t.states && (list_all (is_formed_edge t.states) t.edges && list_all (is_formed_end t.states) t.ends)

-- whether each transducer of a term is formed
abbrev pub has_formed : Term → Bool
has_formed = every_part (λ name s. true) is_formed
