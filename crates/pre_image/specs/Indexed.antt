-- A transducer's edges and ends, found by their states.
use Rattle.std.specs.Prelude.{◌≡◌, ℕ, List, length}
use Rattle.machine_core.specs.Places.{IsIndex}
use Rattle.sv_terms.specs.declared.transducer.TransEdge.{TransEdge}
use Rattle.sv_terms.specs.declared.transducer.Transducer.{Transducer}

-- the state that an edge leaves
abbrev pub edge_source : TransEdge → ℕ
edge_source e = e.from

-- the state of an end
abbrev pub end_state : ℕ × List ℕ → ℕ
end_state e = e.0

-- one row for each state, with the places of its edges, and one with those of its ends
pub record IsIndexed (t : Transducer) (edge_places end_places : List (List ℕ)) : Type 0 where
  pub edge_rows : length edge_places ≡ t.states
  pub end_rows : length end_places ≡ t.states
  pub edges_found : IsIndex edge_source t.edges edge_places
  pub ends_found : IsIndex end_state t.ends end_places
