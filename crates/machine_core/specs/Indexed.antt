-- A machine's edges and ends, found by their states.
use Rattle.std.specs.Prelude.{◌≡◌, ℕ, List, length}
use Rattle.machine_core.specs.Places.{IsIndex}
use Rattle.machine_core.specs.Edges.{from_of, at_of}
use Rattle.machine_core.specs.declared.edge.Edge.{Edge}
use Rattle.machine_core.specs.declared.end.End.{End}

-- one row for each state, with the places of its edges, and one with those of its ends
pub record AreIndexed (states : ℕ) (edges : List Edge) (ends : List End) (edge_places end_places : List (List ℕ)) : Type 0 where
  pub edge_rows : length edge_places ≡ states
  pub end_rows : length end_places ≡ states
  pub edges_found : IsIndex from_of edges edge_places
  pub ends_found : IsIndex at_of ends end_places
