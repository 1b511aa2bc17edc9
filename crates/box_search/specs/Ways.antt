-- A run of all machines in turn that is still being made.
use Rattle.std.specs.Prelude.{◌≡◌, ◌∷◌, List, length}
use Rattle.sv_linear.specs.declared.row.Row.{Row}
use Rattle.machine_core.specs.Costs.{zeros}
use Rattle.machine_core.specs.Runs.{IsPath}
use Rattle.machine_core.specs.declared.graph.Graph.{Graph}
use Rattle.machine_core.specs.declared.run.Run.{Run}
use Rattle.search_hits.specs.declared.region.Region.{Region}
use Rattle.box_layers.specs.declared.layer.Layer.{Layer}
use Rattle.box_layers.specs.Layers.{layer, uppers_of, AreGoodTotals, LayerStep, IsLayerOf}

-- the run leads from the first layer to the one where it stops, whatever its last cost
pub record IsLayerWay (machines : List Graph) (rows : List Row) (region : Region) (run : Run Layer) : Type 0 where
  pub after : List Layer
  pub stop : Layer
  pub states : run.states ≡ layer 0 0 (zeros (length region.registers)) ∷ after
  pub path : IsPath (LayerStep machines (uppers_of region) (AreGoodTotals rows region)) (layer 0 0 (zeros (length region.registers))) after run.word run.costs stop
  pub is : IsLayerOf machines (uppers_of region) (AreGoodTotals rows region) stop
