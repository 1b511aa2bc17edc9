pub mod BackwardLemmas
pub mod LeafSolveRows
pub mod ParikhFlowCounts
