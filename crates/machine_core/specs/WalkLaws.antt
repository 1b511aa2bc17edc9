-- Laws of walks, and of runs along them.
use Rattle.std.specs.Prelude.{◌≡◌, ℕ, suc, List, [], ◌∷◌, length}
use Rattle.std.proofs.Common.{refl, sym, ap, ◌∙◌, subst}
use Rattle.machine_core.specs.declared.edge.Edge.{Edge}
use Rattle.machine_core.specs.declared.graph.Graph.{Graph}
use Rattle.machine_core.specs.declared.run.Run.{Run}
use Rattle.machine_core.specs.Edges.{EndsAt, StepsBy, IsWalk}
use Rattle.machine_core.specs.Graphs.{IsRunOf}
use Rattle.sv_list.specs.Lists.{slice_get-contains}
use Rattle.machine_core.specs.Runs.{IsPath}
use Rattle.machine_core.specs.Walks.{LeadsAlong, IsRunAlong}

-- a walk stops in one state
pub walk_stop : (edges : List Edge) (s : ℕ) (ps : List ℕ) (t u : ℕ) → IsWalk edges s ps t → IsWalk edges s ps u → t ≡ u
walk_stop edges s [] t u a b = sym a ∙ b
walk_stop edges s (p ∷ ps) t u a b =
    let same : b.0 ≡ a.0 = (let x = a.1 in let y = b.1 in cc) in
    walk_stop edges a.0.to ps t u a.3 (subst (λ (d : Edge). IsWalk edges d.to ps u) same b.3)

-- edges that lead along are a walk, and a path of as many characters
pub leads_parts : (edges : List Edge) (s : ℕ) (ps us word : List ℕ) (costs : List (List ℕ)) (t : ℕ) → LeadsAlong edges s ps us word costs t
    → IsWalk edges s ps t × IsPath (StepsBy edges) s us word costs t × (length word ≡ length ps)
leads_parts edges s [] [] [] [] t l = (l, l, refl)
leads_parts edges s [] [] [] (x ∷ costs) t l = absurd l
leads_parts edges s [] [] (x ∷ word) costs t l = absurd l
leads_parts edges s [] (x ∷ us) word costs t l = absurd l
leads_parts edges s (p ∷ ps) [] word costs t l = absurd l
leads_parts edges s (p ∷ ps) (x ∷ us) [] costs t l = absurd l
leads_parts edges s (p ∷ ps) (x ∷ us) (y ∷ word) [] t l = absurd l
leads_parts edges s (p ∷ ps) (x ∷ us) (y ∷ word) (z ∷ costs) t l =
    let at = slice_get-contains edges p l.0 l.1 in
    let rest = leads_parts edges x ps us word costs t l.4 in
    ((l.0, l.1, l.2, subst (λ n. IsWalk edges n ps t) (sym l.3.2) rest.0), ((at.0, l.0, at.1, at.2, (l.2, l.3)), rest.1), ap suc rest.2)

-- a run along edges is a walk
pub along_walk : (edges : List Edge) (places : List ℕ) (run : Run ℕ) (a : IsRunAlong edges places run) → IsWalk edges 0 places a.stop
along_walk edges places run a = (leads_parts edges 0 places a.after run.word run.costs a.stop a.leads).0

-- which stops in one state
pub along_stop : (edges : List Edge) (places : List ℕ) (run : Run ℕ) (t : ℕ) (a : IsRunAlong edges places run) → IsWalk edges 0 places t → a.stop ≡ t
along_stop edges places run t a w = walk_stop edges 0 places a.stop t (along_walk edges places run a) w

-- it has as many characters as there are edges
pub along_size : (edges : List Edge) (places : List ℕ) (run : Run ℕ) → IsRunAlong edges places run → length run.word ≡ length places
along_size edges places run a = (leads_parts edges 0 places a.after run.word run.costs a.stop a.leads).2

-- and is a run of the machine where that has an end there
pub along_run : (m : Graph) (places : List ℕ) (run : Run ℕ) (a : IsRunAlong m.edges places run) → EndsAt m.ends a.stop run.last → IsRunOf m run
along_run m places run a end = record {
  after = a.after;
  stop = a.stop;
  states = a.states;
  path = (leads_parts m.edges 0 places a.after run.word run.costs a.stop a.leads).1;
  last = end;
}
