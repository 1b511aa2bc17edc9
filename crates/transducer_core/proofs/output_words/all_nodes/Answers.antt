use Rattle.std.proofs.Common.{◌≡◌, ◌<◌, ◌-◌, ◌↔◌, ◌∷◌, suc, length, get_or, drop, drop-cons, ap, sym, ◌∙◌, subst, arith}
use Rattle.sv_terms.specs.Transduction.{Writes}
use Rattle.transducer_core.specs.Outputs.{EndsBy, MakesPlaces, OverEdges}
use Rattle.transducer_core.proofs.OutputLemmas.{edges_write, ends_write, output_of, places_fresh, places_told}
use Rattle.transducer_core.proofs.output_words.all_nodes.Goals as goal

pub loop-i-init : goal.loop-i-init
loop-i-init c =
    let t = c.args.transducer.now in
    let read = c.args.read.now in
    places_fresh c.args.nodes.now c.end_places.new.nodes t.states c.in_ok-places.places (EndsBy t.ends) (λ s w. Writes t s (drop (length read) read) w) c.in_ok-places.ensures (ends_write t read)

pub edge_places-requires-clause-to : goal.edge_places-requires-clause-to
edge_places-requires-clause-to c e has =
    let a = (c.requires.formed.edge e has).to in
    let m = ap length c.as_slice.ensures ∙ c.loop-i.invariant.many in
    omega (arith, a, m)

pub loop-i-preserved : goal.loop-i-preserved
loop-i-preserved c =
    let t = c.args.transducer.now in
    let read = c.args.read.now in
    let i = c.loop-i.i in
    let x = get_or read (i - 1) 0 in
    let ms = c.loop-i.nodes in
    let up : suc (c.loop-i.i - 1) ≡ c.loop-i.i = omega arith in
    let low : c.loop-i.i - 1 < length c.args.read.now = omega arith in
    let d = drop-cons read (i - 1) 0 low ∙ ap (λ k. get_or read (i - 1) 0 ∷ drop k read) up in
    let p = subst (λ ps. MakesPlaces ms c.edge_places.new.nodes t.states c.in_ok-places-2.places (λ s w. OverEdges ms ps s (get_or read (i - 1) 0) t.edges w)) c.as_slice.ensures c.in_ok-places-2.ensures in
    places_told c.end_places.new.nodes ms c.edge_places.new.nodes t.states c.in_ok-places-2.places (λ s w. OverEdges ms c.loop-i.places s (get_or read (i - 1) 0) t.edges w) (λ s w. Writes t s (drop (i - 1) read) w) c.loop-i.invariant.grown p
    (λ s w. subst (λ r. OverEdges ms c.loop-i.places s (get_or read (i - 1) 0) t.edges w ↔ Writes t s r w) (sym d)
    (edges_write t c.end_places.new.nodes ms c.loop-i.places (drop i read) s (get_or read (i - 1) 0) c.loop-i.invariant (λ e has. (c.requires.formed.edge e has).to) w))

pub returns : goal.returns
returns c =
    let t = c.args.transducer.now in
    let none : c.loop-i.i ≡ 0 = omega arith in
    let q = subst (λ ps. MakesPlaces c.end_places.new.nodes c.loop-i.nodes t.states ps (λ s w. Writes t s (drop c.loop-i.i c.args.read.now) w)) (sym c.as_slice-2.ensures) c.loop-i.invariant in
    let p = subst (λ k. MakesPlaces c.end_places.new.nodes c.loop-i.nodes t.states c.as_slice-2.result.now (λ s w. Writes t s (drop k c.args.read.now) w)) none q in
    output_of t c.args.read.now c.end_places.new.nodes c.loop-i.nodes c.as_slice-2.result.now p c.requires.formed.start
