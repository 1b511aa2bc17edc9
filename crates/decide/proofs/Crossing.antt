-- Threads may share the cubes and assertions of jobs, as each of their parts.
use denote.Param.Send.{IsSync, sendable}
use denote.Param.SendFields.{declared_sync}
use Rattle.std.proofs.Crossing.{crosses}
use Rattle.sv_list.proofs.items.Items.TheSendSync as items
use Rattle.sv_list.proofs.boxed.Boxed.TheSendSync as boxed
use Rattle.sv_word.proofs.word.Word.TheSendSync as word
use Rattle.sv_terms.proofs.name.Name.TheSendSync as name
use Rattle.sv_terms.proofs.op.Op.TheSendSync as op
use Rattle.sv_terms.proofs.regex.Regex.TheLaws.TheKnot as regex
use Rattle.sv_terms.proofs.sort.Sort.TheSendSync as sort
use Rattle.sv_terms.proofs.term.Term.TheLaws.TheKnot as term
use Rattle.sv_terms.proofs.transducer.Item.TheSendSync as item
use Rattle.sv_terms.proofs.transducer.TransEdge.TheSendSync as edge
use Rattle.sv_terms.proofs.transducer.Transducer.TheSendSync as transducer
use Rattle.sv_terms.specs.contracts.term.Term as terms
use Rattle.literal_forms.specs.contracts.literal.Literal as literal
use Rattle.literal_forms.specs.contracts.literal.Cube as cube

ruleset of_terms = (
  sendable,
  crosses,
  items.the_send,
  items.the_sync,
  boxed.the_send,
  boxed.the_sync,
  word.the_send,
  word.the_sync,
  name.the_send,
  name.the_sync,
  op.the_send,
  op.the_sync,
  sort.the_send,
  sort.the_sync,
  item.the_send,
  item.the_sync,
  edge.the_send,
  edge.the_sync,
  transducer.the_send,
  transducer.the_sync,
  regex.crosses,
  term.crosses,
)

pub term-sync : IsSync terms.the_row
term-sync = search of_terms depth 30 fits 5000

literal-sync : IsSync literal.the_row
literal-sync = declared_sync literal.the_type (search (sendable, term-sync) depth 20, (search sendable depth 20, tt))

pub cube-sync : IsSync cube.the_row
cube-sync = declared_sync cube.the_type (search (sendable, crosses, items.the_sync, literal-sync) depth 20, tt)
