-- Answers may go to another thread, and threads may share them, as each of their parts may.
use denote.Param.Send.{IsSend, IsSync, sendable}
use denote.Param.SendFields.{declared_send, declared_sync, variants_send, variants_sync}
use Rattle.std.proofs.Crossing.{crosses}
use Rattle.sv_list.proofs.items.Items.TheSendSync as items
use Rattle.sv_word.proofs.word.Word.TheSendSync as word
use Rattle.sv_linear.proofs.row.Row.TheSendSync as row
use Rattle.machine_core.proofs.explicit.Explicit.TheSendSync as explicit
use Rattle.farkas_check.proofs.system.System.TheSendSync as system
use Rattle.farkas_check.proofs.tree.Tree.TheLaws.TheKnot as tree
use Rattle.sv_terms.proofs.term.Term.TheLaws.TheKnot as term
use Rattle.sv_list.proofs.boxed.Boxed.TheSendSync as boxed
use Rattle.sv_terms.proofs.model.Model.TheSendSync as model
use Rattle.sv_terms.proofs.name.Name.TheSendSync as name
use Rattle.sv_terms.proofs.op.Op.TheSendSync as op
use Rattle.sv_terms.proofs.regex.Regex.TheLaws.TheKnot as regex
use Rattle.sv_terms.proofs.sort.Sort.TheSendSync as sort
use Rattle.sv_terms.proofs.transducer.Item.TheSendSync as item
use Rattle.sv_terms.proofs.transducer.TransEdge.TheSendSync as edge
use Rattle.sv_terms.proofs.transducer.Transducer.TheSendSync as transducer
use Rattle.sv_terms.specs.contracts.term.Term as terms
use Rattle.lia_branch.specs.contracts.evidence.Evidence as evidence
use Rattle.leaf_solve.specs.contracts.long_shown.Beyond as beyond
use Rattle.leaf_solve.specs.contracts.long_shown.LongShown as shown
use Rattle.literal_forms.specs.contracts.literal.Literal as literal
use Rattle.cube_search.specs.contracts.answer.CubeAnswer as answer
use Rattle.cube_search.specs.contracts.reason.OpenReason as reason
use Rattle.cube_search.specs.contracts.reason.Shown as outside

ruleset parts = (
  sendable,
  crosses,
  items.the_send,
  items.the_sync,
  word.the_send,
  word.the_sync,
  row.the_send,
  row.the_sync,
  explicit.the_send,
  explicit.the_sync,
  system.the_send,
  system.the_sync,
  tree.crosses,
  model.the_send,
  model.the_sync,
)

ruleset of_terms = (
  sendable,
  crosses,
  items.the_send,
  items.the_sync,
  boxed.the_send,
  boxed.the_sync,
  word.the_send,
  word.the_sync,
  name.the_send,
  name.the_sync,
  op.the_send,
  op.the_sync,
  sort.the_send,
  sort.the_sync,
  item.the_send,
  item.the_sync,
  edge.the_send,
  edge.the_sync,
  transducer.the_send,
  transducer.the_sync,
  regex.crosses,
  term.crosses,
)

evidence-send : IsSend evidence.the_row
evidence-send = search parts depth 20

evidence-sync : IsSync evidence.the_row
evidence-sync = search parts depth 20

term-send : IsSend terms.the_row
term-send = search of_terms depth 30 fits 5000

literal-send : IsSend literal.the_row
literal-send = declared_send literal.the_type (search (sendable, term-send) depth 20, (search sendable depth 20, tt))

beyond-send : IsSend beyond.the_row
beyond-send = variants_send beyond.enum ((search parts depth 20, tt), ((search parts depth 20, (evidence-send, tt)), tt))

shown-send : IsSend shown.the_row
shown-send = variants_send shown.enum ((search parts depth 20, tt), ((search parts depth 20, (search parts depth 20, (beyond-send, tt))), tt))

outside-send : IsSend outside.the_row
outside-send = variants_send outside.enum ((literal-send, tt), ((search parts depth 20, tt), ((search parts depth 20, tt), ((search (sendable, term-send) depth 20, tt), tt))))

pub reason-send : IsSend reason.the_row
reason-send = variants_send reason.enum ((outside-send, tt), ((search parts depth 20, tt), ((search parts depth 20, tt), ((search parts depth 20, tt), ((search parts depth 20, tt), ((search parts depth 20, (shown-send, tt)), ((search parts depth 20, (search parts depth 20, (evidence-send, tt))), tt)))))))

pub answer-send : IsSend answer.the_row
answer-send = variants_send answer.enum ((search parts depth 20, tt), ((search parts depth 20, tt), ((reason-send, tt), tt)))

term-sync : IsSync terms.the_row
term-sync = search of_terms depth 30 fits 5000

literal-sync : IsSync literal.the_row
literal-sync = declared_sync literal.the_type (search (sendable, term-sync) depth 20, (search sendable depth 20, tt))

beyond-sync : IsSync beyond.the_row
beyond-sync = variants_sync beyond.enum ((search parts depth 20, tt), ((search parts depth 20, (evidence-sync, tt)), tt))

shown-sync : IsSync shown.the_row
shown-sync = variants_sync shown.enum ((search parts depth 20, tt), ((search parts depth 20, (search parts depth 20, (beyond-sync, tt))), tt))

outside-sync : IsSync outside.the_row
outside-sync = variants_sync outside.enum ((literal-sync, tt), ((search parts depth 20, tt), ((search parts depth 20, tt), ((search (sendable, term-sync) depth 20, tt), tt))))

pub reason-sync : IsSync reason.the_row
reason-sync = variants_sync reason.enum ((outside-sync, tt), ((search parts depth 20, tt), ((search parts depth 20, tt), ((search parts depth 20, tt), ((search parts depth 20, tt), ((search parts depth 20, (shown-sync, tt)), ((search parts depth 20, (search parts depth 20, (evidence-sync, tt))), tt)))))))

pub answer-sync : IsSync answer.the_row
answer-sync = variants_sync answer.enum ((search parts depth 20, tt), ((search parts depth 20, tt), ((reason-sync, tt), tt)))
