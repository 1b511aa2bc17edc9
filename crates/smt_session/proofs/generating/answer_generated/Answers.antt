use Rattle.std.proofs.Common.{List, sym, subst}
use Rattle.generated_script.specs.Blocks.{script}
use Rattle.generated_script.specs.Summary.{summary_text}
use Rattle.generated_verdicts.specs.Table.{table_of}
use Rattle.sv_io.specs.Histories.{Sends}
use Rattle.smt_session.specs.declared.reply.Reply.{Reply}
use Rattle.smt_session.specs.declared.status.Status.{Status}
use Rattle.smt_session.specs.Generated.{IsGenerated, StopsIn}
use Rattle.smt_session.proofs.GeneratedWhole.{tally_is}
use Rattle.smt_session.proofs.Refused.{unsummed}
use Rattle.smt_session.proofs.Scripted.{answered-whole, whole-front}
use Rattle.smt_session.proofs.generating.answer_generated.Goals as goal

pub returns-in-Answered-clause-generated : goal.returns-in-Answered-clause-generated
returns-in-Answered-clause-generated g c =
    let text = script c.args.seed c.args.size in
    let stops = subst (λ (l : List Reply). StopsIn text l c.answer_blocks-status.result) (sym c.into_log-log.ensures) c.answer_blocks-status.ensures in
    let whole = answered-whole text c.into_log-log.result c.answer_blocks-status.result c.in-Answered.is stops in
    let tally = tally_is c.args.seed c.args.size c.into_log-log.result c.ranges.size.fits whole in
    record {
      statuses = c.write_summary-status.ensures.statuses;
      answered = λ h. whole;
      front = whole-front text c.into_log-log.result whole;
      tally = λ h. tally;
      took = λ e. subst (λ counts. Sends (g.K.Sink.output c.args.sink.now) (g.K.Sink.output c.write_summary-status.new.sink) (summary_text c.args.size counts)) tally (c.write_summary-status.ensures.whole e);
      cut = c.write_summary-status.ensures.front;
    }

pub returns-in-NoMemory-clause-generated : goal.returns-in-NoMemory-clause-generated
returns-in-NoMemory-clause-generated g c =
    let text = script c.args.seed c.args.size in
    let log = c.into_log-log.result in
    let taken = g.K.Sink.output c.args.sink.now in
    let stops = subst (λ (l : List Reply). StopsIn text l c.answer_blocks-status.result) (sym c.into_log-log.ensures) c.answer_blocks-status.ensures in
    subst (λ (s : Status). IsGenerated text c.args.size (table_of c.args.seed c.args.size) taken taken s log) (sym c.in-NoMemory.is) (unsummed text c.args.size (table_of c.args.seed c.args.size) taken log (subst (StopsIn text log) c.in-NoMemory.is stops))
