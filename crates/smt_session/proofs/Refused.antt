-- What stands where nothing was read and written, and what the words say.
use Rattle.std.proofs.Common.{◌≡◌, ℕ, List, [], ◌∷◌, ◌++◌, true, false, Some, refl, sym, ap, ◌∙◌, subst, append-nil, arith, inl, inr}
use Rattle.std.proofs.KnownBytes.{Consumes-nil}
use Rattle.std.proofs.lemmas.Bool.{false≢true}
use Rattle.std.specs.declared.option.Option.{Option}
use Rattle.sv_io.proofs.Histories.{delivers_nothing, takes_nothing}
use Rattle.sv_io.specs.Histories.{Input, Output, Delivers, TellsLeft}
use Rattle.std.specs.Io.KnownBytes.{Consumes}
use Rattle.generated_script.specs.declared.tally.VerdictCounts.{VerdictCounts}
use Rattle.generated_script.specs.Summary.{summary_text}
use Rattle.command_words.specs.Asked.{IsAskedLine, IsTaskOf}
use Rattle.command_words.specs.Words.{is_in_form, seed_given, size_given, file_given}
use Rattle.command_words.specs.declared.command_line.CommandLine.{CommandLine}
use Rattle.command_words.specs.declared.command_line.Task.TheVariants.{Generate}
use Rattle.smt_session.specs.declared.reply.Reply.{Reply}
use Rattle.smt_session.specs.Steps.{opened}
use Rattle.smt_session.specs.declared.status.Status.TheVariants.{Answered, NoMemory, WriteFailed}
use Rattle.smt_session.specs.CommandLine.{AskFor}
use Rattle.smt_session.specs.Generated.{IsAnsweredFront, IsGenerated, IsTrueIn, tally_of}
use Rattle.smt_session.specs.Runs.{IsLogCut, IsFront, IsPrompt, IsAnsweredSoFar}
use Rattle.smt_session.specs.Scripts.{AnswersWhole, FollowsScript, none, texts_of}
use Rattle.smt_session.proofs.Counts.{nothing_waits}
use Rattle.smt_session.proofs.Turns.{cut_here, nothing_written}
use Rattle.smt_session.proofs.Verdicts.{verdict_true}

unanswered : NoMemory ≡ Answered → ⊥
unanswered e = cc

unwritten : NoMemory ≡ WriteFailed → ⊥
unwritten e = cc

-- words are in the form, or they aren't
pub not_both : (v w : List (List ℕ)) → v ≡ w → is_in_form v ≡ true → is_in_form w ≡ false → ⊥
not_both v w is t f = false≢true (sym f ∙ sym (ap is_in_form is) ∙ t)

-- the seed and the size are those that the words ask for
pub asked : (v w : List (List ℕ)) (line : CommandLine) (s n seed size : ℕ) → v ≡ w → IsAskedLine v line → line.task ≡ Generate s n → AskFor w seed size → (s ≡ seed) × (n ≡ size)
asked v w line s n seed size is h task ask =
    let t = subst (IsTaskOf (seed_given v) (size_given v) (file_given v)) task h.task in
    let a : Some s ≡ Some seed = sym t.0 ∙ ap seed_given is ∙ ask.seed_is in
    let b : Some n ≡ Some size = sym t.1 ∙ ap size_given is ∙ ask.size_is in
    (cc, cc)

nothing_cut : (t : Output) (log : List Reply) → log ≡ [] → IsLogCut false [] t t log
nothing_cut t log e = cut_here false [] [] opened log t t (nothing_written opened log t refl e)

pub nothing_front : (l m : Input) (t : Output) (log : List Reply) → m.given ≡ l.given → log ≡ [] → IsFront l m t t log
nothing_front l m t log same e = record { ended = false; bytes = []; read = record { gave = same ∙ sym (append-nil l.given); end = λ f. absurd (false≢true f) }; cut = nothing_cut t log e }

nothing_whole : (log : List Reply) → log ≡ [] → AnswersWhole [] log
nothing_whole log e = record { items = []; session = opened; waits = nothing_waits; follows = subst (λ (x : List Reply). FollowsScript opened [] x opened) (sym e) (none opened); goes_on = refl }

pub nothing_prompt : (l m : Input) (t : Output) (log : List Reply) → m.given ≡ l.given → log ≡ [] → IsPrompt l m t t log
nothing_prompt l m t log same e = record {
  before = [];
  piece = [];
  gave = same ∙ sym (append-nil l.given);
  short = omega arith;
  read_last = omega arith;
  early = [];
  late = [];
  replies = e;
  right = nothing_whole [] refl;
  text = [];
  took = sym (append-nil t.taken);
  sent = λ all. ([], all ∙ sym (append-nil t.taken) ∙ sym (append-nil (t.taken ++ [])));
}

pub nothing_unfinished : (l m : Input) (t : Output) (log : List Reply) → m.given ≡ l.given → log ≡ [] → IsAnsweredSoFar l m t t log
nothing_unfinished l m t log same e = record {
  bytes = [];
  gave = same ∙ sym (append-nil l.given);
  right = nothing_whole log e;
  took = subst (λ (x : List Reply). Delivers t t (texts_of x)) (sym e) (delivers_nothing t);
}

-- nothing was read
pub nothing_left : (l m : Input) (x y : Option (List ℕ)) → m.given ≡ l.given → y ≡ x → (l.at_end ≡ false → m.at_end ≡ false) → TellsLeft l m x y
nothing_left l m x y same is more = record {
  bytes = [];
  gave = same ∙ sym (append-nil l.given);
  consumed = subst (λ (z : Option (List ℕ)). Consumes x z []) (sym is) (Consumes-nil x);
  end = λ old new. absurd (false≢true (sym (more old) ∙ new));
}

-- an opening gave nothing
pub left_opened : (l0 l1 l : Input) (x y z : Option (List ℕ)) → l1.given ≡ l0.given → y ≡ x → l1.at_end ≡ false → TellsLeft l1 l y z → TellsLeft l0 l x z
left_opened l0 l1 l x y z same is more h = record {
  bytes = h.bytes;
  gave = h.gave ∙ ap (λ (g : List ℕ). g ++ h.bytes) same;
  consumed = subst (λ (w : Option (List ℕ)). Consumes w z h.bytes) is h.consumed;
  end = λ old new. h.end more new;
}

-- nothing was written of the line that sums up the verdicts
pub unsummed : (script : List ℕ) (size : ℕ) (counts : VerdictCounts) (t : Output) (log : List Reply) → IsAnsweredFront script log → IsGenerated script size counts t t NoMemory log
unsummed script size counts t log front = record {
  statuses = inr (inr refl);
  answered = λ h. elim h [
    | inl a ↦ absurd (unanswered a)
    | inr a ↦ absurd (unwritten a)
  ];
  front = front;
  tally = λ h. elim h [
    | inl a ↦ absurd (unanswered a)
    | inr a ↦ absurd (unwritten a)
  ];
  took = λ a. absurd (unanswered a);
  cut = takes_nothing t (summary_text size (tally_of log));
}

pub nothing_generated : (script : List ℕ) (size : ℕ) (counts : VerdictCounts) (t : Output) (log : List Reply) → log ≡ [] → IsGenerated script size counts t t NoMemory log
nothing_generated script size counts t log e = unsummed script size counts t log (record { ended = false; front = []; more = script; is = refl; right = (nothing_cut t log e).right })

pub verdict_in : (script : List ℕ) (log early late : List Reply) (r : Reply) → IsAnsweredFront script log → log ≡ early ++ r ∷ late → IsTrueIn script early r
verdict_in script log early late r h e = record { ended = h.ended; front = h.front; more = h.more; is = h.is; verdict_is = verdict_true h.ended h.front log early late r h.right e }
