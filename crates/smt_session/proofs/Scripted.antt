-- What was answered of a generated script, block by block.
use Rattle.std.proofs.Common.{◌≡◌, ℕ, suc, List, [], ◌++◌, Bool, true, false, refl, sym, subst, inl, inr, ◌⊎◌, ap, ◌∙◌, append_assoc}
use Rattle.sv_io.specs.Histories.{Output}
use Rattle.smt_session.specs.declared.reply.Reply.{Reply}
use Rattle.generated_script.specs.Blocks.{block, blocks}
use Rattle.generated_script.specs.Draws.{behind}
use Rattle.smt_session.specs.Generated.{IsAnsweredFront, IsAnsweredWhole, StopsIn}
use Rattle.smt_session.specs.Runs.{IsLogCut}
use Rattle.smt_session.specs.Scripts.{all}
use Rattle.smt_session.specs.Awaiting.{AwaitsItem, Stops}
use Rattle.smt_session.specs.declared.answering.Answering.{Answering}
use Rattle.smt_session.specs.declared.status.Status.{Status}
use Rattle.smt_session.specs.declared.status.Status.TheVariants.{Answered, ErrorAnswered, WrongWords, ReadFailed, WriteFailed, NoMemory}
use Rattle.smt_session.proofs.Turns.{cut_here}

-- the next block goes over from what is left to what was fed
pub next-fed : (script bytes piece : List ℕ) (s n k : ℕ) → n ≡ suc k → piece ≡ block s → script ≡ bytes ++ blocks s n → script ≡ (bytes ++ piece) ++ blocks (behind s) k
next-fed script bytes piece s n k is text e =
    e ∙ ap (λ m. bytes ++ blocks s m) is ∙ sym (append_assoc bytes (block s) (blocks (behind s) k)) ∙ ap (λ (b : List ℕ). (bytes ++ b) ++ blocks (behind s) k) (sym text)

-- nothing is left
pub all-fed : (script bytes : List ℕ) (s n : ℕ) → n ≡ 0 → script ≡ bytes ++ blocks s n → script ≡ bytes ++ []
all-fed script bytes s n is e = e ∙ ap (λ m. bytes ++ blocks s m) is

-- a front of it was answered so far
pub cut-front : (script bytes more : List ℕ) (log : List Reply) (ended : Bool) (t0 t : Output) → script ≡ bytes ++ more → IsLogCut ended bytes t0 t log → IsAnsweredFront script log
cut-front script bytes more log ended t0 t is cut = record { ended = ended; front = bytes; more = more; is = is; right = cut.right }

pub here-front : (script bytes more : List ℕ) (a : Answering) (t0 t : Output) → script ≡ bytes ++ more → AwaitsItem a bytes t0 t → IsAnsweredFront script a.replies
here-front script bytes more a t0 t is waits =
    let w = waits.answering in
    cut-front script bytes more a.replies false t0 t is (cut_here false bytes w.items a.session a.replies t0 t w.written)

-- nothing is answered any more
pub stopped : (script bytes more : List ℕ) (log : List Reply) (ended : Bool) (t0 t : Output) (s : Status) → script ≡ bytes ++ more → (ended ≡ true → more ≡ []) → (s ≡ WriteFailed → ⊥) → Stops ended bytes t0 t log s → StopsIn script log s
stopped script bytes more log ended t0 t Answered is whole fine h = record { ended = ended; front = bytes; more = more; is = is; whole = whole; right = h.0.right }
stopped script bytes more log ended t0 t ErrorAnswered is whole fine h = record { ended = ended; front = bytes; more = more; is = is; whole = whole; right = h.0.right }
stopped script bytes more log ended t0 t WrongWords is whole fine h = h
stopped script bytes more log ended t0 t ReadFailed is whole fine h = h
stopped script bytes more log ended t0 t WriteFailed is whole fine h = absurd (fine refl)
stopped script bytes more log ended t0 t NoMemory is whole fine h = cut-front script bytes more log ended t0 t is h

pub answered-whole : (script : List ℕ) (log : List Reply) (s : Status) → (s ≡ Answered) ⊎ (s ≡ ErrorAnswered) → StopsIn script log s → IsAnsweredWhole script log
answered-whole script log s (inl is) h = subst (StopsIn script log) is h
answered-whole script log s (inr is) h = subst (StopsIn script log) is h

pub whole-front : (script : List ℕ) (log : List Reply) → IsAnsweredWhole script log → IsAnsweredFront script log
whole-front script log h = record { ended = h.ended; front = h.front; more = h.more; is = h.is; right = all h.right }
