-- The statuses of the process.
use Rattle.std.specs.Prelude.{ℕ}
use Rattle.smt_session.specs.declared.status.Status.{Status}
use Rattle.smt_session.specs.declared.status.Status.TheVariants.{Answered, ErrorAnswered, WrongWords, ReadFailed, WriteFailed, NoMemory}

abbrev pub code_of : Status → ℕ
code_of Answered = 0
code_of ErrorAnswered = 1
code_of WrongWords = 2
code_of ReadFailed = 3
code_of WriteFailed = 4
code_of NoMemory = 5
