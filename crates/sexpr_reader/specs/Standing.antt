-- Where a reader stands in the bytes that it was fed, and what its calls answer.
use Rattle.std.specs.Prelude.{◌≡◌, ◌+◌, ℕ, List, [], ◌∷◌, ◌++◌, Bool, true, false, Option, Some, None, Result, Ok, Err, length, drop}
use Rattle.sexpr_reader.specs.declared.mode.Mode.{Mode}
use Rattle.sexpr_reader.specs.declared.reader.Reader.{Reader}
use Rattle.sexpr_reader.specs.declared.syntax_fault.SyntaxFault.{SyntaxFault}
use Rattle.sexpr_reader.specs.declared.syntax_fault.SyntaxFault.TheVariants as f
use Rattle.sexpr_reader.specs.declared.sexpr.Sexpr.{Sexpr}
use Rattle.sexpr_reader.specs.Tokens.{Token}
use Rattle.sexpr_reader.specs.Lexes.{Lexes}
use Rattle.sexpr_reader.specs.Items.{tokens_of_all, open_tokens, levels, HasFormedAtoms}
use Rattle.sexpr_reader.specs.Parts.{IsPart, IsGap}
use Rattle.sexpr_reader.specs.Reads.{Begins, FaultAfter, Waits, Ends, EndsWith}

-- the bytes are the tokens of the items given and of the lists that are open, a gap, and what is kept: an unfinished token, and the bytes ahead
pub record At (ended : Bool) (mode : Mode) (lists : List (List Sexpr)) (place : ℕ) (kept ahead bytes : List ℕ) (given : List Sexpr) : Type 0 where
  pub blank : List ℕ
  pub part : List ℕ
  pub lexed : Lexes ended bytes (tokens_of_all given ++ open_tokens lists) (blank ++ kept)
  pub gap : IsGap mode blank
  pub begun : IsPart mode part
  pub split : kept ≡ part ++ ahead
  pub here : place + length kept ≡ length bytes
  pub nested : levels 0 (tokens_of_all given) ≡ Some 0
  pub level : levels 0 (tokens_of_all given ++ open_tokens lists) ≡ Some (length lists)
  pub apart : (us vs : List Token) → us ++ vs ≡ open_tokens lists → levels 0 us ≡ Some 0 → us ≡ []

-- the reader was fed these bytes and gave these items; `ended` says whether it was told that the input has ended behind the bytes
pub record HasGiven (ended : Bool) (r : Reader) (bytes : List ℕ) (given : List Sexpr) : Type 0 where
  pub at : At ended r.mode r.nest.lists.items r.place (drop r.start r.pending.items) (drop r.at r.pending.items) bytes given

-- the raw bytes that the reader keeps
abbrev pub kept : Reader → List ℕ
kept r = r.pending.items

-- one item more was given
pub record GivesItem (ended : Bool) (new : Reader) (bytes : List ℕ) (given : List Sexpr) (item : Sexpr) : Type 0 where
  pub stands : HasGiven ended new bytes (given ++ item ∷ [])
  pub rest : List ℕ
  pub begins : Begins ended bytes (given ++ item ∷ []) rest
  pub formed : HasFormedAtoms item

-- what `next` answers: one item more, nothing where no further item is whole and no fault stands there, the first fault behind the last item, or want of memory
abbrev pub AnswersNext : Reader → List ℕ → List Sexpr → Result (Option Sexpr) SyntaxFault → Type 0
AnswersNext new bytes given (Ok (Some item)) = GivesItem false new bytes given item
AnswersNext new bytes given (Ok None) = HasGiven false new bytes given × Waits bytes given × EndsWith bytes (kept new)
AnswersNext new bytes given (Err (f.Memory _)) = HasGiven false new bytes given
AnswersNext new bytes given (Err fault) = HasGiven false new bytes given × FaultAfter false bytes given fault

-- what `end` answers: the same where no byte follows, and nothing where all items were given and no list, literal or quoted symbol is open
abbrev pub AnswersEnd : Bool → Reader → List ℕ → List Sexpr → Result (Option Sexpr) SyntaxFault → Type 0
AnswersEnd ended new bytes given (Ok (Some item)) = GivesItem true new bytes given item
AnswersEnd ended new bytes given (Ok None) = HasGiven true new bytes given × Ends bytes given
AnswersEnd ended new bytes given (Err (f.Memory _)) = HasGiven ended new bytes given
AnswersEnd ended new bytes given (Err fault) = HasGiven true new bytes given × FaultAfter true bytes given fault
