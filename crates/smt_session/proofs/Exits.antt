-- Little is read behind an answered `exit`: it is a list, whole with its last byte, and wasn't whole before the last bytes that were read.
use Rattle.std.proofs.Common.{◌≡◌, ℕ, ◌≤◌, List, [], ◌∷◌, ◌++◌, Bool, true, false, Result, Ok, Err, Some, refl, sym, ap, ◌∙◌, subst, length, append-nil, append_assoc, arith, length-append, inl, inr}
use Rattle.std.proofs.lemmas.Bool.{cases_lt, false≢true}
use Rattle.sv_io.specs.Histories.{Input, Output}
use Rattle.assert_stack.specs.Levels.{symbols_of, live}
use Rattle.decide.specs.declared.verdict.Verdict.{Verdict}
use Rattle.sexpr_reader.specs.Items.{tokens_of, tokens_of_all, levels}
use Rattle.sexpr_reader.specs.Lexes.{Lexes}
use Rattle.sexpr_reader.specs.Reads.{Begins, Reads}
use Rattle.sexpr_reader.specs.Tokens.{Token, text}
use Rattle.sexpr_reader.specs.declared.sexpr.Sexpr.{Sexpr, roll-Sexpr}
use Rattle.sexpr_reader.specs.declared.sexpr.Sexpr.TheFolds.{fold-roll-Sexpr, ind-Sexpr}
use Rattle.sexpr_reader.specs.declared.sexpr.Sexpr.TheOpen.{Sexpr-F}
use Rattle.sexpr_reader.specs.declared.sexpr.Sexpr.TheVariants as v
use Rattle.sexpr_reader.proofs.Growing.{list_whole}
use Rattle.sexpr_reader.proofs.Levels.{levels-append}
use Rattle.sexpr_reader.proofs.Readable.{same_items, item_level}
use Rattle.sexpr_reader.proofs.Tokens.{same_lexing, cut_lexing, Further, first, second}
use Rattle.smt_names.specs.Form.{Form, form_layer, seen}
use Rattle.smt_names.specs.declared.check_fault.CheckFault.{CheckFault}
use Rattle.sort_check.specs.Checking.{checked}
use Rattle.sort_check.specs.declared.commands.Command.{Command}
use Rattle.sort_check.specs.declared.commands.Command.TheVariants as command
use Rattle.smt_session.specs.Steps.{State, opened, kept_of, with_verdict, Tells, Checks, Does, Performs, Steps}
use Rattle.sv_terms.specs.declared.term.Term.{Term}
use Rattle.smt_session.specs.declared.reply.Reply.{Reply}
use Rattle.smt_session.specs.declared.reply.Reply.TheVariants.{Success, Unsupported, Echo, Error, Sat, Unsat, Unknown, Definitions, Values, Info, Core}
use Rattle.smt_session.specs.Runs.{IsPrompt, StopsAtExit}
use Rattle.smt_session.specs.Scripts.{FollowsScript, none, next}
use Rattle.smt_session.proofs.Turns.{replies_count}

-- the session behind a command is told by its reply
same_kept : (assumed : List Term) (r : Reply) (a b : Verdict) → Tells r a → Tells r b → kept_of assumed a ≡ kept_of assumed b
same_kept assumed (Sat values) a b h k = ap (kept_of assumed) (h ∙ sym k)
same_kept assumed Unsat a b h k = ap (kept_of assumed) h.1 ∙ sym (ap (kept_of assumed) k.1)
same_kept assumed (Unknown why) a b h k = ap (kept_of assumed) (h ∙ sym k)
same_kept assumed (Success p) a b h k = absurd h
same_kept assumed Unsupported a b h k = absurd h
same_kept assumed (Echo t) a b h k = absurd h
same_kept assumed (Error kind) a b h k = absurd h
same_kept assumed (Definitions ds) a b h k = absurd h
same_kept assumed (Values vs) a b h k = absurd h
same_kept assumed (Info i) a b h k = absurd h
same_kept assumed (Core list) a b h k = absurd h

module _ (s t u : State) (r : Reply) where
  same_checked : (terms assumed : List Term) → Checks s terms assumed r t → Checks s terms assumed r u → t ≡ u
  same_checked terms assumed h k = h.after ∙ ap (λ kept. with_verdict kept s) (same_kept assumed r h.answer k.answer h.told k.told) ∙ sym k.after

  same_done : (c : Command) → Does s c r t → Does s c r u → t ≡ u
  same_done command.Inform h k = h.1 ∙ sym k.1
  same_done (command.PrintSuccess b) h k = h.1 ∙ sym k.1
  same_done (command.Declare name sort) h k = h.1 ∙ sym k.1
  same_done (command.Define name e) h k = h.1 ∙ sym k.1
  same_done (command.Assert term) h k = h.1 ∙ sym k.1
  same_done (command.AssertNamed name term) h k = h.1 ∙ sym k.1
  same_done (command.Push n) h k = h.1 ∙ sym k.1
  same_done (command.Pop n) h k = h.1 ∙ sym k.1
  same_done command.CheckSat h k = same_checked (live s.levels) [] h k
  same_done (command.CheckAssuming assumed) h k = same_checked (live s.levels ++ assumed) assumed h k
  same_done command.GetCore h k = h.1 ∙ sym k.1
  same_done command.GetModel h k = h.1 ∙ sym k.1
  same_done (command.GetValue items) h k = h.1 ∙ sym k.1
  same_done (command.GetInfo i) h k = h.1 ∙ sym k.1
  same_done (command.Echo t) h k = h.1 ∙ sym k.1
  same_done command.Reset h k = h.1 ∙ sym k.1
  same_done command.ResetAssertions h k = h.1 ∙ sym k.1
  same_done command.Exit h k = h.1 ∙ sym k.1
  same_done command.Unsupported h k = h.1 ∙ sym k.1

  same_performed : (c : Result Command CheckFault) → Performs s c r t → Performs s c r u → t ≡ u
  same_performed (Ok c) h k = same_done c h k
  same_performed (Err fault) h k = h.2.1 ∙ sym k.2.1

  same_step : (item : Sexpr) → Steps s item r t → Steps s item r u → t ≡ u
  same_step item h k = same_performed (checked (symbols_of s.levels) (seen item)) h k

none_left : (s t : State) (items : List Sexpr) (log : List Reply) → FollowsScript s items log t → items ≡ [] → s ≡ t
none_left s t items log (none a) e = refl
none_left s t items log (next a b c i q is l goes step rest) e = absurd (omega (arith, ap length e))

-- what the first item did
first_of : (s t : State) (items others : List Sexpr) (log late : List Reply) (item : Sexpr) (r : Reply) → FollowsScript s items log t → items ≡ item ∷ others → log ≡ r ∷ late → (u : State) × Steps s item r u × FollowsScript u others late t
first_of s t items others log late item r (none a) e f = absurd (omega (arith, ap length e))
first_of s t items others log late item r (next a b c i q is l goes step rest) e f =
    let same_item : i ≡ item = cc in
    let same_others : is ≡ others = cc in
    let same_reply : q ≡ r = cc in
    let same_late : l ≡ late = cc in
    (b, subst (λ (x : Reply). Steps a item x b) same_reply (subst (λ (x : Sexpr). Steps a x q b) same_item step), subst (λ (x : List Reply). FollowsScript b others x c) same_late (subst (λ (x : List Sexpr). FollowsScript b x l c) same_others rest))

same_session : (s t u : State) (items : List Sexpr) (log : List Reply) → FollowsScript s items log t → FollowsScript s items log u → t ≡ u
same_session s t u items log (none a) k = none_left a u [] [] k refl
same_session s t u items log (next a b c i q is l goes step rest) k =
    let f = first_of a u (i ∷ is) is (q ∷ l) l i q k refl refl in
    let same : f.0 ≡ b = same_step a f.0 b q i f.1 step in
    same_session b c u is l rest (subst (λ (x : State). FollowsScript x is l u) same f.2)

-- what ends a session is a list
abbrev Ends : Sexpr → Type 0
Ends item = (s t : State) (r : Reply) → Steps s item r t → s.ended ≡ false → t.ended ≡ true → (inner : List Sexpr) × (item ≡ v.List inner)

ends_layer : (x : Sexpr-F Sexpr) → Ends (roll-Sexpr x)
ends_layer (Sexpr-F.Atom kind bs) s t r h goes over =
    let atom = subst (λ (f : Form). Performs s (checked (symbols_of s.levels) f) r t) (fold-roll-Sexpr Form form_layer (Sexpr-F.Atom kind bs)) h in
    absurd (false≢true (sym goes ∙ sym (ap (λ (x : State). x.ended) atom.2.1) ∙ over))
ends_layer (Sexpr-F.List inner) s t r h goes over = (inner, v.rolls-List inner)

ends : (item : Sexpr) → Ends item
ends = ind-Sexpr Ends (λ x y is. ends_layer x)

-- the items up to the one that ended the session
record Last (items : List Sexpr) : Type 0 where
  early : List Sexpr
  inner : List Sexpr
  is : items ≡ early ++ v.List inner ∷ []

stopped : (s t : State) (items : List Sexpr) (log : List Reply) → FollowsScript s items log t → s.ended ≡ true → items ≡ []
stopped s t items log (none a) e = refl
stopped s t items log (next a b c i q is l goes step rest) e = absurd (false≢true (sym goes ∙ e))

one_last : (i : Sexpr) (is : List Sexpr) → is ≡ [] → (inner : List Sexpr) × (i ≡ v.List inner) → Last (i ∷ is)
one_last i is e h = let k = h.1 in record { early = []; inner = h.0; is = cc }

more_last : (i : Sexpr) (is : List Sexpr) → Last is → Last (i ∷ is)
more_last i is h = record { early = i ∷ h.early; inner = h.inner; is = ap (λ (l : List Sexpr). i ∷ l) h.is }

-- the first item ended it, or a later one did
last_here : (s t : State) (i : Sexpr) (is : List Sexpr) (r : Reply) → Steps s i r t → s.ended ≡ false → (t.ended ≡ true → is ≡ []) → (t.ended ≡ false → Last is) → (e : Bool) → t.ended ≡ e → Last (i ∷ is)
last_here s t i is r step goes over on true e = one_last i is (over e) (ends i s t r step goes e)
last_here s t i is r step goes over on false e = more_last i is (on e)

last_of : (s t : State) (items : List Sexpr) (log : List Reply) → FollowsScript s items log t → s.ended ≡ false → t.ended ≡ true → Last items
last_of s t items log (none a) goes over = absurd (false≢true (sym goes ∙ over))
last_of s t items log (next a b c i q is l going step rest) goes over = last_here a b i is q step going (λ e. stopped b c is l rest e) (λ e. last_of b c is l rest e over) b.ended refl

-- the bytes end in what is left
left_behind : (ended : Bool) (bytes : List ℕ) (ts : List Token) (rest : List ℕ) → Lexes ended bytes ts rest → (front : List ℕ) × (bytes ≡ front ++ rest)
left_behind ended bytes [] rest h = ([], h)
left_behind ended bytes (t ∷ ts) rest h =
    let k = left_behind ended h.1 ts rest h.6 in
    (h.0 ++ (text t ++ k.0), h.3 ∙ ap (λ (l : List ℕ). h.0 ++ (text t ++ l)) k.1 ∙ simp append_assoc)

-- of two ends of a list the longer one ends in the shorter one
longer_end : (front rest before piece : List ℕ) → front ++ rest ≡ before ++ piece → length piece ≤ length rest → (mid : List ℕ) × (rest ≡ mid ++ piece)
longer_end [] rest before piece e n = (before, e)
longer_end (f ∷ front) rest [] piece e n = absurd (omega (arith, ap length e, length-append front rest))
longer_end (f ∷ front) rest (b ∷ before) piece e n = let later : front ++ rest ≡ before ++ piece = cc in longer_end front rest before piece later n

-- a reading has as many items as can be whole
module _ (ended : Bool) (bytes : List ℕ) (items these : List Sexpr) (rest after : List ℕ) (h : Begins ended bytes items rest) (w : Reads ended bytes these after) (many : length these ≤ length items) where
  no_longer : (us : List Token) (zs : List Sexpr) → tokens_of_all items ≡ tokens_of_all these ++ us → Lexes ended after us rest → items ≡ these ++ zs → us ≡ tokens_of_all zs → items ≡ these
  no_longer us [] e l is are = is ∙ append-nil these
  no_longer us (z ∷ zs) e l is are =
      let lexed : Lexes ended after (tokens_of z ++ tokens_of_all zs) rest = subst (λ (ts : List Token). Lexes ended after ts rest) are l in
      let cut = cut_lexing ended after (tokens_of z) (tokens_of_all zs) rest lexed in
      let level : levels 0 (tokens_of z ++ tokens_of_all zs) ≡ Some 0 = ap (levels 0) (sym are) ∙ sym (levels-append 0 0 (tokens_of_all these) us w.begins.nested) ∙ ap (levels 0) (sym e) ∙ h.nested in
      absurd (w.last z cut.0 (record { lexed = subst (λ (ts : List Token). Lexes ended after ts cut.0) (sym (append-nil (tokens_of z))) cut.1; nested = ap (levels 0) (append-nil (tokens_of z)) ∙ item_level z 0 0 (tokens_of_all zs) level }))

  no_shorter : (zs : List Sexpr) → these ≡ items ++ zs → items ≡ these
  no_shorter [] is = sym (is ∙ append-nil items)
  no_shorter (z ∷ zs) is = absurd (omega (arith, many, ap length is, length-append items (z ∷ zs)))

  either : Further ended (tokens_of_all items) (tokens_of_all these) rest after → items ≡ these
  either (first us e l) = let k = same_items items these us e in no_shorter k.0 k.1
  either (second us e l) = let k = same_items these items us e in no_longer us k.0 e l k.1 k.2

  all_items : items ≡ these
  all_items = either (same_lexing ended bytes (tokens_of_all items) (tokens_of_all these) rest after h.lexed w.begins.lexed)

none_late : (late : List Reply) → length late ≡ 0 → late ≡ []
none_late [] e = refl
none_late (x ∷ late) e = absurd (omega (arith, e))

-- what was read behind an answered `exit` is shorter than the last bytes that were read
module _ (l0 l : Input) (t0 t : Output) (log : List Reply) (p : IsPrompt l0 l t0 t log) (items : List Sexpr) (rest : List ℕ) (session : State)
    (begins : Begins false (p.before ++ p.piece) items rest) (follows : FollowsScript opened items log session) (over : session.ended ≡ true) where
  -- otherwise the `exit` was whole before them, and the session had ended
  whole_before : (mid : List ℕ) → rest ≡ mid ++ p.piece → ⊥
  whole_before mid is =
      let last = last_of opened session items log follows refl over in
      let listed : Begins false (p.before ++ p.piece) (last.early ++ v.List last.inner ∷ []) (mid ++ p.piece) = subst (Begins false (p.before ++ p.piece) (last.early ++ v.List last.inner ∷ [])) is (subst (λ (x : List Sexpr). Begins false (p.before ++ p.piece) x rest) last.is begins) in
      let early = list_whole p.before p.piece mid last.early last.inner listed in
      let whole : Begins false p.before items mid = subst (λ (x : List Sexpr). Begins false p.before x mid) (sym last.is) early in
      let all : length items ≡ length log = sym (replies_count opened session items log follows) in
      let some : length p.right.items ≡ length p.early = sym (replies_count opened p.right.session p.right.items p.early p.right.follows) in
      let many : length p.right.items ≤ length items = omega (arith, all, some, ap length p.replies, length-append p.early p.late) in
      let same : items ≡ p.right.items = all_items false p.before items p.right.items mid p.right.waits.rest whole p.right.waits.reads many in
      let no_more : p.late ≡ [] = none_late p.late (omega (arith, all, some, ap length same, ap length p.replies, length-append p.early p.late)) in
      let logs : log ≡ p.early = p.replies ∙ ap (λ (x : List Reply). p.early ++ x) no_more ∙ append-nil p.early in
      let other : FollowsScript opened items log p.right.session = subst (λ (x : List Sexpr). FollowsScript opened x log p.right.session) (sym same) (subst (λ (x : List Reply). FollowsScript opened p.right.items x p.right.session) (sym logs) p.right.follows) in
      let ends_so : session ≡ p.right.session = same_session opened session p.right.session items log follows other in
      false≢true (sym p.right.goes_on ∙ sym (ap (λ (x : State). x.ended) ends_so) ∙ over)

  few : length rest ≤ 4095
  few = elim (cases_lt (length rest) (length p.piece)) [
    | inl less ↦ omega (arith, less, p.short)
    | inr more ↦ let k = left_behind false (p.before ++ p.piece) (tokens_of_all items) rest begins.lexed in let m = longer_end k.0 rest p.before p.piece (sym k.1) more in absurd (whole_before m.0 m.1)
  ]

pub stops_at_exit : (l0 l : Input) (t0 t : Output) (log : List Reply) → IsPrompt l0 l t0 t log → StopsAtExit l0 l log
stops_at_exit l0 l t0 t log p = record { bytes = p.before ++ p.piece; gave = p.gave; few = λ items rest session begins follows over. few l0 l t0 t log p items rest session begins follows over }
