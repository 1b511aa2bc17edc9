-- Verdicts come only from the two commands that ask for one.
use Rattle.std.proofs.Common.{◌≡◌, ℕ, List, [], ◌∷◌, ◌++◌, Bool, true, false, if◌then◌else◌, Result, Ok, Err, Option, Some, None, refl, sym, ap, ◌∙◌, subst, ◌⊎◌, inl, inr, length, length-append, arith, ◌-◌}
use Rattle.std.specs.Prelude.{codes}
use Rattle.assert_stack.specs.Levels.{Level, Symbol, symbols_of, live}
use Rattle.decide.specs.Completeness.{IsComplete, MustDecide}
use Rattle.decide.specs.Verdicts.{RightVerdict}
use Rattle.decide.specs.declared.verdict.Open.{Open}
use Rattle.decide.specs.declared.verdict.Verdict.TheVariants as verdict
use Rattle.sexpr_reader.specs.declared.sexpr.Sexpr.{Sexpr}
use Rattle.sort_check.specs.Checking.{checked}
use Rattle.smt_names.specs.Form.{seen}
use Rattle.smt_names.specs.declared.check_fault.CheckFault.{CheckFault}
use Rattle.sort_check.specs.declared.commands.Command.{Command}
use Rattle.sort_check.specs.declared.commands.Command.TheVariants as command
use Rattle.sv_terms.specs.Meaning.{Named}
use Rattle.sv_terms.specs.declared.term.Term.{Term}
use Rattle.reply_text.specs.declared.error_kind.ErrorKind.{ErrorKind}
use Rattle.smt_names.specs.Signature.{same_name}
use Rattle.smt_session.specs.Steps.{State, Outcome, opened, info_reply, model_reply, reason_reply, AnswersCore, AnswersNames, AnswersTerms, Checks, Does, Performs, Steps}
use Rattle.reply_text.specs.declared.info.Info.{Info as InfoOf}
use Rattle.reply_text.specs.declared.info.Info.TheVariants as info
use Rattle.smt_session.specs.declared.reply.Reply.{Reply}
use Rattle.smt_session.specs.declared.reply.Reply.TheVariants.{Success, Unsupported, Echo, Error, Sat, Unsat, Unknown, Definitions, Values, Info, Core}
use Rattle.smt_session.specs.declared.session.LastVerdict.{LastVerdict}
use Rattle.smt_session.specs.declared.session.LastVerdict.TheVariants as kept
use Rattle.smt_session.specs.Scripts.{FollowsScript, none, next, AnswersBytes, to_end, to_exit, to_fault, AnswersFront, so_far, all, IsNotOwed, IsTrueOf, asked_by, asked_terms}
use Rattle.smt_session.specs.Runs.{IsTrueFor}
use Rattle.sexpr_reader.specs.Reads.{Begins}
use Rattle.std.proofs.lemmas.Bool.{false≢true}
use Rattle.std.proofs.lemmas.List.{append-nil}

is_verdict : Reply → Bool
is_verdict (Sat values) = true
is_verdict Unsat = true
is_verdict (Unknown why) = true
is_verdict _ = false

other : (P : Type 0) (r x : Reply) → r ≡ x → is_verdict x ≡ false → is_verdict r ≡ true → P
other P r x is plain told = absurd (false≢true (sym (ap is_verdict is ∙ plain) ∙ told))

either : (b : Bool) (x y : Reply) → is_verdict x ≡ false → is_verdict y ≡ false → is_verdict (if b then x else y) ≡ false
either true x y h g = h
either false x y h g = g

either_outcome : (b : Bool) (x y : Outcome) → is_verdict x.0 ≡ false → is_verdict y.0 ≡ false → is_verdict (if b then x else y).0 ≡ false
either_outcome true x y h g = h
either_outcome false x y h g = g

no_model : (k : Option LastVerdict) → is_verdict (model_reply k) ≡ false
unfolding is_verdict
no_model (Some (kept.Sat values)) = refl
no_model (Some (kept.Unsat assumed)) = refl
no_model (Some (kept.Unknown c)) = refl
no_model None = refl

success : (printed : Bool) → is_verdict (Success printed) ≡ false
unfolding is_verdict
success printed = refl

failure : (kind : ErrorKind) → is_verdict (Error kind) ≡ false
unfolding is_verdict
failure kind = refl

unsupported : is_verdict Unsupported ≡ false
unfolding is_verdict
unsupported = refl

echo : (text : List ℕ) → is_verdict (Echo text) ≡ false
unfolding is_verdict
echo text = refl

told_info : (i : InfoOf) → is_verdict (Info i) ≡ false
unfolding is_verdict
told_info i = refl

no_reason : (k : Option LastVerdict) → is_verdict (reason_reply k) ≡ false
unfolding is_verdict
no_reason (Some (kept.Sat values)) = refl
no_reason (Some (kept.Unsat assumed)) = refl
no_reason (Some (kept.Unknown c)) = refl
no_reason None = refl

no_info : (s : State) (k : List ℕ) → is_verdict (info_reply s k) ≡ false
no_info s k =
    let reason = either (same_name k (codes ":reason-unknown")) (reason_reply s.verdict) Unsupported (no_reason s.verdict) unsupported in
    let levels = either (same_name k (codes ":assertion-stack-levels")) (Info (info.AssertionStackLevels (length s.levels - 1))) _ (told_info (info.AssertionStackLevels (length s.levels - 1))) reason in
    let behavior = either (same_name k (codes ":error-behavior")) (Info info.ErrorBehavior) _ (told_info info.ErrorBehavior) levels in
    let version = either (same_name k (codes ":version")) (Info info.Version) _ (told_info info.Version) behavior in
    either (same_name k (codes ":name")) (Info info.Name) _ (told_info info.Name) version

no_terms : (symbols : List Symbol) (k : Option LastVerdict) (items : List Sexpr) (r : Reply) → AnswersTerms symbols k items r → is_verdict r ≡ false
unfolding is_verdict
no_terms symbols (Some (kept.Sat values)) items (Values vs) h = refl
no_terms symbols (Some (kept.Sat values)) items (Error kind) h = refl
no_terms symbols (Some (kept.Sat values)) items (Success p) h = refl
no_terms symbols (Some (kept.Sat values)) items Unsupported h = refl
no_terms symbols (Some (kept.Sat values)) items (Echo t) h = refl
no_terms symbols (Some (kept.Sat values)) items (Sat vs) h = absurd h
no_terms symbols (Some (kept.Sat values)) items Unsat h = absurd h
no_terms symbols (Some (kept.Sat values)) items (Unknown why) h = absurd h
no_terms symbols (Some (kept.Sat values)) items (Definitions ds) h = refl
no_terms symbols (Some (kept.Sat values)) items (Info i) h = refl
no_terms symbols (Some (kept.Sat values)) items (Core list) h = refl
no_terms symbols (Some (kept.Unsat assumed)) items r h = ap is_verdict h
no_terms symbols (Some (kept.Unknown c)) items r h = ap is_verdict h
no_terms symbols None items r h = ap is_verdict h

no_names : (levels : List Level) (assumed : List Term) (r : Reply) → AnswersNames levels assumed r → is_verdict r ≡ false
unfolding is_verdict
no_names levels assumed (Core list) h = refl
no_names levels assumed (Success p) h = refl
no_names levels assumed Unsupported h = refl
no_names levels assumed (Echo t) h = refl
no_names levels assumed (Error kind) h = refl
no_names levels assumed (Sat vs) h = absurd h
no_names levels assumed Unsat h = absurd h
no_names levels assumed (Unknown why) h = absurd h
no_names levels assumed (Definitions ds) h = refl
no_names levels assumed (Values vs) h = refl
no_names levels assumed (Info i) h = refl

no_core : (levels : List Level) (k : Option LastVerdict) (r : Reply) → AnswersCore levels k r → is_verdict r ≡ false
unfolding is_verdict
no_core levels (Some (kept.Sat values)) r h = ap is_verdict h
no_core levels (Some (kept.Unsat assumed)) r h = no_names levels assumed r h
no_core levels (Some (kept.Unknown c)) r h = ap is_verdict h
no_core levels None r h = ap is_verdict h

-- a reply that is a verdict on the terms of which the command asks
record IsAsked (s t : State) (r : Reply) (c : Result Command CheckFault) : Type 0 where
  terms : List Term
  assumed : List Term
  asked : asked_by s c ≡ Some terms
  checks : Checks s terms assumed r t

module _ (s t : State) (r : Reply) (told : is_verdict r ≡ true) where
  does : (c : Command) → Does s c r t → IsAsked s t r (Ok c)
  does command.Inform h = other _ _ _ h.0 (success _) told
  does (command.PrintSuccess b) h = other _ _ _ h.0 (success _) told
  does (command.Declare name sort) h = other _ _ _ h.0 (success _) told
  does (command.Define name e) h = other _ _ _ h.0 (success _) told
  does (command.Assert term) h = other _ _ _ h.0 (success _) told
  does (command.AssertNamed name term) h = other _ _ _ h.0 (success _) told
  does (command.Push n) h = other _ _ _ h.0 (either_outcome _ _ _ (success _) (failure _)) told
  does (command.Pop n) h = other _ _ _ h.0 (either_outcome _ _ _ (success _) (failure _)) told
  does command.CheckSat h = record { terms = live s.levels; assumed = []; asked = refl; checks = h }
  does (command.CheckAssuming assumed) h = record { terms = live s.levels ++ assumed; assumed = assumed; asked = refl; checks = h }
  does command.GetCore h = other _ r r refl (no_core s.levels s.verdict r h.0) told
  does command.GetModel h = other _ _ _ h.0 (no_model s.verdict) told
  does (command.GetValue items) h = other _ r r refl (no_terms (symbols_of s.levels) s.verdict items r h.0) told
  does (command.GetInfo k) h = other _ _ _ h.0 (no_info s k) told
  does (command.Echo text) h = other _ _ _ h.0 (echo _) told
  does command.Reset h = other _ _ _ h.0 (success _) told
  does command.ResetAssertions h = other _ _ _ h.0 (success _) told
  does command.Exit h = other _ _ _ h.0 (success _) told
  does command.Unsupported h = other _ _ _ h.0 unsupported told

  performs : (c : Result Command CheckFault) → Performs s c r t → IsAsked s t r c
  performs (Ok c) h = does c h
  performs (Err fault) h = other _ _ _ h.2.0 (failure _) told

-- what a reply to a check says
sat_true : (s t : State) (terms assumed : List Term) (values : Named) → Checks s terms assumed (Sat values) t → IsTrueOf (Some terms) (Sat values)
sat_true s t terms assumed values h = (subst (RightVerdict terms) h.told h.right).1

unsat_true : (s t : State) (terms assumed : List Term) → Checks s terms assumed Unsat t → IsTrueOf (Some terms) Unsat
unsat_true s t terms assumed h = subst (RightVerdict terms) h.told.1 h.right

not_owed : (terms : List Term) (why : Open) → (MustDecide terms → IsComplete terms (verdict.Unknown why)) → IsNotOwed terms
not_owed terms why complete = record {
  opaque_part = λ must none. (complete must).decided none tt;
  has_values = λ must none. (complete must).unsat none;
}

unknown_true : (s t : State) (terms assumed : List Term) (why : Open) → Checks s terms assumed (Unknown why) t → IsTrueOf (Some terms) (Unknown why)
unknown_true s t terms assumed why h = (
  subst (RightVerdict terms) h.told h.right,
  not_owed terms why (λ must. subst (IsComplete terms) h.told (h.complete must)),
)

claims : (s t : State) (item : Sexpr) (more : List Sexpr) (r : Reply) → Steps s item r t → IsTrueOf (asked_terms s (item ∷ more)) r
unfolding is_verdict
claims s t item more (Sat values) h =
    let k = performs s t (Sat values) refl (checked (symbols_of s.levels) (seen item)) h in
    subst (λ o. IsTrueOf o (Sat values)) (sym k.asked) (sat_true s t k.terms k.assumed values k.checks)
claims s t item more Unsat h =
    let k = performs s t Unsat refl (checked (symbols_of s.levels) (seen item)) h in
    subst (λ o. IsTrueOf o Unsat) (sym k.asked) (unsat_true s t k.terms k.assumed k.checks)
claims s t item more (Unknown why) h =
    let k = performs s t (Unknown why) refl (checked (symbols_of s.levels) (seen item)) h in
    subst (λ o. IsTrueOf o (Unknown why)) (sym k.asked) (unknown_true s t k.terms k.assumed why k.checks)
claims s t item more (Success p) h = tt
claims s t item more Unsupported h = tt
claims s t item more (Echo text) h = tt
claims s t item more (Error kind) h = tt
claims s t item more (Definitions ds) h = tt
claims s t item more (Values vs) h = tt
claims s t item more (Info i) h = tt
claims s t item more (Core list) h = tt

behind : (s t : State) (items : List Sexpr) (log early late : List Reply) (r : Reply) → FollowsScript s items log t → log ≡ early ++ r ∷ late
    → (before after : List Sexpr) × (u : State) × (items ≡ before ++ after) × FollowsScript s before early u × IsTrueOf (asked_terms u after) r
behind s t items log [] late r (none a) e = absurd (omega (arith, ap length e))
behind s t items log (x ∷ early) late r (none a) e = absurd (omega (arith, ap length e))
behind s t items log [] late r (next a b c i q is l goes step rest) e = let same : q ≡ r = cc in ([], i ∷ is, a, refl, none a, subst (IsTrueOf (asked_terms a (i ∷ is))) same (claims a b i is q step))
behind s t items log (x ∷ early) late r (next a b c i q is l goes step rest) e =
    let same : q ≡ x = cc in
    let left : l ≡ early ++ r ∷ late = cc in
    let k = behind b c is l early late r rest left in
    (i ∷ k.0, k.1, k.2, ap (λ (z : List Sexpr). i ∷ z) k.3, next a b k.2 i x k.0 early goes (subst (λ (y : Reply). Steps a i y b) same step) k.4, k.5)

-- one reply more before both
more_before : (y z : Reply) (early log : List Reply) (r x : Reply) → y ≡ z → ((early ≡ log) × (r ≡ x)) ⊎ ((more : List Reply) × (log ≡ early ++ r ∷ more)) → ((z ∷ early ≡ y ∷ log) × (r ≡ x)) ⊎ ((more : List Reply) × (y ∷ log ≡ z ∷ early ++ r ∷ more))
more_before y z early log r x same (inl h) = let k = h.0 in inl ((cc), h.1)
more_before y z early log r x same (inr h) = let k = h.1 in inr (h.0, (cc))

-- the last reply, behind the others
last_or_before : (early late log : List Reply) (r x : Reply) → log ++ x ∷ [] ≡ early ++ r ∷ late → ((early ≡ log) × (r ≡ x)) ⊎ ((more : List Reply) × (log ≡ early ++ r ∷ more))
last_or_before [] late [] r x e = inl (refl, cc)
last_or_before [] late (y ∷ log) r x e = let same : y ≡ r = cc in inr (log, ap (λ (z : Reply). z ∷ log) same)
last_or_before (z ∷ early) late [] r x e = absurd (omega (arith, ap length e, length-append early (r ∷ late)))
last_or_before (z ∷ early) late (y ∷ log) r x e =
    let same : y ≡ z = cc in
    let left : log ++ x ∷ [] ≡ early ++ r ∷ late = cc in
    more_before y z early log r x same (last_or_before early late log r x left)

-- each verdict of a right log is true
module _ (ended : Bool) (bytes : List ℕ) where
  told : (items : List Sexpr) (rest : List ℕ) (early : List Reply) (r : Reply) → Begins ended bytes items rest
      → (before after : List Sexpr) × (u : State) × (items ≡ before ++ after) × FollowsScript opened before early u × IsTrueOf (asked_terms u after) r → IsTrueFor ended bytes early r
  told items rest early r begins h = record {
    items = h.0;
    others = h.1;
    rest = rest;
    begins = subst (λ (z : List Sexpr). Begins ended bytes z rest) h.3 begins;
    session = h.2;
    follows = h.4;
    holds = h.5;
  }

  at_fault : (items : List Sexpr) (rest : List ℕ) (s : State) (first early : List Reply) (r : Reply) (kind : ErrorKind) → Begins ended bytes items rest → FollowsScript opened items first s
      → ((early ≡ first) × (r ≡ Error kind)) ⊎ ((more : List Reply) × (first ≡ early ++ r ∷ more)) → IsTrueFor ended bytes early r
  at_fault items rest s first early r kind begins follows (inl h) =
      told items rest early r begins (items, [], s, sym (append-nil items), subst (λ (l : List Reply). FollowsScript opened items l s) (sym h.0) follows, subst (IsTrueOf (asked_terms s [])) (sym h.1) tt)
  at_fault items rest s first early r kind begins follows (inr h) = told items rest early r begins (behind opened s items first early h.0 r follows h.1)

  in_answers : (log early late : List Reply) (r : Reply) → AnswersBytes ended bytes log → log ≡ early ++ r ∷ late → IsTrueFor ended bytes early r
  in_answers log early late r (to_end items s is ends follows) e =
      told items ends.rest early r (subst (λ b. Begins b bytes items ends.rest) (sym is) ends.reads.begins) (behind opened s items log early late r follows e)
  in_answers log early late r (to_exit items rest s begins follows is) e = told items rest early r begins (behind opened s items log early late r follows e)
  in_answers log early late r (to_fault items first s fault kind faulty follows goes is last) e =
      at_fault items faulty.rest s first early r kind faulty.reads.begins follows (last_or_before early late first r (Error kind) (sym last ∙ e))

  pub verdict_true : (log early late : List Reply) (r : Reply) → AnswersFront ended bytes log → log ≡ early ++ r ∷ late → IsTrueFor ended bytes early r
  verdict_true log early late r (so_far items rest s begins follows) e = told items rest early r begins (behind opened s items log early late r follows e)
  verdict_true log early late r (all h) e = in_answers log early late r h e
