-- How many verdicts of each kind a followed script has.
use Rattle.std.proofs.Common.{◌≡◌, ℕ, zero, suc, ◌+◌, ◌≤◌, List, [], ◌∷◌, Bool, true, false, not, cond, count_by, fold, refl, ap, ◌∙◌, arith}
use Rattle.generated_items.specs.Items.{block_at, number_at, items_from, script_items}
use Rattle.generated_script.specs.Draws.{behind, seeded}
use Rattle.smt_session.specs.Tabled.{IsReplyBy, IsTabled}
use Rattle.smt_session.proofs.GeneratedBlocks.{block_done}
use Rattle.smt_session.proofs.GeneratedSteps.{silent, nothing_done}
use Rattle.generated_verdicts.specs.Table.{one_if, is_sat_at, sat_from, unsat_from}
use Rattle.smt_session.specs.Generated.{is_sat, is_unsat, is_unknown}
use Rattle.smt_session.specs.Scripts.{FollowsScript}
use Rattle.smt_session.specs.Steps.{State, opened}
use Rattle.smt_session.specs.declared.reply.Reply.{Reply}
use Rattle.smt_session.specs.declared.reply.Reply.TheVariants.{Success, Unsupported, Echo, Error, Sat, Unsat, Unknown, Definitions, Values, Info, Core}

sat_one : (b : Bool) (r : Reply) → IsReplyBy b r → cond (is_sat r) 1 0 ≡ one_if b
sat_one true (Sat values) h = refl
sat_one false Unsat h = refl
sat_one true Unsat h = absurd h
sat_one false (Sat values) h = absurd h
sat_one true (Success p) h = absurd h
sat_one true Unsupported h = absurd h
sat_one true (Echo text) h = absurd h
sat_one true (Error kind) h = absurd h
sat_one true (Unknown why) h = absurd h
sat_one true (Definitions ds) h = absurd h
sat_one true (Values vs) h = absurd h
sat_one true (Info i) h = absurd h
sat_one true (Core list) h = absurd h
sat_one false (Success p) h = absurd h
sat_one false Unsupported h = absurd h
sat_one false (Echo text) h = absurd h
sat_one false (Error kind) h = absurd h
sat_one false (Unknown why) h = absurd h
sat_one false (Definitions ds) h = absurd h
sat_one false (Values vs) h = absurd h
sat_one false (Info i) h = absurd h
sat_one false (Core list) h = absurd h

unsat_one : (b : Bool) (r : Reply) → IsReplyBy b r → cond (is_unsat r) 1 0 ≡ one_if (not b)
unsat_one true (Sat values) h = refl
unsat_one false Unsat h = refl
unsat_one true Unsat h = absurd h
unsat_one false (Sat values) h = absurd h
unsat_one true (Success p) h = absurd h
unsat_one true Unsupported h = absurd h
unsat_one true (Echo text) h = absurd h
unsat_one true (Error kind) h = absurd h
unsat_one true (Unknown why) h = absurd h
unsat_one true (Definitions ds) h = absurd h
unsat_one true (Values vs) h = absurd h
unsat_one true (Info i) h = absurd h
unsat_one true (Core list) h = absurd h
unsat_one false (Success p) h = absurd h
unsat_one false Unsupported h = absurd h
unsat_one false (Echo text) h = absurd h
unsat_one false (Error kind) h = absurd h
unsat_one false (Unknown why) h = absurd h
unsat_one false (Definitions ds) h = absurd h
unsat_one false (Values vs) h = absurd h
unsat_one false (Info i) h = absurd h
unsat_one false (Core list) h = absurd h

-- one, where the reply passes
abbrev one_of : (Reply → Bool) → Reply → ℕ
one_of p r = cond (p r) 1 0

unknown_none : (b : Bool) (r : Reply) → IsReplyBy b r → one_of is_unknown r ≡ 0
unknown_none true (Unknown why) h = absurd h
unknown_none false (Unknown why) h = absurd h
unknown_none b (Sat values) h = refl
unknown_none b Unsat h = refl
unknown_none b (Success p) h = refl
unknown_none b Unsupported h = refl
unknown_none b (Echo text) h = refl
unknown_none b (Error kind) h = refl
unknown_none b (Definitions ds) h = refl
unknown_none b (Values vs) h = refl
unknown_none b (Info i) h = refl
unknown_none b (Core list) h = refl

-- a count that begins with a number
counted_from : (p : Reply → Bool) (a : ℕ) (log : List Reply) → fold (λ (n : ℕ) (r : Reply). n + cond (p r) 1 0) a log ≡ a + count_by p log
counted_from p a [] = omega arith
counted_from p a (r ∷ log) = omega (arith, counted_from p (a + cond (p r) 1 0) log, counted_from p (0 + cond (p r) 1 0) log)

-- of a block only its verdict counts
block_counted : (p : Reply → Bool) (r : Reply) (late : List Reply) → p silent ≡ false → count_by p (silent ∷ silent ∷ silent ∷ silent ∷ silent ∷ r ∷ silent ∷ late) ≡ cond (p r) 1 0 + count_by p late
block_counted p r late none =
    (λ i. fold (λ (n : ℕ) (q : Reply). n + cond (p q) 1 0) ((((((0 + cond (none i) 1 0) + cond (none i) 1 0) + cond (none i) 1 0) + cond (none i) 1 0) + cond (none i) 1 0) + cond (p r) 1 0 + cond (none i) 1 0) late)
    ∙ counted_from p (0 + cond (p r) 1 0 + 0) late
    ∙ omega arith

-- the verdicts on so many blocks, drawn behind this number
record IsTabledFrom (s n : ℕ) (log : List Reply) : Type 0 where
  sat : count_by is_sat log ≡ sat_from s n
  unsat : count_by is_unsat log ≡ unsat_from s n
  unknown : count_by is_unknown log ≡ 0

number_small : (s : ℕ) → number_at s ≤ 50
number_small s = omega arith

tabled_from : (s n : ℕ) (log : List Reply) (u : State) → FollowsScript opened (items_from s n) log u → IsTabledFrom s n log
tabled_from s zero log u f =
    let e = nothing_done opened u log f in
    record { sat = ap (count_by is_sat) e; unsat = ap (count_by is_unsat) e; unknown = ap (count_by is_unknown) e }
tabled_from s (suc n) log u f =
    let b = block_done (block_at s) (number_at s) (number_small s) u (items_from (behind s) n) log f in
    let later = tabled_from (behind s) n b.late u b.follows in
    record {
      sat = ap (count_by is_sat) b.is ∙ block_counted is_sat b.reply b.late refl ∙ (λ i. sat_one (is_sat_at s) b.reply b.verdict i + later.sat i);
      unsat = ap (count_by is_unsat) b.is ∙ block_counted is_unsat b.reply b.late refl ∙ (λ i. unsat_one (is_sat_at s) b.reply b.verdict i + later.unsat i);
      unknown = ap (count_by is_unknown) b.is ∙ block_counted is_unknown b.reply b.late refl ∙ (λ i. unknown_none (is_sat_at s) b.reply b.verdict i + later.unknown i);
    }

pub script_tabled : (seed size : ℕ) (log : List Reply) (u : State) → FollowsScript opened (script_items seed size) log u → IsTabled seed size log
script_tabled seed size log u f = let t = tabled_from (seeded seed) size log u f in record { sat = t.sat; unsat = t.unsat; unknown = t.unknown }
