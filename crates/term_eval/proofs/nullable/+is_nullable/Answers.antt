use Rattle.std.proofs.Common.{sym, ap, ◌∙◌, subst, refl, [], arith}
use Rattle.sv_terms.specs.declared.regex.Regex.TheVariants as v
use Rattle.sv_terms.specs.Language.{In, InAllOf, InOneOf}
use Rattle.term_eval.proofs.Nullables.{all-nil, all-nil-at, answers-as, answers-false, answers-not, answers-true, answers-zero, diff-else, diff-front, diff-short, is-never, never-AnyChar, never-Empty, never-Range, never-one, nil-All, nil-Concat, nil-Inter, nil-Loop, nil-Opt, nil-Plus, nil-Star, nil-Union, of-nil-Concat, of-nil-Inter, of-nil-Loop, of-nil-Plus, of-nil-Union, one-nil}
use Rattle.term_eval.proofs.nullable.+is_nullable.Goals as goal

pub is_nullable-returns-in-empty : goal.is_nullable-returns-in-empty
is_nullable-returns-in-empty t c = diff-short _ _ _ c.in-Diff.is c.as_slice-in-Diff.ensures c.in-empty.len_below

pub is_nullable-returns-then-is_nullable : goal.is_nullable-returns-then-is_nullable
is_nullable-returns-then-is_nullable t c =
    let here = c.is_nullable.ensures.0 c.if-is_nullable.true in
    diff-front _ _ _ _ _ c.in-Diff.is c.as_slice-in-Diff.ensures c.in-len1-up.len_at_least c.r-item.is here c.one_nullable-then-is_nullable.ensures

pub is_nullable-returns-in-Empty : goal.is_nullable-returns-in-Empty
is_nullable-returns-in-Empty t c =
    answers-false c.args.regex.now v.Empty c.in-Empty.is never-Empty

pub is_nullable-returns-in-All : goal.is_nullable-returns-in-All
is_nullable-returns-in-All t c =
    answers-true c.args.regex.now v.All c.in-All.is nil-All

pub is_nullable-returns-in-AnyChar : goal.is_nullable-returns-in-AnyChar
is_nullable-returns-in-AnyChar t c =
    answers-false c.args.regex.now v.AnyChar c.in-AnyChar.is never-AnyChar

pub is_nullable-returns-in-Range : goal.is_nullable-returns-in-Range
is_nullable-returns-in-Range t c =
    answers-false c.args.regex.now (v.Range c.in-Range.field-0 c.in-Range.field-1) c.in-Range.is (never-Range c.in-Range.field-0 c.in-Range.field-1)

pub is_nullable-returns-in-Star : goal.is_nullable-returns-in-Star
is_nullable-returns-in-Star t c =
    answers-true c.args.regex.now (v.Star c.in-Star.field-0) c.in-Star.is (nil-Star c.in-Star.field-0)

pub is_nullable-returns-in-Opt : goal.is_nullable-returns-in-Opt
is_nullable-returns-in-Opt t c =
    answers-true c.args.regex.now (v.Opt c.in-Opt.field-0) c.in-Opt.is (nil-Opt c.in-Opt.field-0)

pub is_nullable-returns-in-Concat : goal.is_nullable-returns-in-Concat
is_nullable-returns-in-Concat t c =
    answers-as c.args.regex.now (v.Concat c.as_slice.result.now) c.all_nullable.result (InAllOf In c.as_slice.result.now []) (c.in-Concat.is ∙ ap v.Concat (sym c.as_slice.ensures)) (nil-Concat c.as_slice.result.now) (of-nil-Concat c.as_slice.result.now) c.all_nullable.ensures

pub is_nullable-returns-in-Union : goal.is_nullable-returns-in-Union
is_nullable-returns-in-Union t c =
    answers-as c.args.regex.now (v.Union c.as_slice-in-Union.result.now) c.one_nullable.result (InOneOf In c.as_slice-in-Union.result.now []) (c.in-Union.is ∙ ap v.Union (sym c.as_slice-in-Union.ensures)) (nil-Union c.as_slice-in-Union.result.now) (of-nil-Union c.as_slice-in-Union.result.now) c.one_nullable.ensures

pub is_nullable-returns-in-Inter : goal.is_nullable-returns-in-Inter
is_nullable-returns-in-Inter t c =
    answers-as c.args.regex.now (v.Inter c.as_slice-in-Inter.result.now) c.all_nullable-in-Inter.result (InAllOf In c.as_slice-in-Inter.result.now []) (c.in-Inter.is ∙ ap v.Inter (sym c.as_slice-in-Inter.ensures)) (nil-Inter c.as_slice-in-Inter.result.now) (of-nil-Inter c.as_slice-in-Inter.result.now) c.all_nullable-in-Inter.ensures

pub is_nullable-returns-in-Plus : goal.is_nullable-returns-in-Plus
is_nullable-returns-in-Plus t c =
    answers-as c.args.regex.now (v.Plus c.get.result.now) c.is_nullable-in-Plus.result (In c.get.result.now []) (c.in-Plus.is ∙ ap v.Plus (sym c.get.ensures)) (nil-Plus c.get.result.now) (of-nil-Plus c.get.result.now) c.is_nullable-in-Plus.ensures

pub is_nullable-returns-in-Comp : goal.is_nullable-returns-in-Comp
is_nullable-returns-in-Comp t c =
    answers-not c.args.regex.now c.get-in-Comp.result.now c.is_nullable-in-Comp.result (c.in-Comp.is ∙ ap v.Comp (sym c.get-in-Comp.ensures)) c.is_nullable-in-Comp.ensures

pub is_nullable-returns-then-i-eq0 : goal.is_nullable-returns-then-i-eq0
is_nullable-returns-then-i-eq0 t c =
    answers-zero c.args.regex.now c.in-Loop.r c.in-Loop.i c.in-Loop.j c.in-Loop.is c.if-i-eq0.true

pub is_nullable-returns-else-i-eq0 : goal.is_nullable-returns-else-i-eq0
is_nullable-returns-else-i-eq0 t c =
    answers-as c.args.regex.now (v.Loop c.get-else-i-eq0.result.now c.in-Loop.i c.in-Loop.j) c.is_nullable-else-i-eq0.result (In c.get-else-i-eq0.result.now []) (c.in-Loop.is ∙ ap (λ z. v.Loop z c.in-Loop.i c.in-Loop.j) (sym c.get-else-i-eq0.ensures)) (nil-Loop c.get-else-i-eq0.result.now c.in-Loop.i c.in-Loop.j c.if-i-j.true) (λ q. (of-nil-Loop c.get-else-i-eq0.result.now c.in-Loop.i c.in-Loop.j q).1 c.if-i-eq0.false) c.is_nullable-else-i-eq0.ensures

pub is_nullable-returns-else-is_nullable : goal.is_nullable-returns-else-is_nullable
is_nullable-returns-else-is_nullable t c =
    diff-else c.args.regex.now c.r-item.result c.in-Diff.rs c.as_slice-in-Diff.result.now c.is_nullable.result c.in-Diff.is c.as_slice-in-Diff.ensures c.in-len1-up.len_at_least c.r-item.is c.if-is_nullable.false c.is_nullable.ensures.1

pub all_nullable-returns : goal.all_nullable-returns
all_nullable-returns t c =
    (λ q. all-nil c.args.rs.now (λ k d l. c.loop-r.invariant k d (omega arith)), λ q. refl)

pub all_nullable-returns-then-not-is_nullable : goal.all_nullable-returns-then-not-is_nullable
all_nullable-returns-then-not-is_nullable t c =
    (λ q. absurd (is-never q), λ h. c.if-not-is_nullable.ensures.1 (subst (λ z. In z []) (sym c.r-item.is) (all-nil-at c.args.rs.now c.loop-r.r-index c.r-item.result c.loop-r-test.true h)))

pub one_nullable-returns : goal.one_nullable-returns
one_nullable-returns t c =
    (λ q. absurd (is-never q), λ h. absurd (never-one c.args.rs.now (λ k d l. c.loop-r.invariant k d (omega arith)) h))

pub one_nullable-returns-then-is_nullable : goal.one_nullable-returns-then-is_nullable
one_nullable-returns-then-is_nullable t c =
    (λ q. one-nil c.args.rs.now c.loop-r.r-index c.r-item.result c.loop-r-test.true (subst (λ z. In z []) c.r-item.is (c.if-is_nullable.ensures.0 refl)), λ q. refl)
