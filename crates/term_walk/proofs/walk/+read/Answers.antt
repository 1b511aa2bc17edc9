use Rattle.std.proofs.Common.{◌≡◌, refl, sym, ap, subst, ◌∙◌, false, ◌-◌, ◌+◌, ◌∷◌, [], ◌++◌, take, drop, map, length, Ok, Err, List, ℕ, Result, arith}
use Rattle.std.proofs.lemmas.Grind.{common_steps}
use Rattle.std.proofs.lemmas.Result.{err_from_is_err_and}
use Rattle.sexpr_reader.specs.declared.sexpr.Sexpr.TheVariants as v
use Rattle.smt_names.specs.declared.opening.Opening.TheVariants as o
use Rattle.smt_names.specs.Form.{forms, seen, end, ◌⨾◌}
use Rattle.term_walk.specs.Meant.{Head, any_size, as_constants, head, in_parentheses, meant, meant_all, meant_annotated, meant_let, meant_quantifier, meant_value, renamed}
use Rattle.term_walk.specs.Heads.{kept}
use Rattle.smt_names.specs.declared.check_fault.CheckFault.{CheckFault}
use Rattle.smt_names.specs.Signature.{Name}
use Rattle.sv_list.specs.Lists.{ok-no_err}
use Rattle.term_walk.specs.Walks.{Each, Bound, Read, Here, ReadsMeaning}
use Rattle.term_walk.proofs.Reading.{fault-first, gathered, single, each-grow, each-append, bound-grow, bound-append}
use Rattle.smt_names.specs.Shapes.{none-seen, two-seen, seen-List, seen-Atom, count-seen}
use Rattle.term_walk.proofs.Termwise.{atom-read, list-read, arm-read, annotated-read, application-read, application-none, application-count, application-fault, go-on, gather-none, gather-next, gather-fault, gather-end, single-read, single-fault, all-read, values-read, rest-seen, within-read, quantifier-read, quantifier-fault, quantifier-unbound, let-unbound, let-few, let-many, quantifier-few, quantifier-many, empty-shape, binding-seen, value-read, value-fault, value-few, value-many, let-read, let-fault, at-least, at-most-none}
use Rattle.term_walk.proofs.Walking.{answered}
use Rattle.term_walk.proofs.walk.+read.Goals as goal

pub read-returns-in-Atom : goal.read-returns-in-Atom
read-returns-in-Atom t c = λ s b. atom-read c.args.symbols.now s c.args.walk.now c.read_token.new.walk c.read_token.result c.args.item.now c.in-Atom.kind c.as_slice.result.now (c.in-Atom.is ∙ ap (v.Atom c.in-Atom.kind) (sym c.as_slice.ensures)) (c.read_token.ensures s b)

pub read_all-loop-item-init : goal.read_all-loop-item-init
read_all-loop-item-init t c = λ s b. subst (λ (z : List ℕ). Read Each (λ t. gathered (λ f. single (meant t c.args.symbols.now s f)) (map seen (take 0 c.args.items.now))) c.args.walk.now c.args.walk.now z) (sym c.new-all.ensures) (gather-none Each each-grow each-append (λ t f. single (meant t c.args.symbols.now s f)) c.args.walk.now refl)

pub read_all-loop-item-preserved : goal.read_all-loop-item-preserved
read_all-loop-item-preserved t c =
    λ s b.
    let a = c.loop-item.invariant s b in
    subst (λ (z : List ℕ). Read Each (λ t. gathered (λ f. single (meant t c.args.symbols.now s f)) (map seen (take (c.loop-item.item-index + 1) c.args.items.now))) c.args.walk.now c.read.new.walk z) (sym c.in_ok-push.ensures.ok)
    (gather-next Each each-grow each-append (λ t f. single (meant t c.args.symbols.now s f)) c.args.items.now c.loop-item.item-index c.item-item.result c.args.walk.now c.loop-item.walk c.read.new.walk c.loop-item.all (c.in_ok-read.field-0 ∷ []) c.loop-item-test.true c.item-item.is a
    (single-read (λ t. meant t c.args.symbols.now s (seen c.item-item.result)) c.loop-item.walk c.read.new.walk c.in_ok-read.field-0 (c.in_ok-read.ensures s (go-on s c.args.walk.now c.loop-item.walk c.loop-item.all a b))))

pub read_all-returns : goal.read_all-returns
read_all-returns t c = λ s b. all-read c.args.symbols.now s c.args.items.now c.args.walk.now c.loop-item.walk (Ok c.loop-item.all) (gather-end Each each-grow each-append (λ t f. single (meant t c.args.symbols.now s f)) c.args.items.now c.loop-item.item-index c.args.walk.now c.loop-item.walk c.loop-item.all (omega arith) (c.loop-item.invariant s b))

pub read_application-returns : goal.read_application-returns
read_application-returns t c =
    λ s b.
    let a = c.in_ok-places.ensures s b in
    subst (λ (r : Result Head CheckFault). ReadsMeaning Here (λ t. in_parentheses r (length c.args.rest.now) (meant_all t c.args.symbols.now s (forms (map seen c.args.rest.now)))) c.args.walk.now c.apply.new.walk c.apply.result) (sym c.in_ok-head.ensures)
    (application-read c.args.symbols.now s c.args.walk.now c.read_all.new.walk c.apply.new.walk (forms (map seen c.args.rest.now)) (length c.args.rest.now) (kept c.in_ok-head.head) c.in_ok-places.places c.apply.result (at-least c.args.rest.now (sym c.is_empty.ensures ∙ c.if-is_empty.false)) (sym c.takes_count.ensures ∙ c.if-not-takes_count.false) a c.apply.ensures)

pub read_let-returns-in_ok-bound-in-List : goal.read_let-returns-in_ok-bound-in-List
read_let-returns-in_ok-bound-in-List t c =
    λ s b.
    let a = c.in_ok-bound-in-List.ensures s b in
    let-read c.args.symbols.now s c.args.walk.now c.read_values.new.walk c.read_within.new.walk c.as_slice-bindings.result.now (seen c.body-item.result) (forms (map seen c.args.parts.now)) c.in_ok-bound-in-List.bound c.read_within.result (two-seen c.args.parts.now c.bindings-item.result c.body-item.result c.in-len2.len_at_least c.in-len2.len_below c.bindings-item.is c.body-item.is ∙ ap (λ z. z ⨾ seen c.body-item.result ⨾ end) (ap seen (c.in-List.is ∙ ap v.List (sym c.as_slice-bindings.ensures)) ∙ seen-List c.as_slice-bindings.result.now)) (sym c.if-not-are_bindings.ensures) a (c.read_within.ensures s a.what (go-on s c.args.walk.now c.read_values.new.walk c.in_ok-bound-in-List.bound a b) a.there)

pub read_values-loop-binding-init : goal.read_values-loop-binding-init
read_values-loop-binding-init t c = λ s b. subst (λ (z : List (Name × ℕ)). Read Bound (λ t. gathered (meant_value t c.args.symbols.now s) (map seen (take 0 c.args.bindings.now))) c.args.walk.now c.args.walk.now z) (sym c.new-all.ensures) (gather-none Bound bound-grow bound-append (λ t. meant_value t c.args.symbols.now s) c.args.walk.now tt)

pub read_values-loop-binding-preserved : goal.read_values-loop-binding-preserved
read_values-loop-binding-preserved t c =
    λ s b.
    let a = c.loop-binding.invariant s b in
    subst (λ (z : List (Name × ℕ)). Read Bound (λ t. gathered (meant_value t c.args.symbols.now s) (map seen (take (c.loop-binding.binding-index + 1) c.args.bindings.now))) c.args.walk.now c.read_value.new.walk z) (sym c.in_ok-append.ensures.ok)
    (gather-next Bound bound-grow bound-append (λ t. meant_value t c.args.symbols.now s) c.args.bindings.now c.loop-binding.binding-index c.binding-item.result c.args.walk.now c.loop-binding.walk c.read_value.new.walk c.loop-binding.all c.in_ok-read_value.field-0 c.loop-binding-test.true c.binding-item.is a
    (c.in_ok-read_value.ensures s (go-on s c.args.walk.now c.loop-binding.walk c.loop-binding.all a b)))

pub read_values-returns : goal.read_values-returns
read_values-returns t c = λ s b. values-read c.args.symbols.now s c.args.bindings.now c.args.walk.now c.loop-binding.walk (Ok c.loop-binding.all) (gather-end Bound bound-grow bound-append (λ t. meant_value t c.args.symbols.now s) c.args.bindings.now c.loop-binding.binding-index c.args.walk.now c.loop-binding.walk c.loop-binding.all (omega arith) (c.loop-binding.invariant s b))

pub read_value-returns-in_ok-place-in-len2 : goal.read_value-returns-in_ok-place-in-len2
read_value-returns-in_ok-place-in-len2 t c = λ s b. value-read c.args.symbols.now s (seen c.args.binding.now) (seen c.name-item.result) (seen c.value-item.result) c.args.walk.now c.read.new.walk c.note_value.new.walk c.in_ok-place-in-len2.place c.note_value.result (binding-seen c.args.binding.now c.as_slice.result.now (c.in-List.is ∙ ap v.List (sym c.as_slice.ensures)) c.name-item.result c.value-item.result c.in-len2.len_at_least c.in-len2.len_below c.name-item.is c.value-item.is) (c.in_ok-place-in-len2.ensures s b) (c.note_value.ensures (c.in_ok-place-in-len2.ensures s b).what (c.in_ok-place-in-len2.ensures s b).there)

pub read_value-returns-in_default : goal.read_value-returns-in_default
read_value-returns-in_default t c =
    λ s b.
    let few = value-few c.args.binding.now c.as_slice.result.now (c.in-List.is ∙ ap v.List (sym c.as_slice.ensures)) any_size c.args.symbols.now s in
    let many = value-many c.args.binding.now c.as_slice.result.now (c.in-List.is ∙ ap v.List (sym c.as_slice.ensures)) any_size c.args.symbols.now s in
    grind (arith, common_steps, few, many)

pub read_value-returns-in-Atom : goal.read_value-returns-in-Atom
read_value-returns-in-Atom t c = λ s b. ap (meant_value any_size c.args.symbols.now s) (ap seen c.in-Atom.is ∙ seen-Atom c.in-Atom.field-0 c.in-Atom.field-1)

pub read_within-returns : goal.read_within-returns
read_within-returns t c =
    λ s q b d.
    let e : c.bind.new.scope ≡ c.args.walk.now.scope ++ c.args.bound = c.in_ok-bind.ensures ∙ ap (λ z. c.args.walk.now.scope ++ z) c.as_slice.ensures in
    let k : Bound c.args.walk.now.draft c.bind.new.scope (s ++ q) = subst (λ (z : List (Name × ℕ)). Bound c.args.walk.now.draft z (s ++ q)) (sym e) (bound-append c.args.walk.now.draft c.args.walk.now.scope c.args.bound s q b d) in
    within-read (λ t. meant t c.args.symbols.now (s ++ q) (seen c.args.body.now)) c.args.walk.now (record c.args.walk.now { scope = c.bind.new.scope }) c.read.new.walk (record c.read.new.walk { scope = c.leave.new.self }) c.args.bound c.in_ok-place.place c.len-mark.result e refl refl c.len-mark.ensures (c.in_ok-place.ensures (s ++ q) k) (ap (λ z. record c.read.new.walk { scope = z }) c.leave.ensures)

pub read_quantifier-returns-in_ok-place-in-List : goal.read_quantifier-returns-in_ok-place-in-List
read_quantifier-returns-in_ok-place-in-List t c =
    λ s b.
    let first = c.in_ok-constants-in-List.ensures in
    let second = c.in_ok-place-in-List.ensures s first.what (go-on s c.args.walk.now c.constants.new.walk c.in_ok-constants-in-List.constants first b) first.there in
    quantifier-read c.args.symbols.now s c.as_slice-bound.result.now (seen c.body-item.result) (forms (map seen c.args.parts.now)) (two-seen c.args.parts.now c.bound-item.result c.body-item.result c.in-len2.len_at_least c.in-len2.len_below c.bound-item.is c.body-item.is ∙ ap (λ z. z ⨾ seen c.body-item.result ⨾ end) (ap seen (c.in-List.is ∙ ap v.List (sym c.as_slice-bound.ensures)) ∙ seen-List c.as_slice-bound.result.now)) c.args.walk.now c.constants.new.walk c.read_within.new.walk c.quantify.new.walk c.as_slice.result.now c.in_ok-constants-in-List.constants c.in_ok-place-in-List.place c.quantify.result (sym c.if-not-are_variables.ensures) (c.as_slice.ensures ∙ c.in_ok-variables-in-List.ensures) first second (c.quantify.ensures second.what second.there)

pub read-returns-in-Let : goal.read-returns-in-Let
read-returns-in-Let t c = λ s b. list-read c.args.symbols.now s c.args.walk.now c.read_let.new.walk c.read_let.result c.args.item.now c.in-List.items c.as_slice-in-List.result.now c.in-List.is c.as_slice-in-List.ensures (arm-read c.args.symbols.now s c.args.walk.now c.read_let.new.walk c.read_let.result (forms (map seen c.as_slice-in-List.result.now)) (forms (map seen (take (length c.as_slice-in-List.result.now - 1) (drop 1 c.as_slice-in-List.result.now)))) (seen c.first-item.result) o.Let (rest-seen c.as_slice-in-List.result.now c.first-item.result c.in-len1-up.len_at_least c.first-item.is) (sym c.opening.ensures ∙ c.in-Let.is) (c.read_let.ensures s b))

pub read-returns-in-Quantifier : goal.read-returns-in-Quantifier
read-returns-in-Quantifier t c = λ s b. list-read c.args.symbols.now s c.args.walk.now c.read_quantifier.new.walk c.read_quantifier.result c.args.item.now c.in-List.items c.as_slice-in-List.result.now c.in-List.is c.as_slice-in-List.ensures (arm-read c.args.symbols.now s c.args.walk.now c.read_quantifier.new.walk c.read_quantifier.result (forms (map seen c.as_slice-in-List.result.now)) (forms (map seen (take (length c.as_slice-in-List.result.now - 1) (drop 1 c.as_slice-in-List.result.now)))) (seen c.first-item.result) o.Quantifier (rest-seen c.as_slice-in-List.result.now c.first-item.result c.in-len1-up.len_at_least c.first-item.is) (sym c.opening.ensures ∙ c.in-Quantifier.is) (c.read_quantifier.ensures s b))

pub read-returns-in-Annotation : goal.read-returns-in-Annotation
read-returns-in-Annotation t c = λ s b. list-read c.args.symbols.now s c.args.walk.now c.read_annotated.new.walk c.read_annotated.result c.args.item.now c.in-List.items c.as_slice-in-List.result.now c.in-List.is c.as_slice-in-List.ensures (arm-read c.args.symbols.now s c.args.walk.now c.read_annotated.new.walk c.read_annotated.result (forms (map seen c.as_slice-in-List.result.now)) (forms (map seen (take (length c.as_slice-in-List.result.now - 1) (drop 1 c.as_slice-in-List.result.now)))) (seen c.first-item.result) o.Annotation (rest-seen c.as_slice-in-List.result.now c.first-item.result c.in-len1-up.len_at_least c.first-item.is) (sym c.opening.ensures ∙ c.in-Annotation.is) (c.read_annotated.ensures s b))

pub read-returns-in-Identifier : goal.read-returns-in-Identifier
read-returns-in-Identifier t c = λ s b. list-read c.args.symbols.now s c.args.walk.now c.read_identifier.new.walk c.read_identifier.result c.args.item.now c.in-List.items c.as_slice-in-List.result.now c.in-List.is c.as_slice-in-List.ensures (arm-read c.args.symbols.now s c.args.walk.now c.read_identifier.new.walk c.read_identifier.result (forms (map seen c.as_slice-in-List.result.now)) (forms (map seen (take (length c.as_slice-in-List.result.now - 1) (drop 1 c.as_slice-in-List.result.now)))) (seen c.first-item.result) o.Identifier (rest-seen c.as_slice-in-List.result.now c.first-item.result c.in-len1-up.len_at_least c.first-item.is) (sym c.opening.ensures ∙ c.in-Identifier.is) c.read_identifier.ensures)

pub read-returns-in-Application : goal.read-returns-in-Application
read-returns-in-Application t c = λ s b. list-read c.args.symbols.now s c.args.walk.now c.read_application.new.walk c.read_application.result c.args.item.now c.in-List.items c.as_slice-in-List.result.now c.in-List.is c.as_slice-in-List.ensures (arm-read c.args.symbols.now s c.args.walk.now c.read_application.new.walk c.read_application.result (forms (map seen c.as_slice-in-List.result.now)) (forms (map seen (take (length c.as_slice-in-List.result.now - 1) (drop 1 c.as_slice-in-List.result.now)))) (seen c.first-item.result) o.Application (rest-seen c.as_slice-in-List.result.now c.first-item.result c.in-len1-up.len_at_least c.first-item.is) (sym c.opening.ensures ∙ c.in-Application.is) (subst (λ (n : ℕ). ReadsMeaning Here (λ t. in_parentheses (head c.args.symbols.now (seen c.first-item.result)) n (meant_all t c.args.symbols.now s (forms (map seen (take (length c.as_slice-in-List.result.now - 1) (drop 1 c.as_slice-in-List.result.now)))))) c.args.walk.now c.read_application.new.walk c.read_application.result) (sym (count-seen (take (length c.as_slice-in-List.result.now - 1) (drop 1 c.as_slice-in-List.result.now)))) (c.read_application.ensures s b)))

pub read-returns-in-empty : goal.read-returns-in-empty
read-returns-in-empty t c = λ s b. ap (λ z. meant any_size c.args.symbols.now s (seen z)) (c.in-List.is ∙ ap v.List (sym c.as_slice-in-List.ensures)) ∙ ap (meant any_size c.args.symbols.now s) (seen-List c.as_slice-in-List.result.now) ∙ empty-shape any_size c.args.symbols.now s c.as_slice-in-List.result.now c.in-empty.len_below

pub read_annotated-returns-in-len1-up : goal.read_annotated-returns-in-len1-up
read_annotated-returns-in-len1-up t c = λ s b. annotated-read c.args.symbols.now s c.args.walk.now c.read.new.walk c.read.result (forms (map seen c.args.parts.now)) (forms (map seen (take (length c.args.parts.now - 1) (drop 1 c.args.parts.now)))) (seen c.term-item.result) (rest-seen c.args.parts.now c.term-item.result c.in-len1-up.len_at_least c.term-item.is) (c.read.ensures s b)

pub read_let-returns-in_default : goal.read_let-returns-in_default
read_let-returns-in_default t c = λ s b. let-few any_size c.args.symbols.now s c.args.parts.now c.in_default.len_below

pub read_let-returns-in_default-2 : goal.read_let-returns-in_default-2
read_let-returns-in_default-2 t c = λ s b. let-many any_size c.args.symbols.now s c.args.parts.now c.in_default.len_at_least

pub read_quantifier-returns-in_default : goal.read_quantifier-returns-in_default
read_quantifier-returns-in_default t c = λ s b. quantifier-few any_size c.args.symbols.now s c.args.parts.now c.in_default.len_below

pub read_quantifier-returns-in_default-2 : goal.read_quantifier-returns-in_default-2
read_quantifier-returns-in_default-2 t c = λ s b. quantifier-many any_size c.args.symbols.now s c.args.parts.now c.in_default.len_at_least

pub read_quantifier-returns-in-Atom : goal.read_quantifier-returns-in-Atom
read_quantifier-returns-in-Atom t c =
    λ s b. ap (meant_quantifier any_size c.args.symbols.now s) (two-seen c.args.parts.now c.bound-item.result c.body-item.result c.in-len2.len_at_least c.in-len2.len_below c.bound-item.is c.body-item.is ∙ ap (λ z. z ⨾ seen c.body-item.result ⨾ end) (ap seen c.in-Atom.is ∙ seen-Atom c.in-Atom.field-0 c.in-Atom.field-1))

pub read_let-returns-in-Atom : goal.read_let-returns-in-Atom
read_let-returns-in-Atom t c =
    λ s b. ap (meant_let any_size c.args.symbols.now s) (two-seen c.args.parts.now c.bindings-item.result c.body-item.result c.in-len2.len_at_least c.in-len2.len_below c.bindings-item.is c.body-item.is ∙ ap (λ z. z ⨾ seen c.body-item.result ⨾ end) (ap seen c.in-Atom.is ∙ seen-Atom c.in-Atom.field-0 c.in-Atom.field-1))

pub read_annotated-returns-in-empty : goal.read_annotated-returns-in-empty
read_annotated-returns-in-empty t c = λ s b. ap (meant_annotated any_size c.args.symbols.now s) (none-seen c.args.parts.now c.in-empty.len_below)

pub read_all-returns-in_err-read : goal.read_all-returns-in_err-read
read_all-returns-in_err-read t c =
    λ s b.
    let a = c.loop-item.invariant s b in
    let exit = err_from_is_err_and c.from_residual.result c.from_residual.ensures.1 in
    rw (exit.1, exit.2) (all-read c.args.symbols.now s c.args.items.now c.args.walk.now c.read.new.walk (Err c.in_err-read.field-0.0)
    (gather-fault Each each-grow each-append (λ t f. single (meant t c.args.symbols.now s f)) c.args.items.now c.loop-item.item-index c.item-item.result c.args.walk.now c.loop-item.walk c.read.new.walk c.loop-item.all c.in_err-read.field-0.0 c.loop-item-test.true c.item-item.is a
    (single-fault (λ t. meant t c.args.symbols.now s (seen c.item-item.result)) c.loop-item.walk c.read.new.walk c.in_err-read.field-0.0 (c.in_err-read.ensures s (go-on s c.args.walk.now c.loop-item.walk c.loop-item.all a b)))))

pub read_let-returns-in_err-bound-in-List : goal.read_let-returns-in_err-bound-in-List
read_let-returns-in_err-bound-in-List t c =
    λ s b.
    let exit = err_from_is_err_and c.from_residual.result c.from_residual.ensures.1 in
    rw (exit.1, exit.2) (let-fault c.args.symbols.now s c.args.walk.now c.read_values.new.walk c.as_slice-bindings.result.now (seen c.body-item.result) (forms (map seen c.args.parts.now)) c.in_err-bound-in-List.field-0.0 (two-seen c.args.parts.now c.bindings-item.result c.body-item.result c.in-len2.len_at_least c.in-len2.len_below c.bindings-item.is c.body-item.is ∙ ap (λ z. z ⨾ seen c.body-item.result ⨾ end) (ap seen (c.in-List.is ∙ ap v.List (sym c.as_slice-bindings.ensures)) ∙ seen-List c.as_slice-bindings.result.now)) (sym c.if-not-are_bindings.ensures) (c.in_err-bound-in-List.ensures s b))

pub read_values-returns-in_err-read_value : goal.read_values-returns-in_err-read_value
read_values-returns-in_err-read_value t c =
    λ s b.
    let a = c.loop-binding.invariant s b in
    let exit = err_from_is_err_and c.from_residual.result c.from_residual.ensures.1 in
    rw (exit.1, exit.2) (values-read c.args.symbols.now s c.args.bindings.now c.args.walk.now c.read_value.new.walk (Err c.in_err-read_value.field-0.0)
    (gather-fault Bound bound-grow bound-append (λ t. meant_value t c.args.symbols.now s) c.args.bindings.now c.loop-binding.binding-index c.binding-item.result c.args.walk.now c.loop-binding.walk c.read_value.new.walk c.loop-binding.all c.in_err-read_value.field-0.0 c.loop-binding-test.true c.binding-item.is a
    (c.in_err-read_value.ensures s (go-on s c.args.walk.now c.loop-binding.walk c.loop-binding.all a b))))

pub read_value-returns-in_err-place-in-len2 : goal.read_value-returns-in_err-place-in-len2
read_value-returns-in_err-place-in-len2 t c =
    λ s b.
    let exit = err_from_is_err_and c.from_residual.result c.from_residual.ensures.1 in
    rw (exit.1, exit.2) (value-fault c.args.symbols.now s (seen c.args.binding.now) (seen c.name-item.result) (seen c.value-item.result) c.args.walk.now c.read.new.walk c.in_err-place-in-len2.field-0.0 (binding-seen c.args.binding.now c.as_slice.result.now (c.in-List.is ∙ ap v.List (sym c.as_slice.ensures)) c.name-item.result c.value-item.result c.in-len2.len_at_least c.in-len2.len_below c.name-item.is c.value-item.is) (c.in_err-place-in-len2.ensures s b))

pub read_within-returns-in_err-place : goal.read_within-returns-in_err-place
read_within-returns-in_err-place t c =
    λ s q b d.
    let e : c.bind.new.scope ≡ c.args.walk.now.scope ++ c.args.bound = c.in_ok-bind.ensures ∙ ap (λ z. c.args.walk.now.scope ++ z) c.as_slice.ensures in
    let k : Bound c.args.walk.now.draft c.bind.new.scope (s ++ q) = subst (λ (z : List (Name × ℕ)). Bound c.args.walk.now.draft z (s ++ q)) (sym e) (bound-append c.args.walk.now.draft c.args.walk.now.scope c.args.bound s q b d) in
    let exit = err_from_is_err_and c.from_residual-in_err-place.result c.from_residual-in_err-place.ensures.1 in
    rw (exit.1, exit.2) (fault-first Here Here (λ t. meant t c.args.symbols.now (s ++ q) (seen c.args.body.now)) (λ t. meant t c.args.symbols.now (s ++ q) (seen c.args.body.now)) c.args.walk.now c.read.new.walk c.read.new.walk c.in_err-place.field-0.0 (λ z h. h) (c.in_err-place.ensures (s ++ q) k))

pub read_quantifier-returns-in_err-place-in-List : goal.read_quantifier-returns-in_err-place-in-List
read_quantifier-returns-in_err-place-in-List t c =
    λ s b.
    let first = c.in_ok-constants-in-List.ensures in
    let exit = err_from_is_err_and c.from_residual-in_err-place-in-List.result c.from_residual-in_err-place-in-List.ensures.1 in
    rw (exit.1, exit.2) (quantifier-fault c.args.symbols.now s c.as_slice-bound.result.now (seen c.body-item.result) (forms (map seen c.args.parts.now)) (two-seen c.args.parts.now c.bound-item.result c.body-item.result c.in-len2.len_at_least c.in-len2.len_below c.bound-item.is c.body-item.is ∙ ap (λ z. z ⨾ seen c.body-item.result ⨾ end) (ap seen (c.in-List.is ∙ ap v.List (sym c.as_slice-bound.ensures)) ∙ seen-List c.as_slice-bound.result.now)) c.args.walk.now c.constants.new.walk c.read_within.new.walk c.as_slice.result.now c.in_ok-constants-in-List.constants c.in_err-place-in-List.field-0.0 (sym c.if-not-are_variables.ensures) (c.as_slice.ensures ∙ c.in_ok-variables-in-List.ensures) first (c.in_err-place-in-List.ensures s first.what (go-on s c.args.walk.now c.constants.new.walk c.in_ok-constants-in-List.constants first b) first.there))

pub read_application-returns-in_err-head : goal.read_application-returns-in_err-head
read_application-returns-in_err-head t c =
    λ s b.
    let exit = err_from_is_err_and c.from_residual.result c.from_residual.ensures.1 in
    rw (exit.1, exit.2) (answered Here (head c.args.symbols.now (seen c.args.first.now)) (λ t. in_parentheses (head c.args.symbols.now (seen c.args.first.now)) (length c.args.rest.now) (meant_all t c.args.symbols.now s (forms (map seen c.args.rest.now)))) c.args.walk.now c.args.walk.now c.in_err-head.field-0.0 (λ e h. ap (λ z. in_parentheses z (length c.args.rest.now) (meant_all any_size c.args.symbols.now s (forms (map seen c.args.rest.now)))) h) c.in_err-head.ensures)

pub read_application-returns-then-is_empty : goal.read_application-returns-then-is_empty
read_application-returns-then-is_empty t c = λ s b. application-none (head c.args.symbols.now (seen c.args.first.now)) (kept c.in_ok-head.head) (length c.args.rest.now) c.in_ok-head.ensures (meant_all any_size c.args.symbols.now s (forms (map seen c.args.rest.now))) (at-most-none (length c.args.rest.now) (sym c.is_empty.ensures ∙ c.if-is_empty.true))

pub read_application-returns-then-not-takes_count : goal.read_application-returns-then-not-takes_count
read_application-returns-then-not-takes_count t c = λ s b. application-count (head c.args.symbols.now (seen c.args.first.now)) (kept c.in_ok-head.head) (length c.args.rest.now) c.in_ok-head.ensures (meant_all any_size c.args.symbols.now s (forms (map seen c.args.rest.now))) (at-least c.args.rest.now (sym c.is_empty.ensures ∙ c.if-is_empty.false)) (sym c.takes_count.ensures ∙ c.if-not-takes_count.true)

pub read_application-returns-in_err-places : goal.read_application-returns-in_err-places
read_application-returns-in_err-places t c =
    λ s b.
    let exit = err_from_is_err_and c.from_residual-in_err-places.result c.from_residual-in_err-places.ensures.1 in
    rw (exit.1, exit.2) (application-fault (head c.args.symbols.now (seen c.args.first.now)) (kept c.in_ok-head.head) (length c.args.rest.now) c.in_ok-head.ensures (λ t. meant_all t c.args.symbols.now s (forms (map seen c.args.rest.now))) c.args.walk.now c.read_all.new.walk c.in_err-places.field-0.0 (at-least c.args.rest.now (sym c.is_empty.ensures ∙ c.if-is_empty.false)) (sym c.takes_count.ensures ∙ c.if-not-takes_count.false) (c.in_err-places.ensures s b))

pub read_let-returns-then-not-are_bindings : goal.read_let-returns-then-not-are_bindings
read_let-returns-then-not-are_bindings t c =
    λ s b. let-unbound any_size c.args.symbols.now s c.as_slice-bindings.result.now (seen c.body-item.result) (forms (map seen c.args.parts.now)) (two-seen c.args.parts.now c.bindings-item.result c.body-item.result c.in-len2.len_at_least c.in-len2.len_below c.bindings-item.is c.body-item.is ∙ ap (λ z. z ⨾ seen c.body-item.result ⨾ end) (ap seen (c.in-List.is ∙ ap v.List (sym c.as_slice-bindings.ensures)) ∙ seen-List c.as_slice-bindings.result.now)) (sym c.if-not-are_bindings.ensures)

pub read_quantifier-returns-then-not-are_variables : goal.read_quantifier-returns-then-not-are_variables
read_quantifier-returns-then-not-are_variables t c =
    λ s b. quantifier-unbound any_size c.args.symbols.now s c.as_slice-bound.result.now (seen c.body-item.result) (forms (map seen c.args.parts.now)) (two-seen c.args.parts.now c.bound-item.result c.body-item.result c.in-len2.len_at_least c.in-len2.len_below c.bound-item.is c.body-item.is ∙ ap (λ z. z ⨾ seen c.body-item.result ⨾ end) (ap seen (c.in-List.is ∙ ap v.List (sym c.as_slice-bound.ensures)) ∙ seen-List c.as_slice-bound.result.now)) (sym c.if-not-are_variables.ensures)

pub read_quantifier-returns-in_err-constants-in-List : goal.read_quantifier-returns-in_err-constants-in-List
read_quantifier-returns-in_err-constants-in-List t c =
    λ s b.
    let exit = err_from_is_err_and c.from_residual-in_err-constants-in-List.result c.from_residual-in_err-constants-in-List.ensures.1 in
    rw (exit.1, exit.2) (fault-first Bound Here (λ t. Ok (as_constants (renamed false) c.as_slice.result.now)) (λ t. meant_quantifier t c.args.symbols.now s (forms (map seen c.args.parts.now))) c.args.walk.now c.constants.new.walk c.constants.new.walk c.in_err-constants-in-List.field-0.0 (λ e h. ok-no_err (as_constants (renamed false) c.as_slice.result.now) e h) c.in_err-constants-in-List.ensures)

pub read_quantifier-returns-in_err-variables-in-List : goal.read_quantifier-returns-in_err-variables-in-List
read_quantifier-returns-in_err-variables-in-List t c = λ s b. let exit = err_from_is_err_and c.from_residual.result c.from_residual.ensures.1 in rw (exit.1, exit.2) tt

pub read_all-returns-in_err-push : goal.read_all-returns-in_err-push
read_all-returns-in_err-push t c = λ s b. let exit = err_from_is_err_and c.from_residual-in_err-push.result c.from_residual-in_err-push.ensures.1 in rw (exit.1, exit.2) tt

pub read_values-returns-in_err-append : goal.read_values-returns-in_err-append
read_values-returns-in_err-append t c = λ s b. let exit = err_from_is_err_and c.from_residual-in_err-append.result c.from_residual-in_err-append.ensures.1 in rw (exit.1, exit.2) tt

pub read_within-returns-in_err-bind : goal.read_within-returns-in_err-bind
read_within-returns-in_err-bind t c = λ s q b d. let exit = err_from_is_err_and c.from_residual.result c.from_residual.ensures.1 in rw (exit.1, exit.2) tt
