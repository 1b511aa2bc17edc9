use Rattle.std.proofs.Common.{rules, FitsSigned, ◌≡◌, ℕ, ◌+◌, ◌<◌, ◌≤◌, List, [], ◌∷◌, ◌++◌, length, get_or, drop, Option, Some, None, append-nil, append_assoc, refl, ap, sym, ◌∙◌}
use Rattle.std.specs.Int.{w32}
use Rattle.std.specs.Option.{option_map}
use Rattle.std.proofs.lemmas.Int.{to_z-of_z}
use Rattle.std.proofs.lemmas.List.{drop_more, drop_all}
use Rattle.sv_terms.specs.Language.{Word}
use Rattle.sv_terms.specs.declared.transducer.Item.{Item}
use Rattle.sv_terms.specs.Transduction.{item_at, then_word, written_at}
use Rattle.transducer_core.proofs.writing.text_at.Goals as goal
use Rattle.transducer_core.proofs.writing.text_at.Goals.{in-Text+in_ok-append-in-Text, in-Shift+in-Some+in_ok-push-in-Some}

then-after : (v w : Word) (o : Option Word) → then_word (Some v) (then_word (Some w) o) ≡ then_word (Some (v ++ w)) o
then-after v w None = refl
then-after v w (Some u) = ap Some (sym (append_assoc v w u))

written-first : (c : ℕ) (items : List Item) (text : Word) → text ≡ [] → written_at c items ≡ then_word (Some text) (written_at c (drop 0 items))
written-first c [] text none = ap Some (sym (append-nil text ∙ none))
written-first c (i ∷ is) text none = rw none (by_rest (written_at c (i ∷ is)))
  where
    by_rest : (o : Option Word) → o ≡ then_word (Some []) o
    by_rest None = refl
    by_rest (Some w) = refl

-- what an item writes comes behind the text so far
written-next : (c : ℕ) (items : List Item) (i : ℕ) (x : Item) (text : Word) → i < length items → x ≡ get_or items i x
    → written_at c items ≡ then_word (Some text) (written_at c (drop i items)) → written_at c items ≡ then_word (Some text) (then_word (item_at c x) (written_at c (drop (i + 1) items)))
written-next c items i x text lt is e = e ∙ ap (λ l. then_word (Some text) (written_at c l)) (drop_more items i x lt ∙ ap (λ y. y ∷ drop (i + 1) items) (sym is))

written-more : (c : ℕ) (items : List Item) (i : ℕ) (x : Item) (text w new : Word) → i < length items → x ≡ get_or items i x → item_at c x ≡ Some w → new ≡ text ++ w
    → written_at c items ≡ then_word (Some text) (written_at c (drop i items)) → written_at c items ≡ then_word (Some new) (written_at c (drop (i + 1) items))
written-more c items i x text w new lt is writes grown e =
    written-next c items i x text lt is e ∙ ap (λ o. then_word (Some text) (then_word o (written_at c (drop (i + 1) items)))) writes
    ∙ then-after text w (written_at c (drop (i + 1) items)) ∙ ap (λ v. then_word (Some v) (written_at c (drop (i + 1) items))) (sym grown)

written-never : (c : ℕ) (items : List Item) (i : ℕ) (x : Item) (text : Word) → i < length items → x ≡ get_or items i x → item_at c x ≡ None
    → written_at c items ≡ then_word (Some text) (written_at c (drop i items)) → None ≡ written_at c items
written-never c items i x text lt is never e =
    sym (written-next c items i x text lt is e ∙ ap (λ o. then_word (Some text) (then_word o (written_at c (drop (i + 1) items)))) never)

written-all : (c : ℕ) (items : List Item) (i : ℕ) (text : Word) → length items ≤ i → written_at c items ≡ then_word (Some text) (written_at c (drop i items)) → Some text ≡ written_at c items
written-all c items i text past e =
    sym (e ∙ ap (λ l. then_word (Some text) (written_at c l)) (drop_all i items past) ∙ ap Some (append-nil text))

pub loop-item-init : goal.loop-item-init
loop-item-init c = written-first c.args.c c.args.items.now c.new-text.result c.new-text.ensures

pub returns-in-None : goal.returns-in-None
returns-in-None c =
    let fits : FitsSigned w32 c.in-Shift.by = search rules in
    let never : item_at c.args.c c.item-item.result ≡ None =
    ap (item_at c.args.c) c.in-Shift.is ∙ ap (option_map (λ d. d ∷ [])) (sym (rw (to_z-of_z w32 c.in-Shift.by fits) at c.in-None.ensures)) in
    written-never c.args.c c.args.items.now c.loop-item.item-index c.item-item.result c.loop-item.text c.loop-item-test.true c.item-item.is never c.loop-item.invariant

pub loop-item-preserved : goal.loop-item-preserved
loop-item-preserved c = elim c.match-item.branch [
  | in-Text+in_ok-append-in-Text w ↦
      written-more c.args.c c.args.items.now c.loop-item.item-index c.item-item.result c.loop-item.text w.in-Text.word c.match-item.text c.loop-item-test.true c.item-item.is
      (ap (item_at c.args.c) w.in-Text.is) (w.text-is ∙ w.in_ok-append-in-Text.ensures.ok) c.loop-item.invariant
  | in-Shift+in-Some+in_ok-push-in-Some w ↦
      let fits : FitsSigned w32 w.in-Shift.by = search rules in
      written-more c.args.c c.args.items.now c.loop-item.item-index c.item-item.result c.loop-item.text (w.in-Some.d ∷ []) c.match-item.text c.loop-item-test.true c.item-item.is
      (ap (item_at c.args.c) w.in-Shift.is ∙ ap (option_map (λ d. d ∷ [])) (sym (rw (to_z-of_z w32 w.in-Shift.by fits) at w.in-Some.ensures))) (w.text-is ∙ w.in_ok-push-in-Some.ensures.ok) c.loop-item.invariant
]

pub returns : goal.returns
returns c = written-all c.args.c c.args.items.now c.loop-item.item-index c.loop-item.text c.loop-item-test.false c.loop-item.invariant
