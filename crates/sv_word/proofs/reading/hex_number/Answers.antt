use Rattle.std.proofs.Common.{◌≡◌, ◌<◌, ◌+◌, ◌*◌, take, get_or, ap, sym, ◌∙◌, subst, arith}
use Rattle.std.proofs.lemmas.List.{length-take}
use Rattle.std.proofs.lemmas.Int.Digits.{digits_value_more}
use Rattle.std.specs.Char.{digit_value}
use Rattle.std.specs.Option.{SomeIff}
use Rattle.std.specs.Str.Parse.{digits_value}
use Rattle.sv_word.proofs.HexLemmas.{digit-at, digits-take, value-below}
use Rattle.sv_word.proofs.reading.hex_number.Goals as goal

below : (c : goal.In-loop-b) → c.loop-b.number < 0x10000
below c =
    let few = c.requires.few in
    let front = take c.loop-b.b-index c.args.digits.now in
    rw c.loop-b.invariant (value-below front (digits-take c.loop-b.b-index c.args.digits.now c.requires.hex) (omega (arith, length-take c.loop-b.b-index c.args.digits.now)))

digit : (c : goal.After-unwrap) → c.unwrap.result ≡ digit_value (get_or c.args.digits.now c.loop-b.b-index 0)
digit c =
    (subst (λ o. SomeIff o (digit_value c.from.result < 16) (digit_value c.from.result)) c.unwrap.ensures c.to_digit.ensures.value).1
    ∙ ap digit_value c.from.ensures

pub overflow_mul-number : goal.overflow_mul-number
overflow_mul-number c = let few = below c in omega arith

pub unwrap-requires : goal.unwrap-requires
unwrap-requires c =
    c.to_digit.ensures.succeeds (rw c.from.ensures (digit-at c.args.digits.now c.requires.hex c.loop-b.b-index 0 (omega arith)))

pub overflow_add-number : goal.overflow_add-number
overflow_add-number c =
    let front = take c.loop-b.b-index c.args.digits.now in
    let few = c.requires.few in
    let low : c.loop-b.number < 0x10000 =
    rw c.loop-b.invariant (value-below front (digits-take c.loop-b.b-index c.args.digits.now c.requires.hex) (omega (arith, length-take c.loop-b.b-index c.args.digits.now))) in
    let small : c.unwrap.result < 16 = rw (digit c) (digit-at c.args.digits.now c.requires.hex c.loop-b.b-index 0 (omega arith)) in
    omega arith

pub loop-b-preserved : goal.loop-b-preserved
loop-b-preserved c =
    ap (λ n. n * 16 + c.unwrap.result) c.loop-b.invariant
    ∙ ap (λ d. digits_value 16 (take c.loop-b.b-index c.args.digits.now) * 16 + d) (digit c)
    ∙ sym (digits_value_more 16 c.args.digits.now c.loop-b.b-index (omega arith))
