-- What commands make of parts in the number that they take.
use Rattle.std.proofs.Common.{◌≡◌, sym, ap, ◌∙◌, ◌<◌, ◌≤◌, Bool, true, false, ◌&&◌, List, [], ◌∷◌, length, map, get_or, Some, None, Result, Err, arith}
use Rattle.sexpr_reader.specs.declared.sexpr.Sexpr.{Sexpr}
use Rattle.smt_names.specs.declared.check_fault.CheckFault.{CheckFault}
use Rattle.smt_names.specs.declared.check_fault.CheckFault.TheVariants as fault
use Rattle.sort_check.specs.declared.commands.Command.{Command}
use Rattle.sort_check.specs.Checking.{assumptions, check_assuming, declaration, declare_const, define_fun, definition, define_transducer, get_value, machine, values}
use Rattle.item_passes.specs.Binders.{is_variable}
use Rattle.smt_names.specs.Answering.{answers-same}
use Rattle.smt_names.specs.Faults.{Answers, and_then, need, or_fault, ◌>>◌}
use Rattle.smt_names.specs.Form.{Form, Forms, forms, seen, end, ◌⨾◌, are_all}
use Rattle.smt_names.specs.Shapes.{two-seen}
use Rattle.smt_names.specs.Signature.{Name}
use Rattle.smt_names.specs.Tokens.{is_sort_form, listed, symbol}
use Rattle.term_walk.specs.Meant.{Names}
use Rattle.transducer_form.specs.Written.{DescriptionForm, description_form}

pub four-seen : (xs : List Sexpr) (x y z w : Sexpr) → 4 ≤ length xs → length xs < 5 → x ≡ get_or xs 0 x → y ≡ get_or xs 1 y → z ≡ get_or xs 2 z → w ≡ get_or xs 3 w → forms (map seen xs) ≡ seen x ⨾ seen y ⨾ seen z ⨾ seen w ⨾ end
four-seen [] x y z w h k e f g q = absurd (omega (arith, h))
four-seen (a ∷ []) x y z w h k e f g q = absurd (omega (arith, h))
four-seen (a ∷ b ∷ []) x y z w h k e f g q = absurd (omega (arith, h))
four-seen (a ∷ b ∷ c ∷ []) x y z w h k e f g q = absurd (omega (arith, h))
four-seen (a ∷ b ∷ c ∷ d ∷ []) x y z w h k e f g q = λ i. seen (sym e i) ⨾ seen (sym f i) ⨾ seen (sym g i) ⨾ seen (sym q i) ⨾ end
four-seen (a ∷ b ∷ c ∷ d ∷ m ∷ xs) x y z w h k e f g q = absurd (omega (arith, k))

pub five-seen : (xs : List Sexpr) (x y z w v : Sexpr) → 5 ≤ length xs → length xs < 6 → x ≡ get_or xs 0 x → y ≡ get_or xs 1 y → z ≡ get_or xs 2 z → w ≡ get_or xs 3 w → v ≡ get_or xs 4 v → forms (map seen xs) ≡ seen x ⨾ seen y ⨾ seen z ⨾ seen w ⨾ seen v ⨾ end
five-seen [] x y z w v h k e f g q r = absurd (omega (arith, h))
five-seen (a ∷ []) x y z w v h k e f g q r = absurd (omega (arith, h))
five-seen (a ∷ b ∷ []) x y z w v h k e f g q r = absurd (omega (arith, h))
five-seen (a ∷ b ∷ c ∷ []) x y z w v h k e f g q r = absurd (omega (arith, h))
five-seen (a ∷ b ∷ c ∷ d ∷ []) x y z w v h k e f g q r = absurd (omega (arith, h))
five-seen (a ∷ b ∷ c ∷ d ∷ m ∷ []) x y z w v h k e f g q r = λ i. seen (sym e i) ⨾ seen (sym f i) ⨾ seen (sym g i) ⨾ seen (sym q i) ⨾ seen (sym r i) ⨾ end
five-seen (a ∷ b ∷ c ∷ d ∷ m ∷ n ∷ xs) x y z w v h k e f g q r = absurd (omega (arith, k))

pub const-declared : (symbols : Names) (xs : List Sexpr) (n s : Sexpr) (r : Result Command CheckFault) → 2 ≤ length xs → length xs < 3 → n ≡ get_or xs 0 n → s ≡ get_or xs 1 s → Answers (declaration symbols (seen n) (seen s)) r → Answers (declare_const symbols (forms (map seen xs))) r
const-declared symbols xs n s r h k e f a = answers-same (declaration symbols (seen n) (seen s)) (declare_const symbols (forms (map seen xs))) r (ap (declare_const symbols) (two-seen xs n s h k e f)) a

module _ (symbols : Names) (fs : Forms) where
  module _ (t : Form) (is_ : fs ≡ t ⨾ end) where
    pub values-listed : (ts : Forms) (r : Result Command CheckFault) → Some ts ≡ listed t → Answers (values symbols ts) r → Answers (get_value symbols fs) r
    values-listed ts r e a = answers-same (values symbols ts) (get_value symbols fs) r (ap (get_value symbols) is_ ∙ ap (λ o. and_then (values symbols) (or_fault fault.Shape o)) (sym e)) a

    pub values-none : None ≡ listed t → get_value symbols fs ≡ Err fault.Shape
    values-none e = ap (get_value symbols) is_ ∙ ap (λ o. and_then (values symbols) (or_fault fault.Shape o)) (sym e)

    pub assuming-listed : (ts : Forms) (r : Result Command CheckFault) → Some ts ≡ listed t → Answers (assumptions symbols ts) r → Answers (check_assuming symbols fs) r
    assuming-listed ts r e a = answers-same (assumptions symbols ts) (check_assuming symbols fs) r (ap (check_assuming symbols) is_ ∙ ap (λ o. and_then (assumptions symbols) (or_fault fault.Shape o)) (sym e)) a

    pub assuming-none : None ≡ listed t → check_assuming symbols fs ≡ Err fault.Shape
    assuming-none e = ap (check_assuming symbols) is_ ∙ ap (λ o. and_then (assumptions symbols) (or_fault fault.Shape o)) (sym e)

  module _ (n ps s t : Form) (is_ : fs ≡ n ⨾ ps ⨾ s ⨾ t ⨾ end) where
    abbrev with_parameters : Forms → Result Command CheckFault
    with_parameters vs = need (are_all is_variable vs && is_sort_form s) fault.Shape >> and_then (λ m. definition symbols m vs s t) (or_fault fault.Shape (symbol n))

    pub fun-none : None ≡ listed ps → define_fun symbols fs ≡ Err fault.Shape
    fun-none e = ap (define_fun symbols) is_ ∙ ap (λ o. and_then with_parameters (or_fault fault.Shape o)) (sym e)

    module _ (vs : Forms) (e : Some vs ≡ listed ps) where
      fun-listed : define_fun symbols fs ≡ with_parameters vs
      fun-listed = ap (define_fun symbols) is_ ∙ ap (λ o. and_then with_parameters (or_fault fault.Shape o)) (sym e)

      pub fun-variables : (b : Bool) → b ≡ are_all is_variable vs → b ≡ false → define_fun symbols fs ≡ Err fault.Shape
      fun-variables b p q = fun-listed ∙ ap (λ a. need (a && is_sort_form s) fault.Shape >> and_then (λ m. definition symbols m vs s t) (or_fault fault.Shape (symbol n))) (sym p ∙ q)

      module _ (b d : Bool) (p : b ≡ are_all is_variable vs) (q : b ≡ true) (u : d ≡ is_sort_form s) where
        fun-tested : define_fun symbols fs ≡ (need d fault.Shape >> and_then (λ m. definition symbols m vs s t) (or_fault fault.Shape (symbol n)))
        fun-tested = fun-listed ∙ (λ i. need ((sym p ∙ q) i && sym u i) fault.Shape >> and_then (λ m. definition symbols m vs s t) (or_fault fault.Shape (symbol n)))

        pub fun-sort : d ≡ false → define_fun symbols fs ≡ Err fault.Shape
        fun-sort v = fun-tested ∙ ap (λ a. need a fault.Shape >> and_then (λ m. definition symbols m vs s t) (or_fault fault.Shape (symbol n))) v

        fun-formed : d ≡ true → define_fun symbols fs ≡ and_then (λ m. definition symbols m vs s t) (or_fault fault.Shape (symbol n))
        fun-formed v = fun-tested ∙ ap (λ a. need a fault.Shape >> and_then (λ m. definition symbols m vs s t) (or_fault fault.Shape (symbol n))) v

        pub fun-unnamed : d ≡ true → None ≡ symbol n → define_fun symbols fs ≡ Err fault.Shape
        fun-unnamed v w = fun-formed v ∙ ap (λ o. and_then (λ m. definition symbols m vs s t) (or_fault fault.Shape o)) (sym w)

        pub fun-defined : (m : Name) (r : Result Command CheckFault) → d ≡ true → Some m ≡ symbol n → Answers (definition symbols m vs s t) r → Answers (define_fun symbols fs) r
        fun-defined m r v w a = answers-same (definition symbols m vs s t) (define_fun symbols fs) r (fun-formed v ∙ ap (λ o. and_then (λ m. definition symbols m vs s t) (or_fault fault.Shape o)) (sym w)) a

  module _ (n states start edges ends : Form) (is_ : fs ≡ n ⨾ states ⨾ start ⨾ edges ⨾ ends ⨾ end) where
    pub machine-none : None ≡ description_form states start edges ends → define_transducer symbols fs ≡ Err fault.Shape
    machine-none e = ap (define_transducer symbols) is_ ∙ ap (λ o. and_then (λ d. and_then (machine symbols d) (or_fault fault.Shape (symbol n))) (or_fault fault.Shape o)) (sym e)

    module _ (d : DescriptionForm) (e : Some d ≡ description_form states start edges ends) where
      machine-described : define_transducer symbols fs ≡ and_then (machine symbols d) (or_fault fault.Shape (symbol n))
      machine-described = ap (define_transducer symbols) is_ ∙ ap (λ o. and_then (λ d. and_then (machine symbols d) (or_fault fault.Shape (symbol n))) (or_fault fault.Shape o)) (sym e)

      pub machine-unnamed : None ≡ symbol n → define_transducer symbols fs ≡ Err fault.Shape
      machine-unnamed w = machine-described ∙ ap (λ o. and_then (machine symbols d) (or_fault fault.Shape o)) (sym w)

      pub machine-defined : (m : Name) (r : Result Command CheckFault) → Some m ≡ symbol n → Answers (machine symbols d m) r → Answers (define_transducer symbols fs) r
      machine-defined m r w a = answers-same (machine symbols d m) (define_transducer symbols fs) r (machine-described ∙ ap (λ o. and_then (machine symbols d) (or_fault fault.Shape o)) (sym w)) a
