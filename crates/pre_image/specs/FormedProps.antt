-- That texts are words is a proposition.
use Rattle.std.specs.Prelude.{ℕ, List, [], ◌∷◌}
use Rattle.std.specs.Coded.{×_prop, le_prop, Unit-prop}
use Rattle.sv_word.specs.Words.{IsWord}
use Rattle.sv_terms.specs.Transduction.{AreItems}
use Rattle.sv_terms.specs.declared.transducer.Item.{Item}
use Rattle.sv_terms.specs.declared.transducer.Item.TheVariants as item

pub word_prop : (w : List ℕ) → IsProp (IsWord w)
word_prop [] = Unit-prop
word_prop (c ∷ w) = ×_prop le_prop (word_prop w)

pub items_prop : (is : List Item) → IsProp (AreItems is)
items_prop [] = Unit-prop
items_prop (item.Text w ∷ is) = ×_prop (word_prop w) (items_prop is)
items_prop (item.Shift k ∷ is) = items_prop is
