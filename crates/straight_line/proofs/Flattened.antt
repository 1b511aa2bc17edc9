-- What was scanned can be finished, and what is finished of it is the flattening.
use Rattle.std.proofs.Common.{◌≡◌, sym, ap, ◌∙◌, subst, ℕ, List, [], ◌∷◌, length, None, Result, Ok, Err}
use Rattle.std.proofs.lemmas.List.{length-map}
use Rattle.std.specs.List.{AllByRecursion}
use Rattle.literal_forms.specs.Shapes.{Shape}
use Rattle.literal_forms.specs.declared.literal.Literal.{Literal}
use Rattle.flat_cubes.specs.Drafted.{HoldsDraft, registers_among, IsDraftOf}
use Rattle.straight_line.specs.Filling.{ArePartsBelow}
use Rattle.flat_cubes.specs.Flattening.{IsFinished, IsFlattened, IsFlattening, name_of}
use Rattle.straight_line.proofs.Called.{names_apart}
use Rattle.straight_line.specs.Keeping.{AreQuantitiesBelow}
use Rattle.straight_line.specs.Leading.{AreDefinitionsBelow, ArePairsBelow}
use Rattle.flat_cubes.specs.Met.{DraftView, met}
use Rattle.straight_line.specs.Readiness.{IsReady, UsesSome}
use Rattle.flat_cubes.specs.Said.{first_outside}
use Rattle.flat_cubes.specs.declared.draft.FlatDraft.{FlatDraft as Held}
use Rattle.flat_cubes.specs.declared.draft.Quantity.{Quantity}
use Rattle.flat_cubes.specs.declared.draft.Quantity.TheVariants.{Integer, Length}
use Rattle.flat_cubes.specs.declared.fault.FlatFault.{FlatFault}
use Rattle.flat_cubes.specs.declared.fault.FlatFault.TheVariants.{Outside, Twice, Cycle, Wide, Memory}
use Rattle.flat_cubes.specs.declared.flat.Flat.{Flat}
use Rattle.cube_draft.proofs.Proper.{proper}
use Rattle.cube_draft.proofs.Ranges.{RegisterIn}

as_long : (held : Held) (d : DraftView) → HoldsDraft held d → length d.terms ≡ length held.names
as_long held d h = sym (ap length h.names ∙ length-map d.terms name_of)

lengths_below : (n : ℕ) (ts : List Shape) (qs : List Quantity) → AllByRecursion (RegisterIn n) (registers_among ts qs) → AreQuantitiesBelow n qs
lengths_below n ts [] a = tt
lengths_below n ts (Integer name ∷ qs) a = (tt, lengths_below n ts qs a)
lengths_below n ts (Length i ∷ qs) a = (a.0, lengths_below n ts qs a.1)

pub ready : (ls : List Literal) (held : Held) → first_outside ls ≡ None → HoldsDraft held (met ls) → IsReady held
ready ls held o h =
    let d = met ls in
    let p = proper ls o in
    let long = as_long held d h in
    record {
      met = record {
        parts_in = subst (λ n. ArePartsBelow n held.parts) long (subst (ArePartsBelow (length d.terms)) (sym h.parts) p.inside.parts);
        definitions_in = subst (λ n. AreDefinitionsBelow n held.definitions) long (subst (AreDefinitionsBelow (length d.terms)) (sym h.definitions) p.inside.definitions);
        equalities_in = subst (λ n. ArePairsBelow n held.equalities) long (subst (ArePairsBelow (length d.terms)) (sym h.equalities) p.inside.equalities);
      };
      quantities = subst (λ n. AreQuantitiesBelow n held.quantities) long (lengths_below (length d.terms) d.terms held.quantities (subst (AllByRecursion (RegisterIn (length d.terms))) (sym h.registers) p.inside.registers));
      some = subst (AllByRecursion UsesSome) (sym h.definitions) p.some;
    }

pub scan_refused : (ls : List Literal) (e : FlatFault) → IsDraftOf ls (Err e) → IsFlattened ls (Err e)
scan_refused ls (Outside l) s = s
scan_refused ls (Twice v) s = absurd s
scan_refused ls (Cycle vs) s = absurd s
scan_refused ls (Wide n) s = absurd s
scan_refused ls (Memory e) s = tt

pub flattened : (ls : List Literal) (r : Result Flat FlatFault) → first_outside ls ≡ None → IsFinished (met ls) r → IsFlattened ls r
flattened ls (Ok flat) o f = let is : IsFlattening ls flat = record { inside = o; of = f.0; straight = f.1 } in (is, λ s. names_apart ls flat s is)
flattened ls (Err (Outside l)) o f = absurd f
flattened ls (Err (Twice v)) o f = (o, f)
flattened ls (Err (Cycle vs)) o f = (o, f.0, f.1)
flattened ls (Err (Wide n)) o f = (o, f.0, f.1, f.2)
flattened ls (Err (Memory e)) o f = tt
