use Rattle.std.proofs.Common.{◌++◌, sym}
use Rattle.lia_pack.specs.Tables.{kind_number, form_numbers}
use Rattle.lia_pack.proofs.reader.next_row.Goals as goal

pub next_form-requires : goal.next_form-requires
next_form-requires c =
    let r = c.requires.0 in
    let ns = c.requires.1.0 in
    let k = c.next_number.ensures (kind_number r.kind) (form_numbers r ++ ns) c.requires.1.1 in
    (r, (ns, (sym (c.kind_of_number-kind.ensures r.kind k.0), k.1)))

pub returns : goal.returns
returns c = λ r ns say.
    let k = c.next_number.ensures (kind_number r.kind) (form_numbers r ++ ns) say in
    c.next_form.ensures r ns (sym (c.kind_of_number-kind.ensures r.kind k.0)) k.1
