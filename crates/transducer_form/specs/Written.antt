-- The written form of a transducer's description: `(STATE ..) START (EDGE ..) (END ..)`. A STATE and START are symbols. An EDGE is `(FROM LO HI (ITEM ..) TO)` with literals LO and HI; an ITEM is a literal, the symbol `in`, `(in K)` or `(in (- K))` with a numeral K. An END is `(STATE (WORD ..))` with literals, which are written one after another.
use Rattle.std.specs.Prelude.{Bool, false, ◌&&◌, ◌||◌, Option, Some, None, codes, if◌then◌else◌, is_some}
use Rattle.smt_names.specs.Form.{Form, Forms, group, end, ◌⨾◌, two, are_all}
use Rattle.smt_names.specs.Signature.{Name, same_name}
use Rattle.smt_names.specs.Tokens.{symbol, digits, literal_text, listed}
use Rattle.transducer_form.specs.declared.description.Description.{Description}
use Rattle.transducer_form.specs.declared.description.EdgeParts.{EdgeParts}
use Rattle.smt_names.specs.Form.{forms, seen}
use Rattle.std.specs.Prelude.{map}

abbrev pub is_symbol : Form → Bool
is_symbol f = is_some (symbol f)

abbrev pub is_text : Form → Bool
is_text f = is_some (literal_text f)

-- the symbol of this name
abbrev pub is_named : Name → Option Name → Bool
is_named n (Some m) = same_name m n
is_named n None = false

-- `(- K)`
abbrev pub is_below : Option (Form × Form) → Bool
is_below (Some p) = is_named (codes "-") (symbol p.0) && is_some (digits p.1)
is_below None = false

-- `(in K)` or `(in (- K))`
abbrev pub is_move : Option (Form × Form) → Bool
is_move (Some p) = is_named (codes "in") (symbol p.0) && (is_some (digits p.1) || is_below (two p.1))
is_move None = false

abbrev pub is_item : Form → Bool
is_item f = is_text f || (is_named (codes "in") (symbol f) || is_move (two f))

-- the parts of an edge
pub record EdgeForm : Type 0 where
  pub from : Form
  pub low : Form
  pub high : Form
  pub items : Forms
  pub to : Form

abbrev pub edge_if : Form → Form → Form → Option Forms → Form → Option EdgeForm
edge_if from low high (Some items) to = Some (record { from = from; low = low; high = high; items = items; to = to })
edge_if from low high None to = None

-- a list of five, the fourth a list
abbrev pub edge_form : Form → Option EdgeForm
edge_form (group (from ⨾ low ⨾ high ⨾ items ⨾ to ⨾ end)) = edge_if from low high (listed items) to
edge_form _ = None

abbrev pub is_edge_form : Option EdgeForm → Bool
is_edge_form (Some e) = is_symbol e.from && (is_text e.low && (is_text e.high && (are_all is_item e.items && is_symbol e.to)))
is_edge_form None = false

abbrev pub is_edge : Form → Bool
is_edge f = is_edge_form (edge_form f)

abbrev pub are_texts : Option Forms → Bool
are_texts (Some fs) = are_all is_text fs
are_texts None = false

abbrev pub is_end_form : Option (Form × Form) → Bool
is_end_form (Some p) = is_symbol p.0 && are_texts (listed p.1)
is_end_form None = false

abbrev pub is_end : Form → Bool
is_end f = is_end_form (two f)

-- a description in its written form
pub record DescriptionForm : Type 0 where
  pub states : Forms
  pub start : Form
  pub edges : Forms
  pub ends : Forms

abbrev pub description_if : Option Forms → Form → Option Forms → Option Forms → Option DescriptionForm
description_if (Some states) start (Some edges) (Some ends) =
    if are_all is_symbol states && (is_symbol start && (are_all is_edge edges && are_all is_end ends)) then Some (record { states = states; start = start; edges = edges; ends = ends }) else None
description_if _ start _ _ = None

abbrev pub description_form : Form → Form → Form → Form → Option DescriptionForm
description_form states start edges ends = description_if (listed states) start (listed edges) (listed ends)

-- parts of s-expressions, as forms
abbrev pub edge_seen : EdgeParts → EdgeForm
edge_seen e = record { from = seen e.from.now; low = seen e.low.now; high = seen e.high.now; items = forms (map seen e.items.now); to = seen e.to.now }

abbrev pub description_seen : Description → DescriptionForm
description_seen d = record { states = forms (map seen d.states.now); start = seen d.start.now; edges = forms (map seen d.edges.now); ends = forms (map seen d.ends.now) }
