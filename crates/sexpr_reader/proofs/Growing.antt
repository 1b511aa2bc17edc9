-- What was read, and what was wrong, stays so when more bytes come.
use Rattle.std.proofs.Common.{◌≡◌, ℕ, List, [], ◌∷◌, ◌++◌, inl, inr, ⊎_elim, Bool, false, length, refl, sym, ap, ◌∙◌, subst, append_assoc, append-nil, arith, length-append}
use Rattle.std.proofs.lemmas.List.Concat.{flat_map-append}
use Rattle.sexpr_reader.specs.declared.kind.TokenKind.TheVariants.{Numeral, Decimal, Hexadecimal, Binary, Symbol, Quoted, Keyword, Literal}
use Rattle.sexpr_reader.specs.declared.sexpr.Sexpr.{Sexpr}
use Rattle.sexpr_reader.specs.declared.sexpr.Sexpr.TheVariants as s
use Rattle.sexpr_reader.specs.declared.syntax_fault.SyntaxFault.{SyntaxFault}
use Rattle.sexpr_reader.specs.declared.syntax_fault.SyntaxFault.TheVariants as f
use Rattle.sexpr_reader.specs.Tokens.{Token, Open, Close, Atomic, text, doubled}
use Rattle.sexpr_reader.specs.Lexes.{Lexes, IsEnded}
use Rattle.sexpr_reader.specs.Items.{tokens_of, tokens_of_all, levels}
use Rattle.sexpr_reader.specs.Reads.{Begins, FaultAt, SyntaxAt, FaultAfter}
use Rattle.sexpr_reader.proofs.Ends.{one_rest}
use Rattle.sexpr_reader.proofs.Faults.{fault_stuck}
use Rattle.sexpr_reader.proofs.Fronts.{Stuck}
use Rattle.sexpr_reader.proofs.Levels.{levels-append}
use Rattle.sexpr_reader.proofs.Lexing.{Lexes-more, EndsAt-more}
use Rattle.sexpr_reader.proofs.Nests.{tokens_of-List}
use Rattle.sexpr_reader.proofs.Tokens.{same_lexing, cut_lexing, Further, first, second}

module _ (ended : Bool) (more : List ℕ) where
  grow : (a b rest : List ℕ) → rest ≡ a ++ b → rest ++ more ≡ a ++ (b ++ more)
  grow a b rest e = ap (λ (l : List ℕ). l ++ more) e ∙ append_assoc a b more

  FaultAt-more : (n here : ℕ) (rest : List ℕ) (fault : SyntaxFault) → FaultAt false n here rest fault → FaultAt ended n here (rest ++ more) fault
  FaultAt-more n here rest (f.Token p) h = (
    h.0,
    ⊎_elim
        (λ k. inl (k.0, k.1 ++ more, grow k.0 k.1 rest k.2, k.3, EndsAt-more _ ended k.1 more k.4, k.5))
        (λ k. inr (k.0, k.1 ++ more, grow (124 ∷ k.0) (92 ∷ k.1) rest k.2, k.3)) h.1,
  )
  FaultAt-more n here rest (f.Close p) h = (h.0, h.1, (h.2.0 ++ more, ap (λ (l : List ℕ). l ++ more) h.2.1))
  FaultAt-more n here rest (f.Depth p) h = (h.0, h.1, (h.2.0 ++ more, ap (λ (l : List ℕ). l ++ more) h.2.1))
  FaultAt-more n here rest (f.Literal p) h = (h.0, (h.1.0, h.1.1 ++ more, grow (34 ∷ doubled h.1.0) (34 ∷ h.1.1) rest h.1.2, EndsAt-more _ ended h.1.1 more h.1.3, h.1.4))
  FaultAt-more n here rest f.Incomplete h = let no_way = h.0 in cc
  FaultAt-more n here rest (f.Memory e) h = absurd h

  pub SyntaxAt-more : (bytes : List ℕ) (fault : SyntaxFault) → SyntaxAt false bytes fault → SyntaxAt ended (bytes ++ more) fault
  SyntaxAt-more bytes fault s = record {
    level = s.level;
    here = s.here;
    rest = s.rest ++ more;
    front = record {
      tokens = s.front.tokens;
      blank = s.front.blank;
      lexed = subst (Lexes ended (bytes ++ more) s.front.tokens) (append_assoc s.front.blank s.rest more) (Lexes-more ended bytes s.front.tokens (s.front.blank ++ s.rest) more s.front.lexed);
      level = s.front.level;
      gap = s.front.gap;
    };
    behind = omega (arith, s.behind, length-append s.rest more, length-append bytes more);
    found = FaultAt-more s.level s.here s.rest fault s.found;
  }

  pub Begins-more : (bytes : List ℕ) (items : List Sexpr) (rest : List ℕ) → Begins false bytes items rest → Begins ended (bytes ++ more) items (rest ++ more)
  Begins-more bytes items rest b = record { lexed = Lexes-more ended bytes (tokens_of_all items) rest more b.lexed; nested = b.nested }

  module _ (bytes : List ℕ) (items : List Sexpr) (fault : SyntaxFault) (h : FaultAfter false bytes items fault) (item : Sexpr) (after : List ℕ) (b : Begins ended (h.rest ++ more) (item ∷ []) after) where
    stuck : Stuck ended h.first.level (h.first.front.blank ++ (h.first.rest ++ more))
    stuck = fault_stuck ended h.first.level (h.first.rest ++ more) h.first.here fault h.first.front.blank h.first.front.gap (FaultAt-more h.first.level h.first.here h.first.rest fault h.first.found)

    join : (xs : List ℕ) (ts us : List Token) (middle last : List ℕ) → Lexes ended xs ts middle → Lexes ended middle us last → Lexes ended xs (ts ++ us) last
    join xs [] us middle last e g = subst (λ (l : List ℕ). Lexes ended l us last) (sym e) g
    join xs (t ∷ ts) us middle last e g = (e.0, e.1, e.2, e.3, e.4, e.5, join e.1 ts us middle last e.6 g)

    all_lexed : Lexes ended (bytes ++ more) (tokens_of_all items ++ tokens_of_all (item ∷ [])) after
    all_lexed = join (bytes ++ more) (tokens_of_all items) (tokens_of_all (item ∷ [])) (h.rest ++ more) after (Lexes-more ended bytes (tokens_of_all items) h.rest more h.reads.begins.lexed) b.lexed

    -- the item was whole before
    whole_before : (vs : List Token) → h.first.front.tokens ≡ (tokens_of_all items ++ tokens_of_all (item ∷ [])) ++ vs → ⊥
    whole_before vs e =
        let lexed = subst (λ (l : List Token). Lexes false bytes l (h.first.front.blank ++ h.first.rest)) e h.first.front.lexed in
        let one = cut_lexing false bytes (tokens_of_all items ++ tokens_of_all (item ∷ [])) vs (h.first.front.blank ++ h.first.rest) lexed in
        let two = cut_lexing false bytes (tokens_of_all items) (tokens_of_all (item ∷ [])) one.0 one.1 in
        let middle = one_rest false (tokens_of_all items) bytes two.0 h.rest two.1 h.reads.begins.lexed in
        h.reads.last item one.0 (record { lexed = subst (λ (l : List ℕ). Lexes false l (tokens_of_all (item ∷ [])) one.0) middle two.2; nested = b.nested })

    behind_fault : (vs : List Token) → tokens_of_all items ++ tokens_of_all (item ∷ []) ≡ h.first.front.tokens ++ vs → Lexes ended (h.first.front.blank ++ (h.first.rest ++ more)) vs after → ⊥
    behind_fault [] e l = whole_before [] (sym (append-nil h.first.front.tokens) ∙ sym e ∙ sym (append-nil (tokens_of_all items ++ tokens_of_all (item ∷ []))))
    behind_fault (v ∷ vs) e l =
        stuck.none v vs after 0 l (sym (levels-append 0 h.first.level h.first.front.tokens (v ∷ vs) h.first.front.level) ∙ ap (levels 0) (sym e) ∙ levels-append 0 0 (tokens_of_all items) (tokens_of_all (item ∷ [])) h.reads.begins.nested ∙ b.nested)

    either : Further ended (tokens_of_all items ++ tokens_of_all (item ∷ [])) h.first.front.tokens after (h.first.front.blank ++ (h.first.rest ++ more)) → ⊥
    either (first vs e l) = whole_before vs e
    either (second vs e l) = behind_fault vs e l

    none_later : ⊥
    none_later = either (same_lexing ended (bytes ++ more) (tokens_of_all items ++ tokens_of_all (item ∷ [])) h.first.front.tokens after (h.first.front.blank ++ (h.first.rest ++ more)) all_lexed
        (subst (Lexes ended (bytes ++ more) h.first.front.tokens) (append_assoc h.first.front.blank h.first.rest more) (Lexes-more ended bytes h.first.front.tokens (h.first.front.blank ++ h.first.rest) more h.first.front.lexed)))

  -- whatever comes behind it, the fault stays the first, and no item comes before it
  pub FaultAfter-more : (bytes : List ℕ) (items : List Sexpr) (fault : SyntaxFault) → FaultAfter false bytes items fault → FaultAfter ended (bytes ++ more) items fault
  FaultAfter-more bytes items fault h = record {
    rest = h.rest ++ more;
    reads = record { begins = Begins-more bytes items h.rest h.reads.begins; last = λ item after b. none_later bytes items fault h item after b };
    first = SyntaxAt-more bytes fault h.first;
  }

-- what is whole in front of a byte needs no byte behind it
IsEnded-less : (t : Token) (b : ℕ) (after more : List ℕ) → IsEnded t false (b ∷ after ++ more) → IsEnded t false (b ∷ after)
IsEnded-less Open b after more h = h
IsEnded-less Close b after more h = h
IsEnded-less (Atomic Quoted bs) b after more h = h
IsEnded-less (Atomic Literal bs) b after more h = h
IsEnded-less (Atomic Numeral bs) b after more h = h
IsEnded-less (Atomic Decimal bs) b after more h = h
IsEnded-less (Atomic Hexadecimal bs) b after more h = h
IsEnded-less (Atomic Binary bs) b after more h = h
IsEnded-less (Atomic Symbol bs) b after more h = h
IsEnded-less (Atomic Keyword bs) b after more h = h

same_length : (us vs ws zs : List ℕ) → length us ≡ length vs → us ++ ws ≡ vs ++ zs → us ≡ vs
same_length [] [] ws zs n k = refl
same_length [] (v ∷ vs) ws zs n k = absurd (omega arith)
same_length (u ∷ us) [] ws zs n k = absurd (omega arith)
same_length (u ∷ us) (v ∷ vs) ws zs n k =
    let head : u ≡ v = cc in
    let later : us ++ ws ≡ vs ++ zs = cc in
    let tail : us ≡ vs = same_length us vs ws zs (omega arith) later in cc

without : (us vs more : List ℕ) → us ++ more ≡ vs ++ more → us ≡ vs
without us vs more e = same_length us vs more more (omega (arith, ap length e, length-append us more, length-append vs more)) e

first_of : (us : List ℕ) (c : ℕ) (front : List ℕ) → (d : ℕ) × ((ds : List ℕ) × (us ++ c ∷ front ≡ d ∷ ds))
first_of [] c front = (c, (front, refl))
first_of (u ∷ us) c front = (u, (us ++ c ∷ front, refl))

-- tokens of which the last is a `)` begin with a byte
some_bytes : (ts : List Token) (bytes rest : List ℕ) → Lexes false bytes (ts ++ Close ∷ []) rest → (c : ℕ) × ((front : List ℕ) × (bytes ≡ c ∷ front ++ rest))
some_bytes [] bytes rest h =
    let f = first_of h.0 41 [] in
    let whole : bytes ≡ (h.0 ++ 41 ∷ []) ++ rest = h.3 ∙ ap (λ (l : List ℕ). h.0 ++ 41 ∷ l) h.6 ∙ sym (append_assoc h.0 (41 ∷ []) rest) in
    (f.0, (f.1.0, whole ∙ ap (λ (l : List ℕ). l ++ rest) f.1.1))
some_bytes (t ∷ ts) bytes rest h =
    let k = some_bytes ts h.1 rest h.6 in
    let f = first_of (h.0 ++ text t) k.0 k.1.0 in
    let whole : bytes ≡ ((h.0 ++ text t) ++ k.0 ∷ k.1.0) ++ rest = h.3 ∙ ap (λ (l : List ℕ). h.0 ++ (text t ++ l)) k.1.1 ∙ simp append_assoc in
    (f.0, (f.1.0, whole ∙ ap (λ (l : List ℕ). l ++ rest) f.1.1))

Lexes-less : (ts : List Token) (bytes rest more : List ℕ) → Lexes false (bytes ++ more) (ts ++ Close ∷ []) (rest ++ more) → Lexes false bytes (ts ++ Close ∷ []) rest
Lexes-less [] bytes rest more h =
    let whole : bytes ++ more ≡ (h.0 ++ 41 ∷ rest) ++ more = h.3 ∙ ap (λ (l : List ℕ). h.0 ++ 41 ∷ l) h.6 ∙ sym (append_assoc h.0 (41 ∷ rest) more) in
    (h.0, rest, h.2, without bytes (h.0 ++ 41 ∷ rest) more whole, h.4, tt, refl)
Lexes-less (t ∷ ts) bytes rest more h =
    let k = some_bytes ts h.1 (rest ++ more) h.6 in
    let after : h.1 ≡ (k.0 ∷ k.1.0 ++ rest) ++ more = k.1.1 ∙ ap (λ (l : List ℕ). k.0 ∷ l) (sym (append_assoc k.1.0 rest more)) in
    let whole : bytes ++ more ≡ (h.0 ++ (text t ++ (k.0 ∷ k.1.0 ++ rest))) ++ more = h.3 ∙ ap (λ (l : List ℕ). h.0 ++ (text t ++ l)) after ∙ simp append_assoc in (
      h.0,
      k.0 ∷ k.1.0 ++ rest,
      h.2,
      without bytes (h.0 ++ (text t ++ (k.0 ∷ k.1.0 ++ rest))) more whole,
      h.4,
      IsEnded-less t k.0 (k.1.0 ++ rest) more (subst (IsEnded t false) after h.5),
      Lexes-less ts (k.0 ∷ k.1.0 ++ rest) rest more (subst (λ (l : List ℕ). Lexes false l (ts ++ Close ∷ []) (rest ++ more)) after h.6),
    )

-- a list is whole with its last byte
pub list_whole : (bytes more rest : List ℕ) (items inner : List Sexpr) → Begins false (bytes ++ more) (items ++ s.List inner ∷ []) (rest ++ more) → Begins false bytes (items ++ s.List inner ∷ []) rest
list_whole bytes more rest items inner b =
    let shape : tokens_of_all (items ++ s.List inner ∷ []) ≡ (tokens_of_all items ++ (Open ∷ tokens_of_all inner)) ++ Close ∷ [] =
    flat_map-append tokens_of items (s.List inner ∷ []) ∙ ap (λ (l : List Token). tokens_of_all items ++ l) (append-nil (tokens_of (s.List inner)) ∙ tokens_of-List inner) ∙ sym (append_assoc (tokens_of_all items) (Open ∷ tokens_of_all inner) (Close ∷ [])) in
    record {
      lexed = subst (λ (ts : List Token). Lexes false bytes ts rest) (sym shape) (Lexes-less (tokens_of_all items ++ (Open ∷ tokens_of_all inner)) bytes rest more (subst (λ (ts : List Token). Lexes false (bytes ++ more) ts (rest ++ more)) shape b.lexed));
      nested = b.nested;
    }
