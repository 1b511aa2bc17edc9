-- What each step keeps of the reader.
use Rattle.std.proofs.Common.{◌≡◌, ℕ, ◌-◌, ◌≤◌, List, [], ◌∷◌, ◌++◌, Bool, Option, Some, length, take, drop, refl, sym, ap, ◌∙◌, subst, arith, length-append, length-drop}
use Rattle.std.specs.Option.{option_to_list}
use Rattle.sexpr_reader.specs.declared.mode.Mode.{Mode}
use Rattle.sexpr_reader.specs.declared.mode.Mode.TheVariants as m
use Rattle.sexpr_reader.specs.declared.reader.Reader.{Reader}
use Rattle.sexpr_reader.specs.declared.sexpr.Sexpr.{Sexpr}
use Rattle.sexpr_reader.specs.declared.syntax_fault.SyntaxFault.{SyntaxFault}
use Rattle.sexpr_reader.specs.Tokens.{Token, text, IsToken}
use Rattle.sexpr_reader.specs.Lexes.{IsBlank, IsEnded}
use Rattle.sexpr_reader.specs.Items.{tokens_of_all, open_tokens, levels, Feeds}
use Rattle.sexpr_reader.specs.Reads.{FaultAt, FaultAfter}
use Rattle.sexpr_reader.specs.Standing.{At, HasGiven}
use Rattle.sexpr_reader.specs.Progress.{IsSame, IsSettled}
use Rattle.sexpr_reader.proofs.Lasts.{fault_after}
use Rattle.sexpr_reader.proofs.Places.{at_token}
use Rattle.sexpr_reader.proofs.Shapes.{split_at}

pub at_same : (ended : Bool) (mode mode_then : Mode) (lists lists_then : List (List Sexpr)) (place place_then : ℕ) (kept kept_then ahead ahead_then bytes : List ℕ) (given : List Sexpr) → At ended mode lists place kept ahead bytes given
    → mode_then ≡ mode → lists_then ≡ lists → place_then ≡ place → kept_then ≡ kept → ahead_then ≡ ahead → At ended mode_then lists_then place_then kept_then ahead_then bytes given
at_same ended mode mode_then lists lists_then place place_then kept kept_then ahead ahead_then bytes given at a b c d e =
    subst (λ (x : Mode). At ended x lists_then place_then kept_then ahead_then bytes given) (sym a)
    (subst (λ (x : List (List Sexpr)). At ended mode x place_then kept_then ahead_then bytes given) (sym b)
    (subst (λ (x : ℕ). At ended mode lists x kept_then ahead_then bytes given) (sym c)
    (subst (λ (x : List ℕ). At ended mode lists place x ahead_then bytes given) (sym d)
    (subst (λ (x : List ℕ). At ended mode lists place kept x bytes given) (sym e) at))))

pub drops : (n k : ℕ) (p q : List ℕ) → n ≡ k → p ≡ q → drop n p ≡ drop k q
drops n k p q a b = ap (λ (x : ℕ). drop x p) a ∙ ap (drop k) b

module _ (ended : Bool) (old new : Reader) (bytes : List ℕ) (given : List Sexpr) (s : HasGiven ended old bytes given) where
  pub stands_same : IsSame old new → HasGiven ended new bytes given
  stands_same k = record {
    at = at_same ended old.mode new.mode old.nest.lists.items new.nest.lists.items old.place new.place _ _ _ _ bytes given s.at k.mode k.lists k.place (drops new.start old.start new.pending.items old.pending.items k.start k.pending) (drops new.at old.at new.pending.items old.pending.items k.at k.pending);
  }

  -- a whole token
  pub stands_token : (t : Token) (end : ℕ) (item : Option Sexpr) → old.start ≤ end → end ≤ length old.pending.items → IsBlank s.at.blank → text t ≡ take (end - old.start) (drop old.start old.pending.items) → IsToken t → IsEnded t ended (drop end old.pending.items)
      → Feeds old.nest.lists.items (t ∷ []) item new.nest.lists.items → levels 0 ((tokens_of_all given ++ open_tokens old.nest.lists.items) ++ t ∷ []) ≡ Some (length new.nest.lists.items) → IsSettled old new end → HasGiven ended new bytes (given ++ option_to_list item)
  stands_token t end item low high gap is token ends feeds level k =
      let p = old.pending.items in
      let kept = drop old.start p in
      let whole : kept ≡ text t ++ drop end p = split_at p old.start end low ∙ ap (λ (l : List ℕ). l ++ drop end p) (sym is) in
      let long : length (text t) ≡ end - old.start = omega (arith, ap length whole, length-append (text t) (drop end p), length-drop old.start p, length-drop end p) in
      let next = at_token ended old.mode old.nest.lists.items old.place kept (drop old.at p) bytes given s.at new.nest.lists.items t (drop end p) new.place item gap whole token ends feeds level (omega (arith, k.place, long)) in record {
        at = at_same ended m.Blank new.mode new.nest.lists.items new.nest.lists.items new.place new.place _ _ _ _ bytes (given ++ option_to_list item) next k.mode refl refl (drops new.start end new.pending.items p k.start k.pending) (drops new.at end new.pending.items p k.at k.pending);
      }

-- a fault at the unfinished token
pub fault_here : (ended : Bool) (r : Reader) (bytes : List ℕ) (given : List Sexpr) (s : HasGiven ended r bytes given) (fault : SyntaxFault) → IsBlank s.at.blank → FaultAt ended (length r.nest.lists.items) r.place (drop r.start r.pending.items) fault → FaultAfter ended bytes given fault
fault_here ended r bytes given s fault gap h = fault_after ended r.mode r.nest.lists.items r.place (drop r.start r.pending.items) (drop r.at r.pending.items) bytes given s.at fault gap h
