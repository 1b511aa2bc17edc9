-- Layers of the search of a run.
use Rattle.std.proofs.Common.{◌≡◌, refl, sym, ap, ◌∙◌, subst, ℕ, zero, suc, ◌+◌, ◌-◌, ◌≤◌, ◌<◌, ◌⊎◌, ⊎_elim, arith, List, [], ◌∷◌, ◌++◌, length, drop, take, reverse, slice_get, Some, Contains, Bool, true, false, IsTrue, ◌↔◌}
use Rattle.std.proofs.lemmas.List.{append_assoc, drop-drop, length-drop, length-take-le, reverse-append, take_all, take_more}
use Rattle.std.proofs.lemmas.List.Elements.{Contains-append_left, Contains-push_cases, Contains-push}
use Rattle.std.proofs.lemmas.Option.{slice_get_within, get_or_from_slice_get, slice_get_read, same_Some}
use Rattle.std.proofs.Math.Seq.{drop-append_seam, drop-length}
use Rattle.sv_list.specs.Lists.{slice_get-contains, below-cases, slice_get-some}
use Rattle.sv_terms.specs.Transduction.{Leads, Follows, Pairs, IsTransduction}
use Rattle.sv_terms.specs.declared.transducer.TransEdge.{TransEdge}
use Rattle.sv_terms.specs.declared.transducer.Transducer.{Transducer}
use Rattle.transducer_core.specs.declared.reached.Reached.{Reached}
use Rattle.transducer_core.specs.Layers.{ComesFrom, IsTaken, IsPartLayer, IsLayer, AreLayers, last_layer, LedTo, first_of, AreSearchLayers, IsBackWalk, IsWalking, HasEntry, IsEntry}

pub place_of : {X : Type 0} (xs : List X) (x : X) → (c : Contains xs x) → slice_get xs c.0 ≡ Some x
place_of xs x c = slice_get_read xs (length xs) c.0 x refl c.1 (sym c.2)

pub stands_rest : (w v rest : List ℕ) (at : ℕ) → drop at w ≡ v ++ rest → drop (at + length v) w ≡ rest
stands_rest w v rest at e = sym (drop-drop (length v) at w) ∙ ap (drop (length v)) e ∙ drop-append_seam v rest

pub part_none : (t : Transducer) (w : List ℕ) (c : ℕ) (layer : List Reached) → IsPartLayer t w c layer 0 0 []
part_none t w c layer = record {
  sound = λ r h. let k = h.1 in absurd (omega (arith, k));
  past = λ i p e h. absurd (omega (arith, h));
  here = λ k p e h. absurd (omega (arith, h));
}

taken_grows : (w : List ℕ) (c : ℕ) (next more : List Reached) (p : Reached) (e : TransEdge) → IsTaken w c next p e → IsTaken w c (next ++ more) p e
taken_grows w c next more p e h text rest m d = let k = h text rest m d in (k.0, Contains-append_left next more k.0 k.1, k.2, k.3)

module _ (t : Transducer) (w : List ℕ) (c : ℕ) (layer : List Reached) (i k : ℕ) (p : Reached) (e : TransEdge) (next : List Reached)
    (at : slice_get layer i ≡ Some p) (by : slice_get t.edges k ≡ Some e) (part : IsPartLayer t w c layer i k next) where
  -- one edge more
  part_taken : IsTaken w c next p e → IsPartLayer t w c layer i (suc k) next
  part_taken h = record {
    sound = part.sound;
    past = part.past;
    here = λ k' p' e' l a b. ⊎_elim
        (λ m. part.here k' p' e' m a b)
        (λ m.
        let same_p : p ≡ p' = same_Some p p' (sym at ∙ a) in
        let same_e : e ≡ e' = same_Some e e' (sym by ∙ ap (slice_get t.edges) (sym m) ∙ b) in
        subst (λ x. IsTaken w c next x e') same_p (subst (IsTaken w c next p) same_e h))
        (below-cases k' k l);
  }

  taken_by : (done : ℕ) (led : LedTo w c p e done) (r : Reached) (ns : List Reached) → Contains ns r → r.state ≡ e.to → r.done ≡ done → IsTaken w c ns p e
  taken_by done led r ns has s d text rest m f =
      let same : led.text ≡ text = same_Some led.text text (sym led.moves.3 ∙ m.3) in
      let left : drop (length led.text) (drop p.done w) ≡ drop done w = ap (drop (length led.text)) led.rest ∙ drop-append_seam led.text (drop done w) in
      let right : drop (length text) (drop p.done w) ≡ rest = ap (drop (length text)) f ∙ drop-append_seam text rest in
      (r, has, s, ap (λ n. drop n w) d ∙ sym left ∙ ap (λ (v : List ℕ). drop (length v) (drop p.done w)) same ∙ right)

  pub part_listed : (done : ℕ) → LedTo w c p e done → ((r : Reached) × Contains next r × (r.state ≡ e.to) × (r.done ≡ done)) → IsPartLayer t w c layer i (suc k) next
  part_listed done led h = part_taken (taken_by done led h.0 next h.1 h.2 h.3)

  pub part_pushed : (done : ℕ) (r : Reached) (new : List Reached) → LedTo w c p e done → r.state ≡ e.to → r.done ≡ done → r.edge ≡ k → r.before ≡ i → new ≡ next ++ r ∷ [] → IsPartLayer t w c layer i (suc k) new
  part_pushed done r new led s d b f g = subst (IsPartLayer t w c layer i (suc k)) (sym g) (record {
    sound = λ x h. ⊎_elim (part.sound x) (λ q. subst (ComesFrom t w c layer) q comes) (Contains-push_cases next r x h);
    past = λ j p' e' l a h. taken_grows w c next (r ∷ []) p' e' (part.past j p' e' l a h);
    here = λ k' p' e' l a h. ⊎_elim
        (λ m. taken_grows w c next (r ∷ []) p' e' (part.here k' p' e' m a h))
        (λ m.
        let same_p : p ≡ p' = same_Some p p' (sym at ∙ a) in
        let same_e : e ≡ e' = same_Some e e' (sym by ∙ ap (slice_get t.edges) (sym m) ∙ h) in
        subst (λ x. IsTaken w c (next ++ r ∷ []) x e') same_p (subst (IsTaken w c (next ++ r ∷ []) p) same_e (taken_by done led r (next ++ r ∷ []) (Contains-push next r) s d)))
        (below-cases k' k l);
  })
    where
      comes : ComesFrom t w c layer r
      comes = record {
        «from» = p;
        edge = e;
        text = led.text;
        before = ap (slice_get layer) f ∙ at;
        place = ap (slice_get t.edges) b ∙ by;
        moves = led.moves;
        state = s;
        rest = led.rest ∙ ap (λ n. led.text ++ drop n w) (sym d);
        within = subst (λ n. n ≤ length w) (sym d) led.within;
      }

-- all edges of an entry, and all entries
pub part_entry : (t : Transducer) (w : List ℕ) (c : ℕ) (layer : List Reached) (i : ℕ) (next : List Reached) → i < length layer → IsPartLayer t w c layer i (length t.edges) next → IsPartLayer t w c layer (suc i) 0 next
part_entry t w c layer i next h part = record {
  sound = part.sound;
  past = λ j p e l a has. ⊎_elim
      (λ m. part.past j p e m a has)
      (λ m. part.here has.0 p e has.1 (ap (slice_get layer) (sym m) ∙ a) (place_of t.edges e has))
      (below-cases j i l);
  here = λ k p e l. absurd (omega (arith, l));
}

pub part_whole : (t : Transducer) (w : List ℕ) (c : ℕ) (layer next : List Reached) → IsPartLayer t w c layer (length layer) 0 next → IsLayer t w c layer next
part_whole t w c layer next part = record {
  sound = part.sound;
  total = λ p e has edge. part.past has.0 p e has.1 (place_of layer p has) edge;
}

-- the loops over edges and entries, as far as they have come
pub part_begun : (t : Transducer) (w : List ℕ) (c : ℕ) (layer next : List Reached) → next ≡ [] → IsPartLayer t w c layer 0 0 next
part_begun t w c layer next e = subst (IsPartLayer t w c layer 0 0) (sym e) (part_none t w c layer)

pub part_next : (t : Transducer) (w : List ℕ) (c : ℕ) (layer : List Reached) (i k : ℕ) (next : List Reached) → IsPartLayer t w c layer i (suc k) next → IsPartLayer t w c layer i (k + 1) next
part_next t w c layer i k next part = subst (λ n. IsPartLayer t w c layer i n next) (let e : suc k ≡ k + 1 = omega arith in e) part

pub part_over : (t : Transducer) (w : List ℕ) (c : ℕ) (layer : List Reached) (i : ℕ) (next : List Reached) → IsPartLayer t w c layer (suc i) 0 next → IsPartLayer t w c layer (i + 1) 0 next
part_over t w c layer i next part = subst (λ n. IsPartLayer t w c layer n 0 next) (let e : suc i ≡ i + 1 = omega arith in e) part

pub part_end : (t : Transducer) (w : List ℕ) (c : ℕ) (layer : List Reached) (i k n : ℕ) (next : List Reached) → i < length layer → n ≡ length t.edges → k ≤ n → n ≤ k → IsPartLayer t w c layer i k next → IsPartLayer t w c layer (suc i) 0 next
part_end t w c layer i k n next lt e le ge part = part_entry t w c layer i next lt (subst (λ m. IsPartLayer t w c layer i m next) (same k n (length t.edges) e le ge) part)
  where
    same : (a b m : ℕ) → b ≡ m → a ≤ b → b ≤ a → a ≡ m
    same a b m e l g = omega arith

pub part_all : (t : Transducer) (w : List ℕ) (c : ℕ) (layer : List Reached) (i : ℕ) (next : List Reached) → i ≤ length layer → length layer ≤ i → IsPartLayer t w c layer i 0 next → IsLayer t w c layer next
part_all t w c layer i next le ge part = part_whole t w c layer next (subst (λ m. IsPartLayer t w c layer m 0 next) (same i (length layer) le ge) part)
  where
    same : (a b : ℕ) → a ≤ b → b ≤ a → a ≡ b
    same a b l g = omega arith

pub fits_places : (n m : ℕ) → n ≡ m → n ≤ 4294967295 → m < 4294967296
fits_places n m e h = omega arith

pub below_same : (i n m : ℕ) → i < n → n ≡ m → i < m
below_same i n m h e = omega arith

-- what a path reaches is in the last layer
pub reach_total : (t : Transducer) (w : List ℕ) (layer : List Reached) (read : List ℕ) (layers : List (List Reached)) → AreLayers t w layer read layers
    → (p : Reached) → Contains layer p → (path rest : List ℕ) (to : ℕ) → Leads t p.state read path to → drop p.done w ≡ path ++ rest
    → (r : Reached) × Contains (last_layer layer layers) r × (r.state ≡ to) × (drop r.done w ≡ rest)
reach_total t w layer [] [] are p has path rest to l d = (p, has, l.1, d ∙ ap (λ (x : List ℕ). x ++ rest) l.0)
reach_total t w layer [] (next ∷ layers) are p has path rest to l d = absurd (cc)
reach_total t w layer (c ∷ read) [] are p has path rest to l d = absurd are
reach_total t w layer (c ∷ read) (next ∷ layers) are p has path rest to l d =
    let whole : drop p.done w ≡ l.1 ++ (l.2 ++ rest) = d ∙ ap (λ (x : List ℕ). x ++ rest) l.5 ∙ append_assoc l.1 l.2 rest in
    let k = are.0.total p l.0 has l.3 l.1 (l.2 ++ rest) l.4 whole in
    reach_total t w next read layers are.1 k.0 k.1 l.2 rest to (subst (λ s. Leads t s read l.2 to) (sym k.2) l.6) k.3

-- one layer more
pub layers_more : (t : Transducer) (w : List ℕ) (layer : List Reached) (read : List ℕ) (layers : List (List Reached)) (c : ℕ) (next : List Reached) → AreLayers t w layer read layers
    → IsLayer t w c (last_layer layer layers) next → AreLayers t w layer (read ++ c ∷ []) (layers ++ next ∷ [])
layers_more t w layer [] [] c next are is = (is, refl)
layers_more t w layer [] (x ∷ layers) c next are is = absurd (cc)
layers_more t w layer (d ∷ read) [] c next are is = absurd are
layers_more t w layer (d ∷ read) (x ∷ layers) c next are is = (are.0, layers_more t w x read layers c next are.1 is)

pub layers_length : (t : Transducer) (w : List ℕ) (layer : List Reached) (read : List ℕ) (layers : List (List Reached)) → AreLayers t w layer read layers → length layers ≡ length read
layers_length t w layer [] [] are = refl
layers_length t w layer [] (x ∷ layers) are = absurd (cc)
layers_length t w layer (c ∷ read) [] are = absurd are
layers_length t w layer (c ∷ read) (x ∷ layers) are = ap suc (layers_length t w x read layers are.1)

pub last_at : (layer : List Reached) (layers : List (List Reached)) → slice_get (layer ∷ layers) (length layers) ≡ Some (last_layer layer layers)
last_at layer [] = refl
last_at layer (next ∷ layers) = last_at next layers

-- neighbouring layers
pub layer_step : (t : Transducer) (w : List ℕ) (layer : List Reached) (read : List ℕ) (layers : List (List Reached)) (i c : ℕ) (a b : List Reached) → AreLayers t w layer read layers
    → slice_get (layer ∷ layers) i ≡ Some a → slice_get (layer ∷ layers) (suc i) ≡ Some b → slice_get read i ≡ Some c → IsLayer t w c a b
layer_step t w layer [] layers i c a b are p q r = absurd (cc)
layer_step t w layer (d ∷ read) [] i c a b are p q r = absurd are
layer_step t w layer (d ∷ read) (x ∷ layers) zero c a b are p q r =
    subst (λ y. IsLayer t w c y b) (same_Some layer a p) (subst (λ y. IsLayer t w c layer y) (same_Some x b q) (subst (λ n. IsLayer t w n layer x) (same_Some d c r) are.0))
layer_step t w layer (d ∷ read) (x ∷ layers) (suc i) c a b are p q r = layer_step t w x read layers i c a b are.1 p q r

pub stands_whole : (w v rest : List ℕ) (at : ℕ) → drop at w ≡ v ++ rest → drop at w ≡ v ++ drop (at + length v) w
stands_whole w v rest at e = e ∙ ap (λ (x : List ℕ). v ++ x) (sym (stands_rest w v rest at e))

-- in each layer no more is done than the whole word
pub layers_done : (t : Transducer) (w : List ℕ) (layer : List Reached) (read : List ℕ) (layers : List (List Reached)) → AreLayers t w layer read layers
    → ((r : Reached) → Contains layer r → r.done ≤ length w) → (r : Reached) → Contains (last_layer layer layers) r → r.done ≤ length w
layers_done t w layer [] [] are h = h
layers_done t w layer [] (next ∷ layers) are h = absurd (cc)
layers_done t w layer (c ∷ read) [] are h = absurd are
layers_done t w layer (c ∷ read) (next ∷ layers) are h = layers_done t w next read layers are.1 (λ r k. (are.0.sound r k).within)

first_done : (t : Transducer) (w : List ℕ) (r : Reached) → Contains (first_of t ∷ []) r → r.done ≤ length w
first_done t w r (zero, lt, e) = subst (λ (x : Reached). x.done ≤ length w) e (omega arith)
first_done t w r (suc k, lt, e) = absurd (omega (arith, lt))

pub searched_last : (t : Transducer) (read w : List ℕ) (layers : List (List Reached)) (n : ℕ) (layer : List Reached) (s : AreSearchLayers t read w layers) → n ≡ length read → slice_get layers n ≡ Some layer
    → layer ≡ last_layer (first_of t ∷ []) s.later
searched_last t read w layers n layer s e g =
    let k = layers_length t w (first_of t ∷ []) read s.later s.are in
    let same : n ≡ length s.later = omega (arith, e, k) in
    same_Some layer (last_layer (first_of t ∷ []) s.later) (sym g ∙ ap (λ m. slice_get layers m) same ∙ ap (λ (ls : List (List Reached)). slice_get ls (length s.later)) s.is ∙ last_at (first_of t ∷ []) s.later)

pub searched_done : (t : Transducer) (read w : List ℕ) (layers : List (List Reached)) (n : ℕ) (layer : List Reached) → AreSearchLayers t read w layers → n ≡ length read → slice_get layers n ≡ Some layer
    → (r : Reached) → Contains layer r → r.done ≤ length w
searched_done t read w layers n layer s e g r h =
    layers_done t w (first_of t ∷ []) read s.later s.are (first_done t w) r (subst (λ (l : List Reached). Contains l r) (searched_last t read w layers n layer s e g) h)

pub searched_length : (t : Transducer) (read w : List ℕ) (layers : List (List Reached)) → AreSearchLayers t read w layers → length layers ≡ suc (length read)
searched_length t read w layers s = ap length s.is ∙ ap suc (layers_length t w (first_of t ∷ []) read s.later s.are)

pub searched_more : (t : Transducer) (read w : List ℕ) (layers new : List (List Reached)) (n c : ℕ) (layer next : List Reached) (s : AreSearchLayers t read w layers) → n ≡ length read → slice_get layers n ≡ Some layer
    → IsLayer t w c layer next → new ≡ layers ++ next ∷ [] → AreSearchLayers t (read ++ c ∷ []) w new
searched_more t read w layers new n c layer next s e g is f = record {
  later = s.later ++ next ∷ [];
  is = f ∙ ap (λ (ls : List (List Reached)). ls ++ next ∷ []) s.is;
  are = layers_more t w (first_of t ∷ []) read s.later c next s.are (subst (λ (l : List Reached). IsLayer t w c l next) (searched_last t read w layers n layer s e g) is);
}

-- where no entry of the last layer may end there, the words aren't related
pub searched_total : (t : Transducer) (read w : List ℕ) (layers : List (List Reached)) (n : ℕ) (layer : List Reached) → AreSearchLayers t read w layers → n ≡ length read → slice_get layers n ≡ Some layer
    → ((r : Reached) → Contains layer r → Contains t.ends (r.state, drop r.done w) → ⊥) → Pairs t read w → ⊥
searched_total t read w layers n layer s e g none p =
    let start : drop 0 w ≡ p.1 ++ p.2 = drop_none w ∙ p.5 in
    let k = reach_total t w (first_of t ∷ []) read s.later s.are (first_of t) (zero, omega arith, refl) p.1 p.2 p.0 p.3 start in
    let in_layer : Contains layer k.0 = subst (λ (l : List Reached). Contains l k.0) (sym (searched_last t read w layers n layer s e g)) k.1 in
    let ending : Contains t.ends (k.0.state, drop k.0.done w) = subst (λ m. Contains {X = ℕ × List ℕ} t.ends (m, drop k.0.done w)) (sym k.2) (subst (λ (v : List ℕ). Contains {X = ℕ × List ℕ} t.ends (p.0, v)) (sym k.3) p.4) in
    none k.0 in_layer ending
  where
    drop_none : (v : List ℕ) → drop 0 v ≡ v
    drop_none [] = refl
    drop_none (c ∷ v) = refl

-- the way back
pub walking_first : (t : Transducer) (w read : List ℕ) (layers : List (List Reached)) (n at : ℕ) (layer : List Reached) (r : Reached) → n ≡ length read → slice_get layers n ≡ Some layer → slice_get layer at ≡ Some r
    → Contains t.ends (r.state, drop r.done w) → IsWalking t w read layers n at []
walking_first t w read layers n at layer r e g h ends = record {
  final = r;
  ending = ends;
  walk = record { layer = layer; entry = r; path = []; is_layer = g; is_entry = h; follows = subst (λ v. Follows t r.state [] v [] r.state) (sym (ap (λ k. drop k read) e ∙ drop-length read)) (refl, refl); rest = refl };
}

pub walking_begun : (t : Transducer) (w read : List ℕ) (layers : List (List Reached)) (i at : ℕ) (back : List ℕ) → i ≡ length read → back ≡ [] → IsWalking t w read layers (length read) at []
    → (i ≤ length read) × IsWalking t w read layers i at back
walking_begun t w read layers i at back e f k = (omega (arith, e), subst (λ n. IsWalking t w read layers n at back) (sym e) (subst (IsWalking t w read layers (length read) at) (sym f) k))

pub walking_entry : (t : Transducer) (w read : List ℕ) (layers : List (List Reached)) (i at : ℕ) (back : List ℕ) → IsWalking t w read layers i at back → HasEntry layers i at
walking_entry t w read layers i at back k = record { layer = k.walk.layer; is_layer = k.walk.is_layer; within = slice_get_within k.walk.layer at k.walk.entry k.walk.is_entry }

same_entry : (t : Transducer) (w read : List ℕ) (layers : List (List Reached)) (final : Reached) (i at : ℕ) (places : List ℕ) (r : Reached) (k : IsBackWalk t w read layers final i at places) → IsEntry layers i at r → k.entry ≡ r
same_entry t w read layers final i at places r k e =
    same_Some k.entry r (sym k.is_entry ∙ ap (λ (l : List Reached). slice_get l at) (same_Some k.layer e.layer (sym k.is_layer ∙ e.is_layer)) ∙ e.is_entry)

drop_at : (xs : List ℕ) (i c : ℕ) → slice_get xs i ≡ Some c → drop i xs ≡ c ∷ drop (suc i) xs
drop_at [] i c e = absurd (let k = slice_get_within [] i c e in omega (arith, k))
drop_at (x ∷ xs) zero c e = ap (λ d. d ∷ xs) (same_Some x c e) ∙ ap (λ (v : List ℕ). c ∷ v) (sym (drop_zero xs))
  where
    drop_zero : (v : List ℕ) → drop 0 v ≡ v
    drop_zero [] = refl
    drop_zero (c ∷ v) = refl
drop_at (x ∷ xs) (suc i) c e = drop_at xs i c e

-- the step by which an entry was reached
pub record IsStepBack (t : Transducer) (w read : List ℕ) (layers : List (List Reached)) (i : ℕ) (r : Reached) : Type 0 where
  pub c : ℕ
  pub layer : List Reached
  pub character : slice_get read i ≡ Some c
  pub is_layer : slice_get layers i ≡ Some layer
  pub comes : ComesFrom t w c layer r

step_back : (t : Transducer) (w read : List ℕ) (layers : List (List Reached)) (i at : ℕ) (r : Reached) → AreSearchLayers t read w layers → i < length read → IsEntry layers (suc i) at r → IsStepBack t w read layers i r
step_back t w read layers i at r s h e =
    let n = layers_length t w (first_of t ∷ []) read s.later s.are in
    let c = slice_get-some read i h in
    let a = slice_get-some ((first_of t ∷ []) ∷ s.later) i (omega (arith, n, h)) in
    let b = ap (λ (ls : List (List Reached)). slice_get ls (suc i)) (sym s.is) ∙ e.is_layer in
    let layer = layer_step t w (first_of t ∷ []) read s.later i c.0 a.0 e.layer s.are a.1 b c.1 in
    record {
      c = c.0;
      layer = a.0;
      character = c.1;
      is_layer = ap (λ (ls : List (List Reached)). slice_get ls i) s.is ∙ a.1;
      comes = layer.sound r (slice_get-contains e.layer at r e.is_entry);
    }

walk_back : (t : Transducer) (w read : List ℕ) (layers : List (List Reached)) (final : Reached) (i at : ℕ) (places : List ℕ) (r : Reached) → IsStepBack t w read layers i r
    → (k : IsBackWalk t w read layers final (suc i) at places) → k.entry ≡ r → IsBackWalk t w read layers final i r.before (r.edge ∷ places)
walk_back t w read layers final i at places r s k e =
    let m = s.comes in
    record {
      layer = s.layer;
      entry = m.«from»;
      path = m.text ++ k.path;
      is_layer = s.is_layer;
      is_entry = m.before;
      follows = subst (λ v. Follows t m.«from».state (r.edge ∷ places) v (m.text ++ k.path) final.state) (sym (drop_at read i s.c s.character))
          (m.edge, m.text, k.path, m.place, m.moves, refl, subst (λ n. Follows t n places (drop (suc i) read) k.path final.state) (ap (λ (x : Reached). x.state) e ∙ m.state) k.follows);
      rest = m.rest ∙ ap (λ (v : List ℕ). m.text ++ v) (ap (λ (x : Reached). drop x.done w) (sym e) ∙ k.rest) ∙ sym (append_assoc m.text k.path (drop final.done w));
    }

pub walking_edge : (t : Transducer) (w read : List ℕ) (layers : List (List Reached)) (i at : ℕ) (r : Reached) → AreSearchLayers t read w layers → 0 < i → i ≤ length read → IsEntry layers i at r → r.edge < length t.edges
walking_edge t w read layers zero at r s h l e = absurd (omega (arith, h))
walking_edge t w read layers (suc i) at r s h l e = let m = (step_back t w read layers i at r s (omega (arith, l)) e).comes in slice_get_within t.edges r.edge m.edge m.place

pub walking_back : (t : Transducer) (w read : List ℕ) (layers : List (List Reached)) (i at : ℕ) (back new : List ℕ) (r : Reached) → AreSearchLayers t read w layers → 0 < i → i ≤ length read → IsEntry layers i at r
    → IsWalking t w read layers i at back → new ≡ back ++ r.edge ∷ [] → IsWalking t w read layers (i - 1) r.before new
walking_back t w read layers zero at back new r s h l e k f = absurd (omega (arith, h))
walking_back t w read layers (suc i) at back new r s h l e k f =
    let one : i ≡ suc i - 1 = omega arith in
    let step = step_back t w read layers i at r s (omega (arith, l)) e in
    let same = same_entry t w read layers k.final (suc i) at (reverse back) r k.walk e in
    let walked = walk_back t w read layers k.final i at (reverse back) r step k.walk same in
    let order : r.edge ∷ reverse back ≡ reverse new = sym (ap reverse f ∙ reverse-append back (r.edge ∷ [])) in
    subst (λ n. IsWalking t w read layers n r.before new) one (record {
      final = k.final;
      ending = k.ending;
      walk = subst (IsBackWalk t w read layers k.final i r.before) order walked;
    })

only_entry : (x r : Reached) (at : ℕ) → slice_get (x ∷ []) at ≡ Some r → x ≡ r
only_entry x r zero e = same_Some x r e
only_entry x r (suc at) e = absurd (let k = slice_get_within (x ∷ []) (suc at) r e in omega (arith, k))

pub walking_last : (t : Transducer) (w read : List ℕ) (layers : List (List Reached)) (i at : ℕ) (back : List ℕ) → AreSearchLayers t read w layers → i ≡ 0 → IsWalking t w read layers i at back → IsTransduction t (reverse back) read w
walking_last t w read layers i at back s z k =
    let m = k.walk in
    let first : m.layer ≡ first_of t ∷ [] = same_Some m.layer (first_of t ∷ []) (sym m.is_layer ∙ ap (slice_get layers) z ∙ ap (λ (ls : List (List Reached)). slice_get ls 0) s.is) in
    let entry : first_of t ≡ m.entry = only_entry (first_of t) m.entry at (ap (λ (l : List Reached). slice_get l at) (sym first) ∙ m.is_entry) in
    let whole : drop i read ≡ read = ap (λ n. drop n read) z ∙ drop_all read in
    let done : w ≡ m.path ++ drop k.final.done w = sym (drop_all w) ∙ ap (λ (x : Reached). drop x.done w) entry ∙ m.rest in
    (k.final.state, m.path, drop k.final.done w, subst (λ v. Follows t t.start (reverse back) v m.path k.final.state) whole (subst (λ (x : Reached). Follows t x.state (reverse back) (drop i read) m.path k.final.state) (sym entry) m.follows), k.ending, done)
  where
    drop_all : (v : List ℕ) → drop 0 v ≡ v
    drop_all [] = refl
    drop_all (c ∷ v) = refl

pub none_more : (Q : Reached → Type 0) (layer : List Reached) (at : ℕ) (x : Reached) → slice_get layer at ≡ Some x → (Q x → ⊥) → ((i : ℕ) (r : Reached) → i < at → slice_get layer i ≡ Some r → Q r → ⊥)
    → (i : ℕ) (r : Reached) → i < at + 1 → slice_get layer i ≡ Some r → Q r → ⊥
none_more Q layer at x e n before i r l g h = ⊎_elim
    (λ m. before i r m g h)
    (λ m. n (subst Q (same_Some r x (sym g ∙ ap (slice_get layer) m ∙ e)) h))
    (below-cases i at (omega (arith, l)))

pub take_next : (xs : List ℕ) (i c : ℕ) → slice_get xs i ≡ Some c → take (i + 1) xs ≡ take i xs ++ c ∷ []
take_next xs i c e = take_more xs i c (slice_get_within xs i c e) ∙ ap (λ d. take i xs ++ d ∷ []) (get_or_from_slice_get xs i c c e)

pub taken_length : (xs : List ℕ) (i : ℕ) → i ≤ length xs → i ≡ length (take i xs)
taken_length xs i h = sym (length-take-le i xs h)

pub searched_within : (t : Transducer) (read w : List ℕ) (layers : List (List Reached)) (n : ℕ) → AreSearchLayers t read w layers → n ≡ length read → n < length layers
searched_within t read w layers n s e = let k = searched_length t read w layers s in omega (arith, k, e)

pub walking_done : (t : Transducer) (w read : List ℕ) (layers : List (List Reached)) (i at : ℕ) (back list : List ℕ) → AreSearchLayers t read w layers → i ≤ 0 → IsWalking t w read layers i at back → list ≡ reverse back → IsTransduction t list read w
walking_done t w read layers i at back list s z k e = subst (λ l. IsTransduction t l read w) (sym e) (walking_last t w read layers i at back s (omega (arith, z)) k)

pub less_one : (i : ℕ) → 0 < i → i - 1 < i
less_one i h = omega (arith, h)

-- what is left of a word has its length
rest_whole : (w : List ℕ) (n : ℕ) → n ≤ length w → take (length w - n) (drop n w) ≡ drop n w
rest_whole w n h = ap (λ k. take k (drop n w)) (sym (length-drop n w)) ∙ take_all (length (drop n w)) (drop n w) (omega arith)

pub ends_rest : (es fs : List (ℕ × List ℕ)) (s n : ℕ) (w : List ℕ) (b : Bool) → n ≤ length w → es ≡ fs → IsTrue b ↔ Contains es (s, take (length w - n) (drop n w)) → IsTrue b ↔ Contains fs (s, drop n w)
ends_rest es fs s n w b h e i =
    subst (λ (xs : List (ℕ × List ℕ)). IsTrue b ↔ Contains {X = ℕ × List ℕ} xs (s, drop n w)) e
    (subst (λ (v : List ℕ). IsTrue b ↔ Contains {X = ℕ × List ℕ} es (s, v)) (rest_whole w n h) i)

-- an item that is met at no place before
item_before : {X : Type 0} (xs : List X) (y : X) (at : ℕ) → length xs ≤ at → ((i : ℕ) (x : X) → i < at → slice_get xs i ≡ Some x → x ≡ y → ⊥) → Contains xs y → ⊥
item_before xs y at l none c = none c.0 y (less_than c.0 (length xs) at c.1 l) (place_of xs y c) refl
  where
    less_than : (i j n : ℕ) → i < j → j ≤ n → i < n
    less_than i j n a b = omega arith

pub item_more : {X : Type 0} (xs : List X) (y : X) (at : ℕ) (x : X) → slice_get xs at ≡ Some x → (x ≡ y → ⊥) → ((i : ℕ) (x : X) → i < at → slice_get xs i ≡ Some x → x ≡ y → ⊥)
    → (i : ℕ) (x : X) → i < at + 1 → slice_get xs i ≡ Some x → x ≡ y → ⊥
item_more xs y at x e n before i r l g h = ⊎_elim
    (λ m. before i r m g h)
    (λ m. n (same_Some x r (sym e ∙ ap (slice_get xs) (sym m) ∙ g) ∙ h))
    (below-cases i at (omega (arith, l)))

pub item_found : {X : Type 0} (xs : List X) (y : X) (at : ℕ) (x : X) → slice_get xs at ≡ Some x → x ≡ y → IsTrue true ↔ Contains xs y
item_found xs y at x e f = (λ h. subst (Contains xs) f (slice_get-contains xs at x e), λ h. refl)

pub item_missing : {X : Type 0} (xs : List X) (y : X) (at : ℕ) → length xs ≤ at → ((i : ℕ) (x : X) → i < at → slice_get xs i ≡ Some x → x ≡ y → ⊥) → IsTrue false ↔ Contains xs y
item_missing xs y at l none = (λ h. absurd cc, λ c. absurd (item_before xs y at l none c))
