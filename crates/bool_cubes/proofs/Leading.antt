-- Cubes of a node within those of a root, on the way down to one number.
use Rattle.std.proofs.Common.{◌≡◌, sym, ap, ◌∙◌, subst, ℕ, zero, suc, ◌+◌, ◌-◌, ◌*◌, ◌/◌, ◌%◌, ◌<◌, ◌≤◌, Bool, List, [], ◌++◌, Option, get_or, append_assoc, arith, ⊎_elim}
use Rattle.std.proofs.lemmas.Bool.{cases_lt}
use Rattle.std.proofs.lemmas.Nat.{div-mul-add}
use Rattle.std.proofs.Math.Nat.{div-add-mod, mul-add, mul_comm, mul-le-mul_left}
use Rattle.bool_cubes.specs.Contradictions.{IsContradictory}
use Rattle.bool_cubes.specs.Cubes.{count}
use Rattle.bool_cubes.specs.Held.{AreDead, AreHeld}
use Rattle.bool_cubes.specs.Jumps.{IsBehind}
use Rattle.bool_cubes.specs.Nodes.{IsPlan, tree_at}
use Rattle.bool_cubes.specs.Picking.{cube_at}
use Rattle.bool_cubes.specs.Trees.{Tree, both, either}
use Rattle.bool_cubes.specs.declared.node.CubeNode.{CubeNode}
use Rattle.bool_cubes.specs.declared.node.NodeKind.TheVariants as kind
use Rattle.literal_forms.specs.declared.literal.Literal.{Literal}
use Rattle.bool_cubes.proofs.Gathered.{IsNumberIn, both_parts, chosen_first, chosen_second, stored}
use Rattle.bool_cubes.proofs.Holding.{AreAmong, among_both, among_left, among_right, contradictory_more, dead_more, held_more, kind_earlier, kind_tree}
use Rattle.bool_cubes.proofs.Picked.{digit_below}

-- the cubes of u from the m-th on are parts of those of t from the n-th on, each with what is gone
pub record Leads (t : Tree) (n : ℕ) (u : Tree) (m : ℕ) (gone : List Literal) : Type 0 where
  pub each : (d : ℕ) → m + d < count u → (n + d < count t) × AreAmong (gone ++ cube_at u (m + d)) (cube_at t (n + d))

pub leads_itself : (t : Tree) (n : ℕ) → Leads t n t n []
leads_itself t n = record { each = λ d l. (l, λ x c. c) }

module _ (t : Tree) (n : ℕ) (u v : Tree) (m : ℕ) (gone : List Literal) where
  pub leads_first : Leads t n (either u v) m gone → Leads t n u m gone
  leads_first h = record {
    each = λ d l. let p = h.each d (omega (arith, l)) in (p.0, subst (λ c. AreAmong (gone ++ c) (cube_at t (n + d))) (chosen_first (m + d) (count u) (cube_at u (m + d)) (cube_at v (m + d - count u)) l) p.1);
  }

  pub leads_second : count u ≤ m → Leads t n (either u v) m gone → Leads t n v (m - count u) gone
  leads_second b h = record {
    each = λ d l.
        let p = h.each d (omega (arith, l, b)) in
        let e : m + d - count u ≡ m - count u + d = omega (arith, b) in
        (p.0, subst (λ c. AreAmong (gone ++ c) (cube_at t (n + d))) (chosen_second (m + d) (count u) (cube_at u (m + d)) (cube_at v (m + d - count u)) (omega (arith, b)) ∙ ap (cube_at v) e) p.1);
  }

  pub leads_behind : (passed : ℕ) → IsBehind u v passed → passed ≤ m → Leads t n u m gone → Leads t n v (m - passed) gone
  leads_behind passed j b h = record {
    each = λ d l.
        let w = j.within in
        let p = h.each d (omega (arith, l, b, w)) in
        let e : m + d - passed ≡ m - passed + d = omega (arith, b) in
        (p.0, subst (λ c. AreAmong (gone ++ c) (cube_at t (n + d))) (j.same (m + d) (omega (arith, b)) (omega (arith, l, b, w)) ∙ ap (cube_at v) e) p.1);
  }

  digits : (d : ℕ) → m % count v + d < count v → ((m + d) / count v ≡ m / count v) × ((m + d) % count v ≡ m % count v + d)
  digits d l =
      let c = count v in
      let own : c * (m / c) + m % c ≡ m = div-add-mod m c in
      let turn : c * (m / c) ≡ m / c * c = mul_comm c (m / c) in
      let sum : m + d ≡ m / c * c + (m % c + d) = omega (arith, own, turn) in
      let q : (m + d) / c ≡ m / c = ap (λ k. k / c) sum ∙ div-mul-add (m / c) c (m % c + d) l in
      let more : c * ((m + d) / c) + (m + d) % c ≡ m + d = div-add-mod (m + d) c in
      let same : c * ((m + d) / c) ≡ c * (m / c) = ap (λ k. c * k) q in
      (q, omega (arith, own, more, same))

  inside : (d : ℕ) → m < count u * count v → m % count v + d < count v → m + d < count u * count v
  inside d b l =
      let c = count v in
      let own : c * (m / c) + m % c ≡ m = div-add-mod m c in
      let f = digit_below m (count u) (count v) b in
      let top : c * (m / c + 1) ≤ c * count u = mul-le-mul_left c (let x = f.1 in omega (arith, x)) in
      let turn : count u * c ≡ c * count u = mul_comm (count u) c in
      let split : c * (m / c + 1) ≡ c * (m / c) + c * 1 = mul-add c (m / c) 1 in
      omega (arith, own, top, turn, split, l)

  pub leads_both : m < count u * count v → Leads t n (both u v) m gone → Leads t n v (m % count v) (gone ++ cube_at u (m / count v))
  leads_both b h = record {
    each = λ d l.
        let p = h.each d (inside d b l) in
        let e = digits d l in
        let x = cube_at u (m / count v) in
        let y = cube_at v (m % count v + d) in
        let whole : cube_at u ((m + d) / count v) ++ cube_at v ((m + d) % count v) ≡ x ++ y = ap (λ k. cube_at u k ++ cube_at v ((m + d) % count v)) e.0 ∙ ap (λ k. x ++ cube_at v k) e.1 in
        let a : AreAmong (gone ++ (x ++ y)) (cube_at t (n + d)) = subst (λ c. AreAmong (gone ++ c) (cube_at t (n + d))) whole p.1 in
        (p.0, subst (λ c. AreAmong c (cube_at t (n + d))) (sym (append_assoc gone x y)) a);
  }

-- a stretch of the first tree's cubes
pub ahead_bound : (u v : Tree) (m ahead : ℕ) → m < count u * count v → m / count v + ahead ≤ count u → 0 < ahead → m + (ahead * count v - m % count v) ≤ count u * count v
ahead_bound u v m ahead b w some =
    let c = count v in
    let own : c * (m / c) + m % c ≡ m = div-add-mod m c in
    let g = digit_below m (count u) (count v) b in
    let pos = g.0 in
    let low : m % c < c = omega (arith, pos) in
    let top : c * (m / c + ahead) ≤ c * count u = mul-le-mul_left c w in
    let turn : count u * c ≡ c * count u = mul_comm (count u) c in
    let turn2 : ahead * c ≡ c * ahead = mul_comm ahead c in
    let split : c * (m / c + ahead) ≡ c * (m / c) + c * ahead = mul-add c (m / c) ahead in
    let least : c * 1 ≤ c * ahead = mul-le-mul_left c some in
    omega (arith, own, low, top, turn, turn2, split, least)

quotient_below : (c m d q r ahead : ℕ) (a z : ℕ) → c * a + z ≡ m → c * q + r ≡ m + d → 0 < ahead → d < ahead * c - z → q - a < ahead
quotient_below c m d q r ahead a z own more some l = ⊎_elim
    (λ k. omega (arith, k, some))
    (λ g.
    let top : c * (a + ahead) ≤ c * q = mul-le-mul_left c g in
    let split : c * (a + ahead) ≡ c * a + c * ahead = mul-add c a ahead in
    let turn : ahead * c ≡ c * ahead = mul_comm ahead c in
    absurd (omega (arith, top, split, turn, own, more, l)))
    (cases_lt q (a + ahead))

quotient_least : (c m d q r a z : ℕ) → c * a + z ≡ m → c * q + r ≡ m + d → r < c → a + (q - a) ≡ q
quotient_least c m d q r a z own more low = ⊎_elim
    (λ g.
    let top : c * (q + 1) ≤ c * a = mul-le-mul_left c (omega (arith, g)) in
    let split : c * (q + 1) ≡ c * q + c * 1 = mul-add c q 1 in
    absurd (omega (arith, top, split, low, own, more)))
    (λ g. omega (arith, g))
    (cases_lt q a)

pub ahead_dead : (u v : Tree) (m : ℕ) (ls : List Literal) (ahead : ℕ) → m < count u * count v → m / count v + ahead ≤ count u → 0 < ahead → ((d : ℕ) → d < ahead → IsContradictory (ls ++ cube_at u (m / count v + d))) → (d : ℕ) → d < ahead * count v - m % count v → IsContradictory (ls ++ cube_at (both u v) (m + d))
ahead_dead u v m ls ahead b w some f d l =
    let c = count v in
    let g = digit_below m (count u) (count v) b in
    let pos = g.0 in
    let own : c * (m / c) + m % c ≡ m = div-add-mod m c in
    let more : c * ((m + d) / c) + (m + d) % c ≡ m + d = div-add-mod (m + d) c in
    let low : (m + d) % c < c = omega (arith, pos) in
    let q = (m + d) / c in
    let e = f (q - m / c) (quotient_below c m d q ((m + d) % c) ahead (m / c) (m % c) own more some l) in
    let at : m / c + (q - m / c) ≡ q = quotient_least c m d q ((m + d) % c) (m / c) (m % c) own more low in
    let x = cube_at u q in
    let y = cube_at v ((m + d) % c) in
    contradictory_more (ls ++ x) (ls ++ (x ++ y)) (subst (λ k. IsContradictory (ls ++ cube_at u k)) at e) (among_both ls x (ls ++ (x ++ y)) (among_left ls (x ++ y)) (λ z h. among_right ls (x ++ y) z (among_left x y z h)))

-- on the way down from a root: what is gone is held, and the cubes that are left are parts of the root's
pub record IsScanned (ns : List CubeNode) (root n at m : ℕ) (old new : List (Option ℕ)) : Type 0 where
  pub gone : List Literal
  pub leads : Leads (tree_at ns root) n (tree_at ns at) m gone
  pub held : (ls : List Literal) → AreHeld ns ls old → AreHeld ns (ls ++ gone) new

pub scanned_none : (ns : List CubeNode) (root n : ℕ) (marks : List (Option ℕ)) → IsScanned ns root n root n marks marks
scanned_none ns root n marks = record {
  gone = [];
  leads = leads_itself (tree_at ns root) n;
  held = λ ls h. held_more ns ls (ls ++ []) marks h (among_left ls []);
}

-- the steps down
module _ (ns : List CubeNode) (root n at m i j : ℕ) (old new : List (Option ℕ)) (h : IsScanned ns root n at m old new) where
  pub scanned_first : tree_at ns at ≡ either (tree_at ns i) (tree_at ns j) → IsScanned ns root n i m old new
  scanned_first e = record { gone = h.gone; leads = leads_first (tree_at ns root) n (tree_at ns i) (tree_at ns j) m h.gone (subst (λ t. Leads (tree_at ns root) n t m h.gone) e h.leads); held = h.held }

  pub scanned_second : tree_at ns at ≡ either (tree_at ns i) (tree_at ns j) → (c : ℕ) → c ≡ count (tree_at ns i) → c ≤ m → IsScanned ns root n j (m - c) old new
  scanned_second e c s l = subst (λ k. IsScanned ns root n j (m - k) old new) (sym s) (record { gone = h.gone; leads = leads_second (tree_at ns root) n (tree_at ns i) (tree_at ns j) m h.gone (omega (arith, s, l)) (subst (λ t. Leads (tree_at ns root) n t m h.gone) e h.leads); held = h.held })

  pub scanned_behind : (passed : ℕ) → IsBehind (tree_at ns at) (tree_at ns j) passed → passed ≤ m → IsScanned ns root n j (m - passed) old new
  scanned_behind passed b l = record { gone = h.gone; leads = leads_behind (tree_at ns root) n (tree_at ns at) (tree_at ns j) m h.gone passed b l h.leads; held = h.held }

  module _ (e : tree_at ns at ≡ both (tree_at ns i) (tree_at ns j)) (c : ℕ) (s : c ≡ count (tree_at ns j)) (b : m < count (tree_at ns at)) where
    below : m < count (tree_at ns i) * count (tree_at ns j)
    below = subst (λ t. m < count t) e b

    pub scanned_both : (next : List (Option ℕ)) → ((ls : List Literal) → AreHeld ns ls new → AreHeld ns (ls ++ cube_at (tree_at ns i) (m / c)) next) → IsScanned ns root n j (m % c) old next
    scanned_both next f = record {
      gone = h.gone ++ cube_at (tree_at ns i) (m / c);
      leads = subst (λ k. Leads (tree_at ns root) n (tree_at ns j) (m % k) (h.gone ++ cube_at (tree_at ns i) (m / k))) (sym s) (leads_both (tree_at ns root) n (tree_at ns i) (tree_at ns j) m h.gone below (subst (λ t. Leads (tree_at ns root) n t m h.gone) e h.leads));
      held = λ ls g. subst (λ x. AreHeld ns x next) (append_assoc ls h.gone (cube_at (tree_at ns i) (m / c))) (f (ls ++ h.gone) (h.held ls g));
    }

    module _ (ahead : ℕ) (w : m / c + ahead ≤ count (tree_at ns i)) (some : 0 < ahead) where
      inside_first : m / count (tree_at ns j) + ahead ≤ count (tree_at ns i)
      inside_first = subst (λ k. m / k + ahead ≤ count (tree_at ns i)) s w

      pub both_inside : m + (ahead * c - m % c) ≤ count (tree_at ns at)
      both_inside = subst (λ t. m + (ahead * c - m % c) ≤ count t) (sym e) (subst (λ k. m + (ahead * k - m % k) ≤ count (tree_at ns i) * count (tree_at ns j)) (sym s) (ahead_bound (tree_at ns i) (tree_at ns j) m ahead below inside_first some))

      pub both_stretch : (ls : List Literal) → ((d : ℕ) → d < ahead → IsContradictory (ls ++ cube_at (tree_at ns i) (m / c + d))) → (d : ℕ) → d < ahead * c - m % c → IsContradictory (ls ++ cube_at (tree_at ns at) (m + d))
      both_stretch ls f d l =
          subst (λ t. IsContradictory (ls ++ cube_at t (m + d))) (sym e)
          (ahead_dead (tree_at ns i) (tree_at ns j) m ls ahead below inside_first some (λ k q. subst (λ x. IsContradictory (ls ++ cube_at (tree_at ns i) (m / x + k))) s (f k q)) d (subst (λ k. d < ahead * k - m % k) s l))

-- what is found at a node is found of the root
module _ (ns : List CubeNode) (root n at m : ℕ) (old new : List (Option ℕ)) (h : IsScanned ns root n at m old new) where
  pub scanned_within : (r : ℕ) → n ≤ count (tree_at ns root) → m + r ≤ count (tree_at ns at) → n + r ≤ count (tree_at ns root)
  scanned_within zero b l = omega (arith, b)
  scanned_within (suc r) b l = let p = (h.leads.each r (omega (arith, l))).0 in omega (arith, p)

  pub scanned_stretch : (dead : List Bool) (r : ℕ) → m + r ≤ count (tree_at ns at) → ((ls : List Literal) → AreHeld ns ls new → AreDead ns ls dead → (d : ℕ) → d < r → IsContradictory (ls ++ cube_at (tree_at ns at) (m + d)))
      → (ls : List Literal) → AreHeld ns ls old → AreDead ns ls dead → (d : ℕ) → d < r → IsContradictory (ls ++ cube_at (tree_at ns root) (n + d))
  scanned_stretch dead r b f ls held none d l =
      let c = cube_at (tree_at ns at) (m + d) in
      let whole = cube_at (tree_at ns root) (n + d) in
      let p = h.leads.each d (omega (arith, b, l)) in
      let found = f (ls ++ h.gone) (h.held ls held) (dead_more ns ls (ls ++ h.gone) dead none (among_left ls h.gone)) d l in
      contradictory_more (ls ++ (h.gone ++ c)) (ls ++ whole) (subst IsContradictory (append_assoc ls h.gone c) found) (among_both ls (h.gone ++ c) (ls ++ whole) (among_left ls whole) (λ x q. among_right ls whole x (p.1 x q)))

  pub scanned_held : (next : List (Option ℕ)) → m < count (tree_at ns at) → ((ls : List Literal) → AreHeld ns ls new → AreHeld ns (ls ++ cube_at (tree_at ns at) m) next) → (ls : List Literal) → AreHeld ns ls old → AreHeld ns (ls ++ cube_at (tree_at ns root) n) next
  scanned_held next b f ls held =
      let c = cube_at (tree_at ns at) m in
      let whole = cube_at (tree_at ns root) n in
      let a : m + 0 ≡ m = omega arith in
      let z : n + 0 ≡ n = omega arith in
      let p : AreAmong (h.gone ++ c) whole = subst (λ k. AreAmong (h.gone ++ c) (cube_at (tree_at ns root) k)) z (subst (λ k. AreAmong (h.gone ++ cube_at (tree_at ns at) k) (cube_at (tree_at ns root) (n + 0))) a (h.leads.each 0 (omega (arith, b))).1) in
      held_more ns (ls ++ (h.gone ++ c)) (ls ++ whole) next (subst (λ x. AreHeld ns x next) (append_assoc ls h.gone c) (f (ls ++ h.gone) (h.held ls held))) (among_both ls (h.gone ++ c) (ls ++ whole) (among_left ls whole) (λ x q. among_right ls whole x (p x q)))

-- with no literal more
pub held_still : (ns : List CubeNode) (marks : List (Option ℕ)) (c ls : List Literal) → AreHeld ns ls marks → AreHeld ns (ls ++ c) marks
held_still ns marks c ls h = held_more ns ls (ls ++ c) marks h (among_left ls c)

-- a node, with the number of cubes of the one that decides
module _ (ns : List CubeNode) (at : ℕ) (n : CubeNode) (left i j : ℕ) (m : CubeNode) (p : IsPlan ns) (d : IsNumberIn ns at left) (g : n ≡ get_or ns at n) where
  pub own_cubes : n.cubes ≡ count (tree_at ns at)
  own_cubes = stored ns at n left p d g at n d.within g d.most

  pub both_tree : n.kind ≡ kind.Both i j → tree_at ns at ≡ both (tree_at ns i) (tree_at ns j)
  both_tree e = kind_tree ns at n p d.within g (kind.Both i j) e

  pub both_cubes : n.kind ≡ kind.Both i j → m ≡ get_or ns j m → m.cubes ≡ count (tree_at ns j)
  both_cubes e f = let parts = both_parts ns at n left i j p d g m e f in stored ns at n left p d g j m parts.second.within f parts.second.most

  pub either_tree : n.kind ≡ kind.Either i j → tree_at ns at ≡ either (tree_at ns i) (tree_at ns j)
  either_tree e = kind_tree ns at n p d.within g (kind.Either i j) e

  pub either_cubes : n.kind ≡ kind.Either i j → m ≡ get_or ns i m → m.cubes ≡ count (tree_at ns i)
  either_cubes e f =
      let whole = ap count (either_tree e) in
      let most = d.most in
      let w = d.within in
      let early = kind_earlier ns at n p d.within g (kind.Either i j) e in
      let early0 = early.0 in
      stored ns at n left p d g i m (omega (arith, early0, w)) f (omega (arith, whole, most))
