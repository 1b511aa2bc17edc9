-- The code points read from bytes are those whose UTF-8 the bytes begin with.
use lib.Utf8.{encode, scalar_cases}
use Rattle.std.proofs.Common.{◌≡◌, ℕ, ◌+◌, ◌-◌, ◌*◌, ◌/◌, ◌%◌, ◌<◌, ◌≤◌, ◌&&◌, Bool, true, false, cond, nat_lt, List, [], ◌∷◌, ◌++◌, length, ◌⊎◌, inl, inr, Some, None, refl, ap, sym, ◌∙◌, subst, arith}
use Rattle.std.proofs.lemmas.Bool.{cases_lt, and_parts}
use Rattle.std.proofs.lemmas.Bool.Decides.{nat_tests}
use Rattle.std.specs.Char.{IsScalar}
use Rattle.std.specs.Prelude.{◌==◌, ◌↔◌, Option, unwrap_or}
use Rattle.sv_word.specs.Utf8.{is_within, two_bytes, three_bytes, four_bytes, code_point, BeginsWith}

-- the first byte chooses the form
chosen-two : (a : ℕ) (bs : List ℕ) → 0xC2 ≤ a → a ≤ 0xDF → code_point a bs ≡ two_bytes a bs
chosen-two a bs l h = let t : is_within 0xC2 0xDF a ≡ true = grind (arith, nat_tests) in rw t refl

chosen-e0 : (a : ℕ) (bs : List ℕ) → 0xE0 ≡ a → code_point a bs ≡ three_bytes 0xA0 0xBF a bs
chosen-e0 a bs e = subst (λ a. code_point a bs ≡ three_bytes 0xA0 0xBF a bs) e refl

chosen-e1 : (a : ℕ) (bs : List ℕ) → 0xE1 ≤ a → a ≤ 0xEC → code_point a bs ≡ three_bytes 0x80 0xBF a bs
chosen-e1 a bs l h =
    let t : is_within 0xC2 0xDF a ≡ false = grind (arith, nat_tests) in
    let u : (a == 0xE0) ≡ false = grind (arith, nat_tests) in
    let v : is_within 0xE1 0xEC a ≡ true = grind (arith, nat_tests) in
    rw (t, u, v) refl

chosen-ed : (a : ℕ) (bs : List ℕ) → 0xED ≡ a → code_point a bs ≡ three_bytes 0x80 0x9F a bs
chosen-ed a bs e = subst (λ a. code_point a bs ≡ three_bytes 0x80 0x9F a bs) e refl

chosen-ee : (a : ℕ) (bs : List ℕ) → 0xEE ≤ a → a ≤ 0xEF → code_point a bs ≡ three_bytes 0x80 0xBF a bs
chosen-ee a bs l h =
    let t : is_within 0xC2 0xDF a ≡ false = grind (arith, nat_tests) in
    let u : (a == 0xE0) ≡ false = grind (arith, nat_tests) in
    let v : is_within 0xE1 0xEC a ≡ false = grind (arith, nat_tests) in
    let w : (a == 0xED) ≡ false = grind (arith, nat_tests) in
    let x : is_within 0xEE 0xEF a ≡ true = grind (arith, nat_tests) in
    rw (t, u, v, w, x) refl

chosen-f0 : (a : ℕ) (bs : List ℕ) → 0xF0 ≡ a → code_point a bs ≡ four_bytes 0x90 0xBF a bs
chosen-f0 a bs e = subst (λ a. code_point a bs ≡ four_bytes 0x90 0xBF a bs) e refl

chosen-f1 : (a : ℕ) (bs : List ℕ) → 0xF1 ≤ a → a ≤ 0xF3 → code_point a bs ≡ four_bytes 0x80 0xBF a bs
chosen-f1 a bs l h =
    let t : is_within 0xC2 0xDF a ≡ false = grind (arith, nat_tests) in
    let u : (a == 0xE0) ≡ false = grind (arith, nat_tests) in
    let v : is_within 0xE1 0xEC a ≡ false = grind (arith, nat_tests) in
    let w : (a == 0xED) ≡ false = grind (arith, nat_tests) in
    let x : is_within 0xEE 0xEF a ≡ false = grind (arith, nat_tests) in
    let y : (a == 0xF0) ≡ false = grind (arith, nat_tests) in
    let z : is_within 0xF1 0xF3 a ≡ true = grind (arith, nat_tests) in
    rw (t, u, v, w, x, y, z) refl

chosen-f4 : (a : ℕ) (bs : List ℕ) → 0xF4 ≡ a → code_point a bs ≡ four_bytes 0x80 0x8F a bs
chosen-f4 a bs e = subst (λ a. code_point a bs ≡ four_bytes 0x80 0x8F a bs) e refl

-- what the bytes of a form are read as
read-two : (a b c : ℕ) (rest : List ℕ) → 0x80 ≤ b → b ≤ 0xBF → (a - 0xC0) * 0x40 + (b - 0x80) ≡ c → two_bytes a (b ∷ rest) ≡ Some (c, 2)
read-two a b c rest l h e = let t : is_within 0x80 0xBF b ≡ true = grind (arith, nat_tests) in rw t (ap (λ x. Some (x, 2)) e)

read-three : (low high a b d c : ℕ) (rest : List ℕ) → low ≤ b → b ≤ high → 0x80 ≤ d → d ≤ 0xBF → (a - 0xE0) * 0x1000 + (b - 0x80) * 0x40 + (d - 0x80) ≡ c
    → three_bytes low high a (b ∷ d ∷ rest) ≡ Some (c, 3)
read-three low high a b d c rest lb hb ld hd e =
    let t : (is_within low high b && is_within 0x80 0xBF d) ≡ true = grind (arith, nat_tests) in rw t (ap (λ x. Some (x, 3)) e)

read-four : (low high a b d f c : ℕ) (rest : List ℕ) → low ≤ b → b ≤ high → 0x80 ≤ d → d ≤ 0xBF → 0x80 ≤ f → f ≤ 0xBF
    → (a - 0xF0) * 0x40000 + (b - 0x80) * 0x1000 + (d - 0x80) * 0x40 + (f - 0x80) ≡ c → four_bytes low high a (b ∷ d ∷ f ∷ rest) ≡ Some (c, 4)
read-four low high a b d f c rest lb hb ld hd lf hf e =
    let t : (is_within low high b && (is_within 0x80 0xBF d && is_within 0x80 0xBF f)) ≡ true = grind (arith, nat_tests) in rw t (ap (λ x. Some (x, 4)) e)

-- the code point at the front of a list
decoded : List ℕ → List ℕ → Option (ℕ × ℕ)
decoded [] rest = None
decoded (a ∷ more) rest = code_point a (more ++ rest)

encode-two : (c : ℕ) → 0x80 ≤ c → c < 0x800 → encode c ≡ (192 + c / 64) ∷ (128 + c % 64) ∷ []
unfolding encode
encode-two c l h =
    let t : nat_lt c 128 ≡ false = grind (arith, nat_tests) in
    let u : nat_lt c 2048 ≡ true = grind (arith, nat_tests) in
    rw (t, u) refl

encode-three : (c : ℕ) → 0x800 ≤ c → c < 0x10000 → encode c ≡ (224 + c / 4096) ∷ (128 + (c / 64) % 64) ∷ (128 + c % 64) ∷ []
unfolding encode
encode-three c l h =
    let t : nat_lt c 128 ≡ false = grind (arith, nat_tests) in
    let u : nat_lt c 2048 ≡ false = grind (arith, nat_tests) in
    let v : nat_lt c 65536 ≡ true = grind (arith, nat_tests) in
    rw (t, u, v) refl

encode-four : (c : ℕ) → 0x10000 ≤ c → encode c ≡ (240 + c / 262144) ∷ (128 + (c / 4096) % 64) ∷ (128 + (c / 64) % 64) ∷ (128 + c % 64) ∷ []
unfolding encode
encode-four c l =
    let t : nat_lt c 128 ≡ false = grind (arith, nat_tests) in
    let u : nat_lt c 2048 ≡ false = grind (arith, nat_tests) in
    let v : nat_lt c 65536 ≡ false = grind (arith, nat_tests) in
    rw (t, u, v) refl

module _ (c : ℕ) (rest : List ℕ) where
  written-two : 0x80 ≤ c → c < 0x800 → decoded (encode c) rest ≡ Some (c, length (encode c))
  unfolding decoded
  written-two l h =
      rw (encode-two c l h)
      (chosen-two (192 + c / 64) ((128 + c % 64) ∷ rest) (omega arith) (omega arith) ∙ read-two (192 + c / 64) (128 + c % 64) c rest (omega arith) (omega arith) (omega arith))

  written-three : 0x800 ≤ c → c < 0x10000 → (c < 0xD800) ⊎ (0xE000 ≤ c) → decoded (encode c) rest ≡ Some (c, length (encode c))
  unfolding decoded
  written-three l h (inl low) =
      let a = 224 + c / 4096 in
      let b = 128 + (c / 64) % 64 in
      let d = 128 + c % 64 in
      let v : (a - 0xE0) * 0x1000 + (b - 0x80) * 0x40 + (d - 0x80) ≡ c = omega arith in
      rw (encode-three c l h) (elim (cases_lt c 0x1000) [
        | inl lt ↦ chosen-e0 a (b ∷ d ∷ rest) (omega arith) ∙ read-three 0xA0 0xBF a b d c rest (omega arith) (omega arith) (omega arith) (omega arith) v
        | inr ge ↦ elim (cases_lt c 0xD000) [
          | inl lt ↦ chosen-e1 a (b ∷ d ∷ rest) (omega arith) (omega arith) ∙ read-three 0x80 0xBF a b d c rest (omega arith) (omega arith) (omega arith) (omega arith) v
          | inr ge2 ↦ chosen-ed a (b ∷ d ∷ rest) (omega arith) ∙ read-three 0x80 0x9F a b d c rest (omega arith) (omega arith) (omega arith) (omega arith) v
        ]
      ])
  written-three l h (inr high) =
      let a = 224 + c / 4096 in
      let b = 128 + (c / 64) % 64 in
      let d = 128 + c % 64 in
      let v : (a - 0xE0) * 0x1000 + (b - 0x80) * 0x40 + (d - 0x80) ≡ c = omega arith in
      rw (encode-three c l h) (chosen-ee a (b ∷ d ∷ rest) (omega arith) (omega arith) ∙ read-three 0x80 0xBF a b d c rest (omega arith) (omega arith) (omega arith) (omega arith) v)

  written-four : 0x10000 ≤ c → c < 0x110000 → decoded (encode c) rest ≡ Some (c, length (encode c))
  unfolding decoded
  written-four l h =
      let a = 240 + c / 262144 in
      let b = 128 + (c / 4096) % 64 in
      let d = 128 + (c / 64) % 64 in
      let f = 128 + c % 64 in
      let v : (a - 0xF0) * 0x40000 + (b - 0x80) * 0x1000 + (d - 0x80) * 0x40 + (f - 0x80) ≡ c = omega arith in
      rw (encode-four c l) (elim (cases_lt c 0x40000) [
        | inl lt ↦ chosen-f0 a (b ∷ d ∷ f ∷ rest) (omega arith) ∙ read-four 0x90 0xBF a b d f c rest (omega arith) (omega arith) (omega arith) (omega arith) (omega arith) (omega arith) v
        | inr ge ↦ elim (cases_lt c 0x100000) [
          | inl lt ↦ chosen-f1 a (b ∷ d ∷ f ∷ rest) (omega arith) (omega arith) ∙ read-four 0x80 0xBF a b d f c rest (omega arith) (omega arith) (omega arith) (omega arith) (omega arith) (omega arith) v
          | inr ge2 ↦ chosen-f4 a (b ∷ d ∷ f ∷ rest) (omega arith) ∙ read-four 0x80 0x8F a b d f c rest (omega arith) (omega arith) (omega arith) (omega arith) (omega arith) (omega arith) v
        ]
      ])

written : (c : ℕ) (rest : List ℕ) → IsScalar c → 0x80 ≤ c → decoded (encode c) rest ≡ Some (c, length (encode c))
written c rest s l =
    elim (cases_lt c 0x800) [
      | inl lt ↦ written-two c rest l lt
      | inr ge ↦ elim (cases_lt c 0x10000) [
        | inl lt ↦ written-three c rest ge lt (elim (scalar_cases c s) [ inl low ↦ inl low | inr high ↦ inr high.0 ])
        | inr big ↦ written-four c rest big (elim (scalar_cases c s) [ inl low ↦ omega arith | inr high ↦ high.1 ])
      ]
    ]

chosen-none : (a : ℕ) (bs : List ℕ) → (a < 0xC2) ⊎ (0xF4 < a) → code_point a bs ≡ None
chosen-none a bs h =
    let t : is_within 0xC2 0xDF a ≡ false = outside 0xC2 0xDF a h (omega arith) (omega arith) in
    let u : (a == 0xE0) ≡ false = other 0xE0 a h (omega arith) (omega arith) in
    let v : is_within 0xE1 0xEC a ≡ false = outside 0xE1 0xEC a h (omega arith) (omega arith) in
    let w : (a == 0xED) ≡ false = other 0xED a h (omega arith) (omega arith) in
    let x : is_within 0xEE 0xEF a ≡ false = outside 0xEE 0xEF a h (omega arith) (omega arith) in
    let y : (a == 0xF0) ≡ false = other 0xF0 a h (omega arith) (omega arith) in
    let z : is_within 0xF1 0xF3 a ≡ false = outside 0xF1 0xF3 a h (omega arith) (omega arith) in
    let last : (a == 0xF4) ≡ false = other 0xF4 a h (omega arith) (omega arith) in
    rw (t, u, v, w, x, y, z, last) refl
  where
    outside : (low high a : ℕ) → (a < 0xC2) ⊎ (0xF4 < a) → 0xC2 ≤ low → high ≤ 0xF4 → is_within low high a ≡ false
    outside low high a (inl h) l k = grind (arith, nat_tests)
    outside low high a (inr h) l k = grind (arith, nat_tests)

    other : (x a : ℕ) → (a < 0xC2) ⊎ (0xF4 < a) → 0xC2 ≤ x → x ≤ 0xF4 → (a == x) ≡ false
    other x a (inl h) l k = grind (arith, nat_tests)
    other x a (inr h) l k = grind (arith, nat_tests)

is-scalar : (c : ℕ) → (c < 0xD800) ⊎ ((0xE000 ≤ c) × (c < 0x110000)) → IsScalar c
is-scalar c (inl h) = grind (arith, nat_tests)
is-scalar c (inr h) = let l = h.0 in let k = h.1 in grind (arith, nat_tests)

parts : (x y c n : ℕ) → ◌≡◌ {A = Option (ℕ × ℕ)} (Some (x, y)) (Some (c, n)) → (x ≡ c) × (y ≡ n)
parts x y c n e = (ap (λ (o : Option (ℕ × ℕ)). (unwrap_or o (0, 0)).0) e, ap (λ (o : Option (ℕ × ℕ)). (unwrap_or o (0, 0)).1) e)

ranges : (low high b : ℕ) → is_within low high b ≡ true → (low ≤ b) × (b ≤ high)
ranges low high b t = (grind (arith, nat_tests), grind (arith, nat_tests))

two-front : (a : ℕ) (bs : List ℕ) (c n : ℕ) → 0xC2 ≤ a → a ≤ 0xDF → two_bytes a bs ≡ Some (c, n) → BeginsWith a bs c n
two-front a [] c n l h e = absurd (cc)
two-front a (b ∷ bs) c n l h e = by (is_within 0x80 0xBF b) refl e
  where
    by : (t : Bool) → is_within 0x80 0xBF b ≡ t → cond {A = Option (ℕ × ℕ)} t (Some ((a - 0xC0) * 0x40 + (b - 0x80), 2)) None ≡ Some (c, n) → BeginsWith a (b ∷ bs) c n
    by false t e = absurd (cc)
    by true t e =
        let p = parts ((a - 0xC0) * 0x40 + (b - 0x80)) 2 c n e in
        let r = ranges 0x80 0xBF b t in
        let first : 192 + c / 64 ≡ a = omega arith in
        let second : 128 + c % 64 ≡ b = omega arith in
        record {
          scalar = is-scalar c (inl (omega arith));
          high = omega arith;
          more = b ∷ [];
          rest = bs;
          written = encode-two c (omega arith) (omega arith) ∙ cc;
          split = refl;
          len = sym p.1;
        }

three-front : (low high a : ℕ) (bs : List ℕ) (c n : ℕ) → 0xE0 ≤ a → a ≤ 0xEF → 0x80 ≤ low → high ≤ 0xBF
    → ((b : ℕ) → low ≤ b → b ≤ high → 0x800 ≤ (a - 0xE0) * 0x1000 + (b - 0x80) * 0x40)
    → ((b : ℕ) → low ≤ b → b ≤ high → ((a - 0xE0) * 0x1000 + (b - 0x80) * 0x40 + 0x3F < 0xD800) ⊎ (0xE000 ≤ (a - 0xE0) * 0x1000 + (b - 0x80) * 0x40))
    → three_bytes low high a bs ≡ Some (c, n) → BeginsWith a bs c n
three-front low high a [] c n l h low' high' least apart e = absurd (cc)
three-front low high a (b ∷ []) c n l h low' high' least apart e = absurd (cc)
three-front low high a (b ∷ d ∷ bs) c n l h low' high' least apart e = by (is_within low high b && is_within 0x80 0xBF d) refl e
  where
    by : (t : Bool) → (is_within low high b && is_within 0x80 0xBF d) ≡ t → cond {A = Option (ℕ × ℕ)} t (Some ((a - 0xE0) * 0x1000 + (b - 0x80) * 0x40 + (d - 0x80), 3)) None ≡ Some (c, n) → BeginsWith a (b ∷ d ∷ bs) c n
    by false t e = absurd (cc)
    by true t e =
        let p = parts ((a - 0xE0) * 0x1000 + (b - 0x80) * 0x40 + (d - 0x80)) 3 c n e in
        let ts = and_parts (is_within low high b) (is_within 0x80 0xBF d) t in
        let r = ranges low high b ts.0 in
        let s = ranges 0x80 0xBF d ts.1 in
        let at-least = least b r.0 r.1 in
        let first : 224 + c / 4096 ≡ a = omega arith in
        let second : 128 + (c / 64) % 64 ≡ b = omega arith in
        let third : 128 + c % 64 ≡ d = omega arith in
        record {
          scalar = is-scalar c (elim (apart b r.0 r.1) [ inl below ↦ inl (omega arith) | inr above ↦ inr (omega arith, omega arith) ]);
          high = omega arith;
          more = b ∷ d ∷ [];
          rest = bs;
          written = encode-three c (omega arith) (omega arith) ∙ cc;
          split = refl;
          len = sym p.1;
        }

four-front : (low high a : ℕ) (bs : List ℕ) (c n : ℕ) → 0xF0 ≤ a → a ≤ 0xF4 → 0x80 ≤ low → high ≤ 0xBF
    → ((b : ℕ) → low ≤ b → b ≤ high → 0x10000 ≤ (a - 0xF0) * 0x40000 + (b - 0x80) * 0x1000)
    → ((b : ℕ) → low ≤ b → b ≤ high → (a - 0xF0) * 0x40000 + (b - 0x80) * 0x1000 + 0xFFF < 0x110000)
    → four_bytes low high a bs ≡ Some (c, n) → BeginsWith a bs c n
four-front low high a [] c n l h low' high' least most e = absurd (cc)
four-front low high a (b ∷ []) c n l h low' high' least most e = absurd (cc)
four-front low high a (b ∷ d ∷ []) c n l h low' high' least most e = absurd (cc)
four-front low high a (b ∷ d ∷ f ∷ bs) c n l h low' high' least most e = by (is_within low high b && (is_within 0x80 0xBF d && is_within 0x80 0xBF f)) refl e
  where
    by : (t : Bool) → (is_within low high b && (is_within 0x80 0xBF d && is_within 0x80 0xBF f)) ≡ t
        → cond {A = Option (ℕ × ℕ)} t (Some ((a - 0xF0) * 0x40000 + (b - 0x80) * 0x1000 + (d - 0x80) * 0x40 + (f - 0x80), 4)) None ≡ Some (c, n) → BeginsWith a (b ∷ d ∷ f ∷ bs) c n
    by false t e = absurd (cc)
    by true t e =
        let p = parts ((a - 0xF0) * 0x40000 + (b - 0x80) * 0x1000 + (d - 0x80) * 0x40 + (f - 0x80)) 4 c n e in
        let ts = and_parts (is_within low high b) (is_within 0x80 0xBF d && is_within 0x80 0xBF f) t in
        let us = and_parts (is_within 0x80 0xBF d) (is_within 0x80 0xBF f) ts.1 in
        let r = ranges low high b ts.0 in
        let s = ranges 0x80 0xBF d us.0 in
        let u = ranges 0x80 0xBF f us.1 in
        let at-least = least b r.0 r.1 in
        let at-most = most b r.0 r.1 in
        let first : 240 + c / 262144 ≡ a = omega arith in
        let second : 128 + (c / 4096) % 64 ≡ b = omega arith in
        let third : 128 + (c / 64) % 64 ≡ d = omega arith in
        let fourth : 128 + c % 64 ≡ f = omega arith in
        record {
          scalar = is-scalar c (inr (omega arith, omega arith));
          high = omega arith;
          more = b ∷ d ∷ f ∷ [];
          rest = bs;
          written = encode-four c (omega arith) ∙ cc;
          split = refl;
          len = sym p.1;
        }

read : (a : ℕ) (bs : List ℕ) (c n : ℕ) → code_point a bs ≡ Some (c, n) → BeginsWith a bs c n
read a bs c n e =
    elim (cases_lt a 0xC2) [
      | inl lt ↦ absurd (let none = chosen-none a bs (inl lt) in cc)
      | inr g0 ↦
          elim (cases_lt a 0xE0) [
            | inl lt ↦ two-front a bs c n g0 (omega arith) (sym (chosen-two a bs g0 (omega arith)) ∙ e)
            | inr g1 ↦
                elim (cases_lt a 0xE1) [
                  | inl lt ↦ three-front 0xA0 0xBF a bs c n g1 (omega arith) (omega arith) (omega arith) (λ b l h. omega arith) (λ b l h. inl (omega arith)) (sym (chosen-e0 a bs (omega arith)) ∙ e)
                  | inr g2 ↦
                      elim (cases_lt a 0xED) [
                        | inl lt ↦ three-front 0x80 0xBF a bs c n g1 (omega arith) (omega arith) (omega arith) (λ b l h. omega arith) (λ b l h. inl (omega arith)) (sym (chosen-e1 a bs g2 (omega arith)) ∙ e)
                        | inr g3 ↦
                            elim (cases_lt a 0xEE) [
                              | inl lt ↦ three-front 0x80 0x9F a bs c n g1 (omega arith) (omega arith) (omega arith) (λ b l h. omega arith) (λ b l h. inl (omega arith)) (sym (chosen-ed a bs (omega arith)) ∙ e)
                              | inr g4 ↦
                                  elim (cases_lt a 0xF0) [
                                    | inl lt ↦ three-front 0x80 0xBF a bs c n g1 (omega arith) (omega arith) (omega arith) (λ b l h. omega arith) (λ b l h. inr (omega arith)) (sym (chosen-ee a bs g4 (omega arith)) ∙ e)
                                    | inr g5 ↦
                                        elim (cases_lt a 0xF1) [
                                          | inl lt ↦ four-front 0x90 0xBF a bs c n g5 (omega arith) (omega arith) (omega arith) (λ b l h. omega arith) (λ b l h. omega arith) (sym (chosen-f0 a bs (omega arith)) ∙ e)
                                          | inr g6 ↦
                                              elim (cases_lt a 0xF4) [
                                                | inl lt ↦ four-front 0x80 0xBF a bs c n g5 (omega arith) (omega arith) (omega arith) (λ b l h. omega arith) (λ b l h. omega arith) (sym (chosen-f1 a bs g6 (omega arith)) ∙ e)
                                                | inr g7 ↦
                                                    elim (cases_lt a 0xF5) [
                                                      | inl lt ↦ four-front 0x80 0x8F a bs c n g5 (omega arith) (omega arith) (omega arith) (λ b l h. omega arith) (λ b l h. omega arith) (sym (chosen-f4 a bs (omega arith)) ∙ e)
                                                      | inr g8 ↦
                                                          absurd (let none = chosen-none a bs (inr (omega arith)) in cc)
                                                    ]
                                              ]
                                        ]
                                  ]
                            ]
                      ]
                ]
          ]
    ]

begun : (a : ℕ) (bs : List ℕ) (c n : ℕ) → BeginsWith a bs c n → code_point a bs ≡ Some (c, n)
unfolding decoded
begun a bs c n b =
    ap (code_point a) b.split ∙ ap (λ l. decoded l b.rest) (sym b.written) ∙ written c b.rest b.scalar b.high
    ∙ ap (λ l. Some (c, length l)) b.written ∙ ap (λ m. Some (c, m)) (sym b.len)

pub utf8_read : (a c n : ℕ) (bs : List ℕ) → (code_point a bs ≡ Some (c, n)) ↔ BeginsWith a bs c n
utf8_read a c n bs = (read a bs c n, begun a bs c n)
