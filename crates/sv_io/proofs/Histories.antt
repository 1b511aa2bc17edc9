-- What was given, taken and sent, where one call follows another.
use Rattle.std.proofs.Common.{◌≡◌, ◌⊎◌, ℕ, List, [], ◌∷◌, ◌++◌, refl, sym, ap, ◌∙◌, inl, inr, take, append-nil, append_assoc}
use Rattle.sv_io.specs.Histories.{Output, IsFrontOf, Sends, Delivers, Takes}

pub take_none : (bs : List ℕ) → take 0 bs ≡ []
take_none [] = refl
take_none (b ∷ bs) = refl

-- more was given, or nothing
pub gave_more : (a b c x y : List ℕ) → b ≡ a ++ x → c ≡ b ++ y → c ≡ a ++ (x ++ y)
gave_more a b c x y before now = now ∙ ap (λ (l : List ℕ). l ++ y) before ∙ append_assoc a x y

pub gave_none : (a b c x buffer : List ℕ) (n : ℕ) → b ≡ a ++ x → c ≡ b ++ take n buffer → n ≡ 0 → c ≡ a ++ x
gave_none a b c x buffer n before now none = now ∙ ap (λ (l : List ℕ). b ++ l) (ap (λ (k : ℕ). take k buffer) none ∙ take_none buffer) ∙ append-nil b ∙ before

-- nothing is held back, and nothing is taken
pub delivers_nothing : (a : Output) → Delivers a a []
delivers_nothing a = record { took = sym (append-nil a.taken); sent = λ e. e }

pub delivers_both : (a b c : Output) (x y : List ℕ) → Delivers a b x → Delivers b c y → Delivers a c (x ++ y)
delivers_both a b c x y p q = record { took = gave_more a.taken b.taken c.taken x y p.took q.took; sent = λ e. q.sent (p.sent e) }

pub sent_delivered : (a b : Output) (text : List ℕ) → Sends a b text → Delivers a b text
sent_delivered a b text h = record { took = h.took; sent = λ e. h.sent }

pub takes_nothing : (a : Output) (text : List ℕ) → Takes a a text
takes_nothing a text = record { count = 0; took = sym (ap (λ (l : List ℕ). a.taken ++ l) (take_none text) ∙ append-nil a.taken); sent = inl refl }

-- fronts
pub front_all : (a : List ℕ) → IsFrontOf a a
front_all a = ([], sym (append-nil a))

pub front_more : (a b c x : List ℕ) → IsFrontOf a b → c ≡ b ++ x → IsFrontOf a c
front_more a b c x front is = (front.0 ++ x, gave_more a b c front.0 x front.1 is)

sent_or_held : (a b : Output) (text : List ℕ) (h : Takes a b text) → (b.sent ≡ a.sent) ⊎ (b.sent ≡ b.taken) → IsFrontOf a.sent a.taken → IsFrontOf a.sent b.sent × IsFrontOf b.sent b.taken
sent_or_held a b text h (inl is) front =
    let more = front_more a.sent a.taken b.taken (take h.count text) front h.took in
    (([], is ∙ sym (append-nil a.sent)), (more.0, more.1 ∙ ap (λ (l : List ℕ). l ++ more.0) (sym is)))
sent_or_held a b text h (inr is) front = let more = front_more a.sent a.taken b.taken (take h.count text) front h.took in ((more.0, is ∙ more.1), ([], sym is ∙ sym (append-nil b.sent)))

-- what was sent stays so, and was taken
pub sent_on : (a b : Output) (text : List ℕ) → Takes a b text → IsFrontOf a.sent a.taken → IsFrontOf a.sent b.sent × IsFrontOf b.sent b.taken
sent_on a b text h front = sent_or_held a b text h h.sent front
