-- Lists of pieces that lead from one to another.
use Rattle.std.proofs.Common.{ℕ, [], ◌∷◌, refl, sym, subst}
use Rattle.track_graph.specs.Zones.{AreLinked}

pub link_on : {next : ℕ → ℕ → Type 0} (a b c : ℕ) → AreLinked next a b → next b c → AreLinked next a c
link_on {next} a b c ([], e) h = (c ∷ [], (subst (λ (x : ℕ). next x c) (sym e) h, refl))
link_on {next} a b c (d ∷ via, (h, more)) k = let rest = link_on {next = next} d b c (via, more) k in (d ∷ rest.0, (h, rest.1))

pub link_there : {next : ℕ → ℕ → Type 0} (a b c : ℕ) → AreLinked next a b → AreLinked next b c → AreLinked next a c
link_there {next} a b c h ([], e) = subst (λ (x : ℕ). AreLinked next a x) e h
link_there {next} a b c h (d ∷ via, (k, more)) = link_there {next = next} a d c (link_on {next = next} a b d h k) (via, more)

pub link_back : {next : ℕ → ℕ → Type 0} → ((a b : ℕ) → next a b → next b a) → (a b : ℕ) → AreLinked next a b → AreLinked next b a
link_back {next} back a b ([], e) = ([], sym e)
link_back {next} back a b (c ∷ via, (h, more)) = link_on {next = next} b c a (link_back {next = next} back c b (via, more)) (back a c h)

pub link_as : {next other : ℕ → ℕ → Type 0} → ((a b : ℕ) → next a b → other a b) → (a b : ℕ) → AreLinked next a b → AreLinked other a b
link_as {next} {other} as_other a b ([], e) = ([], e)
link_as {next} {other} as_other a b (c ∷ via, (h, more)) = let rest = link_as {next = next} {other = other} as_other c b (via, more) in (c ∷ rest.0, (as_other a c h, rest.1))

-- what each next one keeps is kept along a link
pub kept_along : {next : ℕ → ℕ → Type 0} (P : ℕ → Type 0) → ((a b : ℕ) → P a → next a b → P b) → (a b : ℕ) → AreLinked next a b → P a → P b
kept_along {next} P keeps a b ([], e) p = subst P e p
kept_along {next} P keeps a b (c ∷ via, (h, more)) p = kept_along {next = next} P keeps c b (via, more) (keeps a c p h)
