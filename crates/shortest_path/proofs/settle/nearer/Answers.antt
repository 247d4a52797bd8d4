use Rattle.std.proofs.Common.{◌≡◌, ℕ, ◌<◌, ◌≤◌, ◌⊎◌, inl, inr, Some, Option, refl, subst, sym}
use Rattle.std.specs.Option.{MatchOption}
use Rattle.shortest_path.proofs.settle.nearer.Goals as goal

-- which of the two is taken
abbrev taken : Option (ℕ × ℕ) → ℕ → ℕ → Option (ℕ × ℕ) → Option (ℕ × ℕ) → Type 0
taken best v d result at =
    MatchOption at (result ≡ Some (v, d)) (λ r. ((d < r.1) × (result ≡ Some (v, d))) ⊎ ((r.1 ≤ d) × (result ≡ best)))

pub returns-then-d-least : goal.returns-then-d-least
returns-then-d-least c =
    subst (taken c.args.best c.args.v c.args.d (Some (c.args.v, c.args.d))) (sym c.in-Some.is) (inl (c.if-d-least.true, refl))

pub returns-else-d-least : goal.returns-else-d-least
returns-else-d-least c = subst (taken c.args.best c.args.v c.args.d c.args.best) (sym c.in-Some.is) (inr (c.if-d-least.false, refl))
