-- What the pairs on a link use of what the distances allow: the lower bounds by the distances.
use Rattle.std.specs.Prelude.{ℕ, ◌+◌, ◌-◌, ◌*◌, List, length, min}
use Rattle.te_model.specs.declared.route.PairRoutes.{PairRoutes}
use Rattle.te_model.specs.Counting.{sum_below}
use Rattle.te_model.specs.Path.{share}
use Rattle.routing.specs.Shares.{AreSharesOn}
use Rattle.shortest_path.specs.Pairs.{AreValues}
use Rattle.best_blocks.specs.declared.sharing.SharedLink.{SharedLink}
use Rattle.best_blocks.specs.Best.{weighed_share}

-- the pairs with a share are listed: both lists tell the shares of some routing on the link
pub record AreSharesListed (l : SharedLink) : Type 0 where
  pub routes : List PairRoutes
  pub listed : AreSharesOn routes l.link l.list
  pub shares_are : AreValues (length routes) (λ p. share routes p l.link) l.shares

-- what a pair uses that asks for so much: up to its distance by its lower bound, and beyond by its upper one
abbrev pub used_by : ℕ → ℕ → ℕ → ℕ → ℕ
used_by lower upper distance wanted = upper * (wanted - distance) + lower * min wanted distance

-- what n pairs use
abbrev pub used_by_shares : (ℕ → ℕ) → (ℕ → ℕ) → ℕ → (ℕ → ℕ) → (ℕ → ℕ) → ℕ → ℕ
used_by_shares lower upper n shares distance b = sum_below n (λ p. used_by (lower p) (upper p) (distance p) (weighed_share b (shares p)))
