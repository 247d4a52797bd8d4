-- Paths with the parts that they have of a demand.
use Rattle.std.specs.Prelude.{◌≡◌, ℕ, ◌^◌, ◌≤◌, All, Bool, IsTrue, List, length, sum_by, take}
use Rattle.te_model.specs.declared.route.Path.{Path}
use Rattle.te_model.specs.declared.route.PathShare.{PathShare}
use Rattle.routing.specs.Split.{total_weight}

-- so many rates from 1 to 2^30
pub record AreSomeRates (n : ℕ) (rates : List ℕ) : Type 0 where
  pub count : length rates ≡ n
  pub some : All (λ r. 1 ≤ r) rates
  pub small : All (λ r. r ≤ 2 ^ 30) rates

-- shares over some of the paths, which carry the parts of the first n of them
pub record AreSharesOf (paths : List Path) (parts : List ℕ) (n : ℕ) (shares : List PathShare) : Type 0 where
  pub whole : total_weight shares ≡ sum_by (λ x. x) (take n parts)
  pub some : All (λ s. 1 ≤ s.weight) shares
  pub few : length shares ≤ n
  pub only : (is : List ℕ → Bool) → All (λ p. IsTrue (is p.links)) paths → All (λ s. IsTrue (is s.links)) shares
