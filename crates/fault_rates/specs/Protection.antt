-- Rates that survive failed links: allocations on the paths of each pair, and what each pair is granted (after FFC; Liu and
-- others, 2014).
use Rattle.std.specs.Prelude.{◌≡◌, ℕ, ◌-◌, ◌*◌, ◌<◌, ◌≤◌, Bool, true, ◌&&◌, ◌||◌, nat_lt, ◌==◌, if◌then◌else◌}
use Rattle.te_model.specs.Counting.{sum_below, count_below, greatest_below}

-- how many links may fail; pairs, for each the number of its paths and which of these hold a link, its demand, its grant and its allocations;
-- links, and their capacities
pub record Protection : Type 0 where
  pub failures : ℕ
  pub pairs : ℕ
  pub paths : ℕ → ℕ
  pub holds : ℕ → ℕ → ℕ → Bool
  pub demand : ℕ → ℕ
  pub grant : ℕ → ℕ
  pub allocation : ℕ → ℕ → ℕ
  pub links : ℕ
  pub capacity : ℕ → ℕ

-- the greatest number of paths of pair p that hold one link
abbrev pub most_on_a_link : Protection → ℕ → ℕ
most_on_a_link x p = greatest_below x.links (λ e. count_below (x.paths p) (λ i. x.holds p i e))

-- how many paths of pair p are left at least where the links fail
abbrev pub paths_left : Protection → ℕ → ℕ
paths_left x p = x.paths p - x.failures * most_on_a_link x p

-- whether fewer than `few` of the n places come before place i, by the lesser key and then by the place
abbrev pub is_among_least : ℕ → (ℕ → ℕ) → ℕ → ℕ → Bool
is_among_least n key few i = nat_lt (count_below n (λ j. nat_lt (key j) (key i) || (key j == key i && nat_lt j i))) few

-- the sum of the least allocations of pair p, of as many as there are paths left
abbrev pub guard : Protection → ℕ → ℕ
guard x p = sum_below (x.paths p) (λ i. if is_among_least (x.paths p) (x.allocation p) (paths_left x p) i then x.allocation p i else 0)

-- the sum of these amounts over the paths that hold link e
abbrev pub sum_on_link : Protection → (ℕ → ℕ → ℕ) → ℕ → ℕ
sum_on_link x amount e = sum_below x.pairs (λ p. sum_below (x.paths p) (λ i. if x.holds p i e then amount p i else 0))

-- the allocations fit the links, and each grant is within the pair's guard and its demand
pub record AreGuarded (x : Protection) : Type 0 where
  pub fits : (e : ℕ) → e < x.links → sum_on_link x x.allocation e ≤ x.capacity e
  pub guarded : (p : ℕ) → p < x.pairs → x.grant p ≤ guard x p
  pub wanted : (p : ℕ) → p < x.pairs → x.grant p ≤ x.demand p

-- amounts on the paths that carry each grant whole over links that have not failed, within the allocations and the capacities
pub record CarriesGrants (x : Protection) (failed : ℕ → Bool) (amount : ℕ → ℕ → ℕ) : Type 0 where
  pub avoids : (p i e : ℕ) → p < x.pairs → i < x.paths p → e < x.links → failed e ≡ true → x.holds p i e ≡ true → amount p i ≡ 0
  pub within : (p i : ℕ) → p < x.pairs → i < x.paths p → amount p i ≤ x.allocation p i
  pub whole : (p : ℕ) → p < x.pairs → sum_below (x.paths p) (amount p) ≡ x.grant p
  pub fits : (e : ℕ) → e < x.links → sum_on_link x amount e ≤ x.capacity e

-- whichever links fail, no more than so many, such amounts are there
abbrev pub SurvivesFailures : Protection → Type 0
SurvivesFailures x = (failed : ℕ → Bool) → count_below x.links failed ≤ x.failures → (amount : ℕ → ℕ → ℕ) × CarriesGrants x failed amount
