-- Laws of rates that survive failed links, as statements.
use Rattle.std.specs.Prelude.{◌≡◌, ◌⊎◌, ℕ, suc, min, ◌-◌, ◌*◌, ◌<◌, ◌==◌, if◌then◌else◌}
use Rattle.fault_rates.specs.Protection.{Protection, paths_left, guard, sum_on_link, AreGuarded, SurvivesFailures}

-- guarded grants survive
abbrev pub GuardedGrantsSurvive : Type 0
GuardedGrantsSurvive = (x : Protection) → AreGuarded x → SurvivesFailures x

-- where all allocations of a pair are one number, its guard is that number for each path that is left
abbrev pub EvenGuards : Type 0
EvenGuards = (x : Protection) (p a : ℕ) → ((i : ℕ) → i < x.paths p → x.allocation p i ≡ a) → guard x p ≡ a * paths_left x p

-- the rates of these allocations, one number for all paths of each pair, of which each pair is granted what they guard, up to its demand
abbrev pub with_even : Protection → (ℕ → ℕ) → Protection
with_even x a = record {
  failures = x.failures;
  pairs = x.pairs;
  paths = x.paths;
  holds = x.holds;
  demand = x.demand;
  grant = λ p. min (x.demand p) (paths_left x p * a p);
  allocation = λ p i. a p;
  links = x.links;
  capacity = x.capacity;
}

-- one more for pair p
abbrev pub raised_at : (ℕ → ℕ) → ℕ → ℕ → ℕ
raised_at a p q = if q == p then suc (a q) else a q

-- the rates are guarded; a pair without a path left has none, and no other has more than its demand asks for; and where a grant is below
-- its demand, one more on each of the pair's paths does not fit some link
pub record IsEvenProtection (x : Protection) (a : ℕ → ℕ) : Type 0 where
  pub guarded : AreGuarded (with_even x a)
  pub none : (p : ℕ) → p < x.pairs → paths_left x p ≡ 0 → a p ≡ 0
  pub cap : (p : ℕ) → p < x.pairs → 0 < paths_left x p → (a p ≡ 0) ⊎ (paths_left x p * (a p - 1) < x.demand p)
  pub most : (p : ℕ) → p < x.pairs → 0 < paths_left x p → paths_left x p * a p < x.demand p →
      (e : ℕ) × (e < x.links) × (x.capacity e < sum_on_link x (λ q i. raised_at a p q) e)

-- whatever the demands and the capacities are, there is one
abbrev pub EvenProtectionsExist : Type 0
EvenProtectionsExist = (x : Protection) → (a : ℕ → ℕ) × IsEvenProtection x a
