-- Numbers at the ends of pairs that cover the shares on one link.
use Rattle.std.specs.Prelude.{ℕ, ◌+◌, ◌-◌, ◌*◌, ◌<◌, ◌≤◌, ◌==◌, if◌then◌else◌}
use Rattle.te_model.specs.Counting.{sum_below, greatest_below}

-- nodes, with what each sends and receives; pairs, with their ends, and the share of each on the link
pub record CoverProblem : Type 0 where
  pub nodes : ℕ
  pub sent : ℕ → ℕ
  pub received : ℕ → ℕ
  pub pairs : ℕ
  pub source : ℕ → ℕ
  pub destination : ℕ → ℕ
  pub share : ℕ → ℕ

-- the share of each pair is covered by the numbers of its ends
abbrev pub Covers : CoverProblem → (ℕ → ℕ) → (ℕ → ℕ) → Type 0
Covers x tails heads = (p : ℕ) → p < x.pairs → x.share p ≤ tails (x.source p) + heads (x.destination p)

-- what the numbers come to
abbrev pub cover_sum : CoverProblem → (ℕ → ℕ) → (ℕ → ℕ) → ℕ
cover_sum x tails heads = sum_below x.nodes (λ i. x.sent i * tails i + x.received i * heads i)

-- the greatest share of the pairs whose end this is
abbrev pub greatest_share : CoverProblem → (ℕ → ℕ) → ℕ → ℕ
greatest_share x end' i = greatest_below x.pairs (λ p. if end' p == i then x.share p else 0)

-- one less for node i
abbrev pub lowered_at : (ℕ → ℕ) → ℕ → ℕ → ℕ
lowered_at f i k = if k == i then f k - 1 else f k

-- The numbers cover the shares; none of 1 or more can be one less; they come to no more than the greatest shares of the sources alone, and
-- than those of the destinations alone; and none is above a bound of the shares.
pub record IsTightCover (x : CoverProblem) (tails heads : ℕ → ℕ) : Type 0 where
  pub covers : Covers x tails heads
  pub tight_tails : (i : ℕ) → i < x.nodes → 1 ≤ tails i → Covers x (lowered_at tails i) heads → ⊥
  pub tight_heads : (i : ℕ) → i < x.nodes → 1 ≤ heads i → Covers x tails (lowered_at heads i) → ⊥
  pub by_tails : cover_sum x tails heads ≤ cover_sum x (greatest_share x x.source) (λ i. 0)
  pub by_heads : cover_sum x tails heads ≤ cover_sum x (λ i. 0) (greatest_share x x.destination)
  pub small : (bound : ℕ) → ((p : ℕ) → p < x.pairs → x.share p ≤ bound) → (i : ℕ) → (tails i ≤ bound) × (heads i ≤ bound)

-- there are such numbers
abbrev pub TightCoversExist : Type 0
TightCoversExist = (x : CoverProblem) → (tails : ℕ → ℕ) × (heads : ℕ → ℕ) × IsTightCover x tails heads
