-- What paths put on the links.
use Rattle.std.specs.Prelude.{ℕ, List, [], length, slice_index_or}
use Rattle.te_model.specs.declared.network.Network.{Network}
use Rattle.te_model.specs.Path.{amount_on}
use Rattle.te_model.specs.Counting.{sum_below}
use Rattle.multiplicative_lengths.specs.Growth.{for_each_link}

-- what path p puts on link e
abbrev pub put_on : (ℕ → ℕ) → List (List ℕ) → ℕ → ℕ → ℕ
put_on amount paths e p = amount_on (slice_index_or paths p []) (amount p) e

-- each path puts its amount on every link that it holds
abbrev pub loads_of : Network → (ℕ → ℕ) → List (List ℕ) → List ℕ
loads_of net amount paths = for_each_link net (λ e. sum_below (length paths) (put_on amount paths e))
