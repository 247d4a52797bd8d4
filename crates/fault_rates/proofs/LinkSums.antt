-- Sums on links, one path after another.
use Rattle.std.proofs.Common.{◌≡◌, ℕ, suc, ◌+◌, ◌*◌, ◌<◌, ◌≤◌, List, length, replicate, slice_index, arith, ap, inl, inr}
use Rattle.std.proofs.lemmas.Bool.{cases_lt}
use Rattle.std.proofs.lemmas.List.{get_or-replicate, length-replicate}
use Rattle.std.proofs.lemmas.List.Elements.{All-get_or}
use Rattle.te_model.specs.declared.route.PathShare.{PathShare}
use Rattle.te_model.specs.Counting.{sum_below}
use Rattle.te_model.specs.Path.{amount_on, has_number}
use Rattle.te_model.proofs.Conditionals.{if_le-self}
use Rattle.te_model.proofs.Sums.{sum_below-bound}
use Rattle.te_model.proofs.Tests.{get_or_past}
use Rattle.routing.specs.Merge.{no_path}
use Rattle.routing.specs.Shares.{AreLinksOnce}
use Rattle.fault_rates.specs.Plan.{links_of}
use Rattle.fault_rates.specs.Tables.{AreSimplePaths}

-- the path at a place holds no link twice
pub simple_at : (links : ℕ) (paths : List PathShare) (i : ℕ) → AreSimplePaths links paths → i < length paths → AreLinksOnce links (links_of paths i)
simple_at links paths i simple below = All-get_or (λ s. AreLinksOnce links s.links) paths i no_path below simple

-- so many paths have no more on a link than each of them at most
pub few_amounts : (paths : List PathShare) (amount : ℕ → ℕ) (bound n e : ℕ) → ((i : ℕ) → amount i ≤ bound) →
    sum_below n (λ i. amount_on (links_of paths i) (amount i) e) ≤ n * bound
few_amounts paths amount bound n e small =
    sum_below-bound n bound (λ i. amount_on (links_of paths i) (amount i) e)
    (λ i below. omega (arith, if_le-self (has_number (links_of paths i) e) (amount i), small i))
