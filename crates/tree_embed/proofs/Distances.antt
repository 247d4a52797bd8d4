-- The tests on the sums tell whether nodes are within a radius of each other.
use Rattle.std.proofs.Common.{◌≡◌, ℕ, ◌+◌, ◌<◌, ◌≤◌, true, List, [], ◌∷◌, ◌++◌, Option, Some, None, length, max, arith, refl, ap, sym, ◌∙◌}
use Rattle.std.proofs.lemmas.Bool.{leb-true, le-leb}
use Rattle.te_model.specs.declared.network.Network.{Network}
use Rattle.te_model.specs.Network.{node_count}
use Rattle.te_model.proofs.Choices.{pushed_count, pushed_each}
use Rattle.shortest_path.specs.Graph.{AtMost}
use Rattle.shortest_path.specs.Paths.{IsDistance}
use Rattle.shortest_path.specs.Least.{AreLeastSums}
use Rattle.shortest_path.proofs.Relaxing.{at_most-some}
use Rattle.shortest_path.proofs.LeastSums.{distance_of_sums}
use Rattle.shortest_path.specs.Links.{every_link}
use Rattle.shortest_path.proofs.Unique.{distance_only}
use Rattle.tree_embed.specs.Centers.{IsInRadius, greater_of}
use Rattle.tree_embed.specs.Tables.{AreSums, is_at_most, is_within, sum_between, sums_to}

pub distance_between : (net : Network) (lengths : List ℕ) (sums : List (List (Option ℕ))) → AreSums net lengths sums →
    (u v : ℕ) → v < node_count net → IsDistance net lengths u v (sum_between sums u v)
distance_between net lengths sums are u v below = distance_of_sums net lengths v (sums_to sums v) (are.each v below) u

-- the test on the sums tells whether the distance is at most the radius
pub within_true : (net : Network) (lengths : List ℕ) (sums : List (List (Option ℕ))) → AreSums net lengths sums →
    (radius u v : ℕ) → u < node_count net → v < node_count net → is_within sums radius u v ≡ true → IsInRadius net lengths radius u v
within_true net lengths sums are radius u v below_u below_v is =
    go (sum_between sums u v) (sum_between sums v u) (distance_between net lengths sums are u v below_v) (distance_between net lengths sums are v u below_u) is
  where
    go : (x y : Option ℕ) → IsDistance net lengths u v x → IsDistance net lengths v u y → is_at_most (greater_of x y) radius ≡ true →
        IsInRadius net lengths radius u v
    go None y one two e = cc
    go (Some a) None one two e = cc
    go (Some a) (Some b) one two e = (max a b, (Some a, Some b, one, two, refl), leb-true (max a b) radius e)

pub within_is : (net : Network) (lengths : List ℕ) (sums : List (List (Option ℕ))) → AreSums net lengths sums →
    (radius u v : ℕ) → u < node_count net → v < node_count net → IsInRadius net lengths radius u v → is_within sums radius u v ≡ true
within_is net lengths sums are radius u v below_u below_v (d, (there, back, one, two, is), le) =
    let to : there ≡ sum_between sums u v = distance_only net lengths u v there (sum_between sums u v) one (distance_between net lengths sums are u v below_v) in
    let from : back ≡ sum_between sums v u = distance_only net lengths v u back (sum_between sums v u) two (distance_between net lengths sums are v u below_u) in
    let e : greater_of (sum_between sums u v) (sum_between sums v u) ≡ Some d =
    ap (λ o. greater_of o (sum_between sums v u)) (sym to) ∙ ap (λ o. greater_of there o) (sym from) ∙ sym is
    in
    ap (λ o. is_at_most o radius) e ∙ le-leb d radius le

-- a node is within every radius of itself
pub within_itself : (net : Network) (lengths : List ℕ) (sums : List (List (Option ℕ))) → AreSums net lengths sums →
    (radius v : ℕ) → v < node_count net → is_within sums radius v v ≡ true
within_itself net lengths sums are radius v below =
    let here : AtMost (sum_between sums v v) 0 = (are.each v below).below v [] refl in
    let (d, is, le) = at_most-some (sum_between sums v v) 0 here in
    let small : max d d ≤ radius = omega arith in
    ap (λ o. is_at_most (greater_of o o) radius) is ∙ le-leb (max d d) radius small

-- the rows of the nodes below n
pub record SumsSoFar (net : Network) (lengths : List ℕ) (n : ℕ) (sums : List (List (Option ℕ))) : Type 0 where
  pub count : length sums ≡ n
  pub each : (t : ℕ) → t < n → AreLeastSums net lengths (every_link net) t (sums_to sums t)

pub sums_none : (net : Network) (lengths : List ℕ) → SumsSoFar net lengths 0 []
sums_none net lengths = record { count = refl; each = λ t below. absurd (omega (arith, below)) }

pub sums_more : (net : Network) (lengths : List ℕ) (n : ℕ) (sums : List (List (Option ℕ))) (row : List (Option ℕ)) →
    SumsSoFar net lengths n sums → AreLeastSums net lengths (every_link net) n row → SumsSoFar net lengths (n + 1) (sums ++ row ∷ [])
sums_more net lengths n sums row so_far are = record {
  count = pushed_count sums row n so_far.count;
  each = pushed_each (AreLeastSums net lengths (every_link net)) sums row [] n so_far.count so_far.each are;
}
