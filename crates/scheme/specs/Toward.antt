-- What a rule prepares of the nodes to which pairs send.
use Rattle.std.specs.Prelude.{◌≡◌, ℕ, ◌<◌, Bool, IsSomeAnd, IsTrue, List, None, Option, length, slice_index_or, ◌==◌}
use Rattle.std.specs.List.{list_any}
use Rattle.te_model.specs.declared.route.Pair.{Pair}

-- whether a pair sends to node v
abbrev pub sends_to : List Pair → ℕ → Bool
sends_to pairs v = list_any (λ p. p.dst == v) pairs

-- what is prepared of each of n nodes to which a pair sends
pub record AreTowards {T : Type 0} (is_toward : ℕ → T → Type 0) (n : ℕ) (pairs : List Pair) (towards : List (Option T)) : Type 0 where
  pub count : length towards ≡ n
  pub each : (v : ℕ) → v < n → IsTrue (sends_to pairs v) → IsSomeAnd (slice_index_or towards v None) (is_toward v)
