-- What is prepared of the nodes, one after the other.
use Rattle.std.proofs.Common.{ℕ, ◌+◌, ◌<◌, List, [], ◌∷◌, ◌++◌, Option, None, length, arith, refl, ◌==◌}
use Rattle.std.specs.Prelude.{IsSomeAnd, IsTrue}
use Rattle.std.proofs.lemmas.Bool.{eq-eqb}
use Rattle.std.proofs.lemmas.List.Folds.{list_any_at}
use Rattle.te_model.specs.declared.route.Pair.{Pair}
use Rattle.te_model.proofs.Choices.{pushed_count, pushed_each}
use Rattle.scheme.specs.Reach.{no_pair, pair_at}
use Rattle.scheme.specs.Toward.{AreTowards, sends_to}

-- what is prepared of one node more
pub towards_more : {T : Type 0} (P : ℕ → T → Type 0) (n : ℕ) (pairs : List Pair) (towards : List (Option T)) (o : Option T) → AreTowards P n pairs towards →
    (IsTrue (sends_to pairs n) → IsSomeAnd o (P n)) → AreTowards P (n + 1) pairs (towards ++ o ∷ [])
towards_more P n pairs towards o are last = record {
  count = pushed_count towards o n are.count;
  each = pushed_each (λ v x. IsTrue (sends_to pairs v) → IsSomeAnd x (P v)) towards o None n are.count are.each last;
}

-- each pair sends to its destination
pub pair_sends : (pairs : List Pair) (p : ℕ) → p < length pairs → IsTrue (sends_to pairs (pair_at pairs p).dst)
pair_sends pairs p below =
    list_any_at (λ q. q.dst == (pair_at pairs p).dst) pairs p no_pair below (eq-eqb (pair_at pairs p).dst (pair_at pairs p).dst refl)
