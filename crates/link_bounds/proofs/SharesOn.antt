-- Whether some pair has a share on a link, told by the shares of all pairs on it.
use Rattle.std.proofs.Common.{◌≡◌, ◌∙◌, ℕ, zero, suc, Bool, true, false, not, ◌&&◌, Option, Some, None, List, length, ◌==◌, refl, ap}
use Rattle.std.specs.Option.{is_some}
use Rattle.te_model.specs.declared.route.PairRoutes.{PairRoutes}
use Rattle.te_model.specs.declared.inequality.InequalityFault.{InequalityFault}
use Rattle.te_model.specs.Counting.{all_below, first_below, or_else, unless}
use Rattle.te_model.specs.Inequalities.{failure_at}
use Rattle.link_bounds.specs.Needs.{has_share}
use Rattle.te_model.specs.Path.{share}

-- a search for a number that fails a test finds one exactly where not all pass
search_finds : (n : ℕ) (test : ℕ → Bool) (x : ℕ → InequalityFault) → is_some (first_below n (λ k. unless (test k) (x k))) ≡ not (all_below n test)
search_finds zero test x = refl
search_finds (suc n) test x = last (first_below n (λ k. unless (test k) (x k))) (all_below n test) (test n) (x n) (search_finds n test x)
  where
    last : (o : Option InequalityFault) (all t : Bool) (y : InequalityFault) → is_some o ≡ not all → is_some (or_else o (unless t y)) ≡ not (all && t)
    last (Some f) true t y before = absurd cc
    last (Some f) false t y before = refl
    last None true true y before = refl
    last None true false y before = refl
    last None false t y before = absurd cc

pub has_share_found : (routes : List PairRoutes) (e : ℕ) (found : Option InequalityFault) (answer : Bool) →
    found ≡ first_below (length routes) (λ p. unless (share routes p e == 0) (failure_at 2 p)) → answer ≡ is_some found → answer ≡ has_share routes e
has_share_found routes e found answer is said = said ∙ ap is_some is ∙ search_finds (length routes) (λ p. share routes p e == 0) (failure_at 2)
