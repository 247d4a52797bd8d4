-- Paths of pairs that sweeps add and put in place of others.
use Rattle.std.proofs.Common.{inl, inr, ◌≡◌, ℕ, ◌<◌, ◌≤◌, true, List, [], ◌∷◌, ◌++◌, length, set, arith, sym, ◌∙◌, subst}
use Rattle.std.specs.Prelude.{IsTrue}
use Rattle.std.proofs.lemmas.Bool.{cases_eq}
use Rattle.std.proofs.lemmas.List.{length_push, length-set, get_or-set_same, get_or-set_other}
use Rattle.std.proofs.lemmas.List.Elements.{All-push, All-set}
use Rattle.te_model.specs.declared.network.Network.{Network}
use Rattle.te_model.specs.declared.route.Pair.{Pair}
use Rattle.te_model.specs.declared.route.Path.{Path}
use Rattle.te_model.specs.Path.{is_path}
use Rattle.scheme.specs.Reach.{pair_at}
use Rattle.robust_routing.specs.Joint.{ArePathsOfPairs, ArePathsWithin}
use Rattle.robust_routing.specs.Rates.{PathsWithRates, rates_at}
use Rattle.robust_routing.specs.Weights.{AreLinkWeights, AreWeightsOfLinks}

pub path_added : (net : Network) (limit : ℕ) (pair : Pair) (paths : List Path) (p : Path) → ArePathsWithin net limit pair paths →
    length paths < limit → is_path net pair.src pair.dst p.links ≡ true → ArePathsWithin net limit pair (paths ++ p ∷ [])
path_added net limit pair paths p are below is = record {
  some = omega (arith, length_push paths p);
  few = omega (arith, length_push paths p, below);
  sound = All-push (λ (q : Path). IsTrue (is_path net pair.src pair.dst q.links)) paths p are.sound is;
}

pub path_replaced : (net : Network) (limit : ℕ) (pair : Pair) (paths : List Path) (place : ℕ) (p : Path) → ArePathsWithin net limit pair paths →
    is_path net pair.src pair.dst p.links ≡ true → ArePathsWithin net limit pair (set paths place p)
path_replaced net limit pair paths place p are is = record {
  some = omega (arith, length-set paths place p, are.some);
  few = omega (arith, length-set paths place p, are.few);
  sound = All-set (λ (q : Path). IsTrue (is_path net pair.src pair.dst q.links)) paths place p is are.sound;
}

-- one path alone
pub path_alone : (net : Network) (pair : Pair) (p : Path) → is_path net pair.src pair.dst p.links ≡ true → ArePathsWithin net 1 pair (p ∷ [])
path_alone net pair p is = record {
  some = omega arith;
  few = omega arith;
  sound = All-push (λ (q : Path). IsTrue (is_path net pair.src pair.dst q.links)) [] p (λ k d below. absurd (omega arith)) is;
}

-- the paths and rates of one pair anew
pub pair_set : (net : Network) (limit : ℕ) (pairs : List Pair) (list : List PathsWithRates) (p : ℕ) (new : PathsWithRates) →
    ArePathsOfPairs net limit pairs list → ArePathsWithin net limit (pair_at pairs p) new.paths → ArePathsOfPairs net limit pairs (set list p new)
pair_set net limit pairs list p new are is = record {
  count = length-set list p new ∙ are.count;
  each = λ q below. each q (omega (arith, below, length-set list p new));
}
  where
    none : PathsWithRates
    none = record { paths = []; rates = [] }

    each : (q : ℕ) → q < length list → ArePathsWithin net limit (pair_at pairs q) (rates_at (set list p new) q).paths
    each q below = elim (cases_eq q p) [
      | inl e ↦ subst (λ (k : ℕ). ArePathsWithin net limit (pair_at pairs k) (rates_at (set list p new) k).paths) (sym e)
          (subst (λ (r : PathsWithRates). ArePathsWithin net limit (pair_at pairs p) r.paths) (sym (get_or-set_same list p new none (omega (arith, below, e)))) is)
      | inr ne ↦ subst (λ (r : PathsWithRates). ArePathsWithin net limit (pair_at pairs q) r.paths) (sym (get_or-set_other list p q new none ne)) (are.each q below)
    ]

-- a higher limit is kept too
pub paths_of_more : (net : Network) (few many : ℕ) (pairs : List Pair) (list : List PathsWithRates) → few ≤ many → ArePathsOfPairs net few pairs list →
    ArePathsOfPairs net many pairs list
paths_of_more net few many pairs list le are = record {
  count = are.count;
  each = λ p below. record { some = (are.each p below).some; few = omega (arith, (are.each p below).few, le); sound = (are.each p below).sound };
}

-- the weights of one link anew
pub weights_set : (net : Network) (list : List (List ℕ)) (e : ℕ) (new : List ℕ) → AreWeightsOfLinks net list → AreLinkWeights net new →
    AreWeightsOfLinks net (set list e new)
weights_set net list e new are is = record {
  count = length-set list e new ∙ are.count;
  each = All-set (AreLinkWeights net) list e new is are.each;
}
