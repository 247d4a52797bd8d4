-- Pairs that move their rates one after another.
use Rattle.std.proofs.Common.{◌≡◌, ℕ, ◌+◌, ◌<◌, ◌≤◌, Bool, List, [], length, set, get_or, arith, refl, sym, ◌∙◌, subst}
use Rattle.std.proofs.lemmas.List.{get_or_default}
use Rattle.te_model.specs.declared.network.Network.{Network}
use Rattle.te_model.specs.declared.route.Pair.{Pair}
use Rattle.scheme.specs.Reach.{pair_at}
use Rattle.robust_routing.specs.declared.sweep.Sweep.{Sweep}
use Rattle.robust_routing.specs.Joint.{ArePathsOfPairs, ArePathsWithin}
use Rattle.robust_routing.specs.Offers.{AreShifts, IsShift, IsShiftAt}
use Rattle.robust_routing.specs.Rates.{PathsWithRates, rates_at}
use Rattle.robust_routing.proofs.Paths.{pair_set}
use Rattle.robust_routing.proofs.Places.{each_written, rest_stays}

-- the first n pairs have moved their rates, and the others have not
pub record ShiftsSoFar (net : Network) (s : Sweep) (Fits : List ℕ → Type 0) (pairs : List Pair) (looks : ℕ → Bool) (limit n : ℕ) (old list : List PathsWithRates) : Type 0 where
  pub paths : ArePathsOfPairs net limit pairs list
  pub before : (q : ℕ) → q < n → IsShiftAt net s Fits pairs looks limit q (rates_at old q) (rates_at list q)
  pub rest : (q : ℕ) → n ≤ q → rates_at list q ≡ rates_at old q

pub shifts_none : (net : Network) (s : Sweep) (Fits : List ℕ → Type 0) (pairs : List Pair) (looks : ℕ → Bool) (limit : ℕ) (old : List PathsWithRates) →
    ArePathsOfPairs net limit pairs old → ShiftsSoFar net s Fits pairs looks limit 0 old old
shifts_none net s Fits pairs looks limit old are = record { paths = are; before = λ q below. absurd (omega arith); rest = λ q above. refl }

-- the paths of the next pair
pub own_paths : (net : Network) (limit : ℕ) (pairs : List Pair) (list : List PathsWithRates) (p : ℕ) (own : PathsWithRates) →
    ArePathsOfPairs net limit pairs list → p < length list → ArePathsWithin net limit (pair_at pairs p) (get_or list p own).paths
own_paths net limit pairs list p own are below =
    subst (λ (r : PathsWithRates). ArePathsWithin net limit (pair_at pairs p) r.paths) (get_or_default list p (record { paths = []; rates = [] }) own below)
    (are.each p below)

pub shifts_more : (net : Network) (s : Sweep) (Fits : List ℕ → Type 0) (pairs : List Pair) (looks : ℕ → Bool) (limit p : ℕ) (old list : List PathsWithRates)
    (own new : PathsWithRates) (lengths : List ℕ) (does : Bool) → ShiftsSoFar net s Fits pairs looks limit p old list → p < length list → Fits lengths →
    ArePathsWithin net limit (pair_at pairs p) new.paths → does ≡ looks p →
    IsShift net s lengths (pair_at pairs p) does limit (get_or list p own) new →
    ShiftsSoFar net s Fits pairs looks limit (p + 1) old (set list p new)
shifts_more net s Fits pairs looks limit p old list own new lengths does so below fits paths is shift =
    let none : PathsWithRates = record { paths = []; rates = [] } in
    let same : get_or list p own ≡ rates_at old p = sym (get_or_default list p none own below) ∙ so.rest p (omega arith) in
    let here : IsShiftAt net s Fits pairs looks limit p (rates_at old p) new = (
      lengths,
      fits,
      subst (λ (b : Bool). IsShift net s lengths (pair_at pairs p) b limit (rates_at old p) new) is
          (subst (λ (r : PathsWithRates). IsShift net s lengths (pair_at pairs p) does limit r new) same shift),
    )
    in
    record {
      paths = pair_set net limit pairs list p new so.paths paths;
      before = each_written (λ q (x : PathsWithRates). IsShiftAt net s Fits pairs looks limit q (rates_at old q) x) list p new none below so.before here;
      rest = rest_stays list old p new none so.rest;
    }

-- all pairs have
pub shifts_all : (net : Network) (s : Sweep) (Fits : List ℕ → Type 0) (pairs : List Pair) (looks : ℕ → Bool) (limit n : ℕ) (old list : List PathsWithRates) →
    ShiftsSoFar net s Fits pairs looks limit n old list → length old ≤ n → AreShifts net s Fits pairs looks limit old list
shifts_all net s Fits pairs looks limit n old list so all q below = so.before q (omega (arith, below, all))
