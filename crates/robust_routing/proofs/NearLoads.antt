-- The loads of one pair more.
use Rattle.std.proofs.Common.{◌≡◌, ℕ, suc, ◌+◌, ◌*◌, ◌^◌, ◌<◌, ◌≤◌, true, false, List, Option, length, min, slice_index, arith, ap, refl, sym, ◌∙◌, subst}
use Rattle.std.proofs.lemmas.Bool.{le-leb, lt-leb}
use Rattle.te_model.specs.Pairs.{pair_at}
use Rattle.centred_steps.specs.Loads.{times_on}
use Rattle.centred_steps.specs.Ways.{AreLastLinks, way_to}
use Rattle.robust_routing.specs.declared.round.Round.{Round}
use Rattle.robust_routing.specs.Near.{AreLoadsNear, IsLoadAdded, amount_on, is_near, nearness_on}
use Rattle.robust_routing.specs.Tables.{NumberTable}

load_added : (r : Round) (shares quotients : NumberTable) (link greatest n : ℕ) (first before new : List ℕ) →
    AreLoadsNear r shares quotients link greatest first n before → IsLoadAdded r shares quotients link greatest n before new →
    AreLoadsNear r shares quotients link greatest first (n + 1) new
load_added r shares quotients link greatest n first before new so added =
    let next : suc n ≡ n + 1 = omega arith in
    subst (λ k. AreLoadsNear r shares quotients link greatest first k new) next (before, so, added)

-- a pair that is near adds its amount
pub load_of_near : (r : Round) (shares quotients : NumberTable) (link greatest n amount : ℕ) (first before new : List ℕ) (lasts : List (Option ℕ)) →
    AreLoadsNear r shares quotients link greatest first n before → 2 ^ 17 ≤ nearness_on r quotients link greatest n → AreLastLinks r.net.now lasts →
    amount ≡ amount_on r shares quotients link greatest n →
    ((e : ℕ) → e < length before → slice_index new e
    ≡ min (2 ^ 66) (slice_index before e + amount * times_on (way_to r.net.now lasts (length lasts) (pair_at r.pairs.now n).dst) e)) →
    AreLoadsNear r shares quotients link greatest first (n + 1) new
load_of_near r shares quotients link greatest n amount first before new lasts so near are is each =
    let passes : is_near r quotients link greatest n ≡ true = le-leb (2 ^ 17) (nearness_on r quotients link greatest n) near in
    load_added r shares quotients link greatest n first before new so (record {
      near = λ e. (
        lasts,
        are,
        λ e below.
            each e below
            ∙ ap (λ (a : ℕ). min (2 ^ 66) (slice_index before e + a * times_on (way_to r.net.now lasts (length lasts) (pair_at r.pairs.now n).dst) e)) is,
      );
      far = λ e. let contrary : true ≡ false = sym passes ∙ e in absurd cc;
    })

-- and one that is not adds nothing
pub load_of_far : (r : Round) (shares quotients : NumberTable) (link greatest n : ℕ) (first loads : List ℕ) →
    AreLoadsNear r shares quotients link greatest first n loads → nearness_on r quotients link greatest n < 2 ^ 17 →
    AreLoadsNear r shares quotients link greatest first (n + 1) loads
load_of_far r shares quotients link greatest n first loads so far =
    let fails : is_near r quotients link greatest n ≡ false = lt-leb (2 ^ 17) (nearness_on r quotients link greatest n) far in
    load_added r shares quotients link greatest n first loads loads so (record { near = λ e. let contrary : false ≡ true = sym fails ∙ e in absurd cc; far = λ e. refl })
