-- Where there is no best scale there is no best block.
use Rattle.std.proofs.Common.{◌≡◌, ℕ, ◌<◌, true, false, List, Some, length, arith, refl, subst, sym, ◌∙◌}
use Rattle.std.proofs.lemmas.Bool.{lt-ltb}
use Rattle.std.specs.Prelude.{Result, Ok, Err, Option, None, IfOk, IfNone}
use Rattle.te_model.specs.declared.memory.Memory.{Memory}
use Rattle.te_model.specs.declared.network.Network.{Network}
use Rattle.te_model.specs.declared.route.PairRoutes.{PairRoutes}
use Rattle.te_model.specs.declared.certificate.Block.{Block}
use Rattle.te_model.specs.declared.demand.DemandSet.{DemandSet}
use Rattle.te_model.specs.declared.demand.DemandSet.TheVariants.{All, Margin, Box}
use Rattle.te_model.specs.Path.{share, source_of, destination_of}
use Rattle.best_blocks.specs.Best.{balances, needs_row, AreNeededDistances, IsBestBlock, IsBestScale, IsScaleBetween}
use Rattle.best_blocks.specs.Scale.{HasNoScale}
use Rattle.best_blocks.proofs.Balances.{balances_fewer, balances-same}
use Rattle.shortest_path.proofs.Unique.{distance_unique}

-- sums that even 1 does not balance have no best scale
no_balance : (lower upper : ℕ → ℕ) (n : ℕ) (shares distance shares' distance' : ℕ → ℕ) (a b : ℕ) →
    ((p : ℕ) → p < n → shares p ≡ shares' p) → ((p : ℕ) → p < n → distance p ≡ distance' p) →
    balances lower upper n shares distance 1 ≡ false → IsScaleBetween lower upper n shares' distance' a b → ⊥
no_balance lower upper n shares distance shares' distance' a b same far none best =
    let balanced = balances_fewer lower upper n shares' distance' 1 b best.balance.some best.balance.balanced in
    let contrary : false ≡ true = sym none ∙ balances-same lower upper n shares distance shares' distance' 1 same far ∙ balanced in
    cc

pub no_best_block : (net : Network) (routes : List PairRoutes) (wanted : DemandSet) (e : ℕ) (weights : List ℕ) (shares distance : ℕ → ℕ) →
    ((p : ℕ) → p < length routes → shares p ≡ share routes p e) → AreNeededDistances net weights routes wanted shares distance →
    HasNoScale wanted (length routes) shares distance → (block : Block) → IsBestBlock net routes wanted e weights block → ⊥
no_best_block net routes wanted e weights shares distance are known none block best = go wanted none best.scale far
  where
    same : (p : ℕ) → p < length routes → shares p ≡ best.shares p
    same p below = are p below ∙ sym (best.shares_are p below)

    far : (p : ℕ) → p < length routes → needs_row wanted (shares p) ≡ true → distance p ≡ best.distance p
    far p below needs =
        distance_unique net weights (source_of routes p) (destination_of routes p) (distance p) (best.distance p) (known p below needs)
        (best.distances_are p below (subst (λ s. needs_row wanted s ≡ true) (same p below) needs))

    go : (w : DemandSet) → HasNoScale w (length routes) shares distance → IsBestScale w (length routes) best.shares best.distance block.a block.b →
        ((p : ℕ) → p < length routes → needs_row w (shares p) ≡ true → distance p ≡ best.distance p) → ⊥
    go All (p, below, some, nothing) scale near =
        let apart = scale.apart p below (omega (arith, some, same p below)) in omega (arith, apart, near p below (lt-ltb 0 (shares p) some), nothing)
    go (Margin num den base) none scale near =
        no_balance _ _ (length routes) shares distance best.shares best.distance block.a block.b same (λ p below. near p below refl) none scale
    go (Box lower upper) none scale near =
        no_balance _ _ (length routes) shares distance best.shares best.distance block.a block.b same (λ p below. near p below refl) none scale

-- what follows from there being no value
pub none_of : (r : Result (Option Block) Memory) (P Q : Type 0) → (P → Q) → IfOk r (λ o. IfNone o P) → IfOk r (λ o. IfNone o Q)
none_of (Ok (Some b)) P Q says none = tt
none_of (Ok None) P Q says none = says none
none_of (Err e) P Q says none = tt
