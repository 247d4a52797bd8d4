-- Weights have one best scale.
use Rattle.std.proofs.Common.{◌≡◌, ℕ, ◌<◌, ◌≤◌, true, false, List, length, arith, ap, refl, sym, subst, ◌∙◌, inl, inr}
use Rattle.std.proofs.lemmas.Bool.{cases_lt, lt-ltb}
use Rattle.te_model.specs.declared.network.Network.{Network}
use Rattle.te_model.specs.declared.route.PairRoutes.{PairRoutes}
use Rattle.te_model.specs.declared.demand.DemandSet.{DemandSet}
use Rattle.te_model.specs.declared.demand.DemandSet.TheVariants.{All as AllMatrices, Margin, Box}
use Rattle.te_model.specs.Path.{source_of, destination_of}
use Rattle.shortest_path.proofs.Unique.{distance_unique}
use Rattle.best_blocks.specs.Best.{balances, needs_row, IsBestScale, IsScaleBetween}
use Rattle.best_blocks.specs.Under.{IsScaleUnder}
use Rattle.best_blocks.proofs.Balances.{balances-same}
use Rattle.ratio_certificate.proofs.RoundLaws.{dearest_only}

no_greater : (lower upper : ℕ → ℕ) (n : ℕ) (shares distance shares' distance' : ℕ → ℕ) (a b a' b' : ℕ) → ((p : ℕ) → p < n → shares' p ≡ shares p) →
    ((p : ℕ) → p < n → distance' p ≡ distance p) → IsScaleBetween lower upper n shares distance a b → IsScaleBetween lower upper n shares' distance' a' b' → b ≤ b'
no_greater lower upper n shares distance shares' distance' a b a' b' same far one two =
    elim (cases_lt b' b) [
      | inl lt ↦
          let there : balances lower upper n shares' distance' b ≡ true =
          balances-same lower upper n shares' distance' shares distance b same far ∙ one.balance.balanced
          in
          let contrary : false ≡ true = sym (two.balance.greatest b lt one.balance.small) ∙ there in
          cc
      | inr ge ↦ ge
    ]

both : (lower upper : ℕ → ℕ) (n : ℕ) (shares distance shares' distance' : ℕ → ℕ) (a b a' b' : ℕ) → ((p : ℕ) → p < n → shares' p ≡ shares p) →
    ((p : ℕ) → p < n → distance' p ≡ distance p) → IsScaleBetween lower upper n shares distance a b → IsScaleBetween lower upper n shares' distance' a' b' → b ≡ b'
both lower upper n shares distance shares' distance' a b a' b' same far one two =
    omega (
      arith,
      no_greater lower upper n shares distance shares' distance' a b a' b' same far one two,
      no_greater lower upper n shares' distance' shares distance a' b' a b (λ p below. sym (same p below)) (λ p below. sym (far p below)) two one,
    )

one_b : (set : DemandSet) (n : ℕ) (shares distance shares' distance' : ℕ → ℕ) (a b a' b' : ℕ) → ((p : ℕ) → p < n → shares' p ≡ shares p) →
    ((p : ℕ) → p < n → needs_row set (shares p) ≡ true → distance' p ≡ distance p) →
    IsBestScale set n shares distance a b → IsBestScale set n shares' distance' a' b' → b ≡ b'
one_b AllMatrices n shares distance shares' distance' a b a' b' same far one two =
    let p = one.quotient.pair in
    let near : (p : ℕ) → p < n → 0 < shares p → distance' p ≡ distance p = λ p below some. far p below (lt-ltb 0 (shares p) some) in
    let pair : p ≡ two.quotient.pair = dearest_only n shares distance shares' distance' a b a' b' same near one.quotient two.quotient in
    let here : distance' p ≡ distance p = near p one.quotient.within one.quotient.positive in
    one.quotient.distance_is ∙ sym here ∙ ap distance' pair ∙ sym two.quotient.distance_is
one_b (Margin num den base) n shares distance shares' distance' a b a' b' same far one two =
    both _ _ n shares distance shares' distance' a b a' b' same (λ p below. far p below refl) one two
one_b (Box lower upper) n shares distance shares' distance' a b a' b' same far one two =
    both _ _ n shares distance shares' distance' a b a' b' same (λ p below. far p below refl) one two

pub scale_only : (net : Network) (routes : List PairRoutes) (set : DemandSet) (e : ℕ) (weights : List ℕ) (a b a' b' : ℕ) →
    IsScaleUnder net routes set e weights a b → IsScaleUnder net routes set e weights a' b' → b ≡ b'
scale_only net routes set e weights a b a' b' one two =
    let same : (p : ℕ) → p < length routes → two.shares p ≡ one.shares p = λ p below. two.shares_are p below ∙ sym (one.shares_are p below) in
    one_b set (length routes) one.shares one.distance two.shares two.distance a b a' b' same
    (λ p below needs.
    distance_unique net weights (source_of routes p) (destination_of routes p) (two.distance p) (one.distance p)
    (two.distances_are p below (subst (λ s. needs_row set s ≡ true) (sym (same p below)) needs)) (one.distances_are p below needs))
    one.scale two.scale
