-- A link with its list, its shares and its marks, as one value.
use Rattle.std.proofs.Common.{◌≡◌, ℕ, ◌<◌, Bool, List, length, slice_index, sym, subst}
use Rattle.te_model.specs.declared.network.Network.{Network}
use Rattle.te_model.specs.declared.route.PairRoutes.{PairRoutes}
use Rattle.te_model.specs.declared.demand.DemandSet.{DemandSet}
use Rattle.te_model.specs.Network.{node_count, link_count}
use Rattle.te_model.specs.Path.{share}
use Rattle.routing.specs.declared.shares.PairShare.{PairShare}
use Rattle.routing.specs.Shares.{AreSharesOn}
use Rattle.shortest_path.specs.Pairs.{AreValues}
use Rattle.best_blocks.specs.Marks.{AreSourceMarks}
use Rattle.best_blocks.specs.Sharing.{IsSharedLink}
use Rattle.best_blocks.proofs.SharesListed.{some_listed}

pub shared_is : (net : Network) (routes : List PairRoutes) (set : DemandSet) (e : ℕ) (list l : List PairShare) (shares s : List ℕ) (marks m : List Bool) →
    l ≡ list → s ≡ shares → m ≡ marks → e < link_count net → AreSharesOn routes e list → 0 < length list → AreValues (length routes) (λ p. share routes p e) shares →
    AreSourceMarks (node_count net) (length routes) routes set (slice_index shares) marks →
    IsSharedLink net routes set (record { link = e; list = l; shares = s; marks = m })
shared_is net routes set e list l shares s marks m is_l is_s is_m within listed some values are =
    subst (λ (x : List PairShare). IsSharedLink net routes set (record { link = e; list = x; shares = s; marks = m })) (sym is_l)
    (subst (λ (x : List ℕ). IsSharedLink net routes set (record { link = e; list = list; shares = x; marks = m })) (sym is_s)
    (subst (λ (x : List Bool). IsSharedLink net routes set (record { link = e; list = list; shares = shares; marks = x })) (sym is_m)
    (record { within = within; some = some_listed routes e list listed some; listed = listed; shares_are = values; marks_are = are })))
