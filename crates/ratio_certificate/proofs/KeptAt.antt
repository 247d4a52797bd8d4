-- What is read of a pair with a share, to keep its way: its number, its share, its distance, and the row of its source.
use Rattle.std.proofs.Common.{◌≡◌, ℕ, ◌<◌, true, List, length, get_or, slice_index, arith, ap, sym, subst, ◌∙◌}
use Rattle.std.specs.Prelude.{All}
use Rattle.std.proofs.lemmas.List.{get_or_read}
use Rattle.std.proofs.lemmas.List.Elements.{All-get_or}
use Rattle.te_model.specs.declared.network.Network.{Network}
use Rattle.te_model.specs.declared.route.PairRoutes.{PairRoutes}
use Rattle.te_model.specs.declared.demand.DemandSet.{DemandSet}
use Rattle.te_model.specs.Network.{node_count}
use Rattle.te_model.specs.Path.{no_routes, share, source_of}
use Rattle.routing.specs.declared.shares.PairShare.{PairShare}
use Rattle.best_blocks.specs.declared.metric.Metric.{Metric}
use Rattle.best_blocks.specs.declared.sharing.SharedLink.{SharedLink}
use Rattle.best_blocks.specs.Conditions.{IsRoutingWithin}
use Rattle.best_blocks.specs.Metric.{IsMetric}
use Rattle.best_blocks.specs.Rows.{is_marked}
use Rattle.best_blocks.specs.Sharing.{IsSharedLink}
use Rattle.ratio_certificate.specs.Response.{HasRow}
use Rattle.ratio_certificate.proofs.NextRounds.{needs_some}

abbrev pub no_entry : PairShare
no_entry = record { pair = 0; share = 0 }

-- what is listed of the pair at a place
pub record IsEntry (routes : List PairRoutes) (l : SharedLink) (s : PairShare) : Type 0 where
  pub pair : s.pair < length routes
  pub some : 0 < s.share
  pub share_is : s.share ≡ share routes s.pair l.link

pub entry_at : (net : Network) (routes : List PairRoutes) (wanted : DemandSet) (l : SharedLink) (items : List PairShare) (k : ℕ) →
    IsSharedLink net routes wanted l → items ≡ l.list → k < length items → IsEntry routes l (get_or items k no_entry)
entry_at net routes wanted l items k shared is below =
    let listed =
    subst (λ (xs : List PairShare). All (λ (s : PairShare). (s.pair < length routes) × (0 < s.share) × (s.share ≡ share routes s.pair l.link)) xs) (sym is)
    shared.listed.shares
    in
    let (inside, some, same) = All-get_or (λ (s : PairShare). (s.pair < length routes) × (0 < s.share) × (s.share ≡ share routes s.pair l.link)) items k no_entry below listed in
    record { pair = inside; some = some; share_is = same }

-- the source of a pair with a share has a row
pub row_of_entry : (net : Network) (routes : List PairRoutes) (wanted : DemandSet) (l : SharedLink) (m : Metric) (s : PairShare) → IsRoutingWithin net routes →
    IsSharedLink net routes wanted l → IsMetric net routes l.marks m → IsEntry routes l s → HasRow net m (source_of routes s.pair)
row_of_entry net routes wanted l m s within shared metric entry =
    let p = s.pair in
    let share_is : slice_index l.shares p ≡ s.share = shared.shares_are.each p entry.pair ∙ sym entry.share_is in
    let marked : is_marked l.marks (source_of routes p) ≡ true =
    shared.marks_are.complete p entry.pair (needs_some wanted (slice_index l.shares p) (subst (λ n. 0 < n) (sym share_is) entry.some))
    in
    let inside : source_of routes p < node_count net = (within.nodes p entry.pair).0 in
    (omega (arith, inside, metric.rows_are.count), (metric.rows_are.each (source_of routes p) inside marked).count)

-- the same of routes that are read: the row of the source, and the destination, which is a node
pub ends_of_entry : (net : Network) (routes : List PairRoutes) (wanted : DemandSet) (l : SharedLink) (m : Metric) (read : List PairRoutes) (s : PairShare) (x : PairRoutes) →
    IsRoutingWithin net routes → IsSharedLink net routes wanted l → IsMetric net routes l.marks m → IsEntry routes l s → read ≡ routes → x ≡ get_or read s.pair x →
    HasRow net m (get_or read s.pair x).pair.src × ((get_or read s.pair x).pair.dst < node_count net)
ends_of_entry net routes wanted l m read s x within shared metric entry are is =
    let p = s.pair in
    let found : get_or read p x ≡ get_or routes p no_routes =
    sym is ∙ get_or_read routes p x entry.pair (is ∙ ap (λ (rs : List PairRoutes). get_or rs p x) are) no_routes
    in (
      subst (λ (r : PairRoutes). HasRow net m r.pair.src) (sym found) (row_of_entry net routes wanted l m s within shared metric entry),
      subst (λ (r : PairRoutes). r.pair.dst < node_count net) (sym found) (within.nodes p entry.pair).1,
    )
