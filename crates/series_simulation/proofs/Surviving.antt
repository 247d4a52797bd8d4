-- The network that failures leave is a part of the network before.
use Rattle.std.proofs.Common.{◌≡◌, ℕ, ◌<◌, Bool, false, not, List, length, get_or, arith}
use Rattle.std.specs.List.{range_with_len}
use Rattle.std.proofs.lemmas.List.{get_or-map, length-map}
use Rattle.std.proofs.lemmas.List.Elements.{All-filter}
use Rattle.std.proofs.lemmas.List.FromFn.{get_or-range_with_len, length-range_with_len}
use Rattle.std.proofs.lemmas.List.Kept.{AllPairs-filter}
use Rattle.te_model.specs.declared.network.Network.{Network}
use Rattle.te_model.specs.Network.{link_at, link_count, no_link}
use Rattle.te_model.proofs.Lists.{range-below}
use Rattle.failure.specs.Survivor.{surviving_links, survivor_of}
use Rattle.series_simulation.proofs.Order.{Ascends}
use Rattle.series_simulation.proofs.Mapping.{IsPartOf}

range_ascends : (n : ℕ) → Ascends (range_with_len 0 n)
range_ascends n i j d before inside =
    let size = length-range_with_len 0 n in
    omega (arith, before, get_or-range_with_len 0 n i d (omega (arith, before, inside, size)), get_or-range_with_len 0 n j d (omega (arith, inside, size)))

pub survivor_part : (net : Network) (failed : List Bool) → length failed ≡ link_count net →
    IsPartOf (survivor_of net failed).network net (survivor_of net failed).origin
survivor_part net failed marks = record {
  count = length-map (surviving_links failed) (link_at net);
  inside = All-filter (λ h. not (get_or failed h false)) (λ h. h < link_count net) (range_with_len 0 (length failed))
      (range-below (length failed) (link_count net) marks);
  ascending = AllPairs-filter (λ g h. g < h) (λ h. not (get_or failed h false)) (range_with_len 0 (length failed)) (range_ascends (length failed));
  same = λ h below. get_or-map (link_at net) (surviving_links failed) h 0 no_link
      (omega (arith, below, length-map (surviving_links failed) (link_at net)));
}
