-- The loads of the cheapest paths, pair by pair.
use Rattle.std.proofs.Common.{add-one, refl, ◌≡◌, ℕ, ◌+◌, ◌*◌, ◌^◌, ◌<◌, List, [], ◌∷◌, ◌++◌, length, map, min, get_or, arith, ap, sym, ◌∙◌}
use Rattle.std.specs.Prelude.{slice_index}
use Rattle.std.proofs.Math.Seq.{get_or-append_seam}
use Rattle.std.proofs.lemmas.List.{get_or_append_left, length-append, length-map, map_push}
use Rattle.te_model.specs.declared.route.PairRoutes.{PairRoutes}
use Rattle.te_model.specs.declared.route.Path.{Path}
use Rattle.te_model.specs.Counting.{sum_below}
use Rattle.te_model.specs.Path.{routes_at}
use Rattle.te_model.proofs.Sums.{sum_below-same}
use Rattle.routing.specs.Merge.{HasLinks}
use Rattle.centred_steps.specs.Loads.{times_on}
use Rattle.rate_sweeps.specs.Bounds.{load_of_pair}
use Rattle.rate_sweeps.specs.Choices.{IsLeastAmong}
use Rattle.rate_sweeps.specs.Sweeps.{links_in}
use Rattle.rate_sweeps.proofs.Among.{each_more}

-- each of the first n pairs has one of its paths, than which none is cheaper, and the loads are those of these paths
pub record CheapestSoFar (routes : List PairRoutes) (lengths demand : List ℕ) (n m : ℕ) (loads : List ℕ) : Type 0 where
  pub list : List Path
  pub count : length list ≡ n
  pub has : (p : ℕ) → p < n → HasLinks (routes_at routes p).paths (get_or (map links_in list) p [])
  pub least : (p : ℕ) → p < n → IsLeastAmong lengths (routes_at routes p).paths (get_or (map links_in list) p [])
  pub sums : (e : ℕ) → e < m → slice_index loads e ≡ min (2 ^ 66) (sum_below n (load_of_pair demand (map links_in list) e))

-- the path and the load of one pair more
pub cheapest_more : (routes : List PairRoutes) (lengths demand : List ℕ) (n m : ℕ) (loads next : List ℕ) (links : List ℕ) → CheapestSoFar routes lengths demand n m loads →
    HasLinks (routes_at routes n).paths links → IsLeastAmong lengths (routes_at routes n).paths links →
    ((e : ℕ) → e < m → slice_index next e ≡ min (2 ^ 66) (slice_index loads e + slice_index demand n * times_on links e)) →
    CheapestSoFar routes lengths demand (n + 1) m next
cheapest_more routes lengths demand n m loads next links so has least added =
    let path : Path = record { links = links } in
    let paths = map links_in so.list in
    let longer = map links_in (so.list ++ path ∷ []) in
    let pushed : longer ≡ paths ++ links ∷ [] = map_push links_in so.list path in
    let before : length paths ≡ n = length-map so.list links_in ∙ so.count in
    record {
      list = so.list ++ path ∷ [];
      count = omega (arith, length-append so.list (path ∷ []), so.count);
      has = each_more (λ q l. HasLinks (routes_at routes q).paths l) so.list path n so.count so.has has;
      least = each_more (λ q l. IsLeastAmong lengths (routes_at routes q).paths l) so.list path n so.count so.least least;
      sums = λ e below.
          let old : sum_below n (load_of_pair demand longer e) ≡ sum_below n (load_of_pair demand paths e) =
          sum_below-same n (load_of_pair demand longer e) (load_of_pair demand paths e) (λ k inside.
          ap (λ (l : List ℕ). slice_index demand k * times_on l e)
          (ap (λ (l : List (List ℕ)). get_or l k []) pushed ∙ get_or_append_left paths (links ∷ []) [] k (omega (arith, inside, before))))
          in
          let last : load_of_pair demand longer e n ≡ slice_index demand n * times_on links e =
          ap (λ (l : List ℕ). slice_index demand n * times_on l e)
          (ap (λ (l : List (List ℕ)). get_or l n []) pushed
          ∙ (ap (λ k. get_or (paths ++ links ∷ []) k []) (sym before) ∙ get_or-append_seam paths links [] []))
          in
          let one : sum_below (n + 1) (load_of_pair demand longer e) ≡ sum_below n (load_of_pair demand longer e) + load_of_pair demand longer e n = rw add-one refl in
          omega (arith, added e below, so.sums e below, old, last, one);
    }
