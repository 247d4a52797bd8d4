-- The loads of ways, pair by pair.
use Rattle.std.proofs.Common.{add-one, refl, ◌≡◌, ℕ, ◌+◌, ◌*◌, ◌^◌, ◌<◌, List, [], ◌∷◌, ◌++◌, Option, length, min, get_or, arith, ap, sym, ◌∙◌}
use Rattle.std.specs.Prelude.{slice_index}
use Rattle.std.proofs.Math.Seq.{get_or-append_seam}
use Rattle.std.proofs.lemmas.List.{get_or_append_left, length-append}
use Rattle.te_model.specs.declared.network.Network.{Network}
use Rattle.te_model.specs.declared.route.Pair.{Pair}
use Rattle.te_model.specs.Counting.{sum_below}
use Rattle.te_model.specs.Network.{link_count, node_count}
use Rattle.te_model.proofs.Choices.{pushed_each}
use Rattle.te_model.proofs.Sums.{sum_below-same}
use Rattle.scheme.specs.Reach.{pair_at}
use Rattle.centred_steps.specs.Loads.{times_on}
use Rattle.centred_steps.specs.Ways.{AreLastLinks, way_to}
use Rattle.mcf_lengths.specs.Trees.{AreWayLoads, load_of_way}

-- before the first pair
pub no_loads : (net : Network) (pairs : List Pair) (demand loads : List ℕ) → ((e : ℕ) → e < link_count net → slice_index loads e ≡ 0) → AreWayLoads net pairs demand 0 loads
no_loads net pairs demand loads none = record {
  lasts = [];
  count = refl;
  links = λ p below. absurd (omega (arith, below));
  sums = λ e below. omega (arith, none e below);
}

-- one pair more
pub ways_more : (net : Network) (pairs : List Pair) (demand : List ℕ) (n : ℕ) (loads next : List ℕ) (last : List (Option ℕ)) → AreWayLoads net pairs demand n loads →
    AreLastLinks net last →
    ((e : ℕ) → e < link_count net →
    slice_index next e ≡ min (2 ^ 66) (slice_index loads e + slice_index demand n * times_on (way_to net last (length last) (pair_at pairs n).dst) e)) →
    AreWayLoads net pairs demand (n + 1) next
ways_more net pairs demand n loads next last so are added =
    let longer = so.lasts ++ last ∷ [] in record {
      lasts = longer;
      count = omega (arith, length-append so.lasts (last ∷ []), so.count);
      links = pushed_each (λ p l. AreLastLinks net l) so.lasts last [] n so.count so.links are;
      sums = λ e below.
          let old : sum_below n (load_of_way net pairs demand longer e) ≡ sum_below n (load_of_way net pairs demand so.lasts e) =
          sum_below-same n (load_of_way net pairs demand longer e) (load_of_way net pairs demand so.lasts e) (λ k inside.
          ap (λ (l : List (Option ℕ)). slice_index demand k * times_on (way_to net l (node_count net) (pair_at pairs k).dst) e)
          (get_or_append_left so.lasts (last ∷ []) [] k (omega (arith, inside, so.count))))
          in
          let seam : get_or longer n [] ≡ last = ap (λ k. get_or longer k []) (sym so.count) ∙ get_or-append_seam so.lasts last [] [] in
          let own : load_of_way net pairs demand longer e n ≡ slice_index demand n * times_on (way_to net last (length last) (pair_at pairs n).dst) e =
          ap (λ (l : List (Option ℕ)). slice_index demand n * times_on (way_to net l (node_count net) (pair_at pairs n).dst) e) seam
          ∙ ap (λ k. slice_index demand n * times_on (way_to net last k (pair_at pairs n).dst) e) (sym are.count)
          in
          let one : sum_below (n + 1) (load_of_way net pairs demand longer e) ≡ sum_below n (load_of_way net pairs demand longer e) + load_of_way net pairs demand longer e n = rw add-one refl in
          omega (arith, added e below, so.sums e below, old, own, one);
    }
