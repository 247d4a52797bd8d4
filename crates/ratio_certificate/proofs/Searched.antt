-- Lists of weights in which a search has put others in place.
use Rattle.std.proofs.Common.{◌≡◌, ℕ, ◌<◌, ◌≤◌, ◌^◌, List, length, get_or, set, arith, ap, sym, subst, ◌∙◌, inl, inr}
use Rattle.std.proofs.lemmas.Bool.{cases_lt}
use Rattle.std.proofs.lemmas.List.{get_or_read}
use Rattle.te_model.specs.declared.network.Network.{Network}
use Rattle.te_model.specs.declared.route.PairRoutes.{PairRoutes}
use Rattle.te_model.specs.declared.demand.DemandSet.{DemandSet}
use Rattle.best_blocks.specs.declared.sharing.SharedLink.{SharedLink}
use Rattle.ratio_certificate.specs.declared.problem.Problem.{Problem}
use Rattle.ratio_certificate.specs.declared.weighting.Weighting.{Weighting}
use Rattle.ratio_certificate.specs.Places.{no_shared, shared_at, weighting_at}
use Rattle.ratio_certificate.specs.Problems.{AreWeightingsOf, IsWeightingOf}
use Rattle.ratio_certificate.specs.Steps.{AreWeightings}
use Rattle.ratio_certificate.specs.Weighting.{gap_of, gap_of_weighting, IsWeighting}
use Rattle.ratio_certificate.proofs.Progress.{progress_made}

-- weights that are no start themselves may be one
pub own_weightings : (net : Network) (routes : List PairRoutes) (wanted : DemandSet) (links : List SharedLink) (start list : List Weighting) →
    AreWeightings net routes wanted links start list → AreWeightings net routes wanted links list list
own_weightings net routes wanted links start list are = record {
  count = are.count;
  links_are = are.links_are;
  each = are.each;
  no_more = λ k inside. omega arith;
}

-- what needs no more than what needs no more than the start needs no more than the start
pub weightings_after : (net : Network) (routes : List PairRoutes) (wanted : DemandSet) (links : List SharedLink) (start middle list : List Weighting) →
    AreWeightings net routes wanted links start middle → AreWeightings net routes wanted links middle list → AreWeightings net routes wanted links start list
weightings_after net routes wanted links start middle list first second = record {
  count = second.count;
  links_are = second.links_are;
  each = second.each;
  no_more = λ k inside. omega (arith, first.no_more k inside, second.no_more k inside);
}

-- weights that need less are nearer to the end of the polish
less_nearer : (old new : Weighting) → new.need < old.need → gap_of_weighting new < gap_of_weighting old
less_nearer old new less =
    let near : gap_of new.weights ≤ 2 ^ 20 = omega arith in
    omega (arith, near, less)

-- a list in which other weights of the same link stand at a place, if they need less
pub lesser_taken : (net : Network) (routes : List PairRoutes) (wanted : DemandSet) (links : List SharedLink) (start list new : List Weighting) (k : ℕ) (found : Weighting) →
    k < length list → AreWeightings net routes wanted links start list → found.link ≡ (weighting_at list k).link → IsWeighting net routes wanted found →
    (found.need < (weighting_at list k).need → new ≡ set list k found) → ((weighting_at list k).need ≤ found.need → new ≡ list) →
    AreWeightings net routes wanted links start new
lesser_taken net routes wanted links start list new k found inside are link_is is takes keeps =
    elim (cases_lt found.need (weighting_at list k).need) [
      | inl less ↦
          subst (λ (x : List Weighting). AreWeightings net routes wanted links start x) (sym (takes less))
          (progress_made net routes wanted links start list k found inside are
          (record { link_is = link_is; weighting = is; no_more = omega (arith, less); nearer = less_nearer (weighting_at list k) found less }))
      | inr more ↦ subst (λ (x : List Weighting). AreWeightings net routes wanted links start x) (sym (keeps more)) are
    ]

-- the same from a link that was read from its list
pub found_taken : (p : Problem) (links : List SharedLink) (list new : List Weighting) (k : ℕ) (l : SharedLink) (found : Weighting) → k < length list →
    AreWeightingsOf p links list list → l ≡ get_or links k l → found.link ≡ l.link → IsWeightingOf p found →
    (found.need < (weighting_at list k).need → new ≡ set list k found) → ((weighting_at list k).need ≤ found.need → new ≡ list) → AreWeightingsOf p links list new
found_taken p links list new k l found inside are read link_is is takes keeps =
    let within : k < length links = omega (arith, inside, are.count) in
    let at : l ≡ shared_at links k = get_or_read links k l within read no_shared in
    lesser_taken p.net.now p.routing.now.routes p.set.now links list list new k found inside are
    (link_is ∙ ap (λ (x : SharedLink). x.link) at ∙ sym (are.links_are k within)) is takes keeps
