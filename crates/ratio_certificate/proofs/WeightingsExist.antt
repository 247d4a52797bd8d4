-- That weights of a link have their best scale and their need.
use Rattle.std.proofs.Common.{◌≡◌, ℕ, ◌^◌, true, List, refl, subst, sym, ◌∙◌}
use Rattle.te_model.specs.declared.network.Network.{Network}
use Rattle.te_model.specs.declared.route.PairRoutes.{PairRoutes}
use Rattle.te_model.specs.declared.demand.DemandSet.{DemandSet}
use Rattle.te_model.specs.Network.{is_well_formed, link_count}
use Rattle.best_blocks.specs.declared.metric.Metric.{Metric}
use Rattle.best_blocks.specs.declared.sharing.SharedLink.{SharedLink}
use Rattle.best_blocks.specs.Conditions.{IsRoutingWithin}
use Rattle.best_blocks.specs.Metric.{IsMetric}
use Rattle.best_blocks.specs.Need.{need_by}
use Rattle.best_blocks.specs.Sharing.{IsSharedLink}
use Rattle.best_blocks.proofs.BlocksExist.{metric_scale_exists}
use Rattle.best_blocks.proofs.MetricsExist.{metric_exists}
use Rattle.best_blocks.proofs.Scaled.{scale_known}
use Rattle.ratio_certificate.specs.declared.weighting.Weighting.{Weighting}
use Rattle.ratio_certificate.specs.Weighting.{AreWeights, IsWeighting}
use Rattle.ratio_certificate.proofs.Weighed.{all_small, weighting_is}

-- these weights of link e with their best scale and their need
pub record IsWeightingFor (net : Network) (routes : List PairRoutes) (wanted : DemandSet) (e : ℕ) (weights : List ℕ) (w : Weighting) : Type 0 where
  pub link_is : w.link ≡ e
  pub weights_are : w.weights ≡ weights
  pub weighting : IsWeighting net routes wanted w

pub metric_weighting_exists : (net : Network) (routes : List PairRoutes) (wanted : DemandSet) (l : SharedLink) (m : Metric) → IsRoutingWithin net routes →
    IsSharedLink net routes wanted l → IsMetric net routes l.marks m → AreWeights net m.weights →
    (w : Weighting) × IsWeightingFor net routes wanted l.link m.weights w
metric_weighting_exists net routes wanted l m within shared metric weights =
    let (a, b, scale) = metric_scale_exists net routes wanted l m within shared metric weights.some in
    let need = need_by net l.link m.weights a b in (
      record { link = l.link; weights = m.weights; a = a; b = b; need = need },
      record {
        link_is = refl;
        weights_are = refl;
        weighting = weighting_is net routes wanted l.link a b need m.weights m.weights refl weights (scale_known net routes wanted l m a b within shared metric scale) refl;
      },
    )

pub weighting_exists : (net : Network) (routes : List PairRoutes) (wanted : DemandSet) (l : SharedLink) (weights : List ℕ) → is_well_formed net ≡ true →
    IsRoutingWithin net routes → IsSharedLink net routes wanted l → AreWeights net weights → (w : Weighting) × IsWeightingFor net routes wanted l.link weights w
weighting_exists net routes wanted l weights formed within shared are =
    let (m, metric, same) = metric_exists net routes l.marks weights formed are.count (all_small weights (link_count net) (2 ^ 28) are.count are.small) in
    let (w, is) = metric_weighting_exists net routes wanted l m within shared metric (subst (AreWeights net) (sym same) are) in
    (w, record { link_is = is.link_is; weights_are = is.weights_are ∙ same; weighting = is.weighting })
