-- The ratio of a summary is an oblivious ratio of the routing that was drawn.
use Rattle.std.proofs.Common.{ℕ, List, subst, ◌∙◌}
use Rattle.te_model.specs.declared.demand.DemandSet.{DemandSet}
use Rattle.te_model.specs.declared.demand.DemandSet.TheVariants.{All}
use Rattle.te_model.specs.declared.network.Network.{Network}
use Rattle.te_model.specs.declared.route.PairRoutes.{PairRoutes}
use Rattle.te_model.specs.Ratio.{IsObliviousRatio}
use Rattle.te_model.proofs.Oblivious.{holds_is_oblivious}
use Rattle.path_budget.specs.Budget.{trimmed_routes}
use Rattle.random_network.specs.Drawn.{network_of}
use Rattle.ratio_certificate.proofs.MadeForms.{made_all}
use Rattle.generation.specs.Summary.{IsSummary, ProvesRatio}

pub proves_ratio : (n seed : ℕ) (text : List ℕ) → IsSummary n seed text → ProvesRatio n seed text
proves_ratio n seed text is =
    let certificate = is.published.made.certificate in
    let made = is.published.made.made in
    let head = certificate.head in
    let routes = trimmed_routes 32 is.published.routes in
    record {
      summary = is;
      ratio = subst (λ (net : Network). IsObliviousRatio net routes All head.ratio) made.network
          (subst (λ (r : List PairRoutes). IsObliviousRatio head.network r All head.ratio) made.routes_are
          (subst (λ (set : DemandSet). IsObliviousRatio head.network head.routes set head.ratio) (made.set_is ∙ made_all (network_of n seed))
          (holds_is_oblivious certificate made.valid made.holds)));
    }
