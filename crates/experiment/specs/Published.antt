-- What is published: the file of a certificate of the plan's oblivious routing.
use Rattle.std.specs.Prelude.{◌≡◌, ℕ, zero, suc, ◌+◌, ◌^◌, ◌%◌, ◌<◌, ◌≤◌, List, [], ◌∷◌, ◌++◌, All as Each, length, Option, Some, None, if◌then◌else◌}
use Rattle.te_model.specs.declared.network.Network.{Network}
use Rattle.te_model.specs.declared.route.PairRoutes.{PairRoutes}
use Rattle.te_model.specs.declared.certificate.Certificate.{Certificate}
use Rattle.te_model.specs.declared.demand.DemandSet.{DemandSet}
use Rattle.te_model.specs.declared.demand.DemandSet.TheVariants.{All, Margin}
use Rattle.te_model.specs.FileLimit.{file_limit}
use Rattle.te_model.specs.Inequalities.{Holds, first_failure}
use Rattle.te_model.specs.Ratio.{IsObliviousRatio}
use Rattle.te_model.specs.Text.{Spells, text}
use Rattle.path_budget.specs.Budget.{trimmed_routes}
use Rattle.ratio_certificate.specs.Form.{made_set, HasBounds}
use Rattle.ratio_certificate.specs.Made.{IsMade}
use Rattle.ratio_certificate.specs.Offers.{AreWithinAllMatrices}
use Rattle.traffic_matrix.specs.First.{first_matrix}
use Rattle.traffic_matrix.specs.declared.series.Series.{Series}
use Rattle.plan.specs.declared.experiment.Experiment.{Experiment}
use Rattle.plan.specs.Words.{draws}
use Rattle.experiment.specs.Envelope.{envelope_of}
use Rattle.experiment.specs.Schemes.{IsSchemeRouting}

-- every matrix, or those within the margin of the first one
abbrev pub margin_set : Option (ℕ × ℕ) → Series → DemandSet
margin_set None series = All
margin_set (Some m) series = Margin m.0 m.1 (first_matrix series)

-- the envelope of the series where the plan asks for it, or else every matrix or those within the plan's margin
abbrev pub published_set : Experiment → Series → DemandSet
published_set plan series = if plan.envelope then envelope_of series else margin_set plan.margin series

-- the bytes are the text of a certificate that is made of the network, the routes and the set
pub record IsMadeFile (net : Network) (routes : List PairRoutes) (set : DemandSet) (bytes : List ℕ) : Type 0 where
  pub certificate : Certificate
  pub made : IsMade net routes set certificate
  pub text_is : bytes ≡ text certificate

-- a certificate that is made of the network, of a routing of the declared pairs by the plan's scheme, of which each pair keeps the
-- heaviest paths within the plan's budget, and of the plan's demand set; between bounds no block needs more than by the weights of some
-- certificate that is made for all matrices
pub record IsMadeByPlan (plan : Experiment) (net : Network) (series : Series) (certificate : Certificate) : Type 0 where
  pub routes : List PairRoutes
  pub routing : IsSchemeRouting plan.publish plan net series.pairs.list routes
  pub made : IsMade net (trimmed_routes plan.budget routes) (published_set plan series) certificate
  pub all_matrices : HasBounds (published_set plan series) →
      AreWithinAllMatrices net (trimmed_routes plan.budget routes) (made_set net (published_set plan series)) certificate.blocks

-- the plan with a seed in place of its own
abbrev pub with_seed : Experiment → ℕ → Experiment
with_seed plan seed = record plan { seed = seed }

-- the seed that comes so many after the plan's, where 0 comes after the greatest number of 64 bits
abbrev pub later_seed : Experiment → ℕ → ℕ
later_seed plan count = (plan.seed + count) % 2 ^ 64

-- of how many seeds a certificate is made: one where the published scheme draws nothing
abbrev pub seed_count : Experiment → ℕ
seed_count plan = if draws plan.publish then plan.seeds else 1

-- one certificate by the plan with each of its first n seeds, in order
abbrev pub AreMadeBySeeds : Experiment → Network → Series → ℕ → List Certificate → Type 0
AreMadeBySeeds plan net series zero certificates = certificates ≡ []
AreMadeBySeeds plan net series (suc n) certificates =
    (earlier : List Certificate) × (last : Certificate) × AreMadeBySeeds plan net series n earlier
    × IsMadeByPlan (with_seed plan (later_seed plan n)) net series last × (certificates ≡ earlier ++ last ∷ [])

-- the first one of the least ratio
pub record IsFirstOfLeastRatio (certificates : List Certificate) (certificate : Certificate) : Type 0 where
  pub earlier : List Certificate
  pub later : List Certificate
  pub among : certificates ≡ earlier ++ certificate ∷ later
  pub less : Each (λ (c : Certificate). certificate.head.ratio < c.head.ratio) earlier
  pub least : Each (λ (c : Certificate). certificate.head.ratio ≤ c.head.ratio) later

-- a certificate is made of each of the plan's seeds, and this is the first of the least ratio
pub record IsBestBySeeds (plan : Experiment) (net : Network) (series : Series) (certificate : Certificate) : Type 0 where
  pub certificates : List Certificate
  pub made : AreMadeBySeeds plan net series (seed_count plan) certificates
  pub best : IsFirstOfLeastRatio certificates certificate

-- the file of the best certificate by the plan's seeds
pub record IsPublished (plan : Experiment) (net : Network) (series : Series) (bytes : List ℕ) : Type 0 where
  pub certificate : Certificate
  pub best : IsBestBySeeds plan net series certificate
  pub text_is : bytes ≡ text certificate

-- the bytes are no more than a certificate's file may have, and spell a valid certificate of which no inequality fails, so its ratio is an
-- oblivious ratio of its routing
pub record IsAccepted (bytes : List ℕ) : Type 0 where
  pub fits : length bytes ≤ file_limit bytes
  pub certificate : Certificate
  pub spelled : Spells bytes certificate
  pub holds : Holds certificate
  pub no_failure : first_failure certificate ≡ None
  pub ratio : IsObliviousRatio certificate.head.network certificate.head.routes certificate.head.set certificate.head.ratio
