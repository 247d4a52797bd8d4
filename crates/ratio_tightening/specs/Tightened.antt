-- A tightened certificate: of the same format, network, routing and set, for each link with a share the given block, or a made one that needs
-- no more, and of these the ones that need most polished.
use Rattle.std.specs.Prelude.{◌≡◌, ℕ, ◌<◌, ◌≤◌, List, All, Option, Some, None, find, map, nat_lt, if◌then◌else◌, ◌==◌}
use Rattle.te_model.specs.declared.certificate.Block.{Block}
use Rattle.te_model.specs.declared.certificate.Certificate.{Certificate}
use Rattle.te_model.specs.declared.certificate.Head.{Head}
use Rattle.te_model.specs.declared.demand.DemandSet.{DemandSet}
use Rattle.te_model.specs.declared.network.Network.{Network}
use Rattle.te_model.specs.declared.route.PairRoutes.{PairRoutes}
use Rattle.te_model.specs.Inequalities.{Holds}
use Rattle.te_model.specs.Network.{link_count}
use Rattle.te_model.specs.Validity.{IsValid}
use Rattle.best_blocks.specs.Need.{need_of, IsGreatestNeed}
use Rattle.best_blocks.specs.Sharing.{HasShare}
use Rattle.link_bounds.specs.Needs.{need_at}
use Rattle.link_bounds.specs.Repriced.{greatest_need, repriced}
use Rattle.ratio_certificate.specs.Made.{HasBlock, IsMade}
use Rattle.ratio_certificate.specs.Offers.{IsWithinWeights}
use Rattle.ratio_certificate.specs.Polished.{IsPolished}
use Rattle.ratio_certificate.specs.Weighting.{AreWeights}
use Rattle.ratio_tightening.specs.Polishing.{AreReached, IsDone}

-- the old block where it needs less than the made one, which it is otherwise
abbrev pub lesser_of : Network → Block → Block → Block
lesser_of net old made = if nat_lt (need_of net old) (need_of net made) then old else made

-- the same of an old block that may not be there
abbrev pub lesser_of_found : Network → Option Block → Block → Block
lesser_of_found net None made = made
lesser_of_found net (Some old) made = lesser_of net old made

-- the old block of the link of the made one, where there is one and it needs less
abbrev pub lesser_block : Network → List Block → Block → Block
lesser_block net blocks made = lesser_of_found net (find (λ b. b.link == made.link) blocks) made

-- for each of the made blocks the old one of its link, where there is one and it needs less
abbrev pub lesser_blocks : Network → List Block → List Block → List Block
lesser_blocks net blocks made = map (lesser_block net blocks) made

-- the certificate with these blocks
abbrev pub with_blocks : Certificate → List Block → Certificate
with_blocks c blocks = record { head = c.head; blocks = blocks }

-- the certificate with these blocks, and their greatest need as its ratio
abbrev pub with_needed_ratio : Certificate → List Block → Certificate
with_needed_ratio c blocks = repriced (with_blocks c blocks) c.head.network

-- no made block needs more than the best block of the weights that the given one of its link has, where these are from 1 to 2^28
abbrev pub AreWithinGiven : Network → List PairRoutes → DemandSet → List Block → List Block → Type 0
AreWithinGiven net routes set given made =
    All (λ m. All (λ b. AreWeights net b.weights → IsWithinWeights net routes set b.link b.weights m) given) made

-- Some certificate is made of the network, the routing and the set, from the given weights too. From its blocks, and the given ones where these
-- need less, steps lead to the blocks, of which the first that needs most has no further step.
pub record IsTightened (c new : Certificate) : Type 0 where
  pub made : Certificate
  pub made_is : IsMade c.head.network c.head.routes c.head.set made
  pub within : AreWithinGiven c.head.network c.head.routes c.head.set c.blocks made.blocks
  pub blocks : List Block
  pub reached : AreReached c.head.network c.head.routes c.head.set (lesser_blocks c.head.network c.blocks made.blocks) blocks
  pub done : IsDone c.head.network c.head.routes c.head.set blocks
  pub new_is : new ≡ with_needed_ratio c blocks

-- the head with another ratio
abbrev pub with_ratio : Head → ℕ → Head
with_ratio head ratio = record { format = head.format; network = head.network; routes = head.routes; set = head.set; ratio = ratio }

-- A valid certificate with the same head but for the ratio, whose inequalities hold: polished blocks for exactly the links with a share, of
-- which none needs more than the given one of its link, and their greatest need as the ratio, which is no greater than that of the given
-- blocks.
pub record IsTighter (c new : Certificate) : Type 0 where
  pub head : new.head ≡ with_ratio c.head new.head.ratio
  pub valid : IsValid new
  pub holds : Holds new
  pub shared : All (λ b. HasShare c.head.routes b.link) new.blocks
  pub blocks : (e : ℕ) → e < link_count c.head.network → HasShare c.head.routes e → HasBlock new.blocks e
  pub no_more : (e : ℕ) → e < link_count c.head.network → need_at new e ≤ need_at c e
  pub polished : IsPolished c.head.network c.head.routes c.head.set new.blocks
  pub ratio : IsGreatestNeed c.head.network new.blocks new.head.ratio
  pub lower : new.head.ratio ≤ greatest_need c.head.network c.blocks
