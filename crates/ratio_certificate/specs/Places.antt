-- The links with a share, their weights and offers for them, by their places in lists.
use Rattle.std.specs.Prelude.{ℕ, List, [], slice_index_or}
use Rattle.best_blocks.specs.declared.sharing.SharedLink.{SharedLink}
use Rattle.ratio_certificate.specs.declared.offers.Offer.{Offer}
use Rattle.ratio_certificate.specs.declared.weighting.Weighting.{Weighting}

-- what stands for weights that are not there
abbrev pub no_weighting : Weighting
no_weighting = record { link = 0; weights = []; a = 0; b = 0; need = 0 }

-- the weights at place k
abbrev pub weighting_at : List Weighting → ℕ → Weighting
weighting_at list k = slice_index_or list k no_weighting

-- what stands for a link that is not there
abbrev pub no_shared : SharedLink
no_shared = record { link = 0; list = []; shares = []; marks = [] }

-- the link at place k
abbrev pub shared_at : List SharedLink → ℕ → SharedLink
shared_at links k = slice_index_or links k no_shared

-- what stands for an offer that is not there
abbrev pub no_offer : Offer
no_offer = record { link = 0; weights = [] }

-- the offer at place k
abbrev pub offer_at : List Offer → ℕ → Offer
offer_at offers k = slice_index_or offers k no_offer
