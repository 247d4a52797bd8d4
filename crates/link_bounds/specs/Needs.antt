-- The needs of the links: of each link with a share the least ratio that its block allows.
use Rattle.std.specs.Prelude.{ℕ, Bool, not, List, length, filter, map, ◌==◌, if◌then◌else◌}
use Rattle.std.specs.List.{range_with_len}
use Rattle.te_model.specs.declared.certificate.Certificate.{Certificate}
use Rattle.te_model.specs.declared.certificate.Head.{Head}
use Rattle.te_model.specs.declared.route.PairRoutes.{PairRoutes}
use Rattle.te_model.specs.Certificate.{block_of}
use Rattle.te_model.specs.Counting.{all_below}
use Rattle.te_model.specs.Network.{link_count}
use Rattle.te_model.specs.Path.{share}
use Rattle.best_blocks.specs.Need.{need_of}
use Rattle.link_bounds.specs.declared.needs.LinkNeed.{LinkNeed}

-- whether some pair sends over link e
abbrev pub has_share : List PairRoutes → ℕ → Bool
has_share routes e = not (all_below (length routes) (λ p. share routes p e == 0))

-- the links over which some pair sends, ascending
abbrev pub shared_links : Head → List ℕ
shared_links head = filter (has_share head.routes) (range_with_len 0 (link_count head.network))

-- the need of a link: that of its block
abbrev pub need_at : Certificate → ℕ → ℕ
need_at c e = need_of c.head.network (block_of c.blocks e)

-- the needs of the links with a share, ascending by link
abbrev pub needs_of : Certificate → List LinkNeed
needs_of c = map (λ e. record { link = e; need = need_at c e }) (shared_links c.head)

-- the need of a link with a share, and 0 of a link that no pair uses
abbrev pub shared_need : Certificate → ℕ → ℕ
shared_need c e = if has_share c.head.routes e then need_at c e else 0
