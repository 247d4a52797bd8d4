-- What the check takes for granted of a valid certificate.
use Rattle.std.specs.Prelude.{ℕ, ◌≤◌, ◌<◌, length, All, IsTrue}
use Rattle.te_model.specs.declared.certificate.Block.{Block}
use Rattle.te_model.specs.declared.certificate.Head.{Head}
use Rattle.te_model.specs.declared.route.PathShare.{PathShare}
use Rattle.te_model.specs.declared.limits.TheConstants.{FORMAT_2}
use Rattle.te_model.specs.Network.{link_count, node_count}
use Rattle.te_model.specs.Path.{is_distinct, routes_at, source_of}
use Rattle.te_model.specs.Bounds.{HasSmallNumbers, HasSmallLimits}
use Rattle.ratio_checker.specs.Ascending.{AscendsFrom}

-- a path whose links are within the limit of the second format, none of them twice
pub record IsSimplePath (s : PathShare) : Type 0 where
  pub links : All (λ h. h < FORMAT_2.links) s.links
  pub once : IsTrue (is_distinct s.links)

-- the numbers of the head are within their limits, its pairs ascend by their sources, and their paths are simple
pub record CanCheckHead (head : Head) : Type 0 where
  pub limits : HasSmallLimits head
  pub pairs : (p q : ℕ) → p ≤ q → q < length head.routes → source_of head.routes p ≤ source_of head.routes q
  pub paths : (p : ℕ) → p < length head.routes → All IsSimplePath (routes_at head.routes p).paths

-- the numbers of the block are within their limits, its rows ascend by their sources, and its link and sources are there
pub record CanCheckBlock (head : Head) (block : Block) : Type 0 where
  pub numbers : HasSmallNumbers block
  pub link : block.link < link_count head.network
  pub sources : All (λ r. r.source < node_count head.network) block.rows
  pub ascends : AscendsFrom (λ r. r.source) 0 block.rows
