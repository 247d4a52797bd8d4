-- What has a text in its format: its lists have the lengths that are due, its names are names, and its numbers are below 2 ^ 64.
use Rattle.std.specs.Prelude.{◌≡◌, ℕ, ◌<◌, ◌^◌, Bool, true, false, List, [], length}
use Rattle.std.specs.List.{AllByRecursion}
use Rattle.te_model.specs.declared.network.Link.{Link}
use Rattle.te_model.specs.declared.network.Network.{Network}
use Rattle.te_model.specs.declared.route.PathShare.{PathShare}
use Rattle.te_model.specs.declared.route.PairRoutes.{PairRoutes}
use Rattle.te_model.specs.declared.certificate.Row.{Row}
use Rattle.te_model.specs.declared.certificate.Block.{Block}
use Rattle.te_model.specs.declared.certificate.Head.{Head}
use Rattle.te_model.specs.declared.certificate.Certificate.{Certificate}
use Rattle.te_model.specs.declared.demand.DemandSet.{DemandSet}
use Rattle.te_model.specs.declared.demand.DemandSet.TheVariants.{All, Margin, Box}
use Rattle.te_model.specs.Network.{is_name}
use Rattle.te_model.specs.Shape.{is_count}
use Rattle.te_model.specs.declared.limits.Limits.{Limits}
use Rattle.cert_text.specs.declared.limits.Counts.{Counts}
use Rattle.te_model.specs.Formats.{limits_of}
use Rattle.cert_text.specs.Grammar.{has_boxes, counts_of}

-- a number of 64 bits
abbrev pub IsWord : ℕ → Type 0
IsWord n = n < 2 ^ 64

-- numbers of 64 bits
abbrev pub AreWords : List ℕ → Type 0
AreWords ns = AllByRecursion IsWord ns

-- a name of a node
abbrev pub IsNamed : List ℕ → Type 0
IsNamed n = is_name n ≡ true

-- a link of four such numbers
pub record FitsLink (l : Link) : Type 0 where
  pub tail : IsWord l.tail
  pub head : IsWord l.head
  pub capacity : IsWord l.capacity
  pub cost : IsWord l.cost

-- counts within the limits, names, and links
pub record FitsNetwork (limits : Limits) (net : Network) : Type 0 where
  pub nodes : is_count 2 limits.nodes (length net.names) ≡ true
  pub names : AllByRecursion IsNamed net.names
  pub links : is_count 1 limits.links (length net.links) ≡ true
  pub each_link : AllByRecursion FitsLink net.links

-- a weight, and links whose count is within the limits
pub record FitsPath (limits : Limits) (s : PathShare) : Type 0 where
  pub weight : IsWord s.weight
  pub hops : is_count 1 limits.hops (length s.links) ≡ true
  pub links : AreWords s.links

-- a source, a destination, and paths whose count is within the limits
pub record FitsPair (limits : Limits) (r : PairRoutes) : Type 0 where
  pub src : IsWord r.pair.src
  pub dst : IsWord r.pair.dst
  pub paths : is_count 1 limits.paths (length r.paths) ≡ true
  pub each_path : AllByRecursion (FitsPath limits) r.paths

-- pairs whose count is within the limits
pub record FitsRoutes (limits : Limits) (rs : List PairRoutes) : Type 0 where
  pub pairs : is_count 0 limits.pairs (length rs) ≡ true
  pub each_pair : AllByRecursion (FitsPair limits) rs

-- a list of this many numbers
pub record FitsList (n : ℕ) (ns : List ℕ) : Type 0 where
  pub count : length ns ≡ n
  pub words : AreWords ns

-- a margin has a base of one number for each pair; a box, in the format that has boxes, two bounds
abbrev pub FitsSet : Limits → ℕ → DemandSet → Type 0
FitsSet limits pairs All = Unit {0}
FitsSet limits pairs (Margin num den base) = (has_boxes limits ≡ false) × IsWord num × IsWord den × FitsList pairs base.demand
FitsSet limits pairs (Box lower upper) = (has_boxes limits ≡ true) × FitsList pairs lower.demand × FitsList pairs upper.demand

-- the format of the limits, the network, the pairs, the set and the ratio
pub record FitsHead (limits : Limits) (h : Head) : Type 0 where
  pub format : h.format ≡ limits.format
  pub network : FitsNetwork limits h.network
  pub routes : FitsRoutes limits h.routes
  pub set : FitsSet limits (length h.routes) h.set
  pub ratio : IsWord h.ratio

-- a source, and a potential for each node
pub record FitsRow (nodes : ℕ) (r : Row) : Type 0 where
  pub source : IsWord r.source
  pub potential : FitsList nodes r.potential

-- plus and minus have one number for each pair where the set has bounds, and none where it is all
abbrev pub FitsSides : Bool → ℕ → List ℕ → List ℕ → Type 0
FitsSides false pairs plus minus = (plus ≡ []) × (minus ≡ [])
FitsSides true pairs plus minus = FitsList pairs plus × FitsList pairs minus

-- a weight for each link, rows whose count is within the limits, and the sides
pub record FitsBlock (limits : Limits) (counts : Counts) (block : Block) : Type 0 where
  pub link : IsWord block.link
  pub a : IsWord block.a
  pub b : IsWord block.b
  pub count : is_count 0 limits.nodes (length block.rows) ≡ true
  pub weights : FitsList counts.links block.weights
  pub rows : AllByRecursion (FitsRow counts.nodes) block.rows
  pub sides : FitsSides counts.bounded counts.pairs block.plus block.minus

-- a head, and blocks whose count is within the limits of the head's format
pub record FitsFormat (c : Certificate) : Type 0 where
  pub head : FitsHead (limits_of c.head.format) c.head
  pub count : is_count 0 (limits_of c.head.format).links (length c.blocks) ≡ true
  pub blocks : AllByRecursion (FitsBlock (limits_of c.head.format) (counts_of c.head)) c.blocks
