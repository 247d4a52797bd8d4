-- How many bytes the lines of a certificate take at most, where its counts are within limits and its numbers are small. Each
-- size is that of the widest numbers, so the widest file of a format has it but for a byte here and there.
use Rattle.std.proofs.Common.{ℕ, ◌+◌, ◌-◌, ◌*◌, ◌^◌, ◌<◌, ◌≤◌, List, [], ◌∷◌, length, map, arith, lit≤, subst, sym}
use Rattle.std.specs.Prelude.{All, ⊤, flat_map, codes}
use Rattle.std.proofs.lemmas.List.{map-id}
use Rattle.std.proofs.lemmas.List.Elements.{All-weaker}
use Rattle.std.proofs.lemmas.Nat.{mul-le}
use Rattle.te_model.specs.declared.limits.Limits.{Limits}
use Rattle.te_model.specs.declared.network.Link.{Link}
use Rattle.te_model.specs.declared.network.Network.{Network}
use Rattle.te_model.specs.declared.route.PathShare.{PathShare}
use Rattle.te_model.specs.declared.route.PairRoutes.{PairRoutes}
use Rattle.te_model.specs.declared.certificate.Row.{Row}
use Rattle.te_model.specs.declared.certificate.Block.{Block}
use Rattle.te_model.specs.declared.certificate.Head.{Head}
use Rattle.te_model.specs.declared.certificate.Certificate.{Certificate}
use Rattle.te_model.specs.declared.demand.DemandSet.{DemandSet}
use Rattle.te_model.specs.declared.demand.DemandSet.TheVariants.{All as AllMatrices, Margin, Box}
use Rattle.te_model.specs.Text.{numbers, words, link_line, network_lines, path_line, pair_lines, set_lines, row_line, side_lines, block_lines, head_lines, certificate_lines}
use Rattle.text_size.proofs.Widths.{digit_count, widest, size, width-le, widths-le, length-words, length-numbers, line-numbers, size-append, size-three, size-four, size-map, size-flat_map}

-- limits that are numbers of 64 bits
pub record AreWords (limits : Limits) : Type 0 where
  pub format : limits.format < 2 ^ 64
  pub nodes : limits.nodes < 2 ^ 64
  pub links : limits.links < 2 ^ 64
  pub pairs : limits.pairs < 2 ^ 64
  pub paths : limits.paths < 2 ^ 64
  pub hops : limits.hops < 2 ^ 64

-- ---- the network

pub record IsShortLink (limits : Limits) (l : Link) : Type 0 where
  pub tail : l.tail ≤ limits.nodes
  pub head : l.head ≤ limits.nodes
  pub capacity : l.capacity ≤ 2 ^ 32
  pub cost : l.cost ≤ 65535

unfoldable pub link_size : Limits → ℕ
link_size limits = widest limits.nodes + widest limits.nodes + widest (2 ^ 32) + widest 65535

link_line-size : (limits : Limits) → AreWords limits → (l : Link) → IsShortLink limits l → length (link_line l) + 1 ≤ link_size limits
unfolding link_size
link_line-size limits fit l short =
    omega (
      arith,
      line-numbers l.tail (l.head ∷ l.capacity ∷ l.cost ∷ []),
      width-le limits.nodes l.tail fit.nodes short.tail,
      width-le limits.nodes l.head fit.nodes short.head,
      width-le (2 ^ 32) l.capacity (omega arith) short.capacity,
      width-le 65535 l.cost (omega arith) short.cost,
    )

pub record IsShortNetwork (limits : Limits) (net : Network) : Type 0 where
  pub nodes : length net.names ≤ limits.nodes
  pub names : All (λ name. length name ≤ 32) net.names
  pub count : length net.links ≤ limits.links
  pub links : All (IsShortLink limits) net.links

-- a line of a word of so many letters and of one number
abbrev pub counted_size : ℕ → ℕ → ℕ
counted_size letters most = letters + widest most + 1

counted-size : (word : List ℕ) (most n : ℕ) → most < 2 ^ 64 → n ≤ most → length (words word (n ∷ [])) + 1 ≤ counted_size (length word) most
counted-size word most n small le = omega (arith, length-words word (n ∷ []), width-le most n small le)

unfoldable pub network_size : Limits → ℕ
network_size limits = counted_size 5 limits.nodes + limits.nodes * 33 + counted_size 5 limits.links + limits.links * link_size limits

-- n lines or fewer, each of at most m bytes
lines-size : (n m : ℕ) (lines : List (List ℕ)) → length lines ≤ n → All (λ line. length line + 1 ≤ m) lines → size lines ≤ n * m
lines-size n m lines few small = subst (λ (ls : List (List ℕ)). size ls ≤ n * m) (map-id lines) (size-map (λ line. line) n m lines few small)

network_lines-size : (limits : Limits) → AreWords limits → (net : Network) → IsShortNetwork limits net → size (network_lines net) ≤ network_size limits
unfolding network_size
network_lines-size limits fit net short =
    omega (
      arith,
      size-append (words (codes "nodes") (length net.names ∷ []) ∷ net.names) (words (codes "links") (length net.links ∷ []) ∷ map link_line net.links),
      counted-size (codes "nodes") limits.nodes (length net.names) fit.nodes short.nodes,
      counted-size (codes "links") limits.links (length net.links) fit.links short.count,
      lines-size limits.nodes 33 net.names short.nodes (All-weaker (λ name. length name ≤ 32) (λ name. length name + 1 ≤ 33) (λ name few. omega arith) net.names short.names),
      size-map link_line limits.links (link_size limits) net.links short.count
          (All-weaker (IsShortLink limits) (λ l. length (link_line l) + 1 ≤ link_size limits) (link_line-size limits fit) net.links short.links),
    )

-- ---- the pairs

pub record IsShortPath (limits : Limits) (s : PathShare) : Type 0 where
  pub weight : s.weight ≤ 1000000
  pub hops : length s.links ≤ limits.hops
  pub links : All (λ h. h ≤ limits.links) s.links

unfoldable pub path_size : Limits → ℕ
path_size limits = widest 1000000 + widest limits.hops + limits.hops * widest limits.links

path_line-size : (limits : Limits) → AreWords limits → (s : PathShare) → IsShortPath limits s → length (path_line s) + 1 ≤ path_size limits
unfolding path_size
path_line-size limits fit s short =
    omega (
      arith,
      line-numbers s.weight (length s.links ∷ s.links),
      width-le 1000000 s.weight (omega arith) short.weight,
      width-le limits.hops (length s.links) fit.hops short.hops,
      widths-le limits.hops limits.links s.links short.hops fit.links short.links,
    )

pub record IsShortPair (limits : Limits) (r : PairRoutes) : Type 0 where
  pub src : r.pair.src ≤ limits.nodes
  pub dst : r.pair.dst ≤ limits.nodes
  pub count : length r.paths ≤ limits.paths
  pub paths : All (IsShortPath limits) r.paths

unfoldable pub pair_size : Limits → ℕ
pair_size limits = widest limits.nodes + widest limits.nodes + widest limits.paths + limits.paths * path_size limits

pair_lines-size : (limits : Limits) → AreWords limits → (r : PairRoutes) → IsShortPair limits r → size (pair_lines r) ≤ pair_size limits
unfolding pair_size
pair_lines-size limits fit r short =
    omega (
      arith,
      line-numbers r.pair.src (r.pair.dst ∷ length r.paths ∷ []),
      width-le limits.nodes r.pair.src fit.nodes short.src,
      width-le limits.nodes r.pair.dst fit.nodes short.dst,
      width-le limits.paths (length r.paths) fit.paths short.count,
      size-map path_line limits.paths (path_size limits) r.paths short.count
          (All-weaker (IsShortPath limits) (λ s. length (path_line s) + 1 ≤ path_size limits) (path_line-size limits fit) r.paths short.paths),
    )

-- ---- the set

-- a list of at most n numbers, none above the greatest
pub record IsShortList (n most : ℕ) (xs : List ℕ) : Type 0 where
  pub count : length xs ≤ n
  pub small : All (λ x. x ≤ most) xs

-- a word of so many letters, and the numbers after it
abbrev pub listing_size : ℕ → ℕ → ℕ → ℕ
listing_size letters n most = letters + n * widest most + 1

listing-size : (word : List ℕ) (n most : ℕ) (xs : List ℕ) → most < 2 ^ 64 → IsShortList n most xs → length (words word xs) + 1 ≤ listing_size (length word) n most
listing-size word n most xs small short = omega (arith, length-words word xs, widths-le n most xs short.count small short.small)

abbrev pub IsShortSet : Limits → DemandSet → Type 0
IsShortSet limits AllMatrices = ⊤
IsShortSet limits (Margin num den base) = (num ≤ 1000) × (den ≤ 1000) × IsShortList limits.pairs (2 ^ 32) base.demand
IsShortSet limits (Box lower upper) = IsShortList limits.pairs (2 ^ 52) lower.demand × IsShortList limits.pairs (2 ^ 52) upper.demand

-- enough for the lines of a margin and for those of a box
unfoldable pub set_size : Limits → ℕ
set_size limits = 20 + widest 1000 + widest 1000 + limits.pairs * widest (2 ^ 52) + limits.pairs * widest (2 ^ 52)

narrower : (n : ℕ) → n * widest (2 ^ 32) ≤ n * widest (2 ^ 52)
unfolding digit_count
narrower n = mul-le n (widest (2 ^ 32)) n (widest (2 ^ 52)) (omega arith) (lit≤ tt)

set_lines-size : (limits : Limits) (set : DemandSet) → IsShortSet limits set → size (set_lines set) ≤ set_size limits
unfolding set_size
set_lines-size limits AllMatrices short = omega arith
set_lines-size limits (Margin num den base) short =
    omega (
      arith,
      length-words (codes "set margin") (num ∷ den ∷ []),
      width-le 1000 num (omega arith) short.0,
      width-le 1000 den (omega arith) short.1,
      listing-size (codes "base") limits.pairs (2 ^ 32) base.demand (omega arith) short.2,
      narrower limits.pairs,
    )
set_lines-size limits (Box lower upper) short =
    omega (
      arith,
      listing-size (codes "lower") limits.pairs (2 ^ 52) lower.demand (omega arith) short.0,
      listing-size (codes "upper") limits.pairs (2 ^ 52) upper.demand (omega arith) short.1,
    )

-- ---- blocks

pub record IsShortRow (limits : Limits) (r : Row) : Type 0 where
  pub source : r.source ≤ limits.nodes
  pub potential : IsShortList limits.nodes (2 ^ 36) r.potential

unfoldable pub row_size : Limits → ℕ
row_size limits = widest limits.nodes + limits.nodes * widest (2 ^ 36)

row_line-size : (limits : Limits) → AreWords limits → (r : Row) → IsShortRow limits r → length (row_line r) + 1 ≤ row_size limits
unfolding row_size
row_line-size limits fit r short =
    omega (
      arith,
      line-numbers r.source r.potential,
      width-le limits.nodes r.source fit.nodes short.source,
      widths-le limits.nodes (2 ^ 36) r.potential short.potential.count (omega arith) short.potential.small,
    )

pub record IsShortBlock (limits : Limits) (block : Block) : Type 0 where
  pub link : block.link ≤ limits.links
  pub a : block.a ≤ 2 ^ 36
  pub b : block.b ≤ 2 ^ 36
  pub weights : IsShortList limits.links (2 ^ 28) block.weights
  pub count : length block.rows ≤ limits.nodes
  pub rows : All (IsShortRow limits) block.rows
  pub plus : IsShortList limits.pairs (2 ^ 36) block.plus
  pub minus : IsShortList limits.pairs (2 ^ 36) block.minus

unfoldable pub sides_size : Limits → ℕ
sides_size limits = listing_size 4 limits.pairs (2 ^ 36) + listing_size 5 limits.pairs (2 ^ 36)

both_sides-size : (limits : Limits) (b : Block) → IsShortBlock limits b → size (words (codes "plus") b.plus ∷ words (codes "minus") b.minus ∷ []) ≤ sides_size limits
unfolding sides_size
both_sides-size limits b short =
    omega (
      arith,
      listing-size (codes "plus") limits.pairs (2 ^ 36) b.plus (omega arith) short.plus,
      listing-size (codes "minus") limits.pairs (2 ^ 36) b.minus (omega arith) short.minus,
    )

side_lines-size : (limits : Limits) (set : DemandSet) (b : Block) → IsShortBlock limits b → size (side_lines set b) ≤ sides_size limits
unfolding sides_size
side_lines-size limits AllMatrices b short = omega arith
side_lines-size limits (Margin num den base) b short = both_sides-size limits b short
side_lines-size limits (Box lower upper) b short = both_sides-size limits b short

unfoldable pub block_size : Limits → ℕ
block_size limits =
    widest limits.links + widest (2 ^ 36) + widest (2 ^ 36) + widest limits.nodes
    + (limits.links * widest (2 ^ 28) + 1) + limits.nodes * row_size limits + sides_size limits

block_lines-size : (limits : Limits) → AreWords limits → (set : DemandSet) (b : Block) → IsShortBlock limits b → size (block_lines set b) ≤ block_size limits
unfolding block_size
block_lines-size limits fit set b short =
    omega (
      arith,
      size-append (numbers (b.link ∷ b.a ∷ b.b ∷ length b.rows ∷ []) ∷ numbers b.weights ∷ map row_line b.rows) (side_lines set b),
      line-numbers b.link (b.a ∷ b.b ∷ length b.rows ∷ []),
      width-le limits.links b.link fit.links short.link,
      width-le (2 ^ 36) b.a (omega arith) short.a,
      width-le (2 ^ 36) b.b (omega arith) short.b,
      width-le limits.nodes (length b.rows) fit.nodes short.count,
      length-numbers b.weights,
      widths-le limits.links (2 ^ 28) b.weights short.weights.count (omega arith) short.weights.small,
      size-map row_line limits.nodes (row_size limits) b.rows short.count
          (All-weaker (IsShortRow limits) (λ r. length (row_line r) + 1 ≤ row_size limits) (row_line-size limits fit) b.rows short.rows),
      side_lines-size limits set b short,
    )

-- ---- the whole

pub record IsShortHead (limits : Limits) (h : Head) : Type 0 where
  pub format : h.format ≤ limits.format
  pub network : IsShortNetwork limits h.network
  pub count : length h.routes ≤ limits.pairs
  pub routes : All (IsShortPair limits) h.routes
  pub set : IsShortSet limits h.set
  pub ratio : h.ratio < 2 ^ 64

unfoldable pub head_size : Limits → ℕ
head_size limits =
    counted_size 11 limits.format + network_size limits + (counted_size 5 limits.pairs + limits.pairs * pair_size limits)
    + set_size limits + counted_size 5 (2 ^ 64 - 1)

head_lines-size : (limits : Limits) → AreWords limits → (h : Head) → IsShortHead limits h → size (head_lines h) ≤ head_size limits
unfolding head_size
head_lines-size limits fit h short =
    let first = words (codes "yates-ratio") (h.format ∷ []) ∷ network_lines h.network in
    let pairs = words (codes "pairs") (length h.routes ∷ []) ∷ flat_map pair_lines h.routes in
    let ratio = words (codes "ratio") (h.ratio ∷ []) ∷ [] in
    subst (λ (total : ℕ). total ≤ head_size limits) (sym (size-four first pairs (set_lines h.set) ratio))
    (omega (
      arith,
      counted-size (codes "yates-ratio") limits.format h.format fit.format short.format,
      network_lines-size limits fit h.network short.network,
      counted-size (codes "pairs") limits.pairs (length h.routes) fit.pairs short.count,
      size-flat_map pair_lines limits.pairs (pair_size limits) h.routes short.count
          (All-weaker (IsShortPair limits) (λ p. size (pair_lines p) ≤ pair_size limits) (pair_lines-size limits fit) h.routes short.routes),
      set_lines-size limits h.set short.set,
      counted-size (codes "ratio") (2 ^ 64 - 1) h.ratio (omega arith) (let r = short.ratio in omega arith),
    ))

pub record IsShort (limits : Limits) (c : Certificate) : Type 0 where
  pub head : IsShortHead limits c.head
  pub count : length c.blocks ≤ limits.links
  pub blocks : All (IsShortBlock limits) c.blocks

unfoldable pub certificate_size : Limits → ℕ
certificate_size limits = head_size limits + (counted_size 6 limits.links + limits.links * block_size limits) + 4

pub certificate_lines-size : (limits : Limits) → AreWords limits → (c : Certificate) → IsShort limits c → size (certificate_lines c) ≤ certificate_size limits
unfolding certificate_size
certificate_lines-size limits fit c short =
    let blocks = words (codes "blocks") (length c.blocks ∷ []) ∷ flat_map (block_lines c.head.set) c.blocks in
    subst (λ (total : ℕ). total ≤ certificate_size limits) (sym (size-three (head_lines c.head) blocks (codes "end" ∷ [])))
    (omega (
      arith,
      head_lines-size limits fit c.head short.head,
      counted-size (codes "blocks") limits.links (length c.blocks) fit.links short.count,
      size-flat_map (block_lines c.head.set) limits.links (block_size limits) c.blocks short.count
          (All-weaker (IsShortBlock limits) (λ b. size (block_lines c.head.set b) ≤ block_size limits) (block_lines-size limits fit c.head.set) c.blocks short.blocks),
    ))
