-- The text of each part of a certificate.
use Rattle.std.specs.Prelude.{ℕ, Bool, true, false, List, [], ◌∷◌, ◌++◌, length, codes}
use Rattle.std.specs.Fmt.{decimal}
use Rattle.std.specs.List.{flat_map}
use Rattle.te_model.specs.declared.network.Link.{Link}
use Rattle.te_model.specs.declared.network.Network.{Network}
use Rattle.te_model.specs.declared.route.PathShare.{PathShare}
use Rattle.te_model.specs.declared.route.PairRoutes.{PairRoutes}
use Rattle.te_model.specs.declared.certificate.Row.{Row}
use Rattle.te_model.specs.declared.certificate.Block.{Block}
use Rattle.te_model.specs.declared.certificate.Head.{Head}
use Rattle.te_model.specs.declared.certificate.Certificate.{Certificate}
use Rattle.te_model.specs.declared.demand.DemandSet.{DemandSet}
use Rattle.te_model.specs.declared.demand.DemandSet.TheVariants.{All, Margin, Box}
use Rattle.te_model.specs.Text.{numbers, link_line, path_line, pair_lines, row_line, network_lines}
use Rattle.cert_text.specs.Grammar.{has_bounds}

-- a space and a number in decimal
abbrev pub with_space : ℕ → List ℕ
with_space n = 32 ∷ decimal n

-- a line and its line feed
abbrev pub with_line_end : List ℕ → List ℕ
with_line_end line = line ++ 10 ∷ []

-- a line of a word and a number
abbrev pub counted_text : List ℕ → ℕ → List ℕ
counted_text word n = word ++ (decimal n ++ 10 ∷ [])

-- a line of a word and the numbers after it
abbrev pub listing_text : List ℕ → List ℕ → List ℕ
listing_text word xs = word ++ (flat_map with_space xs ++ 10 ∷ [])

-- a link: tail, head, capacity and cost
abbrev pub link_text : Link → List ℕ
link_text l = with_line_end (link_line l)

-- a path: its weight, how many links it has, and the links
abbrev pub path_text : PathShare → List ℕ
path_text s = with_line_end (path_line s)

-- a pair and its paths: source, destination and how many paths, and then a line for each
abbrev pub pair_text : PairRoutes → List ℕ
pair_text r = flat_map with_line_end (pair_lines r)

-- the nodes by their names, and the links
abbrev pub network_text : Network → List ℕ
network_text net = flat_map with_line_end (network_lines net)

-- a row: its source and a potential for each node
abbrev pub row_text : Row → List ℕ
row_text r = with_line_end (row_line r)

-- the count of the pairs, and each pair
abbrev pub routes_text : List PairRoutes → List ℕ
routes_text rs = counted_text (codes "pairs ") (length rs) ++ flat_map pair_text rs

-- the set of demands: all, the margin and its base, or the box and its bounds
abbrev pub set_text : DemandSet → List ℕ
set_text All = codes "set all" ++ 10 ∷ []
set_text (Margin num den base) = codes "set margin " ++ (decimal num ++ (with_space den ++ ((10 ∷ []) ++ listing_text (codes "base") base.demand)))
set_text (Box lower upper) = codes "set box" ++ ((10 ∷ []) ++ (listing_text (codes "lower") lower.demand ++ listing_text (codes "upper") upper.demand))

-- what stands before the blocks, but for the first line
abbrev pub head_text : Head → List ℕ
head_text h = network_text h.network ++ (routes_text h.routes ++ (set_text h.set ++ counted_text (codes "ratio ") h.ratio))

-- a line of numbers
abbrev pub number_line : List ℕ → List ℕ
number_line xs = with_line_end (numbers xs)

-- the lines plus and minus, which a set with bounds has
abbrev pub sides_text : Bool → List ℕ × List ℕ → List ℕ
sides_text false sides = []
sides_text true sides = listing_text (codes "plus") sides.0 ++ listing_text (codes "minus") sides.1

-- a block: its first line, the weights, the rows, and where the set has bounds plus and minus
abbrev pub block_text : Bool → Block → List ℕ
block_text bounded b = number_line (b.link ∷ b.a ∷ b.b ∷ length b.rows ∷ []) ++ (number_line b.weights ++ (flat_map row_text b.rows ++ sides_text bounded (b.plus, b.minus)))

-- the first line, which names the format
abbrev pub format_text : ℕ → List ℕ
format_text format = counted_text (codes "yates-ratio ") format

-- the first line, the head and the count of the blocks
abbrev pub opening_text : Head × ℕ → List ℕ
opening_text x = format_text x.0.format ++ (head_text x.0 ++ counted_text (codes "blocks ") x.1)

-- the whole file, part by part
abbrev pub certificate_text : Certificate → List ℕ
certificate_text c = opening_text (c.head, length c.blocks) ++ (flat_map (block_text (has_bounds c.head.set)) c.blocks ++ (codes "end" ++ 10 ∷ []))
