-- What is kept of a certificate whose numbers have no bound.
use Rattle.std.specs.Prelude.{map}
use Rattle.te_model.specs.declared.network.Link.{Link}
use Rattle.te_model.specs.declared.network.Network.{Network}
use Rattle.te_model.specs.declared.route.PathShare.{PathShare}
use Rattle.te_model.specs.declared.route.PairRoutes.{PairRoutes}
use Rattle.te_model.specs.declared.certificate.Row.{Row}
use Rattle.te_model.specs.declared.certificate.Block.{Block}
use Rattle.te_model.specs.declared.certificate.Head.{Head}
use Rattle.te_model.specs.declared.certificate.Certificate.{Certificate}
use Rattle.cert_text.specs.Reading.{narrow_number}

-- a link: capacities have 64 bits and are kept as they are
abbrev pub keep_link : Link → Link
keep_link l = record { tail = narrow_number l.tail; head = narrow_number l.head; capacity = l.capacity; cost = narrow_number l.cost }

-- a network: names are kept as they are
abbrev pub keep_network : Network → Network
keep_network net = record { names = net.names; links = map keep_link net.links }

-- a path: weights have 64 bits
abbrev pub keep_path : PathShare → PathShare
keep_path s = record { links = map narrow_number s.links; weight = s.weight }

-- a pair and its paths
abbrev pub keep_pair : PairRoutes → PairRoutes
keep_pair r = record { pair = record { src = narrow_number r.pair.src; dst = narrow_number r.pair.dst }; paths = map keep_path r.paths }

-- a head: the format is kept as it is, and the numbers of its set and the ratio have 64 bits
abbrev pub keep_head : Head → Head
keep_head h = record { format = h.format; network = keep_network h.network; routes = map keep_pair h.routes; set = h.set; ratio = h.ratio }

-- a row: potentials have 64 bits
abbrev pub keep_row : Row → Row
keep_row r = record { source = narrow_number r.source; potential = r.potential }

-- a block: all but its link and its rows' sources have 64 bits
abbrev pub keep_block : Block → Block
keep_block b = record { link = narrow_number b.link; a = b.a; b = b.b; weights = b.weights; rows = map keep_row b.rows; plus = b.plus; minus = b.minus }

-- a certificate whose node, link and cost numbers are kept at 2 ^ 32 - 1 where they are larger
abbrev pub keep_certificate : Certificate → Certificate
keep_certificate c = record { head = keep_head c.head; blocks = map keep_block c.blocks }
