-- The grammar of a certificate of either format, from left to right.
use Rattle.std.specs.Prelude.{ℕ, ◌+◌, ◌-◌, Bool, true, false, List, [], ◌∷◌, length, Result, Ok, Err, slice_index, ◌==◌, codes, if◌then◌else◌}
use Rattle.te_model.specs.declared.network.Link.{Link}
use Rattle.te_model.specs.declared.network.Network.{Network}
use Rattle.te_model.specs.declared.route.PathShare.{PathShare}
use Rattle.te_model.specs.declared.route.PairRoutes.{PairRoutes}
use Rattle.te_model.specs.declared.certificate.Row.{Row}
use Rattle.te_model.specs.declared.certificate.Block.{Block}
use Rattle.te_model.specs.declared.certificate.Head.{Head}
use Rattle.te_model.specs.declared.certificate.Certificate.{Certificate}
use Rattle.te_model.specs.declared.demand.DemandSet.{DemandSet}
use Rattle.te_model.specs.declared.demand.DemandSet.TheVariants.{All, Margin, Box}
use Rattle.te_model.specs.declared.limits.Limits.{Limits}
use Rattle.te_model.specs.Formats.{limits_of}
use Rattle.cert_text.specs.declared.limits.Counts.{Counts}
use Rattle.cert_text.specs.Place.{Place, ◌>>=◌}
use Rattle.cert_text.specs.Reading.{read_byte, read_word, read_line_end, read_number, read_count, read_narrow, read_next_number, read_next_narrow, read_next_count, read_many, read_name}

-- a word and a number within a range, on a line of their own
unfoldable pub read_counted : List ℕ → ℕ → ℕ → Place → Result (ℕ × Place) ℕ
read_counted word low high p = do
  a ← read_word word p
  n ← read_count low high a
  e ← read_line_end n.1
  Ok (n.0, e)

-- a word and numbers after it, on a line of their own
unfoldable pub read_listing : List ℕ → ℕ → Place → Result (List ℕ × Place) ℕ
read_listing word n p = do
  a ← read_word word p
  xs ← read_many n read_next_number a
  e ← read_line_end xs.1
  Ok (xs.0, e)

unfoldable pub read_name_line : Place → Result (List ℕ × Place) ℕ
read_name_line p = do
  n ← read_name p
  e ← read_line_end n.1
  Ok (n.0, e)

unfoldable pub read_link_line : (ℕ → ℕ) → Place → Result (Link × Place) ℕ
read_link_line keep p = do
  tail ← read_narrow keep p
  head ← read_next_narrow keep tail.1
  capacity ← read_next_number head.1
  cost ← read_next_narrow keep capacity.1
  e ← read_line_end cost.1
  Ok (record { tail = tail.0; head = head.0; capacity = capacity.0; cost = cost.0 }, e)

unfoldable pub read_network : Limits → (ℕ → ℕ) → Place → Result (Network × Place) ℕ
read_network limits keep p = do
  n ← read_counted (codes "nodes ") 2 limits.nodes p
  names ← read_many n.0 read_name_line n.1
  m ← read_counted (codes "links ") 1 limits.links names.1
  links ← read_many m.0 (read_link_line keep) m.1
  Ok (record { names = names.0; links = links.0 }, links.1)

unfoldable pub read_path : Limits → (ℕ → ℕ) → Place → Result (PathShare × Place) ℕ
read_path limits keep p = do
  weight ← read_number p
  n ← read_next_count 1 limits.hops weight.1
  links ← read_many n.0 (read_next_narrow keep) n.1
  e ← read_line_end links.1
  Ok (record { links = links.0; weight = weight.0 }, e)

unfoldable pub read_pair : Limits → (ℕ → ℕ) → Place → Result (PairRoutes × Place) ℕ
read_pair limits keep p = do
  src ← read_narrow keep p
  dst ← read_next_narrow keep src.1
  n ← read_next_count 1 limits.paths dst.1
  e ← read_line_end n.1
  paths ← read_many n.0 (read_path limits keep) e
  Ok (record { pair = record { src = src.0; dst = dst.0 }; paths = paths.0 }, paths.1)

unfoldable pub read_routes : Limits → (ℕ → ℕ) → Place → Result (List PairRoutes × Place) ℕ
read_routes limits keep p = do
  n ← read_counted (codes "pairs ") 0 limits.pairs p
  read_many n.0 (read_pair limits keep) n.1

unfoldable pub read_all : Place → Result (DemandSet × Place) ℕ
read_all p = do
  a ← read_word (codes "all") p
  e ← read_line_end a
  Ok (All, e)

unfoldable pub read_margin : ℕ → Place → Result (DemandSet × Place) ℕ
read_margin pairs p = do
  a ← read_word (codes "margin ") p
  num ← read_number a
  den ← read_next_number num.1
  e ← read_line_end den.1
  base ← read_listing (codes "base") pairs e
  Ok (Margin num.0 den.0 (record { demand = base.0 }), base.1)

unfoldable pub read_box : ℕ → Place → Result (DemandSet × Place) ℕ
read_box pairs p = do
  a ← read_word (codes "box") p
  e ← read_line_end a
  lower ← read_listing (codes "lower") pairs e
  upper ← read_listing (codes "upper") pairs lower.1
  Ok (Box (record { demand = lower.0 }) (record { demand = upper.0 }), upper.1)

-- whether a set with bounds is a box: in the second format, and a margin in the first
abbrev pub has_boxes : Limits → Bool
has_boxes limits = limits.format == 2

abbrev pub read_bounds : Limits → ℕ → Place → Result (DemandSet × Place) ℕ
read_bounds limits pairs p = if has_boxes limits then read_box pairs p else read_margin pairs p

-- all matrices, where an `a` stands next, and else the set with bounds that the format has
unfoldable pub read_set : Limits → ℕ → Place → Result (DemandSet × Place) ℕ
read_set limits pairs p = do
  a ← read_word (codes "set ") p
  if slice_index a.rest 0 == 97 then read_all a else read_bounds limits pairs a

unfoldable pub read_ratio : Place → Result (ℕ × Place) ℕ
read_ratio p = do
  a ← read_word (codes "ratio ") p
  n ← read_number a
  e ← read_line_end n.1
  Ok (n.0, e)

unfoldable pub read_head : Limits → (ℕ → ℕ) → Place → Result (Head × Place) ℕ
read_head limits keep p = do
  network ← read_network limits keep p
  routes ← read_routes limits keep network.1
  set ← read_set limits (length routes.0) routes.1
  ratio ← read_ratio set.1
  Ok (record { format = limits.format; network = network.0; routes = routes.0; set = set.0; ratio = ratio.0 }, ratio.1)

-- one number or more, on a line of their own
unfoldable pub read_number_line : ℕ → Place → Result (List ℕ × Place) ℕ
read_number_line n p = do
  first ← read_number p
  others ← read_many (n - 1) read_next_number first.1
  e ← read_line_end others.1
  Ok (first.0 ∷ others.0, e)

unfoldable pub read_row : (ℕ → ℕ) → ℕ → Place → Result (Row × Place) ℕ
read_row keep nodes p = do
  source ← read_narrow keep p
  potential ← read_many nodes read_next_number source.1
  e ← read_line_end potential.1
  Ok (record { source = source.0; potential = potential.0 }, e)

-- the lines `plus` and `minus`, where the set has bounds
unfoldable pub read_sides : Bool → ℕ → Place → Result ((List ℕ × List ℕ) × Place) ℕ
read_sides false pairs p = Ok (([], []), p)
read_sides true pairs p = do
  plus ← read_listing (codes "plus") pairs p
  minus ← read_listing (codes "minus") pairs plus.1
  Ok ((plus.0, minus.0), minus.1)

unfoldable pub read_block : Limits → (ℕ → ℕ) → Counts → Place → Result (Block × Place) ℕ
read_block limits keep counts p = do
  link ← read_narrow keep p
  a ← read_next_number link.1
  b ← read_next_number a.1
  n ← read_next_count 0 limits.nodes b.1
  e ← read_line_end n.1
  weights ← read_number_line counts.links e
  rows ← read_many n.0 (read_row keep counts.nodes) weights.1
  sides ← read_sides counts.bounded counts.pairs rows.1
  Ok (record { link = link.0; a = a.0; b = b.0; weights = weights.0; rows = rows.0; plus = sides.0.0; minus = sides.0.1 }, sides.1)

abbrev pub has_bounds : DemandSet → Bool
has_bounds All = false
has_bounds (Margin num den base) = true
has_bounds (Box lower upper) = true

-- what the lines of a block are counted by
abbrev pub counts_of : Head → Counts
counts_of h = record { nodes = length h.network.names; links = length h.network.links; pairs = length h.routes; bounded = has_bounds h.set }

-- the last line, after which nothing stands
unfoldable pub read_closing : Place → Result Place ℕ
read_closing p = do
  a ← read_word (codes "end") p
  e ← read_line_end a
  if length e.rest == 0 then Ok e else Err e.line

-- the digit of a format, which ends the first line
unfoldable pub read_digit : ℕ → Place → Result (ℕ × Place) ℕ
read_digit format p = do
  a ← read_byte (48 + format) p
  e ← read_line_end a
  Ok (format, e)

-- the first line, and the number of the format: 2 where a `2` stands next, and else 1, whose digit is then due
unfoldable pub read_format : Place → Result (ℕ × Place) ℕ
read_format p = do
  a ← read_word (codes "yates-ratio ") p
  if slice_index a.rest 0 == 50 then read_digit 2 a else read_digit 1 a

-- the first line, which gives the limits, the head and the count of the blocks
unfoldable pub read_opening : (ℕ → ℕ) → Place → Result ((Head × ℕ) × Place) ℕ
read_opening keep p = do
  format ← read_format p
  head ← read_head (limits_of format.0) keep format.1
  n ← read_counted (codes "blocks ") 0 (limits_of format.0).links head.1
  Ok ((head.0, n.0), n.1)

unfoldable pub read_certificate : (ℕ → ℕ) → Place → Result (Certificate × Place) ℕ
read_certificate keep p = do
  opened ← read_opening keep p
  blocks ← read_many opened.0.1 (read_block (limits_of opened.0.0.format) keep (counts_of opened.0.0)) opened.1
  e ← read_closing blocks.1
  Ok (record { head = opened.0.0; blocks = blocks.0 }, e)
