-- The table of the needs: fields apart by commas (44), lines ended by a line feed (10).
use Rattle.std.specs.Prelude.{ℕ, Bool, List, [], ◌∷◌, ◌++◌, codes, decimal, flat_map, if◌then◌else◌}
use Rattle.std.specs.List.{join_with_byte}
use Rattle.te_model.specs.declared.certificate.Certificate.{Certificate}
use Rattle.te_model.specs.declared.network.Network.{Network}
use Rattle.te_model.specs.Network.{capacity_of, head_of, name_at, tail_of}
use Rattle.link_bounds.specs.declared.needs.LinkNeed.{LinkNeed}
use Rattle.link_bounds.specs.Needs.{needs_of}

abbrev pub header : List ℕ
header = codes "link,source,target,capacity,need\n"

-- the link, the names of its ends, its capacity, and its need in millionths
abbrev pub row_of : List ℕ → List ℕ → ℕ → LinkNeed → List ℕ
row_of source target capacity n =
    join_with_byte 44 (decimal n.link ∷ source ∷ target ∷ decimal capacity ∷ decimal n.need ∷ []) ++ 10 ∷ []

-- the row of a link of the network
abbrev pub need_row : Network → LinkNeed → List ℕ
need_row net n = row_of (name_at net (tail_of net n.link)) (name_at net (head_of net n.link)) (capacity_of net n.link) n

-- the row of a link that has a share, and nothing of one that has none
abbrev pub row_where : Bool → Network → LinkNeed → List ℕ
row_where shared net n = if shared then need_row net n else []

-- the header, and a row for each of these
abbrev pub table_text : Network → List LinkNeed → List ℕ
table_text net needs = header ++ flat_map (need_row net) needs

-- the table of a certificate: a row for each link with a share, ascending
abbrev pub bounds_text : Certificate → List ℕ
bounds_text c = table_text c.head.network (needs_of c)
