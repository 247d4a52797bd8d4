-- The network that the rows of a topology make, or the first fault.
use Rattle.std.specs.Prelude.{ℕ, ◌^◌, List, [], ◌∷◌, ◌++◌, length, Bool, false, not, ◌&&◌, ◌||◌, nat_lt, Result, Ok, Err, codes, if◌then◌else◌}
use Rattle.std.specs.Str.{bytes_eq}
use Rattle.te_model.specs.declared.network.Network.{Network}
use Rattle.te_model.specs.declared.limits.TheConstants.{MAX_LINKS, MAX_NODES}
use Rattle.te_model.specs.Network.{is_name}
use Rattle.csv_records.specs.Field.{is_number_within, digits_from}
use Rattle.csv_records.specs.Rows.{and_then, fold_table, records_of}
use Rattle.topology.specs.declared.fault.TopologyFault.{TopologyFault}
use Rattle.topology.specs.declared.fault.TopologyFault.TheVariants as fault
use Rattle.topology.specs.Numbering.{with_name, number_in}

-- what a row says: a link between two names
pub record Entry : Type 0 where
  pub source : List ℕ
  pub target : List ℕ
  pub capacity : ℕ
  pub cost : ℕ

-- what the four fields of a row say, or the first of their faults
abbrev pub entry_of_fields : ℕ → List ℕ → List ℕ → List ℕ → List ℕ → Result Entry TopologyFault
entry_of_fields row source target capacity cost =
    if not (is_name source && is_name target) then Err (fault.Name row)
    else if not (is_number_within 1 (2 ^ 32) capacity && is_number_within 1 65535 cost) then Err (fault.Number row)
    else if bytes_eq source target then Err (fault.SelfLink row)
    else Ok (record { source = source; target = target; capacity = digits_from 0 capacity; cost = digits_from 0 cost })

-- the same of any row
unfoldable pub link_entry : ℕ → List (List ℕ) → Result Entry TopologyFault
link_entry row (source ∷ target ∷ capacity ∷ cost ∷ []) = entry_of_fields row source target capacity cost
link_entry row _ = Err (fault.Fields row)

-- the network with one link more
abbrev pub with_link : Network → Entry → Network
with_link net e = record {
  names = with_name (with_name net.names e.source) e.target;
  links = net.links ++ (record {
    tail = number_in net.names e.source;
    head = number_in (with_name net.names e.source) e.target;
    capacity = e.capacity;
    cost = e.cost;
  } ∷ []);
}

-- a network within the limits
abbrev pub within : ℕ → Network → Result Network TopologyFault
within row net = if nat_lt MAX_NODES (length net.names) || nat_lt MAX_LINKS (length net.links) then Err (fault.TooMany row) else Ok net

-- what a row adds to the network that the rows before it made, or the first of its faults
abbrev pub with_link_row : Network → ℕ → List (List ℕ) → Result Network TopologyFault
with_link_row net row fields = and_then (λ e. within row (with_link net e)) (link_entry row fields)

-- a network that has a link
abbrev pub closed_network : Network → Result Network TopologyFault
closed_network net = if nat_lt 0 (length net.links) then Ok net else Err fault.Empty

abbrev pub is_topology_header : List (List ℕ) → Bool
is_topology_header (a ∷ b ∷ c ∷ d ∷ []) = bytes_eq a (codes "source") && bytes_eq b (codes "target") && bytes_eq c (codes "capacity") && bytes_eq d (codes "cost")
is_topology_header _ = false

abbrev pub no_links : Network
no_links = record { names = []; links = [] }

-- the network that the rows of a topology file make, or the first fault of the first row that has one
abbrev pub topology_of : List ℕ → Result Network TopologyFault
topology_of bytes = and_then closed_network (fold_table is_topology_header fault.Header with_link_row no_links (records_of bytes))
