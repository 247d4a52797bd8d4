-- The network that a file makes is well formed.
use Rattle.std.proofs.Common.{ℕ, ◌^◌, ◌≤◌, ◌<◌, ◌≡◌, ◌≢◌, ◌∙◌, refl, sym, ap, subst, List, [], ◌∷◌, length, get_or, Bool, true, false, not, ◌||◌, ◌&&◌, nat_lt, arith, All, Result, Ok, Err, if◌then◌else◌}
use Rattle.std.proofs.lemmas.Bool.{false≢true, ltb-false}
use Rattle.std.proofs.lemmas.Bool.Decides.{nat_tests}
use Rattle.std.proofs.lemmas.List.Elements.{All-append, All-cons}
use Rattle.std.proofs.lemmas.Slice.Eq.{bytes_eq-Decides}
use Rattle.std.specs.Str.{bytes_eq}
use Rattle.te_model.specs.declared.network.Link.{Link}
use Rattle.te_model.specs.declared.network.Network.{Network}
use Rattle.te_model.specs.declared.limits.TheConstants.{MAX_LINKS, MAX_NODES}
use Rattle.te_model.specs.Network.{is_name, is_well_formed, link_count}
use Rattle.csv_records.specs.Field.{digits_from, is_number_within}
use Rattle.csv_records.proofs.FieldFacts.{within-bounds}
use Rattle.te_model.proofs.SoundLinks.{IsLink}
use Rattle.topology.proofs.WellFormed.{WellFormed, well-formed}
use Rattle.topology.specs.declared.fault.TopologyFault.{TopologyFault}
use Rattle.topology.specs.declared.fault.TopologyFault.TheVariants as fault
use Rattle.topology.specs.Numbering.{with_name, number_in}
use Rattle.csv_records.specs.Rows.{and_then, fold_table, records_of}
use Rattle.csv_records.proofs.RowFacts.{table-keep}
use Rattle.topology.specs.Topology.{Entry, link_entry, entry_of_fields, with_link, within, with_link_row, is_topology_header, no_links, closed_network, topology_of}
use Rattle.topology.specs.Laws.{TopologiesAreFormed}
use Rattle.topology.proofs.NumberLemmas.{named}

-- what a row says, where it is accepted
pub record IsEntry (e : Entry) : Type 0 where
  pub source : is_name e.source ≡ true
  pub target : is_name e.target ≡ true
  pub differ : e.source ≢ e.target
  pub capacity_low : 1 ≤ e.capacity
  pub capacity_high : e.capacity ≤ 2 ^ 32
  pub cost_low : 1 ≤ e.cost
  pub cost_high : e.cost ≤ 65535

split : (a b x y d : Bool) (f g h : TopologyFault) (v e : Entry) → ◌≡◌ {A = Result Entry TopologyFault} (if not (a && b) then Err f else if not (x && y) then Err g else if d then Err h else Ok v) (Ok e)
    → (a ≡ true) × (b ≡ true) × (x ≡ true) × (y ≡ true) × (d ≡ false) × (v ≡ e)
split true true true true false f g h v e said = (refl, refl, refl, refl, refl, cc said)
split true true true true true f g h v e said = cc said
split true true true false d f g h v e said = cc said
split true true false y d f g h v e said = cc said
split true false x y d f g h v e said = cc said
split false b x y d f g h v e said = cc said

fields-said : (row : ℕ) (s t c k : List ℕ) (e : Entry) → entry_of_fields row s t c k ≡ Ok e → IsEntry e
fields-said row s t c k e said =
    let (source, target, capacity, cost, differ, same) = split (is_name s) (is_name t) (is_number_within 1 (2 ^ 32) c) (is_number_within 1 65535 k) (bytes_eq s t) (fault.Name row) (fault.Number row) (fault.SelfLink row)
    (record { source = s; target = t; capacity = digits_from 0 c; cost = digits_from 0 k }) e said in
    let (low, high) = within-bounds 1 (2 ^ 32) c capacity in
    let (cheap, dear) = within-bounds 1 65535 k cost in
    subst IsEntry same (record {
      source = source;
      target = target;
      differ = λ eq. false≢true (sym differ ∙ (bytes_eq-Decides s t).1 eq);
      capacity_low = low;
      capacity_high = high;
      cost_low = cheap;
      cost_high = dear;
    })

pub entry-said : (row : ℕ) (xs : List (List ℕ)) (e : Entry) → link_entry row xs ≡ Ok e → IsEntry e
unfolding link_entry
entry-said row [] e said = cc said
entry-said row (a ∷ []) e said = cc said
entry-said row (a ∷ b ∷ []) e said = cc said
entry-said row (a ∷ b ∷ c ∷ []) e said = cc said
entry-said row (a ∷ b ∷ c ∷ d ∷ []) e said = fields-said row a b c d e said
entry-said row (a ∷ b ∷ c ∷ d ∷ f ∷ rest) e said = cc said

limits : (row : ℕ) (net more : Network) → within row net ≡ Ok more → (net ≡ more) × (length net.names ≤ MAX_NODES) × (length net.links ≤ MAX_LINKS)
limits row net more h = go (nat_lt MAX_NODES (length net.names)) (nat_lt MAX_LINKS (length net.links)) refl refl h
  where
    go : (a b : Bool) → nat_lt MAX_NODES (length net.names) ≡ a → nat_lt MAX_LINKS (length net.links) ≡ b → ◌≡◌ {A = Result Network TopologyFault} (if a || b then Err (fault.TooMany row) else Ok net) (Ok more)
        → (net ≡ more) × (length net.names ≤ MAX_NODES) × (length net.links ≤ MAX_LINKS)
    go true b p q e = cc e
    go false true p q e = cc e
    go false false p q e = (cc e, ltb-false MAX_NODES (length net.names) p, ltb-false MAX_LINKS (length net.links) q)

wider : (n m : ℕ) → n ≤ m → (l : Link) → IsLink n l → IsLink m l
wider n m h l i = record {
  tail = omega (arith, i.tail);
  head = omega (arith, i.head);
  differ = i.differ;
  capacity_low = i.capacity_low;
  capacity_high = i.capacity_high;
  cost_low = i.cost_low;
  cost_high = i.cost_high;
}

all-wider : (n m : ℕ) → n ≤ m → (ls : List Link) → All (IsLink n) ls → All (IsLink m) ls
all-wider n m h ls a = λ k d l. wider n m h (get_or ls k d) (a k d l)

-- a link more
pub linked : (net : Network) (e : Entry) → WellFormed net → IsEntry e → length (with_link net e).names ≤ MAX_NODES → length (with_link net e).links ≤ MAX_LINKS → WellFormed (with_link net e)
linked net e w i nodes links =
    let n1 = with_name net.names e.source in
    let n2 = with_name n1 e.target in
    let first = named net.names e.source in
    let second = named n1 e.target in
    let tail = number_in net.names e.source in
    let head = number_in n1 e.target in
    let new : Link = record { tail = tail; head = head; capacity = e.capacity; cost = e.cost } in
    let is : IsLink (length n2) new = record {
      tail = omega (arith, first.low, second.grows);
      head = second.low;
      differ = λ same. i.differ (sym first.at ∙ sym (second.kept tail first.low) ∙ ap (λ (k : ℕ). get_or n2 k []) same ∙ second.at);
      capacity_low = i.capacity_low;
      capacity_high = i.capacity_high;
      cost_low = i.cost_low;
      cost_high = i.cost_high;
    } in
    let wide : length net.names ≤ length n2 = omega (arith, first.grows, second.grows) in
    record {
      names = second.spelled (first.spelled w.names i.source) i.target;
      distinct = second.distinct (first.distinct w.distinct);
      links = All-append (IsLink (length n2)) net.links (new ∷ []) (all-wider (length net.names) (length n2) wide net.links w.links)
          (All-cons (IsLink (length n2)) new [] is (λ k d l. absurd (omega arith)));
      few_nodes = nodes;
      few_links = links;
    }

-- one row
row-sound : (net more : Network) (row : ℕ) (o : Result Entry TopologyFault) → ((e : Entry) → o ≡ Ok e → IsEntry e) → WellFormed net
    → and_then (λ e. within row (with_link net e)) o ≡ Ok more → WellFormed more
row-sound net more row (Ok e) said w h =
    let (same, nodes, links) = limits row (with_link net e) more h in
    subst WellFormed same (linked net e w (said e refl) nodes links)
row-sound net more row (Err f) said w h = cc h

row-keeps : (net more : Network) (row : ℕ) (r : List (List ℕ)) → WellFormed net → with_link_row net row r ≡ Ok more → WellFormed more
row-keeps net more row r w h = row-sound net more row (link_entry row r) (entry-said row r) w h

nothing : WellFormed no_links
nothing = record {
  names = λ k d l. absurd (omega arith);
  distinct = λ i j l h. absurd (omega arith);
  links = λ k d l. absurd (omega arith);
  few_nodes = omega arith;
  few_links = omega arith;
}

-- a well formed network with a link
abbrev pub Finished : Network → Type 0
Finished net = WellFormed net × (0 < length net.links)

end-sound : (b : Bool) (made net : Network) → nat_lt 0 (length made.links) ≡ b
    → ◌≡◌ {A = Result Network TopologyFault} (if b then Ok made else Err fault.Empty) (Ok net) → WellFormed made → Finished net
end-sound true made net some h w = subst Finished (cc h) (w, grind (arith, nat_tests))
end-sound false made net some h w = cc h

table-sound : (o : Result Network TopologyFault) (net : Network) → ((made : Network) → o ≡ Ok made → WellFormed made) → and_then closed_network o ≡ Ok net → Finished net
table-sound (Ok made) net sound h = end-sound (nat_lt 0 (length made.links)) made net refl h (sound made refl)
table-sound (Err f) net sound h = cc h

-- the network that a file makes
pub topology-finished : (bytes : List ℕ) (net : Network) → topology_of bytes ≡ Ok net → Finished net
topology-finished bytes net h =
    table-sound (fold_table is_topology_header fault.Header with_link_row no_links (records_of bytes)) net
    (λ made is. table-keep with_link_row is_topology_header fault.Header no_links WellFormed row-keeps made (records_of bytes) nothing is) h

pub topology-sound : (bytes : List ℕ) (net : Network) → topology_of bytes ≡ Ok net → is_well_formed net ≡ true
topology-sound bytes net h = let (sound, some) = topology-finished bytes net h in well-formed net sound some

pub topology-has-links : (bytes : List ℕ) (net : Network) → topology_of bytes ≡ Ok net → 1 ≤ link_count net
topology-has-links bytes net h = let (sound, some) = topology-finished bytes net h in some

pub topologies_are_formed : TopologiesAreFormed
topologies_are_formed bytes net h = (topology-sound bytes net h, topology-has-links bytes net h)
