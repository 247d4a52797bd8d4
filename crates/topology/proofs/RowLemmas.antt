-- What a row does to the network so far, and the network once no row is left.
use Rattle.std.proofs.Common.{ℕ, ◌≡◌, ◌≤◌, ◌<◌, ◌+◌, ◌∙◌, ◌==◌, ◌||◌, ap, refl, sym, List, [], ◌∷◌, ◌++◌, length, length-append, true, false, Result, Ok, Err, nat_lt, arith, if◌then◌else◌}
use Rattle.std.specs.Result.{is_err, is_ok}
use Rattle.std.proofs.lemmas.Bool.{false≢true}
use Rattle.std.proofs.lemmas.Bool.Decides.{nat_tests}
use Rattle.te_model.specs.declared.limits.TheConstants.{MAX_LINKS, MAX_NODES}
use Rattle.te_model.specs.declared.network.Link.{Link}
use Rattle.te_model.specs.declared.network.Network.{Network}
use Rattle.csv_records.specs.Rows.{and_then, fold_rows, fold_table}
use Rattle.csv_records.proofs.RowFacts.{after-header}
use Rattle.topology.specs.declared.fault.TopologyFault.{TopologyFault}
use Rattle.topology.specs.declared.fault.TopologyFault.TheVariants as fault
use Rattle.topology.specs.Numbering.{number_in, with_name}
use Rattle.topology.specs.Topology.{Entry, link_entry, with_link, within, with_link_row, is_topology_header, no_links, closed_network}

module _ (net : Network) (row : ℕ) (r : List (List ℕ)) where
  -- a row with a fault of its own
  pub row-fault : (f : TopologyFault) → link_entry row r ≡ Err f → with_link_row net row r ≡ Err f
  row-fault f e = rw e refl

  -- what a row does that says a link
  pub row-link : (o : Result Network TopologyFault) (e : Entry) → link_entry row r ≡ Ok e → within row (with_link net e) ≡ o → with_link_row net row r ≡ o
  row-link o e said is = rw (said, is) refl

-- records that begin with the header make the network of their rows
pub made-of-records : (records : List (List (List ℕ))) (header : List (List ℕ)) (rows : List (List (List ℕ))) (o : Result Network TopologyFault)
    → records ≡ header ∷ rows → is_topology_header header ≡ true → fold_rows with_link_row no_links 1 rows ≡ o
    → and_then closed_network (fold_table is_topology_header fault.Header with_link_row no_links records) ≡ and_then closed_network o
made-of-records records header rows o first is all = ap (and_then closed_network) (after-header with_link_row is_topology_header fault.Header no_links records header rows first is ∙ all)

-- no row is left
pub closed-empty : (net : Network) → length net.links ≡ 0 → closed_network net ≡ Err fault.Empty
closed-empty net n = rw n refl

pub closed-done : (net : Network) → nat_lt 0 (length net.links) ≡ true → closed_network net ≡ Ok net
closed-done net n = rw n refl

-- the test that a list is empty
pub empty-links : (n : ℕ) → (n == 0) ≡ true → n ≡ 0
empty-links n h = grind (arith, nat_tests)

pub some-links : (n : ℕ) → (n == 0) ≡ false → nat_lt 0 n ≡ true
some-links n h = grind (arith, nat_tests)

-- what a push that did not fail makes of a list
pub pushed : {T E A : Type 0} (result : Result T E) (old new : List A) (value : A) → is_err result ≡ false →
    new ≡ (if is_ok result then old ++ value ∷ [] else old) → new ≡ old ++ value ∷ []
pushed (Ok t) old new value done is = is
pushed (Err e) old new value done is = absurd (false≢true (sym done))

-- one link more, within the limits
pub link-added : (row : ℕ) (net : Network) (e : Entry) (one two : List (List ℕ)) (tail head : ℕ) (links : List Link) →
    tail ≡ number_in net.names e.source → one ≡ with_name net.names e.source → head ≡ number_in one e.target → two ≡ with_name one e.target →
    links ≡ net.links ++ record { tail = tail; head = head; capacity = e.capacity; cost = e.cost } ∷ [] →
    length two ≤ MAX_NODES → length net.links < MAX_LINKS → within row (with_link net e) ≡ Ok (record { names = two; links = links })
link-added row net e one two tail head links is_tail is_one is_head is_two is_links few room =
    let added : Link = record { tail = tail; head = head; capacity = e.capacity; cost = e.cost } in
    let count : length links ≡ length net.links + 1 = omega (arith, ap length is_links, length-append net.links (added ∷ [])) in
    let inside : (nat_lt MAX_NODES (length two) || nat_lt MAX_LINKS (length links)) ≡ false = grind (arith, nat_tests) in
    let same : with_link net e ≡ record { names = two; links = links } = rw (is_links, is_two, is_head, is_one, is_tail) refl in
    ap (within row) same ∙ rw inside refl
