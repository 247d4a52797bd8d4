-- A repriced certificate is valid: its rules speak of names, ends and counts, which stay, and of capacities and costs, which are those of a
-- well-formed network.
use Rattle.std.proofs.Common.{◌≡◌, ℕ, ◌+◌, ◌^◌, ◌<◌, Bool, true, not, ◌&&◌, None, length, ap, arith, get_or, nat_le, nat_lt, refl, subst, ◌==◌}
use Rattle.std.specs.Prelude.{All}
use Rattle.std.specs.List.{list_all}
use Rattle.std.proofs.lemmas.Bool.{and_from, and_parts, lt-ltb, ltb-true}
use Rattle.std.proofs.lemmas.Bool.Decides.{nat_tests}
use Rattle.te_model.specs.declared.certificate.Block.{Block}
use Rattle.te_model.specs.declared.certificate.Certificate.{Certificate}
use Rattle.te_model.specs.declared.certificate.Head.{Head}
use Rattle.te_model.specs.declared.certificate.Row.{Row}
use Rattle.te_model.specs.declared.demand.DemandSet.{DemandSet}
use Rattle.te_model.specs.declared.limits.Limits.{Limits}
use Rattle.te_model.specs.declared.network.Network.{Network}
use Rattle.te_model.specs.Counting.{unless}
use Rattle.te_model.specs.Formats.{limits_of}
use Rattle.te_model.specs.Network.{is_name, is_new_name, is_sound_link, is_well_formed, link_count, no_link, node_count}
use Rattle.te_model.specs.Path.{destination_of, is_path, routes_at, source_of}
use Rattle.link_bounds.specs.SameLinks.{AreSameLinks}
use Rattle.te_model.specs.Shape.{has_one_each, is_count, is_row_of, is_shaped_head, is_shaped_link, is_shaped_network, is_shaped_pair, is_shaped_row, is_shaped_set, is_word}
use Rattle.te_model.specs.Validity.{IsValid, IsValidBlock, IsValidHead, fault_at, faults_from, follows_previous, has_ascending_paths, has_margin_numbers, has_pair_bounds, has_sound_paths, has_whole_weight, is_small, is_sound_pair, pair_below, rows_ascend, rule_fault, rules, with_first}
use Rattle.te_model.proofs.Searches.{first_below_none}
use Rattle.te_model.proofs.SoundLinks.{sound_links}
use Rattle.te_model.proofs.Tests.{first_some_none_at, list_all_weaker}
use Rattle.te_model.proofs.Valid.{rules_hold}
use Rattle.te_model.proofs.ValidParts.{valid_parts}
use Rattle.te_model.proofs.WellFormed.{well_formed_parts}
use Rattle.best_blocks.proofs.Pushed.{all_tests}
use Rattle.link_bounds.specs.Laws.{CanReprice, RepricingKeepsValidity}
use Rattle.link_bounds.specs.Repriced.{greatest_need, repriced}
use Rattle.link_bounds.proofs.SameNetworks.{nodes_same, path_same}

-- a network of the same links can be written in each format in which the one can
network_shaped : (limits : Limits) (a b : Network) → AreSameLinks a b → is_well_formed b ≡ true → is_shaped_network limits a ≡ true → is_shaped_network limits b ≡ true
network_shaped limits a b same formed shaped =
    let nodes = is_count 2 limits.nodes (node_count a) in
    let named = list_all is_name a.names in
    let links = is_count 1 limits.links (link_count a) in
    let three = and_parts (nodes && named && links) (list_all is_shaped_link a.links) shaped in
    let two = and_parts (nodes && named) links three.0 in
    let one = and_parts nodes named two.0 in
    and_from (is_count 2 limits.nodes (node_count b) && list_all is_name b.names && is_count 1 limits.links (link_count b)) (list_all is_shaped_link b.links)
    (and_from (is_count 2 limits.nodes (node_count b) && list_all is_name b.names) (is_count 1 limits.links (link_count b))
    (and_from (is_count 2 limits.nodes (node_count b)) (list_all is_name b.names)
    (subst (λ n. is_count 2 limits.nodes n ≡ true) (nodes_same a b same) one.0)
    (subst (λ names. list_all is_name names ≡ true) same.names one.1))
    (subst (λ m. is_count 1 limits.links m ≡ true) same.count two.1))
    (all_tests is_shaped_link b.links no_link (λ h below. let is = sound_links b formed h below in grind (arith, nat_tests)))

-- a block of the one is a block of the other
pub block_on : (x y : Head) → AreSameLinks x.network y.network → x.format ≡ y.format → x.routes ≡ y.routes → x.set ≡ y.set → (b : Block) →
    IsValidBlock x b → IsValidBlock y b
block_on x y same format routes set b valid = record {
  shaped = subst (λ s. shape (limits_of y.format) (link_count y.network) (node_count y.network) s (length y.routes) ≡ true) set
      (subst (λ r. shape (limits_of y.format) (link_count y.network) (node_count y.network) x.set (length r) ≡ true) routes
      (subst (λ f. shape (limits_of f) (link_count y.network) (node_count y.network) x.set (length x.routes) ≡ true) format
      (subst (λ n. shape (limits_of x.format) (link_count y.network) n x.set (length x.routes) ≡ true) (nodes_same x.network y.network same)
      (subst (λ m. shape (limits_of x.format) m (node_count x.network) x.set (length x.routes) ≡ true) same.count valid.shaped))));
  numbers = subst (λ m. (nat_lt b.link m && nat_le b.a (2 ^ 36) && nat_le 1 b.b && nat_le b.b (2 ^ 36)) ≡ true) same.count valid.numbers;
  small = subst (λ n. (list_all (λ w. nat_le w (2 ^ 28)) b.weights
      && list_all (λ (r : Row). nat_lt r.source n && list_all is_small r.potential) b.rows
      && rows_ascend b.rows && list_all is_small b.plus && list_all is_small b.minus) ≡ true) (nodes_same x.network y.network same) valid.small;
}
  where
    shape : Limits → ℕ → ℕ → DemandSet → ℕ → Bool
    shape limits m n s pairs =
        is_word b.link && is_word b.a && is_word b.b && is_row_of m b.weights
        && is_count 0 limits.nodes (length b.rows) && list_all (is_shaped_row n) b.rows
        && has_one_each s pairs b.plus && has_one_each s pairs b.minus

-- the certificate on the network, of any ratio
abbrev pub with_ratio : Certificate → Network → ℕ → Certificate
with_ratio c net ratio = record {
  head = record { format = c.head.format; network = net; routes = c.head.routes; set = c.head.set; ratio = ratio };
  blocks = c.blocks;
}

module _ (c : Certificate) (net : Network) (valid : IsValid c) (can : CanReprice c net) where
  abbrev pub new : Head
  new = (repriced c net).head

  small_ratio : greatest_need net c.blocks < 10 ^ 19
  small_ratio = ltb-true (greatest_need net c.blocks) (10 ^ 19) can.small

  head_shaped : is_shaped_head (limits_of c.head.format) c.head ≡ true → is_shaped_head (limits_of new.format) new ≡ true
  head_shaped shaped =
      let limits = limits_of c.head.format in
      let a = c.head.format == limits.format in
      let b = is_shaped_network limits c.head.network in
      let d = is_count 0 limits.pairs (length c.head.routes) in
      let e = list_all (is_shaped_pair limits) c.head.routes in
      let f = is_shaped_set limits (length c.head.routes) c.head.set in
      let five = and_parts (a && b && d && e && f) (is_word c.head.ratio) shaped in
      let four = and_parts (a && b && d && e) f five.0 in
      let three = and_parts (a && b && d) e four.0 in
      let two = and_parts (a && b) d three.0 in
      let one = and_parts a b two.0 in
      let b' = network_shaped limits c.head.network net can.same can.formed one.1 in
      let ratio : is_word (greatest_need net c.blocks) ≡ true = lt-ltb _ _ (omega (arith, small_ratio)) in
      and_from (a && is_shaped_network limits net && d && e && f) (is_word (greatest_need net c.blocks))
      (and_from (a && is_shaped_network limits net && d && e) f
      (and_from (a && is_shaped_network limits net && d) e
      (and_from (a && is_shaped_network limits net) d
      (and_from a (is_shaped_network limits net) one.0 b') two.1) three.1) four.1) ratio

  -- a rule that holds at each place has no fault
  no_fault : (r n : ℕ) (test : ℕ → Bool) → ((k : ℕ) → k < n → test k ≡ true) → rule_fault r n test ≡ None
  no_fault r n test each = first_below_none n (λ k. unless (test k) (fault_at r k)) (λ k below. ap (λ b. unless b (fault_at r k)) (each k below))

  pub head_valid : IsValidHead new
  head_valid =
      let kept = rules_hold c valid.1 in
      let at : (k : ℕ) → get_or (faults_from 1 (rules c)) k None ≡ None = λ k. first_some_none_at (faults_from 1 (rules c)) k valid.1 in
      let routes = c.head.routes in
      let pairs = length routes in
      let first = no_fault 1 (node_count net) (is_new_name net) (well_formed_parts net can.formed).new_names in
      let second = no_fault 2 (link_count net) (is_sound_link net) (sound_links net can.formed) in
      let third = no_fault 3 pairs (is_sound_pair new) (λ p below.
      subst (λ n. (nat_lt (source_of routes p) n && nat_lt (destination_of routes p) n && not (source_of routes p == destination_of routes p)
      && follows_previous (pair_below routes) p) ≡ true) (nodes_same c.head.network net can.same) (kept.pairs p below))
      in
      let fourth = no_fault 4 pairs (has_sound_paths new) (λ p below.
      list_all_weaker (λ s. is_path c.head.network (source_of routes p) (destination_of routes p) s.links)
      (λ s. is_path net (source_of routes p) (destination_of routes p) s.links)
      (λ s is. path_same c.head.network net can.same (source_of routes p) (destination_of routes p) s.links is)
      (routes_at routes p).paths (kept.paths p below))
      in
      let fifth : rule_fault 5 pairs (has_ascending_paths new) ≡ None = at 4 in
      let sixth : rule_fault 6 pairs (has_whole_weight new) ≡ None = at 5 in
      let seventh : rule_fault 7 (1 + pairs) (with_first (has_margin_numbers c.head.set) (has_pair_bounds c.head.set)) ≡ None = at 6 in
      record {
        shaped = head_shaped ((valid_parts c).0 valid).head.shaped;
        no_fault = rw (first, second, third, fourth, fifth, sixth, seventh)
            (ap (λ b. unless b (fault_at 8 0)) (lt-ltb (greatest_need net c.blocks) (10 ^ 19) small_ratio));
      }

  pub blocks_valid : All (IsValidBlock new) c.blocks
  blocks_valid = λ k d below. block_on c.head new can.same refl refl refl (get_or c.blocks k d) (((valid_parts c).0 valid).blocks k d below)

pub repriced_valid : RepricingKeepsValidity
repriced_valid c net valid can =
    let parts = (valid_parts c).0 valid in
    (valid_parts (repriced c net)).1 (record {
      head = head_valid c net valid can;
      count = parts.count;
      blocks = blocks_valid c net valid can;
      ascending = parts.ascending;
    })
