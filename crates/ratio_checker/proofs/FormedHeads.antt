-- The network of a valid head is well formed.
use Rattle.std.proofs.Common.{◌≡◌, ◌≤◌, true, ◌&&◌, [], length, arith, nat_le, ◌==◌}
use Rattle.std.specs.List.{list_all}
use Rattle.std.proofs.lemmas.Bool.{and_parts, eqb-true, leb-true}
use Rattle.te_model.specs.declared.certificate.Certificate.{Certificate}
use Rattle.te_model.specs.declared.certificate.Head.{Head}
use Rattle.te_model.specs.declared.limits.Limits.{Limits}
use Rattle.te_model.specs.Formats.{limits_of}
use Rattle.te_model.specs.Laws.{LinksJoinNodes}
use Rattle.te_model.specs.Network.{is_name, is_new_name, is_well_formed, link_count, node_count}
use Rattle.te_model.specs.Shape.{is_count, is_shaped_head, is_shaped_link, is_shaped_network, is_shaped_pair, is_shaped_set, is_word}
use Rattle.te_model.specs.Validity.{IsValidHead, fault_at, faults_from, rules}
use Rattle.te_model.proofs.Tests.{first_failing_none_at, first_some_none_at}
use Rattle.te_model.proofs.Valid.{limits_small, rules_hold}
use Rattle.te_model.proofs.WellFormed.{links_join, well_formed_from}
use Rattle.te_model.proofs.ValidHeads.{valid_without_blocks}

-- what the shape of a head says of its counts, its pairs and its set
pub record HasShape (h : Head) (limits : Limits) : Type 0 where
  pub format : h.format ≡ limits.format
  pub network : is_shaped_network limits h.network ≡ true
  pub pairs : length h.routes ≤ limits.pairs
  pub routes : list_all (is_shaped_pair limits) h.routes ≡ true
  pub set : is_shaped_set limits (length h.routes) h.set ≡ true

pub shape_of : (h : Head) (limits : Limits) → is_shaped_head limits h ≡ true → HasShape h limits
shape_of h limits shaped =
    let a = h.format == limits.format in
    let b = is_shaped_network limits h.network in
    let c = is_count 0 limits.pairs (length h.routes) in
    let d = list_all (is_shaped_pair limits) h.routes in
    let e = is_shaped_set limits (length h.routes) h.set in
    let five = and_parts (a && b && c && d && e) (is_word h.ratio) shaped in
    let four = and_parts (a && b && c && d) e five.0 in
    let three = and_parts (a && b && c) d four.0 in
    let two = and_parts (a && b) c three.0 in
    let one = and_parts a b two.0 in
    let counts = and_parts (nat_le 0 (length h.routes)) (nat_le (length h.routes) limits.pairs) two.1 in
    record {
      format = eqb-true h.format limits.format one.0;
      network = one.1;
      pairs = leb-true (length h.routes) limits.pairs counts.1;
      routes = three.1;
      set = four.1;
    }

pub head_formed : (h : Head) → IsValidHead h → is_well_formed h.network ≡ true
head_formed h valid =
    let limits = limits_of h.format in
    let net = h.network in
    let n = node_count net in
    let m = link_count net in
    let cert : Certificate = record { head = h; blocks = [] } in
    let is = valid_without_blocks h valid in
    let kept = rules_hold cert is.1 in
    let wide = limits_small h.format in
    let shaped = (shape_of h limits valid.shaped).network in
    let nodes = is_count 2 limits.nodes n in
    let named = list_all is_name net.names in
    let links = is_count 1 limits.links m in
    let three = and_parts (nodes && named && links) (list_all is_shaped_link net.links) shaped in
    let two = and_parts (nodes && named) links three.0 in
    let one = and_parts nodes named two.0 in
    let low = and_parts (nat_le 2 n) (nat_le n limits.nodes) one.0 in
    let high = and_parts (nat_le 1 m) (nat_le m limits.links) two.1 in
    let few_nodes : n ≤ limits.nodes = leb-true n limits.nodes low.1 in
    let few_links : m ≤ limits.links = leb-true m limits.links high.1 in
    well_formed_from net (record {
      two_nodes = leb-true 2 n low.0;
      nodes = omega (arith, few_nodes, wide.0);
      links = omega (arith, few_links, wide.1);
      names = one.1;
      new_names = λ v below. first_failing_none_at n (is_new_name net) (fault_at 1) v (first_some_none_at (faults_from 1 (rules cert)) 0 is.1) below;
      sound_links = kept.links;
    })

pub head_links : (h : Head) → IsValidHead h → LinksJoinNodes h.network
head_links h valid = links_join h.network (head_formed h valid)
