-- The blocks of a certificate that is made of the network, the routing and the set of a valid one, as blocks of that one.
use Rattle.std.proofs.Common.{◌≡◌, ◌∙◌, ℕ, ◌<◌, ◌≤◌, true, ◌&&◌, length, arith, get_or, nat_le, refl, subst, sym}
use Rattle.std.specs.Prelude.{All}
use Rattle.std.specs.List.{list_all}
use Rattle.std.proofs.lemmas.Bool.{and_from, and_parts, le-leb, leb-true}
use Rattle.te_model.specs.declared.certificate.Block.{Block}
use Rattle.te_model.specs.declared.certificate.Certificate.{Certificate}
use Rattle.te_model.specs.declared.certificate.Head.{Head}
use Rattle.te_model.specs.declared.limits.Limits.{Limits}
use Rattle.te_model.specs.declared.network.Network.{Network}
use Rattle.te_model.specs.Certificate.{block_of}
use Rattle.te_model.specs.Formats.{limits_of}
use Rattle.te_model.specs.Network.{link_count, node_count}
use Rattle.te_model.specs.Shape.{has_one_each, is_count, is_row_of, is_shaped_block, is_shaped_row, is_word}
use Rattle.te_model.specs.Validity.{IsValid, IsValidBlock}
use Rattle.te_model.proofs.ValidParts.{valid_parts}
use Rattle.te_model.specs.Feasible.{IsFeasible}
use Rattle.link_bounds.specs.SameLinks.{AreSameLinks}
use Rattle.te_model.proofs.FeasibleBlocks.{feasible_from_none, feasible_of, none_from_feasible}
use Rattle.link_bounds.proofs.RepricedValid.{block_on}
use Rattle.link_bounds.proofs.SameNetworks.{infeasibility_same}
use Rattle.ratio_certificate.specs.Form.{made_format}
use Rattle.ratio_certificate.specs.Made.{IsMade, IsMadeIn}
use Rattle.ratio_tightening.proofs.SameSets.{limits_wider, set_same}

-- with the certificate's own set
pub made_in : (c made : Certificate) → IsValid c → IsMade c.head.network c.head.routes c.head.set made →
    IsMadeIn (made_format c.head.network c.head.set) c.head.network c.head.routes c.head.set made
made_in c made valid is =
    subst (λ set. IsMadeIn (made_format c.head.network c.head.set) c.head.network c.head.routes set made) (set_same c valid) is

pub same_links : (a b : Network) → a ≡ b → AreSameLinks a b
same_links a b same = subst (AreSameLinks a) same (record { names = refl; count = refl; tails = λ h below. refl; heads = λ h below. refl })

-- what can be written under limits of fewer nodes can be
shape_wider : (narrow wide : Limits) (h : Head) (b : Block) → narrow.nodes ≤ wide.nodes → is_shaped_block narrow h b ≡ true → is_shaped_block wide h b ≡ true
shape_wider narrow wide h b less shaped =
    let m = link_count h.network in
    let three = is_word b.link && is_word b.a && is_word b.b in
    let weights = is_row_of m b.weights in
    let rows = list_all (is_shaped_row (node_count h.network)) b.rows in
    let plus = has_one_each h.set (length h.routes) b.plus in
    let minus = has_one_each h.set (length h.routes) b.minus in
    let count = is_count 0 narrow.nodes (length b.rows) in
    let last = and_parts (three && weights && count && rows && plus) minus shaped in
    let before = and_parts (three && weights && count && rows) plus last.0 in
    let at_rows = and_parts (three && weights && count) rows before.0 in
    let at_count = and_parts (three && weights) count at_rows.0 in
    let most = leb-true (length b.rows) narrow.nodes (and_parts (nat_le 0 (length b.rows)) (nat_le (length b.rows) narrow.nodes) at_count.1).1 in
    let counted : is_count 0 wide.nodes (length b.rows) ≡ true =
    and_from (nat_le 0 (length b.rows)) (nat_le (length b.rows) wide.nodes) (le-leb 0 (length b.rows) (omega arith)) (le-leb (length b.rows) wide.nodes (omega (arith, most, less)))
    in
    and_from (three && weights && is_count 0 wide.nodes (length b.rows) && rows && plus) minus
    (and_from (three && weights && is_count 0 wide.nodes (length b.rows) && rows) plus
    (and_from (three && weights && is_count 0 wide.nodes (length b.rows)) rows
    (and_from (three && weights) (is_count 0 wide.nodes (length b.rows)) at_count.0 counted) at_rows.1) before.1) last.1

-- the made head in another format
abbrev in_format : ℕ → Head → Head
in_format format h = record { format = format; network = h.network; routes = h.routes; set = h.set; ratio = h.ratio }

block_wider : (h : Head) (format : ℕ) (b : Block) → (limits_of h.format).nodes ≤ (limits_of format).nodes → IsValidBlock h b → IsValidBlock (in_format format h) b
block_wider h format b less valid = record {
  shaped = shape_wider (limits_of h.format) (limits_of format) h b less valid.shaped;
  numbers = valid.numbers;
  small = valid.small;
}

pub made_blocks_valid : (c made : Certificate) → IsValid c → IsMade c.head.network c.head.routes c.head.set made → All (IsValidBlock c.head) made.blocks
made_blocks_valid c made valid is =
    let own = made_in c made valid is in
    let parts = (valid_parts made).0 own.valid in
    let wider = (limits_wider c valid).nodes in
    let less : (limits_of made.head.format).nodes ≤ (limits_of c.head.format).nodes =
    subst (λ f. (limits_of f).nodes ≤ (limits_of c.head.format).nodes) (sym own.format_is) wider
    in
    λ k d below.
    block_on (in_format c.head.format made.head) c.head (same_links made.head.network c.head.network own.network) refl own.routes_are own.set_is (get_or made.blocks k d)
    (block_wider made.head c.head.format (get_or made.blocks k d) less (parts.blocks k d below))

-- what is feasible under the one head is feasible under the other
pub feasible_on : (x y : Head) (b : Block) → AreSameLinks x.network y.network → x.routes ≡ y.routes → x.set ≡ y.set → IsFeasible x b → IsFeasible y b
feasible_on x y b same routes set feasible = feasible_from_none y b (sym (infeasibility_same x y same routes set b) ∙ none_from_feasible x b feasible)

pub made_feasible : (c made : Certificate) → IsValid c → IsMade c.head.network c.head.routes c.head.set made → (e : ℕ) → e < link_count c.head.network →
    IsFeasible c.head (block_of made.blocks e)
made_feasible c made valid is e below =
    let own = made_in c made valid is in
    let same = same_links made.head.network c.head.network own.network in
    let inside : e < link_count made.head.network = omega (arith, below, same.count) in
    feasible_on made.head c.head (block_of made.blocks e) same own.routes_are own.set_is (feasible_of made.head (block_of made.blocks e) (own.holds e inside))
