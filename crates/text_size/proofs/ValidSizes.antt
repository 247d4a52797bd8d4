-- The counts and numbers of a valid certificate are small, so its text is short.
use Rattle.std.proofs.Common.{◌≡◌, ℕ, ◌^◌, ◌<◌, ◌≤◌, Bool, true, false, ◌&&◌, cond, List, length, get_or, arith, ap, ◌∙◌, lit<, lit≤, nat_le, nat_lt, ◌==◌, slice_index}
use Rattle.std.specs.Prelude.{All}
use Rattle.std.specs.List.{list_all}
use Rattle.std.proofs.lemmas.Bool.{ltb-true, leb-true}
use Rattle.std.proofs.lemmas.Bool.Decides.{nat_tests}
use Rattle.std.proofs.lemmas.List.Elements.{All-weaker, All-from_get_or}
use Rattle.std.proofs.lemmas.List.Sums.{get_or-le-sum_by}
use Rattle.te_model.specs.declared.limits.Limits.{Limits}
use Rattle.te_model.specs.declared.limits.TheConstants.{FORMAT_1, FORMAT_2}
use Rattle.te_model.specs.declared.network.Network.{Network}
use Rattle.te_model.specs.declared.certificate.Row.{Row}
use Rattle.te_model.specs.declared.certificate.Block.{Block}
use Rattle.te_model.specs.declared.certificate.Head.{Head}
use Rattle.te_model.specs.declared.certificate.Certificate.{Certificate}
use Rattle.te_model.specs.declared.demand.DemandSet.{DemandSet}
use Rattle.te_model.specs.declared.demand.DemandSet.TheVariants.{All as AllMatrices, Margin, Box}
use Rattle.te_model.specs.Formats.{limits_of}
use Rattle.te_model.specs.Network.{node_count, link_count, no_link, is_name}
use Rattle.te_model.specs.Path.{is_path, routes_at, source_of, destination_of, no_routes}
use Rattle.te_model.specs.Shape.{is_shaped, is_shaped_path, is_shaped_pair, is_shaped_set, is_shaped_row, is_shaped_block, has_one_each}
use Rattle.te_model.specs.Validity.{has_margin_numbers, has_pair_bounds, is_small, has_block_numbers, has_small_numbers, IsValid}
use Rattle.te_model.proofs.ValidHeads.{block_link}
use Rattle.te_model.proofs.Tests.{and_true, all_from_tests}
use Rattle.te_model.proofs.Chains.{path_links}
use Rattle.te_model.proofs.FileLimits.{file_limits}
use Rattle.te_model.proofs.Valid.{rules_hold, valid_limits, block_small}
use Rattle.te_model.proofs.ValidParts.{valid_parts}
use Rattle.te_model.specs.FileLimit.{file_limit}
use Rattle.te_model.specs.Text.{text, Spells}
use Rattle.text_size.proofs.Widths.{digit_count, length-text}
use Rattle.text_size.proofs.LineSizes.{AreWords, IsShortLink, IsShortPair, IsShortNetwork, IsShortSet, IsShortRow, IsShortBlock, IsShort, link_size, network_size, path_size, pair_size, set_size, row_size, sides_size, block_size, head_size, certificate_size, certificate_lines-size}

-- what is small at each place is small in the list
listed_small : (bound : ℕ) (xs : List ℕ) → ((k : ℕ) → slice_index xs k ≤ bound) → All (λ x. x ≤ bound) xs
listed_small bound xs each = All-from_get_or (λ x. x ≤ bound) xs 0 (λ k below. each k)

short_network : (limits : Limits) (c : Certificate) → is_shaped limits c ≡ true → IsValid c → IsShortNetwork limits c.head.network
short_network limits c shape valid =
    let net = c.head.network in
    let kept = rules_hold c valid.1 in
    let names : list_all is_name c.head.network.names ≡ true = grind (arith, nat_tests) in
    let nodes : length c.head.network.names ≤ limits.nodes = grind (arith, nat_tests) in
    record {
      nodes = nodes;
      names = all_from_tests is_name (λ name. length name ≤ 32) (λ name is. grind (arith, nat_tests)) net.names names;
      count = grind (arith, nat_tests);
      links = All-from_get_or (IsShortLink limits) net.links no_link (λ h below. let sound = kept.links h below in record {
        tail = grind (arith, nat_tests);
        head = grind (arith, nat_tests);
        capacity = grind (arith, nat_tests);
        cost = grind (arith, nat_tests);
      });
    }

short_pair : (limits : Limits) (c : Certificate) → is_shaped limits c ≡ true → IsValid c → (p : ℕ) → p < length c.head.routes → IsShortPair limits (routes_at c.head.routes p)
short_pair limits c shape valid p below =
    let net = c.head.network in
    let r = routes_at c.head.routes p in
    let small = valid_limits c valid in
    let nodes : node_count c.head.network ≤ limits.nodes = grind (arith, nat_tests) in
    let few : link_count c.head.network ≤ limits.links = grind (arith, nat_tests) in
    let pair = (rules_hold c valid.1).pairs p below in
    let all_shaped : list_all (is_shaped_pair limits) c.head.routes ≡ true = grind (arith, nat_tests) in
    let shaped = all_from_tests (is_shaped_pair limits) (λ q. is_shaped_pair limits q ≡ true) (λ q e. e) c.head.routes all_shaped p no_routes below in
    let paths_shaped : list_all (is_shaped_path limits) (routes_at c.head.routes p).paths ≡ true = grind (arith, nat_tests) in
    let shapes = all_from_tests (is_shaped_path limits) (λ s. length s.links ≤ limits.hops) (λ s e. grind (arith, nat_tests)) r.paths paths_shaped in
    let links = all_from_tests (λ s. is_path net (source_of c.head.routes p) (destination_of c.head.routes p) s.links) (λ s. All (λ h. h ≤ limits.links) s.links)
    (λ s path. All-weaker (λ h. h < link_count net) (λ h. h ≤ limits.links) (λ h below. omega arith) s.links
    (path_links net (source_of c.head.routes p) (destination_of c.head.routes p) s.links path)) r.paths ((rules_hold c valid.1).paths p below)
    in
    record {
      src = grind (arith, nat_tests);
      dst = grind (arith, nat_tests);
      count = grind (arith, nat_tests);
      paths = λ k d within. record {
        weight = omega (arith, get_or-le-sum_by (λ s. s.weight) r.paths k d within, small.shares p);
        hops = shapes k d within;
        links = links k d within;
      };
    }

short_set : (limits : Limits) (pairs : ℕ) (set : DemandSet) → pairs ≤ limits.pairs → is_shaped_set limits pairs set ≡ true → has_margin_numbers set ≡ true →
    ((p : ℕ) → p < pairs → has_pair_bounds set p ≡ true) → IsShortSet limits set
short_set limits pairs AllMatrices few shaped numbers each = tt
short_set limits pairs (Margin num den base) few shaped numbers each =
    let count : length base.demand ≡ pairs = grind (arith, nat_tests) in (
      grind (arith, nat_tests),
      grind (arith, nat_tests),
      record {
        count = omega arith;
        small = All-from_get_or (λ x. x ≤ 2 ^ 32) base.demand 0 (λ k below. leb-true (slice_index base.demand k) (2 ^ 32) (each k (omega arith)));
      },
    )
short_set limits pairs (Box lower upper) few shaped numbers each =
    let low : length lower.demand ≡ pairs = grind (arith, nat_tests) in
    let high : length upper.demand ≡ pairs = grind (arith, nat_tests) in
    let bounds : (p : ℕ) → p < pairs → (slice_index lower.demand p ≤ slice_index upper.demand p) × (slice_index upper.demand p ≤ 2 ^ 52) =
    λ p below.
    let both = and_true (nat_le (slice_index lower.demand p) (slice_index upper.demand p)) (nat_le (slice_index upper.demand p) (2 ^ 52)) (each p below) in
    (leb-true _ _ both.0, leb-true _ _ both.1)
    in (
      record { count = omega arith; small = All-from_get_or (λ x. x ≤ 2 ^ 52) lower.demand 0 (λ k below. let b = bounds k (omega arith) in omega (arith, b.0, b.1)) },
      record { count = omega arith; small = All-from_get_or (λ x. x ≤ 2 ^ 52) upper.demand 0 (λ k below. (bounds k (omega arith)).1) },
    )

short_rows : (limits : Limits) (nodes : ℕ) (rows : List Row) → nodes ≤ limits.nodes → list_all (is_shaped_row nodes) rows ≡ true →
    list_all (λ r. nat_lt r.source nodes && list_all is_small r.potential) rows ≡ true → All (IsShortRow limits) rows
short_rows limits nodes rows few shaped small =
    let shapes = all_from_tests (is_shaped_row nodes) (λ r. length r.potential ≡ nodes) (λ r e. grind (arith, nat_tests)) rows shaped in
    let smalls = all_from_tests (λ r. nat_lt r.source nodes && list_all is_small r.potential)
    (λ r. (nat_lt r.source nodes ≡ true) × (list_all is_small r.potential ≡ true))
    (λ r e. and_true (nat_lt r.source nodes) (list_all is_small r.potential) e) rows small
    in
    λ k d within. record {
      source = omega (arith, ltb-true _ _ (smalls k d within).0);
      potential = record {
        count = omega (arith, shapes k d within);
        small = all_from_tests is_small (λ x. x ≤ 2 ^ 36) (λ x e. grind (arith, nat_tests)) (get_or rows k d).potential (smalls k d within).1;
      };
    }

-- plus and minus have a number for each pair, or none
each_few : (set : DemandSet) (pairs most : ℕ) (xs : List ℕ) → pairs ≤ most → has_one_each set pairs xs ≡ true → length xs ≤ most
each_few AllMatrices pairs most xs few each = grind (arith, nat_tests)
each_few (Margin num den base) pairs most xs few each = grind (arith, nat_tests)
each_few (Box lower upper) pairs most xs few each = grind (arith, nat_tests)

-- what the shape of a block says of its lists
record ShapedBlock (limits : Limits) (h : Head) (block : Block) : Type 0 where
  pub weights : length block.weights ≡ link_count h.network
  pub count : length block.rows ≤ limits.nodes
  pub rows : list_all (is_shaped_row (node_count h.network)) block.rows ≡ true
  pub plus : has_one_each h.set (length h.routes) block.plus ≡ true
  pub minus : has_one_each h.set (length h.routes) block.minus ≡ true

shaped_block : (limits : Limits) (h : Head) (b : Block) → is_shaped_block limits h b ≡ true → ShapedBlock limits h b
shaped_block limits h b shaped = record {
  weights = grind (arith, nat_tests);
  count = grind (arith, nat_tests);
  rows = grind (arith, nat_tests);
  plus = grind (arith, nat_tests);
  minus = grind (arith, nat_tests);
}

small_rows : (net : Network) (b : Block) → has_small_numbers net b ≡ true →
    list_all (λ r. nat_lt r.source (node_count net) && list_all is_small r.potential) b.rows ≡ true
small_rows net b small = grind (arith, nat_tests)

short_block : (limits : Limits) (h : Head) → node_count h.network ≤ limits.nodes → link_count h.network ≤ limits.links → length h.routes ≤ limits.pairs →
    (b : Block) → is_shaped_block limits h b ≡ true → has_block_numbers h.network b ≡ true → has_small_numbers h.network b ≡ true → IsShortBlock limits b
short_block limits h nodes links pairs b is_shape numbers small =
    let net = h.network in
    let shaped = shaped_block limits h b is_shape in
    let bounds = block_small net b numbers small in
    record {
      link = omega (arith, links, block_link net b numbers);
      a = bounds.a;
      b = bounds.b.1;
      weights = record { count = omega (arith, links, shaped.weights); small = listed_small (2 ^ 28) b.weights bounds.weights };
      count = shaped.count;
      rows = short_rows limits (node_count net) b.rows nodes shaped.rows (small_rows net b small);
      plus = record { count = each_few h.set (length h.routes) limits.pairs b.plus pairs shaped.plus; small = listed_small (2 ^ 36) b.plus bounds.plus };
      minus = record { count = each_few h.set (length h.routes) limits.pairs b.minus pairs shaped.minus; small = listed_small (2 ^ 36) b.minus bounds.minus };
    }

-- what the shape of a certificate says of its parts
record ShapedParts (limits : Limits) (c : Certificate) : Type 0 where
  pub format : c.head.format ≡ limits.format
  pub nodes : node_count c.head.network ≤ limits.nodes
  pub links : link_count c.head.network ≤ limits.links
  pub pairs : length c.head.routes ≤ limits.pairs
  pub set : is_shaped_set limits (length c.head.routes) c.head.set ≡ true
  pub ratio : c.head.ratio < 2 ^ 64
  pub count : length c.blocks ≤ limits.links
  pub blocks : list_all (is_shaped_block limits c.head) c.blocks ≡ true

shaped_parts : (limits : Limits) (c : Certificate) → is_shaped limits c ≡ true → ShapedParts limits c
shaped_parts limits c shape = record {
  format = grind (arith, nat_tests);
  nodes = grind (arith, nat_tests);
  links = grind (arith, nat_tests);
  pairs = grind (arith, nat_tests);
  set = grind (arith, nat_tests);
  ratio = grind (arith, nat_tests);
  count = grind (arith, nat_tests);
  blocks = grind (arith, nat_tests);
}

valid_short : (limits : Limits) (c : Certificate) → is_shaped limits c ≡ true → IsValid c → IsShort limits c
valid_short limits c shape valid =
    let kept = rules_hold c valid.1 in
    let parts = (valid_parts c).0 valid in
    let shaped = shaped_parts limits c shape in
    let blocks = all_from_tests (is_shaped_block limits c.head) (λ b. is_shaped_block limits c.head b ≡ true) (λ b e. e) c.blocks shaped.blocks in
    record {
      head = record {
        format = omega (arith, shaped.format);
        network = short_network limits c shape valid;
        count = shaped.pairs;
        routes = All-from_get_or (IsShortPair limits) c.head.routes no_routes (short_pair limits c shape valid);
        set = short_set limits (length c.head.routes) c.head.set shaped.pairs shaped.set kept.margin kept.base;
        ratio = shaped.ratio;
      };
      count = shaped.count;
      blocks = λ k d within.
          let valid_block = parts.blocks k d within in
          short_block limits c.head shaped.nodes shaped.links shaped.pairs (get_or c.blocks k d) (blocks k d within) valid_block.numbers valid_block.small;
    }

-- the text of a valid certificate of these limits, in bytes
text_within : (limits : Limits) → AreWords limits → (c : Certificate) → is_shaped limits c ≡ true → IsValid c → length (text c) ≤ certificate_size limits
text_within limits fit c shape valid = rw (length-text c) (certificate_lines-size limits fit c (valid_short limits c shape valid))

first_words : AreWords FORMAT_1
first_words = record { format = lit< tt; nodes = lit< tt; links = lit< tt; pairs = lit< tt; paths = lit< tt; hops = lit< tt }

second_words : AreWords FORMAT_2
second_words = record { format = lit< tt; nodes = lit< tt; links = lit< tt; pairs = lit< tt; paths = lit< tt; hops = lit< tt }

-- the text of a valid certificate, in bytes
pub valid_text : (c : Certificate) → IsValid c → length (text c) ≤ certificate_size (limits_of c.head.format)
valid_text c valid = either (c.head.format == 2) valid.0
  where
    either : (second : Bool) → is_shaped (cond second FORMAT_2 FORMAT_1) c ≡ true → length (text c) ≤ certificate_size (cond second FORMAT_2 FORMAT_1)
    either true shape = text_within FORMAT_2 second_words c shape valid
    either false shape = text_within FORMAT_1 first_words c shape valid

-- what the greatest sizes are
pub first_size : certificate_size FORMAT_1 < 112000000
unfolding digit_count certificate_size head_size block_size sides_size row_size set_size pair_size path_size network_size link_size
first_size = lit< tt

pub second_size : certificate_size FORMAT_2 < 950000000
unfolding digit_count certificate_size head_size block_size sides_size row_size set_size pair_size path_size network_size link_size
second_size = lit< tt

size_within : (format : ℕ) → certificate_size (limits_of format) ≤ (limits_of format).bytes
unfolding digit_count certificate_size head_size block_size sides_size row_size set_size pair_size path_size network_size link_size
size_within format = either (format == 2)
  where
    either : (second : Bool) → certificate_size (cond second FORMAT_2 FORMAT_1) ≤ (cond second FORMAT_2 FORMAT_1).bytes
    either true = lit≤ tt
    either false = lit≤ tt

-- a valid certificate fits a file of its format
pub fits_format : (c : Certificate) → IsValid c → length (text c) ≤ (limits_of c.head.format).bytes
fits_format c valid = omega (arith, valid_text c valid, size_within c.head.format)

-- what spells a valid certificate fits a file of its first line
pub fits_file : (bytes : List ℕ) (c : Certificate) → Spells bytes c → length bytes ≤ file_limit bytes
fits_file bytes c spelled =
    let limit : file_limit bytes ≡ (limits_of c.head.format).bytes = ap file_limit spelled.1 ∙ file_limits.of_text c spelled.0.0 in
    omega (arith, ap length spelled.1, fits_format c spelled.0, limit)
