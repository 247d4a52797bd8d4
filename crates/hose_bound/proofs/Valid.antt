-- What a valid hose certificate and a routing have, as the verdict takes them.
use Rattle.std.proofs.Common.{◌≡◌, ℕ, suc, ◌+◌, ◌-◌, ◌*◌, ◌^◌, ◌<◌, ◌≤◌, ◌==◌, true, false, ◌&&◌, None, List, length, arith, refl, inl, inr, subst, nat_le, nat_lt}
use Rattle.std.specs.List.{list_all}
use Rattle.std.specs.Prelude.{All, IsTrue, slice_index}
use Rattle.std.proofs.lemmas.Bool.{and_from, cases_lt, eq-eqb, ltb-true, le-leb, leb-true, eqb-true, lt-ltb}
use Rattle.std.proofs.lemmas.Bool.Decides.{nat_tests}
use Rattle.std.proofs.lemmas.List.{get_or_default}
use Rattle.std.proofs.lemmas.List.Elements.{All-get_or}
use Rattle.te_model.specs.declared.network.Network.{Network}
use Rattle.te_model.specs.declared.route.PairRoutes.{PairRoutes}
use Rattle.te_model.specs.declared.units.TheConstants.{SHARE_UNIT}
use Rattle.te_model.specs.declared.limits.TheConstants.{FORMAT_2}
use Rattle.te_model.specs.Network.{node_count, link_count}
use Rattle.te_model.specs.Path.{is_path, no_routes, routes_at, share}
use Rattle.te_model.specs.PathRouting.{IsPathSplit, IsPathRouting}
use Rattle.te_model.specs.Shape.{is_row_of, are_words}
use Rattle.te_model.specs.Validity.{rule_fault, fault_at, follows, paths_ascend}
use Rattle.te_model.proofs.Tests.{and_true, or_else_none, first_failing_none_at, list_all_at, get_or_past, all_to_tests}
use Rattle.te_model.proofs.ValidHeads.{row_length}
use Rattle.routing.specs.Split.{are_splits, is_split, total_weight}
use Rattle.routing.proofs.Splits.{weight_on-le}
use Rattle.ratio_checker.specs.Ascending.{AscendsFrom}
use Rattle.ratio_checker.proofs.Ascending.{ascends_from_steps}
use Rattle.ratio_checker.specs.Checked.{IsSimplePath}
use Rattle.ratio_checker.proofs.SimplePaths.{simple_paths}
use Rattle.hose_bound.specs.declared.hose.Hose.{Hose}
use Rattle.hose_bound.specs.declared.hose.HoseCert.{HoseCert}
use Rattle.hose_bound.specs.Files.{is_shaped_hose}
use Rattle.hose_bound.specs.Judging.{AreSmallAmounts, IsSmallBlock}
use Rattle.hose_bound.specs.Rules.{zero_hose_block, hose_block_at, is_small_amount, has_bound, link_before_block, has_link_in_order, are_millionths, has_millionths, hose_cert_fault, IsValidHose, IsValidHoseCert}

-- each rule holds at each place
pub record RulesHold (net : Network) (c : HoseCert) : Type 0 where
  pub amounts : (k : ℕ) → k < 2 * node_count net → is_small_amount (node_count net) c.hose k ≡ true
  pub bound : has_bound c ≡ true
  pub links : (k : ℕ) → k < length c.blocks → has_link_in_order net c.blocks k ≡ true
  pub numbers : (k : ℕ) → k < length c.blocks → has_millionths c.blocks k ≡ true

pub rules_hold : (net : Network) (c : HoseCert) → hose_cert_fault net c ≡ None → RulesHold net c
rules_hold net c none =
    let one = or_else_none (rule_fault 1 (2 * node_count net) (is_small_amount (node_count net) c.hose)) _ none in
    let two = or_else_none (rule_fault 2 1 (λ _. has_bound c)) _ one.1 in
    let three = or_else_none (rule_fault 3 (length c.blocks) (has_link_in_order net c.blocks)) _ two.1 in
    let four = or_else_none (rule_fault 4 (length c.blocks) (has_millionths c.blocks)) _ three.1 in
    record {
      amounts = λ k below. first_failing_none_at (2 * node_count net) (is_small_amount (node_count net) c.hose) (fault_at 1) k one.0 below;
      bound = first_failing_none_at 1 (λ _. has_bound c) (fault_at 2) 0 two.0 (omega arith);
      links = λ k below. first_failing_none_at (length c.blocks) (has_link_in_order net c.blocks) (fault_at 3) k three.0 below;
      numbers = λ k below. first_failing_none_at (length c.blocks) (has_millionths c.blocks) (fault_at 4) k four.0 below;
    }

-- a number of a list of millionths, also past its end
millionth_at : (numbers : List ℕ) (i : ℕ) → are_millionths numbers ≡ true → slice_index numbers i ≤ SHARE_UNIT
millionth_at numbers i all = leb-true _ _ (list_all_at (λ x. nat_le x SHARE_UNIT) numbers i 0 all refl)

pub small_blocks : (net : Network) (c : HoseCert) → IsValidHoseCert net c → All IsSmallBlock c.blocks
small_blocks net c valid =
    let rules = rules_hold net c valid.no_fault in
    λ k d below.
    let at = get_or_default c.blocks k (zero_hose_block 0) d below in
    let both = and_true (are_millionths (hose_block_at c.blocks k).tails) (are_millionths (hose_block_at c.blocks k).heads) (rules.numbers k below) in
    subst IsSmallBlock at (record {
      tails = λ i. millionth_at (hose_block_at c.blocks k).tails i both.0;
      heads = λ i. millionth_at (hose_block_at c.blocks k).heads i both.1;
    })

pub blocks_in_order : (net : Network) (c : HoseCert) → IsValidHoseCert net c → AscendsFrom (λ b. b.link) 0 c.blocks
blocks_in_order net c valid =
    let rules = rules_hold net c valid.no_fault in
    ascends_from_steps (λ b. b.link) 0 c.blocks (zero_hose_block 0) (λ some. omega arith)
    (λ k below. ltb-true _ _ (and_true _ (follows (link_before_block c.blocks (suc k)) (hose_block_at c.blocks (suc k)).link) (rules.links (suc k) below)).1)

past_is_small : (numbers : List ℕ) (i : ℕ) → length numbers ≤ i → slice_index numbers i ≤ 2 ^ 32
past_is_small numbers i past = let none = get_or_past numbers i 0 past in omega (arith, none)

amount_of : (n : ℕ) (h : Hose) (i : ℕ) → ((k : ℕ) → k < 2 * n → is_small_amount n h k ≡ true) → i < n →
    (slice_index h.sent i ≤ 2 ^ 32) × (slice_index h.received i ≤ 2 ^ 32)
amount_of n h i each below =
    (leb-true _ _ (rw (lt-ltb i n below) at (each i (omega (arith, below)))), received)
  where
    later : nat_lt (n + i) n ≡ false
    later = grind (arith, nat_tests)

    place : (n + i) - n ≡ i
    place = omega arith

    received : slice_index h.received i ≤ 2 ^ 32
    received = leb-true _ _ (rw (later, place) at (each (n + i) (omega (arith, below))))

pub small_amounts : (n : ℕ) (h : Hose) → is_shaped_hose n h ≡ true → ((k : ℕ) → k < 2 * n → is_small_amount n h k ≡ true) → AreSmallAmounts h
small_amounts n h shaped each =
    let both = and_true (is_row_of n h.sent) (is_row_of n h.received) shaped in record {
      sent = λ i. elim (cases_lt i n) [
        | inl lt ↦ (amount_of n h i each lt).0
        | inr ge ↦ past_is_small h.sent i (omega (arith, row_length n h.sent both.0, ge))
      ];
      received = λ i. elim (cases_lt i n) [
        | inl lt ↦ (amount_of n h i each lt).1
        | inr ge ↦ past_is_small h.received i (omega (arith, row_length n h.received both.1, ge))
      ];
    }

pub valid_amounts : (net : Network) (c : HoseCert) → IsValidHoseCert net c → AreSmallAmounts c.hose
valid_amounts net c valid = small_amounts (node_count net) c.hose valid.shaped.hose (rules_hold net c valid.no_fault).amounts

-- ---- and of a path routing

split_at : (net : Network) (routes : List PairRoutes) → IsPathRouting net routes → (p : ℕ) → p < length routes → IsPathSplit net (routes_at routes p)
split_at net routes routing p below = All-get_or (IsPathSplit net) routes p no_routes below routing

pub simple_of : (net : Network) (routes : List PairRoutes) → link_count net ≤ FORMAT_2.links → IsPathRouting net routes → (p : ℕ) → p < length routes →
    All IsSimplePath (routes_at routes p).paths
simple_of net routes few routing p below =
    let split = split_at net routes routing p below in
    let r = routes_at routes p in
    simple_paths net r.pair.src r.pair.dst r.paths few
    (all_to_tests (λ s. is_path net r.pair.src r.pair.dst s.links) (λ s. IsTrue (is_path net r.pair.src r.pair.dst s.links)) (λ s is. is) r.paths split.paths)

pub whole_of : (net : Network) (routes : List PairRoutes) → IsPathRouting net routes → (p : ℕ) → p < length routes →
    total_weight (routes_at routes p).paths ≤ SHARE_UNIT
whole_of net routes routing p below = let whole = (split_at net routes routing p below).whole in omega (arith, whole)

pub small_share : (net : Network) (routes : List PairRoutes) → IsPathRouting net routes → (e p : ℕ) → p < length routes → share routes p e ≤ SHARE_UNIT
small_share net routes routing e p below = omega (arith, whole_of net routes routing p below, weight_on-le (routes_at routes p).paths e)

-- ---- and a valid hose

pub hose_amounts : (n : ℕ) (h : Hose) → IsValidHose n h → AreSmallAmounts h
hose_amounts n h valid =
    let one = or_else_none (rule_fault 1 (2 * n) (is_small_amount n h)) _ valid.no_fault in
    small_amounts n h valid.shaped (λ k below. first_failing_none_at (2 * n) (is_small_amount n h) (fault_at 1) k one.0 below)

-- one amount of each kind for each node
pub hose_counts : (n : ℕ) (h : Hose) → IsValidHose n h → (length h.sent ≡ n) × (length h.received ≡ n)
hose_counts n h valid =
    let both = and_true (is_row_of n h.sent) (is_row_of n h.received) valid.shaped in
    (row_length n h.sent both.0, row_length n h.received both.1)
