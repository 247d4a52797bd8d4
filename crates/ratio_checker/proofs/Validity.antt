-- A valid certificate has what the check takes for granted.
use Rattle.std.proofs.Common.{◌≡◌, ℕ, zero, suc, ◌+◌, ◌<◌, ◌≤◌, true, ◌&&◌, List, [], ◌∷◌, length, get_or, arith, refl, ap, inl, inr, nat_lt}
use Rattle.std.specs.Prelude.{All}
use Rattle.std.specs.List.{list_all}
use Rattle.std.proofs.lemmas.Bool.{cases_lt, ltb-true}
use Rattle.std.proofs.lemmas.List.Sums.{AllPass-from_list_all}
use Rattle.std.proofs.lemmas.Bool.Decides.{nat_tests}
use Rattle.te_model.specs.declared.certificate.Row.{Row}
use Rattle.te_model.specs.declared.certificate.Block.{Block}
use Rattle.te_model.specs.declared.certificate.Head.{Head}
use Rattle.te_model.specs.declared.certificate.Certificate.{Certificate}
use Rattle.te_model.specs.Network.{node_count}
use Rattle.te_model.specs.Path.{routes_at, source_of, destination_of}
use Rattle.te_model.specs.Certificate.{empty_block}
use Rattle.te_model.specs.Validity.{IsValid, IsValidBlock, IsValidHead, is_small, rows_ascend, pair_below}
use Rattle.te_model.proofs.ValidHeads.{valid_without_blocks}
use Rattle.te_model.proofs.ValidParts.{valid_parts}
use Rattle.te_model.proofs.Tests.{and_true, list_all_weaker}
use Rattle.te_model.proofs.Valid.{rules_hold, valid_limits, block_small}
use Rattle.ratio_checker.specs.Ascending.{AscendsFrom}
use Rattle.ratio_checker.specs.Checked.{CanCheckHead, CanCheckBlock}
use Rattle.ratio_checker.proofs.Ascending.{ascends_from_steps}
use Rattle.ratio_checker.proofs.SimplePaths.{simple_paths}

-- a number that never falls from one place to the next never falls
never_falls : (n : ℕ) (f : ℕ → ℕ) → ((k : ℕ) → suc k < n → f k ≤ f (suc k)) → (p q : ℕ) → p ≤ q → q < n → f p ≤ f q
never_falls n f step p zero up below = let e : p ≡ 0 = omega arith in rw e (omega arith)
never_falls n f step p (suc q) up below =
    elim (cases_lt p (suc q)) [
      | inl lt ↦ let rest = never_falls n f step p q (omega arith) (omega arith) in let last = step q below in omega arith
      | inr ge ↦ let e : p ≡ suc q = omega arith in rw e (omega arith)
    ]

pub valid_head : (c : Certificate) → IsValid c → CanCheckHead c.head
valid_head c valid =
    let rules = rules_hold c valid.1 in
    record {
      limits = valid_limits c valid;
      pairs = never_falls (length c.head.routes) (source_of c.head.routes)
          (λ k below. let sound = rules.pairs (suc k) below in
          let order : pair_below c.head.routes k (suc k) ≡ true = grind (arith, nat_tests) in
          grind (arith, nat_tests));
      paths = λ p below. simple_paths c.head.network (source_of c.head.routes p) (destination_of c.head.routes p) (routes_at c.head.routes p).paths
          (valid_limits c valid).links (rules.paths p below);
    }

-- so is a valid head alone
pub head_of_valid : (head : Head) → IsValidHead head → CanCheckHead head
head_of_valid head valid = valid_head (record { head = head; blocks = [] }) (valid_without_blocks head valid)

rows_in_order : (rows : List Row) (low : ℕ) → rows_ascend rows ≡ true → ((r : Row) (rs : List Row) → rows ≡ r ∷ rs → low ≤ r.source) →
    AscendsFrom (λ r. r.source) low rows
rows_in_order [] low ascend first = tt
rows_in_order (r ∷ []) low ascend first = (first r [] refl, tt)
rows_in_order (r ∷ s ∷ rs) low ascend first =
    let both = and_true (nat_lt r.source s.source) (rows_ascend (s ∷ rs)) ascend in
    let less : r.source < s.source = ltb-true _ _ both.0 in (
      first r (s ∷ rs) refl,
      rows_in_order (s ∷ rs) (r.source + 1) both.1
          (λ t ts is. let same : s ≡ t = cc in let e : s.source ≡ t.source = ap (λ x. x.source) same in omega arith),
    )

pub valid_block : (head : Head) (b : Block) → IsValidBlock head b → CanCheckBlock head b
valid_block head b valid =
    let n = node_count head.network in
    let numbers = valid.numbers in
    let small = valid.small in
    let rows : list_all (λ r. nat_lt r.source n && list_all is_small r.potential) b.rows ≡ true = grind (arith, nat_tests) in
    let ascend : rows_ascend b.rows ≡ true = grind (arith, nat_tests) in
    let sources = AllPass-from_list_all (λ r. nat_lt r.source n) b.rows
    (list_all_weaker (λ r. nat_lt r.source n && list_all is_small r.potential) (λ r. nat_lt r.source n)
    (λ r e. (and_true (nat_lt r.source n) (list_all is_small r.potential) e).0) b.rows rows)
    in
    record {
      numbers = block_small head.network b numbers small;
      link = grind (arith, nat_tests);
      sources = λ j d within. ltb-true _ _ (sources j d within);
      ascends = rows_in_order b.rows 0 ascend (λ r rs is. omega arith);
    }

pub valid_blocks : (c : Certificate) → IsValid c → All (CanCheckBlock c.head) c.blocks
valid_blocks c valid =
    let parts = (valid_parts c).0 valid in
    λ k d below. valid_block c.head (get_or c.blocks k d) (parts.blocks k d below)

pub blocks_in_order : (c : Certificate) → IsValid c → AscendsFrom (λ b. b.link) 0 c.blocks
blocks_in_order c valid =
    let parts = (valid_parts c).0 valid in
    ascends_from_steps (λ b. b.link) 0 c.blocks (empty_block 0) (λ some. omega arith)
    (λ k below. ltb-true _ _ (parts.ascending (suc k) below))
