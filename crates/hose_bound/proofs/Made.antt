-- A made certificate: its blocks in the order of their links, and what they promise together.
use Rattle.std.proofs.Common.{◌≡◌, ◌⊎◌, ℕ, zero, suc, ◌+◌, ◌*◌, ◌^◌, ◌<◌, ◌≤◌, ◌==◌, true, Option, Some, None, List, [], ◌∷◌, ◌++◌, length, get_or, length-append, arith, refl, ap, sym, ◌∙◌, subst, inl, inr, nat_le, nat_lt}
use Rattle.std.specs.Prelude.{All, Any, IsTrue, find, unwrap_or, slice_index}
use Rattle.std.proofs.lemmas.Bool.{cases_lt, le-leb, leb-true, lt-ltb, and_from}
use Rattle.std.proofs.lemmas.List.Elements.{All-nil, All-head, All-tail, All-get_or, All-push, All-weaker}
use Rattle.std.proofs.lemmas.List.{get_or_default}
use Rattle.std.proofs.lemmas.List.Quantifiers.{Any-push}
use Rattle.te_model.specs.declared.network.Network.{Network}
use Rattle.te_model.specs.declared.route.PairRoutes.{PairRoutes}
use Rattle.te_model.specs.declared.limits.TheConstants.{FORMAT_2}
use Rattle.te_model.specs.declared.units.TheConstants.{SHARE_UNIT}
use Rattle.te_model.specs.Counting.{or_else, unless}
use Rattle.te_model.specs.Network.{node_count, link_count}
use Rattle.te_model.specs.Path.{share, source_of, destination_of}
use Rattle.te_model.specs.Validity.{rule_fault, fault_at, follows}
use Rattle.te_model.proofs.Searches.{first_below_none}
use Rattle.ratio_checker.specs.Ascending.{AscendsFrom}
use Rattle.ratio_checker.proofs.Ascending.{ascends_next, find_own, find_stands}
use Rattle.best_blocks.specs.Sharing.{HasShare}
use Rattle.hose_bound.specs.declared.hose.Hose.{Hose}
use Rattle.hose_bound.specs.declared.hose.HoseBlock.{HoseBlock}
use Rattle.hose_bound.specs.declared.hose.HoseCert.{HoseCert}
use Rattle.hose_bound.specs.Files.{is_shaped_hose, is_shaped_hose_block}
use Rattle.hose_bound.specs.Making.{CoversTightly, IsMadeFor}
use Rattle.hose_bound.specs.Covering.{IsMadeBlock, IsLeastBound, AreMadeBlocks}
use Rattle.hose_bound.specs.Rules.{zero_hose_block, hose_block_at, is_small_amount, has_bound, link_before_block, has_link_in_order, are_millionths, has_millionths, hose_fault, hose_cert_fault, IsValidHose}
use Rattle.hose_bound.specs.Verdict.{hose_block_of, pays_numbers, HoldsOnLinks}
use Rattle.hose_bound.proofs.Absent.{zeros_pay}

-- ---- one link more

ascends_push : {X : Type 0} (number : X → ℕ) (low : ℕ) (xs : List X) (x : X) → AscendsFrom number low xs → low ≤ number x → All (λ y. number y < number x) xs →
    AscendsFrom number low (xs ++ x ∷ [])
ascends_push number low [] x ascends le all = (le, tt)
ascends_push number low (y ∷ ys) x ascends le all =
    let first = All-head (λ y. number y < number x) y ys all in
    (ascends.0, ascends_push number (number y + 1) ys x ascends.1 (omega (arith, first)) (All-tail (λ y. number y < number x) y ys all))

any_before : {X : Type 0} (P : X → Type 0) (xs : List X) (x : X) → (P x → ⊥) → Any P (xs ++ x ∷ []) → Any P xs
any_before P xs x not_last any = elim (any_split P xs x any) [
  | inl before ↦ before
  | inr last ↦ absurd (not_last last)
]
  where
    any_split : {X : Type 0} (P : X → Type 0) (xs : List X) (x : X) → Any P (xs ++ x ∷ []) → Any P xs ⊎ P x
    any_split P [] x (zero, y, below, at, is) = inr (subst P (sym at) is)
    any_split P [] x (suc k, y, below, at, is) = absurd (omega (arith, below))
    any_split P (z ∷ zs) x (zero, y, below, at, is) = inl (0, y, omega arith, at, is)
    any_split P (z ∷ zs) x (suc k, y, below, at, is) = elim (any_split P zs x (k, y, omega (arith, below), at, is)) [
      | inl before ↦ inl (suc before.0, before.1, let b = before.2 in omega (arith, b), before.3, before.4)
      | inr last ↦ inr last
    ]

any_later : {X : Type 0} (P : X → Type 0) (xs : List X) (x : X) → Any P xs → Any P (xs ++ x ∷ [])
any_later P [] x (k, y, below, at, is) = absurd (omega (arith, below))
any_later P (z ∷ zs) x (zero, y, below, at, is) = (0, y, omega arith, at, is)
any_later P (z ∷ zs) x (suc k, y, below, at, is) =
    let rest = any_later P zs x (k, y, omega (arith, below), at, is) in
    (suc rest.0, rest.1, let b = rest.2 in omega (arith, b), rest.3, rest.4)

any_none : {X : Type 0} (P : X → Type 0) → Any P [] → ⊥
any_none P (k, y, below, at, is) = omega (arith, below)

module _ (net : Network) (routes : List PairRoutes) (h : Hose) where
  pub no_blocks : AreMadeBlocks net routes h 0 []
  no_blocks = record {
    count = omega arith;
    ascending = tt;
    below = All-nil (λ b. b.link < 0);
    made = All-nil (IsMadeBlock net routes h);
    used = λ e below. absurd (omega (arith, below));
  }

  pub one_block_more : (n : ℕ) (blocks : List HoseBlock) (b : HoseBlock) → AreMadeBlocks net routes h n blocks → b.link ≡ n → IsMadeBlock net routes h b →
      HasShare routes n → AreMadeBlocks net routes h (n + 1) (blocks ++ b ∷ [])
  one_block_more n blocks b are link made used =
      let count = are.count in
      record {
        count = (let whole = length-append blocks (b ∷ []) in omega (arith, count, whole));
        ascending = ascends_push (λ b. b.link) 0 blocks b are.ascending (omega arith)
            (All-weaker (λ c. c.link < n) (λ c. c.link < b.link) (λ c below. omega (arith, below, link)) blocks are.below);
        below = All-push (λ c. c.link < n + 1) blocks b (All-weaker (λ c. c.link < n) (λ c. c.link < n + 1) (λ c below. omega (arith, below)) blocks are.below)
            (omega (arith, link));
        made = All-push (IsMadeBlock net routes h) blocks b are.made made;
        used = λ e below. elim (cases_lt e n) [
          | inl lt ↦ (
            λ any. (are.used e lt).0 (any_before (λ c. c.link ≡ e) blocks b (λ same. omega (arith, same, link, lt)) any),
            λ is. any_later (λ c. c.link ≡ e) blocks b ((are.used e lt).1 is),
          )
          | inr ge ↦
              let is : n ≡ e = omega (arith, ge, below) in
              (λ any. subst (HasShare routes) is used, λ u. Any-push (λ c. c.link ≡ e) blocks b (link ∙ is))
        ];
      }

  pub no_block_more : (n : ℕ) (blocks : List HoseBlock) → AreMadeBlocks net routes h n blocks → (HasShare routes n → ⊥) → AreMadeBlocks net routes h (n + 1) blocks
  no_block_more n blocks are unused =
      let count = are.count in
      record {
        count = omega (arith, count);
        ascending = are.ascending;
        below = All-weaker (λ c. c.link < n) (λ c. c.link < n + 1) (λ c below. omega (arith, below)) blocks are.below;
        made = are.made;
        used = λ e below. elim (cases_lt e n) [
          | inl lt ↦ are.used e lt
          | inr ge ↦
              let is : n ≡ e = omega (arith, ge, below) in (
                λ any. let (k, c, k_in, at, same) = any in
                    absurd (let lower = All-get_or (λ c. c.link < n) blocks k c k_in are.below in
                    let link : (get_or blocks k c).link ≡ e = ap (λ (x : HoseBlock). x.link) at ∙ same in omega (arith, lower, link, is)),
                λ u. absurd (unused (subst (HasShare routes) (sym is) u)),
              )
        ];
      }

  -- ---- all of them

  -- the block of a link that has one is among them
  found_or_none : (blocks : List HoseBlock) → AscendsFrom (λ b. b.link) 0 blocks → (e : ℕ) →
      (Any (λ b. b.link ≡ e) blocks × (k : ℕ) × (k < length blocks) × (get_or blocks k (zero_hose_block e) ≡ hose_block_of blocks e) × ((hose_block_of blocks e).link ≡ e))
      ⊎ ((Any (λ b. b.link ≡ e) blocks → ⊥) × (hose_block_of blocks e ≡ zero_hose_block e))
  found_or_none blocks ascends e = go (find (λ b. b.link == e) blocks) refl
    where
      any_at : (k : ℕ) → k < length blocks → (x : HoseBlock) → get_or blocks k (zero_hose_block e) ≡ x → get_or blocks k x ≡ x
      any_at k k_in x at = sym (get_or_default blocks k (zero_hose_block e) x k_in) ∙ at

      go : (o : Option HoseBlock) → find (λ b. b.link == e) blocks ≡ o →
          (Any (λ b. b.link ≡ e) blocks × (k : ℕ) × (k < length blocks) × (get_or blocks k (zero_hose_block e) ≡ hose_block_of blocks e) × ((hose_block_of blocks e).link ≡ e))
          ⊎ ((Any (λ b. b.link ≡ e) blocks → ⊥) × (hose_block_of blocks e ≡ zero_hose_block e))
      go (Some x) found =
          let stands = find_stands (λ b. b.link) e blocks (zero_hose_block e) x found in
          let is : hose_block_of blocks e ≡ x = ap (λ o. unwrap_or o (zero_hose_block e)) found in
          inl (
            (stands.0.place, x, stands.0.within, any_at stands.0.place stands.0.within x stands.0.is, stands.1),
            stands.0.place,
            stands.0.within,
            stands.0.is ∙ sym is,
            ap (λ (b : HoseBlock). b.link) is ∙ stands.1,
          )
      go None none = inr (
        λ any. let (k, c, k_in, at, same) = any in
            let own = find_own (λ b. b.link) 0 blocks k c ascends k_in in
            let link : (get_or blocks k c).link ≡ e = ap (λ (x : HoseBlock). x.link) at ∙ same in
            clash (sym none ∙ subst (λ j. find (λ b. b.link == j) blocks ≡ Some (get_or blocks k c)) link own),
        ap (λ o. unwrap_or o (zero_hose_block e)) none,
      )
        where
          clash : {x : HoseBlock} → None ≡ Some x → ⊥
          clash e' = cc

  all_hold : (c : HoseCert) → c.hose ≡ h → AreMadeBlocks net routes h (link_count net) c.blocks → IsLeastBound net h c.blocks c.bound → HoldsOnLinks net routes c
  all_hold c same are bound e below =
      let b = hose_block_of c.blocks e in
      elim (found_or_none c.blocks are.ascending e) [
        | inl found ↦
            let made : IsMadeBlock net routes h b = subst (IsMadeBlock net routes h) found.3 (All-get_or (IsMadeBlock net routes h) c.blocks found.1 (zero_hose_block e) found.2 are.made) in
            let pays : pays_numbers net h c.bound b.link b ≡ true =
            subst (λ (x : HoseBlock). pays_numbers net h c.bound x.link x ≡ true) found.3
            (All-get_or (λ (x : HoseBlock). IsTrue (pays_numbers net h c.bound x.link x)) c.blocks found.1 (zero_hose_block e) found.2 bound.pays) in
            record {
              covers = subst (λ k. (p : ℕ) → p < length routes → share routes p k ≤ slice_index b.tails (source_of routes p) + slice_index b.heads (destination_of routes p))
                  found.4 made.covers.covers;
              pays = leb-true _ _ (subst (λ (x : Hose). pays_numbers net x c.bound e b ≡ true) (sym same) (subst (λ k. pays_numbers net h c.bound k b ≡ true) found.4 pays));
            }
        | inr none ↦
            record {
              covers = λ p p_in. elim (cases_lt 0 (share routes p e)) [
                | inl some ↦ absurd (none.0 ((are.used e below).1 (p, p_in, some)))
                | inr zero' ↦ omega (arith, zero')
              ];
              pays = leb-true _ _ (subst (λ (x : HoseBlock). pays_numbers net c.hose c.bound e x ≡ true) (sym none.1) (zeros_pay net c.hose c.bound e));
            }
      ]

  millionths : (numbers : List ℕ) → ((i : ℕ) → slice_index numbers i ≤ SHARE_UNIT) → are_millionths numbers ≡ true
  millionths [] small = refl
  millionths (n ∷ ns) small = and_from (nat_le n SHARE_UNIT) (are_millionths ns) (le-leb _ _ (small 0)) (millionths ns (λ i. small (suc i)))

  in_order : (blocks : List HoseBlock) (k : ℕ) → AscendsFrom (λ b. b.link) 0 blocks → k < length blocks → follows (link_before_block blocks k) (hose_block_at blocks k).link ≡ true
  in_order blocks zero ascends below = refl
  in_order blocks (suc k) ascends below = lt-ltb _ _ (ascends_next (λ b. b.link) 0 blocks k (zero_hose_block 0) ascends below)

  all_rules : (c : HoseCert) → c.hose ≡ h → hose_fault (node_count net) h ≡ None → AreMadeBlocks net routes h (link_count net) c.blocks → c.bound < 2 ^ 60 →
      hose_cert_fault net c ≡ None
  all_rules c same rule are small =
      let amounts : rule_fault 1 (2 * node_count net) (is_small_amount (node_count net) c.hose) ≡ None =
      subst (λ (x : Hose). rule_fault 1 (2 * node_count net) (is_small_amount (node_count net) x) ≡ None) (sym same) (first_one _ rule) in
      let bound : rule_fault 2 1 (λ _. has_bound c) ≡ None = first_below_none 1 (λ k. unless (has_bound c) (fault_at 2 k))
      (λ k below. ap (λ t. unless t (fault_at 2 k)) (lt-ltb _ _ (omega (arith, small)))) in
      let links : rule_fault 3 (length c.blocks) (has_link_in_order net c.blocks) ≡ None =
      first_below_none (length c.blocks) (λ k. unless (has_link_in_order net c.blocks k) (fault_at 3 k))
      (λ k below. ap (λ t. unless t (fault_at 3 k))
      (and_from (nat_lt (hose_block_at c.blocks k).link (link_count net)) (follows (link_before_block c.blocks k) (hose_block_at c.blocks k).link)
      (lt-ltb _ _ (All-get_or (λ b. b.link < link_count net) c.blocks k (zero_hose_block 0) below are.below)) (in_order c.blocks k are.ascending below))) in
      let numbers : rule_fault 4 (length c.blocks) (has_millionths c.blocks) ≡ None =
      first_below_none (length c.blocks) (λ k. unless (has_millionths c.blocks k) (fault_at 4 k))
      (λ k below.
      let made = All-get_or (IsMadeBlock net routes h) c.blocks k (zero_hose_block 0) below are.made in
      ap (λ t. unless t (fault_at 4 k))
      (and_from (are_millionths (hose_block_at c.blocks k).tails) (are_millionths (hose_block_at c.blocks k).heads)
      (millionths (hose_block_at c.blocks k).tails made.tails) (millionths (hose_block_at c.blocks k).heads made.heads))) in
      rw (amounts, bound, links, numbers) refl
    where
      first_one : {A : Type 0} (x : Option A) → or_else x None ≡ None → x ≡ None
      first_one (Some x) e = cc
      first_one None e = refl

  pub made_for : (c : HoseCert) → c.hose ≡ h → IsValidHose (node_count net) h → link_count net ≤ FORMAT_2.links → AreMadeBlocks net routes h (link_count net) c.blocks → IsLeastBound net h c.blocks c.bound → c.bound < 2 ^ 60 →
      IsMadeFor net routes h c
  made_for c same valid few are bound small =
      let count = are.count in
      record {
        hose = same;
        valid = record {
          shaped = record {
            hose = subst (λ (x : Hose). is_shaped_hose (node_count net) x ≡ true) (sym same) valid.shaped;
            bound = lt-ltb _ _ (omega (arith, small));
            count = omega (arith, count, few);
            blocks = All-weaker (IsMadeBlock net routes h) (λ b. IsTrue (is_shaped_hose_block (node_count net) b)) (λ b made. made.shaped) c.blocks are.made;
          };
          no_fault = all_rules c same valid.no_fault are small;
        };
        holds = all_hold c same are bound;
        blocks = are.used;
        tight = All-weaker (IsMadeBlock net routes h) (CoversTightly net routes h) (λ b made. made.covers) c.blocks are.made;
        least = bound.least;
      }
