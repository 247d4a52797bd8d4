-- The made blocks, or the given ones where these need less: they are valid and feasible, and need no more than the given ones.
use Rattle.std.proofs.Common.{◌≡◌, ◌∙◌, ℕ, zero, suc, ◌+◌, ◌*◌, ◌^◌, ◌<◌, ◌≤◌, true, Option, Some, None, List, [], length, ◌==◌, ap, arith, get_or, inl, inr, refl, subst, sym}
use Rattle.std.specs.Prelude.{All, IsTrue, find, unwrap_or}
use Rattle.std.specs.Option.{option_map}
use Rattle.std.proofs.lemmas.Bool.{leb-true, ltb-true}
use Rattle.std.proofs.lemmas.List.{get_or-map, length-map}
use Rattle.std.proofs.lemmas.List.Elements.{All-get_or, All-map, All-weaker}
use Rattle.te_model.specs.declared.certificate.Block.{Block}
use Rattle.te_model.specs.declared.certificate.Certificate.{Certificate}
use Rattle.te_model.specs.declared.certificate.Head.{Head}
use Rattle.te_model.specs.declared.network.Network.{Network}
use Rattle.te_model.specs.Certificate.{block_of, empty_block}
use Rattle.te_model.specs.Formats.{limits_of}
use Rattle.te_model.specs.Inequalities.{capacity_by}
use Rattle.te_model.specs.declared.units.TheConstants.{RATIO_UNIT, SHARE_UNIT}
use Rattle.te_model.specs.Network.{capacity_of, is_well_formed, link_count}
use Rattle.te_model.specs.Path.{share}
use Rattle.te_model.specs.Validity.{AscendByLink, IsValid, IsValidBlock, block_at, fault_at, faults_from, follows, has_ratio, rules, sound_at, with_first}
use Rattle.te_model.proofs.Quotients.{below_greatest, greatest_below-least, quotient_up-least}
use Rattle.te_model.proofs.Tests.{first_failing_none_at, first_some_none_at}
use Rattle.te_model.proofs.ValidParts.{valid_parts}
use Rattle.te_model.proofs.WellFormed.{capacities_positive}
use Rattle.ratio_checker.proofs.Ascending.{find_stands}
use Rattle.ratio_checker.proofs.MoreBlocks.{link_is_there}
use Rattle.best_blocks.specs.Best.{IsBestBlock}
use Rattle.best_blocks.specs.Need.{HasNumbers, need_of}
use Rattle.best_blocks.specs.Sharing.{HasShare}
use Rattle.te_model.specs.Feasible.{AreFeasible, IsFeasible}
use Rattle.link_bounds.specs.Repriced.{greatest_need}
use Rattle.ratio_checker.proofs.FormedHeads.{head_formed}
use Rattle.link_bounds.proofs.RepricedHolds.{greatest_need_once, is_greatest_need}
use Rattle.best_blocks.proofs.ValidNumbers.{block_numbers}
use Rattle.ratio_certificate.specs.Made.{HasBlock, IsMade, IsOwnBest}
use Rattle.ratio_certificate.specs.Rounds.{IsWeightRound}
use Rattle.ratio_certificate.specs.Polished.{IsWithinRounds}
use Rattle.ratio_tightening.specs.Tightened.{lesser_block, lesser_blocks}
use Rattle.ratio_tightening.proofs.LesserBlocks.{lesser_any, lesser_found, lesser_link, lesser_need, lesser_old, old_of, one_of}
use Rattle.ratio_tightening.proofs.MadeOnHead.{made_blocks_valid, made_feasible, made_in}
use Rattle.ratio_tightening.proofs.SameSets.{limits_wider}

-- a certificate spells its ratio
ratio_small : (c : Certificate) → IsValid c → c.head.ratio < 10 ^ 19
ratio_small c valid =
    ltb-true _ _ (first_failing_none_at (1 + length c.blocks) (with_first (has_ratio c.head) (sound_at c)) (fault_at 8) 0
    (first_some_none_at (faults_from 1 (rules c)) 7 valid.1) (omega arith))

-- a link with a share has a block of which the first two inequalities hold
shared_has_block : (head : Head) (e : ℕ) → IsFeasible head (empty_block e) → HasShare head.routes e → ⊥
shared_has_block head e feasible some =
    let covered = leb-true _ _ (feasible.covers some.0 some.1) in
    let positive : 0 < share head.routes some.0 e = some.2 in
    omega (arith, covered, positive)

-- a link without a block needs nothing
nothing_due : (net : Network) (e : ℕ) → is_well_formed net ≡ true → e < link_count net → need_of net (empty_block e) ≤ 0
nothing_due net e formed below =
    let some = capacities_positive net formed e below in
    quotient_up-least (0 * RATIO_UNIT * capacity_by net []) (1 * SHARE_UNIT * capacity_of net e) 0 (omega (arith, some)) (omega arith)

module _ (c made : Certificate) (valid : IsValid c) (is : IsMade c.head.network c.head.routes c.head.set made) where
  abbrev pub net : Network
  net = c.head.network

  -- the lesser block of each link
  abbrev pub lesser : Block → Block
  lesser = lesser_block net c.blocks

  abbrev pub lessers : List Block
  lessers = lesser_blocks net c.blocks made.blocks

  pub count_is : length lessers ≡ length made.blocks
  count_is = length-map made.blocks lesser

  pub at_place : (k : ℕ) → k < length made.blocks → block_at lessers k ≡ lesser (block_at made.blocks k)
  at_place k below = get_or-map lesser made.blocks k (empty_block 0) (empty_block 0) below

  pub made_formed : All (HasNumbers net) made.blocks
  made_formed = λ k d below. block_numbers c.head (get_or made.blocks k d) (made_blocks_valid c made valid is k d below)

  pub lesser_valid : All (IsValidBlock c.head) lessers
  lesser_valid = All-map (IsValidBlock c.head) lesser made.blocks (λ k d below. each (get_or made.blocks k d) (made_blocks_valid c made valid is k d below))
    where
      each : (m : Block) → IsValidBlock c.head m → IsValidBlock c.head (lesser m)
      each m own = elim (one_of net c.blocks m) [
        | inl same ↦ subst (IsValidBlock c.head) (sym same) own
        | inr found ↦
            let stands = (find_stands (λ (b : Block). b.link) m.link c.blocks (empty_block 0) (lesser m) found).0 in
            subst (IsValidBlock c.head) stands.is (All-get_or (IsValidBlock c.head) c.blocks stands.place (empty_block 0) stands.within ((valid_parts c).0 valid).blocks)
      ]

  pub ascending : AscendByLink lessers
  ascending zero below = refl
  ascending (suc k) below =
      let here : suc k < length made.blocks = omega (arith, below, count_is) in
      let before : k < length made.blocks = omega (arith, here) in
      let order = ((valid_parts made).0 (made_in c made valid is).valid).ascending (suc k) here in
      let one = ap (λ (b : Block). b.link) (at_place k before) ∙ lesser_link net c.blocks (block_at made.blocks k) in
      let two = ap (λ (b : Block). b.link) (at_place (suc k) here) ∙ lesser_link net c.blocks (block_at made.blocks (suc k)) in
      subst (λ (e : ℕ). IsTrue (follows (Some (block_at lessers k).link) e)) (sym two)
      (subst (λ (e : ℕ). IsTrue (follows (Some e) (block_at made.blocks (suc k)).link)) (sym one) order)

  -- no more than a file has room for
  pub few : length lessers ≤ (limits_of c.head.format).links
  few =
      let own = made_in c made valid is in
      let most = ((valid_parts made).0 own.valid).count in
      let wide = (limits_wider c valid).links in
      let small : length made.blocks ≤ (limits_of c.head.format).links =
      omega (arith, subst (λ f. length made.blocks ≤ (limits_of f).links) own.format_is most, wide)
      in
      omega (arith, small, count_is)

  pub formed : is_well_formed net ≡ true
  formed = head_formed c.head ((valid_parts c).0 valid).head

  pub lesser_formed : All (HasNumbers net) lessers
  lesser_formed = λ k d below. block_numbers c.head (get_or lessers k d) (lesser_valid k d below)

  -- no block needs more than a file can spell
  pub needs_small : (k : ℕ) → k < length lessers → need_of net (block_at lessers k) < 10 ^ 19
  needs_small k below =
      let own = made_in c made valid is in
      let same = greatest_need_once net made.blocks (greatest_need net made.blocks) made.head.ratio (is_greatest_need net made.blocks formed made_formed) own.ratio in
      let inside : k < length made.blocks = omega (arith, below, count_is) in
      let less = lesser_need net c.blocks (block_at made.blocks k) in
      let most = below_greatest (length made.blocks) (λ j. need_of net (block_at made.blocks j)) k inside in
      let at = ap (need_of net) (at_place k inside) in
      let spelled = ratio_small made own.valid in
      omega (arith, less, most, at, same, spelled)

  -- what is read for a link
  read_of : (e : ℕ) → block_of lessers e ≡ unwrap_or (option_map lesser (find (λ (b : Block). b.link == e) made.blocks)) (empty_block e)
  read_of e = ap (λ o. unwrap_or o (empty_block e)) (lesser_found net c.blocks e made.blocks)

  pub feasible_at : AreFeasible c → (e : ℕ) → e < link_count net → IsFeasible c.head (block_of lessers e)
  feasible_at feasible e below =
      subst (IsFeasible c.head) (sym (read_of e)) (by (find (λ (b : Block). b.link == e) made.blocks) refl)
    where
      own : (o : Option Block) → find (λ (b : Block). b.link == e) made.blocks ≡ o → IsFeasible c.head (unwrap_or o (empty_block e))
      own o found = subst (λ x. IsFeasible c.head (unwrap_or x (empty_block e))) found (made_feasible c made valid is e below)

      by : (o : Option Block) → find (λ (b : Block). b.link == e) made.blocks ≡ o → IsFeasible c.head (unwrap_or (option_map lesser o) (empty_block e))
      by None found = own None found
      by (Some m) found = elim (one_of net c.blocks m) [
        | inl same ↦ subst (IsFeasible c.head) (sym same) (own (Some m) found)
        | inr old ↦
            let link = (find_stands (λ (b : Block). b.link) e made.blocks (empty_block 0) m found).1 in
            let there : find (λ (b : Block). b.link == e) c.blocks ≡ Some (lesser m) = subst (λ l. find (λ (b : Block). b.link == l) c.blocks ≡ Some (lesser m)) link old in
            subst (λ o. IsFeasible c.head (unwrap_or o (empty_block e))) there (feasible e below)
      ]

  -- a made block is of a link with a share
  made_shared : (m : Block) (e : ℕ) → find (λ (b : Block). b.link == e) made.blocks ≡ Some m → HasShare c.head.routes e
  made_shared m e found =
      let stands = find_stands (λ (b : Block). b.link) e made.blocks (empty_block 0) m found in
      let best = All-get_or (IsOwnBest net c.head.routes c.head.set) made.blocks stands.0.place (empty_block 0) stands.0.within (made_in c made valid is).best in
      subst (HasShare c.head.routes) (ap (λ (b : Block). b.link) stands.0.is ∙ stands.1) best.0

  -- so the certificate has a block of it
  old_there : AreFeasible c → (m : Block) (e : ℕ) → e < link_count net → HasShare c.head.routes e → m.link ≡ e →
      need_of net (lesser m) ≤ need_of net (block_of c.blocks e)
  old_there feasible m e below some link = by (old_of net c.blocks e) refl
    where
      by : (o : Option Block) → old_of net c.blocks e ≡ o → need_of net (lesser m) ≤ need_of net (unwrap_or o (empty_block e))
      by None found = absurd (shared_has_block c.head e (subst (λ o. IsFeasible c.head (unwrap_or o (empty_block e))) found (feasible e below)) some)
      by (Some old) found = lesser_old net c.blocks m old (ap (λ l. old_of net c.blocks l) link ∙ found)

  pub need_no_more : AreFeasible c → (e : ℕ) → e < link_count net → need_of net (block_of lessers e) ≤ need_of net (block_of c.blocks e)
  need_no_more feasible e below =
      subst (λ b. need_of net b ≤ need_of net (block_of c.blocks e)) (sym (read_of e)) (by (find (λ (b : Block). b.link == e) made.blocks) refl)
    where
      by : (o : Option Block) → find (λ (b : Block). b.link == e) made.blocks ≡ o →
          need_of net (unwrap_or (option_map lesser o) (empty_block e)) ≤ need_of net (block_of c.blocks e)
      by None found = let none = nothing_due net e formed below in omega (arith, none)
      by (Some m) found =
          old_there feasible m e below (made_shared m e found) (find_stands (λ (b : Block). b.link) e made.blocks (empty_block 0) m found).1

  -- the greatest need is no greater than that of the given blocks
  pub lowers : AreFeasible c → greatest_need net lessers ≤ greatest_need net c.blocks
  lowers feasible =
      greatest_below-least (length lessers) (λ k. need_of net (block_at lessers k)) (greatest_need net c.blocks) (λ k below.
      let inside : k < length made.blocks = omega (arith, below, count_is) in
      let m = block_at made.blocks k in
      let at = ap (need_of net) (at_place k inside) in
      let most = of_block m (All-get_or (IsOwnBest net c.head.routes c.head.set) made.blocks k (empty_block 0) inside (made_in c made valid is).best)
      (inside_links m (All-get_or (IsValidBlock c.head) made.blocks k (empty_block 0) inside (made_blocks_valid c made valid is)))
      in
      omega (arith, most, at))
    where
      inside_links : (m : Block) → IsValidBlock c.head m → m.link < link_count net
      inside_links m own = link_is_there c.head m own

      of_block : (m : Block) → IsOwnBest net c.head.routes c.head.set m → m.link < link_count net → need_of net (lesser m) ≤ greatest_need net c.blocks
      of_block m best below = by (old_of net c.blocks m.link) refl
        where
          by : (o : Option Block) → old_of net c.blocks m.link ≡ o → need_of net (lesser m) ≤ greatest_need net c.blocks
          by None found = absurd (shared_has_block c.head m.link (subst (λ o. IsFeasible c.head (unwrap_or o (empty_block m.link))) found (feasible m.link below)) best.0)
          by (Some old) found =
              let stands = (find_stands (λ (b : Block). b.link) m.link c.blocks (empty_block 0) old found).0 in
              let less = lesser_old net c.blocks m old found in
              let most = below_greatest (length c.blocks) (λ j. need_of net (block_at c.blocks j)) stands.place stands.within in
              let at = ap (need_of net) stands.is in
              omega (arith, less, most, at)

  pub rounds_kept : All (IsWithinRounds net c.head.routes c.head.set) lessers
  rounds_kept =
      All-map (IsWithinRounds net c.head.routes c.head.set) lesser made.blocks
      (All-weaker (IsWithinRounds net c.head.routes c.head.set) (λ m. IsWithinRounds net c.head.routes c.head.set (lesser m)) each made.blocks (made_in c made valid is).polished.rounds)
    where
      each : (m : Block) → IsWithinRounds net c.head.routes c.head.set m → IsWithinRounds net c.head.routes c.head.set (lesser m)
      each m within k early weights round best is_best =
          let link = lesser_link net c.blocks m in
          let most = within k early weights (subst (λ e. IsWeightRound net c.head.routes e k weights) link round) best
          (subst (λ e. IsBestBlock net c.head.routes c.head.set e weights best) link is_best)
          in
          let less = lesser_need net c.blocks m in
          omega (arith, most, less)

  pub shared : All (λ (b : Block). HasShare c.head.routes b.link) lessers
  shared = All-map (λ (b : Block). HasShare c.head.routes b.link) lesser made.blocks
      (All-weaker (IsOwnBest net c.head.routes c.head.set) (λ m. HasShare c.head.routes (lesser m).link)
      (λ m best. subst (HasShare c.head.routes) (sym (lesser_link net c.blocks m)) best.0) made.blocks (made_in c made valid is).best)

  pub complete : (e : ℕ) → e < link_count net → HasShare c.head.routes e → HasBlock lessers e
  complete e below some = lesser_any net c.blocks e made.blocks ∙ (made_in c made valid is).blocks e below some
