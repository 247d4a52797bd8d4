-- A tightened certificate is valid, its inequalities hold, its blocks are polished, and it needs no more.
use Rattle.std.proofs.Common.{◌≡◌, ◌∙◌, ℕ, zero, suc, ◌^◌, ◌<◌, ◌≤◌, Some, List, length, ap, arith, inl, inr, refl, subst, sym}
use Rattle.std.specs.Prelude.{All, IsTrue}
use Rattle.std.proofs.lemmas.Bool.{lt-ltb}
use Rattle.std.proofs.lemmas.List.Elements.{All-from_get_or, All-get_or}
use Rattle.te_model.specs.declared.certificate.Block.{Block}
use Rattle.te_model.specs.declared.certificate.Certificate.{Certificate}
use Rattle.te_model.specs.declared.demand.DemandSet.{DemandSet}
use Rattle.te_model.specs.declared.network.Network.{Network}
use Rattle.te_model.specs.declared.route.PairRoutes.{PairRoutes}
use Rattle.te_model.specs.Certificate.{block_of, empty_block}
use Rattle.te_model.specs.Feasible.{AreFeasible, IsFeasible}
use Rattle.te_model.specs.Network.{link_count}
use Rattle.te_model.specs.Validity.{AscendByLink, IsValid, IsValidBlock, block_at, follows}
use Rattle.te_model.proofs.FeasibleBlocks.{holds_where_pays}
use Rattle.te_model.proofs.Quotients.{below_greatest, greatest_below-least}
use Rattle.te_model.proofs.ValidParts.{valid_parts}
use Rattle.ratio_checker.proofs.FormedHeads.{head_formed}
use Rattle.best_blocks.specs.Best.{IsBestBlock}
use Rattle.best_blocks.specs.Need.{HasNumbers, need_of}
use Rattle.best_blocks.specs.Sharing.{HasShare}
use Rattle.best_blocks.proofs.ValidNumbers.{certificate_numbers}
use Rattle.link_bounds.specs.Laws.{CanReprice}
use Rattle.link_bounds.specs.Repriced.{greatest_need}
use Rattle.link_bounds.proofs.RepricedHolds.{is_greatest_need, ratio_lowered, repriced_holds}
use Rattle.link_bounds.proofs.RepricedValid.{repriced_valid}
use Rattle.ratio_certificate.specs.Form.{made_format, made_set}
use Rattle.ratio_certificate.specs.Made.{IsMade}
use Rattle.ratio_certificate.specs.Polished.{IsWithinRounds}
use Rattle.ratio_certificate.specs.Rounds.{IsWeightRound}
use Rattle.ratio_certificate.proofs.CertificatesExist.{made_in_exists}
use Rattle.ratio_certificate.proofs.MadeForms.{format_for, set_within as made_set_within}
use Rattle.ratio_tightening.specs.Laws.{TightenedCertificatesExist, TightenedIsTighter, TightenedLowersRatio}
use Rattle.ratio_tightening.specs.Polishing.{AreReached, CanPolish, IsDone}
use Rattle.ratio_tightening.specs.Tightened.{AreWithinGiven, lesser_blocks, with_blocks, with_needed_ratio, IsTighter}
use Rattle.ratio_tightening.proofs.Given.{given_within, offers_good, offers_of}
use Rattle.ratio_tightening.proofs.FinerNumbers.{valid_count}
use Rattle.ratio_tightening.proofs.LesserNeeds.{ascending as lesser_ascending, complete, feasible_at, few, formed as network_formed, lesser_formed, lesser_valid, lowers, need_no_more, needs_small, rounds_kept, shared}
use Rattle.ratio_tightening.proofs.MadeOnHead.{same_links}
use Rattle.ratio_tightening.proofs.PolishedBlocks.{done_exist}
use Rattle.ratio_tightening.proofs.Reached.{any_same, both_at, HaveSameLinks}
use Rattle.ratio_tightening.proofs.SameSets.{set_same}
use Rattle.ratio_tightening.proofs.Steps.{feasible_step, reached_keeps, valid_step, IsFeasibleStill, IsValidStill}
use Rattle.ratio_tightening.proofs.ValidRoutings.{counts_of, routing_within, set_within}

-- steps can go on from each of the lesser blocks
pub can_polish : (c made : Certificate) → IsValid c → IsMade c.head.network c.head.routes c.head.set made →
    All (CanPolish c.head.network c.head.routes) (lesser_blocks c.head.network c.blocks made.blocks)
can_polish c made valid is k d below = record {
  share = shared c made valid is k d below;
  numbers = lesser_formed c made valid is k d below;
  count = valid_count c.head _ (lesser_valid c made valid is k d below);
}

-- steps under the certificate's own set, from its own blocks
pub reached_own : (net : Network) (routes : List PairRoutes) (wanted own : DemandSet) (given blocks made_blocks made list new : List Block) →
    wanted ≡ own → given ≡ blocks → made_blocks ≡ made → new ≡ list → AreReached net routes wanted (lesser_blocks net given made_blocks) list →
    AreReached net routes own (lesser_blocks net blocks made) new
reached_own net routes wanted own given blocks made_blocks made list new set_is given_is made_is new_is reached =
    subst (λ w. AreReached net routes w (lesser_blocks net blocks made) new) set_is
    (subst (λ g. AreReached net routes wanted (lesser_blocks net g made) new) given_is
    (subst (λ m. AreReached net routes wanted (lesser_blocks net given m) new) made_is
    (subst (AreReached net routes wanted (lesser_blocks net given made_blocks)) (sym new_is) reached)))

pub done_own : (net : Network) (routes : List PairRoutes) (wanted own : DemandSet) (list new : List Block) → wanted ≡ own → new ≡ list → IsDone net routes wanted list →
    IsDone net routes own new
done_own net routes wanted own list new set_is new_is done =
    subst (λ w. IsDone net routes w new) set_is (subst (IsDone net routes wanted) (sym new_is) done)

-- the certificate with a set and blocks
abbrev pub with_set : Certificate → DemandSet → List Block → Certificate
with_set c set blocks = record {
  head = record { format = c.head.format; network = c.head.network; routes = c.head.routes; set = set; ratio = c.head.ratio };
  blocks = blocks;
}

-- where the set and the network are the certificate's
pub due : (c : Certificate) (blocks : List Block) (P : Certificate → Network → Type 0) (set : DemandSet) (network : Network) → set ≡ c.head.set →
    network ≡ c.head.network → P (with_blocks c blocks) c.head.network → P (with_set c set blocks) network
due c blocks P set network same_set same_network holds =
    subst (λ n. P (with_set c set blocks) n) (sym same_network) (subst (λ s. P (with_set c s blocks) c.head.network) (sym same_set) holds)

module _ (c made : Certificate) (valid : IsValid c) (is : IsMade c.head.network c.head.routes c.head.set made) (blocks : List Block)
    (reached : AreReached c.head.network c.head.routes c.head.set (lesser_blocks c.head.network c.blocks made.blocks) blocks) where
  abbrev net : Network
  net = c.head.network

  abbrev start : List Block
  start = lesser_blocks c.head.network c.blocks made.blocks

  can_at : (k : ℕ) → k < length start → CanPolish net c.head.routes (block_at start k)
  can_at k below = All-get_or (CanPolish net c.head.routes) start k (empty_block 0) below (can_polish c made valid is)

  still_at : (k : ℕ) → k < length start → IsValidStill c.head (block_at start k).link (need_of net (block_at start k)) (block_at blocks k)
  still_at k below =
      let steps = reached.each k below in
      let e = (block_at start k).link in
      let top = need_of net (block_at start k) in
      reached_keeps net c.head.routes c.head.set (IsValidStill c.head e top)
      (valid_step c.head e top (network_formed c made valid is) (routing_within c valid) (counts_of c valid).few_nodes) steps.0 (block_at start k) (block_at blocks k)
      (record {
        polishable = record { can = can_at k below; link = refl; need = omega arith };
        valid = All-get_or (IsValidBlock c.head) start k (empty_block 0) below (lesser_valid c made valid is);
      })
      steps.1

  links_same : HaveSameLinks start blocks
  links_same k below = (still_at k below).polishable.link

  blocks_valid : All (IsValidBlock c.head) blocks
  blocks_valid = let count = reached.count in All-from_get_or (IsValidBlock c.head) blocks (empty_block 0) (λ k below. (still_at k (omega (arith, below, count))).valid)

  blocks_formed : All (HasNumbers net) blocks
  blocks_formed =
      let count = reached.count in
      All-from_get_or (HasNumbers net) blocks (empty_block 0) (λ k below. (still_at k (omega (arith, below, count))).polishable.can.numbers)

  ascending : AscendByLink blocks
  ascending zero below = refl
  ascending (suc k) below =
      let count = reached.count in
      let here : suc k < length start = omega (arith, below, count) in
      let order = lesser_ascending c made valid is (suc k) here in
      let one = links_same k (omega (arith, here)) in
      let two = links_same (suc k) here in
      subst (λ (e : ℕ). IsTrue (follows (Some (block_at blocks k).link) e)) (sym two)
      (subst (λ (e : ℕ). IsTrue (follows (Some e) (block_at start (suc k)).link)) (sym one) order)

  pub polished_valid : IsValid (with_blocks c blocks)
  polished_valid =
      (valid_parts (with_blocks c blocks)).1 (record {
        head = ((valid_parts c).0 valid).head;
        count = let count = reached.count in let most = few c made valid is in omega (arith, count, most);
        blocks = blocks_valid;
        ascending = ascending;
      })

  need_at_place : (k : ℕ) → k < length start → need_of net (block_at blocks k) ≤ need_of net (block_at start k)
  need_at_place k below = (still_at k below).polishable.need

  greatest_small : greatest_need net blocks < 10 ^ 19
  greatest_small =
      let count = reached.count in
      let most = greatest_below-least (length blocks) (λ k. need_of net (block_at blocks k)) 9999999999999999999 (λ k below.
      let inside : k < length start = omega (arith, below, count) in
      let less = need_at_place k inside in
      let small = needs_small c made valid is k inside in
      omega (arith, less, small))
      in
      omega (arith, most)

  pub can_reprice : CanReprice (with_blocks c blocks) net
  can_reprice = record {
    formed = network_formed c made valid is;
    same = same_links net net refl;
    small = lt-ltb (greatest_need net blocks) (10 ^ 19) greatest_small;
  }

  feasible_new : AreFeasible c → AreFeasible (with_blocks c blocks)
  feasible_new feasible e below = elim (both_at start blocks reached.count links_same e) [
    | inl (k, inside, old_is, new_is) ↦
        let steps = reached.each k inside in
        subst (IsFeasible c.head) (sym new_is)
        (reached_keeps net c.head.routes c.head.set (IsFeasibleStill c.head)
        (feasible_step c.head (network_formed c made valid is) (routing_within c valid) (set_within c valid)) steps.0 (block_at start k) (block_at blocks k)
        (record { can = can_at k inside; feasible = subst (IsFeasible c.head) old_is (feasible_at c made valid is feasible e below) }) steps.1).feasible
    | inr (old_none, new_none) ↦ subst (IsFeasible c.head) (sym new_none) (subst (IsFeasible c.head) old_none (feasible_at c made valid is feasible e below))
  ]

  no_more : AreFeasible c → (e : ℕ) → e < link_count net → need_of net (block_of blocks e) ≤ need_of net (block_of c.blocks e)
  no_more feasible e below =
      let given = need_no_more c made valid is feasible e below in
      elim (both_at start blocks reached.count links_same e) [
        | inl (k, inside, old_is, new_is) ↦
            let less = need_at_place k inside in
            let one = ap (need_of net) old_is in
            let two = ap (need_of net) new_is in
            omega (arith, given, less, one, two)
        | inr (old_none, new_none) ↦
            let one = ap (need_of net) old_none in
            let two = ap (need_of net) new_none in
            omega (arith, given, one, two)
      ]

  lower : AreFeasible c → greatest_need net blocks ≤ greatest_need net c.blocks
  lower feasible =
      let count = reached.count in
      let given = lowers c made valid is feasible in
      let least = greatest_below-least (length blocks) (λ k. need_of net (block_at blocks k)) (greatest_need net start) (λ k below.
      let inside : k < length start = omega (arith, below, count) in
      let less = need_at_place k inside in
      let most = below_greatest (length start) (λ j. need_of net (block_at start j)) k inside in
      omega (arith, less, most))
      in
      omega (arith, given, least)

  share_at : (k : ℕ) → k < length blocks → HasShare c.head.routes (block_at blocks k).link
  share_at k below = let count = reached.count in (still_at k (omega (arith, below, count))).polishable.can.share

  within_rounds : (old new : Block) → new.link ≡ old.link → need_of net new ≤ need_of net old → IsWithinRounds net c.head.routes c.head.set old →
      IsWithinRounds net c.head.routes c.head.set new
  within_rounds old new link less within k early weights round best is_best =
      let most = within k early weights (subst (λ e. IsWeightRound net c.head.routes e k weights) link round) best
      (subst (λ e. IsBestBlock net c.head.routes c.head.set e weights best) link is_best)
      in
      omega (arith, most, less)

  rounds : All (IsWithinRounds net c.head.routes c.head.set) blocks
  rounds =
      let count = reached.count in
      All-from_get_or (IsWithinRounds net c.head.routes c.head.set) blocks (empty_block 0) (λ k below.
      let inside : k < length start = omega (arith, below, count) in
      within_rounds (block_at start k) (block_at blocks k) (links_same k inside) (need_at_place k inside)
      (All-get_or (IsWithinRounds net c.head.routes c.head.set) start k (empty_block 0) inside (rounds_kept c made valid is)))

  pub polished_tighter : IsDone net c.head.routes c.head.set blocks → AreFeasible c → IsTighter c (with_needed_ratio c blocks)
  polished_tighter done feasible = record {
    head = refl;
    valid = repriced_valid (with_blocks c blocks) net polished_valid can_reprice;
    holds = repriced_holds (with_blocks c blocks) net polished_valid can_reprice (feasible_new feasible);
    shared = All-from_get_or (λ (b : Block). HasShare c.head.routes b.link) blocks (empty_block 0) share_at;
    blocks = λ e below some. any_same start blocks reached.count links_same e ∙ complete c made valid is e below some;
    no_more = no_more feasible;
    polished = record { rounds = rounds; fine = done.fine; settled = done.settled };
    ratio = is_greatest_need net blocks (network_formed c made valid is) blocks_formed;
    lower = lower feasible;
  }

pub tightened_is_tighter : TightenedIsTighter
tightened_is_tighter c new valid feasible is =
    subst (IsTighter c) (sym is.new_is) (polished_tighter c is.made valid is.made_is is.blocks is.reached is.done feasible)

pub tightened_lowers : TightenedLowersRatio
tightened_lowers c new valid holds is =
    let tighter = tightened_is_tighter c new valid ((holds_where_pays c).0 holds).0 is in
    let lower = tighter.lower in
    let most = ratio_lowered c valid holds in
    omega (arith, lower, most)

pub tightened_exist : TightenedCertificatesExist
tightened_exist c valid =
    let net = c.head.network in
    let formed = head_formed c.head ((valid_parts c).0 valid).head in
    let format = made_format net c.head.set in
    let offers = offers_of c.blocks in
    let some = made_in_exists format net c.head.routes (made_set net c.head.set) offers formed (counts_of c valid).some_links (routing_within c valid)
    (made_set_within (length c.head.routes) format c.head.set (set_within c valid)) (format_for net c.head.set formed) (offers_good net c.blocks (certificate_numbers c valid))
    in
    let within = given_within net c.head.routes (made_set net c.head.set) c.blocks some.0.blocks some.2 in
    let end = done_exist net c.head.routes c.head.set (lesser_blocks net c.blocks some.0.blocks) formed (routing_within c valid) (can_polish c some.0 valid some.1) in (
      with_needed_ratio c end.0,
      record {
        made = some.0;
        made_is = some.1;
        within = subst (λ s. AreWithinGiven net c.head.routes s c.blocks some.0.blocks) (set_same c valid) within;
        blocks = end.0;
        reached = end.1;
        done = end.2;
        new_is = refl;
      },
    )
