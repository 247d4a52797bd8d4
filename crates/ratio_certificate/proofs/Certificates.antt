-- Certificates of best blocks are valid, and their inequalities hold.
use Rattle.std.proofs.Common.{◌≡◌, ℕ, ◌*◌, ◌^◌, ◌<◌, ◌≤◌, ◌⊎◌, Bool, true, false, ◌||◌, cond, List, [], ◌∷◌, Some, length, arith, refl, sym, subst, ◌∙◌, inl, inr, nat_le, ◌==◌, get_or}
use Rattle.std.specs.Prelude.{All, IsTrue, find, unwrap_or}
use Rattle.std.specs.List.{list_any}
use Rattle.std.proofs.lemmas.Bool.{cases_lt, eqb-true, le-leb}
use Rattle.std.proofs.lemmas.List.Elements.{All-head, All-tail, All-from_get_or}
use Rattle.te_model.specs.declared.network.Network.{Network}
use Rattle.te_model.specs.declared.route.PairRoutes.{PairRoutes}
use Rattle.te_model.specs.declared.certificate.Block.{Block}
use Rattle.te_model.specs.declared.certificate.Head.{Head}
use Rattle.te_model.specs.declared.certificate.Certificate.{Certificate}
use Rattle.te_model.specs.declared.demand.DemandSet.{DemandSet}
use Rattle.te_model.specs.declared.demand.DemandSet.TheVariants.{All as AllMatrices, Margin, Box}
use Rattle.te_model.specs.Formats.{limits_of}
use Rattle.te_model.specs.Network.{node_count, link_count, is_well_formed}
use Rattle.te_model.specs.Path.{share}
use Rattle.te_model.specs.Certificate.{block_of, empty_block}
use Rattle.te_model.specs.Inequalities.{keeps_bounds, pays_weights, weigh, BlockHolds, Holds}
use Rattle.te_model.specs.Validity.{IsValid, IsValidBlock}
use Rattle.te_model.proofs.Sums.{sum_below-zero}
use Rattle.te_model.proofs.ValidParts.{valid_parts}
use Rattle.te_model.proofs.WellFormed.{few_nodes}
use Rattle.best_blocks.specs.Conditions.{IsRoutingWithin, IsSetWithin}
use Rattle.best_blocks.specs.Need.{HasNumbers, IsGreatestNeed}
use Rattle.best_blocks.specs.Sharing.{HasShare}
use Rattle.best_blocks.proofs.BlockValid.{best_valid}
use Rattle.best_blocks.proofs.Holding.{best_holds}
use Rattle.ratio_certificate.specs.Form.{IsFormatFor}
use Rattle.ratio_certificate.specs.Made.{IsMadeIn, IsOwnBest, IsWithinStart}
use Rattle.ratio_certificate.specs.Making.{head_with, AreMadeBlocks}
use Rattle.ratio_certificate.specs.Polished.{IsPolished}
use Rattle.ratio_certificate.proofs.HeadValid.{made_head}

-- the block of a link is one of the blocks, or the link has none
block_or_none : (P : Block → Type 0) (e : ℕ) (blocks : List Block) → All P blocks →
    (P (block_of blocks e) × ((block_of blocks e).link ≡ e)) ⊎ ((block_of blocks e ≡ empty_block e) × (list_any (λ b. b.link == e) blocks ≡ false))
block_or_none P e [] all = inr (refl, refl)
block_or_none P e (b ∷ bs) all = go (b.link == e) refl (block_or_none P e bs (All-tail P b bs all))
  where
    go : (t : Bool) → (b.link == e) ≡ t →
        (P (block_of bs e) × ((block_of bs e).link ≡ e)) ⊎ ((block_of bs e ≡ empty_block e) × (list_any (λ b. b.link == e) bs ≡ false)) →
        (P (unwrap_or (cond t (Some b) (find (λ b. b.link == e) bs)) (empty_block e))
        × ((unwrap_or (cond t (Some b) (find (λ b. b.link == e) bs)) (empty_block e)).link ≡ e))
        ⊎ ((unwrap_or (cond t (Some b) (find (λ b. b.link == e) bs)) (empty_block e) ≡ empty_block e) × ((t || list_any (λ b. b.link == e) bs) ≡ false))
    go true is rest = inl (All-head P b bs all, eqb-true b.link e is)
    go false is rest = rest

-- the inequalities hold of a link without a share and without a block
empty_holds : (h : Head) (e : ℕ) → (HasShare h.routes e → ⊥) → BlockHolds h (empty_block e)
empty_holds h e none = record {
  starts = λ i below. refl;
  rises = λ i v below in'. omega arith;
  covers = λ p below.
      let zero : share h.routes p e ≡ 0 = elim (cases_lt 0 (share h.routes p e)) [
        | inl some ↦ absurd (none (p, below, some))
        | inr ge ↦ omega arith
      ]
      in
      le-leb _ _ (rw zero (omega arith));
  bounds = no_bounds h.set;
  pays = le-leb _ _ (omega arith);
}
  where
    nothing : (upper lower : ℕ → ℕ) (n : ℕ) → nat_le (weigh n upper (λ p. 0)) (weigh n lower (λ p. 0)) ≡ true
    nothing upper lower n = le-leb _ _ (omega (arith, sum_below-zero n (λ p. upper p * 0) (λ k below. omega arith)))

    no_bounds : (wanted : DemandSet) → keeps_bounds wanted (length h.routes) (empty_block e) ≡ true
    no_bounds AllMatrices = refl
    no_bounds (Margin num den base) = nothing _ _ (length h.routes)
    no_bounds (Box lower upper) = nothing _ _ (length h.routes)

-- made blocks are valid
pub blocks_valid : (h : Head) (blocks : List Block) → node_count h.network ≤ (limits_of h.format).nodes → is_well_formed h.network ≡ true → IsRoutingWithin h.network h.routes →
    AreMadeBlocks h.network h.routes h.set blocks → All (IsValidBlock h) blocks
blocks_valid h blocks fits formed within are k d below =
    let net = h.network in
    let b = get_or blocks k d in
    let weights = are.weights k d below in
    best_valid h b.link b.weights b formed within fits (are.below k d below) weights.count
    (All-from_get_or (λ w. w ≤ 2 ^ 28) b.weights 0 (λ i inside. weights.small i (omega (arith, inside, weights.count))))
    (are.best k d below).1

-- what a certificate without blocks begins with, in the format that has room for every network
abbrev pub head_of_set : Network → List PairRoutes → DemandSet → Head
head_of_set net routes wanted = record { format = 2; network = net; routes = routes; set = wanted; ratio = 0 }

pub blocks_numbers : (net : Network) (routes : List PairRoutes) (wanted : DemandSet) (blocks : List Block) → is_well_formed net ≡ true →
    IsRoutingWithin net routes → AreMadeBlocks net routes wanted blocks → All (HasNumbers net) blocks
blocks_numbers net routes wanted blocks formed within are k d below =
    let valid = blocks_valid (head_of_set net routes wanted) blocks (few_nodes net formed) formed within are k d below in
    record { numbers = valid.numbers; small = valid.small; weights = (are.weights k d below).count }

pub certificate_valid : (c : Certificate) → IsFormatFor c.head.network c.head.set c.head.format → is_well_formed c.head.network ≡ true → 1 ≤ link_count c.head.network → IsRoutingWithin c.head.network c.head.routes →
    IsSetWithin (length c.head.routes) c.head.set → AreMadeBlocks c.head.network c.head.routes c.head.set c.blocks →
    c.head.ratio < 10 ^ 19 → IsValid c
certificate_valid c format formed some within set are small =
    (valid_parts c).1 (record {
      head = made_head c.head format formed some within set small;
      count = omega (arith, are.few, format.links);
      blocks = blocks_valid c.head c.blocks format.nodes formed within are;
      ascending = are.ascending;
    })

pub certificate_holds : (c : Certificate) → IsRoutingWithin c.head.network c.head.routes → AreMadeBlocks c.head.network c.head.routes c.head.set c.blocks →
    IsGreatestNeed c.head.network c.blocks c.head.ratio → Holds c
certificate_holds c within are greatest e below =
    let net = c.head.network in
    let best : All (λ b. IsOwnBest net c.head.routes c.head.set b × IsTrue (pays_weights net b c.head.ratio)) c.blocks =
    λ k d inside. (are.best k d inside, greatest.enough k d inside)
    in
    elim (block_or_none (λ b. IsOwnBest net c.head.routes c.head.set b × IsTrue (pays_weights net b c.head.ratio)) e c.blocks best) [
      | inl there ↦
          let b = block_of c.blocks e in
          best_holds c.head b.link b.weights b within there.0.0.1 there.0.1
      | inr absent ↦
          subst (BlockHolds c.head) (sym absent.0) (empty_holds c.head e (λ share.
          let has = are.complete e below share in
          let contrary : false ≡ true = sym absent.1 ∙ has in
          cc))
    ]

abbrev certificate_of : Head → List Block → Certificate
certificate_of head blocks = record { head = head; blocks = blocks }

-- a certificate of this head and these blocks
pub made_certificate : (format : ℕ) (net : Network) (routes : List PairRoutes) (wanted : DemandSet) (blocks : List Block) (ratio : ℕ) (h : Head) (bs : List Block) →
    h ≡ head_with format net routes wanted ratio → bs ≡ blocks → is_well_formed net ≡ true → 1 ≤ link_count net → IsRoutingWithin net routes →
    IsSetWithin (length routes) wanted → IsFormatFor net wanted format → AreMadeBlocks net routes wanted blocks → All (IsWithinStart net routes wanted) blocks →
    IsPolished net routes wanted blocks → ratio < 10 ^ 19 → IsGreatestNeed net blocks ratio → IsMadeIn format net routes wanted (certificate_of h bs)
made_certificate format net routes wanted blocks ratio h bs is_h is_bs formed some within set room are starting polished small greatest =
    let head = head_with format net routes wanted ratio in
    subst (λ (x : Head). IsMadeIn format net routes wanted (certificate_of x bs)) (sym is_h)
    (subst (λ (x : List Block). IsMadeIn format net routes wanted (certificate_of head x)) (sym is_bs)
    (record {
      format_is = refl;
      network = refl;
      routes_are = refl;
      set_is = refl;
      valid = certificate_valid (certificate_of head blocks) room formed some within set are small;
      holds = certificate_holds (certificate_of head blocks) within are greatest;
      best = are.best;
      starting = starting;
      polished = polished;
      blocks = are.complete;
      ratio = greatest;
    }))
