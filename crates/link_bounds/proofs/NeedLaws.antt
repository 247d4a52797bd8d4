-- The needs of a valid certificate with feasible blocks are ratios of the links, and the greatest is one of the routing.
use Rattle.std.proofs.Common.{◌≡◌, ℕ, ◌*◌, ◌<◌, ◌≤◌, Bool, true, false, cond, List, length, arith, refl, subst, sym, ◌==◌}
use Rattle.std.specs.Prelude.{not}
use Rattle.std.proofs.lemmas.Bool.{eqb-true}
use Rattle.te_model.specs.declared.certificate.Certificate.{Certificate}
use Rattle.te_model.specs.declared.demand.DemandSet.{DemandSet}
use Rattle.te_model.specs.declared.network.Network.{Network}
use Rattle.te_model.specs.declared.route.PairRoutes.{PairRoutes}
use Rattle.te_model.specs.Bounds.{HasSmallNumbers}
use Rattle.te_model.specs.Certificate.{block_of}
use Rattle.te_model.specs.Counting.{all_below, greatest_below}
use Rattle.te_model.specs.Flow.{load}
use Rattle.te_model.specs.LinkRatio.{IsLinkRatio}
use Rattle.link_bounds.specs.Needs.{has_share}
use Rattle.te_model.specs.Network.{capacity_of, link_count}
use Rattle.te_model.specs.Path.{share}
use Rattle.te_model.specs.Validity.{IsValid}
use Rattle.te_model.proofs.LinkRatios.{block_of_has, block_of_link, feasible_bounds_link, greater_link_ratios, ratios_of_links, small_empty}
use Rattle.te_model.proofs.Quotients.{below_greatest}
use Rattle.te_model.proofs.Searches.{all_below_at}
use Rattle.te_model.proofs.Sums.{sum_below-zero}
use Rattle.te_model.proofs.Valid.{valid_blocks, valid_limits}
use Rattle.best_blocks.specs.Need.{IsNeed}
use Rattle.best_blocks.proofs.Needs.{is_need}
use Rattle.link_bounds.specs.Needs.{need_at, shared_need}
use Rattle.link_bounds.specs.Proved.{NeedsAreProved, NeedsAreWithinRatio}

-- the need of a link is that of its block
pub is_need_at : (c : Certificate) → IsValid c → (e : ℕ) → e < link_count c.head.network → IsNeed c.head.network (block_of c.blocks e) (need_at c e)
is_need_at c valid e below =
    let b = block_of c.blocks e in
    let small : HasSmallNumbers b = block_of_has HasSmallNumbers c.blocks e (small_empty e) (valid_blocks c valid) in
    let some = (valid_limits c valid).capacity e below in
    is_need c.head.network b (need_at c e) small.b.0 (subst (λ k. 1 ≤ capacity_of c.head.network k) (sym (block_of_link c.blocks e)) some) refl

-- a link that no pair uses carries nothing
unused : (net : Network) (routes : List PairRoutes) (set : DemandSet) (e : ℕ) → has_share routes e ≡ false → IsLinkRatio net routes set e 0
unused net routes set e none demand member amount some flows routing u v v_some within =
    let all : all_below (length routes) (λ p. share routes p e == 0) ≡ true = not_false (all_below (length routes) (λ p. share routes p e == 0)) none in
    let each : (p : ℕ) → p < length routes → demand p * share routes p e ≡ 0 =
    λ p below. let nothing = eqb-true (share routes p e) 0 (all_below_at (length routes) (λ q. share routes q e == 0) p all below) in rw nothing (omega arith)
    in
    let load_none : load (length routes) demand (share routes) e ≡ 0 = sum_below-zero (length routes) (λ p. demand p * share routes p e) each in
    rw load_none (omega arith)
  where
    not_false : (b : Bool) → not b ≡ false → b ≡ true
    not_false true is = refl
    not_false false is = cc

links_proved : (c : Certificate) → IsValid c → ((e : ℕ) → e < link_count c.head.network → IsLinkRatio c.head.network c.head.routes c.head.set e (need_at c e)) →
    (e : ℕ) → e < link_count c.head.network → IsLinkRatio c.head.network c.head.routes c.head.set e (shared_need c e)
links_proved c valid each e below = by (has_share c.head.routes e) refl
  where
    by : (b : Bool) → has_share c.head.routes e ≡ b → IsLinkRatio c.head.network c.head.routes c.head.set e (shared_need c e)
    by true is = subst (λ t. IsLinkRatio c.head.network c.head.routes c.head.set e (cond t (need_at c e) 0)) (sym is) (each e below)
    by false is = subst (λ t. IsLinkRatio c.head.network c.head.routes c.head.set e (cond t (need_at c e) 0)) (sym is)
        (unused c.head.network c.head.routes c.head.set e is)

pub needs_proved : NeedsAreProved
needs_proved c valid feasible =
    let net = c.head.network in
    let routes = c.head.routes in
    let set = c.head.set in
    let links = links_proved c valid
    (λ e below. feasible_bounds_link c valid e (feasible e below) (need_at c e) (is_need_at c valid e below).enough)
    in
    record {
      links = links;
      ratio = (ratios_of_links net routes set (greatest_below (link_count net) (shared_need c))).1
          (λ e below. greater_link_ratios net routes set e (shared_need c e) (greatest_below (link_count net) (shared_need c))
          (below_greatest (link_count net) (shared_need c) e below) (links e below));
      least = λ e below shared. is_need_at c valid e below;
    }

pub needs_within : NeedsAreWithinRatio
needs_within c valid holds e below = (is_need_at c valid e below).least c.head.ratio (holds e below).pays
