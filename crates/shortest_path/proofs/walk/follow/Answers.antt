use Rattle.std.proofs.Common.{◌≡◌, ◌≤◌, ℕ, All, Bool, List, Option, Some, None, Vec, Global, length, sym, subst}
use Rattle.std.specs.Prelude.{MatchOption}
use Rattle.te_model.specs.declared.network.Network.{Network}
use Rattle.te_model.specs.Network.{link_count}
use Rattle.shortest_path.specs.Least.{AreFirstLinks, AreLeastSums, IsLeastWalk, LeadsTo}
use Rattle.shortest_path.proofs.walk.follow.Goals as goal

-- the first links that are lent
leads_lent : (net : Network) (lengths : List ℕ) (marks : List Bool) (t : ℕ) (sums firsts lent : List (Option ℕ)) → length lengths ≡ link_count net →
    All (λ l. 1 ≤ l) lengths → AreLeastSums net lengths marks t sums → AreFirstLinks net lengths marks sums (link_count net) firsts → lent ≡ firsts →
    LeadsTo net lengths marks t sums lent
leads_lent net lengths marks t sums firsts lent count positive least are same = record {
  count = count;
  positive = positive;
  sums_are = least;
  firsts_are = subst (AreFirstLinks net lengths marks sums (link_count net)) (sym same) are;
}

pub returns-in-Some : goal.returns-in-Some
returns-in-Some c =
    let net = c.args.net.now in
    let lengths = c.args.lengths.now in
    let marks = c.args.open.now in
    let s = c.args.src in
    let t = c.args.dst in
    let leads = leads_lent net lengths marks t c.args.distances.now c.in_ok-firsts.firsts.items c.deref.result.now c.requires.lengths c.requires.positive c.requires.distances
    c.in_ok-firsts.ensures c.deref.ensures.value in
    let least : IsLeastWalk net lengths marks s t (Some c.in-Some.walk.items) =
    subst (λ o. MatchOption o (IsLeastWalk net lengths marks s t None) (λ (w : Vec ℕ Global). IsLeastWalk net lengths marks s t (Some w.items))) c.in-Some.is
    (c.in_ok-walk.ensures lengths marks leads)
    in
    subst (λ l. IsLeastWalk net lengths marks s t (Some l)) (sym c.new.ensures) least

pub returns : goal.returns
returns c =
    let net = c.args.net.now in
    let lengths = c.args.lengths.now in
    let marks = c.args.open.now in
    let s = c.args.src in
    let t = c.args.dst in
    let leads = leads_lent net lengths marks t c.args.distances.now c.in_ok-firsts.firsts.items c.deref.result.now c.requires.lengths c.requires.positive c.requires.distances
    c.in_ok-firsts.ensures c.deref.ensures.value in
    subst (λ o. MatchOption o (IsLeastWalk net lengths marks s t None) (λ (w : Vec ℕ Global). IsLeastWalk net lengths marks s t (Some w.items))) c.in-None.is
    (c.in_ok-walk.ensures lengths marks leads)
