-- The shares of all pairs on a link, written from the list of those that have one.
use Rattle.std.proofs.Common.{◌≡◌, ◌⊎◌, ℕ, ◌+◌, ◌<◌, Bool, true, false, List, [], ◌∷◌, refl, length, replicate, set, get_or, slice_index, arith, ap, sym, subst, ◌∙◌, inl, inr}
use Rattle.std.specs.Prelude.{All, if◌then◌else◌}
use Rattle.std.proofs.lemmas.Bool.{cases_eq, cases_lt}
use Rattle.std.proofs.lemmas.List.{get_or-replicate, get_or-set_same, get_or-set_other, get_or_read, length-replicate, length-set}
use Rattle.std.proofs.lemmas.List.Elements.{All-get_or, All-head, All-tail}
use Rattle.std.proofs.lemmas.List.Sums.{sum_by-cons}
use Rattle.te_model.specs.declared.route.PairRoutes.{PairRoutes}
use Rattle.te_model.specs.declared.network.Network.{Network}
use Rattle.te_model.specs.declared.route.PathShare.{PathShare}
use Rattle.te_model.specs.Network.{link_count}
use Rattle.te_model.specs.Path.{has_number, routes_at, share, weight_on}
use Rattle.te_model.specs.PathRouting.{IsPathRouting}
use Rattle.te_model.proofs.Amounts.{has_at}
use Rattle.routing.specs.declared.shares.PairShare.{PairShare}
use Rattle.routing.specs.Shares.{AreLinksOnce, AreSharesOn}
use Rattle.routing.proofs.Sharing.{no_share, paths_once}
use Rattle.shortest_path.specs.Pairs.{AreValues}
use Rattle.best_blocks.specs.Sharing.{HasShare}

-- the first i of the list are written, and all other shares are 0
pub record AreWritten (i : ℕ) (routes : List PairRoutes) (e : ℕ) (list : List PairShare) (shares : List ℕ) : Type 0 where
  pub count : length shares ≡ length routes
  pub each : (q : ℕ) → q < length routes → (slice_index shares q ≡ share routes q e)
      ⊎ ((slice_index shares q ≡ 0) × ((k : ℕ) → k < i → (get_or list k no_share).pair ≡ q → ⊥))

pub none_written : (routes : List PairRoutes) (e : ℕ) (list : List PairShare) → AreWritten 0 routes e list (replicate (length routes) 0)
none_written routes e list = record {
  count = length-replicate (length routes) 0;
  each = λ q below. inr (get_or-replicate (length routes) q 0 0 below, λ k none. absurd (omega (arith, none)));
}

pub one_written : (routes : List PairRoutes) (e i : ℕ) (list : List PairShare) (shares : List ℕ) → AreSharesOn routes e list → i < length list →
    AreWritten i routes e list shares → AreWritten (i + 1) routes e list (set shares (get_or list i no_share).pair (get_or list i no_share).share)
one_written routes e i list shares are below so = record {
  count = length-set shares p s ∙ so.count;
  each = λ q inside. elim (cases_eq q p) [
    | inl same ↦
        let here : slice_index (set shares p s) p ≡ s = get_or-set_same shares p s 0 (omega (arith, entry.0, so.count)) in
        inl (subst (λ k. slice_index (set shares p s) k ≡ share routes k e) (sym same) (here ∙ entry.2))
    | inr other ↦
        let there : slice_index (set shares p s) q ≡ slice_index shares q = get_or-set_other shares p q s 0 other in
        elim (so.each q inside) [
          | inl is ↦ inl (there ∙ is)
          | inr none ↦ inr (
            there ∙ none.0,
            λ k less is. elim (cases_lt k i) [
              | inl lt ↦ none.1 k lt is
              | inr ge ↦ let last : k ≡ i = omega (arith, ge, less) in other (sym (subst (λ j. (get_or list j no_share).pair ≡ q) last is))
            ],
          )
        ]
  ];
}
  where
    p : ℕ
    p = (get_or list i no_share).pair

    s : ℕ
    s = (get_or list i no_share).share

    entry : (p < length routes) × (0 < s) × (s ≡ share routes p e)
    entry = All-get_or (λ s. (s.pair < length routes) × (0 < s.share) × (s.share ≡ share routes s.pair e)) list i no_share below are.shares

pub all_written : (routes : List PairRoutes) (e : ℕ) (list : List PairShare) (shares : List ℕ) → AreSharesOn routes e list →
    AreWritten (length list) routes e list shares → AreValues (length routes) (λ p. share routes p e) shares
all_written routes e list shares are so = record {
  count = so.count;
  each = λ q below. elim (so.each q below) [
    | inl is ↦ is
    | inr none ↦ elim (cases_lt 0 (share routes q e)) [
      | inl some ↦
          let (k, x, inside, is, pair) = are.complete q below some in
          let read : x ≡ get_or list k no_share = get_or_read list k x inside (sym is) no_share in
          absurd (none.1 k inside (ap (λ (t : PairShare). t.pair) (sym read) ∙ pair))
      | inr zero ↦ omega (arith, none.0, zero)
    ]
  ];
}

-- a link that is on one of the paths of n links is one of them
on_link : (n : ℕ) (paths : List PathShare) (e : ℕ) → All (λ s. AreLinksOnce n s.links) paths → 0 < weight_on paths e → e < n
on_link n [] e all some = absurd (omega (arith, some))
on_link n (s ∷ ss) e all some =
    let split : weight_on (s ∷ ss) e ≡ (if has_number s.links e then s.weight else 0) + weight_on ss e =
    sum_by-cons (λ (t : PathShare). if has_number t.links e then t.weight else 0) s ss
    in
    go (has_number s.links e) refl (subst (λ x. 0 < x) split some) (on_link n ss e (All-tail (λ s. AreLinksOnce n s.links) s ss all))
  where
    go : (b : Bool) → has_number s.links e ≡ b → 0 < (if b then s.weight else 0) + weight_on ss e → (0 < weight_on ss e → e < n) → e < n
    go true is positive rest =
        let (k, below, at) = has_at s.links e is in
        subst (λ h. h < n) at (All-get_or (λ h. h < n) s.links k 0 below (All-head (λ s. AreLinksOnce n s.links) s ss all).1)
    go false is positive rest = rest (omega (arith, positive))

-- a link with a share is a link of the network
pub link_within : (net : Network) (routes : List PairRoutes) (e : ℕ) → IsPathRouting net routes → HasShare routes e → e < link_count net
link_within net routes e routing (p, below, some) = on_link (link_count net) (routes_at routes p).paths e (paths_once net routes p routing below) some

-- a link with a share has an entry
pub some_listed : (routes : List PairRoutes) (e : ℕ) (list : List PairShare) → AreSharesOn routes e list → 0 < length list → HasShare routes e
some_listed routes e list are some =
    let entry = All-get_or (λ s. (s.pair < length routes) × (0 < s.share) × (s.share ≡ share routes s.pair e)) list 0 no_share some are.shares in
    ((get_or list 0 no_share).pair, entry.0, omega (arith, entry.1, entry.2))

pub listed_some : (routes : List PairRoutes) (e : ℕ) (list : List PairShare) → AreSharesOn routes e list → HasShare routes e → 0 < length list
listed_some routes e list are (p, below, some) = let (k, x, inside, is, pair) = are.complete p below some in omega (arith, inside)
