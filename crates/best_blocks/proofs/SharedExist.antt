-- That a link with a share has a list of its shares, marks of its sources, and with these a value that has all.
use Rattle.std.proofs.Common.{◌≡◌, ℕ, ◌+◌, ◌<◌, Bool, true, false, List, [], ◌∷◌, ◌++◌, length, length-append, slice_index, arith, refl, subst, inl, inr, ◌∙◌, replicate}
use Rattle.std.specs.Prelude.{All, Any}
use Rattle.std.proofs.lemmas.Bool.{cases_lt}
use Rattle.std.proofs.lemmas.List.{get_or_append_left}
use Rattle.std.proofs.lemmas.List.Elements.{All-get_or, All-nil, All-push, All-from_get_or}
use Rattle.std.proofs.lemmas.List.Quantifiers.{Any-push}
use Rattle.te_model.specs.declared.network.Network.{Network}
use Rattle.te_model.specs.declared.route.PairRoutes.{PairRoutes}
use Rattle.te_model.specs.declared.demand.DemandSet.{DemandSet}
use Rattle.te_model.specs.Path.{share, source_of}
use Rattle.te_model.proofs.Choices.{step_by_step}
use Rattle.routing.specs.declared.shares.PairShare.{PairShare}
use Rattle.routing.specs.Shares.{AreSharesOn, IsShareList}
use Rattle.routing.proofs.Sharing.{no_share, order_pushed, order_weaker}
use Rattle.best_blocks.specs.declared.sharing.SharedLink.{SharedLink}
use Rattle.best_blocks.specs.Best.{needs_row}
use Rattle.best_blocks.specs.Conditions.{IsRoutingWithin}
use Rattle.best_blocks.specs.Marks.{AreSourceMarks}
use Rattle.best_blocks.specs.Sharing.{HasShare, IsSharedLink}
use Rattle.best_blocks.proofs.Growing.{values_exist}
use Rattle.best_blocks.proofs.Marking.{mark_added, mark_left_out, no_marks}
use Rattle.best_blocks.proofs.SharedLinks.{shared_is}
use Rattle.best_blocks.proofs.SharesListed.{link_within, listed_some}

-- those of the first n pairs that have a share on link e, each with its share
record AreSharesBelow (n : ℕ) (routes : List PairRoutes) (e : ℕ) (list : List PairShare) : Type 0 where
  pub order : IsShareList n list
  pub shares : All (λ s. s.share ≡ share routes s.pair e) list
  pub complete : (p : ℕ) → p < n → 0 < share routes p e → Any (λ s. s.pair ≡ p) list

no_shares : (routes : List PairRoutes) (e : ℕ) → AreSharesBelow 0 routes e []
no_shares routes e = record {
  order = record { ascending = λ k below. absurd (omega arith); below = All-nil (λ (s : PairShare). s.pair < 0); some = All-nil (λ (s : PairShare). 0 < s.share) };
  shares = All-nil (λ (s : PairShare). s.share ≡ share routes s.pair e);
  complete = λ p below. absurd (omega arith);
}

-- what is in a list is in a longer one
any_kept : (P : PairShare → Type 0) (xs : List PairShare) (y : PairShare) → Any P xs → Any P (xs ++ y ∷ [])
any_kept P xs y (k, x, below, at, is) =
    (k, x, omega (arith, below, length-append xs (y ∷ [])), get_or_append_left xs (y ∷ []) x k below ∙ at, is)

share_pushed : (n : ℕ) (routes : List PairRoutes) (e : ℕ) (list : List PairShare) → AreSharesBelow n routes e list → 0 < share routes n e →
    AreSharesBelow (n + 1) routes e (list ++ record { pair = n; share = share routes n e } ∷ [])
share_pushed n routes e list are some =
    let s : PairShare = record { pair = n; share = share routes n e } in
    record {
      order = order_pushed list s (order_weaker n list are.order) some (λ k last same.
          let inside : k < length list = omega (arith, last) in
          let less = All-get_or (λ t. t.pair < n) list k no_share inside are.order.below in
          absurd (omega (arith, less, same)));
      shares = All-push (λ t. t.share ≡ share routes t.pair e) list s are.shares refl;
      complete = λ p below more. elim (cases_lt p n) [
        | inl lt ↦ any_kept (λ t. t.pair ≡ p) list s (are.complete p lt more)
        | inr ge ↦ Any-push (λ t. t.pair ≡ p) list s (omega (arith, ge, below))
      ];
    }

share_left_out : (n : ℕ) (routes : List PairRoutes) (e : ℕ) (list : List PairShare) → AreSharesBelow n routes e list → (0 < share routes n e → ⊥) →
    AreSharesBelow (n + 1) routes e list
share_left_out n routes e list are none = record {
  order = order_weaker n list are.order;
  shares = are.shares;
  complete = λ p below more. elim (cases_lt p n) [
    | inl lt ↦ are.complete p lt more
    | inr ge ↦ let last : p ≡ n = omega (arith, ge, below) in absurd (none (subst (λ q. 0 < share routes q e) last more))
  ];
}

-- the pairs with a share on a link, each with its share
pub shares_on_exist : (routes : List PairRoutes) (e : ℕ) → (list : List PairShare) × AreSharesOn routes e list
shares_on_exist routes e =
    let (list, are) =
    step_by_step (λ k (xs : List PairShare). AreSharesBelow k routes e xs) (length routes) ([], no_shares routes e)
    (λ k xs below are. elim (cases_lt 0 (share routes k e)) as (λ x. (ys : List PairShare) × AreSharesBelow (k + 1) routes e ys) [
      | inl some ↦ (xs ++ record { pair = k; share = share routes k e } ∷ [], share_pushed k routes e xs are some)
      | inr none ↦ (xs, share_left_out k routes e xs are (λ some. absurd (omega (arith, some, none))))
    ]) (length routes) (omega arith)
    in (
      list,
      record {
        ascending = are.order.ascending;
        shares = All-from_get_or (λ s. (s.pair < length routes) × (0 < s.share) × (s.share ≡ share routes s.pair e)) list no_share (λ k below. (
          All-get_or (λ s. s.pair < length routes) list k no_share below are.order.below,
          All-get_or (λ s. 0 < s.share) list k no_share below are.order.some,
          All-get_or (λ s. s.share ≡ share routes s.pair e) list k no_share below are.shares,
        ));
        complete = are.complete;
      },
    )

-- the marks of the sources that need a row
pub marks_exist : (nodes : ℕ) (routes : List PairRoutes) (wanted : DemandSet) (shares : ℕ → ℕ) → ((p : ℕ) → p < length routes → source_of routes p < nodes) →
    (marks : List Bool) × AreSourceMarks nodes (length routes) routes wanted shares marks
marks_exist nodes routes wanted shares inside =
    step_by_step (λ k (marks : List Bool). AreSourceMarks nodes k routes wanted shares marks) (length routes)
    (replicate nodes false, no_marks nodes routes wanted shares) step (length routes) (omega arith)
  where
    step : (k : ℕ) (marks : List Bool) → k < length routes → AreSourceMarks nodes k routes wanted shares marks →
        (next : List Bool) × AreSourceMarks nodes (k + 1) routes wanted shares next
    step k marks below are = go (needs_row wanted (shares k)) refl
      where
        go : (b : Bool) → needs_row wanted (shares k) ≡ b → (next : List Bool) × AreSourceMarks nodes (k + 1) routes wanted shares next
        go true needs = (_, mark_added nodes k routes wanted shares marks below (inside k below) needs are)
        go false needs = (marks, mark_left_out nodes k routes wanted shares marks needs are)

-- a link with a share, with all that is known of it
pub shared_link_exists : (net : Network) (routes : List PairRoutes) (wanted : DemandSet) (e : ℕ) → IsRoutingWithin net routes → HasShare routes e →
    (l : SharedLink) × IsSharedLink net routes wanted l × (l.link ≡ e)
shared_link_exists net routes wanted e within some =
    let (list, listed) = shares_on_exist routes e in
    let (shares, values) = values_exist (length routes) (λ p. share routes p e) in
    let (marks, marked) = marks_exist (length net.names) routes wanted (slice_index shares) (λ p below. (within.nodes p below).0) in (
      record { link = e; list = list; shares = shares; marks = marks },
      shared_is net routes wanted e list list shares shares marks marks refl refl refl (link_within net routes e within.splits some) listed
          (listed_some routes e list listed some) values marked,
      refl,
    )
