-- Rows of distances, node by node, and rows that stay.
use Rattle.std.proofs.Common.{◌≡◌, ◌⊎◌, ℕ, ◌+◌, ◌<◌, Bool, true, false, not, ◌&&◌, ◌==◌, nat_le, List, [], ◌∷◌, ◌++◌, Option, Some, arith, refl, sym, subst, inl, inr, slice_index}
use Rattle.std.specs.Prelude.{All}
use Rattle.std.proofs.lemmas.Bool.{and_parts, eq-eqb, leb-true}
use Rattle.te_model.specs.declared.network.Network.{Network}
use Rattle.te_model.specs.Network.{is_well_formed, node_count, link_count, tail_of, head_of}
use Rattle.te_model.specs.Path.{has_number}
use Rattle.te_model.proofs.Amounts.{has_at}
use Rattle.te_model.proofs.Choices.{pushed_count, pushed_each}
use Rattle.te_model.proofs.WellFormed.{links_join}
use Rattle.shortest_path.specs.Graph.{distance_at}
use Rattle.shortest_path.specs.Laws.{IsSlack}
use Rattle.shortest_path.specs.Paths.{AreDistances}
use Rattle.shortest_path.proofs.Stay.{distances_stay}
use Rattle.std.proofs.lemmas.List.Elements.{All-get_or}
use Rattle.best_blocks.specs.Rows.{is_loose, is_slack_for, is_marked, AreRowsFrom, IsSameElsewhere}

pub no_rows_from : (net : Network) (weights : List ℕ) (marks : List Bool) → AreRowsFrom 0 net weights marks []
no_rows_from net weights marks = record {
  count = refl;
  each = λ i below. absurd (omega arith);
  others = λ i below. absurd (omega arith);
}

pub row_pushed : (i : ℕ) (net : Network) (weights : List ℕ) (marks : List Bool) (rows : List (List (Option ℕ))) (row : List (Option ℕ)) →
    AreRowsFrom i net weights marks rows → (is_marked marks i ≡ true → AreDistances net weights i row) → (is_marked marks i ≡ false → row ≡ []) →
    AreRowsFrom (i + 1) net weights marks (rows ++ row ∷ [])
row_pushed i net weights marks rows row are known other = record {
  count = pushed_count rows row i are.count;
  each = pushed_each (λ k (r : List (Option ℕ)). is_marked marks k ≡ true → AreDistances net weights k r) rows row [] i are.count are.each known;
  others = pushed_each (λ k (r : List (Option ℕ)). is_marked marks k ≡ false → (r ≡ []) ⊎ AreDistances net weights k r) rows row [] i are.count are.others
      (λ unmarked. inl (other unmarked));
}

loose_slack : (net : Network) (row : List (Option ℕ)) (old new h : ℕ) →
    is_loose (distance_at row (tail_of net h)) (distance_at row (head_of net h)) old new ≡ true → IsSlack net row old new h
loose_slack net row old new h loose x y from to =
    let both : (not (y == x + old) && nat_le y (x + new)) ≡ true =
    subst (λ (o : Option ℕ). is_loose (Some x) o old new ≡ true) to (subst (λ (o : Option ℕ). is_loose o (distance_at row (head_of net h)) old new ≡ true) from loose)
    in
    let parts = and_parts (not (y == x + old)) (nat_le y (x + new)) both in
    (λ tight. let contrary : false ≡ true = subst (λ (b : Bool). not b ≡ true) (eq-eqb y (x + old) tight) parts.0 in cc, leb-true y (x + new) parts.1)

-- the row of a node stays where all changed links are slack for it
pub row_stays : (net : Network) (old new changed : List ℕ) (row : List (Option ℕ)) (node : ℕ) → is_well_formed net ≡ true → node < node_count net →
    IsSameElsewhere (link_count net) changed old new →
    All (λ h. is_slack_for net row old new h ≡ true) changed →
    AreDistances net old node row → AreDistances net new node row
row_stays net old new changed row node formed inside same loose =
    distances_stay net (links_join net formed) old new node row inside (λ h below. go h below (has_number changed h) refl)
  where
    go : (h : ℕ) → h < link_count net → (b : Bool) → has_number changed h ≡ b →
        (slice_index new h ≡ slice_index old h) ⊎ IsSlack net row (slice_index old h) (slice_index new h) h
    go h below false is = inl (same h below is)
    go h below true is =
        let (k, within, at) = has_at changed h is in
        inr (loose_slack net row (slice_index old h) (slice_index new h) h
        (subst (λ j. is_slack_for net row old new j ≡ true) at (All-get_or (λ h. is_slack_for net row old new h ≡ true) changed k 0 within loose)))

-- what was made of slices that are the lists
pub from_rows_read : (n : ℕ) (net : Network) (weights ws : List ℕ) (marks ms : List Bool) (rows rs : List (List (Option ℕ))) → ws ≡ weights → ms ≡ marks → rs ≡ rows →
    AreRowsFrom n net weights marks rows → AreRowsFrom n net ws ms rs
from_rows_read n net weights ws marks ms rows rs is_w is_m is_r are =
    subst (λ (x : List ℕ). AreRowsFrom n net x ms rs) (sym is_w)
    (subst (λ (x : List Bool). AreRowsFrom n net weights x rs) (sym is_m) (subst (λ (x : List (List (Option ℕ))). AreRowsFrom n net weights marks x) (sym is_r) are))
