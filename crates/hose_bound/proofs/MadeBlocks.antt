-- A tight cover is a block as it has to be made.
use Rattle.std.proofs.Common.{◌≡◌, ℕ, suc, ◌<◌, ◌≤◌, ◌==◌, ◌&&◌, true, List, [], ◌∷◌, length, get_or, arith, refl, sym, subst}
use Rattle.std.specs.Prelude.{slice_index}
use Rattle.std.proofs.lemmas.Bool.{lt-ltb, eq-eqb, and_from}
use Rattle.std.proofs.lemmas.List.Elements.{All-get_or}
use Rattle.te_model.specs.declared.limits.TheConstants.{FORMAT_2}
use Rattle.te_model.specs.declared.network.Network.{Network}
use Rattle.te_model.specs.declared.route.PairRoutes.{PairRoutes}
use Rattle.te_model.specs.declared.units.TheConstants.{SHARE_UNIT}
use Rattle.te_model.specs.Network.{node_count, link_count}
use Rattle.te_model.specs.Path.{share}
use Rattle.te_model.specs.Shape.{is_row_of, is_word, are_words}
use Rattle.routing.specs.declared.shares.PairShare.{PairShare}
use Rattle.routing.specs.Shares.{AreSharesOn}
use Rattle.best_blocks.specs.Sharing.{HasShare}
use Rattle.hose_bound.specs.declared.hose.Hose.{Hose}
use Rattle.hose_bound.specs.declared.hose.HoseBlock.{HoseBlock}
use Rattle.hose_bound.specs.Cover.{IsTightCover}
use Rattle.hose_bound.specs.Covering.{IsMadeBlock}
use Rattle.hose_bound.specs.Making.{shares_to_cover}
use Rattle.routing.proofs.Sharing.{no_share}

small_are_words : (numbers : List ℕ) → ((i : ℕ) → slice_index numbers i ≤ SHARE_UNIT) → are_words numbers ≡ true
small_are_words [] small = refl
small_are_words (n ∷ ns) small =
    let first : n ≤ SHARE_UNIT = small 0 in
    and_from (is_word n) (are_words ns) (lt-ltb _ _ (omega (arith, first))) (small_are_words ns (λ i. small (suc i)))

row_is : (n : ℕ) (numbers : List ℕ) → length numbers ≡ n → ((i : ℕ) → slice_index numbers i ≤ SHARE_UNIT) → is_row_of n numbers ≡ true
row_is n numbers count small = and_from (length numbers == n) (are_words numbers) (eq-eqb _ _ count) (small_are_words numbers small)

module _ (net : Network) (routes : List PairRoutes) (h : Hose) (e : ℕ) (inside : e < link_count net) (few : link_count net ≤ FORMAT_2.links)
    (most : (p : ℕ) → p < length routes → share routes p e ≤ SHARE_UNIT) where
  pub made : (b : HoseBlock) → b.link ≡ e → length b.tails ≡ node_count net → length b.heads ≡ node_count net →
      IsTightCover (shares_to_cover net routes h e) (slice_index b.tails) (slice_index b.heads) → (b.link ≡ e) × IsMadeBlock net routes h b
  made b link tails heads tight =
      let small_tails = λ (i : ℕ). (tight.small SHARE_UNIT most i).0 in
      let small_heads = λ (i : ℕ). (tight.small SHARE_UNIT most i).1 in
      let word : is_word b.link ≡ true = lt-ltb _ _ (omega (arith, link, inside, few)) in (
        link,
        record {
          link = omega (arith, link, inside);
          shaped = and_from (is_word b.link && is_row_of (node_count net) b.tails) (is_row_of (node_count net) b.heads)
              (and_from (is_word b.link) (is_row_of (node_count net) b.tails) word (row_is (node_count net) b.tails tails small_tails))
              (row_is (node_count net) b.heads heads small_heads);
          tails = small_tails;
          heads = small_heads;
          covers = subst (λ k. IsTightCover (shares_to_cover net routes h k) (slice_index b.tails) (slice_index b.heads)) (sym link) tight;
        },
      )

-- a link is used exactly where some pair is listed
pub used_where_listed : (routes : List PairRoutes) (e : ℕ) (list : List PairShare) → AreSharesOn routes e list → 0 < length list → HasShare routes e
used_where_listed routes e list on some =
    let first = get_or list 0 no_share in
    let told = All-get_or (λ s. (s.pair < length routes) × (0 < s.share) × (s.share ≡ share routes s.pair e)) list 0 no_share some on.shares in
    (first.pair, told.0, subst (λ n. 0 < n) told.2 told.1)

pub unused_where_none : (routes : List PairRoutes) (e : ℕ) (list : List PairShare) → AreSharesOn routes e list → length list ≡ 0 → HasShare routes e → ⊥
unused_where_none routes e list on none used =
    let listed = on.complete used.0 used.1 used.2 in
    let within = listed.2 in
    omega (arith, within, none)
