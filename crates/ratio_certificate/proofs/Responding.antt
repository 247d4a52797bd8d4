-- What a response reads: the shares of the listed pairs, and the last links before there are any.
use Rattle.std.proofs.Common.{inl, inr, ◌≡◌, ℕ, ◌<◌, ◌≤◌, List, Some, None, length, get_or, replicate, arith, sym, ◌∙◌, subst}
use Rattle.std.specs.Prelude.{All, Option}
use Rattle.std.proofs.lemmas.Bool.{cases_lt}
use Rattle.std.proofs.lemmas.List.{get_or-replicate, get_or_past, length-replicate}
use Rattle.std.proofs.lemmas.List.Elements.{All-get_or}
use Rattle.te_model.specs.declared.network.Network.{Network}
use Rattle.te_model.specs.declared.route.PairRoutes.{PairRoutes}
use Rattle.te_model.specs.declared.demand.DemandSet.{DemandSet}
use Rattle.te_model.specs.Network.{node_count}
use Rattle.te_model.specs.Path.{share}
use Rattle.routing.specs.declared.shares.PairShare.{PairShare}
use Rattle.routing.proofs.Splits.{share-le, splits_of}
use Rattle.best_blocks.specs.declared.sharing.SharedLink.{SharedLink}
use Rattle.best_blocks.specs.Conditions.{IsRoutingWithin}
use Rattle.best_blocks.specs.Sharing.{IsSharedLink}
use Rattle.centred_steps.specs.Ways.{AreLastLinks}

-- the share of a listed pair is at most the whole
pub entry_share : (net : Network) (routes : List PairRoutes) (wanted : DemandSet) (l : SharedLink) (items : List PairShare) (k : ℕ) → IsRoutingWithin net routes →
    IsSharedLink net routes wanted l → items ≡ l.list → k < length items → (get_or items k (record { pair = 0; share = 0 })).share ≤ 1000000
entry_share net routes wanted l items k within shared is below =
    let none : PairShare = record { pair = 0; share = 0 } in
    let listed =
    subst (λ (xs : List PairShare). All (λ (s : PairShare). (s.pair < length routes) × (0 < s.share) × (s.share ≡ share routes s.pair l.link)) xs) (sym is)
    shared.listed.shares
    in
    let (inside, some, same) = All-get_or (λ (s : PairShare). (s.pair < length routes) × (0 < s.share) × (s.share ≡ share routes s.pair l.link)) items k none below listed in
    let whole = share-le routes (get_or items k none).pair l.link (splits_of net routes within.splits) inside in
    omega (arith, whole, same)

some_none : (h : ℕ) (o : Option ℕ) → o ≡ Some h → o ≡ None → ⊥
some_none h o some none = cc

-- where no link is listed, each that is listed is one of the network
pub none_last : (net : Network) (n : ℕ) (lasts : List (Option ℕ)) → lasts ≡ replicate n None → n ≡ node_count net → AreLastLinks net lasts
none_last net n lasts is count = subst (AreLastLinks net) (sym is) (record {
  count = length-replicate n None ∙ count;
  each = λ v h at. elim (cases_lt v n) [
    | inl lt ↦ absurd (some_none h (get_or (replicate n None) v None) at (get_or-replicate n v None None lt))
    | inr ge ↦ absurd (some_none h (get_or (replicate n None) v None) at (get_or_past (replicate n None) v None (omega (arith, ge, length-replicate {A = Option ℕ} n None))))
  ];
})
