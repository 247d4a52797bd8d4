use Rattle.std.proofs.Common.{inl, inr, ◌≡◌, ℕ, List, length, arith, ap, sym, ◌∙◌, subst, Bor}
use Rattle.std.proofs.lemmas.List.{get_or_default}
use Rattle.te_model.specs.declared.route.PathShare.{PathShare}
use Rattle.routing.specs.Merge.{HasLinks, links_at, no_path}
use Rattle.rate_sweeps.specs.Choices.{IsLeastAmong}
use Rattle.rate_sweeps.proofs.shifting.target_of.Goals as goal
use Rattle.rate_sweeps.proofs.shifting.target_of.Goals.{then-paths-limit, else-paths-limit}

pub returns : goal.returns
returns c =
    let own = c.args.route.now.paths in
    let paths = c.as_slice-paths.result.now in
    let to = c.in_ok-copy.copy.items in
    let same : paths ≡ own = c.as_slice-paths.ensures in
    let count : length paths ≡ length own = ap (λ (l : List PathShare). length l) same in
    elim c.if-paths-limit.branch [
      | then-paths-limit w ↦
          let is : to ≡ c.args.offered.now.links = c.in_ok-copy.ensures.items ∙ (ap (λ (b : Bor (List ℕ)). b.now) w.links-is ∙ w.as_slice-links.ensures) in
          inl (omega (arith, w.if-paths-limit.true, count), is)
      | else-paths-limit w ↦
          let k = w.cheapest.result in
          let here : w.as_slice-links-else-paths-limit.result.now ≡ links_at paths k =
          w.as_slice-links-else-paths-limit.ensures ∙ ap (λ (s : PathShare). s.links) (get_or_default paths k w.index-paths-cheapest.result no_path w.cheapest.ensures.inside)
          in
          let is : links_at paths k ≡ to = sym (c.in_ok-copy.ensures.items ∙ (ap (λ (b : Bor (List ℕ)). b.now) w.links-is ∙ here)) in
          let lengths = c.args.lengths.now in
          let least : IsLeastAmong lengths paths to = subst (IsLeastAmong lengths paths) is (λ j below. w.cheapest.ensures.least.least j below) in
          inr (
            omega (arith, w.if-paths-limit.false, count),
            subst (λ (l : List PathShare). HasLinks l to) same (k, w.cheapest.ensures.inside, is),
            subst (λ (l : List PathShare). IsLeastAmong lengths l to) same least,
          )
    ]
