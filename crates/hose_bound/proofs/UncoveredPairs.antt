-- The first link on which a share is not covered, one pair after another, and what it says of each link.
use Rattle.std.proofs.Common.{◌≡◌, ℕ, ◌+◌, ◌<◌, ◌≤◌, Bool, true, false, Option, Some, None, List, length, arith, ap, refl, sym, ◌∙◌, inl, inr, add-one}
use Rattle.std.specs.Prelude.{if◌then◌else◌}
use Rattle.std.specs.Option.{option_or}
use Rattle.std.proofs.lemmas.Bool.{cases_lt, cases_eq, eq-eqb, ne_eqb}
use Rattle.te_model.specs.declared.network.Network.{Network}
use Rattle.te_model.specs.declared.route.PairRoutes.{PairRoutes}
use Rattle.te_model.specs.declared.inequality.InequalityFault.{InequalityFault}
use Rattle.te_model.specs.Counting.{or_else, first_below, unless}
use Rattle.te_model.specs.Inequalities.{failure_at, of_link}
use Rattle.te_model.specs.Network.{link_count}
use Rattle.te_model.proofs.Tests.{unless_none, or_else_none, first_below_none_at, first_failing_none_at}
use Rattle.te_model.proofs.FeasibleBlocks.{of_link_none}
use Rattle.te_model.proofs.Searches.{first_below_more, first_below_some, unless_some}
use Rattle.hose_bound.specs.declared.hose.HoseBlock.{HoseBlock}
use Rattle.hose_bound.specs.declared.hose.HoseCert.{HoseCert}
use Rattle.hose_bound.specs.declared.pairs.UncoveredPair.{UncoveredPair}
use Rattle.hose_bound.specs.Judging.{failure_among, IsFirstUncoveredPair, fault_of_pairs}
use Rattle.hose_bound.specs.Verdict.{hose_block_of, covers_pair, pays_numbers, failure_on}

-- the link found, or else the number of links
abbrev pub limit_of : Option UncoveredPair → ℕ → ℕ
limit_of None links = links
limit_of (Some u) links = u.link

module _ (routes : List PairRoutes) (blocks : List HoseBlock) (links n : ℕ) where
  pub limit_within : (u : Option UncoveredPair) → IsFirstUncoveredPair routes blocks links n u → limit_of u links ≤ links
  limit_within None is = omega arith
  limit_within (Some u) is = omega (arith, is.0)

  none_before : (u : Option UncoveredPair) → IsFirstUncoveredPair routes blocks links n u → (e : ℕ) → e < limit_of u links → failure_among routes blocks n e ≡ None
  none_before None is e below = is e below
  none_before (Some u) is e below = is.2 e below

  -- one pair more that is covered on link e
  covered_more : (e : ℕ) → failure_among routes blocks n e ≡ None → covers_pair routes e (hose_block_of blocks e) n ≡ true →
      failure_among routes blocks (n + 1) e ≡ None
  covered_more e before is =
      first_below_more n (λ p. unless (covers_pair routes e (hose_block_of blocks e) p) (failure_at 1 p)) before (ap (λ b. unless b (failure_at 1 n)) is)

  kept_more : (e : ℕ) (f : InequalityFault) → failure_among routes blocks n e ≡ Some f → failure_among routes blocks (n + 1) e ≡ Some f
  kept_more e f before =
      rw add-one (ap (λ o. or_else o (unless (covers_pair routes e (hose_block_of blocks e) n) (failure_at 1 n))) before)

  found_more : (e : ℕ) → failure_among routes blocks n e ≡ None → covers_pair routes e (hose_block_of blocks e) n ≡ false →
      failure_among routes blocks (n + 1) e ≡ Some (failure_at 1 n)
  found_more e before fails =
      rw add-one (ap (λ o. or_else o (unless (covers_pair routes e (hose_block_of blocks e) n) (failure_at 1 n))) before
      ∙ ap (λ b. unless b (failure_at 1 n)) fails)

  pub uncovered_stays : (u : Option UncoveredPair) → IsFirstUncoveredPair routes blocks links n u →
      first_below (limit_of u links) (λ e. unless (covers_pair routes e (hose_block_of blocks e) n) e) ≡ None →
      IsFirstUncoveredPair routes blocks links (n + 1) u
  uncovered_stays None is none = λ e below.
      covered_more e (is e below) (first_failing_none_at links (λ k. covers_pair routes k (hose_block_of blocks k) n) (λ k. k) e none below)
  uncovered_stays (Some u) is none = (
    is.0,
    kept_more u.link (failure_at 1 u.pair) is.1,
    λ e below. covered_more e (is.2 e below) (first_failing_none_at u.link (λ k. covers_pair routes k (hose_block_of blocks k) n) (λ k. k) e none below),
  )

  pub uncovered_moves : (u : Option UncoveredPair) (link : ℕ) → IsFirstUncoveredPair routes blocks links n u →
      first_below (limit_of u links) (λ e. unless (covers_pair routes e (hose_block_of blocks e) n) e) ≡ Some link →
      IsFirstUncoveredPair routes blocks links (n + 1) (Some (record { link = link; pair = n }))
  uncovered_moves u link is some =
      let found = first_below_some (limit_of u links) (λ e. unless (covers_pair routes e (hose_block_of blocks e) n) e) link some in
      let at = unless_some (covers_pair routes found.place (hose_block_of blocks found.place) n) found.place link found.answers in
      let same : found.place ≡ link = at.1 in
      let within = found.within in
      let below : link < limit_of u links = omega arith in
      let fails : covers_pair routes link (hose_block_of blocks link) n ≡ false = ap (λ e. covers_pair routes e (hose_block_of blocks e) n) (sym same) ∙ at.0 in (
        omega (arith, limit_within u is),
        found_more link (none_before u is link below) fails,
        λ e less. covered_more e (none_before u is e (omega arith))
            (unless_none (covers_pair routes e (hose_block_of blocks e) n) e (found.before e (omega arith))),
      )

-- where nothing fails of a link, nothing fails of H1
no_pair_fails : (net : Network) (routes : List PairRoutes) (c : HoseCert) (e k : ℕ) → first_below e (λ j. of_link j (failure_on net routes c j)) ≡ None → k < e →
    failure_among routes c.blocks (length routes) k ≡ None
no_pair_fails net routes c e k none below =
    let whole = of_link_none k (failure_on net routes c k) (first_below_none_at e (λ j. of_link j (failure_on net routes c j)) k none below) in
    (or_else_none (failure_among routes c.blocks (length routes) k) (unless (pays_numbers net c.hose c.bound k (hose_block_of c.blocks k)) (failure_at 2 0)) whole).0

-- what fails of H1 on link e, where nothing fails of the links before it
pub fault_here : (net : Network) (routes : List PairRoutes) (c : HoseCert) (u : Option UncoveredPair) (e : ℕ) →
    IsFirstUncoveredPair routes c.blocks (link_count net) (length routes) u → e < link_count net →
    first_below e (λ k. of_link k (failure_on net routes c k)) ≡ None →
    fault_of_pairs u e ≡ failure_among routes c.blocks (length routes) e
fault_here net routes c None e is below none = sym (is e below)
fault_here net routes c (Some u) e is below none =
    elim (cases_eq u.link e) [
      | inl same ↦
          ap (λ (b : Bool). if b then Some (failure_at 1 u.pair) else None) (eq-eqb u.link e same)
          ∙ (sym is.1 ∙ ap (λ k. failure_among routes c.blocks (length routes) k) same)
      | inr other ↦
          ap (λ (b : Bool). if b then Some (failure_at 1 u.pair) else None) (ne_eqb u.link e other)
          ∙ elim (cases_lt e u.link) [
            | inl lt ↦ sym (is.2 e lt)
            | inr ge ↦
                let past : u.link < e = elim (cases_lt u.link e) [ inl lt ↦ lt | inr le ↦ absurd (other (omega arith)) ] in
                absurd (clash (sym is.1 ∙ no_pair_fails net routes c e u.link none past))
          ]
    ]
  where
    clash : Some (failure_at 1 u.pair) ≡ None → ⊥
    clash e = cc

or_same : {A : Type 0} (x y : Option A) → option_or x y ≡ or_else x y
or_same (Some x) y = refl
or_same None y = refl

-- what is found of a link, pairs first
pub found_on : (net : Network) (routes : List PairRoutes) (c : HoseCert) (e : ℕ) (pairs bound found : Option InequalityFault) →
    found ≡ option_or pairs bound → pairs ≡ failure_among routes c.blocks (length routes) e →
    bound ≡ unless (pays_numbers net c.hose c.bound e (hose_block_of c.blocks e)) (failure_at 2 0) → found ≡ failure_on net routes c e
found_on net routes c e pairs bound found is pairs_is bound_is = is ∙ (or_same pairs bound ∙ rw (pairs_is, bound_is) refl)
