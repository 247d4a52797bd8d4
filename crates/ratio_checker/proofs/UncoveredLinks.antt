-- The first link on which a share is not covered, one pair after another, and what it says of each link.
use Rattle.std.proofs.Common.{◌≡◌, ℕ, ◌+◌, ◌<◌, ◌≤◌, Bool, true, false, Option, Some, None, List, length, arith, ap, sym, ◌∙◌, inl, inr, add-one, [], ◌∷◌}
use Rattle.std.specs.Prelude.{if◌then◌else◌}
use Rattle.std.proofs.lemmas.Bool.{cases_lt, cases_eq, eq-eqb, ne_eqb}
use Rattle.te_model.specs.declared.route.PairRoutes.{PairRoutes}
use Rattle.te_model.specs.declared.certificate.Block.{Block}
use Rattle.te_model.specs.declared.certificate.Certificate.{Certificate}
use Rattle.te_model.specs.declared.inequality.InequalityFault.{InequalityFault}
use Rattle.te_model.specs.Counting.{or_else, first_some, first_below, unless}
use Rattle.te_model.specs.Network.{link_count}
use Rattle.te_model.specs.Certificate.{block_of}
use Rattle.te_model.specs.Inequalities.{covers_share, failure_at, potentials_failure, shares_failure, keeps_bounds, pays_weights, block_failure, of_link}
use Rattle.te_model.proofs.Tests.{unless_none, or_else_none, first_below_none_at, first_failing_none_at}
use Rattle.te_model.proofs.FeasibleBlocks.{of_link_none}
use Rattle.te_model.proofs.Searches.{first_below_more, first_below_some, unless_some}
use Rattle.ratio_checker.specs.declared.shares.Uncovered.{Uncovered}
use Rattle.ratio_checker.specs.Uncovered.{failure_among, IsFirstUncovered, fault_on}

-- the link found, or else the number of links
abbrev pub limit_of : Option Uncovered → ℕ → ℕ
limit_of None links = links
limit_of (Some u) links = u.link

module _ (routes : List PairRoutes) (blocks : List Block) (links n : ℕ) where
  pub limit_within : (u : Option Uncovered) → IsFirstUncovered routes blocks links n u → limit_of u links ≤ links
  limit_within None is = omega arith
  limit_within (Some u) is = omega (arith, is.0)

  none_before : (u : Option Uncovered) → IsFirstUncovered routes blocks links n u → (e : ℕ) → e < limit_of u links → failure_among routes blocks n e ≡ None
  none_before None is e below = is e below
  none_before (Some u) is e below = is.2 e below

  -- one pair more that is covered on link e
  covered_more : (e : ℕ) → failure_among routes blocks n e ≡ None → covers_share routes (block_of blocks e) n ≡ true →
      failure_among routes blocks (n + 1) e ≡ None
  covered_more e before covered =
      first_below_more n (λ p. unless (covers_share routes (block_of blocks e) p) (failure_at 2 p)) before (ap (λ b. unless b (failure_at 2 n)) covered)

  kept_more : (e : ℕ) (f : InequalityFault) → failure_among routes blocks n e ≡ Some f → failure_among routes blocks (n + 1) e ≡ Some f
  kept_more e f before =
      rw add-one (ap (λ o. or_else o (unless (covers_share routes (block_of blocks e) n) (failure_at 2 n))) before)

  found_more : (e : ℕ) → failure_among routes blocks n e ≡ None → covers_share routes (block_of blocks e) n ≡ false →
      failure_among routes blocks (n + 1) e ≡ Some (failure_at 2 n)
  found_more e before fails =
      rw add-one (ap (λ o. or_else o (unless (covers_share routes (block_of blocks e) n) (failure_at 2 n))) before
      ∙ ap (λ b. unless b (failure_at 2 n)) fails)

  pub uncovered_stays : (u : Option Uncovered) → IsFirstUncovered routes blocks links n u →
      first_below (limit_of u links) (λ e. unless (covers_share routes (block_of blocks e) n) e) ≡ None →
      IsFirstUncovered routes blocks links (n + 1) u
  uncovered_stays None is none = λ e below.
      covered_more e (is e below) (first_failing_none_at links (λ k. covers_share routes (block_of blocks k) n) (λ k. k) e none below)
  uncovered_stays (Some u) is none = (
    is.0,
    kept_more u.link (failure_at 2 u.pair) is.1,
    λ e below. covered_more e (is.2 e below) (first_failing_none_at u.link (λ k. covers_share routes (block_of blocks k) n) (λ k. k) e none below),
  )

  pub uncovered_moves : (u : Option Uncovered) (link : ℕ) → IsFirstUncovered routes blocks links n u →
      first_below (limit_of u links) (λ e. unless (covers_share routes (block_of blocks e) n) e) ≡ Some link →
      IsFirstUncovered routes blocks links (n + 1) (Some (record { link = link; pair = n }))
  uncovered_moves u link is some =
      let found = first_below_some (limit_of u links) (λ e. unless (covers_share routes (block_of blocks e) n) e) link some in
      let at = unless_some (covers_share routes (block_of blocks found.place) n) found.place link found.answers in
      let same : found.place ≡ link = at.1 in
      let within = found.within in
      let below : link < limit_of u links = omega arith in
      let fails : covers_share routes (block_of blocks link) n ≡ false = ap (λ e. covers_share routes (block_of blocks e) n) (sym same) ∙ at.0 in (
        omega (arith, limit_within u is),
        found_more link (none_before u is link below) fails,
        λ e less. covered_more e (none_before u is e (omega arith))
            (unless_none (covers_share routes (block_of blocks e) n) e (found.before e (omega arith))),
      )

-- where nothing fails of a link, nothing fails of I2
no_share_fails : (c : Certificate) (e k : ℕ) → first_below e (λ j. of_link j (block_failure c.head (block_of c.blocks j))) ≡ None → k < e →
    shares_failure c.head.routes (block_of c.blocks k) ≡ None
no_share_fails c e k none below =
    let b = block_of c.blocks k in
    let whole = of_link_none k (block_failure c.head b) (first_below_none_at e (λ j. of_link j (block_failure c.head (block_of c.blocks j))) k none below) in
    let rest = or_else_none (potentials_failure c.head.network b)
    (first_some (shares_failure c.head.routes b ∷ unless (keeps_bounds c.head.set (length c.head.routes) b) (failure_at 3 0) ∷ unless (pays_weights c.head.network b c.head.ratio) (failure_at 4 0) ∷ []))
    whole in
    (or_else_none (shares_failure c.head.routes b)
    (first_some (unless (keeps_bounds c.head.set (length c.head.routes) b) (failure_at 3 0) ∷ unless (pays_weights c.head.network b c.head.ratio) (failure_at 4 0) ∷ [])) rest.1).0

-- what fails of I2 on link e, where nothing fails of the links before it
pub fault_here : (c : Certificate) (u : Option Uncovered) (e : ℕ) →
    IsFirstUncovered c.head.routes c.blocks (link_count c.head.network) (length c.head.routes) u → e < link_count c.head.network →
    first_below e (λ k. of_link k (block_failure c.head (block_of c.blocks k))) ≡ None →
    fault_on u e ≡ shares_failure c.head.routes (block_of c.blocks e)
fault_here c None e is below none = sym (is e below)
fault_here c (Some u) e is below none =
    elim (cases_eq u.link e) [
      | inl same ↦
          ap (λ (b : Bool). if b then Some (failure_at 2 u.pair) else None) (eq-eqb u.link e same)
          ∙ (sym is.1 ∙ ap (λ k. shares_failure c.head.routes (block_of c.blocks k)) same)
      | inr other ↦
          ap (λ (b : Bool). if b then Some (failure_at 2 u.pair) else None) (ne_eqb u.link e other)
          ∙ elim (cases_lt e u.link) [
            | inl lt ↦ sym (is.2 e lt)
            | inr ge ↦
                let past : u.link < e = elim (cases_lt u.link e) [ inl lt ↦ lt | inr le ↦ absurd (other (omega arith)) ] in
                absurd (clash (sym is.1 ∙ no_share_fails c e u.link none past))
          ]
    ]
  where
    clash : Some (failure_at 2 u.pair) ≡ None → ⊥
    clash e = cc
