-- The first link at which an inequality fails, and what a yes means.
use Rattle.std.proofs.Common.{◌≡◌, ℕ, ◌<◌, true, Option, Some, None, List, length, arith, ap, refl, sym, ◌∙◌, inl, inr, subst}
use Rattle.std.specs.Prelude.{◌↔◌, slice_index}
use Rattle.std.proofs.lemmas.Bool.{cases_lt, le-leb, leb-true, false≢true}
use Rattle.te_model.specs.declared.inequality.InequalityFault.{InequalityFault}
use Rattle.te_model.specs.declared.network.Network.{Network}
use Rattle.te_model.specs.declared.route.PairRoutes.{PairRoutes}
use Rattle.te_model.specs.Counting.{or_else, first_below, unless, IsUpTo}
use Rattle.te_model.specs.Inequalities.{LinkFailure, failure_at, of_link}
use Rattle.te_model.specs.Laws.{PairsJoinNodes}
use Rattle.te_model.specs.Network.{link_count}
use Rattle.te_model.proofs.FeasibleBlocks.{of_link_none}
use Rattle.te_model.proofs.Searches.{first_below_found, first_below_none, first_below_some, or_else_some, unless_some}
use Rattle.te_model.proofs.Tests.{or_else_none, unless_none, first_below_none_at, first_failing_none_at}
use Rattle.hose_bound.specs.declared.hose.HoseCert.{HoseCert}
use Rattle.hose_bound.specs.declared.verdict.HoseVerdict.{HoseVerdict}
use Rattle.hose_bound.specs.declared.verdict.HoseVerdict.TheVariants.{Yes, No}
use Rattle.hose_bound.specs.Hose.{HoseHolds, IsBounded}
use Rattle.hose_bound.specs.Verdict.{hose_block_of, covers_pair, pays_numbers, pairs_failure, failure_on, first_hose_failure, verdict_of, HoldsOnLinks, HoseFailsAt, of_pair, of_bound, IsFirstHoseFailure}
use Rattle.hose_bound.proofs.Bounding.{bounds}

module _ (net : Network) (routes : List PairRoutes) (c : HoseCert) where
  -- both inequalities of link e
  abbrev HoldsOn : ℕ → Type 0
  HoldsOn e =
      HoseHolds net routes (slice_index c.hose.sent) (slice_index c.hose.received) c.bound e
      (slice_index (hose_block_of c.blocks e).tails) (slice_index (hose_block_of c.blocks e).heads)

  no_failure_holds : (e : ℕ) → failure_on net routes c e ≡ None → HoldsOn e
  no_failure_holds e none =
      let b = hose_block_of c.blocks e in
      let both = or_else_none (pairs_failure routes e b (length routes)) (unless (pays_numbers net c.hose c.bound e b) (failure_at 2 0)) none in
      record {
        covers = λ p below. leb-true _ _ (first_failing_none_at (length routes) (covers_pair routes e b) (failure_at 1) p both.0 below);
        pays = leb-true _ _ (unless_none (pays_numbers net c.hose c.bound e b) (failure_at 2 0) both.1);
      }

  holds_no_failure : (e : ℕ) → HoldsOn e → failure_on net routes c e ≡ None
  holds_no_failure e holds =
      let b = hose_block_of c.blocks e in
      let pairs : pairs_failure routes e b (length routes) ≡ None =
      first_below_none (length routes) (λ p. unless (covers_pair routes e b p) (failure_at 1 p))
      (λ p below. ap (λ t. unless t (failure_at 1 p)) (le-leb _ _ (holds.covers p below))) in
      ap (λ o. or_else o (unless (pays_numbers net c.hose c.bound e b) (failure_at 2 0))) pairs
      ∙ ap (λ t. unless t (failure_at 2 0)) (le-leb _ _ holds.pays)

  holds_from_none : first_hose_failure net routes c ≡ None → HoldsOnLinks net routes c
  holds_from_none none e below =
      no_failure_holds e (of_link_none e (failure_on net routes c e)
      (first_below_none_at (link_count net) (λ k. of_link k (failure_on net routes c k)) e none below))

  none_from_holds : HoldsOnLinks net routes c → first_hose_failure net routes c ≡ None
  none_from_holds holds =
      first_below_none (link_count net) (λ k. of_link k (failure_on net routes c k)) (λ e below. ap (of_link e) (holds_no_failure e (holds e below)))

  none_from_yes : (o : Option LinkFailure) → verdict_of o ≡ Yes → o ≡ None
  none_from_yes None e = refl
  none_from_yes (Some f) e = cc

  failure_from_no : (o : Option LinkFailure) (link rule place : ℕ) → verdict_of o ≡ No link rule place →
      o ≡ Some (record { link = link; rule = rule; place = place })
  failure_from_no None link rule place e = cc
  failure_from_no (Some f) link rule place e =
      let l : f.link ≡ link = cc in
      let r : f.rule ≡ rule = cc in
      let p : f.place ≡ place = cc in
      λ i. Some (record { link = l i; rule = r i; place = p i })

  pub failure_found : (e : ℕ) (f : InequalityFault) → e < link_count net →
      first_below e (λ k. of_link k (failure_on net routes c k)) ≡ None → failure_on net routes c e ≡ Some f →
      first_hose_failure net routes c ≡ Some (record { link = e; rule = f.number; place = f.place })
  failure_found e f below before fails =
      first_below_found (link_count net) e (λ k. of_link k (failure_on net routes c k)) _ below before (ap (of_link e) fails)

  pub yes_is_holds : (r : HoseVerdict) → r ≡ verdict_of (first_hose_failure net routes c) → (r ≡ Yes) ↔ HoldsOnLinks net routes c
  yes_is_holds r is = (
    λ said. holds_from_none (none_from_yes (first_hose_failure net routes c) (sym is ∙ said)),
    λ holds. is ∙ ap verdict_of (none_from_holds holds),
  )

  pub yes_is_bound : (r : HoseVerdict) → PairsJoinNodes net routes → r ≡ verdict_of (first_hose_failure net routes c) → r ≡ Yes →
      IsBounded net routes (slice_index c.hose.sent) (slice_index c.hose.received) c.bound
  yes_is_bound r ends is said =
      bounds net routes (slice_index c.hose.sent) (slice_index c.hose.received) c.bound
      (λ e. slice_index (hose_block_of c.blocks e).tails) (λ e. slice_index (hose_block_of c.blocks e).heads) ends ((yes_is_holds r is).0 said)

  -- what a block's search finds fails, and nothing fails before it
  least_on : (e : ℕ) (f : InequalityFault) → failure_on net routes c e ≡ Some f →
      HoseFailsAt net routes c e f.number f.place × ((r k : ℕ) → HoseFailsAt net routes c e r k → IsUpTo f.number f.place r k)
  least_on e f found =
      let b = hose_block_of c.blocks e in
      let P : InequalityFault → Type 0 = λ g. HoseFailsAt net routes c e g.number g.place × ((r k : ℕ) → HoseFailsAt net routes c e r k → IsUpTo g.number g.place r k) in
      elim (or_else_some (pairs_failure routes e b (length routes)) (unless (pays_numbers net c.hose c.bound e b) (failure_at 2 0)) f found) [
        | inl here ↦
            let r = first_below_some (length routes) (λ p. unless (covers_pair routes e b p) (failure_at 1 p)) f here in
            let u = unless_some (covers_pair routes e b r.place) (failure_at 1 r.place) f r.answers in
            subst P u.1 (
              of_pair r.within u.0 refl,
              pair_least e r.place (λ q lt. unless_none (covers_pair routes e b q) (failure_at 1 q) (r.before q lt)),
            )
        | inr later ↦
            let u = unless_some (pays_numbers net c.hose c.bound e b) (failure_at 2 0) f later.1 in
            subst P u.1 (of_bound u.0 refl refl, bound_least e later.0)
      ]
    where
      pair_least : (e p : ℕ) → ((q : ℕ) → q < p → covers_pair routes e (hose_block_of c.blocks e) q ≡ true) →
          (r k : ℕ) → HoseFailsAt net routes c e r k → IsUpTo 1 p r k
      pair_least e p before r k (of_pair k_in fails rule) =
          elim (cases_lt k p) [ inl lt ↦ absurd (false≢true (sym fails ∙ before k lt)) | inr ge ↦ inr (sym rule, ge) ]
      pair_least e p before r k (of_bound fails rule place) = inl (omega (arith, rule))

      bound_least : (e : ℕ) → pairs_failure routes e (hose_block_of c.blocks e) (length routes) ≡ None →
          (r k : ℕ) → HoseFailsAt net routes c e r k → IsUpTo 2 0 r k
      bound_least e none r k (of_pair k_in fails rule) =
          absurd (false≢true (sym fails ∙ first_failing_none_at (length routes) (covers_pair routes e (hose_block_of c.blocks e)) (failure_at 1) k none k_in))
      bound_least e none r k (of_bound fails rule place) = inr (sym rule, omega (arith, place))

  none_fails : (e : ℕ) → failure_on net routes c e ≡ None → (r k : ℕ) → HoseFailsAt net routes c e r k → ⊥
  none_fails e none r k (of_pair k_in fails rule) = false≢true (sym fails ∙ le-leb _ _ ((no_failure_holds e none).covers k k_in))
  none_fails e none r k (of_bound fails rule place) = false≢true (sym fails ∙ le-leb _ _ (no_failure_holds e none).pays)

  of_link_some : (e : ℕ) (o : Option InequalityFault) (f : LinkFailure) → of_link e o ≡ Some f →
      (f.link ≡ e) × (o ≡ Some (failure_at f.rule f.place))
  of_link_some e None f h = cc
  of_link_some e (Some g) f h =
      let same : record { link = e; rule = g.number; place = g.place } ≡ f = cc in
      (sym (ap (λ x. x.link) same), ap (λ x. Some (failure_at x.rule x.place)) same)

  first_is_least : (f : LinkFailure) → first_hose_failure net routes c ≡ Some f → IsFirstHoseFailure net routes c f
  first_is_least f e =
      let search = λ (k : ℕ). of_link k (failure_on net routes c k) in
      let r = first_below_some (link_count net) search f e in
      let here = of_link_some r.place (failure_on net routes c r.place) f r.answers in
      let found = least_on r.place (failure_at f.rule f.place) here.1 in
      record {
        within = omega (arith, r.within, here.0);
        fails = subst (λ e. HoseFailsAt net routes c e f.rule f.place) (sym here.0) found.0;
        least = λ e s k e_in fails.
            elim (cases_lt e r.place) [
              | inl lt ↦ absurd (none_fails e (of_link_none e (failure_on net routes c e) (r.before e lt)) s k fails)
              | inr ge ↦ elim (cases_lt r.place e) [
                | inl later ↦ inl (omega (arith, later, here.0))
                | inr same ↦
                    let is : e ≡ r.place = omega arith in
                    inr (omega (arith, is, here.0), found.1 s k (subst (λ n. HoseFailsAt net routes c n s k) is fails))
              ]
            ];
      }

  pub no_is_first : (r : HoseVerdict) → r ≡ verdict_of (first_hose_failure net routes c) → (link rule place : ℕ) → r ≡ No link rule place →
      IsFirstHoseFailure net routes c (record { link = link; rule = rule; place = place })
  no_is_first r is link rule place said =
      first_is_least (record { link = link; rule = rule; place = place })
      (failure_from_no (first_hose_failure net routes c) link rule place (sym is ∙ said))
