-- Numbers that are raised until they cover the shares, and a bound that is raised until it pays.
use Rattle.std.proofs.Common.{◌≡◌, ℕ, ◌+◌, ◌-◌, ◌*◌, ◌<◌, ◌≤◌, List, length, get_or, take, arith, sym, subst, inl, inr}
use Rattle.std.specs.Prelude.{IsTrue}
use Rattle.std.proofs.Math.Nat.{mul-le-mul_left}
use Rattle.std.proofs.lemmas.Bool.{cases_eq, le-leb, leb-true}
use Rattle.std.proofs.lemmas.Bool.Decides.{nat_tests}
use Rattle.std.proofs.lemmas.List.Elements.{All-weaker, All-more, All-get_or}
use Rattle.te_model.specs.declared.network.Network.{Network}
use Rattle.te_model.specs.declared.route.PairRoutes.{PairRoutes}
use Rattle.te_model.specs.declared.units.TheConstants.{SHARE_UNIT}
use Rattle.te_model.specs.Network.{capacity_of}
use Rattle.routing.specs.declared.shares.PairShare.{PairShare}
use Rattle.hose_bound.specs.declared.covers.End.{End}
use Rattle.hose_bound.specs.declared.hose.Hose.{Hose}
use Rattle.hose_bound.specs.declared.hose.HoseBlock.{HoseBlock}
use Rattle.hose_bound.specs.Covering.{CoverShares, end_of, other_end, raised_at}
use Rattle.hose_bound.specs.Verdict.{pays_numbers}

raised_up : (f : ℕ → ℕ) (node least i : ℕ) → f i ≤ raised_at f node least i
raised_up f node least i = grind (arith, nat_tests)

raised_enough : (f : ℕ → ℕ) (node least : ℕ) → least ≤ raised_at f node least node
raised_enough f node least = grind (arith, nat_tests)

pub raised_within : (f bound : ℕ → ℕ) (node least i : ℕ) → f i ≤ bound i → least ≤ bound node → raised_at f node least i ≤ bound i
raised_within f bound node least i below most =
    elim (cases_eq i node) [
      | inl same ↦ let more : least ≤ bound i = subst (λ k. least ≤ bound k) (sym same) most in grind (arith, nat_tests)
      | inr other ↦ grind (arith, nat_tests)
    ]

-- one share more, where the number at its end is raised to what is due of it
pub one_share_more : (end' : End) (routes : List PairRoutes) (shares : List PairShare) (k : ℕ) (s : PairShare) (old new others : ℕ → ℕ) → k < length shares → s ≡ get_or shares k s →
    CoverShares end' routes (take k shares) old others →
    ((i : ℕ) → new i ≡ raised_at old (end_of end' routes s.pair) (s.share - others (end_of (other_end end') routes s.pair)) i) →
    CoverShares end' routes (take (k + 1) shares) new others
one_share_more end' routes shares k s old new others below is cover raised =
    let P : PairShare → Type 0 = λ t. t.share ≤ new (end_of end' routes t.pair) + others (end_of (other_end end') routes t.pair) in
    let node = end_of end' routes s.pair in
    let other = others (end_of (other_end end') routes s.pair) in
    let here : P s = (let at = raised node in let enough = raised_enough old node (s.share - other) in omega (arith, at, enough)) in
    All-more P shares k s below
    (All-weaker (λ t. t.share ≤ old (end_of end' routes t.pair) + others (end_of (other_end end') routes t.pair)) P
    (λ t le.
    let at = raised (end_of end' routes t.pair) in
    let more = raised_up old node (s.share - other) (end_of end' routes t.pair) in
    omega (arith, le, at, more)) (take k shares) cover)
    (subst P is here)

-- no number passes those that cover
pub one_share_least : (end' : End) (routes : List PairRoutes) (shares : List PairShare) (k : ℕ) (s : PairShare) (old new others bound : ℕ → ℕ) → k < length shares → s ≡ get_or shares k s →
    CoverShares end' routes shares bound others → ((i : ℕ) → old i ≤ bound i) →
    ((i : ℕ) → new i ≡ raised_at old (end_of end' routes s.pair) (s.share - others (end_of (other_end end') routes s.pair)) i) → (i : ℕ) → new i ≤ bound i
one_share_least end' routes shares k s old new others bound below is cover within raised i =
    let P : PairShare → Type 0 = λ t. t.share ≤ bound (end_of end' routes t.pair) + others (end_of (other_end end') routes t.pair) in
    let node = end_of end' routes s.pair in
    let other = others (end_of (other_end end') routes s.pair) in
    let here : P s = subst P (sym is) (All-get_or P shares k s below cover) in
    let due : s.share - other ≤ bound node = omega (arith, here) in
    let most = raised_within old bound node (s.share - other) i (within i) due in
    let at = raised i in
    omega (arith, most, at)

-- what pays goes on to pay under a greater bound
pub pays_more : (net : Network) (h : Hose) (bound other : ℕ) (b : HoseBlock) → bound ≤ other → IsTrue (pays_numbers net h bound b.link b) → IsTrue (pays_numbers net h other b.link b)
pays_more net h bound other b up pays =
    le-leb _ _ (omega (arith, leb-true _ _ pays, mul-le-mul_left {m = bound} {n = other} (SHARE_UNIT * capacity_of net b.link) up))
