-- What is still to come falls: where an amount moves along a way, and where tails are lowered.
use Rattle.std.proofs.Common.{◌≡◌, ◌∙◌, ◌⊎◌, ℕ, ◌+◌, ◌*◌, ◌<◌, ◌≤◌, ◌==◌, Some, None, List, length, slice_index, arith, refl, ap, sym, subst, inl, inr}
use Rattle.std.specs.Prelude.{if◌then◌else◌}
use Rattle.std.proofs.Math.Nat.{mul-le-mul_left}
use Rattle.std.proofs.lemmas.Bool.{cases_eq, cases_lt}
use Rattle.std.proofs.lemmas.List.{get_or_past}
use Rattle.te_model.specs.Counting.{sum_below}
use Rattle.te_model.proofs.Sums.{sum_below-le, sum_below-same}
use Rattle.cover_search.specs.declared.reach.Reached.{Reached}
use Rattle.cover_search.specs.declared.transport.EndShare.{EndShare}
use Rattle.cover_search.specs.declared.transport.Transport.{Transport}
use Rattle.cover_search.specs.Transport.{IsTransport, cover_amount, destination_at, received_at, sent_at, shares_amount, source_at}
use Rattle.cover_search.specs.Ways.{AreOpen, AreWays, GoesOn, IsImproved, IsLowered, IsMoved, added_at, open_amount, taken_at}
use Rattle.cover_search.proofs.Amounts.{added_here, added_other, taken_other}
use Rattle.cover_search.proofs.Moves.{open_less, open_more, open_same}
use Rattle.cover_search.proofs.Values.{amounts_agree, less_product, open_falls, sum_falls}

added_up : (f : ℕ → ℕ) (p a i : ℕ) → f i ≤ added_at f p a i
added_up f p a i = elim (cases_eq i p) [
  | inl same ↦ subst (λ j. f j ≤ added_at f p a j) (sym same) (let here = added_here f p a in omega (arith, here))
  | inr other ↦ let there = added_other f p a i other in omega (arith, there)
]

inside : (xs : List ℕ) (i n : ℕ) → length xs ≡ n → 0 < slice_index xs i → i < n
inside xs i n count some = elim (cases_lt i n) [
  | inl below ↦ below
  | inr past ↦ absurd (let none = get_or_past xs i 0 (omega (arith, past, count)) in omega (arith, none, some))
]

module _ (shares : List EndShare) (old new : Transport) (r : Reached) (source a : ℕ) (ways : AreWays shares old r) (more : 1 < slice_index r.sources source)
    (tails : new.tails ≡ old.tails) where
  below : source < length old.tails
  below = inside r.sources source (length old.tails) ways.sources (omega (arith, more))

  -- sent to an end
  pub sent_to_end : a ≤ slice_index old.unsent source → ((i : ℕ) → slice_index new.unsent i ≡ taken_at (slice_index old.unsent) source a i) → open_amount old ≡ open_amount new + a
  sent_to_end enough unsent = rw tails (open_less (length old.tails) source a (slice_index old.tails) (slice_index old.unsent) (slice_index new.unsent) below (ways.tailed source more) enough unsent)

  -- handed on to another source
  module _ (next : ℕ) (enough : a ≤ slice_index old.unsent source) (unsent : (i : ℕ) → slice_index new.unsent i ≡ added_at (taken_at (slice_index old.unsent) source a) next a i) where
    first : open_amount old ≡ sum_below (length old.tails) (λ i. if slice_index old.tails i == 0 then 0 else taken_at (slice_index old.unsent) source a i) + a
    first = open_less (length old.tails) source a (slice_index old.tails) (slice_index old.unsent) (taken_at (slice_index old.unsent) source a) below (ways.tailed source more) enough (λ k. refl)

    pub handed_to_zero : slice_index old.tails next ≡ 0 → open_amount old ≡ open_amount new + a
    handed_to_zero none =
        let second = open_same (length old.tails) next a (slice_index old.tails) (taken_at (slice_index old.unsent) source a) (slice_index new.unsent) none unsent in
        let one = first in
        rw tails (omega (arith, one, second))

    pub handed_on : 0 < slice_index old.tails next → open_amount old ≡ open_amount new
    handed_on some =
        let second = open_more (length old.tails) next a (slice_index old.tails) (taken_at (slice_index old.unsent) source a) (slice_index new.unsent) (inside old.tails next (length old.tails) refl some) some unsent in
        let one = first in
        rw tails (omega (arith, one, second))

    pub no_more : open_amount new ≤ open_amount old
    no_more = elim (cases_lt 0 (slice_index old.tails next)) [
      | inl some ↦ let same = handed_on some in omega (arith, same)
      | inr none ↦ let less = handed_to_zero (omega (arith, none)) in omega (arith, less)
    ]

    -- the rest of the way is open
    pub goes_on : (k back : ℕ) → 0 < a → next ≡ source_at shares back → destination_at shares back ≡ destination_at shares k → back ≡ slice_index r.backward (destination_at shares k) →
        slice_index r.destinations (destination_at shares k) < slice_index r.sources source → slice_index r.sources next < slice_index r.destinations (destination_at shares k) →
        ((i : ℕ) → slice_index new.demand i ≡ added_at (taken_at (slice_index old.demand) back a) k a i) → new.unreceived ≡ old.unreceived →
        AreOpen old r (slice_index r.sources source) → GoesOn shares old r source new (Some next)
    goes_on k back some is same_end back_is less less' demand unreceived opened = elim (cases_lt 0 (slice_index old.tails next)) [
      | inr none ↦ inl (let falls = handed_to_zero (omega (arith, none)) in omega (arith, falls, some))
      | inl tail ↦ inr (
        rw tails tail,
        (let at = unsent next in let here = added_here (taken_at (slice_index old.unsent) source a) next a in omega (arith, at, here, some)),
        record {
          room = λ i one. rw unreceived (opened.room i one);
          amount = λ i many fewer.
              let was = opened.amount i many (omega (arith, fewer, less, less')) in
              let other : slice_index r.backward i ≡ back → ⊥ =
              λ same.
              let own = (ways.back i many).destination in
              let end' : i ≡ destination_at shares k = sym own ∙ (ap (destination_at shares) same ∙ same_end) in
              let number = ap (slice_index r.destinations) end' in
              omega (arith, number, fewer, less')
              in
              let at = demand (slice_index r.backward i) in
              let up = added_up (taken_at (slice_index old.demand) back a) k a (slice_index r.backward i) in
              let same = taken_other (slice_index old.demand) back a (slice_index r.backward i) other in
              omega (arith, was, at, up, same);
        },
      )
    ]

-- the same numbers come to the same
pub moved_improves : (shares : List EndShare) (old new : Transport) → IsMoved shares old new → open_amount new < open_amount old → IsImproved shares old new
moved_improves shares old new moved less =
    let same : cover_amount shares new ≡ cover_amount shares old =
    rw (moved.tails, moved.heads) (sum_below-same (length old.tails) (λ i. sent_at shares new i * slice_index old.tails i + received_at shares new i * slice_index old.heads i)
    (λ i. sent_at shares old i * slice_index old.tails i + received_at shares old i * slice_index old.heads i)
    (λ i below. rw (moved.sent i, moved.received i) refl))
    in
    record {
      transport = moved.transport;
      count = ap (λ (l : List ℕ). length l) moved.tails;
      sent = moved.sent;
      received = moved.received;
      less = omega (arith, same, less);
    }

-- the tail of a source that could still send falls
pub lowered_improves : (shares : List EndShare) (old new : Transport) (r : Reached) (p : ℕ) → IsTransport shares old → IsLowered shares old r new → p < length old.tails →
    slice_index r.sources p ≡ 0 → 0 < slice_index old.unsent p → IsImproved shares old new
lowered_improves shares old new r p is lowered inside_nodes none some =
    let n = length old.tails in
    let before = amounts_agree shares old is in
    let after = amounts_agree shares new lowered.transport in
    let same_over : shares_amount shares new ≡ shares_amount shares old = rw lowered.demand refl in
    let same_rest : sum_below (length new.tails) (λ i. slice_index new.unsent i * slice_index new.tails i) ≡ sum_below n (λ i. slice_index old.unsent i * slice_index new.tails i) =
    rw (lowered.unsent, lowered.count) refl
    in
    let falls = sum_falls n p (λ i. slice_index old.unsent i * slice_index new.tails i) (λ i. slice_index old.unsent i * slice_index old.tails i) inside_nodes
    (λ i. product_le (slice_index old.unsent i) (slice_index old.tails i) (slice_index new.tails i) (lowered.fall i))
    (less_product (slice_index old.unsent p) (slice_index old.tails p) (slice_index new.tails p) some (lowered.less p inside_nodes none)) in
    let fewer_open : open_amount new ≤ open_amount old =
    rw (lowered.unsent, lowered.count) (sum_below-le n (λ i. if slice_index new.tails i == 0 then 0 else slice_index old.unsent i) (λ i. if slice_index old.tails i == 0 then 0 else slice_index old.unsent i)
    (λ i i_in. open_falls (slice_index old.tails i) (slice_index new.tails i) (slice_index old.unsent i) (lowered.fall i)))
    in
    record {
      transport = lowered.transport;
      count = lowered.count;
      sent = λ i. rw (lowered.demand, lowered.unsent) refl;
      received = λ i. rw (lowered.demand, lowered.unreceived) refl;
      less = omega (arith, before, after, same_over, same_rest, falls, fewer_open);
    }
  where
    product_le : (u t t' : ℕ) → t' ≤ t → u * t' ≤ u * t
    product_le u t t' le = mul-le-mul_left {m = t'} {n = t} u le

-- what is known of a walk that began at a source of which more can be sent, and is at another: less is open, or the rest of the way is open
abbrev pub IsOnWay : Transport → Transport → Reached → ℕ → Type 0
IsOnWay start t r place =
    (open_amount t < open_amount start)
    ⊎ ((0 < slice_index r.sources place) × (0 < slice_index t.tails place) × (0 < slice_index t.unsent place) × AreOpen t r (slice_index r.sources place))

pub walks_on : (shares : List EndShare) (start t new : Transport) (r : Reached) (place next : ℕ) → open_amount t ≤ open_amount start → open_amount new ≤ open_amount t →
    0 < slice_index r.sources next →
    (0 < slice_index t.tails place → 0 < slice_index t.unsent place → AreOpen t r (slice_index r.sources place) → GoesOn shares t r place new (Some next)) →
    IsOnWay start t r place → IsOnWay start new r next
walks_on shares start t new r place next before after some goes (inl falls) = inl (omega (arith, falls, after))
walks_on shares start t new r place next before after some goes (inr (here, tail, unsent, opened)) = elim (goes tail unsent opened) [
  | inl less ↦ inl (omega (arith, less, before))
  | inr (tail', unsent', opened') ↦ inr (some, tail', unsent', opened')
]

pub walk_ends : (shares : List EndShare) (start t new : Transport) (r : Reached) (place : ℕ) → open_amount t ≤ open_amount start → open_amount new ≤ open_amount t →
    (0 < slice_index t.tails place → 0 < slice_index t.unsent place → AreOpen t r (slice_index r.sources place) → GoesOn shares t r place new None) →
    IsOnWay start t r place → open_amount new < open_amount start
walk_ends shares start t new r place before after goes (inl falls) = omega (arith, falls, after)
walk_ends shares start t new r place before after goes (inr (here, tail, unsent, opened)) = let less = goes tail unsent opened in omega (arith, less, before)

-- a way whose number is 1 or less has been walked
pub walk_done : (shares : List EndShare) (start t : Transport) (r : Reached) (place : ℕ) → AreWays shares t r → slice_index r.sources place ≤ 1 → IsOnWay start t r place →
    open_amount t < open_amount start
walk_done shares start t r place ways few (inl falls) = falls
walk_done shares start t r place ways few (inr (here, tail, unsent, opened)) = absurd (let none = ways.ended place (omega (arith, here, few)) in omega (arith, none, tail))
