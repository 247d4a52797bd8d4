-- What stays where an amount goes over one share more, or over one share in place of another.
use Rattle.std.proofs.Common.{◌≡◌, ◌∙◌, ℕ, ◌+◌, ◌^◌, ◌<◌, ◌≤◌, ◌==◌, List, length, slice_index, arith, refl, ap, sym, subst, inl, inr}
use Rattle.std.specs.Prelude.{if◌then◌else◌}
use Rattle.std.proofs.lemmas.Bool.{cases_eq}
use Rattle.std.proofs.lemmas.Bool.Decides.{nat_tests}
use Rattle.te_model.specs.Counting.{sum_below}
use Rattle.te_model.proofs.Sums.{sum_below-same, sum_below-term}
use Rattle.cover_search.specs.declared.reach.Reached.{Reached}
use Rattle.cover_search.specs.declared.transport.EndShare.{EndShare}
use Rattle.cover_search.specs.declared.transport.Transport.{Transport}
use Rattle.cover_search.specs.Transport.{HasCounts, IsTight, IsTransport, destination_at, end_amount, received_at, sent_at, source_at}
use Rattle.cover_search.specs.Ways.{AreWays, IsMoved, added_at, taken_at}
use Rattle.cover_search.proofs.Amounts.{added_here, added_other, end_amount_added, end_amount_taken, sum_one_more, taken_here, taken_le, taken_other, total_sent}

module _ (shares : List EndShare) (old new : Transport) (is : IsTransport shares old) (tails : new.tails ≡ old.tails) (heads : new.heads ≡ old.heads) where
  -- the numbers are the same, and so is all that is said of them alone
  pub same_numbers : HasCounts shares new → ((i : ℕ) → sent_at shares new i ≡ sent_at shares old i) → ((i : ℕ) → received_at shares new i ≡ received_at shares old i) →
      ((k : ℕ) → k < length shares → 0 < slice_index new.demand k → IsTight shares old k) →
      ((i : ℕ) → 0 < slice_index old.heads i → slice_index new.unreceived i ≡ 0) → IsMoved shares old new
  same_numbers counts sent received tight spent = record {
    transport = record {
      counts = counts;
      few_nodes = rw tails is.few_nodes;
      ends = rw tails is.ends;
      tails = λ i. rw tails (is.tails i);
      heads = λ i. rw heads (is.heads i);
      sent = λ i. let same = sent i in let most = is.sent i in omega (arith, same, most);
      received = λ i. let same = received i in let most = is.received i in omega (arith, same, most);
      covers = λ k below. rw (tails, heads) (is.covers k below);
      tight = λ k below some. rw (tails, heads) (tight k below some);
      spent = λ i some. spent i (rw heads at some);
    };
    tails = tails;
    heads = heads;
    sent = sent;
    received = received;
  }

  -- an amount over share k
  pub sent_over : (k a : ℕ) → k < length shares → IsTight shares old k → a ≤ slice_index old.unsent (source_at shares k) → a ≤ slice_index old.unreceived (destination_at shares k) →
      HasCounts shares new → ((i : ℕ) → slice_index new.demand i ≡ added_at (slice_index old.demand) k a i) →
      ((i : ℕ) → slice_index new.unsent i ≡ taken_at (slice_index old.unsent) (source_at shares k) a i) →
      ((i : ℕ) → slice_index new.unreceived i ≡ taken_at (slice_index old.unreceived) (destination_at shares k) a i) → IsMoved shares old new
  sent_over k a below tight enough room counts demand unsent unreceived =
      same_numbers counts
      (λ i. total_sent (source_at shares k) i a (end_amount shares (source_at shares) (slice_index old.demand) i) (end_amount shares (source_at shares) (slice_index new.demand) i)
      (slice_index old.unsent) (slice_index new.unsent)
      (end_amount_added shares (source_at shares) (slice_index old.demand) (slice_index new.demand) k a i below demand) enough unsent)
      (λ i. total_sent (destination_at shares k) i a (end_amount shares (destination_at shares) (slice_index old.demand) i) (end_amount shares (destination_at shares) (slice_index new.demand) i)
      (slice_index old.unreceived) (slice_index new.unreceived)
      (end_amount_added shares (destination_at shares) (slice_index old.demand) (slice_index new.demand) k a i below demand) room unreceived)
      (λ j j_in some. elim (cases_eq j k) [
        | inl same ↦ subst (IsTight shares old) (sym same) tight
        | inr other ↦
            let at = demand j in
            let there = added_other (slice_index old.demand) k a j other in
            is.tight j j_in (omega (arith, some, at, there))
      ])
      (λ i some.
      let at = unreceived i in
      let less = taken_le (slice_index old.unreceived) (destination_at shares k) a i in
      let none = is.spent i some in
      omega (arith, at, less, none))

  -- an amount over share k in place of share back
  pub exchanged : (k back a : ℕ) → k < length shares → back < length shares → destination_at shares k ≡ destination_at shares back → IsTight shares old k →
      a ≤ slice_index old.unsent (source_at shares k) → a ≤ slice_index old.demand back → HasCounts shares new →
      ((i : ℕ) → slice_index new.demand i ≡ added_at (taken_at (slice_index old.demand) back a) k a i) →
      ((i : ℕ) → slice_index new.unsent i ≡ added_at (taken_at (slice_index old.unsent) (source_at shares k) a) (source_at shares back) a i) →
      new.unreceived ≡ old.unreceived → IsMoved shares old new
  exchanged k back a below back_below same_end tight enough there counts demand unsent unreceived =
      let middle = taken_at (slice_index old.demand) back a in
      let rest = taken_at (slice_index old.unsent) (source_at shares k) a in
      same_numbers counts
      (λ i.
      let less = end_amount_taken shares (source_at shares) (slice_index old.demand) middle back a i back_below there (λ j. refl) in
      let more = end_amount_added shares (source_at shares) middle (slice_index new.demand) k a i below demand in
      exchanged_total (source_at shares k) (source_at shares back) i a (end_amount shares (source_at shares) (slice_index old.demand) i) (end_amount shares (source_at shares) middle i)
      (end_amount shares (source_at shares) (slice_index new.demand) i) (slice_index old.unsent) (slice_index new.unsent) less more enough unsent)
      (λ i.
      let less = end_amount_taken shares (destination_at shares) (slice_index old.demand) middle back a i back_below there (λ j. refl) in
      let more = end_amount_added shares (destination_at shares) middle (slice_index new.demand) k a i below demand in
      let same = ap (λ d. if d == i then a else 0) same_end in
      rw unreceived (omega (arith, less, more, same)))
      (λ j j_in some. elim (cases_eq j k) [
        | inl same ↦ subst (IsTight shares old) (sym same) tight
        | inr other ↦
            let at = demand j in
            let here = added_other middle k a j other in
            let less = taken_le (slice_index old.demand) back a j in
            is.tight j j_in (omega (arith, some, at, here, less))
      ])
      (λ i some. rw unreceived (is.spent i some))
    where
      exchanged_total : (one other i a before middle after : ℕ) (rest rest' : ℕ → ℕ) → before ≡ middle + (if other == i then a else 0) → after ≡ middle + (if one == i then a else 0) →
          a ≤ rest one → ((k : ℕ) → rest' k ≡ added_at (taken_at rest one a) other a k) → after + rest' i ≡ before + rest i
      exchanged_total one other i a before middle after rest rest' less more enough is =
          let at = is i in elim (cases_eq one i) [
            | inl same ↦ elim (cases_eq other i) [ inl same' ↦ grind (arith, nat_tests) | inr differ' ↦ grind (arith, nat_tests) ]
            | inr differ ↦ elim (cases_eq other i) [ inl same' ↦ grind (arith, nat_tests) | inr differ' ↦ grind (arith, nat_tests) ]
          ]

-- what may still be sent where tails are above 0, where the source of a share sends more of it
open_term : (tail rest rest' a : ℕ) → 0 < tail → rest ≡ rest' + a → (if tail == 0 then 0 else rest) ≡ (if tail == 0 then 0 else rest') + a
open_term tail rest rest' a some is = grind (arith, nat_tests)

pub open_less : (n i a : ℕ) (tails rest rest' : ℕ → ℕ) → i < n → 0 < tails i → a ≤ rest i → ((k : ℕ) → rest' k ≡ taken_at rest i a k) →
    sum_below n (λ k. if tails k == 0 then 0 else rest k) ≡ sum_below n (λ k. if tails k == 0 then 0 else rest' k) + a
open_less n i a tails rest rest' below some enough is =
    sum_one_more n i a (λ k. if tails k == 0 then 0 else rest' k) (λ k. if tails k == 0 then 0 else rest k) below
    (open_term (tails i) (rest i) (rest' i) a some (let at = is i in let here = taken_here rest i a in omega (arith, at, here, enough)))
    (λ k k_in other. ap (λ v. if tails k == 0 then 0 else v) (sym (is k ∙ taken_other rest i a k other)))

pub open_more : (n i a : ℕ) (tails rest rest' : ℕ → ℕ) → i < n → 0 < tails i → ((k : ℕ) → rest' k ≡ added_at rest i a k) →
    sum_below n (λ k. if tails k == 0 then 0 else rest' k) ≡ sum_below n (λ k. if tails k == 0 then 0 else rest k) + a
open_more n i a tails rest rest' below some is =
    sum_one_more n i a (λ k. if tails k == 0 then 0 else rest k) (λ k. if tails k == 0 then 0 else rest' k) below
    (open_term (tails i) (rest' i) (rest i) a some (let at = is i in let here = added_here rest i a in omega (arith, at, here)))
    (λ k k_in other. ap (λ v. if tails k == 0 then 0 else v) (is k ∙ added_other rest i a k other))

closed_term : (tail rest rest' : ℕ) → tail ≡ 0 → (if tail == 0 then 0 else rest') ≡ (if tail == 0 then 0 else rest)
closed_term tail rest rest' none = grind (arith, nat_tests)

pub open_same : (n i a : ℕ) (tails rest rest' : ℕ → ℕ) → tails i ≡ 0 → ((k : ℕ) → rest' k ≡ added_at rest i a k) →
    sum_below n (λ k. if tails k == 0 then 0 else rest' k) ≡ sum_below n (λ k. if tails k == 0 then 0 else rest k)
open_same n i a tails rest rest' none is =
    sum_below-same n (λ k. if tails k == 0 then 0 else rest' k) (λ k. if tails k == 0 then 0 else rest k)
    (λ k k_in. elim (cases_eq k i) [
      | inl same ↦ closed_term (tails k) (rest k) (rest' k) (ap tails same ∙ none)
      | inr other ↦ ap (λ v. if tails k == 0 then 0 else v) (is k ∙ added_other rest i a k other)
    ])

picked_term : (a b x : ℕ) → a ≡ b → x ≤ (if a == b then x else 0)
picked_term a b x same = grind (arith, nat_tests)

-- what goes over a share, and what its source may send beside that, is within the hose
pub demand_small : (shares : List EndShare) (t : Transport) (k : ℕ) → IsTransport shares t → k < length shares → slice_index t.demand k + slice_index t.unsent (source_at shares k) ≤ 2 ^ 32
demand_small shares t k is below =
    let term = sum_below-term (length shares) k (λ h. if source_at shares h == source_at shares k then slice_index t.demand h else 0) below in
    let own = picked_term (source_at shares k) (source_at shares k) (slice_index t.demand k) refl in
    let most = is.sent (source_at shares k) in
    omega (arith, term, own, most)

-- one move after another
pub moved_on : (shares : List EndShare) (a b c : Transport) → IsMoved shares a b → IsMoved shares b c → IsMoved shares a c
moved_on shares a b c one two = record {
  transport = two.transport;
  tails = two.tails ∙ one.tails;
  heads = two.heads ∙ one.heads;
  sent = λ i. two.sent i ∙ one.sent i;
  received = λ i. two.received i ∙ one.received i;
}

pub not_moved : (shares : List EndShare) (t : Transport) → IsTransport shares t → IsMoved shares t t
not_moved shares t is = record { transport = is; tails = refl; heads = refl; sent = λ i. refl; received = λ i. refl }

-- the ways are the same under the same numbers
pub ways_stay : (shares : List EndShare) (old new : Transport) (r : Reached) → IsMoved shares old new → AreWays shares old r → AreWays shares new r
ways_stay shares old new r moved ways =
    let tails = moved.tails in
    let heads = moved.heads in
    record {
      sources = rw tails ways.sources;
      destinations = rw tails ways.destinations;
      forward = rw tails ways.forward;
      backward = rw tails ways.backward;
      ended = λ i one. rw tails (ways.ended i one);
      tailed = λ i more. rw tails (ways.tailed i more);
      onward = λ i more.
          let on = ways.onward i more in
          record { share = on.share; source = on.source; tight = rw (tails, heads) on.tight; some = on.some; less = on.less };
      back = ways.back;
    }
