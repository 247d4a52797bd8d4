-- Tails that are lowered and heads that are raised where no way leads to an end.
use Rattle.std.proofs.Common.{◌≡◌, ◌∙◌, ℕ, ◌+◌, ◌-◌, ◌<◌, ◌≤◌, min, List, length, slice_index, arith, sym, inl, inr}
use Rattle.std.proofs.lemmas.Bool.{cases_lt}
use Rattle.std.proofs.lemmas.Bool.Decides.{nat_tests}
use Rattle.std.proofs.lemmas.List.{get_or_past}
use Rattle.std.proofs.lemmas.List.Elements.{All-get_or}
use Rattle.te_model.specs.declared.units.TheConstants.{SHARE_UNIT}
use Rattle.cover_search.specs.declared.reach.Reached.{Reached}
use Rattle.cover_search.specs.declared.transport.EndShare.{EndShare}
use Rattle.cover_search.specs.declared.transport.Transport.{Transport}
use Rattle.cover_search.specs.Transport.{IsTight, IsTransport, destination_at, end_share, share_at, slack_of, source_at}
use Rattle.cover_search.specs.Ways.{IsBoundary, IsClosed, IsLowered, IsReaching, lowered_where, raised_where}

-- a share with its ends inside the nodes
pub end_at : (shares : List EndShare) (t : Transport) (k : ℕ) → IsTransport shares t → k < length shares →
    (source_at shares k < length t.tails) × (destination_at shares k < length t.tails) × (share_at shares k ≤ SHARE_UNIT)
end_at shares t k is below =
    All-get_or (λ s. (s.source < length t.tails) × (s.destination < length t.tails) × (s.share ≤ SHARE_UNIT)) shares k (record { source = 0; destination = 0; share = 0 }) below is.ends

lowered_in : (orders : List ℕ) (by : ℕ) (f : ℕ → ℕ) (i : ℕ) → slice_index orders i ≡ 0 → lowered_where orders by f i ≡ f i - by
lowered_in orders by f i none = grind (arith, nat_tests)

lowered_out : (orders : List ℕ) (by : ℕ) (f : ℕ → ℕ) (i : ℕ) → 0 < slice_index orders i → lowered_where orders by f i ≡ f i
lowered_out orders by f i some = grind (arith, nat_tests)

raised_in : (orders : List ℕ) (by : ℕ) (f : ℕ → ℕ) (i : ℕ) → slice_index orders i ≡ 0 → raised_where orders by f i ≡ min (f i + by) SHARE_UNIT
raised_in orders by f i none = grind (arith, nat_tests)

raised_out : (orders : List ℕ) (by : ℕ) (f : ℕ → ℕ) (i : ℕ) → 0 < slice_index orders i → raised_where orders by f i ≡ f i
raised_out orders by f i some = grind (arith, nat_tests)

-- the four cases of a share, by whether its ends have ways: s and d are the numbers of the ends, t and h the old numbers, t' and h' the new
pub stays_covered : (share t h t' h' by : ℕ) → share ≤ t + h → share ≤ 1000000 → by ≤ t → t' ≡ t - by → h' ≡ min (h + by) 1000000 → share ≤ t' + h'
stays_covered share t h t' h' by covers small enough tail head = omega (arith, covers, small, enough, tail, head)

pub covered_by_slack : (share t h t' by : ℕ) → by ≤ t → by ≤ (t + h) - share → share ≤ t + h → t' ≡ t - by → share ≤ t' + h
covered_by_slack share t h t' by enough slack covers tail = omega (arith, enough, slack, covers, tail)

pub stays_tight : (share t h t' h' by : ℕ) → (t + h) - share ≡ 0 → by ≤ t → t' ≡ t - by → h' ≡ min (h + by) 1000000 → (t' + h') - share ≡ 0
stays_tight share t h t' h' by tight enough tail head = omega (arith, tight, enough, tail, head)

module _ (shares : List EndShare) (old new : Transport) (r : Reached) (by : ℕ) (is : IsTransport shares old) (reaching : IsReaching shares old r) (closed : IsClosed shares old r)
    (some : 1 ≤ by) (most : by ≤ SHARE_UNIT) (enough : (i : ℕ) → i < length old.tails → slice_index r.sources i ≡ 0 → by ≤ slice_index old.tails i)
    (slack : (k : ℕ) → k < length shares → IsBoundary shares r k → by ≤ slack_of old (end_share shares k))
    (tails_count : length new.tails ≡ length old.tails) (heads_count : length new.heads ≡ length old.heads)
    (tails : (i : ℕ) → slice_index new.tails i ≡ lowered_where r.sources by (slice_index old.tails) i)
    (heads : (i : ℕ) → i < length old.heads → slice_index new.heads i ≡ raised_where r.destinations by (slice_index old.heads) i)
    (demand : new.demand ≡ old.demand) (unsent : new.unsent ≡ old.unsent) (unreceived : new.unreceived ≡ old.unreceived) where
  tail_in : (i : ℕ) → slice_index r.sources i ≡ 0 → slice_index new.tails i ≡ slice_index old.tails i - by
  tail_in i none = tails i ∙ lowered_in r.sources by (slice_index old.tails) i none

  tail_out : (i : ℕ) → 0 < slice_index r.sources i → slice_index new.tails i ≡ slice_index old.tails i
  tail_out i one = tails i ∙ lowered_out r.sources by (slice_index old.tails) i one

  head_in : (i : ℕ) → i < length old.tails → slice_index r.destinations i ≡ 0 → slice_index new.heads i ≡ min (slice_index old.heads i + by) SHARE_UNIT
  head_in i below none = heads i (let count = is.counts.heads in omega (arith, below, count)) ∙ raised_in r.destinations by (slice_index old.heads) i none

  head_out : (i : ℕ) → i < length old.tails → 0 < slice_index r.destinations i → slice_index new.heads i ≡ slice_index old.heads i
  head_out i below one = heads i (let count = is.counts.heads in omega (arith, below, count)) ∙ raised_out r.destinations by (slice_index old.heads) i one

  falls : (i : ℕ) → slice_index new.tails i ≤ slice_index old.tails i
  falls i = elim (cases_lt 0 (slice_index r.sources i)) [
    | inl one ↦ let same = tail_out i one in omega (arith, same)
    | inr none ↦ let less = tail_in i (omega (arith, none)) in omega (arith, less)
  ]

  head_small : (i : ℕ) → slice_index new.heads i ≤ SHARE_UNIT
  head_small i = elim (cases_lt i (length old.tails)) [
    | inr past ↦ let none = get_or_past new.heads i 0 (let count = is.counts.heads in omega (arith, past, count, heads_count)) in omega (arith, none)
    | inl below ↦ elim (cases_lt 0 (slice_index r.destinations i)) [
      | inl one ↦ let same = head_out i below one in let small = is.heads i in omega (arith, same, small)
      | inr none ↦ let more = head_in i below (omega (arith, none)) in omega (arith, more)
    ]
  ]

  covers : (k : ℕ) → k < length shares → share_at shares k ≤ slice_index new.tails (source_at shares k) + slice_index new.heads (destination_at shares k)
  covers k below =
      let s = source_at shares k in
      let d = destination_at shares k in
      let ends = end_at shares old k is below in
      let old_covers = is.covers k below in
      elim (cases_lt 0 (slice_index r.sources s)) [
        | inl one ↦ elim (cases_lt 0 (slice_index r.destinations d)) [
          | inl one' ↦ let same = tail_out s one in let same' = head_out d ends.1 one' in omega (arith, old_covers, same, same')
          | inr none' ↦
              let same = tail_out s one in
              let more = head_in d ends.1 (omega (arith, none')) in
              let small = ends.2 in
              omega (arith, old_covers, same, more, small)
        ]
        | inr none ↦ elim (cases_lt 0 (slice_index r.destinations d)) [
          | inl one' ↦
              let same' = head_out d ends.1 one' in
              let here : slice_index r.sources s ≡ 0 = omega (arith, none) in
              let low = covered_by_slack (share_at shares k) (slice_index old.tails s) (slice_index old.heads d) (slice_index new.tails s) by (enough s ends.0 here) (slack k below (here, one')) old_covers
              (tail_in s here) in
              omega (arith, low, same')
          | inr none' ↦
              let here : slice_index r.sources s ≡ 0 = omega (arith, none) in
              stays_covered (share_at shares k) (slice_index old.tails s) (slice_index old.heads d) (slice_index new.tails s) (slice_index new.heads d) by old_covers ends.2 (enough s ends.0 here)
              (tail_in s here) (head_in d ends.1 (omega (arith, none')))
        ]
      ]

  tight : (k : ℕ) → k < length shares → 0 < slice_index old.demand k → IsTight shares new k
  tight k below over =
      let s = source_at shares k in
      let d = destination_at shares k in
      let ends = end_at shares old k is below in
      let was = is.tight k below over in
      elim (cases_lt 0 (slice_index r.sources s)) [
        | inl one ↦
            let same = tail_out s one in
            let same' = head_out d ends.1 ((closed k below).1 over one) in
            rw (same, same') was
        | inr none ↦ elim (cases_lt 0 (slice_index r.destinations d)) [
          | inl one' ↦ absurd (let reached = (closed k below).0 was one' in omega (arith, none, reached))
          | inr none' ↦
              let here : slice_index r.sources s ≡ 0 = omega (arith, none) in
              stays_tight (share_at shares k) (slice_index old.tails s) (slice_index old.heads d) (slice_index new.tails s) (slice_index new.heads d) by was (enough s ends.0 here)
              (tail_in s here) (head_in d ends.1 (omega (arith, none')))
        ]
      ]

  spent : (i : ℕ) → 0 < slice_index new.heads i → slice_index old.unreceived i ≡ 0
  spent i raised = elim (cases_lt i (length old.tails)) [
    | inr past ↦ get_or_past old.unreceived i 0 (let count = is.counts.unreceived in omega (arith, past, count))
    | inl below ↦ elim (cases_lt 0 (slice_index r.destinations i)) [
      | inl one ↦ is.spent i (let same = head_out i below one in omega (arith, raised, same))
      | inr none ↦ elim (cases_lt 0 (slice_index old.unreceived i)) [
        | inl room ↦ absurd (let one = reaching.ends.room i room in omega (arith, none, one))
        | inr spent' ↦ omega (arith, spent')
      ]
    ]
  ]

  pub lowered : IsLowered shares old r new
  lowered = record {
    transport = record {
      counts = record {
        heads = heads_count ∙ is.counts.heads ∙ sym tails_count;
        demand = rw demand is.counts.demand;
        unsent = rw unsent (is.counts.unsent ∙ sym tails_count);
        unreceived = rw unreceived (is.counts.unreceived ∙ sym tails_count);
      };
      few_nodes = (let few = is.few_nodes in omega (arith, few, tails_count));
      ends = rw tails_count is.ends;
      tails = λ i. let fall = falls i in let small = is.tails i in omega (arith, fall, small);
      heads = head_small;
      sent = λ i. rw (demand, unsent) (is.sent i);
      received = λ i. rw (demand, unreceived) (is.received i);
      covers = covers;
      tight = λ k below over. tight k below (rw demand at over);
      spent = λ i raised. rw unreceived (spent i raised);
    };
    demand = demand;
    unsent = unsent;
    unreceived = unreceived;
    count = tails_count;
    fall = falls;
    less = λ i below none.
        let lower = tail_in i none in
        let deep = enough i below none in
        omega (arith, lower, deep, some);
  }
