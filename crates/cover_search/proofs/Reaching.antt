-- One node more that has a way to an end.
use Rattle.std.proofs.Common.{◌≡◌, ◌∙◌, ℕ, ◌+◌, ◌<◌, ◌≤◌, ◌==◌, ◌^◌, List, length, slice_index, arith, refl, sym, subst, inl, inr}
use Rattle.std.specs.Prelude.{if◌then◌else◌}
use Rattle.std.proofs.lemmas.Bool.{cases_eq, cases_lt}
use Rattle.std.proofs.lemmas.Bool.Decides.{nat_tests}
use Rattle.std.proofs.lemmas.List.{get_or_past}
use Rattle.te_model.proofs.Sums.{sum_below-bound}
use Rattle.cover_search.specs.declared.reach.Reached.{Reached}
use Rattle.cover_search.specs.declared.transport.EndShare.{EndShare}
use Rattle.cover_search.specs.declared.transport.Transport.{Transport}
use Rattle.cover_search.specs.Transport.{IsTight, IsTransport, destination_at, source_at}
use Rattle.cover_search.specs.Ways.{AreOpen, IsBack, IsOnward, IsReaching, put_at, unreached_below, unreached_count}
use Rattle.cover_search.proofs.Lowering.{end_at}
use Rattle.cover_search.proofs.Values.{sum_falls}

pub put_here : (f : ℕ → ℕ) (p v : ℕ) → put_at f p v p ≡ v
put_here f p v = grind (arith, nat_tests)

pub put_other : (f : ℕ → ℕ) (p v i : ℕ) → (i ≡ p → ⊥) → put_at f p v i ≡ f i
put_other f p v i other = grind (arith, nat_tests)

none_term : (a : ℕ) → 0 < a → (if a == 0 then 1 else 0) ≤ 0
none_term a some = grind (arith, nat_tests)

one_term : (a : ℕ) → a ≡ 0 → 1 ≤ (if a == 0 then 1 else 0)
one_term a none = grind (arith, nat_tests)

marks_same : (a b : ℕ) → a ≡ b → (if a == 0 then 1 else 0) ≤ (if b == 0 then 1 else 0)
marks_same a b same = grind (arith, nat_tests)

-- fewer are without a number
pub fewer : (n p v : ℕ) (f g : ℕ → ℕ) → p < n → f p ≡ 0 → 0 < v → ((i : ℕ) → g i ≡ put_at f p v i) → unreached_below n g < unreached_below n f
fewer n p v f g below none some is =
    let here : g p ≡ v = is p ∙ put_here f p v in
    let zero' = none_term (g p) (omega (arith, here, some)) in
    let one = one_term (f p) none in
    sum_falls n p (λ i. if g i == 0 then 1 else 0) (λ i. if f i == 0 then 1 else 0) below
    (λ i. elim (cases_eq i p) [
      | inl same ↦ let at : (if g i == 0 then 1 else 0) ≤ 0 = (subst (λ k. (if g k == 0 then 1 else 0) ≤ 0) (sym same) zero') in omega (arith, at)
      | inr other ↦ let at : (if g i == 0 then 1 else 0) ≤ (if f i == 0 then 1 else 0) = marks_same (g i) (f i) (is i ∙ put_other f p v i other) in omega (arith, at)
    ])
    (omega (arith, zero', one))

module _ (shares : List EndShare) (t : Transport) (r r' : Reached) (k : ℕ) (is : IsTransport shares t) (reaching : IsReaching shares t r) (below : k < length shares)
    (last : r'.last ≡ r.last + 1) where
  -- the source of share k, from which a way goes on over it
  module _ (none : slice_index r.sources (source_at shares k) ≡ 0) (there : 0 < slice_index r.destinations (destination_at shares k)) (tight : IsTight shares t k)
      (sources_count : length r'.sources ≡ length r.sources) (forward_count : length r'.forward ≡ length r.forward)
      (sources : (i : ℕ) → slice_index r'.sources i ≡ put_at (slice_index r.sources) (source_at shares k) (r.last + 1) i)
      (forward : (i : ℕ) → slice_index r'.forward i ≡ put_at (slice_index r.forward) (source_at shares k) k i)
      (destinations : r'.destinations ≡ r.destinations) (backward : r'.backward ≡ r.backward) where
    here : slice_index r'.sources (source_at shares k) ≡ r.last + 1
    here = sources (source_at shares k) ∙ put_here (slice_index r.sources) (source_at shares k) (r.last + 1)

    there_too : (i : ℕ) → (i ≡ source_at shares k → ⊥) → slice_index r'.sources i ≡ slice_index r.sources i
    there_too i other = sources i ∙ put_other (slice_index r.sources) (source_at shares k) (r.last + 1) i other

    -- those with a number keep it
    kept : (i : ℕ) → 0 < slice_index r.sources i → slice_index r'.sources i ≡ slice_index r.sources i
    kept i some = there_too i (λ same. let at : slice_index r.sources i ≡ 0 = subst (λ j. slice_index r.sources j ≡ 0) (sym same) none in omega (arith, some, at))

    way_on : (i : ℕ) → 1 < slice_index r'.sources i → IsOnward shares t r' i (slice_index r'.forward i)
    way_on i more = elim (cases_eq i (source_at shares k)) [
      | inl same ↦
          let next : slice_index r'.forward i ≡ k = subst (λ j. slice_index r'.forward j ≡ k) (sym same) (forward (source_at shares k) ∙ put_here (slice_index r.forward) (source_at shares k) k) in
          let number : slice_index r'.sources i ≡ r.last + 1 = subst (λ j. slice_index r'.sources j ≡ r.last + 1) (sym same) here in
          let small = (reaching.last (destination_at shares k)).1 in
          subst (IsOnward shares t r' i) (sym next) (record {
            share = below;
            source = sym same;
            tight = tight;
            some = rw destinations there;
            less = rw destinations (omega (arith, number, small));
          })
      | inr other ↦
          let next = forward i ∙ put_other (slice_index r.forward) (source_at shares k) k i other in
          let number = there_too i other in
          let old = reaching.ways.onward i (omega (arith, more, number)) in
          subst (IsOnward shares t r' i) (sym next) (record {
            share = old.share;
            source = old.source;
            tight = old.tight;
            some = rw destinations old.some;
            less = rw destinations (let lower = old.less in omega (arith, lower, number));
          })
    ]

    way_back : (i : ℕ) → 1 < slice_index r'.destinations i → IsBack shares r' i (slice_index r'.backward i)
    way_back i more =
        let old = reaching.ways.back i (rw destinations at more) in
        let same = kept (source_at shares (slice_index r.backward i)) old.some in
        rw backward (record {
          share = old.share;
          destination = old.destination;
          some = (let some = old.some in omega (arith, some, same));
          less = rw destinations (let lower = old.less in omega (arith, lower, same));
        })

    count_falls : unreached_count t r' < unreached_count t r
    count_falls =
        let falls = fewer (length t.tails) (source_at shares k) (r.last + 1) (slice_index r.sources) (slice_index r'.sources) (end_at shares t k is below).0 none (omega arith) sources in
        let same : unreached_below (length t.tails) (slice_index r'.destinations) ≡ unreached_below (length t.tails) (slice_index r.destinations) = rw destinations refl in
        omega (arith, falls, same)

    pub source_reached : IsReaching shares t r'
    source_reached = record {
      ways = record {
        sources = sources_count ∙ reaching.ways.sources;
        destinations = rw destinations reaching.ways.destinations;
        forward = forward_count ∙ reaching.ways.forward;
        backward = rw backward reaching.ways.backward;
        ended = λ i one. elim (cases_eq i (source_at shares k)) [
          | inl same ↦
              let number : slice_index r'.sources i ≡ r.last + 1 = subst (λ j. slice_index r'.sources j ≡ r.last + 1) (sym same) here in
              let first = reaching.first in
              absurd (omega (arith, one, number, first))
          | inr other ↦ reaching.ways.ended i (let number = there_too i other in omega (arith, one, number))
        ];
        tailed = λ i more. elim (cases_eq i (source_at shares k)) [
          | inl same ↦
              subst (λ j. 0 < slice_index t.tails j) (sym same) (elim (cases_lt 0 (slice_index t.tails (source_at shares k))) [
                | inl some ↦ some
                | inr zero' ↦ absurd (let number = reaching.ends.zero (source_at shares k) (end_at shares t k is below).0 (omega (arith, zero')) in omega (arith, number, none))
              ])
          | inr other ↦ reaching.ways.tailed i (let number = there_too i other in omega (arith, more, number))
        ];
        onward = way_on;
        back = way_back;
      };
      are_open = λ m. record {
        room = λ i one. (reaching.are_open m).room i (rw destinations at one);
        amount = λ i more less. rw backward ((reaching.are_open m).amount i (rw destinations at more) (rw destinations at less));
      };
      ends = record {
        zero = λ i i_in none'.
            elim (cases_eq i (source_at shares k)) [
              | inl same ↦ let number : slice_index r'.sources i ≡ r.last + 1 = subst (λ j. slice_index r'.sources j ≡ r.last + 1) (sym same) here in omega (arith, number)
              | inr other ↦ let number = there_too i other in let some = reaching.ends.zero i i_in none' in omega (arith, number, some)
            ];
        room = λ i some. rw destinations (reaching.ends.room i some);
      };
      last = λ i. (
        elim (cases_eq i (source_at shares k)) [
          | inl same ↦ let number : slice_index r'.sources i ≡ r.last + 1 = subst (λ j. slice_index r'.sources j ≡ r.last + 1) (sym same) here in omega (arith, number, last)
          | inr other ↦ let number = there_too i other in let most = (reaching.last i).0 in omega (arith, number, most, last)
        ],
        rw destinations (let most = (reaching.last i).1 in omega (arith, most, last)),
      );
      first = omega (arith, last);
      few = (let falls = count_falls in let few = reaching.few in omega (arith, falls, few, last));
    }

    pub source_fewer : unreached_count t r' < unreached_count t r
    source_fewer = count_falls

  -- the destination of share k, from which a way goes back over it
  module _ (none : slice_index r.destinations (destination_at shares k) ≡ 0) (there : 0 < slice_index r.sources (source_at shares k)) (over : 0 < slice_index t.demand k)
      (destinations_count : length r'.destinations ≡ length r.destinations) (backward_count : length r'.backward ≡ length r.backward)
      (destinations : (i : ℕ) → slice_index r'.destinations i ≡ put_at (slice_index r.destinations) (destination_at shares k) (r.last + 1) i)
      (backward : (i : ℕ) → slice_index r'.backward i ≡ put_at (slice_index r.backward) (destination_at shares k) k i)
      (sources : r'.sources ≡ r.sources) (forward : r'.forward ≡ r.forward) where
    here_to : slice_index r'.destinations (destination_at shares k) ≡ r.last + 1
    here_to = destinations (destination_at shares k) ∙ put_here (slice_index r.destinations) (destination_at shares k) (r.last + 1)

    there_too_to : (i : ℕ) → (i ≡ destination_at shares k → ⊥) → slice_index r'.destinations i ≡ slice_index r.destinations i
    there_too_to i other = destinations i ∙ put_other (slice_index r.destinations) (destination_at shares k) (r.last + 1) i other

    kept_to : (i : ℕ) → 0 < slice_index r.destinations i → slice_index r'.destinations i ≡ slice_index r.destinations i
    kept_to i some = there_too_to i (λ same. let at : slice_index r.destinations i ≡ 0 = subst (λ j. slice_index r.destinations j ≡ 0) (sym same) none in omega (arith, some, at))

    next_back : (i : ℕ) → i ≡ destination_at shares k → slice_index r'.backward i ≡ k
    next_back i same = subst (λ j. slice_index r'.backward j ≡ k) (sym same) (backward (destination_at shares k) ∙ put_here (slice_index r.backward) (destination_at shares k) k)

    number_here : (i : ℕ) → i ≡ destination_at shares k → slice_index r'.destinations i ≡ r.last + 1
    number_here i same = subst (λ j. slice_index r'.destinations j ≡ r.last + 1) (sym same) here_to

    way_back_to : (i : ℕ) → 1 < slice_index r'.destinations i → IsBack shares r' i (slice_index r'.backward i)
    way_back_to i more = elim (cases_eq i (destination_at shares k)) [
      | inl same ↦
          let number = number_here i same in
          let small = (reaching.last (source_at shares k)).0 in
          subst (IsBack shares r' i) (sym (next_back i same)) (record {
            share = below;
            destination = sym same;
            some = rw sources there;
            less = rw sources (omega (arith, number, small));
          })
      | inr other ↦
          let next = backward i ∙ put_other (slice_index r.backward) (destination_at shares k) k i other in
          let number = there_too_to i other in
          let old = reaching.ways.back i (omega (arith, more, number)) in
          subst (IsBack shares r' i) (sym next) (record {
            share = old.share;
            destination = old.destination;
            some = rw sources old.some;
            less = rw sources (let lower = old.less in omega (arith, lower, number));
          })
    ]

    way_on_to : (i : ℕ) → 1 < slice_index r'.sources i → IsOnward shares t r' i (slice_index r'.forward i)
    way_on_to i more =
        let old = reaching.ways.onward i (rw sources at more) in
        let same = kept_to (destination_at shares (slice_index r.forward i)) old.some in
        rw forward (record {
          share = old.share;
          source = old.source;
          tight = old.tight;
          some = (let some = old.some in omega (arith, some, same));
          less = rw sources (let lower = old.less in omega (arith, lower, same));
        })

    count_falls_to : unreached_count t r' < unreached_count t r
    count_falls_to =
        let falls = fewer (length t.tails) (destination_at shares k) (r.last + 1) (slice_index r.destinations) (slice_index r'.destinations) (end_at shares t k is below).1 none (omega arith) destinations in
        let same : unreached_below (length t.tails) (slice_index r'.sources) ≡ unreached_below (length t.tails) (slice_index r.sources) = rw sources refl in
        omega (arith, falls, same)

    open_too : (m : ℕ) → AreOpen t r' m
    open_too m = record {
      room = λ i one. elim (cases_eq i (destination_at shares k)) [
        | inl same ↦ absurd (let number = number_here i same in let first = reaching.first in omega (arith, one, number, first))
        | inr other ↦ (reaching.are_open m).room i (let number = there_too_to i other in omega (arith, one, number))
      ];
      amount = λ i more less. elim (cases_eq i (destination_at shares k)) [
        | inl same ↦ subst (λ j. 0 < slice_index t.demand j) (sym (next_back i same)) over
        | inr other ↦
            let next = backward i ∙ put_other (slice_index r.backward) (destination_at shares k) k i other in
            let number = there_too_to i other in
            subst (λ j. 0 < slice_index t.demand j) (sym next) ((reaching.are_open m).amount i (omega (arith, more, number)) (omega (arith, less, number)))
      ];
    }

    pub destination_reached : IsReaching shares t r'
    destination_reached = record {
      ways = record {
        sources = rw sources reaching.ways.sources;
        destinations = destinations_count ∙ reaching.ways.destinations;
        forward = rw forward reaching.ways.forward;
        backward = backward_count ∙ reaching.ways.backward;
        ended = λ i one. reaching.ways.ended i (rw sources at one);
        tailed = λ i more. reaching.ways.tailed i (rw sources at more);
        onward = way_on_to;
        back = way_back_to;
      };
      are_open = open_too;
      ends = record {
        zero = λ i i_in none'. rw sources (reaching.ends.zero i i_in none');
        room = λ i some. elim (cases_eq i (destination_at shares k)) [
          | inl same ↦ let number = number_here i same in omega (arith, number)
          | inr other ↦ let number = there_too_to i other in let more = reaching.ends.room i some in omega (arith, number, more)
        ];
      };
      last = λ i. (
        rw sources (let most = (reaching.last i).0 in omega (arith, most, last)),
        elim (cases_eq i (destination_at shares k)) [
          | inl same ↦ let number = number_here i same in omega (arith, number, last)
          | inr other ↦ let number = there_too_to i other in let most = (reaching.last i).1 in omega (arith, number, most, last)
        ],
      );
      first = omega (arith, last);
      few = (let falls = count_falls_to in let few = reaching.few in omega (arith, falls, few, last));
    }

    pub destination_fewer : unreached_count t r' < unreached_count t r
    destination_fewer = count_falls_to

-- ---- the ends alone

zero_mark : (a m : ℕ) → m ≡ (if a == 0 then 1 else 0) → (m ≤ 1) × (m ≡ 1 → a ≡ 0) × (a ≡ 0 → 0 < m)
zero_mark a m is = elim (cases_eq a 0) [
  | inl none ↦ let one : m ≡ 1 = grind (arith, nat_tests) in (omega (arith, one), λ e. none, λ e. omega (arith, one))
  | inr some ↦ let nothing : m ≡ 0 = grind (arith, nat_tests) in (omega (arith, nothing), λ e. absurd (omega (arith, e, nothing)), λ e. absurd (some e))
]

some_mark : (a m : ℕ) → m ≡ (if a == 0 then 0 else 1) → (m ≤ 1) × (m ≡ 1 → 0 < a) × (0 < a → 0 < m)
some_mark a m is = elim (cases_eq a 0) [
  | inl none ↦ let nothing : m ≡ 0 = grind (arith, nat_tests) in (omega (arith, nothing), λ e. absurd (omega (arith, e, nothing)), λ e. absurd (omega (arith, e, none)))
  | inr some ↦ let one : m ≡ 1 = grind (arith, nat_tests) in (omega (arith, one), λ e. omega (arith, some), λ e. omega (arith, one))
]

count_small : (n : ℕ) (f : ℕ → ℕ) → unreached_below n f ≤ n
count_small n f = let most = sum_below-bound n 1 (λ i. if f i == 0 then 1 else 0) (λ i below. one_at_most (f i)) in omega (arith, most)
  where
    one_at_most : (a : ℕ) → (if a == 0 then 1 else 0) ≤ 1
    one_at_most a = grind (arith, nat_tests)

module _ (t : Transport) (r : Reached) (few : length t.tails ≤ 2 ^ 32) (room_count : length t.unreceived ≡ length t.tails) (last : r.last ≡ 1)
    (sources_count : length r.sources ≡ length t.tails) (destinations_count : length r.destinations ≡ length t.unreceived)
    (forward_count : length r.forward ≡ length t.tails) (backward_count : length r.backward ≡ length t.tails)
    (sources : (i : ℕ) → i < length t.tails → slice_index r.sources i ≡ (if slice_index t.tails i == 0 then 1 else 0))
    (destinations : (i : ℕ) → i < length t.unreceived → slice_index r.destinations i ≡ (if slice_index t.unreceived i == 0 then 0 else 1)) where
  source_one : (i : ℕ) → (slice_index r.sources i ≤ 1) × (slice_index r.sources i ≡ 1 → slice_index t.tails i ≡ 0)
  source_one i = elim (cases_lt i (length t.tails)) [
    | inl below ↦ let mark = zero_mark (slice_index t.tails i) (slice_index r.sources i) (sources i below) in (mark.0, mark.1)
    | inr past ↦ let none = get_or_past r.sources i 0 (omega (arith, past, sources_count)) in (omega (arith, none), λ e. absurd (omega (arith, e, none)))
  ]

  destination_one : (i : ℕ) → (slice_index r.destinations i ≤ 1) × (slice_index r.destinations i ≡ 1 → 0 < slice_index t.unreceived i)
  destination_one i = elim (cases_lt i (length t.unreceived)) [
    | inl below ↦ let mark = some_mark (slice_index t.unreceived i) (slice_index r.destinations i) (destinations i below) in (mark.0, mark.1)
    | inr past ↦ let none = get_or_past r.destinations i 0 (omega (arith, past, destinations_count)) in (omega (arith, none), λ e. absurd (omega (arith, e, none)))
  ]

  pub ends_reaching : (shares : List EndShare) → IsReaching shares t r
  ends_reaching shares = record {
    ways = record {
      sources = sources_count;
      destinations = destinations_count ∙ room_count;
      forward = forward_count;
      backward = backward_count;
      ended = λ i one. (source_one i).1 one;
      tailed = λ i more. absurd (let one = (source_one i).0 in omega (arith, more, one));
      onward = λ i more. absurd (let one = (source_one i).0 in omega (arith, more, one));
      back = λ i more. absurd (let one = (destination_one i).0 in omega (arith, more, one));
    };
    are_open = λ m. record {
      room = λ i one. (destination_one i).1 one;
      amount = λ i more less. absurd (let one = (destination_one i).0 in omega (arith, more, one));
    };
    ends = record {
      zero = λ i below none. (zero_mark (slice_index t.tails i) (slice_index r.sources i) (sources i below)).2 none;
      room = λ i some. elim (cases_lt i (length t.unreceived)) [
        | inl below ↦ (some_mark (slice_index t.unreceived i) (slice_index r.destinations i) (destinations i below)).2 some
        | inr past ↦ absurd (let none = get_or_past t.unreceived i 0 past in omega (arith, some, none))
      ];
    };
    last = λ i. (let one = (source_one i).0 in omega (arith, one, last), let one = (destination_one i).0 in omega (arith, one, last));
    first = omega (arith, last);
    few = (let one = count_small (length t.tails) (slice_index r.sources) in let two = count_small (length t.tails) (slice_index r.destinations) in omega (arith, one, two, last, few));
  }
