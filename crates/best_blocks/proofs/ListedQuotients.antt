-- The greatest quotient over the list of the pairs with a share is that over all pairs.
use Rattle.std.proofs.Common.{◌≡◌, ℕ, ◌+◌, ◌*◌, ◌<◌, ◌≤◌, List, length, get_or, slice_index, arith, refl, ap, sym, subst, ◌∙◌, inl, inr}
use Rattle.std.specs.List.Sorted.{IsStrictlyIncreasing}
use Rattle.std.proofs.lemmas.Bool.{cases_lt}
use Rattle.std.proofs.lemmas.List.{get_or-map, get_or_read, length-map}
use Rattle.std.proofs.lemmas.List.Elements.{All-get_or}
use Rattle.std.proofs.lemmas.List.Kept.{AllPairs-from_increasing}
use Rattle.te_model.specs.Path.{share}
use Rattle.routing.specs.declared.shares.PairShare.{PairShare}
use Rattle.routing.specs.Shares.{pair_numbers}
use Rattle.routing.proofs.Sharing.{no_share}
use Rattle.best_blocks.specs.declared.quotient.Quotient.{Quotient}
use Rattle.best_blocks.specs.declared.sharing.SharedLink.{SharedLink}
use Rattle.best_blocks.specs.Best.{IsGreatestQuotient}
use Rattle.best_blocks.specs.Quotient.{IsGreatestAt}
use Rattle.best_blocks.specs.Used.{AreSharesListed}
use Rattle.best_blocks.proofs.Quotients.{IsBestSoFar, best_init, best_taken, best_kept, best_of_all}

-- the pair of entry k, its share, and its distance
abbrev pub pair_at : List PairShare → ℕ → ℕ
pair_at list k = (get_or list k no_share).pair

abbrev pub share_at : List PairShare → ℕ → ℕ
share_at list k = (get_or list k no_share).share

abbrev pub distance_at : List PairShare → List ℕ → ℕ → ℕ
distance_at list distances k = slice_index distances (pair_at list k)

-- the pairs of the first n entries have a distance
abbrev pub AreApart : ℕ → List PairShare → List ℕ → Type 0
AreApart n list distances = (k : ℕ) → k < n → 1 ≤ distance_at list distances k

-- an entry is a pair with its share
pub entry_is : (l : SharedLink) (k : ℕ) → AreSharesListed l → k < length l.list →
    (pair_at l.list k < length l.shares) × (0 < share_at l.list k) × (share_at l.list k ≡ slice_index l.shares (pair_at l.list k))
entry_is l k are below =
    let entry = All-get_or (λ (s : PairShare). (s.pair < length are.routes) × (0 < s.share) × (s.share ≡ share are.routes s.pair l.link)) l.list k no_share below are.listed.shares in
    (omega (arith, entry.0, are.shares_are.count), entry.1, entry.2 ∙ sym (are.shares_are.each (pair_at l.list k) entry.0))

-- a pair with a share has an entry
pub entry_of : (l : SharedLink) (p : ℕ) → AreSharesListed l → p < length l.shares → 0 < slice_index l.shares p → (k : ℕ) × (k < length l.list) × (pair_at l.list k ≡ p)
entry_of l p are below some =
    let within : p < length are.routes = omega (arith, below, are.shares_are.count) in
    let (k, x, inside, read, is) = are.listed.complete p within (omega (arith, some, are.shares_are.each p within)) in
    (k, inside, ap (λ (s : PairShare). s.pair) (sym (get_or_read l.list k x inside (sym read) no_share)) ∙ is)

-- pairs of later entries are greater
later : (list : List PairShare) (i j : ℕ) → IsStrictlyIncreasing (pair_numbers list) → i < length list → pair_at list i < pair_at list j → i < j
later list i j up inside less =
    elim (cases_lt i j) [
      | inl lt ↦ lt
      | inr ge ↦ elim (cases_lt j i) [
        | inl before ↦
            let first : get_or (pair_numbers list) j 0 ≡ pair_at list j = get_or-map (λ (s : PairShare). s.pair) list j no_share 0 (omega (arith, before, inside)) in
            let second : get_or (pair_numbers list) i 0 ≡ pair_at list i = get_or-map (λ (s : PairShare). s.pair) list i no_share 0 inside in
            let order = AllPairs-from_increasing (pair_numbers list) up j i 0 before (omega (arith, inside, length-map list (λ (s : PairShare). s.pair))) in
            absurd (omega (arith, less, first, second, order))
        | inr after ↦
            let same : i ≡ j = omega (arith, ge, after) in
            absurd (omega (arith, less, ap (pair_at list) same))
      ]
    ]

pub apart_none : (list : List PairShare) (distances : List ℕ) → AreApart 0 list distances
apart_none list distances = λ k none. absurd (omega (arith, none))

pub apart_more : (i : ℕ) (list items : List PairShare) (distances : List ℕ) → items ≡ list → AreApart i list distances → 1 ≤ distance_at items distances i →
    AreApart (i + 1) list distances
apart_more i list items distances same so next = λ k below. elim (cases_lt k i) [
  | inl lt ↦ so k lt
  | inr ge ↦
      let last : i ≡ k = omega (arith, ge, below) in
      subst (λ j. 1 ≤ distance_at list distances j) last (subst (λ (xs : List PairShare). 1 ≤ distance_at xs distances i) same next)
]

-- where all entries have a distance, all pairs with a share do
pub apart_all : (l : SharedLink) (distances : List ℕ) (i : ℕ) → AreSharesListed l → length l.list ≤ i → AreApart i l.list distances →
    (p : ℕ) → p < length l.shares → 0 < slice_index l.shares p → 1 ≤ slice_index distances p
apart_all l distances i are all so p below some =
    let (k, inside, is) = entry_of l p are below some in
    subst (λ q. 1 ≤ slice_index distances q) is (so k (omega (arith, inside, all)))

pub apart_listed : (l : SharedLink) (distances : List ℕ) → AreSharesListed l →
    ((p : ℕ) → p < length l.shares → 0 < slice_index l.shares p → 1 ≤ slice_index distances p) → AreApart (length l.list) l.list distances
apart_listed l distances are apart = λ k below.
    let entry = entry_is l k are below in
    apart (pair_at l.list k) entry.0 (omega (arith, entry.1, entry.2))

-- the pair of an entry without a distance is a pair with a share that has none
pub free_pair : (l : SharedLink) (distances : List ℕ) (i : ℕ) (items : List PairShare) → AreSharesListed l → items ≡ l.list → i < length items →
    distance_at items distances i ≡ 0 → (p : ℕ) × (p < length l.shares) × (0 < slice_index l.shares p) × (slice_index distances p ≡ 0)
free_pair l distances i items are same inside none =
    let entry = entry_is l i are (subst (λ (xs : List PairShare). i < length xs) same inside) in (
      pair_at l.list i,
      entry.0,
      omega (arith, entry.1, entry.2),
      subst (λ (xs : List PairShare). distance_at xs distances i ≡ 0) same none,
    )

-- the greatest quotient among the first i entries, or 0 / 1 before the first
pub record IsBestListed (i : ℕ) (list : List PairShare) (distances : List ℕ) (pair a b : ℕ) : Type 0 where
  pub entry : ℕ
  pub best : IsBestSoFar i (share_at list) (distance_at list distances) entry a b
  pub pair_is : 0 < a → pair_at list entry ≡ pair

pub listed_none : (list : List PairShare) (distances : List ℕ) → IsBestListed 0 list distances 0 0 1
listed_none list distances = record {
  entry = 0;
  best = best_init (share_at list) (distance_at list distances);
  pair_is = λ some. absurd (omega (arith, some));
}

-- entry i as a quotient
abbrev pub quotient_at : List PairShare → List ℕ → ℕ → Quotient
quotient_at list distances i = record { pair = pair_at list i; share = share_at list i; distance = distance_at list distances i }

next_listed : (list : List PairShare) (distances : List ℕ) (i : ℕ) (best result : Quotient) → AreApart (length list) list distances → i < length list →
    (best.share * distance_at list distances i < share_at list i * best.distance → result ≡ quotient_at list distances i) →
    (share_at list i * best.distance ≤ best.share * distance_at list distances i → result ≡ best) →
    IsBestListed i list distances best.pair best.share best.distance → IsBestListed (i + 1) list distances result.pair result.share result.distance
next_listed list distances i best result apart inside second first so =
    elim (cases_lt (best.share * distance_at list distances i) (share_at list i * best.distance)) [
      | inl more ↦
          subst (λ (q : Quotient). IsBestListed (i + 1) list distances q.pair q.share q.distance) (sym (second more)) (record {
            entry = i;
            best = best_taken i (share_at list) (distance_at list distances) so.entry best.share best.distance so.best
                (λ k below some. apart k (omega (arith, below, inside))) more;
            pair_is = λ some. refl;
          })
      | inr less ↦
          subst (λ (q : Quotient). IsBestListed (i + 1) list distances q.pair q.share q.distance) (sym (first less)) (record {
            entry = so.entry;
            best = best_kept i (share_at list) (distance_at list distances) so.entry best.share best.distance so.best less;
            pair_is = so.pair_is;
          })
    ]

-- with the next entry
pub listed_more : (l : SharedLink) (distances : List ℕ) (i : ℕ) (items : List PairShare) (best result : Quotient) → AreSharesListed l →
    ((p : ℕ) → p < length l.shares → 0 < slice_index l.shares p → 1 ≤ slice_index distances p) → items ≡ l.list → i < length items →
    (best.share * distance_at items distances i < share_at items i * best.distance → result ≡ quotient_at items distances i) →
    (share_at items i * best.distance ≤ best.share * distance_at items distances i → result ≡ best) →
    IsBestListed i l.list distances best.pair best.share best.distance → IsBestListed (i + 1) l.list distances result.pair result.share result.distance
listed_more l distances i items best result are apart same inside second first so =
    subst (λ (xs : List PairShare). IsBestListed (i + 1) xs distances result.pair result.share result.distance) same
    (next_listed items distances i best result (subst (λ (xs : List PairShare). AreApart (length xs) xs distances) (sym same) (apart_listed l distances are apart)) inside
    second first (subst (λ (xs : List PairShare). IsBestListed i xs distances best.pair best.share best.distance) (sym same) so))

-- no share, no quotient
none_less : (s a b d : ℕ) → s ≡ 0 → s * b ≤ a * d
none_less s a b d none = omega (arith, ap (λ t. t * b) none)

-- the greatest quotient of the list is that of all pairs
of_list : (l : SharedLink) (distances : List ℕ) (a b : ℕ) → AreSharesListed l → (g : IsGreatestQuotient (length l.list) (share_at l.list) (distance_at l.list distances) a b) →
    IsGreatestAt (length l.shares) (slice_index l.shares) (slice_index distances) (pair_at l.list g.pair) a b
of_list l distances a b are g =
    let entry = entry_is l g.pair are g.within in (
      record {
        pair = pair_at l.list g.pair;
        within = entry.0;
        positive = omega (arith, entry.1, entry.2);
        share_is = g.share_is ∙ entry.2;
        distance_is = g.distance_is;
        greatest = λ q below. elim (cases_lt 0 (slice_index l.shares q)) [
          | inl some ↦
              let (k, inside, is) = entry_of l q are below some in
              subst (λ r. slice_index l.shares r * b ≤ a * slice_index distances r) is
              (subst (λ s. s * b ≤ a * distance_at l.list distances k) (entry_is l k are inside).2 (g.greatest k inside))
          | inr none ↦ none_less (slice_index l.shares q) a b (slice_index distances q) (omega (arith, none))
        ];
        first = λ q before some.
            let (k, inside, is) = entry_of l q are (omega (arith, before, entry.0)) some in
            let prior : k < g.pair = later l.list k g.pair are.listed.ascending inside (omega (arith, is, before)) in
            subst (λ r. slice_index l.shares r * b < a * slice_index distances r) is
            (subst (λ s. s * b < a * distance_at l.list distances k) (entry_is l k are inside).2 (g.first k prior (entry_is l k are inside).1));
      },
      refl,
    )

pub listed_all : (l : SharedLink) (distances : List ℕ) (i pair a b : ℕ) → AreSharesListed l → i ≡ length l.list →
    ((p : ℕ) × (p < length l.shares) × (0 < slice_index l.shares p)) → IsBestListed i l.list distances pair a b →
    IsGreatestAt (length l.shares) (slice_index l.shares) (slice_index distances) pair a b
listed_all l distances i pair a b are all (p, below, some) so =
    let (k, inside, is) = entry_of l p are below some in
    let best = subst (λ n. IsBestSoFar n (share_at l.list) (distance_at l.list distances) so.entry a b) all so.best in
    let (g, same) = best_of_all (length l.list) (share_at l.list) (distance_at l.list distances) so.entry a b best k inside (entry_is l k are inside).1 in
    let positive : 0 < a = omega (arith, g.share_is, g.positive) in
    subst (λ q. IsGreatestAt (length l.shares) (slice_index l.shares) (slice_index distances) q a b) (ap (pair_at l.list) same ∙ so.pair_is positive)
    (of_list l distances a b are g)
