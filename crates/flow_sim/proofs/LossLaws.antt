-- The booking of losses, one flow of a queue after the other.
use Rattle.std.proofs.Common.{◌≡◌, ℕ, ◌+◌, ◌-◌, ◌<◌, ◌^◌, List, length, slice_index, arith, sym, subst, ◌∙◌, inl, inr}
use Rattle.std.proofs.lemmas.Bool.{cases_lt}

-- the first n flows of the queue have what they were served, of tables that began as these
pub record AreBooked (n : ℕ) (queue shares units losses now_units now_losses : List ℕ) : Type 0 where
  pub served : (k : ℕ) → k < n → slice_index now_units (slice_index queue k) ≡ slice_index shares k
  pub lost : (k : ℕ) → k < n → slice_index now_losses (slice_index queue k)
      ≡ slice_index losses (slice_index queue k) + (slice_index units (slice_index queue k) - slice_index shares k)
  pub others : (f : ℕ) → ((k : ℕ) → k < n → slice_index queue k ≡ f → ⊥) →
      (slice_index now_units f ≡ slice_index units f) × (slice_index now_losses f ≡ slice_index losses f)

-- the flows of the queue ascend
abbrev pub Ascend : List ℕ → Type 0
Ascend queue = (i j : ℕ) → i < j → j < length queue → slice_index queue i < slice_index queue j

-- so the tables say of the next flow what they said at first
pub still : (n : ℕ) (queue served units lost now_units now_lost : List ℕ) (flow : ℕ) → Ascend queue → n < length queue → flow ≡ slice_index queue n →
    AreBooked n queue served units lost now_units now_lost →
    (slice_index now_units flow ≡ slice_index units flow) × (slice_index now_lost flow ≡ slice_index lost flow)
still n queue served units lost now_units now_lost flow ascend inside is so =
    so.others flow (λ k below same. let less = ascend k n below inside in omega arith)

-- and there is as much room
pub still_room : (n : ℕ) (queue served units lost now_units now_lost : List ℕ) (flow : ℕ) → Ascend queue → n < length queue → flow ≡ slice_index queue n →
    AreBooked n queue served units lost now_units now_lost → slice_index lost flow + slice_index units flow < 2 ^ 64 →
    slice_index now_lost flow + slice_index now_units flow < 2 ^ 64
still_room n queue served units lost now_units now_lost flow ascend inside is so room =
    let same = still n queue served units lost now_units now_lost flow ascend inside is so in
    omega (arith, same.0, same.1)

-- one flow more
pub booked_more : (n : ℕ) (queue served units lost now_units now_lost next_units next_lost : List ℕ) (flow share : ℕ) → Ascend queue → n < length queue →
    flow ≡ slice_index queue n → share ≡ slice_index served n → AreBooked n queue served units lost now_units now_lost →
    slice_index next_units flow ≡ share → slice_index next_lost flow ≡ slice_index now_lost flow + (slice_index now_units flow - share) →
    ((f : ℕ) → (f ≡ flow → ⊥) → (slice_index next_units f ≡ slice_index now_units f) × (slice_index next_lost f ≡ slice_index now_lost f)) →
    AreBooked (n + 1) queue served units lost next_units next_lost
booked_more n queue served units lost now_units now_lost next_units next_lost flow share ascend inside is is_share so kept missed others = record {
  served = λ k below. elim (cases_lt k n) [
    | inl lt ↦ (earlier k lt).0 ∙ so.served k lt
    | inr ge ↦
        let last : k ≡ n = omega arith in
        subst (λ j. slice_index next_units (slice_index queue j) ≡ slice_index served j) (sym last)
        (subst (λ f. slice_index next_units f ≡ slice_index served n) is (kept ∙ is_share))
  ];
  lost = λ k below. elim (cases_lt k n) [
    | inl lt ↦ (earlier k lt).1 ∙ so.lost k lt
    | inr ge ↦
        let last : k ≡ n = omega arith in
        subst (λ j. slice_index next_lost (slice_index queue j) ≡ slice_index lost (slice_index queue j) + (slice_index units (slice_index queue j) - slice_index served j))
        (sym last) (subst (λ f. slice_index next_lost f ≡ slice_index lost f + (slice_index units f - slice_index served n)) is now)
  ];
  others = λ f absent.
      let (u, l) = others f (λ same. absent n (omega arith) (sym is ∙ sym same)) in
      let (v, m) = so.others f (λ k below. absent k (omega arith)) in
      (u ∙ v, l ∙ m);
}
  where
    earlier : (k : ℕ) → k < n →
        (slice_index next_units (slice_index queue k) ≡ slice_index now_units (slice_index queue k))
        × (slice_index next_lost (slice_index queue k) ≡ slice_index now_lost (slice_index queue k))
    earlier k lt = others (slice_index queue k) (λ same. let less = ascend k n lt inside in omega arith)

    now : slice_index next_lost flow ≡ slice_index lost flow + (slice_index units flow - slice_index served n)
    now =
        let (u, l) = still n queue served units lost now_units now_lost flow ascend inside is so in
        omega arith
