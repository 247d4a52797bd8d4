-- What the numbers come to is what the shares come to by what goes over them, and what could still be sent by the tails.
use Rattle.std.proofs.Common.{◌≡◌, ℕ, zero, suc, ◌+◌, ◌-◌, ◌*◌, ◌<◌, ◌≤◌, ◌==◌, List, length, slice_index, arith, ap, inl, inr}
use Rattle.std.specs.Prelude.{if◌then◌else◌}
use Rattle.std.proofs.Math.Nat.{mul-le-mul_left}
use Rattle.std.proofs.lemmas.Bool.{cases_lt}
use Rattle.std.proofs.lemmas.Bool.Decides.{nat_tests}
use Rattle.te_model.specs.Counting.{sum_below}
use Rattle.te_model.proofs.FlowLaw.{by_ends}
use Rattle.te_model.proofs.Sums.{sum_below-add, sum_below-le, sum_below-same, sum_below-zero}
use Rattle.cover_search.specs.declared.transport.EndShare.{EndShare}
use Rattle.cover_search.specs.declared.transport.Transport.{Transport}
use Rattle.cover_search.specs.Transport.{IsSettled, IsTransport, cover_amount, destination_at, end_amount, received_at, sent_at, share_at, shares_amount, source_at}
use Rattle.cover_search.proofs.Lowering.{end_at}

-- what one share comes to, by the numbers of its ends
tight_term : (over t h share : ℕ) → share ≤ t + h → (0 < over → (t + h) - share ≡ 0) → over * t + over * h ≡ over * share
tight_term over t h share covers tight = elim (cases_lt 0 over) [
  | inr none ↦ let zero' : over ≡ 0 = omega (arith, none) in rw zero' (omega arith)
  | inl some ↦ let same : t + h ≡ share = (let nothing = tight some in omega (arith, nothing, covers)) in omega (arith, ap (λ x. over * x) same)
]

spent_term : (v h : ℕ) → (0 < h → v ≡ 0) → v * h ≡ 0
spent_term v h spent = elim (cases_lt 0 h) [
  | inr none ↦ let zero' : h ≡ 0 = omega (arith, none) in rw zero' (omega arith)
  | inl some ↦ rw (spent some) (omega arith)
]

node_term : (es u ed v t h : ℕ) → v * h ≡ 0 → (es + u) * t + (ed + v) * h ≡ (t * es + h * ed) + u * t
node_term es u ed v t h none = omega (arith, none)

module _ (shares : List EndShare) (t : Transport) (is : IsTransport shares t) where
  abbrev n : ℕ
  n = length t.tails

  abbrev tail : ℕ → ℕ
  tail = slice_index t.tails

  abbrev head : ℕ → ℕ
  head = slice_index t.heads

  abbrev over : ℕ → ℕ
  over = slice_index t.demand

  pub amounts_agree : cover_amount shares t ≡ shares_amount shares t + sum_below n (λ i. slice_index t.unsent i * tail i)
  amounts_agree =
      let es = end_amount shares (source_at shares) over in
      let ed = end_amount shares (destination_at shares) over in
      let apart = sum_below-same n (λ i. sent_at shares t i * tail i + received_at shares t i * head i) (λ i. (tail i * es i + head i * ed i) + slice_index t.unsent i * tail i)
      (λ i below. node_term (es i) (slice_index t.unsent i) (ed i) (slice_index t.unreceived i) (tail i) (head i) (spent_term (slice_index t.unreceived i) (head i) (is.spent i))) in
      let one = sum_below-add n (λ i. tail i * es i + head i * ed i) (λ i. slice_index t.unsent i * tail i) in
      let two = sum_below-add n (λ i. tail i * es i) (λ i. head i * ed i) in
      let sources = by_ends n (length shares) (source_at shares) over tail (λ k below. (end_at shares t k is below).0) in
      let destinations = by_ends n (length shares) (destination_at shares) over head (λ k below. (end_at shares t k is below).1) in
      let three = sum_below-add (length shares) (λ k. over k * tail (source_at shares k)) (λ k. over k * head (destination_at shares k)) in
      let whole = sum_below-same (length shares) (λ k. over k * tail (source_at shares k) + over k * head (destination_at shares k)) (λ k. over k * share_at shares k)
      (λ k below. tight_term (over k) (tail (source_at shares k)) (head (destination_at shares k)) (share_at shares k) (is.covers k below) (is.tight k below)) in
      omega (arith, apart, one, two, sources, destinations, three, whole)

  -- nothing is left to send by tails
  pub settled_value : IsSettled t → cover_amount shares t ≡ shares_amount shares t
  settled_value settled =
      let none = sum_below-zero n (λ i. slice_index t.unsent i * tail i) (λ i below. spent_term (slice_index t.unsent i) (tail i) (settled i)) in
      let whole = amounts_agree in
      omega (arith, whole, none)

-- one term falls, and none rises
pub sum_falls : (n p : ℕ) (f g : ℕ → ℕ) → p < n → ((k : ℕ) → f k ≤ g k) → f p < g p → sum_below n f < sum_below n g
sum_falls zero p f g below each less = absurd (omega (arith, below))
sum_falls (suc n) p f g below each less = elim (cases_lt p n) [
  | inl lt ↦ let rest = sum_falls n p f g lt each less in let last = each n in omega (arith, rest, last)
  | inr ge ↦
      let same : n ≡ p = omega (arith, below, ge) in
      let front = sum_below-le n f g (λ k k_in. each k) in
      let at_f = ap f same in
      let at_g = ap g same in
      omega (arith, front, at_f, at_g, less)
]

pub less_product : (u t t' : ℕ) → 0 < u → t' < t → u * t' < u * t
less_product u t t' some less = let le = mul-le-mul_left {m = t' + 1} {n = t} u (omega (arith, less)) in omega (arith, le, some)

pub open_falls : (t t' u : ℕ) → t' ≤ t → (if t' == 0 then 0 else u) ≤ (if t == 0 then 0 else u)
open_falls t t' u le = grind (arith, nat_tests)
