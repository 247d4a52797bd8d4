-- What a search begins with: the tails that cover alone, no heads, and nothing sent.
use Rattle.std.proofs.Common.{◌≡◌, ◌∙◌, ℕ, ◌+◌, ◌*◌, ◌^◌, ◌<◌, ◌≤◌, ◌==◌, Bool, true, false, List, length, slice_index, replicate, arith, ap, inl, inr}
use Rattle.std.specs.Prelude.{if◌then◌else◌}
use Rattle.std.proofs.Math.Nat.{mul-le-mul_left}
use Rattle.std.proofs.lemmas.Bool.{cases_lt}
use Rattle.std.proofs.lemmas.List.{get_or-replicate, get_or_past, length-replicate}
use Rattle.te_model.specs.declared.units.TheConstants.{SHARE_UNIT}
use Rattle.te_model.proofs.Conditionals.{if_zero}
use Rattle.te_model.proofs.Sums.{sum_below-bound, sum_below-zero}
use Rattle.cover_search.specs.declared.transport.EndShare.{EndShare}
use Rattle.cover_search.specs.declared.transport.Transport.{Transport}
use Rattle.cover_search.specs.Transport.{AreEndShares, IsTransport, cover_amount, destination_at, end_amount, received_at, sent_at, share_at, source_at}
use Rattle.cover_search.specs.Ways.{open_amount}

zero_at : (xs : List ℕ) (n i : ℕ) → xs ≡ replicate n 0 → slice_index xs i ≡ 0
zero_at xs n i is = rw is (elim (cases_lt i n) [
  | inl below ↦ get_or-replicate n i 0 0 below
  | inr past ↦ get_or_past (replicate n 0) i 0 (let count = length-replicate {A = ℕ} n 0 in omega (arith, count, past))
])

-- no more than 2^32 by one million
term_small : (sent tail received head : ℕ) → sent ≤ 2 ^ 32 → tail ≤ 1000000 → head ≡ 0 → sent * tail + received * head ≤ 4294967296000000
term_small sent tail received head one two none =
    let nothing : received * head ≡ 0 = rw none (omega arith) in
    let most = mul-le-mul_left {m = tail} {n = 1000000} sent two in
    omega (arith, nothing, most, one)

open_small : (b : Bool) (x : ℕ) → x ≤ 4294967296 → (if b then 0 else x) ≤ 4294967296
open_small true x le = omega arith
open_small false x le = le

module _ (shares : List EndShare) (t : Transport) (ends : AreEndShares (length t.tails) shares) (few : length t.tails ≤ 2 ^ 10)
    (covers : (k : ℕ) → k < length shares → share_at shares k ≤ slice_index t.tails (source_at shares k)) (small : (i : ℕ) → slice_index t.tails i ≤ SHARE_UNIT)
    (heads : t.heads ≡ replicate (length t.tails) 0) (demand : t.demand ≡ replicate (length shares) 0)
    (sent_count : length t.unsent ≡ length t.tails) (received_count : length t.unreceived ≡ length t.tails)
    (sent_small : (i : ℕ) → slice_index t.unsent i ≤ 2 ^ 32) (received_small : (i : ℕ) → slice_index t.unreceived i ≤ 2 ^ 32) where
  no_head : (i : ℕ) → slice_index t.heads i ≡ 0
  no_head i = zero_at t.heads (length t.tails) i heads

  no_demand : (k : ℕ) → slice_index t.demand k ≡ 0
  no_demand k = zero_at t.demand (length shares) k demand

  no_amount : (end' : ℕ → ℕ) (i : ℕ) → end_amount shares end' (slice_index t.demand) i ≡ 0
  no_amount end' i = sum_below-zero (length shares) (λ k. if end' k == i then slice_index t.demand k else 0) (λ k below. if_zero (end' k == i) (slice_index t.demand k) (no_demand k))

  pub starts_sent : (i : ℕ) → sent_at shares t i ≡ slice_index t.unsent i
  starts_sent i = let none = no_amount (source_at shares) i in omega (arith, none)

  pub starts_received : (i : ℕ) → received_at shares t i ≡ slice_index t.unreceived i
  starts_received i = let none = no_amount (destination_at shares) i in omega (arith, none)

  pub starts : IsTransport shares t
  starts = record {
    counts = record {
      heads = ap (λ (l : List ℕ). length l) heads ∙ length-replicate {A = ℕ} (length t.tails) 0;
      demand = ap (λ (l : List ℕ). length l) demand ∙ length-replicate {A = ℕ} (length shares) 0;
      unsent = sent_count;
      unreceived = received_count;
    };
    few_nodes = omega (arith, few);
    ends = ends;
    tails = small;
    heads = λ i. let none = no_head i in omega (arith, none);
    sent = λ i. let same = starts_sent i in let most = sent_small i in omega (arith, same, most);
    received = λ i. let same = starts_received i in let most = received_small i in omega (arith, same, most);
    covers = λ k below. let enough = covers k below in omega (arith, enough);
    tight = λ k below some. absurd (let none = no_demand k in omega (arith, some, none));
    spent = λ i some. absurd (let none = no_head i in omega (arith, some, none));
  }

  pub starts_small : cover_amount shares t + open_amount t < 2 ^ 63
  starts_small =
      let most = sum_below-bound (length t.tails) 4294967296000000 (λ i. sent_at shares t i * slice_index t.tails i + received_at shares t i * slice_index t.heads i)
      (λ i below. term_small (sent_at shares t i) (slice_index t.tails i) (received_at shares t i) (slice_index t.heads i) (starts.sent i) (small i) (no_head i)) in
      let least = sum_below-bound (length t.tails) 4294967296 (λ i. if slice_index t.tails i == 0 then 0 else slice_index t.unsent i)
      (λ i below. open_small (slice_index t.tails i == 0) (slice_index t.unsent i) (sent_small i)) in
      omega (arith, most, least, few)
