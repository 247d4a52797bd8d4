-- What the paths have put on the links, path by path.
use Rattle.std.proofs.Common.{◌≡◌, inl, inr, ℕ, suc, Bool, true, false, ◌+◌, ◌*◌, ◌^◌, ◌<◌, ◌≤◌, List, [], ◌++◌, length, get_or, slice_index, replicate, arith, refl, ap, sym, ◌∙◌, subst}
use Rattle.std.specs.Prelude.{if◌then◌else◌}
use Rattle.std.proofs.lemmas.Bool.{cases_lt}
use Rattle.std.proofs.lemmas.List.{get_or-replicate, get_or_append_left, get_or_past, length-replicate}
use Rattle.std.proofs.lemmas.List.FromFn.{fill_by_all}
use Rattle.te_model.specs.declared.network.Network.{Network}
use Rattle.te_model.specs.Network.{link_count}
use Rattle.te_model.specs.Path.{amount_on, has_number}
use Rattle.te_model.specs.Counting.{sum_below}
use Rattle.te_model.proofs.Amounts.{has_at}
use Rattle.te_model.proofs.Conditionals.{if_le-self}
use Rattle.te_model.proofs.Sums.{sum_below-same}
use Rattle.multiplicative_lengths.specs.Loads.{loads_of, put_on}
use Rattle.multiplicative_lengths.proofs.EachLink.{count_each}

-- the loads of the first n paths, each of which puts at most this much on a link
pub record LoadsSoFar (net : Network) (amount : ℕ → ℕ) (most : ℕ) (paths : List (List ℕ)) (n : ℕ) (loads : List ℕ) : Type 0 where
  pub count : length loads ≡ link_count net
  pub sums : (e : ℕ) → get_or loads e 0 ≡ sum_below n (put_on amount paths e)
  pub small : (e : ℕ) → get_or loads e 0 ≤ n * most

pub loads_none : (net : Network) (amount : ℕ → ℕ) (most : ℕ) (paths : List (List ℕ)) (n : ℕ) (loads : List ℕ) → n ≡ link_count net → loads ≡ replicate n 0 →
    LoadsSoFar net amount most paths 0 loads
loads_none net amount most paths n loads same are = record {
  count = ap (λ (l : List ℕ). length l) are ∙ (length-replicate {A = ℕ} n 0 ∙ same);
  sums = zeros;
  small = λ e. omega (arith, zeros e);
}
  where
    zeros : (e : ℕ) → get_or loads e 0 ≡ 0
    zeros e = ap (λ (l : List ℕ). get_or l e 0) are ∙ elim (cases_lt e n) [
      | inl lt ↦ get_or-replicate {A = ℕ} n e 0 0 lt
      | inr ge ↦ get_or_past {X = ℕ} (replicate n 0) e 0 (omega (arith, length-replicate {A = ℕ} n 0, ge))
    ]

-- one path more
pub loads_more : (net : Network) (amount : ℕ → ℕ) (most : ℕ) (paths : List (List ℕ)) (n : ℕ) (loads next path : List ℕ) →
    LoadsSoFar net amount most paths n loads → length next ≡ length loads → get_or paths n [] ≡ path → amount n ≤ most →
    ((e : ℕ) → get_or next e 0 ≡ get_or loads e 0 + amount_on path (amount n) e) → LoadsSoFar net amount most paths (n + 1) next
loads_more net amount most paths n loads next path far kept is fits added = record {
  count = kept ∙ far.count;
  sums = sums;
  small = λ e. omega (arith, far.small e, added e, if_le-self (has_number path e) (amount n), fits);
}
  where
    sums : (e : ℕ) → get_or next e 0 ≡ sum_below (n + 1) (put_on amount paths e)
    sums e =
        let one_more : n + 1 ≡ suc n = omega arith in
        let here : put_on amount paths e n ≡ amount_on path (amount n) e = ap (λ (p : List ℕ). amount_on p (amount n) e) is in
        subst (λ k. get_or next e 0 ≡ sum_below k (put_on amount paths e)) (sym one_more) (omega (arith, added e, far.sums e, here))

-- paths that follow change nothing
pub loads_kept : (net : Network) (amount : ℕ → ℕ) (most : ℕ) (paths after : List (List ℕ)) (n : ℕ) (loads : List ℕ) →
    LoadsSoFar net amount most paths n loads → length paths ≡ n → LoadsSoFar net amount most (paths ++ after) n loads
loads_kept net amount most paths after n loads far all = record {
  count = far.count;
  sums = λ e. far.sums e ∙ sum_below-same n (put_on amount paths e) (put_on amount (paths ++ after) e) (λ p below.
      ap (λ (l : List ℕ). amount_on l (amount p) e) (sym (get_or_append_left paths after [] p (omega (arith, all, below)))));
  small = far.small;
}

pub loads_done : (net : Network) (amount : ℕ → ℕ) (most : ℕ) (paths : List (List ℕ)) (n : ℕ) (loads : List ℕ) →
    LoadsSoFar net amount most paths n loads → n ≡ length paths → loads ≡ loads_of net amount paths
loads_done net amount most paths n loads far done =
    fill_by_all (λ e. sum_below (length paths) (put_on amount paths e)) loads (link_count net) 0 far.count
    (λ e below. far.sums e ∙ ap (λ k. sum_below k (put_on amount paths e)) done)

pub length-loads_of : (net : Network) (amount : ℕ → ℕ) (paths : List (List ℕ)) → length (loads_of net amount paths) ≡ link_count net
length-loads_of net amount paths = count_each net (λ e. sum_below (length paths) (put_on amount paths e))

-- links with numbers of 32 bits put nothing on a link beyond them
pub none_beyond : (links : List ℕ) (amount e : ℕ) → ((k : ℕ) → k < length links → slice_index links k < 2 ^ 32) → 2 ^ 32 ≤ e → amount_on links amount e ≡ 0
none_beyond links amount e small wide = go (has_number links e) refl
  where
    go : (b : Bool) → has_number links e ≡ b → (if b then amount else 0) ≡ 0
    go true has = let (k, below, at) = has_at links e has in absurd (omega (arith, small k below, at, wide))
    go false has = refl
