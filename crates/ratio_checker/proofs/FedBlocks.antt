-- The first failure, one block after another.
use Rattle.std.proofs.Common.{◌≡◌, ℕ, zero, suc, ◌+◌, ◌-◌, ◌<◌, ◌≤◌, Option, Some, None, List, [], ◌∷◌, ◌++◌, ◌==◌, length, arith, refl, ap, sym, ◌∙◌, inl, inr}
use Rattle.std.specs.Prelude.{All, unwrap_or}
use Rattle.std.proofs.Math.Nat.{add-sub_of_le}
use Rattle.std.proofs.lemmas.Bool.{cases_eq}
use Rattle.std.proofs.lemmas.List.Elements.{All-head, All-tail}
use Rattle.te_model.specs.declared.certificate.Block.{Block}
use Rattle.te_model.specs.declared.certificate.Head.{Head}
use Rattle.te_model.specs.declared.inequality.InequalityFault.{InequalityFault}
use Rattle.te_model.specs.declared.route.PairRoutes.{PairRoutes}
use Rattle.te_model.specs.Counting.{or_else, first_below, unless}
use Rattle.te_model.specs.Certificate.{empty_block, block_of}
use Rattle.te_model.specs.Inequalities.{LinkFailure, block_failure, covers_share, failure_at, of_link, shares_failure}
use Rattle.te_model.specs.Path.{share}
use Rattle.te_model.proofs.Searches.{first_below-same, first_below_found, first_below_more, or_else-assoc, or_else-none}
use Rattle.ratio_checker.specs.Feeds.{failure_below, failure_without}
use Rattle.ratio_checker.specs.Finding.{finding_of}
use Rattle.ratio_checker.specs.declared.finding.Finding.{Finding}
use Rattle.ratio_checker.specs.declared.finding.Finding.TheVariants.{Yes}
use Rattle.ratio_checker.proofs.Absent.{empty_failure_is, share_alone}
use Rattle.ratio_checker.proofs.Ascending.{find_here, find_later}

-- the first of n numbers and m more that answers
pub found_past : {A : Type 0} (n m : ℕ) (f : ℕ → Option A) → first_below (n + m) f ≡ or_else (first_below n f) (first_below m (λ k. f (n + k)))
found_past n zero f =
    let none : n + 0 ≡ n = omega arith in
    ap (λ k. first_below k f) none ∙ sym (or_else-none (first_below n f))
found_past n (suc m) f =
    let next : n + suc m ≡ suc (n + m) = omega arith in
    ap (λ k. first_below k f) next
    ∙ ap (λ o. or_else o (f (n + m))) (found_past n m f)
    ∙ or_else-assoc (first_below n f) (first_below m (λ k. f (n + k))) (f (n + m))

-- the last block is that of its link, where those before it are of lower links
pub block_of_last : (blocks : List Block) (b : Block) → All (λ x. x.link < b.link) blocks → block_of (blocks ++ b ∷ []) b.link ≡ b
block_of_last [] b before = ap (λ o. unwrap_or o (empty_block b.link)) (find_here (λ x. x.link) b.link b [] refl)
block_of_last (x ∷ xs) b before =
    let lower = All-head (λ y. y.link < b.link) x xs before in
    ap (λ o. unwrap_or o (empty_block b.link)) (find_later (λ y. y.link) b.link x (xs ++ b ∷ []) (λ same. omega (arith, lower, same)))
    ∙ block_of_last xs b (All-tail (λ y. y.link < b.link) x xs before)

-- those of the other links stay
pub block_of_before : (blocks : List Block) (b : Block) (e : ℕ) → (b.link ≡ e → ⊥) → block_of (blocks ++ b ∷ []) e ≡ block_of blocks e
block_of_before [] b e other = ap (λ o. unwrap_or o (empty_block e)) (find_later (λ x. x.link) e b [] other)
block_of_before (x ∷ xs) b e other =
    elim (cases_eq x.link e) [
      | inl same ↦
          ap (λ o. unwrap_or o (empty_block e)) (find_here (λ y. y.link) e x (xs ++ b ∷ []) same)
          ∙ sym (ap (λ o. unwrap_or o (empty_block e)) (find_here (λ y. y.link) e x xs same))
      | inr apart ↦
          ap (λ o. unwrap_or o (empty_block e)) (find_later (λ y. y.link) e x (xs ++ b ∷ []) apart)
          ∙ block_of_before xs b e other
          ∙ sym (ap (λ o. unwrap_or o (empty_block e)) (find_later (λ y. y.link) e x xs apart))
    ]

-- a link past those of all blocks has none
pub block_of_past : (blocks : List Block) (next e : ℕ) → All (λ x. x.link < next) blocks → next ≤ e → block_of blocks e ≡ empty_block e
block_of_past [] next e before past = refl
block_of_past (x ∷ xs) next e before past =
    let lower = All-head (λ y. y.link < next) x xs before in
    ap (λ o. unwrap_or o (empty_block e)) (find_later (λ y. y.link) e x xs (λ same. omega (arith, lower, same, past)))
    ∙ block_of_past xs next e (All-tail (λ y. y.link < next) x xs before) past

-- links without a block after the first `next` ones
pub absent_more : (head : Head) (blocks : List Block) (next count : ℕ) →
    ((e : ℕ) → next ≤ e → e < next + count → block_of blocks e ≡ empty_block e) →
    failure_below (next + count) head blocks ≡ or_else (failure_below next head blocks) (failure_without head.routes next count)
absent_more head blocks next count absent =
    found_past next count (λ k. of_link k (block_failure head (block_of blocks k)))
    ∙ ap (or_else (failure_below next head blocks))
    (first_below-same count (λ k. of_link (next + k) (block_failure head (block_of blocks (next + k))))
    (λ k. of_link (next + k) (shares_failure head.routes (empty_block (next + k))))
    (λ k below. ap (of_link (next + k))
    (ap (block_failure head) (absent (next + k) (omega arith) (omega (arith, below))) ∙ empty_failure_is head (next + k))))

-- the links up to the end have no block
pub absent_to : (head : Head) (blocks : List Block) (next end : ℕ) → All (λ x. x.link < next) blocks → next ≤ end →
    failure_below end head blocks ≡ or_else (failure_below next head blocks) (failure_without head.routes next (end - next))
absent_to head blocks next end before above =
    ap (λ n. failure_below n head blocks) (sym (add-sub_of_le above))
    ∙ absent_more head blocks next (end - next) (λ e past below. block_of_past blocks next e before past)

-- one block more, after links without one
pub block_more : (head : Head) (blocks : List Block) (b : Block) (next : ℕ) → All (λ x. x.link < next) blocks → next ≤ b.link →
    failure_below (b.link + 1) head (blocks ++ b ∷ [])
    ≡ or_else (failure_below next head blocks) (or_else (failure_without head.routes next (b.link - next)) (of_link b.link (block_failure head b)))
block_more head blocks b next before above =
    let more = blocks ++ b ∷ [] in
    let one : b.link + 1 ≡ suc b.link = omega arith in
    let lower : All (λ x. x.link < b.link) blocks = λ k d within. omega (arith, before k d within, above) in
    let same : failure_below b.link head more ≡ failure_below b.link head blocks =
    first_below-same b.link (λ k. of_link k (block_failure head (block_of more k))) (λ k. of_link k (block_failure head (block_of blocks k)))
    (λ k below. ap (λ x. of_link k (block_failure head x)) (block_of_before blocks b k (λ is. omega (arith, below, is))))
    in
    ap (λ n. failure_below n head more) one
    ∙ ap (λ x. or_else (failure_below b.link head more) (of_link b.link (block_failure head x))) (block_of_last blocks b lower)
    ∙ ap (λ o. or_else o (of_link b.link (block_failure head b))) (same ∙ absent_to head blocks next b.link before above)
    ∙ or_else-assoc (failure_below next head blocks) (failure_without head.routes next (b.link - next)) (of_link b.link (block_failure head b))

-- what was found first stands, and else what is found of the rest is found
pub found_first : (o rest : Option LinkFailure) (before after : Finding) → before ≡ finding_of o → (before ≡ Yes → after ≡ finding_of rest) →
    ((before ≡ Yes → ⊥) → after ≡ before) → after ≡ finding_of (or_else o rest)
found_first None rest before after was judged kept = judged was
found_first (Some f) rest before after was judged kept = kept (λ yes. clash (sym was ∙ yes)) ∙ was
  where
    clash : finding_of (Some f) ≡ Yes → ⊥
    clash e = cc

-- the shares on a link without a block, as I2 reads them
pub shares_alone : (routes : List PairRoutes) (e : ℕ) →
    first_below (length routes) (λ p. unless (share routes p e == 0) (failure_at 2 p)) ≡ shares_failure routes (empty_block e)
shares_alone routes e =
    first_below-same (length routes) (λ p. unless (share routes p e == 0) (failure_at 2 p))
    (λ p. unless (covers_share routes (empty_block e) p) (failure_at 2 p))
    (λ p below. ap (λ b. unless b (failure_at 2 p)) (share_alone routes [] e p refl))

module _ (routes : List PairRoutes) (next link : ℕ) (above : next ≤ link)
    (none : (count : ℕ) → next + count ≡ link → failure_without routes next count ≡ None) where
  -- a share on the link is the first failure
  pub absent_found : (end : ℕ) (f : InequalityFault) → link < end → shares_failure routes (empty_block link) ≡ Some f →
      failure_without routes next (end - next) ≡ Some (record { link = link; rule = f.number; place = f.place })
  absent_found end f below fails =
      let at : next + (link - next) ≡ link = add-sub_of_le above in
      let whole : next + (end - next) ≡ end = add-sub_of_le (omega (arith, above, below)) in
      first_below_found (end - next) (link - next) (λ k. of_link (next + k) (shares_failure routes (empty_block (next + k))))
      (record { link = link; rule = f.number; place = f.place }) (omega (arith, at, whole, below)) (none (link - next) at)
      (ap (λ e. of_link e (shares_failure routes (empty_block e))) at ∙ ap (of_link link) fails)

  -- no share on the link is no failure
  pub absent_next : shares_failure routes (empty_block link) ≡ None → (count : ℕ) → next + count ≡ link + 1 → failure_without routes next count ≡ None
  absent_next holds count is =
      let at : next + (link - next) ≡ link = add-sub_of_le above in
      let one : count ≡ (link - next) + 1 = omega (arith, at, is) in
      ap (failure_without routes next) one
      ∙ first_below_more (link - next) (λ k. of_link (next + k) (shares_failure routes (empty_block (next + k)))) (none (link - next) at)
      (ap (λ e. of_link e (shares_failure routes (empty_block e))) at ∙ ap (of_link link) holds)
