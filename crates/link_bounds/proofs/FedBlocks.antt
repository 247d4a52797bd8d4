-- The first of I1 to I3 that fails, and the needs, one block after another.
use Rattle.std.proofs.Common.{◌≡◌, ◌∙◌, ℕ, ◌+◌, ◌-◌, ◌<◌, ◌≤◌, List, [], ◌∷◌, ◌++◌, slice_index, slice_set, get_or-set_same, get_or-set_other, replicate, ap, arith, inl, inr, sym}
use Rattle.std.specs.Prelude.{All}
use Rattle.std.proofs.Math.Nat.{add-sub_of_le}
use Rattle.std.proofs.lemmas.Bool.{cases_eq}
use Rattle.std.proofs.lemmas.List.{length-replicate, length-set}
use Rattle.std.proofs.lemmas.List.Elements.{All-nil}
use Rattle.te_model.specs.declared.certificate.Block.{Block}
use Rattle.te_model.specs.declared.certificate.Certificate.{Certificate}
use Rattle.te_model.specs.declared.certificate.Head.{Head}
use Rattle.te_model.specs.Certificate.{block_of}
use Rattle.te_model.specs.Counting.{or_else, first_below}
use Rattle.te_model.specs.Feasible.{infeasibility}
use Rattle.te_model.specs.Inequalities.{of_link}
use Rattle.te_model.specs.Network.{link_count}
use Rattle.te_model.specs.Validity.{IsValid}
use Rattle.te_model.proofs.Lists.{zeros}
use Rattle.te_model.proofs.Searches.{first_below-same}
use Rattle.ratio_checker.proofs.Absent.{pays_holds}
use Rattle.ratio_checker.proofs.FedBlocks.{block_of_before, block_of_last, block_of_past, found_past}
use Rattle.best_blocks.specs.Need.{need_of}
use Rattle.link_bounds.specs.Feeds.{HasNeeds, infeasibility_from}
use Rattle.link_bounds.proofs.FirstInfeasible.{fails_at, from_first}
use Rattle.link_bounds.proofs.NeedLaws.{is_need_at}

-- after the links below the next one come those of which the others are the blocks
failures_on : (head : Head) (blocks others : List Block) (next end : ℕ) → next ≤ end →
    ((e : ℕ) → next ≤ e → e < end → block_of blocks e ≡ block_of others e) →
    infeasibility_from head blocks 0 end ≡ or_else (infeasibility_from head blocks 0 next) (infeasibility_from head others next (end - next))
failures_on head blocks others next end above same =
    let whole : next + (end - next) ≡ end = add-sub_of_le above in
    from_first head blocks end
    ∙ ap (λ n. first_below n (fails_at head blocks)) (sym whole)
    ∙ found_past next (end - next) (fails_at head blocks)
    ∙ ap (λ o. or_else o (first_below (end - next) (λ k. fails_at head blocks (next + k)))) (sym (from_first head blocks next))
    ∙ ap (or_else (infeasibility_from head blocks 0 next))
    (first_below-same (end - next) (λ k. fails_at head blocks (next + k)) (λ k. fails_at head others (next + k))
    (λ k below. ap (λ x. of_link (next + k) (infeasibility head x)) (same (next + k) (omega arith) (omega (arith, below, whole)))))

-- one block more, after links without one
pub block_more : (head : Head) (blocks : List Block) (b : Block) (next : ℕ) → All (λ x. x.link < next) blocks → next ≤ b.link →
    infeasibility_from head (blocks ++ b ∷ []) 0 (b.link + 1)
    ≡ or_else (infeasibility_from head blocks 0 next) (infeasibility_from head (b ∷ []) next (b.link + 1 - next))
block_more head blocks b next before above =
    failures_on head (blocks ++ b ∷ []) (b ∷ []) next (b.link + 1) (omega (arith, above)) same
    ∙ ap (λ o. or_else o (infeasibility_from head (b ∷ []) next (b.link + 1 - next))) earlier
  where
    lower : All (λ x. x.link < b.link) blocks
    lower = λ k d within. omega (arith, before k d within, above)

    same : (e : ℕ) → next ≤ e → e < b.link + 1 → block_of (blocks ++ b ∷ []) e ≡ block_of (b ∷ []) e
    same e past below =
        elim (cases_eq b.link e) [
          | inl here ↦
              ap (block_of (blocks ++ b ∷ [])) (sym here) ∙ block_of_last blocks b lower
              ∙ sym (block_of_last [] b (All-nil (λ x. x.link < b.link))) ∙ ap (block_of (b ∷ [])) here
          | inr other ↦ block_of_before blocks b e other ∙ block_of_past blocks next e before past ∙ sym (block_of_before [] b e other)
        ]

    earlier : infeasibility_from head (blocks ++ b ∷ []) 0 next ≡ infeasibility_from head blocks 0 next
    earlier =
        from_first head (blocks ++ b ∷ []) next
        ∙ first_below-same next (fails_at head (blocks ++ b ∷ [])) (fails_at head blocks)
        (λ k below. ap (λ x. of_link k (infeasibility head x)) (block_of_before blocks b k (λ is. omega (arith, below, is, above))))
        ∙ sym (from_first head blocks next)

-- the links up to the end have no block
pub no_block_more : (head : Head) (blocks : List Block) (next end : ℕ) → All (λ x. x.link < next) blocks → next ≤ end →
    infeasibility_from head blocks 0 end ≡ or_else (infeasibility_from head blocks 0 next) (infeasibility_from head [] next (end - next))
no_block_more head blocks next end before above =
    failures_on head blocks [] next end above (λ e past below. block_of_past blocks next e before past)

-- without a block nothing is needed
pub needs_none : (head : Head) (n : ℕ) → IsValid (record { head = head; blocks = [] }) → n ≡ link_count head.network →
    HasNeeds (record { head = head; blocks = [] }) (replicate n 0)
needs_none head n valid is = record {
  count = length-replicate {A = ℕ} n 0 ∙ is;
  each = λ e below.
      let c : Certificate = record { head = head; blocks = [] } in
      let least = (is_need_at c valid e below).least 0 (pays_holds head.network e 0) in
      zeros n e ∙ omega (arith, least);
}

-- one block more has its need on its link
pub needs_more : (head : Head) (blocks : List Block) (b : Block) (needs : List ℕ) → b.link < link_count head.network →
    HasNeeds (record { head = head; blocks = blocks }) needs → All (λ x. x.link < b.link) blocks →
    HasNeeds (record { head = head; blocks = blocks ++ b ∷ [] }) (slice_set needs b.link (need_of head.network b))
needs_more head blocks b needs inside has lower = record {
  count = length-set needs b.link (need_of head.network b) ∙ has.count;
  each = λ e below.
      elim (cases_eq b.link e) [
        | inl here ↦
            ap (slice_index (slice_set needs b.link (need_of head.network b))) (sym here)
            ∙ get_or-set_same needs b.link (need_of head.network b) 0 (omega (arith, inside, has.count))
            ∙ ap (need_of head.network) (sym (block_of_last blocks b lower) ∙ ap (block_of (blocks ++ b ∷ [])) here)
        | inr other ↦
            get_or-set_other needs b.link e (need_of head.network b) 0 (λ is. other (sym is))
            ∙ has.each e below ∙ ap (need_of head.network) (sym (block_of_before blocks b e other))
      ];
}
