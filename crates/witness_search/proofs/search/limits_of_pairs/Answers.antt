use Rattle.std.proofs.Common.{◌≡◌, ◌∙◌, ◌+◌, ◌<◌, ℕ, List, [], ◌∷◌, ◌++◌, inl, inr, arith, ap, length, length-append, subst, sym, slice_index}
use Rattle.std.proofs.lemmas.Bool.{cases_lt}
use Rattle.std.proofs.lemmas.List.{get_or_append_left}
use Rattle.std.proofs.Math.Seq.{get_or-append_seam}
use Rattle.te_model.specs.declared.certificate.Head.{Head}
use Rattle.te_model.specs.declared.route.PairRoutes.{PairRoutes}
use Rattle.witness_search.specs.Attempts.{IsLimit}
use Rattle.witness_search.proofs.search.limits_of_pairs.Goals as goal

-- one limit more
each_more : (h : Head) (now more : List ℕ) (p limit : ℕ) → length now ≡ p → ((q : ℕ) → q < p → IsLimit h q (slice_index now q)) → IsLimit h p limit →
    more ≡ now ++ limit ∷ [] → (q : ℕ) → q < p + 1 → IsLimit h q (slice_index more q)
each_more h now more p limit count each last put q below =
    let at : slice_index more q ≡ slice_index (now ++ limit ∷ []) q = ap (λ (ls : List ℕ). slice_index ls q) put in
    elim (cases_lt q p) [
      | inl before ↦ subst (IsLimit h q) (sym (at ∙ get_or_append_left now (limit ∷ []) 0 q (omega (arith, before, count)))) (each q before)
      | inr after ↦
          let same : length now ≡ q = omega (arith, below, after, count) in
          let here : slice_index more q ≡ limit = at ∙ subst (λ (k : ℕ). slice_index (now ++ limit ∷ []) k ≡ limit) same (get_or-append_seam now limit [] 0) in
          let is : p ≡ q = omega (arith, below, after) in
          subst (IsLimit h q) (sym here) (subst (λ (k : ℕ). IsLimit h k limit) is last)
    ]

pub limit_of-requires-clause-pair : goal.limit_of-requires-clause-pair
limit_of-requires-clause-pair c = let count = ap (λ (rs : List PairRoutes). length rs) c.as_slice-count.ensures in omega (arith, count)

pub loop-p-preserved : goal.loop-p-preserved
loop-p-preserved c = record {
  count = let e = ap length c.in_ok-push.ensures.items in
      let put = length-append c.loop-p.limits.items (c.limit_of.result ∷ []) in
      let was = c.loop-p.invariant.count in
      omega (arith, e, put, was);
  each = each_more c.args.head.now c.loop-p.limits.items _ c.loop-p.p c.limit_of.result c.loop-p.invariant.count c.loop-p.invariant.each c.limit_of.ensures
      c.in_ok-push.ensures.items;
}

pub returns : goal.returns
returns c =
    let h = c.args.head.now in
    let count = ap (λ (rs : List PairRoutes). length rs) c.as_slice-count.ensures in
    let all : c.loop-p.p ≡ length h.routes = omega (arith, count) in
    record { count = c.loop-p.invariant.count ∙ all; each = λ q below. c.loop-p.invariant.each q (omega (arith, below, all)) }
