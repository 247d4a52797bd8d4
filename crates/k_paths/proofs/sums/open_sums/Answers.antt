use Rattle.std.proofs.Common.{◌≡◌, ◌+◌, ◌++◌, ◌∷◌, [], ℕ, List, Option, Some, None, length, arith, ap, sym, ◌∙◌, subst, rules}
use Rattle.std.proofs.lemmas.List.{get_or_past, length-append}
use Rattle.te_model.specs.Network.{node_count}
use Rattle.shortest_path.specs.Graph.{distance_at}
use Rattle.k_paths.specs.Sums.{IsOpenSum}
use Rattle.k_paths.proofs.OpenSums.{open_push, open_set}
use Rattle.k_paths.proofs.sums.open_sums.Goals as goal

pub loop-v-init : goal.loop-v-init
loop-v-init c =
    let empty : c.in_ok-sums.sums.items ≡ [] = search rules in (
      ap (λ (l : List (Option ℕ)). length l) empty,
      λ k d is.
          let past : distance_at c.in_ok-sums.sums.items k ≡ None = ap (λ (l : List (Option ℕ)). distance_at l k) empty ∙ get_or_past [] k None (omega arith) in
          let never : None ≡ Some d = sym past ∙ is in
          cc,
    )

pub overflow_cast-v : goal.overflow_cast-v
overflow_cast-v c = omega (arith, c.loop-v-test.true, c.requires.ways.sums.count, ap (λ (l : List (Option ℕ)). length l) c.as_slice-nodes.ensures, c.requires.sound.few)

pub open_sum-requires-clause-sound : goal.open_sum-requires-clause-sound
open_sum-requires-clause-sound c = c.requires.sound

pub open_sum-requires-clause-src : goal.open_sum-requires-clause-src
open_sum-requires-clause-src c = omega (arith, c.loop-v-test.true, c.requires.ways.sums.count, ap (λ (l : List (Option ℕ)). length l) c.as_slice-nodes.ensures)

pub loop-v-preserved : goal.loop-v-preserved
loop-v-preserved c =
    let sums = c.loop-v.sums.items in
    let o = c.open_sum.result in
    let pushed : c.push.new.self.items ≡ sums ++ o ∷ [] = c.in_ok-push.ensures.items in
    let so = c.loop-v.invariant in (
      ap (λ (l : List (Option ℕ)). length l) pushed ∙ (length-append sums (o ∷ []) ∙ ap (λ n. n + 1) so.0),
      subst (λ (l : List (Option ℕ)). (k d : ℕ) → distance_at l k ≡ Some d → IsOpenSum c.args.net.now c.args.ways.now c.args.open.now k d) (sym pushed)
          (open_push c.args.net.now c.args.ways.now c.args.open.now sums c.loop-v.v o so.0 so.1 c.open_sum.ensures),
    )

pub index_mut-requires : goal.index_mut-requires
index_mut-requires c =
    omega (
      arith,
      c.requires.ways.dst,
      c.requires.ways.sums.count,
      ap (λ (l : List (Option ℕ)). length l) c.as_slice-nodes.ensures,
      c.loop-v.invariant.0,
      c.loop-v-test.false,
      c.loop-v.sums.ok.0,
    )

pub returns : goal.returns
returns c =
    let sums = c.loop-v.sums.items in
    let count : length sums ≡ node_count c.args.net.now =
    omega (
      arith,
      c.requires.ways.sums.count,
      ap (λ (l : List (Option ℕ)). length l) c.as_slice-nodes.ensures,
      c.loop-v.invariant.0,
      c.loop-v-test.false,
      c.loop-v.far-v,
    )
    in
    open_set c.args.net.now c.args.ways.now c.args.open.now sums c.requires.ways count c.loop-v.invariant.1
