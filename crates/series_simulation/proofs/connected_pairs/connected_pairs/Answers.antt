use Rattle.std.proofs.Common.{◌≡◌, ℕ, ◌+◌, ◌<◌, ◌≤◌, Bool, true, false, cond, List, [], ◌∷◌, ◌++◌, length, filter, take, get_or, arith, ap, sym, ◌∙◌}
use Rattle.std.proofs.lemmas.List.{append-nil, take_all}
use Rattle.std.proofs.lemmas.List.Elements.{filter_more}
use Rattle.te_model.specs.declared.route.Pair.{Pair}
use Rattle.te_model.specs.Pairs.{no_pair}
use Rattle.series_simulation.specs.Connected.{connects}
use Rattle.series_simulation.proofs.connected_pairs.connected_pairs.Goals as goal
use Rattle.series_simulation.proofs.connected_pairs.connected_pairs.Goals.{then-has_path+in_ok-push, else-has_path}

-- pair i passes
kept : (test : Pair → Bool) (pairs : List Pair) (i : ℕ) (before after : List Pair) → i < length pairs → before ≡ filter test (take i pairs) →
    after ≡ before ++ get_or pairs i no_pair ∷ [] → test (get_or pairs i no_pair) ≡ true → after ≡ filter test (take (i + 1) pairs)
kept test pairs i before after below so_far pushed passes =
    let pair = get_or pairs i no_pair in
    pushed
    ∙ (ap (λ ps. ps ++ pair ∷ []) so_far
    ∙ sym (filter_more test pairs i no_pair below ∙ ap (λ b. filter test (take i pairs) ++ cond b (pair ∷ []) []) passes))

-- and pair i does not
left_out : (test : Pair → Bool) (pairs : List Pair) (i : ℕ) (before after : List Pair) → i < length pairs → before ≡ filter test (take i pairs) →
    after ≡ before → test (get_or pairs i no_pair) ≡ false → after ≡ filter test (take (i + 1) pairs)
left_out test pairs i before after below so_far same fails =
    let pair = get_or pairs i no_pair in
    same
    ∙ (so_far
    ∙ sym (filter_more test pairs i no_pair below ∙ (ap (λ b. filter test (take i pairs) ++ cond b (pair ∷ []) []) fails ∙ append-nil (filter test (take i pairs)))))

pub loop-pair-preserved : goal.loop-pair-preserved
loop-pair-preserved c =
    let test = connects c.args.reach.now in
    let pairs = c.as_slice-pair-items.result.now in
    let i = c.loop-pair.pair-index in
    let read = c.as_slice-pair-items.ensures in
    let so_far = c.loop-pair.invariant ∙ ap (λ (ps : List Pair). filter test (take i ps)) (sym read) in
    let whole = ap (λ (ps : List Pair). filter test (take (i + 1) ps)) read in
    elim c.if-has_path.branch [
      | then-has_path+in_ok-push w ↦
          kept test pairs i c.loop-pair.list.items c.if-has_path.list.items c.loop-pair-test.true so_far
          (ap (λ v. v.items) w.list-is ∙ w.in_ok-push.ensures.items) (sym c.connects-has_path.ensures ∙ w.if-has_path.true) ∙ whole
      | else-has_path w ↦
          left_out test pairs i c.loop-pair.list.items c.if-has_path.list.items c.loop-pair-test.true so_far (ap (λ v. v.items) w.list-is) (sym c.connects-has_path.ensures ∙ w.if-has_path.false) ∙ whole
    ]

pub returns : goal.returns
returns c =
    let pairs = c.args.pairs.now.list in
    let i = c.loop-pair.pair-index in
    let whole : length pairs ≤ i = omega (arith, c.loop-pair-test.false, ap (λ (ps : List Pair). length ps) c.as_slice-pair-items.ensures) in
    c.new.ensures ∙ (c.loop-pair.invariant ∙ ap (filter (connects c.args.reach.now)) (take_all i pairs whole))
