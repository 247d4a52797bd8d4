use Rattle.std.proofs.Common.{◌≡◌, ℕ, ◌-◌, ◌<◌, ◌||◌, Bool, true, false, List, length, get_or, arith, refl, sym, ◌∙◌, subst, ◌==◌}
use Rattle.std.proofs.lemmas.Bool.{eqb-true}
use Rattle.std.proofs.lemmas.List.{get_or_default}
use Rattle.te_model.specs.Path.{has_number}
use Rattle.te_model.proofs.Amounts.{has_number_at}
use Rattle.local_search.proofs.pairs.LinkPairs.add.Goals as goal

-- a list that has the pair has the same numbers with it
has_with : (list : List ℕ) (k x pair q : ℕ) → k < length list → x ≡ get_or list k x → x ≡ pair → has_number list q ≡ (has_number list q || pair == q)
has_with list k x pair q below at is = go (pair == q) refl
  where
    here : has_number list pair ≡ true
    here = subst (λ n. has_number list n ≡ true) (get_or_default list k 0 x below ∙ (sym at ∙ is)) (has_number_at list k below)

    or_self : (b a : Bool) → (a ≡ true → b ≡ true) → b ≡ (b || a)
    or_self true a all = refl
    or_self false true all = all refl
    or_self false false all = refl

    go : (a : Bool) → (pair == q) ≡ a → has_number list q ≡ (has_number list q || pair == q)
    go a same = or_self (has_number list q) (pair == q) (λ is. subst (λ n. has_number list n ≡ true) (eqb-true pair q is) here)

pub returns-else-index-pair-clause-order : goal.returns-else-index-pair-clause-order
returns-else-index-pair-clause-order c = c.requires.order

pub returns-else-index-pair-clause-entered : goal.returns-else-index-pair-clause-entered
returns-else-index-pair-clause-entered c =
    let list = c.self.inside.list in
    subst (λ (l : List ℕ). (q : ℕ) → has_number l q ≡ (has_number l q || c.args.pair == q)) c.self.view_is
    (λ q. has_with list.items (c.len-count.result - 1) c.index.result.now c.args.pair q (omega (arith, c.if-count-eq0.false, c.len-count.ensures, list.ok.0))
    c.index.ensures c.if-index-pair.false)
