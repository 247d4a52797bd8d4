-- Reading the lines of the pairs, one after the other.
use Rattle.std.proofs.Common.{◌≡◌, ◌∙◌, ℕ, zero, suc, ◌+◌, ◌<◌, ◌≤◌, List, [], ◌∷◌, ◌++◌, length, take, slice_index, Ok, Err, arith, refl, ap, sym, subst}
use Rattle.std.specs.Prelude.{slice_index_or}
use Rattle.std.proofs.lemmas.Bool.{eq-eqb, eqb-true}
use Rattle.std.proofs.lemmas.List.{length-append, take_all}
use Rattle.te_model.specs.declared.route.PairRoutes.{PairRoutes}
use Rattle.te_model.specs.Path.{routes_at}
use Rattle.number_tables.specs.declared.due.DueLines.{DueLines}
use Rattle.number_tables.specs.declared.fault.TableFault.{TableFault}
use Rattle.number_tables.specs.declared.line.NumLine.{NumLine}
use Rattle.number_tables.specs.Due.{has_count, word_line}
use Rattle.number_tables.specs.TakingDue.{IsBefore, TakesDue, next_line, BeginsWithLine, LeavesAtLine}
use Rattle.number_tables.proofs.TakingDue.{after_line, fails_behind}
use Rattle.fault_rates.specs.declared.reader.PairRates.{PairRates}
use Rattle.fault_rates.specs.declared.plan.RatePlan.{RatePlan}
use Rattle.fault_rates.specs.File.{FitPairs, pair_lines, pairs_due}
use Rattle.fault_rates.specs.PairLines.{BeginsWithPair, BeginsWithPairs, LeavesAtPairs}

-- ---- one pair

pub pair_taken : (before after : DueLines) (paths : ℕ) (numbers : List ℕ) (rates : PairRates) (ls : List NumLine) → numbers ≡ rates.grant ∷ rates.allocation →
    TakesDue (BeginsWithLine [] (has_count (1 + paths))) (LeavesAtLine [] (has_count (1 + paths))) (Ok numbers) before after ls →
    TakesDue (BeginsWithPair paths) (LeavesAtLine [] (has_count (1 + paths))) (Ok rates) before after ls
pair_taken before after paths numbers rates ls same taken =
    let count = eqb-true (length numbers) (1 + paths) taken.1.0 in
    let longer : length numbers ≡ suc (length rates.allocation) = ap length same in
    (taken.0, (omega (arith, count, longer), taken.1.1 ∙ ap (λ (ns : List ℕ). word_line [] ns ∷ taken.0) same), taken.2, taken.3)

-- ---- some pairs

one_pair_more : (routes : List PairRoutes) (p : ℕ) (gs : List ℕ) (xs : List (List ℕ)) (g : ℕ) (a : List ℕ) → p < length routes →
    FitPairs (take p routes) gs xs → length a ≡ length (routes_at routes p).paths → FitPairs (take (suc p) routes) (gs ++ g ∷ []) (xs ++ a ∷ [])
one_pair_more [] p gs xs g a below fit same = absurd (omega (arith, below))
one_pair_more (r ∷ rs) zero [] [] g a below fit same = (same, tt)
one_pair_more (r ∷ rs) zero [] (b ∷ bs) g a below fit same = absurd fit
one_pair_more (r ∷ rs) zero (h ∷ hs) xs g a below fit same = absurd fit
one_pair_more (r ∷ rs) (suc p) [] xs g a below fit same = absurd fit
one_pair_more (r ∷ rs) (suc p) (h ∷ hs) [] g a below fit same = absurd fit
one_pair_more (r ∷ rs) (suc p) (h ∷ hs) (b ∷ bs) g a below fit same = (fit.0, one_pair_more rs p hs bs g a (omega (arith, below)) fit.1 same)

lines_more : (routes : List PairRoutes) (gs : List ℕ) (xs : List (List ℕ)) (g : ℕ) (a : List ℕ) (more : List NumLine) → FitPairs routes gs xs →
    pair_lines gs xs ++ word_line [] (g ∷ a) ∷ more ≡ pair_lines (gs ++ g ∷ []) (xs ++ a ∷ []) ++ more
lines_more [] [] [] g a more fit = refl
lines_more [] [] (b ∷ bs) g a more fit = absurd fit
lines_more [] (h ∷ hs) xs g a more fit = absurd fit
lines_more (r ∷ rs) [] xs g a more fit = absurd fit
lines_more (r ∷ rs) (h ∷ hs) [] g a more fit = absurd fit
lines_more (r ∷ rs) (h ∷ hs) (b ∷ bs) g a more fit = ap (λ (ls : List NumLine). word_line [] (h ∷ b) ∷ ls) (lines_more rs hs bs g a more fit.1)

-- behind the lines of some pairs, the first that is not due comes as much later
pairs_behind : (routes : List PairRoutes) (p : ℕ) (gs : List ℕ) (xs : List (List ℕ)) (more : List NumLine) (j : ℕ) → p < length routes →
    FitPairs (take p routes) gs xs → LeavesAtLine [] (has_count (1 + length (routes_at routes p).paths)) more j →
    LeavesAtPairs routes (pair_lines gs xs ++ more) (length (pair_lines gs xs) + j)
pairs_behind [] p gs xs more j below fit leaves = absurd (omega (arith, below))
pairs_behind (r ∷ rs) zero [] [] more j below fit leaves =
    let e : j ≡ 0 + j = omega arith in subst (λ k. LeavesAtPairs (r ∷ rs) more k) e (leaves (λ _. pairs_due rs))
pairs_behind (r ∷ rs) zero [] (b ∷ bs) more j below fit leaves = absurd fit
pairs_behind (r ∷ rs) zero (h ∷ hs) xs more j below fit leaves = absurd fit
pairs_behind (r ∷ rs) (suc p) [] xs more j below fit leaves = absurd fit
pairs_behind (r ∷ rs) (suc p) (h ∷ hs) [] more j below fit leaves = absurd fit
pairs_behind (r ∷ rs) (suc p) (h ∷ hs) (b ∷ bs) more j below fit leaves =
    let count : length (h ∷ b) ≡ 1 + length r.paths = omega (arith, fit.0) in
    let one_more : suc (length (pair_lines hs bs) + j) ≡ suc (length (pair_lines hs bs)) + j = omega arith in
    subst (λ k. LeavesAtPairs (r ∷ rs) (word_line [] (h ∷ b) ∷ (pair_lines hs bs ++ more)) k) one_more
    (after_line [] (has_count (1 + length r.paths)) (λ _. pairs_due rs) (h ∷ b) (pair_lines hs bs ++ more) (length (pair_lines hs bs) + j)
    (eq-eqb (length (h ∷ b)) (1 + length r.paths) count) (pairs_behind rs p hs bs more j (omega (arith, below)) fit.1 leaves))

-- all pairs, where none of their lines is missing
pub pairs_later : (routes : List PairRoutes) (gs : List ℕ) (xs : List (List ℕ)) (more : List NumLine) (j : ℕ) → FitPairs routes gs xs →
    LeavesAtPairs [] more j → LeavesAtPairs routes (pair_lines gs xs ++ more) (length (pair_lines gs xs) + j)
pairs_later [] [] [] more j fit leaves = let e : j ≡ 0 + j = omega arith in subst (λ k. LeavesAtPairs [] more k) e leaves
pairs_later [] [] (b ∷ bs) more j fit leaves = absurd fit
pairs_later [] (h ∷ hs) xs more j fit leaves = absurd fit
pairs_later (r ∷ rs) [] xs more j fit leaves = absurd fit
pairs_later (r ∷ rs) (h ∷ hs) [] more j fit leaves = absurd fit
pairs_later (r ∷ rs) (h ∷ hs) (b ∷ bs) more j fit leaves =
    let count : length (h ∷ b) ≡ 1 + length r.paths = omega (arith, fit.0) in
    let one_more : suc (length (pair_lines hs bs) + j) ≡ suc (length (pair_lines hs bs)) + j = omega arith in
    subst (λ k. LeavesAtPairs (r ∷ rs) (word_line [] (h ∷ b) ∷ (pair_lines hs bs ++ more)) k) one_more
    (after_line [] (has_count (1 + length r.paths)) (λ _. pairs_due rs) (h ∷ b) (pair_lines hs bs ++ more) (length (pair_lines hs bs) + j)
    (eq-eqb (length (h ∷ b)) (1 + length r.paths) count) (pairs_later rs hs bs more j fit.1 leaves))

-- ---- what was read of these lines

pub record HasTaken (before now : DueLines) (routes : List PairRoutes) (gs : List ℕ) (xs : List (List ℕ)) (ls : List NumLine) : Type 0 where
  pub more : List NumLine
  pub fit : FitPairs routes gs xs
  pub parts : ls ≡ pair_lines gs xs ++ more
  pub left : IsBefore now more
  pub count : next_line now + length more ≡ next_line before + length ls

pub nothing_taken : (before : DueLines) (ls : List NumLine) → IsBefore before ls → HasTaken before before [] [] [] ls
nothing_taken before ls is = record { more = ls; fit = tt; parts = refl; left = is; count = refl }

pub one_pair_taken : (before now after : DueLines) (routes : List PairRoutes) (p : ℕ) (gs : List ℕ) (xs : List (List ℕ)) (rates : PairRates) (ls : List NumLine) →
    p < length routes → (taken : HasTaken before now (take p routes) gs xs ls) →
    TakesDue (BeginsWithPair (length (routes_at routes p).paths)) (LeavesAtLine [] (has_count (1 + length (routes_at routes p).paths))) (Ok rates) now after taken.more →
    HasTaken before after (take (suc p) routes) (gs ++ rates.grant ∷ []) (xs ++ rates.allocation ∷ []) ls
one_pair_taken before now after routes p gs xs rates ls below taken next =
    let at = taken.count in
    let on = next.3 in
    record {
      more = next.0;
      fit = one_pair_more routes p gs xs rates.grant rates.allocation below taken.fit next.1.0;
      parts = taken.parts ∙ ap (λ (m : List NumLine). pair_lines gs xs ++ m) next.1.1 ∙ lines_more (take p routes) gs xs rates.grant rates.allocation next.0 taken.fit;
      left = next.2;
      count = omega (arith, at, on);
    }

pub pair_fails : {X : Type 0} (Begins : X → List NumLine → List NumLine → Type 0) (before now after : DueLines) (routes : List PairRoutes) (p : ℕ) (gs : List ℕ) (xs : List (List ℕ)) (e : TableFault)
    (ls : List NumLine) → p < length routes → (taken : HasTaken before now (take p routes) gs xs ls) →
    TakesDue (BeginsWithPair (length (routes_at routes p).paths)) (LeavesAtLine [] (has_count (1 + length (routes_at routes p).paths))) (Err e) now after taken.more →
    TakesDue Begins (LeavesAtPairs routes) (Err e) before after ls
pair_fails Begins before now after routes p gs xs e ls below taken fails =
    let whole : length ls ≡ length (pair_lines gs xs) + length taken.more = ap length taken.parts ∙ length-append (pair_lines gs xs) taken.more in
    fails_behind (BeginsWithPair (length (routes_at routes p).paths)) (LeavesAtLine [] (has_count (1 + length (routes_at routes p).paths))) Begins (LeavesAtPairs routes)
    e before now after ls taken.more (length (pair_lines gs xs)) taken.count whole
    (λ j leaves. subst (λ (m : List NumLine). LeavesAtPairs routes m (length (pair_lines gs xs) + j)) (sym taken.parts) (pairs_behind routes p gs xs taken.more j below taken.fit leaves))
    fails

pub pairs_taken : (before now : DueLines) (routes : List PairRoutes) (p : ℕ) (plan : RatePlan) (ls : List NumLine) → length routes ≤ p →
    HasTaken before now (take p routes) plan.grant plan.allocation ls →
    TakesDue (BeginsWithPairs routes) (LeavesAtPairs routes) (Ok plan) before now ls
pairs_taken before now routes p plan ls end taken =
    (taken.more, (subst (λ (rs : List PairRoutes). FitPairs rs plan.grant plan.allocation) (take_all p routes end) taken.fit, taken.parts), taken.left, taken.count)

-- ---- the lines that are written

pub one_line_more : (gs : List ℕ) (xs : List (List ℕ)) (p : ℕ) (l : NumLine) → p < length gs → length gs ≡ length xs →
    l ≡ word_line [] (slice_index gs p ∷ slice_index_or xs p []) → pair_lines (take p gs) (take p xs) ++ l ∷ [] ≡ pair_lines (take (suc p) gs) (take (suc p) xs)
one_line_more [] xs p l below same is = absurd (omega (arith, below))
one_line_more (g ∷ gs) [] p l below same is = absurd (omega (arith, same))
one_line_more (g ∷ gs) (a ∷ xs) zero l below same is = ap (λ (m : NumLine). m ∷ []) is
one_line_more (g ∷ gs) (a ∷ xs) (suc p) l below same is =
    ap (λ (ls : List NumLine). word_line [] (g ∷ a) ∷ ls) (one_line_more gs xs p l (omega (arith, below)) (omega (arith, same)) is)
