-- What the verdict on a witness says.
use Rattle.std.proofs.Common.{◌≡◌, ◌↔◌, ℕ, ◌*◌, ◌<◌, ◌≤◌, true, Option, Some, None, length, arith, refl, ap, sym, ◌∙◌, subst, nat_le}
use Rattle.std.specs.Prelude.{IsTrue}
use Rattle.std.proofs.lemmas.Bool.{leb-true}
use Rattle.te_model.specs.declared.certificate.Head.{Head}
use Rattle.te_model.specs.declared.certificate.RuleFault.{RuleFault}
use Rattle.te_model.specs.declared.demand.DemandSet.{DemandSet}
use Rattle.te_model.specs.declared.demand.DemandSet.TheVariants.{All, Margin, Box}
use Rattle.te_model.specs.declared.demand.Matrix.{Matrix}
use Rattle.te_model.specs.Counting.{IsUpTo, or_else, unless}
use Rattle.te_model.specs.Demand.{IsMember, lower_of, upper_of}
use Rattle.te_model.specs.Validity.{IsValidHead, FailsFrom, fault_at, faults_from, rule_fault}
use Rattle.te_model.proofs.RuleSearch.{found_fails_from}
use Rattle.te_model.proofs.Searches.{first_below_none, or_else-none}
use Rattle.te_model.proofs.Tests.{and_true, first_some_none_at, first_failing_none_at}
use Rattle.number_tables.proofs.FirstRules.{no_fault_gives}
use Rattle.ratio_witness.specs.declared.verdict.WitnessVerdict.TheVariants.{Yes, No}
use Rattle.ratio_witness.specs.declared.witness.Witness.{Witness}
use Rattle.ratio_witness.specs.Rules.{demand_of, KeepsRules}
use Rattle.ratio_witness.specs.Verdict.{is_between, is_in_set, ratio_shown, shows_bound, verdict_fault, verdict_of, verdict_rules}
use Rattle.ratio_witness.specs.Witness.{NoLowerRatio}
use Rattle.ratio_witness.proofs.KeptRules.{can_judge, is_rival, rules_kept, some_scale}
use Rattle.ratio_witness.proofs.Lower.{show_lower}

pub margin_between : (set : DemandSet) (num den : ℕ) (base : Matrix) (w : Witness) (p : ℕ) → set ≡ Margin num den base → is_between set w p ≡ is_in_set set w p
margin_between set num den base w p is = rw is refl

pub box_between : (set : DemandSet) (lower upper : Matrix) (w : Witness) (p : ℕ) → set ≡ Box lower upper → is_between set w p ≡ is_in_set set w p
box_between set lower upper w p is = rw is refl

-- the fault of J1, and else that of J2
pub first_fault_found : (a b : Option RuleFault) (f : RuleFault) → a ≡ Some f → Some f ≡ or_else a (or_else b None)
first_fault_found a b f is = rw is refl

pub second_fault : (a b : Option RuleFault) → a ≡ None → b ≡ or_else a (or_else b None)
second_fault a b is = rw is (sym (or_else-none b))

no_fault_of_yes : (h : Head) (w : Witness) → verdict_of (verdict_fault h w) ≡ Yes → verdict_fault h w ≡ None
no_fault_of_yes h w answer = no_fault_gives verdict_of Yes (λ f e. cc) (verdict_fault h w) answer

no_some : (o : Option RuleFault) (rule place : ℕ) → verdict_of o ≡ No rule place → (f : RuleFault) × (o ≡ Some f) × (f.number ≡ rule) × (f.place ≡ place)
no_some None rule place e = cc
no_some (Some f) rule place e = (f, refl, cc, cc)

no_fault_in_set : (h : Head) (w : Witness) → verdict_fault h w ≡ None → (p : ℕ) → p < length h.routes → is_in_set h.set w p ≡ true
no_fault_in_set h w none p below =
    first_failing_none_at (length h.routes) (is_in_set h.set w) (fault_at 1) p (first_some_none_at (faults_from 1 (verdict_rules h w)) 0 none) below

no_fault_bound : (h : Head) (w : Witness) → verdict_fault h w ≡ None → shows_bound h w ≡ true
no_fault_bound h w none =
    first_failing_none_at 1 (λ place. shows_bound h w) (fault_at 2) 0 (first_some_none_at (faults_from 1 (verdict_rules h w)) 1 none) (omega arith)

pub no_faults : (h : Head) (w : Witness) → ((p : ℕ) → p < length h.routes → is_in_set h.set w p ≡ true) → shows_bound h w ≡ true → verdict_fault h w ≡ None
no_faults h w each bound =
    let first : rule_fault 1 (length h.routes) (is_in_set h.set w) ≡ None =
    first_below_none (length h.routes) (λ k. unless (is_in_set h.set w k) (fault_at 1 k)) (λ k below. ap (λ b. unless b (fault_at 1 k)) (each k below))
    in
    let second : rule_fault 2 1 (λ place. shows_bound h w) ≡ None =
    first_below_none 1 (λ k. unless (shows_bound h w) (fault_at 2 k)) (λ k below. ap (λ b. unless b (fault_at 2 k)) bound)
    in
    ap (λ (a : Option RuleFault). or_else a (or_else (rule_fault 2 1 (λ place. shows_bound h w)) None)) first
    ∙ ap (λ (b : Option RuleFault). or_else b None) second

pub yes_exactly : (h : Head) (w : Witness) →
    (verdict_of (verdict_fault h w) ≡ Yes) ↔ (((p : ℕ) → p < length h.routes → IsTrue (is_in_set h.set w p)) × IsTrue (shows_bound h w))
yes_exactly h w = (
  λ answer. let none = no_fault_of_yes h w answer in (no_fault_in_set h w none, no_fault_bound h w none),
  λ both. ap verdict_of (no_faults h w both.0 both.1),
)

pub no_first : (h : Head) (w : Witness) (rule place : ℕ) → verdict_of (verdict_fault h w) ≡ No rule place →
    FailsFrom 1 (verdict_rules h w) rule place × ((r k : ℕ) → FailsFrom 1 (verdict_rules h w) r k → IsUpTo rule place r k)
no_first h w rule place answer =
    let found = no_some (verdict_fault h w) rule place answer in
    let first = found_fails_from 1 (verdict_rules h w) found.0 found.1 in
    let P : ℕ → ℕ → Type 0 = λ n k. FailsFrom 1 (verdict_rules h w) n k
    × ((r j : ℕ) → FailsFrom 1 (verdict_rules h w) r j → IsUpTo n k r j) in
    subst (λ k. P rule k) found.3 (subst (λ n. P n found.0.place) found.2 first)

between : (set : DemandSet) (w : Witness) (p : ℕ) → is_between set w p ≡ true → (w.x * lower_of set p ≤ w.y * demand_of w p) × (w.y * demand_of w p ≤ w.x * upper_of set p)
between set w p is =
    let both = and_true (nat_le (w.x * lower_of set p) (w.y * demand_of w p)) (nat_le (w.y * demand_of w p) (w.x * upper_of set p)) is in
    (leb-true _ _ both.0, leb-true _ _ both.1)

-- the scale of the witness shows that its matrix is of the set
member : (set : DemandSet) (w : Witness) (n : ℕ) → 1 ≤ w.y → ((p : ℕ) → p < n → is_in_set set w p ≡ true) → IsMember set n (demand_of w)
member All w n some each = tt
member (Margin num den base) w n some each = (w.x, w.y, some, λ p below. between (Margin num den base) w p (each p below))
member (Box lower upper) w n some each = (w.x, w.y, some, λ p below. between (Box lower upper) w p (each p below))

pub yes_shows : (h : Head) (w : Witness) → IsValidHead h → KeepsRules h w → verdict_of (verdict_fault h w) ≡ Yes →
    NoLowerRatio h.network h.routes h.set w.bound
yes_shows h w valid keeps answer =
    let none = no_fault_of_yes h w answer in
    let some = some_scale w (rules_kept h w keeps).scale in
    let judged = can_judge h w valid keeps in
    let bound : w.bound ≤ ratio_shown h w = leb-true w.bound (ratio_shown h w) (no_fault_bound h w none) in
    show_lower h.network h.routes h.set (demand_of w) w.rival w.bound (member h.set w (length h.routes) some (no_fault_in_set h w none))
    (is_rival h w keeps) bound judged.limits.capacity

pub yes_is_member : (h : Head) (w : Witness) → KeepsRules h w → verdict_of (verdict_fault h w) ≡ Yes → IsMember h.set (length h.routes) (demand_of w)
yes_is_member h w keeps answer =
    member h.set w (length h.routes) (some_scale w (rules_kept h w keeps).scale) (no_fault_in_set h w (no_fault_of_yes h w answer))
