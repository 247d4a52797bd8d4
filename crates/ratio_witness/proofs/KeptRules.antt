-- What a valid head and a witness that keeps U1 to U6 give.
use Rattle.std.proofs.Common.{◌≡◌, ℕ, ◌^◌, ◌<◌, ◌≤◌, Bool, true, ◌&&◌, ◌||◌, Option, Some, None, List, [], ◌∷◌, length, get_or, arith, refl, nat_le, ◌==◌, sum_by}
use Rattle.std.specs.Option.{option_or}
use Rattle.std.specs.Prelude.{IsTrue}
use Rattle.std.specs.List.{list_all}
use Rattle.std.proofs.lemmas.Bool.{leb-true}
use Rattle.std.proofs.lemmas.Bool.Decides.{nat_tests}
use Rattle.te_model.specs.declared.certificate.Certificate.{Certificate}
use Rattle.te_model.specs.declared.certificate.Head.{Head}
use Rattle.te_model.specs.declared.certificate.RuleFault.{RuleFault}
use Rattle.te_model.specs.declared.route.PathShare.{PathShare}
use Rattle.te_model.specs.Counting.{first_some}
use Rattle.te_model.specs.Formats.{limits_of}
use Rattle.te_model.specs.Network.{link_count}
use Rattle.te_model.specs.Path.{is_path, routes_at, source_of, destination_of}
use Rattle.te_model.specs.Shape.{is_shaped_head}
use Rattle.te_model.specs.Validity.{IsValidHead, fault_at, faults_from, paths_ascend}
use Rattle.te_model.proofs.Tests.{and_true, first_some_none_at, first_failing_none_at, all_from_tests}
use Rattle.te_model.proofs.Valid.{rules_hold, valid_limits}
use Rattle.te_model.proofs.ValidHeads.{valid_without_blocks}
use Rattle.ratio_checker.proofs.SimplePaths.{simple_paths}
use Rattle.ratio_witness.specs.declared.witness.Witness.{Witness}
use Rattle.ratio_witness.specs.Judged.{CanJudge}
use Rattle.ratio_witness.specs.Rules.{demand_of, rival_paths, has_bound, has_scale, has_small_demand, is_carried, has_sound_rival, has_whole_rival, witness_rules, KeepsRules}
use Rattle.ratio_witness.specs.Witness.{IsRivalOf}

-- the first of six faults, taken two and two
pub first_of_six : (a b c d e f : Option RuleFault) →
    option_or (option_or (option_or (option_or (option_or a b) c) d) e) f ≡ first_some (a ∷ b ∷ c ∷ d ∷ e ∷ f ∷ [])
first_of_six (Some x) b c d e f = refl
first_of_six None (Some x) c d e f = refl
first_of_six None None (Some x) d e f = refl
first_of_six None None None (Some x) e f = refl
first_of_six None None None None (Some x) f = refl
first_of_six None None None None None (Some x) = refl
first_of_six None None None None None None = refl

-- each rule at each of its places
pub record Kept (h : Head) (w : Witness) : Type 0 where
  pub bound : has_bound w ≡ true
  pub scale : has_scale w ≡ true
  pub demands : (p : ℕ) → p < length h.routes → has_small_demand w p ≡ true
  pub carried : (p : ℕ) → p < length h.routes → is_carried w p ≡ true
  pub sound : (p : ℕ) → p < length h.routes → has_sound_rival h w p ≡ true
  pub whole : (p : ℕ) → p < length h.routes → has_whole_rival w p ≡ true

pub rules_kept : (h : Head) (w : Witness) → KeepsRules h w → Kept h w
rules_kept h w keeps =
    let at : (k : ℕ) → get_or (faults_from 1 (witness_rules h w)) k None ≡ None = λ k. first_some_none_at (faults_from 1 (witness_rules h w)) k keeps in
    let pairs = length h.routes in
    record {
      bound = first_failing_none_at 1 (λ place. has_bound w) (fault_at 1) 0 (at 0) (omega arith);
      scale = first_failing_none_at 1 (λ place. has_scale w) (fault_at 2) 0 (at 1) (omega arith);
      demands = λ p below. first_failing_none_at pairs (has_small_demand w) (fault_at 3) p (at 2) below;
      carried = λ p below. first_failing_none_at pairs (is_carried w) (fault_at 4) p (at 3) below;
      sound = λ p below. first_failing_none_at pairs (has_sound_rival h w) (fault_at 5) p (at 4) below;
      whole = λ p below. first_failing_none_at pairs (has_whole_rival w) (fault_at 6) p (at 5) below;
    }

-- where there is a path, the weights sum to one million
some_whole : (n sum : ℕ) (weighted : Bool) → (n == 0 || (weighted && sum == 1000000)) ≡ true → 1 ≤ n → sum ≡ 1000000
some_whole n sum weighted whole some = grind (arith, nat_tests)

whole_le : (paths : List PathShare) → (length paths == 0 || (list_all (λ s. nat_le 1 s.weight) paths && sum_by (λ s. s.weight) paths == 1000000)) ≡ true →
    sum_by (λ s. s.weight) paths ≤ 1000000
whole_le [] is = omega arith
whole_le (s ∷ ss) is =
    let e = some_whole (length (s ∷ ss)) (sum_by (λ s. s.weight) (s ∷ ss)) (list_all (λ s. nat_le 1 s.weight) (s ∷ ss)) is (omega arith) in
    omega (arith, e)

-- a pair with a demand has a path
some_path : (demand n : ℕ) → (demand == 0 || nat_le 1 n) ≡ true → 0 < demand → 1 ≤ n
some_path demand n carried some = grind (arith, nat_tests)

some_link : (h : Head) → is_shaped_head (limits_of h.format) h ≡ true → 1 ≤ link_count h.network
some_link h shaped = grind (arith, nat_tests)

pub can_judge : (h : Head) (w : Witness) → IsValidHead h → KeepsRules h w → CanJudge h w
can_judge h w valid keeps =
    let c : Certificate = record { head = h; blocks = [] } in
    let is = valid_without_blocks h valid in
    let limits = valid_limits c is in
    let head_rules = rules_hold c is.1 in
    let kept = rules_kept h w keeps in
    let net = h.network in
    let routes = h.routes in
    let scale = kept.scale in
    record {
      limits = limits;
      some_link = some_link h valid.shaped;
      x = grind (arith, nat_tests);
      y = grind (arith, nat_tests);
      demands = λ p below. leb-true (demand_of w p) (2 ^ 32) (kept.demands p below);
      routes = record {
        each = λ p below. simple_paths net (source_of routes p) (destination_of routes p) (routes_at routes p).paths limits.links (head_rules.paths p below);
        whole = λ p below. limits.shares p;
      };
      rival = record {
        each = λ p below.
            let sound = and_true (list_all (λ s. is_path net (source_of routes p) (destination_of routes p) s.links) (rival_paths w p)) (paths_ascend (rival_paths w p)) (kept.sound p below) in
            simple_paths net (source_of routes p) (destination_of routes p) (rival_paths w p) limits.links sound.0;
        whole = λ p below. whole_le (rival_paths w p) (kept.whole p below);
      };
    }

-- the rival's paths route the matrix
pub is_rival : (h : Head) (w : Witness) → KeepsRules h w → IsRivalOf h.network h.routes (demand_of w) w.rival
is_rival h w keeps =
    let kept = rules_kept h w keeps in
    let net = h.network in
    let routes = h.routes in
    record {
      paths = λ p below some.
          let test : PathShare → Bool = λ s. is_path net (source_of routes p) (destination_of routes p) s.links in
          let sound = and_true (list_all test (rival_paths w p)) (paths_ascend (rival_paths w p)) (kept.sound p below) in
          all_from_tests test (λ s. IsTrue (test s)) (λ s e. e) (rival_paths w p) sound.0;
      whole = λ p below some.
          some_whole (length (rival_paths w p)) (sum_by (λ s. s.weight) (rival_paths w p)) (list_all (λ s. nat_le 1 s.weight) (rival_paths w p)) (kept.whole p below)
          (some_path (demand_of w p) (length (rival_paths w p)) (kept.carried p below) some);
    }

pub some_scale : (w : Witness) → has_scale w ≡ true → 1 ≤ w.y
some_scale w scale = grind (arith, nat_tests)
