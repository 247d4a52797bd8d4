-- How many bytes the text of a plan of two valid heads takes.
use Rattle.std.proofs.Common.{◌≡◌, inl, inr, ℕ, zero, suc, ◌+◌, ◌*◌, ◌<◌, ◌≤◌, Bool, true, false, List, [], ◌∷◌, ◌++◌, length, map, get_or, arith, lit≤, refl, ap, sym, subst, length-append, ◌==◌, All}
use Rattle.std.specs.Prelude.{codes, if◌then◌else◌}
use Rattle.std.specs.List.{list_all}
use Rattle.std.proofs.lemmas.Bool.{cases_lt}
use Rattle.std.proofs.lemmas.Bool.Decides.{nat_tests}
use Rattle.std.proofs.lemmas.Nat.{mul-le}
use Rattle.std.proofs.lemmas.List.Elements.{All-append, All-get_or, All-head, All-nil, All-tail, All-weaker}
use Rattle.te_model.specs.declared.certificate.Head.{Head}
use Rattle.te_model.specs.declared.limits.Limits.{Limits}
use Rattle.te_model.specs.declared.limits.TheConstants.{FORMAT_1, FORMAT_2}
use Rattle.te_model.specs.declared.network.Network.{Network}
use Rattle.te_model.specs.declared.route.PairRoutes.{PairRoutes}
use Rattle.te_model.specs.declared.route.PathShare.{PathShare}
use Rattle.te_model.specs.Formats.{limits_of}
use Rattle.te_model.specs.Network.{link_count}
use Rattle.te_model.specs.Path.{no_routes, routes_at}
use Rattle.te_model.specs.PathRouting.{IsPathRouting, IsPathSplit}
use Rattle.te_model.specs.Shape.{is_shaped_pair, is_shaped_path}
use Rattle.te_model.specs.Validity.{IsValidHead}
use Rattle.te_model.proofs.Tests.{all_from_tests}
use Rattle.te_model.proofs.Valid.{valid_limits}
use Rattle.number_tables.specs.Table.{file_of, line_text, table_lines}
use Rattle.routing.specs.Merge.{no_path}
use Rattle.text_size.proofs.Widths.{digit_count, length-words, line-numbers, size, size-append, widest, width-le, widths-le}
use Rattle.update_plan.specs.declared.path.UpdatePath.{UpdatePath}
use Rattle.update_plan.specs.declared.path.UpdatePlan.{UpdatePlan}
use Rattle.update_plan.specs.Answer.{PlanTextsAreShort}
use Rattle.update_plan.specs.Paths.{ArePaths, AreSideBySide}
use Rattle.update_plan.specs.Text.{path_line, plan_lines, plan_text}
use Rattle.update_plan.proofs.OneList.{few_paths}
use Rattle.update_plan.proofs.PlanPaths.{of_split, own_paths, split_at}
use Rattle.te_model.proofs.ValidHeads.{valid_without_blocks}
use Rattle.te_model.proofs.ValidHeads.{head_routing}

-- a routing within the counts of the formats
record HasFewNumbers (routes : List PairRoutes) : Type 0 where
  pub pairs : length routes ≤ 16256
  pub paths : (p : ℕ) → p < length routes → length (routes_at routes p).paths ≤ 32
  pub hops : (p : ℕ) → p < length routes → All (λ s. length s.links ≤ 127) (routes_at routes p).paths

-- a path of an update within these counts
record IsShortUpdate (u : UpdatePath) : Type 0 where
  pub pair : u.pair ≤ 16256
  pub before : u.before ≤ 1000000
  pub after : u.after ≤ 1000000
  pub hops : length u.links ≤ 127
  pub links : All (λ h. h ≤ 1024) u.links

-- the counts of either format are within those of the second
few_each : (format : ℕ) → ((limits_of format).paths ≤ 32) × ((limits_of format).hops ≤ 127)
few_each format = go (format == 2)
  where
    go : (b : Bool) → ((if b then FORMAT_2 else FORMAT_1).paths ≤ 32) × ((if b then FORMAT_2 else FORMAT_1).hops ≤ 127)
    go true = (omega arith, omega arith)
    go false = (omega arith, omega arith)

valid_few : (head : Head) → IsValidHead head → HasFewNumbers head.routes
valid_few head valid =
    let limits = limits_of head.format in
    let most = few_each head.format in
    let small = valid_limits (record { head = head; blocks = [] }) (valid_without_blocks head valid) in
    let all_shaped : list_all (is_shaped_pair (limits_of head.format)) head.routes ≡ true = let shaped = valid.shaped in grind (arith, nat_tests) in
    let shaped : (p : ℕ) → p < length head.routes → is_shaped_pair (limits_of head.format) (routes_at head.routes p) ≡ true = λ p below.
    all_from_tests (is_shaped_pair limits) (λ q. is_shaped_pair limits q ≡ true) (λ q e. e) head.routes all_shaped p no_routes below
    in
    record {
      pairs = omega (arith, small.pairs);
      paths = λ p below. let at = shaped p below in few_of limits (routes_at head.routes p) at most.0;
      hops = λ p below. let at = shaped p below in short_of limits (routes_at head.routes p) at most.1;
    }
  where
    few_of : (limits : Limits) (r : PairRoutes) → is_shaped_pair limits r ≡ true → limits.paths ≤ 32 → length r.paths ≤ 32
    few_of limits r shaped most = grind (arith, nat_tests)

    short_of : (limits : Limits) (r : PairRoutes) → is_shaped_pair limits r ≡ true → limits.hops ≤ 127 → All (λ s. length s.links ≤ 127) r.paths
    short_of limits r shaped most =
        let paths : list_all (is_shaped_path limits) r.paths ≡ true = grind (arith, nat_tests) in
        all_from_tests (is_shaped_path limits) (λ s. length s.links ≤ 127) (λ s e. grind (arith, nat_tests)) r.paths paths

-- the bytes of a path's line
unfoldable path_size : ℕ
path_size = widest 16256 + widest 1000000 + widest 1000000 + widest 127 + 127 * widest 1024

line_size : (u : UpdatePath) → IsShortUpdate u → length (line_text (path_line u)) + 1 ≤ path_size
unfolding path_size
line_size u short =
    omega (
      arith,
      line-numbers u.pair (u.before ∷ u.after ∷ length u.links ∷ u.links),
      width-le 16256 u.pair (omega arith) short.pair,
      width-le 1000000 u.before (omega arith) short.before,
      width-le 1000000 u.after (omega arith) short.after,
      width-le 127 (length u.links) (omega arith) short.hops,
      widths-le 127 1024 u.links short.hops (omega arith) short.links,
    )

-- a path of an update goes over as few links as those of the routings
hops_of : (own : List UpdatePath) (r s : PairRoutes) (p : ℕ) → AreSideBySide p r.paths s.paths own → All (λ x. length x.links ≤ 127) r.paths →
    All (λ x. length x.links ≤ 127) s.paths → (k : ℕ) (d : UpdatePath) → k < length own → length (get_or own k d).links ≤ 127
hops_of own r s p side short short' k d below =
    let u = get_or own k d in
    let some = (side.own k d below).1 in
    elim (cases_lt 0 u.before) [
      | inl here ↦
          let (m, inside, same) = of_split (λ v. v.before) own r.paths side.before_is k d below here in
          subst (λ (l : List ℕ). length l ≤ 127) same (All-get_or (λ (x : PathShare). length x.links ≤ 127) r.paths m no_path inside short)
      | inr none ↦
          let (m, inside, same) = of_split (λ v. v.after) own s.paths side.after_is k d below (omega (arith, none, some)) in
          subst (λ (l : List ℕ). length l ≤ 127) same (All-get_or (λ (x : PathShare). length x.links ≤ 127) s.paths m no_path inside short')
    ]

own_short : (net : Network) (r s : PairRoutes) (p : ℕ) (own : List UpdatePath) → IsPathSplit net r → IsPathSplit net s → p ≤ 16256 → link_count net ≤ 1024 →
    All (λ x. length x.links ≤ 127) r.paths → All (λ x. length x.links ≤ 127) s.paths → AreSideBySide p r.paths s.paths own → All IsShortUpdate own
own_short net r s p own old new few links short short' side k d below =
    let is = own_paths net (suc p) r s p own (omega arith) old new side k d below in
    record {
      pair = omega (arith, is.pair, few);
      before = is.before;
      after = is.after;
      hops = hops_of own r s p side short short' k d below;
      links = All-weaker (λ h. h < link_count net) (λ h. h ≤ 1024) (λ h lt. omega (arith, lt, links)) (get_or own k d).links is.links;
    }

-- the paths of the first n pairs are short and few
first_short : (net : Network) (before after : List PairRoutes) → IsPathRouting net before → IsPathRouting net after → length after ≡ length before →
    link_count net ≤ 1024 → HasFewNumbers before → HasFewNumbers after → (n : ℕ) (paths : List UpdatePath) → n ≤ length before → ArePaths n before after paths →
    All IsShortUpdate paths × (length paths ≤ n * 64)
first_short net before after old new same links few few' zero paths le is =
    (subst (λ l. All IsShortUpdate l) (sym is) (All-nil IsShortUpdate), omega (arith, ap (λ (l : List UpdatePath). length l) is))
first_short net before after old new same links few few' (suc n) paths le (earlier, own, is, rest, side) =
    let r = routes_at before n in
    let s = routes_at after n in
    let below : n < length before = omega (arith, le) in
    let below' : n < length after = omega (arith, le, same) in
    let (short, count) = first_short net before after old new same links few few' n earlier (omega (arith, le)) rest in
    let split = split_at net before n old below in
    let split' = split_at net after n new below' in
    let more = own_short net r s n own split split' (omega (arith, le, few.pairs)) links (few.hops n below) (few'.hops n below') side in
    let own_count = few_paths net r s n own split split' side in (
      subst (λ l. All IsShortUpdate l) (sym is) (All-append IsShortUpdate earlier own short more),
      omega (arith, ap (λ (l : List UpdatePath). length l) is, length-append earlier own, count, own_count, few.paths n below, few'.paths n below'),
    )

paths_size : (paths : List UpdatePath) → All IsShortUpdate paths → size (map line_text (map path_line paths)) ≤ length paths * path_size
paths_size [] short = omega arith
paths_size (u ∷ us) short =
    omega (arith, line_size u (All-head IsShortUpdate u us short), paths_size us (All-tail IsShortUpdate u us short))

length_file : (lines : List (List ℕ)) → length (file_of lines) ≡ size lines
length_file [] = refl
length_file (line ∷ lines) =
    omega (arith, length-append (line ++ 10 ∷ []) (file_of lines), length-append line (10 ∷ []), length_file lines)

-- what the widest numbers take
path_few : path_size ≤ 661
unfolding path_size digit_count
path_few = lit≤ tt

steps_few : widest 1000 ≤ 5
unfolding digit_count
steps_few = lit≤ tt

count_few : widest 1040384 ≤ 8
unfolding digit_count
count_few = lit≤ tt

plan_size : (plan : UpdatePlan) → plan.steps ≤ 1000 → length plan.paths ≤ 1040384 → All IsShortUpdate plan.paths → length (plan_text plan) ≤ 687693868
plan_size plan steps count short =
    let lines = map line_text (plan_lines plan) in
    omega (
      arith,
      length_file (table_lines (codes "yates-update 1") (plan_lines plan)),
      size-append lines (codes "end" ∷ []),
      length-words (codes "steps") (plan.steps ∷ []),
      length-words (codes "paths") (length plan.paths ∷ []),
      width-le 1000 plan.steps (omega arith) steps,
      width-le 1040384 (length plan.paths) (omega arith) count,
      steps_few,
      count_few,
      paths_size plan.paths short,
      mul-le (length plan.paths) path_size 1040384 661 count path_few,
    )

pub plan_texts_are_short : PlanTextsAreShort
plan_texts_are_short old new demand plan valid valid' nets same (are, least) =
    let net = old.network in
    let links = valid_limits (record { head = old; blocks = [] }) (valid_without_blocks old valid) in
    let routing = subst (λ n. IsPathRouting n new.routes) (sym nets) (head_routing new valid') in
    let few = valid_few old valid in
    let (short, count) = first_short net old.routes new.routes (head_routing old valid) routing same (omega (arith, links.links)) few (valid_few new valid')
    (length old.routes) plan.paths (omega arith) are
    in
    omega (arith, plan_size plan least.few (omega (arith, count, few.pairs)) short)
