-- Laws of queues.
use Rattle.std.proofs.Common.{◌≡◌, ℕ, zero, suc, ◌+◌, ◌*◌, ◌^◌, ◌<◌, ◌≤◌, Bool, true, false, List, [], ◌∷◌, ◌++◌, length, map, take, slice_index, arith, refl, ap, sym, ◌∙◌, inl, inr, ◌==◌, ◌&&◌, add-one, subst, length-append}
use Rattle.std.specs.Prelude.{if◌then◌else◌, nat_lt, slice_index_or, All}
use Rattle.std.proofs.lemmas.Bool.{cases_lt}
use Rattle.std.proofs.lemmas.List.{append-nil, append_assoc, map-append, get_or_append_left, get_or-append-add, get_or_default, length-take-le, take_more}
use Rattle.std.proofs.lemmas.List.Elements.{All-get_or}
use Rattle.te_model.specs.declared.limits.TheConstants.{FORMAT_2}
use Rattle.te_model.specs.declared.route.PathShare.{PathShare}
use Rattle.te_model.specs.declared.route.PairRoutes.{PairRoutes}
use Rattle.te_model.specs.Path.{routes_at, no_routes}
use Rattle.flow_sim.specs.Asking.{numbers_below}
use Rattle.flow_sim.specs.Queues.{queues_in, queue_at, asks, asking_of, HasRoom, AreAlike, AreAdded, AreQueues}
use Rattle.routing.specs.Merge.{no_path}
use Rattle.flow_sim.specs.Traffic.{concat_below, flow_paths, longest, paths_of}
use Rattle.flow_sim.proofs.StartLaws.{longest-append}

pub alike_then : (a b d : List (List (List ℕ))) → AreAlike a b → AreAlike b d → AreAlike a d
alike_then a b d one two = record {
  rounds = two.rounds ∙ one.rounds;
  queues = λ r. two.queues r ∙ one.queues r;
}

-- a flow with this path stands in the queues of its first j hops
pub record IsUnderWay (path : PathShare) (flow j : ℕ) (old new : List (List (List ℕ))) : Type 0 where
  pub alike : AreAlike old new
  pub added : (r e : ℕ) → e < length (queues_in old r) →
      queue_at new r e ≡ queue_at old r e ++ (if nat_lt r j && slice_index path.links r == e then flow ∷ [] else [])

pub numbers_below-same : (n : ℕ) (p q : ℕ → Bool) → ((k : ℕ) → k < n → p k ≡ q k) → numbers_below n p ≡ numbers_below n q
numbers_below-same zero p q each = refl
numbers_below-same (suc n) p q each = rw (each n (omega arith), numbers_below-same n p q (λ k below. each k (omega arith))) refl

map_if : (b : Bool) (a n : ℕ) → (if b then (a + n) ∷ [] else []) ≡ map (λ i. a + i) (if b then n ∷ [] else [])
map_if true a n = refl
map_if false a n = refl

-- the numbers below a + n that pass are those below a, and a more than those below n whose tests are a further on
numbers_below-add : (a n : ℕ) (test : ℕ → Bool) →
    numbers_below (a + n) test ≡ numbers_below a test ++ map (λ i. a + i) (numbers_below n (λ i. test (a + i)))
numbers_below-add a zero test =
    let e : a + 0 ≡ a = omega arith in rw e (sym (append-nil (numbers_below a test)))
numbers_below-add a (suc n) test =
    let e : a + suc n ≡ suc (a + n) = omega arith in
    ap (λ k. numbers_below k test) e
    ∙ (ap (λ ys. ys ++ (if test (a + n) then (a + n) ∷ [] else [])) (numbers_below-add a n test)
    ∙ (append_assoc (numbers_below a test) (map (λ i. a + i) (numbers_below n (λ i. test (a + i)))) (if test (a + n) then (a + n) ∷ [] else [])
    ∙ ap (λ ys. numbers_below a test ++ ys)
    (ap (λ ys. map (λ i. a + i) (numbers_below n (λ i. test (a + i))) ++ ys) (map_if (test (a + n)) a n)
    ∙ sym (map-append (λ i. a + i) (numbers_below n (λ i. test (a + i))) (if test (a + n) then n ∷ [] else [])))))

-- those of two lists of paths that ask
pub asking-append : (xs ys : List PathShare) (r e : ℕ) →
    asking_of (xs ++ ys) r e ≡ asking_of xs r e ++ map (λ i. length xs + i) (asking_of ys r e)
asking-append xs ys r e =
    let test = λ (i : ℕ). asks (slice_index_or (xs ++ ys) i no_path) r e in
    ap (λ n. numbers_below n test) (length-append xs ys)
    ∙ (numbers_below-add (length xs) (length ys) test
    ∙ (ap (λ zs. zs ++ map (λ i. length xs + i) (numbers_below (length ys) (λ i. test (length xs + i))))
    (numbers_below-same (length xs) test (λ i. asks (slice_index_or xs i no_path) r e)
    (λ k below. ap (λ p. asks p r e) (get_or_append_left xs ys no_path k below)))
    ∙ ap (λ zs. asking_of xs r e ++ map (λ i. length xs + i) zs)
    (numbers_below-same (length ys) (λ i. test (length xs + i)) (λ i. asks (slice_index_or ys i no_path) r e)
    (λ k below. ap (λ p. asks p r e) (get_or-append-add xs ys k no_path)))))

last_path : (xs : List PathShare) (path : PathShare) (first r e : ℕ) →
    map (λ i. first + i) (asking_of (xs ++ path ∷ []) r e)
    ≡ map (λ i. first + i) (asking_of xs r e) ++ (if asks path r e then (first + length xs) ∷ [] else [])
last_path xs path first r e =
    ap (map (λ i. first + i)) (asking-append xs (path ∷ []) r e)
    ∙ (map-append (λ i. first + i) (asking_of xs r e) (map (λ i. length xs + i) (asking_of (path ∷ []) r e))
    ∙ ap (λ ys. map (λ i. first + i) (asking_of xs r e) ++ ys) (alone (asks path r e)))
  where
    alone : (b : Bool) → map (λ i. first + i) (map (λ i. length xs + i) ([] ++ (if b then 0 ∷ [] else [])))
        ≡ (if b then (first + length xs) ∷ [] else [])
    alone true = let e : first + (length xs + 0) ≡ first + length xs = omega arith in ap (λ k. k ∷ []) e
    alone false = refl

-- a path more
pub added_more : (first i : ℕ) (paths : List PathShare) (hops : List ℕ) (old now new : List (List (List ℕ))) → i < length paths →
    AreAdded first (take i paths) old now → AreAlike now new →
    ((r e : ℕ) → e < length (queues_in now r) →
    queue_at new r e ≡ queue_at now r e ++ (if nat_lt r (length hops) && slice_index hops r == e then (first + i) ∷ [] else [])) →
    hops ≡ (slice_index_or paths i no_path).links → AreAdded first (take (i + 1) paths) old new
added_more first i paths hops old now new below so alike added is =
    let path = slice_index_or paths i no_path in
    let size : length (take i paths) ≡ i = length-take-le i paths (omega arith) in
    let whole : take (i + 1) paths ≡ take i paths ++ path ∷ [] = take_more paths i no_path below in
    record {
      alike = alike_then old now new so.alike alike;
      added = λ r e inside.
          added r e (omega (arith, inside, so.alike.queues r))
          ∙ (ap (λ hs. queue_at now r e ++ (if nat_lt r (length hs) && slice_index hs r == e then (first + i) ∷ [] else [])) is
          ∙ (ap (λ q. q ++ (if asks path r e then (first + i) ∷ [] else [])) (so.added r e inside)
          ∙ (append_assoc (queue_at old r e) (map (λ k. first + k) (asking_of (take i paths) r e)) (if asks path r e then (first + i) ∷ [] else [])
          ∙ ap (λ ys. queue_at old r e ++ ys)
          (ap (λ n. map (λ k. first + k) (asking_of (take i paths) r e) ++ (if asks path r e then (first + n) ∷ [] else [])) (sym size)
          ∙ (sym (last_path (take i paths) path first r e)
          ∙ ap (λ ps. map (λ k. first + k) (asking_of ps r e)) (sym whole))))));
    }

-- the paths of a pair more
pub queues_more : (links : ℕ) (xs ys : List PathShare) (old new : List (List (List ℕ))) → AreQueues xs links old → AreAdded (length xs) ys old new →
    AreQueues (xs ++ ys) links new
queues_more links xs ys old new so more = record {
  queues = λ r below. more.alike.queues r ∙ so.queues r (omega (arith, below, more.alike.rounds));
  asking = λ r e inside.
      let was : e < length (queues_in old r) = omega (arith, inside, more.alike.queues r) in
      more.added r e was
      ∙ (ap (λ q. q ++ map (λ i. length xs + i) (asking_of ys r e)) (so.asking r e was) ∙ sym (asking-append xs ys r e));
}

longest_le : (paths : List PathShare) (k : ℕ) (d : PathShare) → k < length paths → length (slice_index_or paths k d).links ≤ longest paths
longest_le [] k d below = absurd (omega arith)
longest_le (s ∷ ss) zero d below = omega arith
longest_le (s ∷ ss) (suc k) d below = omega (arith, longest_le ss k d (omega arith))

longest_piece : (n : ℕ) (piece : ℕ → List PathShare) (p : ℕ) → p < n → longest (piece p) ≤ longest (concat_below n piece)
longest_piece zero piece p below = absurd (omega arith)
longest_piece (suc n) piece p below =
    elim (cases_lt p n) [
      | inl lt ↦ omega (arith, longest_piece n piece p lt, longest-append (concat_below n piece) (piece n))
      | inr ge ↦
          let one : p ≡ n = omega arith in
          omega (arith, ap (λ k. longest (piece k)) one, longest-append (concat_below n piece) (piece n))
    ]

pub concat_next : {A : Type 0} (n : ℕ) (piece : ℕ → List A) → concat_below (n + 1) piece ≡ concat_below n piece ++ piece n
concat_next n piece = rw add-one refl

pub flows_next : (n : ℕ) (piece : ℕ → List PathShare) → length (concat_below (n + 1) piece) ≡ length (concat_below n piece) + length (piece n)
flows_next n piece = ap length (concat_next n piece) ∙ length-append (concat_below n piece) (piece n)

-- few paths of each pair are few flows
pub few_flows : (n : ℕ) (piece : ℕ → List PathShare) → ((p : ℕ) → p < n → length (piece p) ≤ 4096) → length (concat_below n piece) ≤ n * 4096
few_flows zero piece few = omega arith
few_flows (suc n) piece few =
    omega (
      arith,
      length-append (concat_below n piece) (piece n),
      few_flows n piece (λ p below. few p (omega arith)),
      few n (omega arith),
    )

-- up to the paths of a pair there are few flows
pub flows_within : (rates : List PairRoutes) (p first : ℕ) (paths : List PathShare) → p < length rates →
    length rates ≤ FORMAT_2.nodes * FORMAT_2.nodes → ((q : ℕ) → q < length rates → length (paths_of rates q) ≤ 4096) →
    first ≡ length (concat_below p (paths_of rates)) → paths ≡ paths_of rates p → first + length paths ≤ 2 ^ 31
flows_within rates p first paths inside pairs few before is =
    omega (
      arith,
      before,
      flows_next p (paths_of rates),
      ap length is,
      few_flows (p + 1) (paths_of rates) (λ q below. few q (omega arith)),
      pairs,
      inside,
    )

-- the paths of a pair, as the code lends them
pub paths_read : (rates lent : List PairRoutes) (p : ℕ) (routes : PairRoutes) (paths : List PathShare) → lent ≡ rates → p < length lent →
    paths ≡ (slice_index_or lent p routes).paths → paths ≡ paths_of rates p
paths_read rates lent p routes paths same below is =
    is ∙ ap (λ (r : PairRoutes). r.paths) (get_or_default lent p routes no_routes below ∙ ap (λ rs. routes_at rs p) same)

-- the queues have room for each path of a pair
pub room_for : (rates : List PairRoutes) (links count : ℕ) (rounds : List (List (List ℕ))) (xs : List PathShare) (p : ℕ) (paths : List PathShare) →
    p < length rates → paths ≡ paths_of rates p → All (λ (s : PathShare). All (λ e. e < links) s.links) (paths_of rates p) →
    longest (flow_paths rates) ≤ count → length rounds ≡ count → AreQueues xs links rounds → (k : ℕ) (d : PathShare) → k < length paths →
    HasRoom rounds (slice_index_or paths k d)
room_for rates links count rounds xs p paths inside is known enough size so k d below = λ r r_below.
    let path = slice_index_or paths k d in
    let all : All (λ e. e < links) path.links =
    All-get_or (λ (s : PathShare). All (λ e. e < links) s.links) paths k d below
    (subst (All (λ (s : PathShare). All (λ e. e < links) s.links)) (sym is) known) in
    let small : slice_index path.links r < links = All-get_or (λ e. e < links) path.links r 0 r_below all in
    let long : r < length rounds =
    omega (arith, longest_le paths k d below, ap longest is, longest_piece (length rates) (paths_of rates) p inside) in
    omega (arith, small, so.queues r long)
