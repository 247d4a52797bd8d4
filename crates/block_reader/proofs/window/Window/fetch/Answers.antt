use Rattle.std.proofs.Common.{◌≡◌, ◌≤◌, ◌<◌, [], ◌∷◌, ◌++◌, length, take, drop, refl, ap, arith, length-append, length-take-le}
use Rattle.std.proofs.lemmas.Result.{IfOk-weaker}
use Rattle.te_ports.specs.Record.{read}
use Rattle.block_reader.specs.Standing.{ready}
use Rattle.block_reader.proofs.Bytes.{behind}
use Rattle.block_reader.proofs.Fetching.{count_fits, fits_behind, inside_items, ordered_more, counted_more, open_within, at_answer, in_answer, told_pieces, added_by, failed_by, steady_by, fewer_by, within_by, past_by}
use Rattle.block_reader.proofs.window.Window.fetch.Goals as goal

pub returns-clause-behind : goal.returns-clause-behind
returns-clause-behind g c =
    let w = c.args.self.now in
    let buf = c.fetch-answer.new.buf in
    let count = c.unwrap_or-count.result in
    let room : count ≤ length buf = count_fits c.fetch-answer.result count (length buf) c.unwrap_or-count.ensures c.fetch-answer.ensures.room in
    let size : length buf ≡ c.space-space.result = omega arith in
    let fits = fits_behind w c.space-space.result (length buf) count c.space-space.ensures.some c.space-space.ensures.inside c.space-space.ensures.below size room in (
      take count buf,
      behind w.bytes.items c.deref_mut.result.now buf _ _ w.start w.end count w.bytes.len c.deref_mut.ensures.value w.ordered (inside_items w) room fits.1,
    )

pub returns-clause-stands : goal.returns-clause-stands
unfolding returns-clause-behind
returns-clause-stands g c = λ before passed s.
    let w = c.args.self.now in
    let buf = c.fetch-answer.new.buf in
    let count = c.unwrap_or-count.result in
    let room : count ≤ length buf = count_fits c.fetch-answer.result count (length buf) c.unwrap_or-count.ensures c.fetch-answer.ensures.room in
    let size : length buf ≡ c.space-space.result = omega arith in
    let fits = fits_behind w c.space-space.result (length buf) count c.space-space.ensures.some c.space-space.ensures.inside c.space-space.ensures.below size room in
    let old = g.D.Depot.gave c.args.depot.now in
    let new = g.D.Depot.gave c.fetch-answer.new.self in
    at_answer c.args.name.now before old new w _ passed buf c.fetch-answer.result count c.requires.is_open c.unwrap_or-count.ensures room
    (returns-clause-behind g c).1
    refl fits.2 c.state_after-self.ensures
    (IfOk-weaker c.fetch-answer.result _ (λ n. new ≡ old ++ read c.args.name.now w.fetched (take n buf) ∷ []) (λ n gave. gave fits.0) c.fetch-answer.ensures.gave)
    c.fetch-answer.ensures.unread s

pub returns-clause-added : goal.returns-clause-added
returns-clause-added g c =
    let w = c.args.self.now in
    let buf = c.fetch-answer.new.buf in
    let count = c.unwrap_or-count.result in
    let room : count ≤ length buf = count_fits c.fetch-answer.result count (length buf) c.unwrap_or-count.ensures c.fetch-answer.ensures.room in
    let size : length buf ≡ c.space-space.result = omega arith in
    let fits = fits_behind w c.space-space.result (length buf) count c.space-space.ensures.some c.space-space.ensures.inside c.space-space.ensures.below size room in
    added_by (g.D.Depot.content c.args.depot.now) _ _ c.args.name.now buf w.fetched c.fetch-answer.result fits.0
    c.fetch-answer.ensures.room c.fetch-answer.ensures.bytes c.fetch-answer.ensures.end c.fetch-answer.ensures.gave c.fetch-answer.ensures.unread

pub returns-clause-told : goal.returns-clause-told
unfolding returns-clause-behind
returns-clause-told g c = λ told is passed s.
    let w = c.args.self.now in
    let buf = c.fetch-answer.new.buf in
    let count = c.unwrap_or-count.result in
    let room : count ≤ length buf = count_fits c.fetch-answer.result count (length buf) c.unwrap_or-count.ensures c.fetch-answer.ensures.room in
    let size : length buf ≡ c.space-space.result = omega arith in
    let fits = fits_behind w c.space-space.result (length buf) count c.space-space.ensures.some c.space-space.ensures.inside c.space-space.ensures.below size room in
    in_answer told w _ passed buf c.fetch-answer.result count c.unwrap_or-count.ensures room
    (returns-clause-behind g c).1
    refl c.state_after-self.ensures
    (told_pieces told buf w.fetched c.fetch-answer.result fits.0 c.fetch-answer.ensures.room
    (IfOk-weaker c.fetch-answer.result _ (λ n. take n buf ≡ take n (drop w.fetched told)) (λ n bytes. bytes told is) c.fetch-answer.ensures.bytes)
    (IfOk-weaker c.fetch-answer.result _ (λ n. n ≡ 0 → 0 < length buf → length told ≤ w.fetched) (λ n end. end told is) c.fetch-answer.ensures.end)) s

pub returns-clause-count : goal.returns-clause-count
unfolding returns-clause-behind
returns-clause-count g c =
    let w = c.args.self.now in
    let buf = c.fetch-answer.new.buf in
    let count = c.unwrap_or-count.result in
    let room : count ≤ length buf = count_fits c.fetch-answer.result count (length buf) c.unwrap_or-count.ensures c.fetch-answer.ensures.room in
    omega (arith, ap length (returns-clause-behind g c).1, length-append (ready w) (take count buf), length-take-le count buf room)

pub returns-clause-fewer : goal.returns-clause-fewer
returns-clause-fewer g c =
    let w = c.args.self.now in
    let buf = c.fetch-answer.new.buf in
    let count = c.unwrap_or-count.result in
    let room : count ≤ length buf = count_fits c.fetch-answer.result count (length buf) c.unwrap_or-count.ensures c.fetch-answer.ensures.room in
    let size : length buf ≡ c.space-space.result = omega arith in
    let fits = fits_behind w c.space-space.result (length buf) count c.space-space.ensures.some c.space-space.ensures.inside c.space-space.ensures.below size room in
    fewer_by w.limit w.fetched count _ (open_within w c.requires.is_open) fits.2 c.fetch-answer.result w.state c.requires.is_open c.state_after-self.ensures c.unwrap_or-count.ensures

pub returns-clause-failed : goal.returns-clause-failed
returns-clause-failed g c = failed_by c.fetch-answer.result _ _ _ c.state_after-self.ensures c.fetch-answer.ensures.failed

pub returns-clause-steady : goal.returns-clause-steady
returns-clause-steady g c = steady_by c.fetch-answer.result _ _ _ c.state_after-self.ensures c.fetch-answer.ensures.steady

pub invariant_of-self : goal.invariant_of-self
invariant_of-self g c =
    let w = c.args.self.now in
    let buf = c.fetch-answer.new.buf in
    let count = c.unwrap_or-count.result in
    let room : count ≤ length buf = count_fits c.fetch-answer.result count (length buf) c.unwrap_or-count.ensures c.fetch-answer.ensures.room in
    let size : length buf ≡ c.space-space.result = omega arith in
    let fits = fits_behind w c.space-space.result (length buf) count c.space-space.ensures.some c.space-space.ensures.inside c.space-space.ensures.below size room in
    let within = open_within w c.requires.is_open in
    record {
      some = w.some;
      ordered = ordered_more w.start w.end count w.ordered;
      inside = fits.1;
      counted = counted_more w.start w.end count w.fetched w.counted;
      small = w.small;
      below = fits.2;
      within = within_by w.limit w.fetched count _ within fits.2 c.fetch-answer.result c.state_after-self.ensures c.unwrap_or-count.ensures;
      past = past_by w.limit w.fetched count _ within fits.2 c.fetch-answer.result c.state_after-self.ensures;
    }
