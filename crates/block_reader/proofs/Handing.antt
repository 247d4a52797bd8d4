-- What reads gave of a file, behind a head and some blocks: one block more, the end, and faults.
use Rattle.std.proofs.Common.{◌≡◌, ◌∙◌, ℕ, zero, suc, ◌+◌, ◌≤◌, true, ◌&&◌, List, [], ◌∷◌, ◌++◌, length, Option, Some, None, Result, Ok, Err, refl, sym, ap, arith, append_assoc, append-nil, length-append}
use Rattle.te_ports.specs.Record.{Pass}
use Rattle.std.proofs.Math.Seq.{get_or-append_seam}
use Rattle.std.proofs.lemmas.Bool.Decides.{nat_tests}
use Rattle.te_model.specs.declared.network.Network.{Network}
use Rattle.te_model.specs.declared.certificate.Block.{Block}
use Rattle.te_model.specs.declared.certificate.Certificate.{Certificate}
use Rattle.te_model.specs.declared.certificate.Head.{Head}
use Rattle.te_model.specs.declared.certificate.RuleFault.{RuleFault}
use Rattle.te_model.specs.Certificate.{empty_block}
use Rattle.te_model.specs.Counting.{unless}
use Rattle.te_model.specs.Formats.{limits_of}
use Rattle.te_model.specs.Shape.{is_count, is_shaped_head, is_shaped_block}
use Rattle.te_model.specs.Validity.{block_at as block_of, first_rule, head_fault, block_fault, blocks_fault, link_before, earlier_fault, follows, fault_at, is_sound_block, has_block_numbers, has_small_numbers, IsValidHead, IsValidBlock}
use Rattle.te_model.proofs.Earlier.{earlier-assoc}
use Rattle.te_model.proofs.RuleParts.{first_rule-parts, blocks_fault-more}
use Rattle.te_model.proofs.Tests.{and_true, and_three, or_else_none, unless_none}
use Rattle.cert_text.specs.Place.{Place, place, ◌>>=◌}
use Rattle.cert_text.specs.Reading.{narrow_number, read_many}
use Rattle.cert_text.specs.Grammar.{read_block, read_closing, read_certificate, counts_of}
use Rattle.cert_text.specs.Halves.{read_format_and_head, read_blocks}
use Rattle.cert_text.specs.Fits.{FitsHead, FitsBlock}
use Rattle.cert_text.specs.declared.fault.CertFault.TheVariants as cert_faults
use Rattle.cert_text.proofs.Halves.{after_many, closed, halves_are, made_of, with_blocks}
use Rattle.cert_text.proofs.Laws.{fault_is}
use Rattle.cert_text.proofs.Local.{quiet}
use Rattle.cert_text.proofs.Outcomes.{is_spelled, is_rule_fault}
use Rattle.cert_text.proofs.Productions.{room_of}
use Rattle.cert_text.proofs.Shaped.{fits_shaped}
use Rattle.block_reader.specs.declared.blocks.Blocks.{Blocks}
use Rattle.block_reader.specs.declared.lines.Lines.{Lines}
use Rattle.block_reader.specs.declared.stream_fault.StreamFault.{StreamFault}
use Rattle.block_reader.specs.declared.stream_fault.StreamFault.TheVariants as faults
use Rattle.block_reader.specs.Ahead.{with_no_value}
use Rattle.block_reader.specs.Standing.{StandsIn}
use Rattle.block_reader.specs.Answers.{place_in, IsBehind, IsWhole, Gives, StopsAs, IsClosed}
use Rattle.block_reader.specs.Blocks.{block_count, rest_at, AreOf, AreBehind, KeepsRules, IsEarliest, IsShapeOf, IsTextOf, IsFaultOf}

-- ---- what is left to read

abbrev made : Head → List Block → Certificate
made head blocks = record { head = head; blocks = blocks }

abbrev finish : Head → List Block → List Block × Place → Result (Certificate × Place) ℕ
finish head blocks more = read_closing more.1 >>= λ e. Ok (made head (blocks ++ more.0), e)

abbrev block_in : Head → Place → Result (Block × Place) ℕ
block_in head = read_block (limits_of head.format) narrow_number (counts_of head)

pub rest_more : (head : Head) (blocks : List Block) (m : ℕ) (p q : Place) (b : Block) → block_in head p ≡ Ok (b, q) →
    rest_at head blocks (suc m) p ≡ rest_at head (blocks ++ b ∷ []) m q
unfolding rest_at read_many
rest_more head blocks m p q b read =
    ap (λ r. (r >>= λ first. read_many m (block_in head) first.1 >>= λ others. Ok (first.0 ∷ others.0, others.1)) >>= finish head blocks) read
    ∙ tail (read_many m (block_in head) q)
  where
    tail : (r : Result (List Block × Place) ℕ) → ((r >>= λ others. Ok (b ∷ others.0, others.1)) >>= finish head blocks) ≡ (r >>= finish head (blocks ++ b ∷ []))
    tail (Ok more) = ap (λ bs. read_closing more.1 >>= λ e. Ok (made head bs, e)) (sym (append_assoc blocks (b ∷ []) more.0))
    tail (Err k) = refl

pub rest_stops : (head : Head) (blocks : List Block) (m k : ℕ) (p : Place) → block_in head p ≡ Err k → rest_at head blocks (suc m) p ≡ Err k
unfolding rest_at read_many
rest_stops head blocks m k p stops =
    ap (λ r. (r >>= λ first. read_many m (block_in head) first.1 >>= λ others. Ok (first.0 ∷ others.0, others.1)) >>= finish head blocks) stops

pub end_read : (head : Head) (blocks : List Block) (p e : Place) → read_closing p ≡ Ok e → rest_at head blocks 0 p ≡ Ok (made head blocks, e)
unfolding rest_at read_many
end_read head blocks p e closes =
    ap (λ r. r >>= λ q. Ok (made head (blocks ++ []), q)) closes ∙ ap (λ bs. Ok (made head bs, e)) (append-nil blocks)

-- the step that ends a certificate
abbrev done : Head → List Block → Place → Result (Certificate × Place) ℕ
done head blocks e = Ok (made head (blocks ++ []), e)

pub end_stops : (head : Head) (blocks : List Block) (k : ℕ) (p : Place) → with_no_value read_closing p ≡ Err k → rest_at head blocks 0 p ≡ Err k
unfolding rest_at read_many
end_stops head blocks k p stops = go (read_closing p) stops
  where
    go : (r : Result Place ℕ) → (r >>= quiet) ≡ Err k → (r >>= done head blocks) ≡ Err k
    go (Ok q) e = absurd cc
    go (Err j) e = let same : j ≡ k = cc in ap (λ i. Err i) same

-- ---- faults

pub shape_refused : (given : Pass) (bytes : List ℕ) (k : ℕ) → IsWhole given bytes → read_certificate narrow_number (place 1 bytes) ≡ Err k → IsFaultOf given (faults.Shape k)
shape_refused given bytes k whole stops = (bytes, whole, fault_is bytes k stops)

-- a part stopped, and so reading of the whole does
pub stop_refused : {X : Type 0} (given : Pass) (lines : Lines) (passed : List ℕ) (f : Place → Result (X × Place) ℕ) (fault : StreamFault) →
    ((content : List ℕ) → StandsIn content lines.window passed → (k : ℕ) → f (place_in lines passed content) ≡ Err k → read_certificate narrow_number (place 1 content) ≡ Err k) →
    StopsAs given lines passed f fault → IsFaultOf given fault
stop_refused given lines passed f faults.Failed whole s = s
stop_refused given lines passed f faults.TooLong whole s = s
stop_refused given lines passed f (faults.Shape k) whole s = shape_refused given s.bytes k s.whole (whole s.bytes s.stood k s.stops)
stop_refused given lines passed f (faults.Rule rule) whole s = absurd s
stop_refused given lines passed f faults.Memory whole s = s

pub block_refused : (gave given : Pass) (b : Blocks) (head : Head) (blocks : List Block) (fault : StreamFault) → 1 ≤ b.left → AreBehind gave b head blocks →
    ((passed : List ℕ) → IsBehind gave b.lines passed → StopsAs given b.lines passed (read_block b.room.limits narrow_number b.room.counts) fault) → IsFaultOf given fault
block_refused gave given b head blocks fault some are stops =
    stop_refused given b.lines are.passed (read_block b.room.limits narrow_number b.room.counts) fault
    (λ content s k stop.
    are.read content s ∙ go b.left (place_in b.lines are.passed content) k some
    (ap (λ l. read_block l narrow_number (counts_of head) (place_in b.lines are.passed content)) (sym are.of_head.limits)
    ∙ ap (λ c. read_block b.room.limits narrow_number c (place_in b.lines are.passed content)) (sym are.of_head.counts) ∙ stop))
    (stops are.passed are.behind)
  where
    go : (left : ℕ) (p : Place) (k : ℕ) → 1 ≤ left → block_in head p ≡ Err k → rest_at head blocks left p ≡ Err k
    go zero p k some stop = absurd (omega (arith, some))
    go (suc m) p k some stop = rest_stops head blocks m k p stop

pub end_refused : (gave given : Pass) (b : Blocks) (head : Head) (blocks : List Block) (fault : StreamFault) → b.left ≡ 0 → AreBehind gave b head blocks →
    ((passed : List ℕ) → IsBehind gave b.lines passed → StopsAs given b.lines passed (with_no_value read_closing) fault) → IsFaultOf given fault
end_refused gave given b head blocks fault none are stops =
    stop_refused given b.lines are.passed (with_no_value read_closing) fault
    (λ content s k stop.
    are.read content s ∙ ap (λ n. rest_at head blocks n (place_in b.lines are.passed content)) none
    ∙ end_stops head blocks k (place_in b.lines are.passed content) stop)
    (stops are.passed are.behind)

-- ---- the end

pub end_shape : (gave given : Pass) (b : Blocks) (head : Head) (blocks : List Block) → b.left ≡ 0 → AreBehind gave b head blocks →
    ((passed : List ℕ) → IsBehind gave b.lines passed → IsClosed given b.lines passed) → IsShapeOf given head blocks
end_shape gave given b head blocks none are closed =
    let c = closed are.passed are.behind in (
      c.bytes,
      c.whole,
      (
        c.end,
        are.read c.bytes c.stood ∙ ap (λ n. rest_at head blocks n (place_in b.lines are.passed c.bytes)) none
            ∙ end_read head blocks (place_in b.lines are.passed c.bytes) c.end c.closes,
      ),
    )

pub sound_text : (given : Pass) (head : Head) (blocks : List Block) → IsShapeOf given head blocks → KeepsRules head blocks → IsTextOf given head blocks
sound_text given head blocks shape sound =
    let c = made head blocks in
    let valid : first_rule c ≡ None = first_rule-parts c ∙ ap (λ o. earlier_fault o (blocks_fault head.network None 0 blocks)) sound.sound_head ∙ sound.sound_blocks in
    (shape.0, shape.1, is_spelled shape.0 (Ok c) (shape.2.0, shape.2.1, valid))

pub rule_refused : (given : Pass) (head : Head) (blocks : List Block) (rule : RuleFault) → IsShapeOf given head blocks → IsEarliest head blocks rule → IsFaultOf given (faults.Rule rule)
rule_refused given head blocks rule shape earliest =
    let c = made head blocks in
    let first : first_rule c ≡ Some rule = first_rule-parts c ∙ earliest in
    (shape.0, shape.1, is_rule_fault shape.0 (Err (cert_faults.Rule rule)) (c, shape.2.0, shape.2.1, first) rule refl)

-- ---- one block more

last_block : (bs : List Block) (b : Block) → block_of (bs ++ b ∷ []) (length bs) ≡ b
last_block bs b = get_or-append_seam bs b [] (empty_block 0)

pub link_of_last : (bs : List Block) (b : Block) → link_before (bs ++ b ∷ []) (length (bs ++ b ∷ [])) ≡ Some b.link
link_of_last bs b =
    let count : length (bs ++ b ∷ []) ≡ suc (length bs) = omega (arith, length-append bs (b ∷ [])) in
    ap (λ n. link_before (bs ++ b ∷ []) n) count ∙ ap (λ (c : Block). Some c.link) (last_block bs b)

pub block_handed : (gave given : Pass) (old new : Blocks) (head : Head) (blocks : List Block) (b : Block) →
    new.left + 1 ≡ old.left → new.place ≡ old.place + 1 → new.before ≡ Some b.link → new.room.limits ≡ old.room.limits → new.room.counts ≡ old.room.counts →
    Gives gave given old.lines new.lines (read_block old.room.limits narrow_number old.room.counts) b → AreBehind gave old head blocks → AreBehind given new head (blocks ++ b ∷ [])
block_handed gave given old new head blocks b left place before limits counts gives are =
    let one = gives are.passed are.behind in
    let fewer : old.left ≡ suc new.left = omega (arith, left) in record {
      passed = are.passed ++ one.0;
      behind = one.1;
      read = λ content s.
          let moved = one.2 content s in
          are.read content moved.0
          ∙ ap (λ n. rest_at head blocks n (place_in old.lines are.passed content)) fewer
          ∙ rest_more head blocks new.left (place_in old.lines are.passed content) (place_in new.lines (are.passed ++ one.0) content) b
          (ap (λ l. read_block l narrow_number (counts_of head) (place_in old.lines are.passed content)) (sym are.of_head.limits)
          ∙ ap (λ c. read_block old.room.limits narrow_number c (place_in old.lines are.passed content)) (sym are.of_head.counts) ∙ moved.1);
      counted = record {
        place = omega (arith, place, are.counted.place, length-append blocks (b ∷ []));
        before = before ∙ sym (link_of_last blocks b);
      };
      of_head = record { limits = limits ∙ are.of_head.limits; counts = counts ∙ are.of_head.counts; fits = are.of_head.fits };
    }

pub sound_more : (head : Head) (blocks : List Block) (b : Block) → block_fault head.network (link_before blocks (length blocks)) (length blocks) b ≡ None →
    KeepsRules head blocks → KeepsRules head (blocks ++ b ∷ [])
sound_more head blocks b none sound = record {
  sound_head = sound.sound_head;
  sound_blocks = blocks_fault-more head.network blocks b
      ∙ ap (λ o. earlier_fault o (block_fault head.network (link_before blocks (length blocks)) (length blocks) b)) sound.sound_blocks ∙ none;
}

pub first_fault_is : (head : Head) (blocks : List Block) (b : Block) (rule : RuleFault) → block_fault head.network (link_before blocks (length blocks)) (length blocks) b ≡ Some rule →
    KeepsRules head blocks → IsEarliest head (blocks ++ b ∷ []) rule
first_fault_is head blocks b rule is sound =
    ap (λ o. earlier_fault o (blocks_fault head.network None 0 (blocks ++ b ∷ []))) sound.sound_head
    ∙ blocks_fault-more head.network blocks b
    ∙ ap (λ o. earlier_fault o (block_fault head.network (link_before blocks (length blocks)) (length blocks) b)) sound.sound_blocks ∙ is

pub earliest_more : (head : Head) (blocks : List Block) (b : Block) (rule next : RuleFault) (fault : Option RuleFault) →
    fault ≡ block_fault head.network (link_before blocks (length blocks)) (length blocks) b → Some next ≡ earlier_fault (Some rule) fault →
    IsEarliest head blocks rule → IsEarliest head (blocks ++ b ∷ []) next
earliest_more head blocks b rule next fault is then earliest =
    let of_block = block_fault head.network (link_before blocks (length blocks)) (length blocks) b in
    ap (earlier_fault (head_fault head)) (blocks_fault-more head.network blocks b)
    ∙ earlier-assoc (head_fault head) (blocks_fault head.network None 0 blocks) of_block
    ∙ ap (λ o. earlier_fault o of_block) earliest ∙ ap (earlier_fault (Some rule)) (sym is) ∙ sym then

pub head_earliest : (head : Head) (rule : RuleFault) → head_fault head ≡ Some rule → IsEarliest head [] rule
head_earliest head rule is = ap (λ o. earlier_fault o None) is

-- the fault of the block that was read, by the numbers of the head
pub fault_in : (gave : Pass) (old : Blocks) (head : Head) (blocks : List Block) (b : Block) (fault : Option RuleFault) → AreBehind gave old head blocks →
    fault ≡ block_fault head.network old.before old.place b → fault ≡ block_fault head.network (link_before blocks (length blocks)) (length blocks) b
fault_in gave old head blocks b fault are is =
    is ∙ ap (λ o. block_fault head.network o old.place b) are.counted.before
    ∙ ap (λ k. block_fault head.network (link_before blocks (length blocks)) k b) are.counted.place

-- ---- valid parts

pub valid_head : (head : Head) → FitsHead (limits_of head.format) head → head_fault head ≡ None → IsValidHead head
valid_head head fits none =
    let limits = limits_of head.format in
    let count : is_count 0 limits.links 0 ≡ true = grind (arith, nat_tests) in
    let shaped = fits_shaped (made head []) (record { head = fits; count = count; blocks = tt }) in
    record { shaped = (and_three (is_shaped_head limits head) (is_count 0 limits.links 0) true shaped).0; no_fault = none }

pub sound_block : (net : Network) (before : Option ℕ) (k : ℕ) (b : Block) → block_fault net before k b ≡ None →
    (has_block_numbers net b ≡ true) × (follows before b.link ≡ true) × (has_small_numbers net b ≡ true)
sound_block net before k b none =
    let both = or_else_none (unless (is_sound_block net before b) (fault_at 8 (suc k))) (unless (has_small_numbers net b) (fault_at 9 k)) none in
    let sound = and_true (has_block_numbers net b) (follows before b.link) (unless_none (is_sound_block net before b) (fault_at 8 (suc k)) both.0) in
    (sound.0, sound.1, unless_none (has_small_numbers net b) (fault_at 9 k) both.1)

pub valid_block : (head : Head) (b : Block) → FitsHead (limits_of head.format) head → FitsBlock (limits_of head.format) (counts_of head) b →
    has_block_numbers head.network b ≡ true → has_small_numbers head.network b ≡ true → IsValidBlock head b
valid_block head b fits of_block numbers small =
    let limits = limits_of head.format in
    let some = (room_of head.format).some_links in
    let count : is_count 0 limits.links 1 ≡ true = grind (arith, nat_tests) in
    let shaped = fits_shaped (made head (b ∷ [])) (record { head = fits; count = count; blocks = (of_block, tt) }) in
    let each = (and_three (is_shaped_head limits head) (is_count 0 limits.links 1) (is_shaped_block limits head b && true) shaped).2 in
    record { shaped = (and_true (is_shaped_block limits head b) true each).0; numbers = numbers; small = small }

-- ---- the beginning

abbrev start : ℕ → List ℕ → Place
start line content = place line content

-- the whole, where the head was read
head_whole : (content : List ℕ) (line : ℕ) (head : Head) (p : Place) → line ≡ 1 → read_format_and_head narrow_number (start line content) ≡ Ok (head, p) →
    read_certificate narrow_number (place 1 content) ≡ with_blocks narrow_number (head, p)
head_whole content line head p first read =
    ap (λ k. read_certificate narrow_number (place k content)) (sym first)
    ∙ sym (halves_are narrow_number (start line content)) ∙ ap (λ (r : Result (Head × Place) ℕ). r >>= with_blocks narrow_number) read

pub opened : (g0 g1 g2 : Pass) (old mid : Lines) (new : Blocks) (head : Head) → old.line ≡ 1 → IsBehind g0 old [] →
    Gives g0 g1 old mid (read_format_and_head narrow_number) head → Gives g1 g2 mid new.lines (block_count head) new.left → new.place ≡ 0 → new.before ≡ None → AreOf new head → AreBehind g2 new head []
unfolding rest_at read_blocks
opened g0 g1 g2 old mid new head line behind of_head_read of_count place before of_head =
    let one = of_head_read [] behind in
    let two = of_count one.0 one.1 in record {
      passed = one.0 ++ two.0;
      behind = two.1;
      read = λ content s.
          let count = two.2 content s in
          let first = one.2 content count.0 in
          let at = place_in new.lines (one.0 ++ two.0) content in
          head_whole content old.line head (place_in mid one.0 content) line first.1
          ∙ ap (λ (r : Result (ℕ × Place) ℕ). (r >>= λ n. read_many n.0 (block_in head) n.1 >>= closed) >>= made_of head) count.1
          ∙ after_many head (read_many new.left (block_in head) at);
      counted = record { place = place; before = before };
      of_head = of_head;
    }

pub head_refused : (given : Pass) (old : Lines) (fault : StreamFault) → old.line ≡ 1 → StopsAs given old [] (read_format_and_head narrow_number) fault → IsFaultOf given fault
head_refused given old fault line stops =
    stop_refused given old [] (read_format_and_head narrow_number) fault
    (λ content s k stop.
    ap (λ i. read_certificate narrow_number (place i content)) (sym line)
    ∙ sym (halves_are narrow_number (place_in old [] content)) ∙ ap (λ (r : Result (Head × Place) ℕ). r >>= with_blocks narrow_number) stop)
    stops

pub count_refused : (g0 g1 g2 : Pass) (old mid : Lines) (head : Head) (fault : StreamFault) → old.line ≡ 1 → IsBehind g0 old [] →
    Gives g0 g1 old mid (read_format_and_head narrow_number) head → ((passed : List ℕ) → IsBehind g1 mid passed → StopsAs g2 mid passed (block_count head) fault) → IsFaultOf g2 fault
unfolding read_blocks
count_refused g0 g1 g2 old mid head fault line behind of_head_read stops =
    let one = of_head_read [] behind in
    stop_refused g2 mid one.0 (block_count head) fault
    (λ content s k stop.
    head_whole content old.line head (place_in mid one.0 content) line (one.2 content s).1
    ∙ ap (λ (r : Result (ℕ × Place) ℕ). (r >>= λ n. read_many n.0 (block_in head) n.1 >>= closed) >>= made_of head) stop)
    (stops one.0 one.1)
