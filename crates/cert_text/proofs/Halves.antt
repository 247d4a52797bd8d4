-- A certificate is read as its two halves.
use Rattle.std.proofs.Common.{◌≡◌, ℕ, Bool, true, false, cond, List, length, Result, Ok, Err, refl, sym, ap, subst, ◌∙◌, eqb}
use Rattle.std.specs.Prelude.{codes}
use Rattle.te_model.specs.declared.certificate.Block.{Block}
use Rattle.te_model.specs.declared.certificate.Head.{Head}
use Rattle.te_model.specs.declared.certificate.Certificate.{Certificate}
use Rattle.te_model.specs.declared.limits.Limits.{Limits}
use Rattle.te_model.specs.declared.limits.TheConstants.{FORMAT_1, FORMAT_2}
use Rattle.te_model.specs.Formats.{limits_of}
use Rattle.cert_text.specs.declared.cursor.Cursor.{Ghosts}
use Rattle.cert_text.specs.declared.reader.Reader.{Reader}
use Rattle.cert_text.specs.Place.{Place, ◌>>=◌}
use Rattle.cert_text.specs.Reading.{read_many}
use Rattle.cert_text.specs.Grammar.{read_counted, read_network, read_routes, read_set, read_ratio, read_head, read_block, read_closing, read_format, read_opening, read_certificate, counts_of}
use Rattle.cert_text.specs.Halves.{read_format_and_head, read_blocks}
use Rattle.cert_text.specs.Takes.{Takes}
use Rattle.cert_text.proofs.Decimals.{bind_ok, ok_is}

head_of : (limits : Limits) (keep : ℕ → ℕ) (p : Place) (x : Head × Place) → read_head limits keep p ≡ Ok x → limits.format ≡ x.0.format
unfolding read_head
head_of limits keep p x e =
    let s0 = bind_ok (read_network limits keep p) (λ network. read_routes limits keep network.1 >>= λ routes. read_set limits (length routes.0) routes.1 >>= λ set. read_ratio set.1 >>= λ ratio. Ok (record { format = limits.format; network = network.0; routes = routes.0; set = set.0; ratio = ratio.0 }, ratio.1)) x e in
    let s1 = bind_ok (read_routes limits keep s0.0.1) (λ routes. read_set limits (length routes.0) routes.1 >>= λ set. read_ratio set.1 >>= λ ratio. Ok (record { format = limits.format; network = s0.0.0; routes = routes.0; set = set.0; ratio = ratio.0 }, ratio.1)) x s0.2 in
    let s2 = bind_ok (read_set limits (length s1.0.0) s1.0.1) (λ set. read_ratio set.1 >>= λ ratio. Ok (record { format = limits.format; network = s0.0.0; routes = s1.0.0; set = set.0; ratio = ratio.0 }, ratio.1)) x s1.2 in
    let s3 = bind_ok (read_ratio s2.0.1) (λ ratio. Ok (record { format = limits.format; network = s0.0.0; routes = s1.0.0; set = s2.0.0; ratio = ratio.0 }, ratio.1)) x s2.2 in
    let made : Head = record { format = limits.format; network = s0.0.0; routes = s1.0.0; set = s2.0.0; ratio = s3.0.0 } in
    subst (λ (y : Head × Place). limits.format ≡ y.0.format) (ok_is {A = Head × Place} (made, s3.0.1) x s3.2) refl

pub own_limits : (format : ℕ) → limits_of (limits_of format).format ≡ limits_of format
own_limits format = either (eqb format 2)
  where
    either : (t : Bool) → limits_of (cond t FORMAT_2 FORMAT_1).format ≡ cond t FORMAT_2 FORMAT_1
    either true = refl
    either false = refl

-- the certificate of a head and its blocks
abbrev pub made : Head → List Block → Place → Result (Certificate × Place) ℕ
made head blocks e = Ok (record { head = head; blocks = blocks }, e)

abbrev pub kept : List Block → Place → Result (List Block × Place) ℕ
kept blocks e = Ok (blocks, e)

abbrev counted : Head → ℕ × Place → Result ((Head × ℕ) × Place) ℕ
counted head n = Ok ((head, n.0), n.1)

abbrev pub made_of : Head → List Block × Place → Result (Certificate × Place) ℕ
made_of head blocks = made head blocks.0 blocks.1

-- the certificate of such a head, with the blocks that are read
abbrev pub with_blocks : (ℕ → ℕ) → Head × Place → Result (Certificate × Place) ℕ
with_blocks keep h = read_blocks keep h.0 h.1 >>= made_of h.0

abbrev listed : (ℕ → ℕ) → Head → ℕ × Place → Result (List Block × Place) ℕ
listed keep head n = read_many n.0 (read_block (limits_of head.format) keep (counts_of head)) n.1

abbrev pub closed : List Block × Place → Result (List Block × Place) ℕ
closed blocks = read_closing blocks.1 >>= kept blocks.0

abbrev pub closed_with : Head → List Block × Place → Result (Certificate × Place) ℕ
closed_with head blocks = read_closing blocks.1 >>= made head blocks.0

abbrev opened_then : (ℕ → ℕ) → (Head × ℕ) × Place → Result (Certificate × Place) ℕ
opened_then keep opened = listed keep opened.0.0 (opened.0.1, opened.1) >>= closed_with opened.0.0

abbrev counted_after : Limits → Head × Place → Result ((Head × ℕ) × Place) ℕ
counted_after limits h = read_counted (codes "blocks ") 0 limits.links h.1 >>= counted h.0

abbrev opened_after : (ℕ → ℕ) → ℕ × Place → Result ((Head × ℕ) × Place) ℕ
opened_after keep f = read_head (limits_of f.0) keep f.1 >>= counted_after (limits_of f.0)

after_closing : (head : Head) (blocks : List Block) (m : Result Place ℕ) → ((m >>= kept blocks) >>= made_of head) ≡ (m >>= made head blocks)
after_closing head blocks (Ok e) = refl
after_closing head blocks (Err k) = refl

pub after_many : (head : Head) (m : Result (List Block × Place) ℕ) → ((m >>= closed) >>= made_of head) ≡ (m >>= closed_with head)
after_many head (Ok b) = after_closing head b.0 (read_closing b.1)
after_many head (Err k) = refl

after_count : (keep : ℕ → ℕ) (head : Head) (m : Result (ℕ × Place) ℕ)
    → ((m >>= λ n. listed keep head n >>= closed) >>= made_of head) ≡ ((m >>= counted head) >>= opened_then keep)
after_count keep head (Ok n) = after_many head (listed keep head n)
after_count keep head (Err k) = refl

after_head : (keep : ℕ → ℕ) (limits : Limits) (m : Result (Head × Place) ℕ) → ((x : Head × Place) → m ≡ Ok x → limits_of x.0.format ≡ limits)
    → (m >>= with_blocks keep) ≡ ((m >>= counted_after limits) >>= opened_then keep)
unfolding read_blocks
after_head keep limits (Ok h) own =
    after_count keep h.0 (read_counted (codes "blocks ") 0 (limits_of h.0.format).links h.1)
    ∙ ap (λ (l : Limits). counted_after l h >>= opened_then keep) (own h refl)
after_head keep limits (Err k) own = refl

after_format : (keep : ℕ → ℕ) (m : Result (ℕ × Place) ℕ)
    → ((m >>= λ f. read_head (limits_of f.0) keep f.1) >>= with_blocks keep) ≡ ((m >>= opened_after keep) >>= opened_then keep)
after_format keep (Ok f) =
    after_head keep (limits_of f.0) (read_head (limits_of f.0) keep f.1) (λ x e. ap limits_of (sym (head_of (limits_of f.0) keep f.1 x e)) ∙ own_limits f.0)
after_format keep (Err k) = refl

pub halves_are : (keep : ℕ → ℕ) (p : Place) → (read_format_and_head keep p >>= with_blocks keep) ≡ read_certificate keep p
unfolding read_format_and_head read_certificate read_opening
halves_are keep p = after_format keep (read_format p)

-- a reader that takes both halves takes the certificate
pub of_halves : {C : Type 0} {cursor : Ghosts C} {old new : Reader C cursor} (keep : ℕ → ℕ) {gives : Place → Result (Certificate × Place) ℕ → Type 0}
    → Takes old new gives (λ p. read_format_and_head keep p >>= with_blocks keep) → Takes old new gives (read_certificate keep)
of_halves keep {gives = gives} one = record {
  told = one.told;
  reads = λ t. rw (halves_are keep _) at (one.reads t);
}
