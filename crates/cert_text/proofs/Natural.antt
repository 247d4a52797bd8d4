-- Reading with fields of 32 bits is reading exactly, of which what fits is kept.
use Rattle.std.proofs.Common.{◌≡◌, ℕ, zero, suc, List, [], ◌∷◌, length, map, Result, Ok, Err, refl, ap, ◌∙◌}
use Rattle.std.specs.Prelude.{codes}
use Rattle.te_model.specs.declared.certificate.Block.{Block}
use Rattle.te_model.specs.declared.certificate.Head.{Head}
use Rattle.te_model.specs.declared.certificate.Certificate.{Certificate}
use Rattle.te_model.specs.declared.demand.DemandSet.{DemandSet}
use Rattle.te_model.specs.declared.limits.Limits.{Limits}
use Rattle.te_model.specs.Formats.{limits_of}
use Rattle.cert_text.specs.declared.limits.Counts.{Counts}
use Rattle.cert_text.specs.Place.{Place, ◌>>=◌}
use Rattle.cert_text.specs.Reading.{narrow_number, read_byte, read_line_end, read_number, read_narrow, read_next_number, read_next_narrow, read_next_count, read_many}
use Rattle.cert_text.specs.Grammar.{read_counted, read_link_line, read_network, read_path, read_pair, read_routes, read_set, read_ratio, read_head, read_number_line, read_row, read_sides, read_block, read_format, read_opening, read_closing, read_certificate, counts_of, read_name_line}
use Rattle.cert_text.specs.Kept.{keep_link, keep_network, keep_path, keep_pair, keep_head, keep_row, keep_block, keep_certificate}
use Rattle.cert_text.proofs.Tokens.{exact}

-- what is kept of what is read
abbrev pub carry : {A B : Type 0} → (A → B) → Result (A × Place) ℕ → Result (B × Place) ℕ
carry f r = r >>= λ x. Ok (f x.0, x.1)

bind_kept : {A A' C C' : Type 0} (r : Result (A × Place) ℕ) (s : Result (A' × Place) ℕ) (f : A → A') (K : C → C') (F : A' × Place → Result (C' × Place) ℕ) (G : A × Place → Result (C × Place) ℕ)
    → s ≡ carry f r → ((v : A × Place) → F (f v.0, v.1) ≡ carry K (G v)) → (s >>= F) ≡ carry K (r >>= G)
bind_kept (Ok v) s f K F G e h = ap (λ t. t >>= F) e ∙ h v
bind_kept (Err k) s f K F G e h = ap (λ t. t >>= F) e

bind_same : {A C C' : Type 0} (r : Result A ℕ) (K : C → C') (F : A → Result (C' × Place) ℕ) (G : A → Result (C × Place) ℕ)
    → ((v : A) → F v ≡ carry K (G v)) → (r >>= F) ≡ carry K (r >>= G)
bind_same (Ok v) K F G h = h v
bind_same (Err k) K F G h = refl

narrow_kept : (p : Place) → read_narrow narrow_number p ≡ carry narrow_number (read_narrow exact p)
unfolding read_narrow
narrow_kept p = bind_same (read_number p) narrow_number _ _ (λ n. refl)

next_narrow_kept : (p : Place) → read_next_narrow narrow_number p ≡ carry narrow_number (read_next_narrow exact p)
unfolding read_next_narrow
next_narrow_kept p = bind_same (read_byte 32 p) narrow_number _ _ narrow_kept

many_kept : {X Y : Type 0} (f : X → Y) (s : Place → Result (Y × Place) ℕ) (r : Place → Result (X × Place) ℕ) → ((p : Place) → s p ≡ carry f (r p)) → (n : ℕ) (p : Place) → read_many n s p ≡ carry (map f) (read_many n r p)
unfolding read_many
many_kept f s r same zero p = refl
many_kept {X} {Y} f s r same (suc n) p =
    bind_kept _ _ f (map f) _ _ (same p) (λ first.
    bind_kept _ _ (map f) (map f) _ _ (many_kept f s r same n first.1) (λ others. refl))

pub link_line_kept : (p : Place) → read_link_line narrow_number p ≡ carry keep_link (read_link_line exact p)
unfolding read_link_line
link_line_kept p =
    bind_kept _ _ narrow_number keep_link _ _ (narrow_kept p) (λ tail.
    bind_kept _ _ narrow_number keep_link _ _ (next_narrow_kept tail.1) (λ head.
    bind_same (read_next_number head.1) keep_link _ _ (λ capacity.
    bind_kept _ _ narrow_number keep_link _ _ (next_narrow_kept capacity.1) (λ cost.
    bind_same (read_line_end cost.1) keep_link _ _ (λ e. refl)))))

pub network_kept : (limits : Limits) (p : Place) → read_network limits narrow_number p ≡ carry keep_network (read_network limits exact p)
unfolding read_network
network_kept limits p =
    bind_same (read_counted (codes "nodes ") 2 limits.nodes p) keep_network _ _ (λ (n : ℕ × Place).
    bind_same (read_many n.0 read_name_line n.1) keep_network _ _ (λ (names : List (List ℕ) × Place).
    bind_same (read_counted (codes "links ") 1 limits.links names.1) keep_network _ _ (λ (m : ℕ × Place).
    bind_kept _ _ (map keep_link) keep_network _ _ (many_kept keep_link (read_link_line narrow_number) (read_link_line exact) link_line_kept m.0 m.1) (λ links. refl))))

pub path_kept : (limits : Limits) (p : Place) → read_path limits narrow_number p ≡ carry keep_path (read_path limits exact p)
unfolding read_path
path_kept limits p =
    bind_same (read_number p) keep_path _ _ (λ (weight : ℕ × Place).
    bind_same (read_next_count 1 limits.hops weight.1) keep_path _ _ (λ (n : ℕ × Place).
    bind_kept _ _ (map narrow_number) keep_path _ _ (many_kept narrow_number (read_next_narrow narrow_number) (read_next_narrow exact) next_narrow_kept n.0 n.1) (λ links.
    bind_same (read_line_end links.1) keep_path _ _ (λ e. refl))))

pub pair_kept : (limits : Limits) (p : Place) → read_pair limits narrow_number p ≡ carry keep_pair (read_pair limits exact p)
unfolding read_pair
pair_kept limits p =
    bind_kept _ _ narrow_number keep_pair _ _ (narrow_kept p) (λ src.
    bind_kept _ _ narrow_number keep_pair _ _ (next_narrow_kept src.1) (λ dst.
    bind_same (read_next_count 1 limits.paths dst.1) keep_pair _ _ (λ (n : ℕ × Place).
    bind_same (read_line_end n.1) keep_pair _ _ (λ e.
    bind_kept _ _ (map keep_path) keep_pair _ _ (many_kept keep_path (read_path limits narrow_number) (read_path limits exact) (path_kept limits) n.0 e) (λ paths. refl)))))

pub routes_kept : (limits : Limits) (p : Place) → read_routes limits narrow_number p ≡ carry (map keep_pair) (read_routes limits exact p)
unfolding read_routes
routes_kept limits p = bind_same (read_counted (codes "pairs ") 0 limits.pairs p) (map keep_pair) _ _ (λ (n : ℕ × Place). many_kept keep_pair (read_pair limits narrow_number) (read_pair limits exact) (pair_kept limits) n.0 n.1)

len_map : {X Y : Type 0} (f : X → Y) (xs : List X) → length (map f xs) ≡ length xs
len_map f [] = refl
len_map f (x ∷ xs) = ap suc (len_map f xs)

pub head_kept : (limits : Limits) (p : Place) → read_head limits narrow_number p ≡ carry keep_head (read_head limits exact p)
unfolding read_head
head_kept limits p =
    bind_kept _ _ keep_network keep_head _ _ (network_kept limits p) (λ network.
    bind_kept _ _ (map keep_pair) keep_head _ _ (routes_kept limits network.1) (λ routes.
    rw (len_map keep_pair routes.0)
    (bind_same (read_set limits (length routes.0) routes.1) keep_head _ _ (λ (set : DemandSet × Place).
    bind_same (read_ratio set.1) keep_head _ _ (λ ratio. refl)))))

pub row_kept : (nodes : ℕ) (p : Place) → read_row narrow_number nodes p ≡ carry keep_row (read_row exact nodes p)
unfolding read_row
row_kept nodes p =
    bind_kept _ _ narrow_number keep_row _ _ (narrow_kept p) (λ source.
    bind_same (read_many nodes read_next_number source.1) keep_row _ _ (λ (potential : List ℕ × Place).
    bind_same (read_line_end potential.1) keep_row _ _ (λ e. refl)))

pub block_kept : (limits : Limits) (counts : Counts) (p : Place) → read_block limits narrow_number counts p ≡ carry keep_block (read_block limits exact counts p)
unfolding read_block
block_kept limits counts p =
    bind_kept _ _ narrow_number keep_block _ _ (narrow_kept p) (λ link.
    bind_same (read_next_number link.1) keep_block _ _ (λ (a : ℕ × Place).
    bind_same (read_next_number a.1) keep_block _ _ (λ (b : ℕ × Place).
    bind_same (read_next_count 0 limits.nodes b.1) keep_block _ _ (λ (n : ℕ × Place).
    bind_same (read_line_end n.1) keep_block _ _ (λ e.
    bind_same (read_number_line counts.links e) keep_block _ _ (λ (weights : List ℕ × Place).
    bind_kept _ _ (map keep_row) keep_block _ _ (many_kept keep_row (read_row narrow_number counts.nodes) (read_row exact counts.nodes) (row_kept counts.nodes) n.0 weights.1) (λ rows.
    bind_same (read_sides counts.bounded counts.pairs rows.1) keep_block _ _ (λ sides. refl))))))))

abbrev keep_opening : Head × ℕ → Head × ℕ
keep_opening x = (keep_head x.0, x.1)

pub opening_kept : (p : Place) → read_opening narrow_number p ≡ carry keep_opening (read_opening exact p)
unfolding read_opening
opening_kept p =
    bind_same (read_format p) keep_opening _ _ (λ (format : ℕ × Place).
    bind_kept _ _ keep_head keep_opening _ _ (head_kept (limits_of format.0) format.1) (λ head.
    bind_same (read_counted (codes "blocks ") 0 (limits_of format.0).links head.1) keep_opening _ _ (λ (n : ℕ × Place). refl)))

counts_kept : (h : Head) → counts_of (keep_head h) ≡ counts_of h
counts_kept h = rw (len_map keep_link h.network.links, len_map keep_pair h.routes) refl

abbrev made : Head → List Block → Place → Result (Certificate × Place) ℕ
made h bs e = Ok (record { head = h; blocks = bs }, e)

-- the blocks of a head, and the last line
abbrev blocks_at : (ℕ → ℕ) → Counts → (Head × ℕ) × Place → Result (List Block × Place) ℕ
blocks_at keep counts opened = read_many opened.0.1 (read_block (limits_of opened.0.0.format) keep counts) opened.1

abbrev closed : Head → List Block × Place → Result (Certificate × Place) ℕ
closed h blocks = read_closing blocks.1 >>= λ e. made h blocks.0 e

pub certificate_kept : (p : Place) → read_certificate narrow_number p ≡ carry keep_certificate (read_certificate exact p)
unfolding read_certificate
certificate_kept p =
    bind_kept (read_opening exact p) (read_opening narrow_number p) keep_opening keep_certificate
    (λ opened. blocks_at narrow_number (counts_of opened.0.0) opened >>= closed opened.0.0)
    (λ opened. blocks_at exact (counts_of opened.0.0) opened >>= closed opened.0.0)
    (opening_kept p)
    (λ opened. ap (λ (counts : Counts). blocks_at narrow_number counts opened >>= closed (keep_head opened.0.0)) (counts_kept opened.0.0)
    ∙ bind_kept (blocks_at exact (counts_of opened.0.0) opened) (blocks_at narrow_number (counts_of opened.0.0) opened) (map keep_block) keep_certificate
    (closed (keep_head opened.0.0)) (closed opened.0.0)
    (many_kept keep_block (read_block (limits_of opened.0.0.format) narrow_number (counts_of opened.0.0)) (read_block (limits_of opened.0.0.format) exact (counts_of opened.0.0)) (block_kept (limits_of opened.0.0.format) (counts_of opened.0.0)) opened.0.1 opened.1)
    (λ blocks. bind_same (read_closing blocks.1) keep_certificate (λ e. made (keep_head opened.0.0) (map keep_block blocks.0) e) (λ e. made opened.0.0 blocks.0 e) (λ e. refl)))
