-- Whether two networks have the same links is decided by a test.
use Rattle.std.proofs.Common.{◌≡◌, ◌∙◌, ℕ, ◌<◌, Bool, true, false, ◌&&◌, List, ap, get_or, refl, sym}
use Rattle.std.specs.Prelude.{Decides, ◌==◌, bytes_eq}
use Rattle.std.specs.Cmp.Lexicographic.{pointwise}
use Rattle.std.proofs.lemmas.Bool.{and_from, and_parts, eq-eqb, eqb-true}
use Rattle.std.proofs.lemmas.List.{get_or_default}
use Rattle.std.proofs.lemmas.Slice.Eq.{slice_eq-Decides, bytes_eq-Decides}
use Rattle.te_model.specs.declared.network.Link.{Link}
use Rattle.te_model.specs.declared.network.Network.{Network}
use Rattle.te_model.specs.Counting.{all_below}
use Rattle.te_model.specs.Network.{link_at, link_count, no_link, tail_of, head_of}
use Rattle.link_bounds.specs.SameLinks.{AreSameLinks, has_same_ends, has_same_links, SameLinksAreDecided}
use Rattle.te_model.proofs.Searches.{all_below_at, all_below_from}

-- ends that differ of the links at one place of two lists
pub ends_differ : (a b : Network) (links others : List Link) (h : ℕ) (d d' : Link) (r : Bool) → links ≡ a.links → others ≡ b.links →
    h < link_count a → h < link_count b →
    r ≡ ((get_or links h d).tail == (get_or others h d').tail && (get_or links h d).head == (get_or others h d').head) → r ≡ false →
    has_same_ends a b h ≡ false
ends_differ a b links others h d d' r is are inside within tested fails =
    let one : get_or links h d ≡ link_at a h = ap (λ ls. get_or ls h d) is ∙ get_or_default a.links h d no_link inside in
    let other : get_or others h d' ≡ link_at b h = ap (λ ls. get_or ls h d') are ∙ get_or_default b.links h d' no_link within in
    ap (λ (x : Link). x.tail == tail_of b h && x.head == head_of b h) (sym one)
    ∙ ap (λ (y : Link). (get_or links h d).tail == y.tail && (get_or links h d).head == y.head) (sym other)
    ∙ sym tested ∙ fails

names_decide : (a b : Network) → Decides (pointwise bytes_eq a.names b.names) (a.names ≡ b.names)
names_decide a b = slice_eq-Decides bytes_eq-Decides a.names b.names _ refl

from_test : (a b : Network) → has_same_links a b ≡ true → AreSameLinks a b
from_test a b is =
    let outer = and_parts (pointwise bytes_eq a.names b.names && link_count a == link_count b) (all_below (link_count a) (has_same_ends a b)) is in
    let inner = and_parts (pointwise bytes_eq a.names b.names) (link_count a == link_count b) outer.0 in
    record {
      names = (names_decide a b).0 inner.0;
      count = eqb-true (link_count a) (link_count b) inner.1;
      tails = λ h below. eqb-true _ _ (and_parts (tail_of a h == tail_of b h) (head_of a h == head_of b h)
          (all_below_at (link_count a) (has_same_ends a b) h outer.1 below)).0;
      heads = λ h below. eqb-true _ _ (and_parts (tail_of a h == tail_of b h) (head_of a h == head_of b h)
          (all_below_at (link_count a) (has_same_ends a b) h outer.1 below)).1;
    }

to_test : (a b : Network) → AreSameLinks a b → has_same_links a b ≡ true
to_test a b same =
    and_from (pointwise bytes_eq a.names b.names && link_count a == link_count b) (all_below (link_count a) (has_same_ends a b))
    (and_from (pointwise bytes_eq a.names b.names) (link_count a == link_count b) ((names_decide a b).1 same.names)
    (eq-eqb (link_count a) (link_count b) same.count))
    (all_below_from (link_count a) (has_same_ends a b) (λ h below.
    and_from (tail_of a h == tail_of b h) (head_of a h == head_of b h) (eq-eqb _ _ (same.tails h below)) (eq-eqb _ _ (same.heads h below))))

pub same_links_decided : SameLinksAreDecided
same_links_decided a b = (from_test a b, to_test a b)
