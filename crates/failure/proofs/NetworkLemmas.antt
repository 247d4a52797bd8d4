-- What the network without failed links keeps.
use Rattle.std.proofs.Common.{ℕ, ◌+◌, ◌≤◌, ◌<◌, ◌≡◌, ◌∙◌, refl, ap, List, [], ◌∷◌, ◌++◌, length, All, Bool, true, false, not, filter, get_or, arith, append-nil}
use Rattle.std.specs.Prelude.{◌&&◌, ◌==◌, ◌^◌, nat_lt, nat_le}
use Rattle.std.specs.List.{range_with_len}
use Rattle.std.proofs.lemmas.List.{get_or-map, length-map}
use Rattle.std.proofs.lemmas.List.Elements.{All-filter, filter-append}
use Rattle.std.proofs.lemmas.List.Filters.{length-filter_both}
use Rattle.std.proofs.lemmas.List.FromFn.{length-range_with_len}
use Rattle.te_model.specs.declared.network.Link.{Link}
use Rattle.te_model.specs.declared.network.Network.{Network}
use Rattle.te_model.specs.Network.{is_sound_link, is_well_formed, node_count, link_count, link_at, no_link}
use Rattle.te_model.proofs.Lists.{range-below, range-more}
use Rattle.te_model.proofs.WellFormed.{well_formed_from, well_formed_parts}
use Rattle.failure.specs.Survivor.{surviving_links, survivor_of}

filter-one : (p : ℕ → Bool) (n : ℕ) → filter p (range_with_len 0 (n + 1)) ≡ filter p (range_with_len 0 n) ++ filter p (n ∷ [])
filter-one p n = ap (filter p) (range-more n) ∙ filter-append p (range_with_len 0 n) (n ∷ [])

-- the number after those below it is kept, or left out
pub kept : (p : ℕ → Bool) (n : ℕ) → p n ≡ true → filter p (range_with_len 0 (n + 1)) ≡ filter p (range_with_len 0 n) ++ n ∷ []
kept p n h = filter-one p n ∙ ap (λ (r : List ℕ). filter p (range_with_len 0 n) ++ r) one
  where
    one : filter p (n ∷ []) ≡ n ∷ []
    one = rw h refl

pub left-out : (p : ℕ → Bool) (n : ℕ) → p n ≡ false → filter p (range_with_len 0 (n + 1)) ≡ filter p (range_with_len 0 n)
left-out p n h = filter-one p n ∙ ap (λ (r : List ℕ). filter p (range_with_len 0 n) ++ r) none ∙ append-nil (filter p (range_with_len 0 n))
  where
    none : filter p (n ∷ []) ≡ []
    none = rw h refl

-- the links that stand are links of the network
pub all-stand : (net : Network) (failed : List Bool) → length failed ≡ link_count net → All (λ h. h < link_count net) (surviving_links failed)
all-stand net failed e = All-filter (λ h. not (get_or failed h false)) (λ h. h < link_count net) (range_with_len 0 (length failed)) (range-below (length failed) (link_count net) e)

count-stand : (failed : List Bool) → length (surviving_links failed) ≤ length failed
count-stand failed =
    omega (arith, length-filter_both (λ h. not (get_or failed h false)) (λ h. not (not (get_or failed h false))) (λ h. refl) (range_with_len 0 (length failed)), length-range_with_len 0 (length failed))

-- a link is sound by its own numbers and the count of nodes
sound : ℕ → Link → Bool
sound n l = nat_lt l.tail n && nat_lt l.head n && not (l.tail == l.head) && nat_le 1 l.capacity && nat_le l.capacity (2 ^ 32) && nat_le 1 l.cost && nat_le l.cost 65535

same-sound : (net left : Network) (h k : ℕ) → node_count left ≡ node_count net → link_at left h ≡ link_at net k → is_sound_link net k ≡ true → is_sound_link left h ≡ true
unfolding sound
same-sound net left h k e f s =
    let a : is_sound_link left h ≡ sound (node_count left) (link_at left h) = refl in
    let b : sound (node_count net) (link_at net k) ≡ is_sound_link net k = refl in
    a ∙ ap (λ (n : ℕ). sound n (link_at left h)) e ∙ ap (sound (node_count net)) f ∙ b ∙ s

pub well-formed : (net : Network) (failed : List Bool) → length failed ≡ link_count net → is_well_formed net ≡ true → is_well_formed (survivor_of net failed).network ≡ true
well-formed net failed e w =
    let left = (survivor_of net failed).network in
    let is = well_formed_parts net w in
    let count : link_count left ≡ length (surviving_links failed) = simp length-map in
    well_formed_from left (record {
      two_nodes = is.two_nodes;
      nodes = is.nodes;
      links = omega (arith, is.links, count, count-stand failed);
      names = is.names;
      new_names = is.new_names;
      sound_links = λ h low.
          let k = get_or (surviving_links failed) h 0 in
          let inside : h < length (surviving_links failed) = omega arith in
          same-sound net left h k refl (get_or-map (link_at net) (surviving_links failed) h 0 no_link inside)
          (is.sound_links k (all-stand net failed e h 0 inside));
    })
