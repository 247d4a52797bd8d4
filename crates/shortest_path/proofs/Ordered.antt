-- Lists in a strict order: an element more, those of a list that have a property, and the first k.
use Rattle.std.proofs.Common.{◌⊎◌, inl, inr, ◌≡◌, ℕ, zero, suc, List, [], ◌∷◌, length, take, arith, refl, ap, sym, subst}
use Rattle.std.specs.Prelude.{All}
use Rattle.std.specs.List.{AllPairs, Contains}
use Rattle.std.proofs.lemmas.List.Elements.{All-nil, All-cons, All-weaker, All-contains, All-contains_itself, All-take}
use Rattle.std.proofs.lemmas.List.Kept.{AllPairs-cons}

pub contains_first : {X : Type 0} (x : X) (xs : List X) → Contains (x ∷ xs) x
contains_first x xs = (0, omega arith, refl)

pub contains_later : {X : Type 0} (x : X) (xs : List X) (y : X) → Contains xs y → Contains (x ∷ xs) y
contains_later x xs y (k, below, at) = (suc k, omega arith, at)

pub contains_cases : {X : Type 0} (x : X) (xs : List X) (y : X) → Contains (x ∷ xs) y → (x ≡ y) ⊎ Contains xs y
contains_cases x xs y (zero, below, at) = inl at
contains_cases x xs y (suc k, below, at) = inr (k, omega arith, at)

-- an ascending list with one element more
record IsInserted {X : Type 0} (R : X → X → Type 0) (c : X) (old new : List X) : Type 0 where
  pub ascending : AllPairs R new
  pub only : (x : X) → Contains new x → Contains old x ⊎ (c ≡ x)
  pub kept : (x : X) → Contains old x → Contains new x
  pub has : Contains new c

-- those elements of a list that have the property, each once and in order
pub record AreOrdered {X : Type 0} (R : X → X → Type 0) (P : X → Type 0) (xs ordered : List X) : Type 0 where
  pub ascending : AllPairs R ordered
  pub sound : All P ordered
  pub complete : (x : X) → Contains xs x → P x → Contains ordered x

module _ {X : Type 0} (R : X → X → Type 0) where
  pub ascending-head : (x : X) (xs : List X) → AllPairs R (x ∷ xs) → All (R x) xs
  ascending-head x xs ascends k d within = ascends zero (suc k) d (omega arith) (omega arith)

  pub ascending-tail : (x : X) (xs : List X) → AllPairs R (x ∷ xs) → AllPairs R xs
  ascending-tail x xs ascends i j d lt within = ascends (suc i) (suc j) d (omega arith) (omega arith)

  pub ascending-take : (k : ℕ) (xs : List X) → AllPairs R xs → AllPairs R (take k xs)
  ascending-take zero xs ascends = λ i j d lt within. absurd (omega arith)
  ascending-take (suc k) [] ascends = λ i j d lt within. absurd (omega arith)
  ascending-take (suc k) (x ∷ xs) ascends =
      AllPairs-cons R x (take k xs) (All-take (R x) k xs (ascending-head x xs ascends)) (ascending-take k xs (ascending-tail x xs ascends))

  -- each element is one of the first k, or those are k and come before it
  pub first_or_after : (k : ℕ) (xs : List X) → AllPairs R xs → (q : X) → Contains xs q →
      Contains (take k xs) q ⊎ ((length (take k xs) ≡ k) × All (λ p. R p q) (take k xs))
  first_or_after zero xs ascends q has = inr (refl, All-nil (λ p. R p q))
  first_or_after (suc k) [] ascends q has = absurd (omega (arith, has.1))
  first_or_after (suc k) (x ∷ xs) ascends q has = elim (contains_cases x xs q has) [
    | inl same ↦ inl (subst (Contains (x ∷ take k xs)) same (contains_first x (take k xs)))
    | inr later ↦ elim (first_or_after k xs (ascending-tail x xs ascends) q later) [
      | inl there ↦ inl (contains_later x (take k xs) q there)
      | inr full ↦ inr (ap suc full.0, All-cons (λ p. R p q) x (take k xs) (All-contains (R x) xs q (ascending-head x xs ascends) later) full.1)
    ]
  ]

module _ {X : Type 0} (R : X → X → Type 0) (cases : (x y : X) → (x ≡ y) ⊎ (R x y ⊎ R y x)) (trans : (x y z : X) → R x y → R y z → R x z) where
  inserted : (c : X) (old : List X) → AllPairs R old → (new : List X) × IsInserted R c old new
  inserted c [] ascends = (
    c ∷ [],
    record {
      ascending = λ i j d lt within. absurd (omega arith);
      only = λ x has. elim (contains_cases c [] x has) [ inl same ↦ inr same | inr none ↦ inl none ];
      kept = λ x has. absurd (omega (arith, has.1));
      has = contains_first c [];
    },
  )
  inserted c (x ∷ xs) ascends = elim (cases c x) [
    | inl same ↦ (
      x ∷ xs,
      record {
        ascending = ascends;
        only = λ y has. inl has;
        kept = λ y has. has;
        has = subst (Contains (x ∷ xs)) (sym same) (contains_first x xs);
      },
    )
    | inr other ↦ elim other [
      | inl before ↦ (
        c ∷ x ∷ xs,
        record {
          ascending = AllPairs-cons R c (x ∷ xs)
              (All-cons (R c) x xs before (All-weaker (R x) (R c) (λ y after. trans c x y before after) xs (ascending-head R x xs ascends))) ascends;
          only = λ y has. elim (contains_cases c (x ∷ xs) y has) [ inl same ↦ inr same | inr old ↦ inl old ];
          kept = λ y has. contains_later c (x ∷ xs) y has;
          has = contains_first c (x ∷ xs);
        },
      )
      | inr after ↦
          let (new, is) = inserted c xs (ascending-tail R x xs ascends) in
          let above : (y : X) → Contains new y → R x y = λ y has. elim (is.only y has) [
            | inl old ↦ All-contains (R x) xs y (ascending-head R x xs ascends) old
            | inr same ↦ subst (R x) same after
          ]
          in (
            x ∷ new,
            record {
              ascending = AllPairs-cons R x new (All-weaker (Contains new) (R x) above new (All-contains_itself new)) is.ascending;
              only = λ y has. elim (contains_cases x new y has) [
                | inl same ↦ inl (subst (Contains (x ∷ xs)) same (contains_first x xs))
                | inr later ↦ elim (is.only y later) [ inl old ↦ inl (contains_later x xs y old) | inr same ↦ inr same ]
              ];
              kept = λ y has. elim (contains_cases x xs y has) [
                | inl same ↦ subst (Contains (x ∷ new)) same (contains_first x new)
                | inr later ↦ contains_later x new y (is.kept y later)
              ];
              has = contains_later x new c is.has;
            },
          )
    ]
  ]

  -- by a decidable property, a list has an ordered one
  pub ordered_exists : (P : X → Type 0) → ((x : X) → P x ⊎ (P x → ⊥)) → (xs : List X) → (ordered : List X) × AreOrdered R P xs ordered
  ordered_exists P decide [] = (
    [],
    record {
      ascending = λ i j d lt within. absurd (omega arith);
      sound = All-nil P;
      complete = λ x has holds. has;
    },
  )
  ordered_exists P decide (x ∷ xs) =
      let (rest, are) = ordered_exists P decide xs in
      elim (decide x) [
        | inl holds ↦
            let (new, is) = inserted x rest are.ascending in
            let each : (y : X) → Contains new y → P y = λ y has. elim (is.only y has) [
              | inl old ↦ All-contains P rest y are.sound old
              | inr same ↦ subst P same holds
            ]
            in (
              new,
              record {
                ascending = is.ascending;
                sound = All-weaker (Contains new) P each new (All-contains_itself new);
                complete = λ y has holds_y. elim (contains_cases x xs y has) [
                  | inl same ↦ subst (Contains new) same is.has
                  | inr later ↦ is.kept y (are.complete y later holds_y)
                ];
              },
            )
        | inr fails ↦ (
          rest,
          record {
            ascending = are.ascending;
            sound = are.sound;
            complete = λ y has holds_y. elim (contains_cases x xs y has) [
              | inl same ↦ absurd (fails (subst P (sym same) holds_y))
              | inr later ↦ are.complete y later holds_y
            ];
          },
        )
      ]
