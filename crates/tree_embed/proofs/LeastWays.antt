-- The first links of the least paths between all nodes, and what they lead to.
use Rattle.std.proofs.Common.{◌≡◌, ℕ, ◌+◌, ◌<◌, List, [], ◌∷◌, ◌++◌, Option, length, get_or, arith, refl, sym, ◌∙◌, subst}
use Rattle.std.proofs.lemmas.List.{get_or_read}
use Rattle.te_model.specs.declared.network.Network.{Network}
use Rattle.te_model.specs.Network.{link_count, node_count}
use Rattle.te_model.proofs.Choices.{pushed_count, pushed_each}
use Rattle.shortest_path.specs.Least.{AreFirstLinks, LeadsTo}
use Rattle.shortest_path.specs.Links.{every_link}
use Rattle.tree_embed.specs.Embedding.{Embedding}
use Rattle.tree_embed.specs.Tables.{AreFirsts, AreTables, LeadBetween, firsts_to, sums_to}

-- the rows of the nodes below n
pub record FirstsSoFar (net : Network) (lengths : List ℕ) (sums : List (List (Option ℕ))) (n : ℕ) (firsts : List (List (Option ℕ))) : Type 0 where
  pub count : length firsts ≡ n
  pub each : (t : ℕ) → t < n → AreFirstLinks net lengths (every_link net) (sums_to sums t) (link_count net) (firsts_to firsts t)

pub firsts_none : (net : Network) (lengths : List ℕ) (sums : List (List (Option ℕ))) → FirstsSoFar net lengths sums 0 []
firsts_none net lengths sums = record { count = refl; each = λ t below. absurd (omega (arith, below)) }

pub firsts_more : (net : Network) (lengths : List ℕ) (sums : List (List (Option ℕ))) (n : ℕ) (firsts : List (List (Option ℕ))) (row : List (Option ℕ)) →
    FirstsSoFar net lengths sums n firsts → AreFirstLinks net lengths (every_link net) (sums_to sums n) (link_count net) row →
    FirstsSoFar net lengths sums (n + 1) (firsts ++ row ∷ [])
firsts_more net lengths sums n firsts row so_far are = record {
  count = pushed_count firsts row n so_far.count;
  each = pushed_each (λ t. AreFirstLinks net lengths (every_link net) (sums_to sums t) (link_count net)) firsts row [] n so_far.count so_far.each are;
}

-- copies of the tables
pub firsts_made : (net n : Network) (lengths l : List ℕ) (sums s firsts f : List (List (Option ℕ))) → AreFirsts net lengths sums firsts →
    n ≡ net → l ≡ lengths → s ≡ sums → f ≡ firsts → AreFirsts n l s f
firsts_made net n lengths l sums s firsts f are same_n same_l same_s same_f =
    subst (λ x. AreFirsts x l s f) (sym same_n)
    (subst (λ x. AreFirsts net x s f) (sym same_l)
    (subst (λ x. AreFirsts net lengths x f) (sym same_s)
    (subst (AreFirsts net lengths sums) (sym same_f) are)))

-- the sums and first links to one node
pub leads_to : (net : Network) (lengths : List ℕ) (sums firsts : List (List (Option ℕ))) (t : ℕ) (to along : List (Option ℕ)) →
    LeadBetween net lengths sums firsts → t < node_count net → to ≡ sums_to sums t → along ≡ firsts_to firsts t →
    LeadsTo net lengths (every_link net) t to along
leads_to net lengths sums firsts t to along lead below same_to same_along =
    subst (λ l. LeadsTo net lengths (every_link net) t l along) (sym same_to)
    (subst (LeadsTo net lengths (every_link net) t (sums_to sums t)) (sym same_along) (record {
      count = lead.count;
      positive = lead.positive;
      sums_are = lead.sums_are.each t below;
      firsts_are = lead.firsts_are.each t below;
    }))

-- .. where these are read from their tables
pub leads_read : (net : Network) (lengths : List ℕ) (sums firsts : List (List (Option ℕ))) (t : ℕ) (row there to along : List (Option ℕ)) →
    LeadBetween net lengths sums firsts → t < node_count net → row ≡ get_or sums t row → there ≡ get_or firsts t there → to ≡ row → along ≡ there →
    LeadsTo net lengths (every_link net) t to along
leads_read net lengths sums firsts t row there to along lead below read_row read_there same_to same_along =
    leads_to net lengths sums firsts t to along lead below
    (same_to ∙ get_or_read sums t row (omega (arith, lead.sums_are.count, below)) read_row [])
    (same_along ∙ get_or_read firsts t there (omega (arith, lead.firsts_are.count, below)) read_there [])

-- what a tree keeps leads between its nodes
pub lead_of : (e : Embedding) (net : Network) (sums s firsts f : List (List (Option ℕ))) (centers : List (List ℕ)) → AreTables e sums centers →
    AreFirsts e.network e.lengths sums firsts → e.network ≡ net → s ≡ sums → f ≡ firsts → LeadBetween net e.lengths s f
lead_of e net sums s firsts f centers tables are same same_s same_f =
    subst (λ x. LeadBetween x e.lengths s f) same
    (subst (λ x. LeadBetween e.network e.lengths x f) (sym same_s)
    (subst (LeadBetween e.network e.lengths sums) (sym same_f) (record {
      count = tables.embedding.count;
      positive = tables.embedding.positive;
      sums_are = tables.sums_are;
      firsts_are = are;
    })))

-- and so does what a tree keeps that is seen as another value
pub lead_viewed : (e seen : Embedding) (net : Network) (sums s firsts f : List (List (Option ℕ))) (centers : List (List ℕ)) → e ≡ seen → AreTables e sums centers →
    AreFirsts e.network e.lengths sums firsts → seen.network ≡ net → s ≡ sums → f ≡ firsts → LeadBetween net seen.lengths s f
lead_viewed e seen net sums s firsts f centers view tables are same same_s same_f =
    lead_of seen net sums s firsts f centers (subst (λ x. AreTables x sums centers) view tables) (subst (λ x. AreFirsts x.network x.lengths sums firsts) view are)
    same same_s same_f
