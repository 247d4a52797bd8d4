-- The steps of a table's fold, and a fact that each step keeps.
use Rattle.std.proofs.Common.{ℕ, ◌+◌, ◌≡◌, refl, sym, subst, List, [], ◌∷◌, Bool, true, false, Result, Ok, Err, IfErr, IsErrAnd, if◌then◌else◌}
use Rattle.csv_records.specs.Rows.{and_then, fold_rows, fold_table}

module _ {S E : Type 0} (step : S → ℕ → List (List ℕ) → Result S E) where
  pub rows-end : (state : S) (row : ℕ) (rows : List (List (List ℕ))) → rows ≡ [] → fold_rows step state row rows ≡ Ok state
  unfolding fold_rows
  rows-end state row rows e = rw e refl

  pub rows-fault : (state : S) (row : ℕ) (rows : List (List (List ℕ))) (r : List (List ℕ)) (rest : List (List (List ℕ))) (f : E)
      → rows ≡ r ∷ rest → step state row r ≡ Err f → fold_rows step state row rows ≡ Err f
  unfolding fold_rows
  rows-fault state row rows r rest f e h = rw (e, h) refl

  pub rows-more : (state next : S) (row : ℕ) (rows : List (List (List ℕ))) (r : List (List ℕ)) (rest : List (List (List ℕ)))
      → rows ≡ r ∷ rest → step state row r ≡ Ok next → fold_rows step state row rows ≡ fold_rows step next (row + 1) rest
  unfolding fold_rows
  rows-more state next row rows r rest e h = rw (e, h) refl

  -- a fact that each step keeps holds of what the rows make
  pub rows-keep : (P : S → Type 0) → ((s t : S) (row : ℕ) (r : List (List ℕ)) → P s → step s row r ≡ Ok t → P t)
      → (state end : S) (row : ℕ) (rows : List (List (List ℕ))) → P state → fold_rows step state row rows ≡ Ok end → P end
  unfolding fold_rows
  rows-keep P keeps state end row [] p h = subst P (cc h) p
  rows-keep P keeps state end row (r ∷ rs) p h = go (step state row r) refl (λ n. rows-keep P keeps n end (row + 1) rs) h
    where
      go : (o : Result S E) → step state row r ≡ o → ((n : S) → P n → fold_rows step n (row + 1) rs ≡ Ok end → P end)
          → and_then (λ n. fold_rows step n (row + 1) rs) o ≡ Ok end → P end
      go (Ok n) e more k = more n (keeps state n row r p e) k
      go (Err f) e more k = cc k

  module _ (is_header : List (List ℕ) → Bool) (fault : E) (start : S) where
    pub no-record : (rows : List (List (List ℕ))) → rows ≡ [] → fold_table is_header fault step start rows ≡ Err fault
    unfolding fold_table
    no-record rows e = rw e refl

    pub no-header : (rows : List (List (List ℕ))) (h : List (List ℕ)) (rest : List (List (List ℕ)))
        → rows ≡ h ∷ rest → is_header h ≡ false → fold_table is_header fault step start rows ≡ Err fault
    unfolding fold_table
    no-header rows h rest e n = rw (e, n) refl

    pub after-header : (rows : List (List (List ℕ))) (h : List (List ℕ)) (rest : List (List (List ℕ)))
        → rows ≡ h ∷ rest → is_header h ≡ true → fold_table is_header fault step start rows ≡ fold_rows step start 1 rest
    unfolding fold_table
    after-header rows h rest e n = rw (e, n) refl

    pub table-keep : (P : S → Type 0) → ((s t : S) (row : ℕ) (r : List (List ℕ)) → P s → step s row r ≡ Ok t → P t)
        → (end : S) (rows : List (List (List ℕ))) → P start → fold_table is_header fault step start rows ≡ Ok end → P end
    unfolding fold_table
    table-keep P keeps end [] p h = cc h
    table-keep P keeps end (r ∷ rs) p h = go (is_header r) h
      where
        go : (b : Bool) → ◌≡◌ {A = Result S E} (if b then fold_rows step start 1 rs else Err fault) (Ok end) → P end
        go true k = rows-keep P keeps start end 1 rs p k
        go false k = cc k

-- an error that a `?` passes on as it is
pub passed : {T E : Type 0} (r : Result T E) (f : E) (P : E → Type 0) → IsErrAnd r (λ e. e ≡ f) → P f → IfErr r P
passed (Ok x) f P h p = tt
passed (Err e) f P h p = subst P (sym h) p
