-- What a call on a tree answers, and what it leaves where it is not carried out.
use Rattle.std.specs.Prelude.{◌≡◌, ◌⊎◌, List, [], ◌∷◌, ◌++◌, Option, Some, None, Result, Ok, Err, ⊤}
use Rattle.tb_perm.specs.declared.perm.State.{State}
use Rattle.tb_perm.specs.declared.report.Report.{Report}
use Rattle.tb_perm.specs.declared.report.TreeError.{TreeError}
use Rattle.tb_perm.specs.declared.report.TreeError.TheVariants.{Borrow, Memory}
use Rattle.tb_perm.specs.Rows.{Row}

-- a report of the rules is answered as it is, and where there is none the call succeeds; only want
-- of memory is free
abbrev pub Answers : {T : Type 0} → Option Report → Result T TreeError → Type 0
Answers None (Ok done) = ⊤
Answers (Some report) (Ok done) = ⊥
Answers None (Err (Borrow told)) = ⊥
Answers (Some report) (Err (Borrow told)) = told ≡ report
Answers report (Err Memory) = ⊤

-- the fact, where a tag refused
abbrev pub OnBorrow : {T : Type 0} → Result T TreeError → Type 0 → Type 0
OnBorrow (Ok done) fact = ⊤
OnBorrow (Err (Borrow report)) fact = fact
OnBorrow (Err Memory) fact = ⊤

-- the fact, where memory was wanting
abbrev pub OnMemory : {T : Type 0} → Result T TreeError → Type 0 → Type 0
OnMemory (Ok done) fact = ⊤
OnMemory (Err (Borrow report)) fact = ⊤
OnMemory (Err Memory) fact = fact

-- each state is the old one or the new one
abbrev pub AreBetween : List State → List State → List State → Type 0
AreBetween [] [] [] = ⊤
AreBetween (old ∷ olds) (new ∷ news) (state ∷ states) = ((state ≡ old) ⊎ (state ≡ new)) × AreBetween olds news states
AreBetween [] [] (state ∷ states) = ⊥
AreBetween [] (new ∷ news) states = ⊥
AreBetween (old ∷ olds) [] states = ⊥
AreBetween (old ∷ olds) (new ∷ news) [] = ⊥

-- each row is the old one, but for states that may be the new row's
abbrev pub Between : List Row → List Row → List Row → Type 0
Between [] [] [] = ⊤
Between (old ∷ olds) (new ∷ news) (row ∷ rows) =
    (row ≡ record old { states = row.states }) × AreBetween old.states new.states row.states × Between olds news rows
Between [] [] (row ∷ rows) = ⊥
Between [] (new ∷ news) rows = ⊥
Between (old ∷ olds) [] rows = ⊥
Between (old ∷ olds) (new ∷ news) [] = ⊥

-- as `Between`, and a further row may be there or not
abbrev pub BetweenOrMade : List Row → List Row → Row → List Row → Type 0
BetweenOrMade olds news made rows =
    (front : List Row) × Between olds news front × ((rows ≡ front) ⊎ (rows ≡ front ++ made ∷ []))
