-- The steps of a loop that reads values with a mark between them.
use Rattle.std.proofs.Common.{◌≡◌, ℕ, suc, ◌+◌, ◌-◌, ◌<◌, ◌≤◌, Bool, true, false, if◌then◌else◌, List, [], ◌∷◌, ◌++◌, Option, Some, None, refl, sym, ap, ◌∙◌, append_assoc, arith}
use Rattle.std.proofs.lemmas.List.{append-nil}
use Rattle.tb_perm.specs.declared.span.Span.{Span}
use Rattle.tb_lex.specs.declared.punctuation.Punctuation.{Punctuation}
use Rattle.tb_syntax.specs.declared.error.ReadError.{ReadError}
use Rattle.tb_syntax.specs.declared.error.ReadError.TheVariants as errors
use Rattle.tb_syntax.specs.Reading.{◌>>=◌, Fails}
use Rattle.tb_syntax.specs.State.{State}
use Rattle.tb_syntax.specs.Marks.{punct_at}
use Rattle.tb_syntax.specs.Lists.{Listed, joined_lists, list_at}

pub joined-joined : {A : Type 0} (values : List A) (marks : List Span) (x : A) (m : Span) (r : Option (Listed A × State))
    → joined_lists (values ++ x ∷ []) (marks ++ m ∷ []) r ≡ joined_lists values marks (joined_lists (x ∷ []) (m ∷ []) r)
joined-joined values marks x m None = refl
joined-joined {A} values marks x m (Some y) =
    let at : List A → List Span → Option (Listed A × State) = λ vs ms. Some ((vs, ms), y.1) in
    ap (λ vs. at vs ((marks ++ m ∷ []) ++ y.0.1)) (append_assoc values (x ∷ []) y.0.0)
    ∙ ap (λ ms. at (values ++ x ∷ y.0.0) ms) (append_assoc marks (m ∷ []) y.0.1)

joined-done : {A : Type 0} (values more : List A) (marks : List Span) (state : State)
    → joined_lists values marks (Some ((more, []), state)) ≡ Some ((values ++ more, marks), state)
joined-done {A} values more marks state =
    let at : List Span → Option (Listed A × State) = λ ms. Some ((values ++ more, ms), state) in
    ap at (append-nil marks)

joined-none : {A : Type 0} (values : List A) (marks : List Span) → joined_lists values marks None ≡ None
joined-none values marks = refl

module _ {A : Type 0} (ends : State → Bool) (one : State → Option (A × State)) (goes : State → Bool) (mark : Punctuation) where
  pub list-zero : (state : State) → list_at ends one goes mark 0 state ≡ None
  unfolding list_at
  list-zero state = refl

  pub list-ends : (fuel : ℕ) (state : State) → ends state ≡ true → list_at ends one goes mark (suc fuel) state ≡ Some (([], []), state)
  unfolding list_at
  list-ends fuel state e = rw e refl

  pub list-one : (fuel : ℕ) (state : State) → ends state ≡ false
      → list_at ends one goes mark (suc fuel) state ≡ (one state >>= λ x.
      if goes x.1 then (punct_at mark x.1 >>= λ m. joined_lists (x.0 ∷ []) (m.0 ∷ []) (list_at ends one goes mark fuel m.1))
      else Some ((x.0 ∷ [], []), x.1))
  unfolding list_at
  list-one fuel state e = rw e refl

  pub list-last : (fuel : ℕ) (state : State) (x : A) (after : State) → ends state ≡ false → one state ≡ Some (x, after) → goes after ≡ false
      → list_at ends one goes mark (suc fuel) state ≡ Some ((x ∷ [], []), after)
  list-last fuel state x after e read stop = list-one fuel state e ∙ rw (read, stop) refl

  pub list-more : (fuel : ℕ) (state : State) (x : A) (after : State) → ends state ≡ false → one state ≡ Some (x, after) → goes after ≡ true
      → list_at ends one goes mark (suc fuel) state ≡ (punct_at mark after >>= λ m. joined_lists (x ∷ []) (m.0 ∷ []) (list_at ends one goes mark fuel m.1))
  list-more fuel state x after e read go = list-one fuel state e ∙ rw (read, go) refl

  -- the loop has read one more, and the mark behind it
  pub read_more : (count i : ℕ) (values : List A) (marks : List Span) (state : State) (x : A) (after : State) (m : Span) (rest : State) (total : Option (Listed A × State))
      → i < count → ends state ≡ false → one state ≡ Some (x, after) → goes after ≡ true → punct_at mark after ≡ Some (m, rest)
      → joined_lists values marks (list_at ends one goes mark (count - i) state) ≡ total
      → joined_lists (values ++ x ∷ []) (marks ++ m ∷ []) (list_at ends one goes mark (count - (i + 1)) rest) ≡ total
  read_more count i values marks state x after m rest total below e read go comma so_far =
      let fuel : count - i ≡ suc (count - (i + 1)) = omega arith in
      let left : Option (Listed A × State) = list_at ends one goes mark (count - (i + 1)) rest in
      let step : list_at ends one goes mark (count - i) state ≡ joined_lists (x ∷ []) (m ∷ []) left =
      ap (λ n. list_at ends one goes mark n state) fuel ∙ list-more (count - (i + 1)) state x after e read go
      ∙ ap (λ r. r >>= λ m. joined_lists (x ∷ []) (m.0 ∷ []) (list_at ends one goes mark (count - (i + 1)) m.1)) comma in
      joined-joined values marks x m left ∙ ap (joined_lists values marks) (sym step) ∙ so_far

  -- the loop has read the last
  pub read_last : (count i : ℕ) (values : List A) (marks : List Span) (state : State) (x : A) (after : State) (total : Option (Listed A × State))
      → i < count → ends state ≡ false → one state ≡ Some (x, after) → goes after ≡ false
      → joined_lists values marks (list_at ends one goes mark (count - i) state) ≡ total
      → total ≡ Some ((values ++ x ∷ [], marks), after)
  read_last count i values marks state x after total below e read stop so_far =
      let fuel : count - i ≡ suc (count - (i + 1)) = omega arith in
      sym so_far ∙ ap (λ n. joined_lists values marks (list_at ends one goes mark n state)) fuel
      ∙ ap (joined_lists values marks) (list-last (count - (i + 1)) state x after e read stop) ∙ joined-done values (x ∷ []) marks after

  -- the loop has come to where the values end
  pub read_all : (count i : ℕ) (values : List A) (marks : List Span) (state : State) (total : Option (Listed A × State))
      → i < count → ends state ≡ true
      → joined_lists values marks (list_at ends one goes mark (count - i) state) ≡ total
      → total ≡ Some ((values, marks), state)
  read_all count i values marks state total below e so_far =
      let fuel : count - i ≡ suc (count - (i + 1)) = omega arith in
      let at : List A → Option (Listed A × State) = λ vs. Some ((vs, marks), state) in
      sym so_far ∙ ap (λ n. joined_lists values marks (list_at ends one goes mark n state)) fuel
      ∙ ap (joined_lists values marks) (list-ends (count - (i + 1)) state e) ∙ joined-done values [] marks state ∙ ap at (append-nil values)

  -- the loop could not read a value
  pub no_value : (e : ReadError) (count i : ℕ) (values : List A) (marks : List Span) (state : State) (total : Option (Listed A × State))
      → i < count → ends state ≡ false → Fails e (one state)
      → joined_lists values marks (list_at ends one goes mark (count - i) state) ≡ total → Fails e total
  no_value errors.Memory count i values marks state total below e read so_far = tt
  no_value errors.Unexpected count i values marks state total below e read so_far =
      let fuel : count - i ≡ suc (count - (i + 1)) = omega arith in
      let none : list_at ends one goes mark (suc (count - (i + 1))) state ≡ None = list-one (count - (i + 1)) state e ∙ rw read refl in
      sym so_far ∙ ap (λ n. joined_lists values marks (list_at ends one goes mark n state)) fuel ∙ ap (joined_lists values marks) none

  -- the loop could not read a mark
  pub no_mark : (e : ReadError) (count i : ℕ) (values : List A) (marks : List Span) (state : State) (x : A) (after : State) (total : Option (Listed A × State))
      → i < count → ends state ≡ false → one state ≡ Some (x, after) → goes after ≡ true → Fails e (punct_at mark after)
      → joined_lists values marks (list_at ends one goes mark (count - i) state) ≡ total → Fails e total
  no_mark errors.Memory count i values marks state x after total below e read go comma so_far = tt
  no_mark errors.Unexpected count i values marks state x after total below e read go comma so_far =
      let fuel : count - i ≡ suc (count - (i + 1)) = omega arith in
      let none : list_at ends one goes mark (suc (count - (i + 1))) state ≡ None = list-more (count - (i + 1)) state x after e read go ∙ rw comma refl in
      sym so_far ∙ ap (λ n. joined_lists values marks (list_at ends one goes mark n state)) fuel ∙ ap (joined_lists values marks) none

  -- the loop has used up its fuel
  pub used_up : (count i : ℕ) (values : List A) (marks : List Span) (state : State) (total : Option (Listed A × State))
      → count ≤ i → joined_lists values marks (list_at ends one goes mark (count - i) state) ≡ total → total ≡ None
  used_up count i values marks state total past so_far =
      let fuel : count - i ≡ 0 = omega arith in
      sym so_far ∙ ap (λ n. joined_lists values marks (list_at ends one goes mark n state)) fuel ∙ ap (joined_lists values marks) (list-zero state)

pub ruleset loops = (read_more, read_last, read_all, no_value, no_mark, used_up)
