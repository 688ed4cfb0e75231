-- The steps of a loop that reads one after another.
use Rattle.std.proofs.Common.{◌≡◌, ℕ, zero, suc, ◌+◌, ◌-◌, ◌<◌, ◌≤◌, Bool, true, false, List, [], ◌∷◌, ◌++◌, Option, Some, None, refl, sym, ap, ◌∙◌, append_assoc, arith}
use Rattle.std.proofs.lemmas.List.{append-nil}
use Rattle.tb_syntax.specs.declared.error.ReadError.{ReadError}
use Rattle.tb_syntax.specs.declared.error.ReadError.TheVariants as errors
use Rattle.tb_syntax.specs.Reading.{◌>>=◌, Fails}
use Rattle.tb_syntax.specs.State.{State}
use Rattle.tb_syntax.specs.Repeats.{after_values, many_at}

after-after : {A : Type 0} (values : List A) (x : A) (r : Option (List A × State)) → after_values (values ++ x ∷ []) r ≡ after_values values (after_values (x ∷ []) r)
after-after values x None = refl
after-after {A} values x (Some y) =
    let at : List A → Option (List A × State) = λ vs. Some (vs, y.1) in
    ap at (append_assoc values (x ∷ []) y.0)

module _ {A : Type 0} (begins : State → Bool) (one : State → Option (A × State)) where
  pub many-ends : (fuel : ℕ) (state : State) → begins state ≡ false → many_at begins one fuel state ≡ Some ([], state)
  unfolding many_at
  many-ends zero state e = rw e refl
  many-ends (suc fuel) state e = rw e refl

  pub many-zero : (state : State) → begins state ≡ true → many_at begins one 0 state ≡ None
  unfolding many_at
  many-zero state e = rw e refl

  pub many-one : (fuel : ℕ) (state : State) → begins state ≡ true → many_at begins one (suc fuel) state ≡ (one state >>= λ x. after_values (x.0 ∷ []) (many_at begins one fuel x.1))
  unfolding many_at
  many-one fuel state e = rw e refl

  -- the loop has read one more
  pub one_more : (count i : ℕ) (values : List A) (state : State) (x : A) (after : State) (total : Option (List A × State))
      → i < count → begins state ≡ true → one state ≡ Some (x, after) → after_values values (many_at begins one (count - i) state) ≡ total
      → after_values (values ++ x ∷ []) (many_at begins one (count - (i + 1)) after) ≡ total
  one_more count i values state x after total below e read so_far =
      let fuel : count - i ≡ suc (count - (i + 1)) = omega arith in
      let left : Option (List A × State) = many_at begins one (count - (i + 1)) after in
      let step : many_at begins one (count - i) state ≡ after_values (x ∷ []) left =
      ap (λ n. many_at begins one n state) fuel ∙ many-one (count - (i + 1)) state e ∙ rw read refl in
      after-after values x left ∙ ap (after_values values) (sym step) ∙ so_far

  -- the loop has come to where no more begin
  pub all_read : (fuel : ℕ) (values : List A) (state : State) (total : Option (List A × State))
      → begins state ≡ false → after_values values (many_at begins one fuel state) ≡ total → total ≡ Some (values, state)
  all_read fuel values state total e so_far =
      let at : List A → Option (List A × State) = λ vs. Some (vs, state) in
      sym so_far ∙ ap (after_values values) (many-ends fuel state e) ∙ ap at (append-nil values)

  -- the loop could not read one
  pub none_read : (e : ReadError) (count i : ℕ) (values : List A) (state : State) (total : Option (List A × State))
      → i < count → begins state ≡ true → Fails e (one state) → after_values values (many_at begins one (count - i) state) ≡ total → Fails e total
  none_read errors.Memory count i values state total below b read so_far = tt
  none_read errors.Unexpected count i values state total below b read so_far =
      let fuel : count - i ≡ suc (count - (i + 1)) = omega arith in
      let none : many_at begins one (suc (count - (i + 1))) state ≡ None = many-one (count - (i + 1)) state b ∙ rw read refl in
      sym so_far ∙ ap (λ n. after_values values (many_at begins one n state)) fuel ∙ ap (after_values values) none

  -- the loop has used up its fuel
  pub fuel_out : (count i : ℕ) (values : List A) (state : State) (total : Option (List A × State))
      → count ≤ i → begins state ≡ true → after_values values (many_at begins one (count - i) state) ≡ total → total ≡ None
  fuel_out count i values state total past e so_far =
      let fuel : count - i ≡ 0 = omega arith in
      sym so_far ∙ ap (λ n. after_values values (many_at begins one n state)) fuel ∙ ap (after_values values) (many-zero state e)

pub ruleset loops = (one_more, all_read, none_read, fuel_out)
