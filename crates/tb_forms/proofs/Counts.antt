-- Numbers of elements and commas that may be left out: what is read stands there, and what stands there is read.
use Rattle.std.proofs.Common.{◌≡◌, ◌⊎◌, true, false, Option, Some, None, refl, ap, subst, ◌∙◌, inl, inr}
use Rattle.tb_perm.specs.declared.span.Span.{Span}
use Rattle.tb_lex.specs.declared.suffix.Suffix.{Suffix}
use Rattle.tb_lex.specs.declared.suffix.Suffix.TheVariants as suffix
use Rattle.tb_lex.specs.declared.punctuation.Punctuation.TheVariants.{Comma}
use Rattle.tb_ast.specs.declared.leaf.Mark.{Mark}
use Rattle.tb_ast.specs.declared.leaf.IntLiteral.{IntLiteral}
use Rattle.tb_ast.specs.Pieces.{punct, number, optional_mark}
use Rattle.tb_syntax.specs.Reading.{◌>>=◌}
use Rattle.tb_syntax.specs.State.{State, Begins, Stands}
use Rattle.tb_syntax.specs.Marks.{punct_at, has_mark}
use Rattle.tb_syntax.specs.Leaves.{number_at}
use Rattle.tb_syntax.proofs.Options.{bind_some, kept, chosen, some_is}
use Rattle.tb_syntax.proofs.Chains.{stands-one, one-stands}
use Rattle.tb_syntax.proofs.Marks.{punct-sound, punct-complete}
use Rattle.tb_syntax.proofs.Tokens.{number-sound, number-complete}
use Rattle.tb_syntax.proofs.Listed.{begins-has}
use Rattle.tb_forms.specs.Closings.{is_count, count_at, IsCount}
use Rattle.tb_forms.specs.Fronts.{optional_comma_at}

-- numbers of elements

counts : (o : Option Suffix) → is_count o ≡ true → (o ≡ None) ⊎ (o ≡ Some suffix.Usize)
counts None e = inl refl
counts (Some suffix.Usize) e = inr refl
counts (Some other) e = absurd cc

counted : (o : Option Suffix) → (o ≡ None) ⊎ (o ≡ Some suffix.Usize) → is_count o ≡ true
counted o (inl e) = ap is_count e
counted o (inr e) = ap is_count e

pub count-sound : (state : State) (int : IntLiteral) (rest : State) → count_at state ≡ Some (int, rest) → Begins (number int) state rest × IsCount int
unfolding count_at
count-sound state int rest e =
    let x = bind_some (number_at state) _ (int, rest) e in
    let k = kept (is_count x.0.0.integer.suffix) (Some (x.0.0, x.0.1)) (int, rest) x.2 in
    let is : IntLiteral × State → Type 0 = λ y. Begins (number y.0) state y.1 × IsCount y.0 in
    subst is (some_is (x.0.0, x.0.1) (int, rest) k.1) (number-sound state x.0.0 x.0.1 x.1, counts x.0.0.integer.suffix k.0)

pub count-complete : (state : State) (int : IntLiteral) (rest : State) → Begins (number int) state rest → IsCount int → count_at state ≡ Some (int, rest)
unfolding count_at
count-complete state int rest h is = rw (number-complete state int rest h) (rw (counted int.integer.suffix is) refl)

-- commas that may be left out

pub comma-sound : (state : State) (comma : Option Span) (rest : State) → optional_comma_at state ≡ Some (comma, rest) → Stands (optional_mark Comma comma) state rest
unfolding optional_comma_at
comma-sound state comma rest e =
    let is : Option Span × State → Type 0 = λ y. Stands (optional_mark Comma y.0) state y.1 in
    elim (chosen (has_mark Comma state) (punct_at Comma state >>= λ x. Some (Some x.0, x.1)) (Some (None, state)) (comma, rest) e) [
      | inl k ↦
          let x = bind_some (punct_at Comma state) _ (comma, rest) k.1 in
          subst is (some_is (Some x.0.0, x.0.1) (comma, rest) x.2) (one-stands (punct Comma x.0.0) state x.0.1 (punct-sound Comma state x.0.0 x.0.1 x.1))
      | inr k ↦ subst is (some_is (None, state) (comma, rest) k.1) refl
    ]

-- where none is read, none comes next
pub comma-ends : (state : State) (comma : Option Span) (rest : State) → optional_comma_at state ≡ Some (comma, rest) → comma ≡ None → has_mark Comma rest ≡ false
unfolding optional_comma_at
comma-ends state comma rest e none =
    let is : Option Span × State → Type 0 = λ y. y.0 ≡ None → has_mark Comma y.1 ≡ false in
    elim (chosen (has_mark Comma state) (punct_at Comma state >>= λ x. Some (Some x.0, x.1)) (Some (None, state)) (comma, rest) e) [
      | inl k ↦
          let x = bind_some (punct_at Comma state) _ (comma, rest) k.1 in
          subst is (some_is (Some x.0.0, x.0.1) (comma, rest) x.2) (λ bad. absurd cc) none
      | inr k ↦ subst is (some_is (None, state) (comma, rest) k.1) (λ same. k.0) none
    ]

pub comma-complete : (state : State) (comma : Option Span) (rest : State) → Stands (optional_mark Comma comma) state rest → (comma ≡ None → has_mark Comma rest ≡ false) → optional_comma_at state ≡ Some (comma, rest)
unfolding optional_comma_at
comma-complete state None rest h ends =
    let same : state ≡ rest = h in
    let at : State → Option (Option Span × State) = λ s. Some (None, s) in
    rw (ap (has_mark Comma) same ∙ ends refl) (ap at same)
comma-complete state (Some span) rest h ends =
    let b = stands-one (punct Comma span) state rest h in
    let m : Mark = record { span = span; glued = false } in
    rw (begins-has Comma m state rest b) (rw (punct-complete Comma state span rest b) refl)
