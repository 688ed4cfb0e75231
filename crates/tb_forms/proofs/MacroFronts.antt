-- What stands before the first expression in a macro: what is read stands there, and what stands there is read.
use Rattle.std.proofs.Common.{◌≡◌, ℕ, Bool, true, false, List, [], ◌∷◌, ◌++◌, Option, Some, None, refl, ap, subst, ◌∙◌, inl, inr}
use Rattle.std.specs.Prelude.{codes}
use Rattle.tb_perm.specs.declared.span.Span.{Span}
use Rattle.tb_lex.specs.declared.punctuation.Punctuation.TheVariants.{CloseParen, OpenParen, Not}
use Rattle.tb_lex.specs.declared.token.TokenKind.TheVariants as kind
use Rattle.tb_ast.specs.declared.leaf.TextLiteral.{TextLiteral}
use Rattle.tb_ast.specs.declared.expression.PrintText.{PrintText}
use Rattle.tb_ast.specs.Pieces.{punct, text_piece, text_pieces}
use Rattle.tb_ast.specs.Expressions.{print_word, print_text, macro_front}
use Rattle.tb_syntax.specs.Reading.{◌>>=◌}
use Rattle.tb_syntax.specs.State.{State, Begins, Stands}
use Rattle.tb_syntax.specs.Marks.{punct_at}
use Rattle.tb_syntax.specs.Leaves.{word_at, text_at}
use Rattle.tb_syntax.specs.Attributes.{has_word}
use Rattle.tb_syntax.proofs.Options.{bind_some, kept, chosen, some_is}
use Rattle.tb_syntax.proofs.Chains.{stands-then, stands-split, stands-one, one-stands}
use Rattle.tb_syntax.proofs.Marks.{punct-sound, punct-complete}
use Rattle.tb_syntax.proofs.Tokens.{mark-no-token, word-sound, word-complete, text-sound, text-complete}
use Rattle.tb_forms.specs.declared.place.Where.{Where}
use Rattle.tb_forms.specs.declared.front.Front.{Front}
use Rattle.tb_forms.specs.declared.front.Front.TheVariants as front
use Rattle.tb_forms.specs.Beginnings.{is_text, has_text}
use Rattle.tb_forms.specs.Fronts.{MacroHead, macro_head_at, optional_comma_at, print_text_at, print_front_at, optional_text_at, panic_front_at, assert_front_at, macro_front_at, PrintEnds, IsFrontAt}
use Rattle.tb_forms.proofs.Counts.{comma-sound, comma-ends, comma-complete}
use Rattle.tb_forms.proofs.Firsts.{token-stands, word-tells}

-- Heads: a word, `!` and `(`.

head-sound : (name : List ℕ) (state : State) (head : MacroHead) (rest : State) → macro_head_at name state ≡ Some (head, rest) → Stands (macro_front name head.0 head.1.0 head.1.1) state rest
unfolding macro_head_at
head-sound name state head rest e =
    let at = bind_some (word_at name state) _ (head, rest) e in
    let bang = bind_some (punct_at Not at.0.1) _ (head, rest) at.2 in
    let opening = bind_some (punct_at OpenParen bang.0.1) _ (head, rest) bang.2 in
    let is : MacroHead × State → Type 0 = λ y. Stands (macro_front name y.0.0 y.0.1.0 y.0.1.1) state y.1 in
    subst is (some_is ((at.0.0, (bang.0.0, opening.0.0)), opening.0.1) (head, rest) opening.2) (
      at.0.1,
      word-sound name state at.0.0 at.0.1 at.1,
      (
        bang.0.1,
        punct-sound Not at.0.1 bang.0.0 bang.0.1 bang.1,
        one-stands (punct OpenParen opening.0.0) bang.0.1 opening.0.1 (punct-sound OpenParen bang.0.1 opening.0.0 opening.0.1 opening.1),
      ),
    )

head-complete : (name : List ℕ) (state : State) (at bang opening : Span) (rest : State) → Stands (macro_front name at bang opening) state rest → macro_head_at name state ≡ Some ((at, (bang, opening)), rest)
unfolding macro_head_at
head-complete name state at bang opening rest h =
    let b = h.2 in
    let last = stands-one (punct OpenParen opening) b.0 rest b.2 in
    rw (word-complete name state at h.0 h.1) (rw (punct-complete Not h.0 bang b.0 b.1) (rw (punct-complete OpenParen b.0 opening rest last) refl))

-- Texts.

text-has : (text : TextLiteral) (state rest : State) → Begins (text_piece text) state rest → has_text state ≡ true
unfolding has_text
text-has text state rest h = rw (token-stands (kind.Text text.text) text.span state rest refl h) refl

TakenText : Bool → State → Option PrintText × State → Type 0
TakenText newline state y = Stands (print_text y.0) state y.1 × PrintEnds newline y.0 y.1

print-text-sound : (newline : Bool) (state : State) (y : Option PrintText × State) → print_text_at newline state ≡ Some y → TakenText newline state y
unfolding print_text_at TakenText
print-text-sound newline state y e =
    elim (chosen (has_text state) _ _ y e) [
      | inl k ↦
          let text = bind_some (text_at state) _ y k.1 in
          let comma = bind_some (optional_comma_at text.0.1) _ y text.2 in
          subst (TakenText newline state) (some_is (Some (record { text = text.0.0; comma = comma.0.0 }), comma.0.1) y comma.2)
          ((text.0.1, text-sound state text.0.0 text.0.1 text.1, comma-sound text.0.1 comma.0.0 comma.0.1 comma.1), comma-ends text.0.1 comma.0.0 comma.0.1 comma.1)
      | inr k ↦
          let n = kept newline _ y k.1 in
          subst (TakenText newline state) (some_is (None, state) y n.1) (refl, (n.0, k.0))
    ]

print-text-complete : (newline : Bool) (state : State) (text : Option PrintText) (rest : State) → Stands (print_text text) state rest → PrintEnds newline text rest → print_text_at newline state ≡ Some (text, rest)
unfolding print_text_at
print-text-complete newline state None rest h ends =
    let same : state ≡ rest = h in
    let at : State → Option (Option PrintText × State) = λ s. Some (None, s) in
    rw (ap has_text same ∙ ends.1, ends.0) (ap at same)
print-text-complete newline state (Some format) rest h ends =
    rw (text-has format.text state h.0 h.1) (rw (text-complete state format.text h.0 h.1) (rw (comma-complete h.0 format.comma rest h.2 ends) refl))

optional-text-sound : (state : State) (text : Option TextLiteral) (rest : State) → optional_text_at state ≡ Some (text, rest) → Stands (text_pieces text) state rest
unfolding optional_text_at
optional-text-sound state text rest e =
    let is : Option TextLiteral × State → Type 0 = λ y. Stands (text_pieces y.0) state y.1 in
    elim (chosen (has_text state) (text_at state >>= λ x. Some (Some x.0, x.1)) (Some (None, state)) (text, rest) e) [
      | inl k ↦
          let x = bind_some (text_at state) _ (text, rest) k.1 in
          subst is (some_is (Some x.0.0, x.0.1) (text, rest) x.2) (one-stands (text_piece x.0.0) state x.0.1 (text-sound state x.0.0 x.0.1 x.1))
      | inr k ↦ subst is (some_is (None, state) (text, rest) k.1) refl
    ]

optional-text-complete : (state : State) (text : Option TextLiteral) (rest : State) → has_text rest ≡ false → Stands (text_pieces text) state rest → optional_text_at state ≡ Some (text, rest)
unfolding optional_text_at
optional-text-complete state None rest never h =
    let same : state ≡ rest = h in
    let at : State → Option (Option TextLiteral × State) = λ s. Some (None, s) in
    rw (ap has_text same ∙ never) (ap at same)
optional-text-complete state (Some text) rest never h =
    let b = stands-one (text_piece text) state rest h in
    rw (text-has text state rest b) (rw (text-complete state text rest b) refl)

-- Macros.

module _ (depth : ℕ) (place : Where) (state : State) where
  abbrev Taken : Front × State → Type 0
  Taken y = IsFrontAt depth place state y.0 y.1

  print-sound : (newline : Bool) (y : Front × State) → print_front_at newline state ≡ Some y → Taken y
  unfolding print_front_at TakenText
  print-sound newline y e =
      let head = bind_some (macro_head_at (print_word newline) state) _ y e in
      let text = bind_some (print_text_at newline head.0.1) _ y head.2 in
      let h = head-sound (print_word newline) state head.0.0 head.0.1 head.1 in
      let t = print-text-sound newline head.0.1 text.0 text.1 in
      subst Taken (some_is (front.Print head.0.0.0 newline head.0.0.1.0 head.0.0.1.1 text.0.0, text.0.1) y text.2)
      (stands-then (macro_front (print_word newline) head.0.0.0 head.0.0.1.0 head.0.0.1.1) (print_text text.0.0) state head.0.1 text.0.1 h t.0, t.1)

  panic-sound : (y : Front × State) → panic_front_at state ≡ Some y → Taken y
  unfolding panic_front_at
  panic-sound y e =
      let head = bind_some (macro_head_at (codes "panic") state) _ y e in
      let text = bind_some (optional_text_at head.0.1) _ y head.2 in
      let closing = bind_some (punct_at CloseParen text.0.1) _ y text.2 in
      let h = head-sound (codes "panic") state head.0.0 head.0.1 head.1 in
      let t = optional-text-sound head.0.1 text.0.0 text.0.1 text.1 in
      let last = one-stands (punct CloseParen closing.0.0) text.0.1 closing.0.1 (punct-sound CloseParen text.0.1 closing.0.0 closing.0.1 closing.1) in
      subst Taken (some_is (front.Panic head.0.0.0 head.0.0.1.0 head.0.0.1.1 text.0.0 closing.0.0, closing.0.1) y closing.2)
      (stands-then (macro_front (codes "panic") head.0.0.0 head.0.0.1.0 head.0.0.1.1) (text_pieces text.0.0 ++ punct CloseParen closing.0.0 ∷ []) state head.0.1 closing.0.1 h
      (stands-then (text_pieces text.0.0) (punct CloseParen closing.0.0 ∷ []) head.0.1 text.0.1 closing.0.1 t last))

  assert-sound : (y : Front × State) → assert_front_at state ≡ Some y → Taken y
  unfolding assert_front_at
  assert-sound y e =
      let head = bind_some (macro_head_at (codes "assert") state) _ y e in
      subst Taken (some_is (front.Assert head.0.0.0 head.0.0.1.0 head.0.0.1.1, head.0.1) y head.2) (head-sound (codes "assert") state head.0.0 head.0.1 head.1)

  pub macro-sound : (y : Front × State) → macro_front_at state ≡ Some y → IsFrontAt depth place state y.0 y.1
  unfolding macro_front_at
  macro-sound y e =
      elim (chosen (has_word (codes "print") state) _ _ y e) [
        | inl a ↦ print-sound false y a.1
        | inr a ↦ elim (chosen (has_word (codes "println") state) _ _ y a.1) [
          | inl b ↦ print-sound true y b.1
          | inr b ↦ elim (chosen (has_word (codes "panic") state) _ _ y b.1) [
            | inl c ↦ panic-sound y c.1
            | inr c ↦ assert-sound y c.1
          ]
        ]
      ]

print-front-complete : (newline : Bool) (state : State) (name bang opening : Span) (text : Option PrintText) (rest : State)
    → Stands (macro_front (print_word newline) name bang opening ++ print_text text) state rest → PrintEnds newline text rest → print_front_at newline state ≡ Some (front.Print name newline bang opening text, rest)
unfolding print_front_at
print-front-complete newline state name bang opening text rest h ends =
    let parts = stands-split (macro_front (print_word newline) name bang opening) (print_text text) state rest h in
    rw (head-complete (print_word newline) state name bang opening parts.0 parts.1) (rw (print-text-complete newline parts.0 text rest parts.2 ends) refl)

pub print-complete : (newline : Bool) (state : State) (name bang opening : Span) (text : Option PrintText) (rest : State)
    → Stands (macro_front (print_word newline) name bang opening ++ print_text text) state rest → PrintEnds newline text rest → macro_front_at state ≡ Some (front.Print name newline bang opening text, rest)
unfolding macro_front_at
print-complete false state name bang opening text rest h ends =
    rw (word-tells (codes "print") (codes "print") name state h.0 h.1) (print-front-complete false state name bang opening text rest h ends)
print-complete true state name bang opening text rest h ends =
    rw (word-tells (codes "print") (codes "println") name state h.0 h.1, word-tells (codes "println") (codes "println") name state h.0 h.1) (print-front-complete true state name bang opening text rest h ends)

pub panic-complete : (state : State) (name bang opening : Span) (text : Option TextLiteral) (closing : Span) (rest : State)
    → Stands (macro_front (codes "panic") name bang opening ++ (text_pieces text ++ punct CloseParen closing ∷ [])) state rest → macro_front_at state ≡ Some (front.Panic name bang opening text closing, rest)
unfolding macro_front_at panic_front_at has_text
panic-complete state name bang opening text closing rest h =
    let parts = stands-split (macro_front (codes "panic") name bang opening) (text_pieces text ++ punct CloseParen closing ∷ []) state rest h in
    let back = stands-split (text_pieces text) (punct CloseParen closing ∷ []) parts.0 rest parts.2 in
    let last = stands-one (punct CloseParen closing) back.0 rest back.2 in
    let never = mark-no-token is_text CloseParen (record { span = closing; glued = false }) back.0 rest (λ p. refl) last in
    rw (word-tells (codes "print") (codes "panic") name state h.0 h.1, word-tells (codes "println") (codes "panic") name state h.0 h.1, word-tells (codes "panic") (codes "panic") name state h.0 h.1)
    (rw (head-complete (codes "panic") state name bang opening parts.0 parts.1) (rw (optional-text-complete parts.0 text back.0 never back.1) (rw (punct-complete CloseParen back.0 closing rest last) refl)))

pub assert-complete : (state : State) (name bang opening : Span) (rest : State) → Stands (macro_front (codes "assert") name bang opening) state rest → macro_front_at state ≡ Some (front.Assert name bang opening, rest)
unfolding macro_front_at assert_front_at
assert-complete state name bang opening rest h =
    rw (word-tells (codes "print") (codes "assert") name state h.0 h.1, word-tells (codes "println") (codes "assert") name state h.0 h.1, word-tells (codes "panic") (codes "assert") name state h.0 h.1)
    (rw (head-complete (codes "assert") state name bang opening rest h) refl)
