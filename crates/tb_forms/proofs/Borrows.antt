-- Borrows: what is read stands there, and what stands there is read.
use Rattle.std.proofs.Common.{◌≡◌, ℕ, false, List, Option, Some, refl, ap, subst, ◌∙◌, inl, inr}
use Rattle.std.specs.Prelude.{codes}
use Rattle.tb_perm.specs.declared.span.Span.{Span}
use Rattle.tb_lex.specs.declared.keyword.Keyword.TheVariants.{Const, Mut}
use Rattle.tb_lex.specs.declared.punctuation.Punctuation.TheVariants.{And}
use Rattle.tb_lex.specs.declared.token.TokenKind.TheVariants as kind
use Rattle.tb_ast.specs.declared.leaf.Mark.{Mark}
use Rattle.tb_ast.specs.declared.operator.Borrow.{Borrow}
use Rattle.tb_ast.specs.declared.operator.Borrow.TheVariants as borrow
use Rattle.tb_ast.specs.Pieces.{mark, keyword, word}
use Rattle.tb_ast.specs.Expressions.{borrow_kind}
use Rattle.tb_syntax.specs.State.{State, Begins, Stands}
use Rattle.tb_syntax.specs.Marks.{mark_at}
use Rattle.tb_syntax.specs.Leaves.{keyword_at, has_keyword, word_at}
use Rattle.tb_syntax.proofs.Options.{bind_some, chosen, some_is}
use Rattle.tb_syntax.proofs.Chains.{stands-one, one-stands}
use Rattle.tb_syntax.proofs.Marks.{mark-sound, mark-complete}
use Rattle.tb_syntax.proofs.Tokens.{keyword-sound, keyword-complete, keyword-has, word-sound, word-complete}
use Rattle.tb_forms.specs.declared.place.Where.{Where}
use Rattle.tb_forms.specs.declared.front.Front.{Front}
use Rattle.tb_forms.specs.declared.front.Front.TheVariants as front
use Rattle.tb_forms.specs.Beginnings.{begins_raw}
use Rattle.tb_forms.specs.Fronts.{raw_kind, borrow_kind_at, borrow_front_at, BorrowEnds, IsFrontAt}
use Rattle.tb_forms.proofs.Firsts.{token-stands}

TakenKind : State → Borrow × State → Type 0
TakenKind state y = Stands (borrow_kind y.0) state y.1 × BorrowEnds y.0 y.1

-- `const` or `mut` behind the word
raw-sound : (raw : Span) (state middle : State) (y : Borrow × State) → Begins (word (codes "raw") raw) state middle → raw_kind raw middle ≡ Some y → TakenKind state y
unfolding TakenKind
raw-sound raw state middle y first e =
    elim (chosen (has_keyword Const middle) _ _ y e) [
      | inl k ↦
          let x = bind_some (keyword_at Const middle) _ y k.1 in
          subst (TakenKind state) (some_is (borrow.RawConst raw x.0.0, x.0.1) y x.2) ((middle, first, one-stands (keyword Const x.0.0) middle x.0.1 (keyword-sound Const middle x.0.0 x.0.1 x.1)), tt)
      | inr k ↦
          let x = bind_some (keyword_at Mut middle) _ y k.1 in
          subst (TakenKind state) (some_is (borrow.RawMut raw x.0.0, x.0.1) y x.2) ((middle, first, one-stands (keyword Mut x.0.0) middle x.0.1 (keyword-sound Mut middle x.0.0 x.0.1 x.1)), tt)
    ]

kind-sound : (state : State) (y : Borrow × State) → borrow_kind_at state ≡ Some y → TakenKind state y
unfolding borrow_kind_at TakenKind
kind-sound state y e =
    elim (chosen (has_keyword Mut state) _ _ y e) [
      | inl a ↦
          let x = bind_some (keyword_at Mut state) _ y a.1 in
          subst (TakenKind state) (some_is (borrow.Mut x.0.0, x.0.1) y x.2) (one-stands (keyword Mut x.0.0) state x.0.1 (keyword-sound Mut state x.0.0 x.0.1 x.1), tt)
      | inr a ↦ elim (chosen (begins_raw state) _ _ y a.1) [
        | inl b ↦
            let x = bind_some (word_at (codes "raw") state) _ y b.1 in
            raw-sound x.0.0 state x.0.1 y (word-sound (codes "raw") state x.0.0 x.0.1 x.1) x.2
        | inr b ↦ subst (TakenKind state) (some_is (borrow.Shared, state) y b.1) (refl, (a.0, b.0))
      ]
    ]

-- a word is no `mut`, and no `mut` is `const`
word-no-mut : (bytes : List ℕ) (span : Span) (state rest : State) → Begins (word bytes span) state rest → has_keyword Mut state ≡ false
unfolding has_keyword
word-no-mut bytes span state rest h = rw (token-stands (kind.Name (record { bytes = bytes })) span state rest refl h) refl

mut-no-const : (span : Span) (state rest : State) → Begins (keyword Mut span) state rest → has_keyword Const state ≡ false
unfolding has_keyword
mut-no-const span state rest h = rw (token-stands (kind.Keyword Mut) span state rest refl h) refl

kind-complete : (state : State) (borrowed : Borrow) (rest : State) → Stands (borrow_kind borrowed) state rest → BorrowEnds borrowed rest → borrow_kind_at state ≡ Some (borrowed, rest)
unfolding borrow_kind_at begins_raw
kind-complete state borrow.Shared rest h ends =
    let same : state ≡ rest = h in
    let at : State → Option (Borrow × State) = λ s. Some (borrow.Shared, s) in
    rw (ap (has_keyword Mut) same ∙ ends.0) (rw (ap begins_raw same ∙ ends.1) (ap at same))
kind-complete state (borrow.Mut span) rest h ends =
    let b = stands-one (keyword Mut span) state rest h in
    rw (keyword-has Mut state span rest b) (rw (keyword-complete Mut state span rest b) refl)
kind-complete state (borrow.RawConst raw span) rest h ends =
    let last = stands-one (keyword Const span) h.0 rest h.2 in
    rw (word-no-mut (codes "raw") raw state h.0 h.1, word-complete (codes "raw") state raw h.0 h.1) (rw (keyword-has Const h.0 span rest last) (rw (keyword-complete Const h.0 span rest last) refl))
kind-complete state (borrow.RawMut raw span) rest h ends =
    let last = stands-one (keyword Mut span) h.0 rest h.2 in
    rw (word-no-mut (codes "raw") raw state h.0 h.1, word-complete (codes "raw") state raw h.0 h.1) (rw (mut-no-const span h.0 rest last, keyword-has Mut h.0 span rest last) (rw (keyword-complete Mut h.0 span rest last) refl))

pub borrow-sound : (depth : ℕ) (place : Where) (state : State) (y : Front × State) → borrow_front_at state ≡ Some y → IsFrontAt depth place state y.0 y.1
unfolding borrow_front_at TakenKind
borrow-sound depth place state y e =
    let and = bind_some (mark_at And state) _ y e in
    let k = bind_some (borrow_kind_at and.0.1) _ y and.2 in
    let t = kind-sound and.0.1 k.0 k.1 in
    let is : Front × State → Type 0 = λ y. IsFrontAt depth place state y.0 y.1 in
    subst is (some_is (front.Borrow and.0.0 k.0.0, k.0.1) y k.2) (and.0.1, mark-sound And state and.0.0 and.0.1 and.1, t.0, t.1)

pub borrow-complete : (state : State) (and : Mark) (borrowed : Borrow) (middle rest : State) → Begins (mark And and) state middle → Stands (borrow_kind borrowed) middle rest → BorrowEnds borrowed rest
    → borrow_front_at state ≡ Some (front.Borrow and borrowed, rest)
unfolding borrow_front_at
borrow-complete state and borrowed middle rest first h ends = rw (mark-complete And state and middle first) (rw (kind-complete middle borrowed rest h ends) refl)
