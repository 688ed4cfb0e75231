-- Lists with commas up to a mark that closes: what is read stands there, and what stands there is read.
use Rattle.std.proofs.Common.{◌≡◌, ◌+◌, ◌<◌, ◌≤◌, Bool, true, false, true≢false, List, [], ◌∷◌, map, length, Option, Some, sym, ap, inl, inr, arith}
use Rattle.std.specs.List.{AllByRecursion}
use Rattle.tb_perm.specs.declared.span.Span.{Span}
use Rattle.tb_lex.specs.declared.punctuation.Punctuation.{Punctuation}
use Rattle.tb_lex.specs.declared.punctuation.Punctuation.TheVariants.{Comma}
use Rattle.tb_ast.specs.declared.piece.Piece.{Piece}
use Rattle.tb_ast.specs.declared.leaf.Mark.{Mark}
use Rattle.tb_ast.specs.Pieces.{punct, mark, separated}
use Rattle.tb_syntax.specs.State.{State, Begins, Stands}
use Rattle.tb_syntax.specs.Marks.{has_mark}
use Rattle.tb_syntax.specs.Lists.{IsListed, listed_at}
use Rattle.tb_syntax.proofs.Chains.{stands-split, stands-shrinks}
use Rattle.tb_syntax.proofs.Marks.{mark-complete, mark-has, comma-shorter}
use Rattle.tb_syntax.proofs.Lists.{EndsSo, Starts, list-sound, list-complete}

-- where a mark stands, it comes next
pub begins-has : (wanted : Punctuation) (m : Mark) (state rest : State) → Begins (mark wanted m) state rest → has_mark wanted state ≡ true
begins-has wanted m state rest h = mark-has wanted state (m, rest) (mark-complete wanted state m rest h)

not_empty : (wanted : Punctuation) (state : State) → has_mark wanted state ≡ true → 0 < length state
unfolding has_mark
not_empty wanted [] e = absurd (true≢false (sym e))
not_empty wanted (piece ∷ state) e = omega arith

-- behind each comma less is left
commas-short : {A : Type 0} (pieces : A → List Piece) (values : List A) (marks : List Span) (state rest : State) → length marks ≤ length values
    → Stands (separated Comma (map pieces values) marks) state rest → length marks + length rest ≤ length state
commas-short pieces [] [] state rest few h = let e : length state ≡ length rest = ap length h in omega arith
commas-short pieces [] (m ∷ marks) state rest few h = absurd (omega arith)
commas-short pieces (x ∷ values) [] state rest few h =
    let e = stands-shrinks (separated Comma (map pieces (x ∷ values)) []) state rest h in omega arith
commas-short pieces (x ∷ values) (m ∷ marks) state rest few h =
    let parts = stands-split (pieces x) (punct Comma m ∷ separated Comma (map pieces values) marks) state rest h in
    let first = stands-shrinks (pieces x) state parts.0 parts.1 in
    let comma = comma-shorter m parts.0 parts.2.0 parts.2.1 in
    let others = commas-short pieces values marks parts.2.0 rest (omega arith) parts.2.2 in
    omega arith

module _ {A : Type 0} (one : State → Option (A × State)) (close : Punctuation) (pieces : A → List Piece) (Good : A → Type 0) where
  pub listed-sound : ((state : State) (x : A) (rest : State) → one state ≡ Some (x, rest) → Stands (pieces x) state rest × Good x)
      → (state : State) (values : List A) (marks : List Span) (rest : State) → listed_at one close state ≡ Some ((values, marks), rest)
      → Stands (separated Comma (map pieces values) marks) state rest × AllByRecursion Good values × IsListed values marks
  unfolding listed_at
  listed-sound one_sound state values marks rest e =
      let t = list-sound (has_mark close) one (has_mark Comma) Comma pieces Good one_sound (length state) state values marks rest e in
      let listed : IsListed values marks = elim t.closed [ inl k ↦ inl k.0 | inr k ↦ inr k.0 ] in
      (t.stands, t.good, listed)

  pub listed-complete : (free : A → State → Bool)
      → ((state : State) (x : A) (rest : State) → Good x → free x rest ≡ true → Stands (pieces x) state rest → one state ≡ Some (x, rest))
      → ((state : State) (x : A) (rest : State) → Good x → Stands (pieces x) state rest → has_mark close state ≡ false)
      → ((x : A) → Good x → (m : Span) (state rest : State) → Begins (punct Comma m) state rest → free x state ≡ true)
      → (state : State) (values : List A) (marks : List Span) (rest : State)
      → ((x : A) → Good x → free x rest ≡ true) → has_mark close rest ≡ true → has_mark Comma rest ≡ false
      → AllByRecursion Good values → IsListed values marks → Stands (separated Comma (map pieces values) marks) state rest
      → listed_at one close state ≡ Some ((values, marks), rest)
  unfolding listed_at
  listed-complete free one_complete no_end free_before state values marks rest last closed stop good listed h =
      let few : length marks ≤ length values = elim listed [
        | inl k ↦ let same : length marks ≡ length values = k in omega arith
        | inr k ↦ let same : length marks + 1 ≡ length values = k in omega arith
      ] in
      let short = commas-short pieces values marks state rest few h in
      let some = not_empty close rest closed in
      let end : EndsSo (has_mark close) (has_mark Comma) values marks rest = elim listed [ inl k ↦ inl (k, closed) | inr k ↦ inr (k, stop) ] in
      let before : (m : Span) (s r : State) → Begins (punct Comma m) s r → Starts (has_mark close) one (has_mark Comma) Comma pieces Good r → has_mark Comma s ≡ true =
      λ m s r b x. begins-has Comma (record { span = m; glued = false }) s r b in
      list-complete (has_mark close) one (has_mark Comma) Comma pieces Good free one_complete no_end free_before before (length state) values marks state rest (omega arith) good last end h
