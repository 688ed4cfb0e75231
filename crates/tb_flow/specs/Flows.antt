-- Code as its ways see it: what happens to variables, and where ways part, meet, turn back and end.
use Rattle.std.specs.Prelude.{◌≡◌, ℕ, Bool, true, List, [], ◌∷◌, ◌++◌, ◌⊎◌, ⊤}
use Rattle.tb_perm.specs.declared.span.Span.{Span}

-- what happens to the variable of a number: its value is moved out; it is given a value; a `let` without a value declares it anew
pub data Event : Type 0 where
  Moved : ℕ → Event
  Given : ℕ → Event
  Declared : ℕ → Event

-- A piece of code, in the order of evaluation.
pub data Flow : Type 0 where
  -- nothing happens
  Nothing : Flow
  -- an event
  Does : Event → Flow
  -- a variable is used, at this place
  Uses : ℕ → Span → Flow
  -- a value is moved out of a part, at this place
  Part : Span → Flow
  -- one piece and then another
  Then : Flow → Flow → Flow
  -- one of two pieces
  Either : Flow → Flow → Flow
  -- before each turn the first piece, where the loop may end if the truth value says so, and then the second
  Loop : Flow → Bool → Flow → Flow
  -- to the end, and to the next turn, of the innermost loop in whose body it stands
  Break : Flow
  Continue : Flow
  -- nothing comes after it
  Stop : Flow

-- how a way leaves a piece: by its end, by a `break` or a `continue`, or not: it has come to a use of a variable in the piece
pub data End : Type 0 where
  Next : End
  Broke : End
  Continued : End
  At : ℕ → Span → End

-- it does not leave by the end
abbrev pub IsAway : End → Type 0
IsAway End.Next = ⊥
IsAway end = ⊤

-- it turns back to the head of the loop whose body the piece is
abbrev pub IsBack : End → Type 0
IsBack End.Next = ⊤
IsBack End.Continued = ⊤
IsBack end = ⊥

-- the ways through a piece: the list of what happens, and how the way leaves
pub data Way : Flow → List Event → End → Type 0 where
  Idle : Way Flow.Nothing [] End.Next
  Happens : (event : Event) → Way (Flow.Does event) (event ∷ []) End.Next
  -- a use is come to, and is gone past
  Comes : (v : ℕ) (span : Span) → Way (Flow.Uses v span) [] (End.At v span)
  Passes : (v : ℕ) (span : Span) → Way (Flow.Uses v span) [] End.Next
  Parts : (span : Span) → Way (Flow.Part span) [] End.Next
  -- the first piece alone, or both
  First : (a b : Flow) (es : List Event) (end : End) → Way a es end → IsAway end → Way (Flow.Then a b) es end
  Both : (a b : Flow) (es fs : List Event) (end : End) → Way a es End.Next → Way b fs end → Way (Flow.Then a b) (es ++ fs) end
  One : (a b : Flow) (es : List Event) (end : End) → Way a es end → Way (Flow.Either a b) es end
  Other : (a b : Flow) (es : List Event) (end : End) → Way b es end → Way (Flow.Either a b) es end
  Breaks : Way Flow.Break [] End.Broke
  Continues : Way Flow.Continue [] End.Continued
  -- the way leaves a loop, or comes to a use, in its head; the loop ends behind its head
  InHead : (head : Flow) (leaves : Bool) (body : Flow) (es : List Event) (end : End) → Way head es end → IsAway end → Way (Flow.Loop head leaves body) es end
  Ends : (head body : Flow) (es : List Event) → Way head es End.Next → Way (Flow.Loop head true body) es End.Next
  -- it ends at a `break` of its body; a use in its body is come to
  Leaves : (head : Flow) (leaves : Bool) (body : Flow) (es fs : List Event) → Way head es End.Next → Way body fs End.Broke → Way (Flow.Loop head leaves body) (es ++ fs) End.Next
  InBody : (head : Flow) (leaves : Bool) (body : Flow) (es fs : List Event) (v : ℕ) (span : Span) → Way head es End.Next → Way body fs (End.At v span) → Way (Flow.Loop head leaves body) (es ++ fs) (End.At v span)
  -- one turn, and then the loop again
  Turns : (head : Flow) (leaves : Bool) (body : Flow) (es fs gs : List Event) (back end : End) → Way head es End.Next → Way body fs back → IsBack back → Way (Flow.Loop head leaves body) gs end → Way (Flow.Loop head leaves body) ((es ++ fs) ++ gs) end

-- a value is moved out of a part at this place of the piece, whether a way leads there or not
abbrev pub HasPart : Flow → Span → Type 0
HasPart (Flow.Part at) span = at ≡ span
HasPart (Flow.Then a b) span = HasPart a span ⊎ HasPart b span
HasPart (Flow.Either a b) span = HasPart a span ⊎ HasPart b span
HasPart (Flow.Loop head leaves body) span = HasPart head span ⊎ HasPart body span
HasPart flow span = ⊥
