-- What the events have in common: an access through one tag, of some kind at some bytes, that moves
-- or is refused by every tag that sees it.
use Rattle.std.specs.Prelude.{ℕ, ◌+◌, Bool, cond, ◌&&◌, List, [], ◌∷◌, map, Option, Some, None, Result, Ok, Err, nat_le, nat_lt}
use Rattle.tb_perm.specs.declared.perm.State.{State}
use Rattle.tb_perm.specs.declared.perm.Kind.{Kind}
use Rattle.tb_perm.specs.declared.perm.Rel.{Rel}
use Rattle.tb_perm.specs.declared.perm.Rel.TheVariants.{Local, Foreign}
use Rattle.tb_perm.specs.declared.report.Refusal.{Refusal}
use Rattle.tb_perm.specs.Table.{step_of, is_guarded}
use Rattle.tb_perm.specs.Rows.{Row, is_on_path, state_at}

-- the tag that the event goes through, and the kind of access that a tag meets at a byte, if any
pub record Event : Type 0 where
  pub through : ℕ
  pub meets : ℕ → ℕ → Option Kind

-- the byte lies in the range
abbrev pub is_within : ℕ → ℕ → ℕ → Bool
is_within lo hi byte = nat_le lo byte && nat_lt byte hi

-- local for the tag that the event goes through and its ancestors, foreign for all others
abbrev pub rel_of : List Row → Event → Row → Rel
rel_of rows event row = cond (is_on_path rows event.through row.tag) Local Foreign

-- the state afterwards: the table's, and the same where nothing is met or the table refuses
abbrev pub state_after : Result State Refusal → State → State
state_after (Ok t) s = t
state_after (Err refusal) s = s

abbrev pub moved_state : Option Kind → Bool → Rel → State → State
moved_state None protected rel s = s
moved_state (Some kind) protected rel s = state_after (step_of s protected rel kind) s

-- the table's refusal
abbrev pub refusal_in : Result State Refusal → Option Refusal
refusal_in (Ok t) = None
refusal_in (Err refusal) = Some refusal

abbrev pub refusal_of : Option Kind → Bool → Rel → State → Option Refusal
refusal_of None protected rel s = None
refusal_of (Some kind) protected rel s = refusal_in (step_of s protected rel kind)

-- the states of one tag after the event, where the first of the list is that of this byte
abbrev pub moved_states : (ℕ → Option Kind) → Bool → Rel → ℕ → List State → List State
moved_states meets protected rel byte [] = []
moved_states meets protected rel byte (s ∷ states) =
    moved_state (meets byte) protected rel s ∷ moved_states meets protected rel (byte + 1) states

-- one tag after the event
abbrev pub moved_row : List Row → Event → Row → Row
moved_row rows event row =
    record row { states = moved_states (event.meets row.tag) (is_guarded row.guard) (rel_of rows event row) 0 row.states }

-- all tags after the event, each moved at each byte by the rows before
abbrev pub after : Event → List Row → List Row
after event rows = map (moved_row rows event) rows

-- why a tag refuses the event at a byte, if it does
abbrev pub refusal_at : List Row → Event → Row → ℕ → Option Refusal
refusal_at rows event row byte =
    refusal_of (event.meets row.tag byte) (is_guarded row.guard) (rel_of rows event row) (state_at row byte)
