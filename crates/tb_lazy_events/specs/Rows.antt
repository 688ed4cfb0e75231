-- The rows of a lazy tree, at one byte and as one event meets them.
use Rattle.std.specs.Prelude.{◌≡◌, ℕ, ◌<◌, ⊤, Bool, false, List, [], ◌∷◌, length, find, Option, option_map, unwrap_or, slice_get, ◌==◌, IsSome}
use Rattle.std.specs.Option.{option_and_then}
use Rattle.std.specs.List.{AllByRecursion}
use Rattle.tb_perm.specs.declared.perm.Kind.{Kind}
use Rattle.tb_perm.specs.declared.perm.Rel.{Rel}
use Rattle.tb_perm.specs.declared.perm.Mark.{Mark}
use Rattle.tb_perm.specs.declared.perm.Mark.TheVariants.{Nothing}
use Rattle.tb_perm.specs.declared.perm.State.{State}
use Rattle.tb_perm.specs.declared.perm.Perm.TheVariants.{Disabled}
use Rattle.tb_perm.specs.Table.{is_guarded}
use Rattle.tb_shape.specs.Tree.{Keys, HasKey}
use Rattle.tb_marks.specs.Marks.{AtByte}
use Rattle.tb_lazy_rows.specs.declared.row.LazyRow.{LazyRow}
use Rattle.tb_lazy_rows.specs.Kinds.{first_refusal, are_left_alone}

-- the row is the key's
abbrev pub is_row : ℕ → LazyRow → Bool
is_row key row = row.tag.0 == key

-- the row of a key
abbrev pub row_of : List LazyRow → ℕ → Option LazyRow
row_of rows key = find (is_row key) rows

-- each tag is below those after it
abbrev pub AreRising : List LazyRow → Type 0
AreRising [] = ⊤
AreRising (row ∷ rows) = AllByRecursion (λ (later : LazyRow). row.tag.0 < later.tag.0) rows × AreRising rows

-- each row has a state and a mark for each byte
pub record IsSized (size : ℕ) (row : LazyRow) : Type 0 where
  pub states : length row.states ≡ size
  pub marks : length row.marks ≡ size

-- each tag of the tree has a row
abbrev pub HasRows : Keys → List LazyRow → Type 0
HasRows tree rows = (key : ℕ) → HasKey tree key → IsSome (row_of rows key)

-- a row's mark and its state at a byte
abbrev pub mark_at : ℕ → LazyRow → Mark
mark_at byte row = unwrap_or (slice_get row.marks byte) Nothing

abbrev pub state_at : ℕ → LazyRow → State
state_at byte row = unwrap_or (slice_get row.states byte) (record { perm = Disabled; accessed = false })

-- the tags at a byte; a tag that has no row is Disabled, and its mark promises nothing
abbrev pub tags_at : List LazyRow → ℕ → AtByte
tags_at rows byte =
    record {
      mark = λ key. unwrap_or (option_map (mark_at byte) (row_of rows key)) Nothing;
      state = λ key. unwrap_or (option_map (state_at byte) (row_of rows key)) (record { perm = Disabled; accessed = false });
      guarded = λ key. unwrap_or (option_map (λ (row : LazyRow). is_guarded row.guard) (row_of rows key)) false;
    }

-- the rows and what each byte meets
pub record Met : Type 0 where
  pub rows : List LazyRow
  pub kinds : List (Option Kind)

-- the tag's mark leaves the event alone at each byte
abbrev pub is_shut_in : Met → ℕ → Bool
is_shut_in met key = unwrap_or (option_map (λ (row : LazyRow). are_left_alone met.kinds row.marks) (row_of met.rows key)) false

-- the first byte at which the tag refuses the event
abbrev pub refused_in : Met → Rel → ℕ → Option ℕ
refused_in met rel key = option_and_then (λ (row : LazyRow). first_refusal met.kinds (is_guarded row.guard) rel row.states) (row_of met.rows key)
