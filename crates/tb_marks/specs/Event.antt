-- An event at one byte of a tree that keeps marks. It is local on its way, from a tag to the root, meets the
-- tags that it visits off the way as a foreign access, and passes by all others.
use Rattle.std.specs.Prelude.{◌≡◌, ℕ, ◌==◌, Bool, true, false, cond, List, Option, Some, None}
use Rattle.std.specs.List.{list_any}
use Rattle.tb_perm.specs.declared.perm.Kind.{Kind}
use Rattle.tb_perm.specs.declared.perm.Mark.{Mark}
use Rattle.tb_perm.specs.declared.perm.Rel.TheVariants.{Local, Foreign}
use Rattle.tb_perm.specs.Marked.{leaves_alone}
use Rattle.tb_perm.specs.Event.{moved_state, refusal_of}
use Rattle.tb_shape.specs.Tree.{Keys, IsAncestor, IsPath}
use Rattle.tb_marks.specs.Marks.{AtByte, lowered, raised}

-- the tag is among them
abbrev pub contains : List ℕ → ℕ → Bool
contains keys key = list_any (λ k. k == key) keys

-- the marks, where the byte meets an access
abbrev pub lowered_at : Option Kind → Mark → Mark
lowered_at None mark = mark
lowered_at (Some kind) mark = lowered kind mark

abbrev pub raised_at : Option Kind → Mark → Mark
raised_at None mark = mark
raised_at (Some kind) mark = raised kind mark

-- the mark leaves alone what the byte meets
abbrev pub leaves_at : Option Kind → Mark → Bool
leaves_at None mark = true
leaves_at (Some kind) mark = leaves_alone mark kind

-- the tags at the byte once the event has visited its way and these keys off it
abbrev pub visited : List ℕ → List ℕ → Option Kind → AtByte → AtByte
visited path keys kind tags =
    record {
      mark = λ key. cond (contains path key) (lowered_at kind (tags.mark key)) (cond (contains keys key) (raised_at kind (tags.mark key)) (tags.mark key));
      state = λ key. cond (contains path key) (moved_state kind (tags.guarded key) Local (tags.state key)) (cond (contains keys key) (moved_state kind (tags.guarded key) Foreign (tags.state key)) (tags.state key));
      guarded = tags.guarded;
    }

-- a tag off the way whose mark leaves the event alone stands between the way and this tag, or is this tag
abbrev pub IsShut : Keys → List ℕ → Option Kind → AtByte → ℕ → Type 0
IsShut tree path kind tags key =
    (above : ℕ) × IsAncestor tree above key × (contains path above ≡ false) × (leaves_at kind (tags.mark above) ≡ true)

-- what was visited is enough: below a visited key all tags are visited, or shut; and no visited key refuses
pub record IsVisit (tree : Keys) (path keys : List ℕ) (kind : Option Kind) (tags : AtByte) : Type 0 where
  pub way : (t : ℕ) × IsPath tree t path
  pub below : (key other : ℕ) → contains keys key ≡ true → IsAncestor tree key other → (contains keys other ≡ false → IsShut tree path kind tags other)
  pub off : (key : ℕ) → contains keys key ≡ true → contains path key ≡ false
  pub local : (key : ℕ) → contains path key ≡ true → refusal_of kind (tags.guarded key) Local (tags.state key) ≡ None
  pub foreign : (key : ℕ) → contains keys key ≡ true → refusal_of kind (tags.guarded key) Foreign (tags.state key) ≡ None
