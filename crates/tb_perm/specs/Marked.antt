-- Which foreign accesses pass over a tag, and over a whole subtree, without a trace.
use Rattle.std.specs.Prelude.{ℕ, Bool, true, false, List, All, IsTrue}
use Rattle.tb_perm.specs.declared.perm.Kind.{Kind}
use Rattle.tb_perm.specs.declared.perm.Kind.TheVariants.{Read, Write}
use Rattle.tb_perm.specs.declared.perm.Mark.{Mark}
use Rattle.tb_perm.specs.declared.perm.Mark.TheVariants.{Nothing, Read as ReadMark, Write as WriteMark}
use Rattle.tb_perm.specs.Table.{IsIdle, is_guarded}
use Rattle.tb_perm.specs.Rows.{Row, is_on_path, state_at}

-- how much a mark promises
abbrev pub level : Mark → ℕ
level Nothing = 0
level ReadMark = 1
level WriteMark = 2

-- a mark promises this of foreign accesses of the kind
abbrev pub leaves_alone : Mark → Kind → Bool
leaves_alone Nothing kind = false
leaves_alone ReadMark Read = true
leaves_alone ReadMark Write = false
leaves_alone WriteMark kind = true

-- a foreign access of the kind at the byte changes nothing at the tag and the tags below it, and
-- none of them refuses it
abbrev pub Marked : List Row → ℕ → ℕ → Kind → Type 0
Marked rows tag byte kind =
    All (λ (row : Row). IsTrue (is_on_path rows row.tag tag) → IsIdle (state_at row byte) (is_guarded row.guard) kind) rows
