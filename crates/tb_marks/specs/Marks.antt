-- What the marks of a tree of tags promise at one byte.
use Rattle.std.specs.Prelude.{◌≡◌, ℕ, Bool, true}
use Rattle.tb_perm.specs.declared.perm.Kind.{Kind}
use Rattle.tb_perm.specs.declared.perm.Kind.TheVariants.{Read, Write}
use Rattle.tb_perm.specs.declared.perm.Mark.{Mark}
use Rattle.tb_perm.specs.declared.perm.Mark.TheVariants.{Nothing, Read as ReadMark, Write as WriteMark}
use Rattle.tb_perm.specs.declared.perm.State.{State}
use Rattle.tb_perm.specs.Table.{IsIdle}
use Rattle.tb_perm.specs.Marked.{leaves_alone}
use Rattle.tb_shape.specs.Tree.{Keys, IsAncestor}

-- the mark promises this of a state: foreign accesses of each kind that it leaves alone change nothing
-- there, and are not refused
abbrev pub Promises : Mark → State → Bool → Type 0
Promises mark s guarded = (kind : Kind) → leaves_alone mark kind ≡ true → IsIdle s guarded kind

-- the tags of a tree at one byte: each has a mark and a state there, and is guarded or not
pub record AtByte : Type 0 where
  pub mark : ℕ → Mark
  pub state : ℕ → State
  pub guarded : ℕ → Bool

-- the marks are sound: the mark of each tag makes its promise of the tag and of every tag below it
abbrev pub AreSound : Keys → AtByte → Type 0
AreSound tree tags = (key below : ℕ) → IsAncestor tree key below → Promises (tags.mark key) (tags.state below) (tags.guarded below)

-- what is left of the mark of a tag through which an access of the kind goes: a read changes no
-- permission on its way, and a write may leave any tag of its way Active
abbrev pub lowered : Kind → Mark → Mark
lowered Read mark = mark
lowered Write mark = Nothing

-- the mark of a tag that a foreign access of the kind has met, it and all tags below it: the access
-- made again would change nothing
abbrev pub raised : Kind → Mark → Mark
raised Read Nothing = ReadMark
raised Read ReadMark = ReadMark
raised Read WriteMark = WriteMark
raised Write mark = WriteMark
