-- What makes and changes plain rows beside the events' moves.
use Rattle.std.specs.Prelude.{◌≡◌, ℕ, cond, false, map}
use Rattle.std.specs.List.{range_with_len}
use Rattle.tb_perm.specs.declared.perm.Guard.TheVariants.{Free}
use Rattle.tb_perm.specs.declared.new_tag.NewTag.{NewTag}
use Rattle.tb_perm.specs.Reborrow.{new_state}
use Rattle.tb_plain.specs.declared.row.PlainRow.{PlainRow}
use Rattle.tb_plain.specs.Sweep.{is_plain}

-- the row with its guard gone, if it is the tag's
abbrev pub unguarded_plain : ℕ → PlainRow → PlainRow
unguarded_plain t row = cond (is_plain t row) (record row { guard = Free }) row

-- the row of a new tag
abbrev pub IsMade : ℕ → NewTag → PlainRow → Type 0
IsMade size new row = row ≡ record { tag = new.tag; guard = new.guard; made = new.made; noted = false; states = map (new_state new) (range_with_len 0 size) }
