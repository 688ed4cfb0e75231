use Rattle.std.proofs.Common.{◌≡◌, drop}
use Rattle.tb_base.specs.Outside.{bytes_under}
use Rattle.tb_base.specs.Memory.{named}
use Rattle.tb_base.proofs.memory_files.copy_under.Given as goal

-- none of the files so far has the name
abbrev pub invariant-loop-file : goal.invariant-loop-file
invariant-loop-file l = bytes_under (named (drop l.file-index l.files)) l.name ≡ bytes_under (named l.files) l.name
