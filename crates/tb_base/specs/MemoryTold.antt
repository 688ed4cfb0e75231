-- What the files in memory tell, which is all that the trait speaks of.
use Rattle.tb_base.specs.Memory.{FilesHeld}
use Rattle.tb_base.specs.Outside.{FilesTold}

abbrev pub files_told : FilesHeld → FilesTold
files_told held = record { files = held.files; left = held.left; asked = held.asked }
