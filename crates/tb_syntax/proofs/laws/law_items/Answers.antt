use Rattle.tb_syntax.proofs.Itemized.{use-sound, use-complete, struct-sound, struct-complete}
use Rattle.tb_syntax.proofs.Headed.{head-sound, head-complete, extern-sound, extern-complete}
use Rattle.tb_syntax.proofs.laws.law_items.Goals as goal

pub returns-clause-use_sound : goal.returns-clause-use_sound
returns-clause-use_sound c = use-sound

pub returns-clause-use_complete : goal.returns-clause-use_complete
returns-clause-use_complete c = use-complete

pub returns-clause-struct_sound : goal.returns-clause-struct_sound
returns-clause-struct_sound c = struct-sound

pub returns-clause-struct_complete : goal.returns-clause-struct_complete
returns-clause-struct_complete c = struct-complete

pub returns-clause-head_sound : goal.returns-clause-head_sound
returns-clause-head_sound c = head-sound

pub returns-clause-head_complete : goal.returns-clause-head_complete
returns-clause-head_complete c = head-complete

pub returns-clause-extern_sound : goal.returns-clause-extern_sound
returns-clause-extern_sound c = extern-sound

pub returns-clause-extern_complete : goal.returns-clause-extern_complete
returns-clause-extern_complete c = extern-complete
