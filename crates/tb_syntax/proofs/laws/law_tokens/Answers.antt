use Rattle.tb_syntax.proofs.Marks.{mark-sound, mark-complete}
use Rattle.tb_syntax.proofs.Tokens.{keyword-sound, keyword-complete, name-sound, name-complete}
use Rattle.tb_syntax.proofs.laws.law_tokens.Goals as goal

pub returns-clause-mark_sound : goal.returns-clause-mark_sound
returns-clause-mark_sound c = mark-sound

pub returns-clause-mark_complete : goal.returns-clause-mark_complete
returns-clause-mark_complete c = mark-complete

pub returns-clause-keyword_sound : goal.returns-clause-keyword_sound
returns-clause-keyword_sound c = keyword-sound

pub returns-clause-keyword_complete : goal.returns-clause-keyword_complete
returns-clause-keyword_complete c = keyword-complete

pub returns-clause-name_sound : goal.returns-clause-name_sound
returns-clause-name_sound c = name-sound

pub returns-clause-name_complete : goal.returns-clause-name_complete
returns-clause-name_complete c = name-complete
