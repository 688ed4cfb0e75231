use Rattle.tb_syntax.proofs.Named.{path-sound, path-complete}
use Rattle.tb_syntax.proofs.Noted.{note-sound, note-complete, turbofish-sound, turbofish-complete}
use Rattle.tb_syntax.proofs.laws.law_paths.Goals as goal

pub returns-clause-path_sound : goal.returns-clause-path_sound
returns-clause-path_sound c = path-sound

pub returns-clause-path_complete : goal.returns-clause-path_complete
returns-clause-path_complete c = path-complete

pub returns-clause-note_sound : goal.returns-clause-note_sound
returns-clause-note_sound c = note-sound

pub returns-clause-note_complete : goal.returns-clause-note_complete
returns-clause-note_complete c = note-complete

pub returns-clause-turbofish_sound : goal.returns-clause-turbofish_sound
returns-clause-turbofish_sound c = turbofish-sound

pub returns-clause-turbofish_complete : goal.returns-clause-turbofish_complete
returns-clause-turbofish_complete c = turbofish-complete
