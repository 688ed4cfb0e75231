use Rattle.std.proofs.Common.{◌∙◌, ap, map}
use Rattle.tb_perm.specs.Release.{released_kind}
use Rattle.tb_plain.proofs.Fitting.{key_there, Fits-release, HasPlain_there}
use Rattle.tb_plain.proofs.events.release_sweep.Goals as goal

pub path_of-requires : goal.path_of-requires
path_of-requires c = key_there c.args.shape.now c.args.rows.now c.args.size c.args.tag.0 c.requires.plain c.requires.tag

pub returns-clause-fits : goal.returns-clause-fits
returns-clause-fits c =
    Fits-release c.args.shape.now c.args.rows.now c.args.size c.args.tag.0 _ _ c.requires.plain c.requires.tag c.row_at.ensures c.in_ok-path.ensures c.in_ok-hidden.ensures (c.in_ok-kinds.ensures ∙ ap (map released_kind) c.as_slice.ensures)

pub row_at-requires : goal.row_at-requires
row_at-requires c = HasPlain_there c.args.shape.now c.args.rows.now c.args.tag.0 c.requires.tag
