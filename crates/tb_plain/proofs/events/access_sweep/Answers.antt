use Rattle.tb_plain.specs.Bytes.{access_at}
use Rattle.tb_plain.proofs.Fitting.{key_there, Fits-open}
use Rattle.tb_plain.proofs.events.access_sweep.Goals as goal

pub path_of-requires : goal.path_of-requires
path_of-requires c = key_there c.args.shape.now c.args.rows.now c.args.size c.args.tag.0 c.requires.plain c.requires.tag

pub returns-clause-fits : goal.returns-clause-fits
returns-clause-fits c =
    Fits-open c.args.shape.now c.args.rows.now c.args.size c.args.tag.0 (access_at c.args.lo c.args.hi c.args.kind) _ c.requires.plain c.requires.tag c.in_ok-path.ensures c.new.ensures c.in_ok-kinds.ensures
