use Rattle.std.proofs.Common.{map}
use Rattle.tb_perm.specs.declared.tag.Tag.{Tag}
use Rattle.tb_stands.proofs.OwnRows.{folded_same}
use Rattle.tb_prune.proofs.folded.law_folded.Goals as goal

pub returns : goal.returns
returns c stands = folded_same c.args.own.now.size c.args.own.now.rows c.args.eager.now.rows (map (λ (t : Tag). t.0) c.args.reached.now) stands
