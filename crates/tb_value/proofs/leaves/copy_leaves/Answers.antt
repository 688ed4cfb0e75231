use Rattle.std.proofs.Common.{◌∙◌, ap, length}
use Rattle.tb_value.specs.Provs.{all_pass}
use Rattle.tb_value.proofs.Kept.{if_ok, length_copy, pass_copied}
use Rattle.tb_value.proofs.leaves.copy_leaves.Goals as goal

pub returns-clause-size : goal.returns-clause-size
returns-clause-size c = if_ok c.copy_parts.result (λ copy e. ap length e ∙ length_copy c.args.types.now c.args.bytes.now c.args.leaves.now c.requires.spread) c.copy_parts.ensures

pub returns-clause-provs : goal.returns-clause-provs
returns-clause-provs c =
    if_ok c.copy_parts.result (λ copy e test h. ap (all_pass test) e ∙ pass_copied test c.args.types.now c.args.bytes.now 0 c.args.leaves.now h) c.copy_parts.ensures
