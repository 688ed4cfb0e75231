use Rattle.std.proofs.Common.{length, None}
use Rattle.tb_ranges.specs.Runs.{expanded}
use Rattle.tb_ranges.proofs.RunLaws.{last_ends}
use Rattle.tb_ranges.proofs.pieces.end_of_runs.Goals as goal

pub returns-in-Some : goal.returns-in-Some
returns-in-Some g c = last_ends None 0 (length (expanded c.args.runs.now)) c.args.runs.now c.in-Some.last.now c.requires c.in-Some.ensures.value
