use Rattle.tb_parse.proofs.Refused.{one-refused}
use Rattle.tb_parse.proofs.laws.law_one_refused.Goals as goal

pub returns : goal.returns
returns c = record { one = one-refused }
