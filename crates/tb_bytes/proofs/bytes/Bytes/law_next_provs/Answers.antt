use Rattle.std.proofs.Common.{map}
use Rattle.tb_bytes.specs.Bytes.{prov_of}
use Rattle.tb_bytes.proofs.Listing.{all_met, only_met}
use Rattle.tb_bytes.proofs.bytes.Bytes.law_next_provs.Goals as goal

pub returns : goal.returns
returns c = λ runs are prov. (all_met (map prov_of c.args.self.now) runs prov are, only_met 0 (map prov_of c.args.self.now) runs prov are)
