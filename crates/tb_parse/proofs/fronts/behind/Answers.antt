use Rattle.std.proofs.Common.{rules, ◌≡◌, length}
use Rattle.tb_parse.proofs.Ends.{behind-slice}
use Rattle.tb_parse.proofs.fronts.behind.Goals as goal

pub returns : goal.returns
returns c =
    let l : c.len.result ≡ length c.args.rest.now = search rules in
    record { same = behind-slice c.args.tokens.now c.args.rest.now c.len.result c.requires.whole l }
