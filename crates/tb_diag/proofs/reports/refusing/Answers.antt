use Rattle.std.proofs.Common.{sym}
use Rattle.tb_diag.specs.Report.{refusing_text}
use Rattle.tb_diag.proofs.reports.refusing.Goals as goal

pub returns : goal.returns
unfolding refusing_text
returns c = rw (sym c.perm_words-perm.ensures) c.in_ok-text.ensures.ok
