use Rattle.std.proofs.Common.{sym}
use Rattle.tb_diag.specs.Report.{refused_text}
use Rattle.tb_diag.proofs.reports.refused.Goals as goal

pub returns : goal.returns
unfolding refused_text
returns c = rw (sym c.refusal_words-refusal.ensures, sym c.access_words-access.ensures) c.in_ok-text.ensures.ok
