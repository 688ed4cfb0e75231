use Rattle.std.proofs.Common.{length, sym}
use Rattle.tb_lazy_events.specs.Rows.{IsSized}
use Rattle.tb_lazy_events.proofs.Visits.{all_found}
use Rattle.tb_lazy_events.proofs.meeting.MeetingEventTags.first_refusal.Goals as goal

pub first_refusal-requires : goal.first_refusal-requires
first_refusal-requires c =
    sym (all_found (IsSized (length c.self.inside.kinds.now)) c.self.inside.rows.now c.args.key c.in-Some.row.now c.self.invariant.1 (sym c.in-Some.ensures)).states
