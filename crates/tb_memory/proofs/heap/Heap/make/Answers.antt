use Rattle.std.proofs.Common.{sym, subst, Result}
use Rattle.tb_alloc.specs.declared.ptr.Ptr.{Ptr}
use Rattle.tb_events.specs.Memory.{RunMemory}
use Rattle.tb_memory.specs.declared.stop.Stop.{Stop}
use Rattle.tb_memory.specs.Heap.{made}
use Rattle.tb_memory.specs.Answers.{Answers}
use Rattle.tb_memory.proofs.Answering.{made_answers}
use Rattle.tb_memory.proofs.heap.Heap.make.Goals as goal

pub returns-clause-answer : goal.returns-clause-answer
returns-clause-answer g c =
    let memory : RunMemory = c.self.inside.memory in
    subst (λ (m : RunMemory). Answers (made m c.args.size c.args.align c.args.kind c.args.span) c.pointer_or_stop.result c.make-made.new.self) c.self.view_is
    (subst (λ (r : Result Ptr Stop). Answers (made memory c.args.size c.args.align c.args.kind c.args.span) r c.make-made.new.self) (sym c.pointer_or_stop.ensures)
    (made_answers memory c.make-made.new.self c.args.size c.args.align c.args.kind c.args.span c.make-made.result c.make-made.ensures.pointer c.make-made.ensures.memory c.make-made.ensures.limit c.make-made.ensures.fits c.make-made.ensures.err))
