use Rattle.std.proofs.Common.{subst, sym, take, List, ℕ, get_or}
use Rattle.std.proofs.lemmas.List.{take_more}
use Rattle.tb_fields.specs.Fields.{told_structs}
use Rattle.tb_fields.specs.Defined.{AreDefined}
use Rattle.tb_fields.proofs.Defining.{next_ready, next_defined}
use Rattle.tb_fields.proofs.define.define_all.Goals as goal

pub define_node-requires-clause-ready : goal.define_node-requires-clause-ready
define_node-requires-clause-ready c =
    next_ready c.args.file.now c.args.types.now c.loop-number.types (told_structs c.args.structs.now) (take c.loop-number.number-index c.args.numbers.now) c.loop-number.invariant
    (get_or c.args.numbers.now c.loop-number.number-index 0) (c.requires.order.each c.loop-number.number-index c.loop-number-test.true)

pub loop-number-preserved : goal.loop-number-preserved
loop-number-preserved c =
    subst (λ (done : List ℕ). AreDefined c.args.file.now c.args.types.now c.define_node.new.types (told_structs c.args.structs.now) done)
    (sym (take_more c.args.numbers.now c.loop-number.number-index 0 c.loop-number-test.true))
    (next_defined c.args.file.now c.args.types.now c.loop-number.types c.define_node.new.types (told_structs c.args.structs.now) (take c.loop-number.number-index c.args.numbers.now) c.loop-number.invariant c.law_types.ensures.types
    (get_or c.args.numbers.now c.loop-number.number-index 0) (c.requires.order.each c.loop-number.number-index c.loop-number-test.true) c.in_ok-define_node.ensures)
