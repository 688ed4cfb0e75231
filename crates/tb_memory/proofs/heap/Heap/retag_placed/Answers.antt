use Rattle.std.proofs.Common.{◌≡◌, ◌≢◌, sym, ◌∙◌, ap, subst, ◌+◌, Bool, cond, Option}
use Rattle.std.proofs.lemmas.Bool.{ne_eqb}
use Rattle.tb_perm.specs.declared.tag.Tag.{Tag}
use Rattle.tb_perm.specs.declared.tag.Prov.{Prov}
use Rattle.tb_events.specs.Memory.{RunMemory}
use Rattle.tb_new_tag.specs.NewTags.{bytes_of, tag_of}
use Rattle.tb_memory.specs.Heap.{Done}
use Rattle.tb_memory.specs.Retags.{reborrowed, if_named}
use Rattle.tb_memory.specs.Answers.{Answers}
use Rattle.tb_memory.proofs.Answering.{tag_is}
use Rattle.tb_memory.proofs.heap.Heap.retag_placed.Goals as goal

pub returns-clause-answer : goal.returns-clause-answer
returns-clause-answer g c =
    let some : bytes_of c.args.types.now c.args.how ≢ 0 = λ none. c.if-size-eq0.false (c.size.ensures ∙ none) in
    let next : c.next_tag.result ≡ record { 0 = c.args.self.now.tags + 1 } = tag_is c.next_tag.result (c.args.self.now.tags + 1) (c.next_tag.ensures ∙ ap (λ (m : RunMemory). m.tags + 1) c.self.view_is) in
    subst (λ (b : Bool). Answers (cond b (Done c.args.self.now c.args.ptr) (if_named c.args.self.now c.args.types.now c.args.ptr c.args.how c.args.offset c.args.made c.args.ptr.prov)) c.reborrow.result c.reborrow.new.self) (sym (ne_eqb (bytes_of c.args.types.now c.args.how) 0 some))
    (subst (λ (prov : Option Prov). Answers (if_named c.args.self.now c.args.types.now c.args.ptr c.args.how c.args.offset c.args.made prov) c.reborrow.result c.reborrow.new.self) (sym c.in-Some.is)
    (subst (λ (tag : Tag). Answers (reborrowed c.args.self.now c.args.ptr.addr c.in-Some.prov (tag_of c.args.types.now c.args.how c.in-Some.prov.tag tag c.args.offset c.args.made)) c.reborrow.result c.reborrow.new.self) next c.reborrow.ensures.answer))
