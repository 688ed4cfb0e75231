use Rattle.std.proofs.Common.{◌-◌, ◌∙◌, sym, ap, length, take, slice_get}
use Rattle.std.proofs.lemmas.List.{take-map}
use Rattle.tb_mentions.specs.Variables.{told_variable, told_known, told_variables}
use Rattle.tb_mentions.proofs.Naming.{closed_is}
use Rattle.tb_mentions.proofs.variables.Variables.close.Goals as goal

pub returns-in-Some : goal.returns-in-Some
returns-in-Some c =
    closed_is (told_variables c.args.self.now) _ _ c.in-Some.mark
    (ap (λ marks. slice_get marks (length marks - 1)) (sym c.deref.ensures.value) ∙ sym c.last.ensures.value ∙ sym c.copied.ensures ∙ c.in-Some.is)
    (ap told_known c.truncate.ensures.items ∙ sym (take-map told_variable c.in-Some.mark c.args.self.now.known.items))
    (c.pop.ensures.rest ∙ ap (λ n. take (n - 1) c.args.self.now.marks.items) (sym c.deref.ensures.len ∙ ap length c.deref.ensures.value))
