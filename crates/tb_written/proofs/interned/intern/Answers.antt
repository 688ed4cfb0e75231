use Rattle.std.proofs.Common.{ap}
use Rattle.std.proofs.lemmas.Option.{slice_get_within}
use Rattle.tb_types.specs.Table.{TypeTable}
use Rattle.tb_written.proofs.Keeping.{keeps}
use Rattle.tb_written.proofs.interned.intern.Goals as goal

pub returns-clause-kept : goal.returns-clause-kept
returns-clause-kept c = keeps _ _ c.law_types.ensures.types c.in_ok-ty.ensures.extends (ap (λ (types : TypeTable). types.items) c.in_ok-ty.ensures.types)

pub returns-clause-is_type : goal.returns-clause-is_type
returns-clause-is_type c = slice_get_within c.intern.new.self.shapes c.in_ok-ty.ty.0 _ c.in_ok-ty.ensures.shape
