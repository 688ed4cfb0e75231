use Rattle.std.proofs.Common.{sym, ap, ◌∙◌}
use Rattle.std.specs.Option.{option_map}
use Rattle.tb_written.proofs.Keeping.{all_types_are, tuple_found, no_tuple}
use Rattle.tb_written.proofs.made.tuple.Goals as goal

pub tuple_of-requires : goal.tuple_of-requires
tuple_of-requires c = all_types_are c.args.types.now c.args.parts.now c.in-Some.list.items (sym c.in_ok-list.ensures ∙ ap (option_map (λ list. list.items)) c.in-Some.is) c.requires

pub returns-in_ok-tuple_of-in-Some : goal.returns-in_ok-tuple_of-in-Some
returns-in_ok-tuple_of-in-Some c = tuple_found c.args.types.now c.tuple_of.new.types c.args.parts.now c.in-Some.list.items c.in_ok-tuple_of-in-Some.field-0 (sym c.in_ok-list.ensures ∙ ap (option_map (λ list. list.items)) c.in-Some.is) c.in_ok-tuple_of-in-Some.ensures

pub returns-in-None : goal.returns-in-None
returns-in-None c = no_tuple c.args.types.now c.args.parts.now (sym c.in_ok-list.ensures ∙ ap (option_map (λ list. list.items)) c.in-None.is)
