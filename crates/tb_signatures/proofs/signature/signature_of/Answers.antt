use Rattle.std.proofs.Common.{◌≡◌, rules, sym, ◌∙◌, length}
use Rattle.tb_names.specs.Names.{told}
use Rattle.tb_signatures.proofs.Signing.{signed, told_count}
use Rattle.tb_signatures.proofs.signature.signature_of.Goals as goal

pub returns : goal.returns
returns c =
    let count : c.len.result ≡ length c.in_ok-generics.generics.items = search rules in
    signed c.args.file.now c.args.types.now c.parameter_types.new.types c.output_type.new.types c.args.function.now (told c.in_ok-generics.generics.items) _ c.in_ok-parameters.parameters.items
    c.in_ok-generics.ensures.parameters (search rules) (search rules) (search rules) c.from_vec.ensures (search rules) (count ∙ sym (told_count c.in_ok-generics.generics.items))
