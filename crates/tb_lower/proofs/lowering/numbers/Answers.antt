use Rattle.std.proofs.Common.{◌≡◌, ◌+◌, ◌-◌, ◌++◌, ◌∷◌, [], suc, ap, ◌∙◌, sym, arith, append_assoc}
use Rattle.std.specs.List.{range_with_len}
use Rattle.tb_lower.proofs.lowering.numbers.Goals as goal

pub loop-number-preserved : goal.loop-number-preserved
loop-number-preserved c =
    let n = c.loop-number.number in
    let left : c.args.end - n ≡ suc (c.args.end - (n + 1)) = omega arith in
    ap (λ l. l ++ range_with_len (n + 1) (c.args.end - (n + 1))) c.in_ok-push.ensures.items
    ∙ append_assoc c.loop-number.numbers.items (n ∷ []) (range_with_len (n + 1) (c.args.end - (n + 1)))
    ∙ ap (λ m. c.loop-number.numbers.items ++ range_with_len n m) (sym left) ∙ c.loop-number.invariant
