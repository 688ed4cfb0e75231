use Rattle.std.proofs.Common.{◌≡◌, ◌++◌, length, sym, ap, ◌∙◌, append-nil, rules}
use Rattle.tb_eval.proofs.Texts.{put_text-end}
use Rattle.tb_eval.proofs.print.text_of.Goals as goal

pub returns : goal.returns
returns c =
    let bytes = c.loop-text.bytes.items in
    let none : length c.loop-text.text.now ≡ 0 = search rules in
    sym (append-nil bytes) ∙ ap (λ z. bytes ++ z) (sym (put_text-end c.loop-text.text.now c.loop-text.ints.now none)) ∙ c.loop-text.invariant
