use Rattle.std.proofs.Common.{◌≡◌, ◌++◌, ◌∷◌, [], sym, ap, ◌∙◌, append_assoc}
use Rattle.std.proofs.lemmas.List.{take_rest}
use Rattle.tb_eval.proofs.Texts.{put_text-newline, put_text-hole, put_text-byte}
use Rattle.tb_eval.proofs.print.put_front.Goals as goal

pub returns-then-begins_with-clause-put : goal.returns-then-begins_with-clause-put
returns-then-begins_with-clause-put c =
    let bytes = c.args.bytes.now.items in
    let items : c.push.new.self.items ≡ bytes ++ 10 ∷ [] = c.in_ok-push.ensures.items in
    rw (take_rest, items, append_assoc) (ap (λ z. bytes ++ z) (sym (put_text-newline c.args.text.now c.args.ints.now (sym c.begins_with.ensures ∙ c.if-begins_with.true))))

pub returns-then-begins_with-2-clause-put : goal.returns-then-begins_with-2-clause-put
returns-then-begins_with-2-clause-put c =
    let bytes = c.args.bytes.now.items in
    let text = c.args.text.now in
    let ints = c.args.ints.now in
    let items = c.in_ok-left.ensures.put in
    let left = c.in_ok-left.ensures.left in
    rw (take_rest, items, left, append_assoc)
    (ap (λ z. bytes ++ z) (sym (put_text-hole text ints (sym c.begins_with.ensures ∙ c.if-begins_with.false) (sym c.begins_with-2.ensures ∙ c.if-begins_with-2.true))))

pub returns-clause-put : goal.returns-clause-put
returns-clause-put c =
    let bytes = c.args.bytes.now.items in
    let text = c.args.text.now in
    let ints = c.args.ints.now in
    let items = c.in_ok-push-2.ensures.items in
    rw (take_rest, items, append_assoc)
    (ap (λ z. bytes ++ z) (sym (put_text-byte text ints 0 c.requires (sym c.begins_with.ensures ∙ c.if-begins_with.false) (sym c.begins_with-2.ensures ∙ c.if-begins_with-2.false))))
