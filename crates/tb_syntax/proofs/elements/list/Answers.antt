use Rattle.std.proofs.Common.{rules, ◌≡◌, ◌<◌, length, true, false, [], ◌∷◌, ◌++◌}
use Rattle.std.proofs.lemmas.Result.{err_from_is_err_and}
use Rattle.tb_lex.specs.declared.punctuation.Punctuation.TheVariants.{Comma}
use Rattle.tb_syntax.specs.Marks.{has_mark}
use Rattle.tb_syntax.specs.Lists.{listed_at}
use Rattle.tb_syntax.proofs.Loops.{read_last, no_mark}
use Rattle.tb_syntax.proofs.elements.list.Goals as goal

pub returns-then-not-has_mark : goal.returns-then-not-has_mark
returns-then-not-has_mark g c =
    let one = g.T.Element.one c.args.depth in
    let pushed : c.push.new.self ≡ c.loop.values ++ c.in_ok-value.value ∷ [] = search rules in
    let begins : has_mark c.args.close c.loop.rest ≡ false = search rules in
    let stop : has_mark Comma c.in_ok-value.after ≡ false = search rules in
    let below : c.loop.counter < length c.args.cursor = search rules in
    rw pushed (read_last (has_mark c.args.close) one (has_mark Comma) Comma (length c.args.cursor) c.loop.counter c.loop.values c.loop.commas c.loop.rest c.in_ok-value.value c.in_ok-value.after (listed_at one c.args.close c.args.cursor) below begins c.in_ok-value.ensures stop c.loop.invariant)

pub returns-in_err-comma : goal.returns-in_err-comma
returns-in_err-comma g c =
    let one = g.T.Element.one c.args.depth in
    let p = err_from_is_err_and c.from_residual-in_err-comma.result c.from_residual-in_err-comma.ensures.1 in
    let begins : has_mark c.args.close c.loop.rest ≡ false = search rules in
    let go : has_mark Comma c.in_ok-value.after ≡ true = search rules in
    let below : c.loop.counter < length c.args.cursor = search rules in
    rw (p.1, p.2) (no_mark (has_mark c.args.close) one (has_mark Comma) Comma c.in_err-comma.field-0.0 (length c.args.cursor) c.loop.counter c.loop.values c.loop.commas c.loop.rest c.in_ok-value.value c.in_ok-value.after (listed_at one c.args.close c.args.cursor) below begins c.in_ok-value.ensures go c.in_err-comma.ensures c.loop.invariant)
