use Rattle.std.proofs.Common.{rules, ◌≡◌, ◌<◌, length, true, false, [], ◌∷◌, ◌++◌}
use Rattle.std.proofs.lemmas.Result.{err_from_is_err_and}
use Rattle.tb_lex.specs.declared.punctuation.Punctuation.TheVariants.{Comma, Gt}
use Rattle.tb_syntax.specs.Marks.{has_mark}
use Rattle.tb_syntax.specs.Lists.{listed_at}
use Rattle.tb_syntax.specs.Types.{argument_at, type_at}
use Rattle.tb_syntax.proofs.Loops.{read_last, no_mark}
use Rattle.tb_syntax.proofs.cursor.Cursor.+types.Goals as goal

pub types-returns-then-not-has_mark : goal.types-returns-then-not-has_mark
types-returns-then-not-has_mark t c =
    let pushed : c.push.new.self ≡ c.loop.types ++ c.in_ok-ty.ty ∷ [] = search rules in
    let begins : has_mark c.args.close c.loop.rest ≡ false = search rules in
    let stop : has_mark Comma c.in_ok-ty.after ≡ false = search rules in
    let below : c.loop.counter < length c.args.self = search rules in
    rw pushed (read_last (has_mark c.args.close) (type_at c.args.depth) (has_mark Comma) Comma (length c.args.self) c.loop.counter c.loop.types c.loop.commas c.loop.rest c.in_ok-ty.ty c.in_ok-ty.after (listed_at (type_at c.args.depth) c.args.close c.args.self) below begins c.in_ok-ty.ensures stop c.loop.invariant)

pub types-returns-in_err-comma : goal.types-returns-in_err-comma
types-returns-in_err-comma t c =
    let p = err_from_is_err_and c.from_residual-in_err-comma.result c.from_residual-in_err-comma.ensures.1 in
    let begins : has_mark c.args.close c.loop.rest ≡ false = search rules in
    let go : has_mark Comma c.in_ok-ty.after ≡ true = search rules in
    let below : c.loop.counter < length c.args.self = search rules in
    rw (p.1, p.2) (no_mark (has_mark c.args.close) (type_at c.args.depth) (has_mark Comma) Comma c.in_err-comma.field-0.0 (length c.args.self) c.loop.counter c.loop.types c.loop.commas c.loop.rest c.in_ok-ty.ty c.in_ok-ty.after (listed_at (type_at c.args.depth) c.args.close c.args.self) below begins c.in_ok-ty.ensures go c.in_err-comma.ensures c.loop.invariant)

pub arguments-returns-then-not-has_mark : goal.arguments-returns-then-not-has_mark
arguments-returns-then-not-has_mark t c =
    let pushed : c.push.new.self ≡ c.loop.arguments ++ c.in_ok-argument.argument ∷ [] = search rules in
    let begins : has_mark Gt c.loop.rest ≡ false = search rules in
    let stop : has_mark Comma c.in_ok-argument.after ≡ false = search rules in
    let below : c.loop.counter < length c.args.self = search rules in
    rw pushed (read_last (has_mark Gt) (argument_at (type_at c.args.depth)) (has_mark Comma) Comma (length c.args.self) c.loop.counter c.loop.arguments c.loop.commas c.loop.rest c.in_ok-argument.argument c.in_ok-argument.after (listed_at (argument_at (type_at c.args.depth)) Gt c.args.self) below begins c.in_ok-argument.ensures stop c.loop.invariant)

pub arguments-returns-in_err-comma : goal.arguments-returns-in_err-comma
arguments-returns-in_err-comma t c =
    let p = err_from_is_err_and c.from_residual-in_err-comma.result c.from_residual-in_err-comma.ensures.1 in
    let begins : has_mark Gt c.loop.rest ≡ false = search rules in
    let go : has_mark Comma c.in_ok-argument.after ≡ true = search rules in
    let below : c.loop.counter < length c.args.self = search rules in
    rw (p.1, p.2) (no_mark (has_mark Gt) (argument_at (type_at c.args.depth)) (has_mark Comma) Comma c.in_err-comma.field-0.0 (length c.args.self) c.loop.counter c.loop.arguments c.loop.commas c.loop.rest c.in_ok-argument.argument c.in_ok-argument.after (listed_at (argument_at (type_at c.args.depth)) Gt c.args.self) below begins c.in_ok-argument.ensures go c.in_err-comma.ensures c.loop.invariant)
