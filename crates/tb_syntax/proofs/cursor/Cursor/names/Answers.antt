use Rattle.std.proofs.Common.{rules, ◌≡◌, ◌<◌, length, true, false, [], ◌∷◌, ◌++◌, refl}
use Rattle.std.proofs.lemmas.Result.{err_from_is_err_and}
use Rattle.tb_syntax.specs.Leaves.{name_at}
use Rattle.tb_syntax.specs.Paths.{goes_on, names_at}
use Rattle.tb_syntax.proofs.Loops.{read_last, no_mark}
use Rattle.tb_syntax.proofs.cursor.Cursor.names.Goals as goal

pub returns-then-not-goes_on : goal.returns-then-not-goes_on
returns-then-not-goes_on c =
    let pushed : c.push.new.self ≡ c.loop.names ++ c.in_ok-name.name ∷ [] = search rules in
    let stop : goes_on c.args.mark c.in_ok-name.after ≡ false = search rules in
    let below : c.loop.counter < length c.args.self = search rules in
    rw pushed (read_last (λ _. false) name_at (goes_on c.args.mark) c.args.mark (length c.args.self) c.loop.counter c.loop.names c.loop.marks c.loop.rest c.in_ok-name.name c.in_ok-name.after (names_at c.args.mark c.args.self) below refl c.in_ok-name.ensures stop c.loop.invariant)

pub returns-in_err-span : goal.returns-in_err-span
returns-in_err-span c =
    let p = err_from_is_err_and c.from_residual-in_err-span.result c.from_residual-in_err-span.ensures.1 in
    let go : goes_on c.args.mark c.in_ok-name.after ≡ true = search rules in
    let below : c.loop.counter < length c.args.self = search rules in
    rw (p.1, p.2) (no_mark (λ _. false) name_at (goes_on c.args.mark) c.args.mark c.in_err-span.field-0.0 (length c.args.self) c.loop.counter c.loop.names c.loop.marks c.loop.rest c.in_ok-name.name c.in_ok-name.after (names_at c.args.mark c.args.self) below refl c.in_ok-name.ensures go c.in_err-span.ensures c.loop.invariant)
