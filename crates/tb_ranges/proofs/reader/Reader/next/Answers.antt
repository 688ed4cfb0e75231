use Rattle.std.proofs.Common.{◌≡◌, ◌+◌, ◌<◌, ◌∷◌, length, ap, sym, ◌∙◌, arith}
use Rattle.tb_ranges.specs.declared.run.Run.{Run}
use Rattle.tb_ranges.specs.Runs.{expanded}
use Rattle.tb_ranges.specs.Ranges.{from_place}
use Rattle.tb_ranges.proofs.Reading.{some_run, first_ends, next_value}
use Rattle.tb_ranges.proofs.reader.Reader.next.Goals as goal

pub returns-else-self-run : goal.returns-else-self-run
returns-else-self-run g c =
    let runs = c.self.inside.runs.now in
    let at = c.self.inside.at in
    let run = c.index-self-0.result in
    let some : 0 < length runs = some_run at runs (omega (arith, c.requires, ap length c.self.view_is)) in
    let before : at < run.hi = first_ends at runs run c.self.invariant some c.index-self-0.is in
    let more : at + 1 < run.hi = omega (arith, c.place_after-self-inside.ensures, c.if-self-run.false, ap (λ (r : Run _). r.hi) c.index-self-0.is) in
    let next : at + 1 ≡ c.place_after-self-inside.result = sym c.place_after-self-inside.ensures in
    sym c.self.view_is
    ∙ next_value at runs run c.self.invariant some c.index-self-0.is more
    ∙ ap (λ n. run.value ∷ expanded (from_place n runs)) next
    ∙ ap (λ (r : Run _). r.value ∷ expanded (from_place c.place_after-self-inside.result runs)) c.index-self-0.is
