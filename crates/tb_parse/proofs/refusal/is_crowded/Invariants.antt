use Rattle.std.proofs.Common.{◌≡◌, ◌≤◌, drop}
use Rattle.tb_parse.specs.Fronts.{is_crowded}
use Rattle.tb_parse.proofs.refusal.is_crowded.Given as goal

abbrev pub invariant-loop-token : goal.invariant-loop-token
invariant-loop-token l = record {
  same : is_crowded l.opened l.closed (drop l.token-index l.tokens) ≡ is_crowded 0 0 l.tokens;
  opened : l.opened ≤ l.token-index;
  closed : l.closed ≤ l.token-index;
}
