use Rattle.std.proofs.Common.{◌≤◌, None, length, map, ap, sym, ◌∙◌, subst, arith}
use Rattle.std.specs.Prelude.{filter}
use Rattle.std.specs.List.{slice_range}
use Rattle.tb_ranges.specs.Runs.{expanded, GoOn, AreRuns}
use Rattle.tb_ranges.specs.Ranges.{touches, cut}
use Rattle.tb_ranges.proofs.Values.{size_of, sized}
use Rattle.tb_ranges.proofs.Cuts.{cut_all, cut_runs}
use Rattle.tb_ranges.proofs.runs.Runs.runs_in.Goals as goal

pub runs_between-requires-clause-runs : goal.runs_between-requires-clause-runs
runs_between-requires-clause-runs g c = rw c.deref.ensures.value (sized c.self.inside.size c.self.inside.runs.items c.self.invariant)

pub returns-clause-these : goal.returns-clause-these
returns-clause-these g c =
    let runs = c.self.inside.runs.items in
    let many = sym (size_of c.self.inside.size runs c.self.invariant) ∙ ap length c.self.view_is in
    record {
      all = runs;
      are = subst (λ n. AreRuns n runs) many c.self.invariant;
      has = c.self.view_is;
      these = c.runs_between.ensures ∙ ap (filter (touches c.args.lo c.args.hi)) c.deref.ensures.value;
    }

pub returns-clause-values : goal.returns-clause-values
returns-clause-values g c =
    let runs = c.self.inside.runs.items in
    let lo = c.args.lo in
    let hi = c.args.hi in
    ap (λ xs. expanded (map (cut lo hi) xs)) (c.runs_between.ensures ∙ ap (filter (touches lo hi)) c.deref.ensures.value)
    ∙ cut_all c.self.inside.size lo hi runs c.self.invariant
    ∙ ap (λ xs. slice_range xs lo hi) c.self.view_is

pub returns-clause-runs : goal.returns-clause-runs
returns-clause-runs g c =
    let runs = c.self.inside.runs.items in
    let lo = c.args.lo in
    let hi = c.args.hi in
    let within : hi ≤ c.self.inside.size = omega (arith, c.requires.within, size_of c.self.inside.size runs c.self.invariant, ap length c.self.view_is) in
    subst (λ xs. GoOn None lo hi (map (cut lo hi) xs)) (sym (c.runs_between.ensures ∙ ap (filter (touches lo hi)) c.deref.ensures.value)) (cut_runs c.self.inside.size lo hi runs c.self.invariant c.requires.order within)
