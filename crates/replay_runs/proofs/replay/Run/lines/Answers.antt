use Rattle.std.proofs.Common.{◌≡◌, ◌+◌, ◌-◌, ◌∷◌, ◌++◌, suc, Some, List, ap, arith, drop, get_or, length, ℕ, ◌<◌, refl, subst, sym, take, ◌∙◌}
use Rattle.std.proofs.lemmas.List.{drop_more}
use Rattle.dtx_values.specs.declared.script.Line.{Line}
use Rattle.dtx_model.specs.Contexts.{lines_before}
use Rattle.dtx_model.specs.Grammar.{is_in_range}
use Rattle.dtx_model.specs.Words.{kth, past_of}
use Rattle.replay_runs.specs.RunState.{RunState}
use Rattle.script_calls.specs.Scoped.{AreOpen}
use Rattle.replay_runs.proofs.Going.{goes_same, goes_then, hears_same, hears_then, runs_same, runs_then, stays_same, stays_then}
use Rattle.script_calls.proofs.Openings.{past_next, unopened}
use Rattle.script_calls.proofs.Scripts.{few}
use Rattle.replay_runs.proofs.Replayed.{line_at, split_at}
use Rattle.replay_runs.proofs.RunningLines.{each_there, lines_more, none_there}
use Rattle.replay_runs.proofs.replay.Run.lines.Given.{Over}
use Rattle.replay_runs.proofs.replay.Run.lines.Goals.{After-lines-lines}
use Rattle.replay_runs.proofs.replay.Run.lines.Goals as goal
use Rattle.dtx_model.specs.AtLog.{is_log_line}

-- the lines that are gone through are the script's
own : (g : Over) (c : After-lines-lines g) → c.lines-lines.result.now ≡ c.args.self.now.script
own g c = c.lines-lines.ensures ∙ ap (λ (r : RunState). r.script) c.self.view_is

-- where one of them stands in the script
at : (g : Over) (c : After-lines-lines g) (i : ℕ) (l : Line) → i < length c.lines-lines.result.now → l ≡ get_or c.lines-lines.result.now i l → kth c.args.self.now.script (suc i) ≡ Some l
at g c i l less is = subst (λ (r : List Line). kth r (suc i) ≡ Some l) (own g c) (line_at c.lines-lines.result.now i l less is)

pub overflow_add-n : goal.overflow_add-n
overflow_add-n g c =
    let same = ap length (own g (goal.at.overflow_add-n g c).After-lines-lines) in
    let most = few c.args.self.now.script c.requires.script in
    omega (arith, same, most, c.loop-l.invariant.count, c.loop-l-test.true)

pub loop-l-init : goal.loop-l-init
loop-l-init g c = record {
  count = refl;
  log = goes_same g.D.Disk.faults g.D.Disk.honest g.D.Disk.image c.args.log.now;
  stays = λ off. stays_same g.D.Disk.faults c.args.log.now;
  life = omega arith;
  runs = runs_same g.D.Disk.faults g.D.Disk.honest g.D.Disk.image g.D.Disk.obeys g.D.Disk.seen c.args.log.now c.args.self.now c.requires.holds;
  heard = hears_same g.O.Objects.is_for g.O.Objects.reached c.args.self.now c.args.objects.now c.requires.made;
  below = c.requires.below;
  open_at = c.requires.contexts;
  ran = ap past_of c.requires.start;
}

pub line-requires-clause-unopened : goal.line-requires-clause-unopened
line-requires-clause-unopened g c =
    let s = c.args.self.now.script in
    let lines = c.lines-lines.result.now in
    let i = c.loop-l.l-index in
    let l = c.l-item.result in
    let same = own g (goal.at.line-requires-clause-unopened g c).After-lines-lines in
    let here : drop i lines ≡ l ∷ drop (i + 1) lines = drop_more lines i l c.loop-l-test.true ∙ ap (λ (x : Line). x ∷ drop (i + 1) lines) (sym c.l-item.is) in
    let split : s ≡ take i lines ++ l ∷ drop (i + 1) lines = sym same ∙ split_at lines i l (drop (i + 1) lines) here in
    unopened s (take i lines) (drop (i + 1) lines) l c.loop-l.self.contexts split c.requires.script.named c.loop-l.invariant.open_at

pub line-requires-clause-open : goal.line-requires-clause-open
line-requires-clause-open g c =
    let s = c.args.self.now.script in
    let lines = c.lines-lines.result.now in
    let i = c.loop-l.l-index in
    let same = own g (goal.at.line-requires-clause-open g c).After-lines-lines in
    let number : i ≡ (c.loop-l.n + 1) - 1 = omega (arith, c.loop-l.invariant.count) in
    let before : past_of (take i lines) ≡ lines_before c.loop-l.self.script (c.loop-l.n + 1) =
    ap (λ k. past_of (take k lines)) number ∙ ap (λ (r : List Line). past_of (take ((c.loop-l.n + 1) - 1) r)) (same ∙ sym c.loop-l.invariant.runs.script) in
    subst (λ (b : List Line). AreOpen c.loop-l.self.contexts b) before c.loop-l.invariant.open_at

pub line-requires-clause-stands : goal.line-requires-clause-stands
line-requires-clause-stands g c =
    let next : suc c.loop-l.l-index ≡ c.loop-l.n + 1 = omega (arith, c.loop-l.invariant.count) in
    subst (λ (r : List Line). kth r (c.loop-l.n + 1) ≡ Some c.l-item.result) (sym c.loop-l.invariant.runs.script)
    (ap (kth c.args.self.now.script) (sym next) ∙ at g (goal.at.line-requires-clause-stands g c).After-lines-lines c.loop-l.l-index c.l-item.result c.loop-l-test.true c.l-item.is)

pub line-requires-clause-life : goal.line-requires-clause-life
line-requires-clause-life g c =
    let same = ap length (own g (goal.at.line-requires-clause-life g c).After-lines-lines) in
    let most = few c.args.self.now.script c.requires.script in
    let so_far = c.loop-l.invariant.life in
    let less = c.loop-l-test.true in
    let first = c.requires.life in
    omega (arith, same, most, so_far, less, first)

pub line-requires-clause-range : goal.line-requires-clause-range
line-requires-clause-range g c =
    let l = c.l-item.result in
    let stands = at g (goal.at.line-requires-clause-range g c).After-lines-lines c.loop-l.l-index l c.loop-l-test.true c.l-item.is in
    each_there (λ (m : Line). is_in_range m.body) c.args.self.now.script c.loop-l.l-index l c.requires.script.in_range stands

pub loop-l-preserved : goal.loop-l-preserved
loop-l-preserved g c =
    let s = c.args.self.now.script in
    let lines = c.lines-lines.result.now in
    let i = c.loop-l.l-index in
    let l = c.l-item.result in
    let stands = at g (goal.at.loop-l-preserved g c).After-lines-lines i l c.loop-l-test.true c.l-item.is in
    let was = c.loop-l.invariant in
    let did = c.in_ok-line.ensures in
    let faults = g.D.Disk.faults in
    let number : i ≡ (c.loop-l.n + 1) - 1 = omega (arith, was.count) in
    let same = own g (goal.at.loop-l-preserved g c).After-lines-lines in
    let before : past_of (take i lines) ≡ lines_before c.loop-l.self.script (c.loop-l.n + 1) =
    ap (λ k. past_of (take k lines)) number ∙ ap (λ (r : List Line). past_of (take ((c.loop-l.n + 1) - 1) r)) (same ∙ sym was.runs.script) in
    record {
      count = ap (λ n. n + 1) was.count;
      log = goes_then faults g.D.Disk.honest g.D.Disk.image c.args.log.now c.loop-l.log c.line.new.log was.log c.line.ensures.log;
      stays = λ off. stays_then faults c.args.log.now c.loop-l.log c.line.new.log was.log.grows c.line.ensures.log.grows (was.stays off) (c.line.ensures.stays (none_there (λ (m : Line). is_log_line m.body) s i l off stands));
      life = let so_far = was.life in let next = c.line.ensures.life in omega (arith, so_far, next);
      runs = runs_then faults g.D.Disk.honest g.D.Disk.image g.D.Disk.obeys g.D.Disk.seen c.args.log.now c.loop-l.log c.line.new.log c.args.self.now c.loop-l.self c.line.new.self was.runs did.runs;
      heard = hears_then g.O.Objects.is_for g.O.Objects.reached c.args.self.now c.loop-l.self c.line.new.self c.args.objects.now c.loop-l.objects c.line.new.objects c.loop-l.invariant.heard c.in_ok-line.ensures.heard;
      below = did.entered;
      open_at = subst (λ (b : List Line). AreOpen c.line.new.self.contexts b) (sym (past_next lines i l c.loop-l-test.true c.l-item.is)) (did.scopes (past_of (take i lines)) was.open_at);
      ran =
          lines_more s c.loop-l.self.script lines i c.loop-l.n l (past_of c.loop-l.self.trace) (past_of c.line.new.self.trace) c.loop-l-test.true c.l-item.is was.count was.runs.script
          (λ count. did.done (past_of (take i lines)) count before was.open_at) was.ran;
    }

pub returns-in_err-line-clause-log : goal.returns-in_err-line-clause-log
returns-in_err-line-clause-log g c =
    goes_then g.D.Disk.faults g.D.Disk.honest g.D.Disk.image c.args.log.now c.loop-l.log c.line.new.log c.loop-l.invariant.log c.line.ensures.log

pub returns-in_err-line-clause-stays : goal.returns-in_err-line-clause-stays
returns-in_err-line-clause-stays g c = λ off.
    let i = c.loop-l.l-index in
    let l = c.l-item.result in
    let stands = at g (goal.at.returns-in_err-line-clause-stays g c).After-lines-lines i l c.loop-l-test.true c.l-item.is in
    let was = c.loop-l.invariant in
    stays_then g.D.Disk.faults c.args.log.now c.loop-l.log c.line.new.log was.log.grows c.line.ensures.log.grows (was.stays off)
    (c.line.ensures.stays (none_there (λ (m : Line). is_log_line m.body) c.args.self.now.script i l off stands))
