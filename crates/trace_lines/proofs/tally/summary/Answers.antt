use Rattle.std.proofs.Common.{◌≡◌, ◌∙◌, List, ap}
use Rattle.std.specs.Prelude.{count_by}
use Rattle.trace_lines.specs.Headings.{heading_word, is_counted}
use Rattle.trace_lines.specs.Summary.{how_many, seen_of, summary_text}
use Rattle.trace_lines.specs.declared.tally.Heading.{Heading}
use Rattle.trace_lines.specs.declared.tally.Heading.TheVariants.{Transactions, Committed, Aborted, InDoubt, Open, Promoted, Logged, Freed}
use Rattle.trace_lines.specs.declared.tally.Seen.{Seen}
use Rattle.trace_lines.proofs.Summaries.{how-many, line}
use Rattle.trace_lines.proofs.tally.summary.Goals as goal

pub returns : goal.returns
unfolding summary_text
returns c =
    let over : (x : Heading) → count_by (is_counted x) c.seen_in-seen.result ≡ how_many (λ h. is_counted x (seen_of h)) c.args.t.now = λ x. ap (λ (l : List Seen). count_by (is_counted x) l) c.seen_in-seen.ensures ∙ how-many (is_counted x) c.args.t.now in
    line (heading_word Freed) _ _ _ (count_by (is_counted Freed) c.seen_in-seen.result) _ (line (heading_word Logged) _ _ _ (count_by (is_counted Logged) c.seen_in-seen.result) _ (line (heading_word Promoted) _ _ _ (count_by (is_counted Promoted) c.seen_in-seen.result) _ (line (heading_word Open) _ _ _ (count_by (is_counted Open) c.seen_in-seen.result) _ (line (heading_word InDoubt) _ _ _ (count_by (is_counted InDoubt) c.seen_in-seen.result) _ (line (heading_word Aborted) _ _ _ (count_by (is_counted Aborted) c.seen_in-seen.result) _ (line (heading_word Committed) _ _ _ (count_by (is_counted Committed) c.seen_in-seen.result) _ (line (heading_word Transactions) _ _ _ (count_by (is_counted Transactions) c.seen_in-seen.result) _ c.new-text.ensures.items c.in_ok-push_count.ensures (over Transactions)) c.in_ok-push_count-2.ensures (over Committed)) c.in_ok-push_count-3.ensures (over Aborted)) c.in_ok-push_count-4.ensures (over InDoubt)) c.in_ok-push_count-5.ensures (over Open)) c.in_ok-push_count-6.ensures (over Promoted)) c.in_ok-push_count-7.ensures (over Logged)) c.in_ok-push_count-8.ensures (over Freed)
