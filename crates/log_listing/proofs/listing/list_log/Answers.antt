use Rattle.std.proofs.Common.{◌≡◌, ◌++◌, ◌∙◌, ◌-◌, ℕ, List, ap, sym, length}
use Rattle.coordinator_log.specs.Slots.{with_closed}
use Rattle.log_listing.specs.Listing.{count_line}
use Rattle.log_listing.proofs.Pieces.{lines_from, with_closed_count, with_closed_lines}
use Rattle.log_listing.proofs.listing.list_log.Goals as goal

pub returns : goal.returns
returns c =
    let ss = c.args.records.now in
    let lines : c.push_slots.new.text.items ≡ lines_from 0 ss = c.in_ok-push_slots.ensures ∙ ap (λ (x : List ℕ). x ++ lines_from 0 ss) c.new-text.ensures.items in
    c.in_ok-push_count.ensures ∙ ap (λ (x : List ℕ). x ++ count_line c.open_slots.result) (lines ∙ sym (with_closed_lines 0 (1024 - length ss) ss))
    ∙ ap (λ (n : ℕ). lines_from 0 (with_closed 1024 ss) ++ count_line n) (c.open_slots.ensures ∙ sym (with_closed_count (1024 - length ss) ss))
