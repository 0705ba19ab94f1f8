use Rattle.std.proofs.Common.{◌≡◌, ◌++◌, ◌∙◌, ℕ, List, ap, arith, codes, decimal}
use Rattle.std.proofs.lemmas.Grind.{common_steps}
use Rattle.log_listing.specs.Listing.{count_line}
use Rattle.log_listing.proofs.listing.push_count.Goals as goal

pub returns : goal.returns
returns c =
    let line : c.as_slice.result.now ≡ count_line c.args.used =
    c.as_slice.ensures ∙ c.put_number.ensures.text ∙ ap (λ (x : List ℕ). decimal c.args.used ++ x) (c.put.ensures.text ∙ ap (λ (x : List ℕ). codes " of 1024 slots used\n" ++ x) c.new-tail.ensures) in
    rw (← line) (grind (arith, common_steps, c.extend_from_slice.ensures.items))
