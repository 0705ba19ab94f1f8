use Rattle.std.proofs.Common.{arith, ◌≡◌, take, length, List, ℕ, ◌++◌, ◌∙◌, drop, sym, ap}
use Rattle.std.specs.Prelude.{Some}
use Rattle.std.proofs.lemmas.Grind.{common_steps}
use Rattle.outside.proofs.Pieces.{read_on, left_after}
use Rattle.outside.proofs.Pieces.{read_all as all_was_read}
use Rattle.program_io.proofs.Transfers.{left_at_end}
use Rattle.program_io.proofs.transfer.read_all.Goals as goal

pub returns-in-Ok-eq0-clause-read : goal.returns-in-Ok-eq0-clause-read
returns-in-Ok-eq0-clause-read g c = λ b told.
    let end = c.in-Ok-eq0.ensures.finished _ (c.loop-piece.invariant.left b told) (c.in-Ok-eq0.field-0-test) in
    all_was_read b c.loop-piece.bytes.items c.args.most (c.loop-piece.invariant.read b told) end (omega arith)

pub returns-in-Ok-eq0-clause-left : goal.returns-in-Ok-eq0-clause-left
returns-in-Ok-eq0-clause-left g c = λ b told.
    let now = c.loop-piece.invariant.left b told in
    let end = c.in-Ok-eq0.ensures.finished _ now (c.in-Ok-eq0.field-0-test) in
    let same = left_at_end b (length c.loop-piece.bytes.items) c.in-Ok-eq0.field-0 c.args.most end (omega arith) in
    c.in-Ok-eq0.ensures.taken _ now ∙ ap Some same

pub returns-clause-read : goal.returns-clause-read
returns-clause-read g c = λ b told.
    let full : length c.loop-piece.bytes.items ≡ c.args.most = grind (arith, common_steps) in
    c.loop-piece.invariant.read b told ∙ ap (λ (n : ℕ). take n b) full

pub returns-clause-left : goal.returns-clause-left
returns-clause-left g c = λ b told.
    let full : length c.loop-piece.bytes.items ≡ c.args.most = grind (arith, common_steps) in
    c.loop-piece.invariant.left b told ∙ ap (λ (n : ℕ). Some (drop n b)) full

pub loop-piece-preserved : goal.loop-piece-preserved
loop-piece-preserved g c =
    let items : c.extend_from_slice.new.self.items ≡ c.loop-piece.bytes.items ++ take c.in-Ok.n c.read.new.into = grind (arith, common_steps) in
    record {
      short = grind (arith, common_steps);
      smooth = c.in-Ok.ensures.smooth ∙ c.loop-piece.invariant.smooth;
      read = λ b told.
          let now = c.loop-piece.invariant.left b told in
          let on = read_on b c.loop-piece.bytes.items (take c.in-Ok.n c.read.new.into) c.in-Ok.n (c.loop-piece.invariant.read b told) (c.in-Ok.ensures.bytes _ now) (c.in-Ok.ensures.within _ now) in
          cc;
      left = λ b told.
          let now = c.loop-piece.invariant.left b told in
          let rest = left_after b c.loop-piece.bytes.items (take c.in-Ok.n c.read.new.into) c.in-Ok.n (c.in-Ok.ensures.bytes _ now) (c.in-Ok.ensures.within _ now) in
          c.in-Ok.ensures.taken _ now ∙ ap Some (rest ∙ ap (λ (l : List ℕ). drop (length l) b) (sym items));
      untold = λ none. c.read.ensures.untold (c.loop-piece.invariant.untold none);
    }
