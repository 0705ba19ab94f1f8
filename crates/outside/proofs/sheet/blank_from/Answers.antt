use Rattle.std.proofs.Common.{◌-◌, arith}
use Rattle.outside.proofs.Sheets.{blank-more}
use Rattle.outside.proofs.sheet.blank_from.Goals as goal

pub loop-end-preserved : goal.loop-end-preserved
loop-end-preserved c =
    record {
      within = omega (arith, c.loop-end.invariant.within);
      blank = blank-more c.args.bytes.now (c.loop-end.end - 512) c.loop-end.end (omega arith) c.loop-end.invariant.within (c.is_blank.ensures c.if-not-is_blank.false) c.loop-end.invariant.blank;
    }
